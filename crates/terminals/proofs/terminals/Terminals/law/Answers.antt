-- All channels were seen.
use Rattle.std.proofs.Common.{length, All, sym, ap, subst, ◌∙◌, arith}
use Rattle.std.proofs.lemmas.List.{take_all}
use Rattle.terminals.specs.Couplings.{IsOneToOne}
use Rattle.terminals.specs.Rows.{HasRoom}
use Rattle.terminals.proofs.terminals.Terminals.law.Goals as goal

pub returns-clause-channels : goal.returns-clause-channels
returns-clause-channels c =
    let four = c.all-channels.ensures.four in
    let seen = c.loop-channel-test.false in record {
      four = ap length (sym c.all-channels.ensures.all) ∙ four;
      one = subst IsOneToOne c.all-channels.ensures.all c.all-channels.ensures.one;
      rooms = subst (λ cs. All HasRoom cs) (take_all c.loop-channel.channel-index c.all-channels.result.now (omega (arith, four, seen)) ∙ c.all-channels.ensures.all)
          c.loop-channel.invariant;
    }
