use Rattle.std.proofs.Common.{◌≡◌, sym, ◌∙◌, true, false, nat_eq}
use Rattle.named_texts.proofs.Looking.{found_there, not_there}
use Rattle.named_texts.proofs.look.space_under.Goals as goal

pub returns-then-eq : goal.returns-then-eq
returns-then-eq c =
    let same : nat_eq c.args.s.0 c.in-Some.number.0 ≡ true = sym c.eq.ensures ∙ c.if-eq.true in
    sym (found_there c.args.s.0 c.args.memory.now.spaces c.loop-k.k (c.in-Some.number.0, c.in-Some.space.now) (sym c.in-Some.ensures) c.loop-k.invariant same)

pub loop-k-preserved : goal.loop-k-preserved
loop-k-preserved c =
    let other : nat_eq c.args.s.0 c.in-Some.number.0 ≡ false = sym c.eq.ensures ∙ c.if-eq.false in
    not_there c.args.s.0 c.args.memory.now.spaces c.loop-k.k (c.in-Some.number.0, c.in-Some.space.now) (sym c.in-Some.ensures) c.loop-k.invariant other
