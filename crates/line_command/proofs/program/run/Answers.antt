use Rattle.std.proofs.Common.{sym, ◌∙◌, subst}
use Rattle.eu_base.specs.DataSpaces.{Heads, no_spaces}
use Rattle.elan_types.specs.Command.{blanks, start_kinds}
use Rattle.line_command.specs.Below.place_gen.specs.Correct.{HasSlots}
use Rattle.line_command.specs.Below.zero_state.specs.Stepping.{mem_of}
use Rattle.line_command.proofs.Begun.{begun, has_begun, holds_begun}
use Rattle.line_command.proofs.program.run.Goals as goal

pub returns-clause-shows : goal.returns-clause-shows
returns-clause-shows g c core alone behaves =
    let p = c.args.code.now in
    let heads = c.start.ensures.heads ∙ c.requires.spaces in
    c.serve.ensures.shows core (begun p).cells
    (holds_begun p (g.M.Memory.holds c.args.memory.now) (g.M.Memory.holds c.start.new.m) c.requires.nothing c.in_ok-command.ensures.made) behaves
    (subst (λ (heads : Heads). HasSlots p (blanks (start_kinds core)) (blanks core.inserted) no_spaces (mem_of heads (begun p).cells)) (sym heads)
    (has_begun core p behaves alone))
