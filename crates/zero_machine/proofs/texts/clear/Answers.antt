use Rattle.std.proofs.Common.{[], subst}
use Rattle.eu_base.specs.declared.address.Area.TheVariants.{Run}
use Rattle.eu_base.specs.Cells.{Cells, HasText, Puts}
use Rattle.zero_machine.proofs.Contents.{clear_so}
use Rattle.zero_machine.proofs.texts.clear.Goals as goal

pub returns-clause-cleared : goal.returns-clause-cleared
returns-clause-cleared g c =
    let before = g.M.Memory.holds c.args.m.now in
    let after = g.M.Memory.holds c.set_text.new.self in
    clear_so before after (g.met.M.Memory.room c.set_text.new.self Run) c.args.cell c.in_ok-_set._set
    (subst (λ a. (cells : Cells) → before cells → HasText (cells a) → Puts after cells a [] c.in_ok-_set._set) c.run_cell.ensures c.in_ok-_set.ensures.puts)
