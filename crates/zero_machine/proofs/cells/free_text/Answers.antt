use Rattle.std.proofs.Common.{[], subst}
use Rattle.eu_base.specs.declared.address.Addr.{Addr}
use Rattle.eu_base.specs.declared.address.Area.TheVariants.{Packets}
use Rattle.eu_base.specs.Cells.{Cells, HasText, Puts}
use Rattle.zero_machine.proofs.FreeingCells.{text_freed}
use Rattle.zero_machine.proofs.cells.free_text.Goals as goal

pub returns-clause-freed : goal.returns-clause-freed
returns-clause-freed g c =
    let before = g.M.Memory.holds c.args.m.now in
    let after = g.M.Memory.holds c.set_text.new.self in
    text_freed before after (g.met.M.Memory.room c.set_text.new.self Packets) (g.met.M.Memory.forgets c.set_text.new.self) c.args.cell c.in_ok-_set._set
    (subst (λ (a : Addr). (cells : Cells) → before cells → HasText (cells a) → Puts after cells a [] c.in_ok-_set._set) c.area_cell.ensures c.in_ok-_set.ensures.puts)
