use Rattle.std.proofs.Common.{sym, ap, ◌∙◌}
use Rattle.eu_base.specs.Shapes.{cell_kinds}
use Rattle.space_calls.specs.Kinds.{found_in}
use Rattle.space_calls.proofs.Found.{too_many, so_many}
use Rattle.space_calls.proofs.there.has_room.Goals as goal

pub returns-in-Ok : goal.returns-in-Ok
returns-in-Ok c =
    too_many (cell_kinds c.args.shape.now) c.args.from c.in-Ok.field-0
    (sym c.in-Ok.is ∙ c.found.ensures ∙ ap (found_in (cell_kinds c.args.shape.now)) c.from.ensures)

pub returns-in-Err : goal.returns-in-Err
returns-in-Err c =
    so_many (cell_kinds c.args.shape.now) c.args.from c.from-in-Err.result c.in-Err.left c.from-in-Err.ensures
    (sym c.in-Err.is ∙ c.found.ensures ∙ ap (found_in (cell_kinds c.args.shape.now)) c.from.ensures)
