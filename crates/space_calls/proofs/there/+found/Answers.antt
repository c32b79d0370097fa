use Rattle.std.proofs.Common.{arith, sym, ◌∙◌, ap, ◌-◌, ◌*◌}
use Rattle.std.specs.Prelude.{Err}
use Rattle.eu_base.specs.Shapes.{cell_kinds}
use Rattle.space_calls.proofs.Found.{parts_found, parts_go_on, row_first, nearer, row_none, row_within, row_past}
use Rattle.space_calls.proofs.there.+found.Goals as goal

pub found_in_parts-returns-in-Ok : goal.found_in_parts-returns-in-Ok
found_in_parts-returns-in-Ok t c =
    parts_found c.args.parts.now c.loop-part.part-index c.part-item.result c.part-item.result c.loop-part-test.true c.part-item.is c.args.place
    c.loop-part.left c.loop-part.invariant c.in-Ok.kind c.in-Ok.ensures

pub found_in_parts-loop-part-preserved : goal.found_in_parts-loop-part-preserved
found_in_parts-loop-part-preserved t c =
    parts_go_on c.args.parts.now c.loop-part.part-index c.part-item.result c.part-item.result c.loop-part-test.true c.part-item.is c.args.place
    c.loop-part.left c.loop-part.invariant ∙ sym c.in-Err.ensures

pub found_in_row-returns-in-Ok : goal.found_in_row-returns-in-Ok
found_in_row-returns-in-Ok t c =
    sym (row_first c.args.count (cell_kinds c.args.of.now) c.args.place c.in-Ok.kind (omega (arith, c.if-count-eq0.false)) (sym c.in-Ok.ensures))

pub found_in_row-overflow_sub-cells : goal.found_in_row-overflow_sub-cells
found_in_row-overflow_sub-cells t c = nearer c.args.count (cell_kinds c.args.of.now) c.args.place c.in-Err.behind (sym c.in-Err.ensures)

pub found_in_row-returns-then-cells-eq0 : goal.found_in_row-returns-then-cells-eq0
found_in_row-returns-then-cells-eq0 t c =
    sym (row_none c.args.count (cell_kinds c.args.of.now) c.args.place c.in-Err.behind (sym c.in-Err.ensures) (omega (arith, c.if-cells-eq0.true)))

pub found_in_row-returns-then-place-cells : goal.found_in_row-returns-then-place-cells
found_in_row-returns-then-place-cells t c =
    c.found-then-place-cells.ensures
    ∙ sym (row_within c.args.count (cell_kinds c.args.of.now) c.args.place c.in-Err.behind (sym c.in-Err.ensures) (omega (arith, c.if-cells-eq0.false))
    (omega (arith, c.if-place-cells.true, c.from.ensures)))

pub found_in_row-returns : goal.found_in_row-returns
found_in_row-returns t c =
    let past =
    row_past c.args.count (cell_kinds c.args.of.now) c.args.place c.in-Err.behind (sym c.in-Err.ensures)
    (omega (arith, c.if-place-cells.false, c.from.ensures)) in
    sym (past ∙ ap (λ n. Err (c.args.place - n * (c.args.place - c.in-Err.behind))) (sym c.from-2.ensures))
