use Rattle.std.proofs.Common.{◌≡◌, ◌+◌, length, ap, ◌∙◌, subst, arith, refl}
use Rattle.std.specs.Prelude.{flat_map}
use Rattle.eu_base.specs.declared.address.TheConstants.{CELLS}
use Rattle.eu_base.specs.Cells.{freed}
use Rattle.code_form.specs.Machine.{held_cells}
use Rattle.zero_machine.proofs.Freeing.{freed_none}
use Rattle.zero_machine.proofs.Framing.{fits_here, next_cell, stand_there, all_taken}
use Rattle.zero_machine.proofs.texts.clear_operands.Goals as goal

pub clear_operand-requires : goal.clear_operand-requires
clear_operand-requires g c =
    fits_here c.args.at c.loop-operand.operand-index c.args.operands.now c.operand-item.result c.operand-item.result c.loop-operand-test.true c.operand-item.is
    c.loop-operand.cell CELLS c.loop-operand.invariant.cell c.requires

pub overflow_add-cell : goal.overflow_add-cell
overflow_add-cell g c =
    let low =
    fits_here c.args.at c.loop-operand.operand-index c.args.operands.now c.operand-item.result c.operand-item.result c.loop-operand-test.true c.operand-item.is
    c.loop-operand.cell CELLS c.loop-operand.invariant.cell c.requires in
    omega (arith, low, c.cells_of-cell.ensures)

pub loop-operand-init : goal.loop-operand-init
loop-operand-init g c = record {
  cell = omega arith;
  freed = λ cells h stand. freed_none (g.M.Memory.holds c.args.m.now) (g.met.M.Memory.forgets c.args.m.now) c.args.at cells h;
  heads = refl;
  later = omega arith;
  follows = g.met.M.Memory.reflexive _;
}

pub loop-operand-preserved : goal.loop-operand-preserved
loop-operand-preserved g c =
    let os = c.args.operands.now in
    let i = c.loop-operand.operand-index in
    let o = c.operand-item.result in
    let lt = c.loop-operand-test.true in
    let here = c.loop-operand.invariant.cell in
    let next = next_cell c.args.at i os o o lt c.operand-item.is c.loop-operand.cell here in
    record {
      cell = omega (arith, next, c.cells_of-cell.ensures);
      freed = λ cells h stand.
          let to : c.loop-operand.cell + length (held_cells o) ≡ c.loop-operand.cell + c.cells_of-cell.result = omega (arith, c.cells_of-cell.ensures) in
          subst (λ n. g.M.Memory.holds c.clear_operand.new.m (freed c.args.at n cells)) to
          (c.in_ok-clear_operand.ensures.cleared c.args.at cells (omega (arith, here)) (c.loop-operand.invariant.freed cells h stand)
          (stand_there c.args.at i os o o lt c.operand-item.is c.loop-operand.cell cells here stand));
      heads = c.clear_operand.ensures.heads ∙ c.loop-operand.invariant.heads;
      later = omega (arith, c.loop-operand.invariant.later, c.clear_operand.ensures.cause.later);
      follows = g.met.M.Memory.transitive _ _ _ c.loop-operand.invariant.follows c.clear_operand.ensures.follows;
    }

pub returns-clause-cleared : goal.returns-clause-cleared
returns-clause-cleared g c = λ cells h stand.
    let all = all_taken c.loop-operand.operand-index c.args.operands.now c.loop-operand-test.false in
    let e : c.loop-operand.cell ≡ c.args.at + length (flat_map held_cells c.args.operands.now) =
    c.loop-operand.invariant.cell ∙ ap (λ l. c.args.at + length l) all in
    subst (λ n. g.M.Memory.holds c.loop-operand.m (freed c.args.at n cells)) e (c.loop-operand.invariant.freed cells h stand)
