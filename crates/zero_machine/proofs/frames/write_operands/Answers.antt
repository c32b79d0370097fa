use Rattle.std.proofs.Common.{length, subst, arith, ◌∙◌}
use Rattle.eu_base.specs.declared.address.TheConstants.{CELLS}
use Rattle.code_form.specs.Machine.{held_cells, written_from}
use Rattle.zero_machine.proofs.Framing.{PutsFree, fits_here, next_cell, free_there, operand_done, operands_full, all_taken}
use Rattle.zero_machine.proofs.frames.write_operands.Goals as goal

pub write_operand-requires : goal.write_operand-requires
write_operand-requires g c =
    fits_here c.args.at c.loop-index.index c.args.operands.now c.index-operands-index.result c.index-operands-index.result c.loop-index-test.true
    c.index-operands-index.is c.loop-index.cell CELLS c.loop-index.invariant.cell c.requires

pub clear_operands-requires : goal.clear_operands-requires
clear_operands-requires g c =
    let low =
    fits_here c.args.at c.loop-index.index c.args.operands.now c.index-operands-index.result c.index-operands-index.result c.loop-index-test.true
    c.index-operands-index.is c.loop-index.cell CELLS c.loop-index.invariant.cell c.requires in
    omega (arith, low, c.loop-index.invariant.cell)

pub overflow_add-cell : goal.overflow_add-cell
overflow_add-cell g c =
    let low =
    fits_here c.args.at c.loop-index.index c.args.operands.now c.index-operands-index.result c.index-operands-index.result c.loop-index-test.true
    c.index-operands-index.is c.loop-index.cell CELLS c.loop-index.invariant.cell c.requires in
    omega (arith, low, c.cells_of-cell.ensures)

pub loop-index-preserved : goal.loop-index-preserved
loop-index-preserved g c =
    let os = c.args.operands.now in
    let i = c.loop-index.index in
    let o = c.index-operands-index.result in
    let lt = c.loop-index-test.true in
    let is = c.index-operands-index.is in
    let here = c.loop-index.invariant.cell in
    let next = next_cell c.args.at i os o o lt is c.loop-index.cell here in
    record {
      cell = omega (arith, next, c.cells_of-cell.ensures);
      written = λ cells h free.
          operand_done c.args.at i os o o lt is (g.M.Memory.holds c.write_operand.new.m) c.loop-index.cell cells here
          (subst (PutsFree (g.M.Memory.holds c.loop-index.m) (g.M.Memory.holds c.write_operand.new.m) c.loop-index.cell (length (held_cells o)) (held_cells o))
          c.in_default.is c.in_ok-write_operand.ensures.puts _ (c.loop-index.invariant.written cells h free)
          (free_there c.args.at i os o o lt is c.loop-index.cell cells here free));
      heads = c.write_operand.ensures.heads ∙ c.loop-index.invariant.heads;
      later = omega (arith, c.loop-index.invariant.later, c.write_operand.ensures.cause.later);
      follows = g.met.M.Memory.transitive _ _ _ c.loop-index.invariant.follows c.write_operand.ensures.follows;
    }

pub returns-in-HeapFull-clause-puts : goal.returns-in-HeapFull-clause-puts
returns-in-HeapFull-clause-puts g c = λ cells h free.
    let os = c.args.operands.now in
    let i = c.loop-index.index in
    let o = c.index-operands-index.result in
    let lt = c.loop-index-test.true in
    let is = c.index-operands-index.is in
    let here = c.loop-index.invariant.cell in
    operands_full c.args.at i os o o lt is (g.M.Memory.holds c.write_operand.new.m) (g.M.Memory.holds c.clear_operands.new.m)
    (g.met.M.Memory.forgets c.clear_operands.new.m) c.loop-index.cell cells here free c.in_ok-clear_operands.ensures.cleared
    (subst (PutsFree (g.M.Memory.holds c.loop-index.m) (g.M.Memory.holds c.write_operand.new.m) c.loop-index.cell (length (held_cells o)) (held_cells o))
    c.in-HeapFull.is c.in_ok-write_operand.ensures.puts _ (c.loop-index.invariant.written cells h free)
    (free_there c.args.at i os o o lt is c.loop-index.cell cells here free))

pub returns-clause-puts : goal.returns-clause-puts
returns-clause-puts g c = λ cells h free.
    subst (λ l. g.M.Memory.holds c.loop-index.m (written_from c.args.at l cells)) (all_taken c.loop-index.index c.args.operands.now c.loop-index-test.false)
    (c.loop-index.invariant.written cells h free)
