use Rattle.std.proofs.Common.{sym, ◌∙◌, arith}
use Rattle.zero_machine.proofs.Denoting.{no_cell_more, this_cell}
use Rattle.zero_machine.proofs.denoted.cells_denote.Goals as goal

pub returns-then-branch-clause-denote : goal.returns-then-branch-clause-denote
returns-then-branch-clause-denote g c cells h each =
    sym (this_cell c.args.space.0 c.args.at c.loop-index.index c.args.kinds.now c.loop-index-test.true cells c.in_ok-cell_denotes.field-0
    (c.in_ok-cell_denotes.ensures.denotes cells (c.loop-index.invariant.kept cells h)) each c.if-branch.true)

pub loop-index-preserved : goal.loop-index-preserved
loop-index-preserved g c = record {
  denote = λ cells h each.
      no_cell_more c.args.space.0 c.args.at c.loop-index.index c.args.kinds.now c.loop-index-test.true cells c.in_ok-cell_denotes.field-0
      (c.in_ok-cell_denotes.ensures.denotes cells (c.loop-index.invariant.kept cells h)) each c.if-branch.false
      (c.loop-index.invariant.denote cells h each);
  kept = λ cells h. c.in_ok-cell_denotes.ensures.kept cells (c.loop-index.invariant.kept cells h);
  heads = c.cell_denotes.ensures.heads ∙ c.loop-index.invariant.heads;
  later = omega (arith, c.loop-index.invariant.later, c.cell_denotes.ensures.cause.later);
  follows = g.met.M.Memory.transitive _ _ _ c.loop-index.invariant.follows c.cell_denotes.ensures.follows;
}
