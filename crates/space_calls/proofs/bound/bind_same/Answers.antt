use Rattle.std.proofs.Common.{subst}
use Rattle.eu_base.specs.Cells.{Word, written}
use Rattle.space_calls.proofs.Binding.{same_so}
use Rattle.space_calls.proofs.bound.bind_same.Goals as goal

pub returns-clause-goes : goal.returns-clause-goes
returns-clause-goes g c =
    let holds = g.M.Memory.holds in
    let heads = g.M.Memory.heads in
    let a = c.args.at in
    same_so (holds c.args.m.now) (holds c.set_cell.new.self) (heads c.args.m.now) (heads c.set_cell.new.self) a c.args._shape.now c.args.s c.requires.there
    c.requires.room c.requires.live c.requires.same c.in_ok-set_cell.ensures.heads
    (λ cells h free.
    subst (λ k. holds c.set_cell.new.self (written cells a (Word k))) c.cell.ensures (c.in_ok-set_cell.ensures.written cells h free))
