use Rattle.std.proofs.Common.{◌≡◌, ◌+◌, suc, subst, arith}
use Rattle.eu_base.specs.Cells.{run_cell, freed}
use Rattle.zero_machine.specs.Frames.{HoldsText}
use Rattle.zero_machine.proofs.Freeing.{text_freed, next_number}
use Rattle.zero_machine.proofs.texts.free_cell.Goals as goal

pub returns-then-holds_text-clause-freed : goal.returns-then-holds_text-clause-freed
returns-then-holds_text-clause-freed g c =
    text_freed c.clear.result (g.M.Memory.holds c.args.m.now) (g.M.Memory.holds c.clear.new.m) (g.met.M.Memory.forgets c.clear.new.m) c.args.cell
    c.args.holds_text c.if-holds_text.true c.clear.ensures.cleared

pub returns-else-holds_text-clause-freed : goal.returns-else-holds_text-clause-freed
returns-else-holds_text-clause-freed g c = λ from cells low h holds.
    let next : suc c.args.cell ≡ c.args.cell + 1 = omega arith in
    subst (λ n. g.M.Memory.holds c.args.m.now (freed from n cells)) next
    (next_number (g.M.Memory.holds c.args.m.now) (g.met.M.Memory.forgets c.args.m.now) from c.args.cell low cells h
    (subst (λ b. HoldsText b (cells (run_cell c.args.cell))) c.if-holds_text.false holds))
