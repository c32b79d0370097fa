use Rattle.std.proofs.Common.{◌<◌, sym, subst, arith}
use Rattle.eu_base.specs.Cells.{run_cell}
use Rattle.code_form.specs.Program.{HoldsValue}
use Rattle.zero_machine.specs.Frames.{HoldsText}
use Rattle.zero_machine.proofs.Freeing.{first_told, kind_told}
use Rattle.zero_machine.proofs.release.free_kind.Goals as goal

pub returns-clause-freed : goal.returns-clause-freed
returns-clause-freed g c from cells rest low h told =
    let lt : c.args.at < c.args.until = omega (arith, c.requires.within, c.if-at-until.false) in
    c.in_ok-free_cell.ensures.freed from cells low h
    (subst (λ b. HoldsText b (cells (run_cell c.args.at))) (sym c.is_text.ensures)
    (kind_told c.args.kind (cells (run_cell c.args.at)) (first_told (HoldsValue c.args.kind) rest c.args.at c.args.until cells lt told)))
