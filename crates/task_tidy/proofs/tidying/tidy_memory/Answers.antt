use Rattle.std.proofs.Common.{length, false, true≢false, ◌≡◌, sym, ◌∙◌, arith}
use Rattle.std.proofs.lemmas.Bool.{lt-leb}
use Rattle.std.proofs.lemmas.List.{length-append}
use Rattle.eu_base.specs.declared.address.TheConstants.{CELLS}
use Rattle.eu_base.specs.Room.{cells_fit}
use Rattle.cell_kinds.specs.Kinds.{packet_kinds}
use Rattle.task_tidy.specs.Tidied.{kinds_with}
use Rattle.task_tidy.proofs.tidying.tidy_memory.Goals as goal

pub returns-clause-tidied : goal.returns-clause-tidied
returns-clause-tidied c store h = c.in_ok-forget_unused.ensures.tidied store h

pub returns-then-cells-from-clause-tidied : goal.returns-then-cells-from-clause-tidied
returns-then-cells-from-clause-tidied c store h =
    let ks = kinds_with c.args.packets.now c.args.behind.now in
    let unfit : cells_fit (length ks) ≡ false =
    lt-leb (length ks) CELLS
    (omega (
      arith,
      length-append (packet_kinds c.args.packets.now) c.args.behind.now,
      c.count_cells.ensures,
      c.len.ensures,
      c.saturating_add-cells.ensures,
      c.from.ensures,
      c.if-cells-from.true,
    )) in
    absurd (true≢false (sym h.fits ∙ unfit))
