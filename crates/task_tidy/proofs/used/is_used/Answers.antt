use Rattle.std.proofs.Common.{◌≤◌, length, arith, sym, subst}
use Rattle.eu_base.specs.DataSpaces.{Heads}
use Rattle.task_tidy.specs.Below.zero_state.specs.Stepping.{mem_of}
use Rattle.task_tidy.specs.Below.place_gen.specs.Correct.{HasSpaces}
use Rattle.std.proofs.lemmas.List.{length-append}
use Rattle.cell_kinds.specs.Kinds.{packet_kinds}
use Rattle.task_tidy.specs.Tidied.{kinds_with}
use Rattle.eu_base.specs.declared.address.TheConstants.{CELLS}
use Rattle.task_tidy.proofs.Denoted.{by_variable}
use Rattle.task_tidy.proofs.used.is_used.Goals as goal

pub returns-clause-used : goal.returns-clause-used
returns-clause-used c store h low =
    let ks = kinds_with c.args.packets.now c.args.behind.now in
    let fits : length ks ≤ CELLS = omega (arith, c.requires.cells, length-append (packet_kinds c.args.packets.now) c.args.behind.now) in
    by_variable ks c.args.pool.now c.args.memory.now store h fits c.args.space.0 c.in_ok-is_named.field-0 c.in_ok-denoted.denoted low c.in_ok-is_named.ensures
    c.if-branch.false (c.in_ok-denoted.ensures.denoted h.cells h.holds)

pub returns-clause-keeps : goal.returns-clause-keeps
returns-clause-keeps c store h = record {
  fits = h.fits;
  cells = h.cells;
  holds = c.in_ok-denoted.ensures.kept h.cells h.holds;
  packets = h.packets;
  spaces = subst (λ (heads : Heads). HasSpaces store.spaces (mem_of heads h.cells)) (sym c.in_ok-denoted.ensures.heads) h.spaces;
  command = h.command;
}
