use Rattle.std.proofs.Common.{◌≡◌, ◌+◌, length, map, subst, arith}
use Rattle.std.specs.Prelude.{flat_map}
use Rattle.eu_base.specs.Values.{blank_of}
use Rattle.eu_base.specs.declared.address.Area.TheVariants.{Run}
use Rattle.eu_base.specs.Cells.{Cells, held_of, AreBare}
use Rattle.cell_kinds.specs.Kinds.{all_kinds}
use Rattle.code_form.specs.Machine.{held_cells, written_from}
use Rattle.zero_machine.proofs.Framing.{PutsFree, frame_done, frame_full}
use Rattle.zero_machine.proofs.frames.write_frame.Goals as goal

pub returns-in_ok-write_variables-in-Done-clause-puts : goal.returns-in_ok-write_variables-in-Done-clause-puts
returns-in_ok-write_variables-in-Done-clause-puts g c =
    let linked = g.M.Memory.holds c.write_link.new.m in
    let written = g.M.Memory.holds c.write_operands.new.m in
    let many : c.cells_of_all.result ≡ length (flat_map held_cells c.args.operands.now) = omega (arith, c.cells_of_all.ensures, c.requires) in
    frame_done (g.M.Memory.holds c.args.m.now) linked written c.args.at c.args.operands.now (all_kinds c.args.variables.now) c.in_ok-write_link.ensures.written
    (g.M.Memory.holds c.write_variables.new.m)
    (subst (PutsFree linked written (c.args.at + 2) (length (flat_map held_cells c.args.operands.now)) (flat_map held_cells c.args.operands.now)) c.in-Done.is
    c.in_ok-write_operands.ensures.puts)
    (subst (λ n. (cells : Cells) → written cells → AreBare Run (c.args.at + 2 + n) (length (all_kinds c.args.variables.now)) cells
    → g.M.Memory.holds c.write_variables.new.m (written_from (c.args.at + 2 + n) (map (λ k. held_of (blank_of k)) (all_kinds c.args.variables.now)) cells)) many
    c.in_ok-write_variables-in-Done.ensures.written)

pub returns-in-HeapFull-clause-puts : goal.returns-in-HeapFull-clause-puts
returns-in-HeapFull-clause-puts g c =
    let linked = g.M.Memory.holds c.write_link.new.m in
    let written = g.M.Memory.holds c.write_operands.new.m in
    frame_full (g.M.Memory.holds c.args.m.now) linked written c.args.at c.args.operands.now (all_kinds c.args.variables.now) c.in_ok-write_link.ensures.written
    (g.met.M.Memory.forgets c.write_operands.new.m)
    (subst (PutsFree linked written (c.args.at + 2) (length (flat_map held_cells c.args.operands.now)) (flat_map held_cells c.args.operands.now)) c.in-HeapFull.is
    c.in_ok-write_operands.ensures.puts)
