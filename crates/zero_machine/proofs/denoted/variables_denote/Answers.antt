use Rattle.std.proofs.Common.{sym, arith}
use Rattle.cell_kinds.specs.Kinds.{all_kinds, packet_kinds}
use Rattle.zero_machine.proofs.Denoting.{in_front, in_both}
use Rattle.zero_machine.proofs.denoted.variables_denote.Goals as goal

pub returns-then-branch-clause-denote : goal.returns-then-branch-clause-denote
returns-then-branch-clause-denote g c cells h each =
    sym (in_front c.args.space.0 (packet_kinds c.args.packets.now) (all_kinds c.args.behind.now) cells each c.in_ok-packets_denote.field-0
    (c.in_ok-packets_denote.ensures.denote cells h) c.if-branch.true)

pub returns-clause-denote : goal.returns-clause-denote
returns-clause-denote g c cells h each =
    in_both c.args.space.0 (packet_kinds c.args.packets.now) (all_kinds c.args.behind.now) cells each c.in_ok-packets_denote.field-0 c.in_ok-found.found
    c.count_cells.result (c.in_ok-packets_denote.ensures.denote cells h) c.if-branch.false (omega (arith, c.count_cells.ensures, c.requires))
    (c.in_ok-found.ensures.denote cells (c.in_ok-packets_denote.ensures.kept cells h))
