use Rattle.std.proofs.Common.{length, sym, ap, ◌∙◌, arith}
use Rattle.eu_base.specs.declared.address.TheConstants.{CELLS}
use Rattle.zero_machine.proofs.Denoting.{packet_behind, packet_fits, no_packet_more, this_packet}
use Rattle.zero_machine.proofs.denoted.packets_denote.Goals as goal

pub shapes_denote-requires : goal.shapes_denote-requires
shapes_denote-requires g c =
    let p = c.packet-item.result in
    let fits =
    packet_fits c.loop-packet.packet-index c.loop-packet.cell c.args.packets.now p p c.loop-packet-test.true c.packet-item.is c.loop-packet.invariant.cell
    CELLS c.requires in
    let many = ap length c.shapes.ensures in
    omega (arith, fits, many)

pub returns-then-branch-clause-denote : goal.returns-then-branch-clause-denote
returns-then-branch-clause-denote g c cells h each =
    let p = c.packet-item.result in
    sym (this_packet c.loop-packet.packet-index c.loop-packet.cell c.args.packets.now p p c.loop-packet-test.true c.packet-item.is
    c.loop-packet.invariant.cell c.args.space.0 _ c.shapes.ensures cells c.in_ok-shapes_denote.field-0
    (c.in_ok-shapes_denote.ensures.denote cells (c.loop-packet.invariant.kept cells h)) each c.if-branch.true)

pub overflow_add-cell : goal.overflow_add-cell
overflow_add-cell g c =
    let p = c.packet-item.result in
    let fits =
    packet_fits c.loop-packet.packet-index c.loop-packet.cell c.args.packets.now p p c.loop-packet-test.true c.packet-item.is c.loop-packet.invariant.cell
    CELLS c.requires in
    omega (arith, fits, c.len-cell.ensures)

pub loop-packet-preserved : goal.loop-packet-preserved
loop-packet-preserved g c =
    let p = c.packet-item.result in
    let behind =
    packet_behind c.loop-packet.packet-index c.loop-packet.cell c.args.packets.now p p c.loop-packet-test.true c.packet-item.is
    c.loop-packet.invariant.cell in
    record {
      cell = omega (arith, behind, c.len-cell.ensures);
      denote = λ cells h each.
          no_packet_more c.loop-packet.packet-index c.loop-packet.cell c.args.packets.now p p c.loop-packet-test.true c.packet-item.is
          c.loop-packet.invariant.cell c.args.space.0 _ c.shapes.ensures cells c.in_ok-shapes_denote.field-0
          (c.in_ok-shapes_denote.ensures.denote cells (c.loop-packet.invariant.kept cells h)) each c.if-branch.false
          (c.loop-packet.invariant.denote cells h each);
      kept = λ cells h. c.in_ok-shapes_denote.ensures.kept cells (c.loop-packet.invariant.kept cells h);
      heads = c.shapes_denote.ensures.heads ∙ c.loop-packet.invariant.heads;
      later = omega (arith, c.loop-packet.invariant.later, c.shapes_denote.ensures.cause.later);
      follows = g.met.M.Memory.transitive _ _ _ c.loop-packet.invariant.follows c.shapes_denote.ensures.follows;
    }
