use Rattle.space_memory.specs.Below.page_table.proofs.Framing.{homes_backed}
use Rattle.std.proofs.Common.{refl}
use Rattle.eu_base.specs.declared.address.Area.TheVariants.{Run, Packets, Space}
use Rattle.space_memory.proofs.Areas.{left, of_run, of_packets, of_space, live_area}
use Rattle.space_memory.proofs.Framed.{stands_now}
use Rattle.space_memory.proofs.Held.{known_still, blocks_left}
use Rattle.space_memory.proofs.lent.LentMemory.rooms.Goals as goal

pub run_rooms-requires-clause-agree : goal.run_rooms-requires-clause-agree
run_rooms-requires-clause-agree g c = stands_now _ _ c.args.self.now.agree

pub invariant_of-self : goal.invariant_of-self
invariant_of-self g c = record {
  agree = (left Run _ _ _ _ (of_run _ _ _ _ c.run_rooms.ensures.rest) c.run_rooms.ensures.frames c.args.self.now.agree).whole;
  backed = homes_backed _ _ (g.met.B.Backing.same_held _ _ c.run_rooms.ensures.follows) c.run_rooms.ensures.frames.homes c.args.self.now.backed;
}

pub returns-in_ok-run_rooms-in-Run-clause-rooms : goal.returns-in_ok-run_rooms-in-Run-clause-rooms
returns-in_ok-run_rooms-in-Run-clause-rooms g c = λ cells h.
    rw c.from.ensures (blocks_left Run c.args.area _ _ _ c.in-Run.is refl c.in_ok-run_rooms-in-Run.ensures.rooms cells h)

pub returns-in_ok-run_rooms-in-Run-clause-kept : goal.returns-in_ok-run_rooms-in-Run-clause-kept
returns-in_ok-run_rooms-in-Run-clause-kept g c = known_still Run _ _ _ _ refl (of_run _ _ _ _ c.run_rooms.ensures.rest).leaves c.in_ok-run_rooms-in-Run.ensures.same

pub returns-in_ok-run_rooms-in-Run-clause-heads : goal.returns-in_ok-run_rooms-in-Run-clause-heads
returns-in_ok-run_rooms-in-Run-clause-heads g c = (of_run _ _ _ _ c.run_rooms.ensures.rest).heads

pub returns-in_ok-run_rooms-in-Run-clause-follows : goal.returns-in_ok-run_rooms-in-Run-clause-follows
returns-in_ok-run_rooms-in-Run-clause-follows g c =
    let l = left Run _ _ _ _ (of_run _ _ _ _ c.run_rooms.ensures.rest) c.run_rooms.ensures.frames c.args.self.now.agree in
    record { memory_name = refl; pool_name = refl; backing_name = refl; run_kind = l.only.run_kind; packets_kind = l.only.packets_kind; frames = l.frames; follows = c.run_rooms.ensures.follows }

pub packet_rooms-requires-clause-agree : goal.packet_rooms-requires-clause-agree
packet_rooms-requires-clause-agree g c = stands_now _ _ c.args.self.now.agree

pub invariant_of-self-in-Packets : goal.invariant_of-self-in-Packets
invariant_of-self-in-Packets g c = record {
  agree = (left Packets _ _ _ _ (of_packets _ _ _ _ c.packet_rooms.ensures.rest) c.packet_rooms.ensures.frames c.args.self.now.agree).whole;
  backed = homes_backed _ _ (g.met.B.Backing.same_held _ _ c.packet_rooms.ensures.follows) c.packet_rooms.ensures.frames.homes c.args.self.now.backed;
}

pub returns-in_ok-packet_rooms-in-Packets-clause-rooms : goal.returns-in_ok-packet_rooms-in-Packets-clause-rooms
returns-in_ok-packet_rooms-in-Packets-clause-rooms g c = λ cells h.
    rw c.from-in-Packets.ensures (blocks_left Packets c.args.area _ _ _ c.in-Packets.is refl c.in_ok-packet_rooms-in-Packets.ensures.rooms cells h)

pub returns-in_ok-packet_rooms-in-Packets-clause-kept : goal.returns-in_ok-packet_rooms-in-Packets-clause-kept
returns-in_ok-packet_rooms-in-Packets-clause-kept g c = known_still Packets _ _ _ _ refl (of_packets _ _ _ _ c.packet_rooms.ensures.rest).leaves c.in_ok-packet_rooms-in-Packets.ensures.same

pub returns-in_ok-packet_rooms-in-Packets-clause-heads : goal.returns-in_ok-packet_rooms-in-Packets-clause-heads
returns-in_ok-packet_rooms-in-Packets-clause-heads g c = (of_packets _ _ _ _ c.packet_rooms.ensures.rest).heads

pub returns-in_ok-packet_rooms-in-Packets-clause-follows : goal.returns-in_ok-packet_rooms-in-Packets-clause-follows
returns-in_ok-packet_rooms-in-Packets-clause-follows g c =
    let l = left Packets _ _ _ _ (of_packets _ _ _ _ c.packet_rooms.ensures.rest) c.packet_rooms.ensures.frames c.args.self.now.agree in
    record { memory_name = refl; pool_name = refl; backing_name = refl; run_kind = l.only.run_kind; packets_kind = l.only.packets_kind; frames = l.frames; follows = c.packet_rooms.ensures.follows }

pub space_rooms-requires-clause-agree : goal.space_rooms-requires-clause-agree
space_rooms-requires-clause-agree g c = stands_now _ _ c.args.self.now.agree

pub space_rooms-requires-clause-live : goal.space_rooms-requires-clause-live
space_rooms-requires-clause-live g c = live_area c.args.self.now.memory.now c.args.area c.in-Space.s c.in-Space.is c.requires.there

pub invariant_of-self-in-Space : goal.invariant_of-self-in-Space
invariant_of-self-in-Space g c = record {
  agree = (left (Space c.in-Space.s) _ _ _ _ (of_space _ _ _ _ c.in-Space.s c.space_rooms.ensures.rest) c.space_rooms.ensures.frames c.args.self.now.agree).whole;
  backed = homes_backed _ _ (g.met.B.Backing.same_held _ _ c.space_rooms.ensures.follows) c.space_rooms.ensures.frames.homes c.args.self.now.backed;
}

pub returns-in_ok-space_rooms-in-Space-clause-rooms : goal.returns-in_ok-space_rooms-in-Space-clause-rooms
returns-in_ok-space_rooms-in-Space-clause-rooms g c = λ cells h.
    rw c.from-in-Space.ensures (blocks_left (Space c.in-Space.s) c.args.area _ _ _ c.in-Space.is (live_area c.args.self.now.memory.now c.args.area c.in-Space.s c.in-Space.is c.requires.there) c.in_ok-space_rooms-in-Space.ensures.rooms cells h)

pub returns-in_ok-space_rooms-in-Space-clause-kept : goal.returns-in_ok-space_rooms-in-Space-clause-kept
returns-in_ok-space_rooms-in-Space-clause-kept g c = known_still (Space c.in-Space.s) _ _ _ _ (live_area c.args.self.now.memory.now c.args.area c.in-Space.s c.in-Space.is c.requires.there) (of_space _ _ _ _ c.in-Space.s c.space_rooms.ensures.rest).leaves c.in_ok-space_rooms-in-Space.ensures.same

pub returns-in_ok-space_rooms-in-Space-clause-heads : goal.returns-in_ok-space_rooms-in-Space-clause-heads
returns-in_ok-space_rooms-in-Space-clause-heads g c = (of_space _ _ _ _ c.in-Space.s c.space_rooms.ensures.rest).heads

pub returns-in_ok-space_rooms-in-Space-clause-follows : goal.returns-in_ok-space_rooms-in-Space-clause-follows
returns-in_ok-space_rooms-in-Space-clause-follows g c =
    let l = left (Space c.in-Space.s) _ _ _ _ (of_space _ _ _ _ c.in-Space.s c.space_rooms.ensures.rest) c.space_rooms.ensures.frames c.args.self.now.agree in
    record { memory_name = refl; pool_name = refl; backing_name = refl; run_kind = l.only.run_kind; packets_kind = l.only.packets_kind; frames = l.frames; follows = c.space_rooms.ensures.follows }

pub returns-in_err-space_rooms-in-Space-clause-heads : goal.returns-in_err-space_rooms-in-Space-clause-heads
returns-in_err-space_rooms-in-Space-clause-heads g c = (of_space _ _ _ _ c.in-Space.s c.space_rooms.ensures.rest).heads
