use Rattle.space_memory.specs.Below.page_table.proofs.Framing.{homes_backed}
use Rattle.std.proofs.Common.{refl}
use Rattle.eu_base.specs.declared.address.Area.TheVariants.{Run, Packets, Space}
use Rattle.space_memory.proofs.Areas.{left, of_run, of_packets, of_space, live_area}
use Rattle.space_memory.proofs.Framed.{stands_now}
use Rattle.space_memory.proofs.Held.{text_put}
use Rattle.space_memory.proofs.lent.LentMemory.set_text.Goals as goal

pub set_run_text-requires-clause-agree : goal.set_run_text-requires-clause-agree
set_run_text-requires-clause-agree g c = stands_now _ _ c.args.self.now.agree

pub invariant_of-self : goal.invariant_of-self
invariant_of-self g c = record {
  agree = (left Run _ _ _ _ (of_run _ _ _ _ c.set_run_text.ensures.rest) c.set_run_text.ensures.frames c.args.self.now.agree).whole;
  backed = homes_backed _ _ (g.met.B.Backing.same_held _ _ c.set_run_text.ensures.follows) c.set_run_text.ensures.frames.homes c.args.self.now.backed;
}

pub returns-in-Run-clause-puts : goal.returns-in-Run-clause-puts
returns-in-Run-clause-puts g c =
    text_put Run _ _ _ _ refl (of_run _ _ _ _ c.set_run_text.ensures.rest).leaves c.args.at c.in-Run.is c.requires.cell _ c.args.t.now c.set_run_text.ensures.sets c.set_run_text.ensures.cells

pub returns-in-Run-clause-heads : goal.returns-in-Run-clause-heads
returns-in-Run-clause-heads g c = (of_run _ _ _ _ c.set_run_text.ensures.rest).heads

pub returns-in-Run-clause-follows : goal.returns-in-Run-clause-follows
returns-in-Run-clause-follows g c =
    let l = left Run _ _ _ _ (of_run _ _ _ _ c.set_run_text.ensures.rest) c.set_run_text.ensures.frames c.args.self.now.agree in
    record { memory_name = refl; pool_name = refl; backing_name = refl; run_kind = l.only.run_kind; packets_kind = l.only.packets_kind; frames = l.frames; follows = c.set_run_text.ensures.follows }

pub set_packet_text-requires-clause-agree : goal.set_packet_text-requires-clause-agree
set_packet_text-requires-clause-agree g c = stands_now _ _ c.args.self.now.agree

pub invariant_of-self-in-Packets : goal.invariant_of-self-in-Packets
invariant_of-self-in-Packets g c = record {
  agree = (left Packets _ _ _ _ (of_packets _ _ _ _ c.set_packet_text.ensures.rest) c.set_packet_text.ensures.frames c.args.self.now.agree).whole;
  backed = homes_backed _ _ (g.met.B.Backing.same_held _ _ c.set_packet_text.ensures.follows) c.set_packet_text.ensures.frames.homes c.args.self.now.backed;
}

pub returns-in-Packets-clause-puts : goal.returns-in-Packets-clause-puts
returns-in-Packets-clause-puts g c =
    text_put Packets _ _ _ _ refl (of_packets _ _ _ _ c.set_packet_text.ensures.rest).leaves c.args.at c.in-Packets.is c.requires.cell _ c.args.t.now c.set_packet_text.ensures.sets c.set_packet_text.ensures.cells

pub returns-in-Packets-clause-heads : goal.returns-in-Packets-clause-heads
returns-in-Packets-clause-heads g c = (of_packets _ _ _ _ c.set_packet_text.ensures.rest).heads

pub returns-in-Packets-clause-follows : goal.returns-in-Packets-clause-follows
returns-in-Packets-clause-follows g c =
    let l = left Packets _ _ _ _ (of_packets _ _ _ _ c.set_packet_text.ensures.rest) c.set_packet_text.ensures.frames c.args.self.now.agree in
    record { memory_name = refl; pool_name = refl; backing_name = refl; run_kind = l.only.run_kind; packets_kind = l.only.packets_kind; frames = l.frames; follows = c.set_packet_text.ensures.follows }

pub set_space_text-requires-clause-agree : goal.set_space_text-requires-clause-agree
set_space_text-requires-clause-agree g c = stands_now _ _ c.args.self.now.agree

pub set_space_text-requires-clause-live : goal.set_space_text-requires-clause-live
set_space_text-requires-clause-live g c = live_area c.args.self.now.memory.now c.args.at.area c.in-Space.s c.in-Space.is c.requires.there

pub invariant_of-self-in-Space : goal.invariant_of-self-in-Space
invariant_of-self-in-Space g c = record {
  agree = (left (Space c.in-Space.s) _ _ _ _ (of_space _ _ _ _ c.in-Space.s c.set_space_text.ensures.rest) c.set_space_text.ensures.frames c.args.self.now.agree).whole;
  backed = homes_backed _ _ (g.met.B.Backing.same_held _ _ c.set_space_text.ensures.follows) c.set_space_text.ensures.frames.homes c.args.self.now.backed;
}

pub returns-in-Space-clause-puts : goal.returns-in-Space-clause-puts
returns-in-Space-clause-puts g c =
    text_put (Space c.in-Space.s) _ _ _ _ (live_area c.args.self.now.memory.now c.args.at.area c.in-Space.s c.in-Space.is c.requires.there) (of_space _ _ _ _ c.in-Space.s c.set_space_text.ensures.rest).leaves c.args.at c.in-Space.is c.requires.cell _ c.args.t.now c.set_space_text.ensures.sets c.set_space_text.ensures.cells

pub returns-in-Space-clause-heads : goal.returns-in-Space-clause-heads
returns-in-Space-clause-heads g c = (of_space _ _ _ _ c.in-Space.s c.set_space_text.ensures.rest).heads

pub returns-in-Space-clause-follows : goal.returns-in-Space-clause-follows
returns-in-Space-clause-follows g c =
    let l = left (Space c.in-Space.s) _ _ _ _ (of_space _ _ _ _ c.in-Space.s c.set_space_text.ensures.rest) c.set_space_text.ensures.frames c.args.self.now.agree in
    record { memory_name = refl; pool_name = refl; backing_name = refl; run_kind = l.only.run_kind; packets_kind = l.only.packets_kind; frames = l.frames; follows = c.set_space_text.ensures.follows }
