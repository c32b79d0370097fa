use Rattle.space_memory.specs.Below.page_table.proofs.Framing.{homes_backed}
use Rattle.std.proofs.Common.{refl}
use Rattle.eu_base.specs.declared.address.Area.TheVariants.{Run, Packets, Space}
use Rattle.space_memory.proofs.Areas.{left, of_run, of_packets, of_space, live_area}
use Rattle.space_memory.proofs.Framed.{stands_now}
use Rattle.space_memory.proofs.Held.{still, text_known}
use Rattle.space_memory.proofs.lent.LentMemory.text.Goals as goal

pub run_text-requires-clause-agree : goal.run_text-requires-clause-agree
run_text-requires-clause-agree g c = stands_now _ _ c.args.self.now.agree

pub invariant_of-self : goal.invariant_of-self
invariant_of-self g c = record {
  agree = (left Run _ _ _ _ (of_run _ _ _ _ c.run_text.ensures.rest) c.run_text.ensures.frames c.args.self.now.agree).whole;
  backed = homes_backed _ _ (g.met.B.Backing.same_held _ _ c.run_text.ensures.follows) c.run_text.ensures.frames.homes c.args.self.now.backed;
}

pub returns-in-Run-clause-text : goal.returns-in-Run-clause-text
returns-in-Run-clause-text g c = text_known Run _ _ refl c.args.at c.in-Run.is _ c.run_text.ensures.text

pub returns-in-Run-clause-kept : goal.returns-in-Run-clause-kept
returns-in-Run-clause-kept g c = still Run _ _ _ _ refl (of_run _ _ _ _ c.run_text.ensures.rest).leaves _ c.run_text.ensures.same

pub returns-in-Run-clause-heads : goal.returns-in-Run-clause-heads
returns-in-Run-clause-heads g c = (of_run _ _ _ _ c.run_text.ensures.rest).heads

pub returns-in-Run-clause-follows : goal.returns-in-Run-clause-follows
returns-in-Run-clause-follows g c =
    let l = left Run _ _ _ _ (of_run _ _ _ _ c.run_text.ensures.rest) c.run_text.ensures.frames c.args.self.now.agree in
    record { memory_name = refl; pool_name = refl; backing_name = refl; run_kind = l.only.run_kind; packets_kind = l.only.packets_kind; frames = l.frames; follows = c.run_text.ensures.follows }

pub packet_text-requires-clause-agree : goal.packet_text-requires-clause-agree
packet_text-requires-clause-agree g c = stands_now _ _ c.args.self.now.agree

pub invariant_of-self-in-Packets : goal.invariant_of-self-in-Packets
invariant_of-self-in-Packets g c = record {
  agree = (left Packets _ _ _ _ (of_packets _ _ _ _ c.packet_text.ensures.rest) c.packet_text.ensures.frames c.args.self.now.agree).whole;
  backed = homes_backed _ _ (g.met.B.Backing.same_held _ _ c.packet_text.ensures.follows) c.packet_text.ensures.frames.homes c.args.self.now.backed;
}

pub returns-in-Packets-clause-text : goal.returns-in-Packets-clause-text
returns-in-Packets-clause-text g c = text_known Packets _ _ refl c.args.at c.in-Packets.is _ c.packet_text.ensures.text

pub returns-in-Packets-clause-kept : goal.returns-in-Packets-clause-kept
returns-in-Packets-clause-kept g c = still Packets _ _ _ _ refl (of_packets _ _ _ _ c.packet_text.ensures.rest).leaves _ c.packet_text.ensures.same

pub returns-in-Packets-clause-heads : goal.returns-in-Packets-clause-heads
returns-in-Packets-clause-heads g c = (of_packets _ _ _ _ c.packet_text.ensures.rest).heads

pub returns-in-Packets-clause-follows : goal.returns-in-Packets-clause-follows
returns-in-Packets-clause-follows g c =
    let l = left Packets _ _ _ _ (of_packets _ _ _ _ c.packet_text.ensures.rest) c.packet_text.ensures.frames c.args.self.now.agree in
    record { memory_name = refl; pool_name = refl; backing_name = refl; run_kind = l.only.run_kind; packets_kind = l.only.packets_kind; frames = l.frames; follows = c.packet_text.ensures.follows }

pub space_text-requires-clause-agree : goal.space_text-requires-clause-agree
space_text-requires-clause-agree g c = stands_now _ _ c.args.self.now.agree

pub space_text-requires-clause-live : goal.space_text-requires-clause-live
space_text-requires-clause-live g c = live_area c.args.self.now.memory.now c.args.at.area c.in-Space.s c.in-Space.is c.requires.there

pub invariant_of-self-in-Space : goal.invariant_of-self-in-Space
invariant_of-self-in-Space g c = record {
  agree = (left (Space c.in-Space.s) _ _ _ _ (of_space _ _ _ _ c.in-Space.s c.space_text.ensures.rest) c.space_text.ensures.frames c.args.self.now.agree).whole;
  backed = homes_backed _ _ (g.met.B.Backing.same_held _ _ c.space_text.ensures.follows) c.space_text.ensures.frames.homes c.args.self.now.backed;
}

pub returns-in-Space-clause-text : goal.returns-in-Space-clause-text
returns-in-Space-clause-text g c = text_known (Space c.in-Space.s) _ _ (live_area c.args.self.now.memory.now c.args.at.area c.in-Space.s c.in-Space.is c.requires.there) c.args.at c.in-Space.is _ c.space_text.ensures.text

pub returns-in-Space-clause-kept : goal.returns-in-Space-clause-kept
returns-in-Space-clause-kept g c = still (Space c.in-Space.s) _ _ _ _ (live_area c.args.self.now.memory.now c.args.at.area c.in-Space.s c.in-Space.is c.requires.there) (of_space _ _ _ _ c.in-Space.s c.space_text.ensures.rest).leaves _ c.space_text.ensures.same

pub returns-in-Space-clause-heads : goal.returns-in-Space-clause-heads
returns-in-Space-clause-heads g c = (of_space _ _ _ _ c.in-Space.s c.space_text.ensures.rest).heads

pub returns-in-Space-clause-follows : goal.returns-in-Space-clause-follows
returns-in-Space-clause-follows g c =
    let l = left (Space c.in-Space.s) _ _ _ _ (of_space _ _ _ _ c.in-Space.s c.space_text.ensures.rest) c.space_text.ensures.frames c.args.self.now.agree in
    record { memory_name = refl; pool_name = refl; backing_name = refl; run_kind = l.only.run_kind; packets_kind = l.only.packets_kind; frames = l.frames; follows = c.space_text.ensures.follows }
