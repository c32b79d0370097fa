use Rattle.space_memory.specs.Below.page_table.proofs.Framing.{homes_backed}
use Rattle.space_memory.specs.Below.page_table.specs.Frames.{over}
use Rattle.std.proofs.Common.{refl, sym, ap, ◌∙◌, subst}
use Rattle.eu_base.specs.DataSpaces.{Head}
use Rattle.space_memory.specs.Kept.{IsOfKind}
use Rattle.space_memory.specs.Memories.{MemoryData}
use Rattle.space_memory.specs.Changes.{kind_none, frames_before}
use Rattle.space_memory.proofs.Framed.{stands_now, whole_after}
use Rattle.space_memory.proofs.Changed.{head_is, live_here, few_filled, heads_filled, cells_filled}
use Rattle.space_memory.proofs.lent.LentMemory.fill.Goals as goal

pub fill-requires-clause-live : goal.fill-requires-clause-live
fill-requires-clause-live g c = live_here c.args.s c.args.self.now.memory.now c.requires.live

pub fill-requires-clause-empty : goal.fill-requires-clause-empty
fill-requires-clause-empty g c = ap (λ (h : Head). h.shape) (sym (head_is c.args.s c.args.self.now.memory.now)) ∙ c.requires.empty

pub fill-requires-clause-agree : goal.fill-requires-clause-agree
fill-requires-clause-agree g c = stands_now _ _ c.args.self.now.agree

pub invariant_of-self : goal.invariant_of-self
invariant_of-self g c = record {
  agree = whole_after _ _ _ _ (few_filled c.args.self.now.memory.now _ c.args.s c.fill.ensures.others c.args.self.now.agree.few) c.fill.ensures.frames c.args.self.now.agree;
  backed = homes_backed _ _ (g.met.B.Backing.same_held _ _ c.fill.ensures.follows) c.fill.ensures.frames.homes c.args.self.now.backed;
}

pub returns-clause-heads : goal.returns-clause-heads
returns-clause-heads g c =
    heads_filled (over c.args.self.now.pool.now (g.B.Backing.tells c.args.self.now.backing.now)) (over c.fill.new.pool (g.B.Backing.tells c.fill.new.backing)) c.args.self.now.memory.now _ c.args.s c.args.shape.now (live_here c.args.s c.args.self.now.memory.now c.requires.live) c.fill.ensures.others _ c.fill.ensures.filled

pub returns-clause-filled : goal.returns-clause-filled
returns-clause-filled g c =
    cells_filled (over c.args.self.now.pool.now (g.B.Backing.tells c.args.self.now.backing.now)) (over c.fill.new.pool (g.B.Backing.tells c.fill.new.backing)) c.args.self.now.memory.now _ c.args.s c.args.shape.now (live_here c.args.s c.args.self.now.memory.now c.requires.live) c.fill.ensures.others _ c.requires.cells c.fill.ensures.keeps
    c.fill.ensures.filled

pub returns-clause-follows : goal.returns-clause-follows
returns-clause-follows g c = record {
  memory_name = refl;
  pool_name = refl;
  backing_name = refl;
  run_kind = subst (λ (m : MemoryData). IsOfKind c.args.self.now.memory.now.run m.run) (sym c.fill.ensures.others) (kind_none c.args.self.now.memory.now.run);
  packets_kind = subst (λ (m : MemoryData). IsOfKind c.args.self.now.memory.now.packets m.packets) (sym c.fill.ensures.others) (kind_none c.args.self.now.memory.now.packets);
  frames = frames_before _ _ _ _ (few_filled c.args.self.now.memory.now _ c.args.s c.fill.ensures.others c.args.self.now.agree.few) c.fill.ensures.frames;
  follows = c.fill.ensures.follows;
}
