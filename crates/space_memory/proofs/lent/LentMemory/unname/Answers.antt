use Rattle.space_memory.specs.Below.page_table.specs.Frames.{over}
use Rattle.std.proofs.Common.{refl, sym, ap, subst}
use Rattle.space_memory.specs.Kept.{IsOfKind}
use Rattle.space_memory.specs.Memories.{MemoryData, HoldsAll, StandsWhole, MemoryFrames, memory_heads, roots}
use Rattle.space_memory.specs.Changes.{kind_none, memory_frames_none}
use Rattle.space_memory.proofs.Changed.{named_still}
use Rattle.space_memory.proofs.lent.LentMemory.unname.Goals as goal

pub invariant_of-self : goal.invariant_of-self
invariant_of-self g c = record {
  agree = subst (λ (m : MemoryData). StandsWhole c.args.self.now.pool.now (roots m)) (sym c.unname.ensures) c.args.self.now.agree;
  backed = c.args.self.now.backed;
}

pub returns-clause-heads : goal.returns-clause-heads
returns-clause-heads g c = ap memory_heads c.unname.ensures

pub returns-clause-kept : goal.returns-clause-kept
returns-clause-kept g c = λ cells h.
    subst (λ (m : MemoryData). HoldsAll (over c.args.self.now.pool.now (g.B.Backing.tells c.args.self.now.backing.now)) m cells) (sym c.unname.ensures) (named_still (over c.args.self.now.pool.now (g.B.Backing.tells c.args.self.now.backing.now)) c.args.self.now.memory.now _ cells h)

pub returns-clause-follows : goal.returns-clause-follows
returns-clause-follows g c = record {
  memory_name = refl;
  pool_name = refl;
  backing_name = refl;
  run_kind = subst (λ (m : MemoryData). IsOfKind c.args.self.now.memory.now.run m.run) (sym c.unname.ensures) (kind_none c.args.self.now.memory.now.run);
  packets_kind = subst (λ (m : MemoryData). IsOfKind c.args.self.now.memory.now.packets m.packets) (sym c.unname.ensures) (kind_none c.args.self.now.memory.now.packets);
  frames = subst (λ (m : MemoryData). MemoryFrames (over c.args.self.now.pool.now (g.B.Backing.tells c.args.self.now.backing.now)) (over c.args.self.now.pool.now (g.B.Backing.tells c.args.self.now.backing.now)) (roots c.args.self.now.memory.now) (roots m)) (sym c.unname.ensures)
      (memory_frames_none (over c.args.self.now.pool.now (g.B.Backing.tells c.args.self.now.backing.now)) (roots c.args.self.now.memory.now));
  follows = g.met.B.Backing.reflexive c.args.self.now.backing.now;
}
