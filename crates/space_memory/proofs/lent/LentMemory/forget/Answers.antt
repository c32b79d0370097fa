use Rattle.space_memory.specs.Below.page_table.proofs.Framing.{homes_backed}
use Rattle.space_memory.specs.Below.page_table.specs.Frames.{over}
use Rattle.std.proofs.Common.{refl, sym, ap, ◌∙◌, subst}
use Rattle.space_memory.specs.Kept.{IsOfKind}
use Rattle.space_memory.specs.Memories.{MemoryData, memory_heads}
use Rattle.space_memory.specs.Changes.{kind_none, frames_before}
use Rattle.space_memory.proofs.Framed.{stands_now, whole_after}
use Rattle.space_memory.proofs.Changed.{forgot_heads, forgot_held, few_left}
use Rattle.space_memory.proofs.lent.LentMemory.forget.Goals as goal

pub forget-requires : goal.forget-requires
forget-requires g c = record { agree = stands_now _ _ c.args.self.now.agree }

pub invariant_of-self : goal.invariant_of-self
invariant_of-self g c = record {
  agree = whole_after (over c.args.self.now.pool.now (g.B.Backing.tells c.args.self.now.backing.now)) (over c.forget.new.pool (g.B.Backing.tells c.args.self.now.backing.now)) _ _ (few_left c.args.self.now.memory.now _ c.args.s c.forget.ensures.forgotten c.args.self.now.agree.few) (c.forget.ensures.frames (g.B.Backing.tells c.args.self.now.backing.now)) c.args.self.now.agree;
  backed = homes_backed _ _ (λ block is. is) (c.forget.ensures.frames (g.B.Backing.tells c.args.self.now.backing.now)).homes c.args.self.now.backed;
}

pub returns-clause-heads : goal.returns-clause-heads
returns-clause-heads g c = ap memory_heads c.forget.ensures.forgotten ∙ forgot_heads c.args.s c.args.self.now.memory.now

pub returns-clause-kept : goal.returns-clause-kept
returns-clause-kept g c = forgot_held (over c.args.self.now.pool.now (g.B.Backing.tells c.args.self.now.backing.now)) (over c.forget.new.pool (g.B.Backing.tells c.args.self.now.backing.now)) c.args.self.now.memory.now _ c.args.s c.forget.ensures.forgotten (c.forget.ensures.keeps (g.B.Backing.tells c.args.self.now.backing.now)) c.forget.ensures.gone

pub returns-clause-follows : goal.returns-clause-follows
returns-clause-follows g c = record {
  memory_name = refl;
  pool_name = refl;
  backing_name = refl;
  run_kind = subst (λ (m : MemoryData). IsOfKind c.args.self.now.memory.now.run m.run) (sym c.forget.ensures.forgotten) (kind_none c.args.self.now.memory.now.run);
  packets_kind = subst (λ (m : MemoryData). IsOfKind c.args.self.now.memory.now.packets m.packets) (sym c.forget.ensures.forgotten) (kind_none c.args.self.now.memory.now.packets);
  frames = frames_before (over c.args.self.now.pool.now (g.B.Backing.tells c.args.self.now.backing.now)) (over c.forget.new.pool (g.B.Backing.tells c.args.self.now.backing.now)) _ _ (few_left c.args.self.now.memory.now _ c.args.s c.forget.ensures.forgotten c.args.self.now.agree.few) (c.forget.ensures.frames (g.B.Backing.tells c.args.self.now.backing.now));
  follows = g.met.B.Backing.reflexive c.args.self.now.backing.now;
}
