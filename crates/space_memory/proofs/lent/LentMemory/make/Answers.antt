use Rattle.space_memory.specs.Below.page_table.proofs.Framing.{homes_backed}
use Rattle.space_memory.specs.Below.page_table.specs.Frames.{over}
use Rattle.std.proofs.Common.{◌+◌, ap, ◌∙◌, refl, sym, subst, arith}
use Rattle.space_memory.proofs.Numbers.{past_free}
use Rattle.space_memory.specs.Memories.{MemoryData, memory_heads}
use Rattle.space_memory.specs.Kept.{IsOfKind}
use Rattle.space_memory.specs.Changes.{kind_none, frames_before}
use Rattle.space_memory.proofs.Framed.{stands_one, whole_after}
use Rattle.space_memory.proofs.Changed.{few_here, few_made, live_from, made_heads, made_so, room_left}
use Rattle.space_memory.proofs.lent.LentMemory.make.Goals as goal

pub make-requires-clause-few : goal.make-requires-clause-few
make-requires-clause-few g c = few_here c.args.self.now.memory.now 16 c.requires.few

pub make-requires-clause-live : goal.make-requires-clause-live
make-requires-clause-live g c = live_from c.args.from c.args.self.now.memory.now c.requires.live

pub make-requires-clause-agree : goal.make-requires-clause-agree
make-requires-clause-agree g c = stands_one _ _ (room_left c.args.self.now.memory.now (few_here c.args.self.now.memory.now 16 c.requires.few)) c.args.self.now.agree

pub invariant_of-self : goal.invariant_of-self
invariant_of-self g c = record {
  agree = whole_after (over c.args.self.now.pool.now (g.B.Backing.tells c.args.self.now.backing.now)) (over c.make.new.pool (g.B.Backing.tells c.args.self.now.backing.now)) _ _ (few_made c.make.result c.args.self.now.memory.now c.make.new.self _ c.make.ensures.made c.make.ensures.err (few_here c.args.self.now.memory.now 16 c.requires.few)
      c.args.self.now.agree.few) (c.make.ensures.frames (g.B.Backing.tells c.args.self.now.backing.now)) c.args.self.now.agree;
  backed = homes_backed _ _ (λ block is. is) (c.make.ensures.frames (g.B.Backing.tells c.args.self.now.backing.now)).homes c.args.self.now.backed;
}

pub returns-clause-heads : goal.returns-clause-heads
returns-clause-heads g c = ap memory_heads c.in_ok-make.ensures.made ∙ made_heads c.args.from c.args.self.now.memory.now

pub returns-clause-kept : goal.returns-clause-kept
returns-clause-kept g c =
    made_so (over c.args.self.now.pool.now (g.B.Backing.tells c.args.self.now.backing.now)) (over c.make.new.pool (g.B.Backing.tells c.args.self.now.backing.now)) c.args.self.now.memory.now _ c.args.from (live_from c.args.from c.args.self.now.memory.now c.requires.live) (c.make.ensures.keeps (g.B.Backing.tells c.args.self.now.backing.now))
    (past_free 0 c.args.self.now.memory.now.spaces c.args.self.now.memory.now.last (c.args.self.now.memory.now.last + 1) c.last_number.ensures.numbered.rise (omega arith)) c.in_ok-make.ensures.made

pub returns-clause-follows : goal.returns-clause-follows
returns-clause-follows g c = record {
  memory_name = refl;
  pool_name = refl;
  backing_name = refl;
  run_kind = subst (λ (m : MemoryData). IsOfKind c.args.self.now.memory.now.run m.run) (sym c.in_ok-make.ensures.made) (kind_none c.args.self.now.memory.now.run);
  packets_kind = subst (λ (m : MemoryData). IsOfKind c.args.self.now.memory.now.packets m.packets) (sym c.in_ok-make.ensures.made) (kind_none c.args.self.now.memory.now.packets);
  frames = frames_before (over c.args.self.now.pool.now (g.B.Backing.tells c.args.self.now.backing.now)) (over c.make.new.pool (g.B.Backing.tells c.args.self.now.backing.now)) _ _
      (few_made c.make.result c.args.self.now.memory.now c.make.new.self _ c.make.ensures.made c.make.ensures.err (few_here c.args.self.now.memory.now 16 c.requires.few) c.args.self.now.agree.few)
      (c.make.ensures.frames (g.B.Backing.tells c.args.self.now.backing.now));
  follows = g.met.B.Backing.reflexive c.args.self.now.backing.now;
}
