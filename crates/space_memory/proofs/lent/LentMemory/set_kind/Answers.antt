use Rattle.space_memory.specs.Below.page_table.specs.Frames.{over}
use Rattle.std.proofs.Common.{◌≡◌, refl, sym, ap, ◌∙◌, subst}
use Rattle.std.proofs.lemmas.Int.{to_z-of_z}
use mir.Syntax.{w16}
use Rattle.space_memory.specs.Live.{the_space}
use Rattle.space_memory.specs.Kept.{IsOfKind}
use Rattle.space_memory.specs.Below.page_table.specs.Entries.{Names}
use Rattle.space_memory.specs.Memories.{MemoryData, changed, StandsWhole, MemoryFrames, memory_heads, roots}
use Rattle.space_memory.specs.Changes.{kind_none, memory_frames_none}
use Rattle.space_memory.proofs.Changed.{kind_heads, kind_still, live_here}
use Rattle.space_memory.proofs.lent.LentMemory.set_kind.Goals as goal

pub set_kind-requires : goal.set_kind-requires
set_kind-requires g c = record { live = live_here c.args.s c.args.self.now.memory.now c.requires.live }

pub invariant_of-self : goal.invariant_of-self
invariant_of-self g c = record {
  agree = subst (λ (names : Names). StandsWhole c.args.self.now.pool.now names) (sym c.set_kind.ensures.roots) c.args.self.now.agree;
  backed = c.args.self.now.backed;
}

pub returns-clause-heads : goal.returns-clause-heads
returns-clause-heads g c = ap memory_heads
    (subst (λ z. c.set_kind.new.self ≡ changed c.args.s.0 (record (the_space c.args.s.0 c.args.self.now.memory.now.spaces) { kind = z }) c.args.self.now.memory.now) (to_z-of_z w16 c.args.n c.ranges.n)
    c.set_kind.ensures.kind) ∙ kind_heads c.args.s c.args.n c.args.self.now.memory.now

pub returns-clause-kept : goal.returns-clause-kept
returns-clause-kept g c =
    kind_still (over c.args.self.now.pool.now (g.B.Backing.tells c.args.self.now.backing.now)) c.args.self.now.memory.now _ c.args.s c.args.n (live_here c.args.s c.args.self.now.memory.now c.requires.live)
    (subst (λ z. c.set_kind.new.self ≡ changed c.args.s.0 (record (the_space c.args.s.0 c.args.self.now.memory.now.spaces) { kind = z }) c.args.self.now.memory.now) (to_z-of_z w16 c.args.n c.ranges.n)
    c.set_kind.ensures.kind)

pub returns-clause-follows : goal.returns-clause-follows
returns-clause-follows g c = record {
  memory_name = refl;
  pool_name = refl;
  backing_name = refl;
  run_kind = subst (λ (m : MemoryData). IsOfKind c.args.self.now.memory.now.run m.run) (sym c.set_kind.ensures.kind) (kind_none c.args.self.now.memory.now.run);
  packets_kind = subst (λ (m : MemoryData). IsOfKind c.args.self.now.memory.now.packets m.packets) (sym c.set_kind.ensures.kind) (kind_none c.args.self.now.memory.now.packets);
  frames = subst (λ (names : Names). MemoryFrames (over c.args.self.now.pool.now (g.B.Backing.tells c.args.self.now.backing.now)) (over c.args.self.now.pool.now (g.B.Backing.tells c.args.self.now.backing.now)) (roots c.args.self.now.memory.now) names) (sym c.set_kind.ensures.roots)
      (memory_frames_none (over c.args.self.now.pool.now (g.B.Backing.tells c.args.self.now.backing.now)) (roots c.args.self.now.memory.now));
  follows = g.met.B.Backing.reflexive c.args.self.now.backing.now;
}
