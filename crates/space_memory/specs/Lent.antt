-- What a memory that is lent keeps of what it was.
use Rattle.std.specs.Prelude.{◌≡◌, refl}
use Rattle.std.proofs.Common.{◌∙◌}
use Rattle.eu_base.specs.declared.backing.Backing as backing
use Rattle.space_memory.specs.Below.page_table.specs.Frames.{Over, over}
use Rattle.space_memory.specs.Kept.{IsOfKind}
use Rattle.space_memory.specs.declared.lent.Lent.{Lent}
use Rattle.space_memory.specs.Changes.{kind_none, kind_then, memory_frames_none, memory_frames_then}
use Rattle.space_memory.specs.Memories.{MemoryFrames, roots}

module _ {B : Type 0} (g : backing.Ghosts B) where
  -- its pages, over what stands behind them
  abbrev pub pages_of : Lent B g → Over
  pages_of lent = over lent.pool.now (g.tells lent.backing.now)

  -- it is the same memory over the same pool, and whatever spaces of other memories there are, they are as they were
  pub record LentFollows (old new : Lent B g) : Type 0 where
    pub memory_name : new.memory.ghost_name ≡ old.memory.ghost_name
    pub pool_name : new.pool.ghost_name ≡ old.pool.ghost_name
    pub backing_name : new.backing.ghost_name ≡ old.backing.ghost_name
    pub run_kind : IsOfKind old.memory.now.run new.memory.now.run
    pub packets_kind : IsOfKind old.memory.now.packets new.memory.now.packets
    pub frames : MemoryFrames (pages_of old) (pages_of new) (roots old.memory.now) (roots new.memory.now)
    pub follows : g.follows old.backing.now new.backing.now

  pub lent_reflexive : ((b : B) → g.follows b b) → (lent : Lent B g) → LentFollows lent lent
  lent_reflexive reflexive lent = record {
    memory_name = refl;
    pool_name = refl;
    backing_name = refl;
    run_kind = kind_none lent.memory.now.run;
    packets_kind = kind_none lent.memory.now.packets;
    frames = memory_frames_none (pages_of lent) (roots lent.memory.now);
    follows = reflexive lent.backing.now;
  }

  pub lent_transitive : ((a b c : B) → g.follows a b → g.follows b c → g.follows a c) → (first second third : Lent B g)
      → LentFollows first second → LentFollows second third → LentFollows first third
  lent_transitive transitive first second third f h = record {
    memory_name = h.memory_name ∙ f.memory_name;
    pool_name = h.pool_name ∙ f.pool_name;
    backing_name = h.backing_name ∙ f.backing_name;
    run_kind = kind_then first.memory.now.run second.memory.now.run third.memory.now.run f.run_kind h.run_kind;
    packets_kind = kind_then first.memory.now.packets second.memory.now.packets third.memory.now.packets f.packets_kind h.packets_kind;
    frames = memory_frames_then (pages_of first) (pages_of second) (pages_of third) (roots first.memory.now) (roots second.memory.now) (roots third.memory.now)
        f.frames h.frames;
    follows = transitive first.backing.now second.backing.now third.backing.now f.follows h.follows;
  }
