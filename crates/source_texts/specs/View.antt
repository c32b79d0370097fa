-- What a space that is lent to be read keeps of what it was: all but what its pool has at hand.
use Rattle.std.specs.Prelude.{◌≡◌, [], refl}
use Rattle.std.proofs.Common.{◌∙◌, arith}
use Rattle.eu_base.specs.declared.backing.Backing as backing
use Rattle.source_texts.specs.Below.page_table.specs.Entries.{Names}
use Rattle.source_texts.specs.Below.page_table.specs.Frames.{Over, over, Knows, Frames}
use Rattle.source_texts.specs.Below.page_table.proofs.Framing.{frames_none, frames_then}
use Rattle.source_texts.specs.declared.view.ReadSpace.{ReadSpace}

module _ {B : Type 0} (g : backing.Ghosts B) where
  abbrev pub pages_of : ReadSpace B g → Over
  pages_of view = over view.pool.now (g.tells view.backing.now)

  pub record ReadFollows (old new : ReadSpace B g) : Type 0 where
    pub space : new.space ≡ old.space
    pub pool_name : new.pool.ghost_name ≡ old.pool.ghost_name
    pub backing_name : new.backing.ghost_name ≡ old.backing.ghost_name
    pub frames : (mine : Names) → Frames (pages_of old) (pages_of new) mine mine
    pub follows : g.follows old.backing.now new.backing.now

  pub read_known : (old new : ReadSpace B g) → ReadFollows old new → Knows (pages_of old) → Knows (pages_of new)
  read_known old new f known = (f.frames []).knows known

  pub read_reflexive : ((b : B) → g.follows b b) → (s : ReadSpace B g) → ReadFollows s s
  read_reflexive reflexive s = record {
    space = refl;
    pool_name = refl;
    backing_name = refl;
    frames = λ mine. frames_none (pages_of s) mine;
    follows = reflexive s.backing.now;
  }

  pub read_transitive : ((a b c : B) → g.follows a b → g.follows b c → g.follows a c) → (first second third : ReadSpace B g)
      → ReadFollows first second → ReadFollows second third → ReadFollows first third
  read_transitive transitive first second third f h = record {
    space = h.space ∙ f.space;
    pool_name = h.pool_name ∙ f.pool_name;
    backing_name = h.backing_name ∙ f.backing_name;
    frames = λ mine. frames_then (pages_of first) (pages_of second) (pages_of third) mine mine mine (omega arith) (f.frames mine) (h.frames mine);
    follows = transitive first.backing.now second.backing.now third.backing.now f.follows h.follows;
  }
