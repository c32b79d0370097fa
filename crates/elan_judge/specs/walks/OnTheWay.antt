-- What is known of bodies before all is found out.
use Rattle.std.specs.Prelude.{◌≡◌, ◌⊎◌, ℕ, ◌+◌, List, map, length, None, Some, slice_get}
use Rattle.elan_tree.specs.declared.tree.Level.{Level}
use Rattle.elan_scope.specs.declared.delivery.Delivery.TheVariants.{Open}
use Rattle.elan_judge.specs.Below.elan_names.specs.declared.heading.Heading.{Heading}
use Rattle.elan_scope.specs.declared.known.Known.{Known}
use Rattle.elan_scope.specs.Known.{delivery_at}
use Rattle.type_names.specs.Bodies.{headings_in}
use Rattle.elan_scope.specs.declared.scope.Scope.{Scope}
use Rattle.elan_scope.specs.Phrase.{Phrase}
use Rattle.elan_judge.specs.Level.{level_bodies}
use Rattle.elan_judge.specs.Refinements.{stated, called_in, known_of}

-- Whatever the one knows the other knows too.
abbrev pub AtMost : Known → Known → Type 0
AtMost j k = (n : ℕ) → (delivery_at j n ≡ Open) ⊎ (delivery_at j n ≡ delivery_at k n)

-- a level in its scope, which has its headings
pub record LevelAt : Type 0 where
  pub scope : Scope
  pub level : Level
  pub has : scope.headings ≡ headings_in scope.types level
  pub outside : scope.routine ≡ None

abbrev pub bodies_at : LevelAt → List Phrase
bodies_at w = level_bodies w.scope w.level

-- What headings tell is known, and nothing but what is known in the end.
pub record IsOnTheWay (w : LevelAt) (k : Known) : Type 0 where
  pub calls : k.calls ≡ map called_in (bodies_at w)
  pub count : length k.deliveries ≡ length (bodies_at w)
  pub tells : (i : ℕ) (h : Heading) → slice_get w.scope.headings i ≡ Some h → (stated h.what ≡ Open → ⊥) → delivery_at k i ≡ stated h.what
  pub most : AtMost k (known_of w.scope.headings (bodies_at w))

-- These stand among all, from this number on.
abbrev pub Holds : {A : Type 0} → List A → ℕ → List A → Type 0
Holds all n xs = (i : ℕ) (x : _) → slice_get xs i ≡ Some x → slice_get all (n + i) ≡ Some x
