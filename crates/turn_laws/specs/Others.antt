-- What a turn of a task leaves of the others.
use Rattle.std.specs.Prelude.{◌≡◌, ◌<◌, ◌⊎◌, ◌==◌, bytes_eq, ℕ, Bool, true, false, List, [], ◌∷◌, Option, Some, None}
use Rattle.std.specs.List.{list_any}
use Rattle.eu_base.specs.declared.request.Request.{Request}
use Rattle.eu_base.specs.declared.request.Request.TheVariants as requests
use Rattle.turn_laws.specs.Below.task_numbers.specs.declared.number.TaskNo.{TaskNo}
use Rattle.turn_laws.specs.Below.task_numbers.specs.Numbers.{is_task}
use Rattle.turn_laws.specs.Below.task_tree.specs.Tree.{Tree, lives, father, name}
use Rattle.turn_laws.specs.Below.task_tree.specs.Families.{family}
use Rattle.system_meaning.specs.Systems.{System, requested}
use Rattle.system_meaning.specs.Serving.{named_or}
use Rattle.turn_laws.specs.Own.{own_of}

-- t is u, or a descendant of u
abbrev pub is_of_family : TaskNo → TaskNo → Tree → Bool
is_of_family t u s = list_any (λ v. is_task v t) (family u s)

-- a message is sent to this task
abbrev pub sends_to : TaskNo → Request → Bool
sends_to t (requests.Send to code space) = to == t.0
sends_to t (requests.Call to code space) = to == t.0
sends_to t _ = false

-- the task that a call names: it takes the message, and answers it
abbrev pub called : Option Request → Option ℕ
called (Some (requests.Call to code space)) = Some to
called (Some (requests.Answer of)) = Some of
called _ = None

-- u ends t: t is the task that is named, or a descendant of it
abbrev pub ends : TaskNo → TaskNo → Tree → Request → Bool
ends u t s (requests.End of) = is_of_family t (named_or of u) s
ends u t s _ = false

-- a task of this name begins
abbrev pub begins : List ℕ → Request → Bool
begins name (requests.Begin n start) = bytes_eq n name
begins name _ = false

-- A turn of u reaches another task t: u sends it a message; or t's call names u, or a task that ends in this turn.
pub data Reaches (u t : TaskNo) (asked : List Request) (before after : System) : Type 0 where
  sends : list_any (sends_to t) asked ≡ true → Reaches u t asked before after
  called_it : called (requested t before) ≡ Some u.0 → Reaches u t asked before after
  called_one : (v : TaskNo) → called (requested t before) ≡ Some v.0 → lives v before.shared.tree ≡ true → lives v after.shared.tree ≡ false
      → Reaches u t asked before after

-- What becomes of another task t while u has its turn, in which u asks this. Where t lives before and behind it, all that is its own is the same,
-- unless the turn reaches it. One that lives no more was of the family of u, and u asked for the end of a task of whose family it was. One that did not
-- live before has a number that no task had, is a son of u, and u asked that a task of its name begin.
pub record Beside (u t : TaskNo) (asked : List Request) (before after : System) : Type 0 where
  pub kept : lives t before.shared.tree ≡ true → lives t after.shared.tree ≡ true
      → (own_of t after ≡ own_of t before) ⊎ Reaches u t asked before after
  pub ended : lives t before.shared.tree ≡ true → lives t after.shared.tree ≡ false
      → (is_of_family t u before.shared.tree ≡ true) × (list_any (ends u t before.shared.tree) asked ≡ true)
  pub begun : lives t before.shared.tree ≡ false → lives t after.shared.tree ≡ true
      → (before.shared.tree.last < t.0) × (father t after.shared.tree ≡ u) × (list_any (begins (name t after.shared.tree)) asked ≡ true)

-- the turn is that of the first ready task; where none is ready nothing changes
abbrev pub OthersStay : List TaskNo → List Request → System → System → Type 0
OthersStay [] asked before after = after ≡ before
OthersStay (u ∷ ready) asked before after = (t : TaskNo) → is_task t u ≡ false → Beside u t asked before after
