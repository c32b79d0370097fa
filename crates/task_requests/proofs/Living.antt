-- Tasks that live have a place in the order of the tree.
use Rattle.std.proofs.Common.{◌≡◌, ℕ, ◌+◌, ◌<◌, Bool, true, false, not, ◌||◌, cond, List, [], ◌∷◌, length, Option, Some, None, refl, ap, arith}
use Rattle.std.specs.Prelude.{slice_get, option_map, option_and_then}
use Rattle.std.specs.List.{list_any, position, position_or_len}
use Rattle.std.proofs.lemmas.Bool.{false≢true, lt-ltb}
use Rattle.std.proofs.lemmas.List.Folds.{list_any_at}
use Rattle.std.proofs.lemmas.List.Quantifiers.{position-Some}
use Rattle.task_numbers.specs.declared.number.TaskNo.{TaskNo}
use Rattle.eu_base.specs.declared.request.Request.{Request}
use Rattle.task_requests.specs.Below.task_tree.specs.Tree.{Tree, lives, has_number, task}
use Rattle.task_requests.specs.Below.system_meaning.specs.Tasks.{Command, Doing, Own, command_of, request_of, with_doing}
use Rattle.task_requests.specs.Below.system_meaning.specs.Systems.{System, place, doing, command, requested, changed_at, does}

place_lives : (t : TaskNo) (s : Tree) (k : ℕ) → position (has_number t) s.tasks ≡ Some k → lives t s ≡ true
place_lives t s k e =
    let none = task t [] t in
    let at = position-Some (has_number t) s.tasks k none e in
    list_any_at (has_number t) s.tasks k none at.0 at.1

-- a task that does something lives
pub doing_lives : (t : TaskNo) (s : System) (d : Doing) → doing t s ≡ Some d → lives t s.shared.tree ≡ true
doing_lives t s d = by (place t s) refl
  where
    by : (o : Option ℕ) → place t s ≡ o → option_map (λ (own : Own). own.doing) (option_and_then (slice_get s.owns) o) ≡ Some d
        → lives t s.shared.tree ≡ true
    by None e none = absurd (cc none)
    by (Some k) e some = place_lives t s.shared.tree k e

-- so does one that runs a command
pub command_lives : (t : TaskNo) (s : System) (c : Command) → command t s ≡ Some c → lives t s.shared.tree ≡ true
command_lives t s c = by (doing t s) refl
  where
    by : (o : Option Doing) → doing t s ≡ o → option_and_then command_of o ≡ Some c → lives t s.shared.tree ≡ true
    by None e none = absurd (cc none)
    by (Some d) e some = doing_lives t s d e

-- and one that asks for something
pub asked_lives : (t : TaskNo) (s : System) (q : Request) → requested t s ≡ Some q → lives t s.shared.tree ≡ true
asked_lives t s q = by (doing t s) refl
  where
    by : (o : Option Doing) → doing t s ≡ o → option_and_then request_of o ≡ Some q → lives t s.shared.tree ≡ true
    by None e none = absurd (cc none)
    by (Some d) e some = doing_lives t s d e

-- and it lives whatever a task does now
pub still_lives : (t u : TaskNo) (d : Doing) (s : System) → lives u s.shared.tree ≡ true → lives u (does t d s).shared.tree ≡ true
still_lives t u d s live = by (place t s)
  where
    by : (o : Option ℕ) → lives u (changed_at o (with_doing d) s).shared.tree ≡ true
    by None = live
    by (Some k) = live
