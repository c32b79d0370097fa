-- A task that lives has a place in the order of the tree.
use Rattle.std.proofs.Common.{◌≡◌, ℕ, ◌+◌, ◌<◌, Bool, true, false, not, ◌||◌, cond, List, [], ◌∷◌, length, Some, None, ap, ◌∙◌, arith}
use Rattle.std.specs.List.{list_any, position, position_or_len}
use Rattle.std.proofs.lemmas.Bool.{false≢true, lt-ltb}
use Rattle.std.proofs.lemmas.Option.{none-some}
use Rattle.task_numbers.specs.declared.number.TaskNo.{TaskNo}
use Rattle.task_tree.specs.Tree.{Tree, lives, has_number}
use Rattle.live_system.specs.Below.units.specs.Library.{Library}
use Rattle.live_system.specs.Below.task_desk.specs.Desks.{Desk}
use Rattle.live_system.specs.Below.system_meaning.specs.Systems.{Moment}
use Rattle.live_system.specs.Below.live_tasks.specs.Tasks.{Live}
use Rattle.live_system.specs.Machines.{Machine, StandsAt}
use Rattle.live_system.proofs.Moments.{machine, IsPlace, here, placed_in}

reached : {X : Type 0} (p : X → Bool) (xs : List X) → list_any p xs ≡ true → position_or_len p xs < length xs
reached p [] e = absurd (false≢true e)
reached p (x ∷ xs) e = by (p x) e (reached p xs)
  where
    by : (b : Bool) → (b || list_any p xs) ≡ true → (list_any p xs ≡ true → position_or_len p xs < length xs)
        → cond (not b) (1 + position_or_len p xs) 0 < length (x ∷ xs)
    by true e rest = omega arith
    by false e rest = let less = rest e in omega (arith, less)

found : {X : Type 0} (p : X → Bool) (xs : List X) → list_any p xs ≡ true → position p xs ≡ Some (position_or_len p xs)
found p xs e =
    let is = lt-ltb (position_or_len p xs) (length xs) (reached p xs e) in
    ap (λ b. cond b (Some (position_or_len p xs)) None) is

pub placed : (t : TaskNo) (s : Tree) → lives t s ≡ true → (k : ℕ) × (position (has_number t) s.tasks ≡ Some k)
placed t s live = (position_or_len (has_number t) s.tasks, found (has_number t) s.tasks live)

-- one without a place does not live
pub none_lives : (desk : Desk) (library : Library) (live : Live) (was : Machine) → machine desk library live ≡ was → (t : TaskNo) → IsPlace desk live t None
    → (m : Moment) → StandsAt was m → lives t m.system.shared.tree ≡ true → ⊥
none_lives desk library live was is t at m s living =
    let k = placed t m.system.shared.tree living in
    none-some k.0 (placed_in desk library live was is m (here desk library live was is m s) t None at ∙ k.1)
