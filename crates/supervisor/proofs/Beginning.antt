-- A task that can begin: its father lives, and the tree takes it.
use Rattle.std.proofs.Common.{◌≡◌, ℕ, Bool, true, false, cond, ◌||◌, List, [], ◌∷◌, find, Option, Some, None, refl, sym, subst}
use Rattle.std.specs.Prelude.{if◌then◌else◌}
use Rattle.std.specs.List.{list_any}
use Rattle.std.proofs.lemmas.Bool.{or_left, or_right, eq-eqb}
use Rattle.task_numbers.specs.declared.number.TaskNo.{TaskNo}
use Rattle.task_numbers.specs.Numbers.{is_nil}
use Rattle.eu_base.specs.declared.stop.Stop.TheVariants.{BadName}
use Rattle.eu_base.specs.Stops.{stop_text}
use Rattle.task_tree.specs.declared.task.Task.{Task}
use Rattle.task_tree.specs.declared.refusal.BeginError.{BeginError}
use Rattle.task_tree.specs.Tree.{Tree, number_of, has_number, has_name}
use Rattle.task_tree.specs.Tree as tree
use Rattle.supervisor.specs.Below.system_meaning.specs.Stores.{is_name}
use Rattle.supervisor.specs.Below.system_meaning.specs.Systems.{System, Moment}
use Rattle.supervisor.specs.Below.system_meaning.specs.Ends.{as_stop}
use Rattle.supervisor.specs.Below.system_meaning.specs.Supervisor.{begin_refusal, father_refusal, begin_unless, begin_under}
use Rattle.supervisor.specs.Below.live_system.specs.Machines.{Machine, StandsAt}

-- a number that was found is that of one of the tasks
found_lives : (p : Task → Bool) (tasks : List Task) → is_nil (number_of (find p tasks)) ≡ false
    → list_any (has_number (number_of (find p tasks))) tasks ≡ true
found_lives p [] h = sym h
found_lives p (u ∷ us) h = by (p u) h (found_lives p us)
  where
    by : (b : Bool) → is_nil (number_of (cond b (Some u) (find p us))) ≡ false
        → (is_nil (number_of (find p us)) ≡ false → list_any (has_number (number_of (find p us))) us ≡ true)
        → (has_number (number_of (cond b (Some u) (find p us))) u
        || list_any (has_number (number_of (cond b (Some u) (find p us)))) us) ≡ true
    by true h rest = or_left (has_number u.number u) (list_any (has_number u.number) us) (eq-eqb u.number.0 u.number.0 refl)
    by false h rest =
        or_right (has_number (number_of (find p us)) u) (list_any (has_number (number_of (find p us))) us) (rest h)

-- the task of a name lives, where there is one
pub named_lives : (name : List ℕ) (s : Tree) → is_nil (tree.named name s) ≡ false → tree.lives (tree.named name s) s ≡ true
named_lives name s h = found_lives (has_name name) s.tasks h

-- nothing speaks against a task
pub begins : (name : List ℕ) (t : TaskNo) (s : System) → None ≡ begin_refusal name t s
    → (is_nil t ≡ false) × (tree.refusal name s.shared.tree ≡ None)
begins name t s h = by_name (is_name name) h
  where
    by_tree : (r : Option BeginError) → tree.refusal name s.shared.tree ≡ r → None ≡ father_refusal false name s
        → tree.refusal name s.shared.tree ≡ None
    by_tree None e h = e
    by_tree (Some b) e h = let k : None ≡ Some (stop_text (as_stop b)) = rw e at h in cc

    by_father : (b : Bool) → is_nil t ≡ b → None ≡ father_refusal b name s
        → (is_nil t ≡ false) × (tree.refusal name s.shared.tree ≡ None)
    by_father true e h = cc
    by_father false e h = (e, by_tree (tree.refusal name s.shared.tree) refl h)

    by_name : (b : Bool) → None ≡ (if b then father_refusal (is_nil t) name s else Some (stop_text BadName))
        → (is_nil t ≡ false) × (tree.refusal name s.shared.tree ≡ None)
    by_name true h = by_father (is_nil t) refl h
    by_name false h = cc

-- the father is looked for by his name
pub father_lives : (name : List ℕ) (t : TaskNo) (s : Tree) → t ≡ tree.named name s → is_nil t ≡ false → tree.lives t s ≡ true
father_lives name t s e h =
    subst (λ u. tree.lives u s ≡ true) (sym e) (named_lives name s (subst (λ u. is_nil u ≡ false) e h))

-- it begins, or why it does not is said
pub begun_under : (new : Machine) (c : ℕ) (name : List ℕ) (t u : TaskNo) (o : Option (List ℕ)) (m : Moment) → t ≡ u
    → o ≡ begin_refusal name t m.system → StandsAt new (begin_unless o c name t m) → StandsAt new (begin_under c name u m)
begun_under new c name t u o m same is h =
    subst (λ v. StandsAt new (begin_under c name v m)) same (subst (λ r. StandsAt new (begin_unless r c name t m)) is h)
