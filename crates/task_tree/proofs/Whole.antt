-- The tree stays whole.
use Rattle.std.proofs.Common.{◌≡◌, ℕ, ◌+◌, ◌<◌, true, false, not, List, [], ◌∷◌, length, get_or, All, ap, ◌∙◌, arith}
use Rattle.std.specs.List.{list_any}
use Rattle.std.proofs.lemmas.Bool.{eqb-true}
use Rattle.std.proofs.lemmas.Grind.{common_steps}
use Rattle.std.proofs.lemmas.List.Elements.{All-filter, All-push}
use Rattle.std.proofs.lemmas.List.Folds.{list_any-append, Any-from_list_any}
use Rattle.std.proofs.lemmas.Map.Views.{any-filter_same}
use Rattle.task_numbers.specs.declared.limits.TheConstants.{TASKS}
use Rattle.task_numbers.specs.declared.number.TaskNo.{TaskNo}
use Rattle.task_numbers.specs.Numbers.{niltask}
use Rattle.eu_base.specs.SpaceOperations.{is_name}
use Rattle.task_tree.specs.declared.task.Task.{Task}
use Rattle.task_tree.specs.Tree as spec
use Rattle.task_tree.specs.Trees.{IsGiven}
use Rattle.task_tree.specs.Whole.{IsRooted, IsNamed, IsWhole}
use Rattle.task_tree.proofs.Growing.{begun_is_tree, ended_is_tree}

-- a task that lives has a number that was given
pub living_is_given : (s : spec.Tree) (t : TaskNo) → All (IsGiven s.last) s.tasks → spec.lives t s ≡ true → (0 < t.0) × (t.0 < s.last + 1)
living_is_given s t given live =
    let found = Any-from_list_any (spec.has_number t) s.tasks live in
    let bounds = given found.0 found.1 found.2 in
    let here : (get_or s.tasks found.0 found.1).number.0 ≡ t.0 = ap (λ (u : Task). u.number.0) found.3 ∙ eqb-true found.1.number.0 t.0 found.4 in
    (omega (arith, bounds.0, here), omega (arith, bounds.1, here))

pub begun_is_whole : (s : spec.Tree) (name : List ℕ) (father : TaskNo) → IsWhole s → list_any (spec.has_name name) s.tasks ≡ false → length s.tasks < TASKS
    → spec.lives father s ≡ true → is_name name ≡ true → IsWhole (spec.begun name father s)
begun_is_whole s name father whole free room live named = record {
  grown = record {
    tree = begun_is_tree s name father whole.grown.tree free room live;
    rooted = All-push IsRooted s.tasks (spec.task (spec.next s) name father) whole.grown.rooted
        (let of_father = living_is_given s father whole.grown.tree.given live in let of_ur = living_is_given s (spec.number 1) whole.grown.tree.given whole.ur in
        grind (arith, of_father, of_ur));
    named = All-push IsNamed s.tasks (spec.task (spec.next s) name father) whole.grown.named named;
  };
  ur = grind (arith, common_steps, whole.ur, list_any-append (spec.has_number (spec.number 1)) s.tasks (spec.task (spec.next s) name father ∷ []));
}

pub ended_is_whole : (s : spec.Tree) (t : TaskNo) → IsWhole s → spec.son t s ≡ niltask → 2 < t.0 → IsWhole (spec.ended t s)
ended_is_whole s t whole none later = record {
  grown = record {
    tree = ended_is_tree s t whole.grown.tree none (grind (arith, later));
    rooted = All-filter (λ u. not (spec.has_number t u)) IsRooted s.tasks whole.grown.rooted;
    named = All-filter (λ u. not (spec.has_number t u)) IsNamed s.tasks whole.grown.named;
  };
  ur = any-filter_same (spec.has_number (spec.number 1)) (λ v. not (spec.has_number t v)) true (λ v same. grind (arith, same, later)) s.tasks ∙ whole.ur;
}
