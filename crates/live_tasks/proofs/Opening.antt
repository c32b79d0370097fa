-- The first two tasks.
use Rattle.std.proofs.Common.{◌≡◌, ℕ, zero, suc, ◌+◌, ◌≤◌, List, [], ◌∷◌, ◌++◌, length, refl, sym, subst, arith}
use Rattle.std.specs.List.{All}
use Rattle.std.proofs.lemmas.List.{length-append}
use Rattle.std.proofs.lemmas.List.Elements.{All-from_recursion}
use Rattle.eu_base.specs.declared.value.Kind.{Kind}
use Rattle.page_pool.specs.Pool.{Pages}
use Rattle.live_tasks.specs.Below.task_job.specs.Here.{Knows, Frames}
use Rattle.live_tasks.specs.Below.page_table.specs.Sharing.{Agree}
use Rattle.live_tasks.specs.Below.page_table.proofs.Framing.{nil_agree}
use Rattle.live_tasks.specs.Below.space_memory.specs.Memories.{most_roots}
use Rattle.live_tasks.specs.Below.live_task.specs.declared.task.Task.{Task}
use Rattle.live_tasks.specs.Below.live_task.specs.Stands.{StandsFor, IsSound}
use Rattle.live_tasks.specs.Below.system_meaning.specs.Systems.{new_own}
use Rattle.live_tasks.specs.Tasks.{IsFit, StandIn, task_roots}

-- a pool that was just made
abbrev pub empty : Pages
empty = record { slots = []; clean = [] }

pub empty_known : Knows empty
empty_known = record { told = refl; kept = λ p block bytes home has. absurd (cc home) }

module _ (first second : Task) (one : length (task_roots first) ≡ 2) (two : length (task_roots second) ≡ 2)
    (none : (pages : Pages) → Frames pages pages [] (task_roots first)) (nil : (pages : Pages) → Frames pages pages [] (task_roots second))
    (sound : IsSound first) (safe : IsSound second) where
  with_second : Agree empty (task_roots second ++ [])
  with_second = ((nil empty).frame [] (nil_agree [] (λ p. refl) (omega arith)) (omega (arith, two, length-append (task_roots second) []))).agrees

  with_both : Agree empty (task_roots first ++ (task_roots second ++ []))
  with_both =
      ((none empty).frame (task_roots second ++ []) with_second
      (omega (arith, one, two, length-append (task_roots second) [], length-append (task_roots first) (task_roots second ++ [])))).agrees

  pub opening_fits : IsFit empty (first ∷ (second ∷ []))
  opening_fits = record {
    agree = ∣ with_both ∣₁;
    few = omega arith;
    small =
        All-from_recursion (λ t. length (task_roots t) ≤ most_roots) (first ∷ (second ∷ [])) (omega (arith, one), (omega (arith, two), tt));
    sound = All-from_recursion IsSound (first ∷ (second ∷ [])) (sound, (safe, tt));
  }

pub opening_stands : (kinds_of : List ℕ → List Kind) (pages : Pages) (first second : Task) → kinds_of [] ≡ [] → StandsFor [] pages first new_own
    → StandsFor [] pages second new_own → StandIn kinds_of pages (first ∷ (second ∷ [])) (new_own ∷ (new_own ∷ []))
opening_stands kinds_of pages first second none h k =
    (subst (λ (ks : List Kind). StandsFor ks pages first new_own) (sym none) h, (subst (λ (ks : List Kind). StandsFor ks pages second new_own) (sym none) k, tt))
