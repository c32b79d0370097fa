-- The ready list stays a rotation.
use Rattle.std.proofs.Common.{◌≡◌, ◌<◌, ℕ, true, false, not, List, length, get_or, take, sym, subst, arith, ◌∙◌}
use Rattle.std.proofs.lemmas.Grind.{common_steps}
use Rattle.std.proofs.lemmas.List.{get_or-take, get_or_default, length-take-le}
use Rattle.std.proofs.lemmas.List.Folds.{list_any_none}
use Rattle.std.proofs.lemmas.List.Kept.{AllPairs-filter}
use Rattle.std.proofs.lemmas.List.Sums.{length-filter, count_by-le-length}
use Rattle.task_numbers.specs.declared.number.TaskNo.{TaskNo}
use Rattle.task_numbers.specs.Numbers.{is_task}
use Rattle.slicer.specs.Rotation.{IsRotation, has_place, is_ready, without}

pub without_turns : (t : TaskNo) (ready : List TaskNo) → IsRotation ready → IsRotation (without t ready)
without_turns t ready r = record {
  few = let most = count_by-le-length (λ u. not (is_task u t)) ready in omega (arith, most, r.few, length-filter (λ u. not (is_task u t)) ready);
  apart = AllPairs-filter (λ u v. is_task u v ≡ false) (λ u. not (is_task u t)) ready r.apart;
}

-- each task of a rotation has a place behind those before it
pub each_has_place : (ready : List TaskNo) (k : ℕ) (d : TaskNo) → IsRotation ready → k < length ready → has_place (get_or ready k d) (take k ready) ≡ true
each_has_place ready k d r lt = grind (arith, common_steps, long, fresh, r.few, lt)
  where
    long : length (take k ready) ≡ k
    long = length-take-le k ready (omega (arith, lt))

    fresh : is_ready (get_or ready k d) (take k ready) ≡ false
    fresh = list_any_none (λ u. is_task u (get_or ready k d)) (take k ready)
        (λ i e less. let before : i < k = omega (arith, long, less) in
        subst (λ u. is_task u (get_or ready k d) ≡ false) (sym (get_or-take k ready i e before ∙ get_or_default ready i e d (omega (arith, before, lt))))
        (r.apart i k d before lt))
