-- Receivers stay by number.
use Rattle.std.proofs.Common.{◌≡◌, ◌+◌, ◌<◌, ◌≤◌, Bool, true, not, nat_le, List, [], ◌∷◌, ◌++◌, ◌⊎◌, inl, inr, length, get_or, insert, ap, arith}
use Rattle.std.specs.List.{position_or_len}
use Rattle.std.proofs.lemmas.Bool.{cases_lt}
use Rattle.std.proofs.lemmas.List.{get_or_append_left, get_or_push, length_push}
use Rattle.std.proofs.lemmas.List.Sorted.{IsNonDecreasingBy-insert}
use Rattle.std.proofs.lemmas.List.Sums.{AllPass-from_list_all, prefix_len_passes, prefix_len_stops, prefix_len-le-length}
use Rattle.message_wait.specs.declared.waits.Receiver.{Receiver}
use Rattle.message_wait.specs.Rendezvous as spec
use Rattle.message_wait.specs.Rows.{is_last}

pub entered_by_number : (rs : List Receiver) (r : Receiver) → spec.AreByNumber rs → spec.AreByNumber (insert rs (position_or_len (spec.is_after r.task) rs) r)
entered_by_number rs r sorted =
    IsNonDecreasingBy-insert spec.number_of rs _ r sorted (prefix_len-le-length before rs)
    (λ k d lt. let passed = prefix_len_passes before rs k d lt in grind (arith, passed))
    (λ k d le lt. let stopped = prefix_len_stops before rs d (omega (arith, le, lt)) in let later = sorted _ k d le lt in grind (arith, stopped, later))
  where
    before : Receiver → Bool
    before x = not (spec.is_after r.task x)

-- a receiver with a number that none is above comes last
pub pushed_by_number : (rs : List Receiver) (r : Receiver) → spec.AreByNumber rs → is_last r.task rs ≡ true → spec.AreByNumber (rs ++ r ∷ [])
pushed_by_number rs r sorted last i j d le lt = by (cases_lt j (length rs))
  where
    long : length (rs ++ r ∷ []) ≡ length rs + 1
    long = length_push rs r

    by : (j < length rs) ⊎ (length rs ≤ j) → (get_or (rs ++ r ∷ []) i d).task.0 ≤ (get_or (rs ++ r ∷ []) j d).task.0
    by (inl within) =
        let first = ap spec.number_of (get_or_append_left rs (r ∷ []) d i (omega (arith, le, within))) in
        let second = ap spec.number_of (get_or_append_left rs (r ∷ []) d j within) in
        omega (arith, first, second, sorted i j d le within)
    by (inr past) = here (cases_lt i (length rs))
      where
        second : (get_or (rs ++ r ∷ []) j d).task.0 ≡ r.task.0
        second = ap spec.number_of (get_or_push rs r d j (omega (arith, long, past, lt)))

        here : (i < length rs) ⊎ (length rs ≤ i) → (get_or (rs ++ r ∷ []) i d).task.0 ≤ (get_or (rs ++ r ∷ []) j d).task.0
        here (inl within) =
            let first = ap spec.number_of (get_or_append_left rs (r ∷ []) d i within) in
            let passed = AllPass-from_list_all (λ (x : Receiver). nat_le x.task.0 r.task.0) rs last i d within in
            let low : (get_or rs i d).task.0 ≤ r.task.0 = grind (arith, passed) in omega (arith, first, second, low)
        here (inr behind) = let same = ap spec.number_of (get_or_push rs r d i (omega (arith, long, behind, le, lt))) in omega (arith, same, second)
