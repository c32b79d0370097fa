-- Couplings stay one to one.
use Rattle.std.proofs.Common.{◌≡◌, ℕ, ◌<◌, ◌≤◌, Bool, false, not, List, ◌⊎◌, inl, inr, length, get_or, set, None, sym, ap, ◌∙◌, subst, arith}
use Rattle.std.specs.List.{position, position_or_len}
use Rattle.std.proofs.lemmas.Bool.{false≢true, eq-eqb, cases_eq, cases_lt}
use Rattle.std.proofs.lemmas.Grind.{common_steps, get_or-set_at}
use Rattle.std.proofs.lemmas.List.{get_or-set_other, get_or_past, set_past}
use Rattle.std.proofs.lemmas.List.Sums.{prefix_len_passes, prefix_len-le-length}
use Rattle.task_numbers.specs.declared.number.TaskNo.{TaskNo}
use Rattle.task_numbers.specs.Numbers.{is_nil, is_task}
use Rattle.terminals.specs.Channels as spec
use Rattle.terminals.specs.Channels.{Channel, unused, is_at}
use Rattle.terminals.specs.Couplings.{task_at, IsOneToOne}

module _ (s : List Channel) (k : ℕ) (x : Channel) (within : k < length s) where
  written : (i : ℕ) → i ≡ k → task_at i (set s k x) ≡ x.task
  written i e = ap (λ c. c.task) (get_or-set_at s k i x unused e within)

  beside : (i : ℕ) → (i ≡ k → ⊥) → task_at i (set s k x) ≡ task_at i s
  beside i other = ap (λ c. c.task) (get_or-set_other s k i x unused other)

  coupled_within : IsOneToOne s → (is_nil x.task ≡ false → (j : ℕ) → is_task (task_at j s) x.task ≡ false) → IsOneToOne (set s k x)
  coupled_within one apart i j coupled alike = by (cases_eq i k) (cases_eq j k)
    where
      never : (j : ℕ) → is_nil x.task ≡ false → task_at j s ≡ x.task → ⊥
      never j some e = false≢true (sym (apart some j) ∙ eq-eqb _ _ (ap (λ t. t.0) e))

      by : (i ≡ k) ⊎ (i ≡ k → ⊥) → (j ≡ k) ⊎ (j ≡ k → ⊥) → i ≡ j
      by (inl e) (inl f) = e ∙ sym f
      by (inl e) (inr f) = absurd (never j (subst (λ t. is_nil t ≡ false) (written i e) coupled) (sym (beside j f) ∙ sym alike ∙ written i e))
      by (inr e) (inl f) = absurd (never i (subst (λ t. is_nil t ≡ false) (alike ∙ written j f) coupled) (sym (beside i e) ∙ alike ∙ written j f))
      by (inr e) (inr f) = one i j (subst (λ t. is_nil t ≡ false) (beside i e) coupled) (sym (beside i e) ∙ alike ∙ beside j f)

-- a channel gets a task which is at none
pub coupled_one_to_one : (s : List Channel) (k : ℕ) (x : Channel) → IsOneToOne s → (is_nil x.task ≡ false → (j : ℕ) → is_task (task_at j s) x.task ≡ false)
    → IsOneToOne (set s k x)
coupled_one_to_one s k x one apart = by (cases_lt k (length s))
  where
    by : (k < length s) ⊎ (length s ≤ k) → IsOneToOne (set s k x)
    by (inl within) = coupled_within s k x within one apart
    by (inr past) = subst IsOneToOne (sym (set_past s k x past)) one

-- where a test has no place, it passes at none
passes_nowhere : {X : Type 0} (p : X → Bool) (xs : List X) (j : ℕ) (d : X) → position p xs ≡ None → p d ≡ false → p (get_or xs j d) ≡ false
passes_nowhere p xs j d none past = by (cases_lt j (length xs))
  where
    all : position_or_len p xs ≡ length xs
    all = let most = prefix_len-le-length (λ x. not (p x)) xs in grind (arith, common_steps, most, none)

    by : (j < length xs) ⊎ (length xs ≤ j) → p (get_or xs j d) ≡ false
    by (inl lt) = let passed = prefix_len_passes (λ x. not (p x)) xs j d (omega (arith, all, lt)) in grind (arith, passed)
    by (inr le) = ap p (get_or_past xs j d le) ∙ past

-- a task that has no channel is at none
pub at_none : (s : List Channel) (t : TaskNo) (j : ℕ) → spec.channel_of t s ≡ None → is_nil t ≡ false → is_task (task_at j s) t ≡ false
at_none s t j none some = passes_nowhere (is_at t) s j unused (grind (arith, none, some)) (grind (arith, some))
