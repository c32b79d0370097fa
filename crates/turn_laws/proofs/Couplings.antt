-- Which channel a task is coupled to.
use Rattle.std.proofs.Common.{◌≡◌, ℕ, suc, ◌+◌, ◌-◌, ◌<◌, Bool, true, false, cond, not, ltb, List, [], ◌∷◌, length, drop, get_or, set, Option, Some, None, if◌then◌else◌}
use Rattle.std.proofs.Common.{refl, sym, ap, ◌∙◌, ◌⊎◌, inl, inr, arith}
use Rattle.std.specs.Prelude.{option_map}
use Rattle.std.specs.List.{position, position_or_len}
use Rattle.std.proofs.lemmas.Bool.{false≢true, ltb-true, cases_eq, ne_eqb, eqb-true, eq-eqb}
use Rattle.std.proofs.lemmas.Grind.{get_or-set_at}
use Rattle.std.proofs.lemmas.List.{get_or-set_other, length-set}
use Rattle.std.proofs.lemmas.List.Folds.{position_or_len-set}
use Rattle.std.proofs.lemmas.Option.{none-some, same_Some}
use Rattle.turn_laws.specs.Below.task_numbers.specs.declared.number.TaskNo.{TaskNo}
use Rattle.turn_laws.specs.Below.task_numbers.specs.Numbers.{niltask, is_nil, is_task}
use Rattle.turn_laws.specs.Below.terminals.specs.Channels.{Channel, unused, is_at, channel, channel_of, alone, uncoupled, unqueued, without_line}
use Rattle.turn_laws.specs.Below.terminals.specs.Couplings.{task_at, IsOneToOne}
use Rattle.turn_laws.proofs.Found.{same_task}

passes_at : {X : Type 0} (p : X → Bool) (xs : List X) (d : X) → position_or_len p xs < length xs → p (get_or xs (position_or_len p xs) d) ≡ true
passes_at p [] d lt = absurd (omega (arith, lt))
passes_at p (x ∷ xs) d lt = by (p x) refl lt (passes_at p xs d)
  where
    by : (b : Bool) → p x ≡ b → cond (not b) (1 + position_or_len p xs) 0 < length (x ∷ xs)
        → (position_or_len p xs < length xs → p (get_or xs (position_or_len p xs) d) ≡ true)
        → p (get_or (x ∷ xs) (cond (not b) (1 + position_or_len p xs) 0) d) ≡ true
    by true is lt later = is
    by false is lt later =
        let more : 1 + position_or_len p xs ≡ suc (position_or_len p xs) = omega arith in
        ap (λ (k : ℕ). p (get_or (x ∷ xs) k d)) more ∙ later (omega (arith, lt))

-- the task is coupled to this channel
pub record IsAt (k : ℕ) (t : TaskNo) (s : List Channel) : Type 0 where
  pub some : is_nil t ≡ false
  pub from : 0 < k
  pub within : k - 1 < length s
  pub task : task_at (k - 1) s ≡ t

pub is_at_channel : (k : ℕ) (t : TaskNo) (s : List Channel) → channel_of t s ≡ Some k → IsAt k t s
is_at_channel k t s at = by (is_nil t) refl at
  where
    i : ℕ
    i = position_or_len (is_at t) s

    of : is_nil t ≡ false → (b : Bool) → ltb i (length s) ≡ b → option_map (λ k. k + 1) (cond b (Some i) None) ≡ Some k → IsAt k t s
    of some true less at =
        let is : i + 1 ≡ k = same_Some (i + 1) k at in
        let place : k - 1 ≡ i = omega (arith, is) in
        let low = ltb-true i (length s) less in
        record {
          some = some;
          from = omega (arith, is);
          within = omega (arith, place, low);
          task = ap (λ (j : ℕ). task_at j s) place ∙ same_task (task_at i s) t (passes_at (is_at t) s unused low);
        }
    of some false less at = absurd (none-some k at)

    by : (b : Bool) → is_nil t ≡ b → (if b then None else option_map (λ k. k + 1) (position (is_at t) s)) ≡ Some k → IsAt k t s
    by true some at = absurd (none-some k at)
    by false some at = of some (ltb i (length s)) refl at

-- a channel that had the task still has it, and one that had not still has not
stays_at : (t : TaskNo) (s : List Channel) (i : ℕ) (y : Channel) → is_at t y ≡ is_at t (get_or s i unused) → channel_of t (set s i y) ≡ channel_of t s
stays_at t s i y same =
    ap (λ (o : Option ℕ). if is_nil t then None else option_map (λ k. k + 1) o)
    (ap (λ (j : ℕ). cond (ltb j (length (set s i y))) (Some j) None) (position_or_len-set (is_at t) s i y unused same)
    ∙ ap (λ (l : ℕ). cond (ltb (position_or_len (is_at t) s) l) (Some (position_or_len (is_at t) s)) None) (length-set s i y))

pub unqueued_at : (t : TaskNo) (k : ℕ) (s : List Channel) → channel_of t (unqueued k s) ≡ channel_of t s
unqueued_at t k s = stays_at t s (k - 1) (without_line (channel k s)) refl

pub unqueued_queue : (k : ℕ) (s : List Channel) → k - 1 < length s → (channel k (unqueued k s)).queue ≡ drop 1 (channel k s).queue
unqueued_queue k s within = ap (λ (c : Channel). c.queue) (get_or-set_at s (k - 1) (k - 1) (without_line (channel k s)) unused refl within)

-- niltask is no task
no_task : (t : TaskNo) → is_nil t ≡ false → is_task niltask t ≡ false
no_task t some = ne_eqb 0 t.0 (λ e. false≢true (sym some ∙ eq-eqb t.0 0 (sym e)))

-- another channel is uncoupled
pub uncoupled_at : (t : TaskNo) (j : ℕ) (s : List Channel) → is_nil t ≡ false → is_task (channel j s).task t ≡ false → channel_of t (uncoupled j s) ≡ channel_of t s
uncoupled_at t j s some other = stays_at t s (j - 1) (alone (channel j s)) (no_task t some ∙ sym other)

pub uncoupled_beside : (k j : ℕ) (s : List Channel) → (k - 1 ≡ j - 1 → ⊥) → channel k (uncoupled j s) ≡ channel k s
uncoupled_beside k j s other = get_or-set_other s (j - 1) (k - 1) (alone (channel j s)) unused other

-- the task's own channel is uncoupled
pub uncoupled_free : (k : ℕ) (s : List Channel) → k - 1 < length s → is_nil (channel k (uncoupled k s)).task ≡ true
uncoupled_free k s within = ap (λ (c : Channel). is_nil c.task) (get_or-set_at s (k - 1) (k - 1) (alone (channel k s)) unused refl within)

pub uncoupled_none : (k : ℕ) (t : TaskNo) (s : List Channel) → IsOneToOne s → channel_of t s ≡ Some k → channel_of t (uncoupled k s) ≡ None
uncoupled_none k t s one at = by (channel_of t (uncoupled k s)) refl
  where
    here : IsAt k t s
    here = is_at_channel k t s at

    where_else : (j : ℕ) → IsAt j t (uncoupled k s) → (j - 1 ≡ k - 1) ⊎ (j - 1 ≡ k - 1 → ⊥) → ⊥
    where_else j there (inl same) =
        false≢true (sym here.some ∙ (ap is_nil (sym there.task) ∙ (ap (λ (i : ℕ). is_nil (task_at i (uncoupled k s))) same ∙ uncoupled_free k s here.within)))
    where_else j there (inr other) =
        let was : task_at (j - 1) s ≡ t = sym (ap (λ (c : Channel). c.task) (get_or-set_other s (k - 1) (j - 1) (alone (channel k s)) unused other)) ∙ there.task in
        other (one (j - 1) (k - 1) (ap is_nil was ∙ here.some) (was ∙ sym here.task))

    by : (o : Option ℕ) → channel_of t (uncoupled k s) ≡ o → o ≡ None
    by None e = refl
    by (Some j) e = absurd (where_else j (is_at_channel j t (uncoupled k s) e) (cases_eq (j - 1) (k - 1)))

-- one that no channel has, and one that another has
pub others_at : (k : ℕ) (u w : TaskNo) (s : List Channel) → channel_of u s ≡ Some k → is_task w u ≡ false → is_task (channel k s).task w ≡ false
others_at k u w s at other =
    ap (λ (t : TaskNo). is_task t w) (is_at_channel k u s at).task
    ∙ ne_eqb u.0 w.0 (λ e. false≢true (sym other ∙ eq-eqb w.0 u.0 (sym e)))

pub free_at : (k : ℕ) (w : TaskNo) (s : List Channel) → is_nil (channel k s).task ≡ true → is_nil w ≡ false → is_task (channel k s).task w ≡ false
free_at k w s free some =
    ne_eqb (channel k s).task.0 w.0 (λ e. false≢true (sym some ∙ eq-eqb w.0 0 (sym e ∙ eqb-true (channel k s).task.0 0 free)))
