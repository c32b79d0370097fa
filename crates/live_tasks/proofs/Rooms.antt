-- Room for a data space in the place of one that lives.
use Rattle.std.proofs.Common.{◌≡◌, ℕ, ◌<◌, ◌≤◌, Bool, true, false, cond, nat_eq, nat_le, List, [], ◌∷◌, length, Option, Some, None, sym, ap, ◌∙◌, arith, if◌then◌else◌}
use Rattle.std.specs.Prelude.{is_some}
use Rattle.std.specs.Map.{lookup, remove_entry}
use Rattle.std.proofs.lemmas.Bool.{false≢true}
use Rattle.std.proofs.lemmas.Bool.Decides.{nat_tests}
use Rattle.task_numbers.specs.declared.number.SpaceNo.{SpaceNo}
use Rattle.eu_base.specs.declared.value.Kind.{Kind}
use Rattle.eu_base.specs.declared.stop.Stop.{Stop}
use Rattle.eu_base.specs.declared.stop.Stop.TheVariants.{ManySpaces, SpaceNumbers}
use Rattle.eu_base.specs.DataSpaces.{Heads, head_of, heads_of, is_live, without_space, most_live, last_number}
use Rattle.eu_base.specs.SpaceOperations.{room_refusal}
use Rattle.eu_base.proofs.Heads.{long_heads}
use Rattle.page_pool.specs.Pool.{Pages}
use Rattle.live_tasks.specs.Below.system_meaning.specs.Tasks.{Own, now}
use Rattle.live_tasks.specs.Below.live_task.specs.declared.task.Task.{Task}
use Rattle.live_tasks.specs.Below.live_task.specs.Stands.{StandsFor}
use Rattle.live_tasks.specs.Below.task_texts.proofs.Seen.{heads_now, many_spaces}

-- by how many live, and the last number
abbrev pub refusal_of : ℕ → ℕ → Option Stop
refusal_of count last = if nat_le most_live count then Some ManySpaces else if nat_le last_number last then Some SpaceNumbers else None

-- one that lives goes
less_one : {T : Type 0} (test : ℕ → Bool) (xs : List (ℕ × T)) → is_some (lookup test xs) ≡ true → length (remove_entry test xs) < length xs
less_one test [] live = absurd (false≢true live)
less_one {T} test (e ∷ xs) live = by (test e.0) live (less_one test xs)
  where
    by : (b : Bool) → is_some (cond b (Some e.1) (lookup test xs)) ≡ true → (is_some (lookup test xs) ≡ true → length (remove_entry test xs) < length xs)
        → length (cond b xs (e ∷ remove_entry test xs)) < length (e ∷ xs)
    by true found rest = omega arith
    by false found rest = let less = rest found in omega (arith, less)

has_room : (n : ℕ) → n < 16 → nat_le 16 n ≡ false
has_room n few = grind (arith, nat_tests)

pub room_without : (kinds : List Kind) (pages : Pages) (task : Task) (own : Own) → StandsFor kinds pages task own → (s : SpaceNo)
    → length task.memory.spaces ≤ 16 → is_live s (now own.doing).spaces ≡ true
    → refusal_of 0 task.memory.last ≡ room_refusal (heads_of (without_space s (now own.doing).spaces))
room_without kinds pages task own h s few live =
    ap (λ (n : ℕ). refusal_of 0 n) (ap (λ (u : Heads). u.last) (heads_now kinds pages task own h))
    ∙ ap (λ (b : Bool). if b then Some ManySpaces else if nat_le last_number (now own.doing).spaces.last then Some SpaceNumbers else None) (sym open_room)
  where
    left : length (heads_of (without_space s (now own.doing).spaces)).live < 16
    left =
        omega (
          arith,
          few,
          many_spaces kinds pages task own h,
          less_one (nat_eq s.0) (now own.doing).spaces.live live,
          long_heads head_of (remove_entry (nat_eq s.0) (now own.doing).spaces.live),
        )

    open_room : nat_le most_live (length (heads_of (without_space s (now own.doing).spaces)).live) ≡ false
    open_room = has_room (length (heads_of (without_space s (now own.doing).spaces)).live) left
