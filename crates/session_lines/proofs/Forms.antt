-- A line that is too long is of no form.
use Rattle.std.proofs.Common.{◌≡◌, ℕ, ◌+◌, ◌-◌, ◌*◌, ◌<◌, ◌≤◌, Bool, true, false, ◌&&◌, ◌==◌, nat_le, nat_lt, List, [], ◌∷◌, length, fold, Some, None, if◌then◌else◌, refl, ap, arith}
use Rattle.std.specs.Prelude.{option_map}
use Rattle.std.specs.List.{list_all}
use Rattle.std.proofs.lemmas.Bool.Decides.{nat_tests}
use Rattle.task_numbers.specs.declared.limits.TheConstants.{LONGEST_LINE}
use Rattle.session_text.specs.declared.events.Event.TheVariants.{Supervisor, Turns}
use Rattle.session_text.specs.declared.lines.TheConstants.{PLAIN_TURNS}
use Rattle.session_text.specs.Lines as spec
use Rattle.session_lines.specs.declared.reader.TheConstants.{LONGEST}

-- with each digit more a number grows, by nine times what it was
grows : (digits : List ℕ) (n : ℕ) → 10 ≤ n → n + 90 * length digits ≤ fold spec.more n digits
grows [] n h = omega arith
grows (d ∷ digits) n h = omega (arith, h, grows digits (spec.more n d) (omega (arith, h)))

-- so many digits ask for too many turns
turns-long : (digits : List ℕ) → LONGEST_LINE < length digits → spec.turns digits ≡ None
turns-long [] long = absurd (omega arith)
turns-long (d ∷ []) long = absurd (omega arith)
turns-long (d ∷ (e ∷ digits)) long = by (nat_lt 48 d) (list_all spec.is_digit (d ∷ (e ∷ digits))) refl
  where
    by : (some all : Bool) → nat_lt 48 d ≡ some
        → (if (some && all) then spec.at_most_turns (spec.number_of (d ∷ (e ∷ digits))) else None) ≡ None
    by false all s = refl
    by true false s = refl
    by true true s =
        let large : 48 < d = grind (arith, nat_tests, s) in
        let most : 10000 < spec.number_of (d ∷ (e ∷ digits)) =
        omega (arith, long, large, grows digits (spec.more (spec.more 0 d) e) (omega (arith, large))) in
        grind (arith, nat_tests, most)

text-long : (channel : ℕ) (text : List ℕ) → LONGEST_LINE < length text → spec.text_line channel text ≡ None
text-long channel text long = grind (arith, nat_tests, long)

addressed-long : (channel : ℕ) (rest : List ℕ) → LONGEST_LINE + 1 < length rest → spec.addressed channel rest ≡ None
addressed-long channel [] long = absurd (omega arith)
addressed-long channel (mark ∷ text) long = by (mark == 62) (mark == 94) (length text == 0) refl
  where
    by : (line calls none : Bool) → (length text == 0) ≡ none
        → (if line then option_map spec.alone (spec.text_line channel text) else if (calls && none) then Some (spec.alone (Supervisor channel)) else None) ≡ None
    by true calls none n = ap (option_map spec.alone) (text-long channel text (omega arith))
    by false false none n = refl
    by false true false n = refl
    by false true true n = absurd (grind (arith, nat_tests, n, long))

tagged-long : (line : List ℕ) → LONGEST < length line → spec.tagged line ≡ None
tagged-long [] long = absurd (omega arith)
tagged-long (b ∷ []) long = absurd (omega arith)
tagged-long (b ∷ (c ∷ rest)) long = by (nat_le 49 b && nat_le b 52) (b == 42)
  where
    by : (channel star : Bool)
        → (if channel then spec.addressed (b - 48) (c ∷ rest) else if star then option_map (λ n. spec.alone (Turns n)) (spec.turns (c ∷ rest)) else spec.sign b (c ∷ rest)) ≡ None
    by true star = addressed-long (b - 48) (c ∷ rest) (omega arith)
    by false true = ap (option_map (λ n. spec.alone (Turns n))) (turns-long (c ∷ rest) (omega arith))
    by false false = refl

plain-long : (line : List ℕ) → LONGEST < length line → spec.plain_events line ≡ None
plain-long [] long = absurd (omega arith)
plain-long (b ∷ []) long = absurd (omega arith)
plain-long (b ∷ (c ∷ [])) long = absurd (omega arith)
plain-long (b ∷ (c ∷ (d ∷ rest))) long = by (b == 33)
  where
    by : (mark : Bool)
        → (if mark then spec.marked (c ∷ (d ∷ rest)) else option_map (λ e. e ∷ (Turns PLAIN_TURNS ∷ [])) (spec.text_line 1 (b ∷ (c ∷ (d ∷ rest))))) ≡ None
    by true = refl
    by false = ap (option_map (λ e. e ∷ (Turns PLAIN_TURNS ∷ []))) (text-long 1 (b ∷ (c ∷ (d ∷ rest))) (omega arith))

-- a line that is too long is of no form
pub no_form : (plain : Bool) (line : List ℕ) → LONGEST < length line → spec.events_of plain line ≡ None
no_form true line long = plain-long line long
no_form false line long = tagged-long line long
