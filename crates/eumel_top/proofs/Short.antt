-- The events of a line are no longer than an event can be.
use Rattle.std.proofs.Common.{◌≡◌, ℕ, ◌-◌, ◌≤◌, Bool, true, false, ◌&&◌, ◌==◌, nat_le, List, [], ◌∷◌, ◌++◌, length, Option, Some, None, if◌then◌else◌, refl, subst, arith}
use Rattle.std.specs.Prelude.{option_map}
use Rattle.std.proofs.lemmas.Bool.Decides.{nat_tests}
use Rattle.eumel_top.specs.Below.task_numbers.specs.declared.limits.TheConstants.{LONGEST_LINE}
use Rattle.session_text.specs.declared.events.Event.{Event}
use Rattle.session_text.specs.declared.events.Event.TheVariants.{Line, Supervisor, Turns, Fixpoint, Shut}
use Rattle.session_text.specs.declared.lines.TheConstants.{PLAIN_TURNS}
use Rattle.session_text.specs.Lines as spec
use Rattle.system.specs.Systems.{IsShort}
use Rattle.eumel_top.specs.Serving.{AreShort}

abbrev AreShortIn : Option (List Event) → Type 0
AreShortIn None = Unit {0}
AreShortIn (Some events) = AreShort events

-- one of them
last : (es : List Event) (e : Event) (fs : List Event) → AreShort ((es ++ e ∷ []) ++ fs) → IsShort e
last [] e fs short = short.0
last (d ∷ es) e fs short = last es e fs short.1

-- a line for a task
text-line : (channel : ℕ) (text : List ℕ) → 1 ≤ channel → channel ≤ 4 → (f : Event → List Event) → ((e : Event) → IsShort e → AreShort (f e))
    → AreShortIn (option_map f (spec.text_line channel text))
text-line channel text some few f keeps = by (nat_le (length text) LONGEST_LINE) refl
  where
    by : (short : Bool) → nat_le (length text) LONGEST_LINE ≡ short → AreShortIn (option_map f (if short then Some (Line channel text) else None))
    by true is =
        let most : length text ≤ LONGEST_LINE = grind (arith, nat_tests, is) in
        keeps (Line channel text) (some, few, most)
    by false is = tt

-- so many turns
some-turns : (turns : Option ℕ) → AreShortIn (option_map (λ n. spec.alone (Turns n)) turns)
some-turns None = tt
some-turns (Some n) = (tt, tt)

addressed : (channel : ℕ) (rest : List ℕ) → 1 ≤ channel → channel ≤ 4 → AreShortIn (spec.addressed channel rest)
addressed channel [] some few = tt
addressed channel (mark ∷ line) some few = by (mark == 62) (mark == 94 && length line == 0)
  where
    by : (goes calls : Bool)
        → AreShortIn (if goes then option_map spec.alone (spec.text_line channel line) else if calls then Some (spec.alone (Supervisor channel)) else None)
    by true calls = text-line channel line some few spec.alone (λ e short. (short, tt))
    by false true = ((some, few), tt)
    by false false = tt

sign : (b : ℕ) (rest : List ℕ) → AreShortIn (spec.sign b rest)
sign b (c ∷ rest) = tt
sign b [] = by (b == 33) (b == 46)
  where
    by : (mark dot : Bool) → AreShortIn (if mark then Some (spec.alone Fixpoint) else if dot then Some (spec.alone Shut) else None)
    by true dot = (tt, tt)
    by false true = (tt, tt)
    by false false = tt

tagged : (line : List ℕ) → AreShortIn (spec.tagged line)
tagged [] = tt
tagged (b ∷ rest) = by (nat_le 49 b) (nat_le b 52) (b == 42) refl refl
  where
    others : (star : Bool) → AreShortIn (if star then option_map (λ n. spec.alone (Turns n)) (spec.turns rest) else spec.sign b rest)
    others true = some-turns (spec.turns rest)
    others false = sign b rest

    by : (low high star : Bool) → nat_le 49 b ≡ low → nat_le b 52 ≡ high
        → AreShortIn (if low && high then spec.addressed (b - 48) rest else if star then option_map (λ n. spec.alone (Turns n)) (spec.turns rest) else spec.sign b rest)
    by true true star l h =
        let some : 1 ≤ b - 48 = grind (arith, nat_tests, l) in
        let few : b - 48 ≤ 4 = grind (arith, nat_tests, h) in
        addressed (b - 48) rest some few
    by true false star l h = others star
    by false high star l h = others star

marked : (rest : List ℕ) → AreShortIn (spec.marked rest)
marked [] = (tt, tt)
marked (b ∷ []) = by (b == 33) (b == 94)
  where
    by : (mark calls : Bool) → AreShortIn (if mark then Some (spec.alone Shut) else if calls then Some (spec.alone (Supervisor 1)) else None)
    by true calls = (tt, tt)
    by false true = ((omega arith, omega arith), tt)
    by false false = tt
marked (b ∷ (c ∷ rest)) = tt

plain-line : (line : List ℕ) → AreShortIn (spec.plain_events line)
plain-line [] = (tt, tt)
plain-line (b ∷ rest) = by (b == 33)
  where
    by : (mark : Bool) → AreShortIn (if mark then spec.marked rest else option_map (λ e. e ∷ (Turns PLAIN_TURNS ∷ [])) (spec.text_line 1 (b ∷ rest)))
    by true = marked rest
    by false = text-line 1 (b ∷ rest) (omega arith) (omega arith) (λ e. e ∷ (Turns PLAIN_TURNS ∷ [])) (λ e short. (short, (tt, tt)))

of-line : (plain : Bool) (line : List ℕ) → AreShortIn (spec.events_of plain line)
of-line true line = plain-line line
of-line false line = tagged line

-- each event of a line
pub line_short : (plain : Bool) (line : List ℕ) (events : List Event) → spec.events_of plain line ≡ Some events → AreShort events
line_short plain line events is = subst AreShortIn is (of-line plain line)

-- the event behind some
pub next_short : (all first : List Event) (event : Event) (rest : List Event) → all ≡ (first ++ event ∷ []) ++ rest → AreShort all → IsShort event
next_short all first event rest parts short = last first event rest (subst AreShort parts short)
