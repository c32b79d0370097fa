-- What the lines of a session bring about.
use Rattle.std.specs.Prelude.{ℕ, ◌+◌, ◌-◌, ◌*◌, Bool, false, ◌&&◌, ◌==◌, nat_le, nat_lt, if◌then◌else◌, List, [], ◌∷◌, length, fold, Option, Some, None}
use Rattle.std.specs.Prelude.{option_map}
use Rattle.std.specs.List.{list_all}
use Rattle.session_text.specs.declared.events.Event.{Event}
use Rattle.session_text.specs.declared.events.Event.TheVariants.{Line, Supervisor, Turns, Fixpoint, Shut}
use Rattle.session_text.specs.declared.lines.TheConstants.{PLAIN_TURNS, MOST_TURNS}
use Rattle.task_numbers.specs.declared.limits.TheConstants.{LONGEST_LINE}

abbrev pub is_digit : ℕ → Bool
is_digit b = nat_le 48 b && nat_le b 57

-- a digit more
abbrev pub more : ℕ → ℕ → ℕ
more n d = n * 10 + (d - 48)

-- the number that decimal digits spell
abbrev pub number_of : List ℕ → ℕ
number_of digits = fold more 0 digits

-- digits, the first of them another than 0
abbrev pub is_count : List ℕ → Bool
is_count [] = false
is_count (d ∷ digits) = nat_lt 48 d && list_all is_digit (d ∷ digits)

abbrev pub at_most_turns : ℕ → Option ℕ
at_most_turns n = if nat_le n MOST_TURNS then Some n else None

-- how many turns digits ask for: a number from 1 to 10,000, without a leading zero
abbrev pub turns : List ℕ → Option ℕ
turns digits = if is_count digits then at_most_turns (number_of digits) else None

-- a line for a task has at most 250 bytes
abbrev pub text_line : ℕ → List ℕ → Option Event
text_line channel text = if nat_le (length text) LONGEST_LINE then Some (Line channel text) else None

abbrev pub alone : Event → List Event
alone e = e ∷ []

-- behind the digit of a channel: `>` and a line, or `^`
abbrev pub addressed : ℕ → List ℕ → Option (List Event)
addressed channel [] = None
addressed channel (mark ∷ text) =
    if mark == 62 then option_map alone (text_line channel text)
    else if mark == 94 && length text == 0 then Some (alone (Supervisor channel))
    else None

-- `!` and `.` stand alone
abbrev pub sign : ℕ → List ℕ → Option (List Event)
sign b (c ∷ rest) = None
sign b [] = if b == 33 then Some (alone Fixpoint) else if b == 46 then Some (alone Shut) else None

-- the form with channels: nothing, `c>` and a line, `c^`, `*` and a number, `!` and `.`
abbrev pub tagged : List ℕ → Option (List Event)
tagged [] = Some []
tagged (b ∷ rest) =
    if nat_le 49 b && nat_le b 52 then addressed (b - 48) rest
    else if b == 42 then option_map (λ n. alone (Turns n)) (turns rest)
    else sign b rest

-- behind `!` in the plain form: nothing, `!` or `^`
abbrev pub marked : List ℕ → Option (List Event)
marked [] = Some (alone Fixpoint)
marked (b ∷ []) = if b == 33 then Some (alone Shut) else if b == 94 then Some (alone (Supervisor 1)) else None
marked (b ∷ (c ∷ rest)) = None

-- the plain form, in which each line goes to channel 1 and turns follow it
abbrev pub plain_events : List ℕ → Option (List Event)
plain_events [] = Some (alone (Turns PLAIN_TURNS))
plain_events (b ∷ rest) =
    if b == 33 then marked rest
    else option_map (λ e. e ∷ (Turns PLAIN_TURNS ∷ [])) (text_line 1 (b ∷ rest))

abbrev pub events_of : Bool → List ℕ → Option (List Event)
events_of plain line = if plain then plain_events line else tagged line
