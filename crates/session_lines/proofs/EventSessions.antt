-- What a line adds to a session.
use Rattle.std.proofs.Common.{◌≡◌, ℕ, ◌+◌, ◌<◌, ◌≤◌, Bool, true, false, List, [], ◌∷◌, ◌++◌, length, Option, Some, None, if◌then◌else◌, sym, ap, ◌∙◌, append_assoc, append-nil}
use Rattle.std.proofs.lemmas.Bool.{lt-ltb, le-ltb}
use Rattle.session_text.specs.declared.events.Event.{Event}
use Rattle.session_text.specs.Lines.{events_of}
use Rattle.session_lines.specs.declared.reader.TheConstants.{LONGEST}
use Rattle.session_lines.specs.declared.ending.Ending.{Ending}
use Rattle.session_lines.specs.declared.ending.Ending.TheVariants.{ByShut, AtEnd, BadLine, Full}
use Rattle.session_lines.specs.declared.ending.TheConstants.{MOST_LINES}
use Rattle.session_lines.specs.Sessions.{Session, ends, with_events, shuts, from_line, session}
use Rattle.session_lines.specs.Serving.{HaveEvents}
use Rattle.session_lines.proofs.Forms.{no_form}

abbrev pub made : List Event → Ending → Session
made events ending = record { events = events; ending = ending }

pub with_more : (first second : List Event) (rest : Session) → with_events first (with_events second rest) ≡ with_events (first ++ second) rest
with_more first second rest = ap (λ events. made events rest.ending) (sym (append_assoc first second rest.events))

abbrev chosen : Bool → Option (List Event) → ℕ → Session → Session
chosen room events number rest = if room then from_line events number rest else ends Full

-- a line follows the most
pub line_full : (plain : Bool) (count : ℕ) (line : List ℕ) (more : List (List ℕ)) → MOST_LINES ≤ count → session plain count (line ∷ more) ≡ ends Full
line_full plain count line more full =
    ap (λ room. chosen room (events_of plain line) (count + 1) (session plain (count + 1) more)) (le-ltb count MOST_LINES full)

pub line_is : (plain : Bool) (count : ℕ) (line : List ℕ) (more : List (List ℕ)) (events : Option (List Event)) → count < MOST_LINES → events_of plain line ≡ events
    → session plain count (line ∷ more) ≡ from_line events (count + 1) (session plain (count + 1) more)
line_is plain count line more events room is =
    ap (λ room. chosen room (events_of plain line) (count + 1) (session plain (count + 1) more)) (lt-ltb count MOST_LINES room)
    ∙ ap (λ events. from_line events (count + 1) (session plain (count + 1) more)) is

-- the session goes on behind the events of a line
pub line_goes : (plain : Bool) (count : ℕ) (line : List ℕ) (more : List (List ℕ)) (events : List Event) → count < MOST_LINES → events_of plain line ≡ Some events
    → shuts events ≡ false → session plain count (line ∷ more) ≡ with_events events (session plain (count + 1) more)
line_goes plain count line more events room is goes =
    let rest = session plain (count + 1) more in
    line_is plain count line more (Some events) room is ∙ ap (λ (shut : Bool). with_events events (if shut then ends ByShut else rest)) goes

-- they shut it
pub line_shuts : (plain : Bool) (count : ℕ) (line : List ℕ) (more : List (List ℕ)) (events : List Event) → count < MOST_LINES → events_of plain line ≡ Some events
    → shuts events ≡ true → session plain count (line ∷ more) ≡ made events ByShut
line_shuts plain count line more events room is shut =
    let rest = session plain (count + 1) more in
    line_is plain count line more (Some events) room is ∙ ap (λ (shut : Bool). with_events events (if shut then ends ByShut else rest)) shut
    ∙ ap (λ all. made all ByShut) (append-nil events)

pub line_none : (plain : Bool) (count : ℕ) (line : List ℕ) (more : List (List ℕ)) → count < MOST_LINES → events_of plain line ≡ None
    → session plain count (line ∷ more) ≡ ends (BadLine (count + 1))
line_none plain count line more room is = line_is plain count line more None room is

pub line_long : (plain : Bool) (count : ℕ) (line : List ℕ) (more : List (List ℕ)) → count < MOST_LINES → LONGEST < length line
    → session plain count (line ∷ more) ≡ ends (BadLine (count + 1))
line_long plain count line more room long = line_none plain count line more room (no_form plain line long)

-- one line more
pub line_behind : (plain : Bool) (lines : List (List ℕ)) (count : ℕ) (before : List Event) (line : List ℕ) (after : ℕ) (events : List Event)
    → HaveEvents plain lines count before → ((more : List (List ℕ)) → session plain count (line ∷ more) ≡ with_events events (session plain after more))
    → HaveEvents plain (lines ++ line ∷ []) after (before ++ events)
line_behind plain lines count before line after events have goes =
    λ more.
    ap (session plain 0) (append_assoc lines (line ∷ []) more) ∙ have (line ∷ more) ∙ ap (with_events before) (goes more)
    ∙ with_more before events (session plain after more)

-- there is no line more
pub all_events : (plain : Bool) (lines : List (List ℕ)) (count : ℕ) (events : List Event) → HaveEvents plain lines count events
    → session plain 0 lines ≡ made events AtEnd
all_events plain lines count events have =
    ap (session plain 0) (sym (append-nil lines)) ∙ have [] ∙ ap (λ all. made all AtEnd) (append-nil events)
