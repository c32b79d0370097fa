-- How a desk serves events one after another, and so a line.
use Rattle.std.proofs.Common.{◌≡◌, ℕ, ◌+◌, ◌<◌, ◌≤◌, Bool, List, [], ◌∷◌, ◌++◌, length, get_or, take, drop, Option, Some, None, Result, Ok, Err}
use Rattle.std.proofs.Common.{inl, inr, refl, sym, ap, subst, ◌∙◌}
use Rattle.std.specs.Prelude.{OnOk, IfOk, IfErr}
use Rattle.std.specs.Io.KnownBytes.{Appends}
use Rattle.std.proofs.KnownBytes.{Appends-nil, Appends-kept}
use Rattle.std.proofs.lemmas.List.{take_more, take_all, take-append-drop}
use Rattle.edge.specs.Piece.{AppendsFront}
use Rattle.edge.proofs.Composed.{appends_more}
use Rattle.session_text.specs.declared.events.Event.{Event}
use Rattle.session_text.specs.Lines.{events_of}
use Rattle.session_lines.specs.Sessions.{shuts}
use Rattle.eumel_top.specs.Below.system_meaning.specs.Events.{after, shown, run, output}
use Rattle.system.specs.Systems.{StandsFor, IsShort}
use Rattle.eumel_top.specs.declared.desk.Desk.{Desk}
use Rattle.eumel_top.specs.declared.fault.LineFault.{LineFault}
use Rattle.eumel_top.specs.declared.fault.LineFault.TheVariants.{BadLine, SinkFault, NoMemory}
use Rattle.eumel_top.specs.Causes.{HasLineCause}
use Rattle.eumel_top.specs.Output.{PutsLess, NamesLine}
use Rattle.eumel_top.specs.Serving as spec
use Rattle.eumel_top.specs.Serving.{OnEach, AreShort, Runs}
use Rattle.eumel_top.proofs.Fronts.{front_first, front_behind, run_more, output_more, output_parts}
use Rattle.eumel_top.proofs.Short.{line_short, next_short}

-- ---- one event

-- what the event shows stands in `out`, which had nothing
abbrev pub ShowsIn : Desk → Event → List ℕ → Type 0
ShowsIn old event out = IsShort event → OnEach old (λ read s. out ≡ shown read old.plain s event)

pub serves : {T : Type 0} (result : Result T LineFault) (old new : Desk) (event : Event) (out : List ℕ) (taken taken' : Option (List ℕ)) → ShowsIn old event out
    → (IsShort event → OnEach old (λ read s. StandsFor new.system (after read s event))) → OnOk result (Appends taken taken' out)
    → OnOk result (spec.ServesEvent old new event taken taken')
serves (Err fault) old new event out taken taken' shows becomes puts = tt
serves (Ok value) old new event out taken taken' shows becomes puts =
    λ short read is s stands. (becomes short read is s stands, subst (Appends taken taken') (shows short read is s stands) puts)

pub refuses : {T : Type 0} (result : Result T LineFault) (old : Desk) (event : Event) (out : List ℕ) (taken taken' : Option (List ℕ)) → ShowsIn old event out
    → IfErr result (PutsLess out taken taken') → IfErr result (spec.RefusesEvent old event taken taken')
refuses (Ok value) old event out taken taken' shows less = tt
refuses (Err fault) old event out taken taken' shows less =
    λ short read is s stands. subst (λ bytes. PutsLess bytes taken taken' fault) (shows short read is s stands) less

-- ---- events one after another

-- so many of them were served
abbrev pub SoFar : Desk → Desk → List Event → ℕ → (taken taken' : Option (List ℕ)) → Type 0
SoFar old new events count taken taken' = AreShort events → Runs old new (take count events) taken taken'

pub none_so_far : (desk : Desk) (events : List Event) (taken : Option (List ℕ)) → SoFar desk desk events 0 taken taken
none_so_far desk events taken = λ short read is s stands. (stands, Appends-nil taken)

-- the event at a place
first_so_many : (events : List Event) (count : ℕ) (event : Event) → count < length events → event ≡ get_or events count event
    → take (count + 1) events ≡ take count events ++ event ∷ []
first_so_many events count event within is = take_more events count event within ∙ ap (λ (e : Event). take count events ++ e ∷ []) (sym is)

parts_at : (events : List Event) (count : ℕ) (event : Event) → count < length events → event ≡ get_or events count event
    → events ≡ (take count events ++ event ∷ []) ++ drop (count + 1) events
parts_at events count event within is =
    sym (take-append-drop (count + 1) events) ∙ ap (λ first. first ++ drop (count + 1) events) (first_so_many events count event within is)

pub one_more : (old mid new : Desk) (events : List Event) (count : ℕ) (event : Event) (taken taken_mid taken' : Option (List ℕ))
    → SoFar old mid events count taken taken_mid → mid.plain ≡ old.plain → count < length events → event ≡ get_or events count event
    → spec.ServesEvent mid new event taken_mid taken' → SoFar old new events (count + 1) taken taken'
one_more old mid new events count event taken taken_mid taken' so_far plain within is serves =
    λ short read reading s stands.
    let first = take count events in
    let before = so_far short read reading s stands in
    let now = run read s first in
    let next = serves (next_short events first event (drop (count + 1) events) (parts_at events count event within is) short) read reading now before.0 in
    subst (λ these. StandsFor new.system (run read s these) × Appends taken taken' (output read old.plain s these)) (sym (first_so_many events count event within is)) (
      subst (StandsFor new.system) (sym (run_more read old.plain s first event)) next.0,
      subst (Appends taken taken') (sym (output_more read old.plain s first event))
          (appends_more taken taken_mid taken' (output read old.plain s first) (shown read old.plain now event) before.1
          (subst (λ (form : Bool). Appends taken_mid taken' (shown read form now event)) plain next.1)),
    )

pub all_served : (old new : Desk) (events : List Event) (count : ℕ) (taken taken' : Option (List ℕ)) → SoFar old new events count taken taken'
    → length events ≤ count → spec.ServesEvents old new events taken taken'
all_served old new events count taken taken' so_far all = subst (λ these. AreShort events → Runs old new these taken taken') (take_all count events all) so_far

pub refused_at : (old mid : Desk) (events : List Event) (count : ℕ) (event : Event) (taken taken_mid taken' : Option (List ℕ)) (sink : Type 0) (fault : LineFault)
    → SoFar old mid events count taken taken_mid → mid.plain ≡ old.plain → count < length events → event ≡ get_or events count event
    → spec.RefusesEvent mid event taken_mid taken' fault → HasLineCause ⊥ sink fault → spec.RefusesEvents old events taken taken' fault
refused_at old mid events count event taken taken_mid taken' sink (BadLine number) so_far plain within is refuses cause = absurd cause
refused_at old mid events count event taken taken_mid taken' sink NoMemory so_far plain within is refuses cause =
    λ short.
    let first = take count events in
    let parts = parts_at events count event within is in
    let next = next_short events first event (drop (count + 1) events) parts short in (
      first,
      (drop count events, sym (take-append-drop count events)),
      λ read reading s stands.
          let before = so_far short read reading s stands in
          Appends-kept taken taken_mid taken' (output read old.plain s first) before.1 (refuses next read reading (run read s first) before.0),
    )
refused_at old mid events count event taken taken_mid taken' sink SinkFault so_far plain within is refuses cause =
    λ short read reading s stands.
    let first = take count events in
    let rest = drop (count + 1) events in
    let parts = parts_at events count event within is in
    let before = so_far short read reading s stands in
    let now = run read s first in
    let shows = shown read old.plain now event in
    let others = output read old.plain (run read s (first ++ event ∷ [])) rest in
    let less = refuses (next_short events first event rest parts short) read reading now before.0 in
    let front : AppendsFront taken_mid taken' shows = subst (λ (form : Bool). AppendsFront taken_mid taken' (shown read form now event)) plain less in
    front_behind taken taken_mid taken' (output read old.plain s first) (shows ++ others) (output read old.plain s events) before.1
    (front_first taken_mid taken' shows others (shows ++ others) front refl)
    (output_parts read old.plain s events first event rest parts)

-- ---- a line

-- a line with these events was served
pub line_served : (result : Result Bool LineFault) (old new : Desk) (line : List ℕ) (events : List Event) (taken taken' : Option (List ℕ))
    → events_of old.plain line ≡ Some events → IfOk result (λ shut. shut ≡ shuts events) → OnOk result (spec.ServesEvents old new events taken taken')
    → IfOk result (spec.Serves old new line taken taken')
line_served (Err fault) old new line events taken taken' are answer serves = tt
line_served (Ok shut) old new line events taken taken' are answer serves =
    record { events = events; are = are; answer = answer; runs = serves (line_short old.plain line events are) }

line_refused_so : (fault : LineFault) (old : Desk) (line : List ℕ) (events : List Event) (taken taken' : Option (List ℕ))
    → events_of old.plain line ≡ Some events → spec.RefusesEvents old events taken taken' fault → spec.Refuses old line taken taken' fault
line_refused_so (BadLine number) old line events taken taken' are refuses = absurd refuses
line_refused_so SinkFault old line events taken taken' are refuses =
    subst (λ found. OnEach old (λ read s. AppendsFront taken taken' (spec.line_output read old.plain s (old.count + 1) found))) (sym are)
    (refuses (line_short old.plain line events are))
line_refused_so NoMemory old line events taken taken' are refuses =
    subst (λ found. spec.PutsFirst old (spec.events_in found) taken taken') (sym are) (refuses (line_short old.plain line events are))

pub line_refused : {T : Type 0} (result : Result T LineFault) (old : Desk) (line : List ℕ) (events : List Event) (taken taken' : Option (List ℕ))
    → events_of old.plain line ≡ Some events → IfErr result (spec.RefusesEvents old events taken taken') → IfErr result (spec.Refuses old line taken taken')
line_refused (Ok value) old line events taken taken' are refuses = tt
line_refused (Err fault) old line events taken taken' are refuses = line_refused_so fault old line events taken taken' are refuses

-- a line is of no form
pub no_form_refused : (fault : LineFault) (old : Desk) (line : List ℕ) (taken taken' : Option (List ℕ)) → events_of old.plain line ≡ None
    → NamesLine (old.count + 1) taken taken' fault → spec.Refuses old line taken taken' fault
no_form_refused (BadLine number) old line taken taken' none names = (none, names.0, names.1)
no_form_refused SinkFault old line taken taken' none names =
    subst (λ found. OnEach old (λ read s. AppendsFront taken taken' (spec.line_output read old.plain s (old.count + 1) found))) (sym none)
    (λ read reading s stands. names)
no_form_refused NoMemory old line taken taken' none names =
    ([], (spec.events_in (events_of old.plain line), refl), λ read reading s stands. Appends-kept taken taken taken' [] (Appends-nil taken) names)

-- memory was wanting for what the line is
pub line_wanting : (old : Desk) (line : List ℕ) (taken : Option (List ℕ)) → spec.Refuses old line taken taken NoMemory
line_wanting old line taken = ([], (spec.events_in (events_of old.plain line), refl), λ read reading s stands. Appends-nil taken)

-- the cause is one of the line
pub line_caused : {T : Type 0} (result : Result T LineFault) (no_form sink : Type 0) → IfErr result (HasLineCause ⊥ sink) → IfErr result (HasLineCause no_form sink)
line_caused (Ok value) no_form sink cause = tt
line_caused (Err (BadLine number)) no_form sink cause = absurd cause
line_caused (Err SinkFault) no_form sink cause = cause
line_caused (Err NoMemory) no_form sink cause = tt

pub no_form_caused : (fault : LineFault) (no_form sink : Type 0) → no_form → HasLineCause (Unit {0}) sink fault → HasLineCause no_form sink fault
no_form_caused (BadLine number) no_form sink none cause = none
no_form_caused SinkFault no_form sink none cause = cause
no_form_caused NoMemory no_form sink none cause = tt

-- where nothing rose, the answer follows from the line
settles_so : (fault : LineFault) (old : Desk) (line : List ℕ) (taken taken' : Option (List ℕ)) (no_form sink : Type 0) → spec.Refuses old line taken taken' fault
    → HasLineCause no_form sink fault → (sink → ⊥) → spec.Settles old line (Err fault)
settles_so (BadLine number) old line taken taken' no_form sink refuses cause no_sink =
    inr (ap (λ number. Err (BadLine number)) refuses.1 ∙ ap (spec.line_answer (old.count + 1)) (sym refuses.0))
settles_so SinkFault old line taken taken' no_form sink refuses cause no_sink = absurd (no_sink cause)
settles_so NoMemory old line taken taken' no_form sink refuses cause no_sink = inl refl

pub settles : (result : Result Bool LineFault) (old new : Desk) (line : List ℕ) (taken taken' : Option (List ℕ)) (no_form sink : Type 0)
    → IfOk result (spec.Serves old new line taken taken') → IfErr result (spec.Refuses old line taken taken') → IfErr result (HasLineCause no_form sink)
    → (sink → ⊥) → spec.Settles old line result
settles (Ok shut) old new line taken taken' no_form sink serves refuses cause no_sink =
    inr (ap Ok serves.answer ∙ ap (spec.line_answer (old.count + 1)) (sym serves.are))
settles (Err fault) old new line taken taken' no_form sink serves refuses cause no_sink =
    settles_so fault old line taken taken' no_form sink refuses cause no_sink
