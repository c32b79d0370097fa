-- A session between two lines, and how it goes on and ends.
use Rattle.std.proofs.Common.{◌≡◌, ℕ, ◌+◌, ◌<◌, ◌≤◌, Bool, true, false, List, [], ◌∷◌, ◌++◌, length, Option, Some, None, Result, Ok, Err, if◌then◌else◌}
use Rattle.std.proofs.Common.{refl, sym, ap, subst, ◌∙◌, append_assoc, append-nil, arith}
use Rattle.std.specs.Prelude.{IfOk, IfErr, MatchOption}
use Rattle.std.specs.Io.KnownBytes.{Appends}
use Rattle.std.proofs.KnownBytes.{Appends-nil}
use Rattle.std.proofs.lemmas.Bool.Decides.{nat_tests}
use Rattle.edge.specs.Piece.{AppendsFront}
use Rattle.edge.specs.Told.{OnTold}
use Rattle.edge.proofs.Composed.{appends_more}
use Rattle.session_text.specs.declared.events.Event.{Event}
use Rattle.session_text.specs.Lines.{events_of}
use Rattle.session_lines.specs.declared.reader.Next.TheVariants as answer
use Rattle.session_lines.specs.Lines as lined
use Rattle.session_lines.specs.Lines.{lines_of}
use Rattle.session_lines.specs.Reading as reading
use Rattle.session_lines.specs.declared.reader.TheConstants.{LONGEST}
use Rattle.session_lines.specs.declared.ending.Ending.{Ending}
use Rattle.session_lines.specs.declared.ending.Ending.TheVariants as ended
use Rattle.session_lines.specs.declared.ending.TheConstants.{MOST_LINES}
use Rattle.session_lines.specs.Sessions.{Session, ends, with_events, from_line, shuts, session, session_of}
use Rattle.session_lines.specs.Serving.{HaveEvents, BeginsWith, AreFirst}
use Rattle.session_lines.proofs.EventSessions.{made, line_full, line_is, line_goes, line_shuts, line_none, line_behind, all_events}
use Rattle.session_lines.proofs.Serving.{are_first, line_next}
use Rattle.eumel_top.specs.Below.system_meaning.specs.Systems.{System, opening}
use Rattle.eumel_top.specs.Below.system_meaning.specs.Events.{run, output}
use Rattle.eumel_top.specs.Below.system_meaning.proofs.Runs.{run_join, output_join}
use Rattle.system.specs.Systems.{StandsFor}
use Rattle.eumel_top.specs.declared.desk.Desk.{Desk}
use Rattle.eumel_top.specs.declared.error.PlayError.{PlayError}
use Rattle.eumel_top.specs.declared.error.PlayError.TheVariants.{NoMemory, SourceFault, SinkFault}
use Rattle.eumel_top.specs.declared.fault.LineFault.{LineFault}
use Rattle.eumel_top.specs.declared.fault.LineFault.TheVariants as fault
use Rattle.eumel_top.specs.Output.{session_output}
use Rattle.eumel_top.specs.Serving.{is_full, Serves, Refuses, line_output, events_in}
use Rattle.eumel_top.specs.Midway as spec
use Rattle.eumel_top.specs.Midway.{Midway, LineGoes, LineEnds, output_from}
use Rattle.eumel_top.specs.SessionPlay.{PlayEnds, PlayStops}
use Rattle.eumel_top.proofs.Fronts.{Reads, front_first, front_behind, output_behind}

-- ---- a line

pub has_room : (desk : Desk) → is_full desk ≡ false → desk.count < MOST_LINES
has_room desk is = grind (arith, nat_tests, is)

pub has_most : (desk : Desk) → is_full desk ≡ true → MOST_LINES ≤ desk.count
has_most desk is = grind (arith, nat_tests, is)

pub goes : (old new : Desk) (line : List ℕ) (taken taken' : Option (List ℕ)) → Serves old new line taken taken' false → old.count < MOST_LINES
    → new.count ≡ old.count + 1 → LineGoes old new line taken taken'
goes old new line taken taken' serves room counted = record {
  events = serves.events;
  goes = λ more.
      line_goes old.plain old.count line more serves.events room serves.are (sym serves.answer)
      ∙ ap (λ count. with_events serves.events (session old.plain count more)) (sym counted);
  runs = serves.runs;
}

pub shut_ends : (old new : Desk) (line : List ℕ) (taken taken' : Option (List ℕ)) → Serves old new line taken taken' true → old.count < MOST_LINES
    → LineEnds old line taken taken' (Ok ended.ByShut)
shut_ends old new line taken taken' serves room = (
  serves.events,
  λ more. line_shuts old.plain old.count line more serves.events room serves.are (sym serves.answer),
  λ read is s stands. subst (Appends taken taken') (sym (append-nil (output read old.plain s serves.events))) (serves.runs read is s stands).1,
)

pub full_ends : (old : Desk) (line : List ℕ) (taken : Option (List ℕ)) → MOST_LINES ≤ old.count → LineEnds old line taken taken (Ok ended.Full)
full_ends old line taken full = ([], λ more. line_full old.plain old.count line more full, λ read is s stands. Appends-nil taken)

-- a front of what the line puts is one of what the session puts
front_of_line : (read : Reads) (plain : Bool) (s : System) (number : ℕ) (found : Option (List Event)) (rest : Session) (taken taken' : Option (List ℕ))
    → AppendsFront taken taken' (line_output read plain s number found) → AppendsFront taken taken' (output_from read plain s (from_line found number rest))
front_of_line read plain s number None rest taken taken' front = front
front_of_line read plain s number (Some events) rest taken taken' front =
    let behind : Session = if shuts events then ends ended.ByShut else rest in
    front_first taken taken' (output read plain s events) (output_from read plain (run read s events) behind) (output_from read plain s (with_events events behind)) front
    (output_behind read plain s events behind)

-- first events of the line are first events of the session
first_of_line : (number : ℕ) (found : Option (List Event)) (rest : Session) (first : List Event) → BeginsWith first (events_in found)
    → BeginsWith first (from_line found number rest).events
first_of_line number None rest first begins = begins
first_of_line number (Some events) rest first begins =
    let behind : Session = if shuts events then ends ended.ByShut else rest in
    (begins.0 ++ behind.events, ap (λ these. these ++ behind.events) begins.1 ∙ append_assoc first begins.0 behind.events)

pub fault_ends : (fault : LineFault) (old : Desk) (line : List ℕ) (taken taken' : Option (List ℕ)) → Refuses old line taken taken' fault → old.count < MOST_LINES
    → LineEnds old line taken taken' (spec.end_by fault)
fault_ends (fault.BadLine number) old line taken taken' refuses room = (
  [],
  λ more. line_none old.plain old.count line more room refuses.0 ∙ ap (λ number. ends (ended.BadLine number)) (sym refuses.1),
  λ read is s stands. refuses.2,
)
fault_ends fault.SinkFault old line taken taken' refuses room =
    λ more read is s stands.
    let found = events_of old.plain line in
    let rest = session old.plain (old.count + 1) more in
    subst (λ (session : Session). AppendsFront taken taken' (output_from read old.plain s session)) (sym (line_is old.plain old.count line more found room refl))
    (front_of_line read old.plain s (old.count + 1) found rest taken taken' (refuses read is s stands))
fault_ends fault.NoMemory old line taken taken' refuses room = (
  refuses.0,
  λ more.
      let found = events_of old.plain line in
      let rest = session old.plain (old.count + 1) more in
      subst (λ (session : Session). BeginsWith refuses.0 session.events) (sym (line_is old.plain old.count line more found room refl))
      (first_of_line (old.count + 1) found rest refuses.0 refuses.1),
  refuses.2,
)

-- ---- the whole session

-- nothing happened yet
pub begins : (left taken : Option (List ℕ)) (desk : Desk) (lines : reading.Reading) → StandsFor desk.system opening → desk.count ≡ 0
    → reading.HasRead left left lines [] → Midway left left taken taken desk lines
begins left taken desk lines stands count read = record {
  read_lines = [];
  events = [];
  read = read;
  have = λ more. ap (λ count. session desk.plain count more) (sym count);
  stands = λ read is. stands;
  puts = λ read is. Appends-nil taken;
}

-- a line was served
pub goes_on : (old new : Desk) (lines lines' : reading.Reading) (line : List ℕ) (left left' taken taken' : Option (List ℕ))
    → reading.GoesOn left left' lines lines' (answer.Line line) → LineGoes old new line taken taken' → new.plain ≡ old.plain
    → spec.GoesOn old new lines lines' left left' taken taken'
goes_on old new lines lines' line left left' taken taken' reads goes plain =
    λ left_old taken_old m. record {
      read_lines = m.read_lines ++ line ∷ [];
      events = m.events ++ goes.events;
      read = (reads left_old m.read_lines m.read).0;
      have =
          subst (λ form. HaveEvents form (m.read_lines ++ line ∷ []) new.count (m.events ++ goes.events)) (sym plain)
          (line_behind old.plain m.read_lines old.count m.events line new.count goes.events m.have goes.goes);
      stands = λ read is.
          subst (StandsFor new.system) (sym (run_join read opening m.events goes.events)) (goes.runs read is (run read opening m.events) (m.stands read is)).0;
      puts = λ read is.
          subst (λ form. Appends taken_old taken' (output read form opening (m.events ++ goes.events))) (sym plain)
          (subst (Appends taken_old taken') (sym (output_join read old.plain opening m.events goes.events))
          (appends_more taken_old taken taken' (output read old.plain opening m.events) (output read old.plain (run read opening m.events) goes.events) (m.puts read is)
          (goes.runs read is (run read opening m.events) (m.stands read is)).1));
    }

-- memory was wanting
so_far_first : (left_old left taken_old taken : Option (List ℕ)) (desk : Desk) (lines : reading.Reading) → (m : Midway left_old left taken_old taken desk lines)
    → AreFirst left_old desk.plain m.events
so_far_first left_old left taken_old taken desk lines m = are_first left_old left lines m.read_lines desk.plain desk.count m.events m.read m.have

pub wants : (desk : Desk) (lines : reading.Reading) (left left' taken : Option (List ℕ)) → spec.Concludes desk lines left left' taken taken (Err NoMemory)
wants desk lines left left' taken = λ left_old taken_old m. (m.events, so_far_first left_old left taken_old taken desk lines m, m.puts)

-- before the first line
pub nothing : (left left' taken : Option (List ℕ)) (plain : Bool) → PlayStops plain left left' taken taken NoMemory
nothing None left' taken plain = ([], ([], tt, ((session_of plain []).events, refl)), λ read is. Appends-nil taken)
nothing (Some bytes) left' taken plain = ([], (bytes, refl, ((session_of plain bytes).events, refl)), λ read is. Appends-nil taken)

-- the source has no more, and the source failed
pub ends_input : (desk : Desk) (lines lines' : reading.Reading) (left left' taken : Option (List ℕ)) → reading.GoesOn left left' lines lines' answer.End
    → spec.Concludes desk lines left left' taken taken (Ok ended.AtEnd)
ends_input desk lines lines' left left' taken reads =
    λ left_old taken_old m.
    let told = (reads left_old m.read_lines m.read).1 in
    let all = ap (session desk.plain 0) told.2 ∙ all_events desk.plain m.read_lines desk.count m.events m.have in (
      told.0,
      told.1,
      (
        ap (λ (session : Session). session.ending) all,
        λ read is.
            subst (λ (session : Session). Appends taken_old taken (session_output read desk.plain session)) (sym all)
            (subst (Appends taken_old taken) (sym (append-nil (output read desk.plain opening m.events))) (m.puts read is)),
      ),
    )

pub faults : (desk : Desk) (lines lines' : reading.Reading) (left left' taken : Option (List ℕ)) → reading.GoesOn left left' lines lines' answer.Fault
    → spec.Concludes desk lines left left' taken taken (Err SourceFault)
faults desk lines lines' left left' taken reads =
    λ left_old taken_old m.
    let told = (reads left_old m.read_lines m.read).1 in (
      m.events,
      so_far_first left_old left taken_old taken desk lines m,
      (told.0, told.1, ap (session desk.plain 0) told.2 ∙ all_events desk.plain m.read_lines desk.count m.events m.have),
      m.puts,
    )

-- it comes to its answer at a line
concludes_told : (end : Result Ending PlayError) (desk : Desk) (lines : reading.Reading) (line : List ℕ) (left_old left left' taken_old taken taken' : Option (List ℕ))
    → (m : Midway left_old left taken_old taken desk lines) → OnTold left_old (λ bytes. lined.BeginsWith (m.read_lines ++ line ∷ []) (lines_of bytes))
    → LineEnds desk line taken taken' end → spec.PlayTells desk.plain left_old left' taken_old taken' end
concludes_told (Ok ending) desk lines line left_old left left' taken_old taken taken' m told ends =
    let next = line_next left_old m.read_lines desk.plain desk.count m.events line m.have told in
    let all = next.1.2 ∙ ap (with_events m.events) (ends.1 next.0) in (
      next.1.0,
      next.1.1,
      (
        ap (λ (session : Session). session.ending) all,
        λ read is.
            let rest = made ends.0 ending in
            subst (λ (session : Session). Appends taken_old taken' (session_output read desk.plain session)) (sym all)
            (subst (Appends taken_old taken') (sym (output_behind read desk.plain opening m.events rest))
            (appends_more taken_old taken taken' (output read desk.plain opening m.events) (output_from read desk.plain (run read opening m.events) rest) (m.puts read is)
            (ends.2 read is (run read opening m.events) (m.stands read is)))),
      ),
    )
concludes_told (Err NoMemory) desk lines line left_old left left' taken_old taken taken' m told ends =
    let next = line_next left_old m.read_lines desk.plain desk.count m.events line m.have told in
    let first = ends.1 next.0 in (
      m.events ++ ends.0,
      (
        next.1.0,
        next.1.1,
        (
          first.0,
          ap (λ (session : Session). session.events) next.1.2 ∙ ap (λ events. m.events ++ events) first.1 ∙ sym (append_assoc m.events ends.0 first.0),
        ),
      ),
      λ read is.
          subst (Appends taken_old taken') (sym (output_join read desk.plain opening m.events ends.0))
          (appends_more taken_old taken taken' (output read desk.plain opening m.events) (output read desk.plain (run read opening m.events) ends.0) (m.puts read is)
          (ends.2 read is (run read opening m.events) (m.stands read is))),
    )
concludes_told (Err SourceFault) desk lines line left_old left left' taken_old taken taken' m told ends = absurd ends
concludes_told (Err SinkFault) desk lines line left_old left left' taken_old taken taken' m told ends =
    let next = line_next left_old m.read_lines desk.plain desk.count m.events line m.have told in
    let rest = session desk.plain desk.count (line ∷ next.0) in (
      next.1.0,
      next.1.1,
      λ read is.
          subst (λ (session : Session). AppendsFront taken_old taken' (session_output read desk.plain session)) (sym next.1.2)
          (front_behind taken_old taken taken' (output read desk.plain opening m.events) (output_from read desk.plain (run read opening m.events) rest)
          (output_from read desk.plain opening (with_events m.events rest)) (m.puts read is)
          (ends next.0 read is (run read opening m.events) (m.stands read is)) (output_behind read desk.plain opening m.events rest)),
    )

pub concludes : (end : Result Ending PlayError) (desk : Desk) (lines lines' : reading.Reading) (line : List ℕ) (left left' taken taken' : Option (List ℕ))
    → reading.GoesOn left left' lines lines' (answer.Line line) → LineEnds desk line taken taken' end → spec.Concludes desk lines left left' taken taken' end
concludes end desk lines lines' line left left' taken taken' reads ends =
    λ left_old taken_old m.
    concludes_told end desk lines line left_old left left' taken_old taken taken' m (reads left_old m.read_lines m.read).1.1 ends

pub concludes_long : (end : Result Ending PlayError) (desk : Desk) (lines lines' : reading.Reading) (left left' taken taken' : Option (List ℕ))
    → reading.GoesOn left left' lines lines' answer.TooLong → ((line : List ℕ) → LONGEST < length line → LineEnds desk line taken taken' end)
    → spec.Concludes desk lines left left' taken taken' end
concludes_long end desk lines lines' left left' taken taken' reads ends =
    λ left_old taken_old m.
    let told = (reads left_old m.read_lines m.read).1 in
    concludes_told end desk lines told.0 left_old left left' taken_old taken taken' m told.2 (ends told.0 told.1)

pub line_steps : (result : Option (Result Ending PlayError)) (old new : Desk) (lines lines' : reading.Reading) (line : List ℕ)
    (left left' taken taken' : Option (List ℕ)) → reading.GoesOn left left' lines lines' (answer.Line line)
    → MatchOption result (LineGoes old new line taken taken') (LineEnds old line taken taken') → new.plain ≡ old.plain
    → MatchOption result (spec.GoesOn old new lines lines' left left' taken taken') (spec.Concludes old lines left left' taken taken')
line_steps None old new lines lines' line left left' taken taken' reads goes plain =
    goes_on old new lines lines' line left left' taken taken' reads goes plain
line_steps (Some end) old new lines lines' line left left' taken taken' reads ends plain =
    concludes end old lines lines' line left left' taken taken' reads ends

-- ---- what an answer tells

pub told_ok : (result : Result Ending PlayError) (plain : Bool) (left left' taken taken' : Option (List ℕ)) → spec.PlayTells plain left left' taken taken' result
    → IfOk result (PlayEnds plain left taken taken')
told_ok (Ok ending) plain left left' taken taken' tells = tells
told_ok (Err error) plain left left' taken taken' tells = tt

pub told_err : (result : Result Ending PlayError) (plain : Bool) (left left' taken taken' : Option (List ℕ)) → spec.PlayTells plain left left' taken taken' result
    → IfErr result (PlayStops plain left left' taken taken')
told_err (Ok ending) plain left left' taken taken' tells = tt
told_err (Err error) plain left left' taken taken' tells = tells
