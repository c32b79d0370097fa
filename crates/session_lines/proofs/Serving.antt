-- The session of all bytes of a source, of which some lines were read.
use Rattle.std.proofs.Common.{◌≡◌, ℕ, Bool, true, List, [], ◌∷◌, ◌++◌, Option, Some, None, refl, sym, ap, subst, ◌∙◌, append_assoc}
use Rattle.std.specs.Io.KnownBytes.{Consumes, IsAtEnd}
use Rattle.edge.specs.Told.{Told, OnTold}
use Rattle.session_text.specs.declared.events.Event.{Event}
use Rattle.session_lines.specs.Lines.{lines_of}
use Rattle.session_lines.specs.Lines as lined
use Rattle.session_lines.specs.Reading.{Reading, HasRead}
use Rattle.session_lines.specs.Sessions.{Session, with_events, session, session_of}
use Rattle.session_lines.specs.Serving as spec

-- all bytes of a source: those that were taken, and those that are left
all_of : (first now : Option (List ℕ)) (r : Reading) (past : List ℕ) → Consumes first now (past ++ r.ahead) → (r.ended ≡ true → IsAtEnd now)
    → (more : List ℕ) × (r.ended ≡ true → more ≡ []) × Told first (past ++ (r.ahead ++ more))
all_of None now r past takes end = ([], λ e. refl, tt)
all_of (Some xs) None r past takes end = absurd takes
all_of (Some xs) (Some ys) r past takes end = (ys, end, takes ∙ append_assoc past r.ahead ys)

-- what holds of their lines, whatever lines follow those that were read
on_lines : (first now : Option (List ℕ)) (r : Reading) (lines : List (List ℕ)) (P : List (List ℕ) → Type 0) → HasRead first now r lines
    → ((more : List (List ℕ)) → P (lines ++ more)) → OnTold first (λ bytes. P (lines_of bytes))
on_lines first now r lines P h holds =
    let all = all_of first now r h.past h.takes h.at_end in
    (h.past ++ (r.ahead ++ all.0), all.2, subst P (sym (h.begins all.0 all.1)) (holds (lines_of (r.ahead ++ all.0))))

-- their events are the first
pub are_first : (first now : Option (List ℕ)) (r : Reading) (read_lines : List (List ℕ)) (plain : Bool) (count : ℕ) (events : List Event)
    → HasRead first now r read_lines → spec.HaveEvents plain read_lines count events → spec.AreFirst first plain events
are_first first now r read_lines plain count events h have =
    on_lines first now r read_lines (λ lines. spec.BeginsWith events (session plain 0 lines).events) h
    (λ more. ((session plain count more).events, ap (λ (s : Session). s.events) (have more)))

-- a line stands behind them, whatever follows it
pub line_next : (first : Option (List ℕ)) (read_lines : List (List ℕ)) (plain : Bool) (count : ℕ) (events : List Event) (line : List ℕ)
    → spec.HaveEvents plain read_lines count events → OnTold first (λ bytes. lined.BeginsWith (read_lines ++ line ∷ []) (lines_of bytes))
    → (more : List (List ℕ)) × OnTold first (λ bytes. session_of plain bytes ≡ with_events events (session plain count (line ∷ more)))
line_next first read_lines plain count events line have told =
    let more = told.2.0 in
    (more, (told.0, told.1, ap (session plain 0) (told.2.1 ∙ append_assoc read_lines (line ∷ []) more) ∙ have (line ∷ more)))
