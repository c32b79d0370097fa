-- What output looks like on a screen of lines.
use Rattle.std.specs.Prelude.{ℕ, Bool, true, false, ◌||◌, List, [], ◌∷◌, ◌++◌, Option, Some, None, codes, nat_lt, ◌==◌, if◌then◌else◌}
use Rattle.std.specs.Fmt.{decimal}
use Rattle.eu_base.specs.declared.stop.Stop.{Stop}
use Rattle.eu_base.specs.declared.request.Request.{Request}
use Rattle.eu_base.specs.declared.request.Request.TheVariants.{Out}
use Rattle.eu_base.specs.Stops.{stop_text}

-- bytes to write, and whether they end a line
pub record Written : Type 0 where
  pub bytes : List ℕ
  pub ends : Bool

-- what is shown, and whether its last line is unfinished
pub record Screen : Type 0 where
  pub text : List ℕ
  pub open_ : Bool

abbrev pub blank : Screen
blank = record { text = []; open_ = false }

-- a control byte is shown as its code between quotes
abbrev pub shown_byte : ℕ → List ℕ
shown_byte b = if nat_lt b 32 || b == 127 then 34 ∷ (decimal b ++ 34 ∷ []) else b ∷ []

abbrev pub shown : List ℕ → List ℕ
shown [] = []
shown (b ∷ bytes) = shown_byte b ++ shown bytes

abbrev pub has_bytes : List ℕ → Bool
has_bytes [] = false
has_bytes (b ∷ bytes) = true

abbrev pub put : Screen → Written → Screen
put s w = if w.ends
    then record { text = s.text ++ (shown w.bytes ++ 10 ∷ []); open_ = false }
    else record { text = s.text ++ shown w.bytes; open_ = s.open_ || has_bytes w.bytes }

-- what a request asks to write
abbrev pub written_by : Request → List Written
written_by (Out bytes ends) = record { bytes = bytes; ends = ends } ∷ []
written_by _ = []

-- one after another
abbrev pub put_all : Screen → List Written → Screen
put_all s [] = s
put_all s (w ∷ ws) = put_all (put s w) ws

-- with what a program asks for
abbrev pub with_request : Screen → Request → Screen
with_request s q = put_all s (written_by q)

-- an unfinished line is ended
abbrev pub closed : Screen → List ℕ
closed s = if s.open_ then s.text ++ 10 ∷ [] else s.text

-- the line of a stop, whose text is shown as output is
abbrev pub stop_line : Stop → List ℕ
stop_line s = codes "FEHLER : " ++ (shown (stop_text s) ++ 10 ∷ [])

-- all that a program shows
abbrev pub final : Screen → Option Stop → List ℕ
final s None = closed s
final s (Some stop) = closed s ++ stop_line stop
