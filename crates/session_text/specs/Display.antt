-- What is shown at the four channels in the course of an event.
use Rattle.std.specs.Prelude.{ℕ, ◌-◌, Bool, true, false, List, [], ◌∷◌, ◌++◌, slice_set, slice_index_or}
use Rattle.std.specs.List.{flat_map}
use Rattle.session_text.specs.Pieces.{piece}
use Rattle.session_text.specs.declared.display.Piece.{Piece}

-- the bytes at each channel that no line end follows yet, and the pieces that are closed, in the order in which they were closed
pub record Display : Type 0 where
  pub unfinished : List (List ℕ)
  pub shown : List Piece

abbrev pub blank : Display
blank = record { unfinished = [] ∷ ([] ∷ ([] ∷ ([] ∷ []))); shown = [] }

-- by the number of a channel, from 1
abbrev pub unfinished_at : ℕ → Display → List ℕ
unfinished_at c d = slice_index_or d.unfinished (c - 1) []

abbrev pub with_unfinished : ℕ → List ℕ → Display → Display
with_unfinished c bytes d = record d { unfinished = slice_set d.unfinished (c - 1) bytes }

abbrev pub show : ℕ → List ℕ → Bool → Display → Display
show c bytes ended d = record d { shown = d.shown ++ record { channel = c; bytes = bytes; ended = ended } ∷ [] }

-- the unfinished piece of a channel is closed, though no line end came
abbrev pub close : ℕ → Display → Display
close c d = with_unfinished c [] (show c (unfinished_at c d) false d)

-- that of each channel, at the end of a turn and of an event
abbrev pub close_all : Display → Display
close_all d = close 4 (close 3 (close 2 (close 1 d)))

-- bytes are written at a channel, and a line end where they end the line
abbrev pub write : ℕ → List ℕ → Bool → Display → Display
write c bytes true d = with_unfinished c [] (show c (unfinished_at c d ++ bytes) true d)
write c bytes false d = with_unfinished c (unfinished_at c d ++ bytes) d

-- a prompt or a message is a piece of its own
abbrev pub say : ℕ → List ℕ → Display → Display
say c bytes d = show c bytes true (close c d)

-- pieces as lines of output; an unfinished piece without a byte is none
abbrev pub rendered : Bool → List Piece → List ℕ
rendered plain pieces = flat_map (λ (p : Piece). piece p.channel p.bytes p.ended plain) pieces
