-- What a piece of output looks like as a line.
use Rattle.std.specs.Prelude.{ℕ, Bool, ◌||◌, ◌&&◌, List, [], ◌∷◌, ◌++◌, length, nat_lt, ◌==◌, if◌then◌else◌}
use Rattle.std.specs.Fmt.{decimal}

-- a control byte is shown as its code between quotes
abbrev pub shown_byte : ℕ → List ℕ
shown_byte b = if nat_lt b 32 || b == 127 then 34 ∷ (decimal b ++ 34 ∷ []) else b ∷ []

abbrev pub shown : List ℕ → List ℕ
shown [] = []
shown (b ∷ bytes) = shown_byte b ++ shown bytes

-- the channel, with a colon where a line end closes the piece and a comma where it is open; nothing for channel 1 in the
-- plain form
abbrev pub head : ℕ → Bool → Bool → List ℕ
head channel ended plain = if plain && channel == 1 then [] else decimal channel ++ (if ended then 58 else 44) ∷ []

-- the line that shows a piece; none for an open piece without a byte
abbrev pub piece : ℕ → List ℕ → Bool → Bool → List ℕ
piece channel bytes ended plain =
    if ended || nat_lt 0 (length bytes) then head channel ended plain ++ (shown bytes ++ 10 ∷ []) else []
