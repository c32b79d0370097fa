-- What the bytes of a space spell, read as a source text.
use Rattle.std.specs.Prelude.{ℕ, zero, suc, nat_le, if◌then◌else◌, List, [], ◌∷◌, ◌++◌, Option, Some, None, option_map, ℤ, pos, negsuc}
use Rattle.eu_base.specs.Spaces.{Content}
use Rattle.eu_base.specs.Values.{number_in}
use Rattle.cell_layout.specs.Layout.{cell_in}
use Rattle.text_heap.specs.Blocks.{text_in}
use Rattle.units.specs.Sources.{most_lines, joined}

-- the texts of so many cells, from the second cell on
abbrev pub lines_at : Content → ℕ → List (List ℕ)
lines_at content zero = []
lines_at content (suc n) = lines_at content n ++ text_in content (suc n) ∷ []

-- a number of lines, where it is one from 0 to 400
abbrev pub line_count : ℤ → Option ℕ
line_count (pos n) = if nat_le n most_lines then Some n else None
line_count (negsuc n) = None

-- the first lines, as many as the first cell says
abbrev pub text_at : Content → Option (List ℕ)
text_at content = option_map (λ n. joined (lines_at content n)) (line_count (number_in (cell_in content 0)))

-- what stands before a line: a line end, but for the first
abbrev pub line_end : ℕ → List ℕ
line_end zero = []
line_end (suc n) = 10 ∷ []
