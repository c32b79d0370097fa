-- Cells of packets that hold numbers of data spaces.
use Rattle.std.specs.Prelude.{ℕ, suc, Bool, true, false, ◌||◌, ◌==◌, List, [], ◌∷◌}
use Rattle.eu_base.specs.declared.value.Kind.{Kind}
use Rattle.eu_base.specs.declared.value.Kind.TheVariants as kinds
use Rattle.eu_base.specs.Cells.{Cell, Word, Cells, packet_cell}

abbrev pub is_space : Kind → Bool
is_space kinds.Int = false
is_space kinds.Truth = false
is_space kinds.Text = false
is_space kinds.Task = false
is_space kinds.Space = true

-- a cell of this kind holds the number of a data space
abbrev pub holds_space : ℕ → Kind → Cell → Bool
holds_space n kinds.Space (Word m) = m == n
holds_space n _ _ = false

-- one of the cells of packets does that follow one another from this one on, and are of these kinds
abbrev pub denote : ℕ → ℕ → List Kind → Cells → Bool
denote n at [] cells = false
denote n at (k ∷ ks) cells = holds_space n k (cells (packet_cell at)) || denote n (suc at) ks cells
