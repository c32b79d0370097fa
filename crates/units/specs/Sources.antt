-- Source texts: data spaces of one shape, which hold the lines of a text.
use Rattle.std.specs.Prelude.{ℕ, ◌-◌, if◌then◌else◌, nat_le, List, [], ◌∷◌, ◌++◌, map, length, take, replicate, Option, Some, None, ℤ, pos, negsuc}
use Rattle.eu_base.specs.declared.value.Kind.TheVariants as kinds
use Rattle.eu_base.specs.declared.value.Value.{Value}
use Rattle.eu_base.specs.declared.value.Value.TheVariants as values
use Rattle.eu_base.specs.declared.shape.Shape.{Shape}
use Rattle.eu_base.specs.declared.shape.Shape.TheVariants.{Cell, Row, Struct}
use Rattle.eu_base.specs.Shapes.{same_shape}
use Rattle.eu_base.specs.Values.{number_of, text_of}
use Rattle.eu_base.specs.DataSpaces.{Space}

-- a source text has at most 400 lines
abbrev pub most_lines : ℕ
most_lines = 400

abbrev pub source_kind : ℤ
source_kind = pos 1004

-- how many lines, and the lines
abbrev pub source_shape : Shape
source_shape = Struct (Cell kinds.Int ∷ Row most_lines (Cell kinds.Text) ∷ [])

abbrev pub source_space : List (List ℕ) → Space
source_space lines = record {
  kind = source_kind;
  shape = Some source_shape;
  values =
      values.Int (pos (length lines)) ∷ map values.Text lines ++ replicate (most_lines - length lines) (values.Text []);
}

-- lines, with a line end between two
abbrev pub joined : List (List ℕ) → List ℕ
joined [] = []
joined (line ∷ []) = line
joined (line ∷ (next ∷ rest)) = line ++ 10 ∷ joined (next ∷ rest)

-- the first lines, as many as the number says; none where it is no number from 0 to 400
abbrev pub first_lines : ℤ → List Value → Option (List ℕ)
first_lines (pos n) lines = if nat_le n most_lines then Some (joined (map text_of (take n lines))) else None
first_lines (negsuc n) lines = None

abbrev pub text_in : List Value → Option (List ℕ)
text_in [] = None
text_in (n ∷ lines) = first_lines (number_of n) lines

-- the text of a space, where it is a source text: it has the shape, whatever its type number
abbrev pub text_by : Option Shape → List Value → Option (List ℕ)
text_by None vs = None
text_by (Some shape) vs = if same_shape source_shape shape then text_in vs else None

abbrev pub source_text : Space → Option (List ℕ)
source_text space = text_by space.shape space.values
