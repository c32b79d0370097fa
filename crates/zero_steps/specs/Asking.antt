-- What a request finds.
use Rattle.std.specs.Prelude.{List, ◌∷◌}
use Rattle.eu_base.specs.Cells.{IsCell}
use Rattle.code_form.specs.declared.operand.Operand.{Operand}
use Rattle.code_form.specs.declared.operand.Operand.TheVariants.{Place as At}

-- the place of a cell comes first
abbrev pub IsFirst : List Operand → Type 0
IsFirst (At a ∷ os) = IsCell a
IsFirst _ = ⊥
