-- The cells of a body's frame, as the tables of code have them.
use Rattle.std.specs.Prelude.{map}
use Rattle.eu_base.specs.declared.shape.Shape.{Shape}
use Rattle.code_form.specs.declared.operand.OperandKind.{OperandKind}
use Rattle.code_form.specs.declared.operand.OperandKind.TheVariants as operand
use Rattle.code_form.specs.declared.code.Layout.{Layout}
use Rattle.code_form.specs.declared.code.Layout.TheVariants as layouts
use Rattle.elan_types.specs.declared.core_phrase.Access.{Access}
use Rattle.elan_types.specs.declared.core_phrase.Access.TheVariants.{Const, Var}
use Rattle.elan_types.specs.declared.core_phrase.Formal.{Formal}
use Rattle.elan_types.specs.declared.core_phrase.Scope.{Scope}
use Rattle.elan_types.specs.declared.core_phrase.Scope.TheVariants.{Own, Of, Level}

-- what a parameter takes
abbrev pub taken_as : Access → Shape → OperandKind
taken_as Const s = operand.Value s
taken_as Var s = operand.Place s

abbrev pub parameter_kind : Formal → OperandKind
parameter_kind f = taken_as f.access f.shape

abbrev pub layout_of : Scope → Layout
layout_of (Own parameters variables) = layouts.Own (map parameter_kind parameters) variables
layout_of (Of p) = layouts.Of p
layout_of Level = layouts.Level
