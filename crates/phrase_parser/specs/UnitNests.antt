-- What function values do that parse what stands in other phrases.
use Rattle.phrase_parser.specs.FormNests.{ExprFunction, UnitsFunction, Nested}
use Rattle.phrase_parser.specs.declared.phrases.Phrases.{Phrases}

-- They parse expressions and units less deep than the rules' depth.
abbrev pub Nests : {E U : Type 0} → ExprFunction E → UnitsFunction U → Phrases E U → Type 0
Nests expr_by units_by rules = Nested expr_by units_by rules.depth rules.expression rules.units
