-- How operators are written.
use Rattle.std.specs.Prelude.{ℕ, List, [], codes}
use Rattle.elan_tree.specs.declared.token.Sign.{Sign}
use Rattle.elan_tree.specs.declared.token.Sign.TheVariants as sign
use Rattle.elan_tree.specs.declared.phrase.Operator.{Operator}
use Rattle.elan_tree.specs.declared.phrase.Operator.TheVariants as operator

-- how an operator is written; the other signs are no operators
abbrev pub sign_text : Sign → List ℕ
sign_text sign.Plus = codes "+"
sign_text sign.Minus = codes "-"
sign_text sign.Times = codes "*"
sign_text sign.Equal = codes "="
sign_text sign.Unequal = codes "<>"
sign_text sign.Less = codes "<"
sign_text sign.LessEqual = codes "<="
sign_text sign.Greater = codes ">"
sign_text sign.GreaterEqual = codes ">="
sign_text sign.Becomes = codes ":="
sign_text _ = []

abbrev pub operator_text : Operator → List ℕ
operator_text (operator.Sign s) = sign_text s
operator_text (operator.Named x) = x
