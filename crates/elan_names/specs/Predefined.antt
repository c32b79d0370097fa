-- The table of the predefined operators and procedures, requests and calls on data spaces among them.
use Rattle.std.specs.Prelude.{ℕ, List, [], ◌∷◌, Option, Some, None, option_map, codes}
use Rattle.eu_base.specs.declared.value.Kind.TheVariants as kinds
use Rattle.eu_base.specs.declared.operation.Operation.TheVariants as op
use Rattle.eu_base.specs.declared.text_operation.TextOperation.{TextOperation}
use Rattle.eu_base.specs.declared.text_operation.TextOperation.TheVariants as texts
use Rattle.eu_base.specs.declared.operation.Change.TheVariants as change
use Rattle.eu_base.specs.declared.request.RequestName.TheVariants as request
use Rattle.eu_base.specs.declared.space_operation.SpaceOperation.TheVariants as space
use Rattle.eu_base.specs.Operations.{operand_kinds, result_kind, change_kind}
use Rattle.eu_base.specs.Requests.{request_result}
use Rattle.eu_base.specs.SpaceOperations.{space_operand_kinds, space_result_kind}
use Rattle.elan_types.specs.declared.elan_type.ElanType.{ElanType}
use Rattle.elan_types.specs.declared.elan_type.Parameter.{Parameter}
use Rattle.elan_types.specs.Types.{type_in, held_var, values_of, request_parameters}
use Rattle.elan_names.specs.declared.heading.Sort.{Sort}
use Rattle.elan_names.specs.declared.heading.Sort.TheVariants.{Procedure, Operator}
use Rattle.elan_names.specs.declared.predefined.Predefined.{Predefined}
use Rattle.elan_names.specs.declared.predefined.Predefined.TheVariants.{Operation, Change, Request, OnSpaces, ErrorStop}

-- an operator or a procedure, its name, and what it is
abbrev pub Row : Type 0
Row = Sort × List ℕ × Predefined

abbrev pub on_texts : TextOperation → Predefined
on_texts o = Operation (op.OnTexts o)

unfoldable pub predefined : List Row
predefined =
    (Operator, codes "+", Operation op.Plus) ∷ (Operator, codes "+", Operation op.Add) ∷ (Operator, codes "+", on_texts texts.Join)
    ∷ (Operator, codes "-", Operation op.Negate) ∷ (Operator, codes "-", Operation op.Subtract)
    ∷ (Operator, codes "*", Operation op.Multiply) ∷ (Operator, codes "*", on_texts texts.Repeat)
    ∷ (Operator, codes "DIV", Operation op.Divide) ∷ (Operator, codes "MOD", Operation op.Modulo)
    ∷ (Operator, codes "INCR", Change change.Increase) ∷ (Operator, codes "DECR", Change change.Decrease) ∷ (Operator, codes "CAT", Change change.Append)
    ∷ (Operator, codes "=", Operation op.Equal) ∷ (Operator, codes "=", Operation op.Same) ∷ (Operator, codes "=", on_texts texts.Equal)
    ∷ (Operator, codes "=", Operation op.SameTask)
    ∷ (Operator, codes "<>", Operation op.Unequal) ∷ (Operator, codes "<>", Operation op.Different) ∷ (Operator, codes "<>", on_texts texts.Unequal)
    ∷ (Operator, codes "<>", Operation op.OtherTask)
    ∷ (Operator, codes "<", Operation op.Less) ∷ (Operator, codes "<", on_texts texts.Less)
    ∷ (Operator, codes "<=", Operation op.LessEqual) ∷ (Operator, codes "<=", on_texts texts.LessEqual)
    ∷ (Operator, codes ">", Operation op.Greater) ∷ (Operator, codes ">", on_texts texts.Greater)
    ∷ (Operator, codes ">=", Operation op.GreaterEqual) ∷ (Operator, codes ">=", on_texts texts.GreaterEqual)
    ∷ (Operator, codes "AND", Operation op.And) ∷ (Operator, codes "OR", Operation op.Or) ∷ (Operator, codes "NOT", Operation op.Not)
    ∷ (Operator, codes "SUB", on_texts texts.ByteAt) ∷ (Operator, codes "LENGTH", on_texts texts.Length) ∷ (Procedure, codes "length", on_texts texts.Length)
    ∷ (Procedure, codes "pos", on_texts texts.PlaceOf)
    ∷ (Procedure, codes "subtext", on_texts texts.Subtext) ∷ (Procedure, codes "subtext", on_texts texts.SubtextFrom)
    ∷ (Procedure, codes "code", on_texts texts.CodeOf) ∷ (Procedure, codes "code", on_texts texts.TextOfCode)
    ∷ (Procedure, codes "text", on_texts texts.TextOfNumber) ∷ (Procedure, codes "int", on_texts texts.NumberIn)
    ∷ (Procedure, codes "abs", Operation op.Absolute) ∷ (Procedure, codes "min", Operation op.Minimum) ∷ (Procedure, codes "max", Operation op.Maximum)
    ∷ (Procedure, codes "maxint", Operation op.Largest) ∷ (Procedure, codes "niltask", Operation op.NoTask) ∷ (Procedure, codes "nilspace", Operation op.NilSpace)
    ∷ (Procedure, codes "errorstop", ErrorStop)
    ∷ (Procedure, codes "put", Request request.PutNumber) ∷ (Procedure, codes "put", Request request.PutText)
    ∷ (Procedure, codes "write", Request request.Write) ∷ (Procedure, codes "putline", Request request.PutLine) ∷ (Procedure, codes "line", Request request.Line)
    ∷ (Procedure, codes "get", Request request.GetNumber) ∷ (Procedure, codes "get", Request request.GetText) ∷ (Procedure, codes "getline", Request request.GetLine)
    ∷ (Procedure, codes "myself", Request request.Myself)
    ∷ (Procedure, codes "father", Request request.Father)
    ∷ (Procedure, codes "father", Request request.FatherOf)
    ∷ (Procedure, codes "son", Request request.Son)
    ∷ (Procedure, codes "brother", Request request.Brother)
    ∷ (Procedure, codes "task", Request request.Named)
    ∷ (Procedure, codes "name", Request request.NameOf)
    ∷ (Procedure, codes "exists", Request request.Exists)
    ∷ (Procedure, codes "end", Request request.EndOf)
    ∷ (Procedure, codes "end", Request request.End)
    ∷ (Procedure, codes "break", Request request.Break)
    ∷ (Procedure, codes "send", Request request.Send) ∷ (Procedure, codes "wait", Request request.Wait) ∷ (Procedure, codes "call", Request request.Call)
    ∷ (Procedure, codes "type", OnSpaces space.KindOf) ∷ (Procedure, codes "type", OnSpaces space.SetKind)
    ∷ (Procedure, codes "forget", OnSpaces space.Forget) ∷ (Procedure, codes "forget", OnSpaces space.ForgetNamed)
    ∷ (Procedure, codes "new", OnSpaces space.New) ∷ (Procedure, codes "old", OnSpaces space.Old) ∷ (Procedure, codes "exists", OnSpaces space.IsNamed)
    ∷ (Procedure, codes "rename", OnSpaces space.Rename) ∷ (Procedure, codes "copy", OnSpaces space.CopyNamed)
    ∷ []

-- what each is given: operations and calls on data spaces values, a change its variable first, a request its variables last
abbrev pub parameters : Predefined → List Parameter
parameters (Operation o) = values_of (operand_kinds o)
parameters (Change c) = held_var (type_in (change_kind c)) ∷ values_of (change_kind c ∷ [])
parameters (Request name) = request_parameters name
parameters (OnSpaces o) = values_of (space_operand_kinds o)
parameters ErrorStop = values_of (kinds.Text ∷ [])

-- the type that each delivers, or nothing
abbrev pub result : Predefined → Option ElanType
result (Operation o) = Some (type_in (result_kind o))
result (Request name) = option_map type_in (request_result name)
result (OnSpaces o) = option_map type_in (space_result_kind o)
result _ = None
