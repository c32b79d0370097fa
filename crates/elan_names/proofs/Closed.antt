-- What is predefined has types with meaning.
use Rattle.std.proofs.Common.{◌≡◌, Bool, false, ◌||◌, List, [], ◌∷◌, ◌++◌, map, Some, None, refl, ap, ◌∙◌}
use Rattle.std.specs.Prelude.{Option, option_map}
use Rattle.eu_base.specs.declared.value.Kind.{Kind}
use Rattle.eu_base.specs.declared.value.Kind.TheVariants as kinds
use Rattle.eu_base.specs.Requests.{request_kinds, request_places, request_result}
use Rattle.eu_base.specs.Operations.{operand_kinds, result_kind, change_kind}
use Rattle.eu_base.specs.SpaceOperations.{space_operand_kinds, space_result_kind}
use Rattle.elan_types.specs.Types.{type_in, held_var, values_of}
use Rattle.elan_types.proofs.Types.{type_closed}
use Rattle.elan_names.specs.declared.predefined.Predefined.{Predefined}
use Rattle.elan_names.specs.declared.predefined.Predefined.TheVariants.{Operation, Change, Request, OnSpaces, ErrorStop}
use Rattle.elan_names.specs.Predefined.{parameters, result}
use Rattle.elan_names.specs.Callables.{has_open, is_open_result}

values_closed : (ks js : List Kind) → has_open (values_of ks ++ map (λ k. held_var (type_in k)) js) ≡ false
values_closed [] [] = refl
values_closed [] (j ∷ js) = ap (λ (b : Bool). b || has_open (map (λ k. held_var (type_in k)) js)) (type_closed j) ∙ values_closed [] js
values_closed (k ∷ ks) js =
    ap (λ (b : Bool). b || has_open (values_of ks ++ map (λ k. held_var (type_in k)) js)) (type_closed k) ∙ values_closed ks js

plain_closed : (ks : List Kind) → has_open (values_of ks) ≡ false
plain_closed [] = refl
plain_closed (k ∷ ks) = ap (λ (b : Bool). b || has_open (values_of ks)) (type_closed k) ∙ plain_closed ks

pub parameters_closed : (p : Predefined) → has_open (parameters p) ≡ false
parameters_closed (Operation o) = plain_closed (operand_kinds o)
parameters_closed (Change c) =
    ap (λ (b : Bool). b || has_open (values_of (change_kind c ∷ []))) (type_closed (change_kind c)) ∙ plain_closed (change_kind c ∷ [])
parameters_closed (Request name) = values_closed (request_kinds name) (request_places name)
parameters_closed (OnSpaces o) = plain_closed (space_operand_kinds o)
parameters_closed ErrorStop = plain_closed (kinds.Text ∷ [])

answer_closed : (answer : Option Kind) → is_open_result (option_map type_in answer) ≡ false
answer_closed None = refl
answer_closed (Some k) = type_closed k

pub result_closed : (p : Predefined) → is_open_result (result p) ≡ false
result_closed (Operation o) = type_closed (result_kind o)
result_closed (Change c) = refl
result_closed (Request name) = answer_closed (request_result name)
result_closed (OnSpaces o) = answer_closed (space_result_kind o)
result_closed ErrorStop = refl
