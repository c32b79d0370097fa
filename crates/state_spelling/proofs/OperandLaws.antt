-- Values, places and operands are spelled in one way.
use Rattle.std.proofs.Common.{◌≡◌, ℕ, Bool, List, [], ◌∷◌, Option, Some, None, refl, sym, ap}
use Rattle.std.specs.Prelude.{ℤ}
use Rattle.std.specs.Int.{w16, w32}
use Rattle.eu_base.specs.declared.address.Area.{Area}
use Rattle.eu_base.specs.declared.address.Area.TheVariants as areas
use Rattle.eu_base.specs.declared.address.Addr.{Addr}
use Rattle.eu_base.specs.Values.{SpaceNo}
use Rattle.eu_base.specs.declared.value.Value.{Value}
use Rattle.eu_base.specs.declared.value.Value.TheVariants as values
use Rattle.code_form.specs.declared.operand.Operand.{Operand}
use Rattle.code_form.specs.declared.operand.Operand.TheVariants as operands
use Rattle.byte_spelling.specs.Spelling.{number, nothing, both, truth, signed, bytes, list_of, option_of}
use Rattle.byte_spelling.proofs.Laws.{IsOne, all_of_them, some_is, one_w16, one_w32, nothing_one, both_one, truth_one, signed_one, bytes_one, list_one, option_one, spelled_as_one, one_of_one, are_cases}
use Rattle.state_spelling.specs.Operands.{space_number, value_number, int_in, truth_in, text_in, task_in, space_in, value_cases, value, area_number, run_in, packets_in, area_space_in, area_cases, area, place, operand_number, value_of, place_of, values_of, operand_cases, operand}

abbrev space_no : ℕ → SpaceNo
space_no n = record { 0 = n }

abbrev number_in : SpaceNo → Option ℕ
number_in s = Some s.0

space_same : (s : SpaceNo) (n : ℕ) → number_in s ≡ Some n → space_no n ≡ s
space_same s n e = ap space_no (sym (some_is s.0 n e))

pub space_number_one : IsOne space_number
space_number_one = spelled_as_one all_of_them space_no number_in (number w32) one_w32 (λ a f. refl) (λ a. tt) space_same

int_same : (b : Value) (a : ℤ) → int_in b ≡ Some a → values.Int a ≡ b
int_same (values.Int z) a e = ap values.Int (sym (some_is z a e))
int_same _ a e = absurd cc

truth_same : (b : Value) (a : Bool) → truth_in b ≡ Some a → values.Truth a ≡ b
truth_same (values.Truth z) a e = ap values.Truth (sym (some_is z a e))
truth_same _ a e = absurd cc

text_same : (b : Value) (a : List ℕ) → text_in b ≡ Some a → values.Text a ≡ b
text_same (values.Text z) a e = ap values.Text (sym (some_is z a e))
text_same _ a e = absurd cc

task_same : (b : Value) (a : ℕ) → task_in b ≡ Some a → values.Task a ≡ b
task_same (values.Task z) a e = ap values.Task (sym (some_is z a e))
task_same _ a e = absurd cc

space_value_same : (b : Value) (a : Option SpaceNo) → space_in b ≡ Some a → values.Space a ≡ b
space_value_same (values.Space z) a e = ap values.Space (sym (some_is z a e))
space_value_same _ a e = absurd cc

pub value_one : IsOne value
value_one = one_of_one value_number value_cases (are_cases value_number value_cases (
  spelled_as_one (λ (b : Value). value_number b ≡ 0) values.Int int_in signed signed_one (λ a f. refl) (λ a. refl) int_same,
  (
    spelled_as_one (λ (b : Value). value_number b ≡ 1) values.Truth truth_in truth truth_one (λ a f. refl) (λ a. refl) truth_same,
    (
      spelled_as_one (λ (b : Value). value_number b ≡ 2) values.Text text_in bytes bytes_one (λ a f. refl) (λ a. refl) text_same,
      (
        spelled_as_one (λ (b : Value). value_number b ≡ 3) values.Task task_in (number w32) one_w32 (λ a f. refl) (λ a. refl) task_same,
        (spelled_as_one (λ (b : Value). value_number b ≡ 4) values.Space space_in (option_of space_number) (option_one space_number space_number_one) (λ a f. refl) (λ a. refl) space_value_same, tt),
      ),
    ),
  ),
))

run_same : (b : Area) (a : Unit {0}) → run_in b ≡ Some a → (λ (u : Unit {0}). areas.Run) a ≡ b
run_same areas.Run a e = refl
run_same _ a e = absurd cc

packets_same : (b : Area) (a : Unit {0}) → packets_in b ≡ Some a → (λ (u : Unit {0}). areas.Packets) a ≡ b
packets_same areas.Packets a e = refl
packets_same _ a e = absurd cc

area_space_same : (b : Area) (a : SpaceNo) → area_space_in b ≡ Some a → areas.Space a ≡ b
area_space_same (areas.Space z) a e = ap areas.Space (sym (some_is z a e))
area_space_same _ a e = absurd cc

pub area_one : IsOne area
area_one = one_of_one area_number area_cases (are_cases area_number area_cases (
  spelled_as_one (λ (b : Area). area_number b ≡ 0) (λ (u : Unit {0}). areas.Run) run_in nothing nothing_one (λ a f. refl) (λ a. refl) run_same,
  (
    spelled_as_one (λ (b : Area). area_number b ≡ 1) (λ (u : Unit {0}). areas.Packets) packets_in nothing nothing_one (λ a f. refl) (λ a. refl) packets_same,
    (spelled_as_one (λ (b : Area). area_number b ≡ 2) areas.Space area_space_in space_number space_number_one (λ a f. refl) (λ a. refl) area_space_same, tt),
  ),
))

abbrev made_place : Area × ℕ → Addr
made_place p = record { area = p.0; cell = p.1 }

abbrev place_parts : Addr → Option (Area × ℕ)
place_parts a = Some (a.area, a.cell)

place_same : (b : Addr) (a : Area × ℕ) → place_parts b ≡ Some a → made_place a ≡ b
place_same b a e = ap made_place (sym (some_is {A = Area × ℕ} (b.area, b.cell) a e))

pub place_one : IsOne place
place_one = spelled_as_one all_of_them made_place place_parts (both area (number w16)) (both_one area (number w16) area_one one_w16) (λ a f. refl) (λ a. tt) place_same

value_of_same : (b : Operand) (a : Value) → value_of b ≡ Some a → operands.Value a ≡ b
value_of_same (operands.Value z) a e = ap operands.Value (sym (some_is z a e))
value_of_same _ a e = absurd cc

place_of_same : (b : Operand) (a : Addr) → place_of b ≡ Some a → operands.Place a ≡ b
place_of_same (operands.Place z) a e = ap operands.Place (sym (some_is z a e))
place_of_same _ a e = absurd cc

values_of_same : (b : Operand) (a : List Value) → values_of b ≡ Some a → operands.Aggregate a ≡ b
values_of_same (operands.Aggregate z) a e = ap operands.Aggregate (sym (some_is z a e))
values_of_same _ a e = absurd cc

pub operand_one : IsOne operand
operand_one = one_of_one operand_number operand_cases (are_cases operand_number operand_cases (
  spelled_as_one (λ (b : Operand). operand_number b ≡ 0) operands.Value value_of value value_one (λ a f. refl) (λ a. refl) value_of_same,
  (
    spelled_as_one (λ (b : Operand). operand_number b ≡ 1) operands.Place place_of place place_one (λ a f. refl) (λ a. refl) place_of_same,
    (spelled_as_one (λ (b : Operand). operand_number b ≡ 2) operands.Aggregate values_of (list_of value) (list_one value value_one) (λ a f. refl) (λ a. refl) values_of_same, tt),
  ),
))
