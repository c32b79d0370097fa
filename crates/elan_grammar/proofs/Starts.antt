-- By which tokens productions start: what the parser's tests are to see.
use Rattle.std.proofs.Common.{◌≡◌, ℕ, zero, suc, Option, refl, ◌∙◌}
use Rattle.std.specs.Prelude.{◌||◌}
use Rattle.elan_tree.specs.declared.token.Key.{Key}
use Rattle.elan_tree.specs.declared.token.Key.TheVariants as key
use Rattle.elan_tree.specs.declared.token.Sign.TheVariants as sign
use Rattle.elan_tree.specs.declared.written_type.Name.{Name}
use Rattle.elan_tree.specs.declared.written_type.TypePhrase.{TypePhrase}
use Rattle.elan_tree.specs.declared.written_type.Formal.{Formal}
use Rattle.elan_tree.specs.declared.phrase.Expr.{Expr}
use Rattle.elan_grammar.specs.Kinds.{ahead, is_key, is_sign, is_init, is_rep, selects}
use Rattle.elan_grammar.specs.Rule.{Tokens, Rule, accepts}
use Rattle.elan_grammar.specs.Terminals.{in_word, place_if, end_of, bold_of, ident_of, literal_of, monadic_of, joint_of}
use Rattle.elan_grammar.specs.Types as types
use Rattle.elan_grammar.specs.Expressions as expressions
use Rattle.elan_grammar.specs.Expressions.{Language}
use Rattle.elan_grammar.specs.Units as units
use Rattle.elan_grammar.specs.Grammar as texts

pub named_type_starts : (inner : Rule TypePhrase) (xs : Tokens) → (types.named_type inner).starts xs ≡ accepts (in_word bold_of) xs
unfolding types.named_type
named_type_starts inner xs = refl

pub row_starts : (inner : Rule TypePhrase) (n : ℕ) (xs : Tokens) → (types.row inner n).starts xs ≡ accepts (place_if (is_key key.Row)) xs
unfolding types.row
row_starts inner n xs = refl

pub structure_starts : (inner : Rule TypePhrase) (n : ℕ) (xs : Tokens) → (types.structure inner n).starts xs ≡ accepts (place_if (is_key key.Struct)) xs
unfolding types.structure
structure_starts inner n xs = refl

pub negative_starts : (xs : Tokens) → (types.negative).starts xs ≡ accepts (place_if (is_sign sign.Minus)) xs
unfolding types.negative
negative_starts xs = refl

pub let_constant_starts : (xs : Tokens) → (types.let_constant).starts xs ≡ accepts (in_word ident_of) xs
unfolding types.let_constant
let_constant_starts xs = refl

pub negative_label_starts : (xs : Tokens) → (types.negative_label).starts xs ≡ accepts (place_if (is_sign sign.Minus)) xs
unfolding types.negative_label
negative_label_starts xs = refl

pub end_starts : (x : Key) (xs : Tokens) → (end_of x).starts xs ≡ accepts (place_if (is_key key.End)) xs
unfolding end_of
end_starts x xs = refl

pub procedure_starts : (inner : Language) (n : ℕ) (xs : Tokens) → (expressions.procedure inner n).starts xs ≡ accepts (place_if (is_key key.Proc)) xs
unfolding expressions.procedure
procedure_starts inner n xs = refl

pub call_starts : (inner : Language) (n : ℕ) (x : Name) (xs : Tokens) → (expressions.call inner n x).starts xs ≡ accepts (place_if (is_sign sign.LeftRound)) xs
unfolding expressions.call
call_starts inner n x xs = refl

pub bracket_starts : (inner : Language) (n : ℕ) (xs : Tokens) → (expressions.bracket inner n).starts xs ≡ accepts (place_if (is_sign sign.LeftRound)) xs
unfolding expressions.bracket
bracket_starts inner n xs = refl

pub concr_starts : (inner : Language) (n : ℕ) (xs : Tokens) → (expressions.concr inner n).starts xs ≡ accepts (place_if (is_key key.Concr)) xs
unfolding expressions.concr
concr_starts inner n xs = refl

pub choice_starts : (inner : Language) (n : ℕ) (xs : Tokens) → (expressions.choice inner n).starts xs ≡ accepts (place_if (is_key key.If)) xs
unfolding expressions.choice
choice_starts inner n xs = refl

pub selection_starts : (inner : Language) (n : ℕ) (xs : Tokens) → (expressions.selection inner n).starts xs ≡ accepts (place_if (is_key key.Select)) xs
unfolding expressions.selection
selection_starts inner n xs = refl

pub index_starts : (inner : Language) (n : ℕ) (a : Expr) (xs : Tokens)
    → (expressions.index inner n a).starts xs ≡ accepts (place_if (is_sign sign.LeftSquare)) xs
unfolding expressions.index expressions.index_part
index_starts inner n a xs = refl

pub field_starts : (inner : Language) (n : ℕ) (a : Expr) (xs : Tokens) → (expressions.field_of inner n a).starts xs ≡ selects (ahead xs)
unfolding expressions.field_of expressions.field_part
field_starts inner n a xs = refl

pub longer_starts : (inner : Language) (n : ℕ) (a : Expr) (xs : Tokens)
    → (expressions.longer inner n a).starts xs ≡ (accepts (place_if (is_sign sign.LeftSquare)) xs || selects (ahead xs))
unfolding expressions.longer expressions.index expressions.index_part expressions.field_of expressions.field_part
longer_starts inner n a xs = refl

pub applied_starts : (inner : Language) (n : ℕ) (xs : Tokens) → (expressions.applied inner n).starts xs ≡ accepts (in_word monadic_of) xs
unfolding expressions.applied
applied_starts inner n xs = refl

pub dyadic_starts : (inner : Language) (n : ℕ) (i : ℕ) (a : Expr) (xs : Tokens)
    → (expressions.dyadic inner n i a).starts xs ≡ accepts (in_word (joint_of (suc i))) xs
unfolding expressions.dyadic expressions.right_part
dyadic_starts inner n i a xs = refl

pub case_starts : (inner : Language) (n : ℕ) (xs : Tokens) → (expressions.a_case inner n).starts xs ≡ accepts (place_if (is_key key.Case)) xs
unfolding expressions.a_case
case_starts inner n xs = refl

pub ruleset of_types = (named_type_starts, row_starts, structure_starts, negative_starts, let_constant_starts, negative_label_starts)

pub ruleset of_expressions = (
  end_starts,
  procedure_starts,
  call_starts,
  bracket_starts,
  concr_starts,
  choice_starts,
  selection_starts,
  index_starts,
  field_starts,
  longer_starts,
  applied_starts,
  dyadic_starts,
  case_starts,
)

pub let_starts : (inner : Language) (n : ℕ) (xs : Tokens) → (units.a_let inner n).starts xs ≡ accepts (place_if (is_key key.Let)) xs
unfolding units.a_let
let_starts inner n xs = refl

pub bound_starts : (inner : Language) (n : ℕ) (xs : Tokens) → (units.bound inner n).starts xs ≡ accepts (place_if (is_key key.Bound)) xs
unfolding units.bound
bound_starts inner n xs = refl

pub leave_starts : (inner : Language) (n : ℕ) (xs : Tokens) → (units.leave inner n).starts xs ≡ accepts (place_if (is_key key.Leave)) xs
unfolding units.leave
leave_starts inner n xs = refl

pub counted_starts : (inner : Language) (n : ℕ) (xs : Tokens) → (units.counted inner n).starts xs ≡ accepts (place_if (is_key key.For)) xs
unfolding units.counted
counted_starts inner n xs = refl

pub guarded_starts : (inner : Language) (n : ℕ) (xs : Tokens) → (units.guarded inner n).starts xs ≡ accepts (place_if (is_key key.While)) xs
unfolding units.guarded
guarded_starts inner n xs = refl

pub repeated_starts : (inner : Language) (n : ℕ) (xs : Tokens) → (units.repeated inner n).starts xs ≡ accepts (place_if is_rep) xs
unfolding units.repeated units.turns units.turn_parts
repeated_starts inner n xs = refl

pub upto_starts : (inner : Language) (n : ℕ) (xs : Tokens) → (units.upto inner n).starts xs ≡ accepts (place_if (is_key key.Upto)) xs
unfolding units.upto
upto_starts inner n xs = refl

pub downto_starts : (inner : Language) (n : ℕ) (xs : Tokens) → (units.downto inner n).starts xs ≡ accepts (place_if (is_key key.Downto)) xs
unfolding units.downto
downto_starts inner n xs = refl

pub init_starts : (inner : Language) (n : ℕ) (xs : Tokens) → (units.init inner n).starts xs ≡ accepts (place_if is_init) xs
unfolding units.init
init_starts inner n xs = refl

pub variables_starts : (inner : Language) (n : ℕ) (of : TypePhrase) (xs : Tokens)
    → (units.variables inner n of).starts xs ≡ accepts (place_if (is_key key.Var)) xs
unfolding units.variables
variables_starts inner n of xs = refl

pub assigned_starts : (inner : Language) (n : ℕ) (a : Expr) (xs : Tokens) → (units.assigned inner n a).starts xs ≡ accepts (place_if (is_sign sign.Becomes)) xs
unfolding units.assigned
assigned_starts inner n a xs = refl

-- An expression begins with an operator before its operand, a literal, an identifier, `(`, CONCR, IF or SELECT.
operand_starts : (inner : Language) (n : ℕ) (xs : Tokens) → (expressions.operand inner n).starts xs
    ≡ (accepts (in_word monadic_of) xs
    || (accepts (in_word literal_of) xs || (accepts (place_if (is_sign sign.LeftRound)) xs || (accepts (place_if (is_key key.Concr)) xs
    || (accepts (place_if (is_key key.If)) xs || (accepts (place_if (is_key key.Select)) xs || accepts (in_word ident_of) xs))))))
unfolding expressions.operand expressions.applied expressions.prim expressions.head expressions.bracket expressions.concr expressions.choice
    expressions.selection expressions.named
operand_starts inner n xs = refl

level_starts : (inner : Language) (n i : ℕ) (xs : Tokens) → (expressions.level inner n i).starts xs ≡ (expressions.operand inner n).starts xs
unfolding expressions.level
level_starts inner n zero xs = refl
level_starts inner n (suc i) xs = level_starts inner n i xs

pub statement_starts : (inner : Language) (n : ℕ) (xs : Tokens) → (units.statement inner n).starts xs
    ≡ (accepts (in_word monadic_of) xs
    || (accepts (in_word literal_of) xs || (accepts (place_if (is_sign sign.LeftRound)) xs || (accepts (place_if (is_key key.Concr)) xs
    || (accepts (place_if (is_key key.If)) xs || (accepts (place_if (is_key key.Select)) xs || accepts (in_word ident_of) xs))))))
unfolding units.statement
statement_starts inner n xs = level_starts inner n 6 xs ∙ operand_starts inner n xs

pub refinements_starts : (n : ℕ) (xs : Tokens) → (texts.refinements n).starts xs ≡ accepts (in_word ident_of) xs
unfolding texts.refinements texts.refinement_list texts.refinement
refinements_starts n xs = refl

pub point_tail_starts : (n : ℕ) (xs : Tokens) → (texts.point_tail n).starts xs ≡ accepts (place_if (is_sign sign.Point)) xs
unfolding texts.point_tail
point_tail_starts n xs = refl

pub formal_list_starts : (most : ℕ) (in_body : ℕ) (xs : Tokens) → (texts.formal_list most in_body).starts xs ≡ accepts (place_if (is_sign sign.LeftRound)) xs
unfolding texts.formal_list
formal_list_starts most in_body xs = refl

pub other_typed_starts : (most : ℕ) (in_body : ℕ) (f : Formal) (xs : Tokens)
    → (texts.other_typed most in_body f).starts xs ≡ accepts (place_if (is_sign sign.Comma)) xs
unfolding texts.other_typed
other_typed_starts most in_body f xs = refl

pub proc_starts : (most : ℕ) (in_body : ℕ) (of : Option TypePhrase) (xs : Tokens)
    → (texts.proc most in_body of).starts xs ≡ accepts (place_if (is_key key.Proc)) xs
unfolding texts.proc texts.proc_parts
proc_starts most in_body of xs = refl

pub operator_starts : (most : ℕ) (in_body : ℕ) (of : Option TypePhrase) (xs : Tokens)
    → (texts.operator most in_body of).starts xs ≡ accepts (place_if (is_key key.Op)) xs
unfolding texts.operator texts.operator_parts
operator_starts most in_body of xs = refl

pub new_type_starts : (most : ℕ) (in_body : ℕ) (xs : Tokens) → (texts.new_type most in_body).starts xs ≡ accepts (place_if (is_key key.TypeWord)) xs
unfolding texts.new_type
new_type_starts most in_body xs = refl

pub ruleset of_units = (
  let_starts,
  bound_starts,
  leave_starts,
  counted_starts,
  guarded_starts,
  repeated_starts,
  upto_starts,
  downto_starts,
  init_starts,
  variables_starts,
  assigned_starts,
  statement_starts,
)

pub ruleset of_texts = (refinements_starts, point_tail_starts, formal_list_starts, other_typed_starts, proc_starts, operator_starts, new_type_starts)
