-- What holds of the productions without expressions.
use Rattle.std.proofs.Common.{◌≡◌, ℕ, zero, suc, Bool, true, false, refl, arith}
use Rattle.std.specs.Prelude.{◌||◌, nat_lt}
use Rattle.std.proofs.lemmas.Bool.{lt-ltb}
use Rattle.elan_tree.specs.declared.token.Key.TheVariants as key
use Rattle.elan_tree.specs.declared.token.Sign.TheVariants as sign
use Rattle.elan_tree.specs.declared.written_type.TypePhrase.{TypePhrase}
use Rattle.elan_grammar.specs.Kinds.{is_key, is_sign, goes_on, begins_typed}
use Rattle.elan_grammar.specs.Rule.{Rule}
use Rattle.elan_grammar.specs.Terminals.{bold}
use Rattle.elan_grammar.specs.Types as g
use Rattle.elan_grammar.proofs.Sets.{is_ident, is_number, is_bold, is_comma, is_literal}
use Rattle.elan_grammar.proofs.Laws.{Set, Within, Apart, Laws, Full, pure_law, fail_law, terminal_same}
use Rattle.elan_grammar.proofs.Sequences.{no_guard, guard_law, choose_law, choose_first}
use Rattle.elan_grammar.proofs.Every.{within, apart}
use Rattle.elan_grammar.proofs.Seen.{declares, is_type_name}
use Rattle.elan_grammar.proofs.Tokens.{keyword_law, mark_law, comma_law, going_law, parting_law, ident_law, bold_law, type_name_law, simple_law, size_law}
use Rattle.elan_grammar.proofs.Tokens.{misses_key, misses_mark, misses_comma, misses_ident, misses_bold}
use Rattle.elan_grammar.proofs.Tokens.{access_law, constant_law, label_law, negated_law, is_simple, is_size, is_access}
use Rattle.elan_grammar.proofs.Forms.{bind_same, wider_part, listed_law, seen_listed}

-- a depth above none
pub some_depth : (n : ℕ) → nat_lt 0 (suc n) ≡ true
some_depth n = lt-ltb 0 (suc n) (omega arith)

abbrev pub always : Set
always x = true

-- ident { "," ident } may stand before what is no comma with an identifier behind it.
pub names_law : (stop : Set) → Apart stop goes_on → Full g.names is_ident stop
unfolding g.names
names_law stop ap = seen_listed goes_on _ _ goes_on is_ident always stop going_law (ident_law always) (λ x h. h) (λ x h. refl) (λ x h. refl) ap refl

-- what a type begins with, where its bold words are seen as p
abbrev pub type_first : Set → Set
type_first p x = p x || (is_key key.Row x || (is_key key.Struct x || is_simple x))

abbrev pub any_type : Set
any_type = type_first is_bold

abbrev rest2 : Set
rest2 x = is_key key.Struct x || is_simple x

abbrev rest1 : Set
rest1 x = is_key key.Row x || rest2 x

true_or : (a b : Bool) → b ≡ true → (a || b) ≡ true
true_or true b h = refl
true_or false b h = h

or_left : (p q : Set) → Within p (λ x. p x || q x)
or_left p q x h = rw h refl

or_right : (p q : Set) → Within q (λ x. p x || q x)
or_right p q x h = true_or (p x) (q x) h

abbrev pub after_field : Set
after_field x = is_sign sign.Comma x || is_sign sign.RightRound x

module _ (inner : Rule TypePhrase) (laws : (stop : Set) → Full inner any_type stop) where
  field_law : Full (g.field inner) any_type after_field
  unfolding g.field
  field_law =
      bind_same _ _ _ _ _ (laws is_ident) (λ t.
      bind_same _ _ _ _ _ (names_law after_field (apart after_field goes_on refl)) (λ xs.
      pure_law _ after_field))

  fields_law : Full (g.fields inner) any_type (is_sign sign.RightRound)
  unfolding g.fields
  fields_law =
      listed_law _ _ (is_sign sign.Comma) any_type after_field (is_sign sign.RightRound) (parting_law any_type (apart any_type is_ident refl))
      field_law
      (within (is_sign sign.Comma) after_field refl) (within (is_sign sign.RightRound) after_field refl) (misses_comma (is_sign sign.RightRound)
      (apart (is_sign sign.RightRound) is_comma refl))

module _ (inner : Rule TypePhrase) (n : ℕ) (laws : nat_lt 0 n ≡ true → (stop : Set) → Full inner any_type stop) where
  named_type_law : (p stop : Set) → Full bold p stop → Full (g.named_type inner) p stop
  unfolding g.named_type
  named_type_law p stop l = bind_same _ _ _ _ _ l (λ x. pure_law _ stop)

  row_law : (stop : Set) → Laws (g.row inner n) (is_key key.Row) stop
  unfolding g.row
  row_law stop =
      guard_law _ _ _ _ (terminal_same _) (λ some. (
      bind_same _ _ _ _ _ (keyword_law key.Row is_size) (λ at.
      bind_same _ _ _ _ _ (size_law any_type) (λ s.
      bind_same _ _ _ _ _ (laws some stop) (λ t.
      pure_law _ stop)))).laws)

  structure_law : (stop : Set) → Laws (g.structure inner n) (is_key key.Struct) stop
  unfolding g.structure
  structure_law stop =
      guard_law _ _ _ _ (terminal_same _) (λ some. (
      bind_same _ _ _ _ _ (keyword_law key.Struct (is_sign sign.LeftRound)) (λ at.
      bind_same _ _ _ _ _ (mark_law sign.LeftRound any_type refl) (λ _.
      bind_same _ _ _ _ _ (fields_law inner (laws some)) (λ fs.
      bind_same _ _ _ _ _ (mark_law sign.RightRound stop refl) (λ _.
      pure_law _ stop))))).laws)

  a_type_law : (p stop : Set) → Full bold p stop → Within p is_bold → Full (g.a_type inner n) (type_first p) stop
  unfolding g.a_type g.named_type g.row g.structure
  a_type_law p stop l w =
      choose_law _ _ p rest1 (type_first p) stop (named_type_law p stop l).laws
      (choose_law _ _ (is_key key.Row) rest2 rest1 stop (row_law stop)
      (choose_law _ _ (is_key key.Struct) is_simple rest2 stop (structure_law stop) (simple_law stop)
      (misses_key key.Struct is_simple (apart is_simple (is_key key.Struct) refl)) (within (is_key key.Struct) rest2 refl) (within is_simple rest2 refl))
      (misses_key key.Row rest2 (apart rest2 (is_key key.Row) refl)) (within (is_key key.Row) rest1 refl) (within rest2 rest1 refl))
      (misses_bold rest1 (apart rest1 is_bold refl)) (or_left p rest1) (or_right p rest1)

pub types_law : (n : ℕ) → nat_lt 0 n ≡ true → (p stop : Set) → Full bold p stop → Within p is_bold → Full (g.types n) (type_first p) stop
unfolding g.types
types_law zero some p stop l w = no_guard some
types_law (suc n) some p stop l w = a_type_law (g.types n) n (λ more q. types_law n more is_bold q (bold_law q) (λ x h. h)) p stop l w

types_part : (n : ℕ) (p stop : Set) → Full bold p stop → Within p is_bold → Laws (g.types n) (type_first p) stop
unfolding g.types
types_part zero p stop l w = fail_law (type_first p) stop
types_part (suc n) p stop l w = (types_law (suc n) (some_depth n) p stop l w).laws

pub type_law : (n : ℕ) → nat_lt 0 n ≡ true → (stop : Set) → Full (g.types n) any_type stop
type_law n some stop = types_law n some is_bold stop (bold_law stop) (λ x h. h)

-- before VAR, CONST, PROC and OP
pub typed_law : (n : ℕ) (stop : Set) → Within stop declares → Laws (g.types n) begins_typed stop
typed_law n stop w =
    wider_part _ _ _ stop (types_part n is_type_name stop (type_name_law stop w) (within is_type_name is_bold refl))
    (within (type_first is_type_name) begins_typed refl)

formal_law : (n : ℕ) → nat_lt 0 n ≡ true → Full (g.formal n) any_type after_field
unfolding g.formal
formal_law n some =
    bind_same _ _ _ _ _ (type_law n some is_access) (λ t.
    bind_same _ _ _ _ _ (access_law is_ident) (λ a.
    bind_same _ _ _ _ _ (names_law after_field (apart after_field goes_on refl)) (λ xs.
    pure_law _ after_field)))

pub formals_law : (n : ℕ) → nat_lt 0 n ≡ true → Full (g.formals n) any_type (is_sign sign.RightRound)
unfolding g.formals
formals_law n some =
    listed_law _ _ (is_sign sign.Comma) any_type after_field (is_sign sign.RightRound) (parting_law any_type (apart any_type is_ident refl))
    (formal_law n some)
    (within (is_sign sign.Comma) after_field refl) (within (is_sign sign.RightRound) after_field refl) (misses_comma (is_sign sign.RightRound)
    (apart (is_sign sign.RightRound) is_comma refl))

negative_law : (stop : Set) → Full g.negative (is_sign sign.Minus) stop
unfolding g.negative
negative_law stop =
    bind_same _ _ _ _ _ (mark_law sign.Minus is_number refl) (λ at.
    bind_same _ _ _ _ _ (negated_law stop) (λ n.
    pure_law _ stop))

abbrev begins_constant : Set
begins_constant x = is_sign sign.Minus x || is_literal x

constant_rule_law : (stop : Set) → Full g.constant begins_constant stop
unfolding g.constant g.negative
constant_rule_law stop =
    choose_law _ _ (is_sign sign.Minus) is_literal begins_constant stop (negative_law stop).laws (constant_law stop)
    (misses_mark sign.Minus is_literal refl (apart is_literal (is_sign sign.Minus) refl)) (within (is_sign sign.Minus) begins_constant refl)
    (within is_literal begins_constant refl)

let_constant_law : (stop : Set) → Full g.let_constant is_ident stop
unfolding g.let_constant
let_constant_law stop =
    bind_same _ _ _ _ _ (ident_law (is_sign sign.Equal)) (λ x.
    bind_same _ _ _ _ _ (mark_law sign.Equal begins_constant refl) (λ _.
    bind_same _ _ _ _ _ (constant_rule_law stop) (λ c.
    pure_law _ stop)))

abbreviation_law : (n : ℕ) (stop : Set) → Laws (g.abbreviation n) is_bold stop
unfolding g.abbreviation
abbreviation_law n stop =
    guard_law _ _ _ _ (terminal_same _) (λ some. (
    bind_same _ _ _ _ _ (bold_law (is_sign sign.Equal)) (λ x.
    bind_same _ _ _ _ _ (mark_law sign.Equal any_type refl) (λ _.
    bind_same _ _ _ _ _ (type_law n some stop) (λ t.
    pure_law _ stop)))).laws)

abbrev pub begins_let_item : Set
begins_let_item x = is_ident x || is_bold x

let_item_law : (n : ℕ) (stop : Set) → Full (g.let_item n) begins_let_item stop
unfolding g.let_item g.let_constant
let_item_law n stop =
    choose_first _ _ is_ident is_bold begins_let_item stop (let_constant_law stop) (abbreviation_law n stop)
    (misses_ident is_bold (apart is_bold is_ident refl)) (within is_ident begins_let_item refl) (within is_bold begins_let_item refl)

pub let_items_law : (n : ℕ) (stop : Set) → Apart stop is_comma → Full (g.let_items n) begins_let_item stop
unfolding g.let_items
let_items_law n stop ap =
    listed_law _ _ is_comma begins_let_item always stop (comma_law begins_let_item) (let_item_law n always) (λ x h. refl) (λ x h. refl)
    (misses_comma stop ap)

negative_label_law : (stop : Set) → Full g.negative_label (is_sign sign.Minus) stop
unfolding g.negative_label
negative_label_law stop =
    bind_same _ _ _ _ _ (mark_law sign.Minus is_number refl) (λ at.
    bind_same _ _ _ _ _ (negated_law stop) (λ n.
    pure_law _ stop))

abbrev pub begins_label : Set
begins_label x = is_sign sign.Minus x || is_size x

label_rule_law : (stop : Set) → Full g.label begins_label stop
unfolding g.label g.negative_label
label_rule_law stop =
    choose_law _ _ (is_sign sign.Minus) is_size begins_label stop (negative_label_law stop).laws (label_law stop)
    (misses_mark sign.Minus is_size refl (apart is_size (is_sign sign.Minus) refl)) (within (is_sign sign.Minus) begins_label refl)
    (within is_size begins_label refl)

pub labels_law : (stop : Set) → Apart stop is_comma → Full g.labels begins_label stop
unfolding g.labels
labels_law stop ap =
    listed_law _ _ is_comma begins_label always stop (comma_law begins_label) (label_rule_law always) (λ x h. refl) (λ x h. refl) (misses_comma stop ap)
