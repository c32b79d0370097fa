-- What holds of the productions of units.
use Rattle.std.proofs.Common.{◌≡◌, ℕ, zero, suc, true, Option, Some, None, refl, arith}
use Rattle.std.specs.Prelude.{◌||◌, nat_lt}
use Rattle.elan_tree.specs.declared.token.Key.TheVariants as key
use Rattle.elan_tree.specs.declared.token.Sign.TheVariants as sign
use Rattle.elan_tree.specs.declared.written_type.TypePhrase.{TypePhrase}
use Rattle.elan_tree.specs.declared.phrase.Expr.{Expr}
use Rattle.elan_tree.specs.declared.phrase.Counter.{Counter}
use Rattle.elan_grammar.specs.Kinds.{is_key, is_sign, is_init, is_rep, begins_typed, ahead}
use Rattle.elan_grammar.specs.Rule.{◌>>◌, optional}
use Rattle.elan_grammar.specs.Terminals.{keyword}
use Rattle.elan_grammar.specs.Expressions.{Language, level}
use Rattle.elan_grammar.specs.Depth.{expr_depth}
use Rattle.elan_grammar.specs.Units as g
use Rattle.elan_grammar.proofs.Sets.{is_ident, is_comma, begins}
use Rattle.elan_grammar.proofs.Laws.{Set, Within, Apart, Laws, Full, pure_law, terminal_same}
use Rattle.elan_grammar.proofs.Sequences.{no_guard, guard_law, bind_law, choose_law, Others, seen_law}
use Rattle.elan_grammar.proofs.Every.{within, apart}
use Rattle.elan_grammar.proofs.Seen.{declares}
use Rattle.elan_grammar.proofs.Tokens.{keyword_law, mark_law, comma_law, ident_law, init_law, rep_law, leaving_law, is_leaving, misses_key, misses_mark}
use Rattle.elan_grammar.proofs.Tokens.{misses_comma, misses_init, misses_rep}
use Rattle.elan_grammar.proofs.Forms.{bind_same, part_same, narrower, optional_law, listed_law}
use Rattle.elan_grammar.proofs.TypeLaws.{let_items_law, begins_let_item, type_law, typed_law, any_type}
use Rattle.elan_grammar.proofs.Follows.{ends_level, ends_units, ends_unit, begins_plain, begins_unit}
use Rattle.elan_grammar.proofs.ExpressionLaws.{LanguageLaws, deeper, level_law, no_level}

abbrev pub begins_declared : Set
begins_declared x = is_key key.Var x || is_key key.Const x

abbrev after_item : Set
after_item x = is_comma x || ends_unit x

abbrev after_item_name : Set
after_item_name x = is_init x || after_item x

abbrev is_loop_end : Set
is_loop_end x = is_key key.End x || is_key key.Per x

abbrev after_turns : Set
after_turns x = is_key key.Until x || is_loop_end x

abbrev after_limit : Set
after_limit x = is_key key.While x || is_rep x

abbrev after_downto : Set
after_downto x = is_key key.Downto x || after_limit x

abbrev after_from : Set
after_from x = is_key key.Upto x || after_downto x

abbrev after_counter_name : Set
after_counter_name x = is_key key.From x || after_from x

abbrev after_statement : Set
after_statement x = is_sign sign.Becomes x || ends_unit x

abbrev after_leaving : Set
after_leaving x = is_key key.With x || ends_unit x

loop_end_law : (stop : Set) → Full g.loop_end is_loop_end stop
unfolding g.loop_end
loop_end_law stop =
    choose_law _ _ (is_key key.End) (is_key key.Per) is_loop_end stop
    (bind_same _ _ _ _ _ (keyword_law key.End is_rep) (λ _. rep_law stop)).laws (keyword_law key.Per stop)
    (misses_key key.End (is_key key.Per) (apart (is_key key.Per) (is_key key.End) refl)) (within (is_key key.End) is_loop_end refl)
    (within (is_key key.Per) is_loop_end refl)

module _ (inner : Language) (n : ℕ) (laws : LanguageLaws inner) where
  inner_law : Full (inner.level 6) begins (ends_level 6)
  inner_law = laws.levels 6 (omega arith)

  -- a keyword and an expression that may be left out
  part_law : (x : _) (stop first : Set) → Within stop (ends_level 6) → Apart stop (is_key x) → Within (is_key x) first → Within stop first
      → Full (optional (keyword x >> inner.level 6)) first stop
  part_law x stop first w ap fx fs =
      optional_law _ (is_key x) stop first (bind_same _ _ _ _ _ (keyword_law x begins) (λ _. narrower _ _ _ stop inner_law w)).laws
      (misses_key x stop ap) fx fs

  with_part_law : Full (g.key_part inner n key.With) after_leaving ends_unit
  unfolding g.key_part
  with_part_law =
      part_law key.With ends_unit after_leaving (within ends_unit (ends_level 6) refl) (apart ends_unit (is_key key.With) refl)
      (within (is_key key.With) after_leaving refl) (within ends_unit after_leaving refl)

  upto_law : Full (g.upto inner n) (is_key key.Upto) after_limit
  unfolding g.upto
  upto_law =
      bind_same _ _ _ _ _ (bind_same _ _ _ _ _ (keyword_law key.Upto begins)
      (λ _. narrower _ _ _ after_limit inner_law (within after_limit (ends_level 6) refl))) (λ a.
      pure_law _ after_limit)

  downto_law : Full (g.downto inner n) (is_key key.Downto) after_limit
  unfolding g.downto
  downto_law =
      bind_same _ _ _ _ _ (bind_same _ _ _ _ _ (keyword_law key.Downto begins)
      (λ _. narrower _ _ _ after_limit inner_law (within after_limit (ends_level 6) refl))) (λ a.
      pure_law _ after_limit)

  a_limit_law : Full (g.a_limit inner n) after_from after_limit
  unfolding g.a_limit g.upto g.downto
  a_limit_law =
      choose_law _ _ (is_key key.Upto) after_downto after_from after_limit upto_law.laws
      (choose_law _ _ (is_key key.Downto) after_limit after_downto after_limit downto_law.laws (pure_law _ after_limit)
      (misses_key key.Downto after_limit (apart after_limit (is_key key.Downto) refl)) (within (is_key key.Downto) after_downto refl)
      (within after_limit after_downto refl))
      (misses_key key.Upto after_downto (apart after_downto (is_key key.Upto) refl)) (within (is_key key.Upto) after_from refl)
      (within after_downto after_from refl)

  from_part_law : Full (g.key_part inner n key.From) after_counter_name after_from
  unfolding g.key_part
  from_part_law =
      part_law key.From after_from after_counter_name (within after_from (ends_level 6) refl) (apart after_from (is_key key.From) refl)
      (within (is_key key.From) after_counter_name refl) (within after_from after_counter_name refl)

  counter_law : Full (g.counter inner n) is_ident after_limit
  unfolding g.counter
  counter_law =
      bind_same _ _ _ _ _ (ident_law after_counter_name) (λ x.
      bind_same _ _ _ _ _ from_part_law (λ f.
      bind_same _ _ _ _ _ a_limit_law (λ l.
      pure_law _ after_limit)))

  until_part_law : Full (g.key_part inner n key.Until) after_turns is_loop_end
  unfolding g.key_part
  until_part_law =
      part_law key.Until is_loop_end after_turns (within is_loop_end (ends_level 6) refl) (apart is_loop_end (is_key key.Until) refl)
      (within (is_key key.Until) after_turns refl) (within is_loop_end after_turns refl)

  turn_parts_law : (stop : Set) → Full (g.turn_parts inner n) is_rep stop
  unfolding g.turn_parts
  turn_parts_law stop =
      bind_same _ _ _ _ _ (rep_law begins_unit) (λ r.
      bind_law _ _ _ _ after_turns stop laws.bodies (λ us.
      bind_same _ _ _ _ _ until_part_law (λ a.
      bind_same _ _ _ _ _ (loop_end_law stop) (λ _.
      pure_law _ stop))) (within after_turns ends_units refl))

  turns_law : (at : Option ℕ) (c : Option Counter) (w : Option Expr) (stop : Set) → Full (g.turns inner n at c w) is_rep stop
  unfolding g.turns
  turns_law at c w stop = bind_same _ _ _ _ _ (turn_parts_law stop) (λ p. pure_law _ stop)

  while_part_law : Full (g.key_part inner n key.While) after_limit is_rep
  unfolding g.key_part
  while_part_law =
      part_law key.While is_rep after_limit (within is_rep (ends_level 6) refl) (apart is_rep (is_key key.While) refl)
      (within (is_key key.While) after_limit refl) (within is_rep after_limit refl)

module _ (inner : Language) (n : ℕ) (laws : nat_lt 0 n ≡ true → LanguageLaws inner) where
  e1_law : Full (level inner n 6) begins (ends_level 6)
  e1_law = level_law inner n laws 6 (omega arith)

  a_let_law : Full (g.a_let inner n) (is_key key.Let) ends_unit
  unfolding g.a_let
  a_let_law =
      bind_same _ _ _ _ _ (keyword_law key.Let begins_let_item) (λ at.
      bind_same _ _ _ _ _ (let_items_law n ends_unit (apart ends_unit is_comma refl)) (λ xs.
      pure_law _ ends_unit))

  init_rule_law : Full (g.init inner n) is_init (ends_level 6)
  unfolding g.init
  init_rule_law = bind_same _ _ _ _ _ (init_law begins) (λ _. e1_law)

  init_item_law : Full (g.init inner n) is_init after_item
  init_item_law = narrower _ _ _ after_item init_rule_law (within after_item (ends_level 6) refl)

  item_law : Full (g.item inner n) is_ident after_item
  unfolding g.item g.init
  item_law =
      bind_same _ _ _ _ _ (ident_law after_item_name) (λ x.
      bind_same _ _ _ _ _ (optional_law _ is_init after_item after_item_name init_item_law.laws (misses_init after_item (apart after_item is_init refl))
      (within is_init after_item_name refl) (within after_item after_item_name refl)) (λ i.
      pure_law _ after_item))

  items_law : Full (g.items inner n) is_ident ends_unit
  unfolding g.items
  items_law = listed_law _ _ is_comma is_ident after_item ends_unit (comma_law is_ident) item_law
      (within is_comma after_item refl) (within ends_unit after_item refl) (misses_comma ends_unit (apart ends_unit is_comma refl))

  constant_item_law : Full (g.constant_item inner n) is_ident after_item
  unfolding g.constant_item
  constant_item_law =
      bind_same _ _ _ _ _ (ident_law is_init) (λ x.
      bind_same _ _ _ _ _ init_item_law (λ i.
      pure_law _ after_item))

  constant_items_law : Full (g.constant_items inner n) is_ident ends_unit
  unfolding g.constant_items
  constant_items_law = listed_law _ _ is_comma is_ident after_item ends_unit (comma_law is_ident) constant_item_law
      (within is_comma after_item refl) (within ends_unit after_item refl) (misses_comma ends_unit (apart ends_unit is_comma refl))

  variables_law : (t : TypePhrase) → Full (g.variables inner n t) (is_key key.Var) ends_unit
  unfolding g.variables
  variables_law t =
      bind_same _ _ _ _ _ (keyword_law key.Var is_ident) (λ _.
      bind_same _ _ _ _ _ items_law (λ xs.
      pure_law _ ends_unit))

  constants_law : (t : TypePhrase) → Full (g.constants inner n t) (is_key key.Const) ends_unit
  unfolding g.constants
  constants_law t =
      bind_same _ _ _ _ _ (keyword_law key.Const is_ident) (λ _.
      bind_same _ _ _ _ _ constant_items_law (λ xs.
      pure_law _ ends_unit))

  pub declared_law : (t : TypePhrase) → Full (g.declared inner n t) begins_declared ends_unit
  unfolding g.declared g.variables
  declared_law t =
      choose_law _ _ (is_key key.Var) (is_key key.Const) begins_declared ends_unit (variables_law t).laws (constants_law t)
      (misses_key key.Var (is_key key.Const) (apart (is_key key.Const) (is_key key.Var) refl)) (within (is_key key.Var) begins_declared refl)
      (within (is_key key.Const) begins_declared refl)

  declaration_law : Laws (g.declaration inner n) begins_typed ends_unit
  unfolding g.declaration
  declaration_law =
      part_same _ _ _ _ _ (typed_law n begins_declared (within begins_declared declares refl)) (λ t. declared_law t)

  bound_law : Laws (g.bound inner n) (is_key key.Bound) ends_unit
  unfolding g.bound
  bound_law =
      guard_law _ _ _ _ (terminal_same _) (λ some. (
      bind_same _ _ _ _ _ (keyword_law key.Bound any_type) (λ at.
      bind_same _ _ _ _ _ (type_law n some (is_key key.Var)) (λ t.
      bind_same _ _ _ _ _ (keyword_law key.Var is_ident) (λ _.
      bind_same _ _ _ _ _ items_law (λ xs.
      pure_law _ ends_unit))))).laws)

  assigned_law : (a : Expr) → Laws (g.assigned inner n a) (is_sign sign.Becomes) ends_unit
  unfolding g.assigned
  assigned_law a =
      guard_law _ _ _ _ (terminal_same _) (λ some. (
      bind_same _ _ _ _ _ (mark_law sign.Becomes begins refl) (λ _.
      bind_law _ _ _ _ ends_unit ends_unit (inner_law inner n (laws (deeper (expr_depth a) n some))) (λ b.
      pure_law _ ends_unit) (within ends_unit (ends_level 6) refl))).laws)

  statement_law : Full (g.statement inner n) begins ends_unit
  unfolding g.statement g.assigned
  statement_law =
      bind_law _ _ _ _ after_statement ends_unit e1_law (λ a.
      choose_law _ _ (is_sign sign.Becomes) ends_unit after_statement ends_unit (assigned_law a) (pure_law _ ends_unit)
      (misses_mark sign.Becomes ends_unit refl (apart ends_unit (is_sign sign.Becomes) refl)) (within (is_sign sign.Becomes) after_statement refl)
      (within ends_unit after_statement refl))
      (within after_statement (ends_level 6) refl)

  leave_law : Laws (g.leave inner n) (is_key key.Leave) ends_unit
  unfolding g.leave
  leave_law =
      guard_law _ _ _ _ (terminal_same _) (λ some. (
      bind_same _ _ _ _ _ (keyword_law key.Leave is_leaving) (λ at.
      bind_same _ _ _ _ _ (leaving_law after_leaving) (λ x.
      bind_same _ _ _ _ _ (with_part_law inner n (laws some)) (λ a.
      pure_law _ ends_unit)))).laws)

  counted_law : (stop : Set) → Laws (g.counted inner n) (is_key key.For) stop
  unfolding g.counted
  counted_law stop =
      guard_law _ _ _ _ (terminal_same _) (λ some. (
      bind_same _ _ _ _ _ (keyword_law key.For is_ident) (λ at.
      bind_same _ _ _ _ _ (counter_law inner n (laws some)) (λ c.
      bind_same _ _ _ _ _ (while_part_law inner n (laws some)) (λ w.
      turns_law inner n (laws some) (Some at) c w stop)))).laws)

  guarded_law : (stop : Set) → Laws (g.guarded inner n) (is_key key.While) stop
  unfolding g.guarded
  guarded_law stop =
      guard_law _ _ _ _ (terminal_same _) (λ some. (
      bind_same _ _ _ _ _ (keyword_law key.While begins) (λ at.
      bind_law _ _ _ _ is_rep stop (inner_law inner n (laws some)) (λ w.
      turns_law inner n (laws some) (Some at) None (Some w) stop) (within is_rep (ends_level 6) refl))).laws)

  repeated_law : (stop : Set) → Laws (g.repeated inner n) is_rep stop
  unfolding g.repeated g.turns g.turn_parts
  repeated_law stop =
      guard_law _ _ _ _ (terminal_same _) (λ some. (
      turns_law inner n (laws some) None None None stop).laws)

  abbrev plain6 : Set
  plain6 x = begins x || ends_unit x

  abbrev plain5 : Set
  plain5 x = is_rep x || plain6 x

  abbrev plain4 : Set
  plain4 x = is_key key.While x || plain5 x

  abbrev plain3 : Set
  plain3 x = is_key key.For x || plain4 x

  abbrev plain2 : Set
  plain2 x = is_key key.Leave x || plain3 x

  abbrev plain1 : Set
  plain1 x = is_key key.Bound x || plain2 x

  no_statement : Others ends_unit (g.statement inner n)
  unfolding g.statement
  no_statement = no_level inner n laws 6

  pub plain_law : Full (g.plain inner n) begins_plain ends_unit
  unfolding g.plain g.a_let g.bound g.leave g.counted g.guarded g.repeated g.turns g.turn_parts
  plain_law =
      choose_law _ _ (is_key key.Let) plain1 begins_plain ends_unit a_let_law.laws
      (choose_law _ _ (is_key key.Bound) plain2 plain1 ends_unit bound_law
      (choose_law _ _ (is_key key.Leave) plain3 plain2 ends_unit leave_law
      (choose_law _ _ (is_key key.For) plain4 plain3 ends_unit (counted_law ends_unit)
      (choose_law _ _ (is_key key.While) plain5 plain4 ends_unit (guarded_law ends_unit)
      (choose_law _ _ is_rep plain6 plain5 ends_unit (repeated_law ends_unit)
      (choose_law _ _ begins ends_unit plain6 ends_unit statement_law.laws (pure_law _ ends_unit)
      (no_statement) (within begins plain6 refl) (within ends_unit plain6 refl))
      (misses_rep plain6 (apart plain6 is_rep refl)) (within is_rep plain5 refl) (within plain6 plain5 refl))
      (misses_key key.While plain5 (apart plain5 (is_key key.While) refl)) (within (is_key key.While) plain4 refl) (within plain5 plain4 refl))
      (misses_key key.For plain4 (apart plain4 (is_key key.For) refl)) (within (is_key key.For) plain3 refl) (within plain4 plain3 refl))
      (misses_key key.Leave plain3 (apart plain3 (is_key key.Leave) refl)) (within (is_key key.Leave) plain2 refl) (within plain3 plain2 refl))
      (misses_key key.Bound plain2 (apart plain2 (is_key key.Bound) refl)) (within (is_key key.Bound) plain1 refl) (within plain2 plain1 refl))
      (misses_key key.Let plain1 (apart plain1 (is_key key.Let) refl)) (within (is_key key.Let) begins_plain refl) (within plain1 begins_plain refl)

  unit_law : Full (g.unit inner n) begins_unit ends_unit
  unfolding g.unit
  unit_law =
      choose_law _ _ begins_typed begins_plain begins_unit ends_unit (seen_law begins_typed _ begins_typed ends_unit declaration_law (λ x h. h)) plain_law
      (λ xs h. apart begins_plain begins_typed refl (ahead xs) h) (within begins_typed begins_unit refl) (within begins_plain begins_unit refl)

  units_law : Full (g.units inner n) begins_unit ends_units
  unfolding g.units
  units_law =
      listed_law _ _ (is_sign sign.Semicolon) begins_unit ends_unit ends_units (mark_law sign.Semicolon begins_unit refl) unit_law
      (within (is_sign sign.Semicolon) ends_unit refl) (within ends_units ends_unit refl) (misses_mark sign.Semicolon ends_units refl
      (apart ends_units (is_sign sign.Semicolon) refl))

pub phrases_law : (n : ℕ) → nat_lt 0 n ≡ true → LanguageLaws (g.phrases n)
unfolding g.phrases
phrases_law zero some = no_guard some
phrases_law (suc n) some = record {
  levels = λ i le. level_law (g.phrases n) n (phrases_law n) i le;
  bodies = units_law (g.phrases n) n (phrases_law n);
}
