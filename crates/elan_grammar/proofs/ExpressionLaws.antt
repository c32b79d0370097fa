-- What holds of the productions of expressions.
use Rattle.std.proofs.Common.{◌≡◌, ℕ, zero, suc, ◌<◌, ◌≤◌, ◌⊎◌, inl, inr, Bool, true, false, [], ◌∷◌, refl, sym, ap, ◌∙◌, arith}
use Rattle.std.specs.Prelude.{◌||◌, nat_lt, ◌==◌}
use Rattle.std.proofs.lemmas.Bool.{eqb-true, ltb-true, lt-ltb}
use Rattle.elan_tree.specs.declared.token.Key.TheVariants as key
use Rattle.elan_tree.specs.declared.token.Sign.TheVariants as sign
use Rattle.elan_tree.specs.declared.written_type.Name.{Name}
use Rattle.elan_tree.specs.declared.phrase.Expr.{Expr}
use Rattle.elan_grammar.specs.declared.kind.Kind.{Kind}
use Rattle.elan_grammar.specs.Kinds.{ahead, kind, kind_of, is_key, is_sign, selects}
use Rattle.elan_grammar.specs.Kinds.{loose}
use Rattle.elan_grammar.specs.Terminals.{end_of}
use Rattle.elan_grammar.specs.Depth.{expr_depth}
use Rattle.elan_grammar.specs.Expressions as g
use Rattle.elan_grammar.specs.Expressions.{Language}
use Rattle.elan_grammar.proofs.Sets.{is_ident, is_comma, is_point, is_literal, is_monadic, is_level, lengthens, begins}
use Rattle.elan_grammar.proofs.Laws.{Set, Laws, Full, pure_law, terminal_same}
use Rattle.elan_grammar.proofs.Sequences.{bind_law, guard_law, choose_law, Others, or_false}
use Rattle.elan_grammar.proofs.Repeats.{iterate_law}
use Rattle.elan_grammar.proofs.Every.{within, apart}
use Rattle.elan_grammar.proofs.Seen.{is_colon, colon_ahead, ahead-point, selecting}
use Rattle.elan_grammar.proofs.Tokens.{given, keyword_law, end_law, mark_law, point_law, comma_law, ident_law, ident_shows, literal_law, monadic_law, applies}
use Rattle.elan_grammar.proofs.Tokens.{misses_key, misses_mark, misses_comma, misses_ident, misses_literal, misses_monadic, misses_joint}
use Rattle.elan_grammar.proofs.Tokens.{joint_law}
use Rattle.elan_grammar.proofs.Forms.{bind_same, part_same, narrower, Eats, eats_terminal, eats_guard, eats_then, eats_choose, eats_refirst, row_law, eats_seen}
use Rattle.elan_grammar.proofs.Forms.{optional_law, listed_law}
use Rattle.elan_grammar.proofs.TypeLaws.{labels_law, begins_label}
use Rattle.elan_grammar.proofs.Follows.{reach, ends_level, after_head, after_name, ends_units, begins_unit, ends_unit}

pub record LanguageLaws (inner : Language) : Type 0 where
  pub levels : (i : ℕ) → i ≤ 6 → Full (inner.level i) begins (ends_level i)
  pub bodies : Full inner.units begins_unit ends_units

-- an operator has its level there
reach_is : (x : Kind) → nat_lt 0 (loose x) ≡ true → reach x ≡ loose x
reach_is x h = eqb-true (reach x) (loose x) (within (λ y. nat_lt 0 (loose y)) (λ y. reach y == loose y) refl x h)

operator_reach : (i : ℕ) (x : Kind) → is_level (suc i) x ≡ true → reach x ≡ suc i
operator_reach i x h =
    let e : loose x ≡ suc i = eqb-true (loose x) (suc i) h in
    reach_is x (lt-ltb 0 (loose x) (omega (arith, e))) ∙ e

test : (b : Bool) → (b ≡ true) ⊎ (b ≡ false)
test true = inl refl
test false = inr refl

operator_ends : (i : ℕ) (x : Kind) → is_level (suc i) x ≡ true → ends_level i x ≡ true
operator_ends i x h = lt-ltb i (reach x) (omega (arith, operator_reach i x h))

later_ends : (i : ℕ) (x : Kind) → ends_level (suc i) x ≡ true → ends_level i x ≡ true
later_ends i x h = lt-ltb i (reach x) (omega (arith, ltb-true (suc i) (reach x) h))

later_apart : (i : ℕ) (x : Kind) → ends_level (suc i) x ≡ true → is_level (suc i) x ≡ false
later_apart i x h = elim (test (is_level (suc i) x)) [
  | inl is ↦ absurd (omega (arith, ltb-true (suc i) (reach x) h, operator_reach i x is))
  | inr not ↦ not
]

abbrev pub is_choice_end : Set
is_choice_end x = is_key key.End x || is_key key.Fi x

choice_end_law : (stop : Set) → Full g.choice_end is_choice_end stop
unfolding g.choice_end end_of
choice_end_law stop =
    choose_law _ _ (is_key key.End) (is_key key.Fi) is_choice_end stop
    (end_law key.If stop).laws (keyword_law key.Fi stop)
    (misses_key key.End (is_key key.Fi) (apart (is_key key.Fi) (is_key key.End) refl)) (within (is_key key.End) is_choice_end refl)
    (within (is_key key.Fi) is_choice_end refl)

abbrev begins_actual : Set
begins_actual x = is_key key.Proc x || begins x

module _ (inner : Language) (n : ℕ) (laws : LanguageLaws inner) where
  e1_law : Full (inner.level 6) begins (ends_level 6)
  e1_law = laws.levels 6 (omega arith)

  procedure_law : (stop : Set) → Full (g.procedure inner n) (is_key key.Proc) stop
  unfolding g.procedure
  procedure_law stop =
      bind_same _ _ _ _ _ (keyword_law key.Proc is_ident) (λ at.
      bind_same _ _ _ _ _ (ident_law stop) (λ x.
      pure_law _ stop))

  actual_law : Full (g.actual inner n) begins_actual (ends_level 6)
  unfolding g.actual g.procedure
  actual_law =
      choose_law _ _ (is_key key.Proc) begins begins_actual (ends_level 6) (procedure_law (ends_level 6)).laws e1_law
      (misses_key key.Proc begins (apart begins (is_key key.Proc) refl)) (within (is_key key.Proc) begins_actual refl) (within begins begins_actual refl)

  actuals_law : Full (g.actuals inner n) begins_actual (is_sign sign.RightRound)
  unfolding g.actuals
  actuals_law = listed_law _ _ is_comma begins_actual (ends_level 6) (is_sign sign.RightRound) (comma_law begins_actual) actual_law
      (within is_comma (ends_level 6) refl) (within (is_sign sign.RightRound) (ends_level 6) refl) (misses_comma (is_sign sign.RightRound)
      (apart (is_sign sign.RightRound) is_comma refl))

  branch_law : Full (g.branch inner n) begins ends_units
  unfolding g.branch
  branch_law =
      bind_law _ _ _ _ (is_key key.Then) ends_units e1_law (λ c.
      bind_same _ _ _ _ _ (keyword_law key.Then begins_unit) (λ _.
      bind_same _ _ _ _ _ laws.bodies (λ us.
      pure_law _ ends_units))) (within (is_key key.Then) (ends_level 6) refl)

  abbrev ends_branches : Set
  ends_branches x = is_key key.Else x || is_choice_end x

  branches_law : Full (g.branches inner n) begins ends_branches
  unfolding g.branches
  branches_law = listed_law _ _ (is_key key.Elif) begins ends_units ends_branches (keyword_law key.Elif begins) branch_law
      (within (is_key key.Elif) ends_units refl) (within ends_branches ends_units refl) (misses_key key.Elif ends_branches
      (apart ends_branches (is_key key.Elif) refl))

  else_part_law : Full (g.else_part inner n) ends_branches is_choice_end
  unfolding g.else_part
  else_part_law =
      optional_law _ (is_key key.Else) is_choice_end ends_branches
      (bind_same _ _ _ _ _ (keyword_law key.Else begins_unit) (λ _. narrower _ _ _ is_choice_end laws.bodies (within is_choice_end ends_units refl))).laws
      (misses_key key.Else is_choice_end (apart is_choice_end (is_key key.Else) refl)) (within (is_key key.Else) ends_branches refl)
      (within is_choice_end ends_branches refl)

  a_case_law : Full (g.a_case inner n) (is_key key.Case) ends_units
  unfolding g.a_case
  a_case_law =
      bind_same _ _ _ _ _ (keyword_law key.Case begins_label) (λ _.
      bind_same _ _ _ _ _ (labels_law is_colon (apart is_colon is_comma refl)) (λ ls.
      bind_same _ _ _ _ _ (mark_law sign.Colon begins_unit refl) (λ _.
      bind_same _ _ _ _ _ laws.bodies (λ us.
      pure_law _ ends_units))))

  a_case_eats : Eats (g.a_case inner n) (is_key key.Case) ends_units
  unfolding g.a_case
  a_case_eats =
      eats_terminal _ _ _ _ _ (keyword_law key.Case begins_label).laws (λ _.
      bind_same _ _ _ _ _ (labels_law is_colon (apart is_colon is_comma refl)) (λ ls.
      bind_same _ _ _ _ _ (mark_law sign.Colon begins_unit refl) (λ _.
      bind_same _ _ _ _ _ laws.bodies (λ us.
      pure_law _ ends_units))))

  abbrev ends_cases : Set
  ends_cases x = is_key key.Otherwise x || is_key key.End x

  cases_law : Full (g.cases inner n) (is_key key.Case) ends_cases
  unfolding g.cases g.a_case
  cases_law =
      row_law _ (is_key key.Case) ends_units ends_cases a_case_law a_case_eats (within (is_key key.Case) ends_units refl) (within ends_cases ends_units refl)
      (misses_key key.Case ends_cases (apart ends_cases (is_key key.Case) refl)) refl

  abbrev after_otherwise : Set
  after_otherwise x = is_colon x || begins_unit x

  otherwise_part_law : Full (g.otherwise_part inner n) ends_cases (is_key key.End)
  unfolding g.otherwise_part
  otherwise_part_law =
      optional_law _ (is_key key.Otherwise) (is_key key.End) ends_cases
      (bind_same _ _ _ _ _ (keyword_law key.Otherwise after_otherwise) (λ _.
      bind_same _ _ _ _ _ (optional_law _ is_colon begins_unit after_otherwise (mark_law sign.Colon begins_unit refl).laws
      (misses_mark sign.Colon begins_unit refl (apart begins_unit is_colon refl)) (within is_colon after_otherwise refl)
      (within begins_unit after_otherwise refl)) (λ _.
      narrower _ _ _ (is_key key.End) laws.bodies (within (is_key key.End) ends_units refl)))).laws
      (misses_key key.Otherwise (is_key key.End) (apart (is_key key.End) (is_key key.Otherwise) refl))
      (within (is_key key.Otherwise) ends_cases refl) (within (is_key key.End) ends_cases refl)

  select_parts_law : (stop : Set) → Full (g.select_parts inner n) (is_key key.Case) stop
  unfolding g.select_parts
  select_parts_law stop =
      bind_same _ _ _ _ _ cases_law (λ cs.
      bind_same _ _ _ _ _ otherwise_part_law (λ o.
      bind_same _ _ _ _ _ (end_law key.Select stop) (λ _.
      pure_law _ stop)))

-- a depth above another
pub deeper : (d n : ℕ) → nat_lt d n ≡ true → nat_lt 0 n ≡ true
deeper d n h = lt-ltb 0 n (omega (arith, ltb-true d n h))

module _ (inner : Language) (n : ℕ) (laws : nat_lt 0 n ≡ true → LanguageLaws inner) where
  bracket_law : (stop : Set) → Laws (g.bracket inner n) (is_sign sign.LeftRound) stop
  unfolding g.bracket
  bracket_law stop =
      guard_law _ _ _ _ (terminal_same _) (λ some. (
      bind_same _ _ _ _ _ (mark_law sign.LeftRound begins refl) (λ at.
      bind_law _ _ _ _ (is_sign sign.RightRound) stop (e1_law inner n (laws some)) (λ a.
      bind_same _ _ _ _ _ (mark_law sign.RightRound stop refl) (λ _.
      pure_law _ stop)) (within (is_sign sign.RightRound) (ends_level 6) refl))).laws)

  concr_law : (stop : Set) → Laws (g.concr inner n) (is_key key.Concr) stop
  unfolding g.concr
  concr_law stop =
      guard_law _ _ _ _ (terminal_same _) (λ some. (
      bind_same _ _ _ _ _ (keyword_law key.Concr (is_sign sign.LeftRound)) (λ at.
      bind_same _ _ _ _ _ (mark_law sign.LeftRound begins refl) (λ _.
      bind_law _ _ _ _ (is_sign sign.RightRound) stop (e1_law inner n (laws some)) (λ a.
      bind_same _ _ _ _ _ (mark_law sign.RightRound stop refl) (λ _.
      pure_law _ stop)) (within (is_sign sign.RightRound) (ends_level 6) refl)))).laws)

  call_law : (x : Name) (stop : Set) → Laws (g.call inner n x) (is_sign sign.LeftRound) stop
  unfolding g.call
  call_law x stop =
      guard_law _ _ _ _ (terminal_same _) (λ some. (
      bind_same _ _ _ _ _ (mark_law sign.LeftRound begins_actual refl) (λ at.
      bind_same _ _ _ _ _ (actuals_law inner n (laws some)) (λ xs.
      bind_same _ _ _ _ _ (mark_law sign.RightRound stop refl) (λ _.
      pure_law _ stop)))).laws)

  named_law : Full (g.named inner n) is_ident after_head
  unfolding g.named g.call
  named_law =
      bind_same _ _ _ _ _ (ident_law after_name) (λ x.
      choose_law _ _ (is_sign sign.LeftRound) after_head after_name after_head (call_law x after_head) (pure_law _ after_head)
      (misses_mark sign.LeftRound after_head refl (apart after_head (is_sign sign.LeftRound) refl)) (within (is_sign sign.LeftRound) after_name refl)
      (within after_head after_name refl))

  choice_law : (stop : Set) → Laws (g.choice inner n) (is_key key.If) stop
  unfolding g.choice
  choice_law stop =
      guard_law _ _ _ _ (terminal_same _) (λ some. (
      bind_same _ _ _ _ _ (keyword_law key.If begins) (λ at.
      bind_same _ _ _ _ _ (branches_law inner n (laws some)) (λ bs.
      bind_same _ _ _ _ _ (else_part_law inner n (laws some)) (λ o.
      bind_same _ _ _ _ _ (choice_end_law stop) (λ _.
      pure_law _ stop))))).laws)

  selection_law : (stop : Set) → Laws (g.selection inner n) (is_key key.Select) stop
  unfolding g.selection
  selection_law stop =
      guard_law _ _ _ _ (terminal_same _) (λ some. (
      bind_same _ _ _ _ _ (keyword_law key.Select begins) (λ at.
      bind_law _ _ _ _ (is_key key.Of) stop (e1_law inner n (laws some)) (λ a.
      bind_same _ _ _ _ _ (keyword_law key.Of (is_key key.Case)) (λ _.
      bind_same _ _ _ _ _ (select_parts_law inner n (laws some) stop) (λ p.
      pure_law _ stop))) (within (is_key key.Of) (ends_level 6) refl))).laws)

  abbrev head4 : Set
  head4 x = is_key key.Select x || is_ident x

  abbrev head3 : Set
  head3 x = is_key key.If x || head4 x

  abbrev head2 : Set
  head2 x = is_key key.Concr x || head3 x

  abbrev head1 : Set
  head1 x = is_sign sign.LeftRound x || head2 x

  abbrev head0 : Set
  head0 x = is_literal x || head1 x

  head_law : Full (g.head inner n) head0 after_head
  unfolding g.head g.bracket g.concr g.choice g.selection
  head_law =
      choose_law _ _ is_literal head1 head0 after_head (literal_law after_head).laws
      (choose_law _ _ (is_sign sign.LeftRound) head2 head1 after_head (bracket_law after_head)
      (choose_law _ _ (is_key key.Concr) head3 head2 after_head (concr_law after_head)
      (choose_law _ _ (is_key key.If) head4 head3 after_head (choice_law after_head)
      (choose_law _ _ (is_key key.Select) is_ident head4 after_head (selection_law after_head) named_law
      (misses_key key.Select is_ident (apart is_ident (is_key key.Select) refl)) (within (is_key key.Select) head4 refl) (within is_ident head4 refl))
      (misses_key key.If head4 (apart head4 (is_key key.If) refl)) (within (is_key key.If) head3 refl) (within head4 head3 refl))
      (misses_key key.Concr head3 (apart head3 (is_key key.Concr) refl)) (within (is_key key.Concr) head2 refl) (within head3 head2 refl))
      (misses_mark sign.LeftRound head2 refl (apart head2 (is_sign sign.LeftRound) refl)) (within (is_sign sign.LeftRound) head1 refl)
      (within head2 head1 refl))
      (misses_literal head1 (apart head1 is_literal refl)) (within is_literal head0 refl) (within head1 head0 refl)

  index_part_law : (depth : ℕ) (stop : Set) → Eats (g.index_part inner n depth) (is_sign sign.LeftSquare) stop
  unfolding g.index_part
  index_part_law depth stop =
      eats_guard _ _ _ _ (terminal_same _) (λ some.
      eats_terminal _ _ _ _ _ (mark_law sign.LeftSquare begins refl).laws (λ _.
      bind_law _ _ _ _ (is_sign sign.RightSquare) stop (e1_law inner n (laws (deeper depth n some))) (λ b.
      bind_same _ _ _ _ _ (mark_law sign.RightSquare stop refl) (λ _.
      pure_law _ stop)) (within (is_sign sign.RightSquare) (ends_level 6) refl)))

  index_law : (a : Expr) (stop : Set) → Eats (g.index inner n a) (is_sign sign.LeftSquare) stop
  unfolding g.index
  index_law a stop = eats_then _ _ _ _ _ (index_part_law (expr_depth a) stop) (λ b. pure_law _ stop)

  -- A point and an identifier select where no colon follows.
  field_part_law : (depth : ℕ) → Eats (g.field_part inner n depth) selects after_head
  unfolding g.field_part
  field_part_law depth =
      eats_guard _ _ _ _ (λ us vs w. ap selects w.0) (λ some.
      eats_seen selects _ selects after_head (eats_refirst _ is_point selects after_head
      (eats_terminal _ _ _ _ _ (point_law is_ident).laws (λ _. ident_law after_head))
      (λ xs ys b h s.
      let f = h.3 in
      let p : is_sign sign.Point (kind_of h.2.0.what) ≡ true = given (is_sign sign.Point (kind_of h.2.0.what)) h.2.0.at h.0 h.2.2 in
      let i : is_ident (kind_of f.0.what) ≡ true = ident_shows f.0.at f.0.what b f.2 in
      let c : is_colon (kind ys) ≡ false = sym (colon_ahead ys) ∙ apart after_head is_colon refl (ahead ys) s in
      rw (h.2.1, f.1, ahead-point h.2.0 (f.0 ∷ ys) p, selecting (kind_of f.0.what) (kind ys) i c) refl)) (λ x h. h))

  field_of_law : (a : Expr) → Eats (g.field_of inner n a) selects after_head
  unfolding g.field_of
  field_of_law a = eats_then _ _ _ _ _ (field_part_law (expr_depth a)) (λ x. pure_law _ after_head)

  longer_law : (a : Expr) → Eats (g.longer inner n a) lengthens after_head
  unfolding g.longer g.index g.index_part
  longer_law a =
      eats_choose _ _ (is_sign sign.LeftSquare) selects lengthens after_head (index_law a after_head) (field_of_law a)
      (misses_mark sign.LeftSquare selects refl (apart selects (is_sign sign.LeftSquare) refl)) (within (is_sign sign.LeftSquare) lengthens refl)
      (within selects lengthens refl)

  no_longer : (a : Expr) → Others (ends_level 0) (g.longer inner n a)
  unfolding g.longer g.index g.index_part g.field_of g.field_part
  no_longer a xs h =
      or_false _ _ (misses_mark sign.LeftSquare (ends_level 0) refl (apart (ends_level 0) (is_sign sign.LeftSquare) refl) xs h)
      (apart (ends_level 0) selects refl (ahead xs) h)

  longer_nothing : (a : Expr) → (g.longer inner n a).starts [] ≡ false
  unfolding ahead g.longer g.index g.index_part g.field_of g.field_part
  longer_nothing a = refl

  prim_law : Full (g.prim inner n) head0 (ends_level 0)
  unfolding g.prim
  prim_law =
      bind_same _ _ _ _ _ head_law (λ a.
      iterate_law (g.longer inner n) lengthens after_head (ends_level 0) (λ r. (longer_law r).laws)
      (within lengthens after_head refl) (within (ends_level 0) after_head refl) no_longer longer_nothing
      (λ r s xs ys h. (longer_law r).eats xs ys s h) _ after_head (within lengthens after_head refl) (within (ends_level 0) after_head refl))

  applied_law : Laws (g.applied inner n) applies (ends_level 0)
  unfolding g.applied
  applied_law =
      guard_law _ _ _ _ (terminal_same _) (λ some.
      part_same _ _ _ _ _ monadic_law (λ o.
      bind_same _ _ _ _ _ ((laws some).levels 0 (omega arith)) (λ a.
      pure_law _ (ends_level 0))))

  operand_law : Full (g.operand inner n) begins (ends_level 0)
  unfolding g.operand g.applied
  operand_law =
      choose_law _ _ applies head0 begins (ends_level 0) applied_law prim_law
      (misses_monadic head0 (apart head0 is_monadic refl)) (within applies begins refl) (within head0 begins refl)

  right_part_law : (i : ℕ) → i < 6 → (depth : ℕ) → Eats (g.right_part inner n i depth) (is_level (suc i)) (ends_level i)
  unfolding g.right_part
  right_part_law i lt depth =
      eats_guard _ _ _ _ (terminal_same _) (λ some.
      eats_terminal _ _ _ _ _ (joint_law i begins) (λ o.
      bind_same _ _ _ _ _ ((laws (deeper depth n some)).levels i (omega arith)) (λ b.
      pure_law _ (ends_level i))))

  dyadic_law : (i : ℕ) → i < 6 → (a : Expr) → Eats (g.dyadic inner n i a) (is_level (suc i)) (ends_level i)
  unfolding g.dyadic
  dyadic_law i lt a = eats_then _ _ _ _ _ (right_part_law i lt (expr_depth a)) (λ r. pure_law _ (ends_level i))

  no_dyadic : (i : ℕ) (a : Expr) → Others (ends_level (suc i)) (g.dyadic inner n i a)
  unfolding g.dyadic g.right_part
  no_dyadic i a = misses_joint i (ends_level (suc i)) (λ x h. later_apart i x h)

  dyadic_nothing : (i : ℕ) (a : Expr) → (g.dyadic inner n i a).starts [] ≡ false
  unfolding g.dyadic g.right_part
  dyadic_nothing i a = refl

  pub level_law : (i : ℕ) → i ≤ 6 → Full (g.level inner n i) begins (ends_level i)
  unfolding g.level
  level_law zero le = operand_law
  level_law (suc i) le =
      bind_same _ _ _ _ _ (level_law i (omega arith)) (λ a.
      iterate_law (g.dyadic inner n i) (is_level (suc i)) (ends_level i) (ends_level (suc i)) (λ r. (dyadic_law i (omega arith) r).laws)
      (λ x h. operator_ends i x h) (λ x h. later_ends i x h) (no_dyadic i) (dyadic_nothing i)
      (λ r s xs ys h. (dyadic_law i (omega arith) r).eats xs ys s h) _ (ends_level i) (λ x h. operator_ends i x h) (λ x h. later_ends i x h))

  -- No expression begins with what ends a unit.
  no_operand : Others ends_unit (g.operand inner n)
  unfolding g.operand g.applied g.prim g.head g.bracket g.concr g.choice g.selection g.named
  no_operand xs h =
      or_false _ _ (misses_monadic ends_unit (apart ends_unit is_monadic refl) xs h)
      (or_false _ _ (misses_literal ends_unit (apart ends_unit is_literal refl) xs h)
      (or_false _ _ (misses_mark sign.LeftRound ends_unit refl (apart ends_unit (is_sign sign.LeftRound) refl) xs h)
      (or_false _ _ (misses_key key.Concr ends_unit (apart ends_unit (is_key key.Concr) refl) xs h)
      (or_false _ _ (misses_key key.If ends_unit (apart ends_unit (is_key key.If) refl) xs h)
      (or_false _ _ (misses_key key.Select ends_unit (apart ends_unit (is_key key.Select) refl) xs h)
      (misses_ident ends_unit (apart ends_unit is_ident refl) xs h))))))

  pub no_level : (i : ℕ) → Others ends_unit (g.level inner n i)
  unfolding g.level
  no_level zero xs h = no_operand xs h
  no_level (suc i) xs h = no_level i xs h
