-- What holds of the productions of levels: refinements, bodies, PROC and OP.
use Rattle.std.proofs.Common.{◌≡◌, ℕ, inl, inr, Bool, true, false, cond, List, ◌∷◌, Option, Some, None, refl, sym, ap, subst, ◌∙◌}
use Rattle.std.specs.Prelude.{◌||◌, nat_lt}
use Rattle.elan_tree.specs.declared.token.Token.{Token}
use Rattle.elan_tree.specs.declared.token.Key.TheVariants as key
use Rattle.elan_tree.specs.declared.token.Sign.TheVariants as sign
use Rattle.elan_tree.specs.declared.written_type.Name.{Name}
use Rattle.elan_tree.specs.declared.written_type.TypePhrase.{TypePhrase}
use Rattle.elan_tree.specs.declared.written_type.Formal.{Formal}
use Rattle.elan_tree.specs.declared.phrase.Operator.{Operator}
use Rattle.elan_tree.specs.declared.tree.OperatorName.{OperatorName}
use Rattle.elan_tree.specs.declared.tree.Refinement.{Refinement}
use Rattle.elan_grammar.specs.declared.kind.Kind.TheVariants as k
use Rattle.elan_grammar.specs.Kinds.{kind, second, kind_of, point_by, ahead, is_key, is_sign, goes_on, leads}
use Rattle.elan_grammar.specs.Kinds.{begins_typed}
use Rattle.elan_grammar.specs.Rule.{Tokens, further, seen}
use Rattle.elan_grammar.specs.Terminals.{mark}
use Rattle.elan_grammar.specs.Units.{phrases}
use Rattle.elan_grammar.specs.Grammar as g
use Rattle.elan_grammar.proofs.Sets.{is_ident, is_comma, is_bold, is_point, is_operator}
use Rattle.elan_grammar.proofs.Laws.{Set, Within, Apart, Laws, Full, pure_law}
use Rattle.elan_grammar.proofs.Sequences.{bind_law, choose_part, choose_law, choose_first, only_then, seen_law, seen_full}
use Rattle.elan_grammar.proofs.Every.{within, apart}
use Rattle.elan_grammar.proofs.Seen.{is_colon, is_refines, declares, ident_ahead, ahead-point, refining, alone}
use Rattle.elan_grammar.proofs.Tokens.{given, keyword_law, end_law, mark_law, point_law, leading_law, alone_law, going_law, parting_law, ident_law}
use Rattle.elan_grammar.proofs.Tokens.{misses_key, misses_mark, misses_comma, misses_ident, misses_point, misses_same, misses_same_operator}
use Rattle.elan_grammar.proofs.Tokens.{ident_shows, bold_law, same_law, access_law, is_access, operator_law, same_operator_law}
use Rattle.elan_grammar.proofs.Forms.{bind_same, part_same, refirst, Eats, eats_refirst, optional_law, listed_law, listed_by, eats_marked}
use Rattle.elan_grammar.proofs.TypeLaws.{type_law, typed_law, any_type, formals_law}
use Rattle.elan_grammar.proofs.Follows.{ends_units, ends_unit, begins_plain, begins_unit}
use Rattle.elan_grammar.proofs.UnitLaws.{declared_law, plain_law, phrases_law, begins_declared}

abbrev pub is_nothing : Set
is_nothing k.Nothing = true
is_nothing _ = false

-- the end of a body or level
abbrev pub ends_text : Set
ends_text x = is_key key.End x || is_nothing x

abbrev last_points : Set
last_points x = is_sign sign.Point x || ends_text x

-- a point that ends the units of a body
abbrev ends_body : Set
ends_body x = is_refines x || is_sign sign.Point x

abbrev after_body_units : Set
after_body_units x = ends_body x || ends_text x

refinement_law : (n : ℕ) → nat_lt 0 n ≡ true → Full (g.refinement n) is_ident ends_units
unfolding g.refinement
refinement_law n some =
    bind_same _ _ _ _ _ (ident_law is_colon) (λ x.
    bind_same _ _ _ _ _ (mark_law sign.Colon begins_unit refl) (λ _.
    bind_same _ _ _ _ _ (phrases_law n some).bodies (λ us.
    pure_law _ ends_units)))

-- it begins with an identifier and a colon
refinement_begins : (n : ℕ) (r : Refinement) (zs ys : Tokens) → (g.refinement n).reads r zs ys → point_by (kind zs) (second zs) ≡ k.Refines
unfolding g.refinement
refinement_begins n r zs ys h =
    let c = h.3 in
    let i : is_ident (kind_of h.2.0.what) ≡ true = ident_shows h.2.0.at h.2.0.what h.0 h.2.2 in
    let d : is_colon (kind_of c.2.0.what) ≡ true = given (is_colon (kind_of c.2.0.what)) c.2.0.at c.0 c.2.2 in
    rw (h.2.1, c.2.1) (refining (kind_of h.2.0.what) (kind_of c.2.0.what) i d)

point_refines : (t : Token) (a : ℕ) (zs : Tokens) → cond (is_sign sign.Point (kind_of t.what)) (Some t.at) None ≡ Some a
    → point_by (kind zs) (second zs) ≡ k.Refines → ahead (t ∷ zs) ≡ k.Refines
point_refines t a zs h e = ahead-point t zs (given (is_sign sign.Point (kind_of t.what)) t.at a h) ∙ e

point_alone : (t : Token) (a : ℕ) (zs : Tokens) → cond (is_sign sign.Point (kind_of t.what)) (Some t.at) None ≡ Some a → is_ident (ahead zs) ≡ false
    → is_sign sign.Point (ahead (t ∷ zs)) ≡ true
point_alone t a zs h e = rw (ahead-point t zs (given (is_sign sign.Point (kind_of t.what)) t.at a h)) (alone (kind zs) (second zs) (sym (ident_ahead zs) ∙ e))

next_refinement_law : (n : ℕ) → nat_lt 0 n ≡ true → (xs : List Refinement)
    → Eats (further (seen leads (mark sign.Point)) (g.refinement n) xs) is_refines ends_units
next_refinement_law n some xs =
    eats_refirst _ leads is_refines ends_units
    (eats_marked leads _ _ leads is_ident ends_units leading_law.laws (λ x h. h) (λ _. bind_same _ _ _ _ _ (refinement_law n some)
    (λ r. pure_law _ ends_units)))
    (λ xs ys b h s. rw (h.2.1, point_refines h.2.0 h.0 h.1 h.2.2 (refinement_begins n h.3.0 h.1 h.3.1 h.3.2)) refl)

pub last_point_law : (stop : Set) → Apart stop is_ident → Apart stop is_point → (first : Set) → Within (is_sign sign.Point) first
    → Within stop first
    → Full g.last_point first stop
unfolding g.last_point
last_point_law stop no_ident no_point first fx fs =
    optional_law _ (is_sign sign.Point) stop first (alone_law stop no_ident).laws (misses_point stop no_point) fx fs

refinement_list_law : (n : ℕ) → nat_lt 0 n ≡ true → Full (g.refinement_list n) is_ident last_points
unfolding ahead g.refinement_list
refinement_list_law n some =
    listed_by _ _ is_refines is_ident ends_units last_points (refinement_law n some) (next_refinement_law n some) (within is_refines ends_units refl)
    (within last_points ends_units refl) (λ xs h. apart last_points leads refl (ahead xs) h) refl

refinements_law : (n : ℕ) → nat_lt 0 n ≡ true → Full (g.refinements n) is_ident ends_text
unfolding g.refinements
refinements_law n some =
    bind_same _ _ _ _ _ (refinement_list_law n some) (λ rs.
    bind_same _ _ _ _ _ (last_point_law ends_text (apart ends_text is_ident refl) (apart ends_text is_point refl) last_points
    (within (is_sign sign.Point) last_points refl) (within ends_text last_points refl)) (λ _.
    pure_law _ ends_text))

list_begins : (n : ℕ) (rs : List Refinement) (zs ys : Tokens) → (g.refinement_list n).reads rs zs ys → point_by (kind zs) (second zs) ≡ k.Refines
unfolding g.refinement_list
list_begins n rs zs ys h = refinement_begins n h.0 zs h.1 h.2

refinements_begin : (n : ℕ) (rs : List Refinement) (zs ys : Tokens) → (g.refinements n).reads rs zs ys → point_by (kind zs) (second zs) ≡ k.Refines
unfolding g.refinements
refinements_begin n rs zs ys h = list_begins n h.0 zs h.1 h.2

abbrev ident_or_end : Set
ident_or_end x = is_ident x || ends_text x

or_left : (a b : Bool) → a ≡ true → (a || b) ≡ true
or_left a b h = rw h refl

or_right : (a b : Bool) → b ≡ true → (a || b) ≡ true
or_right true b h = refl
or_right false b h = h

point_tail_law : (n : ℕ) → nat_lt 0 n ≡ true → Full (g.point_tail n) ends_body ends_text
unfolding g.point_tail g.refinements g.refinement_list g.refinement
point_tail_law n some =
    refirst _ is_point ends_body ends_text
    (bind_same _ _ _ _ _ (point_law ident_or_end) (λ _.
    choose_law _ _ is_ident ends_text ident_or_end ends_text (refinements_law n some).laws (pure_law _ ends_text)
    (misses_ident ends_text (apart ends_text is_ident refl)) (within is_ident ident_or_end refl) (within ends_text ident_or_end refl)))
    (λ xs ys b h s. elim h.3 [
      | inl r ↦ rw (h.2.1, point_refines h.2.0 h.0 h.1 h.2.2 (refinements_begin n b h.1 ys r)) refl
      | inr r ↦ rw h.2.1 (or_right (is_refines (ahead (h.2.0 ∷ h.1))) (is_sign sign.Point (ahead (h.2.0 ∷ h.1)))
          (point_alone h.2.0 h.0 h.1 h.2.2 (subst (λ (z : Tokens). is_ident (ahead z) ≡ false) (sym r.1) (apart ends_text is_ident refl (ahead ys) s))))
    ])

tail_law : (n : ℕ) → nat_lt 0 n ≡ true → Full (g.tail n) after_body_units ends_text
unfolding g.tail g.point_tail
tail_law n some =
    choose_law _ _ ends_body ends_text after_body_units ends_text (point_tail_law n some).laws (pure_law _ ends_text)
    (misses_point ends_text (apart ends_text is_point refl)) (within ends_body after_body_units refl) (within ends_text after_body_units refl)

body_law : Full (g.body 400 399) begins_unit ends_text
unfolding g.body
body_law =
    bind_law _ _ _ _ after_body_units ends_text (phrases_law 400 refl).bodies (λ us.
    bind_same _ _ _ _ _ (tail_law 399 refl) (λ rs.
    pure_law _ ends_text)) (within after_body_units ends_units refl)

-- ---- the units of a level

abbrev after_level_unit : Set
after_level_unit x = is_sign sign.Semicolon x || after_body_units x

abbrev after_end_proc : Set
after_end_proc x = is_ident x || after_level_unit x

pub end_name_law : (x : Name) (stop first : Set) → Apart stop is_ident → Within is_ident first → Within stop first → Full (g.end_name x) first stop
unfolding g.end_name
end_name_law x stop first ap fx fs = optional_law _ is_ident stop first (same_law x stop) (misses_same x stop ap) fx fs

abbrev after_end_op : Set
after_end_op x = is_operator x || after_level_unit x

end_operator_law : (o : OperatorName) → Full (g.end_operator o) after_end_op after_level_unit
unfolding g.end_operator
end_operator_law o =
    optional_law _ is_operator after_level_unit after_end_op (same_operator_law o after_level_unit) (misses_same_operator o after_level_unit
    (apart after_level_unit is_operator refl)) (within is_operator after_end_op refl) (within after_level_unit after_end_op refl)

formal_list_law : (stop : Set) → Full (g.formal_list 400 399) (is_sign sign.LeftRound) stop
unfolding g.formal_list
formal_list_law stop =
    bind_same _ _ _ _ _ (mark_law sign.LeftRound any_type refl) (λ _.
    bind_same _ _ _ _ _ (formals_law 399 refl) (λ fs.
    bind_same _ _ _ _ _ (mark_law sign.RightRound stop refl) (λ _.
    pure_law _ stop)))

abbrev after_proc_name : Set
after_proc_name x = is_sign sign.LeftRound x || is_colon x

optional_formals_law : Full (g.optional_formals 400 399) after_proc_name is_colon
unfolding g.optional_formals g.formal_list
optional_formals_law =
    choose_law _ _ (is_sign sign.LeftRound) is_colon after_proc_name is_colon (formal_list_law is_colon).laws (pure_law _ is_colon)
    (misses_mark sign.LeftRound is_colon refl (apart is_colon (is_sign sign.LeftRound) refl)) (within (is_sign sign.LeftRound) after_proc_name refl)
    (within is_colon after_proc_name refl)

proc_parts_law : Full (g.proc_parts 400 399) (is_key key.Proc) after_level_unit
unfolding g.proc_parts
proc_parts_law =
    bind_same _ _ _ _ _ (keyword_law key.Proc is_ident) (λ at.
    bind_same _ _ _ _ _ (ident_law after_proc_name) (λ x.
    bind_same _ _ _ _ _ optional_formals_law (λ fs.
    bind_same _ _ _ _ _ (mark_law sign.Colon begins_unit refl) (λ _.
    bind_law _ _ _ _ (is_key key.End) after_level_unit body_law (λ b.
    bind_same _ _ _ _ _ (end_law key.Proc after_end_proc) (λ _.
    bind_same _ _ _ _ _ (end_name_law x after_level_unit after_end_proc (apart after_level_unit is_ident refl) (within is_ident after_end_proc refl)
    (within after_level_unit after_end_proc refl)) (λ _.
    pure_law _ after_level_unit))) (within (is_key key.End) ends_text refl)))))

proc_law : (t : Option TypePhrase) → Full (g.proc 400 399 t) (is_key key.Proc) after_level_unit
unfolding g.proc
proc_law t = bind_same _ _ _ _ _ proc_parts_law (λ p. pure_law _ after_level_unit)

abbrev is_right : Set
is_right x = is_sign sign.RightRound x

operand_law : (stop : Set) → Full (g.operand 400 399) any_type stop
unfolding g.operand
operand_law stop =
    bind_same _ _ _ _ _ (type_law 399 refl is_access) (λ t.
    bind_same _ _ _ _ _ (access_law is_ident) (λ a.
    bind_same _ _ _ _ _ (ident_law stop) (λ x.
    pure_law _ stop)))

same_typed_law : (f : Formal) → Full (g.same_typed f) goes_on is_right
unfolding g.same_typed
same_typed_law f =
    bind_same _ _ _ _ _ going_law (λ _.
    bind_same _ _ _ _ _ (ident_law is_right) (λ y.
    pure_law _ is_right))

other_typed_law : (f : Formal) → Full (g.other_typed 400 399 f) (is_sign sign.Comma) is_right
unfolding g.other_typed
other_typed_law f =
    bind_same _ _ _ _ _ (parting_law any_type (apart any_type is_ident refl)) (λ _.
    bind_same _ _ _ _ _ (operand_law is_right) (λ g.
    pure_law _ is_right))

one_operand_law : (o : Operator) (f : Formal) → Laws (g.one_operand o f) is_right is_right
unfolding g.one_operand
one_operand_law o f =
    only_then _ _ _ _ (λ one.
    (pure_law _ is_right).laws)

abbrev after_operand2 : Set
after_operand2 x = is_sign sign.Comma x || is_right x

abbrev after_operand : Set
after_operand x = goes_on x || after_operand2 x

operands_law : (o : Operator) → Full (g.operands 400 399 o) any_type is_right
unfolding g.operands g.other_typed
operands_law o =
    bind_same _ _ _ _ _ (operand_law after_operand) (λ f.
    choose_first _ _ goes_on after_operand2 after_operand is_right (seen_full goes_on _ goes_on is_right (same_typed_law f) (λ y h. h))
    (choose_part _ _ (is_sign sign.Comma) is_right after_operand2 is_right (other_typed_law f).laws (one_operand_law o f)
    (misses_comma is_right (apart is_right is_comma refl)) (within (is_sign sign.Comma) after_operand2 refl) (within is_right after_operand2 refl))
    (λ xs h. apart after_operand2 goes_on refl (ahead xs) h) (within goes_on after_operand refl) (within after_operand2 after_operand refl))

operator_parts_law : Full (g.operator_parts 400 399) (is_key key.Op) after_level_unit
unfolding g.operator_parts
operator_parts_law =
    bind_same _ _ _ _ _ (keyword_law key.Op is_operator) (λ at.
    bind_same _ _ _ _ _ (operator_law (is_sign sign.LeftRound)) (λ o.
    bind_same _ _ _ _ _ (mark_law sign.LeftRound any_type refl) (λ _.
    bind_same _ _ _ _ _ (operands_law o.operator) (λ fs.
    bind_same _ _ _ _ _ (mark_law sign.RightRound is_colon refl) (λ _.
    bind_same _ _ _ _ _ (mark_law sign.Colon begins_unit refl) (λ _.
    bind_law _ _ _ _ (is_key key.End) after_level_unit body_law (λ b.
    bind_same _ _ _ _ _ (end_law key.Op after_end_op) (λ _.
    bind_same _ _ _ _ _ (end_operator_law o) (λ _.
    pure_law _ after_level_unit))) (within (is_key key.End) ends_text refl)))))))

operator_rule_law : (t : Option TypePhrase) → Full (g.operator 400 399 t) (is_key key.Op) after_level_unit
unfolding g.operator
operator_rule_law t = bind_same _ _ _ _ _ operator_parts_law (λ p. pure_law _ after_level_unit)

new_type_law : Full (g.new_type 400 399) (is_key key.TypeWord) after_level_unit
unfolding g.new_type
new_type_law =
    bind_same _ _ _ _ _ (keyword_law key.TypeWord is_bold) (λ at.
    bind_same _ _ _ _ _ (bold_law (is_sign sign.Equal)) (λ x.
    bind_same _ _ _ _ _ (mark_law sign.Equal any_type refl) (λ _.
    bind_same _ _ _ _ _ (type_law 400 refl after_level_unit) (λ t.
    pure_law _ after_level_unit))))

declared_unit_law : (t : TypePhrase) → Full (g.declared_unit 400 399 t) begins_declared after_level_unit
unfolding g.declared_unit
declared_unit_law t =
    bind_law _ _ _ _ after_level_unit after_level_unit (declared_law (phrases 400) 400 (phrases_law 400) t) (λ v.
    pure_law _ after_level_unit) (within after_level_unit ends_unit refl)

abbrev after_type2 : Set
after_type2 x = is_key key.Op x || begins_declared x

abbrev after_type : Set
after_type x = is_key key.Proc x || after_type2 x

typed_unit_law : Laws (g.typed_unit 400 399) begins_typed after_level_unit
unfolding g.typed_unit g.proc g.proc_parts g.operator g.operator_parts
typed_unit_law =
    part_same _ _ _ _ _ (typed_law 400 after_type (within after_type declares refl)) (λ t.
    choose_law _ _ (is_key key.Proc) after_type2 after_type after_level_unit (proc_law (Some t)).laws
    (choose_law _ _ (is_key key.Op) begins_declared after_type2 after_level_unit (operator_rule_law (Some t)).laws (declared_unit_law t)
    (misses_key key.Op begins_declared (apart begins_declared (is_key key.Op) refl)) (within (is_key key.Op) after_type2 refl)
    (within begins_declared after_type2 refl))
    (misses_key key.Proc after_type2 (apart after_type2 (is_key key.Proc) refl)) (within (is_key key.Proc) after_type refl)
    (within after_type2 after_type refl))

plain_unit_law : Full (g.plain_unit 400 399) begins_plain after_level_unit
unfolding g.plain_unit
plain_unit_law =
    bind_law _ _ _ _ after_level_unit after_level_unit (plain_law (phrases 400) 400 (phrases_law 400)) (λ v.
    pure_law _ after_level_unit) (within after_level_unit ends_unit refl)

abbrev level3 : Set
level3 x = is_key key.Op x || begins_plain x

abbrev level2 : Set
level2 x = is_key key.Proc x || level3 x

abbrev level1 : Set
level1 x = is_key key.TypeWord x || level2 x

abbrev pub begins_level : Set
begins_level x = begins_typed x || level1 x

level_unit_law : Full (g.level_unit 400 399) begins_level after_level_unit
unfolding g.level_unit g.new_type g.proc g.proc_parts g.operator g.operator_parts
level_unit_law =
    choose_law _ _ begins_typed level1 begins_level after_level_unit (seen_law begins_typed _ begins_typed after_level_unit typed_unit_law (λ y h. h))
    (choose_law _ _ (is_key key.TypeWord) level2 level1 after_level_unit new_type_law.laws
    (choose_law _ _ (is_key key.Proc) level3 level2 after_level_unit (proc_law None).laws
    (choose_law _ _ (is_key key.Op) begins_plain level3 after_level_unit (operator_rule_law None).laws plain_unit_law
    (misses_key key.Op begins_plain (apart begins_plain (is_key key.Op) refl)) (within (is_key key.Op) level3 refl) (within begins_plain level3 refl))
    (misses_key key.Proc level3 (apart level3 (is_key key.Proc) refl)) (within (is_key key.Proc) level2 refl) (within level3 level2 refl))
    (misses_key key.TypeWord level2 (apart level2 (is_key key.TypeWord) refl)) (within (is_key key.TypeWord) level1 refl) (within level2 level1 refl))
    (λ xs h. apart level1 begins_typed refl (ahead xs) h) (within begins_typed begins_level refl) (within level1 begins_level refl)

pub level_units_law : Full (g.level_units 400 399) begins_level after_body_units
unfolding g.level_units
level_units_law =
    listed_law _ _ (is_sign sign.Semicolon) begins_level after_level_unit after_body_units (mark_law sign.Semicolon begins_level refl)
    level_unit_law
    (within (is_sign sign.Semicolon) after_level_unit refl) (within after_body_units after_level_unit refl)
    (misses_mark sign.Semicolon after_body_units refl (apart after_body_units (is_sign sign.Semicolon) refl))

pub a_level_law : Full (g.a_level 400 399) begins_level ends_text
unfolding g.a_level
a_level_law =
    bind_same _ _ _ _ _ level_units_law (λ us.
    bind_same _ _ _ _ _ (tail_law 400 refl) (λ rs.
    pure_law _ ends_text))
