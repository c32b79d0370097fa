-- Whole texts with a limit.
use Rattle.std.proofs.Common.{◌≡◌, ℕ, zero, suc, ◌+◌, ◌≤◌, max, inl, inr, Bool, true, false, List, [], Option, Some, None, refl, ap, arith}
use Rattle.elan_tree.specs.declared.token.Token.{Token}
use Rattle.elan_tree.specs.declared.token.Sign.TheVariants as sign
use Rattle.elan_tree.specs.declared.written_type.TypePhrase.{TypePhrase}
use Rattle.elan_tree.specs.declared.written_type.Formal.{Formal}
use Rattle.elan_tree.specs.declared.phrase.Operator.{Operator}
use Rattle.elan_tree.specs.declared.tree.Refinement.{Refinement}
use Rattle.elan_tree.specs.declared.tree.Body.{Body}
use Rattle.elan_tree.specs.declared.tree.LevelUnit.{LevelUnit}
use Rattle.elan_tree.specs.declared.tree.Tree.{Tree}
use Rattle.elan_grammar.specs.declared.heading.ProcParts.{ProcParts}
use Rattle.elan_grammar.specs.declared.heading.OperatorParts.{OperatorParts}
use Rattle.elan_grammar.specs.Rule.{Tokens, Rule}
use Rattle.elan_grammar.specs.Terminals.{mark}
use Rattle.elan_grammar.specs.Grammar as g
use Rattle.elan_grammar.specs.Reads.{text_within, Reads, ReadsAtAnyDepth}
use Rattle.elan_grammar.specs.Depth.{type_depth, formal_depth, refinement_depth, body_depth, unit_depth, level_unit_depth, level_depth, tree_depth}
use Rattle.elan_grammar.specs.Depth.{deepest_of, if_any}
use Rattle.elan_laws.proofs.Limits.{Fits, lift, listed_fits}
use Rattle.elan_laws.proofs.TypeLimits.{types_fit, formals_fit}
use Rattle.elan_laws.proofs.UnitLimits.{declared_fits, plain_fits, phrases_fit}

-- ---- bodies

refinement_fits : (m : ℕ) (r : Refinement) (xs ys : Tokens) → (g.refinement m).reads r xs ys → Fits (λ n. (g.refinement n).reads r xs ys) (refinement_depth r) m
unfolding g.refinement
refinement_fits m r xs ys h =
    let p = h.3.3 in
    let f = (phrases_fit m).units p.0 h.3.1 p.1 p.2 in
    let is : refinement_depth r ≡ deepest_of unit_depth p.0 + 1 = ap refinement_depth p.3.0 in
    (omega (arith, is, f.0), λ n le. (h.0, h.1, h.2, (h.3.0, h.3.1, h.3.2, (p.0, p.1, f.1 n (omega (arith, is, le)), p.3))))

refinement_list_fits : (m : ℕ) (rs : List Refinement) (xs ys : Tokens) → (g.refinement_list m).reads rs xs ys
    → Fits (λ n. (g.refinement_list n).reads rs xs ys) (deepest_of refinement_depth rs) m
unfolding g.refinement_list
refinement_list_fits m rs xs ys h = (listed_fits (mark sign.Point) g.refinement refinement_depth m (refinement_fits m) h.3.0 h.0 rs xs h.1 ys h.2 h.3.1).1

refinements_fit : (m : ℕ) (rs : List Refinement) (xs ys : Tokens) → (g.refinements m).reads rs xs ys
    → Fits (λ n. (g.refinements n).reads rs xs ys) (deepest_of refinement_depth rs) m
unfolding g.refinements
refinements_fit m rs xs ys h =
    let f = refinement_list_fits m h.0 xs h.1 h.2 in
    let is : deepest_of refinement_depth rs ≡ deepest_of refinement_depth h.0 = ap (deepest_of refinement_depth) h.3.3.0 in
    (omega (arith, is, f.0), λ n le. (h.0, h.1, f.1 n (omega (arith, is, le)), h.3))

tail_fits : (m : ℕ) (rs : List Refinement) (xs ys : Tokens) → (g.tail m).reads rs xs ys
    → Fits (λ n. (g.tail n).reads rs xs ys) (deepest_of refinement_depth rs) m
unfolding g.tail g.point_tail
tail_fits m rs xs ys h = elim h [
  | inl r ↦ elim r.3 [
    | inl q ↦ let f = refinements_fit m rs r.1 ys q in (f.0, λ n le. inl (r.0, r.1, r.2, inl (f.1 n le)))
    | inr q ↦
        let is : deepest_of refinement_depth rs ≡ 0 = ap (deepest_of refinement_depth) q.0 in
        (omega (arith, is), λ n le. inl (r.0, r.1, r.2, inr q))
  ]
  | inr r ↦
      let is : deepest_of refinement_depth rs ≡ 0 = ap (deepest_of refinement_depth) r.0 in
      (omega (arith, is), λ n le. inr r)
]

body_fits : (m : ℕ) (b : Body) (xs ys : Tokens) → (g.body (suc m) m).reads b xs ys → Fits (λ n. (g.body (suc n) n).reads b xs ys) (body_depth b) m
unfolding g.body
body_fits m b xs ys h =
    let p = h.3 in
    let f = (phrases_fit (suc m)).units h.0 xs h.1 h.2 in
    let t = tail_fits m p.0 h.1 p.1 p.2 in
    let is : body_depth b ≡ max (deepest_of unit_depth h.0) (deepest_of refinement_depth p.0) = ap body_depth p.3.0 in
    (omega (arith, is, f.0, t.0), λ n le. (h.0, h.1, f.1 (suc n) (omega (arith, is, le)), (p.0, p.1, t.1 n (omega (arith, is, le)), p.3)))

-- no body without a depth
no_body : {X : Type 0} (n : ℕ) (b : Body) (xs ys : Tokens) → (g.body 0 n).reads b xs ys → X
unfolding g.body
no_body n b xs ys h = absurd (omega (arith, ((phrases_fit 0).units h.0 xs h.1 h.2).0))

-- ---- PROC

formal_list_fits : (m : ℕ) (fs : List Formal) (xs ys : Tokens) → (g.formal_list (suc m) m).reads fs xs ys
    → Fits (λ n. (g.formal_list (suc n) n).reads fs xs ys) (deepest_of formal_depth fs) m
unfolding g.formal_list
formal_list_fits m fs xs ys h =
    let p = h.3 in
    let f = formals_fit m p.0 h.1 p.1 p.2 in
    let is : deepest_of formal_depth fs ≡ deepest_of formal_depth p.0 = ap (deepest_of formal_depth) p.3.3.0 in
    (omega (arith, is, f.0), λ n le. (h.0, h.1, h.2, (p.0, p.1, f.1 n (omega (arith, is, le)), p.3)))

optional_formals_fit : (m : ℕ) (fs : List Formal) (xs ys : Tokens) → (g.optional_formals (suc m) m).reads fs xs ys
    → Fits (λ n. (g.optional_formals (suc n) n).reads fs xs ys) (deepest_of formal_depth fs) m
unfolding g.optional_formals
optional_formals_fit m fs xs ys h = elim h [
  | inl r ↦ let f = formal_list_fits m fs xs ys r in (f.0, λ n le. inl (f.1 n le))
  | inr r ↦
      let is : deepest_of formal_depth fs ≡ 0 = ap (deepest_of formal_depth) r.0 in
      (omega (arith, is), λ n le. inr r)
]

-- one less
abbrev less : ℕ → ℕ
less zero = zero
less (suc n) = n

abbrev proc_parts_depth : ProcParts → ℕ
proc_parts_depth p = max (deepest_of formal_depth p.formals) (body_depth p.body)

proc_parts_fit : (m : ℕ) (v : ProcParts) (xs ys : Tokens) → (g.proc_parts m (less m)).reads v xs ys
    → Fits (λ n. (g.proc_parts n (less n)).reads v xs ys) (proc_parts_depth v + 1) m
unfolding g.proc_parts
proc_parts_fit zero v xs ys h =
    let b = h.3.3.3.3 in
    no_body zero b.0 h.3.3.3.1 b.1 b.2
proc_parts_fit (suc m) v xs ys h =
    let p = h.3.3 in
    let k = p.3 in
    let b = k.3 in
    let f = optional_formals_fit m p.0 h.3.1 p.1 p.2 in
    let c = body_fits m b.0 k.1 b.1 b.2 in
    let is : proc_parts_depth v ≡ max (deepest_of formal_depth p.0) (body_depth b.0) = ap proc_parts_depth b.3.3.3.0 in
    lift (λ n. (g.proc_parts n (less n)).reads v xs ys) (proc_parts_depth v) (proc_parts_depth v + 1) m refl (
      omega (arith, is, f.0, c.0),
      λ n le.
          (h.0, h.1, h.2, (h.3.0, h.3.1, h.3.2, (p.0, p.1, f.1 n (omega (arith, is, le)), (k.0, k.1, k.2, (b.0, b.1, c.1 n (omega (arith, is, le)), b.3))))),
    )

-- behind the type of a result
abbrev BehindResult : (ℕ → ℕ → Option TypePhrase → Rule LevelUnit) → ℕ → Type 0
BehindResult rule m = (t : Option TypePhrase) → if_any type_depth t ≤ m → (v : LevelUnit) (xs ys : Tokens) → (rule m (less m) t).reads v xs ys
    → (if_any type_depth t ≤ level_unit_depth v) × Fits (λ n. (rule n (less n) t).reads v xs ys) (level_unit_depth v) m

proc_fits : (m : ℕ) → BehindResult g.proc m
unfolding g.proc
proc_fits m t low v xs ys h =
    let f = proc_parts_fit m h.0 xs h.1 h.2 in
    let is : level_unit_depth v ≡ max (if_any type_depth t) (proc_parts_depth h.0 + 1) = ap level_unit_depth h.3.0 in
    (omega (arith, is), (omega (arith, is, low, f.0), λ n le. (h.0, h.1, f.1 n (omega (arith, is, le)), h.3)))

-- ---- OP

operand_fits : (m : ℕ) (f : Formal) (xs ys : Tokens) → (g.operand (suc m) m).reads f xs ys → Fits (λ n. (g.operand (suc n) n).reads f xs ys) (formal_depth f) m
unfolding g.operand
operand_fits m f xs ys h =
    let t = (types_fit m h.0 xs h.1 h.2).1 in
    let is : formal_depth f ≡ type_depth h.0 = ap formal_depth h.3.3.3.0 in
    (omega (arith, is, t.0), λ n le. (h.0, h.1, t.1 n (omega (arith, is, le)), h.3))

operands_fit : (m : ℕ) (o : Operator) (fs : List Formal) (xs ys : Tokens) → (g.operands (suc m) m o).reads fs xs ys
    → Fits (λ n. (g.operands (suc n) n o).reads fs xs ys) (deepest_of formal_depth fs) m
unfolding g.operands g.same_typed g.other_typed g.one_operand
operands_fit m o fs xs ys h =
    let f = operand_fits m h.0 xs h.1 h.2 in
    elim h.3 [
      | inl r ↦
          let is : deepest_of formal_depth fs ≡ max (formal_depth h.0) 0 = ap (deepest_of formal_depth) r.3.3.0 in
          (omega (arith, is, f.0), λ n le. (h.0, h.1, f.1 n (omega (arith, is, le)), inl r))
      | inr q ↦ elim q [
        | inl r ↦
            let p = r.3 in
            let s = operand_fits m p.0 r.1 p.1 p.2 in
            let is : deepest_of formal_depth fs ≡ max (formal_depth h.0) (max (formal_depth p.0) 0) = ap (deepest_of formal_depth) p.3.0 in (
              omega (arith, is, f.0, s.0),
              λ n le. (h.0, h.1, f.1 n (omega (arith, is, le)), inr (inl (r.0, r.1, r.2, (p.0, p.1, s.1 n (omega (arith, is, le)), p.3)))),
            )
        | inr r ↦
            let is : deepest_of formal_depth fs ≡ max (formal_depth h.0) 0 = ap (deepest_of formal_depth) r.3.0 in
            (omega (arith, is, f.0), λ n le. (h.0, h.1, f.1 n (omega (arith, is, le)), inr (inr r)))
      ]
    ]

abbrev operator_parts_depth : OperatorParts → ℕ
operator_parts_depth p = max (deepest_of formal_depth p.formals) (body_depth p.body)

operator_parts_fit : (m : ℕ) (v : OperatorParts) (xs ys : Tokens) → (g.operator_parts m (less m)).reads v xs ys
    → Fits (λ n. (g.operator_parts n (less n)).reads v xs ys) (operator_parts_depth v + 1) m
unfolding g.operator_parts
operator_parts_fit zero v xs ys h =
    let b = h.3.3.3.3.3.3 in
    no_body zero b.0 h.3.3.3.3.3.1 b.1 b.2
operator_parts_fit (suc m) v xs ys h =
    let i = h.3 in
    let j = i.3 in
    let p = j.3 in
    let k = p.3 in
    let l = k.3 in
    let b = l.3 in
    let f = operands_fit m i.0.operator p.0 j.1 p.1 p.2 in
    let c = body_fits m b.0 l.1 b.1 b.2 in
    let is : operator_parts_depth v ≡ max (deepest_of formal_depth p.0) (body_depth b.0) = ap operator_parts_depth b.3.3.3.0 in
    lift (λ n. (g.operator_parts n (less n)).reads v xs ys) (operator_parts_depth v) (operator_parts_depth v + 1) m refl (
      omega (arith, is, f.0, c.0),
      λ n le. (
        h.0,
        h.1,
        h.2,
        (
          i.0,
          i.1,
          i.2,
          (j.0, j.1, j.2, (p.0, p.1, f.1 n (omega (arith, is, le)), (k.0, k.1, k.2, (l.0, l.1, l.2, (b.0, b.1, c.1 n (omega (arith, is, le)), b.3))))),
        ),
      ),
    )

operator_fits : (m : ℕ) → BehindResult g.operator m
unfolding g.operator
operator_fits m t low v xs ys h =
    let f = operator_parts_fit m h.0 xs h.1 h.2 in
    let is : level_unit_depth v ≡ max (if_any type_depth t) (operator_parts_depth h.0 + 1) = ap level_unit_depth h.3.0 in
    (omega (arith, is), (omega (arith, is, low, f.0), λ n le. (h.0, h.1, f.1 n (omega (arith, is, le)), h.3)))

-- ---- units of a level

abbrev FitsText : {A : Type 0} → (ℕ → ℕ → Rule A) → (A → ℕ) → ℕ → Type 0
FitsText {A = A} rule depth m = (v : A) (xs ys : Tokens) → (rule m (less m)).reads v xs ys → Fits (λ n. (rule n (less n)).reads v xs ys) (depth v) m

new_type_fits : (m : ℕ) → FitsText g.new_type level_unit_depth m
unfolding g.new_type
new_type_fits m v xs ys h =
    let q = h.3.3 in
    let p = q.3 in
    let t = (types_fit m p.0 q.1 p.1 p.2).1 in
    let is : level_unit_depth v ≡ type_depth p.0 = ap level_unit_depth p.3.0 in
    (omega (arith, is, t.0), λ n le. (h.0, h.1, h.2, (h.3.0, h.3.1, h.3.2, (q.0, q.1, q.2, (p.0, p.1, t.1 n (omega (arith, is, le)), p.3)))))

typed_unit_fits : (m : ℕ) → FitsText g.typed_unit level_unit_depth m
unfolding g.typed_unit g.declared_unit
typed_unit_fits m v xs ys h =
    let t = (types_fit m h.0 xs h.1 h.2).1 in
    elim h.3 [
      | inl r ↦
          let f = proc_fits m (Some h.0) t.0 v h.1 ys r in
          (f.1.0, λ n le. (h.0, h.1, t.1 n (omega (arith, f.0, le)), inl (f.1.1 n le)))
      | inr q ↦ elim q [
        | inl r ↦
            let f = operator_fits m (Some h.0) t.0 v h.1 ys r in
            (f.1.0, λ n le. (h.0, h.1, t.1 n (omega (arith, f.0, le)), inr (inl (f.1.1 n le))))
        | inr r ↦
            let f = declared_fits m (phrases_fit m) h.0 t.0 r.0 h.1 r.1 r.2 in
            let is = ap level_unit_depth r.3.0 in
            (omega (arith, is, f.1.0), λ n le. (h.0, h.1, t.1 n (omega (arith, is, f.0, le)), inr (inr (r.0, r.1, f.1.1 n (omega (arith, is, le)), r.3))))
      ]
    ]

plain_unit_fits : (m : ℕ) → FitsText g.plain_unit level_unit_depth m
unfolding g.plain_unit
plain_unit_fits m v xs ys h =
    let f = plain_fits m (phrases_fit m) h.0 xs h.1 h.2 in
    let is = ap level_unit_depth h.3.0 in
    (omega (arith, is, f.0), λ n le. (h.0, h.1, f.1 n (omega (arith, is, le)), h.3))

level_unit_fits : (m : ℕ) → FitsText g.level_unit level_unit_depth m
unfolding g.level_unit
level_unit_fits m v xs ys h = elim h [
  | inl r ↦ let f = typed_unit_fits m v xs ys r in (f.0, λ n le. inl (f.1 n le))
  | inr a ↦ elim a [
    | inl r ↦ let f = new_type_fits m v xs ys r in (f.0, λ n le. inr (inl (f.1 n le)))
    | inr b ↦ elim b [
      | inl r ↦ let f = proc_fits m None (omega arith) v xs ys r in (f.1.0, λ n le. inr (inr (inl (f.1.1 n le))))
      | inr c ↦ elim c [
        | inl r ↦ let f = operator_fits m None (omega arith) v xs ys r in (f.1.0, λ n le. inr (inr (inr (inl (f.1.1 n le)))))
        | inr r ↦ let f = plain_unit_fits m v xs ys r in (f.0, λ n le. inr (inr (inr (inr (f.1 n le)))))
      ]
    ]
  ]
]

level_units_fit : (m : ℕ) → FitsText g.level_units (deepest_of level_unit_depth) m
unfolding g.level_units
level_units_fit m us xs ys h =
    (listed_fits (mark sign.Semicolon) (λ n. g.level_unit n (less n)) level_unit_depth m (level_unit_fits m) h.3.0 h.0 us xs h.1 ys h.2 h.3.1).1

level_fits : (m : ℕ) → FitsText g.a_level level_depth m
unfolding g.a_level
level_fits m l xs ys h =
    let p = h.3 in
    let f = level_units_fit m h.0 xs h.1 h.2 in
    let t = tail_fits m p.0 h.1 p.1 p.2 in
    let is : level_depth l ≡ max (deepest_of level_unit_depth h.0) (deepest_of refinement_depth p.0) = ap level_depth p.3.0 in
    (omega (arith, is, f.0, t.0), λ n le. (h.0, h.1, f.1 n (omega (arith, is, le)), (p.0, p.1, t.1 n (omega (arith, is, le)), p.3)))

-- ---- texts

program_fits : (m : ℕ) → FitsText g.program tree_depth m
unfolding g.program
program_fits m t xs ys h =
    let f = level_fits m h.0 xs h.1 h.2 in
    let is : tree_depth t ≡ level_depth h.0 = ap tree_depth h.3.0 in
    (omega (arith, is, f.0), λ n le. (h.0, h.1, f.1 n (omega (arith, is, le)), h.3))

packet_fits : (m : ℕ) → FitsText g.packet tree_depth m
unfolding g.packet
packet_fits m t xs ys h =
    let i = h.3 in
    let j = i.3 in
    let k = j.3 in
    let p = k.3 in
    let f = level_fits m p.0 k.1 p.1 p.2 in
    let is : tree_depth t ≡ level_depth p.0 = ap tree_depth p.3.3.3.3.0 in
    (omega (arith, is, f.0), λ n le. (h.0, h.1, h.2, (i.0, i.1, i.2, (j.0, j.1, j.2, (k.0, k.1, k.2, (p.0, p.1, f.1 n (omega (arith, is, le)), p.3))))))

text_fits : (m : ℕ) (p : Bool) → FitsText (λ most in_body. text_within most in_body p) tree_depth m
text_fits m true = packet_fits m
text_fits m false = program_fits m

pub limited : (p : Bool) (tokens : List Token) (t : Tree) → Reads p tokens t → ReadsAtAnyDepth p tokens t × (tree_depth t ≤ 400)
limited p tokens t h = ((h.0, (399, h.1)), (text_fits 400 p t tokens [] h.1).0)

pub unlimited : (p : Bool) (tokens : List Token) (t : Tree) → ReadsAtAnyDepth p tokens t → tree_depth t ≤ 400 → Reads p tokens t
unlimited p tokens t h le = (h.0, (text_fits (suc h.1.0) p t tokens [] h.1.1).1 400 le)
