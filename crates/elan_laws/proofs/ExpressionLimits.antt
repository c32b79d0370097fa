-- Expressions with a limit. One induction over the trees of expressions, so it stands in one file.
use Rattle.std.proofs.Common.{◌≡◌, ℕ, zero, suc, ◌+◌, ◌≤◌, max, inl, inr, Bool, true, false, List, Option, Some, None, ap, rules, arith}
use Rattle.std.specs.Prelude.{ℤ}
use Rattle.std.proofs.lemmas.Bool.{lt-ltb, ltb-true}
use Rattle.elan_tree.specs.declared.token.Word.{Word}
use Rattle.elan_tree.specs.declared.token.Word.TheVariants as w
use Rattle.elan_tree.specs.declared.token.Key.TheVariants as key
use Rattle.elan_tree.specs.declared.token.Sign.TheVariants as sign
use Rattle.elan_tree.specs.declared.written_type.Name.{Name}
use Rattle.elan_tree.specs.declared.written_type.Label.{Label}
use Rattle.elan_tree.specs.declared.phrase.Operator.{Operator}
use Rattle.elan_tree.specs.declared.phrase.Expr.{Expr}
use Rattle.elan_tree.specs.declared.phrase.Expr.TheVariants as e
use Rattle.elan_tree.specs.declared.phrase.Expr.TheFolds.{the_lemmas}
use Rattle.elan_tree.specs.declared.phrase.Branch.{Branch}
use Rattle.elan_tree.specs.declared.phrase.Case.{Case}
use Rattle.elan_tree.specs.declared.phrase.Unit.{Unit as Phrase}
use Rattle.elan_grammar.specs.declared.heading.SelectParts.{SelectParts}
use Rattle.elan_grammar.specs.declared.joint.Joint.{Joint}
use Rattle.elan_grammar.specs.declared.joint.Joint.TheVariants as joint
use Rattle.elan_grammar.specs.Rule.{Tokens, Rule}
use Rattle.elan_grammar.specs.Terminals.{keyword, mark, literal_of}
use Rattle.elan_grammar.specs.Expressions as g
use Rattle.elan_grammar.specs.Expressions.{Language, joined_by}
use Rattle.elan_grammar.specs.Units.{phrases}
use Rattle.elan_grammar.specs.Depth.{expr_depth, branch_depth, case_depth, unit_depth, expr_place, deepest_of, if_any}
use Rattle.elan_laws.proofs.Limits.{Fits, lift, drop_one, no_room, room, steps_fit, listed_fits, row_fits}

-- ---- depths

plain_depth : (x : Name) → expr_depth (e.Named x) ≡ 0
plain_depth x = search (rules, the_lemmas)

procedure_depth : (at : ℕ) (x : Name) → expr_depth (e.Procedure at x) ≡ 0
procedure_depth at x = search (rules, the_lemmas)

bracket_depth : (at : ℕ) (a : Expr) → expr_depth (e.Bracket at a) ≡ expr_depth a + 1
bracket_depth at a = search (rules, the_lemmas)

concr_depth : (at : ℕ) (a : Expr) → expr_depth (e.Concr at a) ≡ expr_depth a + 1
concr_depth at a = search (rules, the_lemmas)

call_depth : (x : Name) (xs : List Expr) → expr_depth (e.Call x xs) ≡ deepest_of expr_depth xs + 1
call_depth x xs = search (rules, the_lemmas)

one_branch_depth : (a : Expr) (us : List Phrase) → branch_depth (record { condition = a; units = us }) ≡ max (expr_depth a) (deepest_of unit_depth us)
one_branch_depth a us = search (rules, the_lemmas)

one_case_depth : (ls : List Label) (us : List Phrase) → case_depth (record { labels = ls; units = us }) ≡ deepest_of unit_depth us
one_case_depth ls us = search (rules, the_lemmas)

if_depth : (at : ℕ) (bs : List Branch) (o : Option (List Phrase))
    → expr_depth (e.If at bs o) ≡ max (deepest_of branch_depth bs) (if_any (deepest_of unit_depth) o) + 1
if_depth at bs None = search (rules, the_lemmas)
if_depth at bs (Some us) = search (rules, the_lemmas)

select_depth : (at : ℕ) (a : Expr) (cs : List Case) (o : Option (List Phrase))
    → expr_depth (e.Select at a cs o) ≡ max (expr_depth a) (max (deepest_of case_depth cs) (if_any (deepest_of unit_depth) o)) + 1
select_depth at a cs None = search (rules, the_lemmas)
select_depth at a cs (Some us) = search (rules, the_lemmas)

index_depth : (at : ℕ) (a b : Expr) → expr_depth (e.Index at a b) ≡ max (expr_depth a) (expr_depth b) + 1
index_depth at a b = search (rules, the_lemmas)

field_depth : (at : ℕ) (a : Expr) (x : Name) → expr_depth (e.Field at a x) ≡ expr_depth a + 1
field_depth at a x = search (rules, the_lemmas)

monadic_depth : (at : ℕ) (o : Operator) (a : Expr) → expr_depth (e.Monadic at o a) ≡ expr_depth a + 1
monadic_depth at o a = search (rules, the_lemmas)

joined_depth : (j : Joint) (a b : Expr) → expr_depth (joined_by j a b) ≡ max (expr_depth a) (expr_depth b) + 1
joined_depth joint.Cand a b = search (rules, the_lemmas)
joined_depth joint.Cor a b = search (rules, the_lemmas)
joined_depth (joint.Operator o) a b = search (rules, the_lemmas)

of_literal : (x a : Expr) → ◌≡◌ {A = Option Expr} (Some x) (Some a) → expr_depth x ≡ 0 → expr_depth a ≡ 0
of_literal x a h d =
    let is : x ≡ a = cc in
    rw (← is) d

number_depth : (at : ℕ) (n : ℤ) → expr_depth (e.Number at n) ≡ 0
number_depth at n = search (rules, the_lemmas)

text_depth : (at : ℕ) (b : List ℕ) → expr_depth (e.Text at b) ≡ 0
text_depth at b = search (rules, the_lemmas)

truth_depth : (at : ℕ) (b : Bool) → expr_depth (e.Truth at b) ≡ 0
truth_depth at b = search (rules, the_lemmas)

literal_depth : (at : ℕ) (v : Word) (a : Expr) → literal_of at v ≡ Some a → expr_depth a ≡ 0
literal_depth at (w.Number n) a h = of_literal (e.Number at n) a h (number_depth at n)
literal_depth at (w.Text b) a h = of_literal (e.Text at b) a h (text_depth at b)
literal_depth at (w.Key key.True) a h = of_literal (e.Truth at true) a h (truth_depth at true)
literal_depth at (w.Key key.False) a h = of_literal (e.Truth at false) a h (truth_depth at false)
literal_depth at _ a h = absurd cc

-- ---- phrases at most so deep, and what stands in them

abbrev pub At : {A : Type 0} → (Language → ℕ → Rule A) → ℕ → Rule A
At rule n = rule (phrases n) n

abbrev pub In : {A : Type 0} → (Language → ℕ → Rule A) → ℕ → Rule A
In rule n = rule (phrases (suc n)) (suc n)

abbrev pub FitsAt : {A : Type 0} → (Language → ℕ → Rule A) → (A → ℕ) → ℕ → Type 0
FitsAt {A = A} rule depth m = (a : A) (xs ys : Tokens) → (At rule m).reads a xs ys → Fits (λ n. (At rule n).reads a xs ys) (depth a) m

abbrev pub FitsIn : {A : Type 0} → (Language → ℕ → Rule A) → (A → ℕ) → ℕ → Type 0
FitsIn {A = A} rule depth m = (a : A) (xs ys : Tokens) → (In rule m).reads a xs ys → Fits (λ n. (In rule n).reads a xs ys) (depth a) m

-- what less deep phrases do
pub record Inner (m : ℕ) : Type 0 where
  pub level : (i : ℕ) (a : Expr) (xs ys : Tokens) → ((phrases m).level i).reads a xs ys → Fits (λ n. ((phrases n).level i).reads a xs ys) (expr_depth a + 1) m
  pub units : (us : List Phrase) (xs ys : Tokens) → (phrases m).units.reads us xs ys
      → Fits (λ n. (phrases n).units.reads us xs ys) (deepest_of unit_depth us + 1) m

pub expr_in : (m : ℕ) → Inner (suc m) → (i : ℕ) → FitsIn (λ inner n. inner.level i) expr_depth m
expr_in m inner i a xs ys h = drop_one (λ n. ((phrases n).level i).reads a xs ys) (expr_depth a) m (inner.level i a xs ys h)

pub units_in : (m : ℕ) → Inner (suc m) → FitsIn (λ inner n. inner.units) (deepest_of unit_depth) m
units_in m inner us xs ys h = drop_one (λ n. (phrases n).units.reads us xs ys) (deepest_of unit_depth us) m (inner.units us xs ys h)

-- ---- heads

bracket_fits : (m : ℕ) → Inner m → FitsAt g.bracket expr_depth m
unfolding g.bracket
bracket_fits zero inner a xs ys h = no_room 0 h.2.0
bracket_fits (suc m) inner a xs ys h =
    let p = h.3.3 in
    let f = expr_in m inner 6 p.0 h.3.1 p.1 p.2 in
    lift (λ n. (At g.bracket n).reads a xs ys) (expr_depth p.0) (expr_depth a) m (rw p.3.3.0 (bracket_depth h.3.0 p.0))
    (f.0, λ n le. (h.0, h.1, (room n, h.2.1), (h.3.0, h.3.1, h.3.2, (p.0, p.1, f.1 n le, p.3))))

concr_fits : (m : ℕ) → Inner m → FitsAt g.concr expr_depth m
unfolding g.concr
concr_fits zero inner a xs ys h = no_room 0 h.2.0
concr_fits (suc m) inner a xs ys h =
    let q = h.3.3 in
    let p = q.3 in
    let f = expr_in m inner 6 p.0 q.1 p.1 p.2 in
    lift (λ n. (At g.concr n).reads a xs ys) (expr_depth p.0) (expr_depth a) m (rw p.3.3.0 (concr_depth h.3.0 p.0))
    (f.0, λ n le. (h.0, h.1, (room n, h.2.1), (h.3.0, h.3.1, h.3.2, (q.0, q.1, q.2, (p.0, p.1, f.1 n le, p.3)))))

actual_in : (m : ℕ) → Inner (suc m) → FitsIn g.actual expr_depth m
unfolding g.actual g.procedure
actual_in m inner a xs ys h = elim h [
  | inl r ↦
      let is : expr_depth a ≡ 0 = rw r.3.3.0 (procedure_depth r.0 r.3.0) in
      (omega (arith, is), λ n le. inl r)
  | inr r ↦
      let f = expr_in m inner 6 a xs ys r in
      (f.0, λ n le. inr (f.1 n le))
]

actuals_in : (m : ℕ) → Inner (suc m) → FitsIn g.actuals (deepest_of expr_depth) m
unfolding g.actuals
actuals_in m inner row xs ys h = (listed_fits (mark sign.Comma) (In g.actual) expr_depth m (actual_in m inner) h.3.0 h.0 row xs h.1 ys h.2 h.3.1).1

call_fits : (m : ℕ) → Inner m → (x : Name) → FitsAt (λ inner n. g.call inner n x) expr_depth m
unfolding g.call
call_fits zero inner x a xs ys h = no_room 0 h.2.0
call_fits (suc m) inner x a xs ys h =
    let p = h.3.3 in
    let f = actuals_in m inner p.0 h.3.1 p.1 p.2 in
    lift (λ n. (g.call (phrases n) n x).reads a xs ys) (deepest_of expr_depth p.0) (expr_depth a) m (rw p.3.3.0 (call_depth x p.0))
    (f.0, λ n le. (h.0, h.1, (room n, h.2.1), (h.3.0, h.3.1, h.3.2, (p.0, p.1, f.1 n le, p.3))))

named_fits : (m : ℕ) → Inner m → FitsAt g.named expr_depth m
unfolding g.named
named_fits m inner a xs ys h = elim h.3 [
  | inl r ↦
      let f = call_fits m inner h.0 a h.1 ys r in
      (f.0, λ n le. (h.0, h.1, h.2, inl (f.1 n le)))
  | inr r ↦
      let is : expr_depth a ≡ 0 = rw r.0 (plain_depth h.0) in
      (omega (arith, is), λ n le. (h.0, h.1, h.2, inr r))
]

-- ---- IF

branch_in : (m : ℕ) → Inner (suc m) → FitsIn g.branch branch_depth m
unfolding g.branch
branch_in m inner b xs ys h =
    let p = h.3.3 in
    let a = expr_in m inner 6 h.0 xs h.1 h.2 in
    let u = units_in m inner p.0 h.3.1 p.1 p.2 in
    let is : branch_depth b ≡ max (expr_depth h.0) (deepest_of unit_depth p.0) = rw p.3.0 (one_branch_depth h.0 p.0) in
    (omega (arith, is, a.0, u.0), λ n le. (h.0, h.1, a.1 n (omega (arith, is, le)), (h.3.0, h.3.1, h.3.2, (p.0, p.1, u.1 n (omega (arith, is, le)), p.3))))

branches_in : (m : ℕ) → Inner (suc m) → FitsIn g.branches (deepest_of branch_depth) m
unfolding g.branches
branches_in m inner bs xs ys h = (listed_fits (keyword key.Elif) (In g.branch) branch_depth m (branch_in m inner) h.3.0 h.0 bs xs h.1 ys h.2 h.3.1).1

else_in : (m : ℕ) → Inner (suc m) → FitsIn g.else_part (if_any (deepest_of unit_depth)) m
unfolding g.else_part
else_in m inner o xs ys h = elim h [
  | inl r ↦
      let p = r.2 in
      let u = units_in m inner r.0 p.1 r.1 p.3 in
      let is : if_any (deepest_of unit_depth) o ≡ deepest_of unit_depth r.0 = ap (if_any (deepest_of unit_depth)) r.3.0 in
      (omega (arith, is, u.0), λ n le. inl (r.0, r.1, (p.0, p.1, p.2, u.1 n (omega (arith, is, le))), r.3))
  | inr r ↦
      let is : if_any (deepest_of unit_depth) o ≡ 0 = ap (if_any (deepest_of unit_depth)) r.0 in
      (omega (arith, is), λ n le. inr r)
]

choice_fits : (m : ℕ) → Inner m → FitsAt g.choice expr_depth m
unfolding g.choice
choice_fits zero inner a xs ys h = no_room 0 h.2.0
choice_fits (suc m) inner a xs ys h =
    let p = h.3.3 in
    let q = p.3 in
    let b = branches_in m inner p.0 h.3.1 p.1 p.2 in
    let o = else_in m inner q.0 p.1 q.1 q.2 in
    lift (λ n. (At g.choice n).reads a xs ys) (max (deepest_of branch_depth p.0) (if_any (deepest_of unit_depth) q.0)) (expr_depth a) m
    (rw q.3.3.0 (if_depth h.3.0 p.0 q.0)) (
      omega (arith, b.0, o.0),
      λ n le. (h.0, h.1, (room n, h.2.1), (h.3.0, h.3.1, h.3.2, (p.0, p.1, b.1 n (omega (arith, le)), (q.0, q.1, o.1 n (omega (arith, le)), q.3)))),
    )

-- ---- SELECT

case_in : (m : ℕ) → Inner (suc m) → FitsIn g.a_case case_depth m
unfolding g.a_case
case_in m inner c xs ys h =
    let p = h.3.3 in
    let q = p.3 in
    let u = units_in m inner q.0 p.1 q.1 q.2 in
    let is : case_depth c ≡ deepest_of unit_depth q.0 = rw q.3.0 (one_case_depth h.3.0 q.0) in
    (omega (arith, is, u.0), λ n le. (h.0, h.1, h.2, (h.3.0, h.3.1, h.3.2, (p.0, p.1, p.2, (q.0, q.1, u.1 n (omega (arith, is, le)), q.3)))))

cases_in : (m : ℕ) → Inner (suc m) → FitsIn g.cases (deepest_of case_depth) m
unfolding g.cases
cases_in m inner cs xs ys h = (row_fits (In g.a_case) case_depth m (case_in m inner) h.3.0 h.0 cs xs h.1 ys h.2 h.3.1).1

otherwise_in : (m : ℕ) → Inner (suc m) → FitsIn g.otherwise_part (if_any (deepest_of unit_depth)) m
unfolding g.otherwise_part
otherwise_in m inner o xs ys h = elim h [
  | inl r ↦
      let p = r.2 in
      let q = p.3 in
      let u = units_in m inner r.0 q.1 r.1 q.3 in
      let is : if_any (deepest_of unit_depth) o ≡ deepest_of unit_depth r.0 = ap (if_any (deepest_of unit_depth)) r.3.0 in
      (omega (arith, is, u.0), λ n le. inl (r.0, r.1, (p.0, p.1, p.2, (q.0, q.1, q.2, u.1 n (omega (arith, is, le)))), r.3))
  | inr r ↦
      let is : if_any (deepest_of unit_depth) o ≡ 0 = ap (if_any (deepest_of unit_depth)) r.0 in
      (omega (arith, is), λ n le. inr r)
]

abbrev parts_depth : SelectParts → ℕ
parts_depth p = max (deepest_of case_depth p.cases) (if_any (deepest_of unit_depth) p.otherwise)

parts_in : (m : ℕ) → Inner (suc m) → FitsIn g.select_parts parts_depth m
unfolding g.select_parts
parts_in m inner b xs ys h =
    let p = h.3 in
    let c = cases_in m inner h.0 xs h.1 h.2 in
    let o = otherwise_in m inner p.0 h.1 p.1 p.2 in
    let is : parts_depth b ≡ max (deepest_of case_depth h.0) (if_any (deepest_of unit_depth) p.0) = ap parts_depth p.3.3.0 in
    (omega (arith, is, c.0, o.0), λ n le. (h.0, h.1, c.1 n (omega (arith, is, le)), (p.0, p.1, o.1 n (omega (arith, is, le)), p.3)))

selection_fits : (m : ℕ) → Inner m → FitsAt g.selection expr_depth m
unfolding g.selection
selection_fits zero inner a xs ys h = no_room 0 h.2.0
selection_fits (suc m) inner a xs ys h =
    let p = h.3.3 in
    let q = p.3 in
    let s = q.3 in
    let f = expr_in m inner 6 p.0 h.3.1 p.1 p.2 in
    let c = parts_in m inner s.0 q.1 s.1 s.2 in
    lift (λ n. (At g.selection n).reads a xs ys) (max (expr_depth p.0) (parts_depth s.0)) (expr_depth a) m
    (rw s.3.0 (select_depth h.3.0 p.0 s.0.cases s.0.otherwise)) (
      omega (arith, f.0, c.0),
      λ n le. (
        h.0,
        h.1,
        (room n, h.2.1),
        (h.3.0, h.3.1, h.3.2, (p.0, p.1, f.1 n (omega (arith, le)), (q.0, q.1, q.2, (s.0, s.1, c.1 n (omega (arith, le)), s.3)))),
      ),
    )

head_fits : (m : ℕ) → Inner m → FitsAt g.head expr_depth m
unfolding g.head
head_fits m inner a xs ys h = elim h [
  | inl r ↦
      let is = literal_depth r.0.at r.0.what a r.2 in
      (omega (arith, is), λ n le. inl r)
  | inr o ↦ elim o [
    | inl r ↦ let f = bracket_fits m inner a xs ys r in (f.0, λ n le. inr (inl (f.1 n le)))
    | inr q ↦ elim q [
      | inl r ↦ let f = concr_fits m inner a xs ys r in (f.0, λ n le. inr (inr (inl (f.1 n le))))
      | inr s ↦ elim s [
        | inl r ↦ let f = choice_fits m inner a xs ys r in (f.0, λ n le. inr (inr (inr (inl (f.1 n le)))))
        | inr t ↦ elim t [
          | inl r ↦ let f = selection_fits m inner a xs ys r in (f.0, λ n le. inr (inr (inr (inr (inl (f.1 n le))))))
          | inr r ↦ let f = named_fits m inner a xs ys r in (f.0, λ n le. inr (inr (inr (inr (inr (f.1 n le))))))
        ]
      ]
    ]
  ]
]

-- ---- what goes on with an expression

-- one more step makes it deeper
abbrev StepFits : (Language → ℕ → Expr → Rule Expr) → ℕ → Type 0
StepFits rule m =
    (s t : Expr) (xs ys : Tokens) → expr_depth s ≤ m → (rule (phrases m) m s).reads t xs ys
    → (expr_depth s ≤ expr_depth t) × Fits (λ n. (rule (phrases n) n s).reads t xs ys) (expr_depth t) m

index_step : (m : ℕ) → Inner m → StepFits g.index m
unfolding g.index g.index_part
index_step zero inner s t xs ys le h = no_room (expr_depth s) h.2.2.0
index_step (suc m) inner s t xs ys le h =
    let r = h.2 in
    let k = r.3 in
    let p = k.3 in
    let f = expr_in m inner 6 p.0 k.1 p.1 p.2 in
    let under = ltb-true (expr_depth s) (suc m) r.2.0 in
    let is : expr_depth t ≡ max (expr_depth s) (expr_depth p.0) + 1 = rw (h.3.0, p.3.3.0) (index_depth (expr_place s) s p.0) in (
      omega (arith, is),
      lift (λ n. (g.index (phrases n) n s).reads t xs ys) (max (expr_depth s) (expr_depth p.0)) (expr_depth t) m is (
        omega (arith, under, f.0),
        λ n fits. (
          h.0,
          h.1,
          (
            r.0,
            r.1,
            (lt-ltb (expr_depth s) (suc n) (omega (arith, fits)), r.2.1),
            (k.0, k.1, k.2, (p.0, p.1, f.1 n (omega (arith, fits)), p.3)),
          ),
          h.3,
        ),
      ),
    )

field_step : (m : ℕ) → Inner m → StepFits g.field_of m
unfolding g.field_of g.field_part
field_step zero inner s t xs ys le h = no_room (expr_depth s) h.2.2.0
field_step (suc m) inner s t xs ys le h =
    let r = h.2 in
    let under = ltb-true (expr_depth s) (suc m) r.2.0 in
    let is : expr_depth t ≡ expr_depth s + 1 = rw h.3.0 (field_depth (expr_place s) s h.0) in (
      omega (arith, is),
      lift (λ n. (g.field_of (phrases n) n s).reads t xs ys) (expr_depth s) (expr_depth t) m is
          (omega (arith, under), λ n fits. (h.0, h.1, (r.0, r.1, (lt-ltb (expr_depth s) (suc n) (omega (arith, fits)), r.2.1), r.3), h.3)),
    )

longer_step : (m : ℕ) → Inner m → StepFits g.longer m
unfolding g.longer
longer_step m inner s t xs ys le h = elim h [
  | inl r ↦ let f = index_step m inner s t xs ys le r in (f.0, (f.1.0, λ n fits. inl (f.1.1 n fits)))
  | inr r ↦ let f = field_step m inner s t xs ys le r in (f.0, (f.1.0, λ n fits. inr (f.1.1 n fits)))
]

prim_fits : (m : ℕ) → Inner m → FitsAt g.prim expr_depth m
unfolding g.prim
prim_fits m inner a xs ys h =
    let f = head_fits m inner h.0 xs h.1 h.2 in
    let s = steps_fit (λ n x. (g.longer (phrases n) n x).reads) expr_depth m (longer_step m inner) h.3.0 h.0 a h.1 ys f.0 h.3.1 in
    (s.1.0, λ n le. (h.0, h.1, f.1 n (omega (arith, s.0, le)), (h.3.0, s.1.1 n le)))

-- ---- operators

applied_fits : (m : ℕ) → Inner m → FitsAt g.applied expr_depth m
unfolding g.applied
applied_fits zero inner a xs ys h = no_room 0 h.2.0
applied_fits (suc m) inner a xs ys h =
    let p = h.3.3 in
    let f = expr_in m inner 0 p.0 h.3.1 p.1 p.2 in
    lift (λ n. (At g.applied n).reads a xs ys) (expr_depth p.0) (expr_depth a) m (rw p.3.0 (monadic_depth h.3.0.0 h.3.0.1 p.0))
    (f.0, λ n le. (h.0, h.1, (room n, h.2.1), (h.3.0, h.3.1, h.3.2, (p.0, p.1, f.1 n le, p.3))))

operand_fits : (m : ℕ) → Inner m → FitsAt g.operand expr_depth m
unfolding g.operand
operand_fits m inner a xs ys h = elim h [
  | inl r ↦ let f = applied_fits m inner a xs ys r in (f.0, λ n le. inl (f.1 n le))
  | inr r ↦ let f = prim_fits m inner a xs ys r in (f.0, λ n le. inr (f.1 n le))
]

dyadic_step : (m : ℕ) → Inner m → (i : ℕ) → StepFits (λ inner n. g.dyadic inner n i) m
unfolding g.dyadic g.right_part
dyadic_step zero inner i s t xs ys le h = no_room (expr_depth s) h.2.2.0
dyadic_step (suc m) inner i s t xs ys le h =
    let r = h.2 in
    let k = r.3 in
    let p = k.3 in
    let f = expr_in m inner i p.0 k.1 p.1 p.2 in
    let under = ltb-true (expr_depth s) (suc m) r.2.0 in
    let is : expr_depth t ≡ max (expr_depth s) (expr_depth p.0) + 1 = rw (h.3.0, p.3.0) (joined_depth k.0 s p.0) in (
      omega (arith, is),
      lift (λ n. (g.dyadic (phrases n) n i s).reads t xs ys) (max (expr_depth s) (expr_depth p.0)) (expr_depth t) m is (
        omega (arith, under, f.0),
        λ n fits. (
          h.0,
          h.1,
          (
            r.0,
            r.1,
            (lt-ltb (expr_depth s) (suc n) (omega (arith, fits)), r.2.1),
            (k.0, k.1, k.2, (p.0, p.1, f.1 n (omega (arith, fits)), p.3)),
          ),
          h.3,
        ),
      ),
    )

pub level_fits : (m : ℕ) → Inner m → (i : ℕ) → FitsAt (λ inner n. g.level inner n i) expr_depth m
unfolding g.level
level_fits m inner zero a xs ys h = operand_fits m inner a xs ys h
level_fits m inner (suc i) a xs ys h =
    let f = level_fits m inner i h.0 xs h.1 h.2 in
    let s = steps_fit (λ n x. (g.dyadic (phrases n) n i x).reads) expr_depth m (dyadic_step m inner i) h.3.0 h.0 a h.1 ys f.0 h.3.1 in
    (s.1.0, λ n le. (h.0, h.1, f.1 n (omega (arith, s.0, le)), (h.3.0, s.1.1 n le)))
