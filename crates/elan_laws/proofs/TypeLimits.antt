-- Types, parameters and LET with a limit.
use Rattle.std.proofs.Common.{◌≡◌, ℕ, zero, suc, ◌+◌, ◌≤◌, inl, inr, List, Option, Some, ap, rules, arith}
use Rattle.std.proofs.lemmas.Bool.{lt-ltb}
use Rattle.elan_tree.specs.declared.token.Word.{Word}
use Rattle.elan_tree.specs.declared.token.Word.TheVariants as w
use Rattle.elan_tree.specs.declared.token.Key.TheVariants as key
use Rattle.elan_tree.specs.declared.token.Sign.TheVariants as sign
use Rattle.elan_tree.specs.declared.written_type.Name.{Name}
use Rattle.elan_tree.specs.declared.written_type.Size.{Size}
use Rattle.elan_tree.specs.declared.written_type.Field.{Field}
use Rattle.elan_tree.specs.declared.written_type.TypePhrase.{TypePhrase}
use Rattle.elan_tree.specs.declared.written_type.TypePhrase.TheVariants as ty
use Rattle.elan_tree.specs.declared.written_type.TypePhrase.TheFolds.{the_lemmas}
use Rattle.elan_tree.specs.declared.written_type.Formal.{Formal}
use Rattle.elan_tree.specs.declared.written_type.LetItem.{LetItem}
use Rattle.elan_grammar.specs.Rule.{Tokens}
use Rattle.elan_grammar.specs.Terminals.{mark, simple_of}
use Rattle.elan_grammar.specs.Types as g
use Rattle.elan_grammar.specs.Depth.{type_depth, field_depth, formal_depth, let_item_depth, deepest_of}
use Rattle.elan_laws.proofs.Limits.{Fits, lift, listed_fits}

-- ---- depths

named_depth : (x : Name) → type_depth (ty.Named x) ≡ 1
named_depth x = search (rules, the_lemmas)

row_depth : (at : ℕ) (s : Size) (t : TypePhrase) → type_depth (ty.Row at s t) ≡ type_depth t + 1
row_depth at s t = search (rules, the_lemmas)

structure_depth : (at : ℕ) (fs : List Field) → type_depth (ty.Struct at fs) ≡ deepest_of field_depth fs + 1
structure_depth at fs = search (rules, the_lemmas)

one_field_depth : (t : TypePhrase) (xs : List Name) → field_depth (record { of = t; names = xs }) ≡ type_depth t
one_field_depth t xs = search (rules, the_lemmas)

of_simple : (x t : TypePhrase) → ◌≡◌ {A = Option TypePhrase} (Some x) (Some t) → type_depth x ≡ 1 → type_depth t ≡ 1
of_simple x t e d =
    let is : x ≡ t = cc in
    rw (← is) d

simple_depth : (at : ℕ) (v : Word) (t : TypePhrase) → simple_of at v ≡ Some t → type_depth t ≡ 1
simple_depth at (w.Key key.Int) t e = of_simple (ty.Int at) t e (search (rules, the_lemmas))
simple_depth at (w.Key key.Bool) t e = of_simple (ty.Bool at) t e (search (rules, the_lemmas))
simple_depth at (w.Key key.Text) t e = of_simple (ty.Text at) t e (search (rules, the_lemmas))
simple_depth at (w.Key key.Task) t e = of_simple (ty.Task at) t e (search (rules, the_lemmas))
simple_depth at (w.Key key.Dataspace) t e = of_simple (ty.Dataspace at) t e (search (rules, the_lemmas))
simple_depth at _ t e = absurd cc

-- A type is some depth, and with a limit it fits.
abbrev TypeFits : ℕ → Type 0
TypeFits m = (t : TypePhrase) (xs ys : Tokens) → (g.types m).reads t xs ys → (1 ≤ type_depth t) × Fits (λ n. (g.types n).reads t xs ys) (type_depth t) m

field_fits : (m : ℕ) → TypeFits m → (f : Field) (xs ys : Tokens) → (g.field (g.types m)).reads f xs ys
    → (1 ≤ field_depth f) × Fits (λ n. (g.field (g.types n)).reads f xs ys) (field_depth f) m
unfolding g.field
field_fits m inner f xs ys h =
    let t = inner h.0 xs h.1 h.2 in
    let is : field_depth f ≡ type_depth h.0 = rw h.3.3.0 (one_field_depth h.0 h.3.0) in
    (omega (arith, is, t.0), (omega (arith, is, t.1.0), λ n le. (h.0, h.1, t.1.1 n (omega (arith, is, le)), h.3)))

fields_fit : (m : ℕ) → TypeFits m → (fs : List Field) (xs ys : Tokens) → (g.fields (g.types m)).reads fs xs ys
    → (1 ≤ (deepest_of field_depth) fs) × Fits (λ n. (g.fields (g.types n)).reads fs xs ys) (deepest_of field_depth fs) m
unfolding g.fields
fields_fit m inner fs xs ys h =
    let first = field_fits m inner h.0 xs h.1 h.2 in
    let all =
    listed_fits (mark sign.Comma) (λ n. g.field (g.types n)) field_depth m (λ f us vs r. (field_fits m inner f us vs r).1) h.3.0 h.0 fs xs h.1 ys h.2 h.3.1
    in
    (omega (arith, first.0, all.0), all.1)

-- one depth below
abbrev Part : TypePhrase → Tokens → Tokens → ℕ → Type 0
Part t xs ys m = (k : ℕ) × (type_depth t ≡ k + 1) × Fits (λ n. (g.a_type (g.types n) n).reads t xs ys) k m

row_part : (m : ℕ) → TypeFits m → (t : TypePhrase) (xs ys : Tokens) → (g.row (g.types m) m).reads t xs ys → Part t xs ys m
unfolding g.a_type g.row
row_part m inner t xs ys h =
    let p = h.3.3.3 in
    let f = inner p.0 h.3.3.1 p.1 p.2 in (
      type_depth p.0,
      rw p.3.0 (row_depth h.3.0 h.3.3.0 p.0),
      (
        f.1.0,
        λ n le. inr (inl
            (h.0, h.1, (lt-ltb 0 n (omega (arith, f.0, le)), h.2.1), (h.3.0, h.3.1, h.3.2, (h.3.3.0, h.3.3.1, h.3.3.2, (p.0, p.1, f.1.1 n le, p.3))))),
      ),
    )

structure_part : (m : ℕ) → TypeFits m → (t : TypePhrase) (xs ys : Tokens) → (g.structure (g.types m) m).reads t xs ys → Part t xs ys m
unfolding g.a_type g.structure
structure_part m inner t xs ys h =
    let p = h.3.3.3 in
    let f = fields_fit m inner p.0 h.3.3.1 p.1 p.2 in (
      (deepest_of field_depth) p.0,
      rw p.3.3.0 (structure_depth h.3.0 p.0),
      (
        f.1.0,
        λ n le. inr (inr
            (inl (h.0, h.1, (lt-ltb 0 n (omega (arith, f.0, le)), h.2.1), (h.3.0, h.3.1, h.3.2, (h.3.3.0, h.3.3.1, h.3.3.2, (p.0, p.1, f.1.1 n le, p.3)))))),
      ),
    )

type_part : (m : ℕ) → TypeFits m → (t : TypePhrase) (xs ys : Tokens) → (g.a_type (g.types m) m).reads t xs ys → Part t xs ys m
unfolding g.a_type g.named_type
type_part m inner t xs ys h = elim h [
  | inl r ↦ (0, rw r.3.0 (named_depth r.0), (omega arith, λ n le. inl r))
  | inr o ↦ elim o [
    | inl r ↦ row_part m inner t xs ys r
    | inr q ↦ elim q [
      | inl r ↦ structure_part m inner t xs ys r
      | inr r ↦ (0, simple_depth r.0.at r.0.what t r.2, (omega arith, λ n le. inr (inr (inr r))))
    ]
  ]
]

pub types_fit : (m : ℕ) → TypeFits m
unfolding g.types
types_fit zero t xs ys h = absurd h
types_fit (suc m) t xs ys h =
    let p = type_part m (types_fit m) t xs ys h in
    (omega (arith, p.1), lift (λ n. (g.types n).reads t xs ys) p.0 (type_depth t) m p.1 p.2)

-- ---- what holds types

formal_fits : (m : ℕ) (f : Formal) (xs ys : Tokens) → (g.formal m).reads f xs ys → Fits (λ n. (g.formal n).reads f xs ys) (formal_depth f) m
unfolding g.formal
formal_fits m f xs ys h =
    let t = (types_fit m h.0 xs h.1 h.2).1 in
    let is : formal_depth f ≡ type_depth h.0 = ap formal_depth h.3.3.3.0 in
    (omega (arith, is, t.0), λ n le. (h.0, h.1, t.1 n (omega (arith, is, le)), h.3))

pub formals_fit : (m : ℕ) (fs : List Formal) (xs ys : Tokens) → (g.formals m).reads fs xs ys
    → Fits (λ n. (g.formals n).reads fs xs ys) (deepest_of formal_depth fs) m
unfolding g.formals
formals_fit m fs xs ys h = (listed_fits (mark sign.Comma) g.formal formal_depth m (formal_fits m) h.3.0 h.0 fs xs h.1 ys h.2 h.3.1).1

let_item_fits : (m : ℕ) (x : LetItem) (xs ys : Tokens) → (g.let_item m).reads x xs ys → Fits (λ n. (g.let_item n).reads x xs ys) (let_item_depth x) m
unfolding g.let_item g.let_constant g.abbreviation
let_item_fits m x xs ys h = elim h [
  | inl r ↦
      let is : let_item_depth x ≡ 0 = ap let_item_depth r.3.3.3.0 in
      (omega (arith, is), λ n le. inl r)
  | inr r ↦
      let b = r.3 in
      let p = b.3.3 in
      let t = types_fit m p.0 b.3.1 p.1 p.2 in
      let is : let_item_depth x ≡ type_depth p.0 = ap let_item_depth p.3.0 in (
        omega (arith, is, t.1.0),
        λ n le. inr (
          r.0,
          r.1,
          (lt-ltb 0 n (omega (arith, t.0, is, le)), r.2.1),
          (b.0, b.1, b.2, (b.3.0, b.3.1, b.3.2, (p.0, p.1, t.1.1 n (omega (arith, is, le)), p.3))),
        ),
      )
]

pub let_items_fit : (m : ℕ) (is : List LetItem) (xs ys : Tokens) → (g.let_items m).reads is xs ys
    → Fits (λ n. (g.let_items n).reads is xs ys) (deepest_of let_item_depth is) m
unfolding g.let_items
let_items_fit m is xs ys h = (listed_fits (mark sign.Comma) g.let_item let_item_depth m (let_item_fits m) h.3.0 h.0 is xs h.1 ys h.2 h.3.1).1
