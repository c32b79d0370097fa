-- Units with a limit. One induction over the trees of units, so it stands in one file.
use Rattle.std.proofs.Common.{◌≡◌, ℕ, zero, suc, ◌+◌, ◌≤◌, max, inl, inr, List, Option, Some, None, refl, ap, rules, arith}
use Rattle.std.proofs.lemmas.Bool.{lt-ltb, ltb-true}
use Rattle.elan_tree.specs.declared.token.Key.{Key}
use Rattle.elan_tree.specs.declared.token.Key.TheVariants as key
use Rattle.elan_tree.specs.declared.token.Sign.TheVariants as sign
use Rattle.elan_tree.specs.declared.written_type.Name.{Name}
use Rattle.elan_tree.specs.declared.written_type.TypePhrase.{TypePhrase}
use Rattle.elan_tree.specs.declared.written_type.LetItem.{LetItem}
use Rattle.elan_tree.specs.declared.phrase.Expr.{Expr}
use Rattle.elan_tree.specs.declared.phrase.Expr.TheFolds.{the_lemmas}
use Rattle.elan_tree.specs.declared.phrase.Item.{Item}
use Rattle.elan_tree.specs.declared.phrase.Counter.{Counter}
use Rattle.elan_tree.specs.declared.phrase.Limit.{Limit}
use Rattle.elan_tree.specs.declared.phrase.Limit.TheVariants as limit
use Rattle.elan_tree.specs.declared.phrase.Unit.{Unit as Phrase}
use Rattle.elan_tree.specs.declared.phrase.Unit.TheVariants as u
use Rattle.elan_grammar.specs.declared.heading.LoopParts.{LoopParts}
use Rattle.elan_grammar.specs.Rule.{Tokens, Rule}
use Rattle.elan_grammar.specs.Terminals.{mark}
use Rattle.elan_grammar.specs.Units as g
use Rattle.elan_grammar.specs.Expressions.{Language}
use Rattle.elan_grammar.specs.Units.{phrases, counter_of}
use Rattle.elan_grammar.specs.Depth.{type_depth, expr_depth, item_depth, limit_depth, counter_depth, unit_depth, type_place, let_item_depth, expr_place}
use Rattle.elan_grammar.specs.Depth.{deepest_of, if_any}
use Rattle.elan_laws.proofs.Limits.{Fits, lift, no_room, room, listed_fits}
use Rattle.elan_laws.proofs.TypeLimits.{types_fit, let_items_fit}
use Rattle.elan_laws.proofs.ExpressionLimits.{At, FitsAt, FitsIn, Inner, expr_in, units_in, level_fits}

-- ---- depths

let_depth : (at : ℕ) (xs : List LetItem) → unit_depth (u.Let at xs) ≡ deepest_of let_item_depth xs
let_depth at xs = search (rules, the_lemmas)

some_item_depth : (x : Name) (a : Expr) → item_depth (record { name = x; init = Some a }) ≡ expr_depth a
some_item_depth x a = search (rules, the_lemmas)

no_item_depth : (x : Name) → item_depth (record { name = x; init = None }) ≡ 0
no_item_depth x = search (rules, the_lemmas)

variables_depth : (at : ℕ) (t : TypePhrase) (xs : List Item) → unit_depth (u.Variables at t xs) ≡ max (type_depth t) (deepest_of item_depth xs)
variables_depth at t xs = search (rules, the_lemmas)

constants_depth : (at : ℕ) (t : TypePhrase) (xs : List Item) → unit_depth (u.Constants at t xs) ≡ max (type_depth t) (deepest_of item_depth xs)
constants_depth at t xs = search (rules, the_lemmas)

bound_depth : (at : ℕ) (t : TypePhrase) (xs : List Item) → unit_depth (u.Bound at t xs) ≡ max (type_depth t) (deepest_of item_depth xs)
bound_depth at t xs = search (rules, the_lemmas)

value_depth : (a : Expr) → unit_depth (u.Value a) ≡ expr_depth a
value_depth a = search (rules, the_lemmas)

becomes_depth : (at : ℕ) (a b : Expr) → unit_depth (u.Becomes at a b) ≡ max (expr_depth a) (expr_depth b) + 1
becomes_depth at a b = search (rules, the_lemmas)

leave_depth : (at : ℕ) (x : Name) (a : Option Expr) → unit_depth (u.Leave at x a) ≡ if_any expr_depth a + 1
leave_depth at x None = search (rules, the_lemmas)
leave_depth at x (Some a) = search (rules, the_lemmas)

upto_depth : (a : Expr) → limit_depth (limit.Upto a) ≡ expr_depth a
upto_depth a = search (rules, the_lemmas)

downto_depth : (a : Expr) → limit_depth (limit.Downto a) ≡ expr_depth a
downto_depth a = search (rules, the_lemmas)

without_depth : limit_depth limit.Without ≡ 0
without_depth = search (rules, the_lemmas)

one_counter_depth : (x : Name) (f : Option Expr) (l : Limit) → counter_depth (counter_of x f l) ≡ max (if_any expr_depth f) (limit_depth l)
one_counter_depth x None l = search (rules, the_lemmas)
one_counter_depth x (Some a) l = search (rules, the_lemmas)

loop_depth : (at : ℕ) (c : Option Counter) (w : Option Expr) (us : List Phrase) (a : Option Expr)
    → unit_depth (u.Loop at c w us a) ≡ max (if_any counter_depth c) (max (if_any expr_depth w) (max (deepest_of unit_depth us) (if_any expr_depth a))) + 1
loop_depth at None None us None = search (rules, the_lemmas)
loop_depth at None None us (Some a) = search (rules, the_lemmas)
loop_depth at None (Some w) us None = search (rules, the_lemmas)
loop_depth at None (Some w) us (Some a) = search (rules, the_lemmas)
loop_depth at (Some c) None us None = search (rules, the_lemmas)
loop_depth at (Some c) None us (Some a) = search (rules, the_lemmas)
loop_depth at (Some c) (Some w) us None = search (rules, the_lemmas)
loop_depth at (Some c) (Some w) us (Some a) = search (rules, the_lemmas)

empty_depth : unit_depth u.Empty ≡ 0
empty_depth = search (rules, the_lemmas)

-- ---- LET and declarations

let_fits : (m : ℕ) → FitsAt g.a_let unit_depth m
unfolding g.a_let
let_fits m v xs ys h =
    let p = h.3 in
    let f = let_items_fit m p.0 h.1 p.1 p.2 in
    let is : unit_depth v ≡ deepest_of let_item_depth p.0 = rw p.3.0 (let_depth h.0 p.0) in
    (omega (arith, is, f.0), λ n le. (h.0, h.1, h.2, (p.0, p.1, f.1 n (omega (arith, is, le)), p.3)))

init_fits : (m : ℕ) → Inner m → FitsAt g.init expr_depth m
unfolding g.init
init_fits m inner a xs ys h =
    let f = level_fits m inner 6 a h.1 ys h.3 in
    (f.0, λ n le. (h.0, h.1, h.2, f.1 n le))

item_fits : (m : ℕ) → Inner m → FitsAt g.item item_depth m
unfolding g.item
item_fits m inner i xs ys h =
    let p = h.3 in
    elim p.2 [
      | inl r ↦
          let f = init_fits m inner r.0 h.1 r.1 r.2 in
          let is : item_depth i ≡ expr_depth r.0 = rw (p.3.0, r.3.0) (some_item_depth h.0 r.0) in
          (omega (arith, is, f.0), λ n le. (h.0, h.1, h.2, (p.0, p.1, inl (r.0, r.1, f.1 n (omega (arith, is, le)), r.3), p.3)))
      | inr r ↦
          let is : item_depth i ≡ 0 = rw (p.3.0, r.0) (no_item_depth h.0) in
          (omega (arith, is), λ n le. (h.0, h.1, h.2, (p.0, p.1, inr r, p.3)))
    ]

items_fit : (m : ℕ) → Inner m → FitsAt g.items (deepest_of item_depth) m
unfolding g.items
items_fit m inner is xs ys h = (listed_fits (mark sign.Comma) (At g.item) item_depth m (item_fits m inner) h.3.0 h.0 is xs h.1 ys h.2 h.3.1).1

constant_fits : (m : ℕ) → Inner m → FitsAt g.constant_item item_depth m
unfolding g.constant_item
constant_fits m inner i xs ys h =
    let p = h.3 in
    let f = init_fits m inner p.0 h.1 p.1 p.2 in
    let is : item_depth i ≡ expr_depth p.0 = rw p.3.0 (some_item_depth h.0 p.0) in
    (omega (arith, is, f.0), λ n le. (h.0, h.1, h.2, (p.0, p.1, f.1 n (omega (arith, is, le)), p.3)))

constants_fit : (m : ℕ) → Inner m → FitsAt g.constant_items (deepest_of item_depth) m
unfolding g.constant_items
constants_fit m inner is xs ys h = (listed_fits (mark sign.Comma) (At g.constant_item) item_depth m (constant_fits m inner) h.3.0 h.0 is xs h.1 ys h.2 h.3.1).1

-- behind a type
abbrev BehindType : (Language → ℕ → TypePhrase → Rule Phrase) → ℕ → Type 0
BehindType rule m = (t : TypePhrase) → type_depth t ≤ m → (v : Phrase) (xs ys : Tokens) → (rule (phrases m) m t).reads v xs ys
    → (type_depth t ≤ unit_depth v) × Fits (λ n. (rule (phrases n) n t).reads v xs ys) (unit_depth v) m

variables_fit : (m : ℕ) → Inner m → BehindType g.variables m
unfolding g.variables
variables_fit m inner t low v xs ys h =
    let p = h.3 in
    let f = items_fit m inner p.0 h.1 p.1 p.2 in
    let is : unit_depth v ≡ max (type_depth t) (deepest_of item_depth p.0) = rw p.3.0 (variables_depth (type_place t) t p.0) in
    (omega (arith, is), (omega (arith, is, low, f.0), λ n le. (h.0, h.1, h.2, (p.0, p.1, f.1 n (omega (arith, is, le)), p.3))))

behind_const_fits : (m : ℕ) → Inner m → BehindType g.constants m
unfolding g.constants
behind_const_fits m inner t low v xs ys h =
    let p = h.3 in
    let f = constants_fit m inner p.0 h.1 p.1 p.2 in
    let is : unit_depth v ≡ max (type_depth t) (deepest_of item_depth p.0) = rw p.3.0 (constants_depth (type_place t) t p.0) in
    (omega (arith, is), (omega (arith, is, low, f.0), λ n le. (h.0, h.1, h.2, (p.0, p.1, f.1 n (omega (arith, is, le)), p.3))))

pub declared_fits : (m : ℕ) → Inner m → BehindType g.declared m
unfolding g.declared
declared_fits m inner t low v xs ys h = elim h [
  | inl r ↦ let f = variables_fit m inner t low v xs ys r in (f.0, (f.1.0, λ n le. inl (f.1.1 n le)))
  | inr r ↦ let f = behind_const_fits m inner t low v xs ys r in (f.0, (f.1.0, λ n le. inr (f.1.1 n le)))
]

declaration_fits : (m : ℕ) → Inner m → FitsAt g.declaration unit_depth m
unfolding g.declaration
declaration_fits m inner v xs ys h =
    let t = (types_fit m h.0 xs h.1 h.2).1 in
    let d = declared_fits m inner h.0 t.0 v h.1 ys h.3 in
    (d.1.0, λ n le. (h.0, h.1, t.1 n (omega (arith, d.0, le)), d.1.1 n le))

bound_fits : (m : ℕ) → Inner m → FitsAt g.bound unit_depth m
unfolding g.bound
bound_fits m inner v xs ys h =
    let p = h.3.3 in
    let q = p.3 in
    let s = q.3 in
    let t = types_fit m p.0 h.3.1 p.1 p.2 in
    let f = items_fit m inner s.0 q.1 s.1 s.2 in
    let is : unit_depth v ≡ max (type_depth p.0) (deepest_of item_depth s.0) = rw s.3.0 (bound_depth h.3.0 p.0 s.0) in (
      omega (arith, is, t.1.0, f.0),
      λ n le. (
        h.0,
        h.1,
        (lt-ltb 0 n (omega (arith, is, t.0, le)), h.2.1),
        (h.3.0, h.3.1, h.3.2, (p.0, p.1, t.1.1 n (omega (arith, is, le)), (q.0, q.1, q.2, (s.0, s.1, f.1 n (omega (arith, is, le)), s.3)))),
      ),
    )

-- ---- statements

key_in : (m : ℕ) → Inner (suc m) → (x : Key) → FitsIn (λ inner n. g.key_part inner n x) (if_any expr_depth) m
unfolding g.key_part
key_in m inner x o xs ys h = elim h [
  | inl r ↦
      let p = r.2 in
      let f = expr_in m inner 6 r.0 p.1 r.1 p.3 in
      let is : if_any expr_depth o ≡ expr_depth r.0 = ap (if_any expr_depth) r.3.0 in
      (omega (arith, is, f.0), λ n le. inl (r.0, r.1, (p.0, p.1, p.2, f.1 n (omega (arith, is, le))), r.3))
  | inr r ↦
      let is : if_any expr_depth o ≡ 0 = ap (if_any expr_depth) r.0 in
      (omega (arith, is), λ n le. inr r)
]

assigned_step : (m : ℕ) → Inner m → (a : Expr) (v : Phrase) (xs ys : Tokens) → (g.assigned (phrases m) m a).reads v xs ys
    → (expr_depth a ≤ unit_depth v) × Fits (λ n. (g.assigned (phrases n) n a).reads v xs ys) (unit_depth v) m
unfolding g.assigned
assigned_step zero inner a v xs ys h = no_room (expr_depth a) h.2.0
assigned_step (suc m) inner a v xs ys h =
    let p = h.3.3 in
    let f = expr_in m inner 6 p.0 h.3.1 p.1 p.2 in
    let under = ltb-true (expr_depth a) (suc m) h.2.0 in
    let is : unit_depth v ≡ max (expr_depth a) (expr_depth p.0) + 1 = rw p.3.0 (becomes_depth (expr_place a) a p.0) in (
      omega (arith, is),
      lift (λ n. (g.assigned (phrases n) n a).reads v xs ys) (max (expr_depth a) (expr_depth p.0)) (unit_depth v) m is (
        omega (arith, under, f.0),
        λ n le. (h.0, h.1, (lt-ltb (expr_depth a) (suc n) (omega (arith, le)), h.2.1), (h.3.0, h.3.1, h.3.2, (p.0, p.1, f.1 n (omega (arith, le)), p.3))),
      ),
    )

statement_fits : (m : ℕ) → Inner m → FitsAt g.statement unit_depth m
unfolding g.statement
statement_fits m inner v xs ys h =
    let a = level_fits m inner 6 h.0 xs h.1 h.2 in
    elim h.3 [
      | inl r ↦
          let f = assigned_step m inner h.0 v h.1 ys r in
          (f.1.0, λ n le. (h.0, h.1, a.1 n (omega (arith, f.0, le)), inl (f.1.1 n le)))
      | inr r ↦
          let is : unit_depth v ≡ expr_depth h.0 = rw r.0 (value_depth h.0) in
          (omega (arith, is, a.0), λ n le. (h.0, h.1, a.1 n (omega (arith, is, le)), inr r))
    ]

leave_fits : (m : ℕ) → Inner m → FitsAt g.leave unit_depth m
unfolding g.leave
leave_fits zero inner v xs ys h = no_room 0 h.2.0
leave_fits (suc m) inner v xs ys h =
    let p = h.3.3 in
    let q = p.3 in
    let f = key_in m inner key.With q.0 p.1 q.1 q.2 in
    lift (λ n. (At g.leave n).reads v xs ys) (if_any expr_depth q.0) (unit_depth v) m (rw q.3.0 (leave_depth h.3.0 p.0 q.0))
    (f.0, λ n le. (h.0, h.1, (room n, h.2.1), (h.3.0, h.3.1, h.3.2, (p.0, p.1, p.2, (q.0, q.1, f.1 n le, q.3)))))

-- ---- loops

upto_in : (m : ℕ) → Inner (suc m) → FitsIn g.upto limit_depth m
unfolding g.upto
upto_in m inner l xs ys h =
    let p = h.2 in
    let f = expr_in m inner 6 h.0 p.1 h.1 p.3 in
    let is : limit_depth l ≡ expr_depth h.0 = rw h.3.0 (upto_depth h.0) in
    (omega (arith, is, f.0), λ n le. (h.0, h.1, (p.0, p.1, p.2, f.1 n (omega (arith, is, le))), h.3))

downto_in : (m : ℕ) → Inner (suc m) → FitsIn g.downto limit_depth m
unfolding g.downto
downto_in m inner l xs ys h =
    let p = h.2 in
    let f = expr_in m inner 6 h.0 p.1 h.1 p.3 in
    let is : limit_depth l ≡ expr_depth h.0 = rw h.3.0 (downto_depth h.0) in
    (omega (arith, is, f.0), λ n le. (h.0, h.1, (p.0, p.1, p.2, f.1 n (omega (arith, is, le))), h.3))

limit_in : (m : ℕ) → Inner (suc m) → FitsIn g.a_limit limit_depth m
unfolding g.a_limit
limit_in m inner l xs ys h = elim h [
  | inl r ↦ let f = upto_in m inner l xs ys r in (f.0, λ n le. inl (f.1 n le))
  | inr o ↦ elim o [
    | inl r ↦ let f = downto_in m inner l xs ys r in (f.0, λ n le. inr (inl (f.1 n le)))
    | inr r ↦
        let is : limit_depth l ≡ 0 = rw r.0 without_depth in
        (omega (arith, is), λ n le. inr (inr r))
  ]
]

counter_in : (m : ℕ) → Inner (suc m) → FitsIn g.counter (if_any counter_depth) m
unfolding g.counter
counter_in m inner c xs ys h =
    let p = h.3 in
    let q = p.3 in
    let f = key_in m inner key.From p.0 h.1 p.1 p.2 in
    let l = limit_in m inner q.0 p.1 q.1 q.2 in
    let is : if_any counter_depth c ≡ max (if_any expr_depth p.0) (limit_depth q.0) = rw q.3.0 (one_counter_depth h.0 p.0 q.0) in
    (omega (arith, is, f.0, l.0), λ n le. (h.0, h.1, h.2, (p.0, p.1, f.1 n (omega (arith, is, le)), (q.0, q.1, l.1 n (omega (arith, is, le)), q.3))))

abbrev parts_depth : LoopParts → ℕ
parts_depth p = max (deepest_of unit_depth p.units) (if_any expr_depth p.until)

parts_in : (m : ℕ) → Inner (suc m) → FitsIn g.turn_parts parts_depth m
unfolding g.turn_parts
parts_in m inner b xs ys h =
    let p = h.3 in
    let q = p.3 in
    let v = units_in m inner p.0 h.1 p.1 p.2 in
    let a = key_in m inner key.Until q.0 p.1 q.1 q.2 in
    let is : parts_depth b ≡ max (deepest_of unit_depth p.0) (if_any expr_depth q.0) = ap parts_depth q.3.3.0 in
    (omega (arith, is, v.0, a.0), λ n le. (h.0, h.1, h.2, (p.0, p.1, v.1 n (omega (arith, is, le)), (q.0, q.1, a.1 n (omega (arith, is, le)), q.3))))

-- a loop's parts, with what stands before them
record Turns (at : Option ℕ) (c : Option Counter) (w : Option Expr) (v : Phrase) (xs ys : Tokens) (m : ℕ) : Type 0 where
  depth : ℕ
  whole : unit_depth v ≡ depth + 1
  counter : if_any counter_depth c ≤ depth
  condition : if_any expr_depth w ≤ depth
  fits : Fits (λ n. (g.turns (phrases (suc n)) (suc n) at c w).reads v xs ys) depth m

turns_in : (m : ℕ) → Inner (suc m) → (at : Option ℕ) (c : Option Counter) (w : Option Expr) → if_any counter_depth c ≤ m → if_any expr_depth w ≤ m
    → (v : Phrase) (xs ys : Tokens) → (g.turns (phrases (suc m)) (suc m) at c w).reads v xs ys → Turns at c w v xs ys m
unfolding g.turns
turns_in m inner at c w lc lw v xs ys h =
    let f = parts_in m inner h.0 xs h.1 h.2 in
    record {
      depth = max (if_any counter_depth c) (max (if_any expr_depth w) (parts_depth h.0));
      whole = rw h.3.0 (loop_depth _ c w h.0.units h.0.until);
      counter = omega arith;
      condition = omega arith;
      fits = (omega (arith, f.0, lc, lw), λ n le. (h.0, h.1, f.1 n (omega (arith, le)), h.3));
    }

counted_fits : (m : ℕ) → Inner m → FitsAt g.counted unit_depth m
unfolding g.counted
counted_fits zero inner v xs ys h = no_room 0 h.2.0
counted_fits (suc m) inner v xs ys h =
    let p = h.3.3 in
    let q = p.3 in
    let c = counter_in m inner p.0 h.3.1 p.1 p.2 in
    let w = key_in m inner key.While q.0 p.1 q.1 q.2 in
    let t = turns_in m inner (Some h.3.0) p.0 q.0 c.0 w.0 v q.1 ys q.3 in
    lift (λ n. (At g.counted n).reads v xs ys) t.depth (unit_depth v) m t.whole (
      t.fits.0,
      λ n le. (
        h.0,
        h.1,
        (room n, h.2.1),
        (h.3.0, h.3.1, h.3.2, (p.0, p.1, c.1 n (omega (arith, t.counter, le)), (q.0, q.1, w.1 n (omega (arith, t.condition, le)), t.fits.1 n le))),
      ),
    )

guarded_fits : (m : ℕ) → Inner m → FitsAt g.guarded unit_depth m
unfolding g.guarded
guarded_fits zero inner v xs ys h = no_room 0 h.2.0
guarded_fits (suc m) inner v xs ys h =
    let p = h.3.3 in
    let w = expr_in m inner 6 p.0 h.3.1 p.1 p.2 in
    let t = turns_in m inner (Some h.3.0) None (Some p.0) (omega arith) w.0 v p.1 ys p.3 in
    lift (λ n. (At g.guarded n).reads v xs ys) t.depth (unit_depth v) m t.whole (
      t.fits.0,
      λ n le.
          (h.0, h.1, (room n, h.2.1), (h.3.0, h.3.1, h.3.2, (p.0, p.1, w.1 n (omega (arith, t.condition, le)), t.fits.1 n le))),
    )

repeated_fits : (m : ℕ) → Inner m → FitsAt g.repeated unit_depth m
unfolding g.repeated
repeated_fits zero inner v xs ys h = no_room 0 h.2.0
repeated_fits (suc m) inner v xs ys h =
    let t = turns_in m inner None None None (omega arith) (omega arith) v h.1 ys h.3 in
    lift (λ n. (At g.repeated n).reads v xs ys) t.depth (unit_depth v) m t.whole (t.fits.0, λ n le. (h.0, h.1, (room n, h.2.1), t.fits.1 n le))

-- ---- units

pub plain_fits : (m : ℕ) → Inner m → FitsAt g.plain unit_depth m
unfolding g.plain
plain_fits m inner v xs ys h = elim h [
  | inl r ↦ let f = let_fits m v xs ys r in (f.0, λ n le. inl (f.1 n le))
  | inr a ↦ elim a [
    | inl r ↦ let f = bound_fits m inner v xs ys r in (f.0, λ n le. inr (inl (f.1 n le)))
    | inr b ↦ elim b [
      | inl r ↦ let f = leave_fits m inner v xs ys r in (f.0, λ n le. inr (inr (inl (f.1 n le))))
      | inr c ↦ elim c [
        | inl r ↦ let f = counted_fits m inner v xs ys r in (f.0, λ n le. inr (inr (inr (inl (f.1 n le)))))
        | inr d ↦ elim d [
          | inl r ↦ let f = guarded_fits m inner v xs ys r in (f.0, λ n le. inr (inr (inr (inr (inl (f.1 n le))))))
          | inr e ↦ elim e [
            | inl r ↦ let f = repeated_fits m inner v xs ys r in (f.0, λ n le. inr (inr (inr (inr (inr (inl (f.1 n le)))))))
            | inr o ↦ elim o [
              | inl r ↦ let f = statement_fits m inner v xs ys r in (f.0, λ n le. inr (inr (inr (inr (inr (inr (inl (f.1 n le))))))))
              | inr r ↦
                  let is : unit_depth v ≡ 0 = rw r.0 empty_depth in
                  (omega (arith, is), λ n le. inr (inr (inr (inr (inr (inr (inr r)))))))
            ]
          ]
        ]
      ]
    ]
  ]
]

unit_fits : (m : ℕ) → Inner m → FitsAt g.unit unit_depth m
unfolding g.unit
unit_fits m inner v xs ys h = elim h [
  | inl r ↦ let f = declaration_fits m inner v xs ys r in (f.0, λ n le. inl (f.1 n le))
  | inr r ↦ let f = plain_fits m inner v xs ys r in (f.0, λ n le. inr (f.1 n le))
]

units_fit : (m : ℕ) → Inner m → FitsAt g.units (deepest_of unit_depth) m
unfolding g.units
units_fit m inner us xs ys h = (listed_fits (mark sign.Semicolon) (At g.unit) unit_depth m (unit_fits m inner) h.3.0 h.0 us xs h.1 ys h.2 h.3.1).1

pub phrases_fit : (m : ℕ) → Inner m
unfolding g.phrases
phrases_fit zero = record { level = λ i a xs ys h. absurd h; units = λ us xs ys h. absurd h }
phrases_fit (suc m) = record {
  level = λ i a xs ys h. lift (λ n. ((phrases n).level i).reads a xs ys) (expr_depth a) (expr_depth a + 1) m refl (level_fits m (phrases_fit m) i a xs ys h);
  units =
      λ us xs ys h. lift (λ n. (phrases n).units.reads us xs ys) (deepest_of unit_depth us) (deepest_of unit_depth us + 1) m refl
      (units_fit m (phrases_fit m) us xs ys h);
}
