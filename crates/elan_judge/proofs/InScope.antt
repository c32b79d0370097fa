-- All names in the units of a body are looked up in the scope of the body.
use Rattle.std.proofs.Common.{◌≡◌, ℤ, ℕ, Bool, true, false, if◌then◌else◌, List, [], ◌∷◌, ◌++◌, map, Option, Some, None, refl}
use Rattle.elan_tree.specs.declared.written_type.Name.{Name}
use Rattle.elan_tree.specs.declared.written_type.Constant.TheVariants as constants
use Rattle.elan_tree.specs.declared.written_type.LetItem.{LetItem}
use Rattle.elan_tree.specs.declared.written_type.LetItem.TheVariants as let_items
use Rattle.elan_tree.specs.declared.written_type.Label.{Label}
use Rattle.elan_tree.specs.declared.written_type.Label.TheVariants as label
use Rattle.elan_tree.specs.declared.phrase.Expr.{Expr}
use Rattle.elan_tree.specs.declared.phrase.Limit.{Limit}
use Rattle.elan_tree.specs.declared.phrase.Branch.{Branch}
use Rattle.elan_tree.specs.declared.phrase.Case.{Case}
use Rattle.elan_tree.specs.declared.phrase.Counter.{Counter}
use Rattle.elan_tree.specs.declared.phrase.Item.{Item}
use Rattle.elan_tree.specs.declared.phrase.Unit.{Unit as Statement}
use Rattle.elan_tree.specs.declared.phrase.Expr.TheOpen as t
use Rattle.elan_tree.specs.declared.phrase.Expr.TheOpen.{Expr-F, Limit-F, Unit-F, Branch-F, Case-F, Counter-F, Item-F}
use Rattle.elan_tree.specs.declared.phrase.Expr.TheFolds.{ind-Unit, map-Expr, map-Limit, map-Unit, map-Branch, map-Case, map-Counter, map-Item}
use Rattle.elan_tree.specs.declared.phrase.Expr.TheFolds.{fold-roll-Expr, fold-roll-Limit, fold-roll-Unit, fold-roll-Branch, fold-roll-Case}
use Rattle.elan_tree.specs.declared.phrase.Expr.TheFolds.{fold-roll-Counter, fold-roll-Item}
use Rattle.elan_scope.specs.declared.delivery.Delivery.{Delivery}
use Rattle.elan_scope.specs.declared.delivery.Delivery.TheVariants.{Open, Nothing, Of}
use Rattle.elan_scope.specs.declared.scope.Scope.{Scope}
use Rattle.elan_scope.specs.Phrase as form
use Rattle.elan_scope.specs.Phrase.{Form, plain, Phrase, phrase, Parts, none, part, all_of}
use Rattle.std.specs.Str.{bytes_eq}
use Rattle.elan_judge.specs.Below.value_rules.specs.Calls.{begin}
use Rattle.elan_judge.specs.Shape as shape
use Rattle.elan_judge.specs.walks.Steps as walk

abbrev fst : {A : Type 0} {B : A → Type 0} → (a : A) × B a → A
fst x = x.0

module _ (s : Scope) where
  abbrev pub Names : Form → Type 0
  Names (form.named u z x) = z ≡ s
  Names (plain (form.applied z sort x)) = z ≡ s
  Names (plain (form.start_name z x)) = z ≡ s
  Names (plain (form.declares z x)) = z ≡ s
  Names (plain (form.type_name z x)) = z ≡ s
  Names (plain (form.assignment z named)) = z ≡ s
  Names (form.leave z x) = z ≡ s
  Names (plain (form.heading z sort x ps r missing)) = ⊥
  Names (plain (form.body o r)) = ⊥
  Names (plain form.routine) = ⊥
  Names (plain (form.refinement o)) = ⊥
  Names (plain form.level) = ⊥
  Names _ = Unit {0}

  abbrev mutual
    pub InScope : Phrase → Type 0
    InScope (phrase at form ps) = Names form × AllIn ps

    pub AllIn : Parts → Type 0
    AllIn none = Unit {0}
    AllIn (part p ps) = InScope p × AllIn ps

  abbrev pub MayIn : Option Phrase → Type 0
  MayIn None = Unit {0}
  MayIn (Some p) = InScope p

  abbrev AllMay : List (Option Phrase) → Type 0
  AllMay [] = Unit {0}
  AllMay (u ∷ us) = MayIn u × AllMay us

  abbrev E : Expr → Type 0
  E e = InScope (shape.expr s e)

  abbrev L : Limit → Type 0
  L l = InScope (shape.limit s l).1

  abbrev U : Statement → Type 0
  U u = MayIn (shape.unit s u)

  abbrev PairIn : Phrase × Phrase → Type 0
  PairIn p = InScope p.0 × InScope p.1

  abbrev B : Branch → Type 0
  B b = PairIn (shape.branch s b)

  abbrev C : Case → Type 0
  C c = InScope (shape.case s c).1

  abbrev CounterIn : shape.Counted → Type 0
  CounterIn k = InScope k.0 × InScope k.1 × InScope k.2

  abbrev K : Counter → Type 0
  K k = CounterIn (shape.counter s k)

  abbrev I : Item → Type 0
  I i = InScope (shape.item s i)

  -- ---- lists

  exprs_in : (es : List ((e : Expr) × E e)) → AllIn (all_of (map (shape.expr s) (map fst es)))
  exprs_in [] = tt
  exprs_in (e ∷ es) = (e.1, exprs_in es)

  -- parts, and behind them those that may be left out
  append_in : (ps qs : List Phrase) → AllIn (all_of ps) → AllIn (all_of qs) → AllIn (all_of (ps ++ qs))
  append_in [] qs h g = g
  append_in (p ∷ ps) qs h g = (h.0, append_in ps qs h.1 g)

  branches_in : (bs : List ((b : Branch) × B b)) → AllIn (all_of (shape.branches (map (shape.branch s) (map fst bs))))
  branches_in [] = tt
  branches_in (b ∷ bs) = (b.1.0, (b.1.1, branches_in bs))

  items_in : (is : List ((i : Item) × I i)) → AllIn (all_of (map (shape.item s) (map fst is)))
  items_in [] = tt
  items_in (i ∷ is) = (i.1, items_in is)

  written_in : (u : Option Phrase) → MayIn u → InScope (shape.written u)
  written_in None h = (tt, tt)
  written_in (Some p) h = h

  role_in : (d : Delivery) (p : Phrase) → InScope p → InScope (shape.role d p)
  role_in Open p h = h
  role_in Nothing p h = (tt, (h, tt))
  role_in (Of t) p h = (tt, (h, tt))

  start_in : (p : Phrase) → InScope p → InScope (shape.as_start p)
  start_in (phrase at (plain (form.start may)) ps) h = h
  start_in p h = h

  second_in : (ps : List Phrase) → AllIn (all_of ps) → AllIn (all_of (shape.second_starts ps))
  second_in [] h = h
  second_in (p ∷ []) h = h
  second_in (p ∷ q ∷ ps) h = (h.0, (start_in q h.1.0, h.1.1))

  actuals_in : (x : List ℕ) (ps : List Phrase) → AllIn (all_of ps) → AllIn (all_of (shape.actuals x ps))
  actuals_in x ps h = by_name (bytes_eq x begin)
    where
      by_name : (b : Bool) → AllIn (all_of (if b then shape.second_starts ps else ps))
      by_name true = second_in ps h
      by_name false = h

  roles_in : (d : Delivery) (ps : List Phrase) → AllIn (all_of ps) → AllIn (all_of (shape.roles d ps))
  roles_in d [] h = tt
  roles_in d (p ∷ []) h = (role_in d p h.0, tt)
  roles_in d (p ∷ q ∷ ps) h = (role_in Nothing p h.0, roles_in d (q ∷ ps) h.1)

  filled_in : (us : List (Option Phrase)) → AllMay us → AllIn (all_of (shape.filled us))
  filled_in [] h = tt
  filled_in (None ∷ us) h = filled_in us h.1
  filled_in (Some p ∷ us) h = (h.0, filled_in us h.1)

  list_in : (d : Delivery) (us : List (Option Phrase)) → AllMay us → InScope (shape.units d us)
  list_in d us h = (tt, roles_in d (shape.filled us) (filled_in us h))

  all_may : (us : List ((u : Statement) × U u)) → AllMay (map (shape.unit s) (map fst us))
  all_may [] = tt
  all_may (u ∷ us) = (u.1, all_may us)

  units_in : (d : Delivery) (us : List ((u : Statement) × U u)) → InScope (shape.units d (map (shape.unit s) (map fst us)))
  units_in d us = list_in d (map (shape.unit s) (map fst us)) (all_may us)

  labels_in : (ns : List ℤ) (ls : List Label) → AllIn (all_of (shape.label_phrases s ns ls))
  labels_in ns [] = tt
  labels_in ns (label.Number at n ∷ ls) = ((tt, tt), labels_in (ns ++ n ∷ []) ls)
  labels_in ns (label.Named n ∷ ls) = ((tt, tt), labels_in (ns ++ shape.number s (label.Named n)) ls)

  arms_in : (ns : List ℤ) (cs : List ((c : Case) × C c)) → AllIn (all_of (shape.arms s ns (map (shape.case s) (map fst cs))))
  arms_in ns [] = tt
  arms_in ns (c ∷ cs) =
      let ls = (shape.case s c.0).0 in
      ((tt, labels_in ns ls), (c.1, arms_in (ns ++ walk.numbers s ls) cs))

  let_in : (i : LetItem) → InScope (shape.let_item s i)
  let_in (let_items.Constant n (constants.Number a z)) = (tt, ((refl, tt), ((tt, tt), tt)))
  let_in (let_items.Constant n (constants.Text a x)) = (tt, ((refl, tt), ((tt, tt), tt)))
  let_in (let_items.Constant n (constants.Truth a b)) = (tt, ((refl, tt), ((tt, tt), tt)))
  let_in (let_items.Abbreviation n of) = (refl, tt)

  lets_in : (is : List LetItem) → AllIn (all_of (map (shape.let_item s) is))
  lets_in [] = tt
  lets_in (i ∷ is) = (let_in i, lets_in is)

  -- ---- one layer

  abbrev Below : (Type 0 → Type 0 → Type 0 → Type 0 → Type 0 → Type 0 → Type 0 → Type 0) → Type 0
  Below F = F ((e : Expr) × E e) ((l : Limit) × L l) ((u : Statement) × U u) ((b : Branch) × B b) ((c : Case) × C c) ((k : Counter) × K k) ((i : Item) × I i)

  expr_in : (y : Below Expr-F)
      → InScope (shape.expr_step s
      (map-Expr _ _ _ _ _ _ _ _ _ _ _ _ _ _ (shape.expr s) (shape.limit s) (shape.unit s) (shape.branch s) (shape.case s) (shape.counter s) (shape.item s)
      (map-Expr _ _ _ _ _ _ _ _ _ _ _ _ _ _ fst fst fst fst fst fst fst y)))
  expr_in (t.Number at n) = (tt, tt)
  expr_in (t.Text at x) = (tt, tt)
  expr_in (t.Truth at b) = (tt, tt)
  expr_in (t.Named n) = (refl, tt)
  expr_in (t.Call n actuals) = (refl, actuals_in n.text (map (shape.expr s) (map fst actuals)) (exprs_in actuals))
  expr_in (t.Procedure at n) = (tt, ((refl, tt), tt))
  expr_in (t.Concr at a) = (tt, (a.1, tt))
  expr_in (t.Bracket at a) = (tt, (a.1, tt))
  expr_in (t.If at branches None) =
      (tt, append_in (shape.branches (map (shape.branch s) (map fst branches))) (form.leaf 0 form.absent ∷ []) (branches_in branches) ((tt, tt), tt))
  expr_in (t.If at branches (Some us)) = (
    tt,
    append_in (shape.branches (map (shape.branch s) (map fst branches))) (shape.units Open (map (shape.unit s) (map fst us)) ∷ []) (branches_in branches)
        (units_in Open us, tt),
  )
  expr_in (t.Select at of cases None) =
      (tt, (of.1, append_in (shape.arms s [] (map (shape.case s) (map fst cases))) (form.leaf 0 form.absent ∷ []) (arms_in [] cases) ((tt, tt), tt)))
  expr_in (t.Select at of cases (Some us)) = (
    tt,
    (
      of.1,
      append_in (shape.arms s [] (map (shape.case s) (map fst cases))) (shape.units Open (map (shape.unit s) (map fst us)) ∷ []) (arms_in [] cases)
          (units_in Open us, tt),
    ),
  )
  expr_in (t.Index at of index) = (tt, (of.1, (index.1, tt)))
  expr_in (t.Field at of field) = (tt, (of.1, tt))
  expr_in (t.Monadic at o a) = (refl, (a.1, tt))
  expr_in (t.Dyadic at o a b) = (refl, (a.1, (b.1, tt)))
  expr_in (t.Cand at a b) = (tt, (a.1, (b.1, tt)))
  expr_in (t.Cor at a b) = (tt, (a.1, (b.1, tt)))

  limit_in : (y : Below Limit-F)
      → InScope (shape.limit_step s
      (map-Limit _ _ _ _ _ _ _ _ _ _ _ _ _ _ (shape.expr s) (shape.limit s) (shape.unit s) (shape.branch s) (shape.case s) (shape.counter s) (shape.item s)
      (map-Limit _ _ _ _ _ _ _ _ _ _ _ _ _ _ fst fst fst fst fst fst fst y))).1
  limit_in t.Without = (tt, tt)
  limit_in (t.Upto a) = a.1
  limit_in (t.Downto a) = a.1

  abbrev absent : Phrase
  absent = form.leaf 0 form.absent

  abbrev MayCount : Option shape.Counted → Type 0
  MayCount None = Unit {0}
  MayCount (Some k) = CounterIn k

  loop_in : (at : ℕ) (k : Option shape.Counted) (c : Phrase) (us : List ((u : Statement) × U u)) (v : Phrase) → MayCount k → InScope c → InScope v
      → InScope (shape.loop at k c (shape.units Nothing (map (shape.unit s) (map fst us))) v)
  loop_in at None c us v hk hc hv = (tt, (hc, (units_in Nothing us, (hv, tt))))
  loop_in at (Some k) c us v hk hc hv = (tt, (hk.0, (hk.1, (hk.2, (hc, (units_in Nothing us, (hv, tt)))))))

  unit_in_layer : (y : Below Unit-F)
      → MayIn (shape.unit_step s
      (map-Unit _ _ _ _ _ _ _ _ _ _ _ _ _ _ (shape.expr s) (shape.limit s) (shape.unit s) (shape.branch s) (shape.case s) (shape.counter s) (shape.item s)
      (map-Unit _ _ _ _ _ _ _ _ _ _ _ _ _ _ fst fst fst fst fst fst fst y)))
  unit_in_layer t.Empty = tt
  unit_in_layer (t.Let at items) = (tt, lets_in items)
  unit_in_layer (t.Variables at of items) = (tt, items_in items)
  unit_in_layer (t.Constants at of items) = (tt, items_in items)
  unit_in_layer (t.Bound at of items) = (tt, items_in items)
  unit_in_layer (t.Value a) = (tt, (a.1, tt))
  unit_in_layer (t.Becomes at a b) = (refl, (a.1, (b.1, tt)))
  unit_in_layer (t.Loop at None None us None) = loop_in at None absent us absent tt (tt, tt) (tt, tt)
  unit_in_layer (t.Loop at None None us (Some v)) = loop_in at None absent us (shape.expr s v.0) tt (tt, tt) v.1
  unit_in_layer (t.Loop at None (Some c) us None) = loop_in at None (shape.expr s c.0) us absent tt c.1 (tt, tt)
  unit_in_layer (t.Loop at None (Some c) us (Some v)) = loop_in at None (shape.expr s c.0) us (shape.expr s v.0) tt c.1 v.1
  unit_in_layer (t.Loop at (Some k) None us None) = loop_in at (Some (shape.counter s k.0)) absent us absent k.1 (tt, tt) (tt, tt)
  unit_in_layer (t.Loop at (Some k) None us (Some v)) = loop_in at (Some (shape.counter s k.0)) absent us (shape.expr s v.0) k.1 (tt, tt) v.1
  unit_in_layer (t.Loop at (Some k) (Some c) us None) = loop_in at (Some (shape.counter s k.0)) (shape.expr s c.0) us absent k.1 c.1 (tt, tt)
  unit_in_layer (t.Loop at (Some k) (Some c) us (Some v)) = loop_in at (Some (shape.counter s k.0)) (shape.expr s c.0) us (shape.expr s v.0) k.1 c.1 v.1
  unit_in_layer (t.Leave at n None) = (refl, ((tt, tt), tt))
  unit_in_layer (t.Leave at n (Some v)) = (refl, (v.1, tt))

  branch_in : (y : Below Branch-F)
      → PairIn (shape.branch_step s
      (map-Branch _ _ _ _ _ _ _ _ _ _ _ _ _ _ (shape.expr s) (shape.limit s) (shape.unit s) (shape.branch s) (shape.case s) (shape.counter s) (shape.item s)
      (map-Branch _ _ _ _ _ _ _ _ _ _ _ _ _ _ fst fst fst fst fst fst fst y)))
  branch_in y = (y.condition.1, units_in Open y.units)

  case_in : (y : Below Case-F)
      → InScope (shape.case_step s
      (map-Case _ _ _ _ _ _ _ _ _ _ _ _ _ _ (shape.expr s) (shape.limit s) (shape.unit s) (shape.branch s) (shape.case s) (shape.counter s) (shape.item s)
      (map-Case _ _ _ _ _ _ _ _ _ _ _ _ _ _ fst fst fst fst fst fst fst y))).1
  case_in y = units_in Open y.units

  abbrev counter_with : Name → Option ((e : Expr) × E e) → (l : Limit) × L l → Below Counter-F
  counter_with n from l = record { name = n; from = from; limit = l }

  counter_of : (n : Name) (from : Option ((e : Expr) × E e)) (l : (l : Limit) × L l)
      → CounterIn (shape.counter_step s
      (map-Counter _ _ _ _ _ _ _ _ _ _ _ _ _ _ (shape.expr s) (shape.limit s) (shape.unit s) (shape.branch s) (shape.case s) (shape.counter s) (shape.item s)
      (map-Counter _ _ _ _ _ _ _ _ _ _ _ _ _ _ fst fst fst fst fst fst fst (counter_with n from l))))
  counter_of n None l = ((refl, tt), (tt, tt), l.1)
  counter_of n (Some e) l = ((refl, tt), e.1, l.1)

  counter_in : (y : Below Counter-F)
      → CounterIn (shape.counter_step s
      (map-Counter _ _ _ _ _ _ _ _ _ _ _ _ _ _ (shape.expr s) (shape.limit s) (shape.unit s) (shape.branch s) (shape.case s) (shape.counter s) (shape.item s)
      (map-Counter _ _ _ _ _ _ _ _ _ _ _ _ _ _ fst fst fst fst fst fst fst y)))
  counter_in y = counter_of y.name y.from y.limit

  abbrev item_with : Name → Option ((e : Expr) × E e) → Below Item-F
  item_with n init = record { name = n; init = init }

  item_of : (n : Name) (init : Option ((e : Expr) × E e))
      → InScope (shape.item_step s
      (map-Item _ _ _ _ _ _ _ _ _ _ _ _ _ _ (shape.expr s) (shape.limit s) (shape.unit s) (shape.branch s) (shape.case s) (shape.counter s) (shape.item s)
      (map-Item _ _ _ _ _ _ _ _ _ _ _ _ _ _ fst fst fst fst fst fst fst (item_with n init))))
  item_of n None = (refl, tt)
  item_of n (Some e) = (tt, ((refl, tt), (e.1, tt)))

  item_in : (y : Below Item-F)
      → InScope (shape.item_step s
      (map-Item _ _ _ _ _ _ _ _ _ _ _ _ _ _ (shape.expr s) (shape.limit s) (shape.unit s) (shape.branch s) (shape.case s) (shape.counter s) (shape.item s)
      (map-Item _ _ _ _ _ _ _ _ _ _ _ _ _ _ fst fst fst fst fst fst fst y)))
  item_in y = item_of y.name y.init

  -- ---- all of them

  unit_in : (u : Statement) → U u
  unit_in = ind-Unit E L U B C K I
      (λ x y is. rw (fold-roll-Expr, ← is) (expr_in y))
      (λ x y is. rw (fold-roll-Limit, ← is) (limit_in y))
      (λ x y is. rw (fold-roll-Unit, ← is) (unit_in_layer y))
      (λ x y is. rw (fold-roll-Branch, ← is) (branch_in y))
      (λ x y is. rw (fold-roll-Case, ← is) (case_in y))
      (λ x y is. rw (fold-roll-Counter, ← is) (counter_in y))
      (λ x y is. rw (fold-roll-Item, ← is) (item_in y))

  pub statement_in : (d : Delivery) (u : Statement) → InScope (shape.role d (shape.written (shape.unit s u)))
  statement_in d u = role_in d (shape.written (shape.unit s u)) (written_in (shape.unit s u) (unit_in u))

  statements_in : (us : List Statement) → AllMay (map (shape.unit s) us)
  statements_in [] = tt
  statements_in (u ∷ us) = (unit_in u, statements_in us)

  -- the units of a body
  pub body_units_in : (d : Delivery) (us : List Statement) → InScope (shape.units d (map (shape.unit s) us))
  body_units_in d us = list_in d (map (shape.unit s) us) (statements_in us)
