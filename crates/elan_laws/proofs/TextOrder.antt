-- The phrases of expressions and units stand in text order.
use Rattle.std.proofs.Common.{◌≡◌, ℤ, ℕ, Bool, true, false, if◌then◌else◌, List, [], ◌∷◌, ◌++◌, map, Option, Some, None, refl, sym, ap, subst, ◌∙◌, append_assoc}
use Rattle.std.proofs.lemmas.List.{append-nil}
use Rattle.elan_tree.specs.declared.written_type.Name.{Name}
use Rattle.elan_tree.specs.declared.written_type.Constant.TheVariants as constants
use Rattle.elan_tree.specs.declared.written_type.LetItem.{LetItem}
use Rattle.elan_tree.specs.declared.written_type.LetItem.TheVariants as let_items
use Rattle.elan_tree.specs.declared.written_type.Label.{Label}
use Rattle.elan_tree.specs.declared.written_type.Label.TheVariants as label
use Rattle.elan_tree.specs.declared.phrase.Expr.{Expr}
use Rattle.elan_tree.specs.declared.phrase.Limit.{Limit}
use Rattle.elan_tree.specs.declared.phrase.Branch.{Branch}
use Rattle.elan_tree.specs.declared.phrase.Case.{Case}
use Rattle.elan_tree.specs.declared.phrase.Counter.{Counter}
use Rattle.elan_tree.specs.declared.phrase.Item.{Item}
use Rattle.elan_tree.specs.declared.phrase.Unit.{Unit as Statement}
use Rattle.elan_tree.specs.declared.phrase.Expr.TheOpen as t
use Rattle.elan_tree.specs.declared.phrase.Expr.TheOpen.{Expr-F, Limit-F, Unit-F, Branch-F, Case-F, Counter-F, Item-F}
use Rattle.elan_tree.specs.declared.phrase.Expr.TheFolds.{ind-Unit, map-Expr, map-Limit, map-Unit, map-Branch, map-Case, map-Counter, map-Item}
use Rattle.elan_tree.specs.declared.phrase.Expr.TheFolds.{fold-roll-Expr, fold-roll-Limit, fold-roll-Unit, fold-roll-Branch, fold-roll-Case}
use Rattle.elan_tree.specs.declared.phrase.Expr.TheFolds.{fold-roll-Counter, fold-roll-Item}
use Rattle.elan_laws.specs.Below.elan_scope.specs.declared.delivery.Delivery.{Delivery}
use Rattle.elan_laws.specs.Below.elan_scope.specs.declared.delivery.Delivery.TheVariants.{Open, Nothing, Of}
use Rattle.elan_laws.specs.Below.elan_scope.specs.declared.scope.Scope.{Scope}
use Rattle.elan_laws.specs.Below.elan_scope.specs.Phrase as form
use Rattle.elan_laws.specs.Below.elan_scope.specs.Phrase.{plain, Phrase, phrase, all_of}
use Rattle.std.specs.Str.{bytes_eq}
use Rattle.elan_laws.specs.Below.value_rules.specs.Calls.{begin}
use Rattle.elan_laws.specs.Below.elan_judge.specs.Shape as shape
use Rattle.elan_laws.specs.Below.elan_judge.specs.walks.Steps as walk
use Rattle.elan_laws.specs.Places as at
use Rattle.elan_laws.specs.Order.{Follows, IsSame, in_phrase, in_parts}
use Rattle.elan_laws.proofs.Through.{both, same, twice, nothing, equal, later, without_first}

abbrev fst : {A : Type 0} {B : A → Type 0} → (a : A) × B a → A
fst x = x.0

-- the places of parts are those of each part, one behind the other
abbrev pub places_of : List Phrase → List ℕ
places_of ps = in_parts (all_of ps)

pub parts_append : (ps qs : List Phrase) → places_of (ps ++ qs) ≡ places_of ps ++ places_of qs
parts_append [] qs = refl
parts_append (p ∷ ps) qs =
    ap (λ (l : List ℕ). in_phrase p ++ l) (parts_append ps qs) ∙ sym (append_assoc (in_phrase p) (places_of ps) (places_of qs))

pub parts_follow : (ps qs : List Phrase) {ns ms : List ℕ} → IsSame (places_of ps) ns → IsSame (places_of qs) ms → IsSame (places_of (ps ++ qs)) (ns ++ ms)
parts_follow ps qs {ns} {ms} h k = subst (λ (l : List ℕ). IsSame l (ns ++ ms)) (sym (parts_append ps qs)) (both h k)

pub one_part : (p : Phrase) {ns : List ℕ} → IsSame (in_phrase p) ns → IsSame (in_phrase p ++ []) ns
one_part p {ns} h = subst (λ (l : List ℕ). IsSame l ns) (sym (append-nil (in_phrase p))) h

pub two_parts : (p q : Phrase) {ns ms : List ℕ} → IsSame (in_phrase p) ns → IsSame (in_phrase q) ms
    → IsSame (in_phrase p ++ (in_phrase q ++ [])) (ns ++ ms)
two_parts p q h k = both h (one_part q k)

-- A unit's place can be told once more before it.
abbrev Starts : Phrase → List ℕ → Type 0
Starts p ns = Follows (form.place p ∷ in_phrase p) ns × Follows ns (in_phrase p)

pub whole : (p : Phrase) {ns : List ℕ} → Starts p ns → IsSame (in_phrase p) ns
whole p h = record { to = without_first h.0; back = h.1 }

-- An empty unit has no place.
abbrev MayStart : Option Phrase → List ℕ → Type 0
MayStart None ns = ns ≡ []
MayStart (Some p) ns = Starts p ns

-- ---- lists of units

pub empty : {ns : List ℕ} → ns ≡ [] → IsSame [] ns
empty e = subst (IsSame []) (sym e) nothing

role_follows : (d : Delivery) (p : Phrase) {ns : List ℕ} → Starts p ns → IsSame (in_phrase (shape.role d p)) ns
role_follows Open p h = whole p h
role_follows Nothing p h = one_part p (whole p h)
role_follows (Of t) p {ns} h =
    subst (λ (l : List ℕ). IsSame (form.place p ∷ l) ns) (sym (append-nil (in_phrase p))) (record { to = h.0; back = later (form.place p) h.1 })

-- units, each of which may be empty, and the places of each
abbrev AllStart : List (Option Phrase) → List (List ℕ) → Type 0
AllStart [] [] = Unit {0}
AllStart [] (ns ∷ rest) = ⊥
AllStart (u ∷ us) [] = ⊥
AllStart (u ∷ us) (ns ∷ rest) = MayStart u ns × AllStart us rest

abbrev EachStarts : List Phrase → List ℕ → Type 0
EachStarts [] ns = ns ≡ []
EachStarts (p ∷ ps) ns = (ms : List ℕ) × (ks : List ℕ) × (ns ≡ ms ++ ks) × Starts p ms × EachStarts ps ks

filled_start : (us : List (Option Phrase)) (rest : List (List ℕ)) → AllStart us rest → EachStarts (shape.filled us) (at.all rest)
filled_start [] [] h = refl
filled_start [] (ns ∷ rest) h = absurd h
filled_start (u ∷ us) [] h = absurd h
filled_start (None ∷ us) (ns ∷ rest) h =
    subst (λ (l : List ℕ). EachStarts (shape.filled us) (l ++ at.all rest)) (sym h.0) (filled_start us rest h.1)
filled_start (Some p ∷ us) (ns ∷ rest) h = (ns, at.all rest, refl, h.0, filled_start us rest h.1)

roles_follow : (d : Delivery) (ps : List Phrase) (ns : List ℕ) → EachStarts ps ns → IsSame (places_of (shape.roles d ps)) ns
roles_follow d [] ns h = empty h
roles_follow d (p ∷ []) ns h = subst (IsSame (in_phrase (shape.role d p) ++ [])) (sym h.2) (both (role_follows d p h.3) (empty h.4))
roles_follow d (p ∷ q ∷ ps) ns h =
    subst (IsSame (in_phrase (shape.role Nothing p) ++ places_of (shape.roles d (q ∷ ps)))) (sym h.2)
    (both (role_follows Nothing p h.3) (roles_follow d (q ∷ ps) h.1 h.4))

list_follows : (d : Delivery) (us : List (Option Phrase)) (rest : List (List ℕ)) → AllStart us rest → IsSame (in_phrase (shape.units d us)) (at.all rest)
list_follows d us rest h = roles_follow d (shape.filled us) (at.all rest) (filled_start us rest h)

-- PROC has its place wherever it may stand
start_places : (p : Phrase) → in_phrase (shape.as_start p) ≡ in_phrase p
start_places (phrase at (plain (form.start may)) ps) = refl
start_places p = refl

actuals_places : (x : List ℕ) (ps : List Phrase) → places_of (shape.actuals x ps) ≡ places_of ps
actuals_places x ps = by_name (bytes_eq x begin)
  where
    second : (qs : List Phrase) → places_of (shape.second_starts qs) ≡ places_of qs
    second [] = refl
    second (p ∷ []) = refl
    second (p ∷ q ∷ qs) = ap (λ (l : List ℕ). in_phrase p ++ (l ++ places_of qs)) (start_places q)

    by_name : (b : Bool) → places_of (if b then shape.second_starts ps else ps) ≡ places_of ps
    by_name true = second ps
    by_name false = refl

module _ (s : Scope) where
  abbrev E : Expr → Type 0
  E e = Starts (shape.expr s e) (at.in_expr e)

  abbrev L : Limit → Type 0
  L l = IsSame (in_phrase (shape.limit s l).1) (at.in_limit l)

  abbrev U : Statement → Type 0
  U u = MayStart (shape.unit s u) (at.in_unit u)

  abbrev PairSame : Phrase × Phrase → List ℕ → Type 0
  PairSame p ns = IsSame (in_phrase p.0 ++ in_phrase p.1) ns

  abbrev B : Branch → Type 0
  B b = PairSame (shape.branch s b) (at.in_branch b)

  abbrev ArmSame : List Label × Phrase → List ℕ → Type 0
  ArmSame c ns = IsSame (at.all_labels c.0 ++ in_phrase c.1) ns

  abbrev C : Case → Type 0
  C c = ArmSame (shape.case s c) (at.in_case c)

  abbrev CounterSame : shape.Counted → List ℕ → Type 0
  CounterSame k ns = IsSame (places_of (k.0 ∷ k.1 ∷ k.2 ∷ [])) ns

  abbrev K : Counter → Type 0
  K k = CounterSame (shape.counter s k) (at.in_counter k)

  abbrev I : Item → Type 0
  I i = IsSame (in_phrase (shape.item s i)) (at.in_item i)

  -- ---- lists

  exprs_follow : (es : List ((e : Expr) × E e)) → IsSame (places_of (map (shape.expr s) (map fst es))) (at.all (map at.in_expr (map fst es)))
  exprs_follow [] = nothing
  exprs_follow (e ∷ es) = both (whole (shape.expr s e.0) e.1) (exprs_follow es)

  branches_follow : (bs : List ((b : Branch) × B b))
      → IsSame (places_of (shape.branches (map (shape.branch s) (map fst bs)))) (at.all (map at.in_branch (map fst bs)))
  branches_follow [] = nothing
  branches_follow (b ∷ bs) =
      let p = shape.branch s b.0 in
      subst (λ (l : List ℕ). IsSame l (at.in_branch b.0 ++ at.all (map at.in_branch (map fst bs))))
      (append_assoc (in_phrase p.0) (in_phrase p.1) (places_of (shape.branches (map (shape.branch s) (map fst bs)))))
      (both b.1 (branches_follow bs))

  items_follow : (is : List ((i : Item) × I i)) → IsSame (places_of (map (shape.item s) (map fst is))) (at.all (map at.in_item (map fst is)))
  items_follow [] = nothing
  items_follow (i ∷ is) = both i.1 (items_follow is)

  all_start : (us : List ((u : Statement) × U u)) → AllStart (map (shape.unit s) (map fst us)) (map at.in_unit (map fst us))
  all_start [] = tt
  all_start (u ∷ us) = (u.1, all_start us)

  units_follow : (d : Delivery) (us : List ((u : Statement) × U u))
      → IsSame (in_phrase (shape.units d (map (shape.unit s) (map fst us)))) (at.all (map at.in_unit (map fst us)))
  units_follow d us = list_follows d (map (shape.unit s) (map fst us)) (map at.in_unit (map fst us)) (all_start us)

  labels_are : (ns : List ℤ) (ls : List Label) → places_of (shape.label_phrases s ns ls) ≡ at.all_labels ls
  labels_are ns [] = refl
  labels_are ns (label.Number a n ∷ ls) = ap (λ (l : List ℕ). a ∷ l) (labels_are (ns ++ n ∷ []) ls)
  labels_are ns (label.Named n ∷ ls) = ap (λ (l : List ℕ). n.at ∷ l) (labels_are (ns ++ shape.number s (label.Named n)) ls)

  arms_follow : (ns : List ℤ) (cs : List ((c : Case) × C c))
      → IsSame (places_of (shape.arms s ns (map (shape.case s) (map fst cs)))) (at.all (map at.in_case (map fst cs)))
  arms_follow ns [] = nothing
  arms_follow ns (c ∷ cs) =
      let a = shape.case s c.0 in
      let rest = places_of (shape.arms s (ns ++ walk.numbers s a.0) (map (shape.case s) (map fst cs))) in
      let all = at.in_case c.0 ++ at.all (map at.in_case (map fst cs)) in
      subst (λ (l : List ℕ). IsSame (l ++ (in_phrase a.1 ++ rest)) all) (sym (labels_are ns a.0))
      (subst (λ (l : List ℕ). IsSame l all) (append_assoc (at.all_labels a.0) (in_phrase a.1) rest)
      (both c.1 (arms_follow (ns ++ walk.numbers s a.0) cs)))

  let_follows : (i : LetItem) → IsSame (in_phrase (shape.let_item s i)) (at.let_item i)
  let_follows (let_items.Constant n (constants.Number a z)) = twice n.at (equal (a ∷ []))
  let_follows (let_items.Constant n (constants.Text a x)) = twice n.at (equal (a ∷ []))
  let_follows (let_items.Constant n (constants.Truth a b)) = twice n.at (equal (a ∷ []))
  let_follows (let_items.Abbreviation n of) = equal (n.at ∷ [])

  lets_follow : (is : List LetItem) → IsSame (places_of (map (shape.let_item s) is)) (at.all (map at.let_item is))
  lets_follow [] = nothing
  lets_follow (i ∷ is) = both (let_follows i) (lets_follow is)

  -- ---- one layer

  abbrev Below : (Type 0 → Type 0 → Type 0 → Type 0 → Type 0 → Type 0 → Type 0 → Type 0) → Type 0
  Below F = F ((e : Expr) × E e) ((l : Limit) × L l) ((u : Statement) × U u) ((b : Branch) × B b) ((c : Case) × C c) ((k : Counter) × K k) ((i : Item) × I i)

  abbrev ExprLayer : Below Expr-F → Type 0
  ExprLayer y = Starts
      (shape.expr_step s (map-Expr _ _ _ _ _ _ _ _ _ _ _ _ _ _
      (shape.expr s) (shape.limit s) (shape.unit s) (shape.branch s) (shape.case s) (shape.counter s) (shape.item s)
      (map-Expr _ _ _ _ _ _ _ _ _ _ _ _ _ _ fst fst fst fst fst fst fst y)))
      (at.expr_step (map-Expr _ _ _ _ _ _ _ _ _ _ _ _ _ _
      at.in_expr at.in_limit at.in_unit at.in_branch at.in_case at.in_counter at.in_item
      (map-Expr _ _ _ _ _ _ _ _ _ _ _ _ _ _ fst fst fst fst fst fst fst y)))

  -- a phrase that has a place of its own, and its parts
  placed : (a : ℕ) {xs ys : List ℕ} → IsSame xs ys → Follows (a ∷ a ∷ xs) (a ∷ ys) × Follows (a ∷ ys) (a ∷ xs)
  placed a h = let double = twice a h in let single = same a h in (double.to, single.back)

  expr_starts : (y : Below Expr-F) → ExprLayer y
  expr_starts (t.Number a n) = placed a nothing
  expr_starts (t.Text a x) = placed a nothing
  expr_starts (t.Truth a b) = placed a nothing
  expr_starts (t.Named n) = placed n.at nothing
  expr_starts (t.Call n actuals) =
      let all = at.all (map at.in_expr (map fst actuals)) in
      placed n.at (subst (λ (l : List ℕ). IsSame l all) (sym (actuals_places n.text (map (shape.expr s) (map fst actuals)))) (exprs_follow actuals))
  expr_starts (t.Procedure a n) = placed a (equal (n.at ∷ []))
  expr_starts (t.Concr a b) = placed a (one_part (shape.expr s b.0) (whole (shape.expr s b.0) b.1))
  expr_starts (t.Bracket a b) = placed a (one_part (shape.expr s b.0) (whole (shape.expr s b.0) b.1))
  expr_starts (t.If a branches None) =
      placed a (parts_follow (shape.branches (map (shape.branch s) (map fst branches))) (form.leaf 0 form.absent ∷ []) (branches_follow branches) nothing)
  expr_starts (t.If a branches (Some us)) =
      placed a
      (parts_follow (shape.branches (map (shape.branch s) (map fst branches))) (shape.units Open (map (shape.unit s) (map fst us)) ∷ [])
      (branches_follow branches) (one_part (shape.units Open (map (shape.unit s) (map fst us))) (units_follow Open us)))
  expr_starts (t.Select a of cases None) =
      placed a
      (both (whole (shape.expr s of.0) of.1)
      (parts_follow (shape.arms s [] (map (shape.case s) (map fst cases))) (form.leaf 0 form.absent ∷ []) (arms_follow [] cases) nothing))
  expr_starts (t.Select a of cases (Some us)) =
      placed a
      (both (whole (shape.expr s of.0) of.1)
      (parts_follow (shape.arms s [] (map (shape.case s) (map fst cases))) (shape.units Open (map (shape.unit s) (map fst us)) ∷ []) (arms_follow [] cases)
      (one_part (shape.units Open (map (shape.unit s) (map fst us))) (units_follow Open us))))
  expr_starts (t.Index a b c) = placed a (two_parts (shape.expr s b.0) (shape.expr s c.0) (whole (shape.expr s b.0) b.1) (whole (shape.expr s c.0) c.1))
  expr_starts (t.Field a b x) = placed a (one_part (shape.expr s b.0) (whole (shape.expr s b.0) b.1))
  expr_starts (t.Monadic a o b) = placed a (one_part (shape.expr s b.0) (whole (shape.expr s b.0) b.1))
  expr_starts (t.Dyadic a o b c) = placed a (two_parts (shape.expr s b.0) (shape.expr s c.0) (whole (shape.expr s b.0) b.1) (whole (shape.expr s c.0) c.1))
  expr_starts (t.Cand a b c) = placed a (two_parts (shape.expr s b.0) (shape.expr s c.0) (whole (shape.expr s b.0) b.1) (whole (shape.expr s c.0) c.1))
  expr_starts (t.Cor a b c) = placed a (two_parts (shape.expr s b.0) (shape.expr s c.0) (whole (shape.expr s b.0) b.1) (whole (shape.expr s c.0) c.1))

  abbrev LimitLayer : Below Limit-F → Type 0
  LimitLayer y = IsSame
      (in_phrase (shape.limit_step s (map-Limit _ _ _ _ _ _ _ _ _ _ _ _ _ _
      (shape.expr s) (shape.limit s) (shape.unit s) (shape.branch s) (shape.case s) (shape.counter s) (shape.item s)
      (map-Limit _ _ _ _ _ _ _ _ _ _ _ _ _ _ fst fst fst fst fst fst fst y))).1)
      (at.limit_step (map-Limit _ _ _ _ _ _ _ _ _ _ _ _ _ _
      at.in_expr at.in_limit at.in_unit at.in_branch at.in_case at.in_counter at.in_item
      (map-Limit _ _ _ _ _ _ _ _ _ _ _ _ _ _ fst fst fst fst fst fst fst y)))

  limit_follows : (y : Below Limit-F) → LimitLayer y
  limit_follows t.Without = nothing
  limit_follows (t.Upto a) = whole (shape.expr s a.0) a.1
  limit_follows (t.Downto a) = whole (shape.expr s a.0) a.1

  -- a condition that may be left out, and its places
  abbrev May : Option ((e : Expr) × E e) → Phrase
  May None = form.leaf 0 form.absent
  May (Some e) = shape.expr s e.0

  abbrev may_places : Option ((e : Expr) × E e) → List ℕ
  may_places None = []
  may_places (Some e) = at.in_expr e.0

  may_follow : (o : Option ((e : Expr) × E e)) → IsSame (in_phrase (May o)) (may_places o)
  may_follow None = nothing
  may_follow (Some e) = whole (shape.expr s e.0) e.1

  abbrev Counting : Option ((k : Counter) × K k) → List Phrase
  Counting None = []
  Counting (Some k) = let c = shape.counter s k.0 in c.0 ∷ c.1 ∷ c.2 ∷ []

  abbrev count_places : Option ((k : Counter) × K k) → List ℕ
  count_places None = []
  count_places (Some k) = at.in_counter k.0

  count_follows : (o : Option ((k : Counter) × K k)) → IsSame (places_of (Counting o)) (count_places o)
  count_follows None = nothing
  count_follows (Some k) = k.1

  loop_follows : (k : Option ((k : Counter) × K k)) (c : Option ((e : Expr) × E e)) (us : List ((u : Statement) × U u)) (v : Option ((e : Expr) × E e))
      → IsSame (places_of (Counting k ++ May c ∷ shape.units Nothing (map (shape.unit s) (map fst us)) ∷ May v ∷ []))
      (count_places k ++ (may_places c ++ (at.all (map at.in_unit (map fst us)) ++ may_places v)))
  loop_follows k c us v =
      parts_follow (Counting k) (May c ∷ shape.units Nothing (map (shape.unit s) (map fst us)) ∷ May v ∷ []) (count_follows k)
      (both (may_follow c) (both (units_follow Nothing us) (one_part (May v) (may_follow v))))

  abbrev UnitLayer : Below Unit-F → Type 0
  UnitLayer y = MayStart
      (shape.unit_step s (map-Unit _ _ _ _ _ _ _ _ _ _ _ _ _ _
      (shape.expr s) (shape.limit s) (shape.unit s) (shape.branch s) (shape.case s) (shape.counter s) (shape.item s)
      (map-Unit _ _ _ _ _ _ _ _ _ _ _ _ _ _ fst fst fst fst fst fst fst y)))
      (at.unit_step (map-Unit _ _ _ _ _ _ _ _ _ _ _ _ _ _
      at.in_expr at.in_limit at.in_unit at.in_branch at.in_case at.in_counter at.in_item
      (map-Unit _ _ _ _ _ _ _ _ _ _ _ _ _ _ fst fst fst fst fst fst fst y)))

  unit_starts : (y : Below Unit-F) → UnitLayer y
  unit_starts t.Empty = refl
  unit_starts (t.Let a items) = placed a (lets_follow items)
  unit_starts (t.Variables a of items) = placed a (items_follow items)
  unit_starts (t.Constants a of items) = placed a (items_follow items)
  unit_starts (t.Bound a of items) = placed a (items_follow items)
  unit_starts (t.Value a) =
      let p = shape.expr s a.0 in
      subst (λ (l : List ℕ). Follows (form.place p ∷ l) (at.in_expr a.0) × Follows (at.in_expr a.0) l) (sym (append-nil (in_phrase p))) a.1
  unit_starts (t.Becomes a b c) = placed a (two_parts (shape.expr s b.0) (shape.expr s c.0) (whole (shape.expr s b.0) b.1) (whole (shape.expr s c.0) c.1))
  unit_starts (t.Loop a None None us None) = placed a (loop_follows None None us None)
  unit_starts (t.Loop a None None us (Some v)) = placed a (loop_follows None None us (Some v))
  unit_starts (t.Loop a None (Some c) us None) = placed a (loop_follows None (Some c) us None)
  unit_starts (t.Loop a None (Some c) us (Some v)) = placed a (loop_follows None (Some c) us (Some v))
  unit_starts (t.Loop a (Some k) None us None) = placed a (loop_follows (Some k) None us None)
  unit_starts (t.Loop a (Some k) None us (Some v)) = placed a (loop_follows (Some k) None us (Some v))
  unit_starts (t.Loop a (Some k) (Some c) us None) = placed a (loop_follows (Some k) (Some c) us None)
  unit_starts (t.Loop a (Some k) (Some c) us (Some v)) = placed a (loop_follows (Some k) (Some c) us (Some v))
  unit_starts (t.Leave a n None) = placed a nothing
  unit_starts (t.Leave a n (Some v)) = placed a (one_part (shape.expr s v.0) (whole (shape.expr s v.0) v.1))

  abbrev BranchLayer : Below Branch-F → Type 0
  BranchLayer y = PairSame
      (shape.branch_step s (map-Branch _ _ _ _ _ _ _ _ _ _ _ _ _ _
      (shape.expr s) (shape.limit s) (shape.unit s) (shape.branch s) (shape.case s) (shape.counter s) (shape.item s)
      (map-Branch _ _ _ _ _ _ _ _ _ _ _ _ _ _ fst fst fst fst fst fst fst y)))
      (at.branch_step (map-Branch _ _ _ _ _ _ _ _ _ _ _ _ _ _
      at.in_expr at.in_limit at.in_unit at.in_branch at.in_case at.in_counter at.in_item
      (map-Branch _ _ _ _ _ _ _ _ _ _ _ _ _ _ fst fst fst fst fst fst fst y)))

  branch_follows : (y : Below Branch-F) → BranchLayer y
  branch_follows y = both (whole (shape.expr s y.condition.0) y.condition.1) (units_follow Open y.units)

  abbrev CaseLayer : Below Case-F → Type 0
  CaseLayer y = ArmSame
      (shape.case_step s (map-Case _ _ _ _ _ _ _ _ _ _ _ _ _ _
      (shape.expr s) (shape.limit s) (shape.unit s) (shape.branch s) (shape.case s) (shape.counter s) (shape.item s)
      (map-Case _ _ _ _ _ _ _ _ _ _ _ _ _ _ fst fst fst fst fst fst fst y)))
      (at.case_step (map-Case _ _ _ _ _ _ _ _ _ _ _ _ _ _
      at.in_expr at.in_limit at.in_unit at.in_branch at.in_case at.in_counter at.in_item
      (map-Case _ _ _ _ _ _ _ _ _ _ _ _ _ _ fst fst fst fst fst fst fst y)))

  case_follows : (y : Below Case-F) → CaseLayer y
  case_follows y = both (equal (at.all_labels y.labels)) (units_follow Open y.units)

  abbrev CounterLayer : Below Counter-F → Type 0
  CounterLayer y = CounterSame
      (shape.counter_step s (map-Counter _ _ _ _ _ _ _ _ _ _ _ _ _ _
      (shape.expr s) (shape.limit s) (shape.unit s) (shape.branch s) (shape.case s) (shape.counter s) (shape.item s)
      (map-Counter _ _ _ _ _ _ _ _ _ _ _ _ _ _ fst fst fst fst fst fst fst y)))
      (at.counter_step (map-Counter _ _ _ _ _ _ _ _ _ _ _ _ _ _
      at.in_expr at.in_limit at.in_unit at.in_branch at.in_case at.in_counter at.in_item
      (map-Counter _ _ _ _ _ _ _ _ _ _ _ _ _ _ fst fst fst fst fst fst fst y)))

  counter_of : (n : Name) (from : Option ((e : Expr) × E e)) (l : (l : Limit) × L l) → CounterLayer (record { name = n; from = from; limit = l })
  counter_of n None l = same n.at (one_part (shape.limit s l.0).1 l.1)
  counter_of n (Some e) l = same n.at (two_parts (shape.expr s e.0) (shape.limit s l.0).1 (whole (shape.expr s e.0) e.1) l.1)

  counter_follows : (y : Below Counter-F) → CounterLayer y
  counter_follows y = counter_of y.name y.from y.limit

  abbrev ItemLayer : Below Item-F → Type 0
  ItemLayer y = IsSame
      (in_phrase (shape.item_step s (map-Item _ _ _ _ _ _ _ _ _ _ _ _ _ _
      (shape.expr s) (shape.limit s) (shape.unit s) (shape.branch s) (shape.case s) (shape.counter s) (shape.item s)
      (map-Item _ _ _ _ _ _ _ _ _ _ _ _ _ _ fst fst fst fst fst fst fst y))))
      (at.item_step (map-Item _ _ _ _ _ _ _ _ _ _ _ _ _ _
      at.in_expr at.in_limit at.in_unit at.in_branch at.in_case at.in_counter at.in_item
      (map-Item _ _ _ _ _ _ _ _ _ _ _ _ _ _ fst fst fst fst fst fst fst y)))

  item_of : (n : Name) (init : Option ((e : Expr) × E e)) → ItemLayer (record { name = n; init = init })
  item_of n None = same n.at nothing
  item_of n (Some e) = twice n.at (one_part (shape.expr s e.0) (whole (shape.expr s e.0) e.1))

  item_follows : (y : Below Item-F) → ItemLayer y
  item_follows y = item_of y.name y.init

  -- ---- all of them

  unit_follows : (u : Statement) → U u
  unit_follows = ind-Unit E L U B C K I
      (λ x y is. rw (fold-roll-Expr, fold-roll-Expr, ← is) (expr_starts y))
      (λ x y is. rw (fold-roll-Limit, fold-roll-Limit, ← is) (limit_follows y))
      (λ x y is. rw (fold-roll-Unit, fold-roll-Unit, ← is) (unit_starts y))
      (λ x y is. rw (fold-roll-Branch, fold-roll-Branch, ← is) (branch_follows y))
      (λ x y is. rw (fold-roll-Case, fold-roll-Case, ← is) (case_follows y))
      (λ x y is. rw (fold-roll-Counter, fold-roll-Counter, ← is) (counter_follows y))
      (λ x y is. rw (fold-roll-Item, fold-roll-Item, ← is) (item_follows y))

  all_units_start : (us : List Statement) → AllStart (map (shape.unit s) us) (map at.in_unit us)
  all_units_start [] = tt
  all_units_start (u ∷ us) = (unit_follows u, all_units_start us)

  -- the units of a body
  pub body_units_follow : (d : Delivery) (us : List Statement) → IsSame (in_phrase (shape.units d (map (shape.unit s) us))) (at.in_units us)
  body_units_follow d us = list_follows d (map (shape.unit s) us) (map at.in_unit us) (all_units_start us)

  -- a unit of a level, which delivers nothing
  nothing_follows : (o : Option Phrase) {ns : List ℕ} → MayStart o ns → IsSame (in_phrase (shape.role Nothing (shape.written o))) ns
  nothing_follows None h = empty h
  nothing_follows (Some p) h = role_follows Nothing p h

  pub unit_alone_follows : (u : Statement) → IsSame (in_phrase (shape.role Nothing (shape.written (shape.unit s u)))) (at.in_unit u)
  unit_alone_follows u = nothing_follows (shape.unit s u) (unit_follows u)
