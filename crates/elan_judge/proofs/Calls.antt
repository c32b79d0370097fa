-- The refinements that phrases call, as they are found in the tree. One induction over trees, so it stands in one file.
use Rattle.std.proofs.Common.{◌≡◌, ℤ, ℕ, Bool, true, false, if◌then◌else◌, List, [], ◌∷◌, ◌++◌, map, Option, Some, None, refl, sym, ap, ◌∙◌, append_assoc}
use Rattle.std.specs.Prelude.{flat_map}
use Rattle.elan_tree.specs.declared.written_type.Name.{Name}
use Rattle.elan_tree.specs.declared.written_type.Constant.TheVariants as constants
use Rattle.elan_tree.specs.declared.written_type.LetItem.{LetItem}
use Rattle.elan_tree.specs.declared.written_type.LetItem.TheVariants as let_items
use Rattle.elan_tree.specs.declared.written_type.Label.{Label}
use Rattle.elan_tree.specs.declared.written_type.Label.TheVariants as label
use Rattle.elan_tree.specs.declared.phrase.Expr.{Expr}
use Rattle.elan_tree.specs.declared.phrase.Limit.{Limit}
use Rattle.elan_tree.specs.declared.phrase.Branch.{Branch}
use Rattle.elan_tree.specs.declared.phrase.Case.{Case}
use Rattle.elan_tree.specs.declared.phrase.Counter.{Counter}
use Rattle.elan_tree.specs.declared.phrase.Item.{Item}
use Rattle.elan_tree.specs.declared.phrase.Unit.{Unit as Statement}
use Rattle.elan_tree.specs.declared.phrase.Expr.TheOpen as t
use Rattle.elan_tree.specs.declared.phrase.Expr.TheOpen.{Expr-F, Limit-F, Unit-F, Branch-F, Case-F, Counter-F, Item-F}
use Rattle.elan_tree.specs.declared.phrase.Expr.TheFolds.{ind-Unit, map-Expr, map-Limit, map-Unit, map-Branch, map-Case, map-Counter, map-Item}
use Rattle.elan_tree.specs.declared.phrase.Expr.TheFolds.{fold-roll-Expr, fold-roll-Limit, fold-roll-Unit, fold-roll-Branch, fold-roll-Case}
use Rattle.elan_tree.specs.declared.phrase.Expr.TheFolds.{fold-roll-Counter, fold-roll-Item}
use Rattle.elan_scope.specs.declared.delivery.Delivery.{Delivery}
use Rattle.elan_scope.specs.declared.delivery.Delivery.TheVariants.{Open, Nothing, Of}
use Rattle.elan_scope.specs.declared.scope.Scope.{Scope}
use Rattle.elan_scope.specs.Phrase as form
use Rattle.elan_scope.specs.Phrase.{Form, Plain, plain, Phrase, phrase, Parts, none, part, all_of, around}
use Rattle.elan_rules.specs.Meaning.{phrases, phrases_of}
use Rattle.std.specs.Str.{bytes_eq}
use Rattle.elan_judge.specs.Below.value_rules.specs.Calls.{begin}
use Rattle.elan_judge.specs.Shape as shape
use Rattle.elan_judge.specs.walks.Steps as walk
use Rattle.elan_tree.specs.declared.written_type.TypePhrase.{TypePhrase}
use Rattle.elan_judge.specs.Below.elan_walk.specs.declared.node.Held.{Held}
use Rattle.elan_judge.specs.Below.elan_walk.specs.declared.node.Held.TheVariants as held
use Rattle.elan_judge.specs.Below.elan_walk.specs.Nodes as nodes
use Rattle.elan_judge.specs.Below.elan_walk.specs.Nodes.{Node, sign}
use Rattle.type_names.specs.walks.Uses as uses
use Rattle.elan_judge.specs.Refinements.{called_by, called_in}

-- ---- lists

abbrev fst : {A : Type 0} {B : A → Type 0} → (a : A) × B a → A
fst x = x.0

assoc : (xs ys zs : List ℕ) → xs ++ ys ++ zs ≡ xs ++ (ys ++ zs)
assoc [] ys zs = refl
assoc (x ∷ xs) ys zs = ap (λ (ns : List ℕ). x ∷ ns) (assoc xs ys zs)

nil : (xs : List ℕ) → xs ++ [] ≡ xs
nil [] = refl
nil (x ∷ xs) = ap (λ (ns : List ℕ). x ∷ ns) (nil xs)

both : (xs ys zs ws : List ℕ) → xs ≡ ys → zs ≡ ws → xs ++ zs ≡ ys ++ ws
both xs ys zs ws e g = ap (λ (l : List ℕ). l ++ zs) e ∙ ap (λ (l : List ℕ). ys ++ l) g

-- ---- phrases

pub called_append : (ps qs : List Phrase) → flat_map called_by (ps ++ qs) ≡ flat_map called_by ps ++ flat_map called_by qs
called_append [] qs = refl
called_append (p ∷ ps) qs = ap (λ (ns : List ℕ). called_by p ++ ns) (called_append ps qs) ∙ sym (assoc (called_by p) (flat_map called_by ps) (flat_map called_by qs))

abbrev calls : Parts → List ℕ
calls ps = flat_map called_by (phrases_of ps)

-- a phrase that is no call itself
whole_of : (at : ℕ) (f : Form) (ps : Parts) → called_by (phrase at f ps) ≡ [] → called_in (phrase at f ps) ≡ calls ps
whole_of at f ps h = called_append (phrases_of ps) (phrase at f ps ∷ []) ∙ ap (λ (ns : List ℕ). calls ps ++ (ns ++ [])) h ∙ nil (calls ps)

whole : (at : ℕ) (f : Plain) (ps : Parts) → called_by (phrase at (plain f) ps) ≡ [] → called_in (phrase at (plain f) ps) ≡ calls ps
whole at f ps h = whole_of at (plain f) ps h

first_part : (p : Phrase) (ps : Parts) → calls (part p ps) ≡ called_in p ++ calls ps
first_part p ps = called_append (phrases p) (phrases_of ps)

one_part : (p : Phrase) → calls (part p none) ≡ called_in p
one_part p = first_part p none ∙ nil (called_in p)

two_parts : (p q : Phrase) → calls (part p (part q none)) ≡ called_in p ++ called_in q
two_parts p q = first_part p (part q none) ∙ ap (λ (ns : List ℕ). called_in p ++ ns) (one_part q)

three_parts : (p q r : Phrase) → calls (part p (part q (part r none))) ≡ called_in p ++ called_in q ++ called_in r
three_parts p q r =
    first_part p (part q (part r none)) ∙ ap (λ (ns : List ℕ). called_in p ++ ns) (two_parts q r) ∙ sym (assoc (called_in p) (called_in q) (called_in r))

-- parts, and behind them others
append_parts : (ps qs : List Phrase) → calls (all_of (ps ++ qs)) ≡ calls (all_of ps) ++ calls (all_of qs)
append_parts [] qs = refl
append_parts (p ∷ ps) qs =
    first_part p (all_of (ps ++ qs)) ∙ ap (λ (ns : List ℕ). called_in p ++ ns) (append_parts ps qs)
    ∙ sym (assoc (called_in p) (calls (all_of ps)) (calls (all_of qs))) ∙ ap (λ (ns : List ℕ). ns ++ calls (all_of qs)) (sym (first_part p (all_of ps)))

one_calls : (at : ℕ) (f : Plain) (p : Phrase) → called_by (around at f p) ≡ [] → called_in (around at f p) ≡ called_in p
one_calls at f p h = whole at f (part p none) h ∙ one_part p

two_call : (at : ℕ) (f : Plain) (p q : Phrase) (xs ys : List ℕ) → called_by (phrase at (plain f) (part p (part q none))) ≡ [] → called_in p ≡ xs → called_in q ≡ ys
    → called_in (phrase at (plain f) (part p (part q none))) ≡ xs ++ ys
two_call at f p q xs ys h e g = whole at f (part p (part q none)) h ∙ two_parts p q ∙ both (called_in p) xs (called_in q) ys e g

-- a start procedure is not called, wherever it may stand
start_calls : (p : Phrase) → called_in (shape.as_start p) ≡ called_in p
start_calls (phrase at (plain (form.start may)) ps) = whole at (form.start true) ps refl ∙ sym (whole at (form.start may) ps refl)
start_calls p = refl

actuals_call : (x : List ℕ) (ps : List Phrase) → calls (all_of (shape.actuals x ps)) ≡ calls (all_of ps)
actuals_call x ps = by_name (bytes_eq x begin)
  where
    second : (qs : List Phrase) → calls (all_of (shape.second_starts qs)) ≡ calls (all_of qs)
    second [] = refl
    second (p ∷ []) = refl
    second (p ∷ q ∷ qs) =
        let rest = all_of qs in
        first_part p (part (shape.as_start q) rest)
        ∙ ap (λ (ns : List ℕ). called_in p ++ ns)
        (first_part (shape.as_start q) rest ∙ ap (λ (ns : List ℕ). ns ++ calls rest) (start_calls q) ∙ sym (first_part q rest))
        ∙ sym (first_part p (part q rest))

    by_name : (b : Bool) → calls (all_of (if b then shape.second_starts ps else ps)) ≡ calls (all_of ps)
    by_name true = second ps
    by_name false = refl

module _ (s : Scope) where
  abbrev found : List Node → List ℕ
  found ns = uses.all_called s ns

  split : (xs ys : List ℕ) (ms ns : List Node) → xs ≡ found ms → ys ≡ found ns → xs ++ ys ≡ found (ms ++ ns)
  split xs ys ms ns e g = both xs (found ms) ys (found ns) e g ∙ sym (found_append ms)
    where
      found_append : (ms : List Node) → found (ms ++ ns) ≡ found ms ++ found ns
      found_append [] = refl
      found_append (m ∷ ms) = ap (λ (l : List ℕ). uses.called s m ++ l) (found_append ms) ∙ sym (assoc (uses.called s m) (found ms) (found ns))

  two_found : (at : ℕ) (f : Plain) (p q : Phrase) (ms ns : List Node) → called_by (phrase at (plain f) (part p (part q none))) ≡ [] → called_in p ≡ found ms
      → called_in q ≡ found ns → called_in (phrase at (plain f) (part p (part q none))) ≡ found (ms ++ ns)
  two_found at f p q ms ns h e g = two_call at f p q (called_in p) (called_in q) h refl refl ∙ split (called_in p) (called_in q) ms ns e g

  -- what the phrase of a unit calls, if it has one
  abbrev unit_calls_of : Option Phrase → List ℕ
  unit_calls_of None = []
  unit_calls_of (Some p) = called_in p

  abbrev E : Expr → Type 0
  E e = called_in (shape.expr s e) ≡ found (nodes.in_expr e)

  abbrev L : Limit → Type 0
  L l = called_in (shape.limit s l).1 ≡ found (nodes.in_limit l)

  abbrev U : Statement → Type 0
  U u = unit_calls_of (shape.unit s u) ≡ found (nodes.in_unit u)

  abbrev pair_calls : Phrase × Phrase → List ℕ
  pair_calls p = called_in p.0 ++ called_in p.1

  abbrev counter_calls_of : shape.Counted → List ℕ
  counter_calls_of k = called_in k.1 ++ called_in k.2

  abbrev B : Branch → Type 0
  B b = pair_calls (shape.branch s b) ≡ found (nodes.in_branch b)

  abbrev C : Case → Type 0
  C c = called_in (shape.case s c).1 ≡ found (nodes.in_case c)

  abbrev CounterCalls : shape.Counted → List Node → Type 0
  CounterCalls k ns = (called_in k.0 ≡ []) × (counter_calls_of k ≡ found ns)

  abbrev K : Counter → Type 0
  K k = CounterCalls (shape.counter s k) (nodes.in_counter k)

  abbrev I : Item → Type 0
  I i = (h : Held) (of : TypePhrase) → called_in (shape.item s i) ≡ found (nodes.in_item i h of)

  -- ---- rows

  exprs_call : (es : List ((e : Expr) × E e)) → calls (all_of (map (shape.expr s) (map fst es))) ≡ found (nodes.all (map nodes.in_expr (map fst es)))
  exprs_call [] = refl
  exprs_call (e ∷ es) =
      first_part (shape.expr s e.0) (all_of (map (shape.expr s) (map fst es)))
      ∙ split (called_in (shape.expr s e.0)) (calls (all_of (map (shape.expr s) (map fst es)))) (nodes.in_expr e.0) _ e.1 (exprs_call es)

  guarded_calls : (p q : Phrase) (ps : Parts) → calls (part p (part q ps)) ≡ pair_calls (p, q) ++ calls ps
  guarded_calls p q ps =
      first_part p (part q ps) ∙ ap (λ (ns : List ℕ). called_in p ++ ns) (first_part q ps) ∙ sym (assoc (called_in p) (called_in q) (calls ps))

  branches_call : (bs : List ((b : Branch) × B b))
      → calls (all_of (shape.branches (map (shape.branch s) (map fst bs)))) ≡ found (nodes.all (map nodes.in_branch (map fst bs)))
  branches_call [] = refl
  branches_call (b ∷ bs) =
      let p = shape.branch s b.0 in
      let rest = all_of (shape.branches (map (shape.branch s) (map fst bs))) in
      guarded_calls p.0 p.1 rest ∙ split (pair_calls p) (calls rest) (nodes.in_branch b.0) _ b.1 (branches_call bs)

  items_call : (h : Held) (of : TypePhrase) (is : List ((i : Item) × I i))
      → calls (all_of (map (shape.item s) (map fst is))) ≡ found (flat_map (λ (i : nodes.Declares). i h of) (map nodes.in_item (map fst is)))
  items_call h of [] = refl
  items_call h of (i ∷ is) =
      let rest = all_of (map (shape.item s) (map fst is)) in
      first_part (shape.item s i.0) rest ∙ split (called_in (shape.item s i.0)) (calls rest) (nodes.in_item i.0 h of) _ (i.1 h of) (items_call h of is)

  role_calls : (d : Delivery) (p : Phrase) → called_in (shape.role d p) ≡ called_in p
  role_calls Open p = refl
  role_calls Nothing p = one_calls (form.place p) form.without_value p refl
  role_calls (Of t) p = one_calls (form.place p) (form.must_deliver t) p refl

  roles_call : (d : Delivery) (ps : List Phrase) → calls (all_of (shape.roles d ps)) ≡ calls (all_of ps)
  roles_call d [] = refl
  roles_call d (p ∷ []) = one_part (shape.role d p) ∙ role_calls d p ∙ sym (one_part p)
  roles_call d (p ∷ q ∷ ps) =
      let rest = all_of (shape.roles d (q ∷ ps)) in
      first_part (shape.role Nothing p) rest
      ∙ both (called_in (shape.role Nothing p)) (called_in p) (calls rest) (calls (all_of (q ∷ ps))) (role_calls Nothing p) (roles_call d (q ∷ ps))
      ∙ sym (first_part p (all_of (q ∷ ps)))

  filled_call : (u : Option Phrase) (us : List (Option Phrase)) → calls (all_of (shape.filled (u ∷ us))) ≡ unit_calls_of u ++ calls (all_of (shape.filled us))
  filled_call None us = refl
  filled_call (Some p) us = first_part p (all_of (shape.filled us))

  us_call : (us : List ((u : Statement) × U u))
      → calls (all_of (shape.filled (map (shape.unit s) (map fst us)))) ≡ found (nodes.all (map nodes.in_unit (map fst us)))
  us_call [] = refl
  us_call (u ∷ us) =
      let rest = map (shape.unit s) (map fst us) in
      filled_call (shape.unit s u.0) rest ∙ split (unit_calls_of (shape.unit s u.0)) (calls (all_of (shape.filled rest))) (nodes.in_unit u.0) _ u.1 (us_call us)

  units_call : (d : Delivery) (us : List ((u : Statement) × U u))
      → called_in (shape.units d (map (shape.unit s) (map fst us))) ≡ found (nodes.all (map nodes.in_unit (map fst us)))
  units_call d us =
      let ps = shape.filled (map (shape.unit s) (map fst us)) in
      whole 0 form.units (all_of (shape.roles d ps)) refl ∙ roles_call d ps ∙ us_call us

  labels_call : (ns : List ℤ) (ls : List Label) → calls (all_of (shape.label_phrases s ns ls)) ≡ []
  labels_call ns [] = refl
  labels_call ns (label.Number at n ∷ ls) = labels_call (ns ++ n ∷ []) ls
  labels_call ns (label.Named n ∷ ls) = labels_call (ns ++ shape.number s (label.Named n)) ls

  arms_call : (ns : List ℤ) (cs : List ((c : Case) × C c))
      → calls (all_of (shape.arms s ns (map (shape.case s) (map fst cs)))) ≡ found (nodes.all (map nodes.in_case (map fst cs)))
  arms_call ns [] = refl
  arms_call ns (c ∷ cs) =
      let ls = (shape.case s c.0).0 in
      let labels = walk.labels_phrase s ns ls in
      let rest = all_of (shape.arms s (ns ++ walk.numbers s ls) (map (shape.case s) (map fst cs))) in
      let none_called : called_in labels ≡ [] = whole 0 form.labels (all_of (shape.label_phrases s ns ls)) refl ∙ labels_call ns ls in
      guarded_calls labels (shape.case s c.0).1 rest
      ∙ split (called_in labels ++ called_in (shape.case s c.0).1) (calls rest) (nodes.in_case c.0) _
      (both (called_in labels) [] (called_in (shape.case s c.0).1) (found (nodes.in_case c.0)) none_called c.1) (arms_call (ns ++ walk.numbers s ls) cs)

  let_calls : (i : LetItem) → called_in (shape.let_item s i) ≡ found (nodes.let_item i ∷ [])
  let_calls (let_items.Constant n (constants.Number a z)) = refl
  let_calls (let_items.Constant n (constants.Text a x)) = refl
  let_calls (let_items.Constant n (constants.Truth a b)) = refl
  let_calls (let_items.Abbreviation n of) = refl

  lets_call : (is : List LetItem) → calls (all_of (map (shape.let_item s) is)) ≡ found (map nodes.let_item is)
  lets_call [] = refl
  lets_call (i ∷ is) =
      let rest = all_of (map (shape.let_item s) is) in
      first_part (shape.let_item s i) rest
      ∙ split (called_in (shape.let_item s i)) (calls rest) (nodes.let_item i ∷ []) (map nodes.let_item is) (let_calls i) (lets_call is)

  -- a part behind others
  behind_calls : (ps : List Phrase) (p : Phrase) (ms ns : List Node) → calls (all_of ps) ≡ found ms → called_in p ≡ found ns
      → calls (all_of (ps ++ p ∷ [])) ≡ found (ms ++ ns)
  behind_calls ps p ms ns e h = append_parts ps (p ∷ []) ∙ split (calls (all_of ps)) (calls (all_of (p ∷ []))) ms ns e (one_part p ∙ h)

  -- ---- one layer

  abbrev Below : (Type 0 → Type 0 → Type 0 → Type 0 → Type 0 → Type 0 → Type 0 → Type 0) → Type 0
  Below F = F ((e : Expr) × E e) ((l : Limit) × L l) ((u : Statement) × U u) ((b : Branch) × B b) ((c : Case) × C c) ((k : Counter) × K k) ((i : Item) × I i)

  abbrev absent : Phrase
  absent = form.leaf 0 form.absent

  selected : (at : ℕ) (of : (e : Expr) × E e) (rest : Parts) (ms ns : List Node) → calls rest ≡ found (ms ++ ns)
      → called_in (phrase at (plain form.selection) (part (shape.expr s of.0) rest)) ≡ found (nodes.in_expr of.0 ++ ms ++ ns)
  selected at of rest ms ns h =
      whole at form.selection (part (shape.expr s of.0) rest) refl ∙ first_part (shape.expr s of.0) rest
      ∙ split (called_in (shape.expr s of.0)) (calls rest) (nodes.in_expr of.0) (ms ++ ns) of.1 h
      ∙ ap found (sym (append_assoc (nodes.in_expr of.0) ms ns))

  expr_calls : (y : Below Expr-F)
      → called_in (shape.expr_step s
      (map-Expr _ _ _ _ _ _ _ _ _ _ _ _ _ _ (shape.expr s) (shape.limit s) (shape.unit s) (shape.branch s) (shape.case s) (shape.counter s) (shape.item s)
      (map-Expr _ _ _ _ _ _ _ _ _ _ _ _ _ _ fst fst fst fst fst fst fst y)))
      ≡ found (nodes.expr_step
      (map-Expr _ _ _ _ _ _ _ _ _ _ _ _ _ _ nodes.in_expr nodes.in_limit nodes.in_unit nodes.in_branch nodes.in_case nodes.in_counter nodes.in_item
      (map-Expr _ _ _ _ _ _ _ _ _ _ _ _ _ _ fst fst fst fst fst fst fst y)))
  expr_calls (t.Number at n) = refl
  expr_calls (t.Text at x) = refl
  expr_calls (t.Truth at b) = refl
  expr_calls (t.Named n) = refl
  expr_calls (t.Call n actuals) =
      let ps = map (shape.expr s) (map fst actuals) in
      whole _ _ (all_of (shape.actuals n.text ps)) refl ∙ actuals_call n.text ps ∙ exprs_call actuals
  expr_calls (t.Procedure at n) = refl
  expr_calls (t.Concr at a) = one_calls at (form.concr s) (shape.expr s a.0) refl ∙ a.1
  expr_calls (t.Bracket at a) = one_calls at form.bracket (shape.expr s a.0) refl ∙ a.1
  expr_calls (t.If at branches None) =
      let ps = shape.branches (map (shape.branch s) (map fst branches)) in
      whole at form.choice (all_of (ps ++ absent ∷ [])) refl
      ∙ behind_calls ps absent (nodes.all (map nodes.in_branch (map fst branches))) [] (branches_call branches) refl
  expr_calls (t.If at branches (Some us)) =
      let ps = shape.branches (map (shape.branch s) (map fst branches)) in
      let p = shape.units Open (map (shape.unit s) (map fst us)) in
      whole at form.choice (all_of (ps ++ p ∷ [])) refl
      ∙ behind_calls ps p (nodes.all (map nodes.in_branch (map fst branches))) (nodes.all (map nodes.in_unit (map fst us))) (branches_call branches)
      (units_call Open us)
  expr_calls (t.Select at of cases None) =
      let ps = shape.arms s [] (map (shape.case s) (map fst cases)) in
      let rest = all_of (ps ++ absent ∷ []) in
      let inside = nodes.all (map nodes.in_case (map fst cases)) in
      selected at of rest inside [] (behind_calls ps absent inside [] (arms_call [] cases) refl)
  expr_calls (t.Select at of cases (Some us)) =
      let ps = shape.arms s [] (map (shape.case s) (map fst cases)) in
      let p = shape.units Open (map (shape.unit s) (map fst us)) in
      let rest = all_of (ps ++ p ∷ []) in
      let inside = nodes.all (map nodes.in_case (map fst cases)) in
      let other = nodes.all (map nodes.in_unit (map fst us)) in
      selected at of rest inside other (behind_calls ps p inside other (arms_call [] cases) (units_call Open us))
  expr_calls (t.Index at a b) = two_found at form.index (shape.expr s a.0) (shape.expr s b.0) (nodes.in_expr a.0) (nodes.in_expr b.0) refl a.1 b.1
  expr_calls (t.Field at a x) =
      one_calls at (form.field x.text) (shape.expr s a.0) refl ∙ sym (nil (called_in (shape.expr s a.0)))
      ∙ split (called_in (shape.expr s a.0)) [] (nodes.in_expr a.0) (nodes.other x ∷ []) a.1 refl
  expr_calls (t.Monadic at o a) = one_calls _ _ (shape.expr s a.0) refl ∙ a.1
  expr_calls (t.Dyadic at o a b) = two_found _ _ (shape.expr s a.0) (shape.expr s b.0) (nodes.in_expr a.0) (sign o ∷ nodes.in_expr b.0) refl a.1 b.1
  expr_calls (t.Cand at a b) = two_found at form.cand (shape.expr s a.0) (shape.expr s b.0) (nodes.in_expr a.0) (nodes.in_expr b.0) refl a.1 b.1
  expr_calls (t.Cor at a b) = two_found at form.cor (shape.expr s a.0) (shape.expr s b.0) (nodes.in_expr a.0) (nodes.in_expr b.0) refl a.1 b.1

  limit_calls : (y : Below Limit-F)
      → called_in (shape.limit_step s
      (map-Limit _ _ _ _ _ _ _ _ _ _ _ _ _ _ (shape.expr s) (shape.limit s) (shape.unit s) (shape.branch s) (shape.case s) (shape.counter s) (shape.item s)
      (map-Limit _ _ _ _ _ _ _ _ _ _ _ _ _ _ fst fst fst fst fst fst fst y))).1
      ≡ found (nodes.limit_step
      (map-Limit _ _ _ _ _ _ _ _ _ _ _ _ _ _ nodes.in_expr nodes.in_limit nodes.in_unit nodes.in_branch nodes.in_case nodes.in_counter nodes.in_item
      (map-Limit _ _ _ _ _ _ _ _ _ _ _ _ _ _ fst fst fst fst fst fst fst y)))
  limit_calls t.Without = refl
  limit_calls (t.Upto a) = a.1
  limit_calls (t.Downto a) = a.1

  turns_call : (c v : Phrase) (us : List ((u : Statement) × U u)) (ms ns : List Node) → called_in c ≡ found ms → called_in v ≡ found ns →
      calls (part c (part (shape.units Nothing (map (shape.unit s) (map fst us))) (part v none)))
      ≡ found (ms ++ nodes.all (map nodes.in_unit (map fst us)) ++ ns)
  turns_call c v us ms ns g h =
      let body = shape.units Nothing (map (shape.unit s) (map fst us)) in
      let inside = nodes.all (map nodes.in_unit (map fst us)) in
      three_parts c body v
      ∙ split (called_in c ++ called_in body) (called_in v) (ms ++ inside) ns (split (called_in c) (called_in body) ms inside g (units_call Nothing us)) h

  loop_calls : (at : ℕ) (c v : Phrase) (us : List ((u : Statement) × U u)) (ms ns : List Node) → called_in c ≡ found ms → called_in v ≡ found ns →
      called_in (shape.loop at None c (shape.units Nothing (map (shape.unit s) (map fst us))) v)
      ≡ found (ms ++ nodes.all (map nodes.in_unit (map fst us)) ++ ns)
  loop_calls at c v us ms ns g h =
      whole at form.loop (part c (part (shape.units Nothing (map (shape.unit s) (map fst us))) (part v none))) refl ∙ turns_call c v us ms ns g h

  count_calls : (at : ℕ) (k : (k : Counter) × K k) (c v : Phrase) (us : List ((u : Statement) × U u)) (ms ns : List Node) → called_in c ≡ found ms
      → called_in v ≡ found ns →
      called_in (shape.loop at (Some (shape.counter s k.0)) c (shape.units Nothing (map (shape.unit s) (map fst us))) v)
      ≡ found (nodes.in_counter k.0 ++ ms ++ nodes.all (map nodes.in_unit (map fst us)) ++ ns)
  count_calls at k c v us ms ns g h =
      let d = shape.counter s k.0 in
      let inside = nodes.all (map nodes.in_unit (map fst us)) in
      let turns = part c (part (shape.units Nothing (map (shape.unit s) (map fst us))) (part v none)) in
      let counts = nodes.in_counter k.0 in
      whole at (form.count d.3) (part d.0 (part d.1 (part d.2 turns))) refl ∙ first_part d.0 (part d.1 (part d.2 turns))
      ∙ both (called_in d.0) [] (calls (part d.1 (part d.2 turns))) (counter_calls_of d ++ calls turns) k.1.0 (guarded_calls d.1 d.2 turns)
      ∙ split (counter_calls_of d) (calls turns) counts (ms ++ inside ++ ns) k.1.1 (turns_call c v us ms ns g h)
      ∙ ap found (sym (append_assoc counts (ms ++ inside) ns) ∙ ap (λ (l : List Node). l ++ ns) (sym (append_assoc counts ms inside)))

  unit_calls : (y : Below Unit-F)
      → unit_calls_of (shape.unit_step s
      (map-Unit _ _ _ _ _ _ _ _ _ _ _ _ _ _ (shape.expr s) (shape.limit s) (shape.unit s) (shape.branch s) (shape.case s) (shape.counter s) (shape.item s)
      (map-Unit _ _ _ _ _ _ _ _ _ _ _ _ _ _ fst fst fst fst fst fst fst y)))
      ≡ found (nodes.unit_step
      (map-Unit _ _ _ _ _ _ _ _ _ _ _ _ _ _ nodes.in_expr nodes.in_limit nodes.in_unit nodes.in_branch nodes.in_case nodes.in_counter nodes.in_item
      (map-Unit _ _ _ _ _ _ _ _ _ _ _ _ _ _ fst fst fst fst fst fst fst y)))
  unit_calls t.Empty = refl
  unit_calls (t.Let at items) = whole at form.definition (all_of (map (shape.let_item s) items)) refl ∙ lets_call items
  unit_calls (t.Variables at of items) = whole at form.declaration (all_of (map (shape.item s) (map fst items))) refl ∙ items_call held.Variable of items
  unit_calls (t.Constants at of items) = whole at form.declaration (all_of (map (shape.item s) (map fst items))) refl ∙ items_call held.Constant of items
  unit_calls (t.Bound at of items) = whole at form.declaration (all_of (map (shape.item s) (map fst items))) refl ∙ items_call held.Bound of items
  unit_calls (t.Value a) = one_calls (form.place (shape.expr s a.0)) form.statement (shape.expr s a.0) refl ∙ a.1
  unit_calls (t.Becomes at a b) = two_found at (form.assignment s (shape.is_name (shape.expr s a.0))) (shape.expr s a.0) (shape.expr s b.0) (nodes.in_expr a.0) (nodes.in_expr b.0) refl a.1 b.1
  unit_calls (t.Loop at None None us None) = loop_calls at absent absent us [] [] refl refl
  unit_calls (t.Loop at None None us (Some v)) = loop_calls at absent (shape.expr s v.0) us [] (nodes.in_expr v.0) refl v.1
  unit_calls (t.Loop at None (Some c) us None) = loop_calls at (shape.expr s c.0) absent us (nodes.in_expr c.0) [] c.1 refl
  unit_calls (t.Loop at None (Some c) us (Some v)) = loop_calls at (shape.expr s c.0) (shape.expr s v.0) us (nodes.in_expr c.0) (nodes.in_expr v.0) c.1 v.1
  unit_calls (t.Loop at (Some k) None us None) = count_calls at k absent absent us [] [] refl refl
  unit_calls (t.Loop at (Some k) None us (Some v)) = count_calls at k absent (shape.expr s v.0) us [] (nodes.in_expr v.0) refl v.1
  unit_calls (t.Loop at (Some k) (Some c) us None) = count_calls at k (shape.expr s c.0) absent us (nodes.in_expr c.0) [] c.1 refl
  unit_calls (t.Loop at (Some k) (Some c) us (Some v)) =
      count_calls at k (shape.expr s c.0) (shape.expr s v.0) us (nodes.in_expr c.0) (nodes.in_expr v.0) c.1 v.1
  unit_calls (t.Leave at n None) = refl
  unit_calls (t.Leave at n (Some v)) =
      whole_of at (form.leave s n.text) (part (shape.expr s v.0) none) refl ∙ one_part (shape.expr s v.0) ∙ v.1

  branch_calls : (y : Below Branch-F)
      → pair_calls (shape.branch_step s
      (map-Branch _ _ _ _ _ _ _ _ _ _ _ _ _ _ (shape.expr s) (shape.limit s) (shape.unit s) (shape.branch s) (shape.case s) (shape.counter s) (shape.item s)
      (map-Branch _ _ _ _ _ _ _ _ _ _ _ _ _ _ fst fst fst fst fst fst fst y)))
      ≡ found (nodes.branch_step
      (map-Branch _ _ _ _ _ _ _ _ _ _ _ _ _ _ nodes.in_expr nodes.in_limit nodes.in_unit nodes.in_branch nodes.in_case nodes.in_counter nodes.in_item
      (map-Branch _ _ _ _ _ _ _ _ _ _ _ _ _ _ fst fst fst fst fst fst fst y)))
  branch_calls y =
      split (called_in (shape.expr s y.condition.0)) (called_in (shape.units Open (map (shape.unit s) (map fst y.units)))) (nodes.in_expr y.condition.0) _
      y.condition.1 (units_call Open y.units)

  no_labels : (ls : List Label) (ns : List Node) → found (nodes.labels ls ++ ns) ≡ found ns
  no_labels [] ns = refl
  no_labels (label.Number at n ∷ ls) ns = no_labels ls ns
  no_labels (label.Named n ∷ ls) ns = no_labels ls ns

  case_calls : (y : Below Case-F)
      → called_in (shape.case_step s
      (map-Case _ _ _ _ _ _ _ _ _ _ _ _ _ _ (shape.expr s) (shape.limit s) (shape.unit s) (shape.branch s) (shape.case s) (shape.counter s) (shape.item s)
      (map-Case _ _ _ _ _ _ _ _ _ _ _ _ _ _ fst fst fst fst fst fst fst y))).1
      ≡ found (nodes.case_step
      (map-Case _ _ _ _ _ _ _ _ _ _ _ _ _ _ nodes.in_expr nodes.in_limit nodes.in_unit nodes.in_branch nodes.in_case nodes.in_counter nodes.in_item
      (map-Case _ _ _ _ _ _ _ _ _ _ _ _ _ _ fst fst fst fst fst fst fst y)))
  case_calls y = units_call Open y.units ∙ sym (no_labels y.labels (nodes.all (map nodes.in_unit (map fst y.units))))

  abbrev counter_with : Name → Option ((e : Expr) × E e) → (l : Limit) × L l → Below Counter-F
  counter_with n from l = record { name = n; from = from; limit = l }

  counter_of : (n : Name) (from : Option ((e : Expr) × E e)) (l : (l : Limit) × L l)
      → CounterCalls (shape.counter_step s
      (map-Counter _ _ _ _ _ _ _ _ _ _ _ _ _ _ (shape.expr s) (shape.limit s) (shape.unit s) (shape.branch s) (shape.case s) (shape.counter s) (shape.item s)
      (map-Counter _ _ _ _ _ _ _ _ _ _ _ _ _ _ fst fst fst fst fst fst fst (counter_with n from l))))
      (nodes.counter_step
      (map-Counter _ _ _ _ _ _ _ _ _ _ _ _ _ _ nodes.in_expr nodes.in_limit nodes.in_unit nodes.in_branch nodes.in_case nodes.in_counter nodes.in_item
      (map-Counter _ _ _ _ _ _ _ _ _ _ _ _ _ _ fst fst fst fst fst fst fst (counter_with n from l))))
  counter_of n None l = (refl, l.1)
  counter_of n (Some e) l =
      (refl, split (called_in (shape.expr s e.0)) (called_in (shape.limit s l.0).1) (nodes.in_expr e.0) (nodes.in_limit l.0) e.1 l.1)

  counter_calls : (y : Below Counter-F)
      → CounterCalls (shape.counter_step s
      (map-Counter _ _ _ _ _ _ _ _ _ _ _ _ _ _ (shape.expr s) (shape.limit s) (shape.unit s) (shape.branch s) (shape.case s) (shape.counter s) (shape.item s)
      (map-Counter _ _ _ _ _ _ _ _ _ _ _ _ _ _ fst fst fst fst fst fst fst y)))
      (nodes.counter_step
      (map-Counter _ _ _ _ _ _ _ _ _ _ _ _ _ _ nodes.in_expr nodes.in_limit nodes.in_unit nodes.in_branch nodes.in_case nodes.in_counter nodes.in_item
      (map-Counter _ _ _ _ _ _ _ _ _ _ _ _ _ _ fst fst fst fst fst fst fst y)))
  counter_calls y = counter_of y.name y.from y.limit

  abbrev item_with : Name → Option ((e : Expr) × E e) → Below Item-F
  item_with n init = record { name = n; init = init }

  item_of : (n : Name) (init : Option ((e : Expr) × E e)) (h : Held) (of : TypePhrase)
      → called_in (shape.item_step s
      (map-Item _ _ _ _ _ _ _ _ _ _ _ _ _ _ (shape.expr s) (shape.limit s) (shape.unit s) (shape.branch s) (shape.case s) (shape.counter s) (shape.item s)
      (map-Item _ _ _ _ _ _ _ _ _ _ _ _ _ _ fst fst fst fst fst fst fst (item_with n init))))
      ≡ found (nodes.item_step
      (map-Item _ _ _ _ _ _ _ _ _ _ _ _ _ _ nodes.in_expr nodes.in_limit nodes.in_unit nodes.in_branch nodes.in_case nodes.in_counter nodes.in_item
      (map-Item _ _ _ _ _ _ _ _ _ _ _ _ _ _ fst fst fst fst fst fst fst (item_with n init))) h of)
  item_of n None h of = refl
  item_of n (Some e) h of =
      two_call n.at form.initial (form.leaf n.at (form.declares s n.text)) (shape.expr s e.0) [] (found (nodes.in_expr e.0)) refl refl e.1

  item_calls : (y : Below Item-F) (h : Held) (of : TypePhrase)
      → called_in (shape.item_step s
      (map-Item _ _ _ _ _ _ _ _ _ _ _ _ _ _ (shape.expr s) (shape.limit s) (shape.unit s) (shape.branch s) (shape.case s) (shape.counter s) (shape.item s)
      (map-Item _ _ _ _ _ _ _ _ _ _ _ _ _ _ fst fst fst fst fst fst fst y)))
      ≡ found (nodes.item_step
      (map-Item _ _ _ _ _ _ _ _ _ _ _ _ _ _ nodes.in_expr nodes.in_limit nodes.in_unit nodes.in_branch nodes.in_case nodes.in_counter nodes.in_item
      (map-Item _ _ _ _ _ _ _ _ _ _ _ _ _ _ fst fst fst fst fst fst fst y)) h of)
  item_calls y h of = item_of y.name y.init h of

  -- ---- all of them

  unit_called : (u : Statement) → U u
  unit_called = ind-Unit E L U B C K I
      (λ x y is. rw (fold-roll-Expr, fold-roll-Expr, ← is) (expr_calls y))
      (λ x y is. rw (fold-roll-Limit, fold-roll-Limit, ← is) (limit_calls y))
      (λ x y is. rw (fold-roll-Unit, fold-roll-Unit, ← is) (unit_calls y))
      (λ x y is. rw (fold-roll-Branch, fold-roll-Branch, ← is) (branch_calls y))
      (λ x y is. rw (fold-roll-Case, fold-roll-Case, ← is) (case_calls y))
      (λ x y is. rw (fold-roll-Counter, fold-roll-Counter, ← is) (counter_calls y))
      (λ x y is. rw (fold-roll-Item, fold-roll-Item, ← is) (item_calls y))

  all_called : (us : List Statement) → calls (all_of (shape.filled (map (shape.unit s) us))) ≡ uses.in_units s us
  all_called [] = refl
  all_called (u ∷ us) =
      let rest = map (shape.unit s) us in
      filled_call (shape.unit s u) rest
      ∙ split (unit_calls_of (shape.unit s u)) (calls (all_of (shape.filled rest))) (nodes.in_unit u) (nodes.in_units us) (unit_called u) (all_called us)

  -- the units of a body
  pub units_called : (d : Delivery) (us : List Statement) → called_in (shape.units d (map (shape.unit s) us)) ≡ uses.in_units s us
  units_called d us =
      let ps = shape.filled (map (shape.unit s) us) in
      whole 0 form.units (all_of (shape.roles d ps)) refl ∙ roles_call d ps ∙ all_called us

  written_calls : (o : Option Phrase) → called_in (shape.written o) ≡ unit_calls_of o
  written_calls None = refl
  written_calls (Some p) = refl

  -- a unit of a body, in its role
  pub last_called : (d : Delivery) (u : Statement) → called_in (shape.role d (shape.written (shape.unit s u))) ≡ uses.in_unit s u
  last_called d u = role_calls d (shape.written (shape.unit s u)) ∙ written_calls (shape.unit s u) ∙ unit_called u
