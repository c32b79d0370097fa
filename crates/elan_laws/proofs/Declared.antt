-- The names that units declare are found, where their scope has what they declare.
use Rattle.std.proofs.Common.{◌≡◌, ℤ, ℕ, Bool, true, false, if◌then◌else◌, List, [], ◌∷◌, ◌++◌, map, Option, Some, None}
use Rattle.std.specs.Prelude.{flat_map}
use Rattle.std.specs.Option.{is_some}
use Rattle.elan_tree.specs.declared.written_type.Name.{Name}
use Rattle.elan_tree.specs.declared.written_type.Constant.TheVariants as constants
use Rattle.elan_tree.specs.declared.written_type.LetItem.{LetItem}
use Rattle.elan_tree.specs.declared.written_type.LetItem.TheVariants as let_items
use Rattle.elan_tree.specs.declared.written_type.Label.{Label}
use Rattle.elan_tree.specs.declared.written_type.Label.TheVariants as label
use Rattle.elan_tree.specs.declared.phrase.Expr.{Expr}
use Rattle.elan_tree.specs.declared.phrase.Limit.{Limit}
use Rattle.elan_tree.specs.declared.phrase.Branch.{Branch}
use Rattle.elan_tree.specs.declared.phrase.Case.{Case}
use Rattle.elan_tree.specs.declared.phrase.Counter.{Counter}
use Rattle.elan_tree.specs.declared.phrase.Item.{Item}
use Rattle.elan_tree.specs.declared.phrase.Unit.{Unit as Statement}
use Rattle.elan_tree.specs.declared.phrase.Expr.TheOpen as t
use Rattle.elan_tree.specs.declared.phrase.Expr.TheOpen.{Expr-F, Limit-F, Unit-F, Branch-F, Case-F, Counter-F, Item-F}
use Rattle.elan_tree.specs.declared.phrase.Expr.TheFolds.{ind-Unit, map-Expr, map-Limit, map-Unit, map-Branch, map-Case, map-Counter, map-Item}
use Rattle.elan_tree.specs.declared.phrase.Expr.TheFolds.{fold-roll-Expr, fold-roll-Limit, fold-roll-Unit, fold-roll-Branch, fold-roll-Case}
use Rattle.elan_tree.specs.declared.phrase.Expr.TheFolds.{fold-roll-Counter, fold-roll-Item}
use Rattle.elan_laws.specs.Below.elan_scope.specs.declared.delivery.Delivery.{Delivery}
use Rattle.elan_laws.specs.Below.elan_scope.specs.declared.delivery.Delivery.TheVariants.{Open, Nothing, Of}
use Rattle.elan_laws.specs.Below.elan_scope.specs.declared.scope.Scope.{Scope}
use Rattle.elan_laws.specs.Below.elan_scope.specs.Phrase as form
use Rattle.elan_laws.specs.Below.elan_scope.specs.Phrase.{plain, Phrase, phrase, all_of}
use Rattle.std.specs.Str.{bytes_eq}
use Rattle.elan_laws.specs.Below.value_rules.specs.Calls.{begin}
use Rattle.elan_laws.specs.Below.elan_judge.specs.Shape as shape
use Rattle.elan_laws.specs.Below.elan_judge.specs.walks.Steps as walk
use Rattle.elan_tree.specs.declared.written_type.TypePhrase.{TypePhrase}
use Rattle.elan_laws.specs.Below.elan_walk.specs.declared.node.Held.{Held}
use Rattle.elan_laws.specs.Below.elan_walk.specs.declared.node.Held.TheVariants.{Variable, Constant, Bound}
use Rattle.elan_laws.specs.Below.elan_walk.specs.Nodes as nodes
use Rattle.elan_laws.specs.Below.elan_walk.specs.Nodes.{Node, other, sign, of_type, content, item}
use Rattle.elan_laws.specs.Below.elan_scope.specs.declared.scope.Usage.TheVariants.{Counter as Counts}
use Rattle.elan_laws.specs.Below.type_names.specs.Declarations as d
use Rattle.elan_laws.specs.Below.type_names.specs.Types.{defined_by}
use Rattle.elan_laws.specs.Below.elan_walk.specs.declared.definition.Definition.{Definition}
use Rattle.elan_laws.specs.Below.elan_names.specs.declared.type_name.TypeName.{TypeName}
use Rattle.elan_laws.specs.Below.elan_names.specs.declared.entry.Entry.{Entry}
use Rattle.elan_laws.specs.Below.elan_scope.specs.Scope.{find, find_own, find_own_type}
use Rattle.elan_laws.specs.Served.{HasOdd, HasBody, AreServed, AllServed}

abbrev fst : {A : Type 0} {B : A → Type 0} → (a : A) × B a → A
fst x = x.0

-- ---- lists

abbrev pub All : {A : Type 0} → (A → Type 0) → List A → Type 0
All P [] = Unit {0}
All P (x ∷ xs) = P x × All P xs

module _ {A : Type 0} (P : A → Type 0) where
  all_split : (xs ys : List A) → All P (xs ++ ys) → All P xs × All P ys
  all_split [] ys h = (tt, h)
  all_split (x ∷ xs) ys h = let q = all_split xs ys h.1 in ((h.0, q.0), q.1)

  all_join : (xs ys : List A) → All P xs → All P ys → All P (xs ++ ys)
  all_join [] ys h g = g
  all_join (x ∷ xs) ys h g = (h.0, all_join xs ys h.1 g)

  -- what is found in nodes
  nodes_split : (f : Node → List A) (xs ys : List Node) → All P (flat_map f (xs ++ ys)) → All P (flat_map f xs) × All P (flat_map f ys)
  nodes_split f [] ys h = (tt, h)
  nodes_split f (x ∷ xs) ys h =
      let n = all_split (f x) (flat_map f (xs ++ ys)) h in
      let q = nodes_split f xs ys n.1 in
      (all_join (f x) (flat_map f xs) n.0 q.0, q.1)

-- ---- what a scope has

module _ (s : Scope) where
  abbrev pub Named : List ℕ → Type 0
  Named x = is_some (find_own s x) ≡ true

  -- a name of a type
  abbrev pub NamedType : List ℕ → Type 0
  NamedType x = is_some (find_own_type s x) ≡ true

  abbrev pub AllNamed : List Entry → Type 0
  AllNamed es = All (λ (e : Entry). Named e.name) es

  abbrev pub AllDefined : List Definition → Type 0
  AllDefined ds = All (λ (e : Definition). NamedType e.name) ds

-- where these names of types can be seen
module _ (s : Scope) (ts : List TypeName) where
  -- The scope has what these nodes declare.
  abbrev pub Fine : List Node → Type 0
  Fine ns = AllNamed s (flat_map (d.declared ts) ns) × AllDefined s (flat_map defined_by ns)

  split : (xs ys : List Node) → Fine (xs ++ ys) → Fine xs × Fine ys
  split xs ys h =
      let a = nodes_split (λ (e : Entry). Named s e.name) (d.declared ts) xs ys h.0 in
      let b = nodes_split (λ (e : Definition). NamedType s e.name) defined_by xs ys h.1 in
      ((a.0, b.0), (a.1, b.1))

  rest : (x : Node) (xs : List Node) → Fine (x ∷ xs) → Fine xs
  rest x xs h = let q = split (x ∷ []) xs h in q.1

  item_named : (h : Held) (of : TypePhrase) (n : Name) (es : List Entry) → AllNamed s (d.declared ts (item h of n) ++ es) → Named s n.text
  item_named Variable of n es g = g.0
  item_named Constant of n es g = g.0
  item_named Bound of n es g = g.0

  -- its refinements are bodies
  module _ (bodies : (x : List ℕ) → HasBody s x (find s x)) where
    abbrev pub MayIn : Option Phrase → Type 0
    MayIn None = Unit {0}
    MayIn (Some p) = AreServed p

    abbrev AllMay : List (Option Phrase) → Type 0
    AllMay [] = Unit {0}
    AllMay (u ∷ us) = MayIn u × AllMay us

    abbrev E : Expr → Type 0
    E e = Fine (nodes.in_expr e) → AreServed (shape.expr s e)

    abbrev L : Limit → Type 0
    L l = Fine (nodes.in_limit l) → AreServed (shape.limit s l).1

    abbrev U : Statement → Type 0
    U u = Fine (nodes.in_unit u) → MayIn (shape.unit s u)

    abbrev PairIn : Phrase × Phrase → Type 0
    PairIn p = AreServed p.0 × AreServed p.1

    abbrev B : Branch → Type 0
    B b = Fine (nodes.in_branch b) → PairIn (shape.branch s b)

    abbrev C : Case → Type 0
    C c = Fine (nodes.in_case c) → AreServed (shape.case s c).1

    abbrev CounterIn : shape.Counted → Type 0
    CounterIn k = AllServed (all_of (k.0 ∷ k.1 ∷ k.2 ∷ []))

    abbrev K : Counter → Type 0
    K k = Fine (nodes.in_counter k) → CounterIn (shape.counter s k)

    abbrev ItemIn : Phrase → nodes.Declares → Type 0
    ItemIn p ns = (h : Held) (of : TypePhrase) → Fine (ns h of) → AreServed p

    abbrev I : Item → Type 0
    I i = ItemIn (shape.item s i) (nodes.in_item i)

    -- ---- lists

    exprs_in : (es : List ((e : Expr) × E e)) → Fine (nodes.all (map nodes.in_expr (map fst es))) → AllServed (all_of (map (shape.expr s) (map fst es)))
    exprs_in [] h = tt
    exprs_in (e ∷ es) h = let q = split (nodes.in_expr e.0) (nodes.all (map nodes.in_expr (map fst es))) h in (e.1 q.0, exprs_in es q.1)

    actuals_in : (x : List ℕ) (ps : List Phrase) → AllServed (all_of ps) → AllServed (all_of (shape.actuals x ps))
    actuals_in x ps h = by_name (bytes_eq x begin)
      where
        start_in : (p : Phrase) → AreServed p → AreServed (shape.as_start p)
        start_in (phrase at (plain (form.start may)) qs) g = g
        start_in p g = g

        second : (qs : List Phrase) → AllServed (all_of qs) → AllServed (all_of (shape.second_starts qs))
        second [] g = g
        second (p ∷ []) g = g
        second (p ∷ q ∷ qs) g = (g.0, (start_in q g.1.0, g.1.1))

        by_name : (b : Bool) → AllServed (all_of (if b then shape.second_starts ps else ps))
        by_name true = second ps h
        by_name false = h

    append_in : (ps qs : List Phrase) → AllServed (all_of ps) → AllServed (all_of qs) → AllServed (all_of (ps ++ qs))
    append_in [] qs h g = g
    append_in (p ∷ ps) qs h g = (h.0, append_in ps qs h.1 g)

    branches_in : (bs : List ((b : Branch) × B b)) → Fine (nodes.all (map nodes.in_branch (map fst bs)))
        → AllServed (all_of (shape.branches (map (shape.branch s) (map fst bs))))
    branches_in [] h = tt
    branches_in (b ∷ bs) h =
        let q = split (nodes.in_branch b.0) (nodes.all (map nodes.in_branch (map fst bs))) h in
        let p = b.1 q.0 in (p.0, (p.1, branches_in bs q.1))

    items_in : (a : Held) (of : TypePhrase) (is : List ((i : Item) × I i))
        → Fine (flat_map (λ (i : nodes.Declares). i a of) (map nodes.in_item (map fst is))) → AllServed (all_of (map (shape.item s) (map fst is)))
    items_in a of [] h = tt
    items_in a of (i ∷ is) h =
        let q = split (nodes.in_item i.0 a of) (flat_map (λ (i : nodes.Declares). i a of) (map nodes.in_item (map fst is))) h in
        (i.1 a of q.0, items_in a of is q.1)

    declared_in : (n : Node) (a : Held) (of : TypePhrase) (is : List ((i : Item) × I i))
        → Fine (n ∷ flat_map (λ (i : nodes.Declares). i a of) (map nodes.in_item (map fst is))) → AllServed (all_of (map (shape.item s) (map fst is)))
    declared_in n a of is h = items_in a of is (rest n (flat_map (λ (i : nodes.Declares). i a of) (map nodes.in_item (map fst is))) h)

    role_in : (d : Delivery) (p : Phrase) → AreServed p → AreServed (shape.role d p)
    role_in Open p h = h
    role_in Nothing p h = (tt, (h, tt))
    role_in (Of t) p h = (tt, (h, tt))

    roles_in : (d : Delivery) (ps : List Phrase) → AllServed (all_of ps) → AllServed (all_of (shape.roles d ps))
    roles_in d [] h = tt
    roles_in d (p ∷ []) h = (role_in d p h.0, tt)
    roles_in d (p ∷ q ∷ ps) h = (role_in Nothing p h.0, roles_in d (q ∷ ps) h.1)

    filled_in : (us : List (Option Phrase)) → AllMay us → AllServed (all_of (shape.filled us))
    filled_in [] h = tt
    filled_in (None ∷ us) h = filled_in us h.1
    filled_in (Some p ∷ us) h = (h.0, filled_in us h.1)

    list_in : (d : Delivery) (us : List (Option Phrase)) → AllMay us → AreServed (shape.units d us)
    list_in d us h = (tt, roles_in d (shape.filled us) (filled_in us h))

    all_may : (us : List ((u : Statement) × U u)) → Fine (nodes.all (map nodes.in_unit (map fst us))) → AllMay (map (shape.unit s) (map fst us))
    all_may [] h = tt
    all_may (u ∷ us) h = let q = split (nodes.in_unit u.0) (nodes.all (map nodes.in_unit (map fst us))) h in (u.1 q.0, all_may us q.1)

    units_in : (d : Delivery) (us : List ((u : Statement) × U u)) → Fine (nodes.all (map nodes.in_unit (map fst us)))
        → AreServed (shape.units d (map (shape.unit s) (map fst us)))
    units_in d us h = list_in d (map (shape.unit s) (map fst us)) (all_may us h)

    labels_in : (ns : List ℤ) (ls : List Label) → AllServed (all_of (shape.label_phrases s ns ls))
    labels_in ns [] = tt
    labels_in ns (label.Number at n ∷ ls) = ((tt, tt), labels_in (ns ++ n ∷ []) ls)
    labels_in ns (label.Named n ∷ ls) = ((tt, tt), labels_in (ns ++ shape.number s (label.Named n)) ls)

    arms_in : (ns : List ℤ) (cs : List ((c : Case) × C c)) → Fine (nodes.all (map nodes.in_case (map fst cs)))
        → AllServed (all_of (shape.arms s ns (map (shape.case s) (map fst cs))))
    arms_in ns [] h = tt
    arms_in ns (c ∷ cs) h =
        let q = split (nodes.in_case c.0) (nodes.all (map nodes.in_case (map fst cs))) h in
        let ls = (shape.case s c.0).0 in
        ((tt, labels_in ns ls), (c.1 q.0, arms_in (ns ++ walk.numbers s ls) cs q.1))

    let_in : (i : LetItem) (ns : List Node) → Fine (nodes.let_item i ∷ ns) → AreServed (shape.let_item s i)
    let_in (let_items.Constant n (constants.Number a z)) ns h = (tt, ((h.0.0, tt), ((tt, tt), tt)))
    let_in (let_items.Constant n (constants.Text a x)) ns h = (tt, ((h.0.0, tt), ((tt, tt), tt)))
    let_in (let_items.Constant n (constants.Truth a b)) ns h = (tt, ((h.0.0, tt), ((tt, tt), tt)))
    let_in (let_items.Abbreviation n of) ns h = (h.1.0, tt)

    lets_in : (is : List LetItem) → Fine (map nodes.let_item is) → AllServed (all_of (map (shape.let_item s) is))
    lets_in [] h = tt
    lets_in (i ∷ is) h = (let_in i (map nodes.let_item is) h, lets_in is (rest (nodes.let_item i) (map nodes.let_item is) h))

    branches_odd : (o : Phrase) (bs : List ((b : Branch) × B b)) → HasOdd (all_of (shape.branches (map (shape.branch s) (map fst bs)) ++ o ∷ []))
    branches_odd o [] = tt
    branches_odd o (b ∷ bs) = branches_odd o bs

    arms_odd : (o : Phrase) (ns : List ℤ) (cs : List ((c : Case) × C c)) → HasOdd (all_of (shape.arms s ns (map (shape.case s) (map fst cs)) ++ o ∷ []))
    arms_odd o ns [] = tt
    arms_odd o ns (c ∷ cs) = arms_odd o (ns ++ walk.numbers s (shape.case s c.0).0) cs

    -- ---- what may be left out

    abbrev May : Option ((e : Expr) × E e) → Phrase
    May None = form.leaf 0 form.absent
    May (Some e) = shape.expr s e.0

    abbrev may_nodes : Option ((e : Expr) × E e) → List Node
    may_nodes None = []
    may_nodes (Some e) = nodes.in_expr e.0

    may_in : (o : Option ((e : Expr) × E e)) → Fine (may_nodes o) → AreServed (May o)
    may_in None h = (tt, tt)
    may_in (Some e) h = e.1 h

    abbrev Other : Option (List ((u : Statement) × U u)) → Phrase
    Other None = form.leaf 0 form.absent
    Other (Some us) = shape.units Open (map (shape.unit s) (map fst us))

    abbrev other_nodes : Option (List ((u : Statement) × U u)) → List Node
    other_nodes None = []
    other_nodes (Some us) = nodes.all (map nodes.in_unit (map fst us))

    other_in : (o : Option (List ((u : Statement) × U u))) → Fine (other_nodes o) → AllServed (all_of (Other o ∷ []))
    other_in None h = ((tt, tt), tt)
    other_in (Some us) h = (units_in Open us h, tt)

    abbrev Counting : Option ((k : Counter) × K k) → List Phrase
    Counting None = []
    Counting (Some k) = let c = shape.counter s k.0 in c.0 ∷ c.1 ∷ c.2 ∷ []

    abbrev count_nodes : Option ((k : Counter) × K k) → List Node
    count_nodes None = []
    count_nodes (Some k) = nodes.in_counter k.0

    count_in : (o : Option ((k : Counter) × K k)) → Fine (count_nodes o) → AllServed (all_of (Counting o))
    count_in None h = tt
    count_in (Some k) h = k.1 h

    -- ---- one layer

    abbrev Below : (Type 0 → Type 0 → Type 0 → Type 0 → Type 0 → Type 0 → Type 0 → Type 0) → Type 0
    Below F = F ((e : Expr) × E e) ((l : Limit) × L l) ((u : Statement) × U u) ((b : Branch) × B b) ((c : Case) × C c) ((k : Counter) × K k) ((i : Item) × I i)

    two_in : (p q : Phrase) (ns ms : List Node) → (Fine ns → AreServed p) → (Fine ms → AreServed q) → Fine (ns ++ ms) → AllServed (all_of (p ∷ q ∷ []))
    two_in p q ns ms f g h = let r = split ns ms h in (f r.0, (g r.1, tt))

    choice_in : (branches : List ((b : Branch) × B b)) (o : Option (List ((u : Statement) × U u)))
        → Fine (nodes.all (map nodes.in_branch (map fst branches)) ++ other_nodes o)
        → AllServed (all_of (shape.branches (map (shape.branch s) (map fst branches)) ++ Other o ∷ []))
    choice_in branches o h =
        let q = split (nodes.all (map nodes.in_branch (map fst branches))) (other_nodes o) h in
        append_in (shape.branches (map (shape.branch s) (map fst branches))) (Other o ∷ []) (branches_in branches q.0) (other_in o q.1)

    selection_in : (of : (e : Expr) × E e) (cases : List ((c : Case) × C c)) (o : Option (List ((u : Statement) × U u)))
        → Fine (nodes.in_expr of.0 ++ nodes.all (map nodes.in_case (map fst cases)) ++ other_nodes o)
        → AllServed (all_of (shape.expr s of.0 ∷ shape.arms s [] (map (shape.case s) (map fst cases)) ++ Other o ∷ []))
    selection_in of cases o h =
        let q = split (nodes.in_expr of.0 ++ nodes.all (map nodes.in_case (map fst cases))) (other_nodes o) h in
        let r = split (nodes.in_expr of.0) (nodes.all (map nodes.in_case (map fst cases))) q.0 in
        (of.1 r.0, append_in (shape.arms s [] (map (shape.case s) (map fst cases))) (Other o ∷ []) (arms_in [] cases r.1) (other_in o q.1))

    expr_in : (y : Below Expr-F) → Fine (nodes.expr_step (map-Expr _ _ _ _ _ _ _ _ _ _ _ _ _ _
        nodes.in_expr nodes.in_limit nodes.in_unit nodes.in_branch nodes.in_case nodes.in_counter nodes.in_item
        (map-Expr _ _ _ _ _ _ _ _ _ _ _ _ _ _ fst fst fst fst fst fst fst y)))
        → AreServed (shape.expr_step s (map-Expr _ _ _ _ _ _ _ _ _ _ _ _ _ _
        (shape.expr s) (shape.limit s) (shape.unit s) (shape.branch s) (shape.case s) (shape.counter s) (shape.item s)
        (map-Expr _ _ _ _ _ _ _ _ _ _ _ _ _ _ fst fst fst fst fst fst fst y)))
    expr_in (t.Number at n) h = (tt, tt)
    expr_in (t.Text at x) h = (tt, tt)
    expr_in (t.Truth at b) h = (tt, tt)
    expr_in (t.Named n) h = (bodies n.text, tt)
    expr_in (t.Call n actuals) h =
        (tt, actuals_in n.text (map (shape.expr s) (map fst actuals)) (exprs_in actuals (rest (other n) (nodes.all (map nodes.in_expr (map fst actuals))) h)))
    expr_in (t.Procedure at n) h = (tt, ((tt, tt), tt))
    expr_in (t.Concr at a) h = (tt, (a.1 h, tt))
    expr_in (t.Bracket at a) h = (tt, (a.1 h, tt))
    expr_in (t.If at branches None) h = (branches_odd (form.leaf 0 form.absent) branches, choice_in branches None h)
    expr_in (t.If at branches (Some us)) h =
        (branches_odd (shape.units Open (map (shape.unit s) (map fst us))) branches, choice_in branches (Some us) h)
    expr_in (t.Select at of cases None) h = (arms_odd (form.leaf 0 form.absent) [] cases, selection_in of cases None h)
    expr_in (t.Select at of cases (Some us)) h =
        (arms_odd (shape.units Open (map (shape.unit s) (map fst us))) [] cases, selection_in of cases (Some us) h)
    expr_in (t.Index at a b) h = (tt, two_in (shape.expr s a.0) (shape.expr s b.0) (nodes.in_expr a.0) (nodes.in_expr b.0) a.1 b.1 h)
    expr_in (t.Field at a x) h = let q = split (nodes.in_expr a.0) (other x ∷ []) h in (tt, (a.1 q.0, tt))
    expr_in (t.Monadic at o a) h = (tt, (a.1 (rest (sign o) (nodes.in_expr a.0) h), tt))
    expr_in (t.Dyadic at o a b) h =
        let right : Fine (sign o ∷ nodes.in_expr b.0) → AreServed (shape.expr s b.0) = λ g. b.1 (rest (sign o) (nodes.in_expr b.0) g) in
        (tt, two_in (shape.expr s a.0) (shape.expr s b.0) (nodes.in_expr a.0) (sign o ∷ nodes.in_expr b.0) a.1 right h)
    expr_in (t.Cand at a b) h = (tt, two_in (shape.expr s a.0) (shape.expr s b.0) (nodes.in_expr a.0) (nodes.in_expr b.0) a.1 b.1 h)
    expr_in (t.Cor at a b) h = (tt, two_in (shape.expr s a.0) (shape.expr s b.0) (nodes.in_expr a.0) (nodes.in_expr b.0) a.1 b.1 h)

    limit_in : (y : Below Limit-F) → Fine (nodes.limit_step (map-Limit _ _ _ _ _ _ _ _ _ _ _ _ _ _
        nodes.in_expr nodes.in_limit nodes.in_unit nodes.in_branch nodes.in_case nodes.in_counter nodes.in_item
        (map-Limit _ _ _ _ _ _ _ _ _ _ _ _ _ _ fst fst fst fst fst fst fst y)))
        → AreServed (shape.limit_step s (map-Limit _ _ _ _ _ _ _ _ _ _ _ _ _ _
        (shape.expr s) (shape.limit s) (shape.unit s) (shape.branch s) (shape.case s) (shape.counter s) (shape.item s)
        (map-Limit _ _ _ _ _ _ _ _ _ _ _ _ _ _ fst fst fst fst fst fst fst y))).1
    limit_in t.Without h = (tt, tt)
    limit_in (t.Upto a) h = a.1 h
    limit_in (t.Downto a) h = a.1 h

    loop_in : (k : Option ((k : Counter) × K k)) (c : Option ((e : Expr) × E e)) (us : List ((u : Statement) × U u)) (v : Option ((e : Expr) × E e))
        → Fine (count_nodes k ++ may_nodes c ++ nodes.all (map nodes.in_unit (map fst us)) ++ may_nodes v)
        → AllServed (all_of (Counting k ++ May c ∷ shape.units Nothing (map (shape.unit s) (map fst us)) ∷ May v ∷ []))
    loop_in k c us v h =
        let inside = nodes.all (map nodes.in_unit (map fst us)) in
        let q = split (count_nodes k ++ may_nodes c ++ inside) (may_nodes v) h in
        let r = split (count_nodes k ++ may_nodes c) inside q.0 in
        let l = split (count_nodes k) (may_nodes c) r.0 in
        append_in (Counting k) (May c ∷ shape.units Nothing (map (shape.unit s) (map fst us)) ∷ May v ∷ []) (count_in k l.0)
        (may_in c l.1, (units_in Nothing us r.1, (may_in v q.1, tt)))

    unit_in_layer : (y : Below Unit-F) → Fine (nodes.unit_step (map-Unit _ _ _ _ _ _ _ _ _ _ _ _ _ _
        nodes.in_expr nodes.in_limit nodes.in_unit nodes.in_branch nodes.in_case nodes.in_counter nodes.in_item
        (map-Unit _ _ _ _ _ _ _ _ _ _ _ _ _ _ fst fst fst fst fst fst fst y)))
        → MayIn (shape.unit_step s (map-Unit _ _ _ _ _ _ _ _ _ _ _ _ _ _
        (shape.expr s) (shape.limit s) (shape.unit s) (shape.branch s) (shape.case s) (shape.counter s) (shape.item s)
        (map-Unit _ _ _ _ _ _ _ _ _ _ _ _ _ _ fst fst fst fst fst fst fst y)))
    unit_in_layer t.Empty h = tt
    unit_in_layer (t.Let at items) h = (tt, lets_in items h)
    unit_in_layer (t.Variables at of items) h = (tt, declared_in (of_type of) Variable of items h)
    unit_in_layer (t.Constants at of items) h = (tt, declared_in (of_type of) Constant of items h)
    unit_in_layer (t.Bound at of items) h = (tt, declared_in (content of) Bound of items h)
    unit_in_layer (t.Value a) h = (tt, (a.1 h, tt))
    unit_in_layer (t.Becomes at a b) h = (tt, two_in (shape.expr s a.0) (shape.expr s b.0) (nodes.in_expr a.0) (nodes.in_expr b.0) a.1 b.1 h)
    unit_in_layer (t.Loop at None None us None) h = (tt, loop_in None None us None h)
    unit_in_layer (t.Loop at None None us (Some v)) h = (tt, loop_in None None us (Some v) h)
    unit_in_layer (t.Loop at None (Some c) us None) h = (tt, loop_in None (Some c) us None h)
    unit_in_layer (t.Loop at None (Some c) us (Some v)) h = (tt, loop_in None (Some c) us (Some v) h)
    unit_in_layer (t.Loop at (Some k) None us None) h = (tt, loop_in (Some k) None us None h)
    unit_in_layer (t.Loop at (Some k) None us (Some v)) h = (tt, loop_in (Some k) None us (Some v) h)
    unit_in_layer (t.Loop at (Some k) (Some c) us None) h = (tt, loop_in (Some k) (Some c) us None h)
    unit_in_layer (t.Loop at (Some k) (Some c) us (Some v)) h = (tt, loop_in (Some k) (Some c) us (Some v) h)
    unit_in_layer (t.Leave at n None) h = (tt, ((tt, tt), tt))
    unit_in_layer (t.Leave at n (Some v)) h = (tt, (v.1 (rest (other n) (nodes.in_expr v.0) h), tt))

    branch_in : (y : Below Branch-F) → Fine (nodes.branch_step (map-Branch _ _ _ _ _ _ _ _ _ _ _ _ _ _
        nodes.in_expr nodes.in_limit nodes.in_unit nodes.in_branch nodes.in_case nodes.in_counter nodes.in_item
        (map-Branch _ _ _ _ _ _ _ _ _ _ _ _ _ _ fst fst fst fst fst fst fst y)))
        → PairIn (shape.branch_step s (map-Branch _ _ _ _ _ _ _ _ _ _ _ _ _ _
        (shape.expr s) (shape.limit s) (shape.unit s) (shape.branch s) (shape.case s) (shape.counter s) (shape.item s)
        (map-Branch _ _ _ _ _ _ _ _ _ _ _ _ _ _ fst fst fst fst fst fst fst y)))
    branch_in y h =
        let q = split (nodes.in_expr y.condition.0) (nodes.all (map nodes.in_unit (map fst y.units))) h in (y.condition.1 q.0, units_in Open y.units q.1)

    case_in : (y : Below Case-F) → Fine (nodes.case_step (map-Case _ _ _ _ _ _ _ _ _ _ _ _ _ _
        nodes.in_expr nodes.in_limit nodes.in_unit nodes.in_branch nodes.in_case nodes.in_counter nodes.in_item
        (map-Case _ _ _ _ _ _ _ _ _ _ _ _ _ _ fst fst fst fst fst fst fst y)))
        → AreServed (shape.case_step s (map-Case _ _ _ _ _ _ _ _ _ _ _ _ _ _
        (shape.expr s) (shape.limit s) (shape.unit s) (shape.branch s) (shape.case s) (shape.counter s) (shape.item s)
        (map-Case _ _ _ _ _ _ _ _ _ _ _ _ _ _ fst fst fst fst fst fst fst y))).1
    case_in y h =
        let q = split (nodes.labels y.labels) (nodes.all (map nodes.in_unit (map fst y.units))) h in units_in Open y.units q.1

    counter_of : (n : Name) (from : Option ((e : Expr) × E e)) (l : (l : Limit) × L l) → Fine (other n ∷ may_nodes from ++ nodes.in_limit l.0)
        → CounterIn (form.name Counts n.at s n.text, May from, (shape.limit s l.0).1, (shape.limit s l.0).0)
    counter_of n from l h =
        let q = split (may_nodes from) (nodes.in_limit l.0) (rest (other n) (may_nodes from ++ nodes.in_limit l.0) h) in
        ((bodies n.text, tt), (may_in from q.0, (l.1 q.1, tt)))

    abbrev CounterLayer : Below Counter-F → Type 0
    CounterLayer y = Fine (nodes.counter_step (map-Counter _ _ _ _ _ _ _ _ _ _ _ _ _ _
        nodes.in_expr nodes.in_limit nodes.in_unit nodes.in_branch nodes.in_case nodes.in_counter nodes.in_item
        (map-Counter _ _ _ _ _ _ _ _ _ _ _ _ _ _ fst fst fst fst fst fst fst y)))
        → CounterIn (shape.counter_step s (map-Counter _ _ _ _ _ _ _ _ _ _ _ _ _ _
        (shape.expr s) (shape.limit s) (shape.unit s) (shape.branch s) (shape.case s) (shape.counter s) (shape.item s)
        (map-Counter _ _ _ _ _ _ _ _ _ _ _ _ _ _ fst fst fst fst fst fst fst y)))

    counter_by : (n : Name) (from : Option ((e : Expr) × E e)) (l : (l : Limit) × L l) → CounterLayer (record { name = n; from = from; limit = l })
    counter_by n None l = λ h. counter_of n None l h
    counter_by n (Some e) l = λ h. counter_of n (Some e) l h

    counter_in : (y : Below Counter-F) → CounterLayer y
    counter_in y = counter_by y.name y.from y.limit

    abbrev ItemLayer : Below Item-F → Type 0
    ItemLayer y = ItemIn (shape.item_step s (map-Item _ _ _ _ _ _ _ _ _ _ _ _ _ _
        (shape.expr s) (shape.limit s) (shape.unit s) (shape.branch s) (shape.case s) (shape.counter s) (shape.item s)
        (map-Item _ _ _ _ _ _ _ _ _ _ _ _ _ _ fst fst fst fst fst fst fst y))) (nodes.item_step (map-Item _ _ _ _ _ _ _ _ _ _ _ _ _ _
        nodes.in_expr nodes.in_limit nodes.in_unit nodes.in_branch nodes.in_case nodes.in_counter nodes.in_item
        (map-Item _ _ _ _ _ _ _ _ _ _ _ _ _ _ fst fst fst fst fst fst fst y)))

    item_by : (n : Name) (init : Option ((e : Expr) × E e)) → ItemLayer (record { name = n; init = init })
    item_by n None = λ a of h. (item_named a of n [] h.0, tt)
    item_by n (Some e) = λ a of h.
        (tt, ((item_named a of n (flat_map (d.declared ts) (nodes.in_expr e.0)) h.0, tt), (e.1 (rest (item a of n) (nodes.in_expr e.0) h), tt)))

    item_in : (y : Below Item-F) → ItemLayer y
    item_in y = item_by y.name y.init

    -- ---- all of them

    unit_in : (u : Statement) → U u
    unit_in = ind-Unit E L U B C K I
        (λ x y is. rw (fold-roll-Expr, fold-roll-Expr, ← is) (expr_in y))
        (λ x y is. rw (fold-roll-Limit, fold-roll-Limit, ← is) (limit_in y))
        (λ x y is. rw (fold-roll-Unit, fold-roll-Unit, ← is) (unit_in_layer y))
        (λ x y is. rw (fold-roll-Branch, fold-roll-Branch, ← is) (branch_in y))
        (λ x y is. rw (fold-roll-Case, fold-roll-Case, ← is) (case_in y))
        (λ x y is. rw (fold-roll-Counter, fold-roll-Counter, ← is) (counter_in y))
        (λ x y is. rw (fold-roll-Item, fold-roll-Item, ← is) (item_in y))

    written_in : (u : Option Phrase) → MayIn u → AreServed (shape.written u)
    written_in None h = (tt, tt)
    written_in (Some p) h = h

    -- a unit of a level
    pub unit_alone_found : (u : Statement) → Fine (nodes.in_unit u) → AreServed (shape.role Nothing (shape.written (shape.unit s u)))
    unit_alone_found u h = role_in Nothing (shape.written (shape.unit s u)) (written_in (shape.unit s u) (unit_in u h))

    statements_in : (us : List Statement) → Fine (nodes.in_units us) → AllMay (map (shape.unit s) us)
    statements_in [] h = tt
    statements_in (u ∷ us) h = let q = split (nodes.in_unit u) (nodes.in_units us) h in (unit_in u q.0, statements_in us q.1)

    -- the units of a body
    pub body_units_found : (d : Delivery) (us : List Statement) → Fine (nodes.in_units us) → AreServed (shape.units d (map (shape.unit s) us))
    body_units_found d us h = list_in d (map (shape.unit s) us) (statements_in us h)
