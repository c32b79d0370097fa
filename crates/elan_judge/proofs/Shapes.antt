-- The phrases of forms some of whose parts may be left out.
use Rattle.std.proofs.Common.{◌≡◌, ℕ, ℤ, Bool, true, false, if◌then◌else◌, ◌<◌, ◌≤◌, arith, List, [], ◌∷◌, ◌++◌, length, get_or, take, drop, ◌-◌, map, Option, Some, None, Result, Ok, refl, sym, ap, subst, ◌∙◌}
use Rattle.std.specs.Prelude.{option_map}
use Rattle.std.proofs.lemmas.List.{take_all}
use Rattle.elan_tree.specs.declared.phrase.Expr.{Expr, roll-Expr}
use Rattle.elan_tree.specs.declared.phrase.Expr.TheVariants as expression
use Rattle.elan_tree.specs.declared.phrase.Branch.{Branch, rolls-Branch'}
use Rattle.elan_tree.specs.declared.phrase.Case.{Case, rolls-Case'}
use Rattle.elan_tree.specs.declared.phrase.Counter.{Counter, roll-Counter, rolls-Counter'}
use Rattle.elan_tree.specs.declared.phrase.Item.{Item, roll-Item, rolls-Item'}
use Rattle.elan_tree.specs.declared.phrase.Limit.{Limit}
use Rattle.elan_tree.specs.declared.written_type.Name.{Name}
use Rattle.elan_tree.specs.declared.written_type.LetItem.{LetItem}
use Rattle.elan_tree.specs.declared.written_type.Label.{Label}
use Rattle.elan_tree.specs.declared.written_type.TypePhrase.{TypePhrase}
use Rattle.elan_tree.specs.declared.phrase.Unit.{Unit as Statement, roll-Unit}
use Rattle.elan_tree.specs.declared.phrase.Unit.TheVariants as statement
use Rattle.elan_tree.specs.declared.phrase.Expr.TheOpen as t
use Rattle.elan_tree.specs.declared.phrase.Expr.TheFolds.{fold-roll-Expr, fold-roll-Unit, fold-roll-Branch, fold-roll-Case, fold-roll-Counter, fold-roll-Item}
use Rattle.elan_scope.specs.declared.trouble.Trouble.{Trouble}
use Rattle.elan_meant.specs.declared.meant.Meant.{Meant}
use Rattle.elan_meant.specs.declared.meant.Meant.TheVariants.{Absent}
use Rattle.elan_scope.specs.Answer.{Is}
use Rattle.std.specs.Str.{bytes_eq}
use Rattle.elan_judge.specs.Below.value_rules.specs.Calls.{begin}
use Rattle.elan_rules.specs.Meaning.{judged, judged_all}
use Rattle.elan_scope.specs.declared.delivery.Delivery.TheVariants.{Open, Nothing}
use Rattle.elan_scope.specs.declared.known.Known.{Known}
use Rattle.elan_scope.specs.declared.scope.Scope.{Scope}
use Rattle.elan_scope.specs.declared.scope.Usage.TheVariants.{Counter as Counts}
use Rattle.elan_scope.specs.Phrase as form
use Rattle.elan_scope.specs.Phrase.{plain, Phrase, phrase, Parts, part, leaf, around, pair, name, all_of}
use Rattle.elan_judge.specs.Shape as shape
use Rattle.elan_judge.specs.walks.Steps as walk

-- a list by its first elements
pub alone : {X : Type 0} (all : List X) (a : X) → 1 ≤ length all → length all < 2 → a ≡ get_or all 0 a → all ≡ a ∷ []
alone [] a ge lt e = absurd (omega (arith, ge))
alone (x ∷ []) a ge lt e = ap (λ y. y ∷ []) (sym e)
alone (x ∷ y ∷ rest) a ge lt e = absurd (omega (arith, lt))

pub firsts : {X : Type 0} (all : List X) (a b : X) → 2 ≤ length all → a ≡ get_or all 0 a → b ≡ get_or all 1 b
    → all ≡ a ∷ b ∷ take (length all - 2) (drop 2 all)
firsts [] a b ge e f = absurd (omega (arith, ge))
firsts (x ∷ []) a b ge e f = absurd (omega (arith, ge))
firsts (x ∷ y ∷ rest) a b ge e f =
    ap (λ z. z ∷ y ∷ rest) (sym e) ∙ ap (λ z. a ∷ z ∷ rest) (sym f)
    ∙ ap (λ zs. a ∷ b ∷ zs) (sym (take_all (length (x ∷ y ∷ rest) - 2) rest (omega arith)))

module _ (s : Scope) where
  abbrev pub units_of : Option (List Statement) → Phrase
  units_of o = shape.written (option_map (shape.units Open) (option_map (λ us. map (shape.unit s) us) o))

  abbrev pub choice_parts : List Branch → Option (List Statement) → Parts
  choice_parts bs o = all_of (shape.branches (map (shape.branch s) bs) ++ units_of o ∷ [])

  abbrev pub case_parts : List Case → Option (List Statement) → Parts
  case_parts cs o = all_of (shape.arms s [] (map (shape.case s) cs) ++ units_of o ∷ [])

  choice_rolled : (at : ℕ) (bs : List Branch) (o : Option (List Statement))
      → shape.expr s (roll-Expr (t.If at bs o)) ≡ phrase at (plain form.choice) (choice_parts bs o)
  choice_rolled at bs None = rw fold-roll-Expr refl
  choice_rolled at bs (Some us) = rw fold-roll-Expr refl

  pub choice_shape : (at : ℕ) (bs : List Branch) (o : Option (List Statement))
      → shape.expr s (expression.If at bs o) ≡ phrase at (plain form.choice) (choice_parts bs o)
  choice_shape at bs o = ap (shape.expr s) (sym (expression.rolls-If at bs o)) ∙ choice_rolled at bs o

  selection_rolled : (at : ℕ) (v : Expr) (cs : List Case) (o : Option (List Statement))
      → shape.expr s (roll-Expr (t.Select at v cs o)) ≡ phrase at (plain form.selection) (part (shape.expr s v) (case_parts cs o))
  selection_rolled at v cs None = rw fold-roll-Expr refl
  selection_rolled at v cs (Some us) = rw fold-roll-Expr refl

  pub selection_shape : (at : ℕ) (v : Expr) (cs : List Case) (o : Option (List Statement))
      → shape.expr s (expression.Select at v cs o) ≡ phrase at (plain form.selection) (part (shape.expr s v) (case_parts cs o))
  selection_shape at v cs o = ap (shape.expr s) (sym (expression.rolls-Select at v cs o)) ∙ selection_rolled at v cs o

  abbrev pub loop_of : ℕ → Option Counter → Option Expr → List Statement → Option Expr → Phrase
  loop_of at k c us u =
      shape.loop at (walk.optional_counter s k) (walk.optional_expr s c) (shape.units Nothing (map (shape.unit s) us)) (walk.optional_expr s u)

  loop_rolled : (at : ℕ) (k : Option Counter) (c : Option Expr) (us : List Statement) (u : Option Expr)
      → shape.unit s (roll-Unit (t.Loop at k c us u)) ≡ Some (loop_of at k c us u)
  loop_rolled at None None us None = rw fold-roll-Unit refl
  loop_rolled at None None us (Some u) = rw fold-roll-Unit refl
  loop_rolled at None (Some c) us None = rw fold-roll-Unit refl
  loop_rolled at None (Some c) us (Some u) = rw fold-roll-Unit refl
  loop_rolled at (Some k) None us None = rw fold-roll-Unit refl
  loop_rolled at (Some k) None us (Some u) = rw fold-roll-Unit refl
  loop_rolled at (Some k) (Some c) us None = rw fold-roll-Unit refl
  loop_rolled at (Some k) (Some c) us (Some u) = rw fold-roll-Unit refl

  pub loop_shape : (at : ℕ) (k : Option Counter) (c : Option Expr) (us : List Statement) (u : Option Expr)
      → shape.unit s (statement.Loop at k c us u) ≡ Some (loop_of at k c us u)
  loop_shape at k c us u = ap (shape.unit s) (sym (statement.rolls-Loop at k c us u)) ∙ loop_rolled at k c us u

  branch_pair : (b : Branch) → shape.branch s b ≡ (shape.expr s b.condition, shape.units Open (map (shape.unit s) b.units))
  branch_pair b = ap (shape.branch s) (sym (rolls-Branch' (record { condition = b.condition; units = b.units }))) ∙ rw fold-roll-Branch refl

  pub branch_shape : (b : Branch) (us' : List Statement) → us' ≡ b.units
      → shape.expr s b.condition ∷ shape.units Open (map (shape.unit s) us') ∷ [] ≡ shape.branches (shape.branch s b ∷ [])
  branch_shape b us' e =
      ap (λ (l : List Statement). shape.expr s b.condition ∷ shape.units Open (map (shape.unit s) l) ∷ []) e
      ∙ sym (ap (λ (p : Phrase × Phrase). shape.branches (p ∷ [])) (branch_pair b))

  case_pair : (c : Case) → shape.case s c ≡ (c.labels, shape.units Open (map (shape.unit s) c.units))
  case_pair c = ap (shape.case s) (sym (rolls-Case' (record { labels = c.labels; units = c.units }))) ∙ rw fold-roll-Case refl

  pub case_labels : (c : Case) → (shape.case s c).0 ≡ c.labels
  case_labels c = ap (λ (p : List Label × Phrase). p.0) (case_pair c)

  pub case_shape : (earlier : List ℤ) (c : Case) (ls' : List Label) (us' : List Statement) → ls' ≡ c.labels → us' ≡ c.units →
      walk.labels_phrase s earlier ls' ∷ shape.units Open (map (shape.unit s) us') ∷ [] ≡ shape.arms s earlier (shape.case s c ∷ [])
  case_shape earlier c ls' us' d e =
      ap (λ (l : List Label). walk.labels_phrase s earlier l ∷ shape.units Open (map (shape.unit s) us') ∷ []) d
      ∙ ap (λ (l : List Statement). walk.labels_phrase s earlier c.labels ∷ shape.units Open (map (shape.unit s) l) ∷ []) e
      ∙ sym (ap (λ (p : List Label × Phrase). shape.arms s earlier (p ∷ [])) (case_pair c))

  counter_rolled : (n : Name) (from : Option Expr) (l : Limit)
      → shape.counter s (roll-Counter (record { name = n; from = from; limit = l }))
      ≡ (name Counts n.at s n.text, walk.optional_expr s from, (shape.limit s l).1, (shape.limit s l).0)
  counter_rolled n None l = rw fold-roll-Counter refl
  counter_rolled n (Some a) l = rw fold-roll-Counter refl

  pub counter_shape : (k : Counter)
      → shape.counter s k ≡ (
        name Counts k.name.at s k.name.text,
        walk.optional_expr s k.from,
        (shape.limit s k.limit).1,
        (shape.limit s k.limit).0,
      )
  counter_shape k =
      ap (shape.counter s) (sym (rolls-Counter' (record { name = k.name; from = k.from; limit = k.limit }))) ∙ counter_rolled k.name k.from k.limit

  -- ---- what is said of the parts, said of the whole

  module _ (known : Known) where
    pub units_absent : (r : Result Meant Trouble) (o : Option (List Statement)) → o ≡ None → r ≡ Ok Absent → Is r (judged known (units_of o))
    units_absent r o i e =
        subst (λ (w : Option (List Statement)). Is r (judged known (units_of w))) (sym i)
        (subst (λ (z : Result Meant Trouble). Is z (judged known (leaf 0 form.absent))) (sym e) refl)

    pub units_written : (r r' : Result Meant Trouble) (o : Option (List Statement)) (us us' : List Statement) → o ≡ Some us → us' ≡ us → r ≡ r'
        → Is r' (judged known (shape.units Open (map (shape.unit s) us'))) → Is r (judged known (units_of o))
    units_written r r' o us us' i e f h =
        subst (λ (w : Option (List Statement)). Is r (judged known (units_of w))) (sym i)
        (subst (λ (l : List Statement). Is r (judged known (shape.units Open (map (shape.unit s) l)))) e
        (subst (λ (z : Result Meant Trouble). Is z (judged known (shape.units Open (map (shape.unit s) us')))) (sym f) h))

  -- ---- actuals

  module _ (known : Known) (row : Result (List Meant) Trouble) (x : List ℕ) where
    abbrev AreJudged : List Phrase → Type 0
    AreJudged ps = Is row (judged_all known (all_of ps))

    -- those of `begin`
    pub begun_is : (a b : Expr) (es all : List Expr) → bytes_eq x begin ≡ true → all ≡ a ∷ b ∷ es
        → Is row (judged_all known (all_of ((shape.expr s a ∷ shape.as_start (shape.expr s b) ∷ []) ++ map (shape.expr s) es)))
        → Is row (judged_all known (all_of (shape.actuals x (map (shape.expr s) all))))
    begun_is a b es all e is h =
        subst (λ (t : Bool). AreJudged (if t then shape.second_starts (map (shape.expr s) all) else map (shape.expr s) all)) (sym e)
        (subst (λ (ys : List Expr). AreJudged (shape.second_starts (map (shape.expr s) ys))) (sym is) h)

    -- those of others, and fewer than two
    pub others_are : (all : List Expr) → bytes_eq x begin ≡ false → Is row (judged_all known (all_of (map (shape.expr s) all)))
        → Is row (judged_all known (all_of (shape.actuals x (map (shape.expr s) all))))
    others_are all e h = subst (λ (t : Bool). AreJudged (if t then shape.second_starts (map (shape.expr s) all) else map (shape.expr s) all)) (sym e) h

    pub only_is : (a : Expr) (all : List Expr) → all ≡ a ∷ [] → Is row (judged_all known (all_of (shape.expr s a ∷ [])))
        → Is row (judged_all known (all_of (shape.actuals x (map (shape.expr s) all))))
    only_is a all is h = by_name (bytes_eq x begin)
      where
        by_name : (t : Bool) → AreJudged (if t then shape.second_starts (map (shape.expr s) all) else map (shape.expr s) all)
        by_name true = subst (λ (ys : List Expr). AreJudged (shape.second_starts (map (shape.expr s) ys))) (sym is) h
        by_name false = subst (λ (ys : List Expr). AreJudged (map (shape.expr s) ys)) (sym is) h

  procedure_shape : (at : ℕ) (n : Name)
      → shape.expr s (expression.Procedure at n) ≡ around at (form.start false) (leaf n.at (form.start_name s n.text))
  procedure_shape at n = ap (shape.expr s) (sym (expression.rolls-Procedure at n)) ∙ rw fold-roll-Expr refl

  module _ (known : Known) (q : Result Meant Trouble) where
    pub choice_is : (w : Expr) (at : ℕ) (bs bs' : List Branch) (o : Option (List Statement)) → w ≡ expression.If at bs o → bs' ≡ bs
        → Is q (judged known (phrase at (plain form.choice) (choice_parts bs' o))) → Is q (judged known (shape.expr s w))
    choice_is w at bs bs' o i e h =
        subst (λ (p : Phrase). Is q (judged known p))
        (ap (λ (l : List Branch). phrase at (plain form.choice) (choice_parts l o)) e ∙ sym (ap (shape.expr s) i ∙ choice_shape at bs o)) h

    pub selection_is : (w : Expr) (at : ℕ) (v v' : Expr) (cs cs' : List Case) (o : Option (List Statement)) → w ≡ expression.Select at v cs o → v' ≡ v
        → cs' ≡ cs → Is q (judged known (phrase at (plain form.selection) (part (shape.expr s v') (case_parts cs' o)))) → Is q (judged known (shape.expr s w))
    selection_is w at v v' cs cs' o i e f h =
        subst (λ (p : Phrase). Is q (judged known p))
        (ap (λ (x : Expr). phrase at (plain form.selection) (part (shape.expr s x) (case_parts cs' o))) e
        ∙ ap (λ (l : List Case). phrase at (plain form.selection) (part (shape.expr s v) (case_parts l o))) f
        ∙ sym (ap (shape.expr s) i ∙ selection_shape at v cs o)) h

    pub cand_is : (w : Expr) (at : ℕ) (l l' r r' : Expr) → w ≡ expression.Cand at l r → l' ≡ l → r' ≡ r
        → Is q (judged known (pair at form.cand (shape.expr s l') (shape.expr s r'))) → Is q (judged known (shape.expr s w))
    cand_is w at l l' r r' i e f h =
        subst (λ (p : Phrase). Is q (judged known p))
        (ap (λ (y : Expr). pair at form.cand (shape.expr s y) (shape.expr s r')) e
        ∙ ap (λ (y : Expr). pair at form.cand (shape.expr s l) (shape.expr s y)) f
        ∙ sym (ap (shape.expr s) (i ∙ sym (expression.rolls-Cand at l r)) ∙ rw fold-roll-Expr refl)) h

    pub procedure_is : (w : Expr) (at : ℕ) (n : Name) → w ≡ expression.Procedure at n
        → Is q (judged known (around at (form.start false) (leaf n.at (form.start_name s n.text)))) → Is q (judged known (shape.expr s w))
    procedure_is w at n i h =
        subst (λ (p : Phrase). Is q (judged known p)) (sym (ap (shape.expr s) i ∙ procedure_shape at n)) h

    pub second_is : (w : Expr) (at : ℕ) (n : Name) → w ≡ expression.Procedure at n
        → Is q (judged known (around at (form.start true) (leaf n.at (form.start_name s n.text)))) → Is q (judged known (shape.as_start (shape.expr s w)))
    second_is w at n i h =
        subst (λ (p : Phrase). Is q (judged known (shape.as_start p))) (sym (ap (shape.expr s) i ∙ procedure_shape at n)) h

    pub cor_is : (w : Expr) (at : ℕ) (l l' r r' : Expr) → w ≡ expression.Cor at l r → l' ≡ l → r' ≡ r
        → Is q (judged known (pair at form.cor (shape.expr s l') (shape.expr s r'))) → Is q (judged known (shape.expr s w))
    cor_is w at l l' r r' i e f h =
        subst (λ (p : Phrase). Is q (judged known p))
        (ap (λ (y : Expr). pair at form.cor (shape.expr s y) (shape.expr s r')) e
        ∙ ap (λ (y : Expr). pair at form.cor (shape.expr s l) (shape.expr s y)) f
        ∙ sym (ap (shape.expr s) (i ∙ sym (expression.rolls-Cor at l r)) ∙ rw fold-roll-Expr refl)) h

    pub index_is : (w : Expr) (at : ℕ) (a a' i i' : Expr) → w ≡ expression.Index at a i → a' ≡ a → i' ≡ i
        → Is q (judged known (pair at form.index (shape.expr s a') (shape.expr s i'))) → Is q (judged known (shape.expr s w))
    index_is w at a a' i i' is e f h =
        subst (λ (p : Phrase). Is q (judged known p))
        (ap (λ (y : Expr). pair at form.index (shape.expr s y) (shape.expr s i')) e
        ∙ ap (λ (y : Expr). pair at form.index (shape.expr s a) (shape.expr s y)) f
        ∙ sym (ap (shape.expr s) (is ∙ sym (expression.rolls-Index at a i)) ∙ rw fold-roll-Expr refl)) h

    pub loop_is : (w : Statement) (at : ℕ) (k : Option Counter) (c : Option Expr) (us us' : List Statement) (u : Option Expr) → w ≡ statement.Loop at k c us u
        → us' ≡ us
        → Is q (judged known (loop_of at k c us' u)) → Is q (judged known (shape.written (shape.unit s w)))
    loop_is w at k c us us' u i e h =
        subst (λ (o : Option Phrase). Is q (judged known (shape.written o)))
        (ap (λ (l : List Statement). Some (loop_of at k c l u)) e ∙ sym (ap (shape.unit s) i ∙ loop_shape at k c us u)) h

    item_rolled : (n : Name) (i : Option Expr)
        → shape.item s (roll-Item (record { name = n; init = i })) ≡ walk.item_with n (leaf n.at (form.declares s n.text)) (option_map (shape.expr s) i)
    item_rolled n None = rw fold-roll-Item refl
    item_rolled n (Some a) = rw fold-roll-Item refl

    pub item_is : (i : Item) (o : Option Expr) → i.init ≡ o
        → Is q (judged known (walk.item_with i.name (leaf i.name.at (form.declares s i.name.text)) (option_map (shape.expr s) o)))
        → Is q (judged known (shape.item s i))
    item_is i o e h =
        subst (λ (p : Phrase). Is q (judged known p))
        (ap (λ (z : Option Expr). walk.item_with i.name (leaf i.name.at (form.declares s i.name.text)) (option_map (shape.expr s) z)) (sym e)
        ∙ sym (ap (shape.item s) (sym (rolls-Item' (record { name = i.name; init = i.init }))) ∙ item_rolled i.name i.init)) h

    pub variables_is : (w : Statement) (at : ℕ) (of : TypePhrase) (xs xs' : List Item) → w ≡ statement.Variables at of xs → xs' ≡ xs
        → Is q (judged known (phrase at (plain form.declaration) (all_of (map (shape.item s) xs')))) → Is q (judged known (shape.written (shape.unit s w)))
    variables_is w at of xs xs' i e h =
        subst (λ (o : Option Phrase). Is q (judged known (shape.written o)))
        (ap (λ (l : List Item). Some (phrase at (plain form.declaration) (all_of (map (shape.item s) l)))) e
        ∙ sym (ap (shape.unit s) (i ∙ sym (statement.rolls-Variables at of xs)) ∙ rw fold-roll-Unit refl)) h

    -- as those of variables
    pub bound_is : (w : Statement) (at : ℕ) (of : TypePhrase) (xs xs' : List Item) → w ≡ statement.Bound at of xs → xs' ≡ xs
        → Is q (judged known (phrase at (plain form.declaration) (all_of (map (shape.item s) xs')))) → Is q (judged known (shape.written (shape.unit s w)))
    bound_is w at of xs xs' i e h =
        subst (λ (o : Option Phrase). Is q (judged known (shape.written o)))
        (ap (λ (l : List Item). Some (phrase at (plain form.declaration) (all_of (map (shape.item s) l)))) e
        ∙ sym (ap (shape.unit s) (i ∙ sym (statement.rolls-Bound at of xs)) ∙ rw fold-roll-Unit refl)) h

    pub becomes_is : (w : Statement) (at : ℕ) (a b : Expr) (named : Bool) → w ≡ statement.Becomes at a b → named ≡ shape.is_name (shape.expr s a)
        → Is q (judged known (pair at (form.assignment s named) (shape.expr s a) (shape.expr s b)))
        → Is q (judged known (shape.written (shape.unit s w)))
    becomes_is w at a b named i e h =
        subst (λ (o : Option Phrase). Is q (judged known (shape.written o)))
        (ap (λ (n : Bool). Some (pair at (form.assignment s n) (shape.expr s a) (shape.expr s b))) e
        ∙ sym (ap (shape.unit s) (i ∙ sym (statement.rolls-Becomes at a b)) ∙ rw fold-roll-Unit refl)) h

    pub let_is : (w : Statement) (at : ℕ) (xs xs' : List LetItem) → w ≡ statement.Let at xs → xs' ≡ xs
        → Is q (judged known (phrase at (plain form.definition) (all_of (map (shape.let_item s) xs')))) → Is q (judged known (shape.written (shape.unit s w)))
    let_is w at xs xs' i e h =
        subst (λ (o : Option Phrase). Is q (judged known (shape.written o)))
        (ap (λ (l : List LetItem). Some (phrase at (plain form.definition) (all_of (map (shape.let_item s) l)))) e
        ∙ sym (ap (shape.unit s) (i ∙ sym (statement.rolls-Let at xs)) ∙ rw fold-roll-Unit refl)) h

    pub constants_is : (w : Statement) (at : ℕ) (of : TypePhrase) (xs xs' : List Item) → w ≡ statement.Constants at of xs → xs' ≡ xs
        → Is q (judged known (phrase at (plain form.declaration) (all_of (map (shape.item s) xs')))) → Is q (judged known (shape.written (shape.unit s w)))
    constants_is w at of xs xs' i e h =
        subst (λ (o : Option Phrase). Is q (judged known (shape.written o)))
        (ap (λ (l : List Item). Some (phrase at (plain form.declaration) (all_of (map (shape.item s) l)))) e
        ∙ sym (ap (shape.unit s) (i ∙ sym (statement.rolls-Constants at of xs)) ∙ rw fold-roll-Unit refl)) h

-- An expression that stands alone is placed as it is itself.
pub value_place : (s : Scope) (u : Statement) (e : Expr) → u ≡ statement.Value e → form.place (shape.expr s e) ≡ form.place (shape.written (shape.unit s u))
value_place s u e i =
    let is : shape.unit s u ≡ Some (form.around (form.place (shape.expr s e)) form.statement (shape.expr s e)) =
    ap (shape.unit s) (i ∙ sym (statement.rolls-Value e)) ∙ rw fold-roll-Unit refl in
    sym (ap (λ (o : Option Phrase). form.place (shape.written o)) is)
