-- Rows of phrases: what their parts mean together.
use Rattle.std.proofs.Common.{◌≡◌, ℤ, List, [], ◌∷◌, ◌++◌, map, Result, refl, ap, sym, ◌∙◌, append_assoc, ℕ, ◌+◌, ◌<◌, suc, Bool, true, false, ◌&&◌}
use Rattle.std.proofs.Common.{if◌then◌else◌, Option, Some, None, length, get_or, drop, take, drop-cons, add-one, ◌-◌, ◌≤◌, subst, arith, length-drop}
use Rattle.std.proofs.lemmas.List.{append-nil, take_all, map_more, at_drop_all}
use Rattle.elan_tree.specs.declared.phrase.Unit.{Unit as Statement}
use Rattle.elan_tree.specs.declared.phrase.Branch.{Branch}
use Rattle.elan_tree.specs.declared.phrase.Case.{Case}
use Rattle.elan_tree.specs.declared.written_type.Label.{Label}
use Rattle.elan_scope.specs.declared.known.Known.{Known}
use Rattle.elan_meant.specs.declared.meant.Meant.{Meant}
use Rattle.elan_meant.specs.declared.meant.Meant.TheVariants.{Labels}
use Rattle.elan_scope.specs.declared.scope.Scope.{Scope}
use Rattle.elan_scope.specs.declared.trouble.Trouble.{Trouble}
use Rattle.elan_scope.specs.Answer.{Is, Fails}
use Rattle.elan_rules.specs.Choices.{labels_of}
use Rattle.elan_rules.specs.Meaning.{judged, judged_all}
use Rattle.elan_scope.specs.declared.delivery.Delivery.{Delivery}
use Rattle.elan_scope.specs.declared.delivery.Delivery.TheVariants.{Nothing}
use Rattle.elan_scope.specs.Phrase.{Plain, plain, Phrase, phrase, Parts, part, around, all_of}
use Rattle.elan_scope.specs.Ruled.{Ruled, gives, breaks, hangs, ◌>>=◌, before, beside, joined}
use Rattle.elan_rules.specs.Rules.{ruled}
use Rattle.elan_rules.proofs.Together.{bind_fails}
use Rattle.elan_meant.proofs.Beside.{before_joined, single_joined}
use Rattle.elan_judge.specs.Shape.{written, unit, branch, case, role, roles, filled, all_empty, branches, arms}
use Rattle.elan_judge.specs.walks.Steps.{is_empty, asked, in_role, numbers}
use Rattle.elan_judge.proofs.Shapes.{case_labels}

-- ---- what a function hands on

-- ---- a phrase, by what its parts mean

module _ (k : Known) (at : ℕ) (f : Plain) (ps : Parts) where
  pub whole_fails : (d : Trouble) → Fails d (judged_all k ps) → Fails d (judged k (phrase at (plain f) ps))
  whole_fails d h = bind_fails d (judged_all k ps) (ruled k at (plain f)) h

  pub whole_is : (out : Result Meant Trouble) (ms : List Meant) → judged_all k ps ≡ gives ms → Is out (ruled k at (plain f) ms)
      → Is out (judged k (phrase at (plain f) ps))
  whole_is out ms e h = subst (λ (z : Ruled (List Meant)). Is out (z >>= ruled k at (plain f))) (sym e) h

module _ (k : Known) (at : ℕ) (f : Plain) (p : Phrase) where
  pub one_is : (out : Result Meant Trouble) (m : Meant) → judged k p ≡ gives m → Is out (ruled k at (plain f) (m ∷ [])) → Is out (judged k (around at f p))
  one_is out m e h = subst (λ (z : Ruled Meant). Is out (before z (gives []) >>= ruled k at (plain f))) (sym e) h

-- ---- a row with one more phrase

module _ (k : Known) where
  pub row_push : (ps : List Phrase) (p : Phrase) → judged_all k (all_of (ps ++ p ∷ [])) ≡ joined (judged_all k (all_of ps)) (judged k p)
  row_push [] p = single_joined (judged k p)
  row_push (q ∷ ps) p = ap (before (judged k q)) (row_push ps p) ∙ before_joined (judged k q) (judged_all k (all_of ps)) (judged k p)

  pub row_is : (q : Result (List Meant) Trouble) (ps : List Phrase) (p : Phrase) → Is q (joined (judged_all k (all_of ps)) (judged k p))
      → Is q (judged_all k (all_of (ps ++ p ∷ [])))
  row_is q ps p h = subst (λ (z : Ruled (List Meant)). Is q z) (sym (row_push ps p)) h

  -- two phrases more
  pub two_more : (q r : Result (List Meant) Trouble) (done : List Phrase) (x y : Phrase) → Is q (joined (judged_all k (all_of done)) (judged k x)) →
      ((rs : Ruled (List Meant)) → Is q rs → Is r (joined rs (judged k y))) → Is r (judged_all k (all_of (done ++ x ∷ y ∷ [])))
  two_more q r done x y h g =
      let first = row_is q done x h in
      subst (λ (ps : List Phrase). Is r (judged_all k (all_of ps))) (append_assoc done (x ∷ []) (y ∷ []))
      (row_is r (done ++ x ∷ []) y (g (judged_all k (all_of (done ++ x ∷ []))) first))

  -- ---- a row of phrases, one for each element

  pub row_goes : {X : Type 0} (f : X → Phrase) (xs : List X) (i : ℕ) (x : X) (q : Result (List Meant) Trouble) → i < length xs → x ≡ get_or xs i x
      → Is q (joined (judged_all k (all_of (map f (take i xs)))) (judged k (f x))) → Is q (judged_all k (all_of (map f (take (i + 1) xs))))
  row_goes f xs i x q lt e h =
      subst (λ (ps : List Phrase). Is q (judged_all k (all_of ps))) (sym (map_more f xs i x lt ∙ ap (λ y. map f (take i xs) ++ f y ∷ []) (sym e)))
      (row_is q (map f (take i xs)) (f x) h)

  -- and the same behind others
  pub row_further : {X : Type 0} (f : X → Phrase) (done : List Phrase) (xs : List X) (i : ℕ) (x : X) (q : Result (List Meant) Trouble) → i < length xs
      → x ≡ get_or xs i x → Is q (joined (judged_all k (all_of (done ++ map f (take i xs)))) (judged k (f x)))
      → Is q (judged_all k (all_of (done ++ map f (take (i + 1) xs))))
  row_further f done xs i x q lt e h =
      subst (λ (ps : List Phrase). Is q (judged_all k (all_of (done ++ ps)))) (sym (map_more f xs i x lt ∙ ap (λ y. map f (take i xs) ++ f y ∷ []) (sym e)))
      (subst (λ (ps : List Phrase). Is q (judged_all k (all_of ps))) (append_assoc done (map f (take i xs)) (f x ∷ []))
      (row_is q (done ++ map f (take i xs)) (f x) h))

  pub row_whole : {X : Type 0} (f : X → Phrase) (done : List Phrase) (xs : List X) (i : ℕ) (q : Result (List Meant) Trouble) → length xs ≤ i
      → Is q (judged_all k (all_of (done ++ map f (take i xs)))) → Is q (judged_all k (all_of (done ++ map f xs)))
  row_whole f done xs i q le h = subst (λ ys. Is q (judged_all k (all_of (done ++ map f ys)))) (take_all i xs le) h

-- ---- a row that grows behind phrases: those that are judged, and those that are left

pub record Grown (k : Known) (row : Result (List Meant) Trouble) (left whole : List Phrase) : Type 0 where
  pub done : List Phrase
  pub means : Is row (judged_all k (all_of done))
  pub rest : done ++ left ≡ whole

pub starts : (k : Known) (row : Result (List Meant) Trouble) (ps left : List Phrase) → Is row (judged_all k (all_of ps)) → Grown k row left (ps ++ left)
starts k row ps left h = record { done = ps; means = h; rest = refl }

-- one phrase further
pub grows : (k : Known) (row next : Result (List Meant) Trouble) (p : Phrase) (left whole : List Phrase) → (g : Grown k row (p ∷ left) whole) →
    Is next (joined (judged_all k (all_of g.done)) (judged k p)) → Grown k next left whole
grows k row next p left whole g h = record {
  done = g.done ++ p ∷ [];
  means = row_is k next g.done p h;
  rest = append_assoc g.done (p ∷ []) left ∙ g.rest;
}

-- some phrases further
pub grows_all : (k : Known) (row next : Result (List Meant) Trouble) (qs left whole : List Phrase) → (g : Grown k row (qs ++ left) whole) →
    Is next (judged_all k (all_of (g.done ++ qs))) → Grown k next left whole
grows_all k row next qs left whole g h = record {
  done = g.done ++ qs;
  means = h;
  rest = append_assoc g.done qs left ∙ g.rest;
}

pub ends : (k : Known) (row : Result (List Meant) Trouble) (whole : List Phrase) → Grown k row [] whole → Is row (judged_all k (all_of whole))
ends k row whole g = subst (λ (ps : List Phrase). Is row (judged_all k (all_of ps))) (sym (append-nil g.done) ∙ g.rest) g.means

-- what is left, seen from the next element
pub left_at : {X : Type 0} (F : List X → List Phrase) (k : Known) (row : Result (List Meant) Trouble) (xs : List X) (i : ℕ) (x : X) (whole : List Phrase) →
    i < length xs → x ≡ get_or xs i x → Grown k row (F (drop i xs)) whole → Grown k row (F (x ∷ drop (suc i) xs)) whole
left_at F k row xs i x whole lt e g =
    subst (λ (ys : List Phrase). Grown k row ys whole) (ap F (drop-cons xs i x lt ∙ ap (λ y. y ∷ drop (suc i) xs) (sym e))) g

pub left_none : {X : Type 0} (F : List X → List Phrase) (k : Known) (row : Result (List Meant) Trouble) (xs : List X) (i : ℕ) (whole : List Phrase) →
    length xs ≤ i → F [] ≡ [] → Grown k row (F (drop i xs)) whole → Is row (judged_all k (all_of whole))
left_none F k row xs i whole le n g = ends k row whole (subst (λ (ys : List Phrase). Grown k row ys whole) (at_drop_all F xs i le ∙ n) g)

-- ---- a row of units, the last of which is asked for this

module _ (d : Delivery) where
  roles_open : (p : Phrase) (us : List (Option Phrase)) → roles d (p ∷ filled us) ≡ role (if all_empty us then d else Nothing) p ∷ roles d (filled us)
  roles_open p [] = refl
  roles_open p (None ∷ us) = roles_open p us
  roles_open p (Some q ∷ us) = refl

  pub first_role : (u : Option Phrase) (us : List (Option Phrase)) → roles d (filled (u ∷ us)) ≡ in_role (asked d u us) (written u) ++ roles d (filled us)
  first_role None us = refl
  first_role (Some p) us = roles_open p us ∙ by_test (all_empty us)
    where
      by_test : (b : Bool) → role (if b then d else Nothing) p ∷ roles d (filled us) ≡ in_role (if b then Some d else Some Nothing) p ++ roles d (filled us)
      by_test true = refl
      by_test false = refl

module _ (k : Known) (s : Scope) (d : Delivery) where
  abbrev pub left_roles : List Statement → List Phrase
  left_roles us = roles d (filled (map (unit s) us))

  pub roles_go : (row next : Result (List Meant) Trouble) (us : List Statement) (i : ℕ) (u : Statement) (w : Option Delivery) (whole : List Phrase)
      → i < length us → u ≡ get_or us i u →
      w ≡ asked d (unit s u) (map (unit s) (take (length us - (i + 1)) (drop (i + 1) us))) →
      ((done : List Phrase) → Is row (judged_all k (all_of done)) → Is next (judged_all k (all_of (done ++ in_role w (written (unit s u)))))) →
      Grown k row (left_roles (drop i us)) whole → Grown k next (left_roles (drop (i + 1) us)) whole
  roles_go row next us i u w whole lt e ew h g =
      let rest = drop (i + 1) us in
      let all : take (length us - (i + 1)) rest ≡ rest = take_all (length us - (i + 1)) rest (omega (arith, length-drop (i + 1) us)) in
      let index : suc i ≡ i + 1 = omega arith in
      let here : Grown k row (left_roles (u ∷ rest)) whole =
      subst (λ (j : ℕ). Grown k row (left_roles (u ∷ drop j us)) whole) index (left_at left_roles k row us i u whole lt e g) in
      let is : w ≡ asked d (unit s u) (map (unit s) rest) = ew ∙ ap (λ (vs : List Statement). asked d (unit s u) (map (unit s) vs)) all in
      let split : left_roles (u ∷ rest) ≡ in_role w (written (unit s u)) ++ left_roles rest =
      first_role d (unit s u) (map (unit s) rest) ∙ ap (λ (o : Option Delivery). in_role o (written (unit s u)) ++ left_roles rest) (sym is) in
      let next_one : Grown k row (in_role w (written (unit s u)) ++ left_roles rest) whole = subst (λ (ps : List Phrase). Grown k row ps whole) split here in
      grows_all k row next (in_role w (written (unit s u))) (left_roles rest) whole next_one (h next_one.done next_one.means)

  pub roles_end : (row : Result (List Meant) Trouble) (us : List Statement) (i : ℕ) (whole : List Phrase) → length us ≤ i
      → Grown k row (left_roles (drop i us)) whole → Is row (judged_all k (all_of whole))
  roles_end row us i whole le g = left_none left_roles k row us i whole le refl g

-- ---- a row of conditions, or of labels, each before its units

module _ (k : Known) (s : Scope) where
  abbrev pub left_branches : List Branch → List Phrase
  left_branches bs = branches (map (branch s) bs)

  pub branches_go : (row next : Result (List Meant) Trouble) (bs : List Branch) (i : ℕ) (b : Branch) (whole : List Phrase) → i < length bs → b ≡ get_or bs i b →
      ((done : List Phrase) → Is row (judged_all k (all_of done)) → Is next (judged_all k (all_of (done ++ branches (branch s b ∷ []))))) →
      Grown k row (left_branches (drop i bs)) whole → Grown k next (left_branches (drop (i + 1) bs)) whole
  branches_go row next bs i b whole lt e h g =
      let here : Grown k row (branches (branch s b ∷ []) ++ left_branches (drop (suc i) bs)) whole = left_at left_branches k row bs i b whole lt e g in
      let index : suc i ≡ i + 1 = omega arith in
      subst (λ (j : ℕ). Grown k next (left_branches (drop j bs)) whole) index
      (grows_all k row next (branches (branch s b ∷ [])) (left_branches (drop (suc i) bs)) whole here (h here.done here.means))

  pub branches_end : (row : Result (List Meant) Trouble) (bs : List Branch) (i : ℕ) (whole : List Phrase) → length bs ≤ i
      → Grown k row (left_branches (drop i bs)) whole → Is row (judged_all k (all_of whole))
  branches_end row bs i whole le g = left_none left_branches k row bs i whole le refl g

  -- Labels are compared with those before them.
  abbrev pub left_cases : List ℤ → List Case → List Phrase
  left_cases earlier cs = arms s earlier (map (case s) cs)

  pub cases_go : (row next : Result (List Meant) Trouble) (cs : List Case) (i : ℕ) (c : Case) (earlier later : List ℤ) (whole : List Phrase) → i < length cs
      → c ≡ get_or cs i c →
      later ≡ earlier ++ numbers s c.labels →
      ((done : List Phrase) → Is row (judged_all k (all_of done)) → Is next (judged_all k (all_of (done ++ arms s earlier (case s c ∷ []))))) →
      Grown k row (left_cases earlier (drop i cs)) whole → Grown k next (left_cases later (drop (i + 1) cs)) whole
  cases_go row next cs i c earlier later whole lt e n h g =
      let here : Grown k row (arms s earlier (case s c ∷ []) ++ left_cases (earlier ++ numbers s (case s c).0) (drop (suc i) cs)) whole =
      left_at (left_cases earlier) k row cs i c whole lt e g in
      let index : suc i ≡ i + 1 = omega arith in
      let behind : earlier ++ numbers s (case s c).0 ≡ later = ap (λ (ls : List Label). earlier ++ numbers s ls) (case_labels s c) ∙ sym n in
      let next_one : Grown k next (left_cases (earlier ++ numbers s (case s c).0) (drop (suc i) cs)) whole =
      grows_all k row next (arms s earlier (case s c ∷ [])) (left_cases (earlier ++ numbers s (case s c).0) (drop (suc i) cs)) whole here (h here.done here.means)
      in
      subst (λ (j : ℕ). Grown k next (left_cases later (drop j cs)) whole) index
      (subst (λ (ns : List ℤ). Grown k next (left_cases ns (drop (suc i) cs)) whole) behind next_one)

  pub cases_end : (row : Result (List Meant) Trouble) (cs : List Case) (i : ℕ) (earlier : List ℤ) (whole : List Phrase) → length cs ≤ i
      → Grown k row (left_cases earlier (drop i cs)) whole → Is row (judged_all k (all_of whole))
  cases_end row cs i earlier whole le g = left_none (left_cases earlier) k row cs i whole le refl g

-- ---- a phrase before a row

module _ (k : Known) (p : Phrase) (ps : Parts) where
  before_beside : (r : Ruled Meant) (rs : Ruled (List Meant)) → beside r rs >>= (λ b. gives (b.0 ∷ b.1)) ≡ before r rs
  before_beside (gives m) (gives ms) = refl
  before_beside (gives m) (breaks f) = refl
  before_beside (gives m) hangs = refl
  before_beside (breaks f) rs = refl
  before_beside hangs (gives ms) = refl
  before_beside hangs (breaks f) = refl
  before_beside hangs hangs = refl

  pub first_fails : (d : Trouble) → Fails d (beside (judged k p) (judged_all k ps)) → Fails d (judged_all k (part p ps))
  first_fails d h =
      subst (λ (z : Ruled (List Meant)). Fails d z) (before_beside (judged k p) (judged_all k ps))
      (bind_fails d (beside (judged k p) (judged_all k ps)) (λ b. gives (b.0 ∷ b.1)) h)

  pub first_is : (m : Meant) (ms : List Meant) → beside (judged k p) (judged_all k ps) ≡ gives (m, ms) → judged_all k (part p ps) ≡ gives (m ∷ ms)
  first_is m ms h = sym (before_beside (judged k p) (judged_all k ps)) ∙ ap (λ (z : Ruled (Meant × List Meant)). z >>= (λ b. gives (b.0 ∷ b.1))) h

-- ---- labels, before those that are left

abbrev pub prefixed : List Meant → Ruled (List Meant) → Ruled (List Meant)
prefixed ms r = r >>= (λ rest. gives (ms ++ rest))

pub prefixed_push : (ms : List Meant) (m : Meant) (r : Ruled (List Meant)) → prefixed (ms ++ m ∷ []) r ≡ prefixed ms (before (gives m) r)
prefixed_push ms m (gives rest) = ap (λ (l : List Meant). gives l) (append_assoc ms (m ∷ []) rest)
prefixed_push ms m (breaks f) = refl
prefixed_push ms m hangs = refl

pub prefixed_none : (r : Ruled (List Meant)) → prefixed [] r ≡ r
prefixed_none (gives rest) = refl
prefixed_none (breaks f) = refl
prefixed_none hangs = refl

-- when nothing is left
pub list_done : {X : Type 0} (single : X → Meant) (xs : List X) (rest r : Ruled (List Meant)) → rest ≡ gives [] → prefixed (map single xs) rest ≡ r
    → r ≡ gives (map single xs)
list_done single xs rest r e h =
    sym h ∙ ap (λ (q : Ruled (List Meant)). prefixed (map single xs) q) e ∙ ap (λ (l : List Meant). gives l) (append-nil (map single xs))

pub labels_single : (ns : List ℤ) → labels_of (map (λ n. Labels (n ∷ [])) ns) ≡ ns
labels_single [] = refl
labels_single (n ∷ ns) = ap (λ l. n ∷ l) (labels_single ns)

-- ---- units that are all empty

cut : {X : Type 0} (xs : List X) (i : ℕ) (x : X) → i < length xs → x ≡ get_or xs i x → drop i xs ≡ x ∷ drop (suc i) xs
cut xs i x lt e = drop-cons xs i x lt ∙ ap (λ y. y ∷ drop (suc i) xs) (sym e)

module _ (s : Scope) where
  pub stops : (us : List Statement) (i : ℕ) (u : Statement) → i < length us → u ≡ get_or us i u → false ≡ is_empty (unit s u)
      → all_empty (map (unit s) (drop i us)) ≡ all_empty (map (unit s) us) → false ≡ all_empty (map (unit s) us)
  stops us i u lt e f h =
      ap (λ (b : Bool). b && all_empty (map (unit s) (drop (suc i) us))) f
      ∙ ap (λ (l : List Statement). all_empty (map (unit s) l)) (sym (cut us i u lt e)) ∙ h

  pub goes_on : (us : List Statement) (i : ℕ) (u : Statement) → i < length us → u ≡ get_or us i u → true ≡ is_empty (unit s u)
      → all_empty (map (unit s) (drop i us)) ≡ all_empty (map (unit s) us) → all_empty (map (unit s) (drop (i + 1) us)) ≡ all_empty (map (unit s) us)
  goes_on us i u lt e f h =
      rw (add-one)
      (ap (λ (b : Bool). b && all_empty (map (unit s) (drop (suc i) us))) f
      ∙ ap (λ (l : List Statement). all_empty (map (unit s) l)) (sym (cut us i u lt e)) ∙ h)
