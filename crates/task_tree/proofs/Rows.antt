-- A tree grows by tasks that can follow, and each of its tasks can; and it comes back from its rows.
use Rattle.std.proofs.Common.{◌≡◌, ℕ, ◌+◌, ◌<◌, ◌≤◌, Bool, true, false, ◌&&◌, nat_lt, List, [], ◌∷◌, ◌++◌, length, get_or, map, take, All, sym, refl, ap, subst, ◌∙◌, ◌⊎◌, inl, inr, arith}
use Rattle.std.specs.List.{list_any, list_all}
use Rattle.std.proofs.lemmas.Bool.{and_parts, and_from, eqb-true, eq-eqb, cases_lt}
use Rattle.std.proofs.lemmas.Grind.{common_steps}
use Rattle.std.proofs.lemmas.List.{get_or-take, get_or_default, length-take-le, get_or-map, length-map, map-append, take_more, take-map}
use Rattle.std.proofs.lemmas.List.Elements.{All-push, All-map, All-head, All-tail}
use Rattle.std.proofs.lemmas.List.Folds.{list_any_at, Any-from_list_any}
use Rattle.std.proofs.lemmas.List.Quantifiers.{all_pairs_push}
use Rattle.std.proofs.lemmas.List.Sums.{AllPass-from_list_all, list_all-from_AllPass}
use Rattle.task_numbers.specs.declared.limits.TheConstants.{TASKS}
use Rattle.task_numbers.specs.Numbers.{is_nil, is_task}
use Rattle.eu_base.specs.SpaceOperations.{is_name}
use Rattle.task_tree.specs.declared.row.TreeRow.{TreeRow}
use Rattle.task_tree.specs.declared.task.Task.{Task}
use Rattle.task_tree.specs.Tree.{Tree, number, has_number, sons}
use Rattle.task_tree.specs.Trees.{IsYounger, IsGiven, IsYoungerThanFather, has_live_father}
use Rattle.task_tree.specs.Whole.{IsRooted, IsNamed, IsGrown}
use Rattle.task_tree.specs.Rows.{row_of, rows_of, task_of, is_given, is_younger, has_father_among, can_follow}
use Rattle.task_tree.proofs.Growing.{still_lives}

-- ---- what follows

record Follows (last : ℕ) (before : List Task) (u : Task) : Type 0 where
  pub room : length before < TASKS
  pub named : is_name u.name ≡ true
  pub given : IsGiven last u
  pub younger : All (λ v. IsYounger v u) before
  pub father : has_father_among before u ≡ true

parts : (last : ℕ) (before : List Task) (u : Task) → can_follow last before u ≡ true → Follows last before u
parts last before u e =
    let a = and_parts (nat_lt (length before) TASKS)
    (is_name u.name && (is_given last u.number && (list_all (is_younger u) before && has_father_among before u))) e in
    let b = and_parts (is_name u.name) (is_given last u.number && (list_all (is_younger u) before && has_father_among before u)) a.1 in
    let c = and_parts (is_given last u.number) (list_all (is_younger u) before && has_father_among before u) b.1 in
    let d = and_parts (list_all (is_younger u) before) (has_father_among before u) c.1 in
    record {
      room = grind (arith, a.0);
      named = b.0;
      given = (grind (arith, c.0), grind (arith, c.0));
      younger = λ k x lt. let passed = AllPass-from_list_all (is_younger u) before d.0 k x lt in (grind (arith, passed), grind (arith, passed));
      father = d.1;
    }

-- the father is older, and there is one but for UR
record HasFather (s : Tree) (u : Task) : Type 0 where
  pub older : u.father.0 < u.number.0
  pub live : has_live_father s u ≡ true
  pub rooted : IsRooted u

father_of : (s : Tree) (u : Task) → IsGrown s → Follows s.last s.tasks u → HasFather s u
father_of s u grown f = by (is_task u.number (number 1)) refl f.father
  where
    by : (b : Bool) → is_task u.number (number 1) ≡ b → has_father_among s.tasks u ≡ true → HasFather s u
    by true is_ur e =
        let none : is_nil u.father ≡ true = grind (arith, is_ur, e) in record {
          older = let some = f.given.0 in grind (arith, none, some);
          live = grind (arith, none);
          rooted = none ∙ sym is_ur;
        }
    by false other e =
        let live : list_any (has_number u.father) s.tasks ≡ true = grind (arith, other, e) in
        let found = Any-from_list_any (has_number u.father) s.tasks live in
        let here : (get_or s.tasks found.0 found.1).number.0 ≡ u.father.0 = ap (λ (v : Task). v.number.0) found.3 ∙ eqb-true found.1.number.0 u.father.0 found.4 in
        let given = (grown.tree.given found.0 found.1 found.2).0 in
        let younger = (f.younger found.0 found.1 found.2).0 in record {
          older = omega (arith, here, younger);
          live = grind (arith, common_steps, live);
          rooted = let some : 0 < u.father.0 = omega (arith, here, given) in grind (arith, some, other);
        }

pub grown_more : (s : Tree) (u : Task) → IsGrown s → can_follow s.last s.tasks u ≡ true → IsGrown (record { tasks = s.tasks ++ u ∷ []; last = s.last })
grown_more s u grown e =
    let f = parts s.last s.tasks u e in
    let father = father_of s u grown f in record {
      tree = record {
        few = let room = f.room in grind (arith, common_steps, room);
        apart = all_pairs_push IsYounger s.tasks u grown.tree.apart f.younger;
        given = All-push (IsGiven s.last) s.tasks u grown.tree.given f.given;
        fathers = All-push (λ v. has_live_father (record { tasks = s.tasks ++ u ∷ []; last = s.last }) v ≡ true) s.tasks u
            (λ k d lt. still_lives s (get_or s.tasks k d) u s.last (grown.tree.fathers k d lt)) (still_lives s u u s.last father.live);
        older = All-push IsYoungerThanFather s.tasks u grown.tree.older father.older;
      };
      rooted = All-push IsRooted s.tasks u grown.rooted father.rooted;
      named = All-push IsNamed s.tasks u grown.named f.named;
    }

-- ---- each of a tree's tasks follows

module _ (s : Tree) (k : ℕ) (d : Task) (grown : IsGrown s) (lt : k < length s.tasks) where
  at : Task
  at = get_or s.tasks k d

  long : length (take k s.tasks) ≡ k
  long = length-take-le k s.tasks (omega (arith, lt))

  before_is : (i : ℕ) (e : Task) → i < k → get_or (take k s.tasks) i e ≡ get_or s.tasks i d
  before_is i e less = get_or-take k s.tasks i e less ∙ get_or_default s.tasks i e d (omega (arith, less, lt))

  all_older : list_all (is_younger (get_or s.tasks k d)) (take k s.tasks) ≡ true
  all_older = list_all-from_AllPass (is_younger (get_or s.tasks k d)) (take k s.tasks)
      (λ i e less. let before : i < k = omega (arith, long, less) in
      subst (λ v. is_younger (get_or s.tasks k d) v ≡ true) (sym (before_is i e before)) (let apart = grown.tree.apart i k d before lt in grind (arith, apart)))

  lives_before : list_any (has_number (get_or s.tasks k d).father) s.tasks ≡ true → list_any (has_number (get_or s.tasks k d).father) (take k s.tasks) ≡ true
  lives_before live =
      let found = Any-from_list_any (has_number (get_or s.tasks k d).father) s.tasks live in
      let is : get_or s.tasks found.0 d ≡ found.1 = get_or_default s.tasks found.0 d found.1 found.2 ∙ found.3 in
      let here : (get_or s.tasks found.0 d).number.0 ≡ (get_or s.tasks k d).father.0 = ap (λ (v : Task). v.number.0) is ∙ eqb-true found.1.number.0 (get_or s.tasks k d).father.0 found.4 in
      let older = grown.tree.older k d lt in
      by found.0 found.2 here older (cases_lt found.0 k)
    where
      by : (j : ℕ) → j < length s.tasks → (get_or s.tasks j d).number.0 ≡ (get_or s.tasks k d).father.0 → (get_or s.tasks k d).father.0 < (get_or s.tasks k d).number.0 → (j < k) ⊎ (k ≤ j)
          → list_any (has_number (get_or s.tasks k d).father) (take k s.tasks) ≡ true
      by j within here older (inl before) =
          list_any_at (has_number (get_or s.tasks k d).father) (take k s.tasks) j d (omega (arith, long, before))
          (subst (λ v. has_number (get_or s.tasks k d).father v ≡ true) (sym (before_is j d before)) (eq-eqb _ _ here))
      by j within here older (inr behind) = absurd (later (cases_lt k j))
        where
          later : (k < j) ⊎ (j ≤ k) → ⊥
          later (inl less) = let apart = (grown.tree.apart k j d less within).0 in omega (arith, apart, here, older)
          later (inr le) = let same : j ≡ k = omega (arith, behind, le) in let number_is = ap (λ i. (get_or s.tasks i d).number.0) same in omega (arith, number_is, here, older)

  has_father : has_father_among (take k s.tasks) (get_or s.tasks k d) ≡ true
  has_father = by (is_task (get_or s.tasks k d).number (number 1)) refl (grown.rooted k d lt) (grown.tree.fathers k d lt)
    where
      by : (b : Bool) → is_task (get_or s.tasks k d).number (number 1) ≡ b → IsRooted (get_or s.tasks k d) → has_live_father s (get_or s.tasks k d) ≡ true
          → has_father_among (take k s.tasks) (get_or s.tasks k d) ≡ true
      by true is_ur rooted live = grind (arith, is_ur, rooted)
      by false other rooted live =
          let among = lives_before (let some : is_nil (get_or s.tasks k d).father ≡ false = rooted ∙ other in grind (arith, some, live)) in
          grind (arith, other, among)

  pub each_follows : can_follow s.last (take k s.tasks) (get_or s.tasks k d) ≡ true
  each_follows =
      and_from _ _ (let few = grown.tree.few in grind (arith, long, lt, few))
      (and_from _ _ (grown.named k d lt)
      (and_from _ _ (let given = grown.tree.given k d lt in grind (arith, given))
      (and_from _ _ all_older has_father)))

-- ---- tasks and rows

pub tasks_back : (s : Tree) (us : List Task) → map task_of (map (row_of s) us) ≡ us
tasks_back s [] = refl
tasks_back s (u ∷ us) = ap (λ vs. u ∷ vs) (tasks_back s us)

HasSons : Tree → TreeRow → Type 0
HasSons s r = r.sons ≡ sons r.number s

pub rows_back : (s : Tree) (rs : List TreeRow) → All (λ (r : TreeRow). r.sons ≡ sons r.number s) rs → map (row_of s) (map task_of rs) ≡ rs
rows_back s [] all = refl
rows_back s (r ∷ rs) all =
    let here = All-head (λ (r : TreeRow). r.sons ≡ sons r.number s) r rs all in
    let rest = rows_back s rs (All-tail (λ (r : TreeRow). r.sons ≡ sons r.number s) r rs all) in
    ap (λ q. q ∷ map (row_of s) (map task_of rs)) (ap (λ x. record { number = r.number; name = r.name; father = r.father; sons = x }) (sym here)) ∙ ap (λ qs. r ∷ qs) rest

pub all_sons : (s : Tree) (us : List Task) → All (λ (r : TreeRow). r.sons ≡ sons r.number s) (map (row_of s) us)
all_sons s us = All-map (λ (r : TreeRow). r.sons ≡ sons r.number s) (row_of s) us (λ k d lt. refl)

-- the tree that has these rows
pub same_tree : (s : Tree) (last : ℕ) (rows : List TreeRow) → s.last ≡ last → rows_of s ≡ rows → s ≡ record { tasks = map task_of rows; last = last }
same_tree s last rows same e =
    ap (λ us. record { tasks = us; last = s.last }) (sym (tasks_back s s.tasks) ∙ ap (map task_of) e) ∙ ap (λ n. record { tasks = map task_of rows; last = n }) same

pub tasks_more : (rows : List TreeRow) (i : ℕ) (r : TreeRow) → i < length rows → r ≡ get_or rows i r → map task_of (take (i + 1) rows) ≡ map task_of (take i rows) ++ task_of r ∷ []
tasks_more rows i r lt is =
    ap (map task_of) (take_more rows i r lt) ∙ map-append task_of (take i rows) (get_or rows i r ∷ []) ∙ ap (λ q. map task_of (take i rows) ++ task_of q ∷ []) (sym is)

-- each row of a tree can follow
pub row_follows : (rows : List TreeRow) (last k : ℕ) (r : TreeRow) → IsGrown (record { tasks = map task_of rows; last = last }) → k < length rows → r ≡ get_or rows k r
    → can_follow last (map task_of (take k rows)) (task_of r) ≡ true
row_follows rows last k r grown lt is =
    let s : Tree = record { tasks = map task_of rows; last = last } in
    let follows = each_follows s k (task_of r) grown (let long = length-map rows task_of in omega (arith, long, lt)) in
    let at : get_or (map task_of rows) k (task_of r) ≡ task_of r = get_or-map task_of rows k r (task_of r) lt ∙ ap task_of (sym is) in
    subst (λ ts. can_follow last ts (task_of r) ≡ true) (take-map task_of k rows)
    (subst (λ u. can_follow last (take k (map task_of rows)) u ≡ true) at follows)
