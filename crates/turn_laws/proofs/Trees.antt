-- The descendants of a task, and what a turn of it does to the tree.
use Rattle.std.proofs.Common.{◌≡◌, ℕ, zero, suc, ◌+◌, ◌<◌, ◌≤◌, Bool, true, false, List, [], ◌∷◌, Option, Some, None, refl, sym, ap, ◌∙◌, subst, ⊎_elim, arith}
use Rattle.std.specs.List.{flat_map, list_any}
use Rattle.std.proofs.lemmas.Bool.{false≢true, cases_lt, ne_eqb}
use Rattle.std.proofs.lemmas.List.Elements.{recursion_from_All}
use Rattle.std.proofs.lemmas.Option.{none-some, same_Some}
use Rattle.turn_laws.specs.Below.task_numbers.specs.declared.limits.TheConstants.{TASKS}
use Rattle.turn_laws.specs.Below.task_numbers.specs.declared.number.TaskNo.{TaskNo}
use Rattle.turn_laws.specs.Below.task_numbers.specs.Numbers.{is_task}
use Rattle.eu_base.specs.declared.request.Request.{Request}
use Rattle.eu_base.specs.declared.request.Request.TheVariants.{Begin, End}
use Rattle.turn_laws.specs.Below.task_tree.specs.declared.task.Task.{Task}
use Rattle.turn_laws.specs.Below.task_tree.specs.Tree.{Tree, has_number, with_number, lives, sons, next, begun, ended, task}
use Rattle.turn_laws.specs.Below.task_tree.specs.Trees.{IsTree, IsGiven, IsYoungerThanFather}
use Rattle.turn_laws.specs.Below.task_tree.specs.Families.{descent, family}
use Rattle.system_meaning.specs.Serving.{named_or}
use Rattle.turn_laws.proofs.Found.{same_task}
use Rattle.turn_laws.proofs.Finding.{Son, has, living, find_holds, number_is, some_lives, find_rest, find_gone, find_before, find_last, sons_are, is_son, in_one, in_first, in_all, is_last, is_one, part, from, from-le-length, fewer_beyond}

-- what a number tells
pub record Numbered (s : Tree) (t : TaskNo) : Type 0 where
  pub some : 0 < t.0
  pub given : t.0 ≤ s.last

pub numbered : (s : Tree) (t : TaskNo) (x : Task) → IsTree s → with_number t s ≡ Some x → Numbered s t
numbered s t x tree at =
    let given = find_holds (IsGiven s.last) t s.tasks x (recursion_from_All (IsGiven s.last) s.tasks tree.given) at in
    let is = ap (λ (v : TaskNo). v.0) (number_is t s.tasks x at) in
    let low = given.0 in
    let most = given.1 in
    record { some = omega (arith, low, is); given = omega (arith, most, is) }

pub son_is_younger : (s : Tree) (u v : TaskNo) → IsTree s → Son s.tasks u v → u.0 < v.0
son_is_younger s u v tree son =
    let less = find_holds IsYoungerThanFather v s.tasks son.task (recursion_from_All IsYoungerThanFather s.tasks tree.older) son.at in
    let is = ap (λ (w : TaskNo). w.0) (number_is v s.tasks son.task son.at) in
    let of = ap (λ (w : TaskNo). w.0) son.father in
    omega (arith, less, is, of)

-- ---- descendants

-- t is the task, or a descendant of it
pub data IsUnder (s : Tree) (t : TaskNo) : TaskNo → Type 0 where
  same : IsUnder s t t
  below : {u : TaskNo} (v : TaskNo) → Son s.tasks u v → IsUnder s t v → IsUnder s t u

pub under_under : (s : Tree) (t v u : TaskNo) → IsUnder s t v → IsUnder s v u → IsUnder s t u
under_under s t v u first same = first
under_under s t v u first (below w son rest) = below w son (under_under s t v w first rest)

pub not_younger : (s : Tree) (t u : TaskNo) → IsTree s → IsUnder s t u → u.0 ≤ t.0
not_younger s t u tree same = omega arith
not_younger s t u tree (below v son rest) =
    let less = son_is_younger s u v tree son in let more = not_younger s t v tree rest in omega (arith, less, more)

pub under_from : (s : Tree) → IsTree s → (n : ℕ) (u t : TaskNo) → has t (descent n u s) ≡ true → IsUnder s t u
under_from s tree zero u t e = absurd (false≢true e)
under_from s tree (suc n) u t e =
    ⊎_elim
    (λ deep. let p = part (λ v. descent n v s) t (sons u s) deep in
    below p.of (sons_are u p.of s.tasks tree.apart p.one) (under_from s tree n p.of t p.inside))
    (λ end. subst (λ v. IsUnder s t v) (sym (is_one t u end)) same)
    (in_one t (flat_map (λ v. descent n v s) (sons u s)) (u ∷ []) e)

in_descent : (s : Tree) → IsTree s → (n : ℕ) (u t : TaskNo) → lives u s ≡ true → from u.0 s.tasks ≤ n → IsUnder s t u → has t (descent n u s) ≡ true
in_descent s tree zero u t live room under = let some = fewer_beyond u (u.0 + 1) s.tasks live (omega arith) in absurd (omega (arith, some, room))
in_descent s tree (suc n) u t live room same = is_last u (flat_map (λ v. descent n v s) (sons u s))
in_descent s tree (suc n) u t live room (below v son rest) =
    let younger = son_is_younger s u v tree son in
    let less = fewer_beyond u v.0 s.tasks live younger in
    in_first t (flat_map (λ w. descent n w s) (sons u s)) (u ∷ [])
    (in_all (λ w. descent n w s) t v (sons u s) (is_son u v s.tasks son)
    (in_descent s tree n v t (some_lives v s.tasks son.task son.at) (omega (arith, room, less)) rest))

pub in_family : (s : Tree) (u t : TaskNo) → IsTree s → lives u s ≡ true → IsUnder s t u → has t (family u s) ≡ true
in_family s u t tree live under =
    let few = tree.few in let most = from-le-length u.0 s.tasks in in_descent s tree TASKS u t live (omega (arith, few, most)) under

-- ---- what a turn of a task does to the tree

-- this request is among those that were asked: what is so of it is so of one of them
abbrev pub IsAsked : List Request → Request → Type 0
IsAsked asked q = (p : Request → Bool) → p q ≡ true → list_any p asked ≡ true

-- t is of the family of u, which asked for the end of a task of whose family t is
pub record IsEnded (u : TaskNo) (asked : List Request) (s : Tree) (t : TaskNo) : Type 0 where
  pub own : IsUnder s t u
  pub named : Option ℕ
  pub asks : IsAsked asked (End named)
  pub live : lives (named_or named u) s ≡ true
  pub under : IsUnder s t (named_or named u)

-- u asked that a task of this name begin
pub record IsBegun (asked : List Request) (name : List ℕ) : Type 0 where
  pub start : ℕ
  pub asks : IsAsked asked (Begin name start)

-- Numbers that were given stay with their tasks, those that are gone were of its family, and ended by it, and those that are new are its sons, and
-- begun by it.
pub record Grown (u : TaskNo) (asked : List Request) (before after : Tree) : Type 0 where
  pub last : before.last ≤ after.last
  pub old : (t : TaskNo) (x : Task) → t.0 ≤ before.last → with_number t after ≡ Some x → with_number t before ≡ Some x
  pub gone : (t : TaskNo) (x : Task) → with_number t before ≡ Some x → with_number t after ≡ None → IsEnded u asked before t
  pub new : (t : TaskNo) (x : Task) → with_number t after ≡ Some x → before.last < t.0
      → (x.father ≡ u) × IsBegun asked x.name

pub grown_same : {asked : List Request} (u : TaskNo) (s : Tree) → IsTree s → Grown u asked s s
grown_same u s tree = record {
  last = omega arith;
  old = λ t x low at. at;
  gone = λ t x at none. absurd (none-some x (sym none ∙ at));
  new = λ t x at high. let low = (numbered s t x tree at).given in absurd (omega (arith, low, high));
}

-- a chain of fathers was the same before, where its last task was there
under_before : (u : TaskNo) (asked : List Request) (before after : Tree) → Grown u asked before after → IsTree after → (t v : TaskNo) → t.0 ≤ before.last
    → IsUnder after t v → IsUnder before t v
under_before u asked before after grown tree t v low same = same
under_before u asked before after grown tree t v low (below w son rest) =
    let less = not_younger after t w tree rest in
    below w
    (record { task = son.task; at = grown.old w son.task (omega (arith, low, less)) son.at; father = son.father })
    (under_before u asked before after grown tree t w low rest)

-- and so one that ends now was ended by what was asked, as the tree was before
ended_before : (u : TaskNo) (asked : List Request) (before after : Tree) → Grown u asked before after → IsTree after → (t : TaskNo) → t.0 ≤ before.last
    → IsEnded u asked after t → IsEnded u asked before t
ended_before u asked before after grown tree t low e =
    let v = named_or e.named u in
    let older = not_younger after t v tree e.under in
    let found = living v after.tasks e.live in
    record {
      own = under_before u asked before after grown tree t u low e.own;
      named = e.named;
      asks = e.asks;
      live = some_lives v before.tasks found.0 (grown.old v found.0 (omega (arith, low, older)) found.1);
      under = under_before u asked before after grown tree t v low e.under;
    }

pub grown_on : (u : TaskNo) (asked : List Request) (first second third : Tree) → IsTree first → IsTree second → Grown u asked first second
    → Grown u asked second third → Grown u asked first third
grown_on u asked first second third tree trees grown more = record {
  last = let a = grown.last in let b = more.last in omega (arith, a, b);
  old = λ t x low at. let a = grown.last in grown.old t x low (more.old t x (omega (arith, low, a)) at);
  gone = λ t x at none. gone t x at none (with_number t second) refl;
  new = λ t x at high. ⊎_elim
      (λ later. more.new t x at later)
      (λ early. grown.new t x (more.old t x early at) high)
      (cases_lt second.last t.0);
}
  where
    gone : (t : TaskNo) (x : Task) → with_number t first ≡ Some x → with_number t third ≡ None → (o : Option Task) → with_number t second ≡ o
        → IsEnded u asked first t
    gone t x at none None is = grown.gone t x at is
    gone t x at none (Some y) is =
        ended_before u asked first second grown trees t (numbered first t x tree at).given (more.gone t y is none)

-- a son begins
pub grown_begun : (u : TaskNo) (asked : List Request) (name : List ℕ) (s : Tree) → IsTree s → IsBegun asked name → Grown u asked s (begun name u s)
grown_begun u asked name s tree said = record {
  last = omega arith;
  old = λ t x low at. sym (early t low) ∙ at;
  gone = λ t x at none. absurd (none-some x (sym none ∙ (early t (numbered s t x tree at).given ∙ at)));
  new = λ t x at high. new t x at high (with_number t s) refl (has_number t (task (next s) name u)) refl;
}
  where
    early : (t : TaskNo) → t.0 ≤ s.last → with_number t (begun name u s) ≡ with_number t s
    early t low = find_before t (task (next s) name u) (ne_eqb (s.last + 1) t.0 (λ e. omega (arith, low, e))) s.tasks

    new : (t : TaskNo) (x : Task) → with_number t (begun name u s) ≡ Some x → s.last < t.0 → (o : Option Task) → with_number t s ≡ o → (b : Bool)
        → has_number t (task (next s) name u) ≡ b → (x.father ≡ u) × IsBegun asked x.name
    new t x at high (Some y) is b e = let low = (numbered s t y tree is).given in absurd (omega (arith, low, high))
    new t x at high None is true e =
        let same : task (next s) name u ≡ x = same_Some (task (next s) name u) x (sym (find_last t (task (next s) name u) e s.tasks is) ∙ at) in
        (sym (ap (λ (y : Task). y.father) same), subst (λ (y : Task). IsBegun asked y.name) same said)
    new t x at high None is false e = absurd (none-some x (sym is ∙ (sym (find_before t (task (next s) name u) e s.tasks) ∙ at)))

-- a task of the family ends
pub grown_ended : (u : TaskNo) (asked : List Request) (w : TaskNo) (before s : Tree) → Grown u asked before s → IsEnded u asked before w
    → Grown u asked before (ended w s)
grown_ended u asked w before s grown ends = record {
  last = grown.last;
  old = λ t x low at. grown.old t x low (still t x at (is_task t w) refl);
  gone = λ t x at none. gone t x at none (is_task t w) refl;
  new = λ t x at high. grown.new t x (still t x at (is_task t w) refl) high;
}
  where
    still : (t : TaskNo) (x : Task) → with_number t (ended w s) ≡ Some x → (b : Bool) → is_task t w ≡ b → with_number t s ≡ Some x
    still t x at true is =
        absurd (none-some x (sym (find_gone w s.tasks) ∙ (ap (λ (v : TaskNo). with_number v (ended w s)) (sym (same_task t w is)) ∙ at)))
    still t x at false is = sym (find_rest t w is s.tasks) ∙ at

    gone : (t : TaskNo) (x : Task) → with_number t before ≡ Some x → with_number t (ended w s) ≡ None → (b : Bool) → is_task t w ≡ b
        → IsEnded u asked before t
    gone t x at none true is = subst (λ v. IsEnded u asked before v) (sym (same_task t w is)) ends
    gone t x at none false is = grown.gone t x at (sym (find_rest t w is s.tasks) ∙ none)
