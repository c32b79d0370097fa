-- The tasks of a family end one after another.
use Rattle.std.proofs.Common.{◌≡◌, ℕ, ◌+◌, ◌<◌, ◌≤◌, Bool, true, false, not, ◌&&◌, ◌||◌, eqb, List, ◌∷◌, length, get_or, drop, Option, Some, None, refl, sym, ap, ◌∙◌, subst, fold, add-one, drop-cons, drop_of_length-le, arith}
use Rattle.std.specs.List.{list_any}
use Rattle.std.proofs.lemmas.Bool.{false≢true, eqb-true}
use Rattle.std.proofs.lemmas.Bool.Decides.{nat_tests}
use Rattle.std.proofs.lemmas.List.Folds.{Any-from_list_any}
use Rattle.task_numbers.specs.declared.number.TaskNo.{TaskNo}
use Rattle.task_numbers.specs.Numbers.{niltask, is_task}
use Rattle.task_requests.specs.Below.task_tree.specs.declared.task.Task.{Task}
use Rattle.task_requests.specs.Below.task_tree.specs.Tree as tree
use Rattle.task_requests.specs.Below.task_tree.specs.Tree.{Tree}
use Rattle.task_requests.specs.Below.task_tree.specs.Trees.{IsTree}
use Rattle.task_requests.specs.Below.task_tree.specs.Families.{family}
use Rattle.task_requests.specs.Below.task_tree.specs.Ends.{EndInTurn}
use Rattle.task_requests.specs.Below.task_tree.proofs.Ending.{family_ends}
use Rattle.task_requests.specs.Below.terminals.specs.Channels as channels
use Rattle.task_requests.specs.Below.system_meaning.specs.Systems.{System, Moment, on_channels, uncouple_at}
use Rattle.task_requests.specs.Below.system_meaning.specs.Ends.{removed, removed_at, freed_by, ended, ended_with_descendants}
use Rattle.task_requests.specs.Below.system_meaning.specs.Serving.{is_first, may_end}
use Rattle.live_system.specs.Machines.{Machine, StandsAt}
use Rattle.live_system.proofs.Living.{placed}
use Rattle.task_requests.proofs.Handing.{freed_tree}

-- the machine stands where tasks have ended, and those that are left can end in turn; that leads to the last moment
pub record Midway (now : Machine) (left : List TaskNo) (last : Moment) : Type 0 where
  pub moment : Moment
  pub stands : StandsAt now moment
  pub turn : EndInTurn left moment.system.shared.tree
  pub leads : fold ended moment left ≡ last

removed_tree : (t : TaskNo) (s : System) → tree.lives t s.shared.tree ≡ true → (removed t s).shared.tree ≡ tree.ended t s.shared.tree
removed_tree t s live =
    let at = placed t s.shared.tree live in
    subst (λ o. (removed_at o t s).shared.tree ≡ tree.ended t s.shared.tree) (sym at.1) refl

-- a task that ends leaves the tree without it
ended_tree : (t : TaskNo) (m : Moment) → tree.lives t m.system.shared.tree ≡ true → (ended m t).system.shared.tree ≡ tree.ended t m.system.shared.tree
ended_tree t m live = by (channels.channel_of t m.system.shared.channels)
  where
    by : (o : Option ℕ) → (freed_by t (removed t (uncouple_at o m).system)).shared.tree ≡ tree.ended t m.system.shared.tree
    by None = freed_tree t (removed t m.system) ∙ removed_tree t m.system live
    by (Some c) =
        freed_tree t (removed t (on_channels (channels.uncoupled c) m.system)) ∙ removed_tree t (on_channels (channels.uncoupled c) m.system) live

next_ended : (old new : Machine) (t : TaskNo) (left : List TaskNo) (last : Moment) → Midway old (t ∷ left) last
    → ((m : Moment) → tree.lives t m.system.shared.tree ≡ true → tree.son t m.system.shared.tree ≡ niltask → 2 < t.0 → StandsAt old m → StandsAt new (ended m t))
    → Midway new left last
next_ended old new t left last midway ends =
    let can = midway.turn.0 in
    record {
      moment = ended midway.moment t;
      stands = ends midway.moment can.live can.childless can.later midway.stands;
      turn = subst (EndInTurn left) (sym (ended_tree t midway.moment can.live)) midway.turn.1;
      leads = midway.leads;
    }

-- a step of the loop over these tasks
pub one_ended : (old new : Machine) (ts : List TaskNo) (k : ℕ) (d : TaskNo) (last : Moment) → k < length ts → Midway old (drop k ts) last
    → ((m : Moment) → tree.lives (get_or ts k d) m.system.shared.tree ≡ true → tree.son (get_or ts k d) m.system.shared.tree ≡ niltask
    → 2 < (get_or ts k d).0 → StandsAt old m → StandsAt new (ended m (get_or ts k d)))
    → Midway new (drop (k + 1) ts) last
one_ended old new ts k d last lt midway ends =
    let here : drop k ts ≡ get_or ts k d ∷ drop (k + 1) ts = rw add-one (drop-cons ts k d lt) in
    next_ended old new (get_or ts k d) (drop (k + 1) ts) last (subst (λ left. Midway old left last) here midway) ends

-- and its end
pub all_ended : (now : Machine) (ts : List TaskNo) (k : ℕ) (last : Moment) → length ts ≤ k → Midway now (drop k ts) last → StandsAt now last
all_ended now ts k last le midway =
    let none : fold ended midway.moment (drop k ts) ≡ midway.moment = ap (fold ended midway.moment) (drop_of_length-le ts le) in
    subst (StandsAt now) (sym none ∙ midway.leads) midway.stands

-- ---- a family

has_number : (t : TaskNo) (s : Tree) → IsTree s → tree.lives t s ≡ true → 0 < t.0
has_number t s is live =
    let found = Any-from_list_any (tree.has_number t) s.tasks live in
    let low = (is.given found.0 found.1 found.2).0 in
    let here : (get_or s.tasks found.0 found.1).number.0 ≡ t.0 = ap (λ (u : Task). u.number.0) found.3 ∙ eqb-true found.1.number.0 t.0 found.4 in
    omega (arith, low, here)

neither : (n : ℕ) → 0 < n → (eqb n 1 || eqb n 2) ≡ false → 2 < n
neither n some other = grind (arith, nat_tests)

-- the family of a task ends in turn, where it is not one of the first two
pub family_turn : (s : Tree) (t : TaskNo) → IsTree s → tree.lives t s ≡ true → is_first t ≡ false → EndInTurn (family t s) s
family_turn s t is live other = family_ends s t is live (neither t.0 (has_number t s is live) other)

-- all of the family have ended, in its order
pub family_ended : (old new : Machine) (t : TaskNo) (ts : List TaskNo) (m : Moment) → ts ≡ family t m.system.shared.tree → IsTree m.system.shared.tree
    → tree.lives t m.system.shared.tree ≡ true → is_first t ≡ false → StandsAt old m
    → ((m : Moment) → EndInTurn ts m.system.shared.tree → StandsAt old m → StandsAt new (fold ended m ts))
    → StandsAt new (ended_with_descendants t m)
family_ended old new t ts m are is live other h ends =
    let turn = subst (λ us. EndInTurn us m.system.shared.tree) (sym are) (family_turn m.system.shared.tree t is live other) in
    subst (λ us. StandsAt new (fold ended m us)) are (ends m turn h)

-- ---- who may end

pub first_may_not : (t u : TaskNo) (s : System) → is_first u ≡ true → false ≡ may_end t u s
first_may_not t u s first = subst (λ b. false ≡ (not b && list_any (is_task u) (family t s.shared.tree))) (sym first) refl

pub other_may : (t u : TaskNo) (s : System) (ts : List TaskNo) (may : Bool) → is_first u ≡ false → ts ≡ family t s.shared.tree
    → may ≡ list_any (is_task u) ts → may ≡ may_end t u s
other_may t u s ts may other are is =
    is ∙ ap (list_any (is_task u)) are ∙ subst (λ b. list_any (is_task u) (family t s.shared.tree) ≡ (not b && list_any (is_task u) (family t s.shared.tree))) (sym other) refl

-- none of the first two
pub ends_other : (t u : TaskNo) (s : System) → may_end t u s ≡ true → is_first u ≡ false
ends_other t u s = by (is_first u)
  where
    by : (b : Bool) → (not b && list_any (is_task u) (family t s.shared.tree)) ≡ true → b ≡ false
    by true e = absurd (false≢true e)
    by false e = refl
