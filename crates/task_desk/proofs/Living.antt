-- The ready tasks live, so there is room for one more that does.
use Rattle.std.proofs.Common.{◌≡◌, ℕ, ◌<◌, ◌≤◌, Bool, true, false, cond, not, ◌||◌, List, [], ◌∷◌, length, get_or, filter, sym, ap, ◌∙◌, arith}
use Rattle.std.proofs.Common.{if◌then◌else◌}
use Rattle.std.specs.List.{list_any, IsDistinct, AllByRecursion}
use Rattle.std.proofs.lemmas.Bool.{false≢true, and_parts, or_parts}
use Rattle.std.proofs.lemmas.List.Elements.{recursion_from_All, All-filter, All-push, filter_passes}
use Rattle.std.proofs.lemmas.List.Folds.{list_any-append}
use Rattle.std.proofs.lemmas.List.Sums.{length-filter, count_by-le-length}
use Rattle.std.proofs.lemmas.Map.Keys.{IsDistinct-from_apart, IsDistinct-head, IsDistinct-tail}
use Rattle.std.proofs.lemmas.Map.Views.{any-filter_same}
use Rattle.task_numbers.specs.declared.limits.TheConstants.{TASKS}
use Rattle.task_numbers.specs.declared.number.TaskNo.{TaskNo}
use Rattle.task_numbers.specs.Numbers.{is_task}
use Rattle.task_tree.specs.declared.task.Task.{Task}
use Rattle.task_tree.specs.Tree.{Tree, has_number, lives, ended, begun, task, next}
use Rattle.task_tree.specs.Trees.{IsTree}
use Rattle.slicer.specs.Rotation.{is_ready, at_back, without}
use Rattle.task_desk.specs.Below.units.specs.Library.{Library, none_live}
use Rattle.system_meaning.specs.Tasks.{Own}
use Rattle.system_meaning.specs.Systems as machine
use Rattle.task_desk.specs.Desks.{Desk, IsDesk, AllLive, Makes, system, moment}

-- the tasks but one
abbrev others : TaskNo → List Task → List Task
others t xs = filter (λ u. not (has_number t u)) xs

fewer : (t : TaskNo) (xs : List Task) → list_any (has_number t) xs ≡ true → length (others t xs) < length xs
fewer t [] live = absurd (false≢true live)
fewer t (x ∷ xs) live = by (has_number t x) live (fewer t xs)
  where
    by : (b : Bool) → (b || list_any (has_number t) xs) ≡ true → (list_any (has_number t) xs ≡ true → length (others t xs) < length xs)
        → length (cond (not b) (x ∷ others t xs) (others t xs)) < length (x ∷ xs)
    by true here rest =
        let most = count_by-le-length (λ u. not (has_number t u)) xs in let kept = length-filter (λ u. not (has_number t u)) xs in omega (arith, most, kept)
    by false there rest = let less = rest there in omega (arith, less)

-- another task lives on where one is gone
lives_on : (t u : TaskNo) (xs : List Task) → is_task u t ≡ false → list_any (has_number u) xs ≡ true → list_any (has_number u) (others t xs) ≡ true
lives_on t u xs apart live = any-filter_same (has_number u) (λ v. not (has_number t v)) true (λ v same. grind (arith, same, apart)) xs ∙ live

all_live_on : (t : TaskNo) (ready : List TaskNo) (xs : List Task) → AllByRecursion (λ u. is_task u t ≡ false) ready
    → AllByRecursion (λ u. list_any (has_number u) xs ≡ true) ready → AllByRecursion (λ u. list_any (has_number u) (others t xs) ≡ true) ready
all_live_on t [] xs apart live = tt
all_live_on t (u ∷ us) xs apart live = (lives_on t u xs apart.0 live.0, all_live_on t us xs apart.1 live.1)

-- different tasks that live are at most as many as live
at_most_all : (ready : List TaskNo) (xs : List Task) → IsDistinct is_task ready → AllByRecursion (λ u. list_any (has_number u) xs ≡ true) ready
    → length ready ≤ length xs
at_most_all [] xs apart live = omega arith
at_most_all (t ∷ ts) xs apart live =
    let less = fewer t xs live.0 in
    let rest = at_most_all ts (others t xs) (IsDistinct-tail is_task t ts apart) (all_live_on t ts xs (turned ts (IsDistinct-head is_task t ts apart)) live.1) in
    omega (arith, less, rest)
  where
    turned : (us : List TaskNo) → AllByRecursion (λ u. is_task t u ≡ false) us → AllByRecursion (λ u. is_task u t ≡ false) us
    turned [] h = tt
    turned (u ∷ us) h = (let e = h.0 in grind (arith, e), turned us h.1)

pub apart_from : (t : TaskNo) (ready : List TaskNo) → is_ready t ready ≡ false → AllByRecursion (λ u. is_task u t ≡ false) ready
apart_from t [] waits = tt
apart_from t (u ∷ us) waits = let both = or_parts (is_task u t) (is_ready t us) waits in (both.0, apart_from t us both.1)

-- ---- a desk

pub can_be_ready_lives : (t : TaskNo) (d : Desk) → machine.can_be_ready t (system d none_live []) ≡ true → lives t d.tree ≡ true
can_be_ready_lives t d can = (and_parts (lives t d.tree) (not (is_ready t d.ready)) can).0

pub can_be_ready_waits : (t : TaskNo) (d : Desk) → machine.can_be_ready t (system d none_live []) ≡ true → is_ready t d.ready ≡ false
can_be_ready_waits t d can = by (is_ready t d.ready) (and_parts (lives t d.tree) (not (is_ready t d.ready)) can).1
  where
    by : (b : Bool) → not b ≡ true → b ≡ false
    by true h = absurd (false≢true h)
    by false h = grind arith

-- room for one more that lives, beside different ones that live
pub room_for : (t : TaskNo) (tree : Tree) (xs : List TaskNo) → IsTree tree → AllByRecursion (λ u. lives u tree ≡ true) xs → IsDistinct is_task xs
    → AllByRecursion (λ u. is_task u t ≡ false) xs → lives t tree ≡ true → length xs < TASKS
room_for t tree xs has live distinct apart here =
    let few = has.few in
    let less = fewer t tree.tasks here in
    let most = at_most_all xs (others t tree.tasks) distinct (all_live_on t xs tree.tasks apart live) in
    omega (arith, few, less, most)

pub has_room : (t : TaskNo) (d : Desk) → IsDesk d → machine.can_be_ready t (system d none_live []) ≡ true → length d.ready < TASKS
has_room t d desk can =
    room_for t d.tree d.ready desk.tree (recursion_from_All (λ u. lives u d.tree ≡ true) d.ready desk.live)
    (IsDistinct-from_apart is_task d.ready desk.ready.apart) (apart_from t d.ready (can_be_ready_waits t d can)) (can_be_ready_lives t d can)

pub live_at_back : (t : TaskNo) (tree : Tree) (ready : List TaskNo) → AllLive tree ready → lives t tree ≡ true → AllLive tree (at_back t ready)
live_at_back t tree ready live here = All-push (λ u. lives u tree ≡ true) ready t live here

pub live_without : (t : TaskNo) (tree : Tree) (ready : List TaskNo) → AllLive tree ready → AllLive tree (without t ready)
live_without t tree ready live = All-filter (λ u. not (is_task u t)) (λ u. lives u tree ≡ true) ready live

pub live_ended : (t : TaskNo) (tree : Tree) (ready : List TaskNo) → AllLive tree ready → AllLive (ended t tree) (without t ready)
live_ended t tree ready live = λ k d lt.
    lives_on t (get_or (without t ready) k d) tree.tasks (kept (is_task (get_or (without t ready) k d) t) (filter_passes (λ u. not (is_task u t)) ready k d lt))
    (live_without t tree ready live k d lt)
  where
    kept : (b : Bool) → not b ≡ true → b ≡ false
    kept true h = absurd (false≢true h)
    kept false h = grind arith

-- a task more, and all live on
pub live_begun : (name : List ℕ) (father : TaskNo) (tree : Tree) (t : TaskNo) → lives t tree ≡ true → lives t (begun name father tree) ≡ true
live_begun name father tree t live =
    list_any-append (has_number t) tree.tasks (task (next tree) name father ∷ [])
    ∙ ap (λ (b : Bool). b || list_any (has_number t) (task (next tree) name father ∷ [])) live

pub comes_back : (t : TaskNo) (inside now : Desk) (ready : List TaskNo) → inside ≡ now → ready ≡ at_back t inside.ready
    → ((library : Library) (owns : List Own) → machine.can_be_ready t (system now library owns) ≡ true)
    → Makes (machine.on_system (machine.back t)) now (record inside { ready = ready })
comes_back t inside now ready same last can = λ library owns.
    ap (λ (r : List TaskNo). moment (record inside { ready = r }) library owns) last
    ∙ ap (λ (d : Desk). moment (record d { ready = at_back t d.ready }) library owns) same
    ∙ ap
    (λ (b : Bool). record { system = if b then machine.on_ready (at_back t) (system now library owns) else system now library owns; display = now.display })
    (sym (can library owns))

pub stays_away : (t : TaskNo) (now : Desk) → ((library : Library) (owns : List Own) → machine.can_be_ready t (system now library owns) ≡ false)
    → Makes (machine.on_system (machine.back t)) now now
stays_away t now cannot = λ library owns.
    ap
    (λ (b : Bool). record { system = if b then machine.on_ready (at_back t) (system now library owns) else system now library owns; display = now.display })
    (sym (cannot library owns))
