-- A task ends.
use Rattle.std.proofs.Common.{◌≡◌, ℕ, zero, suc, ◌+◌, ◌<◌, Bool, true, false, cond, not, ◌||◌, List, [], ◌∷◌, length, filter, get_or, Option, Some, None, refl, sym, ap, ◌∙◌, subst, arith}
use Rattle.std.specs.Prelude.{slice_get, AllPairs}
use Rattle.std.specs.List.{remove, list_any}
use Rattle.std.proofs.lemmas.List.Edits.{length-remove}
use Rattle.std.proofs.lemmas.Option.{slice_get_within}
use Rattle.std.proofs.lemmas.Bool.{false≢true, eqb-true}
use Rattle.task_numbers.specs.declared.number.TaskNo.{TaskNo}
use Rattle.task_numbers.specs.Numbers.{niltask}
use Rattle.task_tree.specs.declared.task.Task.{Task}
use Rattle.task_tree.specs.Tree.{has_number, lives}
use Rattle.task_tree.specs.Tree as trees
use Rattle.task_tree.specs.Trees.{IsTree, IsYounger}
use Rattle.live_system.specs.Below.terminals.specs.Channels.{channel_of}
use Rattle.live_system.specs.Below.units.specs.Library.{Library, none_live}
use Rattle.live_system.specs.Below.task_desk.specs.Desks.{Desk, Makes, moment, system}
use Rattle.live_system.specs.Below.task_desk.specs.Desks as desks
use Rattle.live_system.specs.Below.system_meaning.specs.Tasks.{Own}
use Rattle.live_system.specs.Below.system_meaning.specs.Systems.{Moment, place, packets_of, on_system, uncouple_at}
use Rattle.live_system.specs.Below.system_meaning.specs.Ends.{without_packets, removed, removed_at}
use Rattle.live_system.specs.Below.live_tasks.specs.Tasks.{Live, Stand}
use Rattle.live_system.specs.Machines.{Machine, StandsAt}
use Rattle.live_system.specs.Below.system_meaning.specs.Whole.{AreAllGiven, AreNumbered}
use Rattle.live_packets.specs.Packets.{kinds_in}
use Rattle.live_packets.proofs.Owns.{given_remove}
use Rattle.live_packets.proofs.PacketKinds.{apart, without_numbered, without_last}
use Rattle.live_system.proofs.Moments.{machine, IsPlace, here, stepped, owns_at, placed, placed_in}

-- ---- one task of the tree is gone

-- a task that is older than all stays
all_stay : (t : TaskNo) (xs : List Task) → ((j : ℕ) (d : Task) → j < length xs → t.0 < (get_or xs j d).number.0)
    → length (filter (λ (u : Task). not (has_number t u)) xs) ≡ length xs
all_stay t [] older = refl
all_stay t (x ∷ xs) older =
    let rest = all_stay t xs (λ j d low. older (suc j) d (omega (arith, low))) in
    let longer : length (x ∷ filter (λ (u : Task). not (has_number t u)) xs) ≡ length (x ∷ xs) = omega (arith, rest) in
    ap (λ (b : Bool). length (cond (not b) (x ∷ filter (λ (u : Task). not (has_number t u)) xs) (filter (λ (u : Task). not (has_number t u)) xs)))
    (apart t.0 x.number.0 (older zero x (omega arith)))
    ∙ longer

fewer : (t : TaskNo) (xs : List Task) → list_any (has_number t) xs ≡ true → AllPairs IsYounger xs
    → length (filter (λ (u : Task). not (has_number t u)) xs) + 1 ≡ length xs
fewer t [] live pairs = absurd (false≢true live)
fewer t (x ∷ xs) live pairs =
    by (has_number t x) refl live
    (λ others. fewer t xs others (λ i j d less low. pairs (suc i) (suc j) d (omega (arith, less)) (omega (arith, low))))
  where
    by : (b : Bool) → has_number t x ≡ b → (b || list_any (has_number t) xs) ≡ true
        → (list_any (has_number t) xs ≡ true → length (filter (λ (u : Task). not (has_number t u)) xs) + 1 ≡ length xs)
        → length (cond (not b) (x ∷ filter (λ (u : Task). not (has_number t u)) xs) (filter (λ (u : Task). not (has_number t u)) xs)) + 1 ≡ length (x ∷ xs)
    by true is living rest =
        let all = all_stay t xs
        (λ j d low.
        let younger : x.number.0 < (get_or xs j d).number.0 = (pairs zero (suc j) d (omega arith) (omega (arith, low))).0 in
        let same : x.number.0 ≡ t.0 = eqb-true x.number.0 t.0 is in
        omega (arith, younger, same)) in
        omega (arith, all)
    by false is living rest = let less = rest living in omega (arith, less)

uncouple_keeps : (c : Option ℕ) (m : Moment) → (uncouple_at c m).system.shared.tree ≡ m.system.shared.tree
uncouple_keeps None m = refl
uncouple_keeps (Some c) m = refl

-- the channel of the task is free
pub uncouples : (t : TaskNo) (m : Moment) → (uncouple_at (channel_of t m.system.shared.channels) m).system.shared.tree ≡ m.system.shared.tree
uncouples t m = uncouple_keeps (channel_of t m.system.shared.channels) m

module _ (desk : Desk) (library : Library) (live : Live) (was : Machine) (is : machine desk library live ≡ was) (m : Moment)
    (h : StandsAt (machine desk library live) m) (t : TaskNo) where
  -- it lives no more, and what it had is gone
  pub ends : (k : ℕ) → IsPlace desk live t (Some k) → (o : Own) → slice_get h.owns k ≡ Some o → lives t desk.tree ≡ true → IsTree desk.tree → (gone : Desk)
      → gone ≡ desks.removed t desk → (kept : Library) → kept ≡ without_packets o.packets (remove h.owns k) library → (later : Live)
      → Stand (kinds_in kept) later (remove h.owns k) → StandsAt (machine gone kept later) (on_system (removed t) m)
  ends k at o has living tree gone gone_is kept kept_is later stand = record {
    owns = remove h.owns k;
    is =
        ap (λ (e : Desk). moment e kept (remove h.owns k)) gone_is
        ∙ ap (λ (lib : Library). moment (desks.removed t desk) lib (remove h.owns k)) kept_is
        ∙ ap (λ (p : Option Own). moment (desks.removed t desk) (without_packets (packets_of p) (remove h.owns k) library) (remove h.owns k))
        (sym (owns_at desk library h.owns t k o here has))
        ∙ ap (λ (p : Option ℕ). on_system (removed_at p t) (moment desk library h.owns)) here
        ∙ ap (λ (n : Moment). on_system (removed t) n) h.is;
    machine = record {
      as_many =
          omega (
            arith,
            length-remove h.owns k (slice_get_within h.owns k o has),
            fewer t desk.tree.tasks living tree.apart,
            h.machine.as_many,
            ap (λ (e : Desk). length e.tree.tasks) gone_is,
          );
      given =
          subst (λ (lib : Library). AreAllGiven lib.last (remove h.owns k)) (sym kept_is)
          (subst (λ n. AreAllGiven n (remove h.owns k)) (sym (without_last o.packets (remove h.owns k) library))
          (given_remove library.last h.owns k h.machine.given));
      numbered =
          subst (λ (lib : Library). AreNumbered lib) (sym kept_is)
          (without_numbered o.packets (remove h.owns k) library h.machine.numbered);
    };
    stand = stand;
  }
    where
      here : Some k ≡ place t (system desk library h.owns)
      here = placed desk library live was is m h t (Some k) at

  -- one that does not live is gone already
  pub gone_already : IsPlace desk live t None → StandsAt (machine desk library live) (on_system (removed t) m)
  gone_already at =
      subst (λ (p : Option ℕ). StandsAt (machine desk library live) (on_system (removed_at p t) m)) (placed_in desk library live was is m h t None at) h

-- ---- before it ends

module _ (desk : Desk) (library : Library) (live : Live) (was : Machine) (is : machine desk library live ≡ was) (t : TaskNo) where
  -- the task can end
  pub can_end_at : (can : Bool) → (lives t desk.tree ≡ true → trees.son t desk.tree ≡ niltask → 2 < t.0 → can ≡ true) → (m : Moment) → StandsAt was m
      → lives t m.system.shared.tree ≡ true → trees.son t m.system.shared.tree ≡ niltask → 2 < t.0 → can ≡ true
  can_end_at can test m s living childless later =
      let h = here desk library live was is m s in
      test (ap (λ (n : Moment). lives t n.system.shared.tree) h.is ∙ living) (ap (λ (n : Moment). trees.son t n.system.shared.tree) h.is ∙ childless) later

  -- its channel is free
  pub uncoupled_at : (free : Desk) → Makes (uncouple_at (channel_of t desk.channels)) desk free → (m : Moment) → StandsAt was m
      → StandsAt (machine free library live) (uncouple_at (channel_of t m.system.shared.channels) m)
  uncoupled_at free makes m s =
      stepped desk library live was is (λ n. uncouple_at (channel_of t n.system.shared.channels) n) (uncouples t) free makes m s

-- and the tree is as it was
pub tree_same : (desk free : Desk) (c : Option ℕ) → Makes (uncouple_at c) desk free → free.tree ≡ desk.tree
tree_same desk free c makes =
    ap (λ (n : Moment). n.system.shared.tree) (makes none_live []) ∙ uncouple_keeps c (moment desk none_live [])
