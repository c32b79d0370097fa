-- Messages: what is known of tasks that wait, and the tasks that are told that none answers.
use Rattle.std.proofs.Common.{◌≡◌, ◌≢◌, ℕ, ℤ, Bool, true, false, not, ◌&&◌, List, [], ◌∷◌, fold, get_or, Option, Some, None, refl, sym, ap, ◌∙◌, subst}
use Rattle.std.specs.Prelude.{slice_get}
use Rattle.std.specs.Option.{option_map, option_and_then}
use Rattle.std.proofs.lemmas.Bool.{false≢true, eqb-true}
use Rattle.std.proofs.lemmas.List.Quantifiers.{position-Some}
use Rattle.task_numbers.specs.declared.number.TaskNo.{TaskNo}
use Rattle.eu_base.specs.declared.request.Reply.TheVariants.{Message}
use Rattle.eu_base.specs.Requests.{Answer}
use Rattle.eu_base.specs.DataSpaces.{the_space, next_number}
use Rattle.message_wait.specs.Rendezvous.{is_waiting, waiting_for, released}
use Rattle.task_tree.specs.Tree.{lives, has_number, task}
use Rattle.live_system.specs.Below.units.specs.Library.{Library}
use Rattle.live_system.specs.Below.task_desk.specs.Desks.{Desk, system}
use Rattle.live_system.specs.Below.system_meaning.specs.Stores.{Store}
use Rattle.live_system.specs.Below.system_meaning.specs.Tasks.{Own, now, request_of, replied, with_doing}
use Rattle.live_system.specs.Below.system_meaning.specs.Systems.{System, Moment, place, kept, kept_by, requested, given, woken, with_own, on_system, on_waits}
use Rattle.live_system.specs.Below.system_meaning.specs.Ends.{freed_by, no_task}
use Rattle.live_system.specs.Below.system_meaning.specs.Serving.{content, message, space_number}
use Rattle.live_system.specs.Below.live_tasks.specs.Tasks.{Live, Stand}
use Rattle.live_packets.specs.Packets.{kinds_in}
use Rattle.live_packets.proofs.Owns.{length_with, given_with}
use Rattle.live_system.specs.Machines.{Machine, StandsAt}
use Rattle.live_system.specs.Steps.{woken_each}
use Rattle.live_system.proofs.Moments.{machine, IsPlace, here, mine, placed, changes}

-- ---- a task that can wait

both : (a b : Bool) → (a && not b) ≡ true → (a ≡ true) × (b ≡ false)
both true false e = (refl, refl)
both true true e = absurd (false≢true e)
both false b e = absurd (false≢true e)

can_of : (a b : Bool) → a ≡ true → b ≡ false → (a && not b) ≡ true
can_of true false live free = refl
can_of true true live free = absurd (false≢true (sym free))
can_of false b live free = absurd (false≢true live)

-- it lives and does not wait
pub can_so : (t : TaskNo) (desk : Desk) (can : Bool) → can ≡ (lives t desk.tree && not (is_waiting t desk.waits)) → can ≡ true
    → (lives t desk.tree ≡ true) × (is_waiting t desk.waits ≡ false)
can_so t desk can is e = both (lives t desk.tree) (is_waiting t desk.waits) (sym is ∙ e)

module _ (desk : Desk) (library : Library) (live : Live) (was : Machine) (is : machine desk library live ≡ was) where
  pub can_wait_at : (t : TaskNo) (can : Bool) → can ≡ (lives t desk.tree && not (is_waiting t desk.waits)) → (m : Moment) → StandsAt was m
      → lives t m.system.shared.tree ≡ true → is_waiting t m.system.shared.waits ≡ false → can ≡ true
  can_wait_at t can asked m s living free =
      let h = here desk library live was is m s in
      asked
      ∙ can_of (lives t desk.tree) (is_waiting t desk.waits) (ap (λ (n : Moment). lives t n.system.shared.tree) h.is ∙ living)
      (ap (λ (n : Moment). is_waiting t n.system.shared.waits) h.is ∙ free)

  -- ---- what a task keeps, and asks

  module _ (m : Moment) (h : StandsAt (machine desk library live) m) (t : TaskNo) (k : ℕ) (at : IsPlace desk live t (Some k)) (o : Own)
      (has : slice_get h.owns k ≡ Some o) where
    pub keeps : kept t m.system ≡ now o.doing
    keeps = ap (λ (p : Option Own). kept_by (option_map (λ (x : Own). x.doing) p)) (mine desk library live was is m h t k at o has)

    pub asks : requested t m.system ≡ request_of o.doing
    asks = ap (λ (p : Option Own). option_and_then request_of (option_map (λ (x : Own). x.doing) p)) (mine desk library live was is m h t k at o has)

-- ---- a message is handed

-- different tasks stand at different places
pub apart : (t u : TaskNo) (s : System) (j k : ℕ) → t.0 ≢ u.0 → Some j ≡ place t s → Some k ≡ place u s → j ≢ k
apart t u s j k other at_t at_u = λ same.
    let none = task t [] t in
    let first = position-Some (has_number t) s.shared.tree.tasks j none (sym at_t) in
    let second = position-Some (has_number u) s.shared.tree.tasks k none (sym at_u) in
    other (sym (eqb-true (get_or s.shared.tree.tasks j none).number.0 t.0 first.1)
    ∙ ap (λ n. (get_or s.shared.tree.tasks n none).number.0) same
    ∙ eqb-true (get_or s.shared.tree.tasks k none).number.0 u.0 second.1)

-- a task gets an answer
abbrev pub answered : Answer → Own → Own
answered a o = with_doing (replied a o.doing) o

module _ (desk : Desk) (library : Library) (live : Live) (was : Machine) (is : machine desk library live ≡ was) (m : Moment)
    (h : StandsAt (machine desk library live) m) (t u : TaskNo) (j k : ℕ) (at_t : IsPlace desk live t (Some j)) (at_u : IsPlace desk live u (Some k)) where
  pub are_apart : t.0 ≢ u.0 → j ≢ k
  are_apart other =
      apart t u (system desk library h.owns) j k other (placed desk library live was is m h t (Some j) at_t) (placed desk library live was is m h u (Some k) at_u)

  -- two tasks get their answers
  pub both_answered : (a b : Answer) (later : Live) → Stand (kinds_in library) later (with_own k (answered b) (with_own j (answered a) h.owns))
      → StandsAt (machine desk library later) (on_system (given u b) (on_system (given t a) m))
  both_answered a b later stand =
      let first = placed desk library live was is m h t (Some j) at_t in
      let second = placed desk library live was is m h u (Some k) at_u in
      record {
        owns = with_own k (answered b) (with_own j (answered a) h.owns);
        is =
            changes desk library (with_own j (answered a) h.owns) u k (answered b) second
            ∙ ap (λ (n : Moment). on_system (given u b) n) (changes desk library h.owns t j (answered a) first)
            ∙ ap (λ (n : Moment). on_system (given u b) (on_system (given t a) n)) h.is;
        machine = record {
          as_many = length_with k (answered b) (with_own j (answered a) h.owns) ∙ length_with j (answered a) h.owns ∙ h.machine.as_many;
          given =
              given_with library.last (answered b) (λ o g. g) (with_own j (answered a) h.owns) k
              (given_with library.last (answered a) (λ o g. g) h.owns j h.machine.given);
          numbered = h.machine.numbered;
        };
        stand = stand;
      }

-- the message, made of what the tasks keep
abbrev pub message_of : ℤ → TaskNo → ℕ → Store → Store → Answer
message_of code from space mine other = record {
  reply = Message code from.0 (next_number other.spaces).0;
  content = the_space (space_number space) mine.spaces;
}

pub message_is : (code : ℤ) (from to : TaskNo) (space : ℕ) (s : System) (mine other : Store) → kept from s ≡ mine → kept to s ≡ other
    → message_of code from space mine other ≡ message code from (content from space s) to s
message_is code from to space s mine other keeps_mine keeps_other =
    ap (λ (st : Store). message_of code from space st other) (sym keeps_mine)
    ∙ ap (λ (st : Store). message_of code from space (kept from s) st) (sym keeps_other)

-- ---- tasks that are told that no task answers

pub woken_all : (ts : List TaskNo) (m : Moment) → woken_each ts m ≡ on_system (λ s. fold (λ (s : System) (u : TaskNo). woken u no_task s) s ts) m
woken_all [] m = refl
woken_all (t ∷ ts) m = woken_all ts (on_system (woken t no_task) m)

pub freed_so : (new : Machine) (t : TaskNo) (ts : List TaskNo) (m : Moment) → ts ≡ waiting_for t m.system.shared.waits
    → StandsAt new (woken_each ts (on_system (on_waits (released t)) m)) → StandsAt new (on_system (freed_by t) m)
freed_so new t ts m are h =
    subst (λ (us : List TaskNo). StandsAt new (on_system (λ s. fold (λ (s : System) (u : TaskNo). woken u no_task s) (on_waits (released t) s) us) m)) are
    (subst (λ (n : Moment). StandsAt new n) (woken_all ts (on_system (on_waits (released t)) m)) h)
