-- What holds of every system that the opening system leads to.
use Rattle.std.specs.Prelude.{◌≡◌, ◌≤◌, ℕ, true, false, List, [], ◌∷◌, map, length, All, Option, Some, None}
use Rattle.std.specs.List.{AllByRecursion, list_any}
use Rattle.system_meaning.specs.Below.task_numbers.specs.declared.number.TaskNo.{TaskNo}
use Rattle.system_meaning.specs.Below.task_numbers.specs.Numbers.{is_task}
use Rattle.eu_base.specs.declared.request.Request.TheVariants.{Wait, Call, Answer}
use Rattle.eu_base.specs.DataSpaces.{heads_of, is_live}
use Rattle.eu_base.specs.SpaceOperations.{room_refusal}
use Rattle.message_wait.specs.declared.waits.Caller.{Caller}
use Rattle.message_wait.specs.declared.waits.Receiver.{Receiver}
use Rattle.message_wait.specs.Rendezvous.{is_waiting}
use Rattle.task_tree.specs.Tree.{lives}
use Rattle.task_tree.specs.Trees.{IsTree}
use Rattle.slicer.specs.Rotation.{IsRotation}
use Rattle.terminals.specs.Couplings.{IsOneToOne}
use Rattle.units.specs.Library.{Live as Packet}
use Rattle.units.specs.Library.{Library}
use Rattle.system_meaning.specs.Tasks.{Own}
use Rattle.system_meaning.specs.Systems.{System, requested, kept}

abbrev pub AreGiven : ℕ → List ℕ → Type 0
AreGiven last ns = AllByRecursion (λ n. n ≤ last) ns

-- the numbers of the packets of all tasks were given
abbrev pub AreAllGiven : ℕ → List Own → Type 0
AreAllGiven last owns = AllByRecursion (λ (own : Own). AreGiven last own.packets) owns

-- those of the live packets were given
abbrev pub AreNumbered : Library → Type 0
AreNumbered library = AllByRecursion (λ (l : Packet). l.number ≤ library.last) library.live

-- ---- those that wait for messages

-- a caller lives and calls so, with a data space that lives, and the task that it calls lives
pub record IsCaller (c : Caller) (s : System) : Type 0 where
  pub space : ℕ
  pub calls : requested c.from s ≡ Some (Call c.to.0 c.code space)
  pub there : is_live (record { 0 = space }) (kept c.from s).spaces ≡ true
  pub alive : lives c.to s.shared.tree ≡ true

-- a task waits for the message of any, or for the answer of one that lives
abbrev pub WaitsFor : TaskNo → Option TaskNo → System → Type 0
WaitsFor t None s = requested t s ≡ Some Wait
WaitsFor t (Some u) s = (requested t s ≡ Some (Answer u.0)) × (lives u s.shared.tree ≡ true)

-- and has room for a data space
pub record IsReceiver (r : Receiver) (s : System) : Type 0 where
  pub waits : WaitsFor r.task r.of s
  pub room : room_refusal (heads_of (kept r.task s).spaces) ≡ None

-- no task is among these twice
abbrev pub AreOnce : List TaskNo → Type 0
AreOnce [] = Unit {0}
AreOnce (t ∷ ts) = (list_any (is_task t) ts ≡ false) × AreOnce ts

-- Callers and receivers are such; no task calls twice or waits twice, and one that calls does not wait, which what it asks tells; and none of them is
-- ready.
pub record AreWaits (s : System) : Type 0 where
  pub callers : AllByRecursion (λ (c : Caller). IsCaller c s) s.shared.waits.callers
  pub receivers : AllByRecursion (λ (r : Receiver). IsReceiver r s) s.shared.waits.receivers
  pub one_call : AreOnce (map (λ (c : Caller). c.from) s.shared.waits.callers)
  pub one_wait : AreOnce (map (λ (r : Receiver). r.task) s.shared.waits.receivers)
  pub calm : AllByRecursion (λ t. is_waiting t s.shared.waits ≡ false) s.shared.ready

-- As many tasks have something for themselves as live; those that are ready live; no task stands in the ready list twice, or at two channels; and
-- the number of no packet is given again.
pub record IsSystem (s : System) : Type 0 where
  pub tree : IsTree s.shared.tree
  pub as_many : length s.owns ≡ length s.shared.tree.tasks
  pub ready : IsRotation s.shared.ready
  pub live : All (λ t. lives t s.shared.tree ≡ true) s.shared.ready
  pub channels : IsOneToOne s.shared.channels
  pub given : AreAllGiven s.shared.library.last s.owns
  pub numbered : AreNumbered s.shared.library
