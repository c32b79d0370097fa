-- The numbers of the packets that tasks have.
use Rattle.std.proofs.Common.{◌≡◌, ℕ, zero, suc, ◌+◌, ◌≤◌, List, [], ◌∷◌, ◌++◌, length, Option, Some, None, subst, arith}
use Rattle.std.specs.List.{remove}
use Rattle.std.proofs.lemmas.Option.{none-some, same_Some}
use Rattle.turn_laws.specs.Below.task_numbers.specs.declared.number.TaskNo.{TaskNo}
use Rattle.turn_laws.specs.Below.task_tree.specs.declared.task.Task.{Task}
use Rattle.turn_laws.specs.Below.task_tree.specs.Tree.{has_number}
use Rattle.std.proofs.Common.{Bool, true, false, cond}
use Rattle.system_meaning.specs.Tasks.{Own}
use Rattle.system_meaning.specs.Systems.{with_own}
use Rattle.system_meaning.specs.Whole.{AreGiven, AreAllGiven}
use Rattle.turn_laws.proofs.Found.{found, changed_owns, without_own}

pub length_push : (os : List Own) (o : Own) → length (os ++ o ∷ []) ≡ length os + 1
length_push [] o = omega arith
length_push (x ∷ os) o = let rest = length_push os o in omega (arith, rest)

pub later_given : (last later : ℕ) → last ≤ later → (ns : List ℕ) → AreGiven last ns → AreGiven later ns
later_given last later more [] h = tt
later_given last later more (n ∷ ns) h = let low = h.0 in (omega (arith, more, low), later_given last later more ns h.1)

pub push_given : (last n : ℕ) → n ≤ last → (ns : List ℕ) → AreGiven last ns → AreGiven last (ns ++ n ∷ [])
push_given last n low [] h = (low, tt)
push_given last n low (m ∷ ns) h = (h.0, push_given last n low ns h.1)

pub given_found : (last : ℕ) (t : TaskNo) (xs : List Task) (os : List Own) (o : Own) → found t xs os ≡ Some o → AreAllGiven last os → AreGiven last o.packets
given_found last t [] os o is h = absurd (none-some o is)
given_found last t (x ∷ xs) [] o is h = absurd (none-some o is)
given_found last t (x ∷ xs) (y ∷ os) o is h = by (has_number t x) is (λ later. given_found last t xs os o later h.1)
  where
    by : (b : Bool) → cond b (Some y) (found t xs os) ≡ Some o → (found t xs os ≡ Some o → AreGiven last o.packets) → AreGiven last o.packets
    by true is later = subst (λ (z : Own). AreGiven last z.packets) (same_Some y o is) h.0
    by false is later = later is

pub all_later : (last later : ℕ) → last ≤ later → (os : List Own) → AreAllGiven last os → AreAllGiven later os
all_later last later more [] h = tt
all_later last later more (o ∷ os) h = (later_given last later more o.packets h.0, all_later last later more os h.1)

given_with : (last : ℕ) (f : Own → Own) → ((o : Own) → AreGiven last o.packets → AreGiven last (f o).packets) → (k : ℕ) (os : List Own)
    → AreAllGiven last os → AreAllGiven last (with_own k f os)
given_with last f keeps zero [] h = tt
given_with last f keeps (suc k) [] h = tt
given_with last f keeps zero (o ∷ os) h = (keeps o h.0, h.1)
given_with last f keeps (suc k) (o ∷ os) h = (h.0, given_with last f keeps k os h.1)

pub given_changed : (last : ℕ) (f : Own → Own) → ((o : Own) → AreGiven last o.packets → AreGiven last (f o).packets) → (p : Option ℕ) (os : List Own)
    → AreAllGiven last os → AreAllGiven last (changed_owns p f os)
given_changed last f keeps None os h = h
given_changed last f keeps (Some k) os h = given_with last f keeps k os h

pub given_push : (last : ℕ) (os : List Own) (o : Own) → AreAllGiven last os → AreGiven last o.packets → AreAllGiven last (os ++ o ∷ [])
given_push last [] o h g = (g, tt)
given_push last (x ∷ os) o h g = (h.0, given_push last os o h.1 g)

given_remove : (last : ℕ) (os : List Own) (k : ℕ) → AreAllGiven last os → AreAllGiven last (remove os k)
given_remove last [] zero h = tt
given_remove last [] (suc k) h = tt
given_remove last (o ∷ os) zero h = h.1
given_remove last (o ∷ os) (suc k) h = (h.0, given_remove last os k h.1)

pub given_without : (last : ℕ) (p : Option ℕ) (os : List Own) → AreAllGiven last os → AreAllGiven last (without_own p os)
given_without last None os h = h
given_without last (Some k) os h = given_remove last os k h
