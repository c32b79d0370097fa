-- What the tasks have for themselves, one of which changes, comes last, or goes.
use Rattle.std.proofs.Common.{◌≡◌, ℕ, zero, suc, ◌+◌, ◌<◌, ◌≤◌, List, [], ◌∷◌, ◌++◌, length, Some, refl, ap, subst, arith}
use Rattle.std.specs.Prelude.{slice_get}
use Rattle.std.specs.List.{remove}
use Rattle.std.proofs.lemmas.Option.{none-some, same_Some}
use Rattle.live_packets.specs.Below.system_meaning.specs.Tasks.{Own}
use Rattle.live_packets.specs.Below.system_meaning.specs.Systems.{with_own}
use Rattle.live_packets.specs.Below.system_meaning.specs.Whole.{AreGiven, AreAllGiven}

pub length_with : (k : ℕ) (f : Own → Own) (owns : List Own) → length (with_own k f owns) ≡ length owns
length_with k f [] = refl
length_with zero f (o ∷ owns) = refl
length_with (suc k) f (o ∷ owns) = omega (arith, length_with k f owns)

pub found_with : (k : ℕ) (f : Own → Own) (owns : List Own) (own : Own) → slice_get owns k ≡ Some own → slice_get (with_own k f owns) k ≡ Some (f own)
found_with k f [] own at = absurd (none-some own at)
found_with zero f (o ∷ owns) own at = ap (λ (x : Own). Some (f x)) (same_Some o own at)
found_with (suc k) f (o ∷ owns) own at = found_with k f owns own at

-- there is one at each place below the length
pub there_is : (owns : List Own) (k : ℕ) → k < length owns → (own : Own) × (slice_get owns k ≡ Some own)
there_is [] k low = absurd (omega (arith, low))
there_is (o ∷ owns) zero low = (o, refl)
there_is (o ∷ owns) (suc k) low = there_is owns k (omega (arith, low))

with_at_end : (owns : List Own) (own : Own) (f : Own → Own) (n : ℕ) → n ≡ length owns → with_own n f (owns ++ own ∷ []) ≡ owns ++ f own ∷ []
with_at_end [] own f zero e = refl
with_at_end [] own f (suc n) e = absurd (omega (arith, e))
with_at_end (o ∷ owns) own f zero e = absurd (omega (arith, e))
with_at_end (o ∷ owns) own f (suc n) e = ap (λ (os : List Own). o ∷ os) (with_at_end owns own f n (omega (arith, e)))

pub with_last : (owns : List Own) (own : Own) (f : Own → Own) → with_own (length owns) f (owns ++ own ∷ []) ≡ owns ++ f own ∷ []
with_last owns own f = with_at_end owns own f (length owns) refl

found_at_end : (owns : List Own) (own : Own) (n : ℕ) → n ≡ length owns → slice_get (owns ++ own ∷ []) n ≡ Some own
found_at_end [] own zero e = refl
found_at_end [] own (suc n) e = absurd (omega (arith, e))
found_at_end (o ∷ owns) own zero e = absurd (omega (arith, e))
found_at_end (o ∷ owns) own (suc n) e = found_at_end owns own n (omega (arith, e))

pub found_last : (owns : List Own) (own : Own) → slice_get (owns ++ own ∷ []) (length owns) ≡ Some own
found_last owns own = found_at_end owns own (length owns) refl

pub length_push : (owns : List Own) (own : Own) → length (owns ++ own ∷ []) ≡ length owns + 1
length_push [] own = omega arith
length_push (o ∷ owns) own = omega (arith, length_push owns own)

-- ---- their packets

pub later_given : (last later : ℕ) → last ≤ later → (ns : List ℕ) → AreGiven last ns → AreGiven later ns
later_given last later more [] h = tt
later_given last later more (n ∷ ns) h = (omega (arith, more, h.0), later_given last later more ns h.1)

pub push_given : (last n : ℕ) → n ≤ last → (ns : List ℕ) → AreGiven last ns → AreGiven last (ns ++ n ∷ [])
push_given last n low [] h = (low, tt)
push_given last n low (m ∷ ns) h = (h.0, push_given last n low ns h.1)

pub given_at : (last : ℕ) (owns : List Own) (k : ℕ) (own : Own) → slice_get owns k ≡ Some own → AreAllGiven last owns → AreGiven last own.packets
given_at last [] k own at h = absurd (none-some own at)
given_at last (o ∷ owns) zero own at h = subst (λ (x : Own). AreGiven last x.packets) (same_Some o own at) h.0
given_at last (o ∷ owns) (suc k) own at h = given_at last owns k own at h.1

pub all_later : (last later : ℕ) → last ≤ later → (owns : List Own) → AreAllGiven last owns → AreAllGiven later owns
all_later last later more [] h = tt
all_later last later more (o ∷ owns) h = (later_given last later more o.packets h.0, all_later last later more owns h.1)

pub given_with : (last : ℕ) (f : Own → Own) → ((own : Own) → AreGiven last own.packets → AreGiven last (f own).packets) → (owns : List Own) (k : ℕ)
    → AreAllGiven last owns → AreAllGiven last (with_own k f owns)
given_with last f keeps [] k h = tt
given_with last f keeps (o ∷ owns) zero h = (keeps o h.0, h.1)
given_with last f keeps (o ∷ owns) (suc k) h = (h.0, given_with last f keeps owns k h.1)

pub given_push : (last : ℕ) (owns : List Own) (own : Own) → AreAllGiven last owns → AreGiven last own.packets → AreAllGiven last (owns ++ own ∷ [])
given_push last [] own h g = (g, tt)
given_push last (o ∷ owns) own h g = (h.0, given_push last owns own h.1 g)

pub given_remove : (last : ℕ) (owns : List Own) (k : ℕ) → AreAllGiven last owns → AreAllGiven last (remove owns k)
given_remove last [] zero h = tt
given_remove last [] (suc k) h = tt
given_remove last (o ∷ owns) zero h = h.1
given_remove last (o ∷ owns) (suc k) h = (h.0, given_remove last owns k h.1)
