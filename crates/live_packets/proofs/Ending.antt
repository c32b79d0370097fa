-- A task whose command is over, and what nothing denotes of its data spaces goes.
use Rattle.std.proofs.Common.{◌≡◌, ℕ, List, [], ◌∷◌, ◌++◌, Some, refl, sym, ap, ◌∙◌, subst}
use Rattle.std.specs.Prelude.{slice_get}
use Rattle.eu_base.specs.declared.value.Kind.{Kind}
use Rattle.cell_kinds.specs.Kinds.{packet_kinds}
use Rattle.elan_types.specs.Eval.{World}
use Rattle.live_packets.specs.Below.units.specs.declared.unit.Compiled.{Compiled}
use Rattle.live_packets.specs.Below.system_meaning.specs.Stores.{Store, tidied}
use Rattle.live_packets.specs.Below.system_meaning.specs.Tasks.{Command, Idle, Own, store_in, with_doing}
use Rattle.live_packets.specs.Below.system_meaning.specs.Systems.{with_own}
use Rattle.live_packets.specs.Below.system_meaning.specs.Monitor.{with_packet}
use Rattle.live_tasks.specs.Tasks.{Live, Stand, StandOver}
use Rattle.live_tasks.proofs.Standing.{with_own_twice}
use Rattle.live_packets.proofs.Owns.{found_with}
use Rattle.live_packets.proofs.Installing.{over_kinds}

-- the tasks are tidied at a place, whose packets have these kinds of variables
abbrev pub Tidies : Live → Live → ℕ → List Kind → Type 0
Tidies middle new k ks =
    (kinds_of : List ℕ → List Kind) (owns : List Own) (own : Own) (store : Store) → Stand kinds_of middle owns → slice_get owns k ≡ Some own
    → own.doing ≡ Idle store → ks ≡ kinds_of own.packets → Stand kinds_of new (with_own k (with_doing (Idle (tidied store))) owns)

module _ (kinds_of : List ℕ → List Kind) (old middle new : Live) (owns : List Own) (k : ℕ) (own : Own) (c : Command) (w : World) (unit : Compiled)
    (over : StandOver kinds_of old owns k c w) (has : slice_get owns k ≡ Some own) (is : c.unit ≡ unit) where
  kinds_are : packet_kinds unit.core.packets ≡ kinds_of own.packets
  kinds_are =
      ap (λ (u : Compiled). packet_kinds u.core.packets) (sym is) ∙ over_kinds kinds_of old owns k c w over own has

  -- behind it stand no other variables
  pub tidied_then : Tidies middle new k (packet_kinds unit.core.packets) → (store : Store) → Stand kinds_of middle (with_own k (with_doing (Idle store)) owns)
      → Stand kinds_of new (with_own k (with_doing (Idle (tidied store))) owns)
  tidied_then tidies store stand =
      subst (λ (os : List Own). Stand kinds_of new os) (with_own_twice owns k (with_doing (Idle store)) (with_doing (Idle (tidied store))))
      (tidies kinds_of (with_own k (with_doing (Idle store)) owns) (with_doing (Idle store) own) store stand
      (found_with k (with_doing (Idle store)) owns own has) refl kinds_are)

  -- a packet that was inserted is one of the task's
  pub inserted_then : (later : List ℕ → List Kind) (number : ℕ) → Tidies middle new k (packet_kinds unit.core.packets ++ unit.core.inserted)
      → later (own.packets ++ number ∷ []) ≡ kinds_of own.packets ++ c.unit.core.inserted
      → Stand later middle (with_own k (λ o. with_packet number (with_doing (Idle (store_in w)) o)) owns)
      → Stand later new (with_own k (λ o. with_packet number (with_doing (Idle (tidied (store_in w))) o)) owns)
  inserted_then later number tidies kinds stand =
      let f : Own → Own = λ o. with_packet number (with_doing (Idle (store_in w)) o) in
      let all : packet_kinds unit.core.packets ++ unit.core.inserted ≡ later (own.packets ++ number ∷ []) =
      ap (λ (ks : List Kind). ks ++ unit.core.inserted) kinds_are ∙ ap (λ (u : Compiled). kinds_of own.packets ++ u.core.inserted) (sym is) ∙ sym kinds in
      subst (λ (os : List Own). Stand later new os) (with_own_twice owns k f (with_doing (Idle (tidied (store_in w)))))
      (tidies later (with_own k f owns) (f own) (store_in w) stand (found_with k f owns own has) refl all)
