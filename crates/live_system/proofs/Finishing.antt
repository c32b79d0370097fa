-- What a command that is over leads to.
use Rattle.std.proofs.Common.{◌≡◌, ℕ, ◌+◌, ◌<◌, Bool, true, false, List, length, Option, Some, None, is_none, refl, sym, ap, ◌∙◌, subst, arith}
use Rattle.std.specs.Prelude.{slice_get}
use Rattle.std.specs.Option.{option_map, option_and_then}
use Rattle.task_numbers.specs.declared.number.TaskNo.{TaskNo}
use Rattle.std.proofs.lemmas.Bool.{false≢true}
use Rattle.std.proofs.lemmas.Option.{none-some, same_Some}
use Rattle.eu_base.specs.declared.stop.Stop.{Stop}
use Rattle.eu_base.specs.declared.stop.Stop.TheVariants.{ManyPackets}
use Rattle.eu_base.specs.declared.value.Kind.{Kind}
use Rattle.live_system.specs.Below.elan_names.specs.declared.interface.Interface.{Interface}
use Rattle.eu_base.specs.Room.{cells_fit}
use Rattle.elan_types.specs.Eval.{World}
use Rattle.elan_types.specs.Typing.{all_packet_kinds}
use Rattle.live_system.specs.Below.units.specs.declared.unit.Compiled.{Compiled}
use Rattle.live_system.specs.Below.units.specs.Library.{Library}
use Rattle.live_system.specs.Below.task_desk.specs.Desks.{Desk, moment, system}
use Rattle.live_system.specs.Below.system_meaning.specs.Stores.{Store, tidied}
use Rattle.live_system.specs.Below.system_meaning.specs.Tasks.{Command, Idle, Own, now, store_in, own_variables, settled, with_doing}
use Rattle.live_system.specs.Below.system_meaning.specs.Systems.{Moment, place, kept, kept_by, with_own, does, on_system}
use Rattle.live_system.specs.Below.system_meaning.specs.Monitor.{settle, tidy, inserted, installed, with_packet, is_full}
use Rattle.live_system.specs.Below.live_tasks.specs.Tasks.{Live, Stand, StandOver}
use Rattle.live_system.specs.Below.live_tasks.proofs.Standing.{with_own_twice}
use Rattle.live_system.specs.Machines.{Machine, IsMachine, StandsAt, StandsOverAt}
use Rattle.live_system.specs.Below.system_meaning.specs.Whole.{AreGiven, AreAllGiven, AreNumbered}
use Rattle.live_packets.specs.Packets.{kinds_in}
use Rattle.live_system.specs.Finishing.{insertion_leaves, leaves_by, finished, HasRoom, told_by}
use Rattle.live_packets.specs.Packets.{insertion_told}
use Rattle.live_packets.proofs.Owns.{length_with, found_with, given_with, all_later, push_given, there_is}
use Rattle.live_packets.proofs.PacketKinds.{installed_numbered}
use Rattle.live_system.proofs.Moments.{machine, IsPlace, changes}

-- ---- the words of the source machine

module _ (desk : Desk) (library : Library) (owns : List Own) (t : TaskNo) (k : ℕ) (at : Some k ≡ place t (system desk library owns)) where
  -- what it keeps
  keeps : (later : List Own) (x : Own) → slice_get later k ≡ Some x → kept t (system desk library later) ≡ now x.doing
  keeps later x there =
      ap (λ (p : Option ℕ). kept_by (option_map (λ (y : Own). y.doing) (option_and_then (slice_get later) p))) (sym at)
      ∙ ap (λ (p : Option Own). kept_by (option_map (λ (y : Own). y.doing) p)) there

  pub settles : (o : Own) → slice_get owns k ≡ Some o → (n : ℕ) (store : Store) → moment desk library (with_own k (with_doing (Idle (settled n store))) owns)
      ≡ on_system (settle t n) (on_system (does t (Idle store)) (moment desk library owns))
  settles o has n store =
      let idle : List Own = with_own k (with_doing (Idle store)) owns in
      ap (λ (os : List Own). moment desk library os) (sym (with_own_twice owns k (with_doing (Idle store)) (with_doing (Idle (settled n store)))))
      ∙ changes desk library idle t k (with_doing (Idle (settled n store))) at
      ∙ ap (λ (s : Store). on_system (does t (Idle (settled n s))) (moment desk library idle))
      (sym (keeps idle (with_doing (Idle store) o) (found_with k (with_doing (Idle store)) owns o has)))
      ∙ ap (λ (n' : Moment). on_system (settle t n) n') (changes desk library owns t k (with_doing (Idle store)) at)

  pub inserts : (unit : Compiled) (i : Interface) (store : Store)
      → moment desk (installed unit i library) (with_own k (λ x. with_packet (library.last + 1) (with_doing (Idle store) x)) owns)
      ≡ on_system (inserted t unit i) (on_system (does t (Idle store)) (moment desk library owns))
  inserts unit i store =
      let idle : List Own = with_own k (with_doing (Idle store)) owns in
      ap (λ (os : List Own). moment desk (installed unit i library) os)
      (sym (with_own_twice owns k (with_doing (Idle store)) (with_packet (library.last + 1))))
      ∙ changes desk (installed unit i library) idle t k (with_packet (library.last + 1)) at
      ∙ ap (λ (n : Moment). on_system (inserted t unit i) n) (changes desk library owns t k (with_doing (Idle store)) at)

  -- what nothing denotes goes
  tidies : (later : List Own) (x : Own) (store : Store) → slice_get later k ≡ Some x → x.doing ≡ Idle store
      → moment desk library (with_own k (with_doing (Idle (tidied store))) later) ≡ on_system (tidy t) (moment desk library later)
  tidies later x store there idle =
      changes desk library later t k (with_doing (Idle (tidied store))) at
      ∙ ap (λ (s : Store). on_system (does t (Idle (tidied s))) (moment desk library later)) (sym (keeps later x there ∙ ap now idle))

  pub tidied_at : (f : Own → Own) (o : Own) (store : Store) → slice_get owns k ≡ Some o → (f o).doing ≡ Idle store
      → moment desk library (with_own k (λ x. with_doing (Idle (tidied store)) (f x)) owns) ≡ on_system (tidy t) (moment desk library (with_own k f owns))
  tidied_at f o store has idle =
      ap (λ (os : List Own). moment desk library os) (sym (with_own_twice owns k f (with_doing (Idle (tidied store)))))
      ∙ tidies (with_own k f owns) (f o) store (found_with k f owns o has) idle

-- ---- for every moment

module _ (desk : Desk) (library : Library) (live : Live) (t : TaskNo) (c : Command) (w : World) (m : Moment)
    (h : StandsOverAt (machine desk library live) t c w m) where
  pub over_many : length live.tasks ≡ length desk.tree.tasks
  over_many = h.over.but.as_many ∙ h.machine.as_many

  -- the place that is looked up is that of the task
  pub over_place : (k : Option ℕ) → IsPlace desk live t k → k ≡ Some h.k
  over_place k at = at over_many library h.owns ∙ h.at

  pub over_found : h.k < length live.tasks → (o : Own) × (slice_get h.owns h.k ≡ Some o)
  over_found low = there_is h.owns h.k (subst (λ (n : ℕ). h.k < n) h.over.but.as_many low)

  -- the task is idle
  abbrev idle : Moment
  idle = on_system (does t (Idle (store_in w))) m

  full_before : is_full library ≡ is_full m.system.shared.library
  full_before = ap (λ (n : Moment). is_full n.system.shared.library) h.is

  full_after : is_full library ≡ is_full (on_system (does t (Idle (store_in w))) m).system.shared.library
  full_after =
      ap (λ (n : Moment). is_full n.system.shared.library) (changes desk library h.owns t h.k (with_doing (Idle (store_in w))) (sym h.at))
      ∙ ap (λ (n : Moment). is_full (on_system (does t (Idle (store_in w))) n).system.shared.library) h.is

  fits_with : (f : Own → Own) → ((o : Own) → (f o).packets ≡ o.packets) → (later : Live)
      → IsMachine (machine desk library later) (with_own h.k f h.owns)
  fits_with f same later = record {
    as_many = length_with h.k f h.owns ∙ h.machine.as_many;
    given = given_with library.last f (λ o g. subst (λ (ns : List ℕ). AreGiven library.last ns) (sym (same o)) g) h.owns h.k h.machine.given;
    numbered = h.machine.numbered;
  }

  -- a program
  pub program : (o : Own) → slice_get h.owns h.k ≡ Some o → (stop : Option Stop) → c.unit.shown ≡ None → (later : Live)
      → Stand (kinds_in library) later (with_own h.k (with_doing (Idle (tidied (store_in w)))) h.owns)
      → (stop ≡ told_by c.unit.shown stop m) × StandsAt (machine desk library later) (finished stop t c w m)
  program o has stop shows later stand =
      let stands : StandsAt (machine desk library later) (on_system (tidy t) (on_system (does t (Idle (store_in w))) m)) = record {
        owns = with_own h.k (with_doing (Idle (tidied (store_in w)))) h.owns;
        is =
            tidied_at desk library h.owns t h.k (sym h.at) (with_doing (Idle (store_in w))) o (store_in w) has refl
            ∙ ap (λ (n : Moment). on_system (tidy t) n) (changes desk library h.owns t h.k (with_doing (Idle (store_in w))) (sym h.at))
            ∙ ap (λ (n : Moment). on_system (tidy t) (on_system (does t (Idle (store_in w))) n)) h.is;
        machine = fits_with (with_doing (Idle (tidied (store_in w)))) (λ x. refl) later;
        stand = stand;
      } in
      subst
      (λ (s : Option Interface). (stop ≡ told_by s stop m)
      × StandsAt (machine desk library later) (on_system (tidy t) (leaves_by s stop t c (on_system (does t (Idle (store_in w))) m))))
      (sym shows) (refl, stands)

  -- an insertion that stopped, or for which there is no room
  pub settled_so : (o : Own) → slice_get h.owns h.k ≡ Some o → (stop : Option Stop) (i : Interface) → c.unit.shown ≡ Some i → (told : Stop)
      → Some told ≡ insertion_told stop (is_full library) → (later : Live)
      → Stand (kinds_in library) later (with_own h.k (with_doing (Idle (tidied (settled (own_variables c) (store_in w))))) h.owns)
      → (Some told ≡ told_by c.unit.shown stop m) × StandsAt (machine desk library later) (finished stop t c w m)
  settled_so o has stop i shows told is later stand =
      let stands : StandsAt (machine desk library later) (on_system (tidy t) (on_system (settle t (own_variables c)) (on_system (does t (Idle (store_in w))) m))) = record {
        owns = with_own h.k (with_doing (Idle (tidied (settled (own_variables c) (store_in w))))) h.owns;
        is =
            tidied_at desk library h.owns t h.k (sym h.at) (with_doing (Idle (settled (own_variables c) (store_in w)))) o
            (settled (own_variables c) (store_in w)) has refl
            ∙ ap (λ (n : Moment). on_system (tidy t) n) (settles desk library h.owns t h.k (sym h.at) o has (own_variables c) (store_in w))
            ∙ ap (λ (n : Moment). on_system (tidy t) (on_system (settle t (own_variables c)) (on_system (does t (Idle (store_in w))) n))) h.is;
        machine = fits_with (with_doing (Idle (tidied (settled (own_variables c) (store_in w))))) (λ x. refl) later;
        stand = stand;
      } in
      subst
      (λ (s : Option Interface). (Some told ≡ told_by s stop m) × StandsAt (machine desk library later) (on_system (tidy t) (leaves_by s stop t c (on_system (does t (Idle (store_in w))) m))))
      (sym shows) (
        is ∙ ap (λ (b : Bool). insertion_told stop b) full_before,
        subst (λ (n : Moment). StandsAt (machine desk library later) (on_system (tidy t) n))
            (sym (by stop (is_full (on_system (does t (Idle (store_in w))) m).system.shared.library) (is ∙ ap (λ (b : Bool). insertion_told stop b) full_after)))
            stands,
      )
    where
      by : (stop' : Option Stop) (full : Bool) → Some told ≡ insertion_told stop' full
          → insertion_leaves stop' full t c i (on_system (does t (Idle (store_in w))) m)
          ≡ on_system (settle t (own_variables c)) (on_system (does t (Idle (store_in w))) m)
      by (Some s) full e = refl
      by None true e = refl
      by None false e = absurd (none-some told (sym e))

  -- a packet that is installed
  inserts_at : (unit : Compiled) (i : Interface) (store : Store)
      → moment desk (installed unit i library) (with_own h.k (λ x. with_packet (library.last + 1) (with_doing (Idle store) x)) h.owns)
      ≡ on_system (inserted t unit i) (on_system (does t (Idle store)) (moment desk library h.owns))
  inserts_at unit i store = inserts desk library h.owns t h.k (sym h.at) unit i store

  pub inserted_so : (o : Own) → slice_get h.owns h.k ≡ Some o → (stop : Option Stop) (i : Interface) → c.unit.shown ≡ Some i → None ≡ insertion_told stop (is_full library) → (grown : Library)
      → grown ≡ installed c.unit i library → (later : Live)
      → Stand (kinds_in grown) later (with_own h.k (λ x. with_packet (library.last + 1) (with_doing (Idle (tidied (store_in w))) x)) h.owns)
      → (None ≡ told_by c.unit.shown stop m) × StandsAt (machine desk grown later) (finished stop t c w m)
  inserted_so o has stop i shows is grown new later stand =
      let before : Own → Own = λ x. with_packet (library.last + 1) (with_doing (Idle (store_in w)) x) in
      let f : Own → Own = λ x. with_packet (library.last + 1) (with_doing (Idle (tidied (store_in w))) x) in
      let stands : StandsAt (machine desk (installed c.unit i library) later) (on_system (tidy t) (on_system (inserted t c.unit i) (on_system (does t (Idle (store_in w))) m))) = record {
        owns = with_own h.k f h.owns;
        is =
            tidied_at desk (installed c.unit i library) h.owns t h.k (sym h.at) before o (store_in w) has refl
            ∙ ap (λ (n : Moment). on_system (tidy t) n) (inserts_at c.unit i (store_in w))
            ∙ ap (λ (n : Moment). on_system (tidy t) (on_system (inserted t c.unit i) (on_system (does t (Idle (store_in w))) n))) h.is;
        machine = record {
          as_many = length_with h.k f h.owns ∙ h.machine.as_many;
          given =
              given_with (library.last + 1) f (λ x g. push_given (library.last + 1) (library.last + 1) (omega arith) x.packets g) h.owns h.k
              (all_later library.last (library.last + 1) (omega arith) h.owns h.machine.given);
          numbered = installed_numbered c.unit i library h.machine.numbered;
        };
        stand = subst (λ (lib : Library). Stand (kinds_in lib) later (with_own h.k f h.owns)) new stand;
      } in
      subst
      (λ (s : Option Interface). (None ≡ told_by s stop m) × StandsAt (machine desk grown later) (on_system (tidy t) (leaves_by s stop t c (on_system (does t (Idle (store_in w))) m))))
      (sym shows) (
        is ∙ ap (λ (b : Bool). insertion_told stop b) full_before,
        subst (λ (lib : Library). StandsAt (machine desk lib later) (on_system (tidy t) (insertion_leaves stop (is_full idle.system.shared.library) t c i idle))) (sym new)
            (subst (λ (n : Moment). StandsAt (machine desk (installed c.unit i library) later) (on_system (tidy t) n))
            (sym (by stop (is_full (on_system (does t (Idle (store_in w))) m).system.shared.library) (is ∙ ap (λ (b : Bool). insertion_told stop b) full_after)))
            stands),
      )
    where
      by : (stop' : Option Stop) (full : Bool) → None ≡ insertion_told stop' full
          → insertion_leaves stop' full t c i (on_system (does t (Idle (store_in w))) m)
          ≡ on_system (inserted t c.unit i) (on_system (does t (Idle (store_in w))) m)
      by (Some s) full e = absurd (none-some s e)
      by None true e = absurd (none-some ManyPackets e)
      by None false e = refl

-- where a packet is installed the command has ended
room_there : (c : Command) (stop : Option Stop) (full : Bool) → None ≡ insertion_told stop full → HasRoom stop c
    → cells_fit (length (all_packet_kinds c.unit.core)) ≡ true
room_there c None full e room = room
room_there c (Some stop) full e room = absurd (none-some stop e)

-- ---- at the place that was looked up

pub over_here : (desk : Desk) (library : Library) (live : Live) (was : Machine) → machine desk library live ≡ was → (t : TaskNo) (c : Command) (w : World) (m : Moment)
    → StandsOverAt was t c w m → StandsOverAt (machine desk library live) t c w m
over_here desk library live was is t c w m s = subst (λ (x : Machine). StandsOverAt x t c w m) (sym is) s

module _ (desk : Desk) (library : Library) (live : Live) (was : Machine) (is : machine desk library live ≡ was) (t : TaskNo) (k : ℕ)
    (at : IsPlace desk live t (Some k)) (low : k < length live.tasks) (unit : Compiled) (stop : Option Stop) (c : Command) (w : World) (m : Moment)
    (same_unit : unit ≡ c.unit) (s : StandsOverAt was t c w m) where
  abbrev h : StandsOverAt (machine desk library live) t c w m
  h = over_here desk library live was is t c w m s

  place_is : k ≡ h.k
  place_is = same_Some k h.k (over_place desk library live t c w m h (Some k) at)

  over_k : StandOver (kinds_in library) live h.owns k c w
  over_k = subst (λ (n : ℕ). StandOver (kinds_in library) live h.owns n c w) (sym place_is) h.over

  own_k : (o : Own) × (slice_get h.owns k ≡ Some o)
  own_k = there_is h.owns k (subst (λ (n : ℕ). k < n) over_k.but.as_many low)

  own_there : slice_get h.owns h.k ≡ Some own_k.0
  own_there = subst (λ (n : ℕ). slice_get h.owns n ≡ Some own_k.0) place_is own_k.1

  -- a program
  pub program_at : unit.shown ≡ None → (later : Live)
      → ((kinds_of : List ℕ → List Kind) (owns : List Own) (own : Own) (c : Command) (w : World) → StandOver kinds_of live owns k c w → slice_get owns k ≡ Some own
      → c.unit ≡ unit → Stand kinds_of later (with_own k (with_doing (Idle (tidied (store_in w)))) owns))
      → (stop ≡ told_by c.unit.shown stop m) × StandsAt (machine desk library later) (finished stop t c w m)
  program_at shows later finishes =
      program desk library live t c w m h own_k.0 own_there stop (sym (ap (λ (u : Compiled). u.shown) same_unit) ∙ shows) later
      (subst (λ (n : ℕ). Stand (kinds_in library) later (with_own n (with_doing (Idle (tidied (store_in w)))) h.owns)) place_is
      (finishes (kinds_in library) h.owns own_k.0 c w over_k own_k.1 (sym same_unit)))

  -- an insertion that stopped, or for which there is no room
  pub settled_at : (i : Interface) → unit.shown ≡ Some i → (told : Stop) → Some told ≡ insertion_told stop (is_full library) → (later : Live)
      → ((kinds_of : List ℕ → List Kind) (owns : List Own) (own : Own) (c : Command) (w : World) → StandOver kinds_of live owns k c w → slice_get owns k ≡ Some own
      → c.unit ≡ unit → Stand kinds_of later (with_own k (with_doing (Idle (tidied (settled (own_variables c) (store_in w))))) owns))
      → (Some told ≡ told_by c.unit.shown stop m) × StandsAt (machine desk library later) (finished stop t c w m)
  settled_at i shows told told_is later settles_it =
      settled_so desk library live t c w m h own_k.0 own_there stop i
      (sym (ap (λ (u : Compiled). u.shown) same_unit) ∙ shows) told told_is later
      (subst (λ (n : ℕ). Stand (kinds_in library) later (with_own n (with_doing (Idle (tidied (settled (own_variables c) (store_in w))))) h.owns)) place_is
      (settles_it (kinds_in library) h.owns own_k.0 c w over_k own_k.1 (sym same_unit)))

  -- a packet that is installed
  pub inserted_at : HasRoom stop c → (i : Interface) → unit.shown ≡ Some i → None ≡ insertion_told stop (is_full library) → (grown : Library) (later : Live)
      → ((i : Interface) (owns : List Own) (own : Own) (c : Command) (w : World) → unit.shown ≡ Some i → c.unit ≡ unit → AreNumbered library
      → AreAllGiven library.last owns → StandOver (kinds_in library) live owns k c w → slice_get owns k ≡ Some own
      → cells_fit (length (all_packet_kinds c.unit.core)) ≡ true
      → (grown ≡ installed unit i library)
      × Stand (kinds_in grown) later (with_own k (λ o. with_packet (library.last + 1) (with_doing (Idle (tidied (store_in w))) o)) owns))
      → (None ≡ told_by c.unit.shown stop m) × StandsAt (machine desk grown later) (finished stop t c w m)
  inserted_at room i shows told_is grown later installs =
      let both =
      installs i h.owns own_k.0 c w shows (sym same_unit) h.machine.numbered h.machine.given over_k own_k.1
      (room_there c stop (is_full library) told_is room) in
      inserted_so desk library live t c w m h own_k.0 own_there stop i (sym (ap (λ (u : Compiled). u.shown) same_unit) ∙ shows) told_is grown
      (both.0 ∙ ap (λ (u : Compiled). installed u i library) same_unit) later
      (subst (λ (n : ℕ). Stand (kinds_in grown) later (with_own n (λ o. with_packet (library.last + 1) (with_doing (Idle (tidied (store_in w))) o)) h.owns)) place_is both.1)

-- it has a place
pub none_over : (desk : Desk) (library : Library) (live : Live) (was : Machine) → machine desk library live ≡ was → (t : TaskNo) → IsPlace desk live t None
    → (c : Command) (w : World) (m : Moment) → StandsOverAt was t c w m → ⊥
none_over desk library live was is t at c w m s =
    let h = over_here desk library live was is t c w m s in
    none-some h.k (over_place desk library live t c w m h None at)

-- what is shown
pub shown_some : (o : Option Interface) → is_none o ≡ false → (i : Interface) × (o ≡ Some i)
shown_some None e = absurd (false≢true (sym e))
shown_some (Some i) e = (i, refl)

pub shown_none : (o : Option Interface) → is_none o ≡ true → o ≡ None
shown_none None e = refl
shown_none (Some i) e = absurd (false≢true e)
