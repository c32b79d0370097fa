-- What the steps of a turn leave of what tasks have.
use Rattle.std.proofs.Common.{◌≡◌, ℕ, zero, suc, ◌+◌, ◌-◌, ◌≤◌, ◌<◌, Bool, true, false, cond, not, ◌||◌, List, [], ◌∷◌, length, get_or, fold, All, Option, Some, None, refl, sym, ap, ◌∙◌, subst, arith}
use Rattle.std.specs.Prelude.{option_map, AllPairs}
use Rattle.std.specs.List.{list_any, AllByRecursion}
use Rattle.std.proofs.lemmas.Bool.{false≢true, and_parts, or_parts, or_left, not_from_false, eq-eqb, ne_eqb}
use Rattle.std.proofs.lemmas.List.{length-append}
use Rattle.std.proofs.lemmas.List.Elements.{recursion_from_All, All-from_recursion, All-filter, All-push, filter_passes}
use Rattle.std.proofs.lemmas.List.Folds.{list_any-append}
use Rattle.std.proofs.lemmas.List.Kept.{AllPairs-filter}
use Rattle.std.proofs.lemmas.List.Quantifiers.{all_pairs_push}
use Rattle.std.proofs.lemmas.List.Sums.{length-filter, count_by-le-length}
use Rattle.std.proofs.lemmas.Map.Views.{any-filter_same}
use Rattle.std.proofs.lemmas.Option.{none-some}
use Rattle.turn_laws.specs.Below.task_numbers.specs.declared.number.TaskNo.{TaskNo}
use Rattle.turn_laws.specs.Below.task_numbers.specs.Numbers.{is_task}
use Rattle.turn_laws.specs.Below.elan_names.specs.declared.interface.Interface.{Interface}
use Rattle.turn_laws.specs.Below.elan_scope.specs.declared.env.Env.{Env}
use Rattle.turn_laws.specs.Below.task_tree.specs.declared.task.Task.{Task}
use Rattle.turn_laws.specs.Below.task_tree.specs.Tree as tree
use Rattle.turn_laws.specs.Below.task_tree.specs.Tree.{Tree, has_number}
use Rattle.turn_laws.specs.Below.task_tree.specs.Trees.{IsTree, IsYounger}
use Rattle.turn_laws.specs.Below.task_tree.specs.Ends.{CanEnd}
use Rattle.turn_laws.specs.Below.task_tree.proofs.Ending.{ended_stays}
use Rattle.turn_laws.specs.Below.slicer.specs.Rotation.{IsRotation}
use Rattle.turn_laws.specs.Below.slicer.specs.Rotation as rotation
use Rattle.turn_laws.specs.Below.message_wait.specs.Rendezvous.{Waits}
use Rattle.turn_laws.specs.Below.message_wait.specs.Rendezvous as rendezvous
use Rattle.turn_laws.specs.Below.terminals.specs.Channels.{Channel}
use Rattle.turn_laws.specs.Below.terminals.specs.Channels as channels
use Rattle.turn_laws.specs.Below.terminals.specs.Couplings.{IsOneToOne}
use Rattle.turn_laws.specs.Below.terminals.proofs.Coupling.{coupled_one_to_one}
use Rattle.turn_laws.specs.Below.units.specs.declared.unit.Compiled.{Compiled}
use Rattle.turn_laws.specs.Below.units.specs.Library.{Library, env_of}
use Rattle.eu_base.specs.Requests.{Answer}
use Rattle.system_meaning.specs.Tasks.{Doing, Own, with_doing, replied}
use Rattle.system_meaning.specs.Systems.{System, own, packets, packets_of, changed, does, given, woken, sharing, on_ready, on_waits, on_channels, back, can_be_ready}
use Rattle.system_meaning.specs.Ends.{begun, removed, removed_at, has_packet, without_packets}
use Rattle.system_meaning.specs.Monitor.{installed, with_packet, inserted}
use Rattle.system_meaning.specs.Whole.{AreGiven, AreAllGiven, IsSystem}
use Rattle.turn_laws.specs.Own.{Whole, whole, own_of}
use Rattle.turn_laws.proofs.Found.{place_in, place_is, own_found, none_found, some_found, found_has, changed_owns, changed_is, other_found, itself_found, length_changed, without_own, rest, behind_stay, pairs_behind, found_left, found_before, another}
use Rattle.turn_laws.proofs.Envs.{env_before, installed_numbered, env_without, without_numbered, without_last}
use Rattle.turn_laws.proofs.Owns.{length_push, push_given, given_found, all_later, given_changed, given_push, given_without}
use Rattle.turn_laws.proofs.Finding.{find_rest, find_before}

-- ---- all that a task has is the same

pub same_whole : (t : TaskNo) (s later : System) → tree.name t later.shared.tree ≡ tree.name t s.shared.tree → own t later ≡ own t s
    → ((o : Own) → own t s ≡ Some o → env_of later.shared.library o.packets ≡ env_of s.shared.library o.packets) → own_of t later ≡ own_of t s
same_whole t s later name has env =
    ap (λ (n : List ℕ). option_map (whole n later.shared.library) (own t later)) name
    ∙ ap (λ (p : Option Own). option_map (whole (tree.name t s.shared.tree) later.shared.library) p) has
    ∙ by (own t s) env
  where
    by : (p : Option Own) → ((o : Own) → p ≡ Some o → env_of later.shared.library o.packets ≡ env_of s.shared.library o.packets)
        → option_map (whole (tree.name t s.shared.tree) later.shared.library) p ≡ option_map (whole (tree.name t s.shared.tree) s.shared.library) p
    by None env = refl
    by (Some o) env =
        ap (λ (e : Env). let w : Whole = record { name = tree.name t s.shared.tree; own = o; env = e } in Some w) (env o refl)

pub own_in : (t : TaskNo) (s later : System) → own_of t later ≡ own_of t s → own t later ≡ own t s
own_in t s later e =
    sym (back_to (tree.name t later.shared.tree) later.shared.library (own t later))
    ∙ (ap (option_map (λ (w : Whole). w.own)) e ∙ back_to (tree.name t s.shared.tree) s.shared.library (own t s))
  where
    back_to : (n : List ℕ) (l : Library) (p : Option Own) → option_map (λ (w : Whole). w.own) (option_map (whole n l) p) ≡ p
    back_to n l None = refl
    back_to n l (Some o) = refl

-- one that does not live has nothing, and one that does has something
pub nothing_of : (t : TaskNo) (s : System) → tree.lives t s.shared.tree ≡ false → own_of t s ≡ None
nothing_of t s dead =
    ap (option_map (whole (tree.name t s.shared.tree) s.shared.library)) (own_found t s ∙ none_found t s.shared.tree.tasks s.owns dead)

pub something_of : (t : TaskNo) (s : System) → IsSystem s → tree.lives t s.shared.tree ≡ true → own_of t s ≡ None → ⊥
something_of t s is live none =
    some_found t s.shared.tree.tasks s.owns is.as_many live (sym (own_found t s) ∙ no (own t s) none)
  where
    no : (p : Option Own) → option_map (whole (tree.name t s.shared.tree) s.shared.library) p ≡ None → p ≡ None
    no None e = refl
    no (Some o) e = absurd (none-some (whole (tree.name t s.shared.tree) s.shared.library o) (sym e))

-- ---- steps of a task that leave all that others have

pub record Quiet (u : TaskNo) (s later : System) : Type 0 where
  pub tree : later.shared.tree ≡ s.shared.tree
  pub others : (t : TaskNo) → is_task t u ≡ false → own_of t later ≡ own_of t s
  pub sound : IsSystem later

pub quiet_same : (u : TaskNo) (s : System) → IsSystem s → Quiet u s s
quiet_same u s is = record { tree = refl; others = λ t other. refl; sound = is }

pub quiet_then : (u : TaskNo) (first second third : System) → Quiet u first second → Quiet u second third → Quiet u first third
quiet_then u first second third a b = record {
  tree = b.tree ∙ a.tree;
  others = λ t other. b.others t other ∙ a.others t other;
  sound = b.sound;
}

-- the tasks of a ready list live, and none stands in it twice
pub record CanWait (s : Tree) (ready : List TaskNo) : Type 0 where
  pub rotation : IsRotation ready
  pub live : All (λ (t : TaskNo). tree.lives t s ≡ true) ready

pub waits_behind : (s : Tree) (u : TaskNo) (ready : List TaskNo) → CanWait s (u ∷ ready) → CanWait s ready
waits_behind s u ready h = record {
  rotation = record {
    few = let few = h.rotation.few in omega (arith, few);
    apart = λ i j d less low. h.rotation.apart (suc i) (suc j) d (omega (arith, less)) (omega (arith, low));
  };
  live = λ k d low. h.live (suc k) d (omega (arith, low));
}

pub can_wait : (s : System) → IsSystem s → CanWait s.shared.tree s.shared.ready
can_wait s is = record { rotation = is.ready; live = is.live }

pub quiet_ready : (u : TaskNo) (f : List TaskNo → List TaskNo) (s : System) → CanWait s.shared.tree (f s.shared.ready) → IsSystem s → Quiet u s (on_ready f s)
quiet_ready u f s waits is = record {
  tree = refl;
  others = λ t other. refl;
  sound = record {
    tree = is.tree;
    as_many = is.as_many;
    ready = waits.rotation;
    live = waits.live;
    channels = is.channels;
    given = is.given;
    numbered = is.numbered;
  };
}

-- where one is gone there are fewer
fewer_left : (t : TaskNo) (xs : List Task) → list_any (has_number t) xs ≡ true → length (rest t xs) < length xs
fewer_left t [] live = absurd (false≢true live)
fewer_left t (x ∷ xs) live = by (has_number t x) live (fewer_left t xs)
  where
    by : (b : Bool) → (b || list_any (has_number t) xs) ≡ true → (list_any (has_number t) xs ≡ true → length (rest t xs) < length xs)
        → length (cond (not b) (x ∷ rest t xs) (rest t xs)) < length (x ∷ xs)
    by true here later =
        let most = count_by-le-length (λ (u : Task). not (has_number t u)) xs in
        let kept = length-filter (λ (u : Task). not (has_number t u)) xs in
        omega (arith, most, kept)
    by false there later = let less = later there in omega (arith, less)

-- another task lives on where one is gone
pub lives_on : (t u : TaskNo) (xs : List Task) → is_task u t ≡ false → list_any (has_number u) xs ≡ true → list_any (has_number u) (rest t xs) ≡ true
lives_on t u xs other live =
    any-filter_same (has_number u) (λ (v : Task). not (has_number t v)) true (λ v same. not_from_false (has_number t v) (another t u v (turned u t other) same)) xs ∙ live
  where
    turned : (u t : TaskNo) → is_task u t ≡ false → is_task t u ≡ false
    turned u t e = ne_eqb t.0 u.0 (λ same. false≢true (sym e ∙ eq-eqb u.0 t.0 (sym same)))

all_live_on : (t : TaskNo) (ready : List TaskNo) (xs : List Task) → AllByRecursion (λ (u : TaskNo). is_task u t ≡ false) ready
    → AllByRecursion (λ (u : TaskNo). list_any (has_number u) xs ≡ true) ready → AllByRecursion (λ (u : TaskNo). list_any (has_number u) (rest t xs) ≡ true) ready
all_live_on t [] xs apart live = tt
all_live_on t (u ∷ us) xs apart live = (lives_on t u xs apart.0 live.0, all_live_on t us xs apart.1 live.1)

-- no task stands twice
abbrev pub Once : List TaskNo → Type 0
Once [] = Unit {0}
Once (t ∷ ts) = AllByRecursion (λ (u : TaskNo). is_task u t ≡ false) ts × Once ts

pub once : (ready : List TaskNo) → AllPairs (λ t u. is_task t u ≡ false) ready → Once ready
once [] apart = tt
once (t ∷ ts) apart = (
  recursion_from_All (λ (u : TaskNo). is_task u t ≡ false) ts
      (λ k d low. let e = apart zero (suc k) d (omega arith) (omega (arith, low)) in
      ne_eqb (get_or ts k d).0 t.0 (λ same. false≢true (sym e ∙ eq-eqb t.0 (get_or ts k d).0 (sym same)))),
  once ts (λ i j d less low. apart (suc i) (suc j) d (omega (arith, less)) (omega (arith, low))),
)

-- different tasks that live are at most as many as live
at_most_all : (ready : List TaskNo) (xs : List Task) → Once ready → AllByRecursion (λ (u : TaskNo). list_any (has_number u) xs ≡ true) ready
    → length ready ≤ length xs
at_most_all [] xs apart live = omega arith
at_most_all (t ∷ ts) xs apart live =
    let less = fewer_left t xs live.0 in
    let more = at_most_all ts (rest t xs) apart.1 (all_live_on t ts xs apart.0 live.1) in
    omega (arith, less, more)

apart_from : (t : TaskNo) (ready : List TaskNo) → rotation.is_ready t ready ≡ false → AllByRecursion (λ (u : TaskNo). is_task u t ≡ false) ready
apart_from t [] waits = tt
apart_from t (u ∷ us) waits = let both = or_parts (is_task u t) (rotation.is_ready t us) waits in (both.0, apart_from t us both.1)

waits_last : (t : TaskNo) (s : System) → IsSystem s → can_be_ready t s ≡ true → CanWait s.shared.tree (rotation.at_back t s.shared.ready)
waits_last t s is can =
    let both = and_parts (tree.lives t s.shared.tree) (not (rotation.is_ready t s.shared.ready)) can in
    let beside = apart_from t s.shared.ready (unready (rotation.is_ready t s.shared.ready) both.1) in
    let less = fewer_left t s.shared.tree.tasks both.0 in
    let most = at_most_all s.shared.ready (rest t s.shared.tree.tasks) (once s.shared.ready is.ready.apart)
    (all_live_on t s.shared.ready s.shared.tree.tasks beside
    (recursion_from_All (λ (u : TaskNo). tree.lives u s.shared.tree ≡ true) s.shared.ready is.live)) in
    let few = is.tree.few in
    let long = length-append s.shared.ready (t ∷ []) in
    record {
      rotation = record {
        few = omega (arith, less, most, few, long);
        apart = all_pairs_push (λ v u. is_task v u ≡ false) s.shared.ready t is.ready.apart
            (All-from_recursion (λ (u : TaskNo). is_task u t ≡ false) s.shared.ready beside);
      };
      live = All-push (λ (u : TaskNo). tree.lives u s.shared.tree ≡ true) s.shared.ready t is.live both.0;
    }
  where
    unready : (b : Bool) → not b ≡ true → b ≡ false
    unready true e = absurd (false≢true e)
    unready false e = refl

pub quiet_back : (u t : TaskNo) (s : System) → IsSystem s → Quiet u s (back t s)
quiet_back u t s is = by (can_be_ready t s) refl
  where
    by : (b : Bool) → can_be_ready t s ≡ b → Quiet u s (cond b (on_ready (rotation.at_back t) s) s)
    by true can = quiet_ready u (rotation.at_back t) s (waits_last t s is can) is
    by false can = quiet_same u s is

pub quiet_channels : (u : TaskNo) (f : List Channel → List Channel) (s : System) → IsOneToOne (f s.shared.channels) → IsSystem s → Quiet u s (on_channels f s)
quiet_channels u f s one is = record {
  tree = refl;
  others = λ t other. refl;
  sound = record {
    tree = is.tree;
    as_many = is.as_many;
    ready = is.ready;
    live = is.live;
    channels = one;
    given = is.given;
    numbered = is.numbered;
  };
}

pub quiet_changed : (u : TaskNo) (f : Own → Own) (s : System) → ((o : Own) → AreGiven s.shared.library.last o.packets → AreGiven s.shared.library.last (f o).packets)
    → IsSystem s → Quiet u s (changed u f s)
quiet_changed u f s keeps is = subst (λ (later : System). Quiet u s later) (sym (changed_is u f s)) quiet
  where
    owns : List Own
    owns = changed_owns (place_in u s.shared.tree.tasks) f s.owns

    after : System
    after = record s { owns = owns }

    quiet : Quiet u s after
    quiet = record {
      tree = refl;
      others = λ t other.
          same_whole t s after refl
          (own_found t after ∙ (other_found t u other f s.shared.tree.tasks s.owns ∙ sym (own_found t s)))
          (λ o has. refl);
      sound = record {
        tree = is.tree;
        as_many = length_changed (place_in u s.shared.tree.tasks) f s.owns ∙ is.as_many;
        ready = is.ready;
        live = is.live;
        channels = is.channels;
        given = given_changed s.shared.library.last f keeps (place_in u s.shared.tree.tasks) s.owns is.given;
        numbered = is.numbered;
      };
    }

-- what it has for itself changes so, and nothing else does
pub own_changed : (u : TaskNo) (f : Own → Own) (s : System) → own u (changed u f s) ≡ option_map f (own u s)
own_changed u f s =
    ap (own u) (changed_is u f s)
    ∙ (own_found u (record s { owns = changed_owns (place_in u s.shared.tree.tasks) f s.owns })
    ∙ (itself_found u f s.shared.tree.tasks s.owns ∙ sym (ap (option_map f) (own_found u s))))

pub library_changed : (u : TaskNo) (f : Own → Own) (s : System) → (changed u f s).shared.library ≡ s.shared.library
library_changed u f s = ap (λ (later : System). later.shared.library) (changed_is u f s)

pub tree_changed : (u : TaskNo) (f : Own → Own) (s : System) → (changed u f s).shared.tree ≡ s.shared.tree
tree_changed u f s = ap (λ (later : System). later.shared.tree) (changed_is u f s)

pub channels_changed : (u : TaskNo) (f : Own → Own) (s : System) → (changed u f s).shared.channels ≡ s.shared.channels
channels_changed u f s = ap (λ (later : System). later.shared.channels) (changed_is u f s)

pub none_of : (name : List ℕ) (lib : Library) (p : Option Own) → option_map (whole name lib) p ≡ None → p ≡ None
none_of name lib None e = refl
none_of name lib (Some o) e = absurd (none-some (whole name lib o) (sym e))

pub changed_lives : (u : TaskNo) (f : Own → Own) (s : System) → own_of u (changed u f s) ≡ None → own_of u s ≡ None
changed_lives u f s none =
    ap (option_map (whole (tree.name u s.shared.tree) s.shared.library))
    (before (own u s) (sym (own_changed u f s) ∙ none_of _ (changed u f s).shared.library (own u (changed u f s)) none))
  where
    before : (p : Option Own) → option_map f p ≡ None → p ≡ None
    before None e = refl
    before (Some o) e = absurd (none-some (f o) (sym e))

pub quiet_does : (u : TaskNo) (d : Doing) (s : System) → IsSystem s → Quiet u s (does u d s)
quiet_does u d s is = quiet_changed u (with_doing d) s (λ o given. given) is

-- a packet is installed
pub quiet_installed : (u : TaskNo) (unit : Compiled) (i : Interface) (s : System) → IsSystem s
    → Quiet u s (sharing (λ h. record h { library = installed unit i h.library }) s)
quiet_installed u unit i s is = record {
  tree = refl;
  others = λ t other.
      same_whole t s later refl refl
      (λ o has. env_before unit i s.shared.library o.packets
      (given_found s.shared.library.last t s.shared.tree.tasks s.owns o (sym (own_found t s) ∙ has) is.given));
  sound = record {
    tree = is.tree;
    as_many = is.as_many;
    ready = is.ready;
    live = is.live;
    channels = is.channels;
    given = all_later s.shared.library.last (s.shared.library.last + 1) (omega arith) s.owns is.given;
    numbered = installed_numbered unit i s.shared.library is.numbered;
  };
}
  where
    later : System
    later = sharing (λ h. record h { library = installed unit i h.library }) s

pub quiet_inserted : (u : TaskNo) (unit : Compiled) (i : Interface) (s : System) → IsSystem s → Quiet u s (inserted u unit i s)
quiet_inserted u unit i s is =
    let first = quiet_installed u unit i s is in
    quiet_then u s later (inserted u unit i s) first
    (quiet_changed u (with_packet (s.shared.library.last + 1)) later
    (λ o given. push_given (s.shared.library.last + 1) (s.shared.library.last + 1) (omega arith) o.packets given) first.sound)
  where
    later : System
    later = sharing (λ h. record h { library = installed unit i h.library }) s

-- ---- messages

pub waits_sound : (f : Waits → Waits) (s : System) → IsSystem s → IsSystem (on_waits f s)
waits_sound f s is = record {
  tree = is.tree;
  as_many = is.as_many;
  ready = is.ready;
  live = is.live;
  channels = is.channels;
  given = is.given;
  numbered = is.numbered;
}

-- it gets an answer, and is ready
pub quiet_given : (v : TaskNo) (a : Answer) (s : System) → IsSystem s → Quiet v s (given v a s)
quiet_given v a s is = quiet_changed v (λ (o : Own). with_doing (replied a o.doing) o) s (λ o given. given) is

pub quiet_woken : (v : TaskNo) (a : Answer) (s : System) → IsSystem s → Quiet v s (woken v a s)
quiet_woken v a s is =
    let first = quiet_given v a s is in
    quiet_then v s (given v a s) (woken v a s) first (quiet_back v v (given v a s) first.sound)

-- and so with others
abbrev pub all_woken : Answer → List TaskNo → System → System
all_woken a us s = fold (λ (s : System) (u : TaskNo). woken u a s) s us

pub all_woken_sound : (a : Answer) (us : List TaskNo) (s : System) → IsSystem s → IsSystem (all_woken a us s)
all_woken_sound a [] s is = is
all_woken_sound a (v ∷ us) s is = all_woken_sound a us (woken v a s) (quiet_woken v a s is).sound

pub all_woken_tree : (a : Answer) (us : List TaskNo) (s : System) → IsSystem s → (all_woken a us s).shared.tree ≡ s.shared.tree
all_woken_tree a [] s is = refl
all_woken_tree a (v ∷ us) s is = let quiet = quiet_woken v a s is in all_woken_tree a us (woken v a s) quiet.sound ∙ quiet.tree

pub all_woken_others : (a : Answer) (us : List TaskNo) (s : System) → IsSystem s → (t : TaskNo) → list_any (λ v. is_task v t) us ≡ false
    → own_of t (all_woken a us s) ≡ own_of t s
all_woken_others a [] s is t other = refl
all_woken_others a (v ∷ us) s is t other =
    let both = or_parts (is_task v t) (list_any (λ v. is_task v t) us) other in
    let quiet = quiet_woken v a s is in
    all_woken_others a us (woken v a s) quiet.sound t both.1
    ∙ quiet.others t (ne_eqb t.0 v.0 (λ same. false≢true (sym both.0 ∙ eq-eqb v.0 t.0 (sym same))))

-- ---- a channel is free

pub free_stays : (c : ℕ) (s : List Channel) → IsOneToOne s → IsOneToOne (channels.uncoupled c s)
free_stays c s one = coupled_one_to_one s (c - 1) (channels.alone (channels.channel c s)) one (λ some. absurd (false≢true (sym some)))

-- ---- a son begins

-- all that the tasks have whose numbers were given
pub begun_others : (name : List ℕ) (u : TaskNo) (d : Doing) (s : System) → IsSystem s → (t : TaskNo) → t.0 ≤ s.shared.tree.last → own_of t (begun name u d s) ≡ own_of t s
begun_others name u d s is t low =
    same_whole t s (begun name u d s)
    (ap tree.name_of (find_before t new other s.shared.tree.tasks))
    (own_found t (begun name u d s) ∙ (found_before t new other s.shared.tree.tasks s.owns son is.as_many ∙ sym (own_found t s)))
    (λ o has. refl)
  where
    new : Task
    new = tree.task (tree.next s.shared.tree) name u

    son : Own
    son = record { packets = packets u s; doing = d }

    other : has_number t new ≡ false
    other = ne_eqb (s.shared.tree.last + 1) t.0 (λ e. omega (arith, low, e))

packets_given : (u : TaskNo) (s : System) → IsSystem s → AreGiven s.shared.library.last (packets u s)
packets_given u s is = by (own u s) refl
  where
    by : (p : Option Own) → own u s ≡ p → AreGiven s.shared.library.last (packets_of p)
    by None has = tt
    by (Some o) has = given_found s.shared.library.last u s.shared.tree.tasks s.owns o (sym (own_found u s) ∙ has) is.given

pub begun_sound : (name : List ℕ) (u : TaskNo) (d : Doing) (s : System) → IsSystem s → IsTree (tree.begun name u s.shared.tree) → IsSystem (begun name u d s)
begun_sound name u d s is grown = record {
  tree = grown;
  as_many =
      length_push s.owns (record { packets = packets u s; doing = d })
      ∙ (ap (λ (n : ℕ). n + 1) is.as_many ∙ sym (length-append s.shared.tree.tasks (tree.task (tree.next s.shared.tree) name u ∷ [])));
  ready = is.ready;
  live = λ k t low.
      list_any-append (has_number (get_or s.shared.ready k t)) s.shared.tree.tasks (tree.task (tree.next s.shared.tree) name u ∷ [])
      ∙ or_left (tree.lives (get_or s.shared.ready k t) s.shared.tree) _ (is.live k t low);
  channels = is.channels;
  given = given_push s.shared.library.last s.owns (record { packets = packets u s; doing = d }) is.given (packets_given u s is);
  numbered = is.numbered;
}

-- ---- a task goes

fewer : (w : TaskNo) (xs : List Task) (os : List Own) → AllPairs IsYounger xs → length os ≡ length xs
    → length (without_own (place_in w xs) os) ≡ length (rest w xs)
fewer w [] os pairs long = long
fewer w (x ∷ xs) [] pairs long = absurd (omega (arith, long))
fewer w (x ∷ xs) (o ∷ os) pairs long = by (has_number w x) refl (fewer w xs os (pairs_behind x xs pairs) (omega (arith, long)))
  where
    later : (p : Option ℕ) → length (without_own p os) ≡ length (rest w xs)
        → length (without_own (option_map (λ k. suc k) p) (o ∷ os)) ≡ length (x ∷ rest w xs)
    later None e = omega (arith, e)
    later (Some k) e = omega (arith, e)

    by : (b : Bool) → has_number w x ≡ b → length (without_own (place_in w xs) os) ≡ length (rest w xs)
        → length (without_own (cond b (Some 0) (option_map (λ k. suc k) (place_in w xs))) (o ∷ os)) ≡ length (cond (not b) (x ∷ rest w xs) (rest w xs))
    by true is e = let same = ap length (behind_stay w x xs is pairs) in omega (arith, same, long)
    by false is e = later (place_in w xs) e

-- where it lives, as a walk finds it
abbrev pub left : TaskNo → System → System
left w s = record {
  shared = record s.shared {
    tree = tree.ended w s.shared.tree;
    ready = rotation.without w s.shared.ready;
    waits = rendezvous.left w s.shared.waits;
    library = without_packets (packets w s) (without_own (place_in w s.shared.tree.tasks) s.owns) s.shared.library;
  };
  owns = without_own (place_in w s.shared.tree.tasks) s.owns;
}

placed : (w : TaskNo) (xs : List Task) → list_any (has_number w) xs ≡ true → place_in w xs ≡ None → ⊥
placed w [] live none = false≢true live
placed w (x ∷ xs) live none = at (has_number w x) live none (placed w xs)
  where
    no : (p : Option ℕ) → option_map (λ k. suc k) p ≡ None → p ≡ None
    no None e = refl
    no (Some k) e = absurd (none-some (suc k) (sym e))

    at : (b : Bool) → (b || list_any (has_number w) xs) ≡ true → cond b (Some 0) (option_map (λ k. suc k) (place_in w xs)) ≡ None
        → (list_any (has_number w) xs ≡ true → place_in w xs ≡ None → ⊥) → ⊥
    at true live none later = none-some 0 (sym none)
    at false live none later = later live (no (place_in w xs) none)

pub removed_is : (w : TaskNo) (s : System) → tree.lives w s.shared.tree ≡ true → removed w s ≡ left w s
removed_is w s live = ap (λ (p : Option ℕ). removed_at p w s) (place_is w s.shared.tree.tasks) ∙ by (place_in w s.shared.tree.tasks) (placed w s.shared.tree.tasks live)
  where
    by : (p : Option ℕ) → (p ≡ None → ⊥)
        → removed_at p w s ≡ record {
          shared = record s.shared {
            tree = tree.ended w s.shared.tree;
            ready = rotation.without w s.shared.ready;
            waits = rendezvous.left w s.shared.waits;
            library = without_packets (packets w s) (without_own p s.owns) s.shared.library;
          };
          owns = without_own p s.owns;
        }
    by None some = absurd (some refl)
    by (Some k) some = refl

pub removed_others : (w : TaskNo) (s : System) → IsSystem s → tree.lives w s.shared.tree ≡ true → (t : TaskNo) → is_task t w ≡ false → own_of t (removed w s) ≡ own_of t s
removed_others w s is live t other =
    ap (own_of t) (removed_is w s live)
    ∙ same_whole t s (left w s)
    (ap tree.name_of (find_rest t w other s.shared.tree.tasks))
    here
    (λ o has. env_without (packets w s) (without_own (place_in w s.shared.tree.tasks) s.owns) s.shared.library o
    (λ n none. found_has (has_packet n) t (rest w s.shared.tree.tasks) (without_own (place_in w s.shared.tree.tasks) s.owns) o
    (sym (own_found t (left w s)) ∙ (here ∙ has)) none))
  where
    here : own t (left w s) ≡ own t s
    here =
        own_found t (left w s)
        ∙ (found_left t w other s.shared.tree.tasks s.owns is.tree.apart ∙ sym (own_found t s))

pub dead : (w : TaskNo) (xs : List Task) → list_any (has_number w) (rest w xs) ≡ false
dead w [] = refl
dead w (x ∷ xs) = by (has_number w x) refl (dead w xs)
  where
    by : (b : Bool) → has_number w x ≡ b → list_any (has_number w) (rest w xs) ≡ false
        → list_any (has_number w) (cond (not b) (x ∷ rest w xs) (rest w xs)) ≡ false
    by true e later = later
    by false e later = ap (λ c. c || list_any (has_number w) (rest w xs)) e ∙ later

pub removed_itself : (w : TaskNo) (s : System) → tree.lives w s.shared.tree ≡ true → own_of w (removed w s) ≡ None
removed_itself w s live = ap (own_of w) (removed_is w s live) ∙ nothing_of w (left w s) (dead w s.shared.tree.tasks)

pub removed_tree : (w : TaskNo) (s : System) → tree.lives w s.shared.tree ≡ true → (removed w s).shared.tree ≡ tree.ended w s.shared.tree
removed_tree w s live = ap (λ (later : System). later.shared.tree) (removed_is w s live)

pub removed_channels : (w : TaskNo) (s : System) → tree.lives w s.shared.tree ≡ true → (removed w s).shared.channels ≡ s.shared.channels
removed_channels w s live = ap (λ (later : System). later.shared.channels) (removed_is w s live)

pub removed_last : (w : TaskNo) (s : System) → tree.lives w s.shared.tree ≡ true → (removed w s).shared.library.last ≡ s.shared.library.last
removed_last w s live =
    ap (λ (later : System). later.shared.library.last) (removed_is w s live)
    ∙ without_last (packets w s) (without_own (place_in w s.shared.tree.tasks) s.owns) s.shared.library

waits_without : (w : TaskNo) (s : System) → IsSystem s → CanWait (tree.ended w s.shared.tree) (rotation.without w s.shared.ready)
waits_without w s is = record {
  rotation = record {
    few =
        let most = count_by-le-length (λ (u : TaskNo). not (is_task u w)) s.shared.ready in
        let kept = length-filter (λ (u : TaskNo). not (is_task u w)) s.shared.ready in
        let few = is.ready.few in
        omega (arith, most, kept, few);
    apart = AllPairs-filter (λ v u. is_task v u ≡ false) (λ (u : TaskNo). not (is_task u w)) s.shared.ready is.ready.apart;
  };
  live = λ k d low.
      lives_on w (get_or (rotation.without w s.shared.ready) k d) s.shared.tree.tasks
      (other (is_task (get_or (rotation.without w s.shared.ready) k d) w) (filter_passes (λ (u : TaskNo). not (is_task u w)) s.shared.ready k d low))
      (All-filter (λ (u : TaskNo). not (is_task u w)) (λ (u : TaskNo). tree.lives u s.shared.tree ≡ true) s.shared.ready is.live k d low);
}
  where
    other : (b : Bool) → not b ≡ true → b ≡ false
    other true e = absurd (false≢true e)
    other false e = refl

-- one is not ready any more
pub ready_without : (w : TaskNo) (s : System) → IsSystem s → CanWait s.shared.tree (rotation.without w s.shared.ready)
ready_without w s is = record {
  rotation = record {
    few =
        let most = count_by-le-length (λ (u : TaskNo). not (is_task u w)) s.shared.ready in
        let kept = length-filter (λ (u : TaskNo). not (is_task u w)) s.shared.ready in
        let few = is.ready.few in
        omega (arith, most, kept, few);
    apart = AllPairs-filter (λ v u. is_task v u ≡ false) (λ (u : TaskNo). not (is_task u w)) s.shared.ready is.ready.apart;
  };
  live = All-filter (λ (u : TaskNo). not (is_task u w)) (λ (u : TaskNo). tree.lives u s.shared.tree ≡ true) s.shared.ready is.live;
}

pub removed_sound : (w : TaskNo) (s : System) → IsSystem s → CanEnd w s.shared.tree → IsSystem (removed w s)
removed_sound w s is can = subst IsSystem (sym (removed_is w s can.live)) (record {
  tree = ended_stays s.shared.tree w is.tree can;
  as_many = fewer w s.shared.tree.tasks s.owns is.tree.apart is.as_many;
  ready = (waits_without w s is).rotation;
  live = (waits_without w s is).live;
  channels = is.channels;
  given =
      subst (λ n. AreAllGiven n (without_own (place_in w s.shared.tree.tasks) s.owns))
      (sym (without_last (packets w s) (without_own (place_in w s.shared.tree.tasks) s.owns) s.shared.library))
      (given_without s.shared.library.last (place_in w s.shared.tree.tasks) s.owns is.given);
  numbered = without_numbered (packets w s) (without_own (place_in w s.shared.tree.tasks) s.owns) s.shared.library is.numbered;
})
