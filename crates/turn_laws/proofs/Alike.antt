-- Two moments that are the same for a task, and what leaves them so.
use Rattle.std.proofs.Common.{◌≡◌, ℕ, ◌+◌, ◌<◌, ◌≤◌, Bool, true, false, List, [], ◌∷◌, ◌++◌, length, drop, fold, Option, Some, None}
use Rattle.std.proofs.Common.{refl, sym, ap, ◌∙◌, subst, ◌⊎◌, inl, inr, arith}
use Rattle.std.specs.Prelude.{option_map}
use Rattle.std.proofs.lemmas.Bool.{false≢true, or_left, or_right, ne_eqb, eq-eqb}
use Rattle.std.proofs.lemmas.Option.{none-some, same_Some}
use Rattle.turn_laws.specs.Below.task_numbers.specs.declared.number.TaskNo.{TaskNo}
use Rattle.turn_laws.specs.Below.task_numbers.specs.Numbers.{is_nil, is_task}
use Rattle.turn_laws.specs.Below.elan_names.specs.declared.interface.Interface.{Interface}
use Rattle.turn_laws.specs.Below.elan_scope.specs.declared.env.Env.{Env}
use Rattle.turn_laws.specs.Below.task_tree.specs.Tree as tree
use Rattle.turn_laws.specs.Below.message_wait.specs.Rendezvous.{Waits}
use Rattle.turn_laws.specs.Below.task_tree.specs.Ends.{CanEnd, EndInTurn}
use Rattle.turn_laws.specs.Below.terminals.specs.Channels.{Channel, channel, channel_of, uncoupled, unqueued}
use Rattle.turn_laws.specs.Below.session_text.specs.Display.{Display}
use Rattle.turn_laws.specs.Below.units.specs.Packets.{after}
use Rattle.turn_laws.specs.Below.units.specs.declared.unit.Compiled.{Compiled}
use Rattle.turn_laws.specs.Below.units.specs.Library.{Library, env_of}
use Rattle.system_meaning.specs.Tasks.{Own}
use Rattle.system_meaning.specs.Systems.{System, Moment, own, changed, back, sharing, on_channels, on_system, write, say, uncouple, uncouple_at, supervisor_prompt}
use Rattle.system_meaning.specs.Ends.{removed, freed_by, ended}
use Rattle.system_meaning.specs.Monitor.{installed, with_packet, inserted}
use Rattle.system_meaning.specs.Whole.{AreGiven, IsSystem}
use Rattle.turn_laws.specs.Own.{Whole, whole, own_of}
use Rattle.turn_laws.proofs.Envs.{env_with}
use Rattle.turn_laws.proofs.Found.{itself}
use Rattle.turn_laws.proofs.Finding.{has}
use Rattle.turn_laws.proofs.Steps.{quiet_changed, quiet_back, quiet_inserted, quiet_channels, free_stays, own_changed, library_changed, tree_changed, channels_changed, removed_others, removed_itself, removed_channels, removed_sound}
use Rattle.turn_laws.proofs.Rights.{Absent}
use Rattle.turn_laws.proofs.Others.{back_same, back_channels, unqueued_stays, freed_sound, freed_own, freed_channels, freed_absent, removed_waits, left_absent, left_itself, ended_tree}
use Rattle.turn_laws.proofs.Screens.{Screen, Untouched, untouched_same, untouched_then, screen_on, says, says_beside, writes}
use Rattle.turn_laws.proofs.Couplings.{IsAt, is_at_channel, unqueued_at, unqueued_queue, uncoupled_at, uncoupled_beside, uncoupled_free, uncoupled_none, others_at, free_at}

-- ---- the channel at which the task is when the turn begins

-- it is at this channel still, where the same lines wait
pub record Coupled (k : ℕ) (u : TaskNo) (cs ds : List Channel) : Type 0 where
  pub left : channel_of u cs ≡ Some k
  pub right : channel_of u ds ≡ Some k
  pub queue : (channel k cs).queue ≡ (channel k ds).queue

-- or at none, and the channel is free
pub record Free (k : ℕ) (u : TaskNo) (cs ds : List Channel) : Type 0 where
  pub left : channel_of u cs ≡ None
  pub right : channel_of u ds ≡ None
  pub first : is_nil (channel k cs).task ≡ true
  pub second : is_nil (channel k ds).task ≡ true

abbrev pub AtChannel : Option ℕ → TaskNo → List Channel → List Channel → Type 0
AtChannel None u cs ds = (channel_of u cs ≡ None) × (channel_of u ds ≡ None)
AtChannel (Some k) u cs ds = Coupled k u cs ds ⊎ Free k u cs ds

abbrev pub ScreenAt : Option ℕ → ℕ → ℕ → Display → Display → Type 0
ScreenAt None a b d e = Unit {0}
ScreenAt (Some k) a b d e = (0 < k) × Screen k a b d e

pub record Alike (u : TaskNo) (c : Option ℕ) (a b : ℕ) (m n : Moment) : Type 0 where
  pub first : IsSystem m.system
  pub second : IsSystem n.system
  pub own : own_of u m.system ≡ own_of u n.system
  pub at : AtChannel c u m.system.shared.channels n.system.shared.channels
  pub screen : ScreenAt c a b m.display n.display

pub same_channel : (u : TaskNo) (c : Option ℕ) (cs ds : List Channel) → AtChannel c u cs ds → channel_of u cs ≡ channel_of u ds
same_channel u None cs ds at = at.0 ∙ sym at.1
same_channel u (Some k) cs ds (inl at) = at.left ∙ sym at.right
same_channel u (Some k) cs ds (inr at) = at.left ∙ sym at.right

-- a task that is at a channel is at that
pub record AtThat (u : TaskNo) (c : Option ℕ) (j : ℕ) (cs ds : List Channel) : Type 0 where
  pub is : c ≡ Some j
  pub coupled : Coupled j u cs ds

pub at_that : (u : TaskNo) (c : Option ℕ) (j : ℕ) (cs ds : List Channel) → AtChannel c u cs ds → channel_of u cs ≡ Some j → AtThat u c j cs ds
at_that u None j cs ds at e = absurd (none-some j (sym at.0 ∙ e))
at_that u (Some k) j cs ds (inl at) e =
    let same : k ≡ j = same_Some k j (sym at.left ∙ e) in record {
      is = ap (λ (i : ℕ). Some i) same;
      coupled = subst (λ (i : ℕ). Coupled i u cs ds) same at;
    }
at_that u (Some k) j cs ds (inr at) e = absurd (none-some j (sym at.left ∙ e))

-- ---- what one moment comes to, apart from the task

abbrev pub ElsewhereAt : Option ℕ → ℕ → Moment → Moment → Type 0
ElsewhereAt None a m later = Unit {0}
ElsewhereAt (Some k) a m later =
    (channel k later.system.shared.channels ≡ channel k m.system.shared.channels) × Untouched k a m.display later.display

-- the task, its channel, and what is shown there stay
pub record Elsewhere (u : TaskNo) (c : Option ℕ) (a : ℕ) (m later : Moment) : Type 0 where
  pub sound : IsSystem later.system
  pub own : own_of u later.system ≡ own_of u m.system
  pub channel : channel_of u later.system.shared.channels ≡ channel_of u m.system.shared.channels
  pub at : ElsewhereAt c a m later

pub alike_on : (u : TaskNo) (c : Option ℕ) (a b : ℕ) (m n later other : Moment) → Alike u c a b m n → Elsewhere u c a m later → Elsewhere u c b n other
    → Alike u c a b later other
alike_on u c a b m n later other h first second = record {
  first = first.sound;
  second = second.sound;
  own = first.own ∙ (h.own ∙ sym second.own);
  at = at c h.at first.at second.at;
  screen = screen c h.screen first.at second.at;
}
  where
    at : (c : Option ℕ) → AtChannel c u m.system.shared.channels n.system.shared.channels → ElsewhereAt c a m later → ElsewhereAt c b n other
        → AtChannel c u later.system.shared.channels other.system.shared.channels
    at None is f g = (first.channel ∙ is.0, second.channel ∙ is.1)
    at (Some k) (inl is) f g = inl (record {
      left = first.channel ∙ is.left;
      right = second.channel ∙ is.right;
      queue = ap (λ (c : Channel). c.queue) f.0 ∙ (is.queue ∙ sym (ap (λ (c : Channel). c.queue) g.0));
    })
    at (Some k) (inr is) f g = inr (record {
      left = first.channel ∙ is.left;
      right = second.channel ∙ is.right;
      first = ap (λ (c : Channel). is_nil c.task) f.0 ∙ is.first;
      second = ap (λ (c : Channel). is_nil c.task) g.0 ∙ is.second;
    })

    screen : (c : Option ℕ) → ScreenAt c a b m.display n.display → ElsewhereAt c a m later → ElsewhereAt c b n other → ScreenAt c a b later.display other.display
    screen None is f g = tt
    screen (Some k) is f g = (is.0, screen_on k a b m.display n.display later.display other.display is.1 f.1 g.1)

-- what was shown before the turn stands before the rest, and the channel is the task's or free
abbrev pub IsFromAt : Option ℕ → ℕ → TaskNo → Moment → Type 0
IsFromAt None a u m = Unit {0}
IsFromAt (Some k) a u m =
    (0 < k) × (a ≤ length m.display.shown)
    × ((w : TaskNo) → is_task w u ≡ false → is_nil w ≡ false → is_task (channel k m.system.shared.channels).task w ≡ false)

pub from_left : (u : TaskNo) (c : Option ℕ) (a b : ℕ) (m n : Moment) → Alike u c a b m n → IsFromAt c a u m
from_left u c a b m n h = by c h.at h.screen
  where
    by : (c : Option ℕ) → AtChannel c u m.system.shared.channels n.system.shared.channels → ScreenAt c a b m.display n.display → IsFromAt c a u m
    by None at screen = tt
    by (Some k) (inl at) screen = (screen.0, screen.1.low, λ w other some. others_at k u w m.system.shared.channels at.left other)
    by (Some k) (inr at) screen = (screen.0, screen.1.low, λ w other some. free_at k w m.system.shared.channels at.first some)

pub from_right : (u : TaskNo) (c : Option ℕ) (a b : ℕ) (m n : Moment) → Alike u c a b m n → IsFromAt c b u n
from_right u c a b m n h = by c h.at h.screen
  where
    by : (c : Option ℕ) → AtChannel c u m.system.shared.channels n.system.shared.channels → ScreenAt c a b m.display n.display → IsFromAt c b u n
    by None at screen = tt
    by (Some k) (inl at) screen = (screen.0, screen.1.less, λ w other some. others_at k u w n.system.shared.channels at.right other)
    by (Some k) (inr at) screen = (screen.0, screen.1.less, λ w other some. free_at k w n.system.shared.channels at.second some)

pub elsewhere_then : (u : TaskNo) (c : Option ℕ) (a : ℕ) (m n o : Moment) → Elsewhere u c a m n → Elsewhere u c a n o → Elsewhere u c a m o
elsewhere_then u c a m n o first second = record {
  sound = second.sound;
  own = second.own ∙ first.own;
  channel = second.channel ∙ first.channel;
  at = at c first.at second.at;
}
  where
    at : (c : Option ℕ) → ElsewhereAt c a m n → ElsewhereAt c a n o → ElsewhereAt c a m o
    at None f g = tt
    at (Some k) f g = (g.0 ∙ f.0, untouched_then k a m.display n.display o.display f.1 g.1)

pub from_on : (u : TaskNo) (c : Option ℕ) (a : ℕ) (m n : Moment) → IsFromAt c a u m → Elsewhere u c a m n → IsFromAt c a u n
from_on u c a m n from h = by c from h.at
  where
    by : (c : Option ℕ) → IsFromAt c a u m → ElsewhereAt c a m n → IsFromAt c a u n
    by None from at = tt
    by (Some k) from at =
        (from.0, at.1.low, λ w other some. ap (λ (x : Channel). is_task x.task w) at.0 ∙ from.2 w other some)

-- the system alone changes
pub elsewhere_system : (u : TaskNo) (c : Option ℕ) (a : ℕ) (m : Moment) (s : System) → IsFromAt c a u m → IsSystem s → own_of u s ≡ own_of u m.system
    → s.shared.channels ≡ m.system.shared.channels → Elsewhere u c a m (record m { system = s })
elsewhere_system u c a m s from is same channels = record {
  sound = is;
  own = same;
  channel = ap (channel_of u) channels;
  at = by c from;
}
  where
    by : (c : Option ℕ) → IsFromAt c a u m → ElsewhereAt c a m (record m { system = s })
    by None from = tt
    by (Some k) from = (ap (channel k) channels, untouched_same k a m.display from.1)

pub elsewhere_same : (u : TaskNo) (c : Option ℕ) (a : ℕ) (m : Moment) → IsFromAt c a u m → IsSystem m.system → Elsewhere u c a m m
elsewhere_same u c a m from is = elsewhere_system u c a m m.system from is refl refl

pub elsewhere_back : (u : TaskNo) (c : Option ℕ) (a : ℕ) (m : Moment) → IsFromAt c a u m → IsSystem m.system → Elsewhere u c a m (on_system (back u) m)
elsewhere_back u c a m from is =
    elsewhere_system u c a m (back u m.system) from (quiet_back u u m.system is).sound (back_same u u m.system) (back_channels u m.system)

-- ---- another task ends

module _ (u : TaskNo) (u_some : is_nil u ≡ false) (c : Option ℕ) (a : ℕ) where
  -- its channel is another
  uncoupled_elsewhere : (m : Moment) (w : TaskNo) (j : ℕ) → IsFromAt c a u m → IsSystem m.system → channel_of w m.system.shared.channels ≡ Some j
      → is_task w u ≡ false → is_task u w ≡ false → is_nil w ≡ false → Elsewhere u c a m (uncouple j m)
  uncoupled_elsewhere m w j from is at other back some = record {
    sound = (quiet_channels u (uncoupled j) m.system (free_stays j m.system.shared.channels is.channels) is).sound;
    own = refl;
    channel = uncoupled_at u j m.system.shared.channels u_some (others_at j w u m.system.shared.channels at back);
    at = by c from;
  }
    where
      here : IsAt j w m.system.shared.channels
      here = is_at_channel j w m.system.shared.channels at

      by : (c : Option ℕ) → IsFromAt c a u m → ElsewhereAt c a m (uncouple j m)
      by None from = tt
      by (Some k) from =
          let apart : (j ≡ k → ⊥) = λ e.
          false≢true (sym (from.2 w other some)
          ∙ (ap (λ (i : ℕ). is_task (channel i m.system.shared.channels).task w) (sym e)
          ∙ (ap (λ (t : TaskNo). is_task t w) here.task ∙ itself w))) in
          let k_some = from.0 in
          let j_some = here.from in (
            uncoupled_beside k j m.system.shared.channels (λ e. apart (omega (arith, e, k_some, j_some))),
            says_beside k a j k_some j_some apart supervisor_prompt m.display from.1,
          )

  -- the task did not wait for it
  gone_absent : (s : System) (w : TaskNo) → CanEnd w s.shared.tree → Absent u s.shared.waits → Absent u (removed w s).shared.waits
  gone_absent s w can off =
      subst (λ (v : Waits). Absent u v) (sym (removed_waits w s can.live)) (left_absent u w s.shared.waits off)

  gone_elsewhere : (m : Moment) (w : TaskNo) → IsFromAt c a u m → IsSystem m.system → CanEnd w m.system.shared.tree → is_task u w ≡ false
      → Absent u m.system.shared.waits → Elsewhere u c a m (on_system (freed_by w) (on_system (removed w) m))
  gone_elsewhere m w from is can other off =
      let sound = removed_sound w m.system is can in
      elsewhere_system u c a m (freed_by w (removed w m.system)) from (freed_sound w (removed w m.system) sound)
      (freed_own u w (removed w m.system) sound (gone_absent m.system w can off) ∙ removed_others w m.system is can.live u other)
      (freed_channels w (removed w m.system) ∙ removed_channels w m.system can.live)

  ended_absent : (m : Moment) (w : TaskNo) → CanEnd w m.system.shared.tree → Absent u m.system.shared.waits → Absent u (ended m w).system.shared.waits
  ended_absent m w can off = by (channel_of w m.system.shared.channels)
    where
      by : (o : Option ℕ) → Absent u (freed_by w (removed w (uncouple_at o m).system)).shared.waits
      by None = freed_absent u w (removed w m.system) (gone_absent m.system w can off)
      by (Some j) =
          freed_absent u w (removed w (on_channels (uncoupled j) m.system)) (gone_absent (on_channels (uncoupled j) m.system) w can off)

  pub ended_elsewhere : (m : Moment) (w : TaskNo) → IsFromAt c a u m → IsSystem m.system → CanEnd w m.system.shared.tree → is_task w u ≡ false
      → Absent u m.system.shared.waits → Elsewhere u c a m (ended m w)
  ended_elsewhere m w from is can other off = by (channel_of w m.system.shared.channels) refl
    where
      back : is_task u w ≡ false
      back = ne_eqb u.0 w.0 (λ e. false≢true (sym other ∙ eq-eqb w.0 u.0 (sym e)))

      some : is_nil w ≡ false
      some = let later = can.later in ne_eqb w.0 0 (λ e. omega (arith, e, later))

      by : (o : Option ℕ) → channel_of w m.system.shared.channels ≡ o → Elsewhere u c a m (on_system (freed_by w) (on_system (removed w) (uncouple_at o m)))
      by None at = gone_elsewhere m w from is can back off
      by (Some j) at =
          let first = uncoupled_elsewhere m w j from is at other back some in
          elsewhere_then u c a m (uncouple j m) (on_system (freed_by w) (on_system (removed w) (uncouple j m))) first
          (gone_elsewhere (uncouple j m) w (from_on u c a m (uncouple j m) from first) first.sound can back off)

  -- some tasks end, and then others can
  pub record Ended (left : List TaskNo) (m later : Moment) : Type 0 where
    pub elsewhere : Elsewhere u c a m later
    pub turn : EndInTurn left later.system.shared.tree
    pub absent : Absent u later.system.shared.waits

  pub all_elsewhere : (ts left : List TaskNo) (m : Moment) → IsFromAt c a u m → IsSystem m.system → EndInTurn (ts ++ left) m.system.shared.tree
      → ((w : TaskNo) → has w ts ≡ true → is_task w u ≡ false) → Absent u m.system.shared.waits → Ended left m (fold ended m ts)
  all_elsewhere [] left m from is turn others off = record { elsewhere = elsewhere_same u c a m from is; turn = turn; absent = off }
  all_elsewhere (w ∷ ts) left m from is turn others off =
      let first = ended_elsewhere m w from is turn.0 (others w (or_left (is_task w w) (has w ts) (itself w))) off in
      let rest = all_elsewhere ts left (ended m w) (from_on u c a m (ended m w) from first) first.sound
      (subst (EndInTurn (ts ++ left)) (sym (ended_tree w m is turn.0)) turn.1)
      (λ v one. others v (or_right (is_task w v) (has v ts) one)) (ended_absent m w turn.0 off) in
      record { elsewhere = elsewhere_then u c a m (ended m w) (fold ended m (w ∷ ts)) first rest.elsewhere; turn = rest.turn; absent = rest.absent }

-- ---- steps of the task itself

-- what it has for itself changes alike
pub changed_whole : (u : TaskNo) (f : Own → Own) → ((o : Own) → (f o).packets ≡ o.packets) → (s : System)
    → own_of u (changed u f s) ≡ option_map (λ (w : Whole). record w { own = f w.own }) (own_of u s)
changed_whole u f same s =
    ap (λ (n : List ℕ). option_map (whole n (changed u f s).shared.library) (own u (changed u f s))) (ap (tree.name u) (tree_changed u f s))
    ∙ (ap (λ (l : Library). option_map (whole (tree.name u s.shared.tree) l) (own u (changed u f s))) (library_changed u f s)
    ∙ (ap (option_map (whole (tree.name u s.shared.tree) s.shared.library)) (own_changed u f s)
    ∙ by (tree.name u s.shared.tree) s.shared.library (own u s)))
  where
    by : (n : List ℕ) (l : Library) (p : Option Own)
        → option_map (whole n l) (option_map f p) ≡ option_map (λ (w : Whole). record w { own = f w.own }) (option_map (whole n l) p)
    by n l None = refl
    by n l (Some o) =
        ap (λ (ps : List ℕ). let w : Whole = record { name = n; own = f o; env = env_of l ps } in Some w) (same o)

-- a packet is installed, and is its own
abbrev with_installed : Compiled → Interface → ℕ → Whole → Whole
with_installed unit i last w = record { name = w.name; own = with_packet (last + 1) w.own; env = after unit.packets i unit.core (last + 1) }

inserted_whole : (u : TaskNo) (unit : Compiled) (i : Interface) (s : System) → IsSystem s
    → own_of u (inserted u unit i s) ≡ option_map (with_installed unit i s.shared.library.last) (own_of u s)
inserted_whole u unit i s is =
    ap (λ (n : List ℕ). option_map (whole n (inserted u unit i s).shared.library) (own u (inserted u unit i s)))
    (ap (tree.name u) (tree_changed u (with_packet (s.shared.library.last + 1)) later))
    ∙ (ap (λ (l : Library). option_map (whole (tree.name u s.shared.tree) l) (own u (inserted u unit i s)))
    (library_changed u (with_packet (s.shared.library.last + 1)) later)
    ∙ (ap (option_map (whole (tree.name u s.shared.tree) (installed unit i s.shared.library)))
    (own_changed u (with_packet (s.shared.library.last + 1)) later)
    ∙ by (tree.name u s.shared.tree) (own u s)))
  where
    later : System
    later = sharing (λ h. record h { library = installed unit i h.library }) s

    by : (n : List ℕ) (p : Option Own)
        → option_map (whole n (installed unit i s.shared.library)) (option_map (with_packet (s.shared.library.last + 1)) p)
        ≡ option_map (with_installed unit i s.shared.library.last) (option_map (whole n s.shared.library) p)
    by n None = refl
    by n (Some o) =
        ap (λ (env : Env). let w : Whole = record { name = n; own = with_packet (s.shared.library.last + 1) o; env = env } in Some w)
        (env_with unit i s.shared.library is.numbered o.packets)

module _ (u : TaskNo) (c : Option ℕ) (a b : ℕ) where
  at_changed : (f g : Own → Own) (s r : System) → AtChannel c u s.shared.channels r.shared.channels
      → AtChannel c u (changed u f s).shared.channels (changed u g r).shared.channels
  at_changed f g s r at =
      subst (λ (cs : List Channel). AtChannel c u cs (changed u g r).shared.channels) (sym (channels_changed u f s))
      (subst (λ (ds : List Channel). AtChannel c u s.shared.channels ds) (sym (channels_changed u g r)) at)

  pub both_change : (f : Own → Own) → ((o : Own) → (f o).packets ≡ o.packets) → (m n : Moment) → Alike u c a b m n
      → Alike u c a b (on_system (changed u f) m) (on_system (changed u f) n)
  both_change f same m n h = record {
    first = sound m.system h.first;
    second = sound n.system h.second;
    own =
        changed_whole u f same m.system
        ∙ (ap (option_map (λ (w : Whole). record w { own = f w.own })) h.own ∙ sym (changed_whole u f same n.system));
    at = at_changed f f m.system n.system h.at;
    screen = h.screen;
  }
    where
      sound : (s : System) → IsSystem s → IsSystem (changed u f s)
      sound s is = (quiet_changed u f s (λ o given. subst (AreGiven s.shared.library.last) (sym (same o)) given) is).sound

  pub both_insert : (unit : Compiled) (i : Interface) (m n : Moment) → m.system.shared.library.last ≡ n.system.shared.library.last → Alike u c a b m n
      → Alike u c a b (on_system (inserted u unit i) m) (on_system (inserted u unit i) n)
  both_insert unit i m n last h = record {
    first = (quiet_inserted u unit i m.system h.first).sound;
    second = (quiet_inserted u unit i n.system h.second).sound;
    own =
        inserted_whole u unit i m.system h.first
        ∙ (ap (option_map (with_installed unit i m.system.shared.library.last)) h.own
        ∙ (ap (λ (k : ℕ). option_map (with_installed unit i k) (own_of u n.system)) last ∙ sym (inserted_whole u unit i n.system h.second)));
    at =
        at_changed (with_packet (m.system.shared.library.last + 1)) (with_packet (n.system.shared.library.last + 1))
        (with_unit m.system) (with_unit n.system) h.at;
    screen = h.screen;
  }
    where
      with_unit : System → System
      with_unit s = sharing (λ h. record h { library = installed unit i h.library }) s

  -- a step at the channel of the task
  at_its : (f : ℕ → Moment → Moment)
      → ((j : ℕ) (m n : Moment) → Coupled j u m.system.shared.channels n.system.shared.channels → Alike u (Some j) a b m n → Alike u (Some j) a b (f j m) (f j n))
      → (j : ℕ) (m n : Moment) → channel_of u m.system.shared.channels ≡ Some j → Alike u c a b m n → Alike u c a b (f j m) (f j n)
  at_its f on j m n e h =
      let that = at_that u c j m.system.shared.channels n.system.shared.channels h.at e in
      subst (λ (o : Option ℕ). Alike u o a b (f j m) (f j n)) (sym that.is)
      (on j m n that.coupled (subst (λ (o : Option ℕ). Alike u o a b m n) that.is h))

  pub both_say : (bytes : List ℕ) (j : ℕ) (m n : Moment) → channel_of u m.system.shared.channels ≡ Some j → Alike u c a b m n
      → Alike u c a b (say j bytes m) (say j bytes n)
  both_say bytes =
      at_its (λ j m. say j bytes m)
      (λ j m n coupled h. record {
        first = h.first;
        second = h.second;
        own = h.own;
        at = h.at;
        screen = (h.screen.0, says j a b m.display n.display h.screen.1 bytes);
      })

  pub both_write : (bytes : List ℕ) (ends : Bool) (j : ℕ) (m n : Moment) → channel_of u m.system.shared.channels ≡ Some j → Alike u c a b m n
      → Alike u c a b (write j bytes ends m) (write j bytes ends n)
  both_write bytes ends =
      at_its (λ j m. write j bytes ends m)
      (λ j m n coupled h. record {
        first = h.first;
        second = h.second;
        own = h.own;
        at = h.at;
        screen = (h.screen.0, writes j a b m.display n.display h.screen.1 bytes ends);
      })

  pub both_take : (j : ℕ) (m n : Moment) → channel_of u m.system.shared.channels ≡ Some j → Alike u c a b m n
      → Alike u c a b (on_system (on_channels (unqueued j)) m) (on_system (on_channels (unqueued j)) n)
  both_take =
      at_its (λ j m. on_system (on_channels (unqueued j)) m)
      (λ j m n coupled h. record {
        first = (quiet_channels u (unqueued j) m.system (unqueued_stays j m.system.shared.channels h.first.channels) h.first).sound;
        second = (quiet_channels u (unqueued j) n.system (unqueued_stays j n.system.shared.channels h.second.channels) h.second).sound;
        own = h.own;
        at = inl (record {
          left = unqueued_at u j m.system.shared.channels ∙ coupled.left;
          right = unqueued_at u j n.system.shared.channels ∙ coupled.right;
          queue =
              unqueued_queue j m.system.shared.channels (is_at_channel j u m.system.shared.channels coupled.left).within
              ∙ (ap (λ (queue : List (List ℕ)). drop 1 queue) coupled.queue
              ∙ sym (unqueued_queue j n.system.shared.channels (is_at_channel j u n.system.shared.channels coupled.right).within));
        });
        screen = h.screen;
      })

  pub both_uncouple : (j : ℕ) (m n : Moment) → channel_of u m.system.shared.channels ≡ Some j → Alike u c a b m n
      → Alike u c a b (uncouple j m) (uncouple j n)
  both_uncouple =
      at_its (λ j m. uncouple j m)
      (λ j m n coupled h. record {
        first = (quiet_channels u (uncoupled j) m.system (free_stays j m.system.shared.channels h.first.channels) h.first).sound;
        second = (quiet_channels u (uncoupled j) n.system (free_stays j n.system.shared.channels h.second.channels) h.second).sound;
        own = h.own;
        at = inr (record {
          left = uncoupled_none j u m.system.shared.channels h.first.channels coupled.left;
          right = uncoupled_none j u n.system.shared.channels h.second.channels coupled.right;
          first = uncoupled_free j m.system.shared.channels (is_at_channel j u m.system.shared.channels coupled.left).within;
          second = uncoupled_free j n.system.shared.channels (is_at_channel j u n.system.shared.channels coupled.right).within;
        });
        screen = (h.screen.0, says j a b m.display n.display h.screen.1 supervisor_prompt);
      })

  -- where it is coupled
  pub both_uncouple_at : (m n : Moment) → Alike u c a b m n
      → Alike u c a b (uncouple_at (channel_of u m.system.shared.channels) m) (uncouple_at (channel_of u n.system.shared.channels) n)
  both_uncouple_at m n h =
      subst (λ (o : Option ℕ). Alike u c a b (uncouple_at (channel_of u m.system.shared.channels) m) (uncouple_at o n))
      (same_channel u c m.system.shared.channels n.system.shared.channels h.at) (by (channel_of u m.system.shared.channels) refl)
    where
      by : (o : Option ℕ) → channel_of u m.system.shared.channels ≡ o → Alike u c a b (uncouple_at o m) (uncouple_at o n)
      by None e = h
      by (Some j) e = both_uncouple j m n e h

  -- it is gone, and those that waited for it are told so
  gone_own : (s : System) → IsSystem s → CanEnd u s.shared.tree → own_of u (freed_by u (removed u s)) ≡ None
  gone_own s is can =
      freed_own u u (removed u s) (removed_sound u s is can)
      (subst (λ (v : Waits). Absent u v) (sym (removed_waits u s can.live)) (left_itself u s.shared.waits))
      ∙ removed_itself u s can.live

  gone_channels : (s : System) → CanEnd u s.shared.tree → (freed_by u (removed u s)).shared.channels ≡ s.shared.channels
  gone_channels s can = freed_channels u (removed u s) ∙ removed_channels u s can.live

  both_go : (m n : Moment) → CanEnd u m.system.shared.tree → CanEnd u n.system.shared.tree → Alike u c a b m n
      → Alike u c a b (on_system (freed_by u) (on_system (removed u) m)) (on_system (freed_by u) (on_system (removed u) n))
  both_go m n can may h = record {
    first = freed_sound u (removed u m.system) (removed_sound u m.system h.first can);
    second = freed_sound u (removed u n.system) (removed_sound u n.system h.second may);
    own = gone_own m.system h.first can ∙ sym (gone_own n.system h.second may);
    at =
        subst (λ (cs : List Channel). AtChannel c u cs (freed_by u (removed u n.system)).shared.channels) (sym (gone_channels m.system can))
        (subst (λ (ds : List Channel). AtChannel c u m.system.shared.channels ds) (sym (gone_channels n.system may)) h.at);
    screen = h.screen;
  }

  pub both_end : (m n : Moment) → CanEnd u m.system.shared.tree → CanEnd u n.system.shared.tree → Alike u c a b m n → Alike u c a b (ended m u) (ended n u)
  both_end m n can may h =
      both_go (uncouple_at (channel_of u m.system.shared.channels) m) (uncouple_at (channel_of u n.system.shared.channels) n)
      (still m (channel_of u m.system.shared.channels) can) (still n (channel_of u n.system.shared.channels) may) (both_uncouple_at m n h)
    where
      still : (m : Moment) (o : Option ℕ) → CanEnd u m.system.shared.tree → CanEnd u (uncouple_at o m).system.shared.tree
      still m None can = can
      still m (Some j) can = can
