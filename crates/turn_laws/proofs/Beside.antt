-- A turn leaves what is the others' own, unless it reaches them, and those that wait do so rightly.
use Rattle.std.proofs.Common.{◌≡◌, ℕ, ◌+◌, ◌≤◌, ◌<◌, Bool, true, false, List, [], ◌∷◌, Option, Some, None, refl, sym, ap, ◌∙◌, subst, ◌⊎◌, inl, inr, ⊎_elim, arith}
use Rattle.std.specs.Prelude.{option_map, option_and_then}
use Rattle.std.specs.List.{AllByRecursion, list_any}
use Rattle.std.proofs.lemmas.Bool.{false≢true, cases_lt, or_left, or_right}
use Rattle.std.proofs.lemmas.Option.{none-some, same_Some}
use Rattle.std.proofs.lemmas.Slice.Eq.{bytes_eq-Decides}
use Rattle.turn_laws.specs.Below.task_numbers.specs.declared.number.TaskNo.{TaskNo}
use Rattle.turn_laws.specs.Below.task_numbers.specs.Numbers.{is_task}
use Rattle.eu_base.specs.declared.request.Request.{Request}
use Rattle.eu_base.specs.declared.request.Request.TheVariants as requests
use Rattle.eu_base.specs.DataSpaces.{heads_of}
use Rattle.eu_base.specs.SpaceOperations.{room_refusal}
use Rattle.eu_base.specs.Requests.{Answer, then_asked}
use Rattle.turn_laws.specs.Below.elan_names.specs.declared.interface.Interface.{Interface}
use Rattle.turn_laws.specs.Below.elan_scope.specs.declared.env.Env.{Env}
use Rattle.elan_types.specs.Eval.{World}
use Rattle.elan_types.specs.Command.{OutOfMarks, Asks}
use Rattle.turn_laws.specs.Below.message_wait.specs.declared.waits.Caller.{Caller}
use Rattle.turn_laws.specs.Below.message_wait.specs.declared.waits.Receiver.{Receiver}
use Rattle.turn_laws.specs.Below.message_wait.specs.Rendezvous.{is_waiting}
use Rattle.turn_laws.specs.Below.task_tree.specs.declared.task.Task.{Task}
use Rattle.turn_laws.specs.Below.task_tree.specs.Tree as tree
use Rattle.turn_laws.specs.Below.task_tree.specs.Tree.{Tree, with_number}
use Rattle.turn_laws.specs.Below.task_tree.specs.Trees.{IsTree}
use Rattle.turn_laws.specs.Below.terminals.specs.Channels as channels
use Rattle.turn_laws.specs.Below.session_text.specs.Display.{close_all}
use Rattle.turn_laws.specs.Below.units.specs.declared.unit.Compiled.{Compiled}
use Rattle.system_meaning.specs.Tasks.{Command, Doing, Idle, Entering, Running, Own, starting, ending, spent, request_in, request_of, command_of, with_doing, replied}
use Rattle.system_meaning.specs.Systems.{Shared, System, Moment, own, doing, requested, kept, command, does, given, sharing, back, on_ready, on_channels, on_system, on_display, say}
use Rattle.system_meaning.specs.Serving.{Served, Replies, Rests, named_or, serve, number}
use Rattle.system_meaning.specs.Monitor.{Reading, installed, with_packet, inserted}
use Rattle.system_meaning.specs.Turns.{slice, turn, turn_of, turn_marks, most_evaluations}
use Rattle.system_meaning.specs.Whole.{IsSystem, IsReceiver, WaitsFor, AreWaits}
use Rattle.turn_laws.specs.Own.{own_of}
use Rattle.turn_laws.specs.Others as others
use Rattle.turn_laws.specs.Others.{Reaches, Beside, OthersStay}
use Rattle.turn_laws.specs.Told.{asked, asked_first, turn_asked}
use Rattle.turn_laws.specs.Steady.{AreSteady}
use Rattle.turn_laws.specs.Waits.{AsksNoAnswer, IsFree, AreOrderly, AsksAnswer, HasTurn}
use Rattle.turn_laws.proofs.Finding.{living, none_finds, some_lives}
pub use Rattle.turn_laws.proofs.Trees.{IsAsked}
use Rattle.turn_laws.proofs.Trees.{IsEnded, IsBegun, grown_same, in_family, numbered}
use Rattle.turn_laws.proofs.Steps.{CanWait, waits_behind, can_wait, something_of, quiet_ready, quiet_does, quiet_given, quiet_channels, quiet_installed, quiet_inserted, own_changed, once}
use Rattle.turn_laws.proofs.Lists.{all_map, all_none}
use Rattle.turn_laws.proofs.Rights.{CallsSo, Right, right_in, absent, not_waiting, waits_of, rooms_of, lives_asking, nothing_done}
use Rattle.turn_laws.proofs.Orders.{Order, order_in, order_same, order_changed, shared_changed, live_changed, free_on, free_given, spaces_asking, asks_spent, asks_more}
use Rattle.turn_laws.proofs.Since.{AreKnown, IsKnown, Lasts, stays, gone, reached, Since, Over, over, since_quiet, since_back, same_doing, same_request, nothing_own}
use Rattle.turn_laws.proofs.Gone.{Serving}
use Rattle.turn_laws.proofs.Others.{back_same, unqueued_stays}
use Rattle.turn_laws.proofs.Requests.{Follows, AfterServed, serve_after}
use Rattle.turn_laws.proofs.Walking.{Keeps, BothServed, slices}

-- ---- what one task does

-- it may do this: a command of it asks for no answer
abbrev pub May : Doing → Type 0
May d = (c : Command) → command_of d ≡ Some c → AsksNoAnswer c

pub free_does : (u : TaskNo) (d : Doing) (s : System) → May d → IsFree u (does u d s)
free_does u d s may = λ c at.
    by c (own u s) (sym (ap (λ (p : Option Own). option_and_then command_of (option_map (λ (o : Own). o.doing) p)) (own_changed u (with_doing d) s)) ∙ at)
  where
    by : (c : Command) (p : Option Own) → option_and_then command_of (option_map (λ (o : Own). o.doing) (option_map (with_doing d) p)) ≡ Some c → AsksNoAnswer c
    by c None e = absurd (none-some c e)
    by c (Some o) e = may c e

free_inserted : (u : TaskNo) (unit : Compiled) (i : Interface) (s : System) → IsFree u s → IsFree u (inserted u unit i s)
free_inserted u unit i s free = λ c at. free c (sym (ap (option_and_then command_of) same) ∙ at)
  where
    later : System
    later = sharing (λ h. record h { library = installed unit i h.library }) s

    by : (n : ℕ) (p : Option Own) → option_map (λ (o : Own). o.doing) (option_map (with_packet n) p) ≡ option_map (λ (o : Own). o.doing) p
    by n None = refl
    by n (Some o) = refl

    same : doing u (inserted u unit i s) ≡ doing u s
    same = ap (option_map (λ (o : Own). o.doing)) (own_changed u (with_packet (s.shared.library.last + 1)) later) ∙ by (s.shared.library.last + 1) (own u s)

running_of : (d : Doing) (c : Command) → command_of d ≡ Some c → d ≡ Running c
running_of (Idle store) c e = absurd (none-some c e)
running_of (Entering name lines store) c e = absurd (none-some c e)
running_of (Running x) c e = ap Running (same_Some x c e)

-- one that has a command runs it
pub runs_it : (u : TaskNo) (s : System) (c : Command) → command u s ≡ Some c → doing u s ≡ Some (Running c)
runs_it u s c at = by (doing u s) at
  where
    by : (p : Option Doing) → option_and_then command_of p ≡ Some c → p ≡ Some (Running c)
    by None e = absurd (none-some c e)
    by (Some d) e = ap (λ (x : Doing). Some x) (running_of d c e)

pub lives_running : (u : TaskNo) (s : System) (c : Command) → command u s ≡ Some c → tree.lives u s.shared.tree ≡ true
lives_running u s c at = by (tree.lives u s.shared.tree) refl
  where
    by : (b : Bool) → tree.lives u s.shared.tree ≡ b → b ≡ true
    by true live = refl
    by false dead = absurd (none-some c (sym (ap (option_and_then command_of) (nothing_done u s dead)) ∙ at))

pub does_so : (u : TaskNo) (d other : Doing) (s : System) → doing u s ≡ Some other → doing u (does u d s) ≡ Some d
does_so u d other s is = ap (option_map (λ (o : Own). o.doing)) (own_changed u (with_doing d) s) ∙ by (own u s) is
  where
    by : (p : Option Own) → option_map (λ (o : Own). o.doing) p ≡ Some other → option_map (λ (o : Own). o.doing) (option_map (with_doing d) p) ≡ Some d
    by None e = absurd (none-some other e)
    by (Some o) e = refl

-- ---- a moment of a turn, beside itself

-- each of these requests is among those that were asked
pub each_in : (asked qs : List Request) → ((p : Request → Bool) → list_any p qs ≡ true → list_any p asked ≡ true) → AllByRecursion (IsAsked asked) qs
each_in asked [] all = tt
each_in asked (q ∷ qs) all = (
  λ p e. all p (or_left (p q) (list_any p qs) e),
  each_in asked qs (λ p e. all p (or_right (p q) (list_any p qs) e)),
)

pub record Alone (u : TaskNo) (asked : List Request) (first : System) (m n : Moment) : Type 0 where
  pub same : m ≡ n
  pub since : Since u asked first m.system
  pub free : IsFree u m.system

pub record Turning (u : TaskNo) (asked : List Request) (first s : System) : Type 0 where
  pub since : Since u asked first s
  pub out : list_any (λ t. is_task t u) s.shared.ready ≡ false
  pub itself : (c : Command) → command u s ≡ Some c → AsksNoAnswer c ⊎ AsksAnswer u c s

pub record Evaluates (u : TaskNo) (asked : List Request) (first : System) (m n : Moment) : Type 0 where
  pub same : m ≡ n
  pub turning : Turning u asked first m.system

pub record Ends (u : TaskNo) (asked : List Request) (first : System) (m n : Moment) : Type 0 where
  pub same : m ≡ n
  pub over : Over u asked first m.system

module _ (steady : AreSteady) (u : TaskNo) (asked : List Request) (first : System) (is_first : IsTree first.shared.tree)
    (low : u.0 ≤ first.shared.tree.last) where
  -- it does what it may
  pub since_does : (d : Doing) → May d → (s : System) → Since u asked first s → Since u asked first (does u d s)
  since_does d may s h =
      since_quiet u asked first is_first s (does u d s) h (quiet_does u d s h.sound)
      (order_changed u u (with_doing d) s h.sound h.order.apart (inr (free_does u d s may)) h.order)
      (ap (λ (x : Shared). x.waits) (shared_changed u (with_doing d) s))

  since_inserted : (unit : Compiled) (i : Interface) (s : System) → Since u asked first s → IsFree u s → Since u asked first (inserted u unit i s)
  since_inserted unit i s h free =
      since_quiet u asked first is_first s (inserted u unit i s) h (quiet_inserted u unit i s h.sound)
      (order_changed u u (with_packet (s.shared.library.last + 1)) later (quiet_installed u unit i s h.sound).sound h.order.apart
      (inr (free_inserted u unit i s free)) (order_same u s.shared.waits s.shared.ready s later (λ t. refl) (λ t live. live) h.order))
      (ap (λ (x : Shared). x.waits) (shared_changed u (with_packet (s.shared.library.last + 1)) later))
    where
      later : System
      later = sharing (λ h. record h { library = installed unit i h.library }) s

  step : (f : Moment → Moment) → ((m : Moment) → Since u asked first m.system → IsFree u m.system → Since u asked first (f m).system)
      → ((m : Moment) → Since u asked first m.system → IsFree u m.system → IsFree u (f m).system)
      → (m n : Moment) → Alone u asked first m n → Alone u asked first (f m) (f n)
  step f on free m n h = record { same = ap f h.same; since = on m h.since h.free; free = free m h.since h.free }

  -- ---- an evaluation

  module _ (c : Command) (left : ℕ) (q : Request) (w : World) (m : Moment) (at : command u m.system ≡ Some c) (e : ending c left ≡ Asks q w)
      (h : Turning u asked first m.system) where
    abbrev now : Moment
    now = on_system (does u (Running (spent left w c))) m

    same_shared : (does u (Running (spent left w c)) m.system).shared ≡ m.system.shared
    same_shared = shared_changed u (with_doing (Running (spent left w c))) m.system

    runs_so : doing u (does u (Running (spent left w c)) m.system) ≡ Some (Running (spent left w c))
    runs_so = does_so u (Running (spent left w c)) (Running c) m.system (runs_it u m.system c at)

    asks_so : ending (spent left w c) 0 ≡ Asks q (record w { marks = 0 })
    asks_so = asks_spent steady c left q w e

    asks_now : requested u (does u (Running (spent left w c)) m.system) ≡ Some q
    asks_now = ap (option_and_then request_of) runs_so ∙ ap request_in asks_so

    since_now : Since u asked first (does u (Running (spent left w c)) m.system)
    since_now =
        since_quiet u asked first is_first m.system (does u (Running (spent left w c)) m.system) h.since
        (quiet_does u (Running (spent left w c)) m.system h.since.sound)
        (order_changed u u (with_doing (Running (spent left w c))) m.system h.since.sound h.since.order.apart (inl h.out) h.since.order)
        (ap (λ (x : Shared). x.waits) same_shared)

    serving_now : Serving u asked first now.system now.system
    serving_now = record {
      since = since_now;
      grown = grown_same u (does u (Running (spent left w c)) m.system).shared.tree since_now.sound.tree;
      mine = inl refl;
      out = subst (λ (x : Shared). list_any (λ t. is_task t u) x.ready ≡ false) (sym same_shared) h.out;
    }

    -- where it asks for an answer, that task lives, and there is room
    fits : (of : ℕ) → q ≡ requests.Answer of
        → (tree.lives (number of) now.system.shared.tree ≡ true) × (room_refusal (heads_of (kept u now.system).spaces) ≡ None)
    fits of is = by (h.itself c at)
      where
        by : AsksNoAnswer c ⊎ AsksAnswer u c m.system
            → (tree.lives (number of) now.system.shared.tree ≡ true) × (room_refusal (heads_of (kept u now.system).spaces) ≡ None)
        by (inl free) = absurd (free (c.marks + left) of w (e ∙ ap (λ (x : Request). Asks x w) is))
        by (inr a) =
            let more : Asks q w ≡ Asks (requests.Answer a.of) (record a.world { marks = a.world.marks + left }) =
            sym e ∙ asks_more steady c left (requests.Answer a.of) a.world a.asks in
            let same : a.of ≡ of = cc (more, is) in
            let world : w ≡ record a.world { marks = a.world.marks + left } = cc more in (
              live_changed u (with_doing (Running (spent left w c))) m.system (number of)
                  (subst (λ k. tree.lives (number k) m.system.shared.tree ≡ true) same a.alive),
              ap (λ spaces. room_refusal (heads_of spaces))
                  (spaces_asking u now.system (spent left w c) q (record w { marks = 0 }) runs_so asks_so
                  ∙ (ap (λ (x : World). x.spaces) world
                  ∙ sym (spaces_asking u m.system c (requests.Answer a.of) a.world (runs_it u m.system c at) a.asks)))
                  ∙ a.room,
            )

    after : IsAsked asked q → AfterServed u asked first q now.system (serve u q now)
    after sent =
        serve_after steady u asked first is_first low now serving_now q asks_now (lives_asking u now.system q asks_now) sent fits

    -- with the answer it goes on
    pub goes_on : (a : Answer) (n : Moment) → Serving u asked first now.system n.system → Follows u q a n.system → Turning u asked first (given u a n.system)
    goes_on a n serves follows = record {
      since =
          since_quiet u asked first is_first n.system (given u a n.system) serves.since (quiet_given u a n.system serves.since.sound)
          (order_changed u u (λ (o : Own). with_doing (replied a o.doing) o) n.system serves.since.sound serves.since.order.apart (inl serves.out) serves.since.order)
          (ap (λ (x : Shared). x.waits) (shared_changed u (λ (o : Own). with_doing (replied a o.doing) o) n.system));
      out =
          subst (λ (x : Shared). list_any (λ t. is_task t u) x.ready ≡ false)
          (sym (shared_changed u (λ (o : Own). with_doing (replied a o.doing) o) n.system)) serves.out;
      itself = λ x is. by (then_asked q a.reply) refl x is;
    }
      where
        gone_not : (x : Command) → command u (given u a n.system) ≡ Some x → own u n.system ≡ None → ⊥
        gone_not x is none =
            none-some x
            (sym (ap (λ (p : Option Own). option_and_then command_of (option_map (λ (o : Own). o.doing) p))
            (own_changed u (λ (o : Own). with_doing (replied a o.doing) o) n.system
            ∙ ap (option_map (λ (o : Own). with_doing (replied a o.doing) o)) none)) ∙ is)

        still : (x : Command) → command u (given u a n.system) ≡ Some x → (own_of u n.system ≡ own_of u now.system) ⊎ (own_of u n.system ≡ None)
            → requested u n.system ≡ Some q
        still x is (inl same) = same_request u now.system n.system same ∙ asks_now
        still x is (inr none) = absurd (gone_not x is (nothing_own u n.system none))

        by : (o : Option Request) → then_asked q a.reply ≡ o → (x : Command) → command u (given u a n.system) ≡ Some x
            → AsksNoAnswer x ⊎ AsksAnswer u x (given u a n.system)
        by None none x is = inl (free_given steady u a n.system q (still x is serves.mine) none x is)
        by (Some r) some x is = inr (follows r some x is)

    both : (a : Served) → AfterServed u asked first q now.system a → BothServed u (Evaluates u asked first) (Ends u asked first) a a
    both (Replies a n) h' = λ same. record { same = refl; turning = goes_on a n h'.0 h'.1 }
    both (Rests n) h' = record { same = refl; over = h' }

    pub evaluated : IsAsked asked q → (n : Moment) → m ≡ n
        → BothServed u (Evaluates u asked first) (Ends u asked first) (serve u q now) (serve u q (on_system (does u (Running (spent left w c))) n))
    evaluated sent n same =
        subst
        (λ (k : Moment). BothServed u (Evaluates u asked first) (Ends u asked first) (serve u q now) (serve u q (on_system (does u (Running (spent left w c))) k)))
        same (both (serve u q now) (after sent))

    pub now_sound : IsSystem now.system × AreWaits now.system
    now_sound = (since_now.sound, waits_of now.system since_now.order.right since_now.order.calm)

    pub served_so : IsAsked asked q → AfterServed u asked first q now.system (serve u q now)
    served_so sent = after sent

  -- out of marks, it may go on
  may_spend : (c : Command) (left : ℕ) (w : World) (s : System) → Turning u asked first s → command u s ≡ Some c → ending c left ≡ OutOfMarks w
      → May (Running (spent left w c))
  may_spend c left w s h at e = by (h.itself c at)
    where
      by : AsksNoAnswer c ⊎ AsksAnswer u c s → May (Running (spent left w c))
      by (inl free) = λ x is. subst AsksNoAnswer (same_Some (spent left w c) x is) free
      by (inr a) =
          let f : OutOfMarks w ≡ Asks (requests.Answer a.of) (record a.world { marks = a.world.marks + left }) =
          sym e ∙ asks_more steady c left (requests.Answer a.of) a.world a.asks in
          absurd (cc f)

  pub keeps : Keeps u (Alone u asked first) (Evaluates u asked first) (Ends u asked first) (IsAsked asked) May
  keeps = record {
    own = λ m n h. ap (λ (k : Moment). own_of u k.system) h.same;
    channel = λ m n h. ap (λ (k : Moment). channels.channel_of u k.system.shared.channels) h.same;
    queue = λ c m n h at. ap (λ (k : Moment). (channels.channel c k.system.shared.channels).queue) h.same;
    backs = λ m n h.
        step (on_system (back u)) (λ k since free. since_back u asked first is_first u k.system since since.order.apart free)
        (λ k since free. free_on u k.system (back u k.system) (same_doing u k.system (back u k.system) (back_same u u k.system)) free) m n h;
    changes = λ d may m n h.
        step (on_system (does u d)) (λ k since free. since_does d may k.system since) (λ k since free. free_does u d k.system may) m n h;
    says = λ c bytes m n at h. step (say c bytes) (λ k since free. since) (λ k since free. free) m n h;
    takes = λ c m n at h.
        step (on_system (on_channels (channels.unqueued c)))
        (λ k since free.
        since_quiet u asked first is_first k.system (on_channels (channels.unqueued c) k.system) since
        (quiet_channels u (channels.unqueued c) k.system (unqueued_stays c k.system.shared.channels since.sound.channels) since.sound)
        (order_same u k.system.shared.waits k.system.shared.ready k.system (on_channels (channels.unqueued c) k.system) (λ t. refl) (λ t live. live) since.order)
        refl)
        (λ k since free. free) m n h;
    inserts = λ unit i m n last h.
        step (on_system (inserted u unit i)) (λ k since free. since_inserted unit i k.system since free)
        (λ k since free. free_inserted u unit i k.system free) m n h;
    idle = λ store c e. absurd (none-some c e);
    enters = λ name lines store c e. absurd (none-some c e);
    starts = λ unit store c e.
        subst AsksNoAnswer (same_Some (starting unit store) c e) (λ n of w is. (steady unit.core store.variables store.spaces).first n of w is);
    here = λ m n h. ap (λ (k : Moment). own_of u k.system) h.same;
    marks = λ c left w m n h at e. may_spend c left w m.system h.turning at e;
    leaves = λ d may m n h. record {
      same = ap (on_system (does u d)) h.same;
      since = since_does d may m.system h.turning.since;
      free = free_does u d m.system may;
    };
    serves = λ c left q w m n sent at e h. evaluated c left q w m at e h.turning sent n h.same;
    stops = λ m n h. record { same = h.same; over = over u asked first m.system h.turning.since };
    ends = λ m n h. record { same = h.same; over = over u asked first m.system h.since };
  }

-- ---- behind the turn

beside : (u t : TaskNo) (asked : List Request) (first s : System) → IsSystem first → tree.lives u first.shared.tree ≡ true → is_task t u ≡ false
    → Over u asked first s → Beside u t asked first s
beside u t asked first s is live other h = record {
  kept = λ before still.
      let found = living t first.shared.tree.tasks before in
      as_kept still (h.others t other (numbered first.shared.tree t found.0 is.tree found.1).given);
  ended = λ before dead.
      let found = living t first.shared.tree.tasks before in
      as_ended (h.tree.gone t found.0 found.1 (none_finds t s.shared.tree.tasks dead));
  begun = λ before still.
      let found = living t s.shared.tree.tasks still in
      let late : first.shared.tree.last < t.0 = ⊎_elim
      (λ later. later)
      (λ early. absurd (false≢true (sym before ∙ some_lives t first.shared.tree.tasks found.0 (h.tree.old t found.0 early found.1))))
      (cases_lt first.shared.tree.last t.0) in
      let new = h.tree.new t found.0 found.1 late in
      (late, ap tree.father_of found.1 ∙ new.0, as_begun found.0 found.1 new.1);
}
  where
    as_ended : IsEnded u asked first.shared.tree t
        → (others.is_of_family t u first.shared.tree ≡ true) × (list_any (others.ends u t first.shared.tree) asked ≡ true)
    as_ended e = (
      in_family first.shared.tree u t is.tree live e.own,
      e.asks (others.ends u t first.shared.tree) (in_family first.shared.tree (named_or e.named u) t is.tree e.live e.under),
    )

    as_begun : (x : Task) → with_number t s.shared.tree ≡ Some x → IsBegun asked x.name
        → list_any (others.begins (tree.name t s.shared.tree)) asked ≡ true
    as_begun x at b =
        subst (λ (name : List ℕ). list_any (others.begins name) asked ≡ true) (sym (ap tree.name_of at))
        (b.asks (others.begins x.name) ((bytes_eq-Decides x.name x.name).1 refl))

    as_kept : tree.lives t s.shared.tree ≡ true → Lasts u t asked first s → (own_of t s ≡ own_of t first) ⊎ Reaches u t asked first s
    as_kept live' (stays e) = inl e
    as_kept live' (gone none) = absurd (something_of t s h.sound live' none)
    as_kept live' (reached r) = inr r

-- those that are named live, and so their numbers were given
pub known_in : (s : System) → IsTree s.shared.tree → Right s.shared.waits s → AreKnown s.shared.tree.last s.shared.waits
known_in s is h = record {
  callers = all_map (CallsSo s) (λ (c : Caller). c.to.0 ≤ s.shared.tree.last) (λ c calls. given_number c.to calls.0.alive) s.shared.waits.callers h.callers;
  receivers =
      all_map (λ (r : Receiver). IsReceiver r s) (λ (r : Receiver). IsKnown s.shared.tree.last r.of) (λ r waits. by r.task r.of waits.waits)
      s.shared.waits.receivers h.receivers;
}
  where
    given_number : (v : TaskNo) → tree.lives v s.shared.tree ≡ true → v.0 ≤ s.shared.tree.last
    given_number v live = let found = living v s.shared.tree.tasks live in (numbered s.shared.tree v found.0 is found.1).given

    by : (t : TaskNo) (of : Option TaskNo) → WaitsFor t of s → IsKnown s.shared.tree.last of
    by t None h = tt
    by t (Some v) h = given_number v h.1

-- a task has its turn, and is not ready
pub begins : (u : TaskNo) (asked : List Request) (ready : List TaskNo) (s : System) → IsSystem s → AreOrderly s → s.shared.ready ≡ u ∷ ready
    → Turning u asked s (on_ready (λ _. ready) s)
begins u asked ready s is order e = record {
  since = record {
    sound = (quiet_ready u (λ _. ready) s (waits_behind s.shared.tree u ready waits) is).sound;
    tree = grown_same u s.shared.tree is.tree;
    others = λ t other low. stays refl;
    order = order_same u s.shared.waits ready s (on_ready (λ _. ready) s) (λ t. refl) (λ t live. live) (record {
      right = whole.right;
      calm = calm.1;
      free = free.1;
      apart = absent u s.shared.waits calm.0;
    });
    known = known_in s is.tree whole.right;
  };
  out = all_none (λ t. is_task t u) ready (once (u ∷ ready) waits.rotation.apart).0;
  itself = λ c at. inl (free.0 c at);
}
  where
    waits : CanWait s.shared.tree (u ∷ ready)
    waits = subst (λ (ts : List TaskNo). CanWait s.shared.tree ts) e (can_wait s is)

    calm : AllByRecursion (λ t. is_waiting t s.shared.waits ≡ false) (u ∷ ready)
    calm = subst (λ (ts : List TaskNo). AllByRecursion (λ t. is_waiting t s.shared.waits ≡ false) ts) e order.waits.calm

    free : AllByRecursion (λ t. IsFree t s) (u ∷ ready)
    free = subst (λ (ts : List TaskNo). AllByRecursion (λ t. IsFree t s) ts) e order.free

    whole : Order u s
    whole = order_in u s order calm.0

-- a task that has its turn
pub turning_in : (u : TaskNo) (asked : List Request) (s : System) → IsSystem s → HasTurn u s → Turning u asked s s
turning_in u asked s is h = record {
  since = record {
    sound = is;
    tree = grown_same u s.shared.tree is.tree;
    others = λ t other low. stays refl;
    order = record {
      right = right_in s h.waits h.rooms;
      calm = h.waits.calm;
      free = h.free;
      apart = absent u s.shared.waits h.apart;
    };
    known = known_in s is.tree (right_in s h.waits h.rooms);
  };
  out = h.out;
  itself = h.itself;
}

-- and so it has it still between two evaluations
pub has_turn : (u : TaskNo) (asked : List Request) (first s : System) → Turning u asked first s → HasTurn u s
has_turn u asked first s h = record {
  waits = waits_of s h.since.order.right h.since.order.calm;
  rooms = rooms_of s h.since.order.right;
  free = h.since.order.free;
  apart = not_waiting u s.shared.waits h.since.order.apart;
  out = h.out;
  itself = h.itself;
}

module _ (steady : AreSteady) (read : Env → Bool → List ℕ → Reading) (m : Moment) (is : IsSystem m.system) (order : AreOrderly m.system) where
  slice_leaves : (u : TaskNo) (ready : List TaskNo) → m.system.shared.ready ≡ u ∷ ready → tree.lives u m.system.shared.tree ≡ true
      → Over u (asked_first (u ∷ ready) m) m.system (slice read most_evaluations u turn_marks (on_system (on_ready (λ _. ready)) m)).system
  slice_leaves u ready e live =
      (slices u (Alone u said m.system) (Evaluates u said m.system) (Ends u said m.system) (IsAsked said) May
      (keeps steady u said m.system is.tree (let found = living u m.system.shared.tree.tasks live in (numbered m.system.shared.tree u found.0 is.tree found.1).given))
      read most_evaluations turn_marks start start
      (record { same = refl; turning = begins u said ready m.system is order e }) refl (each_in said said (λ t e. e))).over
    where
      start : Moment
      start = on_system (on_ready (λ _. ready)) m

      said : List Request
      said = asked most_evaluations u turn_marks (on_system (on_ready (λ _. ready)) m)

  -- what a turn leaves of the other tasks
  pub turn_leaves : OthersStay m.system.shared.ready (turn_asked m) m.system (turn read m).system
  turn_leaves = by m.system.shared.ready refl (can_wait m.system is)
    where
      by : (ready : List TaskNo) → m.system.shared.ready ≡ ready → CanWait m.system.shared.tree ready
          → OthersStay ready (asked_first ready m) m.system (on_display close_all (turn_of read ready m)).system
      by [] e waits = refl
      by (u ∷ ready) e waits = λ t other.
          let live = waits.live 0 u (omega arith) in
          beside u t (asked_first (u ∷ ready) m) m.system _ is live other (slice_leaves u ready e live)

  -- and the system is one still, and those that wait do so rightly
  pub turn_keeps : IsSystem (turn read m).system × AreOrderly (turn read m).system
  turn_keeps = by m.system.shared.ready refl (can_wait m.system is)
    where
      by : (ready : List TaskNo) → m.system.shared.ready ≡ ready → CanWait m.system.shared.tree ready
          → IsSystem (on_display close_all (turn_of read ready m)).system × AreOrderly (on_display close_all (turn_of read ready m)).system
      by [] e waits = (is, order)
      by (u ∷ ready) e waits =
          let h = slice_leaves u ready e (waits.live 0 u (omega arith)) in (h.sound, h.orderly)
