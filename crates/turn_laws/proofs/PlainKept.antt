-- Each event leaves the tree, the channels and the texts that are entered as they should be.
use Rattle.std.proofs.Common.{◌≡◌, ℕ, zero, suc, ◌+◌, ◌≤◌, ◌<◌, Bool, true, false, cond, List, [], ◌∷◌, ◌++◌, length, Option, Some, None, refl, sym, ◌∙◌, subst, if◌then◌else◌, arith}
use Rattle.std.specs.Prelude.{nat_le, option_map, negsuc}
use Rattle.std.specs.List.{AllByRecursion}
use Rattle.std.proofs.lemmas.Bool.{leb-false, ne_eqb}
use Rattle.std.proofs.lemmas.List.{length-append}
use Rattle.std.proofs.lemmas.Option.{none-some, same_Some}
use Rattle.turn_laws.specs.Below.task_numbers.specs.declared.limits.TheConstants.{LONGEST_LINE}
use Rattle.turn_laws.specs.Below.task_numbers.specs.declared.number.TaskNo.{TaskNo}
use Rattle.turn_laws.specs.Below.task_numbers.specs.Numbers.{is_nil, is_task}
use Rattle.eu_base.specs.declared.stop.Stop.{Stop}
use Rattle.eu_base.specs.declared.stop.Stop.TheVariants.{BadName}
use Rattle.eu_base.specs.Stops.{stop_text}
use Rattle.eu_base.specs.declared.request.Request.{Request}
use Rattle.eu_base.specs.declared.request.Request.TheVariants.{Out, Input, Begin, End, Myself, Father, Son, Brother, Named, Name, Exists, Break, Send, Wait, Call}
use Rattle.eu_base.specs.declared.request.Request.TheVariants as requests
use Rattle.eu_base.specs.declared.request.Reply.TheVariants as replies
use Rattle.eu_base.specs.DataSpaces.{Space, heads_of}
use Rattle.eu_base.specs.SpaceOperations.{room_refusal}
use Rattle.eu_base.specs.Requests.{plain}
use Rattle.turn_laws.specs.Below.elan_names.specs.declared.interface.Interface.{Interface}
use Rattle.turn_laws.specs.Below.elan_scope.specs.declared.env.Env.{Env}
use Rattle.turn_laws.specs.Below.message_wait.specs.declared.waits.Caller.{Caller}
use Rattle.turn_laws.specs.Below.message_wait.specs.declared.waits.Offer.{Offer}
use Rattle.turn_laws.specs.Below.message_wait.specs.declared.waits.Offer.TheVariants as offers
use Rattle.turn_laws.specs.Below.message_wait.specs.Rendezvous.{Waits, first_caller}
use Rattle.turn_laws.specs.Below.message_wait.specs.Rendezvous as rendezvous
use Rattle.turn_laws.specs.Below.session_text.specs.Display.{close_all}
use Rattle.turn_laws.specs.Below.session_text.specs.declared.events.Event.{Event}
use Rattle.turn_laws.specs.Below.session_text.specs.declared.events.Event.TheVariants.{Line, Supervisor, Turns, Fixpoint, Shut}
use Rattle.turn_laws.specs.Below.slicer.specs.Rotation as rotation
use Rattle.turn_laws.specs.Below.task_tree.specs.declared.task.Task.{Task}
use Rattle.turn_laws.specs.Below.task_tree.specs.Tree as tree
use Rattle.turn_laws.specs.Below.task_tree.specs.Tree.{has_number}
use Rattle.turn_laws.specs.Below.task_tree.specs.Families.{family}
use Rattle.turn_laws.specs.Below.terminals.specs.Channels as channels
use Rattle.turn_laws.specs.Below.units.specs.declared.unit.Compiled.{Compiled}
use Rattle.turn_laws.specs.Below.units.specs.Library.{started_at}
use Rattle.turn_laws.specs.Below.units.specs.Sources.{most_lines}
use Rattle.system_meaning.specs.Stores.{Store, is_name, heir, last_number}
use Rattle.system_meaning.specs.Tasks.{Doing, Idle, Entering, Running, Own, starting, spent}
use Rattle.system_meaning.specs.Systems.{System, Moment, own, doing, kept, packets, does, sharing, on_ready, on_waits, on_system, on_display, uncouple_at, at_event}
use Rattle.system_meaning.specs.Ends.{next, number_refusal, begun, ended_with_descendants}
use Rattle.system_meaning.specs.Serving.{Served, Replies, Rests, put, line_taken, input, begin_with, begin_refusal, may_end, end_allowed, end_living, named_or, number, content, message, sent, caller, send_to, send_living, call_living, space_refusal, call_refusal, unless_stopped, call_taken, serve}
use Rattle.system_meaning.specs.Monitor.{Reading, installed, with_packet, inserted}
use Rattle.system_meaning.specs.Turns.{turn, turn_of, turns, turn_marks, most_evaluations}
use Rattle.system_meaning.specs.Supervisor as supervisor
use Rattle.system_meaning.specs.Events.{after}
use Rattle.system_meaning.specs.Whole.{IsSystem}
use Rattle.turn_laws.specs.Steady.{AreSteady}
use Rattle.turn_laws.specs.Waits.{AreOrderly}
use Rattle.turn_laws.proofs.Found.{found, own_found}
use Rattle.turn_laws.proofs.Finding.{living}
use Rattle.turn_laws.proofs.Trees.{numbered}
use Rattle.turn_laws.proofs.Steps.{quiet_does}
use Rattle.turn_laws.proofs.Lists.{all_append}
use Rattle.turn_laws.proofs.Others.{may}
use Rattle.turn_laws.proofs.Beside.{runs_it, turn_keeps}
use Rattle.turn_laws.specs.Standing.{AllStand}
use Rattle.turn_laws.specs.Valid.{ArePlain, HasRoom, HaveRoom, IsEvent}
use Rattle.turn_laws.proofs.Single.{lives_doing, changed_doing}
use Rattle.turn_laws.proofs.Walk.{Steps}
use Rattle.turn_laws.proofs.Goes.{Goes, slices, ServedSo}
use Rattle.turn_laws.proofs.Events.{Channelled, line_so, supervisor_so}
use Rattle.turn_laws.proofs.Turn.{Between, costs_so}
use Rattle.turn_laws.proofs.Kept.{AnyCommand, AnyCommands, begins_so, serves_so, enough, turn_stands}
use Rattle.turn_laws.proofs.Plain.{number_unrefused, plain_changed, plain_does, plain_given, plain_back, plain_woken, plain_shared, queue_of, plain_coupled, plain_uncoupled, plain_last, plain_unqueued, plain_queued, plain_begun, plain_all_ended}

abbrev pub IsShort : List ℕ → Type 0
IsShort line = length line ≤ LONGEST_LINE

all_found : (Q : Own → Type 0) (t : TaskNo) (xs : List Task) (os : List Own) (o : Own) → found t xs os ≡ Some o → AllByRecursion Q os → Q o
all_found Q t [] os o is h = absurd (none-some o is)
all_found Q t (x ∷ xs) [] o is h = absurd (none-some o is)
all_found Q t (x ∷ xs) (y ∷ os) o is h = by (has_number t x) is (λ later. all_found Q t xs os o later h.1)
  where
    by : (b : Bool) → cond b (Some y) (found t xs os) ≡ Some o → (found t xs os ≡ Some o → Q o) → Q o
    by true is later = subst Q (same_Some y o is) h.0
    by false is later = later is

room_of : (t : TaskNo) (d : Doing) (s : System) → doing t s ≡ Some d → HaveRoom s.owns → HasRoom d
room_of t d s is h = by (own t s) refl is
  where
    by : (p : Option Own) → own t s ≡ p → option_map (λ (o : Own). o.doing) p ≡ Some d → HasRoom d
    by None has e = absurd (none-some d e)
    by (Some o) has e =
        subst HasRoom (same_Some o.doing d e)
        (all_found (λ (x : Own). HasRoom x.doing) t s.shared.tree.tasks s.owns o (sym (own_found t s) ∙ has) h)

plain_waits : (f : Waits → Waits) (s : System) → ArePlain s → ArePlain (on_waits f s)
plain_waits f s h = plain_shared s (record s.shared { waits = f s.shared.waits }) refl refl h

plain_inserted : (u : TaskNo) (unit : Compiled) (i : Interface) (s : System) → ArePlain s → ArePlain (inserted u unit i s)
plain_inserted u unit i s h =
    plain_changed u (with_packet (s.shared.library.last + 1)) (λ o room. room) (sharing (λ x. record x { library = installed unit i x.library }) s)
    (plain_shared s (record s.shared { library = installed unit i s.shared.library }) refl refl h)

adds_room : (name : List ℕ) (lines : List (List ℕ)) (line : List ℕ) (store : Store) → IsShort line → nat_le most_lines (length lines) ≡ false
    → HasRoom (Entering name lines store) → HasRoom (Entering name (lines ++ line ∷ []) store)
adds_room name lines line store short few h =
    let less = leb-false most_lines (length lines) few in
    let long = length-append lines (line ∷ []) in
    (omega (arith, less, long), all_append (λ l. length l ≤ LONGEST_LINE) lines (line ∷ []) h.1 (short, tt), h.2)

pub plain_steps : (read : Env → Bool → List ℕ → Reading) (u : TaskNo) → Steps read u ArePlain AnyCommand IsShort
plain_steps read u = record {
  starts = λ packet text unit store s is reads h.
      plain_back u (does u (Running (starting unit (kept u s))) s) (plain_does u (Running (starting unit (kept u s))) s tt h);
  enters = λ name store s is none h. plain_does u (Entering name [] (kept u s)) s (omega arith, tt, none) h;
  adds = λ name lines line store s is fits few h.
      plain_does u (Entering name (lines ++ line ∷ []) store) s
      (adds_room name lines line store fits few (room_of u (Entering name lines store) s is h.entering)) h;
  rests = λ d store s is rests h. plain_does u (Idle store) s tt h;
  takes = λ c s h. plain_unqueued c s h;
  fits = λ c line lines s h is.
      (subst (λ (queue : List (List ℕ)). AllByRecursion (λ l. length l ≤ LONGEST_LINE) queue) is (queue_of c s h).1).0;
  inserts = λ c i store s p shows is room h. plain_inserted u c.unit i s h;
}

-- ---- a request

abbrev PlainServed : Served → Type 0
PlainServed (Replies a m) = ArePlain m.system
PlainServed (Rests m) = ArePlain m.system

module _ (u : TaskNo) (m : Moment) (is : IsSystem m.system) (live : tree.lives u m.system.shared.tree ≡ true) (h : ArePlain m.system) where
  some : is_nil u ≡ false
  some =
      let found = living u m.system.shared.tree.tasks live in
      let more = (numbered m.system.shared.tree u found.0 is.tree found.1).some in
      ne_eqb u.0 0 (λ e. omega (arith, e, more))

  named_so : (name : List ℕ) → begin_refusal name m.system ≡ None → is_name name ≡ true
  named_so name e = by (is_name name) e
    where
      by : (b : Bool) → (if b then number_refusal (tree.refusal name m.system.shared.tree) else Some BadName) ≡ None → b ≡ true
      by true e = refl
      by false e = absurd (none-some _ (sym e))

  numbered_so : (name : List ℕ) → begin_refusal name m.system ≡ None → m.system.shared.tree.last < last_number
  numbered_so name e = by (is_name name) e
    where
      by : (b : Bool) → (if b then number_refusal (tree.refusal name m.system.shared.tree) else Some BadName) ≡ None → m.system.shared.tree.last < last_number
      by true e = number_unrefused name m.system.shared.tree e
      by false e = absurd (none-some _ (sym e))

  plain_put : (bytes : List ℕ) (ends : Bool) (c : Option ℕ) → PlainServed (put c bytes ends m)
  plain_put bytes ends None = h
  plain_put bytes ends (Some c) = h

  plain_input : (c : Option ℕ) → PlainServed (input c m)
  plain_input None = h
  plain_input (Some c) = by (channels.channel c m.system.shared.channels).queue
    where
      by : (queue : List (List ℕ)) → PlainServed (line_taken queue c m)
      by [] = h
      by (line ∷ lines) = plain_unqueued c m.system h

  plain_begins : (name : List ℕ) (unit : Option Compiled) (stop : Option Stop) → begin_refusal name m.system ≡ stop → PlainServed (begin_with stop unit name u m)
  plain_begins name unit (Some stop) e = h
  plain_begins name None None e = h
  plain_begins name (Some unit) None e =
      plain_back (next m.system) (begun name u (Running (starting unit (heir (kept u m.system)))) m.system)
      (plain_begun name u (Running (starting unit (heir (kept u m.system)))) m.system (named_so name e) some (numbered_so name e) tt h)

  plain_ends : (v : TaskNo) (b : Bool) → tree.lives v m.system.shared.tree ≡ b → PlainServed (end_living b u v m)
  plain_ends v false e = h
  plain_ends v true e = by (may_end u v m.system) refl
    where
      which : (b : Bool) → ArePlain (ended_with_descendants v m).system
          → PlainServed (if b then Rests (ended_with_descendants v m) else Replies (plain replies.Done) (ended_with_descendants v m))
      which true x = x
      which false x = x

      by : (b : Bool) → may_end u v m.system ≡ b → PlainServed (end_allowed b u v m)
      by false no' = h
      by true can =
          which (is_task u v) (plain_all_ended (family v m.system.shared.tree) m is (may u v m.system is.tree e can).turn h)

  plain_breaks : (c : Option ℕ) → ArePlain (uncouple_at c m).system
  plain_breaks None = h
  plain_breaks (Some c) = plain_uncoupled c m.system h

  plain_sent : (o : Offer) (c : Caller) (x : Space) → PlainServed (sent o c x m)
  plain_sent offers.Taken c x =
      plain_woken c.to (message c.code c.from x c.to m.system) (on_waits (rendezvous.offered c false) m.system)
      (plain_waits (rendezvous.offered c false) m.system h)
  plain_sent offers.NotReady c x = h
  plain_sent offers.Queued c x = plain_waits (rendezvous.offered c true) m.system h

  plain_send : (b : Bool) (c : Caller) (space : ℕ) → PlainServed (send_living b c space m)
  plain_send false c space = h
  plain_send true c space = plain_sent (rendezvous.offer c.from c.to false m.system.shared.waits) c (content c.from space m.system)

  plain_call : (b : Bool) (c : Caller) (space : ℕ) → PlainServed (call_living b c space m)
  plain_call false c space = h
  plain_call true c space = by (is_task c.to c.from)
    where
      by : (b : Bool) → PlainServed (if b then Replies (plain (replies.Receipt (negsuc 1))) m else send_to true c space m)
      by true = h
      by false = plain_sent (rendezvous.offer c.from c.to true m.system.shared.waits) c (content c.from space m.system)

  plain_taken : (o : Option Caller) → PlainServed (call_taken o u m)
  plain_taken None = plain_waits (rendezvous.waited u) m.system h
  plain_taken (Some c) =
      plain_given c.from (plain replies.Taken)
      (on_waits (λ w. rendezvous.entered (record { task = c.from; of = Some u }) (rendezvous.waited u w)) m.system)
      (plain_waits (λ w. rendezvous.entered (record { task = c.from; of = Some u }) (rendezvous.waited u w)) m.system h)

  plain_unless : (o : Option Stop) (a : Served) → PlainServed a → PlainServed (unless_stopped o a m)
  plain_unless (Some stop) a x = h
  plain_unless None a x = x

  plain_serves : (q : Request) → PlainServed (serve u q m)
  plain_serves (Out bytes ends) = plain_put bytes ends (channels.channel_of u m.system.shared.channels)
  plain_serves Input = plain_input (channels.channel_of u m.system.shared.channels)
  plain_serves (Begin name start) =
      plain_begins name (started_at m.system.shared.library (packets u m.system) start) (begin_refusal name m.system) refl
  plain_serves Myself = h
  plain_serves (Father of) = h
  plain_serves (Son of) = h
  plain_serves (Brother of) = h
  plain_serves (Named name) = h
  plain_serves (Name of) = h
  plain_serves (Exists of) = h
  plain_serves (End of) = plain_ends (named_or of u) (tree.lives (named_or of u) m.system.shared.tree) refl
  plain_serves Break = plain_breaks (channels.channel_of u m.system.shared.channels)
  plain_serves (Send to code space) =
      plain_unless (space_refusal u space m.system) (send_living (tree.lives (number to) m.system.shared.tree) (caller u to code) space m)
      (plain_send (tree.lives (number to) m.system.shared.tree) (caller u to code) space)
  plain_serves Wait =
      plain_unless (room_refusal (heads_of (kept u m.system).spaces)) (call_taken (first_caller u m.system.shared.waits) u m)
      (plain_taken (first_caller u m.system.shared.waits))
  plain_serves (Call to code space) =
      plain_unless (call_refusal u space m.system) (call_living (tree.lives (number to) m.system.shared.tree) (caller u to code) space m)
      (plain_call (tree.lives (number to) m.system.shared.tree) (caller u to code) space)
  plain_serves (requests.Answer of) =
      plain_waits (rendezvous.entered (record { task = u; of = Some (number of) })) m.system h

-- ---- a turn

-- between two evaluations
pub record Both (u : TaskNo) (s : System) : Type 0 where
  pub between : Between u s
  pub plain : ArePlain s

served_both : (u : TaskNo) (a : Served) → ServedSo u (Between u) AllStand a → PlainServed a → ServedSo u (Both u) ArePlain a
served_both u (Replies a m) x y = record { between = x; plain = plain_given u a m.system y }
served_both u (Rests m) x y = y

module _ (steady : AreSteady) where
  plain_turning : (u : TaskNo) → Goes u (Both u) ArePlain AnyCommand
  plain_turning u = record {
    leaves = λ c store s at h. (plain_does u (Idle store) s tt h.plain, tt);
    marks = λ c left w s at is h. plain_back u (does u (Running (spent left w c)) s) (plain_does u (Running (spent left w c)) s tt h.plain);
    costs = λ c left q w s at is h. costs_so steady u c left q w is (h.between.may c at);
    serves = λ c left q w m at is h.
        served_both u (serve u q (on_system (does u (Running (spent left w c))) m)) (serves_so steady u c left q w m at is h.between)
        (plain_serves u (on_system (does u (Running (spent left w c))) m) (quiet_does u (Running (spent left w c)) m.system h.between.sound).sound
        (lives_doing u (does u (Running (spent left w c)) m.system) (Running (spent left w c))
        (changed_doing u (Running (spent left w c)) (Running c) m.system (runs_it u m.system c at)))
        (plain_does u (Running (spent left w c)) m.system tt h.plain) q);
    stops = λ s at h. h.plain;
  }

  pub turn_plain : (read : Env → Bool → List ℕ → Reading) (m : Moment) → IsSystem m.system → AreOrderly m.system → AllStand m.system → ArePlain m.system
      → ArePlain (turn read m).system
  turn_plain read m is order stands h = by m.system.shared.ready refl
    where
      by : (ready : List TaskNo) → m.system.shared.ready ≡ ready → ArePlain (on_display close_all (turn_of read ready m)).system
      by [] e = h
      by (u ∷ ready) e =
          slices read u (Both u) ArePlain AnyCommand IsShort (plain_steps read u) (plain_turning u) most_evaluations turn_marks (on_system (on_ready (λ _. ready)) m)
          (enough steady)
          (record {
            between = begins_so steady u ready m.system is order e stands;
            plain = plain_shared m.system (record m.system.shared { ready = ready }) refl refl h;
          })

  pub turns_plain : (read : Env → Bool → List ℕ → Reading) (n : ℕ) (m : Moment) → IsSystem m.system → AreOrderly m.system → AllStand m.system → ArePlain m.system
      → ArePlain (turns read n m).system
  turns_plain read zero m is order stands h = h
  turns_plain read (suc n) m is order stands h =
      let later = turn_keeps steady read m is order in
      turns_plain read n (turn read m) later.0 later.1 (turn_stands steady read m is order stands) (turn_plain read m is order stands h)

-- ---- at a channel

record CanName (name : List ℕ) (father : TaskNo) (s : System) : Type 0 where
  good : is_name name ≡ true
  some : is_nil father ≡ false
  less : s.shared.tree.last < last_number

abbrev texts : Option Stop → Option (List ℕ)
texts None = None
texts (Some stop) = Some (stop_text stop)

left_then : (name : List ℕ) (s : System) → texts (number_refusal (tree.refusal name s.shared.tree)) ≡ None → s.shared.tree.last < last_number
left_then name s e = number_unrefused name s.shared.tree (by (number_refusal (tree.refusal name s.shared.tree)) e)
  where
    by : (o : Option Stop) → texts o ≡ None → o ≡ None
    by None e = refl
    by (Some x) e = absurd (none-some _ (sym e))

can_name : (name : List ℕ) (father : TaskNo) (s : System) → supervisor.begin_refusal name father s ≡ None → CanName name father s
can_name name father s e = by (is_name name) refl (is_nil father) refl e
  where
    by : (b : Bool) → is_name name ≡ b → (d : Bool) → is_nil father ≡ d → (if b then supervisor.father_refusal d name s else Some (stop_text BadName)) ≡ None → CanName name father s
    by true good true nil e = absurd (none-some _ (sym e))
    by true good false some e = record { good = good; some = some; less = left_then name s e }
    by false bad d x e = absurd (none-some _ (sym e))

plain_channelled : Channelled ArePlain AnyCommands IsShort
plain_channelled = record {
  couples = λ c t s can live h. plain_coupled c t s live h;
  frees = λ c s h. plain_uncoupled c s h;
  lasts = λ c t s h. plain_last c t s h;
  queues = λ c line s fits h. plain_queued c line s fits h;
  unqueues = λ c s h. plain_unqueued c s h;
  begins = λ name named s e is h.
      let can = can_name name (tree.named named s.shared.tree) s e in
      plain_begun name (tree.named named s.shared.tree) (Idle (heir (kept (tree.named named s.shared.tree) s))) s can.good can.some can.less tt h;
  wakes = λ t a q s is none h. plain_woken t a s h;
  halts = λ t x store s runs h. (
    plain_does t (Idle store) (on_waits (rendezvous.left t) (on_ready (rotation.without t) s)) tt
        (plain_shared s (record s.shared { ready = rotation.without t s.shared.ready; waits = rendezvous.left t s.shared.waits }) refl refl h),
    tt,
  );
}

-- R with what all tasks do beside it, for the turns
pub event_plain : (steady : AreSteady) (read : Env → Bool → List ℕ → Reading) (s : System) (e : Event) → IsEvent e → IsSystem s → AreOrderly s → AllStand s
    → ArePlain s → ArePlain (after read s e)
event_plain steady read s (Turns n) fits is order stands h = turns_plain steady read n (at_event s) is order stands h
event_plain steady read s (Line c line) fits is order stands h =
    line_so read ArePlain AnyCommands IsShort (λ u. plain_steps read u) plain_channelled c line s fits is h
event_plain steady read s (Supervisor c) fits is order stands h =
    supervisor_so read ArePlain AnyCommands IsShort (λ u. plain_steps read u) plain_channelled c s h
event_plain steady read s Fixpoint fits is order stands h = h
event_plain steady read s Shut fits is order stands h = h
