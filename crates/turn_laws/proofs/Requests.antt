-- A request of a task that has its turn, and what serving it leaves.
use Rattle.std.proofs.Common.{◌≡◌, ℕ, ◌≤◌, Bool, true, false, not, List, [], ◌∷◌, ◌++◌, Option, Some, None}
use Rattle.std.proofs.Common.{refl, sym, ap, ◌∙◌, subst, inl, if◌then◌else◌}
use Rattle.std.specs.Prelude.{ℤ, negsuc, ◌||◌, slice_get}
use Rattle.std.specs.List.{list_any, position_or_len, remove}
use Rattle.std.proofs.lemmas.Bool.{false≢true, and_parts, or_left, eq-eqb}
use Rattle.std.proofs.lemmas.Option.{none-some}
use Rattle.turn_laws.specs.Below.task_numbers.specs.declared.number.TaskNo.{TaskNo}
use Rattle.turn_laws.specs.Below.task_numbers.specs.Numbers.{is_task}
use Rattle.eu_base.specs.declared.stop.Stop.{Stop}
use Rattle.eu_base.specs.declared.stop.Stop.TheVariants.{NoSpace}
use Rattle.eu_base.specs.declared.request.Request.{Request}
use Rattle.eu_base.specs.declared.request.Request.TheVariants.{Out, Input, Begin, End, Myself, Father, Son, Brother, Named, Name, Exists, Break, Send, Wait, Call}
use Rattle.eu_base.specs.declared.request.Request.TheVariants as requests
use Rattle.eu_base.specs.declared.request.Reply.TheVariants as replies
use Rattle.eu_base.specs.DataSpaces.{Space, heads_of, is_live, without_space}
use Rattle.eu_base.specs.SpaceOperations.{room_refusal}
use Rattle.eu_base.specs.Requests.{Answer, plain, then_asked}
use Rattle.turn_laws.specs.Below.message_wait.specs.declared.waits.Caller.{Caller}
use Rattle.turn_laws.specs.Below.message_wait.specs.declared.waits.Receiver.{Receiver}
use Rattle.turn_laws.specs.Below.message_wait.specs.declared.waits.Offer.TheVariants as offers
use Rattle.turn_laws.specs.Below.message_wait.specs.Rendezvous.{Waits, is_waiting, is_open, takes_from, is_ready, received, entered, is_after, waited_at, caller_at, first_call, first_caller, offered}
use Rattle.turn_laws.specs.Below.message_wait.specs.Rendezvous as rendezvous
use Rattle.turn_laws.specs.Below.task_tree.specs.Tree as tree
use Rattle.turn_laws.specs.Below.task_tree.specs.Tree.{Tree}
use Rattle.turn_laws.specs.Below.task_tree.specs.Trees.{IsTree}
use Rattle.turn_laws.specs.Below.terminals.specs.Channels as channels
use Rattle.turn_laws.specs.Below.units.specs.declared.unit.Compiled.{Compiled}
use Rattle.turn_laws.specs.Below.units.specs.Library.{started_at}
use Rattle.system_meaning.specs.Tasks.{Command, Own, with_doing, replied}
use Rattle.system_meaning.specs.Systems.{System, Moment, requested, kept, kept_by, command, packets, given, woken, on_waits}
use Rattle.system_meaning.specs.Ends.{ended_with_descendants}
use Rattle.system_meaning.specs.Serving.{Served, Replies, Rests, put, line_taken, input, begin_with, begin_refusal, may_end, end_allowed, end_living, named_or, number, space_number, content, message, handed, sent, caller, send_to, send_living, call_living, space_refusal, call_refusal, unless_stopped, answering, call_taken, awaits, serve}
use Rattle.system_meaning.specs.Whole.{WaitsFor, IsReceiver}
use Rattle.turn_laws.specs.Own.{own_of}
use Rattle.turn_laws.specs.Others.{sends_to, called, sends, called_it}
use Rattle.turn_laws.specs.Steady.{AreSteady}
use Rattle.turn_laws.specs.Waits.{AsksAnswer}
use Rattle.turn_laws.proofs.Found.{same_task, place_in, changed_owns, changed_is}
use Rattle.turn_laws.proofs.Trees.{IsAsked, Grown}
use Rattle.turn_laws.proofs.Steps.{Quiet, quiet_given, quiet_woken, waits_sound}
use Rattle.turn_laws.proofs.Lists.{turned, all_map, all_where, none_all, all_both, all_filter, all_remove, all_insert, all_at, none_left, some_of, some_at, once_at, FirstPlace, at_none, at_one, first_place}
use Rattle.turn_laws.proofs.Rights.{CallsSo, caller_number, Right, AreCalm, waits_of, rooms_of, Absent, absent, not_waiting, caller_waits_not, receiver_calls_not, right_same, right_receivers, right_removed, right_called, right_entered, absent_receivers, absent_removed, absent_called, absent_entered}
use Rattle.turn_laws.proofs.Orders.{order_changed, receives, may_answer}
use Rattle.turn_laws.proofs.Since.{IsKnown, Since, Over, over, same_doing, same_request, lasts_on, reach, since_waits, since_given}
use Rattle.turn_laws.proofs.Gone.{Serving, woken_out, since_woken}
use Rattle.turn_laws.proofs.Others.{unqueued_stays, can_begin, may, son_serving, serving_channels, serving_uncoupled, family_serving}

-- an answer that a request follows comes with what that needs
abbrev pub Follows : TaskNo → Request → Answer → System → Type 0
Follows u q a s =
    (r : Request) → then_asked q a.reply ≡ Some r → (c : Command) → command u (given u a s) ≡ Some c → AsksAnswer u c (given u a s)

plainly : (u : TaskNo) (q : Request) (a : Answer) (s : System) → then_asked q a.reply ≡ None → Follows u q a s
plainly u q a s none = λ r e. absurd (none-some r (sym none ∙ e))

-- what holds behind a request
abbrev pub AfterServed : TaskNo → List Request → System → Request → System → Served → Type 0
AfterServed u asked first q at (Replies a m) = Serving u asked first at m.system × Follows u q a m.system
AfterServed u asked first q at (Rests m) = Over u asked first m.system

-- where a task waits from now on, it is none of those that are ready
resting : (u : TaskNo) (w later : Waits) (ready : List TaskNo) → ((t : TaskNo) → is_task u t ≡ false → Absent t w → Absent t later)
    → list_any (λ t. is_task t u) ready ≡ false → AreCalm w ready → AreCalm later ready
resting u w later ready on out calm =
    all_where (λ t. is_task t u) (λ t. is_waiting t w ≡ false) (λ t. is_waiting t later ≡ false)
    (λ t other rests. not_waiting t later (on t (turned t u other) (absent t w rests))) ready out calm

-- one that waits is not ready
out_of : (v : TaskNo) (w : Waits) (ready : List TaskNo) → AreCalm w ready → is_waiting v w ≡ true → list_any (λ t. is_task t v) ready ≡ false
out_of v w [] calm waits = refl
out_of v w (t ∷ ts) calm waits = by (is_task t v) refl (out_of v w ts calm.1 waits)
  where
    by : (b : Bool) → is_task t v ≡ b → list_any (λ t. is_task t v) ts ≡ false → (b || list_any (λ t. is_task t v) ts) ≡ false
    by true is rest = absurd (false≢true (sym calm.0 ∙ (ap (λ (x : TaskNo). is_waiting x w) (same_task t v is) ∙ waits)))
    by false is rest = rest

module _ (steady : AreSteady) (u : TaskNo) (asked : List Request) (first : System) (is_first : IsTree first.shared.tree)
    (low : u.0 ≤ first.shared.tree.last) (m : Moment) (h : Serving u asked first m.system m.system) where
  -- ---- those that are answered at once

  same_after : (q : Request) (a : Answer) → then_asked q a.reply ≡ None → AfterServed u asked first q m.system (Replies a m)
  same_after q a none = (h, plainly u q a m.system none)

  put_after : (bytes : List ℕ) (ends : Bool) (c : Option ℕ) → AfterServed u asked first (Out bytes ends) m.system (put c bytes ends m)
  put_after bytes ends None = over u asked first m.system h.since
  put_after bytes ends (Some c) = (h, plainly u (Out bytes ends) (plain replies.Done) m.system refl)

  input_after : (c : Option ℕ) → AfterServed u asked first Input m.system (input c m)
  input_after None = over u asked first m.system h.since
  input_after (Some c) = by (channels.channel c m.system.shared.channels).queue
    where
      by : (queue : List (List ℕ)) → AfterServed u asked first Input m.system (line_taken queue c m)
      by [] = over u asked first m.system h.since
      by (line ∷ lines) = (
        serving_channels steady u asked first is_first low (channels.unqueued c) m.system m.system
            (unqueued_stays c m.system.shared.channels h.since.sound.channels) h,
        λ r e. absurd (none-some r e),
      )

  begin_after : (name : List ℕ) (start : ℕ) (unit : Option Compiled) → IsAsked asked (Begin name start) → tree.lives u m.system.shared.tree ≡ true
      → (stop : Option Stop)
      → begin_refusal name m.system ≡ stop → AfterServed u asked first (Begin name start) m.system (begin_with stop unit name u m)
  begin_after name start unit sent live (Some stop) e = (h, λ r e. absurd (none-some r e))
  begin_after name start None sent live None e = (h, λ r e. absurd (none-some r e))
  begin_after name start (Some unit) sent live None e = (
    son_serving steady u asked first is_first low name unit m.system h.since.sound live (can_begin name m.system e)
        (record { start = start; asks = sent }) h,
    λ r e. absurd (none-some r e),
  )

  end_after : (of : Option ℕ) → IsAsked asked (End of) → (live : Bool) → tree.lives (named_or of u) m.system.shared.tree ≡ live
      → AfterServed u asked first (End of) m.system (end_living live u (named_or of u) m)
  end_after of sent false e = (h, λ r e. absurd (none-some r e))
  end_after of sent true live = by (may_end u (named_or of u) m.system) refl
    where
      which : (b : Bool) → Serving u asked first m.system (ended_with_descendants (named_or of u) m).system
          → AfterServed u asked first (End of) m.system
          (if b then Rests (ended_with_descendants (named_or of u) m) else Replies (plain replies.Done) (ended_with_descendants (named_or of u) m))
      which true later = over u asked first (ended_with_descendants (named_or of u) m).system later.since
      which false later = (later, λ r e. absurd (none-some r e))

      by : (b : Bool) → may_end u (named_or of u) m.system ≡ b → AfterServed u asked first (End of) m.system (end_allowed b u (named_or of u) m)
      by false e = (h, λ r e. absurd (none-some r e))
      by true e =
          which (is_task u (named_or of u))
          (family_serving steady u asked first is_first low of m sent live (may u (named_or of u) m.system h.since.sound.tree live e) h)

  -- ---- a receiver that is ready takes a message

  module _ (to : ℕ) (code : ℤ) (x : Space) (reached : list_any (sends_to (number to)) asked ≡ true) (is : is_ready (number to) u m.system.shared.waits ≡ true) where
    receiver : (r : Receiver) × (is_open (number to) u r ≡ true) × (IsReceiver r m.system × (is_task r.task u ≡ false))
    receiver =
        some_of (λ (r : Receiver). IsReceiver r m.system × (is_task r.task u ≡ false)) (is_open (number to) u) m.system.shared.waits.receivers is
        (all_both (λ (r : Receiver). IsReceiver r m.system) (λ (r : Receiver). is_task r.task u ≡ false) m.system.shared.waits.receivers
        h.since.order.right.receivers (none_all (λ (r : Receiver). is_task r.task u) m.system.shared.waits.receivers h.since.order.apart.waits))

    its_number : receiver.0.task ≡ number to
    its_number = same_task receiver.0.task (number to) (and_parts (is_task receiver.0.task (number to)) (takes_from u receiver.0.of) receiver.1).0

    other : is_task (number to) u ≡ false
    other = subst (λ (v : TaskNo). is_task v u ≡ false) its_number receiver.2.1

    waits_for : WaitsFor (number to) receiver.0.of m.system
    waits_for = subst (λ (v : TaskNo). WaitsFor v receiver.0.of m.system) its_number receiver.2.0.waits

    since_before : Since u asked first (on_waits (received (number to)) m.system)
    since_before =
        since_waits u asked first is_first (received (number to)) m.system h.since
        (record {
          right = right_receivers (λ (r : Receiver). not (is_task r.task (number to))) m.system.shared.waits m.system h.since.order.right;
          calm =
              all_map (λ t. is_waiting t m.system.shared.waits ≡ false) (λ t. is_waiting t (received (number to) m.system.shared.waits) ≡ false)
              (λ t calm.
              not_waiting t (received (number to) m.system.shared.waits)
              (absent_receivers t (λ (r : Receiver). not (is_task r.task (number to))) m.system.shared.waits (absent t m.system.shared.waits calm)))
              m.system.shared.ready h.since.order.calm;
          free = h.since.order.free;
          apart = absent_receivers u (λ (r : Receiver). not (is_task r.task (number to))) m.system.shared.waits h.since.order.apart;
        })
        (record {
          callers = h.since.known.callers;
          receivers =
              all_filter (λ (r : Receiver). IsKnown first.shared.tree.last r.of) (λ (r : Receiver). not (is_task r.task (number to)))
              m.system.shared.waits.receivers h.since.known.receivers;
        })

    absent_then : Absent (number to) (received (number to) m.system.shared.waits)
    absent_then = record {
      calls = receiver_calls_not (number to) m.system.shared.waits m.system h.since.order.right receiver.0.of waits_for;
      waits = none_left (λ (r : Receiver). is_task r.task (number to)) m.system.shared.waits.receivers;
    }

    since_then : (of : Option TaskNo) → WaitsFor (number to) of m.system
        → Since u asked first (woken (number to) (message code u x (number to) m.system) (on_waits (received (number to)) m.system))
    since_then None asks =
        since_woken steady u asked first is_first (number to) (message code u x (number to) m.system) (on_waits (received (number to)) m.system) Wait since_before
        other absent_then asks refl (λ low. sends reached)
    since_then (Some v) asks =
        since_woken steady u asked first is_first (number to) (message code u x (number to) m.system) (on_waits (received (number to)) m.system)
        (requests.Answer v.0) since_before other absent_then asks.0 refl (λ low. sends reached)

    quiet : Quiet (number to) (on_waits (received (number to)) m.system)
        (woken (number to) (message code u x (number to) m.system) (on_waits (received (number to)) m.system))
    quiet = quiet_woken (number to) (message code u x (number to) m.system) (on_waits (received (number to)) m.system) since_before.sound

    as_handed : handed (caller u to code) x m.system
        ≡ woken (number to) (message code u x (number to) m.system) (on_waits (received (number to)) m.system)
    as_handed =
        ap
        (λ (v : Waits).
        let s' : System = record m.system { shared = record m.system.shared { waits = v } } in woken (number to) (message code u x (number to) m.system) s')
        (ap (λ (b : Bool). if b then received (number to) m.system.shared.waits else m.system.shared.waits) is)

    handed_own : own_of u (handed (caller u to code) x m.system) ≡ own_of u m.system
    handed_own = ap (own_of u) as_handed ∙ quiet.others u (turned (number to) u other)

    handed_tree : (handed (caller u to code) x m.system).shared.tree ≡ m.system.shared.tree
    handed_tree = ap (λ (x : System). x.shared.tree) as_handed ∙ quiet.tree

    handed_serving : Serving u asked first m.system (handed (caller u to code) x m.system)
    handed_serving =
        subst (λ (x : System). Serving u asked first m.system x) (sym as_handed)
        (record {
          since = since_then receiver.0.of waits_for;
          grown = subst (λ (x : Tree). Grown u asked m.system.shared.tree x) (sym quiet.tree) h.grown;
          mine = inl (quiet.others u (turned (number to) u other));
          out =
              woken_out u (number to) (message code u x (number to) m.system) (on_waits (received (number to)) m.system) other h.out;
        })

  -- ---- send

  send_after : (to : ℕ) (code : ℤ) (space : ℕ) → list_any (sends_to (number to)) asked ≡ true
      → AfterServed u asked first (Send to code space) m.system (serve u (Send to code space) m)
  send_after to code space reached = refused (space_refusal u space m.system)
    where
      offered_so : (b : Bool) → is_ready (number to) u m.system.shared.waits ≡ b
          → AfterServed u asked first (Send to code space) m.system
          (sent (if b then offers.Taken else offers.NotReady) (caller u to code) (content u space m.system) m)
      offered_so true is = (handed_serving to code (content u space m.system) reached is, λ r e. absurd (none-some r e))
      offered_so false is = (h, λ r e. absurd (none-some r e))

      living : (b : Bool) → AfterServed u asked first (Send to code space) m.system (send_living b (caller u to code) space m)
      living false = (h, λ r e. absurd (none-some r e))
      living true = offered_so (is_ready (number to) u m.system.shared.waits) refl

      refused : (o : Option Stop)
          → AfterServed u asked first (Send to code space) m.system
          (unless_stopped o (send_living (tree.lives (number to) m.system.shared.tree) (caller u to code) space m) m)
      refused (Some stop) = (h, λ r e. absurd (none-some r e))
      refused None = living (tree.lives (number to) m.system.shared.tree)

  -- where it waits, those that wait do so rightly still
  rests_so : (f : Waits → Waits) → Right (f m.system.shared.waits) m.system → AreCalm (f m.system.shared.waits) m.system.shared.ready
      → Over u asked first (on_waits f m.system)
  rests_so f right calm =
      let later = right_same (f m.system.shared.waits) m.system (on_waits f m.system) (λ t. refl) (λ t live. live) right in
      record {
        sound = waits_sound f m.system h.since.sound;
        tree = h.since.tree;
        others = λ t other early.
            lasts_on u asked first t m.system (on_waits f m.system) is_first h.since.tree (λ v low dead. dead) (h.since.others t other early) (inl refl);
        orderly = record {
          waits = waits_of (on_waits f m.system) later calm;
          rooms = rooms_of (on_waits f m.system) later;
          free = h.since.order.free;
        };
      }

  -- ---- call

  module _ (to : ℕ) (code : ℤ) (space : ℕ) (asks : requested u m.system ≡ Some (Call to code space)) (reached : list_any (sends_to (number to)) asked ≡ true) where
    -- nothing is against it
    record CanCall : Type 0 where
      there : is_live (space_number space) (kept u m.system).spaces ≡ true
      room : room_refusal (heads_of (without_space (space_number space) (kept u m.system).spaces)) ≡ None

    can_call : (b : Bool) → is_live (space_number space) (kept u m.system).spaces ≡ b
        → (if b then room_refusal (heads_of (without_space (space_number space) (kept u m.system).spaces)) else Some NoSpace) ≡ None → CanCall
    can_call true there room = record { there = there; room = room }
    can_call false there none = absurd (none-some NoSpace (sym none))

    calls_so : CanCall → tree.lives (number to) m.system.shared.tree ≡ true → CallsSo m.system (caller u to code)
    calls_so can live = (
      record { space = space; calls = asks; there = can.there; alive = live },
      λ other calls.
          let same : Some (Call to code space) ≡ Some (Call to code other) = sym asks ∙ calls in
          let is : space ≡ other = cc same in
          subst (λ k. room_refusal (heads_of (without_space (space_number k) (kept u m.system).spaces)) ≡ None) is can.room,
    )

    queues : CanCall → tree.lives (number to) m.system.shared.tree ≡ true
        → Over u asked first (on_waits (λ (v : Waits). record v { callers = v.callers ++ caller u to code ∷ [] }) m.system)
    queues can live =
        rests_so (λ (v : Waits). record v { callers = v.callers ++ caller u to code ∷ [] })
        (right_called (caller u to code) m.system.shared.waits m.system (calls_so can live) h.since.order.apart.calls h.since.order.right)
        (resting u m.system.shared.waits (record m.system.shared.waits { callers = m.system.shared.waits.callers ++ caller u to code ∷ [] }) m.system.shared.ready
        (λ t other off. absent_called t (caller u to code) m.system.shared.waits other off) h.out h.since.order.calm)

    -- it waits for the answer then
    follows : CanCall → tree.lives (number to) m.system.shared.tree ≡ true → (is : is_ready (number to) u m.system.shared.waits ≡ true)
        → Follows u (Call to code space) (plain replies.Taken) (handed (caller u to code) (content u space m.system) m.system)
    follows can live is r e c at =
        may_answer steady u (handed (caller u to code) (content u space m.system) m.system) to code space
        (same_request u m.system (handed (caller u to code) (content u space m.system) m.system) (handed_own to code (content u space m.system) reached is) ∙ asks)
        (ap (tree.lives (number to)) (handed_tree to code (content u space m.system) reached is) ∙ live)
        (ap (λ d. room_refusal (heads_of (without_space (space_number space) (kept_by d).spaces)))
        (same_doing u m.system (handed (caller u to code) (content u space m.system) m.system) (handed_own to code (content u space m.system) reached is))
        ∙ can.room)
        c at

    call_after : AfterServed u asked first (Call to code space) m.system (serve u (Call to code space) m)
    call_after = refused (call_refusal u space m.system) refl
      where
        offered_so : CanCall → tree.lives (number to) m.system.shared.tree ≡ true → (b : Bool) → is_ready (number to) u m.system.shared.waits ≡ b
            → AfterServed u asked first (Call to code space) m.system
            (sent (if b then offers.Taken else offers.Queued) (caller u to code) (content u space m.system) m)
        offered_so can live true is = (handed_serving to code (content u space m.system) reached is, follows can live is)
        offered_so can live false is =
            subst (λ (v : Waits). let s' : System = record m.system { shared = record m.system.shared { waits = v } } in Over u asked first s')
            (sym (ap
            (λ (b : Bool).
            if b then received (number to) m.system.shared.waits
            else record m.system.shared.waits { callers = m.system.shared.waits.callers ++ caller u to code ∷ [] })
            is))
            (queues can live)

        itself : CanCall → tree.lives (number to) m.system.shared.tree ≡ true → (b : Bool)
            → AfterServed u asked first (Call to code space) m.system
            (if b then Replies (plain (replies.Receipt (negsuc 1))) m else send_to true (caller u to code) space m)
        itself can live true = (h, λ r e. absurd (none-some r e))
        itself can live false = offered_so can live (is_ready (number to) u m.system.shared.waits) refl

        living : CanCall → (b : Bool) → tree.lives (number to) m.system.shared.tree ≡ b
            → AfterServed u asked first (Call to code space) m.system (call_living b (caller u to code) space m)
        living can false e = (h, λ r e. absurd (none-some r e))
        living can true e = itself can e (is_task (number to) u)

        refused : (o : Option Stop) → call_refusal u space m.system ≡ o
            → AfterServed u asked first (Call to code space) m.system
            (unless_stopped o (call_living (tree.lives (number to) m.system.shared.tree) (caller u to code) space m) m)
        refused (Some stop) e = (h, λ r e. absurd (none-some r e))
        refused None e =
            living (can_call (is_live (space_number space) (kept u m.system).spaces) refl e) (tree.lives (number to) m.system.shared.tree) refl

  -- ---- the answer of a call

  answer_after : (of : ℕ) → requested u m.system ≡ Some (requests.Answer of) → tree.lives (number of) m.system.shared.tree ≡ true
      → room_refusal (heads_of (kept u m.system).spaces) ≡ None → Over u asked first (awaits u of m.system)
  answer_after of asks live room =
      rests_so (entered (record { task = u; of = Some (number of) }))
      (right_entered (record { task = u; of = Some (number of) }) m.system.shared.waits m.system (record { waits = (asks, live); room = room })
      h.since.order.apart.waits h.since.order.right)
      (resting u m.system.shared.waits (entered (record { task = u; of = Some (number of) }) m.system.shared.waits) m.system.shared.ready
      (λ t other off. absent_entered t (record { task = u; of = Some (number of) }) m.system.shared.waits other off) h.out h.since.order.calm)

  -- ---- wait

  -- nobody calls it
  waits_on : requested u m.system ≡ Some Wait → room_refusal (heads_of (kept u m.system).spaces) ≡ None → first_call u m.system.shared.waits ≡ None
      → Over u asked first (on_waits (rendezvous.waited u) m.system)
  waits_on asks room none =
      subst (λ (p : Option ℕ). let s' : System = record m.system { shared = record m.system.shared { waits = waited_at p u m.system.shared.waits } } in Over u asked first s')
      (sym none)
      (rests_so (entered (record { task = u; of = None }))
      (right_entered (record { task = u; of = None }) m.system.shared.waits m.system (record { waits = asks; room = room })
      h.since.order.apart.waits h.since.order.right)
      (resting u m.system.shared.waits (entered (record { task = u; of = None }) m.system.shared.waits) m.system.shared.ready
      (λ t other off. absent_entered t (record { task = u; of = None }) m.system.shared.waits other off) h.out h.since.order.calm))

  -- a caller is told that its message was taken, and waits for the answer
  module _ (k : ℕ) (c : Caller) (at : first_call u m.system.shared.waits ≡ Some k) (get : slice_get m.system.shared.waits.callers k ≡ Some c)
      (passes : is_task c.to u ≡ true) where
    calls : CallsSo m.system c
    calls = all_at (CallsSo m.system) m.system.shared.waits.callers k c get h.since.order.right.callers

    is_mine : c.to ≡ u
    is_mine = same_task c.to u passes

    another : is_task c.from u ≡ false
    another =
        all_at (λ (x : Caller). is_task x.from u ≡ false) m.system.shared.waits.callers k c get
        (none_all (λ (x : Caller). is_task x.from u) m.system.shared.waits.callers h.since.order.apart.calls)

    abbrev fewer : System
    fewer = on_waits (λ (v : Waits). record v { callers = remove v.callers k }) m.system

    since_fewer : Since u asked first (on_waits (λ (v : Waits). record v { callers = remove v.callers k }) m.system)
    since_fewer =
        since_waits u asked first is_first (λ (v : Waits). record v { callers = remove v.callers k }) m.system h.since
        (record {
          right = right_removed k m.system.shared.waits m.system h.since.order.right;
          calm =
              all_map (λ t. is_waiting t m.system.shared.waits ≡ false)
              (λ t. is_waiting t (record m.system.shared.waits { callers = remove m.system.shared.waits.callers k }) ≡ false)
              (λ t calm.
              not_waiting t (record m.system.shared.waits { callers = remove m.system.shared.waits.callers k })
              (absent_removed t k m.system.shared.waits (absent t m.system.shared.waits calm)))
              m.system.shared.ready h.since.order.calm;
          free = h.since.order.free;
          apart = absent_removed u k m.system.shared.waits h.since.order.apart;
        })
        (record {
          callers = all_remove (λ (x : Caller). x.to.0 ≤ first.shared.tree.last) m.system.shared.waits.callers k h.since.known.callers;
          receivers = h.since.known.receivers;
        })

    off : Absent c.from (record m.system.shared.waits { callers = remove m.system.shared.waits.callers k })
    off = record {
      calls = once_at caller_number m.system.shared.waits.callers k c get h.since.order.right.one_call;
      waits = caller_waits_not c.from m.system.shared.waits m.system h.since.order.right c.to.0 c.code calls.0.space calls.0.calls;
    }

    unready : list_any (λ t. is_task t c.from) m.system.shared.ready ≡ false
    unready =
        out_of c.from m.system.shared.waits m.system.shared.ready h.since.order.calm
        (or_left (list_any (λ (x : Caller). is_task x.from c.from) m.system.shared.waits.callers) _
        (some_at (λ (x : Caller). is_task x.from c.from) m.system.shared.waits.callers k c get (eq-eqb c.from.0 c.from.0 refl)))

    abbrev told : System
    told = given c.from (plain replies.Taken) (on_waits (λ (v : Waits). record v { callers = remove v.callers k }) m.system)

    since_told : Since u asked first told
    since_told =
        since_given u asked first is_first c.from (plain replies.Taken) fewer since_fewer another
        (λ early.
        reach u asked first c.from fewer (Call c.to.0 c.code calls.0.space) calls.0.calls (since_fewer.others c.from another early)
        (λ asked_first. called_it (ap called asked_first ∙ ap (λ (x : TaskNo). Some x.0) is_mine)))
        (order_changed u c.from (λ (o : Own). with_doing (replied (plain replies.Taken) o.doing) o) fewer since_fewer.sound off (inl unready) since_fewer.order)

    told_waits : told.shared.waits ≡ record m.system.shared.waits { callers = remove m.system.shared.waits.callers k }
    told_waits = ap (λ (x : System). x.shared.waits) (changed_is c.from (λ (o : Own). with_doing (replied (plain replies.Taken) o.doing) o) fewer)

    off_told : Absent c.from told.shared.waits
    off_told = subst (λ (v : Waits). Absent c.from v) (sym told_waits) off

    receives_then : IsReceiver (record { task = c.from; of = Some u }) told
    receives_then =
        subst (λ (x : TaskNo). IsReceiver (record { task = c.from; of = Some x }) told) is_mine
        (receives steady c.from fewer c.to.0 c.code calls.0.space calls.0.calls calls.0.alive (calls.1 calls.0.space calls.0.calls))

    ready_told : told.shared.ready ≡ m.system.shared.ready
    ready_told = ap (λ (x : System). x.shared.ready) (changed_is c.from (λ (o : Own). with_doing (replied (plain replies.Taken) o.doing) o) fewer)

    since_entered : Since u asked first (on_waits (entered (record { task = c.from; of = Some u })) told)
    since_entered =
        since_waits u asked first is_first (entered (record { task = c.from; of = Some u })) told since_told
        (record {
          right =
              right_entered (record { task = c.from; of = Some u }) told.shared.waits told receives_then off_told.waits since_told.order.right;
          calm =
              resting c.from told.shared.waits (entered (record { task = c.from; of = Some u }) told.shared.waits) told.shared.ready
              (λ t other off. absent_entered t (record { task = c.from; of = Some u }) told.shared.waits other off)
              (subst (λ (ready : List TaskNo). list_any (λ t. is_task t c.from) ready ≡ false) (sym ready_told) unready) since_told.order.calm;
          free = since_told.order.free;
          apart = absent_entered u (record { task = c.from; of = Some u }) told.shared.waits another since_told.order.apart;
        })
        (record {
          callers = since_told.known.callers;
          receivers =
              all_insert (λ (r : Receiver). IsKnown first.shared.tree.last r.of) told.shared.waits.receivers
              (position_or_len (is_after c.from) told.shared.waits.receivers) (record { task = c.from; of = Some u }) low since_told.known.receivers;
        })

    as_answering : answering u c m.system ≡ on_waits (entered (record { task = c.from; of = Some u })) told
    as_answering =
        changed_is c.from f
        (on_waits (λ (v : Waits). entered (record { task = c.from; of = Some u }) (rendezvous.waited u v)) m.system)
        ∙ (ap
        (λ (p : Option ℕ).
        let s' : System = record {
          shared = record m.system.shared { waits = entered (record { task = c.from; of = Some u }) (waited_at p u m.system.shared.waits) };
          owns = changed_owns (place_in c.from m.system.shared.tree.tasks) f m.system.owns;
        } in s')
        at
        ∙ sym (ap (on_waits (entered (record { task = c.from; of = Some u }))) (changed_is c.from f fewer)))
      where
        f : Own → Own
        f o = with_doing (replied (plain replies.Taken) o.doing) o

    quiet_told : Quiet c.from fewer told
    quiet_told = quiet_given c.from (plain replies.Taken) fewer since_fewer.sound

    answering_serving : Serving u asked first m.system (answering u c m.system)
    answering_serving =
        subst (λ (x : System). Serving u asked first m.system x) (sym as_answering)
        (record {
          since = since_entered;
          grown = subst (λ (x : Tree). Grown u asked m.system.shared.tree x) (sym quiet_told.tree) h.grown;
          mine = inl (quiet_told.others u (turned c.from u another));
          out = subst (λ (ready : List TaskNo). list_any (λ t. is_task t u) ready ≡ false) (sym ready_told) h.out;
        })

  wait_after : requested u m.system ≡ Some Wait → AfterServed u asked first Wait m.system (serve u Wait m)
  wait_after asks = refused (room_refusal (heads_of (kept u m.system).spaces)) refl
    where
      takes : room_refusal (heads_of (kept u m.system).spaces) ≡ None
          → FirstPlace (λ (c : Caller). is_task c.to u) m.system.shared.waits.callers
          → AfterServed u asked first Wait m.system (call_taken (first_caller u m.system.shared.waits) u m)
      takes room (at_none none) =
          subst (λ (p : Option ℕ). AfterServed u asked first Wait m.system (call_taken (caller_at p m.system.shared.waits.callers) u m)) (sym none)
          (waits_on asks room none)
      takes room (at_one k c at get passes) =
          subst (λ (o : Option Caller). AfterServed u asked first Wait m.system (call_taken o u m))
          (sym (ap (λ (p : Option ℕ). caller_at p m.system.shared.waits.callers) at ∙ get))
          (answering_serving k c at get passes, λ r e. absurd (none-some r e))

      refused : (o : Option Stop) → room_refusal (heads_of (kept u m.system).spaces) ≡ o
          → AfterServed u asked first Wait m.system (unless_stopped o (call_taken (first_caller u m.system.shared.waits) u m) m)
      refused (Some stop) e = (h, λ r e. absurd (none-some r e))
      refused None e = takes e (first_place (λ (c : Caller). is_task c.to u) m.system.shared.waits.callers)

  -- ---- each request

  -- the request is among those that were asked, and an answer is asked for only where it may be
  pub serve_after : (q : Request) → requested u m.system ≡ Some q → tree.lives u m.system.shared.tree ≡ true
      → IsAsked asked q → ((of : ℕ) → q ≡ requests.Answer of
      → (tree.lives (number of) m.system.shared.tree ≡ true) × (room_refusal (heads_of (kept u m.system).spaces) ≡ None))
      → AfterServed u asked first q m.system (serve u q m)
  serve_after (Out bytes ends) asks live sent may' = put_after bytes ends (channels.channel_of u m.system.shared.channels)
  serve_after Input asks live sent may' = input_after (channels.channel_of u m.system.shared.channels)
  serve_after (Begin name start) asks live sent may' =
      begin_after name start (started_at m.system.shared.library (packets u m.system) start) sent live (begin_refusal name m.system) refl
  serve_after Myself asks live sent may' = (h, λ r e. absurd (none-some r e))
  serve_after (Father of) asks live sent may' = (h, λ r e. absurd (none-some r e))
  serve_after (Son of) asks live sent may' = (h, λ r e. absurd (none-some r e))
  serve_after (Brother of) asks live sent may' = (h, λ r e. absurd (none-some r e))
  serve_after (Named name) asks live sent may' = (h, λ r e. absurd (none-some r e))
  serve_after (Name of) asks live sent may' = (h, λ r e. absurd (none-some r e))
  serve_after (Exists of) asks live sent may' = (h, λ r e. absurd (none-some r e))
  serve_after (End of) asks live sent may' = end_after of sent (tree.lives (named_or of u) m.system.shared.tree) refl
  serve_after Break asks live sent may' = (
    serving_uncoupled steady u asked first is_first low m.system (channels.channel_of u m.system.shared.channels) m h,
    λ r e. absurd (none-some r e),
  )
  serve_after (Send to code space) asks live sent may' = send_after to code space (sent (sends_to (number to)) (eq-eqb to to refl))
  serve_after Wait asks live sent may' = wait_after asks
  serve_after (Call to code space) asks live sent may' = call_after to code space asks (sent (sends_to (number to)) (eq-eqb to to refl))
  serve_after (requests.Answer of) asks live sent may' = let fits = may' of refl in answer_after of asks fits.0 fits.1
