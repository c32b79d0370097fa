-- Serving a request leaves each other task as it should stand, and where the task rests, it too.
use Rattle.std.proofs.Common.{◌≡◌, ℕ, ◌+◌, Bool, true, false, not, ◌&&◌, ◌||◌, List, [], ◌∷◌, ◌++◌, Option, Some, None, refl, sym, ap, ◌∙◌, subst, if◌then◌else◌, arith}
use Rattle.std.specs.Prelude.{ℤ, negsuc, ◌==◌, slice_get}
use Rattle.std.specs.Ordering.{int_eq}
use Rattle.std.specs.List.{list_any, position_or_len, remove}
use Rattle.std.proofs.lemmas.Bool.{false≢true, and_parts, eq-eqb}
use Rattle.std.proofs.lemmas.Cmp.{int_eq_equiv}
use Rattle.std.proofs.lemmas.List.Folds.{list_any-append}
use Rattle.turn_laws.specs.Below.task_numbers.specs.declared.number.TaskNo.{TaskNo}
use Rattle.turn_laws.specs.Below.task_numbers.specs.Numbers.{is_task}
use Rattle.eu_base.specs.declared.stop.Stop.{Stop}
use Rattle.eu_base.specs.declared.request.Request.{Request}
use Rattle.eu_base.specs.declared.request.Request.TheVariants.{Out, Input, Begin, End, Myself, Father, Son, Brother, Named, Name, Exists, Break, Send, Wait, Call}
use Rattle.eu_base.specs.declared.request.Request.TheVariants as requests
use Rattle.eu_base.specs.declared.request.Reply.TheVariants as replies
use Rattle.eu_base.specs.DataSpaces.{Space, heads_of}
use Rattle.eu_base.specs.SpaceOperations.{room_refusal}
use Rattle.eu_base.specs.Requests.{Answer, plain, then_asked}
use Rattle.elan_types.specs.Eval.{World, after_answer}
use Rattle.elan_types.specs.Command.{Asks}
use Rattle.turn_laws.specs.Below.message_wait.specs.declared.waits.Caller.{Caller}
use Rattle.turn_laws.specs.Below.message_wait.specs.declared.waits.Receiver.{Receiver}
use Rattle.turn_laws.specs.Below.message_wait.specs.declared.waits.Offer.TheVariants as offers
use Rattle.turn_laws.specs.Below.message_wait.specs.Rendezvous.{Waits, is_open, takes_from, is_ready, received, entered, is_after, waited_at, caller_at, first_call, first_caller}
use Rattle.turn_laws.specs.Below.slicer.specs.Rotation as rotation
use Rattle.turn_laws.specs.Below.task_tree.specs.Tree as tree
use Rattle.turn_laws.specs.Below.task_tree.specs.Tree.{has_number}
use Rattle.turn_laws.specs.Below.terminals.specs.Channels as channels
use Rattle.turn_laws.specs.Below.units.specs.declared.unit.Compiled.{Compiled}
use Rattle.turn_laws.specs.Below.units.specs.Library.{started_at}
use Rattle.system_meaning.specs.Stores.{Store, heir}
use Rattle.system_meaning.specs.Tasks.{Command, Doing, Running, Own, starting, ending, with_doing, with_reply, replied}
use Rattle.system_meaning.specs.Systems.{Shared, System, Moment, doing, requested, kept, packets, given, woken, uncouple_at}
use Rattle.system_meaning.specs.Ends.{next, begun}
use Rattle.system_meaning.specs.Serving.{Replies, put, line_taken, input, begin_with, begin_refusal, son_begins, number, content, message, handed, sent, caller, send_to, send_living, call_living, space_refusal, call_refusal, unless_stopped, answering, call_taken, awaits, serve}
use Rattle.system_meaning.specs.Whole.{IsSystem, WaitsFor, IsReceiver}
use Rattle.turn_laws.specs.Steady.{AreSteady}
use Rattle.turn_laws.proofs.Found.{same_task, itself}
use Rattle.turn_laws.proofs.Finding.{living}
use Rattle.turn_laws.proofs.Trees.{numbered}
use Rattle.turn_laws.proofs.Steps.{begun_others}
use Rattle.turn_laws.proofs.Lists.{turned, some_of, all_at, FirstPlace, at_none, at_one, first_place}
use Rattle.turn_laws.proofs.Rights.{CallsSo}
use Rattle.turn_laws.proofs.Orders.{Order, AsksNow, doing_given, shared_changed}
use Rattle.turn_laws.proofs.Since.{same_doing}
use Rattle.turn_laws.proofs.Others.{son_doing, back_tree}
use Rattle.turn_laws.specs.Standing.{calls_so, waits_for_any, waits_for_one, IsAwaited, Stands, AllStand}
use Rattle.turn_laws.proofs.Entries.{some_filter, some_append, some_last, some_insert, some_inserted, some_remove}
use Rattle.turn_laws.proofs.Single.{Entries, stands_on, beside_changed, beside_back, beside_woken, IsQuiet, is_quiet, back_stands, AsksSo, asks_stands, stands_asking, woken_stands, OthersStand, all_but}
use Rattle.turn_laws.proofs.Turn.{OthersServed}

-- the tree is the same where one is woken
pub tree_woken : (v : TaskNo) (a : Answer) (s : System) → (woken v a s).shared.tree ≡ s.shared.tree
tree_woken v a s = back_tree v (given v a s) ∙ ap (λ (x : Shared). x.tree) (shared_changed v (λ (o : Own). with_doing (replied a o.doing) o) s)

-- who waits so waits so still, where it is so of those that call, and of those that wait
pub entries_by : (t : TaskNo) (w v : Waits) → (list_any (waits_for_any t) w.receivers ≡ true → list_any (waits_for_any t) v.receivers ≡ true)
    → ((of : ℕ) → list_any (waits_for_one t of) w.receivers ≡ true → list_any (waits_for_one t of) v.receivers ≡ true)
    → ((to : ℕ) (code : ℤ) → list_any (calls_so t to code) w.callers ≡ true → list_any (calls_so t to code) v.callers ≡ true) → Entries t w v
entries_by t w v any one call (Out bytes ends) h = tt
entries_by t w v any one call Input h = tt
entries_by t w v any one call (Begin name start) h = absurd h
entries_by t w v any one call (End of) h = absurd h
entries_by t w v any one call Myself h = absurd h
entries_by t w v any one call (Father of) h = absurd h
entries_by t w v any one call (Son of) h = absurd h
entries_by t w v any one call (Brother of) h = absurd h
entries_by t w v any one call (Named name) h = absurd h
entries_by t w v any one call (Name of) h = absurd h
entries_by t w v any one call (Exists of) h = absurd h
entries_by t w v any one call Break h = absurd h
entries_by t w v any one call (Send to code space) h = absurd h
entries_by t w v any one call Wait h = any h
entries_by t w v any one call (Call to code space) h = call to code h
entries_by t w v any one call (requests.Answer of) h = one of h

receives : (t : TaskNo) (b : Bool) (r : Receiver) → (is_task r.task t && b) ≡ true → r.task ≡ t
receives t b r e = same_task r.task t (and_parts (is_task r.task t) b e).0

-- where others wait no longer
pub entries_received : (t v : TaskNo) (w : Waits) → is_task t v ≡ false → Entries t w (received v w)
entries_received t v w other =
    entries_by t w (received v w)
    (some_filter (waits_for_any t) (λ (r : Receiver). not (is_task r.task v)) w.receivers (λ r e. stays r (receives t _ r e)))
    (λ of. some_filter (waits_for_one t of) (λ (r : Receiver). not (is_task r.task v)) w.receivers (λ r e. stays r (receives t _ r e)))
    (λ to code h. h)
  where
    stays : (r : Receiver) → r.task ≡ t → not (is_task r.task v) ≡ true
    stays r is = ap not (ap (λ (x : TaskNo). is_task x v) is ∙ other)

pub entries_entered : (t : TaskNo) (r : Receiver) (w : Waits) → Entries t w (entered r w)
entries_entered t r w =
    entries_by t w (entered r w)
    (some_insert (waits_for_any t) w.receivers (position_or_len (is_after r.task) w.receivers) r)
    (λ of. some_insert (waits_for_one t of) w.receivers (position_or_len (is_after r.task) w.receivers) r)
    (λ to code h. h)

pub entries_called : (t : TaskNo) (c : Caller) (w : Waits) → Entries t w (record w { callers = w.callers ++ c ∷ [] })
entries_called t c w =
    entries_by t w (record w { callers = w.callers ++ c ∷ [] }) (λ h. h) (λ of h. h)
    (λ to code. some_append (calls_so t to code) w.callers (c ∷ []))

pub entries_removed : (t : TaskNo) (k : ℕ) (c : Caller) (w : Waits) → slice_get w.callers k ≡ Some c → is_task c.from t ≡ false
    → Entries t w (record w { callers = remove w.callers k })
entries_removed t k c w at other =
    entries_by t w (record w { callers = remove w.callers k }) (λ h. h) (λ of h. h)
    (λ to code.
    some_remove (calls_so t to code) w.callers k c at
    (ap (λ (b : Bool). b && ((c.to.0 == to) && int_eq c.code code)) other))

-- who lives where a son began lived before, unless it is the son
pub lived_before : (t : TaskNo) (name : List ℕ) (u : TaskNo) (s : System) → is_task t (next s) ≡ false → tree.lives t (tree.begun name u s.shared.tree) ≡ true
    → tree.lives t s.shared.tree ≡ true
lived_before t name u s other live =
    by (tree.lives t s.shared.tree) (is_task (next s) t) (turned t (next s) other)
    (sym (list_any-append (has_number t) s.shared.tree.tasks (tree.task (tree.next s.shared.tree) name u ∷ [])) ∙ live)
  where
    by : (a b : Bool) → b ≡ false → (a || (b || false)) ≡ true → a ≡ true
    by true b e h = refl
    by false true e h = absurd (false≢true (sym e))
    by false false e h = h

-- a receiver waits for any, or for the answer of one
abbrev receiver_request : Option TaskNo → Request
receiver_request None = Wait
receiver_request (Some v) = requests.Answer v.0

last_of : (of : Option TaskNo) (code : ℤ) (from n : ℕ) → then_asked (receiver_request of) (replies.Message code from n) ≡ None
last_of None code from n = refl
last_of (Some v) code from n = refl

asks_of : (t : TaskNo) (of : Option TaskNo) (s : System) → WaitsFor t of s → requested t s ≡ Some (receiver_request of)
asks_of t None s h = h
asks_of t (Some v) s h = h.0

module _ (steady : AreSteady) (u : TaskNo) (m : Moment) (sound : IsSystem m.system) (order : Order u m.system) (others : OthersStand u m.system) where
  -- ---- a receiver that is ready takes a message

  module _ (to : ℕ) (code : ℤ) (x : Space) (is : is_ready (number to) u m.system.shared.waits ≡ true) where
    abbrev waits : Waits
    waits = received (number to) m.system.shared.waits

    abbrev less : System
    less = record m.system { shared = record m.system.shared { waits = received (number to) m.system.shared.waits } }

    receiver : (r : Receiver) × (is_open (number to) u r ≡ true) × IsReceiver r m.system
    receiver =
        some_of (λ (r : Receiver). IsReceiver r m.system) (is_open (number to) u) m.system.shared.waits.receivers is order.right.receivers

    waits_for : WaitsFor (number to) receiver.0.of m.system
    waits_for =
        subst (λ (v : TaskNo). WaitsFor v receiver.0.of m.system)
        (same_task receiver.0.task (number to) (and_parts (is_task receiver.0.task (number to)) (takes_from u receiver.0.of) receiver.1).0)
        receiver.2.waits

    takes_it : Stands (number to) m.system
        → Stands (number to) (woken (number to) (message code u x (number to) m.system) less)
    takes_it h =
        let asks = asks_stands (number to) m.system (receiver_request receiver.0.of) (asks_of (number to) receiver.0.of m.system waits_for) h in
        let n : AsksNow (number to) less (receiver_request receiver.0.of) = record {
          now = asks.now.now;
          command = asks.now.command;
          world = asks.now.world;
          has = asks.now.has;
          does = asks.now.does;
          asks = asks.now.asks;
        } in
        woken_stands steady (number to) (message code u x (number to) m.system) less (receiver_request receiver.0.of) n asks.spent
        (last_of receiver.0.of code u.0 _)

    each : (t : TaskNo) → is_task t u ≡ false → tree.lives t m.system.shared.tree ≡ true
        → Stands t (woken (number to) (message code u x (number to) m.system) less)
    each t other live = by (is_task t (number to)) refl
      where
        by : (b : Bool) → is_task t (number to) ≡ b → Stands t (woken (number to) (message code u x (number to) m.system) less)
        by true same =
            subst (λ (v : TaskNo). Stands v (woken (number to) (message code u x (number to) m.system) less)) (sym (same_task t (number to) same))
            (takes_it (subst (λ (v : TaskNo). Stands v m.system) (same_task t (number to) same) (others t other live)))
        by false apart =
            beside_woken t (number to) (message code u x (number to) m.system) less apart
            (stands_on t m.system less refl refl (entries_received t (number to) m.system.shared.waits apart) (others t other live))

    as_handed : handed (caller u to code) x m.system ≡ woken (number to) (message code u x (number to) m.system) less
    as_handed =
        ap
        (λ (v : Waits).
        let s' : System = record m.system { shared = record m.system.shared { waits = v } } in woken (number to) (message code u x (number to) m.system) s')
        (ap (λ (b : Bool). if b then received (number to) m.system.shared.waits else m.system.shared.waits) is)

    tree_is : (woken (number to) (message code u x (number to) m.system) less).shared.tree ≡ m.system.shared.tree
    tree_is = tree_woken (number to) (message code u x (number to) m.system) less

    pub handed_others : OthersStand u (handed (caller u to code) x m.system)
    handed_others =
        subst (λ (s : System). OthersStand u s) (sym as_handed) (λ t other live. each t other (ap (tree.lives t) (sym tree_is) ∙ live))

  -- ---- a son begins

  begins_quiet : (unit : Compiled) (store : Store) → IsQuiet (ending (starting unit store) 0)
  begins_quiet unit store = is_quiet (ending (starting unit store) 0) quiet
    where
      quiet : (q : Request) (w : World) → ending (starting unit store) 0 ≡ Asks q w → ⊥
      quiet q w e = let pays = (steady unit.core store.variables store.spaces).pays 0 q w e in omega (arith, pays)

  module _ (name : List ℕ) (unit : Compiled) where
    abbrev runs_it : Doing
    runs_it = Running (starting unit (heir (kept u m.system)))

    abbrev son : System
    son = begun name u (Running (starting unit (heir (kept u m.system)))) m.system

    pub son_others : OthersStand u (son_begins name u unit m.system)
    son_others t other live' = by (is_task t (next m.system)) refl
      where
        live : tree.lives t son.shared.tree ≡ true
        live = ap (tree.lives t) (sym (back_tree (next m.system) son)) ∙ live'

        by : (b : Bool) → is_task t (next m.system) ≡ b → Stands t (son_begins name u unit m.system)
        by true same =
            subst (λ (v : TaskNo). Stands v (son_begins name u unit m.system)) (sym (same_task t (next m.system) same))
            (back_stands (next m.system) son (record {
              command = starting unit (heir (kept u m.system));
              runs = son_doing name u (Running (starting unit (heir (kept u m.system)))) m.system sound;
              quiet = begins_quiet unit (heir (kept u m.system));
            }))
        by false apart =
            let before = lived_before t name u m.system apart live in
            let found = living t m.system.shared.tree.tasks before in
            let low = (numbered m.system.shared.tree t found.0 sound.tree found.1).given in
            beside_back t (next m.system) son apart
            (stands_on t m.system son
            (same_doing t m.system son (begun_others name u (Running (starting unit (heir (kept u m.system)))) m.system sound t low))
            refl (λ q h. h) (others t other before))

  -- ---- a caller is told that its message was taken, and waits for the answer

  module _ (k : ℕ) (c : Caller) (at : first_call u m.system.shared.waits ≡ Some k) (get : slice_get m.system.shared.waits.callers k ≡ Some c) where
    calls : CallsSo m.system c
    calls = all_at (CallsSo m.system) m.system.shared.waits.callers k c get order.right.callers

    abbrev fewer : Waits
    fewer = record m.system.shared.waits { callers = remove m.system.shared.waits.callers k }

    abbrev entered_then : System
    entered_then =
        record m.system {
          shared = record m.system.shared {
            waits = entered (record { task = c.from; of = Some u }) (record m.system.shared.waits { callers = remove m.system.shared.waits.callers k });
          };
        }

    abbrev told : System
    told = given c.from (plain replies.Taken) entered_then

    as_answering : answering u c m.system ≡ told
    as_answering =
        ap
        (λ (p : Option ℕ).
        let s' : System = record m.system {
          shared = record m.system.shared { waits = entered (record { task = c.from; of = Some u }) (waited_at p u m.system.shared.waits) };
        } in given c.from (plain replies.Taken) s')
        at

    passes : is_task c.to u ≡ true → waits_for_one c.from c.to.0 (record { task = c.from; of = Some u }) ≡ true
    passes is = ap (λ (b : Bool). b && is_task u (record { 0 = c.to.0 })) (itself c.from) ∙ ap (λ (x : TaskNo). is_task x c.to) (sym (same_task c.to u is)) ∙ itself c.to

    told_shared : told.shared ≡ entered_then.shared
    told_shared = shared_changed c.from (λ (o : Own). with_doing (replied (plain replies.Taken) o.doing) o) entered_then

    waits_then : is_task c.to u ≡ true → AsksSo c.from (Call c.to.0 c.code calls.0.space) m.system → Stands c.from told
    waits_then mine asks =
        let a = asks.now in
        let n : AsksNow c.from entered_then (Call c.to.0 c.code calls.0.space) = record {
          now = a.now;
          command = a.command;
          world = a.world;
          has = a.has;
          does = a.does;
          asks = a.asks;
        } in
        stands_asking c.from told (with_reply (plain replies.Taken) a.command) (requests.Answer c.to.0)
        (after_answer (Call c.to.0 c.code calls.0.space) (plain replies.Taken) [] a.world)
        (doing_given c.from (plain replies.Taken) entered_then (Call c.to.0 c.code calls.0.space) n)
        ((steady a.command.unit.core a.command.before.variables a.command.before.spaces).next (a.command.marks + 0) a.command.replies
        (Call c.to.0 c.code calls.0.space) a.world (plain replies.Taken) (requests.Answer c.to.0) a.asks refl)
        asks.spent
        (ap (λ (x : Shared). rotation.is_ready c.from x.ready) told_shared ∙ asks.out)
        (ap (λ (x : Shared). list_any (waits_for_one c.from c.to.0) x.waits.receivers) told_shared
        ∙ some_inserted (waits_for_one c.from c.to.0) m.system.shared.waits.receivers
        (position_or_len (is_after c.from) m.system.shared.waits.receivers) (record { task = c.from; of = Some u }) (passes mine))

    each_told : is_task c.to u ≡ true → (t : TaskNo) → is_task t u ≡ false → tree.lives t m.system.shared.tree ≡ true → Stands t told
    each_told mine t other live = by (is_task t c.from) refl
      where
        by : (b : Bool) → is_task t c.from ≡ b → Stands t told
        by true same =
            subst (λ (v : TaskNo). Stands v told) (sym (same_task t c.from same))
            (waits_then mine
            (asks_stands c.from m.system (Call c.to.0 c.code calls.0.space) calls.0.calls
            (subst (λ (v : TaskNo). Stands v m.system) (same_task t c.from same) (others t other live))))
        by false apart =
            beside_changed t c.from (λ (o : Own). with_doing (replied (plain replies.Taken) o.doing) o) entered_then apart
            (stands_on t m.system entered_then refl refl
            (λ q h.
            entries_entered t (record { task = c.from; of = Some u }) fewer q
            (entries_removed t k c m.system.shared.waits get (turned t c.from apart) q h))
            (others t other live))

    pub answering_others : is_task c.to u ≡ true → OthersStand u (answering u c m.system)
    answering_others mine =
        subst (λ (s : System). OthersStand u s) (sym as_answering)
        (λ t other live. each_told mine t other (ap (λ (x : Shared). tree.lives t x.tree) (sym told_shared) ∙ live))

  -- ---- each request

  module _ (c : Command) (w : World) (runs : doing u m.system ≡ Some (Running c)) (spent : w.marks ≡ 0) (out : rotation.is_ready u m.system.shared.ready ≡ false) where
    -- it waits for something, in a system in which the others stand as they should
    waits_so : (q : Request) (s : System) → ending c 0 ≡ Asks q w → doing u s ≡ Some (Running c) → rotation.is_ready u s.shared.ready ≡ false
        → IsAwaited q u s.shared.waits → OthersStand u s → AllStand s
    waits_so q s asks runs' out' awaited h = all_but u s h (stands_asking u s c q w runs' asks spent out' awaited)

    others_waits : (v : Waits) → ((t : TaskNo) → is_task t u ≡ false → Entries t m.system.shared.waits v)
        → OthersStand u (record m.system { shared = record m.system.shared { waits = v } })
    others_waits v on t other live =
        let s' : System = record m.system { shared = record m.system.shared { waits = v } } in
        stands_on t m.system s' refl refl (on t other) (others t other live)

    put_others : (bytes : List ℕ) (ends : Bool) (n : Option ℕ) → ending c 0 ≡ Asks (Out bytes ends) w → OthersServed u (put n bytes ends m)
    put_others bytes ends None asks = waits_so (Out bytes ends) m.system asks runs out tt others
    put_others bytes ends (Some n) asks = others

    input_others : (n : Option ℕ) → ending c 0 ≡ Asks Input w → OthersServed u (input n m)
    input_others None asks = waits_so Input m.system asks runs out tt others
    input_others (Some n) asks = by (channels.channel n m.system.shared.channels).queue
      where
        by : (queue : List (List ℕ)) → OthersServed u (line_taken queue n m)
        by [] = waits_so Input m.system asks runs out tt others
        by (line ∷ lines) = others

    begin_others : (name : List ℕ) (unit : Option Compiled) (stop : Option Stop) → OthersServed u (begin_with stop unit name u m)
    begin_others name unit (Some stop) = others
    begin_others name None None = others
    begin_others name (Some unit) None = son_others name unit

    uncoupled_others : (n : Option ℕ) → OthersStand u (uncouple_at n m).system
    uncoupled_others None = others
    uncoupled_others (Some n) = others

    send_others : (to : ℕ) (code : ℤ) (space : ℕ) → OthersServed u (serve u (Send to code space) m)
    send_others to code space = refused (space_refusal u space m.system)
      where
        offered_so : (b : Bool) → is_ready (number to) u m.system.shared.waits ≡ b
            → OthersServed u (sent (if b then offers.Taken else offers.NotReady) (caller u to code) (content u space m.system) m)
        offered_so true is = handed_others to code (content u space m.system) is
        offered_so false is = others

        living' : (b : Bool) → OthersServed u (send_living b (caller u to code) space m)
        living' false = others
        living' true = offered_so (is_ready (number to) u m.system.shared.waits) refl

        refused : (o : Option Stop) → OthersServed u (unless_stopped o (send_living (tree.lives (number to) m.system.shared.tree) (caller u to code) space m) m)
        refused (Some stop) = others
        refused None = living' (tree.lives (number to) m.system.shared.tree)

    abbrev call_queue : ℕ → ℤ → Waits
    call_queue to code = record m.system.shared.waits { callers = m.system.shared.waits.callers ++ caller u to code ∷ [] }

    abbrev wait_queue : Waits
    wait_queue = entered (record { task = u; of = None }) m.system.shared.waits

    call_others : (to : ℕ) (code : ℤ) (space : ℕ) → ending c 0 ≡ Asks (Call to code space) w → OthersServed u (serve u (Call to code space) m)
    call_others to code space asks = refused (call_refusal u space m.system)
      where
        mine : calls_so u to code (caller u to code) ≡ true
        mine =
            ap (λ (b : Bool). b && ((to == to) && int_eq code code)) (itself u)
            ∙ (ap (λ (b : Bool). b && int_eq code code) (eq-eqb to to refl) ∙ int_eq_equiv.refl code)

        queued : AllStand (record m.system { shared = record m.system.shared { waits = call_queue to code } })
        queued =
            let s' : System = record m.system { shared = record m.system.shared { waits = call_queue to code } } in
            waits_so (Call to code space) s' asks runs out (some_last (calls_so u to code) m.system.shared.waits.callers (caller u to code) mine)
            (others_waits (call_queue to code) (λ t other. entries_called t (caller u to code) m.system.shared.waits))

        offered_so : (b : Bool) → is_ready (number to) u m.system.shared.waits ≡ b
            → OthersServed u (sent (if b then offers.Taken else offers.Queued) (caller u to code) (content u space m.system) m)
        offered_so true is = handed_others to code (content u space m.system) is
        offered_so false is =
            subst (λ (v : Waits). let s' : System = record m.system { shared = record m.system.shared { waits = v } } in AllStand s')
            (sym (ap (λ (b : Bool). if b then received (number to) m.system.shared.waits else call_queue to code) is)) queued

        itself_so : (b : Bool) → OthersServed u (if b then Replies (plain (replies.Receipt (negsuc 1))) m else send_to true (caller u to code) space m)
        itself_so true = others
        itself_so false = offered_so (is_ready (number to) u m.system.shared.waits) refl

        living' : (b : Bool) → OthersServed u (call_living b (caller u to code) space m)
        living' false = others
        living' true = itself_so (is_task (number to) u)

        refused : (o : Option Stop) → OthersServed u (unless_stopped o (call_living (tree.lives (number to) m.system.shared.tree) (caller u to code) space m) m)
        refused (Some stop) = others
        refused None = living' (tree.lives (number to) m.system.shared.tree)

    wait_others : ending c 0 ≡ Asks Wait w → OthersServed u (serve u Wait m)
    wait_others asks = refused (room_refusal (heads_of (kept u m.system).spaces))
      where
        mine : waits_for_any u (record { task = u; of = None }) ≡ true
        mine = ap (λ (b : Bool). b && true) (itself u)

        queued : AllStand (record m.system { shared = record m.system.shared { waits = wait_queue } })
        queued =
            let s' : System = record m.system { shared = record m.system.shared { waits = wait_queue } } in
            waits_so Wait s' asks runs out
            (some_inserted (waits_for_any u) m.system.shared.waits.receivers (position_or_len (is_after u) m.system.shared.waits.receivers)
            (record { task = u; of = None }) mine)
            (others_waits wait_queue (λ t other. entries_entered t (record { task = u; of = None }) m.system.shared.waits))

        takes : FirstPlace (λ (x : Caller). is_task x.to u) m.system.shared.waits.callers
            → OthersServed u (call_taken (first_caller u m.system.shared.waits) u m)
        takes (at_none none) =
            subst (λ (p : Option ℕ). OthersServed u (call_taken (caller_at p m.system.shared.waits.callers) u m)) (sym none)
            (subst (λ (p : Option ℕ). let s' : System = record m.system { shared = record m.system.shared { waits = waited_at p u m.system.shared.waits } } in AllStand s')
            (sym none) queued)
        takes (at_one k x at get passes) =
            subst (λ (o : Option Caller). OthersServed u (call_taken o u m))
            (sym (ap (λ (p : Option ℕ). caller_at p m.system.shared.waits.callers) at ∙ get))
            (answering_others k x at get passes)

        refused : (o : Option Stop) → OthersServed u (unless_stopped o (call_taken (first_caller u m.system.shared.waits) u m) m)
        refused (Some stop) = others
        refused None = takes (first_place (λ (x : Caller). is_task x.to u) m.system.shared.waits.callers)

    answer_others : (of : ℕ) → ending c 0 ≡ Asks (requests.Answer of) w → AllStand (awaits u of m.system)
    answer_others of asks =
        waits_so (requests.Answer of) (awaits u of m.system) asks runs out
        (some_inserted (waits_for_one u of) m.system.shared.waits.receivers (position_or_len (is_after u) m.system.shared.waits.receivers)
        (record { task = u; of = Some (number of) }) mine)
        (others_waits (entered (record { task = u; of = Some (number of) }) m.system.shared.waits)
        (λ t other. entries_entered t (record { task = u; of = Some (number of) }) m.system.shared.waits))
      where
        mine : waits_for_one u of (record { task = u; of = Some (number of) }) ≡ true
        mine = ap (λ (b : Bool). b && is_task (number of) (record { 0 = of })) (itself u) ∙ itself (number of)

    -- all but that for an end
    pub serve_others : (q : Request) → ending c 0 ≡ Asks q w → ((of : Option ℕ) → q ≡ End of → OthersServed u (serve u (End of) m)) → OthersServed u (serve u q m)
    serve_others (Out bytes ends) asks end = put_others bytes ends (channels.channel_of u m.system.shared.channels) asks
    serve_others Input asks end = input_others (channels.channel_of u m.system.shared.channels) asks
    serve_others (Begin name start) asks end =
        begin_others name (started_at m.system.shared.library (packets u m.system) start) (begin_refusal name m.system)
    serve_others Myself asks end = others
    serve_others (Father of) asks end = others
    serve_others (Son of) asks end = others
    serve_others (Brother of) asks end = others
    serve_others (Named name) asks end = others
    serve_others (Name of) asks end = others
    serve_others (Exists of) asks end = others
    serve_others (End of) asks end = end of refl
    serve_others Break asks end = uncoupled_others (channels.channel_of u m.system.shared.channels)
    serve_others (Send to code space) asks end = send_others to code space
    serve_others Wait asks end = wait_others asks
    serve_others (Call to code space) asks end = call_others to code space asks
    serve_others (requests.Answer of) asks end = answer_others of asks
