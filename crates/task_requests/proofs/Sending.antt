-- How messages are served, case by case.
use Rattle.std.proofs.Common.{◌≡◌, ◌≢◌, ℕ, ℤ, negsuc, Bool, true, false, List, [], ◌∷◌, Option, Some, None, refl, sym, ap, ◌∙◌, subst}
use Rattle.std.specs.Prelude.{if◌then◌else◌}
use Rattle.task_numbers.specs.declared.number.TaskNo.{TaskNo}
use Rattle.task_numbers.specs.Numbers.{is_task}
use Rattle.eu_base.specs.declared.stop.Stop.{Stop}
use Rattle.eu_base.specs.declared.stop.Stop.TheVariants.{NoSpace}
use Rattle.eu_base.specs.declared.request.Request.{Request}
use Rattle.eu_base.specs.declared.request.Request.TheVariants.{Send, Wait, Call}
use Rattle.eu_base.specs.declared.request.Reply.{Reply}
use Rattle.eu_base.specs.declared.request.Reply.TheVariants as replies
use Rattle.eu_base.specs.declared.request.Reply.TheVariants.{Stopped, Receipt}
use Rattle.eu_base.specs.Requests.{Answer, plain, sent_by}
use Rattle.eu_base.specs.DataSpaces.{Forgets, heads_of, is_live, without_space}
use Rattle.eu_base.specs.SpaceOperations.{room_refusal}
use Rattle.task_requests.specs.Below.message_wait.specs.declared.waits.Caller.{Caller}
use Rattle.task_requests.specs.Below.message_wait.specs.declared.waits.Offer.{Offer}
use Rattle.task_requests.specs.Below.message_wait.specs.declared.waits.Offer.TheVariants.{Taken}
use Rattle.task_requests.specs.Below.message_wait.specs.Rendezvous as rendezvous
use Rattle.task_requests.specs.Below.task_tree.specs.Tree as tree
use Rattle.task_requests.specs.Below.system_meaning.specs.Systems.{System, Moment, kept, requested, given, woken, on_system, on_waits, back}
use Rattle.task_requests.specs.Below.system_meaning.specs.Serving.{Served, Replies, Rests, replies_with, receipt, number, caller, content, message, space_number, sent, handed, send_living, call_living, unless_stopped, call_taken, serve}
use Rattle.live_system.specs.Machines.{Machine, StandsAt}
use Rattle.task_requests.specs.Served.{IsAsking, ServedAs, GoesAs}
use Rattle.task_requests.proofs.Waiting.{IsForMessage, Takes, ready_takes, taken_ready, differs, offer_taken}
use Rattle.task_requests.proofs.Handing.{handed_same}

-- ---- a reply that is no message

pub replied_so : (middle new : Machine) (t : TaskNo) (x : Served) (reply : Reply) → ServedAs x middle (Some reply)
    → ((m : Moment) → StandsAt middle m → StandsAt new (on_system (given t (plain reply)) m)) → GoesAs t x new true
replied_so middle new t (Replies a m) reply h f =
    let same : plain reply ≡ a = cc h.0 in (refl, subst (λ (b : Answer). StandsAt new (on_system (given t b) m)) same (f m h.1))
replied_so middle new t (Rests m) reply h f = absurd (cc h.0)

pub rests_so : (new : Machine) (t : TaskNo) (x : Served) → ServedAs x new None → GoesAs t x new false
rests_so new t (Replies a m) h = absurd (cc h.0)
rests_so new t (Rests m) h = (refl, h.1)

-- ---- what is served

module _ (t to : TaskNo) (code : ℤ) (space : ℕ) (m : Moment) where
  abbrev alive : Bool
  alive = tree.lives to m.system.shared.tree

  abbrev there : Bool
  there = is_live (space_number space) (kept t m.system).spaces

  abbrev room : Option Stop
  room = room_refusal (heads_of (without_space (space_number space) (kept t m.system).spaces))

  abbrev from : Caller
  from = caller t to.0 code

  abbrev offered : Bool → Offer
  offered queue = rendezvous.offer t to queue m.system.shared.waits

  -- by send
  pub send_nothing : there ≡ false → serve t (Send to.0 code space) m ≡ replies_with (Stopped NoSpace) m
  send_nothing e = ap (λ (b : Bool). unless_stopped (if b then None else Some NoSpace) (send_living alive from space m) m) e

  sends : there ≡ true → serve t (Send to.0 code space) m ≡ send_living alive from space m
  sends e = ap (λ (b : Bool). unless_stopped (if b then None else Some NoSpace) (send_living alive from space m) m) e

  pub send_to_none : there ≡ true → alive ≡ false → serve t (Send to.0 code space) m ≡ receipt (negsuc 0) m
  send_to_none e live = sends e ∙ ap (λ (b : Bool). send_living b from space m) live

  pub send_offered : there ≡ true → alive ≡ true → (o : Offer) → o ≡ offered false
      → serve t (Send to.0 code space) m ≡ sent o from (content t space m.system) m
  send_offered e live o is =
      sends e ∙ ap (λ (b : Bool). send_living b from space m) live ∙ ap (λ (p : Offer). sent p from (content t space m.system) m) (sym is)

  -- by call
  pub call_nothing : there ≡ false → serve t (Call to.0 code space) m ≡ replies_with (Stopped NoSpace) m
  call_nothing e = ap (λ (b : Bool). unless_stopped (if b then room else Some NoSpace) (call_living alive from space m) m) e

  calls : there ≡ true → serve t (Call to.0 code space) m ≡ unless_stopped room (call_living alive from space m) m
  calls e = ap (λ (b : Bool). unless_stopped (if b then room else Some NoSpace) (call_living alive from space m) m) e

  pub call_stopped : there ≡ true → (stop : Stop) → Some stop ≡ room → serve t (Call to.0 code space) m ≡ replies_with (Stopped stop) m
  call_stopped e stop is = calls e ∙ ap (λ (o : Option Stop). unless_stopped o (call_living alive from space m) m) (sym is)

  pub calls_one : there ≡ true → None ≡ room → serve t (Call to.0 code space) m ≡ call_living alive from space m
  calls_one e is = calls e ∙ ap (λ (o : Option Stop). unless_stopped o (call_living alive from space m) m) (sym is)

  pub call_none : alive ≡ false → call_living alive from space m ≡ receipt (negsuc 0) m
  call_none live = ap (λ (b : Bool). call_living b from space m) live

  living : alive ≡ true
      → call_living alive from space m ≡ (if is_task to t then receipt (negsuc 1) m else sent (offered true) from (content t space m.system) m)
  living live = ap (λ (b : Bool). call_living b from space m) live

  pub call_itself : alive ≡ true → is_task to t ≡ true → call_living alive from space m ≡ receipt (negsuc 1) m
  call_itself live same =
      living live ∙ ap (λ (b : Bool). if b then receipt (negsuc 1) m else sent (offered true) from (content t space m.system) m) same

  pub call_offered : alive ≡ true → is_task to t ≡ false → (o : Offer) → o ≡ offered true
      → call_living alive from space m ≡ sent o from (content t space m.system) m
  call_offered live other o is =
      living live ∙ ap (λ (b : Bool). if b then receipt (negsuc 1) m else sent (offered true) from (content t space m.system) m) other
      ∙ ap (λ (p : Offer). sent p from (content t space m.system) m) (sym is)

  -- it is taken: both are answered
  module _ (middle new : Machine) (goes queue : Bool) (request : Request) (asks : IsAsking t request m.system) (other : IsForMessage request → ⊥)
      (sends_it : sent_by request ≡ Forgets (space_number space) ∷ []) (is_there : there ≡ true) (taken : Taken ≡ offered queue)
      (k : ℤ) (same : k ≡ code) (stands : StandsAt middle (on_system (on_waits (rendezvous.offered (caller t to.0 k) queue)) m)) where
    takes : Takes to m.system
    takes = ready_takes to t m.system asks.waits (taken_ready t to queue m.system.shared.waits taken)

    pub taken_so : ((n : Moment) (request asked : Request) → t.0 ≢ to.0 → requested t n.system ≡ Some request
        → sent_by request ≡ Forgets (space_number space) ∷ [] → is_live (space_number space) (kept t n.system).spaces ≡ true
        → requested to n.system ≡ Some asked → room_refusal (heads_of (kept to n.system).spaces) ≡ None → StandsAt middle n
        → (goes ≡ true) × StandsAt new (on_system (given t (plain replies.Taken))
        (on_system (woken to (message k t (content t space n.system) to n.system)) n)))
        → GoesAs t (sent Taken from (content t space m.system) m) new goes
    taken_so f =
        subst (λ (j : ℤ). GoesAs t (sent Taken (caller t to.0 j) (content t space m.system) m) new goes) same
        (f (on_system (on_waits (rendezvous.offered (caller t to.0 k) false)) m) request takes.asked (differs t to m.system request asks.asks other takes) asks.asks
        sends_it is_there takes.asks takes.room (offer_taken middle (caller t to.0 k) queue m taken stands))

-- the answers of both, in the order in which they are given
pub handed_moment : (t u : TaskNo) (a b : Answer) (m : Moment) → t.0 ≢ u.0
    → on_system (back u) (on_system (given u b) (on_system (given t a) m)) ≡ on_system (given t a) (on_system (woken u b) m)
handed_moment t u a b m other = ap (λ (s : System). record m { system = s }) (handed_same t u a b m.system other)

-- ---- by wait

module _ (t : TaskNo) (m : Moment) where
  abbrev no_room : Option Stop
  no_room = room_refusal (heads_of (kept t m.system).spaces)

  pub wait_stopped : (stop : Stop) → Some stop ≡ no_room → serve t Wait m ≡ replies_with (Stopped stop) m
  wait_stopped stop is =
      ap (λ (o : Option Stop). unless_stopped o (call_taken (rendezvous.first_caller t m.system.shared.waits) t m) m) (sym is)

  pub waits_so : None ≡ no_room → serve t Wait m ≡ call_taken (rendezvous.first_caller t m.system.shared.waits) t m
  waits_so is = ap (λ (o : Option Stop). unless_stopped o (call_taken (rendezvous.first_caller t m.system.shared.waits) t m) m) (sym is)
