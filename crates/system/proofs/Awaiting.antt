-- A task that waits for a line.
use Rattle.std.proofs.Common.{◌≡◌, ℕ, true, false, Option, Some, None, subst}
use Rattle.task_numbers.specs.declared.number.TaskNo.{TaskNo}
use Rattle.eu_base.specs.declared.request.Request.{Request}
use Rattle.eu_base.specs.declared.request.Request.TheVariants.{Input}
use Rattle.eu_base.specs.declared.request.Reply.{Reply}
use Rattle.eu_base.specs.Requests.{Answer, plain}
use Rattle.system.specs.Below.system_meaning.specs.Systems.{Moment, woken, on_system}
use Rattle.system.specs.Below.system_meaning.specs.Serving.{Served, Replies, Rests, input}
use Rattle.system.specs.Below.system_meaning.specs.Events.{answered, awaited}
use Rattle.system.specs.Below.live_system.specs.What.{is_input}
use Rattle.system.specs.Below.live_system.specs.Machines.{Machine, StandsAt}
use Rattle.task_requests.specs.Served.{ServedAs}

module _ (new : Machine) (t : TaskNo) where
  -- it gets the line
  pub answered_so : (middle : Machine) (served : Served) (reply : Reply) → ServedAs served middle (Some reply)
      → ((m : Moment) → StandsAt middle m → StandsAt new (on_system (woken t (plain reply)) m)) → StandsAt new (answered served t)
  answered_so middle (Replies a m) reply h f =
      let same : plain reply ≡ a = cc h.0 in
      subst (λ (b : Answer). StandsAt new (on_system (woken t b) m)) same (f m h.1)
  answered_so middle (Rests m) reply h f = absurd (cc h.0)

  pub unanswered : (served : Served) → ServedAs served new None → StandsAt new (answered served t)
  unanswered (Replies a m) h = absurd (cc h.0)
  unanswered (Rests m) h = h.1

  -- it waits for one, or does not
  pub awaited_so : (c : ℕ) (q : Option Request) (m : Moment) → true ≡ is_input q → StandsAt new (answered (input (Some c) m) t)
      → StandsAt new (awaited q c t m)
  awaited_so c (Some Input) m e h = h
  awaited_so c _ m e h = absurd (cc e)

  pub not_awaited : (c : ℕ) (q : Option Request) (m : Moment) → false ≡ is_input q → StandsAt new m → StandsAt new (awaited q c t m)
  not_awaited c (Some Input) m e h = absurd (cc e)
  not_awaited c _ m e h = h
