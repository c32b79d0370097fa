-- Events, as they are told apart.
use Rattle.std.proofs.Common.{◌≡◌, ℕ, ◌≤◌, Bool, false, List, ◌++◌, length, append_assoc, sym, subst}
use Rattle.task_numbers.specs.declared.limits.TheConstants.{LONGEST_LINE}
use Rattle.task_numbers.specs.declared.number.TaskNo.{TaskNo}
use Rattle.system.specs.Below.elan_scope.specs.declared.env.Env.{Env}
use Rattle.session_text.specs.declared.events.Event.{Event}
use Rattle.system.specs.Below.terminals.specs.Channels as channels
use Rattle.system.specs.Below.system_meaning.specs.Systems.{System, Moment}
use Rattle.system.specs.Below.system_meaning.specs.Monitor.{Reading, taken}
use Rattle.system.specs.Below.system_meaning.specs.Events.{line_for, line_at, happens, whole, after}
use Rattle.system.specs.Below.live_system.specs.Machines.{Machine, StandsAt}
use Rattle.system.specs.Systems.{Stands, StandsFor, IsShort}

module _ (read : Env → Bool → List ℕ → Reading) (new : Machine) where
  -- no moment is left open behind an event
  pub stands_after : (s : System) (e : Event) → Stands new (whole read s e) → StandsFor new (after read s e)
  unfolding StandsFor
  stands_after s e h = ((whole read s e).display, h)

  -- an event is the one that it was told to be
  pub happens_so : (e f : Event) (m : Moment) → e ≡ f → (IsShort f → StandsAt new (happens read f m)) → IsShort e → StandsAt new (happens read e m)
  happens_so e f m is h short = subst (λ e. StandsAt new (happens read e m)) (sym is) (h (subst (λ e. IsShort e) is short))

  -- and so is a line
  pub line_so : (c : ℕ) (line text : List ℕ) (m : Moment) → line ≡ text
      → (length line ≤ LONGEST_LINE → StandsAt new (line_at read (channels.channel c m.system.shared.channels).task c line m))
      → length text ≤ LONGEST_LINE → StandsAt new (line_at read (channels.channel c m.system.shared.channels).task c text m)
  line_so c line text m is h short =
      subst (λ line. StandsAt new (line_at read (channels.channel c m.system.shared.channels).task c line m)) is
      (h (subst (λ line. length line ≤ LONGEST_LINE) (sym is) short))

  -- a task that does not run takes a line
  pub taken_so : (c : ℕ) (t : TaskNo) (line text : List ℕ) (running : Bool) (m : Moment) → line ≡ text → false ≡ running
      → StandsAt new (taken read t line m) → StandsAt new (line_for read running c t text m)
  taken_so c t line text running m is rests h =
      subst (λ running. StandsAt new (line_for read running c t text m)) rests (subst (λ line. StandsAt new (taken read t line m)) is h)

-- what is shown, in two pieces
pub joined : (a b c x p y : List ℕ) → x ≡ a ++ b → y ≡ x ++ p → p ≡ c → y ≡ a ++ (b ++ c)
joined a b c x p y first second same = let regrouped = append_assoc a b c in cc
