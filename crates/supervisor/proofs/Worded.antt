-- The command of a line.
use Rattle.std.proofs.Common.{◌≡◌, ℕ, Bool, List, Option, Some, None, sym, subst}
use Rattle.task_numbers.specs.declared.number.TaskNo.{TaskNo}
use Rattle.elan_tree.specs.declared.token.Word.{Word}
use Rattle.supervisor.specs.Below.elan_scope.specs.declared.env.Env.{Env}
use Rattle.monitor.specs.declared.commands.Command.{Command}
use Rattle.supervisor.specs.Below.system_meaning.specs.Systems.{Moment}
use Rattle.supervisor.specs.Below.system_meaning.specs.Monitor.{Reading}
use Rattle.task_tree.specs.Tree as tree
use Rattle.supervisor.specs.Below.system_meaning.specs.Supervisor.{supervised, worded, begin_under, continued, coupling_refusal, unless}
use Rattle.supervisor.specs.Below.live_system.specs.Machines.{Machine, StandsAt}
use Rattle.supervisor.specs.Lines.{command_in}

-- a line is served as its command is
pub worded_so : (read : Env → Bool → List ℕ → Reading) (new : Machine) (ws : Option (List Word)) (k : Command) (c : ℕ) (m : Moment) → k ≡ command_in ws
    → StandsAt new (supervised read k c m) → StandsAt new (worded read ws c m)
worded_so read new None k c m is h = subst (λ k. StandsAt new (supervised read k c m)) is h
worded_so read new (Some ws) k c m is h = subst (λ k. StandsAt new (supervised read k c m)) is h

pub served : (read : Env → Bool → List ℕ → Reading) (new : Machine) (j k : Command) (c : ℕ) (m : Moment) → j ≡ k
    → StandsAt new (supervised read k c m) → StandsAt new (supervised read j c m)
served read new j k c m is h = subst (λ i. StandsAt new (supervised read i c m)) (sym is) h

-- names, as they stand in the command

pub begin_served : (new : Machine) (n o f g : List ℕ) (c : ℕ) (m : Moment) → n ≡ o → f ≡ g
    → StandsAt new (begin_under c n (tree.named f m.system.shared.tree) m) → StandsAt new (begin_under c o (tree.named g m.system.shared.tree) m)
begin_served new n o f g c m same father h =
    subst (λ x. StandsAt new (begin_under c o (tree.named x m.system.shared.tree) m)) father
    (subst (λ x. StandsAt new (begin_under c x (tree.named f m.system.shared.tree) m)) same h)

abbrev pub continued_named : List ℕ → ℕ → Moment → Moment
continued_named n c m = by (tree.named n m.system.shared.tree)
  where
    by : TaskNo → Moment
    by t = unless (coupling_refusal t m.system) c (continued c t) m

pub continue_served : (new : Machine) (n o : List ℕ) (c : ℕ) (m : Moment) → n ≡ o → StandsAt new (continued_named n c m)
    → StandsAt new (continued_named o c m)
continue_served new n o c m same h = subst (λ x. StandsAt new (continued_named x c m)) same h
