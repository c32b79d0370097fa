-- All that is a task's own.
use Rattle.std.specs.Prelude.{ℕ, List, Option, option_map}
use Rattle.turn_laws.specs.Below.task_numbers.specs.declared.number.TaskNo.{TaskNo}
use Rattle.turn_laws.specs.Below.elan_scope.specs.declared.env.Env.{Env}
use Rattle.turn_laws.specs.Below.task_tree.specs.Tree as tree
use Rattle.turn_laws.specs.Below.units.specs.Library.{Library, env_of}
use Rattle.system_meaning.specs.Tasks.{Own}
use Rattle.system_meaning.specs.Systems.{System, own}

-- its name; its packets with what they mean; and what it does, with what it keeps: the values of the variables of its packets, its data
-- spaces, the last number that one of them got, and their names
pub record Whole : Type 0 where
  pub name : List ℕ
  pub own : Own
  pub env : Env

abbrev pub whole : List ℕ → Library → Own → Whole
whole name library o = record { name = name; own = o; env = env_of library o.packets }

-- where it lives
abbrev pub own_of : TaskNo → System → Option Whole
own_of t s = option_map (whole (tree.name t s.shared.tree) s.shared.library) (own t s)
