-- The commands of lines.
use Rattle.std.specs.Prelude.{List, Option, Some, None}
use Rattle.elan_tree.specs.declared.token.Word.{Word}
use Rattle.monitor.specs.Commands.{command_of}
use Rattle.monitor.specs.declared.commands.Command.{Command}
use Rattle.monitor.specs.declared.commands.Command.TheVariants.{Unknown}

-- the command of a line with these words; where it has none, or too many, it is unknown
abbrev pub command_in : Option (List Word) → Command
command_in None = Unknown
command_in (Some words) = command_of words
