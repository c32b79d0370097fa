-- The exit codes.
use Rattle.std.specs.Prelude.{ℕ}
use Rattle.line_command.specs.declared.status.Status.{Status}
use Rattle.line_command.specs.declared.status.Status.TheVariants.{Done, BadWords, NoMemory, SourceFault, SinkFault, DiskFault, Foreign, BadLine, SessionFull}

abbrev pub code_of_status : Status → ℕ
code_of_status Done = 0
code_of_status BadWords = 1
code_of_status NoMemory = 2
code_of_status SourceFault = 3
code_of_status SinkFault = 4
code_of_status DiskFault = 5
code_of_status Foreign = 6
code_of_status (BadLine n) = 7
code_of_status SessionFull = 8
