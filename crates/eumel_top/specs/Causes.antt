-- Which faults have a cause.
use Rattle.eumel_top.specs.declared.error.PlayError.{PlayError}
use Rattle.eumel_top.specs.declared.error.PlayError.TheVariants as play
use Rattle.eumel_top.specs.declared.fault.LineFault.{LineFault}
use Rattle.eumel_top.specs.declared.fault.LineFault.TheVariants as line

-- an error that speaks of a fault comes only where the object's faults rose
abbrev pub HasCause : (source sink : Type 0) → PlayError → Type 0
HasCause source sink play.NoMemory = Unit {0}
HasCause source sink play.SourceFault = source
HasCause source sink play.SinkFault = sink

-- the same of a line, which is called one of no form only where it is
abbrev pub HasLineCause : (no_form sink : Type 0) → LineFault → Type 0
HasLineCause no_form sink line.NoMemory = Unit {0}
HasLineCause no_form sink (line.BadLine number) = no_form
HasLineCause no_form sink line.SinkFault = sink
