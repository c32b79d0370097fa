-- A fault that is handed on has its cause.
use Rattle.std.proofs.Common.{◌≡◌, ℕ, ◌≤◌, Bool, List, Option, Some, None, Result, Ok, Err, refl, arith}
use Rattle.std.specs.Prelude.{IfOk, IfErr, IfSome}
use Rattle.eu_base.specs.Faults.{Rose}
use Rattle.session_lines.specs.declared.ending.Ending.{Ending}
use Rattle.eumel_top.specs.declared.error.PlayError.{PlayError}
use Rattle.eumel_top.specs.declared.error.PlayError.TheVariants.{NoMemory, SourceFault, SinkFault}
use Rattle.eumel_top.specs.declared.fault.LineFault.{LineFault}
use Rattle.eumel_top.specs.declared.fault.LineFault.TheVariants as fault
use Rattle.eumel_top.specs.Causes.{HasCause, HasLineCause}
use Rattle.eumel_top.specs.Midway.{end_by}
use Rattle.eumel_top.specs.SessionPlay.{PlayEnds, PlaySettles}

pub rose_before : (before mid now : ℕ) → before ≤ mid → Rose mid now → Rose before now
rose_before before mid now le rose = omega (arith, le, rose)

-- what rose later has risen
caused : (source sink source' sink' : Type 0) (error : PlayError) → (source → source') → (sink → sink') → HasCause source sink error → HasCause source' sink' error
caused source sink source' sink' NoMemory more grows cause = tt
caused source sink source' sink' SourceFault more grows cause = more cause
caused source sink source' sink' SinkFault more grows cause = grows cause

pub caused_in : {T : Type 0} (result : Result T PlayError) (source sink source' sink' : Type 0) → (source → source') → (sink → sink')
    → IfErr result (HasCause source sink) → IfErr result (HasCause source' sink')
caused_in (Ok value) source sink source' sink' more grows cause = tt
caused_in (Err error) source sink source' sink' more grows cause = caused source sink source' sink' error more grows cause

pub caused_where : {T : Type 0} (result : Option (Result T PlayError)) (source sink source' sink' : Type 0) → (source → source') → (sink → sink')
    → IfSome result (λ end. IfErr end (HasCause source sink)) → IfSome result (λ end. IfErr end (HasCause source' sink'))
caused_where None source sink source' sink' more grows cause = tt
caused_where (Some end) source sink source' sink' more grows cause = caused_in end source sink source' sink' more grows cause

pub end_caused : (fault : LineFault) (no_form sink : Type 0) → HasLineCause no_form sink fault → IfErr (end_by fault) (HasCause ⊥ sink)
end_caused (fault.BadLine number) no_form sink cause = tt
end_caused fault.SinkFault no_form sink cause = cause
end_caused fault.NoMemory no_form sink cause = tt

-- where nothing rose, memory was wanting
only_memory : (source sink : Type 0) (error : PlayError) → HasCause source sink error → (source → ⊥) → (sink → ⊥) → error ≡ NoMemory
only_memory source sink NoMemory cause no_source no_sink = refl
only_memory source sink SourceFault cause no_source no_sink = absurd (no_source cause)
only_memory source sink SinkFault cause no_source no_sink = absurd (no_sink cause)

pub settles : (plain : Bool) (left taken taken' : Option (List ℕ)) (source sink : Type 0) (result : Result Ending PlayError) → IfOk result (PlayEnds plain left taken taken')
    → IfErr result (HasCause source sink) → (source → ⊥) → (sink → ⊥) → PlaySettles plain left result
settles plain left taken taken' source sink (Ok ending) is cause no_source no_sink = (is.0, is.1, is.2.0)
settles plain left taken taken' source sink (Err error) is cause no_source no_sink = only_memory source sink error cause no_source no_sink
