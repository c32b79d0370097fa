-- How what a call answers agrees with what its operation gives.
use Rattle.std.specs.Prelude.{◌≡◌, Bool, true, false, Result, Ok, Err, ℤ}
use Rattle.eu_base.specs.declared.operation.Operation.{Operation}
use Rattle.eu_base.specs.declared.operation.Operation.TheVariants.{OnTexts}
use Rattle.eu_base.specs.declared.stop.Stop.{Stop}
use Rattle.eu_base.specs.declared.stop.Stop.TheVariants as stops
use Rattle.eu_base.specs.declared.value.Value.{Value}
use Rattle.eu_base.specs.declared.value.Value.TheVariants.{Int}
use Rattle.eu_base.specs.Operations.{Given}
use Rattle.zero_ops.specs.declared.error.Fault.{Fault}
use Rattle.zero_ops.specs.declared.error.Fault.TheVariants.{Overflow, Division, TextLong, BadCode}
use Rattle.zero_ops.specs.declared.error.OpError.{OpError}
use Rattle.zero_ops.specs.declared.error.OpError.TheVariants.{NoMemory, Stop as Stops}

-- why the program stops
abbrev pub stop_of : Fault → Stop
stop_of Overflow = stops.Overflow
stop_of Division = stops.Division
stop_of TextLong = stops.TextLong
stop_of BadCode = stops.BadCode

-- what is given where memory is not asked for
abbrev pub given_of : Result Value Fault → Given
given_of (Ok value) = Ok value
given_of (Err fault) = Err (stop_of fault)

-- the same of a number
abbrev pub given_number : Result ℤ Fault → Given
given_number (Ok number) = Ok (Int number)
given_number (Err fault) = Err (stop_of fault)

-- an error has its cause: the operation stops so, or memory is wanted
abbrev pub HasCause : OpError → Given → Type 0
HasCause NoMemory given = Unit {0}
HasCause (Stops fault) given = given ≡ Err (stop_of fault)

-- the answer is what the operation gives
abbrev pub Gives : Result Value OpError → Given → Type 0
Gives (Ok value) given = given ≡ Ok value
Gives (Err error) given = HasCause error given

-- an operation takes a text, or gives one
abbrev pub has_texts : Operation → Bool
has_texts (OnTexts operation) = true
has_texts _ = false
