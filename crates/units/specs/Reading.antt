-- What a text is, read behind packets as a packet or as a program.
use Rattle.units.specs.declared.error.Refusal.{Refusal}
use Rattle.units.specs.declared.unit.Compiled.{Compiled}

-- it is this unit, or it is refused so
pub data Reading : Type 0 where
  Compiles : Compiled → Reading
  Refuses : Refusal → Reading
