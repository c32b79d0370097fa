-- A value with "" in the place of each text. It has room wherever it is put.
use Rattle.std.specs.Prelude.{[], map}
use Rattle.eu_base.specs.declared.value.Value.{Value}
use Rattle.eu_base.specs.declared.value.Value.TheVariants.{Int, Truth, Text, Task, Space}
use Rattle.code_form.specs.declared.operand.Operand.{Operand}
use Rattle.code_form.specs.declared.operand.Operand.TheVariants.{Value as Of, Place as At, Aggregate}

abbrev pub emptied : Value → Value
emptied (Int z) = Int z
emptied (Truth b) = Truth b
emptied (Text t) = Text []
emptied (Task n) = Task n
emptied (Space s) = Space s

abbrev pub emptied_operand : Operand → Operand
emptied_operand (Of v) = Of (emptied v)
emptied_operand (At a) = At a
emptied_operand (Aggregate vs) = Aggregate (map emptied vs)
