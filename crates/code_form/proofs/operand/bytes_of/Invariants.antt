use Rattle.std.proofs.Common.{◌≡◌, ◌-◌, ◌^◌, min, take}
use Rattle.eu_base.specs.Room.{values_bytes}
use Rattle.code_form.proofs.operand.bytes_of.Given as goal

-- the bytes of the values so far
abbrev pub invariant-loop-value : goal.invariant-loop-value
invariant-loop-value l = l.bytes ≡ min (values_bytes (take l.value-index l.values)) (2 ^ 64 - 1)
