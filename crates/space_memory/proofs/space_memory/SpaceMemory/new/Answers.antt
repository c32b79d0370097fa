use Rattle.std.proofs.Common.{ap}
use Rattle.space_memory.specs.Live.{LiveData}
use Rattle.space_memory.proofs.Fresh.{new_held}
use Rattle.space_memory.proofs.space_memory.SpaceMemory.new.Goals as goal

pub returns-clause-nothing : goal.returns-clause-nothing
returns-clause-nothing c = λ pages known.
    new_held pages _ c.nil.ensures c.nil-2.ensures (ap (λ (live : LiveData). live.spaces) c.new.ensures) known
