use Rattle.std.proofs.Common.{ℕ, arith}
use Rattle.std.proofs.lemmas.List.{length-map}
use Rattle.live_tasks.specs.Below.data_space.specs.Data.{SpaceData}
use Rattle.live_tasks.proofs.texts.has_few.Goals as goal

pub returns : goal.returns
returns c = omega (arith, c.count-few.ensures.count, c.count-few.ensures.few, length-map c.args.memory.now.spaces (λ (s : ℕ × SpaceData). s.1.root))
