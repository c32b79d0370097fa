use Rattle.code_gen.proofs.Coding.{one_code}
use Rattle.code_gen.proofs.command.one_code.Goals as goal

pub returns : goal.returns
returns c = λ core p q i j. one_code c.one_left.ensures core p q i j
