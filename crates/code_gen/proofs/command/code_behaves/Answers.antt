use Rattle.code_gen.proofs.Coding.{code_behaves}
use Rattle.code_gen.proofs.command.code_behaves.Goals as goal

pub returns : goal.returns
returns c = λ core p i. code_behaves core p i
