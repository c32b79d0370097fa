use Rattle.code_form.proofs.Resume.{resumed, replied, one_rest}
use Rattle.code_form.proofs.Safe.{stays_fit}
use Rattle.zero_machine.proofs.machine.laws.Goals as goal

pub returns : goal.returns
returns c = record { resumes = resumed; replies = replied; one = one_rest; fits = stays_fit }
