use Rattle.text_heap.proofs.Zeros.{zeros_hold}
use Rattle.text_heap.proofs.law.zeros_hold_empty_texts.Goals as goal

pub returns : goal.returns
returns c = λ content texts zero none. zeros_hold content zero texts none
