-- What is known where a call answers.
use Rattle.std.proofs.Common.{Result, Ok, Err, OnOk}

pub on_ok : {A E P Q : Type 0} (r : Result A E) → OnOk r P → (P → Q) → OnOk r Q
on_ok (Ok a) h f = f h
on_ok (Err e) h f = tt
