-- A fault that is handed on has the cause that it had.
use Rattle.std.proofs.Common.{◌≡◌, ℕ, ◌≤◌, Result, Ok, Err, sym, ap, ◌∙◌, arith}
use Rattle.std.specs.Prelude.{IsErr, IsErrAnd}
use Rattle.eu_base.specs.declared.cells.MemFault.{MemFault}
use Rattle.eu_base.specs.declared.cells.MemFault.TheVariants.{Failed}
use Rattle.eu_base.specs.Faults.{Rose}
use Rattle.eu_base.specs.Cells.{HasFaultCause}

rose_before : (before mid now : ℕ) → before ≤ mid → Rose mid now → Rose before now
rose_before before mid now le rose = omega (arith, le, rose)

pub fault_handed_on : {S T : Type 0} (before mid now : ℕ) (cause : MemFault) (r : Result T MemFault) → before ≤ mid
    → HasFaultCause {T = S} mid now (Err cause) → IsErr r × IsErrAnd r (λ e. e ≡ cause) → HasFaultCause before now r
fault_handed_on before mid now cause (Ok x) le h is = absurd (cc is.0)
fault_handed_on {S} before mid now cause (Err e) le h is = record {
  later = omega (arith, le, h.later);
  failed = λ failed.
      let same : e ≡ Failed = cc failed in
      let was : ◌≡◌ {A = Result S MemFault} (Err cause) (Err Failed) = ap Err (sym is.1 ∙ same) in
      rose_before before mid now le (h.failed was);
}
