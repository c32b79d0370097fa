-- A request that is answered.
use Rattle.std.proofs.Common.{◌≡◌, refl, sym, subst}
use Rattle.std.specs.Prelude.{IsSome}
use Rattle.eu_base.specs.declared.request.Request.{Request}
use Rattle.eu_base.specs.declared.request.Reply.{Reply}
use Rattle.code_form.specs.declared.waits.Waits.{Waits}
use Rattle.code_form.specs.declared.waits.Waits.TheVariants.{Nothing, Asked, Given, Refused}
use Rattle.code_form.specs.Program.{Program}
use Rattle.code_form.specs.Machine.{Control, asking, answered}
use Rattle.code_form.specs.Valid.{Fits}
use Rattle.code_form.specs.Runs.{asked}
use Rattle.code_form.proofs.Safe.{stays_fit}

-- a request is waited for
pub is_asked : (w : Waits) → IsSome (asked w) → (q : Request) × (w ≡ Asked q)
is_asked Nothing some = absurd (cc some)
is_asked (Asked q) some = (q, refl)
is_asked (Given r) some = absurd (cc some)
is_asked (Refused stop) some = absurd (cc some)

pub answered_fits : (p : Program) (c c' : Control) (r : Reply) → Fits p c → IsSome (asked c.waits)
    → ((q : Request) → c.waits ≡ Asked q → c' ≡ answered q r c.position) → Fits p c'
answered_fits p c c' r fits some answers =
    let q = is_asked c.waits some in
    let from : Fits p (asking c.position q.0) = subst (λ (w : Waits). Fits p (record { position = c.position; waits = w })) q.1 fits in
    subst (Fits p) (sym (answers q.0 q.1)) (stays_fit.replies p c.position q.0 r from)
