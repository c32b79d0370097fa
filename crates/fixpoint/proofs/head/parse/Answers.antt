use Rattle.std.proofs.Common.{◌≡◌, true}
use Rattle.std.proofs.lemmas.Slice.Eq.{slice_eq-Decides}
use Rattle.std.proofs.lemmas.Bool.Decides.{Decides-eqb}
use Rattle.fixpoint.proofs.Heads.{spells_itself}
use Rattle.fixpoint.proofs.head.parse.Goals as goal

pub returns-else-eq-clause-none : goal.returns-else-eq-clause-none
returns-else-eq-clause-none c = λ sequence root head.
    let spelled_so = spells_itself c.args.block.now sequence root head in
    let same : c.as_slice.result.now ≡ c.as_slice-2.result.now = cc in
    let yes : c.eq.result ≡ true = (slice_eq-Decides Decides-eqb _ _ _ c.eq.ensures).1 same in
    cc
