use Rattle.std.proofs.Common.{[], subst}
use Rattle.elan_scope.specs.Ruled.{gives, before}
use Rattle.elan_scope.specs.Answer.{Is}
use Rattle.elan_meant.proofs.Beside.{two_row}
use Rattle.elan_meant.proofs.row.pair.Goals as goal

pub returns : goal.returns
returns g c = λ r q h k. subst (λ z. Is c.and.result z) (two_row r q) (c.and.ensures (before r (gives [])) q (c.one.ensures r h) k)
