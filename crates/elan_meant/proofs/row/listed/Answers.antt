use Rattle.std.proofs.Common.{[], ◌∷◌, refl}
use Rattle.elan_meant.proofs.row.listed.Goals as goal

pub returns : goal.returns
returns g c = c.pushed-2.ensures (c.args.first ∷ []) c.args.second (c.pushed.ensures [] c.args.first c.new-list.ensures refl) refl
