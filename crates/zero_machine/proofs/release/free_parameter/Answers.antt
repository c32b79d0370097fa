use Rattle.std.proofs.Common.{[], ◌∷◌, sym, ap, subst}
use Rattle.code_form.specs.Program.{HoldsPlace, cell_uses}
use Rattle.zero_machine.specs.Frames.{FreesTo}
use Rattle.zero_machine.proofs.Freeing.{place_freed}
use Rattle.zero_machine.proofs.release.free_parameter.Goals as goal

pub returns-in-Place-clause-freed : goal.returns-in-Place-clause-freed
returns-in-Place-clause-freed g c =
    let holds = g.M.Memory.holds c.args.m.now in
    subst (λ us. FreesTo holds holds us c.args.at c.min.result c.args.until) (ap cell_uses (sym c.in-Place.is))
    (subst (λ n. FreesTo holds holds (HoldsPlace ∷ []) c.args.at n c.args.until) (sym c.min.ensures)
    (place_freed holds (g.met.M.Memory.forgets c.args.m.now) c.args.at c.args.until c.requires.within))
