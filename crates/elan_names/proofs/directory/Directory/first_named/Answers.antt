use Rattle.std.proofs.Common.{ap, sym, ◌∙◌}
use Rattle.elan_names.specs.walks.Firsts.{entry_found}
use Rattle.elan_names.proofs.Kept.{first_found}
use Rattle.elan_names.proofs.directory.Directory.first_named.Goals as goal

pub returns-in-None : goal.returns-in-None
returns-in-None c = ap (entry_found c.args.self.now) (sym c.in-None.is ∙ c.place_of.ensures) ∙ first_found c.args.self.now c.args.name.now

pub returns-in-Some : goal.returns-in-Some
returns-in-Some c =
    c.entry_at.ensures ∙ ap (entry_found c.args.self.now) (sym c.in-Some.is ∙ c.place_of.ensures) ∙ first_found c.args.self.now c.args.name.now
