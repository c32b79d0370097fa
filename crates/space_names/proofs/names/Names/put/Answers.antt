use Rattle.std.proofs.Common.{◌≡◌, None, ap, sym, subst, ◌∙◌, arith}
use Rattle.space_names.proofs.Kept.{put_new}
use Rattle.space_names.specs.Directory as spec
use Rattle.space_names.specs.Entries.{directory_of}
use Rattle.space_names.proofs.names.Names.put.Goals as goal

pub returns-clause-ok : goal.returns-clause-ok
returns-clause-ok c =
    let named : c.in_ok-name.name.items ≡ c.args.name = grind (arith, c.in_ok-name.ensures.items, c.name.view_is, c.as_slice.ensures) in
    let old = directory_of c.self.inside.spaces.entries in
    let new = directory_of c.insert.new.self.entries in
    let free : spec.get c.in_ok-name.name.items old ≡ None =
    subst (λ name. spec.get name old ≡ None) (sym named) (subst (λ d. spec.get c.args.name d ≡ None) (sym c.self.view_is) c.requires)
    in
    subst (λ d. new ≡ spec.put c.args.name c.args.space d) c.self.view_is
    (subst (λ name. new ≡ spec.put name c.args.space old) named
    (ap directory_of c.in_ok-insert.ensures.entries ∙ put_new c.self.inside.spaces c.in_ok-name.name c.args.space free))
