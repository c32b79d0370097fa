-- What the closure keeps is the filter by the same test.
use Rattle.std.proofs.Common.{rules, List, not, sym, ap, subst, ◌∙◌}
use Rattle.std.proofs.lemmas.Fn.{filter_same}
use Rattle.units.specs.Library.{Live}
use Rattle.units.specs.Library as spec
use Rattle.packet_store.proofs.Growing.{released_is}
use Rattle.packet_store.proofs.library.Library.release.Goals as goal

pub returns : goal.returns
returns c =
    let kept = filter_same _ (λ (l : Live). not (spec.has_number c.args.number l)) _ (λ x b q k. search rules) _ _ c.retain.ensures.filtered in
    ap (λ (ls : List Live). record { live = ls; last = c.self.inside.last }) kept ∙ ap (spec.released c.args.number) c.self.view_is

pub invariant_of-self : goal.invariant_of-self
invariant_of-self c =
    let kept = filter_same _ (λ (l : Live). not (spec.has_number c.args.number l)) _ (λ x b q k. search rules) _ _ c.retain.ensures.filtered in
    subst (λ (ls : List Live). spec.IsLibrary (record { live = ls; last = c.self.inside.last })) (sym kept)
    (released_is (record { live = c.self.inside.live.items; last = c.self.inside.last }) c.args.number c.self.invariant)
