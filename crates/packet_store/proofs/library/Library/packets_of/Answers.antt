use Rattle.std.proofs.Common.{◌≡◌, sym, ap, ◌∙◌, subst}
use Rattle.std.specs.Prelude.{option_map}
use Rattle.std.proofs.lemmas.List.{drop_all}
use Rattle.units.specs.Packets.{nothing}
use Rattle.elan_check.specs.Packets.{AreCompiled, none}
use Rattle.units.specs.Library as spec
use Rattle.packet_store.proofs.library.Library.packets_of.Goals as goal

-- where no packet was found, nothing stands behind those that were looked for
pub returns-in-None-clause-compiled : goal.returns-in-None-clause-compiled
returns-in-None-clause-compiled c =
    let lib = c.args.self.now in
    let left = drop_all c.loop-number.number-index c.args.of.now c.loop-number-test.false in
    let none_found : nothing ≡ spec.behind (option_map (λ b. b.now) c.loop-number.last) nothing =
    sym (ap (λ last. spec.behind (option_map (λ b. b.now) last) nothing) c.in-None.is) in
    let e : nothing ≡ spec.env_of lib c.args.of.now =
    none_found
    ∙ sym (ap (spec.env_behind lib (spec.behind (option_map (λ b. b.now) c.loop-number.last) nothing)) left)
    ∙ c.loop-number.invariant in
    subst AreCompiled e none
