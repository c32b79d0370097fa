use Rattle.std.proofs.Common.{◌≡◌, Some, sym, ap, ◌∙◌}
use Rattle.std.specs.Prelude.{option_map}
use Rattle.elan_scope.specs.declared.env.Env.{Env}
use Rattle.units.specs.Starts.{start_at}
use Rattle.units.specs.Starts.{start_unit_of}
use Rattle.packet_store.specs.Units.{of_start}
use Rattle.packet_store.proofs.compile.start_behind.Goals as goal

pub with_code-requires-clause-unit : goal.with_code-requires-clause-unit
with_code-requires-clause-unit c =
    let env = c.args.packets in
    let e : start_at env c.args.body ≡ Some c.in-Some.core =
    sym (c.in_ok-started.ensures.core ∙ ap (λ (env : Env). start_at env c.args.body) c.get.ensures) ∙ c.in-Some.is in
    of_start c.args.packet c.args.number c.args.body c.requires (ap (option_map (start_unit_of env c.args.packet c.args.number)) e)
