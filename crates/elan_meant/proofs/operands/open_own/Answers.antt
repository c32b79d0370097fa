use Rattle.std.proofs.Common.{List, ℕ, ◌&&◌, ap, ◌∙◌, length}
use Rattle.std.specs.Prelude.{◌==◌}
use Rattle.elan_scope.specs.Scope.{first, has_open}
use Rattle.elan_meant.specs.Below.elan_names.specs.walks.Numbers.{callables_among}
use Rattle.elan_meant.specs.Below.elan_names.proofs.Named.{callables, called_named}
use Rattle.elan_meant.specs.Operands.{may_take}
use Rattle.elan_meant.proofs.operands.open_own.Goals as goal

pub loop-number-init : goal.loop-number-init
loop-number-init c =
    let test = may_take c.args.sort c.args.name.now c.args.operands.now in
    ap (λ (ns : List ℕ). first test (callables_among c.args.before c.args.headings.now ns)) c.named-number-items.ensures
    ∙ callables c.args.name.now c.args.headings.now test (λ d. called_named c.args.sort c.args.name.now (length d.parameters == length c.args.operands.now && has_open d.parameters) d) c.args.before
