use Rattle.std.proofs.Common.{List, ℕ, ap, ◌∙◌}
use Rattle.elan_scope.specs.Scope.{first}
use Rattle.elan_meant.specs.Below.elan_names.specs.walks.Numbers.{callables_among}
use Rattle.elan_meant.specs.Below.elan_names.proofs.Named.{callables, called_named}
use Rattle.elan_meant.specs.Operands.{takes, fit}
use Rattle.elan_meant.proofs.operands.chosen_own.Goals as goal

pub loop-number-init : goal.loop-number-init
loop-number-init c =
    let test = takes c.args.sort c.args.name.now c.args.operands.now in
    ap (λ (ns : List ℕ). first test (callables_among c.args.before c.args.headings.now ns)) c.named-number-items.ensures
    ∙ callables c.args.name.now c.args.headings.now test (λ d. called_named c.args.sort c.args.name.now (fit d.parameters c.args.operands.now) d) c.args.before
