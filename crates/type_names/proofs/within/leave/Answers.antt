use Rattle.std.proofs.Common.{None, ap, ◌∙◌}
use Rattle.elan_scope.specs.declared.scope.Scope.{Scope}
use Rattle.elan_scope.specs.Scope.{placed}
use Rattle.type_names.proofs.Scopes.{left_routine}
use Rattle.type_names.proofs.within.leave.Goals as goal

pub returns : goal.returns
returns c = λ s w e h g. ap (λ (z : Scope). placed z None z.refinement) g ∙ left_routine s e h
