-- The scopes of PROCs, OPs and refinements, which are entered and left.
use Rattle.std.proofs.Common.{◌≡◌, ℕ, Option, Some, None, sym, ap, ◌∙◌}
use Rattle.elan_scope.specs.declared.scope.Within.{Within}
use Rattle.elan_scope.specs.declared.scope.Scope.{Scope}
use Rattle.elan_scope.specs.Scope.{placed}
use Rattle.type_names.specs.Bodies.{routine_scope}

pub left_routine : (s : Scope) → s.routine ≡ None → s.refinement ≡ None → placed s None None ≡ s
left_routine s e h = ap (λ (o : Option Within). placed s o None) (sym e) ∙ ap (λ (o : Option ℕ). placed s s.routine o) (sym h)

-- in a PROC or OP
pub entered : (s : Scope) (w own : Within) → s.refinement ≡ None → w ≡ own → placed s (Some w) s.refinement ≡ routine_scope s own
entered s w own e h = ap (λ (o : Option ℕ). placed s (Some w) o) e ∙ ap (λ (v : Within). placed s (Some v) None) h

pub left_refinement : (s : Scope) → s.refinement ≡ None → placed s s.routine None ≡ s
left_refinement s e = ap (λ (o : Option ℕ). placed s s.routine o) (sym e)
