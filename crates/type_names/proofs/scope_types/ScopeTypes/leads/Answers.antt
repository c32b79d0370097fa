use Rattle.std.proofs.Common.{◌≡◌, List, ℕ, subst, ◌∙◌}
use Rattle.std.specs.Prelude.{IfOk}
use Rattle.type_names.specs.Faults.{named_in, comes_back}
use Rattle.type_names.proofs.Order.{numbers_are}
use Rattle.type_names.proofs.scope_types.ScopeTypes.leads.Goals as goal

pub returns : goal.returns
returns c =
    let types = c.args.self.now in
    subst (λ (ns : List ℕ). IfOk c.comes_back.result (λ leads. leads ≡ comes_back types.calls ns c.args.back))
    (c.as_slice.ensures ∙ c.in_ok-numbers.ensures ∙ numbers_are types.names types.definitions types.are_named (named_in c.args.of.now)) c.comes_back.ensures
