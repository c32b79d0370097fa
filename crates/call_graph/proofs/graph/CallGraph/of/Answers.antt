use Rattle.std.proofs.Common.{List, ℕ, ap, ◌∙◌}
use Rattle.call_graph.specs.walks.Ranks.{is_ranked}
use Rattle.call_graph.proofs.Ranked.{unranked}
use Rattle.call_graph.proofs.graph.CallGraph.of.Goals as goal

pub invariant_of-result-2 : goal.invariant_of-result-2
invariant_of-result-2 c = ap (λ (r : List ℕ). is_ranked r c.args.calls) c.new.ensures ∙ unranked 0 c.args.calls
