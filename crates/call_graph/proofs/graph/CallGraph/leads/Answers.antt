use Rattle.std.proofs.Common.{◌≡◌, ◌<◌, ℕ, List, false, length, sym, ap, subst, ◌∙◌, arith}
use Rattle.call_graph.specs.Chains.{leads}
use Rattle.call_graph.specs.walks.Ranks.{rank_of}
use Rattle.call_graph.proofs.Ranked.{never_higher}
use Rattle.call_graph.proofs.graph.CallGraph.leads.Goals as goal

pub returns-then-rank_of : goal.returns-then-rank_of
returns-then-rank_of c =
    let ranks = c.self.inside.ranks in
    let from : c.rank_of.result ≡ rank_of ranks c.args.from = c.rank_of.ensures ∙ ap (λ (r : List ℕ). rank_of r c.args.from) c.as_slice-ranks.ensures in
    let to : c.rank_of-2.result ≡ rank_of ranks c.args.to = c.rank_of-2.ensures ∙ ap (λ (r : List ℕ). rank_of r c.args.to) c.as_slice-ranks.ensures in
    let lower : rank_of ranks c.args.from < rank_of ranks c.args.to = omega (arith, from, to, c.if-rank_of.true) in
    subst (λ (calls : List (List ℕ)). false ≡ leads (length calls) calls c.args.from c.args.to) c.self.view_is
    (sym (never_higher ranks c.self.inside.calls c.args.to c.self.invariant (length c.self.inside.calls) c.args.from lower))
