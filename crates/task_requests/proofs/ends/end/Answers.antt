use Rattle.std.proofs.Common.{◌≡◌, true, sym, subst, ◌∙◌}
use Rattle.task_requests.specs.Below.task_tree.specs.Tree as tree
use Rattle.task_requests.specs.Below.system_meaning.specs.Serving.{end_living}
use Rattle.task_requests.specs.Served.{ServedAs}
use Rattle.task_requests.proofs.Results.{if_ok}
use Rattle.task_requests.proofs.ends.end.Goals as goal

pub returns-clause-served : goal.returns-clause-served
returns-clause-served c = if_ok c.end_living.result _ _ (λ reply served m h.
    let live : true ≡ tree.lives c.args.other m.system.shared.tree = sym c.if-not-lives.false ∙ c.lives-lives.ensures m h in
    subst (λ b. ServedAs (end_living b c.args.task c.args.other m) c.end_living.new.system reply) live (served m (sym live) h)) c.end_living.ensures.served
