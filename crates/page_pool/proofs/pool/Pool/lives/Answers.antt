use Rattle.std.proofs.Common.{◌≡◌, ◌∙◌, ap, subst, is_some}
use Rattle.std.specs.Option.{option_copied}
use Rattle.page_pool.specs.Pool.{Pages, page_at, IsPool}
use Rattle.page_pool.proofs.Sound.{live_test, copied_some}
use Rattle.page_pool.proofs.pool.Pool.lives.Goals as goal

pub returns : goal.returns
returns c =
    let sound = subst IsPool c.self.view_is c.self.invariant in
    let there = subst (λ (pages : Pages). option_copied c.get.result ≡ page_at pages c.args.p) c.self.view_is c.get.ensures in
    c.is_some.ensures ∙ copied_some c.get.result ∙ ap is_some there ∙ live_test c.args.self.now c.args.p sound
