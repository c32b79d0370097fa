use Rattle.std.proofs.Common.{◌≡◌, Some, subst, length}
use Rattle.page_pool.specs.Pool.{Pages, page_at, IsPool}
use Rattle.page_pool.proofs.Shows.{read_here, must_here, kept_long}
use Rattle.page_pool.proofs.pool.Pool.peek.Goals as goal

pub read-requires-clause-here : goal.read-requires-clause-here
read-requires-clause-here c = must_here c.args.self.now c.args.p c.index-page.result.now (subst IsPool c.self.view_is c.self.invariant)
    (subst (λ (pages : Pages). page_at pages c.args.p ≡ Some c.index-page.result.now) c.self.view_is c.index-page.ensures) c.requires.here

pub returns-clause-bytes : goal.returns-clause-bytes
returns-clause-bytes c = λ tell.
    let sound = subst IsPool c.self.view_is c.self.invariant in
    let at = subst (λ (pages : Pages). page_at pages c.args.p ≡ Some c.index-page.result.now) c.self.view_is c.index-page.ensures in
    read_here tell c.args.self.now c.args.p c.index-page.result.now (length c.args.into.now) c.args.at c.read.new.into at
    (must_here c.args.self.now c.args.p c.index-page.result.now sound at c.requires.here) c.read.ensures.bytes

pub returns-clause-long : goal.returns-clause-long
returns-clause-long c = λ tell.
    let sound = subst IsPool c.self.view_is c.self.invariant in
    let at = subst (λ (pages : Pages). page_at pages c.args.p ≡ Some c.index-page.result.now) c.self.view_is c.index-page.ensures in
    kept_long tell c.args.self.now c.args.p c.index-page.result.now sound at
    (must_here c.args.self.now c.args.p c.index-page.result.now sound at c.requires.here)
