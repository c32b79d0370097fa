use Rattle.std.proofs.Common.{◌≤◌, length, subst, arith}
use Rattle.page_pool.specs.Pool.{Pages, IsPool}
use Rattle.page_pool.proofs.Sound.{none_past}
use Rattle.page_pool.proofs.pool.Pool.past.Goals as goal

pub loop-past-init : goal.loop-past-init
loop-past-init c = λ p far.
    let sound = subst IsPool c.self.view_is c.self.invariant in
    let holds = subst (λ (pages : Pages). length pages.slots ≤ c.capacity.result) c.self.view_is c.capacity.ensures.slots in
    none_past c.args.self.now p c.capacity.result sound holds (omega (arith, c.min-past.ensures, far))
