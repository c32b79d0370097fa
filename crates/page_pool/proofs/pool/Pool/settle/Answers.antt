use Rattle.std.proofs.Common.{Some, subst, set, refl, sym}
use Rattle.page_pool.specs.Pool.{Pages, DropsClean}
use Rattle.page_pool.proofs.Sound.{set_sound}
use Rattle.page_pool.proofs.Shows.{settles, settled_page}
use Rattle.page_pool.proofs.pool.Pool.settle.Goals as goal

pub invariant_of-self : goal.invariant_of-self
invariant_of-self c =
    let was : Pages = record { slots = c.self.inside.pages.slots; clean = c.self.inside.clean.entries } in
    let new : Pages = record { slots = set c.self.inside.pages.slots c.args.p (Some c.settle.new.self); clean = c.self.inside.clean.entries } in
    set_sound was new c.args.p c.index_mut-page.result.now c.settle.new.self refl c.self.invariant c.index_mut-page.ensures.value
    (settled_page c.args.p _ _ c.args.block c.settle.ensures)

pub returns-clause-settles : goal.returns-clause-settles
returns-clause-settles c =
    let was : Pages = record { slots = c.self.inside.pages.slots; clean = c.self.inside.clean.entries } in
    let new : Pages = record { slots = set c.self.inside.pages.slots c.args.p (Some c.settle.new.self); clean = c.self.inside.clean.entries } in
    settles c.args.self.now was new c.args.p c.args.block c.index_mut-page.result.now c.settle.new.self c.self.invariant
    (subst (λ (pages : Pages). DropsClean c.args.self.now pages c.args.block) (sym c.self.view_is) c.uncache.ensures.drops)
    (record { slots = refl; at = c.index_mut-page.ensures.value }) refl c.requires.changed c.settle.ensures

pub returns-clause-sound : goal.returns-clause-sound
returns-clause-sound c = record { each = (invariant_of-self c).each }
