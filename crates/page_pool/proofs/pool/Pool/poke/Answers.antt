use Rattle.std.proofs.Common.{◌≡◌, Some, subst, true, inl, set, refl, ap, sym, ◌∙◌, length}
use Rattle.page_pool.specs.Pool.{Pages, Shown, shown_in, shown_of, Writes, table, pasted, bytes_of}
use Rattle.page_pool.proofs.Sound.{set_sound}
use Rattle.page_pool.proofs.Shows.{pokes, must_here, kept_long, written_page}
use Rattle.page_pool.proofs.pool.Pool.poke.Goals as goal

pub write-requires-clause-long : goal.write-requires-clause-long
write-requires-clause-long c = (c.self.invariant.each c.args.p c.index_mut-page.result.now c.index_mut-page.ensures.value).long

pub invariant_of-self : goal.invariant_of-self
invariant_of-self c =
    let was : Pages = record { slots = c.self.inside.pages.slots; clean = c.self.inside.clean.entries } in
    let new : Pages = record { slots = set c.self.inside.pages.slots c.args.p (Some c.write.new.self); clean = c.self.inside.clean.entries } in
    let pin = subst (λ (pages : Pages). (shown_of pages c.args.p).pinned ≡ true) (sym c.self.view_is) c.requires.pinned in
    set_sound was new c.args.p c.index_mut-page.result.now c.write.new.self refl c.self.invariant c.index_mut-page.ensures.value
    (written_page c.args.p _ _ c.args.at c.args.from.now c.requires.within
    (must_here was c.args.p c.index_mut-page.result.now c.self.invariant c.index_mut-page.ensures.value (inl pin)) c.write.ensures)

pub returns-clause-writes : goal.returns-clause-writes
returns-clause-writes c = λ tell.
    let was : Pages = record { slots = c.self.inside.pages.slots; clean = c.self.inside.clean.entries } in
    let new : Pages = record { slots = set c.self.inside.pages.slots c.args.p (Some c.write.new.self); clean = c.self.inside.clean.entries } in
    let pin : (shown_of was c.args.p).pinned ≡ true = subst (λ (pages : Pages). (shown_of pages c.args.p).pinned ≡ true) (sym c.self.view_is) c.requires.pinned in
    subst (λ (pages : Pages). Writes pages new c.args.p (table (pasted (bytes_of tell pages c.args.p) c.args.at c.args.from.now))) c.self.view_is
    (pokes tell was new c.args.p c.index_mut-page.result.now c.write.new.self c.args.at c.args.from.now c.self.invariant
    (record { slots = refl; at = c.index_mut-page.ensures.value })
    (must_here was c.args.p c.index_mut-page.result.now c.self.invariant c.index_mut-page.ensures.value (inl pin))
    (sym (ap (λ (x : Shown). x.pinned) (ap shown_in c.index_mut-page.ensures.value)) ∙ pin) c.write.ensures.count c.write.ensures)

pub returns-clause-long : goal.returns-clause-long
returns-clause-long c = λ tell.
    let was : Pages = record { slots = c.self.inside.pages.slots; clean = c.self.inside.clean.entries } in
    let pin : (shown_of was c.args.p).pinned ≡ true = subst (λ (pages : Pages). (shown_of pages c.args.p).pinned ≡ true) (sym c.self.view_is) c.requires.pinned in
    ap (λ (pages : Pages). length (bytes_of tell pages c.args.p)) (sym c.self.view_is)
    ∙ kept_long tell was c.args.p c.index_mut-page.result.now c.self.invariant c.index_mut-page.ensures.value
    (must_here was c.args.p c.index_mut-page.result.now c.self.invariant c.index_mut-page.ensures.value (inl pin))

pub returns-clause-sound : goal.returns-clause-sound
returns-clause-sound c = record { each = (invariant_of-self c).each }
