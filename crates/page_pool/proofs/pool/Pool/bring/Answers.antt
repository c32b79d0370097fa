use Rattle.std.proofs.Common.{◌≡◌, ◌∙◌, ap, sym, subst, refl, Contains, Some, set, length}
use Rattle.std.proofs.lemmas.Option.{same_Some}
use Rattle.page_pool.specs.declared.page.Page.{Page}
use Rattle.page_pool.specs.Pool.{Pages, Shown, page_at, home_of, IsPool}
use Rattle.page_pool.proofs.Sound.{set_sound}
use Rattle.page_pool.proofs.Shows.{away_home, must_stay, away_shown, away_bytes, known_after, same_home, same_at, set_at, set_homes, kept_held, brought_page}
use Rattle.page_pool.proofs.pool.Pool.bring.Goals.{After-away, After-block, After-bring}
use Rattle.page_pool.proofs.pool.Pool.bring.Goals as goal

pub block-requires : goal.block-requires
block-requires g c =
    let at = subst (λ (pages : Pages). page_at pages c.args.p ≡ Some c.index-page.result.now) c.self.view_is c.index-page.ensures in
    record { held = c.requires.backed.each c.args.p c.in-Some.block (away_home c.args.self.now c.args.p c.index-page.result.now c.in-Some.block at (sym c.away.ensures ∙ c.in-Some.is)) }

pub returns-in_err-block-clause-known : goal.returns-in_err-block-clause-known
returns-in_err-block-clause-known g c = known_after _ _ c.args.self.now c.block.new.self c.in-Some.block
    (g.met.B.Backing.same_told c.args.backing.now c.block.new.backing c.block.ensures.follows)
    (λ p b is. sym (same_home c.args.self.now c.block.new.self c.block.ensures.slots p) ∙ is) c.block.ensures.clean

pub returns-in_default-new-clause-known : goal.returns-in_default-new-clause-known
returns-in_default-new-clause-known g c = known_after _ _ c.args.self.now c.block.new.self c.in-Some.block
    (g.met.B.Backing.same_told c.args.backing.now c.block.new.backing c.block.ensures.follows)
    (λ p b is. sym (same_home c.args.self.now c.block.new.self c.block.ensures.slots p) ∙ is) c.block.ensures.clean

pub invariant_of-self : goal.invariant_of-self
invariant_of-self g c = set_sound _ _ c.args.p c.index_mut-page.result.now c.bring.new.self refl c.self-2.invariant c.index_mut-page.ensures.value
    (brought_page c.args.p _ _ c.in-Ok.bytes.value (ap length c.in-Ok.ensures.ok ∙ c.block.array_long) c.bring.ensures)

pub returns-clause-bytes : goal.returns-clause-bytes
returns-clause-bytes g c =
    let at = subst (λ (pages : Pages). page_at pages c.args.p ≡ Some c.index-page.result.now) c.self.view_is c.index-page.ensures in
    let away = sym c.away.ensures ∙ c.in-Some.is in
    let mid : page_at c.block.new.self c.args.p ≡ Some c.index_mut-page.result.now
    = subst (λ (pages : Pages). page_at pages c.args.p ≡ Some c.index_mut-page.result.now) c.self-2.view_is c.index_mut-page.ensures.value in
    let same : c.index_mut-page.result.now ≡ c.index-page.result.now
    = same_Some _ _ (sym mid ∙ same_at c.args.self.now c.block.new.self c.block.ensures.slots c.args.p ∙ at) in
    let was : Pages = record { slots = c.self-2.inside.pages.slots; clean = c.self-2.inside.clean.entries } in
    let new : Pages = record { slots = set c.self-2.inside.pages.slots c.args.p (Some c.bring.new.self); clean = c.self-2.inside.clean.entries } in
    let shows = kept_held new c.args.p c.bring.new.self c.in-Ok.bytes.value
    (set_at was new c.args.p c.index_mut-page.result.now c.bring.new.self (record { slots = refl; at = c.index_mut-page.ensures.value })) c.bring.ensures.kept in
    record {
      pinned = ap (λ (s : Shown). s.pinned) shows ∙ c.bring.ensures.pinned ∙ ap (λ (page : Page). page.pinned) same
          ∙ sym (ap (λ (s : Shown). s.pinned) (away_shown c.args.self.now c.args.p c.index-page.result.now c.in-Some.block at away));
      bytes = c.in-Ok.bytes.value;
      held = ap (λ (s : Shown). s.held) shows;
      long = ap length c.in-Ok.ensures.ok ∙ c.block.array_long;
      same = λ known. c.in-Ok.ensures.ok ∙ c.in_ok-block.ensures.bytes known.told (λ kept has. known.kept c.args.p c.in-Some.block kept
          (away_home c.args.self.now c.args.p c.index-page.result.now c.in-Some.block at away) has)
          ∙ sym (away_bytes c.args.self.now c.args.p c.index-page.result.now c.in-Some.block at away (g.B.Backing.tells c.args.backing.now));
    }

pub returns-clause-known : goal.returns-clause-known
returns-clause-known g c =
    let was : Pages = record { slots = c.self-2.inside.pages.slots; clean = c.self-2.inside.clean.entries } in
    let new : Pages = record { slots = set c.self-2.inside.pages.slots c.args.p (Some c.bring.new.self); clean = c.self-2.inside.clean.entries } in
    known_after _ _ c.args.self.now new c.in-Some.block
    (g.met.B.Backing.same_told c.args.backing.now c.block.new.backing c.block.ensures.follows)
    (λ p b is. sym (same_home c.args.self.now c.block.new.self c.block.ensures.slots p)
    ∙ ap (λ (pages : Pages). home_of pages p) (sym c.self-2.view_is)
    ∙ set_homes was new c.args.p c.index_mut-page.result.now c.bring.new.self (record { slots = refl; at = c.index_mut-page.ensures.value }) c.bring.ensures.home p b is)
    (λ entry has. c.block.ensures.clean entry (subst (λ (pages : Pages). Contains pages.clean entry) c.self-2.view_is has))

pub returns-clause-sound : goal.returns-clause-sound
returns-clause-sound g c = record { each = (invariant_of-self g c).each }

pub returns-in_err-block-clause-sure : goal.returns-in_err-block-clause-sure
returns-in_err-block-clause-sure g c = λ stays.
    let at = subst (λ (pages : Pages). page_at pages c.args.p ≡ Some c.index-page.result.now) c.self.view_is c.index-page.ensures in
    absurd (must_stay c.args.self.now c.args.p c.index-page.result.now c.in-Some.block (subst IsPool c.self.view_is c.self.invariant) at
    (sym c.away.ensures ∙ c.in-Some.is) stays)

pub returns-in_default-new-clause-sure : goal.returns-in_default-new-clause-sure
returns-in_default-new-clause-sure g c = λ stays.
    let at = subst (λ (pages : Pages). page_at pages c.args.p ≡ Some c.index-page.result.now) c.self.view_is c.index-page.ensures in
    absurd (must_stay c.args.self.now c.args.p c.index-page.result.now c.in-Some.block (subst IsPool c.self.view_is c.self.invariant) at
    (sym c.away.ensures ∙ c.in-Some.is) stays)
