use Rattle.std.proofs.Common.{◌≡◌, ◌∙◌, ap, sym, subst, ℕ, List, take, drop, length, Some, arith}
use Rattle.page_pool.specs.Pool.{Pages, page_at, IsPool}
use Rattle.page_pool.proofs.Shows.{away_home, away_bytes, not_away, must_stay, known_after, same_home, kept_long}
use Rattle.page_pool.proofs.pool.Pool.read.Goals as goal

pub block-requires : goal.block-requires
block-requires g c =
    let at = subst (λ (pages : Pages). page_at pages c.args.p ≡ Some c.index-page.result.now) c.self.view_is c.index-page.ensures in
    record { held = c.requires.backed.each c.args.p c.in-Some.block (away_home c.args.self.now c.args.p c.index-page.result.now c.in-Some.block at (sym c.away.ensures ∙ c.in-Some.is)) }

pub returns-in_err-block-clause-known : goal.returns-in_err-block-clause-known
returns-in_err-block-clause-known g c = known_after _ _ c.args.self.now c.block.new.self c.in-Some.block
    (g.met.B.Backing.same_told c.args.backing.now c.block.new.backing c.block.ensures.follows)
    (λ p b is. sym (same_home c.args.self.now c.block.new.self c.block.ensures.slots p) ∙ is) c.block.ensures.clean

pub returns-clause-known : goal.returns-clause-known
returns-clause-known g c = known_after _ _ c.args.self.now c.block.new.self c.in-Some.block
    (g.met.B.Backing.same_told c.args.backing.now c.block.new.backing c.block.ensures.follows)
    (λ p b is. sym (same_home c.args.self.now c.block.new.self c.block.ensures.slots p) ∙ is) c.block.ensures.clean

pub returns-clause-bytes : goal.returns-clause-bytes
returns-clause-bytes g c = λ known.
    let at = subst (λ (pages : Pages). page_at pages c.args.p ≡ Some c.index-page.result.now) c.self.view_is c.index-page.ensures in
    let away = sym c.away.ensures ∙ c.in-Some.is in
    c.copy_from_slice.ensures.after ∙ ap (λ (n : ℕ). take n (drop c.args.at c.block.new.into)) (omega arith)
    ∙ ap (λ (b : List ℕ). take (length c.args.into.now) (drop c.args.at b))
    (c.in_ok-block.ensures.bytes known.told (λ kept has. known.kept c.args.p c.in-Some.block kept
    (away_home c.args.self.now c.args.p c.index-page.result.now c.in-Some.block at away) has)
    ∙ sym (away_bytes c.args.self.now c.args.p c.index-page.result.now c.in-Some.block at away (g.B.Backing.tells c.args.backing.now)))

pub returns-clause-long : goal.returns-clause-long
returns-clause-long g c = λ known.
    let at = subst (λ (pages : Pages). page_at pages c.args.p ≡ Some c.index-page.result.now) c.self.view_is c.index-page.ensures in
    let away = sym c.away.ensures ∙ c.in-Some.is in
    ap length (away_bytes c.args.self.now c.args.p c.index-page.result.now c.in-Some.block at away (g.B.Backing.tells c.args.backing.now))
    ∙ sym (ap length (c.in_ok-block.ensures.bytes known.told (λ kept has. known.kept c.args.p c.in-Some.block kept
    (away_home c.args.self.now c.args.p c.index-page.result.now c.in-Some.block at away) has))) ∙ c.block.array_long

pub returns-in_default-clause-long : goal.returns-in_default-clause-long
returns-in_default-clause-long g c = λ known.
    let at = subst (λ (pages : Pages). page_at pages c.args.p ≡ Some c.index-page.result.now) c.self.view_is c.index-page.ensures in
    let sound = subst IsPool c.self.view_is c.self.invariant in
    kept_long (g.B.Backing.tells c.args.backing.now) c.args.self.now c.args.p c.index-page.result.now sound at
    (not_away c.args.p c.index-page.result.now (sound.each c.args.p c.index-page.result.now at) (sym c.away.ensures ∙ c.in_default.is))

pub returns-in_err-block-clause-sure : goal.returns-in_err-block-clause-sure
returns-in_err-block-clause-sure g c = λ stays.
    let at = subst (λ (pages : Pages). page_at pages c.args.p ≡ Some c.index-page.result.now) c.self.view_is c.index-page.ensures in
    absurd (must_stay c.args.self.now c.args.p c.index-page.result.now c.in-Some.block (subst IsPool c.self.view_is c.self.invariant) at
    (sym c.away.ensures ∙ c.in-Some.is) stays)
