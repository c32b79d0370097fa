use Rattle.std.proofs.lemmas.List.{take_all}
use Rattle.page_pool.proofs.Shows.{known_again, homes_adds}
use Rattle.page_table.proofs.Common.{◌≡◌, List, ℕ, length, None, Tell, Known, Shown, PastesBytes, pasted, bytes_of, seen, ◌∙◌, ap, sym, subst, arith, Adds, inl}
use Rattle.page_pool.specs.Pool.{read_by}
use Rattle.page_table.proofs.Copies.{pasted_whole}
use Rattle.page_table.proofs.node.copy_content.Goals as goal

-- what is known when the page is written
pub returns-clause-known : goal.returns-clause-known
returns-clause-known g c = λ known. c.write_own.ensures.known (known_again _ c.read.new.self c.fresh.new.self (homes_adds _ _ c.in-Ok.q _ c.in-Ok.ensures.adds)
    c.in-Ok.ensures.clean (c.read.ensures.known known))

pub returns-clause-bytes : goal.returns-clause-bytes
returns-clause-bytes g c = λ known.
    let tell : Tell = g.B.Backing.tells c.args.backing.now in
    let told : g.B.Backing.tells c.read.new.backing ≡ tell = g.met.B.Backing.same_told c.args.backing.now c.read.new.backing c.read.ensures.follows in
    let pastes : PastesBytes tell c.fresh.new.self c.write_own.new.self c.in-Ok.q 0 c.read.new.into
    = subst (λ (t : Tell). PastesBytes t c.fresh.new.self c.write_own.new.self c.in-Ok.q 0 c.read.new.into) told c.in-Ok-write_own.ensures.bytes in
    let mid : Known tell c.fresh.new.self = subst (λ (t : Tell). Known t c.fresh.new.self) told (known_again _ c.read.new.self c.fresh.new.self
    (homes_adds _ _ c.in-Ok.q _ c.in-Ok.ensures.adds) c.in-Ok.ensures.clean (c.read.ensures.known known)) in
    let long = c.in_ok-read.ensures.long known in
    let is = c.in_ok-read.ensures.bytes known ∙ take_all 512 (bytes_of tell c.args.pool.now c.args.p) (omega (arith, long)) in
    ap (read_by tell) pastes.held ∙ (pastes.same mid).0
    ∙ pasted_whole (bytes_of tell c.fresh.new.self c.in-Ok.q) c.read.new.into (pastes.same mid).1 (ap (λ (l : List ℕ). length l) is ∙ long) ∙ is
