use Rattle.std.proofs.Common.{◌+◌, ◌/◌, ◌%◌, refl, ap, subst, ◌∷◌, []}
use Rattle.eu_base.specs.Spaces.{IsPasted}
use Rattle.text_heap.proofs.Pieces.{filled}
use Rattle.text_heap.proofs.block.fill.Goals as goal

pub returns-clause-fills : goal.returns-clause-fills
returns-clause-fills g c = λ known.
    let before = g.S.Space.content c.args.space.now in
    let middle = g.S.Space.content c.write.new.self in
    let now = g.S.Space.content c.write-2.new.self in
    let low = (c.args.next + 1) % 256 in
    let high = (c.args.next + 1) / 256 in
    let link = subst (λ n. IsPasted before middle n (low ∷ high ∷ [])) c.block_at.ensures (c.in_ok-write.ensures.written known) in
    let bytes = subst (λ n. IsPasted middle now n c.args.piece.now) (ap (λ n. n + 4) c.block_at-2.ensures) (c.in_ok-write-2.ensures.written (g.met.S.Space.stays_known _ _ c.write.ensures.follows known)) in
    filled before middle now c.args.k c.args.next low high c.args.piece.now refl refl c.requires.few link bytes
