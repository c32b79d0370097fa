use Rattle.std.proofs.Common.{arith, ◌≡◌, ◌+◌, ◌-◌, ◌++◌, ◌%◌, List, ℕ, sym, ap, ◌∙◌, append_assoc}
use Rattle.std.proofs.lemmas.List.{append-nil}
use Rattle.text_heap.specs.Blocks.{block_at, bytes_from, gather, blocks_of, next_in, link_in}
use Rattle.text_heap.proofs.Chained.{gather_none}
use Rattle.text_heap.proofs.Pieces.{gather_next}
use Rattle.text_heap.proofs.walk.collect.Goals as goal

pub loop-left-preserved : goal.loop-left-preserved
loop-left-preserved g c =
    let inv = c.loop-left.invariant in
    let content = g.S.Space.content c.args.space.now in
    let size = c.min-size.result in
    let left = c.loop-left.left in
    let block = c.loop-left.block in
    let text = c.loop-left.text in
    let piece : List ℕ = bytes_from content (block_at block + 4) size in
    let rest : ℕ → List ℕ = λ k. gather content k (left - size) (blocks_of (left - size)) in
    let at : g.S.Space.known c.args.space.now → g.S.Space.known c.loop-left.space = g.met.S.Space.stays_known _ _ inv.follows in
    let read : g.S.Space.known c.args.space.now → c.read_piece.new.text ≡ text ++ piece =
    λ known. c.in_ok-read_piece.ensures.text (at known) ∙ ap (λ x. text ++ bytes_from x (block_at block + 4) size) inv.same in
    let same_then : g.S.Space.content c.read_piece.new.space ≡ content = c.in_ok-read_piece.ensures.kept ∙ inv.same in
    let link_is = λ (known : g.S.Space.known c.args.space.now). c.in_ok-link.ensures.link (g.met.S.Space.stays_known _ _ c.read_piece.ensures.follows (at known)) ∙ ap (λ x. link_in x block) same_then in
    let next_is : g.S.Space.known c.args.space.now → c.next-block.result ≡ next_in content block = λ known. c.next-block.ensures ∙ ap (λ l. (l - 1) % 4096) (link_is known) in
    let more = gather_next content block left size (omega (arith, c.loop-left-test.true)) c.min-size.ensures in
    record {
      low = omega (arith, c.next-block.ensures);
      text =
          λ known. ap (λ t. t ++ rest c.next-block.result) (read known)
          ∙ ap (λ k. (text ++ piece) ++ rest k) (next_is known)
          ∙ append_assoc text piece (rest (next_in content block))
          ∙ ap (λ t. text ++ t) (sym more)
          ∙ inv.text known;
      same = c.in_ok-link.ensures.kept ∙ same_then;
      later = omega (arith, inv.later, c.read_piece.ensures.cause.later, c.link.ensures.cause.later);
      follows = g.met.S.Space.transitive _ _ _ inv.follows (g.met.S.Space.transitive _ _ _ c.read_piece.ensures.follows c.link.ensures.follows);
    }

pub returns-clause-text : goal.returns-clause-text
returns-clause-text g c = λ known.
    let inv = c.loop-left.invariant in
    let content = g.S.Space.content c.args.space.now in
    let text = c.loop-left.text in
    let none : blocks_of c.loop-left.left ≡ 0 = omega (arith, c.loop-left-test.false) in
    let no_more = ap (gather content c.loop-left.block c.loop-left.left) none ∙ gather_none content c.loop-left.block c.loop-left.left in
    sym (append-nil text) ∙ ap (λ t. text ++ t) (sym no_more) ∙ inv.text known
