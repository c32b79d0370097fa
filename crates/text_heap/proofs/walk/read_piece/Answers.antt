use Rattle.std.proofs.Common.{rules, ◌≡◌, ◌+◌, ◌++◌, length, ap, ◌∙◌, subst}
use Rattle.eu_base.specs.Spaces.{IsRead}
use Rattle.text_heap.specs.Blocks.{block_at, bytes_from}
use Rattle.text_heap.proofs.Pieces.{bytes_read}
use Rattle.text_heap.proofs.walk.read_piece.Goals as goal

pub returns-clause-text : goal.returns-clause-text
returns-clause-text g c = λ known.
    let content = g.S.Space.content c.args.space.now in
    let at = block_at c.args.block + 4 in
    let long : length c.read.new.into ≡ c.args.size = search rules in
    let read = subst (λ n. IsRead content n c.read.new.into) (ap (λ n. n + 4) c.block_at.ensures) (c.in_ok-read.ensures.bytes known) in
    c.in_ok-append.ensures.ok ∙ ap (λ bytes. c.args.text.now ++ bytes) (bytes_read content c.read.new.into at read ∙ ap (bytes_from content at) long)
