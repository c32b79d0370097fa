use Rattle.std.proofs.Common.{◌≡◌, ◌+◌, ◌++◌, sym, ap, ◌∙◌, arith}
use Rattle.eu_base.specs.Spaces.{Content}
use Rattle.text_heap.specs.Blocks.{text_in}
use Rattle.units.specs.Sources.{joined}
use Rattle.source_texts.specs.Lines.{lines_at, line_end}
use Rattle.source_texts.proofs.Reading.{next_line}
use Rattle.source_texts.proofs.read.read_lines.Goals as goal

pub loop-k-preserved : goal.loop-k-preserved
loop-k-preserved g c =
    let inv = c.loop-k.invariant in
    let content = g.S.Space.content c.args.space.now in
    let k = c.loop-k.k in
    let same : g.S.Space.content c.loop-k.space ≡ content = λ i n. inv.same n i in
    let line : g.S.Space.known c.args.space.now → c.as_slice.result.now ≡ text_in content (k + 1) = λ known.
    c.as_slice.ensures ∙ c.in_ok-line.ensures.bytes (g.met.S.Space.stays_known _ _ inv.follows known) ∙ ap (λ (x : Content). text_in x (k + 1)) same in
    record {
      text = λ known.
          c.in_ok-append_line.ensures ∙ ap (λ t. t ++ (line_end k ++ c.as_slice.result.now)) (inv.text known)
          ∙ ap (λ t. joined (lines_at content k) ++ (line_end k ++ t)) (line known) ∙ sym (next_line content k);
      same = λ n. c.in_ok-line.ensures.kept n ∙ inv.same n;
      follows = g.met.S.Space.transitive _ _ _ inv.follows c.get.ensures.follows;
      later = omega (arith, inv.later, c.get.ensures.cause.later);
    }
