use Rattle.std.proofs.Common.{length, arith}
use Rattle.units.specs.Sources.{most_lines}
use Rattle.source_texts.proofs.Cells.{number_held, next_held}
use Rattle.source_texts.proofs.write.put_lines.Goals as goal

pub loop-k-init : goal.loop-k-init
loop-k-init g c = record {
  held = λ known. number_held (g.S.Space.content c.args.space.now) (g.S.Space.content c.put.new.space) (length c.args.lines.now) most_lines c.requires.zeros
      (c.in_ok-put.ensures.holds known) (c.put.ensures.kept known);
  later = c.put.ensures.cause.later;
  follows = c.put.ensures.follows;
}

pub loop-k-preserved : goal.loop-k-preserved
loop-k-preserved g c =
    let put = λ (known : g.S.Space.known c.args.space.now). next_held (g.S.Space.content c.loop-k.space) (g.S.Space.content c.set.new.space) (length c.args.lines.now) c.loop-k.k c.args.lines.now
    c.index-lines-k.result c.in_ok-set.field-0 c.requires.few (omega arith) c.index-lines-k.is c.requires.short (c.loop-k.invariant.held known)
    (rw c.as_slice.ensures at c.in_ok-set.ensures.sets (g.met.S.Space.stays_known _ _ c.loop-k.invariant.follows known))
    (c.in_ok-set.ensures.cells (g.met.S.Space.stays_known _ _ c.loop-k.invariant.follows known)) in
    record {
      held = λ known. (put known).1;
      later = omega (arith, c.loop-k.invariant.later, c.set.ensures.cause.later);
      follows = g.met.S.Space.transitive _ _ _ c.loop-k.invariant.follows c.set.ensures.follows;
    }
