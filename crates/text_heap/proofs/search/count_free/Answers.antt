use Rattle.std.proofs.Common.{arith, ◌≡◌, ◌-◌, refl, sym, ap, ◌∙◌}
use Rattle.text_heap.specs.Blocks.{used_in, link_in}
use Rattle.text_heap.proofs.Totals.{total_none}
use Rattle.text_heap.proofs.Pieces.{free_more}
use Rattle.text_heap.proofs.search.count_free.Goals.{then-branch-eq0, else-branch-eq0}
use Rattle.text_heap.proofs.search.count_free.Goals as goal

pub loop-k-init : goal.loop-k-init
loop-k-init g c = record {
  count = λ known. sym (total_none (λ k. 1 - used_in (g.S.Space.content c.args.space.now) k));
  few = omega arith;
  same = refl;
  later = omega arith;
  follows = g.met.S.Space.reflexive _;
}

pub loop-k-preserved : goal.loop-k-preserved
loop-k-preserved g c =
    let inv = c.loop-k.invariant in
    let content = g.S.Space.content c.args.space.now in
    let link_is : g.S.Space.known c.args.space.now → c.in_ok-link.field-0 ≡ link_in content c.loop-k.k = λ known. c.in_ok-link.ensures.link (g.met.S.Space.stays_known _ _ inv.follows known) ∙ ap (λ x. link_in x c.loop-k.k) inv.same in
    let more = free_more content c.loop-k.k in
    elim c.if-branch-eq0.branch [
      | then-branch-eq0 w ↦ record {
        count = λ known. omega (arith, w.count-is, w.if-branch-eq0.true, inv.count known, link_is known, more);
        few = omega (arith, w.count-is, inv.few);
        same = c.in_ok-link.ensures.kept ∙ inv.same;
        later = omega (arith, inv.later, c.link.ensures.cause.later);
        follows = g.met.S.Space.transitive _ _ _ inv.follows c.link.ensures.follows;
      }
      | else-branch-eq0 w ↦ record {
        count = λ known. omega (arith, w.count-is, w.if-branch-eq0.false, inv.count known, link_is known, more);
        few = omega (arith, w.count-is, inv.few);
        same = c.in_ok-link.ensures.kept ∙ inv.same;
        later = omega (arith, inv.later, c.link.ensures.cause.later);
        follows = g.met.S.Space.transitive _ _ _ inv.follows c.link.ensures.follows;
      }
    ]
