use Rattle.std.proofs.Common.{arith, ◌≡◌, ◌-◌, refl, ap, ◌∙◌}
use Rattle.text_heap.specs.Blocks.{met, total, used_in, link_in}
use Rattle.text_heap.proofs.Totals.{total_none}
use Rattle.text_heap.proofs.Pieces.{free_met_all, met_more}
use Rattle.text_heap.proofs.search.first_free.Goals as goal

pub loop-k-init : goal.loop-k-init
loop-k-init g c = record {
  passed = λ known. total_none (λ k. 1 - used_in (g.S.Space.content c.args.space.now) (met c.args.from k));
  same = refl;
  later = omega arith;
  follows = g.met.S.Space.reflexive _;
}

pub loop-k-preserved : goal.loop-k-preserved
loop-k-preserved g c =
    let inv = c.loop-k.invariant in
    let content = g.S.Space.content c.args.space.now in
    let link_is : g.S.Space.known c.args.space.now → c.in_ok-link.field-0 ≡ link_in content (met c.args.from c.loop-k.k) =
    λ known. c.in_ok-link.ensures.link (g.met.S.Space.stays_known _ _ inv.follows known) ∙ ap (λ x. link_in x c.block_met-block.result) inv.same ∙ ap (link_in content) c.block_met-block.ensures in
    let more = met_more content c.args.from c.loop-k.k in record {
      passed = λ known. omega (arith, c.if-branch-eq0.false, inv.passed known, link_is known, more);
      same = c.in_ok-link.ensures.kept ∙ inv.same;
      later = omega (arith, inv.later, c.link.ensures.cause.later);
      follows = g.met.S.Space.transitive _ _ _ inv.follows c.link.ensures.follows;
    }

pub returns-clause-free : goal.returns-clause-free
returns-clause-free g c = λ known some free.
    let content = g.S.Space.content c.args.space.now in
    let all = free_met_all content c.args.from in
    let end : c.loop-k.k ≡ 4096 = omega (arith, c.loop-k-test.false, c.loop-k.auto.k-end) in
    let passed = ap (λ k. total (λ j. 1 - used_in content (met c.args.from j)) k) end in
    absurd (omega (arith, free, all, passed, c.loop-k.invariant.passed known))
