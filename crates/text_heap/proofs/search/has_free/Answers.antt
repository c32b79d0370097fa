use Rattle.std.proofs.Common.{arith, ◌≡◌, ◌-◌, ◌≤◌, refl, ap, ◌∙◌}
use Rattle.std.proofs.lemmas.Bool.Decides.{nat_tests}
use Rattle.text_heap.specs.Blocks.{met, total, free_in, used_in, link_in}
use Rattle.text_heap.proofs.Totals.{total_none, total_grows}
use Rattle.text_heap.proofs.Pieces.{free_met_all, met_more}
use Rattle.text_heap.proofs.search.has_free.Goals.{then-branch-eq0, else-branch-eq0}
use Rattle.text_heap.proofs.search.has_free.Goals as goal

pub loop-k-init : goal.loop-k-init
loop-k-init g c = record {
  passed = λ known. let e = total_none (λ k. 1 - used_in (g.S.Space.content c.args.space.now) (met c.args.from k)) in omega (arith, e);
  same = refl;
  later = omega arith;
  follows = g.met.S.Space.reflexive _;
}

pub loop-k-preserved : goal.loop-k-preserved
loop-k-preserved g c =
    let inv = c.loop-k.invariant in
    let content = g.S.Space.content c.args.space.now in
    let link_is : g.S.Space.known c.args.space.now → c.in_ok-link.field-0 ≡ link_in content (met c.args.from c.loop-k.k) =
    λ known. c.in_ok-link.ensures.link (g.met.S.Space.stays_known _ _ inv.follows known) ∙ ap (λ x. link_in x c.block_met.result) inv.same ∙ ap (link_in content) c.block_met.ensures in
    let more = met_more content c.args.from c.loop-k.k in record {
      passed = λ known. elim c.if-branch-eq0.branch [
        | then-branch-eq0 w ↦ omega (arith, w.left-is, w.if-branch-eq0.true, inv.passed known, link_is known, more, c.if-left-eq0.false)
        | else-branch-eq0 w ↦ omega (arith, w.left-is, w.if-branch-eq0.false, inv.passed known, link_is known, more)
      ];
      same = c.in_ok-link.ensures.kept ∙ inv.same;
      later = omega (arith, inv.later, c.link.ensures.cause.later);
      follows = g.met.S.Space.transitive _ _ _ inv.follows c.link.ensures.follows;
    }

pub returns-then-left-eq0-clause-has : goal.returns-then-left-eq0-clause-has
returns-then-left-eq0-clause-has g c = λ known.
    let inv = c.loop-k.invariant in
    let content = g.S.Space.content c.args.space.now in
    let most = total_grows (λ k. 1 - used_in content (met c.args.from k)) c.loop-k.k 4096 (omega (arith, c.loop-k.auto.k-end)) in
    let all = free_met_all content c.args.from in
    let le : c.args.wanted ≤ free_in content 4096 = omega (arith, inv.passed known, c.if-left-eq0.true, most, all) in
    grind (arith, nat_tests, le)

pub returns-clause-has : goal.returns-clause-has
returns-clause-has g c = λ known.
    let inv = c.loop-k.invariant in
    let content = g.S.Space.content c.args.space.now in
    let all = free_met_all content c.args.from in
    let end : c.loop-k.k ≡ 4096 = omega (arith, c.loop-k-test.false, c.loop-k.auto.k-end) in
    let passed = ap (λ k. total (λ j. 1 - used_in content (met c.args.from j)) k) end in
    grind (arith, nat_tests, all, passed, inv.passed known)
