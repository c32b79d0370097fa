use Rattle.std.proofs.Common.{arith, suc, ◌≡◌, ◌⊎◌, ◌+◌, ◌-◌, ◌*◌, ◌/◌, ◌%◌, ◌≤◌, inl, inr, length, drop, take, refl, sym, ap, ◌∙◌, subst}
use Rattle.std.proofs.Math.Seq.{drop-length}
use Rattle.text_heap.specs.Blocks.{met, link_in, blocks_of, free_in, Fills}
use Rattle.text_heap.specs.Chains.{Filled}
use Rattle.text_heap.proofs.Totals.{total_none}
use Rattle.text_heap.proofs.Pieces.{free_met, free_met_all}
use Rattle.text_heap.proofs.Spreading.{Filling, none_filling, passed, spread_step, count_step, count_passed, too_few}
use Rattle.text_heap.proofs.search.spread.Goals.{then-branch-eq0+in_ok-fill, else-branch-eq0}
use Rattle.text_heap.proofs.search.spread.Goals as goal

pub loop-k-init : goal.loop-k-init
loop-k-init g c =
    let content = g.S.Space.content c.args.space.now in record {
      low = omega arith;
      within = omega arith;
      whole = inr refl;
      filling = λ known. subst (Filling content content c.args.from 0 0) (sym (drop-length c.args.t.now)) (none_filling content c.args.from 0 0);
      count = λ known some. let z : length c.args.t.now - length c.args.t.now ≡ 0 = omega arith in ap blocks_of z ∙ sym (total_none _);
      later = omega arith;
      follows = g.met.S.Space.reflexive _;
    }

pub loop-k-preserved : goal.loop-k-preserved
loop-k-preserved g c =
    let inv = c.loop-k.invariant in
    let content = g.S.Space.content c.args.space.now in
    let now = g.S.Space.content c.loop-k.space in
    let from = c.args.from in
    let t = c.args.t.now in
    let left = c.loop-k.left in
    let under = c.loop-k-test.true in
    let next : suc c.loop-k.k ≡ c.loop-k.k + 1 = omega arith in
    let Known = g.S.Space.known c.args.space.now in
    let at : Known → g.S.Space.known c.loop-k.space = g.met.S.Space.stays_known _ _ inv.follows in
    let link_is : Known → c.in_ok-link.field-0 ≡ link_in now (met from c.loop-k.k) = λ known. c.in_ok-link.ensures.link (at known) ∙ ap (link_in now) c.block_met-block.ensures in
    elim c.if-branch-eq0.branch [
      | then-branch-eq0+in_ok-fill w ↦
          let start = (left - 1) / 28 * 28 in
          let later = g.S.Space.content w.fill.new.space in
          let some : 1 ≤ left = omega (arith, c.if-left-eq0.false) in
          let free : Known → link_in now (met from c.loop-k.k) ≡ 0 = λ known. sym (link_is known) ∙ w.if-branch-eq0.true in
          let piece = take (left - start) (drop start t) in
          let block = c.block_met-block.result in
          let filled = λ (known : Known). subst (λ x. Fills x later block c.loop-k.next piece) c.in_ok-link.ensures.kept
          (w.in_ok-fill.ensures.fills (g.met.S.Space.stays_known _ _ c.link.ensures.follows (at known))) in
          let fills : Known → Fills now later (met from c.loop-k.k) c.loop-k.next piece =
          λ known. subst (λ b. Fills now later b c.loop-k.next piece) c.block_met-block.ensures (filled known) in
          let all = λ (known : Known). spread_step content now from c.loop-k.k c.loop-k.next t left start some inv.within inv.whole refl under (inv.filling known) (free known)
          later inv.low (fills known) in
          let counted = λ (known : Known). count_step content now from c.loop-k.k c.loop-k.next t left start some inv.within inv.whole refl under (inv.filling known) (free known)
          (inv.count known (omega (arith, some))) in
          let space_is : g.S.Space.content c.if-branch-eq0.space ≡ later = ap g.S.Space.content w.space-is in
          let next_is : c.if-branch-eq0.next ≡ met from c.loop-k.k = w.next-is ∙ c.block_met-block.ensures in
          record {
            low = omega (arith, next_is);
            within = omega (arith, w.left-is, inv.within);
            whole = inl (omega (arith, w.left-is));
            filling = λ known. subst (λ x. Filling content x from (c.loop-k.k + 1) c.if-branch-eq0.next (drop c.if-branch-eq0.left t)) (sym space_is)
                (subst (λ n. Filling content later from (c.loop-k.k + 1) n (drop c.if-branch-eq0.left t)) (sym next_is)
                (subst (λ n. Filling content later from (c.loop-k.k + 1) (met from c.loop-k.k) (drop n t)) (sym w.left-is)
                (subst (λ n. Filling content later from n (met from c.loop-k.k) (drop start t)) next (all known))));
            count = λ known more. ap (λ n. blocks_of (length t - n)) w.left-is ∙ counted known;
            later = let e = ap g.S.Space.faults w.space-is in omega (arith, e, inv.later, c.link.ensures.cause.later, w.fill.ensures.cause.later);
            follows = subst (g.S.Space.follows c.args.space.now) (sym w.space-is)
                (g.met.S.Space.transitive _ _ _ inv.follows (g.met.S.Space.transitive _ _ _ c.link.ensures.follows w.fill.ensures.follows));
          }
      | else-branch-eq0 w ↦
          let used : Known → link_in now (met from c.loop-k.k) ≡ 0 → ⊥ = λ known e. absurd (omega (arith, e, link_is known, w.if-branch-eq0.false)) in
          let space_is : c.if-branch-eq0.space ≡ c.link.new.space = w.space-is in
          let same : g.S.Space.content c.if-branch-eq0.space ≡ now = ap g.S.Space.content space_is ∙ c.in_ok-link.ensures.kept in
          let still = λ (known : Known). passed content now from c.loop-k.k (suc c.loop-k.k) c.loop-k.next (drop left t) (omega arith) (inv.filling known) in
          record {
            low = omega (arith, w.next-is, inv.low);
            within = omega (arith, w.left-is, inv.within);
            whole = subst (λ n. (n % 28 ≡ 0) ⊎ (n ≡ length t)) (sym w.left-is) inv.whole;
            filling = λ known. subst (λ x. Filling content x from (c.loop-k.k + 1) c.if-branch-eq0.next (drop c.if-branch-eq0.left t)) (sym same)
                (subst (λ n. Filling content now from (c.loop-k.k + 1) n (drop c.if-branch-eq0.left t)) (sym w.next-is)
                (subst (λ n. Filling content now from (c.loop-k.k + 1) c.loop-k.next (drop n t)) (sym w.left-is)
                (subst (λ n. Filling content now from n c.loop-k.next (drop left t)) next (still known))));
            count = λ known more. ap (λ n. blocks_of (length t - n)) w.left-is
                ∙ count_passed content now from c.loop-k.k c.loop-k.next (drop left t) (blocks_of (length t - left)) under (inv.filling known) (used known)
                (inv.count known (omega (arith, more, w.left-is)));
            later = let e = ap g.S.Space.faults space_is in omega (arith, e, inv.later, c.link.ensures.cause.later);
            follows = subst (g.S.Space.follows c.args.space.now) (sym w.space-is) (g.met.S.Space.transitive _ _ _ inv.follows c.link.ensures.follows);
          }
    ]

pub returns-then-left-eq0-clause-made : goal.returns-then-left-eq0-clause-made
returns-then-left-eq0-clause-made g c = λ known.
    let inv = c.loop-k.invariant in
    let none : c.loop-k.left ≡ 0 = omega (arith, c.if-left-eq0.true) in
    let all : drop c.loop-k.left c.args.t.now ≡ c.args.t.now = ap (λ n. drop n c.args.t.now) none in
    (inv.low, subst (Filled (g.S.Space.content c.args.space.now) (g.S.Space.content c.loop-k.space) c.loop-k.next) all (inv.filling known).filled)

pub returns-then-left-eq0-clause-cells : goal.returns-then-left-eq0-clause-cells
returns-then-left-eq0-clause-cells g c = λ known. (c.loop-k.invariant.filling known).filled.cells

pub returns-then-left-gt0-clause-made : goal.returns-then-left-gt0-clause-made
returns-then-left-gt0-clause-made g c = λ known.
    let inv = c.loop-k.invariant in
    let content = g.S.Space.content c.args.space.now in
    let end : c.loop-k.k ≡ 4096 = omega (arith, c.loop-k-test.false, c.loop-k.auto.k-end) in
    let all = ap (free_met content c.args.from) end ∙ free_met_all content c.args.from in
    let some : 1 ≤ c.loop-k.left = omega (arith, c.if-left-gt0.true) in
    too_few c.loop-k.left (length c.args.t.now) (free_in content 4096) some inv.within inv.whole (inv.count known (omega (arith, some)) ∙ all)
