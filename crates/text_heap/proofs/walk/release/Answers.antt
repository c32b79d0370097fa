use Rattle.std.proofs.Common.{arith, suc, ◌≡◌, ◌+◌, ◌-◌, ◌%◌, ap, ◌∙◌, subst}
use Rattle.text_heap.specs.Blocks.{next_in, Frees}
use Rattle.text_heap.specs.Chains.{Releases}
use Rattle.text_heap.proofs.Pieces.{release_one, release_none}
use Rattle.text_heap.proofs.walk.release.Goals as goal

pub loop-done-preserved : goal.loop-done-preserved
loop-done-preserved g c =
    let inv = c.loop-done.invariant in
    let now = g.S.Space.content c.loop-done.space in
    let later = g.S.Space.content c.free.new.space in
    let block = c.loop-done.block in
    let left = c.args.count - (c.loop-done.done + 1) in
    let at : g.S.Space.known c.args.space.now → g.S.Space.known c.loop-done.space = g.met.S.Space.stays_known _ _ inv.follows in
    let next_is : g.S.Space.known c.args.space.now → c.next-block.result ≡ next_in now block = λ known. c.next-block.ensures ∙ ap (λ l. (l - 1) % 4096) (c.in_ok-link.ensures.link (at known)) in
    let size : suc left ≡ c.args.count - c.loop-done.done = omega (arith, c.loop-done-test.true) in
    let frees = λ (known : g.S.Space.known c.args.space.now). subst (λ x. Frees x later block) c.in_ok-link.ensures.kept
    (c.in_ok-free.ensures.frees (g.met.S.Space.stays_known _ _ c.link.ensures.follows (at known))) in
    record {
      low = omega (arith, c.next-block.ensures);
      lowest = omega (arith, inv.lowest, c.min-lowest.ensures);
      releases = λ known last h. inv.releases known last
          (subst (Releases now last block) size
          (release_one now later last block left (frees known) (subst (λ k. Releases later last k left) (next_is known) h)));
      later = omega (arith, inv.later, c.link.ensures.cause.later, c.free.ensures.cause.later);
      follows = g.met.S.Space.transitive _ _ _ inv.follows (g.met.S.Space.transitive _ _ _ c.link.ensures.follows c.free.ensures.follows);
    }

pub returns-clause-releases : goal.returns-clause-releases
returns-clause-releases g c = λ known.
    let now = g.S.Space.content c.loop-done.space in
    let none : 0 ≡ c.args.count - c.loop-done.done = omega (arith, c.loop-done-test.false) in
    c.loop-done.invariant.releases known now (subst (Releases now now c.loop-done.block) none (release_none now c.loop-done.block))
