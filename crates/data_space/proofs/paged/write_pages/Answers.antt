use Rattle.std.proofs.Common.{◌≡◌, ◌∙◌, inl, inr, ◌+◌, ◌-◌, ◌/◌, length, take, sym, subst, arith, length-take}
use Rattle.std.proofs.lemmas.Bool.{cases_eq}
use Rattle.page_table.specs.Own.{Owns}
use Rattle.page_table.proofs.Framing.{frames_then, stands_after, homes_backed}
use Rattle.data_space.specs.Spaces.{pages_met}
use Rattle.data_space.proofs.Changed.{met_is, path_then}
use Rattle.data_space.proofs.Pasting.{outside, then_pasted, next_chunk}
use Rattle.data_space.proofs.paged.write_pages.Goals as goal

pub write_page-requires-clause-agree : goal.write_page-requires-clause-agree
write_page-requires-clause-agree g c = stands_after _ _ _ _ 0 0 (omega arith) c.loop-done.invariant.frames c.requires.agree

pub loop-done-preserved : goal.loop-done-preserved
loop-done-preserved g c =
    let least = c.min-len.ensures in
    let front : length (take c.loop-done.done c.args.from.now) ≡ c.loop-done.done = simp length-take (omega (arith, c.loop-done.invariant.within)) in
    let changed = c.loop-done.invariant.changed_page c.loop-done-test.true in
    let owned = c.loop-done.invariant.owned c.loop-done-test.true in
    let met = met_is c.args.at (c.loop-done.done + c.min-len.result) (omega (arith, least, c.loop-done-test.true)) in
    let page = c.loop-done.invariant.page c.loop-done-test.true in
    record {
      within = omega (arith, least, c.loop-done-test.true);
      written = λ known. then_pasted _ _ _ c.args.at _ (take c.loop-done.done c.args.from.now) _ (take (c.loop-done.done + c.min-len.result) c.args.from.now)
          (c.loop-done.invariant.written known) (omega (arith, front)) (c.in_ok-write_page.ensures.written (c.loop-done.invariant.frames.knows known))
          (next_chunk c.loop-done.done c.min-len.result c.args.from.now);
      frames = frames_then _ _ _ _ _ _ (omega arith) c.loop-done.invariant.frames c.in_ok-write_page.ensures.frames;
      changes =
          path_then _ _ _ _ _ (c.args.at / 512) ((c.args.at + c.loop-done.done) / 512) (pages_met c.args.at (c.loop-done.done + c.min-len.result)) changed owned
          c.in_ok-write_page.ensures.keeps c.in_ok-write_page.ensures.changes (omega arith) (omega (arith, least, met, c.loop-done-test.true));
      changed_page =
          λ more. path_then _ _ _ _ _ (c.args.at / 512) ((c.args.at + c.loop-done.done) / 512)
          ((c.args.at + (c.loop-done.done + c.min-len.result)) / 512 - c.args.at / 512) changed owned
          c.in_ok-write_page.ensures.keeps c.in_ok-write_page.ensures.changes (omega arith) (omega (arith, least, more, c.loop-done-test.true));
      owned = λ more k from low. elim (cases_eq k ((c.args.at + c.loop-done.done) / 512)) [
        | inl e ↦ subst (Owns c.write_page.new.pool 2 c.write_page.new.table) (sym e) c.in_ok-write_page.ensures.owned
        | inr ne ↦ (c.in_ok-write_page.ensures.keeps k (owned k from (omega (arith, least, more, low, ne)))).own
      ];
      used = omega (arith, least, met, page, c.in_ok-write_page.ensures.used, c.loop-done-test.true);
      page = λ more. omega (arith, least, page, c.in_ok-write_page.ensures.used, more);
      follows = g.met.B.Backing.transitive c.args.backing.now c.loop-done.backing c.write_page.new.backing c.loop-done.invariant.follows c.write_page.ensures.follows;
      later = omega (arith, c.loop-done.invariant.later, c.write_page.ensures.cause.later);
    }

pub returns-in_err-write_page-clause-changes : goal.returns-in_err-write_page-clause-changes
returns-in_err-write_page-clause-changes g c =
    let met = met_is c.args.at (length c.args.from.now) (omega (arith, c.loop-done-test.true)) in
    path_then _ _ _ _ _ (c.args.at / 512) ((c.args.at + c.loop-done.done) / 512) (pages_met c.args.at (length c.args.from.now))
    (c.loop-done.invariant.changed_page c.loop-done-test.true) (c.loop-done.invariant.owned c.loop-done-test.true)
    c.write_page.ensures.keeps c.write_page.ensures.changes (omega arith) (omega (arith, met, c.loop-done-test.true))

pub returns-in_err-write_page-clause-kept : goal.returns-in_err-write_page-clause-kept
returns-in_err-write_page-clause-kept g c known n far =
    let least = c.min-len.ensures in
    let so_far = take c.loop-done.done c.args.from.now in
    let front : length so_far ≡ c.loop-done.done = simp length-take (omega (arith, c.loop-done.invariant.within)) in
    let kept = outside _ _ c.args.at so_far (c.loop-done.invariant.written known) n in
    elim far [
      | inl low ↦ c.write_page.ensures.kept (c.loop-done.invariant.frames.knows known) n (inl (omega (arith, low))) ∙ kept (inl low)
      | inr past ↦
          c.write_page.ensures.kept (c.loop-done.invariant.frames.knows known) n (inr (omega (arith, least, past, c.loop-done-test.true)))
          ∙ kept (inr (omega (arith, front, past, c.loop-done.invariant.within)))
    ]

pub returns-in_err-write_page-clause-used : goal.returns-in_err-write_page-clause-used
returns-in_err-write_page-clause-used g c =
    let met = met_is c.args.at (length c.args.from.now) (omega (arith, c.loop-done-test.true)) in
    omega (arith, met, c.loop-done.invariant.page c.loop-done-test.true, c.write_page.ensures.used, c.loop-done-test.true)

pub returns-in_err-write_page-clause-frames : goal.returns-in_err-write_page-clause-frames
returns-in_err-write_page-clause-frames g c = frames_then _ _ _ _ _ _ (omega arith) c.loop-done.invariant.frames c.write_page.ensures.frames

pub write_page-requires-clause-backed : goal.write_page-requires-clause-backed
write_page-requires-clause-backed g c = homes_backed c.args.pool.now c.loop-done.pool
    (g.met.B.Backing.same_held c.args.backing.now c.loop-done.backing c.loop-done.invariant.follows) c.loop-done.invariant.frames.homes c.requires.backed
