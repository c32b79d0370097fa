use Rattle.std.proofs.Common.{◌+◌, ◌*◌, ◌<◌, length, ap, ◌∙◌, subst}
use Rattle.cell_layout.specs.Layout.{HoldsIn}
use Rattle.text_heap.specs.Blocks.{blocks_of, free_in}
use Rattle.text_heap.specs.Chains.{Filled}
use Rattle.text_heap.proofs.Spreading.{hinted}
use Rattle.text_heap.proofs.Setting.{Released, has_room, never_full, sets, hint_cells, keeps_cells, keeps_all}
use Rattle.text_heap.proofs.replace.replace.Goals as goal

pub returns-in_default-clause-sets : goal.returns-in_default-clause-sets
returns-in_default-clause-sets g c = λ known long start texts h some few.
    let content = g.S.Space.content in
    let before = content c.args.space.now in
    let middle = content c.release.new.space in
    let first = c.args.old.first in
    let had = c.blocks-had.result in
    let freed : Released before middle c.args.cell first had =
    record { first_is = start; had_is = c.blocks-had.ensures ∙ ap blocks_of long; releases = c.in_ok-from.ensures.releases known } in
    let le = has_room before texts h c.args.cell c.requires.cell some c.args.t.now had freed.had_is few in
    let lt : free_in middle 4096 < blocks_of (length c.args.t.now) = rw c.in_default.is at c.in_ok-first.ensures.made (g.met.S.Space.stays_known _ _ c.release.ensures.follows known) in
    absurd (never_full before texts h c.args.cell c.requires.cell some middle c.args.t.now first had freed le lt)

pub returns-in_default-clause-cells : goal.returns-in_default-clause-cells
returns-in_default-clause-cells g c = λ known long start.
    let content = g.S.Space.content in
    let before = content c.args.space.now in
    let middle = content c.release.new.space in
    let first = c.args.old.first in
    let had = c.blocks-had.result in
    let freed : Released before middle c.args.cell first had =
    record { first_is = start; had_is = c.blocks-had.ensures ∙ ap blocks_of long; releases = c.in_ok-from.ensures.releases known } in
    keeps_all before middle (content c.spread.new.space) c.args.cell first had freed (c.in_ok-first.ensures.cells (g.met.S.Space.stays_known _ _ c.release.ensures.follows known))

pub returns-clause-sets : goal.returns-clause-sets
returns-clause-sets g c = λ known long start texts h some few.
    let content = g.S.Space.content in
    let before = content c.args.space.now in
    let middle = content c.release.new.space in
    let first = c.args.old.first in
    let had = c.blocks-had.result in
    let freed : Released before middle c.args.cell first had =
    record { first_is = start; had_is = c.blocks-had.ensures ∙ ap blocks_of long; releases = c.in_ok-from.ensures.releases known } in
    let le = has_room before texts h c.args.cell c.requires.cell some c.args.t.now had freed.had_is few in
    let spread = content c.spread.new.space in
    let later = content c.move_hint.new.space in
    let now = content c.put.new.space in
    let made : (c.in-Some.first < 4096) × Filled middle spread c.in-Some.first c.args.t.now = rw c.in-Some.is at c.in_ok-first.ensures.made (g.met.S.Space.stays_known _ _ c.release.ensures.follows known) in
    let filled = hinted middle spread later c.in-Some.first c.args.t.now made.1 (c.in_ok-move_hint.ensures.kept (g.met.S.Space.stays_known _ _ (g.met.S.Space.transitive _ _ _ c.release.ensures.follows c.spread.ensures.follows) known)) in
    let holds = subst (λ n. HoldsIn later now c.args.cell (length c.args.t.now + 4294967296 * n)) c.from.ensures (c.in_ok-put.ensures.holds (g.met.S.Space.stays_known _ _ (g.met.S.Space.transitive _ _ _ (g.met.S.Space.transitive _ _ _ c.release.ensures.follows c.spread.ensures.follows) c.move_hint.ensures.follows) known)) in
    sets before texts h c.args.cell c.requires.cell some middle later now c.args.t.now first had c.in-Some.first freed le made.0 filled
    holds (c.in_ok-put.ensures.kept (g.met.S.Space.stays_known _ _ (g.met.S.Space.transitive _ _ _ (g.met.S.Space.transitive _ _ _ c.release.ensures.follows c.spread.ensures.follows) c.move_hint.ensures.follows) known))

pub returns-clause-cells : goal.returns-clause-cells
returns-clause-cells g c = λ known long start.
    let content = g.S.Space.content in
    let before = content c.args.space.now in
    let middle = content c.release.new.space in
    let first = c.args.old.first in
    let had = c.blocks-had.result in
    let freed : Released before middle c.args.cell first had =
    record { first_is = start; had_is = c.blocks-had.ensures ∙ ap blocks_of long; releases = c.in_ok-from.ensures.releases known } in
    let spread = content c.spread.new.space in
    let later = content c.move_hint.new.space in
    keeps_cells before middle later (content c.put.new.space) c.args.cell first had freed
    (λ n low. hint_cells spread later (c.in_ok-move_hint.ensures.kept (g.met.S.Space.stays_known _ _ (g.met.S.Space.transitive _ _ _ c.release.ensures.follows c.spread.ensures.follows) known)) n low ∙ c.in_ok-first.ensures.cells (g.met.S.Space.stays_known _ _ c.release.ensures.follows known) n low)
    (c.in_ok-put.ensures.kept (g.met.S.Space.stays_known _ _ (g.met.S.Space.transitive _ _ _ (g.met.S.Space.transitive _ _ _ c.release.ensures.follows c.spread.ensures.follows) c.move_hint.ensures.follows) known))

pub returns-clause-follows : goal.returns-clause-follows
returns-clause-follows g c =
    let two = g.met.S.Space.transitive _ _ _ c.release.ensures.follows c.spread.ensures.follows in
    let three = g.met.S.Space.transitive _ _ _ two c.move_hint.ensures.follows in
    g.met.S.Space.transitive _ _ _ three c.put.ensures.follows

pub returns-in_default-clause-follows : goal.returns-in_default-clause-follows
returns-in_default-clause-follows g c = g.met.S.Space.transitive _ _ _ c.release.ensures.follows c.spread.ensures.follows

pub returns-in_err-put-clause-follows : goal.returns-in_err-put-clause-follows
returns-in_err-put-clause-follows g c =
    let two = g.met.S.Space.transitive _ _ _ c.release.ensures.follows c.spread.ensures.follows in
    let three = g.met.S.Space.transitive _ _ _ two c.move_hint.ensures.follows in
    g.met.S.Space.transitive _ _ _ three c.put.ensures.follows

pub returns-in_err-move_hint-clause-follows : goal.returns-in_err-move_hint-clause-follows
returns-in_err-move_hint-clause-follows g c =
    let two = g.met.S.Space.transitive _ _ _ c.release.ensures.follows c.spread.ensures.follows in
    g.met.S.Space.transitive _ _ _ two c.move_hint.ensures.follows

pub returns-in_err-first-clause-follows : goal.returns-in_err-first-clause-follows
returns-in_err-first-clause-follows g c = g.met.S.Space.transitive _ _ _ c.release.ensures.follows c.spread.ensures.follows
