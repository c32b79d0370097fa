use Rattle.std.proofs.Common.{arith, ◌≡◌, ◌+◌, ◌<◌, ◌≤◌, length, sym, ap, ◌∙◌, subst}
use Rattle.text_heap.specs.Blocks.{blocks_of, length_in, first_in, free_in}
use Rattle.eu_base.specs.Spaces.{Content}
use Rattle.text_heap.specs.Texts.{Holds, Sets, KeepsCells}
use Rattle.text_heap.proofs.Setting.{full, fits}
use Rattle.text_heap.proofs.text.set.Goals as goal

pub returns-in_default-clause-sets : goal.returns-in_default-clause-sets
returns-in_default-clause-sets g c = λ known texts h some.
    let content = g.S.Space.content in
    let before = content c.args.space.now in
    let read = content c.read_entry.new.space in
    let had = c.blocks-had.result in
    let had_is : had ≡ blocks_of (length_in before c.args.cell) = c.blocks-had.ensures ∙ ap blocks_of (c.in_ok-old.ensures.entry known).0 in
    let few : free_in read 4096 < c.saturating_sub-wanted.result = rw c.in_default.is at c.in_ok-room.ensures.room (g.met.S.Space.stays_known _ _ c.read_entry.ensures.follows known) in
    let lt = subst (λ x. free_in x 4096 < c.saturating_sub-wanted.result) c.in_ok-old.ensures.kept few in (
      full before texts h c.args.cell c.requires some c.args.t.now had had_is (omega (arith, lt, c.saturating_sub-wanted.ensures, c.blocks-needed.ensures)),
      λ n. ap (λ x. x n) (c.in_ok-room.ensures.kept ∙ c.in_ok-old.ensures.kept),
    )

pub returns-clause-sets : goal.returns-clause-sets
returns-clause-sets g c = λ known texts h some.
    let content = g.S.Space.content in
    let before = content c.args.space.now in
    let read = content c.read_entry.new.space in
    let now = content c.replace.new.space in
    let had = c.blocks-had.result in
    let had_is : had ≡ blocks_of (length_in before c.args.cell) = c.blocks-had.ensures ∙ ap blocks_of (c.in_ok-old.ensures.entry known).0 in
    let kept : content c.find_room.new.space ≡ before = c.in_ok-room.ensures.kept ∙ c.in_ok-old.ensures.kept in
    let found : c.saturating_sub-wanted.result ≤ free_in read 4096 =
    rw c.in-Some.is at c.in_ok-room.ensures.room (g.met.S.Space.stays_known _ _ c.read_entry.ensures.follows known) in
    let enough = subst (λ x. c.saturating_sub-wanted.result ≤ free_in x 4096) c.in_ok-old.ensures.kept found in
    let le : blocks_of (length c.args.t.now) ≤ free_in before 4096 + had = omega (arith, enough, c.saturating_sub-wanted.ensures, c.blocks-needed.ensures) in
    let few = fits before texts h c.args.cell c.requires some c.args.t.now had had_is le in
    subst (λ x. Sets x now texts c.args.cell c.args.t.now c.in_ok-set.set) kept
    (c.in_ok-set.ensures.sets (g.met.S.Space.stays_known _ _ (g.met.S.Space.transitive _ _ _ c.read_entry.ensures.follows c.find_room.ensures.follows) known) ((c.in_ok-old.ensures.entry known).0 ∙ ap (λ (x : Content). length_in x c.args.cell) (sym kept)) ((c.in_ok-old.ensures.entry known).1 ∙ ap (λ (x : Content). first_in x c.args.cell) (sym kept)) texts (subst (λ x. Holds x texts) (sym kept) h) some few)

pub returns-clause-cells : goal.returns-clause-cells
returns-clause-cells g c = λ known.
    let content = g.S.Space.content in
    let before = content c.args.space.now in
    let kept : content c.find_room.new.space ≡ before = c.in_ok-room.ensures.kept ∙ c.in_ok-old.ensures.kept in
    subst (λ x. KeepsCells x (content c.replace.new.space) c.args.cell) kept (c.in_ok-set.ensures.cells (g.met.S.Space.stays_known _ _ (g.met.S.Space.transitive _ _ _ c.read_entry.ensures.follows c.find_room.ensures.follows) known) ((c.in_ok-old.ensures.entry known).0 ∙ ap (λ (x : Content). length_in x c.args.cell) (sym kept)) ((c.in_ok-old.ensures.entry known).1 ∙ ap (λ (x : Content). first_in x c.args.cell) (sym kept)))

pub returns-clause-follows : goal.returns-clause-follows
returns-clause-follows g c =
    let two = g.met.S.Space.transitive _ _ _ c.read_entry.ensures.follows c.find_room.ensures.follows in
    g.met.S.Space.transitive _ _ _ two c.replace.ensures.follows

pub returns-in_default-clause-follows : goal.returns-in_default-clause-follows
returns-in_default-clause-follows g c = g.met.S.Space.transitive _ _ _ c.read_entry.ensures.follows c.find_room.ensures.follows

pub returns-in_err-room-clause-follows : goal.returns-in_err-room-clause-follows
returns-in_err-room-clause-follows g c = g.met.S.Space.transitive _ _ _ c.read_entry.ensures.follows c.find_room.ensures.follows

pub returns-in_err-set-clause-follows : goal.returns-in_err-set-clause-follows
returns-in_err-set-clause-follows g c =
    let two = g.met.S.Space.transitive _ _ _ c.read_entry.ensures.follows c.find_room.ensures.follows in
    g.met.S.Space.transitive _ _ _ two c.replace.ensures.follows
