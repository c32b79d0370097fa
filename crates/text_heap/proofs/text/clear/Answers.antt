use Rattle.std.proofs.Common.{◌≡◌, [], ap, sym, ◌∙◌, subst}
use Rattle.eu_base.specs.Spaces.{Content}
use Rattle.text_heap.specs.Blocks.{length_in, first_in}
use Rattle.text_heap.specs.Texts.{Holds, KeepsCells}
use Rattle.text_heap.proofs.Setting.{empty_fits, was_stored}
use Rattle.text_heap.proofs.text.clear.Goals as goal

pub returns-clause-clears : goal.returns-clause-clears
returns-clause-clears g c = λ known texts h some.
    let content = g.S.Space.content in
    let before = content c.args.space.now in
    let kept : content c.read_hint.new.space ≡ before = c.in_ok-hint.ensures.kept ∙ c.in_ok-old.ensures.kept in
    let few = empty_fits before texts h c.args.cell c.requires some in
    was_stored (content c.read_hint.new.space) (content c.replace.new.space) texts c.args.cell [] _ few
    (c.in_ok-replace.ensures.sets (g.met.S.Space.stays_known _ _ (g.met.S.Space.transitive _ _ _ c.read_entry.ensures.follows c.read_hint.ensures.follows) known) ((c.in_ok-old.ensures.entry known).0 ∙ ap (λ (x : Content). length_in x c.args.cell) (sym kept)) ((c.in_ok-old.ensures.entry known).1 ∙ ap (λ (x : Content). first_in x c.args.cell) (sym kept)) texts (subst (λ x. Holds x texts) (sym kept) h) some few)

pub returns-clause-cells : goal.returns-clause-cells
returns-clause-cells g c = λ known.
    let content = g.S.Space.content in
    let before = content c.args.space.now in
    let kept : content c.read_hint.new.space ≡ before = c.in_ok-hint.ensures.kept ∙ c.in_ok-old.ensures.kept in
    subst (λ x. KeepsCells x (content c.replace.new.space) c.args.cell) kept (c.in_ok-replace.ensures.cells (g.met.S.Space.stays_known _ _ (g.met.S.Space.transitive _ _ _ c.read_entry.ensures.follows c.read_hint.ensures.follows) known) ((c.in_ok-old.ensures.entry known).0 ∙ ap (λ (x : Content). length_in x c.args.cell) (sym kept)) ((c.in_ok-old.ensures.entry known).1 ∙ ap (λ (x : Content). first_in x c.args.cell) (sym kept)))

pub returns-clause-follows : goal.returns-clause-follows
returns-clause-follows g c =
    let two = g.met.S.Space.transitive _ _ _ c.read_entry.ensures.follows c.read_hint.ensures.follows in
    g.met.S.Space.transitive _ _ _ two c.replace.ensures.follows

pub returns-in_err-hint-clause-follows : goal.returns-in_err-hint-clause-follows
returns-in_err-hint-clause-follows g c = g.met.S.Space.transitive _ _ _ c.read_entry.ensures.follows c.read_hint.ensures.follows

pub returns-in_err-replace-clause-follows : goal.returns-in_err-replace-clause-follows
returns-in_err-replace-clause-follows g c =
    let two = g.met.S.Space.transitive _ _ _ c.read_entry.ensures.follows c.read_hint.ensures.follows in
    g.met.S.Space.transitive _ _ _ two c.replace.ensures.follows
