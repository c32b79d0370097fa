use Rattle.std.proofs.Common.{List, ℕ, [], ◌+◌, drop, refl, sym, subst}
use Rattle.std.specs.List.{list_any}
use Rattle.std.specs.Str.{bytes_eq}
use Rattle.elan_scope.specs.Phrase as form
use Rattle.elan_scope.specs.Phrase.{leaf}
use Rattle.elan_scope.specs.Answer.{Is}
use Rattle.elan_check.specs.Below.elan_rules.specs.Meaning.{judged}
use Rattle.elan_judge.specs.Level.{exports, export_name, export_place, may_show}
use Rattle.elan_check.proofs.Routines.{Grown, exports_go, left_none}
use Rattle.elan_check.proofs.shown.judge_all.Goals as goal

pub loop-export-preserved : goal.loop-export-preserved
loop-export-preserved c = λ k w d.
    let s = c.args.scope.now in
    let x = c.export-item.result in
    let i = c.loop-export.export-index in
    let earlier = c.loop-export.earlier in
    subst (λ (names : List (List ℕ)). Grown k c.with-row.result (exports s w names (drop (i + 1) c.args.exports.now)) (exports s w [] c.args.exports.now))
    (sym c.in-Ok.ensures)
    (exports_go k c.loop-export.row c.judge_export-next.result c.with-row.result c.with-row.ensures s w earlier c.args.exports.now i x _
    c.loop-export-test.true c.export-item.is (c.loop-export.invariant k w d)
    (subst (λ (names : List (List ℕ)). Is c.judge_export-next.result (judged k (leaf (export_place x)
    (form.exported (list_any (λ y. bytes_eq y (export_name x)) names) (may_show s w (export_name x))))))
    c.as_slice.ensures (c.judge_export-next.ensures k w d)))

pub returns : goal.returns
returns c = λ k w d.
    left_none (exports c.args.scope.now w c.loop-export.earlier) k c.loop-export.row c.args.exports.now c.loop-export.export-index _ c.loop-export-test.false refl
    (c.loop-export.invariant k w d)
