use Rattle.std.proofs.Common.{List, [], ◌++◌, Ok, ap, sym, subst, ◌∙◌}
use Rattle.elan_types.specs.declared.core_phrase.Core.{Core}
use Rattle.elan_scope.specs.declared.trouble.Trouble.{Trouble}
use Rattle.elan_scope.specs.Phrase.{Phrase, all_of}
use Rattle.elan_scope.specs.Answer.{Fails}
use Rattle.elan_check.specs.Below.elan_rules.specs.Meaning.{judged_all}
use Rattle.elan_judge.specs.Level.{exports, level_parts}
use Rattle.elan_check.specs.Text.{Answers}
use Rattle.elan_check.proofs.Cores.{parts_are, core_is, none_hangs}
use Rattle.elan_check.proofs.text_core.core_meant.Goals as goal

pub core_with-requires : goal.core_with-requires
core_with-requires c = c.judge_level.ensures.kept ∙ c.requires.scope

pub returns-in_ok-core_with-in-Ok : goal.returns-in_ok-core_with-in-Ok
returns-in_ok-core_with-in-Ok c =
    let env = c.args.text.env.now in
    let t = c.args.text.tree.now in
    let parts = parts_are env t c.args.scope.now c.level_in.result.now c.exports_in.result.now c.requires.scope c.level_in.ensures c.exports_in.ensures in
    subst (λ (x : Core). Answers env t (Ok x)) (sym c.in_ok-core_with-in-Ok.ensures)
    (core_is env t c.args.known.now c.requires.known c.requires.types c.in-Ok.parts c.in_ok-units-in-Ok.units c.in_ok-units-in-Ok.own
    (ap (λ (ps : List Phrase). judged_all c.args.known.now (all_of ps)) (sym parts) ∙ c.in-Ok.ensures.meaning) c.in_ok-units-in-Ok.ensures.units
    c.in_ok-units-in-Ok.ensures.bodies)

pub unreachable-requires : goal.unreachable-requires
unreachable-requires c =
    let env = c.args.text.env.now in
    let t = c.args.text.tree.now in
    let k = c.args.known.now in
    let parts = parts_are env t c.args.scope.now c.level_in.result.now c.exports_in.result.now c.requires.scope c.level_in.ensures c.exports_in.ensures in
    none_hangs env t k c.requires.known c.requires.types c.requires.packets
    (ap (λ (ps : List Phrase). judged_all k (all_of ps)) (sym parts)
    ∙ subst (λ (x : Trouble). Fails x (judged_all k (all_of (exports c.args.scope.now c.level_in.result.now [] c.exports_in.result.now
    ++ level_parts c.args.scope.now c.level_in.result.now)))) c.in-Err-Hangs.field-0-is c.in-Err-Hangs.ensures.meaning)
