use Rattle.std.proofs.Common.{List, sym, subst, ◌∙◌}
use Rattle.elan_scope.specs.Phrase.{Phrase, all_of}
use Rattle.elan_scope.specs.Answer.{Is}
use Rattle.elan_check.specs.Below.elan_rules.specs.Meaning.{judged_all}
use Rattle.elan_check.specs.Text.{faults}
use Rattle.elan_check.proofs.Cores.{parts_are, seen_are, faults_are, refused_is, no_first}
use Rattle.elan_check.proofs.text_core.core_known.Goals as goal

pub core_meant-requires-clause-types : goal.core_meant-requires-clause-types
core_meant-requires-clause-types c =
    let env = c.args.text.env.now in
    let t = c.args.text.tree.now in
    let w = c.level_in-written.result.now in
    no_first (faults env t)
    (sym c.in-None.is ∙ c.in_ok-level_fault.ensures (seen_are env t c.args.scope.now w c.args.shown.now c.requires.scope c.level_in-written.ensures c.requires.shown)
    ∙ faults_are env t w c.args.shown.now c.level_in-written.ensures c.requires.shown)

pub returns-in-Some : goal.returns-in-Some
returns-in-Some c =
    let env = c.args.text.env.now in
    let t = c.args.text.tree.now in
    let w = c.level_in-written.result.now in
    let k = c.args.known.now in
    let parts = parts_are env t c.args.scope.now w c.exports_in.result.now c.requires.scope c.level_in-written.ensures c.exports_in.ensures in
    refused_is env t k c.requires.known c.in-Some.fault c.refusal.result
    (sym c.in-Some.is ∙ c.in_ok-level_fault.ensures (seen_are env t c.args.scope.now w c.args.shown.now c.requires.scope c.level_in-written.ensures c.requires.shown)
    ∙ faults_are env t w c.args.shown.now c.level_in-written.ensures c.requires.shown)
    (c.refusal.ensures _
    (subst (λ (ps : List Phrase). Is c.judge_level-parts.result (judged_all k (all_of ps))) parts c.judge_level-parts.ensures.meaning))
