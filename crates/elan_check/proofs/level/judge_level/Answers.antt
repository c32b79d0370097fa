use Rattle.std.proofs.Common.{[], ◌++◌}
use Rattle.elan_judge.specs.Level.{exports}
use Rattle.elan_judge.specs.walks.Units.{level_units}
use Rattle.elan_check.proofs.Routines.{level_goes}
use Rattle.elan_check.proofs.level.judge_level.Goals as goal

pub returns-clause-meaning : goal.returns-clause-meaning
returns-clause-meaning c =
    let k = c.args.known.now in
    let s = c.args.scope.now in
    let w = c.args.level.now in
    let shown = exports s w [] c.args.exports.now in
    let us = c.as_slice-units.result.now in
    level_goes k c.judge_refinements.result s c.judge_level_units-row.new.scope w shown us c.in_ok-first.first c.as_slice-refinements.result.now
    c.judge_level_units-row.ensures.kept c.as_slice-units.ensures c.in_ok-first.ensures c.as_slice-refinements.ensures
    (c.judge_refinements.ensures.meaning (shown ++ level_units s 0 us)
    (c.judge_level_units-row.ensures.meaning shown (c.judge_exports-row.ensures k)))
