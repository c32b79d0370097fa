use Rattle.std.proofs.Common.{◌≤◌, length, sym, subst}
use Rattle.task_numbers.specs.declared.limits.TheConstants.{LONGEST_LINE}
use Rattle.system.specs.Below.system_meaning.specs.Systems.{runs}
use Rattle.system.proofs.Kept.{on_ok}
use Rattle.system.proofs.Happening.{taken_so}
use Rattle.system.proofs.lines.line_for.Goals as goal

pub returns-else-runs : goal.returns-else-runs
returns-else-runs c =
    on_ok c.take.result c.take.ensures
    (λ f read reads m few h.
    let is = c.in_ok-line.ensures in
    taken_so read c.take.new.system c.args.channel c.args.task c.in_ok-line.line c.args.line.now (runs c.args.task m.system) m is (c.if-runs.ensures m h)
    (f read reads m (subst (λ line. length line ≤ LONGEST_LINE) (sym is) few) h))
