use Rattle.elan_names.specs.walks.Seen.{callable}
use Rattle.elan_meant.specs.Verdict.{gives}
use Rattle.elan_meant.proofs.Told.{goes_on}
use Rattle.elan_rules.specs.Units.{alone}
use Rattle.value_rules.specs.Calls.{called}
use Rattle.elan_rules.proofs.assignment.called_alone.Goals as goal

pub returns-in-Ok : goal.returns-in-Ok
returns-in-Ok c =
    goes_on c.alone.result (called c.args.at (callable c.args.callable) c.args.operands) (λ n. gives (alone n)) c.in-Ok.meant c.in-Ok.ensures c.alone.ensures
