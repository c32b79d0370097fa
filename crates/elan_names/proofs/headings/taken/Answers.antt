use Rattle.elan_names.proofs.Numbered.{other_names}
use Rattle.elan_names.proofs.headings.taken.Goals as goal

pub returns-in-Some-clause-others : goal.returns-in-Some-clause-others
returns-in-Some-clause-others c = other_names c.args.numbers.now c.remove.new.self c.args.name.now _ c.remove.ensures.updates

pub returns-in-None-clause-others : goal.returns-in-None-clause-others
returns-in-None-clause-others c = other_names c.args.numbers.now c.remove.new.self c.args.name.now _ c.remove.ensures.updates
