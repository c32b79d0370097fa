use Rattle.state_spelling.proofs.Done.{done_fits, done_kept, done_same, done_refused}
use Rattle.state_spelling.proofs.revival.revive_bytes.Goals as goal

pub returns-clause-fits : goal.returns-clause-fits
returns-clause-fits c = done_fits c.args.code.now c.read_and_revive.ensures.valid c.args.bytes.now c.read_and_revive.result c.read_and_revive.ensures.revived

pub returns-clause-kept : goal.returns-clause-kept
returns-clause-kept c = done_kept c.args.code.now c.read_and_revive.ensures.valid c.args.bytes.now c.read_and_revive.result c.read_and_revive.ensures.revived

pub returns-clause-same : goal.returns-clause-same
returns-clause-same c = done_same c.args.code.now c.read_and_revive.ensures.valid c.args.bytes.now c.read_and_revive.result c.read_and_revive.ensures.revived

pub returns-clause-refused : goal.returns-clause-refused
returns-clause-refused c = done_refused c.args.code.now c.read_and_revive.ensures.valid c.args.bytes.now c.read_and_revive.result c.read_and_revive.ensures.revived
