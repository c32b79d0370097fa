use Rattle.page_pool.proofs.Shows.{stored_of}
use Rattle.page_pool.proofs.pool.Pool.stored.Goals as goal

pub returns-clause-adds : goal.returns-clause-adds
returns-clause-adds c = stored_of c.args.self.now c.uncache.new.self c.add.new.self c.in_ok-p.p c.args.block c.uncache.ensures.drops c.in_ok-p.ensures.adds

pub returns-clause-sound : goal.returns-clause-sound
returns-clause-sound c = c.in_ok-p.ensures.sound
