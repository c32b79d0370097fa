use Rattle.std.proofs.Common.{[], ◌∷◌, refl}
use Rattle.page_table.proofs.Framing.{homes_backed}
use Rattle.page_table.proofs.Owned.{stand_slots}
use Rattle.data_space.proofs.lent.LentSpaceSpace.read.Goals as goal

pub invariant_of-self : goal.invariant_of-self
invariant_of-self g c = record {
  agree = stand_slots c.args.self.now.pool.now c.read.new.pool c.read.ensures.slots (c.args.self.now.space.now.root ∷ []) 0 c.args.self.now.agree;
  backed = homes_backed c.args.self.now.pool.now c.read.new.pool
      (g.met.B.Backing.same_held c.args.self.now.backing.now c.read.new.backing c.read.ensures.follows) (c.read.ensures.frames []).homes c.args.self.now.backed;
}

pub returns-clause-follows : goal.returns-clause-follows
returns-clause-follows g c = record {
  space_name = refl;
  pool_name = refl;
  backing_name = refl;
  kind = refl;
  shape = refl;
  frames = c.read.ensures.frames (c.args.self.now.space.now.root ∷ []);
  follows = c.read.ensures.follows;
}

pub returns-in_err-read-clause-follows : goal.returns-in_err-read-clause-follows
returns-in_err-read-clause-follows g c = record {
  space_name = refl;
  pool_name = refl;
  backing_name = refl;
  kind = refl;
  shape = refl;
  frames = c.read.ensures.frames (c.args.self.now.space.now.root ∷ []);
  follows = c.read.ensures.follows;
}
