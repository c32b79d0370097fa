use Rattle.std.proofs.Common.{[], ◌∷◌}
use Rattle.source_texts.specs.Below.page_table.proofs.Framing.{homes_backed}
use Rattle.source_texts.specs.Below.page_table.proofs.Owned.{stand_slots}
use Rattle.source_texts.proofs.view.ReadSpaceSpace.read.Goals as goal

pub invariant_of-self : goal.invariant_of-self
invariant_of-self g c = record {
  agree = stand_slots c.args.self.now.pool.now c.read.new.pool c.read.ensures.slots (c.args.self.now.space.now.root ∷ []) 0 c.args.self.now.agree;
  backed = homes_backed c.args.self.now.pool.now c.read.new.pool
      (g.met.B.Backing.same_held c.args.self.now.backing.now c.read.new.backing c.read.ensures.follows) (c.read.ensures.frames []).homes c.args.self.now.backed;
}
