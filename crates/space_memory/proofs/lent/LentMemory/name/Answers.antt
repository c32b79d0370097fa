use Rattle.space_memory.specs.Below.page_table.specs.Frames.{over}
use Rattle.std.proofs.Common.{sym, subst}
use Rattle.space_memory.specs.Below.page_table.specs.Entries.{Names}
use Rattle.space_memory.specs.Memories.{MemoryData, HoldsAll, StandsWhole}
use Rattle.space_memory.proofs.Changed.{live_here, names_only, named_still}
use Rattle.space_memory.proofs.lent.LentMemory.name.Goals as goal

pub name-requires-clause-live : goal.name-requires-clause-live
name-requires-clause-live g c = live_here c.args.s c.args.self.now.memory.now c.requires.live

pub invariant_of-self : goal.invariant_of-self
invariant_of-self g c = record {
  agree = subst (λ (names : Names). StandsWhole c.args.self.now.pool.now names)
      (sym (names_only c.name.result c.args.self.now.memory.now c.name.new.self _ c.name.ensures.ok c.name.ensures.err)) c.args.self.now.agree;
  backed = c.args.self.now.backed;
}

pub returns-clause-kept : goal.returns-clause-kept
returns-clause-kept g c = λ cells h.
    subst (λ (m : MemoryData). HoldsAll (over c.args.self.now.pool.now (g.B.Backing.tells c.args.self.now.backing.now)) m cells) (sym c.in_ok-name.ensures.ok) (named_still (over c.args.self.now.pool.now (g.B.Backing.tells c.args.self.now.backing.now)) c.args.self.now.memory.now _ cells h)
