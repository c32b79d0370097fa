use Rattle.std.proofs.Common.{None, sym, subst}
use Rattle.space_memory.specs.Below.page_table.specs.Frames.{over, Stands}
use Rattle.space_memory.specs.Memories.{MemoryData, roots}
use Rattle.space_memory.proofs.Framed.{rest_stand, second_stands, third_stands, all_gone, last_agrees}
use Rattle.space_memory.proofs.space_memory.SpaceMemory.end.Goals as goal

pub end-requires : goal.end-requires
end-requires c =
    let stands = subst (λ (m : MemoryData). Stands c.args.pool.now (roots m) 0) (sym c.self.view_is) c.requires.agree in
    record { agree = rest_stand _ _ _ _ 0 stands }

pub forget-requires : goal.forget-requires
forget-requires c = record { agree = second_stands _ _ c.self.view_is (over c.args.pool.now None) (over c.end.new.pool None) (c.end.ensures.frames None) c.requires.agree }

pub forget-requires-2 : goal.forget-requires-2
forget-requires-2 c = record { agree = third_stands _ _ c.self.view_is (over c.args.pool.now None) (over c.end.new.pool None) (c.end.ensures.frames None) (over c.forget.new.pool None) (c.forget.ensures.frames None) c.requires.agree }

pub returns-clause-frames : goal.returns-clause-frames
returns-clause-frames c = λ tell. all_gone _ _ c.self.view_is (over c.args.pool.now tell) (over c.end.new.pool tell) (c.end.ensures.frames tell) (over c.forget.new.pool tell) (c.forget.ensures.frames tell) (over c.forget-2.new.pool tell) (c.forget-2.ensures.frames tell)

pub returns-clause-last : goal.returns-clause-last
returns-clause-last c =
    λ agree. c.forget-2.ensures.last (last_agrees _ _ c.self.view_is (over c.args.pool.now None) (over c.end.new.pool None) (c.end.ensures.frames None) (over c.forget.new.pool None) (c.forget.ensures.frames None) agree)
