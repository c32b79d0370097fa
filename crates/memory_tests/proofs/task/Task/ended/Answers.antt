use Rattle.std.proofs.Common.{arith, [], ◌∙◌, None}
use Rattle.page_table.proofs.Moving.{equal}
use Rattle.space_memory.specs.Memories.{roots}
use Rattle.memory_tests.proofs.Tasks.{now_stand, first_stands, first_after}
use Rattle.memory_tests.proofs.task.Task.ended.Goals as goal

pub end-requires : goal.end-requires
end-requires c = record { agree = first_stands _ (roots c.args.self.other) _ c.args.self.agree }

pub end-requires-2 : goal.end-requires-2
end-requires-2 c =
    let left = first_after _ (roots c.args.self.other) _ _ [] (omega arith) (c.end.ensures.frames None) c.args.self.agree in
    record { agree = now_stand _ _ left }

pub returns : goal.returns
returns c =
    let left = first_after _ (roots c.args.self.other) _ _ [] (omega arith) (c.end.ensures.frames None) c.args.self.agree in
    c.used.ensures ∙ equal _ _ left c.end-2.ensures.last
