use Rattle.std.proofs.Common.{◌++◌, [], arith, None}
use Rattle.space_memory.specs.Memories.{roots}
use Rattle.memory_tests.proofs.Tasks.{memory_stands, son_agrees, first_stands, first_after}
use Rattle.memory_tests.proofs.task.Task.inherit.Goals as goal

pub inherit-requires : goal.inherit-requires
inherit-requires c =
    let live = c.count.ensures in
    let also = c.count-2.ensures in
    record {
      agree = memory_stands _ c.args.self.now.memory c.args.self.now.other (omega (arith, also.count, also.few)) c.args.self.now.agree 2 (omega arith)
          (omega (arith, live.count, live.few));
    }

pub end-requires : goal.end-requires
end-requires c =
    let live = c.count.ensures in
    let also = c.count-2.ensures in
    let three = son_agrees _ c.args.self.now.memory c.args.self.now.other (omega (arith, also.count, also.few)) c.args.self.now.agree _ c.in-Ok.son
    (omega (arith, live.count, live.few)) c.in-Ok.ensures.son (c.in-Ok.ensures.frames None) in
    record {
      agree = rw (c.replace.ensures.value)
          (first_stands (roots c.args.self.now.other) (roots c.args.self.now.memory ++ roots c.in-Ok.son) _ three);
    }

pub invariant_of-self : goal.invariant_of-self
invariant_of-self c =
    let live = c.count.ensures in
    let also = c.count-2.ensures in
    let three = son_agrees _ c.args.self.now.memory c.args.self.now.other (omega (arith, also.count, also.few)) c.args.self.now.agree _ c.in-Ok.son
    (omega (arith, live.count, live.few)) c.in-Ok.ensures.son (c.in-Ok.ensures.frames None) in
    let left = first_after _ (roots c.args.self.now.memory ++ roots c.in-Ok.son) _ _ [] (omega arith) (c.end.ensures.frames None)
    (rw (c.replace.ensures.value) three) in
    record { agree = rw (c.replace.ensures.after) left }
