use Rattle.memory_tests.proofs.Systems.{[], own, gone_agree, gone_loses, no_task, roots, whole}
use Rattle.memory_tests.proofs.system.System.end.Goals as goal

pub end-requires : goal.end-requires
end-requires c = record { agree = own roots no_task (whole _) [] _ _ _ c.requires.task c.remove-task.ensures.value c.args.self.now.agree }

pub invariant_of-self : goal.invariant_of-self
invariant_of-self c =
    let later = gone_agree roots no_task (whole _) (whole _) [] _ _ _ c.requires.task c.remove-task.ensures.value c.args.self.now.agree c.end.ensures.frames in
    record { agree = rw c.remove-task.ensures.items later; known = c.end.ensures.frames.knows c.args.self.now.known }

pub returns : goal.returns
returns c =
    let later = gone_loses roots no_task (whole _) (whole _) [] _ _ _ c.requires.task c.remove-task.ensures.value c.args.self.now.agree c.end.ensures.frames in
    record { others = rw c.remove-task.ensures.items later }
