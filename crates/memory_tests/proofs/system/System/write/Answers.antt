use Rattle.memory_tests.proofs.Systems.{[], arith, get_or_read, get_or-set_same, own, set_agree, set_changes, no_task, roots, whole}
use Rattle.memory_tests.proofs.system.System.write.Goals as goal

pub write-requires-clause-agree : goal.write-requires-clause-agree
write-requires-clause-agree c = own roots no_task (whole _) [] _ _ _ c.requires.task c.index_mut.ensures.value c.args.self.now.agree

pub invariant_of-self : goal.invariant_of-self
invariant_of-self c =
    let later = set_agree roots no_task (whole _) (whole _) [] _ _ _ c.requires.task c.index_mut.ensures.value c.args.self.now.agree _ (omega arith) c.write.ensures.frames in
    record { agree = later; known = c.write.ensures.frames.knows c.args.self.now.known }

pub returns : goal.returns
returns c =
    let is = get_or_read _ _ _ c.requires.task c.index_mut.ensures.value no_task in
    let later = set_changes roots no_task (whole _) (whole _) [] _ _ _ c.requires.task c.index_mut.ensures.value c.args.self.now.agree _ (omega arith) c.write.ensures.frames in
    record {
      written = rw (← is, get_or-set_same c.args.self.now.tasks.items c.args.k c.write.new.task no_task c.requires.task) (c.in_ok-write.ensures.written c.args.self.now.known);
      second = rw (← is) c.write.ensures.second;
      others = later;
    }

pub returns-in_err-write-clause-others : goal.returns-in_err-write-clause-others
returns-in_err-write-clause-others c =
    set_changes roots no_task (whole _) (whole _) [] _ _ _ c.requires.task c.index_mut.ensures.value c.args.self.now.agree _ (omega arith) c.write.ensures.frames
