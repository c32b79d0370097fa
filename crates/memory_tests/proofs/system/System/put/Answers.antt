use Rattle.memory_tests.proofs.Systems.{[], arith, own, set_agree, set_changes, no_task, roots, whole}
use Rattle.memory_tests.proofs.system.System.put.Goals as goal

pub put-requires-clause-agree : goal.put-requires-clause-agree
put-requires-clause-agree c = own roots no_task (whole _) [] _ _ _ c.requires.task c.index_mut.ensures.value c.args.self.now.agree

pub invariant_of-self : goal.invariant_of-self
invariant_of-self c =
    let later = set_agree roots no_task (whole _) (whole _) [] _ _ _ c.requires.task c.index_mut.ensures.value c.args.self.now.agree _ (omega arith) c.put.ensures.frames in
    record { agree = later; known = c.put.ensures.frames.knows c.args.self.now.known }

pub returns : goal.returns
returns c =
    let later = set_changes roots no_task (whole _) (whole _) [] _ _ _ c.requires.task c.index_mut.ensures.value c.args.self.now.agree _ (omega arith) c.put.ensures.frames in
    record { others = later }
