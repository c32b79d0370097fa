use Rattle.memory_tests.proofs.Systems.{[], ◌∷◌, arith, stands_first, frames_more, beside, named_first}
use Rattle.memory_tests.proofs.spaces.write.Goals as goal

pub write-requires-clause-agree : goal.write-requires-clause-agree
write-requires-clause-agree c = stands_first _ _ (c.args.task.now.second.root ∷ []) _ c.requires.agree

pub returns-clause-frames : goal.returns-clause-frames
returns-clause-frames c = frames_more _ _ _ _ (c.args.task.now.second.root ∷ []) c.write.ensures.frames

pub returns-clause-second : goal.returns-clause-second
returns-clause-second c = beside _ _ _ _ (c.args.task.now.second.root ∷ []) 0 (omega arith) c.write.ensures.frames c.requires.agree _ (named_first _ [])
