use Rattle.memory_tests.proofs.Systems.{[], ◌∷◌, stands_first, frames_more}
use Rattle.memory_tests.proofs.spaces.put.Goals as goal

pub put_cell-requires-clause-agree : goal.put_cell-requires-clause-agree
put_cell-requires-clause-agree c = stands_first _ _ (c.args.task.now.second.root ∷ []) _ c.requires.agree

pub returns-clause-frames : goal.returns-clause-frames
returns-clause-frames c = frames_more _ _ _ _ (c.args.task.now.second.root ∷ []) c.put_cell.ensures.frames
