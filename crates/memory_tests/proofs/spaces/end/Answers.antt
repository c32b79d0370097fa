use Rattle.memory_tests.proofs.Systems.{[], ◌∷◌, arith, stands_first, stands_after, frames_more, frames_then, zeros}
use Rattle.memory_tests.proofs.spaces.end.Goals as goal

pub forget-requires : goal.forget-requires
forget-requires c = record { agree = stands_first _ _ (c.args.task.second.root ∷ []) _ c.requires.agree }

pub forget-requires-2 : goal.forget-requires-2
forget-requires-2 c = record { agree = stands_after _ _ _ _ 0 0 (omega arith) (frames_more _ _ _ _ _ (c.forget.ensures.frames zeros)) c.requires.agree }

pub returns : goal.returns
returns c = record { frames = frames_then _ _ _ _ _ _ (omega arith) (frames_more _ _ _ _ _ (c.forget.ensures.frames zeros)) (c.forget-2.ensures.frames zeros) }
