use Rattle.state_spelling.specs.Coming.{IsBetween, walk_of}
use Rattle.state_spelling.proofs.Loop.{WalksOn}
use Rattle.state_spelling.proofs.frames.enter_all.Given as goal

abbrev pub invariant-loop-frame : goal.invariant-loop-frame
invariant-loop-frame l = WalksOn l.code (walk_of l.fn.walking) (walk_of l.walking) l.frames l.frame-index × IsBetween l.walking
