use Rattle.std.proofs.Common.{◌+◌, ◌-◌, arith}
use Rattle.system.specs.Below.system_meaning.specs.Turns.{turns}
use Rattle.system.proofs.Leading.{turns_first, turns_next, turns_last}
use Rattle.system.proofs.turns.turns.Goals as goal

pub loop-k-init : goal.loop-k-init
loop-k-init c = λ read reads m h. turns_first read c.args.system.now (c.args.number - 0) c.args.number m (omega arith) h

pub loop-k-preserved : goal.loop-k-preserved
loop-k-preserved c = λ read reads m h.
    turns_next read c.loop-k.system c.turn.new.system (c.args.number - c.loop-k.k) (c.args.number - (c.loop-k.k + 1)) (turns read c.args.number m) (omega arith)
    (c.loop-k.invariant read reads m h) (λ there stands. c.in_ok-turn.ensures read reads there stands)

pub returns : goal.returns
returns c = λ read reads m h.
    turns_last read c.loop-k.system (c.args.number - c.loop-k.k) (turns read c.args.number m) (omega arith) (c.loop-k.invariant read reads m h)
