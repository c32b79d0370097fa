use Rattle.std.proofs.Common.{◌-◌, ◌+◌, Bool, subst, arith}
use Rattle.task_lines.specs.Below.system_meaning.specs.Monitor.{drained_in}
use Rattle.task_lines.specs.Queues.{one_taken, Follows}
use Rattle.task_lines.proofs.Draining.{midway_first, stops, goes_on, midway_last}
use Rattle.task_lines.proofs.queue.drain.Goals as goal

pub loop-k-init : goal.loop-k-init
loop-k-init c = λ read reads m stands.
    midway_first read c.args.task c.args.system.now (c.args.most - 0) c.args.most m (omega arith) stands

pub loop-k-preserved : goal.loop-k-preserved
loop-k-preserved c = λ read reads m stands.
    goes_on read c.args.task c.loop-k.system c.take_one.new.system (c.args.most - c.loop-k.k) (c.args.most - (c.loop-k.k + 1))
    (drained_in read c.args.most c.args.task m) (omega arith) (c.loop-k.invariant read reads m stands)
    (λ m stands. subst (λ (b : Bool). Follows b c.take_one.new.system (one_taken read c.args.task m) m) c.if-not-took.false
    (c.in_ok-took.ensures read reads m stands))

pub returns-then-not-took : goal.returns-then-not-took
returns-then-not-took c = λ read reads m stands.
    stops read c.args.task c.loop-k.system c.take_one.new.system (c.args.most - c.loop-k.k) (c.args.most - (c.loop-k.k + 1))
    (drained_in read c.args.most c.args.task m) (omega arith) (c.loop-k.invariant read reads m stands)
    (λ m stands. subst (λ (b : Bool). Follows b c.take_one.new.system (one_taken read c.args.task m) m) c.if-not-took.true
    (c.in_ok-took.ensures read reads m stands))

pub returns : goal.returns
returns c = λ read reads m stands.
    midway_last read c.args.task c.loop-k.system (c.args.most - c.loop-k.k) (drained_in read c.args.most c.args.task m) (omega arith)
    (c.loop-k.invariant read reads m stands)
