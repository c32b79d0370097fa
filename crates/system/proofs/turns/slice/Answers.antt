use Rattle.std.proofs.Common.{◌+◌, ◌-◌, false, true, arith}
use Rattle.system.specs.Below.system_meaning.specs.Turns.{slice}
use Rattle.system.proofs.Leading.{stops, goes_so, slice_first, slice_next, slice_last}
use Rattle.system.proofs.turns.slice.Goals as goal

pub loop-k-init : goal.loop-k-init
loop-k-init c = λ read reads m turn h. slice_first read c.args.task c.args.system.now (c.args.most - 0) c.args.most c.args.marks m (omega arith) turn h

pub loop-k-preserved : goal.loop-k-preserved
loop-k-preserved c = λ read reads m turn h.
    goes_so c.args.task c.in_ok-goes.goes true c.evaluation.new.system (slice read (c.args.most - (c.loop-k.k + 1)) c.args.task c.evaluation.new.left) (slice read c.args.most c.args.task c.args.marks m) c.if-not-goes.false
    (slice_next read c.args.task c.in_ok-goes.goes c.loop-k.system c.evaluation.new.system (c.args.most - c.loop-k.k) (c.args.most - (c.loop-k.k + 1)) c.loop-k.left c.evaluation.new.left (slice read c.args.most c.args.task c.args.marks m) (omega arith) (c.loop-k.invariant read reads m turn h)
    (λ there has stands more. c.in_ok-goes.ensures read reads there has stands more))

pub returns-then-not-goes : goal.returns-then-not-goes
returns-then-not-goes c = λ read reads m turn h.
    stops c.args.task c.evaluation.new.system (slice read (c.args.most - (c.loop-k.k + 1)) c.args.task c.evaluation.new.left) (slice read c.args.most c.args.task c.args.marks m)
    (goes_so c.args.task c.in_ok-goes.goes false c.evaluation.new.system (slice read (c.args.most - (c.loop-k.k + 1)) c.args.task c.evaluation.new.left) (slice read c.args.most c.args.task c.args.marks m) c.if-not-goes.true
    (slice_next read c.args.task c.in_ok-goes.goes c.loop-k.system c.evaluation.new.system (c.args.most - c.loop-k.k) (c.args.most - (c.loop-k.k + 1)) c.loop-k.left c.evaluation.new.left (slice read c.args.most c.args.task c.args.marks m) (omega arith) (c.loop-k.invariant read reads m turn h)
    (λ there has stands more. c.in_ok-goes.ensures read reads there has stands more)))

pub returns : goal.returns
returns c = λ read reads m turn h.
    slice_last read c.args.task c.loop-k.system (c.args.most - c.loop-k.k) c.loop-k.left (slice read c.args.most c.args.task c.args.marks m) (omega arith) (c.loop-k.invariant read reads m turn h)
