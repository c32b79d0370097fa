use Rattle.std.proofs.Common.{◌≡◌, ◌+◌, ℕ, List, drop, sym, subst, arith}
use Rattle.eu_base.specs.declared.value.Value.{Value}
use Rattle.zero_steps.specs.Received.{ReceivedTo, ReceivesIn}
use Rattle.zero_steps.proofs.ReceivedCells.{place_of, suits_there, drop_all, at_item, one_more, one_missed, none_yet}
use Rattle.zero_steps.proofs.receive.receive_all.Goals as goal

pub loop-value-init : goal.loop-value-init
loop-value-init g c = record {
  received = none_yet (g.M.Memory.holds c.args.m.now) (g.M.Memory.heads c.args.m.now) c.args.variables.now c.args.values.now;
  later = omega arith;
  follows = g.met.M.Memory.reflexive _;
}

pub variable-at-requires : goal.variable-at-requires
variable-at-requires g c =
    let n = c.loop-value.value-index in
    let e = c.value-item.result in
    let suits = suits_there c.requires.0 c.args.values.now n e c.requires.2 (at_item c.args.values.now n e e c.loop-value-test.true c.value-item.is) in
    place_of c.requires.0 c.args.variables.now e.0 suits.0 c.requires.1 suits.1

pub receive_in-requires-clause-cell : goal.receive_in-requires-clause-cell
receive_in-requires-clause-cell g c = c.variable-at.ensures.cell

pub receive_in-requires-clause-number : goal.receive_in-requires-clause-number
receive_in-requires-clause-number g c =
    let n = c.loop-value.value-index in
    let e = c.value-item.result in
    (suits_there c.requires.0 c.args.values.now n e c.requires.2 (at_item c.args.values.now n e e c.loop-value-test.true c.value-item.is)).3

pub loop-value-preserved : goal.loop-value-preserved
loop-value-preserved g c =
    let holds = g.M.Memory.holds in
    let heads = g.M.Memory.heads in
    let n = c.loop-value.value-index in
    let e = c.value-item.result in
    record {
      received =
          one_more (holds c.args.m.now) (holds c.loop-value.m) (holds c.receive_in.new.m) (heads c.args.m.now) (heads c.loop-value.m) (heads c.receive_in.new.m)
          c.args.variables.now c.args.values.now n e c.variable-at.result (at_item c.args.values.now n e e c.loop-value-test.true c.value-item.is)
          c.variable-at.ensures.there c.loop-value.invariant.received
          (subst (ReceivesIn (holds c.loop-value.m) (holds c.receive_in.new.m) (heads c.loop-value.m) (heads c.receive_in.new.m) c.variable-at.result e.1)
          c.if-not-branch.false c.in_ok-receive_in.ensures.goes);
      later = omega (arith, c.loop-value.invariant.later, c.receive_in.ensures.cause.later);
      follows = g.met.M.Memory.transitive _ _ _ c.loop-value.invariant.follows c.receive_in.ensures.follows;
    }

pub returns-then-not-branch-clause-goes : goal.returns-then-not-branch-clause-goes
returns-then-not-branch-clause-goes g c =
    let holds = g.M.Memory.holds in
    let heads = g.M.Memory.heads in
    let n = c.loop-value.value-index in
    let e = c.value-item.result in
    one_missed (holds c.args.m.now) (holds c.loop-value.m) (holds c.receive_in.new.m) (heads c.args.m.now) (heads c.loop-value.m) (heads c.receive_in.new.m)
    c.args.variables.now c.args.values.now n e c.variable-at.result (at_item c.args.values.now n e e c.loop-value-test.true c.value-item.is)
    c.variable-at.ensures.there c.loop-value.invariant.received
    (subst (ReceivesIn (holds c.loop-value.m) (holds c.receive_in.new.m) (heads c.loop-value.m) (heads c.receive_in.new.m) c.variable-at.result e.1)
    c.if-not-branch.true c.in_ok-receive_in.ensures.goes)

pub returns-clause-goes : goal.returns-clause-goes
returns-clause-goes g c =
    let holds = g.M.Memory.holds in
    let heads = g.M.Memory.heads in
    let es = c.args.values.now in
    subst (λ (rest : List (ℕ × Value)). ReceivedTo (holds c.args.m.now) (holds c.loop-value.m) (heads c.args.m.now) (heads c.loop-value.m)
    c.args.variables.now es rest) (drop_all es c.loop-value.value-index c.loop-value-test.false) c.loop-value.invariant.received
