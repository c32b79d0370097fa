use Rattle.std.proofs.Common.{sym, ◌∙◌, arith}
use Rattle.zero_state.specs.Stepping.{control_of, mem_of, scene_of}
use Rattle.zero_machine.proofs.Running.{goes_on, rests_there, rested, unasked}
use Rattle.zero_machine.proofs.machine.run.Goals as goal

pub loop-s-init : goal.loop-s-init
loop-s-init g c = record {
  rests = λ cells r h rests. (cells, (h, rests));
  fits = c.requires;
  fewer = omega arith;
  pays = λ some none. absurd (unasked c.args.s.now.waits none some);
  later = omega arith;
  follows = g.met.M.Memory.reflexive _;
}

pub returns-in-Some-clause-rests : goal.returns-in-Some-clause-rests
returns-in-Some-clause-rests g c = λ cells r h rests.
    let x = c.loop-s.invariant.rests cells r h rests in
    rested c.args.code.now (g.M.Memory.holds c.loop-s.m) (g.M.Memory.heads c.loop-s.m) (control_of c.loop-s.s) c.loop-s.marks r c.in-Some.halt x.0
    (sym c.in_ok-halt.ensures ∙ c.in-Some.is) x.1.0 x.1.1

pub returns-in-Some-halt-clause-rests : goal.returns-in-Some-halt-clause-rests
returns-in-Some-halt-clause-rests g c = λ cells r h rests.
    let x = c.loop-s.invariant.rests cells r h rests in
    rests_there c.args.code.now (g.M.Memory.holds c.advance.new.m) (g.M.Memory.heads c.advance.new.m) (control_of c.advance.new.s) c.advance.new.marks r _ c.in-Some-halt.halt
    (sym c.halt.ensures ∙ c.in-Some-halt.is) (control_of c.loop-s.s) (scene_of (mem_of (g.M.Memory.heads c.loop-s.m) x.0) c.loop-s.marks) x.1.1 (c.in_ok-next.ensures.goes x.0 x.1.0)

pub loop-s-smaller : goal.loop-s-smaller
loop-s-smaller g c = c.in_ok-next.ensures.nearer (sym c.halt.ensures ∙ c.in_default-halt.is)

pub loop-s-preserved : goal.loop-s-preserved
loop-s-preserved g c =
    let inv = c.loop-s.invariant in
    let spends = c.in_ok-next.ensures.spends in
    record {
      rests = λ cells r h rests.
          let x = inv.rests cells r h rests in
          goes_on c.args.code.now (g.M.Memory.holds c.advance.new.m) (g.M.Memory.heads c.advance.new.m) (control_of c.advance.new.s) c.advance.new.marks r _
          (sym c.halt.ensures ∙ c.in_default-halt.is) (control_of c.loop-s.s) (scene_of (mem_of (g.M.Memory.heads c.loop-s.m) x.0) c.loop-s.marks) x.1.1 (c.in_ok-next.ensures.goes x.0 x.1.0);
      fits = c.in_ok-next.ensures.fits;
      fewer = omega (arith, inv.fewer, spends.fewer);
      pays = λ some none. omega (arith, inv.fewer, spends.paid some);
      later = omega (arith, inv.later, c.advance.ensures.cause.later);
      follows = g.met.M.Memory.transitive _ _ _ inv.follows c.advance.ensures.follows;
    }
