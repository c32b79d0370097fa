use Rattle.std.proofs.Common.{rules, ◌≡◌, ◌∙◌, ap, subst, sym, refl, arith}
use Rattle.std.specs.Prelude.{IsSome}
use Rattle.code_form.specs.Machine.{Control, answered}
use Rattle.code_form.specs.declared.waits.Waits.TheVariants.{Asked}
use Rattle.code_form.specs.Runs.{asked}
use Rattle.eu_base.specs.DataSpaces.{Heads}
use Rattle.line_command.specs.Below.zero_state.specs.Stepping.{mem_of}
use Rattle.line_command.specs.Program.{reply_to}
use Rattle.line_command.proofs.Served.{IsServed}
use Rattle.line_command.proofs.Causes.{fault_handed_on}
use Rattle.line_command.proofs.Serving.{start_free, answered_free, served_first, next, rests, served_ended, served_stopped, served_marked, served_on}
use Rattle.line_command.proofs.program.serve.Goals as goal

pub loop-screen-init : goal.loop-screen-init
loop-screen-init g c = record {
  served = λ core first held b has. (first, (held, rw c.new-screen.ensures (served_first core c.args.code.now (mem_of (g.M.Memory.heads c.args.memory.now) first) c.args.command.now c.requires.starts)));
  free = ap (λ (d : Control). asked d.waits) c.requires.starts ∙ start_free c.args.code.now;
  fits = c.requires.fits;
  later = omega arith;
}

pub returns-in-Ended-clause-shows : goal.returns-in-Ended-clause-shows
returns-in-Ended-clause-shows g c core first held b has =
    let x = c.loop-screen.invariant.served core first held b has in
    let was = mem_of (g.M.Memory.heads c.args.memory.now) first in
    let now = mem_of (g.M.Memory.heads c.loop-screen.memory) x.0 in
    let so =
    c.in_ok-go.ensures.rests x.0 (next core c.args.code.now was c.loop-screen.command now c.loop-screen.marks c.loop-screen.screen x.1.1 b has) x.1.0
    (rests core c.args.code.now was c.loop-screen.command now c.loop-screen.marks c.loop-screen.screen x.1.1 b has) in
    served_ended core c.args.code.now was c.loop-screen.command now c.loop-screen.marks c.loop-screen.screen x.1.1 b has (g.M.Memory.holds c.go.new.m)
    (g.M.Memory.heads c.go.new.m)
    c.in_ok-go.field-0 c.go.new.self c.go.new.marks so c.in-Ended.is c.in_ok-finish-in-Ended.field-0 c.in_ok-finish-in-Ended.ensures

pub returns-in-Stopped-clause-shows : goal.returns-in-Stopped-clause-shows
returns-in-Stopped-clause-shows g c core first held b has =
    let x = c.loop-screen.invariant.served core first held b has in
    let was = mem_of (g.M.Memory.heads c.args.memory.now) first in
    let now = mem_of (g.M.Memory.heads c.loop-screen.memory) x.0 in
    let so =
    c.in_ok-go.ensures.rests x.0 (next core c.args.code.now was c.loop-screen.command now c.loop-screen.marks c.loop-screen.screen x.1.1 b has) x.1.0
    (rests core c.args.code.now was c.loop-screen.command now c.loop-screen.marks c.loop-screen.screen x.1.1 b has) in
    served_stopped core c.args.code.now was c.loop-screen.command now c.loop-screen.marks c.loop-screen.screen x.1.1 b has (g.M.Memory.holds c.go.new.m)
    (g.M.Memory.heads c.go.new.m)
    c.in_ok-go.field-0 c.go.new.self c.go.new.marks so c.in-Stopped.stop c.in-Stopped.is c.in_ok-finish-in-Stopped.field-0 c.in_ok-finish-in-Stopped.ensures

pub returns-in-Marked-clause-shows : goal.returns-in-Marked-clause-shows
returns-in-Marked-clause-shows g c core first held b has =
    let x = c.loop-screen.invariant.served core first held b has in
    let was = mem_of (g.M.Memory.heads c.args.memory.now) first in
    let now = mem_of (g.M.Memory.heads c.loop-screen.memory) x.0 in
    let so =
    c.in_ok-go.ensures.rests x.0 (next core c.args.code.now was c.loop-screen.command now c.loop-screen.marks c.loop-screen.screen x.1.1 b has) x.1.0
    (rests core c.args.code.now was c.loop-screen.command now c.loop-screen.marks c.loop-screen.screen x.1.1 b has) in
    served_marked core c.args.code.now was c.loop-screen.command now c.loop-screen.marks c.loop-screen.screen x.1.1 b has (g.M.Memory.holds c.go.new.m)
    (g.M.Memory.heads c.go.new.m)
    c.in_ok-go.field-0 c.go.new.self c.go.new.marks so c.in-Marked.is c.in_ok-finish-in-Marked.field-0 c.in_ok-finish-in-Marked.ensures

pub answer-requires-clause-asks : goal.answer-requires-clause-asks
answer-requires-clause-asks g c =
    let waits : c.go.new.self.waits ≡ Asked c.in-Asks.request = c.in_ok-go.ensures.asks c.in-Asks.request c.in-Asks.is in
    subst (λ w. IsSome (asked w)) (sym waits) refl

pub loop-screen-smaller : goal.loop-screen-smaller
loop-screen-smaller g c = c.in_ok-go.ensures.pays c.in-Asks.request c.in-Asks.is c.loop-screen.invariant.free

pub loop-screen-preserved : goal.loop-screen-preserved
loop-screen-preserved g c =
    let waits : c.go.new.self.waits ≡ Asked c.in-Asks.request = c.in_ok-go.ensures.asks c.in-Asks.request c.in-Asks.is in
    let answer =
    c.in_ok-answer-in-Asks.ensures.answered c.in-Asks.request waits
    ∙ ap (λ r. answered c.in-Asks.request r c.go.new.self.position) c.reply_to-reply.ensures in
    let less = c.in_ok-go.ensures.pays c.in-Asks.request c.in-Asks.is c.loop-screen.invariant.free in
    record {
      served = λ core first held b has.
          let x = c.loop-screen.invariant.served core first held b has in
          let was = mem_of (g.M.Memory.heads c.args.memory.now) first in
          let now = mem_of (g.M.Memory.heads c.loop-screen.memory) x.0 in
          let r = next core c.args.code.now was c.loop-screen.command now c.loop-screen.marks c.loop-screen.screen x.1.1 b has in
          let so =
          c.in_ok-go.ensures.rests x.0 r x.1.0
          (rests core c.args.code.now was c.loop-screen.command now c.loop-screen.marks c.loop-screen.screen x.1.1 b has) in
          let on =
          served_on core c.args.code.now was c.loop-screen.command now c.loop-screen.marks c.loop-screen.screen x.1.1 b has (g.M.Memory.holds c.go.new.m)
          (g.M.Memory.heads c.go.new.m) c.in_ok-go.field-0 c.go.new.self c.go.new.marks so c.in-Asks.request c.show-shown.new.self c.answer.new.self
          c.in-Asks.is c.in_ok-shown-in-Asks.ensures waits answer less in (
            r.scene.mem.cells,
            (
              c.in_ok-answer-in-Asks.ensures.kept r.scene.mem.cells so.0,
              subst (λ (heads : Heads). IsServed core c.args.code.now was c.answer.new.self (mem_of heads r.scene.mem.cells) c.go.new.marks c.show-shown.new.self)
                  (sym c.in_ok-answer-in-Asks.ensures.heads) on,
            ),
          );
      free = ap (λ (d : Control). asked d.waits) answer ∙ answered_free c.in-Asks.request c.go.new.self.position;
      fits = c.in_ok-answer-in-Asks.ensures.fits;
      later = omega (arith, c.loop-screen.invariant.later, c.go.ensures.cause.later, c.answer.ensures.cause.later);
    }

pub returns-in-Ended-clause-cause : goal.returns-in-Ended-clause-cause
returns-in-Ended-clause-cause g c = record { later = omega (arith, c.loop-screen.invariant.later, c.go.ensures.cause.later); failed = λ e. absurd (cc e) }

pub returns-in_err-finish-in-Ended-clause-cause : goal.returns-in_err-finish-in-Ended-clause-cause
returns-in_err-finish-in-Ended-clause-cause g c =
    record { later = omega (arith, c.loop-screen.invariant.later, c.go.ensures.cause.later); failed = search rules }

pub returns-in-Stopped-clause-cause : goal.returns-in-Stopped-clause-cause
returns-in-Stopped-clause-cause g c = record { later = omega (arith, c.loop-screen.invariant.later, c.go.ensures.cause.later); failed = λ e. absurd (cc e) }

pub returns-in_err-finish-in-Stopped-clause-cause : goal.returns-in_err-finish-in-Stopped-clause-cause
returns-in_err-finish-in-Stopped-clause-cause g c =
    record { later = omega (arith, c.loop-screen.invariant.later, c.go.ensures.cause.later); failed = search rules }

pub returns-in-Marked-clause-cause : goal.returns-in-Marked-clause-cause
returns-in-Marked-clause-cause g c = record { later = omega (arith, c.loop-screen.invariant.later, c.go.ensures.cause.later); failed = λ e. absurd (cc e) }

pub returns-in_err-finish-in-Marked-clause-cause : goal.returns-in_err-finish-in-Marked-clause-cause
returns-in_err-finish-in-Marked-clause-cause g c =
    record { later = omega (arith, c.loop-screen.invariant.later, c.go.ensures.cause.later); failed = search rules }

pub returns-in_err-go-clause-cause : goal.returns-in_err-go-clause-cause
returns-in_err-go-clause-cause g c =
    let faults = g.M.Memory.faults in
    fault_handed_on (faults c.args.memory.now) (faults c.loop-screen.memory) (faults c.go.new.m) c.in_err-go.field-0.0 c.from_residual.result
    c.loop-screen.invariant.later c.in_err-go.ensures.cause c.from_residual.ensures

pub returns-in_err-shown-in-Asks-clause-cause : goal.returns-in_err-shown-in-Asks-clause-cause
returns-in_err-shown-in-Asks-clause-cause g c =
    record { later = omega (arith, c.loop-screen.invariant.later, c.go.ensures.cause.later); failed = search rules }

pub returns-in_err-answer-in-Asks-clause-cause : goal.returns-in_err-answer-in-Asks-clause-cause
returns-in_err-answer-in-Asks-clause-cause g c =
    record { later = omega (arith, c.loop-screen.invariant.later, c.go.ensures.cause.later, c.answer.ensures.cause.later); failed = search rules }
