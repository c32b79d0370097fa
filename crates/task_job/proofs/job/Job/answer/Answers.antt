use Rattle.std.proofs.Common.{refl, sym, ap, ◌∙◌}
use Rattle.eu_base.specs.declared.request.Reply.{Reply}
use Rattle.code_form.specs.Machine.{answered}
use Rattle.space_memory.specs.Memories.{roots}
use Rattle.task_job.proofs.Here.{memory_frames_then}
use Rattle.system_meaning.specs.Tasks.{with_reply}
use Rattle.task_job.proofs.Standing.{at_run, receives_on, takes_reply, settles}
use Rattle.task_job.proofs.job.Job.answer.Goals as goal

pub go_over-requires : goal.go_over-requires
go_over-requires c = record { fits = c.in_ok-answer_over.ensures.fits; agree = c.in_ok-answer_over.ensures.stands }

pub returns-clause-answered : goal.returns-clause-answered
returns-clause-answered c kinds command q a pages before asks is got h =
    let ensured = c.in_ok-answer_over.ensures in
    let run_is = ensured.answered q asks ∙ ap (λ (r : Reply). answered q r c.args.self.now.run.position) (sym is) in
    let got_on =
    receives_on q a pages c.args.pool.now c.answer_over.new.pool before c.args.memory.now c.answer_over.new.memory got ensured.kept ensured.heads in
    let t =
    takes_reply kinds pages c.answer_over.new.pool before c.answer_over.new.memory c.args.self.now command q a c.answer_over.new.run h.reaches asks run_is
    got_on in
    settles kinds c.answer_over.new.pool c.go_over.new.pool c.answer_over.new.memory c.go_over.new.memory
    (at_run c.args.self.now c.answer_over.new.run) (with_reply a command) t 0 c.go_over.new.marks c.in_ok-go_over.field-0
    c.go_over.new.run c.in_ok-go_over.ensures.rests c.in_ok-go_over.ensures.marks refl

pub returns-clause-sound : goal.returns-clause-sound
returns-clause-sound c = record {
  unit = c.requires.sound.unit;
  fits = c.in_ok-go_over.ensures.fits;
}

pub returns-clause-frames : goal.returns-clause-frames
returns-clause-frames c =
    memory_frames_then c.args.pool.now c.answer_over.new.pool c.go_over.new.pool (roots c.args.memory.now) (roots c.answer_over.new.memory)
    (roots c.go_over.new.memory) c.in_ok-answer_over.ensures.frames c.in_ok-go_over.ensures.frames

pub returns-in_err-go_over-clause-frames : goal.returns-in_err-go_over-clause-frames
returns-in_err-go_over-clause-frames c =
    memory_frames_then c.args.pool.now c.answer_over.new.pool c.go_over.new.pool (roots c.args.memory.now) (roots c.answer_over.new.memory)
    (roots c.go_over.new.memory) c.in_ok-answer_over.ensures.frames c.in_err-go_over.ensures.frames
