use Rattle.std.proofs.Common.{◌≡◌, ◌+◌, ◌∷◌, drop, true, false, Some, sym, ap, ◌∙◌, subst}
use Rattle.eu_base.specs.Requests.{request_size, request_result, answer_of}
use Rattle.eu_base.specs.Room.{bytes_fit}
use Rattle.code_form.specs.declared.operand.Operand.TheVariants.{Value as Of}
use Rattle.code_form.specs.Machine.{free, bytes_on, bytes_of}
use Rattle.code_form.specs.declared.halt.Halt.TheVariants.{Stopped}
use Rattle.zero_ops.specs.declared.error.Fault.{Fault}
use Rattle.zero_ops.specs.declared.error.OpError.{OpError}
use Rattle.zero_ops.specs.Given.{stop_of, HasCause}
use Rattle.zero_state.specs.Stacked.{Stacked}
use Rattle.zero_state.specs.declared.next.Next.TheVariants.{On, OperandRoom}
use Rattle.zero_state.specs.Stepping.{position_of}
use Rattle.zero_steps.specs.Replying.{Answers}
use Rattle.zero_steps.proofs.Replying.{delivered, answer_stops, answer_full, answer_pushed}
use Rattle.zero_steps.proofs.reply.push_answer.Goals as goal

pub returns-in-Err-Stop : goal.returns-in-Err-Stop
returns-in-Err-Stop c = λ r is.
    let now = position_of c.args.s.now in
    let name = c.args.name in
    let kind = delivered (request_result name) c.requires.delivers in
    subst (λ w. Answers name r now (record { position = now; waits = w }) c.stopped.result) (sym is)
    (answer_stops name r now c.requires.taken kind.0 kind.1 (stop_of c.in-Err-Stop.fault) c.stopped.result
    (subst (λ (e : OpError). HasCause e (answer_of name r)) c.in-Err-Stop.field-0-is (c.in-Err-Stop.ensures r is))
    (c.stopped.ensures ∙ ap (λ (f : Fault). Some (Stopped (stop_of f))) c.in-Err-Stop.fault-is))

pub returns-then-not-has_room_behind : goal.returns-then-not-has_room_behind
returns-then-not-has_room_behind c = λ r is.
    let now = position_of c.args.s.now in
    let name = c.args.name in
    let v = c.in-Ok.value in
    let kind = delivered (request_result name) c.requires.delivers in
    let room : bytes_fit (bytes_on (Of v ∷ drop (request_size name) now.ops) (bytes_of now.frames)) ≡ false =
    ap (λ n. bytes_fit (bytes_on (Of v ∷ drop n now.ops) (bytes_of now.frames))) (sym c.size-count.ensures) ∙ sym c.has_room_behind.ensures
    ∙ c.if-not-has_room_behind.true in
    subst (λ w. Answers name r now (record { position = now; waits = w }) OperandRoom) (sym is)
    (answer_full name r now c.requires.taken kind.0 kind.1 v (c.in-Ok.ensures r is) room)

pub returns : goal.returns
returns c = λ r is.
    let s = c.args.s.now in
    let now = position_of s in
    let name = c.args.name in
    let v = c.in-Ok.value in
    let kind = delivered (request_result name) c.requires.delivers in
    let room : bytes_fit (bytes_on (Of v ∷ drop (request_size name) now.ops) (bytes_of now.frames)) ≡ true =
    ap (λ n. bytes_fit (bytes_on (Of v ∷ drop n now.ops) (bytes_of now.frames))) (sym c.size-count.ensures) ∙ sym c.has_room_behind.ensures
    ∙ c.if-not-has_room_behind.false in
    let left : c.push.new.self ≡ record s.stack { ops = Of v ∷ drop (request_size name) s.stack.ops } =
    c.in_ok-push.ensures ∙ ap (λ (t : Stacked). record t { ops = Of v ∷ t.ops }) c.drop_top.ensures
    ∙ ap (λ n. record s.stack { ops = Of v ∷ drop n s.stack.ops }) c.size-count.ensures in
    subst (λ (t : Stacked). Answers name r now (free (record now { pc = now.pc + 1; ops = t.ops; frames = t.frames })) On) (sym left)
    (answer_pushed name r now c.requires.taken kind.0 kind.1 v (c.in-Ok.ensures r is) room)
