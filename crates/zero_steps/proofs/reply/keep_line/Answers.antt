use Rattle.std.proofs.Common.{◌+◌, drop, Some, sym, ap, ◌∙◌, subst}
use Rattle.eu_base.specs.Requests.{read_as}
use Rattle.code_form.specs.declared.halt.Halt.TheVariants.{Stopped}
use Rattle.zero_ops.specs.declared.error.Fault.{Fault}
use Rattle.zero_ops.specs.declared.error.OpError.{OpError}
use Rattle.zero_ops.specs.Given.{stop_of, HasCause}
use Rattle.code_form.specs.Machine.{free}
use Rattle.eu_base.specs.Values.{kind_of}
use Rattle.zero_state.specs.Finds.{behind_values}
use Rattle.zero_state.specs.Stacked.{Stacked}
use Rattle.zero_state.specs.declared.next.Next.TheVariants.{On, TextRoom, NoSpace}
use Rattle.zero_state.specs.Stepping.{position_of}
use Rattle.zero_steps.specs.Replying.{IsAt, Replies}
use Rattle.zero_steps.proofs.Replying.{behind_is, kept_area, kept_there, kept_gone, reply_gone, reply_stops, reply_done, reply_unkept}
use Rattle.zero_steps.proofs.reply.keep_line.Goals as goal

pub returns-in-Done-clause-goes : goal.returns-in-Done-clause-goes
returns-in-Done-clause-goes g c = λ r is.
    let before = g.M.Memory.holds c.args.m.now in
    let after = g.M.Memory.holds c.keep.new.m in
    let now = position_of c.args.s.now in
    let name = c.args.name in
    let here = kept_there c.variable-at.result (kind_of c.in-Ok.value) (g.M.Memory.heads c.args.m.now) c.is_kept_there.result c.is_kept_there.ensures
    c.if-not-is_kept_there.false in
    let behind =
    behind_is name now.ops c.top.result.now c.operand_kinds.result.now c.size-count.result c.top.ensures c.size-count.ensures c.operand_kinds.ensures in
    let left = c.drop_top.ensures ∙ ap (λ n. record c.args.s.now.stack { ops = drop n now.ops }) c.size-count.ensures in
    subst (λ (t : Stacked). Replies before after (g.M.Memory.heads c.args.m.now) (g.M.Memory.heads c.args.m.now) name r now (free (record now { pc = now.pc + 1; ops = t.ops; frames = t.frames })) On) (sym left)
    (reply_done before after (g.M.Memory.heads c.args.m.now) name r now c.requires.finds.taken c.requires.none c.requires.other c.in-Ok.value (c.in-Ok.ensures r is)
    c.variable-at.result c.in_ok-keep.field-0 (subst (λ os. IsAt os c.variable-at.result) (sym behind) c.variable-at.ensures) here c.in-Done.is
    c.in_ok-keep.ensures.puts)

pub returns-clause-goes : goal.returns-clause-goes
returns-clause-goes g c = λ r is.
    let before = g.M.Memory.holds c.args.m.now in
    let after = g.M.Memory.holds c.keep.new.m in
    let now = position_of c.args.s.now in
    let name = c.args.name in
    let here = kept_there c.variable-at.result (kind_of c.in-Ok.value) (g.M.Memory.heads c.args.m.now) c.is_kept_there.result c.is_kept_there.ensures
    c.if-not-is_kept_there.false in
    let behind =
    behind_is name now.ops c.top.result.now c.operand_kinds.result.now c.size-count.result c.top.ensures c.size-count.ensures c.operand_kinds.ensures in
    subst (λ w. Replies before after (g.M.Memory.heads c.args.m.now) (g.M.Memory.heads c.args.m.now) name r now (record { position = now; waits = w }) TextRoom) (sym is)
    (reply_unkept before after (g.M.Memory.heads c.args.m.now) name r now c.requires.finds.taken c.requires.none c.requires.other c.in-Ok.value (c.in-Ok.ensures r is)
    c.variable-at.result c.in_ok-keep.field-0 (subst (λ os. IsAt os c.variable-at.result) (sym behind) c.variable-at.ensures) here c.in-HeapFull.is
    c.in_ok-keep.ensures.puts)

pub returns-in-Err-Stop-clause-goes : goal.returns-in-Err-Stop-clause-goes
returns-in-Err-Stop-clause-goes g c = λ r is.
    let before = g.M.Memory.holds c.args.m.now in
    let now = position_of c.args.s.now in
    let name = c.args.name in
    subst (λ w. Replies before before (g.M.Memory.heads c.args.m.now) (g.M.Memory.heads c.args.m.now) name r now (record { position = now; waits = w }) c.stopped.result) (sym is)
    (reply_stops before before (g.M.Memory.heads c.args.m.now) name r now c.requires.finds.taken c.requires.none c.requires.other (λ cells h. h) (stop_of c.in-Err-Stop.fault) c.stopped.result
    (subst (λ (e : OpError). HasCause e (read_as name r)) c.in-Err-Stop.field-0-is (c.in-Err-Stop.ensures r is))
    (c.stopped.ensures ∙ ap (λ (f : Fault). Some (Stopped (stop_of f))) c.in-Err-Stop.fault-is))

pub returns-then-not-is_kept_there-clause-goes : goal.returns-then-not-is_kept_there-clause-goes
returns-then-not-is_kept_there-clause-goes g c = λ r is.
    let holds = g.M.Memory.holds c.args.m.now in
    let heads = g.M.Memory.heads c.args.m.now in
    let now = position_of c.args.s.now in
    let name = c.args.name in
    let behind =
    behind_is name now.ops c.top.result.now c.operand_kinds.result.now c.size-count.result c.top.ensures c.size-count.ensures c.operand_kinds.ensures in
    let gone = kept_gone c.variable-at.result (kind_of c.in-Ok.value) heads c.is_kept_there.result c.is_kept_there.ensures c.if-not-is_kept_there.true in
    subst (λ w. Replies holds holds heads heads name r now (record { position = now; waits = w }) NoSpace) (sym is)
    (reply_gone holds holds heads name r now c.requires.finds.taken c.requires.none c.requires.other (λ cells h. h) c.in-Ok.value (c.in-Ok.ensures r is) gone.0
    (subst (IsAt (behind_values name now.ops)) gone.1.0 (subst (λ os. IsAt os c.variable-at.result) (sym behind) c.variable-at.ensures)) gone.1.1)

pub keep-requires-clause-there : goal.keep-requires-clause-there
keep-requires-clause-there g c =
    kept_area c.variable-at.result (kind_of c.in-Ok.value) (g.M.Memory.heads c.args.m.now) c.is_kept_there.result c.is_kept_there.ensures
    c.if-not-is_kept_there.false
