use Rattle.std.proofs.Common.{◌≡◌, ◌+◌, ◌≤◌, ℕ, List, length, take, drop, sym, ap, ◌∙◌, subst, arith}
use Rattle.std.proofs.lemmas.List.{length-reverse, length-take-le}
use Rattle.std.specs.List.{AllByRecursion}
use Rattle.eu_base.specs.Requests.{request_places, message_values, Suits}
use Rattle.code_form.specs.declared.operand.Operand.{Operand}
use Rattle.zero_state.specs.Finds.{AreVariables}
use Rattle.zero_state.specs.Stacked.{Stacked}
use Rattle.zero_state.specs.declared.next.Next.TheVariants.{On}
use Rattle.zero_state.specs.Stepping.{position_of}
use Rattle.zero_steps.specs.Received.{ReceivesAll}
use Rattle.zero_steps.specs.Replying.{left_waiting, Replies}
use Rattle.zero_steps.proofs.Replying.{behind_is}
use Rattle.zero_steps.proofs.Receiving.{received_so}
use Rattle.zero_steps.proofs.reply.receive.Goals as goal

pub behind-variables-requires : goal.behind-variables-requires
behind-variables-requires g c =
    let ops = c.args.s.now.stack.ops in
    let n = c.size-count.result in
    let size = c.size-count.ensures in
    let taken = c.requires.finds.taken in
    let few : n ≤ length ops = omega (arith, size, taken) in
    let long : length c.top.result.now ≡ n = ap length c.top.ensures ∙ length-reverse (take n ops) ∙ length-take-le n ops few in
    let kinds = ap length c.operand_kinds.ensures in
    omega (arith, size, long, kinds)

pub receive_all-requires : goal.receive_all-requires
receive_all-requires g c =
    let name = c.args.name in
    let ops = c.args.s.now.stack.ops in
    let behind =
    behind_is name ops c.top.result.now c.operand_kinds.result.now c.size-count.result c.top.ensures c.size-count.ensures c.operand_kinds.ensures
    ∙ sym c.behind-variables.ensures in (
      request_places name,
      subst (AreVariables (request_places name)) behind c.requires.finds.variables,
      subst (AllByRecursion (Suits (request_places name))) (sym c.as_slice.ensures) c.in_ok-values.ensures.1,
    )

pub returns-clause-goes : goal.returns-clause-goes
returns-clause-goes g c = λ r is.
    let holds = g.M.Memory.holds in
    let heads = g.M.Memory.heads in
    let before = holds c.args.m.now in
    let after = holds c.receive_all.new.m in
    let had = heads c.args.m.now in
    let has = heads c.receive_all.new.m in
    let name = c.args.name in
    let now = position_of c.args.s.now in
    let all = c.in_ok-all.all in
    let es = c.as_slice.result.now in
    let behind =
    behind_is name now.ops c.top.result.now c.operand_kinds.result.now c.size-count.result c.top.ensures c.size-count.ensures c.operand_kinds.ensures
    ∙ sym c.behind-variables.ensures in
    let left = c.drop_top.ensures ∙ ap (λ n. record c.args.s.now.stack { ops = drop n now.ops }) c.size-count.ensures in
    let brought = c.as_slice.ensures ∙ c.in_ok-values.ensures.0 r is ∙ ap (λ (n : ℕ). message_values name r (record { 0 = n })) c.last_number.ensures in
    let s' = c.drop_top.new.self in
    subst (λ w. Replies before after had has name r now (record { position = record now { pc = now.pc + 1; ops = s'.ops; frames = s'.frames }; waits = w }) On)
    (sym c.goes_on_if.ensures)
    (subst (λ (t : Stacked). Replies before after had has name r now
    (record { position = record now { pc = now.pc + 1; ops = t.ops; frames = t.frames }; waits = left_waiting all }) On) (sym left)
    (received_so before after had has name r now c.requires.finds.taken c.requires.none c.requires.message c.requires.finds.variables es brought all
    (subst (λ (os : List Operand). ReceivesAll before after had has os es all) (sym behind) c.in_ok-all.ensures.goes)))
