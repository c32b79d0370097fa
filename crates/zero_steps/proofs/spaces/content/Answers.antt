use Rattle.std.proofs.Common.{◌≡◌, ◌∷◌, ◌+◌, List, sym, ap, ◌∙◌, []}
use Rattle.eu_base.specs.Room.{bytes_fit}
use Rattle.code_form.specs.declared.operand.Operand.{Operand}
use Rattle.code_form.specs.declared.operand.Operand.TheVariants as operand
use Rattle.code_form.specs.declared.instr.Instr.TheVariants.{Content}
use Rattle.code_form.specs.Machine.{content_at, bytes_on, bytes_of}
use Rattle.eu_base.specs.declared.value.Kind.TheVariants as kinds
use Rattle.zero_state.specs.Stacked.{Stacked}
use Rattle.zero_state.specs.declared.next.Next.TheVariants.{On, NoSpace}
use Rattle.zero_steps.proofs.Accessing.{accessed, with_ops}
use Rattle.zero_steps.proofs.Looking.{content_gone, content_so}
use Rattle.zero_steps.proofs.Placed.{there_of}
use Rattle.zero_steps.proofs.spaces.content.Goals as goal

pub returns-then-not-is_top_there-clause-goes : goal.returns-then-not-is_top_there-clause-goes
returns-then-not-is_top_there-clause-goes g c =
    let holds = g.M.Memory.holds c.args.m.now in
    let heads = g.M.Memory.heads c.args.m.now in
    let s = c.args.s.now in
    let a = c.requires.finds.place in
    let t : Stacked = record { ops = c.requires.finds.rest; frames = s.stack.frames } in
    let there : s.stack ≡ with_ops t (operand.Place a ∷ t.ops) = ap (λ (ops : List Operand). with_ops t ops) c.requires.finds.top in
    accessed holds holds heads Content NoSpace s.pc s.used s.pc s.used s.stack s.stack _ _ s.waits c.requires.ready.free there there
    (content_gone holds holds heads a s.pc s.used t (sym (c.is_top_there.ensures a t.ops c.requires.finds.top) ∙ c.if-not-is_top_there.true) (λ cells h. h))

pub cell-requires-clause-there : goal.cell-requires-clause-there
cell-requires-clause-there g c =
    there_of (kinds.Space ∷ []) c.pop_place-at.result.area c.pop_place-at.result.cell (g.M.Memory.heads c.args.m.now)
    (sym (c.is_top_there.ensures c.pop_place-at.result c.pop_place-at.new.self.ops (ap (λ (u : Stacked). u.ops) c.pop_place-at.ensures))
    ∙ c.if-not-is_top_there.false)

pub push-requires : goal.push-requires
push-requires g c =
    let s = c.args.s.now.stack in
    ap (λ (u : Stacked). bytes_fit (bytes_on u.ops (bytes_of u.frames))) (sym c.pop_place-at.ensures) ∙ c.requires.ready.bytes

pub returns-clause-goes : goal.returns-clause-goes
returns-clause-goes g c =
    let before = g.M.Memory.holds c.args.m.now in
    let after = g.M.Memory.holds c.cell.new.self in
    let heads = g.M.Memory.heads c.args.m.now in
    let s = c.args.s.now in
    let t = c.pop_place-at.new.self in
    let a = c.pop_place-at.result in
    let place = c.content_at-place.result in
    accessed before after heads Content On s.pc s.used (s.pc + 1) s.used s.stack c.push.new.self _ (with_ops t (operand.Place place ∷ t.ops)) s.waits
    c.requires.ready.free c.pop_place-at.ensures c.in_ok-push.ensures
    (content_so before after heads a s.pc s.used t c.in_ok-cell.field-0 place
    (sym (c.is_top_there.ensures a t.ops (ap (λ (u : Stacked). u.ops) c.pop_place-at.ensures)) ∙ c.if-not-is_top_there.false)
    (c.content_at-place.ensures ∙ ap content_at c.space_in.ensures) c.in_ok-cell.ensures.number c.in_ok-cell.ensures.kept
    (ap (λ (u : Stacked). bytes_fit (bytes_on u.ops (bytes_of u.frames))) (sym c.pop_place-at.ensures) ∙ c.requires.ready.bytes))
