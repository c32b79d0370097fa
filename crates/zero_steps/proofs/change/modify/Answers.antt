use Rattle.std.proofs.Common.{◌≡◌, [], ◌∷◌, ◌+◌, true, false, sym, List, refl, ap, ◌∙◌, subst, take}
use Rattle.std.specs.Prelude.{Ok, reverse}
use Rattle.code_form.specs.declared.operand.Operand.{Operand}
use Rattle.code_form.specs.declared.operand.Operand.TheVariants as operand
use Rattle.code_form.specs.declared.instr.Instr.TheVariants.{Modify}
use Rattle.zero_state.specs.Stacked.{Stacked}
use Rattle.zero_state.specs.declared.next.Next.TheVariants.{On, TextRoom, NoSpace}
use Rattle.eu_base.specs.Operations.{change_kind}
use Rattle.eu_base.specs.SpacePlaces.{lies_in}
use Rattle.zero_steps.specs.Reading.{Changes}
use Rattle.zero_steps.proofs.Accessing.{accessed, both, with_ops, modify_gone, modify_goes, modify_full, modify_stops}
use Rattle.zero_steps.proofs.Placed.{there_of}
use Rattle.zero_steps.proofs.change.modify.Goals as goal

pub returns-in-Ok-Done-clause-goes : goal.returns-in-Ok-Done-clause-goes
returns-in-Ok-Done-clause-goes g c =
    let before = g.M.Memory.holds c.args.m.now in
    let after = g.M.Memory.holds c.change_at.new.m in
    let s = c.args.s.now in
    let t = c.pop_place-at.new.self in
    let v = c.pop_value-operand.result in
    let a = c.pop_place-at.result in
    let taken = both s.stack c.pop_value-operand.new.self t (operand.Value v) (operand.Place a) c.pop_value-operand.ensures c.pop_place-at.ensures in
    let seen : c.top.result.now ≡ operand.Place a ∷ operand.Value v ∷ [] =
    c.top.ensures ∙ ap (λ (u : Stacked). reverse (take 2 u.ops)) taken in
    let here : lies_in (change_kind c.args.by ∷ []) a.area a.cell (g.M.Memory.heads c.args.m.now) ≡ true =
    sym (rw seen at c.is_there.ensures ∙ ap (λ k. lies_in (k ∷ []) a.area a.cell (g.M.Memory.heads c.args.m.now)) c.kind.ensures) ∙ c.if-not-is_there.false in
    let changes : Changes before after a c.args.by v c.in_ok-change_at.field-0 = rw seen at c.in_ok-change_at.ensures.changes in
    accessed before after (g.M.Memory.heads c.args.m.now) (Modify c.args.by) On s.pc s.used (s.pc + 1) s.used s.stack t _ t s.waits c.requires.ready.free taken refl
    (modify_goes before after (g.M.Memory.heads c.args.m.now) c.args.by v a s.pc s.used t here
    (subst (Changes before after a c.args.by v) (c.in-Ok-Done.is ∙ ap Ok c.in-Ok-Done.field-0-is) changes))

pub returns-in-Ok-HeapFull-clause-goes : goal.returns-in-Ok-HeapFull-clause-goes
returns-in-Ok-HeapFull-clause-goes g c =
    let before = g.M.Memory.holds c.args.m.now in
    let after = g.M.Memory.holds c.change_at.new.m in
    let s = c.args.s.now in
    let v = c.requires.finds.value in
    let a = c.requires.finds.place in
    let t : Stacked = record { ops = c.requires.finds.rest; frames = s.stack.frames } in
    let there : s.stack ≡ with_ops t (operand.Value v ∷ operand.Place a ∷ t.ops) =
    ap (λ (ops : List Operand). with_ops t ops) c.requires.finds.top in
    let seen : c.top.result.now ≡ operand.Place a ∷ operand.Value v ∷ [] =
    c.top.ensures ∙ ap (λ (u : Stacked). reverse (take 2 u.ops)) there in
    let here : lies_in (change_kind c.args.by ∷ []) a.area a.cell (g.M.Memory.heads c.args.m.now) ≡ true =
    sym (rw seen at c.is_there.ensures ∙ ap (λ k. lies_in (k ∷ []) a.area a.cell (g.M.Memory.heads c.args.m.now)) c.kind.ensures) ∙ c.if-not-is_there.false in
    let changes : Changes before after a c.args.by v c.in_ok-change_at.field-0 = rw seen at c.in_ok-change_at.ensures.changes in
    accessed before after (g.M.Memory.heads c.args.m.now) (Modify c.args.by) TextRoom s.pc s.used s.pc s.used s.stack s.stack _ _ s.waits c.requires.ready.free there there
    (modify_full before after (g.M.Memory.heads c.args.m.now) c.args.by v a s.pc s.used t here
    (subst (Changes before after a c.args.by v) (c.in-Ok-HeapFull.is ∙ ap Ok c.in-Ok-HeapFull.field-0-is) changes))

pub returns-in-Err-clause-goes : goal.returns-in-Err-clause-goes
returns-in-Err-clause-goes g c =
    let before = g.M.Memory.holds c.args.m.now in
    let after = g.M.Memory.holds c.change_at.new.m in
    let s = c.args.s.now in
    let v = c.requires.finds.value in
    let a = c.requires.finds.place in
    let t : Stacked = record { ops = c.requires.finds.rest; frames = s.stack.frames } in
    let there : s.stack ≡ with_ops t (operand.Value v ∷ operand.Place a ∷ t.ops) =
    ap (λ (ops : List Operand). with_ops t ops) c.requires.finds.top in
    let seen : c.top.result.now ≡ operand.Place a ∷ operand.Value v ∷ [] =
    c.top.ensures ∙ ap (λ (u : Stacked). reverse (take 2 u.ops)) there in
    let here : lies_in (change_kind c.args.by ∷ []) a.area a.cell (g.M.Memory.heads c.args.m.now) ≡ true =
    sym (rw seen at c.is_there.ensures ∙ ap (λ k. lies_in (k ∷ []) a.area a.cell (g.M.Memory.heads c.args.m.now)) c.kind.ensures) ∙ c.if-not-is_there.false in
    let changes : Changes before after a c.args.by v c.in_ok-change_at.field-0 = rw seen at c.in_ok-change_at.ensures.changes in
    accessed before after (g.M.Memory.heads c.args.m.now) (Modify c.args.by) c.stopped.result s.pc s.used s.pc s.used s.stack s.stack _ _ s.waits c.requires.ready.free there there
    (modify_stops before after (g.M.Memory.heads c.args.m.now) c.args.by v a s.pc s.used t _ c.stopped.result here (subst (Changes before after a c.args.by v) c.in-Err.is changes)
    c.stopped.ensures)

pub returns-then-not-is_there-clause-goes : goal.returns-then-not-is_there-clause-goes
returns-then-not-is_there-clause-goes g c =
    let holds = g.M.Memory.holds c.args.m.now in
    let heads = g.M.Memory.heads c.args.m.now in
    let s = c.args.s.now in
    let v = c.requires.finds.value in
    let a = c.requires.finds.place in
    let t : Stacked = record { ops = c.requires.finds.rest; frames = s.stack.frames } in
    let there : s.stack ≡ with_ops t (operand.Value v ∷ operand.Place a ∷ t.ops) =
    ap (λ (ops : List Operand). with_ops t ops) c.requires.finds.top in
    let seen : c.top.result.now ≡ operand.Place a ∷ operand.Value v ∷ [] =
    c.top.ensures ∙ ap (λ (u : Stacked). reverse (take 2 u.ops)) there in
    let gone : lies_in (change_kind c.args.by ∷ []) a.area a.cell heads ≡ false =
    sym (rw seen at c.is_there.ensures ∙ ap (λ k. lies_in (k ∷ []) a.area a.cell heads) c.kind.ensures) ∙ c.if-not-is_there.true in
    accessed holds holds heads (Modify c.args.by) NoSpace s.pc s.used s.pc s.used s.stack s.stack _ _ s.waits c.requires.ready.free there there
    (modify_gone holds holds heads c.args.by v a s.pc s.used t (λ cells h. h) gone)

pub change_at-requires-clause-there : goal.change_at-requires-clause-there
change_at-requires-clause-there g c =
    let s = c.args.s.now in
    let v = c.requires.finds.value in
    let a = c.requires.finds.place in
    let t : Stacked = record { ops = c.requires.finds.rest; frames = s.stack.frames } in
    let there : s.stack ≡ with_ops t (operand.Value v ∷ operand.Place a ∷ t.ops) =
    ap (λ (ops : List Operand). with_ops t ops) c.requires.finds.top in
    let seen : c.top.result.now ≡ operand.Place a ∷ operand.Value v ∷ [] =
    c.top.ensures ∙ ap (λ (u : Stacked). reverse (take 2 u.ops)) there in
    let here : lies_in (c.kind.result ∷ []) a.area a.cell (g.M.Memory.heads c.args.m.now) ≡ true =
    sym (rw seen at c.is_there.ensures) ∙ c.if-not-is_there.false in
    rw seen (there_of (c.kind.result ∷ []) a.area a.cell (g.M.Memory.heads c.args.m.now) here)
