use Rattle.std.proofs.Common.{◌≡◌, [], ◌∷◌, ◌+◌, true, false, sym, List, refl, ap, ◌∙◌, subst, take, arith}
use Rattle.std.specs.Prelude.{reverse}
use Rattle.eu_base.specs.declared.set.Set.TheVariants.{Done, HeapFull}
use Rattle.eu_base.specs.Values.{kind_of}
use Rattle.eu_base.specs.Cells.{IsCell, held_of}
use Rattle.eu_base.specs.SpacePlaces.{lies_in}
use Rattle.code_form.specs.declared.operand.Operand.{Operand}
use Rattle.code_form.specs.declared.operand.Operand.TheVariants as operand
use Rattle.code_form.specs.declared.instr.Instr.TheVariants.{Store}
use Rattle.zero_state.specs.Stacked.{Stacked}
use Rattle.zero_state.specs.declared.next.Next.TheVariants.{On, TextRoom, NoSpace}
use Rattle.zero_steps.specs.Reading.{PutsTaken}
use Rattle.zero_steps.proofs.Accessing.{accessed, both, with_ops}
use Rattle.zero_steps.proofs.Storing.{one_put}
use Rattle.zero_steps.proofs.Aggregates.{store_gone, store_goes, store_full, both_cell}
use Rattle.zero_steps.proofs.Placed.{there_of}
use Rattle.zero_steps.proofs.step.store_one.Goals as goal

pub returns-in-Done-clause-goes : goal.returns-in-Done-clause-goes
returns-in-Done-clause-goes g c = λ shape.
    let before = g.M.Memory.holds c.args.m.now in
    let after = g.M.Memory.holds c.put.new.m in
    let s = c.args.s.now in
    let t = c.pop_place-at.new.self in
    let v = c.pop_value-value.result in
    let a = c.pop_place-at.result in
    let taken = both s.stack c.pop_value-value.new.self t (operand.Value v) (operand.Place a) c.pop_value-value.ensures c.pop_place-at.ensures in
    let seen : c.top.result.now ≡ operand.Place a ∷ operand.Value v ∷ [] =
    c.top.ensures ∙ ap (λ (u : Stacked). reverse (take 2 u.ops)) taken in
    let cell : IsCell a = both_cell s.stack t v a taken c.requires.finds in
    let here : lies_in (kind_of v ∷ []) a.area a.cell (g.M.Memory.heads c.args.m.now) ≡ true =
    sym (rw seen at c.is_there.ensures ∙ ap (λ k. lies_in (k ∷ []) a.area a.cell (g.M.Memory.heads c.args.m.now)) (rw seen at c.kind_of.ensures))
    ∙ c.if-not-is_there.false in
    let puts : PutsTaken before after a (held_of v) c.in_ok-put.field-0 = rw seen at c.in_ok-put.ensures.puts in
    accessed before after (g.M.Memory.heads c.args.m.now) (Store shape) On s.pc s.used (s.pc + 1) s.used s.stack t _ t s.waits c.requires.ready.free taken refl
    (store_goes before after (g.M.Memory.heads c.args.m.now) shape (operand.Value v) refl a cell s.pc s.used t (omega arith) here
    (one_put before after a v Done (subst (PutsTaken before after a (held_of v)) c.in-Done.is puts)))

pub returns-in-HeapFull-clause-goes : goal.returns-in-HeapFull-clause-goes
returns-in-HeapFull-clause-goes g c = λ shape.
    let before = g.M.Memory.holds c.args.m.now in
    let after = g.M.Memory.holds c.put.new.m in
    let s = c.args.s.now in
    let v = c.requires.finds.value in
    let a = c.requires.finds.place in
    let t : Stacked = record { ops = c.requires.finds.rest; frames = s.stack.frames } in
    let there : s.stack ≡ with_ops t (operand.Value v ∷ operand.Place a ∷ t.ops) =
    ap (λ (ops : List Operand). with_ops t ops) c.requires.finds.top in
    let seen : c.top.result.now ≡ operand.Place a ∷ operand.Value v ∷ [] =
    c.top.ensures ∙ ap (λ (u : Stacked). reverse (take 2 u.ops)) there in
    let here : lies_in (kind_of v ∷ []) a.area a.cell (g.M.Memory.heads c.args.m.now) ≡ true =
    sym (rw seen at c.is_there.ensures ∙ ap (λ k. lies_in (k ∷ []) a.area a.cell (g.M.Memory.heads c.args.m.now)) (rw seen at c.kind_of.ensures))
    ∙ c.if-not-is_there.false in
    let puts : PutsTaken before after a (held_of v) c.in_ok-put.field-0 = rw seen at c.in_ok-put.ensures.puts in
    accessed before after (g.M.Memory.heads c.args.m.now) (Store shape) TextRoom s.pc s.used s.pc s.used s.stack s.stack _ _ s.waits c.requires.ready.free there there
    (store_full before after (g.M.Memory.heads c.args.m.now) shape (operand.Value v) refl a c.requires.finds.cell s.pc s.used t (omega arith) here
    (one_put before after a v HeapFull (subst (PutsTaken before after a (held_of v)) c.in-HeapFull.is puts)))

pub returns-then-not-is_there-clause-goes : goal.returns-then-not-is_there-clause-goes
returns-then-not-is_there-clause-goes g c = λ shape.
    let holds = g.M.Memory.holds c.args.m.now in
    let heads = g.M.Memory.heads c.args.m.now in
    let s = c.args.s.now in
    let v = c.requires.finds.value in
    let a = c.requires.finds.place in
    let t : Stacked = record { ops = c.requires.finds.rest; frames = s.stack.frames } in
    let there : s.stack ≡ with_ops t (operand.Value v ∷ operand.Place a ∷ t.ops) =
    ap (λ (ops : List Operand). with_ops t ops) c.requires.finds.top in
    let seen : c.top.result.now ≡ operand.Place a ∷ operand.Value v ∷ [] =
    c.top.ensures ∙ ap (λ (u : Stacked). reverse (take 2 u.ops)) there in
    let gone : lies_in (kind_of v ∷ []) a.area a.cell heads ≡ false =
    sym (rw seen at c.is_there.ensures ∙ ap (λ k. lies_in (k ∷ []) a.area a.cell heads) (rw seen at c.kind_of.ensures)) ∙ c.if-not-is_there.true in
    accessed holds holds heads (Store shape) NoSpace s.pc s.used s.pc s.used s.stack s.stack _ _ s.waits c.requires.ready.free there there
    (store_gone holds holds heads shape (operand.Value v) refl a c.requires.finds.cell s.pc s.used t (omega arith) (λ cells h. h) gone)

pub put-requires-clause-there : goal.put-requires-clause-there
put-requires-clause-there g c =
    let s = c.args.s.now in
    let v = c.requires.finds.value in
    let a = c.requires.finds.place in
    let t : Stacked = record { ops = c.requires.finds.rest; frames = s.stack.frames } in
    let there : s.stack ≡ with_ops t (operand.Value v ∷ operand.Place a ∷ t.ops) =
    ap (λ (ops : List Operand). with_ops t ops) c.requires.finds.top in
    let seen : c.top.result.now ≡ operand.Place a ∷ operand.Value v ∷ [] =
    c.top.ensures ∙ ap (λ (u : Stacked). reverse (take 2 u.ops)) there in
    let here : lies_in (c.kind_of.result ∷ []) a.area a.cell (g.M.Memory.heads c.args.m.now) ≡ true =
    sym (rw seen at c.is_there.ensures) ∙ c.if-not-is_there.false in
    rw seen (there_of (c.kind_of.result ∷ []) a.area a.cell (g.M.Memory.heads c.args.m.now) here)
