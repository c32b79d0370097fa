use Rattle.std.proofs.Common.{◌≡◌, [], ◌∷◌, ◌+◌, true, false, sym, map, List, ap, ◌∙◌, subst, take, drop}
use Rattle.std.specs.Prelude.{reverse}
use Rattle.code_form.specs.declared.operand.Operand.{Operand}
use Rattle.code_form.specs.declared.operand.Operand.TheVariants as operand
use Rattle.code_form.specs.declared.instr.Instr.TheVariants.{Store}
use Rattle.eu_base.specs.Values.{kind_of}
use Rattle.eu_base.specs.SpacePlaces.{lies_in}
use Rattle.zero_state.specs.Finds.{all_of}
use Rattle.zero_state.specs.Stacked.{Stacked}
use Rattle.zero_state.specs.declared.next.Next.TheVariants.{On, TextRoom, NoSpace}
use Rattle.zero_steps.specs.Reading.{PutsAll}
use Rattle.zero_steps.proofs.Accessing.{accessed, with_ops}
use Rattle.zero_steps.proofs.Aggregates.{store_gone, store_goes, store_full, few_cells}
use Rattle.zero_steps.proofs.Placed.{there_of}
use Rattle.zero_steps.proofs.aggregate.store_all.Goals as goal

pub returns-in-Done-clause-goes : goal.returns-in-Done-clause-goes
returns-in-Done-clause-goes g c = λ shape.
    let before = g.M.Memory.holds c.args.m.now in
    let after = g.M.Memory.holds c.put_operand.new.m in
    let s = c.args.s.now in
    let finds = c.requires.finds in
    let o = finds.operand in
    let a = finds.place in
    let t : Stacked = record { ops = finds.rest; frames = s.stack.frames } in
    let there : s.stack ≡ with_ops t (o ∷ operand.Place a ∷ t.ops) = ap (λ (ops : List Operand). with_ops t ops) finds.top in
    let seen : c.top.result.now ≡ operand.Place a ∷ o ∷ [] = c.top.ensures ∙ ap (λ (ops : List Operand). reverse (take 2 ops)) finds.top in
    let same : c.operand-item.result ≡ o = rw seen at c.operand-item.is in
    let here : lies_in (map kind_of (all_of o)) a.area a.cell (g.M.Memory.heads c.args.m.now) ≡ true =
    sym (subst (λ o. c.in_ok-is_operand_there.field-0 ≡ lies_in (map kind_of (all_of o)) a.area a.cell (g.M.Memory.heads c.args.m.now)) same
    (rw seen at c.in_ok-is_operand_there.ensures)) ∙ c.if-not-branch.false in
    let puts : PutsAll before after a (all_of c.operand-item.result) c.in_ok-put_operand.field-0 = rw seen at c.in_ok-put_operand.ensures.puts in
    accessed before after (g.M.Memory.heads c.args.m.now) (Store shape) On s.pc s.used (s.pc + 1) s.used s.stack c.drop_top.new.self _ t s.waits c.requires.ready.free there
    (c.drop_top.ensures ∙ ap (λ (ops : List Operand). with_ops t (drop 2 ops)) finds.top)
    (store_goes before after (g.M.Memory.heads c.args.m.now) shape o finds.value a finds.cell s.pc s.used t (few_cells s.stack o finds.value (operand.Place a ∷ finds.rest) finds.top c.requires.ready.bytes) here
    (subst (PutsAll before after a (all_of o)) c.in-Done.is (subst (λ o. PutsAll before after a (all_of o) c.in_ok-put_operand.field-0) same puts)))

pub returns-in-HeapFull-clause-goes : goal.returns-in-HeapFull-clause-goes
returns-in-HeapFull-clause-goes g c = λ shape.
    let before = g.M.Memory.holds c.args.m.now in
    let after = g.M.Memory.holds c.put_operand.new.m in
    let s = c.args.s.now in
    let finds = c.requires.finds in
    let o = finds.operand in
    let a = finds.place in
    let t : Stacked = record { ops = finds.rest; frames = s.stack.frames } in
    let there : s.stack ≡ with_ops t (o ∷ operand.Place a ∷ t.ops) = ap (λ (ops : List Operand). with_ops t ops) finds.top in
    let seen : c.top.result.now ≡ operand.Place a ∷ o ∷ [] = c.top.ensures ∙ ap (λ (ops : List Operand). reverse (take 2 ops)) finds.top in
    let same : c.operand-item.result ≡ o = rw seen at c.operand-item.is in
    let here : lies_in (map kind_of (all_of o)) a.area a.cell (g.M.Memory.heads c.args.m.now) ≡ true =
    sym (subst (λ o. c.in_ok-is_operand_there.field-0 ≡ lies_in (map kind_of (all_of o)) a.area a.cell (g.M.Memory.heads c.args.m.now)) same
    (rw seen at c.in_ok-is_operand_there.ensures)) ∙ c.if-not-branch.false in
    let puts : PutsAll before after a (all_of c.operand-item.result) c.in_ok-put_operand.field-0 = rw seen at c.in_ok-put_operand.ensures.puts in
    accessed before after (g.M.Memory.heads c.args.m.now) (Store shape) TextRoom s.pc s.used s.pc s.used s.stack s.stack _ _ s.waits c.requires.ready.free there there
    (store_full before after (g.M.Memory.heads c.args.m.now) shape o finds.value a finds.cell s.pc s.used t (few_cells s.stack o finds.value (operand.Place a ∷ finds.rest) finds.top c.requires.ready.bytes) here
    (subst (PutsAll before after a (all_of o)) c.in-HeapFull.is (subst (λ o. PutsAll before after a (all_of o) c.in_ok-put_operand.field-0) same puts)))

pub returns-then-not-branch-clause-goes : goal.returns-then-not-branch-clause-goes
returns-then-not-branch-clause-goes g c = λ shape.
    let holds = g.M.Memory.holds c.args.m.now in
    let heads = g.M.Memory.heads c.args.m.now in
    let s = c.args.s.now in
    let finds = c.requires.finds in
    let o = finds.operand in
    let a = finds.place in
    let t : Stacked = record { ops = finds.rest; frames = s.stack.frames } in
    let there : s.stack ≡ with_ops t (o ∷ operand.Place a ∷ t.ops) = ap (λ (ops : List Operand). with_ops t ops) finds.top in
    let seen : c.top.result.now ≡ operand.Place a ∷ o ∷ [] = c.top.ensures ∙ ap (λ (ops : List Operand). reverse (take 2 ops)) finds.top in
    let same : c.operand-item.result ≡ o = rw seen at c.operand-item.is in
    let gone : lies_in (map kind_of (all_of o)) a.area a.cell heads ≡ false =
    sym (subst (λ o. c.in_ok-is_operand_there.field-0 ≡ lies_in (map kind_of (all_of o)) a.area a.cell heads) same
    (rw seen at c.in_ok-is_operand_there.ensures)) ∙ c.if-not-branch.true in
    accessed holds holds heads (Store shape) NoSpace s.pc s.used s.pc s.used s.stack s.stack _ _ s.waits c.requires.ready.free there there
    (store_gone holds holds heads shape o finds.value a finds.cell s.pc s.used t
    (few_cells s.stack o finds.value (operand.Place a ∷ finds.rest) finds.top c.requires.ready.bytes) (λ cells h. h) gone)

pub put_operand-requires-clause-there : goal.put_operand-requires-clause-there
put_operand-requires-clause-there g c =
    let finds = c.requires.finds in
    let o = finds.operand in
    let a = finds.place in
    let seen : c.top.result.now ≡ operand.Place a ∷ o ∷ [] = c.top.ensures ∙ ap (λ (ops : List Operand). reverse (take 2 ops)) finds.top in
    let here : lies_in (map kind_of (all_of c.operand-item.result)) a.area a.cell (g.M.Memory.heads c.args.m.now) ≡ true =
    sym (rw seen at c.in_ok-is_operand_there.ensures) ∙ c.if-not-branch.false in
    rw seen (there_of (map kind_of (all_of c.operand-item.result)) a.area a.cell (g.M.Memory.heads c.args.m.now) here)
