use Rattle.std.proofs.Common.{◌≡◌, [], ◌∷◌, ◌+◌, List, Option, refl, ap, ◌∙◌, subst, take, drop}
use Rattle.std.specs.Prelude.{reverse}
use Rattle.eu_base.specs.Values.{SpaceNo, space_of}
use Rattle.code_form.specs.declared.operand.Operand.{Operand}
use Rattle.code_form.specs.declared.operand.Operand.TheVariants as operand
use Rattle.code_form.specs.declared.instr.Instr.TheVariants.{Bind}
use Rattle.code_form.specs.Machine.{binds}
use Rattle.zero_state.specs.Stacked.{Stacked}
use Rattle.zero_state.specs.declared.next.Next.TheVariants.{On}
use Rattle.space_calls.specs.Assigned.{Act, Assigns}
use Rattle.zero_steps.proofs.Accessing.{with_ops}
use Rattle.zero_steps.proofs.Assigning.{acted, assigns_so, refuses_so}
use Rattle.zero_steps.proofs.spaces.bind.Goals as goal

pub returns-in-None-clause-goes : goal.returns-in-None-clause-goes
returns-in-None-clause-goes g c =
    let before = g.M.Memory.holds c.args.m.now in
    let after = g.M.Memory.holds c.assign_bound.new.m in
    let had = g.M.Memory.heads c.args.m.now in
    let has = g.M.Memory.heads c.assign_bound.new.m in
    let shape = c.args.shape.now in
    let s = c.args.s.now in
    let v = c.requires.finds.value in
    let a = c.requires.finds.place in
    let t : Stacked = record { ops = c.requires.finds.rest; frames = s.stack.frames } in
    let there : s.stack ≡ with_ops t (operand.Value v ∷ operand.Place a ∷ t.ops) =
    ap (λ (ops : List Operand). with_ops t ops) c.requires.finds.top in
    let seen : c.top.result.now ≡ operand.Place a ∷ operand.Value v ∷ [] =
    c.top.ensures ∙ ap (λ (u : Stacked). reverse (take 2 u.ops)) there in
    let space : c.space.result ≡ space_of v = rw seen at c.space.ensures in
    let found : Assigns before after had has (λ k ops mem. binds k shape c.space.result a ops mem) c.in_ok-assign_bound.field-0 = rw seen at c.in_ok-assign_bound.ensures.goes in
    let out = subst (λ (sp : Option SpaceNo). Assigns before after had has (λ k ops mem. binds k shape sp a ops mem) c.in_ok-assign_bound.field-0) space found in
    let act : Act = λ k ops mem. binds k shape (space_of v) a ops mem in
    acted before after had has (Bind shape) On s.pc s.used (s.pc + 1) s.used s.stack c.drop_top.new.self _ t s.waits c.requires.ready.free there
    (c.drop_top.ensures ∙ ap (λ (u : Stacked). record u { ops = drop 2 u.ops }) there)
    (assigns_so before after had has (Bind shape) act v a s.pc s.used t (λ p marks m. refl)
    (subst (Assigns before after had has act) c.in-None.is out))

pub returns-in-Some-clause-goes : goal.returns-in-Some-clause-goes
returns-in-Some-clause-goes g c =
    let before = g.M.Memory.holds c.args.m.now in
    let after = g.M.Memory.holds c.assign_bound.new.m in
    let had = g.M.Memory.heads c.args.m.now in
    let has = g.M.Memory.heads c.assign_bound.new.m in
    let shape = c.args.shape.now in
    let s = c.args.s.now in
    let v = c.requires.finds.value in
    let a = c.requires.finds.place in
    let t : Stacked = record { ops = c.requires.finds.rest; frames = s.stack.frames } in
    let there : s.stack ≡ with_ops t (operand.Value v ∷ operand.Place a ∷ t.ops) =
    ap (λ (ops : List Operand). with_ops t ops) c.requires.finds.top in
    let seen : c.top.result.now ≡ operand.Place a ∷ operand.Value v ∷ [] =
    c.top.ensures ∙ ap (λ (u : Stacked). reverse (take 2 u.ops)) there in
    let space : c.space.result ≡ space_of v = rw seen at c.space.ensures in
    let found : Assigns before after had has (λ k ops mem. binds k shape c.space.result a ops mem) c.in_ok-assign_bound.field-0 = rw seen at c.in_ok-assign_bound.ensures.goes in
    let out = subst (λ (sp : Option SpaceNo). Assigns before after had has (λ k ops mem. binds k shape sp a ops mem) c.in_ok-assign_bound.field-0) space found in
    let act : Act = λ k ops mem. binds k shape (space_of v) a ops mem in
    acted before after had has (Bind shape) c.in-Some.stop s.pc s.used s.pc s.used s.stack s.stack _ _ s.waits c.requires.ready.free there there
    (refuses_so before after had has (Bind shape) act v a s.pc s.used t (λ p marks m. refl) c.in-Some.stop
    (subst (Assigns before after had has act) c.in-Some.is out))
