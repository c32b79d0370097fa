use Rattle.std.proofs.Common.{◌≡◌, [], ◌∷◌, ◌+◌, true, false, List, sym, ap, ◌∙◌, take}
use Rattle.std.specs.Prelude.{reverse}
use Rattle.code_form.specs.declared.operand.Operand.{Operand}
use Rattle.code_form.specs.declared.operand.Operand.TheVariants as operand
use Rattle.eu_base.specs.declared.shape.Shape.TheVariants.{Cell}
use Rattle.code_form.specs.declared.instr.Instr.TheVariants.{Load}
use Rattle.zero_state.specs.Stacked.{Stacked}
use Rattle.zero_state.specs.declared.next.Next.TheVariants.{On, OperandRoom, NoSpace}
use Rattle.eu_base.specs.SpacePlaces.{lies_in}
use Rattle.zero_steps.specs.Reading.{Reads}
use Rattle.zero_steps.proofs.Accessing.{accessed, with_ops}
use Rattle.zero_steps.proofs.Aggregates.{one_there, one_gone, load_gone, load_goes, load_stops, one_read, one_fits}
use Rattle.zero_steps.proofs.Operating.{placed, place_fits}
use Rattle.zero_steps.proofs.Placed.{there_of}
use Rattle.zero_steps.proofs.step.load_one.Goals as goal

pub returns-then-not-has_room_in_place-clause-goes : goal.returns-then-not-has_room_in_place-clause-goes
returns-then-not-has_room_in_place-clause-goes g c =
    let before = g.M.Memory.holds c.args.m.now in
    let after = g.M.Memory.holds c.value_at.new.m in
    let s = c.args.s.now in
    let a = c.requires.finds.place in
    let t : Stacked = record { ops = c.requires.finds.rest; frames = s.stack.frames } in
    let there : s.stack ≡ with_ops t (operand.Place a ∷ t.ops) = ap (λ (ops : List Operand). with_ops t ops) c.requires.finds.top in
    let seen : c.top.result.now ≡ operand.Place a ∷ [] = c.top.ensures ∙ ap (λ (u : Stacked). reverse (take 1 u.ops)) there in
    let here : lies_in (c.args.kind ∷ []) a.area a.cell (g.M.Memory.heads c.args.m.now) ≡ true =
    sym (rw seen at c.is_there.ensures) ∙ c.if-not-is_there.false in
    let reads : Reads before a c.args.kind c.in_ok-value.value = rw seen at c.in_ok-value.ensures.reads in
    accessed before after (g.M.Memory.heads c.args.m.now) (Load (Cell c.args.kind)) OperandRoom s.pc s.used s.pc s.used s.stack s.stack _ _ s.waits c.requires.ready.free there there
    (load_stops before after (g.M.Memory.heads c.args.m.now) (Cell c.args.kind) a s.pc s.used t (c.in_ok-value.value ∷ []) c.requires.finds.cell
    (one_there a c.args.kind (g.M.Memory.heads c.args.m.now) here) (one_read before a c.args.kind c.in_ok-value.value reads) c.in_ok-value.ensures.kept (one_fits a c.args.kind t s.stack there c.requires.ready.bytes)
    (sym (c.has_room_in_place.ensures a t.ops c.requires.finds.top) ∙ c.if-not-has_room_in_place.true))

pub replace_top-requires-clause-room : goal.replace_top-requires-clause-room
replace_top-requires-clause-room g c =
    let s = c.args.s.now in
    let a = c.requires.finds.place in
    let t : Stacked = record { ops = c.requires.finds.rest; frames = s.stack.frames } in
    let there : s.stack ≡ with_ops t (operand.Place a ∷ t.ops) = ap (λ (ops : List Operand). with_ops t ops) c.requires.finds.top in
    place_fits t s.stack (operand.Value c.in_ok-value.value) (operand.Place a) there
    (sym (c.has_room_in_place.ensures a t.ops c.requires.finds.top) ∙ c.if-not-has_room_in_place.false)

pub returns-clause-goes : goal.returns-clause-goes
returns-clause-goes g c =
    let before = g.M.Memory.holds c.args.m.now in
    let after = g.M.Memory.holds c.value_at.new.m in
    let s = c.args.s.now in
    let a = c.requires.finds.place in
    let v = c.in_ok-value.value in
    let t : Stacked = record { ops = c.requires.finds.rest; frames = s.stack.frames } in
    let there : s.stack ≡ with_ops t (operand.Place a ∷ t.ops) = ap (λ (ops : List Operand). with_ops t ops) c.requires.finds.top in
    let seen : c.top.result.now ≡ operand.Place a ∷ [] = c.top.ensures ∙ ap (λ (u : Stacked). reverse (take 1 u.ops)) there in
    let here : lies_in (c.args.kind ∷ []) a.area a.cell (g.M.Memory.heads c.args.m.now) ≡ true =
    sym (rw seen at c.is_there.ensures) ∙ c.if-not-is_there.false in
    let reads : Reads before a c.args.kind v = rw seen at c.in_ok-value.ensures.reads in
    accessed before after (g.M.Memory.heads c.args.m.now) (Load (Cell c.args.kind)) On s.pc s.used (s.pc + 1) s.used s.stack c.replace_top.new.self _ (with_ops t (operand.Value v ∷ t.ops)) s.waits
    c.requires.ready.free there (placed t s.stack c.replace_top.new.self (operand.Value v) (operand.Place a) there c.replace_top.ensures)
    (load_goes before after (g.M.Memory.heads c.args.m.now) (Cell c.args.kind) a s.pc s.used t (v ∷ []) c.requires.finds.cell
    (one_there a c.args.kind (g.M.Memory.heads c.args.m.now) here) (one_read before a c.args.kind v reads)
    c.in_ok-value.ensures.kept (one_fits a c.args.kind t s.stack there c.requires.ready.bytes)
    (sym (c.has_room_in_place.ensures a t.ops c.requires.finds.top) ∙ c.if-not-has_room_in_place.false))

pub returns-then-not-is_there-clause-goes : goal.returns-then-not-is_there-clause-goes
returns-then-not-is_there-clause-goes g c =
    let holds = g.M.Memory.holds c.args.m.now in
    let heads = g.M.Memory.heads c.args.m.now in
    let s = c.args.s.now in
    let a = c.requires.finds.place in
    let t : Stacked = record { ops = c.requires.finds.rest; frames = s.stack.frames } in
    let there : s.stack ≡ with_ops t (operand.Place a ∷ t.ops) = ap (λ (ops : List Operand). with_ops t ops) c.requires.finds.top in
    let seen : c.top.result.now ≡ operand.Place a ∷ [] = c.top.ensures ∙ ap (λ (u : Stacked). reverse (take 1 u.ops)) there in
    let gone : lies_in (c.args.kind ∷ []) a.area a.cell heads ≡ false = sym (rw seen at c.is_there.ensures) ∙ c.if-not-is_there.true in
    accessed holds holds heads (Load (Cell c.args.kind)) NoSpace s.pc s.used s.pc s.used s.stack s.stack _ _ s.waits c.requires.ready.free there there
    (load_gone holds holds heads (Cell c.args.kind) a s.pc s.used t (λ cells h. h) (one_gone a c.args.kind heads gone))

pub value_at-requires-clause-there : goal.value_at-requires-clause-there
value_at-requires-clause-there g c =
    let s = c.args.s.now in
    let a = c.requires.finds.place in
    let t : Stacked = record { ops = c.requires.finds.rest; frames = s.stack.frames } in
    let there : s.stack ≡ with_ops t (operand.Place a ∷ t.ops) = ap (λ (ops : List Operand). with_ops t ops) c.requires.finds.top in
    let seen : c.top.result.now ≡ operand.Place a ∷ [] = c.top.ensures ∙ ap (λ (u : Stacked). reverse (take 1 u.ops)) there in
    let here : lies_in (c.args.kind ∷ []) a.area a.cell (g.M.Memory.heads c.args.m.now) ≡ true =
    sym (rw seen at c.is_there.ensures) ∙ c.if-not-is_there.false in
    rw seen (there_of (c.args.kind ∷ []) a.area a.cell (g.M.Memory.heads c.args.m.now) here)
