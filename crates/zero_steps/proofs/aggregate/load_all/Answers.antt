use Rattle.std.proofs.Common.{◌≡◌, true, false, ◌≤◌, [], ◌∷◌, ◌+◌, ◌/◌, List, length, arith, sym, ap, ◌∙◌, subst, take}
use Rattle.std.specs.Prelude.{reverse}
use Rattle.eu_base.specs.Room.{bytes_fit}
use Rattle.eu_base.specs.Shapes.{cell_kinds}
use Rattle.eu_base.specs.SpacePlaces.{lies_in}
use Rattle.code_form.specs.declared.operand.Operand.{Operand}
use Rattle.code_form.specs.declared.operand.Operand.TheVariants as operand
use Rattle.code_form.specs.declared.instr.Instr.TheVariants.{Load}
use Rattle.code_form.specs.Machine.{operand_of, bytes_on, bytes_of}
use Rattle.zero_state.specs.Stacked.{Stacked}
use Rattle.zero_state.specs.declared.next.Next.TheVariants.{On, OperandRoom, NoSpace}
use Rattle.zero_steps.specs.Reading.{AllRead}
use Rattle.zero_steps.proofs.Accessing.{accessed, with_ops}
use Rattle.zero_steps.proofs.Operating.{placed}
use Rattle.zero_steps.proofs.Aggregates.{load_gone, load_least, load_goes, load_stops, too_many, all_kinds, have_room, value_full, value_fits}
use Rattle.zero_steps.proofs.Placed.{there_of}
use Rattle.zero_steps.proofs.aggregate.load_all.Goals as goal

pub returns-then-len-most-clause-goes : goal.returns-then-len-most-clause-goes
returns-then-len-most-clause-goes g c =
    let holds = g.M.Memory.holds c.args.m.now in
    let s = c.args.s.now in
    let finds = c.requires.finds in
    let a = finds.place in
    let t : Stacked = record { ops = finds.rest; frames = s.stack.frames } in
    let there : s.stack ≡ with_ops t (operand.Place a ∷ t.ops) = ap (λ (ops : List Operand). with_ops t ops) finds.top in
    let seen : c.top.result.now ≡ operand.Place a ∷ [] = c.top.ensures ∙ ap (λ (ops : List Operand). reverse (take 1 ops)) finds.top in
    let here : lies_in (cell_kinds c.args.shape.now) a.area a.cell (g.M.Memory.heads c.args.m.now) ≡ true =
    sym (rw seen at c.in_ok-shape_is_there.ensures) ∙ c.if-not-branch.false in
    accessed holds holds (g.M.Memory.heads c.args.m.now) (Load c.args.shape.now) OperandRoom s.pc s.used s.pc s.used s.stack s.stack _ _ s.waits c.requires.ready.free there there
    (load_least holds holds (g.M.Memory.heads c.args.m.now) c.args.shape.now a s.pc s.used t (λ cells h. h) here
    (too_many (cell_kinds c.args.shape.now) c.in_ok-kinds.kinds c.room_in_place-room.result (bytes_on t.ops (bytes_of t.frames)) c.in_ok-kinds.ensures
    (c.room_in_place-room.ensures a t.ops finds.top) (omega (arith, c.if-len-most.true, c.len.ensures))))

pub returns-then-bytes-room-clause-goes : goal.returns-then-bytes-room-clause-goes
returns-then-bytes-room-clause-goes g c =
    let before = g.M.Memory.holds c.args.m.now in
    let after = g.M.Memory.holds c.values_at.new.m in
    let s = c.args.s.now in
    let shape = c.args.shape.now in
    let finds = c.requires.finds in
    let a = finds.place in
    let t : Stacked = record { ops = finds.rest; frames = s.stack.frames } in
    let there : s.stack ≡ with_ops t (operand.Place a ∷ t.ops) = ap (λ (ops : List Operand). with_ops t ops) finds.top in
    let seen : c.top.result.now ≡ operand.Place a ∷ [] = c.top.ensures ∙ ap (λ (ops : List Operand). reverse (take 1 ops)) finds.top in
    let here : lies_in (cell_kinds c.args.shape.now) a.area a.cell (g.M.Memory.heads c.args.m.now) ≡ true =
    sym (rw seen at c.in_ok-shape_is_there.ensures) ∙ c.if-not-branch.false in
    let room = c.room_in_place-room.result in
    let held = bytes_on t.ops (bytes_of t.frames) in
    let whole = c.room_in_place-room.ensures a t.ops finds.top in
    let kinds = c.in_ok-kinds.kinds in
    let vs = c.in_ok-values_at.field-0 in
    let few : length kinds ≤ room / 8 = omega (arith, c.if-len-most.false, c.len.ensures) in
    let all = c.as_slice.ensures ∙ all_kinds (cell_kinds shape) kinds room held c.in_ok-kinds.ensures whole few in
    let fit = have_room (cell_kinds shape) kinds room held c.in_ok-kinds.ensures whole few in
    let read : AllRead before a c.as_slice.result.now vs = rw seen at c.in_ok-values_at.ensures.reads in
    let reads : AllRead before a (cell_kinds shape) vs = subst (λ ks. AllRead before a ks vs) all read in
    let made : c.operand_of-operand.result ≡ operand_of vs = c.operand_of-operand.ensures in
    accessed before after (g.M.Memory.heads c.args.m.now) (Load shape) OperandRoom s.pc s.used s.pc s.used s.stack s.stack _ _ s.waits c.requires.ready.free there there
    (load_stops before after (g.M.Memory.heads c.args.m.now) shape a s.pc s.used t vs finds.cell here reads c.in_ok-values_at.ensures.kept fit
    (ap (λ o. bytes_fit (bytes_on (o ∷ t.ops) (bytes_of t.frames))) (sym made)
    ∙ value_full c.operand_of-operand.result c.bytes.result room held whole c.bytes.ensures c.if-bytes-room.true))

pub returns-clause-goes : goal.returns-clause-goes
returns-clause-goes g c =
    let before = g.M.Memory.holds c.args.m.now in
    let after = g.M.Memory.holds c.values_at.new.m in
    let s = c.args.s.now in
    let shape = c.args.shape.now in
    let finds = c.requires.finds in
    let a = finds.place in
    let t : Stacked = record { ops = finds.rest; frames = s.stack.frames } in
    let there : s.stack ≡ with_ops t (operand.Place a ∷ t.ops) = ap (λ (ops : List Operand). with_ops t ops) finds.top in
    let seen : c.top.result.now ≡ operand.Place a ∷ [] = c.top.ensures ∙ ap (λ (ops : List Operand). reverse (take 1 ops)) finds.top in
    let here : lies_in (cell_kinds c.args.shape.now) a.area a.cell (g.M.Memory.heads c.args.m.now) ≡ true =
    sym (rw seen at c.in_ok-shape_is_there.ensures) ∙ c.if-not-branch.false in
    let room = c.room_in_place-room.result in
    let held = bytes_on t.ops (bytes_of t.frames) in
    let whole = c.room_in_place-room.ensures a t.ops finds.top in
    let kinds = c.in_ok-kinds.kinds in
    let vs = c.in_ok-values_at.field-0 in
    let few : length kinds ≤ room / 8 = omega (arith, c.if-len-most.false, c.len.ensures) in
    let all = c.as_slice.ensures ∙ all_kinds (cell_kinds shape) kinds room held c.in_ok-kinds.ensures whole few in
    let fit = have_room (cell_kinds shape) kinds room held c.in_ok-kinds.ensures whole few in
    let read : AllRead before a c.as_slice.result.now vs = rw seen at c.in_ok-values_at.ensures.reads in
    let reads : AllRead before a (cell_kinds shape) vs = subst (λ ks. AllRead before a ks vs) all read in
    let made : c.operand_of-operand.result ≡ operand_of vs = c.operand_of-operand.ensures in
    accessed before after (g.M.Memory.heads c.args.m.now) (Load shape) On s.pc s.used (s.pc + 1) s.used s.stack c.replace_top.new.self _ (with_ops t (operand_of vs ∷ t.ops)) s.waits
    c.requires.ready.free there
    (placed t s.stack c.replace_top.new.self c.operand_of-operand.result (operand.Place a) there c.replace_top.ensures
    ∙ ap (λ o. with_ops t (o ∷ t.ops)) made)
    (load_goes before after (g.M.Memory.heads c.args.m.now) shape a s.pc s.used t vs finds.cell here reads c.in_ok-values_at.ensures.kept fit
    (ap (λ o. bytes_fit (bytes_on (o ∷ t.ops) (bytes_of t.frames))) (sym made)
    ∙ value_fits c.operand_of-operand.result c.bytes.result room held whole c.bytes.ensures c.if-bytes-room.false))

pub returns-then-not-branch-clause-goes : goal.returns-then-not-branch-clause-goes
returns-then-not-branch-clause-goes g c =
    let holds = g.M.Memory.holds c.args.m.now in
    let heads = g.M.Memory.heads c.args.m.now in
    let s = c.args.s.now in
    let finds = c.requires.finds in
    let a = finds.place in
    let t : Stacked = record { ops = finds.rest; frames = s.stack.frames } in
    let there : s.stack ≡ with_ops t (operand.Place a ∷ t.ops) = ap (λ (ops : List Operand). with_ops t ops) finds.top in
    let seen : c.top.result.now ≡ operand.Place a ∷ [] = c.top.ensures ∙ ap (λ (ops : List Operand). reverse (take 1 ops)) finds.top in
    let gone : lies_in (cell_kinds c.args.shape.now) a.area a.cell heads ≡ false = sym (rw seen at c.in_ok-shape_is_there.ensures) ∙ c.if-not-branch.true in
    accessed holds holds heads (Load c.args.shape.now) NoSpace s.pc s.used s.pc s.used s.stack s.stack _ _ s.waits c.requires.ready.free there there
    (load_gone holds holds heads c.args.shape.now a s.pc s.used t (λ cells h. h) gone)

pub values_at-requires-clause-there : goal.values_at-requires-clause-there
values_at-requires-clause-there g c =
    let s = c.args.s.now in
    let finds = c.requires.finds in
    let a = finds.place in
    let seen : c.top.result.now ≡ operand.Place a ∷ [] = c.top.ensures ∙ ap (λ (ops : List Operand). reverse (take 1 ops)) finds.top in
    let here : lies_in (cell_kinds c.args.shape.now) a.area a.cell (g.M.Memory.heads c.args.m.now) ≡ true =
    sym (rw seen at c.in_ok-shape_is_there.ensures) ∙ c.if-not-branch.false in
    rw seen (there_of (cell_kinds c.args.shape.now) a.area a.cell (g.M.Memory.heads c.args.m.now) here)
