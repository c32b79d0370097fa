use Rattle.std.proofs.Common.{◌≡◌, ◌∷◌, [], refl, sym, ap, ◌∙◌, subst}
use Rattle.eu_base.specs.declared.value.Kind.{Kind}
use Rattle.eu_base.specs.Values.{kind_of, cell_of}
use Rattle.eu_base.specs.Cells.{Word, held_of, written}
use Rattle.eu_base.specs.DataSpaces.{Heads, heads_after}
use Rattle.eu_base.specs.SpaceCells.{IsThere}
use Rattle.eu_base.specs.SpacePlaces.{lies_in}
use Rattle.eu_base.specs.SpaceOperations.{forgetting}
use Rattle.space_calls.specs.Planned.{cells_after}
use Rattle.zero_steps.specs.Received.{HeldSo}
use Rattle.zero_steps.proofs.ReceivedCells.{area_of, received_so}
use Rattle.zero_steps.proofs.receive.receive_in.Goals as goal

pub held_space-requires-clause-there : goal.held_space-requires-clause-there
held_space-requires-clause-there g c =
    area_of (c.kind_of-kind.result ∷ []) c.args.at.area c.args.at.cell (g.M.Memory.heads c.args.m.now) (sym c.are_there.ensures ∙ c.if-not-are_there.false)

pub set_cell-requires-clause-there : goal.set_cell-requires-clause-there
set_cell-requires-clause-there g c =
    subst (λ (h : Heads). IsThere h c.args.at.area) (sym c.in_ok-held.ensures.heads)
    (area_of (c.kind_of-kind.result ∷ []) c.args.at.area c.args.at.cell (g.M.Memory.heads c.args.m.now) (sym c.are_there.ensures ∙ c.if-not-are_there.false))

pub returns-then-not-are_there-clause-goes : goal.returns-then-not-are_there-clause-goes
returns-then-not-are_there-clause-goes g c = record {
  gone =
      ap (λ (k : Kind). lies_in (k ∷ []) c.args.at.area c.args.at.cell (g.M.Memory.heads c.args.m.now)) (sym c.kind_of-kind.ensures)
      ∙ sym c.are_there.ensures ∙ c.if-not-are_there.true;
  heads = refl;
  kept = λ cells h. h;
}

pub returns-clause-goes : goal.returns-clause-goes
returns-clause-goes g c =
    let holds = g.M.Memory.holds in
    let heads = g.M.Memory.heads in
    let a = c.args.at in
    let v = c.args.value.now in
    let had = heads c.args.m.now in
    let held = c.in_ok-held.held in
    let kind = c.kind_of-kind.ensures in
    let same = c.in_ok-set_cell.ensures.heads ∙ c.in_ok-held.ensures.heads in
    received_so (holds c.args.m.now) (holds c.forget_held.new.m) had (heads c.forget_held.new.m) a v held c.requires.number
    (ap (λ (k : Kind). lies_in (k ∷ []) a.area a.cell had) (sym kind) ∙ sym c.are_there.ensures ∙ c.if-not-are_there.false)
    (subst (λ (k : Kind). HeldSo (holds c.args.m.now) a k held) kind c.in_ok-held.ensures.held)
    (c.forget_held.ensures.heads ∙ ap (λ (h : Heads). heads_after (forgetting held h) h) same)
    (λ cells h free.
    let put = subst (λ x. holds c.set_cell.new.self (written cells a x)) (ap Word c.cell.ensures ∙ sym c.requires.number)
    (c.in_ok-set_cell.ensures.written cells (c.in_ok-held.ensures.kept cells h) free) in
    subst (λ (h : Heads). holds c.forget_held.new.m (cells_after (forgetting held h) h (written cells a (held_of v)))) same
    (c.forget_held.ensures.kept (written cells a (held_of v)) put))
