use Rattle.std.proofs.Common.{◌≡◌, ◌+◌, List, min, length, sym, ap, ◌∙◌, subst}
use Rattle.eu_base.specs.declared.value.Kind.{Kind}
use Rattle.eu_base.specs.Room.{cells_fit}
use Rattle.cell_kinds.specs.declared.packet.Packet.{Packet}
use Rattle.cell_kinds.specs.Kinds.{packet_kinds}
use Rattle.code_form.specs.Valid.{Fits}
use Rattle.zero_machine.proofs.Begun.{start_fits, control_so, made_so}
use Rattle.zero_machine.proofs.starting.start.Goals as goal

pub returns-clause-made : goal.returns-clause-made
returns-clause-made g c =
    let before = c.cells_before-before.result in
    made_so c.args.code.now before c.in_ok-first.first c.inserted.result.now (g.M.Memory.holds c.args.m.now) (g.M.Memory.holds c.make_variables.new.m)
    (g.M.Memory.holds c.make_variables-2.new.m)
    (subst (λ (ps : List Packet). before ≡ min (length (packet_kinds ps)) 18446744073709551615) c.packets.ensures c.cells_before-before.ensures)
    c.in_ok-first.ensures c.inserted.ensures c.in_ok-own.ensures.made c.in_ok-inserted.ensures.made

pub returns-clause-control : goal.returns-clause-control
returns-clause-control g c =
    let p = c.args.code.now in
    let before = c.cells_before-before.result in
    control_so p c.in_ok-first.first c.start.result c.in_ok-first_stack.field-0 c.len.result before c.in_ok-own.own c.in_ok-inserted.inserted c.unless_full.result
    c.in_ok-first.ensures c.start.ensures.start c.in_ok-first_stack.ensures c.len.ensures c.in_ok-own.ensures.fits
    (subst (λ (ps : List Packet). before ≡ min (length (packet_kinds ps)) 18446744073709551615) c.packets.ensures c.cells_before-before.ensures)
    (c.in_ok-inserted.ensures.fits ∙ ap (λ (ks : List Kind). cells_fit (before + length ks)) c.inserted.ensures) c.unless_full.ensures

pub returns-clause-fits : goal.returns-clause-fits
returns-clause-fits g c = subst (Fits c.args.code.now) (sym (returns-clause-control g c)) (start_fits c.args.code.now c.start.ensures.valid)
