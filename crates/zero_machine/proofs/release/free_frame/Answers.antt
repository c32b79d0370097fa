use Rattle.std.proofs.Common.{ap, sym, ◌∙◌}
use Rattle.std.specs.Prelude.{slice_get, Some}
use Rattle.std.proofs.lemmas.Option.{slice_get-get_or, slice_get_past}
use Rattle.zero_machine.proofs.Freeing.{freed_past, layout_freed, unknown_freed}
use Rattle.zero_machine.proofs.release.free_frame.Goals as goal

pub returns-then-until-from-clause-freed : goal.returns-then-until-from-clause-freed
returns-then-until-from-clause-freed g c = λ cells h told.
    freed_past (g.M.Memory.holds c.args.m.now) (g.met.M.Memory.forgets c.args.m.now) c.args.from c.args.until cells c.if-until-from.true h

pub returns-in-Some-clause-freed : goal.returns-in-Some-clause-freed
returns-in-Some-clause-freed g c =
    layout_freed c.free_layout.result (g.M.Memory.holds c.args.m.now) (g.M.Memory.holds c.free_layout.new.m) (g.met.M.Memory.forgets c.args.m.now)
    (g.met.M.Memory.forgets c.free_layout.new.m) c.in-Some.entry.now (slice_get c.args.code.now.bodies c.args.body) c.args.from c.min.result c.args.until
    (ap (λ l. slice_get l c.args.body) (sym c.bodies.ensures)
    ∙ (slice_get-get_or c.bodies.result.now c.args.body c.in-Some.entry.now c.in-Some.ensures.lookup.3.0
    ∙ ap (λ e. Some e) (sym (c.in-Some.ensures.lookup.3.1 c.in-Some.entry.now)))) c.if-until-from.false c.min.ensures c.free_layout.ensures.freed

pub returns-in-None-clause-freed : goal.returns-in-None-clause-freed
returns-in-None-clause-freed g c =
    unknown_freed (g.M.Memory.holds c.args.m.now) (g.met.M.Memory.forgets c.args.m.now) (slice_get c.args.code.now.bodies c.args.body) c.args.from c.args.until
    (ap (λ l. slice_get l c.args.body) (sym c.bodies.ensures) ∙ slice_get_past c.bodies.result.now c.args.body c.in-None.ensures.lookup.3) c.if-until-from.false
