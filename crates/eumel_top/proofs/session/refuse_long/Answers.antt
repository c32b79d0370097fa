use Rattle.std.proofs.Common.{sym, subst, ◌∙◌, Result}
use Rattle.std.specs.Prelude.{IfErr}
use Rattle.eu_base.specs.Faults.{Rose}
use Rattle.session_lines.specs.declared.ending.Ending.{Ending}
use Rattle.eumel_top.specs.declared.error.PlayError.{PlayError}
use Rattle.eumel_top.specs.Causes.{HasCause}
use Rattle.eumel_top.specs.Midway.{LineEnds}
use Rattle.eumel_top.proofs.Causes.{end_caused}
use Rattle.eumel_top.proofs.Midway.{has_room, has_most, full_ends, fault_ends}
use Rattle.eumel_top.proofs.session.refuse_long.Goals as goal

pub returns-then-is_full-clause-line : goal.returns-then-is_full-clause-line
returns-then-is_full-clause-line g c =
    λ line long. full_ends c.args.desk.now line (g.K.Sink.taken c.args.sink.now) (has_most c.args.desk.now (sym c.is_full.ensures ∙ c.if-is_full.true))

pub too_long-requires : goal.too_long-requires
too_long-requires g c = record { more = has_room c.args.desk.now (sym c.is_full.ensures ∙ c.if-is_full.false) }

pub returns-clause-line : goal.returns-clause-line
returns-clause-line g c =
    λ line long.
    let taken = g.K.Sink.taken in
    let old = c.args.desk.now in
    subst (LineEnds old line (taken c.args.sink.now) (taken c.too_long.new.sink)) (sym c.end_by.ensures)
    (fault_ends c.too_long.result old line (taken c.args.sink.now) (taken c.too_long.new.sink) (c.too_long.ensures.refused line long)
    (has_room old (sym c.is_full.ensures ∙ c.if-is_full.false)))

pub returns-clause-cause : goal.returns-clause-cause
returns-clause-cause g c =
    let sink = Rose (g.K.Sink.faults c.args.sink.now) (g.K.Sink.faults c.too_long.new.sink) in
    subst (λ (end : Result Ending PlayError). IfErr end (HasCause ⊥ sink)) (sym c.end_by.ensures) (end_caused c.too_long.result (Unit {0}) sink c.too_long.ensures.cause)
