use Rattle.std.proofs.Common.{◌+◌, drop, ap, ◌∙◌}
use Rattle.elan_walk.proofs.Went.{rest_of}
use Rattle.type_names.specs.walks.Seen.{earlier, names_seen}
use Rattle.type_names.proofs.Told.{rows_told, structures_told, fields_turn}
use Rattle.type_names.proofs.judgement.+judging.Goals as goal

pub judge-returns-in_ok-items-in-Row : goal.judge-returns-in_ok-items-in-Row
judge-returns-in_ok-items-in-Row t c =
    rows_told (names_seen c.args.visible) c.args.visible.refinements.now c.row_judged.result c.in-Row.at c.in-Row.size c.args.of.now c.in-Row.of
    c.get.result.now c.args.inside c.in_ok-items-in-Row.items c.size.result c.size_fault.result c.earlier-behind.result c.in-Row.is c.get.ensures
    c.in_ok-items-in-Row.ensures c.size.ensures c.size_fault.ensures c.earlier-behind.ensures c.row_judged.ensures

pub judge-returns-in_ok-fields-in-Struct : goal.judge-returns-in_ok-fields-in-Struct
judge-returns-in_ok-fields-in-Struct t c =
    structures_told (names_seen c.args.visible) c.args.visible.refinements.now c.structure_judged.result c.in-Struct.at c.args.of.now c.args.inside
    c.in-Struct.fields c.as_slice.result.now c.in_ok-fields-in-Struct.fields c.in-Struct.is c.as_slice.ensures c.in_ok-fields-in-Struct.ensures
    c.structure_judged.ensures

pub fields_judged-loop-field-preserved : goal.fields_judged-loop-field-preserved
fields_judged-loop-field-preserved t c =
    fields_turn (names_seen c.args.visible) c.args.visible.refinements.now c.loop-field.list c.add_fields.new.list _ c.loop-field.first
    c.in_ok-doubled.doubled c.earlier-first-in-loop-field.result _ c.in_ok-judged.judged c.field-item.result c.as_slice.result.now
    (drop c.loop-field.field-index c.args.fields.now) (drop (c.loop-field.field-index + 1) c.args.fields.now)
    (rest_of c.args.fields.now c.loop-field.field-index c.field-item.result c.loop-field-test.true c.field-item.is) c.as_slice.ensures
    c.in_ok-judged.ensures c.in_ok-doubled.ensures.list c.in_ok-doubled.ensures.first
    (c.earlier-first-in-loop-field.ensures ∙ ap (λ f. earlier f c.in_ok-doubled.doubled) c.earlier-first.ensures)
    c.loop-field.invariant.0 c.loop-field.invariant.1
