use Rattle.std.proofs.Common.{rules, sym, subst, to_z, of_z}
use Rattle.std.specs.Int.{w16}
use Rattle.std.specs.Int.RustNames.{FitsSigned}
use Rattle.eu_base.specs.declared.value.Value.TheVariants as item
use Rattle.zero_steps.specs.Reading.{Reads}
use Rattle.zero_steps.proofs.Accessing.{same_number}
use Rattle.zero_steps.proofs.Contents.{int_read, truth_read, task_read, space_read, text_read}
use Rattle.zero_steps.proofs.reading.value_at.Goals as goal

pub returns-in_ok-cell-in-Int-clause-reads : goal.returns-in_ok-cell-in-Int-clause-reads
returns-in_ok-cell-in-Int-clause-reads g c =
    let before = g.M.Memory.holds c.args.m.now in
    let fits : FitsSigned w16 c.number_in.result = search rules in
    subst (λ k. Reads before c.args.at k (item.Int (to_z w16 (of_z w16 c.number_in.result)))) (sym c.in-Int.is)
    (int_read before c.args.at c.in_ok-cell-in-Int.field-0 _ (same_number c.number_in.result _ fits c.number_in.ensures) c.in_ok-cell-in-Int.ensures.number)

pub returns-in_ok-cell-in-Truth-clause-reads : goal.returns-in_ok-cell-in-Truth-clause-reads
returns-in_ok-cell-in-Truth-clause-reads g c =
    let before = g.M.Memory.holds c.args.m.now in
    subst (λ k. Reads before c.args.at k (item.Truth c.truth_in.result)) (sym c.in-Truth.is)
    (truth_read before c.args.at c.in_ok-cell-in-Truth.field-0 c.truth_in.result c.truth_in.ensures c.in_ok-cell-in-Truth.ensures.number)

pub returns-in_ok-cell-in-Task-clause-reads : goal.returns-in_ok-cell-in-Task-clause-reads
returns-in_ok-cell-in-Task-clause-reads g c =
    let before = g.M.Memory.holds c.args.m.now in
    subst (λ k. Reads before c.args.at k (item.Task c.task_in.result)) (sym c.in-Task.is)
    (task_read before c.args.at c.in_ok-cell-in-Task.field-0 c.task_in.result c.task_in.ensures c.in_ok-cell-in-Task.ensures.number)

pub returns-in_ok-cell-in-Space-clause-reads : goal.returns-in_ok-cell-in-Space-clause-reads
returns-in_ok-cell-in-Space-clause-reads g c =
    let before = g.M.Memory.holds c.args.m.now in
    subst (λ k. Reads before c.args.at k (item.Space c.space_in.result)) (sym c.in-Space.is)
    (space_read before c.args.at c.in_ok-cell-in-Space.field-0 c.space_in.result c.space_in.ensures c.in_ok-cell-in-Space.ensures.number)

pub returns-in_ok-text-in-Text-clause-reads : goal.returns-in_ok-text-in-Text-clause-reads
returns-in_ok-text-in-Text-clause-reads g c =
    let before = g.M.Memory.holds c.args.m.now in
    subst (λ k. Reads before c.args.at k (item.Text c.in_ok-text-in-Text.field-0)) (sym c.in-Text.is)
    (text_read before c.args.at c.in_ok-text-in-Text.field-0 c.in_ok-text-in-Text.ensures.text)
