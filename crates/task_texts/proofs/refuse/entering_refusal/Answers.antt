use Rattle.std.proofs.Common.{true, false, refl, sym, ◌∙◌}
use Rattle.task_texts.proofs.Seen.{refusal_is}
use Rattle.task_texts.proofs.refuse.entering_refusal.Goals as goal

pub returns-then-is_space_wanting-clause-refusal : goal.returns-then-is_space_wanting-clause-refusal
returns-then-is_space_wanting-clause-refusal c kinds pages own h =
    sym (refusal_is kinds pages c.args.task.now own h c.args.name.now true true _ (sym c.is_name.ensures ∙ c.if-not-is_name.false)
    (sym c.is_space_wanting.ensures ∙ c.if-is_space_wanting.true) refl)

pub returns-then-is_number_wanting-clause-refusal : goal.returns-then-is_number_wanting-clause-refusal
returns-then-is_number_wanting-clause-refusal c kinds pages own h =
    sym (refusal_is kinds pages c.args.task.now own h c.args.name.now true false true (sym c.is_name.ensures ∙ c.if-not-is_name.false)
    (sym c.is_space_wanting.ensures ∙ c.if-is_space_wanting.false) (sym c.is_number_wanting.ensures ∙ c.if-is_number_wanting.true))

pub returns-clause-refusal : goal.returns-clause-refusal
returns-clause-refusal c kinds pages own h =
    sym (refusal_is kinds pages c.args.task.now own h c.args.name.now true false false (sym c.is_name.ensures ∙ c.if-not-is_name.false)
    (sym c.is_space_wanting.ensures ∙ c.if-is_space_wanting.false) (sym c.is_number_wanting.ensures ∙ c.if-is_number_wanting.false))
