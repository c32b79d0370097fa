use Rattle.std.proofs.Common.{ℕ, List, sym, subst, ◌∙◌}
use Rattle.task_lines.specs.Below.system_meaning.specs.Stores.{space_under}
use Rattle.task_lines.specs.Below.system_meaning.specs.Systems.{Moment, kept}
use Rattle.task_lines.specs.Below.system_meaning.specs.Monitor.{run_text}
use Rattle.live_system.specs.Machines.{StandsAt}
use Rattle.task_lines.proofs.Kept.{on_ok}
use Rattle.task_lines.proofs.Running.{no_space, no_text, has_text}
use Rattle.task_lines.proofs.texts.run_named.Goals as goal

pub returns-in-NoSpace : goal.returns-in-NoSpace
returns-in-NoSpace c =
    on_ok c.answer_stop.result c.answer_stop.ensures
    (λ h read reads m store is stands.
    subst (λ (m : Moment). StandsAt c.answer_stop.new.system m)
    (sym (no_space read c.args.task c.args.packet m (space_under c.args.name.now (kept c.args.task m.system))
    (sym c.in-NoSpace.is ∙ c.in_ok-source_under.ensures.source m stands)))
    (h m (c.in_ok-source_under.ensures.kept m stands)))

pub returns-in-NoText : goal.returns-in-NoText
returns-in-NoText c =
    on_ok c.answer.result c.answer.ensures
    (λ h read reads m store is stands.
    subst (λ (m : Moment). StandsAt c.answer.new.system m)
    (sym (no_text read c.args.task c.args.packet m (space_under c.args.name.now (kept c.args.task m.system))
    (sym c.in-NoText.is ∙ c.in_ok-source_under.ensures.source m stands)))
    (h m (c.in_ok-source_under.ensures.kept m stands)))

pub returns-in-Text : goal.returns-in-Text
returns-in-Text c =
    on_ok c.run_text.result c.run_text.ensures
    (λ h read reads m store is stands.
    subst (λ (m : Moment). StandsAt c.run_text.new.system m)
    (sym (has_text read c.args.task c.args.packet m c.in-Text.text (space_under c.args.name.now (kept c.args.task m.system))
    (sym c.in-Text.is ∙ c.in_ok-source_under.ensures.source m stands)))
    (subst (λ (text : List ℕ). StandsAt c.run_text.new.system (run_text read c.args.task c.args.packet text m)) c.as_slice.ensures
    (h read reads m store is (rw c.as_slice.ensures (c.in_ok-source_under.ensures.short c.in-Text.text c.in-Text.is))
    (c.in_ok-source_under.ensures.kept m stands))))
