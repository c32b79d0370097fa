use Rattle.std.proofs.Common.{◌≡◌, [], None, Option, sym, ap, subst, ◌∙◌}
use Rattle.eu_base.specs.declared.stop.Stop.{Stop}
use Rattle.task_lines.specs.Below.system_meaning.specs.Stores.{Store, entering_refusal}
use Rattle.task_lines.specs.Below.system_meaning.specs.Tasks.{Entering}
use Rattle.task_lines.specs.Below.system_meaning.specs.Systems.{does, kept, on_system}
use Rattle.task_lines.specs.Below.system_meaning.specs.Monitor.{enter_unless}
use Rattle.live_system.specs.Machines.{StandsAt}
use Rattle.task_lines.proofs.Kept.{on_ok}
use Rattle.task_lines.proofs.Taking.{kept_idle}
use Rattle.task_lines.proofs.idle.enter.Goals as goal

pub returns-in-Some : goal.returns-in-Some
returns-in-Some c =
    on_ok c.answer_stop.result c.answer_stop.ensures
    (λ h m store is stands.
    subst (λ (o : Option Stop). StandsAt c.answer_stop.new.system (enter_unless o c.args.task c.args.name.now m)) (c.in-Some.ensures m stands) (h m stands))

pub returns-in-None : goal.returns-in-None
returns-in-None c =
    on_ok c.enter.result c.enter.ensures
    (λ h m store is stands.
    let same : kept c.args.task m.system ≡ store = kept_idle c.args.task m store is in
    let none : None ≡ entering_refusal c.args.name.now (kept c.args.task m.system) = c.in-None.ensures m stands in
    let free : entering_refusal c.args.name.now store ≡ None = sym (none ∙ ap (λ (s : Store). entering_refusal c.args.name.now s) same) in
    subst (λ (o : Option Stop). StandsAt c.enter.new.self (enter_unless o c.args.task c.args.name.now m)) none
    (subst (λ (s : Store). StandsAt c.enter.new.self (on_system (does c.args.task (Entering c.args.name.now [] s)) m)) (sym same) (h m store is free stands)))
