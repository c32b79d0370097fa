use Rattle.std.proofs.Common.{ℕ, List, Option, subst}
use Rattle.task_lines.specs.Below.units.specs.Library.{env_of}
use Rattle.task_lines.specs.Below.system_meaning.specs.Systems.{packets}
use Rattle.task_lines.specs.Below.system_meaning.specs.Monitor.{answered}
use Rattle.live_system.specs.Texts.{RunsText}
use Rattle.live_system.specs.Machines.{StandsAt}
use Rattle.task_lines.proofs.Kept.{on_ok}
use Rattle.task_lines.proofs.Running.{runs, refuses}
use Rattle.task_lines.proofs.texts.run_text.Goals as goal

pub returns-in-None : goal.returns-in-None
returns-in-None c = λ read reads m store is short stands.
    let r = read (env_of m.system.shared.library (packets c.args.task m.system)) c.args.packet c.args.text.now in
    runs r c.run_text.new.self c.args.task c.args.text.now m
    (subst (λ (o : Option (List ℕ)). RunsText r c.run_text.new.self c.args.task c.args.text.now m o) c.in-None.is
    (c.in_ok-run_text.ensures read reads m store is short stands))

pub returns-in-Some : goal.returns-in-Some
returns-in-Some c =
    on_ok c.answer.result c.answer.ensures
    (λ h read reads m store is short stands.
    let r = read (env_of m.system.shared.library (packets c.args.task m.system)) c.args.packet c.args.text.now in
    refuses r c.run_text.new.self c.answer.new.system c.args.task c.args.text.now c.in-Some.said m
    (subst (λ (o : Option (List ℕ)). RunsText r c.run_text.new.self c.args.task c.args.text.now m o) c.in-Some.is
    (c.in_ok-run_text.ensures read reads m store is short stands))
    (λ m stands. subst (λ (bytes : List ℕ). StandsAt c.answer.new.system (answered c.args.task bytes m)) c.as_slice.ensures (h m stands)))
