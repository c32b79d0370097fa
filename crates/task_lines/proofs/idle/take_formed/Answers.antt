use Rattle.std.proofs.Common.{ℕ, true, false, List, subst, arith}
use Rattle.monitor.specs.declared.commands.Form.TheVariants.{Blank, Enter, Run, Insert, Names, Program}
use Rattle.task_lines.specs.Below.system_meaning.specs.Stores.{entering_refusal}
use Rattle.task_lines.specs.Below.system_meaning.specs.Systems.{kept}
use Rattle.task_lines.specs.Below.system_meaning.specs.Monitor.{enter_unless, run_named}
use Rattle.live_system.specs.Machines.{StandsAt}
use Rattle.task_lines.proofs.Kept.{on_ok}
use Rattle.task_lines.proofs.Taking.{formed_so}
use Rattle.task_lines.proofs.idle.take_formed.Goals as goal

pub returns-in-Blank : goal.returns-in-Blank
returns-in-Blank c =
    on_ok c.prompt.result c.prompt.ensures
    (λ h read reads m store is short stands.
    formed_so read c.args.task c.args.line.now m c.prompt.new.self c.args.form Blank c.in-Blank.is (h m stands))

pub returns-in-Enter : goal.returns-in-Enter
returns-in-Enter c =
    on_ok c.enter.result c.enter.ensures
    (λ h read reads m store is short stands.
    formed_so read c.args.task c.args.line.now m c.enter.new.system c.args.form (Enter c.in-Enter.name) c.in-Enter.is
    (subst (λ (n : List ℕ). StandsAt c.enter.new.system (enter_unless (entering_refusal n (kept c.args.task m.system)) c.args.task n m))
    c.as_slice.ensures (h m store is stands)))

pub returns-in-Run : goal.returns-in-Run
returns-in-Run c =
    on_ok c.run_named.result c.run_named.ensures
    (λ h read reads m store is short stands.
    formed_so read c.args.task c.args.line.now m c.run_named.new.system c.args.form (Run c.in-Run.name) c.in-Run.is
    (subst (λ (n : List ℕ). StandsAt c.run_named.new.system (run_named read c.args.task false n m))
    c.as_slice-in-Run.ensures (h read reads m store is stands)))

pub returns-in-Insert : goal.returns-in-Insert
returns-in-Insert c =
    on_ok c.run_named-in-Insert.result c.run_named-in-Insert.ensures
    (λ h read reads m store is short stands.
    formed_so read c.args.task c.args.line.now m c.run_named-in-Insert.new.system c.args.form (Insert c.in-Insert.name) c.in-Insert.is
    (subst (λ (n : List ℕ). StandsAt c.run_named-in-Insert.new.system (run_named read c.args.task true n m))
    c.as_slice-in-Insert.ensures (h read reads m store is stands)))

pub returns-in-Names : goal.returns-in-Names
returns-in-Names c =
    on_ok c.tell_names.result c.tell_names.ensures
    (λ h read reads m store is short stands.
    formed_so read c.args.task c.args.line.now m c.tell_names.new.system c.args.form Names c.in-Names.is (h m stands))

pub returns-in-Program : goal.returns-in-Program
returns-in-Program c =
    on_ok c.run_text.result c.run_text.ensures
    (λ h read reads m store is short stands.
    formed_so read c.args.task c.args.line.now m c.run_text.new.system c.args.form Program c.in-Program.is
    (h read reads m store is (omega arith) stands))
