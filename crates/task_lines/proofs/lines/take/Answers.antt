use Rattle.std.proofs.Common.{◌≤◌, ℕ, List, length, sym, subst}
use Rattle.task_numbers.specs.declared.limits.TheConstants.{LONGEST_LINE}
use Rattle.task_lines.specs.Below.system_meaning.specs.Systems.{doing}
use Rattle.task_lines.specs.Below.system_meaning.specs.Monitor.{words_of, worded}
use Rattle.live_system.specs.Machines.{StandsAt}
use Rattle.task_lines.proofs.Kept.{on_ok}
use Rattle.task_lines.proofs.Taking.{takes_idle, takes_entering, takes_gone, takes_running}
use Rattle.task_lines.proofs.lines.take.Goals as goal

pub returns-in-Idle : goal.returns-in-Idle
returns-in-Idle c =
    on_ok c.take_idle.result c.take_idle.ensures
    (λ h read reads m short stands.
    takes_idle read c.args.task c.args.line m c.take_idle.new.system (doing c.args.task m.system) (c.in-Idle.ensures m stands)
    (λ store is.
    subst (λ (l : List ℕ). StandsAt c.take_idle.new.system (worded read (words_of l) c.args.task l m)) c.as_slice.ensures
    (h read reads m store is (subst (λ (l : List ℕ). length l ≤ LONGEST_LINE) (sym c.as_slice.ensures) short) stands)))

pub returns-in-Entering : goal.returns-in-Entering
returns-in-Entering c =
    on_ok c.enter_line.result c.enter_line.ensures
    (λ h read reads m short stands.
    takes_entering read c.args.task c.args.line m c.enter_line.new.system (doing c.args.task m.system) (c.in-Entering.ensures m stands)
    (λ name lines store is. h m name lines store is short stands))

pub returns-in-Gone : goal.returns-in-Gone
returns-in-Gone c = λ read reads m short stands.
    takes_gone read c.args.task c.args.line m c.args.system.now (doing c.args.task m.system) (c.in-Gone.ensures m stands) stands

pub returns-in-Running : goal.returns-in-Running
returns-in-Running c = λ read reads m short stands.
    takes_running read c.args.task c.args.line m c.args.system.now (doing c.args.task m.system) (c.in-Running.ensures m stands) stands
