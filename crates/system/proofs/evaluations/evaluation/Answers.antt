use Rattle.std.proofs.Common.{refl, subst}
use Rattle.system.specs.Below.system_meaning.specs.Systems.{command}
use Rattle.system.specs.Below.live_system.specs.Steps.{WentOn}
use Rattle.system.proofs.Kept.{if_ok}
use Rattle.system.proofs.Evaluating.{not_running, marked, is_over, asks}
use Rattle.system.proofs.evaluations.evaluation.Goals as goal

pub returns-in-NotRunning : goal.returns-in-NotRunning
returns-in-NotRunning c = λ read reads m turn h more.
    not_running read c.args.task c.args.left.now c.go_on.new.marks m c.go_on.new.self c.go_on.new.self more (c.keeps_turn.ensures m h c.args.task turn)
    (command c.args.task m.system)
    (subst (λ how. WentOn (command c.args.task m.system) c.go_on.new.self c.args.task c.args.left.now c.go_on.new.marks how m) c.in-NotRunning.is
    (c.in_ok-go_on.ensures.went m h))

pub returns-in-Marked : goal.returns-in-Marked
returns-in-Marked c = λ read reads m turn h more.
    marked read c.args.task c.args.left.now c.go_on.new.marks m c.go_on.new.self c.back.new.self more (c.keeps_turn.ensures m h c.args.task turn)
    (command c.args.task m.system)
    (subst (λ how. WentOn (command c.args.task m.system) c.go_on.new.self c.args.task c.args.left.now c.go_on.new.marks how m) c.in-Marked.is
    (c.in_ok-go_on.ensures.went m h)) c.back.ensures

pub returns-in-Asks : goal.returns-in-Asks
returns-in-Asks c =
    if_ok c.serve.result _ _ (λ goes f read reads m turn h more.
    asks read c.args.task c.args.left.now c.go_on.new.marks m c.go_on.new.self c.serve.new.system more (c.keeps_turn.ensures m h c.args.task turn)
    goes c.in-Asks.request (command c.args.task m.system) refl
    (subst (λ how. WentOn (command c.args.task m.system) c.go_on.new.self c.args.task c.args.left.now c.go_on.new.marks how m) c.in-Asks.is
    (c.in_ok-go_on.ensures.went m h)) f) c.serve.ensures

pub returns-in_ok-over-in-Over : goal.returns-in_ok-over-in-Over
returns-in_ok-over-in-Over c = λ read reads m turn h more.
    is_over read c.args.task c.args.left.now c.go_on.new.marks m c.go_on.new.self c.over.new.system more (c.keeps_turn.ensures m h c.args.task turn)
    c.in-Over.finished (command c.args.task m.system)
    (subst (λ how. WentOn (command c.args.task m.system) c.go_on.new.self c.args.task c.args.left.now c.go_on.new.marks how m) c.in-Over.is
    (c.in_ok-go_on.ensures.went m h)) (λ d w unit there room. c.in_ok-over-in-Over.ensures read reads m d w unit there room)
