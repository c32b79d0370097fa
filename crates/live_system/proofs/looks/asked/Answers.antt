use Rattle.std.proofs.Common.{ℕ, Option, ap, sym, ◌∙◌}
use Rattle.std.specs.Prelude.{slice_get}
use Rattle.std.specs.Option.{option_map, option_and_then}
use Rattle.live_system.specs.Below.system_meaning.specs.Tasks.{Own, request_of}
use Rattle.live_system.proofs.Moments.{own_there}
use Rattle.live_system.proofs.looks.asked.Goals as goal

pub returns-in-None : goal.returns-in-None
returns-in-None c = λ many kinds_of library owns stand.
    ap (λ (p : Option ℕ). option_and_then request_of (option_map (λ (o : Own). o.doing) (option_and_then (slice_get owns) p))) (c.in-None.ensures.place many library owns)

pub returns-in-Some : goal.returns-in-Some
returns-in-Some c = λ many kinds_of library owns stand.
    let o = own_there kinds_of c.args.tasks.now owns stand c.in-Some.place c.in-Some.ensures.within in
    c.asked.ensures kinds_of owns o.0 stand o.1
    ∙ ap (λ (p : Option Own). option_and_then request_of (option_map (λ (o : Own). o.doing) p)) (sym o.1)
    ∙ ap (λ (p : Option ℕ). option_and_then request_of (option_map (λ (o : Own). o.doing) (option_and_then (slice_get owns) p))) (c.in-Some.ensures.place many library owns)
