use Rattle.std.proofs.Common.{arith}
use Rattle.std.proofs.lemmas.Result.{IfOk-weaker}
use Rattle.live_tasks.proofs.Standing.{reads, stood, stands_at, call_stands, looked_fits, looked_stands}
use Rattle.live_tasks.proofs.tasks.Tasks.source_under.Goals as goal

pub source_under-requires : goal.source_under-requires
source_under-requires c =
    let at = reads c.self.inside.pool c.self.inside.tasks.items c.args.self.now c.args.k c.index.result.now c.self.view_is c.requires.task c.index.ensures in
    record { agree = call_stands c.self.inside.pool c.self.inside.pool c.self.inside.tasks.items c.args.k c.index.result.now at c.self.invariant 0 (omega arith) }

pub invariant_of-self : goal.invariant_of-self
invariant_of-self c = looked_fits c.self.inside.pool c.source_under.new.pool c.self.inside.tasks.items c.self.invariant c.source_under.ensures.frames

pub returns-clause-source : goal.returns-clause-source
returns-clause-source c =
    let at = reads c.self.inside.pool c.self.inside.tasks.items c.args.self.now c.args.k c.index.result.now c.self.view_is c.requires.task c.index.ensures in
    IfOk-weaker c.source_under.result _ _ (λ source told kinds_of owns own h has.
    let all = stood kinds_of c.self.inside.pool c.self.inside.tasks.items c.args.self.now owns c.self.view_is h in
    told (kinds_of own.packets) own (stands_at kinds_of c.self.inside.pool c.self.inside.tasks.items owns c.args.k c.index.result.now own all at has))
    c.source_under.ensures.source

pub returns-clause-kept : goal.returns-clause-kept
returns-clause-kept c = λ kinds_of owns h.
    let all = stood kinds_of c.self.inside.pool c.self.inside.tasks.items c.args.self.now owns c.self.view_is h in
    looked_stands c.self.inside.pool c.source_under.new.pool c.self.inside.tasks.items c.self.invariant c.source_under.ensures.frames kinds_of owns all
