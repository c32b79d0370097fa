use Rattle.std.proofs.Common.{true, false, sym, ◌∙◌, subst}
use Rattle.live_tasks.specs.Tasks.{Live}
use Rattle.live_tasks.specs.Handing.{CanGo}
use Rattle.live_tasks.proofs.Handing.{can_go_is}
use Rattle.live_tasks.proofs.Standing.{reads, stood, stands_at}
use Rattle.live_tasks.proofs.tasks.Tasks.can_go.Goals as goal

pub returns-then-not-can_send-clause-can : goal.returns-then-not-can_send-clause-can
returns-then-not-can_send-clause-can c = λ kinds_of owns mine other request asked apart h has has' asks live asks' free.
    let at = reads c.self.inside.pool c.self.inside.tasks.items c.args.self.now c.args.from c.index-giver.result.now c.self.view_is c.requires.from c.index-giver.ensures in
    let all = stood kinds_of c.self.inside.pool c.self.inside.tasks.items c.args.self.now owns c.self.view_is h in
    sym c.if-not-can_send.true
    ∙ c.can_send.ensures.can (kinds_of mine.packets) c.self.inside.pool mine request
    (stands_at kinds_of c.self.inside.pool c.self.inside.tasks.items owns c.args.from c.index-giver.result.now mine all at has) asks live

pub returns-clause-can : goal.returns-clause-can
returns-clause-can c = λ kinds_of owns mine other request asked apart h has has' asks live asks' free.
    let at = reads c.self.inside.pool c.self.inside.tasks.items c.args.self.now c.args.to c.index-taker.result.now c.self.view_is c.requires.to c.index-taker.ensures in
    let all = stood kinds_of c.self.inside.pool c.self.inside.tasks.items c.args.self.now owns c.self.view_is h in
    c.can_take.ensures.can (kinds_of other.packets) c.self.inside.pool other asked
    (stands_at kinds_of c.self.inside.pool c.self.inside.tasks.items owns c.args.to c.index-taker.result.now other all at has') asks' free

pub returns-clause-go : goal.returns-clause-go
returns-clause-go c = λ yes.
    let at = reads c.self.inside.pool c.self.inside.tasks.items c.args.self.now c.args.from c.index-giver.result.now c.self.view_is c.requires.from c.index-giver.ensures in
    let at' = reads c.self.inside.pool c.self.inside.tasks.items c.args.self.now c.args.to c.index-taker.result.now c.self.view_is c.requires.to c.index-taker.ensures in
    subst (λ (l : Live). CanGo l.tasks c.args.from c.args.to c.args.space) c.self.view_is
    (can_go_is c.self.inside.tasks.items c.args.from c.args.to c.args.space c.index-giver.result.now c.index-taker.result.now at at'
    c.if-from-to.false (c.can_send.ensures.runs c.if-not-can_send.false, c.can_send.ensures.live c.if-not-can_send.false)
    (c.can_take.ensures.runs yes, c.can_take.ensures.few yes, c.can_take.ensures.left yes))
