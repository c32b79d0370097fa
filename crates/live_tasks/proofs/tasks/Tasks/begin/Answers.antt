use Rattle.std.proofs.Common.{◌≡◌, ◌++◌, ◌∷◌, [], List, get_or, arith, sym, ◌∙◌, ap, subst, length, ◌<◌}
use Rattle.live_tasks.specs.Below.space_memory.specs.Memories.{most_roots}
use Rattle.live_tasks.specs.Below.live_task.specs.declared.task.Task.{Task}
use Rattle.live_tasks.specs.Below.system_meaning.specs.Stores.{heir}
use Rattle.live_tasks.specs.Below.system_meaning.specs.Tasks.{Idle, now}
use Rattle.live_tasks.specs.Tasks.{Live, IsFit, StandIn, most_tasks}
use Rattle.live_tasks.proofs.Standing.{reads, stood, stands_at, call_stands, begin_fits, begin_stands, refused_fits}
use Rattle.live_tasks.proofs.tasks.Tasks.begin.Goals as goal

pub invariant_of-self : goal.invariant_of-self
invariant_of-self c = subst (λ (tasks : List Task). IsFit c.self.inside.pool tasks) (sym c.reserve.ensures.items) c.self.invariant

pub son-requires : goal.son-requires
son-requires c =
    let at = reads c.self.inside.pool c.self.inside.tasks.items c.args.self.now c.args.father c.index.result.now c.self.view_is c.requires.father
    (subst (λ (tasks : List Task). c.index.result.now ≡ get_or tasks c.args.father c.index.result.now) c.reserve.ensures.items c.index.ensures) in
    record { agree = call_stands c.self.inside.pool c.self.inside.pool c.self.inside.tasks.items c.args.father c.index.result.now at c.self.invariant most_roots (omega arith) }

pub invariant_of-self-in_err-son : goal.invariant_of-self-in_err-son
invariant_of-self-in_err-son c =
    let at = reads c.self.inside.pool c.self.inside.tasks.items c.args.self.now c.args.father c.index.result.now c.self.view_is c.requires.father
    (subst (λ (tasks : List Task). c.index.result.now ≡ get_or tasks c.args.father c.index.result.now) c.reserve.ensures.items c.index.ensures) in
    subst (λ (tasks : List Task). IsFit c.son.new.pool tasks) (sym c.reserve.ensures.items) (refused_fits c.self.inside.pool c.son.new.pool c.self.inside.tasks.items c.args.father c.index.result.now at c.self.invariant c.in_err-son.ensures.err)

pub invariant_of-self-2 : goal.invariant_of-self-2
invariant_of-self-2 c =
    let at = reads c.self.inside.pool c.self.inside.tasks.items c.args.self.now c.args.father c.index.result.now c.self.view_is c.requires.father
    (subst (λ (tasks : List Task). c.index.result.now ≡ get_or tasks c.args.father c.index.result.now) c.reserve.ensures.items c.index.ensures) in
    let few : length c.self.inside.tasks.items < most_tasks = omega (arith, ap (λ (l : Live). length l.tasks) c.self.view_is, c.requires.few) in
    let same = c.push_reserved.ensures.items ∙ ap (λ (tasks : List Task). tasks ++ c.in_ok-son.son ∷ []) c.reserve.ensures.items in
    subst (λ (tasks : List Task). IsFit c.son.new.pool tasks) (sym same)
    (begin_fits c.self.inside.pool c.son.new.pool c.self.inside.tasks.items c.args.father c.index.result.now at c.self.invariant c.in_ok-son.son c.in_ok-son.ensures.spaces c.in_ok-son.ensures.frames few c.in_ok-son.ensures.sound)

pub returns : goal.returns
returns c = λ kinds_of owns own h has.
    let at = reads c.self.inside.pool c.self.inside.tasks.items c.args.self.now c.args.father c.index.result.now c.self.view_is c.requires.father
    (subst (λ (tasks : List Task). c.index.result.now ≡ get_or tasks c.args.father c.index.result.now) c.reserve.ensures.items c.index.ensures) in
    let all = stood kinds_of c.self.inside.pool c.self.inside.tasks.items c.args.self.now owns c.self.view_is h in
    let mine = stands_at kinds_of c.self.inside.pool c.self.inside.tasks.items owns c.args.father c.index.result.now own all at has in
    let same = c.push_reserved.ensures.items ∙ ap (λ (tasks : List Task). tasks ++ c.in_ok-son.son ∷ []) c.reserve.ensures.items in
    subst (λ (tasks : List Task). StandIn kinds_of c.son.new.pool tasks (owns ++ record { packets = own.packets; doing = Idle (heir (now own.doing)) } ∷ []))
    (sym same)
    (begin_stands c.self.inside.pool c.son.new.pool c.self.inside.tasks.items c.args.father c.index.result.now at c.self.invariant c.in_ok-son.son c.in_ok-son.ensures.spaces c.in_ok-son.ensures.frames kinds_of owns own
    (record { packets = own.packets; doing = Idle (heir (now own.doing)) }) all has (c.son.ensures.father (kinds_of own.packets) own mine)
    (c.in_ok-son.ensures.son (kinds_of own.packets) own mine))
