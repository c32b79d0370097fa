use Rattle.std.proofs.Common.{◌≡◌, [], None, sym, ◌∙◌, subst}
use Rattle.task_numbers.specs.Numbers.{niltask}
use Rattle.terminals.specs.Channels.{channel, channel_of}
use Rattle.task_desk.specs.Below.units.specs.Library.{none_live}
use Rattle.task_desk.specs.Desks.{Desk}
use Rattle.task_desk.proofs.Coupling.{can_couple_free, can_couple_apart, couples, stays_uncoupled}
use Rattle.task_desk.proofs.desk.TaskDesk.couple.Goals as goal

pub couple-requires-clause-free : goal.couple-requires-clause-free
couple-requires-clause-free c =
    subst (λ (d : Desk). (channel c.args.channel d.channels).task ≡ niltask) (sym c.self.view_is)
    (can_couple_free c.args.channel c.args.task c.args.self.now (sym (c.can_couple.ensures none_live []) ∙ c.if-can_couple.true))

pub couple-requires-clause-apart : goal.couple-requires-clause-apart
couple-requires-clause-apart c =
    subst (λ (d : Desk). channel_of c.args.task d.channels ≡ None) (sym c.self.view_is)
    (can_couple_apart c.args.channel c.args.task c.args.self.now (sym (c.can_couple.ensures none_live []) ∙ c.if-can_couple.true))

pub returns-then-can_couple : goal.returns-then-can_couple
returns-then-can_couple c =
    let inside : Desk = record {
      tree = c.self.inside.tree;
      ready = c.self.inside.ready;
      waits = c.self.inside.waits;
      channels = c.self.inside.channels;
      display = c.self.inside.display;
    } in
    couples c.args.channel c.args.task inside c.args.self.now c.couple.new.self c.self.view_is c.couple.ensures
    (λ library owns. sym (c.can_couple.ensures library owns) ∙ c.if-can_couple.true)

pub returns-else-can_couple : goal.returns-else-can_couple
returns-else-can_couple c =
    stays_uncoupled c.args.channel c.args.task c.args.self.now (λ library owns. sym (c.can_couple.ensures library owns) ∙ c.if-can_couple.false)
