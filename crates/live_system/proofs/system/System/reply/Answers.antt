use Rattle.std.proofs.Common.{refl}
use Rattle.std.proofs.lemmas.Result.{on_ok_weaker}
use Rattle.eu_base.specs.Requests.{plain}
use Rattle.live_system.specs.Below.system_meaning.specs.Tasks.{Own, with_doing, replied}
use Rattle.live_packets.specs.Packets.{kinds_in}
use Rattle.live_system.proofs.Moments.{none_changed, task_changed}
use Rattle.live_system.proofs.system.System.reply.Goals as goal

pub returns-in-None : goal.returns-in-None
returns-in-None c =
    none_changed c.self.inside.desk c.self.inside.packets c.self.inside.tasks c.args.self.now c.self.view_is
    (λ (o : Own). with_doing (replied (plain c.args.reply) o.doing) o) c.args.task c.in-None.ensures.place

pub returns-in-Some : goal.returns-in-Some
returns-in-Some c =
    on_ok_weaker c.answer.result
    (λ answered. task_changed c.self.inside.desk c.self.inside.packets c.self.inside.tasks c.args.self.now c.self.view_is
    (λ (o : Own). with_doing (replied (plain c.args.reply) o.doing) o) (λ o. refl) c.args.task c.in-Some.place c.in-Some.ensures.place c.answer.new.self
    (λ owns stand. answered (kinds_in c.self.inside.packets) owns stand))
    c.answer.ensures
