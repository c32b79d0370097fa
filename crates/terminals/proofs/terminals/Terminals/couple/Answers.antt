use Rattle.std.proofs.Common.{◌≡◌, ◌-◌, false, None, sym, ap, subst}
use Rattle.task_numbers.specs.Numbers.{is_nil, is_task}
use Rattle.terminals.specs.Channels as spec
use Rattle.terminals.specs.Couplings.{task_at}
use Rattle.terminals.proofs.Coupling.{at_none, coupled_one_to_one}
use Rattle.terminals.proofs.terminals.Terminals.couple.Goals as goal

pub invariant_of-self : goal.invariant_of-self
invariant_of-self c =
    let e = ap (λ (x : spec.Channel). x.task) c.couple.ensures in
    let none : spec.channel_of c.args.task c.self.inside.channels ≡ None =
    subst (λ s. spec.channel_of c.args.task s ≡ None) (sym c.self.view_is) c.requires.apart in
    coupled_one_to_one c.self.inside.channels (c.args.channel - 1) _ c.self.invariant
    (λ some j. subst (λ t. is_task (task_at j c.self.inside.channels) t ≡ false) (sym e)
    (at_none c.self.inside.channels c.args.task j none (subst (λ t. is_nil t ≡ false) e some)))
