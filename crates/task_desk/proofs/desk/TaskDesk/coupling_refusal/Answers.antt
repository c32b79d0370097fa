use Rattle.std.proofs.Common.{◌≡◌, true, false, not, is_none, refl, sym, ap, ◌∙◌, subst}
use Rattle.task_tree.specs.Tree.{lives}
use Rattle.terminals.specs.Channels.{channel_of}
use Rattle.task_desk.specs.Desks.{Desk}
use Rattle.task_desk.proofs.Coupling.{is_none_not, refusal_is}
use Rattle.task_desk.proofs.desk.TaskDesk.coupling_refusal.Goals as goal

pub returns-then-not-lives : goal.returns-then-not-lives
returns-then-not-lives c =
    let gone : lives c.args.task c.args.self.now.tree ≡ false = subst (λ (d : Desk). lives c.args.task d.tree ≡ false) c.self.view_is
    (sym c.lives.ensures ∙ c.if-not-lives.true) in
    λ library owns. refusal_is c.args.task c.args.self.now false (is_none (channel_of c.args.task c.args.self.now.channels)) gone refl library owns

pub returns-then-is_some : goal.returns-then-is_some
returns-then-is_some c =
    let here : lives c.args.task c.args.self.now.tree ≡ true = subst (λ (d : Desk). lives c.args.task d.tree ≡ true) c.self.view_is
    (sym c.lives.ensures ∙ c.if-not-lives.false) in
    let coupled : is_none (channel_of c.args.task c.args.self.now.channels) ≡ false = subst (λ (d : Desk). is_none (channel_of c.args.task d.channels) ≡ false) c.self.view_is
    (ap is_none (sym c.channel_of.ensures.channel) ∙ is_none_not c.channel_of.result ∙ ap not (sym c.is_some.ensures ∙ c.if-is_some.true)) in
    λ library owns. refusal_is c.args.task c.args.self.now true false here coupled library owns

pub returns : goal.returns
returns c =
    let here : lives c.args.task c.args.self.now.tree ≡ true = subst (λ (d : Desk). lives c.args.task d.tree ≡ true) c.self.view_is
    (sym c.lives.ensures ∙ c.if-not-lives.false) in
    let free : is_none (channel_of c.args.task c.args.self.now.channels) ≡ true = subst (λ (d : Desk). is_none (channel_of c.args.task d.channels) ≡ true) c.self.view_is
    (ap is_none (sym c.channel_of.ensures.channel) ∙ is_none_not c.channel_of.result ∙ ap not (sym c.is_some.ensures ∙ c.if-is_some.false)) in
    λ library owns. refusal_is c.args.task c.args.self.now true true here free library owns
