use Rattle.std.proofs.Common.{sym, ap, ◌∙◌, rules}
use Rattle.std.proofs.lemmas.Int.{to_z-of_z}
use mir.Val.{SFits}
use mir.Syntax.{w16}
use Rattle.eu_base.specs.DataSpaces.{Head}
use Rattle.space_memory.proofs.Changed.{head_is, live_here}
use Rattle.space_memory.proofs.lent.LentMemory.kind.Goals as goal

pub kind-requires : goal.kind-requires
kind-requires g c = record { live = live_here c.args.s c.args.self.now.memory.now c.requires.live }

pub returns : goal.returns
returns g c =
    let fits : SFits w16 c.kind.result = search rules in
    to_z-of_z w16 c.kind.result fits ∙ c.kind.ensures ∙ ap (λ (h : Head). h.kind) (sym (head_is c.args.s c.args.self.now.memory.now))
