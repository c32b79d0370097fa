use Rattle.std.proofs.Common.{arith}
use Rattle.space_names.proofs.Kept.{lookup_kept, without_kept}
use Rattle.space_names.proofs.names.Names.take.Goals as goal

pub returns-clause-space : goal.returns-clause-space
returns-clause-space c =
    let kept = lookup_kept c.args.name.now c.self.inside.spaces.entries in
    grind (arith, kept, c.self.view_is, c.shift_remove.ensures.value)

pub returns-clause-others : goal.returns-clause-others
returns-clause-others c =
    let kept = without_kept c.args.name.now c.self.inside.spaces.entries in
    grind (arith, kept, c.self.view_is, c.shift_remove.ensures.entries)
