use Rattle.std.proofs.Common.{arith}
use Rattle.space_names.proofs.Kept.{lookup_kept}
use Rattle.space_names.proofs.names.Names.get.Goals as goal

pub returns : goal.returns
returns c =
    let kept = lookup_kept c.args.name.now c.self.inside.spaces.entries in
    grind (arith, kept, c.self.view_is, c.get.ensures.value, c.copied.ensures)
