use Rattle.std.proofs.Common.{arith}
use Rattle.space_names.proofs.Kept.{lookup_kept}
use Rattle.space_names.proofs.names.Names.entry.Goals as goal

pub returns-clause-only : goal.returns-clause-only
returns-clause-only c =
    let kept = lookup_kept c.as_slice.result.now c.self.inside.spaces.entries in
    grind (arith, kept, c.self.view_is, c.as_slice.ensures.value, c.in_ok-name.ensures.value)
