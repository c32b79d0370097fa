use Rattle.std.proofs.Common.{◌≡◌, length, arith, rules}
use Rattle.fixpoint.proofs.OneBlock.{one_block, held_one}
use Rattle.fixpoint.proofs.blocks.read_block.Goals as goal

pub returns-clause-bytes : goal.returns-clause-bytes
returns-clause-bytes g c = λ s told.
    let d = g.D.Disk in
    let was : length c.args.into.now ≡ 512 = search rules in
    let long : length c.read_run.new.into ≡ 512 = omega (arith, was, c.read_run.ensures.length) in
    held_one s.content c.args.at _ c.read_run.new.into long (one_block c.args.into.now was) (c.in_ok-read_run.ensures.bytes s told)
