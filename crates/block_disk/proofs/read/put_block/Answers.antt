use Rattle.std.proofs.Common.{◌≡◌, length, ◌∙◌, ap, arith, rules}
use Rattle.block_disk.proofs.BlocksOf.{block_there, block_before}
use Rattle.block_disk.proofs.read.put_block.Goals as goal

pub returns-clause-there : goal.returns-clause-there
returns-clause-there c =
    let same : c.copy_from_slice.new.self ≡ c.args.block.now = search rules in
    block_there c.args.k _ c.args.into.now c.copy_from_slice.new.self (omega (arith, c.requires)) (ap length same ∙ c.told-block) ∙ same

pub returns-clause-others : goal.returns-clause-others
returns-clause-others c = λ j before. block_before j c.args.k _ c.args.into.now _ before (omega (arith, c.requires))
