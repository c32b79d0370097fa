use Rattle.std.proofs.Common.{◌∷◌, [], arith}
use Rattle.page_table.proofs.Framing.{agree_after}
use Rattle.memory_tests.proofs.Threes.{first_stands}
use Rattle.memory_tests.proofs.data_spaces.Three.read.Goals as goal

pub read-requires-clause-agree : goal.read-requires-clause-agree
read-requires-clause-agree c = first_stands _ _ _ _ c.args.self.now.agree

pub invariant_of-self : goal.invariant_of-self
invariant_of-self c =
    let all = c.args.self.now.first.root ∷ c.args.self.now.second.root ∷ c.args.self.now.third.root ∷ [] in
    record { agree = agree_after _ _ all all [] (omega arith) (c.read.ensures.frames all) c.args.self.now.agree }
