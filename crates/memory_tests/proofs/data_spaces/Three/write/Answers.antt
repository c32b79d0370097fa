use Rattle.std.proofs.Common.{◌∷◌, [], arith}
use Rattle.page_table.proofs.Framing.{agree_after}
use Rattle.memory_tests.proofs.Threes.{first_stands}
use Rattle.memory_tests.proofs.data_spaces.Three.write.Goals as goal

pub write-requires-clause-agree : goal.write-requires-clause-agree
write-requires-clause-agree c = first_stands _ _ _ _ c.args.self.now.agree

pub invariant_of-self : goal.invariant_of-self
invariant_of-self c =
    record {
      agree =
          agree_after _ _ _ _ (c.args.self.now.second.root ∷ c.args.self.now.third.root ∷ []) (omega arith) c.write.ensures.frames c.args.self.now.agree;
    }
