use Rattle.std.proofs.Common.{◌∷◌, [], ◌∙◌, None, arith}
use Rattle.page_table.proofs.Framing.{agree_after, stands_of}
use Rattle.page_table.proofs.Moving.{equal}
use Rattle.memory_tests.proofs.Threes.{third_stands, third_first, swap}
use Rattle.memory_tests.proofs.data_spaces.Three.ended.Goals as goal

pub forget-requires : goal.forget-requires
forget-requires c = record { agree = third_stands _ _ _ _ c.args.self.agree }

pub forget-requires-2 : goal.forget-requires-2
forget-requires-2 c =
    let rest = c.args.self.first.root ∷ c.args.self.second.root ∷ [] in
    let left = agree_after _ _ _ _ rest (omega arith) (c.forget.ensures.frames None) (third_first _ _ _ _ c.args.self.agree) in
    record { agree = stands_of _ _ (c.args.self.first.root ∷ []) 0 (omega arith) (swap _ _ _ left) }

pub forget-requires-3 : goal.forget-requires-3
forget-requires-3 c =
    let rest = c.args.self.first.root ∷ c.args.self.second.root ∷ [] in
    let left = agree_after _ _ _ _ rest (omega arith) (c.forget.ensures.frames None) (third_first _ _ _ _ c.args.self.agree) in
    let last = agree_after _ _ _ _ (c.args.self.first.root ∷ []) (omega arith) (c.forget-2.ensures.frames None) (swap _ _ _ left) in
    record { agree = stands_of _ _ [] 0 (omega arith) last }

pub returns : goal.returns
returns c =
    let rest = c.args.self.first.root ∷ c.args.self.second.root ∷ [] in
    let left = agree_after _ _ _ _ rest (omega arith) (c.forget.ensures.frames None) (third_first _ _ _ _ c.args.self.agree) in
    let last = agree_after _ _ _ _ (c.args.self.first.root ∷ []) (omega arith) (c.forget-2.ensures.frames None) (swap _ _ _ left) in
    c.used.ensures ∙ equal _ _ last c.forget-3.ensures.last
