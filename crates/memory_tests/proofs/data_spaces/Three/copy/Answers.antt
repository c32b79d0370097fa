use Rattle.std.proofs.Common.{◌∷◌, [], None, refl, arith}
use Rattle.page_table.proofs.Framing.{agree_after, agree_same, stands_of}
use Rattle.memory_tests.proofs.data_spaces.Three.copy.Goals as goal

pub copy-requires : goal.copy-requires
copy-requires c =
    let rest = c.args.self.now.second.root ∷ c.args.self.now.third.root ∷ [] in
    record { agree = stands_of _ _ rest 1 (omega arith) c.args.self.now.agree }

pub forget-requires : goal.forget-requires
forget-requires c =
    let rest = c.args.self.now.second.root ∷ c.args.self.now.third.root ∷ [] in
    let two = c.args.self.now.first.root ∷ c.args.self.now.first.root ∷ c.args.self.now.second.root ∷ [] in
    let four = agree_after _ _ _ _ rest (omega arith) (c.in-Ok.ensures.frames None) c.args.self.now.agree in
    let third = agree_same _ _ (c.args.self.now.third.root ∷ two) (record { long = refl; occs = λ p. omega arith }) four in
    record { agree = rw (c.replace.ensures.value) (stands_of _ _ two 0 (omega arith) third) }

pub invariant_of-self : goal.invariant_of-self
invariant_of-self c =
    let rest = c.args.self.now.second.root ∷ c.args.self.now.third.root ∷ [] in
    let two = c.args.self.now.first.root ∷ c.args.self.now.first.root ∷ c.args.self.now.second.root ∷ [] in
    let four = agree_after _ _ _ _ rest (omega arith) (c.in-Ok.ensures.frames None) c.args.self.now.agree in
    let third = agree_same _ _ (c.args.self.now.third.root ∷ two) (record { long = refl; occs = λ p. omega arith }) four in
    let left = agree_after _ _ _ _ two (omega arith) (c.forget.ensures.frames None) (rw (c.replace.ensures.value) third) in
    record {
      agree = rw (c.replace.ensures.after, c.in-Ok.ensures.same) (agree_same _ _ _ (record { long = refl; occs = λ p. omega arith }) left);
    }
