use Rattle.memory_tests.proofs.Systems.{◌≡◌, ℕ, [], ◌∷◌, Option, refl, ap, sym, subst, arith, Pages, Stands, SpaceData, stands_first}
use Rattle.memory_tests.proofs.Systems.{stands_same, frames_same, frames_more, beside, named_first, named_later, zeros}
use Rattle.memory_tests.proofs.spaces.give.Goals as goal

stands : (pages : Pages) (space first second was : Option ℕ) → was ≡ second → Stands pages (space ∷ first ∷ second ∷ []) 0
    → Stands pages (was ∷ space ∷ first ∷ []) 0
stands pages space first second was is s = subst (λ (o : Option ℕ). Stands pages (o ∷ space ∷ first ∷ []) 0) (sym is)
    (stands_same _ _ _ 0 (record { long = refl; occs = λ p. omega arith }) s)

pub forget-requires : goal.forget-requires
forget-requires c = record { agree = stands_first _ _ _ _ (stands _ _ _ _ _ (ap (λ (d : SpaceData). d.root) c.replace-was.ensures.value) c.requires.agree) }

pub returns : goal.returns
returns c =
    let first = c.args.task.now.first.root in
    let kept = beside _ _ _ _ (c.args.space.root ∷ first ∷ []) 0 (omega arith) (c.forget.ensures.frames zeros)
    (stands _ _ _ _ _ (ap (λ (d : SpaceData). d.root) c.replace-was.ensures.value) c.requires.agree) in
    record {
      frames = rw (← c.replace-was.ensures.value, c.replace-was.ensures.after)
          (frames_same _ _ _ _ _ _ (record { long = refl; occs = λ p. omega arith }) (record { long = refl; occs = λ p. omega arith })
          (frames_more _ _ _ _ (c.args.space.root ∷ first ∷ []) (c.forget.ensures.frames zeros)));
      first = kept _ (named_later c.args.space.root first (first ∷ []) (named_first first []));
      given = kept _ (named_first _ (first ∷ []));
      same = rw c.replace-was.ensures.after refl;
    }
