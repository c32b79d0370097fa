use Rattle.std.proofs.Common.{◌≡◌, ℕ, zero, suc, ◌+◌, ◌<◌, ◌≤◌, Bool, true, false, cond, List, [], ◌∷◌, length, refl, sym, ap, ◌∙◌, arith}
use Rattle.elan_types.specs.declared.core_phrase.Core.{Core}
use Rattle.elan_types.specs.declared.core_phrase.Body.{Body}
use Rattle.code_gen.specs.Reached.{emptied}
use Rattle.code_gen.specs.walks.Marks.{is_marked, AreMarks, left_from}
use Rattle.code_gen.proofs.cores.one_left.Goals as goal

same_marks : (x y : Bool) → (x ≡ true → y ≡ true) → (y ≡ true → x ≡ true) → x ≡ y
same_marks true y f g = sym (f refl)
same_marks false true f g = g refl
same_marks false false f g = refl

same_at : (core : Core) (a b : List Bool) → AreMarks core a → AreMarks core b → (n : ℕ) → n < length core.bodies → is_marked a n ≡ is_marked b n
same_at core a b as' bs n lt = same_marks (is_marked a n) (is_marked b n) (λ e. bs.reached n (as'.only n lt e)) (λ e. as'.reached n (bs.only n lt e))

same_left : (a b : List Bool) (n last : ℕ) (bodies : List Body) → n + length bodies ≡ last → ((k : ℕ) → k < last → is_marked a k ≡ is_marked b k) → left_from n a bodies ≡ left_from n b bodies
same_left a b n last [] e same = refl
same_left a b n last (x ∷ xs) e same =
    let lt : n < last = omega (arith, e) in
    let next : (n + 1) + length xs ≡ last = omega (arith, e) in
    let one : cond (is_marked a n) x (emptied x) ≡ cond (is_marked b n) x (emptied x) = ap (λ (m : Bool). cond m x (emptied x)) (same n lt) in
    ap (λ (y : Body). y ∷ left_from (n + 1) a xs) one ∙ ap (λ (ys : List Body). cond (is_marked b n) x (emptied x) ∷ ys) (same_left a b (n + 1) last xs next same)

pub returns : goal.returns
returns c = λ core a b as' bs. same_left a b 0 (length core.bodies) core.bodies (omega arith) (same_at core a b as' bs)
