-- What words are of which texts are read.
use Rattle.std.proofs.Common.{◌≡◌, ℕ, Bool, true, false, ◌&&◌, if◌then◌else◌, List, [], ◌∷◌, Option, Some, None, refl, ap}
use Rattle.elan_tree.specs.declared.token.Word.{Word}
use Rattle.elan_tree.specs.declared.token.Word.TheVariants.{Sign, Text}
use Rattle.elan_tree.specs.declared.token.Sign.TheVariants.{LeftRound, RightRound, Comma}
use Rattle.monitor.specs.Words.{opens, closes, separates, text_of, both, text_in, texts_in}

opens-is : (w : Word) → opens w ≡ true → w ≡ Sign LeftRound
opens-is (Sign LeftRound) e = refl
opens-is _ e = cc

closes-is : (w : Word) → closes w ≡ true → w ≡ Sign RightRound
closes-is (Sign RightRound) e = refl
closes-is _ e = cc

separates-is : (w : Word) → separates w ≡ true → w ≡ Sign Comma
separates-is (Sign Comma) e = refl
separates-is _ e = cc

text_of-is : (w : Word) (x : List ℕ) → text_of w ≡ Some x → w ≡ Text x
text_of-is (Text y) x e = cc
text_of-is _ x e = cc

both-is : (s t : Option (List ℕ)) (x y : List ℕ) → both s t ≡ Some (x, y) → (s ≡ Some x) × (t ≡ Some y)
both-is (Some a) (Some b) x y e =
    let p : ◌≡◌ {A = List ℕ × List ℕ} (a, b) (x, y) = cc in (ap (λ q. Some q.0) p, ap (λ q. Some q.1) p)
both-is (Some a) None x y e = cc
both-is None t x y e = cc

passed : {X : Type 0} (b c : Bool) (t : Option X) (x : X) → (if b && c then t else None) ≡ Some x → (b ≡ true) × (c ≡ true) × (t ≡ Some x)
passed true true t x e = (refl, refl, e)
passed true false t x e = cc
passed false c t x e = cc

true_both : (b c : Bool) → (b && c) ≡ true → (b ≡ true) × (c ≡ true)
true_both true c e = (refl, e)
true_both false c e = cc

-- a text alone between brackets stands between two brackets
pub text_in-is : (ws : List Word) (x : List ℕ) → text_in ws ≡ Some x → ws ≡ Sign LeftRound ∷ (Text x ∷ (Sign RightRound ∷ []))
text_in-is [] x e = cc
text_in-is (l ∷ []) x e = cc
text_in-is (l ∷ (t ∷ [])) x e = cc
text_in-is (l ∷ (t ∷ (r ∷ []))) x e =
    let p = passed (opens l) (closes r) (text_of t) x e in cc (opens-is l p.0, closes-is r p.1, text_of-is t x p.2)
text_in-is (l ∷ (t ∷ (r ∷ (w ∷ ws)))) x e = cc

pub texts_in-is :
    (ws : List Word) (x y : List ℕ) → texts_in ws ≡ Some (x, y)
    → ws ≡ Sign LeftRound ∷ (Text x ∷ (Sign Comma ∷ (Text y ∷ (Sign RightRound ∷ []))))
texts_in-is [] x y e = cc
texts_in-is (a ∷ []) x y e = cc
texts_in-is (a ∷ (b ∷ [])) x y e = cc
texts_in-is (a ∷ (b ∷ (c ∷ []))) x y e = cc
texts_in-is (a ∷ (b ∷ (c ∷ (d ∷ [])))) x y e = cc
texts_in-is (l ∷ (s ∷ (c ∷ (t ∷ (r ∷ []))))) x y e =
    let p = passed (opens l) (separates c && closes r) (both (text_of s) (text_of t)) (x, y) e in
    let q = true_both (separates c) (closes r) p.1 in
    let b = both-is (text_of s) (text_of t) x y p.2 in
    cc (opens-is l p.0, separates-is c q.0, closes-is r q.1, text_of-is s x b.0, text_of-is t y b.1)
texts_in-is (a ∷ (b ∷ (c ∷ (d ∷ (f ∷ (w ∷ ws)))))) x y e = cc
