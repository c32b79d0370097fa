-- A phrase with several parts, by what these mean beside each other.
use Rattle.std.proofs.Common.{◌≡◌, ℕ, List, [], ◌∷◌, Result, refl, ap, sym, subst, ◌∙◌}
use Rattle.elan_scope.specs.declared.trouble.Trouble.{Trouble}
use Rattle.elan_scope.specs.declared.trouble.Trouble.TheVariants.{NoMemory, Breaks, Hangs}
use Rattle.elan_scope.specs.declared.known.Known.{Known}
use Rattle.elan_scope.specs.Answer.{Is, Fails}
use Rattle.elan_scope.specs.Phrase.{Plain, plain, Phrase, phrase, Parts, all_of, row, pair}
use Rattle.elan_scope.specs.Ruled.{Ruled, gives, breaks, hangs, ◌>>=◌, before, beside}
use Rattle.elan_meant.specs.declared.meant.Meant.{Meant}
use Rattle.elan_meant.specs.walks.Arity.{triple}
use Rattle.elan_rules.specs.Rules.{ruled}
use Rattle.elan_rules.specs.Meaning.{judged, judged_all}

pub bind_fails : {A B : Type 0} (d : Trouble) (r : Ruled A) (f : A → Ruled B) → Fails d r → Fails d (r >>= f)
bind_fails NoMemory r f h = tt
bind_fails (Breaks at why) r f h = ap (λ z. z >>= f) h
bind_fails Hangs r f h = ap (λ z. z >>= f) h

-- ---- a row of parts, by what they mean beside each other

abbrev Three : Type 0
Three = Meant × Meant × Meant

abbrev two_in : Meant × Meant → List Meant
two_in b = b.0 ∷ b.1 ∷ []

abbrev three_in : Three → List Meant
three_in b = b.0 ∷ b.1 ∷ b.2 ∷ []

abbrev six_in : Three × Three → List Meant
six_in b = b.0.0 ∷ b.0.1 ∷ b.0.2 ∷ three_in b.1

abbrev listed : {A : Type 0} → (A → List Meant) → Ruled A → Ruled (List Meant)
listed g r = r >>= (λ b. gives (g b))

two_row : (r q : Ruled Meant) → before r (before q (gives [])) ≡ listed two_in (beside r q)
two_row (gives r) (gives q) = refl
two_row (gives r) (breaks z) = refl
two_row (gives r) hangs = refl
two_row (breaks z) q = refl
two_row hangs (gives q) = refl
two_row hangs (breaks z) = refl
two_row hangs hangs = refl

three_row : (r q s : Ruled Meant) → before r (before q (before s (gives []))) ≡ listed three_in (triple r q s)
three_row (gives r) (gives q) (gives s) = refl
three_row (gives r) (gives q) (breaks z) = refl
three_row (gives r) (gives q) hangs = refl
three_row (gives r) (breaks z) s = refl
three_row (gives r) hangs (gives s) = refl
three_row (gives r) hangs (breaks z) = refl
three_row (gives r) hangs hangs = refl
three_row (breaks z) q s = refl
three_row hangs (gives q) (gives s) = refl
three_row hangs (gives q) (breaks z) = refl
three_row hangs (gives q) hangs = refl
three_row hangs (breaks z) s = refl
three_row hangs hangs (gives s) = refl
three_row hangs hangs (breaks z) = refl
three_row hangs hangs hangs = refl

-- three parts, and three that stand behind them
three_before : (r q s : Ruled Meant) (t : Ruled Three) → before r (before q (before s (listed three_in t))) ≡ listed six_in (beside (triple r q s) t)
three_before (gives r) (gives q) (gives s) (gives t) = refl
three_before (gives r) (gives q) (gives s) (breaks z) = refl
three_before (gives r) (gives q) (gives s) hangs = refl
three_before (gives r) (gives q) (breaks z) t = refl
three_before (gives r) (gives q) hangs (gives t) = refl
three_before (gives r) (gives q) hangs (breaks z) = refl
three_before (gives r) (gives q) hangs hangs = refl
three_before (gives r) (breaks z) s t = refl
three_before (gives r) hangs (gives s) (gives t) = refl
three_before (gives r) hangs (gives s) (breaks z) = refl
three_before (gives r) hangs (gives s) hangs = refl
three_before (gives r) hangs (breaks z) t = refl
three_before (gives r) hangs hangs (gives t) = refl
three_before (gives r) hangs hangs (breaks z) = refl
three_before (gives r) hangs hangs hangs = refl
three_before (breaks z) q s t = refl
three_before hangs (gives q) (gives s) (gives t) = refl
three_before hangs (gives q) (gives s) (breaks z) = refl
three_before hangs (gives q) (gives s) hangs = refl
three_before hangs (gives q) (breaks z) t = refl
three_before hangs (gives q) hangs (gives t) = refl
three_before hangs (gives q) hangs (breaks z) = refl
three_before hangs (gives q) hangs hangs = refl
three_before hangs (breaks z) s t = refl
three_before hangs hangs (gives s) (gives t) = refl
three_before hangs hangs (gives s) (breaks z) = refl
three_before hangs hangs (gives s) hangs = refl
three_before hangs hangs (breaks z) t = refl
three_before hangs hangs hangs (gives t) = refl
three_before hangs hangs hangs (breaks z) = refl
three_before hangs hangs hangs hangs = refl

six_row : (r q s t u v : Ruled Meant) → before r (before q (before s (before t (before u (before v (gives [])))))) ≡ listed six_in
    (beside (triple r q s) (triple t u v))
six_row r q s t u v = ap (λ (z : Ruled (List Meant)). before r (before q (before s z))) (three_row t u v) ∙ three_before r q s (triple t u v)

-- ---- the whole, where its parts are listed so

module _ (k : Known) (at : ℕ) (f : Plain) (ps : Parts) {A : Type 0} (g : A → List Meant) (r : Ruled A) (e : judged_all k ps ≡ listed g r) where
  whole_fails : (d : Trouble) → Fails d r → Fails d (judged k (phrase at (plain f) ps))
  whole_fails d h =
      bind_fails d (judged_all k ps) (ruled k at (plain f)) (subst (λ (z : Ruled (List Meant)). Fails d z) (sym e) (bind_fails d r (λ b. gives (g b)) h))

  whole_is : (out : Result Meant Trouble) (x : A) → r ≡ gives x → Is out (ruled k at (plain f) (g x)) → Is out (judged k (phrase at (plain f) ps))
  whole_is out x i h =
      subst (λ (z : Ruled (List Meant)). Is out (z >>= ruled k at (plain f))) (sym (e ∙ ap (listed g) i)) h

module _ (k : Known) (at : ℕ) (f : Plain) (p q : Phrase) where
  pub pair_fails : (d : Trouble) → Fails d (beside (judged k p) (judged k q)) → Fails d (judged k (pair at f p q))
  pair_fails = whole_fails k at f (all_of (p ∷ q ∷ [])) two_in (beside (judged k p) (judged k q)) (two_row (judged k p) (judged k q))

  pub pair_is : (out : Result Meant Trouble) (m n : Meant) → beside (judged k p) (judged k q) ≡ gives (m, n) → Is out (ruled k at (plain f) (m ∷ n ∷ []))
      → Is out (judged k (pair at f p q))
  pair_is out m n = whole_is k at f (all_of (p ∷ q ∷ [])) two_in (beside (judged k p) (judged k q)) (two_row (judged k p) (judged k q)) out (m, n)

module _ (k : Known) (at : ℕ) (f : Plain) (p q o : Phrase) where
  abbrev pub Beside : Ruled Three
  Beside = triple (judged k p) (judged k q) (judged k o)

  pub three_fails : (d : Trouble) → Fails d Beside → Fails d (judged k (row at f (p ∷ q ∷ o ∷ [])))
  three_fails = whole_fails k at f (all_of (p ∷ q ∷ o ∷ [])) three_in Beside (three_row (judged k p) (judged k q) (judged k o))

  pub three_is : (out : Result Meant Trouble) (x : Three) → Beside ≡ gives x → Is out (ruled k at (plain f) (three_in x))
      → Is out (judged k (row at f (p ∷ q ∷ o ∷ [])))
  three_is = whole_is k at f (all_of (p ∷ q ∷ o ∷ [])) three_in Beside (three_row (judged k p) (judged k q) (judged k o))

module _ (k : Known) (at : ℕ) (f : Plain) (p q o u v w : Phrase) where
  abbrev SixBeside : Ruled (Three × Three)
  SixBeside = beside (triple (judged k p) (judged k q) (judged k o)) (triple (judged k u) (judged k v) (judged k w))

  abbrev six : List Phrase
  six = p ∷ q ∷ o ∷ u ∷ v ∷ w ∷ []

  pub six_fails : (d : Trouble) → Fails d SixBeside → Fails d (judged k (row at f six))
  six_fails = whole_fails k at f (all_of six) six_in SixBeside (six_row (judged k p) (judged k q) (judged k o) (judged k u) (judged k v) (judged k w))

  pub six_is : (out : Result Meant Trouble) (x : Three × Three) → SixBeside ≡ gives x → Is out (ruled k at (plain f) (six_in x))
      → Is out (judged k (row at f six))
  six_is = whole_is k at f (all_of six) six_in SixBeside (six_row (judged k p) (judged k q) (judged k o) (judged k u) (judged k v) (judged k w))
