-- What parameters are given, one operand more.
use Rattle.std.proofs.Common.{◌≡◌, ℕ, List, [], ◌∷◌, ◌++◌, Option, Some, Result, length, drop, option_map, slice_get, refl, ap, subst, ◌∙◌}
use Rattle.eu_base.specs.declared.operation.Change.{Change}
use Rattle.elan_types.specs.declared.elan_type.ElanType.{ElanType}
use Rattle.elan_types.specs.declared.core_phrase.Action.TheVariants as action
use Rattle.elan_types.specs.declared.core_phrase.Formal.{Formal}
use Rattle.elan_types.specs.Types.{shape_in, formal_of}
use Rattle.elan_types.specs.declared.core_phrase.Actual.TheVariants as actual
use Rattle.elan_names.specs.Callees.{Predefined}
use Rattle.elan_names.specs.declared.predefined.Predefined.TheVariants as names
use Rattle.elan_meant.specs.declared.meant.Meant.TheVariants.{Done}
use Rattle.elan_types.specs.declared.why.Why.TheVariants.{WrongType}
use Rattle.elan_meant.specs.walks.Arity.{two_of}
use Rattle.elan_types.specs.declared.elan_type.Parameter.{Parameter}
use Rattle.elan_types.specs.declared.core_phrase.Actual.{Actual}
use Rattle.elan_scope.specs.declared.trouble.Trouble.{Trouble}
use Rattle.elan_scope.specs.Answer.{Is}
use Rattle.elan_scope.specs.Ruled.{Ruled, joined}
use Rattle.elan_meant.specs.Verdict.{Verdict, gives, breaks, ◌>>=◌, told, Tells}
use Rattle.elan_meant.specs.declared.meant.Meant.{Meant}
use Rattle.value_rules.specs.Calls.{given, given_as, performed}
use Rattle.value_rules.specs.walks.Steps.{given_next, one_of}

pub given_none : (at : ℕ) (ps : List Parameter) → given at ps [] ≡ gives []
given_none at [] = refl
given_none at (p ∷ ps) = refl

-- what is given to the first, and behind it what the others are given
abbrev first_and : Verdict Actual → Verdict (List Actual) → Verdict (List Actual)
first_and q r = q >>= (λ a. r >>= (λ as'. gives (a ∷ as')))

abbrev and_last : Verdict (List Actual) → Verdict Actual → Verdict (List Actual)
and_last r q = r >>= (λ as'. q >>= (λ a. gives (as' ++ a ∷ [])))

first_last : (q : Verdict Actual) (r : Verdict (List Actual)) (l : Verdict Actual) → first_and q (and_last r l) ≡ and_last (first_and q r) l
first_last (gives a) (gives as') (gives z) = refl
first_last (gives a) (gives as') (breaks f) = refl
first_last (gives a) (breaks f) l = refl
first_last (breaks f) r l = refl

single : (q : Verdict Actual) → first_and q (gives []) ≡ and_last (gives []) q
single (gives a) = refl
single (breaks f) = refl

before_next : (at : ℕ) (ps : List Parameter) (m : Meant) (q : Verdict Actual) (r : Verdict (List Actual))
    → first_and q (given_next at ps m r) ≡ given_next at ps m (first_and q r)
before_next at [] m q r = refl
before_next at (p ∷ ps) m q r = first_last q r (given_as at p.access p.of m)

first_given : (at : ℕ) (ps : List Parameter) (m : Meant) → given at ps (m ∷ []) ≡ given_next at ps m (given at ps [])
first_given at [] m = refl
first_given at (p ∷ ps) m = ap (first_and (given_as at p.access p.of m)) (given_none at ps) ∙ single (given_as at p.access p.of m)

-- one operand more
pub given_more : (at : ℕ) (ps : List Parameter) (ms : List Meant) (m : Meant)
    → given at ps (ms ++ m ∷ []) ≡ given_next at (drop (length ms) ps) m (given at ps ms)
given_more at [] [] m = refl
given_more at [] (n ∷ ms) m = refl
given_more at (p ∷ ps) [] m = first_given at (p ∷ ps) m
given_more at (p ∷ ps) (n ∷ ms) m =
    ap (first_and (given_as at p.access p.of n)) (given_more at ps ms m)
    ∙ before_next at (drop (length ms) ps) m (given_as at p.access p.of n) (given at ps ms)

told_joined : (r : Verdict (List Actual)) (q : Verdict Actual) → joined (told r) (told q) ≡ told (and_last r q)
told_joined (gives as') (gives a) = refl
told_joined (gives as') (breaks f) = refl
told_joined (breaks f) q = refl

-- what is given to the first of these parameters, behind what was given
pub next_is : (out : Result (List Actual) Trouble) (next : Result Actual Trouble) (at : ℕ) (ps : List Parameter) (f : Formal) (m : Meant)
    (r : Verdict (List Actual)) → option_map formal_of (slice_get ps 0) ≡ Some f
    → ((t : ElanType) → f.shape ≡ shape_in t → Tells next (given_as at f.access t m))
    → ((q : Ruled Actual) → Is next q → Is out (joined (told r) q))
    → Tells out (given_next at ps m r)
next_is out next at [] f m r i h j = absurd cc
next_is out next at (p ∷ ps) f m r i h j =
    let e : f ≡ formal_of p = cc in
    let k = subst (λ (g : Formal). Tells next (given_as at g.access p.of m)) e (h p.of (ap (λ (g : Formal). g.shape) e)) in
    subst (λ (q : Ruled (List Actual)). Is out q) (told_joined r (given_as at p.access p.of m)) (j (told (given_as at p.access p.of m)) k)

pub behind : (ms : List Meant) (m : Meant) (ps : List Parameter) → drop 1 (drop (length ms) ps) ≡ drop (length (ms ++ m ∷ [])) ps
behind [] m ps = refl
behind (n ∷ ms) m [] = refl
behind (n ∷ ms) m (p ∷ ps) = behind ms m ps

-- ---- what a callee does, by the number of what it is given

abbrev pub changed_by : Change → ℕ → Option (Actual × Actual) → Verdict Meant
changed_by c at (Some (actual.Place x t, actual.Value v)) = gives (Done (action.Modify c x v ∷ []))
changed_by c at o = breaks (at, WrongType)

pub changed_is : (c : Change) (at : ℕ) (r : Option ElanType) (as' : List Actual)
    → performed at (Predefined (names.Change c)) r as' ≡ changed_by c at (two_of as')
changed_is c at r [] = refl
changed_is c at r (actual.Place x t ∷ []) = refl
changed_is c at r (actual.Value w ∷ []) = refl
changed_is c at r (actual.Place x t ∷ actual.Value v ∷ []) = refl
changed_is c at r (actual.Place x t ∷ actual.Place y u ∷ []) = refl
changed_is c at r (actual.Value w ∷ a ∷ []) = refl
changed_is c at r (actual.Place x t ∷ actual.Value v ∷ d ∷ as') = refl
changed_is c at r (actual.Place x t ∷ actual.Place y u ∷ d ∷ as') = refl
changed_is c at r (actual.Value w ∷ a ∷ d ∷ as') = refl

abbrev pub stopped_by : ℕ → Option Actual → Verdict Meant
stopped_by at (Some (actual.Value v)) = gives (Done (action.ErrorStop v ∷ []))
stopped_by at o = breaks (at, WrongType)

pub stopped_is : (at : ℕ) (r : Option ElanType) (as' : List Actual) → performed at (Predefined names.ErrorStop) r as' ≡ stopped_by at (one_of as')
stopped_is at r [] = refl
stopped_is at r (actual.Value v ∷ []) = refl
stopped_is at r (actual.Place x t ∷ []) = refl
stopped_is at r (actual.Value v ∷ a ∷ as') = refl
stopped_is at r (actual.Place x t ∷ a ∷ as') = refl
