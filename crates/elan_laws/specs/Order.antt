-- The places of phrases, and their order.
use Rattle.std.specs.Prelude.{ℕ, List, [], ◌∷◌, ◌++◌}
use Rattle.elan_laws.specs.Below.elan_scope.specs.Phrase as form
use Rattle.elan_laws.specs.Below.elan_scope.specs.Phrase.{Form, plain, Phrase, phrase, Parts, none, part}

-- The first list goes through the second from left to right, and may stand still or leave some out.
pub data Follows : List ℕ → List ℕ → Type 0 where
  ends : (ys : List ℕ) → Follows [] ys
  stays : (x : ℕ) (xs ys : List ℕ) → Follows xs (x ∷ ys) → Follows (x ∷ xs) (x ∷ ys)
  goes_on : (y : ℕ) (xs ys : List ℕ) → Follows xs ys → Follows xs (y ∷ ys)

-- Both have the same places in the same order, however often one behind the other.
pub record IsSame (xs ys : List ℕ) : Type 0 where
  pub to : Follows xs ys
  pub back : Follows ys xs

-- The place of a phrase. Lists of units, bodies and what is not written have none of their own, and neither has a unit that is an
-- expression, or is asked to deliver nothing: its part has it.
abbrev pub own : ℕ → Form → List ℕ
own at (plain form.absent) = []
own at (plain form.labels) = []
own at (plain form.statement) = []
own at (plain form.without_value) = []
own at (plain form.units) = []
own at (plain (form.body o r)) = []
own at (plain form.routine) = []
own at (plain (form.refinement o)) = []
own at (plain form.level) = []
own at f = at ∷ []

-- the places of a phrase and all its parts, from left to right, a phrase before its parts
abbrev mutual
  pub in_phrase : Phrase → List ℕ
  in_phrase (phrase at form ps) = own at form ++ in_parts ps

  pub in_parts : Parts → List ℕ
  in_parts none = []
  in_parts (part p ps) = in_phrase p ++ in_parts ps

-- the places of those among these phrases that have no parts
abbrev pub leaves : List Phrase → List ℕ
leaves [] = []
leaves (phrase at form none ∷ ps) = own at form ++ leaves ps
leaves (phrase at form (part q qs) ∷ ps) = leaves ps
