-- Marks on bodies that were looked at. Steps of the code: no definition of meaning needs them.
use Rattle.std.specs.Prelude.{◌≡◌, ℕ, Bool, true, ◌+◌, ◌<◌, cond, List, [], ◌∷◌, ◌++◌, length, Option, Some, None, option_to_list}
use Rattle.std.specs.Prelude.{slice_get, slice_index_or, slice_set}
use Rattle.elan_types.specs.declared.core_phrase.Body.{Body}
use Rattle.elan_types.specs.declared.core_phrase.Core.{Core}
use Rattle.code_gen.specs.Names.{Names, in_units, in_content}
use Rattle.code_gen.specs.Reached.{IsReached, emptied}

-- A number behind the marks counts as marked.
abbrev pub is_marked : List Bool → ℕ → Bool
is_marked marks n = slice_index_or marks n true

-- the bodies that a command names itself
abbrev pub first_names : Core → Names
first_names core = in_units core.units ++ option_to_list core.start

abbrev pub named_by : Option Body → Names
named_by None = []
named_by (Some b) = in_content b.content

-- the marks, and the names that come to those that wait, after a body was looked at
abbrev pub marks_after : List Bool → ℕ → List Bool
marks_after marks n = cond (is_marked marks n) marks (slice_set marks n true)

abbrev pub names_after : List Bool → List Body → ℕ → Names
names_after marks bodies n = cond (is_marked marks n) [] (named_by (slice_get bodies n))

-- exactly the bodies that a command reaches are marked
pub record AreMarks (core : Core) (marks : List Bool) : Type 0 where
  pub reached : (n : ℕ) → IsReached core n → is_marked marks n ≡ true
  pub only : (n : ℕ) → n < length core.bodies → is_marked marks n ≡ true → IsReached core n

-- bodies that are marked stay, the others are emptied
abbrev pub left_from : ℕ → List Bool → List Body → List Body
left_from n marks [] = []
left_from n marks (b ∷ bs) = cond (is_marked marks n) b (emptied b) ∷ left_from (n + 1) marks bs

-- these are the bodies of a core, of which those that its command does not reach are emptied
abbrev pub AreLeft : Core → List Body → Type 0
AreLeft core made = (marks : List Bool) × AreMarks core marks × (made ≡ left_from 0 marks core.bodies)
