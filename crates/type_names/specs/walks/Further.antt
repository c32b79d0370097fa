-- What is read of definitions with what was read before. No definition of meaning needs it.
use Rattle.std.specs.Prelude.{◌≡◌, ℕ, zero, suc, ◌+◌, Bool, true, false, ◌&&◌, List, [], ◌∷◌, ◌++◌, map, flat_map, Option, Some, None}
use Rattle.std.specs.Prelude.{option_map, option_and_then, option_to_list, slice_get, if◌then◌else◌}
use Rattle.elan_types.specs.declared.elan_type.ElanType.TheVariants as types
use Rattle.elan_names.specs.declared.type_name.TypeName.{TypeName}
use Rattle.elan_names.specs.declared.type_name.Named.{Named}
use Rattle.elan_names.specs.declared.type_name.Named.TheVariants as named
use Rattle.elan_names.specs.Types.{is_open_named}
use Rattle.elan_names.specs.walks.Firsts.{first_at, type_names, denoting}
use Rattle.elan_walk.specs.declared.definition.Defined.{Defined}
use Rattle.elan_walk.specs.declared.definition.Defined.TheVariants as defined
use Rattle.elan_walk.specs.declared.definition.Definition.{Definition}
use Rattle.type_names.specs.Types.{as_defined, denoted, look}
use Rattle.type_names.specs.Faults.{names_in}

-- ---- all of them at once

-- where own types are numbered from this number on
module _ (first : ℕ) where
  -- the names that definitions declare, read with a look-up
  abbrev pub read : (List ℕ → Option Named) → ℕ → List Definition → List TypeName
  read look n [] = []
  read look n (d ∷ ds) = record { at = d.name_at; name = d.name; of = as_defined first look n d.what } ∷ read look (n + 1) ds

  -- the names that definitions declare, read so many times again with what was read before
  abbrev pub read_again : List TypeName → List Definition → ℕ → List TypeName
  read_again around ds zero = read (look []) 0 ds
  read_again around ds (suc n) = read (look (read_again around ds n ++ around)) 0 ds

-- ---- one after another

-- Before anything is read numbers are known, and no types.
abbrev pub unread : Defined → Named
unread (defined.Abbreviation of) = named.Of types.Open
unread (defined.New of) = named.Of types.Open
unread (defined.Number k) = named.Size k
unread defined.Other = named.Other

abbrev pub all_unread : List Definition → List TypeName
all_unread ds = map (λ d. record { at = d.name_at; name = d.name; of = unread d.what }) ds

module _ (first : ℕ) where
  abbrev pub with_found : List TypeName → ℕ → Option Definition → List TypeName → List TypeName
  with_found around i None ts = ts
  with_found around i (Some d) ts = denoting ts i (as_defined first (look (ts ++ around)) i d.what)

  -- the names where the definition with this number was read, with what was read before
  abbrev pub with_read : List TypeName → List Definition → ℕ → List TypeName → List TypeName
  with_read around ds i ts = with_found around i (slice_get ds i) ts

  -- what is known of names where so many may follow
  abbrev pub known_over : List TypeName → List Definition → ℕ → List ℕ → Option Named
  known_over around ds zero x = None
  known_over around ds (suc n) x = denoted first around ds n x

  -- Each name denotes an open type, or what its definition says with this look-up.
  abbrev pub Follows : (List ℕ → Option Named) → ℕ → List TypeName → List Definition → Type 0
  Follows look n [] [] = Unit {0}
  Follows look n (t ∷ ts) (d ∷ ds) =
      (t.at ≡ d.name_at) × (t.name ≡ d.name) × (is_open_named t.of ≡ false → t.of ≡ as_defined first look n d.what) × Follows look (n + 1) ts ds
  Follows look n [] (d ∷ ds) = ⊥
  Follows look n (t ∷ ts) [] = ⊥

  -- What was read so far is what these names denote over at most so many further names, and what is read of it with itself.
  abbrev pub Reads : List TypeName → List Definition → ℕ → List TypeName → Type 0
  Reads around ds n ts = Follows (known_over around ds n) 0 ts ds × Follows (look (ts ++ around)) 0 ts ds

  -- What is open is still open where it is read again.
  abbrev pub settled_from : (List ℕ → Option Named) → ℕ → List TypeName → List Definition → Bool
  settled_from look n [] [] = true
  settled_from look n (t ∷ ts) (d ∷ ds) =
      (if is_open_named t.of then is_open_named (as_defined first look n d.what) else true) && settled_from look (n + 1) ts ds
  settled_from look n [] (d ∷ ds) = false
  settled_from look n (t ∷ ts) [] = false

-- ---- which definitions each names, found by name

abbrev pub definition_names : List Definition → List (List ℕ)
definition_names ds = map (λ d. d.name) ds

abbrev pub numbers_at : List TypeName → List (List ℕ) → List ℕ
numbers_at ts xs = flat_map (λ x. option_to_list (first_at 0 (type_names ts) x)) xs

abbrev pub calls_at : List TypeName → List Definition → List (List ℕ)
calls_at ts ds = map (λ d. numbers_at ts (names_in d.what)) ds

-- the definition that a name leads to
abbrev pub defined_at : List Definition → Option ℕ → Option (ℕ × Definition)
defined_at ds found = option_and_then (λ i. option_map (λ d. (i, d)) (slice_get ds i)) found
