-- Where declarations and names of types stand, and the first of each name, kept by the name. Steps of the code: no definition of meaning needs them.
use Rattle.std.specs.Prelude.{◌≡◌, ℕ, zero, suc, ◌+◌, List, [], ◌∷◌, map, Option, Some, None, option_and_then, slice_get, if◌then◌else◌}
use Rattle.std.specs.Str.{bytes_eq}
use Rattle.std.specs.Global.{Vec}
use Rattle.std.specs.HashMap.{HashMap, get_by}
use Rattle.elan_names.specs.declared.entry.Entry.{Entry}
use Rattle.elan_names.specs.declared.type_name.Named.{Named}
use Rattle.elan_names.specs.declared.type_name.TypeName.{TypeName}
use Rattle.elan_names.specs.Names.{cells_held}

-- how many cells are before each declaration, where so many are before the first of these
abbrev pub cells_before : ℕ → List Entry → List ℕ
cells_before k [] = []
cells_before k (e ∷ es) = k ∷ cells_before (k + cells_held e.denotes) es

abbrev pub entry_names : List Entry → List (List ℕ)
entry_names es = map (λ e. e.name) es

abbrev pub type_names : List TypeName → List (List ℕ)
type_names ts = map (λ t. t.name) ts

-- the place of the first of these names that is this one, where the first of them stands at this place
abbrev pub first_at : ℕ → List (List ℕ) → List ℕ → Option ℕ
first_at i [] x = None
first_at i (n ∷ ns) x = if bytes_eq n x then Some i else first_at (i + 1) ns x

-- a number and a declaration, where both are there
abbrev pub numbered : Option ℕ → Option Entry → Option (ℕ × Entry)
numbered (Some k) (Some e) = Some (k, e)
numbered _ _ = None

abbrev pub entry_at : List Entry → ℕ → Option (ℕ × Entry)
entry_at es i = numbered (slice_get (cells_before 0 es) i) (slice_get es i)

abbrev pub entry_found : List Entry → Option ℕ → Option (ℕ × Entry)
entry_found es found = option_and_then (entry_at es) found

-- the one that was found first
abbrev pub earlier : Option ℕ → Option ℕ → Option ℕ
earlier None other = other
earlier (Some i) other = Some i

module _ {S : Type 0} where
  -- what is kept by a name
  abbrev pub kept : HashMap (Vec ℕ) ℕ S → List ℕ → Option ℕ
  kept m x = get_by (λ k. bytes_eq x k.items) m

  abbrev pub HasFirsts : HashMap (Vec ℕ) ℕ S → List (List ℕ) → Type 0
  HasFirsts m ns = (x : List ℕ) → kept m x ≡ first_at 0 ns x

  -- A name was kept with its place, unless it was there.
  abbrev pub KeepsOne : HashMap (Vec ℕ) ℕ S → HashMap (Vec ℕ) ℕ S → ℕ → List ℕ → Type 0
  KeepsOne m n i name = (x : List ℕ) → kept n x ≡ earlier (kept m x) (if bytes_eq name x then Some i else None)

  -- Of few names none is kept.
  abbrev pub AreKept : Option (HashMap (Vec ℕ) ℕ S) → List (List ℕ) → Type 0
  AreKept None ns = Unit {0}
  AreKept (Some m) ns = HasFirsts m ns

-- the names of types where the one at this place denotes this
abbrev pub denoting : List TypeName → ℕ → Named → List TypeName
denoting [] i of = []
denoting (t ∷ ts) zero of = record { at = t.at; name = t.name; of = of } ∷ ts
denoting (t ∷ ts) (suc i) of = t ∷ denoting ts i of
