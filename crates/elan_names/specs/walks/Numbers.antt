-- The numbers of headings, kept by their names, and what is found among them.
use Rattle.std.specs.Prelude.{◌≡◌, ℕ, ◌+◌, Bool, false, List, [], ◌∷◌, ◌++◌, Option, Some, None, if◌then◌else◌, slice_get}
use Rattle.std.specs.Str.{bytes_eq}
use Rattle.std.specs.Global.{Vec}
use Rattle.std.specs.HashMap.{HashMap, get_by}
use Rattle.elan_names.specs.declared.heading.Heading.{Heading}
use Rattle.std.specs.Option.{option_or}
use Rattle.elan_names.specs.Callables.{Callable, own_callable}

abbrev pub numbers_from : ℕ → List Heading → List ℕ → List ℕ
numbers_from n [] x = []
numbers_from n (h ∷ hs) x = if bytes_eq h.name x then n ∷ numbers_from (n + 1) hs x else numbers_from (n + 1) hs x

-- the numbers of the headings of a name
abbrev pub numbers_named : List Heading → List ℕ → List ℕ
numbers_named = numbers_from 0

-- ---- what is kept by a name

abbrev pub or_empty : Option (List ℕ) → List ℕ
or_empty None = []
or_empty (Some ns) = ns

abbrev pub if_named : Bool → ℕ → List ℕ
if_named b n = if b then n ∷ [] else []

module _ {S : Type 0} where
  abbrev pub numbers : HashMap (Vec ℕ) (List ℕ) S → List ℕ → List ℕ
  numbers m x = or_empty (get_by (λ k. bytes_eq x k.items) m)

  abbrev pub HasNumbers : HashMap (Vec ℕ) (List ℕ) S → List Heading → Type 0
  HasNumbers m hs = (x : List ℕ) → numbers m x ≡ numbers_named hs x

  -- Under other names the same is kept.
  abbrev pub KeepsOtherNames : HashMap (Vec ℕ) (List ℕ) S → HashMap (Vec ℕ) (List ℕ) S → List ℕ → Type 0
  KeepsOtherNames m n name = (x : List ℕ) → bytes_eq name x ≡ false → numbers n x ≡ numbers m x

  -- A number was added under its name.
  abbrev pub AddsNumber : HashMap (Vec ℕ) (List ℕ) S → HashMap (Vec ℕ) (List ℕ) S → ℕ → List ℕ → Type 0
  AddsNumber m n number name = (x : List ℕ) → numbers n x ≡ numbers m x ++ if_named (bytes_eq name x) number

-- ---- what is found among numbers

abbrev pub if_passes : (Heading → Bool) → ℕ → Option Heading → Option (ℕ × Heading)
if_passes test n None = None
if_passes test n (Some h) = if test h then Some (n, h) else None

abbrev pub first_among : (Heading → Bool) → List Heading → List ℕ → Option (ℕ × Heading)
first_among test hs [] = None
first_among test hs (n ∷ ns) = option_or (if_passes test n (slice_get hs n)) (first_among test hs ns)

abbrev pub callable_at : ℕ → Option Heading → List Callable
callable_at n None = []
callable_at n (Some h) = own_callable n h.name h.what

-- where so many bodies are before those of the level
abbrev pub callables_among : ℕ → List Heading → List ℕ → List Callable
callables_among b hs [] = []
callables_among b hs (n ∷ ns) = callable_at (b + n) (slice_get hs n) ++ callables_among b hs ns
