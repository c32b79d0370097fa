-- Numbers, texts, brackets, items and fields, CAND and COR.
use Rattle.std.specs.Prelude.{ℕ, ℤ, Bool, true, false, ◌&&◌, if◌then◌else◌, nat_le, List, length, Option, Some, None}
use Rattle.elan_types.specs.declared.elan_type.ElanType.{ElanType}
use Rattle.elan_types.specs.declared.elan_type.ElanType.TheVariants.{Int, Bool as Truths, Text}
use Rattle.elan_types.specs.Types.{concrete, is_own_from, shape_in, items, field, cells}
use Rattle.elan_types.specs.declared.core_phrase.PlacePhrase.TheVariants as place
use Rattle.elan_types.specs.declared.core_phrase.Items.{Items}
use Rattle.elan_types.specs.declared.core_phrase.Part.{Part}
use Rattle.elan_types.specs.declared.core_phrase.ValuePhrase.{ValuePhrase}
use Rattle.elan_types.specs.declared.core_phrase.ValuePhrase.TheVariants as value
use Rattle.elan_types.specs.declared.why.Why.TheVariants.{WrongType, WrongPlace, Unknown}
use Rattle.eu_base.specs.declared.value.TheConstants.{TEXT_BYTES}
use Rattle.elan_names.specs.declared.denoter.Denoter.{Denoter}
use Rattle.elan_names.specs.declared.denoter.Denoter.TheVariants as denoters
use Rattle.eu_base.specs.Operations.{in_range}
use Rattle.elan_scope.specs.declared.scope.Scope.{Scope}
use Rattle.elan_meant.specs.declared.meant.Meant.{Meant}
use Rattle.elan_meant.specs.declared.meant.Meant.TheVariants.{Variable, Value}
use Rattle.elan_meant.specs.Verdict.{Verdict, gives, breaks}
use Rattle.elan_meant.specs.Operands.{delivers}
use Rattle.elan_meant.specs.Parts.{value_of}

-- A number of more than 16 bits is no INT.
abbrev pub number : ℕ → ℤ → Verdict Meant
number at n = if in_range n then gives (Value at Int (value.Number n)) else breaks (at, WrongType)

-- A text of more than 16,000 bytes is no TEXT.
abbrev pub text : ℕ → List ℕ → Verdict Meant
text at x = if nat_le (length x) TEXT_BYTES then gives (Value at Text (value.Text x)) else breaks (at, WrongType)

-- What stands behind a name of a LET is as if it were written there.
abbrev pub denoter : ℕ → Denoter → Verdict Meant
denoter at (denoters.Number n) = number at n
denoter at (denoters.Truth b) = gives (Value at Truths (value.Truth b))
denoter at (denoters.Text x) = text at x

-- A variable in brackets is a value. What delivers nothing does in brackets what it does without.
abbrev pub bracketed : ℕ → Meant → Meant
bracketed at (Variable p t x) = Value at t (value.Load x (shape_in t))
bracketed at (Value p t v) = Value at t v
bracketed at m = m

-- CONCR of a type that this level declares: the same place or value, as of its concrete type. It knows none of another level's
abbrev pub concr_as : {A : Type 0} → ℕ → Bool → Option ElanType → (ElanType → A) → Verdict A
concr_as at own (Some t) go = if own then gives (go t) else breaks (at, WrongPlace)
concr_as at own None go = breaks (at, WrongType)

abbrev pub concr : ℕ → Scope → Meant → Verdict Meant
concr at s (Variable p t x) = concr_as at (is_own_from s.types_before t) (concrete t) (λ u. Variable at u x)
concr at s (Value p t v) = concr_as at (is_own_from s.types_before t) (concrete t) (λ u. Value at u v)
concr at s m = breaks (at, WrongType)

-- ---- items of rows and fields of structures

abbrev pub items_of : ℕ × ElanType → Items
items_of r = record { count = r.0; cells = cells r.1 }

-- what is made of the size of a row and the type of its items, where it is one
abbrev pub item_as : ℕ → Option (ℕ × ElanType) → (ℕ × ElanType → Meant) → Verdict Meant
item_as at (Some r) go = gives (go r)
item_as at None go = breaks (at, WrongType)

abbrev pub item : ℕ → Meant → ValuePhrase → Verdict Meant
item at (Variable p t x) i = item_as at (items t) (λ r. Variable at r.1 (place.Item x i (items_of r)))
item at (Value p t v) i = item_as at (items t) (λ r. Value at r.1 (value.Pick v i (items_of r) (shape_in r.1)))
item at m i = breaks (at, WrongType)

-- An index is a number.
abbrev pub indexed : ℕ → Meant → Meant → Verdict Meant
indexed at m i = if delivers Int i then item at m (value_of i) else breaks (at, WrongType)

abbrev pub part_of : ElanType → ℕ × ElanType → Part
part_of t f = record { of = cells t; before = f.0; cells = cells f.1 }

-- what is made of the number of cells before a field, and its type. A field that is not there is unknown
abbrev pub field_as : ℕ → Option (ℕ × ElanType) → (ℕ × ElanType → Meant) → Verdict Meant
field_as at (Some f) go = gives (go f)
field_as at None go = breaks (at, Unknown)

abbrev pub field_part : ℕ → List ℕ → Meant → Verdict Meant
field_part at x (Variable p t y) = field_as at (field t x) (λ f. Variable at f.1 (place.Field y f.0))
field_part at x (Value p t v) = field_as at (field t x) (λ f. Value at f.1 (value.Take v (part_of t f) (shape_in f.1)))
field_part at x m = breaks (at, WrongType)

-- ---- CAND and COR

-- the truth value that is made of two
abbrev pub of_truths : ℕ → Meant → Meant → ValuePhrase → Verdict Meant
of_truths at l r v = if delivers Truths l && delivers Truths r then gives (Value at Truths v) else breaks (at, WrongType)

-- The right side is the value only where it decides.
abbrev pub cand : ℕ → Meant → Meant → Verdict Meant
cand at l r = of_truths at l r (value.If (value_of l) (value_of r) (value.Truth false))

abbrev pub cor : ℕ → Meant → Meant → Verdict Meant
cor at l r = of_truths at l r (value.If (value_of l) (value.Truth true) (value_of r))
