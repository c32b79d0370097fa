-- Data spaces under numbers and names, as values and without their values, and what changes there can be.
use Rattle.std.specs.Prelude.{ℕ, ◌+◌, Bool, is_some, nat_eq, ℤ, pos, List, [], ◌∷◌, ◌++◌, map, Option, Some, None}
use Rattle.std.specs.Option.{unwrap_or, IsSome}
use Rattle.std.specs.Map.{lookup, remove_entry, set_value}
use Rattle.task_numbers.specs.Directory as directory
use Rattle.eu_base.specs.declared.value.Value.{Value}
use Rattle.eu_base.specs.declared.shape.Shape.{Shape}
use Rattle.eu_base.specs.Shapes.{cell_kinds}
use Rattle.eu_base.specs.Values.{SpaceNo, blank_of}

-- a data space: its type number, the shape of what stands in it, where something does, and the values of the cells of that
pub record Space : Type 0 where
  pub kind : ℤ
  pub shape : Option Shape
  pub values : List Value

-- what is said of one without its values
pub record Head : Type 0 where
  pub kind : ℤ
  pub shape : Option Shape

abbrev pub head_of : Space → Head
head_of space = record { kind = space.kind; shape = space.shape }

-- what lives under numbers, of which none is given twice; the last number that was given; and a directory of names for what lives
pub record Numbered (T : Type 0) : Type 0 where
  pub live : List (ℕ × T)
  pub last : ℕ
  pub names : List (List ℕ × SpaceNo)

abbrev pub Spaces : Type 0
Spaces = Numbered Space

abbrev pub Heads : Type 0
Heads = Numbered Head

-- the same numbers with what is said of what lives under them
abbrev pub heads_in : {T : Type 0} → (T → Head) → List (ℕ × T) → List (ℕ × Head)
heads_in head [] = []
heads_in head (e ∷ live) = (e.0, head e.1) ∷ heads_in head live

-- data spaces without their values
abbrev pub heads_of : Spaces → Heads
heads_of spaces = record { live = heads_in head_of spaces.live; last = spaces.last; names = spaces.names }

-- none at all
abbrev pub no_spaces : Spaces
no_spaces = record { live = []; last = 0; names = [] }

-- so many can live, and so far numbers go
abbrev pub most_live : ℕ
most_live = 16

abbrev pub last_number : ℕ
last_number = 4294967295

-- an empty space
abbrev pub no_space : Space
no_space = record { kind = pos 0; shape = None; values = [] }

abbrev pub no_head : Head
no_head = record { kind = pos 0; shape = None }

-- ---- what lives

-- what lives under a number, if it does
abbrev pub living : {T : Type 0} → SpaceNo → Numbered T → Option T
living s spaces = lookup (nat_eq s.0) spaces.live

abbrev pub is_live : {T : Type 0} → SpaceNo → Numbered T → Bool
is_live s spaces = is_some (living s spaces)

abbrev pub IsLive : {T : Type 0} → SpaceNo → Numbered T → Type 0
IsLive s spaces = IsSome (living s spaces)

abbrev pub the_space : SpaceNo → Spaces → Space
the_space s spaces = unwrap_or (living s spaces) no_space

abbrev pub the_head : SpaceNo → Heads → Head
the_head s heads = unwrap_or (living s heads) no_head

abbrev pub next_number : {T : Type 0} → Numbered T → SpaceNo
next_number spaces = record { 0 = spaces.last + 1 }

-- what a new one is equal to: an empty one, or the one under a number
abbrev pub space_from : Option SpaceNo → Spaces → Space
space_from None spaces = no_space
space_from (Some s) spaces = the_space s spaces

abbrev pub head_from : Option SpaceNo → Heads → Head
head_from None heads = no_head
head_from (Some s) heads = the_head s heads

-- ---- one comes, changes or goes

-- with one more, under the next number
abbrev pub with_new : {T : Type 0} → T → Numbered T → Numbered T
with_new new spaces = record spaces { live = spaces.live ++ (spaces.last + 1, new) ∷ []; last = spaces.last + 1 }

-- with another in the place of the one under a number
abbrev pub with_other : {T : Type 0} → SpaceNo → T → Numbered T → Numbered T
with_other s other spaces = record spaces { live = set_value (nat_eq s.0) spaces.live other }

-- without the one under a number, and without its names
abbrev pub without_space : {T : Type 0} → SpaceNo → Numbered T → Numbered T
without_space s spaces = record spaces { live = remove_entry (nat_eq s.0) spaces.live; names = directory.without_space s.0 spaces.names }

-- with a name that was free, which stands last
abbrev pub with_name : {T : Type 0} → List ℕ → SpaceNo → Numbered T → Numbered T
with_name name s spaces = record spaces { names = directory.put name s spaces.names }

abbrev pub without_name : {T : Type 0} → List ℕ → Numbered T → Numbered T
without_name name spaces = record spaces { names = directory.without name spaces.names }

-- the one that stands under a name
abbrev pub under : {T : Type 0} → List ℕ → Numbered T → Option SpaceNo
under name spaces = directory.get name spaces.names

-- what stands in a space that gets a shape: the values of its cells before anything was stored
abbrev pub shaped : Shape → Space → Space
shaped shape space = record { kind = space.kind; shape = Some shape; values = map blank_of (cell_kinds shape) }

-- ---- changes

-- a space more, an empty one or a copy of the one under a number; one more that another task had; a space less; another type number; a shape, for
-- a space that has none; a name more, and a name less
pub data SpaceChange : Type 0 where
  Makes : Option SpaceNo → SpaceChange
  Gets : Space → SpaceChange
  Forgets : SpaceNo → SpaceChange
  SetsKind : SpaceNo → ℤ → SpaceChange
  Fills : SpaceNo → Shape → SpaceChange
  Names : List ℕ → SpaceNo → SpaceChange
  Unnames : List ℕ → SpaceChange

-- the spaces after a change
abbrev pub spaces_by : SpaceChange → Spaces → Spaces
spaces_by (Makes from) spaces = with_new (space_from from spaces) spaces
spaces_by (Gets content) spaces = with_new content spaces
spaces_by (Forgets s) spaces = without_space s spaces
spaces_by (SetsKind s z) spaces = with_other s (record (the_space s spaces) { kind = z }) spaces
spaces_by (Fills s shape) spaces = with_other s (shaped shape (the_space s spaces)) spaces
spaces_by (Names name s) spaces = with_name name s spaces
spaces_by (Unnames name) spaces = without_name name spaces

-- and what is said of them without their values
abbrev pub heads_by : SpaceChange → Heads → Heads
heads_by (Makes from) heads = with_new (head_from from heads) heads
heads_by (Gets content) heads = with_new (head_of content) heads
heads_by (Forgets s) heads = without_space s heads
heads_by (SetsKind s z) heads = with_other s (record (the_head s heads) { kind = z }) heads
heads_by (Fills s shape) heads = with_other s (record (the_head s heads) { shape = Some shape }) heads
heads_by (Names name s) heads = with_name name s heads
heads_by (Unnames name) heads = without_name name heads

-- after one change behind the other
abbrev pub spaces_after : List SpaceChange → Spaces → Spaces
spaces_after [] spaces = spaces
spaces_after (change ∷ changes) spaces = spaces_after changes (spaces_by change spaces)

abbrev pub heads_after : List SpaceChange → Heads → Heads
heads_after [] heads = heads
heads_after (change ∷ changes) heads = heads_after changes (heads_by change heads)
