-- A directory: pairs of a name and the number of a space, in order of entry. No two names are alike.
use Rattle.std.specs.Prelude.{ℕ, List, [], ◌∷◌, ◌++◌, bytes_eq, Option, nat_eq, not}
use Rattle.std.specs.List.{filter}
use Rattle.std.specs.Map.{lookup, remove_entry}
use Rattle.task_numbers.specs.declared.number.SpaceNo.{SpaceNo}

-- the space under a name, or none
abbrev pub get : List ℕ → List (List ℕ × SpaceNo) → Option SpaceNo
get name d = lookup (λ other. bytes_eq name other) d

-- a name that is free comes last
abbrev pub put : List ℕ → SpaceNo → List (List ℕ × SpaceNo) → List (List ℕ × SpaceNo)
put name s d = d ++ (name, s) ∷ []

-- without the entry of a name; the others keep their order
abbrev pub without : List ℕ → List (List ℕ × SpaceNo) → List (List ℕ × SpaceNo)
without name d = remove_entry (λ other. bytes_eq name other) d

-- without the entries that lead to the space with a number; the others keep their order
abbrev pub without_space : ℕ → List (List ℕ × SpaceNo) → List (List ℕ × SpaceNo)
without_space n d = filter (λ e. not (nat_eq n e.1.0)) d
