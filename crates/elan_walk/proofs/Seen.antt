-- A walk finds in the nodes of a list what is found in each.
use Rattle.std.proofs.Common.{◌≡◌, List, [], ◌∷◌, sym, ap, ◌∙◌, append_assoc}
use Rattle.std.specs.Prelude.{flat_map}
use Rattle.std.proofs.lemmas.List.{append-nil}
use Rattle.elan_walk.specs.Nodes.{Node}
use Rattle.elan_walk.specs.Walk.{went}
use Rattle.elan_walk.specs.declared.definition.Definition.{Definition}
use Rattle.elan_walk.specs.declared.definition.Definitions.{Definitions}
use Rattle.elan_walk.specs.walks.Seen.{with_definitions}
use Rattle.elan_walk.specs.Definitions.{defined_by}

pub definitions : (s : Definitions) (ns : List Node)
    → went (λ (s : Definitions) n. with_definitions s (defined_by n)) s ns ≡ with_definitions s (flat_map defined_by ns)
definitions s [] = sym (ap (λ (ds : List Definition). record { alloc = s.alloc; list = ds; wanted = s.wanted }) (append-nil s.list))
definitions s (n ∷ ns) =
    definitions (with_definitions s (defined_by n)) ns
    ∙ ap (λ (ds : List Definition). record { alloc = s.alloc; list = ds; wanted = s.wanted }) (append_assoc s.list (defined_by n) (flat_map defined_by ns))
