-- A walk finds in the nodes of a list what is found in each.
use Rattle.std.proofs.Common.{◌≡◌, ℕ, List, [], ◌∷◌, sym, ap, ◌∙◌, append_assoc}
use Rattle.std.specs.Prelude.{flat_map}
use Rattle.std.proofs.lemmas.List.{append-nil}
use Rattle.elan_walk.specs.Nodes.{Node}
use Rattle.elan_walk.specs.Walk.{went}
use Rattle.elan_names.specs.declared.entry.Entry.{Entry}
use Rattle.type_names.specs.declared.declare.Names.{Names}
use Rattle.type_names.specs.declared.uses.Called.{Called}
use Rattle.type_names.specs.walks.LevelSeen.{visible, with_entries, with_numbers}
use Rattle.type_names.specs.Declarations.{declared}
use Rattle.type_names.specs.walks.Uses.{called, all_called}

abbrev with_all : Names → List Entry → Names
with_all s es = record { alloc = s.alloc; here = s.here; around = s.around; entries = es; wanted = s.wanted }

pub declarations : (s : Names) (ns : List Node)
    → went (λ (s : Names) n. with_entries s (declared (visible s) n)) s ns ≡ with_entries s (flat_map (declared (visible s)) ns)
declarations s [] = sym (ap (with_all s) (append-nil s.entries))
declarations s (n ∷ ns) =
    declarations (with_entries s (declared (visible s) n)) ns
    ∙ ap (with_all s) (append_assoc s.entries (declared (visible s) n) (flat_map (declared (visible s)) ns))

pub calls : (s : Called) (ns : List Node) → went (λ (s : Called) n. with_numbers s (called s.scope.now n)) s ns ≡ with_numbers s (all_called s.scope.now ns)
calls s [] = sym (ap (λ (es : List ℕ). record { scope = s.scope; numbers = es; wanted = s.wanted }) (append-nil s.numbers))
calls s (n ∷ ns) =
    calls (with_numbers s (called s.scope.now n)) ns
    ∙ ap (λ (es : List ℕ). record { scope = s.scope; numbers = es; wanted = s.wanted }) (append_assoc s.numbers (called s.scope.now n) (all_called s.scope.now ns))
