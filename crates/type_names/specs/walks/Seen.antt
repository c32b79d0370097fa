-- What was found on a walk, and more behind it. No definition of meaning needs these.
use Rattle.std.specs.Prelude.{◌≡◌, ℕ, true, false, List, ◌++◌, Option, Some, None, Result, Ok, Err, IfOk}
use Rattle.elan_tree.specs.declared.tree.Refinement.{Refinement}
use Rattle.elan_scope.specs.Ruled.{Fault}
use Rattle.elan_names.specs.declared.type_name.TypeName.{TypeName}
use Rattle.elan_walk.specs.Nodes.{Node}
use Rattle.type_names.specs.Types.{names_of}
use Rattle.type_names.specs.Faults.{Here, calls, first_fault, node_faults}
use Rattle.elan_walk.specs.declared.definition.Definition.{Definition}
use Rattle.type_names.specs.declared.scope_types.ScopeTypes.{ScopeTypes}
use Rattle.type_names.specs.declared.fault.InLevel.{InLevel}
use Rattle.type_names.specs.declared.search.Search.{Search}
use Rattle.type_names.specs.declared.visible.Visible.{Visible}

abbrev pub names_seen : Visible → List TypeName
names_seen v = v.own.now ++ v.around.now

-- what is known of types in a scope where these are declared around, and these are the refinements of the level
abbrev pub plainly : ScopeTypes → List TypeName → List Refinement → Here
plainly types around rs = record { seen = types.names ++ around; definitions = types.definitions; calls = types.calls; refinements = rs }

-- These definitions stand in the scope.
abbrev pub AreOf : ℕ → List TypeName → List Definition → ScopeTypes → Type 0
AreOf first around ds types = (types.names ≡ names_of first around ds) × (types.definitions ≡ ds) × (types.calls ≡ calls ds)

-- what is known of types in a level
abbrev pub known_in : InLevel → Here
known_in level = plainly level.types.now level.around.names.now level.refined.now

-- These definitions stand in the level, and what is said to be seen there is seen.
abbrev pub Knows : List Definition → InLevel → Type 0
Knows ds level =
    AreOf level.around.first level.around.names.now ds level.types.now
    × (level.seen.now ≡ names_of level.around.first level.around.names.now ds ++ level.around.names.now)

-- the fault that was found first
abbrev pub earlier : Option Fault → Option Fault → Option Fault
earlier (Some f) other = Some f
earlier None other = other

abbrev pub here_of : Search → Here
here_of s = plainly s.here.now s.around.now s.refinements.now

abbrev pub with_fault : Search → Option Fault → Search
with_fault s f =
    record { alloc = s.alloc; here = s.here; around = s.around; refinements = s.refinements; first = earlier s.first f; wanted = s.wanted }

abbrev pub searched : Search → Node → Search
searched s n = with_fault s (first_fault (node_faults (here_of s) n))

-- What was found is noted, or that memory was wanted.
abbrev pub Notes : {E : Type 0} → Search → Result (Option Fault) E → Search → Type 0
Notes old (Ok f) new = new.wanted ≡ false → (old.wanted ≡ false) × (new ≡ with_fault old f)
Notes old (Err e) new = new.wanted ≡ true

-- It is the first of these.
abbrev pub Finds : {E : Type 0} → List Fault → Result (Option Fault) E → Type 0
Finds fs found = IfOk found (λ f. f ≡ first_fault fs)
