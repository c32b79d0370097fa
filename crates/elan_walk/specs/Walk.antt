-- What whoever looks at the nodes of a tree has become behind the last one.
use Rattle.std.specs.Prelude.{◌≡◌, Bool, false, List, [], ◌∷◌}
use Rattle.elan_walk.specs.Nodes.{Node}

abbrev pub went : {S : Type 0} → (S → Node → S) → S → List Node → S
went after s [] = s
went after s (n ∷ ns) = went after (after s n) ns

-- Whoever looks has seen these nodes. Want of memory is noted, and nothing is known then.
abbrev pub Seen : {S : Type 0} → (S → Bool) → (S → Node → S) → List Node → S → S → Type 0
Seen wanted after ns old new = wanted new ≡ false → (wanted old ≡ false) × (new ≡ went after old ns)
