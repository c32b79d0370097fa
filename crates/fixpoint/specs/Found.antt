-- What was found in a slot.
use Rattle.std.specs.Prelude.{◌≡◌, ◌+◌, ℕ, true, false}
use Rattle.edge.specs.Disk.{Blocks}
use Rattle.fixpoint.specs.declared.recover.Found.{Found}
use Rattle.fixpoint.specs.declared.recover.Found.TheVariants.{Closed, Headless, Headed}
use Rattle.fixpoint.specs.Slots.{is_open, IsHead}

abbrev pub IsFound : Blocks → ℕ → Found → Type 0
IsFound content slot Closed = is_open content slot ≡ false
IsFound content slot Headless = (is_open content slot ≡ true) × ((sequence root : ℕ) → ¬ (IsHead (content (2 + slot)) sequence root))
IsFound content slot (Headed head) = (is_open content slot ≡ true) × IsHead (content (2 + slot)) head.sequence head.root
