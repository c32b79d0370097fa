-- A new memory over a pool, and one that was emptied.
use Rattle.std.proofs.Common.{◌≡◌, ℕ, ◌%◌, [], ◌∷◌, None, get_or, replicate, inl, inr, List, true, true≢false, refl, sym, ap, ◌∙◌, subst, arith}
use Rattle.std.specs.Option.{is_some}
use Rattle.std.proofs.lemmas.Bool.{cases_lt}
use Rattle.std.proofs.lemmas.List.{get_or-replicate, get_or_past, length-replicate}
use Rattle.space_memory.specs.Below.page_table.specs.Frames.{Over as Pages, Knows, content_at, Stands}
use Rattle.space_memory.specs.Below.page_table.proofs.Framing.{nil_agree, stands_of}
use Rattle.eu_base.specs.declared.address.Area.{Area}
use Rattle.eu_base.specs.declared.address.Area.TheVariants.{Run, Packets, Space}
use Rattle.eu_base.specs.Cells.{Free}
use Rattle.text_heap.specs.Held.{HoldsCells}
use Rattle.text_heap.proofs.Kept.{zeros_held}
use Rattle.space_memory.specs.Memories.{MemoryData, HoldsAll, new_memory, roots, is_there, bytes_in}
use Rattle.data_space.specs.Data.{SpaceData}
use Rattle.space_memory.specs.Live.{no_space, space_at}

pub new_stands : Stands (record { slots = []; clean = [] }) (roots new_memory) 0
new_stands = stands_of (record { slots = []; clean = [] }) (None ∷ None ∷ []) [] 0 (omega arith) ∣ nil_agree (None ∷ None ∷ []) (λ p. omega arith) (omega arith) ∣₁

-- a space without pages is one of zeros
zeros : (n i : ℕ) → let zero_byte : ℕ = 0 in get_or (replicate n zero_byte) i zero_byte ≡ zero_byte
zeros n i = elim (cases_lt i n) [
  | inl low ↦ get_or-replicate n i 0 0 low
  | inr past ↦ get_or_past (replicate n 0) i 0 (simp length-replicate past)
]

pub nothing_held : (area : Area) (pages : Pages) → HoldsCells area (content_at pages None) (λ _. Free)
nothing_held area pages = zeros_held area (content_at pages None) (λ n. zeros 512 (n % 512))

-- of a memory without bytes and spaces nothing need be known
pub new_held : (pages : Pages) (memory : MemoryData) → memory.run ≡ no_space → memory.packets ≡ no_space → memory.spaces ≡ [] → Knows pages
    → HoldsAll pages memory (λ _. Free)
new_held pages memory run packets spaces known = record { knows = known; there = there; gone = λ area not k. refl }
  where
    there : (area : Area) → is_there area memory ≡ true → HoldsCells area (bytes_in area pages memory) (λ _. Free)
    there Run is = subst (λ (s : SpaceData). HoldsCells Run (content_at pages s.root) (λ _. Free)) (sym run) (nothing_held Run pages)
    there Packets is = subst (λ (s : SpaceData). HoldsCells Packets (content_at pages s.root) (λ _. Free)) (sym packets) (nothing_held Packets pages)
    there (Space s) is =
        absurd (true≢false (sym is ∙ ap (λ (es : List (ℕ × SpaceData)). is_some (space_at s.0 es)) spaces))
