-- What a memory keeps of variables and data spaces when the cells of the command are cleared.
use Rattle.std.proofs.Common.{◌≡◌, ℕ, ◌≤◌, true, false, List, [], map, ◌++◌, length, arith, refl, sym, subst, true≢false}
use Rattle.eu_base.specs.Values.{SpaceNo}
use Rattle.eu_base.specs.declared.value.Kind.{Kind}
use Rattle.eu_base.specs.declared.address.Area.{Area}
use Rattle.eu_base.specs.declared.address.Area.TheVariants.{Run, Packets, Space}
use Rattle.eu_base.specs.Spaces.{Content, IsKept}
use Rattle.eu_base.specs.Room.{cells_fit}
use Rattle.eu_base.specs.Cells.{Cell, Free, Cells, area_cell, space_cell}
use Rattle.eu_base.specs.DataSpaces.{Heads, Spaces, heads_of, no_spaces, last_number}
use Rattle.eu_base.specs.SpacePlaces.{kinds_of, values_of}
use Rattle.page_pool.specs.Pool.{Pages}
use Rattle.task_job.specs.Below.text_heap.specs.Held.{HoldsCells}
use Rattle.task_job.specs.Below.text_heap.proofs.Kept.{kept_held, moved_held}
use Rattle.space_memory.specs.Live.{no_space, the_space}
use Rattle.space_memory.specs.Memories.{MemoryData, roots, is_there, memory_heads}
use Rattle.task_job.specs.Here.{content_at, KeepsBytes, HoldsAll, bytes_in}
use Rattle.space_memory.proofs.Areas.{root_among}
use Rattle.task_job.specs.Below.zero_state.specs.Stepping.{mem_of}
use Rattle.task_job.specs.Below.place_gen.specs.Correct.{HasSpaces}
use Rattle.elan_types.specs.Eval.{Slot, Holds}
use Rattle.system_meaning.specs.Stores.{Store}
use Rattle.task_job.specs.Standing.{KeepsSpaces, HasBehind, Keeps, Left, Leaves}
use Rattle.task_job.proofs.Beginning.{no_variables, same_variables}

-- what is known where nothing is of the cells of a command
abbrev known_in : Area → Cell → Cell
known_in Run x = Free
known_in Packets x = x
known_in (Space s) x = x

abbrev pub idle : Cells → Cells
idle cells = λ a. known_in a.area (cells a)

-- of the cells of other areas the same is known
still_known : (area : Area) (content : Content) (cells : Cells) → ((c : ℕ) → idle cells (area_cell area c) ≡ cells (area_cell area c))
    → HoldsCells area content cells → HoldsCells area content (idle cells)
still_known area content cells same h = moved_held area area content cells (idle cells) same h

pub idle_behind : (kinds inserted : List Kind) (slots : List Slot) (cells : Cells) → HasBehind kinds inserted slots cells
    → HasBehind kinds inserted slots (idle cells)
idle_behind kinds inserted slots cells h = record {
  all = same_variables Packets (kinds ++ inserted) slots cells (idle cells) (λ x. refl) h.all;
  front = h.front;
  bare = h.bare;
}

pub idle_spaces : (spaces : Spaces) (heads : Heads) (cells : Cells) → HasSpaces spaces (mem_of heads cells) → HasSpaces spaces (mem_of heads (idle cells))
idle_spaces spaces heads cells h = record {
  heads = h.heads;
  sound = h.sound;
  given = h.given;
  each = λ s. same_variables (Space s) (kinds_of s (heads_of spaces)) (map Holds (values_of s spaces)) cells (idle cells) (λ x. refl) (h.each s);
}

-- the space of the command is empty, and all others keep their bytes
module _ (old new : Pages) (m : MemoryData) where
  abbrev rest : MemoryData
  rest = record m { run = no_space }

  module _ (nothing : HoldsCells Run (content_at new no_space.root) (λ _. Free)) (k : KeepsBytes old new (roots rest)) (cells : Cells) (h : HoldsAll old m cells) where
    known : (area : Area) → is_there area rest ≡ true → HoldsCells area (bytes_in area new rest) (idle cells)
    known Run is = moved_held Run Run (content_at new no_space.root) (λ _. Free) (idle cells) (λ c. refl) nothing
    known Packets is =
        still_known Packets (content_at new m.packets.root) cells (λ c. refl)
        (kept_held Packets (content_at old m.packets.root) (content_at new m.packets.root) cells k.each.1.0 (h.there Packets refl))
    known (Space s) is =
        still_known (Space s) (content_at new (the_space s.0 m.spaces).root) cells (λ c. refl)
        (kept_held (Space s) (content_at old (the_space s.0 m.spaces).root) (content_at new (the_space s.0 m.spaces).root) cells
        (root_among (λ root. IsKept (content_at old root) (content_at new root)) s.0 m.spaces is k.each.1.1) (h.there (Space s) is))

    gone : (area : Area) → is_there area rest ≡ false → (x : ℕ) → idle cells (area_cell area x) ≡ Free
    gone Run not x = refl
    gone Packets not x = absurd (true≢false not)
    gone (Space s) not x = h.gone (Space s) not x

    rest_holds : HoldsAll new rest (idle cells)
    rest_holds = record { knows = k.knows h.knows; there = known; gone = gone }

module _ (old new : Pages) (m n : MemoryData) (is : n ≡ record m { run = no_space }) (nothing : HoldsCells Run (content_at new n.run.root) (λ _. Free))
    (k : KeepsBytes old new (roots n)) where
  cleared_cells : (cells : Cells) → HoldsAll old m cells → HoldsAll new n (idle cells)
  cleared_cells cells h =
      subst (λ (u : MemoryData). HoldsAll new u (idle cells)) (sym is)
      (rest_holds old new m (subst (λ (u : MemoryData). HoldsCells Run (content_at new u.run.root) (λ _. Free)) is nothing)
      (subst (λ (u : MemoryData). KeepsBytes old new (roots u)) is k) cells h)

  cleared_spaces : (spaces : Spaces) (cells : Cells) → KeepsSpaces m spaces cells → KeepsSpaces n spaces (idle cells)
  cleared_spaces spaces cells h =
      subst (λ (u : MemoryData). KeepsSpaces u spaces (idle cells)) (sym is) (idle_spaces spaces (memory_heads m) cells h)

  -- what a command leaves, once its cells are cleared
  pub cleared : (kinds inserted : List Kind) (store : Store) → Left kinds inserted old m store → Leaves kinds inserted new n store
  cleared kinds inserted store h = record {
    left =
        record {
          fits = h.fits;
          cells = idle h.cells;
          holds = cleared_cells h.cells h.holds;
          variables = idle_behind kinds inserted store.variables h.cells h.variables;
          spaces = cleared_spaces store.spaces h.cells h.spaces;
        };
    command = λ x. refl;
  }

-- the variables of a packet that was inserted are those of a packet of the task, as its others; and where none was inserted there are none
pub inserted_keeps : (kinds inserted : List Kind) (pages : Pages) (memory : MemoryData) (store : Store) → Leaves kinds inserted pages memory store
    → cells_fit (length (kinds ++ inserted)) ≡ true → Keeps (kinds ++ inserted) pages memory store
inserted_keeps kinds inserted pages memory store h fits = record {
  fits = fits;
  cells = h.left.cells;
  holds = h.left.holds;
  packets = h.left.variables.all;
  spaces = h.left.spaces;
  command = h.command;
}

-- where no data space lives, nothing is known of a cell of one
pub none_live : (last : ℕ) (cells : Cells) → last ≤ last_number → ((s : SpaceNo) (x : ℕ) → cells (space_cell s x) ≡ Free)
    → HasSpaces (record no_spaces { last = last }) (mem_of (record { live = []; last = last; names = [] }) cells)
none_live last cells few free = record {
  heads = refl;
  sound = record { each = tt; given = few; named = tt };
  given = record { rise = omega arith; fit = tt };
  each = λ s. no_variables (Space s) cells (free s);
}
