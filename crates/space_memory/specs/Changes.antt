-- Which spaces of a memory a call leaves as they were.
use Rattle.std.specs.Prelude.{◌≡◌, ◌≤◌, ℕ, true, false, ◌∷◌, length, refl}
use Rattle.std.proofs.Common.{◌∙◌, arith}
use Rattle.std.proofs.lemmas.List.{length-append}
use Rattle.eu_base.specs.declared.address.Area.{Area}
use Rattle.eu_base.specs.Cells.{same_area}
use Rattle.space_memory.specs.Below.page_table.specs.Entries.{Names}
use Rattle.data_space.specs.Data.{SpaceData}
use Rattle.space_memory.specs.Below.page_table.specs.Frames.{Over as Pages, Knows, Frames}
use Rattle.space_memory.specs.Below.page_table.proofs.Framing.{frames_none}
use Rattle.space_memory.specs.Below.page_table.proofs.Moving.{homes_then}
use Rattle.space_memory.specs.Kept.{KeepsBytes, IsOfKind}
use Rattle.space_memory.specs.Live.{the_space, without, space_roots}
use Rattle.space_memory.specs.Memories.{MemoryData, MemoryFrames, KeepsSpace, changed, is_there, most_roots, memory_heads, roots, space_in}

-- only bytes of the space of the command that runs change
pub record OnlyRun (old new : Pages) (was now : MemoryData) : Type 0 where
  pub memory : now ≡ record was { run = now.run }
  pub kind : IsOfKind was.run now.run
  pub keeps : KeepsBytes old new (was.packets.root ∷ space_roots was.spaces)

-- only bytes of the space of the packets change
pub record OnlyPackets (old new : Pages) (was now : MemoryData) : Type 0 where
  pub memory : now ≡ record was { packets = now.packets }
  pub kind : IsOfKind was.packets now.packets
  pub keeps : KeepsBytes old new (was.run.root ∷ space_roots was.spaces)

-- only bytes of the data space under a number change
pub record OnlySpace (s : ℕ) (old new : Pages) (was now : MemoryData) : Type 0 where
  pub memory : now ≡ changed s (the_space s now.spaces) was
  pub kind : IsOfKind (the_space s was.spaces) (the_space s now.spaces)
  pub keeps : KeepsBytes old new (was.run.root ∷ was.packets.root ∷ space_roots (without s was.spaces))

-- the same areas are there, and of all bytes those of the space of one area alone change
pub record LeavesOthers (area : Area) (old new : Pages) (was now : MemoryData) : Type 0 where
  pub knows : Knows old → Knows new
  pub there : (b : Area) → is_there b now ≡ is_there b was
  pub others : (b : Area) → same_area b area ≡ false → is_there b was ≡ true → KeepsSpace old new (space_in b was) (space_in b now)

-- and there are the same data spaces, with their numbers, names, types and shapes
pub record OnlyIn (area : Area) (old new : Pages) (was now : MemoryData) : Type 0 where
  pub heads : memory_heads now ≡ memory_heads was
  pub run_kind : IsOfKind was.run now.run
  pub packets_kind : IsOfKind was.packets now.packets
  pub long : length (roots now) ≡ length (roots was)
  pub leaves : LeavesOthers area old new was now

-- one call after the other, and none
pub frames_before : (old new : Pages) (before after : Names) → length after ≤ most_roots → Frames old new before after → MemoryFrames old new before after
frames_before old new before after few f = record {
  tell = f.tell;
  knows = f.knows;
  homes = f.homes;
  frame = λ rest agree room. f.frame rest agree (omega (arith, few, room, length-append after rest));
}

pub memory_frames_none : (pages : Pages) (names : Names) → MemoryFrames pages pages names names
memory_frames_none pages names = record {
  tell = refl;
  knows = λ k. k;
  homes = (frames_none pages names).homes;
  frame = λ rest agree room. record { agrees = agree; same = λ root among n. refl };
}

pub memory_frames_then : (p0 p1 p2 : Pages) (a b c : Names) → MemoryFrames p0 p1 a b → MemoryFrames p1 p2 b c → MemoryFrames p0 p2 a c
memory_frames_then p0 p1 p2 a b c f g = record {
  tell = g.tell ∙ f.tell;
  knows = λ k. g.knows (f.knows k);
  homes = homes_then f.homes g.homes;
  frame = λ rest agree room.
      let first = f.frame rest agree room in
      let second = g.frame rest first.agrees room in
      record { agrees = second.agrees; same = λ root among n. second.same root among n ∙ first.same root among n };
}

pub kind_none : (space : SpaceData) → IsOfKind space space
kind_none space = record { kind = refl; shape = refl }

pub kind_then : (a b c : SpaceData) → IsOfKind a b → IsOfKind b c → IsOfKind a c
kind_then a b c f g = record { kind = g.kind ∙ f.kind; shape = g.shape ∙ f.shape }
