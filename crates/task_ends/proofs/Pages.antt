-- The pages of a father and of a son, whose cells may be freed or let go.
use Rattle.std.proofs.Common.{◌≡◌, ℕ, ◌+◌, ◌≤◌, [], ◌∷◌, ◌++◌, length, Option, refl, sym, ap, ◌∙◌, subst, arith, append-nil}
use Rattle.std.specs.Prelude.{Result, Ok, Err, OnErr}
use Rattle.std.specs.List.{AllByRecursion}
use Rattle.std.specs.Option.{ForSome}
use Rattle.std.proofs.Math.Logic.{∥∥₁_map}
use Rattle.std.proofs.lemmas.List.{length-append, append_assoc}
use Rattle.eu_base.specs.Spaces.{IsKept}
use Rattle.page_pool.specs.Pool.{Pages}
use Rattle.task_ends.specs.Below.page_table.specs.Entries.{Names}
use Rattle.task_ends.specs.Below.page_table.specs.Frames.{Stands}
use Rattle.task_ends.specs.Below.page_table.specs.Sharing.{occ, Agree, most_spaces}
use Rattle.task_ends.specs.Below.page_table.proofs.Counting.{occ-append}
use Rattle.task_ends.specs.Below.page_table.proofs.Moving.{equal, homes_then}
use Rattle.task_ends.specs.Below.page_table.proofs.Framing.{Same, reorder, stands_same, stands_first}
use Rattle.task_ends.specs.Below.space_memory.proofs.Roots.{all_named}
use Rattle.task_ends.specs.Below.space_memory.specs.Memories.{MemoryData, StandsWhole, most_roots, heir, roots}
use Rattle.task_ends.specs.Below.task_job.specs.Here.{content_at, Frames, KeepsBytes, MemoryFrames}
use Rattle.task_ends.specs.Below.task_job.proofs.Here.{frames_none, stands_after, frames_before, memory_frames_then}
use Rattle.task_ends.specs.Below.space_memory.proofs.Framed.{whole_of}
use Rattle.task_ends.specs.Refused.{RoomFrames, Refused}

-- what holds whatever a call gave
pub on_err : {A E : Type 0} (result : Result A E) (P : Type 0) → P → OnErr result P
on_err (Ok x) P p = tt
on_err (Err e) P p = p

swapped : (a b : Names) → Same (a ++ b) (b ++ a)
swapped a b = record {
  long = omega (arith, length-append a b, length-append b a);
  occs = λ p. omega (arith, occ-append p a b, occ-append p b a);
}

-- the second comes first, before the first and all others
second_first : (a b rest : Names) → Same ((a ++ b) ++ rest) (b ++ (a ++ rest))
second_first a b rest = record {
  long = omega (arith, length-append (a ++ b) rest, length-append a b, length-append b (a ++ rest), length-append a rest);
  occs = λ p. omega (arith, occ-append p (a ++ b) rest, occ-append p a b, occ-append p b (a ++ rest), occ-append p a rest);
}

second_last : (a b rest : Names) → Same (b ++ (a ++ rest)) ((a ++ b) ++ rest)
second_last a b rest = let s = second_first a b rest in record { long = sym s.long; occs = λ p. sym (s.occs p) }

keeps_then : (p0 p1 p2 : Pages) (names : Names) → KeepsBytes p0 p1 names → KeepsBytes p1 p2 names → KeepsBytes p0 p2 names
keeps_then p0 p1 p2 names k l = record { knows = λ known. l.knows (k.knows known); each = by names k.each l.each }
  where
    by : (names : Names) → AllByRecursion (λ root. IsKept (content_at p0 root) (content_at p1 root)) names
        → AllByRecursion (λ root. IsKept (content_at p1 root) (content_at p2 root)) names → AllByRecursion (λ root. IsKept (content_at p0 root) (content_at p2 root)) names
    by [] k l = tt
    by (o ∷ os) k l = (λ n. l.0 n ∙ k.0 n, by os k.1 l.1)

-- the spaces beside those of a memory keep their bytes, where there is room for a whole memory in the place of these
pub memory_beside : (old new : Pages) (a b others : Names) (more : ℕ) → most_roots ≤ length a + more → MemoryFrames old new a b
    → Stands old (a ++ others) more → (root : Option ℕ) → ForSome root (λ r. 1 ≤ occ r others) → (n : ℕ) → content_at new root n ≡ content_at old root n
memory_beside old new a b others more room f stands root among n = equal _ _ stands.some (λ t.
    let e = append_assoc a others t.0 in
    let g = subst (Agree old) e t.1 in
    let fits : length (a ++ (others ++ t.0)) + more ≤ most_spaces = subst (λ (l : Names). length l + more ≤ most_spaces) e t.2 in
    (f.frame (others ++ t.0) g (omega (arith, room, fits, length-append a (others ++ t.0)))).same root
    (λ x is. omega (arith, occ-append x others t.0, among x is)) n)

pub memory_beside_keep : (old new : Pages) (a b others : Names) (more : ℕ) → most_roots ≤ length a + more → MemoryFrames old new a b
    → Stands old (a ++ others) more → KeepsBytes old new others
memory_beside_keep old new a b others more room f stands = record {
  knows = f.knows;
  each = all_named (λ root. IsKept (content_at old root) (content_at new root)) others (memory_beside old new a b others more room f stands);
}

pub refused_none : (pages : Pages) (mine : Names) (more : ℕ) → Refused pages pages mine more
refused_none pages mine more = record {
  knows = λ known. known;
  homes = (frames_none pages mine).homes;
  frame = λ rest agree room. record { agrees = agree; same = λ root among n. refl };
}

-- after a call there is room for a whole memory still
pub whole_then : (old new : Pages) (a b : Names) → length b ≤ most_roots → MemoryFrames old new a b → StandsWhole old a → StandsWhole new b
whole_then old new a b few f s = record {
  few = few;
  stands = record {
    some = ∥∥₁_map s.stands.some (λ t.
        let la = length-append a t.0 in
        let lb = length-append b t.0 in (
          t.0,
          (f.frame t.0 t.1 (omega (arith, la, t.2, s.few))).agrees,
          omega (arith, la, lb, t.2, s.few, few),
        ));
  };
}

-- room for a whole memory is room for a son
pub room_for_son : (pages : Pages) (mine : Names) → Stands pages mine 18 → Stands pages mine 2
room_for_son pages mine s = stands_after pages pages mine mine 18 2 (omega arith) (frames_none pages mine) s

module _ (p0 p1 : Pages) (mine son : MemoryData) (is : son ≡ heir mine) (made : Frames p0 p1 (roots mine) (roots mine ++ roots son)) where
  pub two : length (roots son) ≡ 2
  two = ap (λ (u : MemoryData). length (roots u)) is

  -- a son of an idle father is there
  pub made_frames : RoomFrames p0 p1 (roots mine) (roots mine ++ roots son) 18
  made_frames = record {
    knows = made.knows;
    homes = made.homes;
    frame = λ rest agree room.
        made.frame rest agree
        (omega (arith, room, two, length-append (roots mine ++ roots son) rest, length-append (roots mine) (roots son), length-append (roots mine) rest));
  }

  module _ (stand : Stands p0 (roots mine) 18) where
    beside_father : Stands p1 (roots son ++ roots mine) 16
    beside_father =
        let l = length-append (roots mine) (roots son) in
        stands_same p1 (roots mine ++ roots son) (roots son ++ roots mine) 16 (swapped (roots mine) (roots son))
        (stands_after p0 p1 (roots mine) (roots mine ++ roots son) 18 16 (omega (arith, l, two)) made stand)

    pub son_stands : StandsWhole p1 (roots son)
    son_stands =
        whole_of p1 (roots son) 16 (omega (arith, two)) (omega (arith, two)) (stands_first p1 (roots son) (roots mine) 16 beside_father)

    -- the father and all others keep their bytes while the son's spaces become others
    module _ (p2 : Pages) (now : Names) (freed : MemoryFrames p1 p2 (roots son) now) where
      pub freed_keeps : KeepsBytes p0 p1 (roots mine) → KeepsBytes p0 p2 (roots mine)
      freed_keeps k =
          keeps_then p0 p1 p2 (roots mine) k
          (memory_beside_keep p1 p2 (roots son) now (roots mine) 16 (omega (arith, two)) freed beside_father)

      pub freed_frames : RoomFrames p0 p2 (roots mine) (roots mine ++ now) 18
      freed_frames = record {
        knows = λ known. freed.knows (made.knows known);
        homes = homes_then made.homes freed.homes;
        frame = λ rest agree room.
            let first = made_frames.frame rest agree room in
            let then = freed.frame (roots mine ++ rest) (reorder p1 _ _ (second_first (roots mine) (roots son) rest) first.agrees) room in
            record {
              agrees = reorder p2 _ _ (second_last (roots mine) now rest) then.agrees;
              same = λ root among n.
                  then.same root (λ x at. omega (arith, occ-append x (roots mine) rest, among x at)) n ∙ first.same root among n;
            };
      }

    -- and when they go
    module _ (p2 p3 : Pages) (now : Names) (freed : MemoryFrames p1 p2 (roots son) now) (gone : Frames p2 p3 now []) where
      all_gone : MemoryFrames p1 p3 (roots son) []
      all_gone = memory_frames_then p1 p2 p3 (roots son) now [] freed (frames_before p2 p3 now [] (omega arith) gone)

      pub gone_keeps : KeepsBytes p0 p1 (roots mine) → KeepsBytes p0 p3 (roots mine)
      gone_keeps k = freed_keeps p3 [] all_gone k

      pub refused : Refused p0 p3 (roots mine) 18
      refused = subst (λ (l : Names). RoomFrames p0 p3 (roots mine) l 18) (append-nil (roots mine)) (freed_frames p3 [] all_gone)
