-- A memory that gets a space under a name, over its pool.
use Rattle.std.proofs.Common.{◌≡◌, ◌+◌, ◌<◌, ◌≤◌, ℕ, Bool, true, false, cond, nat_eq, List, [], ◌∷◌, ◌++◌, length, Option, None, Some, Result, Ok, Err, refl, sym, ap, ◌∙◌, subst, arith}
use Rattle.std.proofs.lemmas.Bool.{eq-eqb}
use Rattle.std.specs.Prelude.{OnOk, OnErr, is_some}
use Rattle.std.specs.List.{AllByRecursion}
use Rattle.eu_base.specs.Spaces.{IsKept}
use Rattle.task_numbers.specs.declared.number.SpaceNo.{SpaceNo}
use Rattle.named_texts.specs.Below.page_table.specs.Entries.{Names}
use Rattle.named_texts.specs.Below.page_table.specs.Frames.{Over as Pages, Knows, content_at, Frames, Stands}
use Rattle.named_texts.specs.Below.page_table.proofs.Framing.{frames_nil, frames_more, frames_then, stands_after}
use Rattle.data_space.specs.Data.{SpaceData}
use Rattle.source_texts.specs.Spaces.{HoldsSpace}
use Rattle.source_texts.specs.Sources.{source_space}
use Rattle.space_memory.specs.Live.{IsLive, space_at}
use Rattle.space_memory.specs.Kept.{KeepsBytes}
use Rattle.named_texts.specs.Below.space_names.specs.Directory as directory
use Rattle.space_memory.specs.Memories.{MemoryData, roots, with_new, forgotten}
use Rattle.space_memory.proofs.Framed.{beside_keep, taken_same, given_same, roots_long}
use Rattle.named_texts.specs.Texts.{without_named, named_last, KeepsText}

-- ---- a space that comes last is live, and gets a name

last_live : (n : ℕ) (d : SpaceData) (es : List (ℕ × SpaceData)) → IsLive n (es ++ (n, d) ∷ [])
last_live n d [] = ap (λ (b : Bool). is_some (cond b (Some d) None)) (eq-eqb n n refl)
last_live n d (e ∷ es) = by (nat_eq n e.0) (last_live n d es)
  where
    by : (b : Bool) → IsLive n (es ++ (n, d) ∷ []) → is_some (cond b (Some e.1) (space_at n (es ++ (n, d) ∷ []))) ≡ true
    by true rest = refl
    by false rest = rest

pub given_live : (m n : MemoryData) (space : SpaceData) (k : ℕ) → n ≡ with_new space m → k ≡ m.last + 1 → IsLive k n.spaces
given_live m n space k is number =
    subst (λ (u : MemoryData). IsLive k u.spaces) (sym is)
    (subst (λ j. IsLive j (m.spaces ++ (m.last + 1, space) ∷ [])) (sym number) (last_live (m.last + 1) space m.spaces))

-- a name has no root
pub same_named : {A E : Type 0} (r : Result A E) (m n : MemoryData) (names : List (List ℕ × SpaceNo)) → OnOk r (n ≡ record m { names = names })
    → OnErr r (n ≡ m) → roots n ≡ roots m
same_named (Ok x) m n names ok err = ap roots ok
same_named (Err e) m n names ok err = ap roots err

-- ---- the space under a name goes

pub gone_is : (m n : MemoryData) (o p : Option SpaceNo) → o ≡ p → n ≡ without_named p m → n ≡ without_named o m
gone_is m n o p same is = subst (λ q. n ≡ without_named q m) (sym same) is

-- there is one root less, and room for one space more
module _ (m n : MemoryData) (k : ℕ) (live : IsLive k m.spaces) (is : n ≡ forgotten k m) where
  pub one_less : length (roots n) + 1 ≡ length (roots m)
  one_less =
      let long = (taken_same k m live).long in
      let same = ap (λ (u : MemoryData). length (roots u)) is in
      omega (arith, long, same)

  pub room_left : length m.spaces ≤ 16 → length n.spaces < 16
  room_left few = omega (arith, few, one_less, roots_long n.spaces, roots_long m.spaces)

-- ---- calls one after another, where a space without pages may be let go before

pub back_frames : (old new : Pages) (a b : Names) → Frames old new a b → Frames old new (None ∷ a) b
back_frames old new a b f =
    frames_then old old new (None ∷ a) a b (omega arith)
    (frames_more old old (None ∷ []) [] a (frames_nil old (None ∷ []) [] (λ p. omega arith) (λ p. refl))) f

module _ (p0 p1 p2 : Pages) (a b : Names) (f : Frames p0 p1 a b) (few : length b ≤ length a) where
  -- memory was wanting for a new space
  pub refused_frames : Frames p1 p2 (None ∷ []) [] → Frames p0 p2 (None ∷ a) b
  refused_frames back =
      frames_then p0 p1 p2 (None ∷ a) (None ∷ b) b (omega (arith, few))
      (frames_then p0 p1 p1 (None ∷ a) b (None ∷ b) (omega (arith, few)) (back_frames p0 p1 a b f)
      (frames_more p1 p1 [] (None ∷ []) b (frames_nil p1 [] (None ∷ []) (λ p. refl) (λ p. omega arith))))
      (frames_more p1 p2 (None ∷ []) [] b back)

  module _ (stands : Stands p0.pool a 1) where
    pub stands_then : Stands p1.pool b 1
    stands_then = stands_after p0 p1 a b 1 1 (omega (arith, few)) f stands

    -- a new space is there
    module _ (space : Option ℕ) (made : Frames p1 p2 [] (space ∷ [])) where
      more : Frames p1 p2 b (space ∷ b)
      more = frames_more p1 p2 [] (space ∷ []) b made

      pub stands_more : Stands p2.pool (space ∷ b) 0
      stands_more = stands_after p1 p2 b (space ∷ b) 1 0 (omega arith) more stands_then

      pub bytes_kept : KeepsBytes p1 p2 b
      bytes_kept = beside_keep p1 p2 [] (space ∷ []) b 1 (omega arith) made stands_then

      module _ (p3 : Pages) (c : Names) (last : Frames p2 p3 (space ∷ b) c) where
        pub given_frames : length c ≡ length b + 1 → Frames p0 p3 a c
        given_frames long =
            frames_then p0 p2 p3 a (space ∷ b) c (omega (arith, few, long))
            (frames_then p0 p1 p2 a b (space ∷ b) (omega (arith, few)) f more) last

        pub not_given_frames : Frames p0 p3 (None ∷ a) c
        not_given_frames =
            frames_then p0 p2 p3 (None ∷ a) (space ∷ b) c (omega (arith, few))
            (frames_then p0 p1 p2 (None ∷ a) b (space ∷ b) (omega (arith, few)) (back_frames p0 p1 a b f) more) last

-- ---- all of it

keeps_then : (p0 p1 p2 : Pages) (names : Names) → KeepsBytes p0 p1 names → KeepsBytes p1 p2 names → KeepsBytes p0 p2 names
keeps_then p0 p1 p2 names k l = record { knows = λ known. l.knows (k.knows known); each = by names k.each l.each }
  where
    by : (names : Names) → AllByRecursion (λ root. IsKept (content_at p0 root) (content_at p1 root)) names
        → AllByRecursion (λ root. IsKept (content_at p1 root) (content_at p2 root)) names → AllByRecursion (λ root. IsKept (content_at p0 root) (content_at p2 root)) names
    by [] k l = tt
    by (o ∷ os) k l = (λ n. l.0 n ∙ k.0 n, by os k.1 l.1)

pub last_long : (m n : MemoryData) (space : SpaceData) (name : List ℕ) → n ≡ named_last name (with_new space m) → length (roots n) ≡ length (roots m) + 1
last_long m n space name is =
    let same = ap (λ (u : MemoryData). length (roots u)) is in
    omega (arith, same, (given_same space m).long)

module _ (p0 p1 p2 p3 : Pages) (m0 m1 m3 : MemoryData) (name : List ℕ) (lines : List (List ℕ)) (space : SpaceData)
    (gone : m1 ≡ without_named (directory.get name m0.names) m0) (holds : Knows p1 → HoldsSpace p2 space (source_space lines))
    (first : KeepsBytes p0 p1 (roots m1)) (then : KeepsBytes p1 p2 (roots m1)) where
  pub kept_there : m3 ≡ named_last name (with_new space m1) → p3 ≡ p2 → KeepsText p0 p3 m0 m3 name lines
  kept_there given same = record {
    space = space;
    memory = given ∙ ap (λ (u : MemoryData). named_last name (with_new space u)) gone;
    holds = λ known. subst (λ p. HoldsSpace p space (source_space lines)) (sym same) (holds (first.knows known));
    keeps =
        subst (λ p. KeepsBytes p0 p (roots (without_named (directory.get name m0.names) m0))) (sym same)
        (subst (λ (u : MemoryData). KeepsBytes p0 p2 (roots u)) gone (keeps_then p0 p1 p2 (roots m1) first then));
  }

  pub text_kept : {A E : Type 0} (r : Result A E) → OnOk r (m3 ≡ named_last name (with_new space m1)) → OnOk r (p3 ≡ p2)
      → OnOk r (KeepsText p0 p3 m0 m3 name lines)
  text_kept (Ok x) given same = kept_there given same
  text_kept (Err e) given same = tt

-- what follows of a call's success, and of its refusal
pub on_ok : {A E : Type 0} (r : Result A E) (P Q : Type 0) → OnOk r P → (P → Q) → OnOk r Q
on_ok (Ok x) P Q p f = f p
on_ok (Err e) P Q p f = tt

pub on_err : {A E : Type 0} (r : Result A E) (P : Type 0) → P → OnErr r P
on_err (Ok x) P p = tt
on_err (Err e) P p = p
