-- Names and spaces that are looked up one after another.
use Rattle.std.proofs.Common.{◌≡◌, ◌+◌, ℕ, zero, suc, Bool, true, false, cond, nat_eq, List, [], ◌∷◌, ◌++◌, map, take, drop, None, Some, refl, sym, ap, ◌∙◌, add-one}
use Rattle.std.proofs.lemmas.List.{map-append}
use Rattle.std.proofs.lemmas.Option.{none-some, same_Some}
use Rattle.std.specs.Prelude.{slice_get}
use Rattle.page_pool.specs.Pool.{Pages}
use Rattle.named_texts.specs.Below.page_table.specs.Frames.{Stands}
use Rattle.data_space.specs.Data.{SpaceData}
use Rattle.space_memory.specs.Live.{space_at}
use Rattle.space_memory.proofs.Roots.{one_stands}
use Rattle.space_memory.specs.Memories.{MemoryData, roots}
use Rattle.space_memory.proofs.Framed.{rest_stand}

-- an element of a list is the first behind those before it
pub drop_at : {A : Type 0} (xs : List A) (k : ℕ) (x : A) → slice_get xs k ≡ Some x → drop k xs ≡ x ∷ drop (suc k) xs
drop_at [] k x is = absurd (none-some x is)
drop_at (y ∷ ys) zero x is = ap (λ z. z ∷ ys) (same_Some y x is)
drop_at (y ∷ ys) (suc k) x is = drop_at ys k x is

pub drop_past : {A : Type 0} (xs : List A) (k : ℕ) → slice_get xs k ≡ None → drop k xs ≡ []
drop_past [] zero is = refl
drop_past [] (suc k) is = refl
drop_past (y ∷ ys) zero is = absurd (none-some y (sym is))
drop_past (y ∷ ys) (suc k) is = drop_past ys k is

pub take_at : {A : Type 0} (xs : List A) (k : ℕ) (x : A) → slice_get xs k ≡ Some x → take (suc k) xs ≡ take k xs ++ x ∷ []
take_at [] k x is = absurd (none-some x is)
take_at (y ∷ ys) zero x is = ap (λ z. z ∷ []) (same_Some y x is)
take_at (y ∷ ys) (suc k) x is = ap (λ zs. y ∷ zs) (take_at ys k x is)

pub take_past : {A : Type 0} (xs : List A) (k : ℕ) → slice_get xs k ≡ None → take k xs ≡ xs
take_past [] zero is = refl
take_past [] (suc k) is = refl
take_past (y ∷ ys) zero is = absurd (none-some y (sym is))
take_past (y ∷ ys) (suc k) is = ap (λ zs. y ∷ zs) (take_past ys k is)

-- the names so far, with the next
pub name_next : {S : Type 0} (entries : List (List ℕ × S)) (k : ℕ) (name : List ℕ) (s : S) → slice_get entries k ≡ Some (name, s)
    → (names next : List (List ℕ)) → names ≡ map (λ entry. entry.0) (take k entries) → next ≡ names ++ name ∷ []
    → next ≡ map (λ entry. entry.0) (take (k + 1) entries)
name_next entries k name s is names next so_far then =
    then ∙ ap (λ ns. ns ++ name ∷ []) so_far
    ∙ sym (map-append (λ (entry : List ℕ × _). entry.0) (take k entries) ((name, s) ∷ []))
    ∙ sym (ap (λ es. map (λ (entry : List ℕ × _). entry.0) es) (take_at entries k (name, s) is))
    ∙ ap (λ j. map (λ (entry : List ℕ × _). entry.0) (take j entries)) (sym (add-one k))

-- the spaces up to one have other numbers
module _ (n : ℕ) (es : List (ℕ × SpaceData)) (k : ℕ) (e : ℕ × SpaceData) (is : slice_get es k ≡ Some e)
    (so_far : space_at n es ≡ space_at n (drop k es)) where
  next : (b : Bool) → nat_eq n e.0 ≡ b → space_at n es ≡ cond b (Some e.1) (space_at n (drop (suc k) es))
  next b same =
      so_far ∙ ap (λ ds. space_at n ds) (drop_at es k e is)
      ∙ ap (λ (c : Bool). cond c (Some e.1) (space_at n (drop (suc k) es))) same

  pub found_there : nat_eq n e.0 ≡ true → space_at n es ≡ Some e.1
  found_there same = next true same

  pub not_there : nat_eq n e.0 ≡ false → space_at n es ≡ space_at n (drop (k + 1) es)
  not_there other = next false other ∙ ap (λ j. space_at n (drop j es)) (sym (add-one k))

-- the space under a number stands over the pool
pub one_of : (m : MemoryData) (n : ℕ) (d : SpaceData) (pages : Pages) → space_at n m.spaces ≡ Some d → Stands pages (roots m) 0
    → Stands pages (d.root ∷ []) 0
one_of m n d pages is stands =
    one_stands (nat_eq n) m.spaces d is pages 0 (rest_stand m.run.root m.packets.root _ pages 0 stands)
