-- Values of several cells that are read from a place on, and put there.
use Rattle.std.proofs.Common.{◌≡◌, ℕ, zero, suc, ◌+◌, ◌-◌, ◌^◌, ◌<◌, ◌≤◌, min, Bool, true, false, List, [], ◌∷◌, ◌++◌, map, length, take, Option, Some, None, refl, sym, ap}
use Rattle.std.proofs.Common.{◌∙◌, subst, arith, ◌⊎◌, inl, inr, ⊎_elim}
use Rattle.std.specs.Prelude.{slice_get, get_or, option_map, nat_le, ◌&&◌, Result, Ok, Err, IfOk}
use Rattle.std.proofs.lemmas.Bool.{le-leb, lt-leb, leb-true, cases_lt}
use Rattle.std.proofs.lemmas.List.{length-map, length-take, take_more}
use Rattle.std.proofs.lemmas.Option.{slice_get-map, slice_get-get_or, slice_get_within}
use Rattle.eu_base.specs.declared.address.Addr.{Addr}
use Rattle.eu_base.specs.declared.address.TheConstants.{CELLS}
use Rattle.eu_base.specs.declared.value.TheConstants.{OPERAND_BYTES}
use Rattle.eu_base.specs.declared.set.Set.{Set}
use Rattle.eu_base.specs.declared.set.Set.TheVariants.{Done, HeapFull}
use Rattle.eu_base.specs.declared.value.Kind.{Kind}
use Rattle.eu_base.specs.declared.value.Value.{Value}
use Rattle.eu_base.specs.declared.value.Value.TheVariants as item
use Rattle.eu_base.specs.Room.{most_blocks, values_bytes, values_blocks, texts_fit}
use Rattle.eu_base.specs.Cells.{Cell, Letters, Cells, held_of, IsCell, written, cell_blocks, area_blocks, HasText, Puts}
use Rattle.code_form.specs.declared.operand.Operand.{Operand}
use Rattle.code_form.specs.declared.operand.Operand.TheVariants.{Value as Of}
use Rattle.zero_state.specs.Finds.{all_of}
use Rattle.eu_base.proofs.Rooms.{least_all, blocks_small, blocks_first, held_blocks}
use Rattle.code_form.specs.Machine.{Move, Unknown, on_cell, on_cells, next, takes, is_text, takes_all, written_all}
use Rattle.zero_state.specs.Emptied.{emptied}
use Rattle.zero_state.proofs.Emptied.{emptied_blocks, emptied_bare}
use Rattle.zero_state.proofs.Blocks.{has_room, has_text}
use Rattle.zero_steps.specs.Reading.{Reads, AllRead, PutsTaken, PutsCell, PutsEach, PutsAll, blocks_from, shown, FitsSoFar}
use Rattle.zero_steps.proofs.Along.{steps_on, area_on, blocks_all, written_put, put_there, put_behind, written_again, written_next, blocks_none}
use Rattle.zero_steps.proofs.Along.{takes_each, takes_at}
use Rattle.zero_steps.proofs.Accessing.{Keeps}

-- of few bytes there are few values
pub few_values : (vs : List Value) → values_bytes vs ≤ OPERAND_BYTES → length vs ≤ CELLS
few_values vs small = let least = least_all vs in omega (arith, least, small)

-- ---- values that are read

pub reads_before : (before between : Cells → Type 0) (a : Addr) (k : Kind) (v : Value) → Keeps before between → Reads between a k v → Reads before a k v
reads_before before between a k v kept r = record { known = λ cells h. r.known cells (kept cells h); seen = r.seen; is = r.is }

-- and one more
read_last : (before : Cells → Type 0) (a : Addr) (ks : List Kind) (vs : List Value) (k : Kind) (v : Value) → AllRead before a ks vs
    → Reads before (steps_on (length ks) a) k v → AllRead before a (ks ++ k ∷ []) (vs ++ v ∷ [])
read_last before a [] [] k v all one = (one, tt)
read_last before a [] (w ∷ vs) k v all one = absurd all
read_last before a (j ∷ ks) [] k v all one = absurd all
read_last before a (j ∷ ks) (w ∷ vs) k v all one = (all.0, read_last before (next a) ks vs k v all.1 one)

pub read_more : (before : Cells → Type 0) (a place : Addr) (ks : List Kind) (i : ℕ) (k d : Kind) (v : Value) (vs now : List Value) → i < length ks
    → k ≡ get_or ks i d → place ≡ steps_on i a → AllRead before a (take i ks) vs → Reads before place k v → now ≡ vs ++ v ∷ []
    → AllRead before a (take (i + 1) ks) now
read_more before a place ks i k d v vs now lt is there all one pushed =
    let short = length-take i ks in
    let count : i ≡ length (take i ks) = omega (arith, short, lt) in
    let here : Reads before (steps_on (length (take i ks)) a) k v =
    subst (λ n. Reads before (steps_on n a) k v) count (subst (λ p. Reads before p k v) there one) in
    let more : take (i + 1) ks ≡ take i ks ++ k ∷ [] = take_more ks i d lt ∙ ap (λ k. take i ks ++ k ∷ []) (sym is) in
    subst (λ l. AllRead before a l now) (sym more)
    (subst (AllRead before a (take i ks ++ k ∷ [])) (sym pushed) (read_last before a (take i ks) vs k v all here))

-- where all of them are known, they are the ones that were read
pub known_all : (before : Cells → Type 0) (ks : List Kind) (vs : List Value) (a : Addr) → AllRead before a ks vs → (cells : Cells) → before cells
    → (go : List Value → Move) → (on_cells ks a cells go ≡ go vs) ⊎ (on_cells ks a cells go ≡ Unknown)
known_all before [] [] a all cells h go = inl refl
known_all before [] (v ∷ vs) a all cells h go = absurd all
known_all before (k ∷ ks) [] a all cells h go = absurd all
known_all before (k ∷ ks) (v ∷ vs) a all cells h go =
    by (all.0.known cells h then) (known_all before ks vs (next a) all.1 cells h (λ vs. go (v ∷ vs)))
  where
    then : Value → Move
    then v = on_cells ks (next a) cells (λ vs. go (v ∷ vs))

    by : (on_cell k (cells a) then ≡ then v) ⊎ (on_cell k (cells a) then ≡ Unknown) → (then v ≡ go (v ∷ vs)) ⊎ (then v ≡ Unknown)
        → (on_cell k (cells a) then ≡ go (v ∷ vs)) ⊎ (on_cell k (cells a) then ≡ Unknown)
    by (inr e) x = inr e
    by (inl e) (inl f) = inl (e ∙ f)
    by (inl e) (inr f) = inr (e ∙ f)

-- and there are cells that hold them
abbrev pub seen_of : (before : Cells → Type 0) (ks : List Kind) (vs : List Value) (a : Addr) → AllRead before a ks vs → List Cell
seen_of before [] vs a all = []
seen_of before (k ∷ ks) [] a all = []
seen_of before (k ∷ ks) (v ∷ vs) a all = all.0.seen ∷ seen_of before ks vs (next a) all.1

pub seen_many : (before : Cells → Type 0) (ks : List Kind) (vs : List Value) (a : Addr) (all : AllRead before a ks vs)
    → length (seen_of before ks vs a all) ≤ length ks
seen_many before [] vs a all = omega arith
seen_many before (k ∷ ks) [] a all = omega arith
seen_many before (k ∷ ks) (v ∷ vs) a all = let rest = seen_many before ks vs (next a) all.1 in omega (arith, rest)

pub on_seen : (before : Cells → Type 0) (ks : List Kind) (vs : List Value) (a : Addr) (all : AllRead before a ks vs) (cells : Cells)
    → ((j : ℕ) (x : Cell) → slice_get (seen_of before ks vs a all) j ≡ Some x → cells (steps_on j a) ≡ x) → (go : List Value → Move)
    → on_cells ks a cells go ≡ go vs
on_seen before [] [] a all cells same go = refl
on_seen before [] (v ∷ vs) a all cells same go = absurd all
on_seen before (k ∷ ks) [] a all cells same go = absurd all
on_seen before (k ∷ ks) (v ∷ vs) a all cells same go =
    ap (λ x. on_cell k x (λ v. on_cells ks (next a) cells (λ vs. go (v ∷ vs)))) (same zero all.0.seen refl)
    ∙ all.0.is (λ v. on_cells ks (next a) cells (λ vs. go (v ∷ vs)))
    ∙ on_seen before ks vs (next a) all.1 cells (λ j x e. same (suc j) x e) (λ vs. go (v ∷ vs))

-- ---- values that are put

-- an item of a list
pub at_item : {A : Type 0} (xs : List A) (i : ℕ) (x d : A) → i < length xs → x ≡ get_or xs i d → slice_get xs i ≡ Some x
at_item xs i x d lt is = slice_get-get_or xs i d lt ∙ ap (λ x. Some x) (sym is)

pub put_step : (now after : Cells → Type 0) (vs : List Value) (texts : Bool) (a : Addr) (k : ℕ) (v : Value) (cells : Cells) → IsCell a → length vs ≤ CELLS
    → slice_get vs k ≡ Some v → takes_all vs a cells ≡ true → FitsSoFar cells a (map (shown texts) vs)
    → ((cells : Cells) → now cells → takes (held_of v) (cells (steps_on k a)) ≡ true
    → area_blocks (steps_on k a).area (written cells (steps_on k a) (held_of (shown texts v))) ≤ most_blocks
    → after (written cells (steps_on k a) (held_of (shown texts v))))
    → now (written_all cells a (take k (map (shown texts) vs))) → after (written_all cells a (take (k + 1) (map (shown texts) vs)))
put_step now after vs texts a k v cells low few there all fits put h =
    let ws = map (shown texts) vs in
    let within = slice_get_within vs k v there in
    let item : slice_get ws k ≡ Some (shown texts v) = slice_get-map (shown texts) vs k ∙ ap (option_map (shown texts)) there in
    let so_far = written_all cells a (take k ws) in
    let short = length-take k ws in
    let many = length-map (take k ws) held_of in
    let kept : so_far (steps_on k a) ≡ cells (steps_on k a) =
    ap (λ c. c (steps_on k a)) (written_put (take k ws) a cells)
    ∙ put_behind (map held_of (take k ws)) a cells k low (omega (arith, short, many)) (omega (arith, within, few)) in
    let next : suc k ≡ k + 1 = omega arith in
    let one = written_next ws a cells k (shown texts v) item in
    subst (λ n. after (written_all cells a (take n ws))) next
    (subst after one
    (put so_far h (ap (takes (held_of v)) kept ∙ takes_at vs a cells k v all there)
    (subst (λ x. area_blocks x (written so_far (steps_on k a) (held_of (shown texts v))) ≤ most_blocks) (sym (area_on k a))
    (subst (λ c. area_blocks a.area c ≤ most_blocks) (sym one) (fits (suc k))))))

-- where no text has blocks, where "" comes in the place of each text, and where none stood before, each has room where all have
no_more : (vs : List Value) (a : Addr) (cells : Cells) → IsCell a → length vs ≤ CELLS
    → (n : ℕ) → area_blocks a.area (written_all cells a (take n vs)) ≤ area_blocks a.area cells + values_blocks (take n vs)
no_more vs a cells low few n =
    let short = length-take n vs in
    let all = blocks_all (take n vs) a cells low (omega (arith, short, few)) in
    omega (arith, all)

pub fits_none : (vs : List Value) (a : Addr) (cells : Cells) → IsCell a → length vs ≤ CELLS → values_blocks vs ≡ 0 → area_blocks a.area cells ≤ most_blocks
    → FitsSoFar cells a vs
fits_none vs a cells low few none room n = let all = no_more vs a cells low few n in let first = blocks_first vs n in omega (arith, all, first, none, room)

pub fits_bare : (vs : List Value) (a : Addr) (cells : Cells) → IsCell a → length vs ≤ CELLS → blocks_from cells a vs ≡ 0
    → area_blocks a.area (written_all cells a vs) ≤ most_blocks → FitsSoFar cells a vs
fits_bare vs a cells low few none room n =
    let part = no_more vs a cells low few n in
    let all = blocks_all vs a cells low few in
    let first = blocks_first vs n in
    omega (arith, part, all, first, none, room)

pub all_shown : (vs : List Value) → map (shown true) vs ≡ vs
all_shown [] = refl
all_shown (v ∷ vs) = ap (λ l. v ∷ l) (all_shown vs)

-- "" stands in the place of each text, and takes the text
emptied_takes : (v : Value) → takes (held_of v) (held_of (emptied v)) ≡ true
emptied_takes (item.Int z) = refl
emptied_takes (item.Truth b) = refl
emptied_takes (item.Text t) = refl
emptied_takes (item.Task n) = refl
emptied_takes (item.Space n) = refl

emptied_same : (v : Value) → takes (held_of (emptied v)) (held_of (emptied v)) ≡ true
emptied_same (item.Int z) = refl
emptied_same (item.Truth b) = refl
emptied_same (item.Text t) = refl
emptied_same (item.Task n) = refl
emptied_same (item.Space n) = refl

module _ (vs : List Value) (a : Addr) (cells : Cells) (low : IsCell a) (few : length vs ≤ CELLS) where
  abbrev pub without : Cells
  without = written_all cells a (map emptied vs)

  pub stands : (k : ℕ) (v : Value) → slice_get vs k ≡ Some v → without (steps_on k a) ≡ held_of (emptied v)
  stands k v e =
      let many = length-map vs emptied in
      let more = length-map (map emptied vs) held_of in
      ap (λ c. c (steps_on k a)) (written_put (map emptied vs) a cells)
      ∙ put_there (map held_of (map emptied vs)) a cells k (held_of (emptied v)) low (omega (arith, many, more, few))
      (slice_get-map held_of (map emptied vs) k ∙ ap (option_map held_of) (slice_get-map emptied vs k ∙ ap (option_map emptied) e))

  pub takes_again : takes_all vs a without ≡ true
  takes_again = takes_each vs a without (λ k v e. ap (takes (held_of v)) (stands k v e) ∙ emptied_takes v)

  -- and takes "" again
  pub emptied_taken : takes_all (map emptied vs) a without ≡ true
  emptied_taken = takes_each (map emptied vs) a without (λ k w e. by k w (slice_get vs k) refl (sym (slice_get-map emptied vs k) ∙ e))
    where
      by : (k : ℕ) (w : Value) (o : Option Value) → slice_get vs k ≡ o → option_map emptied o ≡ Some w → takes (held_of w) (without (steps_on k a)) ≡ true
      by k w None e f = absurd (cc f)
      by k w (Some v) e f =
          let is : emptied v ≡ w = cc f in
          ap (λ w. takes (held_of w) (without (steps_on k a))) (sym is) ∙ ap (takes (held_of (emptied v))) (stands k v e) ∙ emptied_same v

  pub bare_again : blocks_from without a vs ≡ 0
  bare_again = blocks_none vs a without (λ k v e. ap cell_blocks (stands k v e) ∙ emptied_bare v)

  pub again : written_all without a vs ≡ written_all cells a vs
  again = written_again (map emptied vs) vs a cells (length-map vs emptied) low few

-- one after the other, so that all of them are put
module _ (vs : List Value) (a : Addr) (low : IsCell a) (few : length vs ≤ CELLS) where
  abbrev pub PutsShown : (before after : Cells → Type 0) → Bool → Type 0
  PutsShown before after texts = (cells : Cells) → before cells → takes_all vs a cells ≡ true → FitsSoFar cells a (map (shown texts) vs)
      → after (written_all cells a (map (shown texts) vs))

  abbrev pub Rooms : (Cells → Type 0) → Type 0
  Rooms holds = (cells : Cells) → holds cells → area_blocks a.area cells ≤ most_blocks

  pub put_small : (before after : Cells → Type 0) → Rooms before → values_blocks vs ≡ 0 → PutsShown before after true → PutsAll before after a vs Done
  put_small before after room none put cells h taken = (
    ap (λ n. texts_fit n (area_blocks a.area (written_all cells a vs))) none,
    subst (λ l. after (written_all cells a l)) (all_shown vs)
        (put cells h taken (subst (FitsSoFar cells a) (sym (all_shown vs)) (fits_none vs a cells low few none (room cells h)))),
  )

  -- where they have room is known
  abbrev pub Tells : (before : Cells → Type 0) → Bool → Type 0
  Tells before fits = (cells : Cells) → before cells → takes_all vs a cells ≡ true → fits ≡ nat_le (area_blocks a.area (written_all cells a vs)) most_blocks

  pub put_none : (before after : Cells → Type 0) (fits : Bool) → Tells before fits → fits ≡ false → (values_blocks vs ≡ 0 → ⊥) → Keeps before after
      → PutsAll before after a vs HeapFull
  put_none before after fits tells full some kept cells h taken =
      (by (values_blocks vs) some (sym (tells cells h taken) ∙ full), kept cells h)
    where
      by : (n : ℕ) → (n ≡ 0 → ⊥) → nat_le (area_blocks a.area (written_all cells a vs)) most_blocks ≡ false
          → texts_fit n (area_blocks a.area (written_all cells a vs)) ≡ false
      by zero some e = absurd (some refl)
      by (suc n) some e = e

  pub put_both : (before between middle after : Cells → Type 0) (fits : Bool) → Tells before fits → fits ≡ true → Keeps before between → Rooms between
      → PutsShown between middle false → PutsShown middle after true → PutsAll before after a vs Done
  put_both before between middle after fits tells fitting kept room first second cells h taken =
      let le = leb-true (area_blocks a.area (written_all cells a vs)) most_blocks (sym (tells cells h taken) ∙ fitting) in
      let none : values_blocks (map emptied vs) ≡ 0 = emptied_blocks vs in
      let many = length-map vs emptied in
      let emptied_fit : FitsSoFar cells a (map emptied vs) =
      fits_none (map emptied vs) a cells low (omega (arith, many, few)) none (room cells (kept cells h)) in
      let gone : middle (without vs a cells low few) = first cells (kept cells h) taken emptied_fit in
      let same = again vs a cells low few in
      let fit : FitsSoFar (without vs a cells low few) a vs =
      fits_bare vs a (without vs a cells low few) low few (bare_again vs a cells low few) (subst (λ c. area_blocks a.area c ≤ most_blocks) (sym same) le) in
      let put = second (without vs a cells low few) gone (takes_again vs a cells low few) (subst (FitsSoFar (without vs a cells low few) a) (sym (all_shown vs)) fit) in (
        has_room (values_blocks vs) (area_blocks a.area (written_all cells a vs)) le,
        subst after same (subst (λ l. after (written_all (without vs a cells low few) a l)) (all_shown vs) put),
      )

  -- they have room where the texts grow by no more than is left
  pub tells_less : (before : Cells → Type 0) (needed had : ℕ) → Rooms before → needed ≡ values_blocks vs
      → ((cells : Cells) → before cells → takes_all vs a cells ≡ true → had ≡ min (blocks_from cells a vs) (2 ^ 64 - 1)) → needed ≤ had → Tells before true
  tells_less before needed had room is had_is le cells h taken =
      let all = blocks_all vs a cells low few in
      let old = had_is cells h taken in
      let few_blocks = room cells h in
      sym (le-leb (area_blocks a.area (written_all cells a vs)) most_blocks (omega (arith, all, old, le, is, few_blocks)))

  pub tells_rooms : (before : Cells → Type 0) (needed had rooms : ℕ) (fits : Bool) → needed ≡ values_blocks vs → values_bytes vs ≤ OPERAND_BYTES
      → ((cells : Cells) → before cells → takes_all vs a cells ≡ true → had ≡ min (blocks_from cells a vs) (2 ^ 64 - 1))
      → ((cells : Cells) → before cells → rooms + area_blocks a.area cells ≡ most_blocks) → had < needed → fits ≡ nat_le (needed - had) rooms
      → Tells before fits
  tells_rooms before needed had rooms fits is small had_is left lt fits_is cells h taken =
      let all = blocks_all vs a cells low few in
      let old = had_is cells h taken in
      let free = left cells h in
      let least = blocks_small vs in
      fits_is ∙ ⊎_elim
      (λ more. let over : most_blocks < area_blocks a.area (written_all cells a vs) = omega (arith, all, old, free, is, lt, more, least, small) in
      lt-leb (needed - had) rooms more ∙ sym (lt-leb (area_blocks a.area (written_all cells a vs)) most_blocks over))
      (λ le. let under : area_blocks a.area (written_all cells a vs) ≤ most_blocks = omega (arith, all, old, free, is, lt, le, least, small) in
      le-leb (needed - had) rooms le ∙ sym (le-leb (area_blocks a.area (written_all cells a vs)) most_blocks under))
      (cases_lt rooms (needed - had))

-- a value of one cell
pub one_put : (before after : Cells → Type 0) (a : Addr) (v : Value) (set : Set) → PutsTaken before after a (held_of v) set → PutsAll before after a (v ∷ []) set
one_put before after a v set put cells h taken = by set (put cells h (only (takes (held_of v) (cells a)) taken))
  where
    only : (b : Bool) → b && true ≡ true → b ≡ true
    only true e = refl
    only false e = absurd (cc e)

    blocks : cell_blocks (held_of v) ≡ values_blocks (v ∷ [])
    blocks = let held = held_blocks v in omega (arith, held)

    by : (set : Set) → PutsCell after cells a (held_of v) set → PutsEach after cells a (v ∷ []) set
    by Done x = (ap (λ n. texts_fit n (area_blocks a.area (written cells a (held_of v)))) (sym blocks) ∙ x.0, x.1)
    by HeapFull x = (ap (λ n. texts_fit n (area_blocks a.area (written cells a (held_of v)))) (sym blocks) ∙ x.0, x.1)

pub one_puts : {E : Type 0} (result : Result Set E) (before after : Cells → Type 0) (a : Addr) (v : Value) (o : Operand) → o ≡ Of v
    → IfOk result (PutsTaken before after a (held_of v)) → IfOk result (PutsAll before after a (all_of o))
one_puts (Ok set) before after a v o is put = subst (λ o. PutsAll before after a (all_of o) set) (sym is) (one_put before after a v set put)
one_puts (Err e) before after a v o is put = tt

-- a text that has room, or "" in its place
pub text_shown : (before after : Cells → Type 0) (a : Addr) (t new : List ℕ) (v : Value) (texts : Bool) (set : Set) → v ≡ item.Text t
    → item.Text new ≡ shown texts (item.Text t) → ((cells : Cells) → before cells → HasText (cells a) → Puts after cells a new set)
    → (cells : Cells) → before cells → takes (held_of v) (cells a) ≡ true → area_blocks a.area (written cells a (held_of (shown texts v))) ≤ most_blocks
    → after (written cells a (held_of (shown texts v)))
text_shown before after a t new v texts set is same put cells h taken room =
    let all : item.Text new ≡ shown texts v = same ∙ ap (shown texts) (sym is) in
    let taken' : is_text (cells a) ≡ true = ap (λ v. takes (held_of v) (cells a)) (sym is) ∙ taken in
    subst (λ v. after (written cells a (held_of v))) all
    (by set (put cells h (has_text (cells a) taken')) (subst (λ v. area_blocks a.area (written cells a (held_of v)) ≤ most_blocks) (sym all) room))
  where
    by : (set : Set) → Puts after cells a new set → area_blocks a.area (written cells a (Letters new)) ≤ most_blocks → after (written cells a (Letters new))
    by Done x le = x.1
    by HeapFull x le = let full = x.0 in absurd (omega (arith, full, le))
