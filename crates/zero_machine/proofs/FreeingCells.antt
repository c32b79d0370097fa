-- Cells of packets that are freed, one after another.
use Rattle.std.proofs.Common.{◌≡◌, ℕ, zero, suc, ◌+◌, ◌<◌, ◌≤◌, ◌⊎◌, inl, inr, Bool, true, false, cond, List, [], ◌∷◌, ◌++◌, length, take, drop, Some, refl, sym, ap, ◌∙◌, subst, arith}
use Rattle.std.specs.Prelude.{slice_get, get_or, nat_le, nat_lt, ◌&&◌, Result, Ok, Err, OnOk}
use Rattle.std.proofs.lemmas.Bool.{leb-true, leb-false, ltb-true, ltb-false, eq-eqb}
use Rattle.std.proofs.lemmas.List.{length-append}
use Rattle.eu_base.specs.declared.address.Area.{Area}
use Rattle.eu_base.specs.declared.address.Area.TheVariants.{Run, Packets, Space as AreaSpace}
use Rattle.eu_base.specs.declared.address.Addr.{Addr}
use Rattle.eu_base.specs.declared.set.Set.{Set}
use Rattle.eu_base.specs.declared.set.Set.TheVariants.{Done, HeapFull}
use Rattle.eu_base.specs.declared.value.Kind.{Kind}
use Rattle.eu_base.specs.declared.value.Kind.TheVariants as kinds
use Rattle.eu_base.specs.declared.value.Value.{Value}
use Rattle.eu_base.specs.declared.value.Value.TheVariants.{Int, Truth, Text, Task, Space}
use Rattle.eu_base.specs.declared.shape.Shape.{Shape}
use Rattle.eu_base.specs.Shapes.{cell_kinds}
use Rattle.eu_base.specs.Values.{IsOf}
use Rattle.eu_base.specs.Room.{most_blocks}
use Rattle.eu_base.specs.Cells.{Cell, Free, Letters, Cells, held_of, area_cell, packet_cell, same_area, same_cell, written, cell_blocks, area_blocks, HasText, Puts, Within}
use Rattle.cell_kinds.specs.Kinds.{all_kinds}
use Rattle.cell_kinds.proofs.Parts.{kinds_more, kinds_around}
use Rattle.zero_state.proofs.Blocks.{blocks_without, same_place}
use Rattle.zero_machine.specs.Freed.{is_text, HoldsOf, HoldEach, is_between, freed}

-- what a memory knows: it can forget, and all texts of the packets have room
abbrev pub Forgets : (Cells → Type 0) → Type 0
Forgets holds = (cells fewer : Cells) → holds cells → Within fewer cells → holds fewer

abbrev pub HasRoom : (Cells → Type 0) → Type 0
HasRoom holds = (cells : Cells) → holds cells → area_blocks Packets cells ≤ most_blocks

-- ---- which cells are freed

first : (b d : Bool) → b && d ≡ true → b ≡ true
first true d e = refl
first false d e = absurd (cc e)

second : (b d : Bool) → b && d ≡ true → d ≡ true
second true d e = e
second false d e = absurd (cc e)

abbrev lies : ℕ → ℕ → ℕ → Bool
lies from until k = nat_le from k && nat_lt k until

among : (from until k : ℕ) → lies from until k ≡ true → (from ≤ k) × (k < until)
among from until k e = by (nat_le from k) refl e
  where
    by : (b : Bool) → nat_le from k ≡ b → b && nat_lt k until ≡ true → (from ≤ k) × (k < until)
    by true f e = (leb-true from k f, ltb-true k until e)
    by false f e = absurd (cc e)

beside : (from until k : ℕ) → lies from until k ≡ false → (k < from) ⊎ (until ≤ k)
beside from until k e = by (nat_le from k) refl e
  where
    by : (b : Bool) → nat_le from k ≡ b → b && nat_lt k until ≡ false → (k < from) ⊎ (until ≤ k)
    by true f e = let g = ltb-false k until e in inr (omega (arith, g))
    by false f e = let g = leb-false from k f in inl (omega (arith, g))

is_packets : (a : Addr) → same_area a.area Packets ≡ true → a ≡ packet_cell a.cell
is_packets a e = by a.area a.cell e
  where
    by : (x : Area) (k : ℕ) → same_area x Packets ≡ true → area_cell x k ≡ packet_cell k
    by Packets k e = refl
    by Run k e = absurd (cc e)
    by (AreaSpace s) k e = absurd (cc e)

in_packets : (from until : ℕ) (a : Addr) → is_between from until a ≡ true → same_area a.area Packets ≡ true
in_packets from until a e = first (same_area a.area Packets) (lies from until a.cell) e

among_them : (from until : ℕ) (a : Addr) → is_between from until a ≡ true → (from ≤ a.cell) × (a.cell < until)
among_them from until a e = among from until a.cell (second (same_area a.area Packets) (lies from until a.cell) e)

beside_them : (from until : ℕ) (a : Addr) → same_area a.area Packets ≡ true → is_between from until a ≡ false → (a.cell < from) ⊎ (until ≤ a.cell)
beside_them from until a own e = beside from until a.cell (ap (λ b. b && lies from until a.cell) (sym own) ∙ e)

-- nothing is freed yet
pub freed_none : (holds : Cells → Type 0) → Forgets holds → (from : ℕ) (cells : Cells) → holds cells → holds (freed from from cells)
freed_none holds forgets from cells h = forgets cells (freed from from cells) h (λ a. inl (by a (is_between from from a) refl))
  where
    by : (a : Addr) (b : Bool) → is_between from from a ≡ b → cond b Free (cells a) ≡ cells a
    by a true e = let f = among_them from from a e in let low = f.0 in let high = f.1 in absurd (omega (arith, low, high))
    by a false e = refl

-- what stands beside the freed cells stands there still, and of those nothing is known
pub kept_before : (from until x : ℕ) (cells : Cells) → (x < from) ⊎ (until ≤ x) → freed from until cells (packet_cell x) ≡ cells (packet_cell x)
kept_before from until x cells out = by (lies from until x) refl out
  where
    by : (b : Bool) → lies from until x ≡ b → (x < from) ⊎ (until ≤ x) → cond b Free (cells (packet_cell x)) ≡ cells (packet_cell x)
    by true e (inl low) = let f = among from until x e in let high = f.0 in absurd (omega (arith, low, high))
    by true e (inr past) = let f = among from until x e in let high = f.1 in absurd (omega (arith, past, high))
    by false e out = refl

pub free_there : (from until x : ℕ) (cells : Cells) → from ≤ x → x < until → freed from until cells (packet_cell x) ≡ Free
free_there from until x cells low high = by (lies from until x) refl
  where
    outside : (x < from) ⊎ (until ≤ x) → ⊥
    outside (inl out) = omega (arith, low, out)
    outside (inr out) = omega (arith, high, out)

    by : (b : Bool) → lies from until x ≡ b → cond b Free (cells (packet_cell x)) ≡ Free
    by true e = refl
    by false e = absurd (outside (beside from until x e))

-- ---- one cell more

module _ (from k : ℕ) (low : from ≤ k) (cells : Cells) where
  grows : (a : Addr) → is_between from (suc k) a ≡ true → is_between from k a ≡ false → a ≡ packet_cell k
  grows a e f = by (among_them from (suc k) a e) (beside_them from k a (in_packets from (suc k) a e) f)
    where
      by : (from ≤ a.cell) × (a.cell < suc k) → (a.cell < from) ⊎ (k ≤ a.cell) → a ≡ packet_cell k
      by x (inl y) = let z = x.0 in absurd (omega (arith, z, y))
      by x (inr y) =
          let z = x.1 in let is : a.cell ≡ k = omega (arith, z, y) in is_packets a (in_packets from (suc k) a e) ∙ ap packet_cell is

  stays : (a : Addr) → is_between from (suc k) a ≡ false → is_between from k a ≡ true → ⊥
  stays a e f = by (among_them from k a f) (beside_them from (suc k) a (in_packets from k a f) e)
    where
      by : (from ≤ a.cell) × (a.cell < k) → (a.cell < from) ⊎ (suc k ≤ a.cell) → ⊥
      by x (inl y) = let z = x.0 in omega (arith, z, y)
      by x (inr y) = let z = x.1 in omega (arith, z, y)

  freed_number : cell_blocks (cells (packet_cell k)) ≡ 0 → Within (freed from (suc k) cells) (freed from k cells)
  freed_number bare a = by (is_between from (suc k) a) (is_between from k a) refl refl
    where
      by : (b d : Bool) → is_between from (suc k) a ≡ b → is_between from k a ≡ d
          → (cond b Free (cells a) ≡ cond d Free (cells a)) ⊎ ((cond b Free (cells a) ≡ Free) × (cell_blocks (cond d Free (cells a)) ≡ 0))
      by true true e f = inl refl
      by true false e f = inr (refl, ap (λ a. cell_blocks (cells a)) (grows a e f) ∙ bare)
      by false true e f = absurd (stays a e f)
      by false false e f = inl refl

  freed_text : Within (freed from (suc k) cells) (written (freed from k cells) (packet_cell k) (Letters []))
  freed_text a = by (same_cell a (packet_cell k)) (is_between from (suc k) a) (is_between from k a) refl refl refl
    where
      outside : a.cell ≡ k → (a.cell < from) ⊎ (suc k ≤ a.cell) → ⊥
      outside is (inl y) = omega (arith, low, is, y)
      outside is (inr y) = omega (arith, is, y)

      differs : same_cell a (packet_cell k) ≡ false → same_cell a (packet_cell k) ≡ true → ⊥
      differs e f = let g : false ≡ true = sym e ∙ f in absurd (cc g)

      by : (s b d : Bool) → same_cell a (packet_cell k) ≡ s → is_between from (suc k) a ≡ b → is_between from k a ≡ d
          → (cond b Free (cells a) ≡ cond s (Letters []) (cond d Free (cells a)))
          ⊎ ((cond b Free (cells a) ≡ Free) × (cell_blocks (cond s (Letters []) (cond d Free (cells a))) ≡ 0))
      by true true d g e f = inr (refl, refl)
      by true false d g e f =
          let here = same_place a (packet_cell k) g in
          let is = ap (λ (a : Addr). a.cell) here in
          let own = ap (λ (a : Addr). same_area a.area Packets) here in
          absurd (outside is (beside_them from (suc k) a own e))
      by false true true g e f = inl refl
      by false true false g e f = let is = grows a e f in absurd (differs g (ap (λ a. same_cell a (packet_cell k)) is ∙ eq-eqb k k refl))
      by false false true g e f = absurd (stays a e f)
      by false false false g e f = inl refl

-- a text that was cleared is forgotten. That has room
pub text_freed : (before after : Cells → Type 0) → HasRoom after → Forgets after → (k : ℕ) (set : Set)
    → ((cells : Cells) → before cells → HasText (cells (packet_cell k)) → Puts after cells (packet_cell k) [] set)
    → (from : ℕ) (cells : Cells) → from ≤ k → before (freed from k cells) → HasText (cells (packet_cell k)) → after (freed from (k + 1) cells)
text_freed before after room forgets k set put from cells low h has =
    let next : suc k ≡ k + 1 = omega arith in
    subst (λ n. after (freed from n cells)) next
    (forgets (written now (packet_cell k) (Letters [])) (freed from (suc k) cells) (by set (put now h there)) (freed_text from k low cells))
  where
    now : Cells
    now = freed from k cells

    there : HasText (freed from k cells (packet_cell k))
    there = subst (λ (x : Cell). HasText x) (sym (kept_before from k k cells (inr (omega arith)))) has

    by : (set : Set) → Puts after (freed from k cells) (packet_cell k) [] set → after (written (freed from k cells) (packet_cell k) (Letters []))
    by Done puts = puts.1
    by HeapFull puts =
        let few = room (freed from k cells) puts.1 in
        let many = puts.0 in
        let less = blocks_without Packets (freed from k cells) (packet_cell k) (Letters []) refl in
        absurd (omega (arith, few, many, less))

-- a cell of a kind
text_is : (kind : Kind) (x : Cell) → is_text kind ≡ true → HoldsOf kind x → HasText x
text_is kind x is h = by kind h.value is h.of_kind h.held
  where
    by : (kind : Kind) (v : Value) → is_text kind ≡ true → IsOf kind v → x ≡ held_of v → HasText x
    by kinds.Text (Text t) is o e = record { text = t; is = e }
    by kinds.Text (Int z) is o e = absurd o
    by kinds.Text (Truth b) is o e = absurd o
    by kinds.Text (Task n) is o e = absurd o
    by kinds.Text (Space s) is o e = absurd o
    by kinds.Int v is o e = absurd (cc is)
    by kinds.Truth v is o e = absurd (cc is)
    by kinds.Task v is o e = absurd (cc is)
    by kinds.Space v is o e = absurd (cc is)

bare_is : (kind : Kind) (x : Cell) → is_text kind ≡ false → HoldsOf kind x → cell_blocks x ≡ 0
bare_is kind x not h = by kind h.value not h.of_kind h.held
  where
    by : (kind : Kind) (v : Value) → is_text kind ≡ false → IsOf kind v → x ≡ held_of v → cell_blocks x ≡ 0
    by kind (Int z) not o e = ap cell_blocks e
    by kind (Truth b) not o e = ap cell_blocks e
    by kind (Task n) not o e = ap cell_blocks e
    by kind (Space s) not o e = ap cell_blocks e
    by kinds.Text (Text t) not o e = absurd (cc not)
    by kinds.Int (Text t) not o e = absurd o
    by kinds.Truth (Text t) not o e = absurd o
    by kinds.Task (Text t) not o e = absurd o
    by kinds.Space (Text t) not o e = absurd o

pub text_cell : {T E : Type 0} (result : Result T E) (before after : Cells → Type 0) (kind : Kind) (k : ℕ) → is_text kind ≡ true
    → OnOk result ((from : ℕ) (cells : Cells) → from ≤ k → before (freed from k cells) → HasText (cells (packet_cell k)) → after (freed from (k + 1) cells))
    → OnOk result ((from : ℕ) (cells : Cells) → from ≤ k → before (freed from k cells) → HoldsOf kind (cells (packet_cell k)) → after (freed from (k + 1) cells))
text_cell (Ok x) before after kind k is f = λ from cells low h of. f from cells low h (text_is kind (cells (packet_cell k)) is of)
text_cell (Err e) before after kind k is f = tt

pub number_cell : (holds : Cells → Type 0) → Forgets holds → (kind : Kind) (k : ℕ) → is_text kind ≡ false → (from : ℕ) (cells : Cells) → from ≤ k
    → holds (freed from k cells) → HoldsOf kind (cells (packet_cell k)) → holds (freed from (k + 1) cells)
number_cell holds forgets kind k not from cells low h of =
    let next : suc k ≡ k + 1 = omega arith in
    subst (λ n. holds (freed from n cells)) next
    (forgets (freed from k cells) (freed from (suc k) cells) h (freed_number from k low cells (bare_is kind (cells (packet_cell k)) not of)))

-- ---- shape by shape

get_left : (xs ys : List Kind) (x : ℕ) (k : Kind) → slice_get xs x ≡ Some k → slice_get (xs ++ ys) x ≡ Some k
get_left [] ys x k e = absurd (cc e)
get_left (a ∷ xs) ys zero k e = e
get_left (a ∷ xs) ys (suc x) k e = get_left xs ys x k e

pub hold_behind : (at : ℕ) (xs ys : List Kind) (cells : Cells) → HoldEach at (xs ++ ys) cells → HoldEach (at + length xs) ys cells
hold_behind at xs ys cells each = λ x k e.
    let here : at + (length xs + x) ≡ at + length xs + x = omega arith in
    subst (λ n. HoldsOf k (cells (packet_cell n))) here (each (length xs + x) k (get_right xs ys x e))
  where
    get_right : (xs ys : List Kind) (x : ℕ) {k : Kind} → slice_get ys x ≡ Some k → slice_get (xs ++ ys) (length xs + x) ≡ Some k
    get_right [] ys x {k} e = let same : 0 + x ≡ x = omega arith in subst (λ n. slice_get ys n ≡ Some k) (sym same) e
    get_right (a ∷ xs) ys x {k} e =
        let same : suc (length xs) + x ≡ suc (length xs + x) = omega arith in
        subst (λ n. slice_get (a ∷ (xs ++ ys)) n ≡ Some k) (sym same) (get_right xs ys x e)

pub hold_front : (at : ℕ) (xs ys : List Kind) (cells : Cells) → HoldEach at (xs ++ ys) cells → HoldEach at xs cells
hold_front at xs ys cells each = λ x k e. each x k (get_left xs ys x k e)

module _ (at i : ℕ) (shapes : List Shape) (s d : Shape) (lt : i < length shapes) (is : s ≡ get_or shapes i d) where
  abbrev before_it : List Kind
  before_it = all_kinds (take i shapes)

  -- the cell behind it
  pub next_shape : (cell : ℕ) → cell ≡ at + length before_it → cell + length (cell_kinds s) ≡ at + length (all_kinds (take (i + 1) shapes))
  next_shape cell here =
      let e = ap length (kinds_more shapes i s d lt is) in
      let f = length-append before_it (cell_kinds s) in
      omega (arith, here, e, f)

  pub shape_fits : (cell end : ℕ) → cell ≡ at + length before_it → at + length (all_kinds shapes) ≤ end → cell + length (cell_kinds s) ≤ end
  shape_fits cell end here le =
      let behind = all_kinds (drop (suc i) shapes) in
      let e = ap length (kinds_around shapes i s d lt is) in
      let f = length-append before_it (cell_kinds s ++ behind) in
      let g = length-append (cell_kinds s) behind in
      omega (arith, here, le, e, f, g)

  pub shape_held : (cell : ℕ) (cells : Cells) → cell ≡ at + length before_it → HoldEach at (all_kinds shapes) cells → HoldEach cell (cell_kinds s) cells
  shape_held cell cells here each =
      let behind = all_kinds (drop (suc i) shapes) in
      let all = subst (λ ks. HoldEach at ks cells) (kinds_around shapes i s d lt is) each in
      subst (λ n. HoldEach n (cell_kinds s) cells) (sym here)
      (hold_front (at + length before_it) (cell_kinds s) behind cells (hold_behind at before_it (cell_kinds s ++ behind) cells all))
