-- Variables get what a message brings.
use Rattle.std.proofs.Common.{◌≡◌, ℕ, zero, suc, ◌+◌, ◌<◌, ◌≤◌, Bool, true, false, cond, List, [], ◌∷◌, length, drop, Option, Some, None, refl, sym, ap, ◌∙◌, subst, arith, ◌⊎◌, inl, inr, get_or}
use Rattle.std.specs.Prelude.{slice_get, ◌&&◌}
use Rattle.std.specs.List.{AllByRecursion}
use Rattle.std.proofs.lemmas.Option.{slice_get-get_or}
use Rattle.eu_base.specs.declared.address.Addr.{Addr}
use Rattle.eu_base.specs.declared.address.Area.{Area}
use Rattle.eu_base.specs.declared.address.Area.TheVariants as areas
use Rattle.eu_base.specs.declared.stop.Stop.TheVariants.{NoSpace}
use Rattle.eu_base.specs.declared.value.Kind.{Kind}
use Rattle.eu_base.specs.declared.value.Kind.TheVariants as kinds
use Rattle.eu_base.specs.declared.value.Value.{Value}
use Rattle.eu_base.specs.declared.value.Value.TheVariants as item
use Rattle.eu_base.specs.Values.{SpaceNo, kind_of, cell_of, space_of, number_in, truth_in, task_in, space_in}
use Rattle.eu_base.specs.Cells.{Cell, Free, Word, Letters, Cells, IsCell, held_of, written, cell_blocks}
use Rattle.eu_base.specs.DataSpaces.{Heads, SpaceChange, heads_after, is_live}
use Rattle.eu_base.specs.SpaceCells.{IsThere}
use Rattle.eu_base.specs.Room.{cells_fit}
use Rattle.eu_base.specs.SpacePlaces.{lies_in, is_in}
use Rattle.eu_base.specs.SpaceOperations.{forgetting}
use Rattle.eu_base.specs.Requests.{Suits}
use Rattle.code_form.specs.declared.operand.Operand.{Operand}
use Rattle.code_form.specs.declared.operand.Operand.TheVariants.{Value as Of, Place as At, Aggregate}
use Rattle.code_form.specs.Machine.{Mem, Position, Move, Refuses, Unknown, at, goes, on_cell, takes, takes_number, without_held, mem_by, mem_after}
use Rattle.code_form.specs.Machine.{receives_in, receives_at, receives}
use Rattle.zero_state.specs.Finds.{AreVariables}
use Rattle.zero_state.specs.Stepping.{mem_of}
use Rattle.zero_state.proofs.Blocks.{number_bare}
use Rattle.space_calls.specs.Planned.{cells_after}
use Rattle.zero_steps.specs.Received.{HeldSo, IsPlaceOf, Then, ReceivedIn, MissedIn, ReceivedTo, IsMissed, MissedAll}

-- an area is there where cells stand in it
pub area_of : (ks : List Kind) (area : Area) (x : ℕ) (heads : Heads) → lies_in ks area x heads ≡ true → IsThere heads area
area_of ks area x heads e = by area (second (cells_fit (x + length ks)) (is_in ks area x heads) e)
  where
    first : (a b : Bool) → (a && b) ≡ true → a ≡ true
    first true b e = refl
    first false b e = absurd (cc e)

    second : (a b : Bool) → (a && b) ≡ true → b ≡ true
    second true b e = e
    second false b e = absurd (cc e)

    by : (area : Area) → is_in ks area x heads ≡ true → IsThere heads area
    by areas.Run e = tt
    by areas.Packets e = tt
    by (areas.Space s) e = first (is_live s heads) _ e

-- a memory after changes has the data spaces after them
mem_is : (list : List SpaceChange) (m : Mem) → mem_after list m ≡ mem_of (heads_after list m.heads) (mem_after list m).cells
mem_is [] m = refl
mem_is (change ∷ list) m = mem_is list (mem_by change m)

-- ---- one variable

-- a number in a cell is no text
no_text : (v : Value) → held_of v ≡ Word (cell_of v) → kind_of v ≡ kinds.Text → ⊥
no_text (item.Int z) e is = cc is
no_text (item.Truth b) e is = cc is
no_text (item.Text t) e is = cc e
no_text (item.Task n) e is = cc is
no_text (item.Space s) e is = cc is

module _ (before after : Cells → Type 0) (had has : Heads) (a : Addr) (v : Value) (held : Option SpaceNo) (number : held_of v ≡ Word (cell_of v))
    (here : lies_in (kind_of v ∷ []) a.area a.cell had ≡ true) (read : HeldSo before a (kind_of v) held)
    (heads : has ≡ heads_after (forgetting held had) had)
    (kept : (cells : Cells) → before cells → cell_blocks (cells a) ≡ 0 → after (cells_after (forgetting held had) had (written cells a (held_of v)))) where
  -- the memory after the value was put into the cell
  abbrev put : Cells → Mem
  put cells = mem_of had (written cells a (held_of v))

  abbrev next : Then → Cells → Value → Move
  next go cells w = cond (takes (held_of v) (cells a)) (go (without_held (space_of w) (put cells))) Unknown

  opened : (c : Position) (ops : List Operand) (go : Then) (cells : Cells)
      → receives_in c ops a v (mem_of had cells) go ≡ on_cell (kind_of v) (cells a) (next go cells)
  opened c ops go cells =
      ap (λ (b : Bool). cond b (on_cell (kind_of v) (cells a) (next go cells)) (Refuses NoSpace (at c (c.pc + 1) ops) (mem_of had cells))) here

  -- what the cell is known to hold
  cases : (k : Kind) → (k ≡ kinds.Text → ⊥) → HeldSo before a k held → (cells : Cells) → before cells → (f : Value → Move) → (x : Cell) → cells a ≡ x
      → (on_cell k x f ≡ Unknown) ⊎ ((w : Value) × ((space_of w ≡ held) × ((takes_number x ≡ true) × (on_cell k x f ≡ f w))))
  cases kinds.Int some r cells h f Free e = inl refl
  cases kinds.Int some r cells h f (Word n) e = inr (item.Int (number_in n), (sym r, (refl, refl)))
  cases kinds.Int some r cells h f (Letters t) e = inl refl
  cases kinds.Truth some r cells h f Free e = inl refl
  cases kinds.Truth some r cells h f (Word n) e = inr (item.Truth (truth_in n), (sym r, (refl, refl)))
  cases kinds.Truth some r cells h f (Letters t) e = inl refl
  cases kinds.Text some r cells h f x e = absurd (some refl)
  cases kinds.Task some r cells h f Free e = inl refl
  cases kinds.Task some r cells h f (Word n) e = inr (item.Task (task_in n), (sym r, (refl, refl)))
  cases kinds.Task some r cells h f (Letters t) e = inl refl
  cases kinds.Space some r cells h f Free e = inl refl
  cases kinds.Space some r cells h f (Word n) e = inr (item.Space (space_in n), (sym (r cells n h e), (refl, refl)))
  cases kinds.Space some r cells h f (Letters t) e = inl refl

  taken : (x : Cell) → takes_number x ≡ true → takes (held_of v) x ≡ true
  taken x e = ap (λ (y : Cell). takes y x) number ∙ e

  abbrev now : Cells → Cells
  now cells = cells_after (forgetting held had) had (written cells a (held_of v))

  left : (o : Option SpaceNo) → o ≡ held → (cells : Cells) → without_held o (put cells) ≡ mem_of has (now cells)
  left o is cells =
      ap (λ (o : Option SpaceNo). without_held o (put cells)) is ∙ mem_is (forgetting held had) (put cells)
      ∙ ap (λ (h : Heads). mem_of h (now cells)) (sym heads)

  pub received_so : ReceivedIn before after had has a v
  received_so = record { known = λ c ops go cells h. by c ops go cells h (cases (kind_of v) (no_text v number) read cells h (next go cells) (cells a) refl) }
    where
      by : (c : Position) (ops : List Operand) (go : Then) (cells : Cells) → before cells
          → (on_cell (kind_of v) (cells a) (next go cells) ≡ Unknown)
          ⊎ ((w : Value) × ((space_of w ≡ held) × ((takes_number (cells a) ≡ true) × (on_cell (kind_of v) (cells a) (next go cells) ≡ next go cells w))))
          → (receives_in c ops a v (mem_of had cells) go ≡ Unknown)
          ⊎ ((left : Cells) × (after left × (receives_in c ops a v (mem_of had cells) go ≡ go (mem_of has left))))
      by c ops go cells h (inl e) = inl (opened c ops go cells ∙ e)
      by c ops go cells h (inr x) = inr (
        now cells,
        (
          kept cells h (number_bare (cells a) x.1.1.0),
          opened c ops go cells ∙ x.1.1.1
              ∙ ap (λ (b : Bool). cond b (go (without_held (space_of x.0) (put cells))) Unknown) (taken (cells a) x.1.1.0)
              ∙ ap go (left (space_of x.0) x.1.0 cells),
        ),
      )

-- ---- all of them

-- a variable of a number is the place of a cell
pub variable_there : (ks : List Kind) (os : List Operand) (n : ℕ) (k : Kind) → AreVariables ks os → slice_get ks n ≡ Some k
    → (a : Addr) × ((slice_get os n ≡ Some (At a)) × IsCell a)
variable_there [] os n k is e = let f : ⊥ = cc in absurd f
variable_there (j ∷ ks) [] n k is e = absurd is
variable_there (j ∷ ks) (Of v ∷ os) n k is e = absurd is
variable_there (j ∷ ks) (At a ∷ os) zero k is e = (a, (refl, is.0))
variable_there (j ∷ ks) (At a ∷ os) (suc n) k is e = variable_there ks os n k is.1 e
variable_there (j ∷ ks) (Aggregate vs ∷ os) n k is e = absurd is

pub place_of : (ks : List Kind) (os : List Operand) (n : ℕ) (k : Kind) → AreVariables ks os → slice_get ks n ≡ Some k → IsPlaceOf (slice_get os n)
place_of ks os n k is e = let x = variable_there ks os n k is e in subst IsPlaceOf (sym x.1.0) x.1.1

-- what is so of all is so of one
pub suits_there : (ks : List Kind) (es : List (ℕ × Value)) (n : ℕ) (e : ℕ × Value) → AllByRecursion (Suits ks) es → slice_get es n ≡ Some e → Suits ks e
suits_there ks [] n e all is = let f : ⊥ = cc in absurd f
suits_there ks (x ∷ es) zero e all is = let same : x ≡ e = cc in subst (Suits ks) same all.0
suits_there ks (x ∷ es) (suc n) e all is = suits_there ks es n e all.1 is

-- nothing stands behind all
pub drop_all : {A : Type 0} (xs : List A) (n : ℕ) → length xs ≤ n → drop n xs ≡ []
drop_all [] zero le = refl
drop_all [] (suc n) le = refl
drop_all (x ∷ xs) zero le = absurd (omega (arith, le))
drop_all (x ∷ xs) (suc n) le = drop_all xs n (omega (arith, le))

-- an item of a list
pub at_item : {A : Type 0} (xs : List A) (i : ℕ) (x d : A) → i < length xs → x ≡ get_or xs i d → slice_get xs i ≡ Some x
at_item xs i x d lt is = slice_get-get_or xs i d lt ∙ ap (λ x. Some x) (sym is)

-- what stands behind one
pub drop_item : {A : Type 0} (xs : List A) (n : ℕ) (x : A) → slice_get xs n ≡ Some x → drop n xs ≡ x ∷ drop (n + 1) xs
drop_item [] n x e = let f : ⊥ = cc in absurd f
drop_item (y ∷ xs) zero x e = let same : y ≡ x = cc in ap (λ y. y ∷ xs) same
drop_item (y ∷ xs) (suc n) x e =
    let same : suc n + 1 ≡ suc (n + 1) = omega arith in drop_item xs n x e ∙ ap (λ k. x ∷ drop k (y ∷ xs)) (sym same)

module _ (before now after : Cells → Type 0) (had mid has : Heads) (os : List Operand) (es : List (ℕ × Value)) (n : ℕ) (e : ℕ × Value) (a : Addr)
    (is : slice_get es n ≡ Some e) (there : slice_get os e.0 ≡ Some (At a)) (so_far : ReceivedTo before now had mid os es (drop n es)) where
  -- the next of them
  one : (c : Position) (ops : List Operand) (m : Mem) → receives c ops os (drop n es) m ≡ receives_in c ops a e.1 m (receives c ops os (drop (n + 1) es))
  one c ops m =
      ap (λ (es : List (ℕ × Value)). receives c ops os es m) (drop_item es n e is)
      ∙ ap (λ (o : Option Operand). receives_at c ops o e.1 m (receives c ops os (drop (n + 1) es))) there

  pub one_more : ReceivedIn now after mid has a e.1 → ReceivedTo before after had has os es (drop (n + 1) es)
  one_more got c ops cells h = by (so_far c ops cells h)
    where
      by : (receives c ops os es (mem_of had cells) ≡ Unknown)
          ⊎ ((left : Cells) × (now left × (receives c ops os es (mem_of had cells) ≡ receives c ops os (drop n es) (mem_of mid left))))
          → (receives c ops os es (mem_of had cells) ≡ Unknown)
          ⊎ ((left : Cells) × (after left × (receives c ops os es (mem_of had cells) ≡ receives c ops os (drop (n + 1) es) (mem_of has left))))
      by (inl lost) = inl lost
      by (inr x) = then (got.known c ops (receives c ops os (drop (n + 1) es)) x.0 x.1.0)
        where
          then : (receives_in c ops a e.1 (mem_of mid x.0) (receives c ops os (drop (n + 1) es)) ≡ Unknown)
              ⊎ ((left : Cells) × (after left × (receives_in c ops a e.1 (mem_of mid x.0) (receives c ops os (drop (n + 1) es))
              ≡ receives c ops os (drop (n + 1) es) (mem_of has left))))
              → (receives c ops os es (mem_of had cells) ≡ Unknown)
              ⊎ ((left : Cells) × (after left × (receives c ops os es (mem_of had cells) ≡ receives c ops os (drop (n + 1) es) (mem_of has left))))
          then (inl lost) = inl (x.1.1 ∙ one c ops (mem_of mid x.0) ∙ lost)
          then (inr y) = inr (y.0, (y.1.0, x.1.1 ∙ one c ops (mem_of mid x.0) ∙ y.1.1))

  pub one_missed : MissedIn now after mid has a e.1 → MissedAll before after had has os es
  one_missed missed = record {
    missed = record { number = n; entry = e; is = is; place = a; there = there; heads = mid; gone = missed.gone };
    known = λ c ops cells h. by c ops cells (so_far c ops cells h);
  }
    where
      refused : (c : Position) (ops : List Operand) (left : Cells)
          → receives c ops os (drop n es) (mem_of mid left) ≡ Refuses NoSpace (at c (c.pc + 1) ops) (mem_of has left)
      refused c ops left =
          one c ops (mem_of mid left)
          ∙ ap (λ (b : Bool). cond b (on_cell (kind_of e.1) (left a) (λ held.
          cond (takes (held_of e.1) (left a)) (receives c ops os (drop (n + 1) es) (without_held (space_of held) (mem_of mid (written left a (held_of e.1))))) Unknown))
          (Refuses NoSpace (at c (c.pc + 1) ops) (mem_of mid left))) missed.gone
          ∙ ap (λ (h : Heads). Refuses NoSpace (at c (c.pc + 1) ops) (mem_of h left)) (sym missed.heads)

      by : (c : Position) (ops : List Operand) (cells : Cells)
          → (receives c ops os es (mem_of had cells) ≡ Unknown)
          ⊎ ((left : Cells) × (now left × (receives c ops os es (mem_of had cells) ≡ receives c ops os (drop n es) (mem_of mid left))))
          → (receives c ops os es (mem_of had cells) ≡ Unknown)
          ⊎ ((left : Cells) × (after left × (receives c ops os es (mem_of had cells) ≡ Refuses NoSpace (at c (c.pc + 1) ops) (mem_of has left))))
      by c ops cells (inl lost) = inl lost
      by c ops cells (inr x) = inr (x.0, (missed.kept x.0 x.1.0, x.1.1 ∙ refused c ops x.0))

-- nothing was brought yet
pub none_yet : (holds : Cells → Type 0) (heads : Heads) (os : List Operand) (es : List (ℕ × Value)) → ReceivedTo holds holds heads heads os es es
none_yet holds heads os es c ops cells h = inr (cells, (h, refl))
