-- Steps of the machine that look at memory.
use Rattle.std.proofs.Common.{◌≡◌, ℕ, zero, suc, ◌+◌, ◌-◌, Bool, true, false, cond, List, [], ◌∷◌, Option, Some, None, refl, sym, ap, ◌∙◌, subst, arith, ℤ, ◌⊎◌, inl, inr}
use Rattle.std.proofs.Common.{to_z, of_z}
use Rattle.std.specs.Prelude.{Ok, Err}
use Rattle.std.specs.Int.{w16}
use Rattle.std.specs.Int.RustNames.{FitsSigned}
use Rattle.std.proofs.lemmas.Bool.{ne_eqb}
use Rattle.std.proofs.lemmas.Int.{to_z-of_z}
use Rattle.eu_base.specs.declared.address.Addr.{Addr}
use Rattle.eu_base.specs.declared.value.Kind.{Kind}
use Rattle.eu_base.specs.declared.value.Kind.TheVariants as kinds
use Rattle.eu_base.specs.declared.value.Value.{Value}
use Rattle.eu_base.specs.declared.value.Value.TheVariants as item
use Rattle.eu_base.specs.declared.operation.Change.{Change}
use Rattle.eu_base.specs.declared.operation.Change.TheVariants.{Increase, Decrease, Append}
use Rattle.eu_base.specs.declared.operation.Way.{Way}
use Rattle.eu_base.specs.declared.stop.Stop.TheVariants as stops
use Rattle.eu_base.specs.declared.set.Set.TheVariants.{Done, HeapFull}
use Rattle.eu_base.specs.Values.{kind_of, number_of, cell_of, IsOf, number_in}
use Rattle.eu_base.specs.Room.{cells_fit, texts_fit}
use Rattle.eu_base.specs.Operations.{Given, change_kind, changed, is_past, has_reached, next_number}
use Rattle.eu_base.proofs.Results.{changed_gives, kind_is}
use Rattle.eu_base.specs.DataSpaces.{Heads}
use Rattle.eu_base.specs.SpacePlaces.{lies_in}
use Rattle.eu_base.specs.Cells.{Cell, Free, Word, Letters, Cells, held_of, IsCell, run_cell, place_in, written, cell_blocks, area_blocks}
use Rattle.code_form.specs.declared.operand.Operand.{Operand}
use Rattle.code_form.specs.declared.operand.Operand.TheVariants.{Value as Of, Place as At}
use Rattle.code_form.specs.declared.halt.Halt.{Halt}
use Rattle.code_form.specs.declared.halt.Halt.TheVariants as halts
use Rattle.code_form.specs.declared.waits.Waits.{Waits}
use Rattle.code_form.specs.declared.waits.Waits.TheVariants.{Nothing}
use Rattle.code_form.specs.declared.instr.Instr.{Instr}
use Rattle.code_form.specs.declared.instr.Instr.TheVariants.{Param, Modify, Limit, Step}
use Rattle.code_form.specs.Machine.{Position, Control, free, Move, Goes, Halts, Ends, Unknown, Scene, On, base_of, on_value, on_place}
use Rattle.code_form.specs.Program.{Program}
use Rattle.code_form.specs.Machine.{if_there, takes, puts, limit_to, at, using, goes, pushes, or_halt, on_word, on_number, on_cell, is_free, stage, move_stage}
use Rattle.zero_state.specs.Finds.{TopBoth}
use Rattle.zero_state.specs.Stacked.{Stacked}
use Rattle.zero_state.specs.declared.next.Next.{Next}
use Rattle.zero_state.specs.declared.next.Next.TheVariants.{On as On', CellRoom, TextRoom, NoSpace}
use Rattle.zero_state.specs.Stepping.{stage_of, mem_of, scene_of, stage_by, halt_of, Does, IsLike, Accesses}
use Rattle.zero_ops.specs.declared.error.Fault.{Fault}
use Rattle.zero_ops.specs.Given.{stop_of}
use Rattle.zero_steps.specs.Reading.{Reads, PutsTaken, Changes}
use Rattle.zero_state.proofs.Room.{same_like}
use Rattle.zero_state.specs.Emptied.{emptied}
use Rattle.zero_state.proofs.Emptied.{emptied_like}
use Rattle.zero_state.proofs.Making.{done, plain}

-- what memory answered is what it was known to hold
abbrev pub Answers : (Cells → Type 0) → Addr → ℕ → Type 0
Answers before a n = (cells : Cells) (m : ℕ) → before cells → cells a ≡ Word m → n ≡ m

-- what was known is known, and a cell besides
abbrev pub Keeps : (before after : Cells → Type 0) → Type 0
Keeps before after = (cells : Cells) → before cells → after cells

abbrev pub Writes : (before after : Cells → Type 0) → Addr → Cell → Type 0
Writes before after a x = (cells : Cells) → before cells → cell_blocks (cells a) ≡ 0 → after (written cells a x)

pub writes : (before between after : Cells → Type 0) (a : Addr) (x : Cell) (n : ℕ) → Word n ≡ x → Keeps before between
    → ((cells : Cells) → between cells → cell_blocks (cells a) ≡ 0 → after (written cells a (Word n))) → Writes before after a x
writes before between after a x n is kept put cells h bare = subst (λ x. after (written cells a x)) is (put cells (kept cells h) bare)

-- a number of 16 bits is what it stands for
pub same_number : (z y : ℤ) → FitsSigned w16 z → z ≡ y → to_z w16 (of_z w16 z) ≡ y
same_number z y fits is = to_z-of_z w16 z fits ∙ is

pub writes_number : (before between after : Cells → Type 0) (a b : Addr) (z y : ℤ) (n : ℕ) → a ≡ b → z ≡ y → n ≡ cell_of (item.Int z) → Keeps before between
    → ((cells : Cells) → between cells → cell_blocks (cells a) ≡ 0 → after (written cells a (Word n))) → Writes before after b (held_of (item.Int y))
writes_number before between after a b z y n here is held kept put =
    subst (λ b. Writes before after b (held_of (item.Int y))) here
    (writes before between after a (held_of (item.Int y)) n (ap Word (held ∙ ap (λ z. cell_of (item.Int z)) is)) kept put)

pub limit_answers : (before between : Cells → Type 0) (a : Addr) (k n : ℕ) → a ≡ run_cell k → Keeps before between → Answers between a n
    → Answers before (run_cell k) n
limit_answers before between a k n here kept answers = subst (λ a. Answers before a n) here (λ cells m h e. answers cells m (kept cells h) e)

-- a cell beside another
abbrev beside : ℕ → Addr
beside zero = run_cell 1
beside (suc k) = run_cell 0

beside_cell : (k : ℕ) → IsCell (beside k)
beside_cell zero = omega arith
beside_cell (suc k) = omega arith

beside_in : (k : ℕ) (heads : Heads) → lies_in (kinds.Int ∷ []) (beside k).area (beside k).cell heads ≡ true
beside_in zero heads = refl
beside_in (suc k) heads = refl

there : (cells : Cells) (k : ℕ) (x : Cell) → written cells (beside k) x (beside k) ≡ x
there cells zero x = refl
there cells (suc k) x = refl

else : (cells : Cells) (k : ℕ) (x : Cell) → written cells (beside k) x (run_cell k) ≡ cells (run_cell k)
else cells zero x = refl
else cells (suc k) x = ap (λ b. cond b x (cells (run_cell (suc k)))) (ne_eqb (suc k) 0 (λ e. omega (arith, e)))

-- what stands where these operands are pending
abbrev pub standing : (pc used : ℕ) → Stacked → Position
standing pc used t = record { pc = pc; ops = t.ops; used = used; frames = t.frames }

abbrev pub with_ops : Stacked → List Operand → Stacked
with_ops t ops = record { ops = ops; frames = t.frames }

-- two operands that were taken, or put back
pub both : (s t u : Stacked) (a b : Operand) → s ≡ with_ops t (a ∷ t.ops) → t ≡ with_ops u (b ∷ u.ops) → s ≡ with_ops u (a ∷ b ∷ u.ops)
both s t u a b e f = e ∙ ap (λ (t : Stacked). with_ops t (a ∷ t.ops)) f

pub if_true : (b : Bool) (m m' : Move) → b ≡ true → m ≡ cond b m m'
if_true b m m' e = ap (λ b. cond b m m') (sym e)

pub if_false : (b : Bool) (m m' : Move) → b ≡ false → m' ≡ cond b m m'
if_false b m m' e = ap (λ b. cond b m m') (sym e)

-- an operand like this one, and cells, with which a change goes on
record Example (heads : Heads) (by : Change) (v : Value) (a : Addr) (c : Value → Position) (ops : List Operand) : Type 0 where
  operand : Value
  like : IsLike (Of v) (Of operand)
  cells : Cells
  now : Cells
  leads : on_cell (change_kind by) (cells a) (λ old. or_halt (changed by old operand) (λ new. puts (c operand) a new ops (mem_of heads cells)))
      ≡ goes (c operand) ops (mem_of heads now)

-- where cells are there, and where they are not
pub there_is : (ks : List Kind) (a : Addr) (heads : Heads) (cells : Cells) (m : Move) → lies_in ks a.area a.cell heads ≡ true
    → m ≡ if_there ks a (mem_of heads cells) m
there_is ks a heads cells m e = if_true _ m (Halts stops.NoSpace) e

pub gone_is : (ks : List Kind) (a : Addr) (heads : Heads) (cells : Cells) (m : Move) → lies_in ks a.area a.cell heads ≡ false
    → Halts stops.NoSpace ≡ if_there ks a (mem_of heads cells) m
gone_is ks a heads cells m e = if_false _ m (Halts stops.NoSpace) e

module _ (heads : Heads) (a : Addr) (ops : List Operand) where
  -- a number goes into a cell that was read as one
  number_put : (seen : Cell) (new : Value) → IsOf kinds.Int new → on_cell kinds.Int seen (λ old. Ends) ≡ Ends → (c : Position)
      → lies_in (kinds.Int ∷ []) a.area a.cell heads ≡ true
      → puts c a new ops (mem_of heads (λ _. seen)) ≡ goes c ops (mem_of heads (written (λ _. seen) a (held_of new)))
  number_put Free new number e c here = absurd (cc e)
  number_put (Letters t) new number e c here = absurd (cc e)
  number_put (Word n) (item.Int z) number e c here =
      sym (there_is (kinds.Int ∷ []) a heads (λ _. Word n) (goes c ops (mem_of heads (written (λ _. Word n) a (held_of (item.Int z))))) here)
  number_put (Word n) (item.Truth b) number e c here = absurd number
  number_put (Word n) (item.Text t) number e c here = absurd number
  number_put (Word n) (item.Task t) number e c here = absurd number
  number_put (Word n) (item.Space s) number e c here = absurd number

  -- "" goes behind "" in the cell of a text
  empty_there : (c : Position) → lies_in (kinds.Text ∷ []) a.area a.cell heads ≡ true
      → puts c a (item.Text []) ops (mem_of heads (λ _. Letters [])) ≡ goes c ops (mem_of heads (written (λ _. Letters []) a (Letters [])))
  empty_there c here = sym (there_is (kinds.Text ∷ []) a heads (λ _. Letters []) (goes c ops (mem_of heads (written (λ _. Letters []) a (Letters [])))) here)

  empty_put : (v : Value) (c : Position) → lies_in (kinds.Text ∷ []) a.area a.cell heads ≡ true
      → or_halt (changed Append (item.Text []) (emptied v)) (λ new. puts c a new ops (mem_of heads (λ _. Letters [])))
      ≡ goes c ops (mem_of heads (written (λ _. Letters []) a (Letters [])))
  empty_put (item.Int z) c here = empty_there c here
  empty_put (item.Truth b) c here = empty_there c here
  empty_put (item.Text t) c here = empty_there c here
  empty_put (item.Task t) c here = empty_there c here
  empty_put (item.Space s) c here = empty_there c here

module _ (heads : Heads) (v old new : Value) (seen : Cell) (a : Addr) (c : Value → Position) (ops : List Operand) where
  of_number : (by : Change) → changed by old v ≡ Ok new → ((go : Value → Move) → on_cell (change_kind by) seen go ≡ go old) → IsOf kinds.Int new
      → on_cell kinds.Int seen (λ old. Ends) ≡ Ends → lies_in (kinds.Int ∷ []) a.area a.cell heads ≡ true → Example heads by v a c ops
  of_number by e is number read here = record {
    operand = v;
    like = (refl, omega arith);
    cells = λ _. seen;
    now = written (λ _. seen) a (held_of new);
    leads =
        is (λ old. or_halt (changed by old v) (λ new. puts (c v) a new ops (mem_of heads (λ _. seen))))
        ∙ ap (λ g. or_halt g (λ new. puts (c v) a new ops (mem_of heads (λ _. seen)))) e ∙ number_put heads a ops seen new number read (c v) here;
  }

  example_of : (by : Change) → changed by old v ≡ Ok new → ((go : Value → Move) → on_cell (change_kind by) seen go ≡ go old)
      → lies_in (change_kind by ∷ []) a.area a.cell heads ≡ true → Example heads by v a c ops
  example_of Increase e is here = of_number Increase e is (changed_gives Increase old v new e) (is (λ old. Ends)) here
  example_of Decrease e is here = of_number Decrease e is (changed_gives Decrease old v new e) (is (λ old. Ends)) here
  example_of Append e is here = record {
    operand = emptied v;
    like = emptied_like v;
    cells = λ _. Letters [];
    now = written (λ _. Letters []) a (Letters []);
    leads = empty_put heads a ops v (c (emptied v)) here;
  }

-- "" has room in the place of a text
puts_it : (w : Value) (c : Position) (a : Addr) (heads : Heads) (ops : List Operand) (cells : Cells) (m : Move)
    → lies_in (kind_of w ∷ []) a.area a.cell heads ≡ true
    → m ≡ if_there (kind_of (emptied w) ∷ []) a (mem_of heads cells) m
puts_it (item.Int z) c a heads ops cells m here = there_is (kinds.Int ∷ []) a heads cells m here
puts_it (item.Truth b) c a heads ops cells m here = there_is (kinds.Truth ∷ []) a heads cells m here
puts_it (item.Text t) c a heads ops cells m here = there_is (kinds.Text ∷ []) a heads cells m here
puts_it (item.Task t) c a heads ops cells m here = there_is (kinds.Task ∷ []) a heads cells m here
puts_it (item.Space s) c a heads ops cells m here = there_is (kinds.Space ∷ []) a heads cells m here

empty_goes : (w : Value) (c : Position) (a : Addr) (heads : Heads) (ops : List Operand)
    → puts c a (emptied w) ops (mem_of heads (λ _. held_of (emptied w)))
    ≡ if_there (kind_of (emptied w) ∷ []) a (mem_of heads (λ _. held_of (emptied w)))
    (goes c ops (mem_of heads (written (λ _. held_of (emptied w)) a (held_of (emptied w)))))
empty_goes (item.Int z) c a heads ops = refl
empty_goes (item.Truth b) c a heads ops = refl
empty_goes (item.Text t) c a heads ops = refl
empty_goes (item.Task t) c a heads ops = refl
empty_goes (item.Space s) c a heads ops = refl

pub puts_on : (w : Value) (c : Position) (a : Addr) (heads : Heads) (ops : List Operand) → lies_in (kind_of w ∷ []) a.area a.cell heads ≡ true
    → puts c a (emptied w) ops (mem_of heads (λ _. held_of (emptied w)))
    ≡ goes c ops (mem_of heads (written (λ _. held_of (emptied w)) a (held_of (emptied w))))
puts_on w c a heads ops here =
    empty_goes w c a heads ops
    ∙ sym (puts_it w c a heads ops (λ _. held_of (emptied w)) (goes c ops (mem_of heads (written (λ _. held_of (emptied w)) a (held_of (emptied w))))) here)

module _ (before after : Cells → Type 0) (heads : Heads) where
  -- the same, of a state that has these operands
  pub accessed : (i : Instr) (next : Next) (pc used pc' used' : ℕ) (s s' t t' : Stacked) (w : Waits) → w ≡ Nothing → s ≡ t → s' ≡ t'
      → Accesses before after heads i (standing pc used t) (free (standing pc' used' t')) next
      → Accesses before after heads i (standing pc used s) (record { position = standing pc' used' s'; waits = w }) next
  accessed i next pc used pc' used' s s' t t' w none e e' h =
      subst (λ (w : Waits). Accesses before after heads i (standing pc used s) (record { position = standing pc' used' s'; waits = w }) next) (sym none)
      (subst (λ (s : Stacked). Accesses before after heads i (standing pc used s) (free (standing pc' used' s')) next) (sym e)
      (subst (λ (s' : Stacked). Accesses before after heads i (standing pc used t) (free (standing pc' used' s')) next) (sym e') h))

  module _ (how : Option Halt) (c' : Control) (marks : ℕ) (c : Position) (s : Scene) where
    -- where a number is known, it is the one that was answered, and no text stands there
    pub on_known : (x : Cell) (go : ℕ → Move) (n : ℕ) → ((m : ℕ) → x ≡ Word m → n ≡ m) → (cell_blocks x ≡ 0 → Does after heads how c' marks (stage (go n) c s))
        → Does after heads how c' marks (stage (on_word x go) c s)
    on_known Free go n is d = tt
    on_known (Word m) go n is d = subst (λ k. Does after heads how c' marks (stage (go k) c s)) (is m refl) (d refl)
    on_known (Letters t) go n is d = tt

    on_free : (x : Cell) (m : Move) → (cell_blocks x ≡ 0 → Does after heads how c' marks (stage m c s))
        → Does after heads how c' marks (stage (cond (is_free x) m Unknown) c s)
    on_free Free m d = d refl
    on_free (Word n) m d = tt
    on_free (Letters t) m d = tt

  pub param_so : (k n : ℕ) (a place : Addr) (c : Position) (c' : Control) (next : Next) → a ≡ run_cell (base_of c.frames + k) → place ≡ place_in n
      → Answers before a n → Keeps before after
      → ((cells : Cells) (marks : ℕ) → stage_of (halt_of next) c' (scene_of (mem_of heads cells) marks) ≡ stage (pushes c (At place) c.ops (mem_of heads cells)) c (scene_of (mem_of heads cells) marks))
      → Accesses before after heads (Param k) c c' next
  param_so k n a place c c' next is place_is answers kept so p marks =
      let pushed : (cells : Cells) → stage_of (halt_of next) c' (scene_of (mem_of heads cells) marks)
      ≡ stage (pushes c (At (place_in n)) c.ops (mem_of heads cells)) c (scene_of (mem_of heads cells) marks) =
      λ cells. so cells marks ∙ ap (λ a. stage (pushes c (At a) c.ops (mem_of heads cells)) c (scene_of (mem_of heads cells) marks)) place_is in
      record {
        does = λ cells h.
            subst (λ a. Does after heads (halt_of next) c' marks (stage (on_word (cells a) (λ n. pushes c (At (place_in n)) c.ops (mem_of heads cells))) c (scene_of (mem_of heads cells) marks)))
            is
            (on_known (halt_of next) c' marks c (scene_of (mem_of heads cells) marks) (cells a) (λ n. pushes c (At (place_in n)) c.ops (mem_of heads cells)) n
            (λ m e. answers cells m h e) (λ bare. done after heads (halt_of next) c' marks _ cells (kept cells h) (pushed cells)));
        ops = c.ops;
        like = same_like c.ops;
        mem = mem_of heads (λ _. Word n);
        leads = inl (mem_of heads (λ _. Word n), pushed (λ _. Word n));
      }

  -- where a value is known, it is the one that was read
  read_so : (how : Option Halt) (c' : Control) (marks : ℕ) (c : Position) (kind : Kind) (v : Value) (a : Addr) → Reads before a kind v
      → (go : Cells → Value → Move) → ((cells : Cells) → before cells → Does after heads how c' marks (stage (go cells v) c (scene_of (mem_of heads cells) marks)))
      → (cells : Cells) → before cells → Does after heads how c' marks (stage (on_cell kind (cells a) (go cells)) c (scene_of (mem_of heads cells) marks))
  read_so how c' marks c kind v a reads go so cells h = by (reads.known cells h (go cells))
    where
      by : (on_cell kind (cells a) (go cells) ≡ go cells v) ⊎ (on_cell kind (cells a) (go cells) ≡ Unknown)
          → Does after heads how c' marks (stage (on_cell kind (cells a) (go cells)) c (scene_of (mem_of heads cells) marks))
      by (inl e) = subst (λ m. Does after heads how c' marks (stage m c (scene_of (mem_of heads cells) marks))) (sym e) (so cells h)
      by (inr e) = subst (λ m. Does after heads how c' marks (stage m c (scene_of (mem_of heads cells) marks))) (sym e) tt

  -- a value that was put into a cell has room there, or none
  module _ (marks : ℕ) (c : Position) (d : Control) (a : Addr) (v : Value) (ops : List Operand) (here : lies_in (kind_of v ∷ []) a.area a.cell heads ≡ true) where
    abbrev fitting : Cells → Bool
    fitting cells = texts_fit (cell_blocks (held_of v)) (area_blocks a.area (written cells a (held_of v)))

    abbrev put_if : Cells → Bool → Move
    put_if cells fits = cond fits (goes c ops (mem_of heads (written cells a (held_of v)))) (Halts stops.TextRoom)

    put_so : (how : Option Halt) (c' : Control)
        → ((cells : Cells) → before cells → takes (held_of v) (cells a) ≡ true
        → Does after heads how c' marks (move_stage (put_if cells (fitting cells)) d (scene_of (mem_of heads cells) marks)))
        → (cells : Cells) → before cells → Does after heads how c' marks (move_stage (puts c a v ops (mem_of heads cells)) d (scene_of (mem_of heads cells) marks))
    put_so how c' so cells h =
        subst (λ m. Does after heads how c' marks (move_stage m d (scene_of (mem_of heads cells) marks)))
        (there_is (kind_of v ∷ []) a heads cells (cond (takes (held_of v) (cells a)) (put_if cells (fitting cells)) Unknown) here)
        (by (takes (held_of v) (cells a)) refl)
      where
        by : (b : Bool) → takes (held_of v) (cells a) ≡ b → Does after heads how c' marks
            (move_stage (cond b (put_if cells (fitting cells)) Unknown) d (scene_of (mem_of heads cells) marks))
        by true e = so cells h e
        by false e = tt

    pub put_done : PutsTaken before after a (held_of v) Done → (cells : Cells) → before cells
        → Does after heads None (free (at c (c.pc + 1) ops)) marks (move_stage (puts c a v ops (mem_of heads cells)) d (scene_of (mem_of heads cells) marks))
    put_done put = put_so None (free (at c (c.pc + 1) ops)) (λ cells h taken.
        done after heads None (free (at c (c.pc + 1) ops)) marks _ (written cells a (held_of v)) (put cells h taken).1
        (ap (λ b. move_stage (put_if cells b) d (scene_of (mem_of heads cells) marks)) (sym (put cells h taken).0)))

    pub put_full : PutsTaken before after a (held_of v) HeapFull → (cells : Cells) → before cells
        → Does after heads (halt_of TextRoom) d marks (move_stage (puts c a v ops (mem_of heads cells)) d (scene_of (mem_of heads cells) marks))
    put_full put = put_so (halt_of TextRoom) d (λ cells h taken.
        done after heads (halt_of TextRoom) d marks _ cells (put cells h taken).1
        (ap (λ b. move_stage (put_if cells b) d (scene_of (mem_of heads cells) marks)) (sym (put cells h taken).0)))

  module _ (by : Change) (v : Value) (a : Addr) (pc used : ℕ) (t : Stacked) where
    abbrev changing : Value → Position
    changing v = standing pc used (with_ops t (Of v ∷ At a ∷ t.ops))

    -- the cell is not there
    pub modify_gone : Keeps before after → lies_in (change_kind by ∷ []) a.area a.cell heads ≡ false
        → Accesses before after heads (Modify by) (changing v) (free (changing v)) NoSpace
    modify_gone kept gone =
        plain before after heads (Modify by) (changing v) (free (changing v)) NoSpace (λ cells. cells)
        (λ cells p marks. ap (λ m. stage m (changing v) (scene_of (mem_of heads cells) marks)) (gone_is (change_kind by ∷ []) a heads cells _ gone)) kept

    abbrev then : Cells → Value → Move
    then cells new = puts (changing v) a new t.ops (mem_of heads cells)

    -- what follows what was read is what follows what is given
    given_so : (how : Option Halt) (c' : Control) (marks : ℕ) (old : Value) (g : Given) → lies_in (change_kind by ∷ []) a.area a.cell heads ≡ true
        → Reads before a (change_kind by) old → changed by old v ≡ g
        → ((cells : Cells) → before cells → Does after heads how c' marks (stage (or_halt g (then cells)) (changing v) (scene_of (mem_of heads cells) marks)))
        → (p : Program) (cells : Cells) → before cells → Does after heads how c' marks (stage_by p (Modify by) marks (changing v) (mem_of heads cells))
    given_so how c' marks old g here reads is so p cells h =
        subst (λ m. Does after heads how c' marks (stage m (changing v) (scene_of (mem_of heads cells) marks)))
        (there_is (change_kind by ∷ []) a heads cells _ here)
        (read_so how c' marks (changing v) (change_kind by) old a reads (λ cells old. or_halt (changed by old v) (then cells))
        (λ cells h. subst (λ g. Does after heads how c' marks (stage (or_halt g (then cells)) (changing v) (scene_of (mem_of heads cells) marks))) (sym is) (so cells h)) cells h)

    -- what is put there is of the kind of the change
    new_there : (old new : Value) → changed by old v ≡ Ok new → lies_in (change_kind by ∷ []) a.area a.cell heads ≡ true
        → lies_in (kind_of new ∷ []) a.area a.cell heads ≡ true
    new_there old new e here =
        ap (λ k. lies_in (k ∷ []) a.area a.cell heads) (kind_is (change_kind by) new (changed_gives by old v new e)) ∙ here

    pub modify_goes : lies_in (change_kind by ∷ []) a.area a.cell heads ≡ true → Changes before after a by v (Ok Done) → Accesses before after heads (Modify by) (changing v) (free (standing (pc + 1) used t)) On'
    modify_goes here r p marks =
        let x = example_of heads v r.old r.to.0 r.reads.seen a changing t.ops by r.to.1.0 r.reads.is here in
        record {
          does =
              given_so None (free (standing (pc + 1) used t)) marks r.old (Ok r.to.0) here r.reads r.to.1.0
              (put_done marks (changing v) (free (changing v)) a r.to.0 t.ops (new_there r.old r.to.0 r.to.1.0 here) r.to.1.1) p;
          ops = Of x.operand ∷ At a ∷ t.ops;
          like = (x.like, ((λ cell. cell), same_like t.ops));
          mem = mem_of heads x.cells;
          leads = inl (
            mem_of heads x.now,
            ap (λ m. stage m (changing x.operand) (scene_of (mem_of heads x.cells) marks))
                (sym x.leads ∙ there_is (change_kind by ∷ []) a heads x.cells _ here),
          );
        }

    pub modify_full : lies_in (change_kind by ∷ []) a.area a.cell heads ≡ true → Changes before after a by v (Ok HeapFull) → Accesses before after heads (Modify by) (changing v) (free (changing v)) TextRoom
    modify_full here r p marks =
        let x = example_of heads v r.old r.to.0 r.reads.seen a changing t.ops by r.to.1.0 r.reads.is here in
        record {
          does =
              given_so (halt_of TextRoom) (free (changing v)) marks r.old (Ok r.to.0) here r.reads r.to.1.0
              (put_full marks (changing v) (free (changing v)) a r.to.0 t.ops (new_there r.old r.to.0 r.to.1.0 here) r.to.1.1) p;
          ops = Of x.operand ∷ At a ∷ t.ops;
          like = (x.like, ((λ cell. cell), same_like t.ops));
          mem = mem_of heads x.cells;
          leads = inr (record {
            stops = refl;
            stays = refl;
            after = free (standing (pc + 1) used t);
            now = mem_of heads x.now;
            goes = ap (λ m. stage m (changing x.operand) (scene_of (mem_of heads x.cells) marks))
                (sym (there_is (change_kind by ∷ []) a heads x.cells _ here) ∙ x.leads);
          });
        }

    pub modify_stops : (fault : Fault) (next : Next) → lies_in (change_kind by ∷ []) a.area a.cell heads ≡ true → Changes before after a by v (Err fault) → halt_of next ≡ Some (halts.Stopped (stop_of fault))
        → Accesses before after heads (Modify by) (changing v) (free (changing v)) next
    modify_stops fault next here r how p marks =
        let so : (cells : Cells) → stage_of (halt_of next) (free (changing v)) (scene_of (mem_of heads cells) marks)
        ≡ stage (Halts (stop_of fault)) (changing v) (scene_of (mem_of heads cells) marks) =
        λ cells. ap (λ how. stage_of how (free (changing v)) (scene_of (mem_of heads cells) marks)) how in
        record {
          does = given_so (halt_of next) (free (changing v)) marks r.old (Err (stop_of fault)) here r.reads r.to.0
              (λ cells h. done after heads (halt_of next) (free (changing v)) marks _ cells (r.to.1 cells h) (so cells)) p;
          ops = Of v ∷ At a ∷ t.ops;
          like = same_like (Of v ∷ At a ∷ t.ops);
          mem = mem_of heads (λ _. r.reads.seen);
          leads = inl (
            mem_of heads (λ _. r.reads.seen),
            so (λ _. r.reads.seen)
                ∙ ap (λ m. stage m (changing v) (scene_of (mem_of heads (λ _. r.reads.seen)) marks))
                (sym (r.reads.is (λ old. or_halt (changed by old v) (then (λ _. r.reads.seen)))
                ∙ ap (λ g. or_halt g (then (λ _. r.reads.seen))) r.to.0)
                ∙ there_is (change_kind by ∷ []) a heads (λ _. r.reads.seen) _ here),
          );
        }

  pub limit_stops : (way : Way) (to : ℕ) (c : Position) (w : Waits) (both : TopBoth c.ops) → w ≡ Nothing → false ≡ cells_fit (c.used + 1) → Keeps before after
      → Accesses before after heads (Limit way to) c (record { position = c; waits = w }) CellRoom
  limit_stops way to c w both none full kept =
      plain before after heads (Limit way to) c (record { position = c; waits = w }) CellRoom (λ cells. cells)
      (λ cells p marks.
      ap (λ w. stage_of (halt_of CellRoom) (record { position = c; waits = w }) (scene_of (mem_of heads cells) marks)) none
      ∙ ap (λ m. stage m c (scene_of (mem_of heads cells) marks)) (if_false _ _ _ (sym full))
      ∙ ap (λ ops. stage (on_value ops (λ v ops. on_place ops (λ x ops. limit_to c way to (number_of v) x ops (mem_of heads cells)))) c (scene_of (mem_of heads cells) marks)) (sym both.top))
      kept

  -- the counter is not there
  pub limit_gone : (way : Way) (to : ℕ) (v : Value) (a : Addr) (pc used : ℕ) (t : Stacked) → cells_fit (used + 1) ≡ true
      → lies_in (kinds.Int ∷ []) a.area a.cell heads ≡ false → Keeps before after
      → Accesses before after heads (Limit way to) (standing pc used (with_ops t (Of v ∷ At a ∷ t.ops)))
      (free (standing pc used (with_ops t (Of v ∷ At a ∷ t.ops)))) NoSpace
  limit_gone way to v a pc used t room gone kept p marks =
      let c = standing pc used (with_ops t (Of v ∷ At a ∷ t.ops)) in
      record {
        does = λ cells h.
            subst (λ m. Does after heads (halt_of NoSpace) (free c) marks (stage m c (scene_of (mem_of heads cells) marks))) (if_true _ _ _ room)
            (on_free (halt_of NoSpace) (free c) marks c (scene_of (mem_of heads cells) marks) (cells (run_cell used)) _ (λ bare.
            done after heads (halt_of NoSpace) (free c) marks _ cells (kept cells h)
            (ap (λ m. stage m c (scene_of (mem_of heads cells) marks)) (gone_is (kinds.Int ∷ []) a heads cells _ gone))));
        ops = Of v ∷ At a ∷ t.ops;
        like = same_like (Of v ∷ At a ∷ t.ops);
        mem = mem_of heads (λ _. Free);
        leads = inl (
          mem_of heads (λ _. Free),
          ap (λ m. stage m c (scene_of (mem_of heads (λ _. Free)) marks))
              (gone_is (kinds.Int ∷ []) a heads (λ _. Free) _ gone ∙ if_true _ _ _ room),
        );
      }

  pub limit_so : (way : Way) (to n : ℕ) (v : Value) (a : Addr) (pc used pc' : ℕ) (t : Stacked) → cells_fit (used + 1) ≡ true
      → lies_in (kinds.Int ∷ []) a.area a.cell heads ≡ true → Answers before a n
      → Writes before after (run_cell used) (held_of (item.Int (number_of v))) → (b : Bool) (z w : ℤ) → z ≡ number_of v → w ≡ number_in n
      → b ≡ is_past way z w → pc' ≡ cond b to (pc + 1)
      → Accesses before after heads (Limit way to) (standing pc used (with_ops t (Of v ∷ At a ∷ t.ops))) (free (standing pc' (used + 1) t)) On'
  limit_so way to n v a pc used pc' t room here answers writes b z w z_is w_is past e p marks =
      let is : pc' ≡ cond (is_past way (number_of v) (number_in n)) to (pc + 1) =
      e ∙ ap (λ b. cond b to (pc + 1)) (past ∙ ap (λ z. is_past way z w) z_is ∙ ap (is_past way _) w_is) in
      let c = standing pc used (with_ops t (Of v ∷ At a ∷ t.ops)) in
      let d = standing pc used (with_ops t (Of v ∷ At (beside used) ∷ t.ops)) in
      let c' = free (standing pc' (used + 1) t) in
      let held = held_of (item.Int (number_of v)) in
      let seen : Cells = written (λ _. Free) (beside used) (Word n) in
      record {
        does = λ cells h.
            subst (λ m. Does after heads None c' marks (stage m c (scene_of (mem_of heads cells) marks))) (if_true _ _ _ room)
            (on_free None c' marks c (scene_of (mem_of heads cells) marks) (cells (run_cell used)) _ (λ bare.
            subst (λ m. Does after heads None c' marks (stage m c (scene_of (mem_of heads cells) marks))) (there_is (kinds.Int ∷ []) a heads cells _ here)
            (on_known None c' marks c (scene_of (mem_of heads cells) marks) (cells a) _ n (λ m e. answers cells m h e)
            (λ read. done after heads None c' marks _ (written cells (run_cell used) held) (writes cells h bare)
            (ap (λ pc. On (free (standing pc (used + 1) t)) (scene_of (mem_of heads (written cells (run_cell used) held)) marks)) is)))));
        ops = Of v ∷ At (beside used) ∷ t.ops;
        like = ((refl, omega arith), ((λ _. beside_cell used), same_like t.ops));
        mem = mem_of heads seen;
        leads = inl (
          mem_of heads (written seen (run_cell used) held),
          ap (λ pc. On (free (standing pc (used + 1) t)) (scene_of (mem_of heads (written seen (run_cell used) held)) marks)) is
              ∙ ap (λ x. stage (on_number x (λ z. Goes (using (at d (cond (is_past way (number_of v) z) to (pc + 1)) t.ops) (used + 1))
              (mem_of heads (written seen (run_cell used) held)))) d (scene_of (mem_of heads seen) marks)) (sym (there (λ _. Free) used (Word n)))
              ∙ ap (λ m. stage m d (scene_of (mem_of heads seen) marks)) (there_is (kinds.Int ∷ []) (beside used) heads seen (counts seen) (beside_in used heads))
              ∙ ap (λ x. stage (cond (is_free x) (limits seen) Unknown) d (scene_of (mem_of heads seen) marks)) (sym (else (λ _. Free) used (Word n)))
              ∙ ap (λ b. stage (cond b (cond (is_free (seen (run_cell used))) (limits seen) Unknown) (Halts stops.CellRoom)) d (scene_of (mem_of heads seen) marks)) (sym room),
        );
      }
    where
      counts : Cells → Move
      counts seen =
          on_number (seen (beside used)) (λ z.
          Goes (using (at (standing pc used (with_ops t (Of v ∷ At (beside used) ∷ t.ops))) (cond (is_past way (number_of v) z) to (pc + 1)) t.ops) (used + 1))
          (mem_of heads (written seen (run_cell used) (held_of (item.Int (number_of v))))))

      limits : Cells → Move
      limits seen = if_there (kinds.Int ∷ []) (beside used) (mem_of heads seen) (counts seen)

  module _ (way : Way) (to n l : ℕ) (a : Addr) (pc used : ℕ) (t : Stacked) (answers : Answers before a n) (limits : Answers before (run_cell (used - 1)) l)
      (z w : ℤ) (z_is : z ≡ number_in l) (w_is : w ≡ number_in n) (here : lies_in (kinds.Int ∷ []) a.area a.cell heads ≡ true) where
    reached : (b : Bool) → b ≡ has_reached way z w → has_reached way (number_in l) (number_in n) ≡ b
    reached b e = sym (e ∙ ap (λ z. has_reached way z w) z_is ∙ ap (has_reached way _) w_is)

    abbrev at_step : Addr → Position
    at_step a = standing pc used (with_ops t (At a ∷ t.ops))

    -- what a step does that was answered this limit and this number
    abbrev steps : Cells → Addr → ℕ → ℕ → Move
    steps cells a l n =
        cond (has_reached way (number_in l) (number_in n)) (Goes (at (at_step a) to t.ops) (mem_of heads cells))
        (goes (at_step a) t.ops (mem_of heads (written cells a (held_of (item.Int (next_number way (number_in n)))))))

    -- the cells where this is known
    abbrev seen : Cells
    seen = written (λ _. Word l) (beside (used - 1)) (Word n)

    step_so : (c' : Control) (kept : Cells → Addr → Cells)
        → ((a : Addr) (marks : ℕ) (cells : Cells)
        → stage_of None c' (scene_of (mem_of heads (kept cells a)) marks) ≡ stage (steps cells a l n) (at_step a) (scene_of (mem_of heads cells) marks))
        → ((cells : Cells) → before cells → cell_blocks (cells a) ≡ 0 → after (kept cells a)) → Accesses before after heads (Step way to) (at_step a) c' On'
    step_so c' kept so holds p marks = record {
      does = λ cells h.
          on_known None c' marks (at_step a) (scene_of (mem_of heads cells) marks) (cells (run_cell (used - 1))) _ l (λ m e. limits cells m h e) (λ read.
          subst (λ m. Does after heads None c' marks (stage m (at_step a) (scene_of (mem_of heads cells) marks))) (there_is (kinds.Int ∷ []) a heads cells _ here)
          (on_known None c' marks (at_step a) (scene_of (mem_of heads cells) marks) (cells a) _ n (λ m e. answers cells m h e)
          (λ bare. done after heads None c' marks _ (kept cells a) (holds cells h bare) (so a marks cells))));
      ops = At (beside (used - 1)) ∷ t.ops;
      like = ((λ _. beside_cell (used - 1)), same_like t.ops);
      mem = mem_of heads seen;
      leads = inl (
        mem_of heads (kept seen (beside (used - 1))),
        so (beside (used - 1)) marks seen
            ∙ ap (λ x. stage (on_word x (λ n. steps seen (beside (used - 1)) l n)) (at_step (beside (used - 1))) (scene_of (mem_of heads seen) marks))
            (sym (there (λ _. Word l) (used - 1) (Word n)))
            ∙ ap (λ m. stage m (at_step (beside (used - 1))) (scene_of (mem_of heads seen) marks))
            (there_is (kinds.Int ∷ []) (beside (used - 1)) heads seen (on_word (seen (beside (used - 1))) (λ n. steps seen (beside (used - 1)) l n))
            (beside_in (used - 1) heads))
            ∙ ap (λ x. stage (on_word x (λ l. if_there (kinds.Int ∷ []) (beside (used - 1)) (mem_of heads seen)
            (on_word (seen (beside (used - 1))) (λ n. steps seen (beside (used - 1)) l n)))) (at_step (beside (used - 1)))
            (scene_of (mem_of heads seen) marks)) (sym (else (λ _. Word l) (used - 1) (Word n))),
      );
    }

    pub step_ends : Keeps before after → (b : Bool) → b ≡ has_reached way z w → b ≡ true
        → Accesses before after heads (Step way to) (at_step a) (free (standing to used t)) On'
    step_ends kept b e so =
        let is = reached b e ∙ so in
        step_so (free (standing to used t)) (λ cells a. cells) (λ a marks cells. ap (λ m. stage m (at_step a) (scene_of (mem_of heads cells) marks)) (if_true _ _ _ is))
        (λ cells h bare. kept cells h)

    pub step_goes : Writes before after a (held_of (item.Int (next_number way (number_in n))))
        → (b : Bool) → b ≡ has_reached way z w → b ≡ false
        → Accesses before after heads (Step way to) (at_step a) (free (standing (pc + 1) used t)) On'
    step_goes writes b e so =
        let is = reached b e ∙ so in
        step_so (free (standing (pc + 1) used t)) (λ cells a. written cells a (held_of (item.Int (next_number way (number_in n)))))
        (λ a marks cells. ap (λ m. stage m (at_step a) (scene_of (mem_of heads cells) marks)) (if_false _ _ _ is)) writes

  -- the counter is not there
  module _ (way : Way) (to : ℕ) (a : Addr) (pc used : ℕ) (t : Stacked) (gone : lies_in (kinds.Int ∷ []) a.area a.cell heads ≡ false)
      (kept : Keeps before after) where
    abbrev counting : Position
    counting = standing pc used (with_ops t (At a ∷ t.ops))

    abbrev counted : Cells → Cell → Move
    counted cells x =
        on_number x (λ limit. if_there (kinds.Int ∷ []) a (mem_of heads cells) (on_number (cells a) (λ z.
        cond (has_reached way limit z) (Goes (at counting to t.ops) (mem_of heads cells))
        (goes counting t.ops (mem_of heads (written cells a (held_of (item.Int (next_number way z)))))))))

    uncounted : (marks : ℕ) (cells : Cells) → before cells → (x : Cell)
        → Does after heads (halt_of NoSpace) (free counting) marks (stage (counted cells x) counting (scene_of (mem_of heads cells) marks))
    uncounted marks cells h Free = tt
    uncounted marks cells h (Letters u) = tt
    uncounted marks cells h (Word l) =
        done after heads (halt_of NoSpace) (free counting) marks _ cells (kept cells h)
        (ap (λ m. stage m counting (scene_of (mem_of heads cells) marks)) (gone_is (kinds.Int ∷ []) a heads cells _ gone))

    pub step_gone : Accesses before after heads (Step way to) counting (free counting) NoSpace
    step_gone p marks = record {
      does = λ cells h. uncounted marks cells h (cells (run_cell (used - 1)));
      ops = At a ∷ t.ops;
      like = same_like (At a ∷ t.ops);
      mem = mem_of heads (λ _. Word 0);
      leads = inl (
        mem_of heads (λ _. Word 0),
        ap (λ m. stage m counting (scene_of (mem_of heads (λ _. Word 0)) marks)) (gone_is (kinds.Int ∷ []) a heads (λ _. Word 0) _ gone),
      );
    }
