-- Steps of the machine with values of several cells.
use Rattle.std.proofs.Common.{◌≡◌, ℕ, zero, suc, ◌+◌, ◌-◌, ◌*◌, ◌/◌, ◌^◌, min, ◌<◌, ◌≤◌, Bool, true, false, cond, List, [], ◌∷◌, map, length, take, drop, Some, None, refl, sym}
use Rattle.std.proofs.Common.{ap, ◌∙◌, subst, arith, ◌⊎◌, inl, inr}
use Rattle.std.specs.Prelude.{Result, Ok, Err, OnOk}
use Rattle.code_form.specs.declared.waits.Waits.{Waits}
use Rattle.code_form.specs.declared.waits.Waits.TheVariants.{Nothing}
use Rattle.std.proofs.lemmas.Bool.{le-leb, leb-true, lt-leb}
use Rattle.std.proofs.lemmas.List.{length-map, length-take, take_all}
use Rattle.eu_base.specs.declared.address.Addr.{Addr}
use Rattle.eu_base.specs.declared.address.TheConstants.{CELLS}
use Rattle.eu_base.specs.declared.value.TheConstants.{OPERAND_BYTES}
use Rattle.eu_base.specs.declared.set.Set.TheVariants.{Done, HeapFull}
use Rattle.eu_base.specs.declared.value.Kind.{Kind}
use Rattle.eu_base.specs.declared.value.Value.{Value}
use Rattle.eu_base.specs.declared.shape.Shape.{Shape}
use Rattle.eu_base.specs.declared.shape.Shape.TheVariants.{Cell as OneCell}
use Rattle.eu_base.specs.declared.stop.Stop.TheVariants.{OperandRoom as NoRoom, TextRoom as NoTextRoom}
use Rattle.eu_base.specs.Shapes.{cell_kinds}
use Rattle.eu_base.specs.Values.{kind_of, number_of}
use Rattle.eu_base.specs.DataSpaces.{Heads}
use Rattle.eu_base.specs.SpacePlaces.{lies_in}
use Rattle.eu_base.specs.Room.{values_bytes, values_blocks, bytes_fit, texts_fit}
use Rattle.eu_base.specs.Cells.{Cell, Free, Cells, IsCell, area_blocks}
use Rattle.eu_base.proofs.Rooms.{least_all}
use Rattle.eu_base.proofs.Shapes.{kinds_of_cell}
use Rattle.code_form.specs.declared.operand.Operand.{Operand}
use Rattle.code_form.specs.declared.operand.Operand.TheVariants.{Value as Of, Place as At, Aggregate}
use Rattle.code_form.specs.declared.instr.Instr.TheVariants.{Pick, Take, Load, Store}
use Rattle.code_form.specs.Program.{Program}
use Rattle.code_form.specs.Machine.{Mem, Position, Control, free, Move, Halts, Unknown, On, operand_of, least_bytes, operand_bytes, bytes_on, bytes_of, goes, pushes}
use Rattle.code_form.specs.Machine.{on_all, on_cells, on_item, takes_all, written_all, puts_all, instruction, stage}
use Rattle.eu_base.specs.Operations.{in_row}
use Rattle.zero_state.specs.Finds.{is_value, all_of, TopBoth}
use Rattle.zero_state.specs.Stacked.{Stacked}
use Rattle.zero_state.specs.Emptied.{emptied, emptied_operand}
use Rattle.zero_state.specs.declared.next.Next.{Next}
use Rattle.zero_state.specs.declared.next.Next.TheVariants.{On as On', OperandRoom, TextRoom, NoSpace}
use Rattle.zero_state.specs.Stepping.{stage_of, mem_of, scene_of, stage_by, halt_of, Does, AreLike, StepsSo, GoesOn, Accesses}
use Rattle.zero_state.proofs.Room.{same_like, less_fits}
use Rattle.zero_state.proofs.Emptied.{emptied_operand_like, emptied_kinds, emptied_blocks}
use Rattle.zero_state.proofs.Making.{done, plain}
use Rattle.zero_steps.specs.Reading.{Reads, AllRead, PutsAll}
use Rattle.zero_steps.proofs.Accessing.{Keeps, standing, with_ops, if_true, if_false, there_is, gone_is}
use Rattle.zero_steps.proofs.Along.{put_cells, put_there}
use Rattle.zero_steps.proofs.Storing.{known_all, seen_of, seen_many, on_seen, without, emptied_taken}

-- a value takes the bytes of the values of its cells
pub operand_size : (vs : List Value) → operand_bytes (operand_of vs) ≡ values_bytes vs
operand_size [] = refl
operand_size (v ∷ []) = omega arith
operand_size (v ∷ w ∷ vs) = refl

pub value_size : (o : Operand) → is_value o ≡ true → operand_bytes o ≡ values_bytes (all_of o)
value_size (Of v) is = omega arith
value_size (At a) is = absurd (cc is)
value_size (Aggregate vs) is = refl

-- a value of one cell was read
pub one_read : (before : Cells → Type 0) (a : Addr) (k : Kind) (v : Value) → Reads before a k v → AllRead before a (cell_kinds (OneCell k)) (v ∷ [])
one_read before a k v r = subst (λ ks. AllRead before a ks (v ∷ [])) (sym (kinds_of_cell k)) (r, tt)

module _ (before after : Cells → Type 0) (heads : Heads) (shape : Shape) (a : Addr) (pc used : ℕ) (t : Stacked) where
  abbrev pub loading : Position
  loading = standing pc used (with_ops t (At a ∷ t.ops))

  abbrev cells_fit_there : Bool
  cells_fit_there = bytes_fit (least_bytes shape + bytes_on t.ops (bytes_of t.frames))

  abbrev are_there : Bool
  are_there = lies_in (cell_kinds shape) a.area a.cell heads

  -- its cells are not there
  pub load_gone : Keeps before after → are_there ≡ false → Accesses before after heads (Load shape) loading (free loading) NoSpace
  load_gone kept gone =
      plain before after heads (Load shape) loading (free loading) NoSpace (λ cells. cells)
      (λ cells p marks. ap (λ m. stage m loading (scene_of (mem_of heads cells) marks)) (gone_is (cell_kinds shape) a heads cells _ gone)) kept

  -- its cells alone have no room
  pub load_least : Keeps before after → are_there ≡ true → cells_fit_there ≡ false
      → Accesses before after heads (Load shape) loading (free loading) OperandRoom
  load_least kept here full =
      plain before after heads (Load shape) loading (free loading) OperandRoom (λ cells. cells)
      (λ cells p marks. ap (λ m. stage m loading (scene_of (mem_of heads cells) marks)) (if_false _ _ _ full ∙ there_is (cell_kinds shape) a heads cells _ here))
      kept

  module _ (vs : List Value) (low : IsCell a) (here : are_there ≡ true) (reads : AllRead before a (cell_kinds shape) vs) (kept : Keeps before after)
      (room : cells_fit_there ≡ true) where
    abbrev loads : Cells → List Value → Move
    loads cells vs = pushes loading (operand_of vs) t.ops (mem_of heads cells)

    abbrev reading : Cells → Move
    reading cells = on_cells (cell_kinds shape) a cells (loads cells)

    reads_it : (p : Program) (cells : Cells) → instruction p (Some (Load shape)) loading (mem_of heads cells) ≡ reading cells
    reads_it p cells = sym (if_true _ (reading cells) (Halts NoRoom) room ∙ there_is (cell_kinds shape) a heads cells _ here)

    few : length (cell_kinds shape) ≤ CELLS
    few = let small = leb-true (least_bytes shape + bytes_on t.ops (bytes_of t.frames)) OPERAND_BYTES room in omega (arith, small)

    -- cells that hold what was read
    abbrev seen : List Cell
    seen = seen_of before (cell_kinds shape) vs a reads

    abbrev holding : Cells
    holding = put_cells (λ _. Free) a seen

    holds_it : (go : List Value → Move) → on_cells (cell_kinds shape) a holding go ≡ go vs
    holds_it =
        let many = seen_many before (cell_kinds shape) vs a reads in
        on_seen before (cell_kinds shape) vs a reads holding (λ j x e. put_there seen a (λ _. Free) j x low (omega (arith, many, few)) e)

    load_so : (c' : Control) (next : Next)
        → ((cells : Cells) (marks : ℕ) → stage_of (halt_of next) c' (scene_of (mem_of heads cells) marks) ≡ stage (loads cells vs) loading (scene_of (mem_of heads cells) marks))
        → Accesses before after heads (Load shape) loading c' next
    load_so c' next so p marks = record {
      does = λ cells h.
          subst (λ m. Does after heads (halt_of next) c' marks (stage m loading (scene_of (mem_of heads cells) marks))) (sym (reads_it p cells))
          (by cells h (known_all before (cell_kinds shape) vs a reads cells h (loads cells)));
      ops = loading.ops;
      like = same_like loading.ops;
      mem = mem_of heads holding;
      leads = inl (
        mem_of heads holding,
        so holding marks ∙ ap (λ m. stage m loading (scene_of (mem_of heads holding) marks)) (sym (reads_it p holding ∙ holds_it (loads holding))),
      );
    }
      where
        by : (cells : Cells) → before cells → (reading cells ≡ loads cells vs) ⊎ (reading cells ≡ Unknown)
            → Does after heads (halt_of next) c' marks (stage (reading cells) loading (scene_of (mem_of heads cells) marks))
        by cells h (inl e) =
            subst (λ m. Does after heads (halt_of next) c' marks (stage m loading (scene_of (mem_of heads cells) marks))) (sym e)
            (done after heads (halt_of next) c' marks _ cells (kept cells h) (so cells marks))
        by cells h (inr e) = subst (λ m. Does after heads (halt_of next) c' marks (stage m loading (scene_of (mem_of heads cells) marks))) (sym e) tt

    pub load_goes : bytes_fit (bytes_on (operand_of vs ∷ t.ops) (bytes_of t.frames)) ≡ true
        → Accesses before after heads (Load shape) loading (free (standing (pc + 1) used (with_ops t (operand_of vs ∷ t.ops)))) On'
    load_goes fits =
        load_so (free (standing (pc + 1) used (with_ops t (operand_of vs ∷ t.ops)))) On'
        (λ cells marks. ap (λ m. stage m loading (scene_of (mem_of heads cells) marks)) (if_true _ _ _ fits))

    pub load_stops : bytes_fit (bytes_on (operand_of vs ∷ t.ops) (bytes_of t.frames)) ≡ false → Accesses before after heads (Load shape) loading (free loading) OperandRoom
    load_stops full = load_so (free loading) OperandRoom (λ cells marks. ap (λ m. stage m loading (scene_of (mem_of heads cells) marks)) (if_false _ _ _ full))

-- a cell of a kind stands there, or does not
pub one_there : (a : Addr) (k : Kind) (heads : Heads) → lies_in (k ∷ []) a.area a.cell heads ≡ true → lies_in (cell_kinds (OneCell k)) a.area a.cell heads ≡ true
one_there a k heads e = ap (λ ks. lies_in ks a.area a.cell heads) (kinds_of_cell k) ∙ e

pub one_gone : (a : Addr) (k : Kind) (heads : Heads) → lies_in (k ∷ []) a.area a.cell heads ≡ false → lies_in (cell_kinds (OneCell k)) a.area a.cell heads ≡ false
one_gone a k heads e = ap (λ ks. lies_in ks a.area a.cell heads) (kinds_of_cell k) ∙ e

-- a value of one cell has room for its cell where the place has
pub one_fits : (a : Addr) (k : Kind) (t s : Stacked) → s ≡ with_ops t (At a ∷ t.ops) → bytes_fit (bytes_on s.ops (bytes_of s.frames)) ≡ true
    → bytes_fit (least_bytes (OneCell k) + bytes_on t.ops (bytes_of t.frames)) ≡ true
one_fits a k t s is fits =
    let one : least_bytes (OneCell k) ≡ 8 = ap (λ ks. 8 * length ks) (kinds_of_cell k) in
    ap (λ n. bytes_fit (n + bytes_on t.ops (bytes_of t.frames))) one
    ∙ ap (λ (s : Stacked). bytes_fit (bytes_on s.ops (bytes_of s.frames))) (sym is) ∙ fits

module _ (before after : Cells → Type 0) (heads : Heads) (shape : Shape) (o : Operand) (value : is_value o ≡ true) (a : Addr) (low : IsCell a) (pc used : ℕ)
    (t : Stacked) (few : length (all_of o) ≤ CELLS) where
  abbrev pub storing : Operand → Position
  storing o = standing pc used (with_ops t (o ∷ At a ∷ t.ops))

  abbrev stored : Control
  stored = free (standing (pc + 1) used t)

  stores_it : (q : Operand) → is_value q ≡ true → (p : Program) (cells : Cells)
      → instruction p (Some (Store shape)) (storing q) (mem_of heads cells) ≡ puts_all (storing q) a (all_of q) t.ops (mem_of heads cells)
  stores_it (Of v) is p cells = refl
  stores_it (At b) is p cells = absurd (cc is)
  stores_it (Aggregate vs) is p cells = refl

  abbrev vs : List Value
  vs = all_of o

  abbrev put_if : Cells → Bool → Move
  put_if cells fits = cond fits (goes (storing o) t.ops (mem_of heads (written_all cells a vs))) (Halts NoTextRoom)

  abbrev fitting : Cells → Bool
  fitting cells = texts_fit (values_blocks vs) (area_blocks a.area (written_all cells a vs))

  -- its cells are not there
  pub store_gone : Keeps before after → lies_in (map kind_of vs) a.area a.cell heads ≡ false
      → Accesses before after heads (Store shape) (storing o) (free (storing o)) NoSpace
  store_gone kept gone =
      plain before after heads (Store shape) (storing o) (free (storing o)) NoSpace (λ cells. cells)
      (λ cells p marks. ap (λ m. stage m (storing o) (scene_of (mem_of heads cells) marks))
      (gone_is (map kind_of vs) a heads cells _ gone ∙ sym (stores_it o value p cells))) kept

  put_so : (how : Next) (c' : Control) (p : Program) (marks : ℕ) → lies_in (map kind_of vs) a.area a.cell heads ≡ true
      → ((cells : Cells) → before cells → takes_all vs a cells ≡ true
      → Does after heads (halt_of how) c' marks (stage (put_if cells (fitting cells)) (storing o) (scene_of (mem_of heads cells) marks)))
      → (cells : Cells) → before cells
      → Does after heads (halt_of how) c' marks (stage (instruction p (Some (Store shape)) (storing o) (mem_of heads cells)) (storing o) (scene_of (mem_of heads cells) marks))
  put_so how c' p marks here so cells h =
      subst (λ m. Does after heads (halt_of how) c' marks (stage m (storing o) (scene_of (mem_of heads cells) marks)))
      (there_is (map kind_of vs) a heads cells _ here ∙ sym (stores_it o value p cells))
      (by (takes_all vs a cells) refl)
    where
      by : (b : Bool) → takes_all vs a cells ≡ b
          → Does after heads (halt_of how) c' marks (stage (cond b (put_if cells (fitting cells)) Unknown) (storing o) (scene_of (mem_of heads cells) marks))
      by true e = so cells h e
      by false e = tt

  -- with "" in the place of each text it has room
  abbrev other : Operand
  other = emptied_operand o

  other_value : (q : Operand) → is_value q ≡ true → is_value (emptied_operand q) ≡ true
  other_value (Of v) is = refl
  other_value (At b) is = absurd (cc is)
  other_value (Aggregate us) is = refl

  other_all : (q : Operand) → all_of (emptied_operand q) ≡ map emptied (all_of q)
  other_all (Of v) = refl
  other_all (At b) = refl
  other_all (Aggregate us) = refl

  abbrev ws : List Value
  ws = map emptied vs

  abbrev holding' : Cells
  holding' = without vs a (λ _. Free) low few

  many : length ws ≡ length vs
  many = length-map vs emptied

  -- it is of the same kinds
  ws_there : lies_in (map kind_of vs) a.area a.cell heads ≡ true → lies_in (map kind_of ws) a.area a.cell heads ≡ true
  ws_there here = ap (λ ks. lies_in ks a.area a.cell heads) (sym (emptied_kinds vs)) ∙ here

  goes_emptied : lies_in (map kind_of vs) a.area a.cell heads ≡ true → (p : Program)
      → instruction p (Some (Store shape)) (storing other) (mem_of heads holding') ≡ goes (storing other) t.ops (mem_of heads (written_all holding' a ws))
  goes_emptied here p =
      stores_it other (other_value o value) p holding' ∙ ap (λ l. puts_all (storing other) a l t.ops (mem_of heads holding')) (other_all o)
      ∙ sym (there_is (map kind_of ws) a heads holding' _ (ws_there here))
      ∙ ap (λ b. cond b (cond (texts_fit (values_blocks ws) (area_blocks a.area (written_all holding' a ws)))
      (goes (storing other) t.ops (mem_of heads (written_all holding' a ws))) (Halts NoTextRoom)) Unknown) (emptied_taken vs a (λ _. Free) low few)
      ∙ ap (λ n. cond (texts_fit n (area_blocks a.area (written_all holding' a ws))) (goes (storing other) t.ops (mem_of heads (written_all holding' a ws)))
      (Halts NoTextRoom)) (emptied_blocks vs)

  like : AreLike (o ∷ At a ∷ t.ops) (other ∷ At a ∷ t.ops)
  like = (emptied_operand_like o, ((λ cell. cell), same_like t.ops))

  pub store_goes : lies_in (map kind_of vs) a.area a.cell heads ≡ true → PutsAll before after a vs Done → Accesses before after heads (Store shape) (storing o) stored On'
  store_goes here put p marks = record {
    does =
        put_so On' stored p marks here (λ cells h taken.
        done after heads None stored marks _ (written_all cells a vs) (put cells h taken).1
        (ap (λ b. stage (put_if cells b) (storing o) (scene_of (mem_of heads cells) marks)) (sym (put cells h taken).0)));
    ops = other ∷ At a ∷ t.ops;
    like = like;
    mem = mem_of heads holding';
    leads = inl (
      mem_of heads (written_all holding' a ws),
      ap (λ m. stage m (storing other) (scene_of (mem_of heads holding') marks)) (sym (goes_emptied here p)),
    );
  }

  pub store_full : lies_in (map kind_of vs) a.area a.cell heads ≡ true → PutsAll before after a vs HeapFull → Accesses before after heads (Store shape) (storing o) (free (storing o)) TextRoom
  store_full here put p marks = record {
    does =
        put_so TextRoom (free (storing o)) p marks here (λ cells h taken.
        done after heads (halt_of TextRoom) (free (storing o)) marks _ cells (put cells h taken).1
        (ap (λ b. stage (put_if cells b) (storing o) (scene_of (mem_of heads cells) marks)) (sym (put cells h taken).0)));
    ops = other ∷ At a ∷ t.ops;
    like = like;
    mem = mem_of heads holding';
    leads = inr (record {
      stops = refl;
      stays = refl;
      after = stored;
      now = mem_of heads (written_all holding' a ws);
      goes = ap (λ m. stage m (storing other) (scene_of (mem_of heads holding') marks)) (goes_emptied here p);
    });
  }

-- a part of a value takes no more bytes than the value
part_size : (vs : List Value) (size : ℕ) → values_bytes (take size vs) ≤ values_bytes vs
part_size [] zero = omega arith
part_size [] (suc n) = omega arith
part_size (v ∷ vs) zero = omega arith
part_size (v ∷ vs) (suc n) = let rest = part_size vs n in omega (arith, rest)

rest_size : (vs : List Value) (from : ℕ) → values_bytes (drop from vs) ≤ values_bytes vs
rest_size [] zero = omega arith
rest_size [] (suc n) = omega arith
rest_size (v ∷ vs) zero = omega arith
rest_size (v ∷ vs) (suc n) = let rest = rest_size vs n in omega (arith, rest)

pub part_fits : (o : Operand) (from size : ℕ) (t s : Stacked) → is_value o ≡ true → s ≡ with_ops t (o ∷ t.ops)
    → bytes_fit (bytes_on s.ops (bytes_of s.frames)) ≡ true
    → bytes_fit (bytes_on (operand_of (take size (drop from (all_of o))) ∷ t.ops) (bytes_of t.frames)) ≡ true
part_fits o from size t s value is fits =
    let a = operand_size (take size (drop from (all_of o))) in
    let b = part_size (drop from (all_of o)) size in
    let c = rest_size (all_of o) from in
    let d = value_size o value in
    less_fits _ _ (omega (arith, a, b, c, d)) (ap (λ (s : Stacked). bytes_fit (bytes_on s.ops (bytes_of s.frames))) (sym is) ∙ fits)

module _ (o : Operand) (value : is_value o ≡ true) (from size pc used : ℕ) (t : Stacked) where
  abbrev part : Operand
  part = operand_of (take size (drop from (all_of o)))

  abbrev pub partly : Control
  partly = free (standing (pc + 1) used (with_ops t (part ∷ t.ops)))

  on_it : (q : Operand) → is_value q ≡ true → (go : List Value → List Operand → Move) → on_all (q ∷ t.ops) go ≡ go (all_of q) t.ops
  on_it (Of v) is go = refl
  on_it (At a) is go = absurd (cc is)
  on_it (Aggregate us) is go = refl

  module _ (fits : bytes_fit (bytes_on (part ∷ t.ops) (bytes_of t.frames)) ≡ true) where
    pub take_so : (n : ℕ) (mem : Mem) → StepsSo (Take n from size) (standing pc used (with_ops t (o ∷ t.ops))) mem partly mem On'
    take_so n mem p marks =
        let c = standing pc used (with_ops t (o ∷ t.ops)) in
        ap (λ m. stage m c (scene_of mem marks))
        (if_true _ (goes c (part ∷ t.ops) mem) (Halts NoRoom) fits ∙ sym (on_it o value (λ vs ops. pushes c (operand_of (take size (drop from vs))) ops mem)))

    pub pick_so : (n k : ℕ) (number : Value) → in_row n (number_of number) ≡ Some k → from ≡ k * size → (mem : Mem)
        → StepsSo (Pick n size) (standing pc used (with_ops t (Of number ∷ o ∷ t.ops))) mem partly mem On'
    pick_so n k number there is mem p marks =
        let c = standing pc used (with_ops t (Of number ∷ o ∷ t.ops)) in
        ap (λ m. stage m c (scene_of mem marks))
        (if_true _ (goes c (part ∷ t.ops) mem) (Halts NoRoom) fits
        ∙ ap (λ n. pushes c (operand_of (take size (drop n (all_of o)))) t.ops mem) is
        ∙ ap (λ k. on_item k (λ k. pushes c (operand_of (take size (drop (k * size) (all_of o)))) t.ops mem)) (sym there)
        ∙ sym (on_it o value (λ vs ops. on_item (in_row n (number_of number)) (λ k. pushes c (operand_of (take size (drop (k * size) vs))) ops mem))))

-- a value that was taken from the top
pub popped_value : (s t : Stacked) (o q : Operand) (rest : List Operand) → s ≡ with_ops t (o ∷ t.ops) → s.ops ≡ q ∷ rest → is_value q ≡ true
    → is_value o ≡ true
popped_value s t o q rest is top value =
    let e : o ∷ t.ops ≡ q ∷ rest = sym (ap (λ (s : Stacked). s.ops) is) ∙ top in
    let same : q ≡ o = cc e in
    ap is_value (sym same) ∙ value

module _ (o : Operand) (rest : List Operand) (pc used : ℕ) (w : Waits) (c' : Control) (value : is_value o ≡ true) (none : w ≡ Nothing) where
  abbrev below : Stacked → Stacked
  below s = record { ops = rest; frames = s.frames }

  -- what a part leaves on top
  abbrev pub Leaves : (from size : ℕ) → Stacked → Type 0
  Leaves from size s = (operand : Operand) (rest : List Operand) → s.ops ≡ operand ∷ rest → c'
      ≡ record { position = record (standing pc used s) { pc = pc + 1; ops = operand_of (take size (drop from (all_of operand))) ∷ rest }; waits = w }

  left : (from size : ℕ) (s : Stacked) → s.ops ≡ o ∷ rest → Leaves from size s → c' ≡ partly o value from size pc used (below s)
  left from size s top leaves =
      leaves o rest top
      ∙ ap (λ w. record { position = standing (pc + 1) used (with_ops (below s) (operand_of (take size (drop from (all_of o))) ∷ rest)); waits = w }) none

  pub took : {T E : Type 0} (result : Result T E) (n from size f z : ℕ) (s : Stacked) → f ≡ from → z ≡ size → s.ops ≡ o ∷ rest
      → bytes_fit (bytes_on s.ops (bytes_of s.frames)) ≡ true → OnOk result (Leaves f z s)
      → OnOk result ((mem : Mem) → GoesOn (Take n from size) (standing pc used s) mem c' mem)
  took (Err e) n from size f z s from_is size_is top room leaves = tt
  took (Ok x) n from size f z s from_is size_is top room leaves = λ mem p marks.
      let there : s ≡ with_ops (below s) (o ∷ rest) = ap (λ (ops : List Operand). with_ops (below s) ops) top in
      let leaves' : Leaves from size s = subst (λ z. Leaves from z s) size_is (subst (λ f. Leaves f z s) from_is leaves) in
      ap (λ d. On d (scene_of mem marks)) (left from size s top leaves')
      ∙ take_so o value from size pc used (below s) (part_fits o from size (below s) s value there room) n mem p marks
      ∙ ap (λ (s : Stacked). stage_by p (Take n from size) marks (standing pc used s) mem) (sym there)

  pub picked : (n size k f z : ℕ) (number : Value) (s t : Stacked) → s ≡ with_ops t (Of number ∷ t.ops) → t.ops ≡ o ∷ rest
      → bytes_fit (bytes_on t.ops (bytes_of t.frames)) ≡ true → Leaves f z t → in_row n (number_of number) ≡ Some k → f ≡ k * size → z ≡ size
      → (mem : Mem) → StepsSo (Pick n size) (standing pc used s) mem c' mem On'
  picked n size k f z number s t is top room leaves row from_is size_is mem p marks =
      let leaves' : Leaves (k * size) size t = subst (λ z. Leaves (k * size) z t) size_is (subst (λ f. Leaves f z t) from_is leaves) in
      let there : t ≡ with_ops (below t) (o ∷ rest) = ap (λ (ops : List Operand). with_ops (below t) ops) top in
      let whole : s ≡ with_ops (below t) (Of number ∷ o ∷ rest) = is ∙ ap (λ (t : Stacked). with_ops t (Of number ∷ t.ops)) there in
      ap (λ d. On d (scene_of mem marks)) (left (k * size) size t top leaves')
      ∙ pick_so o value (k * size) size pc used (below t) (part_fits o (k * size) size (below t) t value there room) n k number row refl mem p marks
      ∙ ap (λ (s : Stacked). stage_by p (Pick n size) marks (standing pc used s) mem) (sym whole)

-- what stands below a number that was taken
pub below_number : (s t : Stacked) (v w : Value) (o : Operand) (rest : List Operand) → s ≡ with_ops t (Of v ∷ t.ops) → s.ops ≡ Of w ∷ o ∷ rest
    → (v ≡ w) × (t.ops ≡ o ∷ rest)
below_number s t v w o rest is top =
    let e : Of v ∷ t.ops ≡ Of w ∷ o ∷ rest = sym (ap (λ (s : Stacked). s.ops) is) ∙ top in (cc e, cc e)

pub fewer_fit : (s t : Stacked) (o : Operand) → s ≡ with_ops t (o ∷ t.ops) → bytes_fit (bytes_on s.ops (bytes_of s.frames)) ≡ true
    → bytes_fit (bytes_on t.ops (bytes_of t.frames)) ≡ true
fewer_fit s t o is fits = less_fits _ _ (omega arith) (ap (λ (s : Stacked). bytes_fit (bytes_on s.ops (bytes_of s.frames))) (sym is) ∙ fits)

-- whether the cells of a value have room, by the first of its kinds
module _ (ks kinds : List Kind) (room held : ℕ) (is : kinds ≡ take (room / 8 + 1) ks) (whole : room + held ≡ OPERAND_BYTES) where
  cut : length kinds ≡ min (room / 8 + 1) (length ks)
  cut = ap length is ∙ length-take (room / 8 + 1) ks

  pub too_many : room / 8 < length kinds → bytes_fit (8 * length ks + held) ≡ false
  too_many more = lt-leb (8 * length ks + held) OPERAND_BYTES (omega (arith, cut, more, whole))

  pub all_kinds : length kinds ≤ room / 8 → kinds ≡ ks
  all_kinds le = is ∙ take_all (room / 8 + 1) ks (omega (arith, cut, le))

  pub have_room : length kinds ≤ room / 8 → bytes_fit (8 * length ks + held) ≡ true
  have_room le = le-leb (8 * length ks + held) OPERAND_BYTES (omega (arith, cut, le, whole))

-- whether the value has
pub value_full : (o : Operand) (bytes room held : ℕ) → room + held ≡ OPERAND_BYTES → bytes ≡ min (operand_bytes o) (2 ^ 64 - 1) → room < bytes
    → bytes_fit (operand_bytes o + held) ≡ false
value_full o bytes room held whole is more = lt-leb (operand_bytes o + held) OPERAND_BYTES (omega (arith, whole, is, more))

pub value_fits : (o : Operand) (bytes room held : ℕ) → room + held ≡ OPERAND_BYTES → bytes ≡ min (operand_bytes o) (2 ^ 64 - 1) → bytes ≤ room
    → bytes_fit (operand_bytes o + held) ≡ true
value_fits o bytes room held whole is le = le-leb (operand_bytes o + held) OPERAND_BYTES (omega (arith, whole, is, le))

-- a pending value has few cells
pub few_cells : (s : Stacked) (o : Operand) → is_value o ≡ true → (rest : List Operand) → s.ops ≡ o ∷ rest
    → bytes_fit (bytes_on s.ops (bytes_of s.frames)) ≡ true → length (all_of o) ≤ CELLS
few_cells s o value rest top fits =
    let small = leb-true (bytes_on s.ops (bytes_of s.frames)) OPERAND_BYTES fits in
    let e = ap (λ ops. bytes_on ops (bytes_of s.frames)) top in
    let size = value_size o value in
    let least = least_all (all_of o) in
    omega (arith, small, e, size, least)

-- a place that was taken is that of a cell
pub both_cell : (s t : Stacked) (v : Value) (a : Addr) → s ≡ with_ops t (Of v ∷ At a ∷ t.ops) → (both : TopBoth s.ops) → IsCell a
both_cell s t v a is both =
    let e : Of both.value ∷ At both.place ∷ both.rest ≡ Of v ∷ At a ∷ t.ops = sym both.top ∙ ap (λ (s : Stacked). s.ops) is in
    let same : both.place ≡ a = cc e in
    subst IsCell same both.cell
