-- Each step brings the end nearer.
use Rattle.std.proofs.Common.{◌++◌, ◌≡◌, ℕ, zero, suc, ◌+◌, ◌-◌, ◌*◌, ◌%◌, ◌<◌, ◌≤◌, List, [], ◌∷◌, length, Option, Some, None, Bool, true, false, cond, refl, sym}
use Rattle.std.proofs.Common.{ap}
use Rattle.std.proofs.Common.{◌∙◌, subst, arith, ⊎_elim}
use Rattle.std.specs.Prelude.{slice_get, take, drop, map, nat_lt, Ok, Err}
use Rattle.std.specs.Ordering.{int_eq}
use Rattle.std.proofs.lemmas.Option.{slice_get_within}
use Rattle.std.proofs.lemmas.Bool.{cases_lt}
use Rattle.eu_base.specs.declared.address.Addr.{Addr}
use Rattle.eu_base.specs.declared.address.TheConstants.{CELLS}
use Rattle.eu_base.specs.declared.value.Kind.{Kind}
use Rattle.eu_base.specs.declared.request.RequestName.{RequestName}
use Rattle.eu_base.specs.declared.stop.Stop.TheVariants.{CellRoom, OperandRoom, TextRoom, NoSpace}
use Rattle.eu_base.specs.declared.value.Kind.TheVariants as kinds
use Rattle.eu_base.specs.Cells.{Cell, Free, Word, Letters, run_cell, packet_cell, place_in, held_of, written, cell_blocks, area_blocks, blocks_in, freed}
use Rattle.eu_base.specs.declared.shape.Shape.{Shape}
use Rattle.eu_base.specs.Shapes.{cell_kinds}
use Rattle.eu_base.specs.Room.{values_blocks, cells_fit, bytes_fit, texts_fit}
use Rattle.eu_base.specs.declared.value.Value.{Value}
use Rattle.eu_base.specs.declared.value.Value.TheVariants as item
use Rattle.eu_base.specs.Values.{SpaceNo, number_of, truth_of, space_of, kind_of, number_in, truth_in, task_in, space_in}
use Rattle.eu_base.specs.SpaceOperations.{space_operand_kinds, Plan, planned, copy_plan, bind_plan}
use Rattle.eu_base.specs.SpacePlaces.{lies_in}
use Rattle.eu_base.specs.Operations.{Given, operand_kinds, result_of, change_kind, changed, is_past, has_reached}
use Rattle.eu_base.specs.declared.request.Reply.{Reply}
use Rattle.eu_base.specs.Requests.{request_kinds, request_result, request_size, is_message, sends, request_of, read_as, answer_of, message_values}
use Rattle.code_form.specs.declared.operand.Operand.{Operand}
use Rattle.code_form.specs.declared.operand.Operand.TheVariants.{Value as Of, Place as At, Aggregate}
use Rattle.code_form.specs.declared.instr.Instr.{Instr}
use Rattle.code_form.specs.declared.instr.Instr.TheVariants.{Mark, Number, Truth, Text, Outer, Packet, Local, Param, Index, Field, Content, Pick, Take, Load, Store, Do, OnSpaces, Copy, Bind, Modify, Jump, False}
use Rattle.code_form.specs.declared.instr.Instr.TheVariants.{When, Drop, Limit, Unlimit, Step, Ask, ErrorStop, Call, Refer, Back, Out, End}
use Rattle.code_form.specs.declared.code.Line.{Line}
use Rattle.code_form.specs.declared.code.Entry.{Entry}
use Rattle.code_form.specs.declared.code.Layout.{Layout}
use Rattle.code_form.specs.declared.code.Layout.TheVariants.{Own}
use Rattle.code_form.specs.declared.code.Layout.TheVariants as layouts
use Rattle.code_form.specs.Program.{Program, instr_of}
use Rattle.code_form.specs.Machine.{Frame, Position, Control, After, To, Asks, Stops, Unsaid, Move, Mem, with_cells, Scene, Stage, On, Over, Lost, Rest, operand_bytes}
use Rattle.code_form.specs.Machine.{operand_of, least_bytes, bytes_on, bytes_of, base_of, pushes, on_value, on_all, on_place, on_values, on_operands, on_result, or_halt, on_word, on_cell, on_cells, is_free}
use Rattle.eu_base.specs.Operations.{in_row}
use Rattle.code_form.specs.Machine.{on_item, further, on_further, next, takes, puts, written_all, takes_all, puts_all, content_blocks, is_framed, back_into, Goes, Unknown, goes, Halts, are_free, limit_cell, frame_contents}
use Rattle.code_form.specs.Machine.{if_there, takes_number, content_at, mem_after, changes, answers, keeps_space, without_held, copies, can_all_change, fills, binds}
use Rattle.code_form.specs.Machine.{link_contents, written_from, enters, calls_to, call_move, refer_move, back_to}
use Rattle.code_form.specs.Machine.{value_in, after_word, asks_with, asks_for, receives_at, receives, last_made, puts_reply}
use Rattle.code_form.specs.Machine.{out_to, instruction, keeps, settles, takes_reply, step, free, given, mark_stage, move_stage, stage, advance, carry_on, exec}
use Rattle.code_form.specs.Valid.{is_mark, IsFine, IsValid}
use Rattle.code_form.specs.Runs.{Rests, ahead, steps_left}

-- a step that goes on leaves less to do
abbrev Nearer : List Line → ℕ → ℕ → ℕ → Stage → Type 0
Nearer lines marks frames pc (On c s) = steps_left lines s.marks (length c.position.frames) c.position.pc < steps_left lines marks frames pc
Nearer lines marks frames pc (Over r) = Unit {0}
Nearer lines marks frames pc Lost = Unit {0}

module _ (p : Program) (valid : IsValid p) where
  ahead_le : (pc : ℕ) → ahead p.lines pc ≤ length p.lines
  ahead_le pc = by (is_mark (instr_of (slice_get p.lines pc)))
    where
      by : (b : Bool) → cond b 0 (length p.lines - pc) ≤ length p.lines
      by true = omega arith
      by false = omega arith

  ahead_not : (pc : ℕ) → ahead p.lines pc ≤ length p.lines - pc
  ahead_not pc = by (is_mark (instr_of (slice_get p.lines pc)))
    where
      by : (b : Bool) → cond b 0 (length p.lines - pc) ≤ length p.lines - pc
      by true = omega arith
      by false = omega arith

  -- an instruction that is no mark is at least one step from the next
  ahead_is : (pc : ℕ) (l : Line) → slice_get p.lines pc ≡ Some l → is_mark (Some l.instr) ≡ false → ahead p.lines pc ≡ length p.lines - pc
  ahead_is pc l e n = ap (λ b. cond b 0 (length p.lines - pc)) (ap (λ o. is_mark (instr_of o)) e ∙ n)

  on_next : (pc : ℕ) (l : Line) → slice_get p.lines pc ≡ Some l → is_mark (Some l.instr) ≡ false → ahead p.lines (pc + 1) < ahead p.lines pc
  on_next pc l e n = omega (arith, ahead_is pc l e n, ahead_not (pc + 1), slice_get_within p.lines pc l e)

  on_jump : (pc a : ℕ) (l : Line) → slice_get p.lines pc ≡ Some l → is_mark (Some l.instr) ≡ false → (a ≤ pc → is_mark (instr_of (slice_get p.lines a)) ≡ true)
      → ahead p.lines a < ahead p.lines pc
  on_jump pc a l e n t =
      ⊎_elim
      (λ lt. omega (arith, ahead_is pc l e n, ahead_not a, slice_get_within p.lines pc l e))
      (λ le. let z : ahead p.lines a ≡ 0 = ap (λ b. cond b 0 (length p.lines - a)) (t le) in
      omega (arith, ahead_is pc l e n, slice_get_within p.lines pc l e, z))
      (cases_lt pc a)

  -- from a position, and the control that is left as it was where it rests
  module _ (c : Position) (d : Control) (s : Scene) where
    abbrev depth : ℕ
    depth = length c.frames

    abbrev Near : Move → Type 0
    Near m = Nearer p.lines s.marks depth c.pc (move_stage m d s)

    spent_less : (m frames pc : ℕ) → frames ≤ suc depth → steps_left p.lines m frames pc < steps_left p.lines (suc m) depth c.pc
    spent_less m frames pc le = by (⊎_elim (λ lt. omega arith) (λ le. le) (cases_lt (suc depth) frames))
      where
        by : frames ≤ suc depth → steps_left p.lines m frames pc < steps_left p.lines (suc m) depth c.pc
        by le = fewer (suc depth - frames) (omega arith)
          where
            fewer : (d : ℕ) → frames + d ≡ suc depth → steps_left p.lines m frames pc < steps_left p.lines (suc m) depth c.pc
            fewer d e =
                let f : (frames + d) * (length p.lines + 1) ≡ suc depth * (length p.lines + 1) = ap (λ n. n * (length p.lines + 1)) e in
                omega (arith, ahead_le pc, f)

    -- what follows a spent mark has at most one frame more
    abbrev Deeper : After → Type 0
    Deeper (To c' x) = length c'.frames ≤ suc depth
    Deeper (Asks c' q x) = length c'.frames ≤ suc depth
    Deeper (Stops stop) = Unit {0}
    Deeper Unsaid = Unit {0}

    marked : (m : ℕ) (a : After) → Deeper a → Nearer p.lines m depth c.pc (mark_stage m a d s)
    marked zero a deep = tt
    marked (suc m) (To c' x) deep = spent_less m (length c'.frames) c'.pc deep
    marked (suc m) (Asks c' q x) deep = spent_less m (length c'.frames) c'.pc deep
    marked (suc m) (Stops stop) deep = tt
    marked (suc m) Unsaid deep = tt

    -- a request
    asks_deeper : (b : Bool) (q : RequestName) (os : List Operand) → Deeper (asks_for b q os c s.mem)
    asks_deeper false q os = omega arith
    asks_deeper true q os = by (drop (length (request_kinds q)) os)
      where
        looked : (a : Addr) (b : Bool) (x : Cell)
            → Deeper (cond b (after_word x (λ n. Asks c (request_of q (item.Space (space_in n) ∷ map value_in os)) s.mem)) (Stops NoSpace))
        looked a false x = tt
        looked a true Free = tt
        looked a true (Word n) = omega arith
        looked a true (Letters t) = tt

        by : (places : List Operand) → Deeper (asks_with q (map value_in os) places c s.mem)
        by [] = tt
        by (Of v ∷ r) = tt
        by (At a ∷ r) = looked a (lies_in (kinds.Space ∷ []) a.area a.cell s.mem.heads) (s.mem.cells a)
        by (Aggregate vs ∷ r) = tt

    go : (pc : ℕ) → ahead p.lines pc < ahead p.lines c.pc → steps_left p.lines s.marks depth pc < steps_left p.lines s.marks depth c.pc
    go pc lt = omega arith

    go_if : (b : Bool) (x y : ℕ) → ahead p.lines x < ahead p.lines c.pc → ahead p.lines y < ahead p.lines c.pc
        → steps_left p.lines s.marks depth (cond b x y) < steps_left p.lines s.marks depth c.pc
    go_if true x y f g = go x f
    go_if false x y f g = go y g

    -- a frame less
    back : (frames pc : ℕ) → suc frames ≤ depth → steps_left p.lines s.marks frames pc < steps_left p.lines s.marks depth c.pc
    back frames pc le = fewer (depth - suc frames) (omega arith)
      where
        fewer : (d : ℕ) → suc frames + d ≡ depth → steps_left p.lines s.marks frames pc < steps_left p.lines s.marks depth c.pc
        fewer d e =
            let f : (suc frames + d) * (length p.lines + 1) ≡ depth * (length p.lines + 1) = ap (λ n. n * (length p.lines + 1)) e in
            omega (arith, ahead_le pc, f)

    near_if : (b : Bool) (m m' : Move) → Near m → Near m' → Near (cond b m m')
    near_if true m m' x y = x
    near_if false m m' x y = y

    into_near : (result : List Operand) (f : Frame) (fs : List Frame) → length (f ∷ fs) ≤ depth → Near (back_into p result c.used f fs s.mem)
    into_near result f fs le =
        near_if (is_framed (slice_get p.bodies f.body) f.used c.used s.mem.cells)
        (Goes (record { pc = f.back; ops = result ++ f.ops; used = f.used; frames = fs }) (with_cells (freed f.used c.used s.mem.cells) s.mem)) Unknown
        (back (length fs) f.back le) tt

    back_near : (result : List Operand) (fs : List Frame) → length fs ≤ depth → Near (back_to p result c.used fs s.mem)
    back_near result [] le = tt
    back_near result (f ∷ fs) le = into_near result f fs le

    out_near : (result : List Operand) (fs : List Frame) → length fs ≤ depth → Near (out_to p result c.used fs s.mem)
    out_near result [] le = tt
    out_near result (f ∷ fs) le = near_if f.refines _ _ (out_near result fs (omega arith)) (into_near result f fs le)

    near_word : (f : ℕ → Move) → ((n : ℕ) → Near (f n)) → (x : Cell) → Near (on_word x f)
    near_word f h Free = tt
    near_word f h (Word n) = h n
    near_word f h (Letters t) = tt

    near_cell : (f : Value → Move) → ((v : Value) → Near (f v)) → (k : Kind) (x : Cell) → Near (on_cell k x f)
    near_cell f h kinds.Int x = near_word (λ n. f (item.Int (number_in n))) (λ n. h (item.Int (number_in n))) x
    near_cell f h kinds.Truth x = near_word (λ n. f (item.Truth (truth_in n))) (λ n. h (item.Truth (truth_in n))) x
    near_cell f h kinds.Text Free = tt
    near_cell f h kinds.Text (Word n) = tt
    near_cell f h kinds.Text (Letters t) = h (item.Text t)
    near_cell f h kinds.Task x = near_word (λ n. f (item.Task (task_in n))) (λ n. h (item.Task (task_in n))) x
    near_cell f h kinds.Space x = near_word (λ n. f (item.Space (space_in n))) (λ n. h (item.Space (space_in n))) x

    near_cells : (f : List Value → Move) → ((vs : List Value) → Near (f vs)) → (ks : List Kind) (a : Addr) → Near (on_cells ks a s.mem.cells f)
    near_cells f h [] a = h []
    near_cells f h (k ∷ ks) a =
        near_cell (λ v. on_cells ks (next a) s.mem.cells (λ vs. f (v ∷ vs))) (λ v. near_cells (λ vs. f (v ∷ vs)) (λ vs. h (v ∷ vs)) ks (next a)) k (s.mem.cells a)

    near_item : (f : ℕ → Move) → ((n : ℕ) → Near (f n)) → (k : Option ℕ) → Near (on_item k f)
    near_item f h None = tt
    near_item f h (Some n) = h n

    near_value : (f : Value → List Operand → Move) → ((v : Value) (r : List Operand) → Near (f v r)) → (ops : List Operand) → Near (on_value ops f)
    near_value f h [] = tt
    near_value f h (Of v ∷ r) = h v r
    near_value f h (At a ∷ r) = tt
    near_value f h (Aggregate vs ∷ r) = tt

    near_all : (f : List Value → List Operand → Move) → ((vs : List Value) (r : List Operand) → Near (f vs r)) → (ops : List Operand) → Near (on_all ops f)
    near_all f h [] = tt
    near_all f h (Of v ∷ r) = h (v ∷ []) r
    near_all f h (At a ∷ r) = tt
    near_all f h (Aggregate vs ∷ r) = h vs r

    near_place : (f : Addr → List Operand → Move) → ((a : Addr) (r : List Operand) → Near (f a r)) → (ops : List Operand) → Near (on_place ops f)
    near_place f h [] = tt
    near_place f h (Of v ∷ r) = tt
    near_place f h (At a ∷ r) = h a r
    near_place f h (Aggregate vs ∷ r) = tt

    near_values : (n : ℕ) (f : List Value → List Operand → Move) → ((vs : List Value) (r : List Operand) → Near (f vs r))
        → (acc : List Value) (ops : List Operand) → Near (on_values n acc ops f)
    near_values zero f h acc ops = h acc ops
    near_values (suc n) f h acc [] = tt
    near_values (suc n) f h acc (Of v ∷ r) = near_values n f h (v ∷ acc) r
    near_values (suc n) f h acc (At a ∷ r) = tt
    near_values (suc n) f h acc (Aggregate vs ∷ r) = tt

    near_operands : (n : ℕ) (f : List Operand → List Operand → Move) → ((os r : List Operand) → Near (f os r)) → (acc ops : List Operand)
        → Near (on_operands n acc ops f)
    near_operands zero f h acc ops = h acc ops
    near_operands (suc n) f h acc [] = tt
    near_operands (suc n) f h acc (o ∷ r) = near_operands n f h (o ∷ acc) r

    near_result : (s : Option Shape) (f : List Operand → Move) → ((os : List Operand) → Near (f os)) → (ops : List Operand) → Near (on_result s ops f)
    near_result None f h ops = h []
    near_result (Some s) f h [] = tt
    near_result (Some s) f h (Of v ∷ r) = h (Of v ∷ [])
    near_result (Some s) f h (At a ∷ r) = tt
    near_result (Some s) f h (Aggregate vs ∷ r) = h (Aggregate vs ∷ [])

    -- a CALL and a REFER
    enters_deeper : (first base : ℕ) (refines : Bool) (body : ℕ) (ops : List Operand) (ns : List Cell)
        → Deeper (enters c first base refines body ops ns s.mem)
    enters_deeper first base refines body ops ns =
        by (are_free c.used ns s.mem.cells) (cells_fit (c.used + length ns))
        (texts_fit (content_blocks ns) (blocks_in (written_from c.used ns s.mem.cells)))
      where
        by : (free b texts : Bool) → Deeper
            (cond free (cond b (cond texts (To (record {
              pc = first;
              ops = [];
              used = c.used + length ns;
              frames =
                  record { back = c.pc + 1; base = base; used = c.used; refines = refines; body = body; ops = ops } ∷ c.frames;
            }) (with_cells (written_from c.used ns s.mem.cells) s.mem)) (Stops TextRoom))
            (Stops CellRoom)) Unsaid)
        by true true true = omega arith
        by true true false = tt
        by true false texts = tt
        by false b texts = tt

    call_near : (n : ℕ) (e : Option Entry) → Near (call_move c n e s.mem)
    call_near n None = tt
    call_near n (Some e) = by e.layout
      where
        by : (l : Layout) → Near (calls_to c n e.first l s.mem)
        by (Own parameters variables) =
            near_operands (length parameters) _ (λ os r. marked s.marks _ (enters_deeper e.first (c.used + 2) false n r (frame_contents os variables))) [] c.ops
        by (layouts.Of q) = tt
        by layouts.Level = tt

    refer_near : (n : ℕ) (e : Option Entry) → Near (refer_move c n e s.mem)
    refer_near n None = tt
    refer_near n (Some e) = marked s.marks _ (enters_deeper e.first (base_of c.frames) true n c.ops link_contents)

    -- the next instruction, and one operand more
    go_near : (l : Line) → slice_get p.lines c.pc ≡ Some l → is_mark (Some l.instr) ≡ false → (ops : List Operand) (m : Mem) → Near (goes c ops m)
    go_near l e is ops m = go (c.pc + 1) (on_next c.pc l e is)

    push_on : (l : Line) → slice_get p.lines c.pc ≡ Some l → is_mark (Some l.instr) ≡ false → (o : Operand) (ops : List Operand) (m : Mem)
        → Near (pushes c o ops m)
    push_on l e is o ops m =
        near_if (bytes_fit (operand_bytes o + bytes_on ops (bytes_of c.frames))) (goes c (o ∷ ops) m) (Halts OperandRoom) (go_near l e is (o ∷ ops) m) tt

    push_near : (l : Line) → slice_get p.lines c.pc ≡ Some l → is_mark (Some l.instr) ≡ false → (o : Operand) (ops : List Operand)
        → Near (pushes c o ops s.mem)
    push_near l e is o ops = push_on l e is o ops s.mem

    further_near : (l : Line) → slice_get p.lines c.pc ≡ Some l → is_mark (Some l.instr) ≡ false → (a : Addr) (n : ℕ) (ops : List Operand)
        → Near (on_further a n (λ to. pushes c (At to) ops s.mem))
    further_near l e is a n ops =
        near_if (nat_lt (a.cell + n) CELLS) (pushes c (At (further a n)) ops s.mem) (Halts NoSpace) (push_near l e is (At (further a n)) ops) tt

    near_there : (ks : List Kind) (a : Addr) (m : Mem) (move : Move) → Near move → Near (if_there ks a m move)
    near_there ks a m move x = near_if (lies_in ks a.area a.cell m.heads) move (Halts NoSpace) x tt

    -- a value is put into a cell
    put_near : (l : Line) → slice_get p.lines c.pc ≡ Some l → is_mark (Some l.instr) ≡ false → (a : Addr) (v : Value) (ops : List Operand)
        → Near (puts c a v ops s.mem)
    put_near l e is a v ops =
        let now = written s.mem.cells a (held_of v) in
        near_there (kind_of v ∷ []) a s.mem _
        (near_if (takes (held_of v) (s.mem.cells a)) _ _
        (near_if (texts_fit (cell_blocks (held_of v)) (area_blocks a.area now)) (goes c ops (with_cells now s.mem)) (Halts TextRoom)
        (go_near l e is ops (with_cells now s.mem)) tt) tt)

    put_all_near : (l : Line) → slice_get p.lines c.pc ≡ Some l → is_mark (Some l.instr) ≡ false → (a : Addr) (vs : List Value) (ops : List Operand)
        → Near (puts_all c a vs ops s.mem)
    put_all_near l e is a vs ops =
        let now = written_all s.mem.cells a vs in
        near_there (map kind_of vs) a s.mem _
        (near_if (takes_all vs a s.mem.cells) _ _
        (near_if (texts_fit (values_blocks vs) (area_blocks a.area now)) (goes c ops (with_cells now s.mem)) (Halts TextRoom)
        (go_near l e is ops (with_cells now s.mem)) tt) tt)

    -- data spaces change
    near_changes : {A : Type 0} (plan : Plan A) (m : Mem) (f : A → Mem → Move) → ((a : A) (m' : Mem) → Near (f a m')) → Near (changes plan m f)
    near_changes (Ok plan) m f h = h plan.0 (mem_after plan.1 m)
    near_changes (Err e) m f h = tt

    near_fills : {A : Type 0} (plan : Plan A) (m : Mem) (f : A → Mem → Move) → ((a : A) (m' : Mem) → Near (f a m')) → Near (fills plan m f)
    near_fills (Ok plan) m f h =
        near_if (can_all_change plan.1 m.cells) (f plan.0 (mem_after plan.1 m)) Unknown (h plan.0 (mem_after plan.1 m)) tt
    near_fills (Err e) m f h = tt

    near_keeps : (a : Addr) (n : SpaceNo) (m : Mem) (f : Mem → Move) → ((m' : Mem) → Near (f m')) → Near (keeps_space a n m f)
    near_keeps a n m f h =
        let now = with_cells (written m.cells a (held_of (item.Space (Some n)))) m in
        near_if (takes_number (m.cells a)) (f now) Unknown (h now) tt

    answer_near : (l : Line) → slice_get p.lines c.pc ≡ Some l → is_mark (Some l.instr) ≡ false → (v : Option Value) (ops : List Operand) (m : Mem)
        → Near (answers c v ops m)
    answer_near l e is None ops m = go_near l e is ops m
    answer_near l e is (Some v) ops m = push_on l e is (Of v) ops m

    copy_near : (l : Line) → slice_get p.lines c.pc ≡ Some l → is_mark (Some l.instr) ≡ false → (from : Option SpaceNo) (a : Addr) (ops : List Operand)
        → Near (copies c from a ops s.mem)
    copy_near l e is from a ops =
        near_there (kinds.Space ∷ []) a s.mem _
        (near_word _ (λ held. near_changes (copy_plan None from s.mem.heads) s.mem
        (λ n m. keeps_space a n m (λ m'. goes c ops (without_held (space_in held) m')))
        (λ n m. near_keeps a n m (λ m'. goes c ops (without_held (space_in held) m')) (λ m'. go_near l e is ops (without_held (space_in held) m'))))
        (s.mem.cells a))

    bind_near : (l : Line) → slice_get p.lines c.pc ≡ Some l → is_mark (Some l.instr) ≡ false → (t : Shape) (space : Option SpaceNo) (a : Addr)
        → (ops : List Operand) → Near (binds c t space a ops s.mem)
    bind_near l e is t space a ops =
        near_there (kinds.Space ∷ []) a s.mem _
        (near_if (cells_fit (length (cell_kinds t))) _ _
        (near_fills (bind_plan t space s.mem.heads) s.mem (λ n m. keeps_space a n m (goes c ops))
        (λ n m. near_keeps a n m (goes c ops) (go_near l e is ops))) tt)

    near_or : (f : Value → Move) → ((v : Value) → Near (f v)) → (g : Given) → Near (or_halt g f)
    near_or f h (Ok v) = h v
    near_or f h (Err e) = tt

    at_instr : (l : Line) → slice_get p.lines c.pc ≡ Some l → (i : Instr) → l.instr ≡ i → IsFine p c.pc i l.operands l.spot
        → Near (instruction p (Some i) c s.mem)
    at_instr l e Mark is f = marked s.marks _ (omega arith)
    at_instr l e (Number z) is f = push_near l e (ap (λ i. is_mark (Some i)) is) (Of (item.Int z)) c.ops
    at_instr l e (Truth b) is f = push_near l e (ap (λ i. is_mark (Some i)) is) (Of (item.Truth b)) c.ops
    at_instr l e (Text t) is f = push_near l e (ap (λ i. is_mark (Some i)) is) (Of (item.Text t)) c.ops
    at_instr l e (Outer x) is f = push_near l e (ap (λ i. is_mark (Some i)) is) (At (run_cell x)) c.ops
    at_instr l e (Packet x) is f = push_near l e (ap (λ i. is_mark (Some i)) is) (At (packet_cell (x % CELLS))) c.ops
    at_instr l e (Local x) is f = push_near l e (ap (λ i. is_mark (Some i)) is) (At (run_cell (base_of c.frames + x))) c.ops
    at_instr l e (Param x) is f =
        near_word _ (λ n. push_near l e (ap (λ i. is_mark (Some i)) is) (At (place_in n)) c.ops) (s.mem.cells (run_cell (base_of c.frames + x)))
    at_instr l e (Index n size) is f =
        near_value _ (λ v r. near_place _
        (λ a r. near_item _ (λ k. further_near l e (ap (λ i. is_mark (Some i)) is) a (k * size) r) (in_row n (number_of v))) r) c.ops
    at_instr l e (Field n) is f = near_place _ (λ a r. further_near l e (ap (λ i. is_mark (Some i)) is) a n r) c.ops
    at_instr l e Content is f =
        near_place _ (λ a r. near_there (kinds.Space ∷ []) a s.mem _
        (near_word _ (λ n. push_near l e (ap (λ i. is_mark (Some i)) is) (At (content_at (space_in n))) r) (s.mem.cells a))) c.ops
    at_instr l e (Pick n size) is f =
        near_value _ (λ v r. near_all _
        (λ vs r. near_item _ (λ k. push_near l e (ap (λ i. is_mark (Some i)) is) (operand_of (take size (drop (k * size) vs))) r) (in_row n (number_of v))) r)
        c.ops
    at_instr l e (Take m from size) is f =
        near_all _ (λ vs r. push_near l e (ap (λ i. is_mark (Some i)) is) (operand_of (take size (drop from vs))) r) c.ops
    at_instr l e (Load t) is f =
        near_place _ (λ a r. near_there (cell_kinds t) a s.mem _ (near_if (bytes_fit (least_bytes t + bytes_on r (bytes_of c.frames))) _ _
        (near_cells _ (λ vs. push_near l e (ap (λ i. is_mark (Some i)) is) (operand_of vs) r) (cell_kinds t) a) tt)) c.ops
    at_instr l e (Store t) is f = near_all _ (λ vs r. near_place _ (λ a r. put_all_near l e (ap (λ i. is_mark (Some i)) is) a vs r) r) c.ops
    at_instr l e (Do op) is f =
        near_values (length (operand_kinds op)) _ (λ vs r. near_or _ (λ v. push_near l e (ap (λ i. is_mark (Some i)) is) (Of v) r) (result_of op vs)) [] c.ops
    at_instr l e (OnSpaces op) is f =
        near_values (length (space_operand_kinds op)) _
        (λ vs r. near_changes (planned op vs s.mem.heads) s.mem (λ v m. answers c v r m)
        (λ v m. answer_near l e (ap (λ i. is_mark (Some i)) is) v r m)) [] c.ops
    at_instr l e Copy is f =
        near_value _ (λ v r. near_place _ (λ a r. copy_near l e (ap (λ i. is_mark (Some i)) is) (space_of v) a r) r) c.ops
    at_instr l e (Bind t) is f =
        near_value _ (λ v r. near_place _ (λ a r. bind_near l e (ap (λ i. is_mark (Some i)) is) t (space_of v) a r) r) c.ops
    at_instr l e (Modify ch) is f =
        near_value _ (λ v r. near_place _
        (λ a r. near_there (change_kind ch ∷ []) a s.mem _
        (near_cell _ (λ w. near_or _ (λ x. put_near l e (ap (λ i. is_mark (Some i)) is) a x r) (changed ch w v)) (change_kind ch) (s.mem.cells a))) r) c.ops
    at_instr l e (Jump a) is f = go a (on_jump c.pc a l e (ap (λ i. is_mark (Some i)) is) f.spaced)
    at_instr l e (False a) is f =
        near_value _ (λ v r. go_if (truth_of v) (c.pc + 1) a (on_next c.pc l e (ap (λ i. is_mark (Some i)) is))
        (on_jump c.pc a l e (ap (λ i. is_mark (Some i)) is) f.3.spaced)) c.ops
    at_instr l e (When z a) is f =
        near_value _ (λ v r. near_if (int_eq (number_of v) z) _ _ (go a (on_jump c.pc a l e (ap (λ i. is_mark (Some i)) is) f.3.spaced))
        (go (c.pc + 1) (on_next c.pc l e (ap (λ i. is_mark (Some i)) is)))) c.ops
    at_instr l e Drop is f = near_value _ (λ v r. go (c.pc + 1) (on_next c.pc l e (ap (λ i. is_mark (Some i)) is))) c.ops
    at_instr l e (Limit way a) is f =
        near_value _ (λ v r. near_place _
        (λ q r. near_if (cells_fit (c.used + 1)) _ _
        (near_if (is_free (s.mem.cells (run_cell c.used))) _ _
        (near_there (kinds.Int ∷ []) q s.mem _ (near_word _ (λ n. go_if (is_past way (number_of v) (number_in n)) a (c.pc + 1)
        (on_jump c.pc a l e (ap (λ i. is_mark (Some i)) is) f.3.spaced) (on_next c.pc l e (ap (λ i. is_mark (Some i)) is))) (s.mem.cells q))) tt) tt) r) c.ops
    at_instr l e Unlimit is f = go (c.pc + 1) (on_next c.pc l e (ap (λ i. is_mark (Some i)) is))
    at_instr l e (Step way a) is f =
        near_place _ (λ q r. near_word _
        (λ k. near_there (kinds.Int ∷ []) q s.mem _ (near_word _ (λ n. near_if (has_reached way (number_in k) (number_in n)) _ _
        (go a (on_jump c.pc a l e (ap (λ i. is_mark (Some i)) is) f.2.3.spaced)) (go (c.pc + 1) (on_next c.pc l e (ap (λ i. is_mark (Some i)) is))))
        (s.mem.cells q))) (limit_cell c s.mem.cells)) c.ops
    at_instr l e (Ask q) is f = near_operands (request_size q) _ (λ os r. marked s.marks _ (asks_deeper (sends q) q os)) [] c.ops
    at_instr l e ErrorStop is f = near_value _ (λ v r. go (c.pc + 1) (on_next c.pc l e (ap (λ i. is_mark (Some i)) is))) c.ops
    at_instr l e (Call n) is f = call_near n (slice_get p.bodies n)
    at_instr l e (Refer n) is f = refer_near n (slice_get p.bodies n)
    at_instr l e (Back k) is f = near_result k _ (λ os. back_near os c.frames (omega arith)) c.ops
    at_instr l e (Out k) is f = near_result k _ (λ os. out_near os c.frames (omega arith)) c.ops
    at_instr l e End is f = tt

    -- a request goes on with its reply
    keep_near : (l : Line) → slice_get p.lines c.pc ≡ Some l → is_mark (Some l.instr) ≡ false → (os : List Operand) (v : Value) (r : List Operand)
        → Near (keeps c os v r s.mem)
    keep_near l e is [] v r = go (c.pc + 1) (on_next c.pc l e is)
    keep_near l e is (Of w ∷ os) v r = tt
    keep_near l e is (At a ∷ os) v r = put_near l e is a v r
    keep_near l e is (Aggregate vs ∷ os) v r = tt

    receives_near : (l : Line) → slice_get p.lines c.pc ≡ Some l → is_mark (Some l.instr) ≡ false → (r os : List Operand) (es : List (ℕ × Value)) (m : Mem)
        → Near (receives c r os es m)
    receives_near l e is r os [] m = go_near l e is r m
    receives_near l e is r os (x ∷ es) m = by (λ m. receives_near l e is r os es m) (slice_get os x.0)
      where
        by : ((m : Mem) → Near (receives c r os es m)) → (o : Option Operand) → Near (receives_at c r o x.1 m (receives c r os es))
        by more None = tt
        by more (Some (Of v)) = tt
        by more (Some (At a)) =
            let now = λ (held : Value). without_held (space_of held) (with_cells (written m.cells a (held_of x.1)) m) in
            near_if (lies_in (kind_of x.1 ∷ []) a.area a.cell m.heads) _ _
            (near_cell (λ held. cond (takes (held_of x.1) (m.cells a)) (receives c r os es (now held)) Unknown)
            (λ held. near_if (takes (held_of x.1) (m.cells a)) (receives c r os es (now held)) Unknown (more (now held)) tt)
            (kind_of x.1) (m.cells a))
            (go (c.pc + 1) (on_next c.pc l e is))
        by more (Some (Aggregate vs)) = tt

    put_reply_near : (l : Line) → slice_get p.lines c.pc ≡ Some l → is_mark (Some l.instr) ≡ false → (b : Bool) (q : RequestName) (t : Reply)
        → (os r : List Operand) → Near (puts_reply b q t c os r s.mem)
    put_reply_near l e is true q t os r = receives_near l e is r os (message_values q t (last_made s.mem)) s.mem
    put_reply_near l e is false q t os r = near_or _ (λ v. keep_near l e is os v r) (read_as q t)

    settle_near : (l : Line) → slice_get p.lines c.pc ≡ Some l → is_mark (Some l.instr) ≡ false → (q : RequestName) (t : Reply) (o : Option Kind)
        → (os r : List Operand) → Near (settles q o t c os r s.mem)
    settle_near l e is q t None os r = put_reply_near l e is (is_message q) q t (drop (length (request_kinds q)) os) r
    settle_near l e is q t (Some k) os r = near_or _ (λ v. push_near l e is (Of v) r) (answer_of q t)

    reply_near : (l : Line) → slice_get p.lines c.pc ≡ Some l → (t : Reply) (i : Instr) → l.instr ≡ i → Near (takes_reply (Some i) t c s.mem)
    reply_near l e t (Ask q) is =
        near_operands (request_size q) _ (settle_near l e (ap (λ i. is_mark (Some i)) is) q t (request_result q)) [] c.ops
    reply_near l e t _ is = tt

    reply_line : (t : Reply) (o : Option Line) → slice_get p.lines c.pc ≡ o → Near (takes_reply (instr_of o) t c s.mem)
    reply_line t None e = tt
    reply_line t (Some l) e = reply_near l e t l.instr refl

    at_line : (o : Option Line) → slice_get p.lines c.pc ≡ o → Near (instruction p (instr_of o) c s.mem)
    at_line None e = tt
    at_line (Some l) e = at_instr l e l.instr refl (valid.each c.pc l e)

  -- where a step goes on, the end is nearer
  pub nearer : (c : Position) (c' : Control) (s s' : Scene) → On c' s' ≡ stage (step p c s.mem) c s
      → steps_left p.lines s'.marks (length c'.position.frames) c'.position.pc < steps_left p.lines s.marks (length c.frames) c.pc
  nearer c c' s s' e = subst (Nearer p.lines s.marks (length c.frames) c.pc) (sym e)
      (at_line c (free c) s (slice_get p.lines c.pc) refl)

  -- and where a request goes on with its reply
  pub reply_nearer : (c : Position) (r : Reply) (c' : Control) (s s' : Scene)
      → On c' s' ≡ move_stage (takes_reply (instr_of (slice_get p.lines c.pc)) r c s.mem) (given c r) s
      → steps_left p.lines s'.marks (length c'.position.frames) c'.position.pc < steps_left p.lines s.marks (length c.frames) c.pc
  reply_nearer c r c' s s' e = subst (Nearer p.lines s.marks (length c.frames) c.pc) (sym e) (reply_line c (given c r) s r (slice_get p.lines c.pc) refl)

-- a step, and then the rest
pub one_step : (p : Program) (c c' : Control) (s s' : Scene) (r : Rest) → On c' s' ≡ advance p c s → Rests p c' s' r → Rests p c s r
one_step p c c' s s' r e h = (suc h.0, ap (λ st. carry_on st (exec p h.0)) (sym e) ∙ h.1)

pub last_step : (p : Program) (c : Control) (s : Scene) (r : Rest) → Over r ≡ advance p c s → Rests p c s r
last_step p c s r e = (1, ap (λ st. carry_on st (exec p 0)) (sym e))
