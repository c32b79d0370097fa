-- A step from a state that fits can be made, and leads to one that fits. One induction over the instructions, so it stands in one file.
use Rattle.std.proofs.Common.{◌≡◌, ℕ, suc, ◌+◌, ◌-◌, ◌*◌, ◌<◌, ◌≤◌, ◌%◌, List, [], ◌∷◌, ◌++◌, map, length, Option, Some, None, Bool, true, false, cond, refl, sym}
use Rattle.std.proofs.Common.{ap, ◌∙◌, subst, arith, length-append, append_assoc, append-nil}
use Rattle.std.specs.Prelude.{slice_get, take, drop, flat_map, nat_lt, Ok, Err}
use Rattle.std.specs.Ordering.{int_eq}
use Rattle.std.specs.List.{AllByRecursion}
use Rattle.std.proofs.lemmas.List.{length-map, take-map, drop-map}
use Rattle.std.proofs.lemmas.Option.{slice_get_within}
use Rattle.std.proofs.lemmas.Bool.{leb-true, ltb-true}
use Rattle.eu_base.specs.declared.address.Addr.{Addr}
use Rattle.eu_base.specs.declared.address.TheConstants.{CELLS}
use Rattle.eu_base.specs.declared.value.Kind.{Kind}
use Rattle.eu_base.specs.declared.value.Kind.TheVariants as kinds
use Rattle.eu_base.specs.declared.value.Value.{Value}
use Rattle.eu_base.specs.declared.value.Value.TheVariants as item
use Rattle.eu_base.specs.declared.operation.Way.{Way}
use Rattle.eu_base.specs.declared.stop.Stop.TheVariants.{CellRoom, OperandRoom, TextRoom, NoSpace}
use Rattle.eu_base.specs.Values.{SpaceNo, kind_of, number_of, truth_of, space_of, blank_of, number_in, truth_in, task_in, space_in}
use Rattle.eu_base.specs.DataSpaces.{SpaceChange}
use Rattle.eu_base.specs.SpaceOperations.{space_operand_kinds, space_result_kind, Plan, planned, copy_plan, bind_plan}
use Rattle.eu_base.specs.SpacePlaces.{lies_in}
use Rattle.eu_base.specs.declared.shape.Shape.{Shape}
use Rattle.eu_base.specs.declared.shape.Shape.TheVariants.{Cell as OneCell}
use Rattle.eu_base.specs.Shapes.{cell_kinds}
use Rattle.eu_base.specs.Room.{values_blocks, cells_fit, bytes_fit, texts_fit}
use Rattle.eu_base.specs.Operations.{Given as GivenValue, operand_kinds, result_kind, result_of, change_kind, changed, is_past, has_reached, in_row}
use Rattle.eu_base.specs.declared.request.RequestName.{RequestName}
use Rattle.eu_base.specs.declared.request.Request.{Request}
use Rattle.eu_base.specs.declared.request.Reply.{Reply}
use Rattle.eu_base.specs.declared.request.Reply.TheVariants as replies
use Rattle.eu_base.specs.Requests.{request_kinds, request_places, request_result, request_size, is_message, sends, request_of, read_as, answer_of}
use Rattle.eu_base.specs.Requests.{then_asked, message_values, Suits}
use Rattle.eu_base.specs.Cells.{Cell, Free, Word, Letters, held_of, IsCell, run_cell, packet_cell, place_in, written, cell_blocks, area_blocks, blocks_in, freed}
use Rattle.code_form.specs.declared.operand.Operand.{Operand}
use Rattle.code_form.specs.declared.operand.Operand.TheVariants.{Value as Of, Place as At, Aggregate}
use Rattle.code_form.specs.declared.operand.OperandKind.{OperandKind}
use Rattle.code_form.specs.declared.operand.OperandKind.TheVariants.{Value as OfKind, Place as AtKind}
use Rattle.code_form.specs.declared.waits.Waits.{Waits}
use Rattle.code_form.specs.declared.waits.Waits.TheVariants.{Nothing, Asked, Given, Refused}
use Rattle.code_form.specs.declared.instr.Instr.{Instr}
use Rattle.code_form.specs.declared.instr.Instr.TheVariants.{Mark, Number, Truth, Text, Outer, Packet, Local, Param, Index, Field, Content, Pick, Take, Load, Store, Do, OnSpaces, Copy, Bind, Modify, Jump, False}
use Rattle.code_form.specs.declared.instr.Instr.TheVariants.{When, Drop, Limit, Unlimit, Step, Ask, ErrorStop, Call, Refer, Back, Out, End}
use Rattle.code_form.specs.declared.code.Line.{Line}
use Rattle.code_form.specs.declared.code.Spot.{Spot}
use Rattle.code_form.specs.declared.code.Entry.{Entry}
use Rattle.code_form.specs.declared.code.Layout.{Layout}
use Rattle.code_form.specs.declared.code.Layout.TheVariants as layouts
use Rattle.code_form.specs.Program.{Program, line_of, instr_of, in_body, deeper, owner, owner_in, CellUse, HoldsValue, cell_uses, frame_cells}
use Rattle.code_form.specs.Machine.{Mem, with_cells, if_there, takes_number, content_at, mem_after, changes, answers, keeps_space, without_held, copies, can_all_change}
use Rattle.code_form.specs.Machine.{fills, binds}
use Rattle.code_form.specs.Machine.{value_in, keeps, settles, takes_reply, asking, given, answered, answered_by, Asks, after_word, asks_with, asks_for}
use Rattle.code_form.specs.Machine.{receives_at, receives, last_made, puts_reply}
use Rattle.code_form.specs.Machine.{Frame, Position, free, To, Stops, Unsaid, Move, Goes, Spends, operand_of, least_bytes, operand_bytes, bytes_on, bytes_of, base_of, at}
use Rattle.code_form.specs.Machine.{using, goes, pushes, on_value, on_all, on_place, on_values, on_operands, on_result, or_halt, on_word, on_cell, on_cells, is_free, are_free}
use Rattle.code_form.specs.Machine.{limit_cell, held_cells, frame_contents, link_contents, written_from, enters, calls_to, call_move, refer_move}
use Rattle.code_form.specs.Machine.{on_item, further, on_further, next, takes, puts, written_all, takes_all, puts_all, content_blocks, is_framed, Unknown, goes, Halts, back_into, back_to, out_to, limit_to, instruction, step}
use Rattle.code_form.specs.Valid.{Next, cell_value, cell_place, pushed_kinds, pushed_operands, with_answer, with_result, HasResult, IsRefinement, IsCalled, IsReferred, IsFine, IsValid, FitsKind}
use Rattle.code_form.specs.Valid.{is_ask, is_asking, request_operands, FitsKinds, MadeSo, FitsFrames, Fits}
use Rattle.code_form.specs.Runs.{IsSafe, StaysFit}
use Rattle.eu_base.proofs.Results.{result_gives, answer_gives, kind_is, message_suits}
use Rattle.code_form.proofs.Places.{place_there}
use Rattle.code_form.proofs.Plans.{IsAnswer, Delivers, planned_delivers}
use Rattle.code_form.proofs.Frames.{request_many, fits_behind, is_one, as_one, has_values, all_cells, in_row_below, some_is, cells_fewer, bytes_fewer, bytes_below, owner_is, by_layout, as_proc, as_refined, used_below, returns, same_owner, level_below, frame_below}

module _ (p : Program) (valid : IsValid p) (pc : ℕ) (ops : List Operand) (used : ℕ) (frames : List Frame) (mem : Mem) where
  abbrev now : Position
  now = record { pc = pc; ops = ops; used = used; frames = frames }

  abbrev Safe : Move → Type 0
  Safe = IsSafe p

  -- these operands are of these kinds, and have room
  abbrev Has : List Operand → List OperandKind → Type 0
  Has ops ks = FitsKinds ops ks × (bytes_fit (bytes_on ops (bytes_of frames)) ≡ true)

  fewer : (o : Operand) (r : List Operand) → bytes_fit (bytes_on (o ∷ r) (bytes_of frames)) ≡ true → bytes_fit (bytes_on r (bytes_of frames)) ≡ true
  fewer o r e = bytes_fewer (bytes_on r (bytes_of frames)) (operand_bytes o + bytes_on r (bytes_of frames)) (omega arith) e

  one_value : (ops : List Operand) (k : Kind) (rest : List OperandKind) (go : Value → List Operand → Move) → Has ops (cell_value k ∷ rest)
      → ((v : Value) (r : List Operand) → kind_of v ≡ k → Has r rest → Safe (go v r)) → Safe (on_value ops go)
  one_value [] k rest go f h = absurd f.0
  one_value (Of v ∷ ops) k rest go f h = h v ops (is_one (Of v) k f.0.0) (f.0.1, fewer (Of v) ops f.1)
  one_value (At a ∷ ops) k rest go f h = absurd (is_one (At a) k f.0.0)
  one_value (Aggregate vs ∷ ops) k rest go f h = absurd (is_one (Aggregate vs) k f.0.0)

  all_value : (ops : List Operand) (s : Shape) (rest : List OperandKind) (go : List Value → List Operand → Move) → Has ops (OfKind s ∷ rest)
      → ((vs : List Value) (r : List Operand) → map kind_of vs ≡ cell_kinds s → Has r rest → Safe (go vs r)) → Safe (on_all ops go)
  all_value [] s rest go f h = absurd f.0
  all_value (Of v ∷ ops) s rest go f h = h (v ∷ []) ops (has_values (Of v) (cell_kinds s) f.0.0) (f.0.1, fewer (Of v) ops f.1)
  all_value (At a ∷ ops) s rest go f h = absurd (has_values (At a) (cell_kinds s) f.0.0)
  all_value (Aggregate vs ∷ ops) s rest go f h = h vs ops (has_values (Aggregate vs) (cell_kinds s) f.0.0) (f.0.1, fewer (Aggregate vs) ops f.1)

  one_place : (ops : List Operand) (s : Shape) (rest : List OperandKind) (go : Addr → List Operand → Move) → Has ops (AtKind s ∷ rest)
      → ((a : Addr) (r : List Operand) → Has r rest → Safe (go a r)) → Safe (on_place ops go)
  one_place [] s rest go f h = absurd f.0
  one_place (Of v ∷ ops) s rest go f h = absurd f.0.0
  one_place (At a ∷ ops) s rest go f h = h a ops (f.0.1, fewer (At a) ops f.1)
  one_place (Aggregate vs ∷ ops) s rest go f h = absurd f.0.0

  value_place : (ops : List Operand) (k : Kind) (s : Shape) (rest : List OperandKind) (go : Value → Addr → List Operand → Move)
      → Has ops (cell_value k ∷ AtKind s ∷ rest) → ((v : Value) (a : Addr) (r : List Operand) → Has r rest → Safe (go v a r))
      → Safe (on_value ops (λ v ops. on_place ops (go v)))
  value_place ops k s rest go f h = one_value ops k (AtKind s ∷ rest) _ f (λ v r e g. one_place r s rest (go v) g (h v))

  some_values : (more : List Kind) (n : ℕ) (rest : List OperandKind) (acc : List Value) (ops : List Operand) (go : List Value → List Operand → Move)
      → Has ops (pushed_kinds more rest) → ((acc : List Value) (ops : List Operand) → Has ops rest → Safe (on_values n acc ops go))
      → Safe (on_values (length more + n) acc ops go)
  some_values [] n rest acc ops go f h = let e : 0 + n ≡ n = omega arith in subst (λ n. Safe (on_values n acc ops go)) (sym e) (h acc ops f)
  some_values (k ∷ more) n rest acc ops go f h =
      let e : suc (length more) + n ≡ length more + suc n = omega arith in
      subst (λ n. Safe (on_values n acc ops go)) (sym e) (some_values more (suc n) (cell_value k ∷ rest) acc ops go f by)
    where
      by : (acc : List Value) (ops : List Operand) → Has ops (cell_value k ∷ rest) → Safe (on_values (suc n) acc ops go)
      by acc [] f = absurd f.0
      by acc (Of v ∷ ops) f = h (v ∷ acc) ops (f.0.1, fewer (Of v) ops f.1)
      by acc (At a ∷ ops) f = absurd (is_one (At a) k f.0.0)
      by acc (Aggregate vs ∷ ops) f = absurd (is_one (Aggregate vs) k f.0.0)

  -- what was taken is of these kinds
  some_fitting : (more : List OperandKind) (n : ℕ) (had rest : List OperandKind) (acc ops : List Operand) (go : List Operand → List Operand → Move)
      → FitsKinds acc had → Has ops (pushed_operands more rest)
      → ((acc' ops : List Operand) → FitsKinds acc' (more ++ had) → Has ops rest → Safe (on_operands n acc' ops go))
      → Safe (on_operands (length more + n) acc ops go)
  some_fitting [] n had rest acc ops go is f h =
      let e : 0 + n ≡ n = omega arith in subst (λ n. Safe (on_operands n acc ops go)) (sym e) (h acc ops is f)
  some_fitting (k ∷ more) n had rest acc ops go is f h =
      let e : suc (length more) + n ≡ length more + suc n = omega arith in
      subst (λ n. Safe (on_operands n acc ops go)) (sym e) (some_fitting more (suc n) had (k ∷ rest) acc ops go is f by)
    where
      by : (acc' ops : List Operand) → FitsKinds acc' (more ++ had) → Has ops (k ∷ rest) → Safe (on_operands (suc n) acc' ops go)
      by acc' [] is f = absurd f.0
      by acc' (o ∷ ops) is f = h (o ∷ acc') ops (f.0.0, is) (f.0.1, fewer o ops f.1)

  -- a request's operands are taken
  taken_safe : (q : RequestName) (rest : List OperandKind) (ops : List Operand) (go : List Operand → List Operand → Move)
      → Has ops (pushed_operands (request_operands q) rest)
      → ((os ops : List Operand) → FitsKinds os (request_operands q ++ []) → Has ops rest → Safe (go os ops)) → Safe (on_operands (request_size q) [] ops go)
  taken_safe q rest ops go f h =
      let e : length (request_operands q) + 0 ≡ request_size q = omega (arith, request_many q) in
      subst (λ n. Safe (on_operands n [] ops go)) e (some_fitting (request_operands q) 0 [] rest [] ops go tt f h)

  or_safe : (g : GivenValue) (go : Value → Move) → ((v : Value) → g ≡ Ok v → Safe (go v)) → Safe (or_halt g go)
  or_safe (Ok v) go h = h v refl
  or_safe (Err s) go h = tt

  cond_safe : (t : Bool) (m m' : Move) → (t ≡ true → Safe m) → Safe m' → Safe (cond t m m')
  cond_safe true m m' a b = a refl
  cond_safe false m m' a b = b

  module _ (m : Spot) (floor : ℕ) (made : FitsFrames p frames m.body floor) (used_is : used ≡ floor + m.limits) (room : cells_fit used ≡ true) where
    fits_at : (pc : ℕ) (ks : List OperandKind) (ops : List Operand) (w : Waits) → Next p.lines pc ks m → Has ops ks
        → (is_asking w ≡ true → is_ask (instr_of (slice_get p.lines pc)) ≡ true)
        → Fits p (record { position = record { pc = pc; ops = ops; used = used; frames = frames }; waits = w })
    fits_at pc ks ops w next f asks = record {
      kinds = ks;
      spot = m;
      floor = floor;
      next = next;
      operands = f.0;
      frames = made;
      used = used_is;
      asks = asks;
      cells = λ _. room;
      bytes = f.1;
    }

    fit : (pc : ℕ) (ks : List OperandKind) (ops : List Operand) → Next p.lines pc ks m → Has ops ks
        → Fits p (free (record { pc = pc; ops = ops; used = used; frames = frames }))
    fit pc ks ops next f = fits_at pc ks ops Nothing next f (λ e. absurd (cc e))

    push_on : (o : Operand) (k : OperandKind) (r : List Operand) (ks : List OperandKind) (u : Mem) → FitsKind o k → Next p.lines (pc + 1) (k ∷ ks) m
        → FitsKinds r ks → Safe (pushes now o r u)
    push_on o k r ks u is next f =
        cond_safe (bytes_fit (operand_bytes o + bytes_on r (bytes_of frames))) (goes now (o ∷ r) u) (Halts OperandRoom)
        (λ e. fit (pc + 1) (k ∷ ks) (o ∷ r) next ((is, f), e)) tt

    there_safe : (ks : List Kind) (a : Addr) (u : Mem) (move : Move) → Safe move → Safe (if_there ks a u move)
    there_safe ks a u move x = cond_safe (lies_in ks a.area a.cell u.heads) move (Halts NoSpace) (λ _. x) tt

    push_safe : (o : Operand) (k : OperandKind) (r : List Operand) (ks : List OperandKind) → FitsKind o k → Next p.lines (pc + 1) (k ∷ ks) m → FitsKinds r ks
        → Safe (pushes now o r mem)
    push_safe o k r ks is next f = push_on o k r ks mem is next f

    chosen : (t : Bool) (a b : ℕ) (ks : List OperandKind) (m : Spot) → Next p.lines a ks m → Next p.lines b ks m → Next p.lines (cond t a b) ks m
    chosen true a b ks m x y = x
    chosen false a b ks m x y = y

    within : used ≤ CELLS
    within = leb-true used CELLS room

    outer_cell : (x : ℕ) (k : Kind) → slice_get p.variables x ≡ Some k → IsCell (run_cell x)
    outer_cell x k e = omega (arith, slice_get_within p.variables x k e, level_below p valid frames m.body floor made, used_is, within)

    local_cell : (x : ℕ) (k : CellUse) → slice_get (frame_cells p m.body) x ≡ Some k → IsCell (run_cell (base_of frames + x))
    local_cell x k e = omega (arith, slice_get_within (frame_cells p m.body) x k e, frame_below p valid frames m.body floor made, used_is, within)

    word_safe : (x : Cell) (f : ℕ → Move) → ((n : ℕ) → Safe (f n)) → Safe (on_word x f)
    word_safe Free f h = tt
    word_safe (Word n) f h = h n
    word_safe (Letters t) f h = tt

    cell_safe : (k : Kind) (x : Cell) (f : Value → Move) → ((v : Value) → kind_of v ≡ k → Safe (f v)) → Safe (on_cell k x f)
    cell_safe kinds.Int x f h = word_safe x (λ n. f (item.Int (number_in n))) (λ n. h (item.Int (number_in n)) refl)
    cell_safe kinds.Truth x f h = word_safe x (λ n. f (item.Truth (truth_in n))) (λ n. h (item.Truth (truth_in n)) refl)
    cell_safe kinds.Text Free f h = tt
    cell_safe kinds.Text (Word n) f h = tt
    cell_safe kinds.Text (Letters t) f h = h (item.Text t) refl
    cell_safe kinds.Task x f h = word_safe x (λ n. f (item.Task (task_in n))) (λ n. h (item.Task (task_in n)) refl)
    cell_safe kinds.Space x f h = word_safe x (λ n. f (item.Space (space_in n))) (λ n. h (item.Space (space_in n)) refl)

    cells_safe : (ks : List Kind) (a : Addr) (f : List Value → Move) → ((vs : List Value) → map kind_of vs ≡ ks → Safe (f vs)) → Safe (on_cells ks a mem.cells f)
    cells_safe [] a f h = h [] refl
    cells_safe (k ∷ ks) a f h =
        cell_safe k (mem.cells a) _ (λ v is.
        cells_safe ks (next a) (λ vs. f (v ∷ vs)) (λ vs same. h (v ∷ vs) (ap (λ k. k ∷ map kind_of vs) is ∙ ap (λ l. k ∷ l) same)))

    -- a place further on is pushed in the stead of one
    item_safe : (k : Option ℕ) (go : ℕ → Move) → ((n : ℕ) → k ≡ Some n → Safe (go n)) → Safe (on_item k go)
    item_safe None go h = tt
    item_safe (Some n) go h = h n refl

    further_safe : (a : Addr) (n : ℕ) (k : Shape) (r : List Operand) (ks : List OperandKind) → Next p.lines (pc + 1) (AtKind k ∷ ks) m → FitsKinds r ks
        → Safe (on_further a n (λ to. pushes now (At to) r mem))
    further_safe a n k r ks next f =
        cond_safe (nat_lt (a.cell + n) CELLS) (pushes now (At (further a n)) r mem) (Halts NoSpace)
        (λ e. push_safe (At (further a n)) (AtKind k) r ks (ltb-true (a.cell + n) CELLS e) next f) tt

    -- so many cells of a value are pushed in its stead
    part_safe : (from size : ℕ) (vs : List Value) (s t : Shape) (r : List Operand) (ks : List OperandKind) → map kind_of vs ≡ cell_kinds s
        → take size (drop from (cell_kinds s)) ≡ cell_kinds t → Next p.lines (pc + 1) (OfKind t ∷ ks) m → Has r ks
        → Safe (pushes now (operand_of (take size (drop from vs))) r mem)
    part_safe from size vs s t r ks is part next g =
        let kinds : map kind_of (take size (drop from vs)) ≡ cell_kinds t =
        sym (take-map kind_of size (drop from vs)) ∙ ap (take size) (sym (drop-map kind_of from vs) ∙ ap (drop from) is) ∙ part in
        push_safe (operand_of (take size (drop from vs))) (OfKind t) r ks (record { values = take size (drop from vs); is = refl; kinds = kinds }) next g.0

    -- more and fewer limits
    limit_safe : (way : Way) (a : ℕ) (v : Value) (x : Addr) (r : List Operand) (ks : List OperandKind) → Next p.lines (pc + 1) ks (deeper m)
        → Next p.lines a ks (deeper m) → Has r ks → Safe (limit_to now way a (number_of v) x r mem)
    limit_safe way a v x r ks next lands f =
        cond_safe (cells_fit (used + 1)) _ _ (λ e.
        cond_safe (is_free (mem.cells (run_cell used))) _ _ (λ _.
        there_safe (kinds.Int ∷ []) x mem _ (word_safe (mem.cells x) _ (λ n.
        let t = is_past way (number_of v) (number_in n) in
        record {
          kinds = ks;
          spot = deeper m;
          floor = floor;
          next = chosen t a (pc + 1) ks (deeper m) lands next;
          operands = f.0;
          frames = made;
          used =
              omega (arith, used_is);
          asks = λ e. absurd (cc e);
          cells = λ _. e;
          bytes = f.1;
        }))) tt) tt

    unlimit_safe : (outer : Spot) (ks : List OperandKind) → m ≡ deeper outer → Next p.lines (pc + 1) ks outer → Has ops ks
        → Fits p (free (using (at now (pc + 1) ops) (used - 1)))
    unlimit_safe outer ks e next f =
        let limits : m.limits ≡ suc outer.limits = ap (λ (s : Spot). s.limits) e in
        record {
          kinds = ks;
          spot = outer;
          floor = floor;
          next = next;
          operands = f.0;
          frames = subst (λ b. FitsFrames p frames b floor) (ap (λ (s : Spot). s.body) e) made;
          used = omega (arith, used_is, limits);
          asks = λ e. absurd (cc e);
          cells = λ _. cells_fewer (used - 1) used (omega arith) room;
          bytes = f.1;
        }

    -- a body is entered
    enters_safe : (n : ℕ) (e : Entry) (base floor' : ℕ) (refines : Bool) (r : List Operand) (rest : List OperandKind) (ns : List Cell)
        → slice_get p.bodies n ≡ Some e → Has r rest → floor' ≡ used + length ns
        → MadeSo p e.layout n pc rest m (record { back = pc + 1; base = base; used = used; refines = refines; body = n; ops = r }) floor' (base_of frames)
        → (free t texts : Bool) → cells_fit (used + length ns) ≡ t
        → IsSafe p (Spends (cond free
        (cond t (cond texts (To (record {
          pc = e.first;
          ops = [];
          used = used + length ns;
          frames =
              record { back = pc + 1; base = base; used = used; refines = refines; body = n; ops = r } ∷ frames;
        }) (with_cells (written_from used ns mem.cells) mem)) (Stops TextRoom)) (Stops CellRoom))
        Unsaid))
    enters_safe n e base floor' refines r rest ns has f is so false t texts fit = tt
    enters_safe n e base floor' refines r rest ns has f is so true false texts fit = tt
    enters_safe n e base floor' refines r rest ns has f is so true true false fit = tt
    enters_safe n e base floor' refines r rest ns has f is so true true true fit = record {
      kinds = [];
      spot = in_body n;
      floor = floor';
      next = valid.bodies n e has;
      operands = tt;
      frames = (
        m,
        (
          floor,
          (
            record { number = n; is = refl; named = refl; entry = e; has = has; pc = pc; rest = rest; back = refl; used = used_is; operands = f.0; made = so },
            made,
          ),
        ),
      );
      used = omega (arith, is);
      asks = λ e. absurd (cc e);
      cells = λ _. fit;
      bytes = f.1;
    }

    call_safe : (n : ℕ) (ks : List OperandKind) → slice_get p.lines pc ≡ Some (line_of (Call n) ks m) → IsCalled p pc n ks m → Has ops ks
        → Safe (call_move now n (slice_get p.bodies n) mem)
    call_safe n ks line c f =
        subst (λ o. Safe (call_move now n o mem)) (sym c.has)
        (subst (λ l. Safe (calls_to now n c.entry.first l mem)) (sym c.own)
        (let e : length c.parameters ≡ length c.parameters + 0 = omega arith in
        subst (λ k. Safe (on_operands k [] ops (λ args ops. Spends (enters now c.entry.first (used + 2) false n ops (frame_contents args c.variables) mem))))
        (sym e)
        (some_fitting c.parameters 0 [] c.rest [] ops _ tt (subst (Has ops) c.taken f) (λ args r fits g.
        let many : length (flat_map held_cells args) ≡ length (flat_map cell_uses c.parameters) =
        all_cells args c.parameters (subst (FitsKinds args) (append-nil c.parameters) fits) in
        let size = 2 + length (flat_map cell_uses c.parameters) + length c.variables in
        let numbers : length (frame_contents args c.variables) ≡ size =
        omega (
          arith,
          length-append (flat_map held_cells args) (map (λ k. held_of (blank_of k)) c.variables),
          length-map c.variables (λ k. held_of (blank_of k)),
          many,
        ) in
        let floor' = used + 2 + length (flat_map cell_uses c.parameters) + length c.variables in
        let so : MadeSo p (layouts.Own c.parameters c.variables) n pc c.rest m
        (record { back = pc + 1; base = used + 2; used = used; refines = false; body = n; ops = r }) floor' (base_of frames) =
        (subst (λ ks. slice_get p.lines pc ≡ Some (line_of (Call n) ks m)) c.taken line, refl, refl, refl) in
        enters_safe n c.entry (used + 2) floor' false r c.rest (frame_contents args c.variables) c.has g
        (omega (arith, numbers))
        (subst (λ l. MadeSo p l n pc c.rest m (record { back = pc + 1; base = used + 2; used = used; refines = false; body = n; ops = r })
        floor' (base_of frames)) (sym c.own) so) (are_free used (frame_contents args c.variables) mem.cells)
        (cells_fit (used + length (frame_contents args c.variables)))
        (texts_fit (content_blocks (frame_contents args c.variables)) (blocks_in (written_from used (frame_contents args c.variables) mem.cells))) refl))))

    refer_safe : (n : ℕ) (ks : List OperandKind) → slice_get p.lines pc ≡ Some (line_of (Refer n) ks m) → IsReferred p pc n ks m → Has ops ks
        → Safe (refer_move now n (slice_get p.bodies n) mem)
    refer_safe n ks line c f =
        subst (λ o. Safe (refer_move now n o mem)) (sym c.has)
        (enters_safe n c.entry (base_of frames) (used + 2) true ops ks link_contents c.has f refl (so c.entry.layout c.refinement)
        (are_free used link_contents mem.cells) (cells_fit (used + length link_contents)) true refl)
      where
        so : (l : Layout) → IsRefinement l
            → MadeSo p l n pc ks m (record { back = pc + 1; base = base_of frames; used = used; refines = true; body = n; ops = ops }) (used + 2)
            (base_of frames)
        so (layouts.Own ps vs) r = absurd r
        so (layouts.Of q) r = (line, refl, refl, refl)
        so layouts.Level r = (line, refl, refl, refl)

    -- a result is taken with the machine, and has room where it was
    result_safe : (k : Option Shape) (ks : List OperandKind) (go : List Operand → Move) → HasResult k ks → Has ops ks
        → ((os : List Operand) → ((r : List Operand) (rest : List OperandKind) → FitsKinds r rest → FitsKinds (os ++ r) (with_result k rest))
        → ((r : List Operand) (held : ℕ) → bytes_on r held ≤ bytes_of frames → bytes_fit (bytes_on (os ++ r) held) ≡ true) → Safe (go os))
        → Safe (on_result k ops go)
    result_safe None ks go t f h =
        h [] (λ r rest g. g) (λ r held le.
        bytes_fewer (bytes_on r held) (bytes_on ops (bytes_of frames)) (omega (arith, le, bytes_below ops (bytes_of frames))) f.1)
    result_safe (Some k) ks go t f h = by ops (subst (Has ops) t.1 f)
      where
        stays : (o : Operand) (r : List Operand) → Has (o ∷ r) (OfKind k ∷ t.0) → Safe (go (o ∷ []))
        stays o r f =
            h (o ∷ []) (λ r' rest g. (f.0.0, g))
            (λ r' held le. bytes_fewer (operand_bytes o + bytes_on r' held) (operand_bytes o + bytes_on r (bytes_of frames))
            (omega (arith, le, bytes_below r (bytes_of frames))) f.1)

        by : (ops' : List Operand) → Has ops' (OfKind k ∷ t.0) → Safe (on_result (Some k) ops' go)
        by [] f = absurd f.0
        by (At a ∷ r) f = absurd (has_values (At a) (cell_kinds k) f.0.0)
        by (Of v ∷ r) f = stays (Of v) r f
        by (Aggregate vs ∷ r) f = stays (Aggregate vs) r f

    -- a frame is left for the one below
    into_safe : (f : Frame) (fs : List Frame) (body : Option ℕ) (floor' : ℕ) (k : Option Shape) (os : List Operand) (h : FitsFrames p (f ∷ fs) body floor')
        → floor' ≤ used → bytes_of (f ∷ fs) ≤ bytes_of frames → h.1.1.0.entry.delivers ≡ k
        → ((r : List Operand) (rest : List OperandKind) → FitsKinds r rest → FitsKinds (os ++ r) (with_result k rest))
        → ((r : List Operand) (held : ℕ) → bytes_on r held ≤ bytes_of frames → bytes_fit (bytes_on (os ++ r) held) ≡ true)
        → Safe (back_into p os used f fs mem)
    into_safe f fs body floor' k os h le bytes is fits room' =
        let made' = h.1.1.0 in
        cond_safe (is_framed (slice_get p.bodies f.body) f.used used mem.cells)
        (Goes (record { pc = f.back; ops = os ++ f.ops; used = f.used; frames = fs }) (with_cells (freed f.used used mem.cells) mem)) Unknown (λ _. record {
          kinds = with_result k made'.rest;
          spot = h.0;
          floor = h.1.0;
          next = subst (λ k. Next p.lines f.back (with_result k made'.rest) h.0) is (returns p valid f body floor' (base_of fs) h.0 h.1.0 made');
          operands = fits f.ops made'.rest made'.operands;
          frames = h.1.1.1;
          used = made'.used;
          asks = λ e. absurd (cc e);
          cells = λ _. cells_fewer f.used used (omega (arith, le, used_below p valid f body floor' (base_of fs) h.0 h.1.0 made')) room;
          bytes = room' f.ops (bytes_of fs) bytes;
        }) tt

    back_safe : (fs : List Frame) (k : Option Shape) (os : List Operand) (n : ℕ) (e : Entry) (floor' : ℕ) (body : Option ℕ) → FitsFrames p fs body floor'
        → body ≡ Some n → slice_get p.bodies n ≡ Some e → e.delivers ≡ k → floor' ≤ used → bytes_of fs ≤ bytes_of frames
        → ((r : List Operand) (rest : List OperandKind) → FitsKinds r rest → FitsKinds (os ++ r) (with_result k rest))
        → ((r : List Operand) (held : ℕ) → bytes_on r held ≤ bytes_of frames → bytes_fit (bytes_on (os ++ r) held) ≡ true) → Safe (back_to p os used fs mem)
    back_safe [] k os n e floor' body h b has is le bytes fits room' = let f : ⊥ = cc (b, h.0) in absurd f
    back_safe (f ∷ fs) k os n e floor' body h b has is le bytes fits room' =
        let made' = h.1.1.0 in
        let same : made'.number ≡ n = some_is made'.number n (sym made'.is ∙ b) in
        let entry : made'.entry ≡ e = some_is made'.entry e (sym made'.has ∙ ap (slice_get p.bodies) same ∙ has) in
        into_safe f fs body floor' k os h le bytes (ap (λ (x : Entry). x.delivers) entry ∙ is) fits room'

    out_safe : (fs : List Frame) (k : Option Shape) (os : List Operand) (n : ℕ) (e : Entry) (floor' : ℕ) (body : Option ℕ) → FitsFrames p fs body floor'
        → owner p body ≡ Some n → slice_get p.bodies n ≡ Some e → e.delivers ≡ k → floor' ≤ used → bytes_of fs ≤ bytes_of frames
        → ((r : List Operand) (rest : List OperandKind) → FitsKinds r rest → FitsKinds (os ++ r) (with_result k rest))
        → ((r : List Operand) (held : ℕ) → bytes_on r held ≤ bytes_of frames → bytes_fit (bytes_on (os ++ r) held) ≡ true) → Safe (out_to p os used fs mem)
    out_safe [] k os n e floor' body h o has is le bytes fits room' = let f : None ≡ Some n = sym (ap (owner p) h.0) ∙ o in let g : ⊥ = cc in absurd g
    out_safe (f ∷ fs) k os n e floor' body h o has is le bytes fits room' =
        let made' = h.1.1.0 in
        let number : owner p (Some made'.number) ≡ Some n = ap (owner p) (sym made'.is) ∙ o in
        let under = used_below p valid f body floor' (base_of fs) h.0 h.1.0 made' in
        by_layout p valid f body floor' (base_of fs) h.0 h.1.0 made' (λ _. Safe (out_to p os used (f ∷ fs) mem))
        (λ ps vs l.
        let own : Some made'.number ≡ Some n = sym (owner_is p valid made'.number made'.entry made'.has ∙ ap (owner_in made'.number) l) ∙ number in
        let same : made'.number ≡ n = some_is made'.number n own in
        let entry : made'.entry ≡ e = some_is made'.entry e (sym made'.has ∙ ap (slice_get p.bodies) same ∙ has) in
        subst (λ t. Safe (cond t (out_to p os used fs mem) (back_into p os used f fs mem)))
        (sym (as_proc p valid f body floor' (base_of fs) h.0 h.1.0 made' ps vs l).1)
        (into_safe f fs body floor' k os h le bytes (ap (λ (x : Entry). x.delivers) entry ∙ is) fits room'))
        (λ l q r.
        subst (λ t. Safe (cond t (out_to p os used fs mem) (back_into p os used f fs mem)))
        (sym (as_refined p valid f body floor' (base_of fs) h.0 h.1.0 made' l q r).1)
        (out_safe fs k os n e h.1.0 h.0.body h.1.1.1 (sym (same_owner p valid f body floor' (base_of fs) h.0 h.1.0 made' l q r) ∙ number) has is
        (omega (arith, le, under, made'.used)) (omega (arith, bytes, bytes_below f.ops (bytes_of fs))) fits room'))
        made'.entry.layout refl

    -- a value is put into a cell
    put_safe : (a : Addr) (v : Value) (ks : List OperandKind) (r : List Operand) → Next p.lines (pc + 1) ks m → Has r ks → Safe (puts now a v r mem)
    put_safe a v ks r next g =
        let now' = written mem.cells a (held_of v) in
        there_safe (kind_of v ∷ []) a mem _
        (cond_safe (takes (held_of v) (mem.cells a)) _ _
        (λ _.
        cond_safe (texts_fit (cell_blocks (held_of v)) (area_blocks a.area now')) (goes now r (with_cells now' mem)) (Halts TextRoom)
        (λ _. fit (pc + 1) ks r next g) tt) tt)

    put_all_safe : (a : Addr) (vs : List Value) (ks : List OperandKind) (r : List Operand) → Next p.lines (pc + 1) ks m → Has r ks
        → Safe (puts_all now a vs r mem)
    put_all_safe a vs ks r next g =
        let now' = written_all mem.cells a vs in
        there_safe (map kind_of vs) a mem _
        (cond_safe (takes_all vs a mem.cells) _ _
        (λ _.
        cond_safe (texts_fit (values_blocks vs) (area_blocks a.area now')) (goes now r (with_cells now' mem)) (Halts TextRoom)
        (λ _. fit (pc + 1) ks r next g) tt) tt)

    -- data spaces change
    changes_safe : {A : Type 0} (plan : Plan A) (f : A → Mem → Move) → ((q : A × List SpaceChange) (u : Mem) → plan ≡ Ok q → Safe (f q.0 u))
        → Safe (changes plan mem f)
    changes_safe (Ok q) f h = h q (mem_after q.1 mem) refl
    changes_safe (Err stop) f h = tt

    fills_safe : {A : Type 0} (plan : Plan A) (f : A → Mem → Move) → ((a : A) (u : Mem) → Safe (f a u)) → Safe (fills plan mem f)
    fills_safe (Ok q) f h = cond_safe (can_all_change q.1 mem.cells) (f q.0 (mem_after q.1 mem)) Unknown (λ _. h q.0 (mem_after q.1 mem)) tt
    fills_safe (Err stop) f h = tt

    keeps_safe : (a : Addr) (n : SpaceNo) (u : Mem) (f : Mem → Move) → ((u : Mem) → Safe (f u)) → Safe (keeps_space a n u f)
    keeps_safe a n u f h =
        let now' = with_cells (written u.cells a (held_of (item.Space (Some n)))) u in
        cond_safe (takes_number (u.cells a)) (f now') Unknown (λ _. h now') tt

    answer_safe : (o : Option Kind) (v : Option Value) (rest : List OperandKind) (r : List Operand) (u : Mem) → IsAnswer o v
        → Next p.lines (pc + 1) (with_answer o rest) m → Has r rest → Safe (answers now v r u)
    answer_safe None None rest r u is next g = fit (pc + 1) rest r next g
    answer_safe None (Some v) rest r u is next g = absurd is
    answer_safe (Some k) None rest r u is next g = absurd is
    answer_safe (Some k) (Some v) rest r u is next g = push_on (Of v) (cell_value k) r rest u (as_one v k is) next g.0

    copy_safe : (from : Option SpaceNo) (a : Addr) (ks : List OperandKind) (r : List Operand) → Next p.lines (pc + 1) ks m → Has r ks
        → Safe (copies now from a r mem)
    copy_safe from a ks r next g =
        there_safe (kinds.Space ∷ []) a mem _
        (word_safe (mem.cells a) _ (λ held. changes_safe (copy_plan None from mem.heads)
        (λ n u. keeps_space a n u (λ u'. goes now r (without_held (space_in held) u')))
        (λ q u _. keeps_safe a q.0 u (λ u'. goes now r (without_held (space_in held) u')) (λ u'. fit (pc + 1) ks r next g))))

    bind_safe : (t : Shape) (space : Option SpaceNo) (a : Addr) (ks : List OperandKind) (r : List Operand) → Next p.lines (pc + 1) ks m → Has r ks
        → Safe (binds now t space a r mem)
    bind_safe t space a ks r next g =
        there_safe (kinds.Space ∷ []) a mem _
        (cond_safe (cells_fit (length (cell_kinds t))) _ _
        (λ _. fills_safe (bind_plan t space mem.heads) (λ n u. keeps_space a n u (goes now r))
        (λ n u. keeps_safe a n u (goes now r) (λ u'. fit (pc + 1) ks r next g))) tt)

    content_cell : (s : Option SpaceNo) → IsCell (content_at s)
    content_cell (Some s) = omega arith
    content_cell None = omega arith

    -- the variable of a request gets a value
    keep_safe : (ks : List Kind) (os : List Operand) (v : Value) (rest : List OperandKind) (r : List Operand) → FitsKinds os (map cell_place ks ++ [])
        → Next p.lines (pc + 1) rest m → Has r rest → Safe (keeps now os v r mem)
    keep_safe [] [] v rest r is next g = fit (pc + 1) rest r next g
    keep_safe [] (o ∷ os) v rest r is next g = absurd is
    keep_safe (k ∷ ks) [] v rest r is next g = absurd is
    keep_safe (k ∷ ks) (Of w ∷ os) v rest r is next g = absurd is.0
    keep_safe (k ∷ ks) (At a ∷ os) v rest r is next g = put_safe a v rest r next g
    keep_safe (k ∷ ks) (Aggregate vs ∷ os) v rest r is next g = absurd is.0

    -- its variables get what a message brings
    receives_safe : (ks : List Kind) (os : List Operand) (es : List (ℕ × Value)) (rest : List OperandKind) (r : List Operand) (u : Mem)
        → FitsKinds os (map cell_place ks ++ []) → AllByRecursion (Suits ks) es → Next p.lines (pc + 1) rest m → Has r rest
        → Safe (receives now r os es u)
    receives_safe ks os [] rest r u is suits next g = fit (pc + 1) rest r next g
    receives_safe ks os (e ∷ es) rest r u is suits next g =
        let x = place_there ks os e.0 suits.0.0 is suits.0.1 in
        let a = x.0 in
        let now' = λ (held : Value). without_held (space_of held) (with_cells (written u.cells a (held_of e.1)) u) in
        subst (λ (o : Option Operand). Safe (receives_at now r o e.1 u (receives now r os es))) (sym x.1)
        (cond_safe (lies_in (kind_of e.1 ∷ []) a.area a.cell u.heads) _ _
        (λ _. cell_safe (kind_of e.1) (u.cells a) (λ held. cond (takes (held_of e.1) (u.cells a)) (receives now r os es (now' held)) Unknown)
        (λ held _. cond_safe (takes (held_of e.1) (u.cells a)) (receives now r os es (now' held)) Unknown
        (λ _. receives_safe ks os es rest r (now' held) is suits.1 next g) tt))
        (fits_at (pc + 1) rest r (Refused NoSpace) next g (λ e. absurd (cc e))))

    put_reply_safe : (b : Bool) (q : RequestName) (t : Reply) (os r : List Operand) (rest : List OperandKind)
        → FitsKinds os (map cell_place (request_places q) ++ []) → Next p.lines (pc + 1) rest m → Has r rest → Safe (puts_reply b q t now os r mem)
    put_reply_safe true q t os r rest is next g =
        receives_safe (request_places q) os (message_values q t (last_made mem)) rest r mem is (message_suits q t (last_made mem)) next g
    put_reply_safe false q t os r rest is next g = or_safe (read_as q t) _ (λ v _. keep_safe (request_places q) os v rest r is next g)

    -- what a request asks for
    asks_safe : (b : Bool) (q : RequestName) (os : List Operand) → ((asked : Request) → Fits p (asking now asked)) → Safe (Spends (asks_for b q os now mem))
    asks_safe false q os h = h _
    asks_safe true q os h = by (drop (length (request_kinds q)) os)
      where
        looked : (b : Bool) (x : Cell)
            → Safe (Spends (cond b (after_word x (λ n. Asks now (request_of q (item.Space (space_in n) ∷ map value_in os)) mem)) (Stops NoSpace)))
        looked false x = tt
        looked true Free = tt
        looked true (Word n) = h _
        looked true (Letters t) = tt

        by : (places : List Operand) → Safe (Spends (asks_with q (map value_in os) places now mem))
        by [] = tt
        by (Of v ∷ r) = tt
        by (At a ∷ r) = looked (lies_in (kinds.Space ∷ []) a.area a.cell mem.heads) (mem.cells a)
        by (Aggregate vs ∷ r) = tt

    -- what a request does with its reply
    settle_safe : (q : RequestName) (t : Reply) (o : Option Kind) → request_result q ≡ o → (os r : List Operand) (rest : List OperandKind)
        → FitsKinds (drop (length (request_kinds q)) os) (map cell_place (request_places q) ++ []) → Next p.lines (pc + 1) (with_answer o rest) m
        → Has r rest → Safe (settles q o t now os r mem)
    settle_safe q t None e os r rest is next g =
        put_reply_safe (is_message q) q t (drop (length (request_kinds q)) os) r rest is next g
    settle_safe q t (Some k) e os r rest is next g =
        or_safe (answer_of q t) _
        (λ v h. push_safe (Of v) (cell_value k) r rest (as_one v k (kind_is k v (answer_gives q k t e v h))) next g.0)

    -- a request goes on with its reply
    reply_safe : (q : RequestName) (t : Reply) (ks : List OperandKind) → IsFine p pc (Ask q) ks m → Has ops ks → Safe (takes_reply (Some (Ask q)) t now mem)
    reply_safe q t ks f k =
        taken_safe q f.0 ops _ (subst (Has ops) f.1 k) (λ os r is g.
        settle_safe q t (request_result q) refl os r f.0
        (fits_behind (request_kinds q) (map cell_place (request_places q) ++ []) os
        (subst (FitsKinds os) (append_assoc (map cell_value (request_kinds q)) (map cell_place (request_places q)) []) is)) f.2 g)

    safe : (i : Instr) (ks : List OperandKind) → slice_get p.lines pc ≡ Some (line_of i ks m) → IsFine p pc i ks m → Has ops ks
        → Safe (instruction p (Some i) now mem)
    safe Mark ks line f k = fit (pc + 1) ks ops f k
    safe (Number z) ks line f k = push_safe (Of (item.Int z)) (cell_value kinds.Int) ops ks (as_one (item.Int z) kinds.Int refl) f k.0
    safe (Truth b) ks line f k = push_safe (Of (item.Truth b)) (cell_value kinds.Truth) ops ks (as_one (item.Truth b) kinds.Truth refl) f k.0
    safe (Text t) ks line f k = push_safe (Of (item.Text t)) (cell_value kinds.Text) ops ks (as_one (item.Text t) kinds.Text refl) f k.0
    safe (Outer x) ks line f k = push_safe (At (run_cell x)) (AtKind f.2.0) ops ks (outer_cell x f.0 f.1) f.2.1 k.0
    safe (Packet x) ks line f k =
        let small : x % CELLS < CELLS = omega arith in push_safe (At (packet_cell (x % CELLS))) (AtKind f.2.0) ops ks small f.2.1 k.0
    safe (Local x) ks line f k = push_safe (At (run_cell (base_of frames + x))) (AtKind f.2.0) ops ks (local_cell x (HoldsValue f.0) f.1) f.2.1 k.0
    safe (Param x) ks line f k =
        word_safe (mem.cells (run_cell (base_of frames + x))) _ (λ n.
        let small : n % CELLS < CELLS = omega arith in
        push_safe (At (place_in n)) (AtKind f.1.0) ops ks small f.1.1 k.0)
    safe (Index n size) ks line f k =
        one_value ops kinds.Int f.0 _ (subst (Has ops) f.1 k) (λ v q e h.
        one_place q f.2.shape f.2.rest _ (subst (Has q) f.2.taken h) (λ a r g.
        item_safe (in_row n (number_of v)) _ (λ i _. further_safe a (i * size) f.2.given r f.2.rest f.2.next g.0)))
    safe (Field n) ks line f k =
        one_place ops f.shape f.rest _ (subst (Has ops) f.taken k) (λ a r g. further_safe a n f.given r f.rest f.next g.0)
    safe Content ks line f k =
        one_place ops f.shape f.rest _ (subst (Has ops) f.taken k) (λ a r g.
        there_safe (kinds.Space ∷ []) a mem _ (word_safe (mem.cells a) _ (λ n.
        push_safe (At (content_at (space_in n))) (AtKind f.given) r f.rest (content_cell (space_in n)) f.next g.0)))
    safe (Pick n size) ks line f k =
        one_value ops kinds.Int f.0 _ (subst (Has ops) f.1 k) (λ v q e h.
        all_value q f.2.shape f.2.rest _ (subst (Has q) f.2.taken h) (λ vs r is g.
        item_safe (in_row n (number_of v)) _ (λ i there.
        part_safe (i * size) size vs f.2.shape f.2.given r f.2.rest is (f.2.part.each i (in_row_below n (number_of v) i there)) f.2.next g)))
    safe (Take n from size) ks line f k =
        all_value ops f.shape f.rest _ (subst (Has ops) f.taken k) (λ vs r is g. part_safe from size vs f.shape f.given r f.rest is f.part.is f.next g)
    safe (Load s) ks line f k =
        one_place ops s f.0 _ (subst (Has ops) f.1 k) (λ a r g.
        there_safe (cell_kinds s) a mem _ (cond_safe (bytes_fit (least_bytes s + bytes_on r (bytes_of frames))) _ _ (λ _.
        cells_safe (cell_kinds s) a _ (λ vs is.
        push_safe (operand_of vs) (OfKind s) r f.0 (record { values = vs; is = refl; kinds = is }) f.2 g.0)) tt))
    safe (Store s) ks line f k =
        all_value ops s (AtKind s ∷ f.0) _ (subst (Has ops) f.1 k) (λ vs q is h. one_place q s f.0 _ h (λ a r g. put_all_safe a vs f.0 r f.2 g))
    safe (Do op) ks line f k =
        let e : length (operand_kinds op) ≡ length (operand_kinds op) + 0 = omega arith in
        subst (λ n. Safe (on_values n [] ops (λ vs ops. or_halt (result_of op vs) (λ v. pushes now (Of v) ops mem)))) (sym e)
        (some_values (operand_kinds op) 0 f.0 [] ops _ (subst (Has ops) f.1 k) (λ vs r g.
        or_safe (result_of op vs) _ (λ v is.
        push_safe (Of v) (cell_value (result_kind op)) r f.0 (as_one v (result_kind op) (kind_is _ v (result_gives op vs v is))) f.2 g.0)))
    safe (OnSpaces op) ks line f k =
        let e : length (space_operand_kinds op) ≡ length (space_operand_kinds op) + 0 = omega arith in
        subst (λ n. Safe (on_values n [] ops (λ vs ops. changes (planned op vs mem.heads) mem (λ v u. answers now v ops u)))) (sym e)
        (some_values (space_operand_kinds op) 0 f.0 [] ops _ (subst (Has ops) f.1 k) (λ vs r g.
        changes_safe (planned op vs mem.heads) (λ v u. answers now v r u) (λ q u is.
        answer_safe (space_result_kind op) q.0 f.0 r u (subst (Delivers (space_result_kind op)) is (planned_delivers op vs mem.heads)) f.2 g)))
    safe Copy ks line f k =
        value_place ops kinds.Space (OneCell kinds.Space) f.0 _ (subst (Has ops) f.1 k) (λ v a r g. copy_safe (space_of v) a f.0 r f.2 g)
    safe (Bind t) ks line f k =
        value_place ops kinds.Space (OneCell kinds.Space) f.0 _ (subst (Has ops) f.1 k) (λ v a r g. bind_safe t (space_of v) a f.0 r f.2 g)
    safe (Modify change) ks line f k =
        value_place ops (change_kind change) (OneCell (change_kind change)) f.0 _ (subst (Has ops) f.1 k)
        (λ v a r g. there_safe (change_kind change ∷ []) a mem _
        (cell_safe (change_kind change) (mem.cells a) _ (λ w is. or_safe (changed change w v) _ (λ x _. put_safe a x f.0 r f.2 g))))
    safe (Jump a) ks line f k = fit a ks ops f.next k
    safe (False a) ks line f k =
        one_value ops kinds.Truth f.0 _ (subst (Has ops) f.1 k)
        (λ v r e g. fit (cond (truth_of v) (pc + 1) a) f.0 r (chosen (truth_of v) (pc + 1) a f.0 m f.2 f.3.next) g)
    safe (When z a) ks line f k = by ops (subst (Has ops) f.1 k)
      where
        by : (ops' : List Operand) → Has ops' (cell_value kinds.Int ∷ f.0)
            → Safe (on_value ops' (λ v ops. cond (int_eq (number_of v) z) (Goes (at now a ops) mem) (goes now (Of v ∷ ops) mem)))
        by [] g = absurd g.0
        by (At x ∷ r) g = absurd (is_one (At x) kinds.Int g.0.0)
        by (Aggregate vs ∷ r) g = absurd (is_one (Aggregate vs) kinds.Int g.0.0)
        by (Of v ∷ r) g =
            cond_safe (int_eq (number_of v) z) _ _ (λ _. fit a f.0 r f.3.next (g.0.1, fewer (Of v) r g.1))
            (fit (pc + 1) ks (Of v ∷ r) f.2 (subst (Has (Of v ∷ r)) (sym f.1) g))
    safe Drop ks line f k = one_value ops f.0 f.1.0 _ (subst (Has ops) f.1.1 k) (λ v r e g. fit (pc + 1) f.1.0 r f.1.2 g)
    safe (Limit way a) ks line f k = value_place ops kinds.Int (OneCell kinds.Int) f.0 _ (subst (Has ops) f.1 k) (λ v q r g. limit_safe way a v q r f.0 f.2 f.3.next g)
    safe Unlimit ks line f k = unlimit_safe f.0 ks f.1 f.2 k
    safe (Step way a) ks line f k =
        one_place ops (OneCell kinds.Int) f.2.0 _ (subst (Has ops) f.2.1 k) (λ q r g.
        word_safe (limit_cell now mem.cells) _ (λ l. there_safe (kinds.Int ∷ []) q mem _ (word_safe (mem.cells q) _ (λ n.
        cond_safe (has_reached way (number_in l) (number_in n)) _ _ (λ _. fit a f.2.0 r f.2.3.next g)
        (fit (pc + 1) f.2.0 r f.2.2 g)))))
    safe (Ask q) ks line f k =
        taken_safe q f.0 ops _ (subst (Has ops) f.1 k) (λ os r fits g.
        asks_safe (sends q) q os (λ asked. fits_at pc ks ops (Asked asked) (Ask q, line) k (λ _. ap (λ l. is_ask (instr_of l)) line)))
    safe ErrorStop ks line f k =
        one_value ops kinds.Text f.0 _ (subst (Has ops) f.1 k) (λ v r e g. fits_at (pc + 1) f.0 r _ f.2 g (λ e. absurd (cc e)))
    safe (Call n) ks line f k = call_safe n ks line f k
    safe (Refer n) ks line f k = refer_safe n ks line f k
    safe (Back r) ks line f k =
        result_safe r ks _ f.top k
        (λ os fits room'. back_safe frames r os f.number f.entry floor m.body made f.here f.has f.delivers (omega (arith, used_is)) (omega arith) fits
        room')
    safe (Out r) ks line f k =
        result_safe r ks _ f.top k
        (λ os fits room'. out_safe frames r os f.number f.entry floor m.body made f.proc f.has f.delivers (omega (arith, used_is)) (omega arith) fits room')
    safe End ks line f k = tt

step_safe : (p : Program) (c : Position) (mem : Mem) → IsValid p → Fits p (free c) → IsSafe p (step p c mem)
step_safe p c mem valid fits =
    let i = fits.next.0 in
    let fine = valid.each c.pc (line_of i fits.kinds fits.spot) fits.next.1 in
    let made =
    safe p valid c.pc c.ops c.used c.frames mem fits.spot fits.floor fits.frames fits.used (fits.cells refl) i fits.kinds fits.next.1 fine
    (fits.operands, fits.bytes) in
    subst (λ (o : Option Line). IsSafe p (instruction p (instr_of o) c mem)) (sym fits.next.1) made

-- it is the instruction of a request
pub asks_name : (i : Instr) → is_ask (Some i) ≡ true → (q : RequestName) × (i ≡ Ask q)
asks_name (Ask q) e = (q, refl)
asks_name _ e = absurd (cc e)

takes_safe : (p : Program) (c : Position) (r : Reply) (mem : Mem) → IsValid p → Fits p (given c r)
    → IsSafe p (takes_reply (instr_of (slice_get p.lines c.pc)) r c mem)
takes_safe p c r mem valid fits =
    let i = fits.next.0 in
    let q = asks_name i (ap (λ l. is_ask (instr_of l)) (sym fits.next.1) ∙ fits.asks refl) in
    let fine = valid.each c.pc (line_of i fits.kinds fits.spot) fits.next.1 in
    let made =
    reply_safe p valid c.pc c.ops c.used c.frames mem fits.spot fits.floor fits.frames fits.used (fits.cells refl) q.0 r fits.kinds
    (subst (λ i. IsFine p c.pc i fits.kinds fits.spot) q.1 fine) (fits.operands, fits.bytes) in
    subst (λ o. IsSafe p (takes_reply o r c mem)) (ap (λ i. Some i) (sym q.1) ∙ ap instr_of (sym fits.next.1)) made

-- a request is answered where it was made
answered_fits : (p : Program) (c : Position) (q : Request) (r : Reply) → Fits p (asking c q) → Fits p (answered q r c)
answered_fits p c q r fits = by (then_asked q r) r
  where
    so : (w : Waits) → (is_asking w ≡ true → is_ask (instr_of (slice_get p.lines c.pc)) ≡ true) → Fits p (record { position = c; waits = w })
    so w asks = record {
      kinds = fits.kinds;
      spot = fits.spot;
      floor = fits.floor;
      next = fits.next;
      operands = fits.operands;
      frames = fits.frames;
      used = fits.used;
      asks = asks;
      cells = λ _. fits.cells refl;
      bytes = fits.bytes;
    }

    by : (o : Option Request) (r : Reply) → Fits p (answered_by o r c)
    by (Some q) r = so (Asked q) (λ _. fits.asks refl)
    by None (replies.Stopped stop) = so (Refused stop) (λ e. absurd (cc e))
    by None replies.Done = so (Given replies.Done) (λ _. fits.asks refl)
    by None (replies.Text t) = so (Given (replies.Text t)) (λ _. fits.asks refl)
    by None (replies.Task n) = so (Given (replies.Task n)) (λ _. fits.asks refl)
    by None (replies.Truth b) = so (Given (replies.Truth b)) (λ _. fits.asks refl)
    by None replies.Taken = so (Given replies.Taken) (λ _. fits.asks refl)
    by None (replies.Receipt z) = so (Given (replies.Receipt z)) (λ _. fits.asks refl)
    by None (replies.Message code from space) = so (Given (replies.Message code from space)) (λ _. fits.asks refl)

pub stays_fit : StaysFit
stays_fit = record { steps = step_safe; replies = answered_fits; takes = takes_safe }
