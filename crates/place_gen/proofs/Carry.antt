-- How the machine follows a run, whatever phrase the run comes from.
use Rattle.std.proofs.Common.{◌≡◌, ℕ, zero, suc, ◌+◌, ◌<◌, ◌≤◌, List, [], ◌∷◌, ◌++◌, map, length, Option, Some, None, Bool, true, false, cond, refl, sym, ap, ◌∙◌}
use Rattle.std.proofs.Common.{◌&&◌, ⊎_elim, subst, arith, append_assoc, length-append}
use Rattle.std.specs.Prelude.{slice_get, Ok, Err}
use Rattle.eu_base.specs.Values.{kind_of, space_in}
use Rattle.eu_base.proofs.Results.{kind_is}
use Rattle.eu_base.specs.declared.address.TheConstants.{CELLS}
use Rattle.eu_base.specs.declared.value.Kind.{Kind}
use Rattle.eu_base.specs.declared.value.Kind.TheVariants as kinds
use Rattle.eu_base.specs.declared.value.Value.TheVariants as item
use Rattle.eu_base.specs.declared.request.RequestName.{RequestName}
use Rattle.eu_base.specs.declared.value.Value.{Value}
use Rattle.eu_base.specs.declared.stop.Stop.{Stop}
use Rattle.eu_base.specs.declared.stop.Stop.TheVariants.{Index, OperandRoom, TextRoom, NoSpace}
use Rattle.eu_base.specs.declared.request.Request.{Request}
use Rattle.eu_base.specs.declared.request.Reply.{Reply}
use Rattle.eu_base.specs.declared.request.Reply.TheVariants as replies
use Rattle.eu_base.specs.Requests.{Answer, then_asked, request_of}
use Rattle.eu_base.specs.Cells.{Cell as Known, Free, Word, Letters}
use Rattle.eu_base.specs.Values.{IsOf}
use Rattle.eu_base.specs.SoundSpaces.{AllCanCome}
use Rattle.eu_base.specs.Operations.{Given}
use Rattle.eu_base.specs.declared.shape.Shape.{Shape}
use Rattle.eu_base.specs.declared.shape.Shape.TheVariants.{Cell}
use Rattle.eu_base.specs.Shapes.{cell_kinds}
use Rattle.eu_base.specs.Room.{values_bytes, values_blocks, texts_fit}
use Rattle.eu_base.specs.declared.address.Area.TheVariants.{Run, Packets}
use Rattle.eu_base.specs.Room.{cells_fit}
use Rattle.std.proofs.lemmas.Bool.{cases_lt}
use Rattle.std.proofs.lemmas.Bool.Decides.{nat_tests}
use Rattle.std.proofs.lemmas.Option.{slice_get_within}
use Rattle.eu_base.specs.Cells.{Cells, area_cell, held_of, written, cell_blocks, area_blocks}
use Rattle.code_form.specs.declared.operand.Operand.{Operand}
use Rattle.code_form.specs.declared.operand.Operand.TheVariants.{Value as Of, Place as At}
use Rattle.code_form.specs.declared.operand.OperandKind.{OperandKind}
use Rattle.code_form.specs.declared.operand.OperandKind.TheVariants as operand
use Rattle.code_form.specs.declared.halt.Halt.{Halt}
use Rattle.code_form.specs.declared.halt.Halt.TheVariants as halts
use Rattle.code_form.specs.declared.instr.Instr.{Instr}
use Rattle.code_form.specs.declared.instr.Instr.TheVariants.{Call, Refer}
use Rattle.code_form.specs.declared.code.Spot.{Spot}
use Rattle.code_form.specs.declared.code.Entry.{Entry}
use Rattle.code_form.specs.declared.code.Layout.TheVariants as layouts
use Rattle.code_form.specs.Program.{Program, kinds_in_packets, line_of, instr_of, owner}
use Rattle.code_form.specs.Machine.{Frame, Position, Control, free, asking, given, refused, answered, answered_by, after_reply, After as AfterMark, To, Asks as AsksFor, Stops, after_word, asks_with, on_word, Move}
use Rattle.code_form.specs.Machine.{Goes, Spends, Halts, Refuses, Ends as EndsHere, Unknown, takes, takes_all, written_all, at, operand_of, operand_bytes, bytes_on, bytes_of}
use Rattle.code_form.specs.Machine.{Mem, with_cells, if_there as looks, base_of, back_to, out_to}
use Rattle.code_form.specs.Machine.{instruction, step, takes_reply, Scene, Rest, rest_at, Stage, On, after_stage, mark_stage, reply_stage, move_stage}
use Rattle.code_form.specs.Machine.{stage, advance, carry_on, exec}
use Rattle.code_form.specs.Valid.{IsRefinement}
use Rattle.elan_types.specs.declared.core_phrase.Exit.{Exit}
use Rattle.elan_types.specs.declared.core_phrase.Exit.TheVariants as exits
use Rattle.elan_types.specs.Eval.{Place, World, Outcome, Gives, Left, Stopped, OutOfMarks, Asks, bind, spend_at, spend}
use Rattle.elan_types.specs.Eval.{heed, followed, after_answer, ask_at, ask, branch, or_stop, or_outside, the, slots_in, assign, save, store_blocks, turns, Calls, Reach, holding}
use Rattle.elan_types.specs.Eval.{Slot, Taken, is_there, if_there, fetch, load, Passed, AsValue, AsPlace, all_slots}
use Rattle.elan_types.specs.Command as endings
use Rattle.elan_types.specs.Command.{Ending}
use Rattle.place_gen.specs.Stretch.{Stretch, join}
use Rattle.place_gen.specs.Correct.{addr_of, StandsFor, Image, RestsAs, Shows, Comes, scene_of}
use Rattle.place_gen.proofs.Lines.{HasAt, has_front, has_rest}
use Rattle.elan_types.proofs.Shapes.{cell_is}
use Rattle.place_gen.proofs.Homes.{LeftBy, frame_uses}
use Rattle.place_gen.proofs.Cells.{Use, OfValue, Uses, AtPlace, AreCounts, counts_append, get_back, get_right, Keeps, image, all_variables, has_spaces}
use Rattle.place_gen.proofs.Spans.{AreOf, IsFound, found, reads_one, takes_values, place_fits, looks_same}
use Rattle.place_gen.proofs.Spaces.{writes_all}
use Rattle.place_gen.proofs.Coming.{answer_keeps}
use Rattle.place_gen.proofs.Blocks.{held_blocks, same_blocks}

-- what an outcome goes on to, after a result and by an exit
abbrev pub finish : {A : Type 0} → Outcome A → (A → World → Ending) → (Exit → Option (List Value) → World → Ending) → Ending
finish (Gives a w) k l = k a w
finish (Left e v w) k l = l e v w
finish (Stopped s w) k l = endings.Stopped s w
finish (OutOfMarks w) k l = endings.OutOfMarks w
finish (Asks q w) k l = endings.Asks q w

pub finish_bind : {A B : Type 0} (o : Outcome A) (f : A → World → Outcome B) (k : B → World → Ending) (l : Exit → Option (List Value) → World → Ending)
    → finish (bind o f) k l ≡ finish o (λ a w. finish (f a w) k l) l
finish_bind (Gives a w) f k l = refl
finish_bind (Left e v w) f k l = refl
finish_bind (Stopped s w) f k l = refl
finish_bind (OutOfMarks w) f k l = refl
finish_bind (Asks q w) f k l = refl

-- any result
abbrev pub Any : {A : Type 0} → Uses → A → Type 0
Any L a = Unit {0}

-- a value of a shape, the place of such a value, and a place where cells of these kinds stand
abbrev pub OfShape : Shape → Uses → List Value → Type 0
OfShape s L vs = AreOf (cell_kinds s) vs

abbrev pub AtAll : List Kind → List Kind → Uses → Place → Type 0
AtAll P ks L x = AtPlace P ks L x

abbrev pub AtShape : List Kind → Shape → Uses → Place → Type 0
AtShape P s L x = AtPlace P (cell_kinds s) L x

-- those of one cell
pub record IsOne (k : Kind) (vs : List Value) : Type 0 where
  pub value : Value
  pub is : vs ≡ value ∷ []
  pub fits : IsOf k value

one_of : (k : Kind) (vs : List Value) → AreOf (k ∷ []) vs → IsOne k vs
one_of k [] h = absurd h
one_of k (v ∷ []) h = record { value = v; is = refl; fits = h.0 }
one_of k (v ∷ u ∷ vs) h = absurd h.1

pub is_one : (k : Kind) (L : Uses) (vs : List Value) → OfShape (Cell k) L vs → IsOne k vs
is_one k L vs h = one_of k vs (subst (λ ks. AreOf ks vs) (cell_is k) h)

pub of_one : (k : Kind) (L : Uses) (v : Value) → IsOf k v → OfShape (Cell k) L (v ∷ [])
of_one k L v ok = subst (λ ks. AreOf ks (v ∷ [])) (sym (cell_is k)) (ok, tt)

pub at_one : (P : List Kind) (k : Kind) (L : Uses) (x : Place) → AtShape P (Cell k) L x → AtPlace P (k ∷ []) L x
at_one P k L x h = subst (λ ks. AtPlace P ks L x) (cell_is k) h

-- values are of these kinds
pub kinds_same : (ks : List Kind) (vs : List Value) → AreOf ks vs → map kind_of vs ≡ ks
kinds_same [] [] h = refl
kinds_same [] (v ∷ vs) h = absurd h
kinds_same (k ∷ ks) [] h = absurd h
kinds_same (k ∷ ks) (v ∷ vs) h = ap (λ (k : Kind). k ∷ map kind_of vs) (kind_is k v h.0) ∙ ap (λ l. k ∷ l) (kinds_same ks vs h.1)

-- what a body delivers
abbrev pub Result : Option Shape → Option (List Value) → Type 0
Result None None = Unit {0}
Result (Some s) (Some vs) = AreOf (cell_kinds s) vs
Result _ _ = ⊥

abbrev pub result_ops : Option (List Value) → List Operand
result_ops None = []
result_ops (Some vs) = operand_of vs ∷ []

-- with a slot more that only counts
abbrev pub with_count : World → World
with_count w = record w { store = w.store ++ Taken ∷ [] }

counted_image : (store : List Slot) (cells : Cells) → Image Run store cells → Image Run (store ++ Taken ∷ []) cells
counted_image store cells h room x s e =
    let long = length-append store (Taken ∷ []) in
    let within = slice_get_within (store ++ Taken ∷ []) x s e in
    let fits : cells_fit (length store) ≡ true = grind (arith, nat_tests, room, long) in
    ⊎_elim (λ lt. h fits x s (sym (get_back store (Taken ∷ []) x lt) ∙ e))
    (λ le.
    let last : x ≡ length store + 0 = omega (arith, le, within, long) in
    let is : Some Taken ≡ Some s = sym (get_right store (Taken ∷ []) 0) ∙ ap (slice_get (store ++ Taken ∷ [])) (sym last) ∙ e in
    let same : Taken ≡ s = cc in
    subst (StandsFor (cells (area_cell Run x))) same tt)
    (cases_lt x (length store))

-- the operand of what a parameter is given
abbrev pub passed_operand : Passed → Operand
passed_operand (AsValue vs) = operand_of vs
passed_operand (AsPlace x) = At (addr_of x)

-- the bytes of an operand are those of its value
pub operand_size : (vs : List Value) → operand_bytes (operand_of vs) ≡ values_bytes vs
operand_size [] = refl
operand_size (v ∷ []) = omega arith
operand_size (v ∷ u ∷ vs) = refl

-- how a body is left
abbrev pub way_out : Program → Exit → List Operand → ℕ → List Frame → Mem → Move
way_out p exits.Body = back_to p
way_out p exits.Around = out_to p

-- the phrase's bytes pending and the frame's first cell are those of the machine
abbrev pub reach : Calls → ℕ → Position → List Operand → Reach
reach calls n c ops = record { calls = calls; turns = n; base = base_of c.frames; held = bytes_on ops (bytes_of c.frames) }

-- with a value pending, those of the machine with its operand
pub holds_operand : (calls : Calls) (n : ℕ) (c : Position) (vs : List Value) (ops : List Operand)
    → holding vs (reach calls n c ops) ≡ reach calls n c (operand_of vs ∷ ops)
holds_operand calls n c vs ops = ap (λ b. record (reach calls n c ops) { held = b + bytes_on ops (bytes_of c.frames) }) (sym (operand_size vs))

module _ (p : Program) where
  abbrev pub P : List Kind
  P = kinds_in_packets p

  -- the machine comes so to rest from any cells that keep the store
  abbrev pub Ends : Uses → Position → World → Ending → Type 0
  Ends L c w e = (memory : Mem) → Keeps P L w memory → Comes p (free c) (scene_of w memory) e

  -- a rest where the cells keep the store
  pub resting : {L : Uses} (h : Halt) (d : Control) (w : World) (memory : Mem) → Keeps P L w memory → RestsAs p h w (rest_at h d (scene_of w memory))
  resting {L} h d w memory keeps = record {
    how = refl;
    marks = refl;
    replies = refl;
    command = image Run P L w.store memory.cells keeps.command;
    packets = all_variables Packets P P w.packets memory.cells keeps.packets;
    spaces = has_spaces P w.spaces memory keeps.spaces;
  }

  -- what a step leads to comes to rest so
  pub record After (st : Stage) (e : Ending) : Type 0 where
    pub steps : ℕ
    pub rest : Rest
    pub comes : carry_on st (exec p steps) ≡ Some rest
    pub shows : Shows p e rest

  -- the next state does
  pub going : (d : Control) (s : Scene) (e : Ending) → Comes p d s e → After (On d s) e
  going d s e a = record { steps = a.steps; rest = a.rest; comes = a.comes; shows = a.shows }

  -- a step from here is this, where nothing is waited for and where a reply was given
  abbrev pub Does : Control → Scene → Move → Type 0
  Does d s m = advance p d s ≡ move_stage m d s

  pub does : (c : Position) (s : Scene) (m : Move) → step p c s.mem ≡ m → Does (free c) s m
  does c s m h = ap (λ m. stage m c s) h

  pub does_given : (c : Position) (r : Reply) (s : Scene) (m : Move) → takes_reply (instr_of (slice_get p.lines c.pc)) r c s.mem ≡ m → Does (given c r) s m
  does_given c r s m h = ap (λ m. move_stage m (given c r) s) h

  -- a step, and what it leads to
  on_does : (d : Control) (s : Scene) (m : Move) (e : Ending) → Does d s m → After (move_stage m d s) e → Comes p d s e
  on_does d s m e h a = record { steps = suc a.steps; rest = a.rest; comes = ap (λ st. carry_on st (exec p a.steps)) h ∙ a.comes; shows = a.shows }

  pub on_move : (c : Position) (s : Scene) (m : Move) (e : Ending) → step p c s.mem ≡ m → After (stage m c s) e → Comes p (free c) s e
  on_move c s m e h a = on_does (free c) s m e (does c s m h) a

  pub does_go : (d : Control) (c' : Position) (s : Scene) (memory : Mem) (e : Ending) → Does d s (Goes c' memory)
      → Comes p (free c') (record s { mem = memory }) e → Comes p d s e
  does_go d c' s memory e h a = on_does d s (Goes c' memory) e h (going (free c') (record s { mem = memory }) e a)

  pub on_step : (c c' : Position) (s : Scene) (memory : Mem) (e : Ending) → step p c s.mem ≡ Goes c' memory → Comes p (free c') (record s { mem = memory }) e
      → Comes p (free c) s e
  on_step c c' s memory e h a = does_go (free c) c' s memory e (does c s (Goes c' memory) h) a

  -- the machine goes from one place to another and changes nothing else
  abbrev pub Leads : Position → Position → Type 0
  Leads c c' = (memory : Mem) → step p c memory ≡ Goes c' memory

  pub lead_ends : (L : Uses) (c c' : Position) (w : World) (e : Ending) → Leads c c' → Ends L c' w e → Ends L c w e
  lead_ends L c c' w e l a = λ memory h. on_step c c' (scene_of w memory) memory e (l memory) (a memory h)

  pub stop_comes : (L : Uses) (d : Control) (w : World) (s : Stop) (memory : Mem) → Keeps P L w memory → Does d (scene_of w memory) (Halts s)
      → Comes p d (scene_of w memory) (endings.Stopped s w)
  stop_comes L d w s memory keeps h = on_does d (scene_of w memory) (Halts s) (endings.Stopped s w) h (record {
    steps = 0;
    rest = rest_at (halts.Stopped s) d (scene_of w memory);
    comes = refl;
    shows = resting (halts.Stopped s) d w memory keeps;
  })

  -- the same where a cell that counts is about to be taken
  pub stop_counted : (L : Uses) (d : Control) (w : World) (s : Stop) (memory : Mem) → Keeps P L w memory → Does d (scene_of w memory) (Halts s)
      → Comes p d (scene_of w memory) (endings.Stopped s (with_count w))
  stop_counted L d w s memory keeps h =
      let rests = resting (halts.Stopped s) d w memory keeps in
      on_does d (scene_of w memory) (Halts s) (endings.Stopped s (with_count w)) h (record {
        steps = 0;
        rest = rest_at (halts.Stopped s) d (scene_of w memory);
        comes = refl;
        shows = record {
          how = refl;
          marks = refl;
          replies = refl;
          command = counted_image w.store memory.cells rests.command;
          packets = rests.packets;
          spaces = rests.spaces;
        };
      })

  pub stop_ends : (L : Uses) (c : Position) (w : World) (s : Stop) → ((memory : Mem) → step p c memory ≡ Halts s) → Ends L c w (endings.Stopped s w)
  stop_ends L c w s h = λ memory keeps. stop_comes L (free c) w s memory keeps (does c (scene_of w memory) (Halts s) (h memory))

  -- what is refused stops in the next step
  pub refuse_comes : (L : Uses) (d : Control) (c' : Position) (w now : World) (s : Stop) (memory after : Mem) → now.marks ≡ w.marks → now.replies ≡ w.replies
      → Keeps P L now after → Does d (scene_of w memory) (Refuses s c' after) → Comes p d (scene_of w memory) (endings.Stopped s now)
  refuse_comes L d c' w now s memory after marks replies keeps h = on_does d (scene_of w memory) (Refuses s c' after) (endings.Stopped s now) h (record {
    steps = 1;
    rest = rest_at (halts.Stopped s) (refused c' s) (scene_of w after);
    comes = refl;
    shows = rested_as;
  })
    where
      there : RestsAs p (halts.Stopped s) now (rest_at (halts.Stopped s) (refused c' s) (scene_of now after))
      there = resting (halts.Stopped s) (refused c' s) now after keeps

      rested_as : RestsAs p (halts.Stopped s) now (rest_at (halts.Stopped s) (refused c' s) (scene_of w after))
      rested_as = record {
        how = refl;
        marks = sym marks;
        replies = sym replies;
        command = there.command;
        packets = there.packets;
        spaces = there.spaces;
      }

  pub refuse_ends : (L : Uses) (c c' : Position) (w : World) (s : Stop) → ((memory : Mem) → step p c memory ≡ Refuses s c' memory)
      → Ends L c w (endings.Stopped s w)
  refuse_ends L c c' w s h = λ memory keeps.
      refuse_comes L (free c) c' w w s memory memory refl refl keeps (does c (scene_of w memory) (Refuses s c' memory) (h memory))

  pub end_ends : (L : Uses) (c : Position) (w : World) → ((memory : Mem) → step p c memory ≡ EndsHere) → Ends L c w (endings.Ended w)
  end_ends L c w h = λ memory keeps. on_move c (scene_of w memory) EndsHere (endings.Ended w) (h memory) (record {
    steps = 0;
    rest = rest_at halts.Ended (free c) (scene_of w memory);
    comes = refl;
    shows = resting halts.Ended (free c) w memory keeps;
  })

  -- what is delivered goes on where it has room, or stops
  pub read_comes : {L : Uses} {A : Type 0} (d : Control) (a : A) (t : Bool) (to : A → Position) (k : A → World → Ending)
      (l : Exit → Option (List Value) → World → Ending) (w : World) (memory : Mem) → Keeps P L w memory → Ends L (to a) w (k a w)
      → Does d (scene_of w memory) (cond t (Goes (to a) memory) (Halts OperandRoom))
      → Comes p d (scene_of w memory) (finish (branch t (Gives a) (Stopped OperandRoom) w) k l)
  read_comes d a true to k l w memory h next e = does_go d (to a) (scene_of w memory) memory _ e (next memory h)
  read_comes {L} d a false to k l w memory h next e = stop_comes L d w OperandRoom memory h e

  read_ends : {L : Uses} {A : Type 0} (c : Position) (a : A) (t : Bool) (to : A → Position) (k : A → World → Ending) (l : Exit → Option (List Value) → World → Ending)
      (w : World) (memory : Mem) → Keeps P L w memory → Ends L (to a) w (k a w) → step p c memory ≡ cond t (Goes (to a) memory) (Halts OperandRoom)
      → Comes p (free c) (scene_of w memory) (finish (branch t (Gives a) (Stopped OperandRoom) w) k l)
  read_ends c a t to k l w memory h next e = read_comes (free c) a t to k l w memory h next (does c (scene_of w memory) _ e)

  -- what looks whether cells of these kinds stand at a place: it stops where they do not
  pub there_ends : {L : Uses} {A : Type 0} (d : Control) (ks : List Kind) (x : Place) (go : World → Outcome A) (move : Move) (k : A → World → Ending)
      (l : Exit → Option (List Value) → World → Ending) (w : World) (memory : Mem) → Keeps P L w memory → cells_fit (x.variable + length ks) ≡ true
      → Does d (scene_of w memory) (looks ks (addr_of x) memory move)
      → (is_there ks x w ≡ true → Does d (scene_of w memory) move → Comes p d (scene_of w memory) (finish (go w) k l))
      → Comes p d (scene_of w memory) (finish (if_there ks x go w) k l)
  there_ends {L} d ks x go move k l w memory h fits does next =
      by (is_there ks x w) refl
      (does ∙ ap (λ (t : Bool). move_stage (cond t move (Halts NoSpace)) d (scene_of w memory)) (looks_same ks x w memory.heads h.spaces.heads fits))
    where
      by : (t : Bool) → is_there ks x w ≡ t → Does d (scene_of w memory) (cond t move (Halts NoSpace))
          → Comes p d (scene_of w memory) (finish (branch t go (Stopped NoSpace) w) k l)
      by true e m = next e m
      by false e m = stop_comes L d w NoSpace memory h m

  -- an instruction that writes to the cell of a variable
  pub write_ends : {L : Uses} (c c' : Position) (w : World) (x : Place) (k : Kind) (v : Value) (e : Ending) (memory : Mem) → length P ≤ CELLS
      → length L ≤ CELLS → IsFound P (k ∷ []) L w x → IsOf k v → Keeps P L w memory
      → Does (free c) (scene_of w memory) (Goes c' (with_cells (written memory.cells (addr_of x) (held_of v)) memory))
      → Ends L c' (assign x (v ∷ []) w) e → Comes p (free c) (scene_of w memory) e
  write_ends {L} c c' w x k v e memory few room is ok h m a =
      let now = with_cells (written memory.cells (addr_of x) (held_of v)) memory in
      does_go (free c) c' (scene_of w memory) now e m (a now (writes_all P (k ∷ []) (v ∷ []) L w memory x few room h is (ok, tt)))

  put_by : {L : Uses} {A : Type 0} (d : Control) (c' : Position) (w : World) (x : Place) (vs : List Value) (go : World → Outcome A)
      (k : A → World → Ending) (l : Exit → Option (List Value) → World → Ending) (memory now : Mem) (t : Bool) → Keeps P L w memory
      → Keeps P L (assign x vs w) now
      → Does d (scene_of w memory) (cond t (Goes c' now) (Halts TextRoom)) → Ends L c' (assign x vs w) (finish (go (assign x vs w)) k l)
      → Comes p d (scene_of w memory) (finish (branch t (λ w. go (assign x vs w)) (Stopped TextRoom) w) k l)
  put_by d c' w x vs go k l memory now true h later m next = does_go d c' (scene_of w memory) now _ m (next now later)
  put_by {L} d c' w x vs go k l memory now false h later m next = stop_comes L d w TextRoom memory h m

  -- what stores a value at a place, where its cells are there and its texts have room: both sides count the same blocks
  pub put_all_ends : {L : Uses} {A : Type 0} (d : Control) (c' : Position) (w : World) (x : Place) (kinds : List Kind) (vs : List Value)
      (go : World → Outcome A) (k : A → World → Ending) (l : Exit → Option (List Value) → World → Ending) (memory : Mem) → length P ≤ CELLS
      → length L ≤ CELLS → AtAll P kinds L x → AreOf kinds vs → Keeps P L w memory
      → Does d (scene_of w memory) (looks (map kind_of vs) (addr_of x) memory (cond (takes_all vs (addr_of x) memory.cells)
      (cond (texts_fit (values_blocks vs) (area_blocks x.area (written_all memory.cells (addr_of x) vs)))
      (Goes c' (with_cells (written_all memory.cells (addr_of x) vs) memory)) (Halts TextRoom)) Unknown))
      → Ends L c' (assign x vs w) (finish (go (assign x vs w)) k l) → Comes p d (scene_of w memory) (finish (save x vs go w) k l)
  put_all_ends {L} d c' w x kinds vs go k l memory few room is ok h m next =
      let now = with_cells (written_all memory.cells (addr_of x) vs) memory in
      let move = λ (all : ℕ). cond (texts_fit (values_blocks vs) all) (Goes c' now) (Halts TextRoom) in
      let all = cond (takes_all vs (addr_of x) memory.cells) (move (area_blocks x.area now.cells)) Unknown in
      let store = λ (w : World).
      branch (texts_fit (values_blocks vs) (store_blocks (slots_in x.area (assign x vs w)))) (λ w. go (assign x vs w)) (Stopped TextRoom) w in
      let fits : cells_fit (x.variable + length (map kind_of vs)) ≡ true =
      subst (λ ks. cells_fit (x.variable + length ks) ≡ true) (sym (kinds_same kinds vs ok)) (place_fits P kinds L x few room is) in
      there_ends d (map kind_of vs) x store all k l w memory h fits m (λ there does.
      let at = found P kinds L w x is (subst (λ ks. is_there ks x w ≡ true) (kinds_same kinds vs ok) there) in
      let later = writes_all P kinds vs L w memory x few room h at ok in
      put_by d c' w x vs go k l memory now (texts_fit (values_blocks vs) (store_blocks (slots_in x.area (assign x vs w)))) h later
      (does ∙ ap (λ m. move_stage m d (scene_of w memory))
      (ap (λ t. cond t (move (area_blocks x.area now.cells)) Unknown) (takes_values P kinds vs L w memory x few room h at ok)
      ∙ ap move (sym (same_blocks x.area P L (assign x vs w) now few room later)))) next)

  -- a value of one cell
  pub put_ends : {L : Uses} {A : Type 0} (d : Control) (c' : Position) (w : World) (x : Place) (kind : Kind) (v : Value) (go : World → Outcome A)
      (k : A → World → Ending) (l : Exit → Option (List Value) → World → Ending) (memory : Mem) → length P ≤ CELLS → length L ≤ CELLS
      → AtPlace P (kind ∷ []) L x → IsOf kind v → Keeps P L w memory
      → Does d (scene_of w memory) (looks (kind_of v ∷ []) (addr_of x) memory (cond (takes (held_of v) (memory.cells (addr_of x)))
      (cond (texts_fit (cell_blocks (held_of v)) (area_blocks x.area (written memory.cells (addr_of x) (held_of v))))
      (Goes c' (with_cells (written memory.cells (addr_of x) (held_of v)) memory)) (Halts TextRoom)) Unknown))
      → Ends L c' (assign x (v ∷ []) w) (finish (go (assign x (v ∷ []) w)) k l) → Comes p d (scene_of w memory) (finish (save x (v ∷ []) go w) k l)
  put_ends {L} d c' w x kind v go k l memory few room is ok h m next =
      let now = with_cells (written memory.cells (addr_of x) (held_of v)) memory in
      let move = λ (t : Bool) (own : ℕ).
      looks (kind_of v ∷ []) (addr_of x) memory (cond t (cond (texts_fit own (area_blocks x.area now.cells)) (Goes c' now) (Halts TextRoom)) Unknown) in
      let takes_it = takes (held_of v) (memory.cells (addr_of x)) in
      let same : takes_it ≡ takes_all (v ∷ []) (addr_of x) memory.cells = and_true takes_it in
      let own : cell_blocks (held_of v) ≡ values_blocks (v ∷ []) = omega (arith, held_blocks v) in
      put_all_ends d c' w x (kind ∷ []) (v ∷ []) go k l memory few room is (ok, tt) h
      (m ∙ ap (λ m. move_stage m d (scene_of w memory))
      (ap (λ t. move t (cell_blocks (held_of v))) same ∙ ap (move (takes_all (v ∷ []) (addr_of x) memory.cells)) own))
      next
    where
      and_true : (t : Bool) → t ≡ (t && true)
      and_true true = refl
      and_true false = refl

  -- where a body is left, the machine goes to the frame below, and on as the exit says, whatever cells were taken meanwhile to count
  pub record Exits (L : Uses) (b : ℕ) (body : Option ℕ) (fs : List Frame) (l : Exit → Option (List Value) → World → Ending) : Type 0 where
    pub by : (e : Exit) (s : Option Shape) → LeftBy p body e s → (more : Uses) → AreCounts more → (v : Option (List Value)) (w : World) → Result s v → w.marks ≤ b
        → (c : Position) → c.used ≡ length L + length more → (memory : Mem) → Keeps P (L ++ more) w memory
        → After (stage (way_out p e (result_ops v) c.used fs memory) c (scene_of w memory)) (l e v w)

  pub fewer : {L : Uses} {b b' : ℕ} {body : Option ℕ} {fs : List Frame} {l : Exit → Option (List Value) → World → Ending} → b' ≤ b → Exits L b body fs l
      → Exits L b' body fs l
  fewer le h = record { by = λ e k d more counts v w r m. h.by e k d more counts v w r (omega (arith, le, m)) }

  -- with more cells in use
  pub wider : {b : ℕ} {body : Option ℕ} {fs : List Frame} {l : Exit → Option (List Value) → World → Ending} (L M : Uses) → AreCounts M → Exits L b body fs l
      → Exits (L ++ M) b body fs l
  wider L M all h = record {
    by = λ e k d more counts v w r m c used memory keeps.
        h.by e k d (M ++ more) (counts_append M more all counts) v w r m c (omega (arith, used, length-append L M, length-append M more)) memory
        (subst (λ U. Keeps P U w memory) (append_assoc L M more) keeps);
  }

  -- where the cells are in use so, with at most b marks and in a body over these frames, the machine goes from a place as the phrase
  -- says, and on with the good results that it gives, or by an exit
  pub record Carries {A : Type 0} (L : Uses) (body : Option ℕ) (fs : List Frame) (Good : Uses → A → Type 0) (b : ℕ) (c : Position) (run : World → Outcome A)
      (to : A → Position) : Type 0 where
    pub by : (k : A → World → Ending) (l : Exit → Option (List Value) → World → Ending) → ((a : A) (w : World) → Good L a → w.marks ≤ b → Ends L (to a) w (k a w))
        → Exits L b body fs l → (w : World) → w.marks ≤ b → Ends L c w (finish (run w) k l)

  -- the same from where a reply was given; a body is not left there
  pub record Answers {A : Type 0} (L : Uses) (Good : Uses → A → Type 0) (b : ℕ) (c : Position) (r : Reply) (run : World → Outcome A) (to : A → Position)
      : Type 0 where
    pub by : (k : A → World → Ending) (l : Exit → Option (List Value) → World → Ending) → ((a : A) (w : World) → Good L a → w.marks ≤ b → Ends L (to a) w (k a w))
        → (w : World) → w.marks ≤ b → (memory : Mem) → Keeps P L w memory → Comes p (given c r) (scene_of w memory) (finish (run w) k l)

  -- a mark, and what follows it: it goes on so, or stops
  pub record Goes' {A : Type 0} (L : Uses) (body : Option ℕ) (fs : List Frame) (Good : Uses → A → Type 0) (b : ℕ) (c : Position) (a : Mem → AfterMark)
      (run : World → Outcome A) (to : A → Position) : Type 0 where
    pub by : (k : A → World → Ending) (l : Exit → Option (List Value) → World → Ending) → ((a : A) (w : World) → Good L a → w.marks ≤ b → Ends L (to a) w (k a w))
        → Exits L b body fs l → (w : World) → w.marks ≤ b → (memory : Mem) → Keeps P L w memory
        → After (after_stage (a memory) (free c) (scene_of w memory)) (finish (run w) k l)

  no_turns : {L : Uses} (m : ℕ) (a : AfterMark) (c : Position) (w : World) (memory : Mem) → m ≤ 0 → Keeps P L w memory
      → After (mark_stage m a (free c) (scene_of w memory)) (endings.OutOfMarks w)
  no_turns {L} zero a c w memory le h = record {
    steps = 0;
    rest = rest_at halts.Marked (free c) (scene_of w memory);
    comes = refl;
    shows = resting halts.Marked (free c) w memory h;
  }
  no_turns (suc m) a c w memory le h = absurd (omega arith)

  -- a reply is heeded: it stops, or its instruction goes on with it
  heeded : {L : Uses} {A : Type 0} {Good : Uses → A → Type 0} (b : ℕ) (r : Reply) (c : Position) (run : Reply → World → Outcome A)
      (to : A → Position) → ((r : Reply) → Answers L Good b c r (run r) to) → (k : A → World → Ending) (l : Exit → Option (List Value) → World → Ending)
      → ((a : A) (w : World) → Good L a → w.marks ≤ b → Ends L (to a) w (k a w)) → (w : World) → w.marks ≤ b → (memory : Mem) → Keeps P L w memory
      → Comes p (answered_by None r c) (scene_of w memory) (finish (heed r run w) k l)
  heeded b replies.Done c run to h k l hk w le memory keeps = (h replies.Done).by k l hk w le memory keeps
  heeded b (replies.Text t) c run to h k l hk w le memory keeps = (h (replies.Text t)).by k l hk w le memory keeps
  heeded b (replies.Task n) c run to h k l hk w le memory keeps = (h (replies.Task n)).by k l hk w le memory keeps
  heeded b (replies.Truth t) c run to h k l hk w le memory keeps = (h (replies.Truth t)).by k l hk w le memory keeps
  heeded b replies.Taken c run to h k l hk w le memory keeps = (h replies.Taken).by k l hk w le memory keeps
  heeded b (replies.Receipt z) c run to h k l hk w le memory keeps = (h (replies.Receipt z)).by k l hk w le memory keeps
  heeded b (replies.Message code from space) c run to h k l hk w le memory keeps = (h (replies.Message code from space)).by k l hk w le memory keeps
  heeded {L} b (replies.Stopped s) c run to h k l hk w le memory keeps = record {
    steps = 1;
    rest = rest_at (halts.Stopped s) (refused c s) (scene_of w memory);
    comes = refl;
    shows = resting (halts.Stopped s) (refused c s) w memory keeps;
  }

  -- a request takes the next answer
  replied : {L : Uses} {A : Type 0} {Good : Uses → A → Type 0} (b : ℕ) (as' : List Answer) (q : Request) (c : Position) (run : Reply → World → Outcome A)
      (to : A → Position) → ((r : Reply) → Answers L Good b c r (run r) to) → (k : A → World → Ending) (l : Exit → Option (List Value) → World → Ending)
      → ((a : A) (w : World) → Good L a → w.marks ≤ b → Ends L (to a) w (k a w)) → (w : World) → w.marks ≤ b → as' ≡ w.replies → (memory : Mem)
      → Keeps P L w memory → After (reply_stage as' q c (scene_of w memory)) (finish (ask_at as' q w run) k l)
  replied {L} b [] q c run to h k l hk w le is memory keeps = record {
    steps = 0;
    rest = rest_at (halts.Asks q) (asking c q) (scene_of w memory);
    comes = refl;
    shows = resting (halts.Asks q) (asking c q) w memory keeps;
  }
  replied {L} b (a ∷ as') q c run to h k l hk w le is memory keeps =
      going (answered q a.reply c) (scene_of next after) _
      (by (λ again kept. replied b as' again c run to h k l hk next le refl after kept) (then_asked q a.reply))
    where
      next : World
      next = after_answer q a as' w

      after : Mem
      after = after_reply q a memory

      come : AllCanCome (a ∷ as')
      come = subst AllCanCome (sym is) keeps.answers

      kept : Keeps P L next after
      kept = answer_keeps P L q a as' w memory come.0 come.1 keeps

      by : ((again : Request) → Keeps P L next after → After (reply_stage as' again c (scene_of next after)) (finish (ask_at as' again next run) k l))
          → (o : Option Request) → Comes p (answered_by o a.reply c) (scene_of next after) (finish (followed o a.reply (λ q w. ask_at as' q w run) run next) k l)
      by more None = heeded b a.reply c run to h k l hk next le after kept
      by more (Some again) =
          let x = more again kept in
          record { steps = suc x.steps; rest = x.rest; comes = x.comes; shows = x.shows }

  module _ {L : Uses} {body : Option ℕ} {fs : List Frame} where
    -- what follows a phrase
    pub then_carries : {A B : Type 0} {Good : Uses → A → Type 0} {Fine : Uses → B → Type 0} (b : ℕ) (c : Position) (run : World → Outcome A)
        (mid : A → Position) (f : A → World → Outcome B) (to : B → Position) → Carries L body fs Good b c run mid
        → ((a : A) → Good L a → Carries L body fs Fine b (mid a) (f a) to) → Carries L body fs Fine b c (λ w. bind (run w) f) to
    then_carries b c run mid f to r s = record {
      by =
          λ k l hk hl w le. subst (Ends L c w) (sym (finish_bind (run w) f k l))
          (r.by (λ a w. finish (f a w) k l) l (λ a w good le. (s a good).by k l hk hl w le) hl w le);
    }

    -- what follows a phrase that gives a value of one cell
    pub one_then : {B : Type 0} {Fine : Uses → B → Type 0} (k : Kind) (b : ℕ) (c : Position) (run : World → Outcome (List Value))
        (mid : List Value → Position) (f : Value → World → Outcome B) (to : B → Position) → Carries L body fs (OfShape (Cell k)) b c run mid
        → ((v : Value) → IsOf k v → Carries L body fs Fine b (mid (v ∷ [])) (f v) to) → Carries L body fs Fine b c (λ w. bind (run w) (λ vs. f (the vs))) to
    one_then {B} {Fine} k b c run mid f to r s =
        then_carries b c run mid (λ vs. f (the vs)) to r (λ vs ok.
        let o = is_one k L vs ok in subst (λ vs. Carries L body fs Fine b (mid vs) (f (the vs)) to) (sym o.is) (s o.value o.fits))

    -- an instruction before a phrase
    pub lead_carries : {A : Type 0} {Good : Uses → A → Type 0} (b : ℕ) (c c' : Position) (run : World → Outcome A) (to : A → Position) → Leads c c'
        → Carries L body fs Good b c' run to → Carries L body fs Good b c run to
    lead_carries b c c' run to e r = record { by = λ k l hk hl w le. lead_ends L c c' w _ e (r.by k l hk hl w le) }

    -- an instruction after a phrase
    pub carries_lead : {A : Type 0} {Good : Uses → A → Type 0} (b : ℕ) (c : Position) (run : World → Outcome A) (mid to : A → Position)
        → ((a : A) → Leads (mid a) (to a)) → Carries L body fs Good b c run mid → Carries L body fs Good b c run to
    carries_lead b c run mid to e r = record { by = λ k l hk hl w le. r.by k l (λ a w good le. lead_ends L (mid a) (to a) w _ (e a) (hk a w good le)) hl w le }

    -- of what it gives, less is told
    pub weaker_carries : {A : Type 0} {Good Fine : Uses → A → Type 0} (b : ℕ) (c : Position) (run : World → Outcome A) (to : A → Position)
        → ((a : A) → Good L a → Fine L a) → Carries L body fs Good b c run to → Carries L body fs Fine b c run to
    weaker_carries b c run to less r = record { by = λ k l hk hl w le. r.by k l (λ a w good le. hk a w (less a good) le) hl w le }

    -- no instruction
    pub none_carries : {A : Type 0} {Good : Uses → A → Type 0} (b : ℕ) (a : A) (to : A → Position) → Good L a → Carries L body fs Good b (to a) (Gives a) to
    none_carries b a to good = record { by = λ k l hk hl w le. hk a w good le }

    -- an instruction that delivers what it reads in the cells, where it has room
    pub reads_carries : {A : Type 0} {Good : Uses → A → Type 0} (b : ℕ) (c : Position) (give : World → A) (fits : World → Bool) (to : A → Position)
        → ((w : World) (memory : Mem) → Keeps P L w memory
        → Good L (give w) × (step p c memory ≡ cond (fits w) (Goes (to (give w)) memory) (Halts OperandRoom)))
        → Carries L body fs Good b c (λ w. branch (fits w) (Gives (give w)) (Stopped OperandRoom) w) to
    reads_carries b c give fits to e =
        record { by = λ k l hk hl w le memory h. let x = e w memory h in read_ends c (give w) (fits w) to k l w memory h (hk (give w) w x.0 le) x.1 }

    pub branch_carries : {A : Type 0} {Good : Uses → A → Type 0} (b : ℕ) (t : Bool) (c : Bool → Position) (f g : World → Outcome A) (to : A → Position)
        → Carries L body fs Good b (c true) f to → Carries L body fs Good b (c false) g to → Carries L body fs Good b (c t) (branch t f g) to
    branch_carries b true c f g to r s = r
    branch_carries b false c f g to r s = s

    pub to_goes : {A : Type 0} {Good : Uses → A → Type 0} (b : ℕ) (c c' : Position) (run : World → Outcome A) (to : A → Position)
        → Carries L body fs Good b c' run to → Goes' L body fs Good b c (λ memory. To c' memory) run to
    to_goes b c c' run to r = record { by = λ k l hk hl w le memory h. going (free c') (scene_of w memory) _ (r.by k l hk hl w le memory h) }

    spent : {A : Type 0} {Good : Uses → A → Type 0} (b m : ℕ) (c : Position) (a : Mem → AfterMark) (run : World → Outcome A) (to : A → Position)
        → ((b' : ℕ) → b' < b → Goes' L body fs Good b' c a run to) → (k : A → World → Ending) (l : Exit → Option (List Value) → World → Ending)
        → ((a : A) (w : World) → Good L a → w.marks ≤ b → Ends L (to a) w (k a w)) → Exits L b body fs l → (w : World) → m ≤ b → (memory : Mem)
        → Keeps P L w memory → m ≡ w.marks → After (mark_stage m (a memory) (free c) (scene_of w memory)) (finish (spend_at m w run) k l)
    spent b zero c a run to r k l hk hl w le memory h is = record {
      steps = 0;
      rest = rest_at halts.Marked (free c) (scene_of w memory);
      comes = refl;
      shows = resting halts.Marked (free c) w memory h;
    }
    spent b (suc m) c a run to r k l hk hl w le memory h is =
        (r m (omega arith)).by k l (λ a w good le'. hk a w good (omega (arith, le, le'))) (fewer (omega (arith, le)) hl) (record w { marks = m }) (omega arith)
        memory h

    pub spend_carries : {A : Type 0} {Good : Uses → A → Type 0} (b : ℕ) (c : Position) (a : Mem → AfterMark) (run : World → Outcome A) (to : A → Position)
        → ((memory : Mem) → step p c memory ≡ Spends (a memory)) → ((b' : ℕ) → b' < b → Goes' L body fs Good b' c a run to)
        → Carries L body fs Good b c (spend run) to
    spend_carries b c a run to e r = record {
      by = λ k l hk hl w le memory h. on_move c (scene_of w memory) (Spends (a memory)) _ (e memory) (spent b w.marks c a run to r k l hk hl w le memory h refl);
    }

    -- a mark, and then a phrase
    pub mark_carries : {A : Type 0} {Good : Uses → A → Type 0} (b : ℕ) (c c' : Position) (run : World → Outcome A) (to : A → Position)
        → ((memory : Mem) → step p c memory ≡ Spends (To c' memory)) → ((b' : ℕ) → b' < b → Carries L body fs Good b' c' run to)
        → Carries L body fs Good b c (spend run) to
    mark_carries b c c' run to e r = spend_carries b c (λ memory. To c' memory) run to e (λ b' lt. to_goes b' c c' run to (r b' lt))

    -- a request, which waits at its instruction
    pub ask_carries : {A : Type 0} {Good : Uses → A → Type 0} (b : ℕ) (q : Request) (c : Position) (run : Reply → World → Outcome A) (to : A → Position)
        → ((memory : Mem) → step p c memory ≡ Spends (AsksFor c q memory)) → ((b' : ℕ) (r : Reply) → Answers L Good b' c r (run r) to)
        → Carries L body fs Good b c (ask q run) to
    ask_carries b q c run to e r = spend_carries b c (λ memory. AsksFor c q memory) (λ w. ask_at w.replies q w run) to e (λ b' lt. record {
      by = λ k l hk hl w le memory h.
          let a = replied b' w.replies q c run to (r b') k l hk w le refl memory h in
          record { steps = suc a.steps; rest = a.rest; comes = a.comes; shows = a.shows };
    })

    -- one that sends a data space, which stands in a variable and is looked at once the mark is spent
    pub send_carries : {A : Type 0} {Good : Uses → A → Type 0} (b : ℕ) (name : RequestName) (vs : List Value) (x : Place) (os : List Operand) (c : Position)
        (run : Reply → World → Outcome A) (to : A → Position) → cells_fit (x.variable + length (kinds.Space ∷ [])) ≡ true → AtPlace P (kinds.Space ∷ []) L x
        → ((memory : Mem) → step p c memory ≡ Spends (asks_with name vs (At (addr_of x) ∷ os) c memory))
        → ((b' : ℕ) (r : Reply) → Answers L Good b' c r (run r) to)
        → Carries L body fs Good b c (spend (load kinds.Space x (λ v w. ask_at w.replies (request_of name (v ∷ vs)) w run))) to
    send_carries {A} {Good} b name vs x os c run to fits at_x e r =
        spend_carries b c (λ memory. asks_with name vs (At (addr_of x) ∷ os) c memory)
        (load kinds.Space x (λ v w. ask_at w.replies (request_of name (v ∷ vs)) w run)) to e (λ b' lt. record {
          by = λ k l hk hl w le memory h.
              subst (λ (t : Bool). After (after_stage (cond t (looked memory) (Stops NoSpace)) (free c) (scene_of w memory))
              (finish (load kinds.Space x (λ v w. ask_at w.replies (request_of name (v ∷ vs)) w run) w) k l))
              (sym (looks_same (kinds.Space ∷ []) x w memory.heads h.spaces.heads fits))
              (by b' k l hk w le memory h (is_there (kinds.Space ∷ []) x w) refl);
        })
      where
        looked : Mem → AfterMark
        looked memory = after_word (memory.cells (addr_of x)) (λ n. AsksFor c (request_of name (item.Space (space_in n) ∷ vs)) memory)

        -- a cell that is read holds a number
        word_there : (cell : Known) (f : ℕ → AfterMark) (a : AfterMark) → on_word cell (λ n. Spends (f n)) ≡ Spends a → after_word cell f ≡ a
        word_there Free f a e = absurd (cc e)
        word_there (Word n) f a e = cc e
        word_there (Letters t) f a e = absurd (cc e)

        by : (b' : ℕ) (k : A → World → Ending) (l : Exit → Option (List Value) → World → Ending)
            → ((a : A) (w : World) → Good L a → w.marks ≤ b' → Ends L (to a) w (k a w)) → (w : World) → w.marks ≤ b' → (memory : Mem) → Keeps P L w memory
            → (t : Bool) → is_there (kinds.Space ∷ []) x w ≡ t
            → After (after_stage (cond t (looked memory) (Stops NoSpace)) (free c) (scene_of w memory))
            (finish (branch t (λ w. ask_at w.replies (request_of name (fetch x w ∷ vs)) w run) (Stopped NoSpace) w) k l)
        by b' k l hk w le memory h false there = record {
          steps = 0;
          rest = rest_at (halts.Stopped NoSpace) (free c) (scene_of w memory);
          comes = refl;
          shows = resting (halts.Stopped NoSpace) (free c) w memory h;
        }
        by b' k l hk w le memory h true there =
            let q = request_of name (fetch x w ∷ vs) in
            let f = λ (n : ℕ). AsksFor c (request_of name (item.Space (space_in n) ∷ vs)) memory in
            let got =
            reads_one P L w memory x kinds.Space (λ v. Spends (AsksFor c (request_of name (v ∷ vs)) memory)) h (found P (kinds.Space ∷ []) L w x at_x there) in
            let a = replied b' w.replies q c run to (r b') k l hk w le refl memory h in
            subst (λ (after : AfterMark). After (after_stage after (free c) (scene_of w memory)) (finish (ask_at w.replies q w run) k l))
            (sym (word_there (memory.cells (addr_of x)) f (AsksFor c q memory) got.1))
            (record { steps = suc a.steps; rest = a.rest; comes = a.comes; shows = a.shows })

    -- no marks, and so no turns and no calls
    pub out_carries : {A : Type 0} {Good : Uses → A → Type 0} (b : ℕ) (c : Position) (a : Mem → AfterMark) (to : A → Position) → b ≤ 0
        → ((memory : Mem) → step p c memory ≡ Spends (a memory)) → Carries L body fs Good b c OutOfMarks to
    out_carries b c a to le e = record {
      by = λ k l hk hl w le' memory h. on_move c (scene_of w memory) (Spends (a memory)) _ (e memory) (no_turns w.marks (a memory) c w memory (omega arith) h);
    }

    -- a loop
    pub turns_carries : (m b : ℕ) (turn : World → Outcome Bool) (top body' exit : Position) → ((memory : Mem) → step p top memory ≡ Spends (To body' memory))
        → ((b' : ℕ) → b' ≤ b → Carries L body fs Any b' body' turn (λ on. cond on top exit)) → b ≤ m → Carries L body fs Any b top (turns m turn) (λ _. exit)
    turns_carries zero b turn top body' exit e r le = out_carries b top (λ memory. To body' memory) (λ _. exit) le e
    turns_carries (suc m) b turn top body' exit e r le =
        mark_carries b top body' (λ w. bind (turn w) (λ on. branch on (turns m turn) (Gives (tt {0})))) (λ _. exit) e (λ b' lt.
        then_carries b' body' turn (λ on. cond on top exit) (λ on. branch on (turns m turn) (Gives (tt {0}))) (λ _. exit) (r b' (omega arith)) (λ on _.
        branch_carries b' on (λ t. cond t top exit) (turns m turn) (Gives (tt {0})) (λ _. exit)
        (turns_carries m b' turn top body' exit e (λ b'' le''. r b'' (omega arith)) (omega arith)) (none_carries b' tt (λ _. exit) tt)))

    -- the place behind, under another name
    pub ends_at : {A : Type 0} {Good : Uses → A → Type 0} (b : ℕ) (from c : Position) (run : World → Outcome A) (m n : ℕ) (push : A → List Operand) → m ≡ n
        → Carries L body fs Good b from run (λ a. at c m (push a)) → Carries L body fs Good b from run (λ a. at c n (push a))
    ends_at {A} {Good} b from c run m n push e r = subst (λ n. Carries L body fs Good b from run (λ a. at c n (push a))) e r

    -- an item that is there, or a stop
    pub outside_carries : {A : Type 0} {Good : Uses → A → Type 0} (b : ℕ) (c : Position) (o : Option ℕ) (go : ℕ → World → Outcome A) (to : A → Position)
        → (o ≡ None → (w : World) → Ends L c w (endings.Stopped Index w)) → ((k : ℕ) → o ≡ Some k → Carries L body fs Good b c (go k) to)
        → Carries L body fs Good b c (or_outside o go) to
    outside_carries b c (Some k) go to bad good = good k refl
    outside_carries b c None go to bad good = record { by = λ k l hk hl w le. bad refl w }

    -- a result of an operation, or a stop
    pub or_carries : {A : Type 0} {Good : Uses → A → Type 0} (b : ℕ) (c : Position) (g : Given) (go : Value → World → Outcome A) (to : A → Position)
        → ((s : Stop) → g ≡ Err s → (w : World) → Ends L c w (endings.Stopped s w)) → ((v : Value) → g ≡ Ok v → Carries L body fs Good b c (go v) to)
        → Carries L body fs Good b c (or_stop g go) to
    or_carries b c (Ok v) go to bad good = good v refl
    or_carries b c (Err s) go to bad good = record { by = λ k l hk hl w le. bad s refl w }

  -- the instruction at a place
  pub here : (pc : ℕ) (i : Instr) (ks : List OperandKind) (m : Spot) → slice_get p.lines pc ≡ Some (line_of i ks m)
      → (c : Position) (ops : List Operand) (memory : Mem) → step p (at c pc ops) memory ≡ instruction p (Some i) (at c pc ops) memory
  here pc i ks m h c ops memory = ap (λ o. instruction p (instr_of o) (at c pc ops) memory) h

  -- two stretches, one after the other
  pub join_carries : {L : Uses} {A B : Type 0} {Good : Uses → A → Type 0} {Fine : Uses → B → Type 0} (f g : Stretch) (b pc : ℕ) (ks : List OperandKind)
      (m : Spot) (c : Position) (ops : List Operand) (run : World → Outcome A) (more : A → World → Outcome B) (mid : A → List Operand) (push : B → List Operand)
      → ((ks : List OperandKind) (m : Spot) (at' : ℕ) → length (f.lines ks m at') ≡ f.size) → HasAt p.lines pc ((join f g).lines ks m pc)
      → (HasAt p.lines pc (f.lines ks m pc) → Carries L m.body c.frames Good b (at c pc ops) run (λ a. at c (pc + f.size) (mid a)))
      → (HasAt p.lines (pc + f.size) (g.lines (f.leaves ks) m (pc + f.size)) → (a : A) → Good L a
      → Carries L m.body c.frames Fine b (at c (pc + f.size) (mid a)) (more a) (λ x. at c (pc + f.size + g.size) (push x)))
      → Carries L m.body c.frames Fine b (at c pc ops) (λ w. bind (run w) more) (λ x. at c (pc + (f.size + g.size)) (push x))
  join_carries f g b pc ks m c ops run more mid push sized has r s =
      ends_at b (at c pc ops) c (λ w. bind (run w) more) (pc + f.size + g.size) (pc + (f.size + g.size)) push (omega arith)
      (then_carries b (at c pc ops) run (λ a. at c (pc + f.size) (mid a)) more (λ x. at c (pc + f.size + g.size) (push x))
      (r (has_front p.lines pc (f.lines ks m pc) _ has))
      (s (has_rest p.lines pc f.size (f.lines ks m pc) _ (sized ks m pc) has)))

  -- the first of them gives a value of one cell, which stands above others
  pub join_one : {L : Uses} {B : Type 0} {Fine : Uses → B → Type 0} (k : Kind) (f g : Stretch) (b pc : ℕ) (ks : List OperandKind)
      (m : Spot) (c : Position) (ops under : List Operand) (run : World → Outcome (List Value)) (more : Value → World → Outcome B)
      (push : B → List Operand) → ((ks : List OperandKind) (m : Spot) (at' : ℕ) → length (f.lines ks m at') ≡ f.size)
      → HasAt p.lines pc ((join f g).lines ks m pc)
      → (HasAt p.lines pc (f.lines ks m pc)
      → Carries L m.body c.frames (OfShape (Cell k)) b (at c pc ops) run (λ vs. at c (pc + f.size) (operand_of vs ∷ under)))
      → (HasAt p.lines (pc + f.size) (g.lines (f.leaves ks) m (pc + f.size)) → (v : Value) → IsOf k v
      → Carries L m.body c.frames Fine b (at c (pc + f.size) (Of v ∷ under)) (more v) (λ x. at c (pc + f.size + g.size) (push x)))
      → Carries L m.body c.frames Fine b (at c pc ops) (λ w. bind (run w) (λ vs. more (the vs))) (λ x. at c (pc + (f.size + g.size)) (push x))
  join_one {L} {B} {Fine} k f g b pc ks m c ops under run more push sized has r s =
      join_carries f g b pc ks m c ops run (λ vs. more (the vs)) (λ vs. operand_of vs ∷ under) push sized has r (λ h vs ok.
      let o = is_one k L vs ok in
      subst (λ vs. Carries L m.body c.frames Fine b (at c (pc + f.size) (operand_of vs ∷ under)) (more (the vs)) (λ x. at c (pc + f.size + g.size) (push x)))
      (sym o.is) (s h o.value o.fits))

  -- what parameters are given, pushed from left to right
  abbrev pub pushed_passed : List Passed → List Operand → List Operand
  pushed_passed [] ops = ops
  pushed_passed (a ∷ as') ops = pushed_passed as' (passed_operand a ∷ ops)

  -- what a parameter takes
  abbrev pub Takes : OperandKind → Uses → Passed → Type 0
  Takes (operand.Value s) L a = (vs : List Value) × (a ≡ AsValue vs) × AreOf (cell_kinds s) vs
  Takes (operand.Place s) L a = (x : Place) × (a ≡ AsPlace x) × AtShape P s L x

  abbrev pub TakeAll : List OperandKind → Uses → List Passed → Type 0
  TakeAll [] L [] = Unit {0}
  TakeAll (k ∷ ks) L (a ∷ as') = Takes k L a × TakeAll ks L as'
  TakeAll _ L _ = ⊥

  -- the cells in use are those of the level and of the frames, with the variables of the level and of the innermost PROC at their places
  pub record Stands (L : Uses) (m : Spot) (c : Position) : Type 0 where
    pub used : c.used ≡ length L
    pub room : length L ≤ CELLS
    pub packets : length P ≤ CELLS
    pub level : (x : ℕ) (k : Kind) → slice_get p.variables x ≡ Some k → slice_get L x ≡ Some (OfValue k)
    pub frame : (x : ℕ) (u : Use) → slice_get (frame_uses p m.body) x ≡ Some u → slice_get L (base_of c.frames + x) ≡ Some u

  -- calls do in the code what they do
  pub record CallsCarry (calls : Calls) (n : ℕ) : Type 0 where
    pub call : (L : Uses) (b pc q : ℕ) (ks : List OperandKind) (m : Spot) (c : Position) (ops : List Operand) (e : Entry) (parameters : List OperandKind)
        (variables : List Kind) (args : List Passed) → b ≤ n → Stands L m c → slice_get p.lines pc ≡ Some (line_of (Call q) ks m) → slice_get p.bodies q ≡ Some e
        → e.layout ≡ layouts.Own parameters variables → TakeAll parameters L args
        → Carries L m.body c.frames (λ _. Result e.delivers) b (at c pc (pushed_passed args ops)) (calls.call q (all_slots args) (bytes_on ops (bytes_of c.frames)))
        (λ v. at c (pc + 1) (result_ops v ++ ops))
    pub refer : (L : Uses) (b pc q : ℕ) (ks : List OperandKind) (m : Spot) (c : Position) (ops : List Operand) (e : Entry) → b ≤ n → Stands L m c
        → slice_get p.lines pc ≡ Some (line_of (Refer q) ks m) → slice_get p.bodies q ≡ Some e → IsRefinement e.layout → owner p (Some q) ≡ owner p m.body
        → Carries L m.body c.frames (λ _. Result e.delivers) b (at c pc ops) (calls.refer q (base_of c.frames) (bytes_on ops (bytes_of c.frames)))
        (λ v. at c (pc + 1) (result_ops v ++ ops))

  -- a phrase with at most b marks is within the reach of calls and turns
  pub record Within (calls : Calls) (n b : ℕ) (L : Uses) (m : Spot) (c : Position) : Type 0 where
    pub turns : b ≤ n
    pub stands : Stands L m c
    pub carry : CallsCarry calls n

  pub less : {calls : Calls} {n b b' : ℕ} {L : Uses} {m : Spot} {c : Position} → Within calls n b L m c → b' ≤ b → Within calls n b' L m c
  less h le = record { turns = omega (arith, h.turns, le); stands = h.stands; carry = h.carry }
