-- What each form of phrase does, whatever its parts are.
use Rattle.std.proofs.Common.{◌≡◌, ℕ, suc, ◌+◌, ◌*◌, ◌<◌, ◌≤◌, ◌%◌, List, [], ◌∷◌, ◌++◌, length, take, drop, replicate, Option, Some}
use Rattle.std.proofs.Common.{Bool, true, false, cond, refl, sym, ap, ◌∙◌, subst, arith}
use Rattle.std.specs.Prelude.{slice_get, option_map, map, ℤ}
use Rattle.std.proofs.lemmas.Option.{slice_get_within, slice_get-map}
use Rattle.std.proofs.lemmas.Bool.{lt-ltb}
use Rattle.std.proofs.lemmas.Bool.Decides.{nat_tests}
use Rattle.std.proofs.lemmas.List.{append-nil, length-map}
use Rattle.eu_base.specs.declared.value.Kind.{Kind}
use Rattle.eu_base.specs.declared.value.Kind.TheVariants as kinds
use Rattle.eu_base.specs.declared.value.Value.{Value}
use Rattle.eu_base.specs.declared.value.Value.TheVariants as item
use Rattle.eu_base.specs.declared.operation.Operation.{Operation}
use Rattle.eu_base.specs.Values.{IsOf}
use Rattle.eu_base.specs.declared.address.TheConstants.{CELLS}
use Rattle.eu_base.specs.declared.shape.Shape.{Shape}
use Rattle.eu_base.specs.declared.shape.Shape.TheVariants.{Cell}
use Rattle.eu_base.specs.declared.stop.Stop.TheVariants.{Index as OutsideRow, OperandRoom, NoSpace}
use Rattle.eu_base.specs.Shapes.{cell_kinds, joined}
use Rattle.eu_base.specs.Values.{number_of}
use Rattle.eu_base.specs.Room.{values_bytes, place_bytes, bytes_fit}
use Rattle.eu_base.specs.Operations.{operand_kinds, result_kind, result_of, in_row}
use Rattle.eu_base.specs.declared.address.Area.TheVariants as areas
use Rattle.eu_base.specs.Cells.{packet_cell}
use Rattle.code_form.specs.declared.operand.Operand.{Operand}
use Rattle.code_form.specs.declared.operand.Operand.TheVariants.{Value as Of, Place as At}
use Rattle.code_form.specs.declared.operand.OperandKind.{OperandKind}
use Rattle.code_form.specs.declared.operand.OperandKind.TheVariants as operand
use Rattle.code_form.specs.declared.instr.Instr.{Instr}
use Rattle.code_form.specs.declared.instr.Instr.TheVariants.{Number, Truth, Text, Outer, Packet, Local, Param, Index, Field, Pick, Take, Load, Store, Do}
use Rattle.code_form.specs.declared.code.Spot.{Spot}
use Rattle.code_form.specs.Program.{Program}
use Rattle.code_form.specs.Valid.{cell_value}
use Rattle.code_form.specs.Machine.{Mem, on_cells, move_stage, Position, free, Move, Halts, at, goes, pushes as push_move, on_room, least_bytes, operand_of, or_halt, on_values, on_all, on_place}
use Rattle.code_form.specs.Machine.{on_item, further, on_further, puts_all, base_of, bytes_on, bytes_of, step, instruction}
use Rattle.elan_types.specs.Typing as typing
use Rattle.elan_types.specs.Typing.{Held, values_held, begins}
use Rattle.elan_types.specs.Eval.{World, Place, slot_at, place_of, Gives, bind, or_stop, or_outside, fetch_all, beyond, the, assign, save, load_all, deliver}
use Rattle.elan_types.specs.Eval.{deliver_place, holding, holding_place, stored, part_of, Calls, Run}
use Rattle.elan_types.specs.Eval.{all, values}
use Rattle.place_gen.specs.Stretch.{Stretch, none, one, pushes, join}
use Rattle.place_gen.specs.Correct.{addr_of, scene_of}
use Rattle.place_gen.proofs.Lines.{HasAt, join_sized}
use Rattle.place_gen.proofs.Homes.{use_of, frame_uses}
use Rattle.place_gen.proofs.Cells.{Use, OfValue, OfPlace, Uses, StandsIn, refers}
use Rattle.place_gen.proofs.Spans.{AreOf, AreOf-length, reads_all, most_cells, are_part, variables_at, held_at, get_dropped, in_row_low}
use Rattle.place_gen.proofs.Spans.{found, stands_begins, stands_dropped, stands_item, stands_low, place_fits}
use Rattle.eu_base.specs.Cells.{IsArea}
use Rattle.eu_base.proofs.Results.{result_gives}
use Rattle.place_gen.proofs.Carry.{P, Any, OfShape, AtShape, AtAll, is_one, of_one, reach, holds_operand, operand_size, Carries, Stands, Within, stop_ends}
use Rattle.place_gen.proofs.Carry.{there_ends, read_comes, then_carries, none_carries, reads_carries, weaker_carries, outside_carries, does, put_all_ends, or_carries, here, ends_at}
use Rattle.place_gen.proofs.Carry.{join_carries}

abbrev pub keep : List Value → List Operand → List Operand
keep vs ops = operand_of vs ∷ ops

abbrev pub keep_place : Place → List Operand → List Operand
keep_place x ops = At (addr_of x) ∷ ops

abbrev pub no_more : Unit {0} → List Operand → List Operand
no_more _ ops = ops

-- values pushed from left to right
abbrev pub pushed : List Value → List Operand → List Operand
pushed [] ops = ops
pushed (v ∷ vs) ops = pushed vs (Of v ∷ ops)

-- an operation takes what was pushed for it
taken : (vs : List Value) (n : ℕ) (acc : List Value) (ops : List Operand) (go : List Value → List Operand → Move)
    → on_values (length vs + n) acc (pushed vs ops) go ≡ on_values n (vs ++ acc) ops go
taken [] n acc ops go = let e : 0 + n ≡ n = omega arith in ap (λ n. on_values n acc ops go) e
taken (v ∷ vs) n acc ops go =
    let e : suc (length vs) + n ≡ length vs + suc n = omega arith in
    ap (λ n. on_values n acc (pushed vs (Of v ∷ ops)) go) e ∙ taken vs (suc n) acc (Of v ∷ ops) go

pub all_taken : (ks : List Kind) (vs : List Value) (ops : List Operand) (go : List Value → List Operand → Move) → AreOf ks vs
    → on_values (length ks) [] (pushed vs ops) go ≡ go vs ops
all_taken ks vs ops go h =
    let e : length ks ≡ length vs + 0 = omega (arith, AreOf-length ks vs h) in
    ap (λ n. on_values n [] (pushed vs ops) go) e ∙ taken vs 0 [] ops go ∙ ap (λ l. go l ops) (append-nil vs)

-- values of these kinds, whatever the cells are for
abbrev pub AllOf : List Kind → Uses → List Value → Type 0
AllOf ks L vs = AreOf ks vs

-- a value is pushed where its bytes have room
pub push_is : (c : Position) (vs : List Value) (ops : List Operand) (memory : Mem)
    → push_move c (operand_of vs) ops memory
    ≡ cond (bytes_fit (values_bytes vs + bytes_on ops (bytes_of c.frames))) (goes c (operand_of vs ∷ ops) memory) (Halts OperandRoom)
push_is c vs ops memory =
    ap (λ n. cond (bytes_fit (n + bytes_on ops (bytes_of c.frames))) (goes c (operand_of vs ∷ ops) memory) (Halts OperandRoom)) (operand_size vs)

-- a test of fewer bytes before it changes nothing
room_twice : (a b held : ℕ) (m : Move) → a ≤ b
    → cond (bytes_fit (a + held)) (cond (bytes_fit (b + held)) m (Halts OperandRoom)) (Halts OperandRoom) ≡ cond (bytes_fit (b + held)) m (Halts OperandRoom)
room_twice a b held m le = by (bytes_fit (a + held)) (bytes_fit (b + held)) refl refl
  where
    by : (s t : Bool) → bytes_fit (a + held) ≡ s → bytes_fit (b + held) ≡ t
        → cond s (cond t m (Halts OperandRoom)) (Halts OperandRoom) ≡ cond t m (Halts OperandRoom)
    by true t e f = refl
    by false false e f = refl
    by false true e f = absurd (grind (arith, nat_tests, e, f, le))

-- the values of an operand
all_on : (vs : List Value) (ops : List Operand) (go : List Value → List Operand → Move) → on_all (operand_of vs ∷ ops) go ≡ go vs ops
all_on [] ops go = refl
all_on (v ∷ []) ops go = refl
all_on (v ∷ u ∷ vs) ops go = refl

add_assoc : (a b c : ℕ) → a + (b + c) ≡ a + b + c
add_assoc a b c = omega arith

module _ (p : Program) (body : Option ℕ) where
  -- in this body the code does what the run does, and leaves what it gives
  pub record Is {A : Type 0} (Good : Uses → A → Type 0) (push : A → List Operand → List Operand) (run : Run A) (f : Stretch) : Type 0 where
    pub sized : (ks : List OperandKind) (m : Spot) (pc : ℕ) → length (f.lines ks m pc) ≡ f.size
    pub goes : (calls : Calls) (n b pc : ℕ) (L : Uses) (ks : List OperandKind) (m : Spot) (c : Position) (ops : List Operand) → m.body ≡ body
        → Within p calls n b L m c → HasAt p.lines pc (f.lines ks m pc)
        → Carries p L m.body c.frames Good b (at c pc ops) (run (reach calls n c ops)) (λ a. at c (pc + f.size) (push a ops))

  abbrev pub IsValue : Shape → Run (List Value) → Stretch → Type 0
  IsValue s = Is (OfShape s) keep

  -- where a value of a shape stands, and where cells of these kinds do
  abbrev pub IsPlace : Shape → Run Place → Stretch → Type 0
  IsPlace s = Is (AtShape (P p) s) keep_place

  abbrev pub IsPlaceOf : List Kind → Run Place → Stretch → Type 0
  IsPlaceOf ks = Is (AtAll (P p) ks) keep_place

  abbrev pub IsAction : Run (Unit {0}) → Stretch → Type 0
  IsAction = Is Any no_more

  -- a list of actions
  pub nothing_is : IsAction (all []) none
  nothing_is = record {
    sized = λ ks m pc. refl;
    goes =
        λ calls n b pc L ks m c ops home le has.
        ends_at p b (at c pc ops) c (Gives (tt {0})) pc _ (λ _. ops) (omega arith) (none_carries p b tt (λ _. at c pc ops) tt);
  }

  pub then_is : {A : Type 0} {Good : Uses → A → Type 0} {push : A → List Operand → List Operand} {x : Run (Unit {0})} {y : Run A} {f g : Stretch} → IsAction x f
      → Is Good push y g → Is Good push (λ r w. bind (x r w) (λ _. y r)) (join f g)
  then_is {A} {Good} {push} {x} {y} {f} {g} i j = record {
    sized = join_sized f g i.sized j.sized;
    goes =
        λ calls n b pc L ks m c ops home le has.
        join_carries p f g b pc ks m c ops (x (reach calls n c ops)) (λ _. y (reach calls n c ops)) (λ _. ops) (λ a. push a ops) i.sized has
        (λ h. i.goes calls n b pc L ks m c ops home le h) (λ h _ _. j.goes calls n b (pc + f.size) L (f.leaves ks) m c ops home le h);
  }

  -- one instruction that delivers what it reads
  pub deliver_is : (i : Instr) (k : Kind) (v : Value) → IsOf k v
      → ((c : Position) (memory : Mem) → instruction p (Some i) c memory ≡ push_move c (Of v) c.ops memory)
      → IsValue (Cell k) (deliver (v ∷ [])) (one i (pushes (cell_value k)))
  deliver_is i k v ok e = record {
    sized = λ ks m pc. refl;
    goes =
        λ calls n b pc L ks m c ops home le has.
        reads_carries p b (at c pc ops) (λ w. v ∷ []) (λ w. bytes_fit (values_bytes (v ∷ []) + bytes_on ops (bytes_of c.frames))) (λ vs. at c (pc + 1) (keep vs ops))
        (λ w memory h. (of_one k L v ok, here p pc i ks m has.0 c ops memory ∙ e (at c pc ops) memory ∙ push_is (at c pc ops) (v ∷ []) ops memory));
  }

  pub number_is : (z : ℤ) → IsOf kinds.Int (item.Int z) → IsValue (Cell kinds.Int) (deliver (item.Int z ∷ [])) (one (Number z) (pushes (cell_value kinds.Int)))
  number_is z ok = deliver_is (Number z) kinds.Int (item.Int z) ok (λ c memory. refl)

  pub truth_is : (t : Bool) → IsValue (Cell kinds.Truth) (deliver (item.Truth t ∷ [])) (one (Truth t) (pushes (cell_value kinds.Truth)))
  truth_is t = deliver_is (Truth t) kinds.Truth (item.Truth t) tt (λ c memory. refl)

  pub text_is : (t : List ℕ) → IsOf kinds.Text (item.Text t)
      → IsValue (Cell kinds.Text) (deliver (item.Text t ∷ [])) (one (Text t) (pushes (cell_value kinds.Text)))
  text_is t ok = deliver_is (Text t) kinds.Text (item.Text t) ok (λ c memory. refl)

  in_frame : (m : Spot) (c : Position) (L : Uses) (x : ℕ) (u : Use) → m.body ≡ body → Stands p L m c → slice_get (frame_uses p body) x ≡ Some u
      → slice_get L (base_of c.frames + x) ≡ Some u
  in_frame m c L x u home stands is = stands.frame x u (ap (λ b. slice_get (frame_uses p b) x) home ∙ is)

  -- places of variables and parameters
  pub variable_is : (x : ℕ) (s : Shape) (k : Kind) → slice_get p.variables x ≡ Some k
      → IsPlaceOf (drop x p.variables) (deliver_place (record { area = areas.Run; variable = x })) (one (Outer x) (pushes (operand.Place s)))
  variable_is x s k is = record {
    sized = λ ks m pc. refl;
    goes = λ calls n b pc L ks m c ops home le has.
        let within = slice_get_within L x (OfValue k) (le.stands.level x k is) in
        let low : x ≤ length L = omega (arith, within) in
        let small : x < CELLS = omega (arith, within, le.stands.room) in
        let at_x = variables_at (drop x p.variables) L x low (λ y k e. le.stands.level (x + y) k (sym (get_dropped x y p.variables) ∙ e)) in
        reads_carries p b (at c pc ops) (λ w. record { area = areas.Run; variable = x }) (λ w. bytes_fit (place_bytes + bytes_on ops (bytes_of c.frames)))
        (λ x. at c (pc + 1) (keep_place x ops)) (λ w memory h. ((at_x, small, tt), here p pc (Outer x) ks m has.0 c ops memory));
  }

  pub packet_is : (x : ℕ) (s : Shape) (k : Kind) → slice_get (P p) x ≡ Some k
      → IsPlaceOf (drop x (P p)) (deliver_place (record { area = areas.Packets; variable = x })) (one (Packet x) (pushes (operand.Place s)))
  packet_is x s k is = record {
    sized = λ ks m pc. refl;
    goes = λ calls n b pc L ks m c ops home le has.
        let U = map OfValue (P p) in
        let used : (y : ℕ) (k : Kind) → slice_get (P p) y ≡ Some k → slice_get U y ≡ Some (OfValue k) =
        λ y k e. slice_get-map OfValue (P p) y ∙ ap (option_map OfValue) e in
        let within = slice_get_within (P p) x k is in
        let small : x < CELLS = omega (arith, within, le.stands.packets) in
        let same : x % CELLS ≡ x = omega (arith, small) in
        let low : x ≤ length U = omega (arith, within, length-map (P p) OfValue) in
        let at_x = variables_at (drop x (P p)) U x low (λ y k e. used (x + y) k (sym (get_dropped x y (P p)) ∙ e)) in
        reads_carries p b (at c pc ops) (λ w. record { area = areas.Packets; variable = x }) (λ w. bytes_fit (place_bytes + bytes_on ops (bytes_of c.frames)))
        (λ x. at c (pc + 1) (keep_place x ops)) (λ w memory h.
        ((at_x, small, tt), here p pc (Packet x) ks m has.0 c ops memory ∙ ap (λ y. push_move (at c pc ops) (At (packet_cell y)) ops memory) same));
  }

  pub local_is : (x : ℕ) (s : Shape) (k : Kind) (hs : List Held) → slice_get hs x ≡ Some (typing.OfKind k) → ((y : ℕ) (h : Held) → slice_get hs y ≡ Some h → slice_get (frame_uses p body) y ≡ Some (use_of h))
      → IsPlaceOf (values_held (drop x hs)) (λ r. deliver_place (record { area = areas.Run; variable = r.base + x }) r) (one (Local x) (pushes (operand.Place s)))
  local_is x s k hs here_is is = record {
    sized = λ ks m pc. refl;
    goes = λ calls n b pc L ks m c ops home le has.
        let base = base_of c.frames in
        let within = slice_get_within L (base + x) (OfValue k) (in_frame m c L x (OfValue k) home le.stands (is x (typing.OfKind k) here_is)) in
        let low : base + x ≤ length L = omega (arith, within) in
        let small : base + x < CELLS = omega (arith, within, le.stands.room) in
        let at_x = held_at (drop x hs) L (base + x) low (λ y h e.
        subst (λ z. slice_get L z ≡ Some (use_of h)) (add_assoc base x y)
        (in_frame m c L (x + y) (use_of h) home le.stands (is (x + y) h (sym (get_dropped x y hs) ∙ e)))) in
        reads_carries p b (at c pc ops) (λ w. record { area = areas.Run; variable = base + x }) (λ w. bytes_fit (place_bytes + bytes_on ops (bytes_of c.frames)))
        (λ x. at c (pc + 1) (keep_place x ops)) (λ w memory h. ((at_x, small, tt), here p pc (Local x) ks m has.0 c ops memory));
  }

  pub parameter_is : (x : ℕ) (s : Shape) (js : List Kind) → slice_get (frame_uses p body) x ≡ Some (OfPlace js)
      → IsPlaceOf js (λ r w. deliver_place (place_of (slot_at w.store (r.base + x))) r w) (one (Param x) (pushes (operand.Place s)))
  parameter_is x s js is = record {
    sized = λ ks m pc. refl;
    goes =
        λ calls n b pc L ks m c ops home le has.
        reads_carries p b (at c pc ops) (λ w. place_of (slot_at w.store (base_of c.frames + x)))
        (λ w. bytes_fit (place_bytes + bytes_on ops (bytes_of c.frames))) (λ x. at c (pc + 1) (keep_place x ops)) (λ w memory h.
        let r =
        refers (P p) L w.store memory.cells (base_of c.frames + x) js (λ a. push_move (at c pc ops) (At a) ops memory) h.command
        (in_frame m c L x (OfPlace js) home le.stands is) in
        (r.0, here p pc (Param x) ks m has.0 c ops memory ∙ r.1));
  }

  -- a place further on, of an item whose index is looked at, and of a field
  further_carries : (calls : Calls) (n b pc : ℕ) (L : Uses) (m : Spot) (c : Position) (old ops : List Operand) (x : Place) (d : ℕ) (k : Kind) (js : List Kind)
      → length (P p) ≤ CELLS → length L ≤ CELLS → StandsIn (P p) (k ∷ js) L x.area (x.variable + d) → IsArea x.area
      → ((memory : Mem) → step p (at c pc old) memory ≡ on_further (addr_of x) d (λ to. push_move (at c pc old) (At to) ops memory))
      → Carries p L m.body c.frames (AtAll (P p) (k ∷ js)) b (at c pc old) (deliver_place (beyond x d) (reach calls n c ops)) (λ y. at c (pc + 1) (keep_place y ops))
  further_carries calls n b pc L m c old ops x d k js few room at_d there does =
      let now = at c pc old in
      let small : x.variable + d < CELLS = stands_low (P p) k js L x.area (x.variable + d) few room at_d in
      reads_carries p b now (λ w. beyond x d) (λ w. bytes_fit (place_bytes + bytes_on ops (bytes_of c.frames))) (λ y. at c (pc + 1) (keep_place y ops))
      (λ w memory h. (
        (at_d, small, there),
        does memory ∙ ap (λ t. cond t (push_move now (At (further (addr_of x) d)) ops memory) (Halts NoSpace)) (lt-ltb (x.variable + d) CELLS small),
      ))

  pub item_is : {q : Run Place} {t : Run (List Value)} {f g : Stretch} (ks : List Kind) (count cells : ℕ) (k : Kind) (js : List Kind) (s : Shape)
      → IsPlaceOf ks q f → IsValue (Cell kinds.Int) t g → length (k ∷ js) ≡ cells → begins (joined (replicate count (k ∷ js))) ks ≡ true
      → IsPlaceOf (k ∷ js) (λ r w. bind (q r w) (λ x w. bind (t (holding_place r) w) (λ vs.
      or_outside (in_row count (number_of (the vs))) (λ i. deliver_place (beyond x (i * cells)) r))))
      (join f (join g (one (Index count cells) (λ ks. operand.Place s ∷ drop 2 ks))))
  item_is {q} {t} {f} {g} ks count cells k js s i j size fits =
      let last = one (Index count cells) (λ (ks : List OperandKind). operand.Place s ∷ drop 2 ks) in record {
        sized = join_sized f (join g last) i.sized (join_sized g last j.sized (λ ks m pc. refl));
        goes =
            λ calls n b pc L ls m c ops home le has.
            let r = reach calls n c ops in
            join_carries p f (join g last) b pc ls m c ops (q r)
            (λ x w. bind (t (holding_place r) w) (λ vs. or_outside (in_row count (number_of (the vs))) (λ i. deliver_place (beyond x (i * cells)) r)))
            (λ x. keep_place x ops) (λ y. keep_place y ops) i.sized has (λ h. i.goes calls n b pc L ls m c ops home le h) (λ h x at_x.
            join_carries p g last b (pc + f.size) (f.leaves ls) m c (keep_place x ops) (t (reach calls n c (keep_place x ops)))
            (λ vs. or_outside (in_row count (number_of (the vs))) (λ i. deliver_place (beyond x (i * cells)) r))
            (λ vs. keep vs (keep_place x ops)) (λ y. keep_place y ops) j.sized h
            (λ h. j.goes calls n b (pc + f.size) L (f.leaves ls) m c (keep_place x ops) home le h) (λ h vs ok.
            let z = pc + f.size + g.size in
            let one_v = is_one kinds.Int L vs ok in
            let to = λ (y : Place). at c (z + 1) (keep_place y ops) in
            let run = λ (vs : List Value). or_outside (in_row count (number_of (the vs))) (λ i. deliver_place (beyond x (i * cells)) r) in
            let o = in_row count (number_of one_v.value) in
            let now = at c z (Of one_v.value ∷ keep_place x ops) in
            let does =
            λ (memory : Mem). here p z (Index count cells) (g.leaves (f.leaves ls)) m h.0 c (Of one_v.value ∷ keep_place x ops) memory in
            let move = λ (o : Option ℕ) (memory : Mem). on_item o (λ i. on_further (addr_of x) (i * cells) (λ to. push_move now (At to) ops memory)) in
            subst (λ vs. Carries p L m.body c.frames (AtAll (P p) (k ∷ js)) b (at c z (keep vs (keep_place x ops))) (run vs) to) (sym one_v.is)
            (outside_carries p b now o (λ i. deliver_place (beyond x (i * cells)) r) to
            (λ none w. stop_ends p L now w OutsideRow (λ memory. does memory ∙ ap (λ o. move o memory) none))
            (λ i some. further_carries calls n b z L m c (Of one_v.value ∷ keep_place x ops) ops x (i * cells) k js le.stands.packets le.stands.room
            (stands_item (P p) ks count cells i k js L x.area x.variable size fits (in_row_low count (number_of one_v.value) i some) at_x.0) at_x.2
            (λ memory. does memory ∙ ap (λ o. move o memory) some)))));
      }

  pub field_is : {q : Run Place} {f : Stretch} (ks : List Kind) (before : ℕ) (k : Kind) (js : List Kind) (s : Shape) → IsPlaceOf ks q f
      → drop before ks ≡ k ∷ js → IsPlaceOf (k ∷ js) (λ r w. bind (q r w) (λ x. deliver_place (beyond x before) r))
      (join f (one (Field before) (λ ks. operand.Place s ∷ drop 1 ks)))
  field_is {q} {f} ks before k js s i is =
      let last = one (Field before) (λ (ks : List OperandKind). operand.Place s ∷ drop 1 ks) in record {
        sized = join_sized f last i.sized (λ ks m pc. refl);
        goes =
            λ calls n b pc L ls m c ops home le has.
            let r = reach calls n c ops in
            join_carries p f last b pc ls m c ops (q r) (λ x. deliver_place (beyond x before) r) (λ x. keep_place x ops) (λ y. keep_place y ops) i.sized has
            (λ h. i.goes calls n b pc L ls m c ops home le h) (λ h x at_x.
            further_carries calls n b (pc + f.size) L m c (keep_place x ops) ops x before k js le.stands.packets le.stands.room
            (stands_dropped (P p) before ks k js L x.area x.variable is at_x.0) at_x.2
            (λ memory. here p (pc + f.size) (Field before) (f.leaves ls) m h.0 c (keep_place x ops) memory));
      }

  -- the place of a value of a shape, where cells of its kinds stand first
  pub shape_place : {q : Run Place} {f : Stretch} (ks : List Kind) (s : Shape) → IsPlaceOf ks q f → begins (cell_kinds s) ks ≡ true → IsPlace s q f
  shape_place {q} {f} ks s i fits = record {
    sized = i.sized;
    goes =
        λ calls n b pc L ls m c ops home le has.
        weaker_carries p b (at c pc ops) (q (reach calls n c ops)) (λ x. at c (pc + f.size) (keep_place x ops))
        (λ x at_x. (stands_begins (P p) (cell_kinds s) ks L x.area x.variable fits at_x.0, at_x.1, at_x.2)) (i.goes calls n b pc L ls m c ops home le has);
  }

  pub load_is : {q : Run Place} {f : Stretch} (s : Shape) → IsPlace s q f
      → IsValue s (λ r w. bind (q r w) (λ x. load_all (cell_kinds s) x (λ vs. deliver vs r))) (join f (one (Load s) (λ ks. operand.Value s ∷ drop 1 ks)))
  load_is {q} {f} s i =
      let g = one (Load s) (λ (ks : List OperandKind). operand.Value s ∷ drop 1 ks) in record {
        sized = join_sized f g i.sized (λ ks m pc. refl);
        goes =
            λ calls n b pc L ks m c ops home le has.
            join_carries p f g b pc ks m c ops (q (reach calls n c ops)) (λ x. load_all (cell_kinds s) x (λ vs. deliver vs (reach calls n c ops)))
            (λ x. keep_place x ops) (λ vs. keep vs ops) i.sized has (λ h. i.goes calls n b pc L ks m c ops home le h) (λ h x at_x.
            let z = pc + f.size in
            let now = at c z (keep_place x ops) in
            let ks' = cell_kinds s in
            let held = bytes_on ops (bytes_of c.frames) in
            record {
              by = λ k' l hk hl w le' memory keeps.
                  let vs = fetch_all ks' x w in
                  let go = λ (vs : List Value). push_move now (operand_of vs) ops memory in
                  let read = on_room now (least_bytes s) ops (on_cells ks' (addr_of x) memory.cells go) in
                  there_ends p (free now) ks' x (λ (w : World). deliver (fetch_all ks' x w) (reach calls n c ops) w) read k' l w memory keeps
                  (place_fits (P p) ks' L x le.stands.packets le.stands.room at_x)
                  (does p now (scene_of w memory) _ (here p z (Load s) (f.leaves ks) m h.0 c (keep_place x ops) memory)) (λ there looked.
                  let r =
                  reads_all (P p) ks' L w memory x go le.stands.packets le.stands.room keeps (found (P p) ks' L w x at_x there) in
                  read_comes p (free now) vs (bytes_fit (values_bytes vs + held)) (λ vs. at c (z + 1) (keep vs ops)) k' l w memory keeps (hk vs w r.0 le')
                  (looked ∙ ap (λ m. move_stage m (free now) (scene_of w memory))
                  (ap (on_room now (least_bytes s) ops) (r.1 ∙ push_is now vs ops memory)
                  ∙ room_twice (least_bytes s) (values_bytes vs) held (goes now (operand_of vs ∷ ops) memory) (most_cells ks' vs r.0))));
            });
      }

  pub store_is : {q : Run Place} {t : Run (List Value)} {e f : Stretch} (s : Shape) → IsPlace s q e → IsValue s t f
      → IsAction (stored q t) (join e (join f (one (Store s) (drop 2))))
  store_is {q} {t} {e} {f} s j i =
      let g = one (Store s) (drop 2) in record {
        sized = join_sized e (join f g) j.sized (join_sized f g i.sized (λ ks m pc. refl));
        goes =
            λ calls n b pc L ks m c ops home le has.
            join_carries p e (join f g) b pc ks m c ops (q (reach calls n c ops))
            (λ x w. bind (t (holding_place (reach calls n c ops)) w) (λ vs. save x vs (Gives (tt {0})))) (λ x. keep_place x ops) (λ _. ops) j.sized has
            (λ h. j.goes calls n b pc L ks m c ops home le h) (λ h x at_x.
            join_carries p f g b (pc + e.size) (e.leaves ks) m c (keep_place x ops) (t (reach calls n c (keep_place x ops)))
            (λ vs. save x vs (Gives (tt {0}))) (λ vs. keep vs (keep_place x ops)) (λ _. ops) i.sized h
            (λ h. i.goes calls n b (pc + e.size) L (e.leaves ks) m c (keep_place x ops) home le h) (λ h vs ok.
            let z = pc + e.size + f.size in record {
              by =
                  λ k' l hk hl w le' memory keeps.
                  let now = at c z (keep vs (keep_place x ops)) in
                  put_all_ends p (free now) (at c (z + 1) ops) w x (cell_kinds s) vs (Gives (tt {0})) k' l memory le.stands.packets le.stands.room at_x ok keeps
                  (does p now (scene_of w memory) _ (here p z (Store s) (f.leaves (e.leaves ks)) m h.0 c (keep vs (keep_place x ops)) memory
                  ∙ all_on vs (keep_place x ops) (λ vs ops. on_place ops (λ a ops. puts_all now a vs ops memory))))
                  (hk tt (assign x vs w) tt le');
            }));
      }

  pub no_values_are : Is (AllOf []) pushed (values []) none
  no_values_are = record {
    sized = λ ks m pc. refl;
    goes =
        λ calls n b pc L ks m c ops home le has.
        ends_at p b (at c pc ops) c (Gives []) pc _ (λ vs. pushed vs ops) (omega arith) (none_carries p b [] (λ vs. at c pc (pushed vs ops)) tt);
  }

  pub more_values_are : (k : Kind) (ks' : List Kind) (x : Run (List Value)) (y : List (Run (List Value))) {f g : Stretch} → IsValue (Cell k) x f
      → Is (AllOf ks') pushed (values y) g
      → Is (AllOf (k ∷ ks')) pushed (values (x ∷ y)) (join f g)
  more_values_are k ks' x y {f} {g} i j = record {
    sized = join_sized f g i.sized j.sized;
    goes =
        λ calls n b pc L ks m c ops home le has.
        join_carries p f g b pc ks m c ops (x (reach calls n c ops))
        (λ vs w. bind (values y (holding vs (reach calls n c ops)) w) (λ us. Gives (the vs ∷ us))) (λ vs. keep vs ops) (λ us. pushed us ops) i.sized has
        (λ h. i.goes calls n b pc L ks m c ops home le h) (λ h vs ok.
        let one_v = is_one k L vs ok in
        let v = one_v.value in
        let r = reach calls n c (Of v ∷ ops) in
        let to = λ (us : List Value). at c (pc + f.size + g.size) (pushed us ops) in
        subst (λ vs. Carries p L m.body c.frames (AllOf (k ∷ ks')) b (at c (pc + f.size) (keep vs ops))
        (λ w. bind (values y (holding vs (reach calls n c ops)) w) (λ us. Gives (the vs ∷ us))) to) (sym one_v.is)
        (subst (λ r. Carries p L m.body c.frames (AllOf (k ∷ ks')) b (at c (pc + f.size) (Of v ∷ ops))
        (λ w. bind (values y r w) (λ us. Gives (v ∷ us))) to) (sym (holds_operand calls n c (v ∷ []) ops))
        (then_carries p b (at c (pc + f.size) (Of v ∷ ops)) (values y r)
        (λ us. at c (pc + f.size + g.size) (pushed us (Of v ∷ ops))) (λ us. Gives (v ∷ us)) to
        (j.goes calls n b (pc + f.size) L (f.leaves ks) m c (Of v ∷ ops) home le h) (λ us oks.
        none_carries p b (v ∷ us) to (one_v.fits, oks)))));
  }

  pub apply_is : (x : List (Run (List Value))) {f : Stretch} (op : Operation) → Is (AllOf (operand_kinds op)) pushed (values x) f
      → IsValue (Cell (result_kind op)) (λ r w. bind (values x r w) (λ vs. or_stop (result_of op vs) (λ v. deliver (v ∷ []) r)))
      (join f (one (Do op) (λ ks. cell_value (result_kind op) ∷ drop (length (operand_kinds op)) ks)))
  apply_is x {f} op i =
      let g = one (Do op) (λ (ks : List OperandKind). cell_value (result_kind op) ∷ drop (length (operand_kinds op)) ks) in record {
        sized = join_sized f g i.sized (λ ks m pc. refl);
        goes =
            λ calls n b pc L ks m c ops home le has.
            join_carries p f g b pc ks m c ops (values x (reach calls n c ops)) (λ vs. or_stop (result_of op vs) (λ v. deliver (v ∷ []) (reach calls n c ops)))
            (λ vs. pushed vs ops) (λ vs. keep vs ops) i.sized has (λ h. i.goes calls n b pc L ks m c ops home le h) (λ h vs oks.
            let q = pc + f.size in
            let now = at c q (pushed vs ops) in
            let does =
            λ (memory : Mem). here p q (Do op) (f.leaves ks) m h.0 c (pushed vs ops) memory
            ∙ all_taken (operand_kinds op) vs ops (λ vs ops. or_halt (result_of op vs) (λ v. push_move now (Of v) ops memory)) oks in
            or_carries p b now (result_of op vs) (λ v. deliver (v ∷ []) (reach calls n c ops)) (λ vs. at c (q + 1) (keep vs ops))
            (λ s e w. stop_ends p L now w s (λ memory. does memory ∙ ap (λ g. or_halt g (λ v. push_move now (Of v) ops memory)) e))
            (λ v e. reads_carries p b now (λ w. v ∷ []) (λ w. bytes_fit (values_bytes (v ∷ []) + bytes_on ops (bytes_of c.frames)))
            (λ vs. at c (q + 1) (keep vs ops))
            (λ w memory h. (
              of_one (result_kind op) L v (result_gives op vs v e),
              does memory ∙ ap (λ g. or_halt g (λ v. push_move now (Of v) ops memory)) e ∙ push_is now (v ∷ []) ops memory,
            ))));
      }

  -- an item and a field of a value
  part_carries : (calls : Calls) (n b pc : ℕ) (L : Uses) (m : Spot) (c : Position) (old ops : List Operand) (vs : List Value) (s r : Shape) (d cells : ℕ)
      → AreOf (cell_kinds s) vs → take cells (drop d (cell_kinds s)) ≡ cell_kinds r
      → ((now : Mem) → step p (at c pc old) now ≡ push_move (at c pc old) (operand_of (take cells (drop d vs))) ops now)
      → Carries p L m.body c.frames (OfShape r) b (at c pc old) (deliver (part_of d cells vs) (reach calls n c ops)) (λ us. at c (pc + 1) (keep us ops))
  part_carries calls n b pc L m c old ops vs s r d cells ok is does =
      let now = at c pc old in
      let us = part_of d cells vs in
      reads_carries p b now (λ w. us) (λ w. bytes_fit (values_bytes us + bytes_on ops (bytes_of c.frames))) (λ us. at c (pc + 1) (keep us ops))
      (λ w now' h. (subst (λ ks. AreOf ks us) is (are_part d cells (cell_kinds s) vs ok), does now' ∙ push_is now us ops now'))

  pub pick_is : {t u : Run (List Value)} {f g : Stretch} (s r : Shape) (count cells : ℕ) → IsValue s t f → IsValue (Cell kinds.Int) u g
      → ((i : ℕ) → i < count → take cells (drop (i * cells) (cell_kinds s)) ≡ cell_kinds r)
      → IsValue r (λ n w. bind (t n w) (λ vs w. bind (u (holding vs n) w) (λ us.
      or_outside (in_row count (number_of (the us))) (λ k. deliver (part_of (k * cells) cells vs) n))))
      (join f (join g (one (Pick count cells) (λ ks. operand.Value r ∷ drop 2 ks))))
  pick_is {t} {u} {f} {g} s r count cells i j is =
      let last = one (Pick count cells) (λ (ks : List OperandKind). operand.Value r ∷ drop 2 ks) in record {
        sized = join_sized f (join g last) i.sized (join_sized g last j.sized (λ ks m pc. refl));
        goes =
            λ calls n b pc L ls m c ops home le has.
            let rs = reach calls n c ops in
            join_carries p f (join g last) b pc ls m c ops (t rs)
            (λ vs w. bind (u (holding vs rs) w) (λ us. or_outside (in_row count (number_of (the us))) (λ k. deliver (part_of (k * cells) cells vs) rs)))
            (λ vs. keep vs ops) (λ us. keep us ops) i.sized has (λ h. i.goes calls n b pc L ls m c ops home le h) (λ h vs oks.
            let z = pc + f.size + g.size in
            let to = λ (us : List Value). at c (z + 1) (keep us ops) in
            let run = λ (us : List Value). or_outside (in_row count (number_of (the us))) (λ k. deliver (part_of (k * cells) cells vs) rs) in
            subst (λ r'. Carries p L m.body c.frames (OfShape r) b (at c (pc + f.size) (keep vs ops)) (λ w. bind (u r' w) run) (λ us. at c (pc + f.size + (g.size + 1)) (keep us ops)))
            (sym (holds_operand calls n c vs ops))
            (join_carries p g last b (pc + f.size) (f.leaves ls) m c (keep vs ops) (u (reach calls n c (keep vs ops))) run
            (λ us. keep us (keep vs ops)) (λ us. keep us ops) j.sized h
            (λ h. j.goes calls n b (pc + f.size) L (f.leaves ls) m c (keep vs ops) home le h) (λ h us ok.
            let one_v = is_one kinds.Int L us ok in
            let v = one_v.value in
            let o = in_row count (number_of v) in
            let now = at c z (Of v ∷ keep vs ops) in
            let move = λ (o : Option ℕ) (now' : Mem). on_item o (λ k. push_move now (operand_of (take cells (drop (k * cells) vs))) ops now') in
            let does =
            λ (now' : Mem). here p z (Pick count cells) (g.leaves (f.leaves ls)) m h.0 c (Of v ∷ keep vs ops) now'
            ∙ all_on vs ops (λ vs ops. on_item o (λ k. push_move now (operand_of (take cells (drop (k * cells) vs))) ops now')) in
            subst (λ us. Carries p L m.body c.frames (OfShape r) b (at c z (keep us (keep vs ops))) (run us) to) (sym one_v.is)
            (outside_carries p b now o (λ k. deliver (part_of (k * cells) cells vs) rs) to
            (λ none w. stop_ends p L now w OutsideRow (λ now'. does now' ∙ ap (λ o. move o now') none))
            (λ k some. part_carries calls n b z L m c (Of v ∷ keep vs ops) ops vs s r (k * cells) cells oks (is k (in_row_low count (number_of v) k some))
            (λ now'. does now' ∙ ap (λ o. move o now') some))))));
      }

  pub take_is : {t : Run (List Value)} {f : Stretch} (s r : Shape) (of before cells : ℕ) → IsValue s t f
      → take cells (drop before (cell_kinds s)) ≡ cell_kinds r
      → IsValue r (λ n w. bind (t n w) (λ vs. deliver (part_of before cells vs) n)) (join f (one (Take of before cells) (λ ks. operand.Value r ∷ drop 1 ks)))
  take_is {t} {f} s r of before cells i is =
      let last = one (Take of before cells) (λ (ks : List OperandKind). operand.Value r ∷ drop 1 ks) in record {
        sized = join_sized f last i.sized (λ ks m pc. refl);
        goes =
            λ calls n b pc L ls m c ops home le has.
            let rs = reach calls n c ops in
            join_carries p f last b pc ls m c ops (t rs) (λ vs. deliver (part_of before cells vs) rs) (λ vs. keep vs ops) (λ us. keep us ops) i.sized has
            (λ h. i.goes calls n b pc L ls m c ops home le h) (λ h vs oks.
            let z = pc + f.size in
            let now = at c z (keep vs ops) in
            part_carries calls n b z L m c (keep vs ops) ops vs s r before cells oks is
            (λ now'. here p z (Take of before cells) (f.leaves ls) m h.0 c (keep vs ops) now'
            ∙ all_on vs ops (λ vs ops. push_move now (operand_of (take cells (drop before vs))) ops now')));
      }
