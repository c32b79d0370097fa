-- What loops do, whatever their parts are.
use Rattle.std.proofs.Common.{◌≡◌, ℕ, zero, suc, ◌+◌, ◌-◌, ◌≤◌, List, [], ◌∷◌, ◌++◌, length, drop, Option, Some, None, Bool, true, false, cond, refl, sym, ap, ◌∙◌, subst}
use Rattle.std.proofs.Common.{arith, length-append}
use Rattle.std.specs.Prelude.{slice_get, not, ℤ, pos}
use Rattle.std.specs.Int.{w16}
use Rattle.std.specs.Int.RustNames.{FitsSigned}
use Rattle.eu_base.specs.declared.value.Kind.TheVariants as kinds
use Rattle.eu_base.specs.declared.value.Value.{Value}
use Rattle.eu_base.specs.declared.value.Value.TheVariants as item
use Rattle.eu_base.specs.declared.operation.Change.TheVariants.{Increase}
use Rattle.eu_base.specs.declared.operation.Way.{Way}
use Rattle.eu_base.specs.declared.shape.Shape.{Shape}
use Rattle.eu_base.specs.declared.shape.Shape.TheVariants.{Cell}
use Rattle.eu_base.specs.declared.stop.Stop.TheVariants.{TextRoom, NoSpace}
use Rattle.eu_base.specs.Room.{values_blocks, texts_fit}
use Rattle.eu_base.specs.Values.{IsOf, number_of, truth_of}
use Rattle.eu_base.specs.Operations.{has_reached, next_number}
use Rattle.eu_base.specs.Cells.{Cells, held_of, run_cell, written}
use Rattle.code_form.specs.Machine.{Mem, with_cells, if_there as looks, move_stage}
use Rattle.code_form.specs.declared.operand.Operand.{Operand}
use Rattle.code_form.specs.declared.operand.Operand.TheVariants.{Value as Of}
use Rattle.code_form.specs.declared.operand.OperandKind.{OperandKind}
use Rattle.code_form.specs.declared.instr.Instr.TheVariants.{Mark, Number, Modify, Jump, False, Step}
use Rattle.code_form.specs.declared.code.Spot.{Spot}
use Rattle.code_form.specs.Program.{Program, line_of}
use Rattle.code_form.specs.Valid.{cell_value}
use Rattle.code_form.specs.Machine.{Frame, Position, Move, To, free, Goes, Spends, at, on_number, limit_cell, step}
use Rattle.elan_types.specs.declared.core_phrase.Exit.{Exit as Exit'}
use Rattle.elan_types.specs.Eval.{slots_in, Place, Slot, World, Outcome, Gives, Stopped, bind, branch, fetch, the, assign, save, store_blocks, deliver, holding_place, modify, Calls, Run, turns}
use Rattle.elan_types.specs.Eval.{is_there, load, while_true, until_true, then_on, done, turn, go_on, forever, step as step_on, step_to, step_from}
use Rattle.elan_types.specs.Command.{Ending}
use Rattle.place_gen.specs.Stretch.{Stretch, PlaceCode, never_code, none, one, pushes, join, Exit, stays, exit_join, while_code, until_code, step_code, step_to_code, turn_code, turns_code}
use Rattle.place_gen.specs.Correct.{addr_of, Comes, scene_of}
use Rattle.place_gen.proofs.Spans.{IsFound, found, reads_one, place_fits}
use Rattle.eu_base.specs.declared.address.Area.TheVariants as areas
use Rattle.eu_base.specs.declared.address.TheConstants.{CELLS}
use Rattle.place_gen.proofs.Lines.{HasAt, has_front, has_rest, join_sized}
use Rattle.place_gen.proofs.Cells.{OfLimit, Uses, KeepsIn, Keeps, reads_limit, get_right}
use Rattle.eu_base.proofs.Results.{next_fits, fits_in_range}
use Rattle.place_gen.proofs.Carry.{P, finish, Any, at_one, reach, Ends, Carries, Within, less, Does, does, does_go, there_ends, lead_ends, then_carries, lead_carries, write_ends}
use Rattle.place_gen.proofs.Carry.{branch_carries, none_carries, turns_carries, mark_carries, out_carries, one_then, here, ends_at}
use Rattle.place_gen.proofs.Forms.{keep, keep_place, IsValue, IsPlace, IsAction, number_is}
use Rattle.place_gen.proofs.Choices.{modify_carries}

module _ (p : Program) (body : Option ℕ) where
  -- where the run goes on the code goes on behind, and else it goes to the end of the loop
  abbrev pub Parts : Uses → Option ℕ → ℕ → Position → ℕ → List Operand → ℕ → (World → Outcome Bool) → Position → Type 0
  Parts L home b c q ops end run from = Carries p L home c.frames Any b from run (λ on. cond on (at c q ops) (at c end ops))

  -- a part of a turn, where the limits are such
  pub record IsExit (L : Uses → Type 0) (run : Run Bool) (f : Exit) : Type 0 where
    pub sized : (end : ℕ) (ks : List OperandKind) (m : Spot) (pc : ℕ) → length (f.lines end ks m pc) ≡ f.size
    pub goes : (calls : Calls) (n b pc end : ℕ) (U : Uses) (ks : List OperandKind) (m : Spot) (c : Position) (ops : List Operand) → m.body ≡ body
        → Within p calls n b U m c → L U → HasAt p.lines pc (f.lines end ks m pc)
        → Parts U m.body b c (pc + f.size) ops end (run (reach calls n c ops)) (at c pc ops)

  exits_at : {U : Uses} {home : Option ℕ} (b : ℕ) (c : Position) (m n : ℕ) (ops : List Operand) (end : ℕ) (run : World → Outcome Bool) (from : Position) → m ≡ n
      → Parts U home b c m ops end run from → Parts U home b c n ops end run from
  exits_at {U} {home} b c m n ops end run from e i = subst (λ n. Parts U home b c n ops end run from) e i

  gives_truth : {U : Uses} {home : Option ℕ} (b : ℕ) (t : Bool) (c : Position) (q : ℕ) (ops : List Operand) (end : ℕ)
      → Parts U home b c q ops end (Gives t) (at c (cond t q end) ops)
  gives_truth b true c q ops end = none_carries p b true (λ on. cond on (at c q ops) (at c end ops)) tt
  gives_truth b false c q ops end = none_carries p b false (λ on. cond on (at c q ops) (at c end ops)) tt

  nothing_exits : (L : Uses → Type 0) → IsExit L (λ r. Gives true) (stays none)
  nothing_exits L = record {
    sized = λ end ks m pc. refl;
    goes =
        λ calls n b pc end U ks m c ops home le l has. let r = reach calls n c ops in
        exits_at b c pc (pc + 0) ops end (Gives true) (at c pc ops) (omega arith) (gives_truth b true c pc ops end);
  }

  pub while_none : (L : Uses → Type 0) → IsExit L (while_true None) (while_code None)
  while_none L = nothing_exits L

  pub until_none : (L : Uses → Type 0) → IsExit L (until_true None) (until_code None)
  until_none L = nothing_exits L

  pub go_on_is : (L : Uses → Type 0) → IsExit L go_on (stays none)
  go_on_is L = nothing_exits L

  pub while_some : {t : Run (List Value)} {f : Stretch} (L : Uses → Type 0) → IsValue p body (Cell kinds.Truth) t f
      → IsExit L (while_true (Some t)) (while_code (Some f))
  while_some {t} {f} L i = record {
    sized = λ end ks m pc. omega (arith, length-append (f.lines ks m pc) (line_of (False end) (f.leaves ks) m ∷ []), i.sized ks m pc);
    goes = λ calls n b pc end U ks m c ops home le l has. let r = reach calls n c ops in
        let q = pc + f.size in
        let to = λ (on : Bool). cond on (at c (q + 1) ops) (at c end ops) in
        let h = has_rest p.lines pc f.size (f.lines ks m pc) _ (i.sized ks m pc) has in
        exits_at b c (q + 1) (pc + (f.size + 1)) ops end (while_true (Some t) r) (at c pc ops) (omega arith)
        (one_then p kinds.Truth b (at c pc ops) (t r) (λ vs. at c q (keep vs ops)) (λ v. Gives (truth_of v)) to
        (i.goes calls n b pc U ks m c ops home le (has_front p.lines pc (f.lines ks m pc) _ has)) (λ v ok.
        lead_carries p b (at c q (Of v ∷ ops)) (at c (cond (truth_of v) (q + 1) end) ops) (Gives (truth_of v)) to
        (λ memory. here p q (False end) (f.leaves ks) m h.0 c (Of v ∷ ops) memory) (gives_truth b (truth_of v) c (q + 1) ops end)));
  }

  pub until_some : {t : Run (List Value)} {f : Stretch} (L : Uses → Type 0) → IsValue p body (Cell kinds.Truth) t f
      → IsExit L (until_true (Some t)) (until_code (Some f))
  until_some {t} {f} L i = record {
    sized =
        λ end ks m pc. omega (
          arith,
          length-append (f.lines ks m pc) (line_of (False (pc + f.size + 1 + 1)) (f.leaves ks) m ∷ (line_of (Jump end) ks m ∷ [])),
          i.sized ks m pc,
        );
    goes = λ calls n b pc end U ks m c ops home le l has. let r = reach calls n c ops in
        let q = pc + f.size in
        let to = λ (on : Bool). cond on (at c (q + 1 + 1) ops) (at c end ops) in
        let h = has_rest p.lines pc f.size (f.lines ks m pc) _ (i.sized ks m pc) has in
        exits_at b c (q + 1 + 1) (pc + (f.size + (1 + 1))) ops end (until_true (Some t) r) (at c pc ops) (omega arith)
        (one_then p kinds.Truth b (at c pc ops) (t r) (λ vs. at c q (keep vs ops)) (λ v. Gives (not (truth_of v))) to
        (i.goes calls n b pc U ks m c ops home le (has_front p.lines pc (f.lines ks m pc) _ has)) (λ v ok.
        lead_carries p b (at c q (Of v ∷ ops)) (at c (cond (truth_of v) (q + 1) (q + 1 + 1)) ops) (Gives (not (truth_of v))) to
        (λ memory. here p q (False (q + 1 + 1)) (f.leaves ks) m h.0 c (Of v ∷ ops) memory)
        (by (truth_of v) b c ops q end (λ memory. here p (q + 1) (Jump end) ks m h.1.0 c ops memory))));
  }
    where
      by : {U : Uses} {home : Option ℕ} (t : Bool) (b : ℕ) (c : Position) (ops : List Operand) (q end : ℕ)
          → ((memory : Mem) → step p (at c (q + 1) ops) memory ≡ Goes (at c end ops) memory)
          → Parts U home b c (q + 1 + 1) ops end (Gives (not t)) (at c (cond t (q + 1) (q + 1 + 1)) ops)
      by true b c ops q end e =
          lead_carries p b (at c (q + 1) ops) (at c end ops) (Gives false) (λ on. cond on (at c (q + 1 + 1) ops) (at c end ops)) e
          (none_carries p b false (λ on. cond on (at c (q + 1 + 1) ops) (at c end ops)) tt)
      by false b c ops q end e = none_carries p b true (λ on. cond on (at c (q + 1 + 1) ops) (at c end ops)) tt

  pub units_are : {x : Run (Unit {0})} {f : Stretch} (L : Uses → Type 0) → IsAction p body x f → IsExit L (done x) (stays f)
  units_are {x} {f} L i = record {
    sized = λ end ks m pc. i.sized ks m pc;
    goes = λ calls n b pc end U ks m c ops home le l has. let r = reach calls n c ops in
        let to = λ (on : Bool). cond on (at c (pc + f.size) ops) (at c end ops) in
        then_carries p b (at c pc ops) (x r) (λ _. at c (pc + f.size) ops) (λ _. Gives true) to (i.goes calls n b pc U ks m c ops home le has)
        (λ _ _. none_carries p b true to tt);
  }

  pub then_exits : {x y : Run Bool} {f g : Exit} {L : Uses → Type 0} → IsExit L x f → IsExit L y g → IsExit L (then_on x y) (exit_join f g)
  then_exits {x} {y} {f} {g} {L} i j = record {
    sized =
        λ end ks m pc. omega (arith, length-append (f.lines end ks m pc) (g.lines end ks m (pc + f.size)), i.sized end ks m pc, j.sized end ks m (pc + f.size));
    goes = λ calls n b pc end U ks m c ops home le l has. let r = reach calls n c ops in
        let q = pc + f.size in
        let to = λ (on : Bool). cond on (at c (q + g.size) ops) (at c end ops) in
        exits_at b c (q + g.size) (pc + (f.size + g.size)) ops end (then_on x y r) (at c pc ops) (omega arith)
        (then_carries p b (at c pc ops) (x r) (λ on. cond on (at c q ops) (at c end ops)) (λ on. branch on (y r) (Gives false)) to
        (i.goes calls n b pc end U ks m c ops home le l (has_front p.lines pc (f.lines end ks m pc) _ has)) (λ on _.
        branch_carries p b on (λ t. cond t (at c q ops) (at c end ops)) (y r) (Gives false) to
        (j.goes calls n b q end U ks m c ops home le l (has_rest p.lines pc f.size (f.lines end ks m pc) _ (i.sized end ks m pc) has))
        (none_carries p b false to tt)));
  }

  pub turn_is : (w u : Option (Run (List Value))) {x : Run (Unit {0})} {s : Run Bool} (wf uf : Option Stretch) {f : Stretch} {sf : Exit} {L : Uses → Type 0}
      → IsExit L (while_true w) (while_code wf) → IsAction p body x f → IsExit L (until_true u) (until_code uf) → IsExit L s sf
      → IsExit L (turn w x u s) (turn_code wf f uf sf)
  turn_is w u wf uf {L = L} a b c d = then_exits a (then_exits (units_are L b) (then_exits c d))

  -- the turns of a loop
  pub turns_are : {t : Run Bool} {f : Exit} {L : Uses → Type 0} → IsExit L t f
      → (calls : Calls) (n b pc : ℕ) (U : Uses) (ks : List OperandKind) (m : Spot) (c : Position) (ops : List Operand) → m.body ≡ body
      → Within p calls n b U m c → L U → HasAt p.lines pc ((turns_code f).lines ks m pc)
      → Carries p U m.body c.frames Any b (at c pc ops) (turns n (t (reach calls n c ops))) (λ _. at c (pc + (turns_code f).size) ops)
  turns_are {t} {f} {L} i calls n b pc U ks m c ops home le l has =
      let end = pc + 1 + f.size + 1 in
      let q = pc + 1 + f.size in
      let h = has_rest p.lines (pc + 1) f.size (f.lines end ks m (pc + 1)) _ (i.sized end ks m (pc + 1)) has.1 in
      let top = at c pc ops in
      let exit = at c end ops in
      let r = reach calls n c ops in
      ends_at p b top c (turns n (t r)) end (pc + (1 + (f.size + 1))) (λ _. ops) (omega arith)
      (turns_carries p n b (t r) top (at c (pc + 1) ops) exit (λ memory. here p pc Mark ks m has.0 c ops memory) (λ b' lb.
      jumps_back {U = U} {home = m.body} {fs = c.frames} b' (at c (pc + 1) ops) (at c q ops) top exit (t r) (λ memory. here p q (Jump pc) ks m h.0 c ops memory)
      (i.goes calls n b' (pc + 1) end U ks m c ops home (less p le lb) l (has_front p.lines (pc + 1) (f.lines end ks m (pc + 1)) _ has.1))) le.turns)
    where
      back : {U : Uses} (b : ℕ) (mid top exit : Position) (k : Bool → World → Ending) → ((memory : Mem) → step p mid memory ≡ Goes top memory)
          → ((a : Bool) (w : World) → Any U a → w.marks ≤ b → Ends p U (cond a top exit) w (k a w)) → (a : Bool) (w : World) → w.marks ≤ b
          → Ends p U (cond a mid exit) w (k a w)
      back {U} b mid top exit k e hk true w le = lead_ends p U mid top w _ e (hk true w tt le)
      back {U} b mid top exit k e hk false w le = hk false w tt le

      jumps_back : {U : Uses} {home : Option ℕ} {fs : List Frame} (b : ℕ) (from mid top exit : Position) (t : World → Outcome Bool)
          → ((memory : Mem) → step p mid memory ≡ Goes top memory) → Carries p U home fs Any b from t (λ on. cond on mid exit)
          → Carries p U home fs Any b from t (λ on. cond on top exit)
      jumps_back b from mid top exit t e i = record { by = λ k l hk hl w le. i.by k l (λ a w _ le. back b mid top exit k e hk a w le) hl w le }

  pub turns_sized : {t : Run Bool} {f : Exit} {L : Uses → Type 0} → IsExit L t f → (ks : List OperandKind) (m : Spot) (pc : ℕ)
      → length ((turns_code f).lines ks m pc) ≡ (turns_code f).size
  turns_sized {t} {f} i ks m pc =
      let end = pc + 1 + f.size + 1 in
      omega (arith, length-append (f.lines end ks m (pc + 1)) (line_of (Jump pc) ks m ∷ []), i.sized end ks m (pc + 1))

  pub loop_is : {t : Run Bool} {f : Exit} → IsExit (λ _. Unit {0}) t f → IsAction p body (λ r. turns r.turns (t r)) (turns_code f)
  loop_is {t} {f} i = record {
    sized = λ ks m pc. turns_sized i ks m pc;
    goes = λ calls n b pc U ks m c ops home le has. turns_are i calls n b pc U ks m c ops home le tt has;
  }

  -- turns without end deliver nothing
  abbrev Nothing : Uses → Unit {0} → Type 0
  Nothing U u = ⊥

  forever_carries : {U : Uses} {home : Option ℕ} {fs : List Frame} (m b : ℕ) (top back exit : Position)
      → ((memory : Mem) → step p top memory ≡ Spends (To back memory)) → ((memory : Mem) → step p back memory ≡ Goes top memory) → b ≤ m
      → Carries p U home fs Nothing b top (turns m (Gives true)) (λ _. exit)
  forever_carries zero b top back exit e f le = out_carries p b top (λ memory. To back memory) (λ _. exit) le e
  forever_carries (suc m) b top back exit e f le =
      mark_carries p b top back (turns m (Gives true)) (λ _. exit) e (λ b' lt.
      lead_carries p b' back top (turns m (Gives true)) (λ _. exit) f (forever_carries m b' top back exit e f (omega arith)))

  pub never_is : (s : Shape) → IsValue p body s (λ r w. bind (forever r w) (λ _. Gives [])) (never_code s)
  never_is s = record {
    sized = λ ks m pc. refl;
    goes = λ calls n b pc U ks m c ops home le has.
        let top = at c pc ops in
        let exit = at c (pc + (1 + 1)) (keep [] ops) in
        then_carries p b top (forever (reach calls n c ops)) (λ _. exit) (λ _. Gives []) (λ vs. at c (pc + (1 + 1)) (keep vs ops))
        (forever_carries n b top (at c (pc + 1) ops) exit (λ memory. here p pc Mark ks m has.0 c ops memory)
        (λ memory. here p (pc + 1) (Jump pc) ks m has.1.0 c ops memory) le.turns) (λ u bad. absurd bad);
  }

  -- the step of a counter without limit
  pub step_is : (L : Uses → Type 0) {q : Run Place} (x : PlaceCode) → IsPlace p body (Cell kinds.Int) q (x (Cell kinds.Int)) → IsExit L (step_on q) (step_code x)
  step_is L {q} x j =
      let one_fits : IsOf kinds.Int (item.Int (pos 1)) = fits_in_range (pos 1) refl in
      let f = x (Cell kinds.Int) in
      let g = one (Number (pos 1)) (pushes (cell_value kinds.Int)) in
      let h = one (Modify Increase) (drop 2) in
      let i = number_is p body (pos 1) one_fits in record {
        sized = λ end ks m pc. join_sized f (join g h) j.sized (join_sized g h (λ ks m pc. refl) (λ ks m pc. refl)) ks m pc;
        goes = λ calls n b pc end U ks m c ops home le l has. let r = reach calls n c ops in
            let z = pc + f.size in
            let to = λ (on : Bool). cond on (at c (z + 1 + 1) ops) (at c end ops) in
            let rest = has_rest p.lines pc f.size (f.lines ks m pc) _ (j.sized ks m pc) has in
            exits_at b c (z + 1 + 1) (pc + (f.size + (1 + 1))) ops end (step_on q r) (at c pc ops) (omega arith)
            (then_carries p b (at c pc ops) (q r) (λ x. at c z (keep_place x ops))
            (λ x w. bind (deliver (item.Int (pos 1) ∷ []) (holding_place r) w) (λ vs. modify Increase x (the vs) true)) to
            (j.goes calls n b pc U ks m c ops home le (has_front p.lines pc (f.lines ks m pc) _ has)) (λ x at_x.
            one_then p kinds.Int b (at c z (keep_place x ops)) (deliver (item.Int (pos 1) ∷ []) (holding_place r))
            (λ vs. at c (z + 1) (keep vs (keep_place x ops))) (λ v. modify Increase x v true) to
            (i.goes calls n b z U (f.leaves ks) m c (keep_place x ops) home le (rest.0, tt)) (λ v ok.
            modify_carries p body Increase x v true b (z + 1) (cell_value kinds.Int ∷ f.leaves ks) m c ops to refl
            le.stands.packets le.stands.room (at_one (P p) kinds.Int U x at_x) rest.1)));
      }

  -- the last cell in use keeps this limit
  abbrev pub Under : ℤ → Uses → Type 0
  Under limit U = (below : Uses) × (U ≡ below ++ OfLimit limit ∷ [])

  pub number_fits : (v : Value) → IsOf kinds.Int v → FitsSigned w16 (number_of v)
  number_fits (item.Int z) h = h
  number_fits (item.Truth b) h = absurd h
  number_fits (item.Text t) h = absurd h
  number_fits (item.Task n) h = absurd h
  number_fits (item.Space s) h = absurd h

  -- the limit is read out of its cell
  limit_read : (limit : ℤ) (U : Uses) (c : Position) (store : List Slot) (cells : Cells) (go : ℤ → Move) → Under limit U → c.used ≡ length U
      → KeepsIn areas.Run (P p) U store cells → on_number (limit_cell c cells) go ≡ go limit
  limit_read limit U c store cells go l used h =
      let n : c.used - 1 ≡ length l.0 = omega (arith, used, ap length l.1, length-append l.0 (OfLimit limit ∷ [])) in
      let is : slice_get U (length l.0) ≡ Some (OfLimit limit) =
      ap (λ U. slice_get U (length l.0)) l.1
      ∙ (let e : length l.0 ≡ length l.0 + 0 = omega arith in ap (slice_get (l.0 ++ OfLimit limit ∷ [])) e ∙ get_right l.0 (OfLimit limit ∷ []) 0) in
      ap (λ n. on_number (cells (run_cell n)) go) n ∙ reads_limit (P p) U store cells (length l.0) limit go h is

  stepped : {U : Uses} (t : Bool) (way : Way) (limit z : ℤ) (x : Place) (b : ℕ) (c next exit : Position) (k : Bool → World → Ending)
      (l : Exit' → Option (List Value) → World → Ending) → ((a : Bool) (w : World) → Any U a → w.marks ≤ b → Ends p U (cond a next exit) w (k a w)) → (w : World)
      → w.marks ≤ b → (memory : Mem) → length (P p) ≤ CELLS → length U ≤ CELLS → Keeps (P p) U w memory
      → IsFound (P p) (kinds.Int ∷ []) U w x → FitsSigned w16 limit → FitsSigned w16 z → has_reached way limit z ≡ t
      → Does p (free c) (scene_of w memory) (cond t (Goes exit memory)
      (Goes next (with_cells (written memory.cells (addr_of x) (held_of (item.Int (next_number way z)))) memory)))
      → Comes p (free c) (scene_of w memory) (finish (branch t (Gives false) (λ w. Gives true (assign x (item.Int (next_number way z) ∷ []) w)) w) k l)
  stepped true way limit z x b c next exit k l hk w le memory few room h is f g t e =
      does_go p (free c) exit (scene_of w memory) memory _ e (hk false w tt le memory h)
  stepped {U} false way limit z x b c next exit k l hk w le memory few room h is f g t e =
      write_ends p c next w x kinds.Int (item.Int (next_number way z)) _ memory few room is (next_fits way limit z f g t) h e
      (hk true (assign x (item.Int (next_number way z) ∷ []) w) tt le)

  pub step_to_is : {q : Run Place} (x : PlaceCode) (way : Way) (limit : ℤ) → IsPlace p body (Cell kinds.Int) q (x (Cell kinds.Int)) → FitsSigned w16 limit
      → IsExit (Under limit) (step_to q way limit) (step_to_code x way)
  step_to_is {q} y way limit j fits =
      let f = y (Cell kinds.Int) in record {
        sized = λ end ks m pc. omega (arith, length-append (f.lines ks m pc) (line_of (Step way end) (f.leaves ks) m ∷ []), j.sized ks m pc);
        goes = λ calls n b pc end U ks m c ops home le l has. let r = reach calls n c ops in
            let q1 = pc + f.size in
            let to = λ (on : Bool). cond on (at c (q1 + 1) ops) (at c end ops) in
            let rest = has_rest p.lines pc f.size (f.lines ks m pc) _ (j.sized ks m pc) has in
            exits_at b c (q1 + 1) (pc + (f.size + 1)) ops end (step_to q way limit r) (at c pc ops) (omega arith)
            (then_carries p b (at c pc ops) (q r) (λ x. at c q1 (keep_place x ops)) (λ x. load kinds.Int x (λ v. step_from x way limit (number_of v))) to
            (j.goes calls n b pc U ks m c ops home le (has_front p.lines pc (f.lines ks m pc) _ has)) (λ x at_x. record {
              by = λ k e hk hl w le' memory h.
                  let now = at c q1 (keep_place x ops) in
                  let next = at c (q1 + 1) ops in
                  let exit = at c end ops in
                  let at_one_x = at_one (P p) kinds.Int U x at_x in
                  let go =
                  λ (lim z : ℤ).
                  cond (has_reached way lim z) (Goes exit memory)
                  (Goes next (with_cells (written memory.cells (addr_of x) (held_of (item.Int (next_number way z)))) memory)) in
                  let looks_on = λ (lim : ℤ). looks (kinds.Int ∷ []) (addr_of x) memory (on_number (memory.cells (addr_of x)) (go lim)) in
                  there_ends p (free now) (kinds.Int ∷ []) x (λ (w : World). step_from x way limit (number_of (fetch x w)) w)
                  (on_number (memory.cells (addr_of x)) (go limit)) k e w memory h
                  (place_fits (P p) (kinds.Int ∷ []) U x le.stands.packets le.stands.room at_one_x)
                  (does p now (scene_of w memory) _ (here p q1 (Step way end) (f.leaves ks) m rest.0 c (keep_place x ops) memory
                  ∙ limit_read limit U now w.store memory.cells looks_on l le.stands.used h.command)) (λ there looked.
                  let z = number_of (fetch x w) in
                  let is = found (P p) (kinds.Int ∷ []) U w x at_one_x there in
                  let read = reads_one (P p) U w memory x kinds.Int (λ v. go limit (number_of v)) h is in
                  let more = reached (has_reached way limit z) x (next_number way z) w there in
                  subst (λ o. Comes p (free now) (scene_of w memory) (finish o k e)) (sym more)
                  (stepped (has_reached way limit z) way limit z x b now next exit k e hk w le' memory le.stands.packets le.stands.room h is fits
                  (number_fits (fetch x w) read.0) refl (looked ∙ ap (λ m. move_stage m (free now) (scene_of w memory)) read.1)));
            }));
      }
    where
      -- it was looked already whether its cell is there, and a number has no text, so its store needs no room
      reached : (t : Bool) (x : Place) (z : ℤ) (w : World) → is_there (kinds.Int ∷ []) x w ≡ true
          → branch t (Gives false) (save x (item.Int z ∷ []) (Gives true)) w ≡ branch t (Gives false) (λ w. Gives true (assign x (item.Int z ∷ []) w)) w
      reached true x z w there = refl
      reached false x z w there =
          let store = λ (n : ℕ) (w : World).
          branch (texts_fit n (store_blocks (slots_in x.area (assign x (item.Int z ∷ []) w)))) (λ w. Gives true (assign x (item.Int z ∷ []) w)) (Stopped TextRoom) w in
          let none : values_blocks (item.Int z ∷ []) ≡ 0 = omega arith in
          ap (λ (t : Bool). branch t (store (values_blocks (item.Int z ∷ []))) (Stopped NoSpace) w) there ∙ ap (λ n. store n w) none
