-- What loops with a counter do, whatever their parts are. A limit has a cell meanwhile.
use Rattle.std.proofs.Common.{◌≡◌, ℕ, ◌+◌, ◌-◌, ◌≤◌, List, [], ◌∷◌, ◌++◌, length, drop, Option, Some, None, Bool, true, false, cond, refl, sym, ap, ◌∙◌}
use Rattle.std.proofs.Common.{subst, arith, length-append}
use Rattle.std.specs.Prelude.{ℤ, pos}
use Rattle.std.proofs.lemmas.Bool.{leb-true}
use Rattle.std.specs.Int.{w16}
use Rattle.std.specs.Int.RustNames.{FitsSigned}
use Rattle.eu_base.specs.declared.address.TheConstants.{CELLS}
use Rattle.eu_base.specs.declared.value.Kind.{Kind}
use Rattle.eu_base.specs.declared.value.Kind.TheVariants as kinds
use Rattle.eu_base.specs.declared.value.Value.{Value}
use Rattle.eu_base.specs.declared.value.Value.TheVariants as item
use Rattle.eu_base.specs.declared.shape.Shape.TheVariants.{Cell}
use Rattle.eu_base.specs.declared.stop.Stop.TheVariants.{CellRoom, NoSpace}
use Rattle.eu_base.specs.declared.operation.Way.{Way}
use Rattle.eu_base.specs.Room.{cells_fit}
use Rattle.eu_base.specs.Values.{IsOf, number_of}
use Rattle.eu_base.specs.Operations.{is_past}
use Rattle.code_form.specs.Machine.{Mem, Move, with_cells, if_there as looks, move_stage}
use Rattle.eu_base.specs.Cells.{held_of, run_cell, written, forgotten, without}
use Rattle.code_form.specs.declared.operand.Operand.{Operand}
use Rattle.code_form.specs.declared.operand.Operand.TheVariants.{Value as Of}
use Rattle.code_form.specs.declared.operand.OperandKind.{OperandKind}
use Rattle.code_form.specs.declared.instr.Instr.TheVariants.{Limit, Unlimit}
use Rattle.code_form.specs.declared.code.Spot.{Spot}
use Rattle.code_form.specs.Program.{Program, line_of, deeper}
use Rattle.code_form.specs.Machine.{Position, Control, free, Goes, Halts, Unknown, at, using, on_cell, is_free, base_of, step}
use Rattle.elan_types.specs.declared.core_phrase.Exit.{Exit as Exit'}
use Rattle.elan_types.specs.Eval.{Place, Taken, World, Outcome, Gives, Stopped, bind, branch, fetch, the, holding_place, cut, Calls, Run, turns}
use Rattle.elan_types.specs.Eval.{is_there, if_there, step as step_on, step_to, limited, counted}
use Rattle.elan_types.specs.Command.{Ending}
use Rattle.place_gen.specs.Stretch.{Stretch, PlaceCode, join, Exit, step_code, step_to_code, turns_code, limit_code, counted_code}
use Rattle.place_gen.specs.Correct.{addr_of, Comes, scene_of}
use Rattle.place_gen.proofs.Spans.{found, reads_one, fetch_wider, place_fits, looks_same}
use Rattle.place_gen.proofs.Lines.{HasAt, has_front, has_rest, join_sized}
use Rattle.place_gen.proofs.Cells.{Use, OfValue, OfLimit, Uses, AtPlace, Keeps, get_left, cuts, limit_forgotten, extends_one}
use Rattle.eu_base.proofs.Results.{fits_in_range}
use Rattle.place_gen.proofs.Carry.{P, finish, finish_bind, Any, at_one, reach, Ends, wider, Carries, Stands, Within, with_count, stop_counted, on_step, stop_comes, branch_carries}
use Rattle.place_gen.proofs.Carry.{Does, does, does_go, none_carries, here, ends_at, join_carries, join_one}
use Rattle.place_gen.proofs.Forms.{keep_place, IsValue, IsPlace, IsAction}
use Rattle.place_gen.proofs.Loops.{IsExit, Under, number_fits, turns_are, turns_sized}

module _ (p : Program) (body : Option ℕ) where
  -- with one cell more in use
  stands_wider : (L : Uses) (k : Use) (m : Spot) (c : Position) → cells_fit (c.used + 1) ≡ true → Stands p L m c
      → Stands p (L ++ k ∷ []) (deeper m) (using c (c.used + 1))
  stands_wider L k m c fits h =
      let most : c.used + 1 ≤ CELLS = leb-true (c.used + 1) CELLS fits in record {
        used = omega (arith, h.used, length-append L (k ∷ []));
        room = omega (arith, h.used, length-append L (k ∷ []), most);
        level = λ x k' e. get_left L (k ∷ []) x (OfValue k') (h.level x k' e);
        packets = h.packets;
        frame = λ x u e. get_left L (k ∷ []) (base_of c.frames + x) u (h.frame x u e);
      }

  -- a cell is taken for the limit, where it has room
  taken : {L : Uses} (t : Bool) (c : Position) (w : World) (memory : Mem) (move : Move) (go : World → Outcome (Unit {0})) (k : Unit {0} → World → Ending)
      (l : Exit' → Option (List Value) → World → Ending) → Keeps (P p) L w memory → step p c memory ≡ cond t move (Halts CellRoom)
      → (t ≡ true → Does p (free c) (scene_of w memory) move → Comes p (free c) (scene_of w memory) (finish (go (with_count w)) k l))
      → Comes p (free c) (scene_of w memory) (finish (branch t (λ w. go (with_count w)) (Stopped CellRoom) w) k l)
  taken true c w memory move go k l keeps e h = h refl (does p c (scene_of w memory) move e)
  taken {L} false c w memory move go k l keeps e h = stop_comes p L (free c) w CellRoom memory keeps (does p c (scene_of w memory) (Halts CellRoom) e)

  -- it is looked then whether the counter is there
  counter_there : (L : Uses) (d : Control) (ks : List Kind) (x : Place) (go : World → Outcome (Unit {0})) (f : Unit {0} → World → Outcome (Unit {0})) (move : Move)
      (k : Unit {0} → World → Ending) (l : Exit' → Option (List Value) → World → Ending) (w : World) (memory : Mem) → Keeps (P p) L w memory
      → cells_fit (x.variable + length ks) ≡ true → Does p d (scene_of w memory) (looks ks (addr_of x) memory move)
      → (is_there ks x w ≡ true → Does p d (scene_of w memory) move → Comes p d (scene_of w memory) (finish (bind (go (with_count w)) f) k l))
      → Comes p d (scene_of w memory) (finish (bind (if_there ks x go (with_count w)) f) k l)
  counter_there L d ks x go f move k l w memory h fits does next =
      by (is_there ks x w) refl
      (does ∙ ap (λ (t : Bool). move_stage (cond t move (Halts NoSpace)) d (scene_of w memory)) (looks_same ks x w memory.heads h.spaces.heads fits))
    where
      by : (t : Bool) → is_there ks x w ≡ t → Does p d (scene_of w memory) (cond t move (Halts NoSpace))
          → Comes p d (scene_of w memory) (finish (bind (branch t go (Stopped NoSpace) (with_count w)) f) k l)
      by true e m = next e m
      by false e m = stop_counted p L d w NoSpace memory h m

  -- the cell is given back
  given_back : (L : Uses) (limit : ℤ) (b end : ℕ) (c c1 : Position) (ops : List Operand) (k : Unit {0} → World → Ending) → c1.used ≡ c.used + 1
      → c1.frames ≡ c.frames → c.used ≡ length L
      → ((memory : Mem) → step p (at c1 end ops) memory ≡ Goes (at c (end + 1) ops) (with_cells (without c.used (c.used + 1) memory.cells) memory))
      → ((a : Unit {0}) (w : World) → Any L a → w.marks ≤ b → Ends p L (at c (end + 1) ops) w (k a w)) → (a : Unit {0}) (w : World)
      → Any (L ++ OfLimit limit ∷ []) a → w.marks ≤ b → Ends p (L ++ OfLimit limit ∷ []) (at c1 end ops) w (k tt (cut (length w.store - 1) w))
  given_back L limit b end c c1 ops k e e' used s hk a w good le memory keeps =
      let n : length w.store - 1 ≡ length L = omega (arith, keeps.command.as_many, length-append L (OfLimit limit ∷ [])) in
      let m : c.used + 1 ≡ length (L ++ OfLimit limit ∷ []) = omega (arith, used, length-append L (OfLimit limit ∷ [])) in
      on_step p (at c1 end ops) (at c (end + 1) ops) (scene_of w memory) (with_cells (without c.used (c.used + 1) memory.cells) memory) _ (s memory)
      (hk tt (cut (length w.store - 1) w) tt le (with_cells (without c.used (c.used + 1) memory.cells) memory)
      (cuts forgotten (P p) L (OfLimit limit ∷ []) w memory (length w.store - 1) c.used (c.used + 1) n used m (limit_forgotten (P p) L limit) keeps))

  limit_sized : (way : Way) (ts : Stretch) → ((ks : List OperandKind) (m : Spot) (pc : ℕ) → length (ts.lines ks m pc) ≡ ts.size)
      → (ks : List OperandKind) (m : Spot) (pc : ℕ) → length ((limit_code way ts).lines ks m pc) ≡ (limit_code way ts).size
  limit_sized way ts e ks m pc =
      omega (arith, length-append (ts.lines (drop 2 ks) (deeper m) (pc + 1)) (line_of Unlimit (drop 2 ks) (deeper m) ∷ []), e (drop 2 ks) (deeper m) (pc + 1))

  -- the turns under a limit
  limited_carries : {t : Run Bool} {f : Exit} (way : Way) (v : Value) (x : Place) → IsOf kinds.Int v → IsExit p body (Under p body (number_of v)) t f
      → (calls : Calls) (n b pc : ℕ) (L : Uses) (ks : List OperandKind) (m : Spot) (c : Position) (ops : List Operand) → m.body ≡ body
      → Within p calls n b L m c → AtPlace (P p) (kinds.Int ∷ []) L x → HasAt p.lines pc ((limit_code way (turns_code f)).lines ks m pc)
      → Carries p L m.body c.frames Any b (at c pc (Of v ∷ keep_place x ops)) (limited x way (number_of v) t (reach calls n c ops))
      (λ _. at c (pc + 1 + (turns_code f).size + 1) ops)
  limited_carries {t} {f} way v x ok i calls n b pc L ks m c ops home le at_x has =
      let z = number_of v in
      let ts = turns_code f in
      let end = pc + 1 + ts.size in
      let M = L ++ OfLimit z ∷ [] in
      let r = reach calls n c ops in
      let now = at c pc (Of v ∷ keep_place x ops) in
      let c1 = using c (c.used + 1) in
      let h1 = has_rest p.lines (pc + 1) ts.size (ts.lines (drop 2 ks) (deeper m) (pc + 1)) _ (turns_sized p body i (drop 2 ks) (deeper m) (pc + 1)) has.1 in
      record {
        by = λ k l hk hl w lw memory keeps.
            let used : c.used ≡ length L = le.stands.used in
            let same : length w.store + 1 ≡ c.used + 1 = omega (arith, used, keeps.command.as_many) in
            let now_memory = with_cells (written memory.cells (run_cell c.used) (held_of (item.Int z))) memory in
            let w' = with_count w in
            let goes_on =
            λ (u : Value). Goes (using (at c (cond (is_past way z (number_of u)) end (pc + 1)) ops) (c.used + 1)) now_memory in
            let counter = on_cell kinds.Int (memory.cells (addr_of x)) goes_on in
            let looked = looks (kinds.Int ∷ []) (addr_of x) memory counter in
            let is_free' : is_free (memory.cells (run_cell c.used)) ≡ true =
            ap is_free (keeps.command.beyond c.used (omega (arith, used))) in
            let steps : step p now memory ≡ cond (cells_fit (c.used + 1)) looked (Halts CellRoom) =
            here p pc (Limit way end) ks m has.0 c (Of v ∷ keep_place x ops) memory
            ∙ ap (λ t. cond (cells_fit (c.used + 1)) (cond t looked Unknown) (Halts CellRoom)) is_free' in
            let behind = λ (_ : Unit {0}) (w : World). Gives (tt {0}) (cut (length w.store - 1) w) in
            let tests = λ (w : World). branch (is_past way z (number_of (fetch x w))) (Gives (tt {0})) (turns n (t r)) w in
            let run = λ (w : World). bind (if_there (kinds.Int ∷ []) x tests w) behind in
            let kept : Keeps (P p) M w' now_memory =
            subst (λ n. Keeps (P p) M w' (with_cells (written memory.cells (run_cell n) (held_of (item.Int z))) memory)) (sym used)
            (extends_one (P p) L w memory (OfLimit z) Taken (held_of (item.Int z)) keeps (refl, number_fits p body v ok, refl)) in
            let drops = λ (memory : Mem).
            let n : c.used + 1 - 1 ≡ c.used = omega arith in
            here p end Unlimit (drop 2 ks) (deeper m) h1.0 c1 ops memory
            ∙ ap (λ n. Goes (using (at c (end + 1) ops) n) (with_cells (without n (c.used + 1) memory.cells) memory)) n in
            let fuller = λ (e : cells_fit (c.used + 1) ≡ true) (does : Does p (free now) (scene_of w memory) looked).
            counter_there L (free now) (kinds.Int ∷ []) x tests behind counter k l w memory keeps
            (place_fits (P p) (kinds.Int ∷ []) L x le.stands.packets le.stands.room at_x) does (λ there found_it.
            let is = found (P p) (kinds.Int ∷ []) L w x at_x there in
            let read = reads_one (P p) L w memory x kinds.Int goes_on keeps is in
            let past = is_past way z (number_of (fetch x w)) in
            let same_x : fetch x w' ≡ fetch x w = fetch_wider (P p) L w memory x kinds.Int (Taken ∷ []) keeps is in
            let le' : Within p calls n b M (deeper m) c1 = record { turns = le.turns; stands = stands_wider L (OfLimit z) m c e le.stands; carry = le.carry } in
            let inner =
            branch_carries p {L = M} {body = m.body} {fs = c.frames} b past (λ (t : Bool). at c1 (cond t end (pc + 1)) ops) (Gives (tt {0})) (turns n (t r))
            (λ _. at c1 end ops) (none_carries p b tt (λ _. at c1 end ops) tt)
            (turns_are p body i calls n b (pc + 1) M (drop 2 ks) (deeper m) c1 ops home le' (L, refl)
            (has_front p.lines (pc + 1) (ts.lines (drop 2 ks) (deeper m) (pc + 1)) _ has.1)) in
            let ends =
            inner.by (λ _ w. k tt (cut (length w.store - 1) w)) l (given_back L z b end c c1 ops k refl refl used drops hk)
            (wider p L (OfLimit z ∷ []) (tt, tt) hl) w' lw now_memory kept in
            let all =
            subst (Comes p (free (at c1 (cond past end (pc + 1)) ops)) (scene_of w now_memory))
            (sym (finish_bind (branch past (Gives (tt {0})) (turns n (t r)) w') behind k l)
            ∙ ap (λ (u : Value). finish (bind (branch (is_past way z (number_of u)) (Gives (tt {0})) (turns n (t r)) w') behind) k l) (sym same_x)) ends in
            does_go p (free now) (at c1 (cond past end (pc + 1)) ops) (scene_of w memory) now_memory _
            (found_it ∙ ap (λ m. move_stage m (free now) (scene_of w memory)) read.1) all) in
            subst (λ (n : ℕ). Comes p (free now) (scene_of w memory) (finish (branch (cells_fit n) (λ w. run (with_count w)) (Stopped CellRoom) w) k l)) (sym same)
            (taken (cells_fit (c.used + 1)) now w memory looked run k l keeps steps fuller);
      }

  -- a loop whose counter has its first value, without a limit and with one
  pub counted_none_is : (turn' : Run Bool → Run Bool) (tf : Exit → Exit) (q : Run Place) (x : PlaceCode) (way : Way)
      → IsExit p body (λ _. Unit {0}) (turn' (step_on q)) (tf (step_code x)) → IsAction p body (counted q way None turn') (counted_code x way None tf)
  counted_none_is turn' tf q x way i = record {
    sized = λ ks m pc. turns_sized p body i ks m pc;
    goes = λ calls n b pc L ks m c ops home le has. turns_are p body i calls n b pc L ks m c ops home le tt has;
  }

  pub counted_some_is : {t : Run (List Value)} {f : Stretch} (turn' : Run Bool → Run Bool) (tf : Exit → Exit) (q : Run Place) (y : PlaceCode) (way : Way)
      → IsPlace p body (Cell kinds.Int) q (y (Cell kinds.Int)) → IsValue p body (Cell kinds.Int) t f
      → ((limit : ℤ) → FitsSigned w16 limit → IsExit p body (Under p body limit) (turn' (step_to q way limit)) (tf (step_to_code y way)))
      → IsAction p body (counted q way (Some t) turn') (counted_code y way (Some f) tf)
  counted_some_is {t} {f} turn' tf q y way i' i j =
      let ts = turns_code (tf (step_to_code y way)) in
      let g = limit_code way ts in
      let e = y (Cell kinds.Int) in
      let zero_fits : FitsSigned w16 (pos 0) = fits_in_range (pos 0) refl in
      let g_sized = limit_sized way ts (turns_sized p body (j (pos 0) zero_fits)) in record {
        sized = join_sized e (join f g) i'.sized (join_sized f g i.sized g_sized);
        goes = λ calls n b pc L ks m c ops home le has.
            let r = reach calls n c ops in
            let rest = λ (x : Place) (v : Value). limited x way (number_of v) (turn' (step_to q way (number_of v))) r in
            join_carries p e (join f g) b pc ks m c ops (q r) (λ x w. bind (t (holding_place r) w) (λ vs. rest x (the vs)))
            (λ x. keep_place x ops) (λ _. ops) i'.sized has (λ h. i'.goes calls n b pc L ks m c ops home le h) (λ h x at_x.
            let kp = e.leaves ks in
            let z0 = pc + e.size in
            join_one p kinds.Int f g b z0 kp m c (keep_place x ops) (keep_place x ops) (t (reach calls n c (keep_place x ops))) (rest x) (λ _. ops)
            i.sized h (λ h. i.goes calls n b z0 L kp m c (keep_place x ops) home le h) (λ h v ok.
            let z = z0 + f.size in
            ends_at p b (at c z (Of v ∷ keep_place x ops)) c (rest x v) (z + 1 + ts.size + 1) (z + (1 + (ts.size + 1))) (λ _. ops) (omega arith)
            (limited_carries way v x ok (j (number_of v) (number_fits p body v ok)) calls n b z L (f.leaves kp) m c ops home le (at_one (P p) kinds.Int L x at_x) h)));
      }
