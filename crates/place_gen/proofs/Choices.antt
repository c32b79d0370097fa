-- What choices, units and changes do, whatever their parts are.
use Rattle.std.proofs.Common.{◌≡◌, ℕ, suc, ◌+◌, ◌≤◌, List, [], ◌∷◌, ◌++◌, length, drop, Option, Bool, true, false, cond, ◌||◌, refl, ap, ◌∙◌, subst, arith}
use Rattle.std.proofs.Common.{length-append}
use Rattle.std.specs.Prelude.{Ok, Err, ℤ}
use Rattle.std.specs.Ordering.{int_eq}
use Rattle.eu_base.specs.declared.address.TheConstants.{CELLS}
use Rattle.eu_base.specs.declared.value.Kind.{Kind}
use Rattle.eu_base.specs.declared.value.Kind.TheVariants as kinds
use Rattle.eu_base.specs.declared.value.Value.{Value}
use Rattle.eu_base.specs.declared.shape.Shape.TheVariants.{Cell}
use Rattle.eu_base.specs.declared.stop.Stop.TheVariants.{Own}
use Rattle.eu_base.specs.declared.operation.Change.{Change}
use Rattle.eu_base.specs.Values.{IsOf, number_of, truth_of, text_of}
use Rattle.eu_base.specs.Operations.{Given, change_kind, changed}
use Rattle.code_form.specs.declared.operand.Operand.{Operand}
use Rattle.code_form.specs.declared.operand.Operand.TheVariants.{Value as Of}
use Rattle.code_form.specs.declared.operand.OperandKind.{OperandKind}
use Rattle.code_form.specs.declared.instr.Instr.TheVariants.{Mark, Modify, Jump, False, When, Drop, ErrorStop}
use Rattle.code_form.specs.declared.code.Spot.{Spot}
use Rattle.code_form.specs.Program.{Program, line_of}
use Rattle.code_form.specs.Machine.{Mem, Position, free, Goes, at, on_cell, or_halt, puts, move_stage, step}
use Rattle.elan_types.specs.declared.core_phrase.Exit.{Exit}
use Rattle.elan_types.specs.Eval.{Place, World, Outcome, Gives, Stopped, bind, spend, branch, or_stop, fetch, the, assign, save, modify, holding_place}
use Rattle.elan_types.specs.Eval.{Calls, Run, holds}
use Rattle.elan_types.specs.Command.{Ending}
use Rattle.place_gen.specs.Stretch.{Stretch, one, keeps, join, if_code, whens, arm_code}
use Rattle.place_gen.specs.Correct.{addr_of, Comes, scene_of}
use Rattle.place_gen.proofs.Spans.{found, reads_one, place_fits}
use Rattle.place_gen.proofs.Lines.{HasAt, has_front, has_rest, join_sized}
use Rattle.place_gen.proofs.Cells.{Uses, AtPlace, Keeps}
use Rattle.eu_base.proofs.Results.{changed_gives}
use Rattle.place_gen.proofs.Carry.{P, finish, Any, at_one, reach, Ends, Carries, Within, less, stop_comes, refuse_ends, lead_carries, carries_lead}
use Rattle.place_gen.proofs.Carry.{Does, does, there_ends, put_ends, branch_carries, mark_carries, one_then, here, ends_at, join_carries, join_one}
use Rattle.place_gen.proofs.Forms.{keep, keep_place, Is, IsValue, IsPlace, IsAction}

module _ (p : Program) (body : Option ℕ) where
  pub if_is : {A : Type 0} {Good : Uses → A → Type 0} {push : A → List Operand → List Operand} {t : Run (List Value)} {x y : Run A} {f g h : Stretch}
      → IsValue p body (Cell kinds.Truth) t f → Is p body Good push x g → Is p body Good push y h
      → Is p body Good push (λ r w. bind (t r w) (λ vs. branch (truth_of (the vs)) (x r) (y r))) (if_code f g h)
  if_is {A} {Good} {push} {t} {x} {y} {f} {g} {h} i j k = record {
    sized = λ ks m pc.
        let p1 = pc + f.size in
        let p2 = p1 + 1 + g.size in
        let b = line_of (Jump (p2 + 1 + h.size)) (g.leaves ks) m ∷ h.lines ks m (p2 + 1) in
        omega (
          arith,
          length-append (f.lines ks m pc) (line_of (False (p2 + 1)) (f.leaves ks) m ∷ (g.lines ks m (p1 + 1) ++ b)),
          length-append (g.lines ks m (p1 + 1)) b,
          i.sized ks m pc,
          j.sized ks m (p1 + 1),
          k.sized ks m (p2 + 1),
        );
    goes = λ calls n b pc L ks m c ops home le has. let r = reach calls n c ops in
        let p1 = pc + f.size in
        let p2 = p1 + 1 + g.size in
        let p3 = p2 + 1 + h.size in
        let h1 = has_rest p.lines pc f.size (f.lines ks m pc) _ (i.sized ks m pc) has in
        let h2 = has_rest p.lines (p1 + 1) g.size (g.lines ks m (p1 + 1)) _ (j.sized ks m (p1 + 1)) h1.1 in
        let to = λ (a : _). at c p3 (push a ops) in
        let run = λ (v : Value). branch (truth_of v) (x r) (y r) in
        ends_at p b (at c pc ops) c (λ w. bind (t r w) (λ vs. run (the vs))) p3 (pc + (f.size + (1 + (g.size + (1 + h.size))))) (λ a. push a ops) (omega arith)
        (one_then p kinds.Truth b (at c pc ops) (t r) (λ vs. at c p1 (keep vs ops)) run to
        (i.goes calls n b pc L ks m c ops home le (has_front p.lines pc (f.lines ks m pc) _ has)) (λ v ok.
        lead_carries p b (at c p1 (Of v ∷ ops)) (at c (cond (truth_of v) (p1 + 1) (p2 + 1)) ops) (run v) to
        (λ memory. here p p1 (False (p2 + 1)) (f.leaves ks) m h1.0 c (Of v ∷ ops) memory)
        (branch_carries p b (truth_of v) (λ t. at c (cond t (p1 + 1) (p2 + 1)) ops) (x r) (y r) to
        (carries_lead p b (at c (p1 + 1) ops) (x r) (λ a. at c p2 (push a ops)) to (λ a memory. here p p2 (Jump p3) (g.leaves ks) m h2.0 c (push a ops) memory)
        (j.goes calls n b (p1 + 1) L ks m c ops home le (has_front p.lines (p1 + 1) (g.lines ks m (p1 + 1)) _ h1.1)))
        (k.goes calls n b (p2 + 1) L ks m c ops home le h2.1))));
  }

  -- the code chooses by the number on top, and takes it
  pub record IsChoice {A : Type 0} (Good : Uses → A → Type 0) (push : A → List Operand → List Operand) (run : ℤ → Run A) (f : Stretch) : Type 0 where
    pub sized : (ks : List OperandKind) (m : Spot) (pc : ℕ) → length (f.lines ks m pc) ≡ f.size
    pub goes : (calls : Calls) (n b pc : ℕ) (L : Uses) (ks : List OperandKind) (m : Spot) (c : Position) (v : Value) (ops : List Operand) → m.body ≡ body
        → Within p calls n b L m c → HasAt p.lines pc (f.lines ks m pc)
        → Carries p L m.body c.frames Good b (at c pc (Of v ∷ ops)) (run (number_of v) (reach calls n c ops)) (λ a. at c (pc + f.size) (push a ops))

  pub otherwise_is : {A : Type 0} {Good : Uses → A → Type 0} {push : A → List Operand → List Operand} {x : Run A} {f : Stretch} → Is p body Good push x f
      → IsChoice Good push (λ z. x) (join (one Drop (drop 1)) f)
  otherwise_is {A} {Good} {push} {x} {f} i = record {
    sized = join_sized (one Drop (drop 1)) f (λ ks m pc. refl) i.sized;
    goes = λ calls n b pc L ks m c v ops home le has. let r = reach calls n c ops in
        ends_at p b (at c pc (Of v ∷ ops)) c (x r) (pc + 1 + f.size) (pc + (1 + f.size)) (λ a. push a ops) (omega arith)
        (lead_carries p b (at c pc (Of v ∷ ops)) (at c (pc + 1) ops) (x r) (λ a. at c (pc + 1 + f.size) (push a ops))
        (λ memory. here p pc Drop ks m has.0 c (Of v ∷ ops) memory) (i.goes calls n b (pc + 1) L (drop 1 ks) m c ops home le has.1));
  }

  whens_carry : {L : Uses} {A : Type 0} {Good : Uses → A → Type 0} (zs : List ℤ) (a b q : ℕ) (ks : List OperandKind) (m : Spot) (c : Position) (v : Value)
      (ops : List Operand) (x y : World → Outcome A) (to : A → Position) → HasAt p.lines q (whens zs a ks m)
      → Carries p L m.body c.frames Good b (at c a ops) x to → Carries p L m.body c.frames Good b (at c (q + length zs) (Of v ∷ ops)) y to
      → Carries p L m.body c.frames Good b (at c q (Of v ∷ ops)) (branch (holds zs (number_of v)) x y) to
  whens_carry {L} {A} {Good} [] a b q ks m c v ops x y to has i j =
      let e : q + 0 ≡ q = omega arith in subst (λ n. Carries p L m.body c.frames Good b (at c n (Of v ∷ ops)) y to) e j
  whens_carry {L} {A} {Good} (z ∷ zs) a b q ks m c v ops x y to has i j =
      let e : q + length (z ∷ zs) ≡ q + 1 + length zs = omega arith in
      by (int_eq (number_of v) z) (λ memory. here p q (When z a) ks m has.0 c (Of v ∷ ops) memory)
      (whens_carry zs a b (q + 1) ks m c v ops x y to has.1 i (subst (λ n. Carries p L m.body c.frames Good b (at c n (Of v ∷ ops)) y to) e j))
    where
      by : (t : Bool) → ((memory : Mem) → step p (at c q (Of v ∷ ops)) memory ≡ cond t (Goes (at c a ops) memory) (Goes (at c (q + 1) (Of v ∷ ops)) memory))
          → Carries p L m.body c.frames Good b (at c (q + 1) (Of v ∷ ops)) (branch (holds zs (number_of v)) x y) to
          → Carries p L m.body c.frames Good b (at c q (Of v ∷ ops)) (branch (t || holds zs (number_of v)) x y) to
      by true e k = lead_carries p b (at c q (Of v ∷ ops)) (at c a ops) x to e i
      by false e k = lead_carries p b (at c q (Of v ∷ ops)) (at c (q + 1) (Of v ∷ ops)) (branch (holds zs (number_of v)) x y) to e k

  whens_sized : (zs : List ℤ) (a : ℕ) (ks : List OperandKind) (m : Spot) → length (whens zs a ks m) ≡ length zs
  whens_sized [] a ks m = refl
  whens_sized (z ∷ zs) a ks m = ap suc (whens_sized zs a ks m)

  pub arm_is : {A : Type 0} {Good : Uses → A → Type 0} {push : A → List Operand → List Operand} {x : Run A} {y : ℤ → Run A} {f g : Stretch} (zs : List ℤ)
      → Is p body Good push x f → IsChoice Good push y g → IsChoice Good push (λ z r w. branch (holds zs z) (x r) (y z r) w) (arm_code zs f g)
  arm_is {A} {Good} {push} {x} {y} {f} {g} zs i j = record {
    sized = λ ks m pc.
        let p1 = pc + length zs in
        let p2 = p1 + 1 + f.size in
        let b = line_of (Jump (p2 + 1 + g.size)) (f.leaves (drop 1 ks)) m ∷ g.lines ks m (p2 + 1) in
        omega (
          arith,
          length-append (whens zs (p1 + 1) ks m) (line_of (Jump (p2 + 1)) ks m ∷ (f.lines (drop 1 ks) m (p1 + 1) ++ b)),
          length-append (f.lines (drop 1 ks) m (p1 + 1)) b,
          whens_sized zs (p1 + 1) ks m,
          i.sized (drop 1 ks) m (p1 + 1),
          j.sized ks m (p2 + 1),
        );
    goes = λ calls n b pc L ks m c v ops home le has. let r = reach calls n c ops in
        let p1 = pc + length zs in
        let p2 = p1 + 1 + f.size in
        let p3 = p2 + 1 + g.size in
        let h1 = has_rest p.lines pc (length zs) (whens zs (p1 + 1) ks m) _ (whens_sized zs (p1 + 1) ks m) has in
        let h2 = has_rest p.lines (p1 + 1) f.size (f.lines (drop 1 ks) m (p1 + 1)) _ (i.sized (drop 1 ks) m (p1 + 1)) h1.1 in
        let to = λ (a : _). at c p3 (push a ops) in
        ends_at p b (at c pc (Of v ∷ ops)) c (branch (holds zs (number_of v)) (x r) (y (number_of v) r)) p3 (pc + (length zs + (1 + (f.size + (1 + g.size)))))
        (λ a. push a ops) (omega arith)
        (whens_carry zs (p1 + 1) b pc ks m c v ops (x r) (y (number_of v) r) to (has_front p.lines pc (whens zs (p1 + 1) ks m) _ has)
        (carries_lead p b (at c (p1 + 1) ops) (x r) (λ a. at c p2 (push a ops)) to
        (λ a memory. here p p2 (Jump p3) (f.leaves (drop 1 ks)) m h2.0 c (push a ops) memory)
        (i.goes calls n b (p1 + 1) L (drop 1 ks) m c ops home le (has_front p.lines (p1 + 1) (f.lines (drop 1 ks) m (p1 + 1)) _ h1.1)))
        (lead_carries p b (at c p1 (Of v ∷ ops)) (at c (p2 + 1) (Of v ∷ ops)) (y (number_of v) r) to
        (λ memory. here p p1 (Jump (p2 + 1)) ks m h1.0 c (Of v ∷ ops) memory) (j.goes calls n b (p2 + 1) L ks m c v ops home le h2.1)));
  }

  pub select_is : {A : Type 0} {Good : Uses → A → Type 0} {push : A → List Operand → List Operand} {t : Run (List Value)} {y : ℤ → Run A}
      {f g : Stretch} → IsValue p body (Cell kinds.Int) t f → IsChoice Good push y g
      → Is p body Good push (λ r w. bind (t r w) (λ vs. y (number_of (the vs)) r)) (join f g)
  select_is {A} {Good} {push} {t} {y} {f} {g} i j = record {
    sized = join_sized f g i.sized j.sized;
    goes =
        λ calls n b pc L ks m c ops home le has. let r = reach calls n c ops in
        join_one p kinds.Int f g b pc ks m c ops ops (t r) (λ v. y (number_of v) r) (λ a. push a ops) i.sized has
        (λ h. i.goes calls n b pc L ks m c ops home le h) (λ h v ok. j.goes calls n b (pc + f.size) L (f.leaves ks) m c v ops home le h);
  }

  -- a mark before a phrase
  pub unit_is : {A : Type 0} {Good : Uses → A → Type 0} {push : A → List Operand → List Operand} {x : Run A} {f : Stretch} → Is p body Good push x f
      → Is p body Good push (λ r. spend (x r)) (join (one Mark keeps) f)
  unit_is {A} {Good} {push} {x} {f} i = record {
    sized = join_sized (one Mark keeps) f (λ ks m pc. refl) i.sized;
    goes = λ calls n b pc L ks m c ops home le has. let r = reach calls n c ops in
        ends_at p b (at c pc ops) c (spend (x r)) (pc + 1 + f.size) (pc + (1 + f.size)) (λ a. push a ops) (omega arith)
        (mark_carries p b (at c pc ops) (at c (pc + 1) ops) (x r) (λ a. at c (pc + 1 + f.size) (push a ops)) (λ memory. here p pc Mark ks m has.0 c ops memory)
        (λ b' lt. i.goes calls n b' (pc + 1) L ks m c ops home (less p le (omega arith)) has.1));
  }

  -- a change, at the instruction
  modified : {A : Type 0} {L : Uses} (g : Given) (kind : Kind) (x : Place) (a : A) (c : Position) (ops : List Operand) (w : World) (memory : Mem)
      (k : A → World → Ending) (l : Exit → Option (List Value) → World → Ending) → length (P p) ≤ CELLS → length L ≤ CELLS
      → AtPlace (P p) (kind ∷ []) L x → ((v : Value) → g ≡ Ok v → IsOf kind v) → Keeps (P p) L w memory
      → Does p (free c) (scene_of w memory) (or_halt g (λ v. puts c (addr_of x) v ops memory))
      → ((v : Value) → Ends p L (at c (c.pc + 1) ops) (assign x (v ∷ []) w) (k a (assign x (v ∷ []) w)))
      → Comes p (free c) (scene_of w memory) (finish (or_stop g (λ v. save x (v ∷ []) (Gives a)) w) k l)
  modified {A} {L} (Ok v) kind x a c ops w memory k l few room is gives kept e hk =
      put_ends p (free c) (at c (c.pc + 1) ops) w x kind v (Gives a) k l memory few room is (gives v refl) kept e (hk v)
  modified {A} {L} (Err s) kind x a c ops w memory k l few room is gives kept e hk = stop_comes p L (free c) w s memory kept e

  -- INCR, DECR and CAT where value and place are on top
  pub modify_carries : {A : Type 0} {L : Uses} (change : Change) (x : Place) (v : Value) (a : A) (b q : ℕ) (ks : List OperandKind) (m : Spot) (c : Position)
      (ops : List Operand) (to : A → Position) → to a ≡ at c (q + 1) ops → length (P p) ≤ CELLS → length L ≤ CELLS
      → AtPlace (P p) (change_kind change ∷ []) L x → HasAt p.lines q ((one (Modify change) (drop 2)).lines ks m q)
      → Carries p L m.body c.frames Any b (at c q (Of v ∷ keep_place x ops)) (modify change x v a) to
  modify_carries {A} {L} change x v a b q ks m c ops to to_is few room is has = record {
    by = λ k l hk hl w le memory keeps.
        let kind = change_kind change in
        let now = at c q (Of v ∷ keep_place x ops) in
        let go = λ (y : Value). or_halt (changed change y v) (λ z. puts now (addr_of x) z ops memory) in
        there_ends p (free now) (kind ∷ []) x (λ (w : World). or_stop (changed change (fetch x w) v) (λ z. save x (z ∷ []) (Gives a)) w)
        (on_cell kind (memory.cells (addr_of x)) go) k l w memory keeps (place_fits (P p) (kind ∷ []) L x few room is)
        (does p now (scene_of w memory) _ (here p q (Modify change) ks m has.0 c (Of v ∷ keep_place x ops) memory)) (λ there looked.
        let r = reads_one (P p) L w memory x kind go keeps (found (P p) (kind ∷ []) L w x is there) in
        modified (changed change (fetch x w) v) kind x a now ops w memory k l few room is (λ z e. changed_gives change _ _ z e) keeps
        (looked ∙ ap (λ m. move_stage m (free now) (scene_of w memory)) r.1)
        (λ z. subst (λ d. Ends p L d (assign x (z ∷ []) w) (k a (assign x (z ∷ []) w))) to_is (hk a (assign x (z ∷ []) w) tt le)));
  }

  pub modify_is : {q : Run Place} {t : Run (List Value)} {e f : Stretch} (change : Change) → IsPlace p body (Cell (change_kind change)) q e
      → IsValue p body (Cell (change_kind change)) t f
      → IsAction p body (λ r w. bind (q r w) (λ x w. bind (t (holding_place r) w) (λ vs. modify change x (the vs) tt)))
      (join e (join f (one (Modify change) (drop 2))))
  modify_is {q} {t} {e} {f} change j i =
      let kind = change_kind change in
      let g = one (Modify change) (drop 2) in record {
        sized = join_sized e (join f g) j.sized (join_sized f g i.sized (λ ks m pc. refl));
        goes =
            λ calls n b pc L ks m c ops home le has.
            join_carries p e (join f g) b pc ks m c ops (q (reach calls n c ops))
            (λ x w. bind (t (holding_place (reach calls n c ops)) w) (λ vs. modify change x (the vs) (tt {0}))) (λ x. keep_place x ops) (λ _. ops)
            j.sized has (λ h. j.goes calls n b pc L ks m c ops home le h) (λ h x at_x.
            join_one p kind f g b (pc + e.size) (e.leaves ks) m c (keep_place x ops) (keep_place x ops) (t (reach calls n c (keep_place x ops)))
            (λ v. modify change x v (tt {0})) (λ _. ops) i.sized h
            (λ h. i.goes calls n b (pc + e.size) L (e.leaves ks) m c (keep_place x ops) home le h) (λ h v ok.
            modify_carries change x v (tt {0}) b (pc + e.size + f.size) (f.leaves (e.leaves ks)) m c ops (λ _. at c (pc + e.size + f.size + 1) ops) refl
            le.stands.packets le.stands.room (at_one (P p) kind L x at_x) h));
      }

  -- a stop with a text
  pub error_stop_is : {t : Run (List Value)} {f : Stretch} → IsValue p body (Cell kinds.Text) t f
      → IsAction p body (λ r w. bind (t r w) (λ vs. Stopped (Own (text_of (the vs))))) (join f (one ErrorStop (drop 1)))
  error_stop_is {t} {f} i =
      let g = one ErrorStop (drop 1) in record {
        sized = join_sized f g i.sized (λ ks m pc. refl);
        goes =
            λ calls n b pc L ks m c ops home le has.
            join_one p kinds.Text f g b pc ks m c ops ops (t (reach calls n c ops)) (λ v. Stopped (Own (text_of v))) (λ _. ops) i.sized has
            (λ h. i.goes calls n b pc L ks m c ops home le h) (λ h v ok.
            let q = pc + f.size in record {
              by =
                  λ k l hk hl w le. refuse_ends p L (at c q (Of v ∷ ops)) (at c (q + 1) ops) w (Own (text_of v))
                  (λ memory. here p q ErrorStop (f.leaves ks) m h.0 c (Of v ∷ ops) memory);
            });
      }
