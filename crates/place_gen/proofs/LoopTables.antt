-- The tables of choices and loops agree along each step, whatever their parts are.
use Rattle.std.proofs.Common.{◌≡◌, ℕ, suc, ◌+◌, ◌<◌, List, [], ◌∷◌, ◌++◌, length, drop, Option, Some, None, refl, sym, ap, subst, arith, length-append}
use Rattle.std.specs.Prelude.{slice_get, ℤ, pos}
use Rattle.eu_base.specs.declared.value.Kind.TheVariants as kinds
use Rattle.eu_base.specs.declared.shape.Shape.{Shape}
use Rattle.eu_base.specs.declared.shape.Shape.TheVariants.{Cell}
use Rattle.eu_base.specs.declared.operation.Change.TheVariants.{Increase}
use Rattle.eu_base.specs.declared.operation.Way.{Way}
use Rattle.code_form.specs.declared.operand.OperandKind.{OperandKind}
use Rattle.code_form.specs.declared.instr.Instr.TheVariants.{Mark, Modify, Jump, False, When, Drop, Limit, Unlimit, Step}
use Rattle.code_form.specs.declared.code.Spot.{Spot}
use Rattle.code_form.specs.Program.{Program, line_of, instr_of, deeper}
use Rattle.code_form.specs.Valid.{Next, is_mark, Lands, IsFine, cell_value, cell_place}
use Rattle.place_gen.specs.Stretch.{Stretch, PlaceCode, never_code, one, keeps, pushes, join, if_code, whens, arm_code, Exit, stays, exit_join, while_code, until_code, step_code}
use Rattle.place_gen.specs.Stretch.{step_to_code, turn_code, turns_code, limit_code, counted_code}
use Rattle.place_gen.proofs.Lines.{HasAt, has_front, has_rest, IsSized}
use Rattle.place_gen.proofs.Tables.{Each, each_rest, moved, forth, Table, ValueTable, PlaceTable, ActionTable, above, join_table, one_table, number_table}

module _ (p : Program) (body : Option ℕ) where
  pub if_table : {after : List OperandKind → List OperandKind} {f g h : Stretch} → ValueTable p body (Cell kinds.Truth) f → Table p body keeps after g
      → Table p body keeps after h → Table p body keeps after (if_code f g h)
  if_table {after} {f} {g} {h} i j k = record {
    sized = λ ks m pc.
        let p1 = pc + f.size in
        let p2 = p1 + 1 + g.size in
        let b = line_of (Jump (p2 + 1 + h.size)) (g.leaves ks) m ∷ h.lines ks m (p2 + 1) in
        omega (
          arith,
          length-append (f.lines ks m pc) (line_of (False (p2 + 1)) (f.leaves ks) m ∷ (g.lines ks m (p1 + 1) ++ b)),
          length-append (g.lines ks m (p1 + 1)) b,
          i.sized ks m pc,
          j.sized ks m (p1 + 1),
          k.sized ks m (p2 + 1),
        );
    leaves = k.leaves;
    good = λ pc ks m home has next.
        let p1 = pc + f.size in
        let p2 = p1 + 1 + g.size in
        let p3 = p2 + 1 + h.size in
        let h1 = has_rest p.lines pc f.size (f.lines ks m pc) _ (i.sized ks m pc) has in
        let h2 = has_rest p.lines (p1 + 1) g.size (g.lines ks m (p1 + 1)) _ (j.sized ks m (p1 + 1)) h1.1 in
        let n3 = moved p m _ p3 (after ks) (after ks) (omega arith) refl next in
        let jump = subst (λ l. slice_get p.lines p2 ≡ Some (line_of (Jump p3) l m)) (j.leaves ks) h2.0 in
        let test = subst (λ l. slice_get p.lines p1 ≡ Some (line_of (False (p2 + 1)) l m)) (i.leaves ks) h1.0 in
        let rh = k.good (p2 + 1) ks m home h2.1 n3 in
        let rg = j.good (p1 + 1) ks m home (has_front p.lines (p1 + 1) (g.lines ks m (p1 + 1)) _ h1.1) (Jump p3, jump) in
        let rf = i.good pc ks m home (has_front p.lines pc (f.lines ks m pc) _ has) (False (p2 + 1), test) in
        let fine_test = subst (λ l. IsFine p p1 (False (p2 + 1)) l m) (sym (i.leaves ks)) (ks, refl, rg.0, forth p p1 (p2 + 1) ks m (omega arith) rh.0) in
        let fine_jump = subst (λ l. IsFine p p2 (Jump p3) l m) (sym (j.leaves ks)) (forth p p2 p3 (after ks) m (omega arith) n3) in (
          rf.0,
          each_rest p pc f.size (f.lines ks m pc) _ (i.sized ks m pc) rf.1
              (fine_test, each_rest p (p1 + 1) g.size (g.lines ks m (p1 + 1)) _ (j.sized ks m (p1 + 1)) rg.1 (fine_jump, rh.1)),
        );
  }

  pub otherwise_table : {after : List OperandKind → List OperandKind} {f : Stretch} → Table p body keeps after f
      → Table p body (pushes (cell_value kinds.Int)) after (join (one Drop (drop 1)) f)
  otherwise_table i =
      join_table p body (one_table p body Drop (drop 1) (pushes (cell_value kinds.Int)) keeps (λ ks. refl) (λ pc ks m home n. (kinds.Int, (ks, refl, n)))) i

  whens_sized : (zs : List ℤ) (a : ℕ) (ks : List OperandKind) (m : Spot) → length (whens zs a ks m) ≡ length zs
  whens_sized [] a ks m = refl
  whens_sized (z ∷ zs) a ks m = ap suc (whens_sized zs a ks m)

  whens_fine : (zs : List ℤ) (a pc : ℕ) (ks : List OperandKind) (m : Spot) → HasAt p.lines pc (whens zs a (cell_value kinds.Int ∷ ks) m) → pc + length zs < a
      → Next p.lines (pc + length zs) (cell_value kinds.Int ∷ ks) m → Next p.lines a ks m
      → Next p.lines pc (cell_value kinds.Int ∷ ks) m × Each p pc (whens zs a (cell_value kinds.Int ∷ ks) m)
  whens_fine [] a pc ks m has lt n to = (moved p m (pc + 0) pc (cell_value kinds.Int ∷ ks) (cell_value kinds.Int ∷ ks) (omega arith) refl n, tt)
  whens_fine (z ∷ zs) a pc ks m has lt n to =
      let r = whens_fine zs a (pc + 1) ks m has.1 (omega arith) (moved p m _ _ (cell_value kinds.Int ∷ ks) (cell_value kinds.Int ∷ ks) (omega arith) refl n) to in
      ((When z a, has.0), ((ks, refl, r.0, forth p pc a ks m (omega arith) to), r.1))

  pub arm_table : {after : List OperandKind → List OperandKind} {f g : Stretch} (zs : List ℤ) → Table p body keeps after f
      → Table p body (pushes (cell_value kinds.Int)) after g → Table p body (pushes (cell_value kinds.Int)) after (arm_code zs f g)
  arm_table {after} {f} {g} zs i j = record {
    sized = λ ks m pc.
        let p1 = pc + length zs in
        let p2 = p1 + 1 + f.size in
        let b = line_of (Jump (p2 + 1 + g.size)) (f.leaves (drop 1 ks)) m ∷ g.lines ks m (p2 + 1) in
        omega (
          arith,
          length-append (whens zs (p1 + 1) ks m) (line_of (Jump (p2 + 1)) ks m ∷ (f.lines (drop 1 ks) m (p1 + 1) ++ b)),
          length-append (f.lines (drop 1 ks) m (p1 + 1)) b,
          whens_sized zs (p1 + 1) ks m,
          i.sized (drop 1 ks) m (p1 + 1),
          j.sized ks m (p2 + 1),
        );
    leaves = j.leaves;
    good = λ pc ks m home has next.
        let top = cell_value kinds.Int ∷ ks in
        let p1 = pc + length zs in
        let p2 = p1 + 1 + f.size in
        let p3 = p2 + 1 + g.size in
        let h1 = has_rest p.lines pc (length zs) (whens zs (p1 + 1) top m) _ (whens_sized zs (p1 + 1) top m) has in
        let h2 = has_rest p.lines (p1 + 1) f.size (f.lines ks m (p1 + 1)) _ (i.sized ks m (p1 + 1)) h1.1 in
        let n3 = moved p m _ p3 (after ks) (after ks) (omega arith) refl next in
        let jump = subst (λ l. slice_get p.lines p2 ≡ Some (line_of (Jump p3) l m)) (i.leaves ks) h2.0 in
        let rg = j.good (p2 + 1) ks m home h2.1 n3 in
        let rf = i.good (p1 + 1) ks m home (has_front p.lines (p1 + 1) (f.lines ks m (p1 + 1)) _ h1.1) (Jump p3, jump) in
        let rw' = whens_fine zs (p1 + 1) pc ks m (has_front p.lines pc (whens zs (p1 + 1) top m) _ has) (omega arith) (Jump (p2 + 1), h1.0) rf.0 in
        let fine_jump = subst (λ l. IsFine p p2 (Jump p3) l m) (sym (i.leaves ks)) (forth p p2 p3 (after ks) m (omega arith) n3) in (
          rw'.0,
          each_rest p pc (length zs) (whens zs (p1 + 1) top m) _ (whens_sized zs (p1 + 1) top m) rw'.1 (
            forth p p1 (p2 + 1) top m (omega arith) rg.0,
            each_rest p (p1 + 1) f.size (f.lines ks m (p1 + 1)) _ (i.sized ks m (p1 + 1)) rf.1 (fine_jump, rg.1),
          ),
        );
  }

  -- the tables of a part of a turn, where so many limits are kept, agree and lead on or to the end of the loop
  pub record ExitTable (M : Spot → Type 0) (f : Exit) : Type 0 where
    pub sized : (end : ℕ) (ks : List OperandKind) (m : Spot) (pc : ℕ) → length (f.lines end ks m pc) ≡ f.size
    pub good : (pc end : ℕ) (ks : List OperandKind) (m : Spot) → m.body ≡ body → M m → pc + f.size < end → HasAt p.lines pc (f.lines end ks m pc)
        → Next p.lines (pc + f.size) ks m → Next p.lines end ks m → Next p.lines pc ks m × Each p pc (f.lines end ks m pc)

  pub stays_table : {f : Stretch} (M : Spot → Type 0) → ActionTable p body f → ExitTable M (stays f)
  stays_table M i = record { sized = λ end ks m pc. i.sized ks m pc; good = λ pc end ks m home em lt has next to. i.good pc ks m home has next }

  pub while_table : {f : Stretch} (M : Spot → Type 0) → ValueTable p body (Cell kinds.Truth) f → ExitTable M (while_code (Some f))
  while_table {f} M i = record {
    sized = λ end ks m pc. omega (arith, length-append (f.lines ks m pc) (line_of (False end) (f.leaves ks) m ∷ []), i.sized ks m pc);
    good = λ pc end ks m home em lt has next to.
        let q = pc + f.size in
        let h = has_rest p.lines pc f.size (f.lines ks m pc) _ (i.sized ks m pc) has in
        let test = subst (λ l. slice_get p.lines q ≡ Some (line_of (False end) l m)) (i.leaves ks) h.0 in
        let r = i.good pc ks m home (has_front p.lines pc (f.lines ks m pc) _ has) (False end, test) in
        let fine =
        subst (λ l. IsFine p q (False end) l m) (sym (i.leaves ks))
        (ks, refl, moved p m _ (q + 1) ks ks (omega arith) refl next, forth p q end ks m (omega arith) to) in
        (r.0, each_rest p pc f.size (f.lines ks m pc) (line_of (False end) (f.leaves ks) m ∷ []) (i.sized ks m pc) r.1 (fine, tt));
  }

  pub until_table : {f : Stretch} (M : Spot → Type 0) → ValueTable p body (Cell kinds.Truth) f → ExitTable M (until_code (Some f))
  until_table {f} M i = record {
    sized =
        λ end ks m pc. omega (
          arith,
          length-append (f.lines ks m pc) (line_of (False (pc + f.size + 1 + 1)) (f.leaves ks) m ∷ (line_of (Jump end) ks m ∷ [])),
          i.sized ks m pc,
        );
    good = λ pc end ks m home em lt has next to.
        let q = pc + f.size in
        let h = has_rest p.lines pc f.size (f.lines ks m pc) _ (i.sized ks m pc) has in
        let test = subst (λ l. slice_get p.lines q ≡ Some (line_of (False (q + 1 + 1)) l m)) (i.leaves ks) h.0 in
        let r = i.good pc ks m home (has_front p.lines pc (f.lines ks m pc) _ has) (False (q + 1 + 1), test) in
        let on = moved p m _ (q + 1 + 1) ks ks (omega arith) refl next in
        let fine =
        subst (λ l. IsFine p q (False (q + 1 + 1)) l m) (sym (i.leaves ks)) (ks, refl, (Jump end, h.1.0), forth p q (q + 1 + 1) ks m (omega arith) on) in (
          r.0,
          each_rest p pc f.size (f.lines ks m pc) (line_of (False (q + 1 + 1)) (f.leaves ks) m ∷ (line_of (Jump end) ks m ∷ [])) (i.sized ks m pc) r.1
              (fine, (forth p (q + 1) end ks m (omega arith) to, tt)),
        );
  }

  pub step_table : (M : Spot → Type 0) (x : PlaceCode) → PlaceTable p body (Cell kinds.Int) (x (Cell kinds.Int)) → ExitTable M (step_code x)
  step_table M x i =
      stays_table M (join_table p body i
      (join_table p body (above p body (pushes (cell_place kinds.Int)) (number_table p body (pos 1)))
      (one_table p body (Modify Increase) (drop 2) (λ ks. cell_value kinds.Int ∷ cell_place kinds.Int ∷ ks) keeps (λ ks. refl)
      (λ pc ks m home n. (ks, refl, n)))))

  -- at least one limit is kept
  abbrev pub AtLeastOne : Spot → Type 0
  AtLeastOne m = (n : Spot) × (m ≡ deeper n)

  pub step_to_table : (x : PlaceCode) (way : Way) → PlaceTable p body (Cell kinds.Int) (x (Cell kinds.Int)) → ExitTable AtLeastOne (step_to_code x way)
  step_to_table x way i =
      let f = x (Cell kinds.Int) in record {
        sized = λ end ks m pc. omega (arith, length-append (f.lines ks m pc) (line_of (Step way end) (f.leaves ks) m ∷ []), i.sized ks m pc);
        good = λ pc end ks m home em lt has next to.
            let q = pc + f.size in
            let h = has_rest p.lines pc f.size (f.lines ks m pc) _ (i.sized ks m pc) has in
            let step = subst (λ l. slice_get p.lines q ≡ Some (line_of (Step way end) l m)) (i.leaves ks) h.0 in
            let r = i.good pc ks m home (has_front p.lines pc (f.lines ks m pc) _ has) (Step way end, step) in
            let fine =
            subst (λ l. IsFine p q (Step way end) l m) (sym (i.leaves ks))
            (em.0, em.1, (ks, refl, moved p m _ (q + 1) ks ks (omega arith) refl next, forth p q end ks m (omega arith) to)) in
            (r.0, each_rest p pc f.size (f.lines ks m pc) (line_of (Step way end) (f.leaves ks) m ∷ []) (i.sized ks m pc) r.1 (fine, tt));
      }

  pub then_table : {M : Spot → Type 0} {f g : Exit} → ExitTable M f → ExitTable M g → ExitTable M (exit_join f g)
  then_table {M} {f} {g} i j = record {
    sized =
        λ end ks m pc. omega (arith, length-append (f.lines end ks m pc) (g.lines end ks m (pc + f.size)), i.sized end ks m pc, j.sized end ks m (pc + f.size));
    good = λ pc end ks m home em lt has next to.
        let q = pc + f.size in
        let y =
        j.good q end ks m home em (omega arith) (has_rest p.lines pc f.size (f.lines end ks m pc) _ (i.sized end ks m pc) has)
        (moved p m _ _ ks ks (omega arith) refl next) to in
        let x = i.good pc end ks m home em (omega arith) (has_front p.lines pc (f.lines end ks m pc) _ has) y.0 to in
        (x.0, each_rest p pc f.size (f.lines end ks m pc) (g.lines end ks m q) (i.sized end ks m pc) x.1 y.1);
  }

  pub turn_table : {M : Spot → Type 0} (w u : Option Stretch) {f : Stretch} {s : Exit} → ExitTable M (while_code w) → ActionTable p body f
      → ExitTable M (until_code u) → ExitTable M s → ExitTable M (turn_code w f u s)
  turn_table {M} w u a b c d = then_table a (then_table (stays_table M b) (then_table c d))

  pub turns_size : {f : Exit} {M : Spot → Type 0} → ExitTable M f → IsSized (turns_code f)
  turns_size {f} i ks m pc =
      let end = pc + 1 + f.size + 1 in
      omega (arith, length-append (f.lines end ks m (pc + 1)) (line_of (Jump pc) ks m ∷ []), i.sized end ks m (pc + 1))

  pub turns_good : {M : Spot → Type 0} {f : Exit} → ExitTable M f → (pc : ℕ) (ks : List OperandKind) (m : Spot) → m.body ≡ body → M m
      → HasAt p.lines pc ((turns_code f).lines ks m pc) → Next p.lines (pc + (turns_code f).size) ks m
      → Next p.lines pc ks m × Each p pc ((turns_code f).lines ks m pc)
  turns_good {M} {f} i pc ks m home em has next =
      let end = pc + 1 + f.size + 1 in
      let q = pc + 1 + f.size in
      let h = has_rest p.lines (pc + 1) f.size (f.lines end ks m (pc + 1)) _ (i.sized end ks m (pc + 1)) has.1 in
      let top : Next p.lines pc ks m = (Mark, has.0) in
      let back : Lands p.lines q pc ks m = record { next = top; spaced = λ _. ap (λ l. is_mark (instr_of l)) has.0 } in
      let r =
      i.good (pc + 1) end ks m home em (omega arith) (has_front p.lines (pc + 1) (f.lines end ks m (pc + 1)) _ has.1) (Jump pc, h.0)
      (moved p m _ end ks ks (omega arith) refl next) in
      (top, (r.0, each_rest p (pc + 1) f.size (f.lines end ks m (pc + 1)) (line_of (Jump pc) ks m ∷ []) (i.sized end ks m (pc + 1)) r.1 (back, tt)))

  pub loop_table : {f : Exit} → ExitTable (λ _. Unit {0}) f → ActionTable p body (turns_code f)
  loop_table i = record { sized = turns_size i; leaves = λ ks. refl; good = λ pc ks m home has next. turns_good i pc ks m home tt has next }

  -- a mark and the way back to it: what stands behind may have anything on top
  pub never_table : (s : Shape) → ValueTable p body s (never_code s)
  never_table s = record {
    sized = λ ks m pc. refl;
    leaves = λ ks. refl;
    good = λ pc ks m home has next.
        let top : Next p.lines pc ks m = (Mark, has.0) in
        let back : Lands p.lines (pc + 1) pc ks m = record { next = top; spaced = λ _. ap (λ l. is_mark (instr_of l)) has.0 } in
        (top, ((Jump pc, has.1.0), (back, tt)));
  }

  pub limit_table : {f : Exit} (way : Way) → ExitTable AtLeastOne f
      → Table p body (λ ks. cell_value kinds.Int ∷ cell_place kinds.Int ∷ ks) keeps (limit_code way (turns_code f))
  limit_table {f} way i =
      let ts = turns_code f in record {
        sized =
            λ ks m pc. omega (
              arith,
              length-append (ts.lines (drop 2 ks) (deeper m) (pc + 1)) (line_of Unlimit (drop 2 ks) (deeper m) ∷ []),
              turns_size i (drop 2 ks) (deeper m) (pc + 1),
            );
        leaves = λ ks. refl;
        good = λ pc ks m home has next.
            let end = pc + 1 + ts.size in
            let h = has_rest p.lines (pc + 1) ts.size (ts.lines ks (deeper m) (pc + 1)) _ (turns_size i ks (deeper m) (pc + 1)) has.1 in
            let last : Next p.lines end ks (deeper m) = (Unlimit, h.0) in
            let r = turns_good i (pc + 1) ks (deeper m) home (m, refl) (has_front p.lines (pc + 1) (ts.lines ks (deeper m) (pc + 1)) _ has.1) last in (
              (Limit way end, has.0),
              (
                (ks, refl, r.0, forth p pc end ks (deeper m) (omega arith) last),
                each_rest p (pc + 1) ts.size (ts.lines ks (deeper m) (pc + 1)) (line_of Unlimit ks (deeper m) ∷ []) (turns_size i ks (deeper m) (pc + 1)) r.1
                    ((m, refl, moved p m _ (end + 1) ks ks (omega arith) refl next), tt),
              ),
            );
      }

  pub counted_none_table : (tf : Exit → Exit) (x : PlaceCode) (way : Way) → ExitTable (λ _. Unit {0}) (tf (step_code x))
      → ActionTable p body (counted_code x way None tf)
  counted_none_table tf x way i = loop_table i

  pub counted_some_table : {f : Stretch} (tf : Exit → Exit) (x : PlaceCode) (way : Way) → PlaceTable p body (Cell kinds.Int) (x (Cell kinds.Int))
      → ValueTable p body (Cell kinds.Int) f → ExitTable AtLeastOne (tf (step_to_code x way)) → ActionTable p body (counted_code x way (Some f) tf)
  counted_some_table tf x way k i j =
      join_table p body k (join_table p body (above p body (pushes (cell_place kinds.Int)) i) (limit_table way j))
