-- Where a state fits its code, its instruction finds what it takes.
use Rattle.std.proofs.Common.{◌≡◌, ℕ, zero, suc, ◌+◌, ◌<◌, ◌≤◌, true, cond, List, [], ◌∷◌, ◌++◌, map, length, take, drop, Option, Some, None, refl}
use Rattle.std.proofs.Common.{sym, ap, ◌∙◌, subst, arith}
use Rattle.std.specs.Prelude.{reverse, slice_get}
use Rattle.std.proofs.lemmas.List.{reverse-append}
use Rattle.std.proofs.lemmas.Bool.{leb-true}
use Rattle.std.proofs.lemmas.Option.{slice_get_within}
use Rattle.eu_base.specs.declared.address.TheConstants.{CELLS}
use Rattle.eu_base.specs.declared.value.Kind.{Kind}
use Rattle.eu_base.specs.declared.value.Kind.TheVariants as kinds
use Rattle.eu_base.specs.declared.shape.Shape.{Shape}
use Rattle.eu_base.specs.declared.shape.Shape.TheVariants.{Cell}
use Rattle.eu_base.specs.Shapes.{cell_kinds}
use Rattle.eu_base.specs.SpaceOperations.{space_operand_kinds}
use Rattle.eu_base.specs.Operations.{operand_kinds, change_kind}
use Rattle.eu_base.specs.declared.request.RequestName.{RequestName}
use Rattle.eu_base.specs.declared.request.Reply.{Reply}
use Rattle.eu_base.specs.Requests.{request_kinds, request_places, request_size}
use Rattle.eu_base.specs.Cells.{IsCell, run_cell}
use Rattle.code_form.specs.declared.operand.Operand.{Operand}
use Rattle.code_form.specs.declared.operand.Operand.TheVariants.{Value as Of, Place as At, Aggregate}
use Rattle.code_form.specs.declared.operand.OperandKind.{OperandKind}
use Rattle.code_form.specs.declared.operand.OperandKind.TheVariants.{Value as OfKind, Place as AtKind}
use Rattle.code_form.specs.declared.instr.Instr.{Instr}
use Rattle.code_form.specs.declared.instr.Instr.TheVariants.{Mark, Number, Truth, Text, Outer, Packet, Local, Param, Index, Field, Content, Pick, Take, Load, Store, Do, OnSpaces, Copy, Bind, Modify, Jump, False}
use Rattle.code_form.specs.declared.instr.Instr.TheVariants.{When, Drop, Limit, Unlimit, Step, Ask, ErrorStop, Call, Refer, Back, Out, End}
use Rattle.code_form.specs.declared.code.Spot.{Spot}
use Rattle.code_form.specs.Program.{Program, line_of, instr_of, owner, CellUse, HoldsValue, HoldsPlace, frame_cells}
use Rattle.code_form.specs.Machine.{Frame, Position, Control, free, given, base_of}
use Rattle.code_form.specs.Valid.{cell_value, cell_place, HasKinds, pushed_kinds, pushed_operands, request_operands, HasResult, IsCalled, IsFine, IsValid, FitsKinds, FitsFrames, Fits}
use Rattle.code_form.proofs.Frames.{is_one, has_values, request_many, fits_behind, level_below, frame_below, by_layout, as_proc, as_refined, same_owner}
use Rattle.zero_state.specs.Finds.{is_value, TopValue, TopAny, TopPicked, TopStored, TopPlace, TopBoth, TopValues, TopResult, HasProc, IsInside, is_in_proc, Finds}
use Rattle.zero_state.specs.Finds.{behind_values, IsVariable, AreVariables, FindsReply}

-- the instruction of a state that fits is the one that stands in the code
pub the_instr : (p : Program) (c : Position) (fits : Fits p (free c)) (i : Instr) → Some i ≡ instr_of (slice_get p.lines c.pc) → fits.next.0 ≡ i
the_instr p c fits i e = let f : Some i ≡ Some fits.next.0 = e ∙ ap instr_of fits.next.1 in cc

top_value : (ops : List Operand) (k : Kind) (rest : List OperandKind) → FitsKinds ops (cell_value k ∷ rest) → TopValue ops
top_value [] k rest f = absurd f
top_value (Of v ∷ ops) k rest f = record { value = v; rest = ops; top = refl }
top_value (At a ∷ ops) k rest f = absurd (is_one (At a) k f.0)
top_value (Aggregate vs ∷ ops) k rest f = absurd (is_one (Aggregate vs) k f.0)

-- a value with cells of some kinds is one
is_one_value : (o : Operand) (ks : List Kind) → HasKinds o ks → is_value o ≡ true
is_one_value (Of v) ks h = refl
is_one_value (At a) ks h = absurd (has_values (At a) ks h)
is_one_value (Aggregate vs) ks h = refl

top_any : (ops : List Operand) (s : Shape) (rest : List OperandKind) → FitsKinds ops (OfKind s ∷ rest) → TopAny ops
top_any [] s rest f = absurd f
top_any (o ∷ ops) s rest f = record { operand = o; rest = ops; top = refl; value = is_one_value o (cell_kinds s) f.0 }

top_place : (ops : List Operand) (s : Shape) (rest : List OperandKind) → FitsKinds ops (AtKind s ∷ rest) → TopPlace ops
top_place [] s rest f = absurd f
top_place (Of v ∷ ops) s rest f = absurd f.0
top_place (Aggregate vs ∷ ops) s rest f = absurd f.0
top_place (At a ∷ ops) s rest f = record { place = a; rest = ops; top = refl; cell = f.0 }

top_both : (ops : List Operand) (k : Kind) (s : Shape) (rest : List OperandKind) → FitsKinds ops (cell_value k ∷ AtKind s ∷ rest) → TopBoth ops
top_both [] k s rest f = absurd f
top_both (At a ∷ ops) k s rest f = absurd (is_one (At a) k f.0)
top_both (Aggregate vs ∷ ops) k s rest f = absurd (is_one (Aggregate vs) k f.0)
top_both (Of v ∷ ops) k s rest f =
    let b = top_place ops s rest f.1 in
    record { value = v; place = b.place; rest = b.rest; top = ap (λ l. Of v ∷ l) b.top; cell = b.cell }

top_stored : (ops : List Operand) (s : Shape) (rest : List OperandKind) → FitsKinds ops (OfKind s ∷ AtKind s ∷ rest) → TopStored ops
top_stored [] s rest f = absurd f
top_stored (o ∷ ops) s rest f =
    let b = top_place ops s rest f.1 in
    record { operand = o; place = b.place; rest = b.rest; top = ap (λ l. o ∷ l) b.top; value = is_one_value o (cell_kinds s) f.0; cell = b.cell }

top_picked : (ops : List Operand) (k : Kind) (s : Shape) (rest : List OperandKind) → FitsKinds ops (cell_value k ∷ OfKind s ∷ rest) → TopPicked ops
top_picked ops k s rest f =
    let v = top_value ops k (OfKind s ∷ rest) f in
    let below = top_any v.rest s rest (subst (λ ops. FitsKinds ops (cell_value k ∷ OfKind s ∷ rest)) v.top f).1 in
    record { number = v.value; operand = below.operand; rest = below.rest; top = v.top ∙ ap (λ l. Of v.value ∷ l) below.top; value = below.value }

top_values : (more : List Kind) (n : ℕ) (rest : List OperandKind) (ops : List Operand) → FitsKinds ops (pushed_kinds more rest)
    → ((ops : List Operand) → FitsKinds ops rest → TopValues n ops) → TopValues (length more + n) ops
top_values [] n rest ops f h = let e : 0 + n ≡ n = omega arith in subst (λ n. TopValues n ops) (sym e) (h ops f)
top_values (k ∷ more) n rest ops f h =
    let e : suc (length more) + n ≡ length more + suc n = omega arith in
    subst (λ n. TopValues n ops) (sym e) (top_values more (suc n) (cell_value k ∷ rest) ops f by)
  where
    by : (ops : List Operand) → FitsKinds ops (cell_value k ∷ rest) → TopValues (suc n) ops
    by [] f = absurd f
    by (Of v ∷ ops) f = (v, (ops, refl, h ops f.1))
    by (At a ∷ ops) f = absurd (is_one (At a) k f.0)
    by (Aggregate vs ∷ ops) f = absurd (is_one (Aggregate vs) k f.0)

top_result : (result : Option Shape) (ks : List OperandKind) (ops : List Operand) → HasResult result ks → FitsKinds ops ks → TopResult result ops
top_result None ks ops h f = tt
top_result (Some s) ks ops h f = top_any ops s h.0 (subst (FitsKinds ops) h.1 f)

-- there are as many operands as kinds
as_many : (ops : List Operand) (ks : List OperandKind) → FitsKinds ops ks → length ops ≡ length ks
as_many [] [] f = refl
as_many (o ∷ ops) (k ∷ ks) f = ap suc (as_many ops ks f.1)
as_many [] (k ∷ ks) f = absurd f
as_many (o ∷ ops) [] f = absurd f

pushed_many : (ps ks : List OperandKind) → length (pushed_operands ps ks) ≡ length ps + length ks
pushed_many [] ks = omega arith
pushed_many (k ∷ ps) ks = omega (arith, pushed_many ps (k ∷ ks))

-- a request's operands are there
asked_many : (q : RequestName) (rest : List OperandKind) (ops : List Operand) (ks : List OperandKind) → ks ≡ pushed_operands (request_operands q) rest
    → FitsKinds ops ks → request_size q ≤ length ops
asked_many q rest ops ks is fits =
    omega (arith, as_many ops ks fits, ap length is ∙ pushed_many (request_operands q) rest, request_many q)

-- the next of a list, behind its first ones
next_of : (n : ℕ) (ops : List Operand) (o : Operand) (r : List Operand) → drop n ops ≡ o ∷ r
    → (take (suc n) ops ≡ take n ops ++ o ∷ []) × (drop (suc n) ops ≡ r)
next_of zero [] o r e = absurd (cc e)
next_of zero (x ∷ xs) o r e = (cc e, cc e)
next_of (suc n) [] o r e = absurd (cc e)
next_of (suc n) (x ∷ xs) o r e = let h = next_of n xs o r e in (ap (λ l. x ∷ l) h.0, h.1)

-- what was pushed is on top, from left to right
top_fits : (more rest : List OperandKind) (ops : List Operand) → FitsKinds ops (pushed_operands more rest)
    → FitsKinds (reverse (take (length more) ops)) more × FitsKinds (drop (length more) ops) rest
top_fits [] rest ops f = (tt, f)
top_fits (k ∷ more) rest ops f = let h = top_fits more (k ∷ rest) ops f in by (drop (length more) ops) refl h.1 h.0
  where
    by : (d : List Operand) → drop (length more) ops ≡ d → FitsKinds d (k ∷ rest) → FitsKinds (reverse (take (length more) ops)) more
        → FitsKinds (reverse (take (suc (length more)) ops)) (k ∷ more) × FitsKinds (drop (suc (length more)) ops) rest
    by [] e g h = absurd g
    by (o ∷ r) e g h =
        let n = next_of (length more) ops o r e in
        let turned : reverse (take (suc (length more)) ops) ≡ o ∷ reverse (take (length more) ops) =
        ap reverse n.0 ∙ reverse-append (take (length more) ops) (o ∷ []) in
        (subst (λ l. FitsKinds l (k ∷ more)) (sym turned) (g.0, h), subst (λ l. FitsKinds l rest) (sym n.1) g.1)

is_variable : (ks : List Kind) (os : List Operand) → FitsKinds os (map cell_place ks) → IsVariable os
is_variable [] [] f = tt
is_variable [] (o ∷ os) f = absurd f
is_variable (k ∷ ks) [] f = absurd f
is_variable (k ∷ ks) (Of v ∷ os) f = absurd f.0
is_variable (k ∷ ks) (Aggregate vs ∷ os) f = absurd f.0
is_variable (k ∷ ks) (At a ∷ os) f = f.0

are_variables : (ks : List Kind) (os : List Operand) → FitsKinds os (map cell_place ks) → AreVariables ks os
are_variables [] [] f = tt
are_variables [] (o ∷ os) f = absurd f
are_variables (k ∷ ks) [] f = absurd f
are_variables (k ∷ ks) (Of v ∷ os) f = absurd f.0
are_variables (k ∷ ks) (Aggregate vs ∷ os) f = absurd f.0
are_variables (k ∷ ks) (At a ∷ os) f = (f.0, are_variables ks os f.1)

-- so a request finds what it takes when it is made, and when its reply is there
pub finds_reply : (q : RequestName) (rest : List OperandKind) (ops : List Operand) (ks : List OperandKind) → ks ≡ pushed_operands (request_operands q) rest
    → FitsKinds ops ks → FindsReply q ops
finds_reply q rest ops ks is fits =
    let top = (top_fits (request_operands q) rest ops (subst (FitsKinds ops) is fits)).0 in
    let here = subst (λ n. FitsKinds (reverse (take n ops)) (request_operands q)) (request_many q) top in
    let behind = fits_behind (request_kinds q) (map cell_place (request_places q)) (reverse (take (request_size q) ops)) here in
    record {
      taken = asked_many q rest ops ks is fits;
      variable = is_variable (request_places q) (behind_values q ops) behind;
      variables = are_variables (request_places q) (behind_values q ops) behind;
    }

module _ (p : Program) (valid : IsValid p) where
  -- the places of a frame lie among the cells in use
  module _ (c : Position) (fits : Fits p (free c)) where
    in_use : c.used ≤ CELLS
    in_use = leb-true c.used CELLS (fits.cells refl)

    outer_cell : (x : ℕ) (k : Kind) → slice_get p.variables x ≡ Some k → IsCell (run_cell x)
    outer_cell x k e =
        let a = slice_get_within p.variables x k e in
        let b = level_below p valid c.frames fits.spot.body fits.floor fits.frames in
        omega (arith, a, b, fits.used, in_use)

    local_cell : (x : ℕ) (k : CellUse) → slice_get (frame_cells p fits.spot.body) x ≡ Some k → IsCell (run_cell (base_of c.frames + x))
    local_cell x k e =
        let a = slice_get_within (frame_cells p fits.spot.body) x k e in
        let b = frame_below p valid c.frames fits.spot.body fits.floor fits.frames in
        omega (arith, a, b, fits.used, in_use)

  inside : (fs : List Frame) (body : Option ℕ) (n floor : ℕ) → body ≡ Some n → FitsFrames p fs body floor → IsInside fs
  inside [] body n floor e h = absurd (cc (e, h.0))
  inside (f ∷ fs) body n floor e h = record { frame = f; below = fs; inside = refl }

  in_proc : (fs : List Frame) (body : Option ℕ) (n floor : ℕ) → owner p body ≡ Some n → FitsFrames p fs body floor → is_in_proc fs ≡ true
  in_proc [] body n floor e h = let f : None ≡ Some n = sym (ap (owner p) h.0) ∙ e in absurd (cc f)
  in_proc (f ∷ fs) body n floor e h =
      let made = h.1.1.0 in
      let number : owner p (Some made.number) ≡ Some n = ap (owner p) (sym made.is) ∙ e in
      by_layout p valid f body floor (base_of fs) h.0 h.1.0 made (λ _. is_in_proc (f ∷ fs) ≡ true)
      (λ ps vs l. ap (λ t. cond t (is_in_proc fs) true) (as_proc p valid f body floor (base_of fs) h.0 h.1.0 made ps vs l).1)
      (λ l q r.
      ap (λ t. cond t (is_in_proc fs) true) (as_refined p valid f body floor (base_of fs) h.0 h.1.0 made l q r).1
      ∙ in_proc fs h.0.body n h.1.0 (sym (same_owner p valid f body floor (base_of fs) h.0 h.1.0 made l q r) ∙ number) h.1.1.1)
      made.entry.layout refl

  has_proc : (n pc : ℕ) (ks : List OperandKind) (m : Spot) (ops : List Operand) → IsCalled p pc n ks m → FitsKinds ops ks → HasProc p.bodies n ops
  has_proc n pc ks m ops f k =
      let a = as_many ops ks k in
      let b : length ks ≡ length f.parameters + length f.rest = ap length f.taken ∙ pushed_many f.parameters f.rest in
      record {
        entry = f.entry;
        has = f.has;
        callable =
            record { parameters = f.parameters; variables = f.variables; own = f.own; taken = omega (arith, a, b) };
      }

  module _ (c : Position) (fits : Fits p (free c)) where
    abbrev ks : List OperandKind
    ks = fits.kinds

    abbrev m : Spot
    m = fits.spot

    limited : (outer : Spot) → m ≡ record { body = outer.body; limits = suc outer.limits } → 1 ≤ c.used
    limited outer e =
        let n : m.limits ≡ suc outer.limits = ap (λ (s : Spot). s.limits) e in
        omega (arith, n, fits.used)

    all_values : (more : List Kind) (rest : List OperandKind) → ks ≡ pushed_kinds more rest → TopValues (length more) c.ops
    all_values more rest is =
        let e : length more + 0 ≡ length more = omega arith in
        subst (λ n. TopValues n c.ops) e (top_values more 0 rest c.ops (subst (FitsKinds c.ops) is fits.operands) (λ ops f. tt))

    finds_at : (i : Instr) → IsFine p c.pc i ks m → Finds p.bodies i c
    finds_at Mark f = tt
    finds_at (Number z) f = tt
    finds_at (Truth b) f = tt
    finds_at (Text t) f = tt
    finds_at (Outer x) f = outer_cell c fits x f.0 f.1
    finds_at (Packet x) f = tt
    finds_at (Local x) f = local_cell c fits x (HoldsValue f.0) f.1
    finds_at (Param x) f = local_cell c fits x HoldsPlace f.0
    finds_at (Index n size) f =
        let is : ks ≡ cell_value kinds.Int ∷ AtKind f.2.shape ∷ f.2.rest = f.1 ∙ ap (λ rest. cell_value kinds.Int ∷ rest) f.2.taken in
        top_both c.ops kinds.Int f.2.shape f.2.rest (subst (FitsKinds c.ops) is fits.operands)
    finds_at (Field n) f = top_place c.ops f.shape f.rest (subst (FitsKinds c.ops) f.taken fits.operands)
    finds_at Content f = top_place c.ops f.shape f.rest (subst (FitsKinds c.ops) f.taken fits.operands)
    finds_at (Pick n size) f =
        let is : ks ≡ cell_value kinds.Int ∷ OfKind f.2.shape ∷ f.2.rest = f.1 ∙ ap (λ rest. cell_value kinds.Int ∷ rest) f.2.taken in
        top_picked c.ops kinds.Int f.2.shape f.2.rest (subst (FitsKinds c.ops) is fits.operands)
    finds_at (Take cells from size) f = top_any c.ops f.shape f.rest (subst (FitsKinds c.ops) f.taken fits.operands)
    finds_at (Load s) f = top_place c.ops s f.0 (subst (FitsKinds c.ops) f.1 fits.operands)
    finds_at (Store s) f = top_stored c.ops s f.0 (subst (FitsKinds c.ops) f.1 fits.operands)
    finds_at (Do op) f = all_values (operand_kinds op) f.0 f.1
    finds_at (OnSpaces op) f = all_values (space_operand_kinds op) f.0 f.1
    finds_at Copy f = top_both c.ops kinds.Space (Cell kinds.Space) f.0 (subst (FitsKinds c.ops) f.1 fits.operands)
    finds_at (Bind s) f = top_both c.ops kinds.Space (Cell kinds.Space) f.0 (subst (FitsKinds c.ops) f.1 fits.operands)
    finds_at (Modify change) f = top_both c.ops (change_kind change) (Cell (change_kind change)) f.0 (subst (FitsKinds c.ops) f.1 fits.operands)
    finds_at (Jump a) f = tt
    finds_at (False a) f = top_value c.ops kinds.Truth f.0 (subst (FitsKinds c.ops) f.1 fits.operands)
    finds_at (When z a) f = top_value c.ops kinds.Int f.0 (subst (FitsKinds c.ops) f.1 fits.operands)
    finds_at Drop f = top_value c.ops f.0 f.1.0 (subst (FitsKinds c.ops) f.1.1 fits.operands)
    finds_at (Limit way a) f = top_both c.ops kinds.Int (Cell kinds.Int) f.0 (subst (FitsKinds c.ops) f.1 fits.operands)
    finds_at Unlimit f = limited f.0 f.1
    finds_at (Step way a) f = (top_place c.ops (Cell kinds.Int) f.2.0 (subst (FitsKinds c.ops) f.2.1 fits.operands), limited f.0 f.1)
    finds_at (Ask name) f = finds_reply name f.0 c.ops ks f.1 fits.operands
    finds_at ErrorStop f = top_value c.ops kinds.Text f.0 (subst (FitsKinds c.ops) f.1 fits.operands)
    finds_at (Call n) f = has_proc n c.pc ks m c.ops f fits.operands
    finds_at (Refer n) f = record { entry = f.entry; has = f.has }
    finds_at (Back result) f = (top_result result ks c.ops f.top fits.operands, inside c.frames m.body f.number fits.floor f.here fits.frames)
    finds_at (Out result) f = (top_result result ks c.ops f.top fits.operands, in_proc c.frames m.body f.number fits.floor f.proc fits.frames)
    finds_at End f = tt

    -- the instruction of a state that fits
    pub finds : Finds p.bodies fits.next.0 c
    finds = finds_at fits.next.0 (valid.each c.pc (line_of fits.next.0 fits.kinds fits.spot) fits.next.1)

  pub within : (c : Control) → Fits p c → c.position.pc < length p.lines
  within c fits = slice_get_within p.lines c.position.pc _ fits.next.1

  -- a reply is given to the instruction of a request, which finds what it takes
  pub reply_finds : (c : Position) (r : Reply) (fits : Fits p (given c r)) (q : RequestName) → Some (Ask q) ≡ instr_of (slice_get p.lines c.pc)
      → FindsReply q c.ops
  reply_finds c r fits q e =
      let same : fits.next.0 ≡ Ask q = let f : Some (Ask q) ≡ Some fits.next.0 = e ∙ ap instr_of fits.next.1 in cc in
      let fine : IsFine p c.pc (Ask q) fits.kinds fits.spot =
      subst (λ i. IsFine p c.pc i fits.kinds fits.spot) same (valid.each c.pc (line_of fits.next.0 fits.kinds fits.spot) fits.next.1) in
      finds_reply q fine.0 c.ops fits.kinds fine.1 fits.operands
