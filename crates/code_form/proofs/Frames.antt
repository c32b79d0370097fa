-- What stands where a step is made: operands of the kinds that are told, and frames that calls made.
use Rattle.std.proofs.Common.{◌≡◌, ℕ, ◌+◌, ◌-◌, ◌<◌, ◌≤◌, List, [], ◌∷◌, ◌++◌, map, length, Option, Some, None, Bool, true, false, cond, refl, sym}
use Rattle.std.proofs.Common.{ap, ◌∙◌, subst, arith, length-append}
use Rattle.std.specs.Prelude.{slice_get, drop, flat_map, ℤ, pos, negsuc, nat_le, ◌&&◌}
use Rattle.std.proofs.lemmas.List.{length-map}
use Rattle.std.proofs.lemmas.Bool.{le-leb, leb-true}
use Rattle.eu_base.specs.declared.address.TheConstants.{CELLS}
use Rattle.eu_base.specs.declared.value.TheConstants.{OPERAND_BYTES}
use Rattle.eu_base.specs.declared.value.Kind.{Kind}
use Rattle.eu_base.specs.declared.value.Kind.TheVariants as kinds
use Rattle.eu_base.specs.declared.value.Value.{Value}
use Rattle.eu_base.specs.Values.{kind_of}
use Rattle.eu_base.specs.Shapes.{cell_kinds}
use Rattle.eu_base.specs.Room.{cells_fit, bytes_fit}
use Rattle.eu_base.specs.Operations.{in_row}
use Rattle.eu_base.specs.declared.request.RequestName.{RequestName}
use Rattle.eu_base.specs.Requests.{request_kinds, request_places, request_size}
use Rattle.eu_base.specs.Cells.{held_of}
use Rattle.code_form.specs.declared.operand.Operand.{Operand}
use Rattle.code_form.specs.declared.operand.Operand.TheVariants.{Value as Of, Place as At, Aggregate}
use Rattle.code_form.specs.declared.operand.OperandKind.{OperandKind}
use Rattle.code_form.specs.declared.operand.OperandKind.TheVariants.{Value as OfKind, Place as AtKind}
use Rattle.code_form.specs.declared.instr.Instr.{Instr}
use Rattle.code_form.specs.declared.instr.Instr.TheVariants.{Call, Refer}
use Rattle.code_form.specs.declared.code.Spot.{Spot}
use Rattle.code_form.specs.declared.code.Entry.{Entry}
use Rattle.code_form.specs.declared.code.Layout.{Layout}
use Rattle.code_form.specs.declared.code.Layout.TheVariants as layouts
use Rattle.code_form.specs.Program.{Program, line_of, owner, owner_in, owner_at, layout_of, cells_of, cells_in, cells_at, HoldsValue, cell_uses, frame_cells}
use Rattle.code_form.specs.Machine.{Frame, operand_of, bytes_on, base_of, held_cells}
use Rattle.code_form.specs.Valid.{Next, cell_value, cell_place, HasKinds, pushed_operands, with_result, IsRefinement, IsCalled, IsReferred, IsFine, IsValid, FitsKind}
use Rattle.code_form.specs.Valid.{request_operands, FitsKinds, MadeSo, IsMade, FitsFrames}
use Rattle.eu_base.proofs.Shapes.{kinds_of_cell}

-- so many operands a request has
pub request_many : (q : RequestName) → length (request_operands q) ≡ request_size q
request_many q =
    omega (
      arith,
      length-append (map cell_value (request_kinds q)) (map cell_place (request_places q)),
      length-map (request_kinds q) cell_value,
      length-map (request_places q) cell_place,
    )

-- what stands behind values
pub fits_behind : (ks : List Kind) (more : List OperandKind) (os : List Operand) → FitsKinds os (map cell_value ks ++ more) → FitsKinds (drop (length ks) os) more
fits_behind [] more os is = is
fits_behind (k ∷ ks) more [] is = absurd is
fits_behind (k ∷ ks) more (o ∷ os) is = fits_behind ks more os is.1

-- an operand that is a value of one cell, and any value
abbrev IsOne : Kind → Operand → Type 0
IsOne k (Of v) = kind_of v ≡ k
IsOne k _ = ⊥

one_of : (k : Kind) (vs : List Value) → map kind_of vs ≡ k ∷ [] → IsOne k (operand_of vs)
one_of k [] e = absurd (cc e)
one_of k (v ∷ []) e = cc e
one_of k (v ∷ w ∷ vs) e = absurd (cc e)

pub is_one : (o : Operand) (k : Kind) → FitsKind o (cell_value k) → IsOne k o
is_one o k h = subst (IsOne k) (sym h.is) (one_of k h.values (h.kinds ∙ kinds_of_cell k))

pub as_one : (v : Value) (k : Kind) → kind_of v ≡ k → FitsKind (Of v) (cell_value k)
as_one v k e = record { values = v ∷ []; is = refl; kinds = ap (λ k. k ∷ []) e ∙ sym (kinds_of_cell k) }

abbrev pub HasValues : List Kind → Operand → Type 0
HasValues ks (Of v) = kind_of v ∷ [] ≡ ks
HasValues ks (At a) = ⊥
HasValues ks (Aggregate vs) = map kind_of vs ≡ ks

values_of : (ks : List Kind) (vs : List Value) → map kind_of vs ≡ ks → HasValues ks (operand_of vs)
values_of ks [] e = e
values_of ks (v ∷ []) e = e
values_of ks (v ∷ w ∷ vs) e = e

pub has_values : (o : Operand) (ks : List Kind) → HasKinds o ks → HasValues ks o
has_values o ks h = subst (HasValues ks) (sym h.is) (values_of ks h.values h.kinds)

-- it stands in as many cells as it has kinds
many_values : (vs : List Value) → length (held_cells (operand_of vs)) ≡ length vs
many_values [] = refl
many_values (v ∷ []) = refl
many_values (v ∷ w ∷ vs) = length-map (v ∷ w ∷ vs) held_of

pub as_many_cells : (o : Operand) (k : OperandKind) → FitsKind o k → length (held_cells o) ≡ length (cell_uses k)
as_many_cells o (OfKind s) h =
    let many = many_values h.values in
    let kinds = ap length h.kinds in
    ap (λ o. length (held_cells o)) h.is ∙ omega (arith, many, kinds, length-map h.values kind_of, length-map (cell_kinds s) HoldsValue)
as_many_cells (Of v) (AtKind s) h = absurd h
as_many_cells (At a) (AtKind s) h = refl
as_many_cells (Aggregate vs) (AtKind s) h = absurd h

pub all_cells : (os : List Operand) (ks : List OperandKind) → FitsKinds os ks → length (flat_map held_cells os) ≡ length (flat_map cell_uses ks)
all_cells [] [] h = refl
all_cells [] (k ∷ ks) h = absurd h
all_cells (o ∷ os) [] h = absurd h
all_cells (o ∷ os) (k ∷ ks) h =
    let here = as_many_cells o k h.0 in
    let rest = all_cells os ks h.1 in
    omega (
      arith,
      here,
      rest,
      length-append (held_cells o) (flat_map held_cells os),
      length-append (cell_uses k) (flat_map cell_uses ks),
    )

-- a number in a row is below its length
pub in_row_below : (n : ℕ) (z : ℤ) (k : ℕ) → in_row n z ≡ Some k → k < n
in_row_below n (pos m) k e = by (nat_le 1 m) (nat_le m n) refl refl e
  where
    by : (b d : Bool) → nat_le 1 m ≡ b → nat_le m n ≡ d → cond (b && d) (Some (m - 1)) None ≡ Some k → k < n
    by true true f g h = let same : m - 1 ≡ k = cc h in omega (arith, same, leb-true 1 m f, leb-true m n g)
    by true false f g h = absurd (cc h)
    by false d f g h = absurd (cc h)
in_row_below n (negsuc m) k e = absurd (cc e)

pub some_is : {A : Type 0} (a b : A) → Some a ≡ Some b → a ≡ b
some_is a b e = cc

-- room for more is room for less
pub cells_fewer : (m n : ℕ) → m ≤ n → cells_fit n ≡ true → cells_fit m ≡ true
cells_fewer m n le e = le-leb m CELLS (omega (arith, le, leb-true n CELLS e))

pub bytes_fewer : (m n : ℕ) → m ≤ n → bytes_fit n ≡ true → bytes_fit m ≡ true
bytes_fewer m n le e = le-leb m OPERAND_BYTES (omega (arith, le, leb-true n OPERAND_BYTES e))

-- what is pending below is not more than what is pending in all
pub bytes_below : (ops : List Operand) (held : ℕ) → held ≤ bytes_on ops held
bytes_below [] held = omega arith
bytes_below (o ∷ ops) held = omega (arith, bytes_below ops held)

operands_inj : (ps : List OperandKind) (a b : List OperandKind) → pushed_operands ps a ≡ pushed_operands ps b → a ≡ b
operands_inj [] a b e = e
operands_inj (k ∷ ps) a b e = let f = operands_inj ps (k ∷ a) (k ∷ b) e in cc

module _ (p : Program) (valid : IsValid p) where
  -- where bodies stand
  pub owner_is : (n : ℕ) (e : Entry) → slice_get p.bodies n ≡ Some e → owner p (Some n) ≡ owner_in n e.layout
  owner_is n e has = ap (λ o. owner_at n (layout_of o)) has

  own_cells : (n : ℕ) (e : Entry) (ps : List OperandKind) (vs : List Kind) → slice_get p.bodies n ≡ Some e → e.layout ≡ layouts.Own ps vs
      → length (frame_cells p (Some n)) ≡ length (flat_map cell_uses ps) + length vs
  own_cells n e ps vs has own =
      let o : owner p (Some n) ≡ Some n = owner_is n e has ∙ ap (owner_in n) own in
      let c : cells_in p (Some n) ≡ cells_of (layouts.Own ps vs) = ap (λ o. cells_at (layout_of o)) has ∙ ap cells_of own in
      ap (λ o. length (cells_in p o)) o ∙ ap length c ∙ length-append (flat_map cell_uses ps) (map HoldsValue vs)
      ∙ ap (λ n. length (flat_map cell_uses ps) + n) (length-map vs HoldsValue)

  -- the instruction that made a frame is the call of its body, or a reference to it
  made_line : (pc : ℕ) (i : Instr) (ks : List OperandKind) (m : Spot) → slice_get p.lines pc ≡ Some (line_of i ks m) → IsFine p pc i ks m
  made_line pc i ks m e = valid.each pc (line_of i ks m) e

  module _ (f : Frame) (body : Option ℕ) (floor below : ℕ) (m : Spot) (floor_below : ℕ) (made : IsMade p f body floor below m floor_below) where
    -- what is so of a frame of a PROC and of one of a refinement
    pub by_layout : (P : Layout → Type 0) → ((ps : List OperandKind) (vs : List Kind) → made.entry.layout ≡ layouts.Own ps vs → P (layouts.Own ps vs))
        → ((l : Layout) → made.entry.layout ≡ l → IsRefinement l → P l) → (l : Layout) → made.entry.layout ≡ l → P l
    by_layout P a b (layouts.Own ps vs) e = a ps vs e
    by_layout P a b (layouts.Of q) e = b (layouts.Of q) e tt
    by_layout P a b layouts.Level e = b layouts.Level e tt

    abbrev pub Proc : List OperandKind → List Kind → Type 0
    Proc ps vs = MadeSo p (layouts.Own ps vs) made.number made.pc made.rest m f floor below

    pub as_proc : (ps : List OperandKind) (vs : List Kind) → made.entry.layout ≡ layouts.Own ps vs → Proc ps vs
    as_proc ps vs e = subst (λ l. MadeSo p l made.number made.pc made.rest m f floor below) e made.made

    abbrev pub Refined : Type 0
    Refined = (slice_get p.lines made.pc ≡ Some (line_of (Refer made.number) made.rest m)) × (f.refines ≡ true) × (f.base ≡ below) × (floor ≡ f.used + 2)

    refined : (l : Layout) → IsRefinement l → MadeSo p l made.number made.pc made.rest m f floor below → Refined
    refined (layouts.Own ps vs) r h = absurd r
    refined (layouts.Of q) r h = h
    refined layouts.Level r h = h

    pub as_refined : (l : Layout) → made.entry.layout ≡ l → IsRefinement l → Refined
    as_refined l e r = refined l r (subst (λ l. MadeSo p l made.number made.pc made.rest m f floor below) e made.made)

    -- the cells that were in use before a frame are fewer than those behind it
    pub used_below : f.used ≤ floor
    used_below =
        by_layout (λ _. f.used ≤ floor) (λ ps vs e. let h = as_proc ps vs e in omega (arith, h.2, h.3))
        (λ l e r. let h = as_refined l e r in omega (arith, h.3)) made.entry.layout refl

    -- where it returns to, its result is pending
    pub returns : Next p.lines f.back (with_result made.entry.delivers made.rest) m
    returns =
        subst (λ n. Next p.lines n (with_result made.entry.delivers made.rest) m) (sym made.back)
        (by_layout (λ _. Next p.lines (made.pc + 1) (with_result made.entry.delivers made.rest) m) proc refinement made.entry.layout refl)
      where
        proc : (ps : List OperandKind) (vs : List Kind) → made.entry.layout ≡ layouts.Own ps vs
            → Next p.lines (made.pc + 1) (with_result made.entry.delivers made.rest) m
        proc ps vs e =
            let c : IsCalled p made.pc made.number (pushed_operands ps made.rest) m =
            made_line made.pc (Call made.number) (pushed_operands ps made.rest) m (as_proc ps vs e).0 in
            let same : c.entry ≡ made.entry = some_is c.entry made.entry (sym c.has ∙ made.has) in
            let l : layouts.Own c.parameters c.variables ≡ layouts.Own ps vs = sym c.own ∙ ap (λ (x : Entry). x.layout) same ∙ e in
            let q : c.parameters ≡ ps = cc in
            let rest : c.rest ≡ made.rest = operands_inj ps c.rest made.rest (ap (λ ps. pushed_operands ps c.rest) (sym q) ∙ sym c.taken) in
            subst (λ rest. Next p.lines (made.pc + 1) (with_result made.entry.delivers rest) m) rest
            (subst (λ (x : Entry). Next p.lines (made.pc + 1) (with_result x.delivers c.rest) m) same c.next)

        refinement : (l : Layout) → made.entry.layout ≡ l → IsRefinement l → Next p.lines (made.pc + 1) (with_result made.entry.delivers made.rest) m
        refinement l e r =
            let c : IsReferred p made.pc made.number made.rest m = made_line made.pc (Refer made.number) made.rest m (as_refined l e r).0 in
            let same : c.entry ≡ made.entry = some_is c.entry made.entry (sym c.has ∙ made.has) in
            subst (λ (x : Entry). Next p.lines (made.pc + 1) (with_result x.delivers made.rest) m) same c.next

    -- a refinement uses the cells of the frame below
    pub same_owner : (l : Layout) → made.entry.layout ≡ l → IsRefinement l → owner p (Some made.number) ≡ owner p m.body
    same_owner l e r =
        let c : IsReferred p made.pc made.number made.rest m = made_line made.pc (Refer made.number) made.rest m (as_refined l e r).0 in
        owner_is made.number c.entry c.has ∙ c.owned

  -- the cells of the level and of the innermost PROC lie below the FOR limits
  pub level_below : (fs : List Frame) (body : Option ℕ) (floor : ℕ) → FitsFrames p fs body floor → length p.variables ≤ floor
  level_below [] body floor h = omega (arith, h.1)
  level_below (f ∷ fs) body floor h =
      let below = level_below fs h.0.body h.1.0 h.1.1.1 in
      omega (arith, below, h.1.1.0.used, used_below f body floor (base_of fs) h.0 h.1.0 h.1.1.0)

  pub frame_below : (fs : List Frame) (body : Option ℕ) (floor : ℕ) → FitsFrames p fs body floor → base_of fs + length (frame_cells p body) ≤ floor
  frame_below [] body floor h = let e : length (frame_cells p body) ≡ 0 = ap (λ b. length (frame_cells p b)) h.0 in omega (arith, e)
  frame_below (f ∷ fs) body floor h =
      let made = h.1.1.0 in
      let below = frame_below fs h.0.body h.1.0 h.1.1.1 in
      let e : length (frame_cells p body) ≡ length (frame_cells p (Some made.number)) = ap (λ b. length (frame_cells p b)) made.is in
      by_layout f body floor (base_of fs) h.0 h.1.0 made (λ _. f.base + length (frame_cells p body) ≤ floor)
      (λ ps vs l. let x = as_proc f body floor (base_of fs) h.0 h.1.0 made ps vs l in omega (arith, e, own_cells made.number made.entry ps vs made.has l, x.3))
      (λ l q r.
      let x = as_refined f body floor (base_of fs) h.0 h.1.0 made l q r in
      let o : length (frame_cells p (Some made.number)) ≡ length (frame_cells p h.0.body) =
      ap (λ o. length (cells_in p o)) (same_owner f body floor (base_of fs) h.0 h.1.0 made l q r) in
      omega (arith, e, o, below, x.2, x.3, made.used))
      made.entry.layout refl
