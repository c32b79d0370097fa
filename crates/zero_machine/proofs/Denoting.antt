-- Cells that denote a data space, one after another.
use Rattle.std.proofs.Common.{◌≡◌, ℕ, suc, ◌+◌, ◌<◌, ◌≤◌, Bool, true, false, List, [], ◌∷◌, ◌++◌, length, take, drop, append_assoc, refl, sym, ap, ◌∙◌, subst, arith}
use Rattle.std.specs.Prelude.{get_or, ◌||◌, ◌==◌}
use Rattle.std.proofs.lemmas.List.{take-append-drop, take_more, take_all, length-take-le, length-append, append-nil}
use Rattle.std.proofs.lemmas.Option.{slice_get-get_or}
use Rattle.std.proofs.Math.Seq.{drop-cons}
use Rattle.eu_base.specs.declared.value.Kind.{Kind}
use Rattle.eu_base.specs.declared.value.Kind.TheVariants as kinds
use Rattle.eu_base.specs.declared.value.Value.{Value}
use Rattle.eu_base.specs.declared.value.Value.TheVariants.{Int, Truth, Text, Task, Space}
use Rattle.eu_base.specs.declared.shape.Shape.{Shape}
use Rattle.eu_base.specs.Shapes.{cell_kinds}
use Rattle.eu_base.specs.Values.{IsOf, cell_of}
use Rattle.eu_base.specs.Cells.{Cell, Word, Cells, held_of, packet_cell}
use Rattle.cell_kinds.specs.Kinds.{all_kinds, packet_kinds}
use Rattle.cell_kinds.specs.declared.packet.Packet.{Packet}
use Rattle.cell_kinds.proofs.Parts.{kinds_more, kinds_around}
use Rattle.zero_machine.specs.Freed.{HoldsOf, HoldEach}
use Rattle.zero_machine.proofs.FreeingCells.{hold_front, hold_behind, shape_held}
use Rattle.zero_machine.specs.Denoted.{is_space, holds_space, denote}

pub denote_append : (n at : ℕ) (xs ys : List Kind) (cells : Cells)
    → denote n at (xs ++ ys) cells ≡ (denote n at xs cells || denote n (at + length xs) ys cells)
denote_append n at [] ys cells = let same : at + 0 ≡ at = omega arith in ap (λ m. denote n m ys cells) (sym same)
denote_append n at (k ∷ xs) ys cells =
    let same : suc at + length xs ≡ at + suc (length xs) = omega arith in
    by (holds_space n k (cells (packet_cell at)))
    (denote_append n (suc at) xs ys cells ∙ ap (λ m. denote n (suc at) xs cells || denote n m ys cells) same)
  where
    by : (b : Bool) → denote n (suc at) (xs ++ ys) cells ≡ (denote n (suc at) xs cells || denote n (at + suc (length xs)) ys cells)
        → (b || denote n (suc at) (xs ++ ys) cells) ≡ ((b || denote n (suc at) xs cells) || denote n (at + suc (length xs)) ys cells)
    by true e = refl
    by false e = e

or_none : (a b : Bool) → a ≡ false → b ≡ false → (a || b) ≡ false
or_none false b e f = f
or_none true b e f = absurd (cc e)

or_second : (a b : Bool) → b ≡ true → (a || b) ≡ true
or_second true b e = refl
or_second false b e = e

-- no cell so far does, and not those behind them: none so far does
pub none_more : (n at here : ℕ) (xs ys both : List Kind) (cells : Cells) → both ≡ xs ++ ys → here ≡ at + length xs → denote n at xs cells ≡ false
    → denote n here ys cells ≡ false → denote n at both cells ≡ false
none_more n at here xs ys both cells is e first second =
    ap (λ ks. denote n at ks cells) is ∙ denote_append n at xs ys cells
    ∙ or_none (denote n at xs cells) (denote n (at + length xs) ys cells) first (ap (λ m. denote n m ys cells) (sym e) ∙ second)

-- one in the middle does
pub one_there : (n at here : ℕ) (xs ys zs all : List Kind) (cells : Cells) → all ≡ xs ++ (ys ++ zs) → here ≡ at + length xs
    → denote n here ys cells ≡ true → denote n at all cells ≡ true
one_there n at here xs ys zs all cells is e does =
    ap (λ ks. denote n at ks cells) is ∙ denote_append n at xs (ys ++ zs) cells
    ∙ or_second (denote n at xs cells) (denote n (at + length xs) (ys ++ zs) cells)
    (denote_append n (at + length xs) ys zs cells ∙ first (ap (λ m. denote n m ys cells) (sym e) ∙ does))
  where
    first : denote n (at + length xs) ys cells ≡ true
        → (denote n (at + length xs) ys cells || denote n (at + length xs + length ys) zs cells) ≡ true
    first f = ap (λ b. b || denote n (at + length xs + length ys) zs cells) f

-- single cells
pub one_cell : (n at : ℕ) (k : Kind) (b : Bool) (cells : Cells) → b ≡ holds_space n k (cells (packet_cell at)) → denote n at (k ∷ []) cells ≡ b
one_cell n at k b cells e = by (holds_space n k (cells (packet_cell at))) e
  where
    by : (d : Bool) → b ≡ d → (d || false) ≡ b
    by true e = sym e
    by false e = sym e

-- ---- what a cell of a kind holds

pub none_in : (n : ℕ) (k : Kind) (x : Cell) → is_space k ≡ false → holds_space n k x ≡ false
none_in n kinds.Int x e = refl
none_in n kinds.Truth x e = refl
none_in n kinds.Text x e = refl
none_in n kinds.Task x e = refl
none_in n kinds.Space x e = absurd (cc e)

-- a number stands there
pub record HasNumber (n : ℕ) (k : Kind) (x : Cell) : Type 0 where
  pub number : ℕ
  pub is : x ≡ Word number
  pub same : holds_space n k x ≡ (number == n)

pub number_in : (n : ℕ) (k : Kind) (x : Cell) → is_space k ≡ true → HoldsOf k x → HasNumber n k x
number_in n k x is h = by k h.value is h.of_kind h.held
  where
    by : (k : Kind) (v : Value) → is_space k ≡ true → IsOf k v → x ≡ held_of v → HasNumber n k x
    by kinds.Space (Space s) is o e = record { number = cell_of (Space s); is = e; same = ap (holds_space n kinds.Space) e }
    by kinds.Space (Int z) is o e = absurd o
    by kinds.Space (Truth b) is o e = absurd o
    by kinds.Space (Text t) is o e = absurd o
    by kinds.Space (Task m) is o e = absurd o
    by kinds.Int v is o e = absurd (cc is)
    by kinds.Truth v is o e = absurd (cc is)
    by kinds.Text v is o e = absurd (cc is)
    by kinds.Task v is o e = absurd (cc is)

-- ---- cell by cell

module _ (n at i : ℕ) (ks : List Kind) (lt : i < length ks) (cells : Cells) (b : Bool)
    (is : HoldsOf (get_or ks i kinds.Int) (cells (packet_cell (at + i))) → b ≡ holds_space n (get_or ks i kinds.Int) (cells (packet_cell (at + i))))
    (each : HoldEach at ks cells) where
  kind : Kind
  kind = get_or ks i kinds.Int

  here : at + i ≡ at + length (take i ks)
  here = let e = length-take-le i ks (omega (arith, lt)) in omega (arith, e)

  this : denote n (at + i) (get_or ks i kinds.Int ∷ []) cells ≡ b
  this = one_cell n (at + i) (get_or ks i kinds.Int) b cells (is (each i (get_or ks i kinds.Int) (slice_get-get_or ks i kinds.Int lt)))

  pub no_cell_more : b ≡ false → denote n at (take i ks) cells ≡ false → denote n at (take (i + 1) ks) cells ≡ false
  no_cell_more e before =
      none_more n at (at + i) (take i ks) (get_or ks i kinds.Int ∷ []) (take (i + 1) ks) cells (take_more ks i kinds.Int lt) here before (this ∙ e)

  pub this_cell : b ≡ true → denote n at ks cells ≡ true
  this_cell e =
      one_there n at (at + i) (take i ks) (get_or ks i kinds.Int ∷ []) (drop (suc i) ks) ks cells
      (sym (take-append-drop i ks) ∙ ap (λ l. take i ks ++ l) (drop-cons ks i kinds.Int lt)) here (this ∙ e)

-- ---- shape by shape

-- a list that has room is whole
pub taken_whole : (got kinds all : List Kind) (most : ℕ) → got ≡ kinds → kinds ≡ take most all → length all ≤ most → got ≡ all
taken_whole got kinds all most e f few = e ∙ f ∙ take_all most all few

module _ (n at i here : ℕ) (shapes : List Shape) (s d : Shape) (lt : i < length shapes) (at_it : s ≡ get_or shapes i d)
    (is_here : here ≡ at + length (all_kinds (take i shapes))) (got : List Kind) (whole : got ≡ cell_kinds s) (cells : Cells) (b : Bool)
    (is : HoldEach here got cells → b ≡ denote n here got cells) (each : HoldEach at (all_kinds shapes) cells) where
  this_one : denote n here (cell_kinds s) cells ≡ b
  this_one =
      let held = shape_held at i shapes s d lt at_it here cells is_here each in
      ap (λ ks. denote n here ks cells) (sym whole) ∙ sym (is (subst (λ ks. HoldEach here ks cells) (sym whole) held))

  pub no_shape_more : b ≡ false → denote n at (all_kinds (take i shapes)) cells ≡ false → denote n at (all_kinds (take (i + 1) shapes)) cells ≡ false
  no_shape_more e before =
      none_more n at here (all_kinds (take i shapes)) (cell_kinds s) (all_kinds (take (i + 1) shapes)) cells (kinds_more shapes i s d lt at_it) is_here
      before (this_one ∙ e)

  pub this_shape : b ≡ true → denote n at (all_kinds shapes) cells ≡ true
  this_shape e =
      one_there n at here (all_kinds (take i shapes)) (cell_kinds s) (all_kinds (drop (suc i) shapes)) (all_kinds shapes) cells
      (kinds_around shapes i s d lt at_it) is_here (this_one ∙ e)

-- ---- packet by packet

packets_append : (ps qs : List Packet) → packet_kinds (ps ++ qs) ≡ packet_kinds ps ++ packet_kinds qs
packets_append [] qs = refl
packets_append (p ∷ ps) qs = ap (λ l. p.variables ++ l) (packets_append ps qs) ∙ sym (append_assoc p.variables (packet_kinds ps) (packet_kinds qs))

module _ (i here : ℕ) (packets : List Packet) (p d : Packet) (lt : i < length packets) (at_it : p ≡ get_or packets i d)
    (is_here : here ≡ length (packet_kinds (take i packets))) where
  packets_more : packet_kinds (take (i + 1) packets) ≡ packet_kinds (take i packets) ++ p.variables
  packets_more =
      ap packet_kinds (take_more packets i d lt) ∙ packets_append (take i packets) (get_or packets i d ∷ [])
      ∙ ap (λ l. packet_kinds (take i packets) ++ l) (append-nil (get_or packets i d).variables ∙ ap (λ (p : Packet). p.variables) (sym at_it))

  packets_around : packet_kinds packets ≡ packet_kinds (take i packets) ++ (p.variables ++ packet_kinds (drop (suc i) packets))
  packets_around =
      ap packet_kinds (sym (take-append-drop i packets) ∙ ap (λ l. take i packets ++ l) (drop-cons packets i d lt))
      ∙ packets_append (take i packets) (get_or packets i d ∷ drop (suc i) packets)
      ∙ ap (λ (p : Packet). packet_kinds (take i packets) ++ (p.variables ++ packet_kinds (drop (suc i) packets))) (sym at_it)

  pub packet_behind : here + length p.variables ≡ length (packet_kinds (take (i + 1) packets))
  packet_behind =
      let e = ap length packets_more in
      let f = length-append (packet_kinds (take i packets)) p.variables in
      omega (arith, e, f, is_here)

  pub packet_fits : (end : ℕ) → length (packet_kinds packets) ≤ end → here + length p.variables ≤ end
  packet_fits end le =
      let e = ap length packets_around in
      let f = length-append (packet_kinds (take i packets)) (p.variables ++ packet_kinds (drop (suc i) packets)) in
      let g = length-append p.variables (packet_kinds (drop (suc i) packets)) in
      omega (arith, e, f, g, is_here, le)

  module _ (n : ℕ) (got : List Kind) (whole : got ≡ p.variables) (cells : Cells) (b : Bool)
      (is : HoldEach here got cells → b ≡ denote n here got cells) (each : HoldEach 0 (packet_kinds packets) cells) where
    from_zero : here ≡ 0 + length (packet_kinds (take i packets))
    from_zero = omega (arith, is_here)

    this_packets : denote n here p.variables cells ≡ b
    this_packets =
        let behind = packet_kinds (drop (suc i) packets) in
        let all = subst (λ ks. HoldEach 0 ks cells) packets_around each in
        let held =
        subst (λ m. HoldEach m p.variables cells) (sym from_zero)
        (hold_front (0 + length (packet_kinds (take i packets))) p.variables behind cells
        (hold_behind 0 (packet_kinds (take i packets)) (p.variables ++ behind) cells all)) in
        ap (λ ks. denote n here ks cells) (sym whole) ∙ sym (is (subst (λ ks. HoldEach here ks cells) (sym whole) held))

    pub no_packet_more : b ≡ false → denote n 0 (packet_kinds (take i packets)) cells ≡ false
        → denote n 0 (packet_kinds (take (i + 1) packets)) cells ≡ false
    no_packet_more e before =
        none_more n 0 here (packet_kinds (take i packets)) p.variables (packet_kinds (take (i + 1) packets)) cells packets_more from_zero before
        (this_packets ∙ e)

    pub this_packet : b ≡ true → denote n 0 (packet_kinds packets) cells ≡ true
    this_packet e =
        one_there n 0 here (packet_kinds (take i packets)) p.variables (packet_kinds (drop (suc i) packets)) (packet_kinds packets) cells packets_around
        from_zero (this_packets ∙ e)

-- ---- the packets, and what stands behind them

module _ (n : ℕ) (front behind : List Kind) (cells : Cells) (each : HoldEach 0 (front ++ behind) cells) where
  pub in_front : (b : Bool) → (HoldEach 0 front cells → b ≡ denote n 0 front cells) → b ≡ true → denote n 0 (front ++ behind) cells ≡ true
  in_front b is e =
      let there = sym (is (hold_front 0 front behind cells each)) ∙ e in
      denote_append n 0 front behind cells ∙ ap (λ d. d || denote n (0 + length front) behind cells) there

  pub in_both : (b d : Bool) (at : ℕ) → (HoldEach 0 front cells → b ≡ denote n 0 front cells) → b ≡ false → at ≡ 0 + length front
      → (HoldEach at behind cells → d ≡ denote n at behind cells) → d ≡ denote n 0 (front ++ behind) cells
  in_both b d at is e here so =
      let none = sym (is (hold_front 0 front behind cells each)) ∙ e in
      let held = subst (λ m. HoldEach m behind cells) (sym here) (hold_behind 0 front behind cells each) in
      so held ∙ ap (λ m. denote n m behind cells) here
      ∙ sym (denote_append n 0 front behind cells ∙ ap (λ d. d || denote n (0 + length front) behind cells) none)
