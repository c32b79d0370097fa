-- A command at its start.
use Rattle.std.specs.Prelude.{Option, Some, None}
use Rattle.std.proofs.Common.{◌≡◌, ℕ, suc, ◌+◌, Bool, true, false, ◌&&◌, cond, min, nat_le, List, [], ◌∷◌, map, length, refl, sym, ap, ◌∙◌, subst, arith, length-append}
use Rattle.std.proofs.lemmas.Bool.{leb-true, leb-false}
use Rattle.std.proofs.lemmas.Bool.Decides.{nat_tests}
use Rattle.eu_base.specs.declared.address.Area.TheVariants.{Run, Packets}
use Rattle.eu_base.specs.declared.value.Kind.{Kind}
use Rattle.eu_base.specs.Values.{blank_of}
use Rattle.eu_base.specs.Cells.{Cell, Cells, held_of, run_cell, packet_cell, written, cell_blocks, AreBare}
use Rattle.eu_base.specs.declared.address.TheConstants.{CELLS}
use Rattle.eu_base.specs.Room.{cells_fit, bytes_fit}
use Rattle.cell_kinds.specs.Kinds.{packet_kinds}
use Rattle.code_form.specs.declared.code.Start.{Start}
use Rattle.code_form.specs.declared.code.Layout.TheVariants as layouts
use Rattle.code_form.specs.Program.{Program, kinds_in_packets, kinds_at, start_kinds, call_kinds, layout_of, spot_at, at_level}
use Rattle.code_form.specs.declared.operand.Operand.{Operand}
use Rattle.code_form.specs.declared.waits.Waits.{Waits}
use Rattle.zero_state.specs.Stacked.{Stacked}
use Rattle.code_form.specs.Machine.{Frame, Control, bytes_on, bytes_of, written_in, made_in, made, CanBeMade, have_room, start_frames, start}
use Rattle.code_form.specs.Valid.{IsValid, StartsSo, Fits, FitsFrames, MadeSo, is_refused, is_asking}
use Rattle.code_form.specs.declared.waits.Waits.TheVariants.{Nothing, Refused}
use Rattle.eu_base.specs.declared.stop.Stop.TheVariants.{CellRoom}

-- the frame of a start procedure is one that its call makes
frames_fit : (p : Program) (o : Option Start) → StartsSo p o → FitsFrames p (start_frames o) (spot_at o).body (length (kinds_at p o))
frames_fit p None so = (refl, refl)
frames_fit p (Some s) so =
    let vs = so.variables in
    let f : Frame = record { back = s.back; base = 2; used = 0; refines = false; body = s.body; ops = [] } in
    let same : length (kinds_at p (Some s)) ≡ length (call_kinds (Some (layouts.Own [] vs))) =
    ap (λ o. length (call_kinds (layout_of o))) so.has ∙ ap (λ l. length (call_kinds (Some l))) so.own in
    let size : length (kinds_at p (Some s)) ≡ 2 + 0 + length vs = omega (arith, same) in
    let made : MadeSo p (layouts.Own [] vs) s.body so.pc [] at_level f (length (kinds_at p (Some s))) 0 = (so.call, refl, refl, size) in (
      at_level,
      (
        0,
        (
          record {
            number = s.body;
            named = refl;
            is = refl;
            entry = so.entry;
            has = so.has;
            pc = so.pc;
            rest = [];
            back = so.back;
            used = refl;
            operands = tt;
            made = subst (λ l. MadeSo p l s.body so.pc [] at_level f (length (kinds_at p (Some s))) 0) (sym so.own) made;
          },
          (refl, sym (ap length so.level)),
        ),
      ),
    )

-- it fits its code
pub start_fits : (p : Program) → IsValid p → Fits p (start p)
start_fits p valid = record {
  kinds = [];
  spot = spot_at p.start;
  floor = length (start_kinds p);
  next = valid.first;
  operands = tt;
  frames = frames_fit p p.start valid.starts;
  used = unlimited p.start;
  asks = λ e. absurd (unasked (have_room p) e);
  cells = has_room (cells_fit (length (start_kinds p))) (cells_fit (length (kinds_in_packets p)));
  bytes = nothing p.start;
}
  where
    unlimited : (o : Option Start) → length (start_kinds p) ≡ length (start_kinds p) + (spot_at o).limits
    unlimited None = omega arith
    unlimited (Some s) = omega arith

    nothing : (o : Option Start) → bytes_fit (bytes_on [] (bytes_of (start_frames o))) ≡ true
    nothing None = refl
    nothing (Some s) = refl

    unasked : (t : Bool) → is_asking (cond t Nothing (Refused CellRoom)) ≡ true → ⊥
    unasked true e = cc e
    unasked false e = cc e

    has_room : (s t : Bool) → is_refused (cond (s && t) Nothing (Refused CellRoom)) ≡ false → s ≡ true
    has_room true t e = refl
    has_room false t e = let f : ⊥ = cc in absurd f

-- the cells of the packets of the task, as far as they can be counted, and those of the packet that is inserted
pub same_room : (p : Program) (before : ℕ) → before ≡ min (length (packet_kinds p.packets)) 18446744073709551615
    → cells_fit (before + length p.inserted) ≡ cells_fit (length (kinds_in_packets p))
same_room p before is =
    let all = length-append (packet_kinds p.packets) p.inserted in
    by (nat_le (before + length p.inserted) CELLS) (nat_le (length (kinds_in_packets p)) CELLS) refl refl
  where
    by : (s t : Bool) → nat_le (before + length p.inserted) CELLS ≡ s → nat_le (length (kinds_in_packets p)) CELLS ≡ t → s ≡ t
    by true true e f = refl
    by false false e f = refl
    by true false e f =
        let low = leb-true (before + length p.inserted) CELLS e in
        let high = leb-false (length (kinds_in_packets p)) CELLS f in
        absurd (omega (arith, low, high, is, length-append (packet_kinds p.packets) p.inserted))
    by false true e f =
        let high = leb-false (before + length p.inserted) CELLS e in
        let low = leb-true (length (kinds_in_packets p)) CELLS f in
        absurd (omega (arith, low, high, is, length-append (packet_kinds p.packets) p.inserted))

-- what was made is the start
pub control_so : (p : Program) (ks : List Kind) (o : Option Start) (s : Stacked) (used before : ℕ) (own inserted : Bool) (w : Waits) → ks ≡ start_kinds p
    → o ≡ p.start → s ≡ record { ops = []; frames = start_frames o } → used ≡ length ks → own ≡ cells_fit (0 + length ks)
    → before ≡ min (length (packet_kinds p.packets)) 18446744073709551615 → inserted ≡ cells_fit (before + length p.inserted)
    → w ≡ cond (own && inserted) Nothing (Refused CellRoom)
    → record { position = record { pc = 0; ops = s.ops; used = used; frames = s.frames }; waits = w } ≡ start p
control_so p ks o s used before own inserted w ks_is o_is s_is used_is own_is before_is inserted_is w_is =
    let whole : List Operand → ℕ → List Frame → Waits → Control =
    λ os n fs w. record { position = record { pc = 0; ops = os; used = n; frames = fs }; waits = w } in
    let number : length ks ≡ length (start_kinds p) = ap length ks_is in
    let plain : 0 + length ks ≡ length (start_kinds p) = omega (arith, number) in
    let fits : own ≡ cells_fit (length (start_kinds p)) = own_is ∙ ap (λ n. cells_fit n) plain in
    ap (λ (s : Stacked). whole s.ops used s.frames w) s_is
    ∙ ap (λ n. whole [] n (start_frames o) w) (used_is ∙ number) ∙ ap (λ (o : Option Start). whole [] (length (start_kinds p)) (start_frames o) w) o_is
    ∙ ap (whole [] (length (start_kinds p)) (start_frames p.start))
    (w_is ∙ ap (λ t. cond (t && inserted) Nothing (Refused CellRoom)) fits
    ∙ ap (λ t. cond (cells_fit (length (start_kinds p)) && t) Nothing (Refused CellRoom)) (inserted_is ∙ same_room p before before_is))

-- what is put into cells of the command changes none of packets
beside : (ns : List Cell) (at x : ℕ) (cells : Cells) → written_in Run at ns cells (packet_cell x) ≡ cells (packet_cell x)
beside [] at x cells = refl
beside (n ∷ ns) at x cells = beside ns (suc at) x (written cells (run_cell at) n)

still_bare : (kinds : List Kind) (from count : ℕ) (cells : Cells) → AreBare Packets from count cells → AreBare Packets from count (made_in Run 0 kinds cells)
still_bare kinds from count cells bare k le lt = by (cells_fit (0 + length kinds))
  where
    by : (t : Bool) → cell_blocks (cond t (written_in Run 0 (map (λ k. held_of (blank_of k)) kinds) cells) cells (packet_cell k)) ≡ 0
    by true = ap cell_blocks (beside (map (λ k. held_of (blank_of k)) kinds) 0 k cells) ∙ bare k le lt
    by false = bare k le lt

-- where a number of cells was counted as far as it can be
module _ (n before : ℕ) (is : before ≡ min n 18446744073709551615) (kinds : List Kind) where
  counted : cells_fit (before + length kinds) ≡ true → before ≡ n
  counted fits = let low = leb-true (before + length kinds) CELLS fits in omega (arith, low, is)

  same_made : (cells : Cells) → made_in Packets before kinds cells ≡ made_in Packets n kinds cells
  same_made cells = by (cells_fit (before + length kinds)) refl
    where
      by : (t : Bool) → cells_fit (before + length kinds) ≡ t → made_in Packets before kinds cells ≡ made_in Packets n kinds cells
      by true e = ap (λ m. made_in Packets m kinds cells) (counted e)
      by false e =
          let high = leb-false (before + length kinds) CELLS e in
          let none : cells_fit (n + length kinds) ≡ false = grind (arith, nat_tests, high, is) in
          ap (λ t. cond t (written_in Packets before (map (λ k. held_of (blank_of k)) kinds) cells) cells) e
          ∙ ap (λ t. cond t (written_in Packets n (map (λ k. held_of (blank_of k)) kinds) cells) cells) (sym none)

-- variables are made in one area, and then in the other
pub made_so : (p : Program) (before : ℕ) (own inserted : List Kind) (holds middle last : Cells → Type 0) → before ≡ min (length (packet_kinds p.packets)) 18446744073709551615
    → own ≡ start_kinds p → inserted ≡ p.inserted
    → ((cells : Cells) → holds cells → (cells_fit (0 + length own) ≡ true → AreBare Run 0 (length own) cells) → middle (made_in Run 0 own cells))
    → ((cells : Cells) → middle cells → (cells_fit (before + length inserted) ≡ true → AreBare Packets before (length inserted) cells)
    → last (made_in Packets before inserted cells))
    → (cells : Cells) → holds cells → CanBeMade p cells → last (made p cells)
made_so p before own inserted holds middle last is own_is inserted_is one two cells h bare =
    let n = length (packet_kinds p.packets) in
    let first = subst (λ ks. middle (made_in Run 0 ks cells)) own_is (one cells h (λ _. subst (λ ks. AreBare Run 0 (length ks) cells) (sym own_is) bare.0)) in
    let there = made_in Run 0 (start_kinds p) cells in
    let second =
    two there first (λ fits.
    subst (λ m. AreBare Packets m (length inserted) there) (sym (counted n before is inserted fits))
    (subst (λ ks. AreBare Packets n (length ks) there) (sym inserted_is) (still_bare (start_kinds p) n (length p.inserted) cells bare.1))) in
    subst (λ ks. last (made_in Packets n ks there)) inserted_is (subst last (same_made n before is inserted there) second)
