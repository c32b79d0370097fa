-- What is known of the cells of a command at its start: its variables hold their first values, of other cells nothing is known, and there are no data spaces.
use Rattle.std.proofs.Common.{◌≡◌, ℕ, zero, suc, ◌+◌, ◌<◌, ◌≤◌, Bool, true, false, cond, List, [], ◌∷◌, ◌++◌, map, length, None, Some, refl, sym, ap, ◌∙◌, subst, arith}
use Rattle.std.specs.Prelude.{slice_get, replicate, ◌&&◌, ◌==◌}
use Rattle.std.proofs.lemmas.Bool.{eq-eqb}
use Rattle.std.proofs.lemmas.List.{length-map}
use Rattle.eu_base.specs.declared.address.Area.{Area}
use Rattle.eu_base.specs.declared.address.Area.TheVariants.{Run, Packets, Space}
use Rattle.eu_base.specs.declared.value.Kind.{Kind}
use Rattle.eu_base.specs.Room.{cells_fit}
use Rattle.eu_base.specs.Values.{SpaceNo, blank_of}
use Rattle.eu_base.specs.Cells.{Cell, Free, Cells, held_of, area_cell, run_cell, packet_cell, same_area, written}
use Rattle.eu_base.specs.DataSpaces.{heads_of, no_spaces}
use Rattle.eu_base.proofs.Places.{same_there}
use Rattle.line_command.specs.Below.cell_kinds.specs.declared.packet.Packet.{Packet}
use Rattle.line_command.specs.Below.cell_kinds.specs.Kinds.{packet_kinds}
use Rattle.code_form.specs.Program.{Program, start_kinds}
use Rattle.code_form.specs.Machine.{Mem, written_in, made_in, made, CanBeMade}
use Rattle.elan_types.specs.declared.core_phrase.Core.{Core}
use Rattle.elan_types.specs.Eval.{Slot}
use Rattle.elan_types.specs.Command as command
use Rattle.elan_types.specs.Command.{blanks}
use Rattle.line_command.specs.Below.place_gen.specs.Correct.{StandsFor, HasVariables, HasSpaces, HasSlots}
use Rattle.page_pool.specs.Pool.{Pages, Tell, Known}
use Rattle.line_command.specs.Below.page_table.proofs.Framing.{nil_agree, stands_of}
use Rattle.space_memory.specs.Memories.{StandsWhole, roots, new_memory}
use Rattle.line_command.specs.Below.zero_machine.proofs.Written.{at_other, behind}
use Rattle.line_command.specs.Below.code_gen.specs.Correct.{Behaves}
use Rattle.line_command.specs.Below.code_gen.proofs.Plays.{has_blank}

module _ (area : Area) where
  at_same : (cells : Cells) (k : ℕ) (n : Cell) → written cells (area_cell area k) n (area_cell area k) ≡ n
  at_same cells k n = ap (λ (b : Bool). cond b n (cells (area_cell area k))) (same_there area k k ∙ eq-eqb k k refl)

  before : (ns : List Cell) (at x : ℕ) (cells : Cells) → x < at → written_in area at ns cells (area_cell area x) ≡ cells (area_cell area x)
  before [] at x cells lt = refl
  before (n ∷ ns) at x cells lt =
      before ns (suc at) x (written cells (area_cell area at) n) (omega (arith, lt)) ∙ at_other area cells at x n (λ e. omega (arith, lt, e))

  abbrev contents : List Kind → List Cell
  contents kinds = map (λ k. held_of (blank_of k)) kinds

  each_made : (kinds : List Kind) (at x : ℕ) (k : Kind) (cells : Cells) → slice_get kinds x ≡ Some k
      → written_in area at (contents kinds) cells (area_cell area (at + x)) ≡ held_of (blank_of k)
  each_made [] at x k cells is = absurd (cc is)
  each_made (j ∷ kinds) at zero k cells is =
      let e : j ≡ k = cc is in
      let here : at + 0 ≡ at = omega arith in
      let n = held_of (blank_of j) in
      ap (λ y. written_in area (suc at) (contents kinds) (written cells (area_cell area at) n) (area_cell area y)) here
      ∙ before (contents kinds) (suc at) at (written cells (area_cell area at) n) (omega arith) ∙ at_same cells at n ∙ ap (λ k. held_of (blank_of k)) e
  each_made (j ∷ kinds) at (suc x) k cells is =
      let here : at + suc x ≡ suc at + x = omega arith in
      ap (λ y. written_in area (suc at) (contents kinds) (written cells (area_cell area at) (held_of (blank_of j))) (area_cell area y)) here
      ∙ each_made kinds (suc at) x k (written cells (area_cell area at) (held_of (blank_of j))) is

  -- variables were made where nothing was known of the cells of their area
  area_begun : (kinds : List Kind) (cells : Cells) → ((x : ℕ) → cells (area_cell area x) ≡ Free) → HasVariables area kinds (blanks kinds) (made_in area 0 kinds cells)
  area_begun kinds cells free =
      has_blank area kinds (made_in area 0 kinds cells)
      (λ room x k is.
      let here : x ≡ 0 + x = omega arith in
      let none_before : 0 + length kinds ≡ length kinds = omega arith in
      ap (λ b. cond b (written_in area 0 (contents kinds) cells) cells (area_cell area x)) (ap cells_fit none_before ∙ room)
      ∙ ap (λ y. written_in area 0 (contents kinds) cells (area_cell area y)) here ∙ each_made kinds 0 x k cells is)
      (λ x le. unknown (cells_fit (0 + length kinds)) x le)
    where
      unknown : (b : Bool) (x : ℕ) → length kinds ≤ x → cond b (written_in area 0 (contents kinds) cells) cells (area_cell area x) ≡ Free
      unknown true x le =
          let e = length-map kinds (λ k. held_of (blank_of k)) in behind area (contents kinds) 0 x cells (omega (arith, e, le)) ∙ free x
      unknown false x le = free x

  -- so it is where the cells of the area are the same
  same_variables : (kinds : List Kind) (slots : List Slot) (old new : Cells) → ((x : ℕ) → new (area_cell area x) ≡ old (area_cell area x))
      → HasVariables area kinds slots old → HasVariables area kinds slots new
  same_variables kinds slots old new same h = record {
    as_many = h.as_many;
    each = h.each;
    image = λ room x s e. subst (λ (c : Cell). StandsFor c s) (sym (same x)) (h.image room x s e);
    beyond = λ x past. same x ∙ h.beyond x past;
  }

-- what is put into cells of one area changes none of the other
beside_packets : (ns : List Cell) (at x : ℕ) (cells : Cells) → written_in Packets at ns cells (run_cell x) ≡ cells (run_cell x)
beside_packets [] at x cells = refl
beside_packets (n ∷ ns) at x cells = beside_packets ns (suc at) x (written cells (packet_cell at) n)

beside_command : (ns : List Cell) (at x : ℕ) (cells : Cells) → written_in Run at ns cells (packet_cell x) ≡ cells (packet_cell x)
beside_command [] at x cells = refl
beside_command (n ∷ ns) at x cells = beside_command ns (suc at) x (written cells (run_cell at) n)

beside_spaces : (area : Area) (s : SpaceNo) → same_area (Space s) area ≡ false → (ns : List Cell) (at x : ℕ) (cells : Cells)
    → written_in area at ns cells (area_cell (Space s) x) ≡ cells (area_cell (Space s) x)
beside_spaces area s other [] at x cells = refl
beside_spaces area s other (n ∷ ns) at x cells =
    beside_spaces area s other ns (suc at) x (written cells (area_cell area at) n) ∙ ap (λ (b : Bool). cond (b && x == at) n (cells (area_cell (Space s) x))) other

-- nothing is known
abbrev none : Cells
none = λ _. Free

abbrev cells_begun : Program → Cells
cells_begun p = made p none

-- and there are no data spaces
abbrev pub begun : Program → Mem
begun p = record { cells = cells_begun p; heads = heads_of no_spaces }

has_no_spaces : (m : Mem) → m.heads ≡ heads_of no_spaces → ((s : SpaceNo) (x : ℕ) → m.cells (area_cell (Space s) x) ≡ Free) → HasSpaces no_spaces m
has_no_spaces m none_there free = record {
  heads = none_there;
  sound = record { each = tt; given = omega arith; named = tt };
  given = record { rise = omega arith; fit = tt };
  each = λ s. record {
    as_many = refl;
    each = λ x k is. absurd (cc is);
    image = λ room x slot is. absurd (cc is);
    beyond = λ x past. free s x;
  };
}

has_made : (p : Program) → p.packets ≡ [] → HasSlots p (blanks (start_kinds p)) (blanks p.inserted) no_spaces (begun p)
has_made p alone = record {
  command =
      same_variables Run (start_kinds p) (blanks (start_kinds p)) own (made_in Packets (length (packet_kinds p.packets)) p.inserted own)
      (λ x. still (cells_fit (length (packet_kinds p.packets) + length p.inserted)) x) (area_begun Run (start_kinds p) none (λ x. refl));
  packets =
      subst (λ (ps : List Packet). HasVariables Packets (packet_kinds ps ++ p.inserted) (blanks p.inserted)
      (made_in Packets (length (packet_kinds ps)) p.inserted own)) (sym alone)
      (area_begun Packets p.inserted own (λ x. unmade (cells_fit (0 + length (start_kinds p))) x));
  spaces =
      has_no_spaces (begun p) refl
      (λ s x. beside (cells_fit (length (packet_kinds p.packets) + length p.inserted)) s x ∙ gone (cells_fit (0 + length (start_kinds p))) s x);
}
  where
    own : Cells
    own = made_in Run 0 (start_kinds p) none

    still : (t : Bool) (x : ℕ)
        → cond t (written_in Packets (length (packet_kinds p.packets)) (map (λ k. held_of (blank_of k)) p.inserted) own) own (run_cell x) ≡ own (run_cell x)
    still true x = beside_packets (map (λ k. held_of (blank_of k)) p.inserted) (length (packet_kinds p.packets)) x own
    still false x = refl

    unmade : (t : Bool) (x : ℕ) → cond t (written_in Run 0 (map (λ k. held_of (blank_of k)) (start_kinds p)) none) none (packet_cell x) ≡ Free
    unmade true x = beside_command (map (λ k. held_of (blank_of k)) (start_kinds p)) 0 x none
    unmade false x = refl

    beside : (t : Bool) (s : SpaceNo) (x : ℕ)
        → cond t (written_in Packets (length (packet_kinds p.packets)) (map (λ k. held_of (blank_of k)) p.inserted) own) own (area_cell (Space s) x)
        ≡ own (area_cell (Space s) x)
    beside true s x = beside_spaces Packets s refl (map (λ k. held_of (blank_of k)) p.inserted) (length (packet_kinds p.packets)) x own
    beside false s x = refl

    gone : (t : Bool) (s : SpaceNo) (x : ℕ)
        → cond t (written_in Run 0 (map (λ k. held_of (blank_of k)) (start_kinds p)) none) none (area_cell (Space s) x) ≡ Free
    gone true s x = beside_spaces Run s refl (map (λ k. held_of (blank_of k)) (start_kinds p)) 0 x none
    gone false s x = refl

-- so has the code of a command without packets
pub has_begun : (core : Core) (p : Program) → Behaves core p → core.packets ≡ []
    → HasSlots p (blanks (command.start_kinds core)) (blanks core.inserted) no_spaces (begun p)
has_begun core p b alone =
    subst (λ ks. HasSlots p (blanks ks) (blanks core.inserted) no_spaces (begun p)) b.first
    (subst (λ ks. HasSlots p (blanks (start_kinds p)) (blanks ks) no_spaces (begun p)) b.inserted (has_made p (b.packets ∙ alone)))

-- memory holds it when the variables were made
pub holds_begun : (p : Program) (before after : Cells → Type 0) → before none → ((cells : Cells) → before cells → CanBeMade p cells → after (made p cells))
    → after (begun p).cells
holds_begun p before after nothing put = put none nothing ((λ k le lt. refl), (λ k le lt. refl))

-- a pool without pages, over what reads as zeros
abbrev pub empty : Pages
empty = record { slots = []; clean = [] }

abbrev pub zeros : Tell
zeros = Some (λ block. replicate 512 0)

pub new_known : (pages : Pages) → pages ≡ empty → Known zeros pages
new_known pages is = subst (Known zeros) (sym is) (record { told = refl; kept = λ p block bytes home has. absurd (cc home) })

-- it has room for all spaces of a new memory
pub new_whole : StandsWhole empty (roots new_memory)
new_whole = record {
  few = omega arith;
  stands = stands_of empty (None ∷ None ∷ []) [] 16 (omega arith) ∣ nil_agree (None ∷ None ∷ []) (λ p. omega arith) (omega arith) ∣₁;
}
