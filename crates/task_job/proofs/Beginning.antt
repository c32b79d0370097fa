-- What is known of the cells of a command at its start: its variables, and those of a packet that is inserted, hold their first values, those
-- of the packets of its task what they held, and of other cells nothing is known.
use Rattle.std.proofs.Common.{◌≡◌, ℕ, zero, suc, ◌+◌, ◌<◌, ◌≤◌, ◌⊎◌, inl, inr, ⊎_elim, Bool, true, false, cond, List, [], ◌∷◌, ◌++◌, map, length, Option, Some, None, refl, sym, ap, ◌∙◌, subst, arith}
use Rattle.std.specs.Prelude.{◌==◌, ◌&&◌, slice_get}
use Rattle.std.proofs.lemmas.Bool.{eq-eqb, ne_eqb, leb-true, le-leb}
use Rattle.std.proofs.lemmas.List.{length-map, length-append}
use Rattle.std.proofs.lemmas.Option.{slice_get_past, slice_get_within}
use Rattle.eu_base.specs.declared.address.Area.{Area}
use Rattle.eu_base.specs.declared.address.Area.TheVariants.{Run, Packets, Space}
use Rattle.eu_base.specs.declared.address.TheConstants.{CELLS}
use Rattle.eu_base.specs.declared.value.Kind.{Kind}
use Rattle.eu_base.specs.Room.{cells_fit}
use Rattle.eu_base.specs.Values.{SpaceNo, blank_of}
use Rattle.eu_base.specs.Cells.{Cell, Free, Cells, held_of, same_area, area_cell, run_cell, packet_cell, space_cell, written, cell_blocks}
use Rattle.eu_base.specs.DataSpaces.{Heads, Spaces, heads_of}
use Rattle.eu_base.specs.SpacePlaces.{kinds_of, values_of}
use Rattle.eu_base.proofs.Places.{same_there}
use Rattle.task_job.specs.Below.cell_kinds.specs.Kinds.{packet_kinds}
use Rattle.code_form.specs.Program.{Program, start_kinds, kinds_in_packets}
use Rattle.code_form.specs.Machine.{written_in, made_in, made, CanBeMade, start}
use Rattle.code_form.specs.Runs.{Rests}
use Rattle.code_form.proofs.Spent.{stands_first}
use Rattle.task_job.specs.Below.zero_state.specs.Stepping.{mem_of}
use Rattle.elan_types.specs.declared.core_phrase.Core.{Core}
use Rattle.elan_types.specs.Eval.{Slot, Holds}
use Rattle.elan_types.specs.Command.{blanks}
use Rattle.task_job.specs.Below.place_gen.specs.Correct.{StandsFor, Image, HasVariables, HasSpaces, HasSlots}
use Rattle.task_job.specs.Below.code_gen.specs.Codes.{IsCodeOf}
use Rattle.task_job.specs.Below.code_gen.proofs.Coding.{code_behaves}
use Rattle.task_job.specs.Below.code_gen.proofs.Plays.{has_blank}
use Rattle.task_job.specs.Runs.{Reaches}

-- ---- two lists, one after the other

in_first : {A : Type 0} (xs ys : List A) (x : ℕ) (y : A) → slice_get xs x ≡ Some y → slice_get (xs ++ ys) x ≡ Some y
in_first [] ys x y e = absurd (cc e)
in_first (a ∷ xs) ys zero y e = e
in_first (a ∷ xs) ys (suc x) y e = in_first xs ys x y e

in_second : {A : Type 0} (xs ys : List A) (j : ℕ) (y : A) → slice_get ys j ≡ Some y → slice_get (xs ++ ys) (length xs + j) ≡ Some y
in_second [] ys j y e = let same : 0 + j ≡ j = omega arith in subst (λ n. slice_get ys n ≡ Some y) (sym same) e
in_second (a ∷ xs) ys j y e =
    let same : suc (length xs) + j ≡ suc (length xs + j) = omega arith in
    subst (λ n. slice_get (a ∷ (xs ++ ys)) n ≡ Some y) (sym same) (in_second xs ys j y e)

in_two : {A : Type 0} (xs ys : List A) (x : ℕ) (y : A) → slice_get (xs ++ ys) x ≡ Some y
    → (slice_get xs x ≡ Some y) ⊎ ((j : ℕ) × (x ≡ length xs + j) × (slice_get ys j ≡ Some y))
in_two [] ys x y e = inr (x, omega arith, e)
in_two (a ∷ xs) ys zero y e = inl e
in_two (a ∷ xs) ys (suc x) y e = ⊎_elim (λ h. inl h) (λ h. let same = h.1 in inr (h.0, omega (arith, same), h.2)) (in_two xs ys x y e)

fewer_fit : (m n : ℕ) → m ≤ n → cells_fit n ≡ true → cells_fit m ≡ true
fewer_fit m n le e = let low = leb-true n CELLS e in le-leb m CELLS (omega (arith, low, le))

-- ---- variables are made behind others

first_in : Option Kind → Cell
first_in None = Free
first_in (Some k) = held_of (blank_of k)

module _ (area : Area) where
  at_same : (cells : Cells) (k : ℕ) (n : Cell) → written cells (area_cell area k) n (area_cell area k) ≡ n
  at_same cells k n = ap (λ (b : Bool). cond b n (cells (area_cell area k))) (same_there area k k ∙ eq-eqb k k refl)

  other_at : (cells : Cells) (k x : ℕ) (n : Cell) → (x ≡ k → ⊥) → written cells (area_cell area k) n (area_cell area x) ≡ cells (area_cell area x)
  other_at cells k x n ne = ap (λ b. cond b n (cells (area_cell area x))) (same_there area x k ∙ ne_eqb x k ne)

  before : (ns : List Cell) (at x : ℕ) (cells : Cells) → x < at → written_in area at ns cells (area_cell area x) ≡ cells (area_cell area x)
  before [] at x cells lt = refl
  before (n ∷ ns) at x cells lt =
      before ns (suc at) x (written cells (area_cell area at) n) (omega (arith, lt)) ∙ other_at cells at x n (λ e. omega (arith, lt, e))

  behind : (ns : List Cell) (at x : ℕ) (cells : Cells) → at + length ns ≤ x → written_in area at ns cells (area_cell area x) ≡ cells (area_cell area x)
  behind [] at x cells le = refl
  behind (n ∷ ns) at x cells le =
      behind ns (suc at) x (written cells (area_cell area at) n) (omega (arith, le)) ∙ other_at cells at x n (λ e. omega (arith, le, e))

  abbrev contents : List Kind → List Cell
  contents kinds = map (λ k. held_of (blank_of k)) kinds

  -- cells that hold the first values of variables of these kinds, and no more
  abbrev fresh : List Kind → Cells
  fresh kinds = λ a. first_in (slice_get kinds a.cell)

  has_fresh : (kinds : List Kind) → HasVariables area kinds (blanks kinds) (fresh kinds)
  unfolding first_in
  has_fresh kinds = has_blank area kinds (fresh kinds) (λ room x k is. ap first_in is) (λ x past. ap first_in (slice_get_past kinds x past))

  each_made : (kinds : List Kind) (at j : ℕ) (cells : Cells) → j < length kinds
      → written_in area at (contents kinds) cells (area_cell area (at + j)) ≡ fresh kinds (area_cell area j)
  unfolding first_in
  each_made [] at j cells lt = absurd (omega (arith, lt))
  each_made (k ∷ kinds) at zero cells lt =
      let here : at + 0 ≡ at = omega arith in
      let n = held_of (blank_of k) in
      ap (λ y. written_in area (suc at) (contents kinds) (written cells (area_cell area at) n) (area_cell area y)) here
      ∙ before (contents kinds) (suc at) at (written cells (area_cell area at) n) (omega arith) ∙ at_same cells at n
  each_made (k ∷ kinds) at (suc j) cells lt =
      let here : at + suc j ≡ suc at + j = omega arith in
      ap (λ y. written_in area (suc at) (contents kinds) (written cells (area_cell area at) (held_of (blank_of k))) (area_cell area y)) here
      ∙ each_made kinds (suc at) j (written cells (area_cell area at) (held_of (blank_of k))) (omega (arith, lt))

  module _ (kinds more : List Kind) (slots : List Slot) (cells : Cells) (h : HasVariables area kinds slots cells) where
    abbrev with_more : Cells
    with_more = made_in area (length kinds) more cells

    -- the cells before them are as they were
    same_before : (x : ℕ) → x < length kinds → with_more (area_cell area x) ≡ cells (area_cell area x)
    same_before x lt = by (cells_fit (length kinds + length more))
      where
        by : (b : Bool) → cond b (written_in area (length kinds) (contents more) cells) cells (area_cell area x) ≡ cells (area_cell area x)
        by true = before (contents more) (length kinds) x cells lt
        by false = refl

    unknown : (x : ℕ) → length (kinds ++ more) ≤ x → with_more (area_cell area x) ≡ Free
    unknown x past =
        let many : length (kinds ++ more) ≡ length kinds + length more = length-append kinds more in
        by (cells_fit (length kinds + length more)) (omega (arith, past, many))
      where
        by : (b : Bool) → length kinds + length more ≤ x → cond b (written_in area (length kinds) (contents more) cells) cells (area_cell area x) ≡ Free
        by true le =
            let e : length (contents more) ≡ length more = length-map more (λ k. held_of (blank_of k)) in
            behind (contents more) (length kinds) x cells (omega (arith, e, le)) ∙ h.beyond x (omega (arith, le))
        by false le = h.beyond x (omega (arith, le))

    many_slots : length (slots ++ blanks more) ≡ length kinds + length more
    many_slots =
        let a : length (slots ++ blanks more) ≡ length slots + length (blanks more) = length-append slots (blanks more) in
        omega (arith, a, h.as_many, (has_fresh more).as_many)

    pub front_made : Image area slots with_more
    front_made = λ fit x s e.
        let lt = slice_get_within slots x s e in
        subst (λ n. StandsFor n s) (sym (same_before x (omega (arith, lt, h.as_many)))) (h.image fit x s e)

    last_made : cells_fit (length (slots ++ blanks more)) ≡ true → (j : ℕ) (s : Slot) → slice_get (blanks more) j ≡ Some s
        → StandsFor (with_more (area_cell area (length kinds + j))) s
    last_made fit j s e =
        let f = has_fresh more in
        let lt = slice_get_within (blanks more) j s e in
        let there : with_more (area_cell area (length kinds + j)) ≡ fresh more (area_cell area j) =
        ap (λ b. cond b (written_in area (length kinds) (contents more) cells) cells (area_cell area (length kinds + j)))
        (ap cells_fit (sym many_slots) ∙ fit)
        ∙ each_made more (length kinds) j cells (omega (arith, lt, f.as_many)) in
        subst (λ n. StandsFor n s) (sym there)
        (f.image (fewer_fit (length (blanks more)) (length (slots ++ blanks more)) (omega (arith, many_slots, f.as_many)) fit) j s e)

    pub more_made : HasVariables area (kinds ++ more) (slots ++ blanks more) with_more
    more_made = record {
      as_many = let many : length (kinds ++ more) ≡ length kinds + length more = length-append kinds more in omega (arith, many, many_slots);
      each = λ x k is.
          ⊎_elim
          (λ e. let y = h.each x k e in (y.0, in_first slots (blanks more) x (Holds y.0) y.1, y.2))
          (λ e.
          let y = (has_fresh more).each e.0 k e.2 in
          let at : x ≡ length slots + e.0 = let there = e.1 in omega (arith, there, h.as_many) in (
            y.0,
            subst (λ n. slice_get (slots ++ blanks more) n ≡ Some (Holds y.0)) (sym at) (in_second slots (blanks more) e.0 (Holds y.0) y.1),
            y.2,
          ))
          (in_two kinds more x k is);
      image = λ fit x s is.
          ⊎_elim
          (λ e. front_made (fewer_fit (length slots) (length (slots ++ blanks more)) (let n = length-append slots (blanks more) in omega (arith, n)) fit) x s e)
          (λ e.
          let at : x ≡ length kinds + e.0 = let there = e.1 in omega (arith, there, h.as_many) in
          subst (λ n. StandsFor (with_more (area_cell area n)) s) (sym at) (last_made fit e.0 s e.2))
          (in_two slots (blanks more) x s is);
      beyond = unknown;
    }

  pub no_variables : (cells : Cells) → ((x : ℕ) → cells (area_cell area x) ≡ Free) → HasVariables area [] [] cells
  no_variables cells free = record {
    as_many = refl;
    each = λ x k e. absurd (cc e);
    image = λ fit x s e. absurd (cc e);
    beyond = λ x past. free x;
  }

  -- so it is where the cells of the area are the same
  pub same_variables : (kinds : List Kind) (slots : List Slot) (old new : Cells) → ((x : ℕ) → new (area_cell area x) ≡ old (area_cell area x))
      → HasVariables area kinds slots old → HasVariables area kinds slots new
  same_variables kinds slots old new same h = record {
    as_many = h.as_many;
    each = h.each;
    image = λ room x s e. subst (λ (c : Cell). StandsFor c s) (sym (same x)) (h.image room x s e);
    beyond = λ x past. same x ∙ h.beyond x past;
  }

-- what is put into cells of one area changes none of another
beside : (area other : Area) → same_area other area ≡ false → (ns : List Cell) (at x : ℕ) (cells : Cells)
    → written_in area at ns cells (area_cell other x) ≡ cells (area_cell other x)
beside area other apart [] at x cells = refl
beside area other apart (n ∷ ns) at x cells =
    beside area other apart ns (suc at) x (written cells (area_cell area at) n)
    ∙ ap (λ (b : Bool). cond (b && x == at) n (cells (area_cell other x))) apart

-- nor do variables that are made there
beside_made : (area other : Area) → same_area other area ≡ false → (at : ℕ) (kinds : List Kind) (x : ℕ) (cells : Cells)
    → made_in area at kinds cells (area_cell other x) ≡ cells (area_cell other x)
beside_made area other apart at kinds x cells = by (cells_fit (at + length kinds))
  where
    by : (b : Bool) → cond b (written_in area at (map (λ k. held_of (blank_of k)) kinds) cells) cells (area_cell other x) ≡ cells (area_cell other x)
    by true = beside area other apart (map (λ k. held_of (blank_of k)) kinds) at x cells
    by false = refl

module _ (p : Program) (slots : List Slot) (spaces : Spaces) (heads : Heads) (cells : Cells)
    (h : HasVariables Packets (packet_kinds p.packets) slots cells) (there : HasSpaces spaces (mem_of heads cells))
    (command : (x : ℕ) → cells (run_cell x) ≡ Free) where
  -- the variables of the command are made first
  abbrev own : Cells
  own = made_in Run 0 (start_kinds p) cells

  packets_still : (x : ℕ) → own (packet_cell x) ≡ cells (packet_cell x)
  packets_still x = beside_made Run Packets refl 0 (start_kinds p) x cells

  command_still : (x : ℕ) → made p cells (run_cell x) ≡ own (run_cell x)
  command_still x = beside_made Packets Run refl (length (packet_kinds p.packets)) p.inserted x own

  space_still : (s : SpaceNo) (x : ℕ) → made p cells (space_cell s x) ≡ cells (space_cell s x)
  space_still s x =
      beside_made Packets (Space s) refl (length (packet_kinds p.packets)) p.inserted x own
      ∙ beside_made Run (Space s) refl 0 (start_kinds p) x cells

  packets_first : HasVariables Packets (packet_kinds p.packets) slots own
  packets_first = same_variables Packets (packet_kinds p.packets) slots cells own packets_still h

  -- no data space changes
  spaces_there : HasSpaces spaces (mem_of heads (made p cells))
  spaces_there = record {
    heads = there.heads;
    sound = there.sound;
    given = there.given;
    each = λ s. same_variables (Space s) (kinds_of s (heads_of spaces)) (map Holds (values_of s spaces)) cells (made p cells) (space_still s) (there.each s);
  }

  has_made : HasSlots p (blanks (start_kinds p)) (slots ++ blanks p.inserted) spaces (mem_of heads (made p cells))
  has_made = record {
    command =
        same_variables Run (start_kinds p) (blanks (start_kinds p)) own (made p cells) command_still
        (more_made Run [] (start_kinds p) [] cells (no_variables Run cells command));
    packets = more_made Packets (packet_kinds p.packets) p.inserted slots own packets_first;
    spaces = spaces_there;
  }

  front_held : Image Packets slots (made p cells)
  front_held = front_made Packets (packet_kinds p.packets) p.inserted slots own packets_first

  unmade : cells_fit (length (kinds_in_packets p)) ≡ false → (x : ℕ) → length slots ≤ x → made p cells (packet_cell x) ≡ Free
  unmade full x past =
      let sum : length (packet_kinds p.packets) + length p.inserted ≡ length (packet_kinds p.packets ++ p.inserted) =
      sym (length-append (packet_kinds p.packets) p.inserted) in
      ap
      (λ b. cond b (written_in Packets (length (packet_kinds p.packets)) (map (λ k. held_of (blank_of k)) p.inserted) own) own (packet_cell x))
      (ap cells_fit sum ∙ full)
      ∙ packets_first.beyond x (omega (arith, past, h.as_many))

  -- the cells of the variables that are made have no blocks
  pub can_be_made : CanBeMade p cells
  can_be_made = (λ k le lt. ap cell_blocks (command k), λ k le lt. ap cell_blocks (h.beyond k le))

  pub begins : (core : Core) → IsCodeOf core p → Reaches core slots spaces 0 [] p (start p) (mem_of heads (made p cells))
  begins core i = let b = code_behaves core p i in record {
    code_is = i;
    first = mem_of heads (made p cells);
    has =
        subst (λ ks. HasSlots p (blanks ks) (slots ++ blanks core.inserted) spaces (mem_of heads (made p cells))) b.first
        (subst (λ ks. HasSlots p (blanks (start_kinds p)) (slots ++ blanks ks) spaces (mem_of heads (made p cells))) b.inserted has_made);
    front = front_held;
    bare = unmade;
    contents = tt;
    stands = stands_first p (start p) (mem_of heads (made p cells));
    comes = λ marks more last g.
        let e : 0 + marks ≡ marks = omega arith in
        subst (λ n. Rests p (start p) (record { mem = mem_of heads (made p cells); marks = n; replies = more }) last) e g;
  }
