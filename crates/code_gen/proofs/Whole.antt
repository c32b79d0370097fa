-- The code of a whole command does what the command does.
use Rattle.std.proofs.Common.{◌≡◌, ℕ, zero, suc, ◌+◌, ◌≤◌, List, [], ◌∷◌, ◌++◌, map, length, Option, Some, None, Bool, true, false, cond, ◌&&◌, refl, sym, ap, ◌∙◌, subst, arith}
use Rattle.std.specs.Prelude.{slice_get, option_map}
use Rattle.std.proofs.lemmas.List.{length-map}
use Rattle.std.proofs.lemmas.Bool.{leb-true}
use Rattle.std.proofs.lemmas.Option.{slice_get-map, slice_get_within, slice_get-get_or}
use Rattle.eu_base.specs.declared.address.TheConstants.{CELLS}
use Rattle.eu_base.specs.declared.stop.Stop.TheVariants.{CellRoom}
use Rattle.eu_base.specs.declared.value.Kind.{Kind}
use Rattle.eu_base.specs.declared.value.Kind.TheVariants as kinds
use Rattle.eu_base.specs.declared.value.Value.TheVariants.{Int, Truth, Text, Task, Space}
use Rattle.eu_base.specs.Values.{IsOf}
use Rattle.eu_base.specs.declared.shape.Shape.{Shape}
use Rattle.eu_base.specs.declared.value.Value.{Value}
use Rattle.eu_base.specs.Room.{cells_fit}
use Rattle.eu_base.specs.declared.address.Area.{Area}
use Rattle.eu_base.specs.declared.address.Area.TheVariants.{Run, Packets}
use Rattle.eu_base.specs.declared.address.Area.TheVariants as areas
use Rattle.eu_base.specs.SoundSpaces.{AllCanCome}
use Rattle.eu_base.specs.DataSpaces.{Spaces, heads_of}
use Rattle.eu_base.specs.SpacePlaces.{kinds_of, values_of}
use Rattle.std.proofs.lemmas.Bool.Decides.{nat_tests}
use Rattle.eu_base.specs.Cells.{Cell, Free, Word, Letters, Cells, held_of, area_cell, run_cell}
use Rattle.code_form.specs.declared.halt.Halt.TheVariants as halts
use Rattle.code_form.specs.declared.waits.Waits.TheVariants.{Nothing, Refused}
use Rattle.code_form.specs.declared.instr.Instr.TheVariants.{End}
use Rattle.code_form.specs.declared.code.Entry.{Entry}
use Rattle.code_form.specs.Program as tables
use Rattle.code_form.specs.Program.{Program, kinds_at, start_kinds, at_level, in_body}
use Rattle.code_form.specs.Machine.{Mem, Frame, Position, free, at, start_frames, start}
use Rattle.code_form.proofs.Resume.{one_rest}
use Rattle.elan_types.specs.declared.core_phrase.Body.{Body}
use Rattle.elan_types.specs.declared.core_phrase.Core.{Core}
use Rattle.elan_types.specs.declared.core_phrase.Exit.{Exit}
use Rattle.elan_types.specs.declared.core_phrase.Exit.TheVariants as exits
use Rattle.elan_types.specs.declared.core_phrase.Scope.TheVariants as scopes
use Rattle.elan_types.specs.declared.core_phrase.Content.TheVariants.{Units}
use Rattle.elan_types.specs.Typing.{outside_of, result_of_content, IsStart, StartsSo, IsWellTyped}
use Rattle.elan_types.specs.Eval.{Slot, Holds, Taken, slot_at, World, Outcome, Gives, Left, Stopped, OutOfMarks, Asks, bind, branch, slot_blocks, cut, called, content, all, act, level}
use Rattle.elan_types.specs.Command as endings
use Rattle.elan_types.specs.Command.{Ending, ending, from_level, first_kinds, run_started, run_from, evaluate_from}
use Rattle.place_gen.specs.Stretch.{Stretch, keeps, all_code, action_code, content_code}
use Rattle.place_gen.specs.Correct.{StandsFor, HasVariables, HasSpaces, HasAll, Shows, Comes, scene_of}
use Rattle.place_gen.proofs.Lines.{HasAt, has_front, has_rest}
use Rattle.place_gen.proofs.Homes.{Delivers, LeftBy}
use Rattle.place_gen.proofs.Cells.{Use, OfValue, OfNothing, Uses, Kept, KeepsIn, KeepsSpaces, fit_at, Keeps}
use Rattle.place_gen.proofs.Carry.{P, finish, Result, result_ops, Ends, Exits, Stands, Within, end_ends, here}
use Rattle.place_gen.proofs.Forms.{IsAction}
use Rattle.place_gen.proofs.Tree.{all_are}
use Rattle.code_gen.specs.Program.{call_code, started_lines, started_at, size_from, lines_from, start_from, entry_of, program_of}
use Rattle.code_gen.specs.Correct.{Behaves}
use Rattle.code_gen.proofs.Tables.{agrees, entry_at, entry_from, has_first, has_bodies}
use Rattle.code_gen.proofs.Entered.{call_uses}
use Rattle.code_gen.proofs.Level.{IsMade, frame_own, call_exits, stands_called, level_carries}
use Rattle.code_gen.proofs.Bodies.{IsContentSized, body_has, content_sized, content_carries}

finish_ending : (o : Outcome (Unit {0})) → finish o (λ _ w. endings.Ended w) (λ e v w. endings.Ended w) ≡ ending o
finish_ending (Gives a w) = refl
finish_ending (Left e v w) = refl
finish_ending (Stopped s w) = refl
finish_ending (OutOfMarks w) = refl
finish_ending (Asks q w) = refl

-- the variables of the level alone are in use
abbrev level_uses : List Kind → Uses
level_uses kinds = map OfValue kinds

some_is : {A : Type 0} (a b : A) → Some a ≡ Some b → a ≡ b
some_is a b e = cc

-- cells of an area that hold slots with a value for each variable keep them
kept_slots : (area : Area) (P kinds : List Kind) (slots : List Slot) (cells : Cells) → HasVariables area kinds slots cells → cells_fit (length kinds) ≡ true
    → KeepsIn area P (level_uses kinds) slots cells
kept_slots area P kinds slots cells h room = record {
  as_many = h.as_many ∙ sym (length-map kinds OfValue);
  each = λ x u e. by x u (slice_get kinds x) refl (sym (slice_get-map OfValue kinds x) ∙ e);
  beyond = λ x past. h.beyond x (omega (arith, past, length-map kinds OfValue));
}
  where
    by : (x : ℕ) (u : Use) (k : Option Kind) → slice_get kinds x ≡ k → option_map OfValue k ≡ Some u
        → Kept P (level_uses kinds) x u (slot_at slots x) (cells (area_cell area x))
    by x u None is e = let f : ⊥ = cc in absurd f
    by x u (Some k) is e =
        let v = h.each x k is in
        let within = slice_get_within slots x (Holds v.0) v.1 in
        let slot : slot_at slots x ≡ Holds v.0 = some_is _ _ (sym (slice_get-get_or slots x Taken within) ∙ v.1) in
        subst (λ u. Kept P (level_uses kinds) x u (slot_at slots x) (cells (area_cell area x))) (some_is (OfValue k) u e)
        (v.0, slot, v.2, h.image (subst (λ n. cells_fit n ≡ true) (sym h.as_many) room) x (Holds v.0) v.1)

-- and so it is with the data spaces
kept_spaces : (P : List Kind) (spaces : Spaces) (m : Mem) → HasSpaces spaces m → KeepsSpaces P spaces m
kept_spaces P spaces m h = record {
  heads = h.heads;
  sound = h.sound;
  given = h.given;
  each = λ s.
      let fit = fit_at s (heads_of spaces) h.given in
      kept_slots (areas.Space s) P (kinds_of s (heads_of spaces)) (map Holds (values_of s spaces)) m.cells (h.each s) (grind (arith, nat_tests, fit));
}

-- a PROC in whose call the command starts ends it, however it is left
finish_started : (o : Outcome (Option (List Value)))
    → finish o (λ v w. endings.Ended (cut 0 w)) (λ x v w. endings.Ended (cut 0 w)) ≡ ending (bind (called 0 o) (λ _. Gives (tt {0})))
finish_started (Gives a w) = refl
finish_started (Left e v w) = refl
finish_started (Stopped s w) = refl
finish_started (OutOfMarks w) = refl
finish_started (Asks q w) = refl

abbrev word_in : Cell → ℕ
word_in (Word n) = n
word_in (Letters t) = 0
word_in Free = 0

-- a number may stand in a cell of a call
counts : (P : List Kind) (L : Uses) (at : ℕ) (s : Slot) (n : Cell) → Kept P L at (OfValue kinds.Int) s n → Kept P L at OfNothing s n
counts P L at s n g = by g.0 g.1 g.2 g.3
  where
    by : (v : Value) → s ≡ Holds v → IsOf kinds.Int v → n ≡ held_of v → Kept P L at OfNothing s n
    by (Int z) e f h = (word_in (held_of (Int z)), h, ap slot_blocks e, subst (StandsFor n) (sym e) h)
    by (Truth b) e f h = absurd f
    by (Text t) e f h = absurd f
    by (Task n) e f h = absurd f
    by (Space s) e f h = absurd f

-- what holds a value does so whatever other cells are for
value_kept : (P : List Kind) (L M : Uses) (at : ℕ) (k : Option Kind) (u : Use) (s : Slot) (n : Cell) → option_map OfValue k ≡ Some u → Kept P L at u s n → Kept P M at u s n
value_kept P L M at None u s n e g = let f : ⊥ = cc in absurd f
value_kept P L M at (Some k) u s n e g =
    let is = some_is (OfValue k) u e in subst (λ u. Kept P M at u s n) is (subst (λ u. Kept P L at u s n) (sym is) g)

-- the cells of a call without parameters
call_kept : (P vs : List Kind) (slots : List Slot) (cells : Cells) → HasVariables Run (kinds.Int ∷ kinds.Int ∷ vs) slots cells
    → cells_fit (length (kinds.Int ∷ kinds.Int ∷ vs)) ≡ true → KeepsIn Run P (call_uses (map OfValue vs)) slots cells
call_kept P vs slots cells h room = record { as_many = k.as_many; each = each; beyond = k.beyond }
  where
    k : KeepsIn Run P (level_uses (kinds.Int ∷ kinds.Int ∷ vs)) slots cells
    k = kept_slots Run P (kinds.Int ∷ kinds.Int ∷ vs) slots cells h room

    first : (x : ℕ) (u : Use) → slice_get (level_uses (kinds.Int ∷ kinds.Int ∷ vs)) x ≡ Some (OfValue kinds.Int) → OfNothing ≡ u
        → Kept P (call_uses (map OfValue vs)) x u (slot_at slots x) (cells (run_cell x))
    first x u e is =
        subst (λ u. Kept P (call_uses (map OfValue vs)) x u (slot_at slots x) (cells (run_cell x))) is (counts P (call_uses (map OfValue vs)) x (slot_at slots x) (cells (run_cell x)) (k.each x (OfValue kinds.Int) e))

    each : (x : ℕ) (u : Use) → slice_get (call_uses (map OfValue vs)) x ≡ Some u → Kept P (call_uses (map OfValue vs)) x u (slot_at slots x) (cells (run_cell x))
    each zero u e = first 0 u refl (some_is OfNothing u e)
    each (suc zero) u e = first 1 u refl (some_is OfNothing u e)
    each (suc (suc x)) u e =
        value_kept P (level_uses (kinds.Int ∷ kinds.Int ∷ vs)) (call_uses (map OfValue vs)) (suc (suc x)) (slice_get vs x) u (slot_at slots (suc (suc x))) (cells (run_cell (suc (suc x))))
        (sym (slice_get-map OfValue vs x) ∙ e) (k.each (suc (suc x)) u e)

module _ (core : Core) (typed : IsWellTyped core) where
  abbrev p : Program
  p = program_of core

  abbrev units : Stretch
  units = all_code (map action_code core.units)

  -- the units of the level
  level_is : IsAction p None (all (map act core.units)) units
  level_is = all_are p (outside_of core) core.bodies (agrees core typed) None tt core.units typed.typed

  made : (q : ℕ) (e : Entry) → slice_get p.bodies q ≡ Some e → IsMade p core.bodies q e
  made q e entry =
      let x = entry_from core.bodies (size_from core.start core) q e entry in
      let sized =
      λ (n : ℕ) (b : Body) (is : slice_get core.bodies n ≡ Some b).
      content_sized p (outside_of core) core.bodies (agrees core typed) n (b, is) b.content (typed.bodies n b is) in
      let n : 0 + q ≡ q = omega arith in
      let has =
      subst (λ n. HasAt p.lines e.first ((content_code x.0.content).lines [] (in_body n) e.first)) n
      (body_has p.lines core.bodies 0 (size_from core.start core) q x.0 e sized (has_bodies core typed) x.1.1 entry) in
      let gives : Delivers p (Some q) (result_of_content x.0.content) = (e, entry, ap (λ (e : Entry). e.delivers) x.1.2) in
      record {
        body = x.0;
        is = x.1.1;
        layout = ap (λ (e : Entry). e.layout) x.1.2;
        carry = content_carries p (outside_of core) core.bodies (agrees core typed) q (x.0, x.1.1) e.first x.0.content (typed.bodies q x.0 x.1.1) has gives;
      }

  -- where the cells of the start have room
  abbrev top : Option ℕ → Position
  top o = record { pc = 0; ops = []; used = length (kinds_at p (start_from o core)); frames = start_frames (start_from o core) }

  abbrev HasFirst : Option ℕ → Type 0
  HasFirst o = HasAt p.lines 0 (lines_from o core)

  abbrev Has : Option ℕ → World → Mem → Type 0
  Has o w memory =
      HasVariables Run (kinds_at p (start_from o core)) w.store memory.cells × HasVariables Packets (P p) w.packets memory.cells × HasSpaces w.spaces memory
      × AllCanCome w.replies

  -- ---- the units of a level

  no_exits : (b : ℕ) (l : Exit → Option (List Value) → World → Ending) → Exits p (level_uses p.variables) b None [] l
  no_exits b l = record { by = λ e k d. absurd (none e k d) }
    where
      none : (e : Exit) (k : Option Shape) → LeftBy p None e k → ⊥
      none exits.Body k d = d
      none exits.Around k d = d

  stands : length p.variables ≤ CELLS → length (P p) ≤ CELLS → Stands p (level_uses p.variables) at_level (top None)
  stands room few = record {
    used = sym (length-map p.variables OfValue);
    room = omega (arith, room, length-map p.variables OfValue);
    packets = few;
    level = λ x k e. slice_get-map OfValue p.variables x ∙ ap (option_map OfValue) e;
    frame = λ x k e. let f : ⊥ = cc in absurd f;
  }

  runs_level : HasFirst None → (w : World) (memory : Mem) → length p.variables ≤ CELLS → length (P p) ≤ CELLS → Keeps (P p) (level_uses p.variables) w memory
      → Comes p (free (top None)) (scene_of w memory) (ending (all (map act core.units) (from_level core w.marks) w))
  runs_level has w memory room few keeps =
      let l = λ (e : Exit) (v : Option (List Value)) (w : World). endings.Ended w in
      let q = 0 + units.size in
      let within : Within p (level core.bodies w.marks) w.marks w.marks (level_uses p.variables) at_level (top None) =
      record { turns = omega arith; stands = stands room few; carry = level_carries core.bodies p made w.marks } in
      let h = has_rest p.lines 0 units.size (units.lines [] at_level 0) _ (level_is.sized [] at_level 0) has in
      subst (Comes p (free (top None)) (scene_of w memory)) (finish_ending (all (map act core.units) (from_level core w.marks) w))
      ((level_is.goes (level core.bodies w.marks) w.marks w.marks 0 (level_uses p.variables) [] at_level (top None) [] refl within
      (has_front p.lines 0 (units.lines [] at_level 0) _ has)).by
      (λ _ w. endings.Ended w) l
      (λ _ w' _ le. end_ends p (level_uses p.variables) (at (top None) q []) w' (λ memory. here p q End (units.leaves []) at_level h.0 (top None) [] memory))
      (no_exits w.marks l) w (omega arith) memory keeps)

  -- ---- a start procedure

  sized : (n : ℕ) (b : Body) (is : slice_get core.bodies n ≡ Some b) → IsContentSized b.content
  sized n b is = content_sized p (outside_of core) core.bodies (agrees core typed) n (b, is) b.content (typed.bodies n b is)

  module _ (q : ℕ) (is : IsStart core q) where
    abbrev b : Body
    b = record { scope = scopes.Own [] is.variables; content = Units is.units }

    abbrev f : Stretch
    f = content_code b.content

    abbrev uses : Uses
    uses = call_uses (map OfValue is.variables)

    abbrev call_cells : List Kind
    call_cells = kinds.Int ∷ kinds.Int ∷ is.variables

    abbrev frame : Frame
    frame = record { back = f.size + 1; base = 2; used = 0; refines = false; body = q; ops = [] }

    -- where the call stands, and where its body does
    abbrev outer : Position
    outer = record { pc = f.size; ops = []; used = 0; frames = [] }

    abbrev inner : Position
    inner = record { pc = 0; ops = []; used = length call_cells; frames = frame ∷ [] }

    entry : (e : Entry) × (slice_get p.bodies q ≡ Some e) × (e ≡ entry_of b e.first)
    entry = let x = entry_at core.bodies (size_from core.start core) q b is.body in (entry_of b x.0, x.1, refl)

    call_stands : length call_cells ≤ CELLS → length (P p) ≤ CELLS → Stands p uses (in_body q) inner
    call_stands room few =
        let size : length uses ≡ length call_cells = ap (λ n. suc (suc n)) (length-map is.variables OfValue) in
        let below : Stands p [] at_level outer = record {
          used = refl;
          room = omega arith;
          packets = few;
          level = λ x k e. let f : ⊥ = none x (ap (λ l. slice_get l x) (sym is.level) ∙ e) in absurd f;
          frame = λ x k e. let f : ⊥ = cc in absurd f;
        } in
        stands_called core.bodies p [] at_level outer inner q (map OfValue is.variables) below (omega (arith, size, room)) (sym size) refl
        (frame_own core.bodies p q entry.0 [] is.variables entry.1 (ap (λ (e : Entry). e.layout) entry.2))
      where
        none : {k : Kind} (x : ℕ) → slice_get [] x ≡ Some k → ⊥
        none x e = cc

    returns : HasAt p.lines 0 (started_lines q (Some b)) → (marks : ℕ) (v : Option (List Value)) (w : World) → Result (result_of_content b.content) v → w.marks ≤ marks
        → Ends p [] (record { pc = f.size + 1; ops = result_ops v ++ []; used = 0; frames = [] }) w (endings.Ended w)
    returns has marks (Some v) w r le = absurd r
    returns has marks None w r le =
        let n : 0 + f.size ≡ f.size = omega arith in
        let h =
        subst (λ n. HasAt p.lines n ((call_code q).lines [] at_level f.size)) n
        (has_rest p.lines 0 f.size (f.lines [] (in_body q) 0) _ (sized q b is.body (in_body q) 0) has) in
        end_ends p [] (at outer (f.size + 1) []) w (λ memory. here p (f.size + 1) End [] at_level h.1.0 outer [] memory)

    runs_call : HasAt p.lines 0 (started_lines q (Some b)) → (w : World) (memory : Mem) → length call_cells ≤ CELLS → length (P p) ≤ CELLS → Keeps (P p) uses w memory
        → Comes p (free inner) (scene_of w memory) (ending (run_started core w.marks (Some b) w))
    runs_call has w memory room few keeps =
        let n = w.marks in
        let k = λ (v : Option (List Value)) (w : World). endings.Ended w in
        let l = λ (x : Exit) (v : Option (List Value)) (w : World). endings.Ended (cut 0 w) in
        let gives : Delivers p (Some q) (result_of_content b.content) = (entry.0, entry.1, ap (λ (e : Entry). e.delivers) entry.2) in
        let carry =
        content_carries p (outside_of core) core.bodies (agrees core typed) q (b, is.body) 0 b.content (typed.bodies q b is.body)
        (has_front p.lines 0 (f.lines [] (in_body q) 0) _ has) gives in
        let within : Within p (level core.bodies n) n n uses (in_body q) inner =
        record { turns = omega arith; stands = call_stands room few; carry = level_carries core.bodies p made n } in
        let exits' =
        call_exits core.bodies p [] q 0 n entry.0 [] is.variables frame [] k entry.1 (ap (λ (e : Entry). e.layout) entry.2) refl refl refl refl
        (λ v w r le. returns has n v w (subst (λ d. Result d v) (ap (λ (e : Entry). e.delivers) entry.2) r) le) in
        subst (Comes p (free inner) (scene_of w memory))
        (finish_started (content b.content (record { calls = level core.bodies n; turns = n; base = 2; held = 0 }) w))
        (carry.ends (level core.bodies n) n n uses inner within l exits' w (omega arith) memory keeps)

    abbrev vs : List Kind
    vs = is.variables

    -- the tables have these cells for the call
    kinds_are : kinds_at p (started_at q (Some b)) ≡ call_cells
    kinds_are = ap (λ o. tables.call_kinds (tables.layout_of o)) entry.1 ∙ ap (λ (e : Entry). tables.call_kinds (Some e.layout)) entry.2

    abbrev RunsFrom : Option Body → Type 0
    RunsFrom o =
        HasAt p.lines 0 (started_lines q o) → (w : World) (memory : Mem) → HasVariables Run (kinds_at p (started_at q o)) w.store memory.cells
        → HasVariables Packets (P p) w.packets memory.cells → HasSpaces w.spaces memory → AllCanCome w.replies → cells_fit (length (kinds_at p (started_at q o))) ≡ true
        → cells_fit (length (P p)) ≡ true
        → Comes p (free (record { pc = 0; ops = []; used = length (kinds_at p (started_at q o)); frames = start_frames (started_at q o) })) (scene_of w memory)
        (ending (run_started core w.marks o w))

    runs_some : RunsFrom (Some b)
    runs_some has w memory h g spaces come e f =
        by (kinds_at p (started_at q (Some b))) (sym kinds_are) h e
      where
        by : (ks : List Kind) → call_cells ≡ ks → HasVariables Run ks w.store memory.cells → cells_fit (length ks) ≡ true
            → Comes p (free (record { pc = 0; ops = []; used = length ks; frames = frame ∷ [] })) (scene_of w memory) (ending (run_started core w.marks (Some b) w))
        by ks is =
            subst (λ ks. HasVariables Run ks w.store memory.cells → cells_fit (length ks) ≡ true
            → Comes p (free (record { pc = 0; ops = []; used = length ks; frames = frame ∷ [] })) (scene_of w memory) (ending (run_started core w.marks (Some b) w))) is
            (λ h e. runs_call has w memory (leb-true (length call_cells) CELLS e) (leb-true (length (P p)) CELLS f) (record {
              command = call_kept (P p) vs w.store memory.cells h e;
              packets = kept_slots Packets (P p) (P p) w.packets memory.cells g f;
              spaces = kept_spaces (P p) w.spaces memory spaces;
              answers = come;
            }))

    runs_started : RunsFrom (slice_get core.bodies q)
    runs_started = subst RunsFrom (sym is.body) runs_some

    first_started : kinds_at p (started_at q (slice_get core.bodies q)) ≡ first_kinds (Some q) core
    first_started =
        subst (λ o. kinds_at p (started_at q o) ≡ endings.call_kinds o) (sym is.body) kinds_are

  -- ---- the command

  runs : (o : Option ℕ) → StartsSo core o → HasFirst o → (w : World) (memory : Mem) → Has o w memory → cells_fit (length (kinds_at p (start_from o core))) ≡ true
      → cells_fit (length (P p)) ≡ true → Comes p (free (top o)) (scene_of w memory) (ending (run_from o core w.marks w))
  runs None so has w memory h e f =
      runs_level has w memory (leb-true (length p.variables) CELLS e) (leb-true (length (P p)) CELLS f) (record {
        command = kept_slots Run (P p) p.variables w.store memory.cells h.0 e;
        packets = kept_slots Packets (P p) (P p) w.packets memory.cells h.1 f;
        spaces = kept_spaces (P p) w.spaces memory h.2;
        answers = h.3;
      })
  runs (Some q) so has w memory h e f = runs_started q so has w memory h.0 h.1 h.2 h.3 e f

  -- where some cells have no room
  refused_start : (o : Option ℕ) (w : World) (memory : Mem) → Has o w memory
      → Comes p (record { position = top o; waits = Refused CellRoom }) (scene_of w memory) (endings.Stopped CellRoom w)
  refused_start o w memory h = record {
    steps = 1;
    rest = record { how = halts.Stopped CellRoom; control = record { position = top o; waits = Refused CellRoom }; scene = scene_of w memory };
    comes = refl;
    shows = record { how = refl; marks = refl; replies = refl; command = h.0.image; packets = h.1; spaces = h.2 };
  }

  by_room : (o : Option ℕ) → StartsSo core o → HasFirst o → (w : World) (memory : Mem) → Has o w memory → (s t : Bool)
      → cells_fit (length (kinds_at p (start_from o core))) ≡ s → cells_fit (length (P p)) ≡ t
      → Comes p (record { position = top o; waits = cond (s && t) Nothing (Refused CellRoom) }) (scene_of w memory)
      (ending (branch (s && t) (run_from o core w.marks) (Stopped CellRoom) w))
  by_room o so has w memory h true true e f = runs o so has w memory h e f
  by_room o so has w memory h true false e f = refused_start o w memory h
  by_room o so has w memory h false t e f = refused_start o w memory h

  first_is : (o : Option ℕ) → StartsSo core o → kinds_at p (start_from o core) ≡ first_kinds o core
  first_is None so = refl
  first_is (Some q) so = first_started q so

  pub first : start_kinds p ≡ endings.start_kinds core
  first = first_is core.start typed.starts

  pub ends : (w : World) (memory : Mem) → HasAll p w memory → Comes p (start p) (scene_of w memory) (evaluate_from core w)
  ends w memory h =
      let fits = cells_fit (length (P p)) in
      subst (λ (ks : List Kind). Comes p (start p) (scene_of w memory)
      (ending (branch (cells_fit (length ks) && fits) (run_from core.start core w.marks) (Stopped CellRoom) w))) first
      (by_room core.start typed.starts (has_first core typed) w memory (h.0.command, h.0.packets, h.0.spaces, h.1) (cells_fit (length (start_kinds p))) fits refl refl)

  pub behaves : Behaves core p
  behaves = record {
    packets = refl;
    inserted = refl;
    first = first;
    ends = ends;
    only = λ w memory n r h e.
        let a = ends w memory h in
        subst (Shows p (evaluate_from core w)) (one_rest p (start p) (scene_of w memory) a.rest r (a.steps, a.comes) (n, e)) a.shows;
  }
