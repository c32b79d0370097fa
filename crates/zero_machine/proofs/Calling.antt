-- Calls and refinements: how a body is entered.
use Rattle.std.proofs.Common.{◌≡◌, ℕ, zero, suc, ◌+◌, ◌-◌, ◌≤◌, ◌<◌, ◌^◌, min, Bool, true, false, cond, List, [], ◌∷◌, ◌++◌, map, length, take, drop, Some, None}
use Rattle.std.proofs.Common.{refl, sym, ap, ◌∙◌, subst, arith, length-append, append_assoc, inl, inr}
use Rattle.std.specs.Prelude.{Result, Ok, Err, IfOk, not, reverse, flat_map}
use Rattle.std.proofs.lemmas.Bool.{le-leb, lt-leb, leb-true, leb-false}
use Rattle.std.proofs.lemmas.List.{length-map, map-append, reverse-append}
use Rattle.eu_base.specs.declared.address.TheConstants.{CELLS}
use Rattle.eu_base.specs.declared.set.Set.{Set}
use Rattle.eu_base.specs.declared.set.Set.TheVariants.{Done, HeapFull}
use Rattle.eu_base.specs.declared.value.Kind.{Kind}
use Rattle.eu_base.specs.declared.value.Value.{Value}
use Rattle.eu_base.specs.declared.value.Kind.TheVariants as kinds
use Rattle.eu_base.specs.declared.stop.Stop.TheVariants as stops
use Rattle.eu_base.specs.Values.{blank_of}
use Rattle.eu_base.specs.Room.{cells_fit, texts_fit}
use Rattle.eu_base.specs.DataSpaces.{Heads}
use Rattle.eu_base.specs.Cells.{Cell, Free, Cells, held_of, cell_blocks, blocks_in}
use Rattle.zero_state.specs.declared.next.Next.{Next}
use Rattle.zero_state.specs.declared.next.Next.TheVariants.{On as On', Marked, CellRoom, TextRoom}
use Rattle.code_form.specs.declared.waits.Waits.{Waits}
use Rattle.code_form.specs.declared.waits.Waits.TheVariants.{Nothing}
use Rattle.code_form.specs.declared.code.Entry.{Entry}
use Rattle.code_form.specs.declared.code.Layout.{Layout}
use Rattle.code_form.specs.declared.code.Layout.TheVariants.{Own}
use Rattle.code_form.specs.declared.operand.Operand.{Operand}
use Rattle.code_form.specs.declared.operand.Operand.TheVariants.{Value as Of, Place as At, Aggregate}
use Rattle.code_form.specs.declared.operand.OperandKind.{OperandKind}
use Rattle.code_form.specs.Machine.{Mem, Frame, Position, Control, free, After, To, Stops, Unsaid, Spends, Stage, On, base_of, are_free}
use Rattle.code_form.specs.Program.{Program}
use Rattle.code_form.specs.Machine.{content_blocks, enters, calls_to, refer_move, held_cells, frame_contents, link_contents, written_from, back_into}
use Rattle.code_form.specs.Machine.{out_to, stage}
use Rattle.zero_state.specs.Finds.{IsCallable, IsInside, is_in_proc}
use Rattle.zero_state.specs.Stacked.{Stacked}
use Rattle.zero_state.specs.Stepping.{mem_of, scene_of, stage_of, halt_of, AreLike, Does, Steps}
use Rattle.zero_state.proofs.Room.{same_like}
use Rattle.zero_state.proofs.Blocks.{has_room, has_none}
use Rattle.zero_state.specs.Emptied.{emptied, emptied_operand}
use Rattle.zero_state.proofs.Emptied.{emptied_operand_like, emptied_bare}
use Rattle.zero_state.proofs.Making.{done, plain_steps, steps_at, unspent, spent}
use Rattle.zero_machine.specs.Frames.{paid_stage, AreFree, PutsFrom, EntersSo}
use Rattle.zero_state.proofs.Stacks.{taken_all}
use Rattle.zero_machine.proofs.Written.{known_free}
use Rattle.zero_machine.proofs.Contents.{HasRoom, no_blocks}

abbrev pub Keeps : (before after : Cells → Type 0) → Type 0
Keeps before after = (cells : Cells) → before cells → after cells

-- a frame where nothing is known of its cells
all_free : (at : ℕ) (contents : List Cell) → are_free at contents (λ _. Free) ≡ true
all_free at [] = refl
all_free at (n ∷ ns) = all_free (suc at) ns

pub frame_length : (args : List Operand) (variables : List Kind) → length (frame_contents args variables) ≡ 2 + length (flat_map held_cells args) + length variables
frame_length args variables =
    omega (
      arith,
      length-append (flat_map held_cells args) (map (λ k. held_of (blank_of k)) variables),
      length-map variables (λ k. held_of (blank_of k)),
    )

-- the newest operands, with "" in the place of each text
abbrev newest_emptied : ℕ → List Operand → List Operand
newest_emptied zero ops = ops
newest_emptied (suc n) [] = []
newest_emptied (suc n) (o ∷ ops) = emptied_operand o ∷ newest_emptied n ops

like_emptied : (n : ℕ) (ops : List Operand) → AreLike ops (newest_emptied n ops)
like_emptied zero ops = same_like ops
like_emptied (suc n) [] = tt
like_emptied (suc n) (o ∷ ops) = (emptied_operand_like o, like_emptied n ops)

take_emptied : (n : ℕ) (ops : List Operand) → take n (newest_emptied n ops) ≡ map emptied_operand (take n ops)
take_emptied zero ops = refl
take_emptied (suc n) [] = refl
take_emptied (suc n) (o ∷ ops) = ap (λ l. emptied_operand o ∷ l) (take_emptied n ops)

drop_emptied : (n : ℕ) (ops : List Operand) → drop n (newest_emptied n ops) ≡ drop n ops
drop_emptied zero ops = refl
drop_emptied (suc n) [] = refl
drop_emptied (suc n) (o ∷ ops) = drop_emptied n ops

reverse_map : (f : Operand → Operand) (ops : List Operand) → reverse (map f ops) ≡ map f (reverse ops)
reverse_map f [] = refl
reverse_map f (o ∷ ops) =
    reverse-append (f o ∷ []) (map f ops) ∙ ap (λ l. l ++ f o ∷ []) (reverse_map f ops) ∙ sym (map-append f (reverse ops) (o ∷ []))
    ∙ ap (map f) (sym (reverse-append (o ∷ []) ops))

-- a frame of them has no texts with blocks
blank_bare : (k : Kind) → cell_blocks (held_of (blank_of k)) ≡ 0
blank_bare kinds.Int = refl
blank_bare kinds.Truth = refl
blank_bare kinds.Text = refl
blank_bare kinds.Task = refl
blank_bare kinds.Space = refl

variables_bare : (variables : List Kind) → content_blocks (map (λ k. held_of (blank_of k)) variables) ≡ 0
variables_bare [] = refl
variables_bare (k ∷ variables) = let rest = variables_bare variables in let here = blank_bare k in omega (arith, rest, here)

values_bare : (vs : List Value) (rest : List Cell) → content_blocks rest ≡ 0 → content_blocks (map held_of (map emptied vs) ++ rest) ≡ 0
values_bare [] rest bare = bare
values_bare (v ∷ vs) rest bare = let more = values_bare vs rest bare in let here = emptied_bare v in omega (arith, more, here)

operand_bare : (o : Operand) (rest : List Cell) → content_blocks rest ≡ 0 → content_blocks (held_cells (emptied_operand o) ++ rest) ≡ 0
operand_bare (Of v) rest bare = let here = emptied_bare v in omega (arith, bare, here)
operand_bare (At a) rest bare = omega (arith, bare)
operand_bare (Aggregate vs) rest bare = values_bare vs rest bare

operands_bare : (args : List Operand) (rest : List Cell) → content_blocks rest ≡ 0
    → content_blocks (flat_map held_cells (map emptied_operand args) ++ rest) ≡ 0
operands_bare [] rest bare = bare
operands_bare (o ∷ args) rest bare =
    ap content_blocks (append_assoc (held_cells (emptied_operand o)) (flat_map held_cells (map emptied_operand args)) rest)
    ∙ operand_bare o (flat_map held_cells (map emptied_operand args) ++ rest) (operands_bare args rest bare)

-- and as many cells
emptied_many : (o : Operand) → length (held_cells (emptied_operand o)) ≡ length (held_cells o)
emptied_many (Of v) = refl
emptied_many (At a) = refl
emptied_many (Aggregate vs) =
    length-map (map emptied vs) held_of ∙ length-map vs emptied ∙ sym (length-map vs held_of)

operands_many : (args : List Operand) → length (flat_map held_cells (map emptied_operand args)) ≡ length (flat_map held_cells args)
operands_many [] = refl
operands_many (o ∷ args) =
    omega (
      arith,
      emptied_many o,
      operands_many args,
      length-append (held_cells (emptied_operand o)) (flat_map held_cells (map emptied_operand args)),
      length-append (held_cells o) (flat_map held_cells args),
    )

frame_bare : (args : List Operand) (variables : List Kind) → content_blocks (frame_contents (map emptied_operand args) variables) ≡ 0
frame_bare args variables =
    let rest = operands_bare args (map (λ k. held_of (blank_of k)) variables) (variables_bare variables) in omega (arith, rest)

-- what is said of a body that is entered with so many operands, more of which are pending
module _ (before after : Cells → Type 0) (heads : Heads) (pc used first base : ℕ) (refines : Bool) (body count more : ℕ) (s : Stacked) (variables : List Kind)
    (many : count ≤ length s.ops) (args : List Operand) (args_is : args ≡ reverse (take count s.ops))
    (size : more ≡ min (2 + length (flat_map held_cells args) + length variables) (2 ^ 64 - 1)) where
  abbrev standing : List Operand → Position
  standing ops = record { pc = pc; ops = ops; used = used; frames = s.frames }

  abbrev contents : List Operand → List Cell
  contents ops = frame_contents (reverse (take count ops)) variables

  abbrev Goes_into : Control → Next → Type 0
  Goes_into = EntersSo before after heads first base refines body count variables (standing s.ops)

  -- the cells of the operands that are taken
  abbrev pub taking : List Operand → ℕ
  taking ops = length (flat_map held_cells (reverse (take count ops)))

  sizes : (ops : List Operand) → taking ops ≡ length (flat_map held_cells args) → length (contents ops) ≡ 2 + length (flat_map held_cells args) + length variables
  sizes ops same = omega (arith, frame_length (reverse (take count ops)) variables, same)

  same_args : taking s.ops ≡ length (flat_map held_cells args)
  same_args = ap (λ l. length (flat_map held_cells l)) (sym args_is)

  abbrev inside : ℕ → List Operand → Position
  inside n rest = record {
    pc = first;
    ops = [];
    used = n;
    frames =
        record { back = pc + 1; base = base; used = used; refines = refines; body = body; ops = rest } ∷ s.frames;
  }

  -- the cells have room, and then the texts; both stop
  abbrev placed : List Cell → List Operand → Cells → Bool → Bool → After
  placed ns rest cells room texts =
      cond room (cond texts (To (inside (used + length ns) rest) (mem_of heads (written_from used ns cells))) (Stops stops.TextRoom)) (Stops stops.CellRoom)

  abbrev texts_room : List Cell → Cells → Bool
  texts_room ns cells = texts_fit (content_blocks ns) (blocks_in (written_from used ns cells))

  -- of cells that are known to be free
  enters_so : (next : Next) (c' : Control) (marks : ℕ)
      → ((cells : Cells) → before cells → AreFree used (2 + length (flat_map held_cells args) + length variables) cells → Does after heads (halt_of next) c' marks
      (paid_stage (placed (contents s.ops) (drop count s.ops) cells (cells_fit (used + length (contents s.ops))) (texts_room (contents s.ops) cells))
      (standing s.ops) (scene_of (mem_of heads cells) marks)))
      → (cells : Cells) → before cells → Does after heads (halt_of next) c' marks
      (paid_stage (enters (standing s.ops) first base refines body (drop count s.ops) (contents s.ops) (mem_of heads cells)) (standing s.ops) (scene_of (mem_of heads cells) marks))
  enters_so next c' marks so cells h = by (are_free used (contents s.ops) cells) refl
    where
      by : (b : Bool) → are_free used (contents s.ops) cells ≡ b → Does after heads (halt_of next) c' marks (paid_stage (cond b
          (placed (contents s.ops) (drop count s.ops) cells (cells_fit (used + length (contents s.ops))) (texts_room (contents s.ops) cells)) Unsaid)
          (standing s.ops) (scene_of (mem_of heads cells) marks))
      by true e =
          so cells h (subst (λ n. AreFree used n cells) (sizes s.ops same_args) (known_free used (contents s.ops) cells e))
      by false e = tt

  -- of cells of which nothing is known
  enters_free : (ops : List Operand) (marks : ℕ)
      → paid_stage (placed (contents ops) (drop count ops) (λ _. Free) (cells_fit (used + length (contents ops))) (texts_room (contents ops) (λ _. Free)))
      (standing ops) (scene_of (mem_of heads (λ _. Free)) marks)
      ≡ paid_stage (enters (standing ops) first base refines body (drop count ops) (contents ops) (mem_of heads (λ _. Free))) (standing ops) (scene_of (mem_of heads (λ _. Free)) marks)
  enters_free ops marks =
      ap (λ b. paid_stage (cond b
      (placed (contents ops) (drop count ops) (λ _. Free) (cells_fit (used + length (contents ops))) (texts_room (contents ops) (λ _. Free))) Unsaid)
      (standing ops) (scene_of (mem_of heads (λ _. Free)) marks)) (sym (all_free used (contents ops)))

  pub entered_full : (w : Waits) → w ≡ Nothing → false ≡ cells_fit (used + more) → Keeps before after
      → Goes_into (record { position = standing s.ops; waits = w }) CellRoom
  entered_full w none full kept marks =
      let no_room : cells_fit (used + length (contents s.ops)) ≡ false =
      lt-leb (used + length (contents s.ops)) CELLS (omega (arith, sizes s.ops same_args, size, leb-false (used + more) CELLS (sym full))) in
      let so : (cells : Cells) → stage_of (halt_of CellRoom) (record { position = standing s.ops; waits = w }) (scene_of (mem_of heads cells) marks)
      ≡ paid_stage (placed (contents s.ops) (drop count s.ops) cells (cells_fit (used + length (contents s.ops))) (texts_room (contents s.ops) cells))
      (standing s.ops) (scene_of (mem_of heads cells) marks) =
      λ cells. ap (λ w. stage_of (halt_of CellRoom) (record { position = standing s.ops; waits = w }) (scene_of (mem_of heads cells) marks)) none
      ∙ ap (λ b. paid_stage (placed (contents s.ops) (drop count s.ops) cells b (texts_room (contents s.ops) cells)) (standing s.ops) (scene_of (mem_of heads cells) marks))
      (sym no_room) in
      record {
        does = enters_so CellRoom (record { position = standing s.ops; waits = w }) marks (λ cells h unknown.
            done after heads (halt_of CellRoom) (record { position = standing s.ops; waits = w }) marks _ cells (kept cells h) (so cells));
        ops = s.ops;
        like = same_like s.ops;
        mem = mem_of heads (λ _. Free);
        leads = inl (mem_of heads (λ _. Free), so (λ _. Free) ∙ enters_free s.ops marks);
      }

  module _ (room : true ≡ cells_fit (used + more)) where
    many_cells : (ops : List Operand) → taking ops ≡ length (flat_map held_cells args) → used + more ≡ used + length (contents ops)
    many_cells ops same = omega (arith, sizes ops same, size, leb-true (used + more) CELLS (sym room))

    have : (ops : List Operand) → taking ops ≡ length (flat_map held_cells args) → cells_fit (used + length (contents ops)) ≡ true
    have ops same =
        le-leb (used + length (contents ops)) CELLS (omega (arith, many_cells ops same, leb-true (used + more) CELLS (sym room)))

    -- where texts have room
    goes_in : (ops : List Operand) (same : taking ops ≡ length (flat_map held_cells args)) (cells : Cells) (marks : ℕ) → texts_room (contents ops) cells ≡ true
        → drop count ops ≡ drop count s.ops
        → On (free (inside (used + more) (drop count s.ops))) (scene_of (mem_of heads (written_from used (contents ops) cells)) marks)
        ≡ paid_stage (placed (contents ops) (drop count ops) cells (cells_fit (used + length (contents ops))) (texts_room (contents ops) cells))
        (standing ops) (scene_of (mem_of heads cells) marks)
    goes_in ops same cells marks texts rest =
        ap (λ n. On (free (inside n (drop count s.ops))) (scene_of (mem_of heads (written_from used (contents ops) cells)) marks)) (many_cells ops same)
        ∙ ap (λ l. On (free (inside (used + length (contents ops)) l)) (scene_of (mem_of heads (written_from used (contents ops) cells)) marks)) (sym rest)
        ∙ ap (λ b. paid_stage (placed (contents ops) (drop count ops) cells true b) (standing ops) (scene_of (mem_of heads cells) marks)) (sym texts)
        ∙ ap (λ b. paid_stage (placed (contents ops) (drop count ops) cells b (texts_room (contents ops) cells)) (standing ops) (scene_of (mem_of heads cells) marks))
        (sym (have ops same))

    -- with "" in the place of each text they have
    abbrev others : List Operand
    others = newest_emptied count s.ops

    goes_emptied : (marks : ℕ)
        → On (free (inside (used + more) (drop count s.ops))) (scene_of (mem_of heads (written_from used (contents others) (λ _. Free))) marks)
        ≡ paid_stage (enters (standing others) first base refines body (drop count others) (contents others) (mem_of heads (λ _. Free))) (standing others)
        (scene_of (mem_of heads (λ _. Free)) marks)
    goes_emptied marks =
        let args' : reverse (take count others) ≡ map emptied_operand (reverse (take count s.ops)) =
        ap reverse (take_emptied count s.ops) ∙ reverse_map emptied_operand (take count s.ops) in
        let bare : content_blocks (contents others) ≡ 0 =
        ap (λ l. content_blocks (frame_contents l variables)) args' ∙ frame_bare (reverse (take count s.ops)) variables in
        let as_many : taking others ≡ length (flat_map held_cells args) =
        ap (λ l. length (flat_map held_cells l)) args' ∙ operands_many (reverse (take count s.ops)) ∙ same_args in
        goes_in others as_many (λ _. Free) marks
        (ap (λ n. texts_fit n (blocks_in (written_from used (contents others) (λ _. Free)))) bare) (drop_emptied count s.ops)
        ∙ enters_free others marks

    module _ (law : HasRoom after) where
      abbrev Puts_frame : Set → Type 0
      Puts_frame set = (cells : Cells) → before cells → AreFree used (2 + length (flat_map held_cells args) + length variables) cells
          → PutsFrom after used (frame_contents args variables) cells set

      frame_put : (set : Set) → Puts_frame set → (cells : Cells) → before cells → AreFree used (2 + length (flat_map held_cells args) + length variables) cells
          → PutsFrom after used (contents s.ops) cells set
      frame_put set puts cells h unknown = subst (λ l. PutsFrom after used (frame_contents l variables) cells set) args_is (puts cells h unknown)

      pub entered_so : (s' : Stacked) (w : Waits) → w ≡ Nothing
          → s' ≡ record { ops = []; frames = record { back = pc + 1; base = base; used = used; refines = refines; body = body; ops = drop count s.ops } ∷ s.frames }
          → Puts_frame Done
          → Goes_into (record { position = record { pc = first; ops = s'.ops; used = used + more; frames = s'.frames }; waits = w }) On'
      entered_so s' w none stack puts =
          subst (λ (w : Waits). Goes_into (record { position = record { pc = first; ops = s'.ops; used = used + more; frames = s'.frames }; waits = w }) On')
          (sym none)
          (subst (λ (t : Stacked). Goes_into (free (record { pc = first; ops = t.ops; used = used + more; frames = t.frames })) On') (sym stack)
          (λ marks. record {
            does = enters_so On' (free (inside (used + more) (drop count s.ops))) marks (λ cells h unknown.
                let put = frame_put Done puts cells h unknown in
                done after heads None (free (inside (used + more) (drop count s.ops))) marks _ (written_from used (contents s.ops) cells) put
                (goes_in s.ops same_args cells marks
                (has_room (content_blocks (contents s.ops)) (blocks_in (written_from used (contents s.ops) cells))
                (law (written_from used (contents s.ops) cells) put)) refl));
            ops = others;
            like = like_emptied count s.ops;
            mem = mem_of heads (λ _. Free);
            leads = inl (mem_of heads (written_from used (contents others) (λ _. Free)), goes_emptied marks);
          }))

      pub entered_texts : (w : Waits) → w ≡ Nothing → Puts_frame HeapFull → Goes_into (record { position = standing s.ops; waits = w }) TextRoom
      entered_texts w none puts =
          subst (λ (w : Waits). Goes_into (record { position = standing s.ops; waits = w }) TextRoom) (sym none)
          (λ marks. record {
            does = enters_so TextRoom (free (standing s.ops)) marks (λ cells h unknown.
                let put = frame_put HeapFull puts cells h unknown in
                let texts : texts_room (contents s.ops) cells ≡ false =
                has_none (content_blocks (contents s.ops)) (blocks_in (written_from used (contents s.ops) cells)) put.0
                (λ none. let le = no_blocks (contents s.ops) used cells none in let few = law cells put.1 in omega (arith, le, few)) in
                done after heads (halt_of TextRoom) (free (standing s.ops)) marks _ cells put.1
                (ap (λ b. paid_stage (placed (contents s.ops) (drop count s.ops) cells true b) (standing s.ops) (scene_of (mem_of heads cells) marks)) (sym texts)
                ∙ ap (λ b. paid_stage (placed (contents s.ops) (drop count s.ops) cells b (texts_room (contents s.ops) cells)) (standing s.ops)
                (scene_of (mem_of heads cells) marks)) (sym (have s.ops same_args))));
            ops = others;
            like = like_emptied count s.ops;
            mem = mem_of heads (λ _. Free);
            leads = inr (record {
              stops = refl;
              stays = refl;
              after = free (inside (used + more) (drop count s.ops));
              now = mem_of heads (written_from used (contents others) (λ _. Free));
              goes = sym (goes_emptied marks);
            });
          })

module _ (before after : Cells → Type 0) (heads : Heads) (c : Position) (n first : ℕ) (layout : Layout) (ps : List OperandKind) (vs : List Kind) (own : layout ≡ Own ps vs)
    (callable : IsCallable layout c.ops) where
  fewer : (ops : List Operand) → length ops ≡ length c.ops → length ps ≤ length ops
  fewer ops same =
      let e : Own callable.parameters callable.variables ≡ Own ps vs = sym callable.own ∙ own in
      let f : callable.parameters ≡ ps = cc in
      let g : length ps ≤ length c.ops = subst (λ (l : List OperandKind). length l ≤ length c.ops) f callable.taken in
      omega (arith, g, same)

  abbrev at_ops : List Operand → Position
  at_ops ops = record c { ops = ops }

  abbrev calls_into : List Operand → ℕ → List Kind → Mem → After
  calls_into ops k variables = enters (at_ops ops) first (c.used + 2) false n (drop k ops) (frame_contents (reverse (take k ops)) variables)

  spends : (ops : List Operand) → length ops ≡ length c.ops → (mem : Mem)
      → Spends (calls_into ops (length ps) vs mem) ≡ calls_to (at_ops ops) n first layout mem
  spends ops same mem =
      sym (ap (λ l. calls_to (at_ops ops) n first l mem) own
      ∙ taken_all (length ps) ops (λ args ops'. Spends (enters (at_ops ops) first (c.used + 2) false n ops' (frame_contents args vs) mem)) (fewer ops same))

  pub call_marked : (m : ℕ) (w : Waits) → w ≡ Nothing → m ≡ 0 → Keeps before after
      → Steps before after heads heads (λ d mem. stage (calls_to d n first layout mem) d (scene_of mem m)) c (record { position = c; waits = w }) m Marked
  call_marked m w none e kept =
      plain_steps before after heads (λ d mem. stage (calls_to d n first layout mem) d (scene_of mem m)) c (record { position = c; waits = w }) m Marked
      (λ cells. cells)
      (λ cells. ap (λ w. stage_of (halt_of Marked) (record { position = c; waits = w }) (scene_of (mem_of heads cells) m)) none
      ∙ unspent m (calls_into c.ops (length ps) vs (mem_of heads cells)) c (mem_of heads cells) e
      ∙ ap (λ x. stage x c (scene_of (mem_of heads cells) m)) (spends c.ops refl (mem_of heads cells))) kept

  pub call_enters : {E : Type 0} (result : Result Next E) (c' : Control) (m k : ℕ) (variables : List Kind) → k ≡ length ps → variables ≡ vs
      → 0 < m → IfOk result (EntersSo before after heads first (c.used + 2) false n k variables c c')
      → IfOk result (Steps before after heads heads (λ d mem. stage (calls_to d n first layout mem) d (scene_of mem m)) c c' (m - 1))
  call_enters (Ok h) c' m k variables e f lt goes =
      steps_at before after heads heads
      (λ d mem. paid_stage (enters d first (c.used + 2) false n (drop k d.ops) (frame_contents (reverse (take k d.ops)) variables) mem) d
      (scene_of mem (m - 1)))
      (λ d mem. stage (calls_to d n first layout mem) d (scene_of mem m)) c c' (m - 1) h
      (λ ops mem same. ap (λ k. paid_stage (calls_into ops k variables mem) (at_ops ops) (scene_of mem (m - 1))) e
      ∙ ap (λ l. paid_stage (calls_into ops (length ps) l mem) (at_ops ops) (scene_of mem (m - 1))) f
      ∙ spent m (calls_into ops (length ps) vs mem) (at_ops ops) mem lt
      ∙ ap (λ x. stage x (at_ops ops) (scene_of mem m)) (spends ops same mem)) (goes (m - 1))
  call_enters (Err e) c' m k variables is f lt goes = tt

module _ (before after : Cells → Type 0) (heads : Heads) (c : Position) (n : ℕ) (entry : Entry) where
  abbrev refers : ℕ → Position → Mem → Stage
  refers m d mem = stage (refer_move d n (Some entry) mem) d (scene_of mem m)

  pub refer_marked : (m : ℕ) (w : Waits) → w ≡ Nothing → m ≡ 0 → Keeps before after
      → Steps before after heads heads (refers m) c (record { position = c; waits = w }) m Marked
  refer_marked m w none e kept =
      plain_steps before after heads (refers m) c (record { position = c; waits = w }) m Marked (λ cells. cells)
      (λ cells. ap (λ w. stage_of (halt_of Marked) (record { position = c; waits = w }) (scene_of (mem_of heads cells) m)) none
      ∙ unspent m (enters c entry.first (base_of c.frames) true n c.ops link_contents (mem_of heads cells)) c (mem_of heads cells) e) kept

  pub refer_enters : {E : Type 0} (result : Result Next E) (c' : Control) (m base : ℕ) → base ≡ base_of c.frames → 0 < m
      → IfOk result (EntersSo before after heads entry.first base true n 0 [] c c')
      → IfOk result (Steps before after heads heads (refers m) c c' (m - 1))
  refer_enters (Ok h) c' m base e lt goes =
      steps_at before after heads heads (λ d mem. paid_stage (enters d entry.first base true n d.ops link_contents mem) d (scene_of mem (m - 1)))
      (refers m) c c' (m - 1) h
      (λ ops mem same.
      ap (λ b. paid_stage (enters (record c { ops = ops }) entry.first b true n ops link_contents mem) (record c { ops = ops }) (scene_of mem (m - 1))) e
      ∙ spent m (enters (record c { ops = ops }) entry.first (base_of c.frames) true n ops link_contents mem) (record c { ops = ops }) mem lt)
      (goes (m - 1))
  refer_enters (Err e) c' m base is lt goes = tt

pub proc_inside : (fs : List Frame) → is_in_proc fs ≡ true → IsInside fs
proc_inside [] e = let f : ⊥ = cc in absurd f
proc_inside (f ∷ fs) e = record { frame = f; below = fs; inside = refl }

-- what is no PROC is a refinement
pub does_refine : (b : Bool) → not b ≡ false → b ≡ true
does_refine true e = refl
does_refine false e = absurd (cc e)

-- leaving goes on below a frame of a refinement
pub leaves_more : (p : Program) (fs : List Frame) (f : Frame) (below : List Frame) (ops : List Operand) (used : ℕ) (mem : Mem) → fs ≡ f ∷ below
    → f.refines ≡ true → out_to p ops used fs mem ≡ out_to p ops used below mem
leaves_more p fs f below ops used mem e r =
    ap (λ fs. out_to p ops used fs mem) e ∙ ap (λ t. cond t (out_to p ops used below mem) (back_into p ops used f below mem)) r

pub inside_more : (fs : List Frame) (f : Frame) (below : List Frame) → fs ≡ f ∷ below → f.refines ≡ true → is_in_proc fs ≡ true → is_in_proc below ≡ true
inside_more fs f below e r inside = sym (ap is_in_proc e ∙ ap (λ t. cond t (is_in_proc below) true) r) ∙ inside
