-- What phrases on data spaces do, whatever their parts are.
use Rattle.std.proofs.Common.{inl, inr, ◌≡◌, ℕ, ◌+◌, ◌≤◌, List, [], ◌∷◌, length, drop, Option, Some, None, Bool, true, false, cond, refl, sym, ap, ◌∙◌, subst, arith}
use Rattle.std.specs.Prelude.{Ok, Err, ◌&&◌, zero, suc, pos, slice_index_or}
use Rattle.std.proofs.lemmas.Bool.{leb-true}
use Rattle.std.specs.Int.{w16}
use Rattle.std.specs.Int.RustNames.{FitsSigned}
use Rattle.eu_base.specs.declared.address.TheConstants.{CELLS}
use Rattle.eu_base.specs.declared.value.Kind.{Kind}
use Rattle.eu_base.specs.declared.value.Kind.TheVariants as kinds
use Rattle.eu_base.specs.declared.value.Value.{Value}
use Rattle.eu_base.specs.declared.value.Value.TheVariants as item
use Rattle.eu_base.specs.declared.shape.Shape.{Shape}
use Rattle.eu_base.specs.declared.shape.Shape.TheVariants.{Cell}
use Rattle.eu_base.specs.Shapes.{cell_kinds}
use Rattle.eu_base.specs.declared.space_operation.SpaceOperation.{SpaceOperation}
use Rattle.eu_base.specs.declared.stop.Stop.TheVariants.{CellRoom, OperandRoom}
use Rattle.eu_base.specs.Values.{SpaceNo, IsOf, IsSpaceNumber, number_of, space_of}
use Rattle.eu_base.specs.Room.{values_bytes, place_bytes, bytes_fit}
use Rattle.eu_base.specs.Operations.{number_at}
use Rattle.eu_base.specs.DataSpaces.{Heads, Spaces, heads_of, last_number, SpaceChange, Makes, Fills}
use Rattle.eu_base.specs.Room.{cells_fit}
use Rattle.eu_base.specs.Cells.{held_of, written}
use Rattle.eu_base.specs.SoundSpaces.{GivesOf}
use Rattle.eu_base.specs.SpaceOperations.{Plan, space_operand_kinds, space_result_kind, planned, copy_plan, bind_plan, forgetting}
use Rattle.eu_base.proofs.Results.{fits_in_range}
use Rattle.eu_base.proofs.SoundSpaces.{IsPlan, CanAll, planned_sound, copy_sound, bind_sound}
use Rattle.code_form.specs.declared.operand.Operand.{Operand}
use Rattle.code_form.specs.declared.operand.Operand.TheVariants.{Value as Of, Place as At}
use Rattle.code_form.specs.declared.operand.OperandKind.TheVariants as operand
use Rattle.code_form.specs.declared.operand.OperandKind.{OperandKind}
use Rattle.code_form.specs.declared.instr.Instr.TheVariants.{Content, OnSpaces, Copy, Bind}
use Rattle.code_form.specs.Program.{Program}
use Rattle.code_form.specs.Valid.{with_answer}
use Rattle.code_form.specs.Machine.{with_cells, takes_number, keeps_space, fills, can_all_change, without_held as forgotten, Unknown, Mem, Position, Control, Move, Halts, free, at, goes, on_cell, content_at, changes, answers, mem_after, pushes, move_stage, bytes_on, bytes_of}
use Rattle.elan_types.specs.declared.core_phrase.Exit.{Exit}
use Rattle.elan_types.specs.Eval.{Calls, Place, World, Outcome, Gives, Stopped, Run, bind, branch, fetch, load, the, assign, without_held, copy_into, bind_to, holding_place, deliver_place, content_of, consult, or_refused, changed_by, values}
use Rattle.elan_types.specs.Command.{Ending}
use Rattle.place_gen.specs.Stretch.{Stretch, one, join}
use Rattle.place_gen.specs.Correct.{addr_of, Comes, scene_of}
use Rattle.place_gen.proofs.Lines.{join_sized}
use Rattle.place_gen.proofs.Cells.{Uses, Keeps, AtPlace}
use Rattle.place_gen.proofs.Spans.{AreOf, IsFound, found, reads_one, takes_values, place_fits}
use Rattle.place_gen.proofs.Spaces.{writes_all}
use Rattle.place_gen.proofs.Changes.{changes_keep, can_fill, NoShape, GivesAs, planned_so, CopiesSo, copy_so, BindsSo, bind_so, forgets_can, forgets_not, found_then, unknown_there}
use Rattle.place_gen.proofs.Carry.{P, finish, at_one, reach, of_one, Ends, Does, does, does_go, there_ends, stop_comes, read_comes, here, join_carries, join_one}
use Rattle.place_gen.proofs.Forms.{keep, keep_place, pushed, AllOf, all_taken, push_is, Is, IsValue, IsPlace, IsPlaceOf, IsAction}

-- the place where the content of a data space begins is one that there can be
content_same : (o : Option SpaceNo) → content_at o ≡ addr_of (content_of o)
content_same None = refl
content_same (Some s) = refl

content_stands : (P ks : List Kind) (L : Uses) (v : Value) → IsOf kinds.Space v → length ks ≤ CELLS → AtPlace P ks L (content_of (space_of v))
content_stands P ks L (item.Int z) f le = absurd f
content_stands P ks L (item.Truth b) f le = absurd f
content_stands P ks L (item.Text t) f le = absurd f
content_stands P ks L (item.Task n) f le = absurd f
content_stands P ks L (item.Space None) f le = (omega (arith, le), omega arith, omega arith)
content_stands P ks L (item.Space (Some s)) f le = (omega (arith, le), omega arith, f)

-- the second operand of a procedure, where it is a number, has 16 bits
number_fits : (ks : List Kind) (vs : List Value) → AreOf ks vs → FitsSigned w16 (number_at vs 1)
number_fits ks vs h = second vs (by ks vs h)
  where
    by : (ks : List Kind) (vs : List Value) → AreOf ks vs → (n : ℕ) → (k : Kind) × IsOf k (slice_index_or vs n (item.Int (pos 0)))
    by ks [] h n = (kinds.Int, fits_in_range (pos 0) refl)
    by [] (v ∷ vs) h n = absurd h
    by (k ∷ ks) (v ∷ vs) h zero = (k, h.0)
    by (k ∷ ks) (v ∷ vs) h (suc n) = by ks vs h.1 n

    second : (vs : List Value) → ((n : ℕ) → (k : Kind) × IsOf k (slice_index_or vs n (item.Int (pos 0)))) → FitsSigned w16 (number_at vs 1)
    second vs is = one (slice_index_or vs 1 (item.Int (pos 0))) (is 1).0 (is 1).1
      where
        one : (v : Value) (k : Kind) → IsOf k v → FitsSigned w16 (number_of v)
        one (item.Int z) kinds.Int h = h
        one (item.Int z) kinds.Truth h = absurd h
        one (item.Int z) kinds.Text h = absurd h
        one (item.Int z) kinds.Task h = absurd h
        one (item.Int z) kinds.Space h = absurd h
        one (item.Truth b) k h = fits_in_range (pos 0) refl
        one (item.Text t) k h = fits_in_range (pos 0) refl
        one (item.Task n) k h = fits_in_range (pos 0) refl
        one (item.Space s) k h = fits_in_range (pos 0) refl

module _ (p : Program) where
  -- a plan that gives nothing is carried out, or stops
  plan_done : {L : Uses} (plan : Plan (Option Value)) (c : Position) (ops : List Operand) (w : World) (memory : Mem) (k : Unit {0} → World → Ending)
      (l : Exit → Option (List Value) → World → Ending) → Keeps (P p) L w memory → IsPlan (λ _. Unit {0}) w.spaces plan → NoShape (GivesAs None) plan
      → Does p (free c) (scene_of w memory) (changes plan memory (λ v memory. answers c v ops memory))
      → ((w' : World) → w'.marks ≡ w.marks → Ends p L (at c (c.pc + 1) ops) w' (k tt w'))
      → Comes p (free c) (scene_of w memory) (finish (or_refused plan (λ _. Gives tt) w) k l)
  plan_done {L} (Err s) c ops w memory k l h can so does go = stop_comes p L (free c) w s memory h does
  plan_done {L} (Ok plan) c ops w memory k l h can so does go =
      let after = mem_after plan.1 memory in
      let w' = changed_by plan.1 w in
      let does' = does ∙ ap (λ o. move_stage (answers c o ops after) (free c) (scene_of w memory)) so.0 in
      does_go p (free c) (at c (c.pc + 1) ops) (scene_of w memory) after _ does'
      (go w' refl after (changes_keep (P p) L plan.1 w memory can.1 (can_fill plan.1 w.spaces so.1) h))

  -- one that gives a value pushes it, where it has room, and changes the spaces then
  plan_given : {L : Uses} (plan : Plan (Option Value)) (kind : Kind) (calls' : Calls) (n : ℕ) (c : Position) (old ops : List Operand) (w : World) (memory : Mem)
      (k : List Value → World → Ending) (l : Exit → Option (List Value) → World → Ending) → Keeps (P p) L w memory
      → IsPlan (GivesOf (Some kind)) w.spaces plan → NoShape (GivesAs (Some kind)) plan
      → Does p (free (at c c.pc old)) (scene_of w memory) (changes plan memory (λ v memory. answers (at c c.pc old) v ops memory))
      → ((v : Value) (w' : World) → IsOf kind v → w'.marks ≡ w.marks → Ends p L (at c (c.pc + 1) (keep (v ∷ []) ops)) w' (k (v ∷ []) w'))
      → Comes p (free (at c c.pc old)) (scene_of w memory) (finish (consult plan (reach calls' n c ops) w) k l)
  plan_given {L} (Err s) kind calls' n c old ops w memory k l h can so does go = stop_comes p L (free (at c c.pc old)) w s memory h does
  plan_given {L} (Ok plan) kind calls' n c old ops w memory k l h can so does go = by plan.0 plan.1 can so does
    where
      by : (given : Option Value) (changed : List SpaceChange) → IsPlan (GivesOf (Some kind)) w.spaces (Ok (given, changed)) → NoShape (GivesAs (Some kind)) (Ok (given, changed))
          → Does p (free (at c c.pc old)) (scene_of w memory) (answers (at c c.pc old) given ops (mem_after changed memory))
          → Comes p (free (at c c.pc old)) (scene_of w memory) (finish (consult (Ok (given, changed)) (reach calls' n c ops) w) k l)
      by None changed can so does = absurd can.0
      by (Some v) changed can so does =
          fits (bytes_fit (values_bytes (v ∷ []) + bytes_on ops (bytes_of c.frames)))
          (does ∙ ap (λ m. move_stage m (free (at c c.pc old)) (scene_of w memory)) (push_is (at c c.pc old) (v ∷ []) ops (mem_after changed memory)))
        where
          fits : (t : Bool)
              → Does p (free (at c c.pc old)) (scene_of w memory) (cond t (goes (at c c.pc old) (Of v ∷ ops) (mem_after changed memory)) (Halts OperandRoom))
              → Comes p (free (at c c.pc old)) (scene_of w memory)
              (finish (bind (branch t (Gives (v ∷ [])) (Stopped OperandRoom) w) (λ vs w. Gives vs (changed_by changed w))) k l)
          fits true m =
              does_go p (free (at c c.pc old)) (at c (c.pc + 1) (Of v ∷ ops)) (scene_of w memory) (mem_after changed memory) _ m
              (go v (changed_by changed w) can.0 refl (mem_after changed memory)
              (changes_keep (P p) L changed w memory can.1 (can_fill changed w.spaces so.1) h))
          fits false m = stop_comes p L (free (at c c.pc old)) w OperandRoom memory h m

-- the first of two tests
and_first : (t : Bool) → (t && true) ≡ true → t ≡ true
and_first true e = refl
and_first false e = absurd (cc e)

module _ (p : Program) (L : Uses) (few : length (P p) ≤ CELLS) (room : length L ≤ CELLS) (x : Place) where
  abbrev number : SpaceNo → Value
  number s = item.Space (Some s)

  -- the cell of the variable takes the number of a data space, and what it holds then
  takes_it : (s : SpaceNo) (w : World) (memory : Mem) → s.0 ≤ last_number → Keeps (P p) L w memory → IsFound (P p) (kinds.Space ∷ []) L w x
      → takes_number (memory.cells (addr_of x)) ≡ true
  takes_it s w memory low h is =
      and_first (takes_number (memory.cells (addr_of x)))
      (takes_values (P p) (kinds.Space ∷ []) (number s ∷ []) L w memory x few room h is (omega (arith, low), tt))

  put_keeps : (s : SpaceNo) (w : World) (memory : Mem) → s.0 ≤ last_number → Keeps (P p) L w memory → IsFound (P p) (kinds.Space ∷ []) L w x
      → Keeps (P p) L (assign x (number s ∷ []) w) (with_cells (written memory.cells (addr_of x) (held_of (number s))) memory)
  put_keeps s w memory low h is = writes_all (P p) (kinds.Space ∷ []) (number s ∷ []) L w memory x few room h is (omega (arith, low), tt)

  module _ (c : Position) (ops : List Operand) (w : World) (memory : Mem) (k : Unit {0} → World → Ending)
      (l : Exit → Option (List Value) → World → Ending) (kept : Keeps (P p) L w memory) (is : IsFound (P p) (kinds.Space ∷ []) L w x)
      (go : (w' : World) → w'.marks ≡ w.marks → Ends p L (at c (c.pc + 1) ops) w' (k tt w')) where
    -- a copy is made, its number is stored, and what the variable held is forgotten
    pub copy_ends : (held from : Option SpaceNo) (plan : Plan SpaceNo) → IsPlan (λ s. s.0 ≤ last_number) w.spaces plan → CopiesSo from plan
        → Does p (free c) (scene_of w memory)
        (changes plan memory (λ s m. keeps_space (addr_of x) s m (λ m. goes c ops (forgotten held m))))
        → Comes p (free c) (scene_of w memory)
        (finish (or_refused plan (λ s w. Gives tt (without_held held (assign x (number s ∷ []) w))) w) k l)
    copy_ends held from (Err stop) can so does = stop_comes p L (free c) w stop memory kept does
    copy_ends held from (Ok plan) can so does =
        subst (λ cs. CanAll cs w.spaces → Does p (free c) (scene_of w memory) (keeps_space (addr_of x) plan.0 (mem_after cs memory) (λ m. goes c ops (forgotten held m)))
        → Comes p (free c) (scene_of w memory) (k' (without_held held (assign x (number plan.0 ∷ []) (changed_by cs w))))) (sym so) made can.1 does
      where
        k' : World → Ending
        k' w' = k tt w'

        made : CanAll (Makes from ∷ []) w.spaces
            → Does p (free c) (scene_of w memory)
            (keeps_space (addr_of x) plan.0 (mem_after (Makes from ∷ []) memory) (λ m. goes c ops (forgotten held m)))
            → Comes p (free c) (scene_of w memory) (k tt (without_held held (assign x (number plan.0 ∷ []) (changed_by (Makes from ∷ []) w))))
        made can' does =
            let s = plan.0 in
            let w1 = changed_by (Makes from ∷ []) w in
            let m1 = mem_after (Makes from ∷ []) memory in
            let kept1 = changes_keep (P p) L (Makes from ∷ []) w memory can' (tt, tt) kept in
            let is1 = found_then (P p) kinds.Space L w memory (Makes from) x kept tt tt is in
            let w2 = assign x (number s ∷ []) w1 in
            let m2 = with_cells (written m1.cells (addr_of x) (held_of (number s))) m1 in
            let kept2 = put_keeps s w1 m1 can.0 kept1 is1 in
            let cs = forgetting held (heads_of w2.spaces) in
            let m3 = mem_after cs m2 in
            let kept3 =
            changes_keep (P p) L cs w2 m2 (forgets_can held (heads_of w2.spaces) w2.spaces)
            (can_fill cs w2.spaces (forgets_not held (heads_of w2.spaces))) kept2 in
            does_go p (free c) (at c (c.pc + 1) ops) (scene_of w memory) m3 _
            (does ∙ ap (λ m. move_stage m (free c) (scene_of w memory))
            (ap (λ t. cond t (goes c ops (forgotten held m2)) Unknown) (takes_it s w1 m1 can.0 kept1 is1)
            ∙ ap (λ heads. goes c ops (mem_after (forgetting held heads) m2)) kept2.spaces.heads))
            (go (changed_by cs w2) refl m3 kept3)

    -- the variable gets the number of a data space whose content has the shape then
    pub bind_ends : (shape : Shape) (plan : Plan SpaceNo) → IsPlan (λ s. s.0 ≤ last_number) w.spaces plan → BindsSo shape w.spaces plan
        → Does p (free c) (scene_of w memory) (fills plan memory (λ s m. keeps_space (addr_of x) s m (goes c ops)))
        → Comes p (free c) (scene_of w memory) (finish (or_refused plan (λ s w. Gives tt (assign x (number s ∷ []) w)) w) k l)
    bind_ends shape (Err stop) can so does = stop_comes p L (free c) w stop memory kept does
    bind_ends shape (Ok plan) can (inl none) does =
        subst (λ cs. Does p (free c) (scene_of w memory)
        (cond (can_all_change cs memory.cells) (keeps_space (addr_of x) plan.0 (mem_after cs memory) (goes c ops)) Unknown)
        → Comes p (free c) (scene_of w memory) (k tt (assign x (number plan.0 ∷ []) (changed_by cs w)))) (sym none) same does
      where
        same : Does p (free c) (scene_of w memory) (keeps_space (addr_of x) plan.0 memory (goes c ops))
            → Comes p (free c) (scene_of w memory) (k tt (assign x (number plan.0 ∷ []) w))
        same does =
            let s = plan.0 in
            let m2 = with_cells (written memory.cells (addr_of x) (held_of (number s))) memory in
            does_go p (free c) (at c (c.pc + 1) ops) (scene_of w memory) m2 _
            (does ∙ ap (λ t. move_stage (cond t (goes c ops m2) Unknown) (free c) (scene_of w memory)) (takes_it s w memory can.0 kept is))
            (go (assign x (number s ∷ []) w) refl m2 (put_keeps s w memory can.0 kept is))
    bind_ends shape (Ok plan) can (inr filled) does =
        subst (λ cs. CanAll cs w.spaces → Does p (free c) (scene_of w memory)
        (cond (can_all_change cs memory.cells) (keeps_space (addr_of x) plan.0 (mem_after cs memory) (goes c ops)) Unknown)
        → Comes p (free c) (scene_of w memory) (k tt (assign x (number plan.0 ∷ []) (changed_by cs w)))) (sym filled.0) other can.1 does
      where
        other : CanAll (Fills plan.0 shape ∷ []) w.spaces → Does p (free c) (scene_of w memory)
            (cond (can_all_change (Fills plan.0 shape ∷ []) memory.cells) (keeps_space (addr_of x) plan.0 (mem_after (Fills plan.0 shape ∷ []) memory) (goes c ops)) Unknown)
            → Comes p (free c) (scene_of w memory) (k tt (assign x (number plan.0 ∷ []) (changed_by (Fills plan.0 shape ∷ []) w)))
        other can' does =
            let s = plan.0 in
            let change = Fills s shape in
            let w1 = changed_by (change ∷ []) w in
            let m1 = mem_after (change ∷ []) memory in
            let kept1 = changes_keep (P p) L (change ∷ []) w memory can' (filled.1, tt) kept in
            let is1 = found_then (P p) kinds.Space L w memory change x kept filled.1 tt is in
            let m2 = with_cells (written m1.cells (addr_of x) (held_of (number s))) m1 in
            let free_cells = unknown_there (P p) s w.spaces memory (length (cell_kinds shape)) kept.spaces filled.1.0 in
            let can_it : can_all_change (change ∷ []) memory.cells ≡ true = ap (λ t. t && true) free_cells in
            does_go p (free c) (at c (c.pc + 1) ops) (scene_of w memory) m2 _
            (does ∙ ap (λ m. move_stage m (free c) (scene_of w memory))
            (ap (λ t. cond t (keeps_space (addr_of x) s m1 (goes c ops)) Unknown) can_it
            ∙ ap (λ t. cond t (goes c ops m2) Unknown) (takes_it s w1 m1 can.0 kept1 is1)))
            (go (assign x (number s ∷ []) w1) refl m2 (put_keeps s w1 m1 can.0 kept1 is1))

module _ (p : Program) (body : Option ℕ) where
  -- the content of the data space that a variable is bound to
  pub content_is : {q : Run Place} {f : Stretch} (ks : List Kind) (s : Shape) → IsPlace p body (Cell kinds.Space) q f → length ks ≤ CELLS
      → IsPlaceOf p body ks (λ r w. bind (q r w) (λ x. load kinds.Space x (λ v. deliver_place (content_of (space_of v)) r)))
      (join f (one Content (λ ks. operand.Place s ∷ drop 1 ks)))
  content_is {q} {f} ks s i few =
      let g = one Content (λ (ks : List OperandKind). operand.Place s ∷ drop 1 ks) in record {
        sized = join_sized f g i.sized (λ ks m pc. refl);
        goes =
            λ calls n b pc L os m c ops home le has.
            let r = reach calls n c ops in
            join_carries p f g b pc os m c ops (q r) (λ x. load kinds.Space x (λ v. deliver_place (content_of (space_of v)) r))
            (λ x. keep_place x ops) (λ y. keep_place y ops) i.sized has (λ h. i.goes calls n b pc L os m c ops home le h) (λ h x at_x.
            let z = pc + f.size in
            let now = at c z (keep_place x ops) in
            record {
              by = λ k l hk hl w le' memory keeps.
                  let at_one_x = at_one (P p) kinds.Space L x at_x in
                  let go = λ (v : Value). pushes now (At (content_at (space_of v))) ops memory in
                  let read = on_cell kinds.Space (memory.cells (addr_of x)) go in
                  there_ends p (free now) (kinds.Space ∷ []) x (λ (w : World). deliver_place (content_of (space_of (fetch x w))) r w) read k l w memory keeps
                  (place_fits (P p) (kinds.Space ∷ []) L x le.stands.packets le.stands.room at_one_x)
                  (does p now (scene_of w memory) _ (here p z Content (f.leaves os) m h.0 c (keep_place x ops) memory)) (λ there looked.
                  let v = fetch x w in
                  let got = reads_one (P p) L w memory x kinds.Space go keeps (found (P p) (kinds.Space ∷ []) L w x at_one_x there) in
                  let y = content_of (space_of v) in
                  read_comes p (free now) y (bytes_fit (place_bytes + bytes_on ops (bytes_of c.frames))) (λ y. at c (z + 1) (keep_place y ops)) k l w memory
                  keeps (hk y w (content_stands (P p) ks L v got.0 few) le')
                  (looked ∙ ap (λ m. move_stage m (free now) (scene_of w memory))
                  (got.1 ∙ ap (λ a. pushes now (At a) ops memory) (content_same (space_of v)))));
            });
      }

  -- a procedure on data spaces that delivers nothing, and one that delivers a value
  pub perform_is : (xs : List (Run (List Value))) {f : Stretch} (op : SpaceOperation) → space_result_kind op ≡ None
      → Is p body (AllOf (space_operand_kinds op)) pushed (values xs) f
      → IsAction p body (λ r w. bind (values xs r w) (λ vs w. or_refused (planned op vs (heads_of w.spaces)) (λ _. Gives tt) w))
      (join f (one (OnSpaces op) (drop (length (space_operand_kinds op)))))
  perform_is xs {f} op none i =
      let g = one (OnSpaces op) (drop (length (space_operand_kinds op))) in record {
        sized = join_sized f g i.sized (λ ks m pc. refl);
        goes =
            λ calls n b pc L ks m c ops home le has.
            join_carries p f g b pc ks m c ops (values xs (reach calls n c ops))
            (λ vs w. or_refused (planned op vs (heads_of w.spaces)) (λ _. Gives (tt {0})) w) (λ vs. pushed vs ops) (λ _. ops) i.sized has
            (λ h. i.goes calls n b pc L ks m c ops home le h) (λ h vs oks.
            let z = pc + f.size in
            let now = at c z (pushed vs ops) in
            record {
              by = λ k l hk hl w le' memory keeps.
                  let plan = planned op vs (heads_of w.spaces) in
                  let can = planned_sound w.spaces keeps.spaces.sound op vs (number_fits (space_operand_kinds op) vs oks) in
                  let so = planned_so op vs (heads_of w.spaces) in
                  plan_done p plan now ops w memory k l keeps (weaker w.spaces (space_result_kind op) plan can)
                  (subst (λ o. NoShape (GivesAs o) plan) none so)
                  (does p now (scene_of w memory) _ (here p z (OnSpaces op) (f.leaves ks) m h.0 c (pushed vs ops) memory
                  ∙ all_taken (space_operand_kinds op) vs ops
                  (λ vs ops. changes (planned op vs memory.heads) memory (λ v memory. answers now v ops memory)) oks
                  ∙ ap (λ heads. changes (planned op vs heads) memory (λ v memory. answers now v ops memory)) keeps.spaces.heads))
                  (λ w' same. hk tt w' tt (omega (arith, le', same)));
            });
      }
    where
      weaker : (spaces : Spaces) (o : Option Kind) (plan : Plan (Option Value)) → IsPlan (GivesOf o) spaces plan → IsPlan (λ _. Unit {0}) spaces plan
      weaker spaces o (Ok plan) can = (tt, can.1)
      weaker spaces o (Err s) can = tt

  pub consult_is : (xs : List (Run (List Value))) {f : Stretch} (op : SpaceOperation) (kind : Kind) → space_result_kind op ≡ Some kind
      → Is p body (AllOf (space_operand_kinds op)) pushed (values xs) f
      → IsValue p body (Cell kind) (λ r w. bind (values xs r w) (λ vs w. consult (planned op vs (heads_of w.spaces)) r w))
      (join f (one (OnSpaces op) (λ ks. with_answer (space_result_kind op) (drop (length (space_operand_kinds op)) ks))))
  consult_is xs {f} op kind is i =
      let g = one (OnSpaces op) (λ (ks : List OperandKind). with_answer (space_result_kind op) (drop (length (space_operand_kinds op)) ks)) in record {
        sized = join_sized f g i.sized (λ ks m pc. refl);
        goes =
            λ calls n b pc L ks m c ops home le has.
            let r = reach calls n c ops in
            join_carries p f g b pc ks m c ops (values xs r) (λ vs w. consult (planned op vs (heads_of w.spaces)) r w) (λ vs. pushed vs ops)
            (λ vs. keep vs ops) i.sized has (λ h. i.goes calls n b pc L ks m c ops home le h) (λ h vs oks.
            let z = pc + f.size in
            let now = at c z (pushed vs ops) in
            record {
              by = λ k l hk hl w le' memory keeps.
                  let plan = planned op vs (heads_of w.spaces) in
                  let can = planned_sound w.spaces keeps.spaces.sound op vs (number_fits (space_operand_kinds op) vs oks) in
                  let so = planned_so op vs (heads_of w.spaces) in
                  plan_given p plan kind calls n (at c z ops) (pushed vs ops) ops w memory k l keeps
                  (subst (λ o. IsPlan (GivesOf o) w.spaces plan) is can) (subst (λ o. NoShape (GivesAs o) plan) is so)
                  (does p now (scene_of w memory) _ (here p z (OnSpaces op) (f.leaves ks) m h.0 c (pushed vs ops) memory
                  ∙ all_taken (space_operand_kinds op) vs ops
                  (λ vs ops. changes (planned op vs memory.heads) memory (λ v memory. answers now v ops memory)) oks
                  ∙ ap (λ heads. changes (planned op vs heads) memory (λ v memory. answers now v ops memory)) keeps.spaces.heads))
                  (λ v w' ok same. hk (v ∷ []) w' (of_one kind L v ok) (omega (arith, le', same)));
            });
      }

  -- a DATASPACE variable gets a copy, and a BOUND variable is bound
  pub copy_is : {q : Run Place} {t : Run (List Value)} {e f : Stretch} → IsPlace p body (Cell kinds.Space) q e → IsValue p body (Cell kinds.Space) t f
      → IsAction p body (λ r w. bind (q r w) (λ x w. bind (t (holding_place r) w) (λ vs. copy_into x (the vs)))) (join e (join f (one Copy (drop 2))))
  copy_is {q} {t} {e} {f} j i =
      let g = one Copy (drop 2) in record {
        sized = join_sized e (join f g) j.sized (join_sized f g i.sized (λ ks m pc. refl));
        goes =
            λ calls n b pc L ks m c ops home le has.
            join_carries p e (join f g) b pc ks m c ops (q (reach calls n c ops))
            (λ x w. bind (t (holding_place (reach calls n c ops)) w) (λ vs. copy_into x (the vs))) (λ x. keep_place x ops) (λ _. ops)
            j.sized has (λ h. j.goes calls n b pc L ks m c ops home le h) (λ h x at_x.
            join_one p kinds.Space f g b (pc + e.size) (e.leaves ks) m c (keep_place x ops) (keep_place x ops) (t (reach calls n c (keep_place x ops)))
            (λ v. copy_into x v) (λ _. ops) i.sized h
            (λ h. i.goes calls n b (pc + e.size) L (e.leaves ks) m c (keep_place x ops) home le h) (λ h v ok.
            let z = pc + e.size + f.size in
            let now = at c z (Of v ∷ keep_place x ops) in
            record {
              by = λ k l hk hl w le' memory keeps.
                  let at_one_x = at_one (P p) kinds.Space L x at_x in
                  let from = space_of v in
                  let next = λ (heads : Heads) (held : Value).
                  changes (copy_plan None from heads) memory (λ s m. keeps_space (addr_of x) s m (λ m. goes now ops (forgotten (space_of held) m))) in
                  let read = on_cell kinds.Space (memory.cells (addr_of x)) (next memory.heads) in
                  let run = λ (w : World).
                  or_refused (copy_plan None from (heads_of w.spaces))
                  (λ s w'. Gives (tt {0}) (without_held (space_of (fetch x w)) (assign x (item.Space (Some s) ∷ []) w'))) w in
                  there_ends p (free now) (kinds.Space ∷ []) x run read k l w memory keeps
                  (place_fits (P p) (kinds.Space ∷ []) L x le.stands.packets le.stands.room at_one_x)
                  (does p now (scene_of w memory) _ (here p z Copy (f.leaves (e.leaves ks)) m h.0 c (Of v ∷ keep_place x ops) memory)) (λ there looked.
                  let is = found (P p) (kinds.Space ∷ []) L w x at_one_x there in
                  let got = reads_one (P p) L w memory x kinds.Space (next memory.heads) keeps is in
                  copy_ends p L le.stands.packets le.stands.room x now ops w memory k l keeps is (λ w' same. hk tt w' tt (omega (arith, le', same)))
                  (space_of (fetch x w)) from (copy_plan None from (heads_of w.spaces)) (copy_sound w.spaces keeps.spaces.sound None from)
                  (copy_so from (heads_of w.spaces))
                  (looked ∙ ap (λ m. move_stage m (free now) (scene_of w memory))
                  (got.1 ∙ ap (λ heads. next heads (fetch x w)) keeps.spaces.heads)));
            }));
      }

  pub bind_is : {q : Run Place} {t : Run (List Value)} {e f : Stretch} (shape : Shape) → IsPlace p body (Cell kinds.Space) q e
      → IsValue p body (Cell kinds.Space) t f
      → IsAction p body (λ r w. bind (q r w) (λ x w. bind (t (holding_place r) w) (λ vs. bind_to x shape (the vs)))) (join e (join f (one (Bind shape) (drop 2))))
  bind_is {q} {t} {e} {f} shape j i =
      let g = one (Bind shape) (drop 2) in record {
        sized = join_sized e (join f g) j.sized (join_sized f g i.sized (λ ks m pc. refl));
        goes =
            λ calls n b pc L ks m c ops home le has.
            join_carries p e (join f g) b pc ks m c ops (q (reach calls n c ops))
            (λ x w. bind (t (holding_place (reach calls n c ops)) w) (λ vs. bind_to x shape (the vs))) (λ x. keep_place x ops) (λ _. ops)
            j.sized has (λ h. j.goes calls n b pc L ks m c ops home le h) (λ h x at_x.
            join_one p kinds.Space f g b (pc + e.size) (e.leaves ks) m c (keep_place x ops) (keep_place x ops) (t (reach calls n c (keep_place x ops)))
            (λ v. bind_to x shape v) (λ _. ops) i.sized h
            (λ h. i.goes calls n b (pc + e.size) L (e.leaves ks) m c (keep_place x ops) home le h) (λ h v ok.
            let z = pc + e.size + f.size in
            let now = at c z (Of v ∷ keep_place x ops) in
            record {
              by = λ k l hk hl w le' memory keeps.
                  let at_one_x = at_one (P p) kinds.Space L x at_x in
                  let fills_it = λ (heads : Heads).
                  fills (bind_plan shape (space_of v) heads) memory (λ s m. keeps_space (addr_of x) s m (goes now ops)) in
                  let fit = cells_fit (length (cell_kinds shape)) in
                  let store = λ (w : World).
                  or_refused (bind_plan shape (space_of v) (heads_of w.spaces)) (λ s w. Gives (tt {0}) (assign x (item.Space (Some s) ∷ []) w)) w in
                  let by = λ (is : IsFound (P p) (kinds.Space ∷ []) L w x) (fits : fit ≡ true) (does : Does p (free now) (scene_of w memory) (fills_it memory.heads)).
                  bind_ends p L le.stands.packets le.stands.room x now ops w memory k l keeps is (λ w' same. hk tt w' tt (omega (arith, le', same)))
                  shape (bind_plan shape (space_of v) (heads_of w.spaces)) (bind_sound w.spaces keeps.spaces.sound shape (space_of v) (is_number v ok))
                  (bind_so shape (space_of v) w.spaces (leb-true (length (cell_kinds shape)) CELLS fits))
                  (does ∙ ap (λ heads. move_stage (fills_it heads) (free now) (scene_of w memory)) keeps.spaces.heads) in
                  there_ends p (free now) (kinds.Space ∷ []) x (branch fit store (Stopped CellRoom)) (cond fit (fills_it memory.heads) (Halts CellRoom)) k l w memory keeps
                  (place_fits (P p) (kinds.Space ∷ []) L x le.stands.packets le.stands.room at_one_x)
                  (does p now (scene_of w memory) _ (here p z (Bind shape) (f.leaves (e.leaves ks)) m h.0 c (Of v ∷ keep_place x ops) memory)) (λ there looked.
                  fitting fit (free now) w memory store k l (fills_it memory.heads) keeps looked (by (found (P p) (kinds.Space ∷ []) L w x at_one_x there)));
            }));
      }
    where
      fitting : {L : Uses} (fit : Bool) (d : Control) (w : World) (memory : Mem) (store : World → Outcome (Unit {0})) (k : Unit {0} → World → Ending)
          (l : Exit → Option (List Value) → World → Ending) (move : Move) → Keeps (P p) L w memory
          → Does p d (scene_of w memory) (cond fit move (Halts CellRoom))
          → (fit ≡ true → Does p d (scene_of w memory) move → Comes p d (scene_of w memory) (finish (store w) k l))
          → Comes p d (scene_of w memory) (finish (branch fit store (Stopped CellRoom) w) k l)
      fitting true d w memory store k l move h does next = next refl does
      fitting {L} false d w memory store k l move h does next = stop_comes p L d w CellRoom memory h does

      is_number : (v : Value) → IsOf kinds.Space v → IsSpaceNumber (space_of v)
      is_number (item.Int z) f = absurd f
      is_number (item.Truth b) f = absurd f
      is_number (item.Text t) f = absurd f
      is_number (item.Task n) f = absurd f
      is_number (item.Space s) f = f
