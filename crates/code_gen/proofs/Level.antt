-- Calls of bodies do in the code what they do, since each costs a mark.
use Rattle.std.proofs.Common.{◌≡◌, ℕ, zero, suc, ◌+◌, ◌≤◌, List, [], ◌∷◌, ◌++◌, map, length, Option, Some, Bool, true, false, cond, refl, sym, ap, ◌∙◌, subst}
use Rattle.std.proofs.Common.{arith, append_assoc, length-append}
use Rattle.std.specs.Prelude.{slice_get, flat_map}
use Rattle.std.proofs.lemmas.Bool.{leb-true}
use Rattle.eu_base.specs.declared.address.TheConstants.{CELLS}
use Rattle.eu_base.specs.declared.stop.Stop.{Stop}
use Rattle.eu_base.specs.declared.stop.Stop.TheVariants.{CellRoom, TextRoom}
use Rattle.eu_base.specs.declared.value.Kind.{Kind}
use Rattle.eu_base.specs.declared.value.Value.{Value}
use Rattle.eu_base.specs.Room.{cells_fit, texts_fit}
use Rattle.eu_base.specs.declared.address.Area.TheVariants as areas
use Rattle.eu_base.specs.Cells.{Cell, Free, freed, blocks_in}
use Rattle.code_form.specs.Machine.{Mem, with_cells}
use Rattle.code_form.specs.declared.halt.Halt.TheVariants as halts
use Rattle.code_form.specs.declared.operand.Operand.{Operand}
use Rattle.code_form.specs.declared.operand.OperandKind.{OperandKind}
use Rattle.eu_base.specs.declared.shape.Shape.{Shape}
use Rattle.code_form.specs.declared.code.Spot.{Spot}
use Rattle.code_form.specs.declared.code.Entry.{Entry}
use Rattle.code_form.specs.declared.code.Layout.{Layout}
use Rattle.code_form.specs.declared.code.Layout.TheVariants as layouts
use Rattle.code_form.specs.declared.instr.Instr.TheVariants.{Call, Refer}
use Rattle.code_form.specs.Program as tables
use Rattle.code_form.specs.Program.{Program, line_of, in_body, owner, cells_at}
use Rattle.code_form.specs.Valid.{IsRefinement}
use Rattle.code_form.specs.Machine.{Frame, Position, free, To, Stops, Unsaid, Goes, Unknown, Spends, at, base_of, bytes_on, bytes_of, entering, enters}
use Rattle.code_form.specs.Machine.{calls_to, call_move, refer_move, frame_contents, link_contents, content_blocks, back_into, out_to, rest_at, after_stage}
use Rattle.code_form.specs.Machine.{stage, written_from, step}
use Rattle.elan_types.specs.declared.core_phrase.Exit.{Exit}
use Rattle.elan_types.specs.declared.core_phrase.Exit.TheVariants as exits
use Rattle.elan_types.specs.declared.core_phrase.Scope.{Scope}
use Rattle.elan_types.specs.declared.core_phrase.Scope.TheVariants as scopes
use Rattle.elan_types.specs.declared.core_phrase.Content.{Content}
use Rattle.elan_types.specs.declared.core_phrase.Body.{Body}
use Rattle.elan_types.specs.Eval.{Slot, Passed, all_slots, World, Outcome, Gives, Left, Stopped, OutOfMarks, Asks, branch, with_room, cut, called, referred, content, frame, link}
use Rattle.elan_types.specs.Eval.{store_blocks, own_variables, run_called, run_referred, level, Calls}
use Rattle.elan_types.specs.Command.{Ending}
use Rattle.place_gen.specs.Correct.{scene_of}
use Rattle.place_gen.specs.Layouts.{layout_of}
use Rattle.place_gen.proofs.Homes.{Delivers, LeftBy, uses_of, layout_uses, uses_at, uses_in, frame_uses}
use Rattle.place_gen.proofs.Cells.{OfValue, Uses, AreCounts, Keeps, AllKept, get_left, get_right, cuts, extends, free_beyond}
use Rattle.place_gen.proofs.Blocks.{same_blocks, more_blocks}
use Rattle.place_gen.proofs.Carry.{P, finish, Result, result_ops, way_out, reach, After, resting, going, Ends, Exits, wider, CallsCarry, Stands}
use Rattle.place_gen.proofs.Carry.{Within, TakeAll, passed_operand, pushed_passed, here, out_carries, spend_carries}
use Rattle.place_gen.proofs.Slots.{all_taken}
use Rattle.code_gen.proofs.Framed.{cell_for, cells_for, framed}
use Rattle.code_gen.proofs.Entered.{call_uses, link_uses, frame_kept, kept_lengths}

-- what comes of a call, and of a reference, as what comes of the body
finish_called : (n : ℕ) (o : Outcome (Option (List Value))) (k : Option (List Value) → World → Ending) (l : Exit → Option (List Value) → World → Ending)
    → finish (called n o) k l ≡ finish o (λ v w. k v (cut n w)) (λ e v w. k v (cut n w))
finish_called n (Gives v w) k l = refl
finish_called n (Left e v w) k l = refl
finish_called n (Stopped s w) k l = refl
finish_called n (OutOfMarks w) k l = refl
finish_called n (Asks q w) k l = refl

-- where the exits of a refinement lead
abbrev pub from_refinement : ℕ → (Option (List Value) → World → Ending) → (Exit → Option (List Value) → World → Ending) → Exit → Option (List Value) → World → Ending
from_refinement n k l exits.Body v w = k v (cut n w)
from_refinement n k l exits.Around v w = l exits.Around v w

finish_referred : (n : ℕ) (o : Outcome (Option (List Value))) (k : Option (List Value) → World → Ending) (l : Exit → Option (List Value) → World → Ending)
    → finish (referred n o) k l ≡ finish o (λ v w. k v (cut n w)) (from_refinement n k l)
finish_referred n (Gives v w) k l = refl
finish_referred n (Left exits.Body v w) k l = refl
finish_referred n (Left exits.Around v w) k l = refl
finish_referred n (Stopped s w) k l = refl
finish_referred n (OutOfMarks w) k l = refl
finish_referred n (Asks q w) k l = refl

module _ (p : Program) where
  -- the code of a body does what the body does: it ends as it is left from itself
  pub record ContentCarries (q first : ℕ) (con : Content) : Type 0 where
    pub ends : (calls : Calls) (n b : ℕ) (L : Uses) (c : Position) → Within p calls n b L (in_body q) c → (l : Exit → Option (List Value) → World → Ending)
        → Exits p L b (Some q) c.frames l → (w : World) → w.marks ≤ b
        → Ends p L (at c first []) w (finish (content con (reach calls n c []) w) (l exits.Body) l)

  -- a stop where a body is entered changes nothing
  full_ends : (L : Uses) (c : Position) (s : Stop) (w : World) (memory : Mem) (k : Option (List Value) → World → Ending) (l : Exit → Option (List Value) → World → Ending)
      → Keeps (P p) L w memory → After p (after_stage (Stops s) (free c) (scene_of w memory)) (finish (Stopped s w) k l)
  full_ends L c s w memory k l h = record {
    steps = 0;
    rest = rest_at (halts.Stopped s) (free c) (scene_of w memory);
    comes = refl;
    shows = resting p (halts.Stopped s) (free c) w memory h;
  }

  -- the texts of a frame have room, and the machine goes into the body; or it stops
  texts_ends : (L U : Uses) (more : List Slot) (c inner : Position) (go : World → Outcome (Option (List Value))) (k : Option (List Value) → World → Ending)
      (l : Exit → Option (List Value) → World → Ending) (w : World) (memory now : Mem) → Keeps (P p) L w memory → Keeps (P p) U (record w { store = w.store ++ more }) now → (t : Bool)
      → Ends p U inner (record w { store = w.store ++ more }) (finish (go (record w { store = w.store ++ more })) k l)
      → After p (after_stage (cond t (To inner now) (Stops TextRoom)) (free c) (scene_of w memory))
      (finish (branch t (λ w. go (record w { store = w.store ++ more })) (Stopped TextRoom) w) k l)
  texts_ends L U more c inner go k l w memory now h later false e = full_ends L c TextRoom w memory k l h
  texts_ends L U more c inner go k l w memory now h later true e =
      going p (free inner) (scene_of (record w { store = w.store ++ more }) now) _ (e now later)

  -- cells are taken for a frame where there is room, and then its texts
  room_ends : length (P p) ≤ CELLS → (L M : Uses) (more : List Slot) (ns : List Cell) (c inner : Position) (go : World → Outcome (Option (List Value))) (k : Option (List Value) → World → Ending)
      (l : Exit → Option (List Value) → World → Ending) (w : World) (memory : Mem) → c.used ≡ length L → AllKept (P p) L (length L) M more ns → Keeps (P p) L w memory
      → (t : Bool) → (t ≡ true
      → (length (L ++ M) ≤ CELLS) × Ends p (L ++ M) inner (record w { store = w.store ++ more }) (finish (go (record w { store = w.store ++ more })) k l))
      → After p (after_stage (cond t (cond (texts_fit (content_blocks ns) (blocks_in (written_from c.used ns memory.cells)))
      (To inner (with_cells (written_from c.used ns memory.cells) memory)) (Stops TextRoom)) (Stops CellRoom)) (free c) (scene_of w memory))
      (finish (branch t (branch (texts_fit (store_blocks more) (store_blocks (w.store ++ more)))
      (λ w. go (record w { store = w.store ++ more })) (Stopped TextRoom)) (Stopped CellRoom) w) k l)
  room_ends few L M more ns c inner go k l w memory used kept h false e = full_ends L c CellRoom w memory k l h
  room_ends few L M more ns c inner go k l w memory used kept h true e =
      let now = with_cells (written_from c.used ns memory.cells) memory in
      let later : Keeps (P p) (L ++ M) (record w { store = w.store ++ more }) now =
      subst (λ n. Keeps (P p) (L ++ M) (record w { store = w.store ++ more }) (with_cells (written_from n ns memory.cells) memory)) (sym used) (extends (P p) M L w more memory ns h kept) in
      let x = e refl in
      let test = texts_fit (store_blocks more) (store_blocks (w.store ++ more)) in
      let same : texts_fit (content_blocks ns) (blocks_in now.cells) ≡ test =
      sym (ap (λ n. texts_fit n (store_blocks (w.store ++ more))) (more_blocks (P p) L (length L) M more ns kept)
      ∙ ap (texts_fit (content_blocks ns)) (same_blocks areas.Run (P p) (L ++ M) (record w { store = w.store ++ more }) now few x.0 later)) in
      subst (λ t. After p (after_stage (cond t (To inner now) (Stops TextRoom)) (free c) (scene_of w memory))
      (finish (branch test (λ w. go (record w { store = w.store ++ more })) (Stopped TextRoom) w) k l)) (sym same)
      (texts_ends L (L ++ M) more c inner go k l w memory now h later test x.1)

  -- a body is entered with these cells
  abbrev entered : Position → ℕ → ℕ → Bool → ℕ → List Operand → List Cell → Position
  entered c first base refines body ops ns = record {
    pc = first;
    ops = [];
    used = c.used + length ns;
    frames =
        record { back = c.pc + 1; base = base; used = c.used; refines = refines; body = body; ops = ops } ∷ c.frames;
  }

  -- with the cells of a frame in use, that those of the frame below are where they were
  enter_ends : length (P p) ≤ CELLS → (L M : Uses) (more : List Slot) (ns : List Cell) (c : Position) (first base : ℕ) (refines : Bool) (body : ℕ) (ops : List Operand)
      (go : World → Outcome (Option (List Value))) (k : Option (List Value) → World → Ending) (l : Exit → Option (List Value) → World → Ending) (w : World) (memory : Mem)
      → c.used ≡ length L → AllKept (P p) L (length L) M more ns → Keeps (P p) L w memory
      → (length (L ++ M) ≤ CELLS
      → Ends p (L ++ M) (entered c first base refines body ops ns) (record w { store = w.store ++ more })
      (finish (go (record w { store = w.store ++ more })) k l))
      → After p (after_stage (enters c first base refines body ops ns memory) (free c) (scene_of w memory)) (finish (with_room more go w) k l)
  enter_ends few L M more ns c first base refines body ops go k l w memory used kept h e =
      let lengths = kept_lengths (P p) L M (length L) more ns kept in
      let same : c.used + length ns ≡ length w.store + length more = omega (arith, used, h.command.as_many, lengths.0, lengths.1) in
      let all : length (L ++ M) ≡ c.used + length ns = omega (arith, used, lengths.1, length-append L M) in
      let free' = free_beyond ns c.used memory.cells (λ x le. h.command.beyond x (omega (arith, le, used))) in
      let inner = entered c first base refines body ops ns in
      subst (λ t. After p (after_stage (cond t (entering c first base refines body ops ns memory) Unsaid) (free c) (scene_of w memory))
      (finish (with_room more go w) k l)) (sym free')
      (subst (λ n. After p (after_stage (entering c first base refines body ops ns memory) (free c) (scene_of w memory))
      (finish (branch (cells_fit n) (branch (texts_fit (store_blocks more) (store_blocks (w.store ++ more)))
      (λ w. go (record w { store = w.store ++ more })) (Stopped TextRoom)) (Stopped CellRoom) w) k l)) same
      (room_ends few L M more ns c inner go k l w memory used kept h (cells_fit (c.used + length ns))
      (λ t. let few = subst (λ n. n ≤ CELLS) (sym all) (leb-true (c.used + length ns) CELLS t) in (few, e few))))

  -- what comes after a body, with its cells given back
  back_after : (L more us : Uses) (n : ℕ) (f : Frame) (fs : List Frame) (c : Position) (v : Option (List Value)) (w : World)
      (k : Option (List Value) → World → Ending) → cells_at (tables.layout_of (slice_get p.bodies f.body)) ≡ map cell_for us → AreCounts more → n ≡ length L → f.used ≡ length L
      → c.used ≡ length (L ++ call_uses us) + length more
      → Ends p L (record { pc = f.back; ops = result_ops v ++ f.ops; used = f.used; frames = fs }) (cut n w) (k v (cut n w)) → (memory : Mem)
      → Keeps (P p) ((L ++ call_uses us) ++ more) w memory
      → After p (stage (back_into p (result_ops v) c.used f fs memory) c (scene_of w memory)) (k v (cut n w))
  back_after L more us n f fs c v w k kinds' counts is f_is used e memory keeps =
      let M = call_uses us in
      let next : Position = record { pc = f.back; ops = result_ops v ++ f.ops; used = f.used; frames = fs } in
      let all : c.used ≡ length (L ++ (M ++ more)) = omega (arith, used, length-append L M, length-append M more, length-append L (M ++ more)) in
      let now = with_cells (freed f.used c.used memory.cells) memory in
      let held = subst (λ U. Keeps (P p) U w memory) (append_assoc L M more) keeps in
      let known = framed (P p) L us more w.store memory.cells (slice_get p.bodies f.body) f.used c.used held.command counts kinds' f_is all in
      subst (λ t. After p (stage (cond t (Goes next now) Unknown) c (scene_of w memory)) (k v (cut n w))) (sym known)
      (going p (free next) (scene_of (cut n w) now) (k v (cut n w))
      (e now (cuts (λ _. Free) (P p) L (M ++ more) w memory n f.used c.used is f_is all (λ x u s n past is kept. refl) held)))

-- an entry of the tables is that of a body, whose code does what the body does
pub record IsMade (p : Program) (bodies : List Body) (q : ℕ) (e : Entry) : Type 0 where
  pub body : Body
  pub is : slice_get bodies q ≡ Some body
  pub layout : e.layout ≡ layout_of body.scope
  pub carry : ContentCarries p q e.first body.content

-- what the cells of a PROC's frame are for
abbrev own_uses : List OperandKind → List Kind → Uses
own_uses ks vs = flat_map uses_of ks ++ map OfValue vs

module _ (bodies : List Body) (p : Program) where
  own_is : (s : Scope) (ks : List OperandKind) (vs : List Kind) → layout_of s ≡ layouts.Own ks vs → own_variables s ≡ vs
  own_is (scopes.Own ps us) ks vs e = cc
  own_is (scopes.Of q) ks vs e = let f : ⊥ = cc in absurd f
  own_is scopes.Level ks vs e = let f : ⊥ = cc in absurd f

  delivers_is : (q : ℕ) (e : Entry) (k : Option Shape) → slice_get p.bodies q ≡ Some e → Delivers p (Some q) k → e.delivers ≡ k
  delivers_is q e k is d =
      let same : d.0 ≡ e = entry_is d.0 e (sym d.1 ∙ is) in
      ap (λ (e : Entry). e.delivers) (sym same) ∙ d.2
    where
      entry_is : (a b : Entry) → Some a ≡ Some b → a ≡ b
      entry_is a b e = cc

  owner_own : (q : ℕ) (e : Entry) (ks : List OperandKind) (vs : List Kind) → slice_get p.bodies q ≡ Some e → e.layout ≡ layouts.Own ks vs
      → owner p (Some q) ≡ Some q
  owner_own q e ks vs is own = ap (λ o. tables.owner_at q (tables.layout_of o)) is ∙ ap (tables.owner_in q) own

  pub frame_own : (q : ℕ) (e : Entry) (ks : List OperandKind) (vs : List Kind) → slice_get p.bodies q ≡ Some e → e.layout ≡ layouts.Own ks vs
      → frame_uses p (Some q) ≡ own_uses ks vs
  frame_own q e ks vs is own = ap (uses_in p) (owner_own q e ks vs is own) ∙ ap (λ o. uses_at (tables.layout_of o)) is ∙ ap layout_uses own

  -- the cells that the tables give to a body
  cells_own : (q : ℕ) (e : Entry) (ks : List OperandKind) (vs : List Kind) → slice_get p.bodies q ≡ Some e → e.layout ≡ layouts.Own ks vs
      → cells_at (tables.layout_of (slice_get p.bodies q)) ≡ map cell_for (own_uses ks vs)
  cells_own q e ks vs is own = ap (λ o. cells_at (tables.layout_of o)) is ∙ ap tables.cells_of own ∙ cells_for (layouts.Own ks vs)

  cells_refined : (q : ℕ) (e : Entry) → slice_get p.bodies q ≡ Some e → IsRefinement e.layout → cells_at (tables.layout_of (slice_get p.bodies q)) ≡ []
  cells_refined q e is refines = ap (λ o. cells_at (tables.layout_of o)) is ∙ by e.layout refines
    where
      by : (l : Layout) → IsRefinement l → tables.cells_of l ≡ []
      by (layouts.Own ks vs) r = absurd r
      by (layouts.Of q) r = refl
      by layouts.Level r = refl

  -- a PROC is left by both exits to where it was called
  pub call_exits : (L : Uses) (q n b : ℕ) (e : Entry) (ks : List OperandKind) (vs : List Kind) (f : Frame) (fs : List Frame)
      (k : Option (List Value) → World → Ending) → slice_get p.bodies q ≡ Some e → e.layout ≡ layouts.Own ks vs → f.body ≡ q → f.refines ≡ false → n ≡ length L
      → f.used ≡ length L → ((v : Option (List Value)) (w : World) → Result e.delivers v → w.marks ≤ b
      → Ends p L (record { pc = f.back; ops = result_ops v ++ f.ops; used = f.used; frames = fs }) w (k v w))
      → Exits p (L ++ call_uses (own_uses ks vs)) b (Some q) (f ∷ fs) (λ x v w. k v (cut n w))
  call_exits L q n b e ks vs f fs k is own body calls n_is f_is hk = record {
    by = λ x d gives more counts v w r le c used memory keeps.
        let r' = subst (λ d. Result d v) (sym (delivers_is q e d is (gives_own x d gives))) r in
        let kinds' = ap (λ q. cells_at (tables.layout_of (slice_get p.bodies q))) body ∙ cells_own q e ks vs is own in
        subst (λ m. After p (stage m c (scene_of w memory)) (k v (cut n w))) (sym (way x (result_ops v) c.used memory))
        (back_after p L more (own_uses ks vs) n f fs c v w k kinds' counts n_is f_is used (hk v (cut n w) r' le) memory keeps);
  }
    where
      gives_own : (x : Exit) (d : Option Shape) → LeftBy p (Some q) x d → Delivers p (Some q) d
      gives_own exits.Body d gives = gives
      gives_own exits.Around d gives = subst (λ o. Delivers p o d) (owner_own q e ks vs is own) gives

      way : (x : Exit) (result : List Operand) (used : ℕ) (memory : Mem) → way_out p x result used (f ∷ fs) memory ≡ back_into p result used f fs memory
      way exits.Body result used memory = refl
      way exits.Around result used memory = ap (λ t. cond t (out_to p result used fs memory) (back_into p result used f fs memory)) calls

  -- a refinement is left to where it was named, and with the frames around it by the exit around
  refer_exits : (L : Uses) (q n b : ℕ) (home : Option ℕ) (e : Entry) (f : Frame) (fs : List Frame) (k : Option (List Value) → World → Ending)
      (l : Exit → Option (List Value) → World → Ending) → slice_get p.bodies q ≡ Some e → IsRefinement e.layout → owner p (Some q) ≡ owner p home → f.body ≡ q
      → f.refines ≡ true → n ≡ length L → f.used ≡ length L → ((v : Option (List Value)) (w : World) → Result e.delivers v → w.marks ≤ b
      → Ends p L (record { pc = f.back; ops = result_ops v ++ f.ops; used = f.used; frames = fs }) w (k v w)) → Exits p L b home fs l
      → Exits p (L ++ link_uses) b (Some q) (f ∷ fs) (from_refinement n k l)
  refer_exits L q n b home e f fs k l is refined owned body refines n_is f_is hk hl = record { by = by }
    where
      by : (x : Exit) (d : Option Shape) → LeftBy p (Some q) x d → (more : Uses) → AreCounts more → (v : Option (List Value)) (w : World) → Result d v → w.marks ≤ b
          → (c : Position) → c.used ≡ length (L ++ link_uses) + length more → (memory : Mem) → Keeps (P p) ((L ++ link_uses) ++ more) w memory
          → After p (stage (way_out p x (result_ops v) c.used (f ∷ fs) memory) c (scene_of w memory)) (from_refinement n k l x v w)
      by exits.Body d gives more counts v w r le c used memory keeps =
          let kinds' = ap (λ q. cells_at (tables.layout_of (slice_get p.bodies q))) body ∙ cells_refined q e is refined in
          back_after p L more [] n f fs c v w k kinds' counts n_is f_is used
          (hk v (cut n w) (subst (λ d. Result d v) (sym (delivers_is q e d is gives)) r) le) memory keeps
      by exits.Around d gives more counts v w r le c used memory keeps =
          subst (λ t. After p (stage (cond t (out_to p (result_ops v) c.used fs memory) (back_into p (result_ops v) c.used f fs memory)) c (scene_of w memory))
          (l exits.Around v w)) (sym refines)
          ((wider p L link_uses (tt, (tt, tt)) hl).by exits.Around d (subst (λ o. Delivers p o d) owned gives) more counts v w r le c used memory keeps)

  -- the cells in use behind the frame below are those of the call
  pub stands_called : (L : Uses) (m : Spot) (c c' : Position) (q : ℕ) (us : Uses) → Stands p L m c → length (L ++ call_uses us) ≤ CELLS
      → c'.used ≡ length (L ++ call_uses us) → base_of c'.frames ≡ length L + 2 → frame_uses p (Some q) ≡ us
      → Stands p (L ++ call_uses us) (in_body q) c'
  stands_called L m c c' q us h room used base is = record {
    used = used;
    room = room;
    packets = h.packets;
    level = λ x k e. get_left L (call_uses us) x (OfValue k) (h.level x k e);
    frame = λ x u e.
        let n : base_of c'.frames + x ≡ length L + suc (suc x) = omega (arith, base) in
        ap (slice_get (L ++ call_uses us)) n ∙ get_right L (call_uses us) (suc (suc x)) ∙ ap (λ l. slice_get l x) (sym is) ∙ e;
  }

  stands_referred : (L : Uses) (m : Spot) (c c' : Position) (q : ℕ) → Stands p L m c → length (L ++ link_uses) ≤ CELLS → c'.used ≡ length (L ++ link_uses)
      → base_of c'.frames ≡ base_of c.frames → owner p (Some q) ≡ owner p m.body → Stands p (L ++ link_uses) (in_body q) c'
  stands_referred L m c c' q h room used base owned = record {
    used = used;
    room = room;
    packets = h.packets;
    level = λ x k e. get_left L link_uses x (OfValue k) (h.level x k e);
    frame = λ x u e.
        ap (λ z. slice_get (L ++ link_uses) (z + x)) base
        ∙ get_left L link_uses (base_of c.frames + x) u (h.frame x u (ap (λ o. slice_get (uses_in p o) x) (sym owned) ∙ e));
  }

  module _ (made : (q : ℕ) (e : Entry) → slice_get p.bodies q ≡ Some e → IsMade p bodies q e) where
    -- a PROC that is called, where calls in it do what they do
    call_ends : (n b pc q : ℕ) (L : Uses) (m : Spot) (c : Position) (ops : List Operand) (e : Entry) (ks : List OperandKind) (us : List Kind)
        (args : List Passed) (con : Content) → CallsCarry p (level bodies n) n → b ≤ n → Stands p L m c → slice_get p.bodies q ≡ Some e
        → e.layout ≡ layouts.Own ks us → TakeAll p ks L args → ContentCarries p q e.first con
        → (k : Option (List Value) → World → Ending) (l : Exit → Option (List Value) → World → Ending)
        → ((v : Option (List Value)) (w : World) → Result e.delivers v → w.marks ≤ b → Ends p L (at c (pc + 1) (result_ops v ++ ops)) w (k v w)) → (w : World)
        → w.marks ≤ b → (memory : Mem) → Keeps (P p) L w memory
        → After p (after_stage (enters (at c pc (pushed_passed p args ops)) e.first (c.used + 2) false q ops
        (frame_contents (map passed_operand args) us) memory) (free (at c pc (pushed_passed p args ops))) (scene_of w memory))
        (finish (with_room (frame (all_slots args) us)
        (λ w'. called (length w.store)
        (content con (record { calls = level bodies n; turns = n; base = length w.store + 2; held = bytes_on ops (bytes_of c.frames) }) w')) w) k l)
    call_ends n b pc q L m c ops e ks us args con calls le h is own takes body k l hk w lw memory keeps =
        let now = at c pc (pushed_passed p args ops) in
        let N = length w.store in
        let same : c.used ≡ N = omega (arith, h.used, keeps.command.as_many) in
        let frame' = own_uses ks us in
        let M = call_uses frame' in
        let ns = frame_contents (map passed_operand args) us in
        let kept = frame_kept p L ks args us takes in
        let w' : World = record w { store = w.store ++ frame (all_slots args) us } in
        let inner = entered p now e.first (c.used + 2) false q ops ns in
        let l' = λ (x : Exit) (v : Option (List Value)) (w : World). k v (cut N w) in
        let go = λ (z : ℕ) (w : World). content con (record { calls = level bodies n; turns = n; base = z + 2; held = bytes_on ops (bytes_of c.frames) }) w in
        let f : Frame = record { back = pc + 1; base = c.used + 2; used = c.used; refines = false; body = q; ops = ops } in
        enter_ends p h.packets L M (frame (all_slots args) us) ns now e.first (c.used + 2) false q ops (λ w. called N (go N w)) k l w memory h.used kept keeps (λ room.
        let base : c.used + 2 ≡ length L + 2 = omega (arith, h.used) in
        let used : c.used + length ns ≡ length (L ++ M) = omega (arith, h.used, length-append L M, (kept_lengths (P p) L M (length L) (frame (all_slots args) us) ns kept).1) in
        let within : Within p (level bodies n) n b (L ++ M) (in_body q) inner =
        record { turns = le; stands = stands_called L m c inner q frame' h room used base (frame_own q e ks us is own); carry = calls } in
        let exits' = call_exits L q N b e ks us f c.frames k is own refl refl keeps.command.as_many h.used hk in
        subst (λ o. Ends p (L ++ M) inner w' o) (sym (finish_called N (go N w') k l))
        (subst (λ z. Ends p (L ++ M) inner w' (finish (go z w') (λ v w. k v (cut N w)) l')) same
        (body.ends (level bodies n) n b (L ++ M) inner within l' exits' w' lw)))

    -- a refinement, which goes on over the cells of the frame below
    refer_ends : (n b pc q : ℕ) (L : Uses) (m : Spot) (c : Position) (ops : List Operand) (e : Entry) (con : Content) → CallsCarry p (level bodies n) n → b ≤ n
        → Stands p L m c → slice_get p.bodies q ≡ Some e → IsRefinement e.layout → owner p (Some q) ≡ owner p m.body → ContentCarries p q e.first con
        → (k : Option (List Value) → World → Ending) (l : Exit → Option (List Value) → World → Ending)
        → ((v : Option (List Value)) (w : World) → Result e.delivers v → w.marks ≤ b → Ends p L (at c (pc + 1) (result_ops v ++ ops)) w (k v w))
        → Exits p L b m.body c.frames l → (w : World) → w.marks ≤ b → (memory : Mem) → Keeps (P p) L w memory
        → After p (after_stage (enters (at c pc ops) e.first (base_of c.frames) true q ops link_contents memory) (free (at c pc ops)) (scene_of w memory))
        (finish (with_room link (λ w'.
        referred (length w.store)
        (content con (record { calls = level bodies n; turns = n; base = base_of c.frames; held = bytes_on ops (bytes_of c.frames) }) w')) w) k l)
    refer_ends n b pc q L m c ops e con calls le h is refined owned body k l hk hl w lw memory keeps =
        let now = at c pc ops in
        let N = length w.store in
        let M = link_uses in
        let w' : World = record w { store = w.store ++ link } in
        let inner = entered p now e.first (base_of c.frames) true q ops link_contents in
        let go =
        λ (w : World). content con (record { calls = level bodies n; turns = n; base = base_of c.frames; held = bytes_on ops (bytes_of c.frames) }) w in
        let f : Frame = record { back = pc + 1; base = base_of c.frames; used = c.used; refines = true; body = q; ops = ops } in
        enter_ends p h.packets L M link link_contents now e.first (base_of c.frames) true q ops (λ w. referred N (go w)) k l w memory h.used
        ((0, refl, refl, tt), ((0, refl, refl, tt), tt)) keeps
        (λ room.
        let used : c.used + length link_contents ≡ length (L ++ M) = omega (arith, h.used, length-append L M) in
        let within : Within p (level bodies n) n b (L ++ M) (in_body q) inner =
        record { turns = le; stands = stands_referred L m c inner q h room used refl owned; carry = calls } in
        let exits' = refer_exits L q N b m.body e f c.frames k l is refined owned refl refl keeps.command.as_many h.used hk hl in
        subst (λ o. Ends p (L ++ M) inner w' o) (sym (finish_referred N (go w') k l))
        (body.ends (level bodies n) n b (L ++ M) inner within (from_refinement N k l) exits' w' lw))

    call_step : (pc q : ℕ) (L : Uses) (ks : List OperandKind) (m : Spot) (c : Position) (ops : List Operand) (e : Entry) (parameters : List OperandKind)
        (vs : List Kind) (args : List Passed) → slice_get p.lines pc ≡ Some (line_of (Call q) ks m) → slice_get p.bodies q ≡ Some e
        → e.layout ≡ layouts.Own parameters vs → TakeAll p parameters L args → (memory : Mem)
        → step p (at c pc (pushed_passed p args ops)) memory
        ≡ Spends (enters (at c pc (pushed_passed p args ops)) e.first (c.used + 2) false q ops (frame_contents (map passed_operand args) vs) memory)
    call_step pc q L ks m c ops e parameters vs args has is own takes memory =
        let now = at c pc (pushed_passed p args ops) in
        here p pc (Call q) ks m has c (pushed_passed p args ops) memory ∙ ap (λ o. call_move now q o memory) is ∙ ap (λ x. calls_to now q e.first x memory) own
        ∙ all_taken p L parameters (length parameters) args ops
        (λ args ops. Spends (enters now e.first (c.used + 2) false q ops (frame_contents args vs) memory)) refl takes

    refer_step : (pc q : ℕ) (ks : List OperandKind) (m : Spot) (c : Position) (ops : List Operand) (e : Entry)
        → slice_get p.lines pc ≡ Some (line_of (Refer q) ks m) → slice_get p.bodies q ≡ Some e → (memory : Mem)
        → step p (at c pc ops) memory ≡ Spends (enters (at c pc ops) e.first (base_of c.frames) true q ops link_contents memory)
    refer_step pc q ks m c ops e has is memory = here p pc (Refer q) ks m has c ops memory ∙ ap (λ o. refer_move (at c pc ops) q o memory) is

    -- so calls are carried, however many marks there are
    pub level_carries : (n : ℕ) → CallsCarry p (level bodies n) n
    level_carries zero = record {
      call = λ L b pc q ks m c ops e parameters vs args le h has is own takes.
          out_carries p b (at c pc (pushed_passed p args ops))
          (λ memory. enters (at c pc (pushed_passed p args ops)) e.first (c.used + 2) false q ops (frame_contents (map passed_operand args) vs) memory)
          (λ v. at c (pc + 1) (result_ops v ++ ops)) le (call_step pc q L ks m c ops e parameters vs args has is own takes);
      refer = λ L b pc q ks m c ops e le h has is refined owned.
          out_carries p b (at c pc ops) (λ memory. enters (at c pc ops) e.first (base_of c.frames) true q ops link_contents memory)
          (λ v. at c (pc + 1) (result_ops v ++ ops)) le (refer_step pc q ks m c ops e has is);
    }
    level_carries (suc n) = record {
      call = λ L b pc q ks m c ops e parameters vs args le h has is own takes.
          let x = made q e is in
          let us = own_variables x.body.scope in
          let vs_are : us ≡ vs = own_is x.body.scope parameters vs (sym x.layout ∙ own) in
          let own' : e.layout ≡ layouts.Own parameters us = own ∙ ap (layouts.Own parameters) (sym vs_are) in
          let held = bytes_on ops (bytes_of c.frames) in
          let now = at c pc (pushed_passed p args ops) in
          spend_carries p b now (λ memory. enters now e.first (c.used + 2) false q ops (frame_contents (map passed_operand args) us) memory)
          (run_called (level bodies n) n (slice_get bodies q) (all_slots args) held) (λ v. at c (pc + 1) (result_ops v ++ ops))
          (call_step pc q L ks m c ops e parameters us args has is own' takes) (λ b' lt. record {
            by = λ k l hk hl w lw memory keeps.
                subst (λ o. After p (after_stage (enters now e.first (c.used + 2) false q ops (frame_contents (map passed_operand args) us) memory)
                (free now)
                (scene_of w memory)) (finish (run_called (level bodies n) n o (all_slots args) held w) k l)) (sym x.is)
                (call_ends n b' pc q L m c ops e parameters us args x.body.content (level_carries n) (omega (arith, le, lt)) h is own' takes x.carry k l hk w lw
                memory keeps);
          });
      refer = λ L b pc q ks m c ops e le h has is refined owned.
          let x = made q e is in
          let held = bytes_on ops (bytes_of c.frames) in
          let now = at c pc ops in
          spend_carries p b now (λ memory. enters now e.first (base_of c.frames) true q ops link_contents memory)
          (run_referred (level bodies n) n (slice_get bodies q) (base_of c.frames) held) (λ v. at c (pc + 1) (result_ops v ++ ops))
          (refer_step pc q ks m c ops e has is) (λ b' lt. record {
            by = λ k l hk hl w lw memory keeps.
                subst (λ o. After p (after_stage (enters now e.first (base_of c.frames) true q ops link_contents memory) (free now) (scene_of w memory))
                (finish (run_referred (level bodies n) n o (base_of c.frames) held w) k l)) (sym x.is)
                (refer_ends n b' pc q L m c ops e x.body.content (level_carries n) (omega (arith, le, lt)) h is refined owned x.carry k l hk hl w lw memory
                keeps);
          });
    }
