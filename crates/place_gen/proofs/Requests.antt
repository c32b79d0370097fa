-- What requests do, whatever they are given.
use Rattle.std.proofs.Common.{◌≡◌, ℕ, zero, suc, ◌+◌, ◌<◌, ◌≤◌, List, [], ◌∷◌, map, length, drop, Option, Some, None, Bool, true, false, refl, sym, ap, ◌∙◌, subst, arith}
use Rattle.std.specs.Prelude.{Ok, Err, cond, ◌&&◌, slice_get, option_map}
use Rattle.std.specs.List.{AllByRecursion}
use Rattle.std.proofs.lemmas.List.{drop-map, length-map}
use Rattle.std.proofs.lemmas.Option.{slice_get-map}
use Rattle.eu_base.specs.declared.address.TheConstants.{CELLS}
use Rattle.eu_base.specs.declared.value.Kind.{Kind}
use Rattle.eu_base.specs.declared.value.Kind.TheVariants as kinds
use Rattle.eu_base.specs.declared.value.Value.{Value}
use Rattle.eu_base.specs.declared.request.RequestName.{RequestName}
use Rattle.eu_base.specs.declared.request.RequestName.TheVariants as names
use Rattle.eu_base.specs.declared.request.Reply.{Reply}
use Rattle.eu_base.specs.declared.shape.Shape.TheVariants.{Cell}
use Rattle.eu_base.specs.declared.stop.Stop.TheVariants.{OperandRoom, NoSpace}
use Rattle.eu_base.specs.Room.{values_bytes, bytes_fit}
use Rattle.eu_base.specs.Values.{IsOf, kind_of, space_of, numbers_of_spaces}
use Rattle.eu_base.specs.Cells.{held_of, written}
use Rattle.eu_base.specs.DataSpaces.{Heads, heads_of}
use Rattle.eu_base.specs.SpaceOperations.{forgetting}
use Rattle.eu_base.specs.Operations.{Given}
use Rattle.eu_base.specs.Requests.{request_kinds, request_places, request_result, request_size, is_message, sends, request_of, read_as, answer_of}
use Rattle.eu_base.specs.Requests.{Answer, message_values, Suits}
use Rattle.eu_base.proofs.Results.{read_gives, answer_gives, IsOne, message_suits, message_gives}
use Rattle.code_form.specs.declared.operand.Operand.{Operand}
use Rattle.code_form.specs.declared.operand.Operand.TheVariants.{Value as Of, Place as At}
use Rattle.code_form.specs.declared.operand.OperandKind.{OperandKind}
use Rattle.code_form.specs.declared.instr.Instr.TheVariants.{Ask}
use Rattle.code_form.specs.Program.{Program, instr_of}
use Rattle.code_form.specs.Machine.{Control, free, Move, Refuses, Unknown, Scene, step, with_cells, mem_after, on_cell, takes, without_held as forgotten, receives_at, receives}
use Rattle.code_form.specs.Machine.{puts_reply, asks_with, asks_for}
use Rattle.code_form.specs.Machine.{Mem, Frame, Position, given, Asks, Spends, Goes, Halts, move_stage, bytes_of, bytes_on, operand_of, at, or_halt, keeps, pushes, settles, takes_reply}
use Rattle.code_form.specs.Valid.{request_operands, cell_value, cell_place, with_answer}
use Rattle.elan_types.specs.declared.core_phrase.Exit.{Exit}
use Rattle.elan_types.specs.Eval.{Place, AsPlace, Outcome, spend, ask_at, ask, ask_for, with_sent, settle, receive_at, receive, last_made, is_there, fetch, without_held, changed_by}
use Rattle.elan_types.specs.Eval.{Passed, World, Reach, Gives, Stopped, bind, branch, or_stop, assign, value_given, keep, actuals, request, request_value, deliver, Run}
use Rattle.elan_types.specs.Command.{Ending}
use Rattle.place_gen.specs.Stretch.{Stretch, one, join}
use Rattle.place_gen.specs.Correct.{addr_of, Comes, scene_of}
use Rattle.place_gen.proofs.Lines.{join_sized}
use Rattle.place_gen.proofs.Tables.{size_is}
use Rattle.place_gen.proofs.Cells.{Uses, Keeps, AtPlace}
use Rattle.place_gen.proofs.Spans.{found, reads_one, takes_values, place_fits, looks_same}
use Rattle.place_gen.proofs.Spaces.{writes_all}
use Rattle.place_gen.proofs.Changes.{changes_keep, can_fill, forgets_can, forgets_not}
use Rattle.place_gen.proofs.Carry.{P, finish, reach, Ends, Does, does_given, does_go, stop_comes, put_ends, at_one, TakeAll, passed_operand, pushed_passed, here}
use Rattle.place_gen.proofs.Carry.{Any, Carries, Answers, refuse_comes, ask_carries, send_carries, join_carries, read_comes, of_one}
use Rattle.place_gen.proofs.Slots.{values_same, all_taken, behind}
use Rattle.place_gen.proofs.Forms.{IsAction, IsValue, push_is, keep as pushed}
use Rattle.place_gen.proofs.Calls.{AreActuals}

-- what a message brings goes into variables, one after another
module _ (p : Program) (L : Uses) (few : length (P p) ≤ CELLS) (room : length L ≤ CELLS) (c : Position) (r : Reply) (ops : List Operand) (ks : List Kind)
    (ss : List Passed) (takes_it : TakeAll p (map cell_place ks) L ss) (was : World) (first : Mem) (k : Unit {0} → World → Ending)
    (l : Exit → Option (List Value) → World → Ending) (go : (w : World) → w.marks ≤ was.marks → Ends p L (at c (c.pc + 1) ops) w (k tt w)) where
  abbrev from : Control
  from = given c r

  abbrev os : List Operand
  os = map passed_operand ss

  -- the variable of a number
  variable_there : (ks : List Kind) (ss : List Passed) → TakeAll p (map cell_place ks) L ss → (n : ℕ) (kind : Kind) → slice_get ks n ≡ Some kind
      → (x : Place) × ((slice_get ss n ≡ Some (AsPlace x)) × AtPlace (P p) (kind ∷ []) L x)
  variable_there [] ss t n kind e = let f : ⊥ = cc in absurd f
  variable_there (j ∷ ks) [] t n kind e = absurd t
  variable_there (j ∷ ks) (s ∷ ss) t zero kind e =
      let same : j ≡ kind = cc in
      (t.0.0, (ap (λ s. Some s) t.0.1, subst (λ (j : Kind). AtPlace (P p) (j ∷ []) L t.0.0) same (at_one (P p) j L t.0.0 t.0.2)))
  variable_there (j ∷ ks) (s ∷ ss) t (suc n) kind e = variable_there ks ss t.1 n kind e

  -- the machine stands there as if it had begun so
  scene_same : (w : World) (m : Mem) → w.marks ≡ was.marks → w.replies ≡ was.replies → scene_of w m ≡ record (scene_of was first) { mem = m }
  scene_same w m marks replies =
      ap (λ (n : ℕ). record { mem = m; marks = n; replies = w.replies }) marks ∙ ap (λ (left : List Answer). record { mem = m; marks = was.marks; replies = left }) replies

  first_of : (t : Bool) → (t && true) ≡ true → t ≡ true
  first_of true e = refl
  first_of false e = absurd (cc e)

  receive_ends : (es : List (ℕ × Value)) → AllByRecursion (Suits ks) es → AllByRecursion IsOne es → (w : World) (m : Mem) → w.marks ≡ was.marks
      → w.replies ≡ was.replies → Keeps (P p) L w m → Does p from (scene_of was first) (receives c ops os es m)
      → Comes p from (scene_of was first) (finish (receive ss es w) k l)
  receive_ends [] suits are w m marks replies kept does =
      does_go p from (at c (c.pc + 1) ops) (scene_of was first) m _ does
      (subst (λ (s : Scene). Comes p (free (at c (c.pc + 1) ops)) s (k tt w)) (scene_same w m marks replies) (go w (omega (arith, marks)) m kept))
  receive_ends (e ∷ es) suits are w m marks replies kept does =
      let var = variable_there ks ss takes_it e.0 suits.0.0 suits.0.1 in
      let x = var.0 in
      let there : slice_get os e.0 ≡ Some (At (addr_of x)) = slice_get-map passed_operand ss e.0 ∙ ap (option_map passed_operand) var.1.0 in
      let at_x : AtPlace (P p) (kind_of v ∷ []) L x = subst (λ (kind : Kind). AtPlace (P p) (kind ∷ []) L x) (sym suits.0.2) var.1.1 in
      let does' =
      does ∙ ap (λ (o : Option Operand). move_stage (receives_at c ops o v m (receives c ops os es)) from (scene_of was first)) there
      ∙ ap (λ (t : Bool). move_stage (cond t (read x) missed) from (scene_of was first))
      (looks_same (kind_of v ∷ []) x w m.heads kept.spaces.heads (place_fits (P p) (kind_of v ∷ []) L x few room at_x)) in
      subst (λ (o : Option Passed). Comes p from (scene_of was first) (finish (receive_at o v (receive ss es) w) k l)) (sym var.1.0)
      (by (λ w m marks replies kept does. receive_ends es suits.1 are.1 w m marks replies kept does) x at_x (is_there (kind_of v ∷ []) x w) refl does')
    where
      v : Value
      v = e.1

      -- after the value was put into the cell
      put : Place → Mem
      put x = with_cells (written m.cells (addr_of x) (held_of v)) m

      goes_on : Place → Value → Move
      goes_on x held = cond (takes (held_of v) (m.cells (addr_of x))) (receives c ops os es (forgotten (space_of held) (put x))) Unknown

      read : Place → Move
      read x = on_cell (kind_of v) (m.cells (addr_of x)) (goes_on x)

      missed : Move
      missed = Refuses NoSpace (at c (c.pc + 1) ops) m

      by : ((w : World) (m : Mem) → w.marks ≡ was.marks → w.replies ≡ was.replies → Keeps (P p) L w m → Does p from (scene_of was first) (receives c ops os es m)
          → Comes p from (scene_of was first) (finish (receive ss es w) k l))
          → (x : Place) → AtPlace (P p) (kind_of v ∷ []) L x → (t : Bool) → is_there (kind_of v ∷ []) x w ≡ t
          → Does p from (scene_of was first) (cond t (read x) missed)
          → Comes p from (scene_of was first)
          (finish (branch t (λ w. receive ss es (without_held (space_of (fetch x w)) (assign x (v ∷ []) w))) (Stopped NoSpace) w) k l)
      by more x at_x false is does = refuse_comes p L from (at c (c.pc + 1) ops) was w NoSpace first m marks replies kept does
      by more x at_x true is does =
          let here = found (P p) (kind_of v ∷ []) L w x at_x is in
          let got = reads_one (P p) L w m x (kind_of v) (goes_on x) kept here in
          let held = space_of (fetch x w) in
          let takes_v : takes (held_of v) (m.cells (addr_of x)) ≡ true =
          first_of (takes (held_of v) (m.cells (addr_of x))) (takes_values (P p) (kind_of v ∷ []) (v ∷ []) L w m x few room kept here (are.0, tt)) in
          let w2 = assign x (v ∷ []) w in
          let kept2 : Keeps (P p) L w2 (put x) = writes_all (P p) (kind_of v ∷ []) (v ∷ []) L w m x few room kept here (are.0, tt) in
          let cs = forgetting held (heads_of w2.spaces) in
          let kept3 =
          changes_keep (P p) L cs w2 (put x) (forgets_can held (heads_of w2.spaces) w2.spaces)
          (can_fill cs w2.spaces (forgets_not held (heads_of w2.spaces))) kept2 in
          more (changed_by cs w2) (mem_after cs (put x)) marks replies kept3
          (does ∙ ap (λ m. move_stage m from (scene_of was first))
          (got.1 ∙ ap (λ (t : Bool). cond t (receives c ops os es (forgotten held (put x))) Unknown) takes_v
          ∙ ap (λ (heads : Heads). receives c ops os es (mem_after (forgetting held heads) (put x))) kept2.spaces.heads))

-- where a reply was given, and a run goes on behind the request
module _ (p : Program) (L : Uses) (few : length (P p) ≤ CELLS) (room : length L ≤ CELLS) (c : Position) (r : Reply) (ops : List Operand) (w : World) (memory : Mem)
    (k : Unit {0} → World → Ending) (l : Exit → Option (List Value) → World → Ending) (kept : Keeps (P p) L w memory)
    (go : (w' : World) → w'.marks ≤ w.marks → Ends p L (at c (c.pc + 1) ops) w' (k tt w')) where
  -- the value goes into the variable, where there is one
  keep_ends : (ks : List Kind) (ss : List Passed) (v : Value) → TakeAll p (map cell_place ks) L ss → ((k : Kind) (ks' : List Kind) → ks ≡ k ∷ ks' → IsOf k v)
      → Does p (given c r) (scene_of w memory) (keeps c (map passed_operand ss) v ops memory) → Comes p (given c r) (scene_of w memory) (finish (keep ss v w) k l)
  keep_ends [] [] v t is does = does_go p (given c r) (at c (c.pc + 1) ops) (scene_of w memory) memory _ does (go w (omega arith) memory kept)
  keep_ends [] (s ∷ ss) v t is does = absurd t
  keep_ends (k' ∷ ks) [] v t is does = absurd t
  keep_ends (k' ∷ ks) (s ∷ ss) v t is does =
      let x = t.0.0 in
      let does' = subst (λ s. Does p (given c r) (scene_of w memory) (keeps c (map passed_operand (s ∷ ss)) v ops memory)) t.0.1 does in
      subst (λ s. Comes p (given c r) (scene_of w memory) (finish (keep (s ∷ ss) v w) k l)) (sym t.0.1)
      (put_ends p (given c r) (at c (c.pc + 1) ops) w x k' v (Gives (tt {0})) k l memory few room (at_one (P p) k' L x t.0.2) (is k' ks refl) kept does' (go (assign x (v ∷ []) w) (omega arith)))

  -- what the reply brings is read, or it stops
  reply_ends : (g : Given) (ks : List Kind) (ss : List Passed) → TakeAll p (map cell_place ks) L ss
      → ((v : Value) → g ≡ Ok v → (k : Kind) (ks' : List Kind) → ks ≡ k ∷ ks' → IsOf k v)
      → Does p (given c r) (scene_of w memory) (or_halt g (λ v. keeps c (map passed_operand ss) v ops memory))
      → Comes p (given c r) (scene_of w memory) (finish (or_stop g (keep ss) w) k l)
  reply_ends (Ok v) ks ss t is does = keep_ends ks ss v t (is v refl) does
  reply_ends (Err s) ks ss t is does = stop_comes p L (given c r) w s memory kept does

-- the same where the request delivers a value
module _ (p : Program) (L : Uses) (c : Position) (r : Reply) (ops : List Operand) (w : World) (memory : Mem)
    (k : List Value → World → Ending) (l : Exit → Option (List Value) → World → Ending) (kept : Keeps (P p) L w memory)
    (next : List Operand → Position) (n : Reach) (held : n.held ≡ bytes_on ops (bytes_of c.frames)) where
  -- what the reply brings is pushed, or it stops
  answer_ends : (g : Given) → ((v : Value) → g ≡ Ok v → Ends p L (next (pushed (v ∷ []) ops)) w (k (v ∷ []) w))
      → ((v : Value) → pushes c (operand_of (v ∷ [])) ops memory
      ≡ cond (bytes_fit (values_bytes (v ∷ []) + bytes_on ops (bytes_of c.frames))) (Goes (next (pushed (v ∷ []) ops)) memory) (Halts OperandRoom))
      → Does p (given c r) (scene_of w memory) (or_halt g (λ v. pushes c (Of v) ops memory))
      → Comes p (given c r) (scene_of w memory) (finish (or_stop g (λ v. deliver (v ∷ []) n) w) k l)
  answer_ends (Ok v) go move does =
      let room = values_bytes (v ∷ []) + bytes_on ops (bytes_of c.frames) in
      subst (λ h. Comes p (given c r) (scene_of w memory) (finish (branch (bytes_fit (values_bytes (v ∷ []) + h)) (Gives (v ∷ [])) (Stopped OperandRoom) w) k l))
      (sym held)
      (read_comes p (given c r) (v ∷ []) (bytes_fit room) (λ vs. next (pushed vs ops)) k l w memory kept (go v refl)
      (does ∙ ap (λ m. move_stage m (given c r) (scene_of w memory)) (move v)))
  answer_ends (Err s) go move does = stop_comes p L (given c r) w s memory kept does

-- a request that delivers a value sends no data space
gives_plain : (name : RequestName) (k : Kind) → request_result name ≡ Some k → sends name ≡ false
gives_plain names.Send k e = absurd (cc e)
gives_plain names.Call k e = absurd (cc e)
gives_plain _ k e = refl

module _ (p : Program) (body : Option ℕ) where
  -- the first variable of a request that sends a data space holds it
  first_variable : (name : RequestName) → sends name ≡ true → (L : Uses) (ss : List Passed) → TakeAll p (map cell_place (request_places name)) L ss
      → (x : Place) × ((rest : List Passed) × ((ss ≡ AsPlace x ∷ rest) × AtPlace (P p) (kinds.Space ∷ []) L x))
  first_variable names.Send e L ss t = by ss t
    where
      by : (ss : List Passed) → TakeAll p (map cell_place (request_places names.Send)) L ss
          → (x : Place) × ((rest : List Passed) × ((ss ≡ AsPlace x ∷ rest) × AtPlace (P p) (kinds.Space ∷ []) L x))
      by [] t = absurd t
      by (s ∷ rest) t = (t.0.0, (rest, (ap (λ s. s ∷ rest) t.0.1, at_one (P p) kinds.Space L t.0.0 t.0.2)))
  first_variable names.Call e L ss t = by ss t
    where
      by : (ss : List Passed) → TakeAll p (map cell_place (request_places names.Call)) L ss
          → (x : Place) × ((rest : List Passed) × ((ss ≡ AsPlace x ∷ rest) × AtPlace (P p) (kinds.Space ∷ []) L x))
      by [] t = absurd t
      by (s ∷ rest) t = (t.0.0, (rest, (ap (λ s. s ∷ rest) t.0.1, at_one (P p) kinds.Space L t.0.0 t.0.2)))
  first_variable _ e L ss t = absurd (cc e)

  -- a request waits at its instruction, takes its operands with the reply, and gives its variables what that brings
  module _ (L : Uses) (name : RequestName) (few : length (P p) ≤ CELLS) (room : length L ≤ CELLS) (now : Position) (ops : List Operand)
      (places : List Passed) (takes_all : TakeAll p (map cell_place (request_places name)) L places) where
    abbrev at_places : List Operand
    at_places = map passed_operand places

    settles_so : (b' : ℕ) (r : Reply)
        → ((memory : Mem) → takes_reply (instr_of (slice_get p.lines now.pc)) r now memory ≡ puts_reply (is_message name) name r now at_places ops memory)
        → Answers p L Any b' now r (settle name places r) (λ _. at now (now.pc + 1) ops)
    settles_so b' r does = record {
      by = λ k l hk w le memory kept.
          by k l w (λ w' fewer. hk tt w' tt (omega (arith, le, fewer))) memory kept (is_message name) refl (does_given p now r (scene_of w memory) _ (does memory));
    }
      where
        by : (k : Unit {0} → World → Ending) (l : Exit → Option (List Value) → World → Ending) → (w : World)
            → ((w' : World) → w'.marks ≤ w.marks → Ends p L (at now (now.pc + 1) ops) w' (k tt w')) → (memory : Mem) → Keeps (P p) L w memory → (t : Bool)
            → is_message name ≡ t → Does p (given now r) (scene_of w memory) (puts_reply t name r now at_places ops memory)
            → Comes p (given now r) (scene_of w memory)
            (finish (branch t (receive places (message_values name r (last_made w))) (or_stop (read_as name r) (keep places)) w) k l)
        by k l w go memory kept true is moves =
            let s = last_made w in
            let low : s.0 < numbers_of_spaces = let given = kept.spaces.sound.given in omega (arith, given) in
            receive_ends p L few room now r ops (request_places name) places takes_all w memory k l go (message_values name r s)
            (message_suits name r s) (message_gives name r s low) w memory refl refl kept
            (moves ∙ ap (λ (heads : Heads). move_stage (receives now ops at_places (message_values name r (record { 0 = heads.last })) memory) (given now r) (scene_of w memory))
            kept.spaces.heads)
        by k l w go memory kept false is moves =
            reply_ends p L few room now r ops w memory k l kept go (read_as name r) (request_places name) places takes_all
            (λ v e kind ks same. read_gives name kind ks r is same v e)
            moves

  -- it is made with its values, and where it sends a data space, with that
  module _ (L : Uses) (few : length (P p) ≤ CELLS) (room : length L ≤ CELLS) (next : Position) (b : ℕ) (home : Option ℕ) (frames : List Frame)
      (name : RequestName) (now : Position) (ss : List Passed)
      (takes_all : TakeAll p (map cell_place (request_places name)) L (drop (length (request_kinds name)) ss)) (run : Reply → World → Outcome (Unit {0}))
      (settled : (b' : ℕ) (r : Reply) → Answers p L Any b' now r (run r) (λ _. next)) where
    abbrev vs : List Value
    vs = map value_given ss

    abbrev places : List Passed
    places = drop (length (request_kinds name)) ss

    asked_by : (t : Bool) → sends name ≡ t → ((memory : Mem) → step p now memory ≡ Spends (asks_for t name (map passed_operand ss) now memory))
        → Carries p L home frames Any b now
        (branch t (spend (with_sent vs places (λ vs w. ask_at w.replies (request_of name vs) w run))) (ask (request_of name vs) run)) (λ _. next)
    asked_by false is asks =
        ask_carries p b (request_of name vs) now run (λ _. next)
        (λ memory. asks memory ∙ ap (λ vs. Spends (Asks now (request_of name vs) memory)) (values_same ss)) settled
    asked_by true is asks =
        let x = first_variable name is L places takes_all in
        subst (λ (places : List Passed). Carries p L home frames Any b now
        (spend (with_sent vs places (λ vs w. ask_at w.replies (request_of name vs) w run))) (λ _. next)) (sym x.1.1.0)
        (send_carries p b name vs x.0 (map passed_operand x.1.0) now run (λ _. next) (place_fits (P p) (kinds.Space ∷ []) L x.0 few room x.1.1.1) x.1.1.1
        (λ memory. asks memory
        ∙ ap (λ vs. Spends (asks_with name vs (drop (length (request_kinds name)) (map passed_operand ss)) now memory)) (values_same ss)
        ∙ ap (λ os. Spends (asks_with name vs os now memory)) (drop-map passed_operand (length (request_kinds name)) ss ∙ ap (map passed_operand) x.1.1.0))
        settled)

    asked_so : ((memory : Mem) → step p now memory ≡ Spends (asks_for (sends name) name (map passed_operand ss) now memory))
        → Carries p L home frames Any b now (ask_for name vs places run) (λ _. next)
    asked_so asks = asked_by (sends name) refl asks

  -- a request waits at its instruction, takes its operands with the reply, and gives its variables what that brings
  pub ask_is : (xs : List (Run Passed)) {f : Stretch} (name : RequestName) → request_result name ≡ None → AreActuals p body (request_operands name) xs f
      → IsAction p body (λ r w. bind (actuals xs r w) (request name)) (join f (one (Ask name) (drop (request_size name))))
  ask_is xs {f} name none i =
      let g = one (Ask name) (drop (request_size name)) in
      let n = length (request_kinds name) in record {
        sized = join_sized f g i.sized (λ ks m pc. refl);
        goes =
            λ calls turns b pc L ks m c ops home le has.
            join_carries p f g b pc ks m c ops (actuals xs (reach calls turns c ops)) (request name) (λ ss. pushed_passed p ss ops) (λ _. ops) i.sized has
            (λ h. i.goes calls turns b pc L ks m c ops home le h) (λ h ss oks.
            let q = pc + f.size in
            let now = at c q (pushed_passed p ss ops) in
            let many = size_is name in
            let takes_all =
            subst (λ n. TakeAll p (map cell_place (request_places name)) L (drop n ss)) (length-map (request_kinds name) cell_value)
            (behind p L (map cell_value (request_kinds name)) (map cell_place (request_places name)) ss oks) in
            asked_so L le.stands.packets le.stands.room (at c (q + 1) ops) b m.body c.frames name now ss takes_all (settle name (drop n ss))
            (λ b' r.
            settles_so L name le.stands.packets le.stands.room now ops (drop n ss) takes_all b' r (λ memory.
            ap (λ o. takes_reply (instr_of o) r now memory) h.0
            ∙ all_taken p L (request_operands name) (request_size name) ss ops
            (λ os ops. settles name (request_result name) r now os ops memory) many oks
            ∙ ap (λ o. settles name o r now (map passed_operand ss) ops memory) none
            ∙ ap (λ os. puts_reply (is_message name) name r now os ops memory) (drop-map passed_operand n ss)))
            (λ memory. here p q (Ask name) (f.leaves ks) m h.0 c (pushed_passed p ss ops) memory
            ∙ all_taken p L (request_operands name) (request_size name) ss ops (λ os ops. Spends (asks_for (sends name) name os now memory)) many oks));
      }

  -- and one that delivers a value pushes what the reply brings, where that has room
  pub answer_is : (xs : List (Run Passed)) {f : Stretch} (name : RequestName) (kind : Kind) → request_result name ≡ Some kind
      → AreActuals p body (request_operands name) xs f
      → IsValue p body (Cell kind) (λ r w. bind (actuals xs r w) (λ ss. request_value name ss r))
      (join f (one (Ask name) (λ ks. with_answer (request_result name) (drop (request_size name) ks))))
  answer_is xs {f} name kind is i =
      let g = one (Ask name) (λ (ks : List OperandKind). with_answer (request_result name) (drop (request_size name) ks)) in record {
        sized = join_sized f g i.sized (λ ks m pc. refl);
        goes =
            λ calls turns b pc L ks m c ops home le has.
            let rs = reach calls turns c ops in
            join_carries p f g b pc ks m c ops (actuals xs rs) (λ ss. request_value name ss rs) (λ ss. pushed_passed p ss ops) (λ vs. pushed vs ops) i.sized has
            (λ h. i.goes calls turns b pc L ks m c ops home le h) (λ h ss oks.
            let q = pc + f.size in
            let now = at c q (pushed_passed p ss ops) in
            let many = size_is name in
            ask_carries p b (request_of name (map value_given ss)) now (λ r. or_stop (answer_of name r) (λ v. deliver (v ∷ []) rs))
            (λ vs. at c (q + 1) (pushed vs ops))
            (λ memory. here p q (Ask name) (f.leaves ks) m h.0 c (pushed_passed p ss ops) memory
            ∙ all_taken p L (request_operands name) (request_size name) ss ops (λ os ops. Spends (asks_for (sends name) name os now memory)) many oks
            ∙ ap (λ t. Spends (asks_for t name (map passed_operand ss) now memory)) (gives_plain name kind is)
            ∙ ap (λ vs. Spends (Asks now (request_of name vs) memory)) (values_same ss))
            (λ b' r. record {
              by = λ k l hk w le' memory kept.
                  answer_ends p L now r ops w memory k l kept (at c (q + 1)) rs refl (answer_of name r)
                  (λ v e. hk (v ∷ []) w (of_one kind L v (answer_gives name kind r is v e)) le')
                  (λ v. push_is now (v ∷ []) ops memory)
                  (does_given p now r (scene_of w memory) _ (ap (λ o. takes_reply (instr_of o) r now memory) h.0
                  ∙ all_taken p L (request_operands name) (request_size name) ss ops
                  (λ os ops. settles name (request_result name) r now os ops memory) many oks
                  ∙ ap (λ o. settles name o r now (map passed_operand ss) ops memory) is));
            }));
      }
