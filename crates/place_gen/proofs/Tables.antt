-- The tables of each form of phrase agree along each step, whatever its parts are.
use Rattle.std.proofs.Common.{◌≡◌, ℕ, suc, ◌+◌, ◌<◌, List, [], ◌∷◌, ◌++◌, map, length, drop, Option, Some, None, Bool, refl, sym, ap, ◌∙◌, subst}
use Rattle.std.proofs.Common.{arith, length-append}
use Rattle.std.specs.Prelude.{slice_get, ℤ}
use Rattle.std.proofs.lemmas.List.{length-map}
use Rattle.eu_base.specs.declared.value.Kind.{Kind}
use Rattle.eu_base.specs.declared.value.Kind.TheVariants as kinds
use Rattle.eu_base.specs.declared.shape.Shape.{Shape}
use Rattle.eu_base.specs.declared.shape.Shape.TheVariants.{Cell}
use Rattle.eu_base.specs.Shapes.{cell_kinds}
use Rattle.eu_base.specs.declared.operation.Operation.{Operation}
use Rattle.eu_base.specs.declared.operation.Change.{Change}
use Rattle.eu_base.specs.Operations.{operand_kinds, result_kind, change_kind}
use Rattle.eu_base.specs.Requests.{request_kinds, request_places, request_result, request_size}
use Rattle.eu_base.specs.declared.request.RequestName.{RequestName}
use Rattle.eu_base.specs.declared.space_operation.SpaceOperation.{SpaceOperation}
use Rattle.eu_base.specs.SpaceOperations.{space_operand_kinds, space_result_kind}
use Rattle.code_form.specs.declared.operand.OperandKind.{OperandKind}
use Rattle.code_form.specs.declared.operand.OperandKind.TheVariants.{Value as OfShape, Place as AtShape}
use Rattle.code_form.specs.declared.instr.Instr.{Instr}
use Rattle.code_form.specs.declared.instr.Instr.TheVariants.{Mark, Number, Truth, Text, Outer, Packet, Local, Param, Index, Field, Content, Pick, Take, Load, Store, Do, OnSpaces, Copy, Bind, Modify}
use Rattle.code_form.specs.declared.instr.Instr.TheVariants.{Ask, ErrorStop, Call, Refer, Back, Out}
use Rattle.code_form.specs.declared.code.Line.{Line}
use Rattle.code_form.specs.declared.code.Spot.{Spot}
use Rattle.code_form.specs.declared.code.Entry.{Entry}
use Rattle.code_form.specs.declared.code.Layout.TheVariants as layouts
use Rattle.code_form.specs.Program.{Program, kinds_in_packets, HoldsValue, HoldsPlace, line_of, owner, owner_at, layout_of, frame_cells}
use Rattle.code_form.specs.Valid.{Next, Lands, pushed_kinds, pushed_operands, request_operands, with_result, IsRefinement, HasResult, IsFine}
use Rattle.code_form.specs.Valid.{cell_value, cell_place, with_answer, AreItems, IsPart}
use Rattle.elan_types.specs.declared.core_phrase.Exit.{Exit}
use Rattle.elan_types.specs.declared.core_phrase.Exit.TheVariants as exits
use Rattle.place_gen.specs.Stretch.{Stretch, none, one, keeps, pushes, join, all_code, call_code, refer_code}
use Rattle.place_gen.specs.Stretch.{leave_instr}
use Rattle.place_gen.proofs.Lines.{HasAt, has_front, has_rest, IsSized, join_sized}
use Rattle.place_gen.proofs.Homes.{Delivers, LeftBy}

-- so many operands are taken off again
drop_kinds : (more : List Kind) (ks : List OperandKind) (n : ℕ) → drop (length more + n) (pushed_kinds more ks) ≡ drop n ks
drop_kinds [] ks n = let e : 0 + n ≡ n = omega arith in ap (λ n. drop n ks) e
drop_kinds (k ∷ more) ks n =
    let e : suc (length more) + n ≡ length more + suc n = omega arith in
    ap (λ n. drop n (pushed_kinds more (cell_value k ∷ ks))) e ∙ drop_kinds more (cell_value k ∷ ks) (suc n)

drop_operands : (more ks : List OperandKind) (n : ℕ) → drop (length more + n) (pushed_operands more ks) ≡ drop n ks
drop_operands [] ks n = let e : 0 + n ≡ n = omega arith in ap (λ n. drop n ks) e
drop_operands (k ∷ more) ks n =
    let e : suc (length more) + n ≡ length more + suc n = omega arith in
    ap (λ n. drop n (pushed_operands more (k ∷ ks))) e ∙ drop_operands more (k ∷ ks) (suc n)

kinds_dropped : (more : List Kind) (ks : List OperandKind) → drop (length more) (pushed_kinds more ks) ≡ ks
kinds_dropped more ks =
    let f : length more ≡ length more + 0 = omega arith in
    ap (λ n. drop n (pushed_kinds more ks)) f ∙ drop_kinds more ks 0

all_dropped : (more ks : List OperandKind) (n : ℕ) → n ≡ length more → drop n (pushed_operands more ks) ≡ ks
all_dropped more ks n e =
    let f : n ≡ length more + 0 = omega (arith, e) in
    ap (λ n. drop n (pushed_operands more ks)) f ∙ drop_operands more ks 0

-- how many operands a request takes
pub size_is : (name : RequestName) → request_size name ≡ length (request_operands name)
size_is name =
    let ks = map cell_value (request_kinds name) in
    let ls = map cell_place (request_places name) in
    omega (arith, length-append ks ls, length-map (request_kinds name) cell_value, length-map (request_places name) cell_place)

module _ (p : Program) where
  -- each line of a stretch is fine
  abbrev pub Each : ℕ → List Line → Type 0
  Each pc [] = Unit {0}
  Each pc (l ∷ ls) = IsFine p pc l.instr l.operands l.spot × Each (pc + 1) ls

  each_append : (pc : ℕ) (a b : List Line) → Each pc a → Each (pc + length a) b → Each pc (a ++ b)
  each_append pc [] b x y = let e : pc + 0 ≡ pc = omega arith in subst (λ n. Each n b) e y
  each_append pc (l ∷ a) b x y =
      let e : pc + length (l ∷ a) ≡ pc + 1 + length a = omega arith in (x.0, each_append (pc + 1) a b x.1 (subst (λ n. Each n b) e y))

  pub each_rest : (pc n : ℕ) (a b : List Line) → length a ≡ n → Each pc a → Each (pc + n) b → Each pc (a ++ b)
  each_rest pc n a b e x y = each_append pc a b x (subst (λ n. Each (pc + n) b) (sym e) y)

  pub moved : (m : Spot) (q r : ℕ) (ks ls : List OperandKind) → q ≡ r → ks ≡ ls → Next p.lines q ks m → Next p.lines r ls m
  moved m q r ks ls e f n = subst (λ r. Next p.lines r ls m) e (subst (λ ls. Next p.lines q ls m) f n)

  pub forth : (pc a : ℕ) (ks : List OperandKind) (m : Spot) → pc < a → Next p.lines a ks m → Lands p.lines pc a ks m
  forth pc a ks m lt n = record { next = n; spaced = λ le. absurd (omega arith) }

module _ (p : Program) (body : Option ℕ) where
  -- in this body, where such is pending before a stretch, its tables agree and lead to where such is pending
  pub record Table (before after : List OperandKind → List OperandKind) (f : Stretch) : Type 0 where
    pub sized : IsSized f
    pub leaves : (ks : List OperandKind) → f.leaves (before ks) ≡ after ks
    pub good : (pc : ℕ) (ks : List OperandKind) (m : Spot) → m.body ≡ body → HasAt p.lines pc (f.lines (before ks) m pc)
        → Next p.lines (pc + f.size) (after ks) m → Next p.lines pc (before ks) m × Each p pc (f.lines (before ks) m pc)

  abbrev pub ValueTable : Shape → Stretch → Type 0
  ValueTable s = Table keeps (pushes (OfShape s))

  abbrev pub PlaceTable : Shape → Stretch → Type 0
  PlaceTable s = Table keeps (pushes (AtShape s))

  abbrev pub ActionTable : Stretch → Type 0
  ActionTable = Table keeps keeps

  -- with something pending below
  pub above : {before after : List OperandKind → List OperandKind} {f : Stretch} (h : List OperandKind → List OperandKind) → Table before after f
      → Table (λ ks. before (h ks)) (λ ks. after (h ks)) f
  above h i = record { sized = i.sized; leaves = λ ks. i.leaves (h ks); good = λ pc ks m home. i.good pc (h ks) m home }

  pub none_table : (before : List OperandKind → List OperandKind) → Table before before none
  none_table before = record {
    sized = λ ks m pc. refl;
    leaves = λ ks. refl;
    good = λ pc ks m home has next. (moved p m (pc + 0) pc (before ks) (before ks) (omega arith) refl next, tt);
  }

  pub one_table : (i : Instr) (leaves before after : List OperandKind → List OperandKind) → ((ks : List OperandKind) → leaves (before ks) ≡ after ks)
      → ((pc : ℕ) (ks : List OperandKind) (m : Spot) → m.body ≡ body → Next p.lines (pc + 1) (after ks) m → IsFine p pc i (before ks) m)
      → Table before after (one i leaves)
  one_table i leaves before after e fine = record {
    sized = λ ks m pc. refl;
    leaves = e;
    good = λ pc ks m home has next. ((i, has.0), (fine pc ks m home next, tt));
  }

  pub join_table : {before mid after : List OperandKind → List OperandKind} {f g : Stretch} → Table before mid f → Table mid after g
      → Table before after (join f g)
  join_table {before} {mid} {after} {f} {g} i j = record {
    sized = join_sized f g i.sized j.sized;
    leaves = λ ks. ap g.leaves (i.leaves ks) ∙ j.leaves ks;
    good = λ pc ks m home has next.
        let q = pc + f.size in
        let e = i.leaves ks in
        let has' = subst (λ l. HasAt p.lines q (g.lines l m q)) e (has_rest p.lines pc f.size (f.lines (before ks) m pc) _ (i.sized (before ks) m pc) has) in
        let y = j.good q ks m home has' (moved p m _ _ (after ks) (after ks) (omega arith) refl next) in
        let x = i.good pc ks m home (has_front p.lines pc (f.lines (before ks) m pc) _ has) y.0 in (
          x.0,
          each_rest p pc f.size (f.lines (before ks) m pc) (g.lines (f.leaves (before ks)) m q) (i.sized (before ks) m pc) x.1
              (subst (λ l. Each p q (g.lines l m q)) (sym e) y.1),
        );
  }

  -- single instructions
  pub mark_table : ActionTable (one Mark keeps)
  mark_table = one_table Mark keeps keeps keeps (λ ks. refl) (λ pc ks m home n. n)

  pub number_table : (z : ℤ) → ValueTable (Cell kinds.Int) (one (Number z) (pushes (cell_value kinds.Int)))
  number_table z = one_table (Number z) _ keeps _ (λ ks. refl) (λ pc ks m home n. n)

  pub truth_table : (b : Bool) → ValueTable (Cell kinds.Truth) (one (Truth b) (pushes (cell_value kinds.Truth)))
  truth_table b = one_table (Truth b) _ keeps _ (λ ks. refl) (λ pc ks m home n. n)

  pub text_table : (t : List ℕ) → ValueTable (Cell kinds.Text) (one (Text t) (pushes (cell_value kinds.Text)))
  text_table t = one_table (Text t) _ keeps _ (λ ks. refl) (λ pc ks m home n. n)

  -- places
  pub outer_table : (x : ℕ) (s : Shape) (k : Kind) → slice_get p.variables x ≡ Some k → PlaceTable s (one (Outer x) (pushes (AtShape s)))
  outer_table x s k is = one_table (Outer x) _ keeps _ (λ ks. refl) (λ pc ks m home n. (k, is, (s, n)))

  pub packet_table : (x : ℕ) (s : Shape) (k : Kind) → slice_get (kinds_in_packets p) x ≡ Some k → PlaceTable s (one (Packet x) (pushes (AtShape s)))
  packet_table x s k is = one_table (Packet x) _ keeps _ (λ ks. refl) (λ pc ks m home n. (k, is, (s, n)))

  pub local_table : (x : ℕ) (s : Shape) (k : Kind) → slice_get (frame_cells p body) x ≡ Some (HoldsValue k) → PlaceTable s (one (Local x) (pushes (AtShape s)))
  local_table x s k is =
      one_table (Local x) _ keeps _ (λ ks. refl)
      (λ pc ks m home n. (k, subst (λ o. slice_get (frame_cells p o) x ≡ Some (HoldsValue k)) (sym home) is, (s, n)))

  pub parameter_table : (x : ℕ) (s : Shape) → slice_get (frame_cells p body) x ≡ Some HoldsPlace → PlaceTable s (one (Param x) (pushes (AtShape s)))
  parameter_table x s is =
      one_table (Param x) _ keeps _ (λ ks. refl)
      (λ pc ks m home n. (subst (λ o. slice_get (frame_cells p o) x ≡ Some HoldsPlace) (sym home) is, (s, n)))

  pub item_table : {f g : Stretch} (count cells : ℕ) (s : Shape) → PlaceTable s f → ValueTable (Cell kinds.Int) g
      → PlaceTable s (join f (join g (one (Index count cells) (λ ks. AtShape s ∷ drop 2 ks))))
  item_table count cells s i j =
      join_table i (join_table (above (pushes (AtShape s)) j)
      (one_table (Index count cells) (λ ks. AtShape s ∷ drop 2 ks) (λ ks. cell_value kinds.Int ∷ AtShape s ∷ ks) (pushes (AtShape s)) (λ ks. refl)
      (λ pc ks m home n. (AtShape s ∷ ks, refl, record { shape = s; given = s; rest = ks; taken = refl; next = n }))))

  pub field_table : {f : Stretch} (before : ℕ) (s : Shape) → PlaceTable s f → PlaceTable s (join f (one (Field before) (λ ks. AtShape s ∷ drop 1 ks)))
  field_table before s i =
      join_table i (one_table (Field before) (λ ks. AtShape s ∷ drop 1 ks) (pushes (AtShape s)) (pushes (AtShape s)) (λ ks. refl)
      (λ pc ks m home n. record { shape = s; given = s; rest = ks; taken = refl; next = n }))

  pub content_table : {f : Stretch} (s : Shape) → PlaceTable (Cell kinds.Space) f → PlaceTable s (join f (one Content (λ ks. AtShape s ∷ drop 1 ks)))
  content_table s i =
      join_table i (one_table Content (λ ks. AtShape s ∷ drop 1 ks) (pushes (cell_place kinds.Space)) (pushes (AtShape s)) (λ ks. refl)
      (λ pc ks m home n. record { shape = Cell kinds.Space; given = s; rest = ks; taken = refl; next = n }))

  pub load_table : {f : Stretch} (s : Shape) → PlaceTable s f → ValueTable s (join f (one (Load s) (λ ks. OfShape s ∷ drop 1 ks)))
  load_table s i =
      join_table i
      (one_table (Load s) (λ ks. OfShape s ∷ drop 1 ks) (pushes (AtShape s)) (pushes (OfShape s)) (λ ks. refl) (λ pc ks m home n. (ks, refl, n)))

  pub store_table : {e f : Stretch} (s : Shape) → PlaceTable s e → ValueTable s f → ActionTable (join e (join f (one (Store s) (drop 2))))
  store_table s j i =
      join_table j
      (join_table (above (pushes (AtShape s)) i)
      (one_table (Store s) (drop 2) (λ ks. OfShape s ∷ AtShape s ∷ ks) keeps (λ ks. refl) (λ pc ks m home n. (ks, refl, n))))

  pub modify_table : {e f : Stretch} (change : Change) → PlaceTable (Cell (change_kind change)) e → ValueTable (Cell (change_kind change)) f
      → ActionTable (join e (join f (one (Modify change) (drop 2))))
  modify_table change j i =
      let s = Cell (change_kind change) in
      join_table j
      (join_table (above (pushes (AtShape s)) i)
      (one_table (Modify change) (drop 2) (λ ks. OfShape s ∷ AtShape s ∷ ks) keeps (λ ks. refl) (λ pc ks m home n. (ks, refl, n))))

  -- an item and a field of a value
  pub pick_table : {f g : Stretch} (s r : Shape) (count cells : ℕ) → ValueTable s f → ValueTable (Cell kinds.Int) g
      → AreItems count cells (cell_kinds s) (cell_kinds r)
      → ValueTable r (join f (join g (one (Pick count cells) (λ ks. OfShape r ∷ drop 2 ks))))
  pick_table s r count cells i j items =
      join_table i (join_table (above (pushes (OfShape s)) j)
      (one_table (Pick count cells) (λ ks. OfShape r ∷ drop 2 ks) (λ ks. cell_value kinds.Int ∷ OfShape s ∷ ks) (pushes (OfShape r)) (λ ks. refl)
      (λ pc ks m home n. (OfShape s ∷ ks, refl, record { shape = s; given = r; rest = ks; taken = refl; part = items; next = n }))))

  pub take_table : {f : Stretch} (s r : Shape) (of before cells : ℕ) → ValueTable s f → IsPart of before cells (cell_kinds s) (cell_kinds r)
      → ValueTable r (join f (one (Take of before cells) (λ ks. OfShape r ∷ drop 1 ks)))
  take_table s r of before cells i is =
      join_table i (one_table (Take of before cells) (λ ks. OfShape r ∷ drop 1 ks) (pushes (OfShape s)) (pushes (OfShape r)) (λ ks. refl)
      (λ pc ks m home n. record { shape = s; given = r; rest = ks; taken = refl; part = is; next = n }))

  pub error_stop_table : {f : Stretch} → ValueTable (Cell kinds.Text) f → ActionTable (join f (one ErrorStop (drop 1)))
  error_stop_table i = join_table i (one_table ErrorStop (drop 1) (pushes (cell_value kinds.Text)) keeps (λ ks. refl) (λ pc ks m home n. (ks, refl, n)))

  pub apply_table : {f : Stretch} (op : Operation) → Table keeps (pushed_kinds (operand_kinds op)) f
      → ValueTable (Cell (result_kind op)) (join f (one (Do op) (λ ks. cell_value (result_kind op) ∷ drop (length (operand_kinds op)) ks)))
  apply_table op i =
      join_table i (one_table (Do op) (λ ks. cell_value (result_kind op) ∷ drop (length (operand_kinds op)) ks) (pushed_kinds (operand_kinds op))
      (pushes (cell_value (result_kind op)))
      (λ ks. let e : length (operand_kinds op) ≡ length (operand_kinds op) + 0 = omega arith in
      ap (λ n. cell_value (result_kind op) ∷ drop n (pushed_kinds (operand_kinds op) ks)) e
      ∙ ap (λ l. cell_value (result_kind op) ∷ l) (drop_kinds (operand_kinds op) ks 0))
      (λ pc ks m home n. (ks, refl, n)))

  -- a request finds its values, and behind them its variable
  pub ask_table : {f : Stretch} (name : RequestName) → request_result name ≡ None → Table keeps (pushed_operands (request_operands name)) f
      → ActionTable (join f (one (Ask name) (drop (request_size name))))
  ask_table name is i =
      join_table i (one_table (Ask name) (drop (request_size name)) (pushed_operands (request_operands name)) keeps
      (λ ks. all_dropped (request_operands name) ks (request_size name) (size_is name))
      (λ pc ks m home n. (ks, refl, subst (λ o. Next p.lines (pc + 1) (with_answer o ks) m) (sym is) n)))

  -- one that delivers a value leaves it there
  pub answer_table : {f : Stretch} (name : RequestName) (k : Kind) → request_result name ≡ Some k → Table keeps (pushed_operands (request_operands name)) f
      → ValueTable (Cell k) (join f (one (Ask name) (λ ks. with_answer (request_result name) (drop (request_size name) ks))))
  answer_table name k is i =
      let leaves = λ (ks : List OperandKind). with_answer (request_result name) (drop (request_size name) ks) in
      join_table i (one_table (Ask name) leaves (pushed_operands (request_operands name)) (pushes (cell_value k))
      (λ ks. ap (λ o. with_answer o (drop (request_size name) (pushed_operands (request_operands name) ks))) is
      ∙ ap (λ ks. cell_value k ∷ ks) (all_dropped (request_operands name) ks (request_size name) (size_is name)))
      (λ pc ks m home n. (ks, refl, subst (λ o. Next p.lines (pc + 1) (with_answer o ks) m) (sym is) n)))

  -- a call on data spaces
  pub perform_table : {f : Stretch} (op : SpaceOperation) → space_result_kind op ≡ None → Table keeps (pushed_kinds (space_operand_kinds op)) f
      → ActionTable (join f (one (OnSpaces op) (drop (length (space_operand_kinds op)))))
  perform_table op is i =
      join_table i (one_table (OnSpaces op) (drop (length (space_operand_kinds op))) (pushed_kinds (space_operand_kinds op)) keeps
      (λ ks. kinds_dropped (space_operand_kinds op) ks)
      (λ pc ks m home n. (ks, refl, subst (λ o. Next p.lines (pc + 1) (with_answer o ks) m) (sym is) n)))

  -- one that delivers a value leaves it there
  pub consult_table : {f : Stretch} (op : SpaceOperation) (k : Kind) → space_result_kind op ≡ Some k → Table keeps (pushed_kinds (space_operand_kinds op)) f
      → ValueTable (Cell k) (join f (one (OnSpaces op) (λ ks. with_answer (space_result_kind op) (drop (length (space_operand_kinds op)) ks))))
  consult_table op k is i =
      let given = space_operand_kinds op in
      let leaves = λ (ks : List OperandKind). with_answer (space_result_kind op) (drop (length given) ks) in
      join_table i (one_table (OnSpaces op) leaves (pushed_kinds given) (pushes (cell_value k))
      (λ ks. ap (λ o. with_answer o (drop (length given) (pushed_kinds given ks))) is ∙ ap (λ ks. cell_value k ∷ ks) (kinds_dropped given ks))
      (λ pc ks m home n. (ks, refl, subst (λ o. Next p.lines (pc + 1) (with_answer o ks) m) (sym is) n)))

  pub copy_table : {e f : Stretch} → PlaceTable (Cell kinds.Space) e → ValueTable (Cell kinds.Space) f → ActionTable (join e (join f (one Copy (drop 2))))
  copy_table j i =
      join_table j
      (join_table (above (pushes (cell_place kinds.Space)) i)
      (one_table Copy (drop 2) (λ ks. cell_value kinds.Space ∷ cell_place kinds.Space ∷ ks) keeps (λ ks. refl) (λ pc ks m home n. (ks, refl, n))))

  pub bind_table : {e f : Stretch} (s : Shape) → PlaceTable (Cell kinds.Space) e → ValueTable (Cell kinds.Space) f
      → ActionTable (join e (join f (one (Bind s) (drop 2))))
  bind_table s j i =
      join_table j
      (join_table (above (pushes (cell_place kinds.Space)) i)
      (one_table (Bind s) (drop 2) (λ ks. cell_value kinds.Space ∷ cell_place kinds.Space ∷ ks) keeps (λ ks. refl) (λ pc ks m home n. (ks, refl, n))))

  -- a call finds what its parameters take, and leaves what the PROC delivers
  pub call_table : (q : ℕ) (e : Entry) (taken : List OperandKind) (vs : List Kind) (d : Option Shape) (fs : List Stretch) → slice_get p.bodies q ≡ Some e
      → e.layout ≡ layouts.Own taken vs → e.delivers ≡ d → length fs ≡ length taken → Table keeps (pushed_operands taken) (all_code fs)
      → Table keeps (with_result d) (call_code q d fs)
  call_table q e taken vs d fs has own gives as_many i =
      join_table i (one_table (Call q) (λ ks. with_result d (drop (length fs) ks)) (pushed_operands taken) (with_result d)
      (λ ks. ap (with_result d) (all_dropped taken ks (length fs) as_many))
      (λ pc ks m home n. record {
        entry = e;
        has = has;
        parameters = taken;
        variables = vs;
        own = own;
        rest = ks;
        taken = refl;
        next =
            subst (λ d. Next p.lines (pc + 1) (with_result d ks) m) (sym gives) n;
      }))

  pub refer_table : (q : ℕ) (e : Entry) (d : Option Shape) → slice_get p.bodies q ≡ Some e → IsRefinement e.layout → owner p (Some q) ≡ owner p body
      → e.delivers ≡ d → Table keeps (with_result d) (refer_code q d)
  refer_table q e d has refinement owned gives = one_table (Refer q) (with_result d) keeps (with_result d) (λ ks. refl) (λ pc ks m home n. record {
    entry = e;
    has = has;
    refinement = refinement;
    owned = sym (ap (λ o. owner_at q (layout_of o)) has) ∙ owned ∙ ap (owner p) (sym home);
    next = subst (λ d. Next p.lines (pc + 1) (with_result d ks) m) (sym gives) n;
  })

  -- LEAVE finds what it delivers
  pub leave_fine : (e : Exit) (d : Option Shape) → LeftBy p body e d → (pc : ℕ) (ks : List OperandKind) (m : Spot) → m.body ≡ body → HasResult d ks
      → IsFine p pc (leave_instr e d) ks m
  leave_fine exits.Body d left pc ks m home top = back body left home
    where
      back : (o : Option ℕ) → Delivers p o d → m.body ≡ o → IsFine p pc (Back d) ks m
      back None left home = absurd left
      back (Some n) left home = record { number = n; here = home; entry = left.0; has = left.1; delivers = left.2; top = top }
  leave_fine exits.Around d left pc ks m home top = out (owner p body) left (ap (owner p) home)
    where
      out : (o : Option ℕ) → Delivers p o d → owner p m.body ≡ o → IsFine p pc (Out d) ks m
      out None left home = absurd left
      out (Some n) left home = record { number = n; proc = home; entry = left.0; has = left.1; delivers = left.2; top = top }

  pub leave_table : (e : Exit) → LeftBy p body e None → ActionTable (one (leave_instr e None) keeps)
  leave_table e left = one_table (leave_instr e None) keeps keeps keeps (λ ks. refl) (λ pc ks m home n. leave_fine e None left pc ks m home tt)

  pub leave_with_table : {f : Stretch} (e : Exit) (s : Shape) → LeftBy p body e (Some s) → ValueTable s f
      → ActionTable (join f (one (leave_instr e (Some s)) (drop 1)))
  leave_with_table e s left i =
      join_table i (one_table (leave_instr e (Some s)) (drop 1) (pushes (OfShape s)) keeps (λ ks. refl)
      (λ pc ks m home n. leave_fine e (Some s) left pc (OfShape s ∷ ks) m home (ks, refl)))

  -- a stretch, and behind it an instruction from which nothing goes on to the next
  pub ends_good : {mid : List OperandKind → List OperandKind} {f : Stretch} (i : Instr) (leaves : List OperandKind → List OperandKind) → Table keeps mid f
      → (pc : ℕ) (ks : List OperandKind) (m : Spot) → m.body ≡ body → ((pc : ℕ) → IsFine p pc i (mid ks) m)
      → HasAt p.lines pc ((join f (one i leaves)).lines ks m pc) → Next p.lines pc ks m × Each p pc ((join f (one i leaves)).lines ks m pc)
  ends_good {mid} {f} i leaves t pc ks m home fine has =
      let q = pc + f.size in
      let e = t.leaves ks in
      let h = has_rest p.lines pc f.size (f.lines ks m pc) _ (t.sized ks m pc) has in
      let r = t.good pc ks m home (has_front p.lines pc (f.lines ks m pc) _ has) (i, subst (λ l. slice_get p.lines q ≡ Some (line_of i l m)) e h.0) in
      (r.0, each_rest p pc f.size (f.lines ks m pc) (line_of i (f.leaves ks) m ∷ []) (t.sized ks m pc) r.1 (subst (λ l. IsFine p q i l m) (sym e) (fine q), tt))
