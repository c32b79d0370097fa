-- Procedures on data spaces, and the assignment of a copy.
use Rattle.std.proofs.Common.{◌≡◌, ℕ, zero, suc, ◌+◌, ◌≤◌, true, List, [], ◌∷◌, length, Option, Some, None, refl, sym, ap, ◌∙◌, subst, arith, inl}
use Rattle.std.specs.Prelude.{Ok, MatchOption}
use Rattle.eu_base.specs.declared.value.Kind.TheVariants as kinds
use Rattle.eu_base.specs.declared.value.Value.{Value}
use Rattle.eu_base.specs.declared.value.Value.TheVariants as item
use Rattle.eu_base.specs.declared.stop.Stop.TheVariants.{OperandRoom as NoRoom}
use Rattle.eu_base.specs.declared.space_operation.SpaceOperation.{SpaceOperation}
use Rattle.eu_base.specs.declared.space_operation.SpaceOperation.TheVariants as operations
use Rattle.eu_base.specs.Values.{kind_of}
use Rattle.eu_base.specs.Room.{value_bytes, bytes_fit}
use Rattle.eu_base.specs.Cells.{Free, Cells}
use Rattle.eu_base.specs.DataSpaces.{Heads, SpaceChange, heads_after}
use Rattle.eu_base.specs.SpaceOperations.{Plan, planned, space_operand_kinds, space_result_kind}
use Rattle.code_form.specs.declared.operand.Operand.{Operand}
use Rattle.code_form.specs.declared.operand.Operand.TheVariants.{Value as Of}
use Rattle.code_form.specs.declared.instr.Instr.TheVariants.{OnSpaces}
use Rattle.code_form.specs.Machine.{Mem, Position, Move, Goes, Halts, free, bytes_on, bytes_of, goes, on_values, mem_by, mem_after, changes, answers, stage}
use Rattle.code_form.specs.Program.{Program}
use Rattle.code_form.proofs.Plans.{IsAnswer, Delivers, planned_delivers}
use Rattle.zero_state.specs.Finds.{TopValues}
use Rattle.zero_state.specs.Stacked.{Stacked}
use Rattle.zero_state.specs.declared.next.Next.{Next}
use Rattle.zero_state.specs.declared.next.Next.TheVariants.{On as On'}
use Rattle.zero_state.specs.Stepping.{stage_of, halt_of, mem_of, scene_of, stage_by, Steps, Acts}
use Rattle.zero_state.proofs.Room.{same_like, less_fits}
use Rattle.zero_state.proofs.Making.{done}
use Rattle.space_calls.specs.Planned.{cells_after, CarriesOut, StopsSo}
use Rattle.zero_steps.specs.Giving.{put_on, answer_on}
use Rattle.zero_steps.proofs.Accessing.{standing, if_true}
use Rattle.zero_steps.proofs.Putting.{at_least}
use Rattle.zero_steps.proofs.Putting.{first_fits}

-- ---- what a procedure gives has room where its operands were

eight : (w : Value) → (kind_of w ≡ kinds.Text → ⊥) → value_bytes w ≡ 8
eight (item.Int z) n = refl
eight (item.Truth b) n = refl
eight (item.Text t) n = absurd (n refl)
eight (item.Task t) n = refl
eight (item.Space s) n = refl

small_of : (op : SpaceOperation) (w : Value) → IsAnswer (space_result_kind op) (Some w) → (value_bytes w ≡ 8) × (1 ≤ length (space_operand_kinds op))
small_of operations.KindOf w e = (eight w (λ t. let f : kinds.Int ≡ kinds.Text = sym e ∙ t in absurd (cc f)), omega arith)
small_of operations.New w e = (eight w (λ t. let f : kinds.Space ≡ kinds.Text = sym e ∙ t in absurd (cc f)), omega arith)
small_of operations.Old w e = (eight w (λ t. let f : kinds.Space ≡ kinds.Text = sym e ∙ t in absurd (cc f)), omega arith)
small_of operations.IsNamed w e = (eight w (λ t. let f : kinds.Truth ≡ kinds.Text = sym e ∙ t in absurd (cc f)), omega arith)
small_of operations.SetKind w e = absurd e
small_of operations.Forget w e = absurd e
small_of operations.ForgetNamed w e = absurd e
small_of operations.Rename w e = absurd e
small_of operations.CopyNamed w e = absurd e

room_behind : (w : Value) (vs : List Value) (ops : List Operand) (held : ℕ) → value_bytes w ≡ 8 → 1 ≤ length vs → bytes_fit (bytes_on (put_on vs ops) held) ≡ true
    → bytes_fit (bytes_on (Of w ∷ ops) held) ≡ true
room_behind w [] ops held small some fits = absurd (omega (arith, some))
room_behind w (v ∷ vs) ops held small some fits =
    less_fits _ _ (omega (arith, small, at_least v)) (first_fits v vs ops held fits)

abbrev pub Fits : Option Value → Stacked → Type 0
Fits given t = MatchOption given (Unit {0}) (λ v. bytes_fit (bytes_on (Of v ∷ t.ops) (bytes_of t.frames)) ≡ true)

pub answer_fits : (op : SpaceOperation) (vs : List Value) (heads : Heads) (given : Option Value) (list : List SpaceChange) (t : Stacked)
    → planned op vs heads ≡ Ok (given, list) → length vs ≡ length (space_operand_kinds op)
    → bytes_fit (bytes_on (put_on vs t.ops) (bytes_of t.frames)) ≡ true → Fits given t
answer_fits op vs heads None list t e many fits = tt
answer_fits op vs heads (Some w) list t e many fits =
    let answer : IsAnswer (space_result_kind op) (Some w) = subst (Delivers (space_result_kind op)) e (planned_delivers op vs heads) in
    let small = small_of op w answer in
    room_behind w vs t.ops (bytes_of t.frames) small.0 (omega (arith, many, small.1)) fits

-- ---- so many are taken

values_many : (n : ℕ) (vs : List Value) (ops : List Operand) (go : List Value → List Operand → Move) → TopValues n ops
    → (ws : List Value) × ((rest : List Operand) × ((length ws ≡ n + length vs) × (on_values n vs ops go ≡ go ws rest)))
values_many zero vs ops go h = (vs, (ops, (omega arith, refl)))
values_many (suc n) vs ops go h =
    let x = values_many n (h.0 ∷ vs) h.1.0 go h.1.2 in
    (x.0, (x.1.0, (x.1.1.0 ∙ omega arith, ap (λ os. on_values (suc n) vs os go) h.1.1 ∙ x.1.1.1)))

-- a move tells how many were taken
abbrev counted : ℕ → Move
counted n = Goes (standing n 0 (record { ops = []; frames = [] })) (mem_of (record { live = []; last = 0; names = [] }) (λ _. Free))

abbrev count_of : Move → ℕ
count_of (Goes c m) = c.pc
count_of _ = 0

pub as_many : (n : ℕ) (ops : List Operand) (vs : List Value) (rest : List Operand) → TopValues n ops
    → ((go : List Value → List Operand → Move) → on_values n [] ops go ≡ go vs rest) → length vs ≡ n
as_many n ops vs rest h taken =
    let x = values_many n [] ops (λ ws _. counted (length ws)) h in
    ap count_of (sym (taken (λ ws _. counted (length ws))) ∙ x.1.1.1) ∙ x.1.1.0 ∙ omega arith

-- ---- a procedure

mem_is : (list : List SpaceChange) (m : Mem) → mem_after list m ≡ mem_of (heads_after list m.heads) (mem_after list m).cells
mem_is [] m = refl
mem_is (change ∷ list) m = mem_is list (mem_by change m)

module _ (before after : Cells → Type 0) (had has : Heads) (op : SpaceOperation) (vs : List Value) (pc used : ℕ) (s t : Stacked)
    (taken : (go : List Value → List Operand → Move) → on_values (length (space_operand_kinds op)) [] s.ops go ≡ go vs t.ops) where
  abbrev calling : Position
  calling = standing pc used s

  called : (p : Program) (marks : ℕ) (cells : Cells) → stage_by p (OnSpaces op) marks calling (mem_of had cells)
      ≡ stage (changes (planned op vs had) (mem_of had cells) (λ v m'. answers calling v t.ops m')) calling (scene_of (mem_of had cells) marks)
  called p marks cells =
      ap (λ m. stage m calling (scene_of (mem_of had cells) marks))
      (taken (λ vs ops. changes (planned op vs had) (mem_of had cells) (λ v m'. answers calling v ops m')))

  answered : (o : Option Value) → Fits o t → s.frames ≡ t.frames → (m : Mem)
      → Goes (standing (pc + 1) used (record { ops = answer_on o t.ops; frames = s.frames })) m ≡ answers calling o t.ops m
  answered None f same m = refl
  answered (Some v) f same m =
      if_true _ (goes calling (Of v ∷ t.ops) m) (Halts NoRoom) (ap (λ fs. bytes_fit (bytes_on (Of v ∷ t.ops) (bytes_of fs))) same ∙ f)

  module _ (given : Option Value) (out : CarriesOut before after had has (planned op vs had) given) (fits : Fits given t) (same : s.frames ≡ t.frames) where
    abbrev next : Position
    next = standing (pc + 1) used (record { ops = answer_on given t.ops; frames = s.frames })

    goes_so : (p : Program) (marks : ℕ) (cells : Cells) → stage_of None (free next) (scene_of (mem_of has (cells_after out.changes had cells)) marks)
        ≡ stage_by p (OnSpaces op) marks calling (mem_of had cells)
    goes_so p marks cells =
        ap (λ (h : Heads). stage_of None (free next) (scene_of (mem_of h (cells_after out.changes had cells)) marks)) out.heads
        ∙ ap (λ (m : Mem). stage (Goes next m) calling (scene_of (mem_of had cells) marks)) (sym (mem_is out.changes (mem_of had cells)))
        ∙ ap (λ m. stage m calling (scene_of (mem_of had cells) marks)) (answered given fits same (mem_after out.changes (mem_of had cells)))
        ∙ ap (λ (q : Plan (Option Value)). stage (changes q (mem_of had cells) (λ v m'. answers calling v t.ops m')) calling (scene_of (mem_of had cells) marks))
        (sym out.is)
        ∙ sym (called p marks cells)

    pub performed_so : Acts before after had has (OnSpaces op) calling (free next) On'
    performed_so p marks = record {
      does = λ cells h. done after has None (free next) marks _ (cells_after out.changes had cells) (out.kept cells h) (goes_so p marks cells);
      ops = s.ops;
      like = same_like s.ops;
      mem = mem_of had (λ _. Free);
      leads = inl (mem_of has (cells_after out.changes had (λ _. Free)), goes_so p marks (λ _. Free));
    }

  pub stopped_so : (next : Next) → StopsSo before after had has (planned op vs had) next → Acts before after had has (OnSpaces op) calling (free calling) next
  stopped_so next stop p marks =
      subst (λ (h : Heads). Steps before after had h (stage_by p (OnSpaces op) marks) calling (free calling) marks next) (sym stop.heads)
      (record {
        does = λ cells h. done after had (halt_of next) (free calling) marks _ cells (stop.kept cells h) (so cells);
        ops = s.ops;
        like = same_like s.ops;
        mem = mem_of had (λ _. Free);
        leads = inl (mem_of had (λ _. Free), so (λ _. Free));
      })
    where
      so : (cells : Cells) → stage_of (halt_of next) (free calling) (scene_of (mem_of had cells) marks)
          ≡ stage_by p (OnSpaces op) marks calling (mem_of had cells)
      so cells =
          ap (λ h. stage_of h (free calling) (scene_of (mem_of had cells) marks)) stop.stops
          ∙ ap (λ (q : Plan (Option Value)). stage (changes q (mem_of had cells) (λ v m'. answers calling v t.ops m')) calling (scene_of (mem_of had cells) marks))
          (sym stop.is)
          ∙ sym (called p marks cells)
