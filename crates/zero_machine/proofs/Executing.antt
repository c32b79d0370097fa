-- What an instruction does, where it is the one at hand.
use Rattle.std.proofs.Common.{◌≡◌, ℕ, ◌+◌, ◌-◌, ◌<◌, List, length, get_or, Some, sym, ap, ◌∙◌, subst}
use Rattle.std.specs.Prelude.{Result, Ok, Err, IfOk, slice_get}
use Rattle.std.proofs.lemmas.Option.{get_or_from_slice_get, slice_get_within}
use Rattle.eu_base.specs.Cells.{Cells, Within, without}
use Rattle.eu_base.specs.DataSpaces.{Heads}
use Rattle.eu_base.specs.declared.shape.Shape.{Shape}
use Rattle.zero_state.specs.declared.next.Next.{Next}
use Rattle.zero_state.specs.declared.next.Next.TheVariants.{On as On', Marked, Ended}
use Rattle.code_form.specs.declared.instr.Instr.{Instr}
use Rattle.code_form.specs.declared.instr.Instr.TheVariants.{Mark, Store}
use Rattle.code_form.specs.declared.instr.Instr.TheVariants.{Call, Refer, End}
use Rattle.code_form.specs.declared.waits.Waits.{Waits}
use Rattle.code_form.specs.declared.waits.Waits.TheVariants.{Nothing}
use Rattle.code_form.specs.declared.code.Entry.{Entry}
use Rattle.code_form.specs.declared.operand.Operand.{Operand}
use Rattle.code_form.specs.Program.{Program}
use Rattle.code_form.specs.Machine.{Mem, with_cells, Position, Control, To, at, Stage, call_move, refer_move, instruction, pushes, stage}
use Rattle.zero_state.specs.Finds.{Finds, IsCallable, HasProc, HasBody}
use Rattle.zero_state.specs.Stepping.{stage_of, halt_of, mem_of, scene_of, stage_by, StepsSo, GoesOn, Steps, Acts, Accesses}
use Rattle.zero_state.proofs.Making.{plain_steps, plain, steps_at, fewer_known, unspent, spent}

-- the body that is read is the one that stands there
found : (bodies : List Entry) (n : ℕ) (entry d : Entry) → slice_get bodies n ≡ Some entry → d ≡ get_or bodies n d → slice_get bodies n ≡ Some d
found bodies n entry d has is =
    let e : d ≡ entry = is ∙ get_or_from_slice_get bodies n entry d has in
    has ∙ ap (λ (x : Entry). Some x) (sym e)

-- a body that is called or referred to is there
module _ (bodies : List Entry) (instr : Instr) (n : ℕ) (c : Position) (finds : Finds bodies instr c) where
  pub called_in : (read : List Entry) → instr ≡ Call n → read ≡ bodies → n < length read
  called_in read is same =
      let proc : HasProc bodies n c.ops = subst (λ (i : Instr). Finds bodies i c) is finds in
      subst (λ (b : List Entry). n < length b) (sym same) (slice_get_within bodies n proc.entry proc.has)

  pub referred_in : (read : List Entry) → instr ≡ Refer n → read ≡ bodies → n < length read
  referred_in read is same =
      let body : HasBody bodies n = subst (λ (i : Instr). Finds bodies i c) is finds in
      subst (λ (b : List Entry). n < length b) (sym same) (slice_get_within bodies n body.entry body.has)

  pub callable : (read : List Entry) (d : Entry) → instr ≡ Call n → read ≡ bodies → d ≡ get_or read n d → IsCallable d.layout c.ops
  callable read d is same at =
      let proc : HasProc bodies n c.ops = subst (λ (i : Instr). Finds bodies i c) is finds in
      let e : d ≡ proc.entry = subst (λ (b : List Entry). d ≡ get_or b n d) same at ∙ get_or_from_slice_get bodies n proc.entry d proc.has in
      subst (λ (x : Entry). IsCallable x.layout c.ops) (sym e) proc.callable

module _ {E : Type 0} (result : Result Next E) (before after : Cells → Type 0) (had has : Heads) (c : Position) (c' : Control) (marks marks' : ℕ) (p : Program)
    (instr : Instr) where
  -- the step leads where the instruction does
  abbrev Leads : Type 0
  Leads = IfOk result (Steps before after had has (stage_by p instr marks) c c' marks')

  said : (to : Position → Mem → Stage)
      → ((ops : List Operand) (mem : Mem) → to (record c { ops = ops }) mem ≡ stage_by p instr marks (record c { ops = ops }) mem)
      → IfOk result (Steps before after had has to c c' marks') → Leads
  said to same h = by result h
    where
      by : (result : Result Next E) → IfOk result (Steps before after had has to c c' marks') → IfOk result (Steps before after had has (stage_by p instr marks) c c' marks')
      by (Ok next) h = steps_at before after had has to (stage_by p instr marks) c c' marks' next (λ ops mem many. same ops mem) h
      by (Err e) h = tt

  moved : (to : Position → Mem → Stage) → has ≡ had → IfOk result (Steps before after had had to c c' marks') → IfOk result (Steps before after had has to c c' marks')
  moved to same h = subst (λ (has : Heads). IfOk result (Steps before after had has to c c' marks')) (sym same) h

  pub call_so : (n : ℕ) (d : Entry) → instr ≡ Call n → Finds p.bodies instr c → d ≡ get_or p.bodies n d → has ≡ had
      → IfOk result (Steps before after had had (λ from mem. stage (call_move from n (Some d) mem) from (scene_of mem marks)) c c' marks') → Leads
  call_so n d is finds read same h =
      let proc : HasProc p.bodies n c.ops = subst (λ i. Finds p.bodies i c) is finds in
      let to : Position → Mem → Stage = λ from mem. stage (call_move from n (Some d) mem) from (scene_of mem marks) in
      said to
      (λ ops mem.
      ap (λ o. stage (call_move (record c { ops = ops }) n o mem) (record c { ops = ops }) (scene_of mem marks))
      (sym (found p.bodies n proc.entry d proc.has read))
      ∙ ap (λ i. stage_by p i marks (record c { ops = ops }) mem) (sym is)) (moved to same h)

  pub refer_so : (n : ℕ) (d : Entry) → instr ≡ Refer n → Finds p.bodies instr c → d ≡ get_or p.bodies n d → has ≡ had
      → IfOk result (Steps before after had had (λ from mem. stage (refer_move from n (Some d) mem) from (scene_of mem marks)) c c' marks') → Leads
  refer_so n d is finds read same h =
      let body : HasBody p.bodies n = subst (λ i. Finds p.bodies i c) is finds in
      let to : Position → Mem → Stage = λ from mem. stage (refer_move from n (Some d) mem) from (scene_of mem marks) in
      said to
      (λ ops mem.
      ap (λ o. stage (refer_move (record c { ops = ops }) n o mem) (record c { ops = ops }) (scene_of mem marks))
      (sym (found p.bodies n body.entry d body.has read))
      ∙ ap (λ i. stage_by p i marks (record c { ops = ops }) mem) (sym is)) (moved to same h)

-- a step of the instruction at hand
pub said_by : (before after : Cells → Type 0) (had has : Heads) (c : Position) (c' : Control) (marks : ℕ) (p : Program) (instr i : Instr) → instr ≡ i → has ≡ had
    → Steps before after had had (stage_by p i marks) c c' marks On' → Steps before after had has (stage_by p instr marks) c c' marks On'
said_by before after had has c c' marks p instr i is same h =
    subst (λ i. Steps before after had has (stage_by p i marks) c c' marks On') (sym is)
    (subst (λ has. Steps before after had has (stage_by p i marks) c c' marks On') (sym same) h)

pub accesses : {E : Type 0} (result : Result Next E) (before after : Cells → Type 0) (had has : Heads) (c : Position) (c' : Control) (marks : ℕ) (p : Program)
    (instr i : Instr) → instr ≡ i → has ≡ had → IfOk result (Accesses before after had i c c') → IfOk result (Steps before after had has (stage_by p instr marks) c c' marks)
accesses (Ok next) before after had has c c' marks p instr i is same h =
    subst (λ i. Steps before after had has (stage_by p i marks) c c' marks next) (sym is)
    (subst (λ has. Steps before after had has (stage_by p i marks) c c' marks next) (sym same) (h p marks))
accesses (Err e) before after had has c c' marks p instr i is same h = tt

-- one that spends a mark, and leaves the data spaces what they are
pub spends : {E : Type 0} (result : Result Next E) (before after : Cells → Type 0) (had has : Heads) (c : Position) (c' : Control) (marks marks' : ℕ)
    (p : Program) (instr i : Instr) → instr ≡ i → has ≡ had
    → IfOk result (λ next. (p : Program) → Steps before after had had (stage_by p i marks) c c' marks' next)
    → IfOk result (Steps before after had has (stage_by p instr marks) c c' marks')
spends (Ok next) before after had has c c' marks marks' p instr i is same h =
    subst (λ i. Steps before after had has (stage_by p i marks) c c' marks' next) (sym is)
    (subst (λ has. Steps before after had has (stage_by p i marks) c c' marks' next) (sym same) (h p))
spends (Err e) before after had has c c' marks marks' p instr i is same h = tt

-- one that changes data spaces
pub acts : {E : Type 0} (result : Result Next E) (before after : Cells → Type 0) (had has : Heads) (c : Position) (c' : Control) (marks : ℕ) (p : Program)
    (instr i : Instr) → instr ≡ i → IfOk result (Acts before after had has i c c') → IfOk result (Steps before after had has (stage_by p instr marks) c c' marks)
acts (Ok next) before after had has c c' marks p instr i is h = subst (λ i. Steps before after had has (stage_by p i marks) c c' marks next) (sym is) (h p marks)
acts (Err e) before after had has c c' marks p instr i is h = tt

-- STORE, which does the same for each shape
pub stores : {E : Type 0} (result : Result Next E) (before after : Cells → Type 0) (had has : Heads) (c : Position) (c' : Control) (marks : ℕ) (p : Program)
    (instr : Instr) (shape : Shape) → instr ≡ Store shape → has ≡ had → IfOk result (λ next. (shape : Shape) → Accesses before after had (Store shape) c c' next)
    → IfOk result (Steps before after had has (stage_by p instr marks) c c' marks)
stores (Ok next) before after had has c c' marks p instr shape is same h =
    subst (λ i. Steps before after had has (stage_by p i marks) c c' marks next) (sym is)
    (subst (λ has. Steps before after had has (stage_by p (Store shape) marks) c c' marks next) (sym same) (h shape p marks))
stores (Err e) before after had has c c' marks p instr shape is same h = tt

-- one that looks at no cell, and forgets some or none
module _ (holds : Cells → Type 0) (heads : Heads) (p : Program) (instr i : Instr) (marks : ℕ) (c : Position) (c' : Control) (is : instr ≡ i) where
  pub so : (next : Next) (to : Cells → Cells)
      → ((cells : Cells) → StepsSo i c (mem_of heads cells) c' (mem_of heads (to cells)) next) → ((cells : Cells) → holds cells → holds (to cells))
      → Steps holds holds heads heads (stage_by p instr marks) c c' marks next
  so next to h kept =
      subst (λ i. Steps holds holds heads heads (stage_by p i marks) c c' marks next) (sym is) (plain holds holds heads i c c' next to h kept p marks)

  pub goes_so : ((mem : Mem) → GoesOn i c mem c' mem) → Steps holds holds heads heads (stage_by p instr marks) c c' marks On'
  goes_so h = so On' (λ cells. cells) (λ cells. h (mem_of heads cells)) (λ cells held. held)

  pub forgets_so : (from until : ℕ) → ((cells fewer : Cells) → holds cells → Within fewer cells → holds fewer)
      → ((mem : Mem) → GoesOn i c mem c' (with_cells (without from until mem.cells) mem)) → Steps holds holds heads heads (stage_by p instr marks) c c' marks On'
  forgets_so from until forgets h =
      so On' (without from until) (λ cells. h (mem_of heads cells)) (λ cells held. forgets cells (without from until cells) held (fewer_known from until cells))

  pub computed_so : {E F : Type 0} (made : Result Next E) (result : Result Next F) → IfOk result (λ next. made ≡ Ok next)
      → IfOk made (λ next. (mem : Mem) → StepsSo i c mem c' mem next) → IfOk result (Steps holds holds heads heads (stage_by p instr marks) c c' marks)
  computed_so made (Ok next) same h =
      let steps = subst (λ made. IfOk made (λ next. (mem : Mem) → StepsSo i c mem c' mem next)) same h in
      so next (λ cells. cells) (λ cells. steps (mem_of heads cells)) (λ cells held. held)
  computed_so made (Err e) same h = tt

  -- one that pushes
  pub pushes_so : {E F : Type 0} (made : Result Next E) (result : Result Next F) → IfOk result (λ next. made ≡ Ok next) → (o : Operand)
      → ((p : Program) (mem : Mem) → pushes c o c.ops mem ≡ instruction p (Some i) c mem)
      → IfOk made (λ next. (mem : Mem) (marks : ℕ) → stage_of (halt_of next) c' (scene_of mem marks) ≡ stage (pushes c o c.ops mem) c (scene_of mem marks))
      → IfOk result (Steps holds holds heads heads (stage_by p instr marks) c c' marks)
  pushes_so {E = E} made result same o by h = computed_so made result same (of made h)
    where
      of : (made : Result Next E)
          → IfOk made (λ next. (mem : Mem) (marks : ℕ) → stage_of (halt_of next) c' (scene_of mem marks) ≡ stage (pushes c o c.ops mem) c (scene_of mem marks))
          → IfOk made (λ next. (mem : Mem) → StepsSo i c mem c' mem next)
      of (Ok next) h = λ mem p marks. h mem marks ∙ ap (λ m. stage m c (scene_of mem marks)) (by p mem)
      of (Err e) h = tt

  -- one that spends a mark
  pub asks_so : {E F : Type 0} (marks' : ℕ) (made : Result Next E) (result : Result Next F) → IfOk result (λ next. made ≡ Ok next)
      → IfOk made (λ next. (p : Program) (mem : Mem) → stage_of (halt_of next) c' (scene_of mem marks') ≡ stage_by p i marks c mem)
      → IfOk result (Steps holds holds heads heads (stage_by p instr marks) c c' marks')
  asks_so marks' made (Ok next) same h =
      let steps = subst (λ made. IfOk made (λ next. (p : Program) (mem : Mem) → stage_of (halt_of next) c' (scene_of mem marks') ≡ stage_by p i marks c mem)) same h in
      subst (λ i. Steps holds holds heads heads (stage_by p i marks) c c' marks' next) (sym is)
      (plain_steps holds holds heads (stage_by p i marks) c c' marks' next (λ cells. cells) (λ cells. steps p (mem_of heads cells)) (λ cells held. held))
  asks_so marks' made (Err e) same h = tt

-- a mark is due, or spent
module _ (c : Position) (marks : ℕ) (w : Waits) (none : w ≡ Nothing) (p : Program) (mem : Mem) where
  pub mark_due : marks ≡ 0 → stage_of (halt_of Marked) (record { position = c; waits = w }) (scene_of mem marks) ≡ stage_by p Mark marks c mem
  mark_due e =
      ap (λ w. stage_of (halt_of Marked) (record { position = c; waits = w }) (scene_of mem marks)) none
      ∙ unspent marks (To (at c (c.pc + 1) c.ops) mem) c mem e

  pub mark_spent : 0 < marks
      → stage_of (halt_of On') (record { position = at c (c.pc + 1) c.ops; waits = w }) (scene_of mem (marks - 1)) ≡ stage_by p Mark marks c mem
  mark_spent lt =
      ap (λ w. stage_of (halt_of On') (record { position = at c (c.pc + 1) c.ops; waits = w }) (scene_of mem (marks - 1))) none
      ∙ spent marks (To (at c (c.pc + 1) c.ops) mem) c mem lt

pub ends : (holds : Cells → Type 0) (heads : Heads) (c : Position) (marks : ℕ) (w : Waits) → w ≡ Nothing → (p : Program) (instr : Instr) → instr ≡ End
    → Steps holds holds heads heads (stage_by p instr marks) c (record { position = c; waits = w }) marks Ended
ends holds heads c marks w none p instr is =
    plain_steps holds holds heads (stage_by p instr marks) c (record { position = c; waits = w }) marks Ended (λ cells. cells)
    (λ cells. ap (λ w. stage_of (halt_of Ended) (record { position = c; waits = w }) (scene_of (mem_of heads cells) marks)) none
    ∙ ap (λ i. stage_by p i marks c (mem_of heads cells)) (sym is))
    (λ cells h. h)
