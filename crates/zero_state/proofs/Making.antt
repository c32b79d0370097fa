-- Steps of the machine are made of what its functions do.
use Rattle.std.proofs.Common.{◌≡◌, ℕ, zero, suc, ◌-◌, ◌<◌, Bool, true, false, cond, List, length, Option, Some, None, refl, ap, subst, arith, ◌⊎◌, inl, inr}
use Rattle.eu_base.specs.DataSpaces.{Heads}
use Rattle.eu_base.specs.Cells.{Cell, Free, Word, Letters, Cells, cell_blocks, forgotten, is_between, without, Within}
use Rattle.code_form.specs.declared.halt.Halt.{Halt}
use Rattle.code_form.specs.declared.instr.Instr.{Instr}
use Rattle.code_form.specs.declared.operand.Operand.{Operand}
use Rattle.code_form.specs.declared.halt.Halt.TheVariants as halts
use Rattle.code_form.specs.Machine.{Mem, Position, Control, free, After, Stage, Over, rest_at, after_stage, mark_stage}
use Rattle.zero_state.specs.declared.next.Next.{Next}
use Rattle.zero_state.specs.Stepping.{stage_of, mem_of, scene_of, stage_by, halt_of, StepsSo, Does, Leads, Steps, Accesses}
use Rattle.zero_state.proofs.Room.{same_like, like_length}

-- a step that leads there
pub done : (holds : Cells → Type 0) (heads : Heads) (how : Option Halt) (c : Control) (marks : ℕ) (st : Stage) (now : Cells) → holds now
    → stage_of how c (scene_of (mem_of heads now) marks) ≡ st
    → Does holds heads how c marks st
done holds heads how c marks st now h e = subst (Does holds heads how c marks) e (by how)
  where
    by : (how : Option Halt) → Does holds heads how c marks (stage_of how c (scene_of (mem_of heads now) marks))
    by None = (now, (h, refl))
    by (Some x) = (now, (h, refl))

-- a mark is due, or spent
pub unspent : (m : ℕ) (a : After) (c : Position) (mem : Mem) → m ≡ 0
    → Over (rest_at halts.Marked (free c) (scene_of mem m)) ≡ mark_stage m a (free c) (scene_of mem m)
unspent zero a c mem e = refl
unspent (suc m) a c mem e = let f : ⊥ = cc in absurd f

pub spent : (m : ℕ) (a : After) (c : Position) (mem : Mem) → 0 < m
    → after_stage a (free c) (scene_of mem (m - 1)) ≡ mark_stage m a (free c) (scene_of mem m)
spent zero a c mem lt = absurd (omega (arith, lt))
spent (suc m) a c mem lt = let e : suc m - 1 ≡ m = omega arith in ap (λ n. after_stage a (free c) (scene_of mem n)) e

-- a step that is the same whatever memory holds
pub plain_steps : (before after : Cells → Type 0) (heads : Heads) (to : Position → Mem → Stage) (c : Position) (c' : Control) (marks : ℕ) (next : Next)
    → (now : Cells → Cells) → ((cells : Cells) → stage_of (halt_of next) c' (scene_of (mem_of heads (now cells)) marks) ≡ to c (mem_of heads cells))
    → ((cells : Cells) → before cells → after (now cells)) → Steps before after heads heads to c c' marks next
plain_steps before after heads to c c' marks next now so kept = record {
  does = λ cells h. done after heads (halt_of next) c' marks (to c (mem_of heads cells)) (now cells) (kept cells h) (so cells);
  ops = c.ops;
  like = same_like c.ops;
  mem = mem_of heads (λ _. Free);
  leads = inl (mem_of heads (now (λ _. Free)), so (λ _. Free));
}

-- the same step, of what is said in another way of operands that are as many
pub steps_at : (before after : Cells → Type 0) (had has : Heads) (to to' : Position → Mem → Stage) (c : Position) (c' : Control) (marks : ℕ) (next : Next)
    → ((ops : List Operand) (mem : Mem) → length ops ≡ length c.ops → to (record c { ops = ops }) mem ≡ to' (record c { ops = ops }) mem)
    → Steps before after had has to c c' marks next → Steps before after had has to' c c' marks next
steps_at before after had has to to' c c' marks next same h = record {
  does = λ cells held. subst (Does after has (halt_of next) c' marks) (same c.ops (mem_of had cells) refl) (h.does cells held);
  ops = h.ops;
  like = h.like;
  mem = h.mem;
  leads = subst (Leads next c c' marks) (same h.ops h.mem (like_length c.ops h.ops h.like)) h.leads;
}

pub plain : (before after : Cells → Type 0) (heads : Heads) (i : Instr) (c : Position) (c' : Control) (next : Next) (to : Cells → Cells)
    → ((cells : Cells) → StepsSo i c (mem_of heads cells) c' (mem_of heads (to cells)) next) → ((cells : Cells) → before cells → after (to cells))
    → Accesses before after heads i c c' next
plain before after heads i c c' next to so kept p marks =
    plain_steps before after heads (stage_by p i marks) c c' marks next to (λ cells. so cells p marks) kept

-- what is forgotten are numbers
pub fewer_known : (from until : ℕ) (cells : Cells) → Within (without from until cells) cells
fewer_known from until cells a = by (is_between from until a) (cells a)
  where
    by : (b : Bool) (x : Cell) → (cond b (forgotten x) x ≡ x) ⊎ ((cond b (forgotten x) x ≡ Free) × (cell_blocks x ≡ 0))
    by true Free = inr (refl, refl)
    by true (Word n) = inr (refl, refl)
    by true (Letters t) = inl refl
    by false x = inl refl
