-- A request that sends a data space is made.
use Rattle.std.proofs.Common.{◌≡◌, ℕ, ◌-◌, ◌<◌, ◌≤◌, Bool, true, false, cond, List, [], ◌∷◌, map, length, take, Some, None, refl, sym, ap, ◌∙◌, subst, inl}
use Rattle.std.specs.Prelude.{reverse}
use Rattle.eu_base.specs.declared.address.Addr.{Addr}
use Rattle.eu_base.specs.declared.request.RequestName.{RequestName}
use Rattle.eu_base.specs.declared.request.RequestName.TheVariants as names
use Rattle.eu_base.specs.declared.request.Request.{Request}
use Rattle.eu_base.specs.declared.stop.Stop.TheVariants.{NoSpace}
use Rattle.eu_base.specs.declared.value.Kind.TheVariants as kinds
use Rattle.eu_base.specs.declared.value.Value.TheVariants as item
use Rattle.eu_base.specs.Values.{space_in}
use Rattle.eu_base.specs.Cells.{Cell, Free, Word, Letters, Cells}
use Rattle.eu_base.specs.DataSpaces.{Heads}
use Rattle.eu_base.specs.SpacePlaces.{lies_in}
use Rattle.eu_base.specs.Requests.{request_places, request_size, sends, request_of}
use Rattle.code_form.specs.declared.operand.Operand.{Operand}
use Rattle.code_form.specs.declared.operand.Operand.TheVariants.{Value as Of, Place as At, Aggregate}
use Rattle.code_form.specs.declared.instr.Instr.TheVariants.{Ask}
use Rattle.code_form.specs.Program.{Program}
use Rattle.code_form.specs.Machine.{Mem, Position, free, asking, Asks, Stops, Spends, On, mark_stage, stage, instruction, value_in, after_word, asks_with, asks_for}
use Rattle.zero_state.specs.Finds.{behind_values, AreVariables}
use Rattle.zero_state.specs.declared.next.Next.TheVariants.{On as On', Marked, NoSpace as Gone}
use Rattle.zero_state.specs.Stepping.{stage_by, mem_of, scene_of, Does, Steps}
use Rattle.zero_state.proofs.Making.{done, plain_steps, spent}
use Rattle.zero_state.proofs.Room.{same_like}
use Rattle.zero_state.proofs.Stacks.{taken_all}
use Rattle.zero_steps.specs.Asking.{IsFirst}
use Rattle.zero_steps.proofs.Accessing.{Keeps}
use Rattle.zero_steps.proofs.Asking.{due}

-- its first variable is there
pub first_there : (name : RequestName) → sends name ≡ true → (os : List Operand) → AreVariables (request_places name) os → IsFirst os
first_there names.Send e os is = by os is
  where
    by : (os : List Operand) → AreVariables (request_places names.Send) os → IsFirst os
    by [] is = absurd is
    by (Of v ∷ os) is = absurd is
    by (At a ∷ os) is = is.0
    by (Aggregate vs ∷ os) is = absurd is
first_there names.Call e os is = by os is
  where
    by : (os : List Operand) → AreVariables (request_places names.Call) os → IsFirst os
    by [] is = absurd is
    by (Of v ∷ os) is = absurd is
    by (At a ∷ os) is = is.0
    by (Aggregate vs ∷ os) is = absurd is
first_there _ e os is = absurd (cc e)

module _ (before after : Cells → Type 0) (heads : Heads) (kept : Keeps before after) (p : Program) (name : RequestName) (c : Position) (marks : ℕ)
    (le : request_size name ≤ length c.ops) (sending : sends name ≡ true) where
  -- a mark is due
  pub due_so : marks ≡ 0 → Steps before after heads heads (stage_by p (Ask name) marks) c (free c) marks Marked
  due_so none =
      plain_steps before after heads (stage_by p (Ask name) marks) c (free c) marks Marked (λ cells. cells)
      (λ cells. due (request_size name) c.ops (λ os ops. asks_for (sends name) name os c (mem_of heads cells)) c (mem_of heads cells) marks le none) kept

  module _ (a : Addr) (os : List Operand) (first : behind_values name c.ops ≡ At a ∷ os) (some : 0 < marks) where
    abbrev top : List Operand
    top = reverse (take (request_size name) c.ops)

    abbrev asked : ℕ → Request
    asked n = request_of name (item.Space (space_in n) ∷ map value_in top)

    asks : (mem : Mem) → instruction p (Some (Ask name)) c mem ≡ Spends (asks_with name (map value_in top) (At a ∷ os) c mem)
    asks mem =
        taken_all (request_size name) c.ops (λ os ops. Spends (asks_for (sends name) name os c mem)) le
        ∙ ap (λ b. Spends (asks_for b name top c mem)) sending ∙ ap (λ os. Spends (asks_with name (map value_in top) os c mem)) first

    -- with these variables, where the mark is spent
    after_mark : (b : Bool) (x : Cell) (mem : Mem) → lies_in (kinds.Space ∷ []) a.area a.cell mem.heads ≡ b → mem.cells a ≡ x
        → mark_stage marks (cond b (after_word x (λ n. Asks c (asked n) mem)) (Stops NoSpace)) (free c) (scene_of mem marks) ≡ stage_by p (Ask name) marks c mem
    after_mark b x mem is holds =
        ap (λ b. mark_stage marks (cond b (after_word x (λ n. Asks c (asked n) mem)) (Stops NoSpace)) (free c) (scene_of mem marks)) (sym is)
        ∙ ap (λ x. mark_stage marks (cond (lies_in (kinds.Space ∷ []) a.area a.cell mem.heads) (after_word x (λ n. Asks c (asked n) mem)) (Stops NoSpace)) (free c)
        (scene_of mem marks)) (sym holds)
        ∙ ap (λ m. stage m c (scene_of mem marks)) (sym (asks mem))

    -- the variable is not there
    pub gone_so : lies_in (kinds.Space ∷ []) a.area a.cell heads ≡ false
        → Steps before after heads heads (stage_by p (Ask name) marks) c (free c) (marks - 1) Gone
    gone_so gone =
        plain_steps before after heads (stage_by p (Ask name) marks) c (free c) (marks - 1) Gone (λ cells. cells)
        (λ cells. spent marks (Stops NoSpace) c (mem_of heads cells) some ∙ after_mark false (cells a) (mem_of heads cells) gone refl) kept

    -- the request is made with the data space that it holds
    pub asked_so : lies_in (kinds.Space ∷ []) a.area a.cell heads ≡ true → (n : ℕ) → ((cells : Cells) (m : ℕ) → before cells → cells a ≡ Word m → n ≡ m)
        → Steps before after heads heads (stage_by p (Ask name) marks) c (asking c (asked n)) (marks - 1) On'
    asked_so here n read = record {
      does = λ cells h. by cells h (cells a) refl;
      ops = c.ops;
      like = same_like c.ops;
      mem = mem_of heads (λ _. Word n);
      leads = inl (mem_of heads (λ _. Word n), made (mem_of heads (λ _. Word n)) n here refl);
    }
      where
        made : (mem : Mem) (n : ℕ) → lies_in (kinds.Space ∷ []) a.area a.cell mem.heads ≡ true → mem.cells a ≡ Word n
            → On (asking c (asked n)) (scene_of mem (marks - 1)) ≡ stage_by p (Ask name) marks c mem
        made mem n is holds = spent marks (Asks c (asked n) mem) c mem some ∙ after_mark true (Word n) mem is holds

        -- of a cell of which nothing is known, nothing is said
        lost : (x : Cell) (cells : Cells) → cells a ≡ x → after_word x (λ n. Asks c (asked n) (mem_of heads cells)) ≡ after_word Free (λ n. Asks c (asked n) (mem_of heads cells))
            → Does after heads None (asking c (asked n)) (marks - 1) (stage_by p (Ask name) marks c (mem_of heads cells))
        lost x cells holds none =
            let mem = mem_of heads cells in
            subst (Does after heads None (asking c (asked n)) (marks - 1))
            (spent marks (after_word Free (λ n. Asks c (asked n) mem)) c mem some
            ∙ ap (λ u. mark_stage marks u (free c) (scene_of mem marks)) (sym none) ∙ after_mark true x mem here holds) tt

        by : (cells : Cells) → before cells → (x : Cell) → cells a ≡ x
            → Does after heads None (asking c (asked n)) (marks - 1) (stage_by p (Ask name) marks c (mem_of heads cells))
        by cells h Free e = lost Free cells e refl
        by cells h (Letters t) e = lost (Letters t) cells e refl
        by cells h (Word m) e =
            done after heads None (asking c (asked n)) (marks - 1) _ cells (kept cells h)
            (ap (λ m. On (asking c (asked m)) (scene_of (mem_of heads cells) (marks - 1))) (read cells m h e) ∙ made (mem_of heads cells) m here e)
