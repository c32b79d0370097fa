-- Steps of the machine that look at data spaces.
use Rattle.std.proofs.Common.{◌≡◌, ℕ, ◌+◌, true, false, [], ◌∷◌, None, ap, ◌∙◌, subst, inl}
use Rattle.eu_base.specs.declared.address.Addr.{Addr}
use Rattle.eu_base.specs.declared.value.Kind.TheVariants as kinds
use Rattle.eu_base.specs.declared.stop.Stop.TheVariants.{OperandRoom as NoRoom}
use Rattle.eu_base.specs.Values.{space_in}
use Rattle.eu_base.specs.Room.{place_bytes, bytes_fit}
use Rattle.eu_base.specs.Cells.{Word, Cells}
use Rattle.eu_base.specs.DataSpaces.{Heads}
use Rattle.eu_base.specs.SpacePlaces.{lies_in}
use Rattle.code_form.specs.declared.operand.Operand.TheVariants.{Place as At}
use Rattle.code_form.specs.declared.instr.Instr.TheVariants.{Content}
use Rattle.code_form.specs.Machine.{Position, Control, Halts, free, bytes_on, bytes_of, goes, pushes, content_at, stage}
use Rattle.zero_state.specs.Stacked.{Stacked}
use Rattle.zero_state.specs.declared.next.Next.TheVariants.{On as On', NoSpace}
use Rattle.zero_state.specs.Stepping.{stage_of, mem_of, scene_of, Does, Accesses}
use Rattle.zero_state.proofs.Room.{same_like}
use Rattle.zero_state.proofs.Making.{done, plain}
use Rattle.zero_steps.proofs.Accessing.{Answers, Keeps, on_known, standing, with_ops, if_true, there_is, gone_is}

-- the content of a data space takes the place of its variable
module _ (before after : Cells → Type 0) (heads : Heads) (a : Addr) (pc used : ℕ) (t : Stacked) where
  abbrev looking : Position
  looking = standing pc used (with_ops t (At a ∷ t.ops))

  pub content_gone : lies_in (kinds.Space ∷ []) a.area a.cell heads ≡ false → Keeps before after
      → Accesses before after heads Content looking (free looking) NoSpace
  content_gone gone kept =
      plain before after heads Content looking (free looking) NoSpace (λ cells. cells)
      (λ cells p marks. ap (λ m. stage m looking (scene_of (mem_of heads cells) marks)) (gone_is (kinds.Space ∷ []) a heads cells _ gone)) kept

  module _ (n : ℕ) (place : Addr) (here : lies_in (kinds.Space ∷ []) a.area a.cell heads ≡ true) (is : place ≡ content_at (space_in n)) where
    abbrev found : Control
    found = free (standing (pc + 1) used (with_ops t (At place ∷ t.ops)))

    pushes_it : (marks : ℕ) → bytes_fit (place_bytes + bytes_on t.ops (bytes_of t.frames)) ≡ true → (cells : Cells)
        → stage_of None found (scene_of (mem_of heads cells) marks)
        ≡ stage (pushes looking (At (content_at (space_in n))) t.ops (mem_of heads cells)) looking (scene_of (mem_of heads cells) marks)
    pushes_it marks fits cells =
        ap (λ m. stage m looking (scene_of (mem_of heads cells) marks)) (if_true _ (goes looking (At place ∷ t.ops) (mem_of heads cells)) (Halts NoRoom) fits)
        ∙ ap (λ q. stage (pushes looking (At q) t.ops (mem_of heads cells)) looking (scene_of (mem_of heads cells) marks)) is

    pub content_so : Answers before a n → Keeps before after → bytes_fit (place_bytes + bytes_on t.ops (bytes_of t.frames)) ≡ true
        → Accesses before after heads Content looking found On'
    content_so answers kept fits p marks = record {
      does = λ cells h.
          subst (λ m. Does after heads None found marks (stage m looking (scene_of (mem_of heads cells) marks)))
          (there_is (kinds.Space ∷ []) a heads cells _ here)
          (on_known before after heads None found marks looking (scene_of (mem_of heads cells) marks) (cells a) _ n (λ m e. answers cells m h e)
          (λ bare. done after heads None found marks _ cells (kept cells h) (pushes_it marks fits cells)));
      ops = At a ∷ t.ops;
      like = same_like (At a ∷ t.ops);
      mem = mem_of heads (λ _. Word n);
      leads = inl (
        mem_of heads (λ _. Word n),
        pushes_it marks fits (λ _. Word n)
            ∙ ap (λ m. stage m looking (scene_of (mem_of heads (λ _. Word n)) marks)) (there_is (kinds.Space ∷ []) a heads (λ _. Word n) _ here),
      );
    }
