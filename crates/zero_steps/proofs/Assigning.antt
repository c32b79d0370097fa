-- The assignment of a data space to a variable.
use Rattle.std.proofs.Common.{◌≡◌, ℕ, ◌+◌, ◌∷◌, None, sym, ap, ◌∙◌, subst, ◌⊎◌, inl, inr}
use Rattle.eu_base.specs.declared.address.Addr.{Addr}
use Rattle.eu_base.specs.declared.value.Value.{Value}
use Rattle.eu_base.specs.Cells.{Cells}
use Rattle.eu_base.specs.DataSpaces.{Heads}
use Rattle.code_form.specs.declared.operand.Operand.TheVariants.{Value as Of, Place as At}
use Rattle.code_form.specs.declared.waits.Waits.{Waits}
use Rattle.code_form.specs.declared.waits.Waits.TheVariants.{Nothing}
use Rattle.code_form.specs.declared.instr.Instr.{Instr}
use Rattle.code_form.specs.Machine.{Mem, Position, Halts, Unknown, free, goes, stage}
use Rattle.code_form.specs.Program.{Program}
use Rattle.zero_state.specs.Stacked.{Stacked}
use Rattle.zero_state.specs.declared.next.Next.{Next}
use Rattle.zero_state.specs.declared.next.Next.TheVariants.{On}
use Rattle.zero_state.specs.Stepping.{stage_of, halt_of, mem_of, scene_of, stage_by, Does, Steps, Acts}
use Rattle.zero_state.proofs.Room.{same_like}
use Rattle.zero_state.proofs.Making.{done}
use Rattle.space_calls.specs.Assigned.{Act, Assigned, Refused}
use Rattle.zero_steps.proofs.Accessing.{standing, with_ops}

-- of a state that has these operands
pub acted : (before after : Cells → Type 0) (had has : Heads) (i : Instr) (next : Next) (pc used pc' used' : ℕ) (s s' t t' : Stacked) (w : Waits)
    → w ≡ Nothing → s ≡ t → s' ≡ t' → Acts before after had has i (standing pc used t) (free (standing pc' used' t')) next
    → Acts before after had has i (standing pc used s) (record { position = standing pc' used' s'; waits = w }) next
acted before after had has i next pc used pc' used' s s' t t' w none e e' h =
    subst (λ (w : Waits). Acts before after had has i (standing pc used s) (record { position = standing pc' used' s'; waits = w }) next) (sym none)
    (subst (λ (s : Stacked). Acts before after had has i (standing pc used s) (free (standing pc' used' s')) next) (sym e)
    (subst (λ (s' : Stacked). Acts before after had has i (standing pc used t) (free (standing pc' used' s')) next) (sym e') h))

module _ (before after : Cells → Type 0) (had has : Heads) (i : Instr) (act : Act) (v : Value) (a : Addr) (pc used : ℕ) (t : Stacked) where
  abbrev here : Position
  here = standing pc used (with_ops t (Of v ∷ At a ∷ t.ops))

  abbrev DoesSo : Type 0
  DoesSo = (p : Program) (marks : ℕ) (m : Mem) → stage_by p i marks here m ≡ stage (act here t.ops m) here (scene_of m marks)

  pub assigns_so : DoesSo → Assigned before after had has act → Acts before after had has i here (free (standing (pc + 1) used t)) On
  assigns_so does out p marks = record {
    does = λ cells h. by cells (out.known here t.ops cells h);
    ops = Of v ∷ At a ∷ t.ops;
    like = same_like (Of v ∷ At a ∷ t.ops);
    mem = out.seen;
    leads = inl (out.now, ap (λ m. stage m here (scene_of out.seen marks)) (sym (out.is here t.ops)) ∙ sym (does p marks out.seen));
  }
    where
      by : (cells : Cells) → (act here t.ops (mem_of had cells) ≡ Unknown)
          ⊎ ((now : Cells) × (after now × (act here t.ops (mem_of had cells) ≡ goes here t.ops (mem_of has now))))
          → Does after has None (free (standing (pc + 1) used t)) marks (stage_by p i marks here (mem_of had cells))
      by cells (inl e) =
          subst (Does after has None (free (standing (pc + 1) used t)) marks)
          (sym (does p marks (mem_of had cells) ∙ ap (λ m. stage m here (scene_of (mem_of had cells) marks)) e)) tt
      by cells (inr x) =
          done after has None (free (standing (pc + 1) used t)) marks _ x.0 x.1.0
          (ap (λ m. stage m here (scene_of (mem_of had cells) marks)) (sym x.1.1) ∙ sym (does p marks (mem_of had cells)))

  pub refuses_so : DoesSo → (next : Next) → Refused before after had has act next → Acts before after had has i here (free here) next
  refuses_so does next out p marks =
      subst (λ (h : Heads). Steps before after had h (stage_by p i marks) here (free here) marks next) (sym out.heads)
      (record {
        does = λ cells h. by cells h (out.known here t.ops cells h);
        ops = Of v ∷ At a ∷ t.ops;
        like = same_like (Of v ∷ At a ∷ t.ops);
        mem = out.seen;
        leads = inl (
          out.seen,
          halted out.seen ∙ ap (λ m. stage m here (scene_of out.seen marks)) (sym (out.is here t.ops)) ∙ sym (does p marks out.seen),
        );
      })
    where
      halted : (m : Mem) → stage_of (halt_of next) (free here) (scene_of m marks) ≡ stage (Halts out.stop) here (scene_of m marks)
      halted m = ap (λ h. stage_of h (free here) (scene_of m marks)) out.stops

      by : (cells : Cells) → before cells → (act here t.ops (mem_of had cells) ≡ Unknown) ⊎ (act here t.ops (mem_of had cells) ≡ Halts out.stop)
          → Does after had (halt_of next) (free here) marks (stage_by p i marks here (mem_of had cells))
      by cells h (inl e) =
          subst (Does after had (halt_of next) (free here) marks)
          (sym (does p marks (mem_of had cells) ∙ ap (λ m. stage m here (scene_of (mem_of had cells) marks)) e)) tt
      by cells h (inr e) =
          done after had (halt_of next) (free here) marks _ cells (out.kept cells h)
          (halted (mem_of had cells) ∙ ap (λ m. stage m here (scene_of (mem_of had cells) marks)) (sym e) ∙ sym (does p marks (mem_of had cells)))
