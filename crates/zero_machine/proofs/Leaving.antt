-- How a body is left.
use Rattle.std.proofs.Common.{◌≡◌, ℕ, ◌-◌, Bool, true, false, cond, List, ◌++◌, Some, refl, sym, ap, ◌∙◌, subst, inl}
use Rattle.std.specs.Prelude.{slice_get, Result, Ok, Err, OnOk}
use Rattle.eu_base.specs.Cells.{Cells, freed}
use Rattle.eu_base.specs.DataSpaces.{Heads}
use Rattle.code_form.specs.declared.operand.Operand.{Operand}
use Rattle.code_form.specs.declared.waits.Waits.{Waits}
use Rattle.code_form.specs.declared.waits.Waits.TheVariants.{Nothing}
use Rattle.code_form.specs.declared.instr.Instr.{Instr}
use Rattle.code_form.specs.Program.{Program}
use Rattle.code_form.specs.Machine.{Mem, Frame, Position, Control, free, Goes, Unknown, is_framed, back_into, instruction, stage}
use Rattle.zero_state.specs.declared.next.Next.TheVariants.{On as On'}
use Rattle.zero_state.specs.Stepping.{mem_of, scene_of, stage_by, halt_of, Does, Steps}
use Rattle.zero_state.proofs.Room.{same_like}
use Rattle.zero_machine.proofs.Freeing.{frame_uses, as_told, told_framed}

module _ (before after : Cells → Type 0) (heads : Heads) (p : Program) (i : Instr) (c : Position) (f : Frame) (fs : List Frame) (result : List Operand)
    (leads : (mem : Mem) → instruction p (Some i) c mem ≡ back_into p result c.used f fs mem) where
  abbrev next : Position
  next = record { pc = f.back; ops = result ++ f.ops; used = f.used; frames = fs }

  -- where it is known that the frame's cells are as the tables say
  abbrev framed : Cells → Bool
  framed cells = is_framed (slice_get p.bodies f.body) f.used c.used cells

  -- an instruction leaves this frame
  pub leaves_so : (c' : Control) → c' ≡ free next → ((cells : Cells) → before cells → framed cells ≡ true → after (freed f.used c.used cells))
      → (marks : ℕ) → Steps before after heads heads (stage_by p i marks) c c' marks On'
  leaves_so c' is kept marks =
      let known : Cells = as_told (frame_uses (slice_get p.bodies f.body)) f.used in
      subst (λ (d : Control). Steps before after heads heads (stage_by p i marks) c d marks On') (sym is)
      (record {
        does = λ cells h.
            subst (λ m. Does after heads (halt_of On') (free next) marks (stage m c (scene_of (mem_of heads cells) marks))) (sym (leads (mem_of heads cells))) (by cells h (framed cells) refl);
        ops = c.ops;
        like = same_like c.ops;
        mem = mem_of heads known;
        leads = inl (
          mem_of heads (freed f.used c.used known),
          sym (ap (λ m. stage m c (scene_of (mem_of heads known) marks)) (leads (mem_of heads known))
              ∙ ap (λ b. stage (cond b (Goes next (mem_of heads (freed f.used c.used known))) Unknown) c (scene_of (mem_of heads known) marks))
              (told_framed (frame_uses (slice_get p.bodies f.body)) f.used (c.used - f.used))),
        );
      })
    where
      by : (cells : Cells) → before cells → (b : Bool) → framed cells ≡ b → Does after heads (halt_of On') (free next) marks
          (stage (cond b (Goes next (mem_of heads (freed f.used c.used cells))) Unknown) c (scene_of (mem_of heads cells) marks))
      by cells h true e = (freed f.used c.used cells, (kept cells h e, refl))
      by cells h false e = tt

  -- the same of what may want memory
  pub leaves_made : {T E : Type 0} (freeing : Result T E) (c' : Control) (w : Waits) → w ≡ Nothing → OnOk freeing (c' ≡ record { position = next; waits = w })
      → OnOk freeing ((cells : Cells) → before cells → framed cells ≡ true → after (freed f.used c.used cells))
      → OnOk freeing ((marks : ℕ) → Steps before after heads heads (stage_by p i marks) c c' marks On')
  leaves_made (Ok x) c' w none is kept = leaves_so c' (is ∙ ap (λ (w : Waits). record { position = next; waits = w }) none) kept
  leaves_made (Err e) c' w none is kept = tt
