-- A command stands so after a run, and after a reply.
use Rattle.std.proofs.Common.{◌≡◌, ◌⊎◌, ℕ, ◌+◌, ◌-◌, List, [], ◌∷◌, ◌++◌, sym, ap, subst}
use Rattle.eu_base.specs.declared.request.Request.{Request}
use Rattle.eu_base.specs.Requests.{Answer}
use Rattle.eu_base.specs.DataSpaces.{Heads}
use Rattle.code_form.specs.declared.halt.Halt.{Halt}
use Rattle.code_form.specs.declared.waits.Waits.TheVariants.{Asked}
use Rattle.code_form.specs.Program.{Program}
use Rattle.code_form.specs.Machine.{Mem, Control, Rest, rest_at, answered, after_reply}
use Rattle.code_form.specs.Runs.{IsPaused, Rests, Stands}
use Rattle.code_form.proofs.Spent.{stands_run, stands_reply}
use Rattle.task_run.specs.Below.zero_state.specs.Stepping.{mem_of, scene_of}

module _ (p : Program) (first : Control) (before : Mem) (spent : ℕ) (replies : List Answer) where
  pub stands_there : (heads : Heads) (c c' : Control) (mem : Mem) (left marks : ℕ) (how : Halt) (r : Rest) → r ≡ rest_at how c' (scene_of (mem_of heads r.scene.mem.cells) marks)
      → IsPaused how ⊎ (left ≡ 0) → Stands p first before spent replies c mem → Rests p c (scene_of mem left) r
      → Stands p first before (spent + (left - marks)) replies c' r.scene.mem
  stands_there heads c c' mem left marks how r is paused k rests =
      let calm = subst (λ h. IsPaused h ⊎ (left ≡ 0)) (sym (ap (λ (r : Rest). r.how) is)) paused in
      let on = stands_run p first before spent left replies c mem r calm k rests (ap (λ (r : Rest). r.scene.replies) is) in
      subst (λ n. Stands p first before (spent + (left - n)) replies c' r.scene.mem) (ap (λ (r : Rest). r.scene.marks) is)
      (subst (λ (d : Control). Stands p first before (spent + (left - r.scene.marks)) replies d r.scene.mem) (ap (λ (r : Rest). r.control) is) on)

module _ (p : Program) (first : Control) (was : Mem) (spent : ℕ) (replies : List Answer) (q : Request) (a : Answer) where
  pub stands_answered : (before after : Control) (now : Mem) → before.waits ≡ Asked q → after ≡ answered q a.reply before.position
      → Stands p first was spent replies before now → Stands p first was spent (replies ++ a ∷ []) after (after_reply q a now)
  stands_answered before after now asks is k =
      let k' = subst (λ w. Stands p first was spent replies (record { position = before.position; waits = w }) now) asks k in
      subst (λ (d : Control). Stands p first was spent (replies ++ a ∷ []) d (after_reply q a now)) (sym is)
      (stands_reply p first was spent replies before.position now q a k')
