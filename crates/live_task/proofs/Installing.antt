-- A task whose command is over is idle again.
use Rattle.std.proofs.Common.{◌≡◌, ℕ, List, [], ◌∷◌, ◌++◌, length, true, sym, ap, ◌∙◌, subst, append-nil}
use Rattle.eu_base.specs.declared.value.Kind.{Kind}
use Rattle.eu_base.specs.Room.{cells_fit}
use Rattle.page_pool.specs.Pool.{Pages}
use Rattle.elan_types.specs.Eval.{World}
use Rattle.live_task.specs.Below.system_meaning.specs.Tasks.{Command, Idle, Own, store_in, with_doing}
use Rattle.live_task.specs.Below.system_meaning.specs.Monitor.{with_packet}
use Rattle.task_job.specs.Standing.{Keeps}
use Rattle.live_task.specs.Stands.{StandsFor, StandsOver}
use Rattle.live_task.specs.declared.task.Task.{Task}
use Rattle.task_job.proofs.Keeping.{inserted_keeps}

module _ (kinds : List Kind) (pages : Pages) (task : Task) (own : Own) (c : Command) (w : World) (h : StandsOver kinds pages task own c w) where
  kept : cells_fit (length (kinds ++ c.unit.core.inserted)) ≡ true → Keeps (kinds ++ c.unit.core.inserted) pages task.memory (store_in w)
  kept fits = inserted_keeps kinds c.unit.core.inserted pages task.memory (store_in w) h.leaves fits

  -- a program is over: it inserts nothing
  pub program_over : c.unit.core.inserted ≡ [] → StandsFor kinds pages task (with_doing (Idle (store_in w)) own)
  program_over none =
      let same : kinds ++ c.unit.core.inserted ≡ kinds = ap (λ ks. kinds ++ ks) none ∙ append-nil kinds in
      let fits : cells_fit (length (kinds ++ c.unit.core.inserted)) ≡ true = ap (λ (ks : List Kind). cells_fit (length ks)) same ∙ h.leaves.left.fits in
      record { packets = h.packets; does = (h.idle, subst (λ ks. Keeps ks pages task.memory (store_in w)) same (kept fits)) }

  -- a packet that was inserted is one of the task's
  pub installs : cells_fit (length (kinds ++ c.unit.core.inserted)) ≡ true → (n : ℕ) (now : Task) → now ≡ record task { packets = task.packets ++ n ∷ [] }
      → StandsFor (kinds ++ c.unit.core.inserted) pages now (with_packet n (with_doing (Idle (store_in w)) own))
  installs fits n now is =
      subst (λ (t : Task). StandsFor (kinds ++ c.unit.core.inserted) pages t (with_packet n (with_doing (Idle (store_in w)) own))) (sym is)
      (record { packets = ap (λ (ns : List ℕ). ns ++ n ∷ []) h.packets; does = (h.idle, kept fits) })
