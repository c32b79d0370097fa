-- Commands that a run stands for: what a request of one costs.
use Rattle.std.proofs.Common.{◌≡◌, ℕ, ◌+◌, ◌≤◌, [], refl, subst, arith}
use Rattle.eu_base.specs.declared.request.Request.{Request}
use Rattle.system.specs.Below.code_form.specs.declared.halt.Halt.TheVariants as halts
use Rattle.system.specs.Below.code_form.specs.declared.waits.Waits.{Waits}
use Rattle.system.specs.Below.code_form.specs.declared.waits.Waits.TheVariants.{Nothing, Asked, Given, Refused}
use Rattle.system.specs.Below.code_form.specs.Program.{Program}
use Rattle.system.specs.Below.code_form.specs.Machine.{Control, Mem, Rest}
use Rattle.system.specs.Below.code_form.specs.Runs.{Rests}
use Rattle.system.specs.Below.place_gen.specs.Correct.{RestsAs, Shows}
use Rattle.elan_types.specs.Eval.{World}
use Rattle.elan_types.specs.Command.{Ending, Asks}
use Rattle.system.specs.Below.system_meaning.specs.Tasks.{Command, ending}
use Rattle.system.specs.Below.task_job.specs.Runs.{Reaches}
use Rattle.system.specs.Below.task_job.proofs.Reaching.{next, shows}
use Rattle.system.proofs.Paying.{owed, RestsAsking, asks_pay}

-- a run stands where the command stands, and owes at most so much
pub record IsRun (owes : ℕ) (c : Command) : Type 0 where
  pub code : Program
  pub run : Control
  pub now : Mem
  pub reaches : Reaches c.unit.core c.before.variables c.before.spaces c.marks c.replies code run now
  pub few : owed run.waits ≤ owes

owed_once : (w : Waits) → owed w ≤ 1
owed_once Nothing = omega arith
owed_once (Asked q) = omega arith
owed_once (Given r) = omega arith
owed_once (Refused stop) = omega arith

-- any run owes a mark at most
pub owes_once : (c : Command) (code : Program) (run : Control) (now : Mem)
    → Reaches c.unit.core c.before.variables c.before.spaces c.marks c.replies code run now → IsRun 1 c
owes_once c code run now reaches = record { code = code; run = run; now = now; reaches = reaches; few = owed_once run.waits }

module _ (c : Command) (left owes : ℕ) (h : IsRun owes c) (q : Request) (w : World) (e : ending c left ≡ Asks q w) where
  -- how it rests
  rest : (r : Rest) × Rests h.code h.run (record { mem = h.now; marks = left; replies = [] }) r
  rest = next c.unit.core c.before.variables c.before.spaces c.marks c.replies h.code h.run h.now h.reaches left

  so : RestsAs h.code (halts.Asks q) w rest.0
  so =
      subst (λ (e : Ending). Shows h.code e rest.0) e
      (shows c.unit.core c.before.variables c.before.spaces c.marks c.replies h.code h.run h.now h.reaches left rest.0 rest.1)

  pays : RestsAsking q (left + owed h.run.waits) rest.0
  pays = asks_pay h.code rest.1.0 h.run (record { mem = h.now; marks = left; replies = [] }) rest.0 q refl rest.1.1 so.how

  -- the request has cost a mark, unless it was made before
  pub costs : w.marks + 1 ≤ left + owes
  costs = omega (arith, pays.paid, so.marks, h.few)
