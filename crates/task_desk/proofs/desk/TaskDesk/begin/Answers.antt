use Rattle.std.proofs.Common.{◌≡◌, ℕ, List, Result, Ok, Err, OnOk, OnErr, sym, subst}
use Rattle.task_numbers.specs.declared.number.TaskNo.{TaskNo}
use Rattle.message_wait.specs.Rendezvous.{Waits}
use Rattle.task_tree.specs.Tree.{Tree, begun}
use Rattle.task_desk.specs.Desks.{AllLive, AreWaiters}
use Rattle.task_desk.proofs.Living.{live_begun}
use Rattle.task_desk.proofs.Waiting.{wait_on}
use Rattle.task_desk.proofs.desk.TaskDesk.begin.Goals as goal

either : {A E : Type 0} (r : Result A E) (name : List ℕ) (father : TaskNo) (before after : Tree) (ready : List TaskNo) (waits : Waits)
    → OnOk r (after ≡ begun name father before) → OnErr r (after ≡ before) → AllLive before ready × AreWaiters before waits
    → AllLive after ready × AreWaiters after waits
either (Ok x) name father before after ready waits ok err h =
    subst (λ (tree : Tree). AllLive tree ready × AreWaiters tree waits) (sym ok)
    (λ k d low. live_begun name father before _ (h.0 k d low), wait_on before (begun name father before) waits (live_begun name father before) h.1)
either (Err e) name father before after ready waits ok err h = subst (λ (tree : Tree). AllLive tree ready × AreWaiters tree waits) (sym err) h

pub invariant_of-self : goal.invariant_of-self
invariant_of-self c =
    either c.begin.result c.args.name.now c.args.father c.self.inside.tree c.begin.new.self c.self.inside.ready c.self.inside.waits c.begin.ensures.begun
    c.begin.ensures.unchanged c.self.invariant
