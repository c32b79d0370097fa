-- One of several tasks went on, or was halted.
use Rattle.std.proofs.Common.{◌≡◌, ℕ, List, set, Option, Some, sym, ◌∙◌, subst}
use Rattle.std.specs.Prelude.{slice_get}
use Rattle.std.proofs.lemmas.Option.{same_Some, slice_get_within}
use Rattle.eu_base.specs.declared.value.Kind.{Kind}
use Rattle.page_pool.specs.Pool.{Pages}
use Rattle.live_tasks.specs.Below.task_job.specs.Here.{MemoryFrames}
use Rattle.elan_types.specs.Eval.{World}
use Rattle.elan_types.specs.Command.{Ending, Ended, Stopped, OutOfMarks, Asks}
use Rattle.live_tasks.specs.Below.system_meaning.specs.Tasks.{Command, Doing, Idle, Entering, Running, Own, ending, spent, with_doing}
use Rattle.live_tasks.specs.Below.live_task.specs.declared.task.Task.{Task}
use Rattle.live_tasks.specs.Below.live_task.specs.declared.task.Went.{Went}
use Rattle.live_tasks.specs.Below.live_task.specs.Stands.{StandsOver}
use Rattle.live_tasks.specs.Below.live_task.specs.Stands as one
use Rattle.live_tasks.specs.Tasks.{Live, IsFit, StandIn, StandOver, WentAs, WentOn, HaltedAs, task_roots}
use Rattle.live_tasks.proofs.Standing.{call_but, call_set, call_same}
use Rattle.live_tasks.proofs.Zips.{found_set}

-- the task at a place made a call, and is another then
module _ (old new : Pages) (tasks : List Task) (k : ℕ) (task : Task) (at : slice_get tasks k ≡ Some task) (fit : IsFit old tasks)
    (later : Task) (frames : MemoryFrames old new (task_roots task) (task_roots later))
    (kinds_of : List ℕ → List Kind) (owns : List Own) (h : StandIn kinds_of old tasks owns) (own : Own) (has : slice_get owns k ≡ Some own) where
  abbrev after : Live
  after = record { pages = new; tasks = set tasks k later }

  -- its command is over
  over : (c : Command) (w : World) → StandsOver (kinds_of own.packets) new later own c w → StandOver kinds_of after owns k c w
  over c w s = record {
    but = call_but old new tasks k task at fit later frames kinds_of owns h;
    over = λ task' own' is has'.
        let same : later ≡ task' = same_Some later task' (sym (found_set tasks k later (slice_get_within tasks k task at)) ∙ is) in
        let mine : own ≡ own' = same_Some own own' (sym has ∙ has') in
        subst (λ (t : Task). StandsOver (kinds_of own'.packets) new t own' c w) same
        (subst (λ (o : Own). StandsOver (kinds_of o.packets) new later o c w) mine s);
  }

  module _ (left left' : ℕ) (how : Went) where
    went_as : (c : Command) (e : Ending) → one.WentAs (kinds_of own.packets) new later left left' how own c e
        → WentAs kinds_of after owns k left left' how c e
    went_as c (Ended w) s = (s.0, over c w s.1)
    went_as c (Stopped stop w) s = (s.0, over c w s.1)
    went_as c (OutOfMarks w) s =
        (s.0, s.1, call_set old new tasks k task at fit later frames kinds_of owns h own has (with_doing (Running (spent left w c))) s.2)
    went_as c (Asks q w) s =
        (s.0, s.1, call_set old new tasks k task at fit later frames kinds_of owns h own has (with_doing (Running (spent left w c))) s.2)

    pub went_on : (d : Doing) → one.WentOn (kinds_of own.packets) new later left left' how own d → WentOn kinds_of after owns k left left' how d
    went_on (Idle store) s = (s.0, s.1, call_same old new tasks k task at fit later frames kinds_of owns h own has s.2)
    went_on (Entering name lines store) s = (s.0, s.1, call_same old new tasks k task at fit later frames kinds_of owns h own has s.2)
    went_on (Running c) s = went_as c (ending c left) s

  pub halted_as : (how : Went) (d : Doing) → one.HaltedAs (kinds_of own.packets) new later how own d → HaltedAs kinds_of after owns k how d
  halted_as how (Idle store) s = (s.0, call_same old new tasks k task at fit later frames kinds_of owns h own has s.1)
  halted_as how (Entering name lines store) s = (s.0, call_same old new tasks k task at fit later frames kinds_of owns h own has s.1)
  halted_as how (Running c) s = (s.0, over c _ s.1)
