-- A task has its turn: what its steps keep the turn keeps, and its evaluations are enough.
use Rattle.std.proofs.Common.{◌≡◌, ℕ, zero, suc, ◌+◌, ◌≤◌, Bool, List, Option, Some, None, refl, sym, subst, arith}
use Rattle.turn_laws.specs.Below.task_numbers.specs.declared.number.TaskNo.{TaskNo}
use Rattle.eu_base.specs.declared.stop.Stop.{Stop}
use Rattle.eu_base.specs.declared.request.Request.{Request}
use Rattle.eu_base.specs.declared.request.Request.TheVariants as requests
use Rattle.turn_laws.specs.Below.elan_scope.specs.declared.env.Env.{Env}
use Rattle.elan_types.specs.Eval.{World}
use Rattle.elan_types.specs.Command.{Ending, Ended, Stopped, OutOfMarks, Asks}
use Rattle.system_meaning.specs.Stores.{Store}
use Rattle.system_meaning.specs.Tasks.{Command, Idle, Running, store_in, ending, spent}
use Rattle.system_meaning.specs.Systems.{System, Moment, command, does, given, on_system, back}
use Rattle.system_meaning.specs.Serving.{Served, Replies, Rests, serve}
use Rattle.system_meaning.specs.Monitor as monitor
use Rattle.system_meaning.specs.Monitor.{Reading}
use Rattle.system_meaning.specs.Turns.{served, went, went_on, slice}
use Rattle.turn_laws.proofs.Beside.{runs_it}
use Rattle.turn_laws.proofs.Single.{changed_doing}
use Rattle.turn_laws.proofs.Walk.{Steps, ends_as}

-- behind a request
abbrev pub ServedSo : TaskNo → (S R : System → Type 0) → Served → Type 0
ServedSo u S R (Replies a n) = S (given u a n.system)
ServedSo u S R (Rests n) = R n.system

-- a request costs a mark, unless it is that for an answer, for which the task waits
pub data Costs (q : Request) (w : World) (left : ℕ) : Type 0 where
  a_mark : w.marks + 1 ≤ left → Costs q w left
  an_answer : (of : ℕ) → q ≡ requests.Answer of → Costs q w left

-- S is kept between evaluations, and R behind the turn
pub record Goes (u : TaskNo) (S R : System → Type 0) (P : Command → System → Type 0) : Type 0 where
  pub leaves : (c : Command) (store : Store) (s : System) → command u s ≡ Some c → S s → R (does u (Idle store) s) × P c (does u (Idle store) s)
  pub marks : (c : Command) (left : ℕ) (w : World) (s : System) → command u s ≡ Some c → ending c left ≡ OutOfMarks w → S s
      → R (back u (does u (Running (spent left w c)) s))
  pub costs : (c : Command) (left : ℕ) (q : Request) (w : World) (s : System) → command u s ≡ Some c → ending c left ≡ Asks q w → S s → Costs q w left
  pub serves : (c : Command) (left : ℕ) (q : Request) (w : World) (m : Moment) → command u m.system ≡ Some c → ending c left ≡ Asks q w → S m.system
      → ServedSo u S R (serve u q (on_system (does u (Running (spent left w c))) m))
  pub stops : (s : System) → command u s ≡ None → S s → R s

module _ (read : Env → Bool → List ℕ → Reading) (u : TaskNo) (S R : System → Type 0) (P : Command → System → Type 0) (Fit : List ℕ → Type 0)
    (k : Steps read u R P Fit) (g : Goes u S R P) where
  pub ends : (c : Command) (stop : Option Stop) (w : World) (m : Moment) → command u m.system ≡ Some c → S m.system → R (monitor.over read u c stop w m).system
  ends c stop w m at h =
      let left = g.leaves c (store_in w) m.system at h in
      ends_as read u R P Fit k c.unit.shown stop c (store_in w) (on_system (does u (Idle (store_in w))) m) refl left.1
      (changed_doing u (Idle (store_in w)) (Running c) m.system (runs_it u m.system c at)) left.0

  abbrev Slices : ℕ → Type 0
  Slices n = (left : ℕ) (m : Moment) → left + 2 ≤ n → S m.system → R (slice read n u left m).system

  goes_on : (n left : ℕ) → left + 2 ≤ n → Slices n → (a : Served) → ServedSo u S R a → R (served a (slice read n u left) u).system
  goes_on n left enough on (Replies a m) h = on left (on_system (given u a) m) enough h
  goes_on n left enough on (Rests m) h = h

  rests_so : (n left : ℕ) → (q : Request) (of : ℕ) → q ≡ requests.Answer of → (m : Moment) → ServedSo u S R (serve u q m)
      → R (served (serve u q m) (slice read n u left) u).system
  rests_so n left q of is m h =
      subst (λ (r : Request). ServedSo u S R (serve u r m) → R (served (serve u r m) (slice read n u left) u).system) (sym is) (λ x. x) h

  asks_so : (n left : ℕ) → left + 2 ≤ suc n → Slices n → (c : Command) (q : Request) (w : World) (m : Moment) → command u m.system ≡ Some c
      → ending c left ≡ Asks q w → S m.system → Costs q w left
      → R (served (serve u q (on_system (does u (Running (spent left w c))) m)) (slice read n u w.marks) u).system
  asks_so n left enough on c q w m at is h (a_mark costs) =
      goes_on n w.marks (omega (arith, enough, costs)) on (serve u q (on_system (does u (Running (spent left w c))) m)) (g.serves c left q w m at is h)
  asks_so n left enough on c q w m at is h (an_answer of e) =
      rests_so n w.marks q of e (on_system (does u (Running (spent left w c))) m) (g.serves c left q w m at is h)

  went_so : (n left : ℕ) → left + 2 ≤ suc n → Slices n → (c : Command) (e : Ending) (m : Moment) → command u m.system ≡ Some c → ending c left ≡ e
      → S m.system → R (went read e left (slice read n u) u c m).system
  went_so n left enough on c (Ended w) m at is h = ends c None w m at h
  went_so n left enough on c (Stopped stop w) m at is h = ends c (Some stop) w m at h
  went_so n left enough on c (OutOfMarks w) m at is h = g.marks c left w m.system at is h
  went_so n left enough on c (Asks q w) m at is h = asks_so n left enough on c q w m at is h (g.costs c left q w m.system at is h)

  pub slices : (n : ℕ) → Slices n
  slices zero left m enough h = absurd (omega (arith, enough))
  slices (suc n) left m enough h = by (command u m.system) refl (λ l x e y. slices n l x e y)
    where
      by : (o : Option Command) → command u m.system ≡ o → Slices n → R (went_on read o left (slice read n u) u m).system
      by None at on = g.stops m.system at h
      by (Some c) at on = went_so n left enough on c (ending c left) m at refl h
