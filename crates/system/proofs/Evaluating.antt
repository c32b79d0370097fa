-- One evaluation in a slice, by how the task went on.
use Rattle.std.proofs.Common.{◌≡◌, ℕ, ◌+◌, Bool, true, false, List, length, Option, Some, None, refl, sym, ap, ◌∙◌, subst}
use Rattle.std.specs.Prelude.{◌&&◌}
use Rattle.task_numbers.specs.declared.number.TaskNo.{TaskNo}
use Rattle.eu_base.specs.declared.request.Request.{Request}
use Rattle.eu_base.specs.declared.stop.Stop.TheVariants.{CellRoom}
use Rattle.eu_base.specs.Room.{cells_fit}
use Rattle.system.specs.Below.elan_scope.specs.declared.env.Env.{Env}
use Rattle.elan_types.specs.Eval.{World}
use Rattle.elan_types.specs.Eval as outcomes
use Rattle.elan_types.specs.Typing.{all_packet_kinds}
use Rattle.elan_types.specs.Command.{Ending, Ended, Stopped, OutOfMarks, Asks, start_kinds, at_start, start_fits, run_from}
use Rattle.elan_types.specs.Command.{ending as command_ending}
use Rattle.system.specs.Below.system_meaning.specs.Tasks.{Command, Running, ending, spent}
use Rattle.system.specs.Below.system_meaning.specs.Systems.{Moment, command, does, given, on_system, back}
use Rattle.system.specs.Below.system_meaning.specs.Serving.{Served, Replies, Rests, serve}
use Rattle.system.specs.Below.system_meaning.specs.Monitor.{Reading, over}
use Rattle.system.specs.Below.system_meaning.specs.Turns.{served, went, went_on}
use Rattle.system.specs.Below.live_system.specs.declared.runs.Finished.{Finished}
use Rattle.system.specs.Below.live_system.specs.declared.runs.Went.TheVariants as hows
use Rattle.system.specs.Below.live_system.specs.Steps.{WentAs, WentOn}
use Rattle.system.specs.Below.live_system.specs.Finishing.{HasRoom}
use Rattle.system.specs.Below.live_system.specs.Machines.{Machine, StandsAt, StandsOverAt}
use Rattle.task_requests.specs.Served.{IsAsking, GoesAs}
use Rattle.system.specs.Keeping.{KeptBy, KeepsTurn}
use Rattle.system.specs.Leading.{Leads, TurnGoes}

-- ---- how a request was served

-- the task goes on where it is answered
pub served_so : (new : Machine) (t : TaskNo) (x : Served) (goes : Bool) (more : Moment → Moment) → GoesAs t x new goes → KeptBy t x
    → Leads goes (TurnGoes t goes) new more (served x more t)
served_so new t (Replies a m) goes more h kept =
    let there = on_system (given t a) m in
    subst (λ b. Leads b (TurnGoes t b) new more (more there)) (sym h.0)
    (record { moment = there; stands = h.1; known = kept; rest = refl })
served_so new t (Rests m) goes more h kept =
    subst (λ b. Leads b (TurnGoes t b) new more m) (sym h.0) (record { moment = m; stands = h.1; known = kept; rest = refl })

-- ---- room

second_true : (a b : Bool) → (a && b) ≡ true → b ≡ true
second_true true b e = e
second_true false b e = absurd (cc e)

-- a command ends only where the variables of all packets have room
ended_room : (c : Command) (left : ℕ) (w : World) → ending c left ≡ Ended w → HasRoom None c
ended_room c left w is = by (start_fits c.unit.core) refl
  where
    by : (b : Bool) → start_fits c.unit.core ≡ b → HasRoom None c
    by true fits = second_true (cells_fit (length (start_kinds c.unit.core))) (cells_fit (length (all_packet_kinds c.unit.core))) fits
    by false full =
        let first = at_start c.unit.core c.before.variables c.before.spaces (c.marks + left) c.replies in
        let stops : Stopped CellRoom first ≡ Ended w =
        sym (ap (λ b. command_ending (outcomes.branch b (run_from c.unit.core.start c.unit.core (c.marks + left)) (outcomes.Stopped CellRoom) first)) full) ∙ is in
        absurd (cc stops)

-- ---- how a task went on

module _ (read : Env → Bool → List ℕ → Reading) (t : TaskNo) (left left' : ℕ) (m : Moment) (middle new : Machine) (more : ℕ → Moment → Moment)
    (keeps : KeepsTurn t m) where
  abbrev pub LeadsOn : Bool → Moment → Type 0
  LeadsOn goes last = Leads goes (TurnGoes t goes) new (more left') last

  -- it runs no command
  pub not_running : (o : Option Command) → WentOn o new t left left' hows.NotRunning m → LeadsOn false (went_on read o left more t m)
  not_running None h = record {
    moment = m;
    stands = h.1;
    known = tt;
    rest = refl;
  }
  not_running (Some c) h = by (ending c left) h
    where
      by : (e : Ending) → WentAs e new t left left' hows.NotRunning c m → LeadsOn false (went read e left more t c m)
      by (Ended w) h = absurd h
      by (Stopped stop w) h = absurd h
      by (OutOfMarks w) h = absurd (cc h.0)
      by (Asks q w) h = absurd (cc h.0)

  -- its turn is over
  pub marked : (o : Option Command) → WentOn o middle t left left' hows.Marked m
      → ((m : Moment) → StandsAt middle m → StandsAt new (on_system (back t) m)) → LeadsOn false (went_on read o left more t m)
  marked None h f = absurd (cc h.0)
  marked (Some c) h f = by (ending c left) h
    where
      by : (e : Ending) → WentAs e middle t left left' hows.Marked c m → LeadsOn false (went read e left more t c m)
      by (Ended w) h = absurd h
      by (Stopped stop w) h = absurd h
      by (OutOfMarks w) h =
          let there = on_system (does t (Running (spent left w c))) m in
          record { moment = on_system (back t) there; stands = f there h.1; known = tt; rest = refl }
      by (Asks q w) h = absurd (cc h.0)

  -- its command is over
  pub is_over : (finished : Finished) (o : Option Command) → WentOn o middle t left left' (hows.Over finished) m
      → ((c : Command) (w : World) → finished.unit ≡ c.unit → StandsOverAt middle t c w m → HasRoom finished.stop c
      → StandsAt new (over read t c finished.stop w m))
      → LeadsOn false (went_on read o left more t m)
  is_over finished None h f = absurd (cc h.0)
  is_over finished (Some c) h f = by (ending c left) refl h
    where
      by : (e : Ending) → ending c left ≡ e → WentAs e middle t left left' (hows.Over finished) c m → LeadsOn false (went read e left more t c m)
      by (Ended w) is h = record {
        moment = over read t c None w m;
        stands =
            subst (λ stop. StandsAt new (over read t c stop w m)) h.1
            (f c w h.0 h.2 (subst (λ stop. HasRoom stop c) (sym h.1) (ended_room c left w is)));
        known = tt;
        rest = refl;
      }
      by (Stopped stop w) is h = record {
        moment = over read t c (Some stop) w m;
        stands =
            subst (λ stop. StandsAt new (over read t c stop w m)) h.1 (f c w h.0 h.2 (subst (λ stop. HasRoom stop c) (sym h.1) tt));
        known = tt;
        rest = refl;
      }
      by (OutOfMarks w) is h = absurd (cc h.0)
      by (Asks q w) is h = absurd (cc h.0)

  -- it makes a request, which is served
  pub asks : (goes : Bool) (q : Request) (o : Option Command) → command t m.system ≡ o → WentOn o middle t left left' (hows.Asks q) m
      → ((m : Moment) → IsAsking t q m.system → StandsAt middle m → GoesAs t (serve t q m) new goes) → LeadsOn goes (went_on read o left more t m)
  asks goes q None is h f = absurd (cc h.0)
  asks goes q (Some c) is h f = by (ending c left) refl h
    where
      by : (e : Ending) → ending c left ≡ e → WentAs e middle t left left' (hows.Asks q) c m → LeadsOn goes (went read e left more t c m)
      by (Ended w) e h = absurd h
      by (Stopped stop w) e h = absurd h
      by (OutOfMarks w) e h = absurd (cc h.0)
      by (Asks r w) e h =
          let there = on_system (does t (Running (spent left w c))) m in
          let same : q ≡ r = cc h.0 in
          let rightly = keeps c left r w is e in
          let asking = subst (λ (p : Request). IsAsking t p there.system) (sym same) rightly.asks in
          let goes_on = subst (λ (p : Request). GoesAs t (serve t p there) new goes) same (f there asking h.2) in
          subst (λ k. Leads goes (TurnGoes t goes) new (more left') (served (serve t r there) (more k) t)) h.1
          (served_so new t (serve t r there) goes (more left') goes_on rightly.kept)
