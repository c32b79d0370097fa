-- A task that has its turn, from one evaluation to the next.
use Rattle.std.proofs.Common.{◌≡◌, ◌≤◌, List, [], ◌∷◌, sym, subst}
use Rattle.std.specs.List.{list_any}
use Rattle.std.proofs.lemmas.Bool.{or_left}
use Rattle.turn_laws.specs.Below.task_numbers.specs.declared.number.TaskNo.{TaskNo}
use Rattle.eu_base.specs.declared.request.Request.{Request}
use Rattle.system_meaning.specs.Tasks.{Running, spent}
use Rattle.system_meaning.specs.Systems.{System, Moment, does, given, on_ready, on_system}
use Rattle.system_meaning.specs.Serving.{Served, Replies, Rests, serve}
use Rattle.system_meaning.specs.Whole.{IsSystem, AreWaits}
use Rattle.turn_laws.specs.Steady.{AreSteady}
use Rattle.turn_laws.specs.Waits.{AreOrderly, HasTurn, Asking, GoesOn}
use Rattle.turn_laws.proofs.Finding.{living}
use Rattle.turn_laws.proofs.Trees.{numbered}
use Rattle.turn_laws.proofs.Requests.{AfterServed}
use Rattle.turn_laws.proofs.Beside.{IsAsked, Turning, begins, turning_in, has_turn, lives_running, now_sound, served_so, goes_on}

-- the turn begins
pub turn_begins : (u : TaskNo) (ready : List TaskNo) (s : System) → IsSystem s → AreOrderly s → s.shared.ready ≡ u ∷ ready
    → IsSystem (on_ready (λ _. ready) s) × HasTurn u (on_ready (λ _. ready) s)
turn_begins u ready s is order e =
    let h = begins u [] ready s is order e in (h.since.sound, has_turn u [] s (on_ready (λ _. ready) s) h)

module _ (steady : AreSteady) (u : TaskNo) (q : Request) (m now : Moment) (is : IsSystem m.system) (turn : HasTurn u m.system) (at : Asking u q m now) where
  low : u.0 ≤ m.system.shared.tree.last
  low =
      let found = living u m.system.shared.tree.tasks (lives_running u m.system at.command at.has) in
      (numbered m.system.shared.tree u found.0 is.tree found.1).given

  turning : Turning u (q ∷ []) m.system m.system
  turning = turning_in u (q ∷ []) m.system is turn

  -- those that wait do so rightly where it asks
  pub asks_rightly : IsSystem now.system × AreWaits now.system
  asks_rightly =
      subst (λ (k : Moment). IsSystem k.system × AreWaits k.system) (sym at.stands)
      (now_sound steady u (q ∷ []) m.system is.tree low at.command at.left q at.world m at.has at.asks turning)

  sent : IsAsked (q ∷ []) q
  sent = λ p e. or_left (p q) (list_any p []) e

  -- and behind the request
  pub serves_rightly : GoesOn u (serve u q now)
  serves_rightly =
      subst (λ (k : Moment). GoesOn u (serve u q k)) (sym at.stands)
      (by (serve u q (on_system (does u (Running (spent at.left at.world at.command))) m))
      (served_so steady u (q ∷ []) m.system is.tree low at.command at.left q at.world m at.has at.asks turning sent))
    where
      by : (a : Served)
          → AfterServed u (q ∷ []) m.system q (does u (Running (spent at.left at.world at.command)) m.system) a → GoesOn u a
      by (Replies a n) h =
          let on = goes_on steady u (q ∷ []) m.system is.tree low at.command at.left q at.world m at.has at.asks turning a n h.0 h.1 in
          (on.since.sound, has_turn u (q ∷ []) m.system (given u a n.system) on)
      by (Rests n) h = (h.sound, h.orderly)
