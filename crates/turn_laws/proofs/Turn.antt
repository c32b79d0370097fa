-- A turn leaves each task as it should stand.
use Rattle.std.proofs.Common.{◌≡◌, ℕ, ◌+◌, ◌-◌, ◌≤◌, [], ◌∷◌, Option, Some, None, refl, sym, ap, ◌∙◌, subst, ◌⊎◌, inl, inr, arith}
use Rattle.std.specs.Prelude.{option_map, option_and_then}
use Rattle.std.specs.List.{list_any}
use Rattle.std.proofs.lemmas.Bool.{or_left}
use Rattle.std.proofs.lemmas.Option.{none-some, same_Some}
use Rattle.turn_laws.specs.Below.task_numbers.specs.declared.number.TaskNo.{TaskNo}
use Rattle.eu_base.specs.declared.request.Request.{Request}
use Rattle.eu_base.specs.declared.request.Request.TheVariants as requests
use Rattle.eu_base.specs.Requests.{Answer, then_asked}
use Rattle.elan_types.specs.Eval.{World}
use Rattle.elan_types.specs.Command.{Ending, OutOfMarks, Asks, evaluate}
use Rattle.turn_laws.specs.Below.slicer.specs.Rotation as rotation
use Rattle.system_meaning.specs.Stores.{Store}
use Rattle.system_meaning.specs.Tasks.{Command, Doing, Idle, Running, Own, ending, spent, command_of, with_doing, with_reply, replied}
use Rattle.system_meaning.specs.Tasks as tasks
use Rattle.system_meaning.specs.Systems.{Shared, System, Moment, own, doing, command, does, given, back, on_system}
use Rattle.system_meaning.specs.Serving.{Served, Replies, Rests, serve}
use Rattle.system_meaning.specs.Whole.{IsSystem}
use Rattle.turn_laws.specs.Steady.{AreSteady}
use Rattle.turn_laws.specs.Own.{own_of}
use Rattle.turn_laws.specs.Waits.{HasTurn, AsksAnswer}
use Rattle.turn_laws.proofs.Finding.{living}
use Rattle.turn_laws.proofs.Trees.{numbered}
use Rattle.turn_laws.proofs.Steps.{own_changed}
use Rattle.turn_laws.proofs.Orders.{shared_changed, asks_spent, asks_more}
use Rattle.turn_laws.proofs.Since.{same_doing, nothing_own}
use Rattle.turn_laws.proofs.Gone.{Serving}
use Rattle.turn_laws.proofs.Requests.{AfterServed}
use Rattle.turn_laws.proofs.Beside.{IsAsked, Turning, turning_in, has_turn, lives_running, runs_it, served_so, goes_on}
use Rattle.turn_laws.specs.Standing.{Stands, AllStand}
use Rattle.turn_laws.proofs.Single.{IsQuiet, is_quiet, back_stands, stands_idle, changed_doing, quiet_given, OthersStand, all_but, others_changed, others_back}
use Rattle.turn_laws.proofs.Goes.{ServedSo, Costs, a_mark, an_answer}

-- a command that has its turn asks for nothing, or for the answer of a task
pub data MayGo (c : Command) : Type 0 where
  goes : IsQuiet (ending c 0) → MayGo c
  answers : (of : ℕ) (w : World) → ending c 0 ≡ Asks (requests.Answer of) w → MayGo c

-- between two evaluations of a task
pub record Between (u : TaskNo) (s : System) : Type 0 where
  pub sound : IsSystem s
  pub turn : HasTurn u s
  pub others : OthersStand u s
  pub may : (c : Command) → command u s ≡ Some c → MayGo c

-- what serving leaves of the others, and where the task rests, of all
abbrev pub OthersServed : TaskNo → Served → Type 0
OthersServed u (Replies a m) = OthersStand u m.system
OthersServed u (Rests m) = AllStand m.system

module _ (u : TaskNo) where
  idle_stands : (store : Store) (c : Command) (s : System) → command u s ≡ Some c → Between u s → Stands u (does u (Idle store) s)
  idle_stands store c s at h =
      stands_idle u (does u (Idle store) s)
      (λ x runs. let f : Some (Idle store) ≡ Some (Running x) = sym (changed_doing u (Idle store) (Running c) s (runs_it u s c at)) ∙ runs in absurd (cc f))
      (ap (λ (x : Shared). rotation.is_ready u x.ready) (shared_changed u (with_doing (Idle store)) s) ∙ h.turn.out)

  pub leaves_so : (c : Command) (store : Store) (s : System) → command u s ≡ Some c → Between u s → AllStand (does u (Idle store) s)
  leaves_so c store s at h =
      all_but u (does u (Idle store) s) (others_changed u (with_doing (Idle store)) s h.others) (idle_stands store c s at h)

  pub stops_so : (s : System) → command u s ≡ None → Between u s → AllStand s
  stops_so s at h =
      all_but u s h.others
      (stands_idle u s (λ c runs. absurd (none-some c (sym at ∙ ap (option_and_then command_of) runs))) h.turn.out)

module _ (steady : AreSteady) (u : TaskNo) where
  -- with the marks that were spent it asks for nothing where it was out of marks
  quiet_spent : (c : Command) (left : ℕ) (w : World) → ending c left ≡ OutOfMarks w → IsQuiet (ending (spent left w c) 0)
  quiet_spent c left w is = is_quiet (ending (spent left w c) 0) quiet
    where
      quiet : (q : Request) (v : World) → ending (spent left w c) 0 ≡ Asks q v → ⊥
      quiet q v e =
          let n = (c.marks + left) - w.marks + 0 in
          let more = (steady c.unit.core c.before.variables c.before.spaces).more n ((c.marks + left) - n) c.replies q v e in
          let all : n + ((c.marks + left) - n) ≡ c.marks + left = omega arith in
          let f : Asks q (record v { marks = v.marks + ((c.marks + left) - n) }) ≡ OutOfMarks w =
          sym more ∙ (ap (λ k. evaluate c.unit.core c.before.variables c.before.spaces k c.replies) all ∙ is) in
          absurd (cc f)

  pub marks_so : (c : Command) (left : ℕ) (w : World) (s : System) → command u s ≡ Some c → ending c left ≡ OutOfMarks w → Between u s
      → AllStand (back u (does u (Running (spent left w c)) s))
  marks_so c left w s at is h =
      all_but u (back u (does u (Running (spent left w c)) s))
      (others_back u (does u (Running (spent left w c)) s) (others_changed u (with_doing (Running (spent left w c))) s h.others))
      (back_stands u (does u (Running (spent left w c)) s) (record {
        command = spent left w c;
        runs = changed_doing u (Running (spent left w c)) (Running c) s (runs_it u s c at);
        quiet = quiet_spent c left w is;
      }))

  pub costs_so : (c : Command) (left : ℕ) (q : Request) (w : World) → ending c left ≡ Asks q w → MayGo c → Costs q w left
  costs_so c left q w is (goes quiet) =
      let same : c.marks + 0 + left ≡ c.marks + left = omega arith in
      a_mark ((steady c.unit.core c.before.variables c.before.spaces).late (c.marks + 0) left c.replies q w
      (λ r v e. subst IsQuiet e quiet)
      (ap (λ k. evaluate c.unit.core c.before.variables c.before.spaces k c.replies) same ∙ is))
  costs_so c left q w is (answers of v e) =
      let f : Asks q w ≡ Asks (requests.Answer of) (record v { marks = v.marks + left }) = sym is ∙ asks_more steady c left (requests.Answer of) v e in
      an_answer of (cc f)

  -- ---- a request

  module _ (c : Command) (left : ℕ) (q : Request) (w : World) (m : Moment) (at : command u m.system ≡ Some c) (is : ending c left ≡ Asks q w)
      (h : Between u m.system) where
    abbrev now : Moment
    now = on_system (does u (Running (spent left w c))) m

    low : u.0 ≤ m.system.shared.tree.last
    low =
        let found = living u m.system.shared.tree.tasks (lives_running u m.system c at) in
        (numbered m.system.shared.tree u found.0 h.sound.tree found.1).given

    turning : Turning u (q ∷ []) m.system m.system
    turning = turning_in u (q ∷ []) m.system h.sound h.turn

    sent : IsAsked (q ∷ []) q
    sent = λ p e. or_left (p q) (list_any p []) e

    runs_now : doing u (does u (Running (spent left w c)) m.system) ≡ Some (Running (spent left w c))
    runs_now = changed_doing u (Running (spent left w c)) (Running c) m.system (runs_it u m.system c at)

    asks_then : ending (spent left w c) 0 ≡ Asks q (record w { marks = 0 })
    asks_then = asks_spent steady c left q w is

    goes_then : (a : Answer) (n : Moment) → Serving u (q ∷ []) m.system (does u (Running (spent left w c)) m.system) n.system
        → ((r : Request) → then_asked q a.reply ≡ Some r → (x : Command) → command u (given u a n.system) ≡ Some x → AsksAnswer u x (given u a n.system))
        → (x : Command) → command u (given u a n.system) ≡ Some x → MayGo x
    goes_then a n serving follows x has = by (then_asked q a.reply) refl
      where
        none_then : own u n.system ≡ None → ⊥
        none_then none =
            none-some x
            (sym (ap (λ (p : Option Own). option_and_then command_of (option_map (λ (o : Own). o.doing) p))
            (own_changed u (λ (o : Own). with_doing (replied a o.doing) o) n.system
            ∙ ap (option_map (λ (o : Own). with_doing (replied a o.doing) o)) none)) ∙ has)

        same : (own_of u n.system ≡ own_of u (does u (Running (spent left w c)) m.system)) ⊎ (own_of u n.system ≡ None)
            → doing u n.system ≡ Some (Running (spent left w c))
        same (inl e) = same_doing u (does u (Running (spent left w c)) m.system) n.system e ∙ runs_now
        same (inr none) = absurd (none_then (nothing_own u n.system none))

        replies_so : (p : Option Own) → option_map (λ (o : Own). o.doing) p ≡ Some (Running (spent left w c))
            → option_map (λ (o : Own). o.doing) (option_map (λ (o : Own). with_doing (replied a o.doing) o) p) ≡ Some (Running (with_reply a (spent left w c)))
        replies_so None e = absurd (none-some _ e)
        replies_so (Some o) e =
            ap (λ (d : Doing). Some (replied a d)) (same_Some o.doing (Running (spent left w c)) e)
            ∙ ap (λ (e : Ending). Some (with_reply_in e)) asks_then
          where
            with_reply_in : Ending → Doing
            with_reply_in e = tasks.with_reply_to (tasks.request_in e) a (Running (spent left w c))

        then_runs : doing u (given u a n.system) ≡ Some (Running (with_reply a (spent left w c)))
        then_runs =
            ap (option_map (λ (o : Own). o.doing)) (own_changed u (λ (o : Own). with_doing (replied a o.doing) o) n.system)
            ∙ replies_so (own u n.system) (same serving.mine)

        x_is : with_reply a (spent left w c) ≡ x
        x_is = same_Some (with_reply a (spent left w c)) x (sym (ap (option_and_then command_of) then_runs) ∙ has)

        by : (o : Option Request) → then_asked q a.reply ≡ o → MayGo x
        by None none = subst MayGo x_is (goes (quiet_given steady (spent left w c) a q (record w { marks = 0 }) asks_then refl none))
        by (Some r) some = let answer = follows r some x has in answers answer.of answer.world answer.asks

    pub both : (a : Served) → AfterServed u (q ∷ []) m.system q (does u (Running (spent left w c)) m.system) a → OthersServed u a
        → ServedSo u (Between u) AllStand a
    both (Replies a n) after others =
        let on = goes_on steady u (q ∷ []) m.system h.sound.tree low c left q w m at is turning a n after.0 after.1 in record {
          sound = on.since.sound;
          turn = has_turn u (q ∷ []) m.system (given u a n.system) on;
          others = others_changed u (λ (o : Own). with_doing (replied a o.doing) o) n.system others;
          may = goes_then a n after.0 after.1;
        }
    both (Rests n) after others = others

    pub after : AfterServed u (q ∷ []) m.system q (does u (Running (spent left w c)) m.system) (serve u q now)
    after = served_so steady u (q ∷ []) m.system h.sound.tree low c left q w m at is turning sent
