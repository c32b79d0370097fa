-- How a task stands where a step is made.
use Rattle.std.proofs.Common.{◌≡◌, ◌+◌, Bool, true, false, cond, not, ◌&&◌, ◌||◌, List, [], ◌∷◌, ◌++◌, Option, Some, None, refl, sym, ap, ◌∙◌, subst, arith}
use Rattle.std.specs.Prelude.{option_map}
use Rattle.std.proofs.lemmas.Bool.{false≢true, or_left, or_right}
use Rattle.std.proofs.lemmas.List.Folds.{list_any-append}
use Rattle.std.proofs.lemmas.Option.{none-some}
use Rattle.turn_laws.specs.Below.task_numbers.specs.declared.number.TaskNo.{TaskNo}
use Rattle.turn_laws.specs.Below.task_numbers.specs.Numbers.{is_task}
use Rattle.eu_base.specs.declared.request.Request.{Request}
use Rattle.eu_base.specs.Requests.{Answer, then_asked}
use Rattle.elan_types.specs.Eval.{World}
use Rattle.elan_types.specs.Command.{Ending, Ended, Stopped, OutOfMarks, Asks, evaluate}
use Rattle.turn_laws.specs.Below.message_wait.specs.Rendezvous.{Waits}
use Rattle.turn_laws.specs.Below.slicer.specs.Rotation as rotation
use Rattle.turn_laws.specs.Below.task_tree.specs.Tree as tree
use Rattle.system_meaning.specs.Tasks.{Command, Doing, Idle, Entering, Running, Own, ending, spent, with_doing, with_reply, replied, is_running}
use Rattle.system_meaning.specs.Systems.{Shared, System, own, doing, requested, changed, does, given, woken, back, can_be_ready, on_ready}
use Rattle.turn_laws.specs.Steady.{AreSteady}
use Rattle.turn_laws.proofs.Found.{same_task, itself}
use Rattle.turn_laws.proofs.Steps.{own_changed}
use Rattle.turn_laws.proofs.Lists.{turned}
use Rattle.turn_laws.proofs.Rights.{nothing_done}
use Rattle.turn_laws.proofs.Orders.{AsksNow, asks_now, doing_now, doing_given, own_beside, shared_changed}
use Rattle.turn_laws.proofs.Others.{back_same, back_tree}
use Rattle.turn_laws.proofs.Since.{same_doing, back_waits}
use Rattle.turn_laws.specs.Standing.{IsAwaited, StandsAsking, StandsSo, Stands, AllStand}

-- ---- the same task

-- who waits so waits so still
abbrev pub Entries : TaskNo → Waits → Waits → Type 0
Entries t w v = (q : Request) → IsAwaited q t w → IsAwaited q t v

pub stands_so : (t : TaskNo) (d : Option Doing) (ready later : List TaskNo) (w v : Waits) → rotation.is_ready t later ≡ rotation.is_ready t ready → Entries t w v
    → StandsSo d t ready w → StandsSo d t later v
stands_so t None ready later w v same on h = tt
stands_so t (Some (Idle store)) ready later w v same on h = same ∙ h
stands_so t (Some (Entering name lines store)) ready later w v same on h = same ∙ h
stands_so t (Some (Running c)) ready later w v same on h = by (ending c 0) h
  where
    by : (e : Ending) → StandsAsking e t ready w → StandsAsking e t later v
    by (Ended x) h = same ∙ h
    by (Stopped s x) h = same ∙ h
    by (OutOfMarks x) h = same ∙ h
    by (Asks q x) h = (h.0, same ∙ h.1, on q h.2)

pub stands_on : (t : TaskNo) (s later : System) → doing t later ≡ doing t s → rotation.is_ready t later.shared.ready ≡ rotation.is_ready t s.shared.ready
    → Entries t s.shared.waits later.shared.waits → Stands t s → Stands t later
stands_on t s later does ready on h =
    subst (λ (d : Option Doing). StandsSo d t later.shared.ready later.shared.waits) (sym does)
    (stands_so t (doing t s) s.shared.ready later.shared.ready s.shared.waits later.shared.waits ready on h)

-- ---- another task does something

pub doing_beside : (t u : TaskNo) (f : Own → Own) (s : System) → is_task t u ≡ false → doing t (changed u f s) ≡ doing t s
doing_beside t u f s other = ap (option_map (λ (o : Own). o.doing)) (own_beside t u f s other)

pub beside_changed : (t u : TaskNo) (f : Own → Own) (s : System) → is_task t u ≡ false → Stands t s → Stands t (changed u f s)
beside_changed t u f s other h =
    let same = shared_changed u f s in
    stands_on t s (changed u f s) (doing_beside t u f s other)
    (ap (λ (x : Shared). rotation.is_ready t x.ready) same)
    (λ q a. subst (λ (x : Shared). IsAwaited q t x.waits) (sym same) a) h

pub back_doing : (t u : TaskNo) (s : System) → doing t (back u s) ≡ doing t s
back_doing t u s = same_doing t s (back u s) (back_same u t s)

ready_beside : (t u : TaskNo) (ready : List TaskNo) → is_task t u ≡ false → rotation.is_ready t (rotation.at_back u ready) ≡ rotation.is_ready t ready
ready_beside t u ready other =
    list_any-append (λ v. is_task v t) ready (u ∷ [])
    ∙ by (rotation.is_ready t ready) (is_task u t) (turned t u other)
  where
    by : (a b : Bool) → b ≡ false → (a || (b || false)) ≡ a
    by true b e = refl
    by false true e = absurd (false≢true (sym e))
    by false false e = refl

pub beside_back : (t u : TaskNo) (s : System) → is_task t u ≡ false → Stands t s → Stands t (back u s)
beside_back t u s other h =
    stands_on t s (back u s) (back_doing t u s) (by (can_be_ready u s))
    (λ q a. subst (λ (w : Waits). IsAwaited q t w) (sym (back_waits u s)) a) h
  where
    by : (b : Bool) → rotation.is_ready t (cond b (on_ready (rotation.at_back u) s) s).shared.ready ≡ rotation.is_ready t s.shared.ready
    by true = ready_beside t u s.shared.ready other
    by false = refl

pub beside_woken : (t v : TaskNo) (a : Answer) (s : System) → is_task t v ≡ false → Stands t s → Stands t (woken v a s)
beside_woken t v a s other h =
    beside_back t v (given v a s) other (beside_changed t v (λ (o : Own). with_doing (replied a o.doing) o) s other h)

-- ---- the task itself

-- one that lives is ready
pub back_ready : (u : TaskNo) (s : System) → tree.lives u s.shared.tree ≡ true → rotation.is_ready u (back u s).shared.ready ≡ true
back_ready u s live = by (rotation.is_ready u s.shared.ready) refl
  where
    is : (b : Bool) → rotation.is_ready u s.shared.ready ≡ b → can_be_ready u s ≡ not b
    is b e = ap (λ (x : Bool). x && not (rotation.is_ready u s.shared.ready)) live ∙ ap not e

    by : (b : Bool) → rotation.is_ready u s.shared.ready ≡ b → rotation.is_ready u (back u s).shared.ready ≡ true
    by true e = ap (λ (x : Bool). rotation.is_ready u (cond x (on_ready (rotation.at_back u) s) s).shared.ready) (is true e) ∙ e
    by false e =
        ap (λ (x : Bool). rotation.is_ready u (cond x (on_ready (rotation.at_back u) s) s).shared.ready) (is false e)
        ∙ (list_any-append (λ v. is_task v u) s.shared.ready (u ∷ [])
        ∙ or_right (rotation.is_ready u s.shared.ready) _ (or_left (is_task u u) false (itself u)))

pub lives_doing : (t : TaskNo) (s : System) (d : Doing) → doing t s ≡ Some d → tree.lives t s.shared.tree ≡ true
lives_doing t s d is = by (tree.lives t s.shared.tree) refl
  where
    by : (b : Bool) → tree.lives t s.shared.tree ≡ b → b ≡ true
    by true live = refl
    by false dead = absurd (none-some d (sym (nothing_done t s dead) ∙ is))

pub changed_doing : (u : TaskNo) (d other : Doing) (s : System) → doing u s ≡ Some other → doing u (does u d s) ≡ Some d
changed_doing u d other s is = ap (option_map (λ (o : Own). o.doing)) (own_changed u (with_doing d) s) ∙ by (own u s) is
  where
    by : (p : Option Own) → option_map (λ (o : Own). o.doing) p ≡ Some other → option_map (λ (o : Own). o.doing) (option_map (with_doing d) p) ≡ Some d
    by None e = absurd (none-some other e)
    by (Some o) e = refl

-- one that runs, and asks for nothing, is to go on
abbrev pub IsQuiet : Ending → Type 0
IsQuiet (Asks q w) = ⊥
IsQuiet _ = Unit {0}

pub is_quiet : (e : Ending) → ((q : Request) (w : World) → e ≡ Asks q w → ⊥) → IsQuiet e
is_quiet (Ended w) f = tt
is_quiet (Stopped s w) f = tt
is_quiet (OutOfMarks w) f = tt
is_quiet (Asks q w) f = f q w refl

pub record GoesOn (t : TaskNo) (s : System) : Type 0 where
  pub command : Command
  pub runs : doing t s ≡ Some (Running command)
  pub quiet : IsQuiet (ending command 0)

quiet_stands : (t : TaskNo) (ready : List TaskNo) (w : Waits) (e : Ending) → IsQuiet e → rotation.is_ready t ready ≡ true → StandsAsking e t ready w
quiet_stands t ready w (Ended x) q h = h
quiet_stands t ready w (Stopped s x) q h = h
quiet_stands t ready w (OutOfMarks x) q h = h
quiet_stands t ready w (Asks p x) q h = absurd q

pub back_stands : (t : TaskNo) (s : System) → GoesOn t s → Stands t (back t s)
back_stands t s h =
    subst (λ (d : Option Doing). StandsSo d t (back t s).shared.ready (back t s).shared.waits) (sym (back_doing t t s ∙ h.runs))
    (quiet_stands t (back t s).shared.ready (back t s).shared.waits (ending h.command 0) h.quiet
    (back_ready t s (lives_doing t s (Running h.command) h.runs)))

-- one that asks
pub record AsksSo (t : TaskNo) (q : Request) (s : System) : Type 0 where
  pub now : AsksNow t s q
  pub spent : now.world.marks ≡ 0
  pub out : rotation.is_ready t s.shared.ready ≡ false
  pub awaited : IsAwaited q t s.shared.waits

pub asks_stands : (t : TaskNo) (s : System) (q : Request) → requested t s ≡ Some q → Stands t s → AsksSo t q s
asks_stands t s q is h = by (asks_now t s q is)
  where
    by : AsksNow t s q → AsksSo t q s
    by n =
        let stands = subst (λ (d : Option Doing). StandsSo d t s.shared.ready s.shared.waits) (doing_now t s q n) h in
        let asks = subst (λ (e : Ending). StandsAsking e t s.shared.ready s.shared.waits) n.asks stands in
        record { now = n; spent = asks.0; out = asks.1; awaited = asks.2 }

pub stands_asking : (t : TaskNo) (s : System) (c : Command) (q : Request) (w : World) → doing t s ≡ Some (Running c) → ending c 0 ≡ Asks q w → w.marks ≡ 0
    → rotation.is_ready t s.shared.ready ≡ false → IsAwaited q t s.shared.waits → Stands t s
stands_asking t s c q w runs asks none out waits =
    subst (λ (d : Option Doing). StandsSo d t s.shared.ready s.shared.waits) (sym runs)
    (subst (λ (e : Ending). StandsAsking e t s.shared.ready s.shared.waits) (sym asks) (none, out, waits))

-- where no command is there to go on
pub stands_idle : (t : TaskNo) (s : System) → ((c : Command) → doing t s ≡ Some (Running c) → ⊥) → rotation.is_ready t s.shared.ready ≡ false → Stands t s
stands_idle t s idle out = by (doing t s) refl
  where
    by : (d : Option Doing) → doing t s ≡ d → StandsSo d t s.shared.ready s.shared.waits
    by None is = tt
    by (Some (Idle store)) is = out
    by (Some (Entering name lines store)) is = out
    by (Some (Running c)) is = absurd (idle c is)

-- one that does not run is not ready
pub idle_out : (t : TaskNo) (s : System) (d : Doing) → doing t s ≡ Some d → is_running d ≡ false → Stands t s → rotation.is_ready t s.shared.ready ≡ false
idle_out t s (Idle store) is rests h = subst (λ (p : Option Doing). StandsSo p t s.shared.ready s.shared.waits) is h
idle_out t s (Entering name lines store) is rests h = subst (λ (p : Option Doing). StandsSo p t s.shared.ready s.shared.waits) is h
idle_out t s (Running c) is rests h = absurd (false≢true (sym rests))

module _ (steady : AreSteady) where
  -- with an answer that no request follows a command goes on
  pub quiet_given : (c : Command) (a : Answer) (q : Request) (w : World) → ending c 0 ≡ Asks q w → w.marks ≡ 0 → then_asked q a.reply ≡ None
      → IsQuiet (ending (with_reply a c) 0)
  quiet_given c a q w asks spent none = is_quiet (ending (with_reply a c) 0) quiet
    where
      quiet : (r : Request) (v : World) → ending (with_reply a c) 0 ≡ Asks r v → ⊥
      quiet r v e =
          let same : c.marks + 0 + 0 ≡ c.marks + 0 = omega arith in
          let costs = (steady c.unit.core c.before.variables c.before.spaces).costs (c.marks + 0) 0 c.replies q r w v a asks none
          (ap (λ k. evaluate c.unit.core c.before.variables c.before.spaces k (c.replies ++ a ∷ [])) same ∙ e) in
          omega (arith, costs, spent)

  pub woken_stands : (v : TaskNo) (a : Answer) (s : System) (q : Request) (n : AsksNow v s q) → n.world.marks ≡ 0 → then_asked q a.reply ≡ None
      → Stands v (woken v a s)
  woken_stands v a s q n spent none = back_stands v (given v a s) (record {
    command = with_reply a n.command;
    runs = doing_given v a s q n;
    quiet = quiet_given n.command a q n.world n.asks spent none;
  })

-- ---- all tasks but one

abbrev pub OthersStand : TaskNo → System → Type 0
OthersStand u s = (t : TaskNo) → is_task t u ≡ false → tree.lives t s.shared.tree ≡ true → Stands t s

pub all_but : (u : TaskNo) (s : System) → OthersStand u s → Stands u s → AllStand s
all_but u s others itself' t live = by (is_task t u) refl
  where
    by : (b : Bool) → is_task t u ≡ b → Stands t s
    by true is = subst (λ (x : TaskNo). Stands x s) (sym (same_task t u is)) itself'
    by false other = others t other live

pub others_changed : (u : TaskNo) (f : Own → Own) (s : System) → OthersStand u s → OthersStand u (changed u f s)
others_changed u f s h t other live =
    beside_changed t u f s other (h t other (ap (λ (x : Shared). tree.lives t x.tree) (sym (shared_changed u f s)) ∙ live))

back_tree_is : (v : TaskNo) (s : System) → (back v s).shared.tree ≡ s.shared.tree
back_tree_is v s = back_tree v s

pub others_back : (u : TaskNo) (s : System) → OthersStand u s → OthersStand u (back u s)
others_back u s h t other live = beside_back t u s other (h t other (ap (tree.lives t) (sym (back_tree_is u s)) ∙ live))
