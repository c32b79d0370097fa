-- A task of several whose command is over.
use Rattle.std.proofs.Common.{◌≡◌, ◌≢◌, ◌≤◌, ℕ, List, [], ◌∷◌, ◌++◌, length, set, true, Option, Some, None, refl, sym, ap, ◌∙◌, subst, arith, length-set}
use Rattle.std.specs.Prelude.{slice_get, Result, Ok, Err, OnOk, OnErr}
use Rattle.std.specs.List.{AllZip, remove}
use Rattle.std.proofs.lemmas.Option.{slice_get_within}
use Rattle.eu_base.specs.declared.value.Kind.{Kind}
use Rattle.eu_base.specs.Room.{cells_fit}
use Rattle.page_pool.specs.Pool.{Pages}
use Rattle.live_tasks.specs.Below.page_table.specs.Entries.{Names}
use Rattle.live_tasks.specs.Below.space_memory.specs.Memories.{most_roots}
use Rattle.live_tasks.specs.Below.task_job.specs.Here.{MemoryFrames}
use Rattle.live_tasks.specs.Below.task_job.proofs.Here.{memory_frames_none}
use Rattle.elan_types.specs.Eval.{World}
use Rattle.live_tasks.specs.Below.system_meaning.specs.Tasks.{Command, Own, Idle, store_in, with_doing}
use Rattle.live_tasks.specs.Below.system_meaning.specs.Systems.{with_own}
use Rattle.live_tasks.specs.Below.system_meaning.specs.Monitor.{with_packet}
use Rattle.live_tasks.specs.Below.live_task.specs.declared.task.Task.{Task}
use Rattle.live_tasks.specs.Below.live_task.specs.Stands.{StandsFor, StandsOver}
use Rattle.live_tasks.specs.Below.live_task.proofs.Installing.{program_over}
use Rattle.live_tasks.specs.Below.units.specs.declared.unit.Compiled.{Compiled}
use Rattle.live_tasks.specs.Below.units.specs.Sound.{IsSoundUnit}
use Rattle.live_tasks.specs.Tasks.{Live, IsFit, Stand, StandIn, StandBut, StandOver, AgreeBut, task_roots}
use Rattle.live_tasks.proofs.Standing.{For, call_puts, with_own_is}
use Rattle.live_tasks.proofs.Zips.{found_other, set_same, zip_set, zip_change}

pub overs : (kinds_of : List ℕ → List Kind) (pages : Pages) (tasks : List Task) (was : Live) (owns : List Own) (k : ℕ)
    → ◌≡◌ {A = Live} (record { pages = pages; tasks = tasks }) was → (c : Command) (w : World) → StandOver kinds_of was owns k c w
    → StandOver kinds_of (record { pages = pages; tasks = tasks }) owns k c w
overs kinds_of pages tasks was owns k is c w h = subst (λ (l : Live). StandOver kinds_of l owns k c w) (sym is) h

-- a call lets the task stand for this
pub over_puts : (old new : Pages) (tasks : List Task) (k : ℕ) (task : Task) → (at : slice_get tasks k ≡ Some task) → (fit : IsFit old tasks)
    → (later : Task) (frames : MemoryFrames old new (task_roots task) (task_roots later))
    → (kinds_of : List ℕ → List Kind) (owns : List Own) (c : Command) (w : World) → StandOver kinds_of (record { pages = old; tasks = tasks }) owns k c w
    → (own : Own) → slice_get owns k ≡ Some own → (f : Own → Own)
    → (StandsOver (kinds_of own.packets) old task own c w → StandsFor (kinds_of (f own).packets) new later (f own))
    → StandIn kinds_of new (set tasks k later) (with_own k f owns)
over_puts old new tasks k task at fit later frames kinds_of owns c w h own has f stands =
    call_puts old new tasks k task at fit later frames kinds_of owns h.but own has f (stands (h.over task own at has))

-- a program inserts nothing, and keeps all that it left
pub finishes : (kinds_of : List ℕ → List Kind) (live : Live) (owns : List Own) (k : ℕ) (c : Command) (w : World) → StandOver kinds_of live owns k c w
    → (own : Own) → slice_get owns k ≡ Some own → (unit : Compiled) → c.unit ≡ unit → IsSoundUnit unit → unit.shown ≡ None
    → Stand kinds_of live (with_own k (with_doing (Idle (store_in w))) owns)
finishes kinds_of live owns k c w h own has unit is whole none =
    let f : Own → Own = with_doing (Idle (store_in w)) in
    let task = found_other live.tasks owns k own h.but.as_many has in
    let nothing : c.unit.core.inserted ≡ [] = ap (λ (u : Compiled). u.core.inserted) is ∙ whole.inserts none in
    let stands = program_over (kinds_of own.packets) live.pages task.0 own c w (h.over task.0 own task.1 has) nothing in
    subst (λ (ts : List Task). StandIn kinds_of live.pages ts (with_own k f owns)) (set_same live.tasks k task.0 task.1)
    (subst (λ (os : List Own). StandIn kinds_of live.pages (set live.tasks k task.0) os) (sym (with_own_is owns k f own has))
    (zip_set (For kinds_of live.pages) live.tasks owns k task.0 (f own) h.but.as_many h.but.others stands))

-- ---- a packet becomes one of the task's

module _ (was now : Task) (number : ℕ) {E : Type 0} (result : Result (Unit {0}) E)
    (ok : OnOk result (now ≡ record was { packets = was.packets ++ number ∷ [] })) (err : OnErr result (now ≡ was)) where
  same_roots : task_roots now ≡ task_roots was
  same_roots = by result ok err
    where
      by : (r : Result (Unit {0}) E) → OnOk r (now ≡ record was { packets = was.packets ++ number ∷ [] }) → OnErr r (now ≡ was) → task_roots now ≡ task_roots was
      by (Ok x) ok err = ap task_roots ok
      by (Err e) ok err = ap task_roots err

  pub installed_small : length (task_roots was) ≤ most_roots → length (task_roots now) ≤ most_roots
  installed_small small = omega (arith, ap (λ (names : Names). length names) same_roots, small)

  pub installed_frames : (pages : Pages) → MemoryFrames pages pages (task_roots was) (task_roots now)
  installed_frames pages = subst (λ (names : Names). MemoryFrames pages pages (task_roots was) names) (sym same_roots) (memory_frames_none pages (task_roots was))

pub installs : (pages : Pages) (tasks : List Task) (k : ℕ) (task : Task) → slice_get tasks k ≡ Some task → (kinds_of later : List ℕ → List Kind)
    → (owns : List Own) (c : Command) (w : World) → StandOver kinds_of (record { pages = pages; tasks = tasks }) owns k c w → (own : Own) → slice_get owns k ≡ Some own
    → AgreeBut kinds_of later owns k → cells_fit (length (kinds_of own.packets ++ c.unit.core.inserted)) ≡ true → (now : Task) (number : ℕ) → later (own.packets ++ number ∷ []) ≡ kinds_of own.packets ++ c.unit.core.inserted
    → (StandsOver (kinds_of own.packets) pages task own c w → cells_fit (length (kinds_of own.packets ++ c.unit.core.inserted)) ≡ true
    → StandsFor (kinds_of own.packets ++ c.unit.core.inserted) pages now (with_packet number (with_doing (Idle (store_in w)) own)))
    → StandIn later pages (set tasks k now) (with_own k (λ o. with_packet number (with_doing (Idle (store_in w)) o)) owns)
installs pages tasks k task at kinds_of later owns c w h own has agree fits now number is stands =
    let f : Own → Own = λ o. with_packet number (with_doing (Idle (store_in w)) o) in
    subst (λ (os : List Own). StandIn later pages (set tasks k now) os) (sym (with_own_is owns k f own has))
    (zip_set (For later pages) tasks owns k now (f own) h.but.as_many
    (zip_change (For kinds_of pages) (For later pages) tasks owns k h.but.as_many
    (λ j task' own' ne there s. subst (λ (ks : List Kind). StandsFor ks pages task' own') (sym (agree j own' ne there)) s) h.but.others)
    (subst (λ (ks : List Kind). StandsFor ks pages now (f own)) (sym is) (stands (h.over task own at has) fits)))
