-- Tasks over one pool that stand for those of the source machine, and a call of one of them.
use Rattle.std.proofs.Common.{◌≡◌, ◌≢◌, ℕ, zero, suc, ◌+◌, ◌<◌, ◌≤◌, List, [], ◌∷◌, ◌++◌, ◌==◌, length, set, take, drop, get_or, Option, Some, refl, sym, ap, ◌∙◌, subst, arith, length-set}
use Rattle.std.specs.Prelude.{slice_get}
use Rattle.std.specs.List.{All, AllZip, list_any, remove}
use Rattle.std.specs.Option.{ForSome}
use Rattle.std.proofs.lemmas.List.{length-append, length-take, length-drop, length_push}
use Rattle.std.proofs.lemmas.List.Elements.{All-set, All-push, All-take, All-drop, All-append, All-get_or}
use Rattle.std.proofs.lemmas.Option.{none-some, same_Some, slice_get_read, slice_get_within, get_or_from_slice_get}
use Rattle.std.proofs.lemmas.Slice.Zip.{AllZip-long, all_zipped_more}
use Rattle.eu_base.specs.declared.value.Kind.{Kind}
use Rattle.page_pool.specs.Pool.{Pages}
use Rattle.live_tasks.specs.Below.page_table.specs.Entries.{Names}
use Rattle.live_tasks.specs.Below.page_table.specs.Frames.{Stands}
use Rattle.live_tasks.specs.Below.space_memory.specs.Memories.{most_roots, StandsWhole}
use Rattle.live_tasks.specs.Below.task_job.specs.Here.{Knows, content_at, Frames, MemoryFrames}
use Rattle.live_tasks.specs.Below.task_job.proofs.Here.{frames_before, agree_after}
use Rattle.live_tasks.specs.Below.page_table.specs.Sharing.{occ, Agree, most_spaces}
use Rattle.live_tasks.specs.Below.page_table.proofs.Framing.{agree_same}
use Rattle.live_tasks.specs.Below.page_table.proofs.Moving.{equal}
use Rattle.live_tasks.specs.Below.system_meaning.specs.Tasks.{Own}
use Rattle.live_tasks.specs.Below.system_meaning.specs.Systems.{with_own}
use Rattle.live_tasks.specs.Below.system_meaning.specs.Ends.{has_packet}
use Rattle.live_tasks.specs.Below.live_task.specs.declared.task.Task.{Task}
use Rattle.live_tasks.specs.Below.live_task.specs.Stands.{StandsFor, IsSound}
use Rattle.live_tasks.specs.Below.live_task.proofs.Carried.{stands_carried}
use Rattle.task_ends.specs.Refused.{RoomFrames, Refused}
use Rattle.live_tasks.specs.Tasks.{Live, IsFit, StandIn, Stand, StandBut, task_roots, all_roots, most_tasks}
use Rattle.live_tasks.proofs.Owning.{room_frames, room_memory, joined, grown, not_many, split, stands, whole, agrees, others_same, agrees_refused, all_carried, others_stand}
use Rattle.live_tasks.proofs.Zips.{remove_set, zip_at, zip_found, zip_any, zip_others, zip_set, zip_back, zip_each}

-- a task that is read at a place
pub reads : (pages : Pages) (tasks : List Task) (was : Live) (k : ℕ) (task : Task)
    → ◌≡◌ {A = Live} (record { pages = pages; tasks = tasks }) was → k < length was.tasks → task ≡ get_or tasks k task → slice_get tasks k ≡ Some task
reads pages tasks was k task is low read = slice_get_read tasks (length was.tasks) k task (sym (ap (λ (l : Live). length l.tasks) is)) low read

-- what the task at a place has for itself, changed
pub with_own_is : (owns : List Own) (k : ℕ) (f : Own → Own) (own : Own) → slice_get owns k ≡ Some own → with_own k f owns ≡ set owns k (f own)
with_own_is [] k f own at = absurd (none-some own at)
with_own_is (o ∷ owns) zero f own at = ap (λ x. f x ∷ owns) (same_Some o own at)
with_own_is (o ∷ owns) (suc k) f own at = ap (λ xs. o ∷ xs) (with_own_is owns k f own at)

with_same : (owns : List Own) (k : ℕ) → with_own k (λ o. o) owns ≡ owns
with_same [] k = refl
with_same (o ∷ owns) zero = refl
with_same (o ∷ owns) (suc k) = ap (λ xs. o ∷ xs) (with_same owns k)

-- changed once more
pub with_own_twice : (owns : List Own) (k : ℕ) (f g : Own → Own) → with_own k g (with_own k f owns) ≡ with_own k (λ o. g (f o)) owns
with_own_twice [] k f g = refl
with_own_twice (o ∷ owns) zero f g = refl
with_own_twice (o ∷ owns) (suc k) f g = ap (λ xs. o ∷ xs) (with_own_twice owns k f g)

pub roots_fit : (pages : Pages) (tasks : List Task) → IsFit pages tasks → length (all_roots tasks) + most_roots ≤ most_spaces
roots_fit pages tasks fit = omega (arith, not_many task_roots most_tasks tasks fit.small fit.few)

module _ (kinds_of : List ℕ → List Kind) where
  abbrev pub For : Pages → Task → Own → Type 0
  For pages task own = StandsFor (kinds_of own.packets) pages task own

  carried : (old new : Pages) (task : Task) (own : Own) → (Knows old → Knows new)
      → ((root : Option ℕ) → ForSome root (λ r. 1 ≤ occ r (task_roots task)) → (n : ℕ) → content_at new root n ≡ content_at old root n)
      → For old task own → For new task own
  carried old new task own known same = stands_carried (kinds_of own.packets) old new task own known same

  -- the task at a place stands for what it has for itself
  pub stands_at : (pages : Pages) (tasks : List Task) (owns : List Own) (k : ℕ) (task : Task) (own : Own) → StandIn kinds_of pages tasks owns
      → slice_get tasks k ≡ Some task → slice_get owns k ≡ Some own → StandsFor (kinds_of own.packets) pages task own
  stands_at pages tasks owns k task own h at has = zip_at (For pages) tasks owns k task own h at has

  pub as_long : (pages : Pages) (tasks : List Task) (owns : List Own) → StandIn kinds_of pages tasks owns → length tasks ≡ length owns
  as_long pages tasks owns h = sym (AllZip-long (For pages) tasks owns h)

  -- all but one do
  pub but_one : (pages : Pages) (tasks : List Task) (owns : List Own) (k : ℕ) → StandIn kinds_of pages tasks owns
      → StandBut kinds_of (record { pages = pages; tasks = tasks }) owns k
  but_one pages tasks owns k h = record { as_many = as_long pages tasks owns h; others = zip_others (For pages) tasks owns k h }

  pub stood : (pages : Pages) (tasks : List Task) (was : Live) (owns : List Own) → ◌≡◌ {A = Live} (record { pages = pages; tasks = tasks }) was
      → Stand kinds_of was owns → StandIn kinds_of pages tasks owns
  stood pages tasks was owns is h = subst (λ (l : Live). Stand kinds_of l owns) (sym is) h

-- other words for the kinds that say the same of the packets of all
pub same_kinds : (kinds_of later : List ℕ → List Kind) (live : Live) (owns : List Own)
    → ((j : ℕ) (own : Own) → slice_get owns j ≡ Some own → later own.packets ≡ kinds_of own.packets) → Stand kinds_of live owns → Stand later live owns
same_kinds kinds_of later live owns same h =
    zip_each (For kinds_of live.pages) (For later live.pages) live.tasks owns
    (λ j task own there s. subst (λ (ks : List Kind). StandsFor ks live.pages task own) (sym (same j own there)) s) h

-- the task at a place makes a call
module _ (old new : Pages) (tasks : List Task) (k : ℕ) (task : Task) (at : slice_get tasks k ≡ Some task) (fit : IsFit old tasks) where
  pub low : k < length tasks
  low = slice_get_within tasks k task at

  pub call_stands : (more : ℕ) → more ≤ most_roots → Stands old (task_roots task) more
  call_stands more few = stands task_roots old tasks k task at fit.agree (roots_fit old tasks fit) more few

  pub call_sound : IsSound task
  call_sound = subst IsSound (get_or_from_slice_get tasks k task task at) (All-get_or IsSound tasks k task low fit.sound)

  pub call_small : length (task_roots task) ≤ most_roots
  call_small =
      subst (λ (t : Task). length (task_roots t) ≤ most_roots) (get_or_from_slice_get tasks k task task at)
      (All-get_or (λ t. length (task_roots t) ≤ most_roots) tasks k task low fit.small)

  pub call_whole : StandsWhole old (task_roots task)
  call_whole = whole task_roots old tasks k task at fit.agree (roots_fit old tasks fit) call_small

  pub fits_with : (later : Task) → ∥ Agree new (all_roots (set tasks k later)) ∥₁ → length (task_roots later) ≤ most_roots → IsSound later
      → IsFit new (set tasks k later)
  fits_with later agree small sound = record {
    agree = agree;
    few = omega (arith, length-set tasks k later, fit.few);
    small = All-set (λ t. length (task_roots t) ≤ most_roots) tasks k later small fit.small;
    sound = All-set IsSound tasks k later sound fit.sound;
  }

  -- it has as many spaces then as it had
  pub as_many_frames : (later : Task) → length (task_roots later) ≡ length (task_roots task) → Frames old new (task_roots task) (task_roots later)
      → MemoryFrames old new (task_roots task) (task_roots later)
  as_many_frames later many frames = frames_before old new (task_roots task) (task_roots later) (omega (arith, many, call_small)) frames

  -- it is another task then
  module _ (later : Task) (frames : MemoryFrames old new (task_roots task) (task_roots later)) where
    framed : RoomFrames old new (task_roots task) (task_roots later) most_roots
    framed = room_memory old new (task_roots task) (task_roots later) frames

    call_agrees : ∥ Agree new (all_roots (set tasks k later)) ∥₁
    call_agrees = agree_same new _ _ (joined task_roots tasks k later low)
        (agrees task_roots old tasks k task at fit.agree (roots_fit old tasks fit) new (task_roots later) framed)

    pub call_fits : length (task_roots later) ≤ most_roots → IsSound later → IsFit new (set tasks k later)
    call_fits small sound = fits_with later call_agrees small sound

    module _ (kinds_of : List ℕ → List Kind) (owns : List Own) where
      rest_stands : StandIn kinds_of old (remove tasks k) (remove owns k) → StandIn kinds_of new (remove tasks k) (remove owns k)
      rest_stands h = all_carried task_roots (For kinds_of) (carried kinds_of) old new (remove tasks k) (remove owns k) framed.knows
          (others_same task_roots old tasks k task at fit.agree (roots_fit old tasks fit) new (task_roots later) framed) h

      -- where the others stand and it stands for this, all stand
      pub call_puts : StandBut kinds_of (record { pages = old; tasks = tasks }) owns k → (own : Own) → slice_get owns k ≡ Some own → (f : Own → Own)
          → StandsFor (kinds_of (f own).packets) new later (f own) → StandIn kinds_of new (set tasks k later) (with_own k f owns)
      call_puts but own has f stands =
          subst (λ (os : List Own). StandIn kinds_of new (set tasks k later) os) (sym (with_own_is owns k f own has))
          (zip_set (For kinds_of new) tasks owns k later (f own) but.as_many (rest_stands but.others) stands)

      module _ (h : StandIn kinds_of old tasks owns) where
        -- the others stand as they stood
        pub call_but : StandBut kinds_of (record { pages = new; tasks = set tasks k later }) owns k
        call_but = record {
          as_many = length-set tasks k later ∙ as_long kinds_of old tasks owns h;
          others =
              subst (λ (ts : List Task). StandIn kinds_of new ts (remove owns k)) (sym (remove_set tasks k later))
              (rest_stands (zip_others (For kinds_of old) tasks owns k h));
        }

        -- and it stands for this
        pub call_set : (own : Own) → slice_get owns k ≡ Some own → (f : Own → Own) → StandsFor (kinds_of (f own).packets) new later (f own)
            → StandIn kinds_of new (set tasks k later) (with_own k f owns)
        call_set own has f stands = call_puts (but_one kinds_of old tasks owns k h) own has f stands

        -- whatever it has for itself
        pub call_each : (f : Own → Own) → ((own : Own) → StandsFor (kinds_of own.packets) old task own → StandsFor (kinds_of (f own).packets) new later (f own))
            → StandIn kinds_of new (set tasks k later) (with_own k f owns)
        call_each f each =
            let found = zip_found (For kinds_of old) tasks owns k task h at in
            call_set found.0 found.1 f (each found.0 found.2)

        -- or for what it stood for
        pub call_same : (own : Own) → slice_get owns k ≡ Some own → StandsFor (kinds_of own.packets) new later own
            → StandIn kinds_of new (set tasks k later) owns
        call_same own has stands =
            subst (λ (os : List Own). StandIn kinds_of new (set tasks k later) os) (with_same owns k) (call_set own has (λ o. o) stands)

  -- it is gone
  module _ (frames : Frames old new (task_roots task) []) where
    gone : RoomFrames old new (task_roots task) [] most_roots
    gone = room_frames old new (task_roots task) [] (omega arith) frames

    pub end_fits : IsFit new (remove tasks k)
    end_fits = record {
      agree = agrees task_roots old tasks k task at fit.agree (roots_fit old tasks fit) new [] gone;
      few = omega (arith, fit.few, length-append (take k tasks) (drop (suc k) tasks), length-take k tasks, length-drop (suc k) tasks);
      small = All-append (λ t. length (task_roots t) ≤ most_roots) _ _ (All-take (λ t. length (task_roots t) ≤ most_roots) k tasks fit.small)
          (All-drop (λ t. length (task_roots t) ≤ most_roots) (suc k) tasks fit.small);
      sound = All-append IsSound _ _ (All-take IsSound k tasks fit.sound) (All-drop IsSound (suc k) tasks fit.sound);
    }

    pub end_stands : (kinds_of : List ℕ → List Kind) (owns : List Own) → StandIn kinds_of old tasks owns → StandIn kinds_of new (remove tasks k) (remove owns k)
    end_stands kinds_of owns h = others_stand task_roots (For kinds_of) (carried kinds_of) old new tasks k task at fit.agree (roots_fit old tasks fit)
        [] gone owns h

  -- it was refused
  pub refused_fits : Refused old new (task_roots task) most_roots → IsFit new tasks
  refused_fits refused = record { agree = agrees_refused task_roots old new tasks k task at fit.agree (roots_fit old tasks fit) refused; few = fit.few; small = fit.small; sound = fit.sound }

  -- a task comes last
  module _ (son : Task) (two : length (task_roots son) ≡ 2) (framed : RoomFrames old new (task_roots task) (task_roots task ++ task_roots son) most_roots) where
    pub begin_fits : length tasks < most_tasks → IsSound son → IsFit new (tasks ++ son ∷ [])
    begin_fits few sound = record {
      agree = agree_same new _ _ (grown task_roots tasks k task son at)
          (agrees task_roots old tasks k task at fit.agree (roots_fit old tasks fit) new (task_roots task ++ task_roots son) framed);
      few = omega (arith, length_push tasks son, few);
      small = All-push (λ t. length (task_roots t) ≤ most_roots) tasks son fit.small (omega (arith, two));
      sound = All-push IsSound tasks son fit.sound sound;
    }

    pub begin_stands : (kinds_of : List ℕ → List Kind) (owns : List Own) (own own' : Own) → StandIn kinds_of old tasks owns → slice_get owns k ≡ Some own
        → StandsFor (kinds_of own.packets) new task own → StandsFor (kinds_of own'.packets) new son own'
        → StandIn kinds_of new (tasks ++ son ∷ []) (owns ++ own' ∷ [])
    begin_stands kinds_of owns own own' h has father stands =
        all_zipped_more (For kinds_of new) tasks owns son own'
        (zip_back (For kinds_of new) tasks owns k task own at has (as_long kinds_of old tasks owns h)
        (others_stand task_roots (For kinds_of) (carried kinds_of) old new tasks k task at fit.agree (roots_fit old tasks fit)
        (task_roots task ++ task_roots son) framed owns h) father)
        stands

-- pages were looked at
module _ (old new : Pages) (tasks : List Task) (fit : IsFit old tasks) (frames : (mine : Names) → Frames old new mine mine) where
  few_roots : length (all_roots tasks) ≤ most_spaces
  few_roots = omega (arith, roots_fit old tasks fit)

  pub looked_fits : IsFit new tasks
  looked_fits = record {
    agree = agree_after old new [] [] (all_roots tasks) few_roots (frames []) fit.agree;
    few = fit.few;
    small = fit.small;
    sound = fit.sound;
  }

  looked_same : (root : Option ℕ) → ForSome root (λ r. 1 ≤ occ r (all_roots tasks)) → (n : ℕ) → content_at new root n ≡ content_at old root n
  looked_same root among n = equal _ _ fit.agree (λ a. ((frames []).frame (all_roots tasks) a few_roots).same root among n)

  pub looked_stands : (kinds_of : List ℕ → List Kind) (owns : List Own) → StandIn kinds_of old tasks owns → StandIn kinds_of new tasks owns
  looked_stands kinds_of owns h = all_carried task_roots (For kinds_of) (carried kinds_of) old new tasks owns (frames []).knows looked_same h

-- some task has a packet
pub any_has : (kinds_of : List ℕ → List Kind) (pages : Pages) (tasks : List Task) (owns : List Own) (n : ℕ) → StandIn kinds_of pages tasks owns
    → list_any (λ (task : Task). list_any (λ p. p == n) task.packets) tasks ≡ list_any (has_packet n) owns
any_has kinds_of pages tasks owns n h =
    zip_any (For kinds_of pages) (λ (task : Task). list_any (λ p. p == n) task.packets) (has_packet n) tasks owns
    (λ task own s. ap (λ (ps : List ℕ). list_any (λ p. p == n) ps) s.packets) h
