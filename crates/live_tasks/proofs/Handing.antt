-- A data space goes from one of the tasks to another, and then both get their answers.
use Rattle.std.proofs.Common.{◌≡◌, ◌≢◌, ℕ, zero, suc, ◌+◌, ◌<◌, ◌≤◌, Bool, true, false, cond, List, [], ◌∷◌, ◌++◌, map, length, set, get_or, nat_eq, All, Option, Some, None, refl, sym, ap, ◌∙◌, subst, arith, length-set}
use Rattle.std.specs.Prelude.{slice_get}
use Rattle.std.specs.List.{AllZip, remove}
use Rattle.std.specs.Map.{remove_entry}
use Rattle.std.specs.Option.{ForSome}
use Rattle.std.proofs.lemmas.List.{length-append, length-map, length_push}
use Rattle.std.proofs.lemmas.List.Elements.{All-set}
use Rattle.std.proofs.lemmas.Option.{slice_get_within, slice_get_read, same_Some}
use Rattle.task_numbers.specs.declared.number.SpaceNo.{SpaceNo}
use Rattle.eu_base.specs.declared.value.Kind.{Kind}
use Rattle.eu_base.specs.Requests.{Answer}
use Rattle.page_pool.specs.Pool.{Pages}
use Rattle.live_tasks.specs.Below.page_table.specs.Entries.{Names}
use Rattle.live_tasks.specs.Below.page_table.specs.Frames.{Stands}
use Rattle.live_tasks.specs.Below.page_table.specs.Sharing.{occ, Agree, most_spaces}
use Rattle.live_tasks.specs.Below.page_table.proofs.Framing.{Same, agree_same, stands_of}
use Rattle.live_tasks.specs.Below.data_space.specs.Data.{SpaceData}
use Rattle.live_tasks.specs.Below.space_memory.specs.Memories.{MemoryData, most_roots, forgotten, with_new}
use Rattle.live_tasks.specs.Below.task_job.specs.Here.{Knows, content_at, Frames, MemoryFrames}
use Rattle.live_tasks.specs.Below.task_job.proofs.Here.{agree_after}
use Rattle.live_tasks.specs.Below.system_meaning.specs.Tasks.{Own, replied, with_doing}
use Rattle.live_tasks.specs.Below.system_meaning.specs.Systems.{with_own}
use Rattle.live_tasks.specs.Below.live_task.specs.declared.task.Task.{Task}
use Rattle.live_tasks.specs.Below.live_task.specs.declared.task.Doing.{Doing as Does}
use Rattle.live_tasks.specs.Below.live_task.specs.declared.task.Doing.TheVariants as does
use Rattle.live_tasks.specs.Below.live_task.specs.Stands.{StandsFor, Due, IsSound, IsSoundDoing}
use Rattle.live_tasks.specs.Below.live_task.proofs.Carried.{stands_carried}
use Rattle.live_tasks.specs.Below.live_task.proofs.Dues.{due_carried}
use Rattle.live_tasks.specs.Below.task_messages.specs.Passing.{does_run}
use Rattle.live_tasks.specs.Tasks.{Live, IsFit, StandIn, task_roots, all_roots}
use Rattle.live_tasks.specs.Below.space_memory.specs.Live.{IsLive}
use Rattle.live_tasks.specs.Handing.{CanGo, Owed, paid, owing, StandsOrDue, handing}
use Rattle.live_tasks.proofs.Owning.{joined, split, others_stand, room_memory}
use Rattle.live_tasks.proofs.Standing.{roots_fit, call_small, call_sound, with_own_is}
use Rattle.live_tasks.proofs.Zips.{found_set, set_same, zip_at, zip_others, zip_set}

-- ---- two places

module _ {A : Type 0} where
  pub found_beside : (xs : List A) (i j : ℕ) (x : A) → i ≢ j → slice_get (set xs i x) j ≡ slice_get xs j
  found_beside [] zero j x ne = refl
  found_beside [] (suc i) j x ne = refl
  found_beside (y ∷ xs) zero zero x ne = absurd (ne refl)
  found_beside (y ∷ xs) zero (suc j) x ne = refl
  found_beside (y ∷ xs) (suc i) zero x ne = refl
  found_beside (y ∷ xs) (suc i) (suc j) x ne = found_beside xs i j x (λ e. ne (ap suc e))

  put_once : (xs : List A) (i : ℕ) (x y : A) → set (set xs i x) i y ≡ set xs i y
  put_once [] zero x y = refl
  put_once [] (suc i) x y = refl
  put_once (z ∷ xs) zero x y = refl
  put_once (z ∷ xs) (suc i) x y = ap (λ l. z ∷ l) (put_once xs i x y)

  put_both : (xs : List A) (i j : ℕ) (x y : A) → i ≢ j → set (set xs i x) j y ≡ set (set xs j y) i x
  put_both [] zero zero x y ne = refl
  put_both [] zero (suc j) x y ne = refl
  put_both [] (suc i) zero x y ne = refl
  put_both [] (suc i) (suc j) x y ne = refl
  put_both (z ∷ xs) zero zero x y ne = absurd (ne refl)
  put_both (z ∷ xs) zero (suc j) x y ne = refl
  put_both (z ∷ xs) (suc i) zero x y ne = refl
  put_both (z ∷ xs) (suc i) (suc j) x y ne = ap (λ l. z ∷ l) (put_both xs i j x y (λ e. ne (ap suc e)))

  -- both are put once more
  put_again : (xs : List A) (i j : ℕ) (x y u v : A) → i ≢ j → set (set (set (set xs i x) j y) i u) j v ≡ set (set xs i u) j v
  put_again xs i j x y u v ne =
      ap (λ l. set (set l i u) j v) (put_both xs i j x y ne) ∙ ap (λ l. set l j v) (put_once (set xs j y) i x u)
      ∙ ap (λ l. set l j v) (put_both xs j i y u (λ e. ne (sym e))) ∙ put_once (set xs i u) j y v

-- ---- a task that runs, with another memory

-- it is sound still
sound_by : (m n : MemoryData) (d : Does) → does_run d ≡ true → IsSoundDoing m d → IsSoundDoing n d
sound_by m n does.Idle runs h = absurd (cc runs)
sound_by m n (does.Entering name lines) runs h = absurd (cc runs)
sound_by m n (does.Running job) runs h = h

pub sound_with : (task later : Task) (memory : MemoryData) → later ≡ record task { memory = memory } → does_run task.doing ≡ true → IsSound task → IsSound later
sound_with task later memory is runs sound = subst IsSound (sym is) (sound_by task.memory memory task.doing runs sound)

-- it has no space more without one, and one more with one
fewer_entries : {T : Type 0} (test : ℕ → Bool) (xs : List (ℕ × T)) → length (remove_entry test xs) ≤ length xs
fewer_entries test [] = omega arith
fewer_entries test (e ∷ xs) = by (test e.0) (fewer_entries test xs)
  where
    by : (b : Bool) → length (remove_entry test xs) ≤ length xs → length (cond b xs (e ∷ remove_entry test xs)) ≤ length (e ∷ xs)
    by true less = omega arith
    by false less = omega (arith, less)

pub fewer_roots : (task later : Task) (n : ℕ) → later ≡ record task { memory = forgotten n task.memory } → length (task_roots later) ≤ length (task_roots task)
fewer_roots task later n is =
    subst (λ (t : Task). length (task_roots t) ≤ length (task_roots task)) (sym is)
    (omega (
      arith,
      fewer_entries (nat_eq n) task.memory.spaces,
      length-map task.memory.spaces (λ (s : ℕ × SpaceData). s.1.root),
      length-map (remove_entry (nat_eq n) task.memory.spaces) (λ (s : ℕ × SpaceData). s.1.root),
    ))

pub few_roots : (task later : Task) (d : SpaceData) → later ≡ record task { memory = with_new d task.memory } → length task.memory.spaces < 16
    → length (task_roots later) ≤ most_roots
few_roots task later d is few =
    subst (λ (t : Task). length (task_roots t) ≤ most_roots) (sym is)
    (omega (
      arith,
      few,
      length-map (task.memory.spaces ++ (task.memory.last + 1, d) ∷ []) (λ (s : ℕ × SpaceData). s.1.root),
      length_push task.memory.spaces (task.memory.last + 1, d),
    ))

-- ---- a data space moves

-- it goes out
module _ (pages : Pages) (tasks : List Task) (fit : IsFit pages tasks) (i : ℕ) (a : Task) (at_a : slice_get tasks i ≡ Some a) (a' : Task)
    (root : Option ℕ) (out : Frames pages pages (task_roots a) (root ∷ task_roots a')) (fewer : length (task_roots a') ≤ length (task_roots a))
    (sound_a : IsSound a') where
  abbrev others : Names
  others = all_roots (remove tasks i)

  low_i : i < length tasks
  low_i = slice_get_within tasks i a at_a

  first : Same (all_roots tasks) (task_roots a ++ others)
  first = split task_roots tasks i a at_a

  second : Same (task_roots a' ++ others) (all_roots (set tasks i a'))
  second = joined task_roots tasks i a' low_i

  room : length (all_roots tasks) + most_roots ≤ most_spaces
  room = roots_fit pages tasks fit

  few_out : length (root ∷ (task_roots a' ++ others)) ≤ most_spaces
  few_out = omega (arith, room, first.long, fewer, length-append (task_roots a) others, length-append (task_roots a') others)

  went_out : ∥ Agree pages (root ∷ (task_roots a' ++ others)) ∥₁
  went_out = agree_after pages pages (task_roots a) (root ∷ task_roots a') others few_out out (agree_same pages _ _ first fit.agree)

  small_between : All (λ t. length (task_roots t) ≤ most_roots) (set tasks i a')
  small_between = All-set (λ t. length (task_roots t) ≤ most_roots) tasks i a' (omega (arith, fewer, call_small pages pages tasks i a at_a fit)) fit.small

  sound_between : All IsSound (set tasks i a')
  sound_between = All-set IsSound tasks i a' sound_a fit.sound

  -- it can be let go
  pub hand_stands : Stands pages (root ∷ []) 0
  hand_stands = stands_of pages (root ∷ []) (task_roots a' ++ others) 0 (omega (arith, few_out)) went_out

  module _ (j : ℕ) (b : Task) (at_there : slice_get (set tasks i a') j ≡ Some b) where
    -- it is let go, and the other task is what it was
    pub lost_fits : (new : Pages) → Frames pages new (root ∷ []) [] → (b' : Task) → b' ≡ b → IsFit new (set (set tasks i a') j b')
    lost_fits new lost b' same =
        subst (λ (ts : List Task). IsFit new ts) (sym (ap (λ (t : Task). set (set tasks i a') j t) same ∙ set_same (set tasks i a') j b at_there))
        (record {
          agree = agree_same new _ _ second
              (agree_after pages new (root ∷ []) [] (task_roots a' ++ others) (omega (arith, few_out)) lost went_out);
          few = omega (arith, length-set tasks i a', fit.few);
          small = small_between;
          sound = sound_between;
        })

    -- it comes in
    module _ (b' : Task) (into : Frames pages pages (root ∷ task_roots b) (task_roots b')) (small : length (task_roots b') ≤ most_roots)
        (sound_b : IsSound b') where
      abbrev rest : Names
      rest = all_roots (remove (set tasks i a') j)

      low_j : j < length (set tasks i a')
      low_j = slice_get_within (set tasks i a') j b at_there

      third : Same (all_roots (set tasks i a')) (task_roots b ++ rest)
      third = split task_roots (set tasks i a') j b at_there

      in_hand : Same (root ∷ (task_roots a' ++ others)) (root ∷ (task_roots b ++ rest))
      in_hand = record { long = omega (arith, second.long, third.long); occs = λ p. omega (arith, second.occs p, third.occs p) }

      few_in : length (task_roots b' ++ rest) ≤ most_spaces
      few_in =
          omega (
            arith,
            room,
            first.long,
            second.long,
            third.long,
            fewer,
            small,
            length-append (task_roots a) others,
            length-append (task_roots a') others,
            length-append (task_roots b) rest,
            length-append (task_roots b') rest,
          )

      came_in : ∥ Agree pages (task_roots b' ++ rest) ∥₁
      came_in = agree_after pages pages (root ∷ task_roots b) (task_roots b') rest few_in into (agree_same pages _ _ in_hand went_out)

      pub moved_fits : IsFit pages (set (set tasks i a') j b')
      moved_fits = record {
        agree = agree_same pages _ _ (joined task_roots (set tasks i a') j b' low_j) came_in;
        few = omega (arith, length-set tasks i a', length-set (set tasks i a') j b', fit.few);
        small = All-set (λ t. length (task_roots t) ≤ most_roots) (set tasks i a') j b' small small_between;
        sound = All-set IsSound (set tasks i a') j b' sound_b sound_between;
      }

-- by the two tasks
pub can_go_is : (tasks : List Task) (from to : ℕ) (space : SpaceNo) (a b : Task) → slice_get tasks from ≡ Some a → slice_get tasks to ≡ Some b → from ≢ to
    → (does_run a.doing ≡ true) × IsLive space.0 a.memory.spaces → (does_run b.doing ≡ true) × (length b.memory.spaces < 16) × (b.memory.last < 4294967295)
    → CanGo tasks from to space
can_go_is tasks from to space a b at_a at_b ne sends takes = record {
  apart = ne;
  sends =
      λ task at. subst (λ (t : Task). (does_run t.doing ≡ true) × IsLive space.0 t.memory.spaces) (same_Some a task (sym at_a ∙ at)) sends;
  takes =
      λ task at. subst (λ (t : Task). (does_run t.doing ≡ true) × (length t.memory.spaces < 16) × (t.memory.last < 4294967295))
      (same_Some b task (sym at_b ∙ at)) takes;
}

-- the other task is read once the first has changed
pub reads_other : (tasks : List Task) (was : Live) (pages : Pages) (i j : ℕ) (a' b : Task) → ◌≡◌ {A = Live} (record { pages = pages; tasks = tasks }) was
    → j < length was.tasks → b ≡ get_or (set tasks i a') j b → slice_get (set tasks i a') j ≡ Some b
reads_other tasks was pages i j a' b is low read =
    slice_get_read (set tasks i a') (length was.tasks) j b (sym (ap (λ (l : Live). length l.tasks) is) ∙ sym (length-set tasks i a')) low read

-- the two tasks of a message, over the tasks that they are among
module _ (pages : Pages) (tasks : List Task) (was : Live) (is : ◌≡◌ {A = Live} (record { pages = pages; tasks = tasks }) was) (fit : IsFit pages tasks) (i j : ℕ)
    (s : SpaceNo) (go : CanGo was.tasks i j s) (a : Task) (at_a : slice_get tasks i ≡ Some a) where
  pub goes : CanGo tasks i j s
  goes = subst (λ (l : Live). CanGo l.tasks i j s) (sym is) go

  module _ (a' : Task) (same_a : a' ≡ record a { memory = forgotten s.0 a.memory }) (b : Task) (low : j < length was.tasks)
      (read : b ≡ get_or (set tasks i a') j b) where
    at_there : slice_get (set tasks i a') j ≡ Some b
    at_there = reads_other tasks was pages i j a' b is low read

    pub at_other : slice_get tasks j ≡ Some b
    at_other = sym (found_beside tasks i j a' goes.apart) ∙ at_there

    pub takes_it : (does_run b.doing ≡ true) × (length b.memory.spaces < 16) × (b.memory.last < 4294967295)
    takes_it = goes.takes b at_other

    fewer : length (task_roots a') ≤ length (task_roots a)
    fewer = fewer_roots a a' s.0 same_a

    sound_out : IsSound a'
    sound_out = sound_with a a' (forgotten s.0 a.memory) same_a (goes.sends a at_a).0 (call_sound pages pages tasks i a at_a fit)

    sound_other : IsSound b
    sound_other = call_sound pages pages tasks j b at_other fit

    module _ (d : SpaceData) (out : Frames pages pages (task_roots a) (d.root ∷ task_roots a')) where
      pub can_lose : (back : SpaceData) → back ≡ d → Stands pages (back.root ∷ []) 0
      can_lose back same =
          subst (λ (x : SpaceData). Stands pages (x.root ∷ []) 0) (sym same)
          (hand_stands pages tasks fit i a at_a a' d.root out fewer sound_out)

      pub lost_it : (back : SpaceData) → back ≡ d → (new : Pages) → Frames pages new (back.root ∷ []) [] → (b' : Task) → b' ≡ b
          → IsFit new (set (set tasks i a') j b')
      lost_it back same new lost b' kept =
          lost_fits pages tasks fit i a at_a a' d.root out fewer sound_out j b at_there new
          (subst (λ (x : SpaceData). Frames pages new (x.root ∷ []) []) same lost) b' kept

      pub passed_it : (b' : Task) → b' ≡ record b { memory = with_new d b.memory } → Frames pages pages (d.root ∷ task_roots b) (task_roots b')
          → IsFit pages (set (set tasks i a') j b')
      passed_it b' same_b into =
          moved_fits pages tasks fit i a at_a a' d.root out fewer sound_out j b at_there b' into (few_roots b b' d same_b takes_it.1)
          (sound_with b b' (with_new d b.memory) same_b takes_it.0 sound_other)

-- ---- some answers are due

module _ (kinds_of : List ℕ → List Kind) where
  abbrev pub ForOr : Pages → Task → Owed → Type 0
  ForOr pages task x = StandsOrDue (kinds_of x.own.packets) pages task x.own x.due

  or_carried : (old new : Pages) (task : Task) (x : Owed) → (Knows old → Knows new)
      → ((root : Option ℕ) → ForSome root (λ r. 1 ≤ occ r (task_roots task)) → (n : ℕ) → content_at new root n ≡ content_at old root n)
      → ForOr old task x → ForOr new task x
  or_carried old new task x known same h = by x.due h
    where
      by : (due : Option Answer) → StandsOrDue (kinds_of x.own.packets) old task x.own due → StandsOrDue (kinds_of x.own.packets) new task x.own due
      by None h = stands_carried (kinds_of x.own.packets) old new task x.own known same h
      by (Some a) h = due_carried (kinds_of x.own.packets) old new task x.own a h known same

  none_due : (pages : Pages) (tasks : List Task) (owns : List Own) → StandIn kinds_of pages tasks owns → AllZip (ForOr pages) tasks (map paid owns)
  none_due pages [] [] h = tt
  none_due pages [] (o ∷ owns) h = absurd h
  none_due pages (t ∷ tasks) [] h = absurd h
  none_due pages (t ∷ tasks) (o ∷ owns) h = (h.0, none_due pages tasks owns h.1)

  none_left : (pages : Pages) (tasks : List Task) (owns : List Own) → AllZip (ForOr pages) tasks (map paid owns) → StandIn kinds_of pages tasks owns
  none_left pages [] [] h = tt
  none_left pages [] (o ∷ owns) h = absurd h
  none_left pages (t ∷ tasks) [] h = absurd h
  none_left pages (t ∷ tasks) (o ∷ owns) h = (h.0, none_left pages tasks owns h.1)

  as_long : (pages : Pages) (tasks : List Task) (xs : List Owed) → AllZip (ForOr pages) tasks xs → length tasks ≡ length xs
  as_long pages [] [] h = refl
  as_long pages [] (x ∷ xs) h = absurd h
  as_long pages (t ∷ tasks) [] h = absurd h
  as_long pages (t ∷ tasks) (x ∷ xs) h = omega (arith, as_long pages tasks xs h.1)

  -- a task and what it has come to a place
  put_there : (pages : Pages) (tasks : List Task) (xs : List Owed) (k : ℕ) (task : Task) (x : Owed)
      → AllZip (ForOr pages) tasks xs → ForOr pages task x → AllZip (ForOr pages) (set tasks k task) (set xs k x)
  put_there pages tasks xs k task x h here = zip_set (ForOr pages) tasks xs k task x (as_long pages tasks xs h) (zip_others (ForOr pages) tasks xs k h) here

  pub both_owed : (pages : Pages) (tasks : List Task) (owns : List Own) (i j : ℕ) (a' b' : Task) (mine other : Own) (taken message : Answer)
      → StandIn kinds_of pages tasks owns → Due (kinds_of mine.packets) pages a' mine taken → Due (kinds_of other.packets) pages b' other message
      → AllZip (ForOr pages) (set (set tasks i a') j b') (handing i taken mine j message other owns)
  both_owed pages tasks owns i j a' b' mine other taken message h due_a due_b =
      put_there pages (set tasks i a') (set (map paid owns) i (owing taken mine)) j b' (owing message other)
      (put_there pages tasks (map paid owns) i a' (owing taken mine) (none_due pages tasks owns h) due_a) due_b

  -- the task at a place is answered: the others are what they were
  pub paid_there : (old new : Pages) (tasks : List Task) (k : ℕ) (task later : Task) → slice_get tasks k ≡ Some task → IsFit old tasks
      → MemoryFrames old new (task_roots task) (task_roots later) → (xs : List Owed) (own : Own) (a : Answer) → AllZip (ForOr old) tasks xs
      → slice_get xs k ≡ Some (owing a own)
      → (Due (kinds_of own.packets) old task own a → StandsFor (kinds_of own.packets) new later (with_doing (replied a own.doing) own))
      → AllZip (ForOr new) (set tasks k later) (set xs k (paid (with_doing (replied a own.doing) own)))
  paid_there old new tasks k task later at fit frames xs own a h has does =
      zip_set (ForOr new) tasks xs k later (paid (with_doing (replied a own.doing) own)) (as_long old tasks xs h)
      (others_stand task_roots (ForOr) or_carried old new tasks k task at fit.agree (roots_fit old tasks fit) (task_roots later)
      (room_memory old new (task_roots task) (task_roots later) frames) xs h)
      (does (zip_at (ForOr old) tasks xs k task (owing a own) h at has))

put_paid : (owns : List Own) (k : ℕ) (o : Own) → map paid (set owns k o) ≡ set (map paid owns) k (paid o)
put_paid [] zero o = refl
put_paid [] (suc k) o = refl
put_paid (p ∷ owns) zero o = refl
put_paid (p ∷ owns) (suc k) o = ap (λ l. paid p ∷ l) (put_paid owns k o)

-- ---- both are answered, one after the other

module _ (owns : List Own) (i j : ℕ) (apart : i ≢ j) (mine other : Own) (taken message : Answer) (has_i : slice_get owns i ≡ Some mine)
    (has_j : slice_get owns j ≡ Some other) where
  abbrev owed : List Owed
  owed = handing i taken mine j message other owns

  low_mine : i < length (map paid owns)
  low_mine = omega (arith, slice_get_within owns i mine has_i, length-map owns paid)

  low_other : j < length (set (map paid owns) i (owing taken mine))
  low_other = omega (arith, slice_get_within owns j other has_j, length-map owns paid, length-set (map paid owns) i (owing taken mine))

  pub owed_first : slice_get owed i ≡ Some (owing taken mine)
  owed_first =
      found_beside (set (map paid owns) i (owing taken mine)) j i (owing message other) (λ e. apart (sym e))
      ∙ found_set (map paid owns) i (owing taken mine) low_mine

  pub owed_second : (mine' : Own) → slice_get (set owed i (paid mine')) j ≡ Some (owing message other)
  owed_second mine' = found_beside owed i j (paid mine') apart ∙ found_set (set (map paid owns) i (owing taken mine)) j (owing message other) low_other

  pub all_paid : (kinds_of : List ℕ → List Kind) (pages : Pages) (tasks : List Task) (f g : Own → Own)
      → AllZip (ForOr kinds_of pages) tasks (set (set owed i (paid (f mine))) j (paid (g other)))
      → StandIn kinds_of pages tasks (with_own j g (with_own i f owns))
  all_paid kinds_of pages tasks f g h =
      subst (λ (os : List Own). StandIn kinds_of pages tasks os) (sym owns_are)
      (none_left kinds_of pages tasks (set (set owns i (f mine)) j (g other)) (subst (λ (l : List Owed). AllZip (ForOr kinds_of pages) tasks l) owed_are h))
    where
      owed_are : set (set owed i (paid (f mine))) j (paid (g other)) ≡ map paid (set (set owns i (f mine)) j (g other))
      owed_are =
          put_again (map paid owns) i j (owing taken mine) (owing message other) (paid (f mine)) (paid (g other)) apart
          ∙ sym (put_paid (set owns i (f mine)) j (g other) ∙ ap (λ l. set l j (paid (g other))) (put_paid owns i (f mine)))

      owns_are : with_own j g (with_own i f owns) ≡ set (set owns i (f mine)) j (g other)
      owns_are =
          ap (λ (os : List Own). with_own j g os) (with_own_is owns i f mine has_i)
          ∙ with_own_is (set owns i (f mine)) j g other (found_beside owns i j (f mine) apart ∙ has_j)
