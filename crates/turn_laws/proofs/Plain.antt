-- The tree, the channels and the texts that are entered stay as they should be.
use Rattle.std.proofs.Common.{◌≡◌, ℕ, zero, suc, ◌-◌, ◌≤◌, ◌<◌, Bool, true, false, cond, not, List, [], ◌∷◌, ◌++◌, length, filter, fold, drop, set, get_or, Option, Some, None, refl, sym, ap, ◌∙◌, subst, ◌⊎◌, inl, inr, if◌then◌else◌, arith}
use Rattle.std.specs.Prelude.{nat_le}
use Rattle.std.proofs.lemmas.Option.{none-some}
use Rattle.std.specs.List.{AllByRecursion, list_any}
use Rattle.std.proofs.lemmas.Bool.{false≢true, or_left, leb-false, cases_lt, cases_eq, ne_eqb}
use Rattle.std.proofs.lemmas.Grind.{get_or-set_at}
use Rattle.std.proofs.lemmas.List.{length-append, length-set, get_or-set_other, set_past}
use Rattle.std.proofs.lemmas.List.Folds.{list_any-append}
use Rattle.turn_laws.specs.Below.task_numbers.specs.declared.limits.TheConstants.{LONGEST_LINE, TASKS}
use Rattle.turn_laws.specs.Below.task_numbers.specs.declared.number.TaskNo.{TaskNo}
use Rattle.turn_laws.specs.Below.task_numbers.specs.Numbers.{is_nil}
use Rattle.eu_base.specs.declared.request.Request.{Request}
use Rattle.eu_base.specs.Requests.{Answer}
use Rattle.turn_laws.specs.Below.message_wait.specs.Rendezvous as rendezvous
use Rattle.turn_laws.specs.Below.task_tree.specs.declared.task.Task.{Task}
use Rattle.turn_laws.specs.Below.task_tree.specs.declared.refusal.BeginError.{BeginError}
use Rattle.turn_laws.specs.Below.task_tree.specs.declared.refusal.BeginError.TheVariants.{NameTaken, TreeFull, NumbersSpent}
use Rattle.turn_laws.specs.Below.task_tree.specs.Tree as tree
use Rattle.turn_laws.specs.Below.task_tree.specs.Tree.{Tree, has_number, lives}
use Rattle.turn_laws.specs.Below.task_tree.specs.Ends.{CanEnd, EndInTurn}
use Rattle.turn_laws.specs.Below.terminals.specs.Channels.{Channel, unused, is_queue_full, with_line}
use Rattle.turn_laws.specs.Below.terminals.specs.Channels as channels
use Rattle.turn_laws.specs.Below.terminals.specs.declared.channel.TheConstants.{QUEUED_LINES}
use Rattle.turn_laws.specs.Below.terminals.specs.Couplings.{task_at}
use Rattle.turn_laws.specs.Below.terminals.proofs.Coupling.{at_none}
use Rattle.system_meaning.specs.Stores.{is_name, last_number}
use Rattle.system_meaning.specs.Tasks.{Doing, Idle, Entering, Running, Own, request_of, with_reply_to, with_doing, replied}
use Rattle.system_meaning.specs.Systems.{Shared, System, Moment, with_own, changed, does, given, woken, back, can_be_ready, on_ready, on_waits, on_channels, uncouple_at}
use Rattle.system_meaning.specs.Ends.{number_refusal, no_task, begun, removed, freed_by, ended}
use Rattle.system_meaning.specs.Whole.{IsSystem}
use Rattle.turn_laws.proofs.Found.{place_in, changed_owns, changed_is, without_own}
use Rattle.turn_laws.proofs.Lists.{all_filter, all_append, all_remove}
use Rattle.turn_laws.proofs.Steps.{left, removed_is, removed_sound, quiet_channels, free_stays, all_woken, lives_on}
use Rattle.turn_laws.proofs.Couplings.{uncoupled_none}
use Rattle.turn_laws.proofs.Others.{freed_sound, ended_tree}
use Rattle.turn_laws.specs.Valid.{ArePlain, AreRooted, IsNamed, AreShort, IsQueue, AreLiving, HasRoom, HaveRoom}

-- ---- what a task has changes

all_with : (Q : Own → Type 0) (f : Own → Own) → ((o : Own) → Q o → Q (f o)) → (k : ℕ) (os : List Own) → AllByRecursion Q os → AllByRecursion Q (with_own k f os)
all_with Q f keeps zero [] h = tt
all_with Q f keeps (suc k) [] h = tt
all_with Q f keeps zero (o ∷ os) h = (keeps o h.0, h.1)
all_with Q f keeps (suc k) (o ∷ os) h = (h.0, all_with Q f keeps k os h.1)

all_changed : (Q : Own → Type 0) (f : Own → Own) → ((o : Own) → Q o → Q (f o)) → (p : Option ℕ) (os : List Own) → AllByRecursion Q os
    → AllByRecursion Q (changed_owns p f os)
all_changed Q f keeps None os h = h
all_changed Q f keeps (Some k) os h = all_with Q f keeps k os h

pub plain_changed : (u : TaskNo) (f : Own → Own) → ((o : Own) → HasRoom o.doing → HasRoom (f o).doing) → (s : System) → ArePlain s → ArePlain (changed u f s)
plain_changed u f keeps s h =
    subst (λ (x : System). ArePlain x) (sym (changed_is u f s))
    (record {
      named = h.named;
      terminals = record { four = h.terminals.four; queues = h.terminals.queues; living = h.terminals.living };
      entering = all_changed (λ (o : Own). HasRoom o.doing) f keeps (place_in u s.shared.tree.tasks) s.owns h.entering;
    })

pub plain_does : (u : TaskNo) (d : Doing) (s : System) → HasRoom d → ArePlain s → ArePlain (does u d s)
plain_does u d s room h = plain_changed u (with_doing d) (λ o was. room) s h

replied_room : (a : Answer) (d : Doing) → HasRoom d → HasRoom (replied a d)
replied_room a d h = by d (request_of d) h
  where
    by : (d : Doing) (q : Option Request) → HasRoom d → HasRoom (with_reply_to q a d)
    by (Idle store) None h = h
    by (Idle store) (Some q) h = h
    by (Entering name lines store) None h = h
    by (Entering name lines store) (Some q) h = h
    by (Running c) None h = h
    by (Running c) (Some q) h = tt

pub plain_given : (u : TaskNo) (a : Answer) (s : System) → ArePlain s → ArePlain (given u a s)
plain_given u a s h = plain_changed u (λ (o : Own). with_doing (replied a o.doing) o) (λ o room. replied_room a o.doing room) s h

pub plain_back : (u : TaskNo) (s : System) → ArePlain s → ArePlain (back u s)
plain_back u s h = by (can_be_ready u s)
  where
    by : (b : Bool) → ArePlain (if b then on_ready (λ ready. ready ++ u ∷ []) s else s)
    by true = record {
      named = h.named;
      terminals = record { four = h.terminals.four; queues = h.terminals.queues; living = h.terminals.living };
      entering = h.entering;
    }
    by false = h

pub plain_woken : (u : TaskNo) (a : Answer) (s : System) → ArePlain s → ArePlain (woken u a s)
plain_woken u a s h = plain_back u (given u a s) (plain_given u a s h)

-- what is shared changes, but no part of this
pub plain_shared : (s : System) (x : Shared) → x.tree ≡ s.shared.tree → x.channels ≡ s.shared.channels → ArePlain s → ArePlain (record s { shared = x })
plain_shared s x tree channels h = record {
  named = subst (λ (t : Tree). IsNamed t) (sym tree) h.named;
  terminals = record {
    four = ap (λ (cs : List Channel). length cs) channels ∙ h.terminals.four;
    queues = subst (λ (cs : List Channel). AllByRecursion IsQueue cs) (sym channels) h.terminals.queues;
    living = subst (λ (t : Tree). AreLiving t x.channels) (sym tree) (subst (λ (cs : List Channel). AreLiving s.shared.tree cs) (sym channels) h.terminals.living);
  };
  entering = h.entering;
}

-- ---- channels

all_set : {X : Type 0} (Q : X → Type 0) (xs : List X) (k : ℕ) (x : X) → Q x → AllByRecursion Q xs → AllByRecursion Q (set xs k x)
all_set Q [] zero x one h = tt
all_set Q [] (suc k) x one h = tt
all_set Q (y ∷ ys) zero x one h = (one, h.1)
all_set Q (y ∷ ys) (suc k) x one h = (h.0, all_set Q ys k x one h.1)

all_get : {X : Type 0} (Q : X → Type 0) (xs : List X) (k : ℕ) (d : X) → Q d → AllByRecursion Q xs → Q (get_or xs k d)
all_get Q [] zero d one h = one
all_get Q [] (suc k) d one h = one
all_get Q (y ∷ ys) zero d one h = h.0
all_get Q (y ∷ ys) (suc k) d one h = all_get Q ys k d one h.1

task_set : (Q : TaskNo → Type 0) (s : List Channel) (k : ℕ) (x : Channel) → Q x.task → ((i : ℕ) → Q (task_at i s)) → (i : ℕ) → Q (task_at i (set s k x))
task_set Q s k x one all i = by (cases_lt k (length s))
  where
    at : (i ≡ k) ⊎ (i ≡ k → ⊥) → k < length s → Q (task_at i (set s k x))
    at (inl e) within = subst (λ (c : Channel). Q c.task) (sym (get_or-set_at s k i x unused e within)) one
    at (inr other) within = subst (λ (c : Channel). Q c.task) (sym (get_or-set_other s k i x unused other)) (all i)

    by : (k < length s) ⊎ (length s ≤ k) → Q (task_at i (set s k x))
    by (inl within) = at (cases_eq i k) within
    by (inr past) = subst (λ (cs : List Channel). Q (task_at i cs)) (sym (set_past s k x past)) (all i)

pub queue_of : (c : ℕ) (s : System) → ArePlain s → IsQueue (channels.channel c s.shared.channels)
queue_of c s h = all_get IsQueue s.shared.channels (c - 1) unused (omega arith, tt) h.terminals.queues

-- a channel is another, with a task that lives, or none
pub plain_channel : (c : ℕ) (x : Channel) (s : System) → IsQueue x → (is_nil x.task ≡ false → lives x.task s.shared.tree ≡ true) → ArePlain s
    → ArePlain (on_channels (channels.with_channel c x) s)
plain_channel c x s queue living h = record {
  named = h.named;
  terminals = record {
    four = length-set s.shared.channels (c - 1) x ∙ h.terminals.four;
    queues = all_set IsQueue s.shared.channels (c - 1) x queue h.terminals.queues;
    living = task_set (λ (t : TaskNo). is_nil t ≡ false → lives t s.shared.tree ≡ true) s.shared.channels (c - 1) x living h.terminals.living;
  };
  entering = h.entering;
}

pub plain_coupled : (c : ℕ) (t : TaskNo) (s : System) → lives t s.shared.tree ≡ true → ArePlain s → ArePlain (on_channels (channels.coupled c t) s)
plain_coupled c t s live h = plain_channel c (record (channels.channel c s.shared.channels) { task = t }) s (queue_of c s h) (λ some. live) h

pub plain_uncoupled : (c : ℕ) (s : System) → ArePlain s → ArePlain (on_channels (channels.uncoupled c) s)
plain_uncoupled c s h =
    plain_channel c (channels.alone (channels.channel c s.shared.channels)) s (omega arith, tt) (λ some. absurd (false≢true (sym some))) h

pub plain_last : (c : ℕ) (t : TaskNo) (s : System) → ArePlain s → ArePlain (on_channels (channels.with_last c t) s)
plain_last c t s h =
    plain_channel c (record (channels.channel c s.shared.channels) { last = t }) s (queue_of c s h) (λ some. h.terminals.living (c - 1) some) h

fewer_lines : (queue : List (List ℕ)) → (length queue ≤ QUEUED_LINES) × AreShort queue → (length (drop 1 queue) ≤ QUEUED_LINES) × AreShort (drop 1 queue)
fewer_lines [] h = h
fewer_lines (line ∷ lines) h = let few = h.0 in (omega (arith, few), h.1.1)

pub plain_unqueued : (c : ℕ) (s : System) → ArePlain s → ArePlain (on_channels (channels.unqueued c) s)
plain_unqueued c s h =
    plain_channel c (channels.without_line (channels.channel c s.shared.channels)) s
    (fewer_lines (channels.channel c s.shared.channels).queue (queue_of c s h)) (λ some. h.terminals.living (c - 1) some) h

pub plain_queued : (c : ℕ) (line : List ℕ) (s : System) → length line ≤ LONGEST_LINE → ArePlain s → ArePlain (on_channels (channels.queued c line) s)
plain_queued c line s short h =
    plain_channel c (with_line line (channels.channel c s.shared.channels)) s (by (is_queue_full (channels.channel c s.shared.channels)) refl)
    (task (is_queue_full (channels.channel c s.shared.channels))) h
  where
    x : Channel
    x = channels.channel c s.shared.channels

    longer : Channel
    longer = record (channels.channel c s.shared.channels) { queue = (channels.channel c s.shared.channels).queue ++ line ∷ [] }

    by : (b : Bool) → is_queue_full (channels.channel c s.shared.channels) ≡ b → IsQueue (cond b (channels.channel c s.shared.channels) longer)
    by true e = queue_of c s h
    by false e =
        let few = leb-false QUEUED_LINES (length (channels.channel c s.shared.channels).queue) e in
        let long = length-append (channels.channel c s.shared.channels).queue (line ∷ []) in (
          omega (arith, few, long),
          all_append (λ l. length l ≤ LONGEST_LINE) (channels.channel c s.shared.channels).queue (line ∷ []) (queue_of c s h).1 (short, tt),
        )

    task : (b : Bool) → is_nil (cond b (channels.channel c s.shared.channels) longer).task ≡ false
        → lives (cond b (channels.channel c s.shared.channels) longer).task s.shared.tree ≡ true
    task true some = h.terminals.living (c - 1) some
    task false some = h.terminals.living (c - 1) some

-- ---- a son begins

number_left : (name : List ℕ) (s : Tree) → tree.refusal name s ≡ None → s.last < last_number
number_left name s e =
    by (list_any (tree.has_name name) s.tasks) (nat_le TASKS (length s.tasks)) (nat_le last_number s.last) refl e
  where
    by : (a b c : Bool) → nat_le last_number s.last ≡ c
        → (if a then Some NameTaken else if b then Some TreeFull else if c then Some NumbersSpent else None) ≡ None → s.last < last_number
    by true b c is e = absurd (none-some _ (sym e))
    by false true c is e = absurd (none-some _ (sym e))
    by false false true is e = absurd (none-some _ (sym e))
    by false false false is e = leb-false last_number s.last is

pub number_unrefused : (name : List ℕ) (s : Tree) → number_refusal (tree.refusal name s) ≡ None → s.last < last_number
number_unrefused name s e = number_left name s (by (tree.refusal name s) e)
  where
    by : (o : Option BeginError) → number_refusal o ≡ None → o ≡ None
    by None e = refl
    by (Some x) e = absurd (none-some _ (sym e))

pub rooted_begun : (xs : List Task) (new : Task) → is_nil new.father ≡ false → AreRooted xs → AreRooted (xs ++ new ∷ [])
rooted_begun [] new some h = absurd h
rooted_begun (x ∷ xs) new some h =
    (h.0, h.1, all_append (λ (v : Task). is_nil v.father ≡ false) xs (new ∷ []) h.2 (some, tt))

pub plain_begun : (name : List ℕ) (father : TaskNo) (d : Doing) (s : System) → is_name name ≡ true → is_nil father ≡ false → s.shared.tree.last < last_number → HasRoom d → ArePlain s
    → ArePlain (begun name father d s)
plain_begun name father d s good some less room h = record {
  named = record {
    rooted = rooted_begun s.shared.tree.tasks (tree.task (tree.next s.shared.tree) name father) some h.named.rooted;
    names =
        all_append (λ (u : Task). is_name u.name ≡ true) s.shared.tree.tasks (tree.task (tree.next s.shared.tree) name father ∷ []) h.named.names
        (good, tt);
    numbers = omega (arith, less);
  };
  terminals = record {
    four = h.terminals.four;
    queues = h.terminals.queues;
    living = λ k coupled.
        list_any-append (has_number (task_at k s.shared.channels)) s.shared.tree.tasks (tree.task (tree.next s.shared.tree) name father ∷ [])
        ∙ or_left (lives (task_at k s.shared.channels) s.shared.tree) _ (h.terminals.living k coupled);
  };
  entering = all_append (λ (o : Own). HasRoom o.doing) s.owns _ h.entering (room, tt);
}

-- ---- a task goes

without_room : (p : Option ℕ) (os : List Own) → HaveRoom os → HaveRoom (without_own p os)
without_room None os h = h
without_room (Some k) os h = all_remove (λ (o : Own). HasRoom o.doing) os k h

rooted_ended : (w : TaskNo) (xs : List Task) → 2 < w.0 → AreRooted xs → AreRooted (filter (λ u. not (has_number w u)) xs)
rooted_ended w [] later h = h
rooted_ended w (x ∷ xs) later h = by (has_number w x) (ne_eqb x.number.0 w.0 (λ e. let one = h.0 in omega (arith, e, one, later)))
  where
    by : (b : Bool) → b ≡ false → AreRooted (cond (not b) (x ∷ filter (λ u. not (has_number w u)) xs) (filter (λ u. not (has_number w u)) xs))
    by false e = (h.0, h.1, all_filter (λ (v : Task). is_nil v.father ≡ false) (λ u. not (has_number w u)) xs h.2)
    by true e = absurd (false≢true (sym e))

all_plain : (us : List TaskNo) (s : System) → ArePlain s → ArePlain (all_woken no_task us s)
all_plain [] s h = h
all_plain (v ∷ us) s h = all_plain us (woken v no_task s) (plain_woken v no_task s h)

-- one that no channel has
plain_removed : (w : TaskNo) (s : System) → CanEnd w s.shared.tree → channels.channel_of w s.shared.channels ≡ None → ArePlain s → ArePlain (freed_by w (removed w s))
plain_removed w s can none h =
    subst (λ (x : System). ArePlain (freed_by w x)) (sym (removed_is w s can.live))
    (all_plain (rendezvous.waiting_for w (left w s).shared.waits) (on_waits (rendezvous.released w) (left w s)) (record {
      named = record {
        rooted = rooted_ended w s.shared.tree.tasks can.later h.named.rooted;
        names = all_filter (λ (u : Task). is_name u.name ≡ true) (λ u. not (has_number w u)) s.shared.tree.tasks h.named.names;
        numbers = h.named.numbers;
      };
      terminals = record {
        four = h.terminals.four;
        queues = h.terminals.queues;
        living = λ k coupled.
            lives_on w (task_at k s.shared.channels) s.shared.tree.tasks
            (at_none s.shared.channels w k none (some_number w can.later))
            (h.terminals.living k coupled);
      };
      entering = without_room (place_in w s.shared.tree.tasks) s.owns h.entering;
    }))
  where
    some_number : (w : TaskNo) → 2 < w.0 → is_nil w ≡ false
    some_number w later = ne_eqb w.0 0 (λ e. omega (arith, e, later))

pub plain_ended : (w : TaskNo) (m : Moment) → IsSystem m.system → CanEnd w m.system.shared.tree → ArePlain m.system → ArePlain (ended m w).system
plain_ended w m is can h = by (channels.channel_of w m.system.shared.channels) refl
  where
    by : (c : Option ℕ) → channels.channel_of w m.system.shared.channels ≡ c → ArePlain (freed_by w (removed w (uncouple_at c m).system))
    by None e = plain_removed w m.system can e h
    by (Some c) e =
        plain_removed w (on_channels (channels.uncoupled c) m.system) can (uncoupled_none c w m.system.shared.channels is.channels e)
        (plain_uncoupled c m.system h)

pub ended_sound : (w : TaskNo) (m : Moment) → IsSystem m.system → CanEnd w m.system.shared.tree → IsSystem (ended m w).system
ended_sound w m is can = by (channels.channel_of w m.system.shared.channels)
  where
    by : (c : Option ℕ) → IsSystem (freed_by w (removed w (uncouple_at c m).system))
    by None = freed_sound w (removed w m.system) (removed_sound w m.system is can)
    by (Some c) =
        let sound = (quiet_channels w (channels.uncoupled c) m.system (free_stays c m.system.shared.channels is.channels) is).sound in
        freed_sound w (removed w (on_channels (channels.uncoupled c) m.system)) (removed_sound w (on_channels (channels.uncoupled c) m.system) sound can)

pub plain_all_ended : (ts : List TaskNo) (m : Moment) → IsSystem m.system → EndInTurn ts m.system.shared.tree → ArePlain m.system → ArePlain (fold ended m ts).system
plain_all_ended [] m is turn h = h
plain_all_ended (w ∷ ts) m is turn h =
    plain_all_ended ts (ended m w) (ended_sound w m is turn.0) (subst (EndInTurn ts) (sym (ended_tree w m is turn.0)) turn.1) (plain_ended w m is turn.0 h)
