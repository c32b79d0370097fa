-- Tasks end, and those that waited for them go on.
use Rattle.std.proofs.Common.{◌≡◌, ℕ, ◌≤◌, Bool, true, false, cond, not, ◌||◌, List, [], ◌∷◌, map, filter, fold, Option, Some, None, refl, sym, ap, ◌∙◌, subst, ◌⊎◌, inl, inr, ⊎_elim, if◌then◌else◌}
use Rattle.std.specs.Prelude.{option_map}
use Rattle.std.specs.List.{AllByRecursion, list_any}
use Rattle.std.proofs.lemmas.Bool.{false≢true, and_parts, or_left, or_right, or_cases, or_parts}
use Rattle.std.proofs.lemmas.List.Folds.{list_any-append}
use Rattle.std.proofs.lemmas.Map.Views.{any-filter_same}
use Rattle.std.proofs.lemmas.Option.{none-some, same_Some}
use Rattle.turn_laws.specs.Below.task_numbers.specs.declared.limits.TheConstants.{TASKS}
use Rattle.turn_laws.specs.Below.task_numbers.specs.declared.number.TaskNo.{TaskNo}
use Rattle.turn_laws.specs.Below.task_numbers.specs.Numbers.{is_task}
use Rattle.eu_base.specs.declared.request.Request.{Request}
use Rattle.eu_base.specs.declared.request.Request.TheVariants.{End, Call}
use Rattle.eu_base.specs.declared.request.Request.TheVariants as requests
use Rattle.eu_base.specs.declared.request.Reply.TheVariants as replies
use Rattle.eu_base.specs.Requests.{Answer, plain, then_asked}
use Rattle.elan_types.specs.Command.{Ending, Ended, Stopped, OutOfMarks, Asks}
use Rattle.turn_laws.specs.Below.message_wait.specs.declared.waits.Caller.{Caller}
use Rattle.turn_laws.specs.Below.message_wait.specs.declared.waits.Receiver.{Receiver}
use Rattle.turn_laws.specs.Below.message_wait.specs.Rendezvous.{Waits, is_answer, is_from, waiting_for, answered_by, callers_of}
use Rattle.turn_laws.specs.Below.message_wait.specs.Rendezvous as rendezvous
use Rattle.turn_laws.specs.Below.slicer.specs.Rotation as rotation
use Rattle.turn_laws.specs.Below.task_tree.specs.Tree as tree
use Rattle.turn_laws.specs.Below.task_tree.specs.declared.task.Task as tasks
use Rattle.turn_laws.specs.Below.task_tree.specs.Tree.{Tree, has_number}
use Rattle.turn_laws.specs.Below.task_tree.specs.Trees.{IsTree}
use Rattle.turn_laws.specs.Below.task_tree.specs.Families.{family}
use Rattle.turn_laws.specs.Below.task_tree.specs.Ends.{CanEnd, EndInTurn}
use Rattle.turn_laws.specs.Below.terminals.specs.Channels as channels
use Rattle.system_meaning.specs.Tasks.{Doing, Running, Own, ending, request_in, with_doing, with_reply, with_reply_to, replied}
use Rattle.system_meaning.specs.Systems.{Shared, System, Moment, own, doing, requested, given, woken, back, can_be_ready, on_ready, on_waits, uncouple_at}
use Rattle.system_meaning.specs.Ends.{no_task, removed, freed_by, ended, ended_with_descendants}
use Rattle.system_meaning.specs.Serving.{Replies, Rests, may_end, is_first, end_allowed, end_living, named_or, serve}
use Rattle.system_meaning.specs.Whole.{IsSystem, WaitsFor, IsReceiver}
use Rattle.turn_laws.specs.Steady.{AreSteady}
use Rattle.turn_laws.proofs.Found.{same_task, itself}
use Rattle.turn_laws.proofs.Finding.{has}
use Rattle.turn_laws.proofs.Trees.{IsAsked, IsEnded, under_under, under_from, grown_same}
use Rattle.turn_laws.proofs.Steps.{own_in, own_changed, left, removed_is, removed_others, removed_sound, all_woken, dead}
use Rattle.turn_laws.proofs.Lists.{turned, all_map, none_filter}
use Rattle.turn_laws.proofs.Rights.{CallsSo, Right}
use Rattle.turn_laws.proofs.Orders.{AsksNow, doing_given, own_beside, shared_changed}
use Rattle.turn_laws.proofs.Gone.{Serving, gone_serving}
use Rattle.turn_laws.proofs.Others.{back_same, ended_tree, freed_tree, MayEnd, may, serving_uncoupled}
use Rattle.turn_laws.specs.Standing.{calls_so, waits_for_any, waits_for_one, StandsAsking, StandsSo, Stands, AllStand}
use Rattle.turn_laws.proofs.Single.{Entries, stands_on, doing_beside, back_doing, beside_woken, back_ready, lives_doing, IsQuiet, GoesOn, asks_stands, quiet_given, OthersStand}
use Rattle.turn_laws.proofs.Served.{entries_by}
use Rattle.turn_laws.proofs.Turn.{OthersServed}

-- ---- lists

module _ {X : Type 0} where
  -- what passes is left where it passes the other test too
  some_where : (q p : X → Bool) (xs : List X) → AllByRecursion (λ x. q x ≡ true → p x ≡ true) xs → list_any q xs ≡ true → list_any q (filter p xs) ≡ true
  some_where q p [] all some = some
  some_where q p (x ∷ xs) all some = by (q x) refl (p x) refl some (some_where q p xs all.1)
    where
      by : (b : Bool) → q x ≡ b → (d : Bool) → p x ≡ d → (b || list_any q xs) ≡ true → (list_any q xs ≡ true → list_any q (filter p xs) ≡ true)
          → list_any q (cond d (x ∷ filter p xs) (filter p xs)) ≡ true
      by true is true e some rest = or_left (q x) (list_any q (filter p xs)) is
      by true is false e some rest = absurd (false≢true (sym e ∙ all.0 is))
      by false is true e some rest = or_right (q x) (list_any q (filter p xs)) (rest some)
      by false is false e some rest = rest some

  -- those whose number is not there do not pass
  not_mapped : (f : X → TaskNo) (p : X → Bool) (t : TaskNo) (xs : List X) → list_any (λ v. is_task v t) (map f (filter p xs)) ≡ false
      → AllByRecursion (λ x. is_task (f x) t ≡ true → not (p x) ≡ true) xs
  not_mapped f p t [] none = tt
  not_mapped f p t (x ∷ xs) none = by (p x) refl none (not_mapped f p t xs)
    where
      by : (b : Bool) → p x ≡ b → list_any (λ v. is_task v t) (map f (cond b (x ∷ filter p xs) (filter p xs))) ≡ false
          → (list_any (λ v. is_task v t) (map f (filter p xs)) ≡ false → AllByRecursion (λ x. is_task (f x) t ≡ true → not (p x) ≡ true) xs)
          → (is_task (f x) t ≡ true → not (p x) ≡ true) × AllByRecursion (λ x. is_task (f x) t ≡ true → not (p x) ≡ true) xs
      by true is none rest =
          let both = or_parts (is_task (f x) t) (list_any (λ v. is_task v t) (map f (filter p xs))) none in
          (λ e. absurd (false≢true (sym both.0 ∙ e)), rest both.1)
      by false is none rest = (λ e. ap not is, rest none)

  -- and where it is there, one of them has it
  one_mapped : (P : X → Type 0) (f : X → TaskNo) (p : X → Bool) (t : TaskNo) (xs : List X) → list_any (λ v. is_task v t) (map f (filter p xs)) ≡ true
      → AllByRecursion P xs → (x : X) × (f x ≡ t) × P x
  one_mapped P f p t [] some all = absurd (false≢true some)
  one_mapped P f p t (x ∷ xs) some all = by (p x) some (λ e. one_mapped P f p t xs e all.1)
    where
      at : (b : Bool) → is_task (f x) t ≡ b → (b || list_any (λ v. is_task v t) (map f (filter p xs))) ≡ true
          → (list_any (λ v. is_task v t) (map f (filter p xs)) ≡ true → (x : X) × (f x ≡ t) × P x) → (x : X) × (f x ≡ t) × P x
      at true is some rest = (x, same_task (f x) t is, all.0)
      at false is some rest = rest some

      by : (b : Bool) → list_any (λ v. is_task v t) (map f (cond b (x ∷ filter p xs) (filter p xs))) ≡ true
          → (list_any (λ v. is_task v t) (map f (filter p xs)) ≡ true → (x : X) × (f x ≡ t) × P x) → (x : X) × (f x ≡ t) × P x
      by true some rest = at (is_task (f x) t) refl some rest
      by false some rest = rest some

  all_left : (P : X → Type 0) (p : X → Bool) (xs : List X) → AllByRecursion P xs → AllByRecursion P (filter p xs)
  all_left P p [] all = tt
  all_left P p (x ∷ xs) all = by (p x) (all_left P p xs all.1)
    where
      by : (b : Bool) → AllByRecursion P (filter p xs) → AllByRecursion P (cond b (x ∷ filter p xs) (filter p xs))
      by true rest = (all.0, rest)
      by false rest = rest

-- ---- one waits no longer, and is not ready

pub ready_left : (w t : TaskNo) (ready : List TaskNo) → is_task t w ≡ false → rotation.is_ready t (rotation.without w ready) ≡ rotation.is_ready t ready
ready_left w t ready other =
    any-filter_same (λ v. is_task v t) (λ v. not (is_task v w)) true
    (λ v is. ap not (ap (λ (x : TaskNo). is_task x w) (same_task v t is) ∙ other)) ready

pub entries_left : (w t : TaskNo) (v : Waits) → is_task t w ≡ false → Entries t v (rendezvous.left w v)
entries_left w t v other =
    entries_by t v (rendezvous.left w v)
    (λ some. any-filter_same (waits_for_any t) (λ (r : Receiver). not (is_task r.task w)) true (λ r e. apart r.task (and_parts (is_task r.task t) _ e).0) v.receivers ∙ some)
    (λ of some. any-filter_same (waits_for_one t of) (λ (r : Receiver). not (is_task r.task w)) true (λ r e. apart r.task (and_parts (is_task r.task t) _ e).0) v.receivers ∙ some)
    (λ to code some. any-filter_same (calls_so t to code) (λ (c : Caller). not (is_task c.from w)) true (λ c e. apart c.from (and_parts (is_task c.from t) _ e).0) v.callers ∙ some)
  where
    apart : (v : TaskNo) → is_task v t ≡ true → not (is_task v w) ≡ true
    apart v is = ap not (ap (λ (x : TaskNo). is_task x w) (same_task v t is) ∙ other)

-- ---- one is woken, maybe with others, and maybe twice

-- it waits for something that this answer ends
record Due (t : TaskNo) (s : System) : Type 0 where
  request : Request
  now : AsksNow t s request
  spent : now.world.marks ≡ 0
  last : then_asked request no_task.reply ≡ None

-- or it goes on already
record Awake (t : TaskNo) (s : System) : Type 0 where
  goes : GoesOn t s
  ready : rotation.is_ready t s.shared.ready ≡ true

own_back : (t v : TaskNo) (s : System) → own t (back v s) ≡ own t s
own_back t v s = own_in t s (back v s) (back_same v t s)

ready_back : (t v : TaskNo) (s : System) → rotation.is_ready t s.shared.ready ≡ true → rotation.is_ready t (back v s).shared.ready ≡ true
ready_back t v s e = by (can_be_ready v s)
  where
    by : (b : Bool) → rotation.is_ready t (cond b (on_ready (rotation.at_back v) s) s).shared.ready ≡ true
    by true = list_any-append (λ x. is_task x t) s.shared.ready (v ∷ []) ∙ or_left (rotation.is_ready t s.shared.ready) _ e
    by false = e

quiet_request : (e : Ending) → IsQuiet e → request_in e ≡ None
quiet_request (Ended w) h = refl
quiet_request (Stopped s w) h = refl
quiet_request (OutOfMarks w) h = refl
quiet_request (Asks q w) h = absurd h

-- one that goes on takes no answer
given_on : (t : TaskNo) (a : Answer) (s : System) (g : GoesOn t s) → doing t (given t a s) ≡ Some (Running g.command)
given_on t a s g =
    ap (option_map (λ (o : Own). o.doing)) (own_changed t (λ (o : Own). with_doing (replied a o.doing) o) s)
    ∙ by (own t s) g.runs
  where
    by : (p : Option Own) → option_map (λ (o : Own). o.doing) p ≡ Some (Running g.command)
        → option_map (λ (o : Own). o.doing) (option_map (λ (o : Own). with_doing (replied a o.doing) o) p) ≡ Some (Running g.command)
    by None e = absurd (none-some (Running g.command) e)
    by (Some o) e =
        ap (λ (d : Doing). Some (replied a d)) (same_Some o.doing (Running g.command) e)
        ∙ ap (λ (q : Option Request). Some (with_reply_to q a (Running g.command))) (quiet_request (ending g.command 0) g.quiet)

awake_itself : (t : TaskNo) (s : System) → Awake t s → Awake t (woken t no_task s)
awake_itself t s h =
    let runs = given_on t no_task s h.goes in
    record {
      goes = record { command = h.goes.command; runs = back_doing t t (given t no_task s) ∙ runs; quiet = h.goes.quiet };
      ready = back_ready t (given t no_task s) (lives_doing t (given t no_task s) (Running h.goes.command) runs);
    }

awake_beside : (t v : TaskNo) (s : System) → is_task t v ≡ false → Awake t s → Awake t (woken v no_task s)
awake_beside t v s other h = record {
  goes = record {
    command = h.goes.command;
    runs = back_doing t v (given v no_task s) ∙ (doing_beside t v (λ (o : Own). with_doing (replied no_task o.doing) o) s other ∙ h.goes.runs);
    quiet = h.goes.quiet;
  };
  ready =
      ready_back t v (given v no_task s)
      (ap (λ (x : Shared). rotation.is_ready t x.ready) (shared_changed v (λ (o : Own). with_doing (replied no_task o.doing) o) s) ∙ h.ready);
}

awake_on : (t v : TaskNo) (s : System) → Awake t s → Awake t (woken v no_task s)
awake_on t v s h = by (is_task t v) refl
  where
    by : (b : Bool) → is_task t v ≡ b → Awake t (woken v no_task s)
    by true same =
        subst (λ (x : TaskNo). Awake x (woken v no_task s)) (sym (same_task t v same))
        (awake_itself v s (subst (λ (x : TaskNo). Awake x s) (same_task t v same) h))
    by false other = awake_beside t v s other h

all_awake : (t : TaskNo) (us : List TaskNo) (s : System) → Awake t s → Awake t (all_woken no_task us s)
all_awake t [] s h = h
all_awake t (v ∷ us) s h = all_awake t us (woken v no_task s) (awake_on t v s h)

due_beside : (t v : TaskNo) (s : System) → is_task t v ≡ false → Due t s → Due t (woken v no_task s)
due_beside t v s other h =
    let n = h.now in
    record {
      request = h.request;
      now = record {
        now = n.now;
        command = n.command;
        world = n.world;
        has = own_back t v (given v no_task s) ∙ (own_beside t v (λ (o : Own). with_doing (replied no_task o.doing) o) s other ∙ n.has);
        does = n.does;
        asks = n.asks;
      };
      spent = h.spent;
      last = h.last;
    }

all_beside : (t : TaskNo) (us : List TaskNo) (s : System) → list_any (λ v. is_task v t) us ≡ false → Stands t s → Stands t (all_woken no_task us s)
all_beside t [] s none h = h
all_beside t (v ∷ us) s none h =
    let both = or_parts (is_task v t) (list_any (λ x. is_task x t) us) none in
    all_beside t us (woken v no_task s) both.1 (beside_woken t v no_task s (turned v t both.0) h)

awake_stands : (t : TaskNo) (s : System) → Awake t s → Stands t s
awake_stands t s h =
    subst (λ (d : Option Doing). StandsSo d t s.shared.ready s.shared.waits) (sym h.goes.runs)
    (by (ending h.goes.command 0) h.goes.quiet)
  where
    by : (e : Ending) → IsQuiet e → StandsAsking e t s.shared.ready s.shared.waits
    by (Ended w) q = h.ready
    by (Stopped x w) q = h.ready
    by (OutOfMarks w) q = h.ready
    by (Asks x w) q = absurd q

module _ (steady : AreSteady) where
  due_itself : (t : TaskNo) (s : System) → Due t s → Awake t (woken t no_task s)
  due_itself t s h =
      let n = h.now in
      let runs = doing_given t no_task s h.request n in
      record {
        goes = record {
          command = with_reply no_task n.command;
          runs = back_doing t t (given t no_task s) ∙ runs;
          quiet = quiet_given steady n.command no_task h.request n.world n.asks h.spent h.last;
        };
        ready = back_ready t (given t no_task s) (lives_doing t (given t no_task s) (Running (with_reply no_task n.command)) runs);
      }

  all_due : (t : TaskNo) (us : List TaskNo) (s : System) → list_any (λ v. is_task v t) us ≡ true → Due t s → Awake t (all_woken no_task us s)
  all_due t [] s some h = absurd (false≢true some)
  all_due t (v ∷ us) s some h = by (is_task v t) refl some (λ e. all_due t us (woken v no_task s) e)
    where
      by : (b : Bool) → is_task v t ≡ b → (b || list_any (λ x. is_task x t) us) ≡ true
          → (list_any (λ x. is_task x t) us ≡ true → Due t (woken v no_task s) → Awake t (all_woken no_task us (woken v no_task s)))
          → Awake t (all_woken no_task us (woken v no_task s))
      by true same some rest =
          all_awake t us (woken v no_task s)
          (subst (λ (x : TaskNo). Awake t (woken x no_task s)) (sym (same_task v t same)) (due_itself t s h))
      by false other some rest = rest some (due_beside t v s (turned v t other) h)

  -- ---- a task is gone

  module _ (w : TaskNo) (s : System) (sound : IsSystem s) (right : Right s.shared.waits s) (live : tree.lives w s.shared.tree ≡ true) where
    abbrev without : System
    without = left w s

    abbrev freed : System
    freed = on_waits (rendezvous.released w) (left w s)

    abbrev waiting : List TaskNo
    waiting = waiting_for w (rendezvous.left w s.shared.waits)

    own_left : (t : TaskNo) → is_task t w ≡ false → own t (left w s) ≡ own t s
    own_left t other =
        subst (λ (x : System). own t x ≡ own t s) (removed_is w s live) (own_in t s (removed w s) (removed_others w s sound live t other))

    doing_left : (t : TaskNo) → is_task t w ≡ false → doing t (left w s) ≡ doing t s
    doing_left t other = ap (option_map (λ (o : Own). o.doing)) (own_left t other)

    entries_freed : (t : TaskNo) → list_any (λ v. is_task v t) (waiting_for w (rendezvous.left w s.shared.waits)) ≡ false
        → Entries t (rendezvous.left w s.shared.waits) (rendezvous.released w (rendezvous.left w s.shared.waits))
    entries_freed t none =
        entries_by t v (rendezvous.released w v)
        (λ some.
        some_where (waits_for_any t) (λ (r : Receiver). not (is_answer w r)) v.receivers
        (all_map Off (λ (r : Receiver). waits_for_any t r ≡ true → not (is_answer w r) ≡ true) (λ r f e. f (and_parts (is_task r.task t) _ e).0) v.receivers off_waits)
        some)
        (λ of some.
        some_where (waits_for_one t of) (λ (r : Receiver). not (is_answer w r)) v.receivers
        (all_map Off (λ (r : Receiver). waits_for_one t of r ≡ true → not (is_answer w r) ≡ true) (λ r f e. f (and_parts (is_task r.task t) _ e).0) v.receivers off_waits)
        some)
        (λ to code some.
        some_where (calls_so t to code) (λ (c : Caller). not (is_task c.to w)) v.callers
        (all_map OffCall (λ (c : Caller). calls_so t to code c ≡ true → not (is_task c.to w) ≡ true) (λ c f e. f (and_parts (is_task c.from t) _ e).0) v.callers off_calls)
        some)
      where
        v : Waits
        v = rendezvous.left w s.shared.waits

        both : (list_any (λ x. is_task x t) (answered_by w (rendezvous.left w s.shared.waits)) ≡ false)
            × (list_any (λ x. is_task x t) (callers_of w (rendezvous.left w s.shared.waits)) ≡ false)
        both =
            or_parts (list_any (λ x. is_task x t) (answered_by w (rendezvous.left w s.shared.waits)))
            (list_any (λ x. is_task x t) (callers_of w (rendezvous.left w s.shared.waits)))
            (sym (list_any-append (λ x. is_task x t) (answered_by w (rendezvous.left w s.shared.waits)) (callers_of w (rendezvous.left w s.shared.waits))) ∙ none)

        Off : Receiver → Type 0
        Off r = is_task r.task t ≡ true → not (is_answer w r) ≡ true

        OffCall : Caller → Type 0
        OffCall c = is_task c.from t ≡ true → not (is_task c.to w) ≡ true

        off_waits : AllByRecursion Off (rendezvous.left w s.shared.waits).receivers
        off_waits = not_mapped (λ (r : Receiver). r.task) (is_answer w) t (rendezvous.left w s.shared.waits).receivers both.0

        off_calls : AllByRecursion OffCall (rendezvous.left w s.shared.waits).callers
        off_calls = not_mapped (λ (c : Caller). c.from) (λ (c : Caller). is_task c.to w) t (rendezvous.left w s.shared.waits).callers both.1

    -- who is among those that waited for it asks for that
    asks_it : (t : TaskNo) → list_any (λ v. is_task v t) (waiting_for w (rendezvous.left w s.shared.waits)) ≡ true
        → (q : Request) × (requested t s ≡ Some q) × (then_asked q no_task.reply ≡ None)
    asks_it t some =
        ⊎_elim waited called
        (or_cases (list_any (λ x. is_task x t) (answered_by w v)) (list_any (λ x. is_task x t) (callers_of w v))
        (sym (list_any-append (λ x. is_task x t) (answered_by w v) (callers_of w v)) ∙ some))
      where
        v : Waits
        v = rendezvous.left w s.shared.waits

        of_one : (x : TaskNo) (of : Option TaskNo) → WaitsFor x of s → (q : Request) × (requested x s ≡ Some q) × (then_asked q no_task.reply ≡ None)
        of_one x None h = (requests.Wait, h, refl)
        of_one x (Some y) h = (requests.Answer y.0, h.0, refl)

        waited : list_any (λ x. is_task x t) (answered_by w (rendezvous.left w s.shared.waits)) ≡ true
            → (q : Request) × (requested t s ≡ Some q) × (then_asked q no_task.reply ≡ None)
        waited e =
            let r = one_mapped (λ (r : Receiver). IsReceiver r s) (λ (r : Receiver). r.task) (is_answer w) t (rendezvous.left w s.shared.waits).receivers e
            (all_left (λ (r : Receiver). IsReceiver r s) (λ (r : Receiver). not (is_task r.task w)) s.shared.waits.receivers right.receivers) in
            subst (λ (x : TaskNo). (q : Request) × (requested x s ≡ Some q) × (then_asked q no_task.reply ≡ None)) r.1
            (of_one r.0.task r.0.of r.2.waits)

        called : list_any (λ x. is_task x t) (callers_of w (rendezvous.left w s.shared.waits)) ≡ true
            → (q : Request) × (requested t s ≡ Some q) × (then_asked q no_task.reply ≡ None)
        called e =
            let c = one_mapped (CallsSo s) (λ (c : Caller). c.from) (λ (c : Caller). is_task c.to w) t (rendezvous.left w s.shared.waits).callers e
            (all_left (CallsSo s) (λ (c : Caller). not (is_task c.from w)) s.shared.waits.callers right.callers) in
            subst (λ (x : TaskNo). (q : Request) × (requested x s ≡ Some q) × (then_asked q no_task.reply ≡ None)) c.1
            (Call c.0.to.0 c.0.code c.2.0.space, c.2.0.calls, refl)

    each_freed : (t : TaskNo) → is_task t w ≡ false → Stands t s → Stands t (all_woken no_task (waiting_for w (rendezvous.left w s.shared.waits)) freed)
    each_freed t other h = by (list_any (λ v. is_task v t) (waiting_for w (rendezvous.left w s.shared.waits))) refl
      where
        by : (b : Bool) → list_any (λ v. is_task v t) (waiting_for w (rendezvous.left w s.shared.waits)) ≡ b
            → Stands t (all_woken no_task (waiting_for w (rendezvous.left w s.shared.waits)) freed)
        by false none =
            all_beside t (waiting_for w (rendezvous.left w s.shared.waits)) freed none
            (stands_on t s freed (doing_left t other) (ready_left w t s.shared.ready other) (λ q a. entries_freed t none q (entries_left w t s.shared.waits other q a)) h)
        by true some =
            let asks = asks_it t some in
            let so = asks_stands t s asks.0 asks.1 h in
            let n = so.now in
            awake_stands t (all_woken no_task (waiting_for w (rendezvous.left w s.shared.waits)) freed)
            (all_due t (waiting_for w (rendezvous.left w s.shared.waits)) freed some
            (record {
              request = asks.0;
              now = record {
                now = n.now;
                command = n.command;
                world = n.world;
                has = own_left t other ∙ n.has;
                does = n.does;
                asks = n.asks;
              };
              spent = so.spent;
              last = asks.2;
            }))

    still_lives : (t : TaskNo) → tree.lives t (tree.ended w s.shared.tree) ≡ true → (tree.lives t s.shared.tree ≡ true) × (is_task t w ≡ false)
    still_lives t e = (before (tree.lives t s.shared.tree) refl, apart (is_task t w) refl)
      where
        before : (b : Bool) → tree.lives t s.shared.tree ≡ b → b ≡ true
        before true is = refl
        before false is = absurd (false≢true (sym (none_filter (has_number t) (λ (u : tasks.Task). not (has_number w u)) s.shared.tree.tasks is) ∙ e))

        apart : (b : Bool) → is_task t w ≡ b → b ≡ false
        apart false is = refl
        apart true is =
            absurd (false≢true (sym (dead w s.shared.tree.tasks) ∙ (ap (λ (x : TaskNo). tree.lives x (tree.ended w s.shared.tree)) (sym (same_task t w is)) ∙ e)))

    pub gone_others : (u : TaskNo) → CanEnd w s.shared.tree → OthersStand u s → OthersStand u (freed_by w (removed w s))
    gone_others u can others t other e =
        let lives = still_lives t (ap (tree.lives t) (sym (freed_tree w (removed w s) (removed_sound w s sound can) ∙ ap (λ (x : System). x.shared.tree) (removed_is w s live))) ∙ e) in
        subst (λ (x : System). Stands t (freed_by w x)) (sym (removed_is w s live)) (each_freed t lives.1 (others t other lives.0))

  -- ---- tasks end, one after another

  module _ (u : TaskNo) (asked : List Request) (first : System) (is_first : IsTree first.shared.tree) (low : u.0 ≤ first.shared.tree.last) where
    -- what is so while they end
    record Ends (s : System) : Type 0 where
      serving : Serving u asked first first s
      others : OthersStand u s

    end_one : (w : TaskNo) (s : System) → Ends s → IsEnded u asked first.shared.tree w → CanEnd w s.shared.tree → Ends (freed_by w (removed w s))
    end_one w s h ends can = record {
      serving = gone_serving steady u asked first is_first w first s is_first (grown_same u first.shared.tree is_first) h.serving ends can;
      others = gone_others w s h.serving.since.sound h.serving.since.order.right can.live u can h.others;
    }

    ends_one : (w : TaskNo) (m : Moment) → Ends m.system → IsEnded u asked first.shared.tree w → CanEnd w m.system.shared.tree → Ends (ended m w).system
    ends_one w m h ends can = by (channels.channel_of w m.system.shared.channels)
      where
        by : (c : Option ℕ) → Ends (freed_by w (removed w (uncouple_at c m).system))
        by None = end_one w m.system h ends can
        by (Some c) =
            end_one w (uncouple_at (Some c) m).system
            (record { serving = serving_uncoupled steady u asked first is_first low first (Some c) m h.serving; others = h.others }) ends can

    -- one that is to end lives no more
    abbrev Dead : List TaskNo → System → Type 0
    Dead ts s = (list_any (λ v. is_task v u) ts ≡ true) ⊎ (tree.lives u s.shared.tree ≡ false)

    dead_on : (w : TaskNo) (ts : List TaskNo) (s later : System) → later.shared.tree ≡ tree.ended w s.shared.tree → Dead (w ∷ ts) s → Dead ts later
    dead_on w ts s later e (inr gone) =
        inr (ap (tree.lives u) e ∙ none_filter (has_number u) (λ (x : tasks.Task). not (has_number w x)) s.shared.tree.tasks gone)
    dead_on w ts s later e (inl some) = by (is_task w u) refl some
      where
        by : (b : Bool) → is_task w u ≡ b → (b || list_any (λ v. is_task v u) ts) ≡ true → Dead ts later
        by true is some =
            inr (ap (tree.lives u) e ∙ (ap (λ (x : TaskNo). tree.lives x (tree.ended w s.shared.tree)) (sym (same_task w u is)) ∙ dead w s.shared.tree.tasks))
        by false other some = inl some

    all_end : (ts : List TaskNo) (m : Moment) → Ends m.system → ((w : TaskNo) → has w ts ≡ true → IsEnded u asked first.shared.tree w)
        → EndInTurn ts m.system.shared.tree → OthersStand u (fold ended m ts).system × (Dead ts m.system → tree.lives u (fold ended m ts).system.shared.tree ≡ false)
    all_end [] m h ends turn = (h.others, λ d. ⊎_elim (λ some. absurd (false≢true some)) (λ gone. gone) d)
    all_end (w ∷ ts) m h ends turn =
        let e = ended_tree w m h.serving.since.sound turn.0 in
        let rest = all_end ts (ended m w)
        (ends_one w m h (ends w (or_left (is_task w w) (has w ts) (itself w))) turn.0)
        (λ v one. ends v (or_right (is_task w v) (has v ts) one))
        (subst (EndInTurn ts) (sym e) turn.1) in
        (rest.0, λ d. rest.1 (dead_on w ts m.system (ended m w).system e d))

  pub ends_family : (u : TaskNo) (of : Option ℕ) (asked : List Request) (m : Moment) → Serving u asked m.system m.system m.system
      → (low : u.0 ≤ m.system.shared.tree.last) → OthersStand u m.system → IsAsked asked (End of) → tree.lives (named_or of u) m.system.shared.tree ≡ true
      → MayEnd u (named_or of u) m.system.shared.tree
      → OthersStand u (ended_with_descendants (named_or of u) m).system
      × (list_any (λ x. is_task x u) (family (named_or of u) m.system.shared.tree) ≡ true
      → tree.lives u (ended_with_descendants (named_or of u) m).system.shared.tree ≡ false)
  ends_family u of asked m h low others sent live can =
      let is_tree = h.since.sound.tree in
      let both = all_end u asked m.system is_tree low (family (named_or of u) m.system.shared.tree) m (record { serving = h; others = others })
      (λ w one.
      let inside = under_from m.system.shared.tree is_tree TASKS (named_or of u) w one in
      record { own = under_under m.system.shared.tree w (named_or of u) u inside can.under; named = of; asks = sent; live = live; under = inside })
      can.turn in
      (both.0, λ some. both.1 (inl some))

  any_turned : (u : TaskNo) (us : List TaskNo) → list_any (is_task u) us ≡ true → list_any (λ x. is_task x u) us ≡ true
  any_turned u [] e = e
  any_turned u (x ∷ us) e = by (is_task u x) refl e (any_turned u us)
    where
      by : (b : Bool) → is_task u x ≡ b → (b || list_any (is_task u) us) ≡ true → (list_any (is_task u) us ≡ true → list_any (λ x. is_task x u) us ≡ true)
          → list_any (λ x. is_task x u) (x ∷ us) ≡ true
      by true is e rest = or_left (is_task x u) (list_any (λ x. is_task x u) us) (ap (λ (y : TaskNo). is_task y u) (sym (same_task u x is)) ∙ itself u)
      by false is e rest = or_right (is_task x u) (list_any (λ x. is_task x u) us) (rest e)

  pub end_others : (u : TaskNo) (asked : List Request) (m : Moment) → Serving u asked m.system m.system m.system → u.0 ≤ m.system.shared.tree.last
      → OthersStand u m.system → (of : Option ℕ) → IsAsked asked (End of) → OthersServed u (serve u (End of) m)
  end_others u asked m h low others of sent = by (tree.lives (named_or of u) m.system.shared.tree) refl
    where
      v : TaskNo
      v = named_or of u

      all_dead : (s : System) → OthersStand u s → tree.lives u s.shared.tree ≡ false → AllStand s
      all_dead s others' gone t live = at (is_task t u) refl
        where
          at : (b : Bool) → is_task t u ≡ b → Stands t s
          at true is = absurd (false≢true (sym gone ∙ (ap (λ (x : TaskNo). tree.lives x s.shared.tree) (sym (same_task t u is)) ∙ live)))
          at false other = others' t other live

      which : may_end u (named_or of u) m.system ≡ true
          → OthersStand u (ended_with_descendants (named_or of u) m).system
          × (list_any (λ x. is_task x u) (family (named_or of u) m.system.shared.tree) ≡ true → tree.lives u (ended_with_descendants (named_or of u) m).system.shared.tree ≡ false)
          → (b : Bool) → is_task u (named_or of u) ≡ b
          → OthersServed u (if b then Rests (ended_with_descendants (named_or of u) m) else Replies (plain replies.Done) (ended_with_descendants (named_or of u) m))
      which can both true is =
          let mine = (and_parts (not (is_first (named_or of u))) (list_any (is_task (named_or of u)) (family u m.system.shared.tree)) can).1 in
          let same = same_task u (named_or of u) is in
          all_dead (ended_with_descendants (named_or of u) m).system both.0
          (both.1
          (subst (λ (x : TaskNo). list_any (λ y. is_task y u) (family x m.system.shared.tree) ≡ true) same
          (any_turned u (family u m.system.shared.tree) (subst (λ (x : TaskNo). list_any (is_task x) (family u m.system.shared.tree) ≡ true) (sym same) mine))))
      which can both false is = both.0

      allowed : tree.lives (named_or of u) m.system.shared.tree ≡ true → (b : Bool) → may_end u (named_or of u) m.system ≡ b
          → OthersServed u (end_allowed b u (named_or of u) m)
      allowed live false e = others
      allowed live true e =
          which e (ends_family u of asked m h low others sent live (may u (named_or of u) m.system h.since.sound.tree live e))
          (is_task u (named_or of u)) refl

      by : (b : Bool) → tree.lives (named_or of u) m.system.shared.tree ≡ b → OthersServed u (end_living b u (named_or of u) m)
      by false e = others
      by true e = allowed e (may_end u (named_or of u) m.system) refl
