-- Each event leaves the packets, and what was compiled, as they should be.
use Rattle.std.proofs.Common.{◌≡◌, ℕ, zero, suc, ◌+◌, ◌≤◌, Bool, true, false, cond, ◌||◌, ◌==◌, List, [], ◌∷◌, ◌++◌, length, fold, Option, Some, None, refl, sym, ap, ◌∙◌, subst, ◌⊎◌, inl, inr, if◌then◌else◌, arith}
use Rattle.std.specs.Prelude.{nat_le, option_map, option_and_then, negsuc}
use Rattle.std.specs.List.{AllByRecursion, list_any, remove}
use Rattle.std.proofs.lemmas.Bool.{false≢true, or_left, or_right, leb-false, eq-eqb}
use Rattle.std.proofs.lemmas.List.{length-append}
use Rattle.std.proofs.lemmas.List.Folds.{list_any-append}
use Rattle.std.proofs.lemmas.Option.{none-some, same_Some}
use Rattle.turn_laws.specs.Below.task_numbers.specs.declared.number.TaskNo.{TaskNo}
use Rattle.turn_laws.specs.Below.task_numbers.specs.Numbers.{is_task}
use Rattle.eu_base.specs.declared.stop.Stop.{Stop}
use Rattle.eu_base.specs.declared.request.Request.{Request}
use Rattle.eu_base.specs.declared.request.Request.TheVariants.{Out, Input, Begin, End, Myself, Father, Son, Brother, Named, Name, Exists, Break, Send, Wait, Call}
use Rattle.eu_base.specs.declared.request.Request.TheVariants as requests
use Rattle.eu_base.specs.declared.request.Reply.TheVariants as replies
use Rattle.eu_base.specs.DataSpaces.{Space, heads_of}
use Rattle.eu_base.specs.SpaceOperations.{room_refusal}
use Rattle.eu_base.specs.Requests.{Answer, plain}
use Rattle.turn_laws.specs.Below.elan_names.specs.declared.interface.Interface.{Interface}
use Rattle.turn_laws.specs.Below.elan_scope.specs.declared.env.Env.{Env}
use Rattle.turn_laws.specs.Below.message_wait.specs.declared.waits.Caller.{Caller}
use Rattle.turn_laws.specs.Below.message_wait.specs.declared.waits.Offer.{Offer}
use Rattle.turn_laws.specs.Below.message_wait.specs.declared.waits.Offer.TheVariants as offers
use Rattle.turn_laws.specs.Below.message_wait.specs.Rendezvous.{Waits, first_caller}
use Rattle.turn_laws.specs.Below.message_wait.specs.Rendezvous as rendezvous
use Rattle.turn_laws.specs.Below.session_text.specs.Display.{close_all}
use Rattle.turn_laws.specs.Below.session_text.specs.declared.events.Event.{Event}
use Rattle.turn_laws.specs.Below.session_text.specs.declared.events.Event.TheVariants.{Line, Supervisor, Turns, Fixpoint, Shut}
use Rattle.turn_laws.specs.Below.slicer.specs.Rotation as rotation
use Rattle.turn_laws.specs.Below.task_tree.specs.declared.task.Task.{Task}
use Rattle.turn_laws.specs.Below.task_tree.specs.Tree as tree
use Rattle.turn_laws.specs.Below.task_tree.specs.Tree.{Tree, has_number}
use Rattle.turn_laws.specs.Below.task_tree.specs.Families.{family}
use Rattle.turn_laws.specs.Below.task_tree.specs.Ends.{EndInTurn}
use Rattle.turn_laws.specs.Below.terminals.specs.Channels as channels
use Rattle.turn_laws.specs.Below.units.specs.Packets.{nothing}
use Rattle.turn_laws.specs.Below.elan_check.specs.Packets as compiled
use Rattle.turn_laws.specs.Below.units.specs.Library.{Live}
use Rattle.turn_laws.specs.Below.units.specs.declared.library.TheConstants.{PACKETS}
use Rattle.turn_laws.specs.Below.units.specs.declared.unit.Compiled.{Compiled}
use Rattle.turn_laws.specs.Below.units.specs.Library.{Library, env_of, started_at}
use Rattle.system_meaning.specs.Stores.{Store, last_number, heir}
use Rattle.system_meaning.specs.Tasks.{Command, Doing, Idle, Entering, Running, Own, starting, spent, request_of, command_of, with_reply_to, with_doing, replied}
use Rattle.system_meaning.specs.Systems.{Shared, System, Moment, own, doing, command, kept, packets, packets_of, with_own, changed, does, given, woken, sharing, on_ready, on_waits, on_channels, on_system, on_display, back, can_be_ready, uncouple_at, at_event}
use Rattle.system_meaning.specs.Ends.{next, begun, has_packet, without_packets, no_task, removed, freed_by, ended, ended_with_descendants}
use Rattle.system_meaning.specs.Serving.{Served, Replies, Rests, put, line_taken, input, begin_with, begin_refusal, may_end, end_allowed, end_living, named_or, number, content, message, sent, caller, send_to, send_living, call_living, space_refusal, call_refusal, unless_stopped, call_taken, serve}
use Rattle.system_meaning.specs.Monitor.{Reading, installed, with_packet, inserted, is_full}
use Rattle.packet_store.specs.Readings.{IsReading}
use Rattle.system_meaning.specs.Turns.{turn, turn_of, turns, turn_marks, most_evaluations}
use Rattle.system_meaning.specs.Events.{after}
use Rattle.system_meaning.specs.Whole.{IsSystem, AreNumbered}
use Rattle.turn_laws.specs.Steady.{AreSteady}
use Rattle.turn_laws.specs.Waits.{AreOrderly}
use Rattle.turn_laws.proofs.Found.{found, own_found, place_in, changed_owns, changed_is, without_own}
use Rattle.turn_laws.proofs.Envs.{installed_numbered, without_numbered}
use Rattle.turn_laws.proofs.Steps.{left, removed_is, own_changed, quiet_does, all_woken}
use Rattle.turn_laws.proofs.Lists.{all_map, all_append, all_remove}
use Rattle.turn_laws.proofs.Orders.{shared_changed}
use Rattle.turn_laws.proofs.Others.{may, ended_tree}
use Rattle.turn_laws.proofs.Beside.{turn_keeps}
use Rattle.turn_laws.specs.Standing.{AllStand}
use Rattle.turn_laws.specs.Valid.{IsRead, of_text, of_start, AreBehind, DoesRead, OwnIsRead, AreRising, DoRise, ArePackets}
use Rattle.turn_laws.proofs.Walk.{Steps}
use Rattle.turn_laws.proofs.Goes.{Goes, slices, ServedSo}
use Rattle.turn_laws.proofs.Events.{Channelled, line_so, supervisor_so}
use Rattle.turn_laws.proofs.Turn.{Between, costs_so}
use Rattle.turn_laws.proofs.Kept.{AnyLine, begins_so, serves_so, enough, turn_stands}
use Rattle.turn_laws.proofs.Plain.{ended_sound}
use Rattle.turn_laws.proofs.Packets.{own_before, own_with, Had, Kept, kept_without, rising_push}

-- ---- lists of what tasks have

any_with : (p : Own → Bool) (f : Own → Own) → ((o : Own) → p o ≡ true → p (f o) ≡ true) → (k : ℕ) (os : List Own) → list_any p os ≡ true
    → list_any p (with_own k f os) ≡ true
any_with p f on zero [] some = some
any_with p f on (suc k) [] some = some
any_with p f on zero (o ∷ os) some = by (p o) refl some
  where
    by : (b : Bool) → p o ≡ b → (b || list_any p os) ≡ true → list_any p (f o ∷ os) ≡ true
    by true is some = or_left (p (f o)) (list_any p os) (on o is)
    by false is some = or_right (p (f o)) (list_any p os) some
any_with p f on (suc k) (o ∷ os) some = by (p o) some (any_with p f on k os)
  where
    by : (b : Bool) → (b || list_any p os) ≡ true → (list_any p os ≡ true → list_any p (with_own k f os) ≡ true) → (b || list_any p (with_own k f os)) ≡ true
    by true some rest = refl
    by false some rest = rest some

any_changed : (p : Own → Bool) (f : Own → Own) → ((o : Own) → p o ≡ true → p (f o) ≡ true) → (k : Option ℕ) (os : List Own) → list_any p os ≡ true
    → list_any p (changed_owns k f os) ≡ true
any_changed p f on None os some = some
any_changed p f on (Some k) os some = any_with p f on k os some

-- what one has changes so, and that of the others is as it was
all_at : (Q S : Own → Type 0) (f : Own → Own) (u : TaskNo) → ((o : Own) → Q o → S o) → (xs : List Task) (os : List Own)
    → ((o : Own) → found u xs os ≡ Some o → Q o → S (f o)) → AllByRecursion Q os → AllByRecursion S (changed_owns (place_in u xs) f os)
all_at Q S f u on [] os one h = all_map Q S on os h
all_at Q S f u on (x ∷ xs) [] one h = by (place_in u (x ∷ xs))
  where
    by : (p : Option ℕ) → AllByRecursion S (changed_owns p f [])
    by None = tt
    by (Some zero) = tt
    by (Some (suc k)) = tt
all_at Q S f u on (x ∷ xs) (o ∷ os) one h = by (has_number u x) one (all_at Q S f u on xs os)
  where
    later : (p : Option ℕ) → AllByRecursion S (changed_owns p f os) → AllByRecursion S (changed_owns (option_map (λ k. suc k) p) f (o ∷ os))
    later None rest = (on o h.0, rest)
    later (Some k) rest = (on o h.0, rest)

    by : (b : Bool) → ((x : Own) → cond b (Some o) (found u xs os) ≡ Some x → Q x → S (f x))
        → (((x : Own) → found u xs os ≡ Some x → Q x → S (f x)) → AllByRecursion Q os → AllByRecursion S (changed_owns (place_in u xs) f os))
        → AllByRecursion S (changed_owns (cond b (Some 0) (option_map (λ k. suc k) (place_in u xs))) f (o ∷ os))
    by true one rest = (one o refl h.0, all_map Q S on os h.1)
    by false one rest = later (place_in u xs) (rest one h.1)

any_at : (p : Own → Bool) (f : Own → Own) (u : TaskNo) (xs : List Task) (os : List Own) (o : Own) → found u xs os ≡ Some o → p (f o) ≡ true
    → list_any p (changed_owns (place_in u xs) f os) ≡ true
any_at p f u [] os o is one = absurd (none-some o is)
any_at p f u (x ∷ xs) [] o is one = absurd (none-some o is)
any_at p f u (x ∷ xs) (y ∷ os) o is one = by (has_number u x) is (λ e. any_at p f u xs os o e one)
  where
    later : (k : Option ℕ) → list_any p (changed_owns k f os) ≡ true → list_any p (changed_owns (option_map (λ k. suc k) k) f (y ∷ os)) ≡ true
    later None some = or_right (p y) (list_any p os) some
    later (Some k) some = or_right (p y) (list_any p (with_own k f os)) some

    by : (b : Bool) → cond b (Some y) (found u xs os) ≡ Some o → (found u xs os ≡ Some o → list_any p (changed_owns (place_in u xs) f os) ≡ true)
        → list_any p (changed_owns (cond b (Some 0) (option_map (λ k. suc k) (place_in u xs))) f (y ∷ os)) ≡ true
    by true e rest = or_left (p (f y)) (list_any p os) (ap (λ (z : Own). p (f z)) (same_Some y o e) ∙ one)
    by false e rest = later (place_in u xs) (rest e)

-- where one goes, what it alone had is not there
split : (p : Own → Bool) (w : TaskNo) (xs : List Task) (os : List Own) → list_any p os ≡ true
    → (list_any p (without_own (place_in w xs) os) ≡ true) ⊎ ((o : Own) × (found w xs os ≡ Some o) × (p o ≡ true))
split p w [] os some = inl some
split p w (x ∷ xs) [] some = absurd (false≢true some)
split p w (x ∷ xs) (o ∷ os) some = by (has_number w x) (p o) refl some (split p w xs os)
  where
    later : (k : Option ℕ) → (list_any p os ≡ true → (list_any p (without_own k os) ≡ true) ⊎ ((z : Own) × (found w xs os ≡ Some z) × (p z ≡ true)))
        → (b : Bool) → p o ≡ b → (b || list_any p os) ≡ true
        → (list_any p (without_own (option_map (λ k. suc k) k) (o ∷ os)) ≡ true) ⊎ ((z : Own) × (found w xs os ≡ Some z) × (p z ≡ true))
    later None rest true is some = inl (or_left (p o) (list_any p os) is)
    later None rest false is some = inl (or_right (p o) (list_any p os) some)
    later (Some k) rest true is some = inl (or_left (p o) (list_any p (remove os k)) is)
    later (Some k) rest false is some = at (rest some)
      where
        at : (list_any p (remove os k) ≡ true) ⊎ ((z : Own) × (found w xs os ≡ Some z) × (p z ≡ true))
            → (list_any p (o ∷ remove os k) ≡ true) ⊎ ((z : Own) × (found w xs os ≡ Some z) × (p z ≡ true))
        at (inl e) = inl (or_right (p o) (list_any p (remove os k)) e)
        at (inr e) = inr e

    by : (b c : Bool) → p o ≡ c → (c || list_any p os) ≡ true
        → (list_any p os ≡ true → (list_any p (without_own (place_in w xs) os) ≡ true) ⊎ ((z : Own) × (found w xs os ≡ Some z) × (p z ≡ true)))
        → (list_any p (without_own (cond b (Some 0) (option_map (λ k. suc k) (place_in w xs))) (o ∷ os)) ≡ true)
        ⊎ ((z : Own) × (cond b (Some o) (found w xs os) ≡ Some z) × (p z ≡ true))
    by true true is some rest = inr (o, refl, is)
    by true false is some rest = inl some
    by false c is some rest = later (place_in w xs) rest c is some

found_all : (Q : Own → Type 0) (t : TaskNo) (xs : List Task) (os : List Own) (o : Own) → found t xs os ≡ Some o → AllByRecursion Q os → Q o
found_all Q t [] os o is h = absurd (none-some o is)
found_all Q t (x ∷ xs) [] o is h = absurd (none-some o is)
found_all Q t (x ∷ xs) (y ∷ os) o is h = by (has_number t x) is (λ later. found_all Q t xs os o later h.1)
  where
    by : (b : Bool) → cond b (Some y) (found t xs os) ≡ Some o → (found t xs os ≡ Some o → Q o) → Q o
    by true is later = subst Q (same_Some y o is) h.0
    by false is later = later is

module _ (read : Env → Bool → List ℕ → Reading) where
  pub record Packs (s : System) : Type 0 where
    pub numbered : AreNumbered s.shared.library
    pub packets : ArePackets read s

  packs_shared : (s : System) (x : Shared) → x.library ≡ s.shared.library → Packs s → Packs (record s { shared = x })
  packs_shared s x same h = record {
    numbered = subst AreNumbered (sym same) h.numbered;
    packets = record {
      few = subst (λ (l : Library). length l.live ≤ PACKETS) (sym same) h.packets.few;
      rising = subst (λ (l : Library). AreRising l.live) (sym same) h.packets.rising;
      had = subst (λ (l : Library). AllByRecursion (λ (p : Live). list_any (has_packet p.number) s.owns ≡ true) l.live) (sym same) h.packets.had;
      behind = subst (λ (l : Library). AllByRecursion (OwnIsRead read l) s.owns) (sym same) h.packets.behind;
    };
  }

  packs_changed : (u : TaskNo) (f : Own → Own) → ((o : Own) → (f o).packets ≡ o.packets) → (s : System)
      → ((o : Own) → found u s.shared.tree.tasks s.owns ≡ Some o → OwnIsRead read s.shared.library o → OwnIsRead read s.shared.library (f o)) → Packs s
      → Packs (changed u f s)
  packs_changed u f same s one h =
      subst Packs (sym (changed_is u f s))
      (record {
        numbered = h.numbered;
        packets = record {
          few = h.packets.few;
          rising = h.packets.rising;
          had =
              all_map (λ (l : Live). list_any (has_packet l.number) s.owns ≡ true)
              (λ (l : Live). list_any (has_packet l.number) (changed_owns (place_in u s.shared.tree.tasks) f s.owns) ≡ true)
              (λ l some.
              any_changed (has_packet l.number) f (λ o e. ap (λ (ns : List ℕ). list_any (λ p. p == l.number) ns) (same o) ∙ e)
              (place_in u s.shared.tree.tasks) s.owns some)
              s.shared.library.live h.packets.had;
          behind =
              all_at (OwnIsRead read s.shared.library) (OwnIsRead read s.shared.library) f u (λ o e. e) s.shared.tree.tasks s.owns one h.packets.behind;
        };
      })

  packs_rests : (u : TaskNo) (store : Store) (s : System) → Packs s → Packs (does u (Idle store) s)
  packs_rests u store s h = packs_changed u (with_doing (Idle store)) (λ o. refl) s (λ o is e. (e.0, tt, e.2)) h

  packs_enters : (u : TaskNo) (name : List ℕ) (lines : List (List ℕ)) (store : Store) (s : System) → Packs s → Packs (does u (Entering name lines store) s)
  packs_enters u name lines store s h = packs_changed u (with_doing (Entering name lines store)) (λ o. refl) s (λ o is e. (e.0, tt, e.2)) h

  packets_at : (u : TaskNo) (s : System) (o : Own) → found u s.shared.tree.tasks s.owns ≡ Some o → packets u s ≡ o.packets
  packets_at u s o is = ap packets_of (own_found u s ∙ is)

  packs_runs : (u : TaskNo) (c : Command) (s : System) → IsRead read (env_of s.shared.library (packets u s)) c.unit → Packs s → Packs (does u (Running c) s)
  packs_runs u c s reads h =
      packs_changed u (with_doing (Running c)) (λ o. refl) s
      (λ o is e. (e.0, subst (λ (ns : List ℕ). IsRead read (env_of s.shared.library ns) c.unit) (packets_at u s o is) reads, e.2)) h

  replied_read : (a : Answer) (lib : Library) (o : Own) (d : Doing) → DoesRead read lib o d → DoesRead read lib o (replied a d)
  replied_read a lib o d h = by d (request_of d) h
    where
      by : (d : Doing) (q : Option Request) → DoesRead read lib o d → DoesRead read lib o (with_reply_to q a d)
      by (Idle store) None h = h
      by (Idle store) (Some q) h = h
      by (Entering name lines store) None h = h
      by (Entering name lines store) (Some q) h = h
      by (Running c) None h = h
      by (Running c) (Some q) h = h

  packs_given : (u : TaskNo) (a : Answer) (s : System) → Packs s → Packs (given u a s)
  packs_given u a s h =
      packs_changed u (λ (o : Own). with_doing (replied a o.doing) o) (λ o. refl) s
      (λ o is e. (e.0, as_same o (replied a o.doing) (replied_read a s.shared.library o o.doing e.1), e.2)) h
    where
      -- what was compiled behind its packets looks at these alone
      as_same : (o : Own) (d : Doing) → DoesRead read s.shared.library o d → DoesRead read s.shared.library (with_doing d o) d
      as_same o (Idle store) h = tt
      as_same o (Entering name lines store) h = tt
      as_same o (Running c) h = h

  packs_back : (u : TaskNo) (s : System) → Packs s → Packs (back u s)
  packs_back u s h = by (can_be_ready u s)
    where
      by : (b : Bool) → Packs (if b then on_ready (rotation.at_back u) s else s)
      by true = packs_shared s (record s.shared { ready = rotation.at_back u s.shared.ready }) refl h
      by false = h

  packs_woken : (u : TaskNo) (a : Answer) (s : System) → Packs s → Packs (woken u a s)
  packs_woken u a s h = packs_back u (given u a s) (packs_given u a s h)

  -- what a command was compiled to
  reads_own : (u : TaskNo) (c : Command) (s : System) → command u s ≡ Some c → Packs s → IsRead read (env_of s.shared.library (packets u s)) c.unit
  reads_own u c s at h = by (own u s) refl at
    where
      its : (o : Own) (d : Doing) → d ≡ Running c → DoesRead read s.shared.library o d → IsRead read (env_of s.shared.library o.packets) c.unit
      its o d is e = subst (λ (x : Doing). DoesRead read s.shared.library o x) is e

      runs : (d : Doing) → command_of d ≡ Some c → d ≡ Running c
      runs (Idle store) e = absurd (none-some c e)
      runs (Entering name lines store) e = absurd (none-some c e)
      runs (Running x) e = ap Running (same_Some x c e)

      by : (p : Option Own) → own u s ≡ p → option_and_then command_of (option_map (λ (o : Own). o.doing) p) ≡ Some c
          → IsRead read (env_of s.shared.library (packets_of (own u s))) c.unit
      by None has e = absurd (none-some c e)
      by (Some o) has e =
          subst (λ (p : Option Own). IsRead read (env_of s.shared.library (packets_of p)) c.unit) (sym has)
          (its o o.doing (runs o.doing e)
          (found_all (OwnIsRead read s.shared.library) u s.shared.tree.tasks s.owns o (sym (own_found u s) ∙ has) h.packets.behind).1)

  packets_does : (u : TaskNo) (d : Doing) (s : System) → packets u (does u d s) ≡ packets u s
  packets_does u d s = ap packets_of (own_changed u (with_doing d) s) ∙ by (own u s)
    where
      by : (p : Option Own) → packets_of (option_map (with_doing d) p) ≡ packets_of p
      by None = refl
      by (Some o) = refl

  -- it is so still where the task does something else
  abbrev Reads : TaskNo → Command → System → Type 0
  Reads u c s = IsRead read (env_of s.shared.library (packets u s)) c.unit

  reads_does : (u : TaskNo) (d : Doing) (c : Command) (s : System) → Reads u c s → Reads u c (does u d s)
  reads_does u d c s h =
      subst (λ (lib : Library). IsRead read (env_of lib (packets u (does u d s))) c.unit) (sym (ap (λ (x : Shared). x.library) (shared_changed u (with_doing d) s)))
      (subst (λ (ns : List ℕ). IsRead read (env_of s.shared.library ns) c.unit) (sym (packets_does u d s)) h)

  -- ---- a son begins

  packs_begun : (name : List ℕ) (u : TaskNo) (d : Doing) (s : System) → DoesRead read s.shared.library (record { packets = packets u s; doing = d }) d → Packs s
      → Packs (begun name u d s)
  packs_begun name u d s reads h = record {
    numbered = h.numbered;
    packets = record {
      few = h.packets.few;
      rising = h.packets.rising;
      had =
          all_map (λ (l : Live). list_any (has_packet l.number) s.owns ≡ true) (λ (l : Live). list_any (has_packet l.number) (s.owns ++ son ∷ []) ≡ true)
          (λ l some. list_any-append (has_packet l.number) s.owns (son ∷ []) ∙ or_left (list_any (has_packet l.number) s.owns) _ some)
          s.shared.library.live h.packets.had;
      behind = all_append (OwnIsRead read s.shared.library) s.owns (son ∷ []) h.packets.behind ((both.0, reads, both.1), tt);
    };
  }
    where
      son : Own
      son = record { packets = packets u s; doing = d }

      by : (p : Option Own) → own u s ≡ p → AreBehind read s.shared.library nothing (packets_of p) × DoRise (packets_of p)
      by None has = (tt, tt)
      by (Some o) has =
          let all = found_all (OwnIsRead read s.shared.library) u s.shared.tree.tasks s.owns o (sym (own_found u s) ∙ has) h.packets.behind in
          (all.0, all.2)

      both : AreBehind read s.shared.library nothing (packets_of (own u s)) × DoRise (packets_of (own u s))
      both = by (own u s) refl

  -- ---- a task goes

  all_packs : (us : List TaskNo) (s : System) → Packs s → Packs (all_woken no_task us s)
  all_packs [] s h = h
  all_packs (v ∷ us) s h = all_packs us (woken v no_task s) (packs_woken v no_task s h)

  without_read : (lib : Library) (p : Option ℕ) (os : List Own) → AllByRecursion (OwnIsRead read lib) os → AllByRecursion (OwnIsRead read lib) (without_own p os)
  without_read lib None os h = h
  without_read lib (Some k) os h = all_remove (OwnIsRead read lib) os k h

  had_then : (w : TaskNo) (s : System) (l : Live) → list_any (has_packet l.number) s.owns ≡ true
      → Had (without_own (place_in w s.shared.tree.tasks) s.owns) (packets w s) l
  had_then w s l some = by (split (has_packet l.number) w s.shared.tree.tasks s.owns some)
    where
      by : (list_any (has_packet l.number) (without_own (place_in w s.shared.tree.tasks) s.owns) ≡ true)
          ⊎ ((o : Own) × (found w s.shared.tree.tasks s.owns ≡ Some o) × (has_packet l.number o ≡ true))
          → Had (without_own (place_in w s.shared.tree.tasks) s.owns) (packets w s) l
      by (inl e) = inl e
      by (inr e) = inr (ap (λ (ns : List ℕ). list_any (λ p. p == l.number) ns) (packets_at w s e.0 e.1) ∙ e.2)

  had_still : (left : List Own) (l : Live) → Had left [] l → list_any (has_packet l.number) left ≡ true
  had_still left l (inl e) = e
  had_still left l (inr e) = absurd (false≢true e)

  packs_removed : (w : TaskNo) (s : System) → tree.lives w s.shared.tree ≡ true → Packs s → Packs (freed_by w (removed w s))
  packs_removed w s live h =
      subst (λ (x : System). Packs (freed_by w x)) (sym (removed_is w s live))
      (all_packs (rendezvous.waiting_for w (left w s).shared.waits) (on_waits (rendezvous.released w) (left w s)) (record {
        numbered = without_numbered (packets w s) others s.shared.library h.numbered;
        packets = record {
          few = kept.few;
          rising = kept.rising;
          had =
              all_map (Had (without_own (place_in w s.shared.tree.tasks) s.owns) [])
              (λ (l : Live). list_any (has_packet l.number) (without_own (place_in w s.shared.tree.tasks) s.owns) ≡ true)
              (λ l e. had_still (without_own (place_in w s.shared.tree.tasks) s.owns) l e)
              (without_packets (packets w s) (without_own (place_in w s.shared.tree.tasks) s.owns) s.shared.library).live kept.had;
          behind = kept.behind;
        };
      }))
    where
      others : List Own
      others = without_own (place_in w s.shared.tree.tasks) s.owns

      kept : Kept read (without_own (place_in w s.shared.tree.tasks) s.owns) []
          (without_packets (packets w s) (without_own (place_in w s.shared.tree.tasks) s.owns) s.shared.library)
      kept = kept_without read (packets w s) (without_own (place_in w s.shared.tree.tasks) s.owns) s.shared.library (record {
        few = h.packets.few;
        rising = h.packets.rising;
        had =
            all_map (λ (l : Live). list_any (has_packet l.number) s.owns ≡ true) (Had (without_own (place_in w s.shared.tree.tasks) s.owns) (packets w s))
            (λ l some. had_then w s l some) s.shared.library.live h.packets.had;
        behind = without_read s.shared.library (place_in w s.shared.tree.tasks) s.owns h.packets.behind;
      })

  packs_uncoupled : (c : Option ℕ) (m : Moment) → Packs m.system → Packs (uncouple_at c m).system
  packs_uncoupled None m h = h
  packs_uncoupled (Some c) m h = packs_shared m.system (record m.system.shared { channels = channels.uncoupled c m.system.shared.channels }) refl h

  packs_ended : (w : TaskNo) (m : Moment) → tree.lives w m.system.shared.tree ≡ true → Packs m.system → Packs (ended m w).system
  packs_ended w m live h = by (channels.channel_of w m.system.shared.channels)
    where
      by : (c : Option ℕ) → Packs (freed_by w (removed w (uncouple_at c m).system))
      by None = packs_removed w m.system live h
      by (Some c) = packs_removed w (on_channels (channels.uncoupled c) m.system) live (packs_uncoupled (Some c) m h)

  packs_all_ended : (ts : List TaskNo) (m : Moment) → IsSystem m.system → EndInTurn ts m.system.shared.tree → Packs m.system → Packs (fold ended m ts).system
  packs_all_ended [] m is turn h = h
  packs_all_ended (w ∷ ts) m is turn h =
      packs_all_ended ts (ended m w) (ended_sound w m is turn.0) (subst (EndInTurn ts) (sym (ended_tree w m is turn.0)) turn.1) (packs_ended w m turn.0.live h)

  -- ---- one is installed

  packs_inserted : IsReading read → (u : TaskNo) (c : Command) (i : Interface) (store : Store) (s : System) → Reads u c s → c.unit.shown ≡ Some i
      → doing u s ≡ Some (Idle store) → is_full s.shared.library ≡ false → Packs s → Packs (inserted u c.unit i s)
  packs_inserted good u c i store s reads shows idle room h = by (own u s) refl idle
    where
      lib : Library
      lib = s.shared.library

      f : Own → Own
      f = with_packet (s.shared.library.last + 1)

      later : System
      later = sharing (λ x. record x { library = installed c.unit i x.library }) s

      new : Live
      new = record {
        number = s.shared.library.last + 1;
        unit = c.unit;
        after = compiled.after c.unit.packets i c.unit.core (s.shared.library.last + 1);
      }

      few : nat_le PACKETS (length s.shared.library.live) ≡ false
      few = at (nat_le PACKETS (length s.shared.library.live)) room
        where
          at : (b : Bool) → (if b then true else nat_le last_number s.shared.library.last) ≡ false → b ≡ false
          at true e = absurd (false≢true (sym e))
          at false e = refl

      more : (k n : ℕ) (ns : List ℕ) → list_any (λ p. p == k) ns ≡ true → list_any (λ p. p == k) (ns ++ n ∷ []) ≡ true
      more k n ns e = list_any-append (λ p. p == k) ns (n ∷ []) ∙ or_left (list_any (λ p. p == k) ns) _ e

      last : (n : ℕ) (ns : List ℕ) → list_any (λ p. p == n) (ns ++ n ∷ []) ≡ true
      last n ns = list_any-append (λ p. p == n) ns (n ∷ []) ∙ or_right (list_any (λ p. p == n) ns) _ (or_left (n == n) false (eq-eqb n n refl))

      by : (p : Option Own) → own u s ≡ p → option_map (λ (o : Own). o.doing) p ≡ Some (Idle store) → Packs (inserted u c.unit i s)
      by None has e = absurd (none-some (Idle store) e)
      by (Some o) has e =
          subst Packs (sym (changed_is u f later))
          (record {
            numbered = installed_numbered c.unit i s.shared.library h.numbered;
            packets = record {
              few =
                  let less = leb-false PACKETS (length s.shared.library.live) few in
                  let long = length-append s.shared.library.live (new ∷ []) in
                  omega (arith, less, long);
              rising = rising_push s.shared.library.last s.shared.library.live new h.numbered refl h.packets.rising;
              had =
                  all_append (λ (l : Live). list_any (has_packet l.number) (changed_owns (place_in u s.shared.tree.tasks) f s.owns) ≡ true)
                  s.shared.library.live (new ∷ [])
                  (all_map (λ (l : Live). list_any (has_packet l.number) s.owns ≡ true)
                  (λ (l : Live). list_any (has_packet l.number) (changed_owns (place_in u s.shared.tree.tasks) f s.owns) ≡ true)
                  (λ l some. any_changed (has_packet l.number) f (λ x e. more l.number (s.shared.library.last + 1) x.packets e) (place_in u s.shared.tree.tasks) s.owns some)
                  s.shared.library.live h.packets.had) (
                    any_at (has_packet (s.shared.library.last + 1)) f u s.shared.tree.tasks s.owns o (sym (own_found u s) ∙ has)
                        (last (s.shared.library.last + 1) o.packets),
                    tt,
                  );
              behind =
                  all_at (OwnIsRead read s.shared.library) (OwnIsRead read (installed c.unit i s.shared.library)) f u
                  (λ x e. own_before read c.unit i s.shared.library x e) s.shared.tree.tasks s.owns
                  (λ x is e.
                  own_with read c.unit i s.shared.library good h.numbered x store
                  (same_Some x.doing (Idle store) (ap (option_map (λ (y : Own). y.doing)) (sym is) ∙ (ap (option_map (λ (y : Own). y.doing)) (sym (own_found u s)) ∙ idle)))
                  (subst (λ (ns : List ℕ). IsRead read (env_of s.shared.library ns) c.unit) (packets_at u s x is) reads) shows e)
                  h.packets.behind;
            };
          })

  -- ---- the steps of a task

  packs_waits : (f : Waits → Waits) (s : System) → Packs s → Packs (on_waits f s)
  packs_waits f s h = packs_shared s (record s.shared { waits = f s.shared.waits }) refl h

  packs_channels : (f : List channels.Channel → List channels.Channel) (s : System) → Packs s → Packs (on_channels f s)
  packs_channels f s h = packs_shared s (record s.shared { channels = f s.shared.channels }) refl h

  packs_steps : IsReading read → (u : TaskNo) → Steps read u Packs (Reads u) AnyLine
  packs_steps good u = record {
    starts = λ packet text unit store s is reads h.
        packs_back u (does u (Running (starting unit (kept u s))) s) (packs_runs u (starting unit (kept u s)) s (of_text packet text reads) h);
    enters = λ name store s is none h. packs_enters u name [] (kept u s) s h;
    adds = λ name lines line store s is fits few h. packs_enters u name (lines ++ line ∷ []) store s h;
    rests = λ d store s is rests h. packs_rests u store s h;
    takes = λ c s h. packs_channels (channels.unqueued c) s h;
    fits = λ c line lines s h is. tt;
    inserts = λ c i store s reads shows is room h. packs_inserted good u c i store s reads shows is room h;
  }

  -- ---- a request

  abbrev PacksServed : Served → Type 0
  PacksServed (Replies a m) = Packs m.system
  PacksServed (Rests m) = Packs m.system

  module _ (u : TaskNo) (m : Moment) (is : IsSystem m.system) (h : Packs m.system) where
    packs_put : (bytes : List ℕ) (ends : Bool) (c : Option ℕ) → PacksServed (put c bytes ends m)
    packs_put bytes ends None = h
    packs_put bytes ends (Some c) = h

    packs_input : (c : Option ℕ) → PacksServed (input c m)
    packs_input None = h
    packs_input (Some c) = by (channels.channel c m.system.shared.channels).queue
      where
        by : (queue : List (List ℕ)) → PacksServed (line_taken queue c m)
        by [] = h
        by (line ∷ lines) = packs_channels (channels.unqueued c) m.system h

    packs_begins : (name : List ℕ) (start : ℕ) (unit : Option Compiled) (stop : Option Stop) → started_at m.system.shared.library (packets u m.system) start ≡ unit
        → PacksServed (begin_with stop unit name u m)
    packs_begins name start unit (Some stop) e = h
    packs_begins name start None None e = h
    packs_begins name start (Some unit) None e =
        packs_back (next m.system) (begun name u (Running (starting unit (heir (kept u m.system)))) m.system)
        (packs_begun name u (Running (starting unit (heir (kept u m.system)))) m.system (of_start start e) h)

    packs_ends : (v : TaskNo) (b : Bool) → tree.lives v m.system.shared.tree ≡ b → PacksServed (end_living b u v m)
    packs_ends v false e = h
    packs_ends v true e = by (may_end u v m.system) refl
      where
        which : (b : Bool) → Packs (ended_with_descendants v m).system
            → PacksServed (if b then Rests (ended_with_descendants v m) else Replies (plain replies.Done) (ended_with_descendants v m))
        which true x = x
        which false x = x

        by : (b : Bool) → may_end u v m.system ≡ b → PacksServed (end_allowed b u v m)
        by false e' = h
        by true can =
            which (is_task u v) (packs_all_ended (family v m.system.shared.tree) m is (may u v m.system is.tree e can).turn h)

    packs_sent : (o : Offer) (c : Caller) (x : Space) → PacksServed (sent o c x m)
    packs_sent offers.Taken c x =
        packs_woken c.to (message c.code c.from x c.to m.system) (on_waits (rendezvous.offered c false) m.system)
        (packs_waits (rendezvous.offered c false) m.system h)
    packs_sent offers.NotReady c x = h
    packs_sent offers.Queued c x = packs_waits (rendezvous.offered c true) m.system h

    packs_send : (b : Bool) (c : Caller) (space : ℕ) → PacksServed (send_living b c space m)
    packs_send false c space = h
    packs_send true c space = packs_sent (rendezvous.offer c.from c.to false m.system.shared.waits) c (content c.from space m.system)

    packs_call : (b : Bool) (c : Caller) (space : ℕ) → PacksServed (call_living b c space m)
    packs_call false c space = h
    packs_call true c space = by (is_task c.to c.from)
      where
        by : (b : Bool) → PacksServed (if b then Replies (plain (replies.Receipt (negsuc 1))) m else send_to true c space m)
        by true = h
        by false = packs_sent (rendezvous.offer c.from c.to true m.system.shared.waits) c (content c.from space m.system)

    packs_taken : (o : Option Caller) → PacksServed (call_taken o u m)
    packs_taken None = packs_waits (rendezvous.waited u) m.system h
    packs_taken (Some c) =
        packs_given c.from (plain replies.Taken)
        (on_waits (λ w. rendezvous.entered (record { task = c.from; of = Some u }) (rendezvous.waited u w)) m.system)
        (packs_waits (λ w. rendezvous.entered (record { task = c.from; of = Some u }) (rendezvous.waited u w)) m.system h)

    packs_unless : (o : Option Stop) (a : Served) → PacksServed a → PacksServed (unless_stopped o a m)
    packs_unless (Some stop) a x = h
    packs_unless None a x = x

    packs_serves : (q : Request) → PacksServed (serve u q m)
    packs_serves (Out bytes ends) = packs_put bytes ends (channels.channel_of u m.system.shared.channels)
    packs_serves Input = packs_input (channels.channel_of u m.system.shared.channels)
    packs_serves (Begin name start) =
        packs_begins name start (started_at m.system.shared.library (packets u m.system) start) (begin_refusal name m.system) refl
    packs_serves Myself = h
    packs_serves (Father of) = h
    packs_serves (Son of) = h
    packs_serves (Brother of) = h
    packs_serves (Named name) = h
    packs_serves (Name of) = h
    packs_serves (Exists of) = h
    packs_serves (End of) = packs_ends (named_or of u) (tree.lives (named_or of u) m.system.shared.tree) refl
    packs_serves Break = packs_uncoupled (channels.channel_of u m.system.shared.channels) m h
    packs_serves (Send to code space) =
        packs_unless (space_refusal u space m.system) (send_living (tree.lives (number to) m.system.shared.tree) (caller u to code) space m)
        (packs_send (tree.lives (number to) m.system.shared.tree) (caller u to code) space)
    packs_serves Wait =
        packs_unless (room_refusal (heads_of (kept u m.system).spaces)) (call_taken (first_caller u m.system.shared.waits) u m)
        (packs_taken (first_caller u m.system.shared.waits))
    packs_serves (Call to code space) =
        packs_unless (call_refusal u space m.system) (call_living (tree.lives (number to) m.system.shared.tree) (caller u to code) space m)
        (packs_call (tree.lives (number to) m.system.shared.tree) (caller u to code) space)
    packs_serves (requests.Answer of) =
        packs_waits (rendezvous.entered (record { task = u; of = Some (number of) })) m.system h

  -- ---- a turn

  pub record WithPackets (u : TaskNo) (s : System) : Type 0 where
    pub between : Between u s
    pub packs : Packs s

  served_packs : (u : TaskNo) (a : Served) → ServedSo u (Between u) AllStand a → PacksServed a → ServedSo u (WithPackets u) Packs a
  served_packs u (Replies a m) x y = record { between = x; packs = packs_given u a m.system y }
  served_packs u (Rests m) x y = y

  module _ (steady : AreSteady) (good : IsReading read) where
    packs_turning : (u : TaskNo) → Goes u (WithPackets u) Packs (Reads u)
    packs_turning u = record {
      leaves = λ c store s at h. (packs_rests u store s h.packs, reads_does u (Idle store) c s (reads_own u c s at h.packs));
      marks = λ c left w s at is h.
          packs_back u (does u (Running (spent left w c)) s) (packs_runs u (spent left w c) s (reads_own u c s at h.packs) h.packs);
      costs = λ c left q w s at is h. costs_so steady u c left q w is (h.between.may c at);
      serves = λ c left q w m at is h.
          served_packs u (serve u q (on_system (does u (Running (spent left w c))) m)) (serves_so steady u c left q w m at is h.between)
          (packs_serves u (on_system (does u (Running (spent left w c))) m) (quiet_does u (Running (spent left w c)) m.system h.between.sound).sound
          (packs_runs u (spent left w c) m.system (reads_own u c m.system at h.packs) h.packs) q);
      stops = λ s at h. h.packs;
    }

    pub turn_packs : (m : Moment) → IsSystem m.system → AreOrderly m.system → AllStand m.system → Packs m.system → Packs (turn read m).system
    turn_packs m is order stands h = by m.system.shared.ready refl
      where
        by : (ready : List TaskNo) → m.system.shared.ready ≡ ready → Packs (on_display close_all (turn_of read ready m)).system
        by [] e = h
        by (u ∷ ready) e =
            slices read u (WithPackets u) Packs (Reads u) AnyLine (packs_steps good u) (packs_turning u) most_evaluations turn_marks
            (on_system (on_ready (λ _. ready)) m) (enough steady)
            (record {
              between = begins_so steady u ready m.system is order e stands;
              packs = packs_shared m.system (record m.system.shared { ready = ready }) refl h;
            })

    turns_packs : (n : ℕ) (m : Moment) → IsSystem m.system → AreOrderly m.system → AllStand m.system → Packs m.system → Packs (turns read n m).system
    turns_packs zero m is order stands h = h
    turns_packs (suc n) m is order stands h =
        let later = turn_keeps steady read m is order in
        turns_packs n (turn read m) later.0 later.1 (turn_stands steady read m is order stands) (turn_packs m is order stands h)

    packs_channelled : Channelled Packs Reads AnyLine
    packs_channelled = record {
      couples = λ c t s can live h. packs_channels (channels.coupled c t) s h;
      frees = λ c s h. packs_channels (channels.uncoupled c) s h;
      lasts = λ c t s h. packs_channels (channels.with_last c t) s h;
      queues = λ c line s fits h. packs_channels (channels.queued c line) s h;
      unqueues = λ c s h. packs_channels (channels.unqueued c) s h;
      begins = λ name named s e is h.
          packs_begun name (tree.named named s.shared.tree) (Idle (heir (kept (tree.named named s.shared.tree) s))) s tt h;
      wakes = λ t a q s is none h. packs_woken t a s h;
      halts = λ t x store s runs h.
          let later : System = on_waits (rendezvous.left t) (on_ready (rotation.without t) s) in
          let there = packs_shared s (record s.shared { ready = rotation.without t s.shared.ready; waits = rendezvous.left t s.shared.waits }) refl h in
          (packs_rests t store later there, reads_does t (Idle store) x later (reads_own t x later (ap (option_and_then command_of) runs) there));
    }

    pub event_packs : (s : System) (e : Event) → IsSystem s → AreOrderly s → AllStand s → Packs s → Packs (after read s e)
    event_packs s (Turns n) is order stands h = turns_packs n (at_event s) is order stands h
    event_packs s (Line c line) is order stands h = line_so read Packs Reads AnyLine (packs_steps good) packs_channelled c line s tt is h
    event_packs s (Supervisor c) is order stands h = supervisor_so read Packs Reads AnyLine (packs_steps good) packs_channelled c s h
    event_packs s Fixpoint is order stands h = h
    event_packs s Shut is order stands h = h
