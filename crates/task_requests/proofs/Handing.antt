-- Messages that are handed from one task to another: which steps can change places.
use Rattle.std.proofs.Common.{◌≡◌, ◌≢◌, ℕ, zero, suc, Bool, true, false, cond, List, [], ◌∷◌, fold, Option, Some, None, refl, sym, ap, ◌∙◌, subst}
use Rattle.task_numbers.specs.declared.number.TaskNo.{TaskNo}
use Rattle.eu_base.specs.Requests.{Answer}
use Rattle.task_requests.specs.Below.message_wait.specs.Rendezvous.{Waits}
use Rattle.task_requests.specs.Below.slicer.specs.Rotation as rotation
use Rattle.task_requests.specs.Below.system_meaning.specs.Tasks.{Own, replied, with_doing}
use Rattle.task_requests.specs.Below.system_meaning.specs.Systems.{System, Shared, place, with_own, changed_at, given, woken, on_ready, on_waits, can_be_ready, back}
use Rattle.task_requests.specs.Below.system_meaning.specs.Ends.{no_task, freed_by}
use Rattle.task_requests.specs.Below.message_wait.specs.Rendezvous.{released, waiting_for}
use Rattle.task_requests.specs.Below.task_tree.specs.Tree.{Tree}
use Rattle.live_system.proofs.Waiting.{apart}

-- a task gets an answer
abbrev answered : Answer → Own → Own
answered a o = with_doing (replied a o.doing) o

swap : (j k : ℕ) (f g : Own → Own) (owns : List Own) → j ≢ k → with_own j f (with_own k g owns) ≡ with_own k g (with_own j f owns)
swap j k f g [] other = refl
swap zero zero f g (o ∷ owns) other = absurd (other refl)
swap zero (suc k) f g (o ∷ owns) other = refl
swap (suc j) zero f g (o ∷ owns) other = refl
swap (suc j) (suc k) f g (o ∷ owns) other = ap (λ (os : List Own). o ∷ os) (swap j k f g owns (λ e. other (ap suc e)))

-- what all tasks have together is the same
pub given_shared : (t : TaskNo) (a : Answer) (s : System) → (given t a s).shared ≡ s.shared
given_shared t a s = by (place t s)
  where
    by : (o : Option ℕ) → (changed_at o (answered a) s).shared ≡ s.shared
    by None = refl
    by (Some k) = refl

pub given_waits : (t : TaskNo) (a : Answer) (f : Waits → Waits) (s : System) → given t a (on_waits f s) ≡ on_waits f (given t a s)
given_waits t a f s = by (place t s)
  where
    by : (o : Option ℕ) → changed_at o (answered a) (on_waits f s) ≡ on_waits f (changed_at o (answered a) s)
    by None = refl
    by (Some k) = refl

given_ready : (t : TaskNo) (a : Answer) (f : List TaskNo → List TaskNo) (s : System) → given t a (on_ready f s) ≡ on_ready f (given t a s)
given_ready t a f s = by (place t s)
  where
    by : (o : Option ℕ) → changed_at o (answered a) (on_ready f s) ≡ on_ready f (changed_at o (answered a) s)
    by None = refl
    by (Some k) = refl

can_given : (t u : TaskNo) (a : Answer) (s : System) → can_be_ready u (given t a s) ≡ can_be_ready u s
can_given t u a s = by (place t s)
  where
    by : (o : Option ℕ) → can_be_ready u (changed_at o (answered a) s) ≡ can_be_ready u s
    by None = refl
    by (Some k) = refl

given_back : (t u : TaskNo) (a : Answer) (s : System) → given t a (back u s) ≡ back u (given t a s)
given_back t u a s =
    by (can_be_ready u s)
    ∙ ap (λ (b : Bool). cond b (on_ready (rotation.at_back u) (given t a s)) (given t a s)) (sym (can_given t u a s))
  where
    by : (b : Bool) → given t a (cond b (on_ready (rotation.at_back u) s) s) ≡ cond b (on_ready (rotation.at_back u) (given t a s)) (given t a s)
    by true = given_ready t a (rotation.at_back u) s
    by false = refl

place_given : (t u : TaskNo) (a : Answer) (s : System) → place u (given t a s) ≡ place u s
place_given t u a s = by (place t s)
  where
    by : (o : Option ℕ) → place u (changed_at o (answered a) s) ≡ place u s
    by None = refl
    by (Some k) = refl

given_given : (t u : TaskNo) (a b : Answer) (s : System) → t.0 ≢ u.0 → given t a (given u b s) ≡ given u b (given t a s)
given_given t u a b s other =
    ap (λ (p : Option ℕ). changed_at p (answered a) (given u b s)) (place_given u t b s)
    ∙ by (place t s) (place u s) refl refl
    ∙ ap (λ (p : Option ℕ). changed_at p (answered b) (given t a s)) (sym (place_given t u a s))
  where
    by : (o p : Option ℕ) → place t s ≡ o → place u s ≡ p
        → changed_at o (answered a) (changed_at p (answered b) s) ≡ changed_at p (answered b) (changed_at o (answered a) s)
    by None None e f = refl
    by None (Some k) e f = refl
    by (Some j) None e f = refl
    by (Some j) (Some k) e f =
        ap (λ (owns : List Own). record s { owns = owns }) (swap j k (answered a) (answered b) s.owns (apart t u s j k other (sym e) (sym f)))

-- a sender is told, and the receiver is ready with its message
pub handed_same : (t u : TaskNo) (a b : Answer) (s : System) → t.0 ≢ u.0 → back u (given u b (given t a s)) ≡ given t a (woken u b s)
handed_same t u a b s other =
    ap (λ (x : System). back u x) (given_given u t b a s (λ e. other (sym e))) ∙ sym (given_back t u a (given u b s))

-- the sender waits again, whatever it and the receiver were told before
pub entered_same : (t u : TaskNo) (a b : Answer) (f g : Waits → Waits) (s : System)
    → on_waits f (given t a (given u b (on_waits g s))) ≡ given t a (given u b (on_waits (λ w. f (g w)) s))
entered_same t u a b f g s =
    sym (given_waits t a f (given u b (on_waits g s))) ∙ ap (λ (x : System). given t a x) (sym (given_waits u b f (on_waits g s)))

-- ---- the tree is the same

pub woken_tree : (t : TaskNo) (a : Answer) (s : System) → (woken t a s).shared.tree ≡ s.shared.tree
woken_tree t a s = by (can_be_ready t (given t a s)) ∙ ap (λ (h : Shared). h.tree) (given_shared t a s)
  where
    by : (b : Bool) → (cond b (on_ready (rotation.at_back t) (given t a s)) (given t a s)).shared.tree ≡ (given t a s).shared.tree
    by true = refl
    by false = refl

all_woken_tree : (ts : List TaskNo) (s : System) → (fold (λ (s : System) (u : TaskNo). woken u no_task s) s ts).shared.tree ≡ s.shared.tree
all_woken_tree [] s = refl
all_woken_tree (t ∷ ts) s = all_woken_tree ts (woken t no_task s) ∙ woken_tree t no_task s

pub freed_tree : (t : TaskNo) (s : System) → (freed_by t s).shared.tree ≡ s.shared.tree
freed_tree t s = all_woken_tree (waiting_for t s.shared.waits) (on_waits (released t) s)
