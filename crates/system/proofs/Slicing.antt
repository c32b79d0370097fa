-- A slice needs no more evaluations than one more than it has marks.
use Rattle.std.proofs.Common.{◌≡◌, ℕ, zero, suc, ◌+◌, ◌≤◌, ◌<◌, ◌⊎◌, inl, inr, Bool, true, false, List, [], ◌∷◌, ◌++◌, Option, Some, None, refl, sym, ap, ◌∙◌, subst, arith}
use Rattle.std.specs.Option.{option_map, option_and_then}
use Rattle.std.specs.List.{AllByRecursion}
use Rattle.std.proofs.lemmas.Option.{none-some, same_Some}
use Rattle.task_numbers.specs.declared.number.TaskNo.{TaskNo}
use Rattle.eu_base.specs.declared.request.Request.{Request}
use Rattle.eu_base.specs.declared.request.Request.TheVariants as requests
use Rattle.eu_base.specs.declared.request.Reply.{Reply}
use Rattle.eu_base.specs.declared.request.Reply.TheVariants.{Taken}
use Rattle.eu_base.specs.Requests.{Answer, then_asked}
use Rattle.system.specs.Below.elan_scope.specs.declared.env.Env.{Env}
use Rattle.elan_types.specs.Eval.{World, after_answer}
use Rattle.elan_types.specs.Command.{Ending, Ended, Stopped, OutOfMarks, Asks, evaluate}
use Rattle.system.specs.Below.task_tree.specs.Tree as tree
use Rattle.system.specs.Below.task_tree.specs.Trees.{IsTree}
use Rattle.system.specs.Below.system_meaning.specs.Tasks.{Command, Doing, Running, Own, ending, spent, with_reply, command_of, with_doing, replied}
use Rattle.system.specs.Below.system_meaning.specs.Systems.{System, Moment, own, doing, command, does, given, on_system}
use Rattle.system.specs.Below.system_meaning.specs.Serving.{Served, Replies, Rests, serve}
use Rattle.system.specs.Below.system_meaning.specs.Turns.{served, went, went_on, slice}
use Rattle.system.specs.Below.system_meaning.specs.Monitor.{Reading}
use Rattle.system.specs.Below.system_meaning.specs.Whole.{IsSystem}
use Rattle.turn_laws.specs.Own.{own_of}
use Rattle.turn_laws.specs.Told.{asked, asked_served, asked_by, asked_on}
use Rattle.turn_laws.specs.Steady.{AreSteady}
use Rattle.turn_laws.specs.Waits.{HasTurn}
use Rattle.turn_laws.proofs.Finding.{living}
use Rattle.turn_laws.proofs.Trees.{numbered}
use Rattle.turn_laws.proofs.Steps.{own_changed}
use Rattle.turn_laws.proofs.Rights.{nothing_done}
use Rattle.turn_laws.proofs.Orders.{AsksNow, doing_given, asks_spent}
use Rattle.turn_laws.proofs.Since.{same_doing, nothing_own}
use Rattle.turn_laws.proofs.Gone.{Serving}
use Rattle.turn_laws.proofs.Requests.{Follows, AfterServed}
use Rattle.turn_laws.proofs.Beside.{IsAsked, each_in, Turning, turning_in, runs_it, does_so, served_so, goes_on}

-- a request that is the answer of a call, for which its task rests
abbrev pub IsAnswer : Request → Type 0
IsAnswer q = (of : ℕ) × (q ≡ requests.Answer of)

-- a request of the command costs a mark, but for so many that were paid before, unless it is the answer of a call
abbrev pub Pays : ℕ → Command → Type 0
Pays owes c = (left : ℕ) (q : Request) (w : World) → ending c left ≡ Asks q w → (w.marks + 1 ≤ left + owes) ⊎ IsAnswer q

-- no other request follows a reply
follows_answer : (q : Request) (reply : Reply) (x : Request) → then_asked q reply ≡ Some x → IsAnswer x
follows_answer (requests.Call to code space) Taken x e = (to, sym (same_Some (requests.Answer to) x e))
follows_answer (requests.Call to code space) _ x e = absurd (none-some x e)
follows_answer _ reply x e = absurd (none-some x e)

-- what a task has for itself that does this
pub own_doing : (t : TaskNo) (s : System) (d : Doing) → doing t s ≡ Some d → (o : Own) × (own t s ≡ Some o) × (o.doing ≡ d)
own_doing t s d is = by (own t s) is
  where
    by : (p : Option Own) → option_map (λ (o : Own). o.doing) p ≡ Some d → (o : Own) × (p ≡ Some o) × (o.doing ≡ d)
    by None e = absurd (none-some d e)
    by (Some o) e = (o, refl, same_Some o.doing d e)

module _ (steady : AreSteady) where
  -- behind a reply it owes nothing, or asks for the answer at once
  replied_pays : (q : Request) (c : Command) (w : World) (a : Answer) → ending c 0 ≡ Asks q w → w.marks ≡ 0 → Pays 0 (with_reply a c)
  replied_pays q c w a asks none left r v e = by (then_asked q a.reply) refl
    where
      more : c.marks + left ≡ c.marks + 0 + left
      more = omega arith

      there : evaluate c.unit.core c.before.variables c.before.spaces (c.marks + 0 + left) (c.replies ++ a ∷ []) ≡ Asks r v
      there = ap (λ k. evaluate c.unit.core c.before.variables c.before.spaces k (c.replies ++ a ∷ [])) (sym more) ∙ e

      by : (o : Option Request) → then_asked q a.reply ≡ o → (v.marks + 1 ≤ left + 0) ⊎ IsAnswer r
      by None is =
          let paid = (steady c.unit.core c.before.variables c.before.spaces).costs (c.marks + 0) left c.replies q r w v a asks is there in
          inl (omega (arith, paid, none))
      by (Some x) is =
          let at = (steady c.unit.core c.before.variables c.before.spaces).next (c.marks + 0) c.replies q w a x asks is in
          let on = (steady c.unit.core c.before.variables c.before.spaces).more (c.marks + 0) left (c.replies ++ a ∷ []) x (after_answer q a [] w) at in
          let both : Asks x (record (after_answer q a [] w) { marks = w.marks + left }) ≡ Asks r v = sym on ∙ there in
          let same : x ≡ r = cc both in
          inr (subst IsAnswer same (follows_answer q a.reply x is))

  module _ (read : Env → Bool → List ℕ → Reading) (t : TaskNo) (said : List Request) (first : System) (is_first : IsTree first.shared.tree)
      (low : t.0 ≤ first.shared.tree.last) where
    -- the task has its turn, and its command owes at most so much
    pub record Goes (owes : ℕ) (m : Moment) : Type 0 where
      pub turning : Turning t said first m.system
      pub pays : (c : Command) → command t m.system ≡ Some c → Pays owes c

    abbrev IsEnough : ℕ → Type 0
    IsEnough n =
        (left owes : ℕ) (m : Moment) → Goes owes m → left + owes < n → AllByRecursion (IsAsked said) (asked n t left m) → (more : ℕ)
        → slice read (n + more) t left m ≡ slice read n t left m

    module _ (n left owes : ℕ) (m : Moment) (h : Goes owes m) (few : left + owes < suc n) (more : ℕ) (ih : IsEnough n) where
      module _ (c : Command) (is : command t m.system ≡ Some c) (q : Request) (w : World) (e : ending c left ≡ Asks q w) where
        abbrev now : Moment
        now = on_system (does t (Running (spent left w c))) m

        asks : ending (spent left w c) 0 ≡ Asks q (record w { marks = 0 })
        asks = asks_spent steady c left q w e

        -- with the reply it goes on
        on_reply : (a : Answer) (k : Moment) → Serving t said first now.system k.system → Follows t q a k.system → Goes 0 (on_system (given t a) k)
        on_reply a k serves follows = record {
          turning = goes_on steady t said first is_first low c left q w m is e h.turning a k serves follows;
          pays = λ x at. stays x at serves.mine;
        }
          where
            stays : (x : Command) → command t (given t a k.system) ≡ Some x → (own_of t k.system ≡ own_of t now.system) ⊎ (own_of t k.system ≡ None) → Pays 0 x
            stays x at (inl same) =
                let o = own_doing t k.system (Running (spent left w c))
                (same_doing t now.system k.system same ∙ does_so t (Running (spent left w c)) (Running c) m.system (runs_it t m.system c is)) in
                let asker : AsksNow t k.system q = record {
                  now = o.0;
                  command = spent left w c;
                  world = record w { marks = 0 };
                  has = o.1;
                  does = o.2;
                  asks = asks;
                } in
                subst (Pays 0) (same_Some (with_reply a (spent left w c)) x (sym (ap (option_and_then command_of) (doing_given t a k.system q asker)) ∙ at))
                (replied_pays q (spent left w c) (record w { marks = 0 }) a asks refl)
            stays x at (inr none) =
                absurd (none-some x
                (sym (ap (λ (p : Option Own). option_and_then command_of (option_map (λ (o : Own). o.doing) p))
                (own_changed t (λ (o : Own). with_doing (replied a o.doing) o) k.system
                ∙ ap (option_map (λ (o : Own). with_doing (replied a o.doing) o)) (nothing_own t k.system none))) ∙ at))

        -- one that is answered has fewer marks left
        served_same : w.marks + 1 ≤ left + owes → (x : Served) → AfterServed t said first q now.system x
            → AllByRecursion (IsAsked said) (asked_served x (asked n t w.marks) t)
            → served x (slice read (n + more) t w.marks) t ≡ served x (slice read n t w.marks) t
        served_same paid (Rests k) after all = refl
        served_same paid (Replies a k) after all =
            ih w.marks 0 (on_system (given t a) k) (on_reply a k after.0 after.1) (omega (arith, paid, few)) all more

        request_same : IsAsked said q → AllByRecursion (IsAsked said) (asked_served (serve t q now) (asked n t w.marks) t)
            → served (serve t q now) (slice read (n + more) t w.marks) t ≡ served (serve t q now) (slice read n t w.marks) t
        request_same sent all = by (h.pays c is left q w e)
          where
            by : (w.marks + 1 ≤ left + owes) ⊎ IsAnswer q
                → served (serve t q now) (slice read (n + more) t w.marks) t ≡ served (serve t q now) (slice read n t w.marks) t
            by (inl paid) =
                served_same paid (serve t q now) (served_so steady t said first is_first low c left q w m is e h.turning sent) all
            by (inr answer) =
                subst
                (λ (r : Request). served (serve t r now) (slice read (n + more) t w.marks) t ≡ served (serve t r now) (slice read n t w.marks) t)
                (sym answer.1) refl

      went_same : (c : Command) → command t m.system ≡ Some c → (x : Ending) → ending c left ≡ x → AllByRecursion (IsAsked said) (asked_by x left (asked n t) t c m)
          → went read x left (slice read (n + more) t) t c m ≡ went read x left (slice read n t) t c m
      went_same c is (Ended w) e all = refl
      went_same c is (Stopped stop w) e all = refl
      went_same c is (OutOfMarks w) e all = refl
      went_same c is (Asks q w) e all = request_same c is q w e all.0 all.1

      went_on_same : (p : Option Command) → command t m.system ≡ p → AllByRecursion (IsAsked said) (asked_on p left (asked n t) t m)
          → went_on read p left (slice read (n + more) t) t m ≡ went_on read p left (slice read n t) t m
      went_on_same None is all = refl
      went_on_same (Some c) is all = went_same c is (ending c left) refl all

    pub enough : (n : ℕ) → IsEnough n
    enough zero left owes m h few all more = absurd (omega (arith, few))
    enough (suc n) left owes m h few all more =
        let e : suc n + more ≡ suc (n + more) = omega arith in
        ap (λ k. slice read k t left m) e ∙ went_on_same n left owes m h few more (enough n) (command t m.system) refl all

  module _ (read : Env → Bool → List ℕ → Reading) (t : TaskNo) (left : ℕ) (m : Moment) (is : IsSystem m.system) (turn : HasTurn t m.system)
      (pays : (c : Command) → command t m.system ≡ Some c → Pays 1 c) where
    -- where it lives
    living_enough : (n : ℕ) → tree.lives t m.system.shared.tree ≡ true → left + 1 < n → (more : ℕ) → slice read (n + more) t left m ≡ slice read n t left m
    living_enough n live few more =
        enough read t said m.system is.tree (let found = living t m.system.shared.tree.tasks live in (numbered m.system.shared.tree t found.0 is.tree found.1).given)
        n left 1 m (record { turning = turning_in t said m.system is turn; pays = pays }) few (each_in said said (λ u e. e)) more
      where
        said : List Request
        said = asked n t left m

    -- one that does not live has no command
    gone_enough : (n : ℕ) → tree.lives t m.system.shared.tree ≡ false → left + 1 < n → (more : ℕ) → slice read (n + more) t left m ≡ slice read n t left m
    gone_enough zero dead few more = absurd (omega (arith, few))
    gone_enough (suc n) dead few more =
        let e : suc n + more ≡ suc (n + more) = omega arith in
        let none : command t m.system ≡ None = ap (option_and_then command_of) (nothing_done t m.system dead) in
        ap (λ k. slice read k t left m) e
        ∙ (ap (λ (p : Option Command). went_on read p left (slice read (n + more) t) t m) none
        ∙ sym (ap (λ (p : Option Command). went_on read p left (slice read n t) t m) none))

    -- a task that has its turn
    pub turn_enough : (n : ℕ) → left + 1 < n → (more : ℕ) → slice read (n + more) t left m ≡ slice read n t left m
    turn_enough n few more = by (tree.lives t m.system.shared.tree) refl
      where
        by : (b : Bool) → tree.lives t m.system.shared.tree ≡ b → slice read (n + more) t left m ≡ slice read n t left m
        by true live = living_enough n live few more
        by false dead = gone_enough n dead few more
