-- Turns and evaluations, one after another.
use Rattle.std.proofs.Common.{◌≡◌, ℕ, suc, Bool, true, false, List, sym, ap, ◌∙◌, subst}
use Rattle.task_numbers.specs.declared.number.TaskNo.{TaskNo}
use Rattle.system.specs.Below.elan_scope.specs.declared.env.Env.{Env}
use Rattle.turn_laws.specs.Waits.{AreOrderly, HasTurn}
use Rattle.system.specs.Below.system_meaning.specs.Systems.{Moment, command}
use Rattle.system.specs.Below.system_meaning.specs.Monitor.{Reading}
use Rattle.system.specs.Below.system_meaning.specs.Turns.{went_on, slice, turn, turns}
use Rattle.system.specs.Below.live_system.specs.Machines.{Machine, StandsAt}
use Rattle.system.specs.Systems.{Stands}
use Rattle.system.specs.Leading.{Leads, TurnGoes}

pub goes_so : (t : TaskNo) (goes is : Bool) (now : Machine) (more : Moment → Moment) (last : Moment) → goes ≡ is
    → Leads goes (TurnGoes t goes) now more last → Leads is (TurnGoes t is) now more last
goes_so t goes is now more last e h = subst (λ b. Leads b (TurnGoes t b) now more last) e h

-- what does not go on stands for the last moment
pub stops : (t : TaskNo) (now : Machine) (more : Moment → Moment) (last : Moment) → Leads false (TurnGoes t false) now more last → StandsAt now last
stops t now more last h = subst (λ m. StandsAt now m) (sym h.rest) h.stands

module _ (read : Env → Bool → List ℕ → Reading) (t : TaskNo) where
  pub slice_first : (now : Machine) (n most left : ℕ) (m : Moment) → n ≡ most → HasTurn t m.system → StandsAt now m
      → Leads true (TurnGoes t true) now (slice read n t left) (slice read most t left m)
  slice_first now n most left m all turn h = record { moment = m; stands = h; known = turn; rest = ap (λ k. slice read k t left m) (sym all) }

  -- an evaluation more
  pub slice_next : (goes : Bool) (old new : Machine) (n n' left left' : ℕ) (last : Moment) → n ≡ suc n'
      → Leads true (TurnGoes t true) old (slice read n t left) last
      → ((m : Moment) → HasTurn t m.system → StandsAt old m → (more : ℕ → Moment → Moment)
      → Leads goes (TurnGoes t goes) new (more left') (went_on read (command t m.system) left more t m))
      → Leads goes (TurnGoes t goes) new (slice read n' t left') last
  slice_next goes old new n n' left left' last more h f =
      let next = f h.moment h.known h.stands (slice read n' t) in
      record {
        moment = next.moment;
        stands = next.stands;
        known = next.known;
        rest = h.rest ∙ (ap (λ k. slice read k t left h.moment) more ∙ next.rest);
      }

  pub slice_last : (now : Machine) (n left : ℕ) (last : Moment) → n ≡ 0 → Leads true (TurnGoes t true) now (slice read n t left) last → StandsAt now last
  slice_last now n left last none h = subst (λ m. StandsAt now m) (sym (h.rest ∙ ap (λ k. slice read k t left h.moment) none)) h.stands

-- between turns
abbrev pub AreInOrder : Moment → Type 0
AreInOrder m = AreOrderly m.system

module _ (read : Env → Bool → List ℕ → Reading) where
  pub turns_first : (now : Machine) (n most : ℕ) (m : Moment) → n ≡ most → Stands now m → Leads true AreInOrder now (turns read n) (turns read most m)
  turns_first now n most m all h = record { moment = m; stands = h.at; known = h.orderly; rest = ap (λ k. turns read k m) (sym all) }

  -- a turn more
  pub turns_next : (old new : Machine) (n n' : ℕ) (last : Moment) → n ≡ suc n' → Leads true AreInOrder old (turns read n) last
      → ((m : Moment) → Stands old m → Stands new (turn read m)) → Leads true AreInOrder new (turns read n') last
  turns_next old new n n' last more h f =
      let next = f h.moment (record { at = h.stands; orderly = h.known }) in
      record {
        moment = turn read h.moment;
        stands = next.at;
        known = next.orderly;
        rest = h.rest ∙ ap (λ k. turns read k h.moment) more;
      }

  pub turns_last : (now : Machine) (n : ℕ) (last : Moment) → n ≡ 0 → Leads true AreInOrder now (turns read n) last → Stands now last
  turns_last now n last none h =
      subst (λ m. Stands now m) (sym (h.rest ∙ ap (λ k. turns read k h.moment) none)) (record { at = h.stands; orderly = h.known })
