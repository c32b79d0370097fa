-- A command does the same where the bodies that it reaches are the same.
use Rattle.std.proofs.Common.{◌≡◌, ℕ, zero, suc, ◌+◌, ◌&&◌, List, length, map, Option, Some, None, refl, ap, ◌∙◌}
use Rattle.std.specs.Prelude.{slice_get}
use Rattle.eu_base.specs.declared.value.Value.{Value}
use Rattle.eu_base.specs.declared.stop.Stop.TheVariants.{CellRoom}
use Rattle.eu_base.specs.Room.{cells_fit}
use Rattle.elan_types.specs.declared.core_phrase.Body.{Body}
use Rattle.elan_types.specs.declared.core_phrase.Core.{Core}
use Rattle.elan_types.specs.Typing.{all_packet_kinds}
use Rattle.elan_types.specs.Eval.{Slot, World, Outcome, Gives, Stopped, bind, branch, spend, with_room, all, act, content, frame, link, called, referred}
use Rattle.elan_types.specs.Eval.{own_variables, run_called, run_referred, level}
use Rattle.elan_types.specs.Command.{Ending, ending, call_kinds, first_kinds, start_fits, run_started, run_from, evaluate_from}
use Rattle.code_gen.specs.Reached.{IsReached, by_units, at_start, by_body, with_bodies}
use Rattle.code_gen.proofs.Same.{Agree, at', ap2, units_same, content_same}

abbrev Called : Type 0
Called = List Slot → ℕ → World → Outcome (Option (List Value))

abbrev Referred : Type 0
Referred = ℕ → ℕ → World → Outcome (Option (List Value))

module _ (core : Core) (made : List Body) (kept : (n : ℕ) → IsReached core n → slice_get made n ≡ slice_get core.bodies n) where
  module _ (k : ℕ) (agree : (i : ℕ) → IsReached core i → Agree (level made k) (level core.bodies k) i) where
    body_same : (n : ℕ) (b : Body) → IsReached core n → slice_get core.bodies n ≡ Some b
        → at' (level made k) (content b.content) ≡ at' (level core.bodies k) (content b.content)
    body_same n b r is = content_same (level made k) (level core.bodies k) b.content (λ i h. agree i (by_body n i b r is h))

    call_same : (n : ℕ) (o : Option Body) → IsReached core n → slice_get core.bodies n ≡ o
        → ◌≡◌ {A = Called} (λ xs held. spend (run_called (level made k) k o xs held)) (λ xs held. spend (run_called (level core.bodies k) k o xs held))
    call_same n None r is = refl
    call_same n (Some b) r is =
        ap {B = Called}
        (λ f xs held. spend (λ w. with_room (frame xs (own_variables b.scope)) (λ w'. called (length w.store) (f k (length w.store + 2) held w')) w))
        (body_same n b r is)

    refer_same : (n : ℕ) (o : Option Body) → IsReached core n → slice_get core.bodies n ≡ o
        → ◌≡◌ {A = Referred} (λ base held. spend (run_referred (level made k) k o base held))
        (λ base held. spend (run_referred (level core.bodies k) k o base held))
    refer_same n None r is = refl
    refer_same n (Some b) r is =
        ap {B = Referred} (λ f base held. spend (λ w. with_room link (λ w'. referred (length w.store) (f k base held w')) w)) (body_same n b r is)

    deeper : (n : ℕ) → IsReached core n → Agree (level made (suc k)) (level core.bodies (suc k)) n
    deeper n r = (
      ap {B = Called} (λ o xs held. spend (run_called (level made k) k o xs held)) (kept n r) ∙ call_same n (slice_get core.bodies n) r refl,
      ap {B = Referred} (λ o base held. spend (run_referred (level made k) k o base held)) (kept n r) ∙ refer_same n (slice_get core.bodies n) r refl,
    )

  calls_agree : (k n : ℕ) → IsReached core n → Agree (level made k) (level core.bodies k) n
  calls_agree zero n r = (refl, refl)
  calls_agree (suc k) n r = deeper k (calls_agree k) n r

  units_agree : (k : ℕ) → at' (level made k) (all (map act core.units)) ≡ at' (level core.bodies k) (all (map act core.units))
  units_agree k = units_same (level made k) (level core.bodies k) core.units (λ n h. calls_agree k n (by_units n h))

  started_same : (k p : ℕ) (o : Option Body) → IsReached core p → slice_get core.bodies p ≡ o
      → ◌≡◌ {A = World → Outcome (Unit {0})} (run_started (with_bodies core made) k o) (run_started core k o)
  started_same k p None r is = refl
  started_same k p (Some b) r is =
      ap {B = World → Outcome (Unit {0})} (λ f w. bind (called 0 (f k 2 0 w)) (λ _. Gives tt)) (body_same k (calls_agree k) p b r is)

  run_same : (k : ℕ) (o : Option ℕ) → core.start ≡ o → ◌≡◌ {A = World → Outcome (Unit {0})} (run_from o (with_bodies core made) k) (run_from o core k)
  run_same k None e = ap {B = World → Outcome (Unit {0})} (λ f. f k 0 0) (units_agree k)
  run_same k (Some p) e =
      ap {B = World → Outcome (Unit {0})} (λ o. run_started (with_bodies core made) k o) (kept p (at_start p e))
      ∙ started_same k p (slice_get core.bodies p) (at_start p e) refl

  kinds_same : (o : Option ℕ) → core.start ≡ o → first_kinds o (with_bodies core made) ≡ first_kinds o core
  kinds_same None e = refl
  kinds_same (Some p) e = ap call_kinds (kept p (at_start p e))

  fits_same : start_fits (with_bodies core made) ≡ start_fits core
  fits_same = ap (λ ks. cells_fit (length ks) && cells_fit (length (all_packet_kinds core))) (kinds_same core.start refl)

  pub evaluate_same : (w : World) → evaluate_from (with_bodies core made) w ≡ evaluate_from core w
  evaluate_same w =
      ap2 {C = Ending} (λ fits go. ending (branch fits go (Stopped CellRoom) w)) fits_same (run_same w.marks core.start refl)
