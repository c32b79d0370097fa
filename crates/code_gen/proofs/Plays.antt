-- A command that is run in pieces shows what it does.
use Rattle.std.proofs.Common.{◌≡◌, ℕ, zero, suc, ◌+◌, ◌≤◌, List, [], ◌∷◌, ◌++◌, length, Some, true, refl, sym, ap, subst, arith}
use Rattle.std.specs.Prelude.{slice_get}
use Rattle.std.proofs.lemmas.List.{length-map}
use Rattle.eu_base.specs.declared.value.Kind.{Kind}
use Rattle.eu_base.specs.declared.value.Kind.TheVariants as kinds
use Rattle.eu_base.specs.declared.value.Value.{Value}
use Rattle.eu_base.specs.Requests.{Answer}
use Rattle.eu_base.specs.Values.{IsOf, blank_of}
use Rattle.eu_base.specs.Room.{cells_fit}
use Rattle.eu_base.specs.declared.address.Area.{Area}
use Rattle.eu_base.specs.Cells.{Free, Cells, held_of, area_cell}
use Rattle.eu_base.proofs.Results.{fits_in_range}
use Rattle.code_form.specs.Program.{Program}
use Rattle.code_form.specs.Machine.{Mem, Control, Rest, start}
use Rattle.eu_base.specs.DataSpaces.{Spaces}
use Rattle.code_form.specs.Runs.{Rests, Stands}
use Rattle.elan_types.specs.declared.core_phrase.Core.{Core}
use Rattle.elan_types.specs.Eval.{Slot, Holds}
use Rattle.elan_types.specs.Command.{blanks, at_start, evaluate}
use Rattle.place_gen.specs.Correct.{StandsFor, HasVariables, HasAll, Shows}
use Rattle.code_gen.specs.Correct.{Behaves}

blank_is : (k : Kind) → IsOf k (blank_of k)
blank_is kinds.Int = fits_in_range _ refl
blank_is kinds.Truth = tt
blank_is kinds.Text = omega arith
blank_is kinds.Task = omega arith
blank_is kinds.Space = omega arith

blank_each : (us : List Kind) (x : ℕ) (k : Kind) → slice_get us x ≡ Some k
    → (v : Value) × (slice_get (blanks us) x ≡ Some (Holds v)) × IsOf k v
blank_each [] x k e = let f : ⊥ = cc in absurd f
blank_each (u ∷ us) zero k e = let f : u ≡ k = cc in (blank_of u, refl, subst (λ k. IsOf k (blank_of u)) f (blank_is u))
blank_each (u ∷ us) (suc x) k e = blank_each us x k e

blank_slot : (us : List Kind) (x : ℕ) (s : Slot) → slice_get (blanks us) x ≡ Some s
    → (k : Kind) × (slice_get us x ≡ Some k) × (s ≡ Holds (blank_of k))
blank_slot [] x s e = let f : ⊥ = cc in absurd f
blank_slot (u ∷ us) zero s e = let f : s ≡ Holds (blank_of u) = cc in (u, refl, f)
blank_slot (u ∷ us) (suc x) s e = blank_slot us x s e

-- variables that were made hold the values that a command starts with, where nothing is known of the cells behind
pub has_blank : (area : Area) (kinds : List Kind) (cells : Cells)
    → (cells_fit (length kinds) ≡ true → (x : ℕ) (k : Kind) → slice_get kinds x ≡ Some k → cells (area_cell area x) ≡ held_of (blank_of k))
    → ((x : ℕ) → length kinds ≤ x → cells (area_cell area x) ≡ Free) → HasVariables area kinds (blanks kinds) cells
has_blank area kinds cells blank beyond =
    let as_many : length (blanks kinds) ≡ length kinds = length-map kinds (λ (k : Kind). Holds (blank_of k)) in record {
      as_many = as_many;
      each = blank_each kinds;
      image = λ room x s e.
          let f = blank_slot kinds x s e in
          subst (StandsFor (cells (area_cell area x))) (sym f.2) (blank (subst (λ n. cells_fit n ≡ true) as_many room) x f.0 f.1);
      beyond = beyond;
    }

-- where a command comes to rest that was run in pieces, it shows what evaluation gives with the marks that were spent and those that
-- it has from there, and with the answers that were given
pub plays : (core : Core) (p : Program) (packets : List Slot) (spaces : Spaces) (was now : Mem) (spent left : ℕ) (replies : List Answer) (c : Control) (last : Rest)
    → Behaves core p → HasAll p (at_start core packets spaces (spent + left) replies) was → Stands p (start p) was spent replies c now
    → Rests p c (record { mem = now; marks = left; replies = [] }) last → Shows p (evaluate core packets spaces (spent + left) replies) last
plays core p packets spaces was now spent left replies c last b has k h =
    let r = k.goes left [] last h in
    let r' = subst (λ rs. Rests p (start p) (record { mem = was; marks = spent + left; replies = rs }) last) (append-[] replies) r in
    b.only (at_start core packets spaces (spent + left) replies) was r'.0 last has r'.1
  where
    append-[] : (l : List Answer) → l ++ [] ≡ l
    append-[] [] = refl
    append-[] (x ∷ l) = ap (λ l. x ∷ l) (append-[] l)
