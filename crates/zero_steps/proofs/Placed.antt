-- An area is there where cells stand in it.
use Rattle.std.proofs.Common.{◌≡◌, ℕ, ◌+◌, Bool, true, false, List, length, sym, ap, ◌∙◌, subst}
use Rattle.std.specs.Prelude.{◌&&◌}
use Rattle.eu_base.specs.declared.address.Area.{Area}
use Rattle.eu_base.specs.declared.address.Area.TheVariants.{Run, Packets, Space}
use Rattle.eu_base.specs.declared.address.Addr.{Addr}
use Rattle.eu_base.specs.declared.value.Kind.{Kind}
use Rattle.eu_base.specs.Cells.{run_cell}
use Rattle.eu_base.specs.DataSpaces.{Heads, is_live}
use Rattle.eu_base.specs.SpaceCells.{IsThere}
use Rattle.eu_base.specs.Room.{cells_fit}
use Rattle.eu_base.specs.SpacePlaces.{lies_in, is_in}
use Rattle.zero_steps.proofs.Along.{steps_on, area_on}

first : (a b : Bool) → (a && b) ≡ true → a ≡ true
first true b e = cc
first false b e = absurd (cc e)

second : (a b : Bool) → (a && b) ≡ true → b ≡ true
second true b e = e
second false b e = absurd (cc e)

pub there_of : (ks : List Kind) (area : Area) (x : ℕ) (heads : Heads) → lies_in ks area x heads ≡ true → IsThere heads area
there_of ks area x heads e = by area (second (cells_fit (x + length ks)) (is_in ks area x heads) e)
  where
    by : (area : Area) → is_in ks area x heads ≡ true → IsThere heads area
    by Run e = tt
    by Packets e = tt
    by (Space s) e = first (is_live s heads) _ e

-- that of the command always is
pub run_there : (heads : Heads) (a : Addr) (k : ℕ) → a ≡ run_cell k → IsThere heads a.area
run_there heads a k e = subst (λ (a : Addr). IsThere heads a.area) (sym e) tt

-- it stays there where the data spaces are the same
pub still_there : (had has : Heads) (area : Area) → has ≡ had → IsThere had area → IsThere has area
still_there had has area e h = subst (λ heads. IsThere heads area) (sym e) h

-- and further on in an area
pub steps_there : (had has : Heads) (i : ℕ) (a place : Addr) → place ≡ steps_on i a → has ≡ had → IsThere had a.area → IsThere has place.area
steps_there had has i a place e same h =
    still_there had has place.area same (subst (λ (x : Area). IsThere had x) (sym (ap (λ (b : Addr). b.area) e ∙ area_on i a)) h)
