-- What stands where in data spaces.
use Rattle.std.specs.Prelude.{ℕ, ◌+◌, Bool, true, false, ◌&&◌, List, [], ◌∷◌, length, drop, Option, Some, None}
use Rattle.eu_base.specs.declared.address.Area.{Area}
use Rattle.eu_base.specs.declared.address.Area.TheVariants as areas
use Rattle.eu_base.specs.declared.value.Kind.{Kind}
use Rattle.eu_base.specs.declared.value.Value.{Value}
use Rattle.eu_base.specs.declared.shape.Shape.{Shape}
use Rattle.eu_base.specs.Shapes.{cell_kinds}
use Rattle.eu_base.specs.Values.{SpaceNo, same_kind}
use Rattle.eu_base.specs.Room.{cells_fit}
use Rattle.eu_base.specs.DataSpaces.{Spaces, Heads, is_live, the_space, the_head, with_other}

-- the kinds of the cells of a data space. One in which nothing stands, or that does not live, has none
abbrev pub shaped_kinds : Option Shape → List Kind
shaped_kinds None = []
shaped_kinds (Some shape) = cell_kinds shape

abbrev pub kinds_of : SpaceNo → Heads → List Kind
kinds_of s heads = shaped_kinds (the_head s heads).shape

-- the values of its cells, and the data spaces after it got others
abbrev pub values_of : SpaceNo → Spaces → List Value
values_of s spaces = (the_space s spaces).values

abbrev pub with_values : SpaceNo → List Value → Spaces → Spaces
with_values s vs spaces = with_other s (record (the_space s spaces) { values = vs }) spaces

-- kinds begin with these
abbrev pub begin_with : List Kind → List Kind → Bool
begin_with [] all = true
begin_with (k ∷ ks) [] = false
begin_with (k ∷ ks) (j ∷ js) = same_kind k j && begin_with ks js

-- cells of these kinds stand in an area from a number on. Of those of the command and of the packets code knows it; a data space must live, and
-- have them
abbrev pub is_in : List Kind → Area → ℕ → Heads → Bool
is_in ks areas.Run x heads = true
is_in ks areas.Packets x heads = true
is_in ks (areas.Space s) x heads = is_live s heads && begin_with ks (drop x (kinds_of s heads))

-- and they are all among the cells that an area has. The machine asks for this; where code knows the cells, it is the same
abbrev pub lies_in : List Kind → Area → ℕ → Heads → Bool
lies_in ks area x heads = cells_fit (x + length ks) && is_in ks area x heads
