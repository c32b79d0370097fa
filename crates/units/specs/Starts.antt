-- PROCs in which a task can start.
use Rattle.std.specs.Prelude.{ℕ, Bool, true, false, if◌then◌else◌, [], Option, Some, None, option_map, slice_get}
use Rattle.elan_types.specs.declared.core_phrase.Scope.{Scope}
use Rattle.elan_types.specs.declared.core_phrase.Scope.TheVariants.{Own}
use Rattle.elan_types.specs.declared.core_phrase.Content.{Content}
use Rattle.elan_types.specs.declared.core_phrase.Content.TheVariants.{Units}
use Rattle.elan_types.specs.declared.core_phrase.Body.{Body}
use Rattle.elan_types.specs.declared.core_phrase.Core.{Core}
use Rattle.elan_scope.specs.declared.env.Env.{Env}
use Rattle.units.specs.declared.unit.Source.TheVariants.{Start}
use Rattle.units.specs.declared.unit.Compiled.{Compiled}

-- a PROC without parameters that delivers nothing
abbrev pub starts_by : Scope → Content → Bool
starts_by (Own [] variables) (Units us) = true
starts_by _ _ = false

abbrev pub is_start : Option Body → Bool
is_start None = false
is_start (Some b) = starts_by b.scope b.content

-- the PROC with this number, of the packets of a task, as a command
abbrev pub start_core : Env → ℕ → Core
start_core env p = record { packets = env.packets; inserted = []; variables = []; bodies = env.bodies; units = []; start = Some p }

abbrev pub start_at : Env → ℕ → Option Core
start_at env p = if is_start (slice_get env.bodies p) then Some (start_core env p) else None

-- the unit of a start procedure behind these packets, which has this number among their bodies; none where it is no PROC that takes and
-- delivers nothing
abbrev pub start_unit_of : Env → ℕ → ℕ → Core → Compiled
start_unit_of env packet number core = record { source = Start packet number; packets = env; core = core; shown = None }

abbrev pub start_unit : Env → ℕ → ℕ → ℕ → Option Compiled
start_unit env packet number n = option_map (start_unit_of env packet number) (start_at env n)
