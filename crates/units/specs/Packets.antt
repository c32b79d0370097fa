-- The packets of a task, as texts see them that are compiled behind them.
use Rattle.std.specs.Prelude.{ℕ, ◌+◌, ◌-◌, [], ◌∷◌, ◌++◌, length}
use Rattle.units.specs.Below.cell_kinds.specs.Kinds.{packet_kinds}
use Rattle.elan_types.specs.declared.core_phrase.Core.{Core}
use Rattle.elan_names.specs.declared.interface.Interface.{Interface}
use Rattle.elan_scope.specs.declared.env.Env.{Env}

-- no packets
abbrev pub nothing : Env
nothing = record { inserted = []; packets = []; bodies = []; types = 0 }

-- the packets, and behind them one that shows this and has this core, under this number
abbrev pub after : Env → Interface → Core → ℕ → Env
after env i c n = record {
  inserted = record { interface = i; bodies_before = length env.bodies; cells_before = length (packet_kinds env.packets) } ∷ env.inserted;
  packets = env.packets ++ record { number = n; variables = c.inserted; bodies = length c.bodies - length env.bodies } ∷ [];
  bodies = c.bodies;
  types = env.types + length i.types;
}
