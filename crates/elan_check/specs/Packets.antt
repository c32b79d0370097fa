-- The packets of a task: each is a text that has a meaning after those before it.
use Rattle.std.specs.Prelude.{◌≡◌, ℕ, List, map}
use Rattle.elan_types.specs.declared.core_phrase.Core.{Core}
use Rattle.elan_tree.specs.declared.written_type.Name.{Name}
use Rattle.elan_tree.specs.declared.tree.Export.{Export}
use Rattle.elan_tree.specs.declared.tree.Level.{Level}
use Rattle.elan_tree.specs.declared.tree.Tree.{Tree}
use Rattle.elan_tree.specs.declared.tree.Tree.TheVariants.{Packet as packet}
use Rattle.elan_names.specs.declared.interface.Interface.{Interface}
use Rattle.elan_scope.specs.declared.env.Env.{Env}
use Rattle.elan_scope.specs.Shown.{shown_types}
pub use Rattle.units.specs.Packets.{nothing, after}
use Rattle.type_names.specs.Types.{names_of, level_definitions}
use Rattle.type_names.specs.Bodies.{level_names, headings}
use Rattle.elan_judge.specs.Level.{level_in, exports_in, export_name}
use Rattle.elan_check.specs.Text.{Means}

-- what later texts see of a packet that is compiled after these
abbrev pub interface : Env → Tree → Interface
interface env t = record {
  exports = map export_name (exports_in t);
  names = level_names env (level_in t);
  headings = headings env (level_in t);
  types = names_of env.types (shown_types env) (level_definitions (level_in t));
}

-- a packet with a meaning after these: its core, and what it shows
pub record IsPacket (env : Env) (i : Interface) (c : Core) : Type 0 where
  pub at : ℕ
  pub name : Name
  pub exports : List Export
  pub level : Level
  pub means : Means env (packet at name exports level) c
  pub shows : i ≡ interface env (packet at name exports level)

pub data AreCompiled : Env → Type 0 where
  none : AreCompiled nothing
  behind : (env : Env) (i : Interface) (c : Core) (n : ℕ) → AreCompiled env → IsPacket env i c → AreCompiled (after env i c n)
