-- What a packet shows, from the types around its level.
use Rattle.std.specs.Prelude.{ℕ, List, map}
use Rattle.elan_tree.specs.declared.tree.Export.{Export}
use Rattle.elan_tree.specs.declared.tree.Level.{Level}
use Rattle.elan_names.specs.declared.interface.Interface.{Interface}
use Rattle.elan_names.specs.declared.type_name.TypeName.{TypeName}
use Rattle.type_names.specs.Types.{names_of, level_types, level_definitions}
use Rattle.type_names.specs.Bodies.{names_in, headings_in}
use Rattle.elan_judge.specs.Level.{export_name}

-- what is shown of a level where these types stand around it, of which so many are own types
abbrev pub shown_in : ℕ → List TypeName → List Export → Level → Interface
shown_in first around es l =
    let seen : List TypeName = level_types first around l in
    record {
      exports = map export_name es;
      names = names_in seen l;
      headings = headings_in seen l;
      types = names_of first around (level_definitions l);
    }
