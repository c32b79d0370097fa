-- What later texts see of a packet.
use Rattle.std.specs.Prelude.{ℕ, Bool, List}
use Rattle.std.specs.List.{list_any}
use Rattle.std.specs.Str.{bytes_eq}
use Rattle.elan_names.specs.declared.interface.Interface.{Interface}

-- It exports the name. A name stands for all PROCs or OPs that have it.
abbrev pub exports : Interface → List ℕ → Bool
exports p x = list_any (λ e. bytes_eq e x) p.exports
