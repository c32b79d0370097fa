-- When a function reads texts as they are meant.
use Rattle.std.specs.Prelude.{ℕ, Bool, List}
use Rattle.elan_scope.specs.declared.env.Env.{Env}
use Rattle.elan_check.specs.Packets.{AreCompiled}
use Rattle.packet_store.specs.Meaning.{IsRefused}
use Rattle.packet_store.specs.Units.{IsUnitOf}
use Rattle.units.specs.Reading.{Reading, Compiles, Refuses}

-- this is so of the text: the unit is the text's own, or the text is refused so
abbrev pub ReadsSo : Env → Bool → List ℕ → Reading → Type 0
ReadsSo env packet text (Compiles unit) = IsUnitOf env packet text unit
ReadsSo env packet text (Refuses refusal) = IsRefused env packet text refusal

-- It is so of each text behind packets, each compiled behind those before it. What is read behind anything else is left open.
abbrev pub IsReading : (Env → Bool → List ℕ → Reading) → Type 0
IsReading read = (env : Env) (packet : Bool) (text : List ℕ) → AreCompiled env → ReadsSo env packet text (read env packet text)
