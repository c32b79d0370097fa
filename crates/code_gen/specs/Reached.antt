-- Which bodies a command reaches, and what is left of the others.
use Rattle.std.specs.Prelude.{◌≡◌, ℕ, List, [], Some, Contains, slice_get}
use Rattle.elan_types.specs.declared.core_phrase.Content.{Content}
use Rattle.elan_types.specs.declared.core_phrase.Content.TheVariants as contents
use Rattle.elan_types.specs.declared.core_phrase.ValuePhrase.TheVariants.{Never}
use Rattle.elan_types.specs.declared.core_phrase.Body.{Body}
use Rattle.elan_types.specs.declared.core_phrase.Core.{Core}
use Rattle.code_gen.specs.Names.{in_units, in_content}

-- the command reaches the body with this number: its units name it, it starts in it, or what a reached body does names it
pub data IsReached (core : Core) : ℕ → Type 0 where
  by_units : (n : ℕ) → Contains (in_units core.units) n → IsReached core n
  at_start : (n : ℕ) → core.start ≡ Some n → IsReached core n
  by_body : (m n : ℕ) (b : Body) → IsReached core m → slice_get core.bodies m ≡ Some b → Contains (in_content b.content) n → IsReached core n

-- nothing is done; where a value is delivered, one of the same shape never is
abbrev pub nothing_in : Content → Content
nothing_in (contents.Units us) = contents.Units []
nothing_in (contents.Value s a) = contents.Value s (Never s)

-- a body with the same variables and the same result that does nothing
abbrev pub emptied : Body → Body
emptied b = record b { content = nothing_in b.content }

-- the same core with these bodies
abbrev pub with_bodies : Core → List Body → Core
with_bodies core bodies = record core { bodies = bodies }
