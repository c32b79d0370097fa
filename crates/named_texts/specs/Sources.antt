-- What stands under a name, read as a source text.
use Rattle.std.specs.Prelude.{ℕ, ◌^◌, ◌<◌, List, length, Option, None, Some}
use Rattle.source_texts.specs.Spaces.{Space}
use Rattle.source_texts.specs.Sources.{source_text}
use Rattle.named_texts.specs.declared.look.Source.{Source}
use Rattle.named_texts.specs.declared.look.Source.TheVariants.{NoSpace, NoText, Text}

-- a space and its text, where it is a source text
abbrev pub as_source : Option (List ℕ) → Source
as_source None = NoText
as_source (Some text) = Text text

abbrev pub source_in : Option Space → Source
source_in None = NoSpace
source_in (Some space) = as_source (source_text space)

-- a text has fewer bytes than places can be told
abbrev pub IsShort : Source → Type 0
IsShort (Text text) = length text < 2 ^ 32
IsShort _ = Unit {0}
