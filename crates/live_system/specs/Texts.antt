-- A text that is run or inserted, by its reading.
use Rattle.std.specs.Prelude.{◌≡◌, ℕ, List, Option, Some, None}
use Rattle.task_numbers.specs.declared.number.TaskNo.{TaskNo}
use Rattle.live_system.specs.Below.units.specs.Refusals.{refusal_text}
use Rattle.live_system.specs.Below.named_texts.specs.declared.look.Source.{Source}
use Rattle.live_system.specs.Below.named_texts.specs.declared.look.Source.TheVariants as found
use Rattle.live_system.specs.Below.source_texts.specs.Spaces.{Space}
use Rattle.live_system.specs.Below.source_texts.specs.Sources.{source_text}
use Rattle.live_system.specs.Below.system_meaning.specs.Monitor.{Reading, Compiles, Refuses, started}
use Rattle.live_system.specs.Below.system_meaning.specs.Systems.{Moment, on_system}
use Rattle.live_system.specs.declared.what.SourceText.{SourceText}
use Rattle.live_system.specs.declared.what.SourceText.TheVariants as sources
use Rattle.live_system.specs.Machines.{Machine, StandsAt}

-- its unit runs; or it is refused, nothing changes, and this is what is said
abbrev pub RunsText : Reading → Machine → TaskNo → List ℕ → Moment → Option (List ℕ) → Type 0
RunsText (Compiles unit) new t text m said = (said ≡ None) × StandsAt new (on_system (started t unit) m)
RunsText (Refuses refusal) new t text m said = (said ≡ Some (refusal_text refusal text)) × StandsAt new m

-- the text of a space
abbrev pub text_of_source : Option (List ℕ) → SourceText
text_of_source None = sources.NoText
text_of_source (Some text) = sources.Text text

abbrev pub source_of : Option Space → SourceText
source_of None = sources.NoSpace
source_of (Some space) = text_of_source (source_text space)

-- the same, told apart already
abbrev pub as_told : Source → SourceText
as_told found.NoSpace = sources.NoSpace
as_told found.NoText = sources.NoText
as_told (found.Text text) = sources.Text text
