-- The text of a space, as it is told.
use Rattle.std.proofs.Common.{◌≡◌, ℕ, ◌<◌, ◌^◌, List, length, Option, Some, None, refl, subst}
use Rattle.live_system.specs.Below.source_texts.specs.Spaces.{Space}
use Rattle.live_system.specs.Below.source_texts.specs.Sources.{source_text}
use Rattle.live_system.specs.Below.named_texts.specs.declared.look.Source.{Source}
use Rattle.live_system.specs.Below.named_texts.specs.declared.look.Source.TheVariants as found
use Rattle.live_system.specs.Below.named_texts.specs.Sources.{as_source, source_in, IsShort}
use Rattle.live_system.specs.declared.what.SourceText.{SourceText}
use Rattle.live_system.specs.declared.what.SourceText.TheVariants as sources
use Rattle.live_system.specs.Texts.{text_of_source, source_of, as_told}

told_text : (text : Option (List ℕ)) → as_told (as_source text) ≡ text_of_source text
told_text None = refl
told_text (Some text) = refl

pub told_source : (space : Option Space) → as_told (source_in space) ≡ source_of space
told_source None = refl
told_source (Some space) = told_text (source_text space)

-- the text that is told is that of the space
abbrev IsTold : SourceText → Type 0
IsTold (sources.Text text) = length text < 2 ^ 32
IsTold _ = Unit {0}

pub told_short : (source : Source) (text : List ℕ) → IsShort source → as_told source ≡ sources.Text text → length text < 2 ^ 32
told_short source text short is = subst IsTold is (by source short)
  where
    by : (s : Source) → IsShort s → IsTold (as_told s)
    by found.NoSpace h = tt
    by found.NoText h = tt
    by (found.Text bytes) h = h
