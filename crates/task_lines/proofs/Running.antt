-- A text that is run, by what it is.
use Rattle.std.proofs.Common.{◌≡◌, ℕ, Bool, List, Option, Some, None, refl, sym, subst}
use Rattle.std.specs.Prelude.{codes}
use Rattle.task_numbers.specs.declared.number.TaskNo.{TaskNo}
use Rattle.eu_base.specs.declared.stop.Stop.TheVariants.{NoName}
use Rattle.eu_base.specs.Stops.{stop_text}
use Rattle.task_lines.specs.Below.elan_scope.specs.declared.env.Env.{Env}
use Rattle.task_lines.specs.Below.units.specs.Refusals.{refusal_text}
use Rattle.task_lines.specs.Below.source_texts.specs.Spaces.{Space}
use Rattle.task_lines.specs.Below.source_texts.specs.Sources.{source_text}
use Rattle.task_lines.specs.Below.system_meaning.specs.Systems.{Moment}
use Rattle.task_lines.specs.Below.system_meaning.specs.Monitor.{Reading, Compiles, Refuses, answered, run_read, run_text, run_source_text, run_space}
use Rattle.live_system.specs.declared.what.SourceText.TheVariants as sources
use Rattle.live_system.specs.Texts.{RunsText, text_of_source, source_of}
use Rattle.live_system.specs.Machines.{Machine, StandsAt}

-- nothing is said where a unit runs
pub runs : (r : Reading) (new : Machine) (t : TaskNo) (text : List ℕ) (m : Moment) → RunsText r new t text m None → StandsAt new (run_read t text r m)
runs (Compiles unit) new t text m h = h.1
runs (Refuses refusal) new t text m h = absurd (cc h.0)

-- what is said of a text that is refused is answered
pub refuses : (r : Reading) (middle new : Machine) (t : TaskNo) (text said : List ℕ) (m : Moment) → RunsText r middle t text m (Some said) →
    ((m : Moment) → StandsAt middle m → StandsAt new (answered t said m)) → StandsAt new (run_read t text r m)
refuses (Compiles unit) middle new t text said m h f = absurd (cc h.0)
refuses (Refuses refusal) middle new t text said m h f =
    let same : said ≡ refusal_text refusal text = cc h.0 in
    subst (λ bytes. StandsAt new (answered t bytes m)) same (f m h.1)

-- ---- the text of a space, by what the space is

module _ (read : Env → Bool → List ℕ → Reading) (t : TaskNo) (packet : Bool) (m : Moment) where
  pub no_space : (o : Option Space) → sources.NoSpace ≡ source_of o → run_space read o t packet m ≡ answered t (stop_text NoName) m
  no_space None e = refl
  no_space (Some space) e = by (source_text space) e
    where
      by : (x : Option (List ℕ)) → sources.NoSpace ≡ text_of_source x → run_source_text read x t packet m ≡ answered t (stop_text NoName) m
      by None e = absurd (cc e)
      by (Some text) e = absurd (cc e)

  pub no_text : (o : Option Space) → sources.NoText ≡ source_of o → run_space read o t packet m ≡ answered t (codes "kein Quelltext") m
  no_text None e = absurd (cc e)
  no_text (Some space) e = by (source_text space) e
    where
      by : (x : Option (List ℕ)) → sources.NoText ≡ text_of_source x → run_source_text read x t packet m ≡ answered t (codes "kein Quelltext") m
      by None e = refl
      by (Some text) e = absurd (cc e)

  pub has_text : (text : List ℕ) (o : Option Space) → sources.Text text ≡ source_of o → run_space read o t packet m ≡ run_text read t packet text m
  has_text text None e = absurd (cc e)
  has_text text (Some space) e = by (source_text space) e
    where
      by : (x : Option (List ℕ)) → sources.Text text ≡ text_of_source x → run_source_text read x t packet m ≡ run_text read t packet text m
      by None e = absurd (cc e)
      by (Some found) e =
          let same : found ≡ text = cc e in
          subst (λ x. run_text read t packet x m ≡ run_text read t packet text m) (sym same) refl
