-- Bytes that are put one behind another, and fronts of them.
use Rattle.std.proofs.Common.{◌≡◌, ℕ, Bool, List, [], ◌∷◌, ◌++◌, Option, sym, ap, ◌∙◌, append_assoc, append-nil}
use Rattle.std.specs.Io.KnownBytes.{Appends}
use Rattle.edge.specs.Piece.{AppendsFront}
use Rattle.edge.proofs.Composed.{appends_more}
use Rattle.eumel_top.specs.Below.elan_scope.specs.declared.env.Env.{Env}
use Rattle.session_text.specs.declared.events.Event.{Event}
use Rattle.session_lines.specs.Sessions.{Session, with_events}
use Rattle.eumel_top.specs.Below.system_meaning.specs.Monitor.{Reading}
use Rattle.eumel_top.specs.Below.system_meaning.specs.Systems.{System}
use Rattle.eumel_top.specs.Below.system_meaning.specs.Events.{after, shown, run, output}
use Rattle.eumel_top.specs.Below.system_meaning.proofs.Runs.{run_join, output_join}
use Rattle.eumel_top.specs.Output.{end_line}
use Rattle.eumel_top.specs.Midway.{output_from}

abbrev pub Reads : Type 0
Reads = Env → Bool → List ℕ → Reading

-- a front of the first is one of both
pub front_first : (old new : Option (List ℕ)) (a b all : List ℕ) → AppendsFront old new a → all ≡ a ++ b → AppendsFront old new all
front_first old new a b all front is = (
  front.0,
  front.1 ++ b,
  front.2,
  is ∙ ap (λ bytes. bytes ++ b) front.3 ∙ append_assoc front.0 front.1 b,
)

-- bytes behind those that were put, and a front of more
pub front_behind : (old mid new : Option (List ℕ)) (a b all : List ℕ) → Appends old mid a → AppendsFront mid new b → all ≡ a ++ b → AppendsFront old new all
front_behind old mid new a b all put front is = (
  a ++ front.0,
  front.1,
  appends_more old mid new a front.0 put front.2,
  is ∙ ap (λ bytes. a ++ bytes) front.3 ∙ sym (append_assoc a front.0 front.1),
)

module _ (read : Reads) (plain : Bool) (s : System) where
  pub run_more : (events : List Event) (event : Event) → run read s (events ++ event ∷ []) ≡ after read (run read s events) event
  run_more events event = run_join read s events (event ∷ [])

  pub output_more : (events : List Event) (event : Event)
      → output read plain s (events ++ event ∷ []) ≡ output read plain s events ++ shown read plain (run read s events) event
  output_more events event =
      output_join read plain s events (event ∷ []) ∙ ap (λ bytes. output read plain s events ++ bytes) (append-nil (shown read plain (run read s events) event))

  -- what the event behind some shows, and what is put behind that
  pub output_parts : (all first : List Event) (event : Event) (rest : List Event) → all ≡ (first ++ event ∷ []) ++ rest
      → output read plain s all
      ≡ output read plain s first ++ (shown read plain (run read s first) event ++ output read plain (run read s (first ++ event ∷ [])) rest)
  output_parts all first event rest parts =
      let others = output read plain (run read s (first ++ event ∷ [])) rest in
      ap (output read plain s) parts ∙ output_join read plain s (first ++ event ∷ []) rest ∙ ap (λ bytes. bytes ++ others) (output_more first event)
      ∙ append_assoc (output read plain s first) (shown read plain (run read s first) event) others

  -- what a session puts behind some events
  pub output_behind : (events : List Event) (rest : Session)
      → output_from read plain s (with_events events rest) ≡ output read plain s events ++ output_from read plain (run read s events) rest
  output_behind events rest =
      ap (λ bytes. bytes ++ end_line rest.ending) (output_join read plain s events rest.events)
      ∙ append_assoc (output read plain s events) (output read plain (run read s events) rest.events) (end_line rest.ending)
