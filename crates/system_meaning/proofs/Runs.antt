-- Events one after another.
use Rattle.std.proofs.Common.{◌≡◌, ℕ, Bool, List, [], ◌∷◌, ◌++◌, refl, sym, ap, ◌∙◌, append_assoc}
use Rattle.system_meaning.specs.Below.elan_scope.specs.declared.env.Env.{Env}
use Rattle.session_text.specs.declared.events.Event.{Event}
use Rattle.system_meaning.specs.Systems.{System}
use Rattle.system_meaning.specs.Monitor.{Reading}
use Rattle.system_meaning.specs.Events.{after, shown, run, output}

module _ (read : Env → Bool → List ℕ → Reading) where
  pub run_join : (s : System) (es fs : List Event) → run read s (es ++ fs) ≡ run read (run read s es) fs
  run_join s [] fs = refl
  run_join s (e ∷ es) fs = run_join (after read s e) es fs

  pub output_join : (plain : Bool) (s : System) (es fs : List Event)
      → output read plain s (es ++ fs) ≡ output read plain s es ++ output read plain (run read s es) fs
  output_join plain s [] fs = refl
  output_join plain s (e ∷ es) fs =
      ap (λ bytes. shown read plain s e ++ bytes) (output_join plain (after read s e) es fs)
      ∙ sym (append_assoc (shown read plain s e) (output read plain (after read s e) es) (output read plain (run read (after read s e) es) fs))
