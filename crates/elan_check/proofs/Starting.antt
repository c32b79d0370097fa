-- A start procedure is well typed.
use Rattle.std.proofs.Common.{◌≡◌, ℕ, true, List, [], ◌∷◌, Option, Some, None, refl, sym, subst, append-nil}
use Rattle.std.specs.Prelude.{slice_get}
use Rattle.eu_base.specs.declared.value.Kind.{Kind}
use Rattle.cell_kinds.specs.Kinds.{packet_kinds}
use Rattle.elan_types.specs.declared.core_phrase.Scope.{Scope}
use Rattle.elan_types.specs.declared.core_phrase.Scope.TheVariants.{Own, Of, Level}
use Rattle.elan_types.specs.declared.core_phrase.Content.{Content}
use Rattle.elan_types.specs.declared.core_phrase.Content.TheVariants.{Units, Value}
use Rattle.elan_types.specs.declared.core_phrase.Body.{Body}
use Rattle.elan_types.specs.Typing.{is_content_typed, IsStart, IsWellTyped}
use Rattle.elan_scope.specs.declared.env.Env.{Env}
use Rattle.elan_check.specs.Packets.{AreCompiled}
use Rattle.units.specs.Starts.{starts_by, is_start, start_core}
use Rattle.elan_check.proofs.Inserted.{is_sound}

module _ (env : Env) (p : ℕ) where
  is_of : (s : Scope) (c : Content) → starts_by s c ≡ true → slice_get env.bodies p ≡ Some (record { scope = s; content = c }) → IsStart (start_core env p) p
  is_of (Own [] vs) (Units us) e is = record { level = refl; variables = vs; units = us; body = is }
  is_of (Own [] vs) (Value s a) e is = let f : ⊥ = cc in absurd f
  is_of (Own (f ∷ fs) vs) c e is = let f : ⊥ = cc in absurd f
  is_of (Of q) c e is = let f : ⊥ = cc in absurd f
  is_of Level c e is = let f : ⊥ = cc in absurd f

  is_one : (o : Option Body) → is_start o ≡ true → slice_get env.bodies p ≡ o → IsStart (start_core env p) p
  is_one None e is = let f : ⊥ = cc in absurd f
  is_one (Some b) e is = is_of b.scope b.content e is

  pub start_typed : AreCompiled env → is_start (slice_get env.bodies p) ≡ true → IsWellTyped (start_core env p)
  start_typed compiled e =
      let s = is_sound env compiled in
      record {
        typed = refl;
        scopes = s.scopes;
        bodies = λ n b is.
            subst (λ (ks : List Kind). is_content_typed (record { packets = ks; variables = [] }) env.bodies (Some n) b.content ≡ true)
            (sym (append-nil (packet_kinds env.packets))) (s.typed n b is);
        starts = is_one (slice_get env.bodies p) e refl;
      }
