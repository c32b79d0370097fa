-- The core of a text, from what its parts mean.
use Rattle.std.proofs.Common.{◌≡◌, ℕ, List, [], ◌∷◌, ◌++◌, Option, Some, None, Ok, Err, refl, sym, ap, ◌∙◌}
use Rattle.elan_types.specs.declared.core_phrase.Action.{Action}
use Rattle.elan_types.specs.declared.core_phrase.Body.{Body}
use Rattle.elan_types.specs.declared.why.Why.{Why}
use Rattle.elan_tree.specs.declared.tree.Export.{Export}
use Rattle.elan_tree.specs.declared.tree.Level.{Level}
use Rattle.elan_tree.specs.declared.tree.Tree.{Tree}
use Rattle.elan_scope.specs.declared.env.Env.{Env}
use Rattle.elan_scope.specs.declared.scope.Scope.{Scope}
use Rattle.elan_scope.specs.declared.known.Known.{Known}
use Rattle.elan_meant.specs.declared.meant.Meant.{Meant}
use Rattle.elan_meant.specs.declared.meant.Meant.TheVariants as means
use Rattle.elan_meant.specs.Parts.{actions_of}
use Rattle.elan_check.specs.Below.elan_rules.specs.Units.{bodies_of}
use Rattle.elan_scope.specs.Phrase as form
use Rattle.elan_scope.specs.Phrase.{plain, all_of}
use Rattle.elan_scope.specs.Ruled.{Fault, Ruled, gives, breaks, hangs, ◌>>=◌}
use Rattle.elan_check.specs.Below.elan_rules.specs.Rules.{ruled}
use Rattle.elan_check.specs.Below.elan_rules.specs.Meaning.{judged, judged_all}
use Rattle.elan_check.specs.declared.error.CheckError.{CheckError}
use Rattle.elan_check.specs.declared.error.CheckError.TheVariants.{NoMemory, NoMeaning}
use Rattle.elan_names.specs.declared.type_name.TypeName.{TypeName}
use Rattle.elan_scope.specs.Shown.{shown_types}
use Rattle.type_names.specs.Types.{level_types}
use Rattle.type_names.specs.Faults.{first_fault, level_faults}
use Rattle.elan_judge.specs.Level.{level_in, exports_in, exports, level_parts, level_bodies, text_scope, text_parts, text}
use Rattle.elan_judge.specs.Refinements.{known_of}
use Rattle.elan_check.specs.Text.{Answers, IsFault, earliest, faults, core_of, bodies_known, judged_text}
use Rattle.elan_check.specs.Packets.{AreCompiled}
use Rattle.elan_check.proofs.Spots.{never_hangs}
use Rattle.elan_check.proofs.Inserted.{is_sound}

-- its parts in its scope
pub parts_are : (env : Env) (t : Tree) (s : Scope) (w : Level) (es : List Export) → s ≡ text_scope env t → w ≡ level_in t → es ≡ exports_in t
    → exports s w [] es ++ level_parts s w ≡ text_parts env t
parts_are env t s w es e f g =
    ap (λ (z : Scope). exports z w [] es ++ level_parts z w) e
    ∙ ap (λ (v : Level). exports (text_scope env t) v [] es ++ level_parts (text_scope env t) v) f
    ∙ ap (λ (xs : List Export). exports (text_scope env t) (level_in t) [] xs ++ level_parts (text_scope env t) (level_in t)) g

pub known_are : (env : Env) (t : Tree) (s : Scope) (w : Level) → s ≡ text_scope env t → w ≡ level_in t
    → known_of s.headings (level_bodies s w) ≡ bodies_known env t
known_are env t s w e f =
    ap (λ (z : Scope). known_of z.headings (level_bodies z w)) e
    ∙ ap (λ (v : Level). known_of (text_scope env t).headings (level_bodies (text_scope env t) v)) f

pub seen_are : (env : Env) (t : Tree) (s : Scope) (w : Level) (shown : List TypeName) → s ≡ text_scope env t → w ≡ level_in t → shown ≡ shown_types env
    → s.types ≡ level_types env.types shown w
seen_are env t s w shown e f g =
    ap (λ (z : Scope). z.types) e
    ∙ sym (ap (λ (ts : List TypeName). level_types env.types ts w) g ∙ ap (λ (v : Level). level_types env.types (shown_types env) v) f)

pub faults_are : (env : Env) (t : Tree) (w : Level) (shown : List TypeName) → w ≡ level_in t → shown ≡ shown_types env
    → first_fault (level_faults env.types shown w) ≡ first_fault (faults env t)
faults_are env t w shown f g =
    ap (λ (ts : List TypeName). first_fault (level_faults env.types ts w)) g
    ∙ ap (λ (v : Level). first_fault (level_faults env.types (shown_types env) v)) f

module _ (env : Env) (t : Tree) (k : Known) (is : k ≡ bodies_known env t) where
  abbrev kn : Known
  kn = bodies_known env t

  abbrev parts : Ruled (List Meant)
  parts = judged_all k (all_of (text_parts env t))

  text_is : (r : Ruled (List Meant)) → parts ≡ r → judged kn (text env t) ≡ (r >>= ruled kn 0 (plain form.level))
  text_is r e = ap (λ (q : Ruled (List Meant)). q >>= ruled kn 0 (plain form.level)) (ap (λ (j : Known). judged_all j (all_of (text_parts env t))) (sym is) ∙ e)

  -- a fault of a type, or of a phrase before it
  earliest_text : (d : Fault) (r : Ruled (List Meant)) → earliest (Some d) (r >>= ruled kn 0 (plain form.level)) ≡ earliest (Some d) r
  earliest_text d (gives ms) = refl
  earliest_text d (breaks g) = refl
  earliest_text d hangs = refl

  pub refused_is : (d : Fault) (e : CheckError) → Some d ≡ first_fault (faults env t) → IsFault (earliest (Some d) parts) e → Answers env t (Err e)
  refused_is d NoMemory f h = tt
  refused_is d (NoMeaning at why) f h =
      ap (λ (o : Option Fault). earliest o (judged_text env t)) (sym f)
      ∙ ap (λ (q : Ruled Meant). earliest (Some d) q) (text_is parts refl)
      ∙ earliest_text d parts ∙ h

  module _ (faultless : faults env t ≡ []) where
    pub core_is : (ms : List Meant) (us : List Action) (own : List Body) → parts ≡ gives ms → us ≡ actions_of ms → own ≡ bodies_of ms
        → Answers env t (Ok (core_of env t us own))
    core_is ms us own e u b = (
      faultless,
      own,
      refl,
      text_is (gives ms) e ∙ ap (λ (as' : List Action). gives (means.Level as' (bodies_of ms))) (sym u)
          ∙ ap (λ (bs : List Body). gives (means.Level us bs)) (sym b),
    )

    pub fault_is : (at : ℕ) (why : Why) → parts ≡ breaks (at, why) → Answers env t (Err (NoMeaning at why))
    fault_is at why e =
        ap (λ (fs : List Fault). earliest (first_fault fs) (judged_text env t)) faultless
        ∙ ap (λ (q : Ruled Meant). earliest None q) (text_is (breaks (at, why)) e)

    pub none_hangs : AreCompiled env → parts ≡ hangs → ⊥
    none_hangs c e = let s = is_sound env c in never_hangs env t s.closed s.means faultless (text_is hangs e)

-- no first fault, no fault
pub no_first : (fs : List Fault) → None ≡ first_fault fs → fs ≡ []
no_first [] e = refl
no_first (f ∷ fs) e = absurd cc
