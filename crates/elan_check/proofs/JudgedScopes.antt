-- The scope of a text, part by part.
use Rattle.std.proofs.Common.{◌≡◌, ℕ, List, length, None, ap, ◌∙◌}
use Rattle.elan_tree.specs.declared.tree.Level.{Level}
use Rattle.elan_tree.specs.declared.tree.Tree.{Tree}
use Rattle.elan_names.specs.declared.entry.Entry.{Entry}
use Rattle.elan_names.specs.declared.heading.Heading.{Heading}
use Rattle.elan_names.specs.declared.interface.Inserted.{Inserted}
use Rattle.elan_names.specs.declared.type_name.TypeName.{TypeName}
use Rattle.elan_scope.specs.declared.env.Env.{Env}
use Rattle.elan_scope.specs.declared.scope.Home.{Home}
use Rattle.elan_scope.specs.declared.scope.Scope.{Scope}
use Rattle.elan_scope.specs.Shown.{shown_types}
use Rattle.type_names.specs.Types.{level_types}
use Rattle.type_names.specs.Bodies.{names_in, headings_in}
use Rattle.elan_judge.specs.Level.{level_in, home_of, text_scope}

pub scope_is : (env : Env) (t : Tree) (w : Level) (shown : List TypeName) (ps : List Inserted) (n : ℕ) (home : Home) (hs : List Heading) (ns : List Entry)
    (ts : List TypeName) → w ≡ level_in t → shown ≡ shown_types env → ps ≡ env.inserted → n ≡ length env.bodies → home ≡ home_of env t
    → ts ≡ level_types env.types shown w → hs ≡ headings_in ts w → ns ≡ names_in ts w
    → record { packets = ps; bodies_before = n; types_before = env.types; home = home; headings = hs; level = ns; types = ts; routine = None; refinement = None }
    ≡ text_scope env t
scope_is env t w shown ps n home hs ns ts ew es ep en eh et ehs ens =
    let whole : List Inserted → ℕ → Home → List Heading → List Entry → List TypeName → Scope =
    λ p m h a b c. record {
      packets = p;
      bodies_before = m;
      types_before = env.types;
      home = h;
      headings = a;
      level = b;
      types = c;
      routine = None;
      refinement = None;
    } in
    ap (λ p. whole p n home hs ns ts) ep ∙ ap (λ m. whole env.inserted m home hs ns ts) en ∙ ap (λ h. whole env.inserted (length env.bodies) h hs ns ts) eh
    ∙ ap (λ a. whole env.inserted (length env.bodies) (home_of env t) a ns ts) ehs
    ∙ ap (λ b. whole env.inserted (length env.bodies) (home_of env t) (headings_in ts w) b ts) ens
    ∙ ap (λ c. whole env.inserted (length env.bodies) (home_of env t) (headings_in c w) (names_in c w) c)
    (et ∙ ap (λ (us : List TypeName). level_types env.types us w) es)
    ∙ ap (λ (v : Level). let c = level_types env.types (shown_types env) v in
    whole env.inserted (length env.bodies) (home_of env t) (headings_in c v) (names_in c v) c) ew
