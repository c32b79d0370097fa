-- What rules ask for is there: phrases have their parts, declarations are found in the scope that declares them, and refinements
-- where they are called.
use Rattle.std.specs.Prelude.{◌≡◌, ℕ, zero, suc, true, List, Option, Some, None}
use Rattle.std.specs.Option.{is_some}
use Rattle.elan_laws.specs.Below.elan_scope.specs.Scope.{find, find_own, find_own_type, first_heading, is_alike, types_of, is_refinement, refinement_named}
use Rattle.elan_laws.specs.Below.elan_scope.specs.declared.scope.Scope.{Scope}
use Rattle.elan_laws.specs.Below.elan_scope.specs.Scope.{Found}
use Rattle.elan_laws.specs.Below.elan_scope.specs.Phrase as form
use Rattle.elan_laws.specs.Below.elan_scope.specs.Phrase.{Form, plain, Phrase, phrase, Parts, none, part}

-- What is denoted as a refinement is one of the bodies.
abbrev pub HasBody : Scope → List ℕ → Option Found → Type 0
HasBody s x None = Unit {0}
HasBody s x (Some f) = is_refinement f.denotes ≡ true → is_some (refinement_named s x) ≡ true

-- so many parts
abbrev pub Has : ℕ → Parts → Type 0
Has zero none = Unit {0}
Has zero (part p ps) = ⊥
Has (suc n) none = ⊥
Has (suc n) (part p ps) = Has n ps

-- two parts some times, and one more
abbrev pub HasOdd : Parts → Type 0
HasOdd none = ⊥
HasOdd (part p none) = Unit {0}
HasOdd (part p (part q ps)) = HasOdd ps

-- What the rule of a form asks for is there: parts by their number, a declaration, a body.
abbrev pub IsServed : Form → Parts → Type 0
IsServed (form.named u s x) ps = HasBody s x (find s x)
IsServed (form.leave s x) ps = Has 1 ps
IsServed (plain (form.start may)) ps = Has 1 ps
IsServed (plain form.bracket) ps = Has 1 ps
IsServed (plain (form.concr s)) ps = Has 1 ps
IsServed (plain form.index) ps = Has 2 ps
IsServed (plain (form.field x)) ps = Has 1 ps
IsServed (plain form.cand) ps = Has 2 ps
IsServed (plain form.cor) ps = Has 2 ps
IsServed (plain form.choice) ps = HasOdd ps
IsServed (plain form.selection) none = ⊥
IsServed (plain form.selection) (part p ps) = HasOdd ps
IsServed (plain (form.declares s x)) ps = is_some (find_own s x) ≡ true
IsServed (plain form.initial) ps = Has 2 ps
IsServed (plain (form.type_name s x)) ps = is_some (find_own_type s x) ≡ true
IsServed (plain form.statement) ps = Has 1 ps
IsServed (plain (form.assignment s named)) ps = Has 2 ps
IsServed (plain form.loop) ps = Has 3 ps
IsServed (plain (form.count w)) ps = Has 6 ps
IsServed (plain form.without_value) ps = Has 1 ps
IsServed (plain (form.must_deliver t)) ps = Has 1 ps
IsServed (plain (form.heading s sort x qs r missing)) ps = is_some (first_heading (is_alike sort x (types_of qs)) s.headings) ≡ true
IsServed (plain (form.body o r)) ps = Has 1 ps
IsServed (plain (form.refinement o)) ps = Has 2 ps
IsServed f ps = Unit {0}

-- a phrase and all its parts
abbrev mutual
  pub AreServed : Phrase → Type 0
  AreServed (phrase at form ps) = IsServed form ps × AllServed ps

  pub AllServed : Parts → Type 0
  AllServed none = Unit {0}
  AllServed (part p ps) = AreServed p × AllServed ps
