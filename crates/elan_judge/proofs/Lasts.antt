-- The last unit that is not empty.
use Rattle.std.proofs.Common.{◌≡◌, ℕ, ◌+◌, ◌<◌, Bool, if◌then◌else◌, List, [], ◌∷◌, map, length, get_or, drop, Option, Some, None, refl, sym, ap}
use Rattle.std.proofs.Common.{◌∙◌}
use Rattle.std.proofs.lemmas.List.{at_drop_more}
use Rattle.elan_tree.specs.declared.phrase.Unit.{Unit as Statement}
use Rattle.elan_scope.specs.declared.delivery.Delivery.{Delivery}
use Rattle.elan_scope.specs.declared.delivery.Delivery.TheVariants.{Nothing}
use Rattle.elan_scope.specs.declared.scope.Scope.{Scope}
use Rattle.std.specs.Option.{option_or}
use Rattle.elan_scope.specs.Phrase.{Phrase, part, all_of}
use Rattle.elan_judge.specs.Shape.{written, unit, units, role, roles, filled}
use Rattle.elan_judge.specs.walks.Steps.{is_empty}
use Rattle.elan_judge.specs.Refinements.{last_part, last_unit}

pub no_other : (o : Option Phrase) → option_or o None ≡ o
no_other None = refl
no_other (Some p) = refl

module _ (d : Delivery) where
  abbrev pub last_of : List Phrase → Option Phrase
  last_of ps = last_part (all_of (roles d ps))

  pub behind : (p q : Phrase) (ps : List Phrase) → last_part (part p (all_of (roles d (q ∷ ps)))) ≡ last_of (q ∷ ps)
  behind p q [] = refl
  behind p q (r ∷ ps) = refl

  -- Behind the first unit the last is another one, or there is none.
  last_first : (p : Phrase) (ps : List Phrase) → last_of (p ∷ ps) ≡ option_or (last_of ps) (Some (role d p))
  last_first p [] = refl
  last_first p (q ∷ ps) =
      behind (role Nothing p) q ps ∙ last_first q ps ∙ sym (absorbed (last_of ps))
      ∙ ap (λ (o : Option Phrase). option_or o (Some (role d p))) (sym (last_first q ps))
    where
      absorbed : (o : Option Phrase) → option_or (option_or o (Some (role d q))) (Some (role d p)) ≡ option_or o (Some (role d q))
      absorbed None = refl
      absorbed (Some r) = refl

  -- the last of units, behind one that stands before them
  abbrev pub last_behind : Option Phrase → List (Option Phrase) → Option Phrase
  last_behind o us = option_or (last_unit (units d us)) o

  last_after : (u : Option Phrase) (us : List (Option Phrase)) (o : Option Phrase)
      → last_behind o (u ∷ us) ≡ last_behind (if is_empty u then o else Some (role d (written u))) us
  last_after None us o = refl
  last_after (Some p) us o = ap (λ (q : Option Phrase). option_or q o) (last_first p (filled us)) ∙ absorbed (last_of (filled us))
    where
      absorbed : (q : Option Phrase) → option_or (option_or q (Some (role d p))) o ≡ option_or q (Some (role d p))
      absorbed None = refl
      absorbed (Some r) = refl

  module _ (s : Scope) (us : List Statement) (i : ℕ) (u : Statement) (lt : i < length us) (e : u ≡ get_or us i u) where
    abbrev rest : List Statement
    rest = drop (i + 1) us

    pub last_goes : (o new whole : Option Phrase) (b : Bool) → b ≡ is_empty (unit s u) → new ≡ (if b then o else Some (role d (written (unit s u)))) →
        last_behind o (map (unit s) (drop i us)) ≡ whole → last_behind new (map (unit s) rest) ≡ whole
    last_goes o new whole b f n h =
        ap (λ (q : Option Phrase). last_behind q (map (unit s) rest)) (n ∙ ap (λ (c : Bool). if c then o else Some (role d (written (unit s u)))) f)
        ∙ sym (last_after (unit s u) (map (unit s) rest) o)
        ∙ ap (λ (v : Statement). last_behind o (map (unit s) (v ∷ rest))) e
        ∙ sym (at_drop_more (λ vs. last_behind o (map (unit s) vs)) us i u lt) ∙ h
