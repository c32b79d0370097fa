-- Which phrases have meaning, and which phrase of a text is the first that breaks a rule.
use Rattle.std.specs.Prelude.{◌≡◌, List, [], ◌∷◌, ◌++◌, ◌⊎◌}
use Rattle.elan_meant.specs.declared.meant.Meant.{Meant}
use Rattle.elan_scope.specs.Phrase.{Phrase, phrase, Parts, none, part}
use Rattle.elan_scope.specs.Ruled.{Fault, Ruled, gives, breaks, ◌>>=◌, before}
use Rattle.elan_scope.specs.declared.known.Known.{Known}
use Rattle.elan_rules.specs.Rules.{ruled}

-- the phrases in text order, parts before what they are parts of
abbrev mutual
  pub phrases : Phrase → List Phrase
  phrases (phrase at form ps) = phrases_of ps ++ phrase at form ps ∷ []

  pub phrases_of : Parts → List Phrase
  phrases_of none = []
  phrases_of (part p ps) = phrases p ++ phrases_of ps

-- where this is known of bodies
module _ (k : Known) where
  -- what is said of a phrase, and of parts, from left to right
  abbrev mutual
    pub judged : Phrase → Ruled Meant
    judged (phrase at form ps) = judged_all ps >>= ruled k at form

    pub judged_all : Parts → Ruled (List Meant)
    judged_all none = gives []
    judged_all (part p ps) = before (judged p) (judged_all ps)

  -- A phrase has meaning where its parts have meaning and the rule of its form gives one.
  abbrev pub Means : Phrase → Meant → Type 0
  Means p m = judged p ≡ gives m

  -- It breaks a rule though all its parts have meaning.
  abbrev pub Breaks : Phrase → Fault → Type 0
  Breaks (phrase at form ps) f = (ms : List Meant) × (judged_all ps ≡ gives ms) × (ruled k at form ms ≡ breaks f)

  -- The first of these phrases that breaks a rule though all its parts have meaning has this fault.
  abbrev pub IsFirst : List Phrase → Fault → Type 0
  IsFirst [] f = ⊥
  IsFirst (p ∷ ps) f = Breaks p f ⊎ (((g : Fault) → Breaks p g → ⊥) × IsFirst ps f)
