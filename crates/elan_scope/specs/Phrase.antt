-- Phrases: a place, a form, and the parts. A form is also the role that a phrase plays in another.
use Rattle.std.specs.Prelude.{ℕ, ℤ, Bool, List, [], ◌∷◌, Option}
use Rattle.eu_base.specs.declared.operation.Way.{Way}
use Rattle.elan_types.specs.declared.elan_type.ElanType.{ElanType}
use Rattle.elan_types.specs.declared.elan_type.Parameter.{Parameter}
use Rattle.elan_types.specs.declared.core_phrase.Scope.{Scope as Owner}
use Rattle.elan_names.specs.declared.heading.Sort.{Sort}
use Rattle.elan_scope.specs.declared.scope.Scope.{Scope}
use Rattle.elan_scope.specs.declared.scope.Usage.{Usage}

-- The forms whose rule needs to know their parts alone.
pub data Plain : Type 0 where
  -- a part that is not written
  absent : Plain
  number : ℤ → Plain
  truth : Bool → Plain
  text : List ℕ → Plain
  -- an operator with its operands, or a procedure with its actuals
  applied : Scope → Sort → List ℕ → Plain
  -- the name behind PROC, and PROC with it: whether it stands where it may
  start_name : Scope → List ℕ → Plain
  start : Bool → Plain
  bracket : Plain
  -- CONCR of a value or place of one of the text's own types
  concr : Scope → Plain
  -- a value or place of a row and an index, and one of a structure
  index : Plain
  field : List ℕ → Plain
  cand : Plain
  cor : Plain
  -- conditions, each before its units, and the units of ELSE
  choice : Plain
  -- a label after these numbers: a number, and the name of one
  label : List ℤ → ℤ → Plain
  label_name : List ℤ → Scope → List ℕ → Plain
  labels : Plain
  -- a value, labels, each before their units, and the units of OTHERWISE
  selection : Plain
  -- a name in its declaration
  declares : Scope → List ℕ → Plain
  -- a name and its initial value
  initial : Plain
  declaration : Plain
  -- a name of a LET and what it is given to, and all names of a LET
  definition : Plain
  -- the name of a type in its declaration
  type_name : Scope → List ℕ → Plain
  -- an expression that stands alone
  statement : Plain
  -- an assignment, and whether a name stands at its left
  assignment : Scope → Bool → Plain
  -- a condition, units, and a condition; before them a counter, its first value and its limit
  loop : Plain
  count : Way → Plain
  -- a unit that may deliver nothing, and one that has to deliver this type
  without_value : Plain
  must_deliver : ElanType → Plain
  units : Plain
  -- the heading of a PROC or OP with what it delivers, and whether a value is missing because its body has no unit
  heading : Scope → Sort → List ℕ → List Parameter → Option ElanType → Bool → Plain
  -- the units of a PROC or OP that delivers this
  body : Owner → Option ElanType → Plain
  -- a heading, the names of parameters, units, and refinements
  routine : Plain
  -- a name in its declaration, and units
  refinement : Owner → Plain
  -- A name that a packet shows: whether it shows it before, and whether it may show what its level declares under the name, where
  -- it declares that.
  exported : Bool → Option Bool → Plain
  -- the names that a text shows, its units, and its refinements
  level : Plain

pub data Form : Type 0 where
  -- an identifier without actuals, as an expression or as the counter of a loop: its rule asks what is known of bodies
  named : Usage → Scope → List ℕ → Form
  -- a LEAVE with the name of what it leaves, and the value of WITH: so does its rule
  leave : Scope → List ℕ → Form
  plain : Plain → Form

mutual
  -- A list of units, of labels or of a text, a body, and what is not written have no place of their own: 0 stands there.
  pub data Phrase : Type 0 where
    phrase : ℕ → Form → Parts → Phrase

  pub data Parts : Type 0 where
    none : Parts
    part : Phrase → Parts → Parts

abbrev pub place : Phrase → ℕ
place (phrase at form ps) = at

abbrev pub all_of : List Phrase → Parts
all_of [] = none
all_of (p ∷ ps) = part p (all_of ps)

abbrev pub row : ℕ → Plain → List Phrase → Phrase
row at form ps = phrase at (plain form) (all_of ps)

abbrev pub leaf : ℕ → Plain → Phrase
leaf at form = row at form []

abbrev pub around : ℕ → Plain → Phrase → Phrase
around at form p = row at form (p ∷ [])

abbrev pub pair : ℕ → Plain → Phrase → Phrase → Phrase
pair at form p q = row at form (p ∷ q ∷ [])

-- an identifier without actuals
abbrev pub name : Usage → ℕ → Scope → List ℕ → Phrase
name u at s x = phrase at (named u s x) none
