-- What is known of bodies, without the rounds in which it is found out.
use Rattle.std.specs.Prelude.{◌≡◌, ℕ, Option, Some, None, slice_get}
use Rattle.elan_tree.specs.declared.tree.Tree.{Tree}
use Rattle.elan_laws.specs.Below.elan_scope.specs.declared.delivery.Delivery.{Delivery}
use Rattle.elan_laws.specs.Below.elan_scope.specs.declared.delivery.Delivery.TheVariants.{Nothing}
use Rattle.elan_laws.specs.Below.elan_names.specs.declared.heading.What.{What}
use Rattle.elan_laws.specs.Below.elan_names.specs.declared.heading.What.TheVariants.{Routine, Refinement}
use Rattle.elan_laws.specs.Below.elan_names.specs.declared.heading.Heading.{Heading}
use Rattle.elan_laws.specs.Below.elan_scope.specs.declared.env.Env.{Env}
use Rattle.elan_laws.specs.Below.elan_scope.specs.declared.known.Known.{Known}
use Rattle.elan_laws.specs.Below.elan_scope.specs.Known.{delivered, delivery_at}
use Rattle.elan_laws.specs.Below.elan_scope.specs.Phrase.{Phrase}
use Rattle.elan_laws.specs.Below.elan_meant.specs.declared.meant.Meant.{Meant}
use Rattle.elan_laws.specs.Below.elan_rules.specs.Meaning.{Means}
use Rattle.elan_laws.specs.Below.type_names.specs.Bodies.{headings}
use Rattle.elan_laws.specs.Below.elan_judge.specs.Level.{level_in, text}
use Rattle.elan_laws.specs.Below.elan_judge.specs.Refinements.{bodies_within, delivery_of, last_unit}
use Rattle.elan_check.specs.Text.{known}

-- A list of units delivers what its last unit delivers, where that has a meaning.
abbrev pub Delivers : Known → Option Phrase → Delivery → Type 0
Delivers k None d = d ≡ Nothing
Delivers k (Some p) d = (m : Meant) → Means k p m → d ≡ delivery_of m

-- A PROC or OP delivers what its heading says, a refinement what its units deliver.
abbrev pub Settles : Known → What → Phrase → Delivery → Type 0
Settles k (Routine sort ps r) units d = d ≡ delivered r
Settles k (Refinement home) units d = Delivers k (last_unit units) d

-- This is known of each body of a text after these packets.
abbrev pub IsSettled : Env → Tree → Type 0
IsSettled env t =
    (n : ℕ) (h : Heading) (units : Phrase) → slice_get (headings env (level_in t)) n ≡ Some h → slice_get (bodies_within (text env t)) n ≡ Some units
    → Settles (known env t) h.what units (delivery_at (known env t) n)
