-- The rules of meaning, one for each form of phrase: what it means at this place where its parts mean these, or which rule it breaks.
use Rattle.std.specs.Prelude.{ℕ, Bool, false, ◌&&◌, List, [], ◌∷◌, drop, flat_map, Option, Some, None, is_none}
use Rattle.elan_types.specs.declared.elan_type.ElanType.TheVariants.{Bool as Truths}
use Rattle.elan_types.specs.declared.core_phrase.ValuePhrase.TheVariants as value
use Rattle.elan_types.specs.declared.core_phrase.Action.{Action}
pub use Rattle.value_rules.specs.Values.{number, text, denoter, bracketed, concr, indexed, field_part, cand, cor}
use Rattle.elan_meant.specs.declared.meant.Meant.{Meant}
use Rattle.elan_meant.specs.declared.meant.Meant.TheVariants.{Absent, Done, Value, Labels, Bodies, Level}
use Rattle.elan_scope.specs.Scope.{Callable, find, find_own, find_own_type, is_known, left, first_heading, is_alike, types_of}
use Rattle.elan_meant.specs.Verdict.{Verdict, gives, breaks, ◌>>=◌, told, unless}
use Rattle.elan_meant.specs.Operands.{chosen, is_unclear, becomes}
use Rattle.elan_scope.specs.declared.known.Known.{Known}
use Rattle.elan_meant.specs.Parts.{nth, unit_of, actions_of}
use Rattle.elan_scope.specs.declared.scope.Scope.{Scope}
use Rattle.elan_names.specs.declared.heading.Sort.TheVariants.{Procedure, Operator}
use Rattle.value_rules.specs.Calls.{named, applied, start_named, started, called, declared, heading, leaving}
use Rattle.value_rules.specs.Calls.{type_declared, exported, leaves_open, is_open_name, declares_open, is_open_type, heading_open}
use Rattle.elan_rules.specs.Units.{assigned, initial, binding_if, in_order, alone, without_value, must_deliver, body_with, content_as, content_of, bodies_in}
use Rattle.elan_rules.specs.Choices.{choice, label_is, label_named, labels_in, selected}
use Rattle.elan_rules.specs.Loops.{counted, loop}
use Rattle.elan_scope.specs.Phrase as form
use Rattle.elan_scope.specs.Phrase.{Plain, Form}
use Rattle.elan_scope.specs.Ruled.{Ruled}

-- ---- assignments

-- a call that stands alone
abbrev pub called_alone : ℕ → Callable → List Meant → Verdict Meant
called_alone at c ms = called at c ms >>= (λ m. gives (alone m))

-- An own operator `:=` is looked at first. It is called, and the assignment delivers what it delivers.
abbrev pub assignment_as : ℕ → Meant → Meant → Option Callable → Verdict Meant
assignment_as at l r (Some c) = called_alone at c (l ∷ r ∷ [])
assignment_as at l r None = assigned at l r

-- A BOUND variable that is given a data space is bound to it, whatever `:=` is declared.
abbrev pub assignment_or : ℕ → Scope → Meant → Meant → Option Action → Verdict Meant
assignment_or at s l r (Some a) = gives (unit_of (a ∷ []))
assignment_or at s l r None = assignment_as at l r (chosen s Operator becomes (l ∷ r ∷ []))

abbrev pub assignment : ℕ → Scope → Bool → Meant → Meant → Verdict Meant
assignment at s named l r = assignment_or at s l r (binding_if named l r)

-- ---- the rules of forms that need to know nothing of bodies

abbrev pub rule : ℕ → Plain → List Meant → Verdict Meant
rule at form.absent ms = gives Absent
rule at (form.number n) ms = number at n
rule at (form.truth b) ms = gives (Value at Truths (value.Truth b))
rule at (form.text x) ms = text at x
rule at (form.applied s sort x) ms = applied at s sort x ms
rule at (form.start_name s x) ms = start_named at s x
rule at (form.start may) ms = started at may (nth ms 0)
rule at form.bracket ms = gives (bracketed at (nth ms 0))
rule at (form.concr s) ms = concr at s (nth ms 0)
rule at form.index ms = indexed at (nth ms 0) (nth ms 1)
rule at (form.field x) ms = field_part at x (nth ms 0)
rule at form.cand ms = cand at (nth ms 0) (nth ms 1)
rule at form.cor ms = cor at (nth ms 0) (nth ms 1)
rule at form.choice ms = choice at ms
rule at (form.label earlier n) ms = label_is at earlier n
rule at (form.label_name earlier s x) ms = label_named at earlier (is_known s Procedure x 0) (find s x)
rule at form.labels ms = gives (Labels (flat_map labels_in ms))
rule at form.selection ms = selected at (nth ms 0) (drop 1 ms)
rule at (form.declares s x) ms = declared at (find_own s x)
rule at form.initial ms = initial at (nth ms 0) (nth ms 1)
rule at form.declaration ms = gives (unit_of (actions_of ms))
rule at form.definition ms = gives (Done [])
rule at (form.type_name s x) ms = type_declared at (find_own_type s x)
rule at form.statement ms = gives (alone (nth ms 0))
rule at (form.assignment s named) ms = assignment at s named (nth ms 0) (nth ms 1)
rule at form.loop ms = loop at (nth ms 0) (nth ms 1) (nth ms 2)
rule at (form.count w) ms = counted at w (nth ms 0) (nth ms 1) (nth ms 2) (nth ms 3) (nth ms 4) (nth ms 5)
rule at form.without_value ms = without_value (nth ms 0)
rule at (form.must_deliver t) ms = must_deliver at t (nth ms 0)
rule at form.units ms = gives (in_order ms)
rule at (form.heading s sort x ps r missing) ms = heading at ps missing (first_heading (is_alike sort x (types_of ps)) s.headings)
rule at (form.body o r) ms = gives (body_with o (content_as r (nth ms 0)))
rule at form.routine ms = gives (Bodies (flat_map bodies_in ms))
rule at (form.refinement o) ms = gives (body_with o (content_of (nth ms 1)))
rule at (form.exported doubled may) ms = exported at doubled may
rule at form.level ms = gives (Level (actions_of ms) (flat_map bodies_in ms))

-- ---- what hangs on a type that has no meaning: what may take or deliver such, the declaration of a name, and headings

abbrev pub hangs_on : ℕ → Plain → List Meant → Bool
hangs_on at (form.applied s sort x) ms = is_unclear s sort x ms
hangs_on at (form.assignment s named) ms = is_none (binding_if named (nth ms 0) (nth ms 1)) && is_unclear s Operator becomes (nth ms 0 ∷ nth ms 1 ∷ [])
hangs_on at (form.declares s x) ms = declares_open at (find_own s x)
hangs_on at (form.type_name s x) ms = is_open_type at (find_own_type s x)
hangs_on at (form.heading s sort x ps r missing) ms = heading_open ps r (heading at ps missing (first_heading (is_alike sort x (types_of ps)) s.headings))
hangs_on at f ms = false

-- ---- the rules of all forms; two ask what is known of bodies

abbrev pub ruled : Known → ℕ → Form → List Meant → Ruled Meant
ruled k at (form.named u s x) ms = unless (is_open_name s x (find s x)) (named k u at s x (find s x))
ruled k at (form.leave s x) ms = unless (leaves_open s (left s x)) (told (leaving k at (left s x) (nth ms 0)))
ruled k at (form.plain f) ms = unless (hangs_on at f ms) (told (rule at f ms))
