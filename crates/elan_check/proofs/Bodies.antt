-- The bodies that stand in the phrases of a text are those that are gone over, in the same order.
use Rattle.std.specs.Prelude.{map, flat_map}
use Rattle.std.specs.List.{list_any}
use Rattle.std.specs.Str.{bytes_eq}
use Rattle.std.proofs.Common.{◌≡◌, ℕ, suc, ◌+◌, List, [], ◌∷◌, ◌++◌, Option, refl, sym, ap, ◌∙◌, append_assoc}
use Rattle.std.proofs.lemmas.List.{append-nil}
use Rattle.elan_tree.specs.declared.written_type.Name.{Name}
use Rattle.elan_tree.specs.declared.written_type.TypePhrase.{TypePhrase}
use Rattle.elan_tree.specs.declared.written_type.Formal.{Formal}
use Rattle.elan_tree.specs.declared.tree.Body.{Body}
use Rattle.elan_tree.specs.declared.tree.Refinement.{Refinement}
use Rattle.elan_tree.specs.declared.tree.Level.{Level}
use Rattle.elan_tree.specs.declared.tree.LevelUnit.{LevelUnit}
use Rattle.elan_tree.specs.declared.tree.LevelUnit.TheVariants as level
use Rattle.elan_tree.specs.declared.tree.Export.{Export}
use Rattle.elan_tree.specs.declared.tree.Tree.{Tree}
use Rattle.elan_scope.specs.declared.delivery.Delivery.TheVariants.{Open, Nothing}
use Rattle.elan_names.specs.declared.heading.Sort.{Sort}
use Rattle.elan_names.specs.declared.heading.Sort.TheVariants.{Procedure, Operator}
use Rattle.elan_scope.specs.declared.scope.Scope.{Scope}
use Rattle.elan_scope.specs.declared.env.Env.{Env}
use Rattle.elan_scope.specs.Known.{delivered}
use Rattle.elan_scope.specs.Phrase as form
use Rattle.elan_scope.specs.Phrase.{Form, plain, Phrase, phrase, Parts, none, part, all_of, leaf}
use Rattle.elan_walk.specs.Operators.{operator_text}
use Rattle.elan_check.specs.Below.elan_rules.specs.Meaning.{phrases, phrases_of}
use Rattle.elan_judge.specs.Shape as shape
use Rattle.elan_judge.proofs.InScope.{Names, InScope, AllIn, statement_in, body_units_in}
use Rattle.type_names.specs.Bodies as b
use Rattle.elan_judge.specs.Level as l
use Rattle.elan_judge.specs.Refinements.{units_in, bodies_within, known_of}
use Rattle.elan_check.specs.Text.{known}
use Rattle.elan_judge.specs.walks.Units.{level_units, all_unit_bodies}

abbrev units_of : List Phrase → List Phrase
units_of ps = flat_map units_in ps

abbrev parts_units : List Phrase → List Phrase
parts_units ps = units_of (phrases_of (all_of ps))

append : (ps qs : List Phrase) → units_of (ps ++ qs) ≡ units_of ps ++ units_of qs
append [] qs = refl
append (p ∷ ps) qs = ap (λ (x : List Phrase). units_in p ++ x) (append ps qs) ∙ sym (append_assoc (units_in p) (units_of ps) (units_of qs))

-- ---- phrases that are no bodies

around_parts : (at : ℕ) (f : Form) (ps : Parts) → units_in (phrase at f ps) ≡ [] → bodies_within (phrase at f ps) ≡ units_of (phrases_of ps)
around_parts at f ps e =
    append (phrases_of ps) (phrase at f ps ∷ []) ∙ ap (λ (x : List Phrase). units_of (phrases_of ps) ++ (x ++ [])) e
    ∙ append-nil (units_of (phrases_of ps))

no_body : (s : Scope) (at : ℕ) (f : Form) (ps : Parts) → Names s f → units_in (phrase at f ps) ≡ []
no_body s at (plain (form.body o r)) ps i = absurd i
no_body s at (plain (form.refinement o)) ps i = absurd i
no_body s at _ ps i = refl

mutual
  quiet : (s : Scope) (p : Phrase) → InScope s p → bodies_within p ≡ []
  quiet s (phrase at f ps) i = around_parts at f ps (no_body s at f ps i.0) ∙ all_quiet s ps i.1

  all_quiet : (s : Scope) (ps : Parts) → AllIn s ps → units_of (phrases_of ps) ≡ []
  all_quiet s none i = refl
  all_quiet s (part p ps) i =
      append (phrases p) (phrases_of ps) ∙ ap (λ (x : List Phrase). x ++ units_of (phrases_of ps)) (quiet s p i.0) ∙ all_quiet s ps i.1

abbrev AllQuiet : List Phrase → Type 0
AllQuiet [] = Unit {0}
AllQuiet (p ∷ ps) = (bodies_within p ≡ []) × AllQuiet ps

quiet_append : (ps qs : List Phrase) → AllQuiet ps → AllQuiet qs → AllQuiet (ps ++ qs)
quiet_append [] qs h g = g
quiet_append (p ∷ ps) qs h g = (h.0, quiet_append ps qs h.1 g)

quiet_parts : (ps : List Phrase) → AllQuiet ps → parts_units ps ≡ []
quiet_parts [] h = refl
quiet_parts (p ∷ ps) h =
    append (phrases p) (phrases_of (all_of ps)) ∙ ap (λ (x : List Phrase). x ++ parts_units ps) h.0 ∙ quiet_parts ps h.1

-- ---- lists of phrases

first_of : (p : Phrase) (ps ns ms : List Phrase) → bodies_within p ≡ ns → parts_units ps ≡ ms → parts_units (p ∷ ps) ≡ ns ++ ms
first_of p ps ns ms h g =
    append (phrases p) (phrases_of (all_of ps)) ∙ ap (λ (x : List Phrase). x ++ parts_units ps) h ∙ ap (λ (x : List Phrase). ns ++ x) g

parts_append : (ps qs : List Phrase) → parts_units (ps ++ qs) ≡ parts_units ps ++ parts_units qs
parts_append [] qs = refl
parts_append (p ∷ ps) qs =
    first_of p (ps ++ qs) (bodies_within p) (parts_units ps ++ parts_units qs) refl (parts_append ps qs)
    ∙ sym (append_assoc (bodies_within p) (parts_units ps) (parts_units qs))
    ∙ ap (λ (x : List Phrase). x ++ parts_units qs) (sym (first_of p ps (bodies_within p) (parts_units ps) refl refl))

all_declared : (s : Scope) (ns : List Name) → AllQuiet (map (l.declares s) ns)
all_declared s [] = tt
all_declared s (n ∷ ns) = (refl, all_declared s ns)

parameters_quiet : (s : Scope) (fs : List Formal) → AllQuiet (l.declare_parameters s fs)
parameters_quiet s [] = tt
parameters_quiet s (f ∷ fs) = quiet_append (map (l.declares s) f.names) (l.declare_parameters s fs) (all_declared s f.names) (parameters_quiet s fs)

procedure_quiet : (s : Scope) (n : Name) (fs : List Formal) → AllQuiet (l.procedure_name s n fs)
procedure_quiet s n [] = (refl, tt)
procedure_quiet s n (f ∷ fs) = tt

-- ---- refinements

-- a body, whose units have no bodies
one_body : (p us : Phrase) (before : List Phrase) → phrases p ≡ (before ++ (phrases us ++ [])) ++ p ∷ [] → units_of before ≡ [] → bodies_within us ≡ []
    → units_in p ≡ us ∷ [] → bodies_within p ≡ us ∷ []
one_body p us before e q h g =
    ap units_of e ∙ append (before ++ (phrases us ++ [])) (p ∷ [])
    ∙ ap (λ (x : List Phrase). x ++ (units_in p ++ [])) (append before (phrases us ++ []) ∙ ap (λ (x : List Phrase). x ++ units_of (phrases us ++ [])) q
    ∙ append (phrases us) [] ∙ ap (λ (x : List Phrase). x ++ []) h)
    ∙ ap (λ (x : List Phrase). x ++ []) g

refined : (s : Scope) (k : ℕ) (r : Refinement) → bodies_within (l.refinement s k r) ≡ l.refined_units s k r ∷ []
refined s k r =
    one_body (l.refinement s k r) (l.refined_units s k r) (l.declares s r.name ∷ []) refl refl
    (quiet (l.refinement_scope s k) (l.refined_units s k r) (body_units_in (l.refinement_scope s k) Open r.units)) refl

refinements : (s : Scope) (k : ℕ) (rs : List Refinement) → parts_units (l.refinements s k rs) ≡ l.all_refined_units s k rs
refinements s k [] = refl
refinements s k (r ∷ rs) =
    first_of (l.refinement s k r) (l.refinements s (suc k) rs) (l.refined_units s k r ∷ []) (l.all_refined_units s (suc k) rs) (refined s k r)
    (refinements s (suc k) rs)

-- ---- PROCs and OPs

module _ (s : Scope) (k : ℕ) (at : ℕ) (x : List ℕ) (r : Option TypePhrase) (fs : List Formal) (w : Body) where
  abbrev inner : Scope
  inner = l.inner s k at x r fs w

  own : bodies_within (l.own_body s k at x r fs w) ≡ l.own_units s k at x r fs w ∷ []
  own =
      one_body (l.own_body s k at x r fs w) (l.own_units s k at x r fs w) [] refl refl
      (quiet inner (l.own_units s k at x r fs w) (body_units_in inner (delivered (b.result s.types r)) w.units)) refl

  routine : (sort : Sort) (names : List Phrase) → AllQuiet names → bodies_within (l.routine s k at x r fs w sort names) ≡ l.routine_units s k at x r fs w
  routine sort names q =
      let heading = l.heading_phrases s k at x r fs w sort names in
      let body = l.body_phrases s k at x r fs w in
      let marked = form.leaf at (form.heading s sort x (b.parameters s.types fs) (b.result s.types r) (l.is_missing (b.result s.types r) (l.body_units s k at x r fs w))) in
      around_parts 0 (plain form.routine) (all_of (heading ++ body)) refl ∙ parts_append heading body
      ∙ ap (λ (y : List Phrase). y ++ parts_units body)
      (quiet_parts heading (quiet_append names (marked ∷ l.declare_parameters inner fs) q (refl, parameters_quiet inner fs)))
      ∙ first_of (l.own_body s k at x r fs w) (l.refinements inner (suc k) w.refinements) (l.own_units s k at x r fs w ∷ [])
      (l.all_refined_units inner (suc k) w.refinements) own (refinements inner (suc k) w.refinements)

-- ---- the level

unit : (s : Scope) (k : ℕ) (u : LevelUnit) → bodies_within (l.level_unit s k u) ≡ l.unit_bodies s k u
unit s k (level.Plain u) = quiet s (shape.role Nothing (shape.written (shape.unit s u))) (statement_in s Nothing u)
unit s k (level.Proc at r n fs w) = routine s k n.at n.text r fs w Procedure (l.procedure_name s n fs) (procedure_quiet s n fs)
unit s k (level.Op at r n fs w) = routine s k n.at (operator_text n.operator) r fs w Operator [] tt
unit s k (level.NewType at n of) = refl

units : (s : Scope) (k : ℕ) (us : List LevelUnit) → parts_units (level_units s k us) ≡ all_unit_bodies s k us
units s k [] = refl
units s k (u ∷ us) =
    first_of (l.level_unit s k u) (level_units s (k + b.bodies_in u) us) (l.unit_bodies s k u) (all_unit_bodies s (k + b.bodies_in u) us) (unit s k u)
    (units s (k + b.bodies_in u) us)

-- What a packet shows has no bodies.
exports_none : (s : Scope) (w : Level) (earlier : List (List ℕ)) (es : List Export) → parts_units (l.exports s w earlier es) ≡ []
exports_none s w earlier [] = refl
exports_none s w earlier (e ∷ es) =
    let doubled = list_any (λ y. bytes_eq y (l.export_name e)) earlier in
    first_of (leaf (l.export_place e) (form.exported doubled (l.may_show s w (l.export_name e)))) (l.exports s w (earlier ++ l.export_name e ∷ []) es) [] []
    refl (exports_none s w (earlier ++ l.export_name e ∷ []) es)

level_are : (s : Scope) (w : Level) → parts_units (l.level_parts s w) ≡ l.level_bodies s w
level_are s w =
    let n = b.bodies_of_units w.units in
    let first = level_units s 0 w.units in
    let rest = l.refinements s n w.refinements in
    parts_append first rest
    ∙ ap (λ (x : List Phrase). x ++ parts_units rest) (units s 0 w.units)
    ∙ ap (λ (x : List Phrase). all_unit_bodies s 0 w.units ++ x) (refinements s n w.refinements)

pub bodies_are : (env : Env) (t : Tree) → bodies_within (l.text env t) ≡ l.level_bodies (l.text_scope env t) (l.level_in t)
bodies_are env t =
    let s = l.text_scope env t in
    let w = l.level_in t in
    let shown = l.exports s w [] (l.exports_in t) in
    let rest = l.level_parts s w in
    around_parts 0 (plain form.level) (all_of (shown ++ rest)) refl ∙ parts_append shown rest
    ∙ ap (λ (x : List Phrase). x ++ parts_units rest) (exports_none s w [] (l.exports_in t)) ∙ level_are s w

pub known_is : (env : Env) (t : Tree) → known env t ≡ known_of (l.text_scope env t).headings (l.level_bodies (l.text_scope env t) (l.level_in t))
known_is env t = ap (known_of (l.text_scope env t).headings) (bodies_are env t)
