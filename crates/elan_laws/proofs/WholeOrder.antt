-- The phrases of a whole text stand in text order.
use Rattle.std.proofs.Common.{◌≡◌, ℕ, suc, ◌+◌, List, [], ◌∷◌, ◌++◌, Option, refl, sym, ap, subst, ◌∙◌, append_assoc}
use Rattle.std.specs.Prelude.{map}
use Rattle.std.proofs.lemmas.List.{append-nil}
use Rattle.elan_tree.specs.declared.written_type.Name.{Name}
use Rattle.elan_tree.specs.declared.written_type.TypePhrase.{TypePhrase}
use Rattle.elan_tree.specs.declared.written_type.Formal.{Formal}
use Rattle.elan_tree.specs.declared.tree.Body.{Body}
use Rattle.elan_tree.specs.declared.tree.Refinement.{Refinement}
use Rattle.elan_tree.specs.declared.tree.LevelUnit.{LevelUnit}
use Rattle.elan_tree.specs.declared.tree.LevelUnit.TheVariants as level
use Rattle.elan_tree.specs.declared.tree.Export.{Export}
use Rattle.elan_tree.specs.declared.tree.Export.TheVariants as exported
use Rattle.elan_tree.specs.declared.tree.Level.{Level}
use Rattle.elan_tree.specs.declared.tree.Tree.{Tree}
use Rattle.elan_tree.specs.declared.tree.Tree.TheVariants as tree
use Rattle.elan_laws.specs.Below.elan_names.specs.declared.heading.Sort.{Sort}
use Rattle.elan_laws.specs.Below.elan_names.specs.declared.heading.Sort.TheVariants.{Procedure, Operator}
use Rattle.elan_laws.specs.Below.elan_scope.specs.declared.delivery.Delivery.TheVariants.{Open}
use Rattle.elan_laws.specs.Below.elan_scope.specs.declared.env.Env.{Env}
use Rattle.elan_laws.specs.Below.elan_scope.specs.declared.scope.Scope.{Scope}
use Rattle.elan_laws.specs.Below.elan_scope.specs.Known.{delivered}
use Rattle.elan_laws.specs.Below.elan_walk.specs.Operators.{operator_text}
use Rattle.elan_laws.specs.Below.elan_scope.specs.Phrase.{Phrase, phrase, Parts, none, part}
use Rattle.elan_laws.specs.Below.type_names.specs.Bodies.{result, bodies_in, bodies_of_units}
use Rattle.elan_laws.specs.Below.elan_rules.specs.Meaning.{phrases, phrases_of}
use Rattle.elan_laws.specs.Below.elan_judge.specs.Level as l
use Rattle.elan_laws.specs.Places as at
use Rattle.elan_laws.specs.Places.{places}
use Rattle.elan_laws.specs.Order.{Follows, ends, IsSame, own, in_phrase, in_parts, leaves}
use Rattle.elan_laws.proofs.Through.{behind, beside, both, same, twice, nothing, all_of_it, through}
use Rattle.elan_laws.proofs.TextOrder.{places_of, parts_follow, one_part, body_units_follow, unit_alone_follows}
use Rattle.elan_laws.specs.Below.elan_judge.specs.walks.Units.{level_units}

-- ---- bodies

names_follow : (s : Scope) (ns : List Name) → IsSame (places_of (map (l.declares s) ns)) (at.names ns)
names_follow s [] = nothing
names_follow s (n ∷ ns) = same n.at (names_follow s ns)

formals_follow : (s : Scope) (fs : List Formal) → IsSame (places_of (l.declare_parameters s fs)) (at.formals fs)
formals_follow s [] = nothing
formals_follow s (f ∷ fs) = parts_follow (map (l.declares s) f.names) (l.declare_parameters s fs) (names_follow s f.names) (formals_follow s fs)

refinements_follow : (s : Scope) (k : ℕ) (rs : List Refinement) → IsSame (places_of (l.refinements s k rs)) (at.refinements rs)
refinements_follow s k [] = nothing
refinements_follow s k (r ∷ rs) =
    same r.name.at
    (both (one_part (l.refined_units s k r) (body_units_follow (l.refinement_scope s k) Open r.units)) (refinements_follow s (suc k) rs))

-- a PROC or OP, with its name, which may be told before its heading
module _ (s : Scope) (k : ℕ) (a : ℕ) (x : List ℕ) (r : Option TypePhrase) (fs : List Formal) (b : Body) where
  abbrev inner : Scope
  inner = l.inner s k a x r fs b

  body_follows : IsSame (places_of (l.body_phrases s k a x r fs b)) (at.in_units b.units ++ at.refinements b.refinements)
  body_follows =
      both (one_part (l.own_units s k a x r fs b) (body_units_follow inner (delivered (result s.types r)) b.units))
      (refinements_follow inner (suc k) b.refinements)

  routine_follows : (sort : Sort) (names : List Phrase) → IsSame (places_of (l.heading_phrases s k a x r fs b sort names)) (a ∷ at.formals fs)
      → IsSame (in_phrase (l.routine s k a x r fs b sort names)) (a ∷ at.body fs b)
  routine_follows sort names h = parts_follow (l.heading_phrases s k a x r fs b sort names) (l.body_phrases s k a x r fs b) h body_follows

-- A PROC without parameters is told as a name and as a heading.
procedure_follows : (s : Scope) (k : ℕ) (r : Option TypePhrase) (n : Name) (fs : List Formal) (b : Body)
    → IsSame (places_of (l.heading_phrases s k n.at n.text r fs b Procedure (l.procedure_name s n fs))) (n.at ∷ at.formals fs)
procedure_follows s k r n [] b = twice n.at nothing
procedure_follows s k r n (f ∷ fs) b = same n.at (formals_follow (l.inner s k n.at n.text r (f ∷ fs) b) (f ∷ fs))

-- ---- the level

unit_follows : (s : Scope) (k : ℕ) (u : LevelUnit) → IsSame (in_phrase (l.level_unit s k u)) (at.level_unit u)
unit_follows s k (level.Plain u) = unit_alone_follows s u
unit_follows s k (level.Proc a r n fs b) =
    routine_follows s k n.at n.text r fs b Procedure (l.procedure_name s n fs) (procedure_follows s k r n fs b)
unit_follows s k (level.Op a r n fs b) =
    routine_follows s k n.at (operator_text n.operator) r fs b Operator [] (same n.at (formals_follow (l.inner s k n.at (operator_text n.operator) r fs b) fs))
unit_follows s k (level.NewType a n of) = same n.at nothing

units_follow : (s : Scope) (k : ℕ) (us : List LevelUnit) → IsSame (places_of (level_units s k us)) (at.level_units us)
units_follow s k [] = nothing
units_follow s k (u ∷ us) = both (unit_follows s k u) (units_follow s (k + bodies_in u) us)

level_follows : (s : Scope) (w : Level) → IsSame (places_of (l.level_parts s w)) (at.in_level w)
level_follows s w =
    parts_follow (level_units s 0 w.units) (l.refinements s (bodies_of_units w.units) w.refinements) (units_follow s 0 w.units)
    (refinements_follow s (bodies_of_units w.units) w.refinements)

-- ---- what a packet shows

export_follows : (e : Export) {xs ys : List ℕ} → IsSame xs ys → IsSame (l.export_place e ∷ xs) (at.export e ∷ ys)
export_follows (exported.Ident n) h = same n.at h
export_follows (exported.Bold n) h = same n.at h
export_follows (exported.Sign a s) h = same a h

exports_follow : (s : Scope) (w : Level) (earlier : List (List ℕ)) (es : List Export) → IsSame (places_of (l.exports s w earlier es)) (at.all_exports es)
exports_follow s w earlier [] = nothing
exports_follow s w earlier (e ∷ es) = export_follows e (exports_follow s w (earlier ++ l.export_name e ∷ []) es)

pub text_same : (env : Env) (t : Tree) → IsSame (in_phrase (l.text env t)) (places t)
text_same env (tree.Program w) = level_follows (l.text_scope env (tree.Program w)) w
text_same env (tree.Packet a n exports w) =
    let s = l.text_scope env (tree.Packet a n exports w) in
    parts_follow (l.exports s w [] exports) (l.level_parts s w) (exports_follow s w [] exports) (level_follows s w)

-- ---- phrases without parts

leaves_append : (ps qs : List Phrase) → leaves (ps ++ qs) ≡ leaves ps ++ leaves qs
leaves_append [] qs = refl
leaves_append (phrase a form none ∷ ps) qs =
    ap (λ (ns : List ℕ). own a form ++ ns) (leaves_append ps qs) ∙ sym (append_assoc (own a form) (leaves ps) (leaves qs))
leaves_append (phrase a form (part q rest) ∷ ps) qs = leaves_append ps qs

mutual
  leaves_follow : (p : Phrase) → Follows (leaves (phrases p)) (in_phrase p)
  leaves_follow (phrase a form none) = all_of_it (own a form ++ [])
  leaves_follow (phrase a form (part q ps)) =
      subst (λ (ns : List ℕ). Follows ns (own a form ++ in_parts (part q ps)))
      (sym (leaves_append (phrases_of (part q ps)) (phrase a form (part q ps) ∷ []) ∙ append-nil (leaves (phrases_of (part q ps)))))
      (behind (own a form) (all_leaves_follow (part q ps)))

  all_leaves_follow : (ps : Parts) → Follows (leaves (phrases_of ps)) (in_parts ps)
  all_leaves_follow none = ends []
  all_leaves_follow (part p ps) =
      subst (λ (ns : List ℕ). Follows ns (in_phrase p ++ in_parts ps)) (sym (leaves_append (phrases p) (phrases_of ps)))
      (beside (leaves_follow p) (all_leaves_follow ps))

pub text_leaves_follow : (env : Env) (t : Tree) → Follows (leaves (phrases (l.text env t))) (places t)
text_leaves_follow env t = let h = text_same env t in through (leaves_follow (l.text env t)) h.to
