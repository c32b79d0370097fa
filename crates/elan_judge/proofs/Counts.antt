-- How many bodies a level has: so many headings, and so many lists of units.
use Rattle.std.proofs.Common.{◌≡◌, ℕ, suc, ◌+◌, List, [], ◌∷◌, length, Option, Some, None, refl, sym, ap, ◌∙◌}
use Rattle.std.proofs.lemmas.List.{length-append}
use Rattle.elan_tree.specs.declared.tree.Refinement.{Refinement as Refined}
use Rattle.elan_tree.specs.declared.tree.Level.{Level}
use Rattle.elan_tree.specs.declared.tree.LevelUnit.{LevelUnit}
use Rattle.elan_tree.specs.declared.tree.LevelUnit.TheVariants as level
use Rattle.elan_scope.specs.declared.scope.Scope.{Scope}
use Rattle.elan_judge.specs.Below.elan_names.specs.declared.type_name.TypeName.{TypeName}
use Rattle.type_names.specs.Bodies as b
use Rattle.type_names.specs.walks.Headings.{all_headings}
use Rattle.elan_judge.specs.Level as l
use Rattle.elan_judge.specs.walks.Units.{all_unit_bodies}

refined_count : (s : Scope) (k : ℕ) (rs : List Refined) → length (l.all_refined_units s k rs) ≡ length rs
refined_count s k [] = refl
refined_count s k (r ∷ rs) = ap suc (refined_count s (suc k) rs)

refinements_count : (o : Option ℕ) (rs : List Refined) → length (b.refinement_headings o rs) ≡ length rs
refinements_count o [] = refl
refinements_count o (r ∷ rs) = ap suc (refinements_count o rs)

pub unit_count : (s : Scope) (k : ℕ) (v : LevelUnit) → length (l.unit_bodies s k v) ≡ b.bodies_in v
unit_count s k (level.Plain v) = refl
unit_count s k (level.Proc at r n fs w) = ap suc (refined_count (b.routine_scope s (b.body_within s.types k fs w)) (suc k) w.refinements)
unit_count s k (level.Op at r n fs w) = ap suc (refined_count (b.routine_scope s (b.body_within s.types k fs w)) (suc k) w.refinements)
unit_count s k (level.NewType at n of) = refl

pub units_count : (s : Scope) (k : ℕ) (vs : List LevelUnit) → length (all_unit_bodies s k vs) ≡ b.bodies_of_units vs
units_count s k [] = refl
units_count s k (v ∷ vs) =
    length-append (l.unit_bodies s k v) (all_unit_bodies s (k + b.bodies_in v) vs)
    ∙ ap (λ (n : ℕ). n + length (all_unit_bodies s (k + b.bodies_in v) vs)) (unit_count s k v)
    ∙ ap (λ (n : ℕ). b.bodies_in v + n) (units_count s (k + b.bodies_in v) vs)

pub unit_headings_count : (ts : List TypeName) (k : ℕ) (v : LevelUnit) → length (b.unit_headings ts k v) ≡ b.bodies_in v
unit_headings_count ts k (level.Plain v) = refl
unit_headings_count ts k (level.Proc at r n fs w) = ap suc (refinements_count (Some k) w.refinements)
unit_headings_count ts k (level.Op at r n fs w) = ap suc (refinements_count (Some k) w.refinements)
unit_headings_count ts k (level.NewType at n of) = refl

pub all_headings_count : (ts : List TypeName) (k : ℕ) (vs : List LevelUnit) → length (all_headings ts k vs) ≡ b.bodies_of_units vs
all_headings_count ts k [] = refl
all_headings_count ts k (v ∷ vs) =
    length-append (b.unit_headings ts k v) (all_headings ts (k + b.bodies_in v) vs)
    ∙ ap (λ (n : ℕ). n + length (all_headings ts (k + b.bodies_in v) vs)) (unit_headings_count ts k v)
    ∙ ap (λ (n : ℕ). b.bodies_in v + n) (all_headings_count ts (k + b.bodies_in v) vs)

-- Each body has a heading.
pub level_count : (s : Scope) (w : Level) → length (b.headings_in s.types w) ≡ length (l.level_bodies s w)
level_count s w =
    let m = b.bodies_of_units w.units in
    length-append (all_headings s.types 0 w.units) (b.refinement_headings None w.refinements)
    ∙ ap (λ (n : ℕ). n + length (b.refinement_headings None w.refinements)) (all_headings_count s.types 0 w.units)
    ∙ ap (λ (n : ℕ). m + n) (refinements_count None w.refinements)
    ∙ sym (length-append (all_unit_bodies s 0 w.units) (l.all_refined_units s m w.refinements)
    ∙ ap (λ (n : ℕ). n + length (l.all_refined_units s m w.refinements)) (units_count s 0 w.units)
    ∙ ap (λ (n : ℕ). m + n) (refined_count s m w.refinements))
