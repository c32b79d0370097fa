-- What is judged of a type as it is written is what it means.
use Rattle.std.proofs.Common.{◌≡◌, ℕ, Bool, true, false, List, [], ◌∷◌, ◌++◌, map, refl, sym, ap, ◌∙◌}
use Rattle.std.specs.Prelude.{flat_map}
use Rattle.elan_types.specs.declared.elan_type.ElanType.{ElanType}
use Rattle.elan_types.specs.declared.elan_type.FieldType.{FieldType}
use Rattle.elan_tree.specs.declared.tree.Refinement.{Refinement}
use Rattle.elan_tree.specs.declared.written_type.TypePhrase.{TypePhrase}
use Rattle.elan_tree.specs.declared.written_type.TypePhrase.TheOpen as phrase
use Rattle.elan_tree.specs.declared.written_type.TypePhrase.TheOpen.{TypePhrase-F, Field-F}
use Rattle.elan_tree.specs.declared.written_type.TypePhrase.TheFolds.{ind-TypePhrase, map-TypePhrase, map-Field, fold-roll-TypePhrase, fold-roll-Field}
use Rattle.elan_tree.specs.declared.written_type.Field.{Field}
use Rattle.elan_tree.specs.declared.written_type.Name.{Name}
use Rattle.elan_names.specs.declared.type_name.TypeName.{TypeName}
use Rattle.type_names.specs.Types.{look, meant, fields_meant, meant_step, fields_step, size_of, row_of, structure_of}
use Rattle.type_names.specs.walks.Judged.{named_alike}
use Rattle.type_names.specs.Faults.{Judged, JudgedFields, judged, judged_fields, judged_step, judged_fields_step}

module _ (seen : List TypeName) (rs : List Refinement) where
  abbrev Same : TypePhrase → Type 0
  Same of = (inside : Bool) → (judged seen rs of inside).of ≡ meant (look seen) of inside

  abbrev FieldSame : Field → Type 0
  FieldSame f = (judged_fields seen rs f).fields ≡ fields_meant (look seen) f

  abbrev Known : Type 0
  Known = (of : TypePhrase) × Same of

  abbrev FieldKnown : Type 0
  FieldKnown = (f : Field) × FieldSame f

  fields_same : (fs : List FieldKnown) → flat_map (λ f. f.fields) (map (judged_fields seen rs) (map (λ e. e.0) fs))
      ≡ flat_map (λ xs. xs) (map (fields_meant (look seen)) (map (λ e. e.0) fs))
  fields_same [] = refl
  fields_same (f ∷ fs) =
      ap (λ (xs : List FieldType). xs ++ flat_map (λ g. g.fields) (map (judged_fields seen rs) (map (λ e. e.0) fs))) f.1
      ∙ ap (λ (xs : List FieldType). fields_meant (look seen) f.0 ++ xs) (fields_same fs)

  same_here : (y : TypePhrase-F Known FieldKnown) (inside : Bool)
      → (judged_step seen rs (map-TypePhrase _ _ _ _ (judged seen rs) (judged_fields seen rs) (map-TypePhrase _ _ _ _ (λ e. e.0) (λ e. e.0) y)) inside).of
      ≡ meant_step (look seen) (map-TypePhrase _ _ _ _ (meant (look seen)) (fields_meant (look seen)) (map-TypePhrase _ _ _ _ (λ e. e.0) (λ e. e.0) y)) inside
  same_here (phrase.Int at) inside = refl
  same_here (phrase.Bool at) inside = refl
  same_here (phrase.Text at) inside = refl
  same_here (phrase.Task at) inside = refl
  same_here (phrase.Dataspace at) true = refl
  same_here (phrase.Dataspace at) false = refl
  same_here (phrase.Named n) inside = refl
  same_here (phrase.Row at size of) inside = ap (row_of (size_of (look seen) size)) (of.1 true)
  same_here (phrase.Struct at fs) inside = ap structure_of (fields_same fs)

  field_same_here : (y : Field-F Known FieldKnown)
      → (judged_fields_step seen rs (map-Field _ _ _ _ (judged seen rs) (judged_fields seen rs) (map-Field _ _ _ _ (λ e. e.0) (λ e. e.0) y))).fields
      ≡ fields_step (look seen) (map-Field _ _ _ _ (meant (look seen)) (fields_meant (look seen)) (map-Field _ _ _ _ (λ e. e.0) (λ e. e.0) y))
  field_same_here y = ap (λ (t : ElanType). map (λ (n : Name). field_of n.text t) y.names) (y.of.1 true)
    where
      field_of : List ℕ → ElanType → FieldType
      field_of x t = record { name = x; of = t }

  pub judged_type : (of : TypePhrase) (inside : Bool) → (judged seen rs of inside).of ≡ meant (look seen) of inside
  judged_type =
      ind-TypePhrase Same FieldSame
      (λ x y is.
      rw (← is) (λ inside.
      ap (λ (j : Bool → Judged). (j inside).of) (fold-roll-TypePhrase (Bool → Judged) JudgedFields _ _ (map-TypePhrase _ _ _ _ (λ e. e.0) (λ e. e.0) y))
      ∙ same_here y inside
      ∙ sym (ap (λ (t : Bool → ElanType). t inside)
      (fold-roll-TypePhrase (Bool → ElanType) (List FieldType) _ _ (map-TypePhrase _ _ _ _ (λ e. e.0) (λ e. e.0) y)))))
      (λ x y is.
      rw (← is) (ap (λ (j : JudgedFields). j.fields) (fold-roll-Field (Bool → Judged) JudgedFields _ _ (map-Field _ _ _ _ (λ e. e.0) (λ e. e.0) y)) ∙ field_same_here y
      ∙ sym (fold-roll-Field (Bool → ElanType) (List FieldType) _ _ (map-Field _ _ _ _ (λ e. e.0) (λ e. e.0) y))))

  judged_field : (f : Field) → (judged_fields seen rs f).fields ≡ fields_meant (look seen) f
  judged_field f =
      ap (λ (j : JudgedFields). j.fields) (fold-roll-Field (Bool → Judged) JudgedFields _ _ (record { of = f.of; names = f.names }))
      ∙ ap (λ (t : ElanType). named_alike t f.names) (judged_type f.of true)
      ∙ sym (fold-roll-Field (Bool → ElanType) (List FieldType) _ _ (record { of = f.of; names = f.names }))

  pub fields_are : (fs : List Field)
      → flat_map (λ f. f.fields) (map (judged_fields seen rs) fs) ≡ flat_map (λ xs. xs) (map (fields_meant (look seen)) fs)
  fields_are [] = refl
  fields_are (f ∷ fs) =
      ap (λ (xs : List FieldType). xs ++ flat_map (λ g. g.fields) (map (judged_fields seen rs) fs)) (judged_field f)
      ∙ ap (λ (xs : List FieldType). fields_meant (look seen) f ++ xs) (fields_are fs)
