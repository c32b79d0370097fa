-- What the code tells of types as they are written.
use Rattle.std.proofs.Common.{◌≡◌, ℕ, Bool, true, false, List, [], ◌∷◌, ◌++◌, map, Option, Some, None, refl, sym, ap, ◌∙◌}
use Rattle.std.specs.Prelude.{flat_map, Result, Ok, Err, IfOk}
use Rattle.std.proofs.Common.{append_assoc}
use Rattle.std.proofs.lemmas.List.{map-append}
use Rattle.elan_types.specs.declared.elan_type.ElanType.{ElanType}
use Rattle.elan_types.specs.declared.elan_type.FieldType.{FieldType}
use Rattle.elan_tree.specs.declared.tree.Refinement.{Refinement}
use Rattle.elan_tree.specs.declared.written_type.Name.{Name}
use Rattle.elan_tree.specs.declared.written_type.Size.{Size}
use Rattle.elan_tree.specs.declared.written_type.TypePhrase.{TypePhrase}
use Rattle.elan_tree.specs.declared.written_type.TypePhrase.TheVariants as type
use Rattle.elan_tree.specs.declared.written_type.TypePhrase.TheOpen as phrase
use Rattle.elan_tree.specs.declared.written_type.TypePhrase.TheFolds.{fold-roll-TypePhrase, fold-roll-Field}
use Rattle.elan_tree.specs.declared.written_type.Field.{Field}
use Rattle.elan_names.specs.declared.type_name.TypeName.{TypeName}
use Rattle.elan_scope.specs.Ruled.{Fault}
use Rattle.type_names.specs.declared.judgement.Judged.{Judged as Told}
use Rattle.type_names.specs.declared.judgement.Fields.{Fields}
use Rattle.type_names.specs.declared.search.Search.{Search}
use Rattle.type_names.specs.Types.{look, size_of, row_of, structure_of}
use Rattle.type_names.specs.Faults.{Judged, JudgedFields, judged, judged_fields, judged_step, judged_fields_step, first_fault, size_faults, row_fault, structure_fault}
use Rattle.type_names.specs.Faults.{doubled_names, fields_faults}
use Rattle.type_names.specs.walks.Seen.{earlier, with_fault, Notes}
use Rattle.type_names.specs.walks.Judged.{told, told_fields, texts, named_alike}

-- ---- the first of several faults

pub first_append : (xs ys : List Fault) → first_fault (xs ++ ys) ≡ earlier (first_fault xs) (first_fault ys)
first_append [] ys = refl
first_append (x ∷ xs) ys = refl

pub earlier_none : (f : Option Fault) → earlier f None ≡ f
earlier_none None = refl
earlier_none (Some f) = refl

pub earlier_three : (f g h : Option Fault) → earlier (earlier f g) h ≡ earlier f (earlier g h)
earlier_three None g h = refl
earlier_three (Some f) g h = refl

pub first_three : (xs ys zs : List Fault) → first_fault (xs ++ ys ++ zs) ≡ earlier (first_fault xs) (earlier (first_fault ys) (first_fault zs))
first_three xs ys zs =
    first_append (xs ++ ys) zs ∙ ap (λ (f : Option Fault). earlier f (first_fault zs)) (first_append xs ys)
    ∙ earlier_three (first_fault xs) (first_fault ys) (first_fault zs)

pub noted : {E : Type 0} (s t : Search) (r : Result (Option Fault) E) (f : Option Fault) → Notes s r t → IfOk r (λ g. g ≡ f) → t.wanted ≡ false
    → (s.wanted ≡ false) × (t ≡ with_fault s f)
noted s t (Ok g) f n i w = let p = n w in (p.0, p.1 ∙ ap (with_fault s) i)
noted s t (Err e) f n i w = absurd cc

-- ---- types

abbrev told_of : ElanType → Option Fault → Told
told_of t f = record { of = t; first = f }

pub texts_alike : (t : ElanType) (ns : List Name) → texts (named_alike t ns) ≡ map (λ n. n.text) ns
texts_alike t [] = refl
texts_alike t (n ∷ ns) = ap (λ (xs : List (List ℕ)). n.text ∷ xs) (texts_alike t ns)

texts_more : (fs : List FieldType) (t : ElanType) (ns : List Name) → texts (fs ++ named_alike t ns) ≡ texts fs ++ map (λ n. n.text) ns
texts_more fs t ns = map-append (λ (f : FieldType). f.name) fs (named_alike t ns) ∙ ap (λ (xs : List (List ℕ)). texts fs ++ xs) (texts_alike t ns)

module _ (seen : List TypeName) (rs : List Refinement) where
  row_is : (at : ℕ) (size : Size) (t : TypePhrase) → judged seen rs (type.Row at size t) ≡ judged_step seen rs (phrase.Row at size (judged seen rs t))
  row_is at size t = ap (judged seen rs) (sym (type.rolls-Row at size t)) ∙ fold-roll-TypePhrase _ _ _ _ (phrase.Row at size t)

  structure_is : (at : ℕ) (fs : List Field)
      → judged seen rs (type.Struct at fs) ≡ judged_step seen rs (phrase.Struct at (map (judged_fields seen rs) fs))
  structure_is at fs = ap (judged seen rs) (sym (type.rolls-Struct at fs)) ∙ fold-roll-TypePhrase _ _ _ _ (phrase.Struct at fs)

  pub field_is : (f : Field) → judged_fields seen rs f ≡ judged_fields_step seen rs (record { of = judged seen rs f.of; names = f.names })
  field_is f = fold-roll-Field _ _ _ _ (record { of = f.of; names = f.names })

  abbrev size_is : Size → Option ℕ
  size_is = size_of (look seen)

  row_told : (at : ℕ) (size : Size) (t : TypePhrase) (inside : Bool) (row : Told) → row.of ≡ row_of (size_is size) (judged seen rs t true).of
      → row.first ≡ earlier (first_fault (row_fault at (size_is size) (judged seen rs t true).of))
      (earlier (first_fault (size_faults seen rs size)) (first_fault (judged seen rs t true).faults))
      → row ≡ told (judged seen rs (type.Row at size t) inside)
  row_told at size t inside row o f =
      let j = judged seen rs t true in
      ap (λ (u : ElanType). told_of u row.first) o
      ∙ ap (told_of (row_of (size_is size) j.of)) (f ∙ sym (first_three (row_fault at (size_is size) j.of) (size_faults seen rs size) j.faults))
      ∙ ap (λ (g : Bool → Judged). told (g inside)) (sym (row_is at size t))

  pub rows_told : {E : Type 0} (r : Result Told E) (at : ℕ) (size : Size) (p t u : TypePhrase) (inside : Bool) (items : Told) (n : Option ℕ) (broken behind : Option Fault)
      → p ≡ type.Row at size t → u ≡ t → items ≡ told (judged seen rs u true) → n ≡ size_is size → broken ≡ first_fault (size_faults seen rs size)
      → behind ≡ earlier broken items.first
      → IfOk r (λ row. (row.of ≡ row_of n items.of) × (row.first ≡ earlier (first_fault (row_fault at n items.of)) behind))
      → IfOk r (λ row. row ≡ told (judged seen rs p inside))
  rows_told (Ok row) at size p t u inside items n broken behind e g i k w b h =
      let j : items ≡ told (judged seen rs t true) = i ∙ ap (λ (v : TypePhrase). told (judged seen rs v true)) g in
      row_told at size t inside row (h.0 ∙ ap (λ (m : Option ℕ). row_of m items.of) k ∙ ap (λ (v : Told). row_of (size_is size) v.of) j)
      (h.1 ∙ ap (λ (m : Option ℕ). earlier (first_fault (row_fault at m items.of)) behind) k
      ∙ ap (λ (v : Told). earlier (first_fault (row_fault at (size_is size) v.of)) behind) j
      ∙ ap (earlier (first_fault (row_fault at (size_is size) (judged seen rs t true).of)))
      (b ∙ ap (λ (f : Option Fault). earlier f items.first) w ∙ ap (λ (v : Told). earlier (first_fault (size_faults seen rs size)) v.first) j))
      ∙ ap (λ (q : TypePhrase). told (judged seen rs q inside)) (sym e)
  rows_told (Err x) at size p t u inside items n broken behind e g i k w b h = tt

  structure_told : (at : ℕ) (p : TypePhrase) (inside : Bool) (fs gs : List Field) (known : Fields) (whole : Told) → p ≡ type.Struct at fs → gs ≡ fs
      → known ≡ told_fields (map (judged_fields seen rs) gs) → whole.of ≡ structure_of known.list
      → whole.first ≡ earlier (first_fault (structure_fault at known.list)) known.first → whole ≡ told (judged seen rs p inside)
  structure_told at p inside fs gs known whole e g k o f =
      let js = map (judged_fields seen rs) fs in
      let list = flat_map (λ (f : JudgedFields). f.fields) js in
      let i : known ≡ told_fields js = k ∙ ap (λ (hs : List Field). told_fields (map (judged_fields seen rs) hs)) g in
      ap (λ (u : ElanType). told_of u whole.first) (o ∙ ap (λ (v : Fields). structure_of v.list) i)
      ∙ ap (told_of (structure_of list))
      (f ∙ ap (λ (v : Fields). earlier (first_fault (structure_fault at v.list)) v.first) i
      ∙ sym (first_append (structure_fault at list) (fields_faults [] js)))
      ∙ ap (λ (g : Bool → Judged). told (g inside)) (sym (structure_is at fs)) ∙ ap (λ (q : TypePhrase). told (judged seen rs q inside)) (sym e)

  pub structures_told : {E : Type 0} (r : Result Told E) (at : ℕ) (p : TypePhrase) (inside : Bool) (fs gs : List Field) (known : Fields)
      → p ≡ type.Struct at fs → gs ≡ fs → known ≡ told_fields (map (judged_fields seen rs) gs)
      → IfOk r (λ whole. (whole.of ≡ structure_of known.list) × (whole.first ≡ earlier (first_fault (structure_fault at known.list)) known.first))
      → IfOk r (λ whole. whole ≡ told (judged seen rs p inside))
  structures_told (Ok whole) at p inside fs gs known e g k h = structure_told at p inside fs gs known whole e g k h.0 h.1
  structures_told (Err x) at p inside fs gs known e g k h = tt

  abbrev judge : List Field → List JudgedFields
  judge fs = map (judged_fields seen rs) fs

  abbrev all_fields : List JudgedFields → List FieldType
  all_fields js = flat_map (λ j. j.fields) js

  -- the fields of one type more
  pub fields_turn : (list new all : List FieldType) (first doubled now one : Option Fault) (j : Told) (f : Field) (ns : List Name)
      (left rest : List Field) → left ≡ f ∷ rest → ns ≡ f.names → j ≡ told (judged seen rs f.of true) → new ≡ list ++ named_alike j.of ns
      → doubled ≡ first_fault (doubled_names (texts list) ns) → now ≡ earlier (earlier first j.first) doubled
      → list ++ all_fields (judge left) ≡ all → earlier first (first_fault (fields_faults (texts list) (judge left))) ≡ one
      → (new ++ all_fields (judge rest) ≡ all) × (earlier now (first_fault (fields_faults (texts new) (judge rest))) ≡ one)
  fields_turn list new all first doubled now one j f ns left rest e m i n d w h k =
      let of = judged seen rs f.of true in
      let js = judge rest in
      let names = doubled_names (texts list) f.names in
      let more : new ≡ list ++ named_alike of.of f.names =
      n ∙ ap (λ (xs : List Name). list ++ named_alike j.of xs) m ∙ ap (λ (v : Told). list ++ named_alike v.of f.names) i in
      let one_more : doubled ≡ first_fault names = d ∙ ap (λ (xs : List Name). first_fault (doubled_names (texts list) xs)) m in
      let behind = fields_faults (texts list ++ map (λ (x : Name). x.text) f.names) js in (
        ap (λ (l : List FieldType). l ++ all_fields js) more ∙ append_assoc list (named_alike of.of f.names) (all_fields js)
            ∙ ap (λ (g : JudgedFields). list ++ (g.fields ++ all_fields js)) (sym (field_is f))
            ∙ ap (λ (l : List Field). list ++ all_fields (judge l)) (sym e) ∙ h,
        ap (λ (l : List (List ℕ)). earlier now (first_fault (fields_faults l js))) (ap texts more ∙ texts_more list of.of f.names)
            ∙ ap (λ (g : Option Fault). earlier g (first_fault behind))
            (w ∙ ap (λ (v : Told). earlier (earlier first v.first) doubled) i ∙ ap (earlier (earlier first (first_fault of.faults))) one_more)
            ∙ earlier_three (earlier first (first_fault of.faults)) (first_fault names) (first_fault behind)
            ∙ earlier_three first (first_fault of.faults) (earlier (first_fault names) (first_fault behind))
            ∙ ap (earlier first) (sym (first_three of.faults names behind))
            ∙ ap (λ (g : JudgedFields). earlier first (first_fault (fields_faults (texts list) (g ∷ js)))) (sym (field_is f))
            ∙ ap (λ (l : List Field). earlier first (first_fault (fields_faults (texts list) (judge l)))) (sym e) ∙ k,
      )
