-- What the code tells of types as they are written. No definition of meaning needs these.
use Rattle.std.specs.Prelude.{ℕ, List, [], map, flat_map}
use Rattle.elan_types.specs.declared.elan_type.ElanType.{ElanType}
use Rattle.elan_types.specs.declared.elan_type.FieldType.{FieldType}
use Rattle.elan_tree.specs.declared.written_type.Name.{Name}
use Rattle.type_names.specs.Faults.{Judged, JudgedFields, first_fault, fields_faults}
use Rattle.type_names.specs.declared.judgement.Judged.{Judged as Told}
use Rattle.type_names.specs.declared.judgement.Fields.{Fields}

-- the first fault alone is told
abbrev pub told : Judged → Told
told j = record { of = j.of; first = first_fault j.faults }

abbrev pub told_fields : List JudgedFields → Fields
told_fields fs = record { list = flat_map (λ f. f.fields) fs; first = first_fault (fields_faults [] fs) }

abbrev pub texts : List FieldType → List (List ℕ)
texts fs = map (λ f. f.name) fs

-- fields of one type
abbrev pub named_alike : ElanType → List Name → List FieldType
named_alike t ns = map (λ n. record { name = n.text; of = t }) ns
