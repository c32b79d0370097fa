-- What names denote is what is read of them again and again, with what was read before.
use Rattle.std.proofs.Common.{◌≡◌, ℕ, zero, suc, ◌+◌, Bool, true, false, if◌then◌else◌, List, [], ◌∷◌, ◌++◌, length, Option, Some, None}
use Rattle.std.proofs.Common.{refl, sym, ap, ◌∙◌}
use Rattle.std.specs.Prelude.{option_map, Result, Ok, Err, IfOk}
use Rattle.std.specs.Option.{option_or}
use Rattle.std.specs.Str.{bytes_eq}
use Rattle.std.proofs.Math.Path.{fun_ext}
use Rattle.elan_names.specs.declared.type_name.TypeName.{TypeName}
use Rattle.elan_names.specs.declared.type_name.Named.{Named}
use Rattle.elan_names.specs.Types.{first_type}
use Rattle.elan_walk.specs.declared.definition.Definition.{Definition}
use Rattle.type_names.specs.Types.{look, first_from, as_defined, by_definition, denoted, type_name, names_from, names_of}
use Rattle.type_names.specs.walks.Further.{read, read_again}
use Rattle.type_names.proofs.Looked.{look_append}

-- ---- what is found among what was read

abbrev Looks : Type 0
Looks = List ℕ → Option Named

module _ (first : ℕ) where
  abbrev one : Looks → ℕ → Definition → TypeName
  one look n d = record { at = d.name_at; name = d.name; of = as_defined first look n d.what }

  abbrev name_of : Looks → Option (ℕ × Definition) → Option TypeName
  name_of look o = option_map (λ f. one look f.0 f.1) o

  read_found : (l : Looks) (n : ℕ) (ds : List Definition) (x : List ℕ) → first_type x (read first l n ds) ≡ name_of l (first_from n ds x)
  read_found l n [] x = refl
  read_found l n (d ∷ ds) x = by_test (bytes_eq d.name x) (read_found l (n + 1) ds x)
    where
      by_test : (b : Bool) → first_type x (read first l (n + 1) ds) ≡ name_of l (first_from (n + 1) ds x)
          → (if b then Some (one l n d) else first_type x (read first l (n + 1) ds)) ≡ name_of l (if b then Some (n, d) else first_from (n + 1) ds x)
      by_test true h = refl
      by_test false h = h

  abbrev told : Option TypeName → Option Named
  told o = option_map (λ t. t.of) o

  told_of : (l : Looks) (o : Option (ℕ × Definition)) (q : Option TypeName) → told (option_or (name_of l o) q) ≡ by_definition first l o (told q)
  told_of l None q = refl
  told_of l (Some f) q = refl

  module _ (around : List TypeName) (ds : List Definition) where
    pub read_denotes : (l : Looks) (x : List ℕ) → look (read first l 0 ds ++ around) x ≡ by_definition first l (first_from 0 ds x) (look around x)
    read_denotes l x =
        ap told (look_append x (read first l 0 ds) around ∙ ap (λ (o : Option TypeName). option_or o (first_type x around)) (read_found l 0 ds x))
        ∙ told_of l (first_from 0 ds x) (first_type x around)

    again : ℕ → List TypeName
    again n = read_again first around ds n

    again_denotes : (n : ℕ) → look (read_again first around ds n ++ around) ≡ denoted first around ds n
    again_denotes zero = fun_ext (λ x. read_denotes (look []) x)
    again_denotes (suc n) =
        fun_ext (λ x. read_denotes (look (read_again first around ds n ++ around)) x
        ∙ ap (λ (l : Looks). by_definition first l (first_from 0 ds x) (look around x)) (again_denotes n))

    pub names_read : (n : ℕ) (rest : List Definition) → names_from first around ds n rest ≡ read first (denoted first around ds (length ds)) n rest
    names_read n [] = refl
    names_read n (d ∷ rest) = ap (λ (ts : List TypeName). type_name first around ds n d ∷ ts) (names_read (n + 1) rest)

    pub names_denote : (x : List ℕ) → look (names_of first around ds) x ≡ by_definition first (denoted first around ds (length ds)) (first_from 0 ds x) None
    names_denote x =
        ap told (ap (first_type x) (names_read 0 ds) ∙ read_found (denoted first around ds (length ds)) 0 ds x)
        ∙ by_found (first_from 0 ds x)
      where
        by_found : (o : Option (ℕ × Definition)) → told (name_of (denoted first around ds (length ds)) o) ≡ by_definition first (denoted first around ds (length ds)) o None
        by_found None = refl
        by_found (Some f) = refl

    pub names_again : names_of first around ds ≡ read_again first around ds (suc (length ds))
    names_again = names_read 0 ds ∙ ap (λ (l : Looks). read first l 0 ds) (sym (again_denotes (length ds)))

    pub seen_denotes : look (names_of first around ds ++ around) ≡ denoted first around ds (suc (length ds))
    seen_denotes = ap (λ (ts : List TypeName). look (ts ++ around)) names_again ∙ again_denotes (suc (length ds))

    pub ended : {E : Type 0} (names : List TypeName) (r : Result (List TypeName) E) → names ≡ read_again first around ds (length ds)
        → IfOk r (λ next. next ≡ read first (look (names ++ around)) 0 ds) → IfOk r (λ next. next ≡ names_of first around ds)
    ended names (Ok next) i j = j ∙ ap (λ (ts : List TypeName). read first (look (ts ++ around)) 0 ds) i ∙ sym names_again
    ended names (Err x) i j = tt
