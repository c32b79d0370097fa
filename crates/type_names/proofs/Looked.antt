-- Names that are declared here are found before those around.
use Rattle.std.proofs.Common.{◌≡◌, ℕ, Bool, true, false, if◌then◌else◌, List, [], ◌∷◌, ◌++◌, Option, Some, None, refl, sym, ap, ◌∙◌}
use Rattle.std.specs.Prelude.{option_map}
use Rattle.std.specs.Option.{option_or}
use Rattle.std.specs.Str.{bytes_eq}
use Rattle.elan_names.specs.declared.type_name.TypeName.{TypeName}
use Rattle.elan_names.specs.Types.{first_type}
use Rattle.type_names.specs.Types.{look}

pub look_append : (x : List ℕ) (ts us : List TypeName) → first_type x (ts ++ us) ≡ option_or (first_type x ts) (first_type x us)
look_append x [] us = refl
look_append x (t ∷ ts) us = by_test (bytes_eq t.name x) (look_append x ts us)
  where
    by_test : (b : Bool) → first_type x (ts ++ us) ≡ option_or (first_type x ts) (first_type x us)
        → (if b then Some t else first_type x (ts ++ us)) ≡ option_or (if b then Some t else first_type x ts) (first_type x us)
    by_test true h = refl
    by_test false h = h

pub own_found : (x : List ℕ) (ts us : List TypeName) (t : TypeName) → Some t ≡ first_type x ts → Some t.of ≡ look (ts ++ us) x
own_found x ts us t e = ap (option_map (λ u. u.of)) (ap (λ (o : Option TypeName). option_or o (first_type x us)) e ∙ sym (look_append x ts us))

pub found_around : (x : List ℕ) (ts us : List TypeName) (o : Option TypeName) → None ≡ first_type x ts → o ≡ first_type x us
    → option_map (λ u. u.of) o ≡ look (ts ++ us) x
found_around x ts us o e h =
    ap (option_map (λ u. u.of)) (h ∙ ap (λ (p : Option TypeName). option_or p (first_type x us)) e ∙ sym (look_append x ts us))

pub look_both : (x : List ℕ) (ts us : List TypeName) → look (ts ++ us) x ≡ option_or (look ts x) (look us x)
look_both x ts us = ap (option_map (λ t. t.of)) (look_append x ts us) ∙ by_found (first_type x ts)
  where
    by_found : (o : Option TypeName) → option_map (λ (t : TypeName). t.of) (option_or o (first_type x us))
        ≡ option_or (option_map (λ (t : TypeName). t.of) o) (look us x)
    by_found None = refl
    by_found (Some t) = refl
