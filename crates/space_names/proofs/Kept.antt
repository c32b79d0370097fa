-- What the map's words say of the directory.
use Rattle.std.proofs.Common.{◌≡◌, ℕ, Bool, true, false, cond, List, [], ◌∷◌, ◌++◌, None, Some, refl, ap, ◌∙◌, not, nat_eq, filter}
use Rattle.std.specs.Str.{bytes_eq}
use Rattle.indexmap.specs.IndexMap.{IndexMap, insert_entry}
use Rattle.indexmap.proofs.CallerLemmas.{insert_entry-new}
use Rattle.std.specs.Map.{lookup, remove_entry}
use Rattle.std.specs.declared.vec.Vec.{Vec}
use Rattle.task_numbers.specs.declared.number.SpaceNo.{SpaceNo}
use Rattle.space_names.specs.Directory as spec
use Rattle.space_names.specs.Entries.{directory_of}

module _ {Z : Type 0} where
  abbrev pub same : Vec ℕ Z → Vec ℕ Z → Bool
  same a b = bytes_eq a.items b.items

  pub lookup_kept : (name : List ℕ) (es : List (Vec ℕ Z × SpaceNo)) → lookup (λ k. bytes_eq name k.items) es ≡ spec.get name (directory_of es)
  lookup_kept name [] = refl
  lookup_kept name (e ∷ es) = ap (cond (bytes_eq name e.0.items) (Some e.1)) (lookup_kept name es)

  chosen : (b : Bool) (e : Vec ℕ Z × SpaceNo) (es rest : List (Vec ℕ Z × SpaceNo))
      → directory_of (cond b es (e ∷ rest)) ≡ cond b (directory_of es) (directory_of (e ∷ rest))
  chosen true e es rest = refl
  chosen false e es rest = refl

  pub without_kept : (name : List ℕ) (es : List (Vec ℕ Z × SpaceNo))
      → directory_of (remove_entry (λ k. bytes_eq name k.items) es) ≡ spec.without name (directory_of es)
  without_kept name [] = refl
  without_kept name (e ∷ es) =
      chosen (bytes_eq name e.0.items) e es _
      ∙ ap (λ rest. cond (bytes_eq name e.0.items) (directory_of es) ((e.0.items, e.1) ∷ rest)) (without_kept name es)

  put_kept : (es : List (Vec ℕ Z × SpaceNo)) (name : Vec ℕ Z) (s : SpaceNo) → directory_of (es ++ (name, s) ∷ []) ≡ spec.put name.items s (directory_of es)
  put_kept [] name s = refl
  put_kept (e ∷ es) name s = ap (λ rest. (e.0.items, e.1) ∷ rest) (put_kept es name s)

  pub put_new : {S : Type 0} (m : IndexMap (Vec ℕ Z) SpaceNo S) (k : Vec ℕ Z) (s : SpaceNo) → spec.get k.items (directory_of m.entries) ≡ None
      → directory_of (insert_entry same m.entries k s) ≡ spec.put k.items s (directory_of m.entries)
  put_new m k s free = ap directory_of (insert_entry-new same m k s (lookup_kept k.items m.entries ∙ free)) ∙ put_kept m.entries k s

  kept_or_not : (b : Bool) (e : Vec ℕ Z × SpaceNo) (rest : List (Vec ℕ Z × SpaceNo))
      → directory_of (cond b (e ∷ rest) rest) ≡ cond b ((e.0.items, e.1) ∷ directory_of rest) (directory_of rest)
  kept_or_not true e rest = refl
  kept_or_not false e rest = refl

  pub forget_kept : (n : ℕ) (es : List (Vec ℕ Z × SpaceNo)) → directory_of (filter (λ e. not (nat_eq n e.1.0)) es) ≡ spec.without_space n (directory_of es)
  forget_kept n [] = refl
  forget_kept n (e ∷ es) =
      kept_or_not (not (nat_eq n e.1.0)) e _
      ∙ ap (λ rest. cond (not (nat_eq n e.1.0)) ((e.0.items, e.1) ∷ rest) rest) (forget_kept n es)
