-- Blocks that are kept.
use Rattle.std.proofs.Common.{◌≡◌, ◌≢◌, ◌⊎◌, inl, inr, ℕ, List, [], ◌∷◌, cond, Contains, IsSome, Some, None, Bool, true, false, refl, sym, ◌∙◌, ap, subst}
use Rattle.std.proofs.Math.Dec.{eqb}
use Rattle.std.proofs.lemmas.Bool.{eqb-true, eq-eqb}
use Rattle.std.specs.Map.{keys_of, lookup, remove_entry}
use Rattle.std.specs.List.{IsDistinct}
use Rattle.lru.proofs.CallerLemmas.{Contains-promoted, Contains-put_entries, Contains-remove_entry}
use Rattle.lru.specs.LruCache.{LruCache, lru_cache, promoted, put_entries}
use Rattle.std.proofs.lemmas.Map.Views.{Contains-from_lookup}
use Rattle.std.specs.Cmp.{nat_eq_equiv}
use Rattle.std.proofs.lemmas.Map.{lookup-remove_entry}
use Rattle.lru.proofs.Splits.{Contains-cons, Contains-nil}
use Rattle.page_pool.specs.Pool.{Tell, of_block}
use Rattle.std.specs.Option.{ForSome}

abbrev Cache : Type 0
Cache = LruCache ℕ (List ℕ)

-- what was moved to the front was there
pub moved : (old new : Cache) (block cap : ℕ) (entry : ℕ × List ℕ) → new ≡ lru_cache (promoted (eqb block) old.entries) cap
    → Contains new.entries entry → Contains old.entries entry
moved old new block cap entry are has = Contains-promoted (eqb block) old.entries entry (subst (λ (cache : Cache). Contains cache.entries entry) are has)

-- what a look-up finds is there
pub found : (cache : Cache) (block : ℕ) (bytes : List ℕ) → lookup (eqb block) cache.entries ≡ Some bytes → Contains cache.entries (block, bytes)
found cache block bytes is = Contains-from_lookup eqb-true block bytes cache.entries is

-- what was put is the one that may be new
pub put_in : (old new : Cache) (block cap : ℕ) (bytes : List ℕ) (entry : ℕ × List ℕ) → new ≡ lru_cache (put_entries eqb old block bytes) cap
    → Contains new.entries entry → Contains old.entries entry ⊎ ((entry.0 ≡ block) × (entry.1 ≡ bytes))
put_in old new block cap bytes entry are has =
    elim (Contains-put_entries eqb old block bytes entry (subst (λ (cache : Cache). Contains cache.entries entry) are has)) [
      | inl was ↦ inl was
      | inr put ↦ inr (elim put.1 [ inl same ↦ same | inr other ↦ sym (eqb-true block entry.0 other.2) ], put.0)
    ]

-- what was told of a block
pub told_block : (tell : Tell) (block : ℕ) (bytes : List ℕ) → IsSome tell → ForSome tell (λ told. bytes ≡ told block) → bytes ≡ of_block tell block
told_block None block bytes some is = absurd (cc)
told_block (Some told) block bytes some is = is told refl

-- what a look-up does not find is not there
absent : (es : List (ℕ × List ℕ)) (block : ℕ) (bytes : List ℕ) → lookup (eqb block) es ≡ None → Contains es (block, bytes) → ⊥
absent [] block bytes none has = Contains-nil (block, bytes) has
absent (f ∷ es) block bytes none has = by (eqb block f.0) refl (λ less rest. absent es block bytes less rest)
  where
    by : (b : Bool) → eqb block f.0 ≡ b → (lookup (eqb block) es ≡ None → Contains es (block, bytes) → ⊥) → ⊥
    by true e on = cc (none, e)
    by false e on = elim (Contains-cons f es (block, bytes) has) [
      | inl same ↦ let key : f.0 ≡ block = ap (λ (p : ℕ × List ℕ). p.0) same in let t : eqb block f.0 ≡ true = eq-eqb block f.0 (sym key) in cc (t, e)
      | inr rest ↦ on (let h : lookup (eqb block) (f ∷ es) ≡ lookup (eqb block) es = ap (λ (b : Bool). cond b (Some f.1) (lookup (eqb block) es)) e in sym h ∙ none) rest
    ]

-- nothing is left of a block that was taken out
pub dropped : (old new : Cache) (block cap : ℕ) (entry : ℕ × List ℕ) → IsDistinct eqb (keys_of old.entries) → new ≡ lru_cache (remove_entry (eqb block) old.entries) cap
    → Contains new.entries entry → Contains old.entries entry × (entry.0 ≢ block)
dropped old new block cap entry distinct are has =
    let left = subst (λ (cache : Cache). Contains cache.entries entry) are has in (
      Contains-remove_entry (eqb block) old.entries entry left,
      λ same. absent (remove_entry (eqb block) old.entries) block entry.1
          (lookup-remove_entry nat_eq_equiv (eqb block) (λ x y is. ap (λ (z : ℕ). eqb z y) (eqb-true block x is)) block old.entries distinct
          ∙ ap (λ (b : Bool). cond b None (lookup (eqb block) old.entries)) (eq-eqb block block refl))
          (subst (λ (n : ℕ). Contains (remove_entry (eqb block) old.entries) (n, entry.1)) same left),
    )
