-- One list goes through another: what follows for lists put together.
use Rattle.std.proofs.Common.{ℕ, List, [], ◌∷◌, ◌++◌, subst}
use Rattle.std.proofs.lemmas.List.{append-nil}
use Rattle.elan_laws.specs.Order.{Follows, ends, stays, goes_on, IsSame}

pub behind : (zs : List ℕ) {xs ys : List ℕ} → Follows xs ys → Follows xs (zs ++ ys)
behind [] h = h
behind (z ∷ zs) {xs} {ys} h = goes_on z xs (zs ++ ys) (behind zs h)

append_of : (xs zs ys ws : List ℕ) → Follows xs zs → Follows ys ws → Follows (xs ++ ys) (zs ++ ws)
append_of _ _ ys ws (ends zs) k = behind zs k
append_of _ _ ys ws (stays x xs zs h) k = stays x (xs ++ ys) (zs ++ ws) (append_of xs (x ∷ zs) ys ws h k)
append_of _ _ ys ws (goes_on z xs zs h) k = goes_on z (xs ++ ys) (zs ++ ws) (append_of xs zs ys ws h k)

pub beside : {xs zs ys ws : List ℕ} → Follows xs zs → Follows ys ws → Follows (xs ++ ys) (zs ++ ws)
beside {xs} {zs} {ys} {ws} h k = append_of xs zs ys ws h k

pub begun : (x : ℕ) {xs ys : List ℕ} → Follows xs ys → Follows (x ∷ xs) (x ∷ ys)
begun x {xs} {ys} h = stays x xs ys (goes_on x xs ys h)

pub later : (y : ℕ) {xs ys : List ℕ} → Follows xs ys → Follows xs (y ∷ ys)
later y {xs} {ys} h = goes_on y xs ys h

-- it may leave out what it begins with
without_first_of : (x : ℕ) (xs ys : List ℕ) → Follows (x ∷ xs) ys → Follows xs ys
without_first_of _ _ _ (stays x xs ys h) = h
without_first_of x xs _ (goes_on y _ ys h) = goes_on y xs ys (without_first_of x xs ys h)

pub without_first : {x : ℕ} {xs ys : List ℕ} → Follows (x ∷ xs) ys → Follows xs ys
without_first {x} {xs} {ys} h = without_first_of x xs ys h

pub all_of_it : (ns : List ℕ) → Follows ns ns
all_of_it [] = ends []
all_of_it (n ∷ ns) = begun n (all_of_it ns)

pub before : (ys : List ℕ) {xs zs : List ℕ} → Follows xs zs → Follows xs (zs ++ ys)
before ys {xs} {zs} h = subst (λ (l : List ℕ). Follows l (zs ++ ys)) (append-nil xs) (beside h (ends ys))

-- ---- through one list, and with it through another

first_through : (x : ℕ) (xs ys zs : List ℕ) → ((ws : List ℕ) → Follows (x ∷ ys) ws → Follows xs ws) → Follows (x ∷ ys) zs → Follows (x ∷ xs) zs
first_through x xs ys _ f (stays _ _ zs h) = stays x xs zs (f (x ∷ zs) (stays x ys zs h))
first_through x xs ys _ f (goes_on z _ zs h) = goes_on z (x ∷ xs) zs (first_through x xs ys zs f h)

through_of : (xs ys : List ℕ) → Follows xs ys → (zs : List ℕ) → Follows ys zs → Follows xs zs
through_of _ _ (ends ys) zs k = ends zs
through_of _ _ (stays x xs ys h) zs k = first_through x xs ys zs (through_of xs (x ∷ ys) h) k
through_of _ _ (goes_on y xs ys h) zs k = through_of xs ys h zs (without_first k)

pub through : {xs ys zs : List ℕ} → Follows xs ys → Follows ys zs → Follows xs zs
through {xs} {ys} {zs} h k = through_of xs ys h zs k

-- ---- the same places in the same order

pub nothing : IsSame [] []
nothing = record { to = ends []; back = ends [] }

pub both : {xs zs ys ws : List ℕ} → IsSame xs zs → IsSame ys ws → IsSame (xs ++ ys) (zs ++ ws)
both h k = record { to = beside h.to k.to; back = beside h.back k.back }

pub same : (x : ℕ) {xs ys : List ℕ} → IsSame xs ys → IsSame (x ∷ xs) (x ∷ ys)
same x h = record { to = begun x h.to; back = begun x h.back }

pub equal : (ns : List ℕ) → IsSame ns ns
equal ns = record { to = all_of_it ns; back = all_of_it ns }

-- a place that is told twice
pub twice : (x : ℕ) {xs ys : List ℕ} → IsSame xs ys → IsSame (x ∷ x ∷ xs) (x ∷ ys)
twice x {xs} {ys} h = record { to = stays x (x ∷ xs) ys (begun x h.to); back = later x (begun x h.back) }
