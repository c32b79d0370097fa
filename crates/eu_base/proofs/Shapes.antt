-- The kinds of the cells of shapes.
use Rattle.std.proofs.Common.{◌≡◌, ℕ, zero, suc, ◌+◌, ◌-◌, ◌<◌, ◌≤◌, List, [], ◌∷◌, ◌++◌, map, length, take, replicate, refl, sym, ap, ◌∙◌, arith, append_assoc, append-nil}
use Rattle.std.specs.Prelude.{get_or}
use Rattle.std.proofs.Math.Seq.{take-append_seam}
use Rattle.std.proofs.lemmas.List.{map_more, length-append, length-take, take_all}
use Rattle.std.proofs.lemmas.Grind.{flat_map-append, replicate_next}
use Rattle.eu_base.specs.declared.value.Kind.{Kind}
use Rattle.eu_base.specs.declared.shape.Shape.{Shape}
use Rattle.eu_base.specs.declared.shape.Shape.TheVariants.{Cell, rolls-Cell}
use Rattle.eu_base.specs.declared.shape.Shape.TheOpen as open_shape
use Rattle.eu_base.specs.declared.shape.Shape.TheViews.{roll-Shape}
use Rattle.eu_base.specs.declared.shape.Shape.TheFolds.{fold-roll-Shape}
use Rattle.eu_base.specs.Shapes.{cell_kinds, joined}

-- a cell has its kind
cell_rolled : (k : Kind) → cell_kinds (roll-Shape (open_shape.Cell k)) ≡ k ∷ []
cell_rolled k = rw fold-roll-Shape refl

pub kinds_of_cell : (k : Kind) → cell_kinds (Cell k) ≡ k ∷ []
kinds_of_cell k = ap cell_kinds (sym (rolls-Cell k)) ∙ cell_rolled k

-- one list more
pub joined_more : (lists : List (List Kind)) (kinds : List Kind) → joined (lists ++ kinds ∷ []) ≡ joined lists ++ kinds
joined_more lists kinds = flat_map-append (λ kinds. kinds) lists (kinds ∷ []) ∙ ap (λ more. joined lists ++ more) (append-nil kinds)

-- of what was cut already no more is cut
pub take_taken : (n : ℕ) (xs ys : List Kind) → take n (take n xs ++ ys) ≡ take n (xs ++ ys)
take_taken zero xs ys = refl
take_taken (suc n) [] ys = refl
take_taken (suc n) (x ∷ xs) ys = ap (λ l. x ∷ l) (take_taken n xs ys)

-- the kinds of one part more, and of one item more
pub next_part : (n i : ℕ) (kinds now first : List Kind) (parts : List Shape) (p d : Shape) → i < length parts → p ≡ get_or parts i d
    → kinds ≡ take n (first ++ joined (map cell_kinds (take i parts))) → now ≡ take n (kinds ++ cell_kinds p)
    → now ≡ take n (first ++ joined (map cell_kinds (take (i + 1) parts)))
next_part n i kinds now first parts p d lt is so more =
    let rest = joined (map cell_kinds (take i parts)) in
    let e : joined (map cell_kinds (take (i + 1) parts)) ≡ rest ++ cell_kinds p =
    ap joined (map_more cell_kinds parts i d lt) ∙ joined_more (map cell_kinds (take i parts)) (cell_kinds (get_or parts i d))
    ∙ ap (λ q. rest ++ cell_kinds q) (sym is) in
    more ∙ ap (λ l. take n (l ++ cell_kinds p)) so ∙ take_taken n (first ++ rest) (cell_kinds p)
    ∙ ap (take n) (append_assoc first rest (cell_kinds p) ∙ ap (λ l. first ++ l) (sym e))

pub next_item : (n i : ℕ) (kinds now first item : List Kind) → kinds ≡ take n (first ++ joined (replicate i item)) → now ≡ take n (kinds ++ item)
    → now ≡ take n (first ++ joined (replicate (i + 1) item))
next_item n i kinds now first item so more =
    let rest = joined (replicate i item) in
    let e : joined (replicate (i + 1) item) ≡ rest ++ item = ap joined (replicate_next i item) ∙ joined_more (replicate i item) item in
    more ∙ ap (λ l. take n (l ++ item)) so ∙ take_taken n (first ++ rest) item
    ∙ ap (take n) (append_assoc first rest item ∙ ap (λ l. first ++ l) (sym e))

-- where an item adds none, no other does
row_more : (i more : ℕ) (item : List Kind) → joined (replicate (i + more) item) ≡ joined (replicate i item) ++ joined (replicate more item)
row_more zero more item = let e : 0 + more ≡ more = omega arith in ap (λ n. joined (replicate n item)) e
row_more (suc i) more item =
    let e : suc i + more ≡ suc (i + more) = omega arith in
    ap (λ n. joined (replicate n item)) e ∙ ap (λ l. item ++ l) (row_more i more item)
    ∙ sym (append_assoc item (joined (replicate i item)) (joined (replicate more item)))

empty_row : (n : ℕ) → joined (replicate n []) ≡ []
empty_row zero = refl
empty_row (suc n) = empty_row n

full : (n more : ℕ) (kinds item : List Kind) → length kinds ≤ n → length (take n (kinds ++ item)) ≡ length kinds
    → take n (kinds ++ joined (replicate more item)) ≡ kinds
full n more kinds [] le same =
    ap (λ l. take n (kinds ++ l)) (empty_row more) ∙ ap (take n) (append-nil kinds) ∙ take_all n kinds le
full n more kinds (k ∷ item) le same =
    let cut = length-take n (kinds ++ k ∷ item) in
    let long = length-append kinds (k ∷ item) in
    let e : n ≡ length kinds = omega (arith, le, same, cut, long) in
    ap (λ n. take n (kinds ++ joined (replicate more (k ∷ item)))) e ∙ take-append_seam kinds (joined (replicate more (k ∷ item)))

pub no_more : (n i count : ℕ) (kinds now first item : List Kind) → i ≤ count → kinds ≡ take n (first ++ joined (replicate i item))
    → now ≡ take n (kinds ++ item) → length now ≡ length kinds → length kinds ≤ n → now ≡ take n (first ++ joined (replicate count item))
no_more n i count kinds now first item le so more same few =
    let e : count ≡ i + (count - i) = omega (arith, le) in
    let one = full n 1 kinds item few (ap length (sym more) ∙ same) in
    let single : joined (replicate 1 item) ≡ item = append-nil item in
    let rest = full n (count - i) kinds item few (ap length (sym more) ∙ same) in
    more ∙ ap (λ l. take n (kinds ++ l)) (sym single) ∙ one ∙ sym rest
    ∙ ap (λ l. take n (l ++ joined (replicate (count - i) item))) so
    ∙ take_taken n (first ++ joined (replicate i item)) (joined (replicate (count - i) item))
    ∙ ap (take n) (append_assoc first (joined (replicate i item)) (joined (replicate (count - i) item))
    ∙ ap (λ l. first ++ l) (sym (row_more i (count - i) item)) ∙ ap (λ m. first ++ joined (replicate m item)) (sym e))
