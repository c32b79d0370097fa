-- What is found out of one body after another is what a step finds out of all of them.
use Rattle.std.proofs.Common.{◌≡◌, ℕ, suc, ◌+◌, ◌-◌, ◌<◌, get_or, drop, List, [], ◌∷◌, ◌++◌, map, length, Option, Result, Ok, Err}
use Rattle.std.proofs.Common.{Bool, true, false, not, ◌||◌, if◌then◌else◌, refl, sym, ap, ◌∙◌, arith, append_assoc}
use Rattle.std.specs.Prelude.{slice_index_or, slice_set, OnOk}
use Rattle.std.proofs.lemmas.List.{append-nil, at_drop_more}
use Rattle.elan_tree.specs.declared.written_type.TypePhrase.{TypePhrase}
use Rattle.elan_tree.specs.declared.written_type.Formal.{Formal}
use Rattle.elan_tree.specs.declared.tree.Body.{Body}
use Rattle.elan_tree.specs.declared.tree.Refinement.{Refinement as Refined}
use Rattle.elan_tree.specs.declared.tree.Level.{Level}
use Rattle.elan_tree.specs.declared.tree.LevelUnit.{LevelUnit}
use Rattle.elan_scope.specs.declared.delivery.Delivery.{Delivery}
use Rattle.elan_scope.specs.declared.delivery.Delivery.TheVariants.{Open, Nothing, Of}
use Rattle.elan_scope.specs.declared.known.Known.{Known}
use Rattle.elan_scope.specs.declared.scope.Scope.{Scope}
use Rattle.elan_scope.specs.Known.{delivered, delivery_at}
use Rattle.elan_scope.specs.Phrase.{Phrase}
use Rattle.type_names.specs.Bodies as b
use Rattle.elan_judge.specs.Level as l
use Rattle.elan_judge.specs.Shape.{unit, units}
use Rattle.elan_judge.specs.declared.deliveries.Calls.{Calls}
use Rattle.elan_judge.specs.declared.deliveries.Round.{Round}
use Rattle.elan_judge.specs.Refinements.{last_unit, next, next_all, called_in}
use Rattle.elan_judge.specs.walks.Seen.{all_seen}
use Rattle.elan_judge.specs.walks.Rounds.{called_last, with_calls, is_open, any_open, is_kept, looked_at, found, found_from, seen, with_found}
use Rattle.elan_judge.proofs.Counts.{unit_count, units_count}
use Rattle.elan_judge.proofs.Opened.{waiting}
use Rattle.elan_judge.specs.walks.Units.{all_unit_bodies}

abbrev pub known_with : List Delivery → List (List ℕ) → Known
known_with ds cs = record { deliveries = ds; calls = cs }

-- ---- one after another

pub all_append : {S : Type 0} (after : S → ℕ → Phrase → S) (s : S) (n : ℕ) (us vs : List Phrase)
    → all_seen after s n (us ++ vs) ≡ all_seen after (all_seen after s n us) (n + length us) vs
all_append after s n [] vs = let z : n + 0 ≡ n = omega arith in ap (λ (m : ℕ). all_seen after s m vs) (sym z)
all_append after s n (u ∷ us) vs =
    let z : n + suc (length us) ≡ suc n + length us = omega arith in
    all_append after (after s n u) (suc n) us vs ∙ ap (λ (m : ℕ). all_seen after (all_seen after (after s n u) (suc n) us) m vs) (sym z)

abbrev pub calls_with : List (List ℕ) → List (List ℕ) → Calls
calls_with all last = record { all = all; last = last }

pub all_calls : (s : Calls) (n : ℕ) (us : List Phrase)
    → all_seen (λ (s : Calls) (n : ℕ) units. with_calls s units) s n us ≡ calls_with (s.all ++ map called_in us) (s.last ++ map called_last us)
all_calls s n [] =
    ap (λ (cs : List (List ℕ)). calls_with cs s.last) (sym (append-nil s.all))
    ∙ ap (λ (cs : List (List ℕ)). calls_with (s.all ++ []) cs) (sym (append-nil s.last))
all_calls s n (u ∷ us) =
    all_calls (with_calls s u) (suc n) us
    ∙ ap (λ (cs : List (List ℕ)). calls_with cs ((s.last ++ called_last u ∷ []) ++ map called_last us))
    (append_assoc s.all (called_in u ∷ []) (map called_in us))
    ∙ ap (λ (cs : List (List ℕ)). calls_with (s.all ++ called_in u ∷ map called_in us) cs) (append_assoc s.last (called_last u ∷ []) (map called_last us))

pub calls_found : {E : Type 0} (q : Result (Unit {0}) E) (s : Calls) (v : Phrase) (c d : List ℕ) (cs ds : List (List ℕ)) → c ≡ called_in v → d ≡ called_last v
    → cs ≡ s.all ++ c ∷ [] → OnOk q (ds ≡ s.last ++ d ∷ []) → OnOk q (calls_with cs ds ≡ with_calls s v)
calls_found (Err e) s v c d cs ds ec ed es h = tt
calls_found (Ok x) s v c d cs ds ec ed es h =
    ap (λ (l : List (List ℕ)). calls_with l ds) (es ∙ ap (λ (ns : List ℕ). s.all ++ ns ∷ []) ec)
    ∙ ap (λ (l : List (List ℕ)). calls_with (s.all ++ called_in v ∷ []) l) (h ∙ ap (λ (ns : List ℕ). s.last ++ ns ∷ []) ed)

-- the deliveries, and the calls of last units, from this number on
abbrev Has : Known → ℕ → List Delivery → Type 0
Has k n ds = (i : ℕ) → slice_index_or ds i Open ≡ delivery_at k (n + i)

abbrev Calling : List (List ℕ) → ℕ → List Phrase → Type 0
Calling last n us = (i : ℕ) → slice_index_or (map called_last us) i [] ≡ slice_index_or last (n + i) []

-- What is not looked at tells nothing.
found_next_of : (k : Known) (last : List (List ℕ)) (n : ℕ) (d : Delivery) (u : Phrase) → delivery_at k n ≡ d → slice_index_or last n [] ≡ called_last u
    → found k last n u ≡ next k d u
found_next_of k last n d u e h =
    ap (λ (cs : List ℕ). if not (is_open (delivery_at k n)) || any_open k cs then delivery_at k n else looked_at k u) h
    ∙ ap (λ (c : Delivery). if not (is_open c) || any_open k (called_last u) then c else looked_at k u) e ∙ by_test d (any_open k (called_last u)) refl
  where
    by_test : (c : Delivery) (b : Bool) → any_open k (called_last u) ≡ b → (if not (is_open c) || b then c else looked_at k u) ≡ next k c u
    by_test Open true f = sym (waiting k (last_unit u) f)
    by_test Open false f = refl
    by_test Nothing b f = refl
    by_test (Of t) b f = refl

-- ---- one body after another, each in its place

set_at : (done : List Delivery) (d x : Delivery) (ds : List Delivery) → slice_set (done ++ d ∷ ds) (length done) x ≡ done ++ x ∷ ds
set_at [] d x ds = refl
set_at (c ∷ done) d x ds = ap (λ (l : List Delivery). c ∷ l) (set_at done d x ds)

abbrev Goes : Round → ℕ → List Phrase → List Delivery → Delivery → List Delivery → Type 0
Goes t n us done x ds = t.deliveries ≡ done ++ x ∷ ds → Has t.known.now (suc n) ds
    → (all_seen with_found t (suc n) us).deliveries ≡ done ++ x ∷ found_from t.known.now t.last.now (suc n) us

one_seen : (s : Round) (n : ℕ) (u : Phrase) (us : List Phrase) (done : List Delivery) (d : Delivery) (ds : List Delivery)
    → s.deliveries ≡ done ++ d ∷ ds → length done ≡ n → delivery_at s.known.now n ≡ d → Has s.known.now (suc n) ds
    → ((t : Round) (x : Delivery) → Goes t n us done x ds) → (b : Bool)
    → (all_seen with_found (seen s n u b) (suc n) us).deliveries
    ≡ done ++ (if b then delivery_at s.known.now n else looked_at s.known.now u) ∷ found_from s.known.now s.last.now (suc n) us
one_seen s n u us done d ds ed en h rest goes true =
    goes s d ed rest ∙ ap (λ (x : Delivery). done ++ x ∷ found_from s.known.now s.last.now (suc n) us) (sym h)
one_seen s n u us done d ds ed en h rest goes false =
    let x = looked_at s.known.now u in
    goes (seen s n u false) x
    (ap (λ (l : List Delivery). slice_set l n x) ed ∙ ap (λ (m : ℕ). slice_set (done ++ d ∷ ds) m x) (sym en) ∙ set_at done d x ds) rest

more_done : (done : List Delivery) (x : Delivery) (n : ℕ) → length done ≡ n → length (done ++ x ∷ []) ≡ suc n
more_done [] x n e = let z : 1 ≡ suc n = omega (arith, e) in z
more_done (c ∷ done) x n e =
    let z : length done ≡ n - 1 = (let y : suc (length done) ≡ n = e in omega (arith, y)) in
    ap suc (more_done done x (n - 1) z) ∙ (let y : suc (length done) ≡ n = e in let w : suc (suc (n - 1)) ≡ suc n = omega (arith, y) in w)

pub all_found : (s : Round) (n : ℕ) (us : List Phrase) (done ds : List Delivery) → s.deliveries ≡ done ++ ds → length done ≡ n → length ds ≡ length us
    → Has s.known.now n ds → (all_seen with_found s n us).deliveries ≡ done ++ found_from s.known.now s.last.now n us
all_found s n [] done [] ed en el h = ed
all_found s n [] done (d ∷ ds) ed en el h = absurd (let z : suc (length ds) ≡ 0 = el in omega (arith, z))
all_found s n (u ∷ us) done [] ed en el h = absurd (let z : 0 ≡ suc (length us) = el in omega (arith, z))
all_found s n (u ∷ us) done (d ∷ ds) ed en el h =
    let k = s.known.now in
    let z : n + 0 ≡ n = omega arith in
    let first : delivery_at k n ≡ d = sym (h 0 ∙ ap (delivery_at k) z) in
    let few : length ds ≡ length us = (let i : suc (length ds) ≡ suc (length us) = el in omega (arith, i)) in
    let rest : Has k (suc n) ds = λ i. h (suc i) ∙ ap (delivery_at k) (let y : n + suc i ≡ suc n + i = omega arith in y) in
    one_seen s n u us done d ds ed en first rest
    (λ t x e g. all_found t (suc n) us (done ++ x ∷ []) ds (e ∙ sym (append_assoc done (x ∷ []) ds)) (more_done done x n en) few g
    ∙ append_assoc done (x ∷ []) (found_from t.known.now t.last.now (suc n) us)) (is_kept k s.last.now n)

same_next : (k : Known) (last : List (List ℕ)) (n : ℕ) (ds : List Delivery) (us : List Phrase) → length ds ≡ length us → Has k n ds → Calling last n us
    → found_from k last n us ≡ next_all k ds us
same_next k last n [] [] e h g = refl
same_next k last n [] (u ∷ us) e h g = absurd (let z : 0 ≡ suc (length us) = e in omega (arith, z))
same_next k last n (d ∷ ds) [] e h g = absurd (let z : suc (length ds) ≡ 0 = e in omega (arith, z))
same_next k last n (d ∷ ds) (u ∷ us) e h g =
    let z : n + 0 ≡ n = omega arith in
    let first : delivery_at k n ≡ d = sym (h 0 ∙ ap (delivery_at k) z) in
    let calling : slice_index_or last n [] ≡ called_last u = sym (g 0 ∙ ap (λ (m : ℕ). slice_index_or last m []) z) in
    let few : length ds ≡ length us = (let i : suc (length ds) ≡ suc (length us) = e in omega (arith, i)) in
    let rest : Has k (suc n) ds = λ i. h (suc i) ∙ ap (delivery_at k) (let y : n + suc i ≡ suc n + i = omega arith in y) in
    let more : Calling last (suc n) us =
    λ i. g (suc i) ∙ ap (λ (m : ℕ). slice_index_or last m []) (let y : n + suc i ≡ suc n + i = omega arith in y) in
    ap (λ (c : Delivery). c ∷ found_from k last (suc n) us) (found_next_of k last n d u first calling)
    ∙ ap (λ (l : List Delivery). next k d u ∷ l) (same_next k last (suc n) ds us few rest more)

-- a step, taken one body after another
pub one_step : (k : Known) (last : List (List ℕ)) (us : List Phrase) → length k.deliveries ≡ length us → last ≡ map called_last us
    → found_from k last 0 us ≡ next_all k k.deliveries us
one_step k last us e h =
    same_next k last 0 k.deliveries us e (λ i. ap (delivery_at k) (let z : i ≡ 0 + i = omega arith in z))
    (λ i. ap (λ (l : List (List ℕ)). slice_index_or l i []) (sym h) ∙ ap (λ (m : ℕ). slice_index_or last m []) (let z : i ≡ 0 + i = omega arith in z))

-- a round, begun with what is known
pub round_found : (s : Round) (us : List Phrase) → s.deliveries ≡ s.known.now.deliveries → length s.known.now.deliveries ≡ length us
    → (all_seen with_found s 0 us).deliveries ≡ found_from s.known.now s.last.now 0 us
round_found s us e h =
    all_found s 0 us [] s.known.now.deliveries e refl h (λ i. ap (delivery_at s.known.now) (let z : i ≡ 0 + i = omega arith in z))

-- ---- the walk over a level

module _ {S : Type 0} (after : S → ℕ → Phrase → S) where
  abbrev all : S → ℕ → List Phrase → S
  all s n us = all_seen after s n us

  pub refinement_found : (s z : Scope) (rs : List Refined) (i : ℕ) (r : Refined) (n m : ℕ) (out new whole : S) → i < length rs → r ≡ get_or rs i r
      → m ≡ n + 1 → z ≡ s → new ≡ after out n (l.refined_units z n r) →
      all out n (l.all_refined_units s n (drop i rs)) ≡ whole → all new m (l.all_refined_units s m (drop (i + 1) rs)) ≡ whole
  refinement_found s z rs i r n m out new whole lt e em ez en h =
      let rest = drop (i + 1) rs in
      let next_number : m ≡ suc n = omega (arith, em) in
      ap (λ (j : ℕ). all new j (l.all_refined_units s j rest)) next_number
      ∙ ap (λ (o : S). all o (suc n) (l.all_refined_units s (suc n) rest)) (en ∙ ap (λ (y : Scope). after out n (l.refined_units y n r)) ez)
      ∙ ap (λ (x : Refined). all out n (l.all_refined_units s n (x ∷ rest))) e
      ∙ sym (at_drop_more (λ ys. all out n (l.all_refined_units s n ys)) rs i r lt) ∙ h

  pub unit_found : (s z : Scope) (vs : List LevelUnit) (i : ℕ) (v : LevelUnit) (n m : ℕ) (out new whole : S) → i < length vs → v ≡ get_or vs i v
      → m ≡ n + b.bodies_in v → z ≡ s → new ≡ all out n (l.unit_bodies z n v) →
      all out n (all_unit_bodies s n (drop i vs)) ≡ whole → all new m (all_unit_bodies s m (drop (i + 1) vs)) ≡ whole
  unit_found s z vs i v n m out new whole lt e em ez en h =
      let rest = drop (i + 1) vs in
      let behind = n + b.bodies_in v in
      ap (λ (j : ℕ). all new j (all_unit_bodies s j rest)) em
      ∙ ap (λ (o : S). all o behind (all_unit_bodies s behind rest)) (en ∙ ap (λ (y : Scope). all out n (l.unit_bodies y n v)) ez)
      ∙ ap (λ (j : ℕ). all (all out n (l.unit_bodies s n v)) (n + j) (all_unit_bodies s behind rest)) (sym (unit_count s n v))
      ∙ sym (all_append after out n (l.unit_bodies s n v) (all_unit_bodies s behind rest))
      ∙ ap (λ (x : LevelUnit). all out n (all_unit_bodies s n (x ∷ rest))) e
      ∙ sym (at_drop_more (λ ys. all out n (all_unit_bodies s n ys)) vs i v lt) ∙ h

  -- a PROC or OP, in whose scope its body is looked at
  pub routine_found : (s z : Scope) (n m : ℕ) (r : Option TypePhrase) (fs : List Formal) (w : Body) (out first new : S)
      → z ≡ b.routine_scope s (b.body_within s.types n fs w) → m ≡ n + 1 →
      first ≡ after out n (units (delivered (b.result s.types r)) (map (unit z) w.units)) → new ≡ all first m (l.all_refined_units z m w.refinements)
      → new ≡ all out n (l.inside_units s n r fs w)
  routine_found s z n m r fs w out first new ez em ef en =
      let next_number : m ≡ suc n = omega (arith, em) in
      en ∙ ap (λ (j : ℕ). all first j (l.all_refined_units z j w.refinements)) next_number
      ∙ ap (λ (o : S). all o (suc n) (l.all_refined_units z (suc n) w.refinements)) ef
      ∙ ap (λ (y : Scope). all (after out n (units (delivered (b.result s.types r)) (map (unit y) w.units))) (suc n)
      (l.all_refined_units y (suc n) w.refinements)) ez

  pub level_found : (w : Level) (s z : Scope) (m : ℕ) (start first new : S) → z ≡ s → m ≡ b.bodies_of_units w.units →
      first ≡ all start 0 (all_unit_bodies s 0 w.units) → new ≡ all first m (l.all_refined_units z m w.refinements)
      → new ≡ all start 0 (l.level_bodies s w)
  level_found w s z m start first new ez em ef en =
      let before = all_unit_bodies s 0 w.units in
      let count = b.bodies_of_units w.units in
      let length_is : 0 + length before ≡ count = (let c = units_count s 0 w.units in omega (arith, c)) in
      en ∙ ap (λ (j : ℕ). all first j (l.all_refined_units z j w.refinements)) em
      ∙ ap (λ (y : Scope). all first count (l.all_refined_units y count w.refinements)) ez
      ∙ ap (λ (o : S). all o count (l.all_refined_units s count w.refinements)) ef
      ∙ ap (λ (j : ℕ). all (all start 0 before) j (l.all_refined_units s count w.refinements)) (sym length_is)
      ∙ sym (all_append after start 0 before (l.all_refined_units s count w.refinements))
