-- What is known of data spaces after spaces came, changed and went.
use Rattle.std.proofs.Common.{◌≡◌, ℕ, zero, suc, ◌+◌, ◌<◌, ◌≤◌, List, [], ◌∷◌, ◌++◌, map, length, Option, Some, None, Bool, true, false, cond, nat_eq}
use Rattle.std.proofs.Common.{◌&&◌, ◌⊎◌, inl, inr, ⊎_elim, refl, sym, ap, ◌∙◌, subst, arith, eqb-true, eq-eqb}
use Rattle.std.specs.Prelude.{ℤ, pos, ◌==◌, slice_get, option_map, is_some, Ok, Err, if◌then◌else◌}
use Rattle.std.specs.Map.{lookup, remove_entry, set_value}
use Rattle.std.specs.Option.{unwrap_or}
use Rattle.std.proofs.lemmas.List.{length-map}
use Rattle.std.proofs.lemmas.Option.{slice_get-map, slice_get_within}
use Rattle.eu_base.specs.declared.address.TheConstants.{CELLS}
use Rattle.eu_base.specs.declared.address.Area.TheVariants as areas
use Rattle.eu_base.specs.declared.value.Kind.{Kind}
use Rattle.eu_base.specs.declared.value.Kind.TheVariants as kinds
use Rattle.std.specs.List.{AllByRecursion}
use Rattle.eu_base.proofs.Results.{fits_in_range}
use Rattle.eu_base.specs.declared.value.Value.{Value}
use Rattle.eu_base.specs.declared.shape.Shape.{Shape}
use Rattle.eu_base.specs.declared.stop.Stop.{Stop}
use Rattle.eu_base.specs.declared.stop.Stop.TheVariants.{NoSpace, WrongShape}
use Rattle.eu_base.specs.Shapes.{same_shape}
use Rattle.eu_base.specs.declared.space_operation.SpaceOperation.{SpaceOperation}
use Rattle.eu_base.specs.declared.space_operation.SpaceOperation.TheVariants.{KindOf, New, Old, IsNamed, SetKind, Forget, ForgetNamed, Rename, CopyNamed}
use Rattle.eu_base.specs.Shapes.{cell_kinds}
use Rattle.eu_base.specs.Values.{SpaceNo, IsOf, blank_of}
use Rattle.eu_base.specs.Cells.{Cell, Free, Cells, held_of, area_cell, run_cell, packet_cell, space_cell, same_area}
use Rattle.eu_base.specs.DataSpaces.{Space, Spaces, Head, Heads, heads_of, heads_in, head_of, no_space, no_head, the_space, the_head, space_from, head_from, is_live, living, under}
use Rattle.eu_base.specs.DataSpaces.{next_number, shaped, SpaceChange, Makes, Gets, Forgets, SetsKind, Fills, Names, Unnames, spaces_by, heads_by, spaces_after}
use Rattle.eu_base.specs.SpaceCells.{cells_by, cells_from, value_cell, content_cells, blank_or}
use Rattle.eu_base.specs.SoundSpaces as sound
use Rattle.eu_base.specs.SoundSpaces.{shape_kinds, IsSpace}
use Rattle.eu_base.specs.SpacePlaces.{kinds_of, values_of, shaped_kinds}
use Rattle.eu_base.specs.SpaceOperations.{Plan, space_result_kind, unless, for_one, name_refusal, room_refusal, life_refusal, planned, kind_plan, copy_plan, copy_refusal, bind_plan, fitting_plan, forgetting}
use Rattle.eu_base.specs.Operations.{text_at, number_at, space_at}
use Rattle.eu_base.proofs.Heads.{lookup_head, remove_head, head_same, live_same, by_same}
use Rattle.eu_base.proofs.SoundSpaces.{CanBe, CanAll, change_sound}
use Rattle.code_form.specs.Machine.{Mem, mem_by, mem_after, is_free, are_unknown}
use Rattle.elan_types.specs.Eval.{Place, Slot, Holds, Taken, World, slot_at, changed_by}
use Rattle.eu_base.specs.declared.address.Area.{Area}
use Rattle.place_gen.proofs.Spans.{IsFound}
use Rattle.place_gen.specs.Correct.{AreGiven, Rises}
use Rattle.place_gen.proofs.Cells.{Use, Uses, OfValue, uses_in, fit_at, Kept, KeepsIn, Keeps, KeepsSpaces, area_stays, packets_stay, command_stays}
use Rattle.place_gen.proofs.Spaces.{numbers_apart, other_put, other_gone, put_there, KeepsSpace, kinds_same, as_space, of_space}

-- ---- numbers that rise

rises_low : (low : ℕ) (live : List (ℕ × Head)) (last : ℕ) → Rises low live last → low ≤ last
rises_low low [] last h = h
rises_low low (e ∷ live) last h = let rest = rises_low e.0 live last h.1 in omega (arith, h.0, rest)

rises_from : (low from : ℕ) (live : List (ℕ × Head)) (last : ℕ) → low ≤ from → Rises from live last → Rises low live last
rises_from low from [] last le h = omega (arith, le, h)
rises_from low from (e ∷ live) last le h = (omega (arith, le, h.0), h.1)

rises_push : (low : ℕ) (live : List (ℕ × Head)) (last : ℕ) (h : Head) → Rises low live last → Rises low (live ++ (last + 1, h) ∷ []) (last + 1)
rises_push low [] last h r = (omega (arith, r), omega arith)
rises_push low (e ∷ live) last h r = (r.0, rises_push e.0 live last h r.1)

rises_gone : (test : ℕ → Bool) (low : ℕ) (live : List (ℕ × Head)) (last : ℕ) → Rises low live last → Rises low (remove_entry test live) last
rises_gone test low [] last h = h
rises_gone test low (e ∷ live) last h = by (test e.0) (rises_gone test e.0 live last h.1)
  where
    by : (b : Bool) → Rises e.0 (remove_entry test live) last → Rises low (cond b live (e ∷ remove_entry test live)) last
    by true rest = rises_from low e.0 live last (omega (arith, h.0)) h.1
    by false rest = (h.0, rest)

rises_put : (test : ℕ → Bool) (low : ℕ) (live : List (ℕ × Head)) (last : ℕ) (w : Head) → Rises low live last → Rises low (set_value test live w) last
rises_put test low [] last w h = h
rises_put test low (e ∷ live) last w h = by (test e.0) (rises_put test e.0 live last w h.1)
  where
    by : (b : Bool) → Rises e.0 (set_value test live w) last → Rises low (cond b ((e.0, w) ∷ live) (e ∷ set_value test live w)) last
    by true rest = h
    by false rest = (h.0, rest)

-- a number apart from another
unlike : (n m : ℕ) → (n < m) ⊎ (m < n) → nat_eq n m ≡ false
unlike n m apart = by (nat_eq n m) refl
  where
    by : (b : Bool) → nat_eq n m ≡ b → b ≡ false
    by false e = refl
    by true e = let same = eqb-true n m e in absurd (⊎_elim (λ lt. omega (arith, lt, same)) (λ lt. omega (arith, lt, same)) apart)

-- cells of spaces fit
abbrev Fit : List (ℕ × Head) → Type 0
Fit live = AllByRecursion (λ (e : ℕ × Head). length (shaped_kinds e.1.shape) ≤ CELLS) live

fit_push : (live : List (ℕ × Head)) (n : ℕ) (w : Head) → Fit live → length (shaped_kinds w.shape) ≤ CELLS → Fit (live ++ (n, w) ∷ [])
fit_push [] n w all here = (here, tt)
fit_push (e ∷ live) n w all here = (all.0, fit_push live n w all.1 here)

fit_gone : (test : ℕ → Bool) (live : List (ℕ × Head)) → Fit live → Fit (remove_entry test live)
fit_gone test [] all = tt
fit_gone test (e ∷ live) all = by (test e.0) (fit_gone test live all.1)
  where
    by : (b : Bool) → Fit (remove_entry test live) → Fit (cond b live (e ∷ remove_entry test live))
    by true rest = all.1
    by false rest = (all.0, rest)

fit_put : (test : ℕ → Bool) (live : List (ℕ × Head)) (w : Head) → Fit live → length (shaped_kinds w.shape) ≤ CELLS → Fit (set_value test live w)
fit_put test [] w all here = tt
fit_put test (e ∷ live) w all here = by (test e.0) (fit_put test live w all.1 here)
  where
    by : (b : Bool) → Fit (set_value test live w) → Fit (cond b ((e.0, w) ∷ live) (e ∷ set_value test live w))
    by true rest = (here, all.1)
    by false rest = (all.0, rest)

-- none lives above the last number, and none twice
none_above : (n low : ℕ) (live : List (ℕ × Head)) (last : ℕ) → Rises low live last → last < n → lookup (nat_eq n) live ≡ None
none_above n low [] last h lt = refl
none_above n low (e ∷ live) last h lt =
    let below = rises_low e.0 live last h.1 in
    ap (λ (b : Bool). cond b (Some e.1) (lookup (nat_eq n) live)) (unlike n e.0 (inr (omega (arith, below, lt)))) ∙ none_above n e.0 live last h.1 lt

none_below : (n low : ℕ) (live : List (ℕ × Head)) (last : ℕ) → Rises low live last → n ≤ low → lookup (nat_eq n) live ≡ None
none_below n low [] last h le = refl
none_below n low (e ∷ live) last h le =
    ap (λ (b : Bool). cond b (Some e.1) (lookup (nat_eq n) live)) (unlike n e.0 (inl (omega (arith, h.0, le))))
    ∙ none_below n e.0 live last h.1 (omega (arith, h.0, le))

none_left : (n low : ℕ) (live : List (ℕ × Head)) (last : ℕ) → Rises low live last → lookup (nat_eq n) (remove_entry (nat_eq n) live) ≡ None
none_left n low [] last h = refl
none_left n low (e ∷ live) last h = by (nat_eq n e.0) refl (none_left n e.0 live last h.1)
  where
    by : (b : Bool) → nat_eq n e.0 ≡ b → lookup (nat_eq n) (remove_entry (nat_eq n) live) ≡ None
        → lookup (nat_eq n) (cond b live (e ∷ remove_entry (nat_eq n) live)) ≡ None
    by true is rest = let same = eqb-true n e.0 is in none_below n e.0 live last h.1 (omega (arith, same))
    by false is rest = ap (λ (b : Bool). cond b (Some e.1) (lookup (nat_eq n) (remove_entry (nat_eq n) live))) is ∙ rest

-- one more, which stands last
pushed_other : {T : Type 0} (test : ℕ → Bool) (live : List (ℕ × T)) (n : ℕ) (w : T) → test n ≡ false → lookup test (live ++ (n, w) ∷ []) ≡ lookup test live
pushed_other test [] n w apart = ap (λ (b : Bool). cond b (Some w) None) apart
pushed_other {T} test (e ∷ live) n w apart = ap (λ (o : Option T). cond (test e.0) (Some e.1) o) (pushed_other test live n w apart)

pushed_here : {T : Type 0} (test : ℕ → Bool) (live : List (ℕ × T)) (n : ℕ) (w : T) → test n ≡ true → lookup test live ≡ None
    → lookup test (live ++ (n, w) ∷ []) ≡ Some w
pushed_here test [] n w here none = ap (λ (b : Bool). cond b (Some w) None) here
pushed_here {T} test (e ∷ live) n w here none = by (test e.0) refl (pushed_here test live n w here)
  where
    by : (b : Bool) → test e.0 ≡ b → (lookup test live ≡ None → lookup test (live ++ (n, w) ∷ []) ≡ Some w)
        → cond b (Some e.1) (lookup test (live ++ (n, w) ∷ [])) ≡ Some w
    by true is more =
        let f : Some e.1 ≡ None = sym (ap (λ (b : Bool). cond b (Some e.1) (lookup test live)) is) ∙ none in
        let g : ⊥ = cc in absurd g
    by false is more = more (sym (ap (λ (b : Bool). cond b (Some e.1) (lookup test live)) is) ∙ none)

-- what does not live without its values does not live with them
none_of : (test : ℕ → Bool) (live : List (ℕ × Space)) → lookup test (heads_in head_of live) ≡ None → lookup test live ≡ None
none_of test live e = by (lookup test live) (sym (lookup_head head_of test live) ∙ e)
  where
    by : (o : Option Space) → option_map head_of o ≡ None → o ≡ None
    by None e = refl
    by (Some x) e = absurd (cc e)

-- ---- cells of a space

-- nothing stands in it
keeps_nothing : (P : List Kind) (s : SpaceNo) (kind : ℤ) (cells : Cells) → ((x : ℕ) → cells (space_cell s x) ≡ Free)
    → KeepsSpace P s (record { kind = kind; shape = None; values = [] }) cells
keeps_nothing P s kind cells free = record {
  as_many = refl;
  each = λ x k e. absurd (nothing x k e);
  beyond = λ x past. free x;
}
  where
    nothing : (x : ℕ) (k : Use) → slice_get [] x ≡ Some k → ⊥
    nothing x k e = cc

-- the cells of one hold what those of another do
keeps_copy : (P : List Kind) (s t : SpaceNo) (space : Space) (cells now : Cells) → ((x : ℕ) → now (space_cell t x) ≡ cells (space_cell s x))
    → KeepsSpace P s space cells → KeepsSpace P t space now
keeps_copy P s t space cells now same h = record {
  as_many = h.as_many;
  each = λ x k e. subst (Kept P (map OfValue (shaped_kinds space.shape)) x k (slot_at (map Holds space.values) x)) (sym (same x)) (h.each x k e);
  beyond = λ x past. same x ∙ h.beyond x past;
}

-- a space that another task had
kinds_are : (o : Option Shape) → shape_kinds o ≡ shaped_kinds o
kinds_are None = refl
kinds_are (Some shape) = refl

as_many_of : (ks : List Kind) (vs : List Value) → sound.AreOf ks vs → length vs ≡ length ks
as_many_of [] [] sound.none = refl
as_many_of [] (v ∷ vs) is = elim is [ ]
as_many_of (k ∷ ks) [] is = elim is [ ]
as_many_of (k ∷ ks) (v ∷ vs) (sound.one is more) = ap suc (as_many_of ks vs more)

come_each : (ks : List Kind) (vs : List Value) → sound.AreOf ks vs → (x : ℕ) (k : Kind) → slice_get ks x ≡ Some k
    → (v : Value) × (slot_at (map Holds vs) x ≡ Holds v) × IsOf k v × (value_cell (slice_get vs x) ≡ held_of v)
come_each [] [] sound.none x k e = let f : ⊥ = cc in absurd f
come_each [] (v ∷ vs) is x k e = elim is [ ]
come_each (j ∷ ks) [] is x k e = elim is [ ]
come_each (j ∷ ks) (v ∷ vs) (sound.one is more) zero k e = let same : j ≡ k = cc in (v, refl, subst (λ (k : Kind). IsOf k v) same is, refl)
come_each (j ∷ ks) (v ∷ vs) (sound.one is more) (suc x) k e = come_each ks vs more x k e

none_past : (vs : List Value) (x : ℕ) → length vs ≤ x → value_cell (slice_get vs x) ≡ Free
none_past [] x le = refl
none_past (v ∷ vs) zero le = absurd (omega (arith, le))
none_past (v ∷ vs) (suc x) le = none_past vs x (omega (arith, le))

keeps_content : (P : List Kind) (t : SpaceNo) (content : Space) (now : Cells) → IsSpace content → ((x : ℕ) → now (space_cell t x) ≡ content_cells content x)
    → KeepsSpace P t content now
keeps_content P t content now is same =
    let typed = subst (λ (ks : List Kind). sound.AreOf ks content.values) (kinds_are content.shape) is.values in
    let ks = shaped_kinds content.shape in
    record {
      as_many =
          length-map content.values Holds ∙ as_many_of ks content.values typed ∙ sym (length-map ks OfValue);
      each = λ x u e. of typed x u (slice_get ks x) refl (sym (slice_get-map OfValue ks x) ∙ e);
      beyond = λ x past. same x ∙ none_past content.values x (omega (arith, past, as_many_of ks content.values typed, length-map ks OfValue));
    }
  where
    of : sound.AreOf (shaped_kinds content.shape) content.values → (x : ℕ) (u : Use) (o : Option Kind) → slice_get (shaped_kinds content.shape) x ≡ o
        → option_map OfValue o ≡ Some u
        → Kept P (map OfValue (shaped_kinds content.shape)) x u (slot_at (map Holds content.values) x) (now (space_cell t x))
    of typed x u None e f = absurd (cc f)
    of typed x u (Some k) e f =
        let same_use : OfValue k ≡ u = cc in
        let g = come_each (shaped_kinds content.shape) content.values typed x k e in
        subst (λ (u : Use). Kept P (map OfValue (shaped_kinds content.shape)) x u (slot_at (map Holds content.values) x) (now (space_cell t x))) same_use
        (g.0, g.1, g.2, same x ∙ g.3)

-- first values
blank_is : (k : Kind) → IsOf k (blank_of k)
blank_is kinds.Int = fits_in_range _ refl
blank_is kinds.Truth = tt
blank_is kinds.Text = omega arith
blank_is kinds.Task = omega arith
blank_is kinds.Space = omega arith

blank_there : (ks : List Kind) (x : ℕ) (k : Kind) → slice_get ks x ≡ Some k → slot_at (map Holds (map blank_of ks)) x ≡ Holds (blank_of k)
blank_there [] x k e = let f : ⊥ = cc in absurd f
blank_there (j ∷ ks) zero k e = let f : j ≡ k = cc in ap (λ (k : Kind). Holds (blank_of k)) f
blank_there (j ∷ ks) (suc x) k e = blank_there ks x k e

-- ---- one change

-- a shape is given only to a space in which nothing stands, and has no more cells than a space can have; and one that comes has no more either
abbrev pub CanFill : SpaceChange → Spaces → Type 0
CanFill (Gets content) spaces = length (shape_kinds content.shape) ≤ CELLS
CanFill (Fills s shape) spaces = ((the_space s spaces).shape ≡ None) × (is_live s spaces ≡ true) × (length (cell_kinds shape) ≤ CELLS)
CanFill _ spaces = Unit {0}

module _ (P : List Kind) (spaces : Spaces) (m : Mem) (h : KeepsSpaces P spaces m) where
  kept : (t : SpaceNo) → KeepsSpace P t (the_space t spaces) m.cells
  kept t = as_space P t spaces m.cells (h.each t)

  -- the spaces that a change leaves as they are
  unchanged : (t : SpaceNo) (after : Spaces) (now : Cells) → the_space t after ≡ the_space t spaces
      → ((x : ℕ) → now (space_cell t x) ≡ m.cells (space_cell t x)) → KeepsSpace P t (the_space t after) now
  unchanged t after now same cells =
      subst (λ (space : Space). KeepsSpace P t space now) (sym same) (keeps_copy P t t (the_space t spaces) m.cells now cells (kept t))

  beside : (t s : SpaceNo) (own : ℕ → Cell) (x : ℕ) → (t.0 == s.0) ≡ false → cond (t.0 == s.0) (own x) (m.cells (space_cell t x)) ≡ m.cells (space_cell t x)
  beside t s own x apart = ap (λ (b : Bool). cond b (own x) (m.cells (space_cell t x))) apart

  within : (t s : SpaceNo) (own : ℕ → Cell) (x : ℕ) → (t.0 == s.0) ≡ true → cond (t.0 == s.0) (own x) (m.cells (space_cell t x)) ≡ own x
  within t s own x is = ap (λ (b : Bool). cond b (own x) (m.cells (space_cell t x))) is

  -- a new one is a copy of another, or empty
  copied : (t : SpaceNo) (from : Option SpaceNo) (now : Cells) → ((x : ℕ) → now (space_cell t x) ≡ cells_from from m.cells x)
      → KeepsSpace P t (space_from from spaces) now
  copied t None now same = keeps_nothing P t (pos 0) now same
  copied t (Some s) now same = keeps_copy P s t (the_space s spaces) m.cells now same (kept s)

  made : (from : Option SpaceNo) (t : SpaceNo)
      → KeepsSpace P t (the_space t (spaces_by (Makes from) spaces)) (cells_by (Makes from) m.heads m.cells)
  made from t =
      let next = next_number m.heads in
      let last : next.0 ≡ spaces.last + 1 = ap (λ (heads : Heads). heads.last + 1) h.heads in
      by (t.0 == next.0) refl last
    where
      by : (b : Bool) → (t.0 == (next_number m.heads).0) ≡ b → (next_number m.heads).0 ≡ spaces.last + 1
          → KeepsSpace P t (the_space t (spaces_by (Makes from) spaces)) (cells_by (Makes from) m.heads m.cells)
      by false apart last =
          let other_one : nat_eq t.0 (spaces.last + 1) ≡ false = ap (nat_eq t.0) (sym last) ∙ apart in
          unchanged t (spaces_by (Makes from) spaces) (cells_by (Makes from) m.heads m.cells)
          (ap (λ (o : Option Space). unwrap_or o no_space) (pushed_other (nat_eq t.0) spaces.live (spaces.last + 1) (space_from from spaces) other_one))
          (λ x. beside t (next_number m.heads) (cells_from from m.cells) x apart)
      by true is last =
          let number : t.0 ≡ spaces.last + 1 = eqb-true t.0 _ is ∙ last in
          let this_one : nat_eq t.0 (spaces.last + 1) ≡ true = ap (nat_eq t.0) (sym last) ∙ is in
          let none =
          none_of (nat_eq t.0) spaces.live
          (none_above t.0 0 (heads_of spaces).live spaces.last h.given.rise (omega (arith, number))) in
          subst (λ (space : Space). KeepsSpace P t space (cells_by (Makes from) m.heads m.cells))
          (sym (ap (λ (o : Option Space). unwrap_or o no_space) (pushed_here (nat_eq t.0) spaces.live (spaces.last + 1) (space_from from spaces) this_one none)))
          (copied t from (cells_by (Makes from) m.heads m.cells) (λ x. within t (next_number m.heads) (cells_from from m.cells) x is))

  came : (content : Space) → IsSpace content → (t : SpaceNo)
      → KeepsSpace P t (the_space t (spaces_by (Gets content) spaces)) (cells_by (Gets content) m.heads m.cells)
  came content sound_one t = by (t.0 == (next_number m.heads).0) refl (ap (λ (heads : Heads). heads.last + 1) h.heads)
    where
      by : (b : Bool) → (t.0 == (next_number m.heads).0) ≡ b → (next_number m.heads).0 ≡ spaces.last + 1
          → KeepsSpace P t (the_space t (spaces_by (Gets content) spaces)) (cells_by (Gets content) m.heads m.cells)
      by false apart last =
          let other_one : nat_eq t.0 (spaces.last + 1) ≡ false = ap (nat_eq t.0) (sym last) ∙ apart in
          unchanged t (spaces_by (Gets content) spaces) (cells_by (Gets content) m.heads m.cells)
          (ap (λ (o : Option Space). unwrap_or o no_space) (pushed_other (nat_eq t.0) spaces.live (spaces.last + 1) content other_one))
          (λ x. beside t (next_number m.heads) (content_cells content) x apart)
      by true is last =
          let number : t.0 ≡ spaces.last + 1 = eqb-true t.0 _ is ∙ last in
          let this_one : nat_eq t.0 (spaces.last + 1) ≡ true = ap (nat_eq t.0) (sym last) ∙ is in
          let none =
          none_of (nat_eq t.0) spaces.live
          (none_above t.0 0 (heads_of spaces).live spaces.last h.given.rise (omega (arith, number))) in
          subst (λ (space : Space). KeepsSpace P t space (cells_by (Gets content) m.heads m.cells))
          (sym (ap (λ (o : Option Space). unwrap_or o no_space) (pushed_here (nat_eq t.0) spaces.live (spaces.last + 1) content this_one none)))
          (keeps_content P t content (cells_by (Gets content) m.heads m.cells) sound_one (λ x. within t (next_number m.heads) (content_cells content) x is))

  gone : (s t : SpaceNo) → KeepsSpace P t (the_space t (spaces_by (Forgets s) spaces)) (cells_by (Forgets s) m.heads m.cells)
  gone s t = by (t.0 == s.0) refl
    where
      by : (b : Bool) → (t.0 == s.0) ≡ b → KeepsSpace P t (the_space t (spaces_by (Forgets s) spaces)) (cells_by (Forgets s) m.heads m.cells)
      by false apart =
          unchanged t (spaces_by (Forgets s) spaces) (cells_by (Forgets s) m.heads m.cells)
          (ap (λ (o : Option Space). unwrap_or o no_space) (other_gone (nat_eq t.0) (nat_eq s.0) spaces.live (numbers_apart t s apart)))
          (λ x. beside t s (λ k. Free) x apart)
      by true is =
          let number : t ≡ s = ap (λ (n : ℕ). record { 0 = n }) (eqb-true t.0 s.0 is) in
          let none : lookup (nat_eq s.0) (remove_entry (nat_eq s.0) spaces.live) ≡ None =
          none_of (nat_eq s.0) (remove_entry (nat_eq s.0) spaces.live)
          (ap (lookup (nat_eq s.0)) (remove_head head_of (nat_eq s.0) spaces.live) ∙ none_left s.0 0 (heads_of spaces).live spaces.last h.given.rise) in
          let none' : lookup (nat_eq t.0) (remove_entry (nat_eq s.0) spaces.live) ≡ None =
          ap (λ (t : SpaceNo). lookup (nat_eq t.0) (remove_entry (nat_eq s.0) spaces.live)) number ∙ none in
          subst (λ (space : Space). KeepsSpace P t space (cells_by (Forgets s) m.heads m.cells))
          (sym (ap (λ (o : Option Space). unwrap_or o no_space) none'))
          (keeps_nothing P t (pos 0) (cells_by (Forgets s) m.heads m.cells) (λ x. within t s (λ k. Free) x is))

  -- one with another type number, and one that gets a shape
  other : (s t : SpaceNo) (w : Space) (now : Cells) → ((t.0 == s.0) ≡ false → (x : ℕ) → now (space_cell t x) ≡ m.cells (space_cell t x))
      → ((t.0 == s.0) ≡ true → is_live s spaces ≡ true → KeepsSpace P t w now)
      → ((t.0 == s.0) ≡ true → is_live s spaces ≡ false → KeepsSpace P t no_space now)
      → KeepsSpace P t (unwrap_or (lookup (nat_eq t.0) (set_value (nat_eq s.0) spaces.live w)) no_space) now
  other s t w now same put not_there = by (t.0 == s.0) refl
    where
      there : (b : Bool) → (t.0 == s.0) ≡ true → is_live s spaces ≡ b → (o : Option Space) → lookup (nat_eq s.0) spaces.live ≡ o → is_some o ≡ b
          → KeepsSpace P t (unwrap_or (option_map (λ _. w) o) no_space) now
      there true is live None e f = absurd (cc f)
      there true is live (Some x) e f = put is live
      there false is live None e f = not_there is live
      there false is live (Some x) e f = absurd (cc f)

      by : (b : Bool) → (t.0 == s.0) ≡ b → KeepsSpace P t (unwrap_or (lookup (nat_eq t.0) (set_value (nat_eq s.0) spaces.live w)) no_space) now
      by false apart =
          subst (λ (o : Option Space). KeepsSpace P t (unwrap_or o no_space) now)
          (sym (other_put (nat_eq t.0) (nat_eq s.0) spaces.live w (numbers_apart t s apart)))
          (keeps_copy P t t (the_space t spaces) m.cells now (same apart) (kept t))
      by true is =
          let number : t ≡ s = ap (λ (n : ℕ). record { 0 = n }) (eqb-true t.0 s.0 is) in
          let found : lookup (nat_eq t.0) (set_value (nat_eq s.0) spaces.live w) ≡ option_map (λ _. w) (living s spaces) =
          ap (λ (t : SpaceNo). lookup (nat_eq t.0) (set_value (nat_eq s.0) spaces.live w)) number ∙ put_there (nat_eq s.0) spaces.live w in
          subst (λ (o : Option Space). KeepsSpace P t (unwrap_or o no_space) now) (sym found)
          (there (is_live s spaces) is refl (living s spaces) refl refl)

  not_living : (s : SpaceNo) → is_live s spaces ≡ false → the_space s spaces ≡ no_space
  not_living s e = by (living s spaces) e
    where
      by : (o : Option Space) → is_some o ≡ false → unwrap_or o no_space ≡ no_space
      by None e = refl
      by (Some x) e = absurd (cc e)

  kept_at : (s t : SpaceNo) → (t.0 == s.0) ≡ true → KeepsSpace P t (the_space s spaces) m.cells
  kept_at s t is =
      let number : t ≡ s = ap (λ (n : ℕ). record { 0 = n }) (eqb-true t.0 s.0 is) in
      subst (λ (u : SpaceNo). KeepsSpace P t (the_space u spaces) m.cells) number (kept t)

  typed : (s : SpaceNo) (z : ℤ) (t : SpaceNo) → KeepsSpace P t (the_space t (spaces_by (SetsKind s z) spaces)) m.cells
  typed s z t =
      other s t (record (the_space s spaces) { kind = z }) m.cells (λ apart x. refl) (λ is live. kept_at s t is)
      (λ is live. subst (λ (space : Space). KeepsSpace P t space m.cells) (not_living s live) (kept_at s t is))

  filled : (s : SpaceNo) (shape : Shape) (t : SpaceNo) → CanFill (Fills s shape) spaces
      → KeepsSpace P t (the_space t (spaces_by (Fills s shape) spaces)) (cells_by (Fills s shape) m.heads m.cells)
  filled s shape t can =
      other s t (shaped shape (the_space s spaces)) (cells_by (Fills s shape) m.heads m.cells) (λ apart x. beside t s own x apart)
      (λ is live. blank is) (λ is live. absurd (dead (can.1) live))
    where
      ks : List Kind
      ks = cell_kinds shape

      own : ℕ → Cell
      own = λ k. blank_or (slice_get (cell_kinds shape) k) (m.cells (space_cell s k))

      dead : is_live s spaces ≡ true → is_live s spaces ≡ false → ⊥
      dead e f = cc

      free : (x : ℕ) → m.cells (space_cell s x) ≡ Free
      free x = (subst (λ (o : Option Shape). KeepsIn (areas.Space s) P (map OfValue (shaped_kinds o)) (map Holds (values_of s spaces)) m.cells) can.0 (kept s)).beyond x (omega arith)

      blank : (t.0 == s.0) ≡ true → KeepsSpace P t (shaped shape (the_space s spaces)) (cells_by (Fills s shape) m.heads m.cells)
      blank is = record {
        as_many = length-map (map blank_of (cell_kinds shape)) Holds ∙ length-map (cell_kinds shape) blank_of ∙ sym (length-map (cell_kinds shape) OfValue);
        each = λ x k e. of x k (slice_get (cell_kinds shape) x) refl (sym (slice_get-map OfValue (cell_kinds shape) x) ∙ e);
        beyond = λ x past.
            within t s own x is ∙ past_all x (slice_get (cell_kinds shape) x) refl (omega (arith, past, length-map (cell_kinds shape) OfValue));
      }
        where
          past_all : (x : ℕ) (o : Option Kind) → slice_get (cell_kinds shape) x ≡ o → length (cell_kinds shape) ≤ x
              → blank_or (slice_get (cell_kinds shape) x) (m.cells (space_cell s x)) ≡ Free
          past_all x None e past = ap (λ (o : Option Kind). blank_or o (m.cells (space_cell s x))) e ∙ free x
          past_all x (Some k) e past = absurd (omega (arith, slice_get_within (cell_kinds shape) x k e, past))

          of : (x : ℕ) (u : Use) (o : Option Kind) → slice_get (cell_kinds shape) x ≡ o → option_map OfValue o ≡ Some u
              → Kept P (map OfValue (cell_kinds shape)) x u (slot_at (map Holds (map blank_of (cell_kinds shape))) x)
              (cells_by (Fills s shape) m.heads m.cells (space_cell t x))
          of x u None e f = absurd (cc f)
          of x u (Some k) e f =
              let same : OfValue k ≡ u = cc in
              let cell = within t s own x is ∙ ap (λ (o : Option Kind). blank_or o (m.cells (space_cell s x))) e in
              subst (λ (u : Use). Kept P (map OfValue (cell_kinds shape)) x u (slot_at (map Holds (map blank_of (cell_kinds shape))) x)
              (cells_by (Fills s shape) m.heads m.cells (space_cell t x))) same
              (blank_of k, blank_there (cell_kinds shape) x k e, blank_is k, cell)

  -- numbers and cells of spaces stay such as there can be
  given_then : (change : SpaceChange) → CanFill change spaces → AreGiven (heads_by change (heads_of spaces))
  given_then change can = record { rise = rise change; fit = fit change can }
    where
      rise : (change : SpaceChange) → Rises 0 (heads_by change (heads_of spaces)).live (heads_by change (heads_of spaces)).last
      rise (Makes from) = rises_push 0 (heads_of spaces).live spaces.last _ h.given.rise
      rise (Gets content) = rises_push 0 (heads_of spaces).live spaces.last _ h.given.rise
      rise (Forgets s) = rises_gone (nat_eq s.0) 0 (heads_of spaces).live spaces.last h.given.rise
      rise (SetsKind s z) = rises_put (nat_eq s.0) 0 (heads_of spaces).live spaces.last _ h.given.rise
      rise (Fills s shape) = rises_put (nat_eq s.0) 0 (heads_of spaces).live spaces.last _ h.given.rise
      rise (Names name s) = h.given.rise
      rise (Unnames name) = h.given.rise

      from_fits : (from : Option SpaceNo) → length (shaped_kinds (head_from from (heads_of spaces)).shape) ≤ CELLS
      from_fits None = omega arith
      from_fits (Some s) = fit_at s (heads_of spaces) h.given

      fit : (change : SpaceChange) → CanFill change spaces → AllByRecursion (λ e. length (shaped_kinds e.1.shape) ≤ CELLS) (heads_by change (heads_of spaces)).live
      fit (Makes from) can = fit_push (heads_of spaces).live (spaces.last + 1) (head_from from (heads_of spaces)) h.given.fit (from_fits from)
      fit (Gets content) can =
          fit_push (heads_of spaces).live (spaces.last + 1) (head_of content) h.given.fit (subst (λ (ks : List Kind). length ks ≤ CELLS) (kinds_are content.shape) can)
      fit (Forgets s) can = fit_gone (nat_eq s.0) (heads_of spaces).live h.given.fit
      fit (SetsKind s z) can = fit_put (nat_eq s.0) (heads_of spaces).live _ h.given.fit (fit_at s (heads_of spaces) h.given)
      fit (Fills s shape) can = fit_put (nat_eq s.0) (heads_of spaces).live _ h.given.fit can.2
      fit (Names name s) can = h.given.fit
      fit (Unnames name) can = h.given.fit

  -- all of it
  pub change_keeps : (change : SpaceChange) → CanBe change spaces → CanFill change spaces → KeepsSpaces P (spaces_by change spaces) (mem_by change m)
  change_keeps change can fill = record {
    heads = ap (heads_by change) h.heads ∙ sym (by_same change spaces);
    sound = change_sound change spaces can h.sound;
    given = subst AreGiven (sym (by_same change spaces)) (given_then change fill);
    each = λ t. of_space P t (spaces_by change spaces) (cells_by change m.heads m.cells) (each change t can fill);
  }
    where
      each : (change : SpaceChange) (t : SpaceNo) → CanBe change spaces → CanFill change spaces
          → KeepsSpace P t (the_space t (spaces_by change spaces)) (cells_by change m.heads m.cells)
      each (Makes from) t can fill = made from t
      each (Gets content) t can fill = came content can.1 t
      each (Forgets s) t can fill = gone s t
      each (SetsKind s z) t can fill = typed s z t
      each (Fills s shape) t can fill = filled s shape t fill
      each (Names name s) t can fill = kept t
      each (Unnames name) t can fill = kept t

-- ---- one change behind the other

abbrev pub CanAllFill : List SpaceChange → Spaces → Type 0
CanAllFill [] spaces = Unit {0}
CanAllFill (change ∷ changes) spaces = CanFill change spaces × CanAllFill changes (spaces_by change spaces)

spaces_keep : (P : List Kind) (changes : List SpaceChange) (spaces : Spaces) (m : Mem) → CanAll changes spaces → CanAllFill changes spaces
    → KeepsSpaces P spaces m → KeepsSpaces P (spaces_after changes spaces) (mem_after changes m)
spaces_keep P [] spaces m can fill h = h
spaces_keep P (change ∷ changes) spaces m can fill h =
    spaces_keep P changes (spaces_by change spaces) (mem_by change m) can.1 fill.1 (change_keeps P spaces m h change can.0 fill.0)

-- the other areas stay as they are
run_stays : (changes : List SpaceChange) (m : Mem) (x : ℕ) → (mem_after changes m).cells (run_cell x) ≡ m.cells (run_cell x)
run_stays [] m x = refl
run_stays (change ∷ changes) m x = run_stays changes (mem_by change m) x ∙ by change
  where
    by : (change : SpaceChange) → cells_by change m.heads m.cells (run_cell x) ≡ m.cells (run_cell x)
    by (Makes from) = refl
    by (Gets content) = refl
    by (Forgets s) = refl
    by (SetsKind s z) = refl
    by (Fills s shape) = refl
    by (Names name s) = refl
    by (Unnames name) = refl

packets_are : (changes : List SpaceChange) (m : Mem) (x : ℕ) → (mem_after changes m).cells (packet_cell x) ≡ m.cells (packet_cell x)
packets_are [] m x = refl
packets_are (change ∷ changes) m x = packets_are changes (mem_by change m) x ∙ by change
  where
    by : (change : SpaceChange) → cells_by change m.heads m.cells (packet_cell x) ≡ m.cells (packet_cell x)
    by (Makes from) = refl
    by (Gets content) = refl
    by (Forgets s) = refl
    by (SetsKind s z) = refl
    by (Fills s shape) = refl
    by (Names name s) = refl
    by (Unnames name) = refl

pub changes_keep : (P : List Kind) (L : Uses) (changes : List SpaceChange) (w : World) (m : Mem) → CanAll changes w.spaces → CanAllFill changes w.spaces
    → Keeps P L w m → Keeps P L (changed_by changes w) (mem_after changes m)
changes_keep P L changes w m can fill h = record {
  command = command_stays P L w.store m.cells (mem_after changes m).cells (run_stays changes m) h.command;
  packets = packets_stay P (map OfValue P) w.packets m.cells (mem_after changes m).cells (packets_are changes m) h.packets;
  spaces = spaces_keep P changes w.spaces m can fill h.spaces;
  answers = h.answers;
}

-- ---- plans that give no shape

abbrev pub FillsNot : SpaceChange → Type 0
FillsNot (Gets content) = ⊥
FillsNot (Fills s shape) = ⊥
FillsNot _ = Unit {0}

abbrev pub AllFillNot : List SpaceChange → Type 0
AllFillNot [] = Unit {0}
AllFillNot (change ∷ changes) = FillsNot change × AllFillNot changes

pub can_fill : (changes : List SpaceChange) (spaces : Spaces) → AllFillNot changes → CanAllFill changes spaces
can_fill [] spaces not_one = tt
can_fill (change ∷ changes) spaces not_one = (by change not_one.0, can_fill changes (spaces_by change spaces) not_one.1)
  where
    by : (change : SpaceChange) → FillsNot change → CanFill change spaces
    by (Makes from) f = tt
    by (Gets content) f = absurd f
    by (Forgets s) f = tt
    by (SetsKind s z) f = tt
    by (Fills s shape) f = absurd f
    by (Names name s) f = tt
    by (Unnames name) f = tt

-- such a plan, and what it gives is so
abbrev pub NoShape : {A : Type 0} → (A → Type 0) → Plan A → Type 0
NoShape So (Ok plan) = So plan.0 × AllFillNot plan.1
NoShape So (Err stop) = Unit {0}

module _ {A : Type 0} (So : A → Type 0) where
  unless_so : (o : Option Stop) (plan : Plan A) → NoShape So plan → NoShape So (unless o plan)
  unless_so None plan is = is
  unless_so (Some stop) plan is = tt

  for_one_so : (stop : Stop) (o : Option SpaceNo) (f : SpaceNo → Plan A) → ((s : SpaceNo) → NoShape So (f s)) → NoShape So (for_one stop o f)
  for_one_so stop None f is = tt
  for_one_so stop (Some s) f is = is s

pub forgets_not : (o : Option SpaceNo) (heads : Heads) → AllFillNot (forgetting o heads)
forgets_not None heads = tt
forgets_not (Some s) heads = by (is_live s heads)
  where
    by : (b : Bool) → AllFillNot (if b then Forgets s ∷ [] else [])
    by true = (tt, tt)
    by false = tt

-- a procedure that delivers nothing gives nothing
abbrev pub GivesAs : Option Kind → Option Value → Type 0
GivesAs None given = given ≡ None
GivesAs (Some k) given = Unit {0}

pub planned_so : (operation : SpaceOperation) (vs : List Value) (heads : Heads) → NoShape (GivesAs (space_result_kind operation)) (planned operation vs heads)
planned_so KindOf vs heads = by (space_at vs 0)
  where
    by : (o : Option SpaceNo) → NoShape (GivesAs (space_result_kind KindOf)) (kind_plan o heads)
    by None = (tt, tt)
    by (Some s) = unless_so (GivesAs (space_result_kind KindOf)) (life_refusal s heads) _ (tt, tt)
planned_so New vs heads =
    unless_so (GivesAs (space_result_kind New)) (name_refusal (text_at vs 0) heads) _
    (unless_so (GivesAs (space_result_kind New)) (room_refusal heads) _ (tt, (tt, (tt, tt))))
planned_so Old vs heads = for_one_so (GivesAs (space_result_kind Old)) _ (under (text_at vs 0) heads) _ (λ s. (tt, tt))
planned_so IsNamed vs heads = (tt, tt)
planned_so SetKind vs heads =
    for_one_so (GivesAs None) _ (space_at vs 0) _ (λ s. unless_so (GivesAs None) (life_refusal s heads) _ (refl, (tt, tt)))
planned_so Forget vs heads = (refl, forgets_not (space_at vs 0) heads)
planned_so ForgetNamed vs heads = for_one_so (GivesAs None) _ (under (text_at vs 0) heads) _ (λ s. (refl, (tt, tt)))
planned_so Rename vs heads =
    for_one_so (GivesAs None) _ (under (text_at vs 0) heads) _ (λ s. unless_so (GivesAs None) (name_refusal (text_at vs 1) heads) _ (refl, (tt, (tt, tt))))
planned_so CopyNamed vs heads =
    for_one_so (GivesAs None) _ (under (text_at vs 0) heads) _ (λ s.
    unless_so (GivesAs None) (name_refusal (text_at vs 1) heads) _ (unless_so (GivesAs None) (room_refusal heads) _ (refl, (tt, (tt, tt)))))

-- of an assignment of a data space: a new one
abbrev pub CopiesSo : Option SpaceNo → Plan SpaceNo → Type 0
CopiesSo from (Ok plan) = plan.1 ≡ Makes from ∷ []
CopiesSo from (Err stop) = Unit {0}

pub copy_so : (from : Option SpaceNo) (heads : Heads) → CopiesSo from (copy_plan None from heads)
copy_so from heads = first (copy_refusal from heads) (room_refusal heads)
  where
    first : (a b : Option Stop) → CopiesSo from (unless a (unless b (Ok (next_number heads, Makes from ∷ []))))
    first None None = refl
    first None (Some stop) = tt
    first (Some stop) b = tt

-- of a binding: no change, or a shape for a space in which nothing stands
abbrev pub BindsSo : Shape → Spaces → Plan SpaceNo → Type 0
BindsSo shape spaces (Ok plan) = (plan.1 ≡ []) ⊎ ((plan.1 ≡ Fills plan.0 shape ∷ []) × CanFill (Fills plan.0 shape) spaces)
BindsSo shape spaces (Err stop) = Unit {0}

pub bind_so : (shape : Shape) (space : Option SpaceNo) (spaces : Spaces) → length (cell_kinds shape) ≤ CELLS
    → BindsSo shape spaces (bind_plan shape space (heads_of spaces))
bind_so shape None spaces few = tt
bind_so shape (Some s) spaces few = live (is_live s (heads_of spaces)) (sym (live_same s spaces))
  where
    fits : (b : Bool) → BindsSo shape spaces (if b then Ok (s, []) else Err WrongShape)
    fits true = inl refl
    fits false = tt

    fitting : (o : Option Shape) → (the_head s (heads_of spaces)).shape ≡ o → is_live s spaces ≡ true → BindsSo shape spaces (fitting_plan shape s o)
    fitting None e there = inr (refl, (ap (λ (h : Head). h.shape) (sym (head_same s spaces)) ∙ e, there, few))
    fitting (Some other) e there = fits (same_shape shape other)

    live : (b : Bool) → is_live s spaces ≡ b
        → BindsSo shape spaces (unless (if b then None else Some NoSpace) (fitting_plan shape s (the_head s (heads_of spaces)).shape))
    live true there = fitting (the_head s (heads_of spaces)).shape refl there
    live false there = tt

-- what stands in a space stands there still, when another comes or gets a shape
abbrev pub Grows : SpaceChange → Type 0
Grows (Makes from) = Unit {0}
Grows (Fills s shape) = Unit {0}
Grows _ = ⊥

no_kinds : (ks : List Kind) (n : ℕ) (u : Use) → ks ≡ [] → slice_get (map OfValue ks) n ≡ Some u → ⊥
no_kinds [] n u e f = cc
no_kinds (k ∷ ks) n u e f = cc

pub still_there : (P : List Kind) (spaces : Spaces) (m : Mem) (change : SpaceChange) → KeepsSpaces P spaces m → CanFill change spaces → Grows change
    → (t : SpaceNo) (n : ℕ) (u : Use) → slice_get (map OfValue (kinds_of t (heads_of spaces))) n ≡ Some u
    → kinds_of t (heads_by change (heads_of spaces)) ≡ kinds_of t (heads_of spaces)
still_there P spaces m (Makes from) h fill grows t n u e = by (nat_eq t.0 (spaces.last + 1)) refl
  where
    by : (b : Bool) → nat_eq t.0 (spaces.last + 1) ≡ b → kinds_of t (heads_by (Makes from) (heads_of spaces)) ≡ kinds_of t (heads_of spaces)
    by false apart =
        ap (λ (o : Option Head). shaped_kinds (unwrap_or o no_head).shape)
        (pushed_other (nat_eq t.0) (heads_of spaces).live (spaces.last + 1) (head_from from (heads_of spaces)) apart)
    by true here =
        let number = eqb-true t.0 (spaces.last + 1) here in
        let none = none_above t.0 0 (heads_of spaces).live spaces.last h.given.rise (omega (arith, number)) in
        absurd (no_kinds (kinds_of t (heads_of spaces)) n u (ap (λ (o : Option Head). shaped_kinds (unwrap_or o no_head).shape) none) e)
still_there P spaces m (Fills s shape) h fill grows t n u e = by (t.0 == s.0) refl
  where
    by : (b : Bool) → (t.0 == s.0) ≡ b → kinds_of t (heads_by (Fills s shape) (heads_of spaces)) ≡ kinds_of t (heads_of spaces)
    by false apart =
        ap (λ (o : Option Head). shaped_kinds (unwrap_or o no_head).shape)
        (other_put (nat_eq t.0) (nat_eq s.0) (heads_of spaces).live _ (numbers_apart t s apart))
    by true is =
        let number : t ≡ s = ap (λ (n : ℕ). record { 0 = n }) (eqb-true t.0 s.0 is) in
        let none = ap (λ (t : SpaceNo). kinds_of t (heads_of spaces)) number ∙ kinds_same s spaces ∙ ap shaped_kinds fill.0 in
        absurd (no_kinds (kinds_of t (heads_of spaces)) n u none e)
still_there P spaces m (Gets content) h fill grows t n u e = absurd grows
still_there P spaces m (Forgets s) h fill grows t n u e = absurd grows
still_there P spaces m (SetsKind s z) h fill grows t n u e = absurd grows
still_there P spaces m (Names name s) h fill grows t n u e = absurd grows
still_there P spaces m (Unnames name) h fill grows t n u e = absurd grows

pub found_then : (P : List Kind) (k : Kind) (L : Uses) (w : World) (m : Mem) (change : SpaceChange) (x : Place) → Keeps P L w m
    → CanFill change w.spaces → Grows change → IsFound P (k ∷ []) L w x → IsFound P (k ∷ []) L (changed_by (change ∷ []) w) x
found_then P k L w m change x h fill grows is = (by x.area x.variable is.0, tt)
  where
    by : (area : Area) (n : ℕ) → slice_get (uses_in P L (heads_of w.spaces) area) n ≡ Some (OfValue k)
        → slice_get (uses_in P L (heads_of (spaces_by change w.spaces)) area) n ≡ Some (OfValue k)
    by areas.Run n e = e
    by areas.Packets n e = e
    by (areas.Space t) n e =
        ap (λ (heads : Heads). slice_get (map OfValue (kinds_of t heads)) n) (by_same change w.spaces)
        ∙ ap (λ (ks : List Kind). slice_get (map OfValue ks) n) (still_there P w.spaces m change h.spaces fill grows t n (OfValue k) e) ∙ e

-- nothing is known of the cells of a space in which nothing stands
pub unknown_there : (P : List Kind) (s : SpaceNo) (spaces : Spaces) (m : Mem) (count : ℕ) → KeepsSpaces P spaces m → (the_space s spaces).shape ≡ None
    → are_unknown (areas.Space s) 0 count m.cells ≡ true
unknown_there P s spaces m count h empty = by 0 count
  where
    free : (x : ℕ) → m.cells (space_cell s x) ≡ Free
    free x =
        (subst (λ (o : Option Shape). KeepsIn (areas.Space s) P (map OfValue (shaped_kinds o)) (map Holds (values_of s spaces)) m.cells) empty
        (as_space P s spaces m.cells (h.each s))).beyond x (omega arith)

    by : (at count : ℕ) → are_unknown (areas.Space s) at count m.cells ≡ true
    by at zero = refl
    by at (suc count) = ap (λ (c : Cell). is_free c && are_unknown (areas.Space s) (suc at) count m.cells) (free at) ∙ by (suc at) count

pub forgets_can : (o : Option SpaceNo) (heads : Heads) (spaces : Spaces) → CanAll (forgetting o heads) spaces
forgets_can None heads spaces = tt
forgets_can (Some s) heads spaces = by (is_live s heads)
  where
    by : (b : Bool) → CanAll (if b then Forgets s ∷ [] else []) spaces
    by true = (tt, tt)
    by false = tt
