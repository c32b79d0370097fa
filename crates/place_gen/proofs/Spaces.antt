-- What is known of data spaces, and how it changes when a value is stored in one and when spaces come, change and go.
use Rattle.std.proofs.Common.{◌≡◌, ℕ, zero, suc, ◌+◌, ◌<◌, ◌≤◌, List, [], ◌∷◌, ◌++◌, map, length, Option, Some, None, Bool, true, false, cond, nat_eq}
use Rattle.std.proofs.Common.{◌&&◌, refl, sym, ap, ◌∙◌, subst, arith, ⊎_elim, eqb-true, eq-eqb}
use Rattle.std.specs.Prelude.{◌==◌, slice_get, slice_set, option_map, is_some}
use Rattle.std.specs.List.{AllByRecursion}
use Rattle.std.specs.Map.{lookup, remove_entry, set_value}
use Rattle.std.specs.Option.{unwrap_or}
use Rattle.std.proofs.lemmas.List.{length-map, map-set}
use Rattle.std.proofs.lemmas.Option.{slice_get-map}
use Rattle.std.proofs.lemmas.Bool.Decides.{eqb_tells}
use Rattle.eu_base.specs.declared.address.TheConstants.{CELLS}
use Rattle.eu_base.specs.declared.address.Area.{Area}
use Rattle.eu_base.specs.declared.address.Area.TheVariants as areas
use Rattle.eu_base.specs.declared.value.Kind.{Kind}
use Rattle.eu_base.specs.declared.value.Value.{Value}
use Rattle.eu_base.specs.declared.shape.Shape.{Shape}
use Rattle.eu_base.specs.Shapes.{cell_kinds}
use Rattle.eu_base.specs.Values.{SpaceNo, IsOf, blank_of}
use Rattle.eu_base.specs.Cells.{Cell, Free, Cells, held_of, area_cell, space_cell, same_area, written}
use Rattle.eu_base.specs.DataSpaces.{Space, Spaces, Head, Heads, heads_of, heads_in, head_of, no_space, no_head, the_space, the_head, with_other, living}
use Rattle.eu_base.specs.SpacePlaces.{kinds_of, values_of, with_values, shaped_kinds}
use Rattle.eu_base.specs.SoundSpaces as sound
use Rattle.eu_base.specs.SoundSpaces.{IsSpace, AreSpaces}
use Rattle.eu_base.proofs.Heads.{set_head, head_same}
use Rattle.eu_base.proofs.SoundSpaces.{space_sound}
use Rattle.code_form.specs.Machine.{Mem, with_cells, written_all}
use Rattle.elan_types.specs.Eval.{Slot, Holds, World, Place, assign, stored_from, values_from, stored_in_space}
use Rattle.place_gen.specs.Correct.{addr_of, AreGiven}
use Rattle.place_gen.proofs.Cells.{Uses, OfValue, fit_at, KeepsIn, Keeps, KeepsSpaces, area_stays, packets_stay, command_stays, spaces_stay, room_in}
use Rattle.place_gen.proofs.Spans.{AreOf, AreIn, IsFound, writes_there, beside_area}

-- ---- what lives under numbers

-- what was found and is put back changes nothing
put_back : {T : Type 0} (test : ℕ → Bool) (live : List (ℕ × T)) (none : T) → set_value test live (unwrap_or (lookup test live) none) ≡ live
put_back test [] none = refl
put_back {T} test (e ∷ live) none = by (test e.0) (put_back test live none)
  where
    by : (b : Bool) → set_value test live (unwrap_or (lookup test live) none) ≡ live
        → cond b ((e.0, unwrap_or (cond b (Some e.1) (lookup test live)) none) ∷ live)
        (e ∷ set_value test live (unwrap_or (cond b (Some e.1) (lookup test live)) none)) ≡ e ∷ live
    by true rest = refl
    by false rest = ap (λ (l : List (ℕ × T)). e ∷ l) rest

pub numbers_apart : (t s : SpaceNo) → (t.0 == s.0) ≡ false → (n : ℕ) → nat_eq s.0 n ≡ true → nat_eq t.0 n ≡ false
numbers_apart t s apart n is = by (nat_eq t.0 n) refl
  where
    by : (b : Bool) → nat_eq t.0 n ≡ b → b ≡ false
    by false e = refl
    by true e =
        let same : t.0 ≡ s.0 = eqb-true t.0 n e ∙ sym (eqb-true s.0 n is) in
        sym (eq-eqb t.0 s.0 same) ∙ apart

-- another one is found as before, where one is put in the place of another, and where one goes
pub other_put : {T : Type 0} (test other : ℕ → Bool) (live : List (ℕ × T)) (w : T) → ((n : ℕ) → other n ≡ true → test n ≡ false)
    → lookup test (set_value other live w) ≡ lookup test live
other_put test other [] w apart = refl
other_put {T} test other (e ∷ live) w apart = by (other e.0) refl (other_put test other live w apart)
  where
    by : (b : Bool) → other e.0 ≡ b → lookup test (set_value other live w) ≡ lookup test live
        → lookup test (cond b ((e.0, w) ∷ live) (e ∷ set_value other live w)) ≡ lookup test (e ∷ live)
    by true is rest =
        let other_one = apart e.0 is in
        ap (λ (b : Bool). cond b (Some w) (lookup test live)) other_one ∙ sym (ap (λ (b : Bool). cond b (Some e.1) (lookup test live)) other_one)
    by false is rest = ap (λ (o : Option T). cond (test e.0) (Some e.1) o) rest

pub other_gone : {T : Type 0} (test other : ℕ → Bool) (live : List (ℕ × T)) → ((n : ℕ) → other n ≡ true → test n ≡ false)
    → lookup test (remove_entry other live) ≡ lookup test live
other_gone test other [] apart = refl
other_gone {T} test other (e ∷ live) apart = by (other e.0) refl (other_gone test other live apart)
  where
    by : (b : Bool) → other e.0 ≡ b → lookup test (remove_entry other live) ≡ lookup test live
        → lookup test (cond b live (e ∷ remove_entry other live)) ≡ lookup test (e ∷ live)
    by true is rest = sym (ap (λ (b : Bool). cond b (Some e.1) (lookup test live)) (apart e.0 is))
    by false is rest = ap (λ (o : Option T). cond (test e.0) (Some e.1) o) rest

-- and it itself is the new one, where there was one
pub put_there : {T : Type 0} (test : ℕ → Bool) (live : List (ℕ × T)) (w : T) → lookup test (set_value test live w) ≡ option_map (λ _. w) (lookup test live)
put_there test [] w = refl
put_there {T} test (e ∷ live) w = by (test e.0) refl (put_there test live w)
  where
    by : (b : Bool) → test e.0 ≡ b → lookup test (set_value test live w) ≡ option_map (λ _. w) (lookup test live)
        → lookup test (cond b ((e.0, w) ∷ live) (e ∷ set_value test live w)) ≡ option_map (λ _. w) (cond b (Some e.1) (lookup test live))
    by true is rest = ap (λ (b : Bool). cond b (Some w) (lookup test live)) is
    by false is rest = ap (λ (b : Bool). cond b (Some e.1) (lookup test (set_value test live w))) is ∙ rest

-- ---- the cells of one space

-- its cells hold its values
abbrev pub KeepsSpace : List Kind → SpaceNo → Space → Cells → Type 0
KeepsSpace P s space cells = KeepsIn (areas.Space s) P (map OfValue (shaped_kinds space.shape)) (map Holds space.values) cells

pub kinds_same : (s : SpaceNo) (spaces : Spaces) → kinds_of s (heads_of spaces) ≡ shaped_kinds (the_space s spaces).shape
kinds_same s spaces = ap (λ (h : Head). shaped_kinds h.shape) (head_same s spaces)

pub as_space : (P : List Kind) (s : SpaceNo) (spaces : Spaces) (cells : Cells)
    → KeepsIn (areas.Space s) P (map OfValue (kinds_of s (heads_of spaces))) (map Holds (values_of s spaces)) cells → KeepsSpace P s (the_space s spaces) cells
as_space P s spaces cells h =
    subst (λ (ks : List Kind). KeepsIn (areas.Space s) P (map OfValue ks) (map Holds (values_of s spaces)) cells) (kinds_same s spaces) h

pub of_space : (P : List Kind) (s : SpaceNo) (spaces : Spaces) (cells : Cells) → KeepsSpace P s (the_space s spaces) cells
    → KeepsIn (areas.Space s) P (map OfValue (kinds_of s (heads_of spaces))) (map Holds (values_of s spaces)) cells
of_space P s spaces cells h =
    subst (λ (ks : List Kind). KeepsIn (areas.Space s) P (map OfValue ks) (map Holds (values_of s spaces)) cells) (sym (kinds_same s spaces)) h

-- ---- a value is stored

holds_from : (x : ℕ) (vs us : List Value) → map Holds (values_from x vs us) ≡ stored_from x vs (map Holds us)
holds_from x [] us = refl
holds_from x (v ∷ vs) us = holds_from (x + 1) vs (slice_set us x v) ∙ ap (stored_from (x + 1) vs) (map-set Holds us x v)

-- each value is still of its kind
set_of : (k : Kind) (v : Value) (ks : List Kind) (us : List Value) (x : ℕ) → sound.AreOf ks us → slice_get ks x ≡ Some k → IsOf k v
    → sound.AreOf ks (slice_set us x v)
set_of k v [] us x sound.none e ok = let f : ⊥ = cc in absurd f
set_of k v (j ∷ ks) [] x is e ok = elim is [ ]
set_of k v (j ∷ ks) (u ∷ us) zero (sound.one is all) e ok = let same : k ≡ j = cc in sound.one (subst (λ (k : Kind). IsOf k v) same ok) all
set_of k v (j ∷ ks) (u ∷ us) (suc x) (sound.one is all) e ok = sound.one is (set_of k v ks us x all e ok)

kind_there : (ks : List Kind) (x : ℕ) (k : Kind) → slice_get (map OfValue ks) x ≡ Some (OfValue k) → slice_get ks x ≡ Some k
kind_there [] x k e = let f : ⊥ = cc in absurd f
kind_there (j ∷ ks) zero k e = cc
kind_there (j ∷ ks) (suc x) k e = kind_there ks x k e

stored_of : (all : List Kind) (us : List Value) (ks : List Kind) (vs : List Value) (x : ℕ) → sound.AreOf all us → AreIn ks (map OfValue all) x → AreOf ks vs
    → sound.AreOf all (values_from x vs us)
stored_of all us [] [] x is at ok = is
stored_of all us [] (v ∷ vs) x is at ok = absurd ok
stored_of all us (k ∷ ks) [] x is at ok = absurd ok
stored_of all us (k ∷ ks) (v ∷ vs) x is at ok =
    stored_of all (slice_set us x v) ks vs (x + 1) (set_of k v all us x is (kind_there all x k at.0) ok.0) at.1 ok.1

all_put : (test : ℕ → Bool) (live : List (ℕ × Space)) (w : Space) → AllByRecursion (λ e. IsSpace e.1) live → IsSpace w
    → AllByRecursion (λ e. IsSpace e.1) (set_value test live w)
all_put test [] w all here = tt
all_put test (e ∷ live) w all here = by (test e.0) (all_put test live w all.1 here)
  where
    by : (b : Bool) → AllByRecursion (λ e. IsSpace e.1) (set_value test live w)
        → AllByRecursion (λ e. IsSpace e.1) (cond b ((e.0, w) ∷ live) (e ∷ set_value test live w))
    by true rest = (here, all.1)
    by false rest = (all.0, rest)

-- what is said of the spaces without their values is the same
heads_stay : (s : SpaceNo) (vs : List Value) (spaces : Spaces) → heads_of (with_values s vs spaces) ≡ heads_of spaces
heads_stay s vs spaces =
    let with_live = λ (live : List (ℕ × Head)). record (heads_of spaces) { live = live } in
    ap with_live
    (set_head head_of (nat_eq s.0) spaces.live (record (the_space s spaces) { values = vs })
    ∙ ap (set_value (nat_eq s.0) (heads_in head_of spaces.live)) (sym (head_same s spaces))
    ∙ put_back (nat_eq s.0) (heads_in head_of spaces.live) no_head)

-- the values of a space whose values are others; where none lives, there are none
values_put : (s : SpaceNo) (vs : List Value) (spaces : Spaces)
    → (the_space s (with_values s vs spaces)).values ≡ cond (is_some (living s spaces)) vs []
values_put s vs spaces =
    ap (λ (o : Option Space). (unwrap_or o no_space).values) (put_there (nat_eq s.0) spaces.live (record (the_space s spaces) { values = vs })) ∙ by (living s spaces)
  where
    by : (o : Option Space) → (unwrap_or (option_map (λ _. record (the_space s spaces) { values = vs }) o) no_space).values ≡ cond (is_some o) vs []
    by None = refl
    by (Some space) = refl

-- of a space that does not live nothing is stored
nothing_stored : (P : List Kind) (ks : List Kind) (vs : List Value) (s : SpaceNo) (n : ℕ) (spaces : Spaces)
    → AreIn ks (map OfValue (kinds_of s (heads_of spaces))) n → AreOf ks vs → is_some (living s spaces) ≡ false → vs ≡ []
nothing_stored P [] [] s n spaces at ok none = refl
nothing_stored P [] (v ∷ vs) s n spaces at ok none = absurd ok
nothing_stored P (k ∷ ks) vs s n spaces at ok none =
    let gone_one : living s spaces ≡ None = is_none' (living s spaces) none in
    let empty : kinds_of s (heads_of spaces) ≡ [] =
    kinds_same s spaces ∙ ap (λ (o : Option Space). shaped_kinds (unwrap_or o no_space).shape) gone_one in
    let f = ap (λ (l : List Kind). slice_get (map OfValue l) n) (sym empty) ∙ at.0 in
    let g : ⊥ = nothing n f in absurd g
  where
    is_none' : (o : Option Space) → is_some o ≡ false → o ≡ None
    is_none' None e = refl
    is_none' (Some x) e = absurd (cc e)

    nothing : (n : ℕ) → slice_get [] n ≡ Some (OfValue k) → ⊥
    nothing n e = cc

many_kinds : (ks : List Kind) → length ks ≤ CELLS → length (map OfValue ks) ≤ CELLS
many_kinds ks fit = omega (arith, fit, length-map ks OfValue)

-- the spaces after a value was stored in one
pub space_written : (P : List Kind) (ks : List Kind) (vs : List Value) (s : SpaceNo) (n : ℕ) (spaces : Spaces) (m : Mem) → KeepsSpaces P spaces m
    → AreIn ks (map OfValue (kinds_of s (heads_of spaces))) n → AreOf ks vs
    → KeepsSpaces P (stored_in_space (areas.Space s) n vs spaces) (with_cells (written_all m.cells (space_cell s n) vs) m)
space_written P ks vs s n spaces m h at ok =
    let us = values_from n vs (values_of s spaces) in
    let now = written_all m.cells (space_cell s n) vs in
    let same = heads_stay s us spaces in
    let old = space_sound s spaces h.sound in
    let kinds = kinds_same s spaces in
    record {
      heads = h.heads ∙ sym same;
      sound = record {
        each = all_put (nat_eq s.0) spaces.live (record (the_space s spaces) { values = us }) h.sound.each (record {
          kind = old.kind;
          values =
              stored_of (shaped_kinds (the_space s spaces).shape) (values_of s spaces) ks vs n (shapes_alike (the_space s spaces).shape old.values)
              (subst (λ (l : List Kind). AreIn ks (map OfValue l) n) kinds at) ok;
        });
        given = h.sound.given;
        named = h.sound.named;
      };
      given = subst AreGiven (sym same) h.given;
      each = λ t.
          subst (λ (l : List Kind). KeepsIn (areas.Space t) P (map OfValue l) (map Holds (values_of t (with_values s us spaces))) now)
          (ap (kinds_of t) (sym same)) (one t (t.0 == s.0) refl);
    }
  where
    shapes_alike : (o : Option Shape) → {vs : List Value} → sound.AreOf (sound.shape_kinds o) vs → sound.AreOf (shaped_kinds o) vs
    shapes_alike None is = is
    shapes_alike (Some shape) is = is

    one : (t : SpaceNo) (b : Bool) → (t.0 == s.0) ≡ b
        → KeepsIn (areas.Space t) P (map OfValue (kinds_of t (heads_of spaces)))
        (map Holds (values_of t (with_values s (values_from n vs (values_of s spaces)) spaces))) (written_all m.cells (space_cell s n) vs)
    one t false apart =
        let us = values_from n vs (values_of s spaces) in
        let now = written_all m.cells (space_cell s n) vs in
        let same : the_space t (with_values s us spaces) ≡ the_space t spaces =
        ap (λ (o : Option Space). unwrap_or o no_space)
        (other_put (nat_eq t.0) (nat_eq s.0) spaces.live (record (the_space s spaces) { values = us }) (numbers_apart t s apart)) in
        subst (λ (x : Space). KeepsIn (areas.Space t) P (map OfValue (kinds_of t (heads_of spaces))) (map Holds x.values) now) (sym same)
        (area_stays (areas.Space t) P (map OfValue (kinds_of t (heads_of spaces))) (map Holds (values_of t spaces)) m.cells now
        (λ y. beside_area (areas.Space s) (areas.Space t) vs n y m.cells apart) (h.each t))
    one t true is =
        let number : t ≡ s = ap (λ (n : ℕ). record { 0 = n }) (eqb-true t.0 s.0 is) in
        subst (λ (t : SpaceNo). KeepsIn (areas.Space t) P (map OfValue (kinds_of t (heads_of spaces)))
        (map Holds (values_of t (with_values s (values_from n vs (values_of s spaces)) spaces))) (written_all m.cells (space_cell s n) vs)) (sym number)
        (own (is_some (living s spaces)) refl)
      where
        own : (b : Bool) → is_some (living s spaces) ≡ b
            → KeepsIn (areas.Space s) P (map OfValue (kinds_of s (heads_of spaces)))
            (map Holds (values_of s (with_values s (values_from n vs (values_of s spaces)) spaces))) (written_all m.cells (space_cell s n) vs)
        own true live =
            let us = values_from n vs (values_of s spaces) in
            let put : values_of s (with_values s us spaces) ≡ us =
            values_put s us spaces ∙ ap (λ (b : Bool). cond b us []) live in
            subst (λ (l : List Slot). KeepsIn (areas.Space s) P (map OfValue (kinds_of s (heads_of spaces))) l (written_all m.cells (space_cell s n) vs))
            (sym (holds_from n vs (values_of s spaces)) ∙ ap (map Holds) (sym put))
            (writes_there (areas.Space s) P ks vs (map OfValue (kinds_of s (heads_of spaces))) (map Holds (values_of s spaces)) m.cells n
            (many_kinds (kinds_of s (heads_of spaces)) (fit_at s (heads_of spaces) h.given)) (h.each s) at ok)
        own false none =
            let empty : vs ≡ [] = nothing_stored P ks vs s n spaces at ok none in
            subst (λ (vs : List Value). KeepsIn (areas.Space s) P (map OfValue (kinds_of s (heads_of spaces)))
            (map Holds (values_of s (with_values s (values_from n vs (values_of s spaces)) spaces))) (written_all m.cells (space_cell s n) vs)) (sym empty)
            (subst (λ (l : List Value). KeepsIn (areas.Space s) P (map OfValue (kinds_of s (heads_of spaces))) (map Holds l) m.cells)
            (no_values ∙ sym (values_put s (values_of s spaces) spaces ∙ ap (λ (b : Bool). cond b (values_of s spaces) []) none)) (h.each s))
          where
            no_values : values_of s spaces ≡ []
            no_values = of_none (living s spaces) none
              where
                of_none : (o : Option Space) → is_some o ≡ false → (unwrap_or o no_space).values ≡ []
                of_none None e = refl
                of_none (Some x) e = absurd (cc e)

-- a value of these kinds is written to a place where a look found such cells
pub writes_all : (P : List Kind) (ks : List Kind) (vs : List Value) (L : Uses) (w : World) (m : Mem) (x : Place) → length P ≤ CELLS → length L ≤ CELLS
    → Keeps P L w m → IsFound P ks L w x → AreOf ks vs → Keeps P L (assign x vs w) (with_cells (written_all m.cells (addr_of x) vs) m)
writes_all P ks vs L w m x few room h at ok = by x.area x.variable at
  where
    by : (area : Area) (n : ℕ) → IsFound P ks L w (record { area = area; variable = n })
        → Keeps P L (assign (record { area = area; variable = n }) vs w) (with_cells (written_all m.cells (area_cell area n) vs) m)
    by areas.Run n at_n =
        let now = written_all m.cells (area_cell areas.Run n) vs in record {
          command = writes_there areas.Run P ks vs L w.store m.cells n room h.command at_n ok;
          packets = packets_stay P (map OfValue P) w.packets m.cells now (λ y. beside_area areas.Run areas.Packets vs n y m.cells refl) h.packets;
          spaces = spaces_stay P w.spaces m now (λ s y. beside_area areas.Run (areas.Space s) vs n y m.cells refl) h.spaces;
          answers = h.answers;
        }
    by areas.Packets n at_n =
        let now = written_all m.cells (area_cell areas.Packets n) vs in record {
          command = command_stays P L w.store m.cells now (λ y. beside_area areas.Packets areas.Run vs n y m.cells refl) h.command;
          packets = writes_there areas.Packets P ks vs (map OfValue P) w.packets m.cells n (room_in areas.Packets P L w m few room h) h.packets at_n ok;
          spaces = spaces_stay P w.spaces m now (λ s y. beside_area areas.Packets (areas.Space s) vs n y m.cells refl) h.spaces;
          answers = h.answers;
        }
    by (areas.Space s) n at_n =
        let now = written_all m.cells (space_cell s n) vs in record {
          command = command_stays P L w.store m.cells now (λ y. beside_area (areas.Space s) areas.Run vs n y m.cells refl) h.command;
          packets = packets_stay P (map OfValue P) w.packets m.cells now (λ y. beside_area (areas.Space s) areas.Packets vs n y m.cells refl) h.packets;
          spaces = space_written P ks vs s n w.spaces m h.spaces at_n ok;
          answers = h.answers;
        }
