-- A memory that has data spaces, after one came, got a name, or went.
use Rattle.std.proofs.Common.{◌≡◌, ℕ, zero, suc, ◌+◌, ◌<◌, ◌≤◌, Bool, true, false, cond, nat_eq, List, [], ◌∷◌, ◌++◌, map, length, Option, Some, None, refl, sym, ap, ◌∙◌, subst, arith, eqb-true}
use Rattle.std.specs.Prelude.{◌==◌, slice_get, option_map}
use Rattle.std.specs.List.{AllByRecursion}
use Rattle.std.specs.Map.{lookup}
use Rattle.std.specs.Option.{unwrap_or}
use Rattle.std.proofs.lemmas.List.{length-map}
use Rattle.std.proofs.lemmas.Option.{slice_get-map, slice_get_past}
use Rattle.task_texts.specs.Below.task_numbers.specs.declared.number.SpaceNo.{SpaceNo}
use Rattle.eu_base.specs.declared.address.TheConstants.{CELLS}
use Rattle.eu_base.specs.declared.address.Area.{Area}
use Rattle.eu_base.specs.declared.address.Area.TheVariants.{Run, Packets}
use Rattle.eu_base.specs.declared.address.Area.TheVariants as areas
use Rattle.eu_base.specs.declared.value.Kind.{Kind}
use Rattle.eu_base.specs.declared.value.Value.{Value}
use Rattle.eu_base.specs.declared.shape.Shape.{Shape}
use Rattle.eu_base.specs.Values.{IsOf}
use Rattle.eu_base.specs.Cells.{Free, Cells, area_cell, space_cell, same_area}
use Rattle.eu_base.specs.DataSpaces.{Space, Spaces, Head, Heads, heads_of, head_of, no_space, the_space, last_number, Forgets, Names, heads_by}
use Rattle.eu_base.specs.DataSpaces as data_spaces
use Rattle.eu_base.specs.SpaceCells.{with_area}
use Rattle.eu_base.specs.SpacePlaces.{kinds_of, values_of, shaped_kinds}
use Rattle.eu_base.specs.SoundSpaces.{AreOf, none, one, shape_kinds, IsSpace}
use Rattle.eu_base.proofs.Heads.{append_heads, by_same}
use Rattle.eu_base.proofs.Places.{same_area_self}
use Rattle.eu_base.proofs.SoundSpaces.{change_sound}
use Rattle.page_pool.specs.Pool.{Pages}
use Rattle.task_texts.specs.Below.text_heap.specs.Held.{HoldsCells}
use Rattle.task_texts.specs.Below.data_space.specs.Data.{SpaceData}
use Rattle.task_texts.specs.Below.space_memory.specs.Live as live_spaces
use Rattle.task_texts.specs.Below.space_memory.specs.Live.{space_at}
use Rattle.task_texts.specs.Below.space_names.specs.Directory as directory
use Rattle.task_texts.specs.Below.space_memory.specs.Memories.{MemoryData, roots, memory_heads, with_new, forgotten}
use Rattle.task_texts.specs.Below.space_memory.specs.Memories as memories
use Rattle.task_texts.specs.Below.space_memory.proofs.Changed.{forgot_heads, forgot_held, named_still}
use Rattle.task_texts.specs.Below.space_memory.proofs.Given.{given_held}
use Rattle.elan_types.specs.Eval.{Slot, Holds}
use Rattle.task_texts.specs.Below.place_gen.specs.Correct.{StandsFor, HasVariables, AreGiven}
use Rattle.task_texts.specs.Below.place_gen.proofs.Spaces.{numbers_apart, other_gone, kinds_same}
use Rattle.task_texts.specs.Below.source_texts.specs.Spaces.{held, cells_of}
use Rattle.task_texts.specs.Below.task_job.specs.Here.{here, content_at, KeepsBytes, HoldsAll, HoldsSpace}
use Rattle.task_texts.specs.Below.system_meaning.specs.Stores.{Store}
use Rattle.task_texts.specs.Below.task_job.specs.Standing.{KeepsSpaces, Keeps}
use Rattle.task_texts.specs.Below.task_job.proofs.Beginning.{same_variables, no_variables}
use Rattle.task_texts.proofs.Numbers.{pushed_other, pushed_here, none_next, none_again, rises_push, rises_gone, fit_push, fit_gone}

-- ---- the cells of one space hold its values

abbrev Stored : SpaceNo → Space → Cells → Type 0
Stored t space cells = HasVariables (areas.Space t) (shaped_kinds space.shape) (map Holds space.values) cells

stored_in : (t : SpaceNo) (spaces : Spaces) (cells : Cells) → HasVariables (areas.Space t) (kinds_of t (heads_of spaces)) (map Holds (values_of t spaces)) cells
    → Stored t (the_space t spaces) cells
stored_in t spaces cells h =
    subst (λ (ks : List Kind). HasVariables (areas.Space t) ks (map Holds (values_of t spaces)) cells) (kinds_same t spaces) h

in_spaces : (t : SpaceNo) (spaces : Spaces) (space : Space) (cells : Cells) → the_space t spaces ≡ space → Stored t space cells
    → HasVariables (areas.Space t) (kinds_of t (heads_of spaces)) (map Holds (values_of t spaces)) cells
in_spaces t spaces space cells is h =
    subst (λ (ks : List Kind). HasVariables (areas.Space t) ks (map Holds (values_of t spaces)) cells) (sym (kinds_same t spaces))
    (subst (λ (x : Space). Stored t x cells) (sym is) h)

-- so it is where the cells are the same
still_stored : (t : SpaceNo) (space : Space) (cells now : Cells) → ((x : ℕ) → now (space_cell t x) ≡ cells (space_cell t x)) → Stored t space cells
    → Stored t space now
still_stored t space cells now same h = same_variables (areas.Space t) (shaped_kinds space.shape) (map Holds space.values) cells now same h

-- ---- a space goes

module _ (spaces : Spaces) (m : MemoryData) (cells : Cells) (h : KeepsSpaces m spaces cells) where
  pub given_there : AreGiven (memory_heads m)
  given_there = subst AreGiven (sym h.heads) h.given

  module _ (s : SpaceNo) where
    abbrev without : Cells
    without = with_area (areas.Space s) (λ k. Free) cells

    gone_cell : (x : ℕ) → without (space_cell s x) ≡ Free
    gone_cell x = ap (λ (b : Bool). cond b Free (cells (space_cell s x))) (same_area_self (areas.Space s))

    other_cell : (t : SpaceNo) (x : ℕ) → (t.0 == s.0) ≡ false → without (space_cell t x) ≡ cells (space_cell t x)
    other_cell t x apart = ap (λ (b : Bool). cond b Free (cells (space_cell t x))) apart

    left_each : (t : SpaceNo) (b : Bool) → (t.0 == s.0) ≡ b
        → HasVariables (areas.Space t) (kinds_of t (heads_of (data_spaces.without_space s spaces))) (map Holds (values_of t (data_spaces.without_space s spaces))) without
    left_each t false apart =
        in_spaces t (data_spaces.without_space s spaces) (the_space t spaces) without
        (ap (λ (o : Option Space). unwrap_or o no_space) (other_gone (nat_eq t.0) (nat_eq s.0) spaces.live (numbers_apart t s apart)))
        (still_stored t (the_space t spaces) cells without (λ x. other_cell t x apart) (stored_in t spaces cells (h.each t)))
    left_each t true is =
        let number : t ≡ s = ap (λ (n : ℕ). record { 0 = n }) (eqb-true t.0 s.0 is) in
        subst (λ (u : SpaceNo). HasVariables (areas.Space u) (kinds_of u (heads_of (data_spaces.without_space s spaces)))
        (map Holds (values_of u (data_spaces.without_space s spaces))) without) (sym number)
        (in_spaces s (data_spaces.without_space s spaces) no_space without
        (ap (λ (o : Option Space). unwrap_or o no_space) (none_again head_of spaces.live spaces.last h.given.rise s.0))
        (no_variables (areas.Space s) without gone_cell))

    pub spaces_left : KeepsSpaces (forgotten s.0 m) (data_spaces.without_space s spaces) without
    spaces_left = record {
      heads = forgot_heads s m ∙ ap (heads_by (Forgets s)) h.heads ∙ sym (by_same (Forgets s) spaces);
      sound = change_sound (Forgets s) spaces tt h.sound;
      given =
          subst AreGiven (sym (by_same (Forgets s) spaces))
          (record {
            rise = rises_gone (nat_eq s.0) 0 (heads_of spaces).live spaces.last h.given.rise;
            fit = fit_gone (nat_eq s.0) (heads_of spaces).live h.given.fit;
          });
      each = λ t. left_each t (t.0 == s.0) refl;
    }

    pub gone_there : space_at s.0 (live_spaces.without s.0 m.spaces) ≡ None
    gone_there = none_again memories.head_of m.spaces m.last given_there.rise s.0

  -- a space gets a name
  pub spaces_named : (name : List ℕ) (s t : SpaceNo) → s ≡ t → t.0 ≤ last_number
      → KeepsSpaces (record m { names = directory.put name s m.names }) (data_spaces.with_name name t spaces) cells
  spaces_named name s t same low = record {
    heads = ap (λ (u : Heads). data_spaces.with_name name s u) h.heads ∙ ap (λ (u : SpaceNo). data_spaces.with_name name u (heads_of spaces)) same;
    sound = change_sound (Names name t) spaces low h.sound;
    given = record { rise = h.given.rise; fit = h.given.fit };
    each = h.each;
  }

-- ---- values of the kinds of a shape

many_of : {ks : List Kind} {vs : List Value} → AreOf ks vs → length vs ≡ length ks
many_of none = refl
many_of (one is rest) = omega (arith, many_of rest)

value_at : {ks : List Kind} {vs : List Value} (x : ℕ) (k : Kind) → AreOf ks vs → slice_get ks x ≡ Some k
    → (v : Value) × (slice_get (map Holds vs) x ≡ Some (Holds v)) × IsOf k v
value_at x k none e = let f : ⊥ = cc in absurd f
value_at zero k (one {k = j} {v} is rest) e = let same : j ≡ k = cc in (v, refl, subst (λ (i : Kind). IsOf i v) same is)
value_at (suc x) k (one is rest) e = value_at x k rest e

by_shape : (o : Option Shape) (vs : List Value) → AreOf (shape_kinds o) vs → AreOf (shaped_kinds o) vs
by_shape None vs h = h
by_shape (Some shape) vs h = h

-- its values stand in the cells of a space
module _ (t : SpaceNo) (space : Space) (typed : AreOf (shape_kinds space.shape) space.values) (cells : Cells)
    (there : (x : ℕ) → cells (space_cell t x) ≡ held (slice_get space.values x)) where
  stands : (x : ℕ) (o : Option Value) (s : Slot) → slice_get space.values x ≡ o → option_map Holds o ≡ Some s → StandsFor (cells (space_cell t x)) s
  stands x None s e f = let g : ⊥ = cc in absurd g
  stands x (Some v) s e f =
      let same : Holds v ≡ s = cc in subst (λ (s : Slot). StandsFor (cells (space_cell t x)) s) same (there x ∙ ap held e)

  values_stored : Stored t space cells
  values_stored =
      let all = by_shape space.shape space.values typed in
      record {
        as_many = length-map space.values Holds ∙ many_of all;
        each = λ x k e. value_at x k all e;
        image = λ fit x s e. stands x (slice_get space.values x) s refl (sym (slice_get-map Holds space.values x) ∙ e);
        beyond = λ x past. there x ∙ ap held (slice_get_past space.values x (omega (arith, past, many_of all)));
      }

-- ---- a space comes

all_push : {X : Type 0} (P : X → Type 0) (xs : List X) (x : X) → AllByRecursion P xs → P x → AllByRecursion P (xs ++ x ∷ [])
all_push P [] x all here = (here, tt)
all_push P (y ∷ xs) x all here = (all.0, all_push P xs x all.1 here)

module _ (spaces : Spaces) (m : MemoryData) (cells : Cells) (h : KeepsSpaces m spaces cells) (space : Space) (d : SpaceData) where
  abbrev number : SpaceNo
  number = record { 0 = m.last + 1 }

  abbrev mine : Area
  mine = areas.Space number

  abbrev put : Cells
  put = with_area mine (λ k. held (slice_get space.values k)) cells

  number_is : m.last + 1 ≡ spaces.last + 1
  number_is = ap (λ (u : Heads). u.last + 1) h.heads

  put_there : (x : ℕ) → put (space_cell number x) ≡ held (slice_get space.values x)
  put_there x = ap (λ (b : Bool). cond b (held (slice_get space.values x)) (cells (space_cell number x))) (same_area_self mine)

  put_other : (b : Area) (x : ℕ) → same_area b mine ≡ false → put (area_cell b x) ≡ cells (area_cell b x)
  put_other b x apart = ap (λ (c : Bool). cond c (held (slice_get space.values x)) (cells (area_cell b x))) apart

  -- what is known of the cells
  module _ (pages : Pages) where
    abbrev now : MemoryData
    now = with_new d m

    pub new_holds : HoldsCells Run (content_at pages d.root) (cells_of space.values) → HoldsAll pages m cells → HoldsAll pages now put
    new_holds own all =
        given_held (here pages) m d space (none_next memories.head_of m.spaces m.last (given_there spaces m cells h).rise) own cells all

  -- and the spaces
  module _ (is : IsSpace space) (fits : length (shaped_kinds space.shape) ≤ CELLS) (left : m.last < last_number) (head : memories.head_of d ≡ head_of space) where
    new_heads : heads_of (data_spaces.with_new space spaces) ≡ data_spaces.with_new (head_of space) (heads_of spaces)
    new_heads =
        ap (λ (l : List (ℕ × Head)). record (heads_of spaces) { live = l; last = spaces.last + 1 })
        (append_heads head_of spaces.live ((spaces.last + 1, space) ∷ []))

    paged_heads : memory_heads (with_new d m) ≡ data_spaces.with_new (memories.head_of d) (memory_heads m)
    paged_heads =
        ap (λ (l : List (ℕ × Head)). record (memory_heads m) { live = l; last = m.last + 1 })
        (append_heads memories.head_of m.spaces ((m.last + 1, d) ∷ []))

    abbrev living_at : ℕ → Option Space
    living_at n = lookup (nat_eq n) (spaces.live ++ (spaces.last + 1, space) ∷ [])

    new_each : (t : SpaceNo) (b : Bool) → (t.0 == (m.last + 1)) ≡ b
        → HasVariables (areas.Space t) (kinds_of t (heads_of (data_spaces.with_new space spaces))) (map Holds (values_of t (data_spaces.with_new space spaces))) put
    new_each t false apart =
        in_spaces t (data_spaces.with_new space spaces) (the_space t spaces) put
        (ap (λ (o : Option Space). unwrap_or o no_space)
        (pushed_other t.0 (spaces.last + 1) spaces.live space (ap (nat_eq t.0) (sym number_is) ∙ apart)))
        (still_stored t (the_space t spaces) cells put (λ x. put_other (areas.Space t) x apart) (stored_in t spaces cells (h.each t)))
    new_each t true same =
        let is_number : t ≡ number = ap (λ (n : ℕ). record { 0 = n }) (eqb-true t.0 (m.last + 1) same) in
        let here : living_at (m.last + 1) ≡ Some space =
        ap living_at number_is ∙ pushed_here (spaces.last + 1) spaces.live space (none_next head_of spaces.live spaces.last h.given.rise) in
        subst (λ (u : SpaceNo). HasVariables (areas.Space u) (kinds_of u (heads_of (data_spaces.with_new space spaces)))
        (map Holds (values_of u (data_spaces.with_new space spaces))) put) (sym is_number)
        (in_spaces number (data_spaces.with_new space spaces) space put (ap (λ (o : Option Space). unwrap_or o no_space) here)
        (values_stored number space is.values put put_there))

    pub spaces_more : KeepsSpaces (with_new d m) (data_spaces.with_new space spaces) put
    spaces_more = record {
      heads =
          paged_heads ∙ ap (data_spaces.with_new (memories.head_of d)) h.heads ∙ ap (λ (g : Head). data_spaces.with_new g (heads_of spaces)) head ∙ sym new_heads;
      sound =
          record {
            each = all_push (λ (e : ℕ × Space). IsSpace e.1) spaces.live (spaces.last + 1, space) h.sound.each is;
            given = omega (arith, left, number_is);
            named = h.sound.named;
          };
      given =
          subst AreGiven (sym new_heads)
          (record {
            rise = rises_push 0 (heads_of spaces).live spaces.last (head_of space) h.given.rise;
            fit = fit_push (heads_of spaces).live (spaces.last + 1) (head_of space) h.given.fit fits;
          });
      each = λ t. new_each t (t.0 == (m.last + 1)) refl;
    }

-- ---- all that a task keeps

-- a space is forgotten
pub forgets : (kinds : List Kind) (old new : Pages) (m : MemoryData) (store : Store) (s : SpaceNo) → KeepsBytes old new (roots (forgotten s.0 m))
    → Keeps kinds old m store → Keeps kinds new (forgotten s.0 m) (record store { spaces = data_spaces.without_space s store.spaces })
forgets kinds old new m store s k h = record {
  fits = h.fits;
  cells = with_area (areas.Space s) (λ x. Free) h.cells;
  holds = forgot_held (here old) (here new) m (forgotten s.0 m) s refl k (gone_there store.spaces m h.cells h.spaces s) h.cells h.holds;
  packets = same_variables Packets kinds store.variables h.cells (with_area (areas.Space s) (λ x. Free) h.cells) (λ x. refl) h.packets;
  spaces = spaces_left store.spaces m h.cells h.spaces s;
  command = h.command;
}

same_head : (d : SpaceData) (space : Space) → d.kind ≡ space.kind → d.shape ≡ space.shape → memories.head_of d ≡ head_of space
same_head d space kind shape =
    ap (λ k. record { kind = k; shape = d.shape }) kind ∙ ap (λ o. record { kind = space.kind; shape = o }) shape

-- a space comes, under the next number
pub comes : (kinds : List Kind) (pages : Pages) (m : MemoryData) (store : Store) (d : SpaceData) (space : Space) → HoldsSpace pages d space → IsSpace space
    → length (shaped_kinds space.shape) ≤ CELLS → m.last < last_number → Keeps kinds pages m store
    → Keeps kinds pages (with_new d m) (record store { spaces = data_spaces.with_new space store.spaces })
comes kinds pages m store d space own is fits left h = record {
  fits = h.fits;
  cells = put store.spaces m h.cells h.spaces space d;
  holds = new_holds store.spaces m h.cells h.spaces space d pages own.holds h.holds;
  packets = same_variables Packets kinds store.variables h.cells (put store.spaces m h.cells h.spaces space d) (λ x. refl) h.packets;
  spaces =
      spaces_more store.spaces m h.cells h.spaces space d is fits left (same_head d space own.kind own.shape);
  command = h.command;
}

-- a space gets a name
pub gets_name : (kinds : List Kind) (pages : Pages) (m : MemoryData) (store : Store) (name : List ℕ) (s t : SpaceNo) → s ≡ t → t.0 ≤ last_number
    → Keeps kinds pages m store
    → Keeps kinds pages (record m { names = directory.put name s m.names }) (record store { spaces = data_spaces.with_name name t store.spaces })
gets_name kinds pages m store name s t same low h = record {
  fits = h.fits;
  cells = h.cells;
  holds = named_still (here pages) m (directory.put name s m.names) h.cells h.holds;
  packets = h.packets;
  spaces = spaces_named store.spaces m h.cells h.spaces name s t same low;
  command = h.command;
}
