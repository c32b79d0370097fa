-- The cells of what names hold, and where those of a name begin.
use Rattle.std.proofs.Common.{◌≡◌, ℕ, zero, suc, ◌+◌, Bool, true, false, if◌then◌else◌, List, [], ◌∷◌, ◌++◌, map, length, drop, Some, refl}
use Rattle.std.proofs.Common.{sym, ap, subst, ◌∙◌, arith, append_assoc, append-nil}
use Rattle.std.specs.Prelude.{slice_get, flat_map}
use Rattle.std.specs.Str.{bytes_eq}
use Rattle.std.proofs.Math.Seq.{drop-append-add}
use Rattle.std.proofs.lemmas.List.{drop-map, map-append}
use Rattle.std.proofs.lemmas.Grind.{flat_map-append}
use Rattle.eu_base.specs.declared.value.Kind.{Kind}
use Rattle.eu_base.specs.declared.shape.Shape.{Shape}
use Rattle.eu_base.specs.Shapes.{cell_kinds}
use Rattle.elan_types.specs.declared.core_phrase.Access.{Access}
use Rattle.elan_types.specs.declared.core_phrase.Access.TheVariants.{Const}
use Rattle.elan_types.specs.declared.elan_type.Parameter.{Parameter}
use Rattle.elan_types.specs.Types.{shape_in, formal_of}
use Rattle.elan_types.specs.Typing.{Held, OfKind, OfPlace, held_as, cells_of, values_held, place_held, starts}
use Rattle.elan_types.proofs.Sized.{is_sized, is_sized_type, sized_has_cell, begins_self, begins_first, begins_starts}
use Rattle.elan_types.specs.declared.elan_type.ElanType.{ElanType}
use Rattle.eu_base.specs.Room.{cells_fit}
use Rattle.elan_names.specs.declared.entry.Denotes.{Denotes}
use Rattle.elan_names.specs.declared.entry.Denotes.TheVariants as denotes
use Rattle.elan_names.specs.declared.entry.Entry.{Entry}
use Rattle.elan_names.specs.Names.{held, cells_held, first_from, first_named}
use Rattle.elan_scope.specs.Scope.{all_held, types_of}

-- ---- what names hold

-- The content of a data space finds room there.
abbrev pub IsContent : ElanType → Type 0
IsContent t = (is_sized_type t ≡ true) × (cells_fit (length (cell_kinds (shape_in t))) ≡ true)

-- Each part of what is held under a name has a cell, and so has each part of the content for which the name stands.
abbrev pub Sized : Denotes → Type 0
Sized (denotes.Variable t) = is_sized_type t ≡ true
Sized (denotes.Constant t) = is_sized_type t ≡ true
Sized (denotes.Bound t) = IsContent t
Sized (denotes.Parameter q) = is_sized_type q.of ≡ true
Sized denotes.Procedure = Unit {0}
Sized denotes.Refinement = Unit {0}
Sized (denotes.Denoter d) = Unit {0}

abbrev pub AllSized : List Entry → Type 0
AllSized [] = Unit {0}
AllSized (e ∷ es) = Sized e.denotes × AllSized es

-- All are values.
abbrev pub AllConst : List Parameter → Type 0
AllConst [] = Unit {0}
AllConst (q ∷ ps) = (q.access ≡ Const) × AllConst ps

abbrev pub cells_in : List Parameter → List Held
cells_in ps = flat_map (λ p. cells_of (formal_of p)) ps

abbrev pub held_cells : List Entry → List Held
held_cells es = flat_map cells_of (map formal_of (all_held es))

cells_each : (ps : List Parameter) → flat_map cells_of (map formal_of ps) ≡ cells_in ps
cells_each [] = refl
cells_each (q ∷ ps) = ap (λ (hs : List Held). cells_of (formal_of q) ++ hs) (cells_each ps)

held_more : (d : Entry) (es : List Entry) → held_cells (d ∷ es) ≡ cells_in (held d.denotes) ++ held_cells es
held_more d es =
    cells_each (held d.denotes ++ all_held es) ∙ flat_map-append (λ p. cells_of (formal_of p)) (held d.denotes) (all_held es)
    ∙ ap (λ (hs : List Held). cells_in (held d.denotes) ++ hs) (sym (cells_each (all_held es)))

-- ---- a name that is found

-- From this number on stand the cells of these.
abbrev pub HeldAt : List Parameter → List Held → ℕ → Type 0
HeldAt ps hs n = (rest : List Held) × (drop n hs ≡ cells_in ps ++ rest)

held_behind : (ps : List Parameter) (hs js : List Held) (n : ℕ) → HeldAt ps js n → HeldAt ps (hs ++ js) (length hs + n)
held_behind ps hs js n h = (h.0, drop-append-add hs js n ∙ h.1)

-- where more is held behind
module _ (js : List Held) where
  abbrev FoundAt : List Entry → ℕ → ℕ → Entry → Type 0
  FoundAt es k n d = (i : ℕ) × (n ≡ k + i) × HeldAt (held d.denotes) (held_cells es ++ js) i

  more_behind : (d : Entry) (es : List Entry) → held_cells (d ∷ es) ++ js ≡ cells_in (held d.denotes) ++ (held_cells es ++ js)
  more_behind d es = ap (λ (hs : List Held). hs ++ js) (held_more d es) ∙ append_assoc (cells_in (held d.denotes)) (held_cells es) js

  found_from : (k : ℕ) (es : List Entry) (x : List ℕ) (f : ℕ × Entry) → first_from k es x ≡ Some f → FoundAt es k f.0 f.1
  found_from k [] x f e = absurd cc
  found_from k (d ∷ es) x f e = by_name (found_from (k + cells_held d.denotes) es x f) (bytes_eq d.name x) e
    where
      by_name : (first_from (k + cells_held d.denotes) es x ≡ Some f → FoundAt es (k + cells_held d.denotes) f.0 f.1) → (b : Bool)
          → (if b then Some (k, d) else first_from (k + cells_held d.denotes) es x) ≡ Some f → FoundAt (d ∷ es) k f.0 f.1
      by_name rest true h =
          let g : (k, d) ≡ f = cc in (
            0,
            (let i : f.0 ≡ k = sym (ap (λ (q : ℕ × Entry). q.0) g) in omega arith),
            subst (λ (q : ℕ × Entry). HeldAt (held q.1.denotes) (held_cells (d ∷ es) ++ js) 0) g (held_cells es ++ js, more_behind d es),
          )
      by_name rest false h =
          let g = rest h in
          let c = cells_held d.denotes in (
            c + g.0,
            (let i = g.1 in omega arith),
            subst (λ (hs : List Held). HeldAt (held f.1.denotes) hs (c + g.0)) (sym (more_behind d es))
                (held_behind (held f.1.denotes) (cells_in (held d.denotes)) (held_cells es ++ js) g.0 g.2),
          )

  -- The cells of what is held under a name begin at the number that is found for it.
  pub found_held : (es : List Entry) (x : List ℕ) (f : ℕ × Entry) → first_named es x ≡ Some f → HeldAt (held f.1.denotes) (held_cells es ++ js) f.0
  found_held es x f e =
      let h = found_from 0 es x f e in
      let i : f.0 ≡ h.0 = (let j = h.1 in omega arith) in
      subst (λ (n : ℕ). HeldAt (held f.1.denotes) (held_cells es ++ js) n) (sym i) h.2

sized_from : (k : ℕ) (es : List Entry) (x : List ℕ) (f : ℕ × Entry) → AllSized es → first_from k es x ≡ Some f → Sized f.1.denotes
sized_from k [] x f z e = absurd cc
sized_from k (d ∷ es) x f z e = by_name (sized_from (k + cells_held d.denotes) es x f z.1) (bytes_eq d.name x) e
  where
    by_name : (first_from (k + cells_held d.denotes) es x ≡ Some f → Sized f.1.denotes) → (b : Bool)
        → (if b then Some (k, d) else first_from (k + cells_held d.denotes) es x) ≡ Some f → Sized f.1.denotes
    by_name rest true h = let g : (k, d) ≡ f = cc in subst (λ (q : ℕ × Entry). Sized q.1.denotes) g z.0
    by_name rest false h = rest h

pub found_sized : (es : List Entry) (x : List ℕ) (f : ℕ × Entry) → AllSized es → first_named es x ≡ Some f → Sized f.1.denotes
found_sized es x f z e = sized_from 0 es x f z e

-- the first of what is held
pub held_first : (q : Parameter) (ps : List Parameter) (hs : List Held) (n : ℕ) → HeldAt (q ∷ ps) hs n
    → (rest : List Held) × (drop n hs ≡ cells_of (formal_of q) ++ rest)
held_first q ps hs n h = (cells_in ps ++ h.0, h.1 ∙ append_assoc (cells_of (formal_of q)) (cells_in ps) h.0)

-- ---- cells that hold values

values_first : (ks : List Kind) (hs : List Held) → values_held (map OfKind ks ++ hs) ≡ ks ++ values_held hs
values_first [] hs = refl
values_first (k ∷ ks) hs = ap (λ (js : List Kind). k ∷ js) (values_first ks hs)

values_all : (ks : List Kind) → values_held (map OfKind ks) ≡ ks
values_all [] = refl
values_all (k ∷ ks) = ap (λ (js : List Kind). k ∷ js) (values_all ks)

pub values_at : (ks : List Kind) (hs rest : List Held) (n : ℕ) → drop n hs ≡ map OfKind ks ++ rest → values_held (drop n hs) ≡ ks ++ values_held rest
values_at ks hs rest n e = ap values_held e ∙ values_first ks rest

-- the same where nothing else is held
pub kinds_at : (ks is : List Kind) (rest : List Held) (n : ℕ) → drop n (map OfKind is) ≡ map OfKind ks ++ rest → drop n is ≡ ks ++ values_held rest
kinds_at ks is rest n e = sym (values_all (drop n is)) ∙ ap values_held (sym (drop-map OfKind n is)) ∙ values_at ks (map OfKind is) rest n e

pub no_place : (ks is : List Kind) (rest : List Held) (n : ℕ) → drop n (map OfKind is) ≡ OfPlace ks ∷ rest → ⊥
no_place ks is rest n e = by_kinds (drop n is) (sym (drop-map OfKind n is) ∙ e)
  where
    by_kinds : (js : List Kind) → map OfKind js ≡ OfPlace ks ∷ rest → ⊥
    by_kinds [] h = cc
    by_kinds (j ∷ js) h = cc

-- a cell that holds a place
get_first : (hs : List Held) (n : ℕ) → slice_get hs n ≡ slice_get (drop n hs) 0
get_first [] zero = refl
get_first [] (suc n) = refl
get_first (h ∷ hs) zero = refl
get_first (h ∷ hs) (suc n) = get_first hs n

pub place_at : (ks : List Kind) (hs rest : List Held) (n : ℕ) → drop n hs ≡ OfPlace ks ∷ rest → place_held (slice_get hs n) ≡ ks ++ []
place_at ks hs rest n e =
    ap place_held (get_first hs n) ∙ ap (λ (js : List Held). place_held (slice_get js 0)) e ∙ sym (append-nil ks)

-- The variables of a level are all that is held there.
pub level_cells : (ps : List Parameter) → AllConst ps
    → map OfKind (flat_map (λ t. cell_kinds (shape_in t)) (types_of ps)) ≡ flat_map cells_of (map formal_of ps)
level_cells [] c = refl
level_cells (q ∷ ps) c =
    let ks = cell_kinds (shape_in q.of) in
    let js = flat_map (λ t. cell_kinds (shape_in t)) (types_of ps) in
    map-append OfKind ks js ∙ ap (λ (hs : List Held). map OfKind ks ++ hs) (level_cells ps c.1)
    ∙ ap (λ (a : Access). held_as a ks ++ flat_map cells_of (map formal_of ps)) (sym c.0)

-- ---- values that stand first

pub starts_first : (s : Shape) (ks : List Kind) → is_sized s ≡ true → starts (cell_kinds s) (cell_kinds s ++ ks) ≡ true
starts_first s ks z =
    begins_starts (cell_kinds s) (cell_kinds s ++ ks) (sized_has_cell s z)
    (begins_first (cell_kinds s) ks (cell_kinds s ++ ks) (begins_self (cell_kinds s ++ ks)))
