-- What the tables of a program say of places, bodies and exits, where they agree with the kinds.
use Rattle.std.proofs.Common.{◌≡◌, ℕ, List, [], ◌∷◌, ◌++◌, map, Option, Some, None, Bool, true, false, ◌&&◌, refl, sym, ap, ◌∙◌, subst}
use Rattle.std.specs.Prelude.{slice_get, option_map, flat_map}
use Rattle.std.proofs.lemmas.List.Concat.{flat_map-cons}
use Rattle.std.proofs.lemmas.List.{map-append}
use Rattle.std.proofs.lemmas.Option.{slice_get-map}
use Rattle.std.proofs.lemmas.Bool.{eqb-true}
use Rattle.eu_base.specs.declared.value.Kind.{Kind}
use Rattle.eu_base.specs.declared.shape.Shape.{Shape}
use Rattle.eu_base.specs.declared.shape.Shape.TheVariants.{Cell}
use Rattle.eu_base.specs.Shapes.{cell_kinds}
use Rattle.eu_base.specs.declared.request.RequestName.{RequestName}
use Rattle.eu_base.specs.Requests.{request_result}
use Rattle.eu_base.specs.declared.space_operation.SpaceOperation.{SpaceOperation}
use Rattle.eu_base.specs.SpaceOperations.{space_result_kind}
use Rattle.code_form.specs.declared.operand.OperandKind.{OperandKind}
use Rattle.code_form.specs.declared.operand.OperandKind.TheVariants as operand
use Rattle.code_form.specs.declared.code.Entry.{Entry}
use Rattle.code_form.specs.declared.code.Layout.{Layout}
use Rattle.code_form.specs.declared.code.Layout.TheVariants as layouts
use Rattle.code_form.specs.Program as program
use Rattle.code_form.specs.Program.{Program, kinds_in_packets, CellUse, HoldsValue, HoldsPlace, cell_uses, cells_of, cells_in, frame_cells}
use Rattle.code_form.specs.Valid.{IsRefinement, cell_value, cell_place}
use Rattle.elan_types.specs.declared.core_phrase.Access.{Access}
use Rattle.elan_types.specs.declared.core_phrase.Access.TheVariants.{Const, Var}
use Rattle.elan_types.specs.declared.core_phrase.Exit.{Exit}
use Rattle.elan_types.specs.declared.core_phrase.Exit.TheVariants as exits
use Rattle.elan_types.specs.declared.core_phrase.Scope.{Scope}
use Rattle.elan_types.specs.declared.core_phrase.Scope.TheVariants as scopes
use Rattle.elan_types.specs.declared.core_phrase.Formal.{Formal}
use Rattle.elan_types.specs.declared.core_phrase.Body.{Body}
use Rattle.place_gen.specs.Layouts.{taken_as, parameter_kind, layout_of}
use Rattle.elan_types.specs.Typing as typing
use Rattle.elan_types.specs.Typing.{Outside, Typed, Held, held_as, has, has_shape, agree, takes, only_if, same_access, frame_of, frame_at}
use Rattle.elan_types.specs.Typing.{frame_in, scope_of, result_of, result_of_content, delivered_by, taken_by, take_all, Taken, refines, around, left_from}
use Rattle.elan_types.specs.Typing.{leaves_without, leaves_with, is_none, formal, Home, request_type}
use Rattle.elan_types.proofs.Shapes.{same_shape_is}
use Rattle.place_gen.proofs.Cells.{Use, OfValue, OfPlace, Uses}

-- what the cells of a parameter are for, and those of a PROC's frame
abbrev pub uses_of : OperandKind → Uses
uses_of (operand.Value s) = map OfValue (cell_kinds s)
uses_of (operand.Place s) = OfPlace (cell_kinds s) ∷ []

abbrev pub layout_uses : Layout → Uses
layout_uses (layouts.Own parameters variables) = flat_map uses_of parameters ++ map OfValue variables
layout_uses _ = []

abbrev pub uses_at : Option Layout → Uses
uses_at None = []
uses_at (Some l) = layout_uses l

module _ (p : Program) where
  -- what a body delivers
  abbrev pub Delivers : Option ℕ → Option Shape → Type 0
  Delivers None s = ⊥
  Delivers (Some n) s = (e : Entry) × (slice_get p.bodies n ≡ Some e) × (e.delivers ≡ s)

  -- what the cells that a body uses are for
  abbrev pub uses_in : Option ℕ → Uses
  uses_in None = []
  uses_in (Some n) = uses_at (program.layout_of (slice_get p.bodies n))

  abbrev pub frame_uses : Option ℕ → Uses
  frame_uses body = uses_in (program.owner p body)

module _ (p : Program) (body : Option ℕ) where
  -- what an exit from this body delivers
  abbrev pub LeftBy : Exit → Option Shape → Type 0
  LeftBy exits.Body s = Delivers p body s
  LeftBy exits.Around s = Delivers p (program.owner p body) s

-- the entry of a body in the tables
pub record HasEntry (p : Program) (n : ℕ) (b : Body) : Type 0 where
  pub entry : Entry
  pub has : slice_get p.bodies n ≡ Some entry
  pub layout : entry.layout ≡ layout_of b.scope
  pub delivers : entry.delivers ≡ result_of_content b.content

-- the tables have a cell for each variable, and an entry for each body
pub record Agrees (p : Program) (outside : Outside) (bodies : List Body) : Type 0 where
  pub level : p.variables ≡ outside.variables
  pub packets : kinds_in_packets p ≡ outside.packets
  pub each : (n : ℕ) (b : Body) → slice_get bodies n ≡ Some b → HasEntry p n b

-- a phrase stands in the level, or in a body that there is
abbrev pub IsHome : List Body → Home → Type 0
IsHome bodies None = Unit {0}
IsHome bodies (Some n) = (b : Body) × (slice_get bodies n ≡ Some b)

-- what tests of kinds tell
pub only_if_is : (b : Bool) (a : Typed) (s : Shape) → only_if b a ≡ Some s → (b ≡ true) × (a ≡ Some s)
only_if_is true a s e = (refl, e)
only_if_is false a s e = let f : ⊥ = cc in absurd f

pub both : (a b : Bool) → (a && b) ≡ true → (a ≡ true) × (b ≡ true)
both true b e = (refl, e)
both false b e = let f : ⊥ = cc in absurd f

pub has_shape_is : (s : Shape) (a : Typed) → has_shape s a ≡ true → a ≡ Some s
has_shape_is s None e = let f : ⊥ = cc in absurd f
has_shape_is s (Some r) e = ap Some (sym (same_shape_is s r e))

pub has_is : (k : Kind) (a : Typed) → has k a ≡ true → a ≡ Some (Cell k)
has_is k a e = has_shape_is (Cell k) a e

pub access_is : (a b : Access) → same_access a b ≡ true → a ≡ b
access_is Const Const e = refl
access_is Const Var e = let f : ⊥ = cc in absurd f
access_is Var Const e = let f : ⊥ = cc in absurd f
access_is Var Var e = refl

pub agree_is : (a b : Typed) (s : Shape) → agree a b ≡ true → a ≡ Some s → b ≡ Some s
agree_is None b s e f = let g : ⊥ = cc in absurd g
agree_is (Some r) b s e f = let g : r ≡ s = cc in has_shape_is s b (subst (λ r. has_shape r b ≡ true) g e)

-- values of kinds, and then variables of kinds, as what takes them
pub formals_take : (ks ls : List Kind)
    → map parameter_kind (map (λ k. formal Const (Cell k)) ks ++ map (λ k. formal Var (Cell k)) ls) ≡ map cell_value ks ++ map cell_place ls
formals_take [] [] = refl
formals_take [] (l ∷ ls) = ap (λ ks. cell_place l ∷ ks) (formals_take [] ls)
formals_take (k ∷ ks) ls = ap (λ ks. cell_value k ∷ ks) (formals_take ks ls)

-- what a request delivers, from its type
pub delivers_none : (name : RequestName) → is_none (request_type name) ≡ true → request_result name ≡ None
delivers_none name e = by (request_result name) e
  where
    by : (o : Option Kind) → is_none (option_map Cell o) ≡ true → o ≡ None
    by None e = refl
    by (Some k) e = absurd (cc e)

pub delivers_some : (name : RequestName) (u : Shape) → request_type name ≡ Some u → (k : Kind) × (request_result name ≡ Some k) × (Some (Cell k) ≡ Some u)
delivers_some name u e = by (request_result name) refl e
  where
    by : (o : Option Kind) → request_result name ≡ o → option_map Cell o ≡ Some u → (k : Kind) × (request_result name ≡ Some k) × (Some (Cell k) ≡ Some u)
    by None h e = absurd (cc e)
    by (Some k) h e = (k, h, e)

-- and a call on data spaces
pub gives_none : (op : SpaceOperation) → is_none (option_map Cell (space_result_kind op)) ≡ true → space_result_kind op ≡ None
gives_none op e = by (space_result_kind op) e
  where
    by : (o : Option Kind) → is_none (option_map Cell o) ≡ true → o ≡ None
    by None e = refl
    by (Some k) e = absurd (cc e)

pub gives_some : (op : SpaceOperation) (u : Shape) → option_map Cell (space_result_kind op) ≡ Some u
    → (k : Kind) × (space_result_kind op ≡ Some k) × (Some (Cell k) ≡ Some u)
gives_some op u e = by (space_result_kind op) refl e
  where
    by : (o : Option Kind) → space_result_kind op ≡ o → option_map Cell o ≡ Some u → (k : Kind) × (space_result_kind op ≡ Some k) × (Some (Cell k) ≡ Some u)
    by None h e = absurd (cc e)
    by (Some k) h e = (k, h, e)

formal_is : (f g : Formal) → f.shape ≡ g.shape → f.access ≡ g.access → g ≡ f
formal_is f g a b = ap (formal g.access) (sym a) ∙ ap (λ (x : Access). formal x f.shape) (sym b)

-- a parameter is given what it takes
pub takes_is : (f : Formal) (a : Taken) → takes f a ≡ true → a ≡ Some f
takes_is f None e = let g : ⊥ = cc in absurd g
takes_is f (Some g) e = let h = both _ _ e in ap Some (formal_is f g (same_shape_is f.shape g.shape h.0) (access_is f.access g.access h.1))

-- the cells of frames: as code has them, and what they are for
abbrev pub cell_use : Held → CellUse
cell_use (typing.OfKind k) = HoldsValue k
cell_use (typing.OfPlace ks) = HoldsPlace

abbrev pub use_of : Held → Use
use_of (typing.OfKind k) = OfValue k
use_of (typing.OfPlace ks) = OfPlace ks

map_twice : {A B C : Type 0} (f : B → C) (g : A → B) (xs : List A) → map f (map g xs) ≡ map (λ x. f (g x)) xs
map_twice f g [] = refl
map_twice f g (x ∷ xs) = ap (λ l. f (g x) ∷ l) (map_twice f g xs)

-- of one parameter, and of all
cells_alike : (a : Access) (s : Shape) → cell_uses (taken_as a s) ≡ map cell_use (held_as a (cell_kinds s))
cells_alike Const s = sym (map_twice cell_use typing.OfKind (cell_kinds s))
cells_alike Var s = refl

uses_alike : (a : Access) (s : Shape) → uses_of (taken_as a s) ≡ map use_of (held_as a (cell_kinds s))
uses_alike Const s = sym (map_twice use_of typing.OfKind (cell_kinds s))
uses_alike Var s = refl

all_alike : {C : Type 0} (of : OperandKind → List C) (f : Held → C)
    → ((a : Access) (s : Shape) → of (taken_as a s) ≡ map f (held_as a (cell_kinds s)))
    → (ps : List Formal) → flat_map of (map parameter_kind ps) ≡ map f (flat_map typing.cells_of ps)
all_alike of f one [] = refl
all_alike of f one (x ∷ ps) =
    flat_map-cons of (parameter_kind x) (map parameter_kind ps)
    ∙ ap (λ l. l ++ flat_map of (map parameter_kind ps)) (one x.access x.shape)
    ∙ ap (λ l. map f (typing.cells_of x) ++ l) (all_alike of f one ps)
    ∙ sym (map-append f (typing.cells_of x) (flat_map typing.cells_of ps))
    ∙ ap (map f) (sym (flat_map-cons typing.cells_of x ps))

frame_alike : {C : Type 0} (of : OperandKind → List C) (f : Held → C) (value : Kind → C)
    → ((a : Access) (s : Shape) → of (taken_as a s) ≡ map f (held_as a (cell_kinds s))) → ((k : Kind) → value k ≡ f (typing.OfKind k))
    → (ps : List Formal) (vs : List Kind)
    → flat_map of (map parameter_kind ps) ++ map value vs ≡ map f (flat_map typing.cells_of ps ++ map typing.OfKind vs)
frame_alike of f value one is ps vs =
    ap (λ l. l ++ map value vs) (all_alike of f one ps)
    ∙ ap (λ l. map f (flat_map typing.cells_of ps) ++ l) (values vs ∙ sym (map_twice f typing.OfKind vs))
    ∙ sym (map-append f (flat_map typing.cells_of ps) (map typing.OfKind vs))
  where
    values : (vs : List Kind) → map value vs ≡ map (λ k. f (typing.OfKind k)) vs
    values [] = refl
    values (v ∷ vs) = ap (λ c. c ∷ map value vs) (is v) ∙ ap (λ l. f (typing.OfKind v) ∷ l) (values vs)

scope_cells : (s : Scope) → cells_of (layout_of s) ≡ map cell_use (frame_of s)
scope_cells (scopes.Own ps vs) = frame_alike cell_uses cell_use HoldsValue cells_alike (λ k. refl) ps vs
scope_cells (scopes.Of q) = refl
scope_cells scopes.Level = refl

scope_uses : (s : Scope) → layout_uses (layout_of s) ≡ map use_of (frame_of s)
scope_uses (scopes.Own ps vs) = frame_alike uses_of use_of OfValue uses_alike (λ k. refl) ps vs
scope_uses (scopes.Of q) = refl
scope_uses scopes.Level = refl

owner_same : (n : ℕ) (s : Scope) → program.owner_in n (layout_of s) ≡ typing.owner_in n s
owner_same n (scopes.Own ps vs) = refl
owner_same n (scopes.Of q) = refl
owner_same n scopes.Level = refl

module _ (p : Program) (outside : Outside) (bodies : List Body) (agrees : Agrees p outside bodies) where
  -- the PROC whose cells a body uses
  pub owner_is : (home : Home) → IsHome bodies home → program.owner p home ≡ typing.owner bodies home
  owner_is None is = refl
  owner_is (Some n) is =
      let e = agrees.each n is.0 is.1 in
      ap (λ o. program.owner_at n (program.layout_of o)) e.has ∙ ap (program.owner_in n) e.layout ∙ owner_same n is.0.scope
      ∙ sym (ap (λ o. typing.owner_at n (scope_of o)) is.1)

  -- a cell of a frame, in the tables and as what it is for
  frame_cell : (n : ℕ) (x : ℕ) (h : Held) (o : Option Body) → slice_get bodies n ≡ o → slice_get (frame_at (scope_of o)) x ≡ Some h
      → (slice_get (cells_in p (Some n)) x ≡ Some (cell_use h)) × (slice_get (uses_in p (Some n)) x ≡ Some (use_of h))
  frame_cell n x h None is e = let g : ⊥ = cc in absurd g
  frame_cell n x h (Some b) is e =
      let t = agrees.each n b is in (
        ap (λ o. slice_get (program.cells_at (program.layout_of o)) x) t.has ∙ ap (λ l. slice_get (cells_of l) x) t.layout
            ∙ ap (λ l. slice_get l x) (scope_cells b.scope) ∙ slice_get-map cell_use (frame_of b.scope) x ∙ ap (option_map cell_use) e,
        ap (λ o. slice_get (uses_at (program.layout_of o)) x) t.has ∙ ap (λ l. slice_get (layout_uses l) x) t.layout
            ∙ ap (λ l. slice_get l x) (scope_uses b.scope) ∙ slice_get-map use_of (frame_of b.scope) x ∙ ap (option_map use_of) e,
      )

  cell_in : (owner : Home) (x : ℕ) (h : Held) → slice_get (frame_in bodies owner) x ≡ Some h
      → (slice_get (cells_in p owner) x ≡ Some (cell_use h)) × (slice_get (uses_in p owner) x ≡ Some (use_of h))
  cell_in None x h e = let g : ⊥ = cc in absurd g
  cell_in (Some n) x h e = frame_cell n x h (slice_get bodies n) refl e

  pub held_cell : (home : Home) → IsHome bodies home → (x : ℕ) (h : Held) → slice_get (frame_in bodies (typing.owner bodies home)) x ≡ Some h
      → slice_get (frame_cells p home) x ≡ Some (cell_use h)
  held_cell home is x h e = ap (λ o. slice_get (cells_in p o) x) (owner_is home is) ∙ (cell_in (typing.owner bodies home) x h e).0

  pub held_use : (home : Home) → IsHome bodies home → (x : ℕ) (h : Held) → slice_get (frame_in bodies (typing.owner bodies home)) x ≡ Some h
      → slice_get (frame_uses p home) x ≡ Some (use_of h)
  held_use home is x h e = ap (λ o. slice_get (uses_in p o) x) (owner_is home is) ∙ (cell_in (typing.owner bodies home) x h e).1

  -- a body that is called, with what it takes and delivers
  pub record IsProc (q : ℕ) (given : List Taken) (d : Option Shape) : Type 0 where
    pub entry : Entry
    pub has : slice_get p.bodies q ≡ Some entry
    pub parameters : List Formal
    pub cells : List Kind
    pub own : entry.layout ≡ layouts.Own (map parameter_kind parameters) cells
    pub takes : take_all parameters given ≡ true
    pub delivers : entry.delivers ≡ d

  own_proc : (q : ℕ) (given : List Taken) (b : Body) (d : Typed) (s : Scope) → slice_get bodies q ≡ Some b → b.scope ≡ s → taken_by (Some s) given ≡ true
      → result_of_content b.content ≡ d → IsProc q given d
  own_proc q given b d (scopes.Own ps vs) is s e r =
      let t = agrees.each q b is in
      record {
        entry = t.entry;
        has = t.has;
        parameters = ps;
        cells = vs;
        own = t.layout ∙ ap layout_of s;
        takes = e;
        delivers =
            t.delivers ∙ r;
      }
  own_proc q given b d (scopes.Of n) is s e r = let g : ⊥ = cc in absurd g
  own_proc q given b d scopes.Level is s e r = let g : ⊥ = cc in absurd g

  some_proc : (q : ℕ) (given : List Taken) (d : Typed) (o : Option Body) → slice_get bodies q ≡ o → taken_by (scope_of o) given ≡ true → delivered_by o ≡ d
      → IsProc q given d
  some_proc q given d None is e r = let g : ⊥ = cc in absurd g
  some_proc q given d (Some b) is e r = own_proc q given b d b.scope is refl e r

  pub proc_is : (q : ℕ) (given : List Taken) (d : Typed) → taken_by (scope_of (slice_get bodies q)) given ≡ true → delivered_by (slice_get bodies q) ≡ d
      → IsProc q given d
  proc_is q given d e r = some_proc q given d (slice_get bodies q) refl e r

  -- a refinement of what a phrase stands in
  pub record IsPart (q : ℕ) (home : Home) (d : Option Shape) : Type 0 where
    pub entry : Entry
    pub has : slice_get p.bodies q ≡ Some entry
    pub refinement : IsRefinement entry.layout
    pub owned : program.owner p (Some q) ≡ program.owner p home
    pub delivers : entry.delivers ≡ d

  refined : (q : ℕ) (owner : Home) (s : Scope) → refines owner (Some s) ≡ true → IsRefinement (layout_of s) × (typing.owner_in q s ≡ owner)
  refined q None (scopes.Own ps vs) e = let g : ⊥ = cc in absurd g
  refined q None (scopes.Of r) e = let g : ⊥ = cc in absurd g
  refined q None scopes.Level e = (tt, refl)
  refined q (Some n) (scopes.Own ps vs) e = let g : ⊥ = cc in absurd g
  refined q (Some n) (scopes.Of r) e = let g : n ≡ r = eqb-true n r e in (tt, ap Some (sym g))
  refined q (Some n) scopes.Level e = let g : ⊥ = cc in absurd g

  none_refined : (owner : Home) → refines owner None ≡ true → ⊥
  none_refined None e = cc
  none_refined (Some n) e = cc

  some_part : (q : ℕ) (home : Home) → IsHome bodies home → (d : Typed) (o : Option Body) → slice_get bodies q ≡ o
      → refines (typing.owner bodies home) (scope_of o) ≡ true → delivered_by o ≡ d → IsPart q home d
  some_part q home is d None e f r = absurd (none_refined (typing.owner bodies home) f)
  some_part q home is d (Some b) e f r =
      let t = agrees.each q b e in
      let g = refined q (typing.owner bodies home) b.scope f in
      record {
        entry = t.entry;
        has = t.has;
        refinement = subst IsRefinement (sym t.layout) g.0;
        owned =
            ap (λ o. program.owner_at q (program.layout_of o)) t.has ∙ ap (program.owner_in q) t.layout ∙ owner_same q b.scope ∙ g.1 ∙ sym (owner_is home is);
        delivers = t.delivers ∙ r;
      }

  pub part_is : (q : ℕ) (home : Home) → IsHome bodies home → (d : Typed) → refines (typing.owner bodies home) (scope_of (slice_get bodies q)) ≡ true
      → delivered_by (slice_get bodies q) ≡ d → IsPart q home d
  part_is q home is d e r = some_part q home is d (slice_get bodies q) refl e r

  -- what is left by an exit
  left_body : (n : ℕ) (d : Typed) (o : Option Body) → slice_get bodies n ≡ o → result_of o ≡ Some d → Delivers p (Some n) d
  left_body n d None is e = let g : ⊥ = cc in absurd g
  left_body n d (Some b) is e =
      let t = agrees.each n b is in
      let g : result_of_content b.content ≡ d = cc in
      (t.entry, t.has, t.delivers ∙ g)

  left_around : (n : ℕ) (d : Typed) (b : Body) (s : Scope) → slice_get bodies n ≡ Some b → b.scope ≡ s → around bodies (Some s) ≡ Some d
      → Delivers p (program.owner p (Some n)) d
  left_around n d b (scopes.Own ps vs) is s e = let g : ⊥ = cc in absurd g
  left_around n d b (scopes.Of q) is s e =
      let o : typing.owner bodies (Some n) ≡ Some q = ap (λ o. typing.owner_at n (scope_of o)) is ∙ ap (typing.owner_in n) s in
      subst (λ o. Delivers p o d) (sym (owner_is (Some n) (b, is) ∙ o)) (left_body q d (slice_get bodies q) refl e)
  left_around n d b scopes.Level is s e = let g : ⊥ = cc in absurd g

  left_some : (e : Exit) (n : ℕ) (d : Typed) → IsHome bodies (Some n) → left_from bodies e (Some n) ≡ Some d → LeftBy p (Some n) e d
  left_some exits.Body n d is h = left_body n d (slice_get bodies n) refl h
  left_some exits.Around n d is h = left_around n d is.0 is.0.scope is.1 refl (sym (ap (λ o. around bodies (scope_of o)) is.1) ∙ h)

  pub left_is : (e : Exit) (home : Home) (d : Typed) → IsHome bodies home → left_from bodies e home ≡ Some d → LeftBy p home e d
  left_is e None d is h = let g : ⊥ = cc in absurd g
  left_is e (Some n) d is h = left_some e n d is h

-- what the tests of LEAVE tell
pub without_is : (o : Option Typed) → leaves_without o ≡ true → o ≡ Some None
without_is None e = let f : ⊥ = cc in absurd f
without_is (Some None) e = refl
without_is (Some (Some u)) e = let f : ⊥ = cc in absurd f

pub with_is : (s : Shape) (o : Option Typed) → leaves_with s o ≡ true → o ≡ Some (Some s)
with_is s None e = let f : ⊥ = cc in absurd f
with_is s (Some a) e = ap Some (has_shape_is s a e)

pub none_is : (a : Typed) → is_none a ≡ true → a ≡ None
none_is None e = refl
none_is (Some u) e = let f : ⊥ = cc in absurd f
