-- What packets show stands among their bodies and variables, and has types with meaning.
use Rattle.std.proofs.Common.{◌≡◌, ℕ, zero, suc, ◌+◌, true, List, [], ◌∷◌, ◌++◌, length, drop, map, Some, refl, sym, ap, ◌∙◌, ◌⊎◌, inl, inr, append_assoc}
use Rattle.std.proofs.Common.{None, arith}
use Rattle.std.specs.Prelude.{slice_get}
use Rattle.std.proofs.lemmas.List.{append-nil, map-append}
use Rattle.eu_base.specs.declared.value.Kind.{Kind}
use Rattle.cell_kinds.specs.Kinds.{packet_kinds}
use Rattle.elan_types.specs.declared.core_phrase.Body.{Body}
use Rattle.elan_types.specs.Typing.{Outside, Held, OfKind, IsScope, is_content_typed}
use Rattle.elan_tree.specs.declared.tree.Tree.{Tree}
use Rattle.elan_tree.specs.declared.tree.Tree.TheVariants as tree
use Rattle.elan_names.specs.declared.entry.Entry.{Entry}
use Rattle.elan_names.specs.declared.heading.Heading.{Heading}
use Rattle.elan_names.specs.declared.interface.Inserted.{Inserted}
use Rattle.elan_scope.specs.declared.env.Env.{Env}
use Rattle.elan_scope.specs.declared.scope.Home.TheVariants.{Packet as of_packet}
use Rattle.elan_scope.specs.Scope.{all_held, variables_of}
use Rattle.elan_scope.specs.Shown.{shown_types}
use Rattle.type_names.specs.Bodies.{seen_types, level_names}
use Rattle.elan_judge.specs.Level.{home_of, level_in}
use Rattle.elan_check.specs.Below.elan_rules.proofs.TypeEquations.{Stand}
use Rattle.elan_check.specs.Below.elan_rules.proofs.TypedPerformed.{Fitting}
use Rattle.elan_check.specs.Below.elan_rules.proofs.TypedCalls.{held_cells, HeldThere, AllFit}
use Rattle.elan_check.specs.Below.elan_rules.proofs.HeldCells.{level_cells}
use Rattle.type_names.proofs.Sound.{Mean}
use Rattle.type_names.proofs.Sized.{SizedNames}
use Rattle.elan_check.specs.Text.{inserted, declared}
use Rattle.elan_check.proofs.Closed.{PacketsClosed}
use Rattle.elan_check.proofs.HeldTypes.{level_const}
use Rattle.elan_check.proofs.LevelRows.{before_rest}
use Rattle.elan_check.proofs.Weakening.{Before}

-- where the bodies of packets stand
abbrev pub bare : Env → Stand
bare env = record { outside = record { packets = packet_kinds env.packets; variables = [] }; bodies = env.bodies; home = None }

pub record IsSound (env : Env) : Type 0 where
  pub typed : (n : ℕ) (b : Body) → slice_get env.bodies n ≡ Some b → is_content_typed (bare env).outside env.bodies (Some n) b.content ≡ true
  pub scopes : (n : ℕ) (b : Body) → slice_get env.bodies n ≡ Some b → IsScope env.bodies b.scope
  pub fit : AllFit (bare env) env.inserted
  pub closed : PacketsClosed env.inserted
  pub means : Mean (shown_types env)
  pub sized : SizedNames (shown_types env)

-- ---- lists

pub at_either : {A : Type 0} (xs ys : List A) (n : ℕ) (x : A) → slice_get (xs ++ ys) n ≡ Some x
    → (slice_get xs n ≡ Some x) ⊎ ((i : ℕ) × (n ≡ length xs + i) × (slice_get ys i ≡ Some x))
at_either [] ys n x e = inr (n, (let z : n ≡ 0 + n = omega arith in z), e)
at_either (y ∷ xs) ys zero x e = inl e
at_either (y ∷ xs) ys (suc n) x e =
    elim (at_either xs ys n x e) [
      | inl f ↦ inl f
      | inr f ↦ inr (f.0, (let g = f.1 in let z : suc n ≡ suc (length xs) + f.0 = omega (arith, g) in z), f.2)
    ]

drop_behind : {A : Type 0} (xs ys : List A) → drop (length xs) (xs ++ ys) ≡ ys
drop_behind [] ys = refl
drop_behind (x ∷ xs) ys = drop_behind xs ys

drop_more : {A : Type 0} (n : ℕ) (xs ys : List A) → (rest : List A) × (drop n (xs ++ ys) ≡ drop n xs ++ rest)
drop_more zero xs ys = (ys, refl)
drop_more (suc n) [] ys = (drop (suc n) ys, refl)
drop_more (suc n) (x ∷ xs) ys = drop_more n xs ys

-- ---- what packets show stands where more stands behind

more_held : (here there : Stand) → Before here.outside.packets there.outside.packets → (n : ℕ) (es : List Entry) → HeldThere here (of_packet n) es
    → HeldThere there (of_packet n) es
more_held here there more n es h =
    let d = drop_more n here.outside.packets more.0 in (
      h.0 ++ map OfKind d.0,
      ap (λ (ks : List Kind). map OfKind (drop n ks)) more.1 ∙ ap (map OfKind) d.1 ∙ map-append OfKind (drop n here.outside.packets) d.0
          ∙ ap (λ (hs : List Held). hs ++ map OfKind d.0) h.1 ∙ append_assoc (held_cells es) h.0 (map OfKind d.0),
    )

pub more_fitting : (here there : Stand) → Before here.bodies there.bodies → (before n : ℕ) (hs : List Heading) → Fitting here before n hs → Fitting there before n hs
more_fitting here there more before n hs h i g e =
    let c = h i g e in (
      c.0,
      record {
        body = c.1.body;
        is = ap (λ (bs : List Body). slice_get bs (n + i)) more.1 ∙ before_rest here.bodies more.0 (n + i) c.1.body c.1.is;
        headed = c.1.headed;
        delivers = c.1.delivers;
      },
    )

pub all_fit : (here there : Stand) (ps : List Inserted) → Before here.outside.packets there.outside.packets → Before here.bodies there.bodies
    → AllFit here ps → AllFit there ps
all_fit here there [] cells more h = tt
all_fit here there (p ∷ ps) cells more h = (
  record {
    held = more_held here there cells p.cells_before p.interface.names h.0.held;
    sized = h.0.sized;
    bodies = more_fitting here there more p.bodies_before p.bodies_before p.interface.headings h.0.bodies;
  },
  all_fit here there ps cells more h.1,
)

-- ---- what a text holds

-- the variables that stand outside of the bodies of a text
abbrev pub outside_in : Env → Tree → Outside
outside_in env t = record { packets = packet_kinds env.packets ++ inserted env t; variables = declared env t }

level_first : (env : Env) (t : Tree) → (rest : List Held)
    × (map OfKind (variables_of (level_names env (level_in t))) ≡ held_cells (level_names env (level_in t)) ++ rest)
level_first env t =
    let es = level_names env (level_in t) in
    ([], level_cells (all_held es) (level_const (seen_types env (level_in t)) (level_in t)) ∙ sym (append-nil (held_cells es)))

pub level_held : (env : Env) (t : Tree) (here : Stand) → here.outside ≡ outside_in env t → HeldThere here (home_of env t) (level_names env (level_in t))
level_held env (tree.Program w) here e =
    let h = level_first env (tree.Program w) in (h.0, ap (λ (o : Outside). map OfKind o.variables) e ∙ h.1)
level_held env (tree.Packet at n shown w) here e =
    let h = level_first env (tree.Packet at n shown w) in
    let cells = packet_kinds env.packets in (
      h.0,
      ap (λ (o : Outside). map OfKind (drop (length cells) o.packets)) e
          ∙ ap (map OfKind) (drop_behind cells (variables_of (level_names env w))) ∙ h.1,
    )
