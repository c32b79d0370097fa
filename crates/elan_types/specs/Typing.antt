-- The shapes of values that phrases deliver, and which cores are well typed.
use Rattle.std.specs.Prelude.{◌≡◌, ℕ, Bool, true, false, ◌&&◌, ◌==◌, nat_le, List, [], ◌∷◌, ◌++◌, map, length, take, drop, replicate, flat_map}
use Rattle.std.specs.Prelude.{Option, Some, None, option_map, slice_get}
use Rattle.eu_base.specs.declared.value.Kind.{Kind}
use Rattle.eu_base.specs.declared.value.Kind.TheVariants as kinds
use Rattle.eu_base.specs.declared.value.TheConstants.{TEXT_BYTES}
use Rattle.eu_base.specs.declared.shape.Shape.{Shape}
use Rattle.eu_base.specs.declared.shape.Shape.TheVariants.{Cell, Row}
use Rattle.eu_base.specs.Values.{same_kind}
use Rattle.eu_base.specs.Shapes.{cell_kinds, joined, same_shape}
use Rattle.cell_kinds.specs.Kinds.{packet_kinds}
use Rattle.eu_base.specs.Operations.{operand_kinds, result_kind, change_kind, in_range}
use Rattle.eu_base.specs.SpaceOperations.{space_operand_kinds, space_result_kind}
use Rattle.eu_base.specs.Room.{cells_fit}
use Rattle.eu_base.specs.declared.request.RequestName.{RequestName}
use Rattle.eu_base.specs.Requests.{request_kinds, request_places, request_result}
use Rattle.elan_types.specs.declared.core_phrase.PlacePhrase.{PlacePhrase}
use Rattle.elan_types.specs.declared.core_phrase.Access.{Access}
use Rattle.elan_types.specs.declared.core_phrase.Access.TheVariants.{Const, Var}
use Rattle.elan_types.specs.declared.core_phrase.Exit.{Exit}
use Rattle.elan_types.specs.declared.core_phrase.Part.{Part}
use Rattle.elan_types.specs.declared.core_phrase.Exit.TheVariants as exits
use Rattle.elan_types.specs.declared.core_phrase.Scope.{Scope}
use Rattle.elan_types.specs.declared.core_phrase.Scope.TheVariants.{Own, Of, Level}
use Rattle.elan_types.specs.declared.core_phrase.Content.{Content}
use Rattle.elan_types.specs.declared.core_phrase.Content.TheVariants as contents
use Rattle.elan_types.specs.declared.core_phrase.Formal.{Formal}
use Rattle.elan_types.specs.declared.core_phrase.Body.{Body}
use Rattle.elan_types.specs.declared.core_phrase.Core.{Core}
use Rattle.elan_types.specs.declared.core_phrase.ValuePhrase.{ValuePhrase}
use Rattle.elan_types.specs.declared.core_phrase.Action.{Action}
use Rattle.elan_types.specs.declared.core_phrase.Action.TheOpen as t
use Rattle.elan_types.specs.declared.core_phrase.Action.TheOpen.{Action-F, PlacePhrase-F, Actual-F, ValuePhrase-F, Arm-F, ValueArm-F}
use Rattle.elan_types.specs.declared.core_phrase.Action.TheFolds.{fold-Action, fold-PlacePhrase, fold-ValuePhrase}

-- the shape of the value that a phrase delivers, none where it is not well typed
abbrev pub Typed : Type 0
Typed = Option Shape

-- the value of a phrase has this shape
abbrev pub has_shape : Shape → Typed → Bool
has_shape s None = false
has_shape s (Some r) = same_shape s r

-- it is a cell of this kind
abbrev pub has : Kind → Typed → Bool
has k a = has_shape (Cell k) a

-- two phrases have one shape
abbrev pub agree : Typed → Typed → Bool
agree None b = false
agree (Some s) b = has_shape s b

-- a shape, where a test holds
abbrev pub only_if : Bool → Typed → Typed
only_if true a = a
only_if false a = None

-- a part that is not written, or has this kind
abbrev pub has_if_written : Kind → Option Typed → Bool
has_if_written k None = true
has_if_written k (Some a) = has k a

-- phrases have these kinds, one each
abbrev pub have : List Kind → List Typed → Bool
have [] [] = true
have (k ∷ ks) (a ∷ as') = has k a && have ks as'
have _ _ = false

abbrev pub all_agree : Typed → List Typed → Bool
all_agree a [] = true
all_agree a (b ∷ bs) = agree a b && all_agree a bs

abbrev pub all_true : List Bool → Bool
all_true [] = true
all_true (b ∷ bs) = b && all_true bs

abbrev pub same_access : Access → Access → Bool
same_access Const Const = true
same_access Var Var = true
same_access _ _ = false

abbrev pub formal : Access → Shape → Formal
formal access s = record { shape = s; access = access }

-- what a cell of a frame holds: a value of a kind, or the place where values of these kinds stand
pub data Held : Type 0 where
  OfKind : Kind → Held
  OfPlace : List Kind → Held

abbrev pub held_as : Access → List Kind → List Held
held_as Const ks = map OfKind ks
held_as Var ks = OfPlace ks ∷ []

-- the cells of a parameter: those of its value, or one for a place
abbrev pub cells_of : Formal → List Held
cells_of f = held_as f.access (cell_kinds f.shape)

-- the kinds of the cells from the first on that hold values
abbrev pub values_held : List Held → List Kind
values_held (OfKind k ∷ hs) = k ∷ values_held hs
values_held _ = []

-- the kinds of the cells at the place that a cell holds
abbrev pub place_held : Option Held → List Kind
place_held (Some (OfPlace ks)) = ks
place_held _ = []

-- the shape of what a request delivers, if it does
abbrev pub request_type : RequestName → Typed
request_type name = option_map Cell (request_result name)

-- a request takes values, and then variables
abbrev pub request_formals : RequestName → List Formal
request_formals name = map (λ k. formal Const (Cell k)) (request_kinds name) ++ map (λ k. formal Var (Cell k)) (request_places name)

-- what a parameter is given, none where it is not well typed
abbrev pub Taken : Type 0
Taken = Option Formal

abbrev pub takes : Formal → Taken → Bool
takes f None = false
takes f (Some g) = same_shape f.shape g.shape && same_access f.access g.access

-- parameters are given what they take, one each
abbrev pub take_all : List Formal → List Taken → Bool
take_all [] [] = true
take_all (f ∷ fs) (a ∷ as') = takes f a && take_all fs as'
take_all _ _ = false

-- with an access, where there is a shape
abbrev pub given_as : Access → Typed → Taken
given_as access a = option_map (formal access) a

abbrev pub result_of_content : Content → Typed
result_of_content (contents.Units us) = None
result_of_content (contents.Value s a) = Some s

abbrev pub is_none : Typed → Bool
is_none None = true
is_none (Some s) = false

-- a LEAVE can be there, without and with a value of this shape
abbrev pub leaves_without : Option Typed → Bool
leaves_without None = false
leaves_without (Some a) = is_none a

abbrev pub leaves_with : Shape → Option Typed → Bool
leaves_with s None = false
leaves_with s (Some a) = has_shape s a

-- where a phrase stands: in the units of the level, or in the body with this number
abbrev pub Home : Type 0
Home = Option ℕ

-- the PROC whose parameters and variables a phrase can use; none where it stands in the level or in a refinement of it
abbrev pub owner_in : ℕ → Scope → Home
owner_in n (Own parameters variables) = Some n
owner_in n (Of p) = Some p
owner_in n Level = None

abbrev pub same_home : Home → Home → Bool
same_home None None = true
same_home (Some a) (Some b) = a == b
same_home _ _ = false

-- the cells of a PROC's parameters and variables
abbrev pub frame_of : Scope → List Held
frame_of (Own parameters variables) = flat_map cells_of parameters ++ map OfKind variables
frame_of _ = []

abbrev pub scope_of : Option Body → Option Scope
scope_of None = None
scope_of (Some b) = Some b.scope

-- what a body delivers; none where there is no body
abbrev pub result_of : Option Body → Option Typed
result_of None = None
result_of (Some b) = Some (result_of_content b.content)

abbrev pub delivered_by : Option Body → Typed
delivered_by None = None
delivered_by (Some b) = result_of_content b.content

-- whether a PROC takes what it is given
abbrev pub taken_by : Option Scope → List Taken → Bool
taken_by (Some (Own parameters variables)) as' = take_all parameters as'
taken_by _ as' = false

-- whether it is a refinement of the PROC with this number, or of the level
abbrev pub refines : Home → Option Scope → Bool
refines None (Some Level) = true
refines (Some p) (Some (Of q)) = p == q
refines _ _ = false

abbrev pub owner_at : ℕ → Option Scope → Home
owner_at n (Some scope) = owner_in n scope
owner_at n None = None

abbrev pub frame_at : Option Scope → List Held
frame_at (Some scope) = frame_of scope
frame_at None = []

module _ (bodies : List Body) where
  abbrev pub body_at : ℕ → Option Body
  body_at = slice_get bodies

  abbrev pub owner : Home → Home
  owner None = None
  owner (Some n) = owner_at n (scope_of (body_at n))

  -- the cells of a PROC's parameters and variables
  abbrev pub frame_in : Home → List Held
  frame_in None = []
  frame_in (Some n) = frame_at (scope_of (body_at n))

  -- what the PROC delivers that a refinement leaves
  abbrev pub around : Option Scope → Option Typed
  around (Some (Of p)) = result_of (body_at p)
  around _ = None

  -- what a LEAVE has to deliver; none where there is nothing to leave
  abbrev pub left_from : Exit → Home → Option Typed
  left_from e None = None
  left_from exits.Body (Some n) = result_of (body_at n)
  left_from exits.Around (Some n) = around (scope_of (body_at n))

-- the kinds of the cells of the variables of packets, one packet behind the other, that which is inserted last
abbrev pub all_packet_kinds : Core → List Kind
all_packet_kinds core = packet_kinds core.packets ++ core.inserted

-- the kinds of the cells of variables that stand outside of PROCs: those of packets, and those of the program
pub record Outside : Type 0 where
  pub packets : List Kind
  pub variables : List Kind

-- cells of these kinds stand first
abbrev pub begins : List Kind → List Kind → Bool
begins [] js = true
begins (k ∷ ks) (j ∷ js) = same_kind k j && begins ks js
begins (k ∷ ks) [] = false

-- and there is one at least
abbrev pub starts : List Kind → List Kind → Bool
starts [] js = false
starts (k ∷ ks) js = begins (k ∷ ks) js

abbrev pub if_true : Bool → List Kind → List Kind
if_true true ks = ks
if_true false ks = []

-- the kinds of an item's cells, where so many items of so many cells stand first, all of the same kinds; none where they do not
abbrev pub item_kinds : ℕ → ℕ → List Kind → List Kind
item_kinds count cells ks =
    if_true (length (take cells ks) == cells && begins (joined (replicate count (take cells ks))) ks) (take cells ks)

-- a value has such a part, whose cells have these kinds
abbrev pub has_part : Part → List Kind → Typed → Bool
has_part part ks None = false
has_part part ks (Some s) = length (cell_kinds s) == part.of && (length ks == part.cells && begins ks (drop part.before (cell_kinds s)))

module _ (outside : Outside) (bodies : List Body) (home : Home) where
  abbrev pub frame_here : List Held
  frame_here = frame_in bodies (owner bodies home)

  abbrev pub Layer : (Type 0 → Type 0 → Type 0 → Type 0 → Type 0 → Type 0 → Type 0) → Type 0
  Layer F = F Bool Taken (List Kind) Typed Bool Typed

  -- the kinds of the cells that stand at a place and behind it in one variable or frame; none where it is not well typed
  abbrev pub place_kinds_step : Layer PlacePhrase-F → List Kind
  place_kinds_step (t.Variable n) = drop n outside.variables
  place_kinds_step (t.Packet n) = drop n outside.packets
  place_kinds_step (t.Local n) = values_held (drop n frame_here)
  place_kinds_step (t.Parameter n) = place_held (slice_get frame_here n)
  place_kinds_step (t.Item p a items) = if_true (has kinds.Int a) (item_kinds items.count items.cells p)
  place_kinds_step (t.Field p before) = drop before p
  place_kinds_step (t.Content p s) = if_true (starts (kinds.Space ∷ []) p && cells_fit (length (cell_kinds s))) (cell_kinds s)

  -- the shape of a phrase's value from those of its parts
  abbrev pub value_kind_step : Layer ValuePhrase-F → Typed
  value_kind_step (t.Number z) = only_if (in_range z) (Some (Cell kinds.Int))
  value_kind_step (t.Truth b) = Some (Cell kinds.Truth)
  value_kind_step (t.Text x) = only_if (nat_le (length x) TEXT_BYTES) (Some (Cell kinds.Text))
  value_kind_step (t.Load p s) = only_if (starts (cell_kinds s) p) (Some s)
  value_kind_step (t.Apply op as') = only_if (have (operand_kinds op) as') (Some (Cell (result_kind op)))
  value_kind_step (t.ValuePhrase::If c a b) = only_if (has kinds.Truth c && agree a b) a
  value_kind_step (t.ValuePhrase::Select v arms other) = only_if (has kinds.Int v && all_agree other arms) other
  value_kind_step (t.ValuePhrase::Unit a) = a
  value_kind_step (t.After us a) = only_if (all_true us) a
  value_kind_step (t.Never s) = Some s
  value_kind_step (t.ValuePhrase::Call p as' s) =
      only_if (taken_by (scope_of (slice_get bodies p)) as' && has_shape s (delivered_by (slice_get bodies p))) (Some s)
  value_kind_step (t.ValuePhrase::Refer p s) =
      only_if (refines (owner bodies home) (scope_of (slice_get bodies p)) && has_shape s (delivered_by (slice_get bodies p))) (Some s)
  value_kind_step (t.Pick a i items s) =
      only_if (has_shape (Row items.count s) a && (has kinds.Int i && length (cell_kinds s) == items.cells)) (Some s)
  value_kind_step (t.Take a part s) = only_if (has_part part (cell_kinds s) a) (Some s)
  value_kind_step (t.ValuePhrase::Ask name as') = only_if (take_all (request_formals name) as') (request_type name)
  value_kind_step (t.Consult op as') = only_if (have (space_operand_kinds op) as') (option_map Cell (space_result_kind op))

  abbrev pub actual_kind_step : Layer Actual-F → Taken
  actual_kind_step (t.Value a) = given_as Const a
  actual_kind_step (t.Place p s) = given_as Var (only_if (starts (cell_kinds s) p) (Some s))

  abbrev pub value_arm_kind_step : Layer ValueArm-F → Typed
  value_arm_kind_step arm = arm.value

  -- whether an action's parts have the kinds that it asks for
  abbrev pub action_typed_step : Layer Action-F → Bool
  action_typed_step (t.Action::Unit us) = all_true us
  action_typed_step (t.Store p s a) = starts (cell_kinds s) p && has_shape s a
  action_typed_step (t.Modify change p a) = starts (change_kind change ∷ []) p && has (change_kind change) a
  action_typed_step (t.Action::If c us vs) = has kinds.Truth c && (all_true us && all_true vs)
  action_typed_step (t.Action::Select a arms vs) = has kinds.Int a && (all_true arms && all_true vs)
  action_typed_step (t.Loop c us u) = has_if_written kinds.Truth c && (all_true us && has_if_written kinds.Truth u)
  action_typed_step (t.Count p from way limit c us u) =
      starts (kinds.Int ∷ []) p
      && (has kinds.Int from && (has_if_written kinds.Int limit && (has_if_written kinds.Truth c && (all_true us && has_if_written kinds.Truth u))))
  action_typed_step (t.Action::Ask name as') = take_all (request_formals name) as' && is_none (request_type name)
  action_typed_step (t.ErrorStop a) = has kinds.Text a
  action_typed_step (t.Action::Call p as') = taken_by (scope_of (slice_get bodies p)) as' && is_none (delivered_by (slice_get bodies p))
  action_typed_step (t.Action::Refer p) = refines (owner bodies home) (scope_of (slice_get bodies p)) && is_none (delivered_by (slice_get bodies p))
  action_typed_step (t.Leave e) = leaves_without (left_from bodies e home)
  action_typed_step (t.LeaveWith e s a) = has_shape s a && leaves_with s (left_from bodies e home)
  action_typed_step (t.Perform op as') = have (space_operand_kinds op) as' && is_none (option_map Cell (space_result_kind op))
  action_typed_step (t.Copy p a) = starts (kinds.Space ∷ []) p && has kinds.Space a
  action_typed_step (t.Bind p s a) = starts (kinds.Space ∷ []) p && has kinds.Space a

  abbrev pub arm_typed_step : Layer Arm-F → Bool
  arm_typed_step arm = all_true arm.units

  -- the shape of a phrase's value, and the kinds of the cells from a place on
  abbrev pub phrase_shape : ValuePhrase → Typed
  phrase_shape =
      fold-ValuePhrase Bool Taken (List Kind) Typed Bool Typed action_typed_step actual_kind_step place_kinds_step value_kind_step arm_typed_step
      value_arm_kind_step

  abbrev pub place_kinds : PlacePhrase → List Kind
  place_kinds =
      fold-PlacePhrase Bool Taken (List Kind) Typed Bool Typed action_typed_step actual_kind_step place_kinds_step value_kind_step arm_typed_step
      value_arm_kind_step

  abbrev pub is_typed : Action → Bool
  is_typed =
      fold-Action Bool Taken (List Kind) Typed Bool Typed action_typed_step actual_kind_step place_kinds_step value_kind_step arm_typed_step
      value_arm_kind_step

  -- what a body does has the kinds that it asks for
  abbrev pub is_content_typed : Content → Bool
  is_content_typed (contents.Units us) = all_true (map is_typed us)
  is_content_typed (contents.Value s a) = has_shape s (phrase_shape a)

abbrev pub outside_of : Core → Outside
outside_of core = record { packets = all_packet_kinds core; variables = core.variables }

-- a refinement is one of a PROC, or of the level
abbrev pub IsScope : List Body → Scope → Type 0
IsScope bodies (Of p) =
    (b : Body) × ((parameters : List Formal) × ((variables : List Kind) × (slice_get bodies p ≡ Some b) × (b.scope ≡ Own parameters variables)))
IsScope bodies _ = Unit {0}

-- a start procedure takes and delivers nothing, and no variables of a level stand beside its own
pub record IsStart (core : Core) (p : ℕ) : Type 0 where
  pub level : core.variables ≡ []
  pub variables : List Kind
  pub units : List Action
  pub body : slice_get core.bodies p ≡ Some (record { scope = Own [] variables; content = contents.Units units })

abbrev pub StartsSo : Core → Option ℕ → Type 0
StartsSo core None = Unit {0}
StartsSo core (Some p) = IsStart core p

-- the core of a command: each phrase has the kinds that it asks for
pub record IsWellTyped (core : Core) : Type 0 where
  pub typed : all_true (map (is_typed (outside_of core) core.bodies None) core.units) ≡ true
  pub scopes : (n : ℕ) (b : Body) → slice_get core.bodies n ≡ Some b → IsScope core.bodies b.scope
  pub bodies : (n : ℕ) (b : Body) → slice_get core.bodies n ≡ Some b → is_content_typed (outside_of core) core.bodies (Some n) b.content ≡ true
  pub starts : StartsSo core core.start
