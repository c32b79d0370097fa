-- What the procedures on data spaces do: why they stop, or what they give and change. All of it is decided without the values of spaces.
use Rattle.std.specs.Prelude.{ℕ, Bool, not, ◌&&◌, is_some, nat_le, if◌then◌else◌, pos, List, [], ◌∷◌, length, Option, Some, None, Result, Ok, Err}
use Rattle.eu_base.specs.declared.value.Kind.{Kind}
use Rattle.eu_base.specs.declared.value.Kind.TheVariants as kinds
use Rattle.eu_base.specs.declared.value.Value.{Value}
use Rattle.eu_base.specs.declared.value.Value.TheVariants as values
use Rattle.eu_base.specs.declared.shape.Shape.{Shape}
use Rattle.eu_base.specs.declared.stop.Stop.{Stop}
use Rattle.eu_base.specs.declared.stop.Stop.TheVariants.{NoSpace, WrongShape, ManySpaces, SpaceNumbers, BadName, NoName, NameThere}
use Rattle.eu_base.specs.declared.space_operation.SpaceOperation.{SpaceOperation}
use Rattle.eu_base.specs.declared.space_operation.SpaceOperation.TheVariants.{KindOf, New, Old, IsNamed, SetKind, Forget, ForgetNamed, Rename, CopyNamed}
use Rattle.eu_base.specs.declared.space_operation.TheConstants.{LONGEST_NAME}
use Rattle.eu_base.specs.Shapes.{same_shape}
use Rattle.eu_base.specs.Values.{SpaceNo}
use Rattle.eu_base.specs.Operations.{number_at, text_at, space_at}
use Rattle.eu_base.specs.DataSpaces.{Spaces, Heads, heads_of, most_live, last_number, is_live, the_head, next_number, under, SpaceChange, Makes, Forgets, SetsKind, Fills, Names, Unnames}
use Rattle.eu_base.specs.DataSpaces.{spaces_after, heads_after}

-- the kinds of the operands, from left to right, and the kind of the result, if there is one
abbrev pub space_signature : SpaceOperation → List Kind × Option Kind
space_signature KindOf = (kinds.Space ∷ [], Some kinds.Int)
space_signature New = (kinds.Text ∷ [], Some kinds.Space)
space_signature Old = (kinds.Text ∷ [], Some kinds.Space)
space_signature IsNamed = (kinds.Text ∷ [], Some kinds.Truth)
space_signature SetKind = (kinds.Space ∷ kinds.Int ∷ [], None)
space_signature Forget = (kinds.Space ∷ [], None)
space_signature ForgetNamed = (kinds.Text ∷ [], None)
space_signature Rename = (kinds.Text ∷ kinds.Text ∷ [], None)
space_signature CopyNamed = (kinds.Text ∷ kinds.Text ∷ [], None)

abbrev pub space_operand_kinds : SpaceOperation → List Kind
space_operand_kinds operation = (space_signature operation).0

abbrev pub space_result_kind : SpaceOperation → Option Kind
space_result_kind operation = (space_signature operation).1

-- ---- plans

-- why it stops, or what it gives and the changes, from the first on
abbrev pub Plan : Type 0 → Type 0
Plan A = Result (A × List SpaceChange) Stop

-- what a plan makes of the spaces, and of what is said of them without their values
abbrev pub carried_out : {A : Type 0} → Plan A → Spaces → Result (A × Spaces) Stop
carried_out (Ok plan) spaces = Ok (plan.0, spaces_after plan.1 spaces)
carried_out (Err stop) spaces = Err stop

abbrev pub heads_carried : {A : Type 0} → Plan A → Heads → Result (A × Heads) Stop
heads_carried (Ok plan) heads = Ok (plan.0, heads_after plan.1 heads)
heads_carried (Err stop) heads = Err stop

-- a stop, where there is a reason, and else what is planned
abbrev pub unless : {A : Type 0} → Option Stop → Plan A → Plan A
unless (Some stop) plan = Err stop
unless None plan = plan

-- what is planned for the data space that there is, and else a stop
abbrev pub for_one : {A : Type 0} → Stop → Option SpaceNo → (SpaceNo → Plan A) → Plan A
for_one stop None plan = Err stop
for_one stop (Some s) plan = plan s

-- ---- reasons to stop

-- a name of a task or of a data space has 1 to 60 bytes
abbrev pub is_name : List ℕ → Bool
is_name name = nat_le 1 (length name) && nat_le (length name) LONGEST_NAME

-- why a name cannot be given
abbrev pub name_refusal : List ℕ → Heads → Option Stop
name_refusal name heads =
    if not (is_name name) then Some BadName
    else if is_some (under name heads) then Some NameThere
    else None

-- why no space can be made
abbrev pub room_refusal : Heads → Option Stop
room_refusal heads =
    if nat_le most_live (length heads.live) then Some ManySpaces
    else if nat_le last_number heads.last then Some SpaceNumbers
    else None

-- why the space that is meant cannot be used
abbrev pub life_refusal : SpaceNo → Heads → Option Stop
life_refusal s heads = if is_live s heads then None else Some NoSpace

-- ---- what is planned

-- a space is forgotten, where it lives
abbrev pub forgetting : Option SpaceNo → Heads → List SpaceChange
forgetting None heads = []
forgetting (Some s) heads = if is_live s heads then Forgets s ∷ [] else []

-- `type (ds)`: 0 of the nil space
abbrev pub kind_plan : Option SpaceNo → Heads → Plan (Option Value)
kind_plan None heads = Ok (Some (values.Int (pos 0)), [])
kind_plan (Some s) heads = unless (life_refusal s heads) (Ok (Some (values.Int (the_head s heads).kind), []))

-- what a procedure does. A new space is the one under the next number; a space that is renamed stands last in the directory
abbrev pub planned : SpaceOperation → List Value → Heads → Plan (Option Value)
planned KindOf vs heads = kind_plan (space_at vs 0) heads
planned New vs heads =
    unless (name_refusal (text_at vs 0) heads) (unless (room_refusal heads)
    (Ok (Some (values.Space (Some (next_number heads))), Makes None ∷ Names (text_at vs 0) (next_number heads) ∷ [])))
planned Old vs heads = for_one NoName (under (text_at vs 0) heads) (λ s. Ok (Some (values.Space (Some s)), []))
planned IsNamed vs heads = Ok (Some (values.Truth (is_some (under (text_at vs 0) heads))), [])
planned SetKind vs heads =
    for_one NoSpace (space_at vs 0) (λ s. unless (life_refusal s heads) (Ok (None, SetsKind s (number_at vs 1) ∷ [])))
planned Forget vs heads = Ok (None, forgetting (space_at vs 0) heads)
planned ForgetNamed vs heads = for_one NoName (under (text_at vs 0) heads) (λ s. Ok (None, Forgets s ∷ []))
planned Rename vs heads =
    for_one NoName (under (text_at vs 0) heads) (λ s.
    unless (name_refusal (text_at vs 1) heads) (Ok (None, Unnames (text_at vs 0) ∷ Names (text_at vs 1) s ∷ [])))
planned CopyNamed vs heads =
    for_one NoName (under (text_at vs 0) heads) (λ s.
    unless (name_refusal (text_at vs 1) heads) (unless (room_refusal heads)
    (Ok (None, Makes (Some s) ∷ Names (text_at vs 1) (next_number heads) ∷ []))))

-- why a space cannot be copied: it is not the nil space, and does not live
abbrev pub copy_refusal : Option SpaceNo → Heads → Option Stop
copy_refusal None heads = None
copy_refusal (Some s) heads = life_refusal s heads

-- a data space that is assigned to a variable: a new one, which is a copy of it. Then the one that the variable held is forgotten
abbrev pub copy_plan : Option SpaceNo → Option SpaceNo → Heads → Plan SpaceNo
copy_plan held from heads =
    unless (copy_refusal from heads) (unless (room_refusal heads) (Ok (next_number heads, Makes from ∷ forgetting held heads)))

-- a data space that a bound variable is to be of: where nothing stands in it, it gets the shape, and else it must have that
abbrev pub fitting_plan : Shape → SpaceNo → Option Shape → Plan SpaceNo
fitting_plan shape s None = Ok (s, Fills s shape ∷ [])
fitting_plan shape s (Some other) = if same_shape shape other then Ok (s, []) else Err WrongShape

abbrev pub bind_plan : Shape → Option SpaceNo → Heads → Plan SpaceNo
bind_plan shape space heads =
    for_one NoSpace space (λ s. unless (life_refusal s heads) (fitting_plan shape s (the_head s heads).shape))

-- ---- what is done

abbrev pub performed : SpaceOperation → List Value → Spaces → Result (Option Value × Spaces) Stop
performed operation vs spaces = carried_out (planned operation vs (heads_of spaces)) spaces

abbrev pub copied : Option SpaceNo → Option SpaceNo → Spaces → Result (SpaceNo × Spaces) Stop
copied held from spaces = carried_out (copy_plan held from (heads_of spaces)) spaces

abbrev pub bound : Shape → Option SpaceNo → Spaces → Result (SpaceNo × Spaces) Stop
bound shape space spaces = carried_out (bind_plan shape space (heads_of spaces)) spaces

-- the same on what is said of spaces without their values
abbrev pub heads_performed : SpaceOperation → List Value → Heads → Result (Option Value × Heads) Stop
heads_performed operation vs heads = heads_carried (planned operation vs heads) heads

abbrev pub heads_copied : Option SpaceNo → Option SpaceNo → Heads → Result (SpaceNo × Heads) Stop
heads_copied held from heads = heads_carried (copy_plan held from heads) heads

abbrev pub heads_bound : Shape → Option SpaceNo → Heads → Result (SpaceNo × Heads) Stop
heads_bound shape space heads = heads_carried (bind_plan shape space heads) heads

-- without the values of the spaces
abbrev pub heads_left : {A : Type 0} → Result (A × Spaces) Stop → Result (A × Heads) Stop
heads_left (Ok left) = Ok (left.0, heads_of left.1)
heads_left (Err stop) = Err stop
