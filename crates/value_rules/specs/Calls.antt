-- Names, calls of PROCs, OPs and refinements, and LEAVE.
use Rattle.std.specs.Prelude.{ℕ, ◌+◌, ◌==◌, Bool, true, false, ◌||◌, ◌&&◌, List, [], ◌∷◌, length, Option, Some, None, is_some, if◌then◌else◌, nat_eq, slice_get, codes}
use Rattle.std.specs.Option.{option_map_or}
use Rattle.std.specs.Str.{bytes_eq}
use Rattle.eu_base.specs.declared.request.RequestName.TheVariants as requests
use Rattle.elan_types.specs.declared.elan_type.ElanType.{ElanType}
use Rattle.elan_types.specs.Types.{shape_in, is_open}
use Rattle.elan_types.specs.declared.core_phrase.PlacePhrase.{PlacePhrase}
use Rattle.elan_types.specs.declared.core_phrase.PlacePhrase.TheVariants as place
use Rattle.elan_types.specs.declared.core_phrase.ValuePhrase.{ValuePhrase}
use Rattle.elan_types.specs.declared.core_phrase.ValuePhrase.TheVariants as value
use Rattle.elan_types.specs.declared.core_phrase.Action.{Action}
use Rattle.elan_types.specs.declared.core_phrase.Action.TheVariants as action
use Rattle.elan_types.specs.declared.core_phrase.Access.{Access}
use Rattle.elan_types.specs.declared.core_phrase.Access.TheVariants.{Const, Var}
use Rattle.elan_types.specs.declared.elan_type.Parameter.{Parameter}
use Rattle.elan_types.specs.declared.core_phrase.Actual.{Actual}
use Rattle.elan_types.specs.declared.core_phrase.Actual.TheVariants as actual
use Rattle.elan_types.specs.declared.core_phrase.Exit.{Exit}
use Rattle.elan_types.specs.declared.why.Why.TheVariants.{Unknown, Doubled, WrongType, NoVariable, WrongPlace}
use Rattle.elan_names.specs.declared.entry.Denotes.{Denotes}
use Rattle.elan_names.specs.declared.entry.Denotes.TheVariants as denotes
use Rattle.elan_scope.specs.declared.delivery.Delivery.{Delivery}
use Rattle.elan_scope.specs.declared.delivery.Delivery.TheVariants.{Open, Nothing, Of}
use Rattle.elan_names.specs.declared.heading.Sort.{Sort}
use Rattle.elan_names.specs.declared.heading.Sort.TheVariants.{Procedure, Operator}
use Rattle.elan_names.specs.declared.heading.Heading.{Heading}
use Rattle.elan_meant.specs.declared.meant.Meant.{Meant}
use Rattle.elan_meant.specs.declared.meant.Meant.TheVariants.{Absent, Variable, Value, Done, Left, Start}
use Rattle.elan_names.specs.Callees.{Callee}
use Rattle.elan_names.specs.Callees.{Predefined, Body}
use Rattle.elan_names.specs.declared.predefined.Predefined.TheVariants.{Operation, Change, Request, OnSpaces, ErrorStop}
use Rattle.elan_scope.specs.Scope.{Callable, predefined_callable, find, is_known, can_be_called, refinement_named, held, has_open, is_open_result, is_open_heading}
use Rattle.elan_names.specs.declared.type_name.TypeName.{TypeName}
use Rattle.elan_names.specs.Types.{is_open_named}
use Rattle.elan_scope.specs.declared.scope.Scope.{Scope}
use Rattle.elan_scope.specs.Scope.{Found}
use Rattle.elan_scope.specs.declared.scope.Home.{Home}
use Rattle.elan_scope.specs.declared.scope.Home.TheVariants.{Level as of_level, Routine as of_routine, Packet as of_packet}
use Rattle.elan_meant.specs.Verdict.{Verdict, gives, breaks, ◌>>=◌, told, is_given, unless}
use Rattle.elan_meant.specs.Operands.{delivers, fit, chosen, is_unclear}
use Rattle.elan_scope.specs.Known.{leads_back, delivery_at}
use Rattle.elan_scope.specs.declared.known.Known.{Known}
use Rattle.elan_scope.specs.declared.scope.Usage.{Usage}
use Rattle.elan_scope.specs.declared.scope.Usage.TheVariants.{Expression, Counter}
use Rattle.elan_meant.specs.Parts.{nth, value_of, variable, type_in}
use Rattle.elan_scope.specs.Ruled.{Ruled, hangs}
use Rattle.value_rules.specs.Values.{denoter}

-- ---- variables, constants and parameters

-- the place of what is held with this access; only PROCs and OPs have parameters
abbrev pub place_in : Home → ℕ → Access → PlacePhrase
place_in of_level n a = place.Variable n
place_in (of_packet b) n a = place.Packet (b + n)
place_in of_routine n Const = place.Local n
place_in of_routine n Var = place.Parameter n

-- A constant is a value.
abbrev pub constant : ℕ → ElanType → PlacePhrase → Meant
constant at t p = Value at t (value.Load p (shape_in t))

-- A CONST parameter is a constant, a VAR parameter a variable.
abbrev pub parameter : ℕ → ElanType → Access → PlacePhrase → Meant
parameter at t Const p = constant at t p
parameter at t Var p = Variable at t p

-- A BOUND variable stands for the content of the data space to which it is bound.
abbrev pub bound : ℕ → ElanType → PlacePhrase → Meant
bound at t p = Variable at t (place.Content p (shape_in t))

-- ---- calls

-- A variable is needed for a VAR parameter.
abbrev pub given_as : ℕ → Access → ElanType → Meant → Verdict Actual
given_as at Const t m = gives (actual.Value (value_of m))
given_as at Var t m = variable at m >>= (λ x. gives (actual.Place x (shape_in t)))

-- what parameters are given, from left to right
abbrev pub given : ℕ → List Parameter → List Meant → Verdict (List Actual)
given at [] ms = gives []
given at (p ∷ ps) [] = gives []
given at (p ∷ ps) (m ∷ ms) = given_as at p.access p.of m >>= (λ a. given at ps ms >>= (λ as'. gives (a ∷ as')))

abbrev pub values_in : List Actual → List ValuePhrase
values_in [] = []
values_in (actual.Value v ∷ as') = v ∷ values_in as'
values_in (actual.Place x s ∷ as') = values_in as'

-- what a callee that delivers this, or nothing, does with what it is given, if that suits it
abbrev pub performed : ℕ → Callee → Option ElanType → List Actual → Verdict Meant
performed at (Predefined (Operation o)) (Some t) as' = gives (Value at t (value.Apply o (values_in as')))
performed at (Predefined (Change c)) r (actual.Place x s ∷ actual.Value v ∷ []) = gives (Done (action.Modify c x v ∷ []))
performed at (Predefined (Request q)) (Some t) as' = gives (Value at t (value.Ask q as'))
performed at (Predefined (Request q)) None as' = gives (Done (action.Ask q as' ∷ []))
performed at (Predefined (OnSpaces o)) (Some t) as' = gives (Value at t (value.Consult o (values_in as')))
performed at (Predefined (OnSpaces o)) None as' = gives (Done (action.Perform o (values_in as') ∷ []))
performed at (Predefined ErrorStop) r (actual.Value v ∷ []) = gives (Done (action.ErrorStop v ∷ []))
performed at (Body n) (Some t) as' = gives (Value at t (value.Call n as' (shape_in t)))
performed at (Body n) None as' = gives (Done (action.Call n as' ∷ []))
performed at c r as' = breaks (at, WrongType)

abbrev pub called : ℕ → Callable → List Meant → Verdict Meant
called at c ms = given at c.parameters ms >>= performed at c.callee c.result

-- ---- operators, and identifiers with actuals

-- `begin` takes three operands, of which the second is PROC with the name of a start procedure
abbrev pub begin : List ℕ
begin = codes "begin"

abbrev pub is_begin : Sort → List ℕ → ℕ → Bool
is_begin Procedure x n = n == 3 && bytes_eq x begin
is_begin Operator x n = false

-- A name that exists with that number of operands, but not for these types, has the wrong type.
abbrev pub applied_as : ℕ → Bool → List Meant → Option Callable → Verdict Meant
applied_as at known ms (Some c) = called at c ms
applied_as at known ms None = if known then breaks (at, WrongType) else breaks (at, Unknown)

-- `begin` with a start procedure, which is no value: the request has it in its name
abbrev pub begins : ℕ → Callable
begins n = predefined_callable (Procedure, begin, Request (requests.Begin n))

abbrev pub begun : ℕ → ℕ → List Meant → Verdict Meant
begun at n ms = if fit (begins n).parameters ms then called at (begins n) ms else breaks (at, WrongType)

-- the start procedure, where the second of three operands is one
abbrev pub start_in : Meant → Option ℕ
start_in (Start n) = Some n
start_in m = None

abbrev pub start_among : List Meant → Option ℕ
start_among (a ∷ m ∷ b ∷ []) = start_in m
start_among ms = None

abbrev pub applied_or : ℕ → Scope → Sort → List ℕ → List Meant → Option ℕ → Verdict Meant
applied_or at s sort x ms (Some n) = begun at n (nth ms 0 ∷ nth ms 2 ∷ [])
applied_or at s sort x ms None = applied_as at (is_begin sort x (length ms) || is_known s sort x (length ms)) ms (chosen s sort x ms)

abbrev pub applied : ℕ → Scope → Sort → List ℕ → List Meant → Verdict Meant
applied at s sort x ms = applied_or at s sort x ms (start_among ms)

-- ---- PROC with a name

-- a PROC of a packet
abbrev pub is_procedure_in : Home → Denotes → Bool
is_procedure_in (of_packet b) denotes.Procedure = true
is_procedure_in home d = false

abbrev pub is_procedure : Option Found → Bool
is_procedure None = false
is_procedure (Some f) = is_procedure_in f.home f.denotes

-- a body that delivers nothing
abbrev pub without_result : Callee → Option ElanType → Option ℕ
without_result (Body n) None = Some n
without_result c r = None

abbrev pub body_of : Option Callable → Option ℕ
body_of None = None
body_of (Some c) = without_result c.callee c.result

-- the number among all bodies of the PROC of that name in which a task can start: one of a packet, without parameters, that delivers nothing
abbrev pub start_of : Scope → List ℕ → Option ℕ
start_of s x = if is_procedure (find s x) then body_of (chosen s Procedure x []) else None

-- A name is known that denotes something, or that can be called; `begin` can.
abbrev pub is_name_known : Scope → List ℕ → Bool
is_name_known s x = is_some (find s x) || (bytes_eq x begin || can_be_called s Procedure x)

abbrev pub start_as : ℕ → Bool → Option ℕ → Verdict Meant
start_as at known (Some n) = gives (Start n)
start_as at known None = if known then gives Absent else breaks (at, Unknown)

abbrev pub start_named : ℕ → Scope → List ℕ → Verdict Meant
start_named at s x = start_as at (is_name_known s x) (start_of s x)

-- It stands as the second actual of `begin`, and nowhere else.
abbrev pub started : ℕ → Bool → Meant → Verdict Meant
started at true (Start n) = gives (Start n)
started at may m = breaks (at, WrongPlace)

-- ---- refinements

-- Where it is not known what a refinement delivers, a call of it hangs on that. It has this number among all bodies
abbrev pub referred : ℕ → ℕ → Delivery → Ruled Meant
referred at n Open = hangs
referred at n Nothing = told (gives (Done (action.Refer n ∷ [])))
referred at n (Of t) = told (gives (Value at t (value.Refer n (shape_in t))))

-- A refinement does not call itself through any chain. A name that no refinement has is unknown.
abbrev pub refined : Known → ℕ → Scope → Option ℕ → Ruled Meant
refined k at s None = told (breaks (at, Unknown))
refined k at s (Some n) = if leads_back k n s.refinement then told (breaks (at, WrongPlace)) else referred at (s.bodies_before + n) (delivery_at k n)

-- The identifier after FOR is no call, and a refinement is no variable, whatever it delivers.
abbrev pub refined_as : Known → Usage → ℕ → Scope → Option ℕ → Ruled Meant
refined_as k Expression at s o = refined k at s o
refined_as k Counter at s o = told (breaks (at, NoVariable))

-- ---- identifiers without actuals

abbrev pub denoted : Known → Usage → ℕ → Scope → List ℕ → Home → ℕ → Denotes → Ruled Meant
denoted k u at s x home n (denotes.Variable t) = told (gives (Variable at t (place_in home n Const)))
denoted k u at s x home n (denotes.Constant t) = told (gives (constant at t (place_in home n Const)))
denoted k u at s x home n (denotes.Bound t) = told (gives (bound at t (place_in home n Const)))
denoted k u at s x home n (denotes.Parameter p) = told (gives (parameter at p.of p.access (place_in home n p.access)))
denoted k u at s x home n denotes.Procedure = told (applied at s Procedure x [])
denoted k u at s x home n denotes.Refinement = refined_as k u at s (refinement_named s x)
denoted k u at s x home n (denotes.Denoter d) = told (denoter at d)

abbrev pub named : Known → Usage → ℕ → Scope → List ℕ → Option Found → Ruled Meant
named k u at s x (Some f) = denoted k u at s x f.home f.number f.denotes
named k u at s x None = told (applied at s Procedure x [])

-- what is held under a name, or the content for which it stands, has a type without meaning
abbrev pub holds_open : Denotes → Bool
holds_open (denotes.Bound t) = is_open t
holds_open d = has_open (held d)

-- A name hangs on a type that has no meaning: that of a variable, constant or parameter, of the content of a data space, or of what a PROC
-- takes or delivers.
abbrev pub denotes_open : Scope → List ℕ → Denotes → Bool
denotes_open s x denotes.Procedure = is_unclear s Procedure x []
denotes_open s x d = holds_open d

abbrev pub is_open_name : Scope → List ℕ → Option Found → Bool
is_open_name s x (Some f) = denotes_open s x f.denotes
is_open_name s x None = is_unclear s Procedure x []

-- So does a LEAVE of a PROC or OP that delivers such.
abbrev pub leaves_open : Scope → Option (Exit × ℕ) → Bool
leaves_open s left = option_map_or (λ e. is_open_heading (slice_get s.headings e.1)) left false

-- ---- declarations

-- The declaration of a name hangs on its type, where it is the first of that name.
abbrev pub declares_open : ℕ → Option Found → Bool
declares_open at None = false
declares_open at (Some f) = nat_eq f.at at && holds_open f.denotes

-- The name of a type in its declaration: it is declared where the first declaration of that name is this one, and hangs on its type.
abbrev pub type_declared : ℕ → Option TypeName → Verdict Meant
type_declared at None = breaks (at, Unknown)
type_declared at (Some t) = if nat_eq t.at at then gives (Done []) else breaks (at, Doubled)

abbrev pub is_open_type : ℕ → Option TypeName → Bool
is_open_type at None = false
is_open_type at (Some t) = nat_eq t.at at && is_open_named t.of

-- a name in its declaration: a variable or constant can be given its initial value there
abbrev pub declared_as : ℕ → Home → ℕ → Denotes → Meant
declared_as at home n (denotes.Variable t) = Variable at t (place_in home n Const)
declared_as at home n (denotes.Constant t) = Variable at t (place_in home n Const)
declared_as at home n (denotes.Bound t) = bound at t (place_in home n Const)
declared_as at home n d = Done []

-- A name is declared where the first declaration of that name is this one. One that is declared nowhere is unknown.
abbrev pub declared : ℕ → Option Found → Verdict Meant
declared at None = breaks (at, Unknown)
declared at (Some f) = if nat_eq f.at at then gives (declared_as at f.home f.number f.denotes) else breaks (at, Doubled)

-- the heading of a PROC or OP, of which the first with equal name and types of parameters is this one. A value can be missing
abbrev pub headed_as : ℕ → Bool → Verdict Meant
headed_as at missing = if missing then breaks (at, WrongType) else gives (Done [])

abbrev pub headed : ℕ → Bool → Option (ℕ × Heading) → Verdict Meant
headed at missing None = breaks (at, Unknown)
headed at missing (Some b) = if nat_eq b.1.at at then headed_as at missing else breaks (at, Doubled)

-- Where what is written for a parameter has no meaning, no other heading is equal to it.
abbrev pub heading : ℕ → List Parameter → Bool → Option (ℕ × Heading) → Verdict Meant
heading at ps missing first = if has_open ps then headed_as at missing else headed at missing first

-- It hangs on its types.
abbrev pub heading_open : List Parameter → Option ElanType → Verdict Meant → Bool
heading_open ps r v = (has_open ps || is_open_result r) && is_given v

abbrev pub heading_ruled : ℕ → List Parameter → Option ElanType → Bool → Option (ℕ × Heading) → Ruled Meant
heading_ruled at ps r missing first = unless (heading_open ps r (heading at ps missing first)) (told (heading at ps missing first))

-- ---- what a packet shows

abbrev pub exported_as : ℕ → Option Bool → Verdict Meant
exported_as at None = breaks (at, Unknown)
exported_as at (Some false) = breaks (at, WrongPlace)
exported_as at (Some true) = gives (Done [])

-- A name is shown once. What may be shown stands under it.
abbrev pub exported : ℕ → Bool → Option Bool → Verdict Meant
exported at doubled may = if doubled then breaks (at, Doubled) else exported_as at may

-- ---- LEAVE

-- Without a value, or with one, it agrees with what it leaves. Nothing is asked of the value where that is not known.
abbrev pub agrees : Delivery → Meant → Bool
agrees Open Absent = true
agrees Open m = is_some (type_in m)
agrees Nothing Absent = true
agrees Nothing m = false
agrees (Of t) m = delivers t m

abbrev pub leave_with : Exit → Option ElanType → ValuePhrase → Action
leave_with e None v = action.Leave e
leave_with e (Some t) v = action.LeaveWith e (shape_in t) v

-- It names the refinement, PROC or OP in which it stands.
abbrev pub leaving : Known → ℕ → Option (Exit × ℕ) → Meant → Verdict Meant
leaving k at None m = breaks (at, WrongPlace)
leaving k at (Some e) m =
    if agrees (delivery_at k e.1) m
    then gives (Left (action.Unit (leave_with e.0 (type_in m) (value_of m) ∷ []) ∷ []))
    else breaks (at, WrongType)
