-- Where no name and no heading has a type without meaning, nothing hangs on one.
use Rattle.std.proofs.Common.{◌≡◌, ℕ, zero, suc, ◌+◌, Bool, true, false, ◌||◌, ◌&&◌, if◌then◌else◌, List, [], ◌∷◌, ◌++◌, Option, Some, None, refl, sym, ap, subst, ◌∙◌}
use Rattle.std.specs.Prelude.{is_none, nat_eq, option_map, option_and_then, option_to_list, slice_get, map}
use Rattle.elan_types.specs.declared.core_phrase.Exit.{Exit}
use Rattle.std.specs.Option.{option_or, option_map_or}
use Rattle.std.specs.Str.{bytes_eq}
use Rattle.elan_names.specs.declared.entry.Denotes.{Denotes}
use Rattle.elan_names.specs.declared.entry.Denotes.TheVariants as denotes
use Rattle.elan_names.specs.declared.entry.Entry.{Entry}
use Rattle.elan_scope.specs.declared.scope.Scope.{Scope}
use Rattle.elan_scope.specs.declared.scope.Within.{Within}
use Rattle.elan_scope.specs.declared.scope.Home.{Home}
use Rattle.elan_scope.specs.declared.scope.Home.TheVariants.{Routine as of_routine, Packet as of_packet}
use Rattle.elan_names.specs.declared.type_name.TypeName.{TypeName}
use Rattle.elan_names.specs.declared.type_name.Named.{Named}
use Rattle.elan_names.specs.declared.type_name.Named.TheVariants.{Of, Size, Other}
use Rattle.elan_names.specs.Types.{is_open_named}
use Rattle.type_names.specs.Types.{look}
use Rattle.elan_names.specs.declared.heading.Sort.{Sort}
use Rattle.elan_names.specs.declared.heading.Sort.TheVariants.{Procedure, Operator}
use Rattle.elan_names.specs.declared.heading.What.{What}
use Rattle.elan_names.specs.declared.heading.What.TheVariants.{Routine, Refinement}
use Rattle.elan_names.specs.declared.heading.Heading.{Heading}
use Rattle.elan_names.specs.Names.{first_from, cells_held}
use Rattle.elan_names.specs.declared.interface.Inserted.{Inserted}
use Rattle.elan_names.specs.Interfaces.{exports}
use Rattle.elan_scope.specs.walks.Seen.{found_in_packets, found_around, found_within}
use Rattle.elan_scope.proofs.Layers.{found_as}
use Rattle.elan_scope.specs.Scope as scope
use Rattle.elan_scope.specs.Scope.{Found, Callable, first, found_in, first_named, from_inside, is_refinement, own_callable, own_callables, has_open, is_open_result, is_open_callable}
use Rattle.elan_scope.specs.Phrase as form
use Rattle.elan_scope.specs.Phrase.{Plain, plain}
use Rattle.elan_meant.specs.declared.meant.Meant.{Meant}
use Rattle.elan_meant.specs.Operands.{takes, may_take, is_unclear, becomes}
use Rattle.elan_meant.specs.Parts.{nth}
use Rattle.elan_check.specs.Below.value_rules.specs.Calls as c
use Rattle.elan_check.specs.Below.value_rules.specs.Calls.{holds_open, denotes_open, is_open_name, declares_open, is_open_type}
use Rattle.elan_check.specs.Below.elan_rules.specs.Units.{binding_if}
use Rattle.elan_check.specs.Below.elan_rules.specs.Rules.{hangs_on}
use Rattle.elan_judge.proofs.InScope.{Names}
use Rattle.type_names.proofs.Sound.{Mean}
use Rattle.elan_check.proofs.Clean.{Closed}

-- ---- headings

abbrev pub HeadingClosed : What → Type 0
HeadingClosed (Routine sort ps r) = (has_open ps ≡ false) × (is_open_result r ≡ false)
HeadingClosed (Refinement home) = Unit {0}

abbrev pub HeadingsClosed : List Heading → Type 0
HeadingsClosed [] = Unit {0}
HeadingsClosed (h ∷ hs) = HeadingClosed h.what × HeadingsClosed hs

-- the names of types that are declared in the scope
abbrev pub own_types : Scope → List TypeName
own_types z = option_map_or (λ (w : Within). w.types) z.routine z.types

abbrev pub PacketsClosed : List Inserted → Type 0
PacketsClosed [] = Unit {0}
PacketsClosed (p ∷ ps) = Closed p.interface.names × PacketsClosed ps

-- what stands around a phrase has types with meaning
pub record ScopeClosed (z : Scope) : Type 0 where
  pub packets : PacketsClosed z.packets
  pub level : Closed z.level
  pub routine : Closed (option_map_or (λ (w : Within). w.names) z.routine [])
  pub headings : HeadingsClosed z.headings
  pub types : Mean (own_types z)

abbrev CallablesClosed : List Callable → Type 0
CallablesClosed [] = Unit {0}
CallablesClosed (d ∷ ds) = (is_open_callable d ≡ false) × CallablesClosed ds

callables_append : (ds es : List Callable) → CallablesClosed ds → CallablesClosed es → CallablesClosed (ds ++ es)
callables_append [] es h k = k
callables_append (d ∷ ds) es h k = (h.0, callables_append ds es h.1 k)

or_false : (p q : Bool) → p ≡ false → q ≡ false → (p || q) ≡ false
or_false p q h k = cc

own_closed : (n : ℕ) (x : List ℕ) (w : What) → HeadingClosed w → CallablesClosed (own_callable n x w)
own_closed n x (Routine sort ps r) h = (or_false (has_open ps) (is_open_result r) h.0 h.1, tt)
own_closed n x (Refinement home) h = tt

all_own_closed : (n : ℕ) (hs : List Heading) → HeadingsClosed hs → CallablesClosed (own_callables n hs)
all_own_closed n [] h = tt
all_own_closed n (g ∷ hs) h =
    callables_append (own_callable n g.name g.what) (own_callables (n + 1) hs) (own_closed n g.name g.what h.0) (all_own_closed (n + 1) hs h.1)

first_closed : (test : Callable → Bool) (ds : List Callable) → CallablesClosed ds → (o : Option Callable) → first test ds ≡ o
    → option_map_or is_open_callable o false ≡ false
first_closed test [] h o e = subst (λ (p : Option Callable). option_map_or is_open_callable p false ≡ false) e refl
first_closed test (d ∷ ds) h o e = by_test (test d) (first_closed test ds h.1 o) e
  where
    by_test : (b : Bool) → (first test ds ≡ o → option_map_or is_open_callable o false ≡ false) → (if b then Some d else first test ds) ≡ o
        → option_map_or is_open_callable o false ≡ false
    by_test true rest g = subst (λ (p : Option Callable). option_map_or is_open_callable p false ≡ false) g h.0
    by_test false rest g = rest g

or_closed : (o q : Option Callable) → option_map_or is_open_callable o false ≡ false → option_map_or is_open_callable q false ≡ false
    → option_map_or is_open_callable (option_or o q) false ≡ false
or_closed None q h k = k
or_closed (Some d) q h k = h

pub nothing_unclear : (z : Scope) → HeadingsClosed z.headings → (sort : Sort) (x : List ℕ) (ms : List Meant) → is_unclear z sort x ms ≡ false
nothing_unclear z h sort x ms =
    let ds = own_callables z.bodies_before z.headings in
    let k = all_own_closed z.bodies_before z.headings h in
    or_closed (first (takes sort x ms) ds) (first (may_take sort x ms) ds) (first_closed (takes sort x ms) ds k (first (takes sort x ms) ds) refl)
    (first_closed (may_take sort x ms) ds k (first (may_take sort x ms) ds) refl)

-- ---- names

entry_closed : (k : ℕ) (es : List Entry) (x : List ℕ) (f : ℕ × Entry) → Closed es → first_from k es x ≡ Some f → holds_open f.1.denotes ≡ false
entry_closed k [] x f h e = absurd cc
entry_closed k (g ∷ es) x f h e = by_test (bytes_eq g.name x) (entry_closed (k + cells_held g.denotes) es x f h.1) e
  where
    by_test : (b : Bool) → (first_from (k + cells_held g.denotes) es x ≡ Some f → holds_open f.1.denotes ≡ false)
        → (if b then Some (k, g) else first_from (k + cells_held g.denotes) es x) ≡ Some f
        → holds_open f.1.denotes ≡ false
    by_test true rest i = let q : (k, g) ≡ f = cc in subst (λ (p : ℕ × Entry). holds_open p.1.denotes ≡ false) q h.0
    by_test false rest i = rest i

abbrev FoundClosed : Option Found → Type 0
FoundClosed None = Unit {0}
FoundClosed (Some f) = holds_open f.denotes ≡ false

in_closed : (home : Home) (es : List Entry) (x : List ℕ) → Closed es → FoundClosed (found_in home (first_named es x))
in_closed home es x h = by_found (first_named es x) refl
  where
    by_found : (o : Option (ℕ × Entry)) → first_named es x ≡ o → FoundClosed (found_in home o)
    by_found None e = tt
    by_found (Some f) e = entry_closed 0 es x f h e

inside_closed : (o : Option Found) → FoundClosed o → FoundClosed (from_inside o)
inside_closed None h = tt
inside_closed (Some f) h = by_test (is_refinement f.denotes)
  where
    by_test : (b : Bool) → FoundClosed (if b then None else Some f)
    by_test true = tt
    by_test false = h

or_found : (o q : Option Found) → FoundClosed o → FoundClosed q → FoundClosed (option_or o q)
or_found None q h k = k
or_found (Some f) q h k = h

-- what is seen of it
seen_closed : (b : Bool) (o : Option Found) → FoundClosed o → FoundClosed (if b then o else None)
seen_closed true o h = h
seen_closed false o h = tt

packets_closed : (x : List ℕ) (ps : List Inserted) → PacketsClosed ps → FoundClosed (found_in_packets x ps)
packets_closed x [] h = tt
packets_closed x (p ∷ ps) h =
    let home = of_packet p.cells_before in
    let o = found_in home (first_named p.interface.names x) in
    let shown = if exports p.interface x then o else None in
    or_found (from_inside shown) (found_in_packets x ps)
    (inside_closed shown (seen_closed (exports p.interface x) o (in_closed home p.interface.names x h.0)))
    (packets_closed x ps h.1)

abbrev within_names : Option Within → List Entry
within_names u = option_map_or (λ (w : Within). w.names) u []

around_closed : (z : Scope) (u : Option Within) → Closed z.level → Closed (within_names u) → (x : List ℕ) → FoundClosed (found_around x u z)
around_closed z None h k x = in_closed z.home z.level x h
around_closed z (Some w) h k x =
    or_found (found_in of_routine (first_named w.names x)) (from_inside (found_in z.home (first_named z.level x)))
    (in_closed of_routine w.names x k)
    (inside_closed (found_in z.home (first_named z.level x)) (in_closed z.home z.level x h))

found_closed : (z : Scope) → ScopeClosed z → (x : List ℕ) → FoundClosed (scope.find z x)
found_closed z h x =
    subst FoundClosed (sym (found_as x z))
    (or_found (found_within x z) (found_in_packets x z.packets) (around_closed z z.routine h.level h.routine x) (packets_closed x z.packets h.packets))

own_found : (z : Scope) → ScopeClosed z → (x : List ℕ) → FoundClosed (scope.find_own z x)
own_found z h x = by_routine z.routine h.routine
  where
    by_routine : (u : Option Within) → Closed (within_names u)
        → FoundClosed (option_and_then (scope.found x)
        (slice_get (option_to_list (option_map scope.routine_layer u) ++ scope.level_layer z ∷ (map scope.packet_layer z.packets ++ scope.predefined_layer ∷ [])) 0))
    by_routine None i = in_closed z.home z.level x h.level
    by_routine (Some w) i = in_closed of_routine w.names x i

denotes_closed : (z : Scope) → ScopeClosed z → (x : List ℕ) (d : Denotes) → holds_open d ≡ false → denotes_open z x d ≡ false
denotes_closed z h x denotes.Procedure e = nothing_unclear z h.headings Procedure x []
denotes_closed z h x (denotes.Variable t) e = e
denotes_closed z h x (denotes.Constant t) e = e
denotes_closed z h x (denotes.Bound t) e = e
denotes_closed z h x (denotes.Parameter p) e = e
denotes_closed z h x denotes.Refinement e = e
denotes_closed z h x (denotes.Denoter d) e = e

pub name_closed : (z : Scope) → ScopeClosed z → (x : List ℕ) → is_open_name z x (scope.find z x) ≡ false
name_closed z h x = by_found (scope.find z x) (found_closed z h x)
  where
    by_found : (o : Option Found) → FoundClosed o → is_open_name z x o ≡ false
    by_found None k = nothing_unclear z h.headings Procedure x []
    by_found (Some f) k = denotes_closed z h x f.denotes k

and_false : (p q : Bool) → q ≡ false → (p && q) ≡ false
and_false true q e = e
and_false false q e = refl

declares_closed : (z : Scope) → ScopeClosed z → (at : ℕ) (x : List ℕ) → declares_open at (scope.find_own z x) ≡ false
declares_closed z h at x = by_found (scope.find_own z x) (own_found z h x)
  where
    by_found : (o : Option Found) → FoundClosed o → declares_open at o ≡ false
    by_found None k = refl
    by_found (Some f) k = and_false (nat_eq f.at at) (holds_open f.denotes) k

type_closed : (z : Scope) → ScopeClosed z → (at : ℕ) (x : List ℕ) → is_open_type at (scope.find_own_type z x) ≡ false
type_closed z h at x = by_found (scope.find_own_type z x) refl
  where
    by_found : (o : Option TypeName) → scope.find_own_type z x ≡ o → is_open_type at o ≡ false
    by_found None e = refl
    by_found (Some t) e = and_false (nat_eq t.at at) (is_open_named t.of) (by_name t.of (ap (option_map (λ u. u.of)) e))
      where
        by_name : (n : Named) → look (own_types z) x ≡ Some n → is_open_named n ≡ false
        by_name (Of u) i = h.types x u i
        by_name (Size k) i = refl
        by_name Other i = refl

heading_at : (hs : List Heading) (n : ℕ) → HeadingsClosed hs → scope.is_open_heading (slice_get hs n) ≡ false
heading_at [] n h = refl
heading_at (g ∷ hs) zero h = by_what g.what h.0
  where
    by_what : (w : What) → HeadingClosed w → scope.delivers_open w ≡ false
    by_what (Routine sort ps r) k = k.1
    by_what (Refinement home) k = refl
heading_at (g ∷ hs) (suc n) h = heading_at hs n h.1

pub leave_closed : (z : Scope) → ScopeClosed z → (o : Option (Exit × ℕ)) → c.leaves_open z o ≡ false
leave_closed z h None = refl
leave_closed z h (Some e) = heading_at z.headings e.1 h.headings

-- ---- forms

pub nothing_hangs : (z : Scope) → ScopeClosed z → (at : ℕ) (f : Plain) → Names z (plain f) → (ms : List Meant) → hangs_on at f ms ≡ false
nothing_hangs z h at (form.applied y sort x) i ms = ap (λ (v : Scope). is_unclear v sort x ms) i ∙ nothing_unclear z h.headings sort x ms
nothing_hangs z h at (form.assignment y named) i ms =
    let operands = nth ms 0 ∷ nth ms 1 ∷ [] in
    and_false (is_none (binding_if named (nth ms 0) (nth ms 1))) (is_unclear y Operator becomes operands)
    (ap (λ (v : Scope). is_unclear v Operator becomes operands) i ∙ nothing_unclear z h.headings Operator becomes operands)
nothing_hangs z h at (form.declares y x) i ms = ap (λ (v : Scope). declares_open at (scope.find_own v x)) i ∙ declares_closed z h at x
nothing_hangs z h at (form.type_name y x) i ms = ap (λ (v : Scope). is_open_type at (scope.find_own_type v x)) i ∙ type_closed z h at x
nothing_hangs z h at (form.heading y sort x ps r missing) i ms = absurd i
nothing_hangs z h at form.absent i ms = refl
nothing_hangs z h at (form.number n) i ms = refl
nothing_hangs z h at (form.truth b) i ms = refl
nothing_hangs z h at (form.text x) i ms = refl
nothing_hangs z h at (form.start_name y x) i ms = refl
nothing_hangs z h at (form.start may) i ms = refl
nothing_hangs z h at form.bracket i ms = refl
nothing_hangs z h at (form.concr s) i ms = refl
nothing_hangs z h at form.index i ms = refl
nothing_hangs z h at (form.field x) i ms = refl
nothing_hangs z h at form.cand i ms = refl
nothing_hangs z h at form.cor i ms = refl
nothing_hangs z h at form.choice i ms = refl
nothing_hangs z h at (form.label e n) i ms = refl
nothing_hangs z h at (form.label_name e y x) i ms = refl
nothing_hangs z h at form.labels i ms = refl
nothing_hangs z h at form.selection i ms = refl
nothing_hangs z h at form.initial i ms = refl
nothing_hangs z h at form.declaration i ms = refl
nothing_hangs z h at form.definition i ms = refl
nothing_hangs z h at form.statement i ms = refl
nothing_hangs z h at form.loop i ms = refl
nothing_hangs z h at (form.count v) i ms = refl
nothing_hangs z h at form.without_value i ms = refl
nothing_hangs z h at (form.must_deliver t) i ms = refl
nothing_hangs z h at form.units i ms = refl
nothing_hangs z h at (form.exported d q) i ms = refl
nothing_hangs z h at (form.body o r) i ms = absurd i
nothing_hangs z h at form.routine i ms = absurd i
nothing_hangs z h at (form.refinement o) i ms = absurd i
nothing_hangs z h at form.level i ms = absurd i
