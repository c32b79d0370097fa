-- What changes make of data spaces, without their values, is what they make of what is said of them without their values.
use Rattle.std.proofs.Common.{◌≡◌, ℕ, ◌+◌, Bool, true, false, cond, List, [], ◌∷◌, ◌++◌, length, Option, Some, None, refl, sym, ap, ◌∙◌, nat_eq, arith}
use Rattle.std.specs.Prelude.{Result, Ok, Err, is_some, option_map}
use Rattle.std.specs.Option.{unwrap_or}
use Rattle.std.specs.Map.{lookup, remove_entry, set_value}
use Rattle.eu_base.specs.declared.value.Value.{Value}
use Rattle.eu_base.specs.declared.shape.Shape.{Shape}
use Rattle.eu_base.specs.declared.stop.Stop.{Stop}
use Rattle.eu_base.specs.declared.space_operation.SpaceOperation.{SpaceOperation}
use Rattle.eu_base.specs.Values.{SpaceNo}
use Rattle.eu_base.specs.DataSpaces.{Space, Head, Spaces, Heads, head_of, heads_in, heads_of, no_space, no_head, is_live, the_space, the_head, space_from, head_from}
use Rattle.eu_base.specs.DataSpaces.{with_new, with_other, without_space, shaped, SpaceChange, Makes, Gets, Forgets, SetsKind, Fills, Names, Unnames}
use Rattle.eu_base.specs.DataSpaces.{spaces_by, heads_by, spaces_after, heads_after}
use Rattle.eu_base.specs.SpaceOperations.{Plan, carried_out, heads_carried, heads_left, planned, copy_plan, bind_plan, performed, copied, bound, heads_performed, heads_copied, heads_bound}

-- ---- lists of what lives under numbers

module _ {T : Type 0} (head : T → Head) where
  pub append_heads : (live more : List (ℕ × T)) → heads_in head (live ++ more) ≡ heads_in head live ++ heads_in head more
  append_heads [] more = refl
  append_heads (e ∷ live) more = ap (λ (l : List (ℕ × Head)). (e.0, head e.1) ∷ l) (append_heads live more)

  pub lookup_head : (test : ℕ → Bool) (live : List (ℕ × T)) → lookup test (heads_in head live) ≡ option_map head (lookup test live)
  lookup_head test [] = refl
  lookup_head test (e ∷ live) = by (test e.0) (lookup_head test live)
    where
      by : (b : Bool) → lookup test (heads_in head live) ≡ option_map head (lookup test live)
          → cond b (Some (head e.1)) (lookup test (heads_in head live)) ≡ option_map head (cond b (Some e.1) (lookup test live))
      by true rest = refl
      by false rest = rest

  pub remove_head : (test : ℕ → Bool) (live : List (ℕ × T)) → heads_in head (remove_entry test live) ≡ remove_entry test (heads_in head live)
  remove_head test [] = refl
  remove_head test (e ∷ live) = by (test e.0) (remove_head test live)
    where
      by : (b : Bool) → heads_in head (remove_entry test live) ≡ remove_entry test (heads_in head live)
          → heads_in head (cond b live (e ∷ remove_entry test live))
          ≡ cond b (heads_in head live) ((e.0, head e.1) ∷ remove_entry test (heads_in head live))
      by true rest = refl
      by false rest = ap (λ (l : List (ℕ × Head)). (e.0, head e.1) ∷ l) rest

  pub set_head : (test : ℕ → Bool) (live : List (ℕ × T)) (w : T) → heads_in head (set_value test live w) ≡ set_value test (heads_in head live) (head w)
  set_head test [] w = refl
  set_head test (e ∷ live) w = by (test e.0) (set_head test live w)
    where
      by : (b : Bool) → heads_in head (set_value test live w) ≡ set_value test (heads_in head live) (head w)
          → heads_in head (cond b ((e.0, w) ∷ live) (e ∷ set_value test live w))
          ≡ cond b ((e.0, head w) ∷ heads_in head live) ((e.0, head e.1) ∷ set_value test (heads_in head live) (head w))
      by true rest = refl
      by false rest = ap (λ (l : List (ℕ × Head)). (e.0, head e.1) ∷ l) rest

  pub long_heads : (live : List (ℕ × T)) → length (heads_in head live) ≡ length live
  long_heads [] = refl
  long_heads (e ∷ live) = omega (arith, long_heads live)

  -- of the one under a number
  some_same : (o : Option T) → is_some (option_map head o) ≡ is_some o
  some_same None = refl
  some_same (Some t) = refl

  pub live_there : (n : ℕ) (live : List (ℕ × T)) → is_some (lookup (nat_eq n) (heads_in head live)) ≡ is_some (lookup (nat_eq n) live)
  live_there n live = ap (λ (o : Option Head). is_some o) (lookup_head (nat_eq n) live) ∙ some_same (lookup (nat_eq n) live)

  pub head_there : (none : T) (h : Head) → head none ≡ h → (n : ℕ) (live : List (ℕ × T))
      → unwrap_or (lookup (nat_eq n) (heads_in head live)) h ≡ head (unwrap_or (lookup (nat_eq n) live) none)
  head_there none h is n live = ap (λ (o : Option Head). unwrap_or o h) (lookup_head (nat_eq n) live) ∙ by (lookup (nat_eq n) live)
    where
      by : (o : Option T) → unwrap_or (option_map head o) h ≡ head (unwrap_or o none)
      by None = sym is
      by (Some t) = refl

-- ---- the space under a number

pub head_same : (s : SpaceNo) (spaces : Spaces) → the_head s (heads_of spaces) ≡ head_of (the_space s spaces)
head_same s spaces = head_there head_of no_space no_head refl s.0 spaces.live

pub live_same : (s : SpaceNo) (spaces : Spaces) → is_live s (heads_of spaces) ≡ is_live s spaces
live_same s spaces = live_there head_of s.0 spaces.live

from_same : (from : Option SpaceNo) (spaces : Spaces) → head_of (space_from from spaces) ≡ head_from from (heads_of spaces)
from_same None spaces = refl
from_same (Some s) spaces = sym (head_same s spaces)

-- ---- changes

-- what is said of spaces whose list is another
abbrev with_live : Spaces → List (ℕ × Head) → Heads
with_live spaces live = record { live = live; last = spaces.last; names = spaces.names }

other_same : (s : SpaceNo) (w : Space) (h : Head) (spaces : Spaces) → head_of w ≡ h → heads_of (with_other s w spaces) ≡ with_other s h (heads_of spaces)
other_same s w h spaces is =
    ap (with_live spaces) (set_head head_of (nat_eq s.0) spaces.live w)
    ∙ ap (λ (g : Head). with_live spaces (set_value (nat_eq s.0) (heads_in head_of spaces.live) g)) is

pub by_same : (change : SpaceChange) (spaces : Spaces) → heads_of (spaces_by change spaces) ≡ heads_by change (heads_of spaces)
by_same (Makes from) spaces =
    let new = space_from from spaces in
    ap (λ (live : List (ℕ × Head)). record (with_live spaces live) { last = spaces.last + 1 }) (append_heads head_of spaces.live ((spaces.last + 1, new) ∷ []))
    ∙ ap (λ (h : Head). with_new h (heads_of spaces)) (from_same from spaces)
by_same (Gets content) spaces =
    ap (λ (live : List (ℕ × Head)). record (with_live spaces live) { last = spaces.last + 1 }) (append_heads head_of spaces.live ((spaces.last + 1, content) ∷ []))
by_same (Forgets s) spaces =
    ap (λ (live : List (ℕ × Head)). record (with_live spaces live) { names = (without_space s spaces).names }) (remove_head head_of (nat_eq s.0) spaces.live)
by_same (SetsKind s z) spaces =
    other_same s (record (the_space s spaces) { kind = z }) (record (the_head s (heads_of spaces)) { kind = z }) spaces
    (ap (λ (h : Head). record h { kind = z }) (sym (head_same s spaces)))
by_same (Fills s shape) spaces =
    other_same s (shaped shape (the_space s spaces)) (record (the_head s (heads_of spaces)) { shape = Some shape }) spaces
    (ap (λ (h : Head). record h { shape = Some shape }) (sym (head_same s spaces)))
by_same (Names name s) spaces = refl
by_same (Unnames name) spaces = refl

pub after_same : (changes : List SpaceChange) (spaces : Spaces) → heads_of (spaces_after changes spaces) ≡ heads_after changes (heads_of spaces)
after_same [] spaces = refl
after_same (change ∷ changes) spaces =
    after_same changes (spaces_by change spaces) ∙ ap (heads_after changes) (by_same change spaces)

-- ---- plans

pub carried_same : {A : Type 0} (plan : Plan A) (spaces : Spaces) → heads_left (carried_out plan spaces) ≡ heads_carried plan (heads_of spaces)
carried_same {A} (Ok plan) spaces =
    let ok : A → Heads → Result (A × Heads) Stop = λ a heads. Ok (a, heads) in
    ap (ok plan.0) (after_same plan.1 spaces)
carried_same (Err stop) spaces = refl

pub performed_heads : (operation : SpaceOperation) (vs : List Value) (spaces : Spaces)
    → heads_left (performed operation vs spaces) ≡ heads_performed operation vs (heads_of spaces)
performed_heads operation vs spaces = carried_same (planned operation vs (heads_of spaces)) spaces

pub copied_heads : (held from : Option SpaceNo) (spaces : Spaces) → heads_left (copied held from spaces) ≡ heads_copied held from (heads_of spaces)
copied_heads held from spaces = carried_same (copy_plan held from (heads_of spaces)) spaces

pub bound_heads : (shape : Shape) (space : Option SpaceNo) (spaces : Spaces)
    → heads_left (bound shape space spaces) ≡ heads_bound shape space (heads_of spaces)
bound_heads shape space spaces = carried_same (bind_plan shape space (heads_of spaces)) spaces
