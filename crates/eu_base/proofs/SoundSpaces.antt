-- Procedures on data spaces leave sound data spaces, and give values of their kinds.
use Rattle.std.proofs.Common.{◌≡◌, ◌+◌, ◌<◌, ◌≤◌, ℕ, Bool, true, false, not, cond, nat_eq, List, [], ◌∷◌, ◌++◌, map, length, Option, Some, None, refl, sym, subst, arith}
use Rattle.std.specs.Prelude.{Ok, Err, nat_le, bytes_eq, if◌then◌else◌}
use Rattle.std.specs.List.{AllByRecursion, filter}
use Rattle.std.specs.Map.{lookup, remove_entry, set_value}
use Rattle.std.specs.Option.{unwrap_or}
use Rattle.std.specs.Int.{w16}
use Rattle.std.specs.Int.RustNames.{FitsSigned}
use Rattle.std.proofs.lemmas.Int.{ints}
use Rattle.task_numbers.specs.Directory as directory
use Rattle.eu_base.specs.declared.value.Kind.{Kind}
use Rattle.eu_base.specs.declared.value.Kind.TheVariants as kinds
use Rattle.eu_base.specs.declared.value.Value.{Value}
use Rattle.eu_base.specs.declared.value.Value.TheVariants as values
use Rattle.eu_base.specs.declared.shape.Shape.{Shape}
use Rattle.eu_base.specs.Shapes.{cell_kinds}
use Rattle.eu_base.specs.Values.{SpaceNo, IsOf, blank_of}
use Rattle.eu_base.specs.DataSpaces.{Space, Spaces, no_space, last_number, the_space, space_from, shaped, SpaceChange, Makes, Gets, Forgets, SetsKind, Fills, Names, Unnames, spaces_by}
use Rattle.eu_base.specs.DataSpaces.{Head, Heads, heads_of, most_live, is_live, the_head, under, spaces_after}
use Rattle.eu_base.specs.declared.stop.Stop.{Stop}
use Rattle.eu_base.specs.declared.stop.Stop.TheVariants.{NoSpace, WrongShape, ManySpaces, SpaceNumbers, NoName}
use Rattle.eu_base.specs.declared.space_operation.SpaceOperation.{SpaceOperation}
use Rattle.eu_base.specs.declared.space_operation.SpaceOperation.TheVariants.{KindOf, New, Old, IsNamed, SetKind, Forget, ForgetNamed, Rename, CopyNamed}
use Rattle.eu_base.specs.Shapes.{same_shape}
use Rattle.eu_base.specs.Values.{IsSpaceNumber}
use Rattle.eu_base.specs.Operations.{number_at, text_at, space_at}
use Rattle.eu_base.specs.SpaceOperations.{space_result_kind, Plan, carried_out, unless, for_one, name_refusal, room_refusal, life_refusal, forgetting}
use Rattle.eu_base.specs.SpaceOperations.{kind_plan, planned, copy_refusal, copy_plan, fitting_plan, bind_plan, performed, copied, bound}
use Rattle.eu_base.specs.SoundSpaces.{AreOf, none, one, IsSpace, AreSpaces, CanCome, AllCanCome, GivesOf}
use Rattle.eu_base.specs.Requests.{Answer}
use Rattle.eu_base.proofs.Heads.{head_same}

-- ---- a list of what is so

module _ {X : Type 0} (P : X → Type 0) where
  all_push : (xs : List X) (x : X) → AllByRecursion P xs → P x → AllByRecursion P (xs ++ x ∷ [])
  all_push [] x all here = (here, tt)
  all_push (y ∷ xs) x all here = (all.0, all_push xs x all.1 here)

  all_filter : (test : X → Bool) (xs : List X) → AllByRecursion P xs → AllByRecursion P (filter test xs)
  all_filter test [] all = tt
  all_filter test (x ∷ xs) all = by (test x) (all_filter test xs all.1)
    where
      by : (b : Bool) → AllByRecursion P (filter test xs) → AllByRecursion P (cond b (x ∷ filter test xs) (filter test xs))
      by true rest = (all.0, rest)
      by false rest = rest

module _ {K X : Type 0} (P : K × X → Type 0) (test : K → Bool) where
  all_without : (xs : List (K × X)) → AllByRecursion P xs → AllByRecursion P (remove_entry test xs)
  all_without [] all = tt
  all_without (x ∷ xs) all = by (test x.0) (all_without xs all.1)
    where
      by : (b : Bool) → AllByRecursion P (remove_entry test xs) → AllByRecursion P (cond b xs (x ∷ remove_entry test xs))
      by true rest = all.1
      by false rest = (all.0, rest)

module _ (test : ℕ → Bool) where
  all_with : (live : List (ℕ × Space)) (w : Space) → AllByRecursion (λ e. IsSpace e.1) live → IsSpace w
      → AllByRecursion (λ e. IsSpace e.1) (set_value test live w)
  all_with [] w all here = tt
  all_with (e ∷ live) w all here = by (test e.0) (all_with live w all.1 here)
    where
      by : (b : Bool) → AllByRecursion (λ e. IsSpace e.1) (set_value test live w)
          → AllByRecursion (λ e. IsSpace e.1) (cond b ((e.0, w) ∷ live) (e ∷ set_value test live w))
      by true rest = (here, all.1)
      by false rest = (all.0, rest)

  all_at : (live : List (ℕ × Space)) → AllByRecursion (λ e. IsSpace e.1) live → IsSpace no_space → IsSpace (unwrap_or (lookup test live) no_space)
  all_at [] all nil = nil
  all_at (e ∷ live) all nil = by (test e.0) (all_at live all.1 nil)
    where
      by : (b : Bool) → IsSpace (unwrap_or (lookup test live) no_space) → IsSpace (unwrap_or (cond b (Some e.1) (lookup test live)) no_space)
      by true rest = all.0
      by false rest = rest

-- ---- changes

pub no_space_sound : IsSpace no_space
no_space_sound = record { kind = grind (arith, ints); values = none }

-- and it can come, as it does with a reply that is no message
pub no_space_comes : CanCome no_space
no_space_comes = record { space = no_space_sound; fits = omega arith }

pub come_push : (answers : List Answer) (a : Answer) → AllCanCome answers → CanCome a.content → AllCanCome (answers ++ a ∷ [])
come_push answers a all can = all_push (λ (x : Answer). CanCome x.content) answers a all can

pub space_sound : (s : SpaceNo) (spaces : Spaces) → AreSpaces spaces → IsSpace (the_space s spaces)
space_sound s spaces sound = all_at (nat_eq s.0) spaces.live sound.each no_space_sound

from_sound : (from : Option SpaceNo) (spaces : Spaces) → AreSpaces spaces → IsSpace (space_from from spaces)
from_sound None spaces sound = no_space_sound
from_sound (Some s) spaces sound = space_sound s spaces sound

blank_is : (k : Kind) → IsOf k (blank_of k)
blank_is kinds.Int = grind (arith, ints)
blank_is kinds.Truth = tt
blank_is kinds.Text = omega arith
blank_is kinds.Task = omega arith
blank_is kinds.Space = omega arith

pub blanks_are : (ks : List Kind) → AreOf ks (map blank_of ks)
blanks_are [] = none
blanks_are (k ∷ ks) = one (blank_is k) (blanks_are ks)

pub shaped_sound : (shape : Shape) (space : Space) → IsSpace space → IsSpace (shaped shape space)
shaped_sound shape space sound = record { kind = sound.kind; values = blanks_are (cell_kinds shape) }

-- a change that can be made: there is a number for a space more, the type has 16 bits, and the number under a name has 32
abbrev pub CanBe : SpaceChange → Spaces → Type 0
CanBe (Makes from) spaces = spaces.last < last_number
CanBe (Gets content) spaces = (spaces.last < last_number) × IsSpace content
CanBe (Forgets s) spaces = Unit {0}
CanBe (SetsKind s z) spaces = FitsSigned w16 z
CanBe (Fills s shape) spaces = Unit {0}
CanBe (Names name s) spaces = s.0 ≤ last_number
CanBe (Unnames name) spaces = Unit {0}

pub change_sound : (change : SpaceChange) (spaces : Spaces) → CanBe change spaces → AreSpaces spaces → AreSpaces (spaces_by change spaces)
change_sound (Makes from) spaces can sound = record {
  each = all_push (λ (e : ℕ × Space). IsSpace e.1) spaces.live (spaces.last + 1, space_from from spaces) sound.each (from_sound from spaces sound);
  given = omega (arith, can);
  named = sound.named;
}
change_sound (Gets content) spaces can sound = record {
  each = all_push (λ (e : ℕ × Space). IsSpace e.1) spaces.live (spaces.last + 1, content) sound.each can.1;
  given = omega (arith, can.0);
  named = sound.named;
}
change_sound (Forgets s) spaces can sound = record {
  each = all_without (λ (e : ℕ × Space). IsSpace e.1) (nat_eq s.0) spaces.live sound.each;
  given = sound.given;
  named = all_filter (λ (e : List ℕ × SpaceNo). e.1.0 ≤ last_number) (λ e. not (nat_eq s.0 e.1.0)) spaces.names sound.named;
}
change_sound (SetsKind s z) spaces can sound = record {
  each = all_with (nat_eq s.0) spaces.live (record (the_space s spaces) { kind = z }) sound.each
      (record { kind = can; values = (space_sound s spaces sound).values });
  given = sound.given;
  named = sound.named;
}
change_sound (Fills s shape) spaces can sound = record {
  each = all_with (nat_eq s.0) spaces.live (shaped shape (the_space s spaces)) sound.each
      (shaped_sound shape (the_space s spaces) (space_sound s spaces sound));
  given = sound.given;
  named = sound.named;
}
change_sound (Names name s) spaces can sound = record {
  each = sound.each;
  given = sound.given;
  named = all_push (λ (e : List ℕ × SpaceNo). e.1.0 ≤ last_number) spaces.names (name, s) sound.named can;
}
change_sound (Unnames name) spaces can sound = record {
  each = sound.each;
  given = sound.given;
  named = all_without (λ (e : List ℕ × SpaceNo). e.1.0 ≤ last_number) (λ other. bytes_eq name other) spaces.names sound.named;
}

-- one change behind the other
abbrev pub CanAll : List SpaceChange → Spaces → Type 0
CanAll [] spaces = Unit {0}
CanAll (change ∷ changes) spaces = CanBe change spaces × CanAll changes (spaces_by change spaces)

pub changes_sound : (changes : List SpaceChange) (spaces : Spaces) → CanAll changes spaces → AreSpaces spaces → AreSpaces (spaces_after changes spaces)
changes_sound [] spaces can sound = sound
changes_sound (change ∷ changes) spaces can sound =
    changes_sound changes (spaces_by change spaces) can.1 (change_sound change spaces can.0 sound)

-- ---- plans

-- its changes can be made, and what it gives is so
abbrev pub IsPlan : {A : Type 0} → (A → Type 0) → Spaces → Plan A → Type 0
IsPlan P spaces (Ok plan) = P plan.0 × CanAll plan.1 spaces
IsPlan P spaces (Err stop) = Unit {0}

module _ {A : Type 0} (P : A → Type 0) (spaces : Spaces) where
  unless_sound : (o : Option Stop) (plan : Plan A) → (o ≡ None → IsPlan P spaces plan) → IsPlan P spaces (unless o plan)
  unless_sound None plan sound = sound refl
  unless_sound (Some stop) plan sound = tt

  for_one_sound : (stop : Stop) (o : Option SpaceNo) (f : SpaceNo → Plan A) → ((s : SpaceNo) → o ≡ Some s → IsPlan P spaces (f s))
      → IsPlan P spaces (for_one stop o f)
  for_one_sound stop None f sound = tt
  for_one_sound stop (Some s) f sound = sound s refl

-- where there is room, there is a number
room_there : (heads : Heads) → room_refusal heads ≡ None → heads.last < last_number
room_there heads e = by (nat_le most_live (length heads.live)) (nat_le last_number heads.last) refl e
  where
    by : (many spent : Bool) → nat_le last_number heads.last ≡ spent
        → (if many then Some ManySpaces else if spent then Some SpaceNumbers else None) ≡ None → heads.last < last_number
    by true spent is e = let f : ⊥ = cc in absurd f
    by false true is e = let f : ⊥ = cc in absurd f
    by false false is e = grind (arith, is)

-- a number in the directory has 32 bits
named_low : (name : List ℕ) (names : List (List ℕ × SpaceNo)) → AllByRecursion (λ e. e.1.0 ≤ last_number) names
    → (s : SpaceNo) → directory.get name names ≡ Some s → s.0 ≤ last_number
named_low name [] all s e = let f : ⊥ = cc in absurd f
named_low name (x ∷ names) all s e = by (bytes_eq name x.0) e (named_low name names all.1 s)
  where
    by : (b : Bool) → cond b (Some x.1) (directory.get name names) ≡ Some s → (directory.get name names ≡ Some s → s.0 ≤ last_number)
        → s.0 ≤ last_number
    by true e rest = let same : x.1 ≡ s = cc in subst (λ (t : SpaceNo). t.0 ≤ last_number) same all.0
    by false e rest = rest e

forgetting_can : (o : Option SpaceNo) (heads : Heads) (spaces : Spaces) → CanAll (forgetting o heads) spaces
forgetting_can None heads spaces = tt
forgetting_can (Some s) heads spaces = by (is_live s heads)
  where
    by : (b : Bool) → CanAll (if b then Forgets s ∷ [] else []) spaces
    by true = (tt, tt)
    by false = tt

module _ (spaces : Spaces) (sound : AreSpaces spaces) where
  abbrev heads : Heads
  heads = heads_of spaces

  kind_low : (s : SpaceNo) → FitsSigned w16 (the_head s heads).kind
  kind_low s = subst (λ (h : Head). FitsSigned w16 h.kind) (sym (head_same s spaces)) (space_sound s spaces sound).kind

  under_low : (name : List ℕ) (s : SpaceNo) → under name heads ≡ Some s → s.0 ≤ last_number
  under_low name s e = named_low name spaces.names sound.named s e

  kind_sound : (o : Option SpaceNo) → IsPlan (GivesOf (Some kinds.Int)) spaces (kind_plan o heads)
  kind_sound None = (grind (arith, ints), tt)
  kind_sound (Some s) =
      unless_sound (GivesOf (Some kinds.Int)) spaces (life_refusal s heads) (Ok (Some (values.Int (the_head s heads).kind), [])) (λ e. (kind_low s, tt))

  -- the plan of a procedure whose number operand, if it has one, has 16 bits
  pub planned_sound : (operation : SpaceOperation) (vs : List Value) → FitsSigned w16 (number_at vs 1)
      → IsPlan (GivesOf (space_result_kind operation)) spaces (planned operation vs heads)
  planned_sound KindOf vs fits = kind_sound (space_at vs 0)
  planned_sound New vs fits =
      unless_sound (GivesOf (Some kinds.Space)) spaces (name_refusal (text_at vs 0) heads) _ (λ e.
      unless_sound (GivesOf (Some kinds.Space)) spaces (room_refusal heads) _ (λ room.
      let low = room_there heads room in (omega (arith, low), (low, (omega (arith, low), tt)))))
  planned_sound Old vs fits =
      for_one_sound (GivesOf (Some kinds.Space)) spaces NoName (under (text_at vs 0) heads) _ (λ s e.
      let low = under_low (text_at vs 0) s e in (omega (arith, low), tt))
  planned_sound IsNamed vs fits = (tt, tt)
  planned_sound SetKind vs fits =
      for_one_sound (GivesOf None) spaces NoSpace (space_at vs 0) _ (λ s e.
      unless_sound (GivesOf None) spaces (life_refusal s heads) _ (λ live. (tt, (fits, tt))))
  planned_sound Forget vs fits = (tt, forgetting_can (space_at vs 0) heads spaces)
  planned_sound ForgetNamed vs fits = for_one_sound (GivesOf None) spaces NoName (under (text_at vs 0) heads) _ (λ s e. (tt, (tt, tt)))
  planned_sound Rename vs fits =
      for_one_sound (GivesOf None) spaces NoName (under (text_at vs 0) heads) _ (λ s e.
      unless_sound (GivesOf None) spaces (name_refusal (text_at vs 1) heads) _ (λ free. (tt, (tt, (under_low (text_at vs 0) s e, tt)))))
  planned_sound CopyNamed vs fits =
      for_one_sound (GivesOf None) spaces NoName (under (text_at vs 0) heads) _ (λ s e.
      unless_sound (GivesOf None) spaces (name_refusal (text_at vs 1) heads) _ (λ free.
      unless_sound (GivesOf None) spaces (room_refusal heads) _ (λ room.
      let low = room_there heads room in (tt, (low, (omega (arith, low), tt))))))

  -- of an assignment of a data space, and of the binding of a variable to one
  abbrev IsLow : SpaceNo → Type 0
  IsLow s = s.0 ≤ last_number

  pub copy_sound : (held from : Option SpaceNo) → IsPlan IsLow spaces (copy_plan held from heads)
  copy_sound held from =
      unless_sound IsLow spaces (copy_refusal from heads) _ (λ live.
      unless_sound IsLow spaces (room_refusal heads) _ (λ room.
      let low = room_there heads room in (omega (arith, low), (low, forgetting_can held heads _))))

  fitting_sound : (shape : Shape) (s : SpaceNo) (o : Option Shape) → s.0 ≤ last_number → IsPlan IsLow spaces (fitting_plan shape s o)
  fitting_sound shape s None low = (low, (tt, tt))
  fitting_sound shape s (Some other) low = by (same_shape shape other)
    where
      by : (b : Bool) → IsPlan IsLow spaces (if b then Ok (s, []) else Err WrongShape)
      by true = (low, tt)
      by false = tt

  pub bind_sound : (shape : Shape) (space : Option SpaceNo) → IsSpaceNumber space → IsPlan IsLow spaces (bind_plan shape space heads)
  bind_sound shape None few = tt
  bind_sound shape (Some s) few =
      unless_sound IsLow spaces (life_refusal s heads) _ (λ live. fitting_sound shape s (the_head s heads).shape (omega (arith, few)))

-- ---- what is done

carried_sound : {A : Type 0} (P : A → Type 0) (plan : Plan A) (spaces : Spaces) → AreSpaces spaces → IsPlan P spaces plan
    → (done : A × Spaces) → carried_out plan spaces ≡ Ok done → P done.0 × AreSpaces done.1
carried_sound P (Ok plan) spaces sound is done e =
    let same : (plan.0, spaces_after plan.1 spaces) ≡ done = cc in
    subst (λ d. P d.0 × AreSpaces d.1) same (is.0, changes_sound plan.1 spaces is.1 sound)
carried_sound P (Err stop) spaces sound is done e = let f : ⊥ = cc in absurd f

pub performed_sound : (operation : SpaceOperation) (vs : List Value) (spaces : Spaces) → AreSpaces spaces → FitsSigned w16 (number_at vs 1)
    → (done : Option Value × Spaces) → performed operation vs spaces ≡ Ok done → GivesOf (space_result_kind operation) done.0 × AreSpaces done.1
performed_sound operation vs spaces sound fits done e =
    carried_sound (GivesOf (space_result_kind operation)) (planned operation vs (heads_of spaces)) spaces sound (planned_sound spaces sound operation vs fits)
    done e

pub copied_sound : (held from : Option SpaceNo) (spaces : Spaces) → AreSpaces spaces → (done : SpaceNo × Spaces) → copied held from spaces ≡ Ok done
    → (done.0.0 ≤ last_number) × AreSpaces done.1
copied_sound held from spaces sound done e =
    carried_sound (λ (s : SpaceNo). s.0 ≤ last_number) (copy_plan held from (heads_of spaces)) spaces sound (copy_sound spaces sound held from) done e

pub bound_sound : (shape : Shape) (space : Option SpaceNo) (spaces : Spaces) → IsSpaceNumber space → AreSpaces spaces → (done : SpaceNo × Spaces)
    → bound shape space spaces ≡ Ok done → (done.0.0 ≤ last_number) × AreSpaces done.1
bound_sound shape space spaces few sound done e =
    carried_sound (λ (s : SpaceNo). s.0 ≤ last_number) (bind_plan shape space (heads_of spaces)) spaces sound (bind_sound spaces sound shape space few) done e
