-- Plans that are carried out over a memory, or stop.
use Rattle.std.proofs.Common.{◌≡◌, ℕ, ◌+◌, ◌<◌, ◌≤◌, Bool, true, false, cond, List, [], ◌∷◌, ◌++◌, length, Option, Some, None, refl, sym, ap, ◌∙◌, subst, eq-eqb, arith, nat_eq}
use Rattle.std.specs.Prelude.{Result, Ok, Err, not, is_some, nat_le, bytes_eq}
use Rattle.std.specs.Option.{IsSome}
use Rattle.std.specs.Map.{lookup, remove_entry}
use Rattle.std.proofs.lemmas.Bool.{leb-false, le-leb, lt-leb}
use Rattle.eu_base.specs.declared.stop.Stop.{Stop}
use Rattle.eu_base.specs.declared.stop.Stop.TheVariants.{NoSpace, ManySpaces, SpaceNumbers, BadName, NoName, NameThere}
use Rattle.eu_base.specs.Cells.{Cells}
use Rattle.eu_base.specs.Values.{SpaceNo}
use Rattle.eu_base.specs.DataSpaces.{Numbered, Heads, Head, most_live, last_number, living, is_live, IsLive, next_number, with_new, without_name, under, head_from, heads_by, Makes, Unnames}
use Rattle.eu_base.specs.SpaceOperations.{Plan, unless, for_one, is_name, name_refusal, room_refusal, life_refusal}
use Rattle.zero_state.specs.declared.next.Next.{Next}
use Rattle.space_calls.specs.Planned.{IsStop, Refuses, CarriesOut, StopsSo, Performs, Looks}

-- ---- reasons to stop

pub passed : {A : Type 0} (refusal : Option Stop) (plan : Plan A) → refusal ≡ None → unless refusal plan ≡ plan
passed refusal plan e = ap (λ (r : Option Stop). unless r plan) e

module _ {A : Type 0} (holds : Cells → Type 0) (heads : Heads) where
  -- where there is one, the plan stops
  pub stopped : (plan whole : Plan A) (refusal : Option Stop) (next : Next) → whole ≡ unless refusal plan → Refuses (Some next) refusal
      → Performs holds holds heads heads whole (Err next)
  stopped plan whole refusal next e r = record {
    stop = r.0;
    is = e ∙ ap (λ (o : Option Stop). unless o plan) r.1.0;
    stops = r.1.1;
    heads = refl;
    kept = λ cells h. h;
  }

  pub none_there : (plan : SpaceNo → Plan A) (whole : Plan A) (stop : Stop) (s : Option SpaceNo) (next : Next) → whole ≡ for_one stop s plan → s ≡ None
      → IsStop next stop → Performs holds holds heads heads whole (Err next)
  none_there plan whole stop s next e none is = record {
    stop = stop;
    is = e ∙ ap (λ (o : Option SpaceNo). for_one stop o plan) none;
    stops = is;
    heads = refl;
    kept = λ cells h. h;
  }

  -- what only looks gives this
  pub given : (plan : Plan A) (a : A) → plan ≡ Ok (a, []) → Performs holds holds heads heads plan (Ok a)
  given plan a e = record { changes = []; is = e; heads = refl; kept = λ cells h. h }

pub free_name : (name : List ℕ) (heads : Heads) → name_refusal name heads ≡ None → under name heads ≡ None
free_name name heads e = by (is_name name) (under name heads) e
  where
    by : (b : Bool) (o : Option SpaceNo) → cond (not b) (Some BadName) (cond (is_some o) (Some NameThere) None) ≡ None → o ≡ None
    by true None e = refl
    by true (Some s) e = absurd (cc e)
    by false o e = absurd (cc e)

pub room_left : (heads : Heads) → room_refusal heads ≡ None → (length heads.live < most_live) × (heads.last < last_number)
room_left heads e = by (nat_le most_live (length heads.live)) (nat_le last_number heads.last) refl refl e
  where
    by : (b d : Bool) → nat_le most_live (length heads.live) ≡ b → nat_le last_number heads.last ≡ d
        → cond b (Some ManySpaces) (cond d (Some SpaceNumbers) None) ≡ None → (length heads.live < most_live) × (heads.last < last_number)
    by true d f g e = absurd (cc e)
    by false true f g e = absurd (cc e)
    by false false f g e =
        let a = leb-false most_live (length heads.live) f in
        let b = leb-false last_number heads.last g in
        (omega (arith, a), omega (arith, b))

pub live_there : (s : SpaceNo) (heads : Heads) → life_refusal s heads ≡ None → IsLive s heads
live_there s heads e = by (is_live s heads) e
  where
    by : (b : Bool) → cond b None (Some NoSpace) ≡ None → b ≡ true
    by true e = refl
    by false e = absurd (cc e)

pub not_live : (s : SpaceNo) (heads : Heads) → is_live s heads ≡ false → life_refusal s heads ≡ Some NoSpace
not_live s heads e = ap (λ (b : Bool). cond b None (Some NoSpace)) e

pub bad_name : (name : List ℕ) (heads : Heads) → is_name name ≡ false → name_refusal name heads ≡ Some BadName
bad_name name heads e = ap (λ (b : Bool). cond (not b) (Some BadName) (cond (is_some (under name heads)) (Some NameThere) None)) e

pub name_there : (name : List ℕ) (heads : Heads) (s : SpaceNo) → is_name name ≡ true → Some s ≡ under name heads → name_refusal name heads ≡ Some NameThere
name_there name heads s e f =
    ap (λ (b : Bool). cond (not b) (Some BadName) (cond (is_some (under name heads)) (Some NameThere) None)) e
    ∙ ap (λ (o : Option SpaceNo). cond (is_some o) (Some NameThere) None) (sym f)

pub too_many : (heads : Heads) → most_live ≤ length heads.live → room_refusal heads ≡ Some ManySpaces
too_many heads le =
    ap (λ (b : Bool). cond b (Some ManySpaces) (cond (nat_le last_number heads.last) (Some SpaceNumbers) None)) (le-leb most_live (length heads.live) le)

pub no_number : (heads : Heads) → length heads.live < most_live → last_number ≤ heads.last → room_refusal heads ≡ Some SpaceNumbers
no_number heads lt le =
    ap (λ (b : Bool). cond b (Some ManySpaces) (cond (nat_le last_number heads.last) (Some SpaceNumbers) None)) (lt-leb most_live (length heads.live) lt)
    ∙ ap (λ (b : Bool). cond b (Some SpaceNumbers) None) (le-leb last_number heads.last le)

-- ---- what is made lives

-- a test that something passes in a list, or behind it
passes : (b : Bool) (x : Head) (o o' : Option Head) → IsSome (cond b (Some x) o) → (IsSome o → IsSome o') → IsSome (cond b (Some x) o')
passes true x o o' h more = refl
passes false x o o' h more = more h

passes_behind : (b : Bool) (x : Head) (o : Option Head) → IsSome o → IsSome (cond b (Some x) o)
passes_behind true x o h = refl
passes_behind false x o h = h

module _ (test : ℕ → Bool) (k : ℕ) (new : Head) where
  found_last : test k ≡ true → (live : List (ℕ × Head)) → IsSome (lookup test (live ++ (k, new) ∷ []))
  found_last is [] = ap (λ (b : Bool). is_some (cond b (Some new) None)) is
  found_last is (e ∷ live) = passes_behind (test e.0) e.1 (lookup test (live ++ (k, new) ∷ [])) (found_last is live)

  found_still : (live : List (ℕ × Head)) → IsSome (lookup test live) → IsSome (lookup test (live ++ (k, new) ∷ []))
  found_still [] h = absurd (cc h)
  found_still (e ∷ live) h = passes (test e.0) e.1 (lookup test live) (lookup test (live ++ (k, new) ∷ [])) h (found_still live)

pub new_lives : (new : Head) (heads : Heads) → IsLive (next_number heads) (with_new new heads)
new_lives new heads = found_last (nat_eq (heads.last + 1)) (heads.last + 1) new (eq-eqb (heads.last + 1) (heads.last + 1) refl) heads.live

pub still_lives : (s : SpaceNo) (new : Head) (heads : Heads) → IsLive s heads → IsLive s (with_new new heads)
still_lives s new heads h = found_still (nat_eq s.0) (heads.last + 1) new heads.live h

-- ---- a name that is free is free without another

module _ (test other : List ℕ → Bool) where
  behind_free : (b t : Bool) (x : List ℕ × SpaceNo) (d : List (List ℕ × SpaceNo)) → test x.0 ≡ b → cond b (Some x.1) (lookup test d) ≡ None
      → (lookup test d ≡ None → lookup test (remove_entry other d) ≡ None) → lookup test (cond t d (x ∷ remove_entry other d)) ≡ None
  behind_free true t x d is e more = absurd (cc e)
  behind_free false true x d is e more = e
  behind_free false false x d is e more = ap (λ (b : Bool). cond b (Some x.1) (lookup test (remove_entry other d))) is ∙ more e

  free_without : (d : List (List ℕ × SpaceNo)) → lookup test d ≡ None → lookup test (remove_entry other d) ≡ None
  free_without [] e = refl
  free_without (x ∷ d) e = behind_free (test x.0) (other x.0) x d refl e (free_without d)

pub still_free : (name other : List ℕ) (heads : Heads) → under name heads ≡ None → under name (without_name other heads) ≡ None
still_free name other heads e = free_without (λ (n : List ℕ). bytes_eq name n) (λ (n : List ℕ). bytes_eq other n) heads.names e

pub made_lives : (from : Option SpaceNo) (had has : Heads) (s : SpaceNo) → s ≡ next_number had → has ≡ heads_by (Makes from) had → IsLive s has
made_lives from had has s n e =
    subst (IsLive s) (sym e) (subst (λ (s : SpaceNo). IsLive s (with_new (head_from from had) had)) (sym n) (new_lives (head_from from had) had))

pub freed_name : (name new : List ℕ) (had has : Heads) → has ≡ heads_by (Unnames name) had → name_refusal new had ≡ None → under new has ≡ None
freed_name name new had has e free = ap (under new) e ∙ still_free new name had (free_name new had free)

-- what only looks changes nothing
pub looked : {A : Type 0} (holds : Cells → Type 0) (heads : Heads) (plan : Plan A) (result : Result A Next) → Looks plan result
    → Performs holds holds heads heads plan result
looked holds heads plan (Ok a) e = given holds heads plan a e
looked holds heads plan (Err next) e = record { stop = e.0; is = e.1.0; stops = e.1.1; heads = refl; kept = λ cells h. h }

pub no_name : {A : Type 0} (plan : SpaceNo → Plan A) (name : List ℕ) (heads : Heads) → None ≡ under name heads
    → for_one NoName (under name heads) plan ≡ Err NoName
no_name plan name heads e = ap (λ (o : Option SpaceNo). for_one NoName o plan) (sym e)
