-- What several steps of the making of code make together, where memory was not wanted.
use Rattle.std.proofs.Common.{◌≡◌, ℕ, ◌+◌, ◌<◌, ◌≤◌, List, [], ◌∷◌, ◌++◌, map, length, drop, get_or, false, Some, refl, sym, ap, ◌∙◌, subst, arith}
use Rattle.std.proofs.Common.{add-one, drop-cons, append-nil}
use Rattle.std.proofs.lemmas.List.{drop_all}
use Rattle.std.specs.Prelude.{ℤ, suc}
use Rattle.eu_base.specs.declared.shape.Shape.{Shape}
use Rattle.code_form.specs.declared.operand.OperandKind.{OperandKind}
use Rattle.code_form.specs.declared.operand.OperandKind.TheVariants.{Value}
use Rattle.code_form.specs.declared.code.Spot.{Spot}
use Rattle.code_form.specs.declared.instr.Instr.{Instr}
use Rattle.code_form.specs.declared.instr.Instr.TheVariants.{Mark, Jump, False, When, Drop}
use Rattle.elan_types.specs.Eval.{Labelled}
use Rattle.place_gen.specs.declared.draft.Draft.{Draft}
use Rattle.place_gen.specs.Stretch.{Stretch, none, one, keeps, pushes, never_code, join, all_code, if_code, whens_code, select_code, Exit, stays, exit_join, until_code, turns_code}
use Rattle.place_gen.specs.Adds.{Adds}
use Rattle.place_gen.specs.Makes.{Makes, MakesExit, MakesArm, MakesTurn, ComesBack}
use Rattle.place_gen.proofs.Adds.{join_adds, same_adds, if_adds, exit_adds, until_adds, turns_adds, never_adds, arm_adds, select_adds}

-- what is left of a list, from one of its items on
rest_of : {A : Type 0} (xs : List A) (i : ℕ) (x : A) → i < length xs → x ≡ get_or xs i x → drop i xs ≡ x ∷ drop (i + 1) xs
rest_of xs i x within e = rw (add-one, drop-cons xs i x within) (ap (λ y. y ∷ drop (suc i) xs) (sym e))

pub none_makes : {a : Draft} → Makes none a a
none_makes {a} = record { met = λ h. (h, (sym (append-nil a.lines), omega arith, refl, refl)) }

pub join_makes : {f g : Stretch} {a b c : Draft} → Makes f a b → Makes g b c → Makes (join f g) a c
join_makes {f} {g} {a} {b} {c} x y = record { met = λ h. let q = y.met h in let p = x.met q.0 in (p.0, join_adds f g a b c p.1 q.1) }

-- a stretch behind a step that adds nothing
pub same_makes : {f : Stretch} {a b c : Draft} → ComesBack a.pending a b → Makes f b c → Makes f a c
same_makes {f} {a} {b} {c} r x = record { met = λ h. let q = x.met h in let p = r.met q.0 in (p.0, same_adds f a b c p.1 q.1) }

-- an instruction that has a place which was looked up just before
pub target_makes : {t : ℕ} (i : ℕ → Instr) (leaves : List OperandKind → List OperandKind) (t' : ℕ) {a b c : Draft} → ComesBack a.pending a b
    → (b.wanted ≡ false → t ≡ t') → Makes (one (i t) leaves) b c → Makes (one (i t') leaves) a c
target_makes {t} i leaves t' {a} {b} {c} r e x =
    same_makes r (record { met = λ h. let q = x.met h in (q.0, subst (λ n. Adds (one (i n) leaves) b c) (e q.0) q.1) })

pub turn_makes : {t : Instr} {leaves : List OperandKind → List OperandKind} {ks : List OperandKind} {a b c : Draft} → Makes (one t leaves) a b
    → ComesBack ks b c → MakesTurn t ks a c
turn_makes x r = record { met = λ h. let q = r.met h in let p = x.met q.0 in (p.0, (q.1.0 ∙ p.1.0, ap length q.1.0 ∙ p.1.1, q.1.1, q.1.2 ∙ p.1.3)) }

pub whens_makes : (z : ℤ) (zs : List ℤ) (to : ℕ) {a b c : Draft} → Makes (one (When z to) keeps) a b → Makes (whens_code zs to) b c
    → Makes (whens_code (z ∷ zs) to) a c
whens_makes z zs to {a} {b} {c} x y =
    record {
      met =
          λ h. let q = y.met h in let p = x.met q.0 in let j = join_adds (one (When z to) keeps) (whens_code zs to) a b c p.1 q.1 in
          (p.0, (j.0, omega (arith, j.1), j.2, j.3));
    }

pub no_whens : (to : ℕ) {a : Draft} → Makes (whens_code [] to) a a
no_whens to {a} = record { met = λ h. (h, (sym (append-nil a.lines), omega arith, refl, refl)) }

pub if_makes : {f g h : Stretch} {ks : List OperandKind} {d0 d d1 d2 d3 d4 d5 : Draft} → ComesBack d0.pending d0 d → (d.wanted ≡ false → ks ≡ d0.pending)
    → Makes f d d1 → MakesTurn (False (length d1.lines + 1 + g.size + 1)) ks d1 d2 → Makes g d2 d3 → MakesTurn (Jump (length d3.lines + 1 + h.size)) ks d3 d4
    → Makes h d4 d5 → Makes (if_code f g h) d0 d5
if_makes {f} {g} {h} {ks} {d0} {d} {d1} {d2} {d3} {d4} {d5} r e x1 x2 x3 x4 x5 = same_makes r (record {
  met = λ w.
      let y5 = x5.met w in let y4 = x4.met y5.0 in let y3 = x3.met y4.0 in let y2 = x2.met y3.0 in let y1 = x1.met y2.0 in
      (y1.0, if_adds f g h ks d d1 d2 d3 d4 d5 y1.1 y2.1 y3.1 y4.1 y5.1 (e y1.0 ∙ sym ((r.met y1.0).1.1)));
})

pub none_exit : {end : ℕ} {a : Draft} → MakesExit (stays none) end a a
none_exit {end} {a} = record { met = λ h. (h, (sym (append-nil a.lines), omega arith, refl, refl)) }

-- a stretch that leaves what was pending, as a part of a turn
pub stretch_exit : {f : Stretch} (g : Exit) (end : ℕ) {a b : Draft} → ((ks : List OperandKind) (m : Spot) (at : ℕ) → f.lines ks m at ≡ g.lines end ks m at)
    → f.size ≡ g.size → ((ks : List OperandKind) → f.leaves ks ≡ ks) → Makes f a b → MakesExit g end a b
stretch_exit {f} g end {a} {b} l n k x = record {
  met = λ h. let q = x.met h in
      (q.0, (q.1.0 ∙ ap (λ ls. a.lines ++ ls) (l a.pending a.spot (length a.lines)), omega (arith, q.1.1, n), q.1.2 ∙ k a.pending, q.1.3));
}

-- a stretch, and what was pending comes back
pub back_exit : {f : Stretch} {end : ℕ} {ks : List OperandKind} {a b c : Draft} → (a.wanted ≡ false → ks ≡ a.pending) → Makes f a b → ComesBack ks b c
    → MakesExit (stays f) end a c
back_exit e x r = record {
  met = λ h. let q = r.met h in let p = x.met q.0 in
      (p.0, (q.1.0 ∙ p.1.0, ap length q.1.0 ∙ p.1.1, q.1.1 ∙ e p.0, q.1.2 ∙ p.1.3));
}

pub join_exit : {f g : Exit} {end : ℕ} {a b c : Draft} → MakesExit f end a b → MakesExit g end b c → MakesExit (exit_join f g) end a c
join_exit {f} {g} {end} {a} {b} {c} x y = record { met = λ h. let q = y.met h in let p = x.met q.0 in (p.0, exit_adds f g end a b c p.1 q.1) }

same_exit : {f : Exit} {end : ℕ} {a b c : Draft} → ComesBack a.pending a b → MakesExit f end b c → MakesExit f end a c
same_exit {f} {end} {a} {b} {c} r x = record {
  met = λ h.
      let q = x.met h in
      let p = r.met q.0 in
      let l : b.lines ≡ a.lines = p.1.0 in
      let k : b.pending ≡ a.pending = p.1.1 in
      let s : b.spot ≡ a.spot = p.1.2 in
      let n : length b.lines ≡ length a.lines = ap length l in
      let all : c.lines ≡ a.lines ++ f.lines end a.pending a.spot (length a.lines) = cc q.1.0 in
      (p.0, (all, omega (arith, q.1.1, n), q.1.2 ∙ k, q.1.3 ∙ s));
}

pub until_makes : {f : Stretch} {end : ℕ} {ks : List OperandKind} {d0 a b c d : Draft} → ComesBack d0.pending d0 a → (a.wanted ≡ false → ks ≡ d0.pending)
    → Makes f a b → MakesTurn (False (length b.lines + 1 + 0 + 1)) ks b c → Makes (one (Jump end) keeps) c d → MakesExit (until_code (Some f)) end d0 d
until_makes {f} {end} {ks} {d0} {a} {b} {c} {d} r e x y z = same_exit r (record {
  met = λ h.
      let w = z.met h in let q = y.met w.0 in let p = x.met q.0 in
      (p.0, until_adds f end ks a b c d p.1 q.1 w.1 (e p.0 ∙ sym ((r.met p.0).1.1)));
})

-- the parts of a turn, where what was pending comes back behind the units
pub turn_exit : {w u s : Exit} {us : Stretch} {end : ℕ} {ks : List OperandKind} {d0 d1 d2 d3 d4 d5 d6 : Draft} → ComesBack d0.pending d0 d1
    → (d1.wanted ≡ false → ks ≡ d0.pending) → MakesExit w end d1 d2 → Makes us d2 d3 → ComesBack ks d3 d4 → MakesExit u end d4 d5 → MakesExit s end d5 d6
    → MakesExit (exit_join w (exit_join (stays us) (exit_join u s))) end d0 d6
turn_exit {d2 = d2} r e x2 x3 x4 x5 x6 =
    let k = λ (h : d2.wanted ≡ false). let y = x2.met h in e y.0 ∙ sym ((r.met y.0).1.1) ∙ sym y.1.2 in
    same_exit r (join_exit x2 (join_exit (back_exit k x3 x4) (join_exit x5 x6)))

-- a turn between a mark and the way back, where the end was looked up before
pub turns_makes : {turn : Exit} {end top : ℕ} {d0 d1 d2 d3 d4 : Draft} → ComesBack d0.pending d0 d1
    → (d1.wanted ≡ false → end ≡ length d0.lines + (turns_code turn).size) → top ≡ length d0.lines → Makes (one Mark keeps) d1 d2 → MakesExit turn end d2 d3
    → Makes (one (Jump top) keeps) d3 d4 → Makes (turns_code turn) d0 d4
turns_makes {turn} {end} {top} {d0} {d1} {d2} {d3} {d4} r e t x2 x3 x4 = same_makes r (record {
  met = λ h.
      let z = x4.met h in let y = x3.met z.0 in let x = x2.met y.0 in
      let n : length d1.lines ≡ length d0.lines = ap length (r.met x.0).1.0 in
      (x.0, turns_adds turn end top d1 d2 d3 d4 x.1 y.1 z.1 (t ∙ sym n) (e x.0 ∙ ap (λ m. m + (turns_code turn).size) (sym n)));
})

-- a mark and the way back to it
pub never_makes : {s : Shape} {top : ℕ} {a b c : Draft} → Makes (one Mark keeps) a b → Makes (one (Jump top) (pushes (Value s))) b c → top ≡ length a.lines
    → Makes (never_code s) a c
never_makes {s} {top} {a} {b} {c} x y e = record { met = λ h. let q = y.met h in let p = x.met q.0 in (p.0, never_adds s top a b c p.1 q.1 e) }

pub arm_makes : (arm : Labelled Stretch) {end past : ℕ} {ks : List OperandKind} {d0 a b c d e g h : Draft} → ComesBack d0.pending d0 a
    → (a.wanted ≡ false → past ≡ length d0.lines + (length arm.labels + 1)) → Makes (whens_code arm.labels past) a b
    → Makes (one (Jump (length b.lines + 1 + (arm.part.size + 1))) keeps) b c → ComesBack (drop 1 ks) c d → Makes arm.part d e
    → Makes (one (Jump end) keeps) e g → ComesBack ks g h → MakesArm arm end ks d0 h
arm_makes arm {end} {past} {ks} {d0} {a} {b} {c} {d} {e} {g} {h} r p x y back z w again = record {
  met = λ met.
      let h' = again.met met in let w' = w.met h'.0 in let z' = z.met w'.0 in let d' = back.met z'.0 in let y' = y.met d'.0 in let x' = x.met y'.0 in
      let r' = r.met x'.0 in
      let n : length a.lines ≡ length d0.lines = ap length r'.1.0 in
      let first : Adds (whens_code arm.labels past) d0 b = same_adds (whens_code arm.labels past) d0 a b r'.1 x'.1 in
      (r'.0, λ q. arm_adds arm end past ks d0 b c d e g h first y'.1 d'.1 z'.1 w'.1 h'.1 (p x'.0) q);
}

-- where the parts of a SELECT go on: its end is so far away, and this is pending
pub record IsAt (rest : Stretch) (end : ℕ) (top : List OperandKind) (d : Draft) : Type 0 where
  pub ends : d.wanted ≡ false → end ≡ length d.lines + rest.size
  pub pending : d.wanted ≡ false → d.pending ≡ top

pub arm_at : (arm : Labelled Stretch) (arms : List (Labelled Stretch)) (other : Stretch) {end : ℕ} {top : List OperandKind} {a b : Draft}
    → IsAt (select_code (arm ∷ arms) other) end top a → MakesArm arm end top a b → IsAt (select_code arms other) end top b
arm_at arm arms other at x = record {
  ends = λ h. let q = x.met h in let y = q.1 (at.pending q.0) in omega (arith, at.ends q.0, y.0.1);
  pending = λ h. let q = x.met h in (q.1 (at.pending q.0)).1;
}

pub select_makes : (arm : Labelled Stretch) (arms : List (Labelled Stretch)) (other : Stretch) {end : ℕ} {top : List OperandKind} {a b c : Draft}
    → IsAt (select_code (arm ∷ arms) other) end top a → MakesArm arm end top a b → Makes (select_code arms other) b c
    → Makes (select_code (arm ∷ arms) other) a c
select_makes arm arms other {end} {top} {a} {b} {c} at x m = record {
  met = λ h.
      let z = m.met h in let q = x.met z.0 in let y = q.1 (at.pending q.0) in
      (q.0, select_adds arm (select_code arms other) end a b c y.0 (y.1 ∙ sym (at.pending q.0)) z.1 ((arm_at arm arms other at x).ends z.0));
}

-- a loop makes the code of a list's items: what is left from one of them on, and then nothing
module _ {A : Type 0} (code : A → Stretch) (xs : List A) (i : ℕ) {first old : Draft}
    (all : (new : Draft) → Makes (all_code (map code (drop i xs))) old new → Makes (all_code (map code xs)) first new) where
  pub more_makes : {mid : Draft} (x : A) → i < length xs → x ≡ get_or xs i x → Makes (code x) old mid → (new : Draft)
      → Makes (all_code (map code (drop (i + 1) xs))) mid new → Makes (all_code (map code xs)) first new
  more_makes x within is one new more =
      all new (subst (λ l. Makes (all_code (map code l)) old new) (sym (rest_of xs i x within is)) (join_makes one more))

  pub all_makes : length xs ≤ i → Makes (all_code (map code xs)) first old
  all_makes past = all old (subst (λ l. Makes (all_code (map code l)) old old) (sym (drop_all i xs past)) none_makes)

-- and a loop over the parts of a SELECT, whose end was looked up before and what was pending kept
module _ {A : Type 0} (code : A → Labelled Stretch) (arms : List A) (other : Stretch) where
  abbrev From : ℕ → Stretch
  From i = select_code (map code (drop i arms)) other

  abbrev Whole : Stretch
  Whole = select_code (map code arms) other

  pub first_arm_at : {end : ℕ} {top : List OperandKind} {d0 d1 d2 : Draft} → ComesBack d0.pending d0 d1
      → (d1.wanted ≡ false → end ≡ length d0.lines + Whole.size) → ComesBack d1.pending d1 d2 → (d2.wanted ≡ false → top ≡ d1.pending) → IsAt Whole end top d2
  first_arm_at r ends kept top_is = record {
    ends = λ h. let q = kept.met h in ends q.0 ∙ ap (λ n. n + Whole.size) (sym (ap length (q.1.0 ∙ (r.met q.0).1.0)));
    pending = λ h. (kept.met h).1.1 ∙ sym (top_is h);
  }

  module _ (i : ℕ) (arm : A) {end : ℕ} {top : List OperandKind} {old mid : Draft} (within : i < length arms) (is : arm ≡ get_or arms i arm) (at : IsAt (From i) end top old)
      (made : MakesArm (code arm) end top old mid) where
    this_at : IsAt (select_code (code arm ∷ map code (drop (i + 1) arms)) other) end top old
    this_at = subst (λ l. IsAt (select_code (map code l) other) end top old) (rest_of arms i arm within is) at

    pub next_arm_at : IsAt (From (i + 1)) end top mid
    next_arm_at = arm_at (code arm) (map code (drop (i + 1) arms)) other this_at made

    pub more_arms_make : {first : Draft} → ((new : Draft) → Makes (From i) old new → Makes Whole first new) → (new : Draft) → Makes (From (i + 1)) mid new
        → Makes Whole first new
    more_arms_make all new more =
        all new (subst (λ l. Makes (select_code (map code l) other) old new) (sym (rest_of arms i arm within is))
        (select_makes (code arm) (map code (drop (i + 1) arms)) other this_at made more))

  pub arms_make : (i : ℕ) {first old mid new : Draft} → length arms ≤ i → ((new : Draft) → Makes (From i) old new → Makes Whole first new)
      → Makes (one Drop (drop 1)) old mid → Makes other mid new → Makes Whole first new
  arms_make i {first} {old} {mid} {new} past all dropped rest =
      all new (subst (λ l. Makes (select_code (map code l) other) old new) (sym (drop_all i arms past)) (join_makes dropped rest))
