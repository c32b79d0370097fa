-- What is revived fits the code and is kept so, and what fits the code is revived from what is kept of it.
use Rattle.std.proofs.Common.{◌≡◌, ℕ, suc, ◌+◌, ◌&&◌, Bool, true, false, not, cond, nat_eq, List, [], ◌∷◌, ◌++◌, Option, Some, None, refl, sym, ap, subst, ◌∙◌, append_assoc, arith}
use Rattle.std.specs.Prelude.{reverse, slice_get, ◌||◌}
use Rattle.std.proofs.Common.{◌≤◌, min}
use Rattle.std.proofs.lemmas.Bool.{eqb-true, eq-eqb, le-leb, leb-true}
use Rattle.std.proofs.lemmas.List.{append-nil}
use Rattle.eu_base.specs.Room.{bytes_fit, cells_fit}
use Rattle.code_form.specs.declared.code.Line.{Line}
use Rattle.code_form.specs.declared.instr.Instr.{Instr}
use Rattle.code_form.specs.declared.operand.Operand.{Operand}
use Rattle.code_form.specs.declared.waits.Waits.{Waits}
use Rattle.code_form.specs.Program.{Program, line_of, instr_of}
use Rattle.code_form.specs.Machine.{Frame, Control, bytes_on, bytes_of}
use Rattle.code_form.specs.Valid.{IsValid, Fits, FitsFrames, is_ask, is_asking, is_refused}
use Rattle.code_form.proofs.Frames.{bytes_fewer, bytes_below}
use Rattle.state_spelling.specs.declared.kept.Kept.{Kept}
use Rattle.byte_spelling.specs.Spelling.{◌>>=◌}
use Rattle.byte_spelling.proofs.Laws.{bind_some, some_is, both_true, true_both}
use Rattle.state_spelling.specs.Standing.{kept_frames, pending_below, held_used, kept_of}
use Rattle.state_spelling.specs.Revived.{taken, Walk, same_body, walk, first_walk, may_wait, stands, stands_at, revived}
use Rattle.state_spelling.proofs.Taken.{Parts, Takes, taken_takes, taken_again}
use Rattle.state_spelling.proofs.Walked.{body_is, body_same, WalksAll, walk_walks, walk_again}

-- a law on tests
if_so : (a b : Bool) → (not a || b) ≡ true → a ≡ true → b ≡ true
if_so true b e f = e
if_so false b e f = absurd cc

so_if : (a b : Bool) → (a ≡ true → b ≡ true) → (not a || b) ≡ true
so_if true b f = f refl
so_if false b f = refl

unless_so : (a b : Bool) → (a || b) ≡ true → a ≡ false → b ≡ true
unless_so true b e f = absurd cc
unless_so false b e f = e

so_unless : (a b : Bool) → (a ≡ false → b ≡ true) → (a || b) ≡ true
so_unless true b f = refl
so_unless false b f = f refl

cells_held : (n : ℕ) → cells_fit (held_used n) ≡ true → cells_fit n ≡ true
cells_held n e = let le : held_used n ≤ 16384 = leb-true _ _ e in le-leb _ _ (omega (arith, le))

held_cells : (n : ℕ) → cells_fit n ≡ true → cells_fit (held_used n) ≡ true
held_cells n e = let le : n ≤ 16384 = leb-true _ _ e in le-leb _ _ (omega (arith, le))

-- what it means that a state was revived
pub record Revives (p : Program) (k : Kept) (c : Control) : Type 0 where
  pub fits : Fits p c
  pub kept : kept_of c ≡ k

module _ (p : Program) (valid : IsValid p) (k : Kept) (c : Control) where
  at_end : (w : Walk) → WalksAll p valid (first_walk p k.operands) k.frames w → (l : Line) → slice_get p.lines k.pc ≡ Some l → l.spot.body ≡ w.body → k.used ≡ held_used (w.floor + l.spot.limits)
      → may_wait k l.instr ≡ true → (r : Parts) → Takes l.operands (bytes_of w.frames) w.left r → stands k (w.floor + l.spot.limits) w r ≡ Some c → Revives p k c
  at_end w all l at body used waits (ops, o ∷ left) t is = absurd cc
  at_end w all l at body used waits (ops, []) t is =
      let b = both_true (not (is_asking k.waits) || is_ask (Some l.instr)) (is_refused k.waits || cells_fit k.used) waits in
      let pending : pending_below w.frames ++ reverse ops ≡ k.operands =
      sym (all.left ∙ ap (λ (x : List Operand). pending_below w.frames ++ x) (t.parts ∙ append-nil (reverse ops))) in
      subst (Revives p k) (some_is {A = Control} (record { position = record { pc = k.pc; ops = ops; used = w.floor + l.spot.limits; frames = w.frames }; waits = k.waits }) c is) (record {
        fits = record {
          kinds = l.operands;
          spot = l.spot;
          floor = w.floor;
          next = (l.instr, at);
          operands = t.fits;
          frames = subst (λ b. FitsFrames p w.frames b w.floor) (sym body) all.fits;
          used = refl;
          asks = λ e. ap (λ (o : Option Line). is_ask (instr_of o)) at ∙ if_so (is_asking k.waits) (is_ask (Some l.instr)) b.0 e;
          cells = λ e. cells_held (w.floor + l.spot.limits) (ap (λ (n : ℕ). cells_fit n) (sym used) ∙ unless_so (is_refused k.waits) (cells_fit k.used) b.1 e);
          bytes = t.room (all.room refl);
        };
        kept = as_kept w.frames ops (w.floor + l.spot.limits) all.kept pending (sym used);
      })
    where
      as_kept : (frames : List Frame) (ops : List Operand) (cells : ℕ) → kept_frames frames ≡ k.frames → pending_below frames ++ reverse ops ≡ k.operands → held_used cells ≡ k.used
          → kept_of (record { position = record { pc = k.pc; ops = ops; used = cells; frames = frames }; waits = k.waits }) ≡ k
      as_kept frames ops cells a b u = rw (a, b, u) refl

  at_walk : (w : Walk) → WalksAll p valid (first_walk p k.operands) k.frames w → (o : Option Line) → slice_get p.lines k.pc ≡ o → stands_at k o w ≡ Some c → Revives p k c
  at_walk w all None at is = absurd cc
  at_walk w all (Some l) at is =
      let g = passed (same_body l.spot.body w.body && nat_eq k.used (held_used (w.floor + l.spot.limits)) && may_wait k l.instr) is in
      let f = tests (same_body l.spot.body w.body) (nat_eq k.used (held_used (w.floor + l.spot.limits))) (may_wait k l.instr) g.0 in
      let r = bind_some (taken l.operands (bytes_of w.frames) w.left) (stands k (w.floor + l.spot.limits) w) c g.1 in
      at_end w all l at (body_is l.spot.body w.body f.0) (eqb-true _ _ f.1) f.2 r.0 (taken_takes l.operands (bytes_of w.frames) w.left r.0 r.1) r.2
    where
      passed : (b : Bool) {o : Option Control} → cond b o None ≡ Some c → (b ≡ true) × (o ≡ Some c)
      passed true e = (refl, e)
      passed false e = absurd cc

      tests : (a b d : Bool) → (a && b && d) ≡ true → (a ≡ true) × (b ≡ true) × (d ≡ true)
      tests true true true e = (refl, refl, refl)
      tests true true false e = absurd cc
      tests true false d e = absurd cc
      tests false b d e = absurd cc

  pub revived_fits : revived p k ≡ Some c → Revives p k c
  unfolding revived
  revived_fits is =
      let w = bind_some (walk p (first_walk p k.operands) k.frames) (stands_at k (slice_get p.lines k.pc)) c is in
      at_walk w.0 (walk_walks p valid (first_walk p k.operands) k.frames w.0 (refl, refl) w.1) (slice_get p.lines k.pc) refl w.2

module _ (p : Program) (valid : IsValid p) where
  pub fits_revived : (c : Control) → Fits p c → revived p (kept_of c) ≡ Some c
  unfolding revived
  fits_revived c fits =
      let line : slice_get p.lines c.position.pc ≡ Some (line_of fits.next.0 fits.kinds fits.spot) = fits.next.1 in
      let below : bytes_fit (bytes_of c.position.frames) ≡ true =
      bytes_fewer (bytes_of c.position.frames) (bytes_on c.position.ops (bytes_of c.position.frames)) (bytes_below c.position.ops (bytes_of c.position.frames)) fits.bytes in
      let w = walk_again p valid c.position.frames fits.spot.body fits.floor (reverse c.position.ops) fits.frames below in
      let used : nat_eq (held_used c.position.used) (held_used (fits.floor + fits.spot.limits)) ≡ true = eq-eqb _ _ (ap (λ (n : ℕ). held_used n) fits.used) in
      let waits : may_wait (kept_of c) fits.next.0 ≡ true =
      true_both (not (is_asking c.waits) || is_ask (Some fits.next.0)) (is_refused c.waits || cells_fit (held_used c.position.used))
      (so_if (is_asking c.waits) (is_ask (Some fits.next.0)) (λ e. sym (ap (λ (o : Option Line). is_ask (instr_of o)) line) ∙ fits.asks e))
      (so_unless (is_refused c.waits) (cells_fit (held_used c.position.used)) (λ e. held_cells c.position.used (fits.cells e))) in
      let own : taken fits.kinds (bytes_of c.position.frames) (reverse c.position.ops) ≡ Some (c.position.ops, []) =
      ap (taken fits.kinds (bytes_of c.position.frames)) (sym (append-nil (reverse c.position.ops))) ∙ taken_again fits.kinds (bytes_of c.position.frames) c.position.ops [] fits.operands fits.bytes in
      ap (λ (o : Option Walk). o >>= stands_at (kept_of c) (slice_get p.lines c.position.pc)) w
      ∙ ap (λ (o : Option Line). stands_at (kept_of c) o (record { body = fits.spot.body; floor = fits.floor; frames = c.position.frames; left = reverse c.position.ops })) line
      ∙ rw (body_same fits.spot.body, used, waits, own, ← fits.used) refl
