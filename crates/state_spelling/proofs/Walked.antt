-- Frames that were walked are such as CALL and REFER make, and such frames are walked.
use Rattle.std.proofs.Common.{◌≡◌, ℕ, zero, suc, ◌+◌, ◌<◌, ◌≤◌, ◌&&◌, Bool, true, false, cond, eqb, nat_eq, List, [], ◌∷◌, ◌++◌, length, drop, Option, Some, None, refl, sym, ap, subst, ◌∙◌, append_assoc, arith}
use Rattle.std.specs.Prelude.{reverse, flat_map, slice_get}
use Rattle.std.proofs.lemmas.Bool.{eqb-true, eq-eqb}
use Rattle.std.proofs.lemmas.List.{append-nil}
use Rattle.eu_base.specs.declared.value.Kind.{Kind}
use Rattle.eu_base.specs.Room.{bytes_fit}
use Rattle.code_form.specs.declared.instr.Instr.{Instr}
use Rattle.code_form.specs.declared.instr.Instr.TheVariants.{Call, Refer}
use Rattle.code_form.specs.declared.code.Line.{Line}
use Rattle.code_form.specs.declared.code.Spot.{Spot}
use Rattle.code_form.specs.declared.code.Entry.{Entry}
use Rattle.code_form.specs.declared.code.Layout.{Layout}
use Rattle.code_form.specs.declared.code.Layout.TheVariants.{Own, Of as RefinesOf, Level}
use Rattle.code_form.specs.declared.operand.Operand.{Operand}
use Rattle.code_form.specs.declared.operand.OperandKind.{OperandKind}
use Rattle.code_form.specs.Program.{Program, line_of, cell_uses}
use Rattle.code_form.specs.Machine.{Frame, base_of, bytes_on, bytes_of}
use Rattle.code_form.specs.Valid.{IsValid, IsFine, IsCalled, IsMade, MadeSo, FitsFrames, FitsKinds, pushed_operands, IsRefinement}
use Rattle.code_form.proofs.Frames.{bytes_fewer, bytes_below}
use Rattle.state_spelling.specs.declared.kept.KeptFrame.{KeptFrame}
use Rattle.byte_spelling.specs.Spelling.{◌>>=◌}
use Rattle.byte_spelling.proofs.Laws.{bind_some, pass_some, some_is, both_true, true_both}
use Rattle.state_spelling.specs.Standing.{kept_frame, kept_frames, pending_below}
use Rattle.state_spelling.specs.Revived.{taken, Walk, same_body, enters_if, called, referred, called_by, referred_by, made_by, made_at, maker, walk_step, walk, first_walk}
use Rattle.state_spelling.proofs.Taken.{Parts, Takes, taken_takes, taken_again}

abbrev some : ℕ → Option ℕ
some k = Some k

abbrev some_walk : Walk → Option Walk
some_walk w = Some w

pub body_is : (a b : Option ℕ) → same_body a b ≡ true → a ≡ b
body_is None None e = refl
body_is (Some m) (Some n) e = ap some (eqb-true m n e)
body_is None (Some n) e = absurd cc
body_is (Some m) None e = absurd cc

pub body_same : (a : Option ℕ) → same_body a a ≡ true
body_same None = refl
body_same (Some n) = eq-eqb n n refl

pushed_back : (ps rest : List OperandKind) → drop (length ps) (pushed_operands ps rest) ≡ rest
pushed_back [] rest = refl
pushed_back (k ∷ ps) rest = drop_more (length ps) (pushed_operands ps (k ∷ rest)) k rest (pushed_back ps (k ∷ rest))
  where
    drop_more : (n : ℕ) (ks : List OperandKind) (k : OperandKind) (rest : List OperandKind) → drop n ks ≡ k ∷ rest → drop (suc n) ks ≡ rest
    drop_more zero [] k rest e = absurd cc
    drop_more zero (j ∷ ks) k rest e = cc
    drop_more (suc n) [] k rest e = absurd cc
    drop_more (suc n) (j ∷ ks) k rest e = drop_more n ks k rest e

module _ (p : Program) (valid : IsValid p) where
  -- what holds after so many frames
  pub record Walks (old : Walk) (f : KeptFrame) (new : Walk) : Type 0 where
    pub frame : Frame
    pub frames : new.frames ≡ frame ∷ old.frames
    pub kept : kept_frame frame ≡ f
    pub left : old.left ≡ reverse frame.ops ++ new.left
    pub fits : FitsFrames p new.frames new.body new.floor
    pub room : bytes_fit (bytes_of old.frames) ≡ true → bytes_fit (bytes_of new.frames) ≡ true

  module _ (f : KeptFrame) (w new : Walk) (pc : ℕ) (back : f.back ≡ pc + 1) (l : Line) (at : slice_get p.lines pc ≡ Some l) (body : l.spot.body ≡ w.body)
      (used : f.used ≡ w.floor + l.spot.limits) (fits : FitsFrames p w.frames w.body w.floor) where
    frames_below : FitsFrames p w.frames l.spot.body w.floor
    frames_below = subst (λ b. FitsFrames p w.frames b w.floor) (sym body) fits

    entered : (cells refines : Bool) (n floor : ℕ) (ks : List OperandKind) (e : Entry) → slice_get p.bodies n ≡ Some e
        → ((ops : List Operand) → cells ≡ true → MadeSo p e.layout n pc ks l.spot (record { back = f.back; base = f.base; used = f.used; refines = refines; body = n; ops = ops }) floor (base_of w.frames))
        → enters_if cells refines n floor f ks w ≡ Some new → Walks w f new
    entered cells refines n floor ks e has so is =
        let g = pass cells is in
        let r = bind_some (taken ks (bytes_of w.frames) w.left) (λ (r : Parts). Some (record {
          body = Some n;
          floor = floor;
          frames = record { back = f.back; base = f.base; used = f.used; refines = refines; body = n; ops = r.0 } ∷ w.frames;
          left = r.1;
        })) new g.1 in
        let t = taken_takes ks (bytes_of w.frames) w.left r.0 r.1 in
        subst (Walks w f) (some_is {A = Walk} (record {
          body = Some n;
          floor = floor;
          frames = record { back = f.back; base = f.base; used = f.used; refines = refines; body = n; ops = r.0.0 } ∷ w.frames;
          left = r.0.1;
        }) new r.2) (record {
          frame = record { back = f.back; base = f.base; used = f.used; refines = refines; body = n; ops = r.0.0 };
          frames = refl;
          kept = refl;
          left = t.parts;
          fits = (
            l.spot,
            (
              w.floor,
              (
                record {
                  number = n;
                  is = refl;
                  named = refl;
                  entry = e;
                  has = has;
                  pc = pc;
                  rest = ks;
                  back = back;
                  used = used;
                  operands = t.fits;
                  made = so r.0.0 g.0;
                },
                frames_below,
              ),
            ),
          );
          room = t.room;
        })
      where
        pass : (cells : Bool) {o : Option Walk} → cond cells o None ≡ Some new → (cells ≡ true) × (o ≡ Some new)
        pass true e = (refl, e)
        pass false e = absurd cc

    call_walks : (n : ℕ) (e : Entry) (lay : Layout) → e.layout ≡ lay → l.instr ≡ Call n → slice_get p.bodies n ≡ Some e → called lay n l.operands f w ≡ Some new → Walks w f new
    call_walks n e (Own params vars) own instr has is =
        let fine : IsFine p pc (Call n) l.operands l.spot = subst (λ i. IsFine p pc i l.operands l.spot) instr (valid.each pc l at) in
        let same : fine.entry ≡ e = some_is fine.entry e (sym fine.has ∙ has) in
        let lay : Own fine.parameters fine.variables ≡ Own params vars = sym fine.own ∙ ap (λ (e : Entry). e.layout) same ∙ own in
        let ps : fine.parameters ≡ params = cc in
        let taken_are : l.operands ≡ pushed_operands params (drop (length params) l.operands) =
        let a : l.operands ≡ pushed_operands params fine.rest = fine.taken ∙ ap (λ x. pushed_operands x fine.rest) ps in
        a ∙ ap (pushed_operands params) (sym (ap (drop (length params)) a ∙ pushed_back params fine.rest)) in
        let line : slice_get p.lines pc ≡ Some (line_of (Call n) (pushed_operands params (drop (length params) l.operands)) l.spot) = at ∙ line_is l (Call n) _ instr taken_are in
        entered (nat_eq f.base (f.used + 2)) false n (f.base + length (flat_map cell_uses params) + length vars) (drop (length params) l.operands) e has
        (λ ops c. subst (λ lay. MadeSo p lay n pc (drop (length params) l.operands) l.spot (record { back = f.back; base = f.base; used = f.used; refines = false; body = n; ops = ops }) (f.base + length (flat_map cell_uses params) + length vars) (base_of w.frames)) (sym own)
        (line, refl, eqb-true _ _ c, refl))
        is
      where
        line_is : (l : Line) (i : Instr) (ks : List OperandKind) → l.instr ≡ i → l.operands ≡ ks → Some l ≡ Some (line_of i ks l.spot)
        line_is l i ks a b = rw (← a, ← b) refl
    call_walks n e (RefinesOf q) own instr has is = absurd cc
    call_walks n e Level own instr has is = absurd cc

    line_so : (i : Instr) → l.instr ≡ i → slice_get p.lines pc ≡ Some (line_of i l.operands l.spot)
    line_so i instr = at ∙ by l i instr
      where
        by : (l : Line) (i : Instr) → l.instr ≡ i → Some l ≡ Some (line_of i l.operands l.spot)
        by l i a = rw (← a) refl

    refer_walks : (n : ℕ) (e : Entry) (lay : Layout) → e.layout ≡ lay → l.instr ≡ Refer n → slice_get p.bodies n ≡ Some e → referred lay n l.operands f w ≡ Some new → Walks w f new
    refer_walks n e (Own params vars) own instr has is = absurd cc
    refer_walks n e (RefinesOf q) own instr has is =
        entered (nat_eq f.base (base_of w.frames)) true n (f.used + 2) l.operands e has
        (λ ops c. subst (λ lay. MadeSo p lay n pc l.operands l.spot (record { back = f.back; base = f.base; used = f.used; refines = true; body = n; ops = ops }) (f.used + 2) (base_of w.frames)) (sym own)
        (line_so (Refer n) instr, refl, eqb-true _ _ c, refl))
        is
    refer_walks n e Level own instr has is =
        entered (nat_eq f.base (base_of w.frames)) true n (f.used + 2) l.operands e has
        (λ ops c. subst (λ lay. MadeSo p lay n pc l.operands l.spot (record { back = f.back; base = f.base; used = f.used; refines = true; body = n; ops = ops }) (f.used + 2) (base_of w.frames)) (sym own)
        (line_so (Refer n) instr, refl, eqb-true _ _ c, refl))
        is

    call_by_walks : (n : ℕ) (o : Option Entry) → slice_get p.bodies n ≡ o → l.instr ≡ Call n → called_by o n l.operands f w ≡ Some new → Walks w f new
    call_by_walks n None has instr is = absurd cc
    call_by_walks n (Some e) has instr is = call_walks n e e.layout refl instr has is

    refer_by_walks : (n : ℕ) (o : Option Entry) → slice_get p.bodies n ≡ o → l.instr ≡ Refer n → referred_by o n l.operands f w ≡ Some new → Walks w f new
    refer_by_walks n None has instr is = absurd cc
    refer_by_walks n (Some e) has instr is = refer_walks n e e.layout refl instr has is

    made_walks : (i : Instr) → l.instr ≡ i → made_by p i l.operands f w ≡ Some new → Walks w f new
    made_walks (Call n) instr is = call_by_walks n (slice_get p.bodies n) refl instr is
    made_walks (Refer n) instr is = refer_by_walks n (slice_get p.bodies n) refl instr is
    made_walks _ instr is = absurd cc

  at_walks : (f : KeptFrame) (w new : Walk) (pc : ℕ) → f.back ≡ pc + 1 → (o : Option Line) → slice_get p.lines pc ≡ o → FitsFrames p w.frames w.body w.floor → made_at p o f w ≡ Some new → Walks w f new
  at_walks f w new pc back None at fits is = absurd cc
  at_walks f w new pc back (Some l) at fits is =
      let g = passed (same_body l.spot.body w.body && nat_eq f.used (w.floor + l.spot.limits)) is in
      let h = both_true (same_body l.spot.body w.body) (nat_eq f.used (w.floor + l.spot.limits)) g.0 in
      made_walks f w new pc back l at (body_is l.spot.body w.body h.0) (eqb-true _ _ h.1) fits l.instr refl g.1
    where
      passed : (b : Bool) {o : Option Walk} → cond b o None ≡ Some new → (b ≡ true) × (o ≡ Some new)
      passed true e = (refl, e)
      passed false e = absurd cc

  step_walks : (f : KeptFrame) (w new : Walk) → FitsFrames p w.frames w.body w.floor → walk_step p f w ≡ Some new → Walks w f new
  step_walks f w new fits is = by f.back refl is
    where
      by : (back : ℕ) → f.back ≡ back → made_at p (maker p back) f w ≡ Some new → Walks w f new
      by zero b is = absurd cc
      by (suc pc) b is = at_walks f w new pc (b ∙ (let e : suc pc ≡ pc + 1 = omega arith in e)) (slice_get p.lines pc) refl fits is

  -- what holds after all frames
  pub record WalksAll (old : Walk) (fs : List KeptFrame) (new : Walk) : Type 0 where
    pub kept : kept_frames new.frames ≡ kept_frames old.frames ++ fs
    pub left : pending_below old.frames ++ old.left ≡ pending_below new.frames ++ new.left
    pub fits : FitsFrames p new.frames new.body new.floor
    pub room : bytes_fit (bytes_of old.frames) ≡ true → bytes_fit (bytes_of new.frames) ≡ true

  pub walk_walks : (w : Walk) (fs : List KeptFrame) (new : Walk) → FitsFrames p w.frames w.body w.floor → walk p w fs ≡ Some new → WalksAll w fs new
  unfolding walk
  walk_walks w [] new fits is =
      subst (WalksAll w []) (some_is {A = Walk} w new is) (record { kept = sym (append-nil (kept_frames w.frames)); left = refl; fits = fits; room = λ e. e })
  walk_walks w (f ∷ fs) new fits is =
      let a = bind_some (walk_step p f w) (λ (next : Walk). walk p next fs) new is in
      let s = step_walks f w a.0 fits a.1 in
      let r = walk_walks a.0 fs new s.fits a.2 in
      record {
        kept = r.kept ∙ ap (λ x. kept_frames x ++ fs) s.frames ∙ append_assoc (kept_frames w.frames) (kept_frame s.frame ∷ []) fs ∙ ap (λ (x : KeptFrame). kept_frames w.frames ++ x ∷ fs) s.kept;
        left = ap (λ (x : List Operand). pending_below w.frames ++ x) s.left ∙ sym (append_assoc (pending_below w.frames) (reverse s.frame.ops) a.0.left)
            ∙ ap (λ x. pending_below x ++ a.0.left) (sym s.frames) ∙ r.left;
        fits = r.fits;
        room = λ e. r.room (s.room e);
      }

  -- ---- and back

  module _ (g : Frame) (fs : List Frame) (body : Option ℕ) (floor : ℕ) (m : Spot) (floor_below : ℕ) (made : IsMade p g body floor (base_of fs) m floor_below)
      (room : bytes_fit (bytes_on g.ops (bytes_of fs)) ≡ true) (more : List Operand) where
    abbrev below : Walk
    below = record { body = m.body; floor = floor_below; frames = fs; left = reverse g.ops ++ more }

    abbrev above : Walk
    above = record { body = body; floor = floor; frames = g ∷ fs; left = more }

    as_frame : (refines : Bool) → g.refines ≡ refines → record { back = g.back; base = g.base; used = g.used; refines = refines; body = made.number; ops = g.ops } ≡ g
    as_frame refines r = rw (← r, ← made.named) refl

    as_above : (refines : Bool) (fl : ℕ) → g.refines ≡ refines → floor ≡ fl
        → some_walk (record { body = Some made.number; floor = fl; frames = record { back = g.back; base = g.base; used = g.used; refines = refines; body = made.number; ops = g.ops } ∷ fs; left = more }) ≡ Some above
    as_above refines fl r fe = rw (as_frame refines r, ← fe, ← made.is) refl

    at_line : (i : Instr) (ks : List OperandKind) → slice_get p.lines made.pc ≡ Some (line_of i ks m) → walk_step p (kept_frame g) below ≡ made_by p i ks (kept_frame g) below
    at_line i ks line =
        let back : g.back ≡ suc made.pc = omega (arith, made.back) in
        let used : nat_eq g.used (floor_below + m.limits) ≡ true = eq-eqb g.used (floor_below + m.limits) made.used in
        ap (λ (b : ℕ). made_at p (maker p b) (kept_frame g) below) back ∙ ap (λ o. made_at p o (kept_frame g) below) line ∙ rw (body_same m.body, used) refl

    enters_again : (refines : Bool) (fl : ℕ) (cells : Bool) → cells ≡ true → g.refines ≡ refines → floor ≡ fl → enters_if cells refines made.number fl (kept_frame g) made.rest below ≡ Some above
    enters_again refines fl cells c r fe =
        rw (c, taken_again made.rest (bytes_of fs) g.ops more made.operands room) (as_above refines fl r fe)

    by_layout : (lay : Layout) → made.entry.layout ≡ lay → MadeSo p lay made.number made.pc made.rest m g floor (base_of fs) → walk_step p (kept_frame g) below ≡ Some above
    by_layout (Own params vars) own so =
        at_line (Call made.number) (pushed_operands params made.rest) so.0
        ∙ ap (λ o. called_by o made.number (pushed_operands params made.rest) (kept_frame g) below) made.has
        ∙ ap (λ lay. called lay made.number (pushed_operands params made.rest) (kept_frame g) below) own
        ∙ ap (λ ks. enters_if (nat_eq g.base (g.used + 2)) false made.number (g.base + length (flat_map cell_uses params) + length vars) (kept_frame g) ks below) (pushed_back params made.rest)
        ∙ enters_again false (g.base + length (flat_map cell_uses params) + length vars) (nat_eq g.base (g.used + 2)) (eq-eqb _ _ so.2) so.1 so.3
    by_layout (RefinesOf q) own so =
        at_line (Refer made.number) made.rest so.0
        ∙ ap (λ o. referred_by o made.number made.rest (kept_frame g) below) made.has
        ∙ ap (λ lay. referred lay made.number made.rest (kept_frame g) below) own
        ∙ enters_again true (g.used + 2) (nat_eq g.base (base_of fs)) (eq-eqb _ _ so.2) so.1 so.3
    by_layout Level own so =
        at_line (Refer made.number) made.rest so.0
        ∙ ap (λ o. referred_by o made.number made.rest (kept_frame g) below) made.has
        ∙ ap (λ lay. referred lay made.number made.rest (kept_frame g) below) own
        ∙ enters_again true (g.used + 2) (nat_eq g.base (base_of fs)) (eq-eqb _ _ so.2) so.1 so.3

    step_again : walk_step p (kept_frame g) below ≡ Some above
    step_again = by_layout made.entry.layout refl made.made

  walk_then : (w : Walk) (fs : List KeptFrame) (f : KeptFrame) → walk p w (fs ++ f ∷ []) ≡ (walk p w fs >>= λ (next : Walk). walk_step p f next)
  unfolding walk
  walk_then w [] f = one (walk_step p f w)
    where
      one : (o : Option Walk) → ◌>>=◌ {A = Walk} {B = Walk} o (λ (next : Walk). Some next) ≡ o
      one None = refl
      one (Some x) = refl
  walk_then w (g ∷ fs) f = by (walk_step p g w) (λ x. walk_then x fs f)
    where
      by : (o : Option Walk) → ((x : Walk) → walk p x (fs ++ f ∷ []) ≡ (walk p x fs >>= λ (next : Walk). walk_step p f next))
          → (o >>= λ (next : Walk). walk p next (fs ++ f ∷ [])) ≡ ((o >>= λ (next : Walk). walk p next fs) >>= λ (next : Walk). walk_step p f next)
      by None h = refl
      by (Some x) h = h x

  pub walk_again : (frames : List Frame) (body : Option ℕ) (floor : ℕ) (more : List Operand) → FitsFrames p frames body floor → bytes_fit (bytes_of frames) ≡ true
      → walk p (first_walk p (pending_below frames ++ more)) (kept_frames frames) ≡ Some (record { body = body; floor = floor; frames = frames; left = more })
  unfolding walk
  walk_again [] body floor more fits room = rw (fits.0, fits.1) refl
  walk_again (g ∷ fs) body floor more fits room =
      let less : bytes_fit (bytes_of fs) ≡ true = bytes_fewer (bytes_of fs) (bytes_on g.ops (bytes_of fs)) (bytes_below g.ops (bytes_of fs)) room in
      let start : first_walk p (pending_below (g ∷ fs) ++ more) ≡ first_walk p (pending_below fs ++ (reverse g.ops ++ more)) = ap (first_walk p) (append_assoc (pending_below fs) (reverse g.ops) more) in
      ap (λ (w : Walk). walk p w (kept_frames (g ∷ fs))) start
      ∙ walk_then (first_walk p (pending_below fs ++ (reverse g.ops ++ more))) (kept_frames fs) (kept_frame g)
      ∙ ap (λ (o : Option Walk). o >>= λ (next : Walk). walk_step p (kept_frame g) next) (walk_again fs fits.0.body fits.1.0 (reverse g.ops ++ more) fits.1.1.1 less)
      ∙ step_again g fs body floor fits.0 fits.1.0 fits.1.1.0 room more
