-- The instruction before the one to which a frame returns.
use Rattle.std.proofs.Common.{◌≡◌, ℕ, zero, suc, ◌+◌, ◌-◌, ◌≤◌, ◌&&◌, Bool, true, ◌<◌, nat_eq, List, [], length, get_or, sym, Option, Some, None, Result, Ok, Err, refl, ap, ◌∙◌, arith}
use Rattle.std.specs.Prelude.{slice_get, reverse, drop}
use Rattle.std.proofs.Common.{◌∷◌, drop-cons}
use Rattle.code_form.specs.declared.operand.OperandKind.{OperandKind}
use Rattle.state_spelling.proofs.Taken.{Parts}
use Rattle.std.proofs.lemmas.List.{reverse-reverse}
use Rattle.std.proofs.lemmas.Option.{slice_get-get_or}
use Rattle.code_form.specs.declared.operand.Operand.{Operand}
use Rattle.zero_state.specs.Stacked.{Stacked}
use Rattle.byte_spelling.specs.Spelling.{◌>>=◌}
use Rattle.byte_spelling.specs.declared.reading.ReadError.{ReadError}
use Rattle.byte_spelling.specs.declared.reading.ReadError.TheVariants as errors
use Rattle.code_form.specs.declared.code.Line.{Line}
use Rattle.code_form.specs.Machine.{Control}
use Rattle.zero_state.specs.declared.state.State.{State}
use Rattle.state_spelling.specs.declared.kept.KeptFrame.{KeptFrame}
use Rattle.state_spelling.specs.declared.kept.Kept.{Kept}
use Rattle.byte_spelling.specs.Gives.{Fails}
use Rattle.state_spelling.specs.Coming.{CameTo, StateIs}
use Rattle.code_form.specs.Program.{Program}
use Rattle.state_spelling.specs.Revived.{Walk, taken, next_operand, same_body, maker, made_by, made_at, walk_step, walk, first_walk, stands_at, revived}

pub maker_is : (p : Program) (b : ℕ) → 1 ≤ b → maker p b ≡ slice_get p.lines (b - 1)
maker_is p zero le = absurd (omega arith)
maker_is p (suc b) le = let e : b ≡ suc b - 1 = omega arith in ap (slice_get p.lines) e

pub step_at : (p : Program) (f : KeptFrame) (w : Walk) (l : Line) → 1 ≤ f.back → slice_get p.lines (f.back - 1) ≡ Some l → (same_body l.spot.body w.body && nat_eq f.used (w.floor + l.spot.limits)) ≡ true
    → walk_step p f w ≡ made_by p l.instr l.operands f w
step_at p f w l le at is = ap (λ (o : Option Line). made_at p o f w) (maker_is p f.back le ∙ at) ∙ rw is refl

pub came_over : {X Y : Type 0} (r : Result X ReadError) (found other : Option Y) (now : Y) → found ≡ other → CameTo r other now → CameTo r found now
came_over (Ok u) found other now e c = e ∙ c
came_over (Err errors.NoMemory) found other now e c = tt
came_over (Err errors.NotSpelled) found other now e c = e ∙ c

-- the whole of it
pub revived_by : (p : Program) (k : Kept) (w : Walk) (l : Line) (r : Result State ReadError) → walk p (first_walk p k.operands) k.frames ≡ Some w → slice_get p.lines k.pc ≡ Some l
    → StateIs r (stands_at k (Some l) w) → StateIs r (revived p k)
unfolding revived
revived_by p k w l r e at is =
    let whole : revived p k ≡ stands_at k (Some l) w = ap (λ (o : Option Walk). o >>= stands_at k (slice_get p.lines k.pc)) e ∙ ap (λ (o : Option Line). stands_at k o w) at in
    over r (revived p k) (stands_at k (Some l) w) whole is
  where
    over : (r : Result State ReadError) (found other : Option Control) → found ≡ other → StateIs r other → StateIs r found
    over (Ok s) found other e c = e ∙ c
    over (Err errors.NoMemory) found other e c = tt
    over (Err errors.NotSpelled) found other e c = e ∙ c

abbrev some_line : Line → Option Line
some_line l = Some l

pub line_at : (lines own : List Line) (n : ℕ) (l : Line) → own ≡ lines → n < length own → l ≡ get_or own n l → slice_get lines n ≡ Some l
line_at lines own n l e lt is = ap (λ (ls : List Line). slice_get ls n) (sym e) ∙ slice_get-get_or own n l lt ∙ ap some_line (sym is)

abbrev pub started : ℕ → Stacked → List Operand → Walk
started floor stack left = record { body = None; floor = floor; frames = stack.frames; left = reverse left }

pub start_is : (p : Program) (ops : List Operand) (floor : ℕ) (stack : Stacked) (left : List Operand) → floor ≡ length p.variables → stack ≡ record { ops = []; frames = [] } → left ≡ reverse ops
    → started floor stack left ≡ first_walk p ops
start_is p ops floor stack left a b e = rw (a, b, e, reverse-reverse ops) refl

abbrev pub some_walk : Walk → Option Walk
some_walk w = Some w

drop_past : (n : ℕ) (xs : List KeptFrame) → length xs ≤ n → drop n xs ≡ []
drop_past zero [] le = refl
drop_past zero (x ∷ xs) le = absurd (omega arith)
drop_past (suc n) [] le = refl
drop_past (suc n) (x ∷ xs) le = drop_past n xs (omega arith)

-- ---- frames one after another

pub record WalksOn (p : Program) (old now : Walk) (frames : List KeptFrame) (n : ℕ) : Type 0 where
  pub so_far : walk p now (drop n frames) ≡ walk p old frames

walk_first : (p : Program) (w : Walk) (f : KeptFrame) (fs : List KeptFrame) → walk p w (f ∷ fs) ≡ (walk_step p f w >>= λ (next : Walk). walk p next fs)
unfolding walk
walk_first p w f fs = refl

walk_last : (p : Program) (w : Walk) → walk p w [] ≡ some_walk w
unfolding walk
walk_last p w = refl

walk_here : (p : Program) (w : Walk) (frames : List KeptFrame) (n : ℕ) (d : KeptFrame) → n < length frames
    → walk p w (drop n frames) ≡ (walk_step p (get_or frames n d) w >>= λ (next : Walk). walk p next (drop (n + 1) frames))
walk_here p w frames n d lt =
    let e : drop n frames ≡ get_or frames n d ∷ drop (suc n) frames = drop-cons frames n d lt in
    let k : suc n ≡ n + 1 = omega arith in
    ap (walk p w) e ∙ walk_first p w (get_or frames n d) (drop (suc n) frames)
    ∙ ap (λ (m : ℕ). walk_step p (get_or frames n d) w >>= λ (next : Walk). walk p next (drop m frames)) k

pub walks_on : (p : Program) (old now next : Walk) (frames : List KeptFrame) (n : ℕ) (d : KeptFrame) → WalksOn p old now frames n → n < length frames → walk_step p (get_or frames n d) now ≡ Some next → WalksOn p old next frames (n + 1)
walks_on p old now next frames n d on lt e = record { so_far = sym (walk_here p now frames n d lt ∙ ap (λ (o : Option Walk). o >>= λ (x : Walk). walk p x (drop (n + 1) frames)) e) ∙ on.so_far }

pub walks_not : (p : Program) (old now : Walk) (frames : List KeptFrame) (n : ℕ) (d : KeptFrame) (e : ReadError) → WalksOn p old now frames n → n < length frames
    → Fails e (walk_step p (get_or frames n d) now) → Fails e (walk p old frames)
walks_not p old now frames n d errors.NoMemory on lt c = tt
walks_not p old now frames n d errors.NotSpelled on lt c =
    sym on.so_far ∙ walk_here p now frames n d lt ∙ ap (λ (o : Option Walk). o >>= λ (x : Walk). walk p x (drop (n + 1) frames)) c

pub walked : (p : Program) (old now : Walk) (frames : List KeptFrame) (n : ℕ) → WalksOn p old now frames n → length frames ≤ n → walk p old frames ≡ Some now
walked p old now frames n on le = sym on.so_far ∙ ap (walk p now) (drop_past n frames le) ∙ walk_last p now

-- ---- operands one after another

taken_first : (k : OperandKind) (ks : List OperandKind) (held : ℕ) (left : List Operand) → taken (k ∷ ks) held left ≡ (taken ks held left >>= next_operand k held)
unfolding taken
taken_first k ks held left = refl

pub taken_none : (held : ℕ) (left : List Operand) → taken [] held left ≡ Some ([], left)
unfolding taken
taken_none held left = refl

taken_here : (ks : List OperandKind) (n : ℕ) (d : OperandKind) (held : ℕ) (left : List Operand) → n < length ks → taken (drop n ks) held left ≡ (taken (drop (suc n) ks) held left >>= next_operand (get_or ks n d) held)
taken_here ks n d held left lt = ap (λ (x : List OperandKind). taken x held left) (drop-cons ks n d lt) ∙ taken_first (get_or ks n d) (drop (suc n) ks) held left

pub takes_on : (ks : List OperandKind) (n m : ℕ) (d : OperandKind) (held : ℕ) (left : List Operand) (r s : Parts) → m ≡ n + 1 → n < length ks → taken (drop m ks) held left ≡ Some r → next_operand (get_or ks n d) held r ≡ Some s
    → taken (drop n ks) held left ≡ Some s
takes_on ks n m d held left r s e lt t x =
    let k : m ≡ suc n = omega (arith, e) in
    taken_here ks n d held left lt ∙ ap (λ (j : ℕ). taken (drop j ks) held left >>= next_operand (get_or ks n d) held) (sym k) ∙ ap (λ (o : Option Parts). o >>= next_operand (get_or ks n d) held) t ∙ x

none_before : (ks : List OperandKind) (n : ℕ) (held : ℕ) (left : List Operand) → taken (drop n ks) held left ≡ None → taken ks held left ≡ None
none_before ks zero held left e = e
none_before [] (suc n) held left e = e
none_before (k ∷ ks) (suc n) held left e = taken_first k ks held left ∙ ap (λ (o : Option Parts). o >>= next_operand k held) (none_before ks n held left e)

pub takes_not : (ks : List OperandKind) (n m : ℕ) (d : OperandKind) (held : ℕ) (left : List Operand) (r : Parts) (e : ReadError) → m ≡ n + 1 → n < length ks → taken (drop m ks) held left ≡ Some r
    → Fails e (next_operand (get_or ks n d) held r) → Fails e (taken ks held left)
takes_not ks n m d held left r errors.NoMemory is lt t x = tt
takes_not ks n m d held left r errors.NotSpelled is lt t x =
    let k : m ≡ suc n = omega (arith, is) in
    none_before ks n held left (taken_here ks n d held left lt ∙ ap (λ (j : ℕ). taken (drop j ks) held left >>= next_operand (get_or ks n d) held) (sym k) ∙ ap (λ (o : Option Parts). o >>= next_operand (get_or ks n d) held) t ∙ x)

drop_all : {A : Type 0} (xs : List A) → drop (length xs) xs ≡ []
drop_all [] = refl
drop_all (x ∷ xs) = drop_all xs

abbrev parts_are : List Operand → List Operand → Option Parts
parts_are x left = Some (x, left)

pub taken_at_end : (ks : List OperandKind) (held : ℕ) (left ops : List Operand) → ops ≡ [] → taken (drop (length ks) ks) held left ≡ Some (ops, left)
taken_at_end ks held left ops e = ap (λ (x : List OperandKind). taken x held left) (drop_all ks) ∙ taken_none held left ∙ ap (λ (x : List Operand). parts_are x left) (sym e)
