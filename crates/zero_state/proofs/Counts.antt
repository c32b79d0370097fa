-- What a stack counts.
use Rattle.std.proofs.Common.{◌≡◌, ℕ, zero, suc, ◌+◌, ◌-◌, ◌<◌, ◌≤◌, List, [], ◌∷◌, ◌++◌, map, length, take, drop, get_or, refl, sym, ap, ◌∙◌, subst, arith, length-drop}
use Rattle.std.specs.Prelude.{reverse, slice_set}
use Rattle.std.proofs.Math.Seq.{set-append_seam}
use Rattle.std.proofs.lemmas.List.{reverse-append, reverse-reverse, length-reverse, length-take-le, take-append-drop, take_rest}
use Rattle.eu_base.specs.declared.address.Addr.{Addr}
use Rattle.code_form.specs.declared.operand.Operand.{Operand}
use Rattle.code_form.specs.declared.operand.Operand.TheVariants.{Place as At}
use Rattle.code_form.specs.Machine.{Frame, operand_bytes, bytes_on, bytes_of}
use Rattle.zero_state.specs.declared.stack.Link.{Link}
use Rattle.zero_state.specs.declared.stack.Frame.{Frame as Kept}
use Rattle.zero_state.specs.Stacked.{Stacked, linked, frame_of, frames_of}
use Rattle.zero_state.proofs.Stacks.{newest, older}

abbrev pub stacked : List Operand → List Kept → Stacked
stacked operands frames = record { ops = reverse operands; frames = frames_of frames }

abbrev stack_of : List Operand → List Frame → Stacked
stack_of ops frames = record { ops = ops; frames = frames }

last_frame : (frames : List Kept) (f : Kept) → frames_of (frames ++ f ∷ []) ≡ frame_of f ∷ frames_of frames
last_frame frames f = ap (map frame_of) (reverse-append frames (f ∷ []))

-- the bytes of operands are counted in any order, and upon what is held below
pub bytes_append : (xs ys : List Operand) (held : ℕ) → bytes_on (xs ++ ys) held ≡ bytes_on xs (bytes_on ys held)
bytes_append [] ys held = refl
bytes_append (x ∷ xs) ys held = ap (λ n. operand_bytes x + n) (bytes_append xs ys held)

pub bytes_upon : (xs : List Operand) (held : ℕ) → bytes_on xs held ≡ bytes_on xs 0 + held
bytes_upon [] held = omega arith
bytes_upon (x ∷ xs) held = omega (arith, bytes_upon xs held)

pub bytes_turned : (xs : List Operand) (held : ℕ) → bytes_on (reverse xs) held ≡ bytes_on xs held
bytes_turned [] held = refl
bytes_turned (x ∷ xs) held =
    ap (λ l. bytes_on l held) (reverse-append (x ∷ []) xs) ∙ bytes_append (reverse xs) (x ∷ []) held ∙ bytes_turned xs (operand_bytes x + held)
    ∙ omega (arith, bytes_upon xs held, bytes_upon xs (operand_bytes x + held))

-- those of the first operands, and of one more
pub bytes_next : (xs : List Operand) (k n : ℕ) (d : Operand) → k < length xs → n ≡ operand_bytes (get_or xs k d)
    → bytes_on (take (k + 1) xs) 0 ≡ bytes_on (take k xs) 0 + n
bytes_next [] k n d lt is = absurd (omega (arith, lt))
bytes_next (x ∷ xs) zero n d lt is = omega (arith, is)
bytes_next (x ∷ xs) (suc k) n d lt is =
    let e : suc k + 1 ≡ suc (k + 1) = omega arith in
    ap (λ n. bytes_on (take n (x ∷ xs)) 0) e ∙ omega (arith, bytes_next xs k n d (omega (arith, lt)) is)

pub bytes_first : (xs : List Operand) (k : ℕ) → bytes_on (take k xs) 0 ≤ bytes_on xs 0
bytes_first [] zero = omega arith
bytes_first [] (suc k) = omega arith
bytes_first (x ∷ xs) zero = omega arith
bytes_first (x ∷ xs) (suc k) = omega (arith, bytes_first xs k)

-- the newest operands are counted among all, and those that are kept are what is left
pub bytes_parted : (operands : List Operand) (k held : ℕ) → bytes_on (reverse operands) held
    ≡ bytes_on (reverse (take k operands)) held + bytes_on (drop k operands) 0
bytes_parted operands k held =
    omega (
      arith,
      bytes_turned operands held,
      bytes_turned (take k operands) held,
      ap (λ l. bytes_on l held) (sym (take-append-drop k operands)),
      bytes_append (take k operands) (drop k operands) held,
      bytes_upon (take k operands) (bytes_on (drop k operands) held),
      bytes_upon (take k operands) held,
      bytes_upon (drop k operands) held,
    )

-- what is pending in the innermost frame is counted upon what is held below
pub upon_held : (operands all : List Operand) (held bytes : ℕ) → all ≡ operands → bytes ≡ bytes_on (reverse operands) held → bytes ≡ bytes_on all 0 + held
upon_held operands all held bytes same counted =
    counted ∙ bytes_turned operands held ∙ bytes_upon operands held ∙ ap (λ l. bytes_on l 0 + held) (sym same)

-- what is left where the newest operands are gone
module _ (operands all : List Operand) (k held bytes : ℕ) (same : all ≡ operands) (counted : bytes ≡ bytes_on (reverse operands) held) where
  abbrev gone : List Operand
  gone = take (length all - k) (drop k all)

  parted : bytes ≡ bytes_on (reverse (take k operands)) held + bytes_on gone 0
  parted = counted ∙ bytes_parted operands k held
      ∙ ap (λ n. bytes_on (reverse (take k operands)) held + bytes_on n 0) (sym (take_rest all k ∙ ap (drop k) same))

  pub fewer : bytes_on gone 0 ≤ bytes
  fewer = omega (arith, parted)

  pub kept : (left : ℕ) (now : List Operand) → bytes ≡ left + bytes_on gone 0 → now ≡ take k operands → left ≡ bytes_on (reverse now) held
  kept left now e is =
      let f : left ≡ bytes_on (reverse (take k operands)) held = omega (arith, parted, e) in
      f ∙ ap (λ l. bytes_on (reverse l) held) (sym is)

-- the last frame gets another list of what is pending below
pub last_set : (frames before after : List Kept) (n : ℕ) (f g : Kept) → before ≡ frames ++ f ∷ [] → n ≡ length frames → after ≡ slice_set before n g
    → after ≡ frames ++ g ∷ []
last_set frames before after n f g is m e = e ∙ ap (λ l. slice_set l n g) is ∙ ap (λ n. slice_set (frames ++ f ∷ []) n g) m ∙ set-append_seam frames f [] g

-- what the last frame holds
pub held_is : (frames all : List Kept) (f : Kept) → all ≡ frames ++ f ∷ []
    → bytes_of (frames_of all) ≡ bytes_on (reverse f.operands) (bytes_of (frames_of frames))
held_is frames all f is = ap (λ fs. bytes_of (frames_of fs)) is ∙ ap bytes_of (last_frame frames f)

module _ (operands : List Operand) (frames : List Kept) (s : Stacked) (view : stacked operands frames ≡ s) where
  pub as_many : length s.ops ≡ length operands
  as_many = subst (λ (s : Stacked). length s.ops ≡ length operands) view (length-reverse operands)

  -- the newest operands stand last
  pub on_top : (all : List Operand) (count n : ℕ) → all ≡ operands → n ≡ length operands → count ≤ length s.ops
      → take (length all - (n - count)) (drop (n - count) all) ≡ reverse (take count s.ops)
  on_top all count n same m le =
      let within : count ≤ length operands = omega (arith, le, as_many) in
      let k : n - count ≡ length operands - count = ap (λ n. n - count) m in
      let top : reverse (take count (reverse operands)) ≡ drop (length operands - count) operands =
      ap reverse (newest operands count within) ∙ reverse-reverse (drop (length operands - count) operands) in
      let here : reverse (take count s.ops) ≡ drop (length operands - count) operands = ap (λ (s : Stacked). reverse (take count s.ops)) (sym view) ∙ top in
      take_rest all (n - count) ∙ ap (λ k. drop k all) k ∙ ap (drop (length operands - count)) same ∙ sym here

  -- the older ones are left
  pub dropped : (left : List Operand) (count n : ℕ) → left ≡ take (n - count) operands → n ≡ length operands → count ≤ length s.ops
      → stacked left frames ≡ record s { ops = drop count s.ops }
  dropped left count n is m le =
      let within : count ≤ length operands = omega (arith, le, as_many) in
      let k : left ≡ take (length operands - count) operands = is ∙ ap (λ n. take (n - count) operands) m in
      let e : reverse left ≡ drop count (reverse operands) = ap reverse k ∙ sym (older operands count within) in
      ap (λ ops. stack_of ops (frames_of frames)) e ∙ ap (λ (s : Stacked). record s { ops = drop count s.ops }) view

  -- a new frame keeps what is pending
  pub entered : (all : List Kept) (link : Link) (kept : List Operand) → all ≡ frames ++ record { link = link; operands = kept } ∷ [] → kept ≡ operands
      → frames_of all ≡ linked link s.ops ∷ s.frames
  entered all link kept same is =
      ap frames_of same ∙ last_frame frames (record { link = link; operands = kept }) ∙ ap (λ ops. linked link (reverse ops) ∷ frames_of frames) is
      ∙ ap (λ (s : Stacked). linked link s.ops ∷ s.frames) view

pub stacked_is : (operands : List Operand) (frames : List Kept) (fs : List Frame) → operands ≡ [] → frames_of frames ≡ fs
    → stacked operands frames ≡ record { ops = []; frames = fs }
stacked_is operands frames fs e f = ap (λ l. stack_of (reverse l) (frames_of frames)) e ∙ ap (stack_of []) f

-- an operand in the place of the last one
one : (xs : List Operand) → length xs ≡ 1 → (o : Operand) × (xs ≡ o ∷ [])
one [] e = absurd (omega (arith, e))
one (o ∷ []) e = (o, refl)
one (o ∷ q ∷ xs) e = absurd (omega (arith, e))

pub replaced : (operands after : List Operand) (n : ℕ) (o : Operand) → 1 ≤ length operands → n ≡ length operands → after ≡ slice_set operands (n - 1) o
    → after ≡ take (n - 1) operands ++ o ∷ []
replaced operands after n o le many is =
    let k : ℕ = n - 1 in
    let short = length-take-le k operands (omega (arith, le, many)) in
    let last = one (drop k operands) (omega (arith, le, many, length-drop k operands)) in
    let whole : operands ≡ take k operands ++ last.0 ∷ [] =
    sym (take-append-drop k operands) ∙ ap (λ l. take k operands ++ l) last.1 in
    is ∙ ap (λ l. slice_set l k o) whole ∙ ap (λ n. slice_set (take k operands ++ last.0 ∷ []) n o) (sym short)
    ∙ set-append_seam (take k operands) last.0 [] o

-- it is counted in its place
pub replaced_turned : (operands after : List Operand) (o : Operand) → after ≡ operands ++ o ∷ [] → reverse after ≡ o ∷ reverse operands
replaced_turned operands after o is = ap reverse is ∙ reverse-append operands (o ∷ [])

pub replaced_is : (operands after : List Operand) (frames : List Kept) (o : Operand) (s : Stacked) → reverse after ≡ o ∷ reverse operands
    → stacked operands frames ≡ s → stacked after frames ≡ record s { ops = o ∷ s.ops }
replaced_is operands after frames o s turned is =
    ap (λ ops. stack_of ops (frames_of frames)) turned ∙ ap (λ (s : Stacked). record s { ops = o ∷ s.ops }) is

-- a place in the stead of one that is on top takes as many bytes
pub moved : (operands : List Operand) (frames : List Kept) (s : Stacked) → stacked operands frames ≡ s → (after : List Operand) (a b : Addr)
    → (rest : List Operand) (n bytes : ℕ) → s.ops ≡ At b ∷ rest → n ≡ length operands → after ≡ slice_set operands (n - 1) (At a)
    → bytes ≡ bytes_on (reverse operands) (bytes_of (frames_of frames)) → bytes ≡ bytes_on (reverse after) (bytes_of (frames_of frames))
moved operands frames s view after a b rest n bytes top many is counted =
    let held = bytes_of (frames_of frames) in
    let all : reverse operands ≡ At b ∷ rest = ap (λ (s : Stacked). s.ops) view ∙ top in
    let long : length operands ≡ suc (length rest) = sym (length-reverse operands) ∙ ap (λ (l : List Operand). length l) all in
    let set : after ≡ take (n - 1) operands ++ At a ∷ [] = replaced operands after n (At a) (omega (arith, long)) many is in
    let left : reverse (take (n - 1) operands) ≡ rest =
    ap (λ (m : ℕ). reverse (take (m - 1) operands)) many ∙ sym (older operands 1 (omega (arith, long))) ∙ ap (drop 1) all in
    counted ∙ ap (λ (l : List Operand). bytes_on l held) (all ∙ ap (λ (l : List Operand). At b ∷ l) (sym left))
    ∙ ap (λ (l : List Operand). bytes_on l held) (sym (replaced_turned (take (n - 1) operands) after (At a) set))
