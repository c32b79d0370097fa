-- Items that were written, one list after another.
use Rattle.std.proofs.Common.{◌≡◌, ℕ, ◌+◌, ◌<◌, ◌≤◌, true, List, [], ◌∷◌, ◌++◌, length, take, get_or, map, refl, sym, ap, ◌∙◌, append_assoc, arith}
use Rattle.std.specs.Prelude.{reverse, nat_lt}
use Rattle.std.specs.List.{flat_map}
use Rattle.std.specs.Int.{w32}
use Rattle.std.proofs.lemmas.Bool.{lt-ltb}
use Rattle.std.proofs.lemmas.List.{append-nil, take_more, take_all, reverse-reverse, map-append, length-append}
use Rattle.std.proofs.lemmas.List.Concat.{flat_map-cons}
use Rattle.std.proofs.lemmas.Grind.{flat_map-append}
use Rattle.code_form.specs.declared.operand.Operand.{Operand}
use Rattle.zero_state.specs.declared.stack.Frame.{Frame}
use Rattle.zero_state.specs.Stacked.{frame_of, frames_of}
use Rattle.byte_spelling.specs.Spelling.{Spelling, all_fine, counted_list}
use Rattle.byte_spelling.proofs.Laws.{both_true, true_both}
use Rattle.state_spelling.specs.declared.kept.KeptFrame.{KeptFrame}
use Rattle.state_spelling.specs.Held.{kept_link, held}
use Rattle.state_spelling.specs.Standing.{kept_frames, pending_below}
use Rattle.state_spelling.proofs.Taken.{reverse-cons}

pub record HasItems {A : Type 0} (s : Spelling A) (old : List ℕ) (items : List A) (out : List ℕ) : Type 0 where
  pub spelled : out ≡ old ++ flat_map s.spell items
  pub fine : all_fine s items ≡ true

pub no_items : {A : Type 0} (s : Spelling A) (out : List ℕ) → HasItems s out [] out
unfolding all_fine
no_items s out = record { spelled = sym (append-nil out); fine = refl }

fine_all : {A : Type 0} (s : Spelling A) (as' bs : List A) → all_fine s as' ≡ true → all_fine s bs ≡ true → all_fine s (as' ++ bs) ≡ true
unfolding all_fine
fine_all s [] bs e f = f
fine_all s (a ∷ as') bs e f = let g = both_true (s.fine a) (all_fine s as') e in rw g.0 (fine_all s as' bs g.1 f)

pub more_items : {A : Type 0} (s : Spelling A) (old : List ℕ) (items : List A) (out : List ℕ) (more : List A) (new : List ℕ) → HasItems s old items out → HasItems s out more new → HasItems s old (items ++ more) new
more_items s old items out more new a b = record {
  spelled = b.spelled ∙ ap (λ (x : List ℕ). x ++ flat_map s.spell more) a.spelled ∙ append_assoc old (flat_map s.spell items) (flat_map s.spell more)
      ∙ ap (λ (x : List ℕ). old ++ x) (sym (flat_map-append s.spell items more));
  fine = fine_all s items more a.fine b.fine;
}

-- those of so many lists, and of one more
pub next_items : {A B : Type 0} (s : Spelling A) (of : B → List A) (old : List ℕ) (all : List B) (n : ℕ) (out : List ℕ) (d : B) (new : List ℕ) → HasItems s old (flat_map of (take n all)) out → n < length all
    → HasItems s out (of (get_or all n d)) new → HasItems s old (flat_map of (take (n + 1) all)) new
next_items s of old all n out d new has lt more =
    rw (take_more all n d lt, flat_map-append of (take n all) (get_or all n d ∷ []), flat_map-cons of (get_or all n d) [], append-nil (of (get_or all n d)))
    (more_items s old (flat_map of (take n all)) out (of (get_or all n d)) new has more)

pub all_lists : {A B : Type 0} (s : Spelling A) (of : B → List A) (old : List ℕ) (all : List B) (n : ℕ) (out : List ℕ) → HasItems s old (flat_map of (take n all)) out → length all ≤ n
    → HasItems s old (flat_map of all) out
all_lists s of old all n out has le = rw (take_all n all le) at has

-- ---- the frames of a stack

of_frames : (gs : List Frame) → kept_frames (map frame_of gs) ≡ map (λ (f : Frame). kept_link f.link) (reverse gs)
of_frames [] = refl
of_frames (g ∷ gs) =
    ap (λ (x : List KeptFrame). x ++ kept_link g.link ∷ []) (of_frames gs) ∙ sym (map-append (λ (f : Frame). kept_link f.link) (reverse gs) (g ∷ []))
    ∙ ap (map (λ (f : Frame). kept_link f.link)) (sym (reverse-cons g gs))

pub frames_are : (fs : List Frame) → kept_frames (frames_of fs) ≡ map (λ (f : Frame). kept_link f.link) fs
frames_are fs = of_frames (reverse fs) ∙ ap (map (λ (f : Frame). kept_link f.link)) (reverse-reverse fs)

of_pending : (gs : List Frame) → pending_below (map frame_of gs) ≡ flat_map held (reverse gs)
of_pending [] = refl
of_pending (g ∷ gs) =
    ap (λ (x : List Operand). x ++ reverse (reverse g.operands)) (of_pending gs) ∙ ap (λ (x : List Operand). flat_map held (reverse gs) ++ x) (reverse-reverse g.operands ∙ sym (append-nil (held g)) ∙ sym (flat_map-cons held g []))
    ∙ sym (flat_map-append held (reverse gs) (g ∷ [])) ∙ ap (flat_map held) (sym (reverse-cons g gs))

pub pending_is : (fs : List Frame) → pending_below (frames_of fs) ≡ flat_map held fs
pending_is fs = of_pending (reverse fs) ∙ ap (flat_map held) (reverse-reverse fs)

pub items_of : {A : Type 0} (s : Spelling A) (out : List ℕ) (xs ys : List A) (new : List ℕ) → xs ≡ ys → new ≡ out ++ flat_map s.spell xs → all_fine s xs ≡ true → HasItems s out ys new
items_of s out xs ys new e a f = record { spelled = rw e at a; fine = rw e at f }

-- five parts, one after the other
pub five : (w p u f o a b c d out : List ℕ) → a ≡ w → b ≡ a ++ p → c ≡ b ++ u → d ≡ c ++ f → out ≡ d ++ o → out ≡ w ++ (p ++ (u ++ (f ++ o)))
five w p u f o a b c d out e1 e2 e3 e4 e5 =
    let e : out ≡ (((w ++ p) ++ u) ++ f) ++ o = e5 ∙ ap (λ (x : List ℕ). x ++ o) (e4 ∙ ap (λ (x : List ℕ). x ++ f) (e3 ∙ ap (λ (x : List ℕ). x ++ u) (e2 ∙ ap (λ (x : List ℕ). x ++ p) e1))) in
    e ∙ append_assoc ((w ++ p) ++ u) f o ∙ append_assoc (w ++ p) u (f ++ o) ∙ append_assoc w p (u ++ (f ++ o))

pub counted_fine : {A : Type 0} (s : Spelling A) (xs ys : List A) (count : ℕ) → count ≡ length xs + length ys → count < 4294967296 → all_fine s xs ≡ true → all_fine s ys ≡ true → (counted_list w32 s).fine (xs ++ ys) ≡ true
counted_fine s xs ys count e lt f g = true_both (nat_lt (length (xs ++ ys)) 4294967296) (all_fine s (xs ++ ys)) (lt-ltb _ _ (omega (arith, length-append xs ys, e, lt))) (fine_all s xs ys f g)
