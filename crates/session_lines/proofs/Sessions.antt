-- The lines that were read one after another.
use Rattle.std.proofs.Common.{◌≡◌, ◌≢◌, ℕ, true, false, List, [], ◌∷◌, ◌++◌, Option, Some, None}
use Rattle.std.proofs.Common.{refl, sym, ap, subst, ◌∙◌, append_assoc, append-nil}
use Rattle.std.proofs.lemmas.Bool.{false≢true}
use Rattle.std.proofs.lemmas.List.{same_from_push}
use Rattle.std.specs.Io.KnownBytes.{Consumes, IsAtEnd}
use Rattle.edge.proofs.Composed.{consumes_more}
use Rattle.edge.specs.Told.{Told, OnTold}
use Rattle.session_lines.specs.declared.reader.Next.{Next}
use Rattle.session_lines.specs.declared.reader.Next.TheVariants.{Line, TooLong, End, Fault}
use Rattle.session_lines.specs.Lines.{after_line, lines_of, whole_lines, BeginsWith}
use Rattle.session_lines.specs.Reading as spec
use Rattle.session_lines.specs.Reading.{Reading, Takes, IsExact, HasRead}
use Rattle.session_lines.proofs.Lines.{parted, open_line, ended_lines}
use Rattle.session_lines.proofs.Answering.{reading, consumes_none, open_parts, front, Answers, exact, joined}

-- the lines of all bytes are the line that an answer is, and those of the bytes after it
pub lines_after : (bytes rest : List ℕ) (next : Next) → IsExact bytes rest next → lines_of bytes ≡ spec.line_in next ++ lines_of rest
lines_after bytes rest (Line text) e =
    let given : Line text ≢ Fault = λ is. cc in
    (front bytes (Line text) (e.answer given)).1 ∙ ap (λ l. text ∷ lines_of l) (sym e.rest_is)
lines_after bytes rest TooLong e = ap lines_of (sym e.rest_is)
lines_after bytes rest End e = ap lines_of (sym e.rest_is)
lines_after bytes rest Fault e = ap lines_of (sym e.rest_is)

-- an answer takes a part of the bytes at hand, from the front
part_of : (next : Next) (bytes : List ℕ) → (front : List ℕ) × (bytes ≡ front ++ spec.left_after next bytes)
part_of (Line text) bytes = parted bytes
part_of TooLong bytes = ([], refl)
part_of End bytes = ([], refl)
part_of Fault bytes = ([], refl)

-- more bytes are ahead
pub read_more : (first old new : Option (List ℕ)) (before hand : Reading) (lines : List (List ℕ)) → HasRead first old before lines → Takes old new before hand
    → HasRead first new hand lines
read_more first old new before hand lines h t = record {
  past = h.past;
  takes =
      subst (Consumes first new) (append_assoc h.past before.ahead t.taken ∙ ap (λ l. h.past ++ l) (sym t.ahead))
      (consumes_more first old new (h.past ++ before.ahead) t.taken h.takes t.takes);
  begins = λ more follows.
      subst (λ l. lines_of (h.past ++ l) ≡ lines ++ lines_of l) (joined before hand t.taken more t.ahead)
      (h.begins (t.taken ++ more) (λ e. ap (λ l. l ++ more) (t.still e).0 ∙ follows (t.still e).1));
  at_end = t.at_end h.at_end;
}

-- an answer was given
read_next : (first now : Option (List ℕ)) (hand after : Reading) (lines : List (List ℕ)) (next : Next) → HasRead first now hand lines → Answers hand after next
    → HasRead first now after (lines ++ spec.line_in next)
read_next first now hand after lines next h a =
    let part = part_of next hand.ahead in
    let parts : hand.ahead ≡ part.0 ++ after.ahead = part.1 ∙ ap (λ l. part.0 ++ l) (sym a.ahead) in
    record {
      past = h.past ++ part.0;
      takes = subst (Consumes first now) (ap (λ l. h.past ++ l) parts ∙ sym (append_assoc h.past part.0 after.ahead)) h.takes;
      begins = λ more follows.
          let goes : hand.ended ≡ true → more ≡ [] = λ e. follows (a.ended ∙ e) in
          ap lines_of (append_assoc h.past part.0 (after.ahead ++ more) ∙ ap (λ l. h.past ++ l) (sym (append_assoc part.0 after.ahead more) ∙ ap (λ l. l ++ more) (sym parts)))
          ∙ h.begins more goes
          ∙ ap (λ l. lines ++ l) (lines_after (hand.ahead ++ more) (after.ahead ++ more) next (exact hand after next more a goes))
          ∙ sym (append_assoc lines (spec.line_in next) (lines_of (after.ahead ++ more)));
      at_end = λ e. h.at_end (sym a.ended ∙ e);
    }

-- all bytes of the source: those that were taken, and what it has left
record All (first : Option (List ℕ)) (hand : Reading) (past : List ℕ) : Type 0 where
  pub more : List ℕ
  pub follows : hand.ended ≡ true → more ≡ []
  pub told : Told first (past ++ (hand.ahead ++ more))

all_of : (first now : Option (List ℕ)) (hand : Reading) (past : List ℕ) → Consumes first now (past ++ hand.ahead) → (hand.ended ≡ true → IsAtEnd now)
    → All first hand past
all_of None now hand past takes end = record { more = []; follows = λ e. refl; told = tt }
all_of (Some xs) None hand past takes end = absurd takes
all_of (Some xs) (Some ys) hand past takes end = record { more = ys; follows = end; told = takes ∙ append_assoc past hand.ahead ys }

-- what holds of their lines
on_all : (first now : Option (List ℕ)) (hand : Reading) (lines : List (List ℕ)) (P : List (List ℕ) → Type 0) → HasRead first now hand lines
    → ((more : List ℕ) → (hand.ended ≡ true → more ≡ []) → P (lines ++ lines_of (hand.ahead ++ more))) → OnTold first (λ bytes. P (lines_of bytes))
on_all first now hand lines P h holds =
    let all = all_of first now hand h.past h.takes h.at_end in
    (h.past ++ (hand.ahead ++ all.more), all.told, subst P (sym (h.begins all.more all.follows)) (holds all.more all.follows))

one_more : (lines rest : List (List ℕ)) (text : List ℕ) (all : List (List ℕ)) → all ≡ text ∷ rest → BeginsWith (lines ++ text ∷ []) (lines ++ all)
one_more lines rest text all is = (rest, ap (λ l. lines ++ l) is ∙ sym (append_assoc lines (text ∷ []) rest))

-- behind the lines read stands none that has its end
whole_read : (first now : Option (List ℕ)) (hand : Reading) (lines : List (List ℕ)) → HasRead first now hand lines → spec.is_open hand ≡ true
    → (taken : List ℕ) × Consumes first now taken × (whole_lines taken ≡ lines)
whole_read first now hand lines h open_ =
    let parts = open_parts hand open_ in
    let last = ended_lines (h.past ++ hand.ahead) in
    let same : whole_lines (h.past ++ hand.ahead) ++ last.0 ∷ [] ≡ lines ++ hand.ahead ∷ [] =
    sym last.1 ∙ ap lines_of (append_assoc h.past hand.ahead (10 ∷ [])) ∙ h.begins (10 ∷ []) (λ e. absurd (false≢true (sym parts.ended ∙ e)))
    ∙ ap (λ l. lines ++ l) (open_line hand.ahead parts.closed) in
    (h.past ++ hand.ahead, h.takes, (same_from_push (whole_lines (h.past ++ hand.ahead)) lines last.0 hand.ahead same).0)

shows : (first now : Option (List ℕ)) (hand after : Reading) (lines : List (List ℕ)) (next : Next) → HasRead first now hand lines → Answers hand after next
    → spec.Shows first now lines next
shows first now hand after lines (Line text) h a =
    let given : Line text ≢ Fault = λ e. cc in (
      (front hand.ahead (Line text) (a.answer given).1).0,
      on_all first now hand lines (BeginsWith (lines ++ text ∷ [])) h
          (λ more follows. one_more lines (lines_of (after_line (hand.ahead ++ more))) text (lines_of (hand.ahead ++ more))
          (front (hand.ahead ++ more) (Line text) ((exact hand after (Line text) more a follows).answer given)).1),
    )
shows first now hand after lines TooLong h a =
    let given : TooLong ≢ Fault = λ e. cc in
    let all = all_of first now hand h.past h.takes h.at_end in
    let is = front (hand.ahead ++ all.more) TooLong ((exact hand after TooLong all.more a all.follows).answer given) in (
      is.0,
      is.1,
      (
        h.past ++ (hand.ahead ++ all.more),
        all.told,
        subst (BeginsWith (lines ++ is.0 ∷ [])) (sym (h.begins all.more all.follows))
            (one_more lines (lines_of (after_line (hand.ahead ++ all.more))) is.0 (lines_of (hand.ahead ++ all.more)) is.2),
      ),
    )
shows first now hand after lines End h a =
    let given : End ≢ Fault = λ e. cc in
    on_all first now hand lines (λ all. all ≡ lines) h
    (λ more follows. ap (λ l. lines ++ lines_of l) (front (hand.ahead ++ more) End ((exact hand after End more a follows).answer given)) ∙ append-nil lines)
shows first now hand after lines Fault h a = whole_read first now hand lines h (a.fault refl)

pub goes_on : (old new : Option (List ℕ)) (before hand after : Reading) (next : Next) → Takes old new before hand → Answers hand after next
    → spec.GoesOn old new before after next
goes_on old new before hand after next t a =
    λ first lines h.
    let more = read_more first old new before hand lines h t in
    (read_next first new hand after lines next more a, shows first new hand after lines next more a)

-- nothing was read yet
pub nothing_read : (left : Option (List ℕ)) (r : Reading) → r ≡ reading [] false → HasRead left left r []
nothing_read left r is =
    let none : HasRead left left (reading [] false) [] = record {
      past = [];
      takes = consumes_none left;
      begins = λ more follows. refl;
      at_end = λ e. absurd (false≢true e);
    } in
    subst (λ r. HasRead left left r []) (sym is) none
