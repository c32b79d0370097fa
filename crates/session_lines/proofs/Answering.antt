-- What an answer says of the bytes ahead, and of all that follow them.
use Rattle.std.proofs.Common.{◌≡◌, ◌≢◌, ℕ, ◌<◌, ◌≤◌, Bool, true, false, not, ◌&&◌, nat_le, List, [], ◌∷◌, ◌++◌, length, take, Option, Some, None, if◌then◌else◌}
use Rattle.std.proofs.Common.{refl, sym, ap, subst, ◌∙◌, append_assoc, append-nil, length-append, arith}
use Rattle.std.proofs.lemmas.Bool.{false≢true}
use Rattle.std.proofs.lemmas.Bool.Decides.{nat_tests}
use Rattle.std.specs.Io.KnownBytes.{Consumes, Keeps, IsAtEnd}
use Rattle.session_lines.specs.declared.reader.Next.{Next}
use Rattle.session_lines.specs.declared.reader.Next.TheVariants.{Line, TooLong, End, Fault}
use Rattle.session_lines.specs.declared.reader.TheConstants.{LONGEST}
use Rattle.session_lines.specs.Lines.{has_end, first_line, after_line, lines_of}
use Rattle.session_lines.specs.Reading as spec
use Rattle.session_lines.specs.Reading.{Reading, Takes, IsExact}
use Rattle.session_lines.proofs.Lines.{first_line-open, first_line-closed, after_line-closed, lines_of-first}

-- nothing is consumed
pub consumes_none : (left : Option (List ℕ)) → Consumes left left []
consumes_none None = tt
consumes_none (Some xs) = refl

pub keeps_consumes : (old new : Option (List ℕ)) → Keeps old new → Consumes old new []
keeps_consumes None new h = tt
keeps_consumes (Some xs) None h = absurd h
keeps_consumes (Some xs) (Some ys) h = sym h

-- what stands at the front is not decided
pub record OpenParts (r : Reading) : Type 0 where
  pub ended : r.ended ≡ false
  pub short : length r.ahead ≤ LONGEST
  pub closed : has_end r.ahead ≡ false

pub open_parts : (r : Reading) → spec.is_open r ≡ true → OpenParts r
open_parts r h = by r.ended (nat_le (length r.ahead) LONGEST) (has_end r.ahead) refl refl refl h
  where
    by : (ended short closed : Bool) → r.ended ≡ ended → nat_le (length r.ahead) LONGEST ≡ short → has_end r.ahead ≡ closed
        → (not ended && short && not closed) ≡ true → OpenParts r
    by false true false e s c h = record { ended = e; short = grind (arith, nat_tests, s); closed = c }
    by false true true e s c h = cc
    by false false closed e s c h = cc
    by true short closed e s c h = cc

-- the source failed
pub takes_none : (old new : Option (List ℕ)) (before after : Reading) → before.ended ≡ false → before ≡ after → Keeps old new → Takes old new before after
takes_none old new before after open_ same keeps =
    let none : Takes old new before before = record {
      taken = [];
      takes = keeps_consumes old new keeps;
      ahead = sym (append-nil before.ahead);
      still = λ e. (refl, e);
      at_end = λ follows e. absurd (false≢true (sym open_ ∙ e));
    } in
    subst (Takes old new before) same none

-- a piece came
pub takes_piece : (old new : Option (List ℕ)) (before after : Reading) (piece : List ℕ) (count : ℕ) → before.ended ≡ false
    → after.ahead ≡ before.ahead ++ take count piece → (after.ended ≡ true → count ≡ 0) → 0 < length piece
    → Consumes old new (take count piece) × (count ≡ 0 → 0 < length piece → IsAtEnd new) → Takes old new before after
takes_piece old new before after piece count open_ ahead none room given = record {
  taken = take count piece;
  takes = given.0;
  ahead = ahead;
  still = λ e. absurd (false≢true (sym open_ ∙ e));
  at_end = λ follows e. given.1 (none e) room;
}

abbrev pub reading : List ℕ → Bool → Reading
reading bytes ended = record { ahead = bytes; ended = ended }

-- what stands at the front, by the lines
abbrev pub Front : List ℕ → Next → Type 0
Front bytes (Line text) = (length text ≤ LONGEST) × (lines_of bytes ≡ text ∷ lines_of (after_line bytes))
Front bytes TooLong = (text : List ℕ) × (LONGEST < length text) × (lines_of bytes ≡ text ∷ lines_of (after_line bytes))
Front bytes End = bytes ≡ []
Front bytes Fault = ⊥

pub front : (bytes : List ℕ) (next : Next) → next ≡ spec.next_line bytes → Front bytes next
front bytes next is = subst (Front bytes) (sym is) (there bytes)
  where
    there : (bytes : List ℕ) → Front bytes (spec.next_line bytes)
    there [] = refl
    there (b ∷ bytes) = by (nat_le (length (first_line (b ∷ bytes))) LONGEST) refl
      where
        by : (e : Bool) → nat_le (length (first_line (b ∷ bytes))) LONGEST ≡ e → Front (b ∷ bytes) (if e then Line (first_line (b ∷ bytes)) else TooLong)
        by true short = (grind (arith, nat_tests, short), lines_of-first b bytes)
        by false long = (first_line (b ∷ bytes), grind (arith, nat_tests, long), lines_of-first b bytes)

passes : (text : List ℕ) → LONGEST < length text → spec.line_or_too_long text ≡ TooLong
passes text long = grind (arith, nat_tests, long)

next_of_long : (bytes text : List ℕ) → 0 < length bytes → first_line bytes ≡ text → LONGEST < length text → spec.next_line bytes ≡ TooLong
next_of_long [] text some is long = absurd (omega (arith, some))
next_of_long (b ∷ bytes) text some is long = ap spec.line_or_too_long is ∙ passes text long

-- more than a line can have, and no line end
next_of_open : (bytes more : List ℕ) → has_end bytes ≡ false → LONGEST < length bytes → spec.next_line (bytes ++ more) ≡ TooLong
next_of_open bytes more open_ long =
    next_of_long (bytes ++ more) (bytes ++ first_line more) (omega (arith, long, length-append bytes more)) (first_line-open bytes more open_)
    (omega (arith, long, length-append bytes (first_line more)))

-- what the bytes at hand decide stays so, whatever follows
record Stays (bytes more : List ℕ) : Type 0 where
  pub next : spec.next_line (bytes ++ more) ≡ spec.next_line bytes
  pub left : spec.left_after (spec.next_line bytes) (bytes ++ more) ≡ spec.left_after (spec.next_line bytes) bytes ++ more

stays_closed : (bytes more : List ℕ) → has_end bytes ≡ true → Stays bytes more
stays_closed [] more h = cc
stays_closed (b ∷ bytes) more h = record {
  next = ap spec.line_or_too_long (first_line-closed (b ∷ bytes) more h);
  left = left (spec.next_line (b ∷ bytes));
}
  where
    left : (next : Next) → spec.left_after next ((b ∷ bytes) ++ more) ≡ spec.left_after next (b ∷ bytes) ++ more
    left (Line text) = after_line-closed (b ∷ bytes) more h
    left TooLong = refl
    left End = refl
    left Fault = refl

stays_long : (bytes more : List ℕ) → has_end bytes ≡ false → LONGEST < length bytes → Stays bytes more
stays_long bytes more open_ long =
    let now : spec.next_line bytes ≡ TooLong = ap spec.next_line (sym (append-nil bytes)) ∙ next_of_open bytes [] open_ long in
    record {
      next = next_of_open bytes more open_ long ∙ sym now;
      left = subst (λ (next : Next). spec.left_after next (bytes ++ more) ≡ spec.left_after next bytes ++ more) (sym now) refl;
    }

stays_ended : (bytes more : List ℕ) → more ≡ [] → Stays bytes more
stays_ended bytes more none =
    let alone : Stays bytes [] = record {
      next = ap spec.next_line (append-nil bytes);
      left = ap (spec.left_after (spec.next_line bytes)) (append-nil bytes) ∙ sym (append-nil (spec.left_after (spec.next_line bytes) bytes));
    } in
    subst (Stays bytes) (sym none) alone

stays : (bytes more : List ℕ) (ended : Bool) → spec.is_open (reading bytes ended) ≡ false → (ended ≡ true → more ≡ []) → Stays bytes more
stays bytes more true settled follows = stays_ended bytes more (follows refl)
stays bytes more false settled follows = by (nat_le (length bytes) LONGEST) (has_end bytes) refl refl settled
  where
    by : (short closed : Bool) → nat_le (length bytes) LONGEST ≡ short → has_end bytes ≡ closed → (short && not closed) ≡ false → Stays bytes more
    by short true short_is closed_is h = stays_closed bytes more closed_is
    by false false short_is closed_is h = stays_long bytes more closed_is (grind (arith, nat_tests, short_is))
    by true false short_is closed_is h = cc

-- An answer to the bytes at hand: they show it, or the source failed before they did.
pub record Answers (hand after : Reading) (next : Next) : Type 0 where
  pub ahead : after.ahead ≡ spec.left_after next hand.ahead
  pub ended : after.ended ≡ hand.ended
  pub answer : next ≢ Fault → (spec.is_open hand ≡ false) × (next ≡ spec.next_line hand.ahead)
  pub fault : next ≡ Fault → spec.is_open hand ≡ true

pub answers_fault : (hand : Reading) → spec.is_open hand ≡ true → Answers hand hand Fault
answers_fault hand open_ = record {
  ahead = refl;
  ended = refl;
  answer = λ given. absurd (given refl);
  fault = λ e. open_;
}

pub answers_next : (hand after : Reading) (next : Next) → spec.is_open hand ≡ false → next ≡ spec.next_line hand.ahead
    → after ≡ record hand { ahead = spec.left_after next hand.ahead } → Answers hand after next
answers_next hand after next settled is left =
    let there : Answers hand (record hand { ahead = spec.left_after next hand.ahead }) next = record {
      ahead = refl;
      ended = refl;
      answer = λ given. (settled, is);
      fault = λ e. absurd (subst (Front hand.ahead) e (front hand.ahead next is));
    } in
    subst (λ r. Answers hand r next) (sym left) there

left_more : (next : Next) (bytes more : List ℕ) → (next ≢ Fault → Stays bytes more × (next ≡ spec.next_line bytes))
    → spec.left_after next (bytes ++ more) ≡ spec.left_after next bytes ++ more
left_more (Line text) bytes more h =
    let given : Line text ≢ Fault = λ e. cc in
    let is = h given in
    subst (λ (next : Next). spec.left_after next (bytes ++ more) ≡ spec.left_after next bytes ++ more) (sym is.1) is.0.left
left_more TooLong bytes more h = refl
left_more End bytes more h = refl
left_more Fault bytes more h = refl

-- an answer is exact, whatever follows the bytes at hand
pub exact : (hand after : Reading) (next : Next) (more : List ℕ) → Answers hand after next → (hand.ended ≡ true → more ≡ [])
    → IsExact (hand.ahead ++ more) (after.ahead ++ more) next
exact hand after next more a follows =
    let settled : next ≢ Fault → Stays hand.ahead more × (next ≡ spec.next_line hand.ahead) =
    λ given. (stays hand.ahead more hand.ended (a.answer given).0 follows, (a.answer given).1) in
    record {
      answer = λ given. (settled given).1 ∙ sym (settled given).0.next;
      rest_is = ap (λ l. l ++ more) a.ahead ∙ sym (left_more next hand.ahead more settled);
    }

pub joined : (before hand : Reading) (taken more : List ℕ) → hand.ahead ≡ before.ahead ++ taken → before.ahead ++ (taken ++ more) ≡ hand.ahead ++ more
joined before hand taken more ahead = sym (append_assoc before.ahead taken more) ∙ ap (λ l. l ++ more) (sym ahead)

pub reads_exactly : (old new : Option (List ℕ)) (before hand after : Reading) (next : Next) → Takes old new before hand → Answers hand after next
    → spec.ReadsExactly old new before after next
reads_exactly old new before hand after next t a =
    λ left rest old_is new_is follows.
    let taken : Consumes (Some left) (Some rest) t.taken =
    subst (λ o. Consumes o (Some rest) t.taken) old_is (subst (λ n. Consumes old n t.taken) new_is t.takes) in
    let end : hand.ended ≡ true → rest ≡ [] =
    λ e. subst IsAtEnd new_is (t.at_end (λ b. subst IsAtEnd (sym old_is) (follows b)) e) in
    subst (λ l. IsExact l (after.ahead ++ rest) next) (sym (ap (λ l. before.ahead ++ l) taken ∙ joined before hand t.taken rest t.ahead))
    (exact hand after next rest a end)
