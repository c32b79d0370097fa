-- What is shown at one channel of two displays.
use Rattle.std.proofs.Common.{◌≡◌, ℕ, ◌-◌, ◌<◌, ◌≤◌, Bool, true, false, cond, List, [], ◌∷◌, ◌++◌, ◌==◌, length, drop, get_or, set, refl, sym, ap, ◌∙◌, subst, ◌⊎◌, inl, inr, append-nil, arith}
use Rattle.std.proofs.lemmas.Bool.{ne_eqb, cases_eq, cases_lt}
use Rattle.std.proofs.lemmas.Grind.{get_or-set_at}
use Rattle.std.proofs.lemmas.List.{get_or-set_other, set_past, length-set, length-append, drop-append-le}
use Rattle.std.proofs.lemmas.List.Elements.{filter-append}
use Rattle.turn_laws.specs.Below.session_text.specs.declared.display.Piece.{Piece}
use Rattle.turn_laws.specs.Below.session_text.specs.Display.{Display, unfinished_at, with_unfinished, show, close, close_all, write, say}
use Rattle.turn_laws.specs.Worlds.{at_channel}

-- from those places of what was shown on
pub record Screen (k a b : ℕ) (d e : Display) : Type 0 where
  pub line : unfinished_at k d ≡ unfinished_at k e
  pub many : length d.unfinished ≡ length e.unfinished
  pub shown : at_channel k (drop a d.shown) ≡ at_channel k (drop b e.shown)
  pub low : a ≤ length d.shown
  pub less : b ≤ length e.shown

shown_push : (k a : ℕ) (xs : List Piece) (p : Piece) → a ≤ length xs → at_channel k (drop a (xs ++ p ∷ [])) ≡ at_channel k (drop a xs) ++ at_channel k (p ∷ [])
shown_push k a xs p low =
    ap (at_channel k) (drop-append-le a xs (p ∷ []) low) ∙ filter-append (λ (q : Piece). q.channel == k) (drop a xs) (p ∷ [])

longer : (a : ℕ) (xs : List Piece) (p : Piece) → a ≤ length xs → a ≤ length (xs ++ p ∷ [])
longer a xs p low = let more = length-append xs (p ∷ []) in omega (arith, low, more)

set_both : (xs ys : List (List ℕ)) (i : ℕ) (x : List ℕ) → length xs ≡ length ys → get_or xs i [] ≡ get_or ys i [] → get_or (set xs i x) i [] ≡ get_or (set ys i x) i []
set_both xs ys i x long same = by (cases_lt i (length xs))
  where
    by : (i < length xs) ⊎ (length xs ≤ i) → get_or (set xs i x) i [] ≡ get_or (set ys i x) i []
    by (inl within) = get_or-set_at xs i i x [] refl within ∙ sym (get_or-set_at ys i i x [] refl (omega (arith, long, within)))
    by (inr past) =
        ap (λ (zs : List (List ℕ)). get_or zs i []) (set_past xs i x past)
        ∙ (same ∙ sym (ap (λ (zs : List (List ℕ)). get_or zs i []) (set_past ys i x (omega (arith, long, past)))))

-- ---- the same at the channel

module _ (k a b : ℕ) (d e : Display) (h : Screen k a b d e) where
  shows : (bytes : List ℕ) (ended : Bool) → Screen k a b (show k bytes ended d) (show k bytes ended e)
  shows bytes ended = record {
    line = h.line;
    many = h.many;
    shown =
        shown_push k a d.shown (record { channel = k; bytes = bytes; ended = ended }) h.low
        ∙ (ap (λ (l : List Piece). l ++ at_channel k (record { channel = k; bytes = bytes; ended = ended } ∷ [])) h.shown
        ∙ sym (shown_push k b e.shown (record { channel = k; bytes = bytes; ended = ended }) h.less));
    low = longer a d.shown (record { channel = k; bytes = bytes; ended = ended }) h.low;
    less = longer b e.shown (record { channel = k; bytes = bytes; ended = ended }) h.less;
  }

  leaves : (bytes : List ℕ) → Screen k a b (with_unfinished k bytes d) (with_unfinished k bytes e)
  leaves bytes = record {
    line = set_both d.unfinished e.unfinished (k - 1) bytes h.many h.line;
    many = length-set d.unfinished (k - 1) bytes ∙ (h.many ∙ sym (length-set e.unfinished (k - 1) bytes));
    shown = h.shown;
    low = h.low;
    less = h.less;
  }

module _ (k a b : ℕ) (d e : Display) (h : Screen k a b d e) where
  shows_open : (bytes : List ℕ) (ended : Bool)
      → Screen k a b (show k (unfinished_at k d ++ bytes) ended d) (show k (unfinished_at k e ++ bytes) ended e)
  shows_open bytes ended =
      subst (λ (line : List ℕ). Screen k a b (show k (unfinished_at k d ++ bytes) ended d) (show k (line ++ bytes) ended e)) h.line
      (shows k a b d e h (unfinished_at k d ++ bytes) ended)

  pub closes : Screen k a b (close k d) (close k e)
  closes =
      subst (λ (line : List ℕ). Screen k a b (close k d) (with_unfinished k [] (show k line false e))) h.line
      (leaves k a b (show k (unfinished_at k d) false d) (show k (unfinished_at k d) false e) (shows k a b d e h (unfinished_at k d) false) [])

  pub writes : (bytes : List ℕ) (ends : Bool) → Screen k a b (write k bytes ends d) (write k bytes ends e)
  writes bytes true =
      leaves k a b (show k (unfinished_at k d ++ bytes) true d) (show k (unfinished_at k e ++ bytes) true e) (shows_open bytes true) []
  writes bytes false =
      subst (λ (line : List ℕ). Screen k a b (write k bytes false d) (with_unfinished k (line ++ bytes) e)) h.line
      (leaves k a b d e h (unfinished_at k d ++ bytes))

pub says : (k a b : ℕ) (d e : Display) → Screen k a b d e → (bytes : List ℕ) → Screen k a b (say k bytes d) (say k bytes e)
says k a b d e h bytes = shows k a b (close k d) (close k e) (closes k a b d e h) bytes true

-- ---- elsewhere

pub record Untouched (k a : ℕ) (d later : Display) : Type 0 where
  pub line : unfinished_at k later ≡ unfinished_at k d
  pub many : length later.unfinished ≡ length d.unfinished
  pub shown : at_channel k (drop a later.shown) ≡ at_channel k (drop a d.shown)
  pub low : a ≤ length later.shown

pub untouched_same : (k a : ℕ) (d : Display) → a ≤ length d.shown → Untouched k a d d
untouched_same k a d low = record { line = refl; many = refl; shown = refl; low = low }

pub untouched_then : (k a : ℕ) (d e f : Display) → Untouched k a d e → Untouched k a e f → Untouched k a d f
untouched_then k a d e f first second = record {
  line = second.line ∙ first.line;
  many = second.many ∙ first.many;
  shown = second.shown ∙ first.shown;
  low = second.low;
}

pub screen_on : (k a b : ℕ) (d e later other : Display) → Screen k a b d e → Untouched k a d later → Untouched k b e other → Screen k a b later other
screen_on k a b d e later other h first second = record {
  line = first.line ∙ (h.line ∙ sym second.line);
  many = first.many ∙ (h.many ∙ sym second.many);
  shown = first.shown ∙ (h.shown ∙ sym second.shown);
  low = first.low;
  less = second.low;
}

module _ (k a j : ℕ) (k_some : 0 < k) (j_some : 0 < j) (other : j ≡ k → ⊥) where
  shows_beside : (bytes : List ℕ) (ended : Bool) (d : Display) → a ≤ length d.shown → Untouched k a d (show j bytes ended d)
  shows_beside bytes ended d low = record {
    line = refl;
    many = refl;
    shown =
        shown_push k a d.shown (record { channel = j; bytes = bytes; ended = ended }) low
        ∙ (ap
        (λ (b : Bool). at_channel k (drop a d.shown) ++ cond b (record { channel = j; bytes = bytes; ended = ended } ∷ []) [])
        (ne_eqb j k other)
        ∙ append-nil (at_channel k (drop a d.shown)));
    low = longer a d.shown (record { channel = j; bytes = bytes; ended = ended }) low;
  }

  leaves_beside : (bytes : List ℕ) (d : Display) → a ≤ length d.shown → Untouched k a d (with_unfinished j bytes d)
  leaves_beside bytes d low = record {
    line = get_or-set_other d.unfinished (j - 1) (k - 1) bytes [] (λ e. other (omega (arith, k_some, j_some, e)));
    many = length-set d.unfinished (j - 1) bytes;
    shown = refl;
    low = low;
  }

  pub closes_beside : (d : Display) → a ≤ length d.shown → Untouched k a d (close j d)
  closes_beside d low =
      let first = shows_beside (unfinished_at j d) false d low in
      untouched_then k a d (show j (unfinished_at j d) false d) (close j d) first (leaves_beside [] (show j (unfinished_at j d) false d) first.low)

  pub says_beside : (bytes : List ℕ) (d : Display) → a ≤ length d.shown → Untouched k a d (say j bytes d)
  says_beside bytes d low =
      let first = closes_beside d low in
      untouched_then k a d (close j d) (say j bytes d) first (shows_beside bytes true (close j d) first.low)

-- ---- at the end of a turn

one_closes : (k a b j : ℕ) (d e : Display) → 0 < k → 0 < j → Screen k a b d e → Screen k a b (close j d) (close j e)
one_closes k a b j d e k_some j_some h = by (cases_eq j k)
  where
    by : (j ≡ k) ⊎ (j ≡ k → ⊥) → Screen k a b (close j d) (close j e)
    by (inl same) = subst (λ (i : ℕ). Screen k a b (close i d) (close i e)) (sym same) (closes k a b d e h)
    by (inr other) =
        screen_on k a b d e (close j d) (close j e) h (closes_beside k a j k_some j_some other d h.low) (closes_beside k b j k_some j_some other e h.less)

pub all_close : (k a b : ℕ) (d e : Display) → 0 < k → Screen k a b d e → Screen k a b (close_all d) (close_all e)
all_close k a b d e k_some h =
    one_closes k a b 4 (close 3 (close 2 (close 1 d))) (close 3 (close 2 (close 1 e))) k_some (omega arith)
    (one_closes k a b 3 (close 2 (close 1 d)) (close 2 (close 1 e)) k_some (omega arith)
    (one_closes k a b 2 (close 1 d) (close 1 e) k_some (omega arith) (one_closes k a b 1 d e k_some (omega arith) h)))
