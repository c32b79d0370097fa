-- Where the parser stops, and which fronts can go on.
use Rattle.std.proofs.Common.{◌≡◌, ℕ, zero, suc, ◌+◌, ◌-◌, ◌<◌, ◌≤◌, ◌⊎◌, inl, inr, Bool, true, false, [], ◌∷◌, ◌++◌, length, take, drop, Ok, Err, refl, sym}
use Rattle.std.proofs.Common.{ap, subst, ◌∙◌, arith, append_assoc}
use Rattle.std.proofs.lemmas.List.{length-append, take-append-le, take-append-drop, take-take, take_all}
use Rattle.elan_tree.specs.declared.token.Token.{Token}
use Rattle.elan_tree.specs.declared.token.Word.TheVariants as w
use Rattle.elan_tree.specs.declared.token.Key.TheVariants as key
use Rattle.elan_tree.specs.declared.token.Sign.TheVariants as sign
use Rattle.elan_tree.specs.declared.tree.Tree.{Tree}
use Rattle.elan_tree.specs.declared.tree.Level.{Level}
use Rattle.elan_tree.specs.declared.tree.Tree.TheVariants as tree
use Rattle.elan_grammar.specs.declared.error.ParseError.{ParseError}
use Rattle.elan_grammar.specs.declared.error.ParseError.TheVariants.{NoMemory, NotElan}
use Rattle.elan_grammar.specs.declared.continuation.Continuation.{Continuation}
use Rattle.elan_grammar.specs.declared.continuation.Continuation.TheVariants as behind
use Rattle.elan_grammar.specs.declared.kind.Tier.{Tier}
use Rattle.elan_grammar.specs.declared.kind.Kind.{Kind}
use Rattle.elan_grammar.specs.declared.kind.Kind.TheVariants as k
use Rattle.elan_grammar.specs.Kinds.{kind, second, kind_of, point_by, comma_by, bold_by, by_next, ahead}
use Rattle.elan_grammar.proofs.Looks.{LooksSame}
use Rattle.elan_grammar.specs.Rule.{Tokens, Outcome, refusal}
use Rattle.elan_grammar.specs.Grammar as g
use Rattle.elan_grammar.specs.Reads.{text, Reads}
use Rattle.elan_grammar.specs.Place.{CanGoOn, IsPlace}
use Rattle.elan_grammar.specs.Stops.{left, left_by, tokens_of, token_of}
use Rattle.elan_grammar.proofs.Laws.{done, failed, some_or_none}
use Rattle.elan_grammar.proofs.GrammarLaws.{text_law, not_empty, some_left, refused_run}
use Rattle.elan_grammar.proofs.LevelLaws.{level_units_law}

-- ---- What stands behind a front looks to it like one of the continuations.

record SameLook (us vs : Tokens) : Type 0 where
  point : point_by (kind us) (second us) ≡ point_by (kind vs) (second vs)
  name : (v : Kind) → point_by v (kind us) ≡ point_by v (kind vs)
  comma : comma_by (kind us) ≡ comma_by (kind vs)
  bold : (t : Tier) → bold_by t (kind us) ≡ bold_by t (kind vs)

abbrev continued : Kind → Kind → Continuation
continued k.Ident (k.Sign sign.Colon) = behind.Refinement
continued k.Ident _ = behind.Name
continued (k.Sign sign.Colon) _ = behind.Colon
continued (k.Key key.Var) _ = behind.Declaration
continued (k.Key key.Const) _ = behind.Declaration
continued (k.Key key.Proc) _ = behind.Declaration
continued (k.Key key.Op) _ = behind.Declaration
continued _ _ = behind.End

same_point : (v w : Kind) → point_by (kind (tokens_of (continued v w))) (second (tokens_of (continued v w))) ≡ point_by v w
same_point k.Ident (k.Sign sign.Colon) = refl
same_point k.Ident _ = refl
same_point (k.Sign sign.Colon) _ = refl
same_point (k.Key key.Var) _ = refl
same_point (k.Key key.Const) _ = refl
same_point (k.Key key.Proc) _ = refl
same_point (k.Key key.Op) _ = refl
same_point _ _ = refl

same_name_by : (v w : Kind) → point_by k.Ident (kind (tokens_of (continued v w))) ≡ point_by k.Ident v
same_name_by k.Ident (k.Sign sign.Colon) = refl
same_name_by k.Ident _ = refl
same_name_by (k.Sign sign.Colon) _ = refl
same_name_by (k.Key key.Var) _ = refl
same_name_by (k.Key key.Const) _ = refl
same_name_by (k.Key key.Proc) _ = refl
same_name_by (k.Key key.Op) _ = refl
same_name_by _ _ = refl

same_name : (x v w : Kind) → point_by x (kind (tokens_of (continued v w))) ≡ point_by x v
same_name k.Ident v w = same_name_by v w
same_name _ v w = refl

same_comma : (v w : Kind) → comma_by (kind (tokens_of (continued v w))) ≡ comma_by v
same_comma k.Ident (k.Sign sign.Colon) = refl
same_comma k.Ident _ = refl
same_comma (k.Sign sign.Colon) _ = refl
same_comma (k.Key key.Var) _ = refl
same_comma (k.Key key.Const) _ = refl
same_comma (k.Key key.Proc) _ = refl
same_comma (k.Key key.Op) _ = refl
same_comma _ _ = refl

same_bold : (t : Tier) (v w : Kind) → bold_by t (kind (tokens_of (continued v w))) ≡ bold_by t v
same_bold t k.Ident (k.Sign sign.Colon) = refl
same_bold t k.Ident _ = refl
same_bold t (k.Sign sign.Colon) _ = refl
same_bold t (k.Key key.Var) _ = refl
same_bold t (k.Key key.Const) _ = refl
same_bold t (k.Key key.Proc) _ = refl
same_bold t (k.Key key.Op) _ = refl
same_bold t _ _ = refl

looks_like : (rest : Tokens) → SameLook (tokens_of (continued (kind rest) (second rest))) rest
looks_like rest = record {
  point = same_point (kind rest) (second rest);
  name = λ v. same_name v (kind rest) (second rest);
  comma = same_comma (kind rest) (second rest);
  bold = λ t. same_bold t (kind rest) (second rest);
}

-- From each token of the front on the parser sees the same ahead.
abbrev SeesSame : Tokens → Tokens → Tokens → Type 0
SeesSame [] us vs = Unit {0}
SeesSame (x ∷ front) us vs = (ahead (x ∷ (front ++ us)) ≡ ahead (x ∷ (front ++ vs))) × SeesSame front us vs

same_next : (v : Kind) (us vs : Tokens) → point_by (kind us) (second us) ≡ point_by (kind vs) (second vs) → comma_by (kind us) ≡ comma_by (kind vs)
    → ((t : Tier) → bold_by t (kind us) ≡ bold_by t (kind vs)) → by_next v us ≡ by_next v vs
same_next (k.Sign sign.Point) us vs p c b = p
same_next (k.Sign sign.Comma) us vs p c b = c
same_next (k.Bold t) us vs p c b = b t
same_next _ us vs p c b = refl

same_ahead : (x : Token) (front us vs : Tokens) → SameLook us vs → ahead (x ∷ (front ++ us)) ≡ ahead (x ∷ (front ++ vs))
unfolding ahead
same_ahead x [] us vs l = same_next (kind_of x.what) us vs l.point l.comma l.bold
same_ahead x (y ∷ []) us vs l = same_next (kind_of x.what) (y ∷ us) (y ∷ vs) (l.name (kind_of y.what)) refl (λ t. refl)
same_ahead x (y ∷ z ∷ front) us vs l = same_next (kind_of x.what) (y ∷ z ∷ (front ++ us)) (y ∷ z ∷ (front ++ vs)) refl refl (λ t. refl)

sees_same : (front us vs : Tokens) → SameLook us vs → SeesSame front us vs
sees_same [] us vs l = tt
sees_same (x ∷ front) us vs l = (same_ahead x front us vs l, sees_same front us vs l)

looks_there : (front u us vs : Tokens) (t : Token) → SeesSame (front ++ (t ∷ u)) us vs → LooksSame front (t ∷ (u ++ us)) (t ∷ (u ++ vs))
looks_there [] u us vs t h = (h.0, refl)
looks_there (x ∷ front) u us vs t h = (
  ap (λ (z : Tokens). ahead (x ∷ z)) (sym (append_assoc front (t ∷ u) us)) ∙ h.0 ∙ ap (λ (z : Tokens). ahead (x ∷ z)) (append_assoc front (t ∷ u) vs),
  looks_there front u us vs t h.1,
)

-- ---- A front before whose end the parser stops cannot go on.

-- the first token of the front that is left
record Cut (front us a b : Tokens) : Type 0 where
  token : Token
  more : Tokens
  front_is : front ≡ a ++ (token ∷ more)
  left_is : b ≡ token ∷ (more ++ us)

cut : (front us a b : Tokens) → front ++ us ≡ a ++ b → length us < length b → Cut front us a b
cut [] us a b e lt = absurd (omega (arith, ap length e, length-append a b))
cut (x ∷ front) us [] b e lt = record { token = x; more = front; front_is = refl; left_is = sym e }
cut (x ∷ front) us (y ∷ a) b e lt =
    let head : x ≡ y = cc in
    let tail : front ++ us ≡ a ++ b = cc in
    let c = cut front us a b tail lt in
    record { token = c.token; more = c.more; front_is = rw head (ap (λ (z : Tokens). y ∷ z) c.front_is); left_is = c.left_is }

same_left : (n m : ℕ) → NotElan n ≡ NotElan m → n ≡ m
same_left n m e = cc

-- what the parser does behind the cut does not depend on what follows the front
early_read : (p : Bool) (front us rest a b : Tokens) (t u : Tree) → SameLook us rest → front ++ us ≡ a ++ b → length us < length b
    → (text p).run (front ++ us) ≡ Ok (t, b) → a ++ b ≡ front ++ us → Reads p (front ++ rest) u → ⊥
early_read p front us rest a b t u look e lt run back r =
    let c = cut front us a b e lt in
    let here : (text p).run (a ++ (c.token ∷ (c.more ++ us))) ≡ Ok (t, c.token ∷ (c.more ++ us)) =
    ap (λ (z : Tokens). (text p).run (a ++ z)) (sym c.left_is) ∙ ap (λ (z : Tokens). (text p).run z) back ∙ run ∙ ap (λ (z : Tokens). done t z) c.left_is in
    let sees : SeesSame (a ++ (c.token ∷ c.more)) us rest = subst (λ (z : Tokens). SeesSame z us rest) c.front_is (sees_same front us rest look) in
    let there = (text_law p).laws.reads_on a (c.token ∷ (c.more ++ us)) (c.token ∷ (c.more ++ rest)) t here (looks_there a c.more us rest c.token sees) in
    let whole : front ++ rest ≡ a ++ (c.token ∷ (c.more ++ rest)) = ap (λ (z : Tokens). z ++ rest) c.front_is ∙ append_assoc a (c.token ∷ c.more) rest in
    some_left p (a ++ (c.token ∷ (c.more ++ rest))) t (c.token ∷ (c.more ++ rest)) there (λ none. not_empty c.token (c.more ++ rest) none) u
    (subst (λ (z : Tokens). Reads p z u) whole r)

early_stop : (p : Bool) (front us rest a b : Tokens) (u : Tree) → SameLook us rest → front ++ us ≡ a ++ b → length us < length b
    → (text p).run (front ++ us) ≡ Err (refusal b) → a ++ b ≡ front ++ us → Reads p (front ++ rest) u → ⊥
early_stop p front us rest a b u look e lt run back r =
    let c = cut front us a b e lt in
    let here : (text p).run (a ++ (c.token ∷ (c.more ++ us))) ≡ Err (refusal (c.token ∷ (c.more ++ us))) =
    ap (λ (z : Tokens). (text p).run (a ++ z)) (sym c.left_is) ∙ ap (λ (z : Tokens). (text p).run z) back ∙ run
    ∙ ap (λ (z : Tokens). failed (refusal z)) c.left_is in
    let sees : SeesSame (a ++ (c.token ∷ c.more)) us rest = subst (λ (z : Tokens). SeesSame z us rest) c.front_is (sees_same front us rest look) in
    let there = (text_law p).laws.stops a (c.more ++ us) (c.more ++ rest) c.token here (looks_there a c.more us rest c.token sees) in
    let whole : front ++ rest ≡ a ++ (c.token ∷ (c.more ++ rest)) = ap (λ (z : Tokens). z ++ rest) c.front_is ∙ append_assoc a (c.token ∷ c.more) rest in
    refused_run p (a ++ (c.token ∷ (c.more ++ rest))) (refusal (c.token ∷ (c.more ++ rest))) there u (subst (λ (z : Tokens). Reads p z u) whole r)

early_by : (p : Bool) (front us rest : Tokens) (u : Tree) (o : Outcome Tree) → (text p).run (front ++ us) ≡ o → length us < left_by o → SameLook us rest
    → Reads p (front ++ rest) u → ⊥
early_by p front us rest u (Ok q) run lt look r =
    let s = (text_law p).laws.splits (front ++ us) q.1 q.0 ((text_law p).laws.sound (front ++ us) q.1 q.0 run) in
    early_read p front us rest s.front q.1 q.0 u look s.whole lt run (sym s.whole) r
early_by p front us rest u (Err (NotElan n)) run lt look r =
    let s = (text_law p).laws.stuck (front ++ us) (NotElan n) run in
    let is : n ≡ length s.rest = same_left n (length s.rest) s.place in
    early_stop p front us rest s.front s.rest u look s.whole (omega (arith, is)) (run ∙ ap (λ (x : ParseError). failed x) s.place) (sym s.whole) r
early_by p front us rest u (Err NoMemory) run lt look r = absurd (omega arith)

-- Where the parser stops before the front's end, whatever stands behind it, the front cannot go on.
pub cannot_go_on : (p : Bool) (front : Tokens) → ((c : Continuation) → length (tokens_of c) < left p (front ++ tokens_of c)) → CanGoOn p front → ⊥
cannot_go_on p front early can =
    let c = continued (kind can.0) (second can.0) in
    early_by p front (tokens_of c) can.0 can.1 ((text p).run (front ++ tokens_of c)) refl (early c) (looks_like can.0) can.2

-- ---- What the parser read can go on.

some_more : (a b : Tokens) (t : Token) → a ++ (t ∷ b) ≡ [] → ⊥
some_more a b t e = omega (arith, ap length e, length-append a (t ∷ b))

abbrev a_point : Token
a_point = token_of (w.Sign sign.Point)

some_program : CanGoOn false []
unfolding g.program g.a_level g.tail g.point_tail
some_program =
    let c = level_units_law.sample in
    let l : Level = record { units = c.value; refinements = [] } in (
      c.more ++ (a_point ∷ []),
      tree.Program l,
      (
        λ e. some_more c.more [] a_point e,
        (l, [], (c.value, a_point ∷ [], c.reads (a_point ∷ []), ([], [], inl (1, [], (a_point, refl, refl), inr (refl, refl)), (refl, refl))), (refl, refl)),
      ),
    )

packet_some : (t : Tree) (xs ys : Tokens) → (g.packet 400 399).reads t xs ys → xs ≡ [] → ⊥
unfolding g.packet
packet_some t xs ys h e = let first = h.2.1 in cc

some_packet : CanGoOn true []
some_packet =
    let c = (text_law true).sample in
    let r = c.reads [] in
    (c.more ++ [], c.value, (packet_some c.value (c.more ++ []) [] r, r))

some_text : (p : Bool) → CanGoOn p []
some_text true = some_packet
some_text false = some_program

-- the tokens that the parser read, and those that it left
pub record Read (p : Bool) (tokens : Tokens) : Type 0 where
  pub front : Tokens
  pub rest : Tokens
  pub whole : tokens ≡ front ++ rest
  pub left : length rest ≡ left p tokens
  pub can : CanGoOn p front

some_front : (a b : Tokens) → 0 < length a → a ++ b ≡ [] → ⊥
some_front a b lt e = omega (arith, ap length e, length-append a b)

read_by : (p : Bool) (tokens : Tokens) (o : Outcome Tree) → (text p).run tokens ≡ o → Read p tokens
read_by p tokens (Ok q) run =
    let s = (text_law p).laws.splits tokens q.1 q.0 ((text_law p).laws.sound tokens q.1 q.0 run) in
    record {
      front = s.front;
      rest = q.1;
      whole = s.whole;
      left = rw run refl;
      can = elim (some_or_none s.front) [
        | inl none ↦ subst (λ (z : Tokens). CanGoOn p z) (sym none) (some_text p)
        | inr some ↦ ([], q.0, (λ e. some_front s.front [] some e, s.free []))
      ];
    }
read_by p tokens (Err (NotElan n)) run =
    let s = (text_law p).laws.stuck tokens (NotElan n) run in
    record {
      front = s.front;
      rest = s.rest;
      whole = s.whole;
      left = sym (same_left n (length s.rest) s.place) ∙ rw run refl;
      can = elim (some_or_none s.front) [
        | inl none ↦ subst (λ (z : Tokens). CanGoOn p z) (sym none) (some_text p)
        | inr some ↦ let c = s.viable some in (c.more ++ [], c.value, (λ e. some_front s.front (c.more ++ []) some e, c.reads []))
      ];
    }
read_by p tokens (Err NoMemory) run = let s = (text_law p).laws.stuck tokens NoMemory run in let e = s.place in absurd cc

pub read : (p : Bool) (tokens : Tokens) → Read p tokens
read p tokens = read_by p tokens ((text p).run tokens) refl

-- a front of a front that can go on
shorter : (p : Bool) (a b : Tokens) → CanGoOn p (a ++ b) → CanGoOn p a
shorter p a b can = (b ++ can.0, can.1, subst (λ (z : Tokens). Reads p z can.1) (append_assoc a b can.0) can.2)

within_front : (front us a b : Tokens) → front ++ us ≡ a ++ b → length b ≤ length us → (c : Tokens) × (a ≡ front ++ c)
within_front [] us a b e le = (a, refl)
within_front (x ∷ front) us [] b e le = absurd (omega (arith, ap length e, length-append front us))
within_front (x ∷ front) us (y ∷ a) b e le =
    let head : x ≡ y = cc in
    let tail : front ++ us ≡ a ++ b = cc in
    let c = within_front front us a b tail le in
    (c.0, rw head (ap (λ (z : Tokens). y ∷ z) c.1))

-- A front whose end the parser reaches can go on.
pub can_go_on : (p : Bool) (front us : Tokens) → left p (front ++ us) ≤ length us → CanGoOn p front
can_go_on p front us le =
    let r = read p (front ++ us) in
    let c = within_front front us r.front r.rest r.whole (omega (arith, r.left, le)) in
    shorter p front c.0 (subst (λ (z : Tokens). CanGoOn p z) c.1 r.can)

take_front : (a b : Tokens) (n : ℕ) → n ≡ length a → take n (a ++ b) ≡ a
take_front a b n e = rw e (take-append-le (length a) a b (omega arith) ∙ take_all (length a) a (omega arith))

-- The front that the parser read can go on.
pub read_front : (p : Bool) (tokens : Tokens) (n : ℕ) → n ≡ length tokens - left p tokens → CanGoOn p (take n tokens)
read_front p tokens n e =
    let r = read p tokens in
    let is : n ≡ length r.front = omega (arith, e, r.left, ap length r.whole, length-append r.front r.rest) in
    subst (λ (z : Tokens). CanGoOn p z) (sym (ap (λ (z : Tokens). take n z) r.whole ∙ take_front r.front r.rest n is)) r.can

-- ---- Each list of tokens has one place.

in_order : (n m : ℕ) → (n ≤ m) ⊎ (m < n)
in_order zero m = inl (omega arith)
in_order (suc n) zero = inr (omega arith)
in_order (suc n) (suc m) = elim (in_order n m) [ inl le ↦ inl (omega (arith, le)) | inr lt ↦ inr (omega (arith, lt)) ]

abbrev Reaches : Bool → Tokens → Continuation → Type 0
Reaches p front c = left p (front ++ tokens_of c) ≤ length (tokens_of c)

abbrev Early : Bool → Tokens → Continuation → Type 0
Early p front c = length (tokens_of c) < left p (front ++ tokens_of c)

reaches_or_not : (p : Bool) (front : Tokens) (c : Continuation) → Reaches p front c ⊎ Early p front c
reaches_or_not p front c = in_order (left p (front ++ tokens_of c)) (length (tokens_of c))

-- before each continuation
pub each_early : (p : Bool) (front : Tokens) → Early p front behind.End → Early p front behind.Name → Early p front behind.Refinement
    → Early p front behind.Colon → Early p front behind.Declaration → CanGoOn p front → ⊥
each_early p front e n r c d = cannot_go_on p front (by p front e n r c d)
  where
    by : (p : Bool) (front : Tokens) → Early p front behind.End → Early p front behind.Name → Early p front behind.Refinement → Early p front behind.Colon
        → Early p front behind.Declaration → (x : Continuation) → Early p front x
    by p front e n r c d behind.End = e
    by p front e n r c d behind.Name = n
    by p front e n r c d behind.Refinement = r
    by p front e n r c d behind.Colon = c
    by p front e n r c d behind.Declaration = d

decided : (p : Bool) (front : Tokens) → CanGoOn p front ⊎ (CanGoOn p front → ⊥)
decided p front = elim (reaches_or_not p front behind.End) [
  | inl x ↦ inl (can_go_on p front (tokens_of behind.End) x)
  | inr e ↦ elim (reaches_or_not p front behind.Name) [
    | inl x ↦ inl (can_go_on p front (tokens_of behind.Name) x)
    | inr n ↦ elim (reaches_or_not p front behind.Refinement) [
      | inl x ↦ inl (can_go_on p front (tokens_of behind.Refinement) x)
      | inr r ↦ elim (reaches_or_not p front behind.Colon) [
        | inl x ↦ inl (can_go_on p front (tokens_of behind.Colon) x)
        | inr c ↦ elim (reaches_or_not p front behind.Declaration) [
          | inl x ↦ inl (can_go_on p front (tokens_of behind.Declaration) x)
          | inr d ↦ inr (each_early p front e n r c d)
        ]
      ]
    ]
  ]
]

some_place_from : (p : Bool) (tokens : Tokens) (k n : ℕ) → length tokens ≡ n + k → CanGoOn p (take n tokens) → (m : ℕ) × IsPlace p tokens m
some_place_from p tokens zero n e can = (n, (omega (arith, e), can, λ lt. absurd (omega (arith, e, lt))))
some_place_from p tokens (suc k) n e can = elim (decided p (take (suc n) tokens)) [
  | inl more ↦ some_place_from p tokens k (suc n) (omega (arith, e)) more
  | inr none ↦ (n, (omega (arith, e), can, λ lt. none))
]

pub some_place : (p : Bool) (tokens : Tokens) → (n : ℕ) × IsPlace p tokens n
some_place p tokens = some_place_from p tokens (length tokens) 0 (omega arith) (some_text p)

not_later : (p : Bool) (tokens : Tokens) (n m : ℕ) → IsPlace p tokens n → IsPlace p tokens m → n < m → ⊥
not_later p tokens n m is also lt =
    let whole : take m tokens ≡ take (suc n) tokens ++ drop (suc n) (take m tokens) =
    sym (take-append-drop (suc n) (take m tokens))
    ∙ ap (λ (z : Tokens). z ++ drop (suc n) (take m tokens)) (take-take (suc n) m tokens (omega (arith, lt))) in
    is.2 (omega (arith, also.0, lt)) (shorter p (take (suc n) tokens) (drop (suc n) (take m tokens)) (subst (λ (z : Tokens). CanGoOn p z) whole also.1))

pub one_place : (p : Bool) (tokens : Tokens) (n m : ℕ) → IsPlace p tokens n → IsPlace p tokens m → n ≡ m
one_place p tokens n m is also = elim (in_order n m) [
  | inr lt ↦ absurd (not_later p tokens m n also is lt)
  | inl le ↦ elim (in_order m n) [
    | inr lt ↦ absurd (not_later p tokens n m is also lt)
    | inl ge ↦ omega (arith, le, ge)
  ]
]
