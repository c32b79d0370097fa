-- Rules of a grammar: what each reads, and how.
use Rattle.std.specs.Prelude.{◌≡◌, ◌≢◌, ℕ, nat_lt, zero, suc, ◌≤◌, ◌<◌, ◌⊎◌, Bool, true, false, ◌||◌, if◌then◌else◌, List, [], ◌∷◌, ◌++◌, Option, Some, None}
use Rattle.std.specs.Prelude.{Result, Ok, Err, length}
use Rattle.elan_tree.specs.declared.token.Token.{Token}
use Rattle.elan_grammar.specs.declared.error.ParseError.{ParseError}
use Rattle.elan_grammar.specs.declared.error.ParseError.TheVariants.{NoMemory, NotElan}
use Rattle.elan_grammar.specs.declared.kind.Kind.{Kind}
use Rattle.elan_grammar.specs.declared.tall.Tall.{Tall}
use Rattle.elan_grammar.specs.Kinds.{ahead}

abbrev pub Tokens : Type 0
Tokens = List Token

-- No rule reads the next token.
abbrev pub refusal : Tokens → ParseError
refusal xs = NotElan (length xs)

-- what was read and the tokens after it
abbrev pub Outcome : Type 0 → Type 0
Outcome A = Result (A × Tokens) ParseError

abbrev pub and_then : {A B : Type 0} → Outcome A → (A → Tokens → Outcome B) → Outcome B
and_then (Ok p) f = f p.0 p.1
and_then (Err e) f = Err e

pub record Rule (A : Type 0) : Type 1 where
  -- the tokens from the first list up to the second spell the value
  pub reads : A → Tokens → Tokens → Type 0
  pub run : Tokens → Outcome A
  -- The next tokens can begin what it reads. By this the parser chooses.
  pub starts : Tokens → Bool

-- reads nothing
abbrev pub pure : {A : Type 0} → A → Rule A
pure a = record { reads = λ b xs ys. (b ≡ a) × (xs ≡ ys); run = λ xs. Ok (a, xs); starts = λ xs. true }

abbrev pub fail : {A : Type 0} → Rule A
fail = record { reads = λ b xs ys. ⊥; run = λ xs. Err (refusal xs); starts = λ xs. false }

-- one after the other
infixl 10 ◌>>=◌
abbrev pub ◌>>=◌ : {A B : Type 0} → Rule A → (A → Rule B) → Rule B
r >>= f = record {
  reads = λ b xs ys. (a : _) × (zs : Tokens) × r.reads a xs zs × (f a).reads b zs ys;
  run = λ xs. and_then (r.run xs) (λ a zs. (f a).run zs);
  starts = r.starts;
}

infixl 10 ◌>>◌
abbrev pub ◌>>◌ : {A B : Type 0} → Rule A → Rule B → Rule B
r >> s = r >>= (λ _. s)

-- the next token, where f accepts it
abbrev pub taken : {A : Type 0} → Option A → Tokens → Tokens → Outcome A
taken (Some a) all rest = Ok (a, rest)
taken None all rest = Err (refusal all)

abbrev pub terminal_run : {A : Type 0} → (Token → Option A) → Tokens → Outcome A
terminal_run f [] = Err (refusal [])
terminal_run f (t ∷ ts) = taken (f t) (t ∷ ts) ts

abbrev pub is_some : {A : Type 0} → Option A → Bool
is_some (Some a) = true
is_some None = false

abbrev pub accepts : {A : Type 0} → (Token → Option A) → Tokens → Bool
accepts f [] = false
accepts f (t ∷ ts) = is_some (f t)

abbrev pub terminal : {A : Type 0} → (Token → Option A) → Rule A
terminal f = record { reads = λ a xs ys. (t : Token) × (xs ≡ t ∷ ys) × (f t ≡ Some a); run = terminal_run f; starts = accepts f }

-- reads nothing, where the test is true
abbrev pub only : Bool → Rule (Unit {0})
only c = record { reads = λ u xs ys. (c ≡ true) × (xs ≡ ys); run = λ xs. if c then Ok (tt, xs) else Err (refusal xs); starts = λ xs. true }

-- the same rule, where the parser chooses it by this
abbrev pub starting : {A : Type 0} → (Tokens → Bool) → Rule A → Rule A
starting b r = record { reads = r.reads; run = r.run; starts = b }

-- the same rule, which the parser chooses by what it sees ahead, since the next token alone does not tell
abbrev pub seen : {A : Type 0} → (Kind → Bool) → Rule A → Rule A
seen b r = starting (λ xs. b (ahead xs)) r

abbrev pub guard : {A : Type 0} → Bool → Rule A → Rule A
guard c r = starting r.starts (only c >> r)

-- There is a depth above a phrase so deep: asked before the first token of what needs one.
abbrev pub below : {A : Type 0} → ℕ → ℕ → Rule A → Rule A
below depth n r = guard (nat_lt depth n) r

-- One or the other. The parser knows by the next token which.
abbrev pub choose : {A : Type 0} → Rule A → Rule A → Rule A
choose r s = record {
  reads = λ a xs ys. r.reads a xs ys ⊎ s.reads a xs ys;
  run = λ xs. if r.starts xs then r.run xs else s.run xs;
  starts = λ xs. r.starts xs || s.starts xs;
}

-- any number of steps, each from where the one before it ended
abbrev pub steps : {S : Type 0} → (S → S → Tokens → Tokens → Type 0) → ℕ → S → S → Tokens → Tokens → Type 0
steps step zero s e xs ys = (e ≡ s) × (xs ≡ ys)
steps step (suc n) s e xs ys = (t : _) × (zs : Tokens) × step s t xs zs × steps step n t e zs ys

abbrev pub steps_run : {S : Type 0} → (S → Rule S) → ℕ → S → Tokens → Outcome S
steps_run body zero s xs = Ok (s, xs)
steps_run body (suc n) s xs = if (body s).starts xs then and_then ((body s).run xs) (steps_run body n) else Ok (s, xs)

-- Any number of steps. The parser makes one more where it sees that one begins.
abbrev pub iterate : {S : Type 0} → (S → Rule S) → S → Rule S
iterate body s = record {
  reads = λ e xs ys. (n : ℕ) × steps (λ a. (body a).reads) n s e xs ys;
  run = λ xs. steps_run body (length xs) s xs;
  starts = λ xs. true;
}

-- ---- forms that many productions have

-- [ r ]
abbrev pub optional : {A : Type 0} → Rule A → Rule (Option A)
optional r = choose (do a ← r; pure (Some a)) (pure None)

abbrev pub one_more : {A : Type 0} → Rule A → List A → Rule (List A)
one_more item xs = do
  x ← item
  pure (xs ++ x ∷ [])

-- item { item }
abbrev pub in_row : {A : Type 0} → Rule A → Rule (List A)
in_row item = do
  x ← item
  iterate (one_more item) (x ∷ [])

abbrev pub further : {X A : Type 0} → Rule X → Rule A → List A → Rule (List A)
further mark item xs = do
  mark
  one_more item xs

-- item { mark item }
abbrev pub listed : {X A : Type 0} → Rule X → Rule A → Rule (List A)
listed mark item = do
  x ← item
  iterate (further mark item) (x ∷ [])

-- ---- what a function that parses ensures: the rule's outcome, unless memory fails

abbrev pub Gives : {A : Type 0} → Outcome A → Result A ParseError → Tokens → Type 0
Gives outcome (Ok a) new = outcome ≡ Ok (a, new)
Gives outcome (Err e) new = e ≢ NoMemory → outcome ≡ Err e

abbrev pub AtMost : ℕ → ℕ → Type 0
AtMost n height = height ≤ n

abbrev pub Below : ℕ → ℕ → Type 0
Below n height = height < n

-- The depth of what was read is known, and within bounds.
abbrev pub IsTall : {A : Type 0} → (A → ℕ) → (ℕ → Type 0) → Tall A → Type 0
IsTall depth Fits a = (a.height ≡ depth a.tree) × Fits a.height

-- The contract of a production: the function gives what the rule reads, with its depth.
abbrev pub Parses : {A : Type 0} → Rule A → (A → ℕ) → (ℕ → Type 0) → Tokens → Result (Tall A) ParseError → Tokens → Type 0
Parses rule depth Fits old (Ok a) new = (rule.run old ≡ Ok (a.tree, new)) × IsTall depth Fits a
Parses rule depth Fits old (Err e) new = e ≢ NoMemory → rule.run old ≡ Err e
