-- What holds of the rules of one token.
use Rattle.std.proofs.Common.{◌≡◌, ℕ, suc, Bool, true, false, cond, Option, Some, None, refl, sym, ◌∙◌, arith}
use Rattle.std.specs.Prelude.{not, ◌==◌, ◌&&◌, ℤ, neg_ℤ, pos, [], ◌∷◌}
use Rattle.std.proofs.lemmas.Bool.{eqb-true}
use denote.Enum.Bare.{true_same}
use Rattle.elan_tree.specs.contracts.token.Key as of_key
use Rattle.elan_tree.specs.contracts.token.Sign as of_sign
use Rattle.elan_tree.specs.declared.token.Token.{Token}
use Rattle.elan_tree.specs.declared.token.Word.{Word}
use Rattle.elan_tree.specs.declared.token.Word.TheVariants as w
use Rattle.elan_tree.specs.declared.token.Key.{Key}
use Rattle.elan_tree.specs.declared.token.Key.TheVariants as key
use Rattle.elan_tree.specs.declared.token.Sign.{Sign}
use Rattle.elan_tree.specs.declared.token.Sign.TheVariants as sign
use Rattle.elan_tree.specs.declared.written_type.Name.{Name}
use Rattle.elan_tree.specs.declared.written_type.TypePhrase.{TypePhrase}
use Rattle.elan_tree.specs.declared.written_type.TypePhrase.TheVariants as ty
use Rattle.elan_tree.specs.declared.written_type.Size.{Size}
use Rattle.elan_tree.specs.declared.written_type.Size.TheVariants as size
use Rattle.elan_tree.specs.declared.written_type.Access.{Access}
use Rattle.elan_tree.specs.declared.written_type.Access.TheVariants as access
use Rattle.elan_tree.specs.declared.written_type.Constant.{Constant}
use Rattle.elan_tree.specs.declared.written_type.Constant.TheVariants as constant
use Rattle.elan_tree.specs.declared.written_type.Label.{Label}
use Rattle.elan_tree.specs.declared.written_type.Label.TheVariants as label
use Rattle.elan_tree.specs.declared.phrase.Expr.{Expr}
use Rattle.elan_tree.specs.declared.phrase.Expr.TheVariants as e
use Rattle.elan_tree.specs.declared.phrase.Operator.{Operator}
use Rattle.elan_tree.specs.declared.phrase.Operator.TheVariants as op
use Rattle.elan_tree.specs.declared.tree.OperatorName.{OperatorName}
use Rattle.elan_tree.specs.declared.tree.Export.{Export}
use Rattle.elan_tree.specs.declared.tree.Export.TheVariants as export
use Rattle.elan_grammar.specs.declared.kind.Tier.{Tier}
use Rattle.elan_grammar.specs.declared.kind.Kind.TheVariants as k
use Rattle.elan_grammar.specs.declared.joint.Joint.{Joint}
use Rattle.elan_grammar.specs.declared.joint.Joint.TheVariants as joint
use Rattle.elan_grammar.specs.Kinds.{ahead, kind, second, kind_of, is_key, is_sign, goes_on, leads, is_init}
use Rattle.elan_grammar.specs.Kinds.{is_rep, is_symbol, loose, tier_of, tier_level, same_sign}
use Rattle.elan_grammar.specs.Rule.{Tokens, terminal}
use Rattle.elan_grammar.specs.Terminals as terminals
use Rattle.elan_grammar.proofs.Sets.{is_ident, is_number, is_bold, is_comma, is_point, is_operator, is_literal, begins, is_level, is_monadic}
use Rattle.elan_grammar.proofs.Laws.{Set, Within, Apart, Laws, Full, taking, misses, terminal_law}
use Rattle.elan_grammar.proofs.Sequences.{Others, bind_law}
use Rattle.elan_grammar.proofs.Every.{every, implies, within, apart}
use Rattle.elan_grammar.proofs.Seen.{is_special, is_mark, is_type_name, declares, ahead-is, stays, ident_ahead, declares_ahead, ahead-point, pointed, leading}
use Rattle.elan_grammar.proofs.Seen.{alone, ahead-comma, commaed, going_on, parting, type_named, ahead-plain}

-- what a test accepts
pub given : {A : Type 0} (b : Bool) (x y : A) → cond b (Some x) None ≡ Some y → b ≡ true
given true x y e = refl
given false x y e = absurd cc

-- what a rule takes is seen as one of these kinds
abbrev Takes : {A : Type 0} → (Token → Option A) → Set → Type 0
Takes {A = A} f first = (t : Token) (ts : Tokens) (a : A) → f t ≡ Some a → first (ahead (t ∷ ts)) ≡ true

plain_takes : {A : Type 0} (f : Token → Option A) (first : Set) → ((t : Token) (a : A) → f t ≡ Some a → first (kind_of t.what) ≡ true)
    → Apart first is_special → Takes f first
plain_takes f first shows apart t ts a h =
    let is = shows t a h in
    rw (ahead-is t ts (apart (kind_of t.what) is)) is

plain_law : {A : Type 0} (f : Token → Option A) (first stop : Set) → ((t : Token) (a : A) → f t ≡ Some a → first (kind_of t.what) ≡ true)
    → Apart first is_special → Laws (terminal f) first stop
plain_law f first stop shows apart = terminal_law f first stop (λ t ts a h s. plain_takes f first shows apart t ts a h)

-- of a token that may be a bold word
loose_takes : {A : Type 0} (f : Token → Option A) (first : Set) → ((t : Token) (a : A) → f t ≡ Some a → first (kind_of t.what) ≡ true)
    → ((r : Tier) → first (k.Bold r) ≡ true → first (k.TypeName r) ≡ true) → Apart first is_mark → Takes f first
loose_takes f first shows same apart t ts a h = stays first same apart t ts (shows t a h)

loose_law : {A : Type 0} (f : Token → Option A) (first stop : Set) → ((t : Token) (a : A) → f t ≡ Some a → first (kind_of t.what) ≡ true)
    → ((r : Tier) → first (k.Bold r) ≡ true → first (k.TypeName r) ≡ true) → Apart first is_mark → Laws (terminal f) first stop
loose_law f first stop shows same apart = terminal_law f first stop (λ t ts a h s. loose_takes f first shows same apart t ts a h)

-- ---- rules of one token read something

-- a token of this word
abbrev pub a_token : Word → Token
a_token v = record { what = v; at = 1; len = 1 }

full : {A : Type 0} (f : Token → Option A) (first stop : Set) (v : Word) (a : A) → f (a_token v) ≡ Some a → Laws (terminal f) first stop
    → Full (terminal f) first stop
full f first stop v a h l = record { laws = l; sample = taking f (a_token v) a h }

key_taken : (x : Key) → terminals.place_if (is_key x) (a_token (w.Key x)) ≡ Some 1
key_taken x = rw (true_same of_key.the_type x x refl) refl

sign_taken : (x : Sign) → terminals.place_if (is_sign x) (a_token (w.Sign x)) ≡ Some 1
sign_taken x = rw (true_same of_sign.the_type x x refl) refl

-- ---- keywords and signs

key_apart : (x : Key) → Apart (is_key x) is_special
key_apart x (k.Key y) h = refl
key_apart x _ h = absurd cc

pub keyword_law : (x : Key) (stop : Set) → Full (terminals.keyword x) (is_key x) stop
keyword_law x stop =
    full (terminals.place_if (is_key x)) (is_key x) stop (w.Key x) 1 (key_taken x)
    (plain_law (terminals.place_if (is_key x)) (is_key x) stop (λ t a h. given (is_key x (kind_of t.what)) t.at a h) (key_apart x))

pub misses_key : (x : Key) (p : Set) → Apart p (is_key x) → Others p (terminals.keyword x)
misses_key x p ap =
    misses (terminals.place_if (is_key x)) p (is_key x)
    (plain_takes (terminals.place_if (is_key x)) (is_key x) (λ t a h. given (is_key x (kind_of t.what)) t.at a h) (key_apart x)) ap

pub end_law : (x : Key) (stop : Set) → Full (terminals.end_of x) (is_key key.End) stop
unfolding terminals.end_of
end_law x stop =
    bind_law (terminals.keyword key.End) _ (is_key key.End) (is_key x) (is_key x) stop (keyword_law key.End (is_key x)) (λ _. keyword_law x stop) (λ k h. h)

pub mark_law : (x : Sign) (stop : Set) → every (λ y. implies (is_sign x y) (not (is_special y))) ≡ true → Full (terminals.mark x) (is_sign x) stop
mark_law x stop e =
    full _ (is_sign x) stop (w.Sign x) 1 (sign_taken x)
    (plain_law (terminals.place_if (is_sign x)) (is_sign x) stop (λ t a h. given (is_sign x (kind_of t.what)) t.at a h) (apart (is_sign x) is_special e))

pub misses_mark : (x : Sign) (p : Set) → every (λ y. implies (is_sign x y) (not (is_special y))) ≡ true → Apart p (is_sign x) → Others p (terminals.mark x)
misses_mark x p e ap =
    misses (terminals.place_if (is_sign x)) p (is_sign x)
    (plain_takes (terminals.place_if (is_sign x)) (is_sign x) (λ t a h. given (is_sign x (kind_of t.what)) t.at a h) (apart (is_sign x) is_special e)) ap

pub init_law : (stop : Set) → Full terminals.init_mark is_init stop
init_law stop =
    full _ is_init stop (w.Sign sign.Becomes) 1 refl
    (plain_law (terminals.place_if is_init) is_init stop (λ t a h. given (is_init (kind_of t.what)) t.at a h) (apart is_init is_special refl))

pub misses_init : (p : Set) → Apart p is_init → Others p terminals.init_mark
misses_init p ap =
    misses (terminals.place_if is_init) p is_init
    (plain_takes (terminals.place_if is_init) is_init (λ t a h. given (is_init (kind_of t.what)) t.at a h) (apart is_init is_special refl)) ap

pub rep_law : (stop : Set) → Full terminals.rep is_rep stop
rep_law stop =
    full _ is_rep stop (w.Key key.Rep) 1 refl
    (plain_law (terminals.place_if is_rep) is_rep stop (λ t a h. given (is_rep (kind_of t.what)) t.at a h) (apart is_rep is_special refl))

pub misses_rep : (p : Set) → Apart p is_rep → Others p terminals.rep
misses_rep p ap =
    misses (terminals.place_if is_rep) p is_rep
    (plain_takes (terminals.place_if is_rep) is_rep (λ t a h. given (is_rep (kind_of t.what)) t.at a h) (apart is_rep is_special refl)) ap

-- ---- points and commas

point_shows : (t : Token) (a : ℕ) → terminals.place_if (is_sign sign.Point) t ≡ Some a → is_sign sign.Point (kind_of t.what) ≡ true
point_shows t a h = given (is_sign sign.Point (kind_of t.what)) t.at a h

pub point_law : (stop : Set) → Full (terminals.mark sign.Point) is_point stop
point_law stop =
    full _ is_point stop (w.Sign sign.Point) 1 refl
    (terminal_law (terminals.place_if (is_sign sign.Point)) is_point stop
    (λ t ts a h s. rw (ahead-point t ts (point_shows t a h)) (pointed (kind ts) (second ts))))

pub misses_point : (p : Set) → Apart p is_point → Others p (terminals.mark sign.Point)
misses_point p ap =
    misses (terminals.place_if (is_sign sign.Point)) p is_point
    (λ t ts a h. rw (ahead-point t ts (point_shows t a h)) (pointed (kind ts) (second ts))) ap

-- before an identifier
pub leading_law : Full (terminals.mark sign.Point) leads is_ident
leading_law =
    full _ leads is_ident (w.Sign sign.Point) 1 refl
    (terminal_law (terminals.place_if (is_sign sign.Point)) leads is_ident
    (λ t ts a h s. rw (ahead-point t ts (point_shows t a h)) (leading (kind ts) (second ts) (sym (ident_ahead ts) ∙ s))))

-- before anything else
pub alone_law : (stop : Set) → Apart stop is_ident → Full (terminals.mark sign.Point) (is_sign sign.Point) stop
alone_law stop e =
    full _ (is_sign sign.Point) stop (w.Sign sign.Point) 1 refl
    (terminal_law (terminals.place_if (is_sign sign.Point)) (is_sign sign.Point) stop
    (λ t ts a h s. rw (ahead-point t ts (point_shows t a h)) (alone (kind ts) (second ts) (sym (ident_ahead ts) ∙ e (ahead ts) s))))

comma_shows : (t : Token) (a : ℕ) → terminals.place_if (is_sign sign.Comma) t ≡ Some a → is_sign sign.Comma (kind_of t.what) ≡ true
comma_shows t a h = given (is_sign sign.Comma (kind_of t.what)) t.at a h

pub comma_law : (stop : Set) → Full (terminals.mark sign.Comma) is_comma stop
comma_law stop =
    full _ is_comma stop (w.Sign sign.Comma) 1 refl
    (terminal_law (terminals.place_if (is_sign sign.Comma)) is_comma stop (λ t ts a h s. rw (ahead-comma t ts (comma_shows t a h)) (commaed (kind ts))))

pub misses_comma : (p : Set) → Apart p is_comma → Others p (terminals.mark sign.Comma)
misses_comma p ap =
    misses (terminals.place_if (is_sign sign.Comma)) p is_comma (λ t ts a h. rw (ahead-comma t ts (comma_shows t a h)) (commaed (kind ts))) ap

pub going_law : Full (terminals.mark sign.Comma) goes_on is_ident
going_law =
    full _ goes_on is_ident (w.Sign sign.Comma) 1 refl
    (terminal_law (terminals.place_if (is_sign sign.Comma)) goes_on is_ident
    (λ t ts a h s. rw (ahead-comma t ts (comma_shows t a h)) (going_on (kind ts) (sym (ident_ahead ts) ∙ s))))

pub parting_law : (stop : Set) → Apart stop is_ident → Full (terminals.mark sign.Comma) (is_sign sign.Comma) stop
parting_law stop e =
    full _ (is_sign sign.Comma) stop (w.Sign sign.Comma) 1 refl
    (terminal_law (terminals.place_if (is_sign sign.Comma)) (is_sign sign.Comma) stop
    (λ t ts a h s. rw (ahead-comma t ts (comma_shows t a h)) (parting (kind ts) (sym (ident_ahead ts) ∙ e (ahead ts) s))))

-- ---- names

pub ident_shows : (at : ℕ) (v : Word) (a : Name) → terminals.ident_of at v ≡ Some a → is_ident (kind_of v) ≡ true
ident_shows at (w.Ident b) a e = refl
ident_shows at _ a e = absurd cc

pub ident_law : (stop : Set) → Full terminals.ident is_ident stop
ident_law stop =
    full _ is_ident stop (w.Ident []) (terminals.named_at 1 []) refl
    (plain_law (terminals.in_word terminals.ident_of) is_ident stop (λ t a h. ident_shows t.at t.what a h) (apart is_ident is_special refl))

pub misses_ident : (p : Set) → Apart p is_ident → Others p terminals.ident
misses_ident p ap =
    misses (terminals.in_word terminals.ident_of) p is_ident
    (plain_takes (terminals.in_word terminals.ident_of) is_ident (λ t a h. ident_shows t.at t.what a h) (apart is_ident is_special refl)) ap

bold_shows : (at : ℕ) (v : Word) (a : Name) → terminals.bold_of at v ≡ Some a → is_bold (kind_of v) ≡ true
bold_shows at (w.Bold b) a e = refl
bold_shows at _ a e = absurd cc

pub bold_law : (stop : Set) → Full terminals.bold is_bold stop
bold_law stop =
    full _ is_bold stop (w.Bold []) (terminals.named_at 1 []) refl
    (loose_law (terminals.in_word terminals.bold_of) is_bold stop (λ t a h. bold_shows t.at t.what a h) (λ r e. refl) (apart is_bold is_mark refl))

pub misses_bold : (p : Set) → Apart p is_bold → Others p terminals.bold
misses_bold p ap =
    misses (terminals.in_word terminals.bold_of) p is_bold
    (loose_takes (terminals.in_word terminals.bold_of) is_bold (λ t a h. bold_shows t.at t.what a h) (λ r e. refl) (apart is_bold is_mark refl)) ap

-- before VAR, CONST, PROC or OP
pub type_name_law : (stop : Set) → Within stop declares → Full terminals.bold is_type_name stop
type_name_law stop e =
    full _ is_type_name stop (w.Bold []) (terminals.named_at 1 []) refl
    (terminal_law (terminals.in_word terminals.bold_of) is_type_name stop
    (λ t ts a h s. type_named t ts (bold_shows t.at t.what a h) (sym (declares_ahead ts) ∙ e (ahead ts) s)))

abbrev pub is_leaving : Set
is_leaving k.Ident = true
is_leaving (k.Bold r) = true
is_leaving (k.TypeName r) = true
is_leaving _ = false

leaving_shows : (at : ℕ) (v : Word) (a : Name) → terminals.leaving_of at v ≡ Some a → is_leaving (kind_of v) ≡ true
leaving_shows at (w.Ident b) a e = refl
leaving_shows at (w.Bold b) a e = refl
leaving_shows at _ a e = absurd cc

pub leaving_law : (stop : Set) → Full (terminals.word terminals.leaving_of) is_leaving stop
leaving_law stop =
    full _ is_leaving stop (w.Ident []) (terminals.named_at 1 []) refl
    (loose_law (terminals.in_word terminals.leaving_of) is_leaving stop (λ t a h. leaving_shows t.at t.what a h) (λ r e. refl)
    (apart is_leaving is_mark refl))

same_shows : (x : Name) (at : ℕ) (v : Word) (a : Unit {0}) → terminals.same_of x at v ≡ Some a → is_ident (kind_of v) ≡ true
same_shows x at (w.Ident b) a e = refl
same_shows x at _ a e = absurd cc

pub same_law : (x : Name) (stop : Set) → Laws (terminals.word (terminals.same_of x)) is_ident stop
same_law x stop = plain_law (terminals.in_word (terminals.same_of x)) is_ident stop (λ t a h. same_shows x t.at t.what a h) (apart is_ident is_special refl)

pub misses_same : (x : Name) (p : Set) → Apart p is_ident → Others p (terminals.word (terminals.same_of x))
misses_same x p ap =
    misses (terminals.in_word (terminals.same_of x)) p is_ident
    (plain_takes (terminals.in_word (terminals.same_of x)) is_ident (λ t a h. same_shows x t.at t.what a h) (apart is_ident is_special refl)) ap

-- ---- what stands in types, constants, labels and expressions

abbrev pub is_simple : Set
is_simple (k.Key key.Int) = true
is_simple (k.Key key.Bool) = true
is_simple (k.Key key.Text) = true
is_simple (k.Key key.Task) = true
is_simple (k.Key key.Dataspace) = true
is_simple _ = false

abbrev pub is_size : Set
is_size k.Number = true
is_size k.Ident = true
is_size _ = false

abbrev pub is_access : Set
is_access (k.Key key.Const) = true
is_access (k.Key key.Var) = true
is_access _ = false

simple_shows : (at : ℕ) (v : Word) (a : TypePhrase) → terminals.simple_of at v ≡ Some a → is_simple (kind_of v) ≡ true
simple_shows at (w.Key key.Int) a e = refl
simple_shows at (w.Key key.Bool) a e = refl
simple_shows at (w.Key key.Text) a e = refl
simple_shows at (w.Key key.Task) a e = refl
simple_shows at (w.Key key.Dataspace) a e = refl
simple_shows at _ a e = absurd cc

pub simple_law : (stop : Set) → Full (terminals.word terminals.simple_of) is_simple stop
simple_law stop =
    full _ is_simple stop (w.Key key.Int) (ty.Int 1) refl
    (plain_law (terminals.in_word terminals.simple_of) is_simple stop (λ t a h. simple_shows t.at t.what a h) (apart is_simple is_special refl))

size_shows : (at : ℕ) (v : Word) (a : Size) → terminals.size_of at v ≡ Some a → is_size (kind_of v) ≡ true
size_shows at (w.Number n) a e = refl
size_shows at (w.Ident b) a e = refl
size_shows at _ a e = absurd cc

pub size_law : (stop : Set) → Full (terminals.word terminals.size_of) is_size stop
size_law stop =
    full _ is_size stop (w.Ident []) (size.Named (terminals.named_at 1 [])) refl
    (plain_law (terminals.in_word terminals.size_of) is_size stop (λ t a h. size_shows t.at t.what a h) (apart is_size is_special refl))

access_shows : (at : ℕ) (v : Word) (a : Access) → terminals.access_of at v ≡ Some a → is_access (kind_of v) ≡ true
access_shows at (w.Key key.Const) a e = refl
access_shows at (w.Key key.Var) a e = refl
access_shows at _ a e = absurd cc

pub access_law : (stop : Set) → Full (terminals.word terminals.access_of) is_access stop
access_law stop =
    full _ is_access stop (w.Key key.Const) (access.Const) refl
    (plain_law (terminals.in_word terminals.access_of) is_access stop (λ t a h. access_shows t.at t.what a h) (apart is_access is_special refl))

constant_shows : (at : ℕ) (v : Word) (a : Constant) → terminals.constant_of at v ≡ Some a → is_literal (kind_of v) ≡ true
constant_shows at (w.Number n) a e = refl
constant_shows at (w.Text b) a e = refl
constant_shows at (w.Key key.True) a e = refl
constant_shows at (w.Key key.False) a e = refl
constant_shows at _ a e = absurd cc

pub constant_law : (stop : Set) → Full (terminals.word terminals.constant_of) is_literal stop
constant_law stop =
    full _ is_literal stop (w.Key key.True) (constant.Truth 1 true) refl
    (plain_law (terminals.in_word terminals.constant_of) is_literal stop (λ t a h. constant_shows t.at t.what a h) (apart is_literal is_special refl))

label_shows : (at : ℕ) (v : Word) (a : Label) → terminals.label_of at v ≡ Some a → is_size (kind_of v) ≡ true
label_shows at (w.Number n) a e = refl
label_shows at (w.Ident b) a e = refl
label_shows at _ a e = absurd cc

pub label_law : (stop : Set) → Full (terminals.word terminals.label_of) is_size stop
label_law stop =
    full _ is_size stop (w.Ident []) (label.Named (terminals.named_at 1 [])) refl
    (plain_law (terminals.in_word terminals.label_of) is_size stop (λ t a h. label_shows t.at t.what a h) (apart is_size is_special refl))

literal_shows : (at : ℕ) (v : Word) (a : Expr) → terminals.literal_of at v ≡ Some a → is_literal (kind_of v) ≡ true
literal_shows at (w.Number n) a e = refl
literal_shows at (w.Text b) a e = refl
literal_shows at (w.Key key.True) a e = refl
literal_shows at (w.Key key.False) a e = refl
literal_shows at _ a e = absurd cc

pub literal_law : (stop : Set) → Full (terminals.word terminals.literal_of) is_literal stop
literal_law stop =
    full _ is_literal stop (w.Key key.True) (e.Truth 1 true) refl
    (plain_law (terminals.in_word terminals.literal_of) is_literal stop (λ t a h. literal_shows t.at t.what a h) (apart is_literal is_special refl))

pub misses_literal : (p : Set) → Apart p is_literal → Others p (terminals.word terminals.literal_of)
misses_literal p ap =
    misses (terminals.in_word terminals.literal_of) p is_literal
    (plain_takes (terminals.in_word terminals.literal_of) is_literal (λ t a h. literal_shows t.at t.what a h) (apart is_literal is_special refl)) ap

negated_shows : (at : ℕ) (v : Word) (a : ℤ) → terminals.negated_of at v ≡ Some a → is_number (kind_of v) ≡ true
negated_shows at (w.Number n) a e = refl
negated_shows at _ a e = absurd cc

pub negated_law : (stop : Set) → Full (terminals.word terminals.negated_of) is_number stop
negated_law stop =
    full _ is_number stop (w.Number (pos 0)) (neg_ℤ (pos 0)) refl
    (plain_law (terminals.in_word terminals.negated_of) is_number stop (λ t a h. negated_shows t.at t.what a h) (apart is_number is_special refl))

-- ---- operators

-- a monadic operator before an operand
abbrev pub applies : Set
applies (k.Bold r) = true
applies (k.Sign sign.Plus) = true
applies (k.Sign sign.Minus) = true
applies _ = false

monadic_shows : (at : ℕ) (v : Word) (a : ℕ × Operator) → terminals.monadic_of at v ≡ Some a → applies (kind_of v) ≡ true
monadic_shows at (w.Sign sign.Plus) a e = refl
monadic_shows at (w.Sign sign.Minus) a e = refl
monadic_shows at (w.Bold b) a e = refl
monadic_shows at _ a e = absurd cc

pub monadic_law : Laws (terminals.word terminals.monadic_of) applies begins
monadic_law = terminal_law (terminals.in_word terminals.monadic_of) applies begins (λ t ts a h s.
    let is = monadic_shows t.at t.what a h in
    rw (ahead-plain t ts (apart applies is_mark refl (kind_of t.what) is) (sym (declares_ahead ts) ∙ apart begins declares refl (ahead ts) s)) is)

pub misses_monadic : (p : Set) → Apart p is_monadic → Others p (terminals.word terminals.monadic_of)
misses_monadic p ap =
    misses (terminals.in_word terminals.monadic_of) p is_monadic
    (loose_takes (terminals.in_word terminals.monadic_of) is_monadic
    (λ t a h. within applies is_monadic refl (kind_of t.what) (monadic_shows t.at t.what a h)) (λ r e. refl) (apart is_monadic is_mark refl)) ap

joint_shows : (i at : ℕ) (v : Word) (a : Joint) → terminals.joint_of i at v ≡ Some a → is_level i (kind_of v) ≡ true
joint_shows i at (w.Bold b) a e = given (tier_level (tier_of b) == i) (joint.Operator (op.Named b)) a e
joint_shows i at (w.Sign x) a e = given (loose (k.Sign x) == i) (joint.Operator (op.Sign x)) a e
joint_shows i at (w.Key key.Cand) a e = given (4 == i) joint.Cand a e
joint_shows i at (w.Key key.Cor) a e = given (5 == i) joint.Cor a e
joint_shows i at (w.Key _) a e = absurd cc
joint_shows i at (w.Ident b) a e = absurd cc
joint_shows i at (w.Number n) a e = absurd cc
joint_shows i at (w.Text b) a e = absurd cc

no_mark : (i : ℕ) → Apart (is_level (suc i)) is_mark
no_mark i (k.Sign sign.Point) h = absurd (omega (arith, eqb-true 0 (suc i) h))
no_mark i (k.Sign sign.Comma) h = absurd (omega (arith, eqb-true 0 (suc i) h))
no_mark i _ h = refl

pub joint_law : (i : ℕ) (stop : Set) → Laws (terminals.word (terminals.joint_of (suc i))) (is_level (suc i)) stop
joint_law i stop =
    loose_law (terminals.in_word (terminals.joint_of (suc i))) (is_level (suc i)) stop (λ t a h. joint_shows (suc i) t.at t.what a h) (λ r e. e) (no_mark i)

pub misses_joint : (i : ℕ) (p : Set) → Apart p (is_level (suc i)) → Others p (terminals.word (terminals.joint_of (suc i)))
misses_joint i p ap =
    misses (terminals.in_word (terminals.joint_of (suc i))) p (is_level (suc i))
    (loose_takes (terminals.in_word (terminals.joint_of (suc i))) (is_level (suc i)) (λ t a h. joint_shows (suc i) t.at t.what a h) (λ r e. e) (no_mark i)) ap

operator_shows : (at : ℕ) (v : Word) (a : OperatorName) → terminals.operator_of at v ≡ Some a → is_operator (kind_of v) ≡ true
operator_shows at (w.Bold b) a e = refl
operator_shows at (w.Sign x) a e = given (is_symbol x) (record { at = at; operator = op.Sign x }) a e
operator_shows at _ a e = absurd cc

operator_apart : Apart is_operator is_mark
operator_apart = apart is_operator is_mark refl

pub operator_law : (stop : Set) → Full (terminals.word terminals.operator_of) is_operator stop
operator_law stop =
    full _ is_operator stop (w.Bold []) (record { at = 1; operator = op.Named [] }) refl
    (loose_law (terminals.in_word terminals.operator_of) is_operator stop (λ t a h. operator_shows t.at t.what a h) (λ r e. refl) operator_apart)

and_first : (a b : Bool) → (a && b) ≡ true → a ≡ true
and_first true b e = refl
and_first false b e = absurd cc

same_operator_shows : (o : Operator) (v : Word) → terminals.same_operator o v ≡ true → is_operator (kind_of v) ≡ true
same_operator_shows (op.Named a) (w.Bold b) e = refl
same_operator_shows (op.Sign x) (w.Sign y) e = and_first (is_symbol y) (same_sign x y) e
same_operator_shows _ _ e = absurd cc

pub same_operator_law : (o : OperatorName) (stop : Set) → Laws (terminals.word (terminals.same_operator_of o)) is_operator stop
same_operator_law o stop =
    loose_law (terminals.in_word (terminals.same_operator_of o)) is_operator stop
    (λ t a h. same_operator_shows o.operator t.what (given (terminals.same_operator o.operator t.what) tt a h)) (λ r e. refl) operator_apart

pub misses_same_operator : (o : OperatorName) (p : Set) → Apart p is_operator → Others p (terminals.word (terminals.same_operator_of o))
misses_same_operator o p ap =
    misses (terminals.in_word (terminals.same_operator_of o)) p is_operator
    (loose_takes (terminals.in_word (terminals.same_operator_of o)) is_operator
    (λ t a h. same_operator_shows o.operator t.what (given (terminals.same_operator o.operator t.what) tt a h)) (λ r e. refl) operator_apart) ap

abbrev pub is_export : Set
is_export k.Ident = true
is_export (k.Bold r) = true
is_export (k.TypeName r) = true
is_export (k.Sign x) = is_symbol x
is_export _ = false

export_shows : (at : ℕ) (v : Word) (a : Export) → terminals.export_of at v ≡ Some a → is_export (kind_of v) ≡ true
export_shows at (w.Ident b) a e = refl
export_shows at (w.Bold b) a e = refl
export_shows at (w.Sign x) a e = given (is_symbol x) (export.Sign at x) a e
export_shows at _ a e = absurd cc

pub export_law : (stop : Set) → Full (terminals.word terminals.export_of) is_export stop
export_law stop =
    full _ is_export stop (w.Ident []) (export.Ident (terminals.named_at 1 [])) refl
    (loose_law (terminals.in_word terminals.export_of) is_export stop (λ t a h. export_shows t.at t.what a h) (λ r e. refl) (apart is_export is_mark refl))
