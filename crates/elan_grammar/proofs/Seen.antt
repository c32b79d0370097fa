-- What the parser sees ahead, by the next tokens.
use Rattle.std.proofs.Common.{◌≡◌, true, false, [], ◌∷◌, refl}
use Rattle.elan_tree.specs.declared.token.Token.{Token}
use Rattle.elan_tree.specs.declared.token.Key.TheVariants as key
use Rattle.elan_tree.specs.declared.token.Sign.TheVariants as sign
use Rattle.elan_grammar.specs.declared.kind.Tier.{Tier}
use Rattle.elan_grammar.specs.declared.kind.Kind.{Kind}
use Rattle.elan_grammar.specs.declared.kind.Kind.TheVariants as k
use Rattle.elan_grammar.specs.Rule.{Tokens}
use Rattle.elan_grammar.specs.Kinds.{kind, second, kind_of, point_by, comma_by, bold_by, by_next, ahead, is_sign}
use Rattle.elan_grammar.specs.Kinds.{goes_on, leads}
use Rattle.elan_grammar.proofs.Sets.{is_ident, is_comma, is_point, is_bold}
use Rattle.elan_grammar.proofs.Laws.{Set, Apart}

abbrev pub is_colon : Set
is_colon x = is_sign sign.Colon x

-- a word behind which VAR, CONST, PROC or OP stands is a type
abbrev pub declares : Set
declares (k.Key key.Var) = true
declares (k.Key key.Const) = true
declares (k.Key key.Proc) = true
declares (k.Key key.Op) = true
declares _ = false

abbrev pub is_type_name : Set
is_type_name (k.TypeName t) = true
is_type_name _ = false

abbrev pub is_refines : Set
is_refines k.Refines = true
is_refines _ = false

-- a token of which the parser looks at what follows it
abbrev pub is_special : Set
is_special (k.Sign sign.Point) = true
is_special (k.Sign sign.Comma) = true
is_special (k.Bold t) = true
is_special _ = false

-- a point or a comma
abbrev pub is_mark : Set
is_mark (k.Sign sign.Point) = true
is_mark (k.Sign sign.Comma) = true
is_mark _ = false

by_next-is : (v : Kind) (ts : Tokens) → is_special v ≡ false → by_next v ts ≡ v
by_next-is (k.Sign sign.Point) ts h = absurd cc
by_next-is (k.Sign sign.Comma) ts h = absurd cc
by_next-is (k.Bold t) ts h = absurd cc
by_next-is _ ts h = refl

-- a token of another kind is seen as itself
pub ahead-is : (t : Token) (ts : Tokens) → is_special (kind_of t.what) ≡ false → ahead (t ∷ ts) ≡ kind_of t.what
unfolding ahead
ahead-is t ts h = by_next-is (kind_of t.what) ts h

bold_stays : (p : Set) → ((t : Tier) → p (k.Bold t) ≡ true → p (k.TypeName t) ≡ true) → (t : Tier) (next : Kind) → p (k.Bold t) ≡ true
    → p (bold_by t next) ≡ true
bold_stays p h t (k.Key key.Var) e = h t e
bold_stays p h t (k.Key key.Const) e = h t e
bold_stays p h t (k.Key key.Proc) e = h t e
bold_stays p h t (k.Key key.Op) e = h t e
bold_stays p h t _ e = e

stays_by : (p : Set) → ((t : Tier) → p (k.Bold t) ≡ true → p (k.TypeName t) ≡ true) → Apart p is_mark → (v : Kind) (ts : Tokens) → p v ≡ true
    → p (by_next v ts) ≡ true
stays_by p h a (k.Sign sign.Point) ts e = let c = a (k.Sign sign.Point) e in absurd cc
stays_by p h a (k.Sign sign.Comma) ts e = let c = a (k.Sign sign.Comma) e in absurd cc
stays_by p h a (k.Bold t) ts e = bold_stays p h t (kind ts) e
stays_by p h a _ ts e = e

-- a set that doesn't look at what follows a bold word
pub stays : (p : Set) → ((t : Tier) → p (k.Bold t) ≡ true → p (k.TypeName t) ≡ true) → Apart p is_mark → (t : Token) (ts : Tokens) → p (kind_of t.what) ≡ true
    → p (ahead (t ∷ ts)) ≡ true
unfolding ahead
stays p h a t ts e = stays_by p h a (kind_of t.what) ts e

-- ---- what is true of the kind of one token

point_no_ident : (v w : Kind) → is_ident (point_by v w) ≡ false
point_no_ident k.Ident (k.Sign sign.Colon) = refl
point_no_ident k.Ident _ = refl
point_no_ident _ _ = refl

comma_no_ident : (v : Kind) → is_ident (comma_by v) ≡ false
comma_no_ident k.Ident = refl
comma_no_ident _ = refl

bold_no_ident : (t : Tier) (v : Kind) → is_ident (bold_by t v) ≡ false
bold_no_ident t (k.Key key.Var) = refl
bold_no_ident t (k.Key key.Const) = refl
bold_no_ident t (k.Key key.Proc) = refl
bold_no_ident t (k.Key key.Op) = refl
bold_no_ident t _ = refl

ident_by : (v : Kind) (ts : Tokens) → is_ident (by_next v ts) ≡ is_ident v
ident_by (k.Sign sign.Point) ts = point_no_ident (kind ts) (second ts)
ident_by (k.Sign sign.Comma) ts = comma_no_ident (kind ts)
ident_by (k.Bold t) ts = bold_no_ident t (kind ts)
ident_by _ ts = refl

-- an identifier is seen as such
pub ident_ahead : (ts : Tokens) → is_ident (ahead ts) ≡ is_ident (kind ts)
unfolding ahead
ident_ahead [] = refl
ident_ahead (t ∷ ts) = ident_by (kind_of t.what) ts

point_no_colon : (v w : Kind) → is_colon (point_by v w) ≡ false
point_no_colon k.Ident (k.Sign sign.Colon) = refl
point_no_colon k.Ident _ = refl
point_no_colon _ _ = refl

comma_no_colon : (v : Kind) → is_colon (comma_by v) ≡ false
comma_no_colon k.Ident = refl
comma_no_colon _ = refl

bold_no_colon : (t : Tier) (v : Kind) → is_colon (bold_by t v) ≡ false
bold_no_colon t (k.Key key.Var) = refl
bold_no_colon t (k.Key key.Const) = refl
bold_no_colon t (k.Key key.Proc) = refl
bold_no_colon t (k.Key key.Op) = refl
bold_no_colon t _ = refl

colon_by : (v : Kind) (ts : Tokens) → is_colon (by_next v ts) ≡ is_colon v
colon_by (k.Sign sign.Point) ts = point_no_colon (kind ts) (second ts)
colon_by (k.Sign sign.Comma) ts = comma_no_colon (kind ts)
colon_by (k.Bold t) ts = bold_no_colon t (kind ts)
colon_by _ ts = refl

-- a colon is seen as such
pub colon_ahead : (ts : Tokens) → is_colon (ahead ts) ≡ is_colon (kind ts)
unfolding ahead
colon_ahead [] = refl
colon_ahead (t ∷ ts) = colon_by (kind_of t.what) ts

point_declares_not : (v w : Kind) → declares (point_by v w) ≡ false
point_declares_not k.Ident (k.Sign sign.Colon) = refl
point_declares_not k.Ident _ = refl
point_declares_not _ _ = refl

comma_declares_not : (v : Kind) → declares (comma_by v) ≡ false
comma_declares_not k.Ident = refl
comma_declares_not _ = refl

bold_declares_not : (t : Tier) (v : Kind) → declares (bold_by t v) ≡ false
bold_declares_not t (k.Key key.Var) = refl
bold_declares_not t (k.Key key.Const) = refl
bold_declares_not t (k.Key key.Proc) = refl
bold_declares_not t (k.Key key.Op) = refl
bold_declares_not t _ = refl

declares_by : (v : Kind) (ts : Tokens) → declares (by_next v ts) ≡ declares v
declares_by (k.Sign sign.Point) ts = point_declares_not (kind ts) (second ts)
declares_by (k.Sign sign.Comma) ts = comma_declares_not (kind ts)
declares_by (k.Bold t) ts = bold_declares_not t (kind ts)
declares_by _ ts = refl

-- VAR, CONST, PROC and OP are seen as such
pub declares_ahead : (ts : Tokens) → declares (ahead ts) ≡ declares (kind ts)
unfolding ahead
declares_ahead [] = refl
declares_ahead (t ∷ ts) = declares_by (kind_of t.what) ts

-- ---- points

by_point : (v : Kind) (ts : Tokens) → is_sign sign.Point v ≡ true → by_next v ts ≡ point_by (kind ts) (second ts)
by_point (k.Sign sign.Point) ts h = refl
by_point _ ts h = absurd cc

pub ahead-point : (t : Token) (ts : Tokens) → is_sign sign.Point (kind_of t.what) ≡ true → ahead (t ∷ ts) ≡ point_by (kind ts) (second ts)
unfolding ahead
ahead-point t ts h = by_point (kind_of t.what) ts h

pub pointed : (v w : Kind) → is_point (point_by v w) ≡ true
pointed k.Ident (k.Sign sign.Colon) = refl
pointed k.Ident _ = refl
pointed _ _ = refl

pub leading : (v w : Kind) → is_ident v ≡ true → leads (point_by v w) ≡ true
leading k.Ident (k.Sign sign.Colon) h = refl
leading k.Ident _ h = refl
leading _ w h = absurd cc

pub alone : (v w : Kind) → is_ident v ≡ false → is_sign sign.Point (point_by v w) ≡ true
alone k.Ident w h = absurd cc
alone _ w h = refl

pub selecting : (v w : Kind) → is_ident v ≡ true → is_colon w ≡ false → point_by v w ≡ k.Selects
selecting k.Ident (k.Sign sign.Colon) h c = absurd cc
selecting k.Ident _ h c = refl
selecting _ w h c = absurd cc

pub refining : (v w : Kind) → is_ident v ≡ true → is_colon w ≡ true → point_by v w ≡ k.Refines
refining k.Ident (k.Sign sign.Colon) h c = refl
refining k.Ident _ h c = absurd cc
refining _ w h c = absurd cc

-- ---- commas

by_comma : (v : Kind) (ts : Tokens) → is_sign sign.Comma v ≡ true → by_next v ts ≡ comma_by (kind ts)
by_comma (k.Sign sign.Comma) ts h = refl
by_comma _ ts h = absurd cc

pub ahead-comma : (t : Token) (ts : Tokens) → is_sign sign.Comma (kind_of t.what) ≡ true → ahead (t ∷ ts) ≡ comma_by (kind ts)
unfolding ahead
ahead-comma t ts h = by_comma (kind_of t.what) ts h

pub commaed : (v : Kind) → is_comma (comma_by v) ≡ true
commaed k.Ident = refl
commaed _ = refl

pub going_on : (v : Kind) → is_ident v ≡ true → goes_on (comma_by v) ≡ true
going_on k.Ident h = refl
going_on _ h = absurd cc

pub parting : (v : Kind) → is_ident v ≡ false → is_sign sign.Comma (comma_by v) ≡ true
parting k.Ident h = absurd cc
parting _ h = refl

-- ---- bold words

declared_by : (t : Tier) (next : Kind) → declares next ≡ true → is_type_name (bold_by t next) ≡ true
declared_by t (k.Key key.Var) h = refl
declared_by t (k.Key key.Const) h = refl
declared_by t (k.Key key.Proc) h = refl
declared_by t (k.Key key.Op) h = refl
declared_by t _ h = absurd cc

by_declared : (v : Kind) (ts : Tokens) → is_bold v ≡ true → declares (kind ts) ≡ true → is_type_name (by_next v ts) ≡ true
by_declared (k.Bold t) ts h d = declared_by t (kind ts) d
by_declared (k.TypeName t) ts h d = refl
by_declared _ ts h d = absurd cc

pub type_named : (t : Token) (ts : Tokens) → is_bold (kind_of t.what) ≡ true → declares (kind ts) ≡ true → is_type_name (ahead (t ∷ ts)) ≡ true
unfolding ahead
type_named t ts h d = by_declared (kind_of t.what) ts h d

bold_by-is : (t : Tier) (next : Kind) → declares next ≡ false → bold_by t next ≡ k.Bold t
bold_by-is t (k.Key key.Var) h = absurd cc
bold_by-is t (k.Key key.Const) h = absurd cc
bold_by-is t (k.Key key.Proc) h = absurd cc
bold_by-is t (k.Key key.Op) h = absurd cc
bold_by-is t _ h = refl

by_plain : (v : Kind) (ts : Tokens) → is_mark v ≡ false → declares (kind ts) ≡ false → by_next v ts ≡ v
by_plain (k.Sign sign.Point) ts m h = absurd cc
by_plain (k.Sign sign.Comma) ts m h = absurd cc
by_plain (k.Bold t) ts m h = bold_by-is t (kind ts) h
by_plain _ ts m h = refl

-- before anything but VAR, CONST, PROC and OP a bold word is seen as itself
pub ahead-plain : (t : Token) (ts : Tokens) → is_mark (kind_of t.what) ≡ false → declares (kind ts) ≡ false → ahead (t ∷ ts) ≡ kind_of t.what
unfolding ahead
ahead-plain t ts m h = by_plain (kind_of t.what) ts m h
