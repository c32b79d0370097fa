-- What holds of whole texts.
use Rattle.std.proofs.Common.{◌≡◌, ◌≢◌, ℕ, ◌≤◌, Bool, true, false, [], ◌∷◌, length, Ok, Err, refl, sym, ap, ◌∙◌, arith}
use Rattle.std.specs.Prelude.{◌||◌}
use Rattle.std.proofs.lemmas.List.{length-append}
use Rattle.elan_tree.specs.declared.token.Token.{Token}
use Rattle.elan_tree.specs.declared.token.Key.TheVariants as key
use Rattle.elan_tree.specs.declared.token.Sign.TheVariants as sign
use Rattle.elan_tree.specs.declared.tree.Tree.{Tree}
use Rattle.elan_grammar.specs.declared.error.ParseError.{ParseError}
use Rattle.elan_grammar.specs.declared.error.ParseError.TheVariants.{NoMemory, NotElan}
use Rattle.elan_grammar.specs.Kinds.{ahead, is_key, is_sign}
use Rattle.elan_grammar.specs.Rule.{Tokens, Outcome}
use Rattle.elan_grammar.specs.Grammar as g
use Rattle.elan_grammar.specs.Reads.{text, Reads}
use Rattle.elan_grammar.specs.Stops.{left, left_by}
use Rattle.elan_grammar.proofs.Sets.{is_ident, is_comma, is_point}
use Rattle.elan_grammar.proofs.Laws.{Set, Full, keeps, done, failed, left_is, same_value, pure_law}
use Rattle.elan_grammar.proofs.Sequences.{bind_law, choose_law}
use Rattle.elan_grammar.proofs.Every.{within, apart}
use Rattle.elan_grammar.proofs.Seen.{is_colon}
use Rattle.elan_grammar.proofs.Tokens.{keyword_law, end_law, mark_law, comma_law, ident_law, export_law, is_export, misses_key, misses_mark, misses_comma}
use Rattle.elan_grammar.proofs.Forms.{bind_same, listed_law}
use Rattle.elan_grammar.proofs.LevelLaws.{a_level_law, begins_level, end_name_law, ends_text, is_nothing, last_point_law}

-- ---- texts

program_law : Full (g.program 400 399) begins_level is_nothing
unfolding g.program
program_law =
    bind_law _ _ _ _ is_nothing is_nothing a_level_law (λ l.
    pure_law _ is_nothing) (within is_nothing ends_text refl)

abbrev after_exports : Set
after_exports x = is_comma x || is_colon x

export_list_law : Full g.export_list is_export is_colon
unfolding g.export_list
export_list_law = listed_law _ _ is_comma is_export after_exports is_colon (comma_law is_export) (export_law after_exports)
    (within is_comma after_exports refl) (within is_colon after_exports refl) (misses_comma is_colon (apart is_colon is_comma refl))

abbrev after_packet_name : Set
after_packet_name x = is_key key.Defines x || is_colon x

exports_law : Full g.exports after_packet_name is_colon
unfolding g.exports
exports_law =
    choose_law _ _ (is_key key.Defines) is_colon after_packet_name is_colon
    (bind_same _ _ _ _ _ (keyword_law key.Defines is_export) (λ _. export_list_law)).laws (pure_law _ is_colon)
    (misses_key key.Defines is_colon (apart is_colon (is_key key.Defines) refl)) (within (is_key key.Defines) after_packet_name refl)
    (within is_colon after_packet_name refl)

abbrev after_point : Set
after_point x = is_sign sign.Point x || is_nothing x

abbrev last_marks : Set
last_marks x = is_sign sign.Semicolon x || after_point x

last_mark_law : Full g.last_mark last_marks is_nothing
unfolding g.last_mark
last_mark_law =
    choose_law _ _ (is_sign sign.Semicolon) after_point last_marks is_nothing
    (bind_same _ _ _ _ _ (mark_law sign.Semicolon is_nothing refl) (λ at. pure_law _ is_nothing)).laws
    (last_point_law is_nothing (apart is_nothing is_ident refl) (apart is_nothing is_point refl) after_point
    (within (is_sign sign.Point) after_point refl) (within is_nothing after_point refl))
    (misses_mark sign.Semicolon after_point refl (apart after_point (is_sign sign.Semicolon) refl)) (within (is_sign sign.Semicolon) last_marks refl)
    (within after_point last_marks refl)

abbrev after_end_packet : Set
after_end_packet x = is_ident x || last_marks x

packet_law : Full (g.packet 400 399) (is_key key.Packet) is_nothing
unfolding g.packet
packet_law =
    bind_same _ _ _ _ _ (keyword_law key.Packet is_ident) (λ at.
    bind_same _ _ _ _ _ (ident_law after_packet_name) (λ x.
    bind_same _ _ _ _ _ exports_law (λ es.
    bind_same _ _ _ _ _ (mark_law sign.Colon begins_level refl) (λ _.
    bind_law _ _ _ _ (is_key key.End) is_nothing a_level_law (λ l.
    bind_same _ _ _ _ _ (end_law key.Packet after_end_packet) (λ _.
    bind_same _ _ _ _ _ (end_name_law x last_marks after_end_packet (apart last_marks is_ident refl) (within is_ident after_end_packet refl)
    (within last_marks after_end_packet refl)) (λ _.
    bind_same _ _ _ _ _ last_mark_law (λ _.
    pure_law _ is_nothing)))) (within (is_key key.End) ends_text refl)))))

-- what a text begins with
abbrev first_of_text : Bool → Set
first_of_text true = is_key key.Packet
first_of_text false = begins_level

pub text_law : (p : Bool) → Full (text p) (first_of_text p) is_nothing
text_law true = packet_law
text_law false = program_law

-- ---- A list of tokens has a tree exactly where the parser finds it and nothing is left.

pub reads_is : (p : Bool) (tokens : Tokens) (t : Tree) → Reads p tokens t → (text p).run tokens ≡ Ok (t, [])
unfolding ahead
reads_is p tokens t h = (text_law p).laws.whole tokens [] t h.1 refl

pub is_read : (p : Bool) (tokens : Tokens) (t : Tree) → tokens ≢ [] → (text p).run tokens ≡ Ok (t, []) → Reads p tokens t
is_read p tokens t some e = (some, (text_law p).laws.sound tokens [] t e)

pub one_tree : (p : Bool) (tokens : Tokens) (t u : Tree) → Reads p tokens t → Reads p tokens u → t ≡ u
one_tree p tokens t u h i = sym (same_value t u [] [] (sym (reads_is p tokens t h) ∙ reads_is p tokens u i)).0

pub not_empty : (x : Token) (rest : Tokens) → x ∷ rest ≡ [] → ⊥
not_empty x rest h = cc

more_left : (t u : Tree) (x : Token) (rest : Tokens) → done t (x ∷ rest) ≡ done u [] → ⊥
more_left t u x rest h = not_empty x rest (same_value t u (x ∷ rest) [] h).1

pub refused_run : (p : Bool) (tokens : Tokens) (e : ParseError) → (text p).run tokens ≡ Err e → (t : Tree) → Reads p tokens t → ⊥
refused_run p tokens e h t r = let q = reads_is p tokens t r in cc

pub some_left : (p : Bool) (tokens : Tokens) (t : Tree) (rest : Tokens) → (text p).run tokens ≡ Ok (t, rest) → (rest ≡ [] → ⊥) → (u : Tree) → Reads p tokens u
    → ⊥
some_left p tokens t [] h some u r = some refl
some_left p tokens t (x ∷ rest) h some u r = more_left t u x rest (sym h ∙ reads_is p tokens u r)

-- ---- the place of a refusal

same_number : (n m : ℕ) → NotElan n ≡ NotElan m → n ≡ m
same_number n m e = cc

left_by_most : (p : Bool) (tokens : Tokens) (o : Outcome Tree) → (text p).run tokens ≡ o → left_by o ≤ length tokens
left_by_most p tokens (Ok q) h = keeps (text p) (first_of_text p) is_nothing (text_law p).laws tokens q.1 q.0 ((text_law p).laws.sound tokens q.1 q.0 h)
left_by_most p tokens (Err (NotElan n)) h =
    let s = (text_law p).laws.stuck tokens (NotElan n) h in
    let e : n ≡ length s.rest = same_number n (length s.rest) s.place in
    omega (arith, e, ap length s.whole, length-append s.front s.rest)
left_by_most p tokens (Err NoMemory) h = omega arith

pub left_most : (p : Bool) (tokens : Tokens) → left p tokens ≤ length tokens
left_most p tokens = left_by_most p tokens ((text p).run tokens) refl

pub left_empty : (p : Bool) (tokens : Tokens) → tokens ≡ [] → 0 ≡ left p tokens
left_empty p tokens h = omega (arith, left_most p tokens, ap length h)

pub left_err : (p : Bool) (tokens : Tokens) (n : ℕ) → (text p).run tokens ≡ Err (NotElan n) → n ≡ left p tokens
left_err p tokens n h = rw h refl

pub left_ok : (p : Bool) (tokens : Tokens) (t : Tree) (rest : Tokens) → (text p).run tokens ≡ Ok (t, rest) → length rest ≡ left p tokens
left_ok p tokens t rest h = rw h refl

pub no_tokens : (p : Bool) (tokens : Tokens) (n : ℕ) → tokens ≡ [] → failed {X = Tree} (NotElan 0) ≡ failed {X = Tree} (NotElan n) → n ≡ left p tokens
no_tokens p tokens n h e = sym (same_number 0 n (left_is (NotElan 0) (NotElan n) e)) ∙ left_empty p tokens h

-- what a parser of all tokens says
pub ruleset of_whole_texts = (is_read, refused_run, left_empty, left_err, left_ok)
