-- A reading of each text. That packets are compiled can't be tested, so it is found without, and is right where they are.
use Rattle.std.proofs.Common.{◌≡◌, ℕ, Bool, true, false, List, [], ◌∷◌, length, Result, Ok, Err, Some, None, refl, sym, ap, ◌∙◌}
use Rattle.std.specs.Prelude.{◌⊎◌, nat_lt, if◌then◌else◌}
use mathlib.Core.Logic.{inl, inr}
use Rattle.elan_tree.specs.declared.token.Token.{Token}
use Rattle.elan_tree.specs.declared.tree.Tree.{Tree}
use Rattle.elan_lexer.specs.declared.error.LexError.TheVariants as lex
use Rattle.elan_lexer.specs.Tokens.{tokens_of, most_tokens, limited}
use Rattle.packet_store.specs.Below.elan_grammar.specs.Rule.{Outcome}
use Rattle.packet_store.specs.Below.elan_grammar.specs.Reads as grammar
use Rattle.packet_store.specs.Below.elan_grammar.specs.Reads.{Reads}
use Rattle.packet_store.specs.Below.elan_grammar.specs.Place.{place_of}
use Rattle.packet_store.specs.Below.elan_grammar.proofs.GrammarLaws.{is_read, refused_run, some_left}
use Rattle.packet_store.specs.Below.elan_grammar.proofs.PlaceLaws.{some_place}
use Rattle.elan_types.specs.declared.core_phrase.Core.{Core}
use Rattle.elan_types.specs.declared.core_phrase.Action.{Action}
use Rattle.elan_types.specs.declared.core_phrase.Body.{Body}
use Rattle.packet_store.specs.Below.elan_meant.specs.declared.meant.Meant.{Meant}
use Rattle.packet_store.specs.Below.elan_meant.specs.declared.meant.Meant.TheVariants.{Level}
use Rattle.packet_store.specs.Below.elan_meant.specs.Parts.{actions_of}
use Rattle.elan_scope.specs.declared.env.Env.{Env}
use Rattle.elan_scope.specs.declared.known.Known.{Known}
use Rattle.elan_scope.specs.Ruled.{Fault, Ruled, gives, breaks, hangs}
use Rattle.elan_scope.specs.Phrase as form
use Rattle.elan_scope.specs.Phrase.{plain, Phrase, phrase, all_of}
use Rattle.packet_store.specs.Below.elan_rules.specs.Units.{bodies_of}
use Rattle.packet_store.specs.Below.elan_rules.specs.Rules.{ruled}
use Rattle.packet_store.specs.Below.elan_rules.specs.Meaning.{judged, judged_all}
use Rattle.packet_store.specs.Below.elan_rules.proofs.First.{bind_gives, gives_is}
use Rattle.packet_store.specs.Below.elan_judge.specs.Level.{text_parts}
use Rattle.packet_store.specs.Below.type_names.specs.Faults.{first_fault}
use Rattle.elan_check.specs.declared.error.CheckError.TheVariants as check
use Rattle.elan_check.specs.Packets.{AreCompiled}
use Rattle.elan_check.specs.Text.{Answers, bodies_known, judged_text, earliest, faults, core_of}
use Rattle.elan_check.proofs.Inserted.{is_sound}
use Rattle.elan_check.proofs.Spots.{never_hangs}
use Rattle.elan_check.proofs.Checked.{text_checked}
use Rattle.units.specs.declared.error.Refusal.TheVariants.{NoToken, TooMany, NotElan, NoMeaning}
use Rattle.units.specs.declared.unit.Source.TheVariants.{Text}
use Rattle.packet_store.specs.Meaning.{HasTokens, means, no_token, too_many, no_tree, no_meaning}
use Rattle.packet_store.specs.Units.{shown_by}
use Rattle.packet_store.proofs.ReadAs.{kind_read, shown_is}
use Rattle.units.specs.Reading.{Reading, Compiles, Refuses}
use Rattle.packet_store.specs.Readings.{ReadsSo, IsReading}

-- what is read of a text, and that it is so behind packets
abbrev Found : Env → Bool → List ℕ → Type 0
Found env packet text = (r : Reading) × (AreCompiled env → ReadsSo env packet text r)

-- a level that has a meaning means units and bodies
level_gives : (k : Known) (ps : List Phrase) (m : Meant) → judged k (phrase 0 (plain form.level) (all_of ps)) ≡ gives m
    → (us : List Action) × (bs : List Body) × (m ≡ Level us bs)
level_gives k ps m e =
    let q = bind_gives (judged_all k (all_of ps)) (ruled k 0 (plain form.level)) m e in
    (actions_of q.0, bodies_of q.0, sym (gives_is (Level (actions_of q.0) (bodies_of q.0)) m q.2))

-- ---- a tree

module _ (env : Env) (packet : Bool) (text : List ℕ) (ts : List Token) (t : Tree) (has : HasTokens text ts) (reads : Reads packet ts t) where
  meant : (core : Core) → Answers env t (Ok core) → Found env packet text
  meant core a = (
    Compiles (record { source = Text text; packets = env; core = core; shown = shown_by env t }),
    λ compiled.
        let c = text_checked env compiled t (Ok core) a in
        record {
          source_is = refl;
          packets_are = refl;
          kind_is = kind_read env packet ts t reads;
          means = means t has reads c.meaning;
          shows = shown_is env t core c.meaning;
          is_shown = (ts, t, has, reads, refl);
          typed = c.typed;
        },
  )

  faulty : (f : Fault) → earliest (first_fault (faults env t)) (judged_text env t) ≡ Some f → Found env packet text
  faulty f a = (Refuses (NoMeaning f.0 f.1), λ compiled. no_meaning t has reads (text_checked env compiled t (Err (check.NoMeaning f.0 f.1)) a).refused)

  -- where no type is faulty
  by_phrases : faults env t ≡ [] → (q : Ruled Meant) → judged_text env t ≡ q → Found env packet text
  by_phrases n (gives m) e =
      let d = level_gives (bodies_known env t) (text_parts env t) m e in
      meant (core_of env t d.0 d.1) (n, d.1, refl, e ∙ ap (λ (k : Meant). gives k) d.2)
  by_phrases n (breaks f) e = faulty f (ap (λ (fs : List Fault). earliest (first_fault fs) (judged_text env t)) n ∙ ap (earliest None) e)
  -- behind packets this never comes, so it does not matter what is answered
  by_phrases n hangs e = (
    Refuses TooMany,
    λ compiled.
        let s = is_sound env compiled in
        absurd (never_hangs env t s.closed s.means n e),
  )

  -- the first fault of a type, or of a phrase before it
  some_fault : (d : Fault) (q : Ruled Meant) → (f : Fault) × (earliest (Some d) q ≡ Some f)
  some_fault d (gives m) = (d, refl)
  some_fault d hangs = (d, refl)
  some_fault d (breaks g) = by_test (nat_lt g.0 d.0)
    where
      by_test : (b : Bool) → (f : Fault) × ((if b then Some g else Some d) ≡ Some f)
      by_test true = (g, refl)
      by_test false = (d, refl)

  by_faults : (fs : List Fault) → faults env t ≡ fs → Found env packet text
  by_faults [] n = by_phrases n (judged_text env t) refl
  by_faults (d ∷ fs) n =
      let f = some_fault d (judged_text env t) in
      faulty f.0 (ap (λ (gs : List Fault). earliest (first_fault gs) (judged_text env t)) n ∙ f.1)

-- ---- a text

-- tokens have a tree or none
has_tree : (packet : Bool) (ts : List Token) → ((t : Tree) × Reads packet ts t) ⊎ ((t : Tree) → Reads packet ts t → ⊥)
has_tree packet [] = inr (λ t r. r.0 refl)
has_tree packet (x ∷ ts) = by ((grammar.text packet).run (x ∷ ts)) refl
  where
    some : x ∷ ts ≡ [] → ⊥
    some e = cc

    by : (o : Outcome Tree) → (grammar.text packet).run (x ∷ ts) ≡ o → ((t : Tree) × Reads packet (x ∷ ts) t) ⊎ ((t : Tree) → Reads packet (x ∷ ts) t → ⊥)
    by (Ok (t, [])) e = inl (t, is_read packet (x ∷ ts) t some e)
    by (Ok (t, y ∷ rest)) e = inr (some_left packet (x ∷ ts) t (y ∷ rest) e (λ h. cc h))
    by (Err q) e = inr (refused_run packet (x ∷ ts) q e)

module _ (env : Env) (packet : Bool) (text : List ℕ) where
  by_tree : (ts : List Token) → HasTokens text ts → ((t : Tree) × Reads packet ts t) ⊎ ((t : Tree) → Reads packet ts t → ⊥) → Found env packet text
  by_tree ts has (inl r) = by_faults env packet text ts r.0 has r.1 (faults env r.0) refl
  by_tree ts has (inr none) =
      let p = some_place packet ts in
      (Refuses (NotElan (place_of ts p.0)), λ compiled. no_tree {n = p.0} has none p.1)

  counted : (ts : List Token) (b : Bool) → limited (tokens_of text) ≡ (if b then Err lex.TooMany else Ok ts) → Found env packet text
  counted ts true is = (Refuses TooMany, λ compiled. too_many is)
  counted ts false is = by_tree ts is (has_tree packet ts)

  by_tokens : (r : Result (List Token) ℕ) → tokens_of text ≡ r → Found env packet text
  by_tokens (Ok ts) e = counted ts (nat_lt most_tokens (length ts)) (ap limited e)
  by_tokens (Err place) e = (Refuses (NoToken place), λ compiled. no_token (ap limited e))

  found : Found env packet text
  found = by_tokens (tokens_of text) refl

pub a_reading : (read : Env → Bool → List ℕ → Reading) × IsReading read
a_reading = (λ env packet text. (found env packet text).0, λ env packet text. (found env packet text).1)
