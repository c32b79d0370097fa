-- A text has one meaning or one refusal.
use Rattle.std.proofs.Common.{◌≡◌, ℕ, Bool, List, refl, ap}
use Rattle.elan_tree.specs.declared.token.Token.{Token}
use Rattle.elan_tree.specs.declared.tree.Tree.{Tree}
use Rattle.packet_store.specs.Below.elan_grammar.specs.Reads.{Reads}
use Rattle.packet_store.specs.Below.elan_grammar.proofs.PlaceLaws.{one_place}
use Rattle.elan_scope.specs.declared.env.Env.{Env}
use Rattle.elan_types.specs.declared.core_phrase.Core.{Core}
use Rattle.elan_types.specs.declared.why.Why.{Why}
use Rattle.elan_check.specs.Text as tree
use Rattle.elan_scope.specs.Ruled.{Fault}
use Rattle.units.specs.declared.error.Refusal.{Refusal}
use Rattle.units.specs.declared.error.Refusal.TheVariants.{NoMeaning}
use Rattle.packet_store.specs.Meaning.{HasTokens, Means, means, IsRefused, no_token, too_many, no_tree, no_meaning}

same_fault : (p q : ℕ) (w v : Why) → ◌≡◌ {A = Fault} (p, w) (q, v) → NoMeaning p w ≡ NoMeaning q v
same_fault p q w v e = ap (λ (f : Fault). NoMeaning f.0 f.1) e

-- the laws of the parts
pub record Laws : Type 0 where
  pub one_tree : (packet : Bool) (tokens : List Token) (t u : Tree) → Reads packet tokens t → Reads packet tokens u → t ≡ u
  pub one_core : (env : Env) (t : Tree) (c d : Core) → tree.Means env t c → tree.Means env t d → c ≡ d
  pub one_refusal : (env : Env) (t : Tree) (f g : Fault) → tree.Refused env t f → tree.Refused env t g → f ≡ g
  pub meant_is_not_refused : (env : Env) (t : Tree) (c : Core) (f : Fault) → tree.Means env t c → tree.Refused env t f → ⊥

module _ (laws : Laws) (env : Env) (packet : Bool) (text : List ℕ) where
  the_tokens : {ts us : List Token} → HasTokens text ts → HasTokens text us → ts ≡ us
  the_tokens a b = cc (a, b)

  pub the_tree : {ts us : List Token} {t u : Tree} → HasTokens text ts → Reads packet ts t → HasTokens text us → Reads packet us u → t ≡ u
  the_tree {ts = ts} {t = t} {u = u} a r b s = laws.one_tree packet ts t u r (rw (the_tokens a b) s)

  -- a text has one meaning
  pub one_meaning : {c d : Core} → Means env packet text c → Means env packet text d → c ≡ d
  one_meaning {c} {d} (means t a r m) (means u b s n) = laws.one_core env t c d m (rw (the_tree a r b s) n)

  -- one that has a meaning is not refused
  pub not_both : {c : Core} {r : Refusal} → Means env packet text c → IsRefused env packet text r → ⊥
  not_both (means t a r m) (no_token e) = cc (a, e)
  not_both (means t a r m) (too_many e) = cc (a, e)
  not_both (means t a r m) (no_tree b none _) = none t (rw (the_tokens b a) r)
  not_both {c} (means t a r m) (no_meaning {place = place} {why = why} u b s f) = laws.meant_is_not_refused env t c (place, why) m (rw (the_tree a r b s) f)

  -- and it is refused so or so
  pub one_refusal : {q r : Refusal} → IsRefused env packet text q → IsRefused env packet text r → q ≡ r
  one_refusal (no_token e) (no_token f) = cc (e, f)
  one_refusal (no_token e) (too_many f) = absurd (cc (e, f))
  one_refusal (no_token e) (no_tree f n _) = absurd (cc (e, f))
  one_refusal (no_token e) (no_meaning u f r n) = absurd (cc (e, f))
  one_refusal (too_many e) (no_token f) = absurd (cc (e, f))
  one_refusal (too_many e) (too_many f) = refl
  one_refusal (too_many e) (no_tree f n _) = absurd (cc (e, f))
  one_refusal (too_many e) (no_meaning u f r n) = absurd (cc (e, f))
  one_refusal (no_tree e n _) (no_token f) = absurd (cc (e, f))
  one_refusal (no_tree e n _) (too_many f) = absurd (cc (e, f))
  one_refusal (no_tree {ts = ts} {n = p} e n is) (no_tree {ts = us} {n = q} f m also) =
      let same : ts ≡ us = the_tokens e f in
      let number : p ≡ q = one_place packet us p q (rw same at is) also in
      rw (same, number) refl
  one_refusal (no_tree e n _) (no_meaning u f r m) = absurd (n u (rw (the_tokens e f) r))
  one_refusal (no_meaning t e s n) (no_token f) = absurd (cc (e, f))
  one_refusal (no_meaning t e s n) (too_many f) = absurd (cc (e, f))
  one_refusal (no_meaning t e s n) (no_tree f m _) = absurd (m t (rw (the_tokens f e) s))
  one_refusal (no_meaning {place = p} {why = w} t e s n) (no_meaning {place = q} {why = v} u f r m) =
      same_fault p q w v (laws.one_refusal env t (p, w) (q, v) n (rw (the_tree e s f r) m))
