-- A unit is sound: well typed; one that shows nothing inserts nothing; and its packets are those behind which it stands.
use Rattle.std.proofs.Common.{◌≡◌, ℕ, Bool, true, false, List, [], Option, Some, None, if◌then◌else◌, refl, sym, ap, ◌∙◌, subst}
use Rattle.std.specs.Prelude.{option_map, slice_get}
use Rattle.std.proofs.lemmas.Option.{none-some, same_Some}
use Rattle.elan_tree.specs.declared.token.Token.{Token}
use Rattle.elan_tree.specs.declared.tree.Tree.{Tree}
use Rattle.elan_tree.specs.declared.tree.Tree.TheVariants as trees
use Rattle.packet_store.specs.Below.elan_grammar.specs.Reads.{Reads}
use Rattle.packet_store.specs.Below.elan_grammar.proofs.GrammarLaws.{one_tree}
use Rattle.packet_store.specs.Below.elan_names.specs.declared.interface.Interface.{Interface}
use Rattle.elan_types.specs.declared.core_phrase.Core.{Core}
use Rattle.elan_types.specs.Typing.{IsWellTyped}
use Rattle.elan_scope.specs.declared.env.Env.{Env}
use Rattle.elan_check.specs.Packets.{AreCompiled}
use Rattle.elan_check.specs.Text as text
use Rattle.elan_check.proofs.Starting.{start_typed}
use Rattle.units.specs.declared.unit.Compiled.{Compiled}
use Rattle.units.specs.Sound.{IsSoundUnit}
use Rattle.units.specs.Starts.{is_start, start_core, start_unit, start_unit_of}
use Rattle.packet_store.specs.Meaning.{Means, means}
use Rattle.packet_store.specs.Units.{IsUnit, of_text, of_start, IsShown, shown_by}

none_shown : (env : Env) (t : Tree) → shown_by env t ≡ None → text.inserted env t ≡ []
none_shown env (trees.Program l) e = refl
none_shown env (trees.Packet at name exports l) e = absurd (none-some _ (sym e))

text_inserts_none : (env : Env) (packet : Bool) (bytes : List ℕ) (core : Core) (shown : Option Interface) → Means env packet bytes core
    → IsShown env packet bytes shown → shown ≡ None → core.inserted ≡ []
text_inserts_none env packet bytes core shown (means {ts} t has reads meant) is none =
    let same : ts ≡ is.0 = cc (has, is.2) in
    let tree : t ≡ is.1 = one_tree packet ts t is.1 reads (subst (λ (us : List Token). Reads packet us is.1) (sym same) is.3) in
    meant.inserted ∙ none_shown env t (ap (shown_by env) tree ∙ sym is.4 ∙ none)

core_packets : (env : Env) (packet : Bool) (bytes : List ℕ) (core : Core) → Means env packet bytes core → core.packets ≡ env.packets
core_packets env packet bytes core (means t has reads meant) = meant.packets

-- the unit of a start procedure is that of its core
start_sound : (env : Env) (packet number n : ℕ) (u : Compiled) → AreCompiled env → u.packets ≡ env → start_unit env packet number n ≡ Some u → IsSoundUnit u
start_sound env packet number n u compiled behind is = by (is_start (slice_get env.bodies n)) refl is
  where
    by : (b : Bool) → is_start (slice_get env.bodies n) ≡ b
        → option_map (start_unit_of env packet number) (if b then Some (start_core env n) else None) ≡ Some u → IsSoundUnit u
    by true starts e =
        let same : start_unit_of env packet number (start_core env n) ≡ u = same_Some _ u e in
        record {
          typed = subst (λ (v : Compiled). IsWellTyped v.core) same (start_typed env n compiled starts);
          inserts = λ none. ap (λ (v : Compiled). v.core.inserted) (sym same);
          packets = ap (λ (v : Compiled). v.core.packets) (sym same) ∙ sym (ap (λ (e : Env). e.packets) behind);
        }
    by false starts e = absurd (none-some u e)

pub sound : (u : Compiled) → IsUnit u → IsSoundUnit u
sound u (of_text packet bytes compiled is) = record {
  typed = is.typed;
  inserts = λ none. text_inserts_none u.packets packet bytes u.core u.shown is.means is.is_shown none;
  packets = core_packets u.packets packet bytes u.core is.means;
}
sound u (of_start packet number n compiled is) = start_sound u.packets packet number n u compiled refl is
