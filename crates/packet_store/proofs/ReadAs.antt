-- What is read as a packet is a packet, and what is read as a program a program.
use Rattle.std.proofs.Common.{◌≡◌, Bool, true, false, List, refl, ap}
use Rattle.std.specs.Prelude.{is_some}
use Rattle.elan_tree.specs.declared.token.Token.{Token}
use Rattle.elan_tree.specs.declared.tree.Tree.{Tree}
use Rattle.elan_tree.specs.declared.tree.Tree.TheVariants as tree
use Rattle.packet_store.specs.Below.elan_grammar.specs.Reads.{Reads}
use Rattle.packet_store.specs.Below.elan_grammar.specs.Grammar.{program, packet}
use Rattle.elan_types.specs.declared.core_phrase.Core.{Core}
use Rattle.elan_scope.specs.declared.env.Env.{Env}
use Rattle.elan_check.specs.Text.{Means}
use Rattle.packet_store.specs.Units.{shown_by, Shows}

pub kind_read : (env : Env) (is_packet : Bool) (ts : List Token) (t : Tree) → Reads is_packet ts t → is_some (shown_by env t) ≡ is_packet
unfolding program packet
kind_read env true ts t r =
    -- PACKET, its name, what it shows, the colon, its level, END PACKET, the name again, and a mark
    let e = r.1.3.3.3.3.3.3.3.3.0 in
    ap (λ (u : Tree). is_some (shown_by env u)) e
kind_read env false ts t r = ap (λ (u : Tree). is_some (shown_by env u)) r.1.3.0

pub shown_is : (env : Env) (t : Tree) (core : Core) → Means env t core → Shows env core (shown_by env t)
shown_is env (tree.Program l) core m = tt
shown_is env (tree.Packet at name exports l) core m = record {
  at = at;
  name = name;
  exports = exports;
  level = l;
  means = m;
  shows = refl;
}
