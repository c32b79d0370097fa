-- What bodies deliver, and what is known of them beside their headings.
use Rattle.std.specs.Prelude.{ℕ, Bool, false, length, Option, slice_index_or}
use Rattle.std.specs.Option.{option_map_or}
use Rattle.call_graph.specs.Chains.{leads}
use Rattle.elan_scope.specs.declared.delivery.Delivery.{Delivery}
use Rattle.elan_types.specs.declared.elan_type.ElanType.{ElanType}
use Rattle.elan_scope.specs.declared.delivery.Delivery.TheVariants.{Open, Nothing, Of}
use Rattle.elan_scope.specs.declared.known.Known.{Known}

-- what a PROC or OP delivers
abbrev pub delivered : Option ElanType → Delivery
delivered result = option_map_or Of result Nothing

abbrev pub delivery_at : Known → ℕ → Delivery
delivery_at k n = slice_index_or k.deliveries n Open

-- A call of a refinement leads back to the one in which it stands.
abbrev pub leads_back : Known → ℕ → Option ℕ → Bool
leads_back k n refinement = option_map_or (leads (length k.calls) k.calls n) refinement false
