-- The data spaces that are forgotten, one after another.
use Rattle.std.specs.Prelude.{ℕ, Bool, true, false, List, ◌++◌, take, drop, Option, Some, None, slice_get}
use Rattle.std.specs.List.{filter}
use Rattle.eu_base.specs.declared.value.Kind.{Kind}
use Rattle.eu_base.specs.DataSpaces.{Space, without_space}
use Rattle.cell_kinds.specs.declared.packet.Packet.{Packet}
use Rattle.cell_kinds.specs.Kinds.{packet_kinds}
use Rattle.task_tidy.specs.Below.system_meaning.specs.Stores.{Store, is_used}

-- the kinds of the variables of packets, and of those that stand behind them
abbrev pub kinds_with : List Packet → List Kind → List Kind
kinds_with packets behind = packet_kinds packets ++ behind

-- one is forgotten, where it is not used
abbrev pub gone_unless : Bool → ℕ → Store → Store
gone_unless true n store = store
gone_unless false n store = record store { spaces = without_space (record { 0 = n }) store.spaces }

abbrev pub tidied_by : Option (ℕ × Space) → Store → Store
tidied_by None store = store
tidied_by (Some e) store = gone_unless (is_used e.0 store) e.0 store

-- the one at this place among those that live
abbrev pub tidied_at : ℕ → Store → Store
tidied_at k store = tidied_by (slice_get store.spaces.live k) store

-- those from this place on
abbrev pub tidied_from : ℕ → Store → Store
tidied_from k store = record store {
  spaces = record store.spaces { live = take k store.spaces.live ++ filter (λ e. is_used e.0 store) (drop k store.spaces.live) };
}
