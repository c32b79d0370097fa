use Rattle.std.proofs.Common.{◌≡◌, ℕ, List, Some, subst}
use Rattle.std.specs.Prelude.{slice_get, OnOk}
use Rattle.std.proofs.lemmas.Result.{on_ok_weaker}
use Rattle.eu_base.specs.declared.value.Kind.{Kind}
use Rattle.cell_kinds.specs.Kinds.{packet_kinds}
use Rattle.live_packets.specs.Below.units.specs.declared.unit.Compiled.{Compiled}
use Rattle.live_packets.specs.Below.system_meaning.specs.Stores.{Store}
use Rattle.live_packets.specs.Below.system_meaning.specs.Tasks.{Own, Idle, Running, starting, with_doing}
use Rattle.live_packets.specs.Below.system_meaning.specs.Systems.{with_own}
use Rattle.live_tasks.specs.Tasks.{Stand}
use Rattle.live_packets.proofs.changes.start_unit.Goals as goal

pub returns : goal.returns
returns c =
    subst
    (λ (u : Compiled). OnOk c.start.result ((kinds_of : List ℕ → List Kind) → (owns : List Own) → (own : Own) → (store : Store) → Stand kinds_of c.args.tasks.now owns
    → slice_get owns c.args.place ≡ Some own → own.doing ≡ Idle store → packet_kinds u.core.packets ≡ kinds_of own.packets
    → Stand kinds_of c.start.new.self (with_own c.args.place (with_doing (Running (starting u store))) owns)))
    c.parts-unit.ensures.compiled
    (on_ok_weaker c.start.result (λ starts kinds_of owns own store. starts kinds_of owns own store c.parts-unit.ensures.code) c.start.ensures)
