use Rattle.std.proofs.Common.{◌≡◌, ◌+◌, ℕ, List, subst, sym}
use Rattle.std.specs.Prelude.{Result, Ok, Err, OnOk}
use Rattle.elan_names.specs.declared.type_name.TypeName.{TypeName}
use Rattle.elan_walk.specs.declared.definition.Definition.{Definition}
use Rattle.type_names.specs.walks.Further.{Reads, with_read}
use Rattle.type_names.proofs.Order.{not_read, was_read}
use Rattle.type_names.proofs.resolve.read_next.Goals as goal

pub returns-in-None : goal.returns-in-None
returns-in-None c = λ n r. not_read c.args.around.first c.args.around.names.now c.args.definitions.now n c.args.names.now r

more_read : {X E : Type 0} (first : ℕ) (around : List TypeName) (ds : List Definition) (i : ℕ) (old new : List TypeName) (r : Result X E)
    → OnOk r (new ≡ with_read first around ds i old) → OnOk r ((n : ℕ) → Reads first around ds n old → Reads first around ds (n + 1) new)
more_read first around ds i old new (Ok x) h = λ n r. subst (λ (ts : List TypeName). Reads first around ds (n + 1) ts) (sym h) (was_read first around ds n i old r)
more_read first around ds i old new (Err e) h = tt

pub returns-in-Some : goal.returns-in-Some
returns-in-Some c =
    more_read c.args.around.first c.args.around.names.now c.args.definitions.now c.in-Some.number.now c.args.names.now c.read_one.new.names c.read_one.result c.read_one.ensures
