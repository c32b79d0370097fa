-- The core of a text, from what its phrases mean.
use Rattle.std.proofs.Common.{◌≡◌, List, ◌++◌, None, sym, ap, ◌∙◌}
use Rattle.eu_base.specs.declared.value.Kind.{Kind}
use Rattle.cell_kinds.specs.declared.packet.Packet.{Packet}
use Rattle.elan_types.specs.declared.core_phrase.Body.{Body}
use Rattle.elan_types.specs.declared.core_phrase.Core.{Core}
use Rattle.elan_tree.specs.declared.tree.Tree.{Tree}
use Rattle.elan_scope.specs.declared.env.Env.{Env}
use Rattle.elan_check.specs.Text.{inserted, declared, core_of}

pub core_made : (env : Env) (t : Tree) (c : Core) (own : List Body) → c.packets ≡ env.packets → c.inserted ≡ inserted env t → c.variables ≡ declared env t
    → c.bodies ≡ env.bodies ++ own → c.start ≡ None → core_of env t c.units own ≡ c
core_made env t c own p i v b s =
    let whole : List Packet → List Kind → List Kind → List Body → Core =
    λ ps ks js bs. record { packets = ps; inserted = ks; variables = js; bodies = bs; units = c.units; start = None } in
    ap (λ ps. whole ps (inserted env t) (declared env t) (env.bodies ++ own)) (sym p)
    ∙ ap (λ ks. whole c.packets ks (declared env t) (env.bodies ++ own)) (sym i)
    ∙ ap (λ js. whole c.packets c.inserted js (env.bodies ++ own)) (sym v) ∙ ap (λ bs. whole c.packets c.inserted c.variables bs) (sym b)
    ∙ ap (λ o. record c { start = o }) (sym s)
