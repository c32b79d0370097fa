use Rattle.std.proofs.Common.{Err, ℕ, List, refl, ap, sym, subst, ◌∙◌}
use Rattle.std.specs.Prelude.{is_some}
use Rattle.elan_scope.specs.declared.env.Env.{Env}
use Rattle.elan_check.specs.Text as tree
use Rattle.packet_store.specs.Meaning.{means, of_check}
use Rattle.units.specs.declared.unit.Source.TheVariants.{Text}
use Rattle.packet_store.specs.Units.{Shows, shown_by}
use Rattle.packet_store.proofs.Refusing.{handed_on, check_refuses}
use Rattle.packet_store.proofs.ReadAs.{kind_read, shown_is}
use Rattle.packet_store.proofs.compile.compiled.Goals as goal

pub returns-in_err-core-clause-refused : goal.returns-in_err-core-clause-refused
returns-in_err-core-clause-refused c = λ packet ts has reads.
    let env = c.args.packets in
    let t = c.args.tree.now in
    handed_on env packet c.args.text.now (of_check c.in_err-core.field-0.0) c.from_residual-in_err-core.result c.from_residual-in_err-core.ensures
    (check_refuses env packet c.args.text.now ts t c.in_err-core.field-0.0 has reads
    (subst (λ (e : Env). tree.IsRefusal (tree.Refused e t) (Err c.in_err-core.field-0.0)) c.get-2.ensures c.in_err-core.ensures.refused))

pub returns-clause-unit : goal.returns-clause-unit
returns-clause-unit c = λ packet ts has reads.
    let env = c.args.packets in
    let t = c.args.tree.now in
    let core = c.in_ok-core.core in
    let shown = c.in_ok-shown.ensures ∙ ap (λ (e : Env). shown_by e t) c.get.ensures in
    let meant = subst (λ (e : Env). tree.Means e t core) c.get-2.ensures c.in_ok-core.ensures.meaning in
    record {
      source_is = ap (λ (t : List ℕ). Text t) c.in_ok-kept.ensures;
      packets_are = refl;
      kind_is = ap is_some shown ∙ kind_read env packet ts t reads;
      means = means t has reads meant;
      shows = subst (Shows env core) (sym shown) (shown_is env t core meant);
      is_shown = (ts, t, has, reads, shown);
      typed = c.in_ok-core.ensures.typed;
    }
