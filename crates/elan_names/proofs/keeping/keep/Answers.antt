use Rattle.std.proofs.Common.{◌≡◌, List, ℕ, Some, None, false, if◌then◌else◌, sym, subst, ◌∙◌}
use Rattle.std.specs.Prelude.{is_some}
use Rattle.std.specs.Str.{bytes_eq}
use Rattle.elan_names.specs.walks.Firsts.{earlier, kept}
use Rattle.elan_names.proofs.Kept.{is_kept}
use Rattle.elan_names.proofs.keeping.keep.Goals as goal

pub returns : goal.returns
returns c = λ x.
    let old = c.args.firsts.now in
    let new = c.insert.new.self in
    let key = c.in_ok-name.name.items in
    let none : is_some (kept old key) ≡ false =
    subst (λ (n : List ℕ). is_some (kept old n) ≡ false) (sym c.in_ok-name.ensures.items) (sym c.contains_key.ensures ∙ c.if-contains_key.false) in
    subst (λ (n : List ℕ). kept new x ≡ earlier (kept old x) (if bytes_eq n x then Some c.args.place else None))
    c.in_ok-name.ensures.items
    (is_kept old new key c.args.place none c.in_ok-insert.ensures.updates x)
