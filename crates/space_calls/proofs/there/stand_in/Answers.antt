use Rattle.std.proofs.Common.{sym, ap, ◌∙◌, drop}
use Rattle.std.specs.Option.{option_copied}
use Rattle.eu_base.specs.SpacePlaces.{shaped_kinds, begin_with}
use Rattle.space_calls.proofs.Found.{none_begin}
use Rattle.space_calls.proofs.there.stand_in.Goals as goal

pub returns-in-None : goal.returns-in-None
returns-in-None c =
    c.is_empty.ensures
    ∙ (sym (none_begin c.args.kinds.now c.args.from)
    ∙ ap (λ o. begin_with c.args.kinds.now (drop c.args.from (shaped_kinds (option_copied o)))) (sym c.in-None.is))
