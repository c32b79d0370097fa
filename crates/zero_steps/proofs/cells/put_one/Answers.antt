use Rattle.std.proofs.Common.{ap, ◌∙◌}
use Rattle.eu_base.specs.declared.value.Value.TheVariants as item
use Rattle.zero_steps.specs.Reading.{shown}
use Rattle.zero_steps.proofs.Storing.{text_shown}
use Rattle.zero_steps.proofs.cells.put_one.Goals as goal

pub returns-in_ok-_set-in-Text-clause-put : goal.returns-in_ok-_set-in-Text-clause-put
returns-in_ok-_set-in-Text-clause-put g c =
    text_shown (g.M.Memory.holds c.args.m.now) (g.M.Memory.holds c.set_text.new.self) c.args.at c.in-Text.new c.shown.result.now c.args.value.now c.args.text
    c.in_ok-_set-in-Text._set c.in-Text.is (c.shown.ensures ∙ ap (λ t. shown c.args.text (item.Text t)) c.as_slice.ensures)
    c.in_ok-_set-in-Text.ensures.puts
