use Rattle.std.proofs.Common.{None, sym, ap, ◌∙◌}
use Rattle.std.specs.Prelude.{option_map}
use Rattle.type_names.proofs.Looked.{own_found, found_around}
use Rattle.type_names.proofs.visible.Visible.look.Goals as goal

pub returns-in-Some : goal.returns-in-Some
returns-in-Some c =
    own_found c.args.name.now c.args.self.own.now c.args.self.around.now c.in-Some.found.now
    (sym (ap (option_map (λ t. t.now)) c.in-Some.is) ∙ c.first.ensures)

pub returns-in-Some-first : goal.returns-in-Some-first
returns-in-Some-first c =
    found_around c.args.name.now c.args.self.own.now c.args.self.around.now _
    (sym (ap (option_map (λ t. t.now)) c.in-None.is) ∙ c.first.ensures)
    (sym (ap (option_map (λ t. t.now)) c.in-Some-first.is) ∙ c.first-in-None.ensures)

pub returns-in-None-first : goal.returns-in-None-first
returns-in-None-first c =
    found_around c.args.name.now c.args.self.own.now c.args.self.around.now None
    (sym (ap (option_map (λ t. t.now)) c.in-None.is) ∙ c.first.ensures)
    (sym (ap (option_map (λ t. t.now)) c.in-None-first.is) ∙ c.first-in-None.ensures)
