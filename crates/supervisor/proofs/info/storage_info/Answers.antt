use Rattle.std.specs.Prelude.{ℕ, ◌++◌, codes, length, map, sum}
use Rattle.std.specs.Fmt.{decimal}
use Rattle.std.proofs.Common.{ap, ◌∙◌}
use Rattle.supervisor.specs.Below.system_meaning.specs.Supervisor.{spaces_of}
use Rattle.supervisor.proofs.Telling.{joined}
use Rattle.supervisor.proofs.info.storage_info.Goals as goal

pub returns : goal.returns
returns c = λ m stands.
    joined (codes "Tasks ") (decimal (length m.system.shared.tree.tasks)) (codes " Datenraeume ") (decimal (sum (map spaces_of m.system.owns)))
    (codes " Pakete ") (decimal (length m.system.shared.library.live)) c.in_ok-text.text c.append_decimal.new.line c.append.new.self
    c.append_decimal-2.new.line c.append-2.new.self c.append_decimal-3.new.line
    c.in_ok-text.ensures
    (c.in_ok-append_decimal.ensures ∙ ap (λ (n : ℕ). c.in_ok-text.text ++ decimal n) (c.tasks.ensures m stands))
    c.in_ok-append.ensures.ok
    (c.in_ok-append_decimal-2.ensures ∙ ap (λ (n : ℕ). c.append.new.self ++ decimal n) (c.spaces.ensures m stands))
    c.in_ok-append-2.ensures.ok
    (c.in_ok-append_decimal-3.ensures ∙ ap (λ (n : ℕ). c.append-2.new.self ++ decimal n) (c.packets.ensures m stands))
