use Rattle.std.proofs.Common.{drop, ap, ◌∙◌}
use Rattle.session_lines.specs.Reading.{Reading}
use Rattle.session_lines.proofs.Answering.{reading}
use Rattle.session_lines.proofs.Buffer.{filled_less}
use Rattle.session_lines.proofs.reader.LineReader.skip.Goals as goal

pub returns : goal.returns
returns c =
    let r = c.self.inside in
    ap (λ l. reading l r.ended)
    (filled_less r.bytes c.copy_within.new.self r.filled c.args.count c.min-count.result c.self.invariant c.min-count.ensures c.copy_within.ensures.after)
    ∙ ap (λ (now : Reading). reading (drop c.args.count now.ahead) now.ended) c.self.view_is
