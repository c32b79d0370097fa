use Rattle.std.proofs.Common.{◌≡◌, ◌-◌, ◌++◌, length, take, sym, ap, ◌∙◌, arith}
use Rattle.std.proofs.lemmas.Bool.{eqb-true}
use Rattle.std.proofs.lemmas.List.{length-take-le}
use borrow.Rule.Slice.PartMut.{take_put, mid_len}
use Rattle.session_lines.proofs.Answering.{reading, open_parts, takes_none, takes_piece}
use Rattle.session_lines.proofs.Buffer.{filled_more}
use Rattle.session_lines.proofs.reader.LineReader.refill.Goals as goal

pub returns-in_err-count-clause-takes : goal.returns-in_err-count-clause-takes
returns-in_err-count-clause-takes g c =
    let r = c.self.inside in
    takes_none _ _ c.args.self.now _ (open_parts c.args.self.now c.requires).ended
    (sym (ap (λ l. reading l r.ended) (take_put r.filled (512 - r.filled) r.bytes c.take.new.into c.self.invariant) ∙ c.self.view_is)) c.in_err-count.ensures.bytes

pub returns-clause-takes : goal.returns-clause-takes
returns-clause-takes g c =
    let r = c.self.inside in
    let count = c.in_ok-count.count in
    let parts = open_parts c.args.self.now c.requires in
    let held : length c.args.self.now.ahead ≡ r.filled = ap (λ r. length r.ahead) (sym c.self.view_is) ∙ length-take-le r.filled r.bytes c.self.invariant in
    let piece : length c.take.new.into ≡ 512 - r.filled = c.take.auto.into ∙ mid_len r.filled 512 r.bytes (omega (arith, c.self.told)) in
    takes_piece _ _ c.args.self.now _ c.take.new.into count parts.ended
    (filled_more r.bytes c.take.new.into r.filled (512 - r.filled) count c.self.invariant c.in_ok-count.ensures.bound.0
    ∙ ap (λ r. r.ahead ++ take count c.take.new.into) c.self.view_is)
    (eqb-true count 0) (omega (arith, piece, held, parts.short)) c.in_ok-count.ensures.bytes
