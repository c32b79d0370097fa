use Rattle.std.proofs.Common.{◌≡◌, ◌∙◌, ap, sym, refl, length, List}
use Rattle.eu_base.specs.declared.value.Kind.{Kind}
use Rattle.state_spelling.specs.declared.kept.KeptFrame.{KeptFrame}
use Rattle.state_spelling.specs.Coming.{walk_of}
use Rattle.state_spelling.specs.Revived.{Walk, walk, first_walk}
use Rattle.state_spelling.proofs.Loop.{line_at, start_is, started, revived_by}
use Rattle.state_spelling.proofs.frames.revive.Goals as goal

pub returns : goal.returns
returns c =
    let h = c.in-Some.ensures.lookup in
    let p = c.args.code.now in
    let at = line_at c.args.code.now.lines c.lines.result.now c.args.kept.pc c.in-Some.line.now c.lines.ensures h.3.0 h.1 in
    let start = start_is c.args.code.now c.args.kept.operands c.len.result c.new.result c.last_first.result (c.len.ensures ∙ ap (λ (ks : List Kind). length ks) c.variables.ensures) c.new.ensures c.last_first.ensures in
    let walked = ap (λ (w : Walk). walk c.args.code.now w c.args.kept.frames) (sym start) ∙ ap (λ (fs : List KeptFrame). walk c.args.code.now (started c.len.result c.new.result c.last_first.result) fs) (sym c.as_slice.ensures) ∙ c.in_ok-enter_all.ensures.comes in
    revived_by c.args.code.now c.args.kept (walk_of c.enter_all.new.walking) c.in-Some.line.now c.settle.result walked at (c.settle.ensures c.args.kept refl refl refl)
