use Rattle.std.proofs.Common.{◌≡◌, ◌∙◌, ◌-◌, ◌≤◌, sym, arith}
use Rattle.state_spelling.specs.Coming.{walk_of}
use Rattle.state_spelling.specs.Revived.{walk_step, made_by}
use Rattle.state_spelling.proofs.Loop.{line_at, step_at, came_over}
use Rattle.state_spelling.proofs.frames.enter_next.Goals as goal

pub returns-clause-comes : goal.returns-clause-comes
returns-clause-comes c =
    let h = c.in-Some.ensures.lookup in
    let at = line_at c.args.code.now.lines c.lines.result.now (c.args.frame.back - 1) c.in-Some.line.now c.lines.ensures h.3.0 h.1 in
    let le : 1 ≤ c.args.frame.back = omega (arith, c.if-back-eq0.false) in
    came_over c.enter_by.result (walk_step c.args.code.now c.args.frame (walk_of c.args.walking.now)) (made_by c.args.code.now c.in-Some.line.now.instr c.in-Some.line.now.operands c.args.frame (walk_of c.args.walking.now)) (walk_of c.enter_by.new.walking)
    (step_at c.args.code.now c.args.frame (walk_of c.args.walking.now) c.in-Some.line.now le at (sym c.in_ok-is_at.ensures ∙ c.if-not-branch.false))
    c.enter_by.ensures.comes
