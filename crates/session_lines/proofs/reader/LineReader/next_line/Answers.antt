use Rattle.std.proofs.Common.{◌≡◌, false, Result, Ok, Err, IfOk}
use Rattle.session_lines.specs.declared.reader.Next.{Next}
use Rattle.session_lines.specs.Reading as spec
use Rattle.session_lines.specs.Reading.{Reading}
use Rattle.session_lines.proofs.Answering.{Answers, answers_fault, answers_next, reads_exactly}
use Rattle.session_lines.proofs.Sessions.{goes_on}
use Rattle.session_lines.proofs.reader.LineReader.next_line.Goals as goal

-- what follows from the answer that the bytes at hand give
answered : {E : Type 0} (result : Result Next E) (hand after : Reading) (P : Next → Type 0) → spec.is_open hand ≡ false
    → IfOk result (λ next. next ≡ spec.next_line hand.ahead) → IfOk result (λ next. after ≡ record hand { ahead = spec.left_after next hand.ahead })
    → ((next : Next) → Answers hand after next → P next) → IfOk result P
answered (Ok next) hand after P settled is left follows = follows next (answers_next hand after next settled is left)
answered (Err e) hand after P settled is left follows = tt

pub returns-in-Ok-clause-exact : goal.returns-in-Ok-clause-exact
returns-in-Ok-clause-exact g c =
    answered c.front.result c.fill.new.self c.front.new.self _ c.in-Ok.ensures.ok c.front.ensures.next c.front.ensures.rest
    (λ next a. reads_exactly _ _ c.args.self.now c.fill.new.self c.front.new.self next c.fill.ensures.takes a)

pub returns-in-Ok-clause-goes_on : goal.returns-in-Ok-clause-goes_on
returns-in-Ok-clause-goes_on g c =
    answered c.front.result c.fill.new.self c.front.new.self _ c.in-Ok.ensures.ok c.front.ensures.next c.front.ensures.rest
    (λ next a. goes_on _ _ c.args.self.now c.fill.new.self c.front.new.self next c.fill.ensures.takes a)

pub returns-in-Err-clause-goes_on : goal.returns-in-Err-clause-goes_on
returns-in-Err-clause-goes_on g c = goes_on _ _ c.args.self.now c.fill.new.self c.fill.new.self _ c.fill.ensures.takes (answers_fault c.fill.new.self c.in-Err.ensures.err)
