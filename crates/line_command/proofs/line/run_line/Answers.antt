use Rattle.line_command.proofs.Answering.{puts_too_long, puts_line, puts_front}
use Rattle.line_command.proofs.line.run_line.Goals as goal

pub returns-in-Ok-TooLong-clause-answer : goal.returns-in-Ok-TooLong-clause-answer
returns-in-Ok-TooLong-clause-answer g c =
    let line = rw c.in-Ok-TooLong.field-0-is at c.in-Ok-TooLong.ensures.line in
    puts_too_long (g.S.Source.left c.args.source.now) (g.K.Sink.taken c.args.sink.now) (g.K.Sink.taken c.put_all.new.sink) line c.in-Err-put_all.ensures.err

pub returns-in-Ok-put_all-clause-answer : goal.returns-in-Ok-put_all-clause-answer
returns-in-Ok-put_all-clause-answer g c =
    let line = rw c.in-Ok-Text.field-0-is at c.in-Ok-Text.ensures.line in
    let writes = rw c.as_slice.ensures at c.in-Ok-respond.ensures in
    let put = rw c.as_slice-in-Ok-Text.ensures at c.in-Ok-put_all.ensures.ok in
    puts_line (g.S.Source.left c.args.source.now) (g.K.Sink.taken c.args.sink.now) (g.K.Sink.taken c.put_all-in-Ok-Text.new.sink) c.in-Ok-Text.text
    c.in-Ok-respond.out line.0 line.1 writes put

pub returns-clause-answer : goal.returns-clause-answer
returns-clause-answer g c =
    let line = rw c.in-Ok-Text.field-0-is at c.in-Ok-Text.ensures.line in
    let writes = rw c.as_slice.ensures at c.in-Ok-respond.ensures in
    let put = rw c.as_slice-in-Ok-Text.ensures at c.in-Err-put_all-2.ensures.err in
    puts_front (g.S.Source.left c.args.source.now) (g.K.Sink.taken c.args.sink.now) (g.K.Sink.taken c.put_all-in-Ok-Text.new.sink) c.in-Ok-Text.text
    c.in-Ok-respond.out line.0 line.1 writes put
