use Rattle.std.proofs.Common.{Some, sym, ap, ◌∙◌}
use Rattle.zero_state.specs.Stepping.{position_of, control_of}
use Rattle.zero_steps.specs.Replying.{Replies}
use Rattle.zero_machine.proofs.Finds.{reply_finds}
use Rattle.zero_machine.proofs.Fitting.{fits_given, at_reply, reply_fits, reply_spends, reply_nears}
use Rattle.zero_machine.proofs.machine.reply_step.Goals as goal

pub take_reply-requires-clause-finds : goal.take_reply-requires-clause-finds
take_reply-requires-clause-finds g c =
    let p = c.args.code.now in
    let s = c.args.s.now in
    let fits = fits_given p (control_of s) c.requires.given.0 c.requires.given.1 c.requires.fits in
    reply_finds p c.len-size.ensures.valid (position_of s) c.requires.given.0 fits c.in-Ask.name (ap (λ i. Some i) (sym c.in-Ask.is) ∙ c.instr.ensures)

pub take_reply-requires-clause-room : goal.take_reply-requires-clause-room
take_reply-requires-clause-room g c = c.requires.fits.bytes

pub returns-clause-fits : goal.returns-clause-fits
returns-clause-fits g c =
    let p = c.args.code.now in
    let s = c.args.s.now in
    let r = c.requires.given.0 in
    let before = g.M.Memory.holds c.args.m.now in
    let after = g.M.Memory.holds c.take_reply.new.m in
    let had = g.M.Memory.heads c.args.m.now in
    let has = g.M.Memory.heads c.take_reply.new.m in
    let d = control_of c.take_reply.new.s in
    let q = c.in-Ask.name in
    reply_fits p (position_of s) r c.take_reply.result before after had has d q c.len-size.ensures.valid
    (fits_given p (control_of s) r c.requires.given.1 c.requires.fits) (ap (λ i. Some i) (sym c.in-Ask.is) ∙ c.instr.ensures)
    (at_reply c.take_reply.result s.waits (λ r. Replies before after had has q r (position_of s) d) r c.requires.given.1 c.take_reply.ensures.goes)

pub returns-clause-spends : goal.returns-clause-spends
returns-clause-spends g c = λ marks.
    let p = c.args.code.now in
    let s = c.args.s.now in
    let r = c.requires.given.0 in
    let before = g.M.Memory.holds c.args.m.now in
    let after = g.M.Memory.holds c.take_reply.new.m in
    let had = g.M.Memory.heads c.args.m.now in
    let has = g.M.Memory.heads c.take_reply.new.m in
    let d = control_of c.take_reply.new.s in
    let q = c.in-Ask.name in
    reply_spends p (position_of s) r c.take_reply.result before after had has d q c.len-size.ensures.valid
    (fits_given p (control_of s) r c.requires.given.1 c.requires.fits) (ap (λ i. Some i) (sym c.in-Ask.is) ∙ c.instr.ensures) marks
    (at_reply c.take_reply.result s.waits (λ r. Replies before after had has q r (position_of s) d) r c.requires.given.1 c.take_reply.ensures.goes)

pub returns-clause-nearer : goal.returns-clause-nearer
returns-clause-nearer g c = λ marks.
    let p = c.args.code.now in
    let s = c.args.s.now in
    let r = c.requires.given.0 in
    let before = g.M.Memory.holds c.args.m.now in
    let after = g.M.Memory.holds c.take_reply.new.m in
    let had = g.M.Memory.heads c.args.m.now in
    let has = g.M.Memory.heads c.take_reply.new.m in
    let d = control_of c.take_reply.new.s in
    let q = c.in-Ask.name in
    reply_nears p (position_of s) r c.take_reply.result before after had has d q c.len-size.ensures.valid
    (fits_given p (control_of s) r c.requires.given.1 c.requires.fits) (ap (λ i. Some i) (sym c.in-Ask.is) ∙ c.instr.ensures) marks
    (at_reply c.take_reply.result s.waits (λ r. Replies before after had has q r (position_of s) d) r c.requires.given.1 c.take_reply.ensures.goes)
