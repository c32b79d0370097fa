use Rattle.zero_state.specs.Stepping.{position_of, control_of}
use Rattle.zero_machine.proofs.Replying.{answered_fits}
use Rattle.zero_machine.proofs.machine.reply.Goals as goal

pub returns-clause-answered : goal.returns-clause-answered
returns-clause-answered g c = λ request is. c.answered.ensures request (position_of c.args.s.now) is

pub returns-clause-fits : goal.returns-clause-fits
returns-clause-fits g c =
    let s = c.args.s.now in
    answered_fits c.args._code.now (control_of s) _ c.args.r c.requires.fits c.requires.asks (λ q is. c.answered.ensures q (position_of s) is)
