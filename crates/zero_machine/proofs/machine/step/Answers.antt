use Rattle.std.proofs.Common.{◌≡◌, subst}
use Rattle.code_form.specs.Machine.{free}
use Rattle.code_form.specs.Valid.{Fits}
use Rattle.zero_state.specs.Finds.{Finds}
use Rattle.zero_state.specs.Stepping.{position_of, control_of}
use Rattle.zero_machine.proofs.Finds.{finds, the_instr}
use Rattle.zero_machine.proofs.Fitting.{fits_free, step_goes, step_fits, step_spends, step_nears}
use Rattle.zero_machine.proofs.machine.step.Goals as goal

pub execute-requires-clause-finds : goal.execute-requires-clause-finds
execute-requires-clause-finds g c =
    let p = c.args.code.now in
    let s = position_of c.args.s.now in
    let fits : Fits p (free s) = fits_free p (control_of c.args.s.now) c.requires.free c.requires.fits in
    let e : fits.next.0 ≡ c.instr.result.now = the_instr p s fits c.instr.result.now c.instr.ensures in
    subst (λ i. Finds p.bodies i s) e (finds p c.len-size.ensures.valid s fits)

pub returns-clause-goes : goal.returns-clause-goes
returns-clause-goes g c =
    step_goes c.args.code.now (control_of c.args.s.now) c.execute.result (g.M.Memory.holds c.args.m.now) (g.M.Memory.holds c.execute.new.m)
    (g.M.Memory.heads c.args.m.now) (g.M.Memory.heads c.execute.new.m)
    (control_of c.execute.new.s)
    c.args.marks.now c.execute.new.marks c.instr.result.now c.len-size.ensures.valid
    (fits_free c.args.code.now (control_of c.args.s.now) c.requires.free c.requires.fits)
    c.requires.free c.instr.ensures c.execute.ensures.goes

pub returns-clause-fits : goal.returns-clause-fits
returns-clause-fits g c =
    step_fits c.args.code.now (control_of c.args.s.now) c.execute.result (g.M.Memory.holds c.args.m.now) (g.M.Memory.holds c.execute.new.m)
    (g.M.Memory.heads c.args.m.now) (g.M.Memory.heads c.execute.new.m)
    (control_of c.execute.new.s)
    c.args.marks.now c.execute.new.marks c.instr.result.now c.len-size.ensures.valid
    (fits_free c.args.code.now (control_of c.args.s.now) c.requires.free c.requires.fits)
    c.requires.free c.instr.ensures c.execute.ensures.goes

pub returns-clause-spends : goal.returns-clause-spends
returns-clause-spends g c =
    step_spends c.args.code.now (control_of c.args.s.now) c.execute.result (g.M.Memory.holds c.args.m.now) (g.M.Memory.holds c.execute.new.m)
    (g.M.Memory.heads c.args.m.now) (g.M.Memory.heads c.execute.new.m)
    (control_of c.execute.new.s)
    c.args.marks.now c.execute.new.marks c.instr.result.now c.len-size.ensures.valid
    (fits_free c.args.code.now (control_of c.args.s.now) c.requires.free c.requires.fits)
    c.requires.free c.instr.ensures c.execute.ensures.goes

pub returns-clause-nearer : goal.returns-clause-nearer
returns-clause-nearer g c =
    step_nears c.args.code.now (control_of c.args.s.now) c.execute.result (g.M.Memory.holds c.args.m.now) (g.M.Memory.holds c.execute.new.m)
    (g.M.Memory.heads c.args.m.now) (g.M.Memory.heads c.execute.new.m)
    (control_of c.execute.new.s)
    c.args.marks.now c.execute.new.marks c.instr.result.now c.len-size.ensures.valid
    (fits_free c.args.code.now (control_of c.args.s.now) c.requires.free c.requires.fits)
    c.requires.free c.instr.ensures c.execute.ensures.goes
