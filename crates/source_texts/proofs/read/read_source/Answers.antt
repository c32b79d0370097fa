use Rattle.std.proofs.Common.{rules, ◌≡◌, true, sym, ap, ◌∙◌}
use Rattle.eu_base.specs.Shapes.{same_shape}
use Rattle.data_space.specs.Data.{SpaceData}
use Rattle.source_texts.specs.Below.page_table.specs.Frames.{over}
use Rattle.units.specs.Sources.{source_shape}
use Rattle.source_texts.proofs.Reading.{the_text}
use Rattle.source_texts.proofs.Pooled.{frames_there, space_there}
use Rattle.source_texts.proofs.read.read_source.Goals as goal

pub returns-in_err-text-clause-frames : goal.returns-in_err-text-clause-frames
returns-in_err-text-clause-frames g c = λ mine.
    frames_there g.B.Backing.tells c.args.pool.now c.view-lent.result.pool.now c.read_text.new.space.pool.now _ c.args.backing.now c.view-lent.result.backing.now c.read_text.new.space.backing.now _ mine
    c.view-lent.ensures.pool_same c.view-lent.ensures.backing_same (search rules) (search rules) (c.in_err-text.ensures.follows.frames mine)

pub returns-clause-text : goal.returns-clause-text
returns-clause-text g c = λ value h.
    let same : same_shape source_shape c.in-Some.shape.now ≡ true = cc in
    let there = space_there g.B.Backing.tells c.args.pool.now c.view-lent.result.pool.now c.args.backing.now c.view-lent.result.backing.now c.args.space.now c.view-lent.result.space.now value
    c.view-lent.ensures.pool_same c.view-lent.ensures.backing_same c.view-lent.ensures.space_same h in
    c.in_ok-text.ensures.text there.knows
    ∙ the_text (over c.view-lent.result.pool.now (g.B.Backing.tells c.view-lent.result.backing.now)) c.view-lent.result.space.now value there c.in-Some.shape.now
    (c.in-Some.ensures ∙ sym (ap (λ (s : SpaceData). s.shape) c.view-lent.ensures.space_same)) same

pub returns-clause-frames : goal.returns-clause-frames
returns-clause-frames g c = λ mine.
    frames_there g.B.Backing.tells c.args.pool.now c.view-lent.result.pool.now c.read_text.new.space.pool.now _ c.args.backing.now c.view-lent.result.backing.now c.read_text.new.space.backing.now _ mine
    c.view-lent.ensures.pool_same c.view-lent.ensures.backing_same (search rules) (search rules) (c.in_ok-text.ensures.follows.frames mine)
