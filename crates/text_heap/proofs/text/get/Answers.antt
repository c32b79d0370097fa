use Rattle.std.proofs.Common.{ap, ◌∙◌}
use Rattle.eu_base.specs.Spaces.{Content}
use Rattle.text_heap.specs.Blocks.{first_in, blocks_of, gather}
use Rattle.text_heap.proofs.Stored.{found}
use Rattle.text_heap.proofs.text.get.Goals as goal

pub returns-clause-text : goal.returns-clause-text
returns-clause-text g c = λ known texts h some.
    let before = g.S.Space.content c.args.space.now in
    let first = c.in_ok-entry.entry.first in
    let length = c.in_ok-entry.entry.length in
    let is = c.in_ok-text.ensures.text (g.met.S.Space.stays_known _ _ c.read_entry.ensures.follows known)
    ∙ ap (λ (x : Content). gather x first length (blocks_of length)) c.in_ok-entry.ensures.kept
    ∙ ap (λ k. gather before k length (blocks_of length)) (c.in_ok-entry.ensures.entry known).1
    ∙ ap (λ n. gather before (first_in before c.args.cell) n (blocks_of n)) (c.in_ok-entry.ensures.entry known).0 in
    found before texts c.args.cell c.in_ok-text.text c.requires is h some

pub returns-clause-follows : goal.returns-clause-follows
returns-clause-follows g c = g.met.S.Space.transitive _ _ _ c.read_entry.ensures.follows c.collect.ensures.follows

pub returns-in_err-text-clause-follows : goal.returns-in_err-text-clause-follows
returns-in_err-text-clause-follows g c = g.met.S.Space.transitive _ _ _ c.read_entry.ensures.follows c.collect.ensures.follows
