use Rattle.std.proofs.Common.{◌+◌, ◌<◌, ◌∙◌, length, nat_eq, sym, ap, subst, arith}
use Rattle.indexmap.proofs.CallerLemmas.{insert_entry-new}
use Rattle.space_memory.specs.Live.{LiveData, with_new}
use Rattle.space_memory.proofs.Numbers.{past_free, numbered_new}
use Rattle.space_memory.proofs.live.Spaces.add.Goals as goal

pub invariant_of-self : goal.invariant_of-self
invariant_of-self c =
    let few : length c.self.inside.spaces.entries < 16 = subst (λ (live : LiveData). length live.spaces < 16) (sym c.self.view_is) c.requires.few in
    let free = past_free 0 c.self.inside.spaces.entries c.self.inside.last (c.self.inside.last + 1) c.self.invariant.rise (omega arith) in
    let entries = c.in-Ok.ensures.entries ∙ insert_entry-new nat_eq c.self.inside.spaces (c.self.inside.last + 1) c.args.space free in
    rw entries (numbered_new c.self.inside.spaces.entries c.self.inside.last c.args.space few c.self.invariant)

pub returns-in-Ok-clause-added : goal.returns-in-Ok-clause-added
returns-in-Ok-clause-added c =
    let free = past_free 0 c.self.inside.spaces.entries c.self.inside.last (c.self.inside.last + 1) c.self.invariant.rise (omega arith) in
    let entries = c.in-Ok.ensures.entries ∙ insert_entry-new nat_eq c.self.inside.spaces (c.self.inside.last + 1) c.args.space free in
    rw entries (ap (with_new c.args.space) c.self.view_is)
