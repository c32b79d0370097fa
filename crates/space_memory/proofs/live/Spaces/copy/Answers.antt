use Rattle.std.proofs.Common.{◌≡◌, ◌+◌, ◌<◌, ◌∙◌, [], ◌∷◌, ◌++◌, length, Option, Some, nat_eq, sym, ap, subst, arith}
use Rattle.std.specs.Option.{unwrap_or}
use Rattle.indexmap.proofs.CallerLemmas.{insert_entry-new}
use Rattle.space_memory.specs.Below.page_table.specs.Frames.{over, Stands, Frames}
use Rattle.data_space.specs.Data.{SpaceData}
use Rattle.space_memory.specs.Kept.{KeepsBytes}
use Rattle.space_memory.specs.Live.{LiveData, no_space, space_at, the_space, space_roots, with_new}
use Rattle.space_memory.proofs.Numbers.{past_free, numbered_new}
use Rattle.space_memory.proofs.Roots.{one_stands, copy_frames, copy_keeps, keeps_none}
use Rattle.space_memory.proofs.live.Spaces.copy.Goals as goal

pub copy-requires : goal.copy-requires
copy-requires c =
    let stands = subst (λ (live : LiveData). Stands c.args.pool.now (space_roots live.spaces) 1) (sym c.self.view_is) c.requires.agree in
    let at : space_at c.args.from.0 c.self.inside.spaces.entries ≡ Some c.in-Some.of.now =
    rw (← c.reserve.ensures.entries) (sym c.in-Some.ensures.value) in
    record { agree = one_stands (nat_eq c.args.from.0) _ _ at _ 1 stands }

pub returns-in_err-copy-clause-keeps : goal.returns-in_err-copy-clause-keeps
returns-in_err-copy-clause-keeps c = λ tell. rw c.in_err-copy.ensures.err (keeps_none _ _)

pub invariant_of-self-in-Ok : goal.invariant_of-self-in-Ok
invariant_of-self-in-Ok c =
    let few : length c.self.inside.spaces.entries < 16 = subst (λ (live : LiveData). length live.spaces < 16) (sym c.self.view_is) c.requires.few in
    let free = past_free 0 c.self.inside.spaces.entries c.self.inside.last (c.self.inside.last + 1) c.self.invariant.rise (omega arith) in
    let entries = c.in-Ok.ensures.entries ∙ insert_entry-new nat_eq c.reserve.new.self (c.self.inside.last + 1) c.in_ok-copy.copy (rw c.reserve.ensures.entries free) in
    rw (entries, c.reserve.ensures.entries) (numbered_new c.self.inside.spaces.entries c.self.inside.last c.in_ok-copy.copy few c.self.invariant)

pub returns-clause-added : goal.returns-clause-added
returns-clause-added c =
    let free = past_free 0 c.self.inside.spaces.entries c.self.inside.last (c.self.inside.last + 1) c.self.invariant.rise (omega arith) in
    let entries = c.in-Ok.ensures.entries ∙ insert_entry-new nat_eq c.reserve.new.self (c.self.inside.last + 1) c.in_ok-copy.copy (rw c.reserve.ensures.entries free) in
    let at : space_at c.args.from.0 c.self.inside.spaces.entries ≡ Some c.in-Some.of.now =
    rw (← c.reserve.ensures.entries) (sym c.in-Some.ensures.value) in
    let of : c.in_ok-copy.copy ≡ the_space c.args.from.0 c.self.inside.spaces.entries =
    c.in_ok-copy.ensures.same ∙ ap (λ (o : Option SpaceData). unwrap_or o no_space) (sym at) in
    rw (entries, c.reserve.ensures.entries, of)
    (ap (λ (live : LiveData). with_new (the_space c.args.from.0 live.spaces) live) c.self.view_is)

pub returns-clause-frames : goal.returns-clause-frames
returns-clause-frames c = λ tell.
    let free = past_free 0 c.self.inside.spaces.entries c.self.inside.last (c.self.inside.last + 1) c.self.invariant.rise (omega arith) in
    let entries = c.in-Ok.ensures.entries ∙ insert_entry-new nat_eq c.reserve.new.self (c.self.inside.last + 1) c.in_ok-copy.copy (rw c.reserve.ensures.entries free) in
    let at : space_at c.args.from.0 c.self.inside.spaces.entries ≡ Some c.in-Some.of.now =
    rw (← c.reserve.ensures.entries) (sym c.in-Some.ensures.value) in
    let later = space_roots (c.self.inside.spaces.entries ++ (c.self.inside.last + 1, c.in-Some.of.now) ∷ []) in
    rw (entries, c.reserve.ensures.entries, c.in_ok-copy.ensures.same)
    (subst (λ (live : LiveData). Frames (over c.args.pool.now tell) (over c.copy.new.pool tell) (space_roots live.spaces) later) c.self.view_is
    (copy_frames (nat_eq c.args.from.0) _ _ at _ _ (c.self.inside.last + 1) (c.in_ok-copy.ensures.frames tell)))

pub returns-clause-keeps : goal.returns-clause-keeps
returns-clause-keeps c = λ tell.
    let stands = subst (λ (live : LiveData). Stands c.args.pool.now (space_roots live.spaces) 1) (sym c.self.view_is) c.requires.agree in
    let at : space_at c.args.from.0 c.self.inside.spaces.entries ≡ Some c.in-Some.of.now =
    rw (← c.reserve.ensures.entries) (sym c.in-Some.ensures.value) in
    subst (λ (live : LiveData). KeepsBytes (over c.args.pool.now tell) (over c.copy.new.pool tell) (space_roots live.spaces)) c.self.view_is
    (copy_keeps (nat_eq c.args.from.0) _ _ at (over c.args.pool.now tell) (over c.copy.new.pool tell) (c.in_ok-copy.ensures.frames tell) (c.copy.ensures.shows tell) stands)
