use Rattle.std.proofs.Common.{◌≡◌, ◌++◌, ◌∷◌, [], ap, sym, ◌∙◌}
use Rattle.std.specs.Prelude.{reverse}
use Rattle.code_form.specs.Machine.{bytes_on, bytes_of}
use Rattle.zero_state.specs.declared.stack.Frame.{Frame}
use Rattle.zero_state.specs.Stacked.{Stacked, linked, frames_of}
use Rattle.zero_state.proofs.Counts.{last_set, held_is, entered, stacked_is}
use Rattle.zero_state.proofs.stack.Stack.enter.Goals as goal

pub invariant_of-self : goal.invariant_of-self
invariant_of-self c =
    c.self.invariant ∙ ap (λ fs. bytes_on (reverse c.self.inside.operands) (bytes_of (frames_of fs))) (sym c.in_err-push.ensures.err)

pub invariant_of-self-2 : goal.invariant_of-self-2
invariant_of-self-2 c =
    let f : Frame = record { link = c.args.link; operands = c.replace-operands.result } in
    let set : c.set.new.self ≡ c.self.inside.frames ++ f ∷ [] =
    last_set c.self.inside.frames c.push.new.self c.set.new.self c.len-at.result (record { link = c.args.link; operands = c.new-none.result }) f
    c.in_ok-push.ensures.ok c.len-at.ensures c.set.ensures in
    c.self.invariant ∙ ap (λ l. bytes_on (reverse l) (bytes_of (frames_of c.self.inside.frames))) (sym c.replace-operands.ensures.value)
    ∙ sym (held_is c.self.inside.frames c.set.new.self f set)
    ∙ ap (λ l. bytes_on (reverse l) (bytes_of (frames_of c.set.new.self))) (sym (c.replace-operands.ensures.after ∙ c.new.ensures))

pub returns : goal.returns
returns c =
    let f : Frame = record { link = c.args.link; operands = c.replace-operands.result } in
    let set : c.set.new.self ≡ c.self.inside.frames ++ f ∷ [] =
    last_set c.self.inside.frames c.push.new.self c.set.new.self c.len-at.result (record { link = c.args.link; operands = c.new-none.result }) f
    c.in_ok-push.ensures.ok c.len-at.ensures c.set.ensures in
    stacked_is c.replace-operands.new.dest c.set.new.self _ (c.replace-operands.ensures.after ∙ c.new.ensures)
    (entered c.self.inside.operands c.self.inside.frames c.drop_top.new.self c.self.view_is c.set.new.self c.args.link c.replace-operands.result set
    c.replace-operands.ensures.value ∙ ap (λ (s : Stacked). linked c.args.link s.ops ∷ s.frames) c.drop_top.ensures)
