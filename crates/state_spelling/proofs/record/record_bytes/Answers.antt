use Rattle.std.proofs.Common.{ℕ, ◌<◌, min, arith, ◌≡◌, ◌++◌, ◌∙◌, List, ap, sym, true}
use Rattle.std.specs.Prelude.{flat_map, map, reverse}
use Rattle.std.proofs.lemmas.Bool.{lt-ltb}
use Rattle.std.proofs.lemmas.List.{reverse-reverse}
use Rattle.std.specs.Int.{w16, w32}
use Rattle.byte_spelling.specs.Spelling.{number, list_of}
use Rattle.byte_spelling.proofs.Laws.{true_both}
use Rattle.code_form.specs.declared.operand.Operand.{Operand}
use Rattle.code_form.specs.Machine.{Frame}
use Rattle.state_spelling.specs.declared.kept.KeptFrame.{KeptFrame}
use Rattle.state_spelling.specs.Operands.{operand}
use Rattle.state_spelling.specs.Waiting.{waits}
use Rattle.state_spelling.specs.Kept.{frame}
use Rattle.state_spelling.specs.Held.{kept_link, held}
use Rattle.state_spelling.specs.Standing.{kept_frames, pending_below, held_used}
use Rattle.state_spelling.proofs.Put.{five, frames_are, pending_is}
use Rattle.state_spelling.proofs.record.record_bytes.Goals as goal

short_held : (n : ℕ) → held_used n < 65536
short_held n = omega arith

links_are : (c : goal.In_ok-put_pending) → c.as_slice.result.now ≡ kept_frames c.args.state.now.stack.frames
links_are c = c.as_slice.ensures ∙ c.in_ok-kept_links.ensures ∙ sym (frames_are c.frames-frames.result.now) ∙ ap (λ (fs : List Frame). kept_frames fs) c.frames-frames.ensures

pending_are : (c : goal.In_ok-put_pending) → flat_map held c.frames-frames.result.now ++ c.operands.result.now ≡ pending_below c.args.state.now.stack.frames ++ reverse c.args.state.now.stack.ops
pending_are c =
    ap (λ (x : List Operand). x ++ c.operands.result.now) (sym (pending_is c.frames-frames.result.now) ∙ ap (λ (fs : List Frame). pending_below fs) c.frames-frames.ensures)
    ∙ ap (λ (x : List Operand). pending_below c.args.state.now.stack.frames ++ x) (sym (reverse-reverse c.operands.result.now) ∙ ap (λ (x : List Operand). reverse x) c.operands.ensures)

pub returns-clause-spelled : goal.returns-clause-spelled
returns-clause-spelled c =
    five (waits.spell c.args.state.now.waits) ((number w32).spell c.args.state.now.pc) ((number w16).spell (held_used c.args.state.now.used))
    ((list_of frame).spell (kept_frames c.args.state.now.stack.frames)) ((list_of operand).spell (pending_below c.args.state.now.stack.frames ++ reverse c.args.state.now.stack.ops))
    c.put_waits.new.out c.put_u32.new.out c.put_u16.new.out c.put_list.new.out c.put_pending.new.out
    (c.in_ok-put_waits.ensures.spelled ∙ ap (λ x. x ++ waits.spell c.args.state.now.waits) c.new-out.ensures)
    (rw c.in_ok-small.ensures.same at c.in_ok-put_u32.ensures) (rw c.held_used.ensures at c.in_ok-put_u16.ensures)
    (c.in_ok-put_list.ensures.spelled ∙ ap (λ (fs : List KeptFrame). c.put_u16.new.out ++ (list_of frame).spell fs) (links_are c))
    (c.in_ok-put_pending.ensures.spelled ∙ ap (λ (os : List Operand). c.put_list.new.out ++ (list_of operand).spell os) (pending_are c))

pub returns-clause-fine : goal.returns-clause-fine
returns-clause-fine c =
    true_both _ _ c.in_ok-put_waits.ensures.fine (true_both _ _ (lt-ltb _ _ c.in_ok-small.ensures.few) (true_both _ _ (lt-ltb _ _ (short_held c.args.state.now.used))
    (true_both _ _ (sym (ap (λ (fs : List KeptFrame). (list_of frame).fine fs) (links_are c)) ∙ c.in_ok-put_list.ensures.fine)
    (sym (ap (λ (os : List Operand). (list_of operand).fine os) (pending_are c)) ∙ c.in_ok-put_pending.ensures.fine))))
