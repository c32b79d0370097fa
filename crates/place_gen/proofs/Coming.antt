-- What is kept after an answer.
use Rattle.std.proofs.Common.{◌≡◌, ℕ, ◌<◌, ◌≤◌, Bool, true, false, List, [], ◌∷◌, length, refl, sym, subst, arith}
use Rattle.std.specs.Prelude.{nat_lt, if◌then◌else◌}
use Rattle.std.proofs.lemmas.Bool.Decides.{nat_tests}
use Rattle.eu_base.specs.declared.value.Kind.{Kind}
use Rattle.eu_base.specs.declared.request.Request.{Request}
use Rattle.eu_base.specs.declared.request.Request.TheVariants as requests
use Rattle.eu_base.specs.declared.request.Reply.{Reply}
use Rattle.eu_base.specs.declared.request.Reply.TheVariants as replies
use Rattle.eu_base.specs.DataSpaces.{Space, Spaces, Heads, heads_of, last_number, SpaceChange, Gets}
use Rattle.eu_base.specs.SoundSpaces.{CanCome, AllCanCome}
use Rattle.eu_base.specs.Requests.{Answer, sent_by, coming, changes_by, reply_changes}
use Rattle.eu_base.proofs.SoundSpaces.{CanAll}
use Rattle.code_form.specs.Machine.{Mem, mem_after, after_reply}
use Rattle.elan_types.specs.Eval.{World, changed_by, after_answer}
use Rattle.place_gen.proofs.Cells.{Uses, Keeps}
use Rattle.place_gen.proofs.Changes.{CanAllFill, changes_keep}

-- what an answer does to data spaces can be done
abbrev Can : List SpaceChange → Spaces → Type 0
Can changes spaces = CanAll changes spaces × CanAllFill changes spaces

sent_can : (q : Request) (spaces : Spaces) → Can (sent_by q) spaces
sent_can (requests.Send to code space) spaces = ((tt, tt), (tt, tt))
sent_can (requests.Call to code space) spaces = ((tt, tt), (tt, tt))
sent_can _ spaces = (tt, tt)

come_can : (content : Space) (spaces : Spaces) → CanCome content → Can (coming content (heads_of spaces)) spaces
come_can content spaces can = by (nat_lt spaces.last last_number) refl
  where
    by : (b : Bool) → nat_lt spaces.last last_number ≡ b → Can (if b then Gets content ∷ [] else []) spaces
    by true less = let below : spaces.last < last_number = grind (arith, nat_tests, less) in (((below, can.space), tt), (can.fits, tt))
    by false e = (tt, tt)

answer_can : (q : Request) (r : Reply) (content : Space) (spaces : Spaces) → CanCome content → Can (changes_by r q content (heads_of spaces)) spaces
answer_can q replies.Taken content spaces can = sent_can q spaces
answer_can q (replies.Message code from space) content spaces can = come_can content spaces can
answer_can q _ content spaces can = (tt, tt)

-- all is kept, with the answers that are left
pub answer_keeps : (P : List Kind) (L : Uses) (q : Request) (a : Answer) (left : List Answer) (w : World) (m : Mem) → CanCome a.content → AllCanCome left
    → Keeps P L w m → Keeps P L (after_answer q a left w) (after_reply q a m)
answer_keeps P L q a left w m can rest h =
    subst (λ (heads : Heads). Keeps P L (after_answer q a left w) (mem_after (reply_changes q a heads) m)) (sym h.spaces.heads)
    (record { command = k.command; packets = k.packets; spaces = k.spaces; answers = rest })
  where
    can_it : Can (reply_changes q a (heads_of w.spaces)) w.spaces
    can_it = answer_can q a.reply a.content w.spaces can

    k : Keeps P L (changed_by (reply_changes q a (heads_of w.spaces)) w) (mem_after (reply_changes q a (heads_of w.spaces)) m)
    k = changes_keep P L (reply_changes q a (heads_of w.spaces)) w m can_it.0 can_it.1 h
