use Rattle.std.proofs.Common.{◌<◌, ℕ, ℤ, true, false, set, refl, sym, ◌∙◌, subst, rules, FitsSigned, to_z, of_z, w16}
use Rattle.std.proofs.lemmas.Bool.{false≢true}
use Rattle.std.proofs.lemmas.Int.{to_z-of_z}
use Rattle.std.proofs.lemmas.Result.{on_ok_weaker}
use Rattle.eu_base.specs.declared.request.Reply.TheVariants.{Taken, Message}
use Rattle.eu_base.specs.Requests.{Answer, plain}
use Rattle.eu_base.specs.DataSpaces.{next_number, the_space}
use Rattle.live_tasks.specs.Below.system_meaning.specs.Tasks.{Own, now, replied, with_doing}
use Rattle.live_tasks.specs.Below.system_meaning.specs.Systems.{with_own}
use Rattle.live_tasks.specs.Tasks.{Stand}
use Rattle.live_tasks.specs.Handing.{handing, paid}
use Rattle.live_tasks.proofs.Handing.{owed_first, owed_second, all_paid}
use Rattle.live_tasks.proofs.tasks.Tasks.hand.Goals as goal

pub pass-requires-clause-go : goal.pass-requires-clause-go
pass-requires-clause-go c = c.can_go.ensures.go c.if-not-can_go.false

pub answer_due-requires : goal.answer_due-requires
answer_due-requires c = record { task = subst (λ (n : ℕ). c.args.from < n) (sym c.pass.ensures.many) c.requires.from }

pub answer_due-requires-2 : goal.answer_due-requires-2
answer_due-requires-2 c =
    record { task = subst (λ (n : ℕ). c.args.to < n) (sym (c.answer_due.ensures.many ∙ c.pass.ensures.many)) c.requires.to }

pub returns-then-not-can_go : goal.returns-then-not-can_go
returns-then-not-can_go c = λ kinds_of owns mine other request asked apart h has has' asks sends live asks' free.
    absurd (false≢true (sym c.if-not-can_go.true ∙ c.can_go.ensures.can kinds_of owns mine other request asked apart h has has' asks live asks' free))

pub returns : goal.returns
returns c =
    on_ok_weaker c.answer_due-2.result (λ answers kinds_of owns mine other request asked apart h has has' asks sends live asks' free.
    let content = the_space c.args.space (now mine.doing).spaces in
    let fits : FitsSigned w16 c.args.code = search rules in
    let code = to_z w16 (of_z w16 c.args.code) in
    let with_code : ℤ → ℕ → Answer = λ z n. record { reply = Message z c.args.sender.0 n; content = content } in
    let message = with_code code in
    let passed = c.in_ok-number.ensures.passed kinds_of owns mine other request asked code c.args.sender.0 h has has' asks sends asks' in
    let number = c.in_ok-number.number.0 in
    let owed = handing c.args.from (plain Taken) mine c.args.to (message number) other owns in
    let told : Own → Own = λ o. with_doing (replied (plain Taken) o.doing) o in
    let gets : ℤ → ℕ → Own → Own = λ z n o. with_doing (replied (with_code z n) o.doing) o in
    let first = c.in_ok-answer_due.ensures.answered kinds_of owed mine (plain Taken) refl passed.1
    (owed_first owns c.args.from c.args.to apart mine other (plain Taken) (message number) has has') in
    let second = answers kinds_of (set owed c.args.from (paid (told mine))) other (message number) refl first
    (owed_second owns c.args.from c.args.to apart mine other (plain Taken) (message number) has has' (told mine)) in
    subst (λ (z : ℤ). Stand kinds_of c.answer_due-2.new.self (with_own c.args.to (gets z (next_number (now other.doing).spaces).0) (with_own c.args.from told owns)))
    (to_z-of_z w16 c.args.code fits)
    (subst (λ (n : ℕ). Stand kinds_of c.answer_due-2.new.self (with_own c.args.to (gets code n) (with_own c.args.from told owns))) passed.0
    (all_paid owns c.args.from c.args.to apart mine other (plain Taken) (message number) has has' kinds_of c.answer_due-2.new.self.pages
    c.answer_due-2.new.self.tasks told (gets code number) second)))
    c.answer_due-2.ensures.answered
