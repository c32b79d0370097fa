use Rattle.std.proofs.Common.{◌≡◌, ℤ, true, Option, None, to_z, of_z, refl, sym, ◌∙◌, subst}
use Rattle.std.specs.Int.{w16}
use Rattle.std.proofs.lemmas.Int.{to_z-of_z}
use Rattle.std.specs.Option.{option_and_then}
use Rattle.std.proofs.lemmas.Option.{none-some}
use Rattle.std.proofs.lemmas.Result.{on_ok_weaker}
use Rattle.eu_base.specs.declared.request.Reply.TheVariants.{Taken}
use Rattle.eu_base.specs.Requests.{Answer, plain}
use Rattle.eu_base.specs.DataSpaces.{heads_of, is_live}
use Rattle.eu_base.specs.SpaceOperations.{room_refusal}
use Rattle.live_system.specs.Below.system_meaning.specs.Stores.{Store}
use Rattle.live_system.specs.Below.system_meaning.specs.Tasks.{Doing, now, request_of}
use Rattle.live_system.specs.Below.system_meaning.specs.Systems.{given, on_system}
use Rattle.live_system.specs.Below.system_meaning.specs.Serving.{content, message, space_number}
use Rattle.live_packets.specs.Packets.{kinds_in}
use Rattle.live_system.specs.Machines.{StandsAt}
use Rattle.live_system.proofs.Moments.{machine, here, found, none_looked}
use Rattle.live_system.proofs.Waiting.{keeps, asks, are_apart, both_answered, message_of, message_is}
use Rattle.live_system.proofs.system.System.hand.Goals as goal

pub returns-in_default : goal.returns-in_default
returns-in_default c = λ m request asked differ asks_so sends there asks_too room s.
    absurd (none-some request (none_looked c.self.inside.desk c.self.inside.packets c.self.inside.tasks c.args.self.now c.self.view_is
    (λ (d : Option Doing). option_and_then request_of d) c.args.from c.in_default.ensures.place None refl m s ∙ asks_so))

pub returns-in_default-place_of : goal.returns-in_default-place_of
returns-in_default-place_of c = λ m request asked differ asks_so sends there asks_too room s.
    absurd (none-some asked (none_looked c.self.inside.desk c.self.inside.packets c.self.inside.tasks c.args.self.now c.self.view_is
    (λ (d : Option Doing). option_and_then request_of d) c.args.to c.in_default-place_of.ensures.place None refl m s ∙ asks_too))

pub returns : goal.returns
returns c =
    on_ok_weaker c.hand.result
    (λ handed m request asked differ asks_so sends there asks_too room s.
    let h = here c.self.inside.desk c.self.inside.packets c.self.inside.tasks c.args.self.now c.self.view_is m s in
    let mine = found c.self.inside.desk c.self.inside.packets c.self.inside.tasks c.args.self.now c.self.view_is m h c.in-Some.sender c.in-Some.ensures.within in
    let other = found c.self.inside.desk c.self.inside.packets c.self.inside.tasks c.args.self.now c.self.view_is m h c.in-Some-place_of.receiver c.in-Some-place_of.ensures.within in
    let keeps_mine = keeps c.self.inside.desk c.self.inside.packets c.self.inside.tasks c.args.self.now c.self.view_is m h c.args.from c.in-Some.sender c.in-Some.ensures.place mine.0 mine.1 in
    let keeps_other = keeps c.self.inside.desk c.self.inside.packets c.self.inside.tasks c.args.self.now c.self.view_is m h c.args.to c.in-Some-place_of.receiver c.in-Some-place_of.ensures.place other.0 other.1 in
    let asks_mine = asks c.self.inside.desk c.self.inside.packets c.self.inside.tasks c.args.self.now c.self.view_is m h c.args.from c.in-Some.sender c.in-Some.ensures.place mine.0 mine.1 in
    let asks_other = asks c.self.inside.desk c.self.inside.packets c.self.inside.tasks c.args.self.now c.self.view_is m h c.args.to c.in-Some-place_of.receiver c.in-Some-place_of.ensures.place other.0 other.1 in
    let apart = are_apart c.self.inside.desk c.self.inside.packets c.self.inside.tasks c.args.self.now c.self.view_is m h c.args.from c.args.to c.in-Some.sender c.in-Some-place_of.receiver c.in-Some.ensures.place c.in-Some-place_of.ensures.place differ in
    let passed = to_z w16 (of_z w16 c.args.code) in
    let made = message_of passed c.args.from c.args.space (now mine.0.doing) (now other.0.doing) in
    subst (λ (code : ℤ). StandsAt (machine c.self.inside.desk c.self.inside.packets c.hand.new.self)
    (on_system (given c.args.to (message code c.args.from (content c.args.from c.args.space m.system) c.args.to m.system)) (on_system (given c.args.from (plain Taken)) m)))
    (to_z-of_z w16 c.args.code c.ranges.code)
    (subst (λ (a : Answer). StandsAt (machine c.self.inside.desk c.self.inside.packets c.hand.new.self) (on_system (given c.args.to a) (on_system (given c.args.from (plain Taken)) m)))
    (message_is passed c.args.from c.args.to c.args.space m.system (now mine.0.doing) (now other.0.doing) keeps_mine keeps_other)
    (both_answered c.self.inside.desk c.self.inside.packets c.self.inside.tasks c.args.self.now c.self.view_is m h c.args.from c.args.to c.in-Some.sender c.in-Some-place_of.receiver c.in-Some.ensures.place c.in-Some-place_of.ensures.place (plain Taken) made c.hand.new.self
    (handed (kinds_in c.self.inside.packets) h.owns mine.0 other.0 request asked apart h.stand mine.1 other.1 (sym asks_mine ∙ asks_so) sends
    (subst (λ (st : Store). is_live (space_number c.args.space) st.spaces ≡ true) keeps_mine there) (sym asks_other ∙ asks_too)
    (subst (λ (st : Store). room_refusal (heads_of st.spaces) ≡ None) keeps_other room)))))
    c.hand.ensures
