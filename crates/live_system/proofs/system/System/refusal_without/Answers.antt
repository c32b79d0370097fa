use Rattle.std.proofs.Common.{◌≡◌, true, false, Option, refl, sym, ap, ◌∙◌, subst}
use Rattle.std.proofs.lemmas.Bool.{false≢true}
use Rattle.eu_base.specs.DataSpaces.{heads_of, is_live, without_space}
use Rattle.eu_base.specs.SpaceOperations.{room_refusal}
use Rattle.live_system.specs.Below.system_meaning.specs.Stores.{Store}
use Rattle.live_system.specs.Below.system_meaning.specs.Tasks.{Doing}
use Rattle.live_system.specs.Below.system_meaning.specs.Systems.{kept_by}
use Rattle.live_system.specs.Below.system_meaning.specs.Serving.{space_number}
use Rattle.live_packets.specs.Packets.{kinds_in}
use Rattle.live_system.proofs.Moments.{here, found, none_looked}
use Rattle.live_system.proofs.Waiting.{keeps}
use Rattle.live_system.proofs.system.System.refusal_without.Goals as goal

pub returns-in-Some : goal.returns-in-Some
returns-in-Some c = λ m there s.
    let h = here c.self.inside.desk c.self.inside.packets c.self.inside.tasks c.args.self.now c.self.view_is m s in
    let o = found c.self.inside.desk c.self.inside.packets c.self.inside.tasks c.args.self.now c.self.view_is m h c.in-Some.place c.in-Some.ensures.within in
    let same = keeps c.self.inside.desk c.self.inside.packets c.self.inside.tasks c.args.self.now c.self.view_is m h c.args.task c.in-Some.place c.in-Some.ensures.place o.0 o.1 in
    c.refusal_without.ensures (kinds_in c.self.inside.packets) h.owns o.0 (space_number c.args.space) h.stand o.1
    (subst (λ (st : Store). is_live (space_number c.args.space) st.spaces ≡ true) same there)
    ∙ ap (λ (st : Store). room_refusal (heads_of (without_space (space_number c.args.space) st.spaces))) (sym same)

pub returns-in-None : goal.returns-in-None
returns-in-None c = λ m there s.
    absurd (false≢true (none_looked c.self.inside.desk c.self.inside.packets c.self.inside.tasks c.args.self.now c.self.view_is
    (λ (d : Option Doing). is_live (space_number c.args.space) (kept_by d).spaces) c.args.task c.in-None.ensures.place false refl m s
    ∙ there))
