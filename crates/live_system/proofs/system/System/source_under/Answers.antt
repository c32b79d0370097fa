use Rattle.std.proofs.Common.{Option, refl, sym, ap, ◌∙◌}
use Rattle.live_system.specs.Below.system_meaning.specs.Stores.{space_under}
use Rattle.live_system.specs.Below.system_meaning.specs.Tasks.{Doing, now}
use Rattle.live_system.specs.Below.system_meaning.specs.Systems.{kept_by}
use Rattle.live_system.specs.declared.what.SourceText.TheVariants as sources
use Rattle.live_system.specs.Texts.{source_of, as_told}
use Rattle.live_system.proofs.Told.{told_source, told_short}
use Rattle.live_packets.specs.Packets.{kinds_in}
use Rattle.live_system.proofs.Moments.{none_looked, task_looked, same_owns}
use Rattle.live_system.proofs.system.System.source_under.Goals as goal

pub returns-in-None-clause-source : goal.returns-in-None-clause-source
returns-in-None-clause-source c =
    none_looked c.self.inside.desk c.self.inside.packets c.self.inside.tasks c.args.self.now c.self.view_is
    (λ (d : Option Doing). source_of (space_under c.args.name.now (kept_by d))) c.args.task c.in-None.ensures.place sources.NoSpace refl

pub returns-in_ok-source_under-in-Some-clause-source : goal.returns-in_ok-source_under-in-Some-clause-source
returns-in_ok-source_under-in-Some-clause-source c =
    task_looked c.self.inside.desk c.self.inside.packets c.self.inside.tasks c.args.self.now c.self.view_is
    (λ (d : Option Doing). source_of (space_under c.args.name.now (kept_by d))) c.args.task c.in-Some.place c.in-Some.ensures.place c.in-Some.ensures.within c.told.result
    (λ kinds_of owns o stand has. c.told.ensures ∙ ap as_told (c.in_ok-source_under-in-Some.ensures.source kinds_of owns o stand has)
    ∙ told_source (space_under c.args.name.now (now o.doing)))

pub returns-in_ok-source_under-in-Some-clause-short : goal.returns-in_ok-source_under-in-Some-clause-short
returns-in_ok-source_under-in-Some-clause-short c = λ text is. told_short c.in_ok-source_under-in-Some.field-0 text c.in_ok-source_under-in-Some.ensures.short (sym c.told.ensures ∙ is)

pub returns-in_ok-source_under-in-Some-clause-kept : goal.returns-in_ok-source_under-in-Some-clause-kept
returns-in_ok-source_under-in-Some-clause-kept c = λ m s.
    same_owns c.self.inside.desk c.self.inside.packets c.self.inside.tasks c.args.self.now c.self.view_is c.source_under.new.self
    (λ owns stand. c.in_ok-source_under-in-Some.ensures.kept (kinds_in c.self.inside.packets) owns stand) m s

pub returns-in_err-source_under-in-Some-clause-kept : goal.returns-in_err-source_under-in-Some-clause-kept
returns-in_err-source_under-in-Some-clause-kept c = λ m s.
    same_owns c.self.inside.desk c.self.inside.packets c.self.inside.tasks c.args.self.now c.self.view_is c.source_under.new.self
    (λ owns stand. c.in_err-source_under-in-Some.ensures.kept (kinds_in c.self.inside.packets) owns stand) m s
