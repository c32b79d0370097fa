use Rattle.std.proofs.Common.{◌≡◌, ℕ, List, [], Result, Ok, Err}
use Rattle.std.specs.Prelude.{IfOk}
use Rattle.elan_types.specs.declared.core_phrase.Core.{Core}
use Rattle.packet_store.specs.Meaning.{means}
use Rattle.line_command.specs.Program.{Shows}
use Rattle.line_command.specs.Meaning.{Means, TextWrites, runs}
use Rattle.line_command.specs.Below.code_gen.proofs.Coding.{code_behaves}
use Rattle.line_command.proofs.Refusing.{refused_line}
use Rattle.line_command.proofs.line.respond.Goals as goal

-- a text that stands alone has no packets
without : (text : List ℕ) (core : Core) → Means text core → core.packets ≡ []
without text core (means t has reads m) = m.packets

shows_text : {E : Type 0} (text : List ℕ) (core : Core) (r : Result (List ℕ) E) → Means text core → IfOk r (Shows core) → IfOk r (TextWrites text)
shows_text text core (Ok out) m s = runs m s
shows_text text core (Err e) m s = tt

pub returns-in-Ok : goal.returns-in-Ok
returns-in-Ok c =
    let text = c.args.text.now in
    let core = c.in-Ok.unit.core in
    let m = c.in-Ok.ensures.unit.means in
    shows_text text core c.written-out.result m (c.written-out.ensures core (without text core m) (code_behaves core c.code.result.now c.code.ensures))

pub returns-in-Err-Refused : goal.returns-in-Err-Refused
returns-in-Err-Refused c =
    refused_line c.args.text.now c.in-Err-Refused.refusal c.refusal_line.result (rw c.in-Err-Refused.field-0-is at c.in-Err-Refused.ensures.refused) c.refusal_line.ensures
