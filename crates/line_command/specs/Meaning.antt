-- What the text of a program means, why it is refused, and what it writes.
use Rattle.std.specs.Prelude.{ℕ, false, List, ◌++◌, codes}
use Rattle.elan_types.specs.declared.core_phrase.Core.{Core}
use Rattle.line_command.specs.Below.units.specs.Packets.{nothing}
use Rattle.line_command.specs.Below.units.specs.declared.error.Refusal.{Refusal}
use Rattle.packet_store.specs.Meaning as behind
use Rattle.line_command.specs.Below.units.specs.Refusals.{refusal_text}
use Rattle.line_command.specs.Program.{Shows}

-- The text, which stands behind no packets, has this meaning as a program.
abbrev pub Means : List ℕ → Core → Type 0
Means text core = behind.Means nothing false text core

-- The text is refused so.
abbrev pub IsRefused : List ℕ → Refusal → Type 0
IsRefused text r = behind.IsRefused nothing false text r

-- the line that refuses a text
abbrev pub refusal_line : Refusal → List ℕ → List ℕ
refusal_line r text = refusal_text r text ++ codes "\n"

-- what the text of a program writes
pub data TextWrites (text : List ℕ) : List ℕ → Type 0 where
  runs : {core : Core} {out : List ℕ} → Means text core → Shows core out → TextWrites text out
  refused : {r : Refusal} → IsRefused text r → TextWrites text (refusal_line r text)
