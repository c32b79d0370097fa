-- The forms of a line at an idle task.
use Rattle.std.specs.Prelude.{◌≡◌, ℕ, if◌then◌else◌, List, [], ◌∷◌, bytes_eq, codes, Option, Some, None}
use Rattle.elan_tree.specs.declared.token.Word.{Word}
use Rattle.elan_tree.specs.declared.token.Word.TheVariants.{Ident}
use Rattle.monitor.specs.declared.commands.Form.{Form}
use Rattle.monitor.specs.declared.commands.Form.TheVariants.{Blank, Enter, Run, Insert, Names, Program}
use Rattle.monitor.specs.Words.{alone, with_text, text_in}

-- how a command of the monitor is spelled
abbrev pub Spells : List Word → Form → Type 0
Spells line Blank = line ≡ []
Spells line (Enter x) = line ≡ with_text (codes "enter") x
Spells line (Run x) = line ≡ with_text (codes "run") x
Spells line (Insert x) = line ≡ with_text (codes "insert") x
Spells line Names = line ≡ alone (codes "list")
Spells line Program = ⊥

-- a line is the command that it spells, and a program exactly where it spells none
abbrev pub IsForm : List Word → Form → Type 0
IsForm line Program = (other : Form) → ¬ Spells line other
IsForm line form = Spells line form

abbrev pub HasOneForm : List Word → Type 0
HasOneForm line = (form : Form) × (IsForm line form × ((other : Form) → IsForm line other → other ≡ form))

-- ---- the same, read from the front

abbrev pub form_with : List ℕ → List ℕ → Form
form_with name x =
    if bytes_eq name (codes "enter") then Enter x
    else if bytes_eq name (codes "run") then Run x
    else if bytes_eq name (codes "insert") then Insert x
    else Program

abbrev pub form_by : List ℕ → Option (List ℕ) → Form
form_by name (Some x) = form_with name x
form_by name None = Program

abbrev pub form_named : List ℕ → List Word → Form
form_named name [] = if bytes_eq name (codes "list") then Names else Program
form_named name (word ∷ behind) = form_by name (text_in (word ∷ behind))

-- the form of a line
abbrev pub form_of : List Word → Form
form_of [] = Blank
form_of (Ident name ∷ behind) = form_named name behind
form_of _ = Program
