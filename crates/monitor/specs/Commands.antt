-- The forms of a line at the supervisor.
use Rattle.std.specs.Prelude.{◌≡◌, ◌⊎◌, ℕ, if◌then◌else◌, List, [], ◌∷◌, bytes_eq, codes, Option, Some, None}
use Rattle.elan_tree.specs.declared.token.Word.{Word}
use Rattle.elan_tree.specs.declared.token.Word.TheVariants.{Ident}
use Rattle.monitor.specs.declared.commands.Command.{Command}
use Rattle.monitor.specs.declared.commands.Command.TheVariants.{Blank, Begin, Continue, Halt, TaskInfo, StorageInfo}
use Rattle.monitor.specs.declared.commands.Command.TheVariants.{Unknown}
use Rattle.monitor.specs.Words.{alone, with_text, with_texts, text_in, texts_in}

-- how a command of the supervisor is spelled, without the spaces of its name; where no father is named it is PUBLIC
abbrev pub Spells : List Word → Command → Type 0
Spells line Blank = line ≡ []
Spells line (Begin name father) =
    (line ≡ with_texts (codes "begin") name father)
    ⊎ ((line ≡ with_text (codes "begin") name) × (father ≡ codes "PUBLIC"))
Spells line (Continue name) = line ≡ with_text (codes "continue") name
Spells line Halt = line ≡ alone (codes "halt")
Spells line TaskInfo = line ≡ alone (codes "taskinfo")
Spells line StorageInfo = line ≡ alone (codes "storageinfo")
Spells line Unknown = ⊥

-- a line is the command that it spells, and unknown exactly where it spells none
abbrev pub IsCommand : List Word → Command → Type 0
IsCommand line Unknown = (other : Command) → ¬ Spells line other
IsCommand line command = Spells line command

abbrev pub HasOneCommand : List Word → Type 0
HasOneCommand line =
    (command : Command) × (IsCommand line command × ((other : Command) → IsCommand line other → other ≡ command))

-- ---- the same, read from the front

abbrev pub command_alone : List ℕ → Command
command_alone name =
    if bytes_eq name (codes "halt") then Halt
    else if bytes_eq name (codes "taskinfo") then TaskInfo
    else if bytes_eq name (codes "storageinfo") then StorageInfo
    else Unknown

abbrev pub command_with : List ℕ → List ℕ → Command
command_with name x =
    if bytes_eq name (codes "begin") then Begin x (codes "PUBLIC")
    else if bytes_eq name (codes "continue") then Continue x
    else Unknown

abbrev pub command_with_two : List ℕ → List ℕ → List ℕ → Command
command_with_two name x y = if bytes_eq name (codes "begin") then Begin x y else Unknown

abbrev pub command_by : List ℕ → Option (List ℕ) → Option (List ℕ × List ℕ) → Command
command_by name (Some x) two = command_with name x
command_by name None (Some p) = command_with_two name p.0 p.1
command_by name None None = Unknown

abbrev pub command_named : List ℕ → List Word → Command
command_named name [] = command_alone name
command_named name (word ∷ behind) = command_by name (text_in (word ∷ behind)) (texts_in (word ∷ behind))

-- the command of a line
abbrev pub command_of : List Word → Command
command_of [] = Blank
command_of (Ident name ∷ behind) = command_named name behind
command_of _ = Unknown
