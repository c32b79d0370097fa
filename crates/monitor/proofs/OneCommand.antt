-- A line has one command, which is the one that is read.
use Rattle.std.proofs.Common.{◌≡◌, inl, inr, ℕ, Bool, true, false, if◌then◌else◌, List, [], ◌∷◌, codes, bytes_eq, Option, Some, None}
use Rattle.std.proofs.Common.{Result, Ok, Err, IfOk, refl, ap, subst, sym, ◌∙◌}
use Rattle.std.proofs.lemmas.Slice.Eq.{bytes_eq-Decides}
use Rattle.elan_tree.specs.declared.token.Word.{Word}
use Rattle.elan_tree.specs.declared.token.Word.TheVariants.{Ident, Sign, Text}
use Rattle.elan_tree.specs.declared.token.Sign.TheVariants.{LeftRound, RightRound, Comma}
use Rattle.monitor.specs.declared.commands.Command.{Command}
use Rattle.monitor.specs.declared.commands.Command.TheVariants.{Blank, Begin, Continue, Halt, TaskInfo, StorageInfo, Unknown}
use Rattle.monitor.specs.Words.{text_in, texts_in}
use Rattle.monitor.specs.Commands.{Spells, IsCommand, HasOneCommand, command_of, command_by}
use Rattle.monitor.proofs.Bracketed.{text_in-is, texts_in-is}

-- what is spelled is read
spelled : (line : List Word) (command : Command) → Spells line command → command_of line ≡ command
spelled line Blank e = ap command_of e
spelled line (Begin name father) (inl e) = ap command_of e
spelled line (Begin name father) (inr p) = ap command_of p.0 ∙ ap (λ f. Begin name f) (sym p.1)
spelled line (Continue x) e = ap command_of e
spelled line Halt e = ap command_of e
spelled line TaskInfo e = ap command_of e
spelled line StorageInfo e = ap command_of e
spelled line Unknown e = absurd e

-- a command that is read is spelled so
abbrev Reads : List Word → Command → Type 0
Reads line Unknown = Unit {0}
Reads line command = Spells line command

alone :
    (name : List ℕ) (h t s : Bool) → bytes_eq name (codes "halt") ≡ h → bytes_eq name (codes "taskinfo") ≡ t → bytes_eq name (codes "storageinfo") ≡ s
    → Reads (Ident name ∷ []) (if h then Halt else if t then TaskInfo else if s then StorageInfo else Unknown)
alone name true t s p q r = let n = (bytes_eq-Decides name (codes "halt")).0 p in cc
alone name false true s p q r = let n = (bytes_eq-Decides name (codes "taskinfo")).0 q in cc
alone name false false true p q r = let n = (bytes_eq-Decides name (codes "storageinfo")).0 r in cc
alone name false false false p q r = tt

with_text :
    (name x : List ℕ) (behind : List Word) → behind ≡ Sign LeftRound ∷ (Text x ∷ (Sign RightRound ∷ []))
    → (b c : Bool) → bytes_eq name (codes "begin") ≡ b → bytes_eq name (codes "continue") ≡ c
    → Reads (Ident name ∷ behind) (if b then Begin x (codes "PUBLIC") else if c then Continue x else Unknown)
with_text name x behind s true c p q = let n = (bytes_eq-Decides name (codes "begin")).0 p in inr (cc, refl)
with_text name x behind s false true p q = let n = (bytes_eq-Decides name (codes "continue")).0 q in cc
with_text name x behind s false false p q = tt

with_two :
    (name x y : List ℕ) (behind : List Word) → behind ≡ Sign LeftRound ∷ (Text x ∷ (Sign Comma ∷ (Text y ∷ (Sign RightRound ∷ []))))
    → (b : Bool) → bytes_eq name (codes "begin") ≡ b → Reads (Ident name ∷ behind) (if b then Begin x y else Unknown)
with_two name x y behind s true p = let n = (bytes_eq-Decides name (codes "begin")).0 p in inl cc
with_two name x y behind s false p = tt

with_behind :
    (name : List ℕ) (behind : List Word) (t : Option (List ℕ)) (p : Option (List ℕ × List ℕ))
    → text_in behind ≡ t → texts_in behind ≡ p → Reads (Ident name ∷ behind) (command_by name t p)
with_behind name behind (Some x) p e f = with_text name x behind (text_in-is behind x e) _ _ refl refl
with_behind name behind None (Some (x, y)) e f = with_two name x y behind (texts_in-is behind x y f) _ refl
with_behind name behind None None e f = tt

reads : (line : List Word) → Reads line (command_of line)
reads [] = refl
reads (Ident name ∷ []) = alone name _ _ _ refl refl refl
reads (Ident name ∷ (word ∷ behind)) = with_behind name (word ∷ behind) _ _ refl refl
reads (_ ∷ behind) = tt

is_read : (line : List Word) (command : Command) → command_of line ≡ command → Reads line command → IsCommand line command
is_read line Blank e h = h
is_read line (Begin name father) e h = h
is_read line (Continue x) e h = h
is_read line Halt e h = h
is_read line TaskInfo e h = h
is_read line StorageInfo e h = h
is_read line Unknown e h = λ other s. subst (Spells line) (sym (spelled line other s) ∙ e) s

-- what is read is the line's command
pub is_command : (line : List Word) → IsCommand line (command_of line)
is_command line = is_read line (command_of line) refl (reads line)

spells_nothing : (line : List Word) → ((other : Command) → Spells line other → ⊥) → (command : Command) → Reads line command → Unknown ≡ command
spells_nothing line h Blank r = absurd (h Blank r)
spells_nothing line h (Begin name father) r = absurd (h (Begin name father) r)
spells_nothing line h (Continue x) r = absurd (h (Continue x) r)
spells_nothing line h Halt r = absurd (h Halt r)
spells_nothing line h TaskInfo r = absurd (h TaskInfo r)
spells_nothing line h StorageInfo r = absurd (h StorageInfo r)
spells_nothing line h Unknown r = refl

only : (line : List Word) (command : Command) → IsCommand line command → command ≡ command_of line
only line Blank h = sym (spelled line Blank h)
only line (Begin name father) h = sym (spelled line (Begin name father) h)
only line (Continue x) h = sym (spelled line (Continue x) h)
only line Halt h = sym (spelled line Halt h)
only line TaskInfo h = sym (spelled line TaskInfo h)
only line StorageInfo h = sym (spelled line StorageInfo h)
only line Unknown h = spells_nothing line h (command_of line) (reads line)

pub one_command : (line : List Word) → HasOneCommand line
one_command line = (command_of line, (is_command line, only line))

pub answered : {E : Type 0} (r : Result Command E) (line : List Word) → IfOk r (λ c. c ≡ command_of line) → IfOk r (λ c. IsCommand line c)
answered (Ok command) line e = subst (IsCommand line) (sym e) (is_command line)
answered (Err error) line e = tt
