-- A line has one form, which is the one that is read.
use Rattle.std.proofs.Common.{◌≡◌, ℕ, Bool, true, false, if◌then◌else◌, List, [], ◌∷◌, codes, bytes_eq, Option, Some, None}
use Rattle.std.proofs.Common.{Result, Ok, Err, IfOk, refl, ap, subst, sym, ◌∙◌}
use Rattle.std.proofs.lemmas.Slice.Eq.{bytes_eq-Decides}
use Rattle.elan_tree.specs.declared.token.Word.{Word}
use Rattle.elan_tree.specs.declared.token.Word.TheVariants.{Ident, Sign, Text}
use Rattle.elan_tree.specs.declared.token.Sign.TheVariants.{LeftRound, RightRound}
use Rattle.monitor.specs.declared.commands.Form.{Form}
use Rattle.monitor.specs.declared.commands.Form.TheVariants.{Blank, Enter, Run, Insert, Names, Program}
use Rattle.monitor.specs.Words.{text_in}
use Rattle.monitor.specs.Forms.{Spells, IsForm, HasOneForm, form_of, form_by}
use Rattle.monitor.proofs.Bracketed.{text_in-is}

-- what is spelled is read
spelled : (line : List Word) (form : Form) → Spells line form → form_of line ≡ form
spelled line Blank e = ap form_of e
spelled line (Enter x) e = ap form_of e
spelled line (Run x) e = ap form_of e
spelled line (Insert x) e = ap form_of e
spelled line Names e = ap form_of e
spelled line Program e = absurd e

-- a command that is read is spelled so
abbrev Reads : List Word → Form → Type 0
Reads line Program = Unit {0}
Reads line form = Spells line form

named : (name : List ℕ) (b : Bool) → bytes_eq name (codes "list") ≡ b → Reads (Ident name ∷ []) (if b then Names else Program)
named name true e = ap (λ n. Ident n ∷ []) ((bytes_eq-Decides name (codes "list")).0 e)
named name false e = tt

with_text :
    (name x : List ℕ) (behind : List Word) → behind ≡ Sign LeftRound ∷ (Text x ∷ (Sign RightRound ∷ []))
    → (e r i : Bool) → bytes_eq name (codes "enter") ≡ e → bytes_eq name (codes "run") ≡ r → bytes_eq name (codes "insert") ≡ i
    → Reads (Ident name ∷ behind) (if e then Enter x else if r then Run x else if i then Insert x else Program)
with_text name x behind s true r i p q t = let n = (bytes_eq-Decides name (codes "enter")).0 p in cc
with_text name x behind s false true i p q t = let n = (bytes_eq-Decides name (codes "run")).0 q in cc
with_text name x behind s false false true p q t = let n = (bytes_eq-Decides name (codes "insert")).0 t in cc
with_text name x behind s false false false p q t = tt

with_behind : (name : List ℕ) (behind : List Word) (t : Option (List ℕ)) → text_in behind ≡ t → Reads (Ident name ∷ behind) (form_by name t)
with_behind name behind (Some x) e = with_text name x behind (text_in-is behind x e) _ _ _ refl refl refl
with_behind name behind None e = tt

reads : (line : List Word) → Reads line (form_of line)
reads [] = refl
reads (Ident name ∷ []) = named name (bytes_eq name (codes "list")) refl
reads (Ident name ∷ (word ∷ behind)) = with_behind name (word ∷ behind) (text_in (word ∷ behind)) refl
reads (_ ∷ behind) = tt

is_read : (line : List Word) (form : Form) → form_of line ≡ form → Reads line form → IsForm line form
is_read line Blank e h = h
is_read line (Enter x) e h = h
is_read line (Run x) e h = h
is_read line (Insert x) e h = h
is_read line Names e h = h
is_read line Program e h = λ other s. subst (Spells line) (sym (spelled line other s) ∙ e) s

-- what is read is the line's form
pub is_form : (line : List Word) → IsForm line (form_of line)
is_form line = is_read line (form_of line) refl (reads line)

spells_nothing : (line : List Word) → ((other : Form) → Spells line other → ⊥) → (form : Form) → Reads line form → Program ≡ form
spells_nothing line h Blank r = absurd (h Blank r)
spells_nothing line h (Enter x) r = absurd (h (Enter x) r)
spells_nothing line h (Run x) r = absurd (h (Run x) r)
spells_nothing line h (Insert x) r = absurd (h (Insert x) r)
spells_nothing line h Names r = absurd (h Names r)
spells_nothing line h Program r = refl

only : (line : List Word) (form : Form) → IsForm line form → form ≡ form_of line
only line Blank h = sym (spelled line Blank h)
only line (Enter x) h = sym (spelled line (Enter x) h)
only line (Run x) h = sym (spelled line (Run x) h)
only line (Insert x) h = sym (spelled line (Insert x) h)
only line Names h = sym (spelled line Names h)
only line Program h = spells_nothing line h (form_of line) (reads line)

pub one_form : (line : List Word) → HasOneForm line
one_form line = (form_of line, (is_form line, only line))

pub answered : {E : Type 0} (r : Result Form E) (line : List Word) → IfOk r (λ form. form ≡ form_of line) → IfOk r (λ form. IsForm line form)
answered (Ok form) line e = subst (IsForm line) (sym e) (is_form line)
answered (Err error) line e = tt
