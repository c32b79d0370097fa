-- What VAR and CONST declare: the two are read alike.
use Rattle.std.specs.Prelude.{◌≡◌, ◌≢◌, ℕ, Bool, true, false, if◌then◌else◌, List, Result, Ok, Err}
use Rattle.elan_tree.specs.declared.token.Key.TheVariants as key
use Rattle.elan_tree.specs.declared.token.Sign.TheVariants as sign
use Rattle.elan_tree.specs.declared.written_type.Access.{Access}
use Rattle.elan_tree.specs.declared.written_type.Access.TheVariants as access
use Rattle.elan_tree.specs.declared.written_type.TypePhrase.{TypePhrase}
use Rattle.elan_tree.specs.declared.phrase.Item.{Item}
use Rattle.elan_tree.specs.declared.phrase.Unit.{Unit as Phrase}
use Rattle.elan_tree.specs.declared.phrase.Unit.TheVariants as u
use Rattle.elan_grammar.specs.declared.error.ParseError.{ParseError}
use Rattle.elan_grammar.specs.declared.error.ParseError.TheVariants.{NoMemory}
use Rattle.elan_grammar.specs.Rule.{Tokens, Rule, listed}
use Rattle.elan_grammar.specs.Terminals.{keyword, mark, init_mark}
use Rattle.elan_grammar.specs.Expressions.{Language}
use Rattle.elan_grammar.specs.Units as units

-- VAR or CONST was read: a declaration is one of variables exactly where VAR stands next.
abbrev pub Declares : Tokens → Result Access ParseError → Tokens → Type 0
Declares old (Ok access.Var) new = ((keyword key.Var).starts old ≡ true) × (at : ℕ) × ((keyword key.Var).run old ≡ Ok (at, new))
Declares old (Ok access.Const) new = ((keyword key.Var).starts old ≡ false) × (at : ℕ) × ((keyword key.Const).run old ≡ Ok (at, new))
Declares old (Err e) new = ((keyword key.Var).starts old ≡ false) × (e ≢ NoMemory → (keyword key.Const).run old ≡ Err e)

-- No initial value stands behind the name, and none has to.
abbrev pub is_bare : Access → Tokens → Bool
is_bare access.Var xs = if init_mark.starts xs then false else true
is_bare access.Const xs = false

abbrev pub item : Access → Language → ℕ → Rule Item
item access.Var inner n = units.item inner n
item access.Const inner n = units.constant_item inner n

abbrev pub items : Access → Language → ℕ → Rule (List Item)
items a inner n = listed (mark sign.Comma) (item a inner n)

abbrev pub declaration_of : Access → ℕ → TypePhrase → List Item → Phrase
declaration_of access.Var at of row = u.Variables at of row
declaration_of access.Const at of row = u.Constants at of row
