-- What function values do that parse what stands in other phrases.
use Rattle.std.specs.Prelude.{ℕ, ◌≤◌, List, Result}
use Rattle.std.specs.declared.alloc.Global.{Global}
use denote.Ref.{MutBor}
use denote.Param.Members.{Shared}
use Rattle.elan_tree.specs.declared.phrase.Expr.{Expr}
use Rattle.elan_tree.specs.declared.phrase.Unit.{Unit as Phrase}
use Rattle.elan_cursor.specs.declared.cursor.Cursor.{Cursor}
use Rattle.elan_grammar.specs.declared.error.ParseError.{ParseError}
use Rattle.elan_grammar.specs.declared.tall.Tall.{Tall}
use Rattle.elan_grammar.specs.Kinds.{word_level}
use Rattle.elan_grammar.specs.Rule.{Parses, Below}
use Rattle.elan_grammar.specs.Units.{phrases}
use Rattle.elan_grammar.specs.Depth.{expr_depth, unit_depth, deepest_of}
use Rattle.phrase_parser.specs.declared.inner.Inner.{Inner}

-- what a clause knows of such functions: when they may be called, and what they give
abbrev pub ExprFunction : Type 0 → Type 1
ExprFunction E =
    Shared E (Global × (MutBor Cursor × (ℕ × (ℕ × Unit {0})))) (Result (Tall Expr) ParseError × (MutBor Cursor × Unit {0}))

abbrev pub UnitsFunction : Type 0 → Type 1
UnitsFunction U =
    Shared U (Global × (MutBor Cursor × (ℕ × Unit {0}))) (Result (Tall (List Phrase)) ParseError × (MutBor Cursor × Unit {0}))

-- They parse expressions and units less deep than a depth.
pub record Nested {E U : Type 0} (expr_by : ExprFunction E) (units_by : UnitsFunction U)
    (depth : ℕ) (expression : E) (units : U) : Type 0 where
  pub expr_callable : (alloc : Global) (old : MutBor Cursor) (level : ℕ) → level ≤ word_level
      → expr_by.pre expression (alloc, (old, (depth, (level, tt))))
  pub expr_parses : (alloc : Global) (old new : MutBor Cursor) (level : ℕ) (r : Result (Tall Expr) ParseError)
      → expr_by.post expression (alloc, (old, (depth, (level, tt)))) (r, (new, tt))
      → Parses ((phrases depth).level level) expr_depth (Below depth) old.now.rest.now r new.now.rest.now
  pub unit_callable : (alloc : Global) (old : MutBor Cursor) → units_by.pre units (alloc, (old, (depth, tt)))
  pub unit_parses : (alloc : Global) (old new : MutBor Cursor) (r : Result (Tall (List Phrase)) ParseError)
      → units_by.post units (alloc, (old, (depth, tt))) (r, (new, tt))
      → Parses (phrases depth).units (deepest_of unit_depth) (Below depth) old.now.rest.now r new.now.rest.now

-- So do those that a form has for its parts.
abbrev pub Nests : {E U : Type 0} → ExprFunction E → UnitsFunction U → Inner E U → Type 0
Nests expr_by units_by forms = Nested expr_by units_by forms.depth forms.expression forms.units
