-- What a function value does that parses what stands in types.
use Rattle.std.specs.Prelude.{ℕ, Result}
use Rattle.std.specs.declared.alloc.Global.{Global}
use denote.Ref.{MutBor}
use denote.Param.Members.{Shared}
use Rattle.elan_tree.specs.declared.written_type.TypePhrase.{TypePhrase}
use Rattle.elan_cursor.specs.declared.cursor.Cursor.{Cursor}
use Rattle.elan_grammar.specs.declared.error.ParseError.{ParseError}
use Rattle.elan_grammar.specs.declared.tall.Tall.{Tall}
use Rattle.elan_grammar.specs.Rule.{Parses, AtMost}
use Rattle.elan_grammar.specs.Types.{types}
use Rattle.elan_grammar.specs.Depth.{type_depth}
use Rattle.phrase_parser.specs.declared.type_phrases.TypeRules.{TypeRules}

-- what a clause knows of such a function: when it may be called, and what it gives
abbrev pub TypeFunction : Type 0 → Type 1
TypeFunction F =
    Shared F (Global × (MutBor Cursor × (ℕ × Unit {0}))) (Result (Tall TypePhrase) ParseError × (MutBor Cursor × Unit {0}))

-- The rules' inner function parses the types to their depth.
pub record Nests {F : Type 0} (types_by : TypeFunction F) (rules : TypeRules F) : Type 0 where
  pub callable : (alloc : Global) (old : MutBor Cursor) → types_by.pre rules.inner (alloc, (old, (rules.depth, tt)))
  pub parses : (alloc : Global) (old new : MutBor Cursor) (r : Result (Tall TypePhrase) ParseError)
      → types_by.post rules.inner (alloc, (old, (rules.depth, tt))) (r, (new, tt))
      → Parses (types rules.depth) type_depth (AtMost rules.depth) old.now.rest.now r new.now.rest.now
