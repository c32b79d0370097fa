use Rattle.std.proofs.Common.{◌≡◌, length, map}
use Rattle.elan_lexer.specs.Tables.{lookup}
use Rattle.elan_lexer.proofs.tables.lookup.Given as goal

abbrev pub invariant-loop-table : goal.invariant-loop-table
invariant-loop-table g l =
    lookup (map (λ entry. (entry.0.now, entry.1)) l.table) l.spelling ≡ lookup (map (λ entry. (entry.0.now, entry.1)) l.initial.table) l.spelling

abbrev pub decreases-loop-table : goal.decreases-loop-table
decreases-loop-table g l = length l.table
