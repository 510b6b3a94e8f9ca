-- What the loop of `cut_statement` keeps: `IsScanned`; and by what it ends.
use Rattle.std.proofs.Common.{length}
use Rattle.sql_lexemes.specs.Statements.{scan_from}
use Rattle.sql_lexemes.proofs.Scans.{IsScanned}
use Rattle.sql_lexemes.proofs.statement.cut_statement.Given as goal

abbrev pub invariant-pieces : goal.invariant-pieces
invariant-pieces l =
    IsScanned l.dialect (scan_from l.fn.text.before l.fn.text.place) l.fn.text.text.now
    (record { before = l.before; place = l.place; end = l.end; depth = l.depth; lexemes = l.lexemes.items }) l.rest

abbrev pub decreases-pieces : goal.decreases-pieces
decreases-pieces l = length l.rest
