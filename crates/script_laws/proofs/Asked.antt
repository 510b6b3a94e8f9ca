-- A query is a statement of a script, so a text has one query.
use Rattle.std.proofs.Common.{◌≡◌, List, [], ◌∷◌, ◌++◌, ap}
use Rattle.std.specs.Prelude.{codes}
use Rattle.std.proofs.lemmas.List.Elements.{All-nil, All-cons}
use Rattle.sql_syntax.specs.Printing.{query_text}
use Rattle.sql_syntax.specs.Syntax.{Query, one_row}
use Rattle.sql_syntax.specs.Statements.{Statement, ask, statement_text, script_text}
use Rattle.script_texts.specs.Queries.{IsQuery}
use Rattle.script_texts.specs.Scripts.{IsStatement, IsScript}
use Rattle.script_texts.proofs.Statements.{one_script}

asked_is : (q : Query) → IsQuery q → IsScript (ask q ∷ [])
asked_is q is = All-cons IsStatement (ask q) [] is (All-nil IsStatement)

asked_text : (q other : Query) → query_text q ≡ query_text other
    → script_text (ask q ∷ []) ≡ script_text (ask other ∷ [])
unfolding statement_text
asked_text q other same = ap (λ (t : List _). (t ++ codes ";\n") ++ []) same

abbrev first_asked : List Statement → Query
first_asked (ask q ∷ rest) = q
first_asked script = one_row []

pub one_query : (q other : Query) → IsQuery q → IsQuery other → query_text q ≡ query_text other → q ≡ other
one_query q other is other_is same =
    ap first_asked (one_script (ask q ∷ []) (ask other ∷ []) (asked_is q is) (asked_is other other_is)
    (asked_text q other same))
