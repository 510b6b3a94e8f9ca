-- What is left to prove of `column_of`: its clauses, by `ColumnLemmas`.
use Rattle.std.proofs.Common.{ap, sym, ◌∙◌, arith}
use Rattle.schema_grammar.specs.Words.{is_word_token}
use Rattle.desk_references.proofs.ColumnLemmas.{among, double_word, found_word, next_column, no_word, no_word_kind, not_among, not_found, one_too_many, word_kind}
use Rattle.desk_references.proofs.columns.column_of.Goals as goal

pub returns-in-Err-clause-err : goal.returns-in-Err-clause-err
returns-in-Err-clause-err c = λ earlier m named kind_is word_is.
    not_found c.args.names.now earlier c.args.before.now named m c.args.kind _ c.in-Err.why
    (ap is_word_token kind_is ∙ word_kind c.args.kind c.in-Identifier.is) kind_is word_is (sym c.look_up.ensures.exact ∙ c.in-Err.is)

pub returns-then-contains-clause-err : goal.returns-then-contains-clause-err
returns-then-contains-clause-err c = λ earlier m named kind_is word_is.
    let names = c.args.names.now in
    let column = c.in-Ok.column in
    let word = ap is_word_token kind_is ∙ word_kind c.args.kind c.in-Identifier.is in
    let found = found_word names m c.args.kind _ column kind_is word_is (sym c.look_up.ensures.exact ∙ c.in-Ok.is) in
    double_word names earlier c.args.before.now named m word found.0 column found.1
    (among c.args.before.now column c.contains.result c.contains.ensures.value c.if-contains.true)

pub returns-then-before-ge-MOST_LISTED_COLUMNS-clause-err : goal.returns-then-before-ge-MOST_LISTED_COLUMNS-clause-err
returns-then-before-ge-MOST_LISTED_COLUMNS-clause-err c = λ earlier m named kind_is word_is.
    let names = c.args.names.now in
    let column = c.in-Ok.column in
    let word = ap is_word_token kind_is ∙ word_kind c.args.kind c.in-Identifier.is in
    let found = found_word names m c.args.kind _ column kind_is word_is (sym c.look_up.ensures.exact ∙ c.in-Ok.is) in
    one_too_many names earlier c.args.before.now named m word found.0 column found.1
    (not_among c.args.before.now column c.contains.result c.contains.ensures.value c.if-contains.false)
    (omega (arith, c.if-before-ge-MOST_LISTED_COLUMNS.true))

pub returns-else-before-ge-MOST_LISTED_COLUMNS-clause-column : goal.returns-else-before-ge-MOST_LISTED_COLUMNS-clause-column
returns-else-before-ge-MOST_LISTED_COLUMNS-clause-column c = λ earlier m named kind_is word_is.
    let names = c.args.names.now in
    let column = c.in-Ok.column in
    let word = ap is_word_token kind_is ∙ word_kind c.args.kind c.in-Identifier.is in
    let found = found_word names m c.args.kind _ column kind_is word_is (sym c.look_up.ensures.exact ∙ c.in-Ok.is) in
    next_column names earlier c.args.before.now named m word found.0 column found.1
    (not_among c.args.before.now column c.contains.result c.contains.ensures.value c.if-contains.false)
    (omega (arith, c.if-before-ge-MOST_LISTED_COLUMNS.false))

pub returns-in_default : goal.returns-in_default
returns-in_default c = record {
  column = λ earlier m named kind_is word_is. tt;
  err = λ earlier m named kind_is word_is.
      no_word c.args.names.now earlier c.args.before.now named m c.wanted_after.result
      (ap is_word_token kind_is ∙ no_word_kind c.args.kind c.in_default.not-Identifier c.in_default.not-Quoted) c.wanted_after.ensures.wanted;
}
