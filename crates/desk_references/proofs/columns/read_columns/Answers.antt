-- What is left to prove of `read_columns`: how its loop ends and that a round of it keeps the invariant, by
-- `ReadingLemmas`.
use Rattle.std.proofs.Common.{◌≡◌, ◌++◌, ◌∷◌, [], ℕ, List, true, ◌==◌, length, refl, sym, subst, take, vec_len, ◌∙◌, arith}
use Rattle.std.proofs.lemmas.Bool.{eqb-true}
use Rattle.lexer.specs.Tokens.{Mark}
use Rattle.schema_grammar.specs.Declarations.{mark_of}
use Rattle.tokens.specs.Views.{rest_of}
use Rattle.std.specs.List.{AllZip}
use Rattle.desk_references.specs.ColumnLists.{NamesColumnAt, RefusesColumns}
use Rattle.desk_references.specs.ColumnSteps.{NamesNext}
use Rattle.desk_references.proofs.ReadingLemmas.{AreRead, lexed, no_column, one_more, refused_at, stopped_at}
use Rattle.lexer.specs.Tokens.{bytes_of}
use Rattle.desk_references.proofs.columns.read_columns.Goals as goal

pub returns-in-End-clause-err : goal.returns-in-End-clause-err
returns-in-End-clause-err c =
    let empty : (vec_len c.columns.columns == 0) ≡ true = sym c.is_empty.ensures ∙ c.if-is_empty.true in
    let none : length c.columns.columns.items ≡ 0 = omega (arith, eqb-true (vec_len c.columns.columns) 0 empty, c.columns.columns.ok.0) in
    subst (RefusesColumns c.args.names.now c.args.text.now) (sym c.refusal_of_end.ensures.refusal)
    (no_column c.args.names.now c.args.text.now c.columns.columns.items (rest_of c.columns.rest) c.columns.invariant.read c.in-End.ensures.exact none)

pub returns-in-Refusal-clause-err : goal.returns-in-Refusal-clause-err
returns-in-Refusal-clause-err c =
    stopped_at c.args.names.now c.args.text.now c.columns.columns.items (rest_of c.columns.rest) c.columns.invariant.read c.in-Refusal.refusal
    c.in-Refusal.ensures.exact

pub returns-in-Err-clause-err : goal.returns-in-Err-clause-err
returns-in-Err-clause-err c =
    let names = c.args.names.now in
    let text = c.args.text.now in
    let columns = c.columns.columns.items in
    let read = c.columns.invariant.read in
    let m = mark_of c.in-Token.token (bytes_of c.in-Token.word) in
    subst (RefusesColumns names text) (sym c.refusal_of.ensures.refusal)
    (refused_at names text columns (rest_of c.columns.rest) read m (rest_of c.in-Token.after) c.in-Token.ensures.exact.led c.in-Err.kind
    (c.in-Err.ensures.err (take (length columns) (lexed text).marks) m
    (subst (AllZip (NamesColumnAt names) (take (length columns) (lexed text).marks)) (sym c.deref.ensures.value) read.named) refl refl))

pub columns-preserved : goal.columns-preserved
columns-preserved c =
    let names = c.args.names.now in
    let text = c.args.text.now in
    let columns = c.columns.columns.items in
    let read = c.columns.invariant.read in
    let m = mark_of c.in-Token.token (bytes_of c.in-Token.word) in
    let after = rest_of c.in-Token.after in
    record {
      read = subst (λ (cs : List ℕ). AreRead names text cs after) (sym c.in_ok-push-in-Ok.ensures.items)
          (one_more names text columns (rest_of c.columns.rest) read m after c.in-Token.ensures.exact.led c.in-Ok.column
          (subst (λ (cs : List ℕ). NamesNext names (take (length columns) (lexed text).marks) cs m c.in-Ok.column) c.deref.ensures.value
          (c.in-Ok.ensures.column (take (length columns) (lexed text).marks) m
          (subst (AllZip (NamesColumnAt names) (take (length columns) (lexed text).marks)) (sym c.deref.ensures.value) read.named) refl refl)));
    }
