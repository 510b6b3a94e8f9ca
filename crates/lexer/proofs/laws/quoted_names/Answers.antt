-- The laws `quoted_names`, clause by clause.
use Rattle.lexer.proofs.Quoting.{name_test}
use Rattle.lexer.proofs.QuotedNames.{quoted_lexed}
use Rattle.lexer.proofs.laws.quoted_names.Goals as goal

pub returns : goal.returns
returns c = record {
  tested = name_test;
  one_token = quoted_lexed;
}
