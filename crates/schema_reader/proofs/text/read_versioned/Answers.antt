-- What is left to prove of `read_versioned`: its clauses `ok` and `err`.
use Rattle.std.proofs.Common.{◌≡◌, ◌+◌, ◌-◌, ◌∙◌, sym, ap, arith}
use Rattle.schema_grammar.specs.Declarations.{no_declaration}
use Rattle.schema_reader.specs.Views.{declarations_of_draft}
use Rattle.schema_grammar.specs.Texts.{finish, read_lines}
use Rattle.schema_grammar.proofs.RefusalLemmas.{ok_whole, refuses_whole}
use Rattle.schema_reader.proofs.text.read_versioned.Goals as goal

pub returns-in-None-clause-ok : goal.returns-in-None-clause-ok
unfolding read_lines
returns-in-None-clause-ok c =
    let back : c.line-number.result + 1 - 1 ≡ c.line-number.result = omega arith in
    rw (c.in-None.is, c.in-Ok.ensures.ok, ← c.line-number.ensures.line, back)
    (ok_whole declarations_of_draft _ _ _ (ap (finish c.line-number.result) (sym (c.new.ensures.empty ∙ ap no_declaration c.naming_in.ensures.exact))) c.finish.ensures.ok)

pub returns-in-None-clause-err : goal.returns-in-None-clause-err
unfolding read_lines
returns-in-None-clause-err c =
    let back : c.line-number.result + 1 - 1 ≡ c.line-number.result = omega arith in
    rw (c.in-None.is, c.in-Ok.ensures.ok, ← c.line-number.ensures.line, back)
    (refuses_whole _ _ _ (ap (finish c.line-number.result) (sym (c.new.ensures.empty ∙ ap no_declaration c.naming_in.ensures.exact))) c.finish.ensures.err)
