-- What is left to prove of `read_lines`: its clauses `err` and `ok` and that a round of its loop
-- keeps the invariant.
use Rattle.std.proofs.Common.{◌≡◌, ◌≤◌, ◌+◌, ◌-◌, ◌∙◌, length, refl, sym, ap, subst, arith}
use Rattle.attr_sets.specs.declared.set.TheConstants.{MOST_ATTRIBUTES}
use Rattle.lexer.specs.Lines.{line_texts}
use Rattle.schema_grammar.specs.Declarations.{Declarations, no_declaration}
use Rattle.schema_grammar.specs.Texts.{read_lines}
use Rattle.schema_grammar.proofs.RefusalLemmas.{ok_at, refuses_whole, Refuses-whole}
use Rattle.schema_grammar.proofs.SoundLemmas.{IsSound, nothing_sound, line_sound}
use Rattle.lexer.proofs.LineEnds.{CutsAt-any, cut_last, cut_more}
use Rattle.schema_reader.proofs.text.read_lines.Goals as goal

pub lines-init : goal.lines-init
lines-init c =
    let empty = c.new-draft.ensures.empty ∙ ap no_declaration c.naming_in.ensures.exact in
    record {
      same = ap (λ (d : Declarations). read_lines c.args.format c.args.number d (line_texts c.args.text.now)) (sym empty);
      sound = subst (λ (d : Declarations). IsSound c.args.format d) (sym empty) (nothing_sound c.args.format);
      within_limit = subst (λ (d : Declarations). length d.names ≤ MOST_ATTRIBUTES) (sym empty) (omega arith);
      room = c.requires;
    }

pub returns-in-Err-clause-err : goal.returns-in-Err-clause-err
unfolding read_lines
returns-in-Err-clause-err c =
    Refuses-whole c.in-Err.failure _ _
    (λ refusal refused. rw (c.lines.invariant.same, CutsAt-any _ _ _ c.cut_line.ensures.cut, refused) refl)
    c.in-Err.ensures.err

pub returns-in-None-clause-ok : goal.returns-in-None-clause-ok
unfolding read_lines
returns-in-None-clause-ok c =
    let cut = cut_last _ _ _ c.in-None.is c.cut_line.ensures.cut in
    let back : c.lines.number + 1 - 1 ≡ c.lines.number = omega arith in
    rw (c.lines.invariant.same, cut.lines, c.in-Ok.ensures.ok, back) c.finish.ensures.ok

pub returns-in-None-clause-err : goal.returns-in-None-clause-err
unfolding read_lines
returns-in-None-clause-err c =
    let cut = cut_last _ _ _ c.in-None.is c.cut_line.ensures.cut in
    let back : c.lines.number + 1 - 1 ≡ c.lines.number = omega arith in
    rw (c.lines.invariant.same, cut.lines, c.in-Ok.ensures.ok, back)
    (refuses_whole _ _ _ refl c.finish.ensures.err)

pub lines-preserved : goal.lines-preserved
unfolding read_lines
lines-preserved c =
    let cut = cut_more _ _ _ _ c.in-Some.is c.cut_line.ensures.cut in
    let better = ok_at (IsSound c.args.format) _ _ c.in-Ok.ensures.ok
    (line_sound _ _ _ _ c.lines.invariant.sound) in
    record {
      same = rw (c.lines.invariant.same, cut.lines, c.in-Ok.ensures.ok) refl;
      sound = better;
      within_limit = better.names_within_limit;
      room = omega (arith, c.lines.invariant.room, cut.shorter);
    }
