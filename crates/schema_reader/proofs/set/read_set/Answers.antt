-- What is left to prove of `read_set`: what it answers in the cases `Ok` and `Err`.
use Rattle.std.proofs.Common.{◌∙◌, ℕ, List, sym, subst, ap, Result, Ok}
use Rattle.attr_sets.specs.Attributes.{Attributes, IsSubset}
use Rattle.dep_model.specs.Dependencies.{Dependency, IsWithin, right_of}
use Rattle.dep_model.specs.Deps.{dependency_of}
use Rattle.schema_model.specs.Schemas.{universe_of, naming_of, names_of}
use Rattle.lexer.specs.Modes as mode
use Rattle.lexer.specs.declared.mode.Mode.{Mode}
use Rattle.lexer.specs.Tokens.{lex}
use Rattle.schema_grammar.specs.declared.format.Format.TheVariants as format
use Rattle.schema_grammar.specs.declared.refusal.SchemaRefusal.{SchemaRefusal}
use Rattle.schema_grammar.specs.Grammar.{Reached}
use Rattle.schema_grammar.specs.Reading.{follow_rest}
use Rattle.schema_grammar.specs.Rests.{Rest, ◌>>=◌, rest_from}
use Rattle.schema_grammar.specs.Sets.{MeansSet}
use Rattle.schema_grammar.proofs.RefusalLemmas.{ok_at}
use Rattle.schema_grammar.proofs.SetLaws.{set-law, set_refused}
use Rattle.schema_grammar.proofs.WithinLemmas.{follow_within}
use Rattle.tokens.specs.Views.{rest_of}
use Rattle.schema_reader.specs.Views.{reached_of}
use Rattle.schema_reader.proofs.set.read_set.Goals as goal

-- what is read from where the reading begins, and the set of it
abbrev reading : List (List ℕ) → Reached → Rest → Result Dependency SchemaRefusal
reading names reached r = follow_rest format.Plain names reached r

abbrev set_in : Result Dependency SchemaRefusal → Result Attributes SchemaRefusal
set_in o = o >>= (λ d. Ok (right_of d))

pub returns-in-Ok : goal.returns-in-Ok
returns-in-Ok c =
    let naming = naming_of c.args.schema.now in
    let names = names_of c.args.schema.now in
    let text = c.args.text.now in
    let d = dependency_of c.in-Ok.dep in
    let begun = ap (λ (r : Reached). reading names r (rest_from 1 1 (lex (mode.goal naming) text))) (sym c.after_arrow.ensures.reached) in
    let here = ap (λ (r : Rest). reading names (reached_of c.after_arrow.result) r) (sym (c.start-start.ensures.whole ∙ ap (λ (m : Mode). rest_from 1 1 (lex m text)) (c.goal.ensures.mode ∙ ap mode.goal c.naming.ensures.naming))) in
    let read = ap set_in (begun ∙ here ∙ c.in-Ok.ensures.ok) in
    let inside : IsWithin (universe_of c.args.schema.now) d =
    ok_at (IsWithin (universe_of c.args.schema.now)) (reading names (reached_of c.after_arrow.result) (rest_of c.start-start.result)) d c.in-Ok.ensures.ok
    (follow_within _ names _ _ _ _ _ (rw c.after_arrow.ensures.reached (λ k e. cc))) in
    let same = sym c.sides.ensures.right in
    record {
      ok = subst (MeansSet naming names text) same ((set-law naming names text (right_of d)).0 read);
      err = tt;
      within = subst (λ (x : Attributes). IsSubset x (universe_of c.args.schema.now)) same inside.1;
    }

pub returns-in-Err : goal.returns-in-Err
returns-in-Err c =
    let naming = naming_of c.args.schema.now in
    let names = names_of c.args.schema.now in
    let text = c.args.text.now in
    let begun = ap (λ (r : Reached). reading names r (rest_from 1 1 (lex (mode.goal naming) text))) (sym c.after_arrow.ensures.reached) in
    let here = ap (λ (r : Rest). reading names (reached_of c.after_arrow.result) r) (sym (c.start-start.ensures.whole ∙ ap (λ (m : Mode). rest_from 1 1 (lex m text)) (c.goal.ensures.mode ∙ ap mode.goal c.naming.ensures.naming))) in
    record { ok = tt; within = tt; err = set_refused naming names text c.in-Err.refusal (ap set_in (begun ∙ here ∙ c.in-Err.ensures.err)) }
