-- What is left to prove of `kept_response`: what `kept_rows` requires, and its clause `response`, by `kept_legal`.
use Rattle.std.proofs.Common.{List, ℕ, Bool, refl, sym, ap, subst, ◌∙◌}
use Rattle.std.specs.Prelude.{All}
use Rattle.attr_sets.specs.Attributes.{below}
use Rattle.csv_text.specs.Rows.{rows_text}
use Rattle.dep_model.specs.Deps.{IsDepWithin, dependencies_of}
use Rattle.schema_model.specs.Schemas.{names_of, theory_of, universe_of, width_of}
use Rattle.dep_model.specs.declared.dep.Dep.{Dep}
use Rattle.fd_closure.proofs.ClosedSets.{all_functional}
use Rattle.legality.specs.Parts.{flag_at}
use Rattle.removal_laws.specs.Removals.{rows_at}
use Rattle.row_measures.specs.Answers.{AreKeptFlags}
use Rattle.row_measures.proofs.LawLemmas.{kept_legal}
use Rattle.desk_responses.specs.ResponseValues.{text_only}
use Rattle.desk_responses.specs.declared.status.Status.TheVariants.{Yes}
use Rattle.desk_measures.proofs.keeping.kept_response.Goals as goal

pub kept_rows-requires-clause-deps : goal.kept_rows-requires-clause-deps
kept_rows-requires-clause-deps c =
    let s = c.args.schema.now in
    subst (λ (n : ℕ). All (IsDepWithin (below n)) c.deps.result.now) (sym c.width-2.ensures.count)
    (subst (λ (ds : List Dep). All (IsDepWithin (universe_of s)) ds) (sym c.deps.ensures.deps) s.valid.deps_within)

pub returns : goal.returns
returns c =
    let s = c.args.schema.now in
    let rows = c.args.rows.now in
    let flags = c.in_ok-kept.kept.items in
    let are : AreKeptFlags (theory_of s) rows flags =
    subst (λ (ds : List Dep). AreKeptFlags (dependencies_of ds) rows flags) c.deps.ensures.deps c.in_ok-kept.ensures.kept in
    record {
      response = (
        rows_at (flag_at flags) rows,
        record {
          functional = c.requires.functional;
          flags = flags;
          are = are;
          rest = refl;
          legal = kept_legal (theory_of s) rows flags are (width_of s) c.requires.over
              (all_functional (theory_of s) c.requires.functional);
        },
        c.with_text.ensures.says
            ∙ ap (text_only Yes) (c.in_ok-text.ensures.text
            ∙ ap (λ (f : List Bool). rows_text (names_of s) (rows_at (flag_at f) rows)) c.deref.ensures.value),
      );
    }
