-- What is left to prove of `put_measure_of`: its clause `added`.
use Rattle.std.proofs.Common.{List, ℕ, ◌++◌, refl, ap, subst, ◌∙◌}
use Rattle.std.proofs.lemmas.List.{append_assoc}
use Rattle.dep_model.specs.Deps.{dependency_of}
use Rattle.row_measures.specs.Answers.{IsMeasure}
use Rattle.desk_measures.specs.Measures.{measure_text}
use Rattle.desk_measures.proofs.measures.put_measure_of.Goals as goal

pub returns : goal.returns
returns c =
    let s = c.args.schema.now in
    let d = dependency_of c.args.dep in
    let found = c.in_ok-found.found in
    let head = measure_text s c.args.k d found in
    let below = c.in_ok-put_details.ensures.added in
    let (details, are, added) = below.1 in
    record {
      added = (
        head ++ details,
        record {
          measure = found;
          is = subst (λ (n : ℕ). IsMeasure n c.args.rows.now d found) c.width.ensures.count c.in_ok-found.ensures.measure;
          none = refl;
          all_clean = below.0;
          details = details;
          are = are;
          says = refl;
        },
        added
            ∙ ap (λ (t : List ℕ). t ++ details) c.in_ok-put_measure_line.ensures.added
            ∙ append_assoc c.args.text.now.items head details,
      );
    }
