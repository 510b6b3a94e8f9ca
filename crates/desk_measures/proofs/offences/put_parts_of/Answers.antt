-- What is left to prove of `put_parts_of`: its clause `added`.
use Rattle.std.proofs.Common.{List, ℕ, ◌++◌, refl, ap, subst, ◌∙◌}
use Rattle.std.specs.Prelude.{◌==◌}
use Rattle.std.specs.List.{flat_map}
use Rattle.attr_sets.specs.Attributes.{Attributes}
use Rattle.csv_text.specs.Rows.{csv_row}
use Rattle.dep_model.specs.Deps.{dependency_of}
use Rattle.row_measures.specs.Answers.{AreBrokenParts}
use Rattle.row_measures.specs.declared.breach.BrokenPart.{BrokenPart}
use Rattle.desk_measures.specs.Offences.{part_fields, shown_of}
use Rattle.desk_measures.proofs.offences.put_parts_of.Goals as goal

pub returns : goal.returns
returns c =
    let s = c.args.schema.now in
    let rows = c.args.rows.now in
    let d = dependency_of c.args.dep in
    let old = c.args.text.now.items in
    let parts = c.in_ok-parts.parts.items in
    let lines : Attributes → List BrokenPart → List ℕ = λ (shown : Attributes) (ps : List BrokenPart).
    flat_map (λ part. csv_row (part_fields s rows c.args.k shown part)) ps in
    record {
      added = (
        lines (shown_of d) parts,
        record {
          parts = parts;
          are = subst (λ (n : ℕ). AreBrokenParts n rows d parts) c.width.ensures.count c.in_ok-parts.ensures.parts;
          none = ap (λ (n : ℕ). n == 0) (c.len.ensures ∙ c.in_ok-parts.parts.ok.0);
          lines = refl;
        },
        c.in_ok-put_part_lines.ensures.added
            ∙ ap (λ (x : Attributes). old ++ lines x c.deref.result.now) c.shown_of.ensures.shown
            ∙ ap (λ (ps : List BrokenPart). old ++ lines (shown_of d) ps) c.deref.ensures.value,
      );
    }
