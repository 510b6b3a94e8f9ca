-- What is left to prove of `scheme_lines`: its clause, by `scheme_text`.
use Rattle.std.proofs.Common.{◌≡◌, ℕ, List, ◌++◌, ap, ◌∙◌}
use Rattle.attr_sets.specs.Sets.{attributes}
use Rattle.schema_model.specs.Schemas.{width_of, theory_of}
use Rattle.schema_printer.specs.Spelling.{printed_names_of}
use Rattle.desk_designs.specs.FormsOfSchemes.{form_line}
use Rattle.desk_designs.specs.TestedSchemes.{breaches_text}
use Rattle.desk_designs.proofs.TestedLemmas.{scheme_text}
use Rattle.desk_designs.proofs.forms.scheme_lines.Goals as goal

pub returns : goal.returns
returns c =
    let s = c.args.schema.now in
    let tested = c.args.tested in
    let scheme = attributes tested.scheme in
    let names = printed_names_of s in
    let last = c.last_form-last.result in
    let whole : c.add.new.text.items ≡ form_line names scheme last ++ breaches_text names tested.forms =
    c.in_ok-add.ensures.added ∙ ap (λ (t : List ℕ). t ++ c.deref.result.now) c.in_ok-text.ensures.text
    ∙ ap (λ (t : List ℕ). form_line names scheme last ++ t) (c.deref.ensures.value ∙ c.in_ok-violation_lines.ensures.text) in
    record {
      text = scheme_text s scheme tested.forms last c.add.new.text.items c.requires.tested.verdicts
          (c.last_form-last.ensures.last (width_of s) (theory_of s) scheme c.requires.tested.verdicts) whole;
    }
