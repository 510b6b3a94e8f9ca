-- What is left to prove of `counts_text`: its clause `text`, by what each call gives.
use Rattle.std.proofs.Common.{◌≡◌, ◌++◌, ℕ, Bool, List, false, subst, ap, ◌∙◌}
use Rattle.std.specs.Prelude.{IfOk, codes, if◌then◌else◌}
use Rattle.attr_sets.specs.Sets.{attributes}
use Rattle.sql_syntax.specs.Names.{comma_list, separator}
use Rattle.sql_syntax.specs.Printing.{selected_text, item_text}
use Rattle.sql_check.specs.Columns.{groups_made}
use Rattle.sql_scripts.proofs.MeasuringLemmas.{beside_keys}
use Rattle.sql_scripts.proofs.counted.counts_text.Goals as goal

pub returns : goal.returns
returns c =
    let s = c.args.schema.now in
    let x = attributes c.args.shown in
    let counts = c.args.counts.now in
    let all : c.add_listed.new.text.items ≡ beside_keys s x counts =
    c.in_ok-add_listed.ensures.added
    ∙ ap (λ (t : List ℕ). t ++ (if c.has_members.result then separator ++ counts else counts)) c.in_ok-items.ensures.text
    ∙ ap (λ (b : Bool). comma_list item_text (groups_made s x) ++ (if b then separator ++ counts else counts)) c.has_members.ensures.members in
    record {
      text = subst (λ (t : List ℕ). IfOk c.selected_text.result (λ text. text.items ≡ t))
          (ap (λ (i : List ℕ). selected_text false i c.args.source.now (codes "d") c.deref-2.result.now) (c.deref.ensures.value ∙ all)
          ∙ ap (selected_text false (beside_keys s x counts) c.args.source.now (codes "d")) (c.deref-2.ensures.value ∙ c.in_ok-clause.ensures.text))
          c.selected_text.ensures.text;
    }
