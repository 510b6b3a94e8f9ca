-- What is left to prove of `namesakes`: where a column has no namesake, and that a round of its loop keeps the
-- invariant, by `SourceLemmas`.
use Rattle.std.proofs.Common.{◌+◌, [], ap, get_or, take, List, ℕ, sym, subst, ◌∙◌}
use Rattle.dep_model.proofs.ListLemmas.{same_default}
use Rattle.schema_model.specs.Schemas.{attribute_named}
use Rattle.file_references.specs.Finds.{AreNamedAs}
use Rattle.file_references.proofs.SourceLemmas.{named_more, not_named}
use Rattle.file_references.proofs.sources.namesakes.Goals as goal

pub returns-in-None : goal.returns-in-None
returns-in-None c =
    let names = c.args.names.now in
    let others = c.args.others.now in
    let columns = c.args.columns.now in
    let i = c.loop-column.column-index in
    let name = c.bytes.ensures.value ∙ c.index-others-column.is
    ∙ same_default others (get_or columns i 0) c.index-others-column.result [] (c.requires.columns i 0 c.loop-column-test.true) in
    record {
      named = λ same. not_named names others same columns i 0 c.loop-column-test.true
          (ap (attribute_named names) (sym name) ∙ sym c.position_among.ensures.position ∙ c.in-None.is);
    }

pub loop-column-preserved : goal.loop-column-preserved
loop-column-preserved c =
    let names = c.args.names.now in
    let others = c.args.others.now in
    let columns = c.args.columns.now in
    let i = c.loop-column.column-index in
    let name = c.bytes.ensures.value ∙ c.index-others-column.is
    ∙ same_default others (get_or columns i 0) c.index-others-column.result [] (c.requires.columns i 0 c.loop-column-test.true) in
    record {
      named = subst (λ (found : List ℕ). AreNamedAs names others found (take (i + 1) columns)) (sym c.in_ok-push-in-Some.ensures.items)
          (named_more names others c.loop-column.found.items columns i 0 c.in-Some.position c.loop-column-test.true c.loop-column.invariant.named
          (ap (attribute_named names) (sym name) ∙ sym c.position_among.ensures.position ∙ c.in-Some.is));
    }
