-- What is left to prove of `determines_some`: what it answers, case by case, by `BreakLemmas`.
use Rattle.std.proofs.Common.{sym, ◌∙◌}
use Rattle.std.proofs.lemmas.Bool.{true≢false}
use Rattle.attr_sets.specs.Attributes.{IsSubset}
use Rattle.attr_sets.specs.Sets.{attributes}
use Rattle.dep_model.specs.declared.form.Form.TheVariants.{Bcnf}
use Rattle.normal_forms.specs.Breaking.{Breaks}
use Rattle.normal_forms.proofs.BreakLemmas.{IsTrue-not, whole_breaks_not, itself_breaks_not, part_breaks}
use Rattle.normal_forms.proofs.breaking.determines_some.Goals as goal

pub returns-then-not-is_subset : goal.returns-then-not-is_subset
returns-then-not-is_subset c =
    let scheme = attributes c.args.scheme in
    let x = attributes c.args.lhs in
    let closed = attributes c.args.closed in
    let found = attributes c.intersection.result in
    record {
      breaks = λ n ds low exact. IsTrue-not c.is_subset-then-not-is_subset.result (IsSubset found x) (Breaks n ds Bcnf scheme x) c.is_subset-then-not-is_subset.ensures.subset
          (itself_breaks_not n ds scheme x closed low c.requires.lhs exact found c.intersection.ensures.members)
          (part_breaks n ds scheme x closed low c.requires.lhs exact found c.intersection.ensures.members
          (λ all. true≢false (sym (c.is_subset.ensures.subset.1 all) ∙ c.if-not-is_subset.true)));
    }

pub returns-else-not-is_subset : goal.returns-else-not-is_subset
returns-else-not-is_subset c =
    let scheme = attributes c.args.scheme in
    let x = attributes c.args.lhs in
    let closed = attributes c.args.closed in
    record {
      breaks = λ n ds low exact. IsTrue-not c.is_subset.result (IsSubset scheme closed) (Breaks n ds Bcnf scheme x) c.is_subset.ensures.subset
          (whole_breaks_not n ds scheme x closed low c.requires.lhs exact)
          (λ not_empty. absurd (not_empty (c.is_subset.ensures.subset.0 c.if-not-is_subset.false)));
    }
