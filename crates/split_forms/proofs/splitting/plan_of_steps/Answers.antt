-- What is left to prove of `plan_of_steps`: its clauses and what `new` requires, by `SplitLemmas` and
-- `WalkLemmas`.
use Rattle.std.proofs.Common.{◌≡◌, ◌<◌, List, sym, ap, subst, ◌∙◌}
use Rattle.std.specs.Prelude.{All, Contains}
use Rattle.std.proofs.lemmas.List.Elements.{All-weaker, All-contains, All-map}
use Rattle.attr_sets.specs.Sets.{attributes}
use Rattle.attr_sets.specs.declared.set.AttrSet.{AttrSet}
use Rattle.dep_model.specs.Theories.{Theory}
use Rattle.dep_model.specs.Plans.{IsPlan, schemes_of}
use Rattle.dep_model.specs.Projections.{IsLossless}
use Rattle.dep_model.specs.Theories.{width_of, theory_of}
use Rattle.dep_model.proofs.ListLemmas.{Contains-map}
use Rattle.normal_forms.specs.Chosen.{IsInForm}
use Rattle.plans.specs.Containing.{without_contained}
use Rattle.split_forms.specs.Splitting.{StaysWhole}
use Rattle.split_forms.proofs.SplitLemmas.{lists_lossless}
use Rattle.split_forms.proofs.WalkLemmas.{reached_plan}
use Rattle.split_forms.proofs.splitting.plan_of_steps.Goals as goal

attributes_not_empty : (s : Theory) → 0 < width_of s
attributes_not_empty s = s.valid.not_empty

pub new-requires : goal.new-requires
new-requires c =
    let s = c.args.theory.now in
    let steps = c.args.steps.now in
    let copied : c.in_ok-schemes.schemes.items ≡ steps.schemes.items = c.in_ok-schemes.ensures.items ∙ c.deref.ensures.value in
    record {
      plan = subst (λ (xs : List AttrSet). IsPlan (width_of s) (schemes_of xs)) (sym copied)
          (reached_plan (width_of s) (theory_of s) steps.form (schemes_of steps.schemes.items) (attributes_not_empty s)
          c.requires.form c.requires.finished.reached);
    }

pub returns-clause-kept : goal.returns-clause-kept
returns-clause-kept c =
    let copied = c.in_ok-schemes.ensures.items ∙ c.deref.ensures.value in
    c.drop_contained.ensures.schemes ∙ ap (λ (xs : List AttrSet). without_contained xs) (c.new.ensures.schemes ∙ copied)

pub returns-clause-lossless : goal.returns-clause-lossless
returns-clause-lossless c =
    let s = c.args.theory.now in
    let steps = c.args.steps.now in
    let copied = c.in_ok-schemes.ensures.items ∙ c.deref.ensures.value in
    c.drop_contained.ensures.lossless (theory_of s)
    (subst (λ (xs : List AttrSet). IsLossless (width_of s) (theory_of s) (schemes_of xs)) (sym (c.new.ensures.schemes ∙ copied))
    (lists_lossless (width_of s) (theory_of s) steps.form (attributes_not_empty s) c.requires.form (schemes_of steps.schemes.items)
    c.requires.finished.reached))

pub returns-clause-in_form : goal.returns-clause-in_form
returns-clause-in_form c =
    let s = c.args.theory.now in
    let n = width_of s in
    let ds = theory_of s in
    let steps = c.args.steps.now in
    let all = steps.schemes.items in
    let kept = c.drop_contained.result.schemes.items in
    let copied = c.in_ok-schemes.ensures.items ∙ c.deref.ensures.value in
    let among : All (λ (k : AttrSet). Contains all k) kept =
    subst (λ (xs : List AttrSet). All (λ (k : AttrSet). Contains xs k) kept) (c.new.ensures.schemes ∙ copied)
    c.drop_contained.ensures.among in
    let whole : All (StaysWhole n ds steps.form) (schemes_of all) = c.requires.finished.whole in
    All-map (IsInForm n ds steps.form) attributes kept
    (All-weaker (λ (k : AttrSet). Contains all k) (λ (k : AttrSet). IsInForm n ds steps.form (attributes k))
    (λ k has. let stays : StaysWhole n ds steps.form (attributes k) =
    All-contains (StaysWhole n ds steps.form) (schemes_of all) (attributes k) whole
    (Contains-map attributes all k has) in stays.in_form) kept among)
