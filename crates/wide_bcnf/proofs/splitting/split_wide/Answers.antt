-- What is left to prove of `split_wide`: its clauses `split`, `lossless`, `bcnf` and
-- `at_most_width` and what `new` requires, by `SplitLemmas`.
use Rattle.std.proofs.Common.{◌≡◌, List, length, sym, subst, ap, ◌∙◌, arith}
use Rattle.std.specs.Prelude.{All, Contains}
use Rattle.attr_sets.specs.declared.set.AttrSet.{AttrSet}
use Rattle.dep_model.specs.Forms.{IsBcnf}
use Rattle.dep_model.specs.Plans.{schemes_of}
use Rattle.dep_model.specs.Projections.{IsLossless}
use Rattle.dep_model.specs.Theories.{width_of, theory_of}
use Rattle.plans.specs.Containing.{without_contained}
use Rattle.wide_bcnf.proofs.SplitLemmas.{split_is_lossless, length-without_contained, kept_all, schema_plan, schema_within_limit, schema_bcnf}
use Rattle.wide_bcnf.proofs.splitting.split_wide.Goals as goal

pub new-requires : goal.new-requires
new-requires c = record {
  plan = schema_plan c.args.theory.now c.in_ok-schemes.schemes.items
      c.in_ok-schemes.ensures.split;
}

pub returns-clause-split : goal.returns-clause-split
returns-clause-split c = record {
  all = c.in_ok-schemes.schemes.items;
  split = c.in_ok-schemes.ensures.split;
  kept = c.drop_contained.ensures.schemes ∙ ap (λ (xs : List AttrSet). without_contained xs) c.new.ensures.schemes;
}

pub returns-clause-lossless : goal.returns-clause-lossless
returns-clause-lossless c =
    let s = c.args.theory.now in
    c.drop_contained.ensures.lossless (theory_of s)
    (subst (λ (xs : List AttrSet). IsLossless (width_of s) (theory_of s) (schemes_of xs)) (sym c.new.ensures.schemes)
    (split_is_lossless (width_of s) (theory_of s)
    (schemes_of c.in_ok-schemes.schemes.items) c.in_ok-schemes.ensures.split))

pub returns-clause-bcnf : goal.returns-clause-bcnf
returns-clause-bcnf c =
    let s = c.args.theory.now in
    let all = c.in_ok-schemes.schemes.items in
    let kept = c.drop_contained.result.schemes.items in
    kept_all (IsBcnf (width_of s) (theory_of s)) all kept
    (subst (λ (xs : List AttrSet). All (λ (k : AttrSet). Contains xs k) kept) c.new.ensures.schemes
    c.drop_contained.ensures.among)
    (schema_bcnf s all c.in_ok-schemes.ensures.split)

pub returns-clause-at_most_width : goal.returns-clause-at_most_width
returns-clause-at_most_width c =
    let all = c.in_ok-schemes.schemes.items in
    let kept : c.drop_contained.result.schemes.items ≡ without_contained all = c.drop_contained.ensures.schemes
    ∙ ap (λ (xs : List AttrSet). without_contained xs) c.new.ensures.schemes in
    let within_limit = schema_within_limit c.args.theory.now all c.in_ok-schemes.ensures.split in
    let shorter = length-without_contained all in
    let same = ap (λ (xs : List AttrSet). length xs) kept in
    omega arith
