-- What is left to prove of `has_all_between`: what it answers, case by case, by `BetweenLemmas`.
use Rattle.std.proofs.Common.{◌≡◌, Bool, true, false, not, sym, ◌∙◌}
use Rattle.std.proofs.lemmas.Bool.{true≢false}
use Rattle.attr_sets.specs.Sets.{attributes}
use Rattle.attr_sets.proofs.AttributesLemmas.{same_at}
use Rattle.dep_model.specs.Theories.{width_of}
use Rattle.which_form.specs.KeyRanges.{functional_of}
use Rattle.which_form.proofs.BetweenLemmas.{all_known, none_between}
use Rattle.which_form.proofs.searching.has_all_between.Goals as goal

-- an answer that is turned round
not_both : (b : Bool) → not b ≡ true → b ≡ true → ⊥
not_both true e is = true≢false (sym e)
not_both false e is = true≢false (sym is)

pub returns-then-all_is_known : goal.returns-then-all_is_known
returns-then-all_is_known c =
    let s = c.args.theory.now in
    let known = c.all_is_known.ensures.known c.if-all_is_known.true in
    record {
      has_all = λ _. all_known (width_of s) (functional_of s) (attributes c.args.range.scheme) (attributes c.args.wanted) (attributes c.args.part.of) (attributes c.args.rest)
          c.args.found known.0 (λ k m. known.1 k (same_at c.union.ensures.members k ∙ m));
    }

pub returns : goal.returns
returns c =
    let s = c.args.theory.now in
    record {
      has_all = λ answer. none_between (width_of s) (functional_of s) (attributes c.args.range.scheme) (attributes c.args.wanted) (attributes c.args.part.of) (attributes c.args.rest)
          c.args.found c.requires.part c.requires.rest (λ superkey. not_both c.may_be_superkey.result answer (c.may_be_superkey.ensures.superkey superkey));
    }
