-- What is left to prove of `becomes_superkey_by`: what it answers, case by case.
use Rattle.std.proofs.Common.{sym, subst, ◌∙◌}
use Rattle.std.proofs.lemmas.Bool.{false≢true}
use Rattle.attr_sets.specs.Attributes.{Attributes}
use Rattle.attr_sets.specs.Sets.{attributes}
use Rattle.dep_model.specs.Dependencies.{functional_part}
use Rattle.dep_model.specs.Keys.{IsSuperkey}
use Rattle.dep_model.specs.Theories.{width_of, theory_of}
use Rattle.normal_forms.specs.Primes.{BecomesSuperkeyBy}
use Rattle.normal_forms.proofs.BreakLemmas.{IsTrue-not}
use Rattle.normal_forms.proofs.primes.becomes_superkey_by.Goals as goal

pub returns-then-is_superkey : goal.returns-then-is_superkey
returns-then-is_superkey c =
    let s = c.args.theory.now in
    let n = width_of s in
    let fs = functional_part (theory_of s) in
    let scheme = attributes c.args.scheme in
    let x = attributes c.args.set in
    let a = c.args.attribute in
    let more = subst (λ (v : Attributes). IsSuperkey n fs scheme v) c.with.ensures.members (c.is_superkey.ensures.superkey.0 c.if-is_superkey.true) in
    record {
      becomes_superkey = IsTrue-not c.is_superkey-then-is_superkey.result (IsSuperkey n fs scheme x) (BecomesSuperkeyBy n fs scheme x a) c.is_superkey-then-is_superkey.ensures.superkey
          (λ superkey becomes_superkey. becomes_superkey.1 superkey)
          (λ none. (more, none));
    }

pub returns-else-is_superkey : goal.returns-else-is_superkey
returns-else-is_superkey c =
    let s = c.args.theory.now in
    let n = width_of s in
    let fs = functional_part (theory_of s) in
    let scheme = attributes c.args.scheme in
    let x = attributes c.args.set in
    let a = c.args.attribute in
    record {
      becomes_superkey = (
        (λ e. absurd (false≢true (sym c.if-is_superkey.false ∙ e))),
        (λ becomes_superkey. c.is_superkey.ensures.superkey.1 (subst (λ (v : Attributes). IsSuperkey n fs scheme v) (sym c.with.ensures.members) becomes_superkey.0)),
      );
    }
