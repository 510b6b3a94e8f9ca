-- What is left to prove of `with_superkey`: what it finds, case by case, by `one_above`.
use Rattle.std.proofs.Common.{sym, ◌∙◌}
use Rattle.std.proofs.lemmas.Bool.{false≢true}
use Rattle.attr_sets.specs.Sets.{attributes}
use Rattle.dep_model.specs.Theories.{width_of}
use Rattle.which_form.specs.KeyRanges.{functional_of}
use Rattle.which_form.proofs.BetweenLemmas.{one_above}
use Rattle.which_form.proofs.searching.with_superkey.Goals as goal

pub with_key-requires : goal.with_key-requires
with_key-requires c = record {
  range = c.requires.range;
  wanted = c.requires.wanted;
  found = c.requires.found;
  key = c.is_key.ensures.key.0 c.if-is_key.true;
}

pub returns-then-is_key : goal.returns-then-is_key
returns-then-is_key c =
    let s = c.args.theory.now in
    let scheme = attributes c.args.range.scheme in
    record {
      found = c.with_key.ensures.found;
      kept = c.with_key.ensures.kept;
      has_all = one_above (width_of s) (functional_of s) scheme (attributes c.args.wanted) (attributes c.args.set) (attributes c.args.set) c.with_key.result c.requires.superkey
          (λ _. c.with_key.ensures.has_all) scheme;
    }

pub returns-else-is_key : goal.returns-else-is_key
returns-else-is_key c =
    let s = c.args.theory.now in
    let scheme = attributes c.args.range.scheme in
    record {
      found = c.requires.found;
      kept = λ k all. all;
      has_all = one_above (width_of s) (functional_of s) scheme (attributes c.args.wanted) (attributes c.args.set) (attributes c.args.set) c.args.found c.requires.superkey
          (λ key. absurd (false≢true (sym c.if-is_key.false ∙ c.is_key.ensures.key.1 key))) scheme;
    }
