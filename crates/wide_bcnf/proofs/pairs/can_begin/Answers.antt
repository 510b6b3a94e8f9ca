-- What is left to prove of `can_begin`: its clause `begins`, by `pair_begins`.
use Rattle.std.proofs.Common.{sym, ◌∙◌}
use Rattle.std.proofs.lemmas.Bool.{true≢false}
use Rattle.attr_sets.specs.Sets.{attributes}
use Rattle.dep_model.specs.Theories.{width_of, theory_of}
use Rattle.wide_bcnf.proofs.PairLemmas.{pair_begins}
use Rattle.wide_bcnf.proofs.pairs.can_begin.Goals as goal

pub returns-then-not-contains : goal.returns-then-not-contains
returns-then-not-contains c = record
    { begins = λ d pair. absurd (true≢false (sym pair.first ∙ sym c.contains.ensures.member ∙ c.if-not-contains.true)) }

pub returns : goal.returns
returns c =
    let s = c.args.theory.now in
    record {
      begins = λ d pair. c.determines.ensures.implied.1
          (pair_begins (width_of s) (theory_of s) (attributes c.args.scheme)
          (attributes c.without.result) c.args.first d c.without.ensures.members pair);
    }
