-- What is left to prove of `is_pair`: its clause `pair`, by `PairLemmas`.
use Rattle.std.proofs.Common.{sym, ◌∙◌}
use Rattle.std.proofs.lemmas.Bool.{true≢false, false≢true}
use Rattle.attr_sets.specs.Sets.{attributes}
use Rattle.dep_model.specs.Theories.{width_of, theory_of}
use Rattle.wide_bcnf.proofs.PairLemmas.{pair_from, pair_second, pair_rest}
use Rattle.wide_bcnf.proofs.pairs.is_pair.Goals as goal

pub returns-then-not-contains : goal.returns-then-not-contains
returns-then-not-contains c = record {
  pair = (
    (λ e. absurd (false≢true e)),
    (λ pair. absurd (true≢false (sym pair.first ∙ sym c.contains.ensures.member ∙ c.if-not-contains.true))),
  );
}

pub returns-then-not-contains-2 : goal.returns-then-not-contains-2
returns-then-not-contains-2 c =
    let s = c.args.theory.now in
    let others = c.without-others.result in
    record {
      pair = (
        (λ e. absurd (false≢true e)),
        (λ pair.
            let second = pair_second (width_of s) (theory_of s) (attributes c.args.scheme)
            (attributes others) c.args.first c.args.second c.without-others.ensures.members pair in
            absurd (true≢false (sym second ∙ sym c.contains-2.ensures.member ∙ c.if-not-contains-2.true))),
      );
    }

pub returns : goal.returns
returns c =
    let s = c.args.theory.now in
    let others = attributes c.without-others.result in
    let rest = attributes c.without.result in
    record {
      pair = (
        (λ yes. pair_from (width_of s) (theory_of s)
            (attributes c.args.scheme) others rest c.args.first c.args.second c.without-others.ensures.members
            c.without.ensures.members
            (sym c.contains.ensures.member ∙ c.if-not-contains.false) (sym c.contains-2.ensures.member ∙ c.if-not-contains-2.false)
            (c.determines.ensures.implied.0 yes)),
        (λ pair. c.determines.ensures.implied.1
            (pair_rest (width_of s) (theory_of s)
            (attributes c.args.scheme) others rest c.args.first c.args.second c.without-others.ensures.members
            c.without.ensures.members pair)),
      );
    }
