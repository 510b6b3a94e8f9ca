-- What is left to prove of `with_right_side`: what it answers, case by case, by `fd_added`.
use Rattle.std.proofs.Common.{◌∙◌, refl, sym, arith}
use Rattle.std.proofs.lemmas.Bool.{false≢true}
use Rattle.attr_sets.specs.Attributes.{IsSubset}
use Rattle.attr_sets.specs.Sets.{attributes}
use Rattle.attr_sets.proofs.AttributesLemmas.{same_at}
use Rattle.dep_model.proofs.RuleLemmas.{reflexivity_obeyed}
use Rattle.fd_closure.proofs.ClosureLemmas.{fd_added}
use Rattle.fd_closure.proofs.closing.with_right_side.Goals as goal

pub returns-then-is_subset : goal.returns-then-is_subset
returns-then-is_subset c =
    let x = attributes c.in-Fd.lhs in
    let y = attributes c.in-Fd.rhs in
    let now = attributes c.args.closed in
    let inside : IsSubset x now = c.if-is_subset.ensures.subset.0 refl in
    rw c.in-Fd.is (record {
      grows = λ k m. grind (arith, same_at c.union.ensures.members k, m);
      within = λ universe d_in now_in k m. grind (arith, same_at c.union.ensures.members k, m, now_in k, d_in.1 k);
      implied = λ r obeys t u t_in u_in agree k m. fd_added x y now r inside obeys t u t_in u_in agree k (sym (same_at c.union.ensures.members k) ∙ m);
      functionally_closed = λ _ k m. grind (arith, same_at c.union.ensures.members k, m);
    })

pub returns-else-is_subset : goal.returns-else-is_subset
returns-else-is_subset c = rw c.in-Fd.is (record {
  grows = λ k m. m;
  within = λ universe d_in now_in. now_in;
  implied = λ r obeys. reflexivity_obeyed (attributes c.args.closed) (attributes c.args.closed) r (λ k m. m);
  functionally_closed = λ inside. absurd (false≢true (c.if-is_subset.ensures.subset.1 inside));
})

pub returns-in-Mvd : goal.returns-in-Mvd
returns-in-Mvd c = rw c.in-Mvd.is (record {
  grows = λ k m. m;
  within = λ universe d_in now_in. now_in;
  implied = λ r obeys. reflexivity_obeyed (attributes c.args.closed) (attributes c.args.closed) r (λ k m. m);
  functionally_closed = tt;
})
