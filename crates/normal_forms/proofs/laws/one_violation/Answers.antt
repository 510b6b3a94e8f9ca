-- The laws `one_violation`, clause by clause.
use Rattle.normal_forms.proofs.UniqueLemmas.{one_chosen, one_visible}
use Rattle.std.proofs.Common.{◌≡◌, sym, subst, ◌∙◌, ⊎_elim}
use Rattle.std.proofs.lemmas.Bool.{true≢false}
use Rattle.attr_sets.specs.Attributes.{Attributes, IsSubset, IsBefore}
use Rattle.attr_sets.proofs.OrderLemmas.{tell_before}
use Rattle.normal_forms.proofs.laws.one_violation.Goals as goal

pub returns : goal.returns
returns c = record {
  chosen = one_chosen;
  visible = one_visible;
  minimal = λ n ds form scheme x y v w low chosen inside beyond violates.
      ⊎_elim
      (λ (same : v ≡ x). beyond (subst (λ (u : Attributes). IsSubset u v) same (λ k m. m)))
      (⊎_elim
      (λ (before : IsBefore v x). chosen.first v w before violates)
      (λ (after : IsBefore x v). true≢false (sym (inside after.0 after.2) ∙ after.1)))
      (tell_before n v x (λ k m. low k (chosen.within k (inside k m))) (λ k m. low k (chosen.within k m)));
}
