-- What is left to prove of `witness`: its clause `rows`, by `zeros_on-all`.
use Rattle.std.proofs.Common.{◌≡◌, ℕ, ◌∙◌, [], ◌∷◌, sym, ap}
use Rattle.std.proofs.lemmas.Bool.{lt-ltb}
use Rattle.attr_sets.specs.Sets.{attributes}
use Rattle.dep_model.specs.Tuples.{Tuple, Relation}
use Rattle.dep_model.specs.TwoTuples.{all_zeros, zeros_on, two_tuples}
use Rattle.dep_model.specs.Theories.{width_of}
use Rattle.attr_sets.proofs.AttributesLemmas.{same_at}
use Rattle.dep_model.proofs.TwoTupleLemmas.{two_tuples-is}
use Rattle.dep_basis.proofs.WitnessLemmas.{zeros_on-all}
use Rattle.dep_basis.proofs.witnessing.witness.Goals as goal

pub returns : goal.returns
returns c =
    let n = width_of c.args.theory.now in
    let first : Tuple = c.in_ok-first.first in
    let second : Tuple = c.in_ok-second.second in
    let first_is : first ≡ zeros_on c.width-width.result (attributes c.full.result) = c.in_ok-first.ensures.row in
    let second_is : second ≡ zeros_on c.width-width.result (attributes c.args.agreement) = c.in_ok-second.ensures.row in
    let whole : first ≡ all_zeros n =
    first_is
    ∙ zeros_on-all c.width-width.result (attributes c.full.result) (λ (k : ℕ) l. same_at c.full.ensures.members k ∙ lt-ltb k c.width-width.result l)
    ∙ ap all_zeros c.width-width.ensures.count in
    let rest : second ≡ zeros_on n (attributes c.args.agreement) = second_is ∙ ap (λ (m : ℕ). zeros_on m (attributes c.args.agreement)) c.width-width.ensures.count in
    let rows : ◌≡◌ {A = Relation} (first ∷ second ∷ []) (two_tuples n (attributes c.args.agreement)) =
    ap (λ (t : Tuple). t ∷ second ∷ []) whole ∙ ap (λ (t : Tuple). all_zeros n ∷ t ∷ []) rest ∙ sym (two_tuples-is n (attributes c.args.agreement)) in
    record {
      rows = rows;
    }
