-- What the chase comes to where a plan is lossy, as it is shown.
use Rattle.std.proofs.Common.{◌≡◌, ◌≤◌, ℕ, List, length, sym, subst, ◌∙◌, arith}
use Rattle.std.proofs.lemmas.List.{length-map}
use Rattle.attr_sets.specs.Attributes.{Attributes}
use Rattle.attr_sets.specs.Sets.{attributes}
use Rattle.attr_sets.specs.declared.set.AttrSet.{AttrSet}
use Rattle.chase_laws.specs.Answers.{IsClosedTableau, IsGaining}
use Rattle.dep_model.specs.Dependencies.{Dependency}
use Rattle.dep_model.specs.Implication.{IsLegal}
use Rattle.dep_model.specs.Plans.{schemes_of}
use Rattle.dep_model.specs.Projections.{InJoin, projections}
use Rattle.schema_model.specs.Schemas.{theory_of, types_of, width_of}
use Rattle.dep_model.specs.Tuples.{Relation}
use Rattle.dep_model.specs.TwoTuples.{all_zeros}
use Rattle.schema_model.specs.Schemas.{Schema}
use Rattle.dep_model.proofs.TwoTupleLemmas.{length-all_zeros}
use Rattle.typed_rows.proofs.HeldNumerals.{tableau_holds}
use Rattle.typed_rows.specs.Shown.{shown_relation, shown_zeros}
use Rattle.typed_rows.specs.Typed.{HoldsNumerals}
use Rattle.typed_rows.proofs.NumeralLemmas.{zeros_are_numerals}
use Rattle.typed_rows.proofs.RelationLemmas.{contains-from, fits_schema, joins-to, legal-to, made_up_for}
use Rattle.desk_designs.specs.declared.join.TheConstants.{MOST_TABLEAU_ROWS}
use Rattle.desk_designs.specs.Joins.{ShowsLoss}

-- ---- numbers
pub closed_numerals : (n : ℕ) (ds : List Dependency) (plan : List AttrSet) (limit : ℕ) (rows : Relation) → length plan ≤ 256
    → IsClosedTableau n ds (schemes_of plan) limit rows → HoldsNumerals rows
closed_numerals n ds plan limit rows few closed =
    subst HoldsNumerals (sym closed.texts)
    (tableau_holds n ds (schemes_of plan) closed.symbols (omega (arith, few, length-map plan attributes)) closed.reached)

-- ---- what is shown
pub shown_loss : (s : Schema) (plan : List Attributes) (rows : Relation) → IsClosedTableau (width_of s) (theory_of s) plan MOST_TABLEAU_ROWS rows
    → IsGaining (width_of s) (theory_of s) plan rows → HoldsNumerals rows → ShowsLoss s plan rows
shown_loss s plan rows closed gaining numerals =
    let columns = types_of s in
    let one_each : length columns ≡ width_of s = s.typed.one_each in
    let made = made_up_for s rows gaining.legal.over numerals in
    let zeros = all_zeros (width_of s) in
    let over : length zeros ≡ length columns = length-all_zeros (width_of s) ∙ sym one_each in
    record {
      closed = closed;
      gains = record {
        fits = fits_schema s rows gaining.legal.over numerals;
        legal = subst (λ (n : ℕ). IsLegal n (theory_of s) (shown_relation s rows)) one_each
            (legal-to columns (theory_of s) rows made
            (subst (λ (n : ℕ). IsLegal n (theory_of s) rows) (sym one_each) gaining.legal));
        joined = subst (λ (n : ℕ). InJoin n plan (projections plan (shown_relation s rows)) (shown_zeros s)) one_each
            (joins-to columns plan rows zeros made over
            (subst (λ (n : ℕ). InJoin n plan (projections plan rows) zeros) (sym one_each) gaining.joined));
        gained = λ there. gaining.gained (contains-from columns rows zeros made over (zeros_are_numerals (width_of s)) there);
      };
    }
