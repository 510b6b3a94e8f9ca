-- The two tuples that agree exactly on a set obey and break, as they are shown, what they do as numbers.
use Rattle.std.proofs.Common.{◌≡◌, ℕ, length, sym, subst}
use Rattle.std.proofs.lemmas.List.Elements.{All-weaker}
use Rattle.attr_sets.specs.Attributes.{Attributes}
use Rattle.column_values.specs.Values.{FitsColumns}
use Rattle.dep_model.specs.Dependencies.{Dependency, Obeys}
use Rattle.dep_model.specs.Tuples.{Relation, IsOver}
use Rattle.dep_model.specs.TwoTuples.{two_tuples}
use Rattle.dep_model.proofs.TwoTupleLemmas.{two_tuples-over}
use Rattle.schema_model.specs.Schemas.{Schema, types_of, width_of, theory_of, LegalFor}
use Rattle.typed_rows.proofs.NumeralLemmas.{two_tuples_hold}
use Rattle.typed_rows.proofs.RelationLemmas.{IsMadeUp, made_up_for, fits_schema, over-typed, obeys-to, obeys-from}
use Rattle.typed_rows.specs.Shown.{shown_tuples}
use Rattle.counterexample_laws.specs.Counterexamples.{IsCounterexample}

-- ---- numbers and what is shown of them
module _ (s : Schema) (x : Attributes) where
  abbrev numbers : Relation
  numbers = two_tuples (width_of s) x

  abbrev shown : Relation
  shown = shown_tuples s x

  one_each : length (types_of s) ≡ width_of s
  one_each = s.typed.one_each

  made_up : IsMadeUp (types_of s) numbers
  made_up = made_up_for s numbers (two_tuples-over (width_of s) x) (two_tuples_hold (width_of s) x)

  shown_fits : FitsColumns s shown
  shown_fits = fits_schema s numbers (two_tuples-over (width_of s) x) (two_tuples_hold (width_of s) x)

  pub shown_over : IsOver (width_of s) shown
  shown_over = subst (λ (n : ℕ). IsOver n shown) one_each (over-typed (types_of s) numbers made_up.over)

  pub shown_obeys : (d : Dependency) → Obeys (width_of s) d numbers → Obeys (width_of s) d shown
  shown_obeys d obeys =
      subst (λ (n : ℕ). Obeys n d shown) one_each
      (obeys-to (types_of s) d numbers made_up (subst (λ (n : ℕ). Obeys n d numbers) (sym one_each) obeys))

  shown_breaks : (d : Dependency) → (Obeys (width_of s) d numbers → ⊥) → Obeys (width_of s) d shown → ⊥
  shown_breaks d breaks obeys =
      breaks (subst (λ (n : ℕ). Obeys n d numbers) one_each
      (obeys-from (types_of s) d numbers made_up (subst (λ (n : ℕ). Obeys n d shown) (sym one_each) obeys)))

  -- ---- counterexamples
  pub counterexample : (ObeysGiven : Relation → Type 0) (d : Dependency) → ObeysGiven shown
      → (Obeys (width_of s) d numbers → ⊥) → IsCounterexample s ObeysGiven d shown
  counterexample ObeysGiven d obeys breaks = record {
    fits = shown_fits;
    obeys = obeys;
    breaks = shown_breaks d breaks;
  }

  pub legal_counterexample : (d : Dependency) → LegalFor s numbers → (Obeys (width_of s) d numbers → ⊥)
      → IsCounterexample s (LegalFor s) d shown
  legal_counterexample d legal breaks =
      counterexample (LegalFor s) d (record {
        over = shown_over;
        obeys = All-weaker (λ (e : Dependency). Obeys (width_of s) e numbers)
            (λ (e : Dependency). Obeys (width_of s) e shown) shown_obeys (theory_of s) legal.obeys;
      }) breaks
