-- The relation of the irreducible closed sets, as it is shown.
use Rattle.std.proofs.Common.{◌≡◌, ◌≤◌, ◌+◌, ℕ, List, length, refl, sym, ap, subst, ◌∙◌, arith}
use Rattle.std.proofs.lemmas.List.{length-map}
use Rattle.armstrong_rel.proofs.TupleLemmas.{length-tuples_for}
use Rattle.armstrong_rel.specs.Exhibits.{IsArmstrong, IsExhibit}
use Rattle.armstrong_rel.specs.Refusals.{IsFunctional, IsTooWideToExhibit}
use Rattle.armstrong_rel.specs.declared.refusal.TheConstants.{MOST_EXHIBITED_ROWS}
use Rattle.dep_model.specs.Dependencies.{Dependency, fd}
use Rattle.dep_model.specs.Implication.{IsLegal}
use Rattle.schema_model.specs.Schemas.{theory_of, types_of, width_of, LegalFor, theory_in}
use Rattle.dep_model.specs.Tuples.{Relation}
use Rattle.schema_model.specs.Schemas.{Schema}
use Rattle.typed_rows.proofs.HeldNumerals.{exhibit_holds}
use Rattle.typed_rows.specs.Shown.{shown_relation}
use Rattle.typed_rows.specs.Typed.{HoldsNumerals, typed_tuple}
use Rattle.typed_rows.proofs.RelationLemmas.{fits_schema, legal-to, made_up_for, obeys-from, obeys-to}
use Rattle.desk_exhibits.specs.Exhibits.{IsExample}

-- ---- numbers
pub exhibit_numerals : (n : ℕ) (ds : List Dependency) (rows : Relation) → IsExhibit n ds rows → length rows ≤ MOST_EXHIBITED_ROWS → HoldsNumerals rows
exhibit_numerals n ds rows is few =
    let count : length rows ≡ length is.sets + 1 = ap length is.tuples ∙ length-tuples_for n is.sets in
    subst HoldsNumerals (sym is.tuples) (exhibit_holds n is.sets (omega (arith, few, count)))

-- ---- what is shown
pub shown_example : (s : Schema) (rows : Relation) → IsFunctional (theory_in s) → (IsTooWideToExhibit (theory_in s) → ⊥) → length rows ≤ MOST_EXHIBITED_ROWS
    → IsExhibit (width_of s) (theory_of s) rows → LegalFor s rows → IsArmstrong (width_of s) (theory_of s) rows → IsExample s (shown_relation s rows)
shown_example s rows functional narrow few exhibit legal exact =
    let columns = types_of s in
    let one_each : length columns ≡ width_of s = s.typed.one_each in
    let numerals = exhibit_numerals (width_of s) (theory_of s) rows exhibit few in
    let made = made_up_for s rows legal.over numerals in
    record {
      functional = functional;
      narrow = narrow;
      within_limit = omega (arith, few, length-map rows (typed_tuple columns));
      numbers = rows;
      exhibit = exhibit;
      shown = refl;
      fits = fits_schema s rows legal.over numerals;
      legal = subst (λ (n : ℕ). IsLegal n (theory_of s) (shown_relation s rows)) one_each
          (legal-to columns (theory_of s) rows made (subst (λ (n : ℕ). IsLegal n (theory_of s) rows) (sym one_each) legal));
      exact = λ x y low_x low_y. (
        λ obeys. (exact x y low_x low_y).0 (obeys-from columns (fd x y) rows made obeys),
        λ implied. obeys-to columns (fd x y) rows made ((exact x y low_x low_y).1 implied),
      );
    }
