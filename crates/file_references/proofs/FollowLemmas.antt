-- References that follow from others.
use Rattle.std.specs.List.{list_all}
use Rattle.std.proofs.Common.{◌≡◌, ℕ, true, List, ap, ◌∙◌}
use Rattle.dep_model.specs.Tuples.{Tuple}
use Rattle.file_references.specs.Columns.{is_there, misses_none, values_on}
use Rattle.file_references.specs.Finds.{AreReferences, Follows}
use Rattle.file_references.specs.References.{IsCandidate, IsReference, Reference}
use Rattle.headed_rows.specs.Headings.{HeadedRows}

-- rows with the same values miss as many
same_whole : (columns others : List ℕ) (t u : Tuple) → values_on others u ≡ values_on columns t → misses_none columns t ≡ true
    → misses_none others u ≡ true
same_whole columns others t u same whole = ap (list_all is_there) same ∙ whole

-- inclusion is transitive
pub what_follows : (files : List HeadedRows) (refs : List Reference) (ref : Reference) → AreReferences files refs
    → IsCandidate files ref → Follows refs ref → IsReference files ref
what_follows files refs ref are candidate (file, (columns, first_in, then_in)) =
    let first = are _ first_in in
    let then_on = are _ then_in in
    record {
      candidate = candidate;
      within = λ t t_in whole.
          let (u, u_in, u_is) = first.within t t_in whole in
          let (v, v_in, v_is) = then_on.within u u_in (same_whole ref.columns columns t u u_is whole) in
          (v, v_in, v_is ∙ u_is);
      some_row = first.some_row;
    }
