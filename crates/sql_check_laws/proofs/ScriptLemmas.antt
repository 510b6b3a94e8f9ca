-- No query of the script gives a row exactly where all rules hold.
use Rattle.std.proofs.Common.{ℕ, List}
use Rattle.std.specs.Prelude.{◌↔◌}
use Rattle.schema_model.specs.Schemas.{Schema}
use Rattle.schema_model.specs.Schemas.{width_of}
use Rattle.dep_model.specs.Tuples.{Relation, IsOver}
use Rattle.sql_check.specs.Checks.{required_query}
use Rattle.sql_evaluation.specs.Evaluation.{Engine}
use Rattle.sql_check_laws.specs.HeldRelations.{Holds, CastsIntegers}
use Rattle.sql_check_laws.specs.CheckedRules.{NoneMissing, RulesHold, NothingShown}
use Rattle.sql_check_laws.proofs.GroupLemmas.{Cells}
use Rattle.sql_check_laws.proofs.IntegerLemmas.{integers_told}
use Rattle.sql_check_laws.proofs.LawLemmas.{shown_none, none_shown, legal_told}
use Rattle.sql_check_laws.proofs.MissingLemmas.{missing_told}

pub rules_told : (e : Engine) (table : List ℕ) (s : Schema) (cell : Cells) (r : Relation) → Holds e table s cell r → IsOver (width_of s) r → CastsIntegers e.cast
    → RulesHold s cell r ↔ NothingShown e s table
rules_told e table s cell r held over casts =
    let missing = missing_told e table s cell r held in
    let legal = legal_told e table s cell r held over in (
      λ hold. record {
        none_missing = shown_none e (required_query s table) (NoneMissing s cell r) missing hold.none_missing;
        integers = λ k low is. (integers_told e table s cell r k held casts low).0 (hold.integers k low is);
        legal = legal.0 hold.legal;
      },
      λ none. record {
        none_missing = none_shown e (required_query s table) (NoneMissing s cell r) missing none.none_missing;
        integers = λ k low is. (integers_told e table s cell r k held casts low).1 (none.integers k low is);
        legal = legal.1 none.legal;
      },
    )
