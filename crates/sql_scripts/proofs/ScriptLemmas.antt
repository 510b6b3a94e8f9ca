-- What the queries of the scripts give, over the relations of a schema.
use Rattle.std.proofs.Common.{◌≡◌, ◌<◌, ℕ, Option, Some, None, List, [], ◌∷◌, length, get_or, map, refl, sym, subst}
use Rattle.std.specs.Prelude.{◌↔◌, All, MatchOption, ⊤}
use Rattle.std.proofs.lemmas.List.Elements.{All-filter}
use Rattle.attr_sets.specs.Attributes.{Attributes, below}
use Rattle.attr_sets.specs.Sets.{attributes}
use Rattle.schema_model.specs.Schemas.{Schema}
use Rattle.dep_model.specs.Dependencies.{Dependency, IsWithin, Obeys}
use Rattle.dep_model.specs.Projections.{IsLossless}
use Rattle.schema_model.specs.Schemas.{width_of, theory_of, deps_of, LegalFor}
use Rattle.dep_model.specs.Tuples.{Relation, IsOver}
use Rattle.dep_model.proofs.DepLemmas.{dependencies_all-from}
use Rattle.optional_tables.specs.LookUps.{complete_tuples, misses_none}
use Rattle.ddl_text.specs.Designs.{keyed}
use Rattle.ddl_text.specs.declared.table.TableDesign.{TableDesign}
use Rattle.relation_queries.specs.Queries.{TableQuery, StoredTable, breaches_of}
use Rattle.relation_queries.specs.Meanings.{GivesNone}
use Rattle.relation_queries.proofs.BreachLemmas.{breaches_tell}
use Rattle.relation_queries.proofs.JoinedLemmas.{values_given, join_given, nothing_left}
use Rattle.sql_scripts.specs.Checking.{NothingBreaks}
use Rattle.sql_scripts.specs.Migrating.{stored_tables, FillsTables, ViewIsTable}
use Rattle.sql_migrate.specs.Script.{view_name}

-- ---- rules
GivesNone-from_meaning : (n : ℕ) (r : Relation) (found : Option TableQuery) (A : Type 0) → MatchOption found A (λ q. GivesNone n q r ↔ A) → A
    → MatchOption found ⊤ (λ q. GivesNone n q r)
GivesNone-from_meaning n r None A query_exact holds = tt
GivesNone-from_meaning n r (Some q) A query_exact holds = query_exact.1 holds

meaning-from_GivesNone : (n : ℕ) (r : Relation) (found : Option TableQuery) (A : Type 0) → MatchOption found A (λ q. GivesNone n q r ↔ A)
    → MatchOption found ⊤ (λ q. GivesNone n q r) → A
meaning-from_GivesNone n r None A query_exact none = query_exact
meaning-from_GivesNone n r (Some q) A query_exact none = query_exact.0 none

pub nothing_breaks : (s : Schema) (r : Relation) → IsOver (width_of s) r → LegalFor s r ↔ NothingBreaks s r
nothing_breaks s r over = (to, from)
  where
    within : All (IsWithin (below (width_of s))) (theory_of s)
    within = dependencies_all-from (IsWithin (below (width_of s))) (deps_of s) s.valid.deps_within

    query_exact : (i : ℕ) (d : Dependency) → i < length (theory_of s)
        → MatchOption (breaches_of (width_of s) (get_or (theory_of s) i d)) (Obeys (width_of s) (get_or (theory_of s) i d) r)
        (λ q. GivesNone (width_of s) q r ↔ Obeys (width_of s) (get_or (theory_of s) i d) r)
    query_exact i d lt = breaches_tell (width_of s) (get_or (theory_of s) i d) r s.valid.names_within_limit (within i d lt) over

    to : LegalFor s r → NothingBreaks s r
    to legal i d lt =
        GivesNone-from_meaning (width_of s) r (breaches_of (width_of s) (get_or (theory_of s) i d)) (Obeys (width_of s) (get_or (theory_of s) i d) r) (query_exact i d lt) (legal.obeys i d lt)

    from : NothingBreaks s r → LegalFor s r
    from none = record {
      over = over;
      obeys = λ i d lt.
          meaning-from_GivesNone (width_of s) r (breaches_of (width_of s) (get_or (theory_of s) i d)) (Obeys (width_of s) (get_or (theory_of s) i d) r) (query_exact i d lt) (none i d lt);
    }

-- ---- plans
pub fills_tables : (s : Schema) (designs : List TableDesign) → FillsTables s designs
fills_tables s designs missing r legal design h u =
    values_given (width_of s) (attributes design.scheme) (complete_tuples missing (keyed design) r) u
    (All-filter (misses_none missing (attributes design.key)) (λ t. length t ≡ width_of s) r legal.over)

schemes_are : (designs : List TableDesign) → map (λ (table : StoredTable). table.scheme) (stored_tables designs) ≡ map (λ (design : TableDesign). attributes design.scheme) designs
schemes_are [] = refl
schemes_are (design ∷ designs) = let rest = schemes_are designs in cc

pub view_is_table : (s : Schema) (designs : List TableDesign) → ViewIsTable s designs
view_is_table s designs lossless r legal =
    let n = width_of s in
    let tables = stored_tables designs in
    let lossless' = subst (λ (plan : List Attributes). IsLossless n (theory_of s) plan) (sym (schemes_are designs)) lossless in
    let left = nothing_left n (theory_of s) view_name tables r s.valid.names_not_empty lossless' legal in
    record {
      rows = join_given n (theory_of s) tables r s.valid.names_not_empty lossless' legal;
      table_lacks = left.1;
      view_lacks = left.0;
    }
