-- A key holds in the rows of a table of a legal relation, and a reference between two tables.
use Rattle.std.proofs.Common.{◌≡◌, ℕ, zero, suc, Bool, true, not, List, [], ◌∷◌, length, refl, sym, subst, ap, ◌∙◌, inl, inr}
use Rattle.std.specs.Prelude.{Contains}
use Rattle.std.specs.List.{list_all}
use Rattle.std.proofs.lemmas.Bool.{and_from, cases_Bool}
use Rattle.std.proofs.lemmas.List.Elements.{All-contains}
use Rattle.std.proofs.lemmas.List.Folds.{list_all-append}
use Rattle.attr_sets.specs.Attributes.{Attributes, below, IsSubset}
use Rattle.attr_sets.specs.Sets.{attributes}
use Rattle.dep_model.specs.Tuples.{Tuple, Relation, AgreeOn, value_at}
use Rattle.dep_model.specs.Dependencies.{Dependency}
use Rattle.dep_model.specs.Implication.{IsLegal}
use Rattle.dep_model.specs.Projections.{members_below, project_tuple, projection}
use Rattle.dep_model.specs.OnSchemes.{value_in, AgreeIn}
use Rattle.dep_model.specs.Keys.{IsKey}
use Rattle.dep_model.proofs.ListLemmas.{Contains-map, map-member}
use Rattle.dep_model.proofs.DistinctLemmas.{distinct_tuples-to, distinct_tuples-from, filter-keeps, filter-member}
use Rattle.dep_model.proofs.SchemeLemmas.{members_below-member, members_below-none, members_below-outside, value_in-project_tuple, AgreeIn-to}
use Rattle.dep_model.proofs.JoinLemmas.{project_tuple-same}
use Rattle.optional_tables.specs.declared.keyed.KeyedScheme.{KeyedScheme}
use Rattle.optional_tables.specs.LookUps.{Missing, complete_tuples, misses_none, rows_for}
use Rattle.primary_keys.specs.PrimaryKeys.{IsPrimaryKey}
use Rattle.primary_keys.proofs.PrimaryLemmas.{primary_is_key}
use Rattle.ddl_text.specs.KeysAndReferences.{KeyHolds, MissesNoneIn, ReferenceHolds}

-- ---- the rows of a table
-- a row is the projection of a tuple that is complete
row_of : (missing : Missing) (r : Relation) (table : KeyedScheme) (t : Tuple) → Contains (rows_for missing r table) t
    → (u : Tuple) × Contains r u × (project_tuple (attributes table.scheme) u ≡ t)
row_of missing r table t has =
    let (u, u_in, is) = map-member (project_tuple (attributes table.scheme)) (complete_tuples missing table r) t
    (distinct_tuples-to (projection (attributes table.scheme) (complete_tuples missing table r)) t has) in
    (u, (filter-member (misses_none missing (attributes table.key)) r u u_in).0, is)

-- what passes at each member of a set passes at all
all_members : (test : ℕ → Bool) (n : ℕ) (x : Attributes) → ((k : ℕ) → x k ≡ true → test k ≡ true)
    → list_all test (members_below n x) ≡ true
all_members test zero x each = rw (members_below-none x) refl
all_members test (suc n) x each = elim (cases_Bool (x n)) [
  | inl member ↦ rw (members_below-member n x member)
      (list_all-append test (members_below n x) (n ∷ [])
      ∙ and_from (list_all test (members_below n x)) (list_all test (n ∷ [])) (all_members test n x each)
      (and_from (test n) true (each n member) refl))
  | inr outside ↦ rw (members_below-outside n x outside) (all_members test n x each)
]

-- a tuple whose projection misses none of a set misses none of it
none_missed : (missing : Missing) (scheme x : Attributes) (t : Tuple) → IsSubset x scheme
    → MissesNoneIn missing scheme (project_tuple scheme t) x → misses_none missing x t ≡ true
none_missed missing scheme x t inside none =
    all_members (λ k. not (missing k (value_at t k))) (length t) x
    (λ k member. ap not (ap (missing k) (sym (value_in-project_tuple scheme t k (inside k member))) ∙ none k member))

-- ---- keys
pub is_key_holds : (n : ℕ) (ds : List Dependency) (missing : Missing) (table : KeyedScheme) (key : Attributes)
    (r : Relation) → IsLegal n ds r → IsKey n ds (attributes table.scheme) key
    → KeyHolds (attributes table.scheme) (rows_for missing r table) key
is_key_holds n ds missing table key r legal is_key t u t_in u_in agree =
    let scheme = attributes table.scheme in
    let (one, one_in, one_is) = row_of missing r table t t_in in
    let (other, other_in, other_is) = row_of missing r table u u_in in
    let first : Contains (projection scheme r) t =
    subst (λ (v : Tuple). Contains (projection scheme r) v) one_is (Contains-map (project_tuple scheme) r one one_in) in
    let second : Contains (projection scheme r) u =
    subst (λ (v : Tuple). Contains (projection scheme r) v) other_is (Contains-map (project_tuple scheme) r other other_in) in
    let whole : AgreeIn scheme scheme t u = is_key.superkey.obeyed r legal t u first second agree in
    let on_scheme : AgreeOn scheme one other = AgreeIn-to scheme scheme one other (λ k member. member)
    (rw (one_is, other_is) whole) in
    let one_long = All-contains (λ (v : Tuple). length v ≡ n) r one legal.over one_in in
    let other_long = All-contains (λ (v : Tuple). length v ≡ n) r other legal.over other_in in
    sym one_is ∙ project_tuple-same scheme one other (one_long ∙ sym other_long) on_scheme ∙ other_is

pub key_holds : (n : ℕ) (ds : List Dependency) (nullable : Attributes) (missing : Missing) (table : KeyedScheme)
    (r : Relation) → IsSubset (attributes table.scheme) (below n) → IsLegal n ds r
    → IsPrimaryKey n ds nullable (attributes table.scheme) (attributes table.key)
    → KeyHolds (attributes table.scheme) (rows_for missing r table) (attributes table.key)
key_holds n ds nullable missing table r inside legal primary =
    is_key_holds n ds missing table (attributes table.key) r legal
    (primary_is_key n ds nullable (attributes table.scheme) (attributes table.key) inside primary)

-- ---- references
pub reference_holds : (missing : Missing) (table other : KeyedScheme) (r : Relation)
    → IsSubset (attributes other.key) (attributes table.scheme)
    → IsSubset (attributes other.key) (attributes other.scheme)
    → ReferenceHolds missing (attributes table.scheme) (rows_for missing r table) (attributes other.scheme)
    (rows_for missing r other) (attributes other.key)
reference_holds missing table other r in_scheme in_other t t_in none =
    let scheme = attributes table.scheme in
    let (tuple, tuple_in, is) = row_of missing r table t t_in in
    let row = project_tuple (attributes other.scheme) tuple in
    let complete = none_missed missing scheme (attributes other.key) tuple in_scheme
    (subst (λ (v : Tuple). MissesNoneIn missing scheme v (attributes other.key)) (sym is) none) in (
      row,
      distinct_tuples-from (projection (attributes other.scheme) (complete_tuples missing other r)) row
          (Contains-map (project_tuple (attributes other.scheme)) (complete_tuples missing other r) tuple
          (filter-keeps (misses_none missing (attributes other.key)) r tuple tuple_in complete)),
      λ k member. subst (λ (v : Tuple). value_in scheme v k ≡ value_in (attributes other.scheme) row k) is
          (value_in-project_tuple scheme tuple k (in_scheme k member)
          ∙ sym (value_in-project_tuple (attributes other.scheme) tuple k (in_other k member))),
    )
