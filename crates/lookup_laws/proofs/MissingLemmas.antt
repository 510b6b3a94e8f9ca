-- Tuples that miss no value of a key, and the rows of a table: projections of such tuples.
use Rattle.std.proofs.Common.{inl, inr, ◌≡◌, ◌==◌, ℕ, zero, suc, Bool, true, false, not, ◌&&◌, List, [], ◌∷◌, length, filter, refl, sym, ap, ◌∙◌, arith}
use Rattle.std.proofs.lemmas.Bool.{cases_Bool, true≢false, and_parts, and_from, false_from_ne_true, not_from_false, eqb-true}
use Rattle.std.proofs.lemmas.List.Folds.{list_all-append, list_all-map}
use Rattle.std.specs.List.{list_all}
use Rattle.std.specs.Prelude.{Contains}
use Rattle.attr_sets.specs.Attributes.{Attributes, Disjoint}
use Rattle.attr_sets.specs.Sets.{attributes}
use Rattle.dep_model.specs.Projections.{members_below, project_tuple, ordered_projection}
use Rattle.dep_model.specs.Tuples.{Tuple, Relation, value_at, AgreeOn}
use Rattle.dep_model.proofs.DistinctLemmas.{filter-member, filter-keeps, ordered_projection-same}
use Rattle.dep_model.proofs.JoinLemmas.{map_members-same, agree-from_projections}
use Rattle.dep_model.proofs.ListLemmas.{Contains-map, map-member}
use Rattle.dep_model.proofs.SchemeLemmas.{members_below-member, members_below-outside, members_below-none}
use Rattle.optional_tables.specs.declared.keyed.KeyedScheme.{KeyedScheme}
use Rattle.optional_tables.specs.Homes.{is_optional}
use Rattle.optional_tables.specs.LookUps.{Missing, AreMissingValues, empty_values, misses_none, complete_tuples, rows_for}
use Rattle.lookup_laws.proofs.HomeLemmas.{key_is_filled}

-- ---- a test of each member of a set
-- tests that agree at the members
pub all_members_same : (p q : ℕ → Bool) (n : ℕ) (x : Attributes) → ((k : ℕ) → x k ≡ true → p k ≡ q k)
    → list_all p (members_below n x) ≡ list_all q (members_below n x)
all_members_same p q n x same =
    sym (list_all-map (λ (b : Bool). b) p (members_below n x)) ∙ ap (list_all (λ (b : Bool). b)) (map_members-same p q n x same)
    ∙ list_all-map (λ (b : Bool). b) q (members_below n x)

-- a test that each member passes
all_members_pass : (p : ℕ → Bool) (n : ℕ) (x : Attributes) → ((k : ℕ) → x k ≡ true → p k ≡ true)
    → list_all p (members_below n x) ≡ true
all_members_pass p zero x each = rw (members_below-none x) refl
all_members_pass p (suc n) x each = elim (cases_Bool (x n)) [
  | inl member ↦ rw (members_below-member n x member)
      (list_all-append p (members_below n x) (n ∷ [])
      ∙ and_from (list_all p (members_below n x)) (p n && true) (all_members_pass p n x each) (and_from (p n) true (each n member) refl))
  | inr outside ↦ rw (members_below-outside n x outside) (all_members_pass p n x each)
]

-- ---- complete tuples
pub misses_same : (missing : Missing) (x : Attributes) (t u : Tuple) → length t ≡ length u → AgreeOn x t u
    → misses_none missing x t ≡ misses_none missing x u
misses_same missing x t u long agree =
    all_members_same (λ k. not (missing k (value_at t k))) (λ k. not (missing k (value_at u k))) (length t) x
    (λ k m. ap (λ (v : List ℕ). not (missing k v)) (agree k m))
    ∙ ap (λ (n : ℕ). list_all (λ k. not (missing k (value_at u k))) (members_below n x)) long

pub disjoint_misses_none : (nullable : Attributes) (missing : Missing) (x : Attributes) (t : Tuple) → AreMissingValues nullable missing
    → Disjoint x nullable → misses_none missing x t ≡ true
disjoint_misses_none nullable missing x t are_missing apart =
    all_members_pass (λ k. not (missing k (value_at t k))) (length t) x
    (λ k m. not_from_false (missing k (value_at t k)) (false_from_ne_true (missing k (value_at t k))
    (λ is. true≢false (sym (are_missing.only k (value_at t k) is) ∙ apart k m))))

pub filled_misses_none : (nullable : Attributes) (missing : Missing) (table : KeyedScheme) (t : Tuple) → AreMissingValues nullable missing
    → is_optional nullable table ≡ false → misses_none missing (attributes table.key) t ≡ true
filled_misses_none nullable missing table t are_missing not_so =
    disjoint_misses_none nullable missing (attributes table.key) t are_missing (key_is_filled nullable table not_so)

-- ---- the rows of a table
-- the projection of a complete tuple is one
pub row_from : (missing : Missing) (r : Relation) (table : KeyedScheme) (t : Tuple) → Contains r t
    → misses_none missing (attributes table.key) t ≡ true → Contains (rows_for missing r table) (project_tuple (attributes table.scheme) t)
row_from missing r table t t_in complete =
    let scheme = attributes table.scheme in
    let kept = complete_tuples missing table r in
    (ordered_projection-same scheme kept (project_tuple scheme t)).0
    (Contains-map (project_tuple scheme) kept t (filter-keeps (misses_none missing (attributes table.key)) r t t_in complete))

-- and a row is the projection of such a tuple
pub row_to : (missing : Missing) (r : Relation) (table : KeyedScheme) (t : Tuple)
    → Contains (rows_for missing r table) (project_tuple (attributes table.scheme) t)
    → (u : Tuple) × Contains r u × AgreeOn (attributes table.scheme) u t
row_to missing r table t stands =
    let scheme = attributes table.scheme in
    let kept = complete_tuples missing table r in
    let (u, u_in, same) = map-member (project_tuple scheme) kept (project_tuple scheme t)
    ((ordered_projection-same scheme kept (project_tuple scheme t)).1 stands) in
    (u, (filter-member (misses_none missing (attributes table.key)) r u u_in).0, agree-from_projections scheme u t same)

pub filter_whole : {X : Type 0} (p : X → Bool) (xs : List X) → ((x : X) → p x ≡ true) → filter p xs ≡ xs
filter_whole p [] each = refl
filter_whole {X} p (x ∷ xs) each = rw (each x) (ap (λ (l : List X). x ∷ l) (filter_whole p xs each))

-- where no value of the key can be missing, the rows are all projections
pub filled_has_all : (nullable : Attributes) (missing : Missing) (r : Relation) (table : KeyedScheme) → AreMissingValues nullable missing
    → is_optional nullable table ≡ false → rows_for missing r table ≡ ordered_projection (attributes table.scheme) r
filled_has_all nullable missing r table are_missing not_so =
    ap (ordered_projection (attributes table.scheme))
    (filter_whole (misses_none missing (attributes table.key)) r (λ t. filled_misses_none nullable missing table t are_missing not_so))

-- ---- the empty value
no_value : (v : List ℕ) → length v ≡ 0 → v ≡ []
no_value [] e = refl
no_value (b ∷ bytes) e = absurd (omega (arith, e))

pub empty_is_missing : (nullable : Attributes) → AreMissingValues nullable (empty_values nullable)
empty_is_missing nullable = record {
  only = λ k v is. (and_parts (nullable k) (length v == 0) is).0;
  one = λ k v w is is_too.
      no_value v (eqb-true (length v) 0 (and_parts (nullable k) (length v == 0) is).1)
      ∙ sym (no_value w (eqb-true (length w) 0 (and_parts (nullable k) (length w == 0) is_too).1));
}
