-- Two schemas with one list of names: each dependency is carried over as it is, and where the same relations
-- are legal for both, each implies the other.
use Rattle.std.proofs.Common.{◌≡◌, ◌<◌, ℕ, true, false, List, [], length, get_or, Some, refl, sym, subst, ap, ◌∙◌, inl, inr, arith}
use mathlib.Core.Path.{fun_ext}
use Rattle.std.specs.Prelude.{AllPairs, nat_lt}
use Rattle.std.specs.List.{position_or_len}
use Rattle.std.specs.Str.{str_to_ascii_lowercase}
use Rattle.std.proofs.lemmas.Bool.{cases_lt, lt-ltb}
use Rattle.std.proofs.lemmas.Bool.Decides.{nat_tests}
use Rattle.std.proofs.lemmas.List.Sums.{position_or_len_is}
use Rattle.std.proofs.lemmas.Slice.Eq.{bytes_eq-Decides}
use Rattle.attr_sets.specs.Attributes.{Attributes, IsSubset}
use Rattle.dep_model.specs.Dependencies.{Dependency, fd, mvd, IsWithin}
use Rattle.dep_model.specs.Implication.{IsLegal}
use Rattle.schema_model.specs.Names.{same_name}
use Rattle.schema_model.specs.Schemas.{names_of, width_of, theory_of, universe_of, attribute_named, ImpliedBy}
use Rattle.dep_model.specs.Tuples.{Relation}
use Rattle.schema_model.specs.Schemas.{Schema}
use Rattle.min_cover.specs.Covers.{HaveSameLegal}
use Rattle.schema_match.specs.Carried.{carry_attributes, carry_dependency, IsImpliedBy}
use Rattle.schema_match.specs.Columns.{name_of_attribute, IsDeclaredBy, SameNames}
use Rattle.schema_match.proofs.MatchLemmas.{theory_within}
use Rattle.schema_match.proofs.NameLemmas.{carry_attributes-at, undeclared_is}

-- ---- names
same_name-self : (name : List ℕ) → same_name name name ≡ true
same_name-self name = (bytes_eq-Decides (str_to_ascii_lowercase name) (str_to_ascii_lowercase name)).1 refl

-- an attribute is the one of its name
own_attribute : (names : List (List ℕ)) (k : ℕ) → AllPairs (λ a b. same_name a b ≡ false) names → k < length names
    → attribute_named names (get_or names k []) ≡ Some k
own_attribute names k differ inside =
    let first : position_or_len (λ name. same_name name (get_or names k [])) names ≡ k =
    position_or_len_is (λ name. same_name name (get_or names k [])) names k [] (omega (arith, inside))
    (λ j lt. differ j k [] lt inside) (λ l. same_name-self (get_or names k [])) in
    let within : nat_lt k (length names) ≡ true = lt-ltb _ _ inside in
    rw (first, within) refl

-- an attribute of one schema is the other's of its name
namesake_itself : (schema other : Schema) (k : ℕ) → names_of schema ≡ names_of other → k < width_of schema
    → attribute_named (names_of other) (name_of_attribute schema k) ≡ Some k
namesake_itself schema other k names inside =
    subst (λ (declared : List (List ℕ)). attribute_named declared (name_of_attribute schema k) ≡ Some k) names
    (own_attribute (names_of schema) k schema.valid.names_differ inside)

all_declared : (schema other : Schema) → names_of schema ≡ names_of other → IsDeclaredBy other schema
all_declared schema other names k = elim (cases_lt k (width_of schema)) [
  | inl inside ↦ undeclared_is schema other k (Some k) inside (namesake_itself schema other k names inside)
  | inr beyond ↦ grind (arith, nat_tests, beyond)
]

pub same_names : (schema other : Schema) → names_of schema ≡ names_of other → SameNames schema other
same_names schema other names = (all_declared schema other names, all_declared other schema (sym names))

-- ---- what is carried over
carried_set : (schema other : Schema) (x : Attributes) → names_of schema ≡ names_of other
    → IsSubset x (universe_of schema)
    → carry_attributes schema other x ≡ x
carried_set schema other x names within = fun_ext (λ (k : ℕ). elim (cases_lt k (width_of other)) [
  | inl inside ↦ carry_attributes-at schema other x k k inside (namesake_itself other schema k (sym names) inside)
  | inr beyond ↦
      let same : width_of schema ≡ width_of other = ap length names in
      let outside : x k ≡ false = grind (arith, nat_tests, within k, same, beyond) in
      let none : carry_attributes schema other x k ≡ false = grind (arith, nat_tests, beyond) in
      none ∙ sym outside
])

pub carried_itself : (schema other : Schema) (d : Dependency) → names_of schema ≡ names_of other
    → IsWithin (universe_of schema) d
    → carry_dependency schema other d ≡ d
carried_itself schema other (fd x y) names within =
    ap (λ (z : Attributes). fd z (carry_attributes schema other y)) (carried_set schema other x names within.0)
    ∙ ap (fd x) (carried_set schema other y names within.1)
carried_itself schema other (mvd x y) names within =
    ap (λ (z : Attributes). mvd z (carry_attributes schema other y)) (carried_set schema other x names within.0)
    ∙ ap (mvd x) (carried_set schema other y names within.1)

-- ---- what follows
follows_same : (schema other : Schema) → names_of schema ≡ names_of other
    → ((r : Relation) → IsLegal (width_of other) (theory_of other) r → IsLegal (width_of other) (theory_of schema) r)
    → IsImpliedBy other schema
follows_same schema other names legal k d l =
    let e = get_or (theory_of schema) k d in
    subst (λ (f : Dependency). ImpliedBy other f)
    (sym (carried_itself schema other e names (theory_within schema k d l)))
    (λ r is. (legal r is).obeys k d l)

pub implied_there : (schema other : Schema) → names_of schema ≡ names_of other
    → HaveSameLegal (width_of schema) (theory_of other) (theory_of schema) → IsImpliedBy other schema
implied_there schema other names same =
    follows_same schema other names
    (λ r. subst (λ (n : ℕ). IsLegal n (theory_of other) r → IsLegal n (theory_of schema) r) (ap
    length names) (same r).0)

pub implied_back : (schema other : Schema) → names_of schema ≡ names_of other
    → HaveSameLegal (width_of schema) (theory_of other) (theory_of schema) → IsImpliedBy schema other
implied_back schema other names same = follows_same other schema (sym names) (λ r. (same r).1)
