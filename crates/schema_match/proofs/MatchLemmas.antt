-- Two schemas over the same names: their attributes, dependencies and relations stand for one another.
use Rattle.std.proofs.Common.{◌≡◌, ℕ, ◌<◌, [], ◌∷◌, length, get_or, Some, refl, sym, ◌∙◌, ap, subst, arith}
use Rattle.std.specs.Prelude.{All}
use Rattle.std.proofs.lemmas.List.{length-map, get_or-map, ext_get_or}
use Rattle.std.proofs.lemmas.List.Elements.{All-head, All-tail, All-map}
use Rattle.attr_sets.specs.Attributes.{Attributes, IsSubset}
use Rattle.schema_model.specs.Schemas.{Schema}
use Rattle.dep_model.specs.Tuples.{Tuple, Relation, IsOver, value_at}
use Rattle.dep_model.specs.Dependencies.{Dependency, fd, mvd, Obeys, IsWithin}
use Rattle.schema_model.specs.Schemas.{names_of, width_of, universe_of, theory_of, deps_of, attribute_named, LegalFor}
use Rattle.dep_model.proofs.ListLemmas.{Contains-map, map-member}
use Rattle.dep_model.proofs.DepLemmas.{dependencies_all-from}
use Rattle.schema_match.specs.Columns.{name_of_attribute, SameNames, value_named, reorder_tuple, reorder}
use Rattle.schema_match.specs.Carried.{carry_attributes, carry_dependency, IsImpliedBy, HaveSameLegalRelations}
use Rattle.schema_match.proofs.RenamingLemmas.{IsRenaming, Inverse, IsRenaming-inverse, SameSet, SameTuple, AreRenamed}
use Rattle.schema_match.proofs.RenamingLemmas.{SameDependency, AreRenamed-inverse, SameDependency-inverse}
use Rattle.schema_match.proofs.RenamingLemmas.{obeys_renamed}
use Rattle.schema_match.proofs.NameLemmas.{attribute_named_is, named_back, declared_attribute, carry_attributes-at}

-- an attribute of one schema and one of another have one name
pub record AreNamesake (schema other : Schema) (a b : ℕ) : Type 0 where
  pub inside : a < width_of schema
  pub there : attribute_named (names_of other) (name_of_attribute schema a) ≡ Some b

namesake_inside : (schema other : Schema) (a b : ℕ) → AreNamesake schema other a b → b < width_of other
namesake_inside schema other a b names = (attribute_named_is (names_of other) (name_of_attribute schema a) b names.there).0

namesake_back : (schema other : Schema) (a b : ℕ) → AreNamesake schema other a b
    → attribute_named (names_of schema) (name_of_attribute other b) ≡ Some a
namesake_back schema other a b names =
    named_back (names_of schema) (names_of other) a b schema.valid.names_differ names.inside names.there

namesakes_rename : (schema other : Schema) → SameNames schema other
    → IsRenaming (width_of schema) (width_of other) (AreNamesake schema other)
namesakes_rename schema other names = record {
  first = λ a b same. same.inside;
  second = λ a b same. namesake_inside schema other a b same;
  there = λ a lt.
      let found = declared_attribute schema other a names.0 lt in (
        found.0,
        record { inside = lt; there = found.1 },
      );
  back = λ b lt.
      let found = declared_attribute other schema b names.1 lt in
      let a = found.0 in (
        a,
        record {
          inside = (attribute_named_is (names_of schema) (name_of_attribute other b) a found.1).0;
          there = named_back (names_of other) (names_of schema) b a other.valid.names_differ lt found.1;
        },
      );
}

-- ---- sets and dependencies that are carried over
set_there : (schema other : Schema) (x : Attributes) → SameSet (AreNamesake schema other) x (carry_attributes schema other x)
set_there schema other x a b same =
    sym (carry_attributes-at schema other x a b (namesake_inside schema other a b same)
    (namesake_back schema other a b same))

set_back : (schema other : Schema) (x : Attributes) → SameSet (AreNamesake schema other) (carry_attributes other schema x) x
set_back schema other x a b same = carry_attributes-at other schema x b a same.inside same.there

dependency_there : (schema other : Schema) (d : Dependency)
    → SameDependency (AreNamesake schema other) d (carry_dependency schema other d)
dependency_there schema other (fd x y) = (set_there schema other x, set_there schema other y)
dependency_there schema other (mvd x y) = (set_there schema other x, set_there schema other y)

dependency_back : (schema other : Schema) (d : Dependency)
    → SameDependency (AreNamesake schema other) (carry_dependency other schema d) d
dependency_back schema other (fd x y) = (set_back schema other x, set_back schema other y)
dependency_back schema other (mvd x y) = (set_back schema other x, set_back schema other y)

pub carry_attributes-within : (schema other : Schema) (x : Attributes) → IsSubset (carry_attributes schema other x) (universe_of other)
carry_attributes-within schema other x b member = grind (arith, member)

pub carry_dependency-within : (schema other : Schema) (d : Dependency) → IsWithin (universe_of other) (carry_dependency schema other d)
carry_dependency-within schema other (fd x y) = (carry_attributes-within schema other x, carry_attributes-within schema other y)
carry_dependency-within schema other (mvd x y) = (carry_attributes-within schema other x, carry_attributes-within schema other y)

-- the dependencies of a schema lie within its universe
pub theory_within : (s : Schema) → All (IsWithin (universe_of s)) (theory_of s)
theory_within s = dependencies_all-from (IsWithin (universe_of s)) (deps_of s) s.valid.deps_within

-- ---- relations with their columns in another order
tuple_there : (schema other : Schema) (t : Tuple)
    → SameTuple (AreNamesake schema other) t (reorder_tuple schema other t)
tuple_there schema other t a b same =
    let read = get_or-map (value_named (names_of schema) t) (names_of other) b [] []
    (namesake_inside schema other a b same) in
    let found : value_named (names_of schema) t (name_of_attribute other b) ≡ value_at t a =
    rw (namesake_back schema other a b same) refl in
    sym (read ∙ found)

relations_there : (schema other : Schema) (r : Relation)
    → AreRenamed (AreNamesake schema other) r (reorder schema other r)
relations_there schema other r = record {
  there = λ t t_in. (
    reorder_tuple schema other t,
    Contains-map (reorder_tuple schema other) r t t_in,
    tuple_there schema other t,
  );
  back = λ u u_in.
      let found = map-member (reorder_tuple schema other) r u u_in in (
        found.0,
        found.1,
        subst (λ (v : Tuple). SameTuple (AreNamesake schema other) found.0 v) found.2
            (tuple_there schema other found.0),
      );
}

pub reorder-over : (schema other : Schema) (r : Relation) → IsOver (width_of other) (reorder schema other r)
reorder-over schema other r =
    All-map (λ (t : Tuple). length t ≡ width_of other) (reorder_tuple schema other) r
    (λ k d l. length-map (names_of other) (value_named (names_of schema) (get_or r k d)))

-- ---- what relations obey
-- a relation obeys a dependency where it does so with its columns in another order
pub obeys_there : (schema other : Schema) (d : Dependency) (r : Relation) → SameNames schema other
    → IsWithin (universe_of schema) d
    → Obeys (width_of schema) d r → Obeys (width_of other) (carry_dependency schema other d) (reorder schema other r)
obeys_there schema other d r names low =
    obeys_renamed (width_of schema) (width_of other) (AreNamesake schema other) d (carry_dependency schema other d) r
    (reorder schema other r)
    (namesakes_rename schema other names) low (carry_dependency-within schema other d) (dependency_there schema other d)
    (relations_there schema other r)

pub obeys_back : (schema other : Schema) (d : Dependency) (r : Relation) → SameNames schema other
    → IsWithin (universe_of schema) d
    → Obeys (width_of other) (carry_dependency schema other d) (reorder schema other r) → Obeys (width_of schema) d r
obeys_back schema other d r names low =
    obeys_renamed (width_of other) (width_of schema) (Inverse (AreNamesake schema other))
    (carry_dependency schema other d) d (reorder schema other r) r
    (IsRenaming-inverse (width_of schema) (width_of other) (AreNamesake schema other) (namesakes_rename schema other names))
    (carry_dependency-within schema other d) low
    (SameDependency-inverse (AreNamesake schema other) d (carry_dependency schema other d) (dependency_there schema other d))
    (AreRenamed-inverse (AreNamesake schema other) r (reorder schema other r) (relations_there schema other r))

-- the same of a dependency of the other schema
obeys_other-there : (schema other : Schema) (d : Dependency) (r : Relation) → SameNames schema other
    → IsWithin (universe_of other) d
    → Obeys (width_of schema) (carry_dependency other schema d) r → Obeys (width_of other) d (reorder schema other r)
obeys_other-there schema other d r names low =
    obeys_renamed (width_of schema) (width_of other) (AreNamesake schema other) (carry_dependency other schema d) d r
    (reorder schema other r)
    (namesakes_rename schema other names) (carry_dependency-within other schema d) low (dependency_back schema other d)
    (relations_there schema other r)

obeys_other-back : (schema other : Schema) (d : Dependency) (r : Relation) → SameNames schema other
    → IsWithin (universe_of other) d
    → Obeys (width_of other) d (reorder schema other r) → Obeys (width_of schema) (carry_dependency other schema d) r
obeys_other-back schema other d r names low =
    obeys_renamed (width_of other) (width_of schema) (Inverse (AreNamesake schema other)) d
    (carry_dependency other schema d) (reorder schema other r) r
    (IsRenaming-inverse (width_of schema) (width_of other) (AreNamesake schema other) (namesakes_rename schema other names)) low
    (carry_dependency-within other schema d)
    (SameDependency-inverse (AreNamesake schema other) (carry_dependency other schema d) d (dependency_back schema other d))
    (AreRenamed-inverse (AreNamesake schema other) r (reorder schema other r) (relations_there schema other r))

-- ---- legal relations
pub have_same_legal_relations : (schema other : Schema) → SameNames schema other → IsImpliedBy other schema
    → IsImpliedBy schema other → HaveSameLegalRelations schema other
have_same_legal_relations schema other names there back r over = (
  λ legal. record {
    over = reorder-over schema other r;
    obeys = λ k d l. obeys_other-there schema other (get_or (theory_of other) k d) r names
        (theory_within other k d l) (back k d l r legal);
  },
  λ legal. record {
    over = over;
    obeys = λ k d l. obeys_back schema other (get_or (theory_of schema) k d) r names
        (theory_within schema k d l) (there k d l (reorder schema other r) legal);
  },
)

pub implied_back : (schema other : Schema) → SameNames schema other → HaveSameLegalRelations schema other
    → IsImpliedBy schema other
implied_back schema other names same k d l r legal =
    obeys_other-back schema other (get_or (theory_of other) k d) r names (theory_within other k d l)
    (((same r legal.over).0 legal).obeys k d l)

-- ---- columns put into another order and back
tuple_again : (schema other : Schema) (t : Tuple) → SameNames schema other → length t ≡ width_of other
    → reorder_tuple schema other (reorder_tuple other schema t) ≡ t
tuple_again schema other t names long =
    let whole : length (reorder_tuple schema other (reorder_tuple other schema t)) ≡ length t =
    length-map (names_of other) (value_named (names_of schema) (reorder_tuple other schema t)) ∙ sym long in
    ext_get_or [] (reorder_tuple schema other (reorder_tuple other schema t)) t whole
    (λ b lt. at b (omega (arith, whole, long, lt)))
  where
    at : (b : ℕ) → b < width_of other
        → get_or (reorder_tuple schema other (reorder_tuple other schema t)) b [] ≡ get_or t b []
    at b inside =
        let found = (namesakes_rename schema other names).back b inside in
        let a = found.0 in
        let first = tuple_there schema other (reorder_tuple other schema t) a b found.1 in
        let second = tuple_there other schema t b a
        (record { inside = inside; there = namesake_back schema other a b found.1 }) in
        sym (second ∙ first)

pub relation_again : (schema other : Schema) (r : Relation) → SameNames schema other
    → IsOver (width_of other) r → reorder schema other (reorder other schema r) ≡ r
relation_again schema other [] names over = refl
relation_again schema other (t ∷ r) names over =
    let P : Tuple → Type 0 = λ (u : Tuple). length u ≡ width_of other in
    let one = tuple_again schema other t names (All-head P t r over) in
    let rest = relation_again schema other r names (All-tail P t r over) in
    ap (λ (u : Tuple). u ∷ reorder schema other (reorder other schema r)) one ∙ ap (λ (s : Relation). t ∷ s) rest

-- ---- so what is legal there is legal here
pub implied_there : (schema other : Schema) → SameNames schema other → HaveSameLegalRelations schema other
    → IsImpliedBy other schema
implied_there schema other names same k d l r legal =
    let before = reorder other schema r in
    let again = relation_again schema other r names legal.over in
    let whole : LegalFor other (reorder schema other before) =
    subst (λ (s : Relation). LegalFor other s) (sym again) legal in
    let e = get_or (theory_of schema) k d in
    let obeyed : Obeys (width_of schema) e before =
    ((same before (reorder-over other schema r)).1 whole).obeys k d l in
    subst (λ (s : Relation). Obeys (width_of other) (carry_dependency schema other e) s) again
    (obeys_there schema other e before names (theory_within schema k d l) obeyed)
