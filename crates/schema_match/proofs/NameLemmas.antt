-- Names and the positions at which they stand, in two schemas.
use Rattle.std.proofs.Common.{◌≡◌, ℕ, ◌<◌, true, false, List, [], length, get_or, Option, Some, None, refl, sym}
use Rattle.std.proofs.Common.{◌∙◌, ap, arith}
use Rattle.std.specs.Prelude.{nat_lt, is_none, option_map, unwrap_or, AllPairs, slice_index_or, slice_get}
use Rattle.std.specs.List.{position_or_len}
use Rattle.std.specs.Str.{bytes_eq, str_to_ascii_lowercase}
use Rattle.std.proofs.lemmas.Bool.{lt-ltb, ltb-true, false≢true, and_parts}
use Rattle.std.proofs.lemmas.List.Quantifiers.{position-Some}
use Rattle.std.proofs.lemmas.List.Sums.{position_or_len_is}
use Rattle.std.proofs.lemmas.Option.{get_or_from_slice_get}
use Rattle.std.proofs.lemmas.Slice.Eq.{bytes_eq-Decides}
use Rattle.attr_sets.specs.Attributes.{Attributes}
use Rattle.schema_model.specs.Schemas.{Schema}
use Rattle.schema_model.specs.Names.{same_name}
use Rattle.schema_model.specs.Schemas.{names_of, width_of, attribute_named}
use Rattle.schema_match.specs.Columns.{name_of_attribute, undeclared_attributes, IsDeclaredBy}
use Rattle.schema_match.specs.Carried.{carry_attributes}

-- ---- one name in two spellings
same_name-sym : (a b : List ℕ) → same_name a b ≡ true → same_name b a ≡ true
same_name-sym a b same = (bytes_eq-Decides (str_to_ascii_lowercase b) (str_to_ascii_lowercase a)).1
    (sym ((bytes_eq-Decides (str_to_ascii_lowercase a) (str_to_ascii_lowercase b)).0 same))

-- what is no name of one spelling is none of another
same_name-instead : (a b c : List ℕ) → same_name b c ≡ true → same_name a c ≡ same_name a b
same_name-instead a b c same =
    ap (bytes_eq (str_to_ascii_lowercase a))
    (sym ((bytes_eq-Decides (str_to_ascii_lowercase b) (str_to_ascii_lowercase c)).0 same))

-- ---- the position of a name
-- a name of the list stands at its position, if the names differ
attribute_named_at : (names : List (List ℕ)) (word : List ℕ) (k : ℕ)
    → AllPairs (λ a b. same_name a b ≡ false) names → k < length names
    → same_name (get_or names k []) word ≡ true → attribute_named names word ≡ Some k
attribute_named_at names word k differ inside here =
    let before : (j : ℕ) → j < k → same_name (get_or names j []) word ≡ false =
    λ j lt. same_name-instead (get_or names j []) (get_or names k []) word here ∙ differ j k [] lt inside in
    let first : position_or_len (λ name. same_name name word) names ≡ k =
    position_or_len_is (λ name. same_name name word) names k [] (omega (arith, inside)) before (λ l. here) in
    let within : nat_lt k (length names) ≡ true = lt-ltb _ _ inside in
    rw (first, within) refl

-- what stands at a position has the name
pub attribute_named_is : (names : List (List ℕ)) (word : List ℕ) (k : ℕ) → attribute_named names word ≡ Some k
    → (k < length names) × (same_name (get_or names k []) word ≡ true)
attribute_named_is names word k e = let found =
    position-Some (λ name. same_name name word) names k [] e in (found.0, found.1)

-- the attribute whose name an attribute has, has its name
pub named_back : (names others : List (List ℕ)) (a b : ℕ) → AllPairs (λ a b. same_name a b ≡ false) names
    → a < length names
    → attribute_named others (slice_index_or names a []) ≡ Some b → attribute_named names (slice_index_or others b []) ≡ Some a
named_back names others a b differ inside e =
    attribute_named_at names (get_or others b []) a differ inside
    (same_name-sym (get_or others b []) (get_or names a []) (attribute_named_is others (get_or names a []) b e).1)

-- ---- declared names
not_none-some : (o : Option ℕ) → is_none o ≡ false → (b : ℕ) × (o ≡ Some b)
not_none-some None e = absurd (false≢true (sym e))
not_none-some (Some b) e = (b, refl)

-- an attribute whose name is declared has a namesake
pub declared_attribute : (schema other : Schema) (a : ℕ) → IsDeclaredBy other schema → a < width_of schema
    → (b : ℕ) × (attribute_named (names_of other) (name_of_attribute schema a) ≡ Some b)
declared_attribute schema other a declared inside =
    let within : nat_lt a (width_of schema) ≡ true = lt-ltb _ _ inside in
    not_none-some (attribute_named (names_of other) (name_of_attribute schema a)) (grind (arith, declared a, within))

-- ---- a set that is carried over
pub carry_attributes-at : (schema other : Schema) (x : Attributes) (a b : ℕ) → b < width_of other
    → attribute_named (names_of schema) (name_of_attribute other b) ≡ Some a → carry_attributes schema other x b ≡ x a
carry_attributes-at schema other x a b inside e =
    let within : nat_lt b (width_of other) ≡ true = lt-ltb _ _ inside in
    rw (within, e) refl

-- a member has a namesake in the set
has_named_some : (x : Attributes) (o : Option ℕ) → unwrap_or (option_map x o) false ≡ true
    → (a : ℕ) × (o ≡ Some a) × (x a ≡ true)
has_named_some x None e = absurd (false≢true e)
has_named_some x (Some a) e = (a, refl, e)

pub carry_attributes-member : (schema other : Schema) (x : Attributes) (b : ℕ) → carry_attributes schema other x b ≡ true
    → (a : ℕ) × (b < width_of other) × (attribute_named (names_of schema) (name_of_attribute other b) ≡ Some a) × (x a ≡ true)
carry_attributes-member schema other x b member =
    let both = and_parts (nat_lt b (width_of other)) _ member in
    let found = has_named_some x (attribute_named (names_of schema) (name_of_attribute other b)) both.1 in
    (found.0, ltb-true b (width_of other) both.0, found.1, found.2)

-- ---- what was looked up
-- what is found for the bytes of an attribute's name is what is found for the attribute
pub attribute_named-name : (schema other : Schema) (a : ℕ) (name bytes : List ℕ) (found : Option ℕ)
    → slice_get (names_of schema) a ≡ Some name → bytes ≡ name
    → found ≡ attribute_named (names_of other) bytes → attribute_named (names_of other) (name_of_attribute schema a) ≡ found
attribute_named-name schema other a name bytes found read same is =
    ap (λ (word : List ℕ). attribute_named (names_of other) word)
    (get_or_from_slice_get (names_of schema) a name [] read ∙ sym same) ∙ sym is

-- an attribute is declared where something was found
pub undeclared_is : (schema other : Schema) (a : ℕ) (found : Option ℕ) → a < width_of schema
    → attribute_named (names_of other) (name_of_attribute schema a) ≡ found
    → undeclared_attributes schema other a ≡ is_none found
undeclared_is schema other a found inside is =
    let within : nat_lt a (width_of schema) ≡ true = lt-ltb _ _ inside in
    rw (within, is) refl

-- nothing was found, so it is not
pub not_declared : (schema other : Schema) (a : ℕ) → IsDeclaredBy other schema → a < width_of schema
    → attribute_named (names_of other) (name_of_attribute schema a) ≡ None → ⊥
not_declared schema other a declared inside is =
    false≢true (sym (declared a) ∙ undeclared_is schema other a None inside is)
