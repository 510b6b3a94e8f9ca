-- The keys that facts of a table state, by the places of their attributes, and which of them a schema declares.
use Rattle.std.proofs.Common.{◌≡◌, ◌≤◌, ◌==◌, ◌&&◌, ◌||◌, ℕ, suc, Bool, true, false, cond, not, All, AllPairs, List, [], ◌∷◌, ◌++◌, map, length, get_or, refl, sym, ap, ◌∙◌, arith, Option, Some, Ok, append-nil, append_assoc}
use Rattle.std.specs.Prelude.{filter, option_and_then, slice_index_or}
use Rattle.std.specs.List.{list_any}
use Rattle.std.proofs.lemmas.List.Elements.{All-head, All-tail}
use Rattle.std.proofs.lemmas.List.Folds.{list_any-append}
use Rattle.std.proofs.lemmas.Simd.{map-map}
use Rattle.attr_sets.specs.Attributes.{Attributes, IsSubset, below, count_below, none, only, union}
use Rattle.attr_sets.specs.Sets.{is_same, is_subset}
use Rattle.attr_sets.specs.declared.set.TheConstants.{MOST_ATTRIBUTES}
use Rattle.dep_model.specs.Dependencies.{Dependency}
use Rattle.dep_model.specs.Projections.{members_below}
use Rattle.schema_model.specs.Schemas.{names_of, width_of}
use Rattle.schema_model.specs.Schemas.{Schema}
use Rattle.schema_printer.specs.Printing.{members_from}
use Rattle.schema_printer.proofs.MemberLemmas.{members_named}
use Rattle.sql_lexemes.specs.declared.dialect.Dialect.{Dialect}
use Rattle.sql_definitions.specs.Facts.{Facts, StatedColumn, StatedKey, StatedPart}
use Rattle.sql_schemas.specs.Keys.{KeyColumns, and_then, column_named, columns_of_parts, is_dependency, is_new, key_dependency, keys_after, new_keys, says_so, with_part}
use Rattle.import_laws.specs.ImportedTables.{determines_others, places_in}
use Rattle.ddl_text.specs.declared.table.TableDesign.{TableDesign}
use Rattle.import_laws.specs.ReadTables.{read_column}
use Rattle.import_laws.proofs.PlaceLemmas.{IsMember, all_places, column_found, members_are, places_any}

-- the parts of a stated key, by their names; and the names of a set
abbrev pub part_names : StatedKey → List (Option (List ℕ))
part_names key = map (λ part. part.name) key.parts

abbrev pub set_names : Schema → Attributes → List (Option (List ℕ))
set_names s x = map Some (members_from x 0 (names_of s))

-- ---- the columns of a key
abbrev with_places : Attributes → Attributes → List ℕ → Attributes
with_places scheme y [] = y
with_places scheme y (a ∷ ks) = with_places scheme (union y (only (count_below scheme a))) ks

places_so_far : (scheme : Attributes) (ks : List ℕ) (y : Attributes) (j : ℕ)
    → with_places scheme y ks j ≡ (y j || list_any (λ a. j == count_below scheme a) ks)
places_so_far scheme [] y j = or_false (y j)
  where
    or_false : (b : Bool) → b ≡ (b || false)
    or_false true = refl
    or_false false = refl
places_so_far scheme (a ∷ ks) y j =
    places_so_far scheme ks (union y (only (count_below scheme a))) j
    ∙ regrouped (y j) (j == count_below scheme a) (list_any (λ b. j == count_below scheme b) ks)
  where
    regrouped : (p q r : Bool) → ((p || q) || r) ≡ (p || (q || r))
    regrouped true q r = refl
    regrouped false q r = refl

-- the columns of a set, as they are read of a table
abbrev pub columns_on : Dialect → Schema → TableDesign → Attributes → List StatedColumn
columns_on d s table scheme = map (read_column d s table) (members_below (width_of s) scheme)

parts_read : (d : Dialect) (s : Schema) (table : TableDesign) (scheme : Attributes) (ks : List ℕ) → All (IsMember (width_of s) scheme) ks
    → (parts : List StatedPart) → map (λ part. part.name) parts
    ≡ map (λ a. Some (slice_index_or (names_of s) a [])) ks
    → (y : Attributes) → columns_of_parts (columns_on d s table scheme) y parts ≡ Ok (with_places scheme y ks)
unfolding columns_of_parts
parts_read d s table scheme [] are [] same y = refl
parts_read d s table scheme [] are (part ∷ parts) same y = cc
parts_read d s table scheme (a ∷ ks) are [] same y = cc
parts_read d s table scheme (a ∷ ks) are (part ∷ parts) same y =
    let name : part.name ≡ Some (slice_index_or (names_of s) a []) = cc in
    let rest : map (λ (p : StatedPart). p.name) parts ≡ map (λ b. Some (slice_index_or (names_of s) b [])) ks = cc in
    ap (λ (o : Option (List ℕ)). and_then
    (with_part y part.place (option_and_then (column_named (columns_on d s table scheme)) o))
    (λ z. columns_of_parts (columns_on d s table scheme) z parts)) name
    ∙ ap (λ (o : Option ℕ). and_then (with_part y part.place o)
    (λ z. columns_of_parts (columns_on d s table scheme) z parts))
    (column_found d s table scheme a (All-head (IsMember (width_of s) scheme) a ks are))
    ∙ parts_read d s table scheme ks (All-tail (IsMember (width_of s) scheme) a ks are) parts rest
    (union y (only (count_below scheme a)))

-- a stated key of the names of a set has its places
set_read : (d : Dialect) (s : Schema) (table : TableDesign) (scheme x : Attributes) → IsSubset scheme (below (width_of s))
    → IsSubset x scheme
    → (parts : List StatedPart) → map (λ part. part.name) parts ≡ set_names s x
    → columns_of_parts (columns_on d s table scheme) none parts ≡ Ok (places_in (members_below (width_of s) scheme) x)
set_read d s table scheme x limit within parts same =
    let members = members_below (width_of s) x in
    let named = same ∙ ap (map Some) (members_named x (names_of s))
    ∙ map-map Some (λ (a : ℕ). slice_index_or (names_of s) a []) members in
    let are : All (IsMember (width_of s) scheme) members = λ i d low.
    let is = members_are (width_of s) x i d low in
    record { low = is.low; inside = within (get_or members i d) is.inside } in
    parts_read d s table scheme members are parts named none ∙ ap Ok equal
  where
    one : (j : ℕ) → with_places scheme none (members_below (width_of s) x) j
        ≡ places_in (members_below (width_of s) scheme) x j
    one j =
        places_so_far scheme (members_below (width_of s) x) none j
        ∙ places_any (width_of s) scheme x within (λ k member. limit k (within k member)) j

    equal : with_places scheme none (members_below (width_of s) x) ≡ places_in (members_below (width_of s) scheme) x
    equal = λ i j. one j i

-- ---- the keys
abbrev pub ReadsKeys : Facts → List KeyColumns → List StatedKey → List Attributes → Type 0
ReadsKeys f before stated sets =
    (keys : List KeyColumns) × (keys_after f.columns before stated ≡ Ok (before ++ keys)) ×
    (map (λ key. key.columns) keys ≡ sets)

pub keys_read : (d : Dialect) (s : Schema) (table : TableDesign) (scheme : Attributes) (f : Facts) → IsSubset scheme (below (width_of s))
    → f.columns ≡ columns_on d s table scheme
    → (before : List KeyColumns) (stated : List StatedKey) (sets : List Attributes)
    → All (λ x. IsSubset x scheme) sets → map part_names stated ≡ map (set_names s) sets
    → ReadsKeys f before stated (map (places_in (members_below (width_of s) scheme)) sets)
unfolding keys_after
keys_read d s table scheme f limit columns before [] [] within same = ([], ap Ok (sym (append-nil before)), refl)
keys_read d s table scheme f limit columns before [] (x ∷ sets) within same = cc
keys_read d s table scheme f limit columns before (key ∷ stated) [] within same = cc
keys_read d s table scheme f limit columns before (key ∷ stated) (x ∷ sets) within same =
    let named : part_names key ≡ set_names s x = cc in
    let rest : map part_names stated ≡ map (set_names s) sets = cc in
    let places = places_in (members_below (width_of s) scheme) x in
    let made : KeyColumns = record { kind = key.kind; columns = places } in
    let read : columns_of_parts f.columns none key.parts ≡ Ok places =
    ap (λ (cs : List StatedColumn). columns_of_parts cs none key.parts) columns
    ∙ set_read d s table scheme x limit (All-head (λ (y : Attributes). IsSubset y scheme) x sets within) key.parts named in
    let (keys, later, are) = keys_read d s table scheme f limit columns (before ++ made ∷ []) stated sets
    (All-tail (λ (y : Attributes). IsSubset y scheme) x sets within) rest in (
      made ∷ keys,
      ap (λ r. and_then (and_then r (λ z. Ok
          (record { kind = key.kind; columns = z })))
          (λ k. keys_after f.columns (before ++ k ∷ []) stated)) read
          ∙ later ∙ ap Ok (append_assoc before (made ∷ []) keys),
      ap (λ (cs : List Attributes). places ∷ cs) are,
    )

-- ---- the keys that say something
-- keys of different columns are all new, but those of all columns
abbrev pub Apart : KeyColumns → KeyColumns → Type 0
Apart one other = is_same one.columns other.columns ≡ false

abbrev pub has_others : ℕ → KeyColumns → Bool
has_others n key = not (is_subset (below n) key.columns)

pub new_are : (n : ℕ) (missing : Attributes) (before keys : List KeyColumns) → AllPairs Apart keys
    → All (λ (key : KeyColumns). list_any (says_so missing key) before ≡ false) keys
    → new_keys n missing before keys ≡ before ++ filter (has_others n) keys
unfolding new_keys
new_are n missing before [] apart far = sym (append-nil before)
new_are n missing before (key ∷ keys) apart far =
    by_test (is_subset (below n) key.columns) refl (λ front free. new_are n missing front keys later free)
  where
    later : AllPairs Apart keys
    later i j d less low = apart (suc i) (suc j) d (omega (arith, less)) (omega (arith, low))

    here : list_any (says_so missing key) before ≡ false
    here = All-head (λ (k : KeyColumns). list_any (says_so missing k) before ≡ false) key keys far

    rest : All (λ (k : KeyColumns). list_any (says_so missing k) before ≡ false) keys
    rest = All-tail (λ (k : KeyColumns). list_any (says_so missing k) before ≡ false) key keys far

    more : All (λ (k : KeyColumns). list_any (says_so missing k) (before ++ key ∷ []) ≡ false) keys
    more i d low =
        let k = get_or keys i d in
        list_any-append (says_so missing k) before (key ∷ [])
        ∙ ap (λ (b : Bool). b || (says_so missing k key || false)) (rest i d low)
        ∙ ap (λ (b : Bool). (b && (is_dependency missing key || not (is_dependency missing k))) || false) (apart 0 (suc i) d (omega arith) (omega (arith, low)))

    by_test : (b : Bool) → is_subset (below n) key.columns ≡ b
        → ((front : List KeyColumns)
        → All (λ (k : KeyColumns). list_any (says_so missing k) front ≡ false) keys
        → new_keys n missing front keys ≡ front ++ filter (has_others n) keys)
        → new_keys n missing (cond (is_new n missing before key) (before ++ key ∷ []) before) keys
        ≡ before ++ cond (has_others n key) (key ∷ filter (has_others n) keys) (filter (has_others n) keys)
    by_test true all next = rw all (next before rest)
    by_test false all next =
        rw all (rw here (next (before ++ key ∷ []) more
        ∙ append_assoc before (key ∷ []) (filter (has_others n) keys)))

-- the dependencies of the keys that do not have all columns
pub dependencies_same : (n : ℕ) (scheme : Attributes) → n ≤ MOST_ATTRIBUTES → IsSubset scheme (below n)
    → (keys : List KeyColumns) (sets : List Attributes)
    → map (λ key. key.columns) keys ≡ map (places_in (members_below n scheme)) sets
    → map (key_dependency (length (members_below n scheme)))
    (filter (has_others (length (members_below n scheme))) keys)
    ≡ map (λ x. determines_others (length (members_below n scheme)) (places_in (members_below n scheme) x))
    (filter (λ x. not (is_subset scheme x)) sets)
dependencies_same n scheme few limit [] [] same = refl
dependencies_same n scheme few limit [] (x ∷ sets) same = cc
dependencies_same n scheme few limit (key ∷ keys) [] same = cc
dependencies_same n scheme few limit (key ∷ keys) (x ∷ sets) same =
    ap (λ (b : Bool). map (key_dependency m)
    (cond (not b) (key ∷ filter (has_others m) keys) (filter (has_others m) keys)))
    (ap (is_subset (below m)) here ∙ all_places n scheme x few limit)
    ∙ by_test (is_subset scheme x) (dependencies_same n scheme few limit keys sets rest)
  where
    m : ℕ
    m = length (members_below n scheme)

    here : key.columns ≡ places_in (members_below n scheme) x
    here = cc

    rest : map (λ (k : KeyColumns). k.columns) keys ≡ map (places_in (members_below n scheme)) sets
    rest = cc

    by_test : (b : Bool)
        → map (key_dependency m) (filter (has_others m) keys)
        ≡ map (λ y. determines_others m (places_in (members_below n scheme) y))
        (filter (λ y. not (is_subset scheme y)) sets)
        → map (key_dependency m) (cond (not b) (key ∷ filter (has_others m) keys) (filter (has_others m) keys))
        ≡ map (λ y. determines_others m (places_in (members_below n scheme) y))
        (cond (not b) (x ∷ filter (λ y. not (is_subset scheme y)) sets) (filter (λ y. not (is_subset scheme y)) sets))
    by_test true later = later
    by_test false later =
        ap (λ (c : Attributes). determines_others m c ∷ map (key_dependency m) (filter (has_others m) keys)) here
        ∙ ap (λ (ds : List Dependency). determines_others m (places_in (members_below n scheme) x) ∷ ds) later
