-- Elements on their lines, one more at the end; remarks and statements.
use Rattle.std.proofs.Common.{◌≡◌, ◌<◌, ◌+◌, ℕ, Bool, true, false, cond, ◌||◌, List, [], ◌∷◌, ◌++◌, length, get_or, map, take, None, Option, Some, Result, Ok, Err, Vec, refl, sym, ap, ◌∙◌, append_assoc, append-nil, add-one}
use Rattle.std.specs.Prelude.{not, filter, if◌then◌else◌, codes, is_some, slice_get, slice_index_or, OnOk}
use Rattle.std.specs.declared.alloc.Global.{Global}
use Rattle.std.proofs.Math.Bool.{or-false}
use Rattle.std.proofs.lemmas.Bool.{true≢false, false_from_ne_true}
use Rattle.std.proofs.lemmas.Grind.{flat_map-append}
use Rattle.std.proofs.lemmas.List.{map-append, take_more, flat_map_more, get_or_default}
use Rattle.std.proofs.lemmas.List.Elements.{filter-append}
use Rattle.std.proofs.lemmas.Option.{get_or_from_slice_get}
use Rattle.attr_sets.specs.declared.set.AttrSet.{AttrSet}
use Rattle.attr_sets.specs.Attributes.{Attributes, none, IsEmpty}
use Rattle.attr_sets.specs.Sets.{attributes}
use Rattle.attr_sets.proofs.AttributesLemmas.{attributes_below, is_subset-from, is_subset-not}
use Rattle.schema_model.specs.declared.column_type.ColumnType.{ColumnType}
use Rattle.schema_model.specs.declared.column_type.ColumnType.TheVariants.{Text}
use Rattle.schema_model.specs.Schemas.{Schema}
use Rattle.dep_model.specs.Plans.{schemes_of}
use Rattle.schema_model.specs.Schemas.{names_of, types_of}
use Rattle.dep_model.specs.Projections.{members_below}
use Rattle.dep_model.proofs.SchemeLemmas.{members_below-member, members_below-outside}
use Rattle.sql_syntax.specs.Names.{attribute_names, quoted_name, is_not_empty}
use Rattle.sql_syntax.specs.Printing.{names_text}
use Rattle.sql_syntax.specs.Statements.{Element, primary_key, unique_key, Statement, remark, create_table, element_text, opening, element_lines, statement_text, script_text}
use Rattle.ddl_text.specs.declared.table.TableDesign.{TableDesign}
use Rattle.ddl_text.specs.Designs.{known_keys}
use Rattle.ddl_text.specs.Ddl.{sql_type, column_made, is_empty, is_never_missing, left_out_keys, key_made, uniques_made, reference_made, references_to, elements_made, left_out_words, remarks_made, table_made}
use Rattle.std.specs.List.{flat_map}
use Rattle.std.proofs.lemmas.List.Folds.{flat_map-map}
use Rattle.sql_syntax.proofs.ListLemmas.{append_two}
use Rattle.sql_syntax.proofs.NameLemmas.{or_true, not_empty_more, name_is}

-- ---- the members of a set
pub members_inside : {X : Type 0} (f : ℕ → X) (n : ℕ) (x : Attributes) → x n ≡ true
    → map f (members_below (n + 1) x) ≡ map f (members_below n x) ++ f n ∷ []
members_inside f n x inside =
    rw add-one (ap (map f) (members_below-member n x inside) ∙ map-append f (members_below n x) (n ∷ []))

pub members_outside : {X : Type 0} (f : ℕ → X) (n : ℕ) (x : Attributes) → x n ≡ false
    → map f (members_below (n + 1) x) ≡ map f (members_below n x)
members_outside f n x outside = rw add-one (ap (map f) (members_below-outside n x outside))

-- ---- elements
pub lines_append : (any_before : Bool) (xs ys : List Element)
    → element_lines any_before (xs ++ ys) ≡ element_lines any_before xs ++ element_lines (any_before || is_not_empty xs) ys
lines_append any_before [] ys = ap (λ (b : Bool). element_lines b ys) (sym (or-false any_before))
lines_append any_before (x ∷ xs) ys =
    ap (λ (rest : List ℕ). opening any_before ++ element_text x ++ rest) (lines_append true xs ys)
    ∙ sym (append_assoc (opening any_before ++ element_text x) (element_lines true xs) (element_lines true ys))
    ∙ ap (λ (b : Bool). opening any_before ++ element_text x ++ element_lines true xs ++ element_lines b ys) (sym (or_true any_before))

-- ---- texts that grow
-- the same, where the last part is added unless there is no memory
pub adds_last : {T E : Type 0} (r : Result T E) (old a b mid new : List ℕ) → mid ≡ old ++ a
    → OnOk r (new ≡ mid ++ b) → OnOk r (new ≡ old ++ (a ++ b))
adds_last (Ok x) old a b mid new first second = append_two old a b mid new first second
adds_last (Err e) old a b mid new first second = tt

on_ok : {T E : Type 0} (r : Result T E) (P Q : Type 0) → (P → Q) → OnOk r P → OnOk r Q
on_ok (Ok x) P Q f h = f h
on_ok (Err e) P Q f h = tt

-- an element more
pub lines_more : (first any_before : Bool) (xs : List Element) (x : Element) (before text mid next : List ℕ)
    → text ≡ before ++ element_lines first xs → any_before ≡ (first || is_not_empty xs) → mid ≡ text ++ opening any_before
    → next ≡ mid ++ element_text x
    → next ≡ before ++ element_lines first (xs ++ x ∷ [])
lines_more first any_before xs x before text mid next so_far is_some opened added =
    append_two before (element_lines first xs) (opening any_before ++ element_text x) text next so_far
    (append_two text (opening any_before) (element_text x) mid next opened added)
    ∙ ap (λ (b : Bool). before ++ (element_lines first xs ++ (opening b ++ element_text x))) is_some
    ∙ ap (λ (t : List ℕ). before ++ (element_lines first xs ++ t))
    (sym (append-nil (opening (first || is_not_empty xs) ++ element_text x)))
    ∙ ap (λ (t : List ℕ). before ++ t) (sym (lines_append first xs (x ∷ [])))

-- ---- columns
pub column_is : (s : Schema) (k : ℕ) (column : ColumnType) → slice_get (types_of s) k ≡ Some column
    → column ≡ slice_index_or (types_of s) k Text
column_is s k column at = sym (get_or_from_slice_get (types_of s) k column Text at)

-- what stands after the name of a column
abbrev pub type_words : ColumnType → Bool → List ℕ
type_words column nullable = 32 ∷ (sql_type column ++ (if nullable then [] else codes " NOT NULL"))

pub column_added : {T E : Type 0} (r : Result T E) (s : Schema) (nullables : Attributes) (k : ℕ) (name : List ℕ) (column : ColumnType)
    (nullable : Bool) (old mid new : List ℕ)
    → slice_get (names_of s) k ≡ Some name → slice_get (types_of s) k ≡ Some column → nullable ≡ nullables k
    → mid ≡ old ++ quoted_name name → OnOk r (new ≡ mid ++ type_words column nullable)
    → OnOk r (new ≡ old ++ element_text (column_made s nullables k))
column_added r s nullables k name column nullable old mid new named typed missing first second =
    adds_last r old (quoted_name (get_or (names_of s) k [])) (type_words (slice_index_or (types_of s) k Text) (nullables k)) mid new
    (first ∙ ap (λ (n : List ℕ). old ++ quoted_name n) (sym (name_is s k name named)))
    (on_ok r (new ≡ mid ++ type_words column nullable) (new ≡ mid ++ type_words (slice_index_or (types_of s) k Text) (nullables k))
    (λ e. e ∙ ap (λ (c : ColumnType). mid ++ type_words c nullable) (column_is s k column typed)
    ∙ ap (λ (b : Bool). mid ++ type_words (slice_index_or (types_of s) k Text) b) missing) second)

-- ---- keys
pub empty_passes : (x : Attributes) → IsEmpty x → is_empty x ≡ true
empty_passes x empty = is_subset-from x none (λ k member. absurd (true≢false (sym member ∙ empty k)))

pub empty_fails : (x : AttrSet) → (IsEmpty (attributes x) → ⊥) → is_empty (attributes x) ≡ false
empty_fails x not_empty =
    is_subset-not (attributes x) none (attributes_below x)
    (λ within. not_empty (λ k. false_from_ne_true (attributes x k) (λ member. true≢false (sym (within k member)))))

pub no_key : (s : Schema) (key : Attributes) → IsEmpty key → key_made s key ≡ []
no_key s key empty = ap (λ (b : Bool). if b then [] else primary_key (attribute_names s key) ∷ []) (empty_passes key empty)

pub one_key : (s : Schema) (key : AttrSet) → (IsEmpty (attributes key) → ⊥)
    → key_made s (attributes key) ≡ primary_key (attribute_names s (attributes key)) ∷ []
one_key s key not_empty =
    ap (λ (b : Bool). if b then [] else primary_key (attribute_names s (attributes key)) ∷ []) (empty_fails key not_empty)

-- the key as the first element or after others
pub key_added : (s : Schema) (key : AttrSet) (any_before : Bool) (old opened t u new : List ℕ)
    → (IsEmpty (attributes key) → ⊥) → opened ≡ old ++ opening any_before
    → t ≡ opened ++ codes "PRIMARY KEY (" → u ≡ t ++ names_text (attribute_names s (attributes key)) → new ≡ u ++ codes ")"
    → new ≡ old ++ element_lines any_before (key_made s (attributes key))
key_added s key any_before old opened t u new not_empty is_opened first second last =
    let names = names_text (attribute_names s (attributes key)) in
    let added = append_two opened (codes "PRIMARY KEY (" ++ names) (codes ")") u new
    (append_two opened (codes "PRIMARY KEY (") names t u first second) last in
    lines_more any_before any_before [] (primary_key (attribute_names s (attributes key))) old old opened new (sym (append-nil old))
    (sym (or-false any_before)) is_opened added
    ∙ ap (λ (es : List Element). old ++ element_lines any_before es) (sym (one_key s key not_empty))

pub key_not_empty : (s : Schema) (key : AttrSet) (any_before : Bool) → (IsEmpty (attributes key) → ⊥)
    → true ≡ (any_before || is_not_empty (key_made s (attributes key)))
key_not_empty s key any_before not_empty = sym (ap (λ (es : List Element). any_before || is_not_empty es) (one_key s key not_empty)
    ∙ or_true any_before)

-- a text with one item more
pub item_more : {X : Type 0} (f : X → List ℕ) (old text next piece : List ℕ) (xs more : List X) (x : X)
    → text ≡ old ++ flat_map f xs → piece ≡ f x → next ≡ text ++ piece → more ≡ xs ++ x ∷ []
    → next ≡ old ++ flat_map f more
item_more {X} f old text next piece xs more x so_far is added pushed =
    added ∙ ap (λ (t : List ℕ). t ++ piece) so_far ∙ ap (λ (p : List ℕ). old ++ flat_map f xs ++ p) is
    ∙ flat_map_more f old xs x ∙ ap (λ (ys : List X). old ++ flat_map f ys) (sym pushed)

-- ---- other keys
-- what the test of a key says of it
pub missing_from : (result never : Bool) → result ≡ true → result ≡ not never → never ≡ false
missing_from result true is says = absurd (true≢false (sym is ∙ says))
missing_from result false is says = refl

pub never_from : (result never : Bool) → result ≡ false → result ≡ not never → never ≡ true
never_from result true is says = refl
never_from result false is says = absurd (true≢false (sym says ∙ is))

-- the keys before a position that pass a test, and the one that is there
passing_next : (test : Attributes → Bool) (keys : List AttrSet) (i : ℕ) (d : AttrSet) → i < length keys
    → filter test (schemes_of (take (i + 1) keys))
    ≡ filter test (schemes_of (take i keys))
    ++ cond (test (attributes (get_or keys i d))) (attributes (get_or keys i d) ∷ []) []
passing_next test keys i d lt =
    ap (λ (ks : List AttrSet). filter test (schemes_of ks)) (take_more keys i d lt)
    ∙ ap (filter test) (map-append attributes (take i keys) (get_or keys i d ∷ []))
    ∙ filter-append test (schemes_of (take i keys)) (attributes (get_or keys i d) ∷ [])

-- another key
abbrev pub unique_made : Schema → Attributes → Element
unique_made s key = unique_key (attribute_names s key)

pub uniques_passed : (s : Schema) (keys : List AttrSet) (i : ℕ) (d : AttrSet) → i < length keys
    → is_never_missing s (attributes (get_or keys i d)) ≡ false
    → uniques_made s (schemes_of (take (i + 1) keys)) ≡ uniques_made s (schemes_of (take i keys))
uniques_passed s keys i d lt missing =
    let so_far = filter (is_never_missing s) (schemes_of (take i keys)) in
    ap (map (unique_made s)) (passing_next (is_never_missing s) keys i d lt
    ∙ ap (λ (b : Bool). so_far ++ cond b (attributes (get_or keys i d) ∷ []) []) missing
    ∙ append-nil so_far)

uniques_next : (s : Schema) (keys : List AttrSet) (i : ℕ) (d : AttrSet) → i < length keys
    → is_never_missing s (attributes (get_or keys i d)) ≡ true
    → uniques_made s (schemes_of (take (i + 1) keys))
    ≡ uniques_made s (schemes_of (take i keys)) ++ unique_made s (attributes (get_or keys i d)) ∷ []
uniques_next s keys i d lt never =
    let so_far = filter (is_never_missing s) (schemes_of (take i keys)) in
    ap (map (unique_made s)) (passing_next (is_never_missing s) keys i d lt
    ∙ ap (λ (b : Bool). so_far ++ cond b (attributes (get_or keys i d) ∷ []) []) never)
    ∙ map-append (unique_made s) so_far (attributes (get_or keys i d) ∷ [])

pub uniques_more : (s : Schema) (keys : List AttrSet) (i : ℕ) (d : AttrSet) (first any_before : Bool)
    (before text mid next : List ℕ) → i < length keys → is_never_missing s (attributes (get_or keys i d)) ≡ true
    → text ≡ before ++ element_lines first (uniques_made s (schemes_of (take i keys)))
    → any_before ≡ (first || is_not_empty (uniques_made s (schemes_of (take i keys))))
    → mid ≡ text ++ opening any_before → next ≡ mid ++ element_text (unique_made s (attributes (get_or keys i d)))
    → next ≡ before ++ element_lines first (uniques_made s (schemes_of (take (i + 1) keys)))
uniques_more s keys i d first any_before before text mid next lt never so_far is_some opened added =
    lines_more first any_before (uniques_made s (schemes_of (take i keys)))
    (unique_made s (attributes (get_or keys i d))) before text mid next so_far is_some opened added
    ∙ ap (λ (es : List Element). before ++ element_lines first es) (sym (uniques_next s keys i d lt never))

pub uniques_not_empty : (s : Schema) (keys : List AttrSet) (i : ℕ) (d : AttrSet) (first : Bool)
    → i < length keys → is_never_missing s (attributes (get_or keys i d)) ≡ true
    → true ≡ (first || is_not_empty (uniques_made s (schemes_of (take (i + 1) keys))))
uniques_not_empty s keys i d first lt never =
    not_empty_more first (uniques_made s (schemes_of (take i keys)))
    (unique_made s (attributes (get_or keys i d)))
    ∙ ap (λ (es : List Element). first || is_not_empty es) (sym (uniques_next s keys i d lt never))

-- ---- remarks
-- what is said of a key that is left out
abbrev pub left_out_line : Schema → Attributes → List ℕ
left_out_line s key = statement_text (remark (left_out_words s key))

abbrev pub left_out_lines : Schema → List Attributes → List ℕ
left_out_lines s keys = flat_map (left_out_line s) (left_out_keys s keys)

left_out_parts : (names : List ℕ) → codes "-- UNIQUE (" ++ (names ++ codes ") is left out: missing values are not compared\n")
    ≡ codes "-- " ++ (codes "UNIQUE (" ++ names ++ codes ") is left out: missing values are not compared") ++ codes "\n"
left_out_parts names =
    ap (λ (t : List ℕ). codes "-- UNIQUE (" ++ t)
    (sym (append_assoc names (codes ") is left out: missing values are not compared") (codes "\n")))

pub left_out_added : {T E : Type 0} (r : Result T E) (s : Schema) (key : Attributes) (old t u new : List ℕ)
    → t ≡ old ++ codes "-- UNIQUE (" → u ≡ t ++ names_text (attribute_names s key)
    → OnOk r (new ≡ u ++ codes ") is left out: missing values are not compared\n")
    → OnOk r (new ≡ old ++ left_out_line s key)
unfolding statement_text
left_out_added r s key old t u new to_t to_u to_new =
    let head : List ℕ = codes "-- UNIQUE (" in
    let end : List ℕ = codes ") is left out: missing values are not compared\n" in
    let names = names_text (attribute_names s key) in
    on_ok r (new ≡ old ++ (head ++ (names ++ end))) (new ≡ old ++ left_out_line s key)
    (λ e. e ∙ ap (λ (t : List ℕ). old ++ t) (left_out_parts names))
    (adds_last r old head (names ++ end) t new to_t
    (adds_last r t names end u new to_u to_new))

pub left_out_more : (s : Schema) (keys : List AttrSet) (i : ℕ) (d : AttrSet) (before text next : List ℕ)
    → i < length keys → is_never_missing s (attributes (get_or keys i d)) ≡ false
    → text ≡ before ++ left_out_lines s (schemes_of (take i keys))
    → next ≡ text ++ left_out_line s (attributes (get_or keys i d))
    → next ≡ before ++ left_out_lines s (schemes_of (take (i + 1) keys))
left_out_more s keys i d before text next lt missing so_far added =
    let test = λ (key : Attributes). not (is_never_missing s key) in
    let kept = filter test (schemes_of (take i keys)) in
    let key = attributes (get_or keys i d) in
    item_more (left_out_line s) before text next (left_out_line s key) kept
    (filter test (schemes_of (take (i + 1) keys))) key so_far refl added
    (passing_next test keys i d lt ∙ ap (λ (b : Bool). kept ++ cond (not b) (key ∷ []) []) missing)

pub left_out_passed : (s : Schema) (keys : List AttrSet) (i : ℕ) (d : AttrSet) → i < length keys
    → is_never_missing s (attributes (get_or keys i d)) ≡ true
    → left_out_lines s (schemes_of (take (i + 1) keys)) ≡ left_out_lines s (schemes_of (take i keys))
left_out_passed s keys i d lt never =
    let test = λ (key : Attributes). not (is_never_missing s key) in
    let kept = filter test (schemes_of (take i keys)) in
    ap (flat_map (left_out_line s)) (passing_next test keys i d lt
    ∙ ap (λ (b : Bool). kept ++ cond (not b) (attributes (get_or keys i d) ∷ []) []) never ∙ append-nil kept)

-- what is said of keys that are left out, as remarks
remarks_flat : (words : List (List ℕ)) → script_text (map remark words) ≡ flat_map (λ w. statement_text (remark w)) words
remarks_flat words = flat_map-map statement_text remark words

pub left_out_remarks : (s : Schema) (keys : List Attributes)
    → script_text (map remark (map (left_out_words s) (left_out_keys s keys))) ≡ left_out_lines s keys
left_out_remarks s keys =
    remarks_flat (map (left_out_words s) (left_out_keys s keys))
    ∙ flat_map-map (λ (w : List ℕ). statement_text (remark w)) (left_out_words s) (left_out_keys s keys)

-- ---- references
pub reference_added : {T E : Type 0} (r : Result T E) (s : Schema) (other : TableDesign) (old t u v w x y new : List ℕ)
    → t ≡ old ++ codes "FOREIGN KEY (" → u ≡ t ++ names_text (attribute_names s (attributes other.key))
    → v ≡ u ++ codes ") REFERENCES " → w ≡ v ++ quoted_name other.name → x ≡ w ++ codes " ("
    → y ≡ x ++ names_text (attribute_names s (attributes other.key)) → OnOk r (new ≡ y ++ codes ")")
    → OnOk r (new ≡ old ++ element_text (reference_made s other))
reference_added r s other old t u v w x y new to_t to_u to_v to_w to_x to_y to_new =
    let names = names_text (attribute_names s (attributes other.key)) in
    let name = quoted_name other.name in
    let head : List ℕ = codes "FOREIGN KEY (" in
    let middle : List ℕ = codes ") REFERENCES " in
    let open_names : List ℕ = codes " (" in
    let at_u = append_two old head names t u to_t to_u in
    let at_v = append_two old (head ++ names) middle u v at_u to_v in
    let at_w = append_two old (head ++ names ++ middle) name v w at_v to_w in
    let at_x = append_two old (head ++ names ++ middle ++ name) open_names w x at_w to_x in
    let at_y = append_two old (head ++ names ++ middle ++ name ++ open_names) names x y at_x to_y in
    adds_last r old (head ++ names ++ middle ++ name ++ open_names ++ names) (codes ")") y new at_y to_new

-- the reference to the table at a position
abbrev pub reference_at : Schema → List TableDesign → TableDesign → ℕ → Element
reference_at s tables table j = reference_made s (slice_index_or tables j table)

reference_is : (s : Schema) (tables : List TableDesign) (table : TableDesign) (j : ℕ) (other : TableDesign) → j < length tables
    → other ≡ get_or tables j other
    → reference_made s other ≡ reference_at s tables table j
reference_is s tables table j other lt is = ap (reference_made s) (is ∙ get_or_default tables j other table lt)

-- the references before a position and the one that is there
references_next : (s : Schema) (tables : List TableDesign) (table : TableDesign) (refs : List ℕ) (i d : ℕ) → i < length refs
    → references_to s tables table (take (i + 1) refs)
    ≡ references_to s tables table (take i refs) ++ reference_at s tables table (get_or refs i d) ∷ []
references_next s tables table refs i d lt =
    ap (references_to s tables table) (take_more refs i d lt)
    ∙ map-append (reference_at s tables table) (take i refs) (get_or refs i d ∷ [])

pub references_more : (s : Schema) (tables : List TableDesign) (table : TableDesign) (refs : List ℕ) (i d : ℕ) (other : TableDesign)
    (first any_before : Bool) (before text mid next : List ℕ) → i < length refs
    → get_or refs i d < length tables → other ≡ get_or tables (get_or refs i d) other
    → text ≡ before ++ element_lines first (references_to s tables table (take i refs))
    → any_before ≡ (first || is_not_empty (references_to s tables table (take i refs)))
    → mid ≡ text ++ opening any_before → next ≡ mid ++ element_text (reference_made s other)
    → next ≡ before ++ element_lines first (references_to s tables table (take (i + 1) refs))
references_more s tables table refs i d other first any_before before text mid next lt within is so_far is_some opened added =
    let element = reference_is s tables table (get_or refs i d) other within is in
    lines_more first any_before (references_to s tables table (take i refs)) (reference_at s tables table (get_or refs i d))
    before text mid next so_far is_some opened
    (added ∙ ap (λ (e : Element). mid ++ element_text e) element)
    ∙ ap (λ (es : List Element). before ++ element_lines first es) (sym (references_next s tables table refs i d lt))

pub references_not_empty : (s : Schema) (tables : List TableDesign) (table : TableDesign) (refs : List ℕ) (i d : ℕ) (first : Bool)
    → i < length refs
    → true ≡ (first || is_not_empty (references_to s tables table (take (i + 1) refs)))
references_not_empty s tables table refs i d first lt =
    not_empty_more first (references_to s tables table (take i refs)) (reference_at s tables table (get_or refs i d))
    ∙ ap (λ (es : List Element). first || is_not_empty es) (sym (references_next s tables table refs i d lt))

-- ---- tables
pub some_append : (xs ys : List Element) → is_not_empty (xs ++ ys) ≡ (is_not_empty xs || is_not_empty ys)
some_append [] ys = refl
some_append (x ∷ xs) ys = refl

-- the three kinds of elements, one after another
pub elements_added : {T E : Type 0} (r : Result T E) (columns keys references : List Element) (one two : Bool)
    (old t u new : List ℕ)
    → t ≡ old ++ element_lines false columns → one ≡ is_not_empty columns → u ≡ t ++ element_lines one keys
    → two ≡ (one || is_not_empty keys)
    → OnOk r (new ≡ u ++ element_lines two references)
    → OnOk r (new ≡ old ++ element_lines false (columns ++ keys ++ references))
elements_added r columns keys references one two old t u new to_t is_one to_u is_two to_new =
    let keyed : u ≡ old ++ element_lines false (columns ++ keys) =
    append_two old (element_lines false columns) (element_lines one keys) t u to_t to_u
    ∙ ap (λ (b : Bool). old ++ (element_lines false columns ++ element_lines b keys)) is_one
    ∙ ap (λ (t : List ℕ). old ++ t) (sym (lines_append false columns keys)) in
    let any_before : two ≡ is_not_empty (columns ++ keys) = is_two ∙ ap (λ (b : Bool). b || is_not_empty keys) is_one
    ∙ sym (some_append columns keys) in
    on_ok r (new ≡ u ++ element_lines two references) (new ≡ old ++ element_lines false (columns ++ keys ++ references))
    (λ e. append_two old (element_lines false (columns ++ keys)) (element_lines two references) u new keyed e
    ∙ ap (λ (b : Bool). old ++ (element_lines false (columns ++ keys) ++ element_lines b references)) any_before
    ∙ ap (λ (t : List ℕ). old ++ t) (sym (lines_append false (columns ++ keys) references))) to_new

-- ---- statements
-- what is said of a table, by its key
abbrev said_by : Bool → Schema → TableDesign → List (List ℕ)
said_by empty s table =
    if empty then codes "at most one row" ∷ []
    else if is_some table.other_keys then map (left_out_words s) (left_out_keys s (known_keys table.other_keys))
    else codes "further keys are not looked for" ∷ []

pub remarks-empty_key : (s : Schema) (table : TableDesign) → IsEmpty (attributes table.key)
    → script_text (remarks_made s table) ≡ codes "-- at most one row\n"
unfolding statement_text
remarks-empty_key s table empty =
    ap (λ (b : Bool). script_text (map remark (said_by b s table))) (empty_passes (attributes table.key) empty)

-- what is said of other keys
abbrev pub key_remarks : Schema → Option (Vec AttrSet Global) → List ℕ
key_remarks s None = codes "-- further keys are not looked for\n"
key_remarks s (Some keys) = left_out_lines s (schemes_of keys.items)

key_said : (s : Schema) (others : Option (Vec AttrSet Global))
    → script_text (map remark (if is_some others then map (left_out_words s) (left_out_keys s (known_keys others)) else codes "further keys are not looked for" ∷ []))
    ≡ key_remarks s others
unfolding statement_text
key_said s None = refl
key_said s (Some keys) = left_out_remarks s (schemes_of keys.items)

pub remarks-other_keys : (s : Schema) (table : TableDesign) → (IsEmpty (attributes table.key) → ⊥)
    → script_text (remarks_made s table) ≡ key_remarks s table.other_keys
remarks-other_keys s table not_empty =
    ap (λ (b : Bool). script_text (map remark (said_by b s table))) (empty_fails table.key not_empty)
    ∙ key_said s table.other_keys

pub table_added : {T E : Type 0} (r : Result T E) (s : Schema) (tables : List TableDesign) (table : TableDesign)
    (old t u v w x new : List ℕ)
    → t ≡ old ++ script_text (remarks_made s table) → u ≡ t ++ codes "CREATE TABLE " → v ≡ u ++ quoted_name table.name
    → w ≡ v ++ codes " (\n"
    → x ≡ w ++ element_lines false (elements_made s tables table) → OnOk r (new ≡ x ++ codes "\n);\n")
    → OnOk r (new ≡ old ++ script_text (table_made s tables table))
unfolding statement_text
table_added r s tables table old t u v w x new to_t to_u to_v to_w to_x to_new =
    let create : List ℕ = codes "CREATE TABLE " in
    let name = quoted_name table.name in
    let begin_lines : List ℕ = codes " (\n" in
    let lines = element_lines false (elements_made s tables table) in
    let made = create_table (quoted_name table.name) (elements_made s tables table) in
    let at_v = append_two t create name u v to_u to_v in
    let at_w = append_two t (create ++ name) begin_lines v w at_v to_w in
    let at_x = append_two t (create ++ name ++ begin_lines) lines w x at_w to_x in
    on_ok r (new ≡ t ++ statement_text made) (new ≡ old ++ script_text (table_made s tables table))
    (λ e. append_two old (script_text (remarks_made s table)) (statement_text made) t new to_t e
    ∙ ap (λ (t : List ℕ). old ++ (script_text (remarks_made s table) ++ t)) (sym (append-nil (statement_text made)))
    ∙ ap (λ (t : List ℕ). old ++ t) (sym (flat_map-append statement_text (remarks_made s table) (made ∷ []))))
    (adds_last r t (create ++ name ++ begin_lines ++ lines) (codes "\n);\n") x new at_x to_new)

-- the text of lists of statements, one after the other
pub scripts_flat : {X : Type 0} (made : X → List Statement) (xs : List X)
    → script_text (flat_map made xs) ≡ flat_map (λ x. script_text (made x)) xs
scripts_flat made [] = refl
scripts_flat made (x ∷ xs) =
    flat_map-append statement_text (made x) (flat_map made xs)
    ∙ ap (λ (t : List ℕ). script_text (made x) ++ t) (scripts_flat made xs)
