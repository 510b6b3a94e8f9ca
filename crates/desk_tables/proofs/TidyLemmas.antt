-- Rows of which a table would lose a value: what a row misses and has, and what is found for tables.
use Rattle.std.proofs.Common.{◌≡◌, ℕ, ◌+◌, ◌<◌, ◌≤◌, true, false, true≢false, not, List, [], ◌∷◌, ◌++◌, length, take, get_or, Option, Some, None, refl, sym, ap, subst, ◌∙◌, inl, inr, arith}
use Rattle.std.specs.Prelude.{All}
use Rattle.std.specs.List.{AllZip, flat_map}
use Rattle.std.proofs.lemmas.Bool.{and_from, and_parts, cases_Bool, cases_lt, false_from_ne_true, not_from_false, not-true}
use Rattle.std.proofs.lemmas.Bool.Decides.{nat_tests}
use Rattle.std.proofs.lemmas.List.{append-nil, append_assoc, get_or-take, get_or_default, length-take-le, take_more}
use Rattle.std.proofs.lemmas.List.Concat.{flat_map-append}
use Rattle.std.proofs.lemmas.List.Elements.{All-cons, All-head, All-nil, All-tail}
use Rattle.attr_sets.specs.Attributes.{Attributes, IsEmpty, IsSubset, below}
use Rattle.attr_sets.specs.Sets.{attributes}
use Rattle.dep_model.specs.Tuples.{Relation, Tuple, value_at}
use Rattle.optional_tables.specs.Homes.{has_outside_key, is_optional}
use Rattle.optional_tables.specs.LookUps.{IsTidyFor, Missing, empty_values, misses_none}
use Rattle.optional_tables.specs.Order.{if_there}
use Rattle.optional_tables.specs.declared.keyed.KeyedScheme.{KeyedScheme}
use Rattle.lookup_laws.proofs.MissingLemmas.{empty_is_missing, filled_misses_none}
use Rattle.row_store.specs.Rows.{row_at}
use Rattle.schema_model.specs.Schemas.{Schema}
use Rattle.table_join.proofs.LookUpLemmas.{all_pass, each_passes}
use Rattle.desk_tables.specs.Tidiness.{AreUntidy, FindsUntidy, HasPrimaryKey, IsTidyRow, IsUntidyAt, missing_among, present_among}
use Rattle.desk_tables.specs.declared.tidiness.Untidy.{Untidy}
use Rattle.desk_texts.specs.Texts.{line}

-- ---- keys
-- a primary key lies within its scheme
pub key_within : (s : Schema) (table : KeyedScheme) → HasPrimaryKey s table → IsSubset (attributes table.key) (attributes table.scheme)
key_within s table primary k m = primary.nullable_first.within k (primary.others_next.within k m)

pub keys_within : (s : Schema) (tables : List KeyedScheme) → All (HasPrimaryKey s) tables
    → All (λ (t : KeyedScheme). IsSubset (attributes t.key) (attributes t.scheme)) tables
keys_within s tables keys k d l = key_within s (get_or tables k d) (keys k d l)

-- ---- a row
-- a row that misses no value of a key is tidy
pub complete_is_tidy : (missing : Missing) (table : KeyedScheme) (t : Tuple) → misses_none missing (attributes table.key) t ≡ true
    → IsTidyRow missing table t
complete_is_tidy missing table t complete incomplete = absurd (true≢false (sym complete ∙ incomplete))

pub nothing_missing : (missing : Missing) (table : KeyedScheme) (t : Tuple) → IsEmpty (missing_among missing (attributes table.key) t)
    → IsTidyRow missing table t
nothing_missing missing table t none =
    complete_is_tidy missing table t
    (all_pass (λ k. not (missing k (value_at t k))) (length t) (attributes table.key) (λ k low key.
    not_from_false (missing k (value_at t k)) (false_from_ne_true (missing k (value_at t k)) (λ is.
    true≢false (sym (and_from (attributes table.key k) (missing k (value_at t k)) key is) ∙ none k)))))

pub nothing_present : (missing : Missing) (table : KeyedScheme) (t : Tuple) (beside : Attributes) → beside ≡ has_outside_key table
    → IsEmpty (present_among missing beside t) → IsTidyRow missing table t
nothing_present missing table t beside is none incomplete a outside = elim (cases_Bool (missing a (value_at t a))) [
  | inl gone ↦ gone
  | inr there ↦ absurd (true≢false (sym (and_from (beside a) (not (missing a (value_at t a)))
      (ap (λ (x : Attributes). x a) is ∙ outside) (not_from_false (missing a (value_at t a)) there)) ∙ none a))
]

-- an untidy row is not tidy
pub untidy_is_not : (missing : Missing) (table : KeyedScheme) (t : Tuple) (found : Untidy) → IsSubset (attributes table.key) (below (length t))
    → IsUntidyAt missing table t found → IsTidyRow missing table t → ⊥
untidy_is_not missing table t found within untidy tidy =
    let in_key = and_parts (attributes table.key found.missing) (missing found.missing (value_at t found.missing)) untidy.in_key.member in
    let beside = and_parts (has_outside_key table found.present) (not (missing found.present (value_at t found.present))) untidy.beside.member in
    let incomplete : misses_none missing (attributes table.key) t ≡ false =
    false_from_ne_true (misses_none missing (attributes table.key) t) (λ complete.
    true≢false (sym in_key.1 ∙ not-true (missing found.missing (value_at t found.missing))
    (each_passes (λ k. not (missing k (value_at t k))) (length t) (attributes table.key) complete found.missing
    (low_member (length t) found.missing (within found.missing in_key.0)) in_key.0))) in
    true≢false (sym (tidy incomplete found.present beside.0) ∙ not-true (missing found.present (value_at t found.present)) beside.1)
  where
    low_member : (n k : ℕ) → below n k ≡ true → k < n
    low_member n k h = grind (arith, nat_tests, h)

-- ---- rows
-- tidy rows so far, and one more
pub rows_tidy : (missing : Missing) (table : KeyedScheme) (rows : Relation) (i : ℕ) → i ≤ length rows
    → ((k : ℕ) → k < i → IsTidyRow missing table (row_at rows k)) → IsTidyFor missing (take i rows) table
rows_tidy missing table rows i low each t t_in =
    let within : t_in.0 < i = omega (arith, t_in.1, length-take-le i rows low) in
    subst (IsTidyRow missing table)
    (sym (get_or-take i rows t_in.0 [] within)
    ∙ get_or_default (take i rows) t_in.0 [] t t_in.1 ∙ t_in.2)
    (each t_in.0 within)

pub one_more_tidy : (missing : Missing) (table : KeyedScheme) (rows : Relation) (i : ℕ)
    → ((k : ℕ) → k < i → IsTidyRow missing table (row_at rows k)) → IsTidyRow missing table (row_at rows i)
    → (k : ℕ) → k < i + 1 → IsTidyRow missing table (row_at rows k)
one_more_tidy missing table rows i before here k l = elim (cases_lt k i) [
  | inl less ↦ before k less
  | inr from_on ↦ let e : i ≡ k = omega (arith, l, from_on) in subst (λ (m : ℕ). IsTidyRow missing table (row_at rows m)) e here
]

-- all rows are tidy
pub all_tidy : (missing : Missing) (table : KeyedScheme) (rows : Relation) (i : ℕ) → length rows ≤ i
    → ((k : ℕ) → k < i → IsTidyRow missing table (row_at rows k)) → IsTidyFor missing rows table
all_tidy missing table rows i whole each t t_in =
    subst (IsTidyRow missing table) (get_or_default rows t_in.0 [] t t_in.1 ∙ t_in.2)
    (each t_in.0 (omega (arith, t_in.1, whole)))

-- a table that is not optional loses nothing
pub filled_is_tidy : (nullable : Attributes) (table : KeyedScheme) (rows : Relation) → is_optional nullable table ≡ false
    → IsTidyFor (empty_values nullable) rows table
filled_is_tidy nullable table rows filled t t_in =
    complete_is_tidy (empty_values nullable) table t
    (filled_misses_none nullable (empty_values nullable) table t (empty_is_missing nullable) filled)

-- ---- what is found for tables
pub one_found_more : (missing : Missing) (rows : Relation) (design : List KeyedScheme) (old new : List Untidy) (table : KeyedScheme)
    (first : Option Untidy) → AreUntidy missing rows design old → new ≡ old ++ if_there first → FindsUntidy missing rows table first
    → AreUntidy missing rows (design ++ table ∷ []) new
one_found_more missing rows design old new table first are added finds = (
  are.0 ++ first ∷ [],
  zip_push (FindsUntidy missing rows) design are.0 table first are.1 finds,
  added ∙ ap (λ (l : List Untidy). l ++ if_there first) are.2
      ∙ ap (λ (l : List Untidy). flat_map if_there are.0 ++ l) (sym (append-nil (if_there first)))
      ∙ sym (flat_map-append if_there are.0 (first ∷ [])),
)
  where
    zip_push : {X Y : Type 0} (R : X → Y → Type 0) (xs : List X) (ys : List Y) (x : X) (y : Y) → AllZip R xs ys → R x y
        → AllZip R (xs ++ x ∷ []) (ys ++ y ∷ [])
    zip_push R [] [] x y h r = (r, tt)
    zip_push R [] (b ∷ ys) x y h r = absurd h
    zip_push R (a ∷ xs) [] x y h r = absurd h
    zip_push R (a ∷ xs) (b ∷ ys) x y h r = (h.0, zip_push R xs ys x y h.1 r)

-- where nothing is found, no table loses a value
pub none_found : (missing : Missing) (rows : Relation) (design : List KeyedScheme) (each : List (Option Untidy))
    → AllZip (FindsUntidy missing rows) design each → flat_map if_there each ≡ [] → All (IsTidyFor missing rows) design
none_found missing rows [] [] finds none = All-nil (IsTidyFor missing rows)
none_found missing rows [] (e ∷ es) finds none = absurd finds
none_found missing rows (t ∷ ts) [] finds none = absurd finds
none_found missing rows (t ∷ ts) (None ∷ es) finds none =
    All-cons (IsTidyFor missing rows) t ts finds.0 (none_found missing rows ts es finds.1 none)
none_found missing rows (t ∷ ts) (Some found ∷ es) finds none = absurd (cc none)

-- where something is found, some table does
pub some_found : (missing : Missing) (n : ℕ) (rows : Relation) (design : List KeyedScheme) (each : List (Option Untidy))
    → All (λ (t : Tuple). length t ≡ n) rows → All (λ (t : KeyedScheme). IsSubset (attributes t.key) (below n)) design
    → AllZip (FindsUntidy missing rows) design each → (flat_map if_there each ≡ [] → ⊥) → All (IsTidyFor missing rows) design → ⊥
some_found missing n rows [] [] over keys finds some tidy = some refl
some_found missing n rows [] (e ∷ es) over keys finds some tidy = finds
some_found missing n rows (t ∷ ts) [] over keys finds some tidy = finds
some_found missing n rows (t ∷ ts) (None ∷ es) over keys finds some tidy =
    some_found missing n rows ts es over (All-tail (λ (k : KeyedScheme). IsSubset (attributes k.key) (below n)) t ts keys) finds.1 some
    (All-tail (IsTidyFor missing rows) t ts tidy)
some_found missing n rows (t ∷ ts) (Some found ∷ es) over keys finds some tidy =
    let first = finds.0 in
    let long : length (row_at rows first.index) ≡ n = over first.index [] first.within in
    untidy_is_not missing t (row_at rows first.index) found
    (λ k m. ap (λ (m : ℕ). below m k) long ∙ All-head (λ (s : KeyedScheme). IsSubset (attributes s.key) (below n)) t ts keys k m)
    first.untidy
    (All-head (IsTidyFor missing rows) t ts tidy (row_at rows first.index)
    (first.index, first.within, get_or_default rows first.index (row_at rows first.index) [] first.within))

-- ---- texts
-- a line of seven parts, added one after the other
pub line_of_parts : (a b c d e f g : List ℕ) {t0 t1 t2 t3 t4 t5 t6 t7 : List ℕ} → t0 ≡ [] → t1 ≡ t0 ++ a → t2 ≡ t1 ++ b
    → t3 ≡ t2 ++ c → t4 ≡ t3 ++ d → t5 ≡ t4 ++ e → t6 ≡ t5 ++ f → t7 ≡ t6 ++ (g ++ 10 ∷ [])
    → t7 ≡ line (a ++ b ++ c ++ d ++ e ++ f ++ g)
line_of_parts a b c d e f g none e1 e2 e3 e4 e5 e6 e7 =
    let end : List ℕ = 10 ∷ [] in
    e7 ∙ ap (λ (t : List ℕ). t ++ (g ++ end)) (e6 ∙ ap (λ (t : List ℕ). t ++ f) (e5 ∙ ap (λ (t : List ℕ). t ++ e)
    (e4 ∙ ap (λ (t : List ℕ). t ++ d) (e3 ∙ ap (λ (t : List ℕ). t ++ c) (e2 ∙ ap (λ (t : List ℕ). t ++ b)
    (e1 ∙ ap (λ (t : List ℕ). t ++ a) none))))))
    ∙ sym (append_assoc (a ++ b ++ c ++ d ++ e ++ f) g end)

-- ---- lists
pub no_items : {X : Type 0} (xs : List X) → length xs ≡ 0 → xs ≡ []
no_items [] e = refl
no_items (x ∷ xs) e = absurd (omega (arith, e))

-- what is found for the next table
pub next_found : (nullable may : Attributes) (rows : Relation) (design : List KeyedScheme) (k : ℕ) (d : KeyedScheme) (old new : List Untidy)
    (first : Option Untidy) → k < length design → may ≡ nullable → AreUntidy (empty_values nullable) rows (take k design) old
    → new ≡ old ++ if_there first → FindsUntidy (empty_values may) rows (get_or design k d) first
    → AreUntidy (empty_values nullable) rows (take (k + 1) design) new
next_found nullable may rows design k d old new first low same are added finds =
    subst (λ (l : List KeyedScheme). AreUntidy (empty_values nullable) rows l new) (sym (take_more design k d low))
    (one_found_more (empty_values nullable) rows (take k design) old new (get_or design k d) first are added
    (subst (λ (x : Attributes). FindsUntidy (empty_values x) rows (get_or design k d) first) same finds))
