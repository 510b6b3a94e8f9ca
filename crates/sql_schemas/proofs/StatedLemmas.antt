-- The keys of a table are those that it states, and their columns are columns of it.
use Rattle.std.proofs.Common.{◌≡◌, ◌<◌, ◌≤◌, ◌+◌, ◌==◌, ◌||◌, ℕ, Bool, true, false, zero, suc, cond, All, Option, Some, None, Result, Ok, Err, List, [], ◌∷◌, ◌++◌, length, get_or, refl, subst, arith, length-append}
use Rattle.std.specs.Prelude.{option_and_then, position}
use Rattle.std.proofs.lemmas.Bool.Decides.{nat_tests}
use Rattle.std.proofs.lemmas.List.Elements.{All-append, All-head, All-nil, All-tail}
use Rattle.std.proofs.lemmas.Option.{slice_get-get_or}
use Rattle.attr_sets.specs.Attributes.{Attributes, IsSubset, below, none, only, union}
use Rattle.schema_model.specs.Names.{same_name}
use Rattle.sql_definitions.specs.declared.refusal.Refusal.{Refusal}
use Rattle.sql_definitions.specs.Facts.{Facts, StatedColumn, StatedKey, StatedPart}
use Rattle.sql_schemas.specs.Keys.{KeyColumns, and_then, column_named, column_of_part, columns_of_parts, is_new, key_of, keys_after, keys_of, new_keys, with_part}
use Rattle.sql_schemas.specs.Meaning.{IsStatedKey}

one : {X : Type 0} (P : X → Type 0) (x : X) → P x → All P (x ∷ [])
one P x holds zero d below = holds
one P x holds (suc k) d below = absurd (omega (arith, below))

-- ---- the keys, one after the other: what each stated key comes to holds of all
Made : (f : Facts) (P : KeyColumns → Type 0) → StatedKey → Type 0
Made f P stated = (key : KeyColumns) → key_of f.columns stated ≡ Ok key → P key

keys_all : (f : Facts) (P : KeyColumns → Type 0) (before : List KeyColumns) (stated : List StatedKey) (keys : List KeyColumns)
    → All P before → All (Made f P) stated → keys_after f.columns before stated ≡ Ok keys → All P keys
unfolding keys_after Made
keys_all f P before [] keys held each read = let same : before ≡ keys = cc in subst (All P) same held
keys_all f P before (key ∷ stated) keys held each read =
    by_case (key_of f.columns key) refl read
    (λ k made. keys_all f P (before ++ k ∷ []) stated keys
    (All-append P before (k ∷ []) held (one P k (All-head (Made f P) key stated each k made)))
    (All-tail (Made f P) key stated each))
  where
    by_case : (r : Result KeyColumns Refusal) → key_of f.columns key ≡ r
        → and_then r (λ k. keys_after f.columns (before ++ k ∷ []) stated) ≡ Ok keys
        → ((k : KeyColumns) → key_of f.columns key ≡ Ok k → keys_after f.columns (before ++ k ∷ []) stated ≡ Ok keys → All P keys) → All P keys
    by_case (Ok k) made goes later = later k made goes
    by_case (Err refusal) made goes later = cc

-- each key is one that is stated
members : (f : Facts) → All (Made f (IsStatedKey f)) f.keys
unfolding Made
members f i default low key made = record {
  at = i;
  statement = get_or f.keys i default;
  stated = slice_get-get_or f.keys i default low;
  columns = made;
}

pub keys_stated : (f : Facts) (keys : List KeyColumns) → keys_of f ≡ Ok keys → All (IsStatedKey f) keys
keys_stated f keys read =
    keys_all f (IsStatedKey f) [] f.keys keys (All-nil (IsStatedKey f)) (members f) read

-- as many keys as are stated
keys_count : (f : Facts) (before : List KeyColumns) (stated : List StatedKey) (keys : List KeyColumns)
    → keys_after f.columns before stated ≡ Ok keys → length keys ≡ length before + length stated
unfolding keys_after
keys_count f before [] keys read = let same : before ≡ keys = cc in subst (λ (ks : List KeyColumns). length ks ≡ length before + 0) same (omega arith)
keys_count f before (key ∷ stated) keys read =
    by_case (key_of f.columns key) refl read (λ k. keys_count f (before ++ k ∷ []) stated keys)
  where
    by_case : (r : Result KeyColumns Refusal) → key_of f.columns key ≡ r
        → and_then r (λ k. keys_after f.columns (before ++ k ∷ []) stated) ≡ Ok keys
        → ((k : KeyColumns) → keys_after f.columns (before ++ k ∷ []) stated ≡ Ok keys → length keys ≡ length (before ++ k ∷ []) + length stated)
        → length keys ≡ length before + length (key ∷ stated)
    by_case (Ok k) made goes later =
        let size : length (before ++ k ∷ []) ≡ length before + 1 = length-append before (k ∷ []) in
        let count = later k goes in omega (arith, size, count)
    by_case (Err refusal) made goes later = cc

pub keys_as_many : (f : Facts) (keys : List KeyColumns) → keys_of f ≡ Ok keys → length keys ≡ length f.keys
keys_as_many f keys read = let count = keys_count f [] f.keys keys read in omega (arith, count)

-- ---- their columns
named_within : (columns : List StatedColumn) (name : List ℕ) (k : ℕ) → column_named columns name ≡ Some k → k < length columns
named_within columns name k here = position_within (λ c. same_name c.name name) columns k here
  where
    position_within : (p : StatedColumn → Bool) (xs : List StatedColumn) (k : ℕ) → position p xs ≡ Some k → k < length xs
    position_within p xs k here = grind (arith, nat_tests, here)

part_within : (columns : List StatedColumn) (part : StatedPart) (k : ℕ) → column_of_part columns part ≡ Some k → k < length columns
part_within columns part k here = by_name part.name here
  where
    by_name : (name : Option (List ℕ)) → option_and_then (column_named columns) name ≡ Some k → k < length columns
    by_name (Some name) is = named_within columns name k is
    by_name None is = cc

parts_within : (columns : List StatedColumn) (x : Attributes) (parts : List StatedPart) (y : Attributes)
    → IsSubset x (below (length columns)) → columns_of_parts columns x parts ≡ Ok y → IsSubset y (below (length columns))
unfolding columns_of_parts
parts_within columns x [] y within read = let same : x ≡ y = cc in subst (λ (z : Attributes). IsSubset z (below (length columns))) same within
parts_within columns x (part ∷ parts) y within read =
    by_case (column_of_part columns part) refl read
    (λ k low. parts_within columns (union x (only k)) parts y (with_one k low))
  where
    with_one : (k : ℕ) → k < length columns → IsSubset (union x (only k)) (below (length columns))
    with_one k low j member = by_side (x j) refl member
      where
        by_side : (b : Bool) → x j ≡ b → (b || (j == k)) ≡ true → below (length columns) j ≡ true
        by_side true is either = within j is
        by_side false is either = grind (arith, nat_tests, either, low)

    by_case : (o : Option ℕ) → column_of_part columns part ≡ o
        → and_then (with_part x part.place o) (λ z. columns_of_parts columns z parts) ≡ Ok y
        → ((k : ℕ) → k < length columns → columns_of_parts columns (union x (only k)) parts ≡ Ok y → IsSubset y (below (length columns)))
        → IsSubset y (below (length columns))
    by_case (Some k) here goes later = later k (part_within columns part k here) goes
    by_case None here goes later = cc

Within : Facts → KeyColumns → Type 0
Within f key = IsSubset key.columns (below (length f.columns))

key_within : (f : Facts) (stated : StatedKey) (key : KeyColumns) → key_of f.columns stated ≡ Ok key → Within f key
unfolding Within
key_within f stated key made = by_case (columns_of_parts f.columns none stated.parts) refl made
  where
    by_case : (r : Result Attributes Refusal) → columns_of_parts f.columns none stated.parts ≡ r
        → and_then r (λ x. Ok (record { kind = stated.kind; columns = x })) ≡ Ok key
        → IsSubset key.columns (below (length f.columns))
    by_case (Ok x) read goes =
        let same : record { kind = stated.kind; columns = x } ≡ key = cc in
        subst (λ (k : KeyColumns). IsSubset k.columns (below (length f.columns))) same
        (parts_within f.columns none stated.parts x (λ k wrong. absurd (never wrong)) read)
      where
        never : false ≡ true → ⊥
        never wrong = cc
    by_case (Err refusal) read goes = cc

pub keys_within : (f : Facts) (keys : List KeyColumns) → keys_of f ≡ Ok keys
    → All (λ key. IsSubset key.columns (below (length f.columns))) keys
unfolding Within Made
keys_within f keys read =
    keys_all f (Within f) [] f.keys keys (All-nil (Within f)) (λ i default low key made. key_within f (get_or f.keys i default) key made) read

-- ---- those that say something
pub new_all : (P : KeyColumns → Type 0) (n : ℕ) (missing : Attributes) (before keys : List KeyColumns) → All P before → All P keys → All P (new_keys n missing before keys)
unfolding new_keys
new_all P n missing before [] held each = held
new_all P n missing before (key ∷ keys) held each =
    new_all P n missing (cond (is_new n missing before key) (before ++ key ∷ []) before) keys (by_test (is_new n missing before key)) (All-tail P key keys each)
  where
    by_test : (b : Bool) → All P (cond b (before ++ key ∷ []) before)
    by_test true = All-append P before (key ∷ []) held (one P key (All-head P key keys each))
    by_test false = held

pub new_count : (n : ℕ) (missing : Attributes) (before keys : List KeyColumns) → length (new_keys n missing before keys) ≤ length before + length keys
unfolding new_keys
new_count n missing before [] = omega arith
new_count n missing before (key ∷ keys) =
    let later = new_count n missing (cond (is_new n missing before key) (before ++ key ∷ []) before) keys in
    let here = by_test (is_new n missing before key) in omega (arith, later, here)
  where
    by_test : (b : Bool) → length (cond b (before ++ key ∷ []) before) ≤ length before + 1
    by_test true = let size : length (before ++ key ∷ []) ≡ length before + 1 = length-append before (key ∷ []) in omega (arith, size)
    by_test false = omega arith
