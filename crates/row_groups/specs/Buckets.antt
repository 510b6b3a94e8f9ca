-- Values put into buckets, and the first row of each value: for `Interned` and `Groups`, which number many different
-- values or pairs bucket by bucket. `Desk` does not cite it.
use Rattle.std.specs.Prelude.{◌≡◌, ◌≢◌, ◌+◌, ◌*◌, ◌/◌, ◌%◌, ◌^◌, ◌<◌, ◌≤◌, ◌==◌, ℕ, List, [], ◌∷◌, length, map, Some}
use Rattle.std.specs.List.{slice_get}
use Rattle.dep_model.specs.Projections.{members_below}
use Rattle.row_groups.specs.Numberings.{number_at}
use Rattle.row_groups.specs.declared.buckets.Bucket.{Bucket}
use Rattle.row_groups.specs.declared.buckets.TheConstants.{BUCKETS, FACTOR}
use Rattle.row_groups.specs.declared.pair_buckets.PairBucket.{PairBucket}

-- ---- which bucket
-- bytes mixed into a number of 32 bits
unfoldable pub mixed : ℕ → List ℕ → ℕ
mixed sum [] = sum
mixed sum (byte ∷ bytes) = mixed ((sum + byte) % 2 ^ 32 * FACTOR % 2 ^ 32) bytes

abbrev pub bucket_of_bytes : List ℕ → ℕ
bucket_of_bytes bytes = mixed 0 bytes / 2 ^ 24

-- what stands at a position of two lists
abbrev pub pair_at : List ℕ → List ℕ → ℕ → ℕ × ℕ
pair_at first second i = (number_at first i, number_at second i)

abbrev pub bucket_of_pair : ℕ × ℕ → ℕ
bucket_of_pair p = (31 * p.0 + p.1) % BUCKETS

-- ---- what a bucket has
-- of the first n rows those whose values are in a bucket, and these values
pub record IsBucket {X : Type 0} (bucket_of : X → ℕ) (value : ℕ → X) (n place : ℕ) (rows : List ℕ) (values : List X)
    : Type 0 where
  pub rows_are : rows ≡ members_below n (λ i. bucket_of (value i) == place)
  pub values_are : values ≡ map value rows

-- the first n rows in their buckets, by bytes
pub record AreBuckets (value : ℕ → List ℕ) (n : ℕ) (buckets : List Bucket) : Type 0 where
  pub count : length buckets ≡ BUCKETS
  pub each : (place : ℕ) (bucket : Bucket) → place < BUCKETS → slice_get buckets place ≡ Some bucket
      → IsBucket bucket_of_bytes value n place bucket.rows.items bucket.values

-- and by pairs
pub record ArePairBuckets (value : ℕ → ℕ × ℕ) (n : ℕ) (buckets : List PairBucket) : Type 0 where
  pub count : length buckets ≡ BUCKETS
  pub each : (place : ℕ) (bucket : PairBucket) → place < BUCKETS → slice_get buckets place ≡ Some bucket
      → IsBucket bucket_of_pair value n place bucket.rows.items bucket.pairs.items

-- ---- leaders
-- the leader of a row is the first row with the same value
pub record IsLeader {X : Type 0} (value : ℕ → X) (i leader : ℕ) : Type 0 where
  pub no_later : leader ≤ i
  pub equal : value leader ≡ value i
  pub least : (j : ℕ) → j < leader → value j ≢ value i

-- the leader of each row
pub record AreLeaders {X : Type 0} (value : ℕ → X) (leaders : List ℕ) : Type 0 where
  pub each : (i : ℕ) → i < length leaders → IsLeader value i (number_at leaders i)
