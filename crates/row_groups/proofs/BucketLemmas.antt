-- Rows in buckets, and the leaders of the rows of one bucket.
use Rattle.std.proofs.Common.{inl, inr, ◌≡◌, ◌≢◌, ◌+◌, ◌*◌, ◌%◌, ◌^◌, ◌<◌, ◌≤◌, ◌==◌, ◌⊎◌, ℕ, suc, true, false, List, [], ◌∷◌, ◌++◌, length, map, Some, drop, get_or, refl, sym, ap, subst, ◌∙◌, arith}
use Rattle.std.specs.List.{slice_get}
use Rattle.std.specs.Prelude.{All}
use Rattle.std.proofs.Math.ListN.{set}
use Rattle.std.proofs.Math.Seq.{drop-cons}
use Rattle.std.proofs.lemmas.Bool.{cases_Bool, cases_eq, cases_lt, eq-eqb, eqb-true}
use Rattle.std.proofs.lemmas.List.{drop_all, get_or-map, get_or-set_same, get_or-set_other, length-map, map-append}
use Rattle.std.proofs.lemmas.Option.{get_or_from_slice_get, slice_get-get_or}
use Rattle.attr_sets.specs.Attributes.{Attributes, count_below}
use Rattle.attr_sets.proofs.AttributesLemmas.{count_below-le, count_below-member, count_below-mono}
use Rattle.dep_model.specs.Projections.{members_below}
use Rattle.dep_model.proofs.SchemeLemmas.{length-members_below, members_below-at, members_below-none, members_below-one_more, members_below-no_more}
use Rattle.row_groups.specs.Buckets.{IsBucket, IsLeader, bucket_of_bytes, bucket_of_pair, mixed}
use Rattle.row_groups.specs.declared.buckets.TheConstants.{BUCKETS, FACTOR}
use Rattle.row_groups.specs.Numberings.{number_at, AreFirsts, AreInOrder, AreNumbered}
use Rattle.row_groups.proofs.NumberingLemmas.{some_inj}
use Rattle.dep_model.proofs.ListLemmas.{same_default}
use Rattle.dep_model.proofs.SchemeLemmas.{member_at}

-- ---- the bucket of a value
mixed-low : (sum : ℕ) (bytes : List ℕ) → sum < 2 ^ 32 → mixed sum bytes < 2 ^ 32
unfolding mixed
mixed-low sum [] low = low
mixed-low sum (byte ∷ bytes) low = mixed-low ((sum + byte) % 2 ^ 32 * FACTOR % 2 ^ 32) bytes (omega arith)

pub bytes-low : (bytes : List ℕ) → bucket_of_bytes bytes < BUCKETS
bytes-low bytes = omega (arith, mixed-low 0 bytes (omega arith))

pub pair-low : (p : ℕ × ℕ) → bucket_of_pair p < BUCKETS
pair-low p = omega arith

-- ---- the rows of a bucket
module _ {X : Type 0} (bucket_of : X → ℕ) (value : ℕ → X) (n place : ℕ) (rows : List ℕ) (values : List X)
    (is : IsBucket bucket_of value n place rows values) where
  abbrev pub chosen : Attributes
  chosen = λ i. bucket_of (value i) == place

  row_facts : (k : ℕ) → k < length rows
      → (number_at rows k < n) × (chosen (number_at rows k) ≡ true) × (k ≡ count_below chosen (number_at rows k))
  row_facts k l =
      let at : k < length (members_below n chosen) = omega (arith, l, ap length is.rows_are) in
      member_at n chosen k (number_at rows k) at
      (ap (λ (l : List ℕ). get_or l k 0) is.rows_are ∙ same_default (members_below n chosen) k 0 (number_at rows k) at)

  pub row_low : (k : ℕ) → k < length rows → number_at rows k < n
  row_low k l = (row_facts k l).0

  pub row_place : (k : ℕ) → k < length rows → bucket_of (value (number_at rows k)) ≡ place
  row_place k l = eqb-true (bucket_of (value (number_at rows k))) place (row_facts k l).1

  pub rows_ascend : (j k : ℕ) → j < k → k < length rows → number_at rows j < number_at rows k
  rows_ascend j k less l = elim (cases_lt (number_at rows j) (number_at rows k)) [
    | inl below ↦ below
    | inr above ↦
        let first = row_facts j (omega (arith, less, l)) in
        let second = row_facts k l in
        absurd (omega (
          arith,
          less,
          first.2,
          second.2,
          count_below-mono (number_at rows j) (number_at rows k) chosen above,
        ))
  ]

  pub few_rows : length rows ≤ n
  few_rows = omega (arith, ap length is.rows_are, length-members_below n chosen, count_below-le n chosen)

  pub even_values : length values ≡ length rows
  even_values = ap length is.values_are ∙ length-map rows value

  -- where a row stands
  stands : (i : ℕ) → i < n → bucket_of (value i) ≡ place
      → (k : ℕ) × (k < length rows) × (number_at rows k ≡ i)
  stands i low same =
      let has : chosen i ≡ true = eq-eqb (bucket_of (value i)) place same in
      let after = count_below-member i chosen has in
      let upto = count_below-mono n (i + 1) chosen (omega (arith, low)) in (
        count_below chosen i,
        omega (arith, after, upto, ap length is.rows_are, length-members_below n chosen),
        ap (λ (l : List ℕ). number_at l (count_below chosen i)) is.rows_are ∙ members_below-at n chosen i 0 low has,
      )

  -- a row of another bucket is none of these
  pub not_a_row : (i : ℕ) → bucket_of (value i) ≢ place → (k : ℕ) → k < length rows → number_at rows k ≢ i
  not_a_row i other k l same = other (ap (λ (j : ℕ). bucket_of (value j)) (sym same) ∙ row_place k l)

  value_of_row : (none : X) (k : ℕ) → k < length rows → get_or values k none ≡ value (number_at rows k)
  value_of_row none k l =
      ap (λ (vs : List X). get_or vs k none) is.values_are ∙ get_or-map value rows k 0 none l

  -- the row at the first position of a number leads the others of this number
  pub leads : (none : X) (numbers firsts leaders : List ℕ) (seen : List X)
      → AreNumbered (λ k. get_or values k none) (length values) seen numbers → AreFirsts numbers firsts
      → ((k : ℕ) → k < length rows → number_at leaders (number_at rows k)
      ≡ number_at rows (number_at firsts (number_at numbers k)))
      → (i : ℕ) → i < n → bucket_of (value i) ≡ place → IsLeader value i (number_at leaders i)
  leads none numbers firsts leaders seen numbered first told i low same =
      let (k, kl, at) = stands i low same in
      let size : length numbers ≡ length rows = numbered.one_each ∙ even_values in
      let m : ℕ = number_at firsts (number_at numbers k) in
      let low_number : number_at numbers k < length firsts = first.each k (omega (arith, kl, size)) in
      let ml : m < length rows = omega (arith, first.within (number_at numbers k) low_number, size) in
      let is_led : number_at leaders i ≡ number_at rows m =
      ap (number_at leaders) (sym at) ∙ told k kl in
      let one_value : value (number_at rows m) ≡ value i = equal_at m k ml kl (first.number (number_at numbers k) low_number) ∙ ap value at in
      subst (IsLeader value i) (sym is_led) (record {
        no_later = by_least m k kl at (first.least k (omega (arith, kl, size)));
        equal = one_value;
        least = λ j before equal. none_before k m i kl ml at refl j before equal;
      })
    where
      read_at : (k : ℕ) → k < length rows → slice_get seen (number_at numbers k) ≡ Some (value (number_at rows k))
      read_at k l = numbered.read k (omega (arith, l, even_values)) ∙ ap Some (value_of_row none k l)

      equal_at : (m k : ℕ) → m < length rows → k < length rows → number_at numbers m ≡ number_at numbers k
          → value (number_at rows m) ≡ value (number_at rows k)
      equal_at m k ml kl same_number = some_inj (value (number_at rows m)) (value (number_at rows k))
          (sym (read_at m ml) ∙ ap (slice_get seen) same_number ∙ read_at k kl)

      by_least : (m k : ℕ) → k < length rows → number_at rows k ≡ i → (m < k) ⊎ (m ≡ k) → number_at rows m ≤ i
      by_least m k kl at (inl before) = omega (arith, rows_ascend m k before kl, at)
      by_least m k kl at (inr same) = omega (arith, ap (number_at rows) same, at)

      earlier_row : (h m : ℕ) → h < length rows → number_at rows h < number_at rows m → h < m
      earlier_row h m hl less = elim (cases_lt h m) [
        | inl below ↦ below
        | inr above ↦ elim (cases_lt m h) [
          | inl after ↦ absurd (omega (arith, less, rows_ascend m h after hl))
          | inr upto ↦
              let one : h ≡ m = omega (arith, above, upto) in
              absurd (omega (arith, less, ap (number_at rows) one))
        ]
      ]

      none_before : (k m i : ℕ) → k < length rows → m < length rows → number_at rows k ≡ i
          → m ≡ number_at firsts (number_at numbers k) → (j : ℕ) → j < number_at rows m → value j ≢ value i
      none_before k m i kl ml at is_first j before equal =
          let j_place : bucket_of (value j) ≡ place =
          ap bucket_of (equal ∙ sym (ap value at)) ∙ row_place k kl in
          let (h, hl, here) = stands j (omega (arith, before, row_low m ml)) j_place in
          let earlier : h < m = earlier_row h m hl (omega (arith, here, before)) in
          let same_number : number_at numbers h ≡ number_at numbers k =
          numbered.once (number_at numbers h) (number_at numbers k) (value i)
          (read_at h hl ∙ ap Some (ap value here ∙ equal)) (read_at k kl ∙ ap Some (ap value at)) in
          let size : length numbers ≡ length rows = numbered.one_each ∙ even_values in
          elim (first.least h (omega (arith, hl, size))) [
            | inl less ↦ omega (arith, less, earlier, is_first, ap (number_at firsts) same_number)
            | inr here_too ↦ omega (arith, here_too, earlier, is_first, ap (number_at firsts) same_number)
          ]

-- ---- one row more
pub bucket_more : {X : Type 0} (bucket_of : X → ℕ) (value : ℕ → X) (n place : ℕ) (rows rows' : List ℕ) (values values' : List X)
    → IsBucket bucket_of value n place rows values → bucket_of (value n) ≡ place → rows' ≡ rows ++ n ∷ []
    → values' ≡ values ++ value n ∷ [] → IsBucket bucket_of value (n + 1) place rows' values'
bucket_more {X} bucket_of value n place rows rows' values values' is here more_rows more_values = record {
  rows_are = more_rows ∙ ap (λ (l : List ℕ). l ++ n ∷ []) is.rows_are
      ∙ sym (members_below-one_more n (n + 1) (λ i. bucket_of (value i) == place) refl (eq-eqb (bucket_of (value n)) place here));
  values_are = more_values ∙ ap (λ (l : List X). l ++ value n ∷ []) is.values_are ∙ sym (map-append value rows (n ∷ []))
      ∙ ap (map value) (sym more_rows);
}

pub bucket_passed : {X : Type 0} (bucket_of : X → ℕ) (value : ℕ → X) (n place : ℕ) (rows : List ℕ) (values : List X)
    → IsBucket bucket_of value n place rows values → bucket_of (value n) ≢ place
    → IsBucket bucket_of value (n + 1) place rows values
bucket_passed bucket_of value n place rows values is other = record {
  rows_are = is.rows_are ∙ sym (members_below-no_more n (n + 1) (λ i. bucket_of (value i) == place) refl fails);
  values_are = is.values_are;
}
  where
    fails : (bucket_of (value n) == place) ≡ false
    fails = elim (cases_Bool (bucket_of (value n) == place)) [
      | inl same ↦ absurd (other (eqb-true (bucket_of (value n)) place same))
      | inr differs ↦ differs
    ]

pub empty_bucket : {X : Type 0} (bucket_of : X → ℕ) (value : ℕ → X) (place : ℕ) (rows : List ℕ) (values : List X)
    → rows ≡ [] → values ≡ [] → IsBucket bucket_of value 0 place rows values
empty_bucket bucket_of value place rows values no_rows no_values = record {
  rows_are = no_rows ∙ sym (members_below-none (λ i. bucket_of (value i) == place));
  values_are = no_values ∙ ap (map value) (sym no_rows);
}

-- ---- all buckets, of whatever kind
module _ {B X : Type 0} (rows_of : B → List ℕ) (values_of : B → List X) (bucket_of : X → ℕ) (value : ℕ → X) where
  abbrev pub Each : ℕ → List B → Type 0
  Each n buckets = (place : ℕ) (bucket : B) → place < BUCKETS → slice_get buckets place ≡ Some bucket
      → IsBucket bucket_of value n place (rows_of bucket) (values_of bucket)

  pub each_more : (n place : ℕ) (buckets : List B) (old new : B) → length buckets ≡ BUCKETS → Each n buckets
      → place < BUCKETS → bucket_of (value n) ≡ place → old ≡ get_or buckets place old
      → rows_of new ≡ rows_of old ++ n ∷ [] → values_of new ≡ values_of old ++ value n ∷ []
      → Each (n + 1) (set buckets place new)
  each_more n place buckets old new count are low here is rows values other bucket other_low at = elim (cases_eq other place) [
    | inl same ↦
        let inside : place < length buckets = omega (arith, low, count) in
        let was = are place old low (slice_get-get_or buckets place old inside ∙ ap Some (sym is)) in
        let found : bucket ≡ new =
        sym (get_or_from_slice_get (set buckets place new) other bucket new at)
        ∙ ap (λ (k : ℕ). get_or (set buckets place new) k new) same ∙ get_or-set_same buckets place new new inside in
        subst (λ (k : ℕ). IsBucket bucket_of value (n + 1) k (rows_of bucket) (values_of bucket)) (sym same)
        (subst (λ (b : B). IsBucket bucket_of value (n + 1) place (rows_of b) (values_of b)) (sym found)
        (bucket_more bucket_of value n place (rows_of old) (rows_of new) (values_of old) (values_of new) was here rows values))
    | inr differs ↦
        let kept : get_or buckets other bucket ≡ bucket =
        sym (get_or-set_other buckets place other new bucket differs)
        ∙ get_or_from_slice_get (set buckets place new) other bucket bucket at in
        bucket_passed bucket_of value n other (rows_of bucket) (values_of bucket)
        (are other bucket other_low (slice_get-get_or buckets other bucket (omega (arith, other_low, count)) ∙ ap Some kept))
        (λ same. differs (sym same ∙ here))
  ]

  pub each_empty : (buckets : List B) → length buckets ≡ BUCKETS → All (λ (b : B). rows_of b ≡ []) buckets
      → All (λ (b : B). values_of b ≡ []) buckets → Each 0 buckets
  each_empty buckets count rows values place bucket low at =
      let is = get_or_from_slice_get buckets place bucket bucket at in
      let inside : place < length buckets = omega (arith, low, count) in
      empty_bucket bucket_of value place (rows_of bucket) (values_of bucket)
      (subst (λ (b : B). rows_of b ≡ []) is (rows place bucket inside))
      (subst (λ (b : B). values_of b ≡ []) is (values place bucket inside))

  pub bucket_at : (n place : ℕ) (buckets : List B) (bucket : B) → length buckets ≡ BUCKETS → Each n buckets
      → place < BUCKETS → bucket ≡ get_or buckets place bucket
      → IsBucket bucket_of value n place (rows_of bucket) (values_of bucket)
  bucket_at n place buckets bucket count are low is =
      are place bucket low (slice_get-get_or buckets place bucket (omega (arith, low, count)) ∙ ap Some (sym is))

-- ---- bytes that are mixed
pub mixed_next : (sum i : ℕ) (bytes : List ℕ) → i < length bytes
    → mixed sum (drop i bytes) ≡ mixed ((sum + get_or bytes i 0) % 2 ^ 32 * FACTOR % 2 ^ 32) (drop (i + 1) bytes)
unfolding mixed
mixed_next sum i bytes low =
    let next : suc i ≡ i + 1 = omega arith in
    ap (mixed sum) (drop-cons bytes i 0 low)
    ∙ ap (λ (k : ℕ). mixed ((sum + get_or bytes i 0) % 2 ^ 32 * FACTOR % 2 ^ 32) (drop k bytes)) next

pub mixed_end : (sum i : ℕ) (bytes : List ℕ) → length bytes ≤ i → mixed sum (drop i bytes) ≡ sum
unfolding mixed
mixed_end sum i bytes over = ap (mixed sum) (drop_all i bytes over)

-- ---- numbers, their first positions, and what is read of them
pub firsts_are : {X : Type 0} (none : X) (numbers same firsts : List ℕ) (values seen : List X)
    → AreNumbered (λ k. get_or values k none) (length values) seen numbers → same ≡ numbers
    → (AreInOrder same → AreFirsts same firsts) → AreFirsts numbers firsts
firsts_are none numbers same firsts values seen numbered is first =
    subst (λ (l : List ℕ). AreFirsts l firsts) is
    (first (subst AreInOrder (sym is) (λ i g l m. numbered.in_order i g (omega (arith, l, numbered.one_each)) m)))

pub number_inside : (numbers firsts ns fs : List ℕ) → AreFirsts numbers firsts → ns ≡ numbers → fs ≡ firsts
    → (k d : ℕ) → k < length ns → get_or ns k d < length fs
number_inside numbers firsts ns fs first ns_is fs_is k d l =
    let low : k < length numbers = omega (arith, l, ap length ns_is) in
    omega (arith, first.each k low, same_default numbers k d 0 low, ap (λ (l : List ℕ). get_or l k d) ns_is, ap length fs_is)

pub first_inside : (numbers firsts fs rs : List ℕ) → AreFirsts numbers firsts → length numbers ≡ length rs → fs ≡ firsts
    → (k d : ℕ) → k < length fs → get_or fs k d < length rs
first_inside numbers firsts fs rs first size fs_is k d l =
    let low : k < length firsts = omega (arith, l, ap length fs_is) in
    omega (arith, first.within k low, same_default firsts k d 0 low, ap (λ (l : List ℕ). get_or l k d) fs_is, size)

pub told_of : (rows numbers firsts rs ns fs leaders : List ℕ) → rs ≡ rows → ns ≡ numbers → fs ≡ firsts
    → ((k : ℕ) → k < length rs → number_at leaders (number_at rs k) ≡ number_at rs (number_at fs (number_at ns k)))
    → (k : ℕ) → k < length rows → number_at leaders (number_at rows k) ≡ number_at rows (number_at firsts (number_at numbers k))
told_of rows numbers firsts rs ns fs leaders rs_is ns_is fs_is told k l =
    ap (λ (r : List ℕ). number_at leaders (number_at r k)) (sym rs_is)
    ∙ told k (omega (arith, l, ap length rs_is))
    ∙ ap (λ (r : List ℕ). number_at r (number_at fs (number_at ns k))) rs_is
    ∙ ap (λ (f : List ℕ). number_at rows (number_at f (number_at ns k))) fs_is
    ∙ ap (λ (n : List ℕ). number_at rows (number_at firsts (number_at n k))) ns_is

-- ---- bucket by bucket
module _ {X : Type 0} (bucket_of : X → ℕ) (value : ℕ → X) (n place : ℕ) (rows : List ℕ) (values : List X)
    (is : IsBucket bucket_of value n place rows values) where
  pub row_inside : (k d : ℕ) → k < length rows → get_or rows k d < n
  row_inside k d l = omega (arith, row_low bucket_of value n place rows values is k l, same_default rows k d 0 l)

  pub led_further : (before after : List ℕ)
      → ((i : ℕ) → i < n → bucket_of (value i) < place → IsLeader value i (number_at before i))
      → ((i : ℕ) → i < n → bucket_of (value i) ≡ place → IsLeader value i (number_at after i))
      → ((i : ℕ) → ((k : ℕ) → k < length rows → number_at rows k ≢ i) → number_at after i ≡ number_at before i)
      → (i : ℕ) → i < n → bucket_of (value i) < place + 1 → IsLeader value i (number_at after i)
  led_further before after old here others i low reached = elim (cases_eq (bucket_of (value i)) place) [
    | inl same ↦ here i low same
    | inr differs ↦
        subst (IsLeader value i) (sym (others i (not_a_row bucket_of value n place rows values is i differs)))
        (old i low (omega (arith, reached, differs)))
  ]
