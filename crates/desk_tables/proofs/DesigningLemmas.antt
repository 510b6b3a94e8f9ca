-- The files of tables as those of a design: members of lists at positions, lists that are grouped, and tables with
-- keys.
use Rattle.std.proofs.Common.{◌≡◌, ℕ, ◌+◌, ◌<◌, ◌==◌, zero, suc, Bool, true, false, List, [], ◌∷◌, ◌++◌, length, map, take, drop, get_or, Option, Some, None, Result, Ok, Err, refl, sym, ap, subst, ◌∙◌, arith}
use Rattle.std.specs.Prelude.{All, IfOk, if◌then◌else◌, slice_get}
use Rattle.std.specs.List.{AllZip}
use Rattle.std.proofs.lemmas.List.{get_or-map, length-map, take_more}
use Rattle.std.proofs.lemmas.List.Concat.{flat_map-append}
use Rattle.std.proofs.lemmas.List.Elements.{All-append, All-cons, All-head, All-nil, All-tail}
use Rattle.std.proofs.lemmas.Option.{get_or_from_slice_get, same_Some, slice_get-get_or, slice_get_within}
use Rattle.attr_sets.specs.Attributes.{Attributes}
use Rattle.attr_sets.specs.Sets.{attributes}
use Rattle.attr_sets.specs.declared.set.AttrSet.{AttrSet}
use Rattle.dep_model.specs.Plans.{schemes_of}
use Rattle.design_order.specs.Order.{grouped_below, with_number}
use Rattle.optional_tables.specs.LookUps.{schemes_of_tables}
use Rattle.optional_tables.specs.Order.{if_there, members_at, positions_from}
use Rattle.optional_tables.specs.declared.keyed.KeyedScheme.{KeyedScheme}
use Rattle.optional_tables.proofs.PositionLemmas.{members_first, positions_within}
use Rattle.schema_model.specs.Schemas.{Schema}
use Rattle.table_join.specs.Tables.{PartialRelation, plan_of_tables}
use Rattle.desk_tables.specs.Rejoining.{IsKeyedTable}
use Rattle.desk_tables.specs.Tidiness.{HasPrimaryKey}

-- ---- members at positions
-- the member at a position that is there
pub some_at : {X : Type 0} (xs : List X) (k : ℕ) → k < length xs → (x : X) × (slice_get xs k ≡ Some x)
some_at [] k low = absurd (omega (arith, low))
some_at (x ∷ xs) zero low = (x, refl)
some_at (x ∷ xs) (suc k) low = some_at xs k (omega (arith, low))

-- one position more
pub members_more : {X : Type 0} (xs : List X) (positions : List ℕ) (i d : ℕ) (e : X) → i < length positions
    → get_or positions i d < length xs
    → members_at xs (take (i + 1) positions) ≡ members_at xs (take i positions) ++ get_or xs (get_or positions i d) e ∷ []
members_more {X} xs positions i d e low within =
    ap (members_at xs) (take_more positions i d low)
    ∙ flat_map-append (λ (k : ℕ). if_there (slice_get xs k)) (take i positions) (get_or positions i d ∷ [])
    ∙ ap (λ (o : Option X). members_at xs (take i positions) ++ (if_there o ++ [])) (slice_get-get_or xs (get_or positions i d) e within)

pub length-members : {X : Type 0} (xs : List X) (positions : List ℕ) → All (λ (k : ℕ). k < length xs) positions
    → length (members_at xs positions) ≡ length positions
length-members xs [] within = refl
length-members {X} xs (k ∷ ks) within =
    let found = some_at xs k (All-head (λ (i : ℕ). i < length xs) k ks within) in
    ap length (members_first xs ks k found.0 found.1)
    ∙ ap (λ (m : ℕ). suc m) (length-members xs ks (All-tail (λ (i : ℕ). i < length xs) k ks within))

pub all_members : {X : Type 0} (P : X → Type 0) (xs : List X) (positions : List ℕ) → All P xs → All P (members_at xs positions)
all_members P xs [] all = All-nil P
all_members {X} P xs (k ∷ ks) all = by (slice_get xs k) refl (all_members P xs ks all)
  where
    by : (o : Option X) → slice_get xs k ≡ o → All P (members_at xs ks) → All P (if_there o ++ members_at xs ks)
    by None is later = later
    by (Some x) is later =
        All-cons P x (members_at xs ks)
        (subst P (get_or_from_slice_get xs k x x is) (all k x (slice_get_within xs k x is))) later

-- the member of members
member_of_members : {X : Type 0} (xs : List X) (order : List ℕ) (p : ℕ) → All (λ (k : ℕ). k < length xs) order
    → (k : ℕ) → slice_get order p ≡ Some k → slice_get (members_at xs order) p ≡ slice_get xs k
member_of_members xs [] p within k is = absurd (cc is)
member_of_members {X} xs (j ∷ js) zero within k is =
    let found = some_at xs j (All-head (λ (i : ℕ). i < length xs) j js within) in
    ap (λ (l : List X). slice_get l 0) (members_first xs js j found.0 found.1)
    ∙ sym found.1 ∙ ap (slice_get xs) (same_Some j k is)
member_of_members {X} xs (j ∷ js) (suc p) within k is =
    let found = some_at xs j (All-head (λ (i : ℕ). i < length xs) j js within) in
    ap (λ (l : List X). slice_get l (suc p)) (members_first xs js j found.0 found.1)
    ∙ member_of_members xs js p (All-tail (λ (i : ℕ). i < length xs) j js within) k is

pub members_of_members : {X : Type 0} (xs : List X) (order looked_up : List ℕ) → All (λ (k : ℕ). k < length xs) order
    → All (λ (p : ℕ). p < length order) looked_up
    → members_at xs (members_at order looked_up) ≡ members_at (members_at xs order) looked_up
members_of_members xs order [] within low = refl
members_of_members {X} xs order (p ∷ ps) within low =
    let found = some_at order p (All-head (λ (i : ℕ). i < length order) p ps low) in
    ap (members_at xs) (members_first order ps p found.0 found.1)
    ∙ ap (λ (o : Option X). if_there o ++ members_at xs (members_at order ps)) (sym (member_of_members xs order p within found.0 found.1))
    ∙ ap (λ (l : List X). if_there (slice_get (members_at xs order) p) ++ l)
    (members_of_members xs order ps within (All-tail (λ (i : ℕ). i < length order) p ps low))

-- ---- grouped lists
all_with : {X : Type 0} (P : X → Type 0) (number : ℕ) (xs : List X) (ms : List ℕ) → All P xs → All P (with_number number xs ms)
all_with P number [] ms all = All-nil P
all_with P number (x ∷ xs) [] all = All-nil P
all_with {X} P number (x ∷ xs) (m ∷ ms) all = by (m == number) (all_with P number xs ms (All-tail P x xs all))
  where
    by : (b : Bool) → All P (with_number number xs ms) → All P (if b then x ∷ with_number number xs ms else with_number number xs ms)
    by true later = All-cons P x (with_number number xs ms) (All-head P x xs all) later
    by false later = later

pub all_grouped : {X : Type 0} (P : X → Type 0) (number : ℕ) (xs : List X) (ms : List ℕ) → All P xs → All P (grouped_below number xs ms)
all_grouped P zero xs ms all = All-nil P
all_grouped P (suc number) xs ms all =
    All-append P (grouped_below number xs ms) (with_number number xs ms) (all_grouped P number xs ms all) (all_with P number xs ms all)

members_with : {X : Type 0} (number : ℕ) (whole xs : List X) (ms : List ℕ) (i : ℕ) → ((j : ℕ) → slice_get whole (i + j) ≡ slice_get xs j)
    → length xs ≡ length ms
    → members_at whole (with_number number (positions_from (λ (m : ℕ). true) i ms) ms) ≡ with_number number xs ms
members_with number whole [] [] i there long = refl
members_with number whole [] (m ∷ ms) i there long = absurd (omega (arith, long))
members_with number whole (x ∷ xs) [] i there long = absurd (omega (arith, long))
members_with {X} number whole (x ∷ xs) (m ∷ ms) i there long =
    by (m == number) (members_with number whole xs ms (i + 1)
    (λ j. let next : i + 1 + j ≡ i + suc j = omega arith in ap (slice_get whole) next ∙ there (suc j)) (omega (arith, long)))
  where
    here : slice_get whole i ≡ Some x
    here = let first : i ≡ i + 0 = omega arith in ap (slice_get whole) first ∙ there 0

    by : (b : Bool) → members_at whole (with_number number (positions_from (λ (k : ℕ). true) (i + 1) ms) ms) ≡ with_number number xs ms
        → members_at whole (if b then i ∷ with_number number (positions_from (λ (k : ℕ). true) (i + 1) ms) ms
        else with_number number (positions_from (λ (k : ℕ). true) (i + 1) ms) ms)
        ≡ (if b then x ∷ with_number number xs ms else with_number number xs ms)
    by true later =
        members_first whole (with_number number (positions_from (λ (k : ℕ). true) (i + 1) ms) ms) i x here ∙ ap (λ (l : List X). x ∷ l) later
    by false later = later

-- the members at grouped positions are the grouped members
pub members_grouped : {X : Type 0} (number : ℕ) (xs : List X) (ms : List ℕ) → length xs ≡ length ms
    → members_at xs (grouped_below number (positions_from (λ (m : ℕ). true) 0 ms) ms) ≡ grouped_below number xs ms
members_grouped zero xs ms long = refl
members_grouped {X} (suc number) xs ms long =
    let positions = positions_from (λ (m : ℕ). true) 0 ms in
    flat_map-append (λ (k : ℕ). if_there (slice_get xs k)) (grouped_below number positions ms) (with_number number positions ms)
    ∙ ap (λ (l : List X). l ++ members_at xs (with_number number positions ms)) (members_grouped number xs ms long)
    ∙ ap (λ (l : List X). grouped_below number xs ms ++ l)
    (members_with number xs xs ms 0 (λ j. let same : 0 + j ≡ j = omega arith in ap (slice_get xs) same) long)

pub positions_low : (number : ℕ) (ms : List ℕ)
    → All (λ (k : ℕ). k < length ms) (grouped_below number (positions_from (λ (m : ℕ). true) 0 ms) ms)
positions_low number ms =
    all_grouped (λ (k : ℕ). k < length ms) number (positions_from (λ (m : ℕ). true) 0 ms) ms (positions_within (λ (m : ℕ). true) ms)

-- every position, in order
length-positions : (i : ℕ) (ms : List ℕ) → length (positions_from (λ (m : ℕ). true) i ms) ≡ length ms
length-positions i [] = refl
length-positions i (m ∷ ms) = ap (λ (k : ℕ). suc k) (length-positions (i + 1) ms)

pub as_many_positions : (ms : List ℕ) → length ms ≡ length (positions_from (λ (m : ℕ). true) 0 ms)
as_many_positions ms = sym (length-positions 0 ms)

position_from : (i : ℕ) (ms : List ℕ) (k d : ℕ) → k < length ms → get_or (positions_from (λ (m : ℕ). true) i ms) k d ≡ i + k
position_from i [] k d low = absurd (omega (arith, low))
position_from i (m ∷ ms) zero d low = let same : i ≡ i + 0 = omega arith in same
position_from i (m ∷ ms) (suc k) d low =
    let same : i + 1 + k ≡ i + suc k = omega arith in position_from (i + 1) ms k d (omega (arith, low)) ∙ same

pub position_at : (ms : List ℕ) (k d : ℕ) → k < length ms → get_or (positions_from (λ (m : ℕ). true) 0 ms) k d ≡ k
position_at ms k d low = let same : 0 + k ≡ k = omega arith in position_from 0 ms k d low ∙ same

-- ---- tables with keys
pub schemes_twice : (design : List KeyedScheme) → schemes_of_tables design ≡ schemes_of (map (λ t. t.scheme) design)
schemes_twice [] = refl
schemes_twice (t ∷ ts) = ap (λ (l : List Attributes). attributes t.scheme ∷ l) (schemes_twice ts)

-- the schemes of a design are those of which it is made
pub keyed_plan : (sets listed : List AttrSet) (design : List KeyedScheme) → listed ≡ sets → map (λ (t : KeyedScheme). t.scheme) design ≡ listed
    → schemes_of_tables design ≡ schemes_of sets
keyed_plan sets listed design same is = schemes_twice design ∙ ap schemes_of (is ∙ same)

-- two facts of what is answered
pub both_ok : {X E : Type 0} (r : Result X E) (P Q S : X → Type 0) → ((x : X) → P x → Q x → S x) → IfOk r P → IfOk r Q → IfOk r S
both_ok (Ok x) P Q S gives p q = gives x p q
both_ok (Err e) P Q S gives p q = tt

pub all_unmapped : {X Y : Type 0} (P : Y → Type 0) (f : X → Y) (xs : List X) → All P (map f xs) → All (λ (x : X). P (f x)) xs
all_unmapped P f xs all k d l =
    subst P (get_or-map f xs k d (f d) l) (all k (f d) (omega (arith, l, length-map xs f)))

-- the same beside tables, of their schemes
pub schemes_zip : (R : Attributes → ℕ → Type 0) (tables : List KeyedScheme) (counts : List ℕ)
    → AllZip (λ (scheme : AttrSet). R (attributes scheme)) (map (λ t. t.scheme) tables) counts → AllZip R (schemes_of_tables tables) counts
schemes_zip R [] [] h = tt
schemes_zip R [] (k ∷ ks) h = absurd h
schemes_zip R (t ∷ ts) [] h = absurd h
schemes_zip R (t ∷ ts) (k ∷ ks) h = (h.0, schemes_zip R ts ks h.1)

pub length-zip : {X Y : Type 0} (R : X → Y → Type 0) (xs : List X) (ys : List Y) → AllZip R xs ys → length xs ≡ length ys
length-zip R [] [] h = refl
length-zip R [] (y ∷ ys) h = absurd h
length-zip R (x ∷ xs) [] h = absurd h
length-zip R (x ∷ xs) (y ∷ ys) h = ap (λ (m : ℕ). suc m) (length-zip R xs ys h.1)

head_same : {X : Type 0} (x y : X) (xs ys : List X) → x ∷ xs ≡ y ∷ ys → x ≡ y
head_same x y xs ys e = ap (λ (l : List _). get_or l 0 x) e

tail_same : {X : Type 0} (x y : X) (xs ys : List X) → x ∷ xs ≡ y ∷ ys → xs ≡ ys
tail_same x y xs ys e = ap (λ (l : List _). drop 1 l) e

-- tables and keyed schemes that are theirs
pub keyed_tables : (s : Schema) (tables : List PartialRelation) (keyed : List KeyedScheme)
    → schemes_of_tables keyed ≡ plan_of_tables tables → All (HasPrimaryKey s) keyed → AllZip (IsKeyedTable s) tables keyed
keyed_tables s [] [] same keys = tt
keyed_tables s [] (k ∷ ks) same keys = absurd (cc same)
keyed_tables s (t ∷ ts) [] same keys = absurd (cc same)
keyed_tables s (t ∷ ts) (k ∷ ks) same keys = (
  record {
    scheme = head_same (attributes k.scheme) t.scheme (schemes_of_tables ks) (plan_of_tables ts) same;
    key = All-head (HasPrimaryKey s) k ks keys;
  },
  keyed_tables s ts ks (tail_same (attributes k.scheme) t.scheme (schemes_of_tables ks) (plan_of_tables ts) same) (All-tail (HasPrimaryKey s) k ks keys),
)
