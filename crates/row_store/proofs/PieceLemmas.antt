-- Lists that lie one after another in one list: how many they are, each of them, and more of them.
use Rattle.std.proofs.Common.{arith, ◌≡◌, ℕ, ◌+◌, ◌-◌, ◌<◌, ◌≤◌, List, [], ◌∷◌, ◌++◌, All, length, map, take, drop, get_or, suc, zero, ap, sym, subst, refl, ◌∙◌}
use Rattle.std.proofs.Math.Seq.{drop-append-add}
use Rattle.std.proofs.lemmas.List.{length-append, length-drop, length-take, take-append-le, drop-append-le, take_all, get_or-take, get_or-drop, get_or_default}
use Rattle.row_store.specs.Pieces.{pieces, AreEnds}

pub length_pieces : {X : Type 0} (from : ℕ) (items : List X) (ends : List ℕ) → length (pieces from items ends) ≡ length ends
length_pieces from items [] = refl
length_pieces from items (end ∷ ends) = omega (arith, length_pieces end items ends)

pub piece_at : {X : Type 0} (from : ℕ) (items : List X) (ends : List ℕ) (i : ℕ) → i < length ends
    → get_or (pieces from items ends) i [] ≡ take (get_or ends i 0 - get_or (from ∷ ends) i 0) (drop (get_or (from ∷ ends) i 0) items)
piece_at from items [] i within = absurd (omega arith)
piece_at from items (end ∷ ends) zero within = refl
piece_at from items (end ∷ ends) (suc i) within = piece_at end items ends i (omega arith)

-- the last end is the count
pub start_within : (from count : ℕ) (ends : List ℕ) → AreEnds from count ends → from ≤ count
start_within from count [] is = omega (arith, is)
start_within from count (end ∷ ends) is = omega (arith, is.0, start_within end count ends is.1)

pub ends_at : (from count : ℕ) (ends : List ℕ) (i : ℕ) → AreEnds from count ends → i < length ends
    → (get_or (from ∷ ends) i 0 ≤ get_or ends i 0) × (get_or ends i 0 ≤ count)
ends_at from count [] i is within = absurd (omega arith)
ends_at from count (end ∷ ends) zero is within = (is.0, start_within end count ends is.1)
ends_at from count (end ∷ ends) (suc i) is within = ends_at end count ends i is.1 (omega arith)

-- each end is at most the count
pub all_ends : (start count most : ℕ) (ends : List ℕ) → AreEnds 0 count ends → start + count ≤ most → All (λ end. start + end < most + 1) ends
all_ends start count most ends is within_most = λ k d within.
    let default : get_or ends k d ≡ get_or ends k 0 = get_or_default ends k d 0 within in
    omega (arith, default, (ends_at 0 count ends k is within).1)

shifted_ends : (from count start : ℕ) (ends : List ℕ) → AreEnds from count ends → AreEnds (start + from) (start + count) (map (λ end. start + end) ends)
shifted_ends from count start [] is = ap (λ n. start + n) is
shifted_ends from count start (end ∷ ends) is = (omega (arith, is.0), shifted_ends end count start ends is.1)

pub more_ends : (from count n : ℕ) (ends more : List ℕ) → AreEnds from count ends → AreEnds 0 n more
    → AreEnds from (count + n) (ends ++ map (λ end. count + end) more)
more_ends from count n [] more is ones =
    subst (λ start. AreEnds start (count + n) (map (λ end. count + end) more)) (sym is)
    (subst (λ start. AreEnds start (count + n) (map (λ end. count + end) more)) (omega arith) (shifted_ends 0 n count more ones))
more_ends from count n (end ∷ ends) more is ones = (is.0, more_ends end count n ends more is.1 ones)

shifted_pieces : {X : Type 0} (from : ℕ) (xs ys : List X) (ends : List ℕ)
    → pieces (length xs + from) (xs ++ ys) (map (λ end. length xs + end) ends) ≡ pieces from ys ends
shifted_pieces from xs ys [] = refl
shifted_pieces from xs ys (end ∷ ends) =
    let size : length xs + end - (length xs + from) ≡ end - from = omega arith in
    rw (size, drop-append-add xs ys from, shifted_pieces end xs ys ends) refl

kept_piece : {X : Type 0} (from end : ℕ) (xs ys : List X) → from ≤ length xs → end ≤ length xs
    → take (end - from) (drop from (xs ++ ys)) ≡ take (end - from) (drop from xs)
kept_piece from end xs ys start within =
    ap (take (end - from)) (drop-append-le from xs ys start)
    ∙ take-append-le (end - from) (drop from xs) ys (omega (arith, length-drop from xs))

-- more pieces behind the last one
pub more_pieces : {X : Type 0} (from : ℕ) (xs ys : List X) (ends more : List ℕ) → AreEnds from (length xs) ends
    → pieces from (xs ++ ys) (ends ++ map (λ end. length xs + end) more) ≡ pieces from xs ends ++ pieces 0 ys more
more_pieces from xs ys [] more is =
    let start : from ≡ length xs + 0 = omega (arith, is) in
    ap (λ start. pieces start (xs ++ ys) (map (λ end. length xs + end) more)) start ∙ shifted_pieces 0 xs ys more
more_pieces from xs ys (end ∷ ends) more is =
    let start : from ≤ length xs = omega (arith, is.0, start_within end (length xs) ends is.1) in
    rw (kept_piece from end xs ys start (start_within end (length xs) ends is.1), more_pieces end xs ys ends more is.1) refl

one_piece : {X : Type 0} (ys : List X) → pieces 0 ys (length ys ∷ []) ≡ ys ∷ []
one_piece ys = ap (λ y. y ∷ []) (take_all (length ys - 0) ys (omega arith))

-- the ends and the pieces after others were added
pub appended_ends : {X : Type 0} (xs ys zs : List X) (ends more all : List ℕ) (count : ℕ)
    → AreEnds 0 (length xs) ends → AreEnds 0 (length ys) more
    → zs ≡ xs ++ ys → count ≡ length xs → all ≡ ends ++ map (λ end. count + end) more → AreEnds 0 (length zs) all
appended_ends xs ys zs ends more all count is ones is_zs is_count is_all =
    rw (is_zs, is_all, is_count, length-append xs ys) (more_ends 0 (length xs) (length ys) ends more is ones)

pub appended_pieces : {X : Type 0} (xs ys zs : List X) (ends more all : List ℕ) (count : ℕ)
    → AreEnds 0 (length xs) ends
    → zs ≡ xs ++ ys → count ≡ length xs → all ≡ ends ++ map (λ end. count + end) more
    → pieces 0 zs all ≡ pieces 0 xs ends ++ pieces 0 ys more
appended_pieces xs ys zs ends more all count is is_zs is_count is_all =
    rw (is_zs, is_all, is_count) (more_pieces 0 xs ys ends more is)

-- the same where one piece was added
pub pushed_ends : {X : Type 0} (xs ys zs : List X) (ends all : List ℕ) (end : ℕ)
    → AreEnds 0 (length xs) ends → zs ≡ xs ++ ys → end ≡ length xs + length ys → all ≡ ends ++ end ∷ []
    → AreEnds 0 (length zs) all
pushed_ends xs ys zs ends all end is is_zs is_end is_all =
    rw (is_zs, is_all, is_end, length-append xs ys) (more_ends 0 (length xs) (length ys) ends (length ys ∷ []) is (omega arith, refl))

pub pushed_pieces : {X : Type 0} (xs ys zs : List X) (ends all : List ℕ) (end : ℕ)
    → AreEnds 0 (length xs) ends → zs ≡ xs ++ ys → end ≡ length xs + length ys → all ≡ ends ++ end ∷ []
    → pieces 0 zs all ≡ pieces 0 xs ends ++ ys ∷ []
pushed_pieces xs ys zs ends all end is is_zs is_end is_all =
    rw (is_zs, is_all, is_end) (more_pieces 0 xs ys ends (length ys ∷ []) is ∙ ap (λ more. pieces 0 xs ends ++ more) (one_piece ys))

-- where a piece starts and ends
pub record IsPiece {X : Type 0} (items : List X) (ends : List ℕ) (pieces_are : List (List X)) (i start end : ℕ) : Type 0 where
  pub ordered : start ≤ end
  pub within : end ≤ length items
  pub value : take (end - start) (drop start items) ≡ get_or pieces_are i []

pub piece_between : {X : Type 0} (items : List X) (ends : List ℕ) (all : List (List X)) (i start end : ℕ)
    → AreEnds 0 (length items) ends → pieces 0 items ends ≡ all → i < length all
    → start ≡ get_or (0 ∷ ends) i 0 → end ≡ get_or ends i end → IsPiece items ends all i start end
piece_between {X} items ends all i start end is are within is_start is_end =
    let inside : i < length ends = omega (arith, within, ap length are, length_pieces 0 items ends) in
    let last : end ≡ get_or ends i 0 = is_end ∙ get_or_default ends i end 0 inside in
    let both = ends_at 0 (length items) ends i is inside in
    record {
      ordered = rw (is_start, last) both.0;
      within = rw last both.1;
      value = rw (is_start, last) (sym (piece_at 0 items ends i inside) ∙ ap (λ (p : List (List X)). get_or p i []) are);
    }

pub size_of_piece : {X : Type 0} (items : List X) (start end : ℕ) → end ≤ length items
    → length (take (end - start) (drop start items)) ≡ end - start
size_of_piece items start end within = omega (arith, length-take (end - start) (drop start items), length-drop start items)

-- an item of a piece stands so many positions behind its start
pub record IsItem {X : Type 0} (items : List X) (all : List (List X)) (i start position : ℕ) : Type 0 where
  pub within : start + position < length items
  pub value : (d : X) → get_or items (start + position) d ≡ get_or (get_or all i []) position d

pub item_at : {X : Type 0} (items : List X) (ends : List ℕ) (all : List (List X)) (i start position : ℕ)
    → AreEnds 0 (length items) ends → pieces 0 items ends ≡ all → i < length all → position < length (get_or all i [])
    → start ≡ get_or (0 ∷ ends) i 0 → IsItem items all i start position
item_at {X} items ends all i start position is are within inside is_start =
    let last : i < length ends = omega (arith, within, ap length are, length_pieces 0 items ends) in
    let here = piece_between items ends all i start (get_or ends i 0) is are within is_start (get_or_default ends i 0 (get_or ends i 0) last) in
    let size = size_of_piece items start (get_or ends i 0) here.within in
    let count : position < get_or ends i 0 - start = omega (arith, size, ap length here.value, inside) in
    record {
      within = omega (arith, count, here.ordered, here.within);
      value = λ d.
          sym (ap (λ (p : List X). get_or p position d) (sym here.value)
          ∙ get_or-take (get_or ends i 0 - start) (drop start items) position d count ∙ get_or-drop start items position d);
    }
