-- The rows that stay among the first ones, one after the other.
use Rattle.std.proofs.Common.{◌≡◌, ◌+◌, ◌<◌, ℕ, Bool, true, false, List, [], ◌∷◌, ◌++◌, length, take, refl, sym, ap, subst, ◌∙◌, append-nil, arith}
use Rattle.std.proofs.lemmas.Grind.{flat_map-append}
use Rattle.std.proofs.lemmas.List.{append_assoc, length-take-le}
use Rattle.std.proofs.lemmas.Option.{slice_get-get_or}
use Rattle.std.specs.List.{flat_map}
use Rattle.dep_model.proofs.ListLemmas.{take_next}
use Rattle.csv_text.specs.Rows.{csv_row, rows_text}
use Rattle.row_store.specs.Rows.{row_at}
use Rattle.std.specs.Prelude.{if◌then◌else◌}
use Rattle.dep_model.specs.Tuples.{Tuple, Relation}
use Rattle.removal_laws.specs.Removals.{Positions, rows_at, rows_from}

-- a row in front, or not
in_front : (b : Bool) (u : Tuple) (xs ys zs : Relation) → xs ≡ ys ++ zs
    → (if b then u ∷ xs else xs) ≡ (if b then u ∷ ys else ys) ++ zs
in_front true u xs ys zs e = ap (λ (r : Relation). u ∷ r) e
in_front false u xs ys zs e = e

-- one row more, at the end
after_all : (i : ℕ) (stays : Positions) (r : Relation) (t : Tuple)
    → rows_from i stays (r ++ t ∷ []) ≡ rows_from i stays r ++ (if stays (i + length r) then t ∷ [] else [])
unfolding rows_from
after_all i stays [] t =
    let at : i ≡ i + 0 = omega arith in
    subst (λ (n : ℕ). rows_from i stays (t ∷ []) ≡ (if stays n then t ∷ [] else [])) at refl
after_all i stays (u ∷ r) t =
    let at : i + 1 + length r ≡ i + length (u ∷ r) = omega arith in
    subst (λ (n : ℕ). rows_from i stays (u ∷ r ++ t ∷ []) ≡ rows_from i stays (u ∷ r) ++ (if stays n then t ∷ [] else [])) at
    (in_front (stays i) u _ _ _ (after_all (i + 1) stays r t))

pub row_next : (stays : Positions) (r : Relation) (t : Tuple)
    → rows_at stays (r ++ t ∷ []) ≡ rows_at stays r ++ (if stays (length r) then t ∷ [] else [])
row_next stays r t =
    let at : 0 + length r ≡ length r = omega arith in
    subst (λ (n : ℕ). rows_at stays (r ++ t ∷ []) ≡ rows_at stays r ++ (if stays n then t ∷ [] else [])) at
    (after_all 0 stays r t)

-- ---- the text of the rows that stay
no_rows : (stays : Positions) → rows_at stays [] ≡ []
unfolding rows_from
no_rows stays = refl

pub no_rows_text : (names : Tuple) (stays : Positions) (rows : Relation)
    → csv_row names ≡ rows_text names (rows_at stays (take 0 rows))
no_rows_text names stays rows =
    sym (append-nil (csv_row names)) ∙ ap (rows_text names) (sym (no_rows stays))

text_of_one : (b : Bool) (t : Tuple) → flat_map csv_row (if b then t ∷ [] else []) ≡ (if b then csv_row t else [])
text_of_one true t = append-nil (csv_row t)
text_of_one false t = refl

more_text : (names : Tuple) (one other : Relation) → rows_text names (one ++ other) ≡ rows_text names one ++ flat_map csv_row other
more_text names one other =
    ap (λ (l : List ℕ). csv_row names ++ l) (flat_map-append csv_row one other)
    ∙ sym (append_assoc (csv_row names) (flat_map csv_row one) (flat_map csv_row other))

pub text_next : (names : Tuple) (stays : Positions) (rows : Relation) (i : ℕ) → i < length rows
    → rows_text names (rows_at stays (take (i + 1) rows))
    ≡ rows_text names (rows_at stays (take i rows)) ++ (if stays i then csv_row (row_at rows i) else [])
text_next names stays rows i low =
    let t = row_at rows i in
    let short : length (take i rows) ≡ i = length-take-le i rows (omega (arith, low)) in
    ap (λ (r : Relation). rows_text names (rows_at stays r)) (take_next rows i t (slice_get-get_or rows i [] low))
    ∙ ap (rows_text names) (row_next stays (take i rows) t)
    ∙ more_text names (rows_at stays (take i rows)) (if stays (length (take i rows)) then t ∷ [] else [])
    ∙ ap (λ (l : List ℕ). rows_text names (rows_at stays (take i rows)) ++ l) (text_of_one (stays (length (take i rows))) t)
    ∙ ap (λ (n : ℕ). rows_text names (rows_at stays (take i rows)) ++ (if stays n then csv_row t else [])) short

pub ruleset text_steps = (no_rows_text, text_next)
