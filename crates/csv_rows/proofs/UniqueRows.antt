-- A text has one list of rows for a schema, or one refusal.
use Rattle.std.proofs.Common.{inl, inr, ◌≡◌, ◌+◌, ◌<◌, ◌≤◌, ◌⊎◌, ℕ, Bool, true, false, Option, List, [], ◌∷◌, length, Result, Ok, Err, slice_index_or, refl, sym, ap, subst, ◌∙◌, arith}
use Rattle.std.proofs.lemmas.Bool.{cases_lt, true≢false}
use Rattle.std.proofs.lemmas.List.{ext_get_or}
use Rattle.attr_sets.specs.Attributes.{IsSubset, below, difference, IsFirstFrom}
use Rattle.schema_model.specs.Schemas.{names_of, width_of}
use Rattle.dep_model.specs.Tuples.{Tuple, Relation}
use Rattle.schema_model.specs.Schemas.{Schema}
use Rattle.csv_rows.specs.Columns.{with_columns, columns_of_header, IsHeaderOf}
use Rattle.csv_rows.specs.Quotes.{is_open}
use Rattle.csv_rows.specs.Reading.{ClosedRowOf, RowOf, HeaderOf, AreFirstRows, RowsUnder, TableOf}
use Rattle.csv_rows.specs.declared.reading.TheConstants.{MOST_ROWS}
use Rattle.csv_rows.specs.declared.refusal.RowRefusal.{RowRefusal}
use Rattle.csv_rows.specs.declared.refusal.RowRefusal.TheVariants as refusal

at_most_not_beyond : (row : ℕ) → row ≤ MOST_ROWS → MOST_ROWS < row → ⊥
at_most_not_beyond row within beyond = omega (arith, within, beyond)

same_place : (r u k l : ℕ) → r ≡ u → k ≡ l → ◌≡◌ {A = Result Tuple RowRefusal} (Err (refusal.NotOfType r k))
    (Err (refusal.NotOfType u l))
same_place r u k l e f =
    ap (λ (m : ℕ). Err (refusal.NotOfType m k)) e ∙ ap (λ (m : ℕ). Err (refusal.NotOfType u m)) f

-- what a record can give: a tuple, or one of three refusals
abbrev SeenRow : Schema → List ℕ → ℕ → List (List ℕ) → Result Tuple RowRefusal → Type 0
SeenRow s columns row fields r =
    let gives : Result Tuple RowRefusal → Type 0 = λ given. (r ≡ given) × ClosedRowOf s columns row fields given in
    ((t : Tuple) × gives (Ok t)) ⊎ ((u : ℕ) × gives (Err (refusal.UnevenRow u))) ⊎ gives (Err refusal.TooManyRows)
    ⊎ ((u : ℕ) × (a : ℕ) × gives (Err (refusal.NotOfType u a)))

seen_row : (s : Schema) (columns : List ℕ) (row : ℕ) (fields : List (List ℕ)) (r : Result Tuple RowRefusal)
    → ClosedRowOf s columns row fields r → SeenRow s columns row fields r
seen_row s columns row fields (Ok t) h = inl (t, (refl, h))
seen_row s columns row fields (Err (refusal.UnevenRow u)) h = inr (inl (u, (refl, h)))
seen_row s columns row fields (Err refusal.TooManyRows) h = inr (inr (inl (refl, h)))
seen_row s columns row fields (Err (refusal.NotOfType u a)) h = inr (inr (inr (u, a, (refl, h))))
seen_row s columns row fields (Err refusal.NoHeader) h = absurd h
seen_row s columns row fields (Err (refusal.UnknownColumn c)) h = absurd h
seen_row s columns row fields (Err (refusal.DoubleColumn c)) h = absurd h
seen_row s columns row fields (Err (refusal.MissingColumn a)) h = absurd h
seen_row s columns row fields (Err refusal.OpenHeader) h = absurd h
seen_row s columns row fields (Err (refusal.OpenRow r)) h = absurd h

-- a record whose quotes are closed gives one tuple or one refusal
closed_row_same : (s : Schema) (columns : List ℕ) (row : ℕ) (fields : List (List ℕ)) (one other : Result Tuple RowRefusal)
    → ClosedRowOf s columns row fields one → ClosedRowOf s columns row fields other → one ≡ other
closed_row_same s columns row fields one other p q = by (seen_row s columns row fields one p) (seen_row s columns row fields other q)
  where
    by : SeenRow s columns row fields one → SeenRow s columns row fields other → one ≡ other
    by (inl (t, (e, p))) (inl (w, (f, q))) = e ∙ ap Ok (p.1 ∙ sym q.1) ∙ sym f
    by (inl (t, (e, p))) (inr (inl (u, (f, q)))) = absurd (q.1 p.0.0)
    by (inl (t, (e, p))) (inr (inr (inl (f, q)))) = absurd (at_most_not_beyond row p.0.1 q.1)
    by (inl (t, (e, p))) (inr (inr (inr (u, l, (f, q))))) = absurd (q.3 (p.2 l q.2))
    by (inr (inl (r, (e, p)))) (inl (w, (f, q))) = absurd (p.1 q.0.0)
    by (inr (inl (r, (e, p)))) (inr (inl (u, (f, q)))) =
        e ∙ ap (λ (m : ℕ). Err (refusal.UnevenRow m)) (p.0 ∙ sym q.0) ∙ sym f
    by (inr (inl (r, (e, p)))) (inr (inr (inl (f, q)))) = absurd (p.1 q.0)
    by (inr (inl (r, (e, p)))) (inr (inr (inr (u, l, (f, q))))) = absurd (p.1 q.0.0)
    by (inr (inr (inl (e, p)))) (inl (w, (f, q))) = absurd (at_most_not_beyond row q.0.1 p.1)
    by (inr (inr (inl (e, p)))) (inr (inl (u, (f, q)))) = absurd (q.1 p.0)
    by (inr (inr (inl (e, p)))) (inr (inr (inl (f, q)))) = e ∙ sym f
    by (inr (inr (inl (e, p)))) (inr (inr (inr (u, l, (f, q))))) = absurd (at_most_not_beyond row q.0.1 p.1)
    by (inr (inr (inr (r, k, (e, p))))) (inl (w, (f, q))) = absurd (p.3 (q.2 k p.2))
    by (inr (inr (inr (r, k, (e, p))))) (inr (inl (u, (f, q)))) = absurd (q.1 p.0.0)
    by (inr (inr (inr (r, k, (e, p))))) (inr (inr (inl (f, q)))) = absurd (at_most_not_beyond row p.0.1 q.1)
    by (inr (inr (inr (r, k, (e, p))))) (inr (inr (inr (u, l, (f, q))))) = elim (cases_lt k l) [
      | inl before ↦ absurd (p.3 (q.4 k before p.2))
      | inr on ↦ elim (cases_lt l k) [
        | inl before ↦ absurd (q.3 (p.4 l before q.2))
        | inr here ↦ e ∙ same_place r u k l (p.1 ∙ sym q.1) (omega (arith, on, here)) ∙ sym f
      ]
    ]

-- a record gives one tuple or one refusal
row_same : (s : Schema) (columns : List ℕ) (b : Bool) (row : ℕ) (fields : List (List ℕ)) (one other : Result Tuple RowRefusal)
    → RowOf s columns b row fields one → RowOf s columns b row fields other → one ≡ other
row_same s columns true row fields one other p q = p ∙ sym q
row_same s columns false row fields one other p q = closed_row_same s columns row fields one other p q

not_both : (t : Tuple) (e : RowRefusal) → ◌≡◌ {A = Result Tuple RowRefusal} (Ok t) (Err e) → ⊥
not_both t e same = cc

refusal_same : (e f : RowRefusal) → ◌≡◌ {A = Result Tuple RowRefusal} (Err e) (Err f) → e ≡ f
refusal_same e f same = cc

tuple_same : (t u : Tuple) → ◌≡◌ {A = Result Tuple RowRefusal} (Ok t) (Ok u) → t ≡ u
tuple_same t u same = cc

-- the first records give one list of tuples of each length
rows_same : (s : Schema) (columns : List ℕ) (unclosed : Option ℕ) (records : List (List (List ℕ))) (one other : Relation)
    → AreFirstRows s columns unclosed records one → AreFirstRows s columns unclosed records other → length one ≡ length other
    → one ≡ other
rows_same s columns unclosed records one other p q size =
    ext_get_or [] one other size
    (λ i l. tuple_same _ _ (row_same s columns (is_open unclosed (i + 2)) (i + 1) (slice_index_or records i []) _ _ (p.each i l) (q.each i (omega (arith, l, size)))))

-- what the records under a header give
under_same : (s : Schema) (columns : Result (List ℕ) RowRefusal) (unclosed : Option ℕ) (records : List (List (List ℕ)))
    (one other : Result Relation RowRefusal)
    → RowsUnder s columns unclosed records one → RowsUnder s columns unclosed records other → one ≡ other
under_same s (Err e) unclosed records one other p q = p ∙ sym q
under_same s (Ok columns) unclosed records (Ok one) (Ok other) p q =
    ap Ok (rows_same s columns unclosed records one other p.0 q.0 (p.1 ∙ sym q.1))
under_same s (Ok columns) unclosed records (Ok one) (Err f) p (other, first, less, at) =
    let i = length other in
    absurd (not_both _ f (row_same s columns (is_open unclosed (i + 2)) (i + 1) (slice_index_or records i []) _ _ (p.0.each i (omega (arith, less, p.1))) at))
under_same s (Ok columns) unclosed records (Err e) (Ok other) (one, first, less, at) q =
    let i = length one in
    absurd (not_both _ e (row_same s columns (is_open unclosed (i + 2)) (i + 1) (slice_index_or records i []) _ _ (q.0.each i (omega (arith, less, q.1))) at))
under_same s (Ok columns) unclosed records (Err e) (Err f) (one, first, less, at) (other, also, fewer, there) =
    let i = length one in
    let j = length other in
    elim (cases_lt i j) [
      | inl before ↦ absurd
          (not_both _ e (row_same s columns (is_open unclosed (i + 2)) (i + 1) (slice_index_or records i []) _ _ (also.each i before) at))
      | inr on ↦ elim (cases_lt j i) [
        | inl before ↦ absurd
            (not_both _ f (row_same s columns (is_open unclosed (j + 2)) (j + 1) (slice_index_or records j []) _ _ (first.each j before) there))
        | inr here ↦
            let size : j ≡ i = omega (arith, on, here) in
            let same : RowOf s columns (is_open unclosed (i + 2)) (i + 1) (slice_index_or records i []) (Err f) =
            subst (λ (m : ℕ). RowOf s columns (is_open unclosed (m + 2)) (m + 1) (slice_index_or records m []) (Err f)) size there in
            ap Err (refusal_same e f (row_same s columns (is_open unclosed (i + 2)) (i + 1) (slice_index_or records i []) _ _ at same))
      ]
    ]

-- what a header is: columns for all attributes, columns with a first one missing, or a refusal of a column
abbrev SeenHeader : ℕ → List (List ℕ) → List (List ℕ) → Result (List ℕ) RowRefusal → Type 0
SeenHeader n names header r =
    ((columns : List ℕ) × (r ≡ Ok columns) × (columns_of_header names header ≡ Ok columns) × IsSubset (below n) (with_columns columns))
    ⊎ ((a : ℕ) × (r ≡ Err (refusal.MissingColumn a)) × (columns : List ℕ) × (columns_of_header names header ≡ Ok columns) × IsFirstFrom (difference (below n) (with_columns columns)) 0 a)
    ⊎ ((e : RowRefusal) × (r ≡ Err e) × (columns_of_header names header ≡ Err e))

seen_header : (n : ℕ) (names header : List (List ℕ)) (r : Result (List ℕ) RowRefusal) → IsHeaderOf n names header r
    → SeenHeader n names header r
seen_header n names header (Ok columns) h = inl (columns, refl, h.0, h.1)
seen_header n names header (Err (refusal.MissingColumn a)) (columns, means, least) =
    inr (inl (a, refl, columns, means, least))
seen_header n names header (Err (refusal.UnevenRow r)) h = inr (inr ((refusal.UnevenRow r), refl, h))
seen_header n names header (Err refusal.TooManyRows) h = inr (inr (refusal.TooManyRows, refl, h))
seen_header n names header (Err (refusal.NotOfType r k)) h = inr (inr ((refusal.NotOfType r k), refl, h))
seen_header n names header (Err refusal.NoHeader) h = inr (inr (refusal.NoHeader, refl, h))
seen_header n names header (Err (refusal.UnknownColumn m)) h = inr (inr ((refusal.UnknownColumn m), refl, h))
seen_header n names header (Err (refusal.DoubleColumn m)) h = inr (inr ((refusal.DoubleColumn m), refl, h))
seen_header n names header (Err refusal.OpenHeader) h = inr (inr (refusal.OpenHeader, refl, h))
seen_header n names header (Err (refusal.OpenRow r)) h = inr (inr ((refusal.OpenRow r), refl, h))

columns_same : (r : Result (List ℕ) RowRefusal) (columns others : List ℕ) → r ≡ Ok columns → r ≡ Ok others
    → columns ≡ others
columns_same r columns others e f = let same : Ok columns ≡ Ok others = sym e ∙ f in cc

columns_or_none : (r : Result (List ℕ) RowRefusal) (columns : List ℕ) (e : RowRefusal) → r ≡ Ok columns → r ≡ Err e
    → ⊥
columns_or_none r columns e f g =
    let same : ◌≡◌ {A = Result (List ℕ) RowRefusal} (Ok columns) (Err e) = sym f ∙ g in cc

all_or_missing : (n a : ℕ) (columns others : List ℕ) → columns ≡ others → IsSubset (below n) (with_columns columns)
    → IsFirstFrom (difference (below n) (with_columns others)) 0 a → ⊥
all_or_missing n a columns others same within least =
    let all : IsSubset (below n) (with_columns others) = subst (λ (cs : List ℕ). IsSubset (below n) (with_columns cs)) same within in
    grind (arith, least.member, all a)

least_same : (n a b : ℕ) (columns others : List ℕ) → columns ≡ others
    → IsFirstFrom (difference (below n) (with_columns columns)) 0 a → IsFirstFrom (difference (below n) (with_columns others)) 0 b → a ≡ b
least_same n a b columns others same one other =
    let also : IsFirstFrom (difference (below n) (with_columns columns)) 0 b =
    subst (λ (cs : List ℕ). IsFirstFrom (difference (below n) (with_columns cs)) 0 b) (sym same) other in
    elim (cases_lt a b) [
      | inl before ↦ let not : difference (below n) (with_columns columns) a ≡ false = also.least a (omega arith) before in absurd
          (true≢false (sym one.member ∙ not))
      | inr on ↦ elim (cases_lt b a) [
        | inl before ↦ let not : difference (below n) (with_columns columns) b ≡ false = one.least b (omega arith) before in absurd
            (true≢false (sym also.member ∙ not))
        | inr here ↦ omega (arith, on, here)
      ]
    ]

-- a header gives one list of columns or one refusal
header_same : (n : ℕ) (names header : List (List ℕ)) (one other : Result (List ℕ) RowRefusal)
    → IsHeaderOf n names header one → IsHeaderOf n names header other → one ≡ other
header_same n names header one other p q = by (seen_header n names header one p) (seen_header n names header other q)
  where
    by : SeenHeader n names header one → SeenHeader n names header other → one ≡ other
    by (inl (cs, is, means, all)) (inl (ds, also, there, every)) =
        is ∙ ap Ok (columns_same _ cs ds means there) ∙ sym also
    by (inl (cs, is, means, all)) (inr (inl (b, also, ds, there, least))) =
        absurd (all_or_missing n b cs ds (columns_same _ cs ds means there) all least)
    by (inl (cs, is, means, all)) (inr (inr (f, also, there))) = absurd (columns_or_none _ cs f means there)
    by (inr (inl (a, is, cs, means, least))) (inl (ds, also, there, every)) =
        absurd (all_or_missing n a ds cs (columns_same _ ds cs there means) every least)
    by (inr (inl (a, is, cs, means, least))) (inr (inl (b, also, ds, there, other_least))) =
        is
        ∙ ap (λ (m : ℕ). Err (refusal.MissingColumn m)) (least_same n a b cs ds (columns_same _ cs ds means there) least other_least)
        ∙ sym also
    by (inr (inl (a, is, cs, means, least))) (inr (inr (f, also, there))) =
        absurd (columns_or_none _ cs f means there)
    by (inr (inr (e, is, means))) (inl (ds, also, there, every)) = absurd (columns_or_none _ ds e there means)
    by (inr (inr (e, is, means))) (inr (inl (b, also, ds, there, least))) =
        absurd (columns_or_none _ ds e there means)
    by (inr (inr (e, is, means))) (inr (inr (f, also, there))) =
        let same : ◌≡◌ {A = Result (List ℕ) RowRefusal} (Err e) (Err f) = sym means ∙ there in is ∙ same ∙ sym also

-- a header gives one list of columns or one refusal, also where it may be open
header_of_same : (b : Bool) (Means : Result (List ℕ) RowRefusal → Type 0)
    → ((one other : Result (List ℕ) RowRefusal) → Means one → Means other → one ≡ other)
    → (one other : Result (List ℕ) RowRefusal) → HeaderOf b Means one → HeaderOf b Means other → one ≡ other
header_of_same true Means means one other p q = p ∙ sym q
header_of_same false Means means one other p q = means one other p q

-- the records of a text give one list of rows or one refusal, where a header means one list of columns
pub table_same : (s : Schema) (Means : List (List ℕ) → Result (List ℕ) RowRefusal → Type 0)
    → ((header : List (List ℕ)) (one other : Result (List ℕ) RowRefusal) → Means header one → Means header other → one ≡ other)
    → (unclosed : Option ℕ) (records : List (List (List ℕ))) (one other : Result Relation RowRefusal) → TableOf s Means unclosed records one
    → TableOf s Means unclosed records other → one ≡ other
table_same s Means means unclosed [] one other p q = p ∙ sym q
table_same s Means means unclosed (header ∷ records) one other (columns, is, p) (others, also, q) =
    under_same s columns unclosed records one other p
    (subst (λ (cs : Result (List ℕ) RowRefusal). RowsUnder s cs unclosed records other)
    (header_of_same (is_open unclosed 1) (Means header) (means header) others columns also is) q)

pub whole_header_same : (s : Schema) (header : List (List ℕ)) (one other : Result (List ℕ) RowRefusal)
    → IsHeaderOf (width_of s) (names_of s) header one → IsHeaderOf (width_of s) (names_of s) header other
    → one ≡ other
whole_header_same s header one other p q = header_same (width_of s) (names_of s) header one other p q

pub part_header_same : (s : Schema) (header : List (List ℕ)) (one other : Result (List ℕ) RowRefusal)
    → one ≡ columns_of_header (names_of s) header → other ≡ columns_of_header (names_of s) header → one ≡ other
part_header_same s header one other p q = p ∙ sym q
