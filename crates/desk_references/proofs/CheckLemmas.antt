-- Columns that are named, and rows without a match, within their bounds.
use Rattle.std.specs.Prelude.{All}
use Rattle.std.specs.List.{AllZip}
use Rattle.std.proofs.Common.{inl, inr, ◌≡◌, ◌<◌, ◌≤◌, ℕ, zero, suc, List, [], ◌∷◌, ◌++◌, length, get_or, map, sym, subst, ap, ◌∙◌, ⊎_elim, arith}
use Rattle.std.proofs.lemmas.Grind.{common_steps}
use Rattle.std.proofs.lemmas.List.{get_or-map, length-map}
use Rattle.attr_sets.proofs.AttributesLemmas.{count_below-le}
use Rattle.dep_model.proofs.SchemeLemmas.{length-members_below}
use Rattle.dep_model.specs.Tuples.{Relation}
use Rattle.desk_references.specs.ColumnLists.{AreColumns, NamesColumnAt}
use Rattle.file_references.specs.Columns.{file_at}
use Rattle.file_references.specs.Matches.{is_unmatched, unmatched_rows}
use Rattle.file_references.specs.Finds.{reference_of}
use Rattle.file_references.specs.declared.reference.FoundReference.{FoundReference}
use Rattle.file_references.specs.References.{AreAllReferences, AreNamesakes, IsOneColumn, IsReference, Reference}
use Rattle.file_references.proofs.SetLemmas.{members_low}
use Rattle.file_references.proofs.SourceLemmas.{all_named_low, key_low, named_low}
use Rattle.headed_rows.specs.Headings.{HeadedRows}
use Rattle.lexer.specs.Tokens.{Mark}
use Rattle.row_store.specs.Rows.{row_at}

all_more : (P : ℕ → Type 0) (x : ℕ) (xs : List ℕ) → P x → All P xs → All P (x ∷ xs)
all_more P x xs first rest zero d l = first
all_more P x xs first rest (suc i) d l = rest i d (omega (arith, l))

all_none : (P : ℕ → Type 0) → All P []
all_none P i d l = absurd (omega (arith, l))

-- ---- columns
all_low : (names : List (List ℕ)) (ms : List Mark) (xs : List ℕ) → AllZip (NamesColumnAt names) ms xs → All (λ (k : ℕ). k < length names) xs
all_low names [] [] h = all_none (λ (k : ℕ). k < length names)
all_low names [] (x ∷ xs) h = absurd h
all_low names (m ∷ ms) [] h = absurd h
all_low names (m ∷ ms) (x ∷ xs) h =
    all_more (λ (k : ℕ). k < length names) x xs (named_low names m.word x h.0.known) (all_low names ms xs h.1)

pub columns_low : (names : List (List ℕ)) (text columns : List ℕ) → AreColumns names text columns → All (λ (k : ℕ). k < length names) columns
columns_low names text columns are = all_low names are.means.marks columns are.means.each

-- of a reference
pub source_low : (files : List HeadedRows) (ref : Reference) → IsReference files ref
    → All (λ (k : ℕ). k < length (file_at files ref.file).names) ref.columns
source_low files ref is = ⊎_elim
    (λ (one : IsOneColumn files ref). subst (All (λ (k : ℕ). k < length (file_at files ref.file).names)) (sym one.source)
    (all_more (λ (k : ℕ). k < length (file_at files ref.file).names) one.column [] one.within (all_none (λ (k : ℕ). k < length (file_at files ref.file).names))))
    (λ (names : AreNamesakes files ref).
    all_named_low (file_at files ref.file).names (file_at files ref.target).names ref.columns ref.key names.named)
    is.candidate.source

pub target_low : (files : List HeadedRows) (ref : Reference) → IsReference files ref
    → All (λ (k : ℕ). k < length (file_at files ref.target).names) ref.key
target_low files ref is = key_low (length (file_at files ref.target).names) (file_at files ref.target).rows ref.key is.candidate.target

-- of one of all
pub reference_here : (files : List HeadedRows) (xs : List FoundReference) (i : ℕ) (x : FoundReference) → AreAllReferences files (map reference_of xs)
    → i < length xs → x ≡ get_or xs i x → IsReference files (reference_of x)
reference_here files xs i x all low is =
    subst (IsReference files) (get_or-map reference_of xs i x (reference_of x) low ∙ ap reference_of (sym is))
    (all.each i (reference_of x) (omega (arith, low, length-map xs reference_of)))

-- ---- rows without a match
pub unmatched_low : (r : Relation) (x : List ℕ) (s : Relation) (k : List ℕ) → All (λ (i : ℕ). i < length r) (unmatched_rows r x s k)
unmatched_low r x s k = members_low (length r) (λ i. is_unmatched x s k (row_at r i))

pub unmatched_few : (r : Relation) (x : List ℕ) (s : Relation) (k : List ℕ) → length (unmatched_rows r x s k) ≤ length r
unmatched_few r x s k =
    omega (arith, length-members_below (length r) (λ i. is_unmatched x s k (row_at r i)), count_below-le (length r) (λ i. is_unmatched x s k (row_at r i)))

-- ---- the text of a reference, piece by piece
pub six_pieces : (old a w r b v e one two three four five six : List ℕ) → one ≡ old ++ a → two ≡ one ++ w → three ≡ two ++ r
    → four ≡ three ++ b → five ≡ four ++ v → six ≡ five ++ e → six ≡ old ++ ((((a ++ w) ++ r) ++ (b ++ v)) ++ e)
six_pieces old a w r b v e one two three four five six h1 h2 h3 h4 h5 h6 = grind (arith, common_steps, h1, h2, h3, h4, h5, h6)
