-- Tableaux and exhibits hold numerals, each below the count of schemes or of sets.
use Rattle.std.proofs.Common.{◌≡◌, ℕ, ◌+◌, ◌<◌, ◌≤◌, Bool, true, false, cond, List, [], ◌∷◌, length, map, refl, ◌∙◌, arith}
use Rattle.std.specs.Prelude.{decimal, slice_index_or}
use Rattle.std.specs.List.{range_with_len}
use Rattle.std.proofs.lemmas.List.{length-map, get_or_default}
use Rattle.std.proofs.lemmas.List.Elements.{All-nil, All-cons, All-map, Contains-get_or}
use Rattle.attr_sets.specs.Attributes.{Attributes}
use Rattle.dep_model.specs.Tuples.{Tuple, IsOver}
use Rattle.dep_model.specs.Dependencies.{Dependency}
use Rattle.dep_model.specs.TwoTuples.{zero_text, all_zeros}
use Rattle.chase_laws.specs.Tableaux.{SymbolRow, Tableau, symbol_at}
use Rattle.chase_laws.specs.Rounds.{ReachesTableau}
use Rattle.chase_laws.specs.Answers.{texts_of}
use Rattle.chase_laws.proofs.InvariantLemmas.{reached-over, reached-most}
use Rattle.armstrong_rel.specs.Exhibits.{numbered_tuple, numbered_from, tuples_for}
use Rattle.typed_rows.specs.Typed.{IsNumeral, AreNumerals, HoldsNumerals}
use Rattle.typed_rows.proofs.NumeralLemmas.{zero_is_numeral, zeros_are_numerals}

numeral_of : (number : ℕ) → number < 1000000 → IsNumeral (decimal number)
numeral_of number small = record { number = number; small = small; text = refl }

-- ---- tableaux
row_holds : (row : SymbolRow) (most : ℕ) → most < 1000000 → ((k : ℕ) → symbol_at row k ≤ most) → AreNumerals (map decimal row)
row_holds row most few small =
    All-map IsNumeral decimal row (λ k d short. numeral_at row k d short most few small)
  where
    numeral_at : (row : SymbolRow) (k d : ℕ) → k < length row → (most : ℕ) → most < 1000000 → ((j : ℕ) → symbol_at row j ≤ most)
        → IsNumeral (decimal (slice_index_or row k d))
    numeral_at row k d short most few small =
        let same : slice_index_or row k d ≡ symbol_at row k = get_or_default row k d 0 short in
        numeral_of (slice_index_or row k d) (omega (arith, same, small k, few))

pub tableau_holds : (n : ℕ) (ds : List Dependency) (plan : List Attributes) (s : Tableau)
    → length plan < 1000000 → ReachesTableau n ds plan s → HoldsNumerals (texts_of s)
tableau_holds n ds plan s few reached =
    All-map AreNumerals (map decimal) s
    (λ k d short. row_holds (slice_index_or s k d) (length plan) few
    (λ j. reached-most n ds plan s reached (slice_index_or s k d) (Contains-get_or s k d short) j))

pub tableau_over : (n : ℕ) (ds : List Dependency) (plan : List Attributes) (s : Tableau) → ReachesTableau n ds plan s
    → IsOver n (texts_of s)
tableau_over n ds plan s reached =
    All-map (λ (t : Tuple). length t ≡ n) (map decimal) s
    (λ k d short. length-map (slice_index_or s k d) decimal
    ∙ reached-over n ds plan s reached (slice_index_or s k d) (Contains-get_or s k d short))

-- ---- exhibits
choice_holds : (b : Bool) (number : ℕ) → number < 1000000 → IsNumeral (cond b zero_text (decimal number))
choice_holds b number small = elim b as (λ v. IsNumeral (cond v zero_text (decimal number))) [ true ↦ zero_is_numeral | false ↦ numeral_of number small ]

numbered_holds : (n number : ℕ) (x : Attributes) → number < 1000000 → AreNumerals (numbered_tuple n number x)
numbered_holds n number x small =
    All-map IsNumeral (λ (k : ℕ). cond (x k) zero_text (decimal number)) (range_with_len 0 n)
    (λ k d short. choice_holds (x (slice_index_or (range_with_len 0 n) k d)) number small)

later_hold : (n number : ℕ) (sets : List Attributes) → number + length sets ≤ 1000000 → HoldsNumerals (numbered_from n number sets)
later_hold n number [] few = All-nil AreNumerals
later_hold n number (x ∷ sets) few =
    All-cons AreNumerals (numbered_tuple n number x) (numbered_from n (number + 1) sets)
    (numbered_holds n number x (omega (arith, few))) (later_hold n (number + 1) sets (omega (arith, few)))

pub exhibit_holds : (n : ℕ) (sets : List Attributes) → length sets < 1000000 → HoldsNumerals (tuples_for n sets)
exhibit_holds n sets few =
    All-cons AreNumerals (all_zeros n) (numbered_from n 1 sets) (zeros_are_numerals n) (later_hold n 1 sets (omega (arith, few)))
