-- A line is added exactly where nothing is wrong with it, and refused for its first diagnostic.
use Rattle.std.proofs.Common.{◌≡◌, ◌<◌, ◌≤◌, ◌+◌, ◌==◌, ⊎_elim, ℕ, Bool, true, false, cond, List, [], ◌∷◌, ◌++◌, length, Result, Ok, Err, refl, sym, ◌∙◌, ap, arith}
use Rattle.std.specs.Prelude.{All, nat_le}
use Rattle.std.specs.List.{list_all}
use Rattle.std.proofs.lemmas.Bool.{and_parts, true≢false, cases_lt}
use Rattle.std.proofs.lemmas.Bool.Decides.{nat_tests}
use Rattle.std.proofs.lemmas.List.Elements.{All-cons, All-head, All-tail}
use Rattle.derivation.specs.declared.measures.TheConstants.{MOST_NODES}
use Rattle.proof_grammar.specs.Diagnostics.{Diagnostic, bad_line, wrong_number, no_such_line, used_twice, never_used, too_many_lines, too_deep, unsound, states_other, empty_proof}
use Rattle.proof_grammar.specs.Wrongs.{rank}
use Rattle.derivation_grammar.specs.Lines.{DerivationLine}
use Rattle.derivation_grammar.specs.Meanings.{premises_of, IsEarlier, IsInTurn}
use Rattle.derivation_grammar.specs.Refusals.{Wrong, IsFirstWrong}
use Rattle.derivation_grammar.specs.Texts.{is_earlier, are_earlier, add_fitting, add_line}

-- ---- the test of premises
one_earlier : (count p : ℕ) → is_earlier count p ≡ true → IsEarlier count p
one_earlier count p h =
    let both = and_parts _ (nat_le p count) h in
    (grind (arith, nat_tests, both.0), grind (arith, nat_tests, both.1))

one_earlier_back : (count p : ℕ) → IsEarlier count p → is_earlier count p ≡ true
one_earlier_back count p is =
    let not_zero : (p == 0) ≡ false = grind (arith, nat_tests, is.0) in
    let low : nat_le p count ≡ true = grind (arith, nat_tests, is.1) in
    rw (not_zero, low) refl

earlier_there : (count : ℕ) (ps : List ℕ) → list_all (is_earlier count) ps ≡ true → All (IsEarlier count) ps
earlier_there count [] h = λ k d low. absurd (omega (arith, low))
earlier_there count (p ∷ ps) h =
    let both = and_parts (is_earlier count p) (list_all (is_earlier count) ps) h in
    All-cons (IsEarlier count) p ps (one_earlier count p both.0) (earlier_there count ps both.1)

earlier_back : (count : ℕ) (ps : List ℕ) → All (IsEarlier count) ps → list_all (is_earlier count) ps ≡ true
earlier_back count [] all = refl
earlier_back count (p ∷ ps) all =
    rw (
      one_earlier_back count p (All-head (IsEarlier count) p ps all),
      earlier_back count ps (All-tail (IsEarlier count) p ps all),
    ) refl

-- ---- what comes first
-- nothing of a smaller rank is wrong
first_of : (count : ℕ) (l : DerivationLine) (k : ℕ) → k ≤ 5
    → (2 < k → l.number ≡ count + 1)
    → (3 < k → All (IsEarlier count) (premises_of l.body))
    → (other : Diagnostic) → Wrong count l other → k ≤ rank other
first_of count l k high numbered earlier wrong_number wrong =
    ⊎_elim (λ (less : 2 < k). absurd (wrong (numbered less))) (λ (past : k ≤ 2). past) (cases_lt 2 k)
first_of count l k high numbered earlier no_such_line wrong =
    ⊎_elim (λ (less : 3 < k). absurd (wrong (earlier less))) (λ (past : k ≤ 3). past) (cases_lt 3 k)
first_of count l k high numbered earlier too_many_lines wrong = high
first_of count l k high numbered earlier _ wrong = absurd wrong

-- ---- what is added
abbrev pub Adds : List DerivationLine → DerivationLine → Result (List DerivationLine) Diagnostic → Type 0
Adds before l (Ok next) = IsInTurn (length before) l × (length before < MOST_NODES) × (next ≡ before ++ l ∷ [])
Adds before l (Err c) = IsFirstWrong (length before) l c

pub adds : (before : List DerivationLine) (l : DerivationLine) → Adds before l (add_line before l)
unfolding add_line are_earlier
adds before l = by_number (l.number == length before + 1) refl
  where
    none_late : (j : ℕ) → j < j → ⊥
    none_late j low = omega (arith, low)

    by_limit : (b : Bool) → nat_le MOST_NODES (length before) ≡ b → IsInTurn (length before) l
        → Adds before l (cond b (Err too_many_lines) (Ok (before ++ l ∷ [])))
    by_limit true full turn = record {
      wrong = grind (arith, nat_tests, full);
      first = first_of (length before) l 5 (omega arith) (λ low. turn.number) (λ low. turn.premises);
    }
    by_limit false room turn = (turn, grind (arith, nat_tests, room), refl)

    by_premises : (b : Bool) → list_all (is_earlier (length before)) (premises_of l.body) ≡ b
        → l.number ≡ length before + 1 → Adds before l (cond b (add_fitting before l) (Err no_such_line))
    by_premises true all number = by_limit (nat_le MOST_NODES (length before)) refl (record {
      number = number;
      premises = earlier_there (length before) (premises_of l.body) all;
    })
    by_premises false some number = record {
      wrong = λ all. true≢false (sym (earlier_back (length before) (premises_of l.body) all) ∙ some);
      first = first_of (length before) l 3 (omega arith) (λ low. number) (λ low. absurd (none_late 3 low));
    }

    by_number : (b : Bool) → (l.number == length before + 1) ≡ b
        → Adds before l (cond b (cond (list_all (is_earlier (length before)) (premises_of l.body)) (add_fitting before l)
        (Err no_such_line)) (Err wrong_number))
    by_number true same =
        by_premises (list_all (is_earlier (length before)) (premises_of l.body)) refl (grind (arith, nat_tests, same))
    by_number false other = record {
      wrong = λ same. grind (arith, nat_tests, other, same);
      first = first_of (length before) l 2 (omega arith) (λ low. absurd (none_late 2 low)) (λ low. absurd (omega (arith, low)));
    }

-- ---- what is wrong with a line is one diagnostic of each rank
one_of_rank : (count : ℕ) (l : DerivationLine) (c d : Diagnostic) → rank c ≡ rank d
    → Wrong count l c → Wrong count l d → c ≡ d
one_of_rank count l wrong_number wrong_number e wrong other = refl
one_of_rank count l no_such_line no_such_line e wrong other = refl
one_of_rank count l too_many_lines too_many_lines e wrong other = refl
one_of_rank count l (bad_line why) d e wrong other = absurd wrong
one_of_rank count l used_twice d e wrong other = absurd wrong
one_of_rank count l too_deep d e wrong other = absurd wrong
one_of_rank count l never_used d e wrong other = absurd wrong
one_of_rank count l (unsound fault) d e wrong other = absurd wrong
one_of_rank count l (states_other stated concluded) d e wrong other = absurd wrong
one_of_rank count l empty_proof d e wrong other = absurd wrong
one_of_rank count l c d e wrong other = absurd (omega (arith, e))

-- nothing is wrong with a line that is added
none_wrong : (count : ℕ) (l : DerivationLine) (c : Diagnostic) → IsInTurn count l → count < MOST_NODES
    → Wrong count l c → ⊥
none_wrong count l wrong_number is fits wrong = wrong is.number
none_wrong count l no_such_line is fits wrong = wrong is.premises
none_wrong count l too_many_lines is fits wrong = omega (arith, fits, wrong)
none_wrong count l _ is fits wrong = absurd wrong

-- ---- back
pub refused_added : (before : List DerivationLine) (l : DerivationLine) (c : Diagnostic)
    → IsFirstWrong (length before) l c → add_line before l ≡ Err c
refused_added before l c first = by_cases (add_line before l) (adds before l)
  where
    by_cases : (r : Result (List DerivationLine) Diagnostic) → Adds before l r → r ≡ Err c
    by_cases (Ok next) is = absurd (none_wrong (length before) l c is.0 is.1 first.wrong)
    by_cases (Err d) is =
        let same : rank d ≡ rank c = omega (arith, is.first c first.wrong, first.first d is.wrong) in
        ap Err (one_of_rank (length before) l d c same is.wrong first.wrong)

pub turned_added : (before : List DerivationLine) (l : DerivationLine) → IsInTurn (length before) l
    → length before < MOST_NODES → add_line before l ≡ Ok (before ++ l ∷ [])
unfolding add_line are_earlier
turned_added before l is fits =
    let number : (l.number == length before + 1) ≡ true = grind (arith, nat_tests, is.number) in
    let room : nat_le MOST_NODES (length before) ≡ false = grind (arith, nat_tests, fits) in
    rw (number, earlier_back (length before) (premises_of l.body) is.premises, room) refl
