-- A certificate line after so many others stands in one line of a text.
use Rattle.std.proofs.Common.{◌≡◌, ◌<◌, ◌≤◌, ⊎_elim, ℕ, true, false, cond, not, List, [], ◌∷◌, ◌++◌, length, sym, ◌∙◌, ap, arith, length-append, append_assoc}
use Rattle.std.specs.Prelude.{filter}
use Rattle.std.proofs.lemmas.Bool.{cases_order}
use Rattle.std.proofs.lemmas.List.Elements.{filter-append}
use Rattle.schema_model.specs.declared.naming.Naming.{Naming}
use Rattle.lexer.specs.Modes as mode
use Rattle.lexer.specs.Tokens.{lex}
use Rattle.proof_grammar.specs.Meanings.{certificate_lines_of, is_yes_alone, without_yes}
use Rattle.proof_grammar.specs.Texts.{is_blank}
use Rattle.proof_grammar.specs.Refusals.{StandsAt}

-- ---- more lines have no fewer certificate lines
without_yes_grows : (naming : Naming) (xs ys : List (List ℕ)) → length (without_yes naming xs) ≤ length (without_yes naming (xs ++ ys))
without_yes_grows naming [] ys = omega arith
without_yes_grows naming (x ∷ xs) ys = elim (is_yes_alone (lex (mode.numbered naming) x))
    as (λ b. length (cond b xs (x ∷ xs)) ≤ length (cond b (xs ++ ys) (x ∷ xs ++ ys))) [
      | true ↦ omega (arith, length-append xs ys)
      | false ↦ omega (arith, length-append xs ys)
    ]

-- ---- a position after another
record GoesBeyond (shorter longer : List (List ℕ)) (here : List ℕ) : Type 0 where
  between : List (List ℕ)
  whole : longer ≡ shorter ++ here ∷ between

goes_beyond : (xs : List (List ℕ)) (here : List ℕ) (after ys more : List (List ℕ)) → xs ++ here ∷ after ≡ ys ++ more
    → length xs < length ys → GoesBeyond xs ys here
goes_beyond [] here after (y ∷ ys) more e less =
    let same : y ≡ here = cc in record { between = ys; whole = ap (λ z. z ∷ ys) same }
goes_beyond (x ∷ xs) here after (y ∷ ys) more e less =
    let same : y ≡ x = cc in
    let rest : xs ++ here ∷ after ≡ ys ++ more = cc in
    let beyond = goes_beyond xs here after ys more rest (omega (arith, less)) in
    record { between = beyond.between; whole = λ i. same i ∷ beyond.whole i }
goes_beyond _ here after [] more e less = absurd (omega (arith, less))

not_beyond : (naming : Naming) (text : List ℕ) (before other : List (List ℕ)) (here there : List ℕ) (at by : ℕ)
    → StandsAt naming text before here at → StandsAt naming text other there by
    → length (certificate_lines_of naming before) ≡ length (certificate_lines_of naming other) → length before < length other → ⊥
not_beyond naming text before other here there at by stands stands_there same less =
    let beyond = goes_beyond before here stands.after other (there ∷ stands_there.after)
    (sym stands.cut ∙ stands_there.cut) less in
    let first = before ++ here ∷ [] in
    let longer : other ≡ first ++ beyond.between =
    beyond.whole ∙ sym (append_assoc before (here ∷ []) beyond.between) in
    let spoken = λ (line : List ℕ). not (is_blank (lex (mode.numbered naming) line)) in
    let grows : length (certificate_lines_of naming first) ≤ length (certificate_lines_of naming (first ++ beyond.between)) =
    rw (filter-append spoken first beyond.between)
    (without_yes_grows naming (filter spoken first) (filter spoken beyond.between)) in
    omega (
      arith,
      same,
      grows,
      ap (λ ls. length (certificate_lines_of naming ls)) longer,
      ap length stands.counts,
      length-append (certificate_lines_of naming before) (here ∷ []),
    )

pub same_position : (naming : Naming) (text : List ℕ) (before other : List (List ℕ)) (here there : List ℕ) (at by : ℕ)
    → StandsAt naming text before here at → StandsAt naming text other there by
    → length (certificate_lines_of naming before) ≡ length (certificate_lines_of naming other) → at ≡ by
same_position naming text before other here there at by stands stands_there same = ⊎_elim
    (λ equal. omega (arith, equal, stands.number, stands_there.number))
    (⊎_elim (λ less. absurd (not_beyond naming text before other here there at by stands stands_there same less))
    (λ more. absurd (not_beyond naming text other before there here by at stands_there stands (sym same) more)))
    (cases_order (length before) (length other))
