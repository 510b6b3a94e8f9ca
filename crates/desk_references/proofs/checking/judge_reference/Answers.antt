-- What is left to prove of `judge_reference`: where every row has its match, and what it asks of `unmatched_text`.
use Rattle.std.specs.Prelude.{All}
use Rattle.std.proofs.Common.{inl, ◌≡◌, ◌<◌, ◌==◌, ℕ, List, [], true, false, true≢false, length, ap, sym, subst, vec_len, ◌∙◌, arith}
use Rattle.std.proofs.lemmas.Bool.{eqb-true}
use Rattle.std.proofs.lemmas.List.{nil_from_length}
use Rattle.desk_responses.specs.ResponseValues.{Says}
use Rattle.desk_responses.specs.Responses.{response_value}
use Rattle.desk_responses.specs.declared.status.Status.TheVariants.{Yes}
use Rattle.file_references.specs.Matches.{unmatched_rows}
use Rattle.desk_references.proofs.CheckLemmas.{unmatched_few, unmatched_low}
use Rattle.desk_references.proofs.checking.judge_reference.Goals as goal

pub returns-then-is_empty : goal.returns-then-is_empty
returns-then-is_empty c =
    let empty : (vec_len c.in_ok-rows.rows == 0) ≡ true = sym c.is_empty.ensures ∙ c.if-is_empty.true in
    let size : length c.in_ok-rows.rows.items ≡ 0 = omega (arith, eqb-true (vec_len c.in_ok-rows.rows) 0 empty, c.in_ok-rows.rows.ok.0) in
    record {
      response = inl (
        c.in_ok-rows.ensures.none (nil_from_length c.in_ok-rows.rows.items size),
        subst (λ (t : List ℕ). Says Yes t (response_value c.with_text.result)) c.in_ok-text.ensures.line c.with_text.ensures.says,
      );
    }

pub unmatched_text-requires-clause-rows : goal.unmatched_text-requires-clause-rows
unmatched_text-requires-clause-rows c =
    subst (All (λ (i : ℕ). i < length c.args.one.now.rows)) (sym (c.deref.ensures.value ∙ c.in_ok-rows.ensures.rows))
    (unmatched_low c.args.one.now.rows c.args.columns.now c.args.other.now.rows c.args.key.now)

pub unmatched_text-requires-clause-within_limit : goal.unmatched_text-requires-clause-within_limit
unmatched_text-requires-clause-within_limit c =
    omega (
      arith,
      ap (λ (rows : List ℕ). length rows) (c.deref.ensures.value ∙ c.in_ok-rows.ensures.rows),
      unmatched_few c.args.one.now.rows c.args.columns.now c.args.other.now.rows c.args.key.now,
      c.requires.within_limit,
    )

pub unmatched_text-requires-clause-first : goal.unmatched_text-requires-clause-first
unmatched_text-requires-clause-first c =
    let all : All (λ (i : ℕ). i < length c.args.one.now.rows) c.deref.result.now =
    subst (All (λ (i : ℕ). i < length c.args.one.now.rows)) (sym (c.deref.ensures.value ∙ c.in_ok-rows.ensures.rows))
    (unmatched_low c.args.one.now.rows c.args.columns.now c.args.other.now.rows c.args.key.now) in
    let empty : (vec_len c.in_ok-rows.rows == 0) ≡ false = sym c.is_empty.ensures ∙ c.if-is_empty.false in
    let other : vec_len c.in_ok-rows.rows ≡ 0 → ⊥ = λ none. true≢false (sym (ap (λ (n : ℕ). n == 0) none) ∙ empty) in
    let some : 0 < length c.deref.result.now =
    omega (arith, other, c.in_ok-rows.rows.ok.0, ap (λ (rows : List ℕ). length rows) c.deref.ensures.value) in
    omega (arith, all 0 0 some, c.requires.within_limit)
