-- What is left to prove of `judge_keeping`: its clause `response` and what `losses_lines` requires,
-- by `losses_within`, `split_first` and `shown_first`.
use Rattle.std.proofs.Common.{◌≡◌, ◌<◌, ℕ, List, [], ◌∷◌, ◌++◌, inl, inr, length, drop, get_or, sym, subst, ap, ◌∙◌, arith}
use Rattle.std.proofs.lemmas.List.{nil_from_length}
use Rattle.std.specs.List.{flat_map}
use Rattle.dep_model.specs.Plans.{schemes_of}
use Rattle.schema_model.specs.Schemas.{width_of, theory_of}
use Rattle.preservation.specs.Keeping.{LossesOf}
use Rattle.preservation.specs.declared.losing.Loss.{Loss}
use Rattle.desk_responses.specs.ResponseValues.{Says}
use Rattle.desk_designs.specs.Keeping.{loss_text, two_tuples_text}
use Rattle.desk_responses.specs.Responses.{response_value}
use Rattle.desk_responses.specs.declared.status.Status.TheVariants.{No, Yes}
use Rattle.desk_designs.proofs.LossLemmas.{losses_within, split_first}
use Rattle.desk_designs.proofs.ShownFirst.{shown_first}
use Rattle.desk_designs.proofs.keeping.judge_keeping.Goals as goal

abbrev nothing : Loss
nothing = record { dep = 0; agreement = record { 0 = 0 } }

pub returns-in-empty : goal.returns-in-empty
returns-in-empty c =
    let none = nil_from_length c.as_slice.result.now (omega (arith, c.in-empty.len_below)) in
    record {
      response = inl (
        (rw (c.theory.ensures.theory) at c.in_ok-losses.ensures.keeps).0 (sym c.as_slice.ensures.value ∙ none),
        subst (λ (text : List ℕ). Says Yes text (response_value c.with_text.result)) c.in_ok-line_of-in-empty.ensures.line
            c.with_text.ensures.says,
      );
    }

pub losses_lines-requires : goal.losses_lines-requires
losses_lines-requires c =
    let s = c.args.schema.now in
    let xs = c.as_slice.result.now in
    let all : LossesOf (width_of s) (theory_of s) (schemes_of c.args.schemes.now) xs =
    subst (LossesOf (width_of s) (theory_of s) (schemes_of c.args.schemes.now)) (sym c.as_slice.ensures.value) (rw (c.theory.ensures.theory) at c.in_ok-losses.ensures.losses) in
    record { within = losses_within (width_of s) (theory_of s) (schemes_of c.args.schemes.now) 0 (theory_of s) xs all 0 nothing (omega (arith, c.in-len1-up.len_at_least)) }

pub returns : goal.returns
returns c =
    let s = c.args.schema.now in
    let plan = schemes_of c.args.schemes.now in
    let xs = c.as_slice.result.now in
    let items = c.in_ok-losses.losses.items in
    let not_empty : 0 < length xs = omega (arith, c.in-len1-up.len_at_least) in
    let first = get_or xs 0 nothing in
    let more = drop 1 xs in
    let are : items ≡ first ∷ more = sym c.as_slice.ensures.value ∙ split_first xs nothing not_empty in
    let losses : LossesOf (width_of s) (theory_of s) plan (first ∷ more) =
    subst (LossesOf (width_of s) (theory_of s) plan) are (rw (c.theory.ensures.theory) at c.in_ok-losses.ensures.losses) in
    let text = c.in_ok-losses_lines-in-len1-up.ensures.text ∙ ap (λ (l : List Loss). flat_map (loss_text s) l ++ two_tuples_text s first) (c.deref.ensures.value ∙ are) in
    record {
      response = inr (
        (λ keeps.
            let none : xs ≡ [] = c.as_slice.ensures.value ∙ (rw (c.theory.ensures.theory) at c.in_ok-losses.ensures.keeps).1 keeps in
            let count : length xs ≡ 0 = ap length none in
            absurd (omega (arith, not_empty, count))),
        (
          first,
          more,
          losses,
          shown_first s plan first more losses,
          subst (λ (t : List ℕ). Says No t (response_value c.with_text-in-len1-up.result)) text c.with_text-in-len1-up.ensures.says,
        ),
      );
    }
