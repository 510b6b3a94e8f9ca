-- What is left to prove of `is_whole`: that what it tests is what holds of a whole number's text.
use Rattle.std.proofs.Common.{◌≡◌, length, sym, ◌∙◌, eq-eqb, arith}
use Rattle.std.proofs.lemmas.Bool.{false≢true, eqb-true}
use Rattle.column_values.specs.Decimals.{IsWhole}
use Rattle.column_values.proofs.DecimalLemmas.{IsWholeText, whole_from, whole_to, zero_whole, not_empty}
use Rattle.column_values.proofs.decimals.is_whole.Goals as goal

pub returns-then-is_empty : goal.returns-then-is_empty
returns-then-is_empty c = record {
  whole = (
    (λ h. absurd (false≢true h)),
    (λ (h : IsWhole c.args.most c.args.bytes.now).
        let text : IsWholeText c.args.most c.args.bytes.now = whole_to c.args.most c.args.bytes.now c.requires.some c.requires.most h in
        let none : length c.args.bytes.now ≡ 0 = eqb-true (length c.args.bytes.now) 0 (sym c.is_empty.ensures ∙ c.if-is_empty.true) in
        absurd (omega (arith, none, text.some))),
  );
}

pub returns-then-bytes-most : goal.returns-then-bytes-most
returns-then-bytes-most c = record {
  whole = (
    (λ h. absurd (false≢true h)),
    (λ (h : IsWhole c.args.most c.args.bytes.now).
        let text : IsWholeText c.args.most c.args.bytes.now = whole_to c.args.most c.args.bytes.now c.requires.some c.requires.most h in
        absurd (omega (arith, c.if-bytes-most.true, text.short))),
  );
}

pub returns-then-bytes-eq48 : goal.returns-then-bytes-eq48
returns-then-bytes-eq48 c = record {
  whole = (
    (λ holds. zero_whole c.args.most c.args.bytes.now c.if-bytes-eq48.true (eqb-true (length c.args.bytes.now) 1 holds)),
    (λ (h : IsWhole c.args.most c.args.bytes.now).
        let text : IsWholeText c.args.most c.args.bytes.now = whole_to c.args.most c.args.bytes.now c.requires.some c.requires.most h in
        eq-eqb (length c.args.bytes.now) 1 (text.first c.if-bytes-eq48.true)),
  );
}

pub returns : goal.returns
returns c = record {
  whole = (
    (λ holds. whole_from c.args.most c.args.bytes.now c.requires.most (not_empty c.args.bytes.now (sym c.is_empty.ensures ∙ c.if-is_empty.false)) (omega (arith, c.if-bytes-most.false))
        (λ e. absurd (c.if-bytes-eq48.false e)) (sym c.are_digits.ensures.digits ∙ holds)),
    (λ (h : IsWhole c.args.most c.args.bytes.now).
        let text : IsWholeText c.args.most c.args.bytes.now = whole_to c.args.most c.args.bytes.now c.requires.some c.requires.most h in
        c.are_digits.ensures.digits ∙ text.digits),
  );
}
