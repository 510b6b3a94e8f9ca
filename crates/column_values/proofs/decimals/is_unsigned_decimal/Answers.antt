-- What is left to prove of `is_unsigned_decimal`: that its parts are those of a text.
use Rattle.std.proofs.Common.{◌≡◌, ◌<◌, ℕ, length, sym, ap, subst, ◌∙◌, ◌^◌, arith}
use Rattle.std.proofs.lemmas.Bool.{false≢true}
use Rattle.std.specs.Fmt.{decimal}
use Rattle.column_values.specs.Digits.{in_digits}
use Rattle.column_values.specs.Decimals.{IsUnsignedDecimal}
use Rattle.column_values.proofs.DigitLemmas.{SameParts}
use Rattle.column_values.proofs.DecimalLemmas.{IsNumberOf, number_from, number_to, unsigned_long, parts_unsigned-to, parts_unsigned-from, with_point, whole_length, fraction_length}
use Rattle.column_values.proofs.decimals.is_unsigned_decimal.Goals as goal

pub returns-then-scale-gt-MOST_SCALE : goal.returns-then-scale-gt-MOST_SCALE
returns-then-scale-gt-MOST_SCALE c = record {
  decimal = (
    (λ h. absurd (false≢true h)),
    (λ (h : IsUnsignedDecimal c.args.scale c.args.bytes.now). absurd (omega (arith, c.if-scale-gt-MOST_SCALE.true, h.scale_within_limit))),
  );
}

pub returns-then-bytes-digits : goal.returns-then-bytes-digits
returns-then-bytes-digits c = record {
  decimal = (
    (λ h. absurd (false≢true h)),
    (λ (h : IsUnsignedDecimal c.args.scale c.args.bytes.now). absurd (omega (arith, c.if-bytes-digits.true, unsigned_long c.args.scale c.args.bytes.now h))),
  );
}

pub returns-then-is_whole : goal.returns-then-is_whole
returns-then-is_whole c =
    let scale : ℕ = c.args.scale in
    let some : 0 < scale = omega (arith, c.if-scale-eq0.false) in
    let counted : length c.in-Some.fraction.now ≡ scale =
    fraction_length scale c.args.bytes.now c.in-Some.whole.now c.in-Some.fraction.now (omega (arith, c.if-bytes-digits.false)) c.in-Some.ensures.counted c.in-Some.ensures.parts in
    record {
      decimal = (
        (λ holds.
            let number : IsNumberOf c.in-Some.fraction.now =
            number_from c.number_of.result c.in-Some.fraction.now c.number_of.ensures.fits c.number_of.ensures.text (sym c.is_some.ensures ∙ holds) in
            parts_unsigned-to scale c.args.bytes.now c.in-Some.whole.now c.in-Some.fraction.now number.number some (omega (arith, c.if-scale-gt-MOST_SCALE.false))
            c.in-Some.ensures.parts (c.is_whole-in-Some.ensures.whole.0 c.if-is_whole.true)
            (subst (λ (n : ℕ). number.number < 10 ^ n) counted number.fits)
            (number.text ∙ ap (λ (n : ℕ). in_digits n number.number) counted)),
        (λ (h : IsUnsignedDecimal scale c.args.bytes.now).
            let parts : SameParts c.in-Some.whole.now c.in-Some.fraction.now (decimal h.whole) (in_digits scale h.fraction) =
            parts_unsigned-from scale c.args.bytes.now c.in-Some.whole.now c.in-Some.fraction.now some c.in-Some.ensures.counted c.in-Some.ensures.parts h in
            c.is_some.ensures ∙ number_to c.number_of.result c.in-Some.fraction.now h.fraction c.number_of.ensures.none
            (parts.rests ∙ ap (λ (n : ℕ). in_digits n h.fraction) (sym counted))),
      );
    }

pub returns-else-is_whole : goal.returns-else-is_whole
returns-else-is_whole c =
    let scale : ℕ = c.args.scale in
    let some : 0 < scale = omega (arith, c.if-scale-eq0.false) in
    record {
      decimal = (
        (λ holds. absurd (false≢true (sym c.if-is_whole.false ∙ holds))),
        (λ (h : IsUnsignedDecimal scale c.args.bytes.now).
            let parts : SameParts c.in-Some.whole.now c.in-Some.fraction.now (decimal h.whole) (in_digits scale h.fraction) =
            parts_unsigned-from scale c.args.bytes.now c.in-Some.whole.now c.in-Some.fraction.now some c.in-Some.ensures.counted c.in-Some.ensures.parts h in
            c.is_whole-in-Some.ensures.whole.1 (record { number = h.whole; fits = h.whole_within_limit; text = parts.fronts })),
      );
    }

pub returns-in-None : goal.returns-in-None
returns-in-None c =
    let scale : ℕ = c.args.scale in
    let some : 0 < scale = omega (arith, c.if-scale-eq0.false) in
    record {
      decimal = (
        (λ h. absurd (false≢true h)),
        (λ (h : IsUnsignedDecimal scale c.args.bytes.now).
            absurd (c.in-None.ensures.none (decimal h.whole) (in_digits scale h.fraction) (whole_length scale c.args.bytes.now h some) (with_point scale c.args.bytes.now h some))),
      );
    }
