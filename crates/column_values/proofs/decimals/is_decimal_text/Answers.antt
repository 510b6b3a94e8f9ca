-- What is left to prove of `is_decimal_text`: that a text with a `-` first has a sign, and no other has.
use Rattle.std.proofs.Common.{◌≡◌, ◌≢◌, ℕ, List, ◌∷◌, inl, inr, sym, subst, ◌∙◌}
use Rattle.column_values.specs.Decimals.{decimal_text, IsUnsignedDecimal, IsDecimalText}
use Rattle.column_values.proofs.DecimalLemmas.{same_rest, head_of, no_minus_first}
use Rattle.column_values.proofs.decimals.is_decimal_text.Goals as goal

signed_again : (scale : ℕ) (bytes rest : List ℕ) → bytes ≡ 45 ∷ rest → IsDecimalText scale bytes
    → IsUnsignedDecimal scale rest × (rest ≢ decimal_text scale 0 0)
signed_again scale bytes rest e (inl h) = absurd (no_minus_first scale bytes h (head_of bytes rest 45 e))
signed_again scale bytes rest e (inr h) =
    let same : rest ≡ h.0 = same_rest bytes rest h.0 45 e h.1 in
    (subst (IsUnsignedDecimal scale) (sym same) h.2, (λ zero. h.3 (sym same ∙ zero)))

unsigned_again : (scale : ℕ) (bytes : List ℕ) → ((rest : List ℕ) → bytes ≡ 45 ∷ rest → ⊥) → IsDecimalText scale bytes
    → IsUnsignedDecimal scale bytes
unsigned_again scale bytes none (inl h) = h
unsigned_again scale bytes none (inr h) = absurd (none h.0 h.1)

pub returns-in-Some : goal.returns-in-Some
returns-in-Some c = record {
  decimal = (
    (λ holds.
        let both = c.is_nonzero_decimal.ensures.decimal.0 holds in
        inr (c.in-Some.rest.now, c.in-Some.ensures.rest, both.0, both.1)),
    (λ h. c.is_nonzero_decimal.ensures.decimal.1 (signed_again c.args.scale c.args.bytes.now c.in-Some.rest.now c.in-Some.ensures.rest h)),
  );
}

pub returns-in-None : goal.returns-in-None
returns-in-None c = record {
  decimal = (
    (λ holds. inl (c.is_unsigned_decimal.ensures.decimal.0 holds)),
    (λ h. c.is_unsigned_decimal.ensures.decimal.1 (unsigned_again c.args.scale c.args.bytes.now c.in-None.ensures.none h)),
  );
}
