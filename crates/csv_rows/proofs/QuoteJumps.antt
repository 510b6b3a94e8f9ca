-- From quote to quote: the place after bytes of which none is a quote, and after the next quote.
use Rattle.std.proofs.Common.{◌≡◌, ◌+◌, ◌-◌, ◌<◌, ◌≤◌, ◌==◌, ◌||◌, ℕ, zero, suc, Bool, true, false, if◌then◌else◌, List, [], ◌∷◌, ◌++◌, All, length, take, drop, get_or, slice_index, refl, sym, ap, ◌∙◌, arith}
use Rattle.std.specs.List.{fold}
use Rattle.std.proofs.lemmas.Bool.{eqb-true, false_from_ne_true}
use Rattle.std.proofs.lemmas.List.{at_drop_more, get_or-take, get_or_default, length-take, length-take-le, take-append-drop, take_all}
use Rattle.std.proofs.lemmas.List.Elements.{All-head, All-tail}
use Rattle.std.proofs.lemmas.List.Sums.{fold-append}
use Rattle.memchr.specs.Find.{Nowhere, Passes, is_byte}
use Rattle.csv_rows.specs.Quotes.{is_quoted, next_place, plain_place}
use Rattle.csv_rows.specs.declared.quotes.Place.{Place}
use Rattle.csv_rows.specs.declared.quotes.Place.TheVariants as place

abbrev pub NoQuote : ℕ → Type 0
NoQuote byte = (byte == 34) ≡ false

-- ---- bytes of which none is a quote
quoted_step : (byte : ℕ) → NoQuote byte → next_place place.QuotedField byte ≡ place.QuotedField
quoted_step byte none = rw none refl

pub quoted_through : (bytes : List ℕ) → All NoQuote bytes → place.QuotedField ≡ fold next_place place.QuotedField bytes
quoted_through [] none = refl
quoted_through (byte ∷ bytes) none =
    quoted_through bytes (All-tail NoQuote byte bytes none)
    ∙ ap (λ (p : Place). fold next_place p bytes) (sym (quoted_step byte (All-head NoQuote byte bytes none)))

unquoted_step : (p : Place) (byte : ℕ) → is_quoted p ≡ false → NoQuote byte → next_place p byte ≡ plain_place byte
unquoted_step place.BetweenRecords byte outside none = rw none refl
unquoted_step place.FieldStart byte outside none = rw none refl
unquoted_step place.PlainField byte outside none = refl
unquoted_step place.QuotedField byte outside none = cc
unquoted_step place.AfterQuote byte outside none = rw none refl

plain_place-unquoted : (byte : ℕ) → is_quoted (plain_place byte) ≡ false
plain_place-unquoted byte = by (byte == 44) ((byte == 13) || (byte == 10))
  where
    by : (comma line : Bool)
        → is_quoted (if comma then place.FieldStart else if line then place.BetweenRecords else place.PlainField) ≡ false
    by true line = refl
    by false true = refl
    by false false = refl

pub unquoted : (p : Place) → (p ≡ place.QuotedField → ⊥) → is_quoted p ≡ false
unquoted place.BetweenRecords other = refl
unquoted place.FieldStart other = refl
unquoted place.PlainField other = refl
unquoted place.QuotedField other = absurd (other refl)
unquoted place.AfterQuote other = refl

-- the last of them decides, outside quotes
pub last_decides : (bytes : List ℕ) (p : Place) → is_quoted p ≡ false → All NoQuote bytes → 0 < length bytes
    → plain_place (get_or bytes (length bytes - 1) 0) ≡ fold next_place p bytes
last_decides [] p outside none some = absurd (omega (arith, some))
last_decides (byte ∷ []) p outside none some = sym (unquoted_step p byte outside (All-head NoQuote byte [] none))
last_decides (byte ∷ second ∷ bytes) p outside none some =
    let before : length (byte ∷ second ∷ bytes) - 1 ≡ suc (length (second ∷ bytes) - 1) = omega arith in
    let last : get_or (byte ∷ second ∷ bytes) (length (byte ∷ second ∷ bytes) - 1) 0 ≡ get_or (second ∷ bytes) (length (second ∷ bytes) - 1) 0 =
    ap (λ (i : ℕ). get_or (byte ∷ second ∷ bytes) i 0) before in
    ap plain_place last
    ∙ last_decides (second ∷ bytes) (plain_place byte) (plain_place-unquoted byte) (All-tail NoQuote byte (second ∷ bytes) none) (omega arith)
    ∙ ap (λ (q : Place). fold next_place q (second ∷ bytes))
    (sym (unquoted_step p byte outside (All-head NoQuote byte (second ∷ bytes) none)))

-- ---- up to the next quote
pub no_quote_before : (text : List ℕ) (k : ℕ) → k ≤ length text → Nowhere (Passes (is_byte 34) text) 0 k → All NoQuote (take k text)
no_quote_before text k within nowhere i d below =
    let less : i < k = omega (arith, below, length-take-le k text within) in
    let same : get_or (take k text) i d ≡ slice_index text i =
    get_or-take k text i d less ∙ get_or_default text i d 0 (omega (arith, less, within)) in
    ap (λ (byte : ℕ). byte == 34) same ∙ false_from_ne_true _ (nowhere i (omega arith) less)

pub no_quote_in : (text : List ℕ) → Nowhere (Passes (is_byte 34) text) 0 (length text) → All NoQuote text
no_quote_in text nowhere i d below =
    ap (λ (byte : ℕ). byte == 34) (get_or_default text i d 0 below) ∙ false_from_ne_true _ (nowhere i (omega arith) below)

pub quote_taken : (text before after : List ℕ) (k : ℕ) (p q : Place) → k < length text → Passes (is_byte 34) text k
    → before ≡ take k text → after ≡ drop k text → q ≡ next_place (fold next_place p before) 34
    → fold next_place q (take (length after - 1) (drop 1 after)) ≡ fold next_place p text
quote_taken text before after k p q within is front back next =
    let first = slice_index text k in
    let rest = drop (k + 1) text in
    let there : after ≡ first ∷ rest = back ∙ at_drop_more (λ (l : List ℕ). l) text k 0 within in
    let left : take (length after - 1) (drop 1 after) ≡ rest =
    ap (λ (l : List ℕ). take (length l - 1) (drop 1 l)) there ∙ take_all _ rest (omega arith) in
    ap (fold next_place q) left
    ∙ ap (λ (r : Place). fold next_place r rest) next
    ∙ ap (λ (byte : ℕ). fold next_place (next_place (fold next_place p before) byte) rest) (sym (eqb-true first 34 is))
    ∙ ap (λ (l : List ℕ). fold next_place (fold next_place p l) (first ∷ rest)) front
    ∙ ap (fold next_place (fold next_place p (take k text))) (sym there ∙ back)
    ∙ sym (fold-append next_place p (take k text) (drop k text))
    ∙ ap (fold next_place p) (take-append-drop k text)
