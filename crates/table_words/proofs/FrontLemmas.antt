-- A quoted name at the front of a text, and what stands behind it.
use Rattle.std.proofs.Common.{◌≡◌, ◌+◌, ℕ, true, Option, Some, List, take, drop, option_map, ap, sym, ◌∙◌, refl}
use Rattle.std.proofs.lemmas.List.{drop-drop}
use Rattle.lexer.specs.Quotes.{is_name, closing_quote, undoubled}
use Rattle.table_words.specs.Parts.{Front, after_dot, before_dot, quoted_front}

quoted_some : (text : List ℕ) (n : ℕ) → is_name (undoubled (take n text)) ≡ true
    → quoted_front text (Some n) ≡ before_dot (record { name = undoubled (take n text); quoted = true }) (drop (n + 1) text)
quoted_some text n e = rw e refl

pub quoted_so : (text inner after behind name : List ℕ) (end : ℕ) (rest : Option (Option (List ℕ))) → Some end ≡ closing_quote text
    → inner ≡ take end text → after ≡ drop end text → behind ≡ drop 1 after → is_name (undoubled inner) ≡ true
    → name ≡ undoubled inner → rest ≡ after_dot behind
    → option_map (λ (r : Option (List ℕ)). let f : Front = record { part = record { name = name; quoted = true }; rest = r } in f) rest
    ≡ quoted_front text (closing_quote text)
quoted_so text inner after behind name end rest closes front back more named is left =
    let whole : is_name (undoubled (take end text)) ≡ true = ap (λ (t : List ℕ). is_name (undoubled t)) (sym front) ∙ named in
    let spelled : undoubled (take end text) ≡ name = ap undoubled (sym front) ∙ sym is in
    let stands : drop (end + 1) text ≡ behind = sym (drop-drop 1 end text) ∙ ap (drop 1) (sym back) ∙ sym more in
    sym (ap (quoted_front text) (sym closes) ∙ quoted_some text end whole
    ∙ rw (spelled, stands, ← left) refl)
