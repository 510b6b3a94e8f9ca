-- What is read of a line by what comes next on it.
use Rattle.std.proofs.Common.{◌≡◌, ℕ, true, false, List, [], Some, None, Ok, Err, length, refl}
use Rattle.attr_sets.specs.Attributes.{Attributes, below, union, only, IsSubset}
use Rattle.lexer.specs.Tokens.{Mark}
use Rattle.schema_grammar.specs.declared.refusal.SchemaRefusal.{SchemaRefusal}
use Rattle.schema_grammar.specs.declared.refusal.SchemaRefusalKind.TheVariants as kind
use Rattle.schema_grammar.specs.declared.refusal.What.{What}
use Rattle.schema_grammar.specs.declared.refusal.What.TheVariants as what
use Rattle.schema_grammar.specs.Refusals.{refusal}
use Rattle.schema_grammar.specs.Rests.{Rest, take, refusal_at_end, refusal_of_token, attribute_of_word, words, words_from}
use Rattle.schema_grammar.specs.Words.{is_word_token}
use Rattle.tokens.specs.Views.{HasEnded, IsStopped, IsLed}

-- ---- a token
pub take_ended : (want : What) (r : Rest) → HasEnded r → take want r ≡ Err (refusal r.line r.next_column 0 (kind.Expected want))
unfolding take
take_ended want r ended = rw (ended.marks, ended.stop) refl

pub take_stopped : (want : What) (r : Rest) (e : SchemaRefusal) → IsStopped r e → take want r ≡ Err e
unfolding take
take_stopped want r e stopped = rw (stopped.marks, stopped.stop, stopped.refusal) refl

pub take_led : (want : What) (r : Rest) (m : Mark) (after : Rest) → IsLed r m after → take want r ≡ Ok (m, after)
unfolding take
take_led want r m after led = rw (led.marks, led.stop, ← led.line, ← led.column) refl

-- ---- the line's end
pub end_ended : (r : Rest) → HasEnded r → refusal_at_end r ≡ None
unfolding refusal_at_end
end_ended r ended = rw (ended.marks, ended.stop) refl

pub end_stopped : (r : Rest) (e : SchemaRefusal) → IsStopped r e → refusal_at_end r ≡ Some e
unfolding refusal_at_end
end_stopped r e stopped = rw (stopped.marks, stopped.stop, stopped.refusal) refl

pub end_led : (r : Rest) (m : Mark) (after : Rest) → IsLed r m after → refusal_at_end r ≡ Some (refusal_of_token what.LineEnd m r)
unfolding refusal_at_end
end_led r m after led = rw led.marks refl

-- ---- words
-- to read the words that are left of a side is to read the whole
pub record GoesOn (names : List (List ℕ)) (first : Attributes) (whole : Rest) (x : Attributes) (rest : Rest) : Type 0 where
  pub same : words names first whole ≡ words names x rest
  pub within : IsSubset x (below (length names))

pub words_here : (names : List (List ℕ)) (x : Attributes) (r : Rest) → r.marks ≡ [] → words names x r ≡ Ok (x, r)
unfolding words_from
words_here names x r none = rw (none, ← none) refl

pub words_before : (names : List (List ℕ)) (x : Attributes) (r : Rest) (m : Mark) (after : Rest) → IsLed r m after → is_word_token m.kind ≡ false
    → words names x r ≡ Ok (x, r)
unfolding words_from
words_before names x r m after led other = rw (led.marks, other, ← led.marks) refl

pub words_refused : (names : List (List ℕ)) (x : Attributes) (r : Rest) (m : Mark) (after : Rest) (e : SchemaRefusal) → IsLed r m after
    → is_word_token m.kind ≡ true → attribute_of_word names r.line m ≡ Err e → words names x r ≡ Err e
unfolding words_from
words_refused names x r m after e led word refused = rw (led.marks, word, refused) refl

pub words_more : (names : List (List ℕ)) (x : Attributes) (r : Rest) (m : Mark) (after : Rest) (a : ℕ) → IsLed r m after
    → is_word_token m.kind ≡ true → attribute_of_word names r.line m ≡ Ok a → words names x r ≡ words names (union x (only a)) after
unfolding words_from
words_more names x r m after a led word read = rw (led.marks, word, read, led.stop, led.line, led.column) refl
