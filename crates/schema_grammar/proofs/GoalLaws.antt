-- A goal is read exactly where the grammar has its dependency.
use Rattle.std.proofs.Common.{◌≡◌, ◌<◌, ◌+◌, inl, inr, ℕ, Bool, true, false, cond, List, [], ◌∷◌, ◌++◌, Option, Some, None, Ok, Err, refl, sym, ◌∙◌, ap, arith, ⊎_elim}
use Rattle.std.proofs.lemmas.Bool.{cases_Bool}
use Rattle.std.specs.List.{All}
use Rattle.std.proofs.lemmas.List.Elements.{All-cons, All-nil, All-head, All-tail}
use Rattle.schema_grammar.proofs.RefusalLemmas.{and_then-ok}
use Rattle.std.specs.Prelude.{◌↔◌}
use Rattle.attr_sets.specs.Attributes.{Attributes, only, none, union}
use Rattle.schema_model.specs.declared.naming.Naming.{Naming}
use Rattle.dep_model.specs.Dependencies.{Dependency}
use Rattle.schema_model.specs.Schemas.{attribute_named}
use Rattle.lexer.specs.Modes as mode
use Rattle.lexer.specs.declared.token.LexError.{LexError}
use Rattle.lexer.specs.declared.token.TokenKind.{TokenKind}
use Rattle.lexer.specs.declared.token.TokenKind.TheVariants as token
use Rattle.lexer.specs.Tokens.{Mark, Lexed, lex}
use Rattle.schema_grammar.proofs.SideLemmas.{union-only, union-none, attributes_of_words-cons}
use Rattle.schema_grammar.specs.declared.refusal.SchemaRefusalKind.TheVariants as kind
use Rattle.schema_grammar.specs.declared.symbol.Sign.{Sign}
use Rattle.schema_grammar.specs.declared.symbol.Sign.TheVariants as sign
use Rattle.schema_grammar.specs.declared.symbol.Symbol.TheVariants as symbol
use Rattle.schema_grammar.specs.declared.format.Format.{Format}
use Rattle.schema_grammar.specs.declared.format.Format.TheVariants as format
use Rattle.schema_grammar.specs.Grammar.{Reached, start, left, left_empty, after_sign, right, right_empty, advance, finish_dependency, dependency_of_sign}
use Rattle.schema_grammar.specs.Meanings.{HasTokens, attributes_of_words, IsAttribute, IsSide, IsArrow, IsDependency, MeansGoal}
use Rattle.schema_grammar.specs.Reading.{step, follow, read_goal, follow_rest}
use Rattle.schema_grammar.specs.Refusals.{at, expect}
use Rattle.schema_grammar.specs.Words.{is_word_token, is_reserved_token, look_up, known_attribute}
use Rattle.schema_grammar.proofs.WordLemmas.{symbol_of-word}
use Rattle.schema_grammar.specs.Rests.{◌>>=◌, rest_from}

-- after words of the left side: more words, an arrow, the right side
pub record LeftRest (f : Format) (declared : List (List ℕ)) (x : Attributes) (ms : List Mark) (d : Dependency) : Type 0 where
  pub words : List Mark
  pub arrow : Mark
  pub rhs : List Mark
  pub y : Attributes
  pub sign : Sign
  pub whole : ms ≡ words ++ arrow ∷ rhs
  pub each : All (IsAttribute f declared) words
  pub is_arrow : IsArrow sign arrow.kind
  pub right_side : IsSide f declared rhs y
  pub states : d ≡ dependency_of_sign sign (union x (attributes_of_words declared words)) y

-- after a left `()`: an arrow, the right side
pub record ArrowRest (f : Format) (declared : List (List ℕ)) (ms : List Mark) (d : Dependency) : Type 0 where
  pub arrow : Mark
  pub rhs : List Mark
  pub y : Attributes
  pub sign : Sign
  pub whole : ms ≡ arrow ∷ rhs
  pub is_arrow : IsArrow sign arrow.kind
  pub right_side : IsSide f declared rhs y
  pub states : d ≡ dependency_of_sign sign none y

-- after the arrow: the right side
pub record AfterSignRest (f : Format) (declared : List (List ℕ)) (s : Sign) (x : Attributes) (ms : List Mark) (d : Dependency) : Type 0 where
  pub y : Attributes
  pub right_side : IsSide f declared ms y
  pub states : d ≡ dependency_of_sign s x y

-- after words of the right side: more words
pub record RightRest (f : Format) (declared : List (List ℕ)) (s : Sign) (x y : Attributes) (ms : List Mark) (d : Dependency) : Type 0 where
  pub each : All (IsAttribute f declared) ms
  pub states : d ≡ dependency_of_sign s x (union y (attributes_of_words declared ms))

-- after a right `()`: nothing
pub record EndRest (s : Sign) (x : Attributes) (ms : List Mark) (d : Dependency) : Type 0 where
  pub nothing : ms ≡ []
  pub states : d ≡ dependency_of_sign s x none

-- what is left of a line makes the dependency, so far as it is read
abbrev pub Rest : Format → List (List ℕ) → Reached → List Mark → Dependency → Type 0
Rest f declared start ms d = IsDependency f declared ms d
Rest f declared (left x) ms d = LeftRest f declared x ms d
Rest f declared left_empty ms d = ArrowRest f declared ms d
Rest f declared (after_sign s x) ms d = AfterSignRest f declared s x ms d
Rest f declared (right s x y) ms d = RightRest f declared s x y ms d
Rest f declared (right_empty s x) ms d = EndRest s x ms d

abbrev mark : TokenKind → ℕ → ℕ → List ℕ → Mark
mark k column size word = record { kind = k; column = column; length = size; word = word }

-- a word that is read names an attribute, by which the reading goes on
record ReadsWord (f : Format) (declared : List (List ℕ)) (line : ℕ) (r : Reached) (m : Mark) (ms : List Mark) (d : Dependency) : Type 0 where
  is : IsAttribute f declared m
  goes_on : (at line m.column m.length (expect (advance r (symbol.Attribute is.index)))
      >>= (λ next. follow f declared line next (m.column + m.length) ms None)) ≡ Ok d

reads_word : (f : Format) (declared : List (List ℕ)) (line : ℕ) (r : Reached) (from : ℕ) (m : Mark) (ms : List Mark) (d : Dependency)
    → is_word_token m.kind ≡ true → follow f declared line r from (m ∷ ms) None ≡ Ok d
    → ReadsWord f declared line r m ms d
unfolding follow step look_up
reads_word f declared line r from m ms d is_word e =
    by_cases (is_reserved_token f m.kind m.word) (attribute_named declared m.word) refl refl
    (ap (λ o. at line m.column m.length (o >>= (λ s. expect (advance r s)))
    >>= (λ next. follow f declared line next (m.column + m.length) ms None))
    (sym (symbol_of-word f declared m.kind m.word is_word)) ∙ e)
  where
    by_cases : (b : Bool) (o : Option ℕ) → is_reserved_token f m.kind m.word ≡ b → attribute_named declared m.word ≡ o
        → (at line m.column m.length
        (cond b (Err kind.ReservedName) (known_attribute o) >>= (λ a. Ok (symbol.Attribute a))
        >>= (λ s. expect (advance r s)))
        >>= (λ next. follow f declared line next (m.column + m.length) ms None)) ≡ Ok d
        → ReadsWord f declared line r m ms d
    by_cases true o not_reserved lookup e = cc
    by_cases false None not_reserved lookup e = cc
    by_cases false (Some a) not_reserved lookup e =
        record { is = record { word = is_word; not_reserved = not_reserved; index = a; known = lookup }; goes_on = e }

end_makes : (f : Format) (declared : List (List ℕ)) (line column : ℕ) (r : Reached) (d : Dependency) → at line column 0 (expect (finish_dependency r)) ≡ Ok d → Rest f declared r [] d
unfolding finish_dependency
end_makes f declared line column (right s x y) d e = record {
  each = All-nil (IsAttribute f declared);
  states = let same : d ≡ dependency_of_sign s x y = cc in same ∙ ap (dependency_of_sign s x) (sym (union-none y (attributes_of_words declared []) refl));
}
end_makes f declared line column (right_empty s x) d e = record { nothing = refl; states = cc }
end_makes f declared line column r d e = cc

-- an arrow after words of the left side, and what is left after it
arrow_after_words : (f : Format) (declared : List (List ℕ)) (s : Sign) (x : Attributes) (m : Mark) (ms : List Mark)
    (d : Dependency) → IsArrow s m.kind → AfterSignRest f declared s x ms d → LeftRest f declared x (m ∷ ms) d
arrow_after_words f declared s x m ms d is more = record {
  words = [];
  arrow = m;
  rhs = ms;
  y = more.y;
  sign = s;
  whole = refl;
  each = All-nil (IsAttribute f declared);
  is_arrow = is;
  right_side = more.right_side;
  states = more.states
      ∙ ap (λ z. dependency_of_sign s z more.y) (sym (union-none x (attributes_of_words declared []) refl));
}

-- and after a left `()`
arrow_after_empty : (f : Format) (declared : List (List ℕ)) (s : Sign) (m : Mark) (ms : List Mark) (d : Dependency)
    → IsArrow s m.kind → AfterSignRest f declared s none ms d → ArrowRest f declared (m ∷ ms) d
arrow_after_empty f declared s m ms d is more = record {
  arrow = m;
  rhs = ms;
  y = more.y;
  sign = s;
  whole = refl;
  is_arrow = is;
  right_side = more.right_side;
  states = more.states;
}

-- what a word and the rest make, from what the rest makes
word_makes : (f : Format) (declared : List (List ℕ)) (line from : ℕ) (r : Reached) (m : Mark) (ms : List Mark) (d : Dependency)
    → is_word_token m.kind ≡ true
    → ((next : Reached) → follow f declared line next (m.column + m.length) ms None ≡ Ok d → Rest f declared next ms d)
    → follow f declared line r from (m ∷ ms) None ≡ Ok d → Rest f declared r (m ∷ ms) d
unfolding advance
word_makes f declared line from start m ms d is_word rest e =
    let reads = reads_word f declared line start from m ms d is_word e in
    let more : LeftRest f declared (only reads.is.index) ms d =
    rest (left (only reads.is.index)) reads.goes_on in
    record {
      lhs = m ∷ more.words;
      arrow = more.arrow;
      rhs = more.rhs;
      x = attributes_of_words declared (m ∷ more.words);
      y = more.y;
      sign = more.sign;
      whole = ap (λ t. m ∷ t) more.whole;
      left_side = inr (record {
        not_empty = omega arith;
        each = All-cons (IsAttribute f declared) _ _ reads.is more.each;
        members = refl;
      });
      is_arrow = more.is_arrow;
      right_side = more.right_side;
      states = more.states ∙ ap (λ z. dependency_of_sign more.sign z more.y)
          (sym (attributes_of_words-cons declared m more.words reads.is.index reads.is.known));
    }
word_makes f declared line from (left x) m ms d is_word rest e =
    let reads = reads_word f declared line (left x) from m ms d is_word e in
    let more : LeftRest f declared (union x (only reads.is.index)) ms d =
    rest (left (union x (only reads.is.index))) reads.goes_on in
    record {
      words = m ∷ more.words;
      arrow = more.arrow;
      rhs = more.rhs;
      y = more.y;
      sign = more.sign;
      whole = ap (λ t. m ∷ t) more.whole;
      each = All-cons (IsAttribute f declared) _ _ reads.is more.each;
      is_arrow = more.is_arrow;
      right_side = more.right_side;
      states = more.states ∙ ap (λ z. dependency_of_sign more.sign z more.y)
          (union-only x (attributes_of_words declared more.words) reads.is.index
          ∙ ap (union x)
          (sym (attributes_of_words-cons declared m more.words reads.is.index reads.is.known)));
    }
word_makes f declared line from left_empty m ms d is_word rest e =
    let wrong = (reads_word f declared line left_empty from m ms d is_word e).goes_on in cc
word_makes f declared line from (after_sign s x) m ms d is_word rest e =
    let reads = reads_word f declared line (after_sign s x) from m ms d is_word e in
    let more : RightRest f declared s x (only reads.is.index) ms d =
    rest (right s x (only reads.is.index)) reads.goes_on in
    record {
      y = attributes_of_words declared (m ∷ ms);
      right_side = inr (record {
        not_empty = omega arith;
        each = All-cons (IsAttribute f declared) _ _ reads.is more.each;
        members = refl;
      });
      states = more.states ∙ ap (dependency_of_sign s x)
          (sym (attributes_of_words-cons declared m ms reads.is.index reads.is.known));
    }
word_makes f declared line from (right s x y) m ms d is_word rest e =
    let reads = reads_word f declared line (right s x y) from m ms d is_word e in
    let more : RightRest f declared s x (union y (only reads.is.index)) ms d =
    rest (right s x (union y (only reads.is.index))) reads.goes_on in
    record {
      each = All-cons (IsAttribute f declared) _ _ reads.is more.each;
      states = more.states ∙ ap (dependency_of_sign s x) (union-only y (attributes_of_words declared ms) reads.is.index
          ∙ ap (union y) (sym (attributes_of_words-cons declared m ms reads.is.index reads.is.known)));
    }
word_makes f declared line from (right_empty s x) m ms d is_word rest e =
    let wrong = (reads_word f declared line (right_empty s x) from m ms d is_word e).goes_on in cc

-- and what another token does
token_makes : (f : Format) (declared : List (List ℕ)) (line from : ℕ) (r : Reached) (k : TokenKind) (column size : ℕ) (word : List ℕ) (ms : List Mark) (d : Dependency)
    → is_word_token k ≡ false
    → ((next : Reached) → follow f declared line next (column + size) ms None ≡ Ok d → Rest f declared next ms d)
    → follow f declared line r from (mark k column size word ∷ ms) None ≡ Ok d → Rest f declared r (mark k column size word ∷ ms) d
unfolding follow step advance
token_makes f declared line from start token.Empty column size word ms d other rest e =
    let more : ArrowRest f declared ms d = rest left_empty e in
    record {
      lhs = mark token.Empty column size word ∷ [];
      arrow = more.arrow;
      rhs = more.rhs;
      x = none;
      y = more.y;
      sign = more.sign;
      whole = ap (λ t. mark token.Empty column size word ∷ t) more.whole;
      left_side = inl (record { mark = mark token.Empty column size word; alone = refl; is_empty = refl; nothing = refl });
      is_arrow = more.is_arrow;
      right_side = more.right_side;
      states = more.states;
    }
token_makes f declared line from (left x) token.Arrow column size word ms d other rest e =
    arrow_after_words f declared sign.Functional x (mark token.Arrow column size word) ms d refl (rest (after_sign sign.Functional x) e)
token_makes f declared line from (left x) token.DoubleArrow column size word ms d other rest e =
    arrow_after_words f declared sign.Multivalued x (mark token.DoubleArrow column size word) ms d refl (rest (after_sign sign.Multivalued x) e)
token_makes f declared line from left_empty token.Arrow column size word ms d other rest e =
    arrow_after_empty f declared sign.Functional (mark token.Arrow column size word) ms d refl (rest (after_sign sign.Functional none) e)
token_makes f declared line from left_empty token.DoubleArrow column size word ms d other rest e =
    arrow_after_empty f declared sign.Multivalued (mark token.DoubleArrow column size word) ms d refl (rest (after_sign sign.Multivalued none) e)
token_makes f declared line from (after_sign s x) token.Empty column size word ms d other rest e =
    let more : EndRest s x ms d = rest (right_empty s x) e in
    record { y = none; right_side = inl (record { mark = mark token.Empty column size word; alone = ap (λ t. mark token.Empty column size word ∷ t) more.nothing; is_empty = refl; nothing = refl }); states = more.states }
token_makes f declared line from (right s x y) token.Identifier column size word ms d other rest e = cc
token_makes f declared line from (right_empty s x) token.Identifier column size word ms d other rest e = cc
token_makes f declared line from r k column size word ms d other rest e = cc

-- the tokens that are read make the dependency
pub marks_make : (f : Format) (declared : List (List ℕ)) (line from : ℕ) (r : Reached) (ms : List Mark) (d : Dependency)
    → follow f declared line r from ms None ≡ Ok d → Rest f declared r ms d
unfolding follow
marks_make f declared line from r [] d e = end_makes f declared line from r d e
marks_make f declared line from r (m ∷ ms) d e =
    ⊎_elim
    (λ is. word_makes f declared line from r m ms d is (λ next h. marks_make f declared line (m.column + m.length) next ms d h) e)
    (λ other. token_makes f declared line from r m.kind m.column m.length m.word ms d other
    (λ next h. marks_make f declared line (m.column + m.length) next ms d h) e)
    (cases_Bool (is_word_token m.kind))

-- a word that names an attribute is read
word_read : (f : Format) (declared : List (List ℕ)) (line : ℕ) (r : Reached) (from : ℕ) (m : Mark) (ms : List Mark) (stop : Option LexError) (attribute : IsAttribute f declared m)
    → follow f declared line r from (m ∷ ms) stop
    ≡ (at line m.column m.length (expect (advance r (symbol.Attribute attribute.index))) >>= (λ next. follow f declared line next (m.column + m.length) ms stop))
unfolding follow step look_up
word_read f declared line r from m ms stop attribute =
    rw (symbol_of-word f declared m.kind m.word attribute.word, attribute.not_reserved, attribute.known) refl

right_read : (f : Format) (declared : List (List ℕ)) (line : ℕ) (s : Sign) (x y : Attributes) (from : ℕ) (ms : List Mark) → All (IsAttribute f declared) ms
    → follow f declared line (right s x y) from ms None ≡ Ok (dependency_of_sign s x (union y (attributes_of_words declared ms)))
unfolding follow finish_dependency advance
right_read f declared line s x y from [] each = ap (λ z. Ok (dependency_of_sign s x z)) (sym (union-none y (attributes_of_words declared []) refl))
right_read f declared line s x y from (m ∷ ms) each =
    let here : IsAttribute f declared m = All-head (IsAttribute f declared) m ms each in
    let there : All (IsAttribute f declared) ms = All-tail (IsAttribute f declared) m ms each in
    word_read f declared line (right s x y) from m ms None here
    ∙ right_read f declared line s x (union y (only here.index)) (m.column + m.length) ms there
    ∙ ap (λ z. Ok (dependency_of_sign s x z)) (union-only y (attributes_of_words declared ms) here.index ∙ ap (union y) (sym (attributes_of_words-cons declared m ms here.index here.known)))

pub side_read : (f : Format) (declared : List (List ℕ)) (line : ℕ) (s : Sign) (x y : Attributes) (from : ℕ) (ms : List Mark) → IsSide f declared ms y
    → follow f declared line (after_sign s x) from ms None ≡ Ok (dependency_of_sign s x y)
unfolding follow step finish_dependency advance
side_read f declared line s x y from ms (inl empty) = rw (empty.alone, empty.is_empty, empty.nothing) refl
side_read f declared line s x y from [] (inr words) = let not_empty : 0 < 0 = words.not_empty in absurd (omega arith)
side_read f declared line s x y from (m ∷ ms) (inr words) =
    let here : IsAttribute f declared m = All-head (IsAttribute f declared) m ms words.each in
    let there : All (IsAttribute f declared) ms = All-tail (IsAttribute f declared) m ms words.each in
    word_read f declared line (after_sign s x) from m ms None here
    ∙ right_read f declared line s x (only here.index) (m.column + m.length) ms there
    ∙ ap (λ z. Ok (dependency_of_sign s x z)) (sym (attributes_of_words-cons declared m ms here.index here.known) ∙ sym words.members)

-- an arrow is read after a left side
arrow_read : (f : Format) (declared : List (List ℕ)) (line : ℕ) (r : Reached) (s : Sign) (x : Attributes)
    (from : ℕ) (m : Mark) (ms : List Mark)
    → advance r (symbol.Arrow s) ≡ Ok (after_sign s x) → IsArrow s m.kind
    → follow f declared line r from (m ∷ ms) None ≡ follow f declared line (after_sign s x)
    (m.column + m.length) ms None
unfolding follow step
arrow_read f declared line r sign.Functional x from m ms turns e = rw (e, turns) refl
arrow_read f declared line r sign.Multivalued x from m ms turns e = rw (e, turns) refl

left_read : (f : Format) (declared : List (List ℕ)) (line : ℕ) (s : Sign) (x y : Attributes) (from : ℕ) (words : List Mark) (arrow : Mark) (rhs : List Mark)
    → All (IsAttribute f declared) words → IsArrow s arrow.kind → IsSide f declared rhs y
    → follow f declared line (left x) from (words ++ arrow ∷ rhs) None ≡ Ok (dependency_of_sign s (union x (attributes_of_words declared words)) y)
unfolding advance
left_read f declared line s x y from [] arrow rhs each is_arrow side =
    arrow_read f declared line (left x) s x from arrow rhs refl is_arrow
    ∙ side_read f declared line s x y (arrow.column + arrow.length) rhs side
    ∙ ap (λ z. Ok (dependency_of_sign s z y)) (sym (union-none x (attributes_of_words declared []) refl))
left_read f declared line s x y from (m ∷ words) arrow rhs each is_arrow side =
    let here : IsAttribute f declared m = All-head (IsAttribute f declared) m words each in
    let there : All (IsAttribute f declared) words = All-tail (IsAttribute f declared) m words each in
    word_read f declared line (left x) from m (words ++ arrow ∷ rhs) None here
    ∙ left_read f declared line s (union x (only here.index)) y (m.column + m.length) words arrow rhs there is_arrow side
    ∙ ap (λ z. Ok (dependency_of_sign s z y)) (union-only x (attributes_of_words declared words) here.index ∙ ap (union x) (sym (attributes_of_words-cons declared m words here.index here.known)))

sides_read : (f : Format) (declared : List (List ℕ)) (line : ℕ) (s : Sign) (x y : Attributes) (from : ℕ) (lhs : List Mark) (arrow : Mark) (rhs : List Mark)
    → IsSide f declared lhs x → IsArrow s arrow.kind → IsSide f declared rhs y
    → follow f declared line start from (lhs ++ arrow ∷ rhs) None ≡ Ok (dependency_of_sign s x y)
unfolding follow step advance
sides_read f declared line s x y from lhs arrow rhs (inl empty) is_arrow side =
    rw (empty.alone, empty.is_empty, empty.nothing)
    (arrow_read f declared line left_empty s none (empty.mark.column + empty.mark.length) arrow rhs refl is_arrow
    ∙ side_read f declared line s none y (arrow.column + arrow.length) rhs side)
sides_read f declared line s x y from [] arrow rhs (inr words) is_arrow side = let not_empty : 0 < 0 = words.not_empty in absurd (omega arith)
sides_read f declared line s x y from (m ∷ ms) arrow rhs (inr words) is_arrow side =
    let here : IsAttribute f declared m = All-head (IsAttribute f declared) m ms words.each in
    let there : All (IsAttribute f declared) ms = All-tail (IsAttribute f declared) m ms words.each in
    word_read f declared line start from m (ms ++ arrow ∷ rhs) None here
    ∙ left_read f declared line s (only here.index) y (m.column + m.length) ms arrow rhs there is_arrow side
    ∙ ap (λ z. Ok (dependency_of_sign s z y)) (sym (attributes_of_words-cons declared m ms here.index here.known) ∙ sym words.members)

-- a line is read as a dependency exactly where its tokens state it
pub dependency-law : (f : Format) (declared : List (List ℕ)) (line from : ℕ) (ms : List Mark) (d : Dependency)
    → (follow f declared line start from ms None ≡ Ok d) ↔ IsDependency f declared ms d
dependency-law f declared line from ms d = (marks_make f declared line from start ms d, back)
  where
    back : IsDependency f declared ms d → follow f declared line start from ms None ≡ Ok d
    back is = rw (is.whole, is.states) (sides_read f declared line is.sign is.x is.y from is.lhs is.arrow is.rhs is.left_side is.is_arrow is.right_side)

pub follow_has_no_stop : (f : Format) (declared : List (List ℕ)) (line : ℕ) (r : Reached) (from : ℕ) (ms : List Mark)
    (stop : LexError) (d : Dependency)
    → follow f declared line r from ms (Some stop) ≡ Ok d → ⊥
unfolding follow
follow_has_no_stop f declared line r from [] stop d e = cc
follow_has_no_stop f declared line r from (m ∷ ms) stop d e =
    let two = and_then-ok (at line m.column m.length (step f declared r m.kind m.word)) _ d e in
    follow_has_no_stop f declared line two.x (m.column + m.length) ms stop d two.second

-- only a line with a line's end is read
pub no_stop : (f : Format) (declared : List (List ℕ)) (line : ℕ) (r : Reached) (from : ℕ) (l : Lexed) (d : Dependency)
    → follow_rest f declared r (rest_from line from l) ≡ Ok d → HasTokens l l.marks
no_stop f declared line r from l d e = by_cases l.stop refl
  where
    by_cases : (o : Option LexError) → l.stop ≡ o → HasTokens l l.marks
    by_cases None same = λ i. record { marks = l.marks; stop = same i }
    by_cases (Some stop) same =
        absurd (follow_has_no_stop f declared line r from l.marks stop d
        (ap (follow f declared line r from l.marks) (sym same) ∙ e))

pub goal-law : (naming : Naming) (declared : List (List ℕ)) (text : List ℕ) (d : Dependency) → (read_goal naming declared text ≡ Ok d) ↔ MeansGoal naming declared text d
goal-law naming declared text d = (there, back)
  where
    there : read_goal naming declared text ≡ Ok d → MeansGoal naming declared text d
    there e =
        let whole = no_stop format.Plain declared 1 start 1 (lex (mode.goal naming) text) d e in
        let here : follow_rest format.Plain declared start (rest_from 1 1 (record { marks = (lex (mode.goal naming) text).marks; stop = None })) ≡ Ok d = ap (λ l. follow_rest format.Plain declared start (rest_from 1 1 l)) (sym whole) ∙ e in
        record { marks = (lex (mode.goal naming) text).marks; tokens = whole; dependency = (dependency-law format.Plain declared 1 1 _ d).0 here }

    back : MeansGoal naming declared text d → read_goal naming declared text ≡ Ok d
    back means = ap (λ l. follow_rest format.Plain declared start (rest_from 1 1 l)) means.tokens ∙ (dependency-law format.Plain declared 1 1 means.marks d).1 means.dependency
