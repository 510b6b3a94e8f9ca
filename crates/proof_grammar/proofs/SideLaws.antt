-- A side of a line is read exactly where the grammar has one.
use Rattle.std.proofs.Common.{◌≡◌, ◌<◌, ◌+◌, ⊎_elim, inl, inr, ℕ, Bool, true, false, cond, List, [], ◌∷◌, ◌++◌, Option, Some, None, Ok, Err, Result, refl, sym, ◌∙◌, ap, subst, arith}
use Rattle.std.specs.List.{All}
use Rattle.std.proofs.lemmas.Bool.{cases_Bool}
use Rattle.std.proofs.lemmas.List.Elements.{All-cons, All-nil, All-head, All-tail}
use Rattle.attr_sets.specs.Attributes.{Attributes, only, union}
use Rattle.schema_model.specs.Schemas.{attribute_named}
use Rattle.derivation.proofs.RuleTableLemmas.{the_ok}
use Rattle.lexer.specs.declared.token.LexError.{LexError}
use Rattle.lexer.specs.declared.token.TokenKind.{TokenKind}
use Rattle.lexer.specs.declared.token.TokenKind.TheVariants as token
use Rattle.lexer.specs.Tokens.{Mark}
use Rattle.schema_grammar.specs.declared.refusal.SchemaRefusal.{SchemaRefusal}
use Rattle.schema_grammar.specs.declared.refusal.SchemaRefusalKind.TheVariants as kind
use Rattle.schema_grammar.specs.declared.refusal.What.{What}
use Rattle.schema_grammar.specs.declared.refusal.What.TheVariants as what
use Rattle.schema_grammar.specs.declared.format.Format.TheVariants as format
use Rattle.schema_grammar.specs.Meanings.{attributes_of_words, IsAttribute, IsSide}
use Rattle.schema_grammar.specs.Refusals.{at}
use Rattle.schema_grammar.specs.Words.{is_word_token, is_reserved_token, look_up, known_attribute}
use Rattle.schema_grammar.proofs.SideLemmas.{union-only, union-none, attributes_of_words-cons, Names}
use Rattle.schema_grammar.specs.Rests.{◌>>=◌, attribute_of_word, Rest, take, take_from, words, words_from, side, side_from}
use Rattle.proof_grammar.proofs.CheckedLemmas.{bind_ok}

-- ---- one token
-- what is left of a line before and after a token
pub record Takes (r : Rest) (m : Mark) (next : Rest) : Type 0 where
  pub marks : r.marks ≡ m ∷ next.marks
  pub stop : next.stop ≡ r.stop

pub take_there : (want : What) (r : Rest) (t : Mark × Rest) → take want r ≡ Ok t → Takes r t.0 t.1
unfolding take
take_there want r t e = by_cases r.marks r.stop e
  where
    by_cases : (ms : List Mark) (stop : Option LexError) → take_from want r.line r.next_column ms stop ≡ Ok t
        → Takes (record { line = r.line; next_column = r.next_column; marks = ms; stop = stop }) t.0 t.1
    by_cases [] None e = cc
    by_cases [] (Some stop) e = cc
    by_cases (m ∷ ms) stop e =
        subst (λ (u : Mark × Rest). Takes (record {
          line = r.line;
          next_column = r.next_column;
          marks = m ∷ ms;
          stop = stop;
        }) u.0 u.1) (the_ok _ t e)
        (record { marks = refl; stop = refl })

-- ---- words
attribute_there : (names : List (List ℕ)) (line : ℕ) (m : Mark) (a : ℕ) → attribute_of_word names line m ≡ Ok a → Names format.Plain names m.kind m.word a
unfolding look_up
attribute_there names line m a e = by_cases (is_reserved_token format.Plain m.kind m.word) (attribute_named names m.word) refl refl e
  where
    by_cases : (b : Bool) (o : Option ℕ) → is_reserved_token format.Plain m.kind m.word ≡ b → attribute_named names m.word ≡ o
        → at line m.column m.length (cond b (Err kind.ReservedName) (known_attribute o)) ≡ Ok a → Names format.Plain names m.kind m.word a
    by_cases true o not_reserved lookup e = cc
    by_cases false None not_reserved lookup e = cc
    by_cases false (Some c) not_reserved lookup e = record { not_reserved = not_reserved; lookup = let same : c ≡ a = cc in lookup ∙ ap Some same }

attribute_back : (names : List (List ℕ)) (line : ℕ) (m : Mark) (attribute : IsAttribute format.Plain names m) → attribute_of_word names line m ≡ Ok attribute.index
unfolding look_up
attribute_back names line m attribute = rw (attribute.not_reserved, attribute.known) refl

-- words that are read, and what they add to a set
record ReadsWords (names : List (List ℕ)) (acc : Attributes) (marks : List Mark) (stop : Option LexError) (x : Attributes) (next : Rest) : Type 0 where
  words : List Mark
  whole : marks ≡ words ++ next.marks
  each : All (IsAttribute format.Plain names) words
  members : x ≡ union acc (attributes_of_words names words)
  same_stop : next.stop ≡ stop

words_none : (names : List (List ℕ)) (acc : Attributes) (r : Rest) (x : Attributes) (next : Rest) → ◌≡◌ {A = Result (Attributes × Rest) SchemaRefusal} (Ok (acc, r)) (Ok (x, next)) → ReadsWords names acc r.marks r.stop x next
words_none names acc r x next e =
    subst (λ (u : Attributes × Rest). ReadsWords names acc r.marks r.stop u.0 u.1) (the_ok _ (x, next) e)
    (record {
      words = [];
      whole = refl;
      each = All-nil (IsAttribute format.Plain names);
      members = sym (union-none acc (attributes_of_words names []) refl);
      same_stop = refl;
    })

words_there : (names : List (List ℕ)) (line : ℕ) (acc : Attributes) (next_column : ℕ) (marks : List Mark) (stop : Option LexError) (x : Attributes) (next : Rest)
    → words_from names line acc next_column marks stop ≡ Ok (x, next) → ReadsWords names acc marks stop x next
unfolding words_from
words_there names line acc next_column [] stop x next e = words_none names acc _ x next e
words_there names line acc next_column (m ∷ ms) stop x next e =
    ⊎_elim
    (λ (is : is_word_token m.kind ≡ true).
    let here = bind_ok (attribute_of_word names line m) _ (x, next) (rw is at e) in
    let names_it = attribute_there names line m here.0 here.1 in
    let rest = words_there names line (union acc (only here.0))
    (m.column + m.length) ms stop x next here.2 in
    record {
      words = m ∷ rest.words;
      whole = ap (λ t. m ∷ t) rest.whole;
      each = All-cons (IsAttribute format.Plain names) m rest.words
          (record {
            word = is;
            not_reserved = names_it.not_reserved;
            index = here.0;
            known = names_it.lookup;
          }) rest.each;
      members = rest.members ∙ union-only acc (attributes_of_words names rest.words) here.0
          ∙ ap (union acc) (sym (attributes_of_words-cons names m rest.words here.0 names_it.lookup));
      same_stop = rest.same_stop;
    })
    (λ (other : is_word_token m.kind ≡ false). words_none names acc _ x next (rw other at e))
    (cases_Bool (is_word_token m.kind))

-- a side that is read
pub record ReadsSide (names : List (List ℕ)) (r : Rest) (x : Attributes) (next : Rest) : Type 0 where
  pub marks : List Mark
  pub whole : r.marks ≡ marks ++ next.marks
  pub is_side : IsSide format.Plain names marks x
  pub stop : next.stop ≡ r.stop

pub side_there : (names : List (List ℕ)) (r : Rest) (s : Attributes × Rest) → side names r ≡ Ok s → ReadsSide names r s.0 s.1
unfolding side
side_there names r s e =
    let first = bind_ok (take what.Side r) _ s e in
    by_cases first.0.0 first.0.1 (take_there what.Side r first.0 first.1) first.0.0.kind refl first.2
  where
    word : (m : Mark) (next_column : Rest) → Takes r m next_column → is_word_token m.kind ≡ true
        → (attribute_of_word names next_column.line m >>= λ a. words names (only a) next_column) ≡ Ok s → ReadsSide names r s.0 s.1
    word m next_column takes is e =
        let here = bind_ok (attribute_of_word names next_column.line m) _ s e in
        let names_it = attribute_there names next_column.line m here.0 here.1 in
        let rest = words_there names next_column.line
        (only here.0) next_column.next_column next_column.marks next_column.stop s.0 s.1 here.2 in
        record {
          marks = m ∷ rest.words;
          whole = takes.marks ∙ ap (λ t. m ∷ t) rest.whole;
          is_side = inr (record {
            not_empty = omega arith;
            each = All-cons (IsAttribute format.Plain names) m rest.words
                (record { word = is; not_reserved = names_it.not_reserved; index = here.0; known = names_it.lookup }) rest.each;
            members = rest.members ∙ sym (attributes_of_words-cons names m rest.words here.0 names_it.lookup);
          });
          stop = rest.same_stop ∙ takes.stop;
        }

    by_cases : (m : Mark) (next_column : Rest) → Takes r m next_column → (k : TokenKind) → m.kind ≡ k → side_from names m next_column k ≡ Ok s → ReadsSide names r s.0 s.1
    by_cases m next_column takes token.Identifier is e = word m next_column takes (ap is_word_token is) e
    by_cases m next_column takes token.Quoted is e = word m next_column takes (ap is_word_token is) e
    by_cases m next_column takes token.Empty is e =
        subst (λ (u : Attributes × Rest). ReadsSide names r u.0 u.1) (the_ok _ s e)
        (record {
          marks = m ∷ [];
          whole = takes.marks;
          is_side = inl (record { mark = m; alone = refl; is_empty = is; nothing = refl });
          stop = takes.stop;
        })
    by_cases m next_column takes _ is e = cc

-- ---- back
-- what is left of a line
abbrev left_at : ℕ → ℕ → List Mark → Option LexError → Rest
left_at line next_column marks stop = record { line = line; next_column = next_column; marks = marks; stop = stop }

-- what stands after words is no word
abbrev pub NoWord : List Mark → Type 0
NoWord [] = Unit {0}
NoWord (m ∷ ms) = is_word_token m.kind ≡ false

record WordsRead (names : List (List ℕ)) (line : ℕ) (acc : Attributes) (from : ℕ) (words tail : List Mark) (stop : Option LexError) (x : Attributes) : Type 0 where
  next_column : ℕ
  read : words_from names line acc from (words ++ tail) stop ≡ Ok (x, left_at line next_column tail stop)

words_back : (names : List (List ℕ)) (line : ℕ) (acc : Attributes) (from : ℕ) (words tail : List Mark) (stop : Option LexError) → All (IsAttribute format.Plain names) words → NoWord tail
    → WordsRead names line acc from words tail stop (union acc (attributes_of_words names words))
unfolding words_from
words_back names line acc from [] [] stop each other = record {
  next_column = from;
  read = ap (λ (x : Attributes). Ok (x, left_at line from [] stop)) (sym (union-none acc (attributes_of_words names []) refl));
}
words_back names line acc from [] (m ∷ ms) stop each other = record {
  next_column = from;
  read = rw other
      (ap (λ (x : Attributes). Ok (x, left_at line from (m ∷ ms) stop)) (sym (union-none acc (attributes_of_words names []) refl)));
}
words_back names line acc from (m ∷ words) tail stop each other =
    let here : IsAttribute format.Plain names m = All-head (IsAttribute format.Plain names) m words each in
    let there : All (IsAttribute format.Plain names) words = All-tail (IsAttribute format.Plain names) m words each in
    let rest = words_back names line (union acc (only here.index)) (m.column + m.length) words tail stop there other in
    let members = union-only acc (attributes_of_words names words) here.index ∙ ap (union acc) (sym (attributes_of_words-cons names m words here.index here.known)) in
    record {
      next_column = rest.next_column;
      read = simp (here.word, attribute_back names line m here)
          (rest.read ∙ ap (λ (x : Attributes). Ok (x, left_at line rest.next_column tail stop)) members);
    }

-- a side that is read from a column
pub record SideRead (names : List (List ℕ)) (line from : ℕ) (marks tail : List Mark) (stop : Option LexError) (x : Attributes) : Type 0 where
  pub next_column : ℕ
  pub read : side names (left_at line from (marks ++ tail) stop) ≡ Ok (x, left_at line next_column tail stop)

-- a word or a quoted name begins a side
side_from-word : (names : List (List ℕ)) (m : Mark) (r : Rest) (k : TokenKind) → is_word_token k ≡ true
    → side_from names m r k ≡ (attribute_of_word names r.line m >>= λ a. words names (only a) r)
side_from-word names m r token.Identifier is = refl
side_from-word names m r token.Quoted is = refl
side_from-word names m r k is = cc

pub side-from : (names : List (List ℕ)) (line from : ℕ) (marks tail : List Mark) (stop : Option LexError) (x : Attributes) → IsSide format.Plain names marks x → NoWord tail
    → SideRead names line from marks tail stop x
unfolding side take
side-from names line from marks tail stop x (inl empty) other = record { next_column = empty.mark.column + empty.mark.length; read = rw (empty.alone, empty.is_empty, empty.nothing) refl }
side-from names line from [] tail stop x (inr words) other = let not_empty : 0 < 0 = words.not_empty in absurd (omega arith)
side-from names line from (m ∷ marks) tail stop x (inr words) other =
    let here : IsAttribute format.Plain names m = All-head (IsAttribute format.Plain names) m marks words.each in
    let there : All (IsAttribute format.Plain names) marks = All-tail (IsAttribute format.Plain names) m marks words.each in
    let rest = words_back names line (only here.index) (m.column + m.length) marks tail stop there other in
    let members = sym (attributes_of_words-cons names m marks here.index here.known) ∙ sym words.members in
    record {
      next_column = rest.next_column;
      read = side_from-word names m (left_at line (m.column + m.length) (marks ++ tail) stop) m.kind here.word
          ∙ rw (attribute_back names line m here)
          (rest.read ∙ ap (λ (z : Attributes). Ok (z, left_at line rest.next_column tail stop)) members);
    }
