-- A list of columns, token by token: what a token names after others, or why it is refused.
use Rattle.std.specs.Prelude.{AllPairs, Contains}
use Rattle.std.specs.List.{All, AllZip, list_any, position_or_len, slice_get}
use Rattle.std.specs.Option.{is_some}
use Rattle.std.specs.Str.{bytes_eq, str_to_ascii_lowercase}
use Rattle.std.proofs.Common.{inl, inr, ◌≡◌, ◌<◌, ◌≤◌, ◌+◌, ◌⊎◌, ℕ, zero, suc, Bool, true, false, true≢false, cond, nat_lt, if◌then◌else◌, ◌==◌, List, [], ◌∷◌, ◌++◌, length, map, take, get_or, position, Option, Some, None, Ok, Err, Result, refl, sym, ap, subst, ◌∙◌, ⊎_elim, arith}
use Rattle.std.proofs.lemmas.Bool.{cases_Bool, cases_lt, lt-ltb}
use Rattle.std.proofs.lemmas.Slice.Eq.{bytes_eq-Decides}
use Rattle.std.proofs.lemmas.List.{get_or-map, length-map}
use Rattle.std.proofs.lemmas.List.Elements.{Contains-get_or}
use Rattle.std.proofs.lemmas.List.Quantifiers.{position-Some}
use Rattle.std.proofs.lemmas.List.Sums.{fails_before_first}
use Rattle.std.proofs.lemmas.List.Folds.{Any-from_list_any, list_any-from_Any}
use Rattle.std.proofs.lemmas.Bool.{eqb-true}
use Rattle.std.proofs.lemmas.Bool.Decides.{nat_tests}
use Rattle.dep_model.proofs.ListLemmas.{same_default}
use Rattle.desk_references.specs.ColumnLists.{ColumnDiagnostic, NamesColumnAt}
use Rattle.desk_references.specs.ColumnSteps.{IsRefusedNext, NamesNext}
use Rattle.desk_references.specs.declared.columns.TheConstants.{MOST_LISTED_COLUMNS}
use Rattle.desk_references.proofs.ZipLemmas.{zip_at, zip_length}
use Rattle.lexer.specs.Tokens.{Mark}
use Rattle.lexer.specs.declared.token.TokenKind.{TokenKind}
use Rattle.lexer.specs.declared.token.TokenKind.TheVariants as token
use Rattle.schema_grammar.specs.DiagnosticKinds.{DiagnosticKind, diagnostic_kind, double_name, expected, number_of}
use Rattle.schema_grammar.specs.Diagnostics.{Carries, DiagnosesOfWord, NamesWant, TokenDiagnostic}
use Rattle.schema_grammar.specs.Words.{is_reserved_token, is_word_token, known_attribute, look_up}
use Rattle.schema_grammar.specs.declared.format.Format.TheVariants as format
use Rattle.schema_grammar.specs.declared.refusal.SchemaRefusalKind.{SchemaRefusalKind}
use Rattle.schema_grammar.specs.declared.refusal.SchemaRefusalKind.TheVariants as kind
use Rattle.schema_grammar.specs.declared.refusal.What.{What}
use Rattle.schema_grammar.specs.declared.refusal.What.TheVariants as what
use Rattle.schema_grammar.proofs.KindLemmas.{same_number}
use Rattle.schema_model.specs.Names.{same_name}
use Rattle.schema_model.specs.Schemas.{attribute_named}

-- ---- words that are one name
low : List ℕ → List ℕ
low = str_to_ascii_lowercase

one_name : (a b : List ℕ) → same_name a b ≡ true → low a ≡ low b
unfolding low
one_name a b h = (bytes_eq-Decides (str_to_ascii_lowercase a) (str_to_ascii_lowercase b)).0 h

name_one : (a b : List ℕ) → low a ≡ low b → same_name a b ≡ true
unfolding low
name_one a b h = (bytes_eq-Decides (str_to_ascii_lowercase a) (str_to_ascii_lowercase b)).1 h

named_alike : (names : List (List ℕ)) (a b : List ℕ) → low a ≡ low b → attribute_named names a ≡ attribute_named names b
unfolding low
named_alike names a b same = ap (λ (w : List ℕ). position (λ (name : List ℕ). bytes_eq (str_to_ascii_lowercase name) w) names) same

-- what passes somewhere has a position
passes_somewhere : (p : List ℕ → Bool) (xs : List (List ℕ)) (i : ℕ) (d : List ℕ) → i < length xs → p (get_or xs i d) ≡ true
    → is_some (position p xs) ≡ true
passes_somewhere p xs i d inside passes = elim (cases_lt (position_or_len p xs) (length xs)) [
  | inl less ↦ rw (lt-ltb (position_or_len p xs) (length xs) less) refl
  | inr other ↦ absurd (true≢false (sym passes ∙ fails_before_first p xs i d (omega (arith, inside, other))))
]

some_value : (o : Option ℕ) → is_some o ≡ true → (i : ℕ) × (o ≡ Some i)
some_value None h = cc
some_value (Some i) h = (i, refl)

-- ---- tokens that are words
pub word_kind : (k : TokenKind) → (k ≡ token.Identifier) ⊎ (k ≡ token.Quoted) → is_word_token k ≡ true
word_kind k (inl is) = ap is_word_token is
word_kind k (inr is) = ap is_word_token is

pub no_word_kind : (k : TokenKind) → (k ≡ token.Identifier → ⊥) → (k ≡ token.Quoted → ⊥) → is_word_token k ≡ false
no_word_kind token.Identifier first second = absurd (first refl)
no_word_kind token.Quoted first second = absurd (second refl)
no_word_kind _ first second = refl

-- what a word stands for, or why it stands for nothing
looked_ok : (b : Bool) (o : Option ℕ) (column : ℕ) → (if b then Err kind.ReservedName else known_attribute o) ≡ Ok column
    → (b ≡ false) × (o ≡ Some column)
looked_ok true o column h = cc
looked_ok false None column h = cc
looked_ok false (Some x) column h = (refl, cc)

pub found_word : (names : List (List ℕ)) (m : Mark) (k : TokenKind) (w : List ℕ) (column : ℕ) → m.kind ≡ k → m.word ≡ w
    → look_up format.Plain names k w ≡ Ok column
    → (is_reserved_token format.Plain m.kind m.word ≡ false) × (attribute_named names m.word ≡ Some column)
unfolding look_up
found_word names m k w column kind_is word_is found =
    looked_ok (is_reserved_token format.Plain m.kind m.word) (attribute_named names m.word) column
    (ap (λ (l : TokenKind). look_up format.Plain names l m.word) kind_is ∙ ap (look_up format.Plain names k) word_is ∙ found)

-- a column among others, as the code looks for it
pub among : (xs : List ℕ) (x : ℕ) (b : Bool) → b ≡ list_any (λ (y : ℕ). y == x) xs → b ≡ true → Contains xs x
among xs x b is has =
    let (i, y, inside, at, same) = Any-from_list_any (λ (z : ℕ). z == x) xs (sym is ∙ has) in
    subst (Contains xs) (eqb-true y x same) (i, inside, at)

pub not_among : (xs : List ℕ) (x : ℕ) (b : Bool) → b ≡ list_any (λ (y : ℕ). y == x) xs → b ≡ false → Contains xs x → ⊥
not_among xs x b is lacks (i, inside, at) =
    true≢false (sym (list_any-from_Any (λ (z : ℕ). z == x) xs (i, x, inside, at, grind (arith, nat_tests))) ∙ sym is ∙ lacks)

module _ (names : List (List ℕ)) (before : List Mark) (columns : List ℕ) (named : AllZip (NamesColumnAt names) before columns) where
  size : length before ≡ length columns
  size = zip_length (NamesColumnAt names) before columns named

  abbrev words : List (List ℕ)
  words = map (λ (w : Mark). w.word) before

  word_at : (i : ℕ) (m : Mark) → i < length before → get_or words i [] ≡ (get_or before i m).word
  word_at i m inside = get_or-map (λ (w : Mark). w.word) before i m [] inside

  -- a word that names a column that was named is one of the words
  pub named_twice : (word : List ℕ) (column : ℕ) (m : Mark) → Contains columns column → attribute_named names word ≡ Some column
      → is_some (attribute_named words word) ≡ true
  named_twice word column m (i, inside, at) is =
      let low_i : i < length before = omega (arith, inside, size) in
      let here : NamesColumnAt names (get_or before i m) (get_or columns i column) =
      zip_at (NamesColumnAt names) before columns i m column named low_i in
      let first = position-Some (λ (name : List ℕ). same_name name (get_or before i m).word) names column [] (here.known ∙ ap Some at) in
      let second = position-Some (λ (name : List ℕ). same_name name word) names column [] is in
      let same : low (get_or before i m).word ≡ low word =
      sym (one_name (get_or names column []) (get_or before i m).word first.1) ∙ one_name (get_or names column []) word second.1 in
      passes_somewhere (λ (name : List ℕ). same_name name word) words i [] (omega (arith, low_i, length-map before (λ (w : Mark). w.word)))
      (ap (λ (w : List ℕ). same_name w word) (word_at i m low_i) ∙ name_one (get_or before i m).word word same)

  -- and a word that is one of them names a column that was named
  pub twice_named : (word : List ℕ) (m : Mark) → is_some (attribute_named words word) ≡ true
      → (column : ℕ) × (attribute_named names word ≡ Some column) × Contains columns column
  twice_named word m h =
      let (i, is) = some_value (attribute_named words word) h in
      let at = position-Some (λ (name : List ℕ). same_name name word) words i [] is in
      let low_i : i < length before = omega (arith, at.0, length-map before (λ (w : Mark). w.word)) in
      let here : NamesColumnAt names (get_or before i m) (get_or columns i 0) =
      zip_at (NamesColumnAt names) before columns i m 0 named low_i in
      let same : low (get_or before i m).word ≡ low word =
      one_name (get_or before i m).word word (ap (λ (w : List ℕ). same_name w word) (sym (word_at i m low_i)) ∙ at.1) in
      (get_or columns i 0, sym (named_alike names (get_or before i m).word word same) ∙ here.known, Contains-get_or columns i 0 (omega (arith, low_i, size)))

  module _ (m : Mark) where
    abbrev Wrong : DiagnosticKind → Type 0
    Wrong = TokenDiagnostic (ColumnDiagnostic names) before m

    -- ---- a token that is no word
    pub no_word : (want : What) → is_word_token m.kind ≡ false → NamesWant (length columns) want
        → IsRefusedNext names before m (kind.Expected want)
    no_word want is wanted = record {
      stands = inr (refl, is);
      carries = subst (λ (n : ℕ). NamesWant n want) (sym size) wanted;
      least = λ why wrong. ⊎_elim (λ word. absurd (true≢false (sym word.0 ∙ is))) (λ other. omega (arith, same_number _ _ other.0)) wrong;
    }

    -- ---- a word
    module _ (word : is_word_token m.kind ≡ true) where
      -- what may be wrong with it
      abbrev Reserved : Type 0
      Reserved = is_reserved_token format.Plain m.kind m.word ≡ true

      abbrev Unknown : Type 0
      Unknown = attribute_named names m.word ≡ None

      abbrev Twice : Type 0
      Twice = is_some (attribute_named words m.word) ≡ true

      abbrev Full : Type 0
      Full = MOST_LISTED_COLUMNS ≤ length before

      pub least_of : (n : ℕ) → (Reserved → n ≤ 3) → (Twice → n ≤ 4) → (Unknown → n ≤ 5) → (Full → n ≤ 6)
          → (why : DiagnosticKind) → Wrong why → n ≤ number_of why
      least_of n reserved twice unknown full why (inl (is, inl (inl (of, inl (same, h))))) = omega (arith, reserved h, same_number _ _ same)
      least_of n reserved twice unknown full why (inl (is, inl (inl (of, inr (same, h))))) = omega (arith, unknown h, same_number _ _ same)
      least_of n reserved twice unknown full why (inl (is, inl (inr (same, h)))) = omega (arith, twice h, same_number _ _ same)
      least_of n reserved twice unknown full why (inl (is, inr (same, h))) = omega (arith, full h, same_number _ _ same)
      least_of n reserved twice unknown full why (inr (same, is)) = absurd (true≢false (sym word ∙ is))

      pub reserved_word : Reserved → IsRefusedNext names before m kind.ReservedName
      reserved_word h = record {
        stands = inl (word, inl (inl (word, inl (refl, h))));
        carries = tt;
        least = least_of 3 (λ r. omega arith) (λ t. omega arith) (λ u. omega arith) (λ f. omega arith);
      }

      module _ (not_reserved : is_reserved_token format.Plain m.kind m.word ≡ false) where
        never_reserved : Reserved → ⊥
        never_reserved h = true≢false (sym h ∙ not_reserved)

        pub unknown_word : Unknown → IsRefusedNext names before m kind.UnknownName
        unknown_word h = record {
          stands = inl (word, inl (inl (word, inr (refl, h))));
          carries = tt;
          least = least_of 5 (λ r. absurd (never_reserved r))
              (λ t. let (column, is, has) = twice_named m.word m t in let wrong = sym h ∙ is in cc)
              (λ u. omega arith) (λ f. omega arith);
        }

        module _ (column : ℕ) (is : attribute_named names m.word ≡ Some column) where
          never_unknown : Unknown → ⊥
          never_unknown h = let wrong = sym h ∙ is in cc

          pub double_word : Contains columns column → IsRefusedNext names before m kind.DoubleName
          double_word has = record {
            stands = inl (word, inl (inr (refl, named_twice m.word column m has is)));
            carries = tt;
            least = least_of 4 (λ r. absurd (never_reserved r)) (λ t. omega arith) (λ u. absurd (never_unknown u)) (λ f. omega arith);
          }

          module _ (new : Contains columns column → ⊥) where
            never_twice : Twice → ⊥
            never_twice t =
                let (other, also, has) = twice_named m.word m t in
                new (subst (Contains columns) (same_some other column (sym also ∙ is)) has)
              where
                same_some : (a b : ℕ) → Some a ≡ Some b → a ≡ b
                same_some a b e = cc

            pub one_too_many : MOST_LISTED_COLUMNS ≤ length columns → IsRefusedNext names before m (kind.Expected what.LineEnd)
            one_too_many full = record {
              stands = inl (word, inr (refl, omega (arith, full, size)));
              carries = inr (omega (arith, full, size), refl);
              least = least_of 6 (λ r. absurd (never_reserved r)) (λ t. absurd (never_twice t)) (λ u. absurd (never_unknown u)) (λ f. omega arith);
            }

            pub next_column : length columns < MOST_LISTED_COLUMNS → NamesNext names before columns m column
            next_column room = record {
              named = record { word = word; not_reserved = not_reserved; known = is };
              new = new;
              room = room;
              nothing_wrong = of_word;
            }
              where
                of_word : (why : DiagnosticKind) → Wrong why → ⊥
                of_word why (inl (w, inl (inl (of, inl (same, h))))) = never_reserved h
                of_word why (inl (w, inl (inl (of, inr (same, h))))) = never_unknown h
                of_word why (inl (w, inl (inr (same, h)))) = never_twice h
                of_word why (inl (w, inr (same, h))) = omega (arith, h, size, room)
                of_word why (inr (same, none)) = true≢false (sym word ∙ none)

-- ---- a word that stands for no column
pub not_found : (names : List (List ℕ)) (before : List Mark) (columns : List ℕ) → AllZip (NamesColumnAt names) before columns → (m : Mark)
    → (k : TokenKind) (w : List ℕ) (why : SchemaRefusalKind) → is_word_token m.kind ≡ true → m.kind ≡ k → m.word ≡ w
    → look_up format.Plain names k w ≡ Err why → IsRefusedNext names before m why
unfolding look_up
not_found names before columns named m k w why word kind_is word_is failed =
    by (is_reserved_token format.Plain m.kind m.word) (attribute_named names m.word) refl refl
    (ap (λ (l : TokenKind). look_up format.Plain names l m.word) kind_is ∙ ap (look_up format.Plain names k) word_is ∙ failed)
  where
    same_err : (x y : SchemaRefusalKind) → (r : Result ℕ SchemaRefusalKind) → r ≡ Err x → r ≡ Err y → x ≡ y
    same_err x y r a b = let both : Err x ≡ Err y = sym a ∙ b in cc

    by : (b : Bool) (o : Option ℕ) → is_reserved_token format.Plain m.kind m.word ≡ b → attribute_named names m.word ≡ o
        → (if b then Err kind.ReservedName else known_attribute o) ≡ Err why → IsRefusedNext names before m why
    by true o reserved is h =
        subst (IsRefusedNext names before m) (same_err kind.ReservedName why (Err kind.ReservedName) refl h)
        (reserved_word names before columns named m word reserved)
    by false None free is h =
        subst (IsRefusedNext names before m) (same_err kind.UnknownName why (Err kind.UnknownName) refl h)
        (unknown_word names before columns named m word free is)
    by false (Some x) free is h = cc

-- ---- names of a list
pub self : (name : List ℕ) → same_name name name ≡ true
self name = name_one name name refl

-- a name of a list is named at some position
pub known_name : (names : List (List ℕ)) (word : List ℕ) (k : ℕ) → k < length names → get_or names k [] ≡ word
    → (p : ℕ) × (attribute_named names word ≡ Some p)
known_name names word k inside is =
    some_value (attribute_named names word) (passes_somewhere (λ (name : List ℕ). same_name name word) names k [] inside
    (ap (λ (name : List ℕ). same_name name word) is ∙ self word))
