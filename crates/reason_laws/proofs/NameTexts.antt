-- The printed names of a schema, and what is printed of sets and dependencies by them, have no line feed; and no
-- printed name begins with `#`.
use Rattle.std.proofs.Common.{◌≡◌, ◌&&◌, ◌+◌, ℕ, Bool, true, false, List, [], ◌∷◌, ◌++◌, map, refl, sym, ap, ◌∙◌, inl, inr, arith}
use Rattle.std.specs.Prelude.{All, codes, not, ◌==◌, slice_index, nat_lt, nat_le, length}
use Rattle.std.specs.Char.{is_ascii_alphabetic}
use Rattle.std.specs.List.{list_all}
use Rattle.std.proofs.lemmas.Bool.{cases_Bool, and_parts, true≢false}
use Rattle.std.proofs.lemmas.Bool.Decides.{nat_tests}
use Rattle.std.proofs.lemmas.List.Elements.{All-nil, All-cons, All-head, All-tail}
use Rattle.attr_sets.specs.Attributes.{Attributes}
use Rattle.schema_model.specs.declared.name.TheConstants.{MOST_BARE_NAME_BYTES}
use Rattle.schema_model.specs.declared.naming.Naming.{Naming}
use Rattle.schema_model.specs.declared.naming.Naming.TheVariants.{Bare, Any}
use Rattle.schema_model.specs.Schemas.{Schema}
use Rattle.dep_model.specs.Dependencies.{Dependency, fd, mvd}
use Rattle.schema_model.specs.Names.{IsName, is_bare_name, is_name_byte, is_word, quoted, quotes_doubled}
use Rattle.schema_model.specs.Schemas.{naming_of, names_of}
use Rattle.schema_model.proofs.PlainLemmas.{IsPlain, name_plain, plain_both, quoted_plain}
use Rattle.schema_printer.specs.Printing.{dependency_text, members_from, set_text, side_text, words_text}
use Rattle.schema_printer.specs.Spelling.{is_schema_word, printed_names_of, spelling}
use Rattle.reason_laws.specs.ReasonLines.{is_reason}

-- ---- names
-- a printed name has no line feed, and does not begin with `#`
pub record IsPrinted (name : List ℕ) : Type 0 where
  pub plain : IsPlain name
  pub first : ℕ
  pub rest : List ℕ
  pub begins : name ≡ first ∷ rest
  pub other : (first == 35) ≡ false

quoted_printed : (name : List ℕ) → IsName name → IsPrinted (quoted name)
quoted_printed name is = record {
  plain = quoted_plain name (name_plain name is);
  first = 34;
  rest = quotes_doubled name ++ 34 ∷ [];
  begins = refl;
  other = refl;
}

bare_printed : (name : List ℕ) → IsName name → is_bare_name name ≡ true → IsPrinted name
bare_printed [] is bare = absurd (true≢false (sym bare))
bare_printed (b ∷ name) is bare =
    let sized = and_parts (is_word (b ∷ name)) (nat_le (length (b ∷ name)) MOST_BARE_NAME_BYTES) bare in
    let word = and_parts (nat_lt 0 (length (b ∷ name)) && is_ascii_alphabetic (slice_index (b ∷ name) 0)) (list_all is_name_byte (b ∷ name)) sized.0 in
    let begun = and_parts (nat_lt 0 (length (b ∷ name))) (is_ascii_alphabetic (slice_index (b ∷ name) 0)) word.0 in
    let letter : is_ascii_alphabetic b ≡ true = begun.1 in
    record {
      plain = name_plain (b ∷ name) is;
      first = b;
      rest = name;
      begins = refl;
      other = grind (arith, nat_tests, letter);
    }

spelled : (naming : Naming) (name : List ℕ) → IsName name → (naming ≡ Bare → is_bare_name name ≡ true) → IsPrinted (spelling naming name)
unfolding spelling
spelled Bare name is bare = bare_printed name is (bare refl)
spelled Any name is bare = elim (cases_Bool (is_bare_name name && not (is_schema_word name))) [
  | inl own ↦ rw own (bare_printed name is (and_parts (is_bare_name name) (not (is_schema_word name)) own).0)
  | inr other ↦ rw other (quoted_printed name is)
]

each_spelled : (naming : Naming) (names : List (List ℕ)) → All IsName names → (naming ≡ Bare → All (λ name. is_bare_name name ≡ true) names)
    → All IsPrinted (map (spelling naming) names)
each_spelled naming [] all bare = All-nil IsPrinted
each_spelled naming (name ∷ names) all bare =
    let B : List ℕ → Type 0 = λ (n : List ℕ). is_bare_name n ≡ true in
    All-cons IsPrinted (spelling naming name) (map (spelling naming) names)
    (spelled naming name (All-head IsName name names all) (λ is. All-head B name names (bare is)))
    (each_spelled naming names (All-tail IsName name names all) (λ is. All-tail B name names (bare is)))

pub names_printed : (s : Schema) → All IsName (names_of s) → All IsPrinted (printed_names_of s)
unfolding printed_names_of
names_printed s all =
    each_spelled (naming_of s) (names_of s) all (λ bare. let is = s.typed.bare bare in is.each_bare)

-- ---- sets and dependencies
pub members_printed : (x : Attributes) (k : ℕ) (names : List (List ℕ)) → All IsPrinted names → All IsPrinted (members_from x k names)
members_printed x k [] all = All-nil IsPrinted
members_printed x k (name ∷ names) all = elim (cases_Bool (x k)) [
  | inl member ↦
      rw member (All-cons IsPrinted name (members_from x (k + 1) names) (All-head IsPrinted name names all)
      (members_printed x (k + 1) names (All-tail IsPrinted name names all)))
  | inr outside ↦ rw outside (members_printed x (k + 1) names (All-tail IsPrinted name names all))
]

pub words_plain : (words : List (List ℕ)) → All IsPrinted words → IsPlain (words_text words)
words_plain [] all = refl
words_plain (word ∷ words) all =
    let here = All-head IsPrinted word words all in
    plain_both (32 ∷ word) (words_text words) here.plain (words_plain words (All-tail IsPrinted word words all))

pub side_plain : (words : List (List ℕ)) → All IsPrinted words → IsPlain (side_text words)
side_plain [] all = refl
side_plain (word ∷ words) all =
    let here = All-head IsPrinted word words all in
    plain_both word (words_text words) here.plain (words_plain words (All-tail IsPrinted word words all))

pub set_plain : (names : List (List ℕ)) (x : Attributes) → All IsPrinted names → IsPlain (set_text names x)
unfolding set_text
set_plain names x all = side_plain (members_from x 0 names) (members_printed x 0 names all)

pub scheme_plain : (names : List (List ℕ)) (x : Attributes) → All IsPrinted names → IsPlain (words_text (members_from x 0 names))
scheme_plain names x all = words_plain (members_from x 0 names) (members_printed x 0 names all)

pub dependency_plain : (names : List (List ℕ)) (d : Dependency) → All IsPrinted names → IsPlain (dependency_text names d)
unfolding dependency_text
dependency_plain names (fd x y) all =
    plain_both (set_text names x ++ codes " -> ") (set_text names y) (plain_both (set_text names x) (codes " -> ") (set_plain names x all) refl) (set_plain names y all)
dependency_plain names (mvd x y) all =
    plain_both (set_text names x ++ codes " ->> ") (set_text names y) (plain_both (set_text names x) (codes " ->> ") (set_plain names x all) refl) (set_plain names y all)

-- what begins so is no reason
no_reason : (b : ℕ) (rest : List ℕ) → (b == 35) ≡ false → is_reason (b ∷ rest) ≡ false
no_reason b [] other = refl
no_reason b (c ∷ rest) other = ap (λ (t : Bool). t && (c == 32)) other

side_own : (words : List (List ℕ)) (more : List ℕ) → All IsPrinted words → is_reason (side_text words ++ more) ≡ false
side_own [] more all = refl
side_own (word ∷ words) more all =
    let here = All-head IsPrinted word words all in
    ap (λ (w : List ℕ). is_reason ((w ++ words_text words) ++ more)) here.begins
    ∙ no_reason here.first ((here.rest ++ words_text words) ++ more) here.other

pub set_own : (names : List (List ℕ)) (x : Attributes) (more : List ℕ) → All IsPrinted names → is_reason (set_text names x ++ more) ≡ false
unfolding set_text
set_own names x more all = side_own (members_from x 0 names) more (members_printed x 0 names all)
