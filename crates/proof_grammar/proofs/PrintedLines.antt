-- What is printed of a line means the line: of any rules, where the parts of the rule do, and so of a certificate's.
use Rattle.std.proofs.Common.{◌≡◌, ◌<◌, ◌+◌, ◌^◌, ◌∙◌, ap, ℕ, List, [], ◌∷◌, ◌++◌, length, refl, append_assoc}
use Rattle.std.specs.Prelude.{codes, decimal, map}
use Rattle.std.proofs.lemmas.List.{append-nil}
use Rattle.attr_sets.specs.Attributes.{Attributes, IsSubset, below}
use Rattle.dep_model.specs.Dependencies.{Dependency, fd, mvd, left_of, right_of, IsWithin}
use Rattle.derivation.specs.Trees.{Step, augmentation, complementation, maugmentation, replication, transitivity, mtransitivity, coalescence}
use Rattle.schema_model.specs.declared.naming.Naming.{Naming}
use Rattle.lexer.specs.declared.token.TokenKind.TheVariants as token
use Rattle.lexer.specs.Tokens.{Mark}
use Rattle.schema_grammar.specs.declared.format.Format.TheVariants as format
use Rattle.schema_grammar.specs.declared.symbol.Sign.{Sign}
use Rattle.schema_grammar.specs.declared.symbol.Sign.TheVariants as sign
use Rattle.schema_grammar.specs.Grammar.{dependency_of_sign}
use Rattle.schema_grammar.specs.Meanings.{IsArrow, IsDependency}
use Rattle.schema_printer.specs.Printing.{members_from, set_text, side_text, dependency_text}
use Rattle.schema_printer.specs.Spelling.{spelling}
use Rattle.schema_grammar.proofs.PrintedTexts.{Bytes}
use Rattle.proof_grammar.specs.Lines.{NumberedLine, Body, by_given, by_reflexivity, by_mreflexivity, by_step, by_pair, Line}
use Rattle.proof_grammar.specs.Meanings.{step_name, pair_name, MeansLineBy, IsRule}
use Rattle.proof_grammar.specs.Printing.{step_word, pair_word, body_text, certificate_line_text, IsBodyWithin}
use Rattle.schema_grammar.specs.Printed.{AreReadBack}
use Rattle.proof_grammar.specs.Printable.{DigitsFit, IsPrintableLine}
use Rattle.schema_grammar.proofs.SpelledSides.{printed_side, printed_names}
use Rattle.schema_grammar.proofs.SpelledWords.{side_marks, side_end, members_spelled}
use Rattle.proof_grammar.proofs.PrintedTokens.{Part, keyword, number, side, Gap, blank, first_colon, colon, arrow, double_arrow, gap_end, text_of, marks_of, AreProper, parts_lexed, parts_bytes}

-- ---- the parts of a line
abbrev pub side_of : List (List ℕ) → Attributes → Part
side_of names x = side (members_from x 0 names)

-- the sets of a rule with one premise
abbrev sets_parts : List (List ℕ) → Step → List (Gap × Part)
sets_parts names (augmentation z) = (blank, keyword (codes "with")) ∷ (blank, side_of names z) ∷ []
sets_parts names complementation = []
sets_parts names (maugmentation w z) =
    (blank, keyword (codes "with")) ∷ (blank, side_of names w) ∷ (colon, side_of names z) ∷ []
sets_parts names replication = []

abbrev body_name : Body → List ℕ
body_name (by_given k) = codes "given"
body_name by_reflexivity = codes "reflexivity"
body_name by_mreflexivity = codes "mreflexivity"
body_name (by_step rule p) = step_name rule
body_name (by_pair rule p q) = pair_name rule

-- what follows the name of the rule
abbrev body_parts : List (List ℕ) → Body → List (Gap × Part)
body_parts names (by_given k) = (blank, number k) ∷ []
body_parts names by_reflexivity = []
body_parts names by_mreflexivity = []
body_parts names (by_step rule p) = (blank, number p) ∷ sets_parts names rule
body_parts names (by_pair rule p q) = (blank, number p) ∷ (blank, number q) ∷ []

abbrev pub arrow_of : Dependency → Gap
arrow_of (fd x y) = arrow
arrow_of (mvd x y) = double_arrow

-- what follows the number of a line that states this by a rule of this name and with these parts
abbrev pub line_parts : List (List ℕ) → Dependency → List ℕ → List (Gap × Part) → List (Gap × Part)
line_parts names d word others =
    (first_colon, side_of names (left_of d)) ∷ (arrow_of d, side_of names (right_of d)) ∷ (colon, keyword word) ∷ others

-- what is printed of such a line, without its line feed
abbrev pub text_of_parts : Naming → List (List ℕ) → ℕ → Dependency → List ℕ → List (Gap × Part) → List ℕ
text_of_parts naming names n d word others = text_of naming (number n) (line_parts names d word others)

-- and of one of a certificate
abbrev pub text_of_line : Naming → List (List ℕ) → Line → List ℕ
text_of_line naming names l = text_of_parts naming names l.number l.stated (body_name l.body) (body_parts names l.body)

-- ---- the text
body_is : (naming : Naming) (names : List (List ℕ)) (b : Body)
    → body_text (map (spelling naming) names) b ≡ text_of naming (keyword (body_name b)) (body_parts names b)
unfolding body_text step_word pair_word set_text
body_is naming names (by_given k) = refl
body_is naming names by_reflexivity = refl
body_is naming names by_mreflexivity = refl
body_is naming names (by_step (augmentation z) p) = rw (members_spelled naming z 0 names) refl
body_is naming names (by_step complementation p) = rw (append-nil (decimal p)) refl
body_is naming names (by_step (maugmentation w z) p) =
    let printed = map (spelling naming) names in
    let wide = side_text (map (spelling naming) (members_from w 0 names)) in
    let narrow = side_text (map (spelling naming) (members_from z 0 names)) in
    ap (λ t. codes "maugmentation " ++ (decimal p ++ (codes " with " ++ t)))
    (ap (λ ws. (side_text ws ++ codes " : ") ++ set_text printed z) (members_spelled naming w 0 names)
    ∙ ap (λ ws. (wide ++ codes " : ") ++ side_text ws) (members_spelled naming z 0 names)
    ∙ append_assoc wide (codes " : ") narrow)
body_is naming names (by_step replication p) = rw (append-nil (decimal p)) refl
body_is naming names (by_pair transitivity p q) = simp append_assoc
body_is naming names (by_pair mtransitivity p q) = simp append_assoc
body_is naming names (by_pair coalescence p q) = simp append_assoc

pub dependency_is : (naming : Naming) (names : List (List ℕ)) (d : Dependency) (rest : List ℕ)
    → dependency_text (map (spelling naming) names) d ++ rest
    ≡ text_of naming (side_of names (left_of d)) ((arrow_of d, side_of names (right_of d)) ∷ []) ++ rest
unfolding dependency_text set_text
dependency_is naming names (fd x y) rest =
    rw (members_spelled naming x 0 names, members_spelled naming y 0 names) (simp append_assoc)
dependency_is naming names (mvd x y) rest =
    rw (members_spelled naming x 0 names, members_spelled naming y 0 names) (simp append_assoc)

line_text_is : (naming : Naming) (names : List (List ℕ)) (l : Line)
    → certificate_line_text (map (spelling naming) names) l ≡ text_of_line naming names l ++ codes "\n"
unfolding certificate_line_text
line_text_is naming names l =
    rw (body_is naming names l.body) (simp (append_assoc, dependency_is naming names l.stated))

-- ---- the parts are proper
pub line_proper : (naming : Naming) (names : List (List ℕ)) (d : Dependency) (word : List ℕ) (others : List (Gap × Part))
    → AreReadBack format.Plain naming names → AreProper naming ((colon, keyword word) ∷ others)
    → AreProper naming (line_parts names d word others)
line_proper naming names d word others are proper = (
  printed_names format.Plain naming names (left_of d) are,
  (printed_names format.Plain naming names (right_of d) are, proper),
)

body_proper : (naming : Naming) (names : List (List ℕ)) (b : Body) → AreReadBack format.Plain naming names
    → DigitsFit b → AreProper naming ((colon, keyword (body_name b)) ∷ body_parts names b)
body_proper naming names (by_given k) are within_limit = (refl, (within_limit, tt))
body_proper naming names by_reflexivity are within_limit = (refl, tt)
body_proper naming names by_mreflexivity are within_limit = (refl, tt)
body_proper naming names (by_step (augmentation z) p) are within_limit =
    (refl, (within_limit, (refl, (printed_names format.Plain naming names z are, tt))))
body_proper naming names (by_step complementation p) are within_limit = (refl, (within_limit, tt))
body_proper naming names (by_step (maugmentation w z) p) are within_limit =
    (refl, (within_limit, (refl, (printed_names format.Plain naming names w are, (printed_names format.Plain naming names z are, tt)))))
body_proper naming names (by_step replication p) are within_limit = (refl, (within_limit, tt))
body_proper naming names (by_pair transitivity p q) are within_limit = (refl, (within_limit.0, (within_limit.1, tt)))
body_proper naming names (by_pair mtransitivity p q) are within_limit = (refl, (within_limit.0, (within_limit.1, tt)))
body_proper naming names (by_pair coalescence p q) are within_limit = (refl, (within_limit.0, (within_limit.1, tt)))

-- ---- the meaning
body_means : (naming : Naming) (names : List (List ℕ)) (b : Body) (column : ℕ)
    → AreReadBack format.Plain naming names
    → IsBodyWithin (below (length names)) b
    → IsRule names (marks_of naming column (keyword (body_name b)) (body_parts names b)) b
body_means naming names (by_given k) column are within =
    record { name = _; numeral = _; whole = refl; says = (refl, refl); number = refl }
body_means naming names by_reflexivity column are within = record { name = _; whole = refl; says = (refl, refl) }
body_means naming names by_mreflexivity column are within = record { name = _; whole = refl; says = (refl, refl) }
body_means naming names (by_step (augmentation z) p) column are within = record {
  name = _;
  premise = _;
  sets = _;
  whole = refl;
  says = (refl, refl);
  number = refl;
  has_sets = record {
    keyword = _;
    sides = _;
    whole = refl;
    says = (refl, refl);
    side = printed_side format.Plain naming names z _ are within;
  };
}
body_means naming names (by_step complementation p) column are within =
    record { name = _; premise = _; sets = _; whole = refl; says = (refl, refl); number = refl; has_sets = refl }
body_means naming names (by_step (maugmentation w z) p) column are within =
    let at = column + 13 + 1 + length (decimal p) + 1 + 4 + 1 in
    let end = side_end naming at (members_from w 0 names) in
    record {
      name = _;
      premise = _;
      sets = _;
      whole = refl;
      says = (refl, refl);
      number = refl;
      has_sets = record {
        keyword = _;
        wide = side_marks naming at (members_from w 0 names);
        colon = _;
        narrow = side_marks naming (gap_end end colon) (members_from z 0 names);
        whole = refl;
        says = (refl, refl);
        wide_side = printed_side format.Plain naming names w _ are within.0;
        is_colon = refl;
        narrow_side = printed_side format.Plain naming names z _ are within.1;
      };
    }
body_means naming names (by_step replication p) column are within =
    record { name = _; premise = _; sets = _; whole = refl; says = (refl, refl); number = refl; has_sets = refl }
body_means naming names (by_pair rule p q) column are within =
    record {
      name = _;
      first = _;
      second = _;
      whole = refl;
      says = (refl, refl);
      first_number = refl;
      second_number = refl;
    }

-- the tokens of a printed dependency
abbrev stated_marks : Naming → List (List ℕ) → Dependency → ℕ → List Mark
stated_marks naming names d column =
    marks_of naming column (side_of names (left_of d)) ((arrow_of d, side_of names (right_of d)) ∷ [])

-- the sides of a printed dependency, with an arrow between them
printed_sides : (naming : Naming) (names : List (List ℕ)) (x y : Attributes) (s : Sign) (column : ℕ)
    (between : Mark) (next : ℕ) → AreReadBack format.Plain naming names → IsSubset x (below (length names)) → IsSubset y (below (length names))
    → IsArrow s between.kind
    → IsDependency format.Plain names
    (side_marks naming column (members_from x 0 names) ++ between ∷ side_marks naming next (members_from y 0 names))
    (dependency_of_sign s x y)
printed_sides naming names x y s column between next are x_within y_within is_arrow = record {
  lhs = side_marks naming column (members_from x 0 names);
  arrow = between;
  rhs = side_marks naming next (members_from y 0 names);
  x = x;
  y = y;
  sign = s;
  whole = refl;
  left_side = printed_side format.Plain naming names x column are x_within;
  is_arrow = is_arrow;
  right_side = printed_side format.Plain naming names y next are y_within;
  states = refl;
}

dependency_means : (naming : Naming) (names : List (List ℕ)) (d : Dependency) (column : ℕ)
    → AreReadBack format.Plain naming names → IsWithin (below (length names)) d
    → IsDependency format.Plain names (stated_marks naming names d column) d
dependency_means naming names (fd x y) column are within =
    printed_sides naming names x y sign.Functional column _ _ are within.0 within.1 refl
dependency_means naming names (mvd x y) column are within =
    printed_sides naming names x y sign.Multivalued column _ _ are within.0 within.1 refl

-- a line that is printed: its text, the bytes of which are none that end a line, and which means the line
pub record IsPrinted (B : Type 0) (IsBody : List (List ℕ) → List Mark → B → Type 0) (naming : Naming)
    (names : List (List ℕ)) (line_text : NumberedLine B → List ℕ) (l : NumberedLine B) : Type 0 where
  pub text : List ℕ
  pub printed : line_text l ≡ text ++ codes "\n"
  pub bytes : Bytes text
  pub means : MeansLineBy B IsBody naming names text l
  pub rest : List ℕ
  pub begins : text ≡ decimal l.number ++ rest
  pub number : l.number < 10 ^ 9

-- a line whose rule has this name and these parts, where they are a body
pub parts_printed : {B : Type 0} (IsBody : List (List ℕ) → List Mark → B → Type 0) (naming : Naming)
    (names : List (List ℕ)) (line_text : NumberedLine B → List ℕ) (l : NumberedLine B) (word : List ℕ)
    (others : List (Gap × Part)) → AreReadBack format.Plain naming names → IsWithin (below (length names)) l.stated
    → l.number < 10 ^ 9 → AreProper naming ((colon, keyword word) ∷ others)
    → ((column : ℕ) → IsBody names (marks_of naming column (keyword word) others) l.body)
    → line_text l ≡ text_of_parts naming names l.number l.stated word others ++ codes "\n"
    → IsPrinted B IsBody naming names line_text l
parts_printed IsBody naming names line_text l word others are within small fit rule_is printed =
    let n = l.number in
    let d = l.stated in
    let parts = line_parts names d word others in
    let proper = line_proper naming names d word others are fit in
    let at = 1 + length (decimal n) + 1 + 1 in
    let end = side_end naming (gap_end (side_end naming at (members_from (left_of d) 0 names)) (arrow_of d))
    (members_from (right_of d) 0 names) in
    record {
      text = text_of naming (number n) parts;
      printed = printed;
      bytes = parts_bytes naming (number n) parts small proper;
      means = record {
        marks = marks_of naming 1 (number n) parts;
        tokens = parts_lexed naming 1 (number n) parts small proper;
        is_line = record {
          number = record { kind = token.Number n; column = 1; length = length (decimal n); word = decimal n };
          first = record { kind = token.Colon; column = 1 + length (decimal n); length = length (codes ":"); word = codes ":" };
          stated = stated_marks naming names d at;
          second = record { kind = token.Colon; column = end + 1; length = length (codes ":"); word = codes ":" };
          rule = marks_of naming (gap_end end colon) (keyword word) others;
          whole = simp append_assoc;
          is_number = refl;
          first_colon = refl;
          dependency = dependency_means naming names d at are within;
          second_colon = refl;
          is_rule = rule_is (gap_end end colon);
        };
      };
      rest = _;
      begins = refl;
      number = small;
    }

-- a line of a certificate
pub line_printed : (naming : Naming) (names : List (List ℕ)) (l : Line) → AreReadBack format.Plain naming names
    → IsPrintableLine names l
    → IsPrinted Body IsRule naming names (certificate_line_text (map (spelling naming) names)) l
line_printed naming names l are is =
    parts_printed IsRule naming names (certificate_line_text (map (spelling naming) names)) l (body_name l.body)
    (body_parts names l.body) are is.stated is.number (body_proper naming names l.body are is.digits_fit)
    (λ column. body_means naming names l.body column are is.body) (line_text_is naming names l)
