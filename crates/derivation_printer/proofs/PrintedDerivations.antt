-- What is printed of a derivation, after the answer `yes`, derives what its last line states.
use Rattle.std.proofs.Common.{◌≡◌, ◌<◌, ◌≤◌, ◌^◌, ℕ, ◌+◌, true, List, [], ◌∷◌, ◌++◌, length, refl, ap, sym, ◌∙◌, subst, arith, append_assoc, length-take, get_or, take}
use Rattle.std.specs.Prelude.{slice_get, All, codes, decimal, map}
use Rattle.std.specs.List.{flat_map}
use Rattle.std.proofs.lemmas.List.{append-nil, length-map}
use Rattle.std.proofs.lemmas.Grind.{flat_map-append}
use Rattle.std.proofs.lemmas.List.Elements.{All-head, All-tail}
use Rattle.std.proofs.lemmas.Option.{slice_get_within}
use Rattle.attr_sets.specs.Attributes.{below}
use Rattle.schema_model.specs.Schemas.{Schema, names_of, naming_of, theory_in, theory_of, deps_of, universe_of}
use Rattle.dep_model.specs.Deps.{dependency_of}
use Rattle.derivation.specs.Trees.{given, reflexivity, mreflexivity}
use Rattle.derivation.proofs.RuleTableLemmas.{some_of_ok}
use Rattle.derivation.specs.declared.fault.FaultKind.TheVariants.{NoSuchGiven}
use Rattle.schema_model.specs.declared.naming.Naming.{Naming}
use Rattle.dep_model.specs.Dependencies.{Dependency, IsWithin}
use Rattle.derivation.specs.declared.measures.TheConstants.{MOST_NODES}
use Rattle.schema_grammar.specs.declared.format.Format.TheVariants as format
use Rattle.schema_grammar.specs.Printed.{IsReadBack, AreReadBack}
use Rattle.schema_printer.specs.Spelling.{spelling, printed_names_of}
use Rattle.proof_grammar.specs.Lines as certificate
use Rattle.proof_grammar.specs.Meanings.{IsRule, certificate_lines}
use Rattle.proof_grammar.specs.Printable.{DigitsFit}
use Rattle.proof_grammar.specs.Printing.{leaf_body, IsBodyWithin, certificate_line_text}
use Rattle.proof_grammar.proofs.LineLaws.{line_of_others}
use Rattle.proof_grammar.proofs.PrintedCertificates.{EachPrinted, printed_lines_mean_by}
use Rattle.proof_grammar.proofs.PrintedLines as printed
use Rattle.proof_grammar.proofs.PrintedLines.{IsPrinted, dependency_is, parts_printed}
use Rattle.proof_grammar.proofs.PrintedTokens.{Part, keyword, number, Gap, blank, colon, text_of, AreProper}
use Rattle.derivation_rules.specs.FurtherRules.{Further}
use Rattle.derivation_rules.specs.FurtherRules as further
use Rattle.derivation_grammar.specs.Derivations.{Derives, AreDerived}
use Rattle.derivation_grammar.specs.Lines.{DerivationBody, by_rule, by_decomposition, by_further, DerivationLine}
use Rattle.derivation_grammar.specs.Meanings.{further_name, IsLineRule, MeanDerivationLines}
use Rattle.short_derivations.specs.declared.inference.Inference.{Inference}
use Rattle.short_derivations.specs.Inferences as why
use Rattle.short_derivations.specs.Inferences.{Line, AreGiven}
use Rattle.short_derivations.specs.Short.{Concludes}
use Rattle.short_derivations.specs.Views.{line_of, lines_of}
use Rattle.derivation_printer.specs.Printing.{body_of, numbered, numbered_after, further_word, derivation_body_text, derivation_line_text, derivation_text, IsDerivationBodyWithin, IsLineWithin, NumbersFit}
use Rattle.short_derivations.proofs.PushedLines.{lines_next}
use Rattle.derivation_printer.proofs.WithinLines.{lines_within, lines_derived}

-- ---- a line with a further rule
abbrev one_number : ℕ → List (Gap × Part)
one_number p = (blank, number p) ∷ []

abbrev two_numbers : ℕ → ℕ → List (Gap × Part)
two_numbers p q = (blank, number p) ∷ (blank, number q) ∷ []

further_text : (naming : Naming) (r : Further) (p q : ℕ)
    → further_word r ++ decimal p ++ codes " " ++ decimal q ≡ text_of naming (keyword (further_name r)) (two_numbers p q)
unfolding further_word
further_text naming further.union p q = simp append_assoc
further_text naming further.pseudotransitivity p q = simp append_assoc
further_text naming further.intersection p q = simp append_assoc
further_text naming further.difference p q = simp append_assoc
further_text naming further.mpseudotransitivity p q = simp append_assoc

further_proper : (naming : Naming) (r : Further) (others : List (Gap × Part)) → AreProper naming others
    → AreProper naming ((colon, keyword (further_name r)) ∷ others)
further_proper naming further.union others are = (refl, are)
further_proper naming further.pseudotransitivity others are = (refl, are)
further_proper naming further.intersection others are = (refl, are)
further_proper naming further.difference others are = (refl, are)
further_proper naming further.mpseudotransitivity others are = (refl, are)

-- ---- lines that can be printed
abbrev CanBePrinted : List (List ℕ) → DerivationBody → Type 0
CanBePrinted names (by_rule b) = IsBodyWithin (below (length names)) b × DigitsFit b
CanBePrinted names (by_decomposition p) = p < 10 ^ 9
CanBePrinted names (by_further r p q) = (p < 10 ^ 9) × (q < 10 ^ 9)

record IsPrintable (names : List (List ℕ)) (n : ℕ) (d : Dependency) (b : DerivationBody) : Type 0 where
  stated : IsWithin (below (length names)) d
  small : n < 10 ^ 9
  body : CanBePrinted names b

line_printed : (naming : Naming) (names : List (List ℕ)) (n : ℕ) (d : Dependency) (b : DerivationBody)
    → AreReadBack format.Plain naming names → IsPrintable names n d b
    → IsPrinted DerivationBody IsLineRule naming names (derivation_line_text (map (spelling naming) names))
    (record { number = n; stated = d; body = b })
unfolding derivation_line_text derivation_body_text certificate_line_text
line_printed naming names n d (by_rule b) are is =
    let l : certificate.Line = record { number = n; stated = d; body = b } in
    let line = printed.line_printed naming names l are
    (record { stated = is.stated; body = is.body.0; number = is.small; digits_fit = is.body.1 }) in
    record {
      text = line.text;
      printed = line.printed;
      bytes = line.bytes;
      means = line_of_others IsRule IsLineRule naming names line.text l (by_rule b) (λ ms rule. rule) line.means;
      rest = line.rest;
      begins = line.begins;
      number = line.number;
    }
line_printed naming names n d (by_decomposition p) are is =
    parts_printed IsLineRule naming names (derivation_line_text (map (spelling naming) names))
    (record { number = n; stated = d; body = by_decomposition p }) (codes "decomposition") (one_number p) are is.stated
    is.small (refl, (is.body, tt))
    (λ column. record { name = _; premise = _; whole = refl; says = (refl, refl); number = refl })
    (simp (append_assoc, dependency_is naming names d))
line_printed naming names n d (by_further r p q) are is =
    parts_printed IsLineRule naming names (derivation_line_text (map (spelling naming) names))
    (record { number = n; stated = d; body = by_further r p q }) (further_name r) (two_numbers p q) are is.stated is.small
    (further_proper naming r (two_numbers p q) (is.body.0, (is.body.1, tt)))
    (λ column. record {
      name = _;
      first = _;
      second = _;
      whole = refl;
      says = (refl, refl);
      first_number = refl;
      second_number = refl;
    })
    (rw (further_text naming r p q) (simp (append_assoc, dependency_is naming names d)))

-- ---- the lines of the text
abbrev ArePrintable : List (List ℕ) → List DerivationLine → Type 0
ArePrintable names [] = Unit {0}
ArePrintable names (l ∷ ls) = IsPrintable names l.number l.stated l.body × ArePrintable names ls

each_printed : (naming : Naming) (names : List (List ℕ)) (ls : List DerivationLine)
    → AreReadBack format.Plain naming names → ArePrintable names ls
    → EachPrinted DerivationBody IsLineRule naming names (derivation_line_text (map (spelling naming) names)) ls
each_printed naming names [] are all = tt
each_printed naming names (l ∷ ls) are (here, rest) =
    (line_printed naming names l.number l.stated l.body are here, each_printed naming names ls are rest)

-- ---- the lines of a derivation
-- a given dependency has a number that fits
abbrev LeafFits : Schema → why.Why → Type 0
LeafFits s (why.by_leaf rule) = DigitsFit (leaf_body rule)
LeafFits s _ = Unit {0}

leaf_fits : (s : Schema) (before : List Dependency) (w : why.Why) (d : Dependency) → why.Gives (theory_in s) before w d → LeafFits s w
leaf_fits s before (why.by_leaf (given k)) d gives =
    let inside = slice_get_within (theory_of s) k d (some_of_ok (slice_get (theory_of s) k) NoSuchGiven d gives) in
    omega (arith, inside, length-map (deps_of s) dependency_of, s.valid.deps_within_limit)
leaf_fits s before (why.by_leaf (reflexivity x y)) d gives = tt {0}
leaf_fits s before (why.by_leaf (mreflexivity x y)) d gives = tt {0}
leaf_fits s before (why.by_step rule p) d gives = tt {0}
leaf_fits s before (why.by_pair rule p q) d gives = tt {0}
leaf_fits s before (why.by_decomposition p) d gives = tt {0}
leaf_fits s before (why.by_further rule p q) d gives = tt {0}

body_printable : (s : Schema) (l : Line) (n : ℕ) → IsLineWithin (universe_of s) l → n < 10 ^ 9 → LeafFits s l.why
    → IsPrintable (names_of s) n l.stated (body_of l.why)
body_printable s l n within small fits = record { stated = within.stated; small = small; body = body_fits s l.why within.body within.numbers fits }
  where
    body_fits : (t : Schema) (w : why.Why) → IsDerivationBodyWithin (universe_of t) (body_of w) → NumbersFit w → LeafFits t w
        → CanBePrinted (names_of t) (body_of w)
    body_fits t (why.by_leaf rule) body numbers leaf = (body, leaf)
    body_fits t (why.by_step rule p) body numbers leaf = (body, omega (arith, numbers))
    body_fits t (why.by_pair rule p q) body numbers leaf = (body, (omega (arith, numbers.0), omega (arith, numbers.1)))
    body_fits t (why.by_decomposition p) body numbers leaf = omega (arith, numbers)
    body_fits t (why.by_further rule p q) body numbers leaf = (omega (arith, numbers.0), omega (arith, numbers.1))

all_printable : (s : Schema) (before : List Dependency) (ls : List Line) (n : ℕ) → AreGiven (theory_in s) before ls
    → All (IsLineWithin (universe_of s)) ls → n + length ls ≤ MOST_NODES → ArePrintable (names_of s) (numbered_after n ls)
all_printable s before [] n gives within few = tt {0}
all_printable s before (l ∷ ls) n (gives, rest) within few = (
  body_printable s l (n + 1) (All-head (IsLineWithin (universe_of s)) l ls within) (omega (arith, few)) (leaf_fits s before l.why l.stated gives),
  all_printable s (before ++ l.stated ∷ []) ls (n + 1) rest (All-tail (IsLineWithin (universe_of s)) l ls within) (omega (arith, few)),
)

-- ---- the law
numbered_append : (n : ℕ) (ls : List Line) (l : Line) → numbered_after n (ls ++ l ∷ []) ≡ numbered_after n ls ++ numbered (n + length ls + 1) l ∷ []
numbered_append n [] l = rw (zero_more n) refl
  where
    zero_more : (m : ℕ) → m + 0 ≡ m
    zero_more m = omega arith
numbered_append n (m ∷ ls) l =
    let same : n + 1 + length ls + 1 ≡ n + length (m ∷ ls) + 1 = omega arith in
    ap (λ (rest : List DerivationLine). numbered (n + 1) m ∷ rest)
    (numbered_append (n + 1) ls l ∙ ap (λ (k : ℕ). numbered_after (n + 1) ls ++ numbered k l ∷ []) same)

length_numbered : (n : ℕ) (ls : List Line) → length (numbered_after n ls) ≡ length ls
length_numbered n [] = refl
length_numbered n (l ∷ ls) = omega (arith, length_numbered (n + 1) ls)

pub printed_derivation : (s : Schema) (items : List Inference) (d : Dependency) → All (IsReadBack format.Plain (naming_of s)) (names_of s)
    → AreGiven (theory_in s) [] (lines_of items) → Concludes (lines_of items) d → length items ≤ MOST_NODES
    → Derives s (codes "yes\n" ++ derivation_text s (lines_of items)) d
unfolding printed_names_of
printed_derivation s items d names gives concludes few =
    let lines = lines_of items in
    let are : AreReadBack format.Plain (naming_of s) (names_of s) = record { each = names; differ = s.valid.names_differ } in
    let long : length lines ≡ length items = length-map items line_of in
    let printable = all_printable s [] lines 0 gives (lines_within s items few gives) (omega (arith, few, long)) in
    let before : List Line = concludes.0 in
    let last : Line = concludes.1 in
    let whole : numbered_after 0 lines ≡ numbered_after 0 before ++ numbered (0 + length before + 1) last ∷ [] =
    ap (numbered_after 0) concludes.2 ∙ numbered_append 0 before last in
    let mean : MeanDerivationLines (naming_of s) (names_of s) (certificate_lines (naming_of s) (codes "yes\n" ++ derivation_text s lines)) (numbered_after 0 lines) =
    printed_lines_mean_by true IsLineRule (naming_of s) (names_of s) (derivation_line_text (printed_names_of s))
    (numbered_after 0 lines) (each_printed (naming_of s) (names_of s) (numbered_after 0 lines) are printable) in
    let derived = lines_derived s [] lines gives in
    record {
      before = numbered_after 0 before;
      last = numbered (0 + length before + 1) last;
      mean = subst (λ (ls : List DerivationLine). MeanDerivationLines (naming_of s) (names_of s)
          (certificate_lines (naming_of s) (codes "yes\n" ++ derivation_text s lines)) ls) whole mean;
      derived = subst (λ (ls : List DerivationLine). AreDerived s [] ls) whole derived;
      lines_fit = omega (arith, ap length whole, length_numbered 0 lines, long, few);
      states = concludes.3;
    }

-- ---- the text, line by line
pub text_next : (s : Schema) (items : List Inference) (k : ℕ) (d : Inference) → k < length items
    → derivation_text s (lines_of (take (k + 1) items))
    ≡ derivation_text s (lines_of (take k items)) ++ derivation_line_text (printed_names_of s) (numbered (k + 1) (line_of (get_or items k d)))
text_next s items k d low =
    let f = derivation_line_text (printed_names_of s) in
    let ls : List Line = lines_of (take k items) in
    let l : Line = line_of (get_or items k d) in
    let at : 0 + length ls + 1 ≡ k + 1 = omega (arith, low, length-map (take k items) line_of, length-take k items) in
    ap (derivation_text s) (lines_next items k d low)
    ∙ ap (flat_map f) (numbered_append 0 ls l ∙ ap (λ (n : ℕ). numbered_after 0 ls ++ numbered n l ∷ []) at)
    ∙ flat_map-append f (numbered_after 0 ls) (numbered (k + 1) l ∷ [])
    ∙ ap (λ (t : List ℕ). flat_map f (numbered_after 0 ls) ++ t) (append-nil (f (numbered (k + 1) l)))
