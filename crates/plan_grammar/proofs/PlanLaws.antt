-- What lines mean are schemes with attributes, all within the names.
use Rattle.std.proofs.Common.{◌≡◌, ◌<◌, ℕ, true, false, List, [], ◌∷◌, ◌++◌, length, inl, inr, append_assoc, Option, Some, None, refl, sym, ap, subst, ◌∙◌, ⊎_elim, arith}
use Rattle.std.specs.Prelude.{All, IfSome}
use Rattle.std.specs.List.{list_any}
use Rattle.std.proofs.lemmas.Bool.{false≢true, or_left, or_parts, eqb-true, eq-eqb}
use Rattle.std.proofs.lemmas.List.{append-nil}
use Rattle.std.proofs.lemmas.List.Quantifiers.{all_pairs_push}
use Rattle.std.proofs.lemmas.List.Elements.{All-nil, All-cons, All-head, All-append, All-get_or}
use Rattle.attr_sets.specs.Attributes.{Attributes, below, IsSubset, IsEmpty}
use Rattle.schema_model.specs.Schemas.{attribute_named}
use Rattle.schema_model.specs.declared.naming.Naming.{Naming}
use Rattle.lexer.specs.Tokens.{Mark}
use Rattle.schema_grammar.specs.declared.format.Format.TheVariants as format
use Rattle.schema_grammar.specs.Meanings.{IsAttribute, is_at, attributes_of_words}
use Rattle.schema_grammar.proofs.WithinLemmas.{named_within}
use Rattle.lexer.specs.Lines.{line_texts, without_mark}
use Rattle.schema_grammar.specs.Words.{is_reserved}
use Rattle.table_names.specs.TableNames.{is_given, is_taken}
use Rattle.plan_printer.specs.NamedPlans.{ApartFrom, AreApart, IsOwnName, NamedSchemes, PlannedTable}
use Rattle.plan_grammar.specs.Meanings.{IsTableLine, MeansPlan, MeansTableLines}

line_within : (names : List (List ℕ)) (earlier : List (Option (List ℕ))) (ms : List Mark) (t : PlannedTable) → IsTableLine names earlier ms t → IsSubset t.scheme (below (length names))
line_within names earlier ms t is k member = named_within names is.words k (sym (ap (λ (y : Attributes). y k) is.members) ∙ member)

named_not_empty : (names : List (List ℕ)) (words : List Mark) → 0 < length words → All (IsAttribute format.Plain names) words → IsEmpty (attributes_of_words names words) → ⊥
named_not_empty names [] not_empty each empty = omega (arith, not_empty)
named_not_empty names (m ∷ ms) not_empty each empty =
    let first : IsAttribute format.Plain names m = All-head (IsAttribute format.Plain names) m ms each in
    let a = first.index in
    let here : is_at (attribute_named names m.word) a ≡ true = ap (λ (o : Option ℕ). is_at o a) first.known ∙ eq-eqb a a refl in
    false≢true (sym (empty a) ∙ or_left (is_at (attribute_named names m.word) a) (list_any (λ w. is_at (attribute_named names w.word) a) ms) here)

line_not_empty : (names : List (List ℕ)) (earlier : List (Option (List ℕ))) (ms : List Mark) (t : PlannedTable) → IsTableLine names earlier ms t → IsEmpty t.scheme → ⊥
line_not_empty names earlier ms t is empty = named_not_empty names is.words is.not_empty is.each (λ k. sym (ap (λ (y : Attributes). y k) is.members) ∙ empty k)

pub lines_within : (naming : Naming) (names : List (List ℕ)) (earlier : List (Option (List ℕ))) (lines : List (List ℕ)) (plan : NamedSchemes) → MeansTableLines naming names earlier lines plan → All (λ x. IsSubset x (below (length names))) plan.schemes
lines_within naming names earlier [] plan is = subst (λ (p : NamedSchemes). All (λ x. IsSubset x (below (length names))) p.schemes) (sym is) (All-nil (λ (x : Attributes). IsSubset x (below (length names))))
lines_within naming names earlier (line ∷ lines) plan is =
    ⊎_elim
    (λ blank. lines_within naming names earlier lines plan blank.1)
    (λ adds. subst (λ (p : NamedSchemes). All (λ x. IsSubset x (below (length names))) p.schemes) (sym adds.4)
    (All-cons (λ (x : Attributes). IsSubset x (below (length names))) adds.0.scheme adds.1.schemes
    (line_within names earlier adds.2.marks adds.0 adds.2.is_line)
    (lines_within naming names (earlier ++ adds.0.name ∷ []) lines adds.1 adds.3)))
    is

pub lines_not_empty : (naming : Naming) (names : List (List ℕ)) (earlier : List (Option (List ℕ))) (lines : List (List ℕ)) (plan : NamedSchemes) → MeansTableLines naming names earlier lines plan → All (λ x. IsEmpty x → ⊥) plan.schemes
lines_not_empty naming names earlier [] plan is = subst (λ (p : NamedSchemes). All (λ x. IsEmpty x → ⊥) p.schemes) (sym is) (All-nil (λ (x : Attributes). IsEmpty x → ⊥))
lines_not_empty naming names earlier (line ∷ lines) plan is =
    ⊎_elim
    (λ blank. lines_not_empty naming names earlier lines plan blank.1)
    (λ adds. subst (λ (p : NamedSchemes). All (λ x. IsEmpty x → ⊥) p.schemes) (sym adds.4)
    (All-cons (λ (x : Attributes). IsEmpty x → ⊥) adds.0.scheme adds.1.schemes
    (line_not_empty names earlier adds.2.marks adds.0 adds.2.is_line)
    (lines_not_empty naming names (earlier ++ adds.0.name ∷ []) lines adds.1 adds.3)))
    is

-- ---- names
-- the name of a line is none of earlier lines, and no script's
label_apart : (word : List ℕ) (earlier : List (Option (List ℕ))) → list_any (is_given word) earlier ≡ false
    → All (λ one. ApartFrom one (Some word)) earlier
label_apart word [] none = All-nil (λ one. ApartFrom one (Some word))
label_apart word (one ∷ earlier) none =
    let parts = or_parts (is_given word one) (list_any (is_given word) earlier) none in
    All-cons (λ one. ApartFrom one (Some word)) one earlier parts.0 (label_apart word earlier parts.1)

all_apart : (earlier : List (Option (List ℕ))) → All (λ one. ApartFrom one None) earlier
all_apart [] = All-nil (λ one. ApartFrom one None)
all_apart (one ∷ earlier) = All-cons (λ one. ApartFrom one None) one earlier tt (all_apart earlier)

name_apart : (names : List (List ℕ)) (earlier : List (Option (List ℕ))) (ms : List Mark) (t : PlannedTable)
    → IsTableLine names earlier ms t → All (λ one. ApartFrom one t.name) earlier
name_apart names earlier ms t is =
    ⊎_elim
    (λ scheme. subst (λ (name : Option (List ℕ)). All (λ one. ApartFrom one name) earlier) (sym scheme.unnamed) (all_apart earlier))
    (λ table. subst (λ (name : Option (List ℕ)). All (λ one. ApartFrom one name) earlier) (sym table.named)
    (label_apart table.label.word earlier table.new))
    is.opens

name_own : (names : List (List ℕ)) (earlier : List (Option (List ℕ))) (ms : List Mark) (t : PlannedTable)
    → IsTableLine names earlier ms t → IsOwnName t.name
name_own names earlier ms t is =
    ⊎_elim
    (λ scheme. subst IsOwnName (sym scheme.unnamed) tt)
    (λ table. subst IsOwnName (sym table.named)
    ((or_parts (is_reserved format.Plain table.label.word) (is_taken table.label.word) table.not_kept).1))
    is.opens

-- so the names of lines, after earlier ones that are apart, are apart
names_apart : (naming : Naming) (names : List (List ℕ)) (earlier : List (Option (List ℕ))) (lines : List (List ℕ)) (plan : NamedSchemes)
    → MeansTableLines naming names earlier lines plan → AreApart earlier → AreApart (earlier ++ plan.names)
names_apart naming names earlier [] plan is before =
    subst AreApart (sym (ap (λ (p : NamedSchemes). earlier ++ p.names) is ∙ append-nil earlier)) before
names_apart naming names earlier (line ∷ lines) plan (inl blank) before = names_apart naming names earlier lines plan blank.1 before
names_apart naming names earlier (line ∷ lines) plan (inr adds) before =
    subst AreApart
    (append_assoc earlier (adds.0.name ∷ []) adds.1.names ∙ sym (ap (λ (p : NamedSchemes). earlier ++ p.names) adds.4))
    (names_apart naming names (earlier ++ adds.0.name ∷ []) lines adds.1 adds.3
    (record {
      apart = all_pairs_push ApartFrom earlier adds.0.name before.apart
          (λ k d lt. All-get_or (λ one. ApartFrom one adds.0.name) earlier k d lt (name_apart names earlier adds.2.marks adds.0 adds.2.is_line));
      own = All-append IsOwnName earlier (adds.0.name ∷ []) before.own
          (All-cons IsOwnName adds.0.name [] (name_own names earlier adds.2.marks adds.0 adds.2.is_line) (All-nil IsOwnName));
    }))

pub plan_names_apart : (naming : Naming) (names : List (List ℕ)) (text : List ℕ) (plan : NamedSchemes) → MeansPlan naming names text plan → AreApart plan.names
plan_names_apart naming names text plan means =
    names_apart naming names [] (line_texts (without_mark text)) plan means.lines
    (record { apart = λ i j d less within. absurd (omega (arith, within)); own = All-nil IsOwnName })
