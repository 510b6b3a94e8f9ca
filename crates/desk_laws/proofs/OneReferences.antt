-- References between files are one list, columns that a word states too, and so each command on them has one answer.
use Rattle.std.proofs.Common.{◌≡◌, ◌<◌, ◌≤◌, ◌⊎◌, ◌↔◌, ℕ, zero, suc, Bool, true, false, List, [], ◌∷◌, length, map, take, get_or, is_some, cond, nat_lt, Option, Some, None, refl, sym, ap, subst, ◌∙◌, inl, inr, ⊎_elim, true≢false, arith}
use Rattle.std.proofs.lemmas.Bool.{cases_Bool, ltb-true}
use Rattle.std.proofs.lemmas.List.{length-take}
use Rattle.std.proofs.lemmas.List.Elements.{All-contains, Contains-get_or}
use Rattle.std.proofs.lemmas.List.Sums.{passes_at_first}
use Rattle.std.proofs.lemmas.Slice.Eq.{bytes_eq-Decides}
use Rattle.std.specs.Prelude.{AllPairs, Contains, codes, position, slice_get}
use Rattle.std.specs.List.{AllZip, flat_map, position_or_len}
use Rattle.std.specs.Str.{bytes_eq, str_to_ascii_lowercase}
use Rattle.dep_model.proofs.ListLemmas.{Contains-cases, Contains-head, Contains-later, Contains-nil, map-member}
use Rattle.dep_model.proofs.OrderedLists.{HoldsAll, IsOneWay, one_ordered_list}
use Rattle.dep_model.proofs.PairLemmas.{first_pairs, later_pairs}
use Rattle.schema_model.specs.Names.{same_name}
use Rattle.schema_model.specs.Schemas.{attribute_named}
use Rattle.schema_model.specs.declared.naming.Naming.TheVariants.{Any}
use Rattle.lexer.specs.Modes as mode
use Rattle.lexer.specs.Tokens.{Lexed, Mark, lex}
use Rattle.lexer.specs.declared.token.LexError.{LexError}
use Rattle.schema_grammar.specs.DiagnosticKinds.{DiagnosticKind, diagnostic_kind}
use Rattle.schema_grammar.specs.Diagnostics.{NamesDiagnostic, NamesWant, span_at}
use Rattle.schema_grammar.specs.declared.refusal.SchemaRefusal.{SchemaRefusal}
use Rattle.schema_grammar.specs.declared.refusal.What.TheVariants as what
use Rattle.schema_grammar.proofs.OneRefusal.{AtFirst-one, one_first}
use Rattle.headed_rows.specs.Headings.{HeadedRows}
use Rattle.file_references.specs.Columns.{HasWholeRow, file_at}
use Rattle.file_references.specs.References.{AreAllReferences, AreColumnsBefore, AreNamesakes, IsCandidate, IsListBefore, IsOneColumn, IsReference, Precedes, Reference}
use Rattle.implication_laws.specs.OneAnswer.{AllowsOne}
use Rattle.implication_laws.proofs.ImplyingLaws.{no_not_yes}
use Rattle.implication_laws.proofs.StepLaws.{Unless-one, With-one, same_says}
use Rattle.desk_references.specs.Checks.{ChecksReferences, JudgesReference, StopsUnpaired}
use Rattle.desk_references.specs.ColumnLists.{AreColumns, ColumnDiagnostic, ColumnsStop, MeansColumns, NamesColumnAt, RefusesColumns, WithColumns, columns_refusal_text}
use Rattle.desk_references.specs.Findings.{FindsReferences, reference_text}
use Rattle.desk_references.specs.declared.columns.TheConstants.{MOST_LISTED_COLUMNS}
use Rattle.desk_laws.proofs.StopLemmas.{With-goes, status_is}
use Rattle.desk_responses.specs.ResponseValues.{ResponseValue, Allowed, Unless}
use Rattle.desk_responses.specs.declared.status.Status.TheVariants.{Refused, Yes}

-- ---- lists of references
-- no two lists of numbers come before each other
lists_one_way : (xs ys : List ℕ) → IsListBefore xs ys → IsListBefore ys xs → ⊥
lists_one_way [] [] there back = absurd there
lists_one_way (x ∷ xs) [] there back = absurd there
lists_one_way [] (y ∷ ys) there back = absurd back
lists_one_way (x ∷ xs) (y ∷ ys) (inl less) (inl more) = omega (arith, less, more)
lists_one_way (x ∷ xs) (y ∷ ys) (inl less) (inr (same, later)) = omega (arith, less, same)
lists_one_way (x ∷ xs) (y ∷ ys) (inr (same, later)) (inl more) = omega (arith, same, more)
lists_one_way (x ∷ xs) (y ∷ ys) (inr (same, there)) (inr (also, back)) = lists_one_way xs ys there back

columns_one_way : (a : ℕ) (xs : List ℕ) (b : ℕ) (ys : List ℕ) → AreColumnsBefore a xs b ys → AreColumnsBefore b ys a xs → ⊥
columns_one_way a xs b ys (inl less) (inl more) = omega (arith, less, more)
columns_one_way a xs b ys (inl less) (inr (same, later)) = omega (arith, less, same)
columns_one_way a xs b ys (inr (same, later)) (inl more) = omega (arith, same, more)
columns_one_way a xs b ys (inr (same, there)) (inr (also, back)) = lists_one_way xs ys there back

-- nor do equal ones
columns_apart : (a : ℕ) (xs : List ℕ) (b : ℕ) (ys : List ℕ) → a ≡ b → xs ≡ ys → AreColumnsBefore a xs b ys → ⊥
columns_apart a xs b ys file columns there =
    let itself : AreColumnsBefore b ys b ys =
    subst (λ (zs : List ℕ). AreColumnsBefore b zs b ys) columns (subst (λ (i : ℕ). AreColumnsBefore i xs b ys) file there) in
    columns_one_way b ys b ys itself itself

precedes_one_way : (P : Reference → Type 0) → IsOneWay P Precedes
precedes_one_way P one other p q (inl there) (inl back) =
    columns_one_way one.file one.columns other.file other.columns there back
precedes_one_way P one other p q (inl there) (inr (file, columns, later)) =
    columns_apart one.file one.columns other.file other.columns (sym file) (sym columns) there
precedes_one_way P one other p q (inr (file, columns, later)) (inl back) =
    columns_apart other.file other.columns one.file one.columns (sym file) (sym columns) back
precedes_one_way P one other p q (inr (file, columns, there)) (inr (also, too, back)) =
    columns_one_way one.target one.key other.target other.key there back

references_held : (files : List HeadedRows) (one other : List Reference) → AreAllReferences files one
    → AreAllReferences files other → HoldsAll one other
references_held files one other first second ref has =
    second.all ref (All-contains (IsReference files) one ref first.each has)

one_references : (files : List HeadedRows) (one other : List Reference) → AreAllReferences files one
    → AreAllReferences files other → one ≡ other
one_references files one other first second =
    one_ordered_list (IsReference files) Precedes one other (precedes_one_way (IsReference files)) first.each second.each
    first.ascending second.ascending (references_held files one other first second)
    (references_held files other one second first)

pub one_found : (names : List (List ℕ)) (files : List HeadedRows) → AllowsOne (FindsReferences names files)
one_found names files one other (refs, are, says) (others, also, said) =
    same_says Yes _ _ one other says said (ap (flat_map (reference_text names files)) (one_references files refs others are also))

-- ---- what words state
-- columns that words name
module _ (names : List (List ℕ)) where
  same_columns : (ms : List Mark) (xs ys : List ℕ) → AllZip (NamesColumnAt names) ms xs → AllZip (NamesColumnAt names) ms ys
      → xs ≡ ys
  same_columns [] [] [] first second = refl
  same_columns [] [] (y ∷ ys) first second = absurd second
  same_columns [] (x ∷ xs) ys first second = absurd first
  same_columns (m ∷ ms) [] ys first second = absurd first
  same_columns (m ∷ ms) (x ∷ xs) [] first second = absurd second
  same_columns (m ∷ ms) (x ∷ xs) (y ∷ ys) first second =
      ap (λ (z : ℕ). z ∷ xs) (same_column first.0 second.0) ∙ ap (λ (zs : List ℕ). y ∷ zs) (same_columns ms xs ys first.1 second.1)
    where
      same_column : NamesColumnAt names m x → NamesColumnAt names m y → x ≡ y
      same_column one other = let same : Some x ≡ Some y = sym one.known ∙ other.known in cc

  -- the word at a place names a column
  named_at : (ms : List Mark) (xs : List ℕ) (place : ℕ) (m : Mark) → AllZip (NamesColumnAt names) ms xs
      → slice_get ms place ≡ Some m → (column : ℕ) × NamesColumnAt names m column × Contains xs column × (place < length xs)
  named_at [] xs place m each at = absurd cc
  named_at (n ∷ ms) [] place m each at = absurd each
  named_at (n ∷ ms) (x ∷ xs) zero m each at =
      let same : n ≡ m = cc in
      (x, subst (λ (w : Mark). NamesColumnAt names w x) same each.0, Contains-head x xs, omega arith)
  named_at (n ∷ ms) (x ∷ xs) (suc place) m each at =
      let (column, is, has, low) = named_at ms xs place m each.1 at in
      (column, is, Contains-later x xs column has, omega (arith, low))

  -- no word before it names this column, where the columns differ
  unnamed_before : (ms : List Mark) (xs : List ℕ) (place : ℕ) (m : Mark) (column : ℕ) → AllZip (NamesColumnAt names) ms xs
      → AllPairs (λ (one other : ℕ). one ≡ other → ⊥) xs → slice_get ms place ≡ Some m
      → attribute_named names m.word ≡ Some column → (w : Mark) → Contains (take place ms) w
      → attribute_named names w.word ≡ Some column → ⊥
  unnamed_before [] xs place m column each apart at known w has also = cc
  unnamed_before (n ∷ ms) [] place m column each apart at known w has also = absurd each
  unnamed_before (n ∷ ms) (x ∷ xs) zero m column each apart at known w has also = Contains-nil w has
  unnamed_before (n ∷ ms) (x ∷ xs) (suc place) m column each apart at known w has also = ⊎_elim
      (λ (same : w ≡ n).
      let (other, is, there, low) = named_at ms xs place m each.1 at in
      let first : Some x ≡ Some column = sym each.0.known ∙ ap (λ (v : Mark). attribute_named names v.word) (sym same) ∙ also in
      let later : Some other ≡ Some column = sym is.known ∙ known in
      first_pairs (λ (one another : ℕ). one ≡ another → ⊥) x xs other apart there cc)
      (λ later. unnamed_before ms xs place m column each.1 (later_pairs (λ (one another : ℕ). one ≡ another → ⊥) x xs apart)
      at known w later also)
      (Contains-cases n (take place ms) w has)

-- where a place is found, an element passes
found : (p : List ℕ → Bool) (ys : List (List ℕ)) → is_some (position p ys) ≡ true
    → (y : List ℕ) × Contains ys y × (p y ≡ true)
found p ys is =
    let j = position_or_len p ys in
    let low : j < length ys = elim (cases_Bool (nat_lt j (length ys))) [
      | inl within ↦ ltb-true j (length ys) within
      | inr beyond ↦ absurd (true≢false (sym is ∙ ap (λ (b : Bool). is_some (cond b (Some j) None)) beyond))
    ] in
    (get_or ys j [], Contains-get_or ys j [] low, passes_at_first p ys [] low)

-- names that are the same, ASCII case aside, name one column
named_alike : (names : List (List ℕ)) (one other : List ℕ) → same_name one other ≡ true
    → attribute_named names one ≡ attribute_named names other
named_alike names one other same =
    let lower = (bytes_eq-Decides (str_to_ascii_lowercase one) (str_to_ascii_lowercase other)).0 same in
    ap (λ (word : List ℕ). position (λ name. bytes_eq (str_to_ascii_lowercase name) word) names) lower

-- ---- how words are refused
-- what states columns is not wrong
module _ (names : List (List ℕ)) (ms : List Mark) (xs : List ℕ) (each : AllZip (NamesColumnAt names) ms xs)
    (some : 0 < length xs) (few : length xs ≤ MOST_LISTED_COLUMNS)
    (apart : AllPairs (λ (one other : ℕ). one ≡ other → ⊥) xs) where
  right_word : (place : ℕ) (m : Mark) (why : DiagnosticKind) → slice_get ms place ≡ Some m
      → ColumnDiagnostic names (take place ms) m why → ⊥
  right_word place m why at (inl (inl (word, inl (is, reserved)))) =
      let (column, named, has, low) = named_at names ms xs place m each at in
      true≢false (sym reserved ∙ named.not_reserved)
  right_word place m why at (inl (inl (word, inr (is, unknown)))) =
      let (column, named, has, low) = named_at names ms xs place m each at in
      let wrong : Some column ≡ None = sym named.known ∙ unknown in cc
  right_word place m why at (inl (inr (is, twice))) =
      let (column, named, has, low) = named_at names ms xs place m each at in
      let (word, there, alike) = found (λ name. same_name name m.word) (map (λ (w : Mark). w.word) (take place ms)) twice in
      let (w, earlier, same) = map-member (λ (w : Mark). w.word) (take place ms) word there in
      unnamed_before names ms xs place m column each apart at named.known w earlier
      (ap (attribute_named names) same ∙ named_alike names word m.word alike ∙ named.known)
  right_word place m why at (inr (is, full)) =
      let (column, named, has, low) = named_at names ms xs place m each at in
      let short = length-take place ms in omega (arith, low, few, full, short)

  right : (place : ℕ) (why : DiagnosticKind) → NamesDiagnostic (ColumnDiagnostic names) ms None place why → ⊥
  right place why (inl (inl (m, at, words, inl (word, wrong)))) = right_word place m why at wrong
  right place why (inl (inl (m, at, words, inr (is, none)))) =
      let (column, named, has, low) = named_at names ms xs place m each at in true≢false (sym named.word ∙ none)
  right place why (inl (inr (is, first, empty, ended))) = no_words ms xs each empty some
    where
      no_words : (ns : List Mark) (ys : List ℕ) → AllZip (NamesColumnAt names) ns ys → ns ≡ [] → 0 < length ys → ⊥
      no_words [] [] all nil long = omega (arith, long)
      no_words [] (y ∷ ys) all nil long = absurd all
      no_words (n ∷ ns) ys all nil long = cc
  right place why (inr (s, stops, there, rest)) = cc

-- ---- the words of the command
module _ (names : List (List ℕ)) (text : List ℕ) where
  one_stated : (xs ys : List ℕ) → MeansColumns names text xs → MeansColumns names text ys → xs ≡ ys
  one_stated xs ys first second =
      let same : first.marks ≡ second.marks = ap (λ (l : Lexed). l.marks) (sym first.tokens ∙ second.tokens) in
      same_columns names second.marks xs ys
      (subst (λ (ms : List Mark). AllZip (NamesColumnAt names) ms xs) same first.each) second.each

  one_complaint : (e f : SchemaRefusal) → RefusesColumns names text e → RefusesColumns names text f → e ≡ f
  one_complaint e f first second =
      let read : Lexed = lex (mode.goal Any) text in
      one_first (NamesDiagnostic (ColumnDiagnostic names) read.marks read.stop) NamesWant (span_at 1 1 read.marks read.stop) e f
      (λ (place : ℕ). AtFirst-one what.Name place) first second

  never_refused : (xs : List ℕ) (e : SchemaRefusal) → MeansColumns names text xs → RefusesColumns names text e → ⊥
  never_refused xs e means refused =
      right names means.marks xs means.each means.some means.within_limit means.apart refused.position (diagnostic_kind e.kind)
      (subst (λ (l : Lexed). NamesDiagnostic (ColumnDiagnostic names) l.marks l.stop refused.position (diagnostic_kind e.kind))
      means.tokens refused.stands)

  module _ (called : List ℕ) where
    one_columns_stop : AllowsOne (ColumnsStop called names text)
    one_columns_stop one other (inl (long, says)) (inl (also, said)) = says ∙ sym said
    one_columns_stop one other (inl (long, says)) (inr (e, refused, said)) =
        let within = refused.within_limit in absurd (omega (arith, within, long))
    one_columns_stop one other (inr (e, refused, says)) (inl (long, said)) =
        let within = refused.within_limit in absurd (omega (arith, within, long))
    one_columns_stop one other (inr (e, refused, says)) (inr (f, also, said)) =
        same_says Refused _ _ one other says said
        (ap (columns_refusal_text called) (one_complaint e f refused.refused also.refused))

    columns_go : (xs : List ℕ) (response : ResponseValue) → AreColumns names text xs
        → ColumnsStop called names text response → ⊥
    columns_go xs response are (inl (long, says)) = let within = are.within_limit in omega (arith, within, long)
    columns_go xs response are (inr (e, refused, says)) = never_refused xs e are.means refused.refused

    one_after_columns : (rest : List ℕ → Allowed) → ((xs : List ℕ) → AllowsOne (rest xs))
        → AllowsOne (WithColumns called names text rest)
    one_after_columns rest one_rest =
        With-one (ColumnsStop called names text) (AreColumns names text) rest one_columns_stop columns_go
        (λ xs ys are also. one_stated xs ys are.means also.means) (λ xs are. one_rest xs)

    -- each answer after a word is one on its columns
    after_columns : (xs : List ℕ) (rest : List ℕ → Allowed) (response : ResponseValue) → AreColumns names text xs
        → WithColumns called names text rest response → rest xs response
    after_columns xs rest response are answered =
        With-goes (ColumnsStop called names text) (AreColumns names text) rest xs response (columns_go xs response are)
        (λ ys also. one_stated ys xs also.means are.means) answered

-- ---- the check of a reference
module _ (own : HeadedRows) (other : HeadedRows) where
  one_judged : (x k : List ℕ) → AllowsOne (JudgesReference own x other k)
  one_judged x k one another (inl (within, says)) (inl (also, said)) = says ∙ sym said
  one_judged x k one another (inl (within, says)) (inr (not_within, said)) = absurd (not_within within)
  one_judged x k one another (inr (not_within, says)) (inl (within, said)) = absurd (not_within within)
  one_judged x k one another (inr (not_within, says)) (inr (also, said)) = says ∙ sym said

  abbrev Pairs : List ℕ → List ℕ → Allowed
  Pairs x k = Unless (StopsUnpaired x k) (length x ≡ length k) (JudgesReference own x other k)

  one_paired : (x k : List ℕ) → AllowsOne (Pairs x k)
  one_paired x k =
      Unless-one (StopsUnpaired x k) (length x ≡ length k) (JudgesReference own x other k)
      (λ one another first second. first.1 ∙ sym second.1) (λ response same stops. stops.0 same) (λ same. one_judged x k)

  pub one_checked_of : (first second : List ℕ) → AllowsOne (ChecksReferences own first other second)
  one_checked_of first second =
      one_after_columns own.names first (codes "first") (λ x. WithColumns (codes "second") other.names second (λ k. Pairs x k))
      (λ x. one_after_columns other.names second (codes "second") (λ k. Pairs x k) (λ k. one_paired x k))

  -- of words that state as many columns, each answer is one on these columns
  pub judged : (first second x k : List ℕ) (response : ResponseValue) → AreColumns own.names first x
      → AreColumns other.names second k → length x ≡ length k → ChecksReferences own first other second response
      → JudgesReference own x other k response
  judged first second x k response are also same checks =
      paired (after_columns other.names second (codes "second") k (λ k. Pairs x k) response also
      (after_columns own.names first (codes "first") x (λ x. WithColumns (codes "second") other.names second (λ k. Pairs x k))
      response are checks))
    where
      paired : Pairs x k response → JudgesReference own x other k response
      paired (inl stops) = absurd (stops.0 same)
      paired (inr (passed, judges)) = judges

pub one_checked : (own : HeadedRows) (first : List ℕ) (other : HeadedRows) (second : List ℕ)
    → AllowsOne (ChecksReferences own first other second)
one_checked own first other second = one_checked_of own other first second

-- ---- what one command lists, the other confirms
-- the columns of a source are as many as those of its target
zip_lengths : {X Y : Type 0} (R : X → Y → Type 0) (xs : List X) (ys : List Y) → AllZip R xs ys → length xs ≡ length ys
zip_lengths R [] [] each = refl
zip_lengths R [] (y ∷ ys) each = absurd each
zip_lengths R (x ∷ xs) [] each = absurd each
zip_lengths R (x ∷ xs) (y ∷ ys) each = ap suc (zip_lengths R xs ys each.1)

as_many : (files : List HeadedRows) (ref : Reference) → IsCandidate files ref → length ref.columns ≡ length ref.key
as_many files ref candidate = by_source candidate.source
  where
    by_source : IsOneColumn files ref ⊎ AreNamesakes files ref → length ref.columns ≡ length ref.key
    by_source (inl one) = ap length one.source ∙ sym (ap length one.target)
    by_source (inr several) = zip_lengths _ ref.columns ref.key several.named

pub checked_references : (files : List HeadedRows) (refs : List Reference) (ref : Reference) (first second : List ℕ)
    (response : ResponseValue) → AreAllReferences files refs → IsCandidate files ref
    → AreColumns (file_at files ref.file).names first ref.columns
    → AreColumns (file_at files ref.target).names second ref.key
    → ChecksReferences (file_at files ref.file) first (file_at files ref.target) second response
    → Contains refs ref ↔ ((response.status ≡ Yes) × HasWholeRow (file_at files ref.file).rows ref.columns)
checked_references files refs ref first second response are candidate stated also checks =
    (λ has. listed (All-contains (IsReference files) refs ref are.each has) says, λ both. confirmed both.0 both.1 says)
  where
    says : JudgesReference (file_at files ref.file) ref.columns (file_at files ref.target) ref.key response
    says =
        judged (file_at files ref.file) (file_at files ref.target) first second ref.columns ref.key response stated also
        (as_many files ref candidate) checks

    listed : IsReference files ref
        → JudgesReference (file_at files ref.file) ref.columns (file_at files ref.target) ref.key response
        → (response.status ≡ Yes) × HasWholeRow (file_at files ref.file).rows ref.columns
    listed is (inl (within, said)) = (status_is response _ said, is.some_row)
    listed is (inr (not_within, said)) = absurd (not_within is.within)

    confirmed : response.status ≡ Yes → HasWholeRow (file_at files ref.file).rows ref.columns
        → JudgesReference (file_at files ref.file) ref.columns (file_at files ref.target) ref.key response → Contains refs ref
    confirmed says_yes some_row (inl (within, said)) =
        are.all ref (record { candidate = candidate; within = within; some_row = some_row })
    confirmed says_yes some_row (inr (not_within, said)) = absurd (no_not_yes response says_yes (status_is response _ said))
