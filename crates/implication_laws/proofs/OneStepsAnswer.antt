-- How a closure comes about, whether a set is a key, and whether a schema is a minimal cover, have one
-- answer each.
use Rattle.std.proofs.Common.{◌≡◌, ◌<◌, ◌↔◌, ◌++◌, ℕ, true, List, [], ◌∷◌, map, refl, sym, subst, ap, ◌∙◌, inl, inr, arith}
use Rattle.std.specs.List.{flat_map}
use Rattle.std.specs.Prelude.{All, Contains, codes}
use Rattle.std.proofs.lemmas.List.Elements.{All-contains, All-map, Contains-get_or}
use Rattle.attr_sets.specs.Attributes.{Attributes, only, difference}
use Rattle.attr_sets.specs.Sets.{attributes}
use Rattle.attr_sets.proofs.AttributesLemmas.{same_from_within}
use Rattle.closure_steps.specs.declared.without.Without.{Without}
use Rattle.closure_steps.specs.Steps.{ClosureStepValue, reached}
use Rattle.closure_steps.specs.Without.{IsClosureWithout, AreClosuresWithout}
use Rattle.closure_steps.proofs.StepLemmas.{one_list}
use Rattle.cover_accounts.specs.declared.diagnostic.CoverDiagnostic.{CoverDiagnostic}
use Rattle.cover_accounts.specs.declared.diagnostic.CoverForm.{CoverForm}
use Rattle.cover_accounts.specs.CoverDiagnostics.{IsCoverDiagnostic, IsBeforePlace, AreCoverDiagnostics, position_of, rank_of}
use Rattle.dep_model.specs.Dependencies.{Dependency, fd}
use Rattle.dep_model.specs.Keys.{InClosure}
use Rattle.schema_model.specs.Schemas.{names_of, width_of, universe_of, theory_of, naming_of}
use Rattle.schema_model.specs.Schemas.{Schema}
use Rattle.dep_model.proofs.ListLemmas.{Contains-map, map-member}
use Rattle.schema_match.specs.Columns.{SameNames}
use Rattle.schema_printer.specs.Printing.{set_text}
use Rattle.schema_printer.specs.Spelling.{printed_names_of}
use Rattle.desk_implication.specs.Closures.{IsBesideText, ComesAbout, TellsClosure, GivesClosure, closure_text}
use Rattle.desk_covers.specs.CoverChecks.{TestsForm, TestsCover, ChecksCoverForm, diagnostics_text}
use Rattle.desk_arguments.specs.Goals.{SetStops, IsSetText}
use Rattle.desk_keys.specs.KeyChecks.{IsKeyText, IsNoSuperkey, HasKeyWithin, TestsKey, ChecksKey, key_within_text, no_superkey_text, without_text}
use Rattle.desk_covers.specs.Sameness.{NameStops, different_text}
use Rattle.desk_responses.specs.declared.status.Status.TheVariants.{Yes, No}
use Rattle.desk_texts.specs.Texts.{line, set_line}
use Rattle.typed_rows.specs.Shown.{shown_tuples}
use Rattle.implication_laws.specs.OneAnswer.{AllowsOne}
use Rattle.implication_laws.proofs.OneAnswer.{one_set_stop, set_goes, one_set, one_name_stop}
use Rattle.implication_laws.proofs.OneBasis.{one_refuted}
use Rattle.implication_laws.proofs.OneList.{one_differences}
use Rattle.dep_model.proofs.KeyLemmas.{one_greedy}
use Rattle.dep_model.proofs.OrderedLists.{HoldsAll, IsOneWay, one_ordered_list}
use Rattle.dep_model.proofs.PairLemmas.{pairs_map}
use Rattle.implication_laws.proofs.AlikeLaws.{names_go}
use Rattle.implication_laws.proofs.StepLaws.{same_says, With-one, Unless-one}

-- ---- closed sets
closed_once : (n : ℕ) (ds : List Dependency) (x c d : Attributes) → ((a : ℕ) → (c a ≡ true) ↔ InClosure n ds x a)
    → ((a : ℕ) → (d a ≡ true) ↔ InClosure n ds x a) → c ≡ d
closed_once n ds x c d first second =
    same_from_within c d (λ a member. (second a).1 ((first a).0 member)) (λ a member. (first a).1 ((second a).0 member))

one_beside : (names : List (List ℕ)) (y : Attributes) (text other : List ℕ) → IsBesideText names y text
    → IsBesideText names y other → text ≡ other
one_beside names y text other (inl (none, is)) (inl (also, again)) = is ∙ sym again
one_beside names y text other (inl (none, is)) (inr (found, again)) = absurd (found none)
one_beside names y text other (inr (found, is)) (inl (none, again)) = absurd (found none)
one_beside names y text other (inr (found, is)) (inr (also, again)) = is ∙ sym again

one_closure_text : (s : Schema) (x : Attributes) (text other : List ℕ) → ComesAbout s x text → ComesAbout s x other
    → text ≡ other
one_closure_text s x text other first second =
    let steps : first.steps ≡ second.steps =
    one_list (theory_of s) x first.steps second.steps first.are_steps second.are_steps in
    let closed : first.closed ≡ second.closed =
    closed_once (width_of s) (theory_of s) x first.closed second.closed first.is_closure second.is_closure in
    let names = printed_names_of s in
    let beside : first.beside ≡ second.beside =
    one_beside names (difference second.closed (reached x second.steps)) first.beside second.beside
    (subst (λ (c : Attributes). IsBesideText names (difference c (reached x second.steps)) first.beside) closed
    (subst (λ (ss : List ClosureStepValue). IsBesideText names (difference first.closed (reached x ss)) first.beside) steps first.is_beside))
    second.is_beside in
    first.reads
    ∙ ap (λ (ss : List ClosureStepValue). closure_text s x ss first.beside first.closed) steps
    ∙ ap (λ (b : List ℕ). closure_text s x second.steps b first.closed) beside
    ∙ ap (λ (c : Attributes). closure_text s x second.steps second.beside c) closed
    ∙ sym second.reads

one_told_closure : (s : Schema) (x : Attributes) → AllowsOne (TellsClosure s x)
one_told_closure s x one other (text, first, says) (again, second, said) =
    same_says Yes text again one other says said (one_closure_text s x text again first second)

pub one_closure_answer : (s : Schema) (set : List ℕ) → AllowsOne (GivesClosure s set)
one_closure_answer s set =
    With-one (SetStops s set) (IsSetText s set) (TellsClosure s) (one_set_stop s set)
    (λ x response is stops. set_goes s set x response is stops)
    (λ x y is also. one_set (naming_of s) (names_of s) set x y is.means also.means) (λ x is. one_told_closure s x)

-- ---- keys
-- an attribute, and the closed set of the others
abbrev View : Type 0
View = ℕ × Attributes

abbrev view : Without → View
view without = (without.attribute, attributes without.closed)

abbrev IsView : ℕ → List Dependency → Attributes → View → Type 0
IsView n ds x v = (x v.0 ≡ true) × ((a : ℕ) → (v.1 a ≡ true) ↔ InClosure n ds (difference x (only v.0)) a)

views_one_way : (n : ℕ) (ds : List Dependency) (x : Attributes) → IsOneWay (IsView n ds x) (λ v w. v.0 < w.0)
views_one_way n ds x v w v_is w_is there back = omega (arith, there, back)

views_held : (n : ℕ) (ds : List Dependency) (x : Attributes) (one other : List Without) → AreClosuresWithout n ds x one
    → AreClosuresWithout n ds x other → HoldsAll (map view one) (map view other)
views_held n ds x one other first second v has =
    let (w, w_in, w_is) = map-member view one v has in
    let here = All-contains (IsClosureWithout n ds x) one w first.each w_in in
    let found = second.all w.attribute here.member in
    let there = All-contains (IsClosureWithout n ds x) other found.1 second.each (found.0, found.2, found.3) in
    let closed : attributes found.1.closed ≡ attributes w.closed =
    closed_once n ds (difference x (only w.attribute)) (attributes found.1.closed) (attributes w.closed)
    (subst (λ (k : ℕ). (a : ℕ) → (attributes found.1.closed a ≡ true) ↔ InClosure n ds (difference x (only k)) a) found.4 there.closed)
    here.closed in
    let same : view found.1 ≡ v =
    ap (λ (k : ℕ). (k, attributes found.1.closed)) found.4
    ∙ ap (λ (c : Attributes). (w.attribute, c)) closed ∙ w_is in
    subst (λ (u : View). Contains (map view other) u) same
    (Contains-map view other found.1 (found.0, found.2, found.3))

views_each : (n : ℕ) (ds : List Dependency) (x : Attributes) (found : List Without) → AreClosuresWithout n ds x found
    → All (IsView n ds x) (map view found)
views_each n ds x found are = All-map (IsView n ds x) view found (λ k d low. ((are.each k d low).member, (are.each k d low).closed))

one_view_list : (n : ℕ) (ds : List Dependency) (x : Attributes) (one other : List Without) → AreClosuresWithout n ds x one
    → AreClosuresWithout n ds x other → map view one ≡ map view other
one_view_list n ds x one other first second =
    one_ordered_list (IsView n ds x) (λ v w. v.0 < w.0) (map view one) (map view other) (views_one_way n ds x)
    (views_each n ds x one first) (views_each n ds x other second)
    (pairs_map (λ (v : View) (w : View). v.0 < w.0) view one first.ascending)
    (pairs_map (λ (v : View) (w : View). v.0 < w.0) view other second.ascending)
    (views_held n ds x one other first second) (views_held n ds x other one second first)

abbrev view_text : List (List ℕ) → View → List ℕ
view_text names v = set_line (codes "without " ++ set_text names (only v.0) ++ codes ": closure ") names v.1

text_of_views : (names : List (List ℕ)) (found : List Without)
    → flat_map (without_text names) found ≡ flat_map (view_text names) (map view found)
text_of_views names [] = refl
text_of_views names (w ∷ found) = ap (λ (t : List ℕ). without_text names w ++ t) (text_of_views names found)

one_key_text : (s : Schema) (x : Attributes) (text other : List ℕ) → IsKeyText s x text → IsKeyText s x other
    → text ≡ other
one_key_text s x text other first second =
    let names = printed_names_of s in
    first.reads
    ∙ ap (λ (t : List ℕ). line (set_text names x ++ codes " is a key") ++ t)
    (text_of_views names first.found
    ∙ ap (flat_map (view_text names)) (one_view_list (width_of s) (theory_of s) x first.found second.found first.without second.without)
    ∙ sym (text_of_views names second.found))
    ∙ sym second.reads

one_refuted_text : (s : Schema) (x : Attributes) (text other : List ℕ) → IsNoSuperkey s x text → IsNoSuperkey s x other
    → text ≡ other
one_refuted_text s x text other first second =
    let closed : first.closed ≡ second.closed =
    closed_once (width_of s) (theory_of s) x first.closed second.closed first.is_closure second.is_closure in
    let shown : first.agreement ≡ second.agreement =
    one_refuted (width_of s) (theory_of s) (fd x (universe_of s)) first.agreement second.agreement first.broken second.broken in
    first.reads
    ∙ ap (λ (c : Attributes). no_superkey_text s x (difference (universe_of s) c) (shown_tuples s first.agreement)) closed
    ∙ ap (λ (b : Attributes). no_superkey_text s x (difference (universe_of s) second.closed) (shown_tuples s b)) shown
    ∙ sym second.reads

one_within_text : (s : Schema) (x : Attributes) (text other : List ℕ) → HasKeyWithin s x text → HasKeyWithin s x other
    → text ≡ other
one_within_text s x text other first second =
    first.reads
    ∙ ap (key_within_text (printed_names_of s) x)
    (one_greedy (width_of s) (width_of s) (theory_of s) x first.key second.key first.superkey.within.0 first.greedy second.greedy)
    ∙ sym second.reads

one_tested_key : (s : Schema) (x : Attributes) → AllowsOne (TestsKey s x)
one_tested_key s x one other (text, inl (first, says)) (again, inl (second, said)) =
    same_says Yes text again one other says said (one_key_text s x text again first.shown second.shown)
one_tested_key s x one other (text, inl (first, says)) (again, inr (inl second, said)) =
    absurd (second.no_superkey first.is_key.superkey)
one_tested_key s x one other (text, inl (first, says)) (again, inr (inr second, said)) =
    absurd (second.no_key first.is_key)
one_tested_key s x one other (text, inr (inl first, says)) (again, inl (second, said)) =
    absurd (first.no_superkey second.is_key.superkey)
one_tested_key s x one other (text, inr (inr first, says)) (again, inl (second, said)) =
    absurd (first.no_key second.is_key)
one_tested_key s x one other (text, inr (inl first, says)) (again, inr (inl second, said)) =
    same_says No text again one other says said (one_refuted_text s x text again first second)
one_tested_key s x one other (text, inr (inl first, says)) (again, inr (inr second, said)) =
    absurd (first.no_superkey second.superkey)
one_tested_key s x one other (text, inr (inr first, says)) (again, inr (inl second, said)) =
    absurd (second.no_superkey first.superkey)
one_tested_key s x one other (text, inr (inr first, says)) (again, inr (inr second, said)) =
    same_says No text again one other says said (one_within_text s x text again first second)

pub one_key_answer : (s : Schema) (set : List ℕ) → AllowsOne (ChecksKey s set)
one_key_answer s set =
    With-one (SetStops s set) (IsSetText s set) (TestsKey s) (one_set_stop s set)
    (λ x response is stops. set_goes s set x response is stops)
    (λ x y is also. one_set (naming_of s) (names_of s) set x y is.means also.means) (λ x is. one_tested_key s x)

-- ---- covers
diagnostics_one_way : (form : CoverForm) (n : ℕ) (ds : List Dependency)
    → IsOneWay (IsCoverDiagnostic form n ds) (λ (c : CoverDiagnostic) (d : CoverDiagnostic). IsBeforePlace (position_of d) (rank_of d) c)
diagnostics_one_way form n ds c d c_is d_is (inl there) (inl back) = omega (arith, there, back)
diagnostics_one_way form n ds c d c_is d_is (inl there) (inr (at, back)) = omega (arith, there, at)
diagnostics_one_way form n ds c d c_is d_is (inr (at, there)) (inl back) = omega (arith, at, back)
diagnostics_one_way form n ds c d c_is d_is (inr (at, there)) (inr (also, back)) = omega (arith, there, back)

one_diagnostic_list : (form : CoverForm) (n : ℕ) (ds : List Dependency) (one other : List CoverDiagnostic)
    → AreCoverDiagnostics form n ds one → AreCoverDiagnostics form n ds other → one ≡ other
one_diagnostic_list form n ds one other first second =
    one_ordered_list (IsCoverDiagnostic form n ds) (λ (c : CoverDiagnostic) (d : CoverDiagnostic). IsBeforePlace (position_of d) (rank_of d) c)
    one other (diagnostics_one_way form n ds)
    (λ k d low. first.each _ (Contains-get_or one k d low)) (λ k d low. second.each _ (Contains-get_or other k d low))
    first.ordered second.ordered
    (λ c has. second.all c (first.each c has)) (λ c has. first.all c (second.each c has))

one_tested : (form : CoverForm) (s : Schema) → AllowsOne (TestsForm form s)
one_tested form s one other (found, first, inl (none, says)) (also, second, inl (empty, said)) = says ∙ sym said
one_tested form s one other (found, first, inl (none, says)) (also, second, inr (some, said)) =
    absurd (some (one_diagnostic_list form (width_of s) (theory_of s) also found second first ∙ none))
one_tested form s one other (found, first, inr (some, says)) (also, second, inl (none, said)) =
    absurd (some (one_diagnostic_list form (width_of s) (theory_of s) found also first second ∙ none))
one_tested form s one other (found, first, inr (some, says)) (also, second, inr (more, said)) =
    same_says No _ _ one other says said
    (ap (diagnostics_text s) (one_diagnostic_list form (width_of s) (theory_of s) found also first second))

one_tested_cover : (form : CoverForm) (s other : Schema) (file other_file : List ℕ)
    → AllowsOne (TestsCover form s other file other_file)
one_tested_cover form s other file other_file one two (inl (there, back, differ, says)) (inl (of_s, of_other, also, said)) =
    same_says No _ _ one two says said
    (ap (λ (ks : List ℕ). different_text s other file other_file ks back) (one_differences s other there of_s differ.there also.there)
    ∙ ap (different_text s other file other_file of_s) (one_differences other s back of_other differ.back also.back))
one_tested_cover form s other file other_file one two (inl (there, back, differ, says)) (inr (same, tests)) =
    absurd (differ.legal same.legal)
one_tested_cover form s other file other_file one two (inr (same, tests)) (inl (there, back, differ, says)) =
    absurd (differ.legal same.legal)
one_tested_cover form s other file other_file one two (inr (same, tests)) (inr (also, again)) = one_tested form other one two tests again

pub one_cover_check : (form : CoverForm) (s other : Schema) (file other_file : List ℕ)
    → AllowsOne (ChecksCoverForm form s other file other_file)
one_cover_check form s other file other_file =
    Unless-one (NameStops s other file other_file) (SameNames s other) (TestsCover form s other file other_file)
    (one_name_stop s other file other_file)
    (λ response names. names_go s other file other_file response names)
    (λ names. one_tested_cover form s other file other_file)
