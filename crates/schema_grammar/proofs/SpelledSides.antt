-- What is printed of a set of attributes is a side for the set, however its names are printed.
use Rattle.std.proofs.Common.{◌≡◌, ◌+◌, ◌==◌, ◌&&◌, ◌||◌, not, inl, inr, ℕ, suc, Bool, true, false, cond, List, [], ◌∷◌, ◌++◌, length, Some, refl, sym, ◌∙◌, ap, subst, arith, append_assoc, length-append}
use mathlib.Core.Path.{fun_ext}
use Rattle.std.specs.Prelude.{All, AllPairs, nat_lt, nat_le, codes}
use Rattle.std.specs.List.{list_any}
use Rattle.std.proofs.Math.Bool.{and-false}
use Rattle.std.proofs.lemmas.Bool.{cases_Bool, and_parts, or_parts, eqb-true, not-true}
use Rattle.std.proofs.lemmas.Bool.Decides.{nat_tests}
use Rattle.std.proofs.lemmas.List.{get_or_append_left, get_or_at}
use Rattle.std.proofs.lemmas.List.Elements.{All-nil, All-cons, All-head, All-tail}
use Rattle.attr_sets.specs.Attributes.{Attributes, below, IsSubset}
use Rattle.schema_model.specs.declared.naming.Naming.{Naming}
use Rattle.schema_model.specs.declared.naming.Naming.TheVariants.{Bare, Any}
use Rattle.schema_model.specs.Names.{is_bare_name, same_name}
use Rattle.schema_model.specs.Schemas.{attribute_named}
use Rattle.schema_model.proofs.NameLemmas.{attribute_named-append}
use Rattle.schema_printer.specs.Printing.{members_from}
use Rattle.schema_printer.specs.Spelling.{is_schema_word, spelling}
use Rattle.schema_printer.proofs.MemberLemmas.{members_each}
use Rattle.schema_grammar.specs.declared.format.Format.{Format}
use Rattle.schema_grammar.specs.declared.format.Format.TheVariants as format
use Rattle.schema_grammar.specs.Meanings.{is_at, attributes_of_words, IsAttribute, IsSide}
use Rattle.schema_grammar.specs.Words.{is_reserved, is_word_token, is_reserved_token}
use Rattle.schema_grammar.specs.Printed.{IsReadBack, AreReadBack}
use Rattle.schema_grammar.proofs.SpelledWords.{is_plain_word, kind_of, name_mark, name_marks, side_marks}

-- names are those before a position, and those from it on
pub record IsCutAt (names before after : List (List ℕ)) (position : ℕ) : Type 0 where
  pub whole : names ≡ before ++ after
  pub size : length before ≡ position

pub cut_more : (names before : List (List ℕ)) (name : List ℕ) (after : List (List ℕ)) (position : ℕ)
    → IsCutAt names before (name ∷ after) position → IsCutAt names (before ++ name ∷ []) after (position + 1)
cut_more names before name after position cut = record {
  whole = cut.whole ∙ sym (append_assoc before (name ∷ []) after);
  size = length-append before (name ∷ []) ∙ (let same = cut.size in omega arith);
}

-- the attributes that words name
abbrev pub words_set : List (List ℕ) → List (List ℕ) → Attributes
words_set names words k = list_any (λ w. is_at (attribute_named names w) k) words

abbrev pub Differ : List (List ℕ) → Type 0
Differ names = AllPairs (λ a b. same_name a b ≡ false) names

-- ---- the token of a name names its attribute
-- what is no word of a schema text is reserved in none
no_word_reserved : (f : Format) (name : List ℕ) → is_schema_word name ≡ false → is_reserved f name ≡ false
unfolding is_schema_word is_reserved
no_word_reserved f name none =
    let a = or_parts (same_name name (codes "attributes")) _ none in
    let s = or_parts (same_name name (codes "scheme")) _ a.1 in
    let v = or_parts (same_name name (codes "version")) _ s.1 in
    let i = or_parts (same_name name (codes "integer")) _ v.1 in
    let t = or_parts (same_name name (codes "text")) _ i.1 in
    elim f as (λ g. is_reserved g name ≡ false) [
      | format.Plain ↦ rw (a.0, s.0, v.0) refl
      | format.Typed ↦ rw (a.0, s.0, v.0, i.0, t.0) refl
      | format.Full ↦ none
    ]

pub kind_is_word : (naming : Naming) (name : List ℕ) → is_word_token (kind_of naming name) ≡ true
kind_is_word Bare name = refl
kind_is_word Any name = elim (cases_Bool (is_plain_word name)) [ inl own ↦ rw own refl | inr other ↦ rw other refl ]

pub kind_not_reserved : (f : Format) (naming : Naming) (name : List ℕ) → IsReadBack f naming name
    → is_reserved_token f (kind_of naming name) name ≡ false
kind_not_reserved f Bare name is = is.1
kind_not_reserved f Any name is = elim (cases_Bool (is_plain_word name)) [
  | inl own ↦
      let parts = and_parts (is_bare_name name) (not (is_schema_word name)) own in
      rw own (no_word_reserved f name (not-true (is_schema_word name) parts.1))
  | inr other ↦ rw other refl
]

-- a name differs from those before it
pub differ_before : (names before : List (List ℕ)) (name : List ℕ) (after : List (List ℕ)) → Differ names
    → names ≡ before ++ name ∷ after → All (λ b. same_name b name ≡ false) before
differ_before names before name after differ cut k d h =
    let size : length (before ++ name ∷ after) ≡ length before + suc (length after) =
    length-append before (name ∷ after) in
    let differs = (subst Differ cut differ) k (length before) d h (omega arith) in
    rw (get_or_append_left before (name ∷ after) d k h, get_or_at before name after d (length before) refl)
    at differs

-- a name is found where it stands
found_at : (names before : List (List ℕ)) (name : List ℕ) (after : List (List ℕ)) (position : ℕ) → Differ names
    → IsCutAt names before (name ∷ after) position → attribute_named names name ≡ Some position
found_at names before name after position differ cut =
    ap (λ t. attribute_named t name) cut.whole
    ∙ attribute_named-append before name after (differ_before names before name after differ cut.whole)
    ∙ ap Some cut.size

-- a name, of which an attribute is known
abbrev pub IsKnownName : Format → Naming → List (List ℕ) → List ℕ → Type 0
IsKnownName f naming names name =
    IsReadBack f naming name × ((position : ℕ) × (attribute_named names name ≡ Some position))

pub each_known : (f : Format) (naming : Naming) (names before after : List (List ℕ)) (position : ℕ) → Differ names
    → IsCutAt names before after position → All (IsReadBack f naming) after → All (IsKnownName f naming names) after
each_known f naming names before [] position differ cut all = All-nil (IsKnownName f naming names)
each_known f naming names before (name ∷ after) position differ cut all =
    All-cons (IsKnownName f naming names) name after (
      All-head (IsReadBack f naming) name after all,
      (position, found_at names before name after position differ cut),
    )
    (each_known f naming names (before ++ name ∷ []) after (position + 1) differ
    (cut_more names before name after position cut) (All-tail (IsReadBack f naming) name after all))

mark_names : (f : Format) (naming : Naming) (names : List (List ℕ)) (column : ℕ) (name : List ℕ)
    → IsKnownName f naming names name → IsAttribute f names (name_mark naming column name)
mark_names f naming names column name known = record {
  word = kind_is_word naming name;
  not_reserved = kind_not_reserved f naming name known.0;
  index = known.1.0;
  known = known.1.1;
}

pub marks_name : (f : Format) (naming : Naming) (names : List (List ℕ)) (column : ℕ) (words : List (List ℕ))
    → All (IsKnownName f naming names) words → All (IsAttribute f names) (name_marks naming column words)
marks_name f naming names column [] known = All-nil (IsAttribute f names)
marks_name f naming names column (word ∷ words) known =
    All-cons (IsAttribute f names) _ _
    (mark_names f naming names (column + 1) word (All-head (IsKnownName f naming names) word words known))
    (marks_name f naming names (column + 1 + length (spelling naming word)) words
    (All-tail (IsKnownName f naming names) word words known))

-- ---- the set that they name
-- whether i is one of n attributes from a position on
abbrev within_window : ℕ → ℕ → ℕ → Bool
within_window position n i = nat_le position i && nat_lt i (position + n)

-- the names of the members name the members
members_set : (x : Attributes) (names before after : List (List ℕ)) (position i : ℕ) → Differ names
    → IsCutAt names before after position
    → words_set names (members_from x position after) i ≡ (within_window position (length after) i && x i)
members_set x names before [] position i differ cut =
    let window : within_window position 0 i ≡ false = grind (arith, nat_tests) in rw window refl
members_set x names before (name ∷ after) position i differ cut =
    by_cases (x position) (i == position) refl refl
    (members_set x names (before ++ name ∷ []) after (position + 1) i differ
    (cut_more names before name after position cut))
  where
    found : attribute_named names name ≡ Some position
    found = found_at names before name after position differ cut

    other : (i == position) ≡ false
        → within_window (position + 1) (length after) i ≡ within_window position (suc (length after)) i
    other is = grind (arith, nat_tests)

    by_cases : (b same : Bool) → x position ≡ b → (i == position) ≡ same
        → words_set names (members_from x (position + 1) after) i
        ≡ (within_window (position + 1) (length after) i && x i)
        → words_set names
        (cond b (name ∷ members_from x (position + 1) after) (members_from x (position + 1) after)) i
        ≡ (within_window position (suc (length after)) i && x i)
    by_cases true true here is rest =
        let at : i ≡ position = eqb-true i position is in
        let value : x i ≡ true = ap x at ∙ here in
        let window : within_window position (suc (length after)) i ≡ true = grind (arith, nat_tests) in
        rw (found, is, window, value) refl
    by_cases true false here is rest = rw (found, is) (rest ∙ ap (λ w. w && x i) (other is))
    by_cases false true here is rest =
        let at : i ≡ position = eqb-true i position is in
        let value : x i ≡ false = ap x at ∙ here in
        let past : within_window (position + 1) (length after) i ≡ false = grind (arith, nat_tests) in
        rest ∙ (rw (past, value) (sym (and-false (within_window position (suc (length after)) i))))
    by_cases false false here is rest = rest ∙ ap (λ w. w && x i) (other is)

pub members_are : (x : Attributes) (names : List (List ℕ)) → Differ names → IsSubset x (below (length names))
    → x ≡ words_set names (members_from x 0 names)
members_are x names differ within =
    fun_ext (λ i. by_cases i (x i) refl
    ∙ sym (members_set x names [] names 0 i differ (record { whole = refl; size = refl })))
  where
    by_cases : (i : ℕ) (b : Bool) → x i ≡ b → x i ≡ (within_window 0 (length names) i && x i)
    by_cases i true is =
        let small : nat_lt i (length names) ≡ true = within i is in
        let window : within_window 0 (length names) i ≡ true = grind (arith, nat_tests) in rw (window, is) refl
    by_cases i false is =
        is ∙ sym (ap (λ v. within_window 0 (length names) i && v) is ∙ and-false (within_window 0 (length names) i))

pub marks_set : (naming : Naming) (names : List (List ℕ)) (column : ℕ) (words : List (List ℕ)) (k : ℕ)
    → attributes_of_words names (name_marks naming column words) k ≡ words_set names words k
marks_set naming names column [] k = refl
marks_set naming names column (word ∷ words) k =
    ap (λ b. is_at (attribute_named names word) k || b)
    (marks_set naming names (column + 1 + length (spelling naming word)) words k)

-- ---- the side
side_is : (f : Format) (naming : Naming) (names : List (List ℕ)) (x : Attributes) (column : ℕ)
    (words : List (List ℕ)) → All (IsKnownName f naming names) words → x ≡ words_set names words
    → IsSide f names (side_marks naming column words) x
side_is f naming names x column [] known e =
    inl (record { mark = _; alone = refl; is_empty = refl; nothing = e })
side_is f naming names x column (word ∷ words) known e = inr (record {
  not_empty = omega arith;
  each = All-cons (IsAttribute f names) _ _
      (mark_names f naming names column word (All-head (IsKnownName f naming names) word words known))
      (marks_name f naming names _ words (All-tail (IsKnownName f naming names) word words known));
  members = e
      ∙ fun_ext (λ k. ap (λ b. is_at (attribute_named names word) k || b) (sym (marks_set naming names _ words k)));
})

-- what is printed of a set, is a side for the set
pub printed_side : (f : Format) (naming : Naming) (names : List (List ℕ)) (x : Attributes) (column : ℕ)
    → AreReadBack f naming names → IsSubset x (below (length names))
    → IsSide f names (side_marks naming column (members_from x 0 names)) x
printed_side f naming names x column are within =
    side_is f naming names x column (members_from x 0 names)
    (members_each (IsKnownName f naming names) x 0 names
    (each_known f naming names [] names 0 are.differ (record { whole = refl; size = refl }) are.each))
    (members_are x names are.differ within)

pub printed_names : (f : Format) (naming : Naming) (names : List (List ℕ)) (x : Attributes)
    → AreReadBack f naming names → All (IsReadBack f naming) (members_from x 0 names)
printed_names f naming names x are = members_each (IsReadBack f naming) x 0 names are.each
