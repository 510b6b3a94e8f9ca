-- Sets that are read lie within the universe.
use Rattle.std.proofs.Common.{◌≡◌, ◌<◌, ℕ, true, List, [], ◌∷◌, length, Option, Some, None, Ok, Err, Result, refl, sym, ◌∙◌, ap, ⊎_elim, inl, inr, lt-ltb}
use Rattle.std.specs.List.{list_any}
use Rattle.std.specs.Result.{IfOk}
use Rattle.std.proofs.lemmas.Bool.{eqb-true, false≢true, or_cases}
use Rattle.std.proofs.lemmas.List.Quantifiers.{position-Some}
use Rattle.attr_sets.specs.Attributes.{Attributes, IsSubset, below, none, union}
use Rattle.dep_model.specs.Dependencies.{Dependency, IsWithin}
use Rattle.schema_model.specs.Names.{same_name}
use Rattle.schema_model.specs.Schemas.{attribute_named}
use Rattle.lexer.specs.declared.token.LexError.{LexError}
use Rattle.lexer.specs.Tokens.{Mark}
use Rattle.schema_grammar.specs.declared.format.Format.{Format}
use Rattle.schema_grammar.specs.declared.symbol.Sign.{Sign}
use Rattle.schema_grammar.specs.declared.symbol.Sign.TheVariants as sign
use Rattle.schema_grammar.specs.Grammar.{Reached, start, left, left_empty, after_sign, right, right_empty, dependency_of_sign}
use Rattle.schema_grammar.specs.Meanings.{is_at, attributes_of_words, IsSide}
use Rattle.schema_grammar.specs.Reading.{follow, follow_rest}
use Rattle.schema_grammar.specs.Rests.{rest_from}
use Rattle.schema_grammar.proofs.GoalLaws.{Rest, marks_make, no_stop}
use Rattle.schema_grammar.proofs.RefusalLemmas.{when_ok, ok_at}

attribute_named-within : (names : List (List ℕ)) (word : List ℕ) (k : ℕ) → is_at (attribute_named names word) k ≡ true
    → k < length names
attribute_named-within names word k here = by_cases (attribute_named names word) refl here
  where
    by_cases : (o : Option ℕ) → attribute_named names word ≡ o → is_at o k ≡ true → k < length names
    by_cases None lookup at = absurd (false≢true at)
    by_cases (Some a) lookup at =
        rw (eqb-true k a at) (position-Some (λ name. same_name name word) names a [] lookup).0

pub named_within : (names : List (List ℕ)) (words : List Mark) → IsSubset (attributes_of_words names words) (below (length names))
named_within names [] k member = absurd (false≢true member)
named_within names (m ∷ ms) k member =
    ⊎_elim
    (λ here. lt-ltb k (length names) (attribute_named-within names m.word k here))
    (λ later. named_within names ms k later)
    (or_cases (is_at (attribute_named names m.word) k) (list_any (λ w. is_at (attribute_named names w.word) k) ms) member)

pub side_within : (f : Format) (names : List (List ℕ)) (ms : List Mark) (x : Attributes) → IsSide f names ms x
    → IsSubset x (below (length names))
side_within f names ms x (inl empty) = rw empty.nothing (λ k e. cc)
side_within f names ms x (inr words) = rw words.members (named_within names ms)

pub union_within : (u x y : Attributes) → IsSubset x u → IsSubset y u → IsSubset (union x y) u
union_within u x y xs ys k member = ⊎_elim (xs k) (ys k) (or_cases (x k) (y k) member)

pub stated_within : (u : Attributes) (s : Sign) (x y : Attributes) → IsSubset x u → IsSubset y u → IsWithin u (dependency_of_sign s x y)
stated_within u sign.Functional x y h g = (h, g)
stated_within u sign.Multivalued x y h g = (h, g)

-- the sets that are read lie within a set
abbrev pub IsReadingWithin : Attributes → Reached → Type 0
IsReadingWithin u start = Unit {0}
IsReadingWithin u (left x) = IsSubset x u
IsReadingWithin u left_empty = Unit {0}
IsReadingWithin u (after_sign s x) = IsSubset x u
IsReadingWithin u (right s x y) = IsSubset x u × IsSubset y u
IsReadingWithin u (right_empty s x) = IsSubset x u

-- the dependency that tokens make lies within the declared names
pub rest_within : (f : Format) (names : List (List ℕ)) (reading : Reached) (ms : List Mark) (d : Dependency)
    → IsReadingWithin (below (length names)) reading → Rest f names reading ms d
    → IsWithin (below (length names)) d
rest_within f names start ms d h is =
    rw is.states (stated_within _ is.sign is.x is.y (side_within f names is.lhs is.x is.left_side)
    (side_within f names is.rhs is.y is.right_side))
rest_within f names (left x) ms d h is =
    rw is.states (stated_within _ is.sign _ is.y (union_within _ x _ h (named_within names is.words))
    (side_within f names is.rhs is.y is.right_side))
rest_within f names left_empty ms d h is =
    rw is.states (stated_within _ is.sign none is.y (λ k e. cc)
    (side_within f names is.rhs is.y is.right_side))
rest_within f names (after_sign s x) ms d h is =
    rw is.states (stated_within _ s x is.y h (side_within f names ms is.y is.right_side))
rest_within f names (right s x y) ms d h is =
    rw is.states (stated_within _ s x _ h.0 (union_within _ y _ h.1 (named_within names ms)))
rest_within f names (right_empty s x) ms d h is = rw is.states (stated_within _ s x none h (λ k e. cc))

-- so does the dependency that a line states
pub follow_within : (f : Format) (declared : List (List ℕ)) (line : ℕ) (reading : Reached) (column : ℕ) (ms : List Mark) (stop : Option LexError)
    → IsReadingWithin (below (length declared)) reading → IfOk (follow f declared line reading column ms stop) (IsWithin (below (length declared)))
follow_within f declared line reading column ms stop h = when_ok _ _ (λ d e.
    let whole = no_stop f declared line reading column (record { marks = ms; stop = stop }) d e in
    rest_within f declared reading ms d h
    (marks_make f declared line column reading ms d
    (ap (λ l. follow_rest f declared reading (rest_from line column l)) (sym whole) ∙ e)))

-- what a call read lies within what the reading allows
pub within_read : {X Y E F : Type 0} (P : Y → Type 0) (g : X → Y) (r : Result X E) (reading : Result Y F) → IfOk r (λ x. reading ≡ Ok (g x)) → IfOk reading P
    → IfOk r (λ x. P (g x))
within_read P g (Ok x) reading same inside = ok_at P reading (g x) same inside
within_read P g (Err e) reading same inside = tt
