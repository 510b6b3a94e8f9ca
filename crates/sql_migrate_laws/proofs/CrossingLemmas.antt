-- In the order of the view a table shares nothing with those before it only where none that is left does.
use Rattle.std.proofs.Common.{◌≡◌, ℕ, ◌⊎◌, zero, suc, Bool, true, false, not, List, [], ◌∷◌, ◌++◌, length, refl, sym, ap, ◌∙◌, inl, inr, ⊎_elim}
use Rattle.std.proofs.lemmas.Bool.{true≢false}
use Rattle.std.specs.Prelude.{if◌then◌else◌, reverse}
use Rattle.attr_sets.specs.Attributes.{Attributes, none, union}
use Rattle.attr_sets.specs.Sets.{attributes, is_disjoint}
use Rattle.dep_model.specs.JoinOrders.{put_first, of_first, joined_next}
use Rattle.sql_migrate.specs.declared.joining.JoinedTable.{JoinedTable}
use Rattle.sql_migrate.specs.Script.{scheme_of_joined, view_order}
use Rattle.sql_migrate_laws.specs.Crossing.{PartsAreCrossed}
use Rattle.sql_migrate_laws.proofs.OrderedLemmas.{Each, each_member, each_after, each_next}

-- ---- the first that passes
abbrev FirstPasses : {X : Type 0} → (X → Bool) → List X → Type 0
FirstPasses test [] = ⊥
FirstPasses test (x ∷ xs) = test x ≡ true

abbrev Fails : {X : Type 0} → (X → Bool) → X → Type 0
Fails test x = test x ≡ false

put_or_none : {X : Type 0} (test : X → Bool) (passed xs : List X) → Each (Fails test) passed
    → FirstPasses test (put_first test passed xs) ⊎ Each (Fails test) (put_first test passed xs)
put_or_none test passed [] before = inr before
put_or_none {X} test passed (x ∷ xs) before =
    by_test (test x) refl (λ fails. put_or_none test (passed ++ x ∷ []) xs (each_after (Fails test) passed (x ∷ []) before (fails, tt)))
  where
    by_test : (b : Bool) → test x ≡ b
        → (test x ≡ false → FirstPasses test (put_first test (passed ++ x ∷ []) xs) ⊎ Each (Fails test) (put_first test (passed ++ x ∷ []) xs))
        → FirstPasses test (if b then x ∷ (passed ++ xs) else put_first test (passed ++ x ∷ []) xs)
        ⊎ Each (Fails test) (if b then x ∷ (passed ++ xs) else put_first test (passed ++ x ∷ []) xs)
    by_test true is later = inl is
    by_test false is later = later is

-- ---- the order
abbrev shares : Attributes → JoinedTable → Bool
shares seen t = not (is_disjoint seen (attributes t.scheme))

not_false : (b : Bool) → not b ≡ false → b ≡ true
not_false true h = refl
not_false false h = absurd (true≢false h)

next_crosses : (n : ℕ) (seen : Attributes) (left : List JoinedTable) → PartsAreCrossed seen (joined_next scheme_of_joined n seen left)
next_crosses zero seen left = tt
next_crosses (suc n) seen left =
    first_of (put_first (shares seen) [] left) (put_or_none (shares seen) [] left tt) (next_crosses n)
  where
    first_of : (found : List JoinedTable) → FirstPasses (shares seen) found ⊎ Each (Fails (shares seen)) found
        → ((with : Attributes) (rest : List JoinedTable) → PartsAreCrossed with (joined_next scheme_of_joined n with rest))
        → PartsAreCrossed seen (of_first (λ table rest. table ∷ joined_next scheme_of_joined n (union seen (attributes table.scheme)) rest) found)
    first_of [] which later = tt
    first_of (table ∷ rest) which later = (
      λ fails other h. ⊎_elim
          (λ (passes : shares seen table ≡ true). absurd (true≢false (sym passes ∙ ap not fails)))
          (λ all. not_false (is_disjoint seen (attributes other.scheme))
          (each_member (Fails (shares seen)) (table ∷ joined_next scheme_of_joined n (union seen (attributes table.scheme)) rest) other
          (all.0, each_next (Fails (shares seen)) n (union seen (attributes table.scheme)) rest all.1) h))
          which,
      later (union seen (attributes table.scheme)) rest,
    )

pub order_crosses : (tables : List JoinedTable) → PartsAreCrossed none (view_order tables)
order_crosses tables = next_crosses (length tables) none (reverse tables)
