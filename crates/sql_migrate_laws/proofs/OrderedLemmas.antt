-- What holds of each table of a design holds of each in the order of the view.
use Rattle.std.proofs.Common.{◌≡◌, ℕ, zero, suc, Bool, true, false, not, List, [], ◌∷◌, ◌++◌, length, sym, subst, ⊎_elim, arith}
use Rattle.std.proofs.lemmas.List.{reverse-append}
use Rattle.std.specs.Prelude.{if◌then◌else◌, reverse, Contains}
use Rattle.attr_sets.specs.Attributes.{Attributes, none, union}
use Rattle.attr_sets.specs.Sets.{attributes, is_disjoint}
use Rattle.dep_model.specs.JoinOrders.{put_first, of_first, joined_next}
use Rattle.dep_model.proofs.ListLemmas.{Contains-cases}
use Rattle.sql_migrate.specs.declared.joining.JoinedTable.{JoinedTable}
use Rattle.sql_migrate.specs.Script.{scheme_of_joined, view_order}

-- ---- each member of a list
abbrev pub Each : {X : Type 0} → (X → Type 0) → List X → Type 0
Each P [] = Unit {0}
Each P (x ∷ xs) = P x × Each P xs

pub each_member : {X : Type 0} (P : X → Type 0) (xs : List X) (x : X) → Each P xs → Contains xs x → P x
each_member P [] x all h = absurd (omega (arith, h.1))
each_member P (y ∷ xs) x all h = ⊎_elim
    (λ (same : x ≡ y). subst P (sym same) all.0)
    (λ later. each_member P xs x all.1 later)
    (Contains-cases y xs x h)

pub each_after : {X : Type 0} (P : X → Type 0) (xs ys : List X) → Each P xs → Each P ys → Each P (xs ++ ys)
each_after P [] ys first second = second
each_after P (x ∷ xs) ys first second = (first.0, each_after P xs ys first.1 second)

-- ---- the order
-- whatever holds of each of those that are left
each_put : (P : JoinedTable → Type 0) (test : JoinedTable → Bool) (passed xs : List JoinedTable) → Each P passed → Each P xs
    → Each P (put_first test passed xs)
each_put P test passed [] before left = before
each_put P test passed (x ∷ xs) before left =
    by_test (test x) (each_put P test (passed ++ x ∷ []) xs (each_after P passed (x ∷ []) before (left.0, tt)) left.1)
  where
    by_test : (b : Bool) → Each P (put_first test (passed ++ x ∷ []) xs)
        → Each P (if b then x ∷ (passed ++ xs) else put_first test (passed ++ x ∷ []) xs)
    by_test true later = (left.0, each_after P passed xs before left.1)
    by_test false later = later

pub each_next : (P : JoinedTable → Type 0) (n : ℕ) (seen : Attributes) (left : List JoinedTable) → Each P left → Each P (joined_next scheme_of_joined n seen left)
each_next P zero seen left all = tt
each_next P (suc n) seen left all =
    first_of (put_first (λ t. not (is_disjoint seen (attributes t.scheme))) [] left)
    (each_put P (λ t. not (is_disjoint seen (attributes t.scheme))) [] left tt all) (each_next P n)
  where
    first_of : (found : List JoinedTable) → Each P found
        → ((with : Attributes) (rest : List JoinedTable) → Each P rest → Each P (joined_next scheme_of_joined n with rest))
        → Each P (of_first (λ table rest. table ∷ joined_next scheme_of_joined n (union seen (attributes table.scheme)) rest) found)
    first_of [] every later = tt
    first_of (table ∷ rest) every later = (every.0, later (union seen (attributes table.scheme)) rest every.1)

each_reversed : {X : Type 0} (P : X → Type 0) (xs : List X) → Each P xs → Each P (reverse xs)
each_reversed P [] all = tt
each_reversed {X} P (x ∷ xs) all =
    subst (Each P) (sym (reverse-append (x ∷ []) xs)) (each_after P (reverse xs) (x ∷ []) (each_reversed P xs all.1) (all.0, tt))

pub each_ordered : (P : JoinedTable → Type 0) (tables : List JoinedTable) → Each P tables → Each P (view_order tables)
each_ordered P tables all = each_next P (length tables) none (reverse tables) (each_reversed P tables all)
