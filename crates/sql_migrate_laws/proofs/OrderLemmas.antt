-- The order of the view has the tables of the design, each as often.
use Rattle.std.proofs.Common.{◌≡◌, ℕ, zero, suc, not, List, [], ◌∷◌, length, sym, arith}
use Rattle.std.proofs.lemmas.List.Sorted.{IsPermutation-refl, IsPermutation-trans, IsPermutation-cons, IsPermutation-reverse, length_permutation}
use Rattle.std.specs.List.Sorted.{IsPermutation}
use Rattle.std.specs.Prelude.{reverse}
use Rattle.attr_sets.specs.Attributes.{Attributes, none, union}
use Rattle.attr_sets.specs.Sets.{attributes, is_disjoint}
use Rattle.dep_model.specs.JoinOrders.{put_first, of_first, joined_next}
use Rattle.optional_tables.proofs.OrderLemmas.{put_moved}
use Rattle.sql_migrate.specs.declared.joining.JoinedTable.{JoinedTable}
use Rattle.sql_migrate.specs.Script.{scheme_of_joined, view_order}

next_moved : (n : ℕ) (seen : Attributes) (left : List JoinedTable) → n ≡ length left → IsPermutation left (joined_next scheme_of_joined n seen left)
next_moved zero seen [] e = IsPermutation-refl []
next_moved zero seen (x ∷ xs) e = absurd (omega (arith, e))
next_moved (suc n) seen left e =
    first_of (put_first (λ table. not (is_disjoint seen (attributes table.scheme))) [] left)
    (put_moved (λ (table : JoinedTable). not (is_disjoint seen (attributes table.scheme))) [] left) (next_moved n)
  where
    first_of : (found : List JoinedTable) → IsPermutation left found
        → ((with : Attributes) (rest : List JoinedTable) → n ≡ length rest → IsPermutation rest (joined_next scheme_of_joined n with rest))
        → IsPermutation left (of_first (λ table rest. table ∷ joined_next scheme_of_joined n (union seen (attributes table.scheme)) rest) found)
    first_of [] moved later = moved
    first_of (t ∷ rest) moved later =
        let with = union seen (attributes t.scheme) in
        let long : suc (length rest) ≡ length left = length_permutation left (t ∷ rest) moved in
        IsPermutation-trans left (t ∷ rest) (t ∷ joined_next scheme_of_joined n with rest) moved
        (IsPermutation-cons t rest (joined_next scheme_of_joined n with rest) (later with rest (omega (arith, e, long))))

pub order_moved : (tables : List JoinedTable) → IsPermutation tables (view_order tables)
order_moved tables =
    let back = IsPermutation-reverse tables in
    let long : length (reverse tables) ≡ length tables = length_permutation tables (reverse tables) back in
    IsPermutation-trans tables (reverse tables) (view_order tables) back
    (next_moved (length tables) none (reverse tables) (sym long))
