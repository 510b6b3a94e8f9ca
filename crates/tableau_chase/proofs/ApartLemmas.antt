-- Sets on which no two rows of a tableau agree: by them a functional dependency changes nothing.
use Rattle.std.proofs.Common.{◌≡◌, ℕ, ◌<◌, Bool, false, List, [], ◌∷◌, length, slice_index, refl, sym, subst, ap, ◌∙◌, arith}
use Rattle.attr_sets.specs.Attributes.{Attributes, IsSubset}
use Rattle.dep_model.specs.Dependencies.{fd}
use Rattle.dep_model.proofs.ListLemmas.{Contains-head}
use Rattle.chase_laws.specs.Tableaux.{Tableau, symbol_at}
use Rattle.tableau_chase.specs.Groups.{AreSymbolLeaders, symbol_row_at}
use Rattle.tableau_chase.specs.Equating.{AreApart, AreGrouped, Changes}
use Rattle.tableau_chase.proofs.EquatingLemmas.{KeepsRows-refl}

pub apart_more : (x y : Attributes) (t : Tableau) → IsSubset x y → AreApart x t → AreApart y t
apart_more x y t inside apart i j i_in j_in agree = apart i j i_in j_in (λ k m. agree k (inside k m))

-- each row leads itself
pub apart_leaders : (x : Attributes) (t : Tableau) (leaders : List ℕ) → AreSymbolLeaders x t leaders
    → ((i : ℕ) → i < length leaders → slice_index leaders i ≡ i) → AreApart x t
apart_leaders x t leaders are themselves i j i_in j_in agree =
    let long = are.one_each in
    sym (themselves i (omega (arith, long, i_in))) ∙ are.same i j i_in j_in agree ∙ themselves j (omega (arith, long, j_in))

pub apart_grouped : (x y : Attributes) (t : Tableau) → AreApart x t → AreGrouped x y t t false
apart_grouped x y t apart = record {
  changes = λ ds given. refl;
  keeps = KeepsRows-refl t;
  obeyed = λ _ i j i_in j_in agree k m. ap (λ (row : ℕ). symbol_at (symbol_row_at t row) k) (apart i j i_in j_in agree);
}

-- without a change the rows are as they were
pub unchanged : (x y : Attributes) (t s : Tableau) (changed : Bool) → AreGrouped x y t s changed → changed ≡ false → s ≡ t
unchanged x y t s changed grouped none =
    subst (λ (b : Bool). Changes (fd x y ∷ []) b t s) none (grouped.changes (fd x y ∷ []) (Contains-head (fd x y) []))
