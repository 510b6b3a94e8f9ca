-- A functionally closed tableau obeys each functional dependency, and one that obeys each is
-- functionally closed.
use Rattle.std.proofs.Common.{List, sym, inl, inr, arith}
use Rattle.std.proofs.lemmas.Bool.{cases_order}
use Rattle.std.specs.Prelude.{Contains}
use Rattle.attr_sets.specs.Attributes.{Attributes}
use Rattle.dep_model.specs.Dependencies.{Dependency, fd}
use Rattle.chase_laws.specs.Tableaux.{SymbolRow, Tableau, SameTableau, symbol_at, SymbolsAgree}
use Rattle.chase_laws.specs.Steps.{replace_symbol, HasNoFunctionalStep}
use Rattle.chase_laws.proofs.TableauLemmas.{Same-refl}

-- ---- a functionally closed tableau obeys each functional dependency
pub functionally_closed_agrees : (ds : List Dependency) (t : Tableau) (x y : Attributes) (p q : SymbolRow) → HasNoFunctionalStep ds t → Contains ds (fd x y) → Contains t p → Contains t q → SymbolsAgree x p q → SymbolsAgree y p q
functionally_closed_agrees ds t x y p q functionally_closed given p_in q_in agree k m = elim (cases_order (symbol_at p k) (symbol_at q k)) [
  | inl same ↦ same
  | inr differ ↦ elim differ [
    | inl less ↦ absurd (functionally_closed (replace_symbol k (symbol_at q k) (symbol_at p k) t) (record {
      lhs = x;
      rhs = y;
      given = given;
      step = record { first = p; second = q; first_in = p_in; second_in = q_in; agree = agree; attribute = k; member = m; differ = less; after = Same-refl (replace_symbol k (symbol_at q k) (symbol_at p k) t) };
    }))
    | inr more ↦ absurd (functionally_closed (replace_symbol k (symbol_at p k) (symbol_at q k) t) (record {
      lhs = x;
      rhs = y;
      given = given;
      step = record { first = q; second = p; first_in = q_in; second_in = p_in; agree = λ j l. sym (agree j l); attribute = k; member = m; differ = more; after = Same-refl (replace_symbol k (symbol_at p k) (symbol_at q k) t) };
    }))
  ]
]

-- and one that obeys each is functionally closed
pub functionally_closed_from : (ds : List Dependency) (t : Tableau) → ((x y : Attributes) (p q : SymbolRow) → Contains ds (fd x y) → Contains t p → Contains t q → SymbolsAgree x p q → SymbolsAgree y p q) → HasNoFunctionalStep ds t
functionally_closed_from ds t obeys s step =
    let same = obeys step.lhs step.rhs step.step.first step.step.second step.given step.step.first_in step.step.second_in step.step.agree step.step.attribute step.step.member in
    absurd (omega (arith, same, step.step.differ))

-- equal tableaux are functionally closed alike
pub functionally_closed-same : (ds : List Dependency) (t s : Tableau) → SameTableau t s → HasNoFunctionalStep ds t → HasNoFunctionalStep ds s
functionally_closed-same ds t s same functionally_closed = functionally_closed_from ds s (λ x y p q given p_in q_in agree. functionally_closed_agrees ds t x y p q functionally_closed given ((same p).1 p_in) ((same q).1 q_in) agree)
