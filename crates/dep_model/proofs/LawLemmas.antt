-- What relations of no tuple and of one tuple obey.
use Rattle.std.proofs.Common.{◌≡◌, ℕ, ◌<◌, zero, suc, [], ◌∷◌, sym, ap, ◌∙◌, arith}
use Rattle.std.specs.Prelude.{Contains, slice_index_or}
use Rattle.attr_sets.specs.Attributes.{Attributes, below}
use Rattle.dep_model.specs.Tuples.{Tuple, value_at}
use Rattle.dep_model.specs.Dependencies.{Dependency, fd, mvd, Obeys, ObeysFd}
use Rattle.dep_model.proofs.ListLemmas.{Contains-nil}
use Rattle.dep_model.proofs.RuleLemmas.{replication_obeyed}

pub no_tuple_obeys : (n : ℕ) (d : Dependency) → Obeys n d []
no_tuple_obeys n (fd x y) = λ t u t_in u_in agree. absurd (Contains-nil t t_in)
no_tuple_obeys n (mvd x y) = λ t u t_in u_in agree. absurd (Contains-nil t t_in)

Contains-one_at : (t u : Tuple) (k : ℕ) → k < 1 → slice_index_or (t ∷ []) k u ≡ u → u ≡ t
Contains-one_at t u zero l e = sym e
Contains-one_at t u (suc k) l e = absurd (omega arith)

Contains-one : (t u : Tuple) → Contains (t ∷ []) u → u ≡ t
Contains-one t u h = Contains-one_at t u h.0 h.1 h.2

one_tuple_fd : (x y : Attributes) (t : Tuple) → ObeysFd x y (t ∷ [])
one_tuple_fd x y t u v u_in v_in agree k m = ap (λ (s : Tuple). value_at s k) (Contains-one t u u_in ∙ sym (Contains-one t v v_in))

pub one_tuple_obeys : (n : ℕ) (d : Dependency) (t : Tuple) → Obeys n d (t ∷ [])
one_tuple_obeys n (fd x y) t = one_tuple_fd x y t
one_tuple_obeys n (mvd x y) t = replication_obeyed (below n) x y (t ∷ []) (one_tuple_fd x y t)
