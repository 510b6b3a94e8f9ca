-- Tuples by their values.
use Rattle.std.proofs.Common.{◌≡◌, ◌<◌, ℕ, length, [], sym, ◌∙◌, arith}
use Rattle.std.specs.Prelude.{Contains}
use Rattle.dep_model.specs.Tuples.{Tuple, Relation, IsOver, value_at}
use Rattle.std.proofs.lemmas.List.{ext_get_or}
use Rattle.std.proofs.lemmas.List.Elements.{All-contains}

pub same_tuple-Contains : (n : ℕ) (t u : Tuple) → length t ≡ n → length u ≡ n → ((k : ℕ) → k < n → value_at t k ≡ value_at u k) → t ≡ u
same_tuple-Contains n t u lt lu same = ext_get_or [] t u (lt ∙ sym lu) (λ (k : ℕ) l. same k (omega (arith, l, lt)))

pub IsOver-length : (n : ℕ) (r : Relation) (t : Tuple) → IsOver n r → Contains r t → length t ≡ n
IsOver-length n r t over t_in = All-contains (λ (u : Tuple). length u ≡ n) r t over t_in
