-- What the answers of a file source say of a file that is loaded: for `load`.
use Rattle.std.proofs.Common.{arith, ◌≡◌, ℕ, ◌+◌, ◌≤◌, Result, Ok, Err, IsErrAnd, ap}
use Rattle.desk_outside.specs.declared.failure.LoadRefusal.{LoadRefusal}
use Rattle.desk_outside.specs.declared.failure.LoadRefusal.TheVariants.{CannotRead, TooLong}
use Rattle.desk_outside.specs.Causes.{count_on}

pub no_error : {T E : Type 0} (v : T) (e : E) → ◌≡◌ {A = Result T E} (Ok v) (Err e) → ⊥
no_error v e is = cc

pub that_error : {T E : Type 0} (r : Result T E) (e : E) → IsErrAnd r (λ x. x ≡ e) → r ≡ Err e
that_error (Ok v) e is = absurd is
that_error (Err x) e is = ap Err is

-- a file that cannot be read is not too long
pub other_error : {T : Type 0} (r : Result T LoadRefusal) → r ≡ Err CannotRead → r ≡ Err TooLong → ⊥
other_error r is e = cc

-- after an error no byte more was taken
pub not_over : (new old size limit : ℕ) → new ≡ old → old ≡ size → size ≤ limit → new ≡ limit + 1 → ⊥
not_over new old size limit same is within over = omega arith

-- and none at the end of the file
pub none_over : (new old size limit count : ℕ) → new ≡ count_on old count → count ≡ 0 → old ≡ size → size ≤ limit → new ≡ limit + 1 → ⊥
none_over new old size limit count counted none is within over = omega arith
