-- Where a rule gives a conclusion, its conditions hold.
use Rattle.std.proofs.Common.{◌≡◌, true, false, refl}
use Rattle.std.specs.Prelude.{Bool, cond, Option, None, Some, ok_or, Result, Ok, Err}

pub some_of_ok : {A E : Type 0} (o : Option A) (e : E) (x : A) → ok_or o e ≡ Ok x → o ≡ Some x
some_of_ok None e x h = cc
some_of_ok (Some y) e x h = cc

pub the_ok : {A E : Type 0} (x y : A) → ◌≡◌ {A = Result A E} (Ok x) (Ok y) → x ≡ y
the_ok x y h = cc

-- a conclusion under a condition
pub cond-ok : {A E : Type 0} (b : Bool) (e : E) (x y : A) → cond b (Ok x) (Err e) ≡ Ok y → (b ≡ true) × (x ≡ y)
cond-ok true e x y h = (refl, cc)
cond-ok false e x y h = cc

-- and under two
pub cond-ok_two : {A E : Type 0} (a b : Bool) (e f : E) (x y : A) → cond a (cond b (Ok x) (Err e)) (Err f) ≡ Ok y → (a ≡ true) × (b ≡ true) × (x ≡ y)
cond-ok_two true b e f x y h = let inner = cond-ok b e x y h in (refl, inner.0, inner.1)
cond-ok_two false b e f x y h = cc
