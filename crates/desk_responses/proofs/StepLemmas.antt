-- The steps of a command.
use Rattle.std.proofs.Common.{inr, Ok, Err, Result}
use Rattle.desk_responses.specs.declared.response.Response.{Response}
use Rattle.desk_responses.specs.declared.response.EarlyExit.{EarlyExit}
use Rattle.desk_responses.specs.ResponseValues.{Allowed, With, Unless}
use Rattle.desk_responses.specs.Responses.{RespondsAs}

-- what was found goes on
pub With-found : {T : Type 0} (stops : Allowed) (is : T → Type 0) (rest : T → Allowed) (x : T) (result : Result Response EarlyExit) → is x → RespondsAs (rest x) result → RespondsAs (With stops is rest) result
With-found stops is rest x (Ok response) there goes = inr (x, there, goes)
With-found stops is rest x (Err exit) there goes = λ response e. inr (x, there, goes response e)

-- a test that is passed goes on
pub Unless-passed : (stops : Allowed) (is : Type 0) (rest : Allowed) (result : Result Response EarlyExit) → is → RespondsAs rest result → RespondsAs (Unless stops is rest) result
Unless-passed stops is rest (Ok response) there goes = inr (there, goes)
Unless-passed stops is rest (Err exit) there goes = λ response e. inr (there, goes response e)
