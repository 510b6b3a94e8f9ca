-- What a call answers in place of a value: a refusal, or that memory ran out. For the contracts of each
-- call that refuses.
use Rattle.dep_model.specs.declared.failure.Failure.{Failure}
use Rattle.dep_model.specs.declared.failure.Failure.TheVariants.{Refused, OutOfMemory}

-- a refusal says this of its cause; that memory ran out may always come, and says nothing
abbrev pub RefusesAs : {R : Type 0} → (R → Type 0) → Failure R → Type 0
RefusesAs why (Refused refusal) = why refusal
RefusesAs why OutOfMemory = Unit {0}
