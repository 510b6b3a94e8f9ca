-- What the loop of `number_of` keeps: `fits` and `text`.
use Rattle.std.proofs.Common.{◌≡◌, ◌^◌, ◌<◌, take}
use Rattle.column_values.specs.Digits.{in_digits}
use Rattle.column_values.proofs.digits.number_of.Given as goal

abbrev pub invariant-loop-b : goal.invariant-loop-b
invariant-loop-b l = record {
  fits : l.number < 10 ^ l.b-index;
  text : take l.b-index l.digits ≡ in_digits l.b-index l.number;
}
