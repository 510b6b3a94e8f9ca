-- What the loop of `is_numeral` keeps: `digits`, `value`, `within_limit` and `most`.
use Rattle.std.proofs.Common.{◌≡◌, ◌≤◌, ◌<◌, ◌^◌, true, take}
use Rattle.std.specs.List.{list_all}
use Rattle.std.specs.Char.{is_ascii_digit}
use Rattle.std.specs.Str.Parse.{digits_value}
use Rattle.schema_model.proofs.integer.is_numeral.Given as goal

abbrev pub invariant-loop-b : goal.invariant-loop-b
invariant-loop-b l = record {
  digits : list_all is_ascii_digit (take l.b-index l.digits) ≡ true;
  value : l.value ≡ digits_value 10 (take l.b-index l.digits);
  within_limit : l.value ≤ l.most;
  most : l.most < 2 ^ 64;
}
