-- What is left to prove of `shorter`: that the lines that are chosen are tried.
use Rattle.std.proofs.Common.{arith}
use Rattle.std.proofs.lemmas.List.{length-map}
use Rattle.short_derivations.specs.Views.{line_of}
use Rattle.short_derivations.proofs.functional.shorter.Goals as goal

pub returns-then-is_shorter : goal.returns-then-is_shorter
returns-then-is_shorter c = record {
  tried = λ most before. record {
    given = c.requires.written.given;
    concludes = rw c.deref-2.ensures.value at (c.is_shorter.ensures.concludes c.if-is_shorter.true);
    used = rw c.deref-2.ensures.value at (c.is_shorter.ensures.used c.if-is_shorter.true);
    once = c.requires.written.once;
    few = omega (arith, rw c.deref-2.ensures.value at (c.is_shorter.ensures.few c.if-is_shorter.true), length-map c.args.other.items line_of);
    from = rw c.deref-2.ensures.value at (c.is_shorter.ensures.from c.if-is_shorter.true);
    fits = omega (arith, before.fits, rw (c.deref.ensures.value, c.deref-2.ensures.value) at (c.is_shorter.ensures.fewer c.if-is_shorter.true), length-map c.args.other.items line_of, length-map c.args.lines.items line_of);
  };
}
