-- What is left to prove of `determines`: its clause `obeys`, by `led_obeys`.
use Rattle.std.proofs.Common.{arith, ◌≡◌, length, refl}
use Rattle.fd_discovery.proofs.LeaderLemmas.{led_obeys}
use Rattle.fd_discovery.proofs.leaders.determines.Goals as goal

pub returns : goal.returns
returns c = record {
  obeys = λ r x k led groups.
      let all : length r ≡ c.loop-row.row = omega
      (arith, c.loop-row-test.false, c.loop-row.auto.row-end, led.one_each) in (
        (λ _. led_obeys r x c.args.leaders.now led k c.args.codes.now groups
            (λ i l. c.loop-row.invariant.equal i (omega (arith, l, all)))),
        (λ _. refl),
      );
}
