-- What is left to prove of `follows_from`: what it answers in the cases `Fd` and `Mvd`.
use Rattle.cover_accounts.proofs.checking.follows_from.Goals as goal

pub returns-in-Fd : goal.returns-in-Fd
returns-in-Fd c =
    let within = rw c.in-Fd.is at c.requires.within in
    rw c.in-Fd.is (record { implied = c.follows.ensures.implied.over c.args.width c.requires.deps within.0 within.1 })

pub returns-in-Mvd : goal.returns-in-Mvd
returns-in-Mvd c = rw c.in-Mvd.is (record { implied = rw c.in-Mvd.is at c.is_implied_by.ensures.implied })
