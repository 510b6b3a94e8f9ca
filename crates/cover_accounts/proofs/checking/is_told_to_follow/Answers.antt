-- What is left to prove of `is_told_to_follow`: what `follows_from` requires of the others.
use Rattle.cover_accounts.proofs.checking.is_told_to_follow.Goals as goal

pub follows_from-requires-clause-deps : goal.follows_from-requires-clause-deps
follows_from-requires-clause-deps c = rw (c.deref.ensures.value, c.width.ensures.count) c.in_ok-dep.ensures.others_within
