-- What is left to prove of `quoted_front`: its clause `front`, by `FrontLemmas`.
use Rattle.std.proofs.Common.{refl}
use Rattle.table_words.proofs.FrontLemmas.{quoted_so}
use Rattle.table_words.proofs.parts.quoted_front.Goals as goal

pub returns-in_default-after_dot : goal.returns-in_default-after_dot
returns-in_default-after_dot c = record {
  front = quoted_so _ _ _ _ _ _ _ c.in-Some.ensures.end c.split_at.ensures.front c.split_at.ensures.back c.split_at-2.ensures.back
      (c.in-Some-name_between.ensures.name.0 refl) c.in-Some-name_between.ensures.value c.in_default-after_dot.ensures.rest;
}

pub returns : goal.returns
returns c = record {
  front = quoted_so _ _ _ _ _ _ _ c.in-Some.ensures.end c.split_at.ensures.front c.split_at.ensures.back c.split_at-2.ensures.back
      (c.in-Some-name_between.ensures.name.0 refl) c.in-Some-name_between.ensures.value c.in-Some-after_dot.ensures.rest;
}
