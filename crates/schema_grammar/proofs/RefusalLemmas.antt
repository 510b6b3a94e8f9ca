-- How a clause on what is read or refused carries over from a part to the whole.
use Rattle.std.proofs.Common.{◌≡◌, ◌∙◌, Result, Ok, Err, refl, subst}
use Rattle.std.specs.Result.{IfOk, IfErr, OnOk}
use Rattle.dep_model.specs.declared.failure.Failure.{Failure}
use Rattle.dep_model.specs.declared.failure.Failure.TheVariants.{Refused}
use Rattle.dep_model.proofs.FailureLemmas.{refuses_also}
use Rattle.schema_grammar.specs.declared.refusal.SchemaRefusal.{SchemaRefusal}
use Rattle.schema_grammar.specs.Refusals.{Refuses}
use Rattle.schema_grammar.specs.Rests.{◌>>=◌}

-- the refusal of a part is that of the whole
pub Refuses-whole : {X Y : Type 0} (e : Failure SchemaRefusal) (part : Result X SchemaRefusal) (whole : Result Y SchemaRefusal)
    → ((refusal : SchemaRefusal) → part ≡ Err refusal → whole ≡ Err refusal) → Refuses e part → Refuses e whole
Refuses-whole e part whole f h = refuses_also (λ refusal. part ≡ Err refusal) (λ refusal. whole ≡ Err refusal) e f h

pub Refuses-here : {X : Type 0} (e : SchemaRefusal) (reading : Result X SchemaRefusal) (e' : SchemaRefusal)
    → e ≡ e' → reading ≡ Err e' → Refuses (Refused e) reading
Refuses-here e reading e' same h = cc

-- what a call gave of the reading of a part, it gave of the whole
pub ok_whole : {X Y : Type 0} {E : Type 0} (g : X → Y) (r : Result X E) (part whole : Result Y SchemaRefusal) → whole ≡ part
    → IfOk r (λ x. part ≡ Ok (g x)) → IfOk r (λ x. whole ≡ Ok (g x))
ok_whole g (Ok x) part whole e h = e ∙ h
ok_whole g (Err why) part whole e h = tt

pub err_whole : {X Y : Type 0} (r : Result X SchemaRefusal) (part whole : Result Y SchemaRefusal) → whole ≡ part
    → IfErr r (λ e. part ≡ Err e) → IfErr r (λ e. whole ≡ Err e)
err_whole (Ok x) part whole e h = tt
err_whole (Err why) part whole e h = e ∙ h

pub refuses_whole : {X Y : Type 0} (r : Result X (Failure SchemaRefusal)) (part whole : Result Y SchemaRefusal) → whole ≡ part
    → IfErr r (λ e. Refuses e part) → IfErr r (λ e. Refuses e whole)
refuses_whole (Ok x) part whole e h = tt
refuses_whole (Err why) part whole e h = Refuses-whole why part whole (λ refusal same. e ∙ same) h

pub ok_at : {X E : Type 0} (P : X → Type 0) (r : Result X E) (x : X) → r ≡ Ok x → IfOk r P → P x
ok_at {X} {E} P r x e h = let at : Result X E → Type 0 = λ s. IfOk s P in subst at e h

-- what holds of each value that comes, holds where one comes
pub when_ok : {X E : Type 0} (P : X → Type 0) (r : Result X E) → ((x : X) → r ≡ Ok x → P x) → IfOk r P
when_ok P (Ok x) f = f x refl
when_ok P (Err e) f = tt

-- a value after two steps comes from one after the first
pub record Steps {X Y E : Type 0} (r : Result X E) (next : X → Result Y E) (y : Y) : Type 0 where
  pub x : X
  pub first : r ≡ Ok x
  pub second : next x ≡ Ok y

pub and_then-ok : {X Y E : Type 0} (r : Result X E) (next : X → Result Y E) (y : Y) → (r >>= next) ≡ Ok y
    → Steps r next y
and_then-ok (Ok x) next y e = record { x = x; first = refl; second = e }
and_then-ok (Err why) next y e = cc

pub on_ok_whole : {X Y E : Type 0} (r : Result X E) (y : Y) (part whole : Result Y SchemaRefusal) → whole ≡ part
    → OnOk r (part ≡ Ok y) → OnOk r (whole ≡ Ok y)
on_ok_whole (Ok x) y part whole e h = e ∙ h
on_ok_whole (Err why) y part whole e h = tt

pub ok_map : {X E : Type 0} (P Q : X → Type 0) (r : Result X E) → ((x : X) → P x → Q x) → IfOk r P → IfOk r Q
ok_map P Q (Ok x) f h = f x h
ok_map P Q (Err e) f h = tt

pub err_map : {X E : Type 0} (P Q : E → Type 0) (r : Result X E) → ((e : E) → P e → Q e) → IfErr r P → IfErr r Q
err_map P Q (Ok x) f h = tt
err_map P Q (Err e) f h = f e h
