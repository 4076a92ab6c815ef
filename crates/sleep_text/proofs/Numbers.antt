-- What `ok_or` and a `?` tell of a word that is to be a number.
-- Assumes nothing.
use mathlib.Core.Path.{◌≡◌, refl}
use Rattle.std.specs.declared.option.Option.{Option}
use Rattle.std.specs.declared.option.Option.TheVariants.{Some, None}
use Rattle.std.specs.declared.result.Result.TheVariants.{Ok, Err}
use Rattle.std.specs.Option.{ok_or}

pub none_told : {A E : Type 0} (o : Option A) (e b : E) → Err b ≡ ok_or o e → (o ≡ None) × (b ≡ e)
none_told None e b p = (refl, cc)
none_told (Some x) e b p = absurd cc

pub some_told : {A E : Type 0} (o : Option A) (e : E) (x : A) → Ok x ≡ ok_or o e → o ≡ Some x
some_told None e x p = absurd cc
some_told (Some y) e x p = cc
