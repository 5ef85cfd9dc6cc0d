-- What a walk's answer stands for says which case of the code's option it is: a promise about it leaves no choice. Assumes nothing.
use mathlib.Core.Path.{◌≡◌, refl, sym, ap}
use mathlib.Core.Option.{none-ne-some, some-injective}
use Rattle.std.specs.Prelude.{Option as Known, Some, None}
use Rattle.message.specs.declared.Key.{Key}
use Rattle.lookup.specs.Next.{key_found}

-- one key or none, one case
pub same_next : (a b : Known Key) → key_found a ≡ key_found b → a ≡ b
same_next (Some j) (Some k) e = ap Some (some-injective j k e)
same_next (Some j) None e = absurd (none-ne-some j (sym e))
same_next None (Some k) e = absurd (none-ne-some k e)
same_next None None e = refl
