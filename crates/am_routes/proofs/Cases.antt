-- Cases with the equation that each goes by.
use Rattle.std.proofs.Common.{◌≡◌, Bool, true, false, Option, Some, None, refl}

pub by_bool : {P : Type 0} (b : Bool) → (b ≡ true → P) → (b ≡ false → P) → P
by_bool true p q = p refl
by_bool false p q = q refl

pub by_option : {A P : Type 0} (o : Option A) → (o ≡ None → P) → ((x : A) → o ≡ Some x → P) → P
by_option None p q = p refl
by_option (Some x) p q = q x refl
