-- What holds of a result's value.
use Rattle.std.proofs.Common.{◌≡◌, false, Result, Ok, Err, IfOk, OnErr, OnOk}
use Rattle.std.specs.Result.{is_err}

pub if_ok_map : {T E : Type 0} {P Q : T → Type 0} (r : Result T E) → IfOk r P → ((x : T) → P x → Q x) → IfOk r Q
if_ok_map (Ok x) holds f = f x holds
if_ok_map (Err e) holds f = tt

-- the same from two things that hold of it
pub if_ok_both : {T E : Type 0} {P Q R : T → Type 0} (r : Result T E) → IfOk r P → IfOk r Q → ((x : T) → P x → Q x → R x) → IfOk r R
if_ok_both (Ok x) one other f = f x one other
if_ok_both (Err e) one other f = tt

-- what holds at all holds of an error
pub on_err : {T E R : Type 0} (r : Result T E) → R → OnErr r R
on_err (Ok x) holds = tt
on_err (Err e) holds = holds

pub on_err_map : {T E R S : Type 0} (r : Result T E) → OnErr r R → (R → S) → OnErr r S
on_err_map (Ok x) holds f = tt
on_err_map (Err e) holds f = f holds

pub on_ok_of : {T E P : Type 0} (r : Result T E) → is_err r ≡ false → OnOk r P → P
on_ok_of (Ok x) good holds = holds
on_ok_of (Err e) bad holds = absurd (cc)
