-- The kind of a subscription: what consumes its alerts.
use Rattle.std.specs.Prelude.{ℕ, Bool, true, false, List, codes, Option, Some, None, if◌then◌else◌}
use Rattle.std.specs.Str.{bytes_eq}
use Rattle.am_script.specs.declared.kind.Kind.{Kind}
use Rattle.am_script.specs.declared.kind.Kind.TheVariants.{Plain, Dispatch, Inhibit, Notify}

-- whether a dispatcher consumes the alerts
abbrev pub is_dispatch : Kind → Bool
is_dispatch Plain = false
is_dispatch Dispatch = true
is_dispatch Inhibit = false
is_dispatch Notify = true

-- whether an inhibitor consumes the alerts
abbrev pub is_inhibit : Kind → Bool
is_inhibit Plain = false
is_inhibit Dispatch = false
is_inhibit Inhibit = true
is_inhibit Notify = true

-- whether there is one, and a dispatcher consumes its alerts
abbrev pub is_some_dispatch : Option Kind → Bool
is_some_dispatch None = false
is_some_dispatch (Some kind) = is_dispatch kind

-- whether there is one, and an inhibitor consumes its alerts
abbrev pub is_some_inhibit : Option Kind → Bool
is_some_inhibit None = false
is_some_inhibit (Some kind) = is_inhibit kind

-- whether there is one, and a dispatcher and an inhibitor both consume its alerts
abbrev pub is_some_notify : Option Kind → Bool
is_some_notify (Some Notify) = true
is_some_notify other = false

-- the kind of a word
abbrev pub kind_named : List ℕ → Option Kind
kind_named word =
    if bytes_eq word (codes "plain") then Some Plain
    else (if bytes_eq word (codes "dispatch") then Some Dispatch
    else (if bytes_eq word (codes "inhibit") then Some Inhibit
    else (if bytes_eq word (codes "notify") then Some Notify
    else None)))
