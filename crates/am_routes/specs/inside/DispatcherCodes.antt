-- How a dispatcher is stored in models: as the pair of its fields. Only code of this crate cites it.
use Rattle.std.specs.Prelude.{List, refl}
use Rattle.std.specs.Coded.{Coded, code_by, coded×, coded_list}
use Rattle.am_config.specs.Routes.{Forest}
use Rattle.am_routes.specs.Groups.{DispatcherView, GroupView, coded_group}

-- the pair of its tree and its groups
abbrev pub coded_dispatcher : Coded Forest → Coded DispatcherView
coded_dispatcher forest =
    code_by (Forest × List GroupView) (coded× forest (coded_list coded_group))
    (λ d. (d.tree, d.groups)) (λ p. record { tree = p.0; groups = p.1 }) (λ _. refl)
