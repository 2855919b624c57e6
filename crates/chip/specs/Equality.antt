-- When two routers, and two flows as written down, are equal: in every field. Assumes nothing.
use Rattle.std.specs.Prelude.{Bool, nat_eq, ◌&&◌}
use Rattle.chip.specs.declared.parameters.Router.{Router}
use Rattle.chip.specs.declared.parameters.FlowParameters.{FlowParameters}

-- routers of the same column and row
abbrev pub router_eq : Router → Router → Bool
router_eq a b = nat_eq a.column b.column && nat_eq a.row b.row

-- flows with the same label, times and routers
abbrev pub flow_eq : FlowParameters → FlowParameters → Bool
flow_eq a b =
    nat_eq a.label b.label && nat_eq a.period b.period && nat_eq a.deadline b.deadline && nat_eq a.jitter b.jitter && nat_eq a.latency b.latency
    && router_eq a.source b.source && router_eq a.destination b.destination
