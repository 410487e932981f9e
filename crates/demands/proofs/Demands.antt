-- The three demands hold.
use Rattle.damage.proofs.Damage.{demand_3}
use Rattle.demands.specs.Demands.{Demands}
use Rattle.demands.proofs.Found.{demand_2}
use Rattle.demands.proofs.Refused.{demand_1}

pub demands : Demands
demands = record { first = demand_1; second = demand_2; third = demand_3 }
