-- Totals bound their targets for all time.
use Rattle.fx_totals.specs.AllTime.{BoundsHoldForAllTime, BoundsSuffice}
use Rattle.fx_totals.specs.Laws.{TotalsBound}
use Rattle.fx_block.specs.Laws.{TotalsServeForAllTime}

pub totals_serve : TotalsBound → BoundsHoldForAllTime → BoundsSuffice → TotalsServeForAllTime
totals_serve law hold suffice net target q m u z perturbations lengths bounds rows fits den run within serve some k =
    law net target q m k u z perturbations bounds rows fits den run some
    (suffice net target q m k u z bounds rows within
    (hold net q u z perturbations lengths bounds rows den run within serve))
