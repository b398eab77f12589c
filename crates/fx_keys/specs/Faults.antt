-- Faults of filter files.
use Rattle.std.specs.Prelude.{Bool, true, false, Result}
use Rattle.std.specs.Result.{result_map_both}
use Rattle.fx_keys.specs.declared.fault.FilterFault.{FilterFault}
use Rattle.fx_keys.specs.declared.fault.FilterFault.TheVariants.{NoMemory}

-- memory was refused
abbrev pub is_memory : FilterFault → Bool
is_memory NoMemory = true
is_memory _ = false

-- an answer, its value seen through a view
abbrev pub seen : {X Y : Type 0} → (X → Y) → Result X FilterFault → Result Y FilterFault
seen view answer = result_map_both view (λ fault. fault) answer
