-- The ten calls by their numbers.
use Rattle.std.specs.Prelude.{◌∷◌, [], ℤ, pos, negsuc, get_or, Option, Some, None}
use Rattle.verdicts.specs.declared.Service.{Service}
use Rattle.verdicts.specs.declared.Service.TheVariants.{Create, Terminate, Passeren, Verhogen, DoIo, CpuTime, WaitClock, Support, Identity, Yield}

-- the ten calls −1 to −10 in order; any other a0 is none
abbrev pub call_code : ℤ → Option Service
call_code (pos n) = None
call_code (negsuc n) = get_or (Some Create ∷ Some Terminate ∷ Some Passeren ∷ Some Verhogen ∷ Some DoIo ∷ Some CpuTime ∷ Some WaitClock ∷ Some Support ∷ Some Identity ∷ Some Yield ∷ []) n None
