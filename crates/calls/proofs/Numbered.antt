-- The ten calls by their codes: the service that each names.
-- Assumes nothing.
use Rattle.std.specs.Prelude.{Option, Some, None}
use mathlib.Core.Path.{◌≡◌, refl}
use Prim.Native.Nat.{ℕ, zero, suc, ◌<◌}
use lib.IntN.{ℤ, pos, negsuc}
use Rattle.rules.specs.declared.Mode.TheVariants.{User, Kernel}
use Rattle.rules.specs.declared.Cause.TheVariants.{General}
use Rattle.rules.specs.Numbers.{base_slots}
use Rattle.rules.specs.Rules.{Service, service, services, trap, trapped, pass_up_or_die, call, create, terminate, passeren, verhogen, do_io, cpu_time, wait_clock, support, identity, yield}
use Rattle.tables.specs.declared.Tables.{Tables}
use Rattle.verdicts.specs.declared.Service.{Service as Named}
use Rattle.verdicts.specs.declared.Service.TheVariants.{Create, Terminate, Passeren, Verhogen, DoIo, CpuTime, WaitClock, Support, Identity, Yield}
use Rattle.verdicts.specs.Calls.{call_code}
use Rattle.tables.specs.View.{row, view, Shape}
use Rattle.tables.proofs.Seats.{runs_one}

-- ---- what a call names: its service, or the program trap
abbrev pub called : Option Named → Service
called None = trapped
called (Some Create) = create
called (Some Terminate) = terminate
called (Some Passeren) = passeren
called (Some Verhogen) = verhogen
called (Some DoIo) = do_io
called (Some CpuTime) = cpu_time
called (Some WaitClock) = wait_clock
called (Some Support) = support
called (Some Identity) = identity
called (Some Yield) = yield

-- each a0 names the service of its call
service_code : (a0 : ℤ) → service Kernel a0 ≡ called (call_code a0)
unfolding service services
service_code (pos n) = refl
service_code (negsuc zero) = refl
service_code (negsuc (suc zero)) = refl
service_code (negsuc (suc (suc zero))) = refl
service_code (negsuc (suc (suc (suc zero)))) = refl
service_code (negsuc (suc (suc (suc (suc zero))))) = refl
service_code (negsuc (suc (suc (suc (suc (suc zero)))))) = refl
service_code (negsuc (suc (suc (suc (suc (suc (suc zero))))))) = refl
service_code (negsuc (suc (suc (suc (suc (suc (suc (suc zero)))))))) = refl
service_code (negsuc (suc (suc (suc (suc (suc (suc (suc (suc zero))))))))) = refl
service_code (negsuc (suc (suc (suc (suc (suc (suc (suc (suc (suc zero)))))))))) = refl
service_code (negsuc (suc (suc (suc (suc (suc (suc (suc (suc (suc (suc n))))))))))) = refl

-- ---- a call of whoever runs
module _ (m : Tables) (g : Shape m) (h : m.running < base_slots) (a0 : ℤ) (a1 a2 a3 : ℕ) where
  -- "any negative call in user mode" is a program trap; the others are passed up like one
  pub user_call : call User a0 a1 a2 a3 (view m) ≡ pass_up_or_die General (row m m.running) (view m)
  unfolding call service trap
  user_call = rw (runs_one m g h)

  pub kernel_call : call Kernel a0 a1 a2 a3 (view m) ≡ called (call_code a0) (row m m.running) a1 a2 a3 (view m)
  unfolding call
  kernel_call = rw (runs_one m g h, service_code a0)
