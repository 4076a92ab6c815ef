-- `call` meets its contract.
use mathlib.Core.Path.{◌≡◌, sym, ap, ◌∙◌}
use mir.Facts.{to_z-of_z}
use Rattle.rules.specs.declared.Mode.{Mode}
use Rattle.rules.specs.declared.Mode.TheVariants.{Kernel}
use Rattle.rules.specs.Rules.{call, trap, create, terminate, passeren, verhogen, do_io, cpu_time, wait_clock, support, identity, yield}
use Rattle.rules.specs.Numbers.{base_slots}
use Rattle.verdicts.specs.declared.Service.{Service}
use Rattle.verdicts.specs.declared.Service.TheVariants.{Create, Terminate, Passeren, Verhogen, DoIo, CpuTime, WaitClock, Support, Identity, Yield}
use Rattle.verdicts.specs.Calls.{call_code}
use Rattle.tables.specs.Codes.{decode}
use Rattle.tables.specs.View.{row, view, Shape}
use Rattle.tables.specs.declared.Tables.{Tables}
use Rattle.tables.specs.declared.Settled.{Settled}
use Rattle.tables.specs.Promised.{Comes}
use Rattle.std.specs.Prelude.{ℕ, ℤ, ◌<◌, Option, Some}
use Rattle.calls.proofs.Numbered.{called, user_call, kernel_call}
use Rattle.calls.proofs.call.Goals as goal

-- the call is the service that it names; a signed number goes to a callee as its bits, and comes back the number
by_call : (t : Tables) → Shape t → t.running < base_slots → (mode : Mode) (a0 : ℤ) (a1 a2 a3 : ℕ) (o : Option Service) → mode ≡ Kernel → o ≡ call_code a0
    → (r : Settled) → Comes (called o (row t t.running) a1 a2 a3 (view t)) r → Comes (call mode a0 a1 a2 a3 (view t)) r
by_call t g h mode a0 a1 a2 a3 o is_kernel is_call r does = rw (is_kernel, kernel_call t g h a0 a1 a2 a3, ← is_call) does

named : {o : Option Service} {s k : Service} {x : Option Service} → o ≡ x → o ≡ Some s → s ≡ k → Some k ≡ x
named e f i = ap Some (sym i) ∙ sym f ∙ e

pub returns-in_default : goal.returns-in_default
returns-in_default c =
    rw (c.in_default.is, user_call c.args.t c.requires.0 c.requires.1 c.args.a0 c.args.a1 c.args.a2 c.args.a3) c.pass_up_or_die.ensures

pub returns-in_default-call_code : goal.returns-in_default-call_code
unfolding trap
returns-in_default-call_code c =
    by_call c.args.t c.requires.0 c.requires.1 c.args.mode c.args.a0 c.args.a1 c.args.a2 c.args.a3 _ c.in-Kernel.is
    (sym c.in_default-call_code.is ∙ c.call_code.ensures ∙ ap call_code (to_z-of_z c.ranges.a0)) _ c.pass_up_or_die-in_default-call_code.ensures

pub returns-in-Create : goal.returns-in-Create
unfolding create
returns-in-Create c =
    by_call c.args.t c.requires.0 c.requires.1 c.args.mode c.args.a0 c.args.a1 c.args.a2 c.args.a3 _ c.in-Kernel.is
    (named {k = Create} (c.call_code.ensures ∙ ap call_code (to_z-of_z c.ranges.a0)) c.in-Some.is c.in-Create.is) _ c.create.ensures

pub returns-in-Terminate : goal.returns-in-Terminate
unfolding terminate
returns-in-Terminate c =
    by_call c.args.t c.requires.0 c.requires.1 c.args.mode c.args.a0 c.args.a1 c.args.a2 c.args.a3 _ c.in-Kernel.is
    (named {k = Terminate} (c.call_code.ensures ∙ ap call_code (to_z-of_z c.ranges.a0)) c.in-Some.is c.in-Terminate.is) _ c.terminate.ensures

pub returns-in-Passeren : goal.returns-in-Passeren
unfolding passeren
returns-in-Passeren c =
    by_call c.args.t c.requires.0 c.requires.1 c.args.mode c.args.a0 c.args.a1 c.args.a2 c.args.a3 _ c.in-Kernel.is
    (named {k = Passeren} (c.call_code.ensures ∙ ap call_code (to_z-of_z c.ranges.a0)) c.in-Some.is c.in-Passeren.is) _ c.passeren.ensures

pub returns-in-Verhogen : goal.returns-in-Verhogen
unfolding verhogen
returns-in-Verhogen c =
    by_call c.args.t c.requires.0 c.requires.1 c.args.mode c.args.a0 c.args.a1 c.args.a2 c.args.a3 _ c.in-Kernel.is
    (named {k = Verhogen} (c.call_code.ensures ∙ ap call_code (to_z-of_z c.ranges.a0)) c.in-Some.is c.in-Verhogen.is) _ c.verhogen.ensures

pub returns-in-DoIo : goal.returns-in-DoIo
unfolding do_io
returns-in-DoIo c =
    by_call c.args.t c.requires.0 c.requires.1 c.args.mode c.args.a0 c.args.a1 c.args.a2 c.args.a3 _ c.in-Kernel.is
    (named {k = DoIo} (c.call_code.ensures ∙ ap call_code (to_z-of_z c.ranges.a0)) c.in-Some.is c.in-DoIo.is) _ c.do_io.ensures

pub returns-in-CpuTime : goal.returns-in-CpuTime
unfolding cpu_time
returns-in-CpuTime c =
    by_call c.args.t c.requires.0 c.requires.1 c.args.mode c.args.a0 c.args.a1 c.args.a2 c.args.a3 _ c.in-Kernel.is
    (named {k = CpuTime} (c.call_code.ensures ∙ ap call_code (to_z-of_z c.ranges.a0)) c.in-Some.is c.in-CpuTime.is) _ c.cpu_time.ensures

pub returns-in-WaitClock : goal.returns-in-WaitClock
unfolding wait_clock decode
returns-in-WaitClock c =
    by_call c.args.t c.requires.0 c.requires.1 c.args.mode c.args.a0 c.args.a1 c.args.a2 c.args.a3 _ c.in-Kernel.is
    (named {k = WaitClock} (c.call_code.ensures ∙ ap call_code (to_z-of_z c.ranges.a0)) c.in-Some.is c.in-WaitClock.is) _ (rw c.bare.ensures at c.block.ensures)

pub returns-in-Support : goal.returns-in-Support
unfolding support
returns-in-Support c =
    by_call c.args.t c.requires.0 c.requires.1 c.args.mode c.args.a0 c.args.a1 c.args.a2 c.args.a3 _ c.in-Kernel.is
    (named {k = Support} (c.call_code.ensures ∙ ap call_code (to_z-of_z c.ranges.a0)) c.in-Some.is c.in-Support.is) _ c.support.ensures

pub returns-in-Identity : goal.returns-in-Identity
unfolding identity
returns-in-Identity c =
    by_call c.args.t c.requires.0 c.requires.1 c.args.mode c.args.a0 c.args.a1 c.args.a2 c.args.a3 _ c.in-Kernel.is
    (named {k = Identity} (c.call_code.ensures ∙ ap call_code (to_z-of_z c.ranges.a0)) c.in-Some.is c.in-Identity.is) _ c.identity.ensures

pub returns-in-Yield : goal.returns-in-Yield
unfolding yield
returns-in-Yield c =
    by_call c.args.t c.requires.0 c.requires.1 c.args.mode c.args.a0 c.args.a1 c.args.a2 c.args.a3 _ c.in-Kernel.is
    (named {k = Yield} (c.call_code.ensures ∙ ap call_code (to_z-of_z c.ranges.a0)) c.in-Some.is c.in-Yield.is) _ (rw c.bare-in-Yield.ensures at c.back.ensures)
