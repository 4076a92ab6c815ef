-- A day of a gateway with two processors, proved by computing.
-- Assumes nothing.
use Rattle.std.proofs.Common.{◌≡◌, Option, Some, None, ℕ, ◌-◌, ◌^◌, List, [], ◌∷◌, map, pos, refl}
use Rattle.rules.specs.declared.Mode.TheVariants.{User}
use Rattle.rules.specs.declared.Event.{Event}
use Rattle.rules.specs.declared.Event.TheVariants.{Call, Interrupt}
use Rattle.rules.specs.declared.Refusal.TheVariants.{Over, ClockBack, NoSuchProcessor}
use Rattle.rules.specs.Rules.{start, rule_book}
use Rattle.rules.proofs.Examples.{call}
use Rattle.sleeps.specs.declared.Refusal.{Refusal}
use Rattle.sleeps.specs.declared.Refusal.TheVariants.{NoSuchProc}
use Rattle.sleeps.specs.declared.Follows.{Follows}
use Rattle.sleeps.specs.declared.Follows.TheVariants.{Nothing, Sleeps, Ends, Wakes, Ended}
use Rattle.sleeps.specs.Rules.{Reply, nobody, insert, pass, ask, tick, end, step}
use Rattle.sleep_desk.specs.Rules.{Pair, heard, through, serve}
use Rattle.sleep_desk.specs.Told.{Happening, comes, ends, run, replies, answers}

-- an event at processor k, for whose caller the host names the U-proc u
on : ℕ → ℕ → Event → Happening
on k u e = comes u (record { processor = k; event = e })

-- "call 18"; line 2
sleep : ℕ → ℕ → Event
sleep now a1 = Call now User (pos 18) a1 0 0

clock_tick : ℕ → Event
clock_tick now = Interrupt now 2 0 0

says : Option Refusal → Follows → List ℕ → Reply
says r f ns = record { refusal = r; follows = f; woken = ns }

quiet : Reply
quiet = says None Nothing []

begun : Pair
begun = record { machine = start 8 2 0 [] (8 ∷ []); sleepers = nobody }

-- id 1 starts two with support handles, 2 and 3. The tick at processor 1 sets 2 to work there; its gap of a second is
-- not the sleepers'
morning : List Happening
morning =
    on 0 0 (call 10 1 0 0 5)
    ∷ on 0 0 (call 20 1 0 0 6)
    ∷ on 1 0 (clock_tick 1000000)
    -- U-proc 3 asks for a second: until 1,000,020, as 20 have passed at processor 0
    ∷ on 1 3 (sleep 1000010 1)
    -- a yield at processor 0: 1,000,019 have passed, and the tick is too early, whatever has passed at processor 1
    ∷ on 0 0 (call 1000019 10 0 0 0)
    ∷ on 1 0 (clock_tick 1000020)
    -- U-proc 5 asks for no time; the gap of its call is in the sum, and 3 is before it
    ∷ on 0 5 (sleep 1000020 0)
    ∷ on 1 0 (clock_tick 1000021)
    ∷ []

morning_heard : replies morning begun ≡ quiet ∷ quiet ∷ quiet ∷ says None Sleeps [] ∷ quiet ∷ quiet ∷ says None Sleeps [] ∷ says None Wakes (3 ∷ 5 ∷ []) ∷ []
unfolding rule_book replies serve heard through step pass ask tick end insert on sleep clock_tick says quiet begun morning
morning_heard = refl

-- the clock went back, and there is no such processor: no request, and no gap
evening : List Happening
evening =
    on 0 5 (sleep 5 0)
    ∷ on 2 5 (sleep 1000030 0)
    -- the host names nobody; a negative request
    ∷ on 0 0 (sleep 1000030 1)
    ∷ on 0 5 (sleep 1000040 (2 ^ 32 - 1))
    -- U-proc 4 sleeps, ends, and sleeps again; another call is no request
    ∷ on 1 4 (sleep 1000050 7)
    ∷ ends 4
    ∷ on 1 4 (sleep 1000060 0)
    ∷ on 0 5 (Call 1000050 User (pos 17) 0 0 0)
    -- id 1 has no support handle: it dies of call 18, and everyone with it. A tick that is refused wakes nobody
    ∷ on 0 0 (call 1000060 10 0 0 0)
    ∷ on 0 1 (sleep 1000070 0)
    ∷ on 1 0 (clock_tick 1000080)
    ∷ []

evening_heard : replies evening (run morning begun)
    ≡ quiet ∷ quiet ∷ says (Some NoSuchProc) Nothing [] ∷ says None Ends [] ∷ says None Sleeps [] ∷ says None Ended [] ∷ says None Sleeps [] ∷ quiet ∷ quiet ∷ quiet ∷ quiet ∷ []
unfolding rule_book run replies serve heard through step pass ask tick end insert on sleep clock_tick says quiet begun morning evening
evening_heard = refl

evening_refused : map (λ a. a.refusal) (answers evening (run morning begun)) ≡ Some ClockBack ∷ Some NoSuchProcessor ∷ None ∷ None ∷ None ∷ None ∷ None ∷ None ∷ None ∷ Some Over ∷ []
unfolding rule_book run answers serve heard through step pass ask tick end insert on sleep clock_tick begun morning evening
evening_refused = refl

night : (run evening (run morning begun)).sleepers ≡ record { sum = 1000070; asleep = record { wake = 1000040; number = 4 } ∷ [] }
unfolding rule_book run serve heard through step pass ask tick end insert on sleep clock_tick begun morning evening
night = refl
