-- Some days of sleepers, proved by computing.
use Rattle.std.specs.Prelude.{◌≡◌, refl, Option, Some, None, List, [], ◌∷◌, ℕ, ◌^◌, ◌-◌}
use Rattle.rules.specs.Numbers.{time_limit}
use Rattle.sleeps.specs.declared.Refusal.{Refusal}
use Rattle.sleeps.specs.declared.Refusal.TheVariants.{TimeFull, NoSuchProc, AsleepAlready}
use Rattle.sleeps.specs.declared.Operation.TheVariants.{Gap, Ask, Tick, End}
use Rattle.sleeps.specs.declared.Follows.{Follows}
use Rattle.sleeps.specs.declared.Follows.TheVariants.{Nothing, Sleeps, Ends, Wakes, Ended}
use Rattle.sleeps.specs.Rules.{Reply, nobody, insert, pass, ask, tick, end, step, replies}

abbrev says : Option Refusal → Follows → List ℕ → Reply
says r f ns = record { refusal = r; follows = f; woken = ns }

abbrev fine : Reply
fine = says None Nothing []

-- −1 and the least number, as words of 32 bits
abbrev minus_one : ℕ
minus_one = 2 ^ 32 - 1

-- three ask for two seconds, one and one more; the two of one second are woken in order of asking, at the first
-- tick that is late enough and not before
a_day : replies (
    Ask 1 2 ∷ Ask 3 1 ∷ Ask 2 1 ∷ Gap 999999 ∷ Tick ∷ Gap 1 ∷ Tick ∷ Tick ∷ Gap 1000000 ∷ Tick ∷ []
    ) nobody
    ≡ says None Sleeps [] ∷ says None Sleeps [] ∷ says None Sleeps [] ∷ fine ∷ fine ∷ fine ∷ says None Wakes (3 ∷ 2 ∷ []) ∷ fine ∷ fine ∷ says None Wakes (1 ∷ []) ∷ []
unfolding replies step pass ask tick end insert
a_day = refl

-- "0 wakes at the next tick"; soonest first; an ended one is not woken, and may ask again
another : replies (Gap 5 ∷ Ask 8 7 ∷ Ask 1 0 ∷ Ask 4 3 ∷ End 4 ∷ End 4 ∷ Ask 4 0 ∷ Gap 7000000 ∷ Tick ∷ []) nobody
    ≡ fine ∷ says None Sleeps [] ∷ says None Sleeps [] ∷ says None Sleeps [] ∷ says None Ended [] ∷ fine ∷ says None Sleeps [] ∷ fine ∷ says None Wakes (1 ∷ 4 ∷ 8 ∷ []) ∷ []
unfolding replies step pass ask tick end insert
another = refl

-- refusals, in their order; "negative ends the U-proc"
refusals : replies (Ask 0 1 ∷ Ask 9 minus_one ∷ End 9 ∷ Ask 5 minus_one ∷ Ask 5 1 ∷ Ask 5 0 ∷ Ask 5 minus_one ∷ Ask 5 (2 ^ 31) ∷ []) nobody
    ≡ says (Some NoSuchProc) Nothing []
    ∷ says (Some NoSuchProc) Nothing []
    ∷ says (Some NoSuchProc) Nothing []
    ∷ says None Ends []
    ∷ says None Sleeps []
    ∷ says (Some AsleepAlready) Nothing []
    ∷ says (Some AsleepAlready) Nothing []
    ∷ says (Some AsleepAlready) Nothing []
    ∷ []
unfolding replies step pass ask tick end insert
refusals = refl

-- the longest sleep at the greatest sum, and a gap beyond it
the_last : replies (Gap time_limit ∷ Ask 1 (2 ^ 31 - 1) ∷ Ask 2 0 ∷ Gap 1 ∷ Tick ∷ []) nobody
    ≡ fine ∷ says None Sleeps [] ∷ says None Sleeps [] ∷ says (Some TimeFull) Nothing [] ∷ says None Wakes (2 ∷ []) ∷ []
unfolding replies step pass ask tick end insert
the_last = refl
